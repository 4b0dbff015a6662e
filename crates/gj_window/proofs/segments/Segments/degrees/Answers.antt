use Rattle.std.proofs.Common.{◌≡◌, ◌<◌, ◌≤◌, ◌+◌, length, arith}
use Rattle.gj_base.specs.Kinds.{all_kinds}
use Rattle.gj_window.proofs.FieldLemmas.{below_names, full_count, fresh_count}
use Rattle.gj_window.proofs.segments.Segments.degrees.Goals as goal

pub degrees-full-requires : goal.degrees-full-requires
degrees-full-requires c = below_names c.self.inside c.args.self.now c.args.side c.args.v c.self.view_is c.requires.vertex

pub count_pooled-requires : goal.count_pooled-requires
count_pooled-requires c =
    fresh_count c.self.inside c.args.self.now c.args.side c.args.v c.args.id all_kinds _ c.self.view_is c.requires.named c.self.invariant.tied c.degrees-full.ensures.fresh

pub returns-clause-full : goal.returns-clause-full
returns-clause-full c =
    full_count c.self.inside c.args.self.now c.args.side c.args.v c.args.id c.args.mask _ c.self.view_is c.requires.named c.degrees-full.ensures.full

pub returns-clause-in_range : goal.returns-clause-in_range
returns-clause-in_range c = omega (arith, c.degrees-full.ensures.in_range, c.count_pooled.ensures.few)
