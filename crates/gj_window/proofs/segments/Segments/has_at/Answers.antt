use Rattle.std.proofs.Common.{◌∙◌, ◌++◌, sym}
use Rattle.gj_base.specs.Kinds.{all_kinds}
use Rattle.gj_window.proofs.FieldLemmas.{below_names, fresh_count}
use Rattle.gj_window.proofs.LeadsLemmas.{full_leads, leads_left, leads_right}
use Rattle.gj_window.proofs.segments.Segments.has_at.Goals as goal

pub has_end-requires : goal.has_end-requires
has_end-requires c = below_names c.self.inside c.args.self.now c.args.side c.args.v c.self.view_is c.requires.vertex

pub returns-then-has_end : goal.returns-then-has_end
returns-then-has_end c =
    let w = c.args.self.now in
    let full = full_leads c.self.inside w c.args.side c.args.v c.args.id c.args.mask c.args.other _ c.self.view_is c.requires.named c.has_end.ensures in
    sym (leads_left w.full (w.older ++ w.newest) c.args.side c.args.id c.args.mask c.args.other (sym full ∙ c.if-has_end.true))

pub degrees-full-requires : goal.degrees-full-requires
degrees-full-requires c = below_names c.self.inside c.args.self.now c.args.side c.args.v c.self.view_is c.requires.vertex

pub has_pooled-requires : goal.has_pooled-requires
has_pooled-requires c =
    fresh_count c.self.inside c.args.self.now c.args.side c.args.v c.args.id all_kinds _ c.self.view_is c.requires.named c.self.invariant.tied c.degrees-full.ensures.fresh

pub returns : goal.returns
returns c =
    let w = c.args.self.now in
    let full = full_leads c.self.inside w c.args.side c.args.v c.args.id c.args.mask c.args.other _ c.self.view_is c.requires.named c.has_end.ensures in
    c.has_pooled.ensures ∙ sym (leads_right w.full (w.older ++ w.newest) c.args.side c.args.id c.args.mask c.args.other (sym full ∙ c.if-has_end.false))
