use Rattle.std.proofs.Common.{◌<◌, ◌∙◌, Some, None, length, arith, ap, sym}
use Rattle.gj_directory.specs.declared.half.Half.{Half}
use Rattle.gj_directory.proofs.ShowLemmas.{own_half, own_ids, own_run, led_told}
use Rattle.gj_directory.proofs.directory.Directory.has_end.Goals as goal

pub has-requires : goal.has-requires
has-requires c =
    let below : c.args.v < length (own_half c.self.inside c.args.side).names.ids = omega (arith, c.requires, ap length (own_ids c.self.inside c.args.self.now c.args.side c.self.view_is)) in
    omega (arith, own_run c.self.inside c.args.side c.args.v c.self.invariant below, ap (λ (h : Half). length h.lane.runs) c.half_of-own.ensures)

pub returns-in-Some : goal.returns-in-Some
returns-in-Some c =
    c.has.ensures
    ∙ led_told c.self.inside c.args.self.now c.half_of-own.result.now c.half_of-far.result.now c.args.side c.args.v c.args.mask c.args.other (Some c.in-Some.place)
    c.self.invariant c.self.view_is c.half_of-own.ensures c.half_of-far.ensures c.requires (sym c.in-Some.is ∙ c.find.ensures.exact)

pub returns-in-None : goal.returns-in-None
returns-in-None c =
    led_told c.self.inside c.args.self.now c.half_of-own.result.now c.half_of-far.result.now c.args.side c.args.v c.args.mask c.args.other None
    c.self.invariant c.self.view_is c.half_of-own.ensures c.half_of-far.ensures c.requires (sym c.in-None.is ∙ c.find.ensures.exact)
