use Rattle.std.proofs.Common.{◌<◌, ℕ, List, length, ap, sym, subst, ◌∙◌}
use Rattle.std.specs.Option.{IfSome}
use Rattle.gj_base.specs.Firsts.{place_of}
use Rattle.gj_base.specs.Numbered.{vertices_of}
use Rattle.gj_segment.specs.declared.half.Half.{Half}
use Rattle.gj_segment.specs.Segment.{Segment}
use Rattle.gj_segment.proofs.SegmentLemmas.{side_vertices}
use Rattle.gj_segment.proofs.view.PoolSegmentSegmentView.number_of.Goals as goal

pub returns-clause-exact : goal.returns-clause-exact
returns-clause-exact c =
    c.find.ensures.exact ∙ (ap (λ (h : Half). place_of h.ids.ids c.args.id) c.half_of.ensures
    ∙ (ap (λ (l : List ℕ). place_of l c.args.id) (sym (side_vertices c.self.inside c.args.side c.self.invariant))
    ∙ ap (λ (s : Segment). place_of (vertices_of s.items c.args.side) c.args.id) c.self.view_is))

pub returns-clause-in_range : goal.returns-clause-in_range
returns-clause-in_range c =
    let P : List ℕ → Type 0 = λ l. IfSome c.find.result (λ v. v < length l) in
    subst P (ap (λ (h : Half). h.ids.ids) c.half_of.ensures
    ∙ (sym (side_vertices c.self.inside c.args.side c.self.invariant)
    ∙ ap (λ (s : Segment). vertices_of s.items c.args.side) c.self.view_is)) c.find.ensures.in_range
