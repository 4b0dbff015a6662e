use Rattle.std.proofs.Common.{◌≡◌, ◌∙◌, ◌++◌, ℕ, length, arith, sym, ap, slice_get, Some}
use Rattle.gj_base.specs.Draw.{pick_of}
use Rattle.gj_base.specs.Ends.{ends}
use Rattle.gj_base.specs.declared.kind.Kind.{Kind}
use Rattle.gj_base.proofs.DrawLemmas.{end_picked_none, end_picked_some}
use Rattle.gj_base.proofs.BackLemmas.{ends_back}
use Rattle.gj_directory.proofs.ShowLemmas.{told_in}
use Rattle.gj_window.specs.Segments.{items_of}
use Rattle.gj_window.proofs.PartLemmas.{parts_count}
use Rattle.gj_window.proofs.segments.Segments.pick_at.Goals as goal

pub returns-then-degree-eq0-clause-exact : goal.returns-then-degree-eq0-clause-exact
returns-then-degree-eq0-clause-exact c =
    let w = c.args.self.now in
    let all = parts_count w.full (w.older ++ w.newest) c.args.side c.args.id c.args.mask _ _ c.degrees-full.ensures.full c.degrees-full.ensures.pooled in
    sym (end_picked_none _ _ (sym all ∙ (sym c.from-degree.ensures ∙ c.if-degree-eq0.true)))

pub end_near-end-requires-clause-index : goal.end_near-end-requires-clause-index
end_near-end-requires-clause-index c =
    let w = c.args.self.now in
    let all = parts_count w.full (w.older ++ w.newest) c.args.side c.args.id c.args.mask _ _ c.degrees-full.ensures.full c.degrees-full.ensures.pooled in
    omega (arith, all, c.from-degree.ensures, c.pick-i.ensures.in_range)

pub returns-clause-exact : goal.returns-clause-exact
returns-clause-exact c =
    let w = c.args.self.now in
    let all = parts_count w.full (w.older ++ w.newest) c.args.side c.args.id c.args.mask _ _ c.degrees-full.ensures.full c.degrees-full.ensures.pooled in
    let degree : c.from-degree.result ≡ length (ends (items_of w) c.args.side c.args.id c.args.mask) = c.from-degree.ensures ∙ all in
    let at = c.pick-i.ensures.exact ∙ ap (λ (n : ℕ). pick_of c.args.word n) degree in
    let e = told_in (ends (items_of w) c.args.side c.args.id c.args.mask) c.pick-i.result (λ (end : ℕ × Kind). c.end_near-end.result.0 ≡ end.0)
    (omega (arith, degree, c.pick-i.ensures.in_range)) c.end_near-end.ensures in
    ap Some e.2
    ∙ sym (end_picked_some _ _ e.0 (λ none. c.if-degree-eq0.false (degree ∙ none)) (ap (λ (n : ℕ). slice_get (ends (items_of w) c.args.side c.args.id c.args.mask) n) (sym at) ∙ e.1))

pub returns-clause-back : goal.returns-clause-back
returns-clause-back c =
    let w = c.args.self.now in
    let all = parts_count w.full (w.older ++ w.newest) c.args.side c.args.id c.args.mask _ _ c.degrees-full.ensures.full c.degrees-full.ensures.pooled in
    let e = told_in (ends (items_of w) c.args.side c.args.id c.args.mask) c.pick-i.result (λ (end : ℕ × Kind). c.end_near-end.result.0 ≡ end.0)
    (omega (arith, all, c.from-degree.ensures, c.pick-i.ensures.in_range)) c.end_near-end.ensures in
    rw e.2 (ends_back (items_of w) c.args.side c.args.id c.args.mask c.pick-i.result e.0 e.1)
