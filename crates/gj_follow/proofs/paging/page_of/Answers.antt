use Rattle.std.proofs.Common.{◌≡◌, ◌-◌, ◌≤◌, ℕ, length, min, drop, ap, sym, subst, ◌∙◌, arith, length-take, length-drop}
use Rattle.gj_base.specs.declared.history.Shown.{Shown}
use Rattle.gj_base.specs.History.{end_of}
use Rattle.gj_follow.specs.Follows.{IsOf}
use Rattle.gj_follow.specs.Pages.{Paged, page_from}
use Rattle.gj_follow.proofs.PageLemmas.{page_is_of}
use Rattle.gj_follow.proofs.paging.page_of.Goals as goal

pub invariant_of-result : goal.invariant_of-result
invariant_of-result g c =
    let shown : Shown = g.G.Graph.shown c.args.graph.now in
    let k : ℕ = c.args.from - shown.first in
    let count : length c.in_ok-items.items ≡ min 1000 (length (drop k shown.items)) = ap length c.in_ok-items.ensures.exact ∙ length-take 1000 (drop k shown.items) in
    let rest : length (drop k shown.items) ≡ length shown.items - k = length-drop k shown.items in
    record {
      few = omega arith;
      within = omega arith;
      bounded = omega arith;
    }

pub returns-clause-of_history : goal.returns-clause-of_history
returns-clause-of_history g c h stands =
    let shown : Shown = g.G.Graph.shown c.args.graph.now in
    let made : Paged = record { total = c.length-length.result; from = c.args.from; items = c.in_ok-items.items } in
    let page : made ≡ page_from shown c.args.from = λ i. record { total = c.length-length.ensures.exact i; from = c.args.from; items = c.in_ok-items.ensures.exact i } in
    let low : shown.first ≤ c.args.from = omega arith in
    let high : c.args.from ≤ end_of shown = omega arith in
    let of : IsOf h (page_from shown c.args.from) = page_is_of shown h c.args.from (g.met.G.Graph.is_window c.args.graph.now) stands low high in
    subst (λ (p : Paged). IsOf h p) (sym page) of
