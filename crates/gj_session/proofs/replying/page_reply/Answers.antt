use Rattle.std.proofs.Common.{◌<◌, ◌≤◌, inl, inr, ℕ, Err, refl, ap, sym, ◌∙◌, arith}
use Rattle.std.proofs.lemmas.Bool.{cases_lt}
use Rattle.gj_base.specs.declared.history.Shown.{Shown}
use Rattle.gj_base.specs.History.{end_of}
use Rattle.gj_follow.specs.Pages.{Paged}
use Rattle.gj_reply.specs.declared.reply.Reply.TheVariants.{Log, Gone, Ahead}
use Rattle.gj_session.proofs.AnswerLemmas.{log_gone, log_ahead, log_there}
use Rattle.gj_session.proofs.replying.page_reply.Goals as goal

-- what is not below is at least that
at_least : (a b : ℕ) → (a < b → ⊥) → b ≤ a
at_least a b never = elim (cases_lt a b) [
  | inl below ↦ absurd (never below)
  | inr low ↦ low
]

pub returns-in-Ok : goal.returns-in-Ok
returns-in-Ok g c =
    let shown : Shown = g.G.Graph.shown c.args.graph.now in
    let from : ℕ = c.args.from in
    let high : shown.first ≤ from = at_least from shown.first (λ below. (let wrong = (c.in-Ok.ensures.gone (end_of shown) shown.first).1 (below, refl, refl) in cc)) in
    let low : from ≤ end_of shown = at_least (end_of shown) from (λ over. (let wrong = (c.in-Ok.ensures.ahead (end_of shown)).1 (over, refl) in cc)) in
    ap (λ (page : Paged). Log page.total page.from page.items) (c.page.view_is ∙ c.in-Ok.ensures.ok) ∙ sym (log_there from shown high low)

pub returns-in-Err-Gone : goal.returns-in-Err-Gone
returns-in-Err-Gone g c =
    let lies = (c.in-Err-Gone.ensures.gone c.in-Err-Gone.length c.in-Err-Gone.base).0 (ap Err c.in-Err-Gone.field-0-is) in
    (λ i. Gone (lies.1 i) (lies.2 i)) ∙ sym (log_gone c.args.from (g.G.Graph.shown c.args.graph.now) lies.0)

pub returns-in-Err-Ahead : goal.returns-in-Err-Ahead
returns-in-Err-Ahead g c =
    let shown : Shown = g.G.Graph.shown c.args.graph.now in
    let lies = (c.in-Err-Ahead.ensures.ahead c.in-Err-Ahead.length).0 (ap Err c.in-Err-Ahead.field-0-is) in
    ap Ahead lies.1 ∙ sym (log_ahead c.args.from shown (let over = lies.0 in omega (arith, over)) lies.0)
