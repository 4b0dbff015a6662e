use Rattle.std.proofs.Common.{◌≡◌, ℕ, sym, ap, ◌∙◌, subst, None}
use Rattle.gj_base.specs.declared.history.History.{History}
use Rattle.gj_base.specs.History.{length_of}
use Rattle.gj_keep.specs.Rows.{opened}
use Rattle.gj_publish.specs.Writers.{AreWithin, IsOwed, IsGrown, IsCounted}
use Rattle.gj_publish.proofs.Counting.{counted_none}
use Rattle.gj_publish.proofs.Growing.{owed_none, grown_none, within_none}
use Rattle.gj_publish.proofs.writer.Writer.new.Goals as goal

pub invariant_of-result : goal.invariant_of-result
invariant_of-result g c =
    let h : History = c.args.scribe.history in
    let o : History = opened c.args.rows.now.value.items in
    let now : h ≡ o = c.requires.opened.0 in
    let first : c.args.scribe.opening ≡ o = c.requires.opened.1 in
    let at : c.length.result ≡ length_of o = c.length.ensures.exact ∙ ap length_of now in
    let grown : IsGrown g.J.Opening.opening g.J.Opening.conf c.length.result 0 c.args.book o o =
    grown_none g.J.Opening.opening g.J.Opening.conf c.length.result c.args.book c.args.rows.now.value.items c.requires.keeps c.requires.conf at c.requires.opening in
    let owed : IsOwed c.front-shown.result h None = subst (λ (f : History). IsOwed f h None) (sym c.front-shown.ensures) (owed_none h) in
    let all : IsGrown g.J.Opening.opening g.J.Opening.conf c.length.result c.args.ledger.total c.args.book c.args.scribe.opening h =
    subst (λ (z : ℕ × (History × History)). IsGrown g.J.Opening.opening g.J.Opening.conf c.length.result z.0 c.args.book z.1.0 z.1.1) (λ i. (sym c.requires.ledger i, (sym first i, sym now i))) grown in
    let counted : IsCounted g.J.Opening.places c.args.counted h =
    subst (λ (f : History). IsCounted g.J.Opening.places c.args.counted f) (sym now) (rw c.requires.counted (counted_none g.J.Opening.places c.args.rows.now.value.items)) in
    let within : AreWithin c.args.once h = rw c.requires.once (within_none h) in
    (c.requires.quiet, c.requires.posts, c.requires.shown ∙ sym c.front-shown.ensures, owed, all, counted, within)
