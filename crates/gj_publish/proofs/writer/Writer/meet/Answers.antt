use Rattle.std.proofs.Common.{◌≡◌, ◌≤◌, sym, ap, ◌∙◌, subst, arith}
use Rattle.gj_base.specs.declared.history.History.{History}
use Rattle.gj_base.specs.History.{Begins, length_of}
use Rattle.gj_publish.specs.Writers.{by_seat}
use Rattle.gj_publish.proofs.Histories.{begins_trans, begins_whole}
use Rattle.gj_publish.proofs.writer.Writer.meet.Goals as goal

pub returns-clause-ok : goal.returns-clause-ok
returns-clause-ok g c =
    let p : History = c.args.self.now.published in
    let h : History = c.look_behind.new.self.front in
    let shown : c.self.inside.shown ≡ p = ap (λ v. v.published) c.self.view_is in
    let told : Begins p h = subst (λ (q : History). Begins q h) shown c.in-Ok.ensures.told in
    let le : length_of h ≤ length_of p = omega (arith, ap length_of shown, c.length-shown.ensures.exact, c.seen-seen.ensures.exact) in
    let agree : c.posted-posted.result ≡ c.counted-counted.result = omega arith in
    let number : c.number.result ≡ c.args.seat.now.number = c.number.ensures.exact ∙ c.look_behind.ensures.others.0 in (
      sym (begins_whole p h told le),
      sym c.look_behind.ensures.others.1 ∙ (sym c.posted-posted.ensures ∙ (agree ∙ (c.counted-counted.ensures ∙ ap (λ n. by_seat n c.args.self.now.accepted) number))),
    )

pub returns-clause-began : goal.returns-clause-began
returns-clause-began g c =
    let f : History = c.args.seat.now.front in
    let p : History = c.args.self.now.published in
    let seen : Begins f p = subst (Begins f) (returns-clause-ok g c).0 c.in-Ok.ensures.ok in
    begins_trans f p c.args.self.now.accepted seen c.length.ensures.prefix
