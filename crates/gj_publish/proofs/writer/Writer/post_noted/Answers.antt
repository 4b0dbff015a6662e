use Rattle.std.proofs.Common.{◌≡◌, ◌≢◌, ◌⊎◌, ◌+◌, ◌<◌, ℕ, List, length, refl, sym, ap, ◌∙◌, subst, arith, IfErr}
use Rattle.gj_base.specs.declared.item.Receipt.{Receipt}
use Rattle.gj_base.specs.History.{Begins, entries_by, extend, length_of}
use Rattle.gj_once.specs.declared.verdict.LastBatch.{LastBatch}
use Rattle.gj_once.specs.Judging.{last_of}
use Rattle.gj_publish.specs.declared.refusal.NotedError.TheVariants.{Post}
use Rattle.gj_publish.specs.declared.refusal.PostError.TheVariants.{KeptUnseen, Apart}
use Rattle.gj_publish.specs.Answers.{IfMet}
use Rattle.gj_publish.specs.Seats.{SeatView}
use Rattle.gj_publish.specs.Writers.{by_seat}
use Rattle.gj_publish.proofs.writer.Writer.post_noted.Goals as goal

pub returns-in-Err-clause-kept_unseen : goal.returns-in-Err-clause-kept_unseen
returns-in-Err-clause-kept_unseen g c r e =
    let same : c.in-Err.why ≡ KeptUnseen r = cc e in
    let is = c.in-Err.ensures.kept_unseen r same in
    let number : c.judge.new.self.number ≡ c.args.seat.now.number = ap (λ v. v.number) c.judge.ensures in
    let posted : c.judge.new.self.posted ≡ c.args.seat.now.posted = ap (λ v. v.posted) c.judge.ensures in
    let items : c.asked.inside.items ≡ c.args.asked.items = ap (λ v. v.items) c.asked.view_is in
    let accepted : c.note.new.self.accepted ≡ c.post-answer.new.self.accepted = ap (λ v. v.accepted) c.note.ensures in
    let published : c.note.new.self.published ≡ c.post-answer.new.self.published = ap (λ v. v.published) c.note.ensures in (
      is.0,
      is.1 ∙ sym (ap length_of accepted),
      accepted ∙ (is.2 ∙ (λ i. extend c.args.self.now.accepted (entries_by (number i) (items i)))),
      published ∙ is.3,
      is.4 ∙ (λ i. posted i + length (items i)),
      is.5 ∙ (λ i. by_seat (number i) (sym accepted i)),
    )

pub returns-in-Err-clause-err : goal.returns-in-Err-clause-err
returns-in-Err-clause-err g c apart =
    let is = c.in-Err.ensures.err (λ r e. apart r (ap Post e)) in
    (ap (λ v. v.accepted) c.note.ensures ∙ is.0, is.1 ∙ ap (λ v. v.posted) c.judge.ensures)

pub returns-in-Err-clause-together : goal.returns-in-Err-clause-together
returns-in-Err-clause-together g c =
    let P : SeatView → Type 0 = λ s. IfMet c.in-Err.why (s.posted ≡ by_seat s.number c.args.self.now.accepted) in
    subst P c.judge.ensures c.in-Err.ensures.together

pub repeat-requires : goal.repeat-requires
repeat-requires g c =
    let producer : ℕ = c.asked.inside.producer in
    let its = (c.in-Repeat.ensures.repeat c.in-Repeat.receipt).0 refl in
    let noted : c.self.inside.once ≡ c.args.self.now.noted = ap (λ v. v.noted) c.self.view_is in
    let same : c.in-Repeat.receipt ≡ (last_of c.args.self.now.noted producer).receipt = its.1 ∙ ap (λ (lasts : List LastBatch). (last_of lasts producer).receipt) noted in
    record { within = omega (arith, ap (λ (r : Receipt). r.to) same, c.length.ensures.within producer) }

pub returns-in-Repeat-clause-apart : goal.returns-in-Repeat-clause-apart
returns-in-Repeat-clause-apart g c =
    let P : SeatView → Type 0 = λ s. IfErr c.repeat.result (λ why. (seen shown posted counted : ℕ) → why ≡ Post (Apart seen shown posted counted)
    → (c.repeat.new.self ≡ c.args.self.now) × (seen ≡ length_of c.repeat.new.seat.front) × (shown ≡ length_of c.args.self.now.published) × (posted ≡ s.posted) × (counted ≡ by_seat s.number c.args.self.now.accepted)
    × Begins c.args.self.now.published c.repeat.new.seat.front × ((shown < seen) ⊎ (posted ≢ counted))) in
    subst P c.judge.ensures c.repeat.ensures.apart
