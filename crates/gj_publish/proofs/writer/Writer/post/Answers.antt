use Rattle.std.proofs.Common.{◌≡◌, ◌+◌, ℕ, length, List, IsTrue, refl, sym, ap, ◌∙◌, subst, arith, rules, Err}
use Rattle.gj_base.specs.Causes.{Rose}
use Rattle.gj_base.specs.declared.history.History.{History}
use Rattle.gj_base.specs.declared.item.Receipt.{Receipt}
use Rattle.gj_base.specs.declared.item.Item.{Item}
use Rattle.gj_base.specs.History.{Begins, extend, entries_by, length_of}
use Rattle.gj_publish.specs.Seats.{not_stored}
use Rattle.gj_publish.specs.Writers.{by_seat}
use Rattle.gj_publish.proofs.Histories.{begins_trans, begins_longer, begins_same}
use Rattle.gj_publish.proofs.Growing.{length_more, posted_is}
use Rattle.gj_publish.proofs.writer.Writer.post.Goals as goal

-- what is left where no memory is found before the batch is kept
pub returns-then-not-show_owed : goal.returns-then-not-show_owed
returns-then-not-show_owed g c =
    let shown : c.args.self.now.published ≡ c.meet.new.seat.front = sym c.in_ok-meet.ensures.ok.0 in
    record {
      ok = tt;
      receipt = tt;
      began = tt;
      posted = tt;
      kept_unseen = λ r e. absurd (cc);
      err = λ no. (c.show_owed.ensures.same.0, c.meet.ensures.others.1);
      full = λ n e. absurd (cc);
      room = λ over. absurd (omega (arith, over, c.length-from.ensures.exact, c.len-count.ensures));
      no_look = λ why e. absurd (cc);
      short = λ seen shown e. absurd (cc);
      apart = λ seen shown posted counted e. absurd (cc);
      count = c.show_owed.ensures.same.5;
      cause = λ e. absurd (cc);
      steady = λ is. (λ e. absurd (cc), c.show_owed.ensures.same.6 ∙ is);
      together = c.in_ok-meet.ensures.ok.1;
      told = begins_same _ _ shown;
      within = omega (arith, ap length_of shown);
      front = c.meet.ensures.front;
      numbers = c.in_ok-meet.ensures.numbers;
      others = (c.meet.ensures.others.0, c.show_owed.ensures.same.1, c.show_owed.ensures.same.3);
      published = begins_same _ _ (sym c.if-not-show_owed.ensures.shown);
      later = omega (arith, c.show_owed.ensures.same.5);
    }

pub returns-then-not-reserve : goal.returns-then-not-reserve
returns-then-not-reserve g c =
    let shown : c.args.self.now.published ≡ c.meet.new.seat.front = sym c.in_ok-meet.ensures.ok.0 in
    record {
      ok = tt;
      receipt = tt;
      began = tt;
      posted = tt;
      kept_unseen = λ r e. absurd (cc);
      err = λ no. (c.reserve.ensures.same.0 ∙ c.show_owed.ensures.same.0, c.meet.ensures.others.1);
      full = λ n e. absurd (cc);
      room = λ over. absurd (omega (arith, over, c.length-from.ensures.exact, c.len-count.ensures));
      no_look = λ why e. absurd (cc);
      short = λ seen shown e. absurd (cc);
      apart = λ seen shown posted counted e. absurd (cc);
      count = c.reserve.ensures.same.5 ∙ c.show_owed.ensures.same.5;
      cause = λ e. absurd (cc);
      steady = λ is. (λ e. absurd (cc), c.reserve.ensures.same.6 ∙ (c.show_owed.ensures.same.6 ∙ is));
      together = c.in_ok-meet.ensures.ok.1;
      told = begins_same _ _ shown;
      within = omega (arith, ap length_of shown);
      front = c.meet.ensures.front;
      numbers = c.in_ok-meet.ensures.numbers;
      others = (c.meet.ensures.others.0, c.reserve.ensures.same.2 ∙ c.show_owed.ensures.same.1, c.reserve.ensures.same.3 ∙ c.show_owed.ensures.same.3);
      published = subst (Begins c.args.self.now.published) (sym (c.reserve.ensures.same.1 ∙ c.if-not-show_owed.ensures.shown)) c.length-from.ensures.prefix;
      later = omega (arith, c.reserve.ensures.same.5, c.show_owed.ensures.same.5);
    }

pub returns-in-Err : goal.returns-in-Err
returns-in-Err g c =
    let seat : c.take_in.new.seat ≡ c.meet.new.seat = c.in-Err.ensures.err.1 in
    let seen : c.take_in.new.seat.front ≡ c.meet.new.seat.front = ap (λ v. v.front) seat in
    let shown : c.args.self.now.published ≡ c.take_in.new.seat.front = sym (seen ∙ c.in_ok-meet.ensures.ok.0) in
    let same : c.reserve.new.self.faults ≡ c.args.self.now.faults = c.reserve.ensures.same.5 ∙ c.show_owed.ensures.same.5 in
    let steady : IsTrue c.args.self.now.steady → IsTrue c.reserve.new.self.steady = λ is. c.reserve.ensures.same.6 ∙ (c.show_owed.ensures.same.6 ∙ is) in
    let published : c.take_in.new.self.published ≡ c.args.self.now.accepted = c.in-Err.ensures.same.0 ∙ (c.reserve.ensures.same.1 ∙ c.if-not-show_owed.ensures.shown) in
    record {
      ok = tt;
      receipt = tt;
      began = tt;
      posted = tt;
      kept_unseen = λ r e. absurd (cc);
      err = λ no. (c.in-Err.ensures.err.0 ∙ (c.reserve.ensures.same.0 ∙ c.show_owed.ensures.same.0), (ap (λ v. v.posted) seat ∙ c.meet.ensures.others.1));
      full = λ n e. absurd (cc);
      room = λ over. absurd (omega (arith, over, c.length-from.ensures.exact, c.len-count.ensures));
      no_look = λ why e. absurd (cc);
      short = λ seen shown e. absurd (cc);
      apart = λ seen shown posted counted e. absurd (cc);
      count = search rules;
      cause = λ e. absurd (cc);
      steady = λ is. (λ e. absurd (cc), (c.in-Err.ensures.steady (steady is)).1);
      together = c.in_ok-meet.ensures.ok.1;
      told = begins_same _ _ shown;
      within = omega (arith, ap length_of shown);
      front = subst (Begins c.args.seat.now.front) (sym seen) c.meet.ensures.front;
      numbers = ap (λ v. v.numbers) seat ∙ c.in_ok-meet.ensures.numbers;
      others = ((ap (λ v. v.number) seat ∙ c.meet.ensures.others.0), c.in-Err.ensures.same.1 ∙ (c.reserve.ensures.same.2 ∙ c.show_owed.ensures.same.1), c.in-Err.ensures.same.2 ∙ (c.reserve.ensures.same.3 ∙ c.show_owed.ensures.same.3));
      published = subst (Begins c.args.self.now.published) (sym published) c.length-from.ensures.prefix;
      later = omega (arith, same, c.in-Err.ensures.later);
    }

pub returns-in-Err-Store : goal.returns-in-Err-Store
returns-in-Err-Store g c =
    let seat : c.take_in.new.seat ≡ c.meet.new.seat = c.in-Err-Store.ensures.err.1 in
    let seen : c.refuse_store.new.self.front ≡ c.meet.new.seat.front = ap (λ v. v.front) c.refuse_store.ensures ∙ ap (λ v. v.front) seat in
    let shown : c.args.self.now.published ≡ c.refuse_store.new.self.front = sym (seen ∙ c.in_ok-meet.ensures.ok.0) in
    let same : c.reserve.new.self.faults ≡ c.args.self.now.faults = c.reserve.ensures.same.5 ∙ c.show_owed.ensures.same.5 in
    let steady : IsTrue c.args.self.now.steady → IsTrue c.reserve.new.self.steady = λ is. c.reserve.ensures.same.6 ∙ (c.show_owed.ensures.same.6 ∙ is) in
    let published : c.take_in.new.self.published ≡ c.args.self.now.accepted = c.in-Err-Store.ensures.same.0 ∙ (c.reserve.ensures.same.1 ∙ c.if-not-show_owed.ensures.shown) in
    record {
      ok = tt;
      receipt = tt;
      began = tt;
      posted = tt;
      kept_unseen = λ r e. absurd (cc);
      err = λ no. (c.in-Err-Store.ensures.err.0 ∙ (c.reserve.ensures.same.0 ∙ c.show_owed.ensures.same.0), ap (λ v. v.posted) c.refuse_store.ensures ∙ (ap (λ v. v.posted) seat ∙ c.meet.ensures.others.1));
      full = λ n e. absurd (cc);
      room = λ over. absurd (omega (arith, over, c.length-from.ensures.exact, c.len-count.ensures));
      no_look = λ why e. absurd (cc);
      short = λ seen shown e. absurd (cc);
      apart = λ seen shown posted counted e. absurd (cc);
      count = search rules;
      cause = λ e. subst (λ n. Rose n c.take_in.new.self.faults) same (c.in-Err-Store.ensures.cause (ap Err c.in-Err-Store.field-0-is));
      steady = λ is. (λ e. (c.in-Err-Store.ensures.steady (steady is)).0 (ap Err c.in-Err-Store.field-0-is), (c.in-Err-Store.ensures.steady (steady is)).1);
      together = c.in_ok-meet.ensures.ok.1;
      told = begins_same _ _ shown;
      within = omega (arith, ap length_of shown);
      front = subst (Begins c.args.seat.now.front) (sym seen) c.meet.ensures.front;
      numbers = ap (λ v. v.numbers) c.refuse_store.ensures ∙ ap not_stored (ap (λ v. v.numbers) seat ∙ c.in_ok-meet.ensures.numbers);
      others = (ap (λ v. v.number) c.refuse_store.ensures ∙ (ap (λ v. v.number) seat ∙ c.meet.ensures.others.0), c.in-Err-Store.ensures.same.1 ∙ (c.reserve.ensures.same.2 ∙ c.show_owed.ensures.same.1), c.in-Err-Store.ensures.same.2 ∙ (c.reserve.ensures.same.3 ∙ c.show_owed.ensures.same.3));
      published = subst (Begins c.args.self.now.published) (sym published) c.length-from.ensures.prefix;
      later = omega (arith, same, c.in-Err-Store.ensures.later);
    }

pub returns-then-not-show_owed-2-clause-kept_unseen : goal.returns-then-not-show_owed-2-clause-kept_unseen
returns-then-not-show_owed-2-clause-kept_unseen g c r e =
    let k : ℕ = c.args.seat.now.number in
    let xs : List Item = c.args.items in
    let h : History = c.args.self.now.accepted in
    let same : record { from = c.length-from.result; to = c.length-from.result + c.len-count.result } ≡ r = cc e in
    let before : c.reserve.new.self.accepted ≡ h = c.reserve.ensures.same.0 ∙ c.show_owed.ensures.same.0 in
    let number : c.meet.new.seat.number ≡ k = c.meet.ensures.others.0 in
    let added : c.take_in.new.self.accepted ≡ extend h (entries_by k xs) = c.in-Ok.ensures.ok ∙ (λ i. extend (before i) (entries_by (number i) xs)) in
    let now : c.show_owed-2.new.self.accepted ≡ extend h (entries_by k xs) = c.show_owed-2.ensures.same.0 ∙ added in
    let posted : c.take_in.new.seat.posted ≡ c.args.seat.now.posted + length xs = ap (λ v. v.posted) c.in-Ok.ensures.posted ∙ ap (λ n. n + length xs) c.meet.ensures.others.1 in
    let met : c.args.seat.now.posted ≡ by_seat k h = c.in_ok-meet.ensures.ok.1 in
    let to : c.length-from.result + c.len-count.result ≡ length_of c.show_owed-2.new.self.accepted = omega (arith, ap length_of now, length_more h k xs, c.length-from.ensures.exact, c.len-count.ensures) in
    let shown : c.show_owed-2.new.self.published ≡ h = c.if-not-show_owed-2.ensures.shown ∙ (c.in-Ok.ensures.same.0 ∙ (c.reserve.ensures.same.1 ∙ c.if-not-show_owed.ensures.shown)) in
    subst
    (λ (q : Receipt). (q.from ≡ length_of h) × (q.to ≡ length_of c.show_owed-2.new.self.accepted) × (c.show_owed-2.new.self.accepted ≡ extend h (entries_by k xs)) × (c.show_owed-2.new.self.published ≡ h)
    × (c.take_in.new.seat.posted ≡ c.args.seat.now.posted + length xs) × (c.take_in.new.seat.posted ≡ by_seat k c.show_owed-2.new.self.accepted))
    same
    (c.length-from.ensures.exact, to, now, shown, posted, posted_is k h c.show_owed-2.new.self.accepted xs c.args.seat.now.posted c.take_in.new.seat.posted met posted now)

pub returns-then-not-show_owed-2-clause-err : goal.returns-then-not-show_owed-2-clause-err
returns-then-not-show_owed-2-clause-err g c apart = absurd (apart _ refl)

pub returns-clause-posted : goal.returns-clause-posted
returns-clause-posted g c =
    let k : ℕ = c.args.seat.now.number in
    let xs : List Item = c.args.items in
    let h : History = c.args.self.now.accepted in
    let before : c.reserve.new.self.accepted ≡ h = c.reserve.ensures.same.0 ∙ c.show_owed.ensures.same.0 in
    let number : c.meet.new.seat.number ≡ k = c.meet.ensures.others.0 in
    let added : c.take_in.new.self.accepted ≡ extend h (entries_by k xs) = c.in-Ok.ensures.ok ∙ (λ i. extend (before i) (entries_by (number i) xs)) in
    let now : c.show_owed-2.new.self.accepted ≡ extend h (entries_by k xs) = c.show_owed-2.ensures.same.0 ∙ added in
    let posted : c.take_in.new.seat.posted ≡ c.args.seat.now.posted + length xs = ap (λ v. v.posted) c.in-Ok.ensures.posted ∙ ap (λ n. n + length xs) c.meet.ensures.others.1 in
    let all : c.catch_up.new.self.posted ≡ c.args.seat.now.posted + length xs = ap (λ v. v.posted) c.catch_up.ensures ∙ posted in
    let met : c.args.seat.now.posted ≡ by_seat k h = c.in_ok-meet.ensures.ok.1 in
    (all, posted_is k h c.show_owed-2.new.self.accepted xs c.args.seat.now.posted c.catch_up.new.self.posted met all now)

pub returns-clause-front : goal.returns-clause-front
returns-clause-front g c =
    let k : ℕ = c.args.seat.now.number in
    let xs : List Item = c.args.items in
    let h : History = c.args.self.now.accepted in
    let began : Begins c.args.seat.now.front h = c.in_ok-meet.ensures.began in
    let before : c.reserve.new.self.accepted ≡ h = c.reserve.ensures.same.0 ∙ c.show_owed.ensures.same.0 in
    let number : c.meet.new.seat.number ≡ k = c.meet.ensures.others.0 in
    let added : c.take_in.new.self.accepted ≡ extend h (entries_by k xs) = c.in-Ok.ensures.ok ∙ (λ i. extend (before i) (entries_by (number i) xs)) in
    let shown : c.self.inside.shown ≡ c.take_in.new.self.accepted = ap (λ v. v.published) c.self.view_is ∙ c.if-not-show_owed-2.ensures.shown in
    let now : c.catch_up.new.self.front ≡ extend h (entries_by k xs) = ap (λ v. v.front) c.catch_up.ensures ∙ (shown ∙ added) in
    subst (Begins c.args.seat.now.front) (sym now) (begins_trans c.args.seat.now.front h (extend h (entries_by k xs)) began (begins_longer h (entries_by k xs)))

pub returns-clause-published : goal.returns-clause-published
returns-clause-published g c =
    let k : ℕ = c.args.seat.now.number in
    let xs : List Item = c.args.items in
    let p : History = c.args.self.now.published in
    let h : History = c.args.self.now.accepted in
    let before : c.reserve.new.self.accepted ≡ h = c.reserve.ensures.same.0 ∙ c.show_owed.ensures.same.0 in
    let number : c.meet.new.seat.number ≡ k = c.meet.ensures.others.0 in
    let added : c.take_in.new.self.accepted ≡ extend h (entries_by k xs) = c.in-Ok.ensures.ok ∙ (λ i. extend (before i) (entries_by (number i) xs)) in
    let now : c.show_owed-2.new.self.published ≡ extend h (entries_by k xs) = c.if-not-show_owed-2.ensures.shown ∙ added in
    subst (Begins p) (sym now) (begins_trans p h (extend h (entries_by k xs)) c.length-from.ensures.prefix (begins_longer h (entries_by k xs)))

pub returns-clause-told : goal.returns-clause-told
returns-clause-told g c =
    let seen : c.catch_up.new.self.front ≡ c.show_owed-2.new.self.published = ap (λ v. v.front) c.catch_up.ensures ∙ ap (λ v. v.published) c.self.view_is in
    subst (Begins c.args.self.now.published) (sym seen) (returns-clause-published g c)
