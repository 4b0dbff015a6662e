-- What the post of a numbered batch by a seat is answered.
use Rattle.std.proofs.Common.{◌≡◌, ◌≢◌, ◌⊎◌, inl, inr, ℕ, ◌+◌, ◌^◌, ◌<◌, ◌≤◌, ◌∙◌, Bool, true, false, List, length, Result, Ok, Err, IfOk, IfErr, IsErrOf, refl, ap, sym, subst, arith}
use Rattle.gj_base.specs.Asks.{NotedBatch}
use Rattle.gj_base.specs.Causes.{RoseBy}
use Rattle.gj_base.specs.Configuration.{Configuration}
use Rattle.gj_base.specs.History.{Begins, extend, entries_by, length_of}
use Rattle.gj_base.specs.declared.ask.Ask.TheVariants as asks
use Rattle.gj_base.specs.declared.history.History.{History}
use Rattle.gj_base.specs.declared.item.Item.{Item}
use Rattle.gj_base.specs.declared.item.Receipt.{Receipt}
use Rattle.gj_once.specs.Judging.{judged, nothing_noted, noting}
use Rattle.gj_once.specs.declared.noted_index.Noted.{Noted}
use Rattle.gj_once.specs.declared.noted_index.Noted.TheVariants.{New, Repeated}
use Rattle.gj_once.specs.declared.verdict.LastBatch.{LastBatch}
use Rattle.gj_once.specs.declared.verdict.Verdict.{Verdict}
use Rattle.gj_once.specs.declared.verdict.Verdict.TheVariants as verdict
use Rattle.gj_publish.specs.Answers.{IsUnmet}
use Rattle.gj_publish.specs.NotedAnswers.{Answers, IfNew, IfRepeated, OnNew, after_noted, noted_by}
use Rattle.gj_publish.specs.Seats.{SeatView, Numbers, after_verdict, raised}
use Rattle.gj_publish.specs.Writers.{by_seat}
use Rattle.gj_publish.specs.declared.refusal.NoLook.{NoLook}
use Rattle.gj_publish.specs.declared.refusal.NotedError.{NotedError}
use Rattle.gj_publish.specs.declared.refusal.NotedError.TheVariants as refused
use Rattle.gj_publish.specs.declared.refusal.PostError.{PostError}
use Rattle.gj_publish.specs.declared.refusal.PostError.TheVariants as posts
use Rattle.gj_reply.specs.declared.fixed.Fixed.TheVariants as fixed
use Rattle.gj_reply.specs.declared.reply.Reply.TheVariants as replies
use Rattle.gj_session.specs.IndexRuns.{one_if}
use Rattle.gj_session.specs.NotedBatches.{AnswersJudged, AnswersKnown, Lacks, noted_after, places_after}
use Rattle.gj_session.specs.SeatReplies.{entered_items, outcome_of, outcome_of_noted, outcome_of_refusal}
use Rattle.gj_session.specs.SeatRuns.{mark_of, is_batch_look, is_noted_look, is_fresh, CountedOne, SameSeat, SeatAnswers}
use Rattle.gj_session.specs.declared.outcome.Outcome.{Outcome}
use Rattle.gj_session.specs.declared.outcome.Outcome.TheVariants.{Says, Stands}
use Rattle.gj_session.proofs.RunLemmas.{length_extend}
use Rattle.gj_session.proofs.SeatLemmas.{PostSays, post_answers, none_enter, rose_once, rose_stays, rose_shown, made_once, made_stays}

-- what the post of a numbered batch says of the seat, before and after, and of the history, with what the writer was and is
-- told to be
pub record NotedSays (S T : Type 0) (p q h new : History) (v : Verdict) (a b : SeatView) (batch : NotedBatch) (result : Result Noted NotedError) : Type 0 where
  pub exact : Answers v result
  pub ok : OnNew result ((new ≡ extend h (entries_by a.number batch.items)) × (q ≡ new) × (b.front ≡ new))
  pub receipt : IfNew result (λ r. (r.from ≡ length_of h) × (r.to ≡ length_of new))
  pub began : IfOk result (λ _. Begins a.front h)
  pub posted : OnNew result ((b.posted ≡ a.posted + length batch.items) × (b.posted ≡ by_seat a.number new))
  pub kept_unseen : IfErr result (λ why. (r : Receipt) → why ≡ refused.Post (posts.KeptUnseen r)
      → (r.from ≡ length_of h) × (r.to ≡ length_of new) × (new ≡ extend h (entries_by a.number batch.items)) × (q ≡ h) × (b.posted ≡ a.posted + length batch.items) × (b.posted ≡ by_seat a.number new))
  pub repeated : IfRepeated result (λ r. T × (b.front ≡ h) × (r.to ≤ length_of b.front) × (b.posted ≡ a.posted))
  pub shown : T → new ≡ h
  pub err : IfErr result (λ why. ((r : Receipt) → why ≢ refused.Post (posts.KeptUnseen r)) → (new ≡ h) × (b.posted ≡ a.posted))
  pub full : IfErr result (λ why. (n : ℕ) → why ≡ refused.Post (posts.Full n) → (n ≡ length_of h) × (2 ^ 48 < length_of h + length batch.items) × S × (b.front ≡ a.front))
  pub room : v ≡ verdict.Fresh → 2 ^ 48 < length_of h + length batch.items → IsErrOf result (refused.Post (posts.Full (length_of h)))
  pub no_look : IfErr result (λ e. (why : NoLook) → e ≡ refused.Post (posts.NoLook why) → S × (b.front ≡ a.front))
  pub apart : IfErr result (λ why. (seen shown posted counted : ℕ) → why ≡ refused.Post (posts.Apart seen shown posted counted)
      → S × (seen ≡ length_of b.front) × (shown ≡ length_of p) × (posted ≡ a.posted) × (counted ≡ by_seat a.number h) × Begins p b.front × ((shown < seen) ⊎ (posted ≢ counted)))
  pub front : Begins a.front b.front
  pub numbers : b.numbers ≡ after_noted v result a.numbers
  pub number : b.number ≡ a.number
  pub low : length_of h ≤ 2 ^ 48

-- what is answered, by this verdict
pub record NotedOutcome (v : Verdict) (a b : SeatView) (batch : NotedBatch) (o : Outcome) : Type 0 where
  pub same : SameSeat a b
  pub judged : Lacks false (mark_of a) o (mark_of b) ⊎ AnswersJudged false a.number (mark_of a) batch.items v o (mark_of b)
  pub few : (b.posted ≡ a.posted) ⊎ (b.posted ≤ 2 ^ 48)
  pub counts : CountedOne a.numbers b.numbers (Ok (asks.Noted batch)) o

-- a fresh batch is posted as any batch, by a seat that has judged one more
abbrev judged_seat : SeatView → SeatView
judged_seat a = record { number = a.number; front = a.front; posted = a.posted; numbers = after_verdict verdict.Fresh a.numbers }

ok_says : (S T : Type 0) (p q h new : History) (a b : SeatView) (batch : NotedBatch) (r : Receipt) → NotedSays S T p q h new verdict.Fresh a b batch (Ok (New r))
    → PostSays S p q h new (judged_seat a) b batch.items (Ok r)
ok_says S T p q h new a b batch r x = record {
  ok = x.ok;
  receipt = x.receipt;
  began = x.began;
  posted = x.posted;
  kept_unseen = tt;
  err = tt;
  full = tt;
  room = λ over. (let wrong = x.room refl over in cc);
  no_look = tt;
  apart = tt;
  front = x.front;
  numbers = x.numbers;
  number = x.number;
  low = x.low;
}

err_says : (S T : Type 0) (p q h new : History) (a b : SeatView) (batch : NotedBatch) (why : PostError) → NotedSays S T p q h new verdict.Fresh a b batch (Err (refused.Post why))
    → PostSays S p q h new (judged_seat a) b batch.items (Err why)
err_says S T p q h new a b batch why x = record {
  ok = tt;
  receipt = tt;
  began = tt;
  posted = tt;
  kept_unseen = λ r e. x.kept_unseen r (ap refused.Post e);
  err = λ never. x.err (λ r e. never r (cc));
  full = λ n e. x.full n (ap refused.Post e);
  room = λ over. (let full = x.room refl over in cc);
  no_look = λ none e. x.no_look none (ap refused.Post e);
  apart = λ seen shown posted counted e. x.apart seen shown posted counted (ap refused.Post e);
  front = x.front;
  numbers = x.numbers;
  number = x.number;
  low = x.low;
}

-- the answers to any batch are no look at a batch that had entered
same_look : (result : Result Receipt PostError) → is_batch_look (outcome_of result) ≡ is_noted_look (outcome_of result)
same_look (Ok r) = refl
same_look (Err posts.Memory) = refl
same_look (Err (posts.KeptUnseen r)) = refl
same_look (Err posts.Store) = refl
same_look (Err (posts.Full n)) = refl
same_look (Err (posts.NoLook why)) = refl
same_look (Err (posts.Apart seen shown posted counted)) = refl

rose_judged : (b : Bool) (f g : ℕ) → RoseBy 0 (raised f) g → RoseBy (one_if b) f g
rose_judged true f g x = omega arith
rose_judged false f g x = omega arith

fresh_counts : (n m : Numbers) (batch : NotedBatch) (result : Result Receipt PostError) → CountedOne (after_verdict verdict.Fresh n) m (Ok (asks.Items batch.items)) (outcome_of result)
    → CountedOne n m (Ok (asks.Noted batch)) (outcome_of result)
fresh_counts n m batch result x = record {
  looks = subst (λ (b : Bool). RoseBy (one_if b) n.looks m.looks) (same_look result) x.looks;
  refused = x.refused;
  store = x.store;
  full = x.full;
  apart = x.apart;
  fresh = rose_judged (is_fresh (Ok (asks.Noted batch)) (outcome_of result)) n.judged_fresh m.judged_fresh x.fresh;
  repeated = x.repeated;
  old = x.old;
  skipped = x.skipped;
}

fresh_outcome : (conf : Configuration) (a b : SeatView) (batch : NotedBatch) (result : Result Receipt PostError) → SeatAnswers conf (judged_seat a) b (Ok (asks.Items batch.items)) fixed.NotAccepted (outcome_of result)
    → NotedOutcome verdict.Fresh a b batch (outcome_of result)
fresh_outcome conf a b batch result x = record {
  same = record { number = x.same.number; later = x.same.later };
  judged = inr x.answers.0;
  few = x.few;
  counts = fresh_counts a.numbers b.numbers batch result x.counts;
}

-- one that had entered
repeated_says : (S T : Type 0) (p q h new : History) (places : Receipt) (a b : SeatView) (batch : NotedBatch) (r : Receipt) → NotedSays S T p q h new (verdict.Repeat places) a b batch (Ok (Repeated r))
    → NotedOutcome (verdict.Repeat places) a b batch (Says (replies.Repeated r.from r.to))
repeated_says S T p q h new places a b batch r x =
    let n = a.numbers in
    record {
      same = record { number = x.number; later = x.front };
      judged = inr (record { moves = (x.front, x.repeated.3); from_is = ap (λ (q : Receipt). q.from) x.exact; length_is = ap (λ (q : Receipt). q.to) x.exact; seen = x.repeated.2 });
      few = inl x.repeated.3;
      counts = subst (λ (m : Numbers). CountedOne n m (Ok (asks.Noted batch)) (Says (replies.Repeated r.from r.to))) (sym x.numbers)
          (record { looks = rose_once n.looks; refused = made_stays n.refused; store = rose_stays n.store; full = rose_stays n.full; apart = rose_stays n.apart; fresh = rose_stays n.judged_fresh; repeated = rose_once n.judged_repeat; old = rose_stays n.judged_old; skipped = rose_stays n.judged_skipped });
    }

unseen_repeats : (S T : Type 0) (p q h new : History) (places : Receipt) (a b : SeatView) (batch : NotedBatch) (r : Receipt) → NotedSays S T p q h new (verdict.Repeat places) a b batch (Err (refused.RepeatUnseen r))
    → NotedOutcome (verdict.Repeat places) a b batch (Stands fixed.Memory)
unseen_repeats S T p q h new places a b batch r x =
    let n = a.numbers in
    let kept = x.err (λ r e. cc) in
    record {
      same = record { number = x.number; later = x.front };
      judged = inl (inl refl, (x.front, kept.1));
      few = inl kept.1;
      counts = subst (λ (m : Numbers). CountedOne n m (Ok (asks.Noted batch)) (Stands fixed.Memory)) (sym x.numbers)
          (record { looks = rose_shown false n.looks; refused = made_stays n.refused; store = rose_stays n.store; full = rose_stays n.full; apart = rose_stays n.apart; fresh = rose_stays n.judged_fresh; repeated = rose_shown false n.judged_repeat; old = rose_stays n.judged_old; skipped = rose_stays n.judged_skipped });
    }

no_look_repeats : (S T : Type 0) (p q h new : History) (places : Receipt) (a b : SeatView) (batch : NotedBatch) (why : NoLook) → NotedSays S T p q h new (verdict.Repeat places) a b batch (Err (refused.Post (posts.NoLook why)))
    → NotedOutcome (verdict.Repeat places) a b batch (Stands fixed.NoLook)
no_look_repeats S T p q h new places a b batch why x =
    let n = a.numbers in
    let kept = x.err (λ r e. cc) in
    let none = x.no_look why refl in
    record {
      same = record { number = x.number; later = x.front };
      judged = inr (refl, λ i. record { seen = none.1 i; entered = kept.1 i; noted = nothing_noted });
      few = inl kept.1;
      counts = subst (λ (m : Numbers). CountedOne n m (Ok (asks.Noted batch)) (Stands fixed.NoLook)) (sym x.numbers)
          (record { looks = rose_stays n.looks; refused = made_once n.refused; store = rose_stays n.store; full = rose_stays n.full; apart = rose_stays n.apart; fresh = rose_stays n.judged_fresh; repeated = rose_shown false n.judged_repeat; old = rose_stays n.judged_old; skipped = rose_stays n.judged_skipped });
    }

apart_repeats : (S T : Type 0) (p q h new : History) (places : Receipt) (a b : SeatView) (batch : NotedBatch) (seen shown posted counted : ℕ) → NotedSays S T p q h new (verdict.Repeat places) a b batch (Err (refused.Post (posts.Apart seen shown posted counted)))
    → NotedOutcome (verdict.Repeat places) a b batch (Says (replies.Apart seen shown posted counted))
apart_repeats S T p q h new places a b batch seen shown posted counted x =
    let n = a.numbers in
    let kept = x.err (λ r e. cc) in
    let differ = x.apart seen shown posted counted refl in
    record {
      same = record { number = x.number; later = x.front };
      judged = inr (record { moves = (x.front, kept.1); at = differ.1; own = differ.3 ∙ sym kept.1; differ = differ.6 });
      few = inl kept.1;
      counts = subst (λ (m : Numbers). CountedOne n m (Ok (asks.Noted batch)) (Says (replies.Apart seen shown posted counted))) (sym x.numbers)
          (record { looks = rose_once n.looks; refused = made_stays n.refused; store = rose_stays n.store; full = rose_stays n.full; apart = rose_once n.apart; fresh = rose_stays n.judged_fresh; repeated = rose_shown false n.judged_repeat; old = rose_stays n.judged_old; skipped = rose_stays n.judged_skipped });
    }

-- one that comes before the last one, or after a missing one
old_says : (S T : Type 0) (p q h new : History) (last : ℕ) (a b : SeatView) (batch : NotedBatch) (k : ℕ) → NotedSays S T p q h new (verdict.Old last) a b batch (Err (refused.Old k))
    → NotedOutcome (verdict.Old last) a b batch (Says (replies.Old k))
old_says S T p q h new last a b batch k x =
    let n = a.numbers in
    let kept = x.err (λ r e. cc) in
    let exact = x.exact in
    let same : k ≡ last = cc in
    record {
      same = record { number = x.number; later = x.front };
      judged = inr (ap (λ (m : ℕ). Says (replies.Old m)) same, (x.front, kept.1));
      few = inl kept.1;
      counts = subst (λ (m : Numbers). CountedOne n m (Ok (asks.Noted batch)) (Says (replies.Old k))) (sym x.numbers)
          (record { looks = rose_stays n.looks; refused = made_stays n.refused; store = rose_stays n.store; full = rose_stays n.full; apart = rose_stays n.apart; fresh = rose_stays n.judged_fresh; repeated = rose_stays n.judged_repeat; old = rose_once n.judged_old; skipped = rose_stays n.judged_skipped });
    }

skipped_says : (S T : Type 0) (p q h new : History) (last : ℕ) (a b : SeatView) (batch : NotedBatch) (k : ℕ) → NotedSays S T p q h new (verdict.Skipped last) a b batch (Err (refused.Skipped k))
    → NotedOutcome (verdict.Skipped last) a b batch (Says (replies.Skipped k))
skipped_says S T p q h new last a b batch k x =
    let n = a.numbers in
    let kept = x.err (λ r e. cc) in
    let exact = x.exact in
    let same : k ≡ last = cc in
    record {
      same = record { number = x.number; later = x.front };
      judged = inr (ap (λ (m : ℕ). Says (replies.Skipped m)) same, (x.front, kept.1));
      few = inl kept.1;
      counts = subst (λ (m : Numbers). CountedOne n m (Ok (asks.Noted batch)) (Says (replies.Skipped k))) (sym x.numbers)
          (record { looks = rose_stays n.looks; refused = made_stays n.refused; store = rose_stays n.store; full = rose_stays n.full; apart = rose_stays n.apart; fresh = rose_stays n.judged_fresh; repeated = rose_stays n.judged_repeat; old = rose_stays n.judged_old; skipped = rose_once n.judged_skipped });
    }

-- the post of a numbered batch, by the verdict and the answer
pub noted_answers : (conf : Configuration) (S T : Type 0) (p q h new : History) (v : Verdict) (a b : SeatView) (batch : NotedBatch) (result : Result Noted NotedError) → NotedSays S T p q h new v a b batch result
    → NotedOutcome v a b batch (outcome_of_noted result)
noted_answers conf S T p q h new verdict.Fresh a b batch (Ok (New r)) x =
    fresh_outcome conf a b batch (Ok r) (post_answers conf S p q h new (judged_seat a) b batch.items (Ok r) (ok_says S T p q h new a b batch r x))
noted_answers conf S T p q h new verdict.Fresh a b batch (Err (refused.Post why)) x =
    fresh_outcome conf a b batch (Err why) (post_answers conf S p q h new (judged_seat a) b batch.items (Err why) (err_says S T p q h new a b batch why x))
noted_answers conf S T p q h new verdict.Fresh a b batch _ x = absurd x.exact
noted_answers conf S T p q h new (verdict.Repeat places) a b batch (Ok (New r)) x = absurd x.exact
noted_answers conf S T p q h new (verdict.Repeat places) a b batch (Ok (Repeated r)) x = repeated_says S T p q h new places a b batch r x
noted_answers conf S T p q h new (verdict.Repeat places) a b batch (Err (refused.RepeatUnseen r)) x = unseen_repeats S T p q h new places a b batch r x
noted_answers conf S T p q h new (verdict.Repeat places) a b batch (Err (refused.Post (posts.NoLook why))) x = no_look_repeats S T p q h new places a b batch why x
noted_answers conf S T p q h new (verdict.Repeat places) a b batch (Err (refused.Post (posts.Apart seen shown posted counted))) x = apart_repeats S T p q h new places a b batch seen shown posted counted x
noted_answers conf S T p q h new (verdict.Repeat places) a b batch (Err _) x = absurd x.exact
noted_answers conf S T p q h new (verdict.Old last) a b batch (Err (refused.Old k)) x = old_says S T p q h new last a b batch k x
noted_answers conf S T p q h new (verdict.Old last) a b batch _ x = absurd (let e = x.exact in cc)
noted_answers conf S T p q h new (verdict.Skipped last) a b batch (Err (refused.Skipped k)) x = skipped_says S T p q h new last a b batch k x
noted_answers conf S T p q h new (verdict.Skipped last) a b batch _ x = absurd (let e = x.exact in cc)

-- the same of the list that the writer had noted
pub seat_noted : (conf : Configuration) (noted : List LastBatch) (a b : SeatView) (batch : NotedBatch) (o : Outcome) → NotedOutcome (judged noted batch.producer batch.number) a b batch o
    → SeatAnswers conf a b (Ok (asks.Noted batch)) fixed.NotAccepted o
seat_noted conf noted a b batch o x = record { same = x.same; answers = ((noted, x.judged), refl); few = x.few; counts = x.counts }

-- and what it did to the history
pub noted_enters : (S T : Type 0) (p q h new : History) (v : Verdict) (a b : SeatView) (batch : NotedBatch) (result : Result Noted NotedError) → NotedSays S T p q h new v a b batch result
    → new ≡ extend h (entries_by a.number (entered_items batch.items (outcome_of_noted result)))
noted_enters S T p q h new v a b batch (Ok (New r)) x = x.ok.0
noted_enters S T p q h new v a b batch (Ok (Repeated r)) x = x.shown x.repeated.0 ∙ none_enter h a.number
noted_enters S T p q h new v a b batch (Err (refused.Post (posts.KeptUnseen r))) x = (x.kept_unseen r refl).2
noted_enters S T p q h new v a b batch (Err (refused.Post posts.Memory)) x = (x.err (λ r e. cc)).0 ∙ none_enter h a.number
noted_enters S T p q h new v a b batch (Err (refused.Post posts.Store)) x = (x.err (λ r e. cc)).0 ∙ none_enter h a.number
noted_enters S T p q h new v a b batch (Err (refused.Post (posts.Full n))) x = (x.err (λ r e. cc)).0 ∙ none_enter h a.number
noted_enters S T p q h new v a b batch (Err (refused.Post (posts.NoLook why))) x = (x.err (λ r e. cc)).0 ∙ none_enter h a.number
noted_enters S T p q h new v a b batch (Err (refused.Post (posts.Apart seen shown posted counted))) x = (x.err (λ r e. cc)).0 ∙ none_enter h a.number
noted_enters S T p q h new v a b batch (Err (refused.RepeatUnseen r)) x = (x.err (λ r e. cc)).0 ∙ none_enter h a.number
noted_enters S T p q h new v a b batch (Err (refused.Old last)) x = (x.err (λ r e. cc)).0 ∙ none_enter h a.number
noted_enters S T p q h new v a b batch (Err (refused.Skipped last)) x = (x.err (λ r e. cc)).0 ∙ none_enter h a.number

-- and to what is noted
places : (number : ℕ) (h new : History) (items : List Item) (r : Receipt) → new ≡ extend h (entries_by number items) → r.from ≡ length_of h → r.to ≡ length_of new → r ≡ places_after h items
places number h new items r e from to =
    let to_is : r.to ≡ length_of h + length items = to ∙ ap length_of e ∙ length_extend h number items in
    λ i. record { from = from i; to = to_is i }

pub notes_by : (noted : List LastBatch) (S T : Type 0) (p q h new : History) (v : Verdict) (a b : SeatView) (batch : NotedBatch) (result : Result Noted NotedError) → NotedSays S T p q h new v a b batch result
    → noted_by noted batch result ≡ noted_after noted h batch (outcome_of_noted result)
notes_by noted S T p q h new v a b batch (Ok (New r)) x = ap (noting noted batch.producer batch.number) (places a.number h new batch.items r x.ok.0 x.receipt.0 x.receipt.1)
notes_by noted S T p q h new v a b batch (Ok (Repeated r)) x = refl
notes_by noted S T p q h new v a b batch (Err (refused.Post (posts.KeptUnseen r))) x =
    let kept = x.kept_unseen r refl in ap (noting noted batch.producer batch.number) (places a.number h new batch.items r kept.2 kept.0 kept.1)
notes_by noted S T p q h new v a b batch (Err (refused.Post posts.Memory)) x = refl
notes_by noted S T p q h new v a b batch (Err (refused.Post posts.Store)) x = refl
notes_by noted S T p q h new v a b batch (Err (refused.Post (posts.Full n))) x = refl
notes_by noted S T p q h new v a b batch (Err (refused.Post (posts.NoLook why))) x = refl
notes_by noted S T p q h new v a b batch (Err (refused.Post (posts.Apart seen shown posted counted))) x = refl
notes_by noted S T p q h new v a b batch (Err (refused.RepeatUnseen r)) x = refl
notes_by noted S T p q h new v a b batch (Err (refused.Old last)) x = refl
notes_by noted S T p q h new v a b batch (Err (refused.Skipped last)) x = refl

-- a refusal that comes after a batch had entered does not call it unaccepted
known_unmet : (error : PostError) → IsUnmet error → outcome_of_refusal error ≡ Stands fixed.NotAccepted → ⊥
known_unmet posts.Memory is e = is
known_unmet (posts.KeptUnseen receipt) is e = is
known_unmet posts.Store is e = is
known_unmet (posts.Full n) is e = is
known_unmet (posts.NoLook why) is e = cc
known_unmet (posts.Apart seen shown posted counted) is e = cc

pub known_of : (v : Verdict) (result : Result Noted NotedError) → Answers v result → AnswersKnown v (outcome_of_noted result)
known_of verdict.Fresh result is = tt
known_of (verdict.Repeat receipt) (Ok (New places)) is = absurd is
known_of (verdict.Repeat receipt) (Ok (Repeated places)) is = λ e. cc
known_of (verdict.Repeat receipt) (Err (refused.Post error)) is = known_unmet error is
known_of (verdict.Repeat receipt) (Err (refused.RepeatUnseen places)) is = λ e. cc
known_of (verdict.Repeat receipt) (Err (refused.Old last)) is = absurd is
known_of (verdict.Repeat receipt) (Err (refused.Skipped last)) is = absurd is
known_of (verdict.Old last) result is = ap outcome_of_noted is
known_of (verdict.Skipped last) result is = ap outcome_of_noted is
