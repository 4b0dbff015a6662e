-- What a post by a seat is answered.
use Rattle.std.proofs.Common.{◌≡◌, ◌≢◌, ◌⊎◌, inl, inr, ℕ, ◌+◌, ◌^◌, ◌<◌, ◌≤◌, ◌==◌, ◌∙◌, Bool, true, false, List, [], length, Result, Ok, Err, IfOk, IfErr, OnOk, IsErrOf, refl, ap, sym, subst, arith, append-nil}
use Rattle.std.proofs.lemmas.Bool.{cases_lt}
use Rattle.std.proofs.lemmas.List.Sums.{count_by-le-length}
use Rattle.gj_base.specs.Causes.{RoseBy}
use Rattle.gj_base.specs.Configuration.{Configuration}
use Rattle.gj_base.specs.History.{Begins, extend, entries_by, length_of}
use Rattle.gj_base.specs.declared.ask.Ask.TheVariants as asks
use Rattle.gj_base.specs.declared.ask.Query.{Query}
use Rattle.gj_base.specs.declared.history.History.{History}
use Rattle.gj_base.specs.declared.item.Entry.{Entry}
use Rattle.gj_base.specs.declared.item.Item.{Item}
use Rattle.gj_base.specs.declared.item.Receipt.{Receipt}
use Rattle.gj_once.specs.Judging.{nothing_noted}
use Rattle.gj_publish.specs.Answers.{after_post}
use Rattle.gj_publish.specs.Seats.{SeatView, Numbers, raised, looked}
use Rattle.gj_publish.specs.Writers.{by_seat}
use Rattle.gj_publish.specs.declared.refusal.NoLook.{NoLook}
use Rattle.gj_publish.specs.declared.refusal.PostError.{PostError}
use Rattle.gj_publish.specs.declared.refusal.PostError.TheVariants as posts
use Rattle.gj_reply.specs.declared.fixed.Fixed.{Fixed}
use Rattle.gj_reply.specs.declared.fixed.Fixed.TheVariants as fixed
use Rattle.gj_reply.specs.declared.reply.Reply.{Reply}
use Rattle.gj_reply.specs.declared.reply.Reply.TheVariants as replies
use Rattle.gj_session.specs.Answers.{window_under}
use Rattle.gj_session.specs.AnsweringLaws.{Uncounts, uncounts_reply, rose_none}
use Rattle.gj_session.specs.IndexRuns.{one_if}
use Rattle.gj_session.specs.Outcomes.{IsReply, is_store, is_full, is_apart, is_no_look, is_repeated, is_old, is_skipped}
use Rattle.gj_session.specs.Reference.{reply_of}
use Rattle.gj_session.specs.SeatReplies.{entered_items, outcome_of}
use Rattle.gj_session.specs.SeatRuns.{is_look, CountedOne, SeatAnswers}
use Rattle.gj_session.specs.SeatLaws.{made_none}
use Rattle.gj_base.specs.Streams.{Made}
use Rattle.gj_session.specs.declared.outcome.Outcome.{Outcome}
use Rattle.gj_session.specs.declared.outcome.Outcome.TheVariants.{Says, Stands}
use Rattle.gj_session.proofs.AskLemmas.{plain_reply}
use Rattle.gj_session.proofs.RunLemmas.{length_extend}

-- what a post says of the seat, before and after, and of the history, with what the writer was and is told to be
pub record PostSays (S : Type 0) (p q h new : History) (a b : SeatView) (items : List Item) (result : Result Receipt PostError) : Type 0 where
  pub ok : OnOk result ((new ≡ extend h (entries_by a.number items)) × (q ≡ new) × (b.front ≡ new))
  pub receipt : IfOk result (λ r. (r.from ≡ length_of h) × (r.to ≡ length_of new))
  pub began : OnOk result (Begins a.front h)
  pub posted : OnOk result ((b.posted ≡ a.posted + length items) × (b.posted ≡ by_seat a.number new))
  pub kept_unseen : IfErr result (λ why. (r : Receipt) → why ≡ posts.KeptUnseen r
      → (r.from ≡ length_of h) × (r.to ≡ length_of new) × (new ≡ extend h (entries_by a.number items)) × (q ≡ h) × (b.posted ≡ a.posted + length items) × (b.posted ≡ by_seat a.number new))
  pub err : IfErr result (λ why. ((r : Receipt) → why ≢ posts.KeptUnseen r) → (new ≡ h) × (b.posted ≡ a.posted))
  pub full : IfErr result (λ why. (n : ℕ) → why ≡ posts.Full n → (n ≡ length_of h) × (2 ^ 48 < length_of h + length items) × S × (b.front ≡ a.front))
  pub room : 2 ^ 48 < length_of h + length items → IsErrOf result (posts.Full (length_of h))
  pub no_look : IfErr result (λ e. (why : NoLook) → e ≡ posts.NoLook why → S × (b.front ≡ a.front))
  pub apart : IfErr result (λ why. (seen shown posted counted : ℕ) → why ≡ posts.Apart seen shown posted counted
      → S × (seen ≡ length_of b.front) × (shown ≡ length_of p) × (posted ≡ a.posted) × (counted ≡ by_seat a.number h) × Begins p b.front × ((shown < seen) ⊎ (posted ≢ counted)))
  pub front : Begins a.front b.front
  pub numbers : b.numbers ≡ after_post result a.numbers
  pub number : b.number ≡ a.number
  pub low : length_of h ≤ 2 ^ 48

pub rose_once : (f : ℕ) → RoseBy 1 f (raised f)
rose_once f = omega arith

pub rose_stays : (f : ℕ) → RoseBy 0 f f
rose_stays f = omega arith

pub made_stays : (f : ℕ) → Made 0 f f
made_stays f = record { low = omega arith; high = omega arith }

pub made_once : (f : ℕ) → Made 1 f (raised f)
made_once f = record { low = omega arith; high = omega arith }

pub rose_shown : (b : Bool) (f : ℕ) → RoseBy (one_if b) f (raised f)
rose_shown true f = omega arith
rose_shown false f = omega arith

-- one more look
pub counted_look : (n : Numbers) (query : Query) (o : Outcome) → Uncounts o → CountedOne n (looked n) (Ok (asks.Query query)) o
counted_look n query o un = record {
  looks = rose_shown (is_look (Ok (asks.Query query)) o) n.looks;
  refused = made_none (is_no_look o) n.refused un.no_look;
  store = rose_none (is_store o) n.store un.store;
  full = rose_none (is_full o) n.full un.full;
  apart = rose_none (is_apart o) n.apart un.apart;
  fresh = rose_stays n.judged_fresh;
  repeated = rose_none (is_repeated o) n.judged_repeat un.repeated;
  old = rose_none (is_old o) n.judged_old un.old;
  skipped = rose_none (is_skipped o) n.judged_skipped un.skipped;
}

within : (x : ℕ) → (2 ^ 48 < x → ⊥) → x ≤ 2 ^ 48
within x never = elim (cases_lt (2 ^ 48) x) [
  | inl over ↦ absurd (never over)
  | inr low ↦ low
]

-- the history after a batch has an admitted length
new_low : (number : ℕ) (h new : History) (items : List Item) → new ≡ extend h (entries_by number items) → length_of h + length items ≤ 2 ^ 48 → length_of new ≤ 2 ^ 48
new_low number h new items e low = (let long = ap length_of e ∙ length_extend h number items in omega (arith, long))

entries_low : (number : ℕ) (h : History) → length_of h ≤ 2 ^ 48 → by_seat number h ≤ 2 ^ 48
entries_low number h low = (let few = count_by-le-length (λ (e : Entry). e.by == number) h.entries in omega (arith, few))

posted_says : (conf : Configuration) (S : Type 0) (p q h new : History) (a b : SeatView) (items : List Item) (r : Receipt) → PostSays S p q h new a b items (Ok r)
    → SeatAnswers conf a b (Ok (asks.Items items)) fixed.NotAccepted (Says (replies.Posted r.from r.to))
posted_says conf S p q h new a b items r x =
    let n = a.numbers in
    let low = new_low a.number h new items x.ok.0 (within (length_of h + length items) (λ over. (let wrong = x.room over in cc))) in
    record {
      same = record { number = x.number; later = x.front };
      answers = (
        record {
          met = h;
          meets = x.began;
          seen = x.ok.2 ∙ x.ok.0;
          from_is = x.receipt.0;
          length_is = x.receipt.1 ∙ ap length_of (sym x.ok.2);
          in_range = (let to = x.receipt.1 in omega (arith, to, low));
          entered = x.posted.0;
          once = ap (by_seat a.number) x.ok.2 ∙ sym x.posted.1;
        },
        refl,
      );
      few = inr (let own = x.posted.1 in let few = entries_low a.number new low in omega (arith, own, few));
      counts = subst (λ (m : Numbers). CountedOne n m (Ok (asks.Items items)) (Says (replies.Posted r.from r.to))) (sym x.numbers)
          (record { looks = rose_once n.looks; refused = made_stays n.refused; store = rose_stays n.store; full = rose_stays n.full; apart = rose_stays n.apart; fresh = rose_stays n.judged_fresh; repeated = rose_stays n.judged_repeat; old = rose_stays n.judged_old; skipped = rose_stays n.judged_skipped });
    }

unseen_stands : (conf : Configuration) (S : Type 0) (p q h new : History) (a b : SeatView) (items : List Item) (r : Receipt) → PostSays S p q h new a b items (Err (posts.KeptUnseen r))
    → SeatAnswers conf a b (Ok (asks.Items items)) fixed.NotAccepted (Stands fixed.Accepted)
unseen_stands conf S p q h new a b items r x =
    let n = a.numbers in
    let kept = x.kept_unseen r refl in
    let low = new_low a.number h new items kept.2 (within (length_of h + length items) (λ over. (let wrong = x.room over in cc))) in
    record {
      same = record { number = x.number; later = x.front };
      answers = ((x.front, kept.4), refl);
      few = inr (let own = kept.5 in let few = entries_low a.number new low in omega (arith, own, few));
      counts = subst (λ (m : Numbers). CountedOne n m (Ok (asks.Items items)) (Stands fixed.Accepted)) (sym x.numbers)
          (record { looks = rose_once n.looks; refused = made_stays n.refused; store = rose_stays n.store; full = rose_stays n.full; apart = rose_stays n.apart; fresh = rose_stays n.judged_fresh; repeated = rose_stays n.judged_repeat; old = rose_stays n.judged_old; skipped = rose_stays n.judged_skipped });
    }

none_stands : (conf : Configuration) (S : Type 0) (p q h new : History) (a b : SeatView) (items : List Item) → PostSays S p q h new a b items (Err posts.Memory)
    → SeatAnswers conf a b (Ok (asks.Items items)) fixed.NotAccepted (Stands fixed.NotAccepted)
none_stands conf S p q h new a b items x =
    let n = a.numbers in
    let kept = x.err (λ r e. cc) in
    record {
      same = record { number = x.number; later = x.front };
      answers = ((refl, (x.front, kept.1)), refl);
      few = inl kept.1;
      counts = subst (λ (m : Numbers). CountedOne n m (Ok (asks.Items items)) (Stands fixed.NotAccepted)) (sym x.numbers)
          (record { looks = rose_shown false n.looks; refused = made_stays n.refused; store = rose_stays n.store; full = rose_stays n.full; apart = rose_stays n.apart; fresh = rose_stays n.judged_fresh; repeated = rose_stays n.judged_repeat; old = rose_stays n.judged_old; skipped = rose_stays n.judged_skipped });
    }

store_says : (conf : Configuration) (S : Type 0) (p q h new : History) (a b : SeatView) (items : List Item) → PostSays S p q h new a b items (Err posts.Store)
    → SeatAnswers conf a b (Ok (asks.Items items)) fixed.NotAccepted (Says replies.Store)
store_says conf S p q h new a b items x =
    let n = a.numbers in
    let kept = x.err (λ r e. cc) in
    record {
      same = record { number = x.number; later = x.front };
      answers = ((x.front, kept.1), refl);
      few = inl kept.1;
      counts = subst (λ (m : Numbers). CountedOne n m (Ok (asks.Items items)) (Says replies.Store)) (sym x.numbers)
          (record { looks = rose_once n.looks; refused = made_stays n.refused; store = rose_once n.store; full = rose_stays n.full; apart = rose_stays n.apart; fresh = rose_stays n.judged_fresh; repeated = rose_stays n.judged_repeat; old = rose_stays n.judged_old; skipped = rose_stays n.judged_skipped });
    }

full_says : (conf : Configuration) (S : Type 0) (p q h new : History) (a b : SeatView) (items : List Item) (k : ℕ) → PostSays S p q h new a b items (Err (posts.Full k))
    → SeatAnswers conf a b (Ok (asks.Items items)) fixed.NotAccepted (Says (replies.Full k))
full_says conf S p q h new a b items k x =
    let n = a.numbers in
    let kept = x.err (λ r e. cc) in
    let over = x.full k refl in
    record {
      same = record { number = x.number; later = x.front };
      answers = (
        record {
          same = λ i. record { seen = over.3 i; entered = kept.1 i; noted = nothing_noted };
          at = tt;
          in_range = (let at = over.0 in let low = x.low in omega (arith, at, low));
          over = (let at = over.0 in let above = over.1 in omega (arith, at, above));
        },
        refl,
      );
      few = inl kept.1;
      counts = subst (λ (m : Numbers). CountedOne n m (Ok (asks.Items items)) (Says (replies.Full k))) (sym x.numbers)
          (record { looks = rose_stays n.looks; refused = made_stays n.refused; store = rose_stays n.store; full = rose_once n.full; apart = rose_stays n.apart; fresh = rose_stays n.judged_fresh; repeated = rose_stays n.judged_repeat; old = rose_stays n.judged_old; skipped = rose_stays n.judged_skipped });
    }

no_look_stands : (conf : Configuration) (S : Type 0) (p q h new : History) (a b : SeatView) (items : List Item) (why : NoLook) → PostSays S p q h new a b items (Err (posts.NoLook why))
    → SeatAnswers conf a b (Ok (asks.Items items)) fixed.NotAccepted (Stands fixed.NoLook)
no_look_stands conf S p q h new a b items why x =
    let n = a.numbers in
    let kept = x.err (λ r e. cc) in
    let none = x.no_look why refl in
    record {
      same = record { number = x.number; later = x.front };
      answers = ((refl, λ i. record { seen = none.1 i; entered = kept.1 i; noted = nothing_noted }), refl);
      few = inl kept.1;
      counts = subst (λ (m : Numbers). CountedOne n m (Ok (asks.Items items)) (Stands fixed.NoLook)) (sym x.numbers)
          (record { looks = rose_stays n.looks; refused = made_once n.refused; store = rose_stays n.store; full = rose_stays n.full; apart = rose_stays n.apart; fresh = rose_stays n.judged_fresh; repeated = rose_stays n.judged_repeat; old = rose_stays n.judged_old; skipped = rose_stays n.judged_skipped });
    }

apart_says : (conf : Configuration) (S : Type 0) (p q h new : History) (a b : SeatView) (items : List Item) (seen shown posted counted : ℕ) → PostSays S p q h new a b items (Err (posts.Apart seen shown posted counted))
    → SeatAnswers conf a b (Ok (asks.Items items)) fixed.NotAccepted (Says (replies.Apart seen shown posted counted))
apart_says conf S p q h new a b items seen shown posted counted x =
    let n = a.numbers in
    let kept = x.err (λ r e. cc) in
    let differ = x.apart seen shown posted counted refl in
    record {
      same = record { number = x.number; later = x.front };
      answers = (record { moves = (x.front, kept.1); at = differ.1; own = differ.3 ∙ sym kept.1; differ = differ.6 }, refl);
      few = inl kept.1;
      counts = subst (λ (m : Numbers). CountedOne n m (Ok (asks.Items items)) (Says (replies.Apart seen shown posted counted))) (sym x.numbers)
          (record { looks = rose_once n.looks; refused = made_stays n.refused; store = rose_stays n.store; full = rose_stays n.full; apart = rose_once n.apart; fresh = rose_stays n.judged_fresh; repeated = rose_stays n.judged_repeat; old = rose_stays n.judged_old; skipped = rose_stays n.judged_skipped });
    }

-- a post, by its outcome
pub post_answers : (conf : Configuration) (S : Type 0) (p q h new : History) (a b : SeatView) (items : List Item) (result : Result Receipt PostError) → PostSays S p q h new a b items result
    → SeatAnswers conf a b (Ok (asks.Items items)) fixed.NotAccepted (outcome_of result)
post_answers conf S p q h new a b items (Ok r) x = posted_says conf S p q h new a b items r x
post_answers conf S p q h new a b items (Err (posts.KeptUnseen r)) x = unseen_stands conf S p q h new a b items r x
post_answers conf S p q h new a b items (Err posts.Memory) x = none_stands conf S p q h new a b items x
post_answers conf S p q h new a b items (Err posts.Store) x = store_says conf S p q h new a b items x
post_answers conf S p q h new a b items (Err (posts.Full n)) x = full_says conf S p q h new a b items n x
post_answers conf S p q h new a b items (Err (posts.NoLook why)) x = no_look_stands conf S p q h new a b items why x
post_answers conf S p q h new a b items (Err (posts.Apart seen shown posted counted)) x = apart_says conf S p q h new a b items seen shown posted counted x

-- a query was answered by one look
pub looked_says : (conf : Configuration) (a b : SeatView) (query : Query) (lack : Fixed) (o : Outcome) → b.number ≡ a.number → b.posted ≡ a.posted → Begins a.front b.front → b.numbers ≡ looked a.numbers
    → IsReply (reply_of query (window_under conf b.front)) lack o → Uncounts o → SeatAnswers conf a b (Ok (asks.Query query)) lack o
looked_says conf a b query lack o number posted later numbers is un = record {
  same = record { number = number; later = later };
  answers = (inl ((later, posted), is), refl);
  few = inl posted;
  counts = subst (λ (m : Numbers). CountedOne a.numbers m (Ok (asks.Query query)) o) (sym numbers) (counted_look a.numbers query o un);
}

pub query_says : (conf : Configuration) (a b : SeatView) (query : Query) (lack : Fixed) (reply : Reply) → b.number ≡ a.number → b.posted ≡ a.posted → Begins a.front b.front → b.numbers ≡ looked a.numbers
    → reply ≡ reply_of query (window_under conf b.front) → SeatAnswers conf a b (Ok (asks.Query query)) lack (Says reply)
query_says conf a b query lack reply number posted later numbers e =
    looked_says conf a b query lack (Says reply) number posted later numbers (inl (ap Says e))
    (subst (λ (r : Reply). Uncounts (Says r)) (sym e) (uncounts_reply _ (plain_reply query (window_under conf b.front))))

pub none_enter : (h : History) (number : ℕ) → h ≡ extend h (entries_by number [])
none_enter h number = λ i. record { first = h.first; entries = sym (append-nil h.entries) i }

-- and what it did to the history
pub post_enters : (S : Type 0) (p q h new : History) (a b : SeatView) (items : List Item) (result : Result Receipt PostError) → PostSays S p q h new a b items result
    → new ≡ extend h (entries_by a.number (entered_items items (outcome_of result)))
post_enters S p q h new a b items (Ok r) x = x.ok.0
post_enters S p q h new a b items (Err (posts.KeptUnseen r)) x = (x.kept_unseen r refl).2
post_enters S p q h new a b items (Err posts.Memory) x = (x.err (λ r e. cc)).0 ∙ none_enter h a.number
post_enters S p q h new a b items (Err posts.Store) x = (x.err (λ r e. cc)).0 ∙ none_enter h a.number
post_enters S p q h new a b items (Err (posts.Full n)) x = (x.err (λ r e. cc)).0 ∙ none_enter h a.number
post_enters S p q h new a b items (Err (posts.NoLook why)) x = (x.err (λ r e. cc)).0 ∙ none_enter h a.number
post_enters S p q h new a b items (Err (posts.Apart seen shown posted counted)) x = (x.err (λ r e. cc)).0 ∙ none_enter h a.number
