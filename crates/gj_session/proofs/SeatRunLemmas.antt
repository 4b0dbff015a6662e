-- What a run says of a seat.
use Rattle.std.proofs.Common.{◌≡◌, ◌⊎◌, inl, inr, add-zero, ℕ, ◌+◌, ◌^◌, ◌≤◌, ◌∙◌, Bool, false, List, [], ◌∷◌, count_by, Result, Ok, Err, refl, ap, sym, subst, arith}
use Rattle.std.proofs.lemmas.List.Sums.{sum_by-append}
use Rattle.gj_base.specs.Asks.{NotedBatch}
use Rattle.gj_base.specs.Configuration.{Configuration}
use Rattle.gj_base.specs.declared.ask.Ask.{Ask}
use Rattle.gj_base.specs.declared.ask.Ask.TheVariants as asks
use Rattle.gj_base.specs.declared.ask.Query.{Query}
use Rattle.gj_base.specs.declared.item.Item.{Item}
use Rattle.gj_base.specs.declared.item.Receipt.{Receipt}
use Rattle.gj_once.specs.Judging.{judged}
use Rattle.gj_once.specs.declared.verdict.Verdict.{Verdict}
use Rattle.gj_once.specs.declared.verdict.Verdict.TheVariants as verdict
use Rattle.gj_publish.specs.Seats.{SeatView, Numbers}
use Rattle.gj_reply.specs.declared.fixed.Fixed.{Fixed}
use Rattle.gj_reply.specs.declared.fixed.Fixed.TheVariants as fixed
use Rattle.gj_reply.specs.declared.reply.Reply.{Reply}
use Rattle.gj_reply.specs.declared.reply.Reply.TheVariants as replies
use Rattle.gj_session.specs.Answers.{AnswersAsk, AnswersQuery}
use Rattle.gj_session.specs.AnsweringLaws.{begins_then}
use Rattle.gj_session.specs.Batches.{AnswersBatch, SaysOfBatch, FixedOfBatch}
use Rattle.gj_session.specs.Heard.{heard, lack_of}
use Rattle.gj_session.specs.Loop.{LedBy}
use Rattle.gj_session.specs.Marks.{Mark}
use Rattle.gj_session.specs.NotedBatches.{AnswersJudged, AnswersNoted, AnswersRepeat, Lacks}
use Rattle.gj_session.specs.Outcomes.{is_store, is_full, is_apart, is_no_look, is_repeated, is_old, is_skipped}
use Rattle.gj_session.specs.Runs.{Exchange, Run}
use Rattle.gj_session.specs.SeatLaws.{same_seat}
use Rattle.gj_session.specs.SeatRuns.{mark_of, is_look, is_fresh, entered_by, entered_in, Counted, CountedOne, SeatAnswers, SeatRan}
use Rattle.gj_session.specs.declared.outcome.Outcome.{Outcome}
use Rattle.gj_session.specs.declared.outcome.Outcome.TheVariants.{Says, Stands}
use Rattle.gj_session.specs.IndexRuns.{one_if}
use Rattle.gj_base.specs.Streams.{Made}
use Rattle.gj_session.proofs.RunLemmas.{count_more, rose_more, answers_message}
use Rattle.gj_base.proofs.StreamLemmas.{made_then}

made_more : (p : Exchange → Bool) (e : Exchange) (es : List Exchange) (a b c : ℕ) → Made (one_if (p e)) a b → Made (count_by p es) b c → Made (count_by p (e ∷ es)) a c
made_more p e es a b c x y = subst (λ (n : ℕ). Made n a c) (sym (count_more p e es)) (made_then (one_if (p e)) (count_by p es) a b c x y)

counted_then : (a b c : Numbers) (e : Exchange) (es : List Exchange) → CountedOne a b (heard e.message) e.outcome → Counted b c es → Counted a c (e ∷ es)
counted_then a b c e es x y = record {
  looks = rose_more (λ e. is_look (heard e.message) e.outcome) e es a.looks b.looks c.looks x.looks y.looks;
  refused = made_more (λ e. is_no_look e.outcome) e es a.refused b.refused c.refused x.refused y.refused;
  store = rose_more (λ e. is_store e.outcome) e es a.store b.store c.store x.store y.store;
  full = rose_more (λ e. is_full e.outcome) e es a.full b.full c.full x.full y.full;
  apart = rose_more (λ e. is_apart e.outcome) e es a.apart b.apart c.apart x.apart y.apart;
  fresh = rose_more (λ e. is_fresh (heard e.message) e.outcome) e es a.judged_fresh b.judged_fresh c.judged_fresh x.fresh y.fresh;
  repeated = rose_more (λ e. is_repeated e.outcome) e es a.judged_repeat b.judged_repeat c.judged_repeat x.repeated y.repeated;
  old = rose_more (λ e. is_old e.outcome) e es a.judged_old b.judged_old c.judged_old x.old y.old;
  skipped = rose_more (λ e. is_skipped e.outcome) e es a.judged_skipped b.judged_skipped c.judged_skipped x.skipped y.skipped;
}

says_enters : (seat : ℕ) (a : Mark) (batch : List Item) (reply : Reply) (b : Mark) → SaysOfBatch false seat a batch reply b → b.entered ≡ a.entered + entered_by (Ok (asks.Items batch)) (Says reply)
says_enters seat a batch (replies.Posted from to) b x = x.entered
says_enters seat a batch (replies.Full n) b x = ap (λ (m : Mark). m.entered) x.same ∙ sym (add-zero a.entered)
says_enters seat a batch replies.Store b x = x.1 ∙ sym (add-zero a.entered)
says_enters seat a batch (replies.Apart seen shown posted counts) b x = x.moves.1 ∙ sym (add-zero a.entered)
says_enters seat a batch _ b x = absurd x

stands_enters : (seat : ℕ) (a : Mark) (batch : List Item) (lack which : Fixed) (b : Mark) → FixedOfBatch false seat a batch lack which b → b.entered ≡ a.entered + entered_by (Ok (asks.Items batch)) (Stands which)
stands_enters seat a batch lack fixed.Accepted b x = x.1
stands_enters seat a batch lack fixed.NoLook b x = ap (λ (m : Mark). m.entered) x.1 ∙ sym (add-zero a.entered)
stands_enters seat a batch lack fixed.Memory b x = x.1.1 ∙ sym (add-zero a.entered)
stands_enters seat a batch lack fixed.NotAccepted b x = x.1.1 ∙ sym (add-zero a.entered)

query_enters : (conf : Configuration) (a : Mark) (query : Query) (lack : Fixed) (o : Outcome) (b : Mark) → AnswersQuery conf false a query lack o b → b.entered ≡ a.entered
query_enters conf a query lack o b (inl x) = x.0.1
query_enters conf a query lack o b (inr x) = ap (λ (m : Mark). m.entered) x.1

batch_enters : (seat : ℕ) (a : Mark) (batch : List Item) (lack : Fixed) (o : Outcome) (b : Mark) → AnswersBatch false seat a batch lack o b → b.entered ≡ a.entered + entered_by (Ok (asks.Items batch)) o
batch_enters seat a batch lack (Says reply) b x = says_enters seat a batch reply b x
batch_enters seat a batch lack (Stands which) b x = stands_enters seat a batch lack which b x

-- a numbered batch enters by the answers by which any batch does
as_batch : (batch : NotedBatch) (o : Outcome) → entered_by (Ok (asks.Items batch.items)) o ≡ entered_by (Ok (asks.Noted batch)) o
as_batch batch (Stands which) = by_fixed which
  where
    by_fixed : (which : Fixed) → entered_by (Ok (asks.Items batch.items)) (Stands which) ≡ entered_by (Ok (asks.Noted batch)) (Stands which)
    by_fixed fixed.Accepted = refl
    by_fixed _ = refl
as_batch batch (Says (replies.Posted from to)) = refl
as_batch batch (Says _) = refl

-- and by no other
none_by : (batch : NotedBatch) (a b : Mark) (o other : Outcome) → o ≡ other → entered_by (Ok (asks.Noted batch)) other ≡ 0 → b.entered ≡ a.entered
    → b.entered ≡ a.entered + entered_by (Ok (asks.Noted batch)) o
none_by batch a b o other e none same = same ∙ sym (add-zero a.entered) ∙ ap (λ n. a.entered + n) (sym (ap (entered_by (Ok (asks.Noted batch))) e ∙ none))

lacks_enters : (batch : NotedBatch) (a : Mark) (o : Outcome) (b : Mark) → Lacks false a o b → b.entered ≡ a.entered + entered_by (Ok (asks.Noted batch)) o
lacks_enters batch a o b x = elim x.0 [
  | inl e ↦ none_by batch a b o (Stands fixed.Memory) e refl x.1.1
  | inr e ↦ none_by batch a b o (Stands fixed.NotAccepted) e refl x.1.1
]

repeat_enters : (batch : NotedBatch) (a : Mark) (receipt : Receipt) (o : Outcome) (b : Mark) → AnswersRepeat false a receipt o b → b.entered ≡ a.entered + entered_by (Ok (asks.Noted batch)) o
repeat_enters batch a receipt (Says (replies.Repeated from to)) b x = x.moves.1 ∙ sym (add-zero a.entered)
repeat_enters batch a receipt (Says (replies.Apart seen shown posted counts)) b x = x.moves.1 ∙ sym (add-zero a.entered)
repeat_enters batch a receipt (Says _) b x = absurd x
repeat_enters batch a receipt (Stands fixed.NoLook) b x = ap (λ (m : Mark). m.entered) x.1 ∙ sym (add-zero a.entered)
repeat_enters batch a receipt (Stands _) b x = absurd x

judged_enters : (v : Verdict) (batch : NotedBatch) (seat : ℕ) (a : Mark) (o : Outcome) (b : Mark) → AnswersJudged false seat a batch.items v o b → b.entered ≡ a.entered + entered_by (Ok (asks.Noted batch)) o
judged_enters verdict.Fresh batch seat a o b x = batch_enters seat a batch.items fixed.NotAccepted o b x ∙ ap (λ n. a.entered + n) (as_batch batch o)
judged_enters (verdict.Repeat receipt) batch seat a o b x = repeat_enters batch a receipt o b x
judged_enters (verdict.Old last) batch seat a o b x = none_by batch a b o (Says (replies.Old last)) x.0 refl x.1.1
judged_enters (verdict.Skipped last) batch seat a o b x = none_by batch a b o (Says (replies.Skipped last)) x.0 refl x.1.1

noted_enters : (seat : ℕ) (a : Mark) (batch : NotedBatch) (o : Outcome) (b : Mark) → AnswersNoted false seat a batch o b → b.entered ≡ a.entered + entered_by (Ok (asks.Noted batch)) o
noted_enters seat a batch o b x = elim x.1 [
  | inl lacks ↦ lacks_enters batch a o b lacks
  | inr answered ↦ judged_enters (judged x.0 batch.producer batch.number) batch seat a o b answered
]

-- as many have entered as the answer says
ask_enters : (conf : Configuration) (seat : ℕ) (a : Mark) (ask : Result Ask Reply) (lack : Fixed) (o : Outcome) (b : Mark) → AnswersAsk conf false seat a ask lack o b → b.entered ≡ a.entered + entered_by ask o
ask_enters conf seat a (Ok (asks.Items batch)) lack o b x = batch_enters seat a batch lack o b x.0
ask_enters conf seat a (Ok (asks.Noted batch)) lack o b x = noted_enters seat a batch o b x.0
ask_enters conf seat a (Ok (asks.Query query)) lack o b x = query_enters conf a query lack o b x.0 ∙ sym (add-zero a.entered)
ask_enters conf seat a (Err reply) lack o b x = ap (λ (m : Mark). m.entered) x.1 ∙ sym (add-zero a.entered)

-- a sum over exchanges, one further
entered_then : (e : Exchange) (es : List Exchange) → entered_in (e ∷ es) ≡ entered_by (heard e.message) e.outcome + entered_in es
entered_then e es = omega (arith, sum_by-append (λ (e : Exchange). entered_by (heard e.message) e.outcome) (e ∷ []) es)

none_ran : (conf : Configuration) (s : SeatView) → SeatRan conf s s []
none_ran conf s = record {
  same = same_seat s;
  run = refl;
  entered = sym (add-zero s.posted);
  few = omega arith;
  in_range = inl refl;
  counts = record { looks = omega arith; refused = record { low = omega arith; high = omega arith }; store = omega arith; full = omega arith; apart = omega arith; fresh = omega arith; repeated = omega arith; old = omega arith; skipped = omega arith };
}

few_by : (p q n : ℕ) → q ≡ p + n → (q ≡ p) ⊎ (q ≤ 2 ^ 48) → n ≤ 2 ^ 48
few_by p q n e (inl same) = omega (arith, e, same)
few_by p q n e (inr low) = omega (arith, e, low)

last_then : (p q r : ℕ) → (q ≡ p) ⊎ (q ≤ 2 ^ 48) → (r ≡ q) ⊎ (r ≤ 2 ^ 48) → (r ≡ p) ⊎ (r ≤ 2 ^ 48)
last_then p q r x (inr low) = inr low
last_then p q r (inl e) (inl f) = inl (f ∙ e)
last_then p q r (inr low) (inl f) = inr (omega (arith, low, f))

-- what a seat answers
abbrev pub SeatMay : Configuration → SeatView → Result Ask Reply → Fixed → Outcome → SeatView → Type 0
SeatMay conf x ask lack o y = SeatAnswers conf x y ask lack o

pub seat_ran : (conf : Configuration) (x y : SeatView) (es : List Exchange) → LedBy SeatView (SeatMay conf) x y es → SeatRan conf x y es
seat_ran conf x y [] e = subst (λ (s : SeatView). SeatRan conf x s []) (sym e) (none_ran conf x)
seat_ran conf x y (e ∷ es) l =
    let mid : SeatView = l.0 in
    let one = l.1.0 in
    let rest = seat_ran conf mid y es l.1.1 in
    let run : Run conf false x.number (mark_of mid) (mark_of y) es = rw (← one.same.number) rest.run in
    let first = ask_enters conf x.number (mark_of x) (heard e.message) (lack_of e.message) e.outcome (mark_of mid) one.answers in
    let more = entered_then e es in
    let later = rest.entered in
    let entered : y.posted ≡ x.posted + entered_in (e ∷ es) = omega (arith, first, more, later) in
    let last = last_then x.posted mid.posted y.posted one.few rest.in_range in
    record {
      same = record { later = begins_then x.front mid.front y.front one.same.later rest.same.later; number = rest.same.number ∙ one.same.number };
      run = (mark_of mid, (answers_message conf false x.number (mark_of x) e.message e.outcome (mark_of mid) one.answers, run));
      entered = entered;
      few = few_by x.posted y.posted (entered_in (e ∷ es)) entered last;
      in_range = last;
      counts = counted_then x.numbers mid.numbers y.numbers e es one.counts rest.counts;
    }
