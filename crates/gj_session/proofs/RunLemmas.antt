-- What a run says of an index that answers alone.
use Rattle.std.proofs.Common.{◌≡◌, ℕ, ◌+◌, ◌==◌, ◌∙◌, Bool, true, false, List, [], ◌∷◌, length, count_by, cond, Result, refl, ap, sym, subst, arith, length-append, eq-eqb}
use Rattle.std.proofs.lemmas.List.{length-map}
use Rattle.std.proofs.lemmas.List.Sums.{sum_by-append}
use Rattle.gj_base.specs.Causes.{RoseBy}
use Rattle.gj_base.specs.Configuration.{Configuration}
use Rattle.gj_base.specs.History.{length_of, extend, entries_by}
use Rattle.gj_base.specs.declared.ask.Ask.{Ask}
use Rattle.gj_base.specs.declared.history.History.{History}
use Rattle.gj_base.specs.declared.item.Entry.{Entry}
use Rattle.gj_base.specs.declared.item.Item.{Item}
use Rattle.gj_http.specs.Request.{Request}
use Rattle.gj_reply.specs.declared.fixed.Fixed.{Fixed}
use Rattle.gj_reply.specs.declared.reply.Reply.{Reply}
use Rattle.gj_session.specs.Answers.{Answers, AnswersAsk}
use Rattle.gj_session.specs.Heard.{heard, lack_of}
use Rattle.gj_session.specs.IndexRuns.{IndexAt, IndexAnswers, IndexRan, one_if}
use Rattle.gj_session.specs.Loop.{LedBy}
use Rattle.gj_session.specs.Marks.{Mark, mark_at, entries_of}
use Rattle.gj_session.specs.Outcomes.{is_store}
use Rattle.gj_session.specs.Runs.{Exchange, Run, stores_in}
use Rattle.gj_session.specs.declared.outcome.Outcome.{Outcome}

-- a count, one member further
pub count_more : {X : Type 0} (p : X → Bool) (x : X) (xs : List X) → count_by p (x ∷ xs) ≡ one_if (p x) + count_by p xs
count_more p x xs = omega (arith, sum_by-append (λ y. cond (p y) 1 0) (x ∷ []) xs)

pub rose_then : (n m f0 f1 f2 : ℕ) → RoseBy n f0 f1 → RoseBy m f1 f2 → RoseBy (n + m) f0 f2
rose_then n m f0 f1 f2 x y = omega arith

-- a count of exchanges rises as it rises by one and by the rest
pub rose_more : (p : Exchange → Bool) (e : Exchange) (es : List Exchange) (a b c : ℕ) → RoseBy (one_if (p e)) a b → RoseBy (count_by p es) b c → RoseBy (count_by p (e ∷ es)) a c
rose_more p e es a b c x y = subst (λ (n : ℕ). RoseBy n a c) (sym (count_more p e es)) (rose_then (one_if (p e)) (count_by p es) a b c x y)

-- no answer by the store's fault, one exchange further
none_more : (e : Exchange) (es : List Exchange) → is_store e.outcome ≡ false → stores_in es ≡ 0 → stores_in (e ∷ es) ≡ 0
none_more e es kept none =
    let more = count_more (λ (x : Exchange). is_store x.outcome) e es in
    let zero = ap one_if kept in
    omega (arith, more, zero, none)

-- an ask that was answered is a message that was answered
pub answers_message : (conf : Configuration) (alone : Bool) (seat : ℕ) (a : Mark) (m : Request) (o : Outcome) (b : Mark)
    → AnswersAsk conf alone seat a (heard m) (lack_of m) o b → Answers conf alone seat a m o b
unfolding Answers
answers_message conf alone seat a m o b x = x

-- what an index answers
abbrev pub IndexMay : (S : Type 0) (at : S → IndexAt) → S → Result Ask Reply → Fixed → Outcome → S → Type 0
IndexMay S at x ask lack o y = IndexAnswers (at x) (at y) ask lack o

none_ran : (a : IndexAt) → IndexRan a a []
none_ran a = record {
  same = refl;
  runs = λ h seat shows. (h, (refl, record { shows = shows; keeps = λ kept. kept }));
  stores = omega arith;
  steady = λ sure. (refl, sure);
}

pub index_ran : (S : Type 0) (at : S → IndexAt) (x y : S) (es : List Exchange) → LedBy S (IndexMay S at) x y es → IndexRan (at x) (at y) es
index_ran S at x y [] e = subst (λ (s : S). IndexRan (at x) (at s) []) (sym e) (none_ran (at x))
index_ran S at x y (e ∷ es) l =
    let one = l.1.0 in
    let rest = index_ran S at l.0 y es l.1.1 in
    record {
      same = rest.same ∙ one.same;
      runs = λ h seat shows.
          let first = one.answers h seat shows in
          let later = rest.runs first.0 seat first.1.1.shows in
          let conf = (at x).viewed in
          let run : Run (record { capacity = conf.capacity; segments = conf.segments }) true seat (mark_at seat first.0 (at l.0).noted) (mark_at seat later.0 (at y).noted) es = rw (← one.same) later.1.0 in (
            later.0,
            (
              (mark_at seat first.0 (at l.0).noted, (answers_message _ true seat (mark_at seat h (at x).noted) e.message e.outcome (mark_at seat first.0 (at l.0).noted) first.1.0, run)),
              record { shows = later.1.1.shows; keeps = λ kept. later.1.1.keeps (first.1.1.keeps kept) },
            ),
          );
      stores = rose_more (λ e. is_store e.outcome) e es (at x).faults (at l.0).faults (at y).faults one.stores rest.stores;
      steady = λ sure.
          let first = one.steady sure in
          let later = rest.steady first.1 in
          (none_more e es first.0 later.0, later.1);
    }

pub length_extend : (h : History) (seat : ℕ) (items : List Item) → length_of (extend h (entries_by seat items)) ≡ length_of h + length items
length_extend h seat items = omega (arith, length-append h.entries (entries_by seat items), length-map items (λ (x : Item). (let e : Entry = record { item = x; by = seat } in e)))

-- all entries of the seat's batch are by it
own_entries : (seat : ℕ) (items : List Item) → count_by (λ (e : Entry). e.by == seat) (entries_by seat items) ≡ length items
own_entries seat [] = refl
own_entries seat (x ∷ items) =
    let e : Entry = record { item = x; by = seat } in
    let step = count_more (λ (e : Entry). e.by == seat) e (entries_by seat items) in
    let here : one_if (seat == seat) ≡ one_if true = ap one_if (eq-eqb seat seat refl) in
    omega (arith, step, here, own_entries seat items)

pub entered_more : (h : History) (seat : ℕ) (items : List Item) → entries_of seat (extend h (entries_by seat items)) ≡ entries_of seat h + length items
entered_more h seat items =
    sum_by-append (λ (e : Entry). cond (e.by == seat) 1 0) h.entries (entries_by seat items) ∙ ap (λ n. entries_of seat h + n) (own_entries seat items)
