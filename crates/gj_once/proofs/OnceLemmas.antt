-- A list of posts, made where nothing was noted, takes each numbered batch once, if what is told of each is so.
use Rattle.std.proofs.Common.{◌≡◌, ◌≢◌, ◌+◌, ◌-◌, ◌<◌, ◌≤◌, ◌⊎◌, inl, inr, ℕ, zero, suc, List, [], ◌∷◌, ◌++◌, length, take, drop, slice_get, Option, Some, None, refl, ap, sym, subst, ◌∙◌, arith, Result, Ok, Err, length-set, get_or-set_other, get_or-set_same}
use Rattle.std.proofs.lemmas.Bool.Decides.{eqb_tells, nat_tests}
use Rattle.std.proofs.lemmas.List.{map-append, length-map}
use Rattle.std.proofs.Math.Seq.{drop-append-add, take-append_seam}
use Rattle.gj_base.specs.Asks.{NotedBatch, IsNotedBatch}
use Rattle.gj_base.specs.History.{extend, items_of, length_of}
use Rattle.gj_base.specs.declared.history.History.{History}
use Rattle.gj_base.specs.declared.item.Entry.{Entry}
use Rattle.gj_base.specs.declared.item.Item.{Item}
use Rattle.gj_base.specs.declared.item.Receipt.{Receipt}
use Rattle.gj_once.specs.declared.noted_index.Noted.{Noted}
use Rattle.gj_once.specs.declared.noted_index.Noted.TheVariants.{New, Repeated}
use Rattle.gj_once.specs.declared.noted_index.OnceError.{OnceError}
use Rattle.gj_once.specs.declared.posting.Call.{Call}
use Rattle.gj_once.specs.declared.posting.Call.TheVariants as asked
use Rattle.gj_once.specs.declared.verdict.LastBatch.{LastBatch}
use Rattle.gj_once.specs.declared.verdict.Verdict.{Verdict}
use Rattle.gj_once.specs.declared.verdict.Verdict.TheVariants.{Fresh, Repeat, Old, Skipped}
use Rattle.gj_once.specs.Judging.{judged, last_of, no_batch, nothing_noted, noting}
use Rattle.gj_once.specs.NotedPosts.{Answers}
use Rattle.gj_once.specs.PostLists.{AreAnswers, EnteredBefore, EntersAt, Holds, IsAnswer, OnceOnly, Post, RepeatsAt, Takes, entered, entering, items_in, noted_by, posts_of, told_of}
use Rattle.gj_once.proofs.JudgingLemmas.{nothing_length, nothing_of}

-- what a verdict says of the number
fresh_number : (lasts : List LastBatch) (producer number : ℕ) → judged lasts producer number ≡ Fresh → number ≡ (last_of lasts producer).number + 1
unfolding judged
fresh_number lasts producer number e = grind (arith, nat_tests)

repeat_last : (lasts : List LastBatch) (producer number : ℕ) (r : Receipt) → judged lasts producer number ≡ Repeat r → last_of lasts producer ≡ record { number = number; receipt = r }
unfolding judged
repeat_last lasts producer number r e =
    let n : (last_of lasts producer).number ≡ number = grind (arith, nat_tests) in
    let q : (last_of lasts producer).receipt ≡ r = grind (arith, nat_tests) in
    let with_number : ℕ → LastBatch = λ m. record { number = m; receipt = (last_of lasts producer).receipt } in
    let with_receipt : Receipt → LastBatch = λ p. record { number = number; receipt = p } in
    ap with_number n ∙ ap with_receipt q

-- what an answer says of the verdict
new_verdict : (v : Verdict) (r : Receipt) → Answers v (Ok (New r)) → v ≡ Fresh
new_verdict Fresh r a = refl
new_verdict (Repeat q) r a = absurd (cc)
new_verdict (Old last) r a = absurd (cc)
new_verdict (Skipped last) r a = absurd (cc)

repeated_verdict : (v : Verdict) (r : Receipt) → Answers v (Ok (Repeated r)) → v ≡ Repeat r
repeated_verdict Fresh r a = absurd a
repeated_verdict (Repeat q) r a = cc
repeated_verdict (Old last) r a = absurd (cc)
repeated_verdict (Skipped last) r a = absurd (cc)

-- what is told of the batch is so, where this is noted and the history has this length
abbrev pub IsSo : List LastBatch → ℕ → Call → Option Noted → Type 0
IsSo lasts before (asked.Plain items) (Some (New r)) = Takes before items r
IsSo lasts before (asked.Plain items) (Some (Repeated r)) = ⊥
IsSo lasts before (asked.Plain items) None = Unit {0}
IsSo lasts before (asked.Noted batch) (Some (New r)) = IsNotedBatch batch × (judged lasts batch.producer batch.number ≡ Fresh) × Takes before batch.items r
IsSo lasts before (asked.Noted batch) (Some (Repeated r)) = IsNotedBatch batch × (judged lasts batch.producer batch.number ≡ Repeat r)
IsSo lasts before (asked.Noted batch) None = Unit {0}

-- what is told of each, where the earlier posts are noted
abbrev pub AreSo : List LastBatch → ℕ → List Post → Type 0
AreSo lasts before [] = Unit {0}
AreSo lasts before (post ∷ posts) =
    IsSo lasts before post.call post.told
    × AreSo (noted_by lasts post.call post.told) (before + length (entering post.call post.told)) posts

-- what an index answers is so
is_so : (lasts : List LastBatch) (before : ℕ) (call : Call) (answer : Result Noted OnceError) → IsAnswer lasts before call answer → IsSo lasts before call (told_of answer)
is_so lasts before (asked.Plain items) (Ok (New r)) is = is.1
is_so lasts before (asked.Plain items) (Ok (Repeated r)) is = is.0
is_so lasts before (asked.Plain items) (Err why) is = tt
is_so lasts before (asked.Noted batch) (Ok (New r)) is = (is.0, new_verdict _ r is.1, is.2)
is_so lasts before (asked.Noted batch) (Ok (Repeated r)) is = (is.0, repeated_verdict _ r is.1)
is_so lasts before (asked.Noted batch) (Err why) is = tt

pub are_so : (lasts : List LastBatch) (before : ℕ) (calls : List Call) (answers : List (Result Noted OnceError)) → AreAnswers lasts before calls answers
    → AreSo lasts before (posts_of calls answers)
are_so lasts before calls [] are = tt
are_so lasts before [] (answer ∷ answers) are = tt
are_so lasts before (call ∷ calls) (answer ∷ answers) are = (is_so lasts before call answer are.0, are_so (noted_by lasts call (told_of answer)) (before + length (entering call (told_of answer))) calls answers are.1)

-- what is noted of the producer, and of another one
noted_same : (lasts : List LastBatch) (producer number : ℕ) (r : Receipt) → length lasts ≡ 1024 → 1 ≤ producer → producer ≤ 1024
    → last_of (noting lasts producer number r) producer ≡ record { number = number; receipt = r }
noted_same lasts producer number r long low high =
    let in_range : producer - 1 < length lasts = omega arith in
    get_or-set_same lasts (producer - 1) (record { number = number; receipt = r }) no_batch in_range

noted_other : (lasts : List LastBatch) (producer other number : ℕ) (r : Receipt) → 1 ≤ producer → 1 ≤ other → other ≢ producer
    → last_of (noting lasts producer number r) other ≡ last_of lasts other
noted_other lasts producer other number r low other_low apart =
    let ne : other - 1 ≢ producer - 1 = λ e. apart (omega arith) in
    get_or-set_other lasts (producer - 1) (other - 1) (record { number = number; receipt = r }) no_batch ne

noted_length : (lasts : List LastBatch) (call : Call) (told : Option Noted) → length lasts ≡ 1024 → length (noted_by lasts call told) ≡ 1024
noted_length lasts (asked.Plain items) told long = long
noted_length lasts (asked.Noted batch) (Some (New r)) long = length-set lasts (batch.producer - 1) (record { number = batch.number; receipt = r }) ∙ long
noted_length lasts (asked.Noted batch) (Some (Repeated r)) long = long
noted_length lasts (asked.Noted batch) None long = long

-- no post lowers a number that is noted
noted_later : (lasts : List LastBatch) (before producer : ℕ) (call : Call) (told : Option Noted) → length lasts ≡ 1024 → 1 ≤ producer → IsSo lasts before call told
    → (last_of lasts producer).number ≤ (last_of (noted_by lasts call told) producer).number
noted_later lasts before producer (asked.Plain items) told long low is = omega arith
noted_later lasts before producer (asked.Noted batch) (Some (New r)) long low is =
    elim (eqb_tells producer batch.producer) [
      | inl same ↦
          let next : batch.number ≡ (last_of lasts batch.producer).number + 1 = fresh_number lasts batch.producer batch.number is.1 in
          let P : ℕ → Type 0 = λ p. (last_of lasts p).number ≤ (last_of (noting lasts batch.producer batch.number r) p).number in
          let now = ap (λ (last : LastBatch). last.number) (noted_same lasts batch.producer batch.number r long is.0.producer_low is.0.producer_high) in
          let here : P batch.producer = omega arith in
          subst P (sym same.1) here
      | inr apart ↦
          let e = ap (λ (last : LastBatch). last.number) (noted_other lasts batch.producer producer batch.number r is.0.producer_low low apart.1) in
          omega arith
    ]
noted_later lasts before producer (asked.Noted batch) (Some (Repeated r)) long low is = omega arith
noted_later lasts before producer (asked.Noted batch) None long low is = omega arith

-- the post at the head of a list
head_is : (post : Post) (posts : List Post) (call : Call) (told : Option Noted) → slice_get (post ∷ posts) 0 ≡ Some (record { call = call; told = told })
    → post ≡ record { call = call; told = told }
head_is post posts call told at = cc

head_so : (lasts : List LastBatch) (before : ℕ) (post : Post) (call : Call) (told : Option Noted) → post ≡ record { call = call; told = told }
    → IsSo lasts before post.call post.told → IsSo lasts before call told
head_so lasts before post call told same is =
    let P : Post → Type 0 = λ p. IsSo lasts before p.call p.told in
    subst P same is

head_noted : (lasts : List LastBatch) (post : Post) (call : Call) (told : Option Noted) → post ≡ record { call = call; told = told }
    → noted_by lasts post.call post.told ≡ noted_by lasts call told
head_noted lasts post call told same = ap (λ (p : Post). noted_by lasts p.call p.told) same

-- what enters has a number above the one that is noted
above : (lasts : List LastBatch) (before producer : ℕ) (posts : List Post) (i : ℕ) (b : NotedBatch) (r : Receipt) → length lasts ≡ 1024 → 1 ≤ producer
    → AreSo lasts before posts → EntersAt posts i (asked.Noted b) r → b.producer ≡ producer → (last_of lasts producer).number < b.number
above lasts before producer [] i b r long low are at its = absurd (cc)
above lasts before producer (post ∷ posts) zero b r long low are at its =
    let is = head_so lasts before post (asked.Noted b) (Some (New r)) (head_is post posts (asked.Noted b) (Some (New r)) at) are.0 in
    let next : b.number ≡ (last_of lasts b.producer).number + 1 = fresh_number lasts b.producer b.number is.1 in
    let P : ℕ → Type 0 = λ p. (last_of lasts p).number < b.number in
    let here : P b.producer = omega arith in
    subst P its here
above lasts before producer (post ∷ posts) (suc i) b r long low are at its =
    let more = noted_later lasts before producer post.call post.told long low are.0 in
    let rest : (last_of (noted_by lasts post.call post.told) producer).number < b.number =
    above (noted_by lasts post.call post.told) _ producer posts i b r (noted_length lasts post.call post.told long) low are.1 at its in
    omega arith

-- what follows a batch that entered has a higher number
above_head : (lasts : List LastBatch) (before : ℕ) (post : Post) (posts : List Post) (j : ℕ) (a b : NotedBatch) (q r : Receipt) → length lasts ≡ 1024 → AreSo lasts before (post ∷ posts)
    → EntersAt (post ∷ posts) 0 (asked.Noted a) q → EntersAt posts j (asked.Noted b) r → a.producer ≡ b.producer → a.number < b.number
above_head lasts before post posts j a b q r long are first at its =
    let same = head_is post posts (asked.Noted a) (Some (New q)) first in
    let is = head_so lasts before post (asked.Noted a) (Some (New q)) same are.0 in
    let e : last_of (noted_by lasts post.call post.told) a.producer ≡ record { number = a.number; receipt = q } =
    ap (λ l. last_of l a.producer) (head_noted lasts post (asked.Noted a) (Some (New q)) same) ∙ noted_same lasts a.producer a.number q long is.0.producer_low is.0.producer_high in
    let n = ap (λ (last : LastBatch). last.number) e in
    let h : (last_of (noted_by lasts post.call post.told) a.producer).number < b.number =
    above (noted_by lasts post.call post.told) _ a.producer posts j b r (noted_length lasts post.call post.told long) is.0.producer_low are.1 at (sym its) in
    omega arith

-- of each producer and number at most one batch enters
one_enters : (lasts : List LastBatch) (before : ℕ) (posts : List Post) (i j : ℕ) (a b : NotedBatch) (q r : Receipt) → length lasts ≡ 1024 → AreSo lasts before posts
    → EntersAt posts i (asked.Noted a) q → EntersAt posts j (asked.Noted b) r → a.producer ≡ b.producer → a.number ≡ b.number → i ≡ j
one_enters lasts before [] i j a b q r long are first second producer number = absurd (cc)
one_enters lasts before (post ∷ posts) zero zero a b q r long are first second producer number = refl
one_enters lasts before (post ∷ posts) zero (suc j) a b q r long are first second producer number =
    let h = above_head lasts before post posts j a b q r long are first second producer in
    absurd (omega arith)
one_enters lasts before (post ∷ posts) (suc i) zero a b q r long are first second producer number =
    let h = above_head lasts before post posts i b a r q long are second first (sym producer) in
    absurd (omega arith)
one_enters lasts before (post ∷ posts) (suc i) (suc j) a b q r long are first second producer number =
    ap suc (one_enters (noted_by lasts post.call post.told) _ posts i j a b q r (noted_length lasts post.call post.told long) are.1 first second producer number)

-- an earlier post stands one place later in a longer list
later_place : (post : Post) (posts : List Post) (i producer number : ℕ) (r : Receipt) → EnteredBefore posts i producer number r → EnteredBefore (post ∷ posts) (suc i) producer number r
later_place post posts i producer number r e = record {
  index = suc e.index;
  batch = e.batch;
  earlier = omega (arith, e.earlier);
  enters = e.enters;
  producer_is = e.producer_is;
  number_is = e.number_is;
}

-- what is noted after the head is what was noted, or the head
noted_head : (lasts : List LastBatch) (before : ℕ) (call : Call) (told : Option Noted) (posts : List Post) (i producer number : ℕ) (r : Receipt) → length lasts ≡ 1024 → 1 ≤ producer
    → IsSo lasts before call told → last_of (noted_by lasts call told) producer ≡ record { number = number; receipt = r }
    → (last_of lasts producer ≡ record { number = number; receipt = r }) ⊎ EnteredBefore ((record { call = call; told = told }) ∷ posts) (suc i) producer number r
noted_head lasts before (asked.Plain items) told posts i producer number r long low is e = inl e
noted_head lasts before (asked.Noted batch) (Some (New q)) posts i producer number r long low is e =
    elim (eqb_tells producer batch.producer) [
      | inl same ↦
          let its : last_of (noting lasts batch.producer batch.number q) producer ≡ record { number = batch.number; receipt = q } =
          ap (λ p. last_of (noting lasts batch.producer batch.number q) p) same.1 ∙ noted_same lasts batch.producer batch.number q long is.0.producer_low is.0.producer_high in
          let last : LastBatch = record { number = batch.number; receipt = q } in
          let given : LastBatch = record { number = number; receipt = r } in
          let both : last ≡ given = sym its ∙ e in
          inr (record {
            index = 0;
            batch = batch;
            earlier = omega arith;
            enters = ap (λ (l : LastBatch). let post : Post = record { call = asked.Noted batch; told = Some (New l.receipt) } in Some post) both;
            producer_is = sym same.1;
            number_is = ap (λ (l : LastBatch). l.number) both;
          })
      | inr apart ↦ inl (sym (noted_other lasts batch.producer producer batch.number q is.0.producer_low low apart.1) ∙ e)
    ]
noted_head lasts before (asked.Noted batch) (Some (Repeated q)) posts i producer number r long low is e = inl e
noted_head lasts before (asked.Noted batch) None posts i producer number r long low is e = inl e

-- a batch that is told to repeat is the one that was noted, or entered before
repeats : (lasts : List LastBatch) (before : ℕ) (posts : List Post) (i : ℕ) (b : NotedBatch) (r : Receipt) → length lasts ≡ 1024 → AreSo lasts before posts → RepeatsAt posts i b r
    → IsNotedBatch b × ((last_of lasts b.producer ≡ record { number = b.number; receipt = r }) ⊎ EnteredBefore posts i b.producer b.number r)
repeats lasts before [] i b r long are at = absurd (cc)
repeats lasts before (post ∷ posts) zero b r long are at =
    let is = head_so lasts before post (asked.Noted b) (Some (Repeated r)) (head_is post posts (asked.Noted b) (Some (Repeated r)) at) are.0 in
    (is.0, inl (repeat_last lasts b.producer b.number r is.1))
repeats lasts before (post ∷ posts) (suc i) b r long are at =
    let rest = repeats (noted_by lasts post.call post.told) _ posts i b r (noted_length lasts post.call post.told long) are.1 at in
    elim rest.1 as (λ _. IsNotedBatch b × ((last_of lasts b.producer ≡ record { number = b.number; receipt = r }) ⊎ EnteredBefore (post ∷ posts) (suc i) b.producer b.number r)) [
      | inl noted ↦ (rest.0, noted_head lasts before post.call post.told posts i b.producer b.number r long rest.0.producer_low are.0 noted)
      | inr earlier ↦ (rest.0, inr (later_place post posts i b.producer b.number r earlier))
    ]

-- the places that a call took
takes : (lasts : List LastBatch) (before : ℕ) (call : Call) (r : Receipt) → IsSo lasts before call (Some (New r)) → Takes before (items_in call) r
takes lasts before (asked.Plain items) r is = is
takes lasts before (asked.Noted batch) r is = is.2

-- what enters stands at its places among all that entered
record StandsAmong (all : List Item) (before : ℕ) (r : Receipt) (items : List Item) : Type 0 where
  from : before ≤ r.from
  to : r.to ≡ r.from + length items
  there : take (length items) (drop (r.from - before) all) ≡ items

stands_among : (lasts : List LastBatch) (before : ℕ) (posts : List Post) (i : ℕ) (call : Call) (r : Receipt) → AreSo lasts before posts → EntersAt posts i call r
    → StandsAmong (entered posts) before r (items_in call)
stands_among lasts before [] i call r are at = absurd (cc)
stands_among lasts before (post ∷ posts) zero call r are at =
    let same = head_is post posts call (Some (New r)) at in
    let is = takes lasts before call r (head_so lasts before post call (Some (New r)) same are.0) in
    let first : r.from ≡ before = is.0 in
    let last : r.to ≡ before + length (items_in call) = is.1 in
    let all : entered (post ∷ posts) ≡ items_in call ++ entered posts = ap (λ (p : Post). entering p.call p.told ++ entered posts) same in
    let none : r.from - before ≡ 0 = omega arith in
    let At : ℕ → Type 0 = λ n. take (length (items_in call)) (drop n (entered (post ∷ posts))) ≡ items_in call in
    let In : List Item → Type 0 = λ xs. take (length (items_in call)) xs ≡ items_in call in
    record {
      from = omega arith;
      to = omega arith;
      there = subst At (sym none) (subst In (sym all) (take-append_seam (items_in call) (entered posts)));
    }
stands_among lasts before (post ∷ posts) (suc i) call r are at =
    let first = entering post.call post.told in
    let rest = stands_among (noted_by lasts post.call post.told) (before + length first) posts i call r are.1 at in
    let low : before + length first ≤ r.from = rest.from in
    let places : r.from - before ≡ length first + (r.from - (before + length first)) = omega arith in
    let past : drop (r.from - before) (first ++ entered posts) ≡ drop (r.from - (before + length first)) (entered posts) =
    ap (λ n. drop n (first ++ entered posts)) places ∙ drop-append-add first (entered posts) (r.from - (before + length first)) in
    record {
      from = omega arith;
      to = rest.to;
      there = ap (λ xs. take (length (items_in call)) xs) past ∙ rest.there;
    }

-- the interactions of a longer history
items_longer : (h : History) (entries : List Entry) → items_of (extend h entries).entries ≡ items_of h.entries ++ items_of entries
items_longer h entries = map-append _ h.entries entries

holds : (h : History) (entries : List Entry) (all : List Item) (r : Receipt) (items : List Item) → items_of entries ≡ all → StandsAmong all (length_of h) r items → Holds (extend h entries) r items
holds h entries all r items same among =
    let low : h.first + length h.entries ≤ r.from = among.from in
    let end : r.to ≡ r.from + length items = among.to in
    let long : length (items_of h.entries) ≡ length h.entries = length-map h.entries _ in
    let places : r.from - h.first ≡ length (items_of h.entries) + (r.from - (h.first + length h.entries)) = omega arith in
    let count : (r.to - h.first) - (r.from - h.first) ≡ length items = omega arith in
    let longer : items_of (extend h entries).entries ≡ items_of h.entries ++ all = items_longer h entries ∙ ap (λ xs. items_of h.entries ++ xs) same in
    let past : drop (r.from - h.first) (items_of (extend h entries).entries) ≡ drop (r.from - (h.first + length h.entries)) all =
    ap (λ xs. drop (r.from - h.first) xs) longer ∙ (ap (λ n. drop n (items_of h.entries ++ all)) places ∙ drop-append-add (items_of h.entries) all (r.from - (h.first + length h.entries))) in
    record {
      from = omega arith;
      to = end;
      there = ap (λ n. take n (drop (r.from - h.first) (items_of (extend h entries).entries))) count ∙ (ap (λ xs. take (length items) xs) past ∙ among.there);
    }

-- the law: over a history that goes on with what entered, whoever posted it
pub once_only : (posts : List Post) (h : History) (entries : List Entry) → items_of entries ≡ entered posts → AreSo nothing_noted (length_of h) posts → OnceOnly posts (extend h entries)
once_only posts h entries same are = record {
  one = λ i j a b q r. one_enters nothing_noted (length_of h) posts i j a b q r nothing_length are;
  repeated = λ i b r at.
      let found = repeats nothing_noted (length_of h) posts i b r nothing_length are at in
      elim found.1 as (λ _. EnteredBefore posts i b.producer b.number r) [
        | inl noted ↦
            let none : (last_of nothing_noted b.producer).number ≡ 0 = ap (λ (last : LastBatch). last.number) (nothing_of b.producer) in
            let its : (last_of nothing_noted b.producer).number ≡ b.number = ap (λ (last : LastBatch). last.number) noted in
            let low = found.0.number_low in
            absurd (omega arith)
        | inr earlier ↦ earlier
      ];
  held = λ i call r at. holds h entries (entered posts) r (items_in call) same (stands_among nothing_noted (length_of h) posts i call r are at);
}
