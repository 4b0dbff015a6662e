-- Counts and bounds over a part of a vertex's ends.
use Rattle.std.proofs.Common.{◌≡◌, ℕ, ◌+◌, ◌-◌, ◌*◌, ◌<◌, ◌≤◌, ◌∙◌, true, false, cond, List, [], ◌∷◌, ◌++◌, length, map, filter, take, drop, get_or, count_by, slice_get, Option, Some, min, max, refl, arith, sym, ap, inl, inr}
use Rattle.std.specs.List.{Contains}
use Rattle.std.proofs.lemmas.Bool.{cases_lt, cases_Bool}
use Rattle.std.proofs.lemmas.List.{length-take, length-drop, get_or-drop, get_or_append_left, get_or_push, length_push, take_more, take_all, drop_all, get_or-take, take-map, drop-map, drop-drop, map-append}
use Rattle.std.proofs.lemmas.List.Sums.{count_by-le-length, count_by_more_yes, count_by_more_no, sum_by-cons}
use Rattle.std.proofs.lemmas.Option.{get_or_from_slice_get, slice_get-get_or}
use Rattle.gj_base.specs.declared.kind.Kind.{Kind}
use Rattle.gj_base.specs.declared.mask.Mask.{Mask}
use Rattle.gj_base.specs.Kinds.{lets}
use Rattle.gj_base.specs.Numbered.{lets_end}
use Rattle.gj_base.proofs.MaskedLemmas.{front}
use Rattle.gj_compact.specs.declared.edge.End.{End}
use Rattle.gj_compact.specs.Blocks.{block_of, moments_of, moments_between, AreBounds, lets_through}
use Rattle.gj_compact.proofs.PullLemmas.{run_within}
use Rattle.gj_compact.proofs.CompactLemmas.{dated}

-- the next end of a part
part_get : (cells : List End) (from i : ℕ) (end : End) → from ≤ i → slice_get cells i ≡ Some end → get_or (drop from cells) (i - from) end ≡ end
part_get cells from i end order is =
    let place : from + (i - from) ≡ i = omega arith in
    get_or-drop from cells (i - from) end ∙ (ap (λ (n : ℕ). get_or cells n end) place ∙ get_or_from_slice_get cells i end end is)

part_next : (from i : ℕ) → from ≤ i → i + 1 - from ≡ i - from + 1
part_next from i order = omega arith

part_below : (cells : List End) (from i : ℕ) → from ≤ i → i < length cells → i - from < length (drop from cells)
part_below cells from i order below = omega (arith, length-drop from cells)

pub part_yes : (mask : Mask) (cells : List End) (from i : ℕ) (end : End) → from ≤ i → i < length cells → slice_get cells i ≡ Some end → lets_through mask end ≡ true
    → count_by (lets_through mask) (take (i + 1 - from) (drop from cells)) ≡ count_by (lets_through mask) (take (i - from) (drop from cells)) + 1
part_yes mask cells from i end order below is passes =
    ap (λ (n : ℕ). count_by (lets_through mask) (take n (drop from cells))) (part_next from i order)
    ∙ count_by_more_yes (lets_through mask) (drop from cells) (i - from) end (part_below cells from i order below) (ap (lets_through mask) (part_get cells from i end order is) ∙ passes)

pub part_no : (mask : Mask) (cells : List End) (from i : ℕ) (end : End) → from ≤ i → i < length cells → slice_get cells i ≡ Some end → lets_through mask end ≡ false
    → count_by (lets_through mask) (take (i + 1 - from) (drop from cells)) ≡ count_by (lets_through mask) (take (i - from) (drop from cells))
part_no mask cells from i end order below is stays =
    ap (λ (n : ℕ). count_by (lets_through mask) (take n (drop from cells))) (part_next from i order)
    ∙ count_by_more_no (lets_through mask) (drop from cells) (i - from) end (part_below cells from i order below) (ap (lets_through mask) (part_get cells from i end order is) ∙ stays)

pub part_few : (mask : Mask) (cells : List End) (from i : ℕ) → count_by (lets_through mask) (take (i - from) (drop from cells)) ≤ i - from
part_few mask cells from i = omega (arith, count_by-le-length (lets_through mask) (take (i - from) (drop from cells)), length-take (i - from) (drop from cells))

pub bounds_one : (x : ℕ) → AreBounds (x ∷ []) x x
bounds_one x = record {
  low = λ i h. (let z : 0 ≡ i = omega arith in let here : get_or (x ∷ []) i 0 ≡ x = ap (λ (n : ℕ). get_or (x ∷ []) n 0) (sym z) in omega (arith, here));
  high = λ i h. (let z : 0 ≡ i = omega arith in let here : get_or (x ∷ []) i 0 ≡ x = ap (λ (n : ℕ). get_or (x ∷ []) n 0) (sym z) in omega (arith, here));
  low_held = (0, omega arith, refl);
  high_held = (0, omega arith, refl);
}

-- an element of a list stands in the longer one
held_more : (xs : List ℕ) (x y : ℕ) → Contains xs y → Contains (xs ++ x ∷ []) y
held_more xs x y held = (held.0, omega (arith, held.1, length_push xs x), get_or_append_left xs (x ∷ []) y held.0 held.1 ∙ held.2)

held_last : (xs : List ℕ) (x : ℕ) → Contains (xs ++ x ∷ []) x
held_last xs x = (length xs, omega (arith, length_push xs x), get_or_push xs x x (length xs) refl)

pub bounds_more : (xs : List ℕ) (x low high : ℕ) → AreBounds xs low high → AreBounds (xs ++ x ∷ []) (min low x) (max high x)
bounds_more xs x low high so = record {
  low = λ i h. elim (cases_lt i (length xs)) [
    | inl lt ↦ omega (arith, so.low i lt, get_or_append_left xs (x ∷ []) 0 i lt)
    | inr ge ↦ (let last : length xs ≡ i = omega (arith, length_push xs x) in omega (arith, get_or_push xs x 0 i last))
  ];
  high = λ i h. elim (cases_lt i (length xs)) [
    | inl lt ↦ omega (arith, so.high i lt, get_or_append_left xs (x ∷ []) 0 i lt)
    | inr ge ↦ (let last : length xs ≡ i = omega (arith, length_push xs x) in omega (arith, get_or_push xs x 0 i last))
  ];
  low_held = elim (cases_lt low x) [
    | inl lt ↦ (let is : min low x ≡ low = omega arith in rw is (held_more xs x low so.low_held))
    | inr ge ↦ (let is : min low x ≡ x = omega arith in rw is (held_last xs x))
  ];
  high_held = elim (cases_lt high x) [
    | inl lt ↦ (let is : max high x ≡ x = omega arith in rw is (held_last xs x))
    | inr ge ↦ (let is : max high x ≡ high = omega arith in rw is (held_more xs x high so.high_held))
  ];
}

-- the moments of one end more
pub between_more : (cells : List End) (from i : ℕ) (end : End) → from ≤ i → i < length cells → slice_get cells i ≡ Some end
    → moments_between from (i + 1) cells ≡ moments_between from i cells ++ end.at ∷ []
between_more cells from i end order below is =
    ap (λ (n : ℕ). map (λ (e : End). e.at) (take n (drop from cells))) (part_next from i order)
    ∙ (ap (map (λ (e : End). e.at)) (take_more (drop from cells) (i - from) end (part_below cells from i order below)
    ∙ ap (λ (e : End). take (i - from) (drop from cells) ++ e ∷ []) (part_get cells from i end order is))
    ∙ map-append (λ (e : End). e.at) (take (i - from) (drop from cells)) (end ∷ []))

pub between_one : (cells : List End) (from : ℕ) (end : End) → from < length cells → slice_get cells from ≡ Some end → moments_between from (from + 1) cells ≡ end.at ∷ []
between_one cells from end below is =
    let none : from - from ≡ 0 = omega arith in
    between_more cells from from end (omega arith) below is ∙ ap (λ (n : ℕ). map (λ (e : End). e.at) (take n (drop from cells)) ++ end.at ∷ []) none

-- a part of a run is a part of the cells
pub run_part : (cells : List End) (start len from to : ℕ) → from ≤ to → to ≤ len
    → take (start + to - (start + from)) (drop (start + from) cells) ≡ take (to - from) (drop from (take len (drop start cells)))
run_part cells start len from to order inside =
    let n : start + to - (start + from) ≡ to - from = omega arith in
    ap (λ (k : ℕ). take k (drop (start + from) cells)) n
    ∙ (ap (take (to - from)) (sym (drop-drop from start cells)) ∙ run_within (drop start cells) from (to - from) len (omega arith))

-- the block of a list, as far as the list goes
pub block_part : {A : Type 0} (xs : List A) (from : ℕ) → take (min (length xs) (from + 64) - from) (drop from xs) ≡ take 64 (drop from xs)
block_part xs from = elim (cases_lt (length xs) (from + 64)) [
  | inl lt ↦
      (let n : min (length xs) (from + 64) - from ≡ length xs - from = omega arith in
      ap (λ (k : ℕ). take k (drop from xs)) n
      ∙ (take_all (length xs - from) (drop from xs) (omega (arith, length-drop from xs)) ∙ sym (take_all 64 (drop from xs) (omega (arith, length-drop from xs)))))
  | inr ge ↦ (let n : min (length xs) (from + 64) - from ≡ 64 = omega arith in ap (λ (k : ℕ). take k (drop from xs)) n)
]

pub count-dated : (mask : Mask) (run : List End) → count_by (lets_end mask) (map dated run) ≡ count_by (lets_through mask) run
count-dated mask [] = refl
count-dated mask (end ∷ run) =
    let rest = count-dated mask run in
    let a = sum_by-cons (λ (e : ℕ × Kind × ℕ). cond (lets_end mask e) 1 0) (dated end) (map dated run) in
    let b = sum_by-cons (λ (e : End). cond (lets_through mask e) 1 0) end run in
    omega (arith, rest, a, b)

pub block-dated : (run : List End) (block : ℕ) → block_of block (map dated run) ≡ map dated (block_of block run)
block-dated run block = ap (take 64) (drop-map dated (64 * block) run) ∙ take-map dated 64 (drop (64 * block) run)

pub moments-dated : (run : List End) → moments_of (map dated run) ≡ map (λ (e : End). e.at) run
moments-dated [] = refl
moments-dated (end ∷ run) = let rest = moments-dated run in rw rest refl

-- the ends of a part from one of them on
pub part_from : (cells : List End) (from to k : ℕ) (end : End) → from ≤ k → k < to → to ≤ length cells → slice_get cells k ≡ Some end
    → drop (k - from) (take (to - from) (drop from cells)) ≡ end ∷ drop (k + 1 - from) (take (to - from) (drop from cells))
part_from cells from to k end order before inside is =
    let part = take (to - from) (drop from cells) in
    let long : length part ≡ to - from = omega (arith, length-take (to - from) (drop from cells), length-drop from cells) in
    let below : k - from < length part = omega arith in
    let here : get_or part (k - from) end ≡ end = get_or-take (to - from) (drop from cells) (k - from) end (omega arith) ∙ part_get cells from k end order is in
    front part (k - from) end below (slice_get-get_or part (k - from) end below ∙ ap (λ (e : End). let o : Option End = Some e in o) here)
    ∙ ap (λ (n : ℕ). end ∷ drop n part) (sym (part_next from k order))

pub filter_yes : (mask : Mask) (end : End) (ends rest : List End) → ends ≡ end ∷ rest → lets_through mask end ≡ true → filter (lets_through mask) ends ≡ end ∷ filter (lets_through mask) rest
filter_yes mask end ends rest are passes = rw (are, passes) refl

pub filter_no : (mask : Mask) (end : End) (ends rest : List End) → ends ≡ end ∷ rest → lets_through mask end ≡ false → filter (lets_through mask) ends ≡ filter (lets_through mask) rest
filter_no mask end ends rest are stays = rw (are, stays) refl

-- past a part nothing is left of it
pub part_past : (cells : List End) (from to k : ℕ) → to ≤ k → drop (k - from) (take (to - from) (drop from cells)) ≡ []
part_past cells from to k past = drop_all (k - from) (take (to - from) (drop from cells)) (omega (arith, length-take (to - from) (drop from cells)))

pub filter-dated : (mask : Mask) (run : List End) → filter (lets_end mask) (map dated run) ≡ map dated (filter (lets_through mask) run)
filter-dated mask [] = refl
filter-dated mask (end ∷ run) =
    let rest = filter-dated mask run in
    elim (cases_Bool (lets mask end.kind end.at)) [
      | inl passes ↦ rw (passes, rest) refl
      | inr stays ↦ rw (stays, rest) refl
    ]
