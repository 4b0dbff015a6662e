-- Rows at places that follow each other.
use Rattle.std.proofs.Common.{◌≡◌, ℕ, zero, suc, ◌+◌, ◌-◌, ◌^◌, ◌≤◌, ◌<◌, ◌==◌, ◌&&◌, Bool, true, false, nat_le, nat_lt, List, [], ◌∷◌, ◌++◌, length, map, drop, filter, get_or, Some, None, refl, sym, ap, ◌∙◌, subst, arith}
use Rattle.std.specs.Bool.{IsTrue}
use Rattle.std.proofs.lemmas.Bool.{and_parts, and_from, eqb-true, eq-eqb, le-leb, lt-leb, ltb-true, lt-ltb}
use Rattle.gj_base.specs.declared.item.Item.{Item}
use Rattle.gj_base.specs.declared.kind.Kind.{Kind}
use Rattle.gj_base.specs.declared.kind.Kind.TheVariants.{Click, Favorite, Retweet, Reply, Tweet}
use Rattle.gj_base.specs.declared.keeper.KeptItem.{KeptItem}
use Rattle.gj_base.specs.Kinds.{kind_number}
use Rattle.gj_base.specs.Kept.{placed, row_of, next_place}
use Rattle.gj_keep.specs.Rows.{is_in_range, first_apart, item_of, kind_of}

-- each row is in range, and they stand at the places from place on
abbrev pub Follow : ℕ → List KeptItem → Type 0
Follow place [] = Unit {0}
Follow place (row ∷ rows) = IsTrue (is_in_range row) × (row.place ≡ place) × Follow (place + 1) rows

some_none : (i : ℕ) → Some i ≡ None → ⊥
some_none i e = cc

follow_step : (place i : ℕ) (row : KeptItem) (rows : List KeptItem) → (first_apart (place + 1) (i + 1) rows ≡ None → Follow (place + 1) rows)
    → (t : Bool) → (is_in_range row && (row.place == place)) ≡ t → first_apart place i (row ∷ rows) ≡ None → Follow place (row ∷ rows)
follow_step place i row rows rest true is none =
    let parts = and_parts (is_in_range row) (row.place == place) is in
    let next : first_apart (place + 1) (i + 1) rows ≡ None = rw is at none in
    (parts.0, eqb-true row.place place parts.1, rest next)
follow_step place i row rows rest false is none =
    let bad : Some i ≡ None = rw is at none in
    absurd (some_none i bad)

-- where no row is apart, they follow each other
pub follow_of : (place i : ℕ) (rows : List KeptItem) → first_apart place i rows ≡ None → Follow place rows
follow_of place i [] none = tt
follow_of place i (row ∷ rows) none =
    follow_step place i row rows (follow_of (place + 1) (i + 1) rows) (is_in_range row && (row.place == place)) refl none

pub apart_none : (place i : ℕ) (rows : List KeptItem) → Follow place rows → first_apart place i rows ≡ None
apart_none place i [] follow = refl
apart_none place i (row ∷ rows) follow =
    let is : (is_in_range row && (row.place == place)) ≡ true = and_from (is_in_range row) (row.place == place) follow.0 (eq-eqb row.place place follow.1) in
    rw is (apart_none (place + 1) (i + 1) rows follow.2)

pub record RowNumbers (row : KeptItem) : Type 0 where
  pub user : row.user < 2 ^ 63
  pub post : row.post < 2 ^ 63
  pub kind : row.kind < 5
  pub moment : row.moment < 2 ^ 63
  pub place : row.place < 2 ^ 48

-- the numbers of a row that is in range
pub numbers_of : (row : KeptItem) → IsTrue (is_in_range row) → RowNumbers row
numbers_of row is =
    let a = and_parts (nat_lt row.user (2 ^ 63)) (nat_lt row.post (2 ^ 63) && (nat_lt row.kind 5 && (nat_lt row.moment (2 ^ 63) && nat_lt row.place (2 ^ 48)))) is in
    let b = and_parts (nat_lt row.post (2 ^ 63)) (nat_lt row.kind 5 && (nat_lt row.moment (2 ^ 63) && nat_lt row.place (2 ^ 48))) a.1 in
    let c = and_parts (nat_lt row.kind 5) (nat_lt row.moment (2 ^ 63) && nat_lt row.place (2 ^ 48)) b.1 in
    let d = and_parts (nat_lt row.moment (2 ^ 63)) (nat_lt row.place (2 ^ 48)) c.1 in
    record {
      user = ltb-true row.user (2 ^ 63) a.0;
      post = ltb-true row.post (2 ^ 63) b.0;
      kind = ltb-true row.kind 5 c.0;
      moment = ltb-true row.moment (2 ^ 63) d.0;
      place = ltb-true row.place (2 ^ 48) d.1;
    }

in_range_of : (row : KeptItem) → RowNumbers row → is_in_range row ≡ true
in_range_of row is =
    and_from (nat_lt row.user (2 ^ 63)) (nat_lt row.post (2 ^ 63) && (nat_lt row.kind 5 && (nat_lt row.moment (2 ^ 63) && nat_lt row.place (2 ^ 48)))) (lt-ltb row.user (2 ^ 63) is.user)
    (and_from (nat_lt row.post (2 ^ 63)) (nat_lt row.kind 5 && (nat_lt row.moment (2 ^ 63) && nat_lt row.place (2 ^ 48))) (lt-ltb row.post (2 ^ 63) is.post)
    (and_from (nat_lt row.kind 5) (nat_lt row.moment (2 ^ 63) && nat_lt row.place (2 ^ 48)) (lt-ltb row.kind 5 is.kind)
    (and_from (nat_lt row.moment (2 ^ 63)) (nat_lt row.place (2 ^ 48)) (lt-ltb row.moment (2 ^ 63) is.moment) (lt-ltb row.place (2 ^ 48) is.place))))

follow_at : (p q : ℕ) (rows : List KeptItem) → p ≡ q → Follow p rows → Follow q rows
follow_at p q rows e follow = let P : ℕ → Type 0 = λ n. Follow n rows in subst P e follow

pub follow_drop : (k place : ℕ) (rows : List KeptItem) → Follow place rows → Follow (place + k) (drop k rows)
follow_drop zero place rows follow = follow_at place (place + 0) rows (omega arith) follow
follow_drop (suc k) place [] follow = tt
follow_drop (suc k) place (row ∷ rows) follow =
    follow_at ((place + 1) + k) (place + suc k) (drop k rows) (omega arith) (follow_drop k (place + 1) rows follow.2)

pub follow_append : (place : ℕ) (xs ys : List KeptItem) → Follow place xs → Follow (place + length xs) ys → Follow place (xs ++ ys)
follow_append place [] ys before after = follow_at (place + 0) place ys (omega arith) after
follow_append place (x ∷ xs) ys before after =
    (before.0, before.1, follow_append (place + 1) xs ys before.2 (follow_at (place + length (x ∷ xs)) ((place + 1) + length xs) ys (omega arith) after))

all_from : (b place : ℕ) (rows : List KeptItem) → b ≤ place → Follow place rows → filter (λ (r : KeptItem). nat_le b r.place) rows ≡ rows
all_from b place [] low follow = refl
all_from b place (row ∷ rows) low follow =
    let here = follow.1 in
    let yes : nat_le b row.place ≡ true = le-leb b row.place (omega arith) in
    rw yes (ap (λ (rs : List KeptItem). row ∷ rs) (all_from b (place + 1) rows (omega arith) follow.2))

filter_at : (n b place : ℕ) (rows : List KeptItem) → place + n ≡ b → Follow place rows → filter (λ (r : KeptItem). nat_le b r.place) rows ≡ drop n rows
filter_at zero b place rows e follow = all_from b place rows (omega arith) follow
filter_at (suc n) b place [] e follow = refl
filter_at (suc n) b place (row ∷ rows) e follow =
    let here = follow.1 in
    let no : nat_le b row.place ≡ false = lt-leb b row.place (omega arith) in
    rw no (filter_at n b (place + 1) rows (omega arith) follow.2)

-- the rows from a place on
pub filter_follow : (b place : ℕ) (rows : List KeptItem) → place ≤ b → Follow place rows → filter (λ (r : KeptItem). nat_le b r.place) rows ≡ drop (b - place) rows
filter_follow b place rows low follow = filter_at (b - place) b place rows (omega arith) follow

pub filter_all : (b place : ℕ) (rows : List KeptItem) → b ≤ place → Follow place rows → filter (λ (r : KeptItem). nat_le b r.place) rows ≡ rows
filter_all b place rows low follow = all_from b place rows low follow

-- the rows end below the end of the places
pub follow_end : (place : ℕ) (row : KeptItem) (rows : List KeptItem) → Follow place (row ∷ rows) → place + length (row ∷ rows) ≤ 2 ^ 48
follow_end place row [] follow =
    let at = (numbers_of row follow.0).place in
    let here = follow.1 in
    omega arith
follow_end place row (next ∷ rows) follow =
    let rest = follow_end (place + 1) next rows follow.2 in
    omega arith

pub next_follow : (place : ℕ) (row : KeptItem) (rows : List KeptItem) → Follow place (row ∷ rows) → next_place (row ∷ rows) ≡ place + length (row ∷ rows)
next_follow place row [] follow = let here = follow.1 in omega arith
next_follow place row (next ∷ rows) follow =
    next_follow (place + 1) next rows follow.2 ∙ (let e : (place + 1) + length (next ∷ rows) ≡ place + length (row ∷ next ∷ rows) = omega arith in e)

number_kind : (n : ℕ) → n < 5 → kind_number (kind_of n) ≡ n
number_kind zero low = refl
number_kind (suc zero) low = refl
number_kind (suc (suc zero)) low = refl
number_kind (suc (suc (suc zero))) low = refl
number_kind (suc (suc (suc (suc zero)))) low = refl
number_kind (suc (suc (suc (suc (suc n))))) low = absurd (omega arith)

kind_back : (kind : Kind) → kind_of (kind_number kind) ≡ kind
kind_back Click = refl
kind_back Favorite = refl
kind_back Retweet = refl
kind_back Reply = refl
kind_back Tweet = refl

-- rows that follow each other are those of their interactions
pub placed_items : (place : ℕ) (rows : List KeptItem) → Follow place rows → placed place (map item_of rows) ≡ rows
placed_items place [] follow = refl
placed_items place (row ∷ rows) follow =
    let kind : kind_number (kind_of row.kind) ≡ row.kind = number_kind row.kind (numbers_of row follow.0).kind in
    let here : row_of place (item_of row) ≡ row = λ i. record { place = sym follow.1 i; user = row.user; post = row.post; kind = kind i; moment = row.moment } in
    λ i. here i ∷ placed_items (place + 1) rows follow.2 i

-- the interactions of the rows of interactions
pub items_placed : (place : ℕ) (items : List Item) → map item_of (placed place items) ≡ items
items_placed place [] = refl
items_placed place (x ∷ items) =
    let here : item_of (row_of place x) ≡ x = λ i. record { user = x.user; post = x.post; kind = kind_back x.kind i; at = x.at } in
    λ i. here i ∷ items_placed (place + 1) items i

-- the numbers of interactions are in range
abbrev pub InRange : List Item → Type 0
InRange items = (k : ℕ) (d : Item) → k < length items → ((get_or items k d).user < 2 ^ 63) × ((get_or items k d).post < 2 ^ 63) × ((get_or items k d).at < 2 ^ 63)

kind_low : (kind : Kind) → kind_number kind < 5
kind_low Click = omega arith
kind_low Favorite = omega arith
kind_low Retweet = omega arith
kind_low Reply = omega arith
kind_low Tweet = omega arith

-- the rows of interactions follow each other
pub follow_placed : (place : ℕ) (items : List Item) → InRange items → place + length items ≤ 2 ^ 48 → Follow place (placed place items)
follow_placed place [] range room = tt
follow_placed place (x ∷ items) range room =
    let here = range zero x (omega arith) in
    let numbers : RowNumbers (row_of place x) = record { user = here.0; post = here.1; kind = kind_low x.kind; moment = here.2; place = omega arith } in
    (in_range_of (row_of place x) numbers, refl, follow_placed (place + 1) items (λ k d low. range (suc k) d (omega arith)) (omega arith))

pub placed_length : (place : ℕ) (items : List Item) → length (placed place items) ≡ length items
placed_length place [] = refl
placed_length place (x ∷ items) = ap suc (placed_length (place + 1) items)

pub follow_get : (place : ℕ) (rows : List KeptItem) (k : ℕ) (d : KeptItem) → Follow place rows → k < length rows → IsTrue (is_in_range (get_or rows k d))
follow_get place [] k d follow low = absurd (omega arith)
follow_get place (row ∷ rows) zero d follow low = follow.0
follow_get place (row ∷ rows) (suc k) d follow low = follow_get (place + 1) rows k d follow.2 (omega arith)
