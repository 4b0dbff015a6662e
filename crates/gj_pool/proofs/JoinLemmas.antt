-- The lists of two pools, joined at each vertex.
use Rattle.std.proofs.Common.{◌≡◌, ◌≢◌, ℕ, zero, suc, ◌+◌, ◌-◌, ◌*◌, ◌<◌, ◌≤◌, List, [], ◌∷◌, ◌++◌, length, get_or, replicate, refl, ap, sym, ◌∙◌, subst, arith, inl, inr, append_assoc, length-append}
use Rattle.std.proofs.lemmas.Bool.{cases_eq, cases_lt}
use Rattle.std.proofs.lemmas.List.{length-set, length_push, get_or-set_same, get_or-set_other, ext_get_or, length-replicate, get_or-replicate, append-nil, get_or_append_left, get_or-append_right}
use Rattle.std.proofs.lemmas.List.Sums.{sum_by-cons, sum_by-set, get_or-le-sum_by}
use Rattle.gj_pool.specs.Levels.{spent}
use Rattle.gj_pool.specs.Lists.{cells_of, appended}
use Rattle.gj_pool.specs.Slices.{cut_for}
use Rattle.gj_pool.specs.Pools.{Pooled, joined, total_of, ArePaired, IsPool}
use Rattle.gj_pool.proofs.LevelLemmas.{spent_small, spent-first}

pub length-joined : (a b : List (List ℕ)) → length a ≡ length b → length (joined a b) ≡ length a
unfolding joined
length-joined [] b e = refl
length-joined (x ∷ a) [] e = absurd (omega arith)
length-joined (x ∷ a) (y ∷ b) e = ap suc (length-joined a b (omega arith))

pub joined-at : (a b : List (List ℕ)) (v : ℕ) → length a ≡ length b → v < length a → cells_of (joined a b) v ≡ cells_of a v ++ cells_of b v
unfolding joined
joined-at [] b v e h = absurd (omega arith)
joined-at (x ∷ a) [] v e h = absurd (omega arith)
joined-at (x ∷ a) (y ∷ b) zero e h = refl
joined-at (x ∷ a) (y ∷ b) (suc v) e h = joined-at a b v (omega arith) (omega arith)

-- two joins that agree at each vertex, the second after a push
joined-appended : (a b c d : List (List ℕ)) (v x : ℕ) → length a ≡ length b → length c ≡ length d → length c ≡ length a → cells_of c v ++ cells_of d v ≡ (cells_of a v ++ cells_of b v) ++ x ∷ [] → ((w : ℕ) → w < length a → w ≢ v → cells_of c w ++ cells_of d w ≡ cells_of a w ++ cells_of b w) → v < length a → joined c d ≡ appended (joined a b) v x
joined-appended a b c d v x ab cd ca here there within =
    let long : length (joined a b) ≡ length a = length-joined a b ab in
    let long' : length (joined c d) ≡ length c = length-joined c d cd in
    ext_get_or [] (joined c d) (appended (joined a b) v x) (long' ∙ (ca ∙ (sym long ∙ sym (length-set (joined a b) v (cells_of (joined a b) v ++ x ∷ [])))))
    (λ w h.
    let lt : w < length c = omega (arith, h, long') in
    let lt' : w < length a = omega (arith, lt, ca) in
    joined-at c d w cd lt ∙ elim (cases_eq w v) [
      | inl e ↦ rw e (here ∙ (ap (λ (l : List ℕ). l ++ x ∷ []) (sym (joined-at a b v ab within)) ∙ sym (get_or-set_same (joined a b) v (cells_of (joined a b) v ++ x ∷ []) [] (omega (arith, long)))))
      | inr ne ↦ there w lt' ne ∙ (sym (joined-at a b w ab lt') ∙ sym (get_or-set_other (joined a b) v w (cells_of (joined a b) v ++ x ∷ []) [] ne))
    ])

pub cells-appended : (a : List (List ℕ)) (v x : ℕ) → v < length a → cells_of (appended a v x) v ≡ cells_of a v ++ x ∷ []
cells-appended a v x h = get_or-set_same a v (cells_of a v ++ x ∷ []) [] h

pub cells-others : (a : List (List ℕ)) (v w x : ℕ) → w ≢ v → cells_of (appended a v x) w ≡ cells_of a w
cells-others a v w x ne = get_or-set_other a v w (cells_of a v ++ x ∷ []) [] ne

pub length-appended : (a : List (List ℕ)) (v x : ℕ) → length (appended a v x) ≡ length a
length-appended a v x = length-set a v (cells_of a v ++ x ∷ [])

-- a push on the first of the two, where the second has nothing
pub joined-first : (a b : List (List ℕ)) (v x : ℕ) → length a ≡ length b → v < length a → cells_of b v ≡ [] → joined (appended a v x) b ≡ appended (joined a b) v x
joined-first a b v x ab within none =
    joined-appended a b (appended a v x) b v x ab (length-appended a v x ∙ ab) (length-appended a v x)
    (rw (none, cells-appended a v x within) (append-nil _ ∙ ap (λ (l : List ℕ). l ++ x ∷ []) (sym (append-nil (cells_of a v)))))
    (λ w h ne. ap (λ (l : List ℕ). l ++ cells_of b w) (cells-others a v w x ne))
    within

-- a push on the second
pub joined-later : (a b : List (List ℕ)) (v x : ℕ) → length a ≡ length b → v < length a → joined a (appended b v x) ≡ appended (joined a b) v x
joined-later a b v x ab within =
    let lt : v < length b = omega arith in
    joined-appended a b a (appended b v x) v x ab (ab ∙ sym (length-appended b v x)) refl
    (ap (λ (l : List ℕ). cells_of a v ++ l) (cells-appended b v x lt) ∙ sym (append_assoc (cells_of a v) (cells_of b v) (x ∷ [])))
    (λ w h ne. ap (λ (l : List ℕ). cells_of a w ++ l) (cells-others b v w x ne))
    within

pub joined-nil : (n : ℕ) → joined (replicate n []) (replicate n []) ≡ replicate n []
unfolding joined
joined-nil zero = refl
joined-nil (suc n) = ap (λ (l : List (List ℕ)). [] ∷ l) (joined-nil n)

-- one more push is counted once
pub total-appended : (lists : List (List ℕ)) (v x : ℕ) → v < length lists → total_of (appended lists v x) ≡ total_of lists + 1
total-appended lists v x h =
    omega (arith, sum_by-set (λ (l : List ℕ). length l) lists v (cells_of lists v ++ x ∷ []) [] h, length_push (cells_of lists v) x)

pub total-nil : (n : ℕ) → total_of (replicate n []) ≡ 0
total-nil zero = refl
total-nil (suc n) = omega (arith, sum_by-cons (λ (l : List ℕ). length l) [] (replicate n []), total-nil n)

-- the slices of all vertices, three cells for each cell at most
cut_small : (a b : List (List ℕ)) → length a ≡ length b → ((v : ℕ) → v < length a → spent (length (cells_of b v) + 2) ≤ 3 * (length (cells_of a v) + length (cells_of b v))) → cut_for b ≤ 3 * total_of (joined a b)
unfolding joined
cut_small [] [] e each = omega arith
cut_small [] (y ∷ b) e each = absurd (omega arith)
cut_small (x ∷ a) [] e each = absurd (omega arith)
cut_small (x ∷ a) (y ∷ b) e each =
    let here : spent (length y + 2) ≤ 3 * (length x + length y) = each 0 (omega arith) in
    let rest : cut_for b ≤ 3 * total_of (joined a b) = cut_small a b (omega arith) (λ (v : ℕ) (h : v < length a). each (suc v) (omega arith)) in
    omega (arith, here, rest, sum_by-cons (λ (l : List ℕ). spent (length l + 2)) y b, sum_by-cons (λ (l : List ℕ). length l) (x ++ y) (joined a b), length-append x y)

pub cut_paired : (a b : List (List ℕ)) → ArePaired a b → cut_for b ≤ 3 * total_of (joined a b)
cut_paired a b p = cut_small a b p.long (λ v h. elim (p.begun v h) [
  | inl none ↦ omega (arith, ap (λ (l : List ℕ). spent (length l + 2)) none, spent-first)
  | inr two ↦ omega (arith, spent_small (length (cells_of b v) + 2), two)
])

pub paired_first : (a b : List (List ℕ)) (v x : ℕ) → ArePaired a b → v < length a → length (cells_of a v) < 2 → ArePaired (appended a v x) b × (cells_of b v ≡ [])
paired_first a b v x p within few =
    let none : cells_of b v ≡ [] = elim (p.begun v within) [ inl e ↦ e | inr two ↦ absurd (omega arith) ] in
    let more : length (cells_of (appended a v x) v) ≡ length (cells_of a v) + 1 = ap length (cells-appended a v x within) ∙ length_push (cells_of a v) x in (
      record {
        long = length-appended a v x ∙ p.long;
        begun = λ w h. elim (cases_eq w v) [
          | inl e ↦ rw e (inl none)
          | inr ne ↦ rw (cells-others a v w x ne) (p.begun w (omega (arith, h, length-appended a v x)))
        ];
        small = λ w h. elim (cases_eq w v) [
          | inl e ↦ rw e (omega (arith, more))
          | inr ne ↦ rw (cells-others a v w x ne) (p.small w (omega (arith, h, length-appended a v x)))
        ];
      },
      none,
    )

pub paired_later : (a b : List (List ℕ)) (v x : ℕ) → ArePaired a b → v < length a → length (cells_of a v) ≡ 2 → ArePaired a (appended b v x)
paired_later a b v x p within two = record {
  long = p.long ∙ sym (length-appended b v x);
  begun = λ w h. elim (cases_eq w v) [
    | inl e ↦ rw e (inr two)
    | inr ne ↦ rw (cells-others b v w x ne) (p.begun w h)
  ];
  small = p.small;
}

pub paired_nil : (n : ℕ) → ArePaired (replicate n []) (replicate n [])
paired_nil n = record {
  long = refl;
  begun = λ v h. inl (get_or-replicate n v [] [] (omega (arith, h, length-replicate n (let l : List ℕ = [] in l))));
  small = λ v h. omega (arith, ap length (get_or-replicate n v (let l : List ℕ = [] in l) [] (omega (arith, h, length-replicate n (let l : List ℕ = [] in l)))));
}

-- what contracts see, part by part
pub pooled : (old new : List (List ℕ)) (edges bound : ℕ) → new ≡ old → bound ≡ edges → (let p : Pooled = record { lists = new; edges = bound } in p) ≡ record { lists = old; edges = edges }
pooled old new edges bound e f =
    ap (λ (l : List (List ℕ)). let p : Pooled = record { lists = l; edges = bound } in p) e
    ∙ ap (λ (n : ℕ). let p : Pooled = record { lists = old; edges = n } in p) f

-- a pool before a push, and what `place` leaves
pub record Places (a b c d : List (List ℕ)) (v x : ℕ) : Type 0 where
  pub paired : ArePaired c d
  pub lists : joined c d ≡ appended (joined a b) v x

pub placed : (a b c d : List (List ℕ)) (v x : ℕ) → ArePaired a b → v < length a → (length (cells_of a v) < 2 → (c ≡ appended a v x) × (d ≡ b)) → (length (cells_of a v) ≡ 2 → (c ≡ a) × (d ≡ appended b v x)) → Places a b c d v x
placed a b c d v x p within first later =
    elim (cases_lt (length (cells_of a v)) 2) [
      | inl few ↦
          (let e = first few in
          let q = paired_first a b v x p within few in
          let base : Places a b (appended a v x) b v x = record { paired = q.0; lists = joined-first a b v x p.long within q.1 } in
          subst (λ (l : List (List ℕ)). Places a b l d v x) (sym e.0) (subst (λ (l : List (List ℕ)). Places a b (appended a v x) l v x) (sym e.1) base))
      | inr two ↦
          (let full : length (cells_of a v) ≡ 2 = omega (arith, two, p.small v within) in
          let e = later full in
          let base : Places a b a (appended b v x) v x = record { paired = paired_later a b v x p within full; lists = joined-later a b v x p.long within } in
          subst (λ (l : List (List ℕ)). Places a b l d v x) (sym e.0) (subst (λ (l : List (List ℕ)). Places a b a l v x) (sym e.1) base))
    ]

-- past level 0 there is room for one more cell where a push is left
pub room_later : (a b : List (List ℕ)) (room edges left v x : ℕ) → IsPool a b room edges left → v < length a → 0 < edges - total_of (joined a b) → length (cells_of a v) ≡ 2 → cut_for (appended b v x) ≤ room
room_later a b room edges left v x pool within some two =
    let q : ArePaired a (appended b v x) = paired_later a b v x pool.paired within two in
    let lists : joined a (appended b v x) ≡ appended (joined a b) v x = joined-later a b v x pool.paired.long within in
    let lt : v < length (joined a b) = omega (arith, within, length-joined a b pool.paired.long) in
    omega (arith, cut_paired a (appended b v x) q, ap total_of lists, total-appended (joined a b) v x lt, pool.whole, some)

-- a push keeps the pool in order
pub pool_pushed : (a b c d : List (List ℕ)) (room edges left v x : ℕ) → IsPool a b room edges left → v < length a → 0 < edges - total_of (joined a b) → Places a b c d v x → IsPool c d room edges (left - 1)
pool_pushed a b c d room edges left v x pool within some p =
    let lt : v < length (joined a b) = omega (arith, within, length-joined a b pool.paired.long) in
    record {
      paired = p.paired;
      limit = pool.limit;
      whole = pool.whole;
      counted = omega (arith, ap total_of p.lists, total-appended (joined a b) v x lt, pool.counted, some);
    }

pub pool_empty : (a b : List (List ℕ)) (n room edges : ℕ) → a ≡ replicate n [] → b ≡ replicate n [] → edges ≤ 65536 → room ≡ 3 * edges → IsPool a b room edges edges
pool_empty a b n room edges ea eb limit whole =
    let nil : joined (replicate n []) (replicate n []) ≡ replicate n [] = joined-nil n in
    let base : IsPool (replicate n []) (replicate n []) room edges edges = record {
      paired = paired_nil n;
      limit = limit;
      whole = whole;
      counted = omega (arith, ap total_of nil, total-nil n);
    } in
    subst (λ (l : List (List ℕ)). IsPool l b room edges edges) (sym ea) (subst (λ (l : List (List ℕ)). IsPool (replicate n []) l room edges edges) (sym eb) base)

pub lists_empty : (a b : List (List ℕ)) (n : ℕ) → a ≡ replicate n [] → b ≡ replicate n [] → joined a b ≡ replicate n []
lists_empty a b n ea eb =
    ap (λ (l : List (List ℕ)). joined l b) ea ∙ (ap (joined (replicate n [])) eb ∙ joined-nil n)

-- no list is longer than all of them
pub list_small : (a b : List (List ℕ)) (room edges left v : ℕ) → IsPool a b room edges left → v < length a → length (cells_of a v) + length (cells_of b v) ≤ 65536
list_small a b room edges left v pool within =
    let lt : v < length (joined a b) = omega (arith, within, length-joined a b pool.paired.long) in
    omega (arith, get_or-le-sum_by (λ (l : List ℕ). length l) (joined a b) v [] lt, ap length (joined-at a b v pool.paired.long within), length-append (cells_of a v) (cells_of b v), pool.counted, pool.limit)

-- a place below 2 is one of the first list, and any other one of the second
pub read_first : (a b : List (List ℕ)) (v i : ℕ) → ArePaired a b → v < length a → i < 2 → i < length (cells_of (joined a b) v) → (i < length (cells_of a v)) × (get_or (cells_of a v) i 0 ≡ get_or (cells_of (joined a b) v) i 0)
read_first a b v i p within low held =
    let e : cells_of (joined a b) v ≡ cells_of a v ++ cells_of b v = joined-at a b v p.long within in
    let all : i < length (cells_of a v) + length (cells_of b v) = omega (arith, held, ap length e, length-append (cells_of a v) (cells_of b v)) in
    let lt : i < length (cells_of a v) = elim (p.begun v within) [ inl none ↦ omega (arith, all, ap length none) | inr two ↦ omega (arith, two) ] in
    (lt, sym (ap (λ (l : List ℕ). get_or l i 0) e ∙ get_or_append_left (cells_of a v) (cells_of b v) 0 i lt))

pub read_later : (a b : List (List ℕ)) (v i : ℕ) → ArePaired a b → v < length a → 2 ≤ i → i < length (cells_of (joined a b) v) → (i - 2 < length (cells_of b v)) × (get_or (cells_of b v) (i - 2) 0 ≡ get_or (cells_of (joined a b) v) i 0)
read_later a b v i p within high held =
    let e : cells_of (joined a b) v ≡ cells_of a v ++ cells_of b v = joined-at a b v p.long within in
    let all : i < length (cells_of a v) + length (cells_of b v) = omega (arith, held, ap length e, length-append (cells_of a v) (cells_of b v)) in
    let two : length (cells_of a v) ≡ 2 = elim (p.begun v within) [ inl none ↦ absurd (omega (arith, all, ap length none, p.small v within)) | inr two ↦ two ] in
    (omega (arith, all, two), sym (ap (λ (l : List ℕ). get_or l i 0) e ∙ get_or-append_right (cells_of a v) (cells_of b v) 2 i 0 two high))
