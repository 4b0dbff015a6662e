-- The lists that pairs hold.
use Rattle.std.proofs.Common.{◌≡◌, ℕ, zero, suc, ◌+◌, ◌-◌, ◌<◌, ◌≤◌, List, [], ◌∷◌, ◌++◌, length, get_or, set, map, replicate, refl, ap, sym, ◌∙◌, arith, append_assoc}
use Rattle.std.proofs.lemmas.List.{map-set, map-append, get_or-map, length-map, length-set, length-append, length-replicate, get_or-replicate, get_or_append_left, get_or-append_right, set-append_left, replicate-append-replicate}
use Rattle.gj_pool.specs.declared.regular_pool.Pair.{Pair}
use Rattle.gj_pool.specs.Pairs.{pair_cells, pair_lists}
use Rattle.gj_pool.specs.Lists.{cells_of, appended}

-- the same of each of n copies
pub map-replicate : {X Y : Type 0} (f : X → Y) (x : X) (n : ℕ) → map f (replicate n x) ≡ replicate n (f x)
map-replicate f x zero = refl
map-replicate f x (suc n) = ap (λ l. f x ∷ l) (map-replicate f x n)

-- the lists of the vertices behind the pairs
abbrev pub behind : List Pair → ℕ → List (List ℕ)
behind pairs n = replicate (n - length pairs) []

pub lists_long : (pairs : List Pair) (n : ℕ) → length pairs ≤ n → length (pair_lists pairs n) ≡ n
lists_long pairs n few =
    let none : List ℕ = [] in
    omega (arith, length-append (map pair_cells pairs) (behind pairs n), length-map pairs pair_cells, length-replicate (n - length pairs) none)

-- the list of a vertex is what its pair holds
pub held_there : (pairs : List Pair) (n v : ℕ) (pair : Pair) → v < length pairs → pair ≡ get_or pairs v pair → cells_of (pair_lists pairs n) v ≡ pair_cells pair
held_there pairs n v pair below is =
    get_or_append_left (map pair_cells pairs) (behind pairs n) [] v (omega (arith, below, length-map pairs pair_cells))
    ∙ (get_or-map pair_cells pairs v pair [] below ∙ ap pair_cells (sym is))

-- and that of one behind them is empty
pub held_behind : (pairs : List Pair) (n v : ℕ) → length pairs ≤ v → v < n → cells_of (pair_lists pairs n) v ≡ []
held_behind pairs n v past below =
    get_or-append_right (map pair_cells pairs) (behind pairs n) (length pairs) v [] (length-map pairs pair_cells) past
    ∙ get_or-replicate (n - length pairs) (v - length pairs) [] [] (omega arith)

-- a pair with one more cell, written back
pub lists_pushed : (pairs : List Pair) (n v : ℕ) (pair next : Pair) (cell : ℕ) → v < length pairs → pair ≡ get_or pairs v pair → pair_cells next ≡ pair_cells pair ++ cell ∷ []
    → pair_lists (set pairs v next) n ≡ appended (pair_lists pairs n) v cell
lists_pushed pairs n v pair next cell below is more =
    ap (λ (k : ℕ). map pair_cells (set pairs v next) ++ replicate (n - k) (let l : List ℕ = [] in l)) (length-set pairs v next)
    ∙ (ap (λ (l : List (List ℕ)). l ++ behind pairs n) (map-set pair_cells pairs v next)
    ∙ (sym (set-append_left (map pair_cells pairs) (behind pairs n) v (pair_cells next) (omega (arith, below, length-map pairs pair_cells)))
    ∙ ap (λ (l : List ℕ). set (pair_lists pairs n) v l) (more ∙ ap (λ (l : List ℕ). l ++ cell ∷ []) (sym (held_there pairs n v pair below is)))))

-- more pairs without a cell
pub lists_more : (pairs : List Pair) (n k : ℕ) (pair : Pair) → pair_cells pair ≡ [] → length pairs + k ≤ n → pair_lists (pairs ++ replicate k pair) n ≡ pair_lists pairs n
lists_more pairs n k pair empty few =
    let none : List ℕ = [] in
    let more : List Pair = replicate k pair in
    let left : ℕ = n - length pairs - k in
    let held : List (List ℕ) = map pair_cells pairs in
    let long : n - length (pairs ++ more) ≡ left = omega (arith, length-append pairs more, length-replicate k pair) in
    let all : k + left ≡ n - length pairs = omega arith in
    ap (λ (m : ℕ). map pair_cells (pairs ++ more) ++ replicate m none) long
    ∙ (ap (λ (l : List (List ℕ)). l ++ replicate left none) (map-append pair_cells pairs more ∙ ap (λ (l : List (List ℕ)). held ++ l) (map-replicate pair_cells pair k ∙ ap (replicate k) empty))
    ∙ (append_assoc held (replicate k none) (replicate left none)
    ∙ (ap (λ (l : List (List ℕ)). held ++ l) (replicate-append-replicate k left none) ∙ ap (λ (m : ℕ). held ++ replicate m none) all)))
