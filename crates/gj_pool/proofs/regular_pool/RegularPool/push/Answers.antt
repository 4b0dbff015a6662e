use Rattle.std.proofs.Common.{◌≡◌, ◌+◌, ◌-◌, ◌<◌, ◌≤◌, ℕ, List, ◌++◌, length, replicate, ap, sym, ◌∙◌, refl, arith, length-take, []}
use Rattle.std.proofs.lemmas.List.{take_more_set, length-set, length-append, length-replicate}
use Rattle.gj_pool.specs.Pairs.{pair_cells, pair_lists}
use Rattle.gj_pool.specs.Lists.{cells_of, appended}
use Rattle.gj_pool.specs.declared.regular_pool.Pair.{Pair}
use Rattle.gj_pool.proofs.PairLemmas.{held_there, lists_long, lists_more, lists_pushed}
use Rattle.gj_pool.proofs.regular_pool.RegularPool.push.Goals as goal

-- the pairs reach the vertex, and show the same
record IsReached (pairs more : List Pair) (n v : ℕ) : Type 0 where
  pub below : v < length more
  pub few : length more ≤ n
  pub same : pair_lists more n ≡ pair_lists pairs n

reached : (pairs more : List Pair) (n v : ℕ) (pair : Pair) (lists : List (List ℕ)) → pair_cells pair ≡ [] → length pairs ≤ n → pair_lists pairs n ≡ lists → v < length lists → more ≡ pairs ++ replicate (v + 1 - length pairs) pair → IsReached pairs more n v
reached pairs more n v pair lists empty few seen within is =
    let k : ℕ = v + 1 - length pairs in
    let below : v < n = omega (arith, within, ap length seen, lists_long pairs n few) in
    let long : length more ≡ length pairs + k = omega (arith, ap length is, length-append pairs (replicate k pair), length-replicate k pair) in
    record {
      below = omega (arith, long);
      few = omega (arith, long, below, few);
      same = ap (λ (l : List Pair). pair_lists l n) is ∙ lists_more pairs n k pair empty (omega (arith, below, few));
    }

pub returns : goal.returns
returns c =
    let pairs : List Pair = c.self.inside.pairs.items in
    let more : List Pair = c.reach.new.pairs.items in
    let n : ℕ = c.self.inside.vertices in
    let v : ℕ = c.args.v in
    let pair : Pair = c.index_mut-pair.result.now in
    let is = reached pairs more n v _ c.args.self.now refl c.self.invariant.0 c.self.view_is c.requires.in_range c.reach.ensures.pairs in
    let seen : pair_lists more n ≡ c.args.self.now = is.same ∙ c.self.view_is in
    let held : cells_of c.args.self.now v ≡ pair_cells pair = ap (λ (l : List (List ℕ)). cells_of l v) (sym seen) ∙ held_there more n v pair is.below c.index_mut-pair.ensures.value in
    let spare : pair.degree < length pair.cells = omega (arith, ap length held, length-take pair.degree pair.cells, pair.in_range, pair.whole, c.requires.room) in
    record {
      exact = lists_pushed more n v pair _ c.args.cell is.below c.index_mut-pair.ensures.value (take_more_set pair.cells pair.degree c.args.cell spare)
          ∙ ap (λ (l : List (List ℕ)). appended l v c.args.cell) seen;
    }

pub invariant_of-self : goal.invariant_of-self
invariant_of-self c =
    let pairs : List Pair = c.self.inside.pairs.items in
    let more : List Pair = c.reach.new.pairs.items in
    let n : ℕ = c.self.inside.vertices in
    let is = reached pairs more n c.args.v _ c.args.self.now refl c.self.invariant.0 c.self.view_is c.requires.in_range c.reach.ensures.pairs in
    (omega (arith, is.few, length-set {A = Pair}), omega (arith, c.self.invariant.1, c.reach.ensures.capacity))
