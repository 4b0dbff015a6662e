use Rattle.std.proofs.Common.{◌<◌, ◌≤◌, ℕ, List, length, ap, arith, length-take}
use Rattle.gj_pool.specs.declared.regular_pool.Pair.{Pair}
use Rattle.gj_pool.specs.Lists.{cells_of}
use Rattle.gj_pool.proofs.PairLemmas.{held_there, held_behind, lists_long}
use Rattle.gj_pool.proofs.regular_pool.RegularPool.degree.Goals as goal

pub returns-then-v-len-clause-exact : goal.returns-then-v-len-clause-exact
returns-then-v-len-clause-exact c =
    let pair : Pair = c.index.result.now in
    let pairs : List Pair = c.self.inside.pairs.items in
    let n : ℕ = c.self.inside.vertices in
    let within : c.args.v < length pairs = omega (arith, c.if-v-len.true, c.len.ensures) in
    let seen = ap (λ (l : List (List ℕ)). length (cells_of l c.args.v)) c.self.view_is in
    omega (arith, seen, ap length (held_there pairs n c.args.v pair within c.index.ensures), length-take pair.degree pair.cells, pair.in_range, pair.whole)

pub returns-else-v-len-clause-exact : goal.returns-else-v-len-clause-exact
returns-else-v-len-clause-exact c =
    let pairs : List Pair = c.self.inside.pairs.items in
    let n : ℕ = c.self.inside.vertices in
    let past : length pairs ≤ c.args.v = omega (arith, c.if-v-len.false, c.len.ensures) in
    let below : c.args.v < n = omega (arith, c.requires, ap length c.self.view_is, lists_long pairs n c.self.invariant.0) in
    let seen = ap (λ (l : List (List ℕ)). length (cells_of l c.args.v)) c.self.view_is in
    omega (arith, seen, ap length (held_behind pairs n c.args.v past below))
