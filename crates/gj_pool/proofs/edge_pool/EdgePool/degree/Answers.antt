use Rattle.std.proofs.Common.{◌≡◌, ℕ, ◌<◌, List, length, ap, arith, length-append}
use Rattle.gj_pool.specs.Lists.{cells_of}
use Rattle.gj_pool.specs.Pools.{joined, IsPool}
use Rattle.gj_pool.proofs.JoinLemmas.{length-joined, joined-at, list_small}
use Rattle.gj_pool.proofs.edge_pool.EdgePool.degree.Goals as goal

pub degree-requires : goal.degree-requires
degree-requires c =
    let first : List (List ℕ) = c.self.inside.regular in
    let more : List (List ℕ) = c.self.inside.slices.lists in
    let pool : IsPool first more c.self.inside.slices.room c.self.inside.edges c.self.inside.left = c.self.invariant in
    let seen : joined first more ≡ c.args.self.now.lists = ap (λ p. p.lists) c.self.view_is in
    let edges : c.self.inside.edges ≡ c.args.self.now.edges = ap (λ p. p.edges) c.self.view_is in
    let within : c.args.v < length first = omega (arith, c.requires.in_range, ap length seen, length-joined first more pool.paired.long) in
    record { in_range = within }

pub degree-requires-2 : goal.degree-requires-2
degree-requires-2 c =
    let first : List (List ℕ) = c.self.inside.regular in
    let more : List (List ℕ) = c.self.inside.slices.lists in
    let pool : IsPool first more c.self.inside.slices.room c.self.inside.edges c.self.inside.left = c.self.invariant in
    let seen : joined first more ≡ c.args.self.now.lists = ap (λ p. p.lists) c.self.view_is in
    let edges : c.self.inside.edges ≡ c.args.self.now.edges = ap (λ p. p.edges) c.self.view_is in
    let within : c.args.v < length first = omega (arith, c.requires.in_range, ap length seen, length-joined first more pool.paired.long) in
    record { in_range = omega (arith, within, pool.paired.long) }

pub overflow_add-result : goal.overflow_add-result
overflow_add-result c =
    let first : List (List ℕ) = c.self.inside.regular in
    let more : List (List ℕ) = c.self.inside.slices.lists in
    let pool : IsPool first more c.self.inside.slices.room c.self.inside.edges c.self.inside.left = c.self.invariant in
    let seen : joined first more ≡ c.args.self.now.lists = ap (λ p. p.lists) c.self.view_is in
    let edges : c.self.inside.edges ≡ c.args.self.now.edges = ap (λ p. p.edges) c.self.view_is in
    let within : c.args.v < length first = omega (arith, c.requires.in_range, ap length seen, length-joined first more pool.paired.long) in
    omega (arith, list_small first more _ _ _ c.args.v pool within, c.degree.ensures.exact, c.degree-2.ensures.exact)

pub returns : goal.returns
returns c =
    let first : List (List ℕ) = c.self.inside.regular in
    let more : List (List ℕ) = c.self.inside.slices.lists in
    let pool : IsPool first more c.self.inside.slices.room c.self.inside.edges c.self.inside.left = c.self.invariant in
    let seen : joined first more ≡ c.args.self.now.lists = ap (λ p. p.lists) c.self.view_is in
    let edges : c.self.inside.edges ≡ c.args.self.now.edges = ap (λ p. p.edges) c.self.view_is in
    let within : c.args.v < length first = omega (arith, c.requires.in_range, ap length seen, length-joined first more pool.paired.long) in
    record {
      exact = omega (arith, ap (λ (l : List (List ℕ)). length (cells_of l c.args.v)) seen, ap length (joined-at first more c.args.v pool.paired.long within), length-append (cells_of first c.args.v) (cells_of more c.args.v), c.degree.ensures.exact, c.degree-2.ensures.exact);
    }
