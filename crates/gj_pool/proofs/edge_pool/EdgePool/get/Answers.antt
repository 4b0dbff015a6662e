use Rattle.std.proofs.Common.{◌≡◌, ℕ, ◌<◌, List, length, get_or, ap, ◌∙◌, arith}
use Rattle.gj_pool.specs.Lists.{cells_of}
use Rattle.gj_pool.specs.Pools.{joined, IsPool}
use Rattle.gj_pool.proofs.JoinLemmas.{length-joined, read_first, read_later}
use Rattle.gj_pool.proofs.edge_pool.EdgePool.get.Goals as goal

pub get-requires-clause-in_range : goal.get-requires-clause-in_range
get-requires-clause-in_range c =
    let first : List (List ℕ) = c.self.inside.regular in
    let more : List (List ℕ) = c.self.inside.slices.lists in
    let pool : IsPool first more c.self.inside.slices.room c.self.inside.edges c.self.inside.left = c.self.invariant in
    let seen : joined first more ≡ c.args.self.now.lists = ap (λ p. p.lists) c.self.view_is in
    let edges : c.self.inside.edges ≡ c.args.self.now.edges = ap (λ p. p.edges) c.self.view_is in
    let within : c.args.v < length first = omega (arith, c.requires.in_range, ap length seen, length-joined first more pool.paired.long) in
    within

pub get-requires-clause-held : goal.get-requires-clause-held
get-requires-clause-held c =
    let first : List (List ℕ) = c.self.inside.regular in
    let more : List (List ℕ) = c.self.inside.slices.lists in
    let pool : IsPool first more c.self.inside.slices.room c.self.inside.edges c.self.inside.left = c.self.invariant in
    let seen : joined first more ≡ c.args.self.now.lists = ap (λ p. p.lists) c.self.view_is in
    let edges : c.self.inside.edges ≡ c.args.self.now.edges = ap (λ p. p.edges) c.self.view_is in
    let within : c.args.v < length first = omega (arith, c.requires.in_range, ap length seen, length-joined first more pool.paired.long) in
    let held : c.args.i < length (cells_of (joined first more) c.args.v) = omega (arith, c.requires.held, ap (λ (l : List (List ℕ)). length (cells_of l c.args.v)) seen) in
    let read = read_first first more c.args.v c.args.i pool.paired within c.if-i-lt2.true held in
    read.0

pub get-requires-else-i-lt2-clause-in_range : goal.get-requires-else-i-lt2-clause-in_range
get-requires-else-i-lt2-clause-in_range c =
    let first : List (List ℕ) = c.self.inside.regular in
    let more : List (List ℕ) = c.self.inside.slices.lists in
    let pool : IsPool first more c.self.inside.slices.room c.self.inside.edges c.self.inside.left = c.self.invariant in
    let seen : joined first more ≡ c.args.self.now.lists = ap (λ p. p.lists) c.self.view_is in
    let edges : c.self.inside.edges ≡ c.args.self.now.edges = ap (λ p. p.edges) c.self.view_is in
    let within : c.args.v < length first = omega (arith, c.requires.in_range, ap length seen, length-joined first more pool.paired.long) in
    omega (arith, within, pool.paired.long)

pub get-requires-else-i-lt2-clause-held : goal.get-requires-else-i-lt2-clause-held
get-requires-else-i-lt2-clause-held c =
    let first : List (List ℕ) = c.self.inside.regular in
    let more : List (List ℕ) = c.self.inside.slices.lists in
    let pool : IsPool first more c.self.inside.slices.room c.self.inside.edges c.self.inside.left = c.self.invariant in
    let seen : joined first more ≡ c.args.self.now.lists = ap (λ p. p.lists) c.self.view_is in
    let edges : c.self.inside.edges ≡ c.args.self.now.edges = ap (λ p. p.edges) c.self.view_is in
    let within : c.args.v < length first = omega (arith, c.requires.in_range, ap length seen, length-joined first more pool.paired.long) in
    let held : c.args.i < length (cells_of (joined first more) c.args.v) = omega (arith, c.requires.held, ap (λ (l : List (List ℕ)). length (cells_of l c.args.v)) seen) in
    let read = read_later first more c.args.v c.args.i pool.paired within c.if-i-lt2.false held in
    read.0

pub returns-then-i-lt2 : goal.returns-then-i-lt2
returns-then-i-lt2 c =
    let first : List (List ℕ) = c.self.inside.regular in
    let more : List (List ℕ) = c.self.inside.slices.lists in
    let pool : IsPool first more c.self.inside.slices.room c.self.inside.edges c.self.inside.left = c.self.invariant in
    let seen : joined first more ≡ c.args.self.now.lists = ap (λ p. p.lists) c.self.view_is in
    let edges : c.self.inside.edges ≡ c.args.self.now.edges = ap (λ p. p.edges) c.self.view_is in
    let within : c.args.v < length first = omega (arith, c.requires.in_range, ap length seen, length-joined first more pool.paired.long) in
    let held : c.args.i < length (cells_of (joined first more) c.args.v) = omega (arith, c.requires.held, ap (λ (l : List (List ℕ)). length (cells_of l c.args.v)) seen) in
    let read = read_first first more c.args.v c.args.i pool.paired within c.if-i-lt2.true held in
    record { exact = c.get.ensures.exact ∙ (read.1 ∙ ap (λ (l : List (List ℕ)). get_or (cells_of l c.args.v) c.args.i 0) seen) }

pub returns-else-i-lt2 : goal.returns-else-i-lt2
returns-else-i-lt2 c =
    let first : List (List ℕ) = c.self.inside.regular in
    let more : List (List ℕ) = c.self.inside.slices.lists in
    let pool : IsPool first more c.self.inside.slices.room c.self.inside.edges c.self.inside.left = c.self.invariant in
    let seen : joined first more ≡ c.args.self.now.lists = ap (λ p. p.lists) c.self.view_is in
    let edges : c.self.inside.edges ≡ c.args.self.now.edges = ap (λ p. p.edges) c.self.view_is in
    let within : c.args.v < length first = omega (arith, c.requires.in_range, ap length seen, length-joined first more pool.paired.long) in
    let held : c.args.i < length (cells_of (joined first more) c.args.v) = omega (arith, c.requires.held, ap (λ (l : List (List ℕ)). length (cells_of l c.args.v)) seen) in
    let read = read_later first more c.args.v c.args.i pool.paired within c.if-i-lt2.false held in
    record { exact = c.get-else-i-lt2.ensures.exact ∙ (read.1 ∙ ap (λ (l : List (List ℕ)). get_or (cells_of l c.args.v) c.args.i 0) seen) }
