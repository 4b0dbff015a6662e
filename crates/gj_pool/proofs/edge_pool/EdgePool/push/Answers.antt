use Rattle.std.proofs.Common.{inl, inr, ◌≡◌, ℕ, ◌-◌, ◌<◌, List, length, ap, ◌∙◌, arith}
use Rattle.gj_pool.specs.Lists.{cells_of, appended}
use Rattle.gj_pool.specs.Pools.{joined, total_of, IsPool}
use Rattle.gj_pool.proofs.JoinLemmas.{length-joined, Places, placed, room_later, pool_pushed, pooled}
use Rattle.std.proofs.lemmas.Bool.{cases_lt}
use Rattle.gj_pool.proofs.edge_pool.EdgePool.push.Goals as goal

pub place-requires-clause-in_range : goal.place-requires-clause-in_range
place-requires-clause-in_range c =
    let first : List (List ℕ) = c.self.inside.regular in
    let more : List (List ℕ) = c.self.inside.slices.lists in
    let pool : IsPool first more c.self.inside.slices.room c.self.inside.edges c.self.inside.left = c.self.invariant in
    let seen : joined first more ≡ c.args.self.now.lists = ap (λ p. p.lists) c.self.view_is in
    let edges : c.self.inside.edges ≡ c.args.self.now.edges = ap (λ p. p.edges) c.self.view_is in
    let within : c.args.v < length first = omega (arith, c.requires.in_range, ap length seen, length-joined first more pool.paired.long) in
    within

pub place-requires-clause-long : goal.place-requires-clause-long
place-requires-clause-long c =
    let first : List (List ℕ) = c.self.inside.regular in
    let more : List (List ℕ) = c.self.inside.slices.lists in
    let pool : IsPool first more c.self.inside.slices.room c.self.inside.edges c.self.inside.left = c.self.invariant in
    let seen : joined first more ≡ c.args.self.now.lists = ap (λ p. p.lists) c.self.view_is in
    let edges : c.self.inside.edges ≡ c.args.self.now.edges = ap (λ p. p.edges) c.self.view_is in
    let within : c.args.v < length first = omega (arith, c.requires.in_range, ap length seen, length-joined first more pool.paired.long) in
    omega (arith, within, pool.paired.long)

pub place-requires-clause-room : goal.place-requires-clause-room
place-requires-clause-room c two =
    let first : List (List ℕ) = c.self.inside.regular in
    let more : List (List ℕ) = c.self.inside.slices.lists in
    let pool : IsPool first more c.self.inside.slices.room c.self.inside.edges c.self.inside.left = c.self.invariant in
    let seen : joined first more ≡ c.args.self.now.lists = ap (λ p. p.lists) c.self.view_is in
    let edges : c.self.inside.edges ≡ c.args.self.now.edges = ap (λ p. p.edges) c.self.view_is in
    let within : c.args.v < length first = omega (arith, c.requires.in_range, ap length seen, length-joined first more pool.paired.long) in
    let some : 0 < c.self.inside.edges - total_of (joined first more) = omega (arith, c.requires.room, edges, ap total_of seen) in
    room_later first more c.self.inside.slices.room c.self.inside.edges c.self.inside.left c.args.v c.args.cell pool within some two

pub invariant_of-self : goal.invariant_of-self
invariant_of-self c =
    let first : List (List ℕ) = c.self.inside.regular in
    let more : List (List ℕ) = c.self.inside.slices.lists in
    let pool : IsPool first more c.self.inside.slices.room c.self.inside.edges c.self.inside.left = c.self.invariant in
    let seen : joined first more ≡ c.args.self.now.lists = ap (λ p. p.lists) c.self.view_is in
    let edges : c.self.inside.edges ≡ c.args.self.now.edges = ap (λ p. p.edges) c.self.view_is in
    let within : c.args.v < length first = omega (arith, c.requires.in_range, ap length seen, length-joined first more pool.paired.long) in
    let some : 0 < c.self.inside.edges - total_of (joined first more) = omega (arith, c.requires.room, edges, ap total_of seen) in
    let p : Places first more c.place.new.regular c.place.new.slices.lists c.args.v c.args.cell =
    placed first more c.place.new.regular c.place.new.slices.lists c.args.v c.args.cell pool.paired within
    (λ few. ((c.place.ensures.first few).0, ap (λ s. s.lists) (c.place.ensures.first few).1))
    (λ two. ((c.place.ensures.later two).0, ap (λ s. s.lists) (c.place.ensures.later two).1)) in
    let room : c.place.new.slices.room ≡ c.self.inside.slices.room = elim (cases_lt (length (cells_of first c.args.v)) 2) [
      | inl few ↦ ap (λ s. s.room) (c.place.ensures.first few).1
      | inr two ↦ ap (λ s. s.room) (c.place.ensures.later (omega (arith, two, pool.paired.small c.args.v within))).1
    ] in
    rw room (pool_pushed first more c.place.new.regular c.place.new.slices.lists c.self.inside.slices.room c.self.inside.edges c.self.inside.left c.args.v c.args.cell pool within some p)

pub returns : goal.returns
returns c =
    let first : List (List ℕ) = c.self.inside.regular in
    let more : List (List ℕ) = c.self.inside.slices.lists in
    let pool : IsPool first more c.self.inside.slices.room c.self.inside.edges c.self.inside.left = c.self.invariant in
    let seen : joined first more ≡ c.args.self.now.lists = ap (λ p. p.lists) c.self.view_is in
    let edges : c.self.inside.edges ≡ c.args.self.now.edges = ap (λ p. p.edges) c.self.view_is in
    let within : c.args.v < length first = omega (arith, c.requires.in_range, ap length seen, length-joined first more pool.paired.long) in
    let some : 0 < c.self.inside.edges - total_of (joined first more) = omega (arith, c.requires.room, edges, ap total_of seen) in
    let p : Places first more c.place.new.regular c.place.new.slices.lists c.args.v c.args.cell =
    placed first more c.place.new.regular c.place.new.slices.lists c.args.v c.args.cell pool.paired within
    (λ few. ((c.place.ensures.first few).0, ap (λ s. s.lists) (c.place.ensures.first few).1))
    (λ two. ((c.place.ensures.later two).0, ap (λ s. s.lists) (c.place.ensures.later two).1)) in
    record {
      exact = pooled _ _ _ _ (p.lists ∙ ap (λ (l : List (List ℕ)). appended l c.args.v c.args.cell) seen) edges;
    }
