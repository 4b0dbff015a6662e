use Rattle.std.proofs.Common.{◌≡◌, ℕ, List, [], length, ap, sym, ◌∙◌, replicate}
use Rattle.gj_pool.specs.Pools.{joined, IsPool}
use Rattle.gj_pool.proofs.JoinLemmas.{length-joined, pool_empty, lists_empty, pooled}
use Rattle.gj_pool.proofs.edge_pool.EdgePool.clear.Goals as goal

pub invariant_of-self : goal.invariant_of-self
invariant_of-self c =
    let first : List (List ℕ) = c.self.inside.regular in
    let more : List (List ℕ) = c.self.inside.slices.lists in
    let pool : IsPool first more c.self.inside.slices.room c.self.inside.edges c.self.inside.left = c.self.invariant in
    pool_empty c.clear.new.self c.clear-2.new.self.lists (length first) c.clear-2.new.self.room c.self.inside.edges
    c.clear.ensures.exact
    (ap (λ s. s.lists) c.clear-2.ensures.exact ∙ ap (λ n. replicate n (let l : List ℕ = [] in l)) (sym pool.paired.long))
    pool.limit (ap (λ s. s.room) c.clear-2.ensures.exact ∙ pool.whole)

pub returns : goal.returns
returns c =
    let first : List (List ℕ) = c.self.inside.regular in
    let more : List (List ℕ) = c.self.inside.slices.lists in
    let pool : IsPool first more c.self.inside.slices.room c.self.inside.edges c.self.inside.left = c.self.invariant in
    let seen : joined first more ≡ c.args.self.now.lists = ap (λ p. p.lists) c.self.view_is in
    let edges : c.self.inside.edges ≡ c.args.self.now.edges = ap (λ p. p.edges) c.self.view_is in
    let long : length first ≡ length c.args.self.now.lists = sym (length-joined first more pool.paired.long) ∙ ap length seen in
    record {
      exact = pooled _ _ _ _
          (lists_empty c.clear.new.self c.clear-2.new.self.lists (length first) c.clear.ensures.exact
          (ap (λ s. s.lists) c.clear-2.ensures.exact ∙ ap (λ n. replicate n (let l : List ℕ = [] in l)) (sym pool.paired.long))
          ∙ ap (λ n. replicate n (let l : List ℕ = [] in l)) long)
          edges;
    }
