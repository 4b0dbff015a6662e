use Rattle.std.proofs.Common.{◌≡◌, ℕ, ◌<◌, ◌++◌, cond, nat_eq, get_or, [], ◌∷◌, List, fold, length}
use Rattle.gj_base.specs.Tally.{with_pair}
use Rattle.gj_subgraph.proofs.NumberLemmas.{Distinct, vertices_distinct}
use Rattle.gj_subgraph.proofs.MassLemmas.{mass_more, above_put, made_put}
use Rattle.gj_subgraph.proofs.masses.masses.Goals as goal

pub loop-u-preserved : goal.loop-u-preserved
loop-u-preserved c =
    let posts = c.args.posts.now in
    let units = get_or c.args.units.now c.loop-u.u 0 in
    let post = get_or posts.names.items c.loop-u.u 0 in
    let pairs : List (ℕ × ℕ) = c.loop-u.pairs.items in
    let more : List (ℕ × ℕ) = c.put_mass.new.pairs.items in
    let distinct : Distinct posts.names.items = rw (c.requires.posts.names) (vertices_distinct posts.side.items) in
    let inside : c.loop-u.u < length posts.names.items = rw c.as_slice-names.ensures.value at c.loop-u-test.true in
    let put : more ≡ cond (nat_eq units 0) pairs (pairs ++ (post, units) ∷ []) = rw c.as_slice-names.ensures.value at c.in_ok-put_mass.ensures in
    record {
      above = above_put pairs more post units put c.loop-u.invariant.above;
      made = mass_more posts.names.items c.args.units.now (fold with_pair [] pairs) (fold with_pair [] more) c.loop-u.u distinct c.requires.len inside
          (made_put (nat_eq units 0) pairs more post units put) c.loop-u.invariant.made;
    }
