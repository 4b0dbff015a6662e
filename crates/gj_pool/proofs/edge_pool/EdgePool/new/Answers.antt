use Rattle.gj_pool.proofs.JoinLemmas.{pool_empty, lists_empty}
use Rattle.gj_pool.proofs.edge_pool.EdgePool.new.Goals as goal

pub invariant_of-result : goal.invariant_of-result
invariant_of-result c =
    pool_empty c.in_ok-regular.regular c.in_ok-slices.slices.lists c.args.vertices c.in_ok-slices.slices.room c.args.edges
    c.in_ok-regular.ensures.ok c.in_ok-slices.ensures.lists c.requires.edges_limit c.in_ok-slices.ensures.room

pub returns-clause-lists : goal.returns-clause-lists
returns-clause-lists c =
    lists_empty c.in_ok-regular.regular c.in_ok-slices.slices.lists c.args.vertices c.in_ok-regular.ensures.ok c.in_ok-slices.ensures.lists
