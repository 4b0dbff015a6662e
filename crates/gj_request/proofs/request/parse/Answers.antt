use Rattle.std.proofs.Common.{ap}
use Rattle.std.proofs.lemmas.Bool.{false≢true}
use Rattle.gj_request.specs.Requests.{parsed}
use Rattle.gj_request.proofs.TreeLemmas.{tree_of-some, tree_of-none}
use Rattle.gj_request.proofs.request.parse.Goals as goal

pub returns-in-Ok-clause-ok : goal.returns-in-Ok-clause-ok
returns-in-Ok-clause-ok c = tree_of-some c.args.body.now _ c.in-Ok.ensures.ok.0 c.in-Ok.ensures.ok.1

pub returns-else-is_memory-clause-refused : goal.returns-else-is_memory-clause-refused
returns-else-is_memory-clause-refused c = ap parsed (tree_of-none c.args.body.now (c.in-Err.ensures.err (λ m. absurd (false≢true (c.if-is_memory.ensures.1 m)))))
