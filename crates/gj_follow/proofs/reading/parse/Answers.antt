use Rattle.std.proofs.Common.{ap}
use Rattle.std.proofs.lemmas.Bool.{false≢true}
use Rattle.gj_follow.specs.Reading.{reading_of}
use Rattle.gj_follow.proofs.TreeLemmas.{tree_of-some, tree_of-none}
use Rattle.gj_follow.proofs.reading.parse.Goals as goal

pub returns-in-Ok-clause-ok : goal.returns-in-Ok-clause-ok
returns-in-Ok-clause-ok c = tree_of-some c.args.line.now _ c.in-Ok.ensures.ok.0 c.in-Ok.ensures.ok.1

pub returns-else-is_memory-clause-refused : goal.returns-else-is_memory-clause-refused
returns-else-is_memory-clause-refused c = ap reading_of (tree_of-none c.args.line.now (c.in-Err.ensures.err (λ m. absurd (false≢true (c.if-is_memory.ensures.1 m)))))
