use Rattle.std.proofs.Common.{◌≡◌, take}
use Rattle.gj_proof.specs.Proofs.{ascending}
use Rattle.gj_proof.proofs.explain.ascending.Given as goal

abbrev pub invariant-loop-id : goal.invariant-loop-id
invariant-loop-id l = l.ordered.keys ≡ ascending (take l.id-index l.ids)
