use Rattle.std.proofs.Common.{nat_eq}
use Rattle.std.specs.HashSet.{contains}
use Rattle.gj_proof.proofs.EndsLemmas.{or_added}
use Rattle.gj_proof.proofs.across.add.Goals as goal

pub returns-in-Ok : goal.returns-in-Ok
returns-in-Ok c = λ q. or_added _ (contains nat_eq c.args.set.now q) (nat_eq c.args.v q) (c.in-Ok.ensures.updates.0 q)
