use Rattle.gj_proof.proofs.LawLemmas.{law}
use Rattle.gj_proof.proofs.laws.ranking_law.Goals as goal

pub returns : goal.returns
returns c = law
