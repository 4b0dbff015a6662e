use Rattle.std.proofs.Common.{◌∙◌, ap}
use Rattle.gj_proof.specs.Proofs.{ascending, proof_of}
use Rattle.gj_proof.specs.Ranking.{explained_of}
use Rattle.gj_proof.proofs.explain.explained.Goals as goal

pub returns : goal.returns
unfolding explained_of proof_of
returns g c =
    let ordered = c.in_ok-ordered.ensures ∙ ap ascending c.as_slice.ensures in
    rw (ordered, c.as_slice-2.ensures) at c.explained_each.ensures
