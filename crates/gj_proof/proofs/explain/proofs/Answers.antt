use Rattle.std.proofs.Common.{◌∙◌, ap}
use Rattle.gj_proof.specs.Proofs.{ascending, proof_of}
use Rattle.gj_proof.proofs.explain.proofs.Goals as goal

pub returns : goal.returns
unfolding proof_of
returns g c =
    let ordered = c.in_ok-ordered.ensures ∙ ap ascending c.as_slice.ensures in
    rw ordered at c.proof_among.ensures
