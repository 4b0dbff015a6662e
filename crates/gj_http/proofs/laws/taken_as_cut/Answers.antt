use Rattle.gj_http.proofs.CutLemmas.{taken_as_cut}
use Rattle.gj_http.proofs.laws.taken_as_cut.Goals as goal

pub returns : goal.returns
returns c = λ held now calls later why rest runs cut. taken_as_cut calls held now later why rest runs cut
