use Rattle.gj_http.proofs.CutLemmas.{one_cut}
use Rattle.gj_http.proofs.laws.one_cut.Goals as goal

pub returns : goal.returns
returns c = λ bytes first second why cause rest others x y. one_cut first second bytes why cause rest others x y
