use Rattle.gj_http.proofs.CutLemmas.{cut_goes_on}
use Rattle.gj_http.proofs.laws.cut_goes_on.Goals as goal

pub returns : goal.returns
returns c = λ bytes more first later why cause rest others x y. cut_goes_on first later bytes more why cause rest others x y
