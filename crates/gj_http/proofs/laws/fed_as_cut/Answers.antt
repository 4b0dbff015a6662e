use Rattle.gj_http.proofs.CutLemmas.{fed_as_cut}
use Rattle.gj_http.proofs.laws.fed_as_cut.Goals as goal

pub returns : goal.returns
returns c = λ held pieces messages why rest feeds. fed_as_cut pieces held messages why rest feeds
