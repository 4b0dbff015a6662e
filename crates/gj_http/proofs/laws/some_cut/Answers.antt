use Rattle.gj_http.proofs.TotalLemmas.{some_cut}
use Rattle.gj_http.proofs.laws.some_cut.Goals as goal

pub returns : goal.returns
returns c = some_cut
