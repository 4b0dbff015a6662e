use Rattle.gj_http.proofs.CutLemmas.{messages_begin, refusal_stays}
use Rattle.gj_http.proofs.laws.beginnings.Goals as goal

pub returns : goal.returns
returns c = record {
  messages = λ bytes more first all why cause rest others x y. messages_begin first all bytes more why cause rest others x y;
  refusal = λ bytes more first all why cause rest others x y. refusal_stays first all bytes more why cause rest others x y;
}
