use Rattle.gj_http.proofs.CutLemmas.{IsMessage-unique, IsRefused-unique, no_refused_message, no_partial_message, no_partial_refusal}
use Rattle.gj_http.proofs.ShorterLemmas.{IsMessage-shorter, empty_more}
use Rattle.gj_http.proofs.TotalLemmas.{front_of}
use Rattle.gj_http.proofs.laws.one_front.Goals as goal

pub returns : goal.returns
returns c = record {
  some = front_of;
  message = IsMessage-unique;
  refusal = IsRefused-unique;
  no_refused_message = no_refused_message;
  no_partial_message = no_partial_message;
  no_partial_refusal = no_partial_refusal;
  shorter = IsMessage-shorter;
  empty = empty_more;
}
