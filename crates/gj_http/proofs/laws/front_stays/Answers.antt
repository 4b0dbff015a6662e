use Rattle.gj_http.proofs.BeginLemmas.{IsMessage-append, IsRefused-append}
use Rattle.gj_http.proofs.laws.front_stays.Goals as goal

pub returns : goal.returns
returns c = record { message = IsMessage-append; refusal = IsRefused-append }
