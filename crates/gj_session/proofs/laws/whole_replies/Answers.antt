use Rattle.std.proofs.Common.{refl}
use Rattle.gj_session.proofs.LawLemmas.{whole_query, whole_batch, whole_run, kind_status, no_stores}
use Rattle.gj_session.proofs.laws.whole_replies.Goals as goal

pub returns : goal.returns
returns c = record {
  query = λ conf seat a b message query outcome e x low. whole_query conf seat a b message query outcome e x low;
  batch = λ conf seat a b message batch outcome e x room kept. whole_batch conf seat a b message batch outcome e x room kept;
  status = (kind_status, λ from to. refl);
  run = λ conf seat a b exchanges x none. whole_run conf seat a b exchanges x none;
  stores = λ before now exchanges rose same low. no_stores before now exchanges rose same low;
}
