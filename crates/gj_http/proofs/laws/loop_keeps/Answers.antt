use Rattle.std.proofs.Common.{refl}
use Rattle.gj_http.proofs.CutLemmas.{InFront-take, InFront-feed, InFront-cut, InFront-join, InFront-begins}
use Rattle.gj_http.proofs.laws.loop_keeps.Goals as goal

pub returns : goal.returns
returns c = record {
  none = λ bytes. refl;
  take = λ bytes held rest messages request before is. InFront-take messages bytes held request rest before is;
  join = λ bytes held rest messages later x y. InFront-join messages later bytes held rest x y;
  feed = λ bytes held piece messages before. InFront-feed messages bytes held piece before;
  cut = λ bytes held rest messages later why before cut. InFront-cut messages bytes held later why rest before cut;
  begins = λ bytes held rest messages all why x y. InFront-begins messages all bytes held why rest x y;
}
