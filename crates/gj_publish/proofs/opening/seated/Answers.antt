use Rattle.std.proofs.Common.{◌≡◌, length, refl, ap, arith}
use Rattle.gj_publish.proofs.opening.seated.Goals as goal

pub loop-number-init : goal.loop-number-init
loop-number-init g c =
    let none : length c.in-Ok.seats.items ≡ 0 = ap length c.in-Ok.ensures.items in
    (omega (arith, none, c.requires.share.0), c.requires.share.1, omega (arith, none), refl, λ i d low. absurd (omega (arith, none, low)))

pub returns : goal.returns
returns g c =
    let is = c.loop-number.invariant in
    let all : length c.loop-number.seats.items ≡ c.args.places = omega arith in record {
      all = all;
      each = λ i d low. is.4 i d (omega (arith, low, all));
      same = is.3;
      err = tt;
      place = tt;
      others = tt;
      later = omega (arith, is.3);
    }
