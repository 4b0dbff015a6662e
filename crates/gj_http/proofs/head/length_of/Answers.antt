use Rattle.std.proofs.Common.{◌≡◌, true, arith, rules}
use Rattle.gj_http.specs.Heads.{is_number}
use Rattle.gj_http.proofs.HeadLemmas.{stated_length_long}
use Rattle.gj_http.proofs.head.length_of.Goals as goal

pub returns-then-length-gt-MAX_BODY : goal.returns-then-length-gt-MAX_BODY
returns-then-length-gt-MAX_BODY c =
    let number : is_number c.args.value.now ≡ true = search rules in
    stated_length_long c.args.value.now c.loop-b.b-index c.loop-b.length number (omega arith)
    c.loop-b.invariant.digits c.loop-b.invariant.so_far c.if-length-gt-MAX_BODY.true
