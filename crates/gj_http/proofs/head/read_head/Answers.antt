use Rattle.std.proofs.Common.{arith}
use Rattle.gj_http.specs.Heads.{IsHead}
use Rattle.gj_http.proofs.HeadLemmas.{shows, few_fields, ok_shows, err_bad}
use Rattle.gj_http.proofs.head.read_head.Goals as goal

pub returns-in-Some-clause-ok : goal.returns-in-Some-clause-ok
returns-in-Some-clause-ok c =
    let some = c.in-Some.ensures.some in
    let is : IsHead c.args.head.now some.0 = record {
      reads = some.2;
      few = few_fields c.args.head.now c.whole.new.fields c.in-Some.spans some.0 some.1 (omega arith);
    } in
    let call = c.asked_by.ensures in
    ok_shows c.args.head.now some.0 _ is
    (shows c.args.head.now c.whole.new.fields c.in-Some.spans some.0 c.asked_by.result some.1 call.within call.text call.method call.path call.length call.close)

pub returns-in-Some-clause-err : goal.returns-in-Some-clause-err
returns-in-Some-clause-err c =
    let some = c.in-Some.ensures.some in
    let is : IsHead c.args.head.now some.0 = record {
      reads = some.2;
      few = few_fields c.args.head.now c.whole.new.fields c.in-Some.spans some.0 some.1 (omega arith);
    } in
    err_bad c.args.head.now c.whole.new.fields c.in-Some.spans some.0 c.asked_by.result is some.1 c.asked_by.ensures.err
