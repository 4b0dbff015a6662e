use Rattle.std.proofs.Common.{◌≡◌, ◌<◌, length, min, get_or, arith, ap, ◌∙◌}
use Rattle.std.proofs.lemmas.List.{get_or_default}
use Rattle.gj_compact.specs.declared.lane.Row.{Row}
use Rattle.gj_compact.specs.Lanes.{row_end}
use Rattle.gj_compact.proofs.PullLemmas.{pulled_more, pulled_all}
use Rattle.gj_compact.proofs.lane.pull.Goals as goal

pub move_run-requires-clause-from : goal.move_run-requires-clause-from
move_run-requires-clause-from c =
    let old = c.args.rows.now in
    let so = c.loop-v.invariant.pulled in
    let d : Row = record { start = 0; len = 0; spare = 0; fresh = 0 } in
    let row : Row = get_or c.loop-v.rows c.loop-v.v d in
    let below : c.loop-v.v < length old = omega (arith, c.loop-v-test.true, so.long) in
    omega (arith, c.requires.laid.within c.loop-v.v d below, ap row_end (so.rest c.loop-v.v d (omega arith) below), so.size)

pub move_run-requires-clause-to : goal.move_run-requires-clause-to
move_run-requires-clause-to c =
    let old = c.args.rows.now in
    let so = c.loop-v.invariant.pulled in
    let d : Row = record { start = 0; len = 0; spare = 0; fresh = 0 } in
    let row : Row = get_or c.loop-v.rows c.loop-v.v d in
    let below : c.loop-v.v < length old = omega (arith, c.loop-v-test.true, so.long) in
    omega (arith, c.min-place.ensures, c.requires.laid.within c.loop-v.v d below, ap row_end (so.rest c.loop-v.v d (omega arith) below), so.size)

pub loop-v-preserved : goal.loop-v-preserved
loop-v-preserved c =
    let old = c.args.rows.now in
    let so = c.loop-v.invariant.pulled in
    let d : Row = record { start = 0; len = 0; spare = 0; fresh = 0 } in
    let row : Row = get_or c.loop-v.rows c.loop-v.v d in
    let below : c.loop-v.v < length old = omega (arith, c.loop-v-test.true, so.long) in
    let least : c.min-place.result ≡ min row.start c.loop-v.next = omega (arith, c.min-place.ensures) in
    record {
      pulled = pulled_more old c.loop-v.rows c.args.cells.now.ends c.loop-v.cells.ends c.move_run.new.self.ends c.loop-v.v c.loop-v.next c.min-place.result row so c.requires.laid below
          (get_or_default c.loop-v.rows c.loop-v.v d row (omega (arith, below, so.long))) least c.move_run.ensures.copied c.move_run.ensures.before c.move_run.ensures.after c.move_run.ensures.long;
      room = c.move_run.ensures.room ∙ c.loop-v.invariant.room;
    }

pub returns-clause-ready : goal.returns-clause-ready
returns-clause-ready c =
    let so = c.loop-v.invariant.pulled in
    pulled_all c.args.rows.now c.loop-v.rows c.args.cells.now.ends c.loop-v.cells.ends c.loop-v.v c.loop-v.next so (omega (arith, c.loop-v-test.false, so.long))
