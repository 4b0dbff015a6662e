use Rattle.std.proofs.Common.{◌≡◌, ◌-◌, ◌<◌, ℕ, length, get_or, arith, subst, ◌∙◌}
use Rattle.std.proofs.lemmas.List.{get_or_default}
use Rattle.gj_compact.specs.declared.lane.Row.{Row}
use Rattle.gj_compact.proofs.OpenLemmas.{SpreadFrom, spread_next, spread_step, all_runs, all_spare, all_fresh}
use Rattle.gj_compact.proofs.lane.spread.Goals as goal

pub move_run-requires-clause-from : goal.move_run-requires-clause-from
move_run-requires-clause-from c =
    let old = c.args.rows.now in
    let so = c.loop-v.invariant.spread in
    let d : Row = record { start = 0; len = 0; spare = 0; fresh = 0 } in
    let row : Row = get_or c.loop-v.rows (c.loop-v.v - 1) d in
    let below : c.loop-v.v - 1 < length c.loop-v.rows = omega (arith, c.loop-v-test.true, c.loop-v.invariant.most, so.long) in
    let known = spread_next old c.loop-v.rows c.args.cells.now.ends c.loop-v.cells.ends c.loop-v.v c.loop-v.next row so c.requires.low c.requires.size c.loop-v-test.true c.loop-v.invariant.most
    (get_or_default c.loop-v.rows (c.loop-v.v - 1) d row below) in
    omega (arith, known.inside, known.few, so.size)

pub loop-v-preserved : goal.loop-v-preserved
loop-v-preserved c =
    let old = c.args.rows.now in
    let so = c.loop-v.invariant.spread in
    let d : Row = record { start = 0; len = 0; spare = 0; fresh = 0 } in
    let row : Row = get_or c.loop-v.rows (c.loop-v.v - 1) d in
    let below : c.loop-v.v - 1 < length c.loop-v.rows = omega (arith, c.loop-v-test.true, c.loop-v.invariant.most, so.long) in
    record {
      spread = spread_step old c.loop-v.rows c.args.cells.now.ends c.loop-v.cells.ends c.move_run.new.self.ends c.loop-v.v c.loop-v.next row so c.requires.low c.requires.size
          c.loop-v-test.true c.loop-v.invariant.most (get_or_default c.loop-v.rows (c.loop-v.v - 1) d row below) c.move_run.ensures.copied c.move_run.ensures.before c.move_run.ensures.after
          c.move_run.ensures.long;
      room = c.move_run.ensures.room ∙ c.loop-v.invariant.room;
      most = omega (arith, c.loop-v.invariant.most);
    }

pub returns-clause-runs : goal.returns-clause-runs
returns-clause-runs c =
    let old = c.args.rows.now in
    let cells = c.args.cells.now.ends in
    let first : c.loop-v.v ≡ 0 = omega (arith, c.loop-v-test.false) in
    all_runs old c.loop-v.rows cells c.loop-v.cells.ends c.loop-v.next (subst (λ (n : ℕ). SpreadFrom old c.loop-v.rows cells c.loop-v.cells.ends n c.loop-v.next) first c.loop-v.invariant.spread)

pub returns-clause-spare : goal.returns-clause-spare
returns-clause-spare c =
    let old = c.args.rows.now in
    let cells = c.args.cells.now.ends in
    let first : c.loop-v.v ≡ 0 = omega (arith, c.loop-v-test.false) in
    all_spare old c.loop-v.rows cells c.loop-v.cells.ends c.loop-v.next (subst (λ (n : ℕ). SpreadFrom old c.loop-v.rows cells c.loop-v.cells.ends n c.loop-v.next) first c.loop-v.invariant.spread)

pub returns-clause-fresh : goal.returns-clause-fresh
returns-clause-fresh c =
    let old = c.args.rows.now in
    let cells = c.args.cells.now.ends in
    let first : c.loop-v.v ≡ 0 = omega (arith, c.loop-v-test.false) in
    all_fresh old c.loop-v.rows cells c.loop-v.cells.ends c.loop-v.next (subst (λ (n : ℕ). SpreadFrom old c.loop-v.rows cells c.loop-v.cells.ends n c.loop-v.next) first c.loop-v.invariant.spread)
