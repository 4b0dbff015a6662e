use Rattle.std.proofs.Common.{arith, sym, ◌∙◌}
use Rattle.gj_compact.proofs.PullLemmas.{ready_wanted, ready_runs, ready_fresh, ready_zero}
use Rattle.gj_compact.proofs.lane.lay_out.Goals as goal

pub spread-requires-clause-low : goal.spread-requires-clause-low
spread-requires-clause-low c = c.pull.ensures.ready.low

pub spread-requires-clause-size : goal.spread-requires-clause-size
spread-requires-clause-size c =
    c.make.ensures.long ∙ (c.want-count.ensures ∙ sym (ready_wanted c.args.rows.now c.pull.new.rows c.args.cells.now.ends c.pull.new.cells.ends c.pull.auto.rows c.pull.ensures.ready))

pub returns-clause-runs : goal.returns-clause-runs
returns-clause-runs c =
    let old = c.args.rows.now in
    let want = ready_wanted old c.pull.new.rows c.args.cells.now.ends c.pull.new.cells.ends c.pull.auto.rows c.pull.ensures.ready in
    c.spread.ensures.runs
    ∙ ready_runs old c.pull.new.rows c.args.cells.now.ends c.pull.new.cells.ends c.make.new.self.ends c.pull.auto.rows c.pull.ensures.ready
    (λ n a b. c.make.ensures.front n (omega (arith, a, want, c.want-count.ensures)) b)

pub returns-clause-spare : goal.returns-clause-spare
returns-clause-spare c =
    c.spread.ensures.spare ∙ ready_fresh c.args.rows.now c.pull.new.rows c.args.cells.now.ends c.pull.new.cells.ends c.pull.auto.rows c.pull.ensures.ready

pub returns-clause-fresh : goal.returns-clause-fresh
returns-clause-fresh c = c.spread.ensures.fresh ∙ ready_zero c.args.rows.now c.pull.new.rows c.pull.auto.rows
