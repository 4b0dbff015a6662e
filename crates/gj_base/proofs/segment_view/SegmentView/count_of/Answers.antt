use Rattle.std.proofs.Common.{◌<◌, ◌≤◌, length, arith, sym, ◌∙◌}
use Rattle.gj_base.specs.Numbered.{numbered, dated_ends, lets_end}
use Rattle.gj_base.proofs.MaskedLemmas.{length-dated, count_few, count_yes, count_no, count_all}
use Rattle.gj_base.proofs.segment_view.SegmentView.count_of.Goals as goal
use Rattle.gj_base.proofs.segment_view.SegmentView.count_of.Goals.{then-lets, else-lets}

pub overflow_add-count : goal.overflow_add-count
overflow_add-count g c =
    let es = dated_ends (numbered (g.Self.SegmentView.listed c.args.self.now)) c.args.side c.args.v in
    omega (arith, c.loop-i.invariant, count_few (lets_end c.args.mask) es c.loop-i.i, c.loop-i-test.true, c.degree-i-end.ensures.in_range)

pub loop-i-preserved : goal.loop-i-preserved
loop-i-preserved g c =
    let items = numbered (g.Self.SegmentView.listed c.args.self.now) in
    let es = dated_ends items c.args.side c.args.v in
    let below : c.loop-i.i < length es = omega (arith, c.loop-i-test.true, c.degree-i-end.ensures.exact, length-dated items c.args.side c.args.v) in
    elim c.if-lets.branch [
      | then-lets w ↦ omega (arith, w.count-is, c.loop-i.invariant, count_yes (lets_end c.args.mask) es c.loop-i.i _ below c.dated_edge-end.ensures (sym c.lets.ensures ∙ w.if-lets.true))
      | else-lets w ↦ omega (arith, w.count-is, c.loop-i.invariant, count_no (lets_end c.args.mask) es c.loop-i.i _ below c.dated_edge-end.ensures (sym c.lets.ensures ∙ w.if-lets.false))
    ]

pub returns-clause-exact : goal.returns-clause-exact
returns-clause-exact g c =
    let items = numbered (g.Self.SegmentView.listed c.args.self.now) in
    let past : length (dated_ends items c.args.side c.args.v) ≤ c.loop-i.i =
    omega (arith, c.loop-i-test.false, c.degree-i-end.ensures.exact, length-dated items c.args.side c.args.v) in
    c.loop-i.invariant ∙ count_all items c.args.side c.args.v c.loop-i.i c.args.mask past
