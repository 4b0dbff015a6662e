use Rattle.std.proofs.Common.{◌≡◌, ◌<◌, ◌+◌, length, arith, sym, ap, ◌∙◌, drop, refl, [], ◌∷◌}
use Rattle.std.proofs.lemmas.List.{drop_all, length-drop}
use Rattle.gj_base.specs.Ends.{ends}
use Rattle.gj_base.specs.Numbered.{numbered, dated_ends}
use Rattle.gj_base.proofs.EndsLemmas.{first_of_drop, drop_past}
use Rattle.gj_base.proofs.MaskedLemmas.{length-dated, ends-dated, undated, left_ends, left_yes, left_no, left_past}
use Rattle.gj_base.proofs.segment_view.SegmentView.nth_of.Goals as goal
use Rattle.gj_base.proofs.segment_view.SegmentView.nth_of.Goals.{then-lets+else-left-eq0, else-lets}

pub loop-k-init : goal.loop-k-init
loop-k-init g c =
    ap (drop c.args.i) (ends-dated (numbered (g.Self.SegmentView.listed c.args.self.now)) c.args.side c.args.v c.args.mask)

pub returns-then-left-eq0 : goal.returns-then-left-eq0
returns-then-left-eq0 g c =
    let items = numbered (g.Self.SegmentView.listed c.args.self.now) in
    let es = dated_ends items c.args.side c.args.v in
    let below : c.loop-k.k < length es = omega (arith, c.loop-k-test.true, c.degree-k-end.ensures.exact, length-dated items c.args.side c.args.v) in
    let step = left_yes c.args.mask es c.loop-k.k c.dated_edge-end.result below c.dated_edge-end.ensures (sym c.lets.ensures ∙ c.if-lets.true) in
    let here : drop c.args.i (ends items c.args.side c.args.v c.args.mask) ≡ undated c.dated_edge-end.result ∷ left_ends c.args.mask (c.loop-k.k + 1) es =
    c.loop-k.invariant ∙ rw c.if-left-eq0.true step in
    first_of_drop _ c.args.i _ _ here

pub loop-k-preserved : goal.loop-k-preserved
loop-k-preserved g c =
    let items = numbered (g.Self.SegmentView.listed c.args.self.now) in
    let es = dated_ends items c.args.side c.args.v in
    let below : c.loop-k.k < length es = omega (arith, c.loop-k-test.true, c.degree-k-end.ensures.exact, length-dated items c.args.side c.args.v) in
    elim c.if-lets.branch [
      | then-lets+else-left-eq0 w ↦
          let step = left_yes c.args.mask es c.loop-k.k c.dated_edge-end.result below c.dated_edge-end.ensures (sym c.lets.ensures ∙ w.if-lets.true) in
          let above : 0 < c.loop-k.left = omega arith in
          c.loop-k.invariant ∙ rw (step, w.left-is) (drop_past c.loop-k.left _ _ above)
      | else-lets w ↦
          let step = left_no c.args.mask es c.loop-k.k c.dated_edge-end.result below c.dated_edge-end.ensures (sym c.lets.ensures ∙ w.if-lets.false) in
          c.loop-k.invariant ∙ rw (step, w.left-is) refl
    ]

pub unreachable-requires : goal.unreachable-requires
unreachable-requires g c =
    let items = numbered (g.Self.SegmentView.listed c.args.self.now) in
    let es = dated_ends items c.args.side c.args.v in
    let past : left_ends c.args.mask c.loop-k.k es ≡ [] =
    left_past c.args.mask es c.loop-k.k (omega (arith, c.loop-k-test.false, c.degree-k-end.ensures.exact, length-dated items c.args.side c.args.v)) in
    let none : drop c.args.i (ends items c.args.side c.args.v c.args.mask) ≡ [] =
    c.loop-k.invariant ∙ rw past (drop_all c.loop-k.left [] (omega arith)) in
    omega (arith, length-drop c.args.i (ends items c.args.side c.args.v c.args.mask), ap length none, c.requires.index)
