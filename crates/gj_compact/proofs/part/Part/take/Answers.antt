use Rattle.std.proofs.Common.{◌≡◌, List, [], length, ap, ◌∙◌, arith}
use Rattle.std.proofs.lemmas.List.{length-replicate, length-map}
use Rattle.gj_compact.specs.declared.edge.End.{End}
use Rattle.gj_compact.specs.Lanes.{Laned, sum_of}
use Rattle.gj_compact.specs.Turns.{plain}
use Rattle.gj_compact.proofs.CompactLemmas.{known_by, few-vertices, length-numbered, wanted_noted}
use Rattle.gj_compact.proofs.NoteLemmas.{sum-nil}
use Rattle.gj_compact.proofs.part.Part.take.Goals as goal

pub note_all-requires-clause-known : goal.note_all-requires-clause-known
note_all-requires-clause-known g c = λ i d h.
    let items = g.V.SegmentView.listed c.args.from.now in
    let e : List End = [] in
    let n = length c.args.self.now.lane.runs in
    let long = ap (λ (l : Laned). length l.runs) c.clear-2.ensures in
    omega (
      arith,
      known_by c.args.edges.now items c.args.side i d c.requires.numbers h,
      few-vertices items c.args.side,
      c.requires.fits,
      c.requires.roomy.long,
      long,
      length-replicate n e,
    )

pub note_all-requires-clause-few : goal.note_all-requires-clause-few
note_all-requires-clause-few g c =
    let items = g.V.SegmentView.listed c.args.from.now in
    let n = length c.args.self.now.lane.runs in
    omega (arith, ap (λ (l : Laned). sum_of l.fresh) c.clear-2.ensures, sum-nil n, length-map c.args.edges.now plain, ap length c.requires.numbers, length-numbered items, c.requires.fits, c.requires.small)

pub open-requires : goal.open-requires
open-requires g c =
    let items = g.V.SegmentView.listed c.args.from.now in
    let n = length c.args.self.now.lane.runs in
    let notes : sum_of c.note_all.new.lane.fresh ≡ length c.args.edges.now =
    omega (arith, c.note_all.ensures.total, ap (λ (l : Laned). sum_of l.fresh) c.clear-2.ensures, sum-nil n) in
    let all = wanted_noted n c.note_all.new.lane (length c.args.edges.now) (c.note_all.ensures.runs ∙ ap (λ (l : Laned). l.runs) c.clear-2.ensures) notes in
    omega (
      arith,
      all,
      length-map c.args.edges.now plain,
      ap length c.requires.numbers,
      length-numbered items,
      c.requires.fits,
      c.note_all.ensures.size,
      ap (λ (l : Laned). l.room) c.clear-2.ensures,
      c.requires.roomy.size,
    )

pub fill-requires-clause-known : goal.fill-requires-clause-known
fill-requires-clause-known g c = λ i d h.
    let items = g.V.SegmentView.listed c.args.from.now in
    let e : List End = [] in
    let n = length c.args.self.now.lane.runs in
    omega (
      arith,
      known_by c.args.edges.now items c.args.side i d c.requires.numbers h,
      few-vertices items c.args.side,
      c.requires.fits,
      c.requires.roomy.long,
      ap (λ (l : Laned). length l.runs) c.open.ensures,
      ap length c.note_all.ensures.runs,
      ap (λ (l : Laned). length l.runs) c.clear-2.ensures,
      length-replicate n e,
    )
