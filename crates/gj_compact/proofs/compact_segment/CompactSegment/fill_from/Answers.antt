use Rattle.std.proofs.Common.{◌≡◌, List, length, map, ap, sym, subst, ◌∙◌, arith}
use Rattle.std.proofs.lemmas.List.{length-map}
use Rattle.gj_base.specs.declared.side.Side.TheVariants.{User, Post}
use Rattle.gj_compact.specs.declared.edge.Edge.{Edge}
use Rattle.gj_compact.specs.Compact.{Segment, IsRoomy}
use Rattle.gj_compact.specs.Sums.{AreCounts, edge_kind}
use Rattle.gj_compact.specs.Turns.{ends_of, plain}
use Rattle.gj_compact.proofs.CompactLemmas.{compact_of, length-numbered, shown_is}
use Rattle.gj_compact.proofs.compact_segment.CompactSegment.fill_from.Goals as goal

pub count_all-self-inside-requires : goal.count_all-self-inside-requires
count_all-self-inside-requires g c =
    let edges : List Edge = c.copy_edges.new.edges.items in
    let items = g.V.SegmentView.listed c.args.from.now in
    let long : length edges ≡ length items = sym (length-map edges plain) ∙ (ap length c.copy_edges.ensures.items ∙ length-numbered items) in
    let room = ap (λ (s : Segment). s.room) c.self.view_is in
    omega (arith, ap length c.deref.ensures.value, long, c.requires, room, c.self.invariant.fits)

pub invariant_of-self : goal.invariant_of-self
invariant_of-self g c =
    let old = c.self.invariant in
    let items = g.V.SegmentView.listed c.args.from.now in
    let room = ap (λ (s : Segment). s.room) c.self.view_is in
    let users = old.users.roomy.ids in
    let posts = old.posts.roomy.ids in
    compact_of _ items old.any old.fits (omega (arith, c.requires, room)) (omega (arith, old.held, c.copy_edges.ensures.capacity))
    c.copy_edges.ensures.items c.take.ensures.ids c.take-2.ensures.ids
    (λ v h. c.take.ensures.ends v (omega (arith, h, users)) ∙ ap (λ (l : List Edge). ends_of l User v) c.deref-2.ensures.value)
    (λ v h. c.take-2.ensures.ends v (omega (arith, h, posts)) ∙ ap (λ (l : List Edge). ends_of l Post v) c.deref-3.ensures.value)
    (subst (IsRoomy c.take.new.self) users c.take.ensures.roomy) (subst (IsRoomy c.take-2.new.self) posts c.take-2.ensures.roomy)
    (subst (λ (l : List Edge). AreCounts c.count_all-self-inside.result (map edge_kind l)) c.deref.ensures.value c.count_all-self-inside.ensures)

pub returns-clause-items : goal.returns-clause-items
returns-clause-items g c =
    shown_is c.take.new.self.ids.ids c.take-2.new.self.ids.ids c.copy_edges.new.edges.items (g.V.SegmentView.listed c.args.from.now)
    c.copy_edges.ensures.items c.take.ensures.ids c.take-2.ensures.ids
