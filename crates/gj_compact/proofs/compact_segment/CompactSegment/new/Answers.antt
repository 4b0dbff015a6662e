use Rattle.std.proofs.Common.{List, [], map, ap, sym, ◌∙◌, arith}
use Rattle.gj_base.specs.declared.side.Side.TheVariants.{User, Post}
use Rattle.gj_base.proofs.FirstLemmas.{firsts-nil}
use Rattle.gj_compact.specs.declared.edge.Edge.{Edge}
use Rattle.gj_compact.specs.Turns.{plain, ends_of}
use Rattle.gj_compact.proofs.CompactLemmas.{compact_of, run_none, numbered-nil}
use Rattle.gj_compact.proofs.TotalLemmas.{none_are}
use Rattle.gj_compact.proofs.compact_segment.CompactSegment.new.Goals as goal

pub invariant_of-result : goal.invariant_of-result
invariant_of-result c =
    let none = c.in-Ok.ensures.items in
    compact_of _ [] c.requires.any c.requires.fits (omega arith) (omega (arith, c.in-Ok.ensures.capacity))
    (ap (map plain) none ∙ sym numbered-nil)
    (c.in_ok-users.ensures.ids ∙ sym firsts-nil) (c.in_ok-posts.ensures.ids ∙ sym firsts-nil)
    (λ v h. run_none c.args.capacity v User _ c.in_ok-users.ensures.runs h ∙ ap (λ (l : List Edge). ends_of l User v) (sym none))
    (λ v h. run_none c.args.capacity v Post _ c.in_ok-posts.ensures.runs h ∙ ap (λ (l : List Edge). ends_of l Post v) (sym none))
    c.in_ok-users.ensures.roomy c.in_ok-posts.ensures.roomy (none_are c.in-Ok.edges.items none)
