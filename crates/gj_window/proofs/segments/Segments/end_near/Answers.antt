use Rattle.std.proofs.Common.{◌≡◌, ◌<◌, ◌∙◌, ◌++◌, ℕ, length, slice_index, refl, sym, subst}
use Rattle.gj_base.specs.Ends.{ends}
use Rattle.gj_base.specs.declared.kind.Kind.{Kind}
use Rattle.gj_directory.specs.Directories.{ids_of}
use Rattle.gj_directory.proofs.ShowLemmas.{told_in}
use Rattle.gj_window.proofs.PartLemmas.{parts_left, parts_right, parts_rest}
use Rattle.gj_window.proofs.FieldLemmas.{below_names, full_count, end_full}
use Rattle.gj_window.proofs.segments.Segments.end_near.Goals as goal

pub end_near-requires-clause-vertex : goal.end_near-requires-clause-vertex
end_near-requires-clause-vertex c = below_names c.self.inside c.args.self.now c.args.side c.args.v c.self.view_is c.requires.vertex

pub end_near-requires-clause-index : goal.end_near-requires-clause-index
end_near-requires-clause-index c =
    let same = full_count c.self.inside c.args.self.now c.args.side c.args.v c.args.id c.args.mask (length (ends c.self.inside.directory.full c.args.side (slice_index (ids_of c.self.inside.directory c.args.side) c.args.v) c.args.mask)) c.self.view_is c.requires.named refl in
    let P : ℕ → Type 0 = λ n. c.args.i < n in
    subst P (c.requires.full ∙ sym same) c.if-i-full.true

pub end_pooled-requires : goal.end_pooled-requires
end_pooled-requires c =
    let w = c.args.self.now in
    parts_rest w.full (w.older ++ w.newest) c.args.side c.args.id c.args.mask c.args.i _ c.requires.full c.if-i-full.false c.requires.index

pub returns-then-i-full : goal.returns-then-i-full
returns-then-i-full c =
    let w = c.args.self.now in
    let same = full_count c.self.inside w c.args.side c.args.v c.args.id c.args.mask (length (ends c.self.inside.directory.full c.args.side (slice_index (ids_of c.self.inside.directory c.args.side) c.args.v) c.args.mask)) c.self.view_is c.requires.named refl in
    let P : ℕ → Type 0 = λ n. c.args.i < n in
    let e = told_in (ends c.self.inside.directory.full c.args.side (slice_index (ids_of c.self.inside.directory c.args.side) c.args.v) c.args.mask) c.args.i
    (λ (end : ℕ × Kind). c.end_near.result.0 ≡ end.0) (subst P (c.requires.full ∙ sym same) c.if-i-full.true) c.end_near.ensures in
    rw (parts_left w.full (w.older ++ w.newest) c.args.side c.args.id c.args.mask c.args.i e.0
    (end_full c.self.inside w c.args.side c.args.v c.args.id c.args.mask c.args.i e.0 c.self.view_is c.requires.named e.1)) e.2

pub returns-else-i-full : goal.returns-else-i-full
returns-else-i-full c =
    let w = c.args.self.now in
    rw (parts_right w.full (w.older ++ w.newest) c.args.side c.args.id c.args.mask c.args.i _ _ c.requires.full c.if-i-full.false c.end_pooled.ensures) refl
