use Rattle.std.proofs.Common.{◌≡◌, ◌<◌, ◌∙◌, ℕ, List, length, get_or, set, refl, arith, ap}
use Rattle.std.proofs.lemmas.List.{get_or_default}
use Rattle.gj_compact.specs.declared.edge.Edge.{Edge}
use Rattle.gj_compact.specs.Lanes.{Laned}
use Rattle.gj_compact.specs.Turns.{near}
use Rattle.gj_directory.proofs.NumberLemmas.{renumbered_none, renumbered_more, next_old}
use Rattle.gj_directory.proofs.SideLemmas.{named_at}
use Rattle.gj_directory.proofs.half.Half.renumber.Goals as goal

pub loop-i-init : goal.loop-i-init
loop-i-init c = record {
  done = renumbered_none c.clear.new.self c.args.self.now.lane c.clear-2.new.self c.args.self.now.names.ids c.args.side c.args.edges.now.items c.args.self.now.names.room
      c.clear.ensures.empty c.clear.ensures.room c.requires.wide.runs c.clear-2.ensures;
  names = c.clear.ensures.room;
  size = ap (λ (l : Laned). l.room) c.clear-2.ensures;
  reserved = refl;
}

pub index-requires : goal.index-requires
index-requires c =
    let x : Edge = c.index-edge.result.now in
    let i = c.loop-i.i in
    let side = c.args.side in
    let ids : List ℕ = c.args.self.now.names.ids in
    let so = c.loop-i.invariant.done in
    let old : List Edge = c.args.edges.now.items in
    let below : i < length old = omega (arith, c.loop-i-test.true, c.len-i-end.ensures, c.args.edges.now.ok.0) in
    let is : x ≡ get_or old i x = c.index-edge.ensures ∙ next_old c.loop-i.self.names c.loop-i.self.lane ids side c.loop-i.edges.items old i x so in
    let known = named_at ids side old i x below c.requires.known in
    omega (arith, known, ap (near side) is, c.near.ensures, ap length c.copy_ids.ensures.ids, c.copy_ids.new.ids.ok.0)

pub loop-i-preserved : goal.loop-i-preserved
loop-i-preserved c =
    let x : Edge = c.index-edge.result.now in
    let y : Edge = c.with_near.result in
    let i = c.loop-i.i in
    let v = c.note-v.result in
    let side = c.args.side in
    let ids : List ℕ = c.args.self.now.names.ids in
    let so = c.loop-i.invariant.done in
    let old : List Edge = c.args.edges.now.items in
    let edges : List Edge = c.loop-i.edges.items in
    let below : i < length old = omega (arith, c.loop-i-test.true, c.len-i-end.ensures, c.args.edges.now.ok.0) in
    let inside : i < length edges = omega (arith, below, so.long) in
    let is : x ≡ get_or old i x = c.index-edge.ensures ∙ next_old c.loop-i.self.names c.loop-i.self.lane ids side edges old i x so in
    let known : c.near.result < length ids = omega (arith, named_at ids side old i x below c.requires.known, ap (near side) is, c.near.ensures) in
    let id_is : c.index.result.now ≡ get_or ids (near side x) 0 =
    c.index.ensures ∙ (ap (λ (l : List ℕ). get_or l c.near.result c.index.result.now) c.copy_ids.ensures.ids
    ∙ (get_or_default ids c.near.result c.index.result.now 0 known ∙ ap (λ (n : ℕ). get_or ids n 0) c.near.ensures)) in
    record {
      done = renumbered_more c.loop-i.self.names c.note-v.new.self.names c.loop-i.self.lane c.note-v.new.self.lane ids side edges (set edges i y) old i x y c.index.result.now v
          so inside c.index-edge.ensures id_is c.note-v.ensures.ids c.note-v.ensures.place c.note-v.ensures.in_range c.note-v.ensures.room c.note-v.ensures.lawful c.note-v.ensures.lane c.with_near.ensures refl;
      names = c.note-v.ensures.room ∙ c.loop-i.invariant.names;
      size = ap (λ (l : Laned). l.room) c.note-v.ensures.lane ∙ c.loop-i.invariant.size;
      reserved = c.loop-i.invariant.reserved;
    }
