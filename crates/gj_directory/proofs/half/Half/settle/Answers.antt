use Rattle.std.proofs.Common.{◌≡◌, ◌≤◌, ◌++◌, ◌-◌, ◌∙◌, ℕ, List, length, take, drop, refl, arith, ap, sym, subst}
use Rattle.std.proofs.lemmas.List.{take_rest, length-drop}
use Rattle.gj_compact.specs.declared.edge.Edge.{Edge}
use Rattle.gj_compact.specs.Lanes.{Laned}
use Rattle.gj_directory.specs.Sides.{IsSide}
use Rattle.gj_directory.proofs.ListLemmas.{take_between, drop_between}
use Rattle.gj_directory.proofs.SideLemmas.{known_rest, room_part, none_noted, side_settled}
use Rattle.gj_directory.proofs.half.Half.settle.Goals as goal

-- what is left behind the place
left : (edges rest : List Edge) (to n : ℕ) → rest ≡ take (n - to) (drop to edges) → n ≡ length edges → rest ≡ drop to edges
left edges rest to n is long = is ∙ (ap (λ (k : ℕ). take (k - to) (drop to edges)) long ∙ take_rest edges to)

-- what is laid out, and what is noted anew
split : (edges part rest : List Edge) (from to : ℕ) → from ≤ to → part ≡ take (to - from) (drop from edges) → rest ≡ drop to edges → drop from edges ≡ part ++ rest
split edges part rest from to order is rest_is =
    drop_between edges from to order ∙ (ap (λ (l : List Edge). l ++ drop to edges) (sym is) ∙ ap (λ (l : List Edge). part ++ l) (sym rest_is))

pub fill_parts-requires-clause-room : goal.fill_parts-requires-clause-room
fill_parts-requires-clause-room c =
    let edges : List Edge = c.args.edges.now.items in
    let part : List Edge = c.between.result.0.now ++ c.between.result.1.now in
    room_part c.args.self.now.names c.args.self.now.lane c.open.new.self c.args.side (take c.args.from edges) (drop c.args.from edges) part (drop c.args.to edges) c.requires.held
    (split edges part (drop c.args.to edges) c.args.from c.args.to c.requires.order c.between.ensures refl) c.open.ensures

pub note_parts-requires-clause-known : goal.note_parts-requires-clause-known
note_parts-requires-clause-known c =
    let edges : List Edge = c.args.edges.now.items in
    let part : List Edge = c.between.result.0.now ++ c.between.result.1.now in
    let rest : List Edge = c.between-2.result.0.now ++ c.between-2.result.1.now in
    let rest_is = left edges rest c.args.to c.len.result c.between-2.ensures (c.len.ensures ∙ c.args.edges.now.ok.0) in
    known_rest c.args.self.now.names c.args.self.now.lane c.fill_parts.new.lane c.args.side (take c.args.from edges) (drop c.args.from edges) part rest c.requires.held
    (split edges part rest c.args.from c.args.to c.requires.order c.between.ensures rest_is) (c.fill_parts.ensures.long ∙ ap (λ (l : Laned). length l.runs) c.open.ensures)

pub note_parts-requires-clause-few : goal.note_parts-requires-clause-few
note_parts-requires-clause-few c =
    let edges : List Edge = c.args.edges.now.items in
    let rest : List Edge = c.between-2.result.0.now ++ c.between-2.result.1.now in
    let rest_is = left edges rest c.args.to c.len.result c.between-2.ensures (c.len.ensures ∙ c.args.edges.now.ok.0) in
    let zeros = none_noted c.args.self.now.lane c.open.new.self c.fill_parts.new.lane c.open.ensures c.fill_parts.ensures.fresh in
    omega (arith, zeros.0, ap length rest_is, length-drop c.args.to edges, c.requires.room, c.requires.small)

pub returns-clause-held : goal.returns-clause-held
returns-clause-held c =
    let edges : List Edge = c.args.edges.now.items in
    let from = c.args.from in
    let to = c.args.to in
    let part : List Edge = c.between.result.0.now ++ c.between.result.1.now in
    let rest : List Edge = c.between-2.result.0.now ++ c.between-2.result.1.now in
    let rest_is = left edges rest to c.len.result c.between-2.ensures (c.len.ensures ∙ c.args.edges.now.ok.0) in
    let front_is : take to edges ≡ take from edges ++ part = take_between edges from to c.requires.order ∙ ap (λ (l : List Edge). take from edges ++ l) (sym c.between.ensures) in
    let settled = side_settled c.args.self.now.names c.args.self.now.lane c.open.new.self c.fill_parts.new.lane c.note_parts.new.lane c.args.side (take from edges) (drop from edges) part rest c.requires.held
    (split edges part rest from to c.requires.order c.between.ensures rest_is) c.open.ensures
    c.fill_parts.ensures.runs c.fill_parts.ensures.long c.fill_parts.ensures.fresh c.fill_parts.ensures.total
    c.note_parts.ensures.fresh c.note_parts.ensures.total c.note_parts.ensures.wide c.note_parts.ensures.runs in
    subst (λ (l : Laned). IsSide c.args.self.now.names l c.args.side (take to edges) (drop to edges)) (sym c.seal.ensures)
    (subst (λ (l : List Edge). IsSide c.args.self.now.names c.note_parts.new.lane c.args.side l (drop to edges)) (sym front_is)
    (subst (λ (l : List Edge). IsSide c.args.self.now.names c.note_parts.new.lane c.args.side (take from edges ++ part) l) rest_is settled))
