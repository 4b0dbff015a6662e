use Rattle.std.proofs.Common.{◌≡◌, ◌≤◌, ◌++◌, ◌-◌, ◌∙◌, ℕ, List, take, drop, arith, ap, sym}
use Rattle.gj_compact.specs.declared.edge.Edge.{Edge}
use Rattle.gj_directory.proofs.ListLemmas.{front_split}
use Rattle.gj_directory.proofs.SideLemmas.{side_begins, side_shed}
use Rattle.gj_directory.proofs.half.Half.shed.Goals as goal

split : (edges part : List Edge) (full count : ℕ) → count ≤ full → part ≡ take (count - 0) edges → take full edges ≡ part ++ drop count (take full edges)
split edges part full count order is =
    let all : count - 0 ≡ count = omega arith in
    front_split edges full count order ∙ ap (λ (l : List Edge). l ++ drop count (take full edges)) (sym (is ∙ ap (λ (k : ℕ). take k edges) all))

pub shed_parts-requires-clause-begins : goal.shed_parts-requires-clause-begins
shed_parts-requires-clause-begins c =
    let edges : List Edge = c.args.edges.now.items in
    let part : List Edge = c.between.result.0.now ++ c.between.result.1.now in
    let rest = drop c.args.count (take c.args.full edges) in
    side_begins c.args.self.now.names c.args.self.now.lane c.args.side part rest (take c.args.full edges) (drop c.args.full edges) c.requires.held
    (split edges part c.args.full c.args.count c.requires.order c.between.ensures)

pub returns-clause-held : goal.returns-clause-held
returns-clause-held c =
    let edges : List Edge = c.args.edges.now.items in
    let part : List Edge = c.between.result.0.now ++ c.between.result.1.now in
    let rest = drop c.args.count (take c.args.full edges) in
    side_shed c.args.self.now.names c.args.self.now.lane c.shed_parts.new.lane c.args.side part rest (take c.args.full edges) (drop c.args.full edges) c.requires.held
    (split edges part c.args.full c.args.count c.requires.order c.between.ensures)
    c.shed_parts.ensures.runs c.shed_parts.ensures.long c.shed_parts.ensures.fresh c.shed_parts.ensures.total
