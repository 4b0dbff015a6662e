use Rattle.std.proofs.Common.{◌∙◌, List, map, count_by, arith, ap, sym}
use Rattle.gj_base.specs.Ends.{passes}
use Rattle.gj_compact.specs.declared.edge.Edge.{Edge}
use Rattle.gj_compact.specs.Turns.{plain}
use Rattle.gj_directory.proofs.CountLemmas.{counted_is, passes-append}
use Rattle.gj_directory.proofs.ShowLemmas.{passes_told, passes_few}
use Rattle.gj_directory.proofs.directory.Directory.total.Goals as goal

pub overflow_cast-result : goal.overflow_cast-result
overflow_cast-result c =
    let edges : List Edge = c.self.inside.edges.items in
    let ever = sym c.not_before.ensures.exact ∙ c.if-not_before-eq0.true in
    let is = c.of.ensures ∙ counted_is c.args.mask c.self.inside.counts edges ever c.self.invariant.counted in
    omega (arith, is, passes_few c.args.mask edges, c.self.invariant.few, c.self.invariant.small)

pub returns-then-not_before-eq0-clause-exact : goal.returns-then-not_before-eq0-clause-exact
returns-then-not_before-eq0-clause-exact c =
    let edges : List Edge = c.self.inside.edges.items in
    let ever = sym c.not_before.ensures.exact ∙ c.if-not_before-eq0.true in
    c.of.ensures ∙ (counted_is c.args.mask c.self.inside.counts edges ever c.self.invariant.counted ∙ passes_told c.self.inside c.args.self.now c.args.mask c.self.view_is)

pub returns-then-not_before-eq0-clause-in_range : goal.returns-then-not_before-eq0-clause-in_range
returns-then-not_before-eq0-clause-in_range c =
    let edges : List Edge = c.self.inside.edges.items in
    let ever = sym c.not_before.ensures.exact ∙ c.if-not_before-eq0.true in
    let is = c.of.ensures ∙ counted_is c.args.mask c.self.inside.counts edges ever c.self.invariant.counted in
    omega (arith, is, passes_few c.args.mask edges, c.self.invariant.few, c.self.invariant.small)

pub returns-clause-exact : goal.returns-clause-exact
returns-clause-exact c =
    let edges : List Edge = c.self.inside.edges.items in
    let front = c.as_slices.result.0.now in
    let back = c.as_slices.result.1.now in
    let both = passes-append c.args.mask front back in
    let all = ap (λ (l : List Edge). count_by (passes c.args.mask) (map plain l)) c.as_slices.ensures.items in
    omega (arith, c.total_in.ensures.exact, c.total_in-2.ensures.exact, both, all, passes_told c.self.inside c.args.self.now c.args.mask c.self.view_is)
