use Rattle.std.proofs.Common.{◌≡◌, ◌-◌, ℕ, List, length, take, drop, count_by, ap, sym, ◌∙◌, arith}
use Rattle.std.proofs.lemmas.List.{length-take}
use Rattle.std.proofs.lemmas.List.Sums.{count_by-le-length}
use Rattle.gj_base.specs.declared.kind.Kind.{Kind}
use Rattle.gj_base.specs.Kinds.{has_kind}
use Rattle.gj_compact.specs.declared.edge.End.{End}
use Rattle.gj_compact.specs.Blocks.{lets_through}
use Rattle.gj_compact.specs.Cells.{Celled}
use Rattle.gj_compact.proofs.CellLemmas.{length-joined}
use Rattle.gj_compact.proofs.SumLemmas.{cells_before, count_split}
use Rattle.gj_compact.proofs.cells.Cells.count_long.Goals as goal

pub before-requires-clause-inside : goal.before-requires-clause-inside
before-requires-clause-inside c =
    let vs : List ℕ = c.self.inside.vertices.items in
    let ks : List Kind = c.self.inside.kinds.items in
    let ats : List ℕ = c.self.inside.moments.items in
    let cells : List End = c.args.self.now.ends in
    let long : length ks ≡ length cells = c.self.invariant.kinds ∙ (sym (length-joined vs ks ats c.self.invariant.kinds c.self.invariant.moments) ∙ ap (λ (x : Celled). length x.ends) c.self.view_is) in
    omega (arith, c.requires.inside, long, ap length c.deref-then-not_before-eq0.ensures.value)

pub before-requires-then-not_before-eq0-clause-inside : goal.before-requires-then-not_before-eq0-clause-inside
before-requires-then-not_before-eq0-clause-inside c =
    let vs : List ℕ = c.self.inside.vertices.items in
    let ks : List Kind = c.self.inside.kinds.items in
    let ats : List ℕ = c.self.inside.moments.items in
    let cells : List End = c.args.self.now.ends in
    let long : length ks ≡ length cells = c.self.invariant.kinds ∙ (sym (length-joined vs ks ats c.self.invariant.kinds c.self.invariant.moments) ∙ ap (λ (x : Celled). length x.ends) c.self.view_is) in
    omega (arith, c.requires.order, c.requires.inside, long, ap length c.deref-then-not_before-eq0-3.ensures.value)

pub overflow_sub-result : goal.overflow_sub-result
overflow_sub-result c =
    let vs : List ℕ = c.self.inside.vertices.items in
    let ks : List Kind = c.self.inside.kinds.items in
    let ats : List ℕ = c.self.inside.moments.items in
    let cells : List End = c.args.self.now.ends in
    let long : length ks ≡ length cells = c.self.invariant.kinds ∙ (sym (length-joined vs ks ats c.self.invariant.kinds c.self.invariant.moments) ∙ ap (λ (x : Celled). length x.ends) c.self.view_is) in
    let ever : c.args.mask.not_before ≡ 0 = sym c.not_before.ensures.exact ∙ c.if-not_before-eq0.true in
    let to : c.before-then-not_before-eq0.result ≡ count_by (lets_through c.args.mask) (take c.args.to cells) =
    c.before-then-not_before-eq0.ensures ∙ (ap (λ (l : List Kind). count_by (has_kind c.args.mask) (take c.args.to l)) c.deref-then-not_before-eq0.ensures.value
    ∙ sym (cells_before c.args.mask vs ks ats cells c.args.to (ap (λ (x : Celled). x.ends) c.self.view_is) ever c.self.invariant.kinds c.self.invariant.moments)) in
    let from : c.before-then-not_before-eq0-2.result ≡ count_by (lets_through c.args.mask) (take c.args.from cells) =
    c.before-then-not_before-eq0-2.ensures ∙ (ap (λ (l : List Kind). count_by (has_kind c.args.mask) (take c.args.from l)) c.deref-then-not_before-eq0-3.ensures.value
    ∙ sym (cells_before c.args.mask vs ks ats cells c.args.from (ap (λ (x : Celled). x.ends) c.self.view_is) ever c.self.invariant.kinds c.self.invariant.moments)) in
    let split = count_split (lets_through c.args.mask) cells c.args.from c.args.to c.requires.order in
    omega (arith, to, from, split)

pub returns-then-not_before-eq0-clause-exact : goal.returns-then-not_before-eq0-clause-exact
returns-then-not_before-eq0-clause-exact c =
    let vs : List ℕ = c.self.inside.vertices.items in
    let ks : List Kind = c.self.inside.kinds.items in
    let ats : List ℕ = c.self.inside.moments.items in
    let cells : List End = c.args.self.now.ends in
    let long : length ks ≡ length cells = c.self.invariant.kinds ∙ (sym (length-joined vs ks ats c.self.invariant.kinds c.self.invariant.moments) ∙ ap (λ (x : Celled). length x.ends) c.self.view_is) in
    let ever : c.args.mask.not_before ≡ 0 = sym c.not_before.ensures.exact ∙ c.if-not_before-eq0.true in
    let to : c.before-then-not_before-eq0.result ≡ count_by (lets_through c.args.mask) (take c.args.to cells) =
    c.before-then-not_before-eq0.ensures ∙ (ap (λ (l : List Kind). count_by (has_kind c.args.mask) (take c.args.to l)) c.deref-then-not_before-eq0.ensures.value
    ∙ sym (cells_before c.args.mask vs ks ats cells c.args.to (ap (λ (x : Celled). x.ends) c.self.view_is) ever c.self.invariant.kinds c.self.invariant.moments)) in
    let from : c.before-then-not_before-eq0-2.result ≡ count_by (lets_through c.args.mask) (take c.args.from cells) =
    c.before-then-not_before-eq0-2.ensures ∙ (ap (λ (l : List Kind). count_by (has_kind c.args.mask) (take c.args.from l)) c.deref-then-not_before-eq0-3.ensures.value
    ∙ sym (cells_before c.args.mask vs ks ats cells c.args.from (ap (λ (x : Celled). x.ends) c.self.view_is) ever c.self.invariant.kinds c.self.invariant.moments)) in
    let split = count_split (lets_through c.args.mask) cells c.args.from c.args.to c.requires.order in
    omega (arith, to, from, split)

pub returns-then-not_before-eq0-clause-in_range : goal.returns-then-not_before-eq0-clause-in_range
returns-then-not_before-eq0-clause-in_range c =
    let vs : List ℕ = c.self.inside.vertices.items in
    let ks : List Kind = c.self.inside.kinds.items in
    let ats : List ℕ = c.self.inside.moments.items in
    let cells : List End = c.args.self.now.ends in
    let long : length ks ≡ length cells = c.self.invariant.kinds ∙ (sym (length-joined vs ks ats c.self.invariant.kinds c.self.invariant.moments) ∙ ap (λ (x : Celled). length x.ends) c.self.view_is) in
    let ever : c.args.mask.not_before ≡ 0 = sym c.not_before.ensures.exact ∙ c.if-not_before-eq0.true in
    let to : c.before-then-not_before-eq0.result ≡ count_by (lets_through c.args.mask) (take c.args.to cells) =
    c.before-then-not_before-eq0.ensures ∙ (ap (λ (l : List Kind). count_by (has_kind c.args.mask) (take c.args.to l)) c.deref-then-not_before-eq0.ensures.value
    ∙ sym (cells_before c.args.mask vs ks ats cells c.args.to (ap (λ (x : Celled). x.ends) c.self.view_is) ever c.self.invariant.kinds c.self.invariant.moments)) in
    let from : c.before-then-not_before-eq0-2.result ≡ count_by (lets_through c.args.mask) (take c.args.from cells) =
    c.before-then-not_before-eq0-2.ensures ∙ (ap (λ (l : List Kind). count_by (has_kind c.args.mask) (take c.args.from l)) c.deref-then-not_before-eq0-3.ensures.value
    ∙ sym (cells_before c.args.mask vs ks ats cells c.args.from (ap (λ (x : Celled). x.ends) c.self.view_is) ever c.self.invariant.kinds c.self.invariant.moments)) in
    let split = count_split (lets_through c.args.mask) cells c.args.from c.args.to c.requires.order in
    let part = take (c.args.to - c.args.from) (drop c.args.from cells) in
    omega (arith, to, from, split, count_by-le-length (lets_through c.args.mask) part, length-take (c.args.to - c.args.from) (drop c.args.from cells))
