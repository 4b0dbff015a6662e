use Rattle.std.proofs.Common.{◌≡◌, ◌<◌, ◌≤◌, ◌-◌, ◌/◌, ℕ, List, length, take, drop, count_by, ap, sym, ◌∙◌, arith}
use Rattle.std.proofs.lemmas.List.{length-take}
use Rattle.std.proofs.lemmas.List.Sums.{count_by-le-length}
use Rattle.gj_base.specs.declared.kind.Kind.{Kind}
use Rattle.gj_base.specs.Kinds.{has_kind}
use Rattle.gj_compact.specs.declared.edge.End.{End}
use Rattle.gj_compact.specs.declared.spans.Span.{Span}
use Rattle.gj_compact.specs.Blocks.{lets_through}
use Rattle.gj_compact.specs.Spans.{Bounds}
use Rattle.gj_compact.specs.Cells.{Celled}
use Rattle.gj_compact.proofs.CellLemmas.{length-joined}
use Rattle.gj_compact.proofs.SpanLemmas.{AreColumns, count_since, count_before, span_part}
use Rattle.gj_compact.proofs.cells.Cells.count_in_block.Goals as goal

pub index-span-requires : goal.index-span-requires
index-span-requires c =
    let vs : List ℕ = c.self.inside.vertices.items in
    let ks : List Kind = c.self.inside.kinds.items in
    let ats : List ℕ = c.self.inside.moments.items in
    let cells : List End = c.args.self.now.ends in
    let long : length ks ≡ length cells = c.self.invariant.kinds ∙ (sym (length-joined vs ks ats c.self.invariant.kinds c.self.invariant.moments) ∙ ap (λ (x : Celled). length x.ends) c.self.view_is) in
    let spans : List Span = c.self.inside.spans.items in
    let below : c.args.from / 64 < length spans = omega (arith, c.requires.order, c.requires.inside, long, (c.self.invariant.blocks c.if-self.true).long, c.self.invariant.paired) in
    omega (arith, below, c.self.inside.spans.ok)

pub returns-then-span-not_before-clause-exact : goal.returns-then-span-not_before-clause-exact
returns-then-span-not_before-clause-exact c =
    let vs : List ℕ = c.self.inside.vertices.items in
    let ks : List Kind = c.self.inside.kinds.items in
    let ats : List ℕ = c.self.inside.moments.items in
    let cells : List End = c.args.self.now.ends in
    let long : length ks ≡ length cells = c.self.invariant.kinds ∙ (sym (length-joined vs ks ats c.self.invariant.kinds c.self.invariant.moments) ∙ ap (λ (x : Celled). length x.ends) c.self.view_is) in
    let spans : List Span = c.self.inside.spans.items in
    let below : c.args.from / 64 < length spans = omega (arith, c.requires.order, c.requires.inside, long, (c.self.invariant.blocks c.if-self.true).long, c.self.invariant.paired) in
    let columns : AreColumns vs ks ats cells = record { view = (ap (λ (x : Celled). x.ends) c.self.view_is); kinds = c.self.invariant.kinds; moments = c.self.invariant.moments } in
    let span : Span = c.index-span.result.now in
    let inside : c.args.to ≤ length ats = omega (arith, c.requires.inside, long, c.self.invariant.kinds, c.self.invariant.moments) in
    let bounds : Bounds span ats c.args.from c.args.to = span_part spans ats c.args.from c.args.to span (c.self.invariant.spans c.if-self.true) below c.index-span.ensures inside c.requires.block in
    sym (count_before c.args.mask vs ks ats cells c.args.from c.args.to span columns bounds (omega (arith, c.not_before.ensures.exact, c.if-span-not_before.true)))

pub before-requires-clause-inside : goal.before-requires-clause-inside
before-requires-clause-inside c =
    let vs : List ℕ = c.self.inside.vertices.items in
    let ks : List Kind = c.self.inside.kinds.items in
    let ats : List ℕ = c.self.inside.moments.items in
    let cells : List End = c.args.self.now.ends in
    let long : length ks ≡ length cells = c.self.invariant.kinds ∙ (sym (length-joined vs ks ats c.self.invariant.kinds c.self.invariant.moments) ∙ ap (λ (x : Celled). length x.ends) c.self.view_is) in
    omega (arith, c.requires.inside, long, ap length c.deref-then-not_before-span.ensures.value)

pub before-requires-then-not_before-span-clause-inside : goal.before-requires-then-not_before-span-clause-inside
before-requires-then-not_before-span-clause-inside c =
    let vs : List ℕ = c.self.inside.vertices.items in
    let ks : List Kind = c.self.inside.kinds.items in
    let ats : List ℕ = c.self.inside.moments.items in
    let cells : List End = c.args.self.now.ends in
    let long : length ks ≡ length cells = c.self.invariant.kinds ∙ (sym (length-joined vs ks ats c.self.invariant.kinds c.self.invariant.moments) ∙ ap (λ (x : Celled). length x.ends) c.self.view_is) in
    omega (arith, c.requires.order, c.requires.inside, long, ap length c.deref-then-not_before-span-3.ensures.value)

pub overflow_sub-result : goal.overflow_sub-result
overflow_sub-result c =
    let vs : List ℕ = c.self.inside.vertices.items in
    let ks : List Kind = c.self.inside.kinds.items in
    let ats : List ℕ = c.self.inside.moments.items in
    let cells : List End = c.args.self.now.ends in
    let long : length ks ≡ length cells = c.self.invariant.kinds ∙ (sym (length-joined vs ks ats c.self.invariant.kinds c.self.invariant.moments) ∙ ap (λ (x : Celled). length x.ends) c.self.view_is) in
    let spans : List Span = c.self.inside.spans.items in
    let below : c.args.from / 64 < length spans = omega (arith, c.requires.order, c.requires.inside, long, (c.self.invariant.blocks c.if-self.true).long, c.self.invariant.paired) in
    let columns : AreColumns vs ks ats cells = record { view = (ap (λ (x : Celled). x.ends) c.self.view_is); kinds = c.self.invariant.kinds; moments = c.self.invariant.moments } in
    let span : Span = c.index-span.result.now in
    let inside : c.args.to ≤ length ats = omega (arith, c.requires.inside, long, c.self.invariant.kinds, c.self.invariant.moments) in
    let bounds : Bounds span ats c.args.from c.args.to = span_part spans ats c.args.from c.args.to span (c.self.invariant.spans c.if-self.true) below c.index-span.ensures inside c.requires.block in
    let to : c.before-then-not_before-span.result ≡ count_by (has_kind c.args.mask) (take c.args.to ks) =
    c.before-then-not_before-span.ensures ∙ ap (λ (l : List Kind). count_by (has_kind c.args.mask) (take c.args.to l)) c.deref-then-not_before-span.ensures.value in
    let from : c.before-then-not_before-span-2.result ≡ count_by (has_kind c.args.mask) (take c.args.from ks) =
    c.before-then-not_before-span-2.ensures ∙ ap (λ (l : List Kind). count_by (has_kind c.args.mask) (take c.args.from l)) c.deref-then-not_before-span-3.ensures.value in
    let since = count_since c.args.mask vs ks ats cells c.args.from c.args.to span columns c.requires.order bounds (omega (arith, c.not_before.ensures.exact, c.if-not_before-span.true)) in
    omega (arith, to, from, since)

pub returns-then-not_before-span-clause-exact : goal.returns-then-not_before-span-clause-exact
returns-then-not_before-span-clause-exact c =
    let vs : List ℕ = c.self.inside.vertices.items in
    let ks : List Kind = c.self.inside.kinds.items in
    let ats : List ℕ = c.self.inside.moments.items in
    let cells : List End = c.args.self.now.ends in
    let long : length ks ≡ length cells = c.self.invariant.kinds ∙ (sym (length-joined vs ks ats c.self.invariant.kinds c.self.invariant.moments) ∙ ap (λ (x : Celled). length x.ends) c.self.view_is) in
    let spans : List Span = c.self.inside.spans.items in
    let below : c.args.from / 64 < length spans = omega (arith, c.requires.order, c.requires.inside, long, (c.self.invariant.blocks c.if-self.true).long, c.self.invariant.paired) in
    let columns : AreColumns vs ks ats cells = record { view = (ap (λ (x : Celled). x.ends) c.self.view_is); kinds = c.self.invariant.kinds; moments = c.self.invariant.moments } in
    let span : Span = c.index-span.result.now in
    let inside : c.args.to ≤ length ats = omega (arith, c.requires.inside, long, c.self.invariant.kinds, c.self.invariant.moments) in
    let bounds : Bounds span ats c.args.from c.args.to = span_part spans ats c.args.from c.args.to span (c.self.invariant.spans c.if-self.true) below c.index-span.ensures inside c.requires.block in
    let to : c.before-then-not_before-span.result ≡ count_by (has_kind c.args.mask) (take c.args.to ks) =
    c.before-then-not_before-span.ensures ∙ ap (λ (l : List Kind). count_by (has_kind c.args.mask) (take c.args.to l)) c.deref-then-not_before-span.ensures.value in
    let from : c.before-then-not_before-span-2.result ≡ count_by (has_kind c.args.mask) (take c.args.from ks) =
    c.before-then-not_before-span-2.ensures ∙ ap (λ (l : List Kind). count_by (has_kind c.args.mask) (take c.args.from l)) c.deref-then-not_before-span-3.ensures.value in
    let since = count_since c.args.mask vs ks ats cells c.args.from c.args.to span columns c.requires.order bounds (omega (arith, c.not_before.ensures.exact, c.if-not_before-span.true)) in
    omega (arith, to, from, since)

pub returns-then-not_before-span-clause-in_range : goal.returns-then-not_before-span-clause-in_range
returns-then-not_before-span-clause-in_range c =
    let vs : List ℕ = c.self.inside.vertices.items in
    let ks : List Kind = c.self.inside.kinds.items in
    let ats : List ℕ = c.self.inside.moments.items in
    let cells : List End = c.args.self.now.ends in
    let long : length ks ≡ length cells = c.self.invariant.kinds ∙ (sym (length-joined vs ks ats c.self.invariant.kinds c.self.invariant.moments) ∙ ap (λ (x : Celled). length x.ends) c.self.view_is) in
    let spans : List Span = c.self.inside.spans.items in
    let below : c.args.from / 64 < length spans = omega (arith, c.requires.order, c.requires.inside, long, (c.self.invariant.blocks c.if-self.true).long, c.self.invariant.paired) in
    let columns : AreColumns vs ks ats cells = record { view = (ap (λ (x : Celled). x.ends) c.self.view_is); kinds = c.self.invariant.kinds; moments = c.self.invariant.moments } in
    let span : Span = c.index-span.result.now in
    let inside : c.args.to ≤ length ats = omega (arith, c.requires.inside, long, c.self.invariant.kinds, c.self.invariant.moments) in
    let bounds : Bounds span ats c.args.from c.args.to = span_part spans ats c.args.from c.args.to span (c.self.invariant.spans c.if-self.true) below c.index-span.ensures inside c.requires.block in
    let to : c.before-then-not_before-span.result ≡ count_by (has_kind c.args.mask) (take c.args.to ks) =
    c.before-then-not_before-span.ensures ∙ ap (λ (l : List Kind). count_by (has_kind c.args.mask) (take c.args.to l)) c.deref-then-not_before-span.ensures.value in
    let from : c.before-then-not_before-span-2.result ≡ count_by (has_kind c.args.mask) (take c.args.from ks) =
    c.before-then-not_before-span-2.ensures ∙ ap (λ (l : List Kind). count_by (has_kind c.args.mask) (take c.args.from l)) c.deref-then-not_before-span-3.ensures.value in
    let since = count_since c.args.mask vs ks ats cells c.args.from c.args.to span columns c.requires.order bounds (omega (arith, c.not_before.ensures.exact, c.if-not_before-span.true)) in
    let part = take (c.args.to - c.args.from) (drop c.args.from cells) in
    omega (arith, to, from, since, count_by-le-length (lets_through c.args.mask) part, length-take (c.args.to - c.args.from) (drop c.args.from cells))
