use Rattle.std.proofs.Common.{◌≡◌, ◌<◌, ◌≤◌, ◌+◌, ◌-◌, ◌*◌, ◌/◌, ℕ, List, length, filter, take, get_or, count_by, slice_get, ap, sym, ◌∙◌, arith}
use Rattle.gj_base.specs.declared.kind.Kind.{Kind}
use Rattle.gj_base.specs.Kinds.{has_kind}
use Rattle.gj_compact.specs.declared.counts.Counts.{Counts}
use Rattle.gj_compact.specs.declared.edge.End.{End}
use Rattle.gj_compact.specs.Blocks.{lets_through}
use Rattle.gj_compact.specs.Counting.{counted, none_counted}
use Rattle.gj_compact.specs.Cells.{Celled}
use Rattle.gj_compact.proofs.CellLemmas.{length-joined}
use Rattle.gj_compact.proofs.SumLemmas.{cells_before, count_split, nth_split, sum_at, sum_read, sum_below}
use Rattle.gj_compact.proofs.cells.Cells.nth_long.Goals as goal

pub before-requires-clause-inside : goal.before-requires-clause-inside
before-requires-clause-inside c =
    let vs : List ℕ = c.self.inside.vertices.items in
    let ks : List Kind = c.self.inside.kinds.items in
    let ats : List ℕ = c.self.inside.moments.items in
    let cells : List End = c.args.self.now.ends in
    let long : length ks ≡ length cells = c.self.invariant.kinds ∙ (sym (length-joined vs ks ats c.self.invariant.kinds c.self.invariant.moments) ∙ ap (λ (x : Celled). length x.ends) c.self.view_is) in
    omega (arith, c.requires.order, c.requires.inside, long, ap length c.deref-then-not_before-eq0.ensures.value)

pub block_at-block-requires-clause-inside : goal.block_at-block-requires-clause-inside
block_at-block-requires-clause-inside c =
    let vs : List ℕ = c.self.inside.vertices.items in
    let ks : List Kind = c.self.inside.kinds.items in
    let ats : List ℕ = c.self.inside.moments.items in
    let cells : List End = c.args.self.now.ends in
    let long : length ks ≡ length cells = c.self.invariant.kinds ∙ (sym (length-joined vs ks ats c.self.invariant.kinds c.self.invariant.moments) ∙ ap (λ (x : Celled). length x.ends) c.self.view_is) in
    let sums : List Counts = c.self.inside.sums.items in
    let room = c.self.invariant.blocks c.if-self.true in
    let are = c.self.invariant.sums c.if-self.true in
    omega (arith, c.requires.inside, long, room.long, ap length c.deref-then-not_before-eq0-2.ensures.value)

pub block_at-block-requires-clause-begins : goal.block_at-block-requires-clause-begins
block_at-block-requires-clause-begins c =
    let vs : List ℕ = c.self.inside.vertices.items in
    let ks : List Kind = c.self.inside.kinds.items in
    let ats : List ℕ = c.self.inside.moments.items in
    let cells : List End = c.args.self.now.ends in
    let long : length ks ≡ length cells = c.self.invariant.kinds ∙ (sym (length-joined vs ks ats c.self.invariant.kinds c.self.invariant.moments) ∙ ap (λ (x : Celled). length x.ends) c.self.view_is) in
    let sums : List Counts = c.self.inside.sums.items in
    let room = c.self.invariant.blocks c.if-self.true in
    let are = c.self.invariant.sums c.if-self.true in
    let below : c.args.from / 64 < length sums = omega (arith, c.requires.order, c.requires.inside, long, room.long) in
    let low = sum_below c.args.mask sums ks c.args.from are below in
    let read = ap (λ (l : List Counts). counted c.args.mask (get_or l (c.args.from / 64) none_counted)) c.deref-then-not_before-eq0-2.ensures.value in
    let from : c.before-then-not_before-eq0.result ≡ count_by (has_kind c.args.mask) (take c.args.from ks) =
    c.before-then-not_before-eq0.ensures ∙ ap (λ (l : List Kind). count_by (has_kind c.args.mask) (take c.args.from l)) c.deref-then-not_before-eq0.ensures.value in
    omega (arith, low, read, from)

pub index-requires : goal.index-requires
index-requires c =
    let vs : List ℕ = c.self.inside.vertices.items in
    let ks : List Kind = c.self.inside.kinds.items in
    let ats : List ℕ = c.self.inside.moments.items in
    let cells : List End = c.args.self.now.ends in
    let long : length ks ≡ length cells = c.self.invariant.kinds ∙ (sym (length-joined vs ks ats c.self.invariant.kinds c.self.invariant.moments) ∙ ap (λ (x : Celled). length x.ends) c.self.view_is) in
    let sums : List Counts = c.self.inside.sums.items in
    let room = c.self.invariant.blocks c.if-self.true in
    let are = c.self.invariant.sums c.if-self.true in
    omega (arith, c.requires.inside, long, room.long, c.block_at-block.ensures.high, c.self.inside.sums.ok)

pub overflow_sub-left : goal.overflow_sub-left
overflow_sub-left c =
    let vs : List ℕ = c.self.inside.vertices.items in
    let ks : List Kind = c.self.inside.kinds.items in
    let ats : List ℕ = c.self.inside.moments.items in
    let cells : List End = c.args.self.now.ends in
    let long : length ks ≡ length cells = c.self.invariant.kinds ∙ (sym (length-joined vs ks ats c.self.invariant.kinds c.self.invariant.moments) ∙ ap (λ (x : Celled). length x.ends) c.self.view_is) in
    let sums : List Counts = c.self.inside.sums.items in
    let room = c.self.invariant.blocks c.if-self.true in
    let are = c.self.invariant.sums c.if-self.true in
    let b = c.block_at-block.result in
    let below : b < length sums = omega (arith, c.requires.inside, long, room.long, c.block_at-block.ensures.high) in
    let here : c.of.result ≡ counted c.args.mask (get_or sums b none_counted) = c.of.ensures ∙ sum_read c.args.mask sums b c.index.result.now below c.index.ensures in
    let read = ap (λ (l : List Counts). counted c.args.mask (get_or l b none_counted)) c.deref-then-not_before-eq0-2.ensures.value in
    omega (arith, here, read, c.block_at-block.ensures.begins)

pub scan_nth-requires-clause-index : goal.scan_nth-requires-clause-index
scan_nth-requires-clause-index c =
    let vs : List ℕ = c.self.inside.vertices.items in
    let ks : List Kind = c.self.inside.kinds.items in
    let ats : List ℕ = c.self.inside.moments.items in
    let cells : List End = c.args.self.now.ends in
    let long : length ks ≡ length cells = c.self.invariant.kinds ∙ (sym (length-joined vs ks ats c.self.invariant.kinds c.self.invariant.moments) ∙ ap (λ (x : Celled). length x.ends) c.self.view_is) in
    let sums : List Counts = c.self.inside.sums.items in
    let room = c.self.invariant.blocks c.if-self.true in
    let are = c.self.invariant.sums c.if-self.true in
    let ever : c.args.mask.not_before ≡ 0 = sym c.not_before.ensures.exact ∙ c.if-not_before-eq0.true in
    let b = c.block_at-block.result in
    let below : b < length sums = omega (arith, c.requires.inside, long, room.long, c.block_at-block.ensures.high) in
    let here : c.of.result ≡ counted c.args.mask (get_or sums b none_counted) = c.of.ensures ∙ sum_read c.args.mask sums b c.index.result.now below c.index.ensures in
    let start : c.of.result ≡ count_by (lets_through c.args.mask) (take (64 * b) cells) =
    here ∙ (sum_at c.args.mask sums ks b are below ∙ sym (cells_before c.args.mask vs ks ats cells (64 * b) (ap (λ (x : Celled). x.ends) c.self.view_is) ever c.self.invariant.kinds c.self.invariant.moments)) in
    let from : c.before-then-not_before-eq0.result ≡ count_by (lets_through c.args.mask) (take c.args.from cells) =
    c.before-then-not_before-eq0.ensures ∙ (ap (λ (l : List Kind). count_by (has_kind c.args.mask) (take c.args.from l)) c.deref-then-not_before-eq0.ensures.value
    ∙ sym (cells_before c.args.mask vs ks ats cells c.args.from (ap (λ (x : Celled). x.ends) c.self.view_is) ever c.self.invariant.kinds c.self.invariant.moments)) in
    let read = ap (λ (l : List Counts). counted c.args.mask (get_or l b none_counted)) c.deref-then-not_before-eq0-2.ensures.value in
    let low : c.of.result ≤ c.before-then-not_before-eq0.result + c.args.i = omega (arith, here, read, c.block_at-block.ensures.begins) in
    let order : 64 * b ≤ c.args.to = omega (arith, c.block_at-block.ensures.high) in
    omega (
      arith,
      start,
      from,
      low,
      count_split (lets_through c.args.mask) cells (64 * b) c.args.to order,
      count_split (lets_through c.args.mask) cells c.args.from c.args.to c.requires.order,
      c.requires.index,
    )

pub returns-then-not_before-eq0 : goal.returns-then-not_before-eq0
returns-then-not_before-eq0 c =
    let vs : List ℕ = c.self.inside.vertices.items in
    let ks : List Kind = c.self.inside.kinds.items in
    let ats : List ℕ = c.self.inside.moments.items in
    let cells : List End = c.args.self.now.ends in
    let long : length ks ≡ length cells = c.self.invariant.kinds ∙ (sym (length-joined vs ks ats c.self.invariant.kinds c.self.invariant.moments) ∙ ap (λ (x : Celled). length x.ends) c.self.view_is) in
    let sums : List Counts = c.self.inside.sums.items in
    let room = c.self.invariant.blocks c.if-self.true in
    let are = c.self.invariant.sums c.if-self.true in
    let ever : c.args.mask.not_before ≡ 0 = sym c.not_before.ensures.exact ∙ c.if-not_before-eq0.true in
    let b = c.block_at-block.result in
    let below : b < length sums = omega (arith, c.requires.inside, long, room.long, c.block_at-block.ensures.high) in
    let here : c.of.result ≡ counted c.args.mask (get_or sums b none_counted) = c.of.ensures ∙ sum_read c.args.mask sums b c.index.result.now below c.index.ensures in
    let start : c.of.result ≡ count_by (lets_through c.args.mask) (take (64 * b) cells) =
    here ∙ (sum_at c.args.mask sums ks b are below ∙ sym (cells_before c.args.mask vs ks ats cells (64 * b) (ap (λ (x : Celled). x.ends) c.self.view_is) ever c.self.invariant.kinds c.self.invariant.moments)) in
    let from : c.before-then-not_before-eq0.result ≡ count_by (lets_through c.args.mask) (take c.args.from cells) =
    c.before-then-not_before-eq0.ensures ∙ (ap (λ (l : List Kind). count_by (has_kind c.args.mask) (take c.args.from l)) c.deref-then-not_before-eq0.ensures.value
    ∙ sym (cells_before c.args.mask vs ks ats cells c.args.from (ap (λ (x : Celled). x.ends) c.self.view_is) ever c.self.invariant.kinds c.self.invariant.moments)) in
    let read = ap (λ (l : List Counts). counted c.args.mask (get_or l b none_counted)) c.deref-then-not_before-eq0-2.ensures.value in
    let low : c.of.result ≤ c.before-then-not_before-eq0.result + c.args.i = omega (arith, here, read, c.block_at-block.ensures.begins) in
    let order : 64 * b ≤ c.args.to = omega (arith, c.block_at-block.ensures.high) in
    let left = c.before-then-not_before-eq0.result + c.args.i - c.of.result in
    let place : count_by (lets_through c.args.mask) (take c.args.from cells) + c.args.i ≡ count_by (lets_through c.args.mask) (take (64 * b) cells) + left =
    omega (arith, start, from, low) in
    sym (nth_split (lets_through c.args.mask) cells c.args.from c.args.to c.args.i c.requires.order)
    ∙ (ap (slice_get (filter (lets_through c.args.mask) (take c.args.to cells))) place
    ∙ (nth_split (lets_through c.args.mask) cells (64 * b) c.args.to left order ∙ c.scan_nth.ensures))
