use Rattle.std.proofs.Common.{◌≡◌, ◌<◌, ◌≤◌, ◌*◌, ◌/◌, ◌+◌, List, length, take, get_or, count_by, ◌∙◌, arith, length-take}
use Rattle.std.proofs.lemmas.List.Sums.{count_by-le-length}
use Rattle.gj_base.specs.declared.kind.Kind.{Kind}
use Rattle.gj_base.specs.Kinds.{has_kind}
use Rattle.gj_compact.specs.Counting.{counted, none_counted}
use Rattle.gj_compact.proofs.SumLemmas.{count_split, counted_is}
use Rattle.gj_compact.proofs.sums.before.Goals as goal

whole : (c : goal.After-count_kinds) → c.of.result + c.count_kinds.result ≡ count_by (has_kind c.args.mask) (take c.args.place c.args.kinds.now)
whole c =
    let block = c.args.place / 64 in
    let kinds : List Kind = c.args.kinds.now in
    let below : block < length c.args.sums.now = omega (arith, c.requires.inside, c.requires.room.long) in
    let front : counted c.args.mask (get_or c.args.sums.now block none_counted) ≡ count_by (has_kind c.args.mask) (take (64 * block) kinds) =
    counted_is c.args.mask (get_or c.args.sums.now block none_counted) (take (64 * block) kinds) (c.requires.sums block below) in
    let order : 64 * block ≤ c.args.place = omega arith in
    let split = count_split (has_kind c.args.mask) kinds (64 * block) c.args.place order in
    omega (arith, c.of.ensures ∙ front, c.count_kinds.ensures.exact, split)

pub overflow_add-result : goal.overflow_add-result
overflow_add-result c =
    omega (arith, whole c, count_by-le-length (has_kind c.args.mask) (take c.args.place c.args.kinds.now), length-take c.args.place c.args.kinds.now, c.ranges.place.fits)

pub returns : goal.returns
returns c = whole c
