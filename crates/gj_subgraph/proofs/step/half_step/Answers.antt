use Rattle.std.proofs.Common.{◌<◌, ◌≤◌, ◌≡◌, length, get_or, arith, ◌∙◌}
use Rattle.gj_subgraph.specs.Numbers.{units_in}
use Rattle.gj_subgraph.proofs.NumberLemmas.{Distinct, vertices_distinct}
use Rattle.gj_subgraph.proofs.StepLemmas.{degree_above, stepped_none, stepped_more, stepped_all, kept_sum, more_named, next_part, fits_next, whole_sum}
use Rattle.gj_subgraph.proofs.step.half_step.Goals as goal

pub parts_of-requires-clause-positive : goal.parts_of-requires-clause-positive
parts_of-requires-clause-positive c = λ u l.
    let near = c.args.near.now in
    let inside : u < length near.names.items = rw (← c.requires.units) l in
    rw c.as_slice.ensures.value (degree_above near.side.items near.names.items near.degrees.items u c.requires.near.names c.requires.near.degrees inside)

pub loop-k-init : goal.loop-k-init
loop-k-init c =
    let near = c.args.near.now in
    let far = c.args.far.now in
    let more = c.in_ok-parts.more.items in
    let units = c.args.units.now in
    let out_len : length c.in_ok-out.out.items ≡ length far.names.items = omega (arith, c.in_ok-out.ensures.len, c.len.ensures) in
    stepped_none near.side.items far.side.items near.names.items far.names.items (units_in near.names.items units) more c.in_ok-out.out.items
    (c.in_ok-parts.ensures.more_len ∙ c.requires.units) out_len
    (more_named near.side.items near.names.items near.degrees.items units more c.requires.near.names c.requires.near.degrees c.requires.units
    (rw c.as_slice.ensures.value at c.in_ok-parts.ensures.more))
    c.in_ok-out.ensures.zero

pub add-requires-clause-fits : goal.add-requires-clause-fits
add-requires-clause-fits c =
    let near = c.args.near.now in
    let far = c.args.far.now in
    let k = c.loop-k.k in
    let units = units_in near.names.items c.args.units.now in
    let inside : k < length near.side.items = rw (c.as_slice-from.ensures.value, c.requires.near.places.same_len) at c.loop-k-test.true in
    let inside_far : k < length far.side.items = rw (c.requires.edges) at inside in
    let part = next_part near.side.items far.side.items near.names.items far.names.items near.degrees.items near.places.items c.args.units.now
    c.in_ok-parts.parts.items c.loop-k.more.items c.loop-k.out.items k c.take_part-part.result c.requires.near.names c.requires.near.degrees
    c.requires.near.places c.requires.units (rw c.as_slice.ensures.value at c.in_ok-parts.ensures.parts) c.loop-k.invariant inside
    (rw (c.as_slice-in-loop-k.ensures.value, c.as_slice-from.ensures.value) at c.take_part-part.ensures.part) in
    let within = fits_next near.side.items far.side.items near.names.items far.names.items units k c.loop-k.more.items c.loop-k.out.items
    (get_or far.places.items k 0) c.take_part-part.result c.loop-k.invariant inside (c.requires.far.places.in_range k inside_far) part in
    let whole = whole_sum near.side.items near.names.items c.args.units.now c.requires.near.names c.requires.units in
    rw c.as_slice-to.ensures.value (omega (arith, within, whole, c.requires.small))

pub loop-k-preserved : goal.loop-k-preserved
loop-k-preserved c =
    let near = c.args.near.now in
    let far = c.args.far.now in
    let k = c.loop-k.k in
    let inside : k < length near.side.items = rw (c.as_slice-from.ensures.value, c.requires.near.places.same_len) at c.loop-k-test.true in
    let inside_far : k < length far.side.items = rw (c.requires.edges) at inside in
    let part = next_part near.side.items far.side.items near.names.items far.names.items near.degrees.items near.places.items c.args.units.now
    c.in_ok-parts.parts.items c.loop-k.more.items c.loop-k.out.items k c.take_part-part.result c.requires.near.names c.requires.near.degrees
    c.requires.near.places c.requires.units (rw c.as_slice.ensures.value at c.in_ok-parts.ensures.parts) c.loop-k.invariant inside
    (rw (c.as_slice-in-loop-k.ensures.value, c.as_slice-from.ensures.value) at c.take_part-part.ensures.part) in
    let near_distinct : Distinct near.names.items = rw (c.requires.near.names) (vertices_distinct near.side.items) in
    let far_distinct : Distinct far.names.items = rw (c.requires.far.names) (vertices_distinct far.side.items) in
    rw (c.add.ensures, c.take_part-part.ensures.more, c.as_slice-from.ensures.value, c.as_slice-to.ensures.value)
    (stepped_more near.side.items far.side.items near.names.items far.names.items (units_in near.names.items c.args.units.now) k c.loop-k.more.items
    c.loop-k.out.items (get_or near.places.items k 0) (get_or far.places.items k 0) c.take_part-part.result c.loop-k.invariant near_distinct
    far_distinct inside c.requires.edges (c.requires.near.places.in_range k inside) (c.requires.near.places.named k inside)
    (c.requires.far.places.in_range k inside_far) (c.requires.far.places.named k inside_far) part)

pub returns-clause-exact : goal.returns-clause-exact
returns-clause-exact c =
    let near = c.args.near.now in
    let far = c.args.far.now in
    let past : length near.side.items ≤ c.loop-k.k = rw (c.as_slice-from.ensures.value, c.requires.near.places.same_len) at c.loop-k-test.false in
    stepped_all near.side.items far.side.items near.names.items far.names.items (units_in near.names.items c.args.units.now) c.loop-k.k c.loop-k.more.items
    c.loop-k.out.items c.loop-k.invariant past c.requires.edges c.requires.far.names

pub returns-clause-kept : goal.returns-clause-kept
returns-clause-kept c =
    let near = c.args.near.now in
    let far = c.args.far.now in
    let past : length near.side.items ≤ c.loop-k.k = rw (c.as_slice-from.ensures.value, c.requires.near.places.same_len) at c.loop-k-test.false in
    kept_sum near.side.items far.side.items near.names.items far.names.items c.args.units.now c.loop-k.out.items c.requires.near.names c.requires.far.names
    c.requires.units c.loop-k.invariant.out_len c.requires.edges
    (stepped_all near.side.items far.side.items near.names.items far.names.items (units_in near.names.items c.args.units.now) c.loop-k.k
    c.loop-k.more.items c.loop-k.out.items c.loop-k.invariant past c.requires.edges c.requires.far.names)
