use Rattle.std.proofs.Common.{◌<◌, length, take, get_or, arith}
use Rattle.std.proofs.lemmas.List.{take_more}
use Rattle.gj_subgraph.proofs.NumberLemmas.{Distinct, counted_push, degree_le, vertices_distinct}
use Rattle.gj_subgraph.proofs.number.degrees_of.Goals as goal

pub add-requires-clause-fits : goal.add-requires-clause-fits
add-requires-clause-fits c =
    let inside : c.loop-i.i < length c.args.side.now = omega (arith, c.requires.places.same_len) in
    let few = degree_le c.args.side.now c.args.names.now c.loop-i.degrees.items c.loop-i.i _ c.loop-i.invariant (c.requires.places.in_range c.loop-i.i inside) in
    omega (arith, few)

pub loop-i-preserved : goal.loop-i-preserved
loop-i-preserved c =
    let side = c.args.side.now in
    let i = c.loop-i.i in
    let id = get_or side i 0 in
    let p = get_or c.args.places.now i 0 in
    let distinct : Distinct c.args.names.now = rw (c.requires.names) (vertices_distinct side) in
    let inside : i < length side = omega (arith, c.requires.places.same_len) in
    rw (take_more side i 0 inside, c.add.ensures)
    (counted_push (take i side) c.args.names.now c.loop-i.degrees.items id p distinct c.loop-i.invariant
    (c.requires.places.in_range i inside) (c.requires.places.named i inside))
