use Rattle.std.proofs.Common.{◌<◌, ◌≤◌, take, get_or, length}
use Rattle.std.proofs.lemmas.List.{take_more}
use Rattle.gj_subgraph.specs.Numbers.{AreNumbers}
use Rattle.gj_subgraph.proofs.NumberLemmas.{take_whole}
use Rattle.gj_subgraph.proofs.RelaidLemmas.{placed_next, placed_none}
use Rattle.gj_subgraph.proofs.relaid.matched.Goals as goal

pub loop-k-init : goal.loop-k-init
loop-k-init c = rw (c.in_ok-places.ensures.empty) (placed_none c.args.from.now.names.items)

pub loop-k-preserved : goal.loop-k-preserved
loop-k-preserved c =
    let names = c.args.from.now.names.items in
    let others = c.args.to.now.names.items in
    let k = c.loop-k.k in
    let slice = c.as_slice-names.ensures.value in
    let inside : k < length others = rw slice at c.loop-k-test.true in
    let numbers : AreNumbers c.in_ok-numbers.numbers names = rw (c.as_slice.ensures.value, ← c.requires.from.names) at c.in_ok-numbers.ensures in
    let found = c.number_in.ensures names numbers (rw slice (c.requires.known k inside)) in
    rw (take_more others k 0 inside, c.in_ok-push.ensures)
    (placed_next (take k others) names c.loop-k.places.items (get_or others k 0) c.number_in.result c.loop-k.invariant found.0 (rw slice at found.1))

pub returns : goal.returns
returns c =
    let all : length c.args.to.now.names.items ≤ c.loop-k.k = rw (c.as_slice-names.ensures.value) at c.loop-k-test.false in
    rw (take_whole c.loop-k.k c.args.to.now.names.items all) at c.loop-k.invariant
