use Rattle.std.proofs.Common.{◌∙◌, length, count_by, get_or, arith, ap}
use Rattle.gj_compact.specs.Blocks.{lets_through}
use Rattle.gj_compact.specs.Lanes.{run_of}
use Rattle.gj_directory.specs.declared.half.Half.{Half}
use Rattle.gj_directory.proofs.ShowLemmas.{count_told, vertex_told}
use Rattle.gj_directory.proofs.directory.Directory.end_near.Goals as goal

pub vertex_in-place-requires-clause-index : goal.vertex_in-place-requires-clause-index
vertex_in-place-requires-clause-index c =
    let told = count_told c.self.inside c.args.self.now c.args.side c.args.v c.args.mask c.self.invariant c.self.view_is c.requires.vertex in
    omega (arith, c.requires.index, told, ap (λ (h : Half). count_by (lets_through c.args.mask) (run_of h.lane.runs c.args.v)) c.half_of.ensures)

pub id_of-requires : goal.id_of-requires
id_of-requires c =
    let told = vertex_told c.self.inside c.args.self.now c.half_of.result.now c.args.side c.args.v c.args.i c.vertex_in-place.result c.args.mask
    c.self.invariant c.self.view_is c.half_of.ensures c.requires.vertex c.requires.index c.vertex_in-place.ensures in
    omega (arith, told.0, ap (λ (h : Half). length h.names.ids) c.half_of-far.ensures)

pub returns : goal.returns
returns c =
    let told = vertex_told c.self.inside c.args.self.now c.half_of.result.now c.args.side c.args.v c.args.i c.vertex_in-place.result c.args.mask
    c.self.invariant c.self.view_is c.half_of.ensures c.requires.vertex c.requires.index c.vertex_in-place.ensures in
    let name = c.id_of.ensures ∙ ap (λ (h : Half). get_or h.names.ids c.vertex_in-place.result 0) c.half_of-far.ensures in
    rw name told.1
