use Rattle.std.proofs.Common.{◌<◌, ◌∙◌, ℕ, Option, Some, length, filter, count_by, get_or, slice_get, arith, ap, sym}
use Rattle.gj_base.specs.declared.kind.Kind.{Kind}
use Rattle.gj_compact.specs.Blocks.{lets_through}
use Rattle.gj_compact.specs.Lanes.{run_of}
use Rattle.gj_directory.specs.declared.half.Half.{Half}
use Rattle.gj_directory.proofs.ShowLemmas.{own_half, own_ids, count_told, end_told, far_known}
use Rattle.gj_directory.proofs.directory.Directory.end.Goals as goal

pub end_in-end-requires-clause-index : goal.end_in-end-requires-clause-index
end_in-end-requires-clause-index c =
    let told = count_told c.self.inside c.args.self.now c.args.side c.args.v c.args.mask c.self.invariant c.self.view_is c.requires.vertex in
    omega (arith, c.requires.index, told, ap (λ (h : Half). count_by (lets_through c.args.mask) (run_of h.lane.runs c.args.v)) c.half_of.ensures)

pub id_of-requires : goal.id_of-requires
id_of-requires c =
    let told = count_told c.self.inside c.args.self.now c.args.side c.args.v c.args.mask c.self.invariant c.self.view_is c.requires.vertex in
    let below : c.args.v < length (own_half c.self.inside c.args.side).names.ids = omega (arith, c.requires.vertex, ap length (own_ids c.self.inside c.args.self.now c.args.side c.self.view_is)) in
    let here = ap (λ (h : Half). slice_get (filter (lets_through c.args.mask) (run_of h.lane.runs c.args.v)) c.args.i) (sym c.half_of.ensures) ∙ c.end_in-end.ensures in
    let known = far_known c.self.inside c.args.side c.args.v c.args.i c.args.mask c.end_in-end.result c.self.invariant below (omega (arith, c.requires.index, told)) here in
    omega (arith, known, ap (λ (h : Half). length h.names.ids) c.half_of-far.ensures)

pub returns : goal.returns
returns c =
    let here = ap (λ (h : Half). slice_get (filter (lets_through c.args.mask) (run_of h.lane.runs c.args.v)) c.args.i) (sym c.half_of.ensures) ∙ c.end_in-end.ensures in
    let name = c.id_of.ensures ∙ ap (λ (h : Half). get_or h.names.ids c.end_in-end.result.vertex 0) c.half_of-far.ensures in
    end_told c.self.inside c.args.self.now c.args.side c.args.v c.args.i c.args.mask c.end_in-end.result c.self.invariant c.self.view_is c.requires.vertex here
    ∙ ap (λ (n : ℕ). let o : Option (ℕ × Kind) = Some (n, c.end_in-end.result.kind) in o) (sym name)
