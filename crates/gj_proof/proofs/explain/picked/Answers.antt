use Rattle.std.proofs.Common.{◌<◌, true, length, arith}
use Rattle.gj_base.specs.Ends.{ends, leads_to}
use Rattle.gj_base.specs.declared.side.Side.TheVariants.{Post}
use Rattle.gj_proof.proofs.EndsLemmas.{picked_more}
use Rattle.gj_proof.proofs.explain.picked.Goals as goal

pub loop-seed-preserved-in-Continue-1 : goal.loop-seed-preserved-in-Continue-1
loop-seed-preserved-in-Continue-1 g c =
    let explains = leads_to (ends (g.G.Graph.shown c.args.graph.now).items Post c.args.post c.args.mask) in
    let few : length c.loop-seed.proof < c.args.most = omega (arith, c.len.ensures) in
    picked_more c.args.most explains c.loop-seed.proof c.push.new.self _ _ c.next.new.self c.in-Some.seed.now true few
    c.in-Some.ensures.steps c.if-explains.ensures c.in_ok-push.ensures.ok c.loop-seed.invariant
