use Rattle.std.proofs.Common.{◌++◌, codes, map}
use Rattle.std.specs.Fmt.{decimal}
use Rattle.gj_reply.specs.Arrays.{array, score_text}
use Rattle.gj_reply.specs.Bodies.{similar_text}
use Rattle.gj_reply.proofs.PieceLemmas.{ended, regrouped_four}
use Rattle.gj_reply.proofs.bodies.put_similar.Goals as goal

pub returns : goal.returns
returns c =
    ended c.put-2.result c.put_scores.new.out.items c.put-2.new.out.items (codes "}")
    (c.args.out.now.items ++ similar_text c.args.length c.args.results.now)
    c.put-2.ensures
    (rw (c.in_ok-put_scores.ensures, c.in_ok-put.ensures, c.in_ok-put_member.ensures) (
    regrouped_four c.args.out.now.items (codes "{\"length\":" ++ decimal c.args.length) (codes ",\"results\":")
    (array (map score_text c.args.results.now)) (codes "}")
    ))
