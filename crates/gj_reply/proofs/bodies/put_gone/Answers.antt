use Rattle.std.proofs.Common.{◌++◌, codes, append_assoc}
use Rattle.gj_reply.specs.Bodies.{gone_text}
use Rattle.gj_reply.proofs.PieceLemmas.{ended}
use Rattle.gj_reply.proofs.bodies.put_gone.Goals as goal

pub returns : goal.returns
returns c =
    ended c.put.result c.put_two.new.out.items c.put.new.out.items (codes "}")
    (c.args.out.now.items ++ gone_text c.args.length c.args.base)
    c.put.ensures
    (rw (c.in_ok-put_two.ensures) (simp append_assoc))
