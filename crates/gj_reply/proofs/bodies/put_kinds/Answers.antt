use Rattle.std.proofs.Common.{◌++◌, codes, append_assoc}
use Rattle.gj_reply.specs.Bodies.{kinds_text}
use Rattle.gj_reply.proofs.PieceLemmas.{ended}
use Rattle.gj_reply.proofs.bodies.put_kinds.Goals as goal

pub returns : goal.returns
returns c =
    ended c.put.result c.put_member.new.out.items c.put.new.out.items (codes "}")
    (c.args.out.now.items ++ kinds_text c.args.kinds.now)
    c.put.ensures
    (rw (c.in_ok-put_member.ensures, c.in_ok-put_two-2.ensures, c.in_ok-put_two.ensures) (simp append_assoc))
