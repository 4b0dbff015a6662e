use Rattle.std.proofs.Common.{◌++◌, codes, append_assoc}
use Rattle.gj_reply.specs.Bodies.{apart_text}
use Rattle.gj_reply.proofs.PieceLemmas.{ended}
use Rattle.gj_reply.proofs.bodies.put_apart.Goals as goal

pub returns : goal.returns
returns c =
    ended c.put.result c.put_two-2.new.out.items c.put.new.out.items (codes "}")
    (c.args.out.now.items ++ apart_text c.args.seen c.args.shown c.args.posted c.args.counted)
    c.put.ensures
    (rw (c.in_ok-put_two-2.ensures, c.in_ok-put_two.ensures) (simp append_assoc))
