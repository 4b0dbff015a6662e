use Rattle.std.proofs.Common.{◌++◌, codes}
use Rattle.std.specs.Fmt.{decimal}
use Rattle.gj_reply.specs.Bodies.{conf_text, kinds_text, stats_text}
use Rattle.gj_reply.proofs.PieceLemmas.{ended, regrouped}
use Rattle.gj_reply.proofs.bodies.put_stats.Goals as goal

pub returns : goal.returns
returns c =
    ended c.put-2.result c.put_kinds.new.out.items c.put-2.new.out.items (codes "}")
    (c.args.out.now.items ++ stats_text c.args.length c.args.base c.args.conf c.args.kinds.now)
    c.put-2.ensures
    (rw (c.in_ok-put_kinds.ensures, c.in_ok-put.ensures, c.in_ok-put_conf.ensures, c.in_ok-put_two.ensures) (
    regrouped c.args.out.now.items
    (codes "{\"length\":" ++ decimal c.args.length ++ codes ",\"base\":" ++ decimal c.args.base)
    (conf_text c.args.conf) (codes ",\"kinds\":") (kinds_text c.args.kinds.now) (codes "}")
    ))
