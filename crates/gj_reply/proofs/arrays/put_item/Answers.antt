use Rattle.std.proofs.Common.{◌++◌, codes}
use Rattle.std.specs.Fmt.{decimal}
use Rattle.gj_base.specs.Kinds.{kind_name}
use Rattle.gj_reply.specs.Arrays.{item_text}
use Rattle.gj_reply.proofs.PieceLemmas.{ended, regrouped_item}
use Rattle.gj_reply.proofs.arrays.put_item.Goals as goal

pub returns : goal.returns
returns c =
    ended c.put-3.result c.put_member.new.out.items c.put-3.new.out.items (codes "}")
    (c.args.out.now.items ++ item_text c.args.item.now)
    c.put-3.ensures
    (rw (
      c.in_ok-put_member.ensures,
      c.in_ok-put-2.ensures,
      c.in_ok-put.ensures,
      c.in_ok-put_two.ensures,
      c.name.ensures,
      ← c.item.view_is,
    ) (
    regrouped_item c.args.out.now.items
    (codes "{\"user\":" ++ decimal c.item.inside.user ++ codes ",\"post\":" ++ decimal c.item.inside.post)
    (codes ",\"kind\":\"") (kind_name c.item.inside.kind) (codes "\",\"at\":") (decimal c.item.inside.at) (codes "}")
    ))
