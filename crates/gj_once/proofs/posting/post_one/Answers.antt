use Rattle.std.proofs.Common.{ap, sym, ◌∙◌}
use Rattle.gj_once.specs.PostLists.{items_in}
use Rattle.gj_once.proofs.PostLemmas.{end_new, noted_end, noted_keeps}
use Rattle.gj_once.proofs.posting.post_one.Goals as goal

pub returns-in-Ok-clause-end : goal.returns-in-Ok-clause-end
returns-in-Ok-clause-end g c =
    end_new _ _ c.args.call.now c.as_slice.result.now (g.met.N.Index.is_window c.args.index.now) (ap items_in c.in-Plain.is ∙ sym c.as_slice.ensures) c.in-Ok.ensures.shows

pub returns-in-Noted-clause-end : goal.returns-in-Noted-clause-end
returns-in-Noted-clause-end g c =
    noted_end _ _ c.in-Noted.asked c.args.call.now c.post_noted.result c.in-Noted.is (g.met.N.Index.is_window c.args.index.now) c.post_noted.ensures.shows c.post_noted.ensures.stays

pub returns-in-Noted-clause-keeps : goal.returns-in-Noted-clause-keeps
returns-in-Noted-clause-keeps g c =
    noted_keeps (g.N.Index.keeps c.args.index.now) (g.N.Index.keeps c.post_noted.new.self) c.in-Noted.asked c.args.call.now c.post_noted.result c.in-Noted.is
    c.post_noted.ensures.ok c.post_noted.ensures.keeps
