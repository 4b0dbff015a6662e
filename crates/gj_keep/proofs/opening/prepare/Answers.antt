use Rattle.std.proofs.Common.{None}
use Rattle.gj_keep.proofs.OpeningLemmas.{plain_conf, plain_place, plain_row}
use Rattle.gj_keep.proofs.opening.prepare.Goals as goal

pub returns-in-Err-clause-refused : goal.returns-in-Err-clause-refused
returns-in-Err-clause-refused g c tells = c.refusal.ensures.may _

pub returns-in-Err-clause-bare_refused : goal.returns-in-Err-clause-bare_refused
returns-in-Err-clause-bare_refused g c bare = c.refusal.ensures.may None

pub returns-in-Err-clause-others : goal.returns-in-Err-clause-others
returns-in-Err-clause-others g c = (plain_place _ (c.refusal.ensures.may None), plain_row _ (c.refusal.ensures.may None))

pub returns-in-Err-done-clause-refused : goal.returns-in-Err-done-clause-refused
returns-in-Err-done-clause-refused g c tells = c.refusal-in-Err-done.ensures.may _

pub returns-in-Err-done-clause-bare_refused : goal.returns-in-Err-done-clause-bare_refused
returns-in-Err-done-clause-bare_refused g c bare = c.refusal-in-Err-done.ensures.may None

pub returns-in-Err-done-clause-others : goal.returns-in-Err-done-clause-others
returns-in-Err-done-clause-others g c = (plain_place _ (c.refusal-in-Err-done.ensures.may None), plain_row _ (c.refusal-in-Err-done.ensures.may None))

pub returns-in-Err-clause-differs : goal.returns-in-Err-clause-differs
returns-in-Err-clause-differs g c old now e = absurd (plain_conf _ (c.refusal.ensures.may None) old now e)

pub returns-in-Err-done-clause-differs : goal.returns-in-Err-done-clause-differs
returns-in-Err-done-clause-differs g c old now e = absurd (plain_conf _ (c.refusal-in-Err-done.ensures.may None) old now e)
