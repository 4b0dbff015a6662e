use Rattle.std.proofs.Common.{None}
use Rattle.gj_keep.proofs.OpeningLemmas.{plain_place, plain_conf, plain_row}
use Rattle.gj_keep.proofs.opening.read_rows.Goals as goal

pub returns-in-Err-rows-clause-differs : goal.returns-in-Err-rows-clause-differs
returns-in-Err-rows-clause-differs g c old now e = absurd (plain_conf _ (c.refusal.ensures.may None) old now e)

pub returns-in-Err-rows-clause-bad : goal.returns-in-Err-rows-clause-bad
returns-in-Err-rows-clause-bad g c row e = absurd (plain_row _ (c.refusal.ensures.may None) row e)

pub returns-in-Err-rows-clause-refused : goal.returns-in-Err-rows-clause-refused
returns-in-Err-rows-clause-refused g c tells = c.refusal.ensures.may _

pub returns-in-Err-rows-clause-bare_refused : goal.returns-in-Err-rows-clause-bare_refused
returns-in-Err-rows-clause-bare_refused g c bare = c.refusal.ensures.may None

pub returns-in-Err-rows-clause-place : goal.returns-in-Err-rows-clause-place
returns-in-Err-rows-clause-place g c = plain_place _ (c.refusal.ensures.may None)

pub returns-in-Err-clause-differs : goal.returns-in-Err-clause-differs
returns-in-Err-clause-differs g c old now e =
    let why = c.in-Err.ensures.differs old now e in
    (why.0, why.1, c.in-Err.ensures.err)
