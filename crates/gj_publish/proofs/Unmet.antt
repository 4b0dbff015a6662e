-- A post whose look was refused, or whose seat and writer do not fit, did not go on.
use Rattle.gj_publish.specs.declared.refusal.PostError.{PostError}
use Rattle.gj_publish.specs.declared.refusal.PostError.TheVariants as refused
use Rattle.gj_publish.specs.Answers.{IfMet, IsUnmet}

pub unmet_no : (why : PostError) (P : Type 0) → IsUnmet why → IfMet why P
unmet_no refused.Memory P is = absurd is
unmet_no (refused.KeptUnseen r) P is = absurd is
unmet_no refused.Store P is = absurd is
unmet_no (refused.Full n) P is = absurd is
unmet_no (refused.NoLook why) P is = tt
unmet_no (refused.Apart seen shown posted counted) P is = tt
