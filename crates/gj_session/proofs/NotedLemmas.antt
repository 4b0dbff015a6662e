-- What the verdict on a numbered batch says of its answer.
use Rattle.std.proofs.Common.{◌≡◌, ℕ, List, Bool, Result, Ok, Err, refl, sym, subst, arith}
use Rattle.std.proofs.lemmas.Bool.Decides.{nat_tests}
use Rattle.gj_base.specs.declared.item.Item.{Item}
use Rattle.gj_base.specs.declared.item.Receipt.{Receipt}
use Rattle.gj_once.specs.Judging.{judged, last_of}
use Rattle.gj_once.specs.NotedPosts.{Answers, IsPosted}
use Rattle.gj_once.specs.declared.noted_index.Noted.{Noted}
use Rattle.gj_once.specs.declared.noted_index.Noted.TheVariants.{Repeated}
use Rattle.gj_once.specs.declared.noted_index.OnceError.{OnceError}
use Rattle.gj_once.specs.declared.noted_index.OnceError.TheVariants as refused
use Rattle.gj_once.specs.declared.verdict.LastBatch.{LastBatch}
use Rattle.gj_once.specs.declared.verdict.Verdict.{Verdict}
use Rattle.gj_once.specs.declared.verdict.Verdict.TheVariants.{Fresh, Repeat, Old, Skipped}
use Rattle.gj_session.specs.Marks.{Mark}
use Rattle.gj_session.specs.NotedBatches.{AnswersJudged}
use Rattle.gj_session.specs.declared.outcome.Outcome.{Outcome}

-- a repeated batch has the places of its producer's last one
pub repeat_receipt : (lasts : List LastBatch) (producer number : ℕ) (r : Receipt) → judged lasts producer number ≡ Repeat r → (last_of lasts producer).receipt ≡ r
unfolding judged
repeat_receipt lasts producer number r e = grind (arith, nat_tests)

-- what an index's answer says of the verdict
pub fresh_verdict : (v : Verdict) (result : Result Noted OnceError) → IsPosted result → Answers v result → v ≡ Fresh
fresh_verdict Fresh result is a = refl
fresh_verdict (Repeat r) result is a = absurd (subst IsPosted a is)
fresh_verdict (Old last) result is a = absurd (subst IsPosted a is)
fresh_verdict (Skipped last) result is a = absurd (subst IsPosted a is)

pub repeat_verdict : (v : Verdict) (r : Receipt) → Answers v (Ok (Repeated r)) → v ≡ Repeat r
repeat_verdict Fresh r a = absurd a
repeat_verdict (Repeat q) r a = cc
repeat_verdict (Old last) r a = absurd (cc)
repeat_verdict (Skipped last) r a = absurd (cc)

pub old_verdict : (v : Verdict) (n : ℕ) → Answers v (Err (refused.Old n)) → v ≡ Old n
old_verdict Fresh n a = absurd a
old_verdict (Repeat q) n a = absurd (cc)
old_verdict (Old last) n a = cc
old_verdict (Skipped last) n a = absurd (cc)

pub skipped_verdict : (v : Verdict) (n : ℕ) → Answers v (Err (refused.Skipped n)) → v ≡ Skipped n
skipped_verdict Fresh n a = absurd a
skipped_verdict (Repeat q) n a = absurd (cc)
skipped_verdict (Old last) n a = absurd (cc)
skipped_verdict (Skipped last) n a = cc

-- what is answered by a verdict is answered by the one that it is
pub by_verdict : (v w : Verdict) (alone : Bool) (seat : ℕ) (a : Mark) (batch : List Item) (o : Outcome) (b : Mark) → v ≡ w
    → AnswersJudged alone seat a batch w o b → AnswersJudged alone seat a batch v o b
by_verdict v w alone seat a batch o b e x = subst (λ (u : Verdict). AnswersJudged alone seat a batch u o b) (sym e) x
