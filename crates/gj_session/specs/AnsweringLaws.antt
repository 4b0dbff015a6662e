-- The laws of what answers messages: a refusal and want of memory leave it where it was, and a post that found no memory
-- for its text is answered by a fixed reply.
use Rattle.std.specs.Prelude.{◌≡◌, ◌⊎◌, ℕ, Bool, true, false, List, Ok, Err, refl}
use Rattle.std.proofs.Common.{inl, inr, sym, subst, arith, append-nil, append_assoc, ap, ◌∙◌, ◌++◌, []}
use Rattle.gj_base.specs.Asks.{NotedBatch}
use Rattle.gj_base.specs.Causes.{RoseBy}
use Rattle.gj_base.specs.Configuration.{Configuration}
use Rattle.gj_base.specs.History.{Begins, extend, entries_by}
use Rattle.gj_base.specs.declared.ask.Ask.{Ask}
use Rattle.gj_base.specs.declared.ask.Ask.TheVariants as asks
use Rattle.gj_base.specs.declared.history.History.{History}
use Rattle.gj_base.specs.declared.item.Entry.{Entry}
use Rattle.gj_base.specs.declared.item.Item.{Item}
use Rattle.gj_base.specs.declared.item.Receipt.{Receipt}
use Rattle.gj_once.specs.Judging.{judged}
use Rattle.gj_once.specs.declared.verdict.LastBatch.{LastBatch}
use Rattle.gj_once.specs.declared.verdict.Verdict.{Verdict}
use Rattle.gj_once.specs.declared.verdict.Verdict.TheVariants as verdict
use Rattle.gj_reply.specs.declared.fixed.Fixed.{Fixed}
use Rattle.gj_reply.specs.declared.fixed.Fixed.TheVariants as fixed
use Rattle.gj_reply.specs.declared.reply.Reply.{Reply}
use Rattle.gj_reply.specs.declared.reply.Reply.TheVariants as replies
use Rattle.gj_session.specs.Answers.{AnswersAsk}
use Rattle.gj_session.specs.Batches.{SaysOfBatch, AnswersBatch, PostedAfter}
use Rattle.gj_session.specs.IndexRuns.{IndexAt, IndexAnswers, one_if}
use Rattle.gj_session.specs.Marks.{Mark, mark_at, Meets, Moves}
use Rattle.gj_session.specs.NotedBatches.{AnswersJudged, AnswersNoted, AnswersRepeat, AnswersWhere, Lacks, Notes, noted_after}
use Rattle.gj_session.specs.Outcomes.{IsReply, IsLack, Uncounted, lack_after, noted_lack, is_store, is_full, is_apart, is_no_look, is_repeated, is_old, is_skipped}
use Rattle.gj_session.specs.declared.outcome.Outcome.{Outcome}
use Rattle.gj_session.specs.declared.outcome.Outcome.TheVariants.{Says, Stands}

-- a history begins with itself
pub begins_itself : (h : History) → Begins h h
begins_itself h = record { same_first = refl; rest = []; joined = append-nil h.entries }

-- and with what it begins with begins with
pub begins_then : (g h k : History) → Begins g h → Begins h k → Begins g k
begins_then g h k x y = record {
  same_first = x.same_first ∙ y.same_first;
  rest = x.rest ++ y.rest;
  joined = sym (append_assoc g.entries x.rest y.rest) ∙ ap (λ (es : List Entry). es ++ y.rest) x.joined ∙ y.joined;
}

pub begins_extend : (g h : History) (entries : List Entry) → Begins g h → Begins g (extend h entries)
begins_extend g h entries x = record {
  same_first = x.same_first;
  rest = x.rest ++ entries;
  joined = sym (append_assoc g.entries x.rest entries) ∙ ap (λ (es : List Entry). es ++ entries) x.joined;
}

-- a seat may see no more
pub meets_itself : (alone : Bool) (h : History) → Meets alone h h
meets_itself true h = refl
meets_itself false h = begins_itself h

pub moves_none : (alone : Bool) (a : Mark) → Moves alone a a
moves_none alone a = (meets_itself alone a.seen, refl)

-- want of memory before a numbered batch is judged
noted_lacked : (alone : Bool) (seat : ℕ) (a : Mark) (batch : NotedBatch) (outcome : Outcome) → Lacks alone a outcome a → AnswersNoted alone seat a batch outcome a
noted_lacked true seat a batch outcome x = inl x
noted_lacked false seat a batch outcome x = (a.noted, inl x)

notes_none : (alone : Bool) (a : Mark) (batch : NotedBatch) (lack : Fixed) → IsLack lack → Notes alone a batch (Stands lack) a
notes_none false a batch lack is = refl
notes_none true a batch fixed.Memory is = refl
notes_none true a batch fixed.NotAccepted is = refl
notes_none true a batch fixed.Accepted is = absurd is
notes_none true a batch fixed.NoLook is = absurd is

lacks_none : (alone : Bool) (a : Mark) (lack : Fixed) → IsLack lack → Lacks alone a (Stands lack) a
lacks_none alone a fixed.Memory is = (inl refl, moves_none alone a)
lacks_none alone a fixed.NotAccepted is = (inr refl, moves_none alone a)
lacks_none alone a fixed.Accepted is = absurd is
lacks_none alone a fixed.NoLook is = absurd is

-- want of memory leaves the seat where it was
pub lacked_ask : (conf : Configuration) (alone : Bool) (seat : ℕ) (a : Mark) (ask : Ask) (lack : Fixed) → IsLack lack
    → AnswersAsk conf alone seat a (Ok ask) lack (Stands lack) a
lacked_ask conf alone seat a (asks.Query query) lack is = (inl (moves_none alone a, inr refl), refl)
lacked_ask conf alone seat a (asks.Noted batch) lack is = (noted_lacked alone seat a batch (Stands lack) (lacks_none alone a lack is), notes_none alone a batch lack is)
lacked_ask conf alone seat a (asks.Items batch) fixed.Accepted is = absurd is
lacked_ask conf alone seat a (asks.Items batch) fixed.NoLook is = absurd is
lacked_ask conf alone seat a (asks.Items batch) fixed.Memory is = ((refl, moves_none alone a), refl)
lacked_ask conf alone seat a (asks.Items batch) fixed.NotAccepted is = ((refl, moves_none alone a), refl)

-- the batch was posted, and the fixed reply says so
posted_stands : (alone : Bool) (seat : ℕ) (a : Mark) (batch : List Item) (from to : ℕ) (b : Mark) → PostedAfter alone seat a batch from to b
    → AnswersBatch alone seat a batch fixed.NotAccepted (Stands fixed.Accepted) b
posted_stands true seat a batch from to b x = (x.seen ∙ ap (λ (h : History). extend h (entries_by seat batch)) x.meets, x.entered)
posted_stands false seat a batch from to b x =
    (subst (Begins a.seen) (sym x.seen) (begins_extend a.seen x.met (entries_by seat batch) x.meets), x.entered)

says_stands : (alone : Bool) (seat : ℕ) (a : Mark) (batch : List Item) (reply : Reply) (b : Mark) → SaysOfBatch alone seat a batch reply b
    → AnswersBatch alone seat a batch fixed.NotAccepted (Stands (lack_after (Says reply) fixed.NotAccepted)) b
says_stands alone seat a batch (replies.Posted from to) b x = posted_stands alone seat a batch from to b x
says_stands alone seat a batch (replies.Full n) b x = (refl, subst (Moves alone a) (sym x.same) (moves_none alone a))
says_stands alone seat a batch replies.Store b x = (refl, x)
says_stands false seat a batch (replies.Apart seen shown posted counts) b x = (refl, x.moves)
says_stands true seat a batch (replies.Apart seen shown posted counts) b x = absurd x
says_stands alone seat a batch _ b x = absurd x

-- a batch whose answer found no memory is answered by the fixed reply in its place
pub batch_stands : (alone : Bool) (seat : ℕ) (a : Mark) (batch : List Item) (outcome : Outcome) (b : Mark) → AnswersBatch alone seat a batch fixed.NotAccepted outcome b
    → AnswersBatch alone seat a batch fixed.NotAccepted (Stands (lack_after outcome fixed.NotAccepted)) b
batch_stands alone seat a batch (Says reply) b x = says_stands alone seat a batch reply b x
batch_stands alone seat a batch (Stands which) b x = x

-- where no memory is found for the answer to a fresh batch
fresh_stands : (alone : Bool) (seat : ℕ) (a : Mark) (batch : List Item) (outcome : Outcome) (b : Mark) → AnswersBatch alone seat a batch fixed.NotAccepted outcome b
    → Lacks alone a (Stands (noted_lack outcome)) b ⊎ AnswersBatch alone seat a batch fixed.NotAccepted (Stands (noted_lack outcome)) b
fresh_stands alone seat a batch (Stands which) b x = inr x
fresh_stands alone seat a batch (Says (replies.Posted from to)) b x = inr (posted_stands alone seat a batch from to b x)
fresh_stands alone seat a batch (Says (replies.Full n)) b x = inl (inr refl, subst (Moves alone a) (sym x.same) (moves_none alone a))
fresh_stands alone seat a batch (Says replies.Store) b x = inl (inr refl, x)
fresh_stands false seat a batch (Says (replies.Apart seen shown posted counts)) b x = inl (inl refl, x.moves)
fresh_stands true seat a batch (Says (replies.Apart seen shown posted counts)) b x = absurd x
fresh_stands alone seat a batch (Says _) b x = absurd x

-- to one that had entered
repeat_stands : (alone : Bool) (a : Mark) (receipt : Receipt) (outcome : Outcome) (b : Mark) → AnswersRepeat alone a receipt outcome b
    → Lacks alone a (Stands (noted_lack outcome)) b ⊎ AnswersRepeat alone a receipt (Stands (noted_lack outcome)) b
repeat_stands alone a receipt (Says (replies.Repeated from to)) b x = inl (inl refl, x.moves)
repeat_stands false a receipt (Says (replies.Apart seen shown posted counts)) b x = inl (inl refl, x.moves)
repeat_stands true a receipt (Says (replies.Apart seen shown posted counts)) b x = absurd x
repeat_stands alone a receipt (Says _) b x = absurd x
repeat_stands alone a receipt (Stands which) b x = inr x

-- to each, by what its number says
judged_stands : (v : Verdict) (alone : Bool) (seat : ℕ) (a : Mark) (batch : List Item) (outcome : Outcome) (b : Mark) → AnswersJudged alone seat a batch v outcome b
    → Lacks alone a (Stands (noted_lack outcome)) b ⊎ AnswersJudged alone seat a batch v (Stands (noted_lack outcome)) b
judged_stands verdict.Fresh alone seat a batch outcome b x = fresh_stands alone seat a batch outcome b x
judged_stands (verdict.Repeat receipt) alone seat a batch outcome b x = repeat_stands alone a receipt outcome b x
judged_stands (verdict.Old last) alone seat a batch outcome b x = inl (inr (ap (λ (o : Outcome). Stands (noted_lack o)) x.0), x.1)
judged_stands (verdict.Skipped last) alone seat a batch outcome b x = inl (inr (ap (λ (o : Outcome). Stands (noted_lack o)) x.0), x.1)

lacks_stands : (alone : Bool) (a : Mark) (outcome : Outcome) (b : Mark) → Lacks alone a outcome b → Lacks alone a (Stands (noted_lack outcome)) b
lacks_stands alone a outcome b x = (
  elim x.0 [
    | inl e ↦ inl (ap (λ (o : Outcome). Stands (noted_lack o)) e)
    | inr e ↦ inr (ap (λ (o : Outcome). Stands (noted_lack o)) e)
  ],
  x.1,
)

-- a numbered batch whose answer found no memory is answered by the fixed reply in its place
pub where_stands : (noted : List LastBatch) (alone : Bool) (seat : ℕ) (a : Mark) (batch : NotedBatch) (outcome : Outcome) (b : Mark) → AnswersWhere noted alone seat a batch outcome b
    → AnswersWhere noted alone seat a batch (Stands (noted_lack outcome)) b
where_stands noted alone seat a batch outcome b (inl x) = inl (lacks_stands alone a outcome b x)
where_stands noted alone seat a batch outcome b (inr x) = judged_stands (judged noted batch.producer batch.number) alone seat a batch.items outcome b x

-- what is noted does not change by this
same_noted : (noted : List LastBatch) (h : History) (batch : NotedBatch) (outcome : Outcome) → noted_after noted h batch outcome ≡ noted_after noted h batch (Stands (noted_lack outcome))
same_noted noted h batch (Stands which) = refl
same_noted noted h batch (Says (replies.Posted from to)) = refl
same_noted noted h batch (Says _) = refl

pub noted_stands : (alone : Bool) (seat : ℕ) (a : Mark) (batch : NotedBatch) (outcome : Outcome) (b : Mark) → AnswersNoted alone seat a batch outcome b × Notes alone a batch outcome b
    → AnswersNoted alone seat a batch (Stands (noted_lack outcome)) b × Notes alone a batch (Stands (noted_lack outcome)) b
noted_stands true seat a batch outcome b x = (where_stands a.noted true seat a batch outcome b x.0, x.1 ∙ same_noted a.noted a.seen batch outcome)
noted_stands false seat a batch outcome b x = ((x.0.0, where_stands x.0.0 false seat a batch outcome b x.0.1), x.1)

-- no count is of the outcome
pub record Uncounts (outcome : Outcome) : Type 0 where
  pub store : is_store outcome ≡ false
  pub full : is_full outcome ≡ false
  pub apart : is_apart outcome ≡ false
  pub no_look : is_no_look outcome ≡ false
  pub repeated : is_repeated outcome ≡ false
  pub old : is_old outcome ≡ false
  pub skipped : is_skipped outcome ≡ false

pub uncounts_lack : (lack : Fixed) → IsLack lack → Uncounts (Stands lack)
uncounts_lack fixed.Memory is = record { store = refl; full = refl; apart = refl; no_look = refl; repeated = refl; old = refl; skipped = refl }
uncounts_lack fixed.NotAccepted is = record { store = refl; full = refl; apart = refl; no_look = refl; repeated = refl; old = refl; skipped = refl }
uncounts_lack fixed.Accepted is = absurd is
uncounts_lack fixed.NoLook is = absurd is

pub uncounts_reply : (reply : Reply) → Uncounted reply → Uncounts (Says reply)
uncounts_reply (replies.Posted from length) is = absurd is
uncounts_reply (replies.Repeated from length) is = absurd is
uncounts_reply (replies.Old last) is = absurd is
uncounts_reply (replies.Skipped last) is = absurd is
uncounts_reply replies.Store is = absurd is
uncounts_reply (replies.Full n) is = absurd is
uncounts_reply (replies.Apart seen shown posted counts) is = absurd is
uncounts_reply _ is = record { store = refl; full = refl; apart = refl; no_look = refl; repeated = refl; old = refl; skipped = refl }

pub uncounts : (reply : Reply) (lack : Fixed) (outcome : Outcome) → Uncounted reply → IsLack lack → IsReply reply lack outcome → Uncounts outcome
uncounts reply lack outcome plain is (inl e) = subst Uncounts (sym e) (uncounts_reply reply plain)
uncounts reply lack outcome plain is (inr e) = subst Uncounts (sym e) (uncounts_lack lack is)

-- no fault
pub rose_none : (b : Bool) (f : ℕ) → b ≡ false → RoseBy (one_if b) f f
rose_none b f e = rw e (omega arith)

-- a fault, or none
rose_less : (n f g : ℕ) → RoseBy n f g → RoseBy 0 f g
rose_less n f g x = omega arith

pub index_refused : (a : IndexAt) (reply : Reply) (lack : Fixed) (outcome : Outcome) → Uncounted reply → IsLack lack → IsReply reply lack outcome
    → IndexAnswers a a (Err reply) lack outcome
index_refused a reply lack outcome plain is reply_is = record {
  same = refl;
  answers = λ h seat shows. (h, ((reply_is, refl), record { shows = shows; keeps = λ kept. kept }));
  stores = rose_none (is_store outcome) a.faults (uncounts reply lack outcome plain is reply_is).store;
  steady = λ sure. ((uncounts reply lack outcome plain is reply_is).store, sure);
}

pub index_lacked : (a : IndexAt) (ask : Ask) (lack : Fixed) → IsLack lack → IndexAnswers a a (Ok ask) lack (Stands lack)
index_lacked a ask lack is = record {
  same = refl;
  answers = λ h seat shows. (h, (lacked_ask _ true seat (mark_at seat h a.noted) ask lack is, record { shows = shows; keeps = λ kept. kept }));
  stores = rose_none (is_store (Stands lack)) a.faults (uncounts_lack lack is).store;
  steady = λ sure. ((uncounts_lack lack is).store, sure);
}

-- a fixed reply is no fault of the store
stands_store : (outcome : Outcome) → is_store (Stands (lack_after outcome fixed.NotAccepted)) ≡ false
stands_store outcome = refl

pub index_stands : (a b : IndexAt) (batch : List Item) (outcome : Outcome) → IndexAnswers a b (Ok (asks.Items batch)) fixed.NotAccepted outcome
    → IndexAnswers a b (Ok (asks.Items batch)) fixed.NotAccepted (Stands (lack_after outcome fixed.NotAccepted))
index_stands a b batch outcome x = record {
  same = x.same;
  answers = λ h seat shows.
      let one = x.answers h seat shows in
      (one.0, ((batch_stands true seat (mark_at seat h a.noted) batch outcome (mark_at seat one.0 b.noted) one.1.0.0, one.1.0.1), one.1.1));
  stores = rose_less (one_if (is_store outcome)) a.faults b.faults x.stores;
  steady = λ sure. (stands_store outcome, (x.steady sure).1);
}

pub index_noted_stands : (a b : IndexAt) (batch : NotedBatch) (outcome : Outcome) → IndexAnswers a b (Ok (asks.Noted batch)) fixed.NotAccepted outcome
    → IndexAnswers a b (Ok (asks.Noted batch)) fixed.NotAccepted (Stands (noted_lack outcome))
index_noted_stands a b batch outcome x = record {
  same = x.same;
  answers = λ h seat shows.
      let one = x.answers h seat shows in
      (one.0, (noted_stands true seat (mark_at seat h a.noted) batch outcome (mark_at seat one.0 b.noted) one.1.0, one.1.1));
  stores = rose_less (one_if (is_store outcome)) a.faults b.faults x.stores;
  steady = λ sure. (refl, (x.steady sure).1);
}
