-- What is answered to a batch that an index takes.
use Rattle.std.proofs.Common.{◌≡◌, inl, inr, ℕ, ◌+◌, ◌^◌, ◌<◌, ◌≤◌, ◌∙◌, true, List, length, Result, Ok, Err, IfOk, IfErr, OnOk, OnErr, IsErrOf, IsTrue, refl, ap, sym, subst, arith}
use Rattle.gj_base.specs.Asks.{NotedBatch}
use Rattle.gj_base.specs.Causes.{faults_posted}
use Rattle.gj_base.specs.History.{IsWindow, StandsFor, conf_of, more, end_of, length_of, extend, entries_by}
use Rattle.gj_base.specs.declared.ask.Ask.TheVariants as asks
use Rattle.gj_base.specs.declared.history.History.{History}
use Rattle.gj_base.specs.declared.history.Shown.{Shown}
use Rattle.gj_base.specs.declared.index.IndexError.{IndexError}
use Rattle.gj_base.specs.declared.index.IndexError.TheVariants as why
use Rattle.gj_base.specs.declared.item.Item.{Item}
use Rattle.gj_base.specs.declared.item.Receipt.{Receipt}
use Rattle.gj_base.proofs.Windows.{stands_end, stands_more}
use Rattle.gj_once.specs.Judging.{judged, last_of, noting}
use Rattle.gj_once.specs.NotedPosts.{Answers, IfNew, OnNew, OnOther, faults_noted}
use Rattle.gj_once.specs.declared.noted_index.Noted.{Noted}
use Rattle.gj_once.specs.declared.noted_index.Noted.TheVariants.{New, Repeated}
use Rattle.gj_once.specs.declared.noted_index.OnceError.{OnceError}
use Rattle.gj_once.specs.declared.noted_index.OnceError.TheVariants as refused
use Rattle.gj_once.specs.declared.verdict.LastBatch.{LastBatch}
use Rattle.gj_once.specs.declared.verdict.Verdict.{Verdict}
use Rattle.gj_once.specs.declared.verdict.Verdict.TheVariants.{Fresh, Repeat, Old, Skipped}
use Rattle.gj_reply.specs.declared.fixed.Fixed.TheVariants as fixed
use Rattle.gj_reply.specs.declared.reply.Reply.TheVariants as replies
use Rattle.gj_session.specs.Batches.{SaysOfBatch}
use Rattle.gj_session.specs.IndexReplies.{said_to, said_to_noted}
use Rattle.gj_session.specs.IndexRuns.{IndexAt, IndexAnswers}
use Rattle.gj_session.specs.Marks.{mark_at}
use Rattle.gj_session.specs.NotedBatches.{AnswersStale, places_after}
use Rattle.gj_session.proofs.NotedLemmas.{by_verdict, fresh_verdict, repeat_verdict, old_verdict, skipped_verdict, repeat_receipt}
use Rattle.gj_session.proofs.RunLemmas.{length_extend, entered_more}

-- a batch that was kept, by its receipt
posted : (w : Shown) (h : History) (seat : ℕ) (items : List Item) (noted after : List LastBatch) (from to : ℕ) → IsWindow w → StandsFor w h
    → from ≡ end_of w → to ≡ end_of w + length items → to ≤ 2 ^ 48
    → SaysOfBatch true seat (mark_at seat h noted) items (replies.Posted from to) (mark_at seat (extend h (entries_by seat items)) after)
posted w h seat items noted after from to is shows at ends high =
    let e = stands_end w h is.configuration.segments_low shows in
    record {
      met = h;
      meets = refl;
      seen = refl;
      from_is = at ∙ e;
      length_is = ends ∙ ap (λ n. n + length items) e ∙ sym (length_extend h seat items);
      in_range = high;
      entered = entered_more h seat items;
      once = refl;
    }

-- what is shown then stands for the longer history
shows_more : (w v : Shown) (h : History) (seat : ℕ) (items : List Item) → IsWindow w → v ≡ more w items → StandsFor w h → StandsFor v (extend h (entries_by seat items))
shows_more w v h seat items is e shows =
    let low = is.configuration.capacity_low in
    subst (λ (x : Shown). StandsFor x (extend h (entries_by seat items))) (sym e) (stands_more w h seat items (omega arith) is.configuration.segments_low shows)

-- a batch for which there is no room
full : (w : Shown) (h : History) (seat : ℕ) (items : List Item) (noted after : List LastBatch) (n : ℕ) → IsWindow w → StandsFor w h → after ≡ noted
    → n ≡ end_of w → 2 ^ 48 < end_of w + length items → SaysOfBatch true seat (mark_at seat h noted) items (replies.Full n) (mark_at seat h after)
full w h seat items noted after n is shows same at over =
    let e = stands_end w h is.configuration.segments_low shows in
    record { same = ap (mark_at seat h) same; at = at ∙ e; in_range = omega (arith, at, is.bounded); over = omega (arith, at) }

-- what is shown is the same
shows_same : (w v : Shown) (h : History) → v ≡ w → StandsFor w h → StandsFor v h
shows_same w v h e shows = subst (λ (x : Shown). StandsFor x h) (sym e) shows

-- what the post of a batch says of an index, before and after
pub record IndexPosts (a b : IndexAt) (items : List Item) (result : Result Receipt IndexError) : Type 0 where
  pub is : IsWindow a.viewed
  pub ok : (h : History) (seat : ℕ) → a.keeps h → OnOk result (b.keeps (extend h (entries_by seat items)))
  pub receipt : IfOk result (λ r. (r.from ≡ end_of a.viewed) × (r.to ≡ end_of a.viewed + length items))
  pub in_range : IfOk result (λ r. r.to ≤ 2 ^ 48)
  pub full : IfErr result (λ e. (n : ℕ) → e ≡ why.Full n → (n ≡ end_of a.viewed) × (2 ^ 48 < end_of a.viewed + length items))
  pub count : b.faults ≡ faults_posted a.faults result
  pub steady : IsTrue a.steady → (IsErrOf result why.Store → ⊥) × IsTrue b.steady
  pub err : (h : History) → a.keeps h → OnErr result (b.keeps h)
  pub shows : OnOk result (b.viewed ≡ more a.viewed items)
  pub stays : OnErr result (b.viewed ≡ a.viewed)
  pub conf : conf_of b.viewed ≡ conf_of a.viewed
  pub noted : b.noted ≡ a.noted

-- a post, by its answer
pub posts_answer : (a b : IndexAt) (items : List Item) (result : Result Receipt IndexError) → IndexPosts a b items result
    → IndexAnswers a b (Ok (asks.Items items)) fixed.NotAccepted (said_to result)
posts_answer a b items (Ok r) x = record {
  same = x.conf;
  answers = λ h seat shows. (
    extend h (entries_by seat items),
    (
      (posted a.viewed h seat items a.noted b.noted r.from r.to x.is shows x.receipt.0 x.receipt.1 x.in_range, x.noted),
      record { shows = shows_more a.viewed b.viewed h seat items x.is x.shows shows; keeps = λ kept. x.ok h seat kept },
    ),
  );
  stores = (let count = x.count in omega arith);
  steady = λ sure. (refl, (x.steady sure).1);
}
posts_answer a b items (Err why.Memory) x = record {
  same = x.conf;
  answers = λ h seat shows. (h, (((refl, (refl, refl)), x.noted), record { shows = shows_same a.viewed b.viewed h x.stays shows; keeps = λ kept. x.err h kept }));
  stores = (let count = x.count in omega arith);
  steady = λ sure. (refl, (x.steady sure).1);
}
posts_answer a b items (Err why.Store) x = record {
  same = x.conf;
  answers = λ h seat shows. (h, (((refl, refl), x.noted), record { shows = shows_same a.viewed b.viewed h x.stays shows; keeps = λ kept. x.err h kept }));
  stores = (let count = x.count in omega arith);
  steady = λ sure. absurd ((x.steady sure).0 refl);
}
posts_answer a b items (Err (why.Full n)) x = record {
  same = x.conf;
  answers = λ h seat shows.
      let over = x.full n refl in
      (h, ((full a.viewed h seat items a.noted b.noted n x.is shows x.noted over.0 over.1, x.noted), record { shows = shows_same a.viewed b.viewed h x.stays shows; keeps = λ kept. x.err h kept }));
  stores = (let count = x.count in omega arith);
  steady = λ sure. (refl, (x.steady sure).1);
}

-- what the post of a numbered batch says of it
pub record IndexNotes (a b : IndexAt) (batch : NotedBatch) (result : Result Noted OnceError) : Type 0 where
  pub is : IsWindow a.viewed
  pub within : (last_of a.noted batch.producer).receipt.to ≤ end_of a.viewed
  pub exact : Answers (judged a.noted batch.producer batch.number) result
  pub ok : (h : History) (seat : ℕ) → a.keeps h → OnNew result (b.keeps (extend h (entries_by seat batch.items)))
  pub receipt : IfNew result (λ r. (r.from ≡ end_of a.viewed) × (r.to ≡ end_of a.viewed + length batch.items))
  pub in_range : IfNew result (λ r. r.to ≤ 2 ^ 48)
  pub shows : OnNew result (b.viewed ≡ more a.viewed batch.items)
  pub full : IfErr result (λ e. (n : ℕ) → e ≡ refused.Index (why.Full n) → (n ≡ end_of a.viewed) × (2 ^ 48 < end_of a.viewed + length batch.items))
  pub count : b.faults ≡ faults_noted a.faults result
  pub steady : IsTrue a.steady → (IsErrOf result (refused.Index why.Store) → ⊥) × IsTrue b.steady
  pub conf : conf_of b.viewed ≡ conf_of a.viewed
  pub noted : IfNew result (λ r. b.noted ≡ noting a.noted batch.producer batch.number r)
  pub keeps : (h : History) → a.keeps h → OnOther result (b.keeps h)
  pub stays : OnOther result (b.viewed ≡ a.viewed)
  pub others : OnOther result (b.noted ≡ a.noted)

-- the places are those after the history
places : (w : Shown) (h : History) (items : List Item) (r : Receipt) → IsWindow w → StandsFor w h → r.from ≡ end_of w → r.to ≡ end_of w + length items → r ≡ places_after h items
places w h items r is shows from to =
    let e = stands_end w h is.configuration.segments_low shows in
    let from_is : r.from ≡ length_of h = from ∙ e in
    let to_is : r.to ≡ length_of h + length items = to ∙ ap (λ n. n + length items) e in
    λ i. record { from = from_is i; to = to_is i }

-- and all of an earlier batch is in the history
repeated_within : (a : IndexAt) (batch : NotedBatch) (r : Receipt) (h : History) → IsWindow a.viewed → StandsFor a.viewed h
    → (last_of a.noted batch.producer).receipt.to ≤ end_of a.viewed → judged a.noted batch.producer batch.number ≡ Repeat r → r.to ≤ length_of h
repeated_within a batch r h is shows within verdict =
    let e = stands_end a.viewed h is.configuration.segments_low shows in
    let same = ap (λ (q : Receipt). q.to) (repeat_receipt a.noted batch.producer batch.number r verdict) in
    omega (arith, e, same, within)

-- the post of a numbered batch, by its answer
pub notes_answer : (a b : IndexAt) (batch : NotedBatch) (result : Result Noted OnceError) → IndexNotes a b batch result
    → IndexAnswers a b (Ok (asks.Noted batch)) fixed.NotAccepted (said_to_noted result)
notes_answer a b batch (Ok (New r)) x =
    let v = judged a.noted batch.producer batch.number in
    let answer : Result Noted OnceError = Ok (New r) in
    record {
      same = x.conf;
      answers = λ h seat shows. (
        extend h (entries_by seat batch.items),
        (
          (
            inr (by_verdict v Fresh _ _ _ _ _ _ (fresh_verdict v answer tt x.exact)
                (posted a.viewed h seat batch.items a.noted b.noted r.from r.to x.is shows x.receipt.0 x.receipt.1 x.in_range)),
            x.noted ∙ ap (noting a.noted batch.producer batch.number) (places a.viewed h batch.items r x.is shows x.receipt.0 x.receipt.1),
          ),
          record { shows = shows_more a.viewed b.viewed h seat batch.items x.is x.shows shows; keeps = λ kept. x.ok h seat kept },
        ),
      );
      stores = (let count = x.count in omega arith);
      steady = λ sure. (refl, (x.steady sure).1);
    }
notes_answer a b batch (Ok (Repeated r)) x =
    let v = judged a.noted batch.producer batch.number in
    let verdict = repeat_verdict v r x.exact in
    record {
      same = x.conf;
      answers = λ h seat shows. (
        h,
        (
          (
            inr (by_verdict v (Repeat r) _ _ _ _ _ _ verdict
                (record { moves = (refl, refl); from_is = refl; length_is = refl; seen = repeated_within a batch r h x.is shows x.within verdict })),
            x.others,
          ),
          record { shows = shows_same a.viewed b.viewed h x.stays shows; keeps = λ kept. x.keeps h kept },
        ),
      );
      stores = (let count = x.count in omega arith);
      steady = λ sure. (refl, (x.steady sure).1);
    }
notes_answer a b batch (Err (refused.Index why.Memory)) x = record {
  same = x.conf;
  answers = λ h seat shows. (h, ((inl (inr refl, (refl, refl)), x.others), record { shows = shows_same a.viewed b.viewed h x.stays shows; keeps = λ kept. x.keeps h kept }));
  stores = (let count = x.count in omega arith);
  steady = λ sure. (refl, (x.steady sure).1);
}
notes_answer a b batch (Err (refused.Index why.Store)) x =
    let v = judged a.noted batch.producer batch.number in
    let answer : Result Noted OnceError = Err (refused.Index why.Store) in
    record {
      same = x.conf;
      answers = λ h seat shows. (
        h,
        (
          (inr (by_verdict v Fresh _ _ _ _ _ _ (fresh_verdict v answer tt x.exact) (refl, refl)), x.others),
          record { shows = shows_same a.viewed b.viewed h x.stays shows; keeps = λ kept. x.keeps h kept },
        ),
      );
      stores = (let count = x.count in omega arith);
      steady = λ sure. absurd ((x.steady sure).0 refl);
    }
notes_answer a b batch (Err (refused.Index (why.Full n))) x =
    let v = judged a.noted batch.producer batch.number in
    let answer : Result Noted OnceError = Err (refused.Index (why.Full n)) in
    let over = x.full n refl in
    record {
      same = x.conf;
      answers = λ h seat shows. (
        h,
        (
          (
            inr (by_verdict v Fresh _ _ _ _ _ _ (fresh_verdict v answer tt x.exact)
                (full a.viewed h seat batch.items a.noted b.noted n x.is shows x.others over.0 over.1)),
            x.others,
          ),
          record { shows = shows_same a.viewed b.viewed h x.stays shows; keeps = λ kept. x.keeps h kept },
        ),
      );
      stores = (let count = x.count in omega arith);
      steady = λ sure. (refl, (x.steady sure).1);
    }
notes_answer a b batch (Err (refused.Old last)) x =
    let v = judged a.noted batch.producer batch.number in
    record {
      same = x.conf;
      answers = λ h seat shows. (
        h,
        (
          (inr (by_verdict v (Old last) _ _ _ _ _ _ (old_verdict v last x.exact) (refl, (refl, refl))), x.others),
          record { shows = shows_same a.viewed b.viewed h x.stays shows; keeps = λ kept. x.keeps h kept },
        ),
      );
      stores = (let count = x.count in omega arith);
      steady = λ sure. (refl, (x.steady sure).1);
    }
notes_answer a b batch (Err (refused.Skipped last)) x =
    let v = judged a.noted batch.producer batch.number in
    record {
      same = x.conf;
      answers = λ h seat shows. (
        h,
        (
          (inr (by_verdict v (Skipped last) _ _ _ _ _ _ (skipped_verdict v last x.exact) (refl, (refl, refl))), x.others),
          record { shows = shows_same a.viewed b.viewed h x.stays shows; keeps = λ kept. x.keeps h kept },
        ),
      );
      stores = (let count = x.count in omega arith);
      steady = λ sure. (refl, (x.steady sure).1);
    }

-- what is answered to a number that is not the next one
pub stale_of : (v : Verdict) (result : Result Noted OnceError) → Answers v result → AnswersStale v (said_to_noted result)
stale_of Fresh result is = tt
stale_of (Repeat receipt) result is = ap said_to_noted is
stale_of (Old last) result is = ap said_to_noted is
stale_of (Skipped last) result is = ap said_to_noted is
