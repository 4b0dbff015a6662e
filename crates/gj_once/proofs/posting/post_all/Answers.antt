use Rattle.std.proofs.Common.{ℕ, ◌≡◌, ◌∙◌, ◌++◌, List, [], ◌∷◌, Result, refl, length-append, length, Some, slice_get, sym, subst, ap, arith}
use Rattle.std.proofs.lemmas.Option.{slice_get_read}
use Rattle.gj_base.specs.declared.item.Item.{Item}
use Rattle.gj_base.specs.History.{end_of, entries_by, length_of}
use Rattle.gj_base.proofs.Windows.{items_back, stands_end}
use Rattle.gj_once.specs.declared.verdict.LastBatch.{LastBatch}
use Rattle.gj_once.specs.Judging.{nothing_noted}
use Rattle.gj_once.specs.NotedPosts.{faults_noted}
use Rattle.gj_once.specs.PostLists.{AreAnswers, entered, faults_answered, posts_of}
use Rattle.gj_once.proofs.OnceLemmas.{are_so, once_only}
use Rattle.gj_once.specs.declared.noted_index.Noted.{Noted}
use Rattle.gj_once.specs.declared.noted_index.OnceError.{OnceError}
use Rattle.gj_once.proofs.PostingLemmas.{Posted, faults_more, posted_none, posted_more}
use Rattle.gj_once.proofs.posting.post_all.Goals as goal

pub loop-call-init : goal.loop-call-init
loop-call-init g c = record {
  each = ap length c.in-Ok.ensures.items;
  room = omega (arith, c.in-Ok.ensures.capacity);
  posted =
      let P : List (Result Noted OnceError) → Type 0 = λ answers. Posted (g.N.NotedIndex.noted c.args.index.now) (end_of (g.N.Index.viewed c.args.index.now)) c.args.calls.now answers
      (g.N.NotedIndex.noted c.args.index.now) (end_of (g.N.Index.viewed c.args.index.now)) (g.N.Index.keeps c.args.index.now) (g.N.Index.keeps c.args.index.now) in
      subst P (sym c.in-Ok.ensures.items) (posted_none _ _ c.args.calls.now (g.N.Index.keeps c.args.index.now));
  count =
      let F : List (Result Noted OnceError) → Type 0 = λ answers. g.N.Index.faults c.args.index.now ≡ faults_answered (g.N.Index.faults c.args.index.now) answers in
      subst F (sym c.in-Ok.ensures.items) refl;
}

pub loop-call-preserved : goal.loop-call-preserved
loop-call-preserved g c = record {
  each =
      let long : length c.put.new.answers.items ≡ length (c.loop-call.answers.items ++ c.post_one-answer.result ∷ []) = ap length c.put.ensures.items in
      let more = length-append c.loop-call.answers.items (c.post_one-answer.result ∷ []) in
      omega (arith, c.loop-call.invariant.each);
  room = omega (arith, c.loop-call.invariant.room, c.put.ensures.capacity);
  posted =
      let at : slice_get c.args.calls.now (length c.loop-call.answers.items) ≡ Some c.call-item.result =
      let each = c.loop-call.invariant.each in
      subst (λ n. slice_get c.args.calls.now n ≡ Some c.call-item.result) (sym each) (slice_get_read c.args.calls.now _ c.loop-call.call-index c.call-item.result refl c.loop-call-test.true c.call-item.is) in
      posted_more _ _ c.args.calls.now c.loop-call.answers.items _ _ _ _ (g.N.Index.keeps c.args.index.now) (g.N.Index.keeps c.loop-call.index) (g.N.Index.keeps c.post_one-answer.new.index)
      c.call-item.result c.post_one-answer.result c.put.new.answers.items c.loop-call.invariant.posted c.put.ensures.items at
      c.post_one-answer.ensures.exact c.post_one-answer.ensures.noted c.post_one-answer.ensures.end c.post_one-answer.ensures.keeps;
  count =
      c.post_one-answer.ensures.count ∙ (ap (λ n. faults_noted n c.post_one-answer.result) c.loop-call.invariant.count
      ∙ (sym (faults_more (g.N.Index.faults c.args.index.now) c.loop-call.answers.items c.post_one-answer.result)
      ∙ ap (λ answers. faults_answered (g.N.Index.faults c.args.index.now) answers) (sym c.put.ensures.items)));
}

pub returns-clause-once : goal.returns-clause-once
returns-clause-once g c h seat nothing kept =
    let P : List LastBatch → ℕ → Type 0 = λ lasts before. AreAnswers lasts before c.args.calls.now c.loop-call.answers.items in
    let ends : end_of (g.N.Index.viewed c.args.index.now) ≡ length_of h =
    stands_end (g.N.Index.viewed c.args.index.now) h (g.met.N.Index.is_window c.args.index.now).configuration.segments_low (g.met.N.Index.stands c.args.index.now h kept) in
    let all : List Item = entered (posts_of c.args.calls.now c.loop-call.answers.items) in
    let are : P nothing_noted (length_of h) =
    subst (λ (n : ℕ). P nothing_noted n) ends (subst (λ (l : List LastBatch). P l (end_of (g.N.Index.viewed c.args.index.now))) nothing c.loop-call.invariant.posted.exact) in
    once_only (posts_of c.args.calls.now c.loop-call.answers.items) h (entries_by seat all) (items_back seat all) (are_so _ _ c.args.calls.now c.loop-call.answers.items are)
