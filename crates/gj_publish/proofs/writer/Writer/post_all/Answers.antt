use Rattle.std.proofs.Common.{◌≡◌, ℕ, List, [], length, refl, sym, subst, ap, ◌∙◌, arith, Result}
use Rattle.std.proofs.lemmas.Iterator.Adapters.{YieldsList-from_vec}
use Rattle.std.proofs.lemmas.Iterator.Consumers.{YieldsList-turn, YieldsList-end}
use Rattle.std.proofs.lemmas.List.{map-id}
use Rattle.gj_base.specs.History.{extend}
use Rattle.gj_once.specs.declared.noted_index.Noted.{Noted}
use Rattle.gj_publish.specs.declared.refusal.NotedError.{NotedError}
use Rattle.gj_publish.specs.declared.writer.lists.SeatCall.{SeatCall}
use Rattle.gj_publish.specs.NotedAnswers.{faults_noted}
use Rattle.gj_publish.specs.SeatCalls.{IsSeatCall, entries_in, faults_answered, numbers_of}
use Rattle.gj_publish.proofs.CallsLemmas.{Called, called_more, called_none, called_once, faults_more}
use Rattle.gj_publish.proofs.Histories.{begins_self, begins_trans}
use Rattle.gj_publish.proofs.writer.Writer.post_all.Goals as goal

pub loop-made-init : goal.loop-made-init
loop-made-init g c = record {
  room = omega (arith, c.in-Ok.ensures.capacity, c.len.ensures, c.args.calls.ok.0);
  called =
      let P : List (Result Noted NotedError) → Type 0 = λ answers. Called (numbers_of c.args.seats.now) c.args.self.now.noted c.args.self.now.accepted [] answers c.args.self.now.noted c.args.self.now.accepted in
      subst P (sym c.in-Ok.ensures.items) (called_none (numbers_of c.args.seats.now) c.args.self.now.noted c.args.self.now.accepted);
  numbers = refl;
  fronts = λ i d low. begins_self _;
  published = begins_self _;
  start = refl;
  later = omega arith;
  count =
      let F : List (Result Noted NotedError) → Type 0 = λ answers. c.args.self.now.faults ≡ faults_answered c.args.self.now.faults answers in
      subst F (sym c.in-Ok.ensures.items) refl;
}

pub put-requires : goal.put-requires
put-requires g c =
    let gives = c.into_iter-made-iterator.ensures.into_iter_gives in
    let road = YieldsList-from_vec {s = c.into_iter-made-iterator.result} c.args.calls.items gives.0 (gives.1 ∙ c.args.calls.ok.0) in
    let turn = YieldsList-turn road c.loop-made.yielded c.loop-made.made-iterator c.loop-made.yielded_by c.next.result c.next.new.self c.in-Some.made c.in-Some.is c.next.ensures.steps in
    omega (arith, turn.0, c.loop-made.invariant.called.each, c.loop-made.invariant.room, c.loop-made.answers.ok.0)

pub post_one-answer-requires : goal.post_one-answer-requires
post_one-answer-requires g c =
    let gives = c.into_iter-made-iterator.ensures.into_iter_gives in
    let road = YieldsList-from_vec {s = c.into_iter-made-iterator.result} c.args.calls.items gives.0 (gives.1 ∙ c.args.calls.ok.0) in
    let turn = YieldsList-turn road c.loop-made.yielded c.loop-made.made-iterator c.loop-made.yielded_by c.next.result c.next.new.self c.in-Some.made c.in-Some.is c.next.ensures.steps in
    let P : SeatCall → Type 0 = IsSeatCall (length c.args.seats.now) in
    let is : P c.in-Some.made = subst P (sym turn.1) (c.requires (length c.loop-made.yielded) c.in-Some.made turn.0) in
    (omega (arith, is.0, c.loop-made.auto.seats), is.1)

pub loop-made-preserved : goal.loop-made-preserved
loop-made-preserved g c =
    let done = c.loop-made.invariant in
    let is = c.post_one-answer.ensures in
    let brings : c.post_one-answer.new.self.accepted ≡ extend c.loop-made.self.accepted (entries_in (numbers_of c.args.seats.now) c.in-Some.made c.post_one-answer.result) =
    is.accepted ∙ ap (λ (numbers : List ℕ). extend c.loop-made.self.accepted (entries_in numbers c.in-Some.made c.post_one-answer.result)) done.numbers in
    record {
      room = omega (arith, done.room, c.put.ensures.capacity);
      called = called_more _ _ _ c.loop-made.yielded _ c.loop-made.answers.items _ _ _ _ _ c.in-Some.made c.post_one-answer.result done.called refl c.put.ensures.items is.exact is.noted brings;
      numbers = is.others.0 ∙ done.numbers;
      fronts = λ i d low. begins_trans _ _ _ (done.fronts i d low) (is.fronts i d (omega (arith, low, c.loop-made.auto.seats)));
      published = begins_trans _ _ _ done.published is.published;
      start = is.others.1 ∙ done.start;
      later = omega (arith, done.later, is.later);
      count =
          is.count ∙ (ap (λ n. faults_noted n c.post_one-answer.result) done.count
          ∙ (sym (faults_more c.args.self.now.faults c.loop-made.answers.items c.post_one-answer.result)
          ∙ ap (λ answers. faults_answered c.args.self.now.faults answers) (sym c.put.ensures.items)));
    }

pub returns-clause-once : goal.returns-clause-once
returns-clause-once g c nothing =
    let gives = c.into_iter-made-iterator.ensures.into_iter_gives in
    let road = YieldsList-from_vec {s = c.into_iter-made-iterator.result} c.args.calls.items gives.0 (gives.1 ∙ c.args.calls.ok.0) in
    let end = YieldsList-end road c.loop-made.yielded c.loop-made.made-iterator c.loop-made.yielded_by c.next.result c.next.new.self c.in-None.is c.next.ensures.steps in
    let all : c.loop-made.yielded ≡ c.args.calls.items = sym (map-id c.loop-made.yielded) ∙ end.0 in
    let P : List SeatCall → Type 0 = λ calls. Called (numbers_of c.args.seats.now) c.args.self.now.noted c.args.self.now.accepted calls c.loop-made.answers.items c.loop-made.self.noted c.loop-made.self.accepted in
    called_once _ _ _ _ _ _ _ nothing (subst P all c.loop-made.invariant.called)
