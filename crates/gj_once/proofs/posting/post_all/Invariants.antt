use Rattle.std.proofs.Common.{◌≡◌, ◌≤◌, length, vec_capacity}
use Rattle.gj_base.specs.History.{end_of}
use Rattle.gj_once.specs.PostLists.{faults_answered}
use Rattle.gj_once.proofs.PostingLemmas.{Posted}
use Rattle.gj_once.proofs.posting.post_all.Given as goal

abbrev pub invariant-loop-call : goal.invariant-loop-call
invariant-loop-call g l = record {
  each : length l.answers.items ≡ l.call-index;
  room : length l.calls ≤ vec_capacity l.answers;
  posted : Posted (g.N.NotedIndex.noted l.fn.index) (end_of (g.N.Index.viewed l.fn.index)) l.calls l.answers.items (g.N.NotedIndex.noted l.index) (end_of (g.N.Index.viewed l.index)) (g.N.Index.keeps l.fn.index) (g.N.Index.keeps l.index);
  count : g.N.Index.faults l.index ≡ faults_answered (g.N.Index.faults l.fn.index) l.answers.items;
}
