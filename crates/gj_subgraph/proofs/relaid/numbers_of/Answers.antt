use Rattle.std.proofs.Common.{◌∙◌, ap, sym, fold, get_or, []}
use Rattle.std.proofs.lemmas.List.Sums.{fold_more}
use Rattle.gj_subgraph.specs.Masses.{with_vertex, vertices}
use Rattle.gj_subgraph.proofs.NumberLemmas.{take_whole}
use Rattle.gj_subgraph.proofs.relaid.numbers_of.Goals as goal

pub loop-id-preserved : goal.loop-id-preserved
loop-id-preserved c =
    let side = c.args.side.now in
    let i = c.loop-id.id-index in
    let id = get_or side i 0 in
    record {
      numbers = c.in_ok-number_of.ensures.numbers;
      names = c.in_ok-number_of.ensures.names ∙ ap (λ l. with_vertex l id) c.loop-id.invariant.names ∙ sym (fold_more with_vertex [] side i 0 c.loop-id-test.true);
    }

pub returns : goal.returns
unfolding vertices
returns c =
    let all = c.loop-id.invariant.names ∙ ap (λ l. fold with_vertex [] l) (take_whole c.loop-id.id-index c.args.side.now c.loop-id-test.false) in
    rw all at c.loop-id.invariant.numbers
