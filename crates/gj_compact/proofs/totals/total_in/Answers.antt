use Rattle.std.proofs.Common.{◌≡◌, map, sym, ◌∙◌, arith}
use Rattle.std.proofs.lemmas.List.{length-map}
use Rattle.std.proofs.lemmas.List.Sums.{count_by-le-length}
use Rattle.gj_base.specs.Kinds.{has_kind}
use Rattle.gj_compact.specs.Sums.{edge_kind}
use Rattle.gj_compact.proofs.SumLemmas.{counted_is}
use Rattle.gj_compact.proofs.TotalLemmas.{kinds_pass}
use Rattle.gj_compact.proofs.totals.total_in.Goals as goal

pub returns-then-not_before-eq0 : goal.returns-then-not_before-eq0
returns-then-not_before-eq0 c =
    let kinds = map edge_kind c.args.edges.now in
    let ever : c.args.mask.not_before ≡ 0 = sym c.not_before.ensures.exact ∙ c.if-not_before-eq0.true in
    let counted = counted_is c.args.mask c.args.counts kinds c.requires in
    record {
      exact = c.of.ensures ∙ (counted ∙ sym (kinds_pass c.args.mask c.args.edges.now ever));
      in_range = omega (arith, c.of.ensures, counted, count_by-le-length (has_kind c.args.mask) kinds, length-map c.args.edges.now edge_kind);
    }
