use Rattle.std.proofs.Common.{◌≡◌, ℕ, ◌+◌, ◌-◌, ◌*◌, ◌∙◌, take, drop, length, ap, sym, arith}
use Rattle.std.proofs.lemmas.List.{length-drop, take_all, drop_min}
use Rattle.gj_compact.proofs.SumLemmas.{counts_after}
use Rattle.gj_compact.proofs.sums.after.Goals as goal

pub returns-then-from-kinds : goal.returns-then-from-kinds
returns-then-from-kinds c =
    let ks = c.args.kinds.now in
    let b = c.args.block in
    let size : 64 * b + 64 - 64 * b ≡ 64 * (b + 1) - 64 * b = omega arith in
    counts_after c.args.counts c.with_kinds.result ks _ (64 * b) (64 * (b + 1)) (omega arith) c.requires.counts
    (ap (λ (n : ℕ). take n (drop (64 * b) ks)) size) c.with_kinds.ensures

pub returns : goal.returns
returns c =
    let ks = c.args.kinds.now in
    let b = c.args.block in
    let rest = take_all (64 * (b + 1) - 64 * b) (drop (64 * b) ks) (omega (arith, length-drop (64 * b) ks, c.if-from-kinds.false)) in
    let all = take_all (length ks - c.min.result) (drop c.min.result ks) (omega (arith, length-drop c.min.result ks)) in
    let same = drop_min (64 * b) ks in
    counts_after c.args.counts c.with_kinds-2.result ks _ (64 * b) (64 * (b + 1)) (omega arith) c.requires.counts
    (all ∙ (ap (λ (n : ℕ). drop n ks) c.min.ensures ∙ (same ∙ sym rest))) c.with_kinds-2.ensures
