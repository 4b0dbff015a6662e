use Rattle.std.proofs.Common.{◌≡◌, ◌*◌, ◌-◌, ◌^◌, length, ap, List, ℕ, arith, ◌∙◌}
use Rattle.std.proofs.lemmas.List.{length-replicate}
use Rattle.gj_names.specs.declared.table.TheConstants.{FREE}
use Rattle.gj_names.specs.Slots.{IsSized}
use Rattle.gj_names.proofs.Probing.{halved, table_empty}
use Rattle.gj_names.proofs.table.Table.grow.Goals as goal

-- twice the slots, all free
pub loop-place-init : goal.loop-place-init
loop-place-init c =
    let old = c.requires.sized in
    let size = c.len-size.result in
    let was : length c.args.self.now.slots.items ≡ size = omega arith in
    let whole = halved _ _ old.whole (omega arith) in
    let sized : IsSized (2 * size) (c.args.self.now.shift - 1) = record {
      whole = (let w : size * 2 * 2 ^ (c.args.self.now.shift - 1) ≡ 2 ^ 64 = rw was at whole in omega (arith, w));
      shifted = omega (arith, old.shifted);
      least = omega (arith, old.least, was);
    } in
    record {
      table = rw c.free_all.ensures.items (table_empty (2 * size) (c.args.self.now.shift - 1) sized);
      size = ap (λ (l : List ℕ). length l) c.free_all.ensures.items ∙ length-replicate (2 * size) FREE;
      capacity = c.free_all.ensures.capacity;
    }
