use Rattle.std.proofs.Common.{◌≡◌, ◌%◌, ◌*◌, ◌<◌, ◌∙◌, ap, sym, arith}
use Rattle.gj_keep.proofs.BeginLemmas.{begins_is}
use Rattle.gj_keep.proofs.reading.begins.Goals as goal

pub returns-else-place-eq0 : goal.returns-else-place-eq0
returns-else-place-eq0 c =
    let is = c.room.ensures.conf in
    let low = is.capacity_low in
    let capacity : c.from-capacity.result ≡ c.args.conf.capacity = c.from-capacity.ensures ∙ c.capacity.ensures.exact in
    let room : c.from.result ≡ c.args.conf.capacity * c.args.conf.segments = c.from.ensures ∙ c.room.ensures.exact in
    let aligned : c.args.place % c.args.conf.capacity ≡ 0 = ap (λ m. c.args.place % m) (sym capacity) ∙ c.if-place-capacity-eq0.true in
    let apart : 0 < c.args.place = (let ne = c.if-place-eq0.false in omega arith) in
    begins_is c.args.conf c.args.place c.args.count _ (omega arith) is.segments_low c.requires aligned apart (omega arith)
