use Rattle.std.proofs.Common.{◌≡◌, ap, arith}
use Rattle.gj_keep.specs.declared.opening.OpenError.TheVariants as why
use Rattle.gj_service.proofs.opened.serve_named.Goals as goal

pub serve_index-requires-clause-unused : goal.serve_index-requires-clause-unused
serve_index-requires-clause-unused g c = λ lifetimes alive k d within.
    ap (λ seat. seat.posted) (c.in-Ok.ensures.each k d (omega (arith, within, c.in-Ok.ensures.all)))

pub returns-in-Err-clause-differs : goal.returns-in-Err-clause-differs
returns-in-Err-clause-differs g c = λ kept now e.
    let is : c.in-Err.field-0.why ≡ why.ConfDiffers kept now = cc in
    let differ = c.in-Err.ensures.differs kept now is in
    (differ.0, differ.1)
