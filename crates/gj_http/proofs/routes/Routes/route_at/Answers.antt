use Rattle.std.proofs.Common.{Some, ap, sym, ◌∙◌}
use Rattle.gj_http.proofs.TableLemmas.{bytes_fit, table_agrees}
use Rattle.gj_http.proofs.routes.Routes.route_at.Goals as goal

pub returns-in-Ok-clause-some : goal.returns-in-Ok-clause-some
returns-in-Ok-clause-some c =
    let agrees = table_agrees c.args.path.now (bytes_fit c.args.path.now c.type_inv.path) in
    let leads = rw (← c.args.self.now.pinned, c.in-Ok.ensures.found) at agrees in
    leads ∙ ap (λ id. Some (c.in-Ok.row.value.now, id)) (sym c.id_in-id.ensures)

pub returns-in-Err-clause-none : goal.returns-in-Err-clause-none
returns-in-Err-clause-none c =
    let agrees = table_agrees c.args.path.now (bytes_fit c.args.path.now c.type_inv.path) in
    rw (← c.args.self.now.pinned, c.in-Err.ensures.missing) at agrees
