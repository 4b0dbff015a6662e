use Rattle.std.proofs.Common.{◌≡◌, Result, Ok, Err, OnOk}
use Rattle.gj_base.specs.declared.ask.Route.{Route}
use Rattle.matchit.specs.Rows.{RowsOf}
use Rattle.matchit.specs.Route.{Scan, parse_route}
use Rattle.matchit.specs.Router.{RouteOf, InsertsRead}
use Rattle.matchit.specs.declared.InsertError.{InsertError}
use Rattle.gj_http.specs.Table.{with_scan}
use Rattle.gj_http.proofs.routes.add.Goals as goal
use Rattle.gj_http.proofs.routes.add.Goals.{in-Ok, in-Err}

-- an insert that is made leaves the rows and the one more
inserted : (scan : Result Scan InsertError) (route : Route) (old new : RowsOf (RouteOf Route)) (u : Unit {0})
    → InsertsRead scan route old new (Ok u) → new ≡ with_scan scan route old
inserted (Ok scan) route old new u is = is.1
inserted (Err v) route old new u is = is.0

whenever : {T E P : Type 0} (r : Result T E) → P → OnOk r P
whenever (Ok v) p = p
whenever (Err v) p = tt

never : {T E : Type 0} (P : Type 0) (r : Result T E) (v : E) → r ≡ Err v → OnOk r P
never P (Ok u) v is = absurd (cc)
never P (Err u) v is = tt

pub returns : goal.returns
returns c =
    elim c.match-insert.branch [
      | in-Ok w ↦
          whenever c.match-insert.result (
          inserted (parse_route c.args.pattern.now) c.args.route c.args.router.now c.insert.new.self w.in-Ok.field-0 w.in-Ok.ensures)
      | in-Err w ↦ never _ c.match-insert.result _ w.result-is
    ]
