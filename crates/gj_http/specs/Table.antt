-- The routes, as the rows of a router.
use Rattle.std.specs.Prelude.{ℕ, List, [], codes, Result, Ok, Err}
use Rattle.gj_base.specs.declared.ask.Route.{Route}
use Rattle.gj_base.specs.declared.ask.Route.TheVariants.{Interactions, Walk, Subgraph, Similar, Count, User, Post, Stats, Log}
use Rattle.matchit.specs.Rows.{RowsOf}
use Rattle.matchit.specs.Route.{Scan, parse_route}
use Rattle.matchit.specs.Router.{RouteOf, route_from}
use Rattle.matchit.specs.Order.{placed}
use Rattle.matchit.specs.declared.InsertError.{InsertError}

-- the rows and one more, if its pattern reads
abbrev pub with_scan : Result Scan InsertError → Route → RowsOf (RouteOf Route) → RowsOf (RouteOf Route)
with_scan (Ok scan) route rows = placed ((route_from scan route).pattern, route_from scan route) rows
with_scan (Err e) route rows = rows

-- the rows and the one of this pattern
abbrev pub with_row : List ℕ → Route → RowsOf (RouteOf Route) → RowsOf (RouteOf Route)
with_row pattern route rows = with_scan (parse_route pattern) route rows

-- the rows of all routes
unfoldable pub table : RowsOf (RouteOf Route)
table =
    with_row (codes "/log/{from}") Log
    (with_row (codes "/stats") Stats
    (with_row (codes "/posts/{id}") Post
    (with_row (codes "/users/{id}") User
    (with_row (codes "/count") Count
    (with_row (codes "/similar") Similar
    (with_row (codes "/subgraph") Subgraph
    (with_row (codes "/walk") Walk
    (with_row (codes "/interactions") Interactions []))))))))
