-- The routes of paths and the method of each route. Own: the table.
use Rattle.std.specs.Prelude.{ℕ, List, [], ◌∷◌, Bool, true, false, Option, Some, None, Result, Ok, Err, ◌==◌, if◌then◌else◌, codes}
use Rattle.gj_base.specs.declared.ask.Route.{Route}
use Rattle.gj_base.specs.declared.ask.Route.TheVariants.{Interactions, Walk, Subgraph, Similar, Count, User, Post, Stats, Log}
use Rattle.gj_http.specs.declared.message.Method.{Method}
use Rattle.gj_http.specs.declared.message.Method.TheVariants.{Get, Post as Posts, Other}
use Rattle.gj_http.specs.declared.found.RouteError.{RouteError}
use Rattle.gj_http.specs.declared.found.RouteError.TheVariants.{NoRoute, WrongMethod}

-- a route, with the text of an identifier or of a place where the path has one
abbrev pub Routed : Type 0
Routed = Route × Option (List ℕ)

-- what follows the text in the path, where the path begins with the text
abbrev pub after : List ℕ → List ℕ → Option (List ℕ)
after [] path = Some path
after (b ∷ text) [] = None
after (b ∷ text) (c ∷ path) = if b == c then after text path else None

-- no byte is a slash
abbrev pub lacks_slash : List ℕ → Bool
lacks_slash [] = true
lacks_slash (c ∷ rest) = if c == 47 then false else lacks_slash rest

-- one part of a path: not empty, and without a slash
abbrev pub is_part : List ℕ → Bool
is_part [] = false
is_part (c ∷ rest) = lacks_slash (c ∷ rest)

-- the route, where nothing follows
abbrev pub at_end : Route → Option (List ℕ) → Option Routed
at_end route (Some []) = Some (route, None)
at_end route (Some (c ∷ rest)) = None
at_end route None = None

-- the route and what follows, where that is one part
abbrev pub at_part : Route → Option (List ℕ) → Option Routed
at_part route (Some rest) = if is_part rest then Some (route, Some rest) else None
at_part route None = None

-- the first of two answers
abbrev pub first_of : Option Routed → Option Routed → Option Routed
first_of None other = other
first_of (Some routed) other = Some routed

-- the route, where the path is this text
abbrev pub exact : List ℕ → Route → List ℕ → Option Routed
exact text route path = at_end route (after text path)

-- the route, where the path is this text and one part
abbrev pub with_id : List ℕ → Route → List ℕ → Option Routed
with_id text route path = at_part route (after text path)

-- the route of a path
abbrev pub route_of : List ℕ → Option Routed
route_of path =
    first_of (exact (codes "/interactions") Interactions path)
    (first_of (exact (codes "/walk") Walk path)
    (first_of (exact (codes "/subgraph") Subgraph path)
    (first_of (exact (codes "/similar") Similar path)
    (first_of (exact (codes "/count") Count path)
    (first_of (with_id (codes "/users/") User path)
    (first_of (with_id (codes "/posts/") Post path)
    (first_of (exact (codes "/stats") Stats path)
    (with_id (codes "/log/") Log path))))))))

-- the route's method is GET; the others' is POST
abbrev pub is_get : Route → Bool
is_get User = true
is_get Post = true
is_get Stats = true
is_get Log = true
is_get Interactions = false
is_get Walk = false
is_get Subgraph = false
is_get Similar = false
is_get Count = false

-- the method is the one of a route whose method is GET, or is not
abbrev pub is_method : Bool → Method → Bool
is_method get Get = get
is_method get Posts = if get then false else true
is_method get Other = false

-- the answer for a route under a method
abbrev pub under_method : Method → Option Routed → Result Routed RouteError
under_method method None = Err NoRoute
under_method method (Some routed) =
    if is_method (is_get routed.0) method then Ok routed else Err (WrongMethod (is_get routed.0))

-- the answer for a path under a method
abbrev pub found_of : Method → List ℕ → Result Routed RouteError
found_of method path = under_method method (route_of path)

-- the text of the identifier, or of the place, in the path of a route
abbrev pub id_of : Route → List ℕ → Option (List ℕ)
id_of User path = after (codes "/users/") path
id_of Post path = after (codes "/posts/") path
id_of Log path = after (codes "/log/") path
id_of Interactions path = None
id_of Walk path = None
id_of Subgraph path = None
id_of Similar path = None
id_of Count path = None
id_of Stats path = None
