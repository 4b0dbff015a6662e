-- What is answered to an ask.
use Rattle.std.proofs.Common.{◌≡◌, ℕ, List, [], ◌∷◌, Option, Some, None, is_some, Result, Ok, Err, if◌then◌else◌, codes, refl, subst, Bor, Bool, true, false}
use Rattle.gj_base.specs.declared.ask.Ask.{Ask}
use Rattle.gj_base.specs.declared.ask.Query.{Query}
use Rattle.gj_base.specs.declared.ask.Route.{Route}
use Rattle.gj_base.specs.declared.ask.Route.TheVariants as routes
use Rattle.gj_base.specs.declared.history.Shown.{Shown}
use Rattle.gj_http.specs.Request.{Request}
use Rattle.gj_http.specs.Routes.{found_of, Routed, at_end, at_part, is_part, first_of, route_of, after, under_method, is_method, is_get}
use Rattle.gj_http.specs.declared.message.Method.{Method}
use Rattle.std.specs.Option.{option_copied}
use Rattle.gj_http.specs.declared.found.RouteError.{RouteError}
use Rattle.gj_http.specs.declared.found.RouteError.TheVariants.{WrongMethod}
use Rattle.gj_reply.specs.declared.fixed.Fixed.{Fixed}
use Rattle.gj_reply.specs.declared.fixed.Fixed.TheVariants.{Memory}
use Rattle.gj_reply.specs.declared.reply.Reply.{Reply}
use Rattle.gj_request.specs.Requests.{asked, has_id}
use Rattle.gj_session.specs.Heard.{heard, lack_of, by_body, lack_at, route_reply}
use Rattle.gj_session.specs.Reference.{reply_of}
use Rattle.gj_session.proofs.AnswerLemmas.{of_reply}
use Rattle.gj_session.specs.Outcomes.{Uncounted}

-- no count of a seat is about a reference answer
pub plain_reply : (query : Query) (w : Shown) → Uncounted (reply_of query w)
plain_reply query w = of_reply Uncounted (record {
  behind = λ n. tt;
  walk = λ n r. tt;
  sub = λ n r. tt;
  sim = λ n r. tt;
  count = λ n r. tt;
  user = λ n id d r. tt;
  post = λ n id d r. tt;
  stats = λ n b c k. tt;
  log = λ n f r. tt;
  gone = λ n b. tt;
  ahead = λ n. tt;
}) query w

-- a message with a route
pub of_found : (P : Result Ask Reply → Fixed → Type 0) (m : Request) (route : Route) (id : Option (List ℕ))
    → found_of m.method m.path ≡ Ok (route, id) → P (by_body (asked route id m.body)) (lack_at route) → P (heard m) (lack_of m)
unfolding heard lack_of
of_found P m route id e a = rw e a

-- a message without one
pub of_lost : (P : Result Ask Reply → Fixed → Type 0) (m : Request) (why : RouteError) → found_of m.method m.path ≡ Err why → P (Err (route_reply why)) Memory → P (heard m) (lack_of m)
unfolding heard lack_of
of_lost P m why e a = rw e a

-- a route has an identifier exactly where its path ends in one
abbrev HasId : Option Routed → Type 0
HasId None = Unit {0}
HasId (Some routed) = is_some routed.1 ≡ has_id routed.0

at_end_id : (route : Route) (rest : Option (List ℕ)) → false ≡ has_id route → HasId (at_end route rest)
at_end_id route None lacks = tt
at_end_id route (Some []) lacks = lacks
at_end_id route (Some (b ∷ rest)) lacks = tt

at_part_id : (route : Route) (rest : Option (List ℕ)) → true ≡ has_id route → HasId (at_part route rest)
at_part_id route None has = tt
at_part_id route (Some rest) has = elim (is_part rest) as (λ t. HasId (if t then Some (route, Some rest) else None)) [ true ↦ has | false ↦ tt ]

first_id : (a b : Option Routed) → HasId a → HasId b → HasId (first_of a b)
first_id None b ha hb = hb
first_id (Some routed) b ha hb = ha

route_id : (path : List ℕ) → HasId (route_of path)
route_id path =
    first_id _ _ (at_end_id routes.Interactions (after (codes "/interactions") path) refl)
    (first_id _ _ (at_end_id routes.Walk (after (codes "/walk") path) refl)
    (first_id _ _ (at_end_id routes.Subgraph (after (codes "/subgraph") path) refl)
    (first_id _ _ (at_end_id routes.Similar (after (codes "/similar") path) refl)
    (first_id _ _ (at_end_id routes.Count (after (codes "/count") path) refl)
    (first_id _ _ (at_part_id routes.User (after (codes "/users/") path) refl)
    (first_id _ _ (at_part_id routes.Post (after (codes "/posts/") path) refl)
    (first_id _ _ (at_end_id routes.Stats (after (codes "/stats") path) refl)
    (at_part_id routes.Log (after (codes "/log/") path) refl))))))))

chosen_id : (fits : Bool) (own routed : Routed) → is_some own.1 ≡ has_id own.0
    → (let answer : Result Routed RouteError = if fits then Ok own else Err (WrongMethod (is_get own.0)) in answer ≡ Ok routed) → is_some routed.1 ≡ has_id routed.0
chosen_id true own routed h e = (let same : own ≡ routed = cc in subst (λ (r : Routed). is_some r.1 ≡ has_id r.0) same h)
chosen_id false own routed h e = cc

under_id : (method : Method) (found : Option Routed) (routed : Routed) → HasId found → under_method method found ≡ Ok routed → is_some routed.1 ≡ has_id routed.0
under_id method None routed h e = cc
under_id method (Some own) routed h e = chosen_id (is_method (is_get own.0) method) own routed h e

pub found_id : (method : Method) (path : List ℕ) (routed : Routed) → found_of method path ≡ Ok routed → is_some routed.1 ≡ has_id routed.0
found_id method path routed e = under_id method (route_of path) routed (route_id path) e

pub is_some-copied : (id : Option (Bor (List ℕ))) → is_some id ≡ is_some (option_copied id)
is_some-copied None = refl
is_some-copied (Some text) = refl
