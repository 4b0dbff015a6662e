-- Which fixed reply stands for an ask: a batch is asked for by one route alone.
use Rattle.std.proofs.Common.{◌≡◌, ℕ, List, [], ◌∷◌, map, Option, Some, None, Result, Ok, Err, refl, subst}
use Rattle.gj_base.specs.declared.ask.Ask.{Ask}
use Rattle.gj_base.specs.declared.ask.Ask.TheVariants.{Items, Noted, Query}
use Rattle.gj_base.specs.declared.ask.Query as query
use Rattle.gj_base.specs.declared.ask.Query.TheVariants as queries
use Rattle.gj_base.specs.declared.ask.Route.{Route}
use Rattle.gj_base.specs.declared.ask.Route.TheVariants as routes
use Rattle.gj_base.specs.declared.item.Item.{Item}
use Rattle.gj_http.specs.Request.{Request}
use Rattle.gj_http.specs.Routes.{found_of}
use Rattle.gj_http.specs.declared.found.RouteError.{RouteError}
use Rattle.gj_reply.specs.declared.fixed.Fixed.{Fixed}
use Rattle.gj_reply.specs.declared.fixed.Fixed.TheVariants.{Memory, NotAccepted}
use Rattle.gj_request.specs.Counts.{count_rows}
use Rattle.gj_request.specs.Forms.{Content}
use Rattle.gj_request.specs.Requests.{asked, parsed, tree_of, path_id, path_place, walk_of, subgraph_of, similar_of, count_of}
use Rattle.gj_request.specs.Results.{◌>>=◌}
use Rattle.gj_request.specs.Tables.{Row, Builder, field, filled, object_of, read_by, walk_rows, subgraph_rows, similar_rows}
use Rattle.gj_request.specs.declared.name.Name.{Name}
use Rattle.gj_request.specs.declared.name.Name.TheVariants.{Body}
use Rattle.gj_request.specs.declared.refusal.Reason.{Reason}
use Rattle.gj_session.specs.Heard.{heard, lack_of, lack_at, lack_by, by_body, by_route, LacksBy}

-- what is built by a table, whatever its fields say
abbrev BuildsAll : {A : Type 0} (P : A → Type 0) (rows : List Row) → Builder rows A → Type 0
BuildsAll P [] built = P built
BuildsAll P (row ∷ rows) build = (content : Content row.form.shape) → BuildsAll P rows (build content)

of_filled : {A : Type 0} (P : A → Type 0) (rows : List Row) (build : Builder rows A) (value : _) (built : A) → BuildsAll P rows build → filled rows build value ≡ Ok built → P built
of_filled P [] build value built all e = (let same : build ≡ built = cc in subst P same all)
of_filled P (row ∷ rows) build value built all e =
    elim (field row value) as (λ r. r >>= (λ content. filled rows (build content) value) ≡ Ok built → P built) [
      | Ok content ↦ λ is. of_filled P rows (build content) value built (all content) is
      | Err why ↦ λ is. cc
    ] e

of_table : {A : Type 0} (P : A → Type 0) (rows : List Row) (build : Builder rows A) (name : Name) (value : _) (built : A) → BuildsAll P rows build → read_by rows build name value ≡ Ok built → P built
of_table P rows build name value built all e =
    elim (object_of name (map (λ row. row.name) rows) value) as (λ r. r >>= (λ fields. filled rows build fields) ≡ Ok built → P built) [
      | Ok fields ↦ λ is. of_filled P rows build fields built all is
      | Err why ↦ λ is. cc
    ] e

of_body : (P : Ask → Type 0) (body : _) (of : _ → Result Ask Reason) (ask : Ask) → ((value : _) → of value ≡ Ok ask → P ask) → parsed body >>= of ≡ Ok ask → P ask
of_body P None of ask each e = cc
of_body P (Some value) of ask each e = each value e

-- an ask that is no batch
abbrev IsQuery : Ask → Type 0
IsQuery (Items batch) = ⊥
IsQuery (Noted batch) = ⊥
IsQuery (Query query) = Unit {0}

walk_query : (value : _) (ask : Ask) → walk_of value ≡ Ok ask → IsQuery ask
unfolding walk_of
walk_query value ask e = of_table IsQuery walk_rows _ Body value ask (λ seeds steps seed kinds reset top proof hide since not_before. tt) e

sub_query : (value : _) (ask : Ask) → subgraph_of value ≡ Ok ask → IsQuery ask
unfolding subgraph_of
sub_query value ask e = of_table IsQuery subgraph_rows _ Body value ask (λ seeds iterations kinds top proof since not_before. tt) e

sim_query : (value : _) (ask : Ask) → similar_of value ≡ Ok ask → IsQuery ask
unfolding similar_of
sim_query value ask e = of_table IsQuery similar_rows _ Body value ask (λ post steps seed kinds top since not_before. tt) e

count_query : (value : _) (ask : Ask) → count_of value ≡ Ok ask → IsQuery ask
unfolding count_of
count_query value ask e = of_table IsQuery count_rows _ Body value ask (λ seeds kinds least top proof since not_before. tt) e

vertex_query : (id : Result ℕ Reason) (of : ℕ → query.Query) (ask : Ask) → id >>= (λ n. Ok (Query (of n))) ≡ Ok ask → IsQuery ask
vertex_query (Ok n) of ask e = (let same : Query (of n) ≡ ask = cc in subst IsQuery same tt)
vertex_query (Err why) of ask e = cc

query_lacks : (ask : Ask) (lack : Fixed) → IsQuery ask → LacksBy ask lack
query_lacks (Items batch) lack is = absurd is
query_lacks (Noted batch) lack is = absurd is
query_lacks (Query query) lack is = tt

posts_lack : (ask : Ask) → LacksBy ask NotAccepted
posts_lack (Items batch) = refl
posts_lack (Noted batch) = refl
posts_lack (Query query) = tt

-- a batch is asked for by one route alone
pub asked_lacks : (route : Route) (id : Option (List ℕ)) (body : List ℕ) (ask : Ask) → asked route id body ≡ Ok ask → LacksBy ask (lack_at route)
unfolding asked
asked_lacks routes.Interactions id body ask e = posts_lack ask
asked_lacks routes.Walk id body ask e = query_lacks ask Memory (of_body IsQuery (tree_of body) walk_of ask (λ value. walk_query value ask) e)
asked_lacks routes.Subgraph id body ask e = query_lacks ask Memory (of_body IsQuery (tree_of body) subgraph_of ask (λ value. sub_query value ask) e)
asked_lacks routes.Similar id body ask e = query_lacks ask Memory (of_body IsQuery (tree_of body) similar_of ask (λ value. sim_query value ask) e)
asked_lacks routes.Count id body ask e = query_lacks ask Memory (of_body IsQuery (tree_of body) count_of ask (λ value. count_query value ask) e)
asked_lacks routes.User id body ask e = query_lacks ask Memory (vertex_query (path_id id) queries.User ask e)
asked_lacks routes.Post id body ask e = query_lacks ask Memory (vertex_query (path_id id) queries.Post ask e)
asked_lacks routes.Log id body ask e = query_lacks ask Memory (vertex_query (path_place id) queries.Log ask e)
asked_lacks routes.Stats id body ask e = (let same : Query queries.Stats ≡ ask = cc in query_lacks ask Memory (subst IsQuery same tt))

body_batch : (read : Result Ask Reason) (lack : Fixed) (batch : List Item) → ((ask : Ask) → read ≡ Ok ask → LacksBy ask lack) → by_body read ≡ Ok (Items batch) → lack ≡ NotAccepted
body_batch (Ok (Items other)) lack batch each e = each (Items other) refl
body_batch (Ok (Noted other)) lack batch each e = cc
body_batch (Ok (Query query)) lack batch each e = cc
body_batch (Err why) lack batch each e = cc

route_batch : (found : Result (Route × Option (List ℕ)) RouteError) (body : List ℕ) (batch : List Item) → by_route found body ≡ Ok (Items batch) → lack_by found ≡ NotAccepted
route_batch (Ok found) body batch e = body_batch (asked found.0 found.1 body) (lack_at found.0) batch (asked_lacks found.0 found.1 body) e
route_batch (Err why) body batch e = cc

-- a message that asks for a batch
pub heard_batch : (m : Request) (batch : List Item) → heard m ≡ Ok (Items batch) → lack_of m ≡ NotAccepted
unfolding heard lack_of
heard_batch m batch e = route_batch (found_of m.method m.path) m.body batch e
