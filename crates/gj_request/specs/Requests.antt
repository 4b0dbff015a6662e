-- What a request asks for: its route, the identifier of its path, and the bytes of its body. Own.
use Rattle.std.specs.Prelude.{◌≤◌, ℕ, ◌+◌, ◌-◌, ◌*◌, ◌==◌, ◌&&◌, ◌||◌, nat_le, not, Bool, true, false, if◌then◌else◌, List, length, fold, Option, Some, None, Result, Ok, Err}
use Rattle.std.specs.List.{list_all}
use Rattle.std.specs.Char.{is_ascii_digit}
use Rattle.std.specs.Str.{is_utf8}
use Rattle.serde_json.specs.Data.{Data}
use Rattle.serde_json.specs.Read.{read}
use Rattle.gj_base.specs.declared.ask.Route.{Route}
use Rattle.gj_base.specs.declared.ask.Route.TheVariants as routes
use Rattle.gj_base.specs.declared.ask.Query.TheVariants as queries
use Rattle.gj_base.specs.declared.ask.Ask.{Ask}
use Rattle.gj_base.specs.declared.ask.Ask.TheVariants.{Items, Noted, Query}
use Rattle.gj_base.specs.Interaction.{Interaction}
use Rattle.gj_base.specs.Kinds.{since_moment}
use Rattle.gj_request.specs.Counts.{count_rows}
use Rattle.gj_request.specs.Results.{◌>>=◌, ranged}
use Rattle.gj_request.specs.Tables.{read_by, batch_rows, walk_rows, subgraph_rows, similar_rows}
use Rattle.gj_request.specs.declared.name.Name.{Name}
use Rattle.gj_request.specs.declared.name.Name.TheVariants as names
use Rattle.gj_request.specs.declared.refusal.Reason.{Reason}
use Rattle.gj_request.specs.declared.refusal.Reason.TheVariants.{Json, Field, Range}

-- the routes whose path ends in an identifier or a place
abbrev pub has_id : Route → Bool
has_id routes.User = true
has_id routes.Post = true
has_id routes.Log = true
has_id _ = false

-- the JSON value that a text is
unfoldable pub tree_of : List ℕ → Option Data
tree_of text = if is_utf8 text then read text else None

abbrev pub parsed : Option Data → Result Data Reason
parsed None = Err Json
parsed (Some tree) = Ok tree

-- one or more ASCII digits
abbrev pub are_digits : List ℕ → Bool
are_digits text = not (length text == 0) && list_all is_ascii_digit text

-- the number that digits spell
abbrev pub digits_value : List ℕ → ℕ
digits_value text = fold (λ n digit. 10 * n + (digit - 48)) 0 text

-- the number at the end of a path, which is at most so much
unfoldable pub path_number : Name → ℕ → Option (List ℕ) → Result ℕ Reason
path_number name most None = Err (Field name)
path_number name most (Some text) = if are_digits text then ranged name (nat_le (digits_value text) most) (digits_value text) else Err (Field name)

-- the identifier of a user or a post
abbrev pub path_id : Option (List ℕ) → Result ℕ Reason
path_id = path_number names.Id 9223372036854775807

-- a place of the history
abbrev pub path_place : Option (List ℕ) → Result ℕ Reason
path_place = path_number names.From 281474976710656

-- a batch with neither a producer nor a number, or with both
unfoldable pub batch_ask : List Interaction → ℕ → ℕ → Result Ask Reason
batch_ask items producer number =
    if producer == 0 && number == 0 then Ok (Items items)
    else (if producer == 0 || number == 0 then Err (Range names.Number) else Ok (Noted (record { producer = producer; number = number; items = items })))

-- what the body of each route asks for, as a JSON value
unfoldable pub batch_of : Data → Result Ask Reason
batch_of value = do
  ask ← read_by batch_rows batch_ask names.Body value
  ask

unfoldable pub walk_of : Data → Result Ask Reason
walk_of = read_by walk_rows (λ seeds steps seed kinds reset top proof hide since not_before.
    Query (queries.Walk (record { seeds = seeds; steps = steps; seed = seed; mask = since_moment kinds not_before; reset = reset; top = top; proof = proof; hide = hide; since = since }))) names.Body

unfoldable pub subgraph_of : Data → Result Ask Reason
subgraph_of = read_by subgraph_rows (λ seeds iterations kinds top proof since not_before.
    Query (queries.Sub (record { seeds = seeds; iterations = iterations; mask = since_moment kinds not_before; top = top; proof = proof; since = since }))) names.Body

unfoldable pub similar_of : Data → Result Ask Reason
similar_of = read_by similar_rows (λ post steps seed kinds top since not_before.
    Query (queries.Sim (record { post = post; steps = steps; seed = seed; mask = since_moment kinds not_before; top = top; since = since }))) names.Body

unfoldable pub count_of : Data → Result Ask Reason
count_of = read_by count_rows (λ seeds kinds least top proof since not_before.
    Query (queries.Count (record { seeds = seeds.users; weights = seeds.weights; mask = since_moment kinds not_before; least = least; top = top; proof = proof; since = since }))) names.Body

-- what a request asks for
unfoldable pub asked : Route → Option (List ℕ) → List ℕ → Result Ask Reason
asked routes.Interactions id body = parsed (tree_of body) >>= batch_of
asked routes.Walk id body = parsed (tree_of body) >>= walk_of
asked routes.Subgraph id body = parsed (tree_of body) >>= subgraph_of
asked routes.Similar id body = parsed (tree_of body) >>= similar_of
asked routes.Count id body = parsed (tree_of body) >>= count_of
asked routes.User id body = path_id id >>= λ user. Ok (Query (queries.User user))
asked routes.Post id body = path_id id >>= λ post. Ok (Query (queries.Post post))
asked routes.Stats id body = Ok (Query queries.Stats)
asked routes.Log id body = path_place id >>= λ from. Ok (Query (queries.Log from))

-- a batch has interactions, and not too many; an identifier and a place are in range
abbrev pub IsAsked : Ask → Type 0
IsAsked (Items list) = (1 ≤ length list) × (length list ≤ 4096)
IsAsked (Noted _) = Unit {0}
IsAsked (Query (queries.User user)) = user ≤ 9223372036854775807
IsAsked (Query (queries.Post post)) = post ≤ 9223372036854775807
IsAsked (Query (queries.Log from)) = from ≤ 281474976710656
IsAsked (Query _) = Unit {0}
