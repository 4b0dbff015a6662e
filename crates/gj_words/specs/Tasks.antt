-- What the arguments of the program ask for. Own: the commands, and the ranges and defaults of their options.
use Rattle.std.specs.Prelude.{ℕ, ◌≡◌, ◌<◌, ◌≤◌, ◌^◌, ◌%◌, ◌==◌, List, [], ◌∷◌, Option, Some, None, codes, option_map, option_and_then, if◌then◌else◌}
use Rattle.std.specs.Str.{bytes_eq}
use Rattle.gj_base.specs.Configuration.{Configuration, IsConfiguration}
use Rattle.clap.specs.Faults.{fault_of}
use Rattle.clap.specs.Simple.{App, matches_of}
use Rattle.clap.specs.Walk.{Row, Text, first_of, is_empty}
use Rattle.gj_words.specs.Options.{replay_app, load_app, follow_app, serve_app}
use Rattle.gj_words.specs.Values.{number_in, path_in}
use Rattle.gj_words.specs.declared.task.Service.{Service}
use Rattle.gj_words.specs.declared.task.Task.{Task}
use Rattle.gj_words.specs.declared.task.Task.TheVariants as task

-- what is asked for: a replay over a window, kept at a path or not; a load over a window, of a number and a count; or to
-- follow a history over a window, from a place
pub data Asked : Type 0 where
  Replay : Configuration → Option Text → Asked
  Load : Configuration → ℕ → ℕ → Asked
  Follow : Configuration → ℕ → Asked

-- what a task asks for
abbrev pub asked_by : Task → Asked
asked_by (task.Replay capacity segments store) = Replay (record { capacity = capacity; segments = segments }) (option_map (λ path. path.now) store)
asked_by (task.Load capacity segments number count) = Load (record { capacity = capacity; segments = segments }) number count
asked_by (task.Follow capacity segments start) = Follow (record { capacity = capacity; segments = segments }) start

-- the numbers of a task are in their ranges
abbrev pub IsTask : Task → Type 0
IsTask (task.Replay capacity segments store) = IsConfiguration capacity segments
IsTask (task.Load capacity segments number count) = IsConfiguration capacity segments × (0 < count) × (count ≤ 1000000)
IsTask (task.Follow capacity segments start) = IsConfiguration capacity segments × (start < 2 ^ 48) × (start % capacity ≡ 0)

-- a number of an option
abbrev pub number_at : Text → ℕ → ℕ → ℕ → List Row → Option ℕ
number_at name least most default rows = number_in (record { least = least; most = most }) default (first_of name rows)

-- the window that the options ask for
abbrev pub conf_in : List Row → Option Configuration
conf_in rows =
    option_and_then (λ capacity. option_map (λ segments. record { capacity = capacity; segments = segments })
    (number_at (codes "segments") 1 64 4 rows)) (number_at (codes "capacity") 16 65536 4096 rows)

-- the replay that the options ask for
abbrev pub replay_in : List Row → Option Asked
replay_in rows = option_and_then (λ conf. option_map (λ store. Replay conf store) (path_in (first_of (codes "store") rows))) (conf_in rows)

-- the load that the options ask for
abbrev pub load_in : List Row → Option Asked
load_in rows =
    option_and_then (λ conf. option_and_then (λ number. option_map (λ count. Load conf number count)
    (number_at (codes "count") 1 1000000 10000 rows))
    (number_at (codes "number") 0 18446744073709551615 1 rows)) (conf_in rows)

-- to follow over a window from a place, where the window's first segment may begin there
abbrev pub follow_at : Configuration → ℕ → Option Asked
follow_at conf start = if start % conf.capacity == 0 then Some (Follow conf start) else None

-- the following that the options ask for
abbrev pub follow_in : List Row → Option Asked
follow_in rows =
    option_and_then (λ conf. option_and_then (λ start. follow_at conf start)
    (number_at (codes "start") 0 281474976710655 0 rows)) (conf_in rows)

-- what the options of a command ask for, where clap doesn't refuse the words
abbrev pub under : {A : Type 0} → App → (List Row → Option A) → List Text → Option A
under app reads words = if is_empty (fault_of app words) then reads (matches_of app words) else None

-- what words ask for, the command's name first
unfoldable pub asked_of : List Text → Option Asked
asked_of [] = None
asked_of (name ∷ words) =
    if bytes_eq name (codes "replay") then under replay_app replay_in words
    else (if bytes_eq name (codes "load") then under load_app load_in words
    else (if bytes_eq name (codes "follow") then under follow_app follow_in words else None))

-- serving, by so many workers and for so many connections, at a port, over a window that is kept at a path or not
pub record Serving : Type 0 where
  pub conf : Configuration
  pub store : Option Text
  pub workers : ℕ
  pub sessions : ℕ
  pub port : ℕ

-- what a service asks for
abbrev pub serving_by : Service → Serving
serving_by s = record {
  conf = record { capacity = s.capacity; segments = s.segments };
  store = option_map (λ path. path.now) s.store;
  workers = s.workers;
  sessions = s.sessions;
  port = s.port;
}

-- the numbers of a service are in their ranges
pub record IsService (s : Service) : Type 0 where
  pub conf : IsConfiguration s.capacity s.segments
  pub workers : (1 ≤ s.workers) × (s.workers ≤ 16)
  pub sessions : (1 ≤ s.sessions) × (s.sessions ≤ 1000000000)
  pub port : (1 ≤ s.port) × (s.port ≤ 65535)

-- the service that the options ask for
abbrev pub service_in : List Row → Option Serving
service_in rows =
    option_and_then (λ conf. option_and_then (λ store. option_and_then (λ workers. option_and_then (λ sessions. option_map
    (λ port. record { conf = conf; store = store; workers = workers; sessions = sessions; port = port })
    (number_at (codes "port") 1 65535 8017 rows))
    (number_at (codes "sessions") 1 1000000000 1000000000 rows))
    (number_at (codes "workers") 1 16 4 rows))
    (path_in (first_of (codes "store") rows))) (conf_in rows)

-- the service that words ask for, the command's name first
unfoldable pub service_of : List Text → Option Serving
service_of [] = None
service_of (name ∷ words) = if bytes_eq name (codes "serve") then under serve_app service_in words else None
