-- The options of each command. Which arguments it takes, and which values they give, is clap's own definition.
use Rattle.std.specs.Prelude.{true, codes, Some}
use Rattle.clap.specs.Simple.{App, new_app, new_rule, with_rule, on_top}
use Rattle.clap.specs.Walk.{Rule, Text}
use Rattle.clap.specs.declared.builder.action.ArgAction.TheVariants.{Set}

-- an option of one value, which may be given once
abbrev pub option : Text → Rule
option name = record (new_rule name) { long = Some name; action = Some Set }

-- no help and no version, and no argument that names the program
abbrev pub plain_app : Text → App
plain_app name = on_top (λ s. record s { no_binary_name = true; disable_help_flag = true; disable_version_flag = true }) (new_app name)

-- with the options of the window
abbrev pub window_app : Text → App
window_app name = with_rule (with_rule (plain_app name) (option (codes "segments"))) (option (codes "capacity"))

unfoldable pub replay_app : App
replay_app = with_rule (window_app (codes "replay")) (option (codes "store"))

unfoldable pub load_app : App
load_app = with_rule (with_rule (window_app (codes "load")) (option (codes "number"))) (option (codes "count"))

unfoldable pub follow_app : App
follow_app = with_rule (window_app (codes "follow")) (option (codes "start"))

unfoldable pub serve_app : App
serve_app =
    with_rule (with_rule (with_rule (with_rule (window_app (codes "serve")) (option (codes "store"))) (option (codes "workers")))
    (option (codes "sessions"))) (option (codes "port"))
