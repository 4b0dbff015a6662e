-- A request, as contracts see it.
use Rattle.std.specs.Prelude.{ℕ, Bool, List}
use Rattle.gj_http.specs.declared.message.Method.{Method}
use Rattle.gj_http.specs.declared.message.Message.{Message}

-- the method, the target up to its first `?`, the body, and whether the connection ends after the reply
pub record Request : Type 0 where
  pub method : Method
  pub path : List ℕ
  pub body : List ℕ
  pub close : Bool

-- the request that a lent message shows
abbrev pub request : Message → Request
request m = record { method = m.method; path = m.path.now; body = m.body.now; close = m.close }
