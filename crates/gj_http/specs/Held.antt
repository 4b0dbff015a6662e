-- What a framer holds.
use Rattle.std.specs.Prelude.{ℕ, List}

-- the bytes that were fed and not handed out as whole messages, and how many more it takes
pub record Held : Type 0 where
  pub bytes : List ℕ
  pub room : ℕ
