-- What is known of the bytes at the front, whatever follows them.
use Rattle.std.specs.Prelude.{◌≡◌, ℕ, ◌+◌, ◌<◌, ◌≤◌, List, ◌++◌, length, drop, option_map}
use Rattle.gj_http.specs.Cut.{empty_lines, head_end, reach, NeedsMore}
use Rattle.gj_http.specs.declared.front.Hint.{Hint}

-- in the reach, so many bytes are of empty lines, and no end of a head begins in so many after all such lines
pub record IsHint (seen : List ℕ) (hint : Hint) : Type 0 where
  pub within : hint.lines + hint.passed ≤ length seen
  pub lines : hint.lines + empty_lines (drop hint.lines seen) ≡ empty_lines seen
  pub settled : 0 < hint.passed → empty_lines seen ≡ hint.lines
  pub passed : option_map (λ n. hint.passed + n) (head_end (drop hint.passed (drop (empty_lines seen) seen)))
      ≡ head_end (drop (empty_lines seen) seen)

-- the hint is right of the bytes and of all that begin with them
abbrev pub Knows : List ℕ → Hint → Type 0
Knows bytes hint =
    (more : List ℕ)
    → IsHint (reach (bytes ++ more)) hint × (length (bytes ++ more) < hint.want → NeedsMore (bytes ++ more))
