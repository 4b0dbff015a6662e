-- The lines of a text. Own: a line ends with a line feed, and has at most 1048576 bytes without it.
use Rattle.std.specs.Prelude.{◌≡◌, ℕ, ◌<◌, ◌==◌, ◌||◌, nat_lt, Bool, true, if◌then◌else◌, List, [], ◌∷◌, ◌++◌, length, slice_index}
use Rattle.std.specs.List.{list_any}
use Rattle.gj_pages.specs.declared.end.FollowEnd.{FollowEnd}
use Rattle.gj_pages.specs.declared.end.FollowEnd.TheVariants.{Done, Truncated, LongLine}

-- the whole lines of a text, without their line feeds, where the first one began with held
unfoldable pub lines_after : List ℕ → List ℕ → List (List ℕ)
lines_after held [] = []
lines_after held (x ∷ text) = if x == 10 then held ∷ lines_after [] text else lines_after (held ++ x ∷ []) text

-- what follows the last line feed of such a text
unfoldable pub rest_after : List ℕ → List ℕ → List ℕ
rest_after held [] = held
rest_after held (x ∷ text) = if x == 10 then rest_after [] text else rest_after (held ++ x ∷ []) text

-- the whole lines of a text
abbrev pub lines_of : List ℕ → List (List ℕ)
lines_of text = lines_after [] text

-- the line without a line feed that a text ends with, or nothing
abbrev pub rest_of : List ℕ → List ℕ
rest_of text = rest_after [] text

-- a line that is longer than a line may be
abbrev pub is_long : List ℕ → Bool
is_long line = nat_lt 1048576 (length line)

-- a text has a longer line, with a line feed or without
abbrev pub has_long : List ℕ → Bool
has_long text = list_any is_long (lines_of text) || is_long (rest_of text)

-- how a text ends that has no longer line, by what follows its last line feed
abbrev pub end_of_rest : List ℕ → FollowEnd
end_of_rest [] = Done
end_of_rest (x ∷ rest) = Truncated

-- how a whole input ends
abbrev pub end_by : List ℕ → FollowEnd
end_by input = if has_long input then LongLine else end_of_rest (rest_of input)

-- no byte is a line feed
abbrev pub IsPart : List ℕ → Type 0
IsPart text = (k : ℕ) → k < length text → (slice_index text k == 10) ≡ true → ⊥
