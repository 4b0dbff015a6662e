-- Kept numbers, as a file has them.
use Rattle.std.specs.Prelude.{ℕ, ◌-◌, ◌^◌, ℤ, pos, negsuc}

-- a number that is handed on: a negative one as the largest of a u64, which no check lets pass
abbrev pub number_of : ℤ → ℕ
number_of (pos n) = n
number_of (negsuc n) = 2 ^ 64 - 1
