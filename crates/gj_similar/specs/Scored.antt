-- A score, as contracts see it, and which of two comes first. Own: the fraction, and how its ties are broken.
use Rattle.std.specs.Prelude.{ℕ, ◌*◌, max}
use Rattle.std.specs.declared.cmp.Ordering.{Ordering}
use Rattle.std.specs.Ordering.{nat_cmp, on, flip_args, then_cmp}

pub record Scored : Type 0 where
  pub co : ℕ
  pub degree : ℕ
  pub post : ℕ

-- the larger fraction co * co / degree first, by cross products; where a degree were 0 it would count as 1, so that all
-- records are in order
abbrev pub fraction_cmp : Scored → Scored → Ordering
fraction_cmp a b = nat_cmp (b.co * b.co * max 1 a.degree) (a.co * a.co * max 1 b.degree)

-- the better score first: by the fraction, and then the lower post, the larger co, and the lower degree
abbrev pub score_cmp : Scored → Scored → Ordering
score_cmp = then_cmp fraction_cmp (then_cmp (on (λ s. s.post) nat_cmp) (then_cmp (flip_args (on (λ s. s.co) nat_cmp)) (on (λ s. s.degree) nat_cmp)))
