-- What a mask lets through, as contracts see it: one bit a kind, at the place of its number, and a least moment.
use Rattle.std.specs.Prelude.{ℕ}

pub record Filter : Type 0 where
  pub bits : ℕ
  pub not_before : ℕ
