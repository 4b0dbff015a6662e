-- What is noted of each producer.
use Rattle.std.proofs.Common.{◌≡◌, ◌-◌, ℕ, zero, suc, get_or, refl, length}
use Rattle.std.proofs.Math.ListN.{replicate}
use Rattle.std.proofs.lemmas.List.{length-replicate}
use Rattle.gj_once.specs.Judging.{last_of, no_batch, nothing_noted}

-- a list of one value has it everywhere
get_same : {A : Type 0} (n i : ℕ) (x : A) → get_or (replicate n x) i x ≡ x
get_same zero i x = refl
get_same (suc n) zero x = refl
get_same (suc n) (suc i) x = get_same n i x

-- where nothing is noted, no producer has a batch
pub nothing_of : (producer : ℕ) → last_of nothing_noted producer ≡ no_batch
unfolding nothing_noted
nothing_of producer = get_same 1024 (producer - 1) no_batch

pub nothing_length : length nothing_noted ≡ 1024
unfolding nothing_noted
nothing_length = length-replicate 1024 no_batch
