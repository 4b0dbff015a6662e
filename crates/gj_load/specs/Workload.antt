-- The interactions that are made from a number. Own: the generator and its parts; the generator's two numbers are those
-- of Knuth's MMIX.
use Rattle.std.specs.Prelude.{ℕ, zero, suc, ◌+◌, ◌*◌, ◌/◌, ◌%◌, ◌^◌, List, [], ◌∷◌, ◌++◌}
use Rattle.gj_base.specs.declared.item.Item.{Item}
use Rattle.gj_base.specs.declared.kind.Kind.{Kind}
use Rattle.gj_base.specs.declared.kind.Kind.TheVariants.{Click, Favorite, Retweet, Reply, Tweet}

-- the number after this one
unfoldable pub next_number : ℕ → ℕ
next_number x = (x * 6364136223846793005 + 1442695040888963407) % 2 ^ 64

-- the number after so many steps
unfoldable pub number_after : ℕ → ℕ → ℕ
number_after number zero = number
number_after number (suc steps) = next_number (number_after number steps)

-- the kind with this number
abbrev pub kind_at : ℕ → Kind
kind_at zero = Click
kind_at (suc zero) = Favorite
kind_at (suc (suc zero)) = Retweet
kind_at (suc (suc (suc zero))) = Reply
kind_at (suc (suc (suc (suc n)))) = Tweet

-- the interaction that is made of a number
unfoldable pub item_from : ℕ → Item
item_from x = record {
  user = x / 2 ^ 44 % 10000;
  post = x / 2 ^ 24 % 2 ^ 20 % 20000;
  kind = kind_at (x / 2 ^ 20 % 5);
  at = 0;
}

-- the interaction at a place of the workload
abbrev pub interaction : ℕ → ℕ → Item
interaction number place = item_from (number_after number (place + 1))

-- the first interactions of the workload
unfoldable pub items_from : ℕ → ℕ → List Item
items_from number zero = []
items_from number (suc count) = items_from number count ++ interaction number count ∷ []
