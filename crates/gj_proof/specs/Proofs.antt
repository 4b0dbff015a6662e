-- Social proofs: the seed users that explain a post.
use Rattle.std.specs.Prelude.{ℕ, List, [], take, filter, fold}
use Rattle.std.specs.Ordering.{nat_cmp}
use Rattle.std.specs.BTreeSet.{insert_key}
use Rattle.gj_base.specs.declared.item.Item.{Item}
use Rattle.gj_base.specs.declared.mask.Mask.{Mask}
use Rattle.gj_base.specs.declared.side.Side.TheVariants.{Post}
use Rattle.gj_base.specs.Ends.{ends, leads_to}

-- the identifiers in ascending order, each once
abbrev pub ascending : List ℕ → List ℕ
ascending ids = fold (insert_key nat_cmp) [] ids

-- the first of the users that have an eligible interaction with the post
abbrev pub first_users : List Item → List ℕ → ℕ → Mask → ℕ → List ℕ
first_users items users post mask most = take most (filter (leads_to (ends items Post post mask)) users)

-- the social proof of a post: the first of the distinct seeds, ascending, that have an eligible interaction with it
unfoldable pub proof_of : List Item → List ℕ → ℕ → Mask → ℕ → List ℕ
proof_of items seeds post mask most = first_users items (ascending seeds) post mask most
