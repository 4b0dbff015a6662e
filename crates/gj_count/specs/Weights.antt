-- Second degree by count: the posts that seed users interacted with, by the weights of these seeds. After GraphJet's
-- recommendation by counted second-degree interactions (PVLDB 9(13), 2016). Own: weights, and the least support by kind.
use Rattle.std.specs.Prelude.{ℕ, ◌==◌, ◌&&◌, nat_le, Bool, if◌then◌else◌, List, [], map, fold, zip, sum_by, count_by}
use Rattle.std.specs.List.{list_any}
use Rattle.gj_base.specs.Asks.{CountQuery, Least}
use Rattle.gj_base.specs.Ends.{ends}
use Rattle.gj_base.specs.Kinds.{same_kind}
use Rattle.gj_base.specs.Tally.{with_number}
use Rattle.gj_base.specs.declared.item.Item.{Item}
use Rattle.gj_base.specs.declared.kind.Kind.{Kind}
use Rattle.gj_base.specs.declared.kind.Kind.TheVariants.{Click, Favorite, Retweet, Reply, Tweet}
use Rattle.gj_base.specs.declared.mask.Mask.{Mask}
use Rattle.gj_base.specs.declared.side.Side.TheVariants.{User}

-- the user has an eligible interaction with the post
abbrev pub met : List Item → Mask → ℕ → ℕ → Bool
met items mask post user = list_any (λ end. end.0 == post) (ends items User user mask)

-- the user has an eligible interaction of this kind with the post
abbrev pub met_by : List Item → Mask → ℕ → Kind → ℕ → Bool
met_by items mask post kind user = list_any (λ end. (end.0 == post) && same_kind kind end.1) (ends items User user mask)

-- how many seeds have an eligible interaction of this kind with the post: a seed counts once
abbrev pub support : List Item → CountQuery → ℕ → Kind → ℕ
support items ask post kind = count_by (met_by items ask.mask post kind) ask.seeds

-- how many have to
abbrev pub least_of : Least → Kind → ℕ
least_of least Click = least.click
least_of least Favorite = least.favorite
least_of least Retweet = least.retweet
least_of least Reply = least.reply
least_of least Tweet = least.tweet

-- enough seeds have an eligible interaction of this kind with the post
abbrev pub suffices : List Item → CountQuery → ℕ → Kind → Bool
suffices items ask post kind = nat_le (least_of ask.least kind) (support items ask post kind)

-- the same of each kind
unfoldable pub is_supported : List Item → CountQuery → ℕ → Bool
is_supported items ask post =
    suffices items ask post Click && (suffices items ask post Favorite && (suffices items ask post Retweet
    && (suffices items ask post Reply && suffices items ask post Tweet)))

-- the sum of the weights of the seeds that have an eligible interaction with the post
unfoldable pub weight_of : List Item → CountQuery → ℕ → ℕ
weight_of items ask post = sum_by (λ pair. if met items ask.mask post pair.0 then pair.1 else 0) (zip ask.seeds ask.weights)

-- the pairs, with the weight of a post that has the least support and any weight
abbrev pub with_weight : List Item → CountQuery → List (ℕ × ℕ) → ℕ → List (ℕ × ℕ)
with_weight items ask pairs post =
    if is_supported items ask post && nat_le 1 (weight_of items ask post) then with_number pairs post (weight_of items ask post) else pairs

-- the weights of the posts of a window
unfoldable pub weights_of : List Item → CountQuery → List (ℕ × ℕ)
weights_of items ask = fold (with_weight items ask) [] (map (λ x. x.post) items)
