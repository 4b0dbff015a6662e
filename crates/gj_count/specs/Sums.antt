-- Sums over seeds that come in turns, counted from 1. Own: a seed adds to a sum once, however often it is met.
use Rattle.std.specs.Prelude.{◌≡◌, ℕ, ◌+◌, ◌*◌, ◌≤◌, ◌==◌, ◌&&◌, nat_le, nat_eq, Bool, if◌then◌else◌, List, fold, sum_by, count_by, unwrap_or, IsTrue}
use Rattle.std.specs.HashMap.{HashMap, get}
use Rattle.gj_base.specs.Asks.{Least}
use Rattle.gj_base.specs.Kinds.{same_kind}
use Rattle.gj_base.specs.Tally.{is_tally, number_at}
use Rattle.gj_base.specs.declared.kind.Kind.{Kind}
use Rattle.gj_base.specs.declared.kind.Kind.TheVariants.{Click, Favorite, Retweet, Reply, Tweet}
use Rattle.gj_base.specs.declared.item.Item.{Item}
use Rattle.gj_base.specs.declared.mask.Mask.{Mask}
use Rattle.gj_count.specs.Weights.{met, met_by}
use Rattle.gj_count.specs.declared.seed_sum.SeedSum.{SeedSum}
use Rattle.gj_count.specs.declared.post_sums.PostSums.{PostSums}

-- no seed has added
abbrev pub no_sum : SeedSum
no_sum = record { total = 0; last = 0 }

-- the sum after the seed of this turn added an amount, if it had not before
abbrev pub with_seed : SeedSum → ℕ → ℕ → SeedSum
with_seed s turn amount = if s.last == turn then s else record { total = s.total + amount; last = turn }

-- the seeds up to this turn have added, each at most a weight
pub record IsWithin (turn : ℕ) (s : SeedSum) : Type 0 where
  pub last : s.last ≤ turn
  pub total : s.total ≤ 1000000 * s.last

-- no seed has added
abbrev pub no_sums : PostSums
no_sums = record { weight = no_sum; click = no_sum; favorite = no_sum; retweet = no_sum; reply = no_sum; tweet = no_sum }

-- the sum of a kind after an end of a kind
abbrev pub kind_after : ℕ → Kind → SeedSum → Kind → SeedSum
kind_after turn of s kind = if same_kind of kind then with_seed s turn 1 else s

-- the sums of a post after an end of the seed of this turn, which has this weight
abbrev pub with_end : ℕ → ℕ → PostSums → Kind → PostSums
with_end turn weight s kind = record {
  weight = with_seed s.weight turn weight;
  click = kind_after turn Click s.click kind;
  favorite = kind_after turn Favorite s.favorite kind;
  retweet = kind_after turn Retweet s.retweet kind;
  reply = kind_after turn Reply s.reply kind;
  tweet = kind_after turn Tweet s.tweet kind;
}

-- the seeds up to this turn have added to each of the sums
pub record AreWithin (turn : ℕ) (s : PostSums) : Type 0 where
  pub weight : IsWithin turn s.weight
  pub click : IsWithin turn s.click
  pub favorite : IsWithin turn s.favorite
  pub retweet : IsWithin turn s.retweet
  pub reply : IsWithin turn s.reply
  pub tweet : IsWithin turn s.tweet

-- enough seeds have added, kind by kind
abbrev pub has_least : Least → PostSums → Bool
has_least least s =
    nat_le least.click s.click.total && (nat_le least.favorite s.favorite.total && (nat_le least.retweet s.retweet.total
    && (nat_le least.reply s.reply.total && nat_le least.tweet s.tweet.total)))

-- the sums of a post in a map
abbrev pub sums_at : {S : Type 0} → HashMap ℕ PostSums S → ℕ → PostSums
sums_at map post = unwrap_or (get nat_eq map post) no_sums

-- the sums of a post after the ends of the seed of this turn, which has this weight
abbrev pub with_ends : List (ℕ × Kind) → ℕ → ℕ → ℕ → PostSums → PostSums
with_ends ends turn weight post s = fold (λ t end. if end.0 == post then with_end turn weight t end.1 else t) s ends

-- the weight of a post that has these sums, 0 where the least support is wanting
abbrev pub weight_in : Least → PostSums → ℕ
weight_in least s = if has_least least s then s.weight.total else 0

-- the sum of a kind
abbrev pub kind_sum : PostSums → Kind → SeedSum
kind_sum s Click = s.click
kind_sum s Favorite = s.favorite
kind_sum s Retweet = s.retweet
kind_sum s Reply = s.reply
kind_sum s Tweet = s.tweet

-- the sums of a post are those of these seeds, which stand beside their weights in pairs
pub record AreSums (items : List Item) (mask : Mask) (seeds : List ℕ) (pairs : List (ℕ × ℕ)) (post : ℕ) (s : PostSums) : Type 0 where
  pub weight : s.weight.total ≡ sum_by (λ pair. if met items mask post pair.0 then pair.1 else 0) pairs
  pub kinds : (kind : Kind) → (kind_sum s kind).total ≡ count_by (met_by items mask post kind) seeds

-- the pairs are the weights of the posts that have these sums
pub record AreWeights (least : Least) (sums : ℕ → PostSums) (pairs : List (ℕ × ℕ)) : Type 0 where
  pub tally : IsTrue (is_tally pairs)
  pub numbers : (post : ℕ) → number_at pairs post ≡ weight_in least (sums post)
