-- Counts of kinds. Own.
use Rattle.std.specs.Prelude.{ℕ, ◌+◌, if◌then◌else◌}
use Rattle.gj_base.specs.declared.kind.Kind.{Kind}
use Rattle.gj_base.specs.declared.kind.Kind.TheVariants.{Click, Favorite, Retweet, Reply, Tweet}
use Rattle.gj_base.specs.declared.mask.Mask.{Mask}
use Rattle.gj_base.specs.Kinds.{has_kind}
use Rattle.gj_compact.specs.declared.counts.Counts.{Counts}

-- the count of a kind
abbrev pub kind_count : Counts → Kind → ℕ
kind_count counts Click = counts.click
kind_count counts Favorite = counts.favorite
kind_count counts Retweet = counts.retweet
kind_count counts Reply = counts.reply
kind_count counts Tweet = counts.tweet

-- the counts of the mask's kinds together
abbrev pub counted : Mask → Counts → ℕ
counted mask counts =
    (if has_kind mask Click then counts.click else 0)
    + (if has_kind mask Favorite then counts.favorite else 0)
    + (if has_kind mask Retweet then counts.retweet else 0)
    + (if has_kind mask Reply then counts.reply else 0)
    + (if has_kind mask Tweet then counts.tweet else 0)

-- no kind was counted
abbrev pub none_counted : Counts
none_counted = record { click = 0; favorite = 0; retweet = 0; reply = 0; tweet = 0 }
