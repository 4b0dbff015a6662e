-- What an answer to a post tells of the writer is what the post told.
use Rattle.std.proofs.Common.{◌≡◌, ℕ, ◌∙◌, sym, Result, Ok, Err, IfErr}
use Rattle.gj_base.specs.declared.item.Receipt.{Receipt}
use Rattle.gj_once.specs.declared.noted_index.Noted.{Noted}
use Rattle.gj_once.specs.declared.noted_index.Noted.TheVariants.{New, Repeated}
use Rattle.gj_publish.specs.declared.refusal.NotedError.{NotedError}
use Rattle.gj_publish.specs.declared.refusal.NotedError.TheVariants as noted
use Rattle.gj_publish.specs.declared.refusal.PostError.{PostError}
use Rattle.gj_publish.specs.declared.refusal.PostError.TheVariants as posts
use Rattle.gj_reply.specs.declared.reply.Reply.TheVariants as replies
use Rattle.gj_session.specs.declared.outcome.Outcome.TheVariants.{Says}
use Rattle.gj_session.specs.SeatReplies.{outcome_of, outcome_of_noted, outcome_of_refusal}

full_refused : (P : PostError → Type 0) (h : ℕ) (why : PostError) → P why → ((n : ℕ) → P (posts.Full n) → n ≡ h) → (n : ℕ) → outcome_of_refusal why ≡ Says (replies.Full n) → n ≡ h
full_refused P h posts.Memory p is n e = absurd (cc)
full_refused P h (posts.KeptUnseen receipt) p is n e = absurd (cc)
full_refused P h posts.Store p is n e = absurd (cc)
full_refused P h (posts.Full m) p is n e = (let same : m ≡ n = cc in sym same ∙ is m p)
full_refused P h (posts.NoLook why) p is n e = absurd (cc)
full_refused P h (posts.Apart seen shown posted counted) p is n e = absurd (cc)

apart_refused : (P : PostError → Type 0) (s k : ℕ) (why : PostError) → P why → ((a b c d : ℕ) → P (posts.Apart a b c d) → (b ≡ s) × (d ≡ k))
    → (a b c d : ℕ) → outcome_of_refusal why ≡ Says (replies.Apart a b c d) → (b ≡ s) × (d ≡ k)
apart_refused P s k posts.Memory p is a b c d e = absurd (cc)
apart_refused P s k (posts.KeptUnseen receipt) p is a b c d e = absurd (cc)
apart_refused P s k posts.Store p is a b c d e = absurd (cc)
apart_refused P s k (posts.Full m) p is a b c d e = absurd (cc)
apart_refused P s k (posts.NoLook why) p is a b c d e = absurd (cc)
apart_refused P s k (posts.Apart seen shown posted counted) p is a b c d e =
    let shows : shown ≡ b = cc in
    let counts : counted ≡ d = cc in
    let both = is seen shown posted counted p in
    (sym shows ∙ both.0, sym counts ∙ both.1)

pub told_full : (P : PostError → Type 0) (h : ℕ) (result : Result Receipt PostError) → IfErr result P → ((n : ℕ) → P (posts.Full n) → n ≡ h) → (n : ℕ) → outcome_of result ≡ Says (replies.Full n) → n ≡ h
told_full P h (Ok receipt) p is n e = absurd (cc)
told_full P h (Err why) p is n e = full_refused P h why p is n e

pub told_apart : (P : PostError → Type 0) (s k : ℕ) (result : Result Receipt PostError) → IfErr result P → ((a b c d : ℕ) → P (posts.Apart a b c d) → (b ≡ s) × (d ≡ k))
    → (a b c d : ℕ) → outcome_of result ≡ Says (replies.Apart a b c d) → (b ≡ s) × (d ≡ k)
told_apart P s k (Ok receipt) p is a b c d e = absurd (cc)
told_apart P s k (Err why) p is a b c d e = apart_refused P s k why p is a b c d e

pub told_full_noted : (P : NotedError → Type 0) (h : ℕ) (result : Result Noted NotedError) → IfErr result P → ((n : ℕ) → P (noted.Post (posts.Full n)) → n ≡ h)
    → (n : ℕ) → outcome_of_noted result ≡ Says (replies.Full n) → n ≡ h
told_full_noted P h (Ok (New receipt)) p is n e = absurd (cc)
told_full_noted P h (Ok (Repeated receipt)) p is n e = absurd (cc)
told_full_noted P h (Err (noted.Post why)) p is n e = full_refused (λ w. P (noted.Post w)) h why p is n e
told_full_noted P h (Err (noted.RepeatUnseen receipt)) p is n e = absurd (cc)
told_full_noted P h (Err (noted.Old last)) p is n e = absurd (cc)
told_full_noted P h (Err (noted.Skipped last)) p is n e = absurd (cc)

pub told_apart_noted : (P : NotedError → Type 0) (s k : ℕ) (result : Result Noted NotedError) → IfErr result P → ((a b c d : ℕ) → P (noted.Post (posts.Apart a b c d)) → (b ≡ s) × (d ≡ k))
    → (a b c d : ℕ) → outcome_of_noted result ≡ Says (replies.Apart a b c d) → (b ≡ s) × (d ≡ k)
told_apart_noted P s k (Ok (New receipt)) p is a b c d e = absurd (cc)
told_apart_noted P s k (Ok (Repeated receipt)) p is a b c d e = absurd (cc)
told_apart_noted P s k (Err (noted.Post why)) p is a b c d e = apart_refused (λ w. P (noted.Post w)) s k why p is a b c d e
told_apart_noted P s k (Err (noted.RepeatUnseen receipt)) p is a b c d e = absurd (cc)
told_apart_noted P s k (Err (noted.Old last)) p is a b c d e = absurd (cc)
told_apart_noted P s k (Err (noted.Skipped last)) p is a b c d e = absurd (cc)
