-- What a run alone owes to its messages.
use Rattle.std.proofs.Common.{◌≡◌, ◌⊎◌, inl, inr, ℕ, ◌+◌, ◌-◌, ◌^◌, ◌<◌, ◌≤◌, ◌∙◌, Bool, true, false, List, [], ◌∷◌, length, Option, Result, Ok, Err, if◌then◌else◌, refl, ap, sym, subst, arith}
use Rattle.std.proofs.lemmas.Bool.{le-ltb}
use Rattle.gj_base.specs.Asks.{NotedBatch}
use Rattle.gj_base.specs.Causes.{RoseBy}
use Rattle.gj_base.specs.Configuration.{Configuration}
use Rattle.gj_base.specs.History.{end_of, length_of}
use Rattle.gj_base.specs.declared.ask.Ask.{Ask}
use Rattle.gj_base.specs.declared.ask.Ask.TheVariants as asks
use Rattle.gj_base.specs.declared.ask.Route.{Route}
use Rattle.gj_base.specs.declared.ask.Route.TheVariants as routes
use Rattle.gj_base.specs.declared.ask.Query.{Query}
use Rattle.gj_base.specs.declared.ask.Query.TheVariants as queries
use Rattle.gj_base.specs.declared.history.History.{History}
use Rattle.gj_base.specs.declared.history.Shown.{Shown}
use Rattle.gj_base.specs.declared.item.Item.{Item}
use Rattle.gj_base.specs.declared.item.Receipt.{Receipt}
use Rattle.gj_http.specs.Request.{Request}
use Rattle.gj_http.specs.Routes.{found_of}
use Rattle.gj_http.specs.declared.found.RouteError.{RouteError}
use Rattle.gj_once.specs.Judging.{judged}
use Rattle.gj_once.specs.declared.verdict.Verdict.{Verdict}
use Rattle.gj_once.specs.declared.verdict.Verdict.TheVariants as verdict
use Rattle.gj_reply.specs.Statuses.{status_of}
use Rattle.gj_reply.specs.declared.fixed.Fixed.{Fixed}
use Rattle.gj_reply.specs.declared.fixed.Fixed.TheVariants as fixed
use Rattle.gj_reply.specs.declared.reply.Reply.{Reply}
use Rattle.gj_reply.specs.declared.reply.Reply.TheVariants as replies
use Rattle.gj_reply.specs.declared.status.Status.TheVariants as statuses
use Rattle.gj_session.specs.Answers.{Answers, AnswersAsk, window_under}
use Rattle.gj_session.specs.Batches.{AnswersBatch}
use Rattle.gj_session.specs.Completeness.{HasPlace, IsDue, IsWithin, IsWhole, AnswersWhole}
use Rattle.gj_session.specs.Heard.{heard, lack_at, lack_by, lack_of}
use Rattle.gj_session.specs.IndexRuns.{one_if}
use Rattle.gj_session.specs.Marks.{Mark}
use Rattle.gj_session.specs.NotedBatches.{AnswersJudged, AnswersRepeat, AnswersWhere}
use Rattle.gj_session.specs.Outcomes.{IsReply, is_store}
use Rattle.gj_session.specs.Reference.{since_of, kind_reply, reply_of}
use Rattle.gj_session.specs.Runs.{Exchange, Leads, Run, stores_in}
use Rattle.gj_session.specs.declared.outcome.Outcome.{Outcome}
use Rattle.gj_session.specs.declared.outcome.Outcome.TheVariants.{Says, Stands}
use Rattle.gj_session.proofs.AnswerLemmas.{log_there}
use Rattle.gj_session.proofs.LackLemmas.{heard_batch}
use Rattle.gj_session.proofs.RunLemmas.{count_more}

answers_ask : (conf : Configuration) (seat : ℕ) (a b : Mark) (m : Request) (ask : Ask) (o : Outcome) → heard m ≡ Ok ask
    → Answers conf true seat a m o b → AnswersAsk conf true seat a (Ok ask) (lack_of m) o b
unfolding Answers
answers_ask conf seat a b m ask o e x = subst (λ (r : Result Ask Reply). AnswersAsk conf true seat a r (lack_of m) o b) e x

in_time : (query : Query) (w : Shown) → since_of query ≤ end_of w → reply_of query w ≡ kind_reply query w
unfolding reply_of
in_time query w low = ap (λ (t : Bool). if t then replies.Behind (end_of w) else kind_reply query w) (le-ltb (end_of w) (since_of query) low)

said_in_time : (query : Query) (w : Shown) (lack : Fixed) (o : Outcome) → since_of query ≤ end_of w → IsReply (reply_of query w) lack o
    → (o ≡ Says (kind_reply query w)) ⊎ (o ≡ Stands lack)
said_in_time query w lack o low (inl e) = inl (e ∙ ap Says (in_time query w low))
said_in_time query w lack o low (inr e) = inr e

pub whole_query : (conf : Configuration) (seat : ℕ) (a b : Mark) (m : Request) (query : Query) (o : Outcome) → heard m ≡ Ok (asks.Query query)
    → Answers conf true seat a m o b → since_of query ≤ end_of (window_under conf a.seen)
    → (o ≡ Says (kind_reply query (window_under conf a.seen))) ⊎ (o ≡ Stands (lack_of m))
whole_query conf seat a b m query o e x low =
    let answered = (answers_ask conf seat a b m (asks.Query query) o e x).0 in
    elim answered [
      | inl said ↦ said_in_time query (window_under conf a.seen) (lack_of m) o low
          (subst (λ (h : History). IsReply (reply_of query (window_under conf h)) (lack_of m) o) said.0.0 said.1)
      | inr none ↦ absurd none.0
    ]

of_batch : (seat : ℕ) (a : Mark) (batch : List Item) (o : Outcome) (b : Mark) → AnswersBatch true seat a batch fixed.NotAccepted o b
    → length_of a.seen + length batch ≤ 2 ^ 48 → is_store o ≡ false
    → (o ≡ Says (replies.Posted (length_of a.seen) (length_of b.seen))) ⊎ ((o ≡ Stands fixed.Accepted) ⊎ (o ≡ Stands fixed.NotAccepted))
of_batch seat a batch (Says (replies.Posted from n)) b x room kept = inl (λ i. Says (replies.Posted ((x.from_is ∙ ap length_of x.meets) i) (x.length_is i)))
of_batch seat a batch (Says (replies.Full n)) b x room kept = absurd (let at = x.at in let over = x.over in omega arith)
of_batch seat a batch (Says replies.Store) b x room kept = absurd cc
of_batch seat a batch (Says _) b x room kept = absurd x
of_batch seat a batch (Stands fixed.Accepted) b x room kept = inr (inl refl)
of_batch seat a batch (Stands fixed.NotAccepted) b x room kept = inr (inr refl)
of_batch seat a batch (Stands fixed.Memory) b x room kept = inr (inr (ap Stands x.0))
of_batch seat a batch (Stands fixed.NoLook) b x room kept = absurd x.0

pub whole_batch : (conf : Configuration) (seat : ℕ) (a b : Mark) (m : Request) (batch : List Item) (o : Outcome) → heard m ≡ Ok (asks.Items batch)
    → Answers conf true seat a m o b → length_of a.seen + length batch ≤ 2 ^ 48 → is_store o ≡ false
    → (o ≡ Says (replies.Posted (length_of a.seen) (length_of b.seen))) ⊎ ((o ≡ Stands fixed.Accepted) ⊎ (o ≡ Stands fixed.NotAccepted))
whole_batch conf seat a b m batch o e x room kept =
    let lack : lack_of m ≡ fixed.NotAccepted = heard_batch m batch e in
    of_batch seat a batch o b (subst (λ (f : Fixed). AnswersBatch true seat a batch f o b) lack (answers_ask conf seat a b m (asks.Items batch) o e x).0) room kept

pub kind_status : (query : Query) (w : Shown) → HasPlace query w → status_of (kind_reply query w) ≡ statuses.Ok
kind_status (queries.Walk ask) w has = refl
kind_status (queries.Sub ask) w has = refl
kind_status (queries.Sim ask) w has = refl
kind_status (queries.Count ask) w has = refl
kind_status (queries.User id) w has = refl
kind_status (queries.Post id) w has = refl
kind_status queries.Stats w has = refl
kind_status (queries.Log from) w has = ap status_of (log_there from w has.0 has.1)

pub no_stores : (before now : ℕ) (es : List Exchange) → RoseBy (stores_in es) before now → now ≡ before → before < 2 ^ 64 - 1 → stores_in es ≡ 0
no_stores before now es rose same low = omega (arith, rose, same, low)

whole_at : (route : Route) → IsWhole (Stands (lack_at route))
whole_at routes.Interactions = tt
whole_at _ = tt

whole_by : (found : Result (Route × Option (List ℕ)) RouteError) → IsWhole (Stands (lack_by found))
whole_by (Ok found) = whole_at found.0
whole_by (Err why) = tt

whole_lack : (m : Request) → IsWhole (Stands (lack_of m))
unfolding lack_of
whole_lack m = whole_by (found_of m.method m.path)

-- an answer to a batch for which there is room
whole_posted : (a b : Mark) (o : Outcome) → (o ≡ Says (replies.Posted (length_of a.seen) (length_of b.seen))) ⊎ ((o ≡ Stands fixed.Accepted) ⊎ (o ≡ Stands fixed.NotAccepted)) → IsWhole o
whole_posted a b o (inl said) = subst IsWhole (sym said) refl
whole_posted a b o (inr (inl entered)) = subst IsWhole (sym entered) tt
whole_posted a b o (inr (inr lack)) = subst IsWhole (sym lack) tt

-- to one that had entered
whole_repeat : (a : Mark) (receipt : Receipt) (o : Outcome) (b : Mark) → AnswersRepeat true a receipt o b → IsWhole o
whole_repeat a receipt (Says (replies.Repeated from to)) b x = refl
whole_repeat a receipt (Says _) b x = absurd x
whole_repeat a receipt (Stands fixed.NoLook) b x = absurd x.0
whole_repeat a receipt (Stands _) b x = absurd x

-- to a numbered batch that is due
whole_judged : (v : Verdict) (seat : ℕ) (a : Mark) (batch : NotedBatch) (o : Outcome) (b : Mark) → IsDue v a batch → is_store o ≡ false → AnswersJudged true seat a batch.items v o b → IsWhole o
whole_judged verdict.Fresh seat a batch o b due kept x = whole_posted a b o (of_batch seat a batch.items o b x due kept)
whole_judged (verdict.Repeat receipt) seat a batch o b due kept x = whole_repeat a receipt o b x
whole_judged (verdict.Old last) seat a batch o b due kept x = absurd due
whole_judged (verdict.Skipped last) seat a batch o b due kept x = absurd due

whole_noted : (seat : ℕ) (a : Mark) (batch : NotedBatch) (o : Outcome) (b : Mark) → IsDue (judged a.noted batch.producer batch.number) a batch → is_store o ≡ false
    → AnswersWhere a.noted true seat a batch o b → IsWhole o
whole_noted seat a batch o b due kept (inl (inl memory, moves)) = subst IsWhole (sym memory) tt
whole_noted seat a batch o b due kept (inl (inr lack, moves)) = subst IsWhole (sym lack) tt
whole_noted seat a batch o b due kept (inr x) = whole_judged (judged a.noted batch.producer batch.number) seat a batch o b due kept x

-- an answer to what is there, by what was heard
whole_heard : (conf : Configuration) (seat : ℕ) (a b : Mark) (m : Request) (o : Outcome) → Answers conf true seat a m o b → is_store o ≡ false
    → (asked : Result Ask Reply) → heard m ≡ asked → IsWithin conf a asked → IsWhole o
whole_heard conf seat a b m o x kept (Ok (asks.Query query)) e within = elim (whole_query conf seat a b m query o e x within.0) [
  | inl said ↦ subst IsWhole (sym said) (kind_status query (window_under conf a.seen) within.1)
  | inr lack ↦ subst IsWhole (sym lack) (whole_lack m)
]
whole_heard conf seat a b m o x kept (Ok (asks.Items batch)) e within = whole_posted a b o (whole_batch conf seat a b m batch o e x within kept)
whole_heard conf seat a b m o x kept (Ok (asks.Noted batch)) e within = whole_noted seat a batch o b within kept (answers_ask conf seat a b m (asks.Noted batch) o e x).0
whole_heard conf seat a b m o x kept (Err reply) e within = absurd within

-- no answer by the store's fault: neither the first nor a later one
not_first : (e : Exchange) (es : List Exchange) → stores_in (e ∷ es) ≡ 0 → is_store e.outcome ≡ false
not_first e es none = by_first (is_store e.outcome) refl
  where
    by_first : (b : Bool) → is_store e.outcome ≡ b → is_store e.outcome ≡ false
    by_first true is = absurd (let more = count_more (λ (x : Exchange). is_store x.outcome) e es in let one = ap one_if is in omega (arith, none, more, one))
    by_first false is = is

not_later : (e : Exchange) (es : List Exchange) → stores_in (e ∷ es) ≡ 0 → stores_in es ≡ 0
not_later e es none = let more = count_more (λ (x : Exchange). is_store x.outcome) e es in omega (arith, none, more)

pub whole_run : (conf : Configuration) (seat : ℕ) (a b : Mark) (es : List Exchange) → Run conf true seat a b es → stores_in es ≡ 0
    → Leads Mark (λ (x : Mark) (m : Request) (o : Outcome) (y : Mark). Answers conf true seat x m o y × AnswersWhole conf x m o) a b es
whole_run conf seat a b [] x none = x
whole_run conf seat a b (e ∷ es) x none =
    let kept = not_first e es none in
    (x.0, ((x.1.0, whole_heard conf seat a x.0 e.message e.outcome x.1.0 kept (heard e.message) refl), whole_run conf seat x.0 b es x.1.1 (not_later e es none)))
