-- What stands after the first calls of a list on one writer, and that they take each numbered batch once.
use Rattle.std.proofs.Common.{◌≡◌, ◌+◌, ◌^◌, ◌<◌, ◌++◌, ℕ, List, [], ◌∷◌, length, refl, ap, sym, subst, ◌∙◌, append-nil, append_assoc, arith, length-append, add-zero, Result, Ok, Err, IfErr}
use Rattle.std.proofs.lemmas.List.{map-append, length-map}
use Rattle.gj_base.proofs.Windows.{items_back}
use Rattle.gj_base.specs.History.{extend, items_of, length_of}
use Rattle.gj_base.specs.declared.history.History.{History}
use Rattle.gj_base.specs.declared.item.Entry.{Entry}
use Rattle.gj_base.specs.declared.item.Item.{Item}
use Rattle.gj_base.specs.declared.item.Receipt.{Receipt}
use Rattle.gj_once.specs.declared.noted_index.Noted.{Noted}
use Rattle.gj_once.specs.declared.noted_index.Noted.TheVariants.{New, Repeated}
use Rattle.gj_once.specs.declared.posting.Call.{Call}
use Rattle.gj_once.specs.declared.posting.Call.TheVariants as asked
use Rattle.gj_once.specs.declared.verdict.LastBatch.{LastBatch}
use Rattle.gj_once.specs.declared.verdict.Verdict.{Verdict}
use Rattle.gj_once.specs.declared.verdict.Verdict.TheVariants as verdict
use Rattle.gj_once.specs.Judging.{nothing_noted}
use Rattle.gj_once.specs.PostLists.{OnceOnly, Post, entering, noted_after, noted_by, entered as items_entered}
use Rattle.gj_once.proofs.OnceLemmas.{AreSo, IsSo, once_only}
use Rattle.gj_once.proofs.PostingLemmas.{noted_more}
use Rattle.gj_publish.specs.declared.refusal.NotedError.{NotedError}
use Rattle.gj_publish.specs.declared.refusal.NotedError.TheVariants as refused
use Rattle.gj_publish.specs.declared.refusal.PostError.{PostError}
use Rattle.gj_publish.specs.declared.refusal.PostError.TheVariants.{Memory, KeptUnseen, Store, Full, NoLook, Apart}
use Rattle.gj_publish.specs.declared.writer.lists.SeatCall.{SeatCall}
use Rattle.gj_publish.specs.NotedAnswers.{Answers, faults_noted}
use Rattle.gj_publish.specs.SeatCalls.{AreAnswers, FullOf, FullWhere, IsAnswer, entered, entries_in, faults_answered, posts_of, told_of}
use Rattle.gj_publish.proofs.Histories.{extend_nil}

-- the calls were answered so; at first this was noted and that was accepted, and now these
pub record Called (numbers : List ℕ) (lasts : List LastBatch) (h : History) (calls : List SeatCall) (answers : List (Result Noted NotedError)) (now : List LastBatch) (g : History) : Type 0 where
  pub each : length calls ≡ length answers
  pub exact : AreAnswers lasts (length_of h) calls answers
  pub noted : now ≡ noted_after lasts (posts_of calls answers)
  pub accepted : g ≡ extend h (entered numbers calls answers)

-- no call
pub called_none : (numbers : List ℕ) (lasts : List LastBatch) (h : History) → Called numbers lasts h [] [] lasts h
called_none numbers lasts h = record { each = refl; exact = tt; noted = refl; accepted = sym (extend_nil h) }

-- one call more
posts_more : (calls : List SeatCall) (answers : List (Result Noted NotedError)) (made : SeatCall) (answer : Result Noted NotedError) → length calls ≡ length answers
    → posts_of (calls ++ made ∷ []) (answers ++ answer ∷ []) ≡ posts_of calls answers ++ (record { call = made.call; told = told_of answer }) ∷ []
posts_more [] [] made answer each = refl
posts_more [] (one ∷ answers) made answer each = absurd (cc)
posts_more (first ∷ calls) [] made answer each = absurd (cc)
posts_more (first ∷ calls) (one ∷ answers) made answer each =
    ap (λ (ps : List Post). let post : Post = record { call = first.call; told = told_of one } in post ∷ ps) (posts_more calls answers made answer (omega (arith, each)))

entered_more : (numbers : List ℕ) (calls : List SeatCall) (answers : List (Result Noted NotedError)) (made : SeatCall) (answer : Result Noted NotedError) → length calls ≡ length answers
    → entered numbers (calls ++ made ∷ []) (answers ++ answer ∷ []) ≡ entered numbers calls answers ++ entries_in numbers made answer
entered_more numbers [] [] made answer each = append-nil (entries_in numbers made answer)
entered_more numbers [] (one ∷ answers) made answer each = absurd (cc)
entered_more numbers (first ∷ calls) [] made answer each = absurd (cc)
entered_more numbers (first ∷ calls) (one ∷ answers) made answer each =
    ap (λ es. entries_in numbers first one ++ es) (entered_more numbers calls answers made answer (omega (arith, each)))
    ∙ sym (append_assoc (entries_in numbers first one) (entered numbers calls answers) (entries_in numbers made answer))

answers_more : (lasts : List LastBatch) (before : ℕ) (calls : List SeatCall) (answers : List (Result Noted NotedError)) (made : SeatCall) (answer : Result Noted NotedError) → length calls ≡ length answers
    → AreAnswers lasts before calls answers
    → IsAnswer (noted_after lasts (posts_of calls answers)) (before + length (items_entered (posts_of calls answers))) made.call answer
    → AreAnswers lasts before (calls ++ made ∷ []) (answers ++ answer ∷ [])
answers_more lasts before [] [] made answer each are is =
    let P : ℕ → Type 0 = λ n. IsAnswer lasts n made.call answer in
    (subst P (add-zero before) is, tt)
answers_more lasts before [] (one ∷ answers) made answer each are is = absurd (cc)
answers_more lasts before (first ∷ calls) [] made answer each are is = absurd (cc)
answers_more lasts before (first ∷ calls) (one ∷ answers) made answer each are is =
    let brought = entering first.call (told_of one) in
    let rest = items_entered (posts_of calls answers) in
    let all : length (brought ++ rest) ≡ length brought + length rest = length-append brought rest in
    let e : before + length (brought ++ rest) ≡ (before + length brought) + length rest = omega arith in
    let P : ℕ → Type 0 = λ n. IsAnswer (noted_after (noted_by lasts first.call (told_of one)) (posts_of calls answers)) n made.call answer in
    (are.0, answers_more (noted_by lasts first.call (told_of one)) (before + length brought) calls answers made answer (omega (arith, each)) are.1 (subst P e is))

-- the entries are those of the items that entered
pub items_are : (numbers : List ℕ) (calls : List SeatCall) (answers : List (Result Noted NotedError)) → items_of (entered numbers calls answers) ≡ items_entered (posts_of calls answers)
items_are numbers calls [] = refl
items_are numbers [] (one ∷ answers) = refl
items_are numbers (first ∷ calls) (one ∷ answers) =
    let brought = entering first.call (told_of one) in
    map-append _ (entries_in numbers first one) (entered numbers calls answers)
    ∙ (ap (λ xs. xs ++ items_of (entered numbers calls answers)) (items_back _ brought) ∙ ap (λ xs. brought ++ xs) (items_are numbers calls answers))

length_entered : (numbers : List ℕ) (calls : List SeatCall) (answers : List (Result Noted NotedError)) (h : History)
    → length_of (extend h (entered numbers calls answers)) ≡ length_of h + length (items_entered (posts_of calls answers))
length_entered numbers calls answers h =
    let es = entered numbers calls answers in
    let all = length-append h.entries es in
    let long : length (items_of es) ≡ length es = length-map es _ in
    let same = ap length (items_are numbers calls answers) in
    omega arith

-- what is brought in by one list and then by another
extend_both : (h : History) (es fs : List Entry) → extend (extend h es) fs ≡ extend h (es ++ fs)
extend_both h es fs = ap (λ (all : List Entry). let k : History = record { first = h.first; entries = all } in k) (append_assoc h.entries es fs)

pub called_more : (numbers : List ℕ) (lasts : List LastBatch) (h : History) (calls more : List SeatCall) (answers all : List (Result Noted NotedError)) (now next : List LastBatch) (g k : History)
    (made : SeatCall) (answer : Result Noted NotedError) → Called numbers lasts h calls answers now g → more ≡ calls ++ made ∷ [] → all ≡ answers ++ answer ∷ []
    → IsAnswer now (length_of g) made.call answer → next ≡ noted_by now made.call (told_of answer) → k ≡ extend g (entries_in numbers made answer)
    → Called numbers lasts h more all next k
called_more numbers lasts h calls more answers all now next g k made answer done called pushed is noted brings =
    let post : Post = record { call = made.call; told = told_of answer } in
    let both : posts_of more all ≡ posts_of calls answers ++ post ∷ [] =
    (λ i. posts_of (called i) (pushed i)) ∙ posts_more calls answers made answer done.each in
    let entries : entered numbers more all ≡ entered numbers calls answers ++ entries_in numbers made answer =
    (λ i. entered numbers (called i) (pushed i)) ∙ entered_more numbers calls answers made answer done.each in
    let end : length_of g ≡ length_of h + length (items_entered (posts_of calls answers)) = ap length_of done.accepted ∙ length_entered numbers calls answers h in
    let Is : List LastBatch → Type 0 = λ l. IsAnswer l (length_of g) made.call answer in
    let At : ℕ → Type 0 = λ n. IsAnswer (noted_after lasts (posts_of calls answers)) n made.call answer in
    let Are : List SeatCall × List (Result Noted NotedError) → Type 0 = λ z. AreAnswers lasts (length_of h) z.0 z.1 in
    record {
      each =
          let a : length more ≡ length (calls ++ made ∷ []) = ap length called in
          let b : length all ≡ length (answers ++ answer ∷ []) = ap length pushed in
          let c = length-append calls (made ∷ []) in
          let d = length-append answers (answer ∷ []) in
          omega (arith, done.each);
      exact = subst Are (λ i. (sym called i, sym pushed i)) (answers_more lasts (length_of h) calls answers made answer done.each done.exact (subst At end (subst Is done.noted is)));
      noted = noted ∙ (ap (λ l. noted_by l made.call (told_of answer)) done.noted ∙ (sym (noted_more lasts (posts_of calls answers) post) ∙ ap (λ ps. noted_after lasts ps) (sym both)));
      accepted =
          brings ∙ (ap (λ (f : History). extend f (entries_in numbers made answer)) done.accepted
          ∙ (extend_both h (entered numbers calls answers) (entries_in numbers made answer) ∙ ap (λ es. extend h es) (sym entries)));
    }

pub faults_more : (count : ℕ) (answers : List (Result Noted NotedError)) (answer : Result Noted NotedError)
    → faults_answered count (answers ++ answer ∷ []) ≡ faults_noted (faults_answered count answers) answer
faults_more count [] answer = refl
faults_more count (one ∷ answers) answer = faults_more (faults_noted count one) answers answer

-- a full history is told where there is no room
pub full_of : (before : ℕ) (items : List Item) (error : PostError) → ((n : ℕ) → error ≡ Full n → (n ≡ before) × (2 ^ 48 < before + length items)) → FullOf before items error
full_of before items Memory told = tt
full_of before items (KeptUnseen r) told = tt
full_of before items Store told = tt
full_of before items (Full n) told = told n refl
full_of before items (NoLook why) told = tt
full_of before items (Apart seen shown posted counted) told = tt

pub full_where : (before : ℕ) (items : List Item) (answer : Result Noted NotedError)
    → IfErr answer (λ error. (n : ℕ) → error ≡ refused.Post (Full n) → (n ≡ before) × (2 ^ 48 < before + length items)) → FullWhere before items answer
full_where before items (Ok noted) told = tt
full_where before items (Err (refused.Post error)) told = full_of before items error (λ n e. told n (ap refused.Post e))
full_where before items (Err (refused.RepeatUnseen r)) told = tt
full_where before items (Err (refused.Old last)) told = tt
full_where before items (Err (refused.Skipped last)) told = tt

-- what an answer says of the verdict
new_verdict : (v : Verdict) (r : Receipt) → Answers v (Ok (New r)) → v ≡ verdict.Fresh
new_verdict verdict.Fresh r a = refl
new_verdict (verdict.Repeat q) r a = absurd a
new_verdict (verdict.Old last) r a = absurd (cc)
new_verdict (verdict.Skipped last) r a = absurd (cc)

kept_verdict : (v : Verdict) (r : Receipt) → Answers v (Err (refused.Post (KeptUnseen r))) → v ≡ verdict.Fresh
kept_verdict verdict.Fresh r a = refl
kept_verdict (verdict.Repeat q) r a = absurd a
kept_verdict (verdict.Old last) r a = absurd (cc)
kept_verdict (verdict.Skipped last) r a = absurd (cc)

repeated_verdict : (v : Verdict) (r : Receipt) → Answers v (Ok (Repeated r)) → v ≡ verdict.Repeat r
repeated_verdict verdict.Fresh r a = absurd a
repeated_verdict (verdict.Repeat q) r a = ap verdict.Repeat (sym a)
repeated_verdict (verdict.Old last) r a = absurd (cc)
repeated_verdict (verdict.Skipped last) r a = absurd (cc)

unseen_verdict : (v : Verdict) (r : Receipt) → Answers v (Err (refused.RepeatUnseen r)) → v ≡ verdict.Repeat r
unseen_verdict verdict.Fresh r a = absurd a
unseen_verdict (verdict.Repeat q) r a = ap verdict.Repeat (sym a)
unseen_verdict (verdict.Old last) r a = absurd (cc)
unseen_verdict (verdict.Skipped last) r a = absurd (cc)

-- what a writer answers is so
is_so : (lasts : List LastBatch) (before : ℕ) (call : Call) (answer : Result Noted NotedError) → IsAnswer lasts before call answer → IsSo lasts before call (told_of answer)
is_so lasts before (asked.Plain items) (Ok (New r)) is = is.1
is_so lasts before (asked.Plain items) (Ok (Repeated r)) is = is.0
is_so lasts before (asked.Plain items) (Err (refused.Post Memory)) is = tt
is_so lasts before (asked.Plain items) (Err (refused.Post (KeptUnseen r))) is = is.1
is_so lasts before (asked.Plain items) (Err (refused.Post Store)) is = tt
is_so lasts before (asked.Plain items) (Err (refused.Post (Full length))) is = tt
is_so lasts before (asked.Plain items) (Err (refused.Post (NoLook error))) is = tt
is_so lasts before (asked.Plain items) (Err (refused.Post (Apart seen shown posted counted))) is = tt
is_so lasts before (asked.Plain items) (Err (refused.RepeatUnseen r)) is = is.0
is_so lasts before (asked.Plain items) (Err (refused.Old last)) is = tt
is_so lasts before (asked.Plain items) (Err (refused.Skipped last)) is = tt
is_so lasts before (asked.Noted batch) (Ok (New r)) is = (is.0, new_verdict _ r is.1, is.2)
is_so lasts before (asked.Noted batch) (Ok (Repeated r)) is = (is.0, repeated_verdict _ r is.1)
is_so lasts before (asked.Noted batch) (Err (refused.Post Memory)) is = tt
is_so lasts before (asked.Noted batch) (Err (refused.Post (KeptUnseen r))) is = (is.0, kept_verdict _ r is.1, is.2)
is_so lasts before (asked.Noted batch) (Err (refused.Post Store)) is = tt
is_so lasts before (asked.Noted batch) (Err (refused.Post (Full length))) is = tt
is_so lasts before (asked.Noted batch) (Err (refused.Post (NoLook error))) is = tt
is_so lasts before (asked.Noted batch) (Err (refused.Post (Apart seen shown posted counted))) is = tt
is_so lasts before (asked.Noted batch) (Err (refused.RepeatUnseen r)) is = (is.0, unseen_verdict _ r is.1)
is_so lasts before (asked.Noted batch) (Err (refused.Old last)) is = tt
is_so lasts before (asked.Noted batch) (Err (refused.Skipped last)) is = tt

are_so : (lasts : List LastBatch) (before : ℕ) (calls : List SeatCall) (answers : List (Result Noted NotedError)) → AreAnswers lasts before calls answers
    → AreSo lasts before (posts_of calls answers)
are_so lasts before calls [] are = tt
are_so lasts before [] (answer ∷ answers) are = tt
are_so lasts before (made ∷ calls) (answer ∷ answers) are =
    (is_so lasts before made.call answer are.0, are_so (noted_by lasts made.call (told_of answer)) (before + length (entering made.call (told_of answer))) calls answers are.1)

-- from an opening on, each numbered batch is taken once
pub called_once : (numbers : List ℕ) (lasts : List LastBatch) (h : History) (calls : List SeatCall) (answers : List (Result Noted NotedError)) (now : List LastBatch) (g : History)
    → lasts ≡ nothing_noted → Called numbers lasts h calls answers now g → OnceOnly (posts_of calls answers) g
called_once numbers lasts h calls answers now g nothing done =
    let P : List LastBatch → Type 0 = λ l. AreAnswers l (length_of h) calls answers in
    let Q : History → Type 0 = λ f. OnceOnly (posts_of calls answers) f in
    subst Q (sym done.accepted) (once_only (posts_of calls answers) h (entered numbers calls answers) (items_are numbers calls answers)
    (are_so nothing_noted (length_of h) calls answers (subst P nothing done.exact)))
