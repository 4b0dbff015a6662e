-- What stands after the first posts of a list.
use Rattle.std.proofs.Common.{◌≡◌, ◌+◌, ◌++◌, ℕ, List, [], ◌∷◌, length, refl, ap, sym, subst, ◌∙◌, append-nil, append_assoc, arith, length-append, add-zero, Some, Result, slice_get}
use Rattle.std.proofs.lemmas.List.{map-append}
use Rattle.gj_base.specs.History.{entries_by, extend}
use Rattle.gj_base.specs.declared.history.History.{History}
use Rattle.gj_base.specs.declared.item.Entry.{Entry}
use Rattle.gj_base.specs.declared.item.Item.{Item}
use Rattle.gj_once.specs.declared.noted_index.Noted.{Noted}
use Rattle.gj_once.specs.declared.noted_index.OnceError.{OnceError}
use Rattle.gj_once.specs.declared.posting.Call.{Call}
use Rattle.gj_once.specs.declared.verdict.LastBatch.{LastBatch}
use Rattle.gj_once.specs.NotedPosts.{faults_noted}
use Rattle.gj_once.specs.PostLists.{AreAnswers, IsAnswer, Post, entered, entering, faults_answered, noted_after, noted_by, posts_of, told_of}
use Rattle.gj_once.proofs.PostLemmas.{extend_none}

-- the first posts of a list were answered so; at first this was noted and the history had that length, and now these
pub record Posted (lasts : List LastBatch) (before : ℕ) (calls : List Call) (answers : List (Result Noted OnceError)) (now : List LastBatch) (end : ℕ) (K L : History → Type 0) : Type 0 where
  pub exact : AreAnswers lasts before calls answers
  pub noted : now ≡ noted_after lasts (posts_of calls answers)
  pub end_is : end ≡ before + length (entered (posts_of calls answers))
  pub keeps : (h : History) (seat : ℕ) → K h → L (extend h (entries_by seat (entered (posts_of calls answers))))

-- no post
pub posted_none : (lasts : List LastBatch) (before : ℕ) (calls : List Call) (K : History → Type 0) → Posted lasts before calls [] lasts before K K
posted_none lasts before calls K = record { exact = tt; noted = refl; end_is = sym (add-zero before); keeps = λ h seat kept. subst K (sym (extend_none h)) kept }

-- one post more
posts_more : (calls : List Call) (answers : List (Result Noted OnceError)) (call : Call) (answer : Result Noted OnceError) → slice_get calls (length answers) ≡ Some call
    → posts_of calls (answers ++ answer ∷ []) ≡ posts_of calls answers ++ (record { call = call; told = told_of answer }) ∷ []
posts_more [] answers call answer at = absurd (cc)
posts_more (first ∷ calls) [] call answer at =
    let same : first ≡ call = cc in
    ap (λ (c : Call). let post : Post = record { call = c; told = told_of answer } in post ∷ []) same
posts_more (first ∷ calls) (one ∷ answers) call answer at =
    ap (λ (ps : List Post). let post : Post = record { call = first; told = told_of one } in post ∷ ps) (posts_more calls answers call answer at)

entered_more : (posts : List Post) (post : Post) → entered (posts ++ post ∷ []) ≡ entered posts ++ entering post.call post.told
entered_more [] post = append-nil (entering post.call post.told)
entered_more (first ∷ posts) post =
    ap (λ xs. entering first.call first.told ++ xs) (entered_more posts post) ∙ sym (append_assoc (entering first.call first.told) (entered posts) (entering post.call post.told))

pub noted_more : (lasts : List LastBatch) (posts : List Post) (post : Post) → noted_after lasts (posts ++ post ∷ []) ≡ noted_by (noted_after lasts posts) post.call post.told
noted_more lasts [] post = refl
noted_more lasts (first ∷ posts) post = noted_more (noted_by lasts first.call first.told) posts post

pub faults_more : (count : ℕ) (answers : List (Result Noted OnceError)) (answer : Result Noted OnceError)
    → faults_answered count (answers ++ answer ∷ []) ≡ faults_noted (faults_answered count answers) answer
faults_more count [] answer = refl
faults_more count (one ∷ answers) answer = faults_more (faults_noted count one) answers answer

answers_more : (lasts : List LastBatch) (before : ℕ) (calls : List Call) (answers : List (Result Noted OnceError)) (call : Call) (answer : Result Noted OnceError)
    → slice_get calls (length answers) ≡ Some call → AreAnswers lasts before calls answers
    → IsAnswer (noted_after lasts (posts_of calls answers)) (before + length (entered (posts_of calls answers))) call answer → AreAnswers lasts before calls (answers ++ answer ∷ [])
answers_more lasts before [] answers call answer at are is = absurd (cc)
answers_more lasts before (first ∷ calls) [] call answer at are is =
    let same : call ≡ first = cc in
    let P : ℕ → Type 0 = λ n. IsAnswer lasts n call answer in
    let Q : Call → Type 0 = λ c. IsAnswer lasts before c answer in
    (subst Q same (subst P (add-zero before) is), tt)
answers_more lasts before (first ∷ calls) (one ∷ answers) call answer at are is =
    let told = told_of one in
    let rest = entered (posts_of calls answers) in
    let all : length (entering first told ++ rest) ≡ length (entering first told) + length rest = length-append (entering first told) rest in
    let e : before + length (entering first told ++ rest) ≡ (before + length (entering first told)) + length rest = omega arith in
    let P : ℕ → Type 0 = λ n. IsAnswer (noted_after (noted_by lasts first told) (posts_of calls answers)) n call answer in
    (are.0, answers_more (noted_by lasts first told) (before + length (entering first told)) calls answers call answer at are.1 (subst P e is))

-- two batches of one seat are one batch
extend_twice : (h : History) (seat : ℕ) (xs ys : List Item) → extend (extend h (entries_by seat xs)) (entries_by seat ys) ≡ extend h (entries_by seat (xs ++ ys))
extend_twice h seat xs ys =
    let e : (h.entries ++ entries_by seat xs) ++ entries_by seat ys ≡ h.entries ++ entries_by seat (xs ++ ys) =
    append_assoc h.entries (entries_by seat xs) (entries_by seat ys) ∙ ap (λ es. h.entries ++ es) (sym (map-append _ xs ys)) in
    ap (λ (es : List Entry). let k : History = record { first = h.first; entries = es } in k) e

pub posted_more : (lasts : List LastBatch) (before : ℕ) (calls : List Call) (answers : List (Result Noted OnceError)) (now next : List LastBatch) (end last : ℕ) (K L M : History → Type 0)
    (call : Call) (answer : Result Noted OnceError) (all : List (Result Noted OnceError)) → Posted lasts before calls answers now end K L
    → all ≡ answers ++ answer ∷ [] → slice_get calls (length answers) ≡ Some call
    → IsAnswer now end call answer → next ≡ noted_by now call (told_of answer) → last ≡ end + length (entering call (told_of answer))
    → ((h : History) (seat : ℕ) → L h → M (extend h (entries_by seat (entering call (told_of answer)))))
    → Posted lasts before calls all next last K M
posted_more lasts before calls answers now next end last K L M call answer all done pushed at is noted end_is keeps =
    let post : Post = record { call = call; told = told_of answer } in
    let more : posts_of calls all ≡ posts_of calls answers ++ post ∷ [] =
    ap (λ xs. posts_of calls xs) pushed ∙ posts_more calls answers call answer at in
    let items : entered (posts_of calls all) ≡ entered (posts_of calls answers) ++ entering call (told_of answer) =
    ap entered more ∙ entered_more (posts_of calls answers) post in
    let Is : List LastBatch → Type 0 = λ l. IsAnswer l end call answer in
    let At : ℕ → Type 0 = λ n. IsAnswer (noted_after lasts (posts_of calls answers)) n call answer in
    let Are : List (Result Noted OnceError) → Type 0 = λ xs. AreAnswers lasts before calls xs in
    record {
      exact = subst Are (sym pushed) (answers_more lasts before calls answers call answer at done.exact (subst At done.end_is (subst Is done.noted is)));
      noted = noted ∙ (ap (λ l. noted_by l call (told_of answer)) done.noted ∙ (sym (noted_more lasts (posts_of calls answers) post) ∙ ap (λ ps. noted_after lasts ps) (sym more)));
      end_is =
          let long : length (entered (posts_of calls all)) ≡ length (entered (posts_of calls answers)) + length (entering call (told_of answer)) =
          ap length items ∙ length-append (entered (posts_of calls answers)) (entering call (told_of answer)) in
          let was = done.end_is in
          omega arith;
      keeps = λ h seat kept.
          let P : List Item → Type 0 = λ xs. M (extend h (entries_by seat xs)) in
          subst P (sym items) (subst M (extend_twice h seat (entered (posts_of calls answers)) (entering call (told_of answer))) (keeps _ seat (done.keeps h seat kept)));
    }
