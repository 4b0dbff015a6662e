-- Cutting: one way only, and a beginning is cut into a beginning.
use Rattle.std.proofs.Common.{◌≡◌, ℕ, List, [], ◌∷◌, ◌++◌, length, take, drop, Option, Some, None, Result, Ok, Err, refl, sym, ap, subst, ◌∙◌, arith, inl, inr, append_assoc}
use Rattle.std.proofs.lemmas.List.{append-nil}
use Rattle.std.specs.List.{concat}
use Rattle.gj_http.specs.Request.{Request}
use Rattle.gj_http.specs.Heads.{IsHead, body_length, request_of}
use Rattle.gj_http.specs.Cut.{head_length, head_bytes, IsMessage, IsRefused, NeedsMore, Cuts}
use Rattle.gj_http.specs.Calls.{Call, Fed, Took, Wanted, Turned, fed, taken, Runs, Feeds, InFront}
use Rattle.gj_http.specs.declared.message.Refused.{Refused}
use Rattle.gj_http.proofs.BeginLemmas.{BeginsWith-unique, IsMessage-append, IsRefused-append, some_same}

none_some : (o : Option ℕ) (n : ℕ) → o ≡ None → o ≡ Some n → ⊥
none_some o n x y = absurd (cc)

ok_same : (r : Result ℕ Refused) (m n : ℕ) → r ≡ Ok m → r ≡ Ok n → m ≡ n
ok_same r m n x y = cc

ok_err : (r : Result ℕ Refused) (n : ℕ) (why : Refused) → r ≡ Ok n → r ≡ Err why → ⊥
ok_err r n why x y = absurd (cc)

err_same : (r : Result ℕ Refused) (v w : Refused) → r ≡ Err v → r ≡ Err w → v ≡ w
err_same r v w x y = cc

pub IsMessage-unique : (bytes : List ℕ) (first second : Request) (rest others : List ℕ)
    → IsMessage bytes first rest → IsMessage bytes second others → (first ≡ second) × (rest ≡ others)
IsMessage-unique bytes first second rest others x y =
    let same = BeginsWith-unique bytes x.head y.head x.tail y.tail x.begins y.begins in
    let count = ok_same (body_length x.head) x.count y.count x.stated (ap body_length same.0 ∙ y.stated) in (
      x.request_is ∙ (λ i. request_of (same.0 i) (take (count i) (same.1 i))) ∙ sym y.request_is,
      x.rest_is ∙ (λ i. drop (count i) (same.1 i)) ∙ sym y.rest_is,
    )

pub no_refused_message : (bytes : List ℕ) (request : Request) (rest : List ℕ) (why : Refused)
    → IsMessage bytes request rest → IsRefused bytes why → ⊥
no_refused_message bytes request rest why x (inl long) = none_some (head_length bytes) x.begins.size long.open_ended x.begins.ends
no_refused_message bytes request rest why x (inr (inl none)) =
    let size = some_same (head_length bytes) x.begins.size none.size x.begins.ends none.ends in
    none.no_head x.head (subst (λ (n : ℕ). IsHead (head_bytes bytes n) x.head) size x.begins.is_head)
no_refused_message bytes request rest why x (inr (inr none)) =
    let same = BeginsWith-unique bytes x.head none.head x.tail none.tail x.begins none.begins in
    ok_err (body_length x.head) x.count why x.stated (ap body_length same.0 ∙ none.stated)

pub no_partial_message : (bytes : List ℕ) (request : Request) (rest : List ℕ)
    → IsMessage bytes request rest → NeedsMore bytes → ⊥
no_partial_message bytes request rest x (inl lacks) = none_some (head_length bytes) x.begins.size lacks.open_ended x.begins.ends
no_partial_message bytes request rest x (inr lacks) =
    let same = BeginsWith-unique bytes x.head lacks.head x.tail lacks.tail x.begins lacks.begins in
    let count = ok_same (body_length x.head) x.count lacks.count x.stated (ap body_length same.0 ∙ lacks.stated) in
    omega (arith, count, ap length same.1, x.whole, lacks.short)

pub no_partial_refusal : (bytes : List ℕ) (why : Refused) → IsRefused bytes why → NeedsMore bytes → ⊥
no_partial_refusal bytes why (inl long) (inl lacks) = omega (arith, long.full, lacks.short)
no_partial_refusal bytes why (inl long) (inr lacks) = none_some (head_length bytes) lacks.begins.size long.open_ended lacks.begins.ends
no_partial_refusal bytes why (inr (inl none)) (inl lacks) = none_some (head_length bytes) none.size lacks.open_ended none.ends
no_partial_refusal bytes why (inr (inl none)) (inr lacks) =
    let size = some_same (head_length bytes) lacks.begins.size none.size lacks.begins.ends none.ends in
    none.no_head lacks.head (subst (λ (n : ℕ). IsHead (head_bytes bytes n) lacks.head) size lacks.begins.is_head)
no_partial_refusal bytes why (inr (inr none)) (inl lacks) = none_some (head_length bytes) none.begins.size lacks.open_ended none.begins.ends
no_partial_refusal bytes why (inr (inr none)) (inr lacks) =
    let same = BeginsWith-unique bytes lacks.head none.head lacks.tail none.tail lacks.begins none.begins in
    ok_err (body_length lacks.head) lacks.count why lacks.stated (ap body_length same.0 ∙ none.stated)

pub IsRefused-unique : (bytes : List ℕ) (first second : Refused) → IsRefused bytes first → IsRefused bytes second → first ≡ second
IsRefused-unique bytes first second (inl x) (inl y) = x.why_is ∙ sym y.why_is
IsRefused-unique bytes first second (inl x) (inr (inl y)) = absurd (none_some (head_length bytes) y.size x.open_ended y.ends)
IsRefused-unique bytes first second (inl x) (inr (inr y)) = absurd (none_some (head_length bytes) y.begins.size x.open_ended y.begins.ends)
IsRefused-unique bytes first second (inr (inl x)) (inl y) = absurd (none_some (head_length bytes) x.size y.open_ended x.ends)
IsRefused-unique bytes first second (inr (inl x)) (inr (inl y)) = x.why_is ∙ sym y.why_is
IsRefused-unique bytes first second (inr (inl x)) (inr (inr y)) =
    let size = some_same (head_length bytes) y.begins.size x.size y.begins.ends x.ends in
    absurd (x.no_head y.head (subst (λ (n : ℕ). IsHead (head_bytes bytes n) y.head) size y.begins.is_head))
IsRefused-unique bytes first second (inr (inr x)) (inl y) = absurd (none_some (head_length bytes) x.begins.size y.open_ended x.begins.ends)
IsRefused-unique bytes first second (inr (inr x)) (inr (inl y)) =
    let size = some_same (head_length bytes) x.begins.size y.size x.begins.ends y.ends in
    absurd (y.no_head x.head (subst (λ (n : ℕ). IsHead (head_bytes bytes n) x.head) size x.begins.is_head))
IsRefused-unique bytes first second (inr (inr x)) (inr (inr y)) =
    let same = BeginsWith-unique bytes x.head y.head x.tail y.tail x.begins y.begins in
    err_same (body_length x.head) first second x.stated (ap body_length same.0 ∙ y.stated)

-- ---- cuts

pub one_cut : (first second : List Request) (bytes : List ℕ) (why cause : Option Refused) (rest others : List ℕ)
    → Cuts bytes first why rest → Cuts bytes second cause others → (first ≡ second) × (why ≡ cause) × (rest ≡ others)
one_cut [] [] bytes None None rest others x y = (refl, refl, x.1 ∙ sym y.1)
one_cut [] [] bytes None (Some w) rest others x y = absurd (no_partial_refusal bytes w y.0 x.0)
one_cut [] [] bytes (Some v) None rest others x y = absurd (no_partial_refusal bytes v x.0 y.0)
one_cut [] [] bytes (Some v) (Some w) rest others x y = (refl, ap Some (IsRefused-unique bytes v w x.0 y.0), x.1 ∙ sym y.1)
one_cut [] (m ∷ second) bytes None cause rest others x y = absurd (no_partial_message bytes m y.0 y.1.0 x.0)
one_cut [] (m ∷ second) bytes (Some v) cause rest others x y = absurd (no_refused_message bytes m y.0 v y.1.0 x.0)
one_cut (m ∷ first) [] bytes why None rest others x y = absurd (no_partial_message bytes m x.0 x.1.0 y.0)
one_cut (m ∷ first) [] bytes why (Some w) rest others x y = absurd (no_refused_message bytes m x.0 w x.1.0 y.0)
one_cut (m ∷ first) (n ∷ second) bytes why cause rest others x y =
    let same = IsMessage-unique bytes m n x.0 y.0 x.1.0 y.1.0 in
    let later = one_cut first second x.0 why cause rest others x.1.1 (subst (λ (b : List ℕ). Cuts b second cause others) (sym same.1) y.1.1) in
    (λ i. same.0 i ∷ later.0 i, later.1, later.2)

pub messages_begin : (first all : List Request) (bytes more : List ℕ) (why cause : Option Refused) (rest others : List ℕ)
    → Cuts bytes first why rest → Cuts (bytes ++ more) all cause others → (later : List Request) × (all ≡ first ++ later)
messages_begin [] all bytes more why cause rest others x y = (all, refl)
messages_begin (m ∷ first) [] bytes more why None rest others x y =
    absurd (no_partial_message (bytes ++ more) m (x.0 ++ more) (IsMessage-append bytes more m x.0 x.1.0) y.0)
messages_begin (m ∷ first) [] bytes more why (Some w) rest others x y =
    absurd (no_refused_message (bytes ++ more) m (x.0 ++ more) w (IsMessage-append bytes more m x.0 x.1.0) y.0)
messages_begin (m ∷ first) (n ∷ all) bytes more why cause rest others x y =
    let same = IsMessage-unique (bytes ++ more) n m y.0 (x.0 ++ more) y.1.0 (IsMessage-append bytes more m x.0 x.1.0) in
    let later = messages_begin first all x.0 more why cause rest others x.1.1 (subst (λ (b : List ℕ). Cuts b all cause others) same.1 y.1.1) in
    (later.0, λ i. same.0 i ∷ later.1 i)

pub refusal_stays : (first all : List Request) (bytes more : List ℕ) (why : Refused) (cause : Option Refused) (rest others : List ℕ)
    → Cuts bytes first (Some why) rest → Cuts (bytes ++ more) all cause others → (all ≡ first) × (cause ≡ Some why)
refusal_stays [] [] bytes more why None rest others x y =
    absurd (no_partial_refusal (bytes ++ more) why (IsRefused-append bytes more why x.0) y.0)
refusal_stays [] [] bytes more why (Some w) rest others x y =
    (refl, ap Some (IsRefused-unique (bytes ++ more) w why y.0 (IsRefused-append bytes more why x.0)))
refusal_stays [] (n ∷ all) bytes more why cause rest others x y =
    absurd (no_refused_message (bytes ++ more) n y.0 why y.1.0 (IsRefused-append bytes more why x.0))
refusal_stays (m ∷ first) [] bytes more why None rest others x y =
    absurd (no_partial_message (bytes ++ more) m (x.0 ++ more) (IsMessage-append bytes more m x.0 x.1.0) y.0)
refusal_stays (m ∷ first) [] bytes more why (Some w) rest others x y =
    absurd (no_refused_message (bytes ++ more) m (x.0 ++ more) w (IsMessage-append bytes more m x.0 x.1.0) y.0)
refusal_stays (m ∷ first) (n ∷ all) bytes more why cause rest others x y =
    let same = IsMessage-unique (bytes ++ more) n m y.0 (x.0 ++ more) y.1.0 (IsMessage-append bytes more m x.0 x.1.0) in
    let later = refusal_stays first all x.0 more why cause rest others x.1.1 (subst (λ (b : List ℕ). Cuts b all cause others) same.1 y.1.1) in
    (λ i. same.0 i ∷ later.0 i, later.1)

pub cut_goes_on : (first later : List Request) (bytes more : List ℕ) (why cause : Option Refused) (rest others : List ℕ)
    → Cuts bytes first why rest → Cuts (rest ++ more) later cause others → Cuts (bytes ++ more) (first ++ later) cause others
cut_goes_on [] later bytes more None cause rest others x y = subst (λ (b : List ℕ). Cuts (b ++ more) later cause others) x.1 y
cut_goes_on [] later bytes more (Some w) cause rest others x y = subst (λ (b : List ℕ). Cuts (b ++ more) later cause others) x.1 y
cut_goes_on (m ∷ first) later bytes more why cause rest others x y =
    (x.0 ++ more, (IsMessage-append bytes more m x.0 x.1.0, cut_goes_on first later x.0 more why cause rest others x.1.1 y))

pub taken_as_cut : (calls : List Call) (held now : List ℕ) (later : List Request) (why : Option Refused) (rest : List ℕ)
    → Runs held calls now → Cuts now later why rest → Cuts (held ++ fed calls) (taken calls ++ later) why rest
taken_as_cut [] held now later why rest runs cut =
    subst (λ (b : List ℕ). Cuts b later why rest) (sym runs ∙ sym (append-nil held)) cut
taken_as_cut (Fed piece ∷ calls) held now later why rest runs cut =
    subst (λ (b : List ℕ). Cuts b (taken calls ++ later) why rest) (append_assoc held piece (fed calls))
    (taken_as_cut calls (held ++ piece) now later why rest runs cut)
taken_as_cut (Took m ∷ calls) held now later why rest runs cut =
    (runs.0 ++ fed calls, (IsMessage-append held (fed calls) m runs.0 runs.1.0, taken_as_cut calls runs.0 now later why rest runs.1.1 cut))
taken_as_cut (Wanted ∷ calls) held now later why rest runs cut = taken_as_cut calls held now later why rest runs.1 cut
taken_as_cut (Turned _ ∷ calls) held now later why rest runs cut = taken_as_cut calls held now later why rest runs.1 cut

pub fed_as_cut : (pieces : List (List ℕ)) (held : List ℕ) (messages : List Request) (why : Option Refused) (rest : List ℕ)
    → Feeds held pieces messages why rest → Cuts (held ++ concat pieces) messages why rest
fed_as_cut [] held messages why rest feeds = subst (λ (b : List ℕ). Cuts b messages why rest) (sym (append-nil held)) feeds
fed_as_cut (piece ∷ pieces) held messages why rest feeds =
    let first = feeds.0 in
    let left = feeds.2 in
    let later = feeds.3 in
    let tail = fed_as_cut pieces (left ++ piece) later why rest feeds.5 in
    let joined = subst (λ (b : List ℕ). Cuts b later why rest) (append_assoc left piece (concat pieces)) tail in
    subst (λ (m : List Request). Cuts (held ++ (piece ++ concat pieces)) m why rest) (sym feeds.6)
    (cut_goes_on first later held (piece ++ concat pieces) feeds.1 why left rest feeds.4 joined)

pub InFront-take : (messages : List Request) (bytes held : List ℕ) (request : Request) (rest : List ℕ)
    → InFront bytes messages held → IsMessage held request rest → InFront bytes (messages ++ request ∷ []) rest
InFront-take [] bytes held request rest leaves is = (rest, (subst (λ (b : List ℕ). IsMessage b request rest) leaves is, refl))
InFront-take (first ∷ messages) bytes held request rest leaves is =
    (leaves.0, (leaves.1.0, InFront-take messages leaves.0 held request rest leaves.1.1 is))

pub InFront-feed : (messages : List Request) (bytes held piece : List ℕ)
    → InFront bytes messages held → InFront (bytes ++ piece) messages (held ++ piece)
InFront-feed [] bytes held piece leaves = ap (λ (b : List ℕ). b ++ piece) leaves
InFront-feed (first ∷ messages) bytes held piece leaves =
    (leaves.0 ++ piece, (IsMessage-append bytes piece first leaves.0 leaves.1.0, InFront-feed messages leaves.0 held piece leaves.1.1))

pub InFront-cut : (messages : List Request) (bytes held : List ℕ) (later : List Request) (why : Option Refused) (rest : List ℕ)
    → InFront bytes messages held → Cuts held later why rest → Cuts bytes (messages ++ later) why rest
InFront-cut [] bytes held later why rest leaves cut = subst (λ (b : List ℕ). Cuts b later why rest) leaves cut
InFront-cut (first ∷ messages) bytes held later why rest leaves cut =
    (leaves.0, (leaves.1.0, InFront-cut messages leaves.0 held later why rest leaves.1.1 cut))

pub InFront-join : (messages later : List Request) (bytes held rest : List ℕ)
    → InFront bytes messages held → InFront held later rest → InFront bytes (messages ++ later) rest
InFront-join [] later bytes held rest x y = subst (λ (b : List ℕ). InFront b later rest) x y
InFront-join (first ∷ messages) later bytes held rest x y = (x.0, (x.1.0, InFront-join messages later x.0 held rest x.1.1 y))

pub InFront-begins : (messages all : List Request) (bytes held : List ℕ) (why : Option Refused) (rest : List ℕ)
    → InFront bytes messages held → Cuts bytes all why rest → (later : List Request) × (all ≡ messages ++ later)
InFront-begins [] all bytes held why rest x y = (all, refl)
InFront-begins (m ∷ messages) [] bytes held None rest x y = absurd (no_partial_message bytes m x.0 x.1.0 y.0)
InFront-begins (m ∷ messages) [] bytes held (Some w) rest x y = absurd (no_refused_message bytes m x.0 w x.1.0 y.0)
InFront-begins (m ∷ messages) (n ∷ all) bytes held why rest x y =
    let same = IsMessage-unique bytes n m y.0 x.0 y.1.0 x.1.0 in
    let later = InFront-begins messages all x.0 held why rest x.1.1 (subst (λ (b : List ℕ). Cuts b all why rest) same.1 y.1.1) in
    (later.0, λ i. same.0 i ∷ later.1 i)
