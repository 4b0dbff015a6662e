-- What is known of the bytes at the front.
use Rattle.std.proofs.Common.{◌≡◌, ℕ, zero, suc, ◌+◌, ◌-◌, ◌<◌, ◌≤◌, Bool, true, false, ◌&&◌, if◌then◌else◌, List, [], ◌∷◌, ◌++◌, length, drop, Option, Some, None, Ok, refl, sym, ap, subst, ◌∙◌, arith, eqb, length-drop, length-append, inl, inr, append_assoc}
use Rattle.std.specs.Option.{option_map}
use Rattle.std.proofs.lemmas.Bool.{cases_lt, cond-false}
use Rattle.std.proofs.lemmas.List.{append-nil, drop-append-le, drop-drop, take_all}
use Rattle.httparse.specs.Grammar.{RequestHead}
use Rattle.gj_http.specs.Heads.{body_length}
use Rattle.gj_http.specs.Cut.{empty_line, empty_lines, close_of_head, head_end, reach, head_length, BeginsWith, NeedsMore}
use Rattle.gj_http.specs.Hints.{IsHint, Knows}
use Rattle.gj_http.specs.declared.front.Hint.{Hint}
use Rattle.gj_http.proofs.FrontLemmas.{empty_lines-le-length, head_end_found, head_end_more}
use Rattle.gj_http.proofs.BeginLemmas.{reach-append, BeginsWith-append, close_same}

option_map_zero : (o : Option ℕ) → option_map (λ n. 0 + n) o ≡ o
option_map_zero None = refl
option_map_zero (Some n) = ap Some (omega arith)

option_map_suc : (p : ℕ) (o : Option ℕ) → option_map (λ n. suc p + n) o ≡ option_map (λ n. 1 + n) (option_map (λ n. p + n) o)
option_map_suc p None = refl
option_map_suc p (Some n) = ap Some (omega arith)

option_map_none : (o : Option ℕ) → option_map (λ n. 1 + n) o ≡ None → o ≡ None
option_map_none None is = refl
option_map_none (Some n) is = absurd (cc)

-- ---- the empty lines

lines_go_on : (t u : Bool) (F : ℕ → ℕ) (x y v w : ℕ) → (t ≡ true → x + F (1 + x) ≡ v) → (t ≡ false → u ≡ true → y + F (2 + y) ≡ w)
    → (t ≡ false → u ≡ false → F 0 ≡ 0)
    → (if t then 1 + x else (if u then 2 + y else 0)) + F (if t then 1 + x else (if u then 2 + y else 0))
    ≡ (if t then 1 + v else (if u then 2 + w else 0))
lines_go_on true u F x y v w one two none = omega (arith, one refl)
lines_go_on false true F x y v w one two none = omega (arith, two refl refl)
lines_go_on false false F x y v w one two none = omega (arith, none refl refl)

-- the lines of a beginning, and then those that follow
pub empty_lines-go_on : (bytes more : List ℕ)
    → empty_lines bytes + empty_lines (drop (empty_lines bytes) (bytes ++ more)) ≡ empty_lines (bytes ++ more)
empty_lines-go_on [] more = omega arith
empty_lines-go_on (a ∷ []) [] = one (eqb a 10) refl
  where
    one : (t : Bool) → eqb a 10 ≡ t
        → (if t then 1 else 0) + empty_lines (drop (if t then 1 else 0) (a ∷ [])) ≡ (if t then 1 else 0)
    one true is = refl
    one false is = ap (λ (u : Bool). 0 + (if u then 1 else 0)) is
empty_lines-go_on (a ∷ []) (b ∷ more) = two (eqb a 10) refl
  where
    two : (t : Bool) → eqb a 10 ≡ t
        → (if t then 1 else 0) + empty_lines (drop (if t then 1 else 0) (a ∷ b ∷ more))
        ≡ (if t then 1 + empty_lines (b ∷ more) else (if eqb a 13 && eqb b 10 then 2 + empty_lines more else 0))
    two true is = refl
    two false is =
        omega (arith, cond-false (eqb a 10) (1 + empty_lines (b ∷ more)) (if eqb a 13 && eqb b 10 then 2 + empty_lines more else 0) is)
empty_lines-go_on (a ∷ b ∷ bytes) more =
    let t = eqb a 10 in
    let u = eqb a 13 && eqb b 10 in
    let all = a ∷ b ∷ (bytes ++ more) in
    lines_go_on t u (λ n. empty_lines (drop n all)) (empty_lines (b ∷ bytes)) (empty_lines bytes)
    (empty_lines (b ∷ (bytes ++ more))) (empty_lines (bytes ++ more))
    (λ yes. ap (λ (l : List ℕ). empty_lines (b ∷ bytes) + empty_lines l) (sym (drop-drop (empty_lines (b ∷ bytes)) 1 all)) ∙ empty_lines-go_on (b ∷ bytes) more)
    (λ no yes. ap (λ (l : List ℕ). empty_lines bytes + empty_lines l) (sym (drop-drop (empty_lines bytes) 2 all)) ∙ empty_lines-go_on bytes more)
    (λ no none. cond-false t _ _ no ∙ cond-false u _ _ none)

pub no_more_lines : (bytes : List ℕ) → empty_lines (drop (empty_lines bytes) bytes) ≡ 0
no_more_lines bytes =
    let all = empty_lines-go_on bytes [] in
    let same = append-nil bytes in
    omega (arith, all, ap empty_lines same, ap (λ (l : List ℕ). empty_lines (drop (empty_lines bytes) l)) same)

-- whether a line is empty is settled by two bytes
settled_by_two : (bytes more : List ℕ) → 2 ≤ length bytes → empty_lines bytes ≡ 0 → empty_lines (bytes ++ more) ≡ 0
settled_by_two [] more two none = absurd (omega arith)
settled_by_two (a ∷ []) more two none = absurd (omega arith)
settled_by_two (a ∷ b ∷ bytes) more two none =
    by_tests (eqb a 10) (eqb a 13 && eqb b 10) (empty_lines (b ∷ bytes)) (empty_lines bytes)
    (empty_lines (b ∷ (bytes ++ more))) (empty_lines (bytes ++ more)) none
  where
    by_tests : (t u : Bool) (x y v w : ℕ) → (if t then 1 + x else (if u then 2 + y else 0)) ≡ 0
        → (if t then 1 + v else (if u then 2 + w else 0)) ≡ 0
    by_tests true u x y v w none = absurd (omega arith)
    by_tests false true x y v w none = absurd (omega arith)
    by_tests false false x y v w none = none

-- ---- the head's end

empty_line_by_two : (bytes more : List ℕ) → 2 ≤ length bytes → empty_line (bytes ++ more) ≡ empty_line bytes
empty_line_by_two [] more two = absurd (omega arith)
empty_line_by_two (a ∷ []) more two = absurd (omega arith)
empty_line_by_two (a ∷ b ∷ bytes) more two = refl

no_close : (b : ℕ) (bytes : List ℕ) → head_end (b ∷ bytes) ≡ None → close_of_head (b ∷ bytes) ≡ 0
no_close b bytes none =
    elim (cases_lt 0 (close_of_head (b ∷ bytes))) [
      | inl some ↦
          let found = sym (head_end_found (b ∷ bytes) some) ∙ none in
          absurd (cc)
      | inr below ↦ omega (arith, below)
    ]

-- where no head ends, none begins to end before the last two bytes, whatever follows
passed_by : (p : ℕ) (bytes more : List ℕ) → head_end bytes ≡ None → p + 2 ≤ length bytes
    → option_map (λ n. p + n) (head_end (drop p (bytes ++ more))) ≡ head_end (bytes ++ more)
passed_by zero bytes more none fits = option_map_zero (head_end (bytes ++ more))
passed_by (suc p) [] more none fits = absurd (omega arith)
passed_by (suc p) (b ∷ bytes) more none fits =
    let close = no_close b bytes none in
    let further = option_map_none (head_end bytes) (sym (head_end_more b bytes close) ∙ none) in
    let same = close_same b bytes more (empty_line_by_two bytes more (omega arith)) in
    option_map_suc p (head_end (drop p (bytes ++ more)))
    ∙ ap (option_map (λ n. 1 + n)) (passed_by p bytes more further (omega arith))
    ∙ sym (head_end_more b (bytes ++ more) (same ∙ close))

-- ---- hints

pub no_hint : (bytes : List ℕ) (hint : Hint) → hint.lines ≡ 0 → hint.passed ≡ 0 → hint.want ≡ 0 → Knows bytes hint
no_hint bytes hint lines passed want = λ more. (
  record {
    within = omega (arith, lines, passed);
    lines = ap (λ (k : ℕ). k + empty_lines (drop k (reach (bytes ++ more)))) lines ∙ omega arith;
    settled = λ some. absurd (omega (arith, some, passed));
    passed =
        ap (λ (k : ℕ). option_map (λ n. k + n) (head_end (drop k (drop (empty_lines (reach (bytes ++ more))) (reach (bytes ++ more)))))) passed
        ∙ option_map_zero (head_end (drop (empty_lines (reach (bytes ++ more))) (reach (bytes ++ more))));
  },
  λ short. absurd (omega (arith, short, want)),
)

pub Knows-append : (bytes piece : List ℕ) (hint : Hint) → Knows bytes hint → Knows (bytes ++ piece) hint
Knows-append bytes piece hint knows =
    λ more. subst (λ (b : List ℕ). IsHint (reach b) hint × (length b < hint.want → NeedsMore b)) (sym (append_assoc bytes piece more)) (knows (piece ++ more))

pub hint_here : (bytes : List ℕ) (hint : Hint) → Knows bytes hint → IsHint (reach bytes) hint
hint_here bytes hint knows = subst (λ (b : List ℕ). IsHint (reach b) hint) (append-nil bytes) (knows []).0

pub wants_here : (bytes : List ℕ) (hint : Hint) → Knows bytes hint → length bytes < hint.want → NeedsMore bytes
wants_here bytes hint knows short =
    subst NeedsMore (append-nil bytes) ((knows []).1 (omega (arith, short, ap length (append-nil bytes))))

-- the body is not there before so many bytes are
pub body_hint : (bytes : List ℕ) (hint next : Hint) (head : RequestHead) (n : ℕ) → Knows bytes hint
    → next.lines ≡ hint.lines → next.passed ≡ hint.passed
    → BeginsWith bytes head (drop n bytes) → body_length head ≡ Ok (next.want - n) → n ≤ length bytes → Knows bytes next
body_hint bytes hint next head n knows lines passed begins stated within = λ more. (
  subst (λ (h : Hint). IsHint (reach (bytes ++ more)) h) (λ i. record { lines = sym lines i; passed = sym passed i; want = next.want })
      (keep hint next.want (reach (bytes ++ more)) (knows more).0),
  λ short. inr (record {
    head = head;
    tail = drop n bytes ++ more;
    count = next.want - n;
    begins = BeginsWith-append bytes more head (drop n bytes) begins;
    stated = stated;
    short = omega (arith, short, length-append (drop n bytes) more, length-append bytes more, length-drop n bytes);
  }),
)
  where
    keep : (hint : Hint) (want : ℕ) (seen : List ℕ) → IsHint seen hint → IsHint seen (record { lines = hint.lines; passed = hint.passed; want = want })
    keep hint want seen is = record { within = is.within; lines = is.lines; settled = is.settled; passed = is.passed }

-- where no head ends in all the bytes
pub search_hint : (bytes : List ℕ) (next : Hint) → length bytes < 8192 → next.lines ≡ empty_lines (reach bytes)
    → next.passed ≡ length bytes - next.lines - 2 → next.want ≡ 0
    → head_length bytes ≡ None → Knows bytes next
unfolding head_length
search_hint bytes next short lines passed want none = λ more.
    let c = (reach-append bytes more).0 in
    let same : reach bytes ≡ bytes = take_all 8192 bytes (omega (arith, short)) in
    let all : reach (bytes ++ more) ≡ bytes ++ c = (reach-append bytes more).1 ∙ ap (λ (b : List ℕ). b ++ c) same in
    let start : next.lines ≡ empty_lines bytes = lines ∙ ap empty_lines same in
    let none' : head_end (drop (empty_lines bytes) bytes) ≡ None =
    ap (λ (b : List ℕ). head_end (drop (empty_lines b) b)) (sym same) ∙ none in (
      subst (λ (b : List ℕ). IsHint b next) (sym all) (hint_over bytes c next start passed none'),
      λ few. absurd (omega (arith, few, want)),
    )
  where
    hint_over : (bytes c : List ℕ) (next : Hint) → next.lines ≡ empty_lines bytes → next.passed ≡ length bytes - next.lines - 2
        → head_end (drop (empty_lines bytes) bytes) ≡ None → IsHint (bytes ++ c) next
    hint_over bytes c next start passed none =
        let short = empty_lines-le-length bytes in
        let x = drop (empty_lines bytes) bytes in
        let left = length-drop (empty_lines bytes) bytes in
        let apart : drop (empty_lines bytes) (bytes ++ c) ≡ x ++ c = drop-append-le (empty_lines bytes) bytes c short in
        let go_on = empty_lines-go_on bytes c in
        let settles : 0 < next.passed → empty_lines (bytes ++ c) ≡ empty_lines bytes = λ some.
        let two : 2 ≤ length x = omega (arith, some, passed, start, left) in
        let none_there = settled_by_two x c two (no_more_lines bytes) in
        omega (arith, go_on, none_there, ap empty_lines apart) in
        record {
          within = omega (arith, passed, start, short, length-append bytes c);
          lines = ap (λ (k : ℕ). k + empty_lines (drop k (bytes ++ c))) start ∙ go_on;
          settled = λ some. settles some ∙ sym start;
          passed =
              elim (cases_lt 0 next.passed) [
                | inl some ↦
                    let here : drop (empty_lines (bytes ++ c)) (bytes ++ c) ≡ x ++ c =
                    ap (λ (k : ℕ). drop k (bytes ++ c)) (settles some) ∙ apart in
                    let fits : next.passed + 2 ≤ length x = omega (arith, some, passed, start, left) in
                    ap (λ (b : List ℕ). option_map (λ n. next.passed + n) (head_end (drop next.passed b))) here
                    ∙ passed_by next.passed x c none fits
                    ∙ ap head_end (sym here)
                | inr below ↦
                    let zero' : next.passed ≡ 0 = omega (arith, below) in
                    let rest = drop (empty_lines (bytes ++ c)) (bytes ++ c) in
                    ap (λ (k : ℕ). option_map (λ n. k + n) (head_end (drop k rest))) zero' ∙ option_map_zero (head_end rest)
              ];
        }

pub hint_seen : (bytes seen : List ℕ) (hint : Hint) → seen ≡ reach bytes → Knows bytes hint → IsHint seen hint
hint_seen bytes seen hint same knows = subst (λ (b : List ℕ). IsHint b hint) (sym same) (hint_here bytes hint knows)

pub passed_seen : (seen rest : List ℕ) (start : ℕ) (hint : Hint) → IsHint seen hint → start ≡ empty_lines seen → rest ≡ drop start seen
    → option_map (λ n. hint.passed + n) (head_end (drop hint.passed rest)) ≡ head_end rest
passed_seen seen rest start hint is starts same =
    let here : rest ≡ drop (empty_lines seen) seen = same ∙ ap (λ (k : ℕ). drop k seen) starts in
    ap (λ (b : List ℕ). option_map (λ n. hint.passed + n) (head_end (drop hint.passed b))) here ∙ is.passed ∙ ap head_end (sym here)
