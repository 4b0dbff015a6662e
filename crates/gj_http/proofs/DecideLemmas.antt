-- Whether bytes are a head is settled: all their splits can be tried.
use Rattle.std.proofs.Common.{◌≡◌, ℕ, zero, suc, ◌<◌, ◌≤◌, ◌⊎◌, Bool, IsTrue, List, [], ◌∷◌, ◌++◌, length, refl, sym, ap, subst, ◌∙◌, arith, inl, inr, length-append}
use Rattle.std.specs.Prelude.{All, IsUtf8}
use Rattle.std.specs.List.{flat_map}
use Rattle.std.specs.Str.{bytes_eq, is_utf8}
use Rattle.std.proofs.lemmas.Bool.{cases_lt, cases_eq, cases_Bool, both_ways}
use Rattle.std.proofs.lemmas.List.{append-nil}
use Rattle.std.proofs.lemmas.List.Elements.{All-nil, All-cons, All-head, All-tail}
use Rattle.std.proofs.lemmas.Slice.Eq.{bytes_eq-Decides}
use Rattle.std.proofs.lemmas.Str.{IsUtf8-from_is_utf8, is_utf8-from_IsUtf8}
use Rattle.httparse.specs.Grammar.{LineEnd, crlf, lf, print_end, print_blank, print_version, print_field, IsField, AllPass, IsToken, is_token_byte, is_value_byte, is_uri_byte, print_section, RequestHead}
use Rattle.httparse.proofs.GrammarLemmas.{print_request-append}
use Rattle.gj_http.specs.Heads.{IsHead}

-- it holds, or it does not
abbrev pub Settled : Type 0 → Type 0
Settled P = P ⊎ (P → ⊥)

both : {P Q : Type 0} → Settled P → Settled Q → Settled (P × Q)
both (inl p) (inl q) = inl (p, q)
both (inl p) (inr lacks) = inr (λ x. lacks x.1)
both (inr lacks) q = inr (λ x. lacks x.0)

either : {P Q : Type 0} → Settled P → Settled Q → Settled (P ⊎ Q)
either (inl p) q = inl (inl p)
either (inr lacks) (inl q) = inl (inr q)
either {P} {Q} (inr lacks) (inr none) = inr neither
  where
    neither : P ⊎ Q → ⊥
    neither (inl p) = lacks p
    neither (inr q) = none q

same_as : {P Q : Type 0} → (P → Q) → (Q → P) → Settled P → Settled Q
same_as to from (inl p) = inl (to p)
same_as to from (inr lacks) = inr (λ q. lacks (from q))

is_true : (t : Bool) → Settled (IsTrue t)
is_true t = elim (cases_Bool t) [ inl holds ↦ inl holds | inr fails ↦ inr (λ holds. both_ways t fails holds) ]

same_bytes : (a b : List ℕ) → Settled (a ≡ b)
same_bytes a b =
    elim (cases_Bool (bytes_eq a b)) [
      | inl equal ↦ inl ((bytes_eq-Decides a b).0 equal)
      | inr apart ↦ inr (λ is. both_ways (bytes_eq a b) apart ((bytes_eq-Decides a b).1 is))
    ]

all_pass : (test : ℕ → Bool) (bytes : List ℕ) → Settled (AllPass test bytes)
all_pass test [] = inl (All-nil (λ b. IsTrue (test b)))
all_pass test (b ∷ bytes) =
    same_as (λ (x : IsTrue (test b) × AllPass test bytes). All-cons (λ b. IsTrue (test b)) b bytes x.0 x.1)
    (λ x. (All-head (λ b. IsTrue (test b)) b bytes x, All-tail (λ b. IsTrue (test b)) b bytes x))
    (both (is_true (test b)) (all_pass test bytes))

above : (n : ℕ) → Settled (0 < n)
above n = elim (cases_lt 0 n) [ inl some ↦ inl some | inr none ↦ inr (λ some. omega (arith, some, none)) ]

is_token : (bytes : List ℕ) → Settled (IsToken bytes)
is_token bytes = both (above (length bytes)) (all_pass is_token_byte bytes)

-- some split of the bytes in two has the property
abbrev pub Splits : (List ℕ → List ℕ → Type 0) → List ℕ → Type 0
Splits P bytes = (a : List ℕ) × (b : List ℕ) × (bytes ≡ a ++ b) × P a b

splits : (P : List ℕ → List ℕ → Type 0) → ((a b : List ℕ) → Settled (P a b)) → (bytes : List ℕ) → Settled (Splits P bytes)
splits P settled [] = same_as (λ (p : P [] []). ([], [], refl, p)) back (settled [] [])
  where
    back : Splits P [] → P [] []
    back ([], b, is, p) = subst (P []) (sym is) p
    back (x ∷ a, b, is, p) = absurd (cc)
splits P settled (x ∷ bytes) =
    same_as to from
    (either (settled [] (x ∷ bytes)) (splits (λ a b. P (x ∷ a) b) (λ a b. settled (x ∷ a) b) bytes))
  where
    to : P [] (x ∷ bytes) ⊎ Splits (λ a b. P (x ∷ a) b) bytes → Splits P (x ∷ bytes)
    to (inl p) = ([], x ∷ bytes, refl, p)
    to (inr s) = (x ∷ s.0, s.1, ap (λ (l : List ℕ). x ∷ l) s.2, s.3)

    from : Splits P (x ∷ bytes) → P [] (x ∷ bytes) ⊎ Splits (λ a b. P (x ∷ a) b) bytes
    from ([], b, is, p) = inl (subst (P []) (sym is) p)
    from (y ∷ a, b, is, p) =
        let first : y ≡ x = cc in
        let rest : bytes ≡ a ++ b = cc in
        inr (a, b, rest, subst (λ (z : ℕ). P (z ∷ a) b) first p)

-- the bytes are a byte and then more
abbrev pub After : ℕ → (List ℕ → Type 0) → List ℕ → Type 0
After x P bytes = (rest : List ℕ) × (bytes ≡ x ∷ rest) × P rest

after : (x : ℕ) (P : List ℕ → Type 0) → ((rest : List ℕ) → Settled (P rest)) → (bytes : List ℕ) → Settled (After x P bytes)
after x P settled [] = inr (λ (s : After x P []). let is = s.1 in absurd (cc))
after x P settled (y ∷ bytes) =
    elim (cases_eq y x) [
      | inl same ↦
          same_as (λ (p : P bytes). (bytes, ap (λ (z : ℕ). z ∷ bytes) same, p)) back (settled bytes)
      | inr apart ↦ inr (λ (s : After x P (y ∷ bytes)). let is = s.1 in apart (cc))
    ]
  where
    back : After x P (y ∷ bytes) → P bytes
    back s =
        let is = s.1 in
        let rest : s.0 ≡ bytes = cc in
        subst P rest s.2

-- the bytes are what one item prints
abbrev pub Prints : {X : Type 0} → (X → Type 0) → (X → List ℕ) → List ℕ → Type 0
Prints {X} Item print bytes = (x : X) × Item x × (bytes ≡ print x)

-- the bytes are what at most n items print
abbrev pub Many : {X : Type 0} → (X → Type 0) → (X → List ℕ) → ℕ → List ℕ → Type 0
Many {X} Item print n bytes = (xs : List X) × (length xs ≤ n) × All Item xs × (bytes ≡ flat_map print xs)

many : {X : Type 0} (Item : X → Type 0) (print : X → List ℕ) → ((bytes : List ℕ) → Settled (Prints Item print bytes))
    → (n : ℕ) (bytes : List ℕ) → Settled (Many Item print n bytes)
many {X} Item print settled zero bytes = same_as (λ (is : bytes ≡ []). ([], omega arith, All-nil Item, is)) back (same_bytes bytes [])
  where
    back : Many Item print zero bytes → bytes ≡ []
    back ([], few, all, is) = is
    back (x ∷ xs, few, all, is) = absurd (omega (arith, few))
many {X} Item print settled (suc n) bytes =
    same_as to from
    (either (same_bytes bytes [])
    (splits (λ a b. Prints Item print a × Many Item print n b) (λ a b. both (settled a) (many Item print settled n b)) bytes))
  where
    to : (bytes ≡ []) ⊎ Splits (λ a b. Prints Item print a × Many Item print n b) bytes → Many Item print (suc n) bytes
    to (inl is) = ([], omega arith, All-nil Item, is)
    to (inr s) =
        let x = s.3.0 in
        let xs = s.3.1 in (
          x.0 ∷ xs.0,
          omega (arith, xs.1),
          All-cons Item x.0 xs.0 x.1 xs.2,
          s.2 ∙ (λ i. x.2 i ++ xs.3 i),
        )

    from : Many Item print (suc n) bytes → (bytes ≡ []) ⊎ Splits (λ a b. Prints Item print a × Many Item print n b) bytes
    from ([], few, all, is) = inl is
    from (x ∷ xs, few, all, is) =
        inr (print x, flat_map print xs, is, ((x, All-head Item x xs all, refl), (xs, omega (arith, few), All-tail Item x xs all, refl)))

-- ---- the parts of a head

line_end : (bytes : List ℕ) → Settled (Prints (λ (e : LineEnd). Unit {0}) print_end bytes)
line_end bytes = same_as to from (either (same_bytes bytes (print_end crlf)) (same_bytes bytes (print_end lf)))
  where
    to : (bytes ≡ print_end crlf) ⊎ (bytes ≡ print_end lf) → Prints (λ (e : LineEnd). Unit {0}) print_end bytes
    to (inl is) = (crlf, tt, is)
    to (inr is) = (lf, tt, is)

    from : Prints (λ (e : LineEnd). Unit {0}) print_end bytes → (bytes ≡ print_end crlf) ⊎ (bytes ≡ print_end lf)
    from (crlf, u, is) = inl is
    from (lf, u, is) = inr is

abbrev pub NameAndRaw : List ℕ → List ℕ → Type 0
NameAndRaw name rest = IsToken name × After 58 (λ raw. AllPass is_value_byte raw) rest

field : (bytes : List ℕ) → Settled (Prints IsField print_field bytes)
field bytes =
    same_as to from
    (splits (λ a b. Splits NameAndRaw a × Prints (λ (e : LineEnd). Unit {0}) print_end b)
    (λ a b. both (splits NameAndRaw (λ name rest. both (is_token name) (after 58 (λ raw. AllPass is_value_byte raw) (all_pass is_value_byte) rest)) a) (line_end b)) bytes)
  where
    to : Splits (λ a b. Splits NameAndRaw a × Prints (λ (e : LineEnd). Unit {0}) print_end b) bytes → Prints IsField print_field bytes
    to s =
        let n = s.3.0 in
        let e = s.3.1 in
        let raw = n.3.1 in (
          record { name = n.0; raw = raw.0; end = e.0 },
          record { name = n.3.0; raw = raw.2 },
          s.2 ∙ (λ i. n.2 i ++ e.2 i) ∙ ap (λ (l : List ℕ). (n.0 ++ l) ++ print_end e.0) raw.1,
        )

    from : Prints IsField print_field bytes → Splits (λ a b. Splits NameAndRaw a × Prints (λ (e : LineEnd). Unit {0}) print_end b) bytes
    from (f, is, prints) = (
      f.name ++ 58 ∷ f.raw,
      print_end f.end,
      prints,
      ((f.name, 58 ∷ f.raw, refl, (is.name, (f.raw, refl, is.raw))), (f.end, tt, refl)),
    )

version : (bytes : List ℕ) → Settled (Prints (λ (minor : ℕ). minor ≤ 1) print_version bytes)
version bytes = same_as to from (either (same_bytes bytes (print_version 0)) (same_bytes bytes (print_version 1)))
  where
    to : (bytes ≡ print_version 0) ⊎ (bytes ≡ print_version 1) → Prints (λ (minor : ℕ). minor ≤ 1) print_version bytes
    to (inl is) = (0, omega arith, is)
    to (inr is) = (1, omega arith, is)

    from : Prints (λ (minor : ℕ). minor ≤ 1) print_version bytes → (bytes ≡ print_version 0) ⊎ (bytes ≡ print_version 1)
    from (zero, low, is) = inl is
    from (suc zero, low, is) = inr is
    from (suc (suc n), low, is) = absurd (omega (arith, low))

abbrev pub IsTarget : List ℕ → Type 0
IsTarget bytes = (0 < length bytes) × AllPass is_uri_byte bytes × IsUtf8 bytes

text : (bytes : List ℕ) → Settled (IsUtf8 bytes)
text bytes =
    elim (cases_Bool (is_utf8 bytes)) [
      | inl holds ↦ inl (IsUtf8-from_is_utf8 bytes holds)
      | inr fails ↦ inr (λ is. both_ways (is_utf8 bytes) fails (is_utf8-from_IsUtf8 bytes is))
    ]

target : (bytes : List ℕ) → Settled (IsTarget bytes)
target bytes =
    same_as (λ (x : (0 < length bytes) × (AllPass is_uri_byte bytes × IsUtf8 bytes)). (x.0, x.1.0, x.1.1)) (λ x. (x.0, (x.1, x.2)))
    (both (above (length bytes)) (both (all_pass is_uri_byte bytes) (text bytes)))

abbrev pub AnyEnd : LineEnd → Type 0
AnyEnd end = Unit {0}

-- a head in pieces, from the last to the first
abbrev pub SectionOf : List ℕ → Type 0
SectionOf = Splits (λ a b. Many IsField print_field 64 a × Prints AnyEnd print_end b)

abbrev pub FromLineEnd : List ℕ → Type 0
FromLineEnd = Splits (λ a b. Prints AnyEnd print_end a × SectionOf b)

abbrev pub FromVersion : List ℕ → Type 0
FromVersion = Splits (λ a b. Prints (λ (minor : ℕ). minor ≤ 1) print_version a × FromLineEnd b)

abbrev pub FromTarget : List ℕ → Type 0
FromTarget = Splits (λ a b. IsTarget a × After 32 FromVersion b)

abbrev pub FromMethod : List ℕ → Type 0
FromMethod = Splits (λ a b. IsToken a × After 32 FromTarget b)

abbrev pub FromBlank : ℕ → List ℕ → Type 0
FromBlank n = Splits (λ a b. Many AnyEnd print_end n a × FromMethod b)

section_of : (bytes : List ℕ) → Settled (SectionOf bytes)
section_of bytes = splits (λ a b. Many IsField print_field 64 a × Prints AnyEnd print_end b) (λ a b. both (many IsField print_field field 64 a) (line_end b)) bytes

from_line_end : (bytes : List ℕ) → Settled (FromLineEnd bytes)
from_line_end bytes = splits (λ a b. Prints AnyEnd print_end a × SectionOf b) (λ a b. both (line_end a) (section_of b)) bytes

from_version : (bytes : List ℕ) → Settled (FromVersion bytes)
from_version bytes =
    splits (λ a b. Prints (λ (minor : ℕ). minor ≤ 1) print_version a × FromLineEnd b) (λ a b. both (version a) (from_line_end b)) bytes

from_target : (bytes : List ℕ) → Settled (FromTarget bytes)
from_target bytes = splits (λ a b. IsTarget a × After 32 FromVersion b) (λ a b. both (target a) (after 32 FromVersion from_version b)) bytes

from_method : (bytes : List ℕ) → Settled (FromMethod bytes)
from_method bytes = splits (λ a b. IsToken a × After 32 FromTarget b) (λ a b. both (is_token a) (after 32 FromTarget from_target b)) bytes

from_blank : (n : ℕ) (bytes : List ℕ) → Settled (FromBlank n bytes)
from_blank n bytes = splits (λ a b. Many AnyEnd print_end n a × FromMethod b) (λ a b. both (many AnyEnd print_end line_end n a) (from_method b)) bytes

length-print_blank : (ends : List LineEnd) → length ends ≤ length (print_blank ends)
length-print_blank [] = omega arith
length-print_blank (crlf ∷ ends) = omega (arith, length-print_blank ends)
length-print_blank (lf ∷ ends) = omega (arith, length-print_blank ends)

-- the head of the pieces
head_of : (n : ℕ) (bytes : List ℕ) → FromBlank n bytes → (h : RequestHead) × IsHead bytes h
head_of n bytes s =
    let blank = s.3.0 in
    let m = s.3.1 in
    let r2 = m.3.1 in
    let t = r2.2 in
    let r4 = t.3.1 in
    let v = r4.2 in
    let minor = v.3.0 in
    let e = v.3.1 in
    let end = e.3.0 in
    let sec = e.3.1 in
    let fields = sec.3.0 in
    let last = sec.3.1 in
    let h : RequestHead = record {
      blank = blank.0;
      method = m.0;
      target = t.0;
      minor = minor.0;
      line_end = end.0;
      fields = fields.0;
      last = last.0;
    } in
    let r7 : e.1 ≡ print_section fields.0 last.0 ++ [] =
    sec.2 ∙ (λ i. fields.3 i ++ last.2 i) ∙ sym (append-nil (print_section fields.0 last.0)) in
    let r6 : v.1 ≡ print_end end.0 ++ (print_section fields.0 last.0 ++ []) = e.2 ∙ (λ i. end.2 i ++ r7 i) in
    let r5 : r4.0 ≡ print_version minor.0 ++ (print_end end.0 ++ (print_section fields.0 last.0 ++ [])) = v.2 ∙ (λ i. minor.2 i ++ r6 i) in
    let r3 : r2.0 ≡ t.0 ++ 32 ∷ (print_version minor.0 ++ (print_end end.0 ++ (print_section fields.0 last.0 ++ []))) =
    t.2 ∙ ap (λ (l : List ℕ). t.0 ++ l) (r4.1 ∙ ap (λ (l : List ℕ). 32 ∷ l) r5) in
    let r1 : s.1 ≡ m.0 ++ 32 ∷ (t.0 ++ 32 ∷ (print_version minor.0 ++ (print_end end.0 ++ (print_section fields.0 last.0 ++ [])))) =
    m.2 ∙ ap (λ (l : List ℕ). m.0 ++ l) (r2.1 ∙ ap (λ (l : List ℕ). 32 ∷ l) r3) in
    let all = s.2 ∙ (λ i. blank.3 i ++ r1 i) in (
      h,
      record {
        reads = (
          record {
            method = m.3.0;
            target = (t.3.0.0, t.3.0.1);
            target_text = t.3.0.2;
            minor = minor.1;
            fields = fields.2;
          },
          all ∙ sym (print_request-append h []),
        );
        few = fields.1;
      },
    )

pieces_of : (bytes : List ℕ) (h : RequestHead) → IsHead bytes h → FromBlank (length bytes) bytes
pieces_of bytes h is =
    let all = is.reads.1 ∙ print_request-append h [] in
    let few : length h.blank ≤ length bytes = omega (arith, length-print_blank h.blank, ap length all, length-append (print_blank h.blank) (h.method ++ 32 ∷ (h.target ++ 32 ∷ (print_version h.minor ++ (print_end h.line_end ++ (print_section h.fields h.last ++ [])))))) in (
      print_blank h.blank,
      _,
      all,
      (
        (h.blank, few, any h.blank, refl),
        (
          h.method,
          _,
          refl,
          (
            is.reads.0.method,
            (
              _,
              refl,
              (
                h.target,
                _,
                refl,
                (
                  (is.reads.0.target.0, is.reads.0.target.1, is.reads.0.target_text),
                  (
                    _,
                    refl,
                    (
                      print_version h.minor,
                      _,
                      refl,
                      (
                        (h.minor, is.reads.0.minor, refl),
                        (
                          print_end h.line_end,
                          _,
                          refl,
                          (
                            (h.line_end, tt, refl),
                            (
                              flat_map print_field h.fields,
                              print_end h.last,
                              append-nil (print_section h.fields h.last),
                              ((h.fields, is.few, is.reads.0.fields, refl), (h.last, tt, refl)),
                            ),
                          ),
                        ),
                      ),
                    ),
                  ),
                ),
              ),
            ),
          ),
        ),
      ),
    )
  where
    any : (ends : List LineEnd) → All AnyEnd ends
    any [] = All-nil AnyEnd
    any (e ∷ ends) = All-cons AnyEnd e ends tt (any ends)

-- the bytes are a head, or they are none
pub head_or_none : (bytes : List ℕ) → Settled ((h : RequestHead) × IsHead bytes h)
head_or_none bytes =
    same_as (λ (s : FromBlank (length bytes) bytes). head_of (length bytes) bytes s) (λ x. pieces_of bytes x.0 x.1) (from_blank (length bytes) bytes)
