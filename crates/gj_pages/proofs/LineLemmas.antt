-- The lines of a text whose bytes come in pieces.
use Rattle.std.proofs.Common.{◌≡◌, ℕ, suc, ◌+◌, ◌<◌, ◌≤◌, ◌==◌, ◌∙◌, ◌||◌, cond, Bool, true, false, List, [], ◌∷◌, ◌++◌, length, refl, ap, sym, arith, append_assoc, append-nil, length-append}
use Rattle.std.specs.List.{list_any}
use Rattle.std.proofs.lemmas.Bool.{le-ltb, lt-ltb, ltb-true}
use Rattle.std.proofs.lemmas.List.Folds.{list_any-append}
use Rattle.gj_pages.specs.Lines.{IsPart, has_long, is_long, lines_after, lines_of, rest_after, rest_of}

is_false : (b : Bool) → (b ≡ true → ⊥) → b ≡ false
is_false true never = absurd (never refl)
is_false false never = refl

part_head : (x : ℕ) (text : List ℕ) → IsPart (x ∷ text) → (x == 10) ≡ false
part_head x text is = is_false (x == 10) (is 0 (omega arith))

part_tail : (x : ℕ) (text : List ℕ) → IsPart (x ∷ text) → IsPart text
part_tail x text is = λ k low. is (suc k) (omega arith)

-- a part without a line feed is held with what was held before
pub lines_part : (held part text : List ℕ) → IsPart part → lines_after held (part ++ text) ≡ lines_after (held ++ part) text
unfolding lines_after
lines_part held [] text is = ap (λ (h : List ℕ). lines_after h text) (sym (append-nil held))
lines_part held (x ∷ part) text is =
    ap (λ (b : Bool). cond b (held ∷ lines_after [] (part ++ text)) (lines_after (held ++ x ∷ []) (part ++ text))) (part_head x part is)
    ∙ lines_part (held ++ x ∷ []) part text (part_tail x part is)
    ∙ ap (λ (h : List ℕ). lines_after h text) (append_assoc held (x ∷ []) part)

pub rest_part : (held part text : List ℕ) → IsPart part → rest_after held (part ++ text) ≡ rest_after (held ++ part) text
unfolding rest_after
rest_part held [] text is = ap (λ (h : List ℕ). rest_after h text) (sym (append-nil held))
rest_part held (x ∷ part) text is =
    ap (λ (b : Bool). cond b (rest_after [] (part ++ text)) (rest_after (held ++ x ∷ []) (part ++ text))) (part_head x part is)
    ∙ rest_part (held ++ x ∷ []) part text (part_tail x part is)
    ∙ ap (λ (h : List ℕ). rest_after h text) (append_assoc held (x ∷ []) part)

pub lines_none : (held : List ℕ) → lines_after held [] ≡ []
unfolding lines_after
lines_none held = refl

pub rest_none : (held : List ℕ) → rest_after held [] ≡ held
unfolding rest_after
rest_none held = refl

-- a line feed ends the line that is held
pub lines_feed : (held text : List ℕ) → lines_after held (10 ∷ text) ≡ held ∷ lines_after [] text
unfolding lines_after
lines_feed held text = refl

pub rest_feed : (held text : List ℕ) → rest_after held (10 ∷ text) ≡ rest_after [] text
unfolding rest_after
rest_feed held text = refl

-- the lines of two pieces, one after the other
pub rest_split : (held xs ys : List ℕ) → rest_after held (xs ++ ys) ≡ rest_after (rest_after held xs) ys
unfolding rest_after
rest_split held [] ys = refl
rest_split held (x ∷ xs) ys =
    elim (x == 10) as (λ b. cond b (rest_after [] (xs ++ ys)) (rest_after (held ++ x ∷ []) (xs ++ ys)) ≡ rest_after (cond b (rest_after [] xs) (rest_after (held ++ x ∷ []) xs)) ys)
    [ true ↦ rest_split [] xs ys | false ↦ rest_split (held ++ x ∷ []) xs ys ]

pub lines_split : (held xs ys : List ℕ) → lines_after held (xs ++ ys) ≡ lines_after held xs ++ lines_after (rest_after held xs) ys
unfolding lines_after rest_after
lines_split held [] ys = refl
lines_split held (x ∷ xs) ys =
    elim (x == 10) as (λ b. cond b (held ∷ lines_after [] (xs ++ ys)) (lines_after (held ++ x ∷ []) (xs ++ ys))
    ≡ cond b (held ∷ lines_after [] xs) (lines_after (held ++ x ∷ []) xs) ++ lines_after (cond b (rest_after [] xs) (rest_after (held ++ x ∷ []) xs)) ys)
    [ true ↦ ap (λ (ls : List (List ℕ)). held ∷ ls) (lines_split [] xs ys) | false ↦ lines_split (held ++ x ∷ []) xs ys ]

-- the lines of a text, and the part of one after them
abbrev parts_after : List ℕ → List ℕ → List (List ℕ)
parts_after held text = lines_after held text ++ rest_after held text ∷ []

-- the first of them begins with what is held
pub record Begins (held text : List ℕ) : Type 0 where
  pub more : List ℕ
  pub others : List (List ℕ)
  pub first : parts_after held text ≡ (held ++ more) ∷ others

begins_more : (held : List ℕ) (x : ℕ) (text : List ℕ) → Begins (held ++ x ∷ []) text → (more : List ℕ) × (others : List (List ℕ)) × (parts_after (held ++ x ∷ []) text ≡ (held ++ more) ∷ others)
begins_more held x text b = (x ∷ b.more, b.others, b.first ∙ ap (λ (line : List ℕ). line ∷ b.others) (append_assoc held (x ∷ []) b.more))

pub begins : (held text : List ℕ) → Begins held text
unfolding lines_after rest_after
begins held [] = record { more = []; others = []; first = ap (λ (line : List ℕ). line ∷ []) (sym (append-nil held)) }
begins held (x ∷ text) =
    let at : (more : List ℕ) × (others : List (List ℕ))
    × (cond (x == 10) (held ∷ lines_after [] text) (lines_after (held ++ x ∷ []) text) ++ cond (x == 10) (rest_after [] text) (rest_after (held ++ x ∷ []) text) ∷ [] ≡ (held ++ more) ∷ others)
    = elim (x == 10) as (λ b. (more : List ℕ) × (others : List (List ℕ))
    × (cond b (held ∷ lines_after [] text) (lines_after (held ++ x ∷ []) text) ++ cond b (rest_after [] text) (rest_after (held ++ x ∷ []) text) ∷ [] ≡ (held ++ more) ∷ others)) [
      | true ↦ ([], lines_after [] text ++ rest_after [] text ∷ [], ap (λ (line : List ℕ). line ∷ (lines_after [] text ++ rest_after [] text ∷ [])) (sym (append-nil held)))
      | false ↦ begins_more held x text (begins (held ++ x ∷ []) text)
    ] in
    record { more = at.0; others = at.1; first = at.2 }

-- a line that is too long stays so with more bytes
pub long_longer : (line more : List ℕ) → 1048576 < length line → is_long (line ++ more) ≡ true
long_longer line more h = lt-ltb 1048576 (length (line ++ more)) (omega (arith, length-append line more))

pub not_long : (line : List ℕ) → length line ≤ 1048576 → is_long line ≡ false
not_long line h = le-ltb 1048576 (length line) h

or_true : (a b : Bool) → b ≡ true → (a || b) ≡ true
or_true true b e = refl
or_true false b e = e

true_or : (a b : Bool) → a ≡ true → (a || b) ≡ true
true_or true b e = refl
true_or false b e = cc

-- one of several is long
pub any_long : (lines : List (List ℕ)) (line : List ℕ) (others : List (List ℕ)) → is_long line ≡ true → list_any is_long (lines ++ line ∷ others) ≡ true
any_long lines line others e =
    list_any-append is_long lines (line ∷ others) ∙ or_true (list_any is_long lines) (list_any is_long (line ∷ others)) (true_or (is_long line) (list_any is_long others) e)

-- one more, which is not long
pub none_long : (lines : List (List ℕ)) (line : List ℕ) → list_any is_long lines ≡ false → length line ≤ 1048576 → list_any is_long (lines ++ line ∷ []) ≡ false
none_long lines line e h = list_any-append is_long lines (line ∷ []) ∙ rw (e, not_long line h) refl

or_false : (a : Bool) → (a || false) ≡ a
or_false true = refl
or_false false = refl

-- the lines and the part after them have a long one
pub has_long_parts : (text : List ℕ) → list_any is_long (lines_of text ++ rest_of text ∷ []) ≡ has_long text
has_long_parts text =
    list_any-append is_long (lines_of text) (rest_of text ∷ []) ∙ ap (λ (b : Bool). list_any is_long (lines_of text) || b) (or_false (is_long (rest_of text)))

-- what begins with a long line has one
long_first : (held text : List ℕ) → is_long held ≡ true → list_any is_long (parts_after held text) ≡ true
long_first held text e =
    let b = begins held text in
    ap (list_any is_long) b.first ∙ true_or (is_long (held ++ b.more)) (list_any is_long b.others) (long_longer held b.more (ltb-true 1048576 (length held) e))

-- the parts of a text and of more after it
pub parts_more : (text more : List ℕ) → lines_of (text ++ more) ++ rest_of (text ++ more) ∷ [] ≡ lines_of text ++ parts_after (rest_of text) more
parts_more text more =
    ap (λ (lines : List (List ℕ)). lines ++ rest_of (text ++ more) ∷ []) (lines_split [] text more)
    ∙ ap (λ (rest : List ℕ). (lines_of text ++ lines_after (rest_of text) more) ++ rest ∷ []) (rest_split [] text more)
    ∙ append_assoc (lines_of text) (lines_after (rest_of text) more) (rest_after (rest_of text) more ∷ [])

or_more : (a b c : Bool) → (b ≡ true → c ≡ true) → (a || b) ≡ true → (a || c) ≡ true
or_more true b c f e = refl
or_more false b c f e = f e

-- a longer line stays with more bytes
pub long_more : (text more : List ℕ) → has_long text ≡ true → has_long (text ++ more) ≡ true
long_more text more e =
    sym (has_long_parts (text ++ more)) ∙ ap (list_any is_long) (parts_more text more)
    ∙ list_any-append is_long (lines_of text) (parts_after (rest_of text) more)
    ∙ or_more (list_any is_long (lines_of text)) (is_long (rest_of text)) _ (long_first (rest_of text) more) e
