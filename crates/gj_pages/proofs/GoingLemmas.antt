-- A follower that goes on, and how a line ends it.
use Rattle.std.proofs.Common.{◌≡◌, inl, ℕ, ◌+◌, ◌<◌, ◌≤◌, ◌∙◌, Bool, false, List, [], ◌∷◌, ◌++◌, length, refl, ap, sym, subst, arith, append_assoc, append-nil, length-append}
use Rattle.std.specs.List.{list_any}
use Rattle.std.specs.Prelude.{Err}
use Rattle.gj_base.specs.declared.history.Shown.{Shown}
use Rattle.gj_base.specs.History.{end_of}
use Rattle.gj_follow.specs.Follows.{reach}
use Rattle.gj_follow.specs.Pages.{Paged}
use Rattle.gj_pages.specs.Answers.{answer_at, answers, page_in, pages_in}
use Rattle.gj_pages.specs.Following.{BeforeLong, Ended, Grown}
use Rattle.gj_pages.specs.Lines.{IsPart, is_long, lines_after, lines_of, rest_after, rest_of}
use Rattle.gj_pages.specs.Loop.{GoesOn, LineTaken}
use Rattle.gj_base.specs.Streams.{Outgoing, Wrote, WrotePart}
use Rattle.gj_pages.specs.declared.end.FollowEnd.{FollowEnd}
use Rattle.gj_pages.specs.declared.end.FollowEnd.TheVariants.{Done, Truncated, LongLine, TooManyReads, ReadFault, WriteFault, Memory}
use Rattle.gj_pages.proofs.AnswerLemmas.{answers_more, grown_none, grown_then, pages_append}
use Rattle.gj_pages.proofs.LineLemmas.{begins, lines_feed, lines_none, lines_part, lines_split, long_longer, none_long, parts_more, rest_feed, rest_none, rest_part, rest_split}
use Rattle.gj_base.proofs.StreamLemmas.{part_then, wrote_none, wrote_then}

-- nothing was taken yet
pub goes_none : (a : Shown) (o : Outgoing) (held : List ℕ) → held ≡ [] → GoesOn a a o o [] held
goes_none a o held e = record {
  lines = [];
  are = lines_none [];
  rest = rest_none [] ∙ sym e;
  short = refl;
  few = (let none = ap length e in omega (arith, none));
  grown = grown_none a;
  wrote = wrote_none o;
}

-- a part without a line feed is held too
pub goes_part : (a b : Shown) (o p : Outgoing) (bytes held part holds : List ℕ) → GoesOn a b o p bytes held → IsPart part → holds ≡ held ++ part
    → length held + length part ≤ 1048576 → GoesOn a b o p (bytes ++ part) holds
goes_part a b o p bytes held part holds x is e few = record {
  lines = x.lines;
  are = lines_split [] bytes part
      ∙ ap (λ (ls : List (List ℕ)). lines_of bytes ++ ls) (ap (λ (t : List ℕ). lines_after (rest_of bytes) t) (sym (append-nil part)) ∙ lines_part (rest_of bytes) part [] is ∙ lines_none (rest_of bytes ++ part))
      ∙ append-nil (lines_of bytes) ∙ x.are;
  rest = rest_split [] bytes part
      ∙ ap (λ (t : List ℕ). rest_after (rest_of bytes) t) (sym (append-nil part)) ∙ rest_part (rest_of bytes) part [] is ∙ rest_none (rest_of bytes ++ part)
      ∙ ap (λ (h : List ℕ). h ++ part) x.rest ∙ sym e;
  short = x.short;
  few = (let count = ap length e in omega (arith, count, length-append held part));
  grown = x.grown;
  wrote = x.wrote;
}

-- what follows the bytes, where a line is held
lines_on : (a b : Shown) (o p : Outgoing) (bytes held text : List ℕ) → (x : GoesOn a b o p bytes held) → lines_of (bytes ++ text) ≡ x.lines ++ lines_after held text
lines_on a b o p bytes held text x =
    lines_split [] bytes text ∙ ap (λ (ls : List (List ℕ)). ls ++ lines_after (rest_of bytes) text) x.are ∙ ap (λ (h : List ℕ). x.lines ++ lines_after h text) x.rest

-- the answer to the held line stands after those before it
answer_here : (a b : Shown) (pages : List Paged) (line : List ℕ) → Grown a b pages → answer_at (end_of b) (page_in line) ≡ answer_at (reach (end_of a) pages) (page_in line)
answer_here a b pages line x = ap (λ (n : ℕ). answer_at n (page_in line)) x.ends

grown_more : (a b c : Shown) (lines : List (List ℕ)) (line : List ℕ) → Grown a b (pages_in lines) → Grown b c (pages_in (line ∷ [])) → Grown a c (pages_in (lines ++ line ∷ []))
grown_more a b c lines line x y = subst (Grown a c) (sym (pages_append lines (line ∷ []))) (grown_then a b c (pages_in lines) (pages_in (line ∷ [])) x y)

-- the line that is held was taken and answered, at its line feed
pub goes_line : (a b c : Shown) (o p q : Outgoing) (bytes held holds : List ℕ) → GoesOn a b o p bytes held → holds ≡ []
    → Grown b c (pages_in (held ∷ [])) → Wrote p q (answer_at (end_of b) (page_in held)) → GoesOn a c o q (bytes ++ 10 ∷ []) holds
goes_line a b c o p q bytes held holds x e y w = record {
  lines = x.lines ++ held ∷ [];
  are = lines_on a b o p bytes held (10 ∷ []) x ∙ ap (λ (ls : List (List ℕ)). x.lines ++ ls) (lines_feed held [] ∙ ap (λ (ls : List (List ℕ)). held ∷ ls) (lines_none []));
  rest = rest_split [] bytes (10 ∷ []) ∙ rest_feed (rest_of bytes) [] ∙ rest_none [] ∙ sym e;
  short = none_long x.lines held x.short x.few;
  few = (let none = ap length e in omega (arith, none));
  grown = grown_more a b c x.lines held x.grown y;
  wrote = subst (Wrote o q)
      (ap (λ (t : List ℕ). answers (end_of a) x.lines ++ t) (answer_here a b (pages_in x.lines) held x.grown) ∙ sym (answers_more (end_of a) x.lines held))
      (wrote_then o p q (answers (end_of a) x.lines) (answer_at (end_of b) (page_in held)) x.wrote w);
}

-- a line is too long
pub long_ended : (a b : Shown) (o p : Outgoing) (bytes held part text : List ℕ) → GoesOn a b o p bytes held → IsPart part
    → 1048576 < length held + length part → Ended a b o p (bytes ++ (part ++ text)) LongLine
long_ended a b o p bytes held part text x is over =
    let first = begins (held ++ part) text in
    let lines : lines_after held (part ++ text) ≡ lines_after (held ++ part) text = lines_part held part text is in
    let rest : rest_after held (part ++ text) ≡ rest_after (held ++ part) text = rest_part held part text is in
    let here : lines_after (rest_of bytes) (part ++ text) ++ rest_after (rest_of bytes) (part ++ text) ∷ [] ≡ ((held ++ part) ++ first.more) ∷ first.others =
    ap (λ (h : List ℕ). lines_after h (part ++ text) ++ rest_after h (part ++ text) ∷ []) x.rest
    ∙ ap (λ (ls : List (List ℕ)). ls ++ rest_after held (part ++ text) ∷ []) lines
    ∙ ap (λ (r : List ℕ). lines_after (held ++ part) text ++ r ∷ []) rest
    ∙ first.first in
    record {
      lines = x.lines;
      later = lines_after held (part ++ text);
      front = lines_on a b o p bytes held (part ++ text) x;
      short = x.short;
      grown = x.grown;
      ends = (
        record {
          longer = (held ++ part) ++ first.more;
          others = first.others;
          parts = parts_more bytes (part ++ text) ∙ ap (λ (ls : List (List ℕ)). lines_of bytes ++ ls) here ∙ ap (λ (ls : List (List ℕ)). ls ++ ((held ++ part) ++ first.more) ∷ first.others) x.are;
          long = long_longer (held ++ part) first.more (omega (arith, over, length-append held part));
        },
        x.wrote,
      );
    }

-- no memory was found for the line that is held
pub memory_ended : (a b : Shown) (o p : Outgoing) (bytes held text : List ℕ) → GoesOn a b o p bytes held → Ended a b o p (bytes ++ text) Memory
memory_ended a b o p bytes held text x = record {
  lines = x.lines;
  later = lines_after held text;
  front = lines_on a b o p bytes held text x;
  short = x.short;
  grown = x.grown;
  ends = x.wrote;
}

-- the answer to the line that is held was cut
pub cut_ended : (a b c : Shown) (o p q : Outgoing) (bytes held text : List ℕ) → GoesOn a b o p bytes held → Grown b c (pages_in (held ∷ []))
    → WrotePart p q [] (answer_at (end_of b) (page_in held)) → Ended a c o q (bytes ++ 10 ∷ text) WriteFault
cut_ended a b c o p q bytes held text x y w = record {
  lines = x.lines ++ held ∷ [];
  later = lines_after [] text;
  front = lines_on a b o p bytes held (10 ∷ text) x ∙ ap (λ (ls : List (List ℕ)). x.lines ++ ls) (lines_feed held text) ∙ sym (append_assoc x.lines (held ∷ []) (lines_after [] text));
  short = none_long x.lines held x.short x.few;
  grown = grown_more a b c x.lines held x.grown y;
  ends = inl (record {
    done = x.lines;
    last = held;
    parts = refl;
    wrote = subst (λ (t : List ℕ). WrotePart o q t (answer_at (reach (end_of a) (pages_in x.lines)) (page_in held))) (append-nil (answers (end_of a) x.lines))
        (subst (WrotePart o q (answers (end_of a) x.lines ++ [])) (answer_here a b (pages_in x.lines) held x.grown) (part_then o p q (answers (end_of a) x.lines) [] (answer_at (end_of b) (page_in held)) x.wrote w));
  });
}

-- the line that is held ended the follower
pub line_ended : (A : Type 0) (a b c : Shown) (o p q : Outgoing) (bytes held text : List ℕ) (end : FollowEnd) → GoesOn a b o p bytes held
    → LineTaken {A = A} b c p q held (Err end) → Ended a c o q (bytes ++ 10 ∷ text) end
line_ended A a b c o p q bytes held text WriteFault x y = cut_ended a b c o p q bytes held text x y.0 y.1
line_ended A a b c o p q bytes held text Memory x y =
    subst (λ (w : Shown). Ended a w o q (bytes ++ 10 ∷ text) Memory) (sym y.0) (subst (λ (s : Outgoing). Ended a b o s (bytes ++ 10 ∷ text) Memory) (sym y.1) (memory_ended a b o p bytes held (10 ∷ text) x))
line_ended A a b c o p q bytes held text Done x y = absurd y
line_ended A a b c o p q bytes held text Truncated x y = absurd y
line_ended A a b c o p q bytes held text LongLine x y = absurd y
line_ended A a b c o p q bytes held text TooManyReads x y = absurd y
line_ended A a b c o p q bytes held text ReadFault x y = absurd y

-- what follows what was done of a piece
pub piece_is : (bytes done rest piece : List ℕ) → piece ≡ done ++ rest → (bytes ++ done) ++ rest ≡ bytes ++ piece
piece_is bytes done rest piece e = append_assoc bytes done rest ∙ ap (λ (t : List ℕ). bytes ++ t) (sym e)

-- a line of a piece is too long
pub long_in : (a b : Shown) (o p : Outgoing) (bytes done rest piece held part text : List ℕ) → piece ≡ done ++ rest → rest ≡ part ++ text
    → GoesOn a b o p (bytes ++ done) held → IsPart part → 1048576 < length held + length part → Ended a b o p (bytes ++ piece) LongLine
long_in a b o p bytes done rest piece held part text e f x is over =
    subst (λ (t : List ℕ). Ended a b o p t LongLine)
    (ap (λ (t : List ℕ). (bytes ++ done) ++ t) (sym f) ∙ piece_is bytes done rest piece e)
    (long_ended a b o p (bytes ++ done) held part text x is over)

-- a line of a piece ended the follower
pub line_in : (A : Type 0) (a b c : Shown) (o p q : Outgoing) (bytes done rest piece held part holds text : List ℕ) (end : FollowEnd) → piece ≡ done ++ rest → rest ≡ part ++ 10 ∷ text
    → GoesOn a b o p (bytes ++ done) held → IsPart part → holds ≡ held ++ part → length held + length part ≤ 1048576
    → LineTaken {A = A} b c p q holds (Err end) → Ended a c o q (bytes ++ piece) end
line_in A a b c o p q bytes done rest piece held part holds text end e f x is g few y =
    subst (λ (t : List ℕ). Ended a c o q t end)
    (append_assoc (bytes ++ done) part (10 ∷ text) ∙ ap (λ (t : List ℕ). (bytes ++ done) ++ t) (sym f) ∙ piece_is bytes done rest piece e)
    (line_ended A a b c o p q ((bytes ++ done) ++ part) holds text end (goes_part a b o p (bytes ++ done) held part holds x is g few) y)

-- a line of a piece was taken and answered
pub goes_in : (a b c : Shown) (o p q : Outgoing) (bytes done held part line holds : List ℕ)
    → GoesOn a b o p (bytes ++ done) held → IsPart part → line ≡ held ++ part → length held + length part ≤ 1048576 → holds ≡ []
    → Grown b c (pages_in (line ∷ [])) → Wrote p q (answer_at (end_of b) (page_in line)) → GoesOn a c o q (bytes ++ ((done ++ part) ++ 10 ∷ [])) holds
goes_in a b c o p q bytes done held part line holds x is g few e y w =
    subst (λ (t : List ℕ). GoesOn a c o q t holds)
    (append_assoc (bytes ++ done) part (10 ∷ []) ∙ append_assoc bytes done (part ++ 10 ∷ []) ∙ ap (λ (t : List ℕ). bytes ++ t) (sym (append_assoc done part (10 ∷ []))))
    (goes_line a b c o p q ((bytes ++ done) ++ part) line holds (goes_part a b o p (bytes ++ done) held part line x is g few) e y w)

-- and the rest of the piece
pub done_in : (done part text rest piece : List ℕ) → piece ≡ done ++ rest → rest ≡ part ++ 10 ∷ text → piece ≡ ((done ++ part) ++ 10 ∷ []) ++ text
done_in done part text rest piece e f =
    e ∙ ap (λ (t : List ℕ). done ++ t) f ∙ sym (append_assoc done part (10 ∷ text)) ∙ sym (append_assoc (done ++ part) (10 ∷ []) text)

-- what follows the last line feed of a piece is held
pub rest_in : (a b : Shown) (o p : Outgoing) (bytes done rest piece held holds : List ℕ) → piece ≡ done ++ rest → GoesOn a b o p (bytes ++ done) held → IsPart rest
    → holds ≡ held ++ rest → length held + length rest ≤ 1048576 → GoesOn a b o p (bytes ++ piece) holds
rest_in a b o p bytes done rest piece held holds e x is g few =
    subst (λ (t : List ℕ). GoesOn a b o p t holds) (piece_is bytes done rest piece e) (goes_part a b o p (bytes ++ done) held rest holds x is g few)

-- of a piece nothing was done yet
pub none_in : (a b : Shown) (o p : Outgoing) (bytes held : List ℕ) → GoesOn a b o p bytes held → GoesOn a b o p (bytes ++ []) held
none_in a b o p bytes held x = subst (λ (t : List ℕ). GoesOn a b o p t held) (sym (append-nil bytes)) x
