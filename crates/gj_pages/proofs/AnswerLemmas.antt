-- The answers to lines, one after another.
use Rattle.std.proofs.Common.{◌≡◌, ℕ, ◌+◌, ◌≤◌, ◌∙◌, length, length-append, List, [], ◌∷◌, ◌++◌, Option, Some, None, refl, ap, sym, subst, arith, append_assoc, append-nil}
use Rattle.std.specs.List.{All, filter_map}
use Rattle.std.proofs.Math.ListN.{get_or-append}
use Rattle.std.proofs.lemmas.List.{get_or-append-add}
use Rattle.std.proofs.lemmas.List.Elements.{filter_map-append}
use Rattle.gj_base.specs.declared.history.History.{History}
use Rattle.gj_base.specs.declared.history.Shown.{Shown}
use Rattle.gj_base.specs.History.{StandsFor, end_of}
use Rattle.gj_follow.specs.Follows.{IsOf, after_page, after_pages, part, reach, reach_one}
use Rattle.gj_follow.specs.Pages.{Paged}
use Rattle.gj_pages.specs.Answers.{answer_at, answers, page_in, pages_in}
use Rattle.gj_pages.specs.Following.{Grown}

pub pages_append : (xs ys : List (List ℕ)) → pages_in (xs ++ ys) ≡ pages_in xs ++ pages_in ys
pages_append xs ys = filter_map-append page_in xs ys

pub reach_append : (n : ℕ) (ps qs : List Paged) → reach n (ps ++ qs) ≡ reach (reach n ps) qs
reach_append n [] qs = refl
reach_append n (p ∷ ps) qs = reach_append (reach_one n p) ps qs

pub after_append : (w : Shown) (ps qs : List Paged) → after_pages w (ps ++ qs) ≡ after_pages (after_pages w ps) qs
after_append w [] qs = refl
after_append w (p ∷ ps) qs = after_append (after_page w p) ps qs

-- the answers to lines, and then to others
pub answers_append : (n : ℕ) (xs ys : List (List ℕ)) → answers n (xs ++ ys) ≡ answers n xs ++ answers (reach n (pages_in xs)) ys
answers_append n [] ys = refl
answers_append n (x ∷ xs) ys =
    let m : ℕ = reach n (pages_in (x ∷ [])) in
    let on : reach m (pages_in xs) ≡ reach n (pages_in (x ∷ xs)) =
    sym (reach_append n (pages_in (x ∷ [])) (pages_in xs)) ∙ ap (reach n) (sym (pages_append (x ∷ []) xs)) in
    ap (λ (text : List ℕ). answer_at n (page_in x) ++ text) (answers_append m xs ys ∙ ap (λ (k : ℕ). answers m xs ++ answers k ys) on)
    ∙ sym (append_assoc (answer_at n (page_in x)) (answers m xs) (answers (reach n (pages_in (x ∷ xs))) ys))

-- the answers to lines, and then to one more
pub answers_more : (n : ℕ) (lines : List (List ℕ)) (line : List ℕ) → answers n (lines ++ line ∷ []) ≡ answers n lines ++ answer_at (reach n (pages_in lines)) (page_in line)
answers_more n lines line =
    answers_append n lines (line ∷ []) ∙ ap (λ (text : List ℕ). answers n lines ++ text) (append-nil (answer_at (reach n (pages_in lines)) (page_in line)))

all_first : (P : Paged → Type 0) (ps qs : List Paged) → All P (ps ++ qs) → All P ps × All P qs
all_first P ps qs x = (
  λ k d low. subst P (get_or-append ps qs d k low) (x k d (omega (arith, length-append ps qs))),
  λ k d low. subst P (get_or-append-add ps qs k d) (x (length ps + k) d (omega (arith, length-append ps qs))),
)

-- no page was taken
pub grown_none : (a : Shown) → Grown a a []
grown_none a = record { shows = refl; ends = refl; later = omega arith; stands = λ h start first of stands. stands }

-- pages were taken, and then others
pub grown_then : (a b c : Shown) (ps qs : List Paged) → Grown a b ps → Grown b c qs → Grown a c (ps ++ qs)
grown_then a b c ps qs x y = record {
  shows = y.shows ∙ ap (λ (w : Shown). after_pages w qs) x.shows ∙ sym (after_append a ps qs);
  ends = y.ends ∙ ap (λ (n : ℕ). reach n qs) x.ends ∙ sym (reach_append (end_of a) ps qs);
  later = (let first = x.later in let then = y.later in omega arith);
  stands = λ h start first of stands.
      let both = all_first (IsOf h) ps qs of in
      let mid = x.stands h start first both.0 stands in
      let here : StandsFor b (part h start (end_of b)) = subst (λ (n : ℕ). StandsFor b (part h start n)) (sym x.ends) mid in
      let last = y.stands h start first both.1 here in
      subst (λ (n : ℕ). StandsFor c (part h start n)) (ap (λ (n : ℕ). reach n qs) x.ends ∙ sym (reach_append (end_of a) ps qs)) last;
}
