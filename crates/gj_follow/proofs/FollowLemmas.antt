-- What a follower stands for after a page.
use Rattle.std.proofs.Common.{◌≡◌, ℕ, ◌+◌, ◌-◌, ◌≤◌, ◌<◌, Bool, true, false, cond, List, [], ◌++◌, length, take, drop, refl, sym, ap, ◌∙◌, arith, length-append, length-drop}
use Rattle.std.proofs.Math.Seq.{take-add}
use Rattle.std.proofs.lemmas.List.{drop-drop, drop-take, take-map, drop-map}
use Rattle.std.proofs.lemmas.Bool.Decides.{nat_tests}
use Rattle.gj_base.specs.declared.history.History.{History}
use Rattle.gj_base.specs.declared.history.Shown.{Shown}
use Rattle.gj_base.specs.declared.item.Entry.{Entry}
use Rattle.gj_base.specs.declared.item.Item.{Item}
use Rattle.gj_base.specs.Configuration.{Configuration}
use Rattle.gj_base.specs.History.{IsWindow, StandsFor, empty_shown, end_of, extend, items_of, more, window, windowed}
use Rattle.gj_base.proofs.Windows.{more_capacity, more_end, more_none, more_segments, stands_end, stands_longer}
use Rattle.gj_follow.specs.Pages.{Paged, page_end}
use Rattle.gj_follow.specs.Follows.{IsOf, joins, news, part, reach_one, after_page}

-- a page ends after what joins it
pub news_end : (w : Shown) (page : Paged) → IsWindow w → page.from ≤ end_of w → end_of w < page_end page → end_of (more w (news (end_of w) page)) ≡ page_end page
news_end w page is low high =
    omega (arith, more_end w (news (end_of w) page) is, length-append w.items (news (end_of w) page), length-drop (end_of w - page.from) page.items)

-- a part of a history, and what follows it
part_longer : (h : History) (start n to : ℕ) → h.first ≤ start → start ≤ n → n ≤ to → extend (part h start n) (take (to - n) (drop (n - h.first) h.entries)) ≡ part h start to
part_longer h start n to first low high =
    let all : List Entry = drop (start - h.first) h.entries in
    let rest : drop (n - start) all ≡ drop (n - h.first) h.entries =
    drop-drop (n - start) (start - h.first) h.entries ∙ ap (λ (k : ℕ). drop k h.entries) (let e : (start - h.first) + (n - start) ≡ n - h.first = omega arith in e) in
    let sum : (n - start) + (to - n) ≡ to - start = omega arith in
    let joined : take (n - start) all ++ take (to - n) (drop (n - h.first) h.entries) ≡ take (to - start) all =
    ap (λ (es : List Entry). take (n - start) all ++ take (to - n) es) (sym rest) ∙ (sym (take-add (n - start) (to - n) all) ∙ ap (λ (k : ℕ). take k all) sum) in
    λ i. record { first = start; entries = joined i }

-- what a page of a history adds are the entries that follow
news_are : (h : History) (page : Paged) (n : ℕ) → IsOf h page → page.from ≤ n → n < page_end page → items_of (take (page_end page - n) (drop (n - h.first) h.entries)) ≡ news n page
news_are h page n of low high =
    let all : List Item = items_of h.entries in
    let begins = of.begins in
    let k : ℕ = n - page.from in
    let len : k + (page_end page - n) ≡ length page.items = omega arith in
    let places : (page.from - h.first) + k ≡ n - h.first = omega arith in
    let mapped : items_of (take (page_end page - n) (drop (n - h.first) h.entries)) ≡ take (page_end page - n) (drop (n - h.first) all) =
    sym (take-map _ (page_end page - n) (drop (n - h.first) h.entries)) ∙ ap (λ (xs : List Item). take (page_end page - n) xs) (sym (drop-map _ (n - h.first) h.entries)) in
    let past : drop k (drop (page.from - h.first) all) ≡ drop (n - h.first) all = drop-drop k (page.from - h.first) all ∙ ap (λ (m : ℕ). drop m all) places in
    let cut : drop k (take (length page.items) (drop (page.from - h.first) all)) ≡ take (page_end page - n) (drop (n - h.first) all) =
    ap (λ (m : ℕ). drop k (take m (drop (page.from - h.first) all))) (sym len) ∙ (drop-take k (page_end page - n) (drop (page.from - h.first) all) ∙ ap (λ (xs : List Item). take (page_end page - n) xs) past) in
    mapped ∙ (sym cut ∙ ap (λ (xs : List Item). drop k xs) of.same)

-- a follower of a part of a history follows more of it
pub stands_joined : (w : Shown) (h : History) (start : ℕ) (page : Paged) → IsWindow w → h.first ≤ start → IsOf h page → page.from ≤ end_of w → end_of w < page_end page
    → StandsFor w (part h start (end_of w)) → StandsFor (more w (news (end_of w) page)) (part h start (page_end page))
stands_joined w h start page is first of low high stands =
    let n : ℕ = end_of w in
    let conf = is.configuration in
    let least = conf.capacity_low in
    let pos : 0 < w.capacity = omega arith in
    let ends = stands_end w (part h start n) conf.segments_low stands in
    let from : start ≤ n = omega arith in
    let es : List Entry = take (page_end page - n) (drop (n - h.first) h.entries) in
    let longer : more w (items_of es) ≡ window w.capacity w.segments (extend (part h start n) es) = stands_longer w (part h start n) es pos conf.segments_low stands in
    let all : more w (news n page) ≡ window w.capacity w.segments (part h start (page_end page)) =
    ap (λ (xs : List Item). more w xs) (sym (news_are h page n of low high)) ∙ (longer ∙ ap (λ (g : History). window w.capacity w.segments g) (part_longer h start n (page_end page) first from (omega arith))) in
    all ∙ (ap (λ (c : ℕ). window c w.segments (part h start (page_end page))) (sym (more_capacity w (news n page))) ∙ ap (λ (s : ℕ). window (more w (news n page)).capacity s (part h start (page_end page))) (sym (more_segments w (news n page))))

joined : (n : ℕ) (page : Paged) → joins n page ≡ true → (page.from ≤ n) × (n < page_end page)
joined n page is = grind (arith, nat_tests)

end_at : (w : Shown) (page : Paged) (b : Bool) → joins (end_of w) page ≡ b → IsWindow w → end_of (cond b (more w (news (end_of w) page)) w) ≡ cond b (page_end page) (end_of w)
end_at w page true joins is = let at = joined (end_of w) page joins in news_end w page is at.0 at.1
end_at w page false joins is = refl

-- where what is shown ends after a page
pub after_end : (w : Shown) (page : Paged) → IsWindow w → end_of (after_page w page) ≡ reach_one (end_of w) page
after_end w page is = end_at w page (joins (end_of w) page) refl is

later_at : (n : ℕ) (page : Paged) (b : Bool) → joins n page ≡ b → n ≤ cond b (page_end page) n
later_at n page true joins = let at = joined n page joins in omega arith
later_at n page false joins = omega arith

-- no page makes it shorter
pub reach_later : (n : ℕ) (page : Paged) → n ≤ reach_one n page
reach_later n page = later_at n page (joins n page) refl

stands_at : (w : Shown) (h : History) (start : ℕ) (page : Paged) (b : Bool) → joins (end_of w) page ≡ b → IsWindow w → h.first ≤ start → IsOf h page
    → StandsFor w (part h start (end_of w)) → StandsFor (cond b (more w (news (end_of w) page)) w) (part h start (cond b (page_end page) (end_of w)))
stands_at w h start page true joins is first of stands = let at = joined (end_of w) page joins in stands_joined w h start page is first of at.0 at.1 stands
stands_at w h start page false joins is first of stands = stands

-- after a page of a history, a follower of its part follows more of it
pub after_stands : (w : Shown) (h : History) (start : ℕ) (page : Paged) → IsWindow w → h.first ≤ start → IsOf h page → StandsFor w (part h start (end_of w))
    → StandsFor (after_page w page) (part h start (reach_one (end_of w) page))
after_stands w h start page is first of stands = stands_at w h start page (joins (end_of w) page) refl is first of stands

-- a follower with no interaction stands for no interaction of any history
pub none_stands : (conf : Configuration) (start : ℕ) (h : History) → IsWindow (empty_shown conf start) → StandsFor (empty_shown conf start) (part h start (end_of (empty_shown conf start)))
none_stands conf start h is =
    let none : (start + 0) - start ≡ 0 = omega arith in
    let entries : take ((start + 0) - start) (drop (start - h.first) h.entries) ≡ [] = ap (λ (k : ℕ). take k (drop (start - h.first) h.entries)) none in
    sym (more_none (empty_shown conf start) is) ∙ ap (λ (es : List Entry). windowed conf.capacity conf.segments start (items_of es)) (sym entries)
