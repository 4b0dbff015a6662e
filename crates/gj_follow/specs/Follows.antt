-- What a follower takes of pages, and the history that it then stands for. Own: a page is taken where it joins.
use Rattle.std.specs.Prelude.{◌≡◌, ℕ, ◌-◌, ◌≤◌, nat_le, nat_lt, ◌&&◌, Bool, if◌then◌else◌, List, [], ◌∷◌, length, take, drop}
use Rattle.gj_base.specs.declared.history.History.{History}
use Rattle.gj_base.specs.declared.history.Shown.{Shown}
use Rattle.gj_base.specs.History.{end_of, items_of, length_of, more}
use Rattle.gj_base.specs.Interaction.{Interaction}
use Rattle.gj_follow.specs.Pages.{Paged, page_end}
use Rattle.gj_follow.specs.declared.follower.PageTaken.{PageTaken}
use Rattle.gj_follow.specs.declared.follower.PageTaken.TheVariants.{Added, Old, Ahead}

-- a page has the place n, which is the next one
abbrev pub joins : ℕ → Paged → Bool
joins n page = nat_le page.from n && nat_lt n (page_end page)

-- the length after a page
abbrev pub reach_one : ℕ → Paged → ℕ
reach_one n page = if joins n page then page_end page else n

-- the length after pages
abbrev pub reach : ℕ → List Paged → ℕ
reach n [] = n
reach n (page ∷ pages) = reach (reach_one n page) pages

-- what becomes of a page at the length n
abbrev pub taken : ℕ → Paged → PageTaken
taken n page = if nat_lt n page.from then Ahead else (if nat_le (page_end page) n then Old else Added (page_end page - n))

-- the interactions of a page from the place n on
abbrev pub news : ℕ → Paged → List Interaction
news n page = drop (n - page.from) page.items

-- what is shown after a page
abbrev pub after_page : Shown → Paged → Shown
after_page shown page = if joins (end_of shown) page then more shown (news (end_of shown) page) else shown

-- what is shown after pages
abbrev pub after_pages : Shown → List Paged → Shown
after_pages shown [] = shown
after_pages shown (page ∷ pages) = after_pages (after_page shown page) pages

-- the page's interactions are those of the history at its places
pub record IsOf (h : History) (page : Paged) : Type 0 where
  pub begins : h.first ≤ page.from
  pub ends : page_end page ≤ length_of h
  pub same : take (length page.items) (drop (page.from - h.first) (items_of h.entries)) ≡ page.items

-- the history's entries from one place to another
abbrev pub part : History → ℕ → ℕ → History
part h from to = record { first = from; entries = take (to - from) (drop (from - h.first) h.entries) }
