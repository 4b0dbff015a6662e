-- Pages of what a graph shows. Own: a page has at most 1000 interactions.
use Rattle.std.specs.Prelude.{ℕ, ◌+◌, ◌-◌, ◌^◌, ◌≤◌, List, length, take, drop}
use Rattle.gj_base.specs.declared.history.Shown.{Shown}
use Rattle.gj_base.specs.History.{end_of}
use Rattle.gj_base.specs.Interaction.{Interaction}

-- interactions from a place on, and the length of the history that has them there
pub record Paged : Type 0 where
  pub total : ℕ
  pub from : ℕ
  pub items : List Interaction

pub record IsPaged (page : Paged) : Type 0 where
  pub few : length page.items ≤ 1000
  pub within : page.from + length page.items ≤ page.total
  pub bounded : page.total ≤ 2 ^ 48

-- the place after the last interaction of a page
abbrev pub page_end : Paged → ℕ
page_end page = page.from + length page.items

-- the interactions that are shown from a place on, all or the first 1000
abbrev pub items_from : Shown → ℕ → List Interaction
items_from shown from = take 1000 (drop (from - shown.first) shown.items)

-- the page of what is shown that begins at a place
abbrev pub page_from : Shown → ℕ → Paged
page_from shown from = record { total = end_of shown; from = from; items = items_from shown from }
