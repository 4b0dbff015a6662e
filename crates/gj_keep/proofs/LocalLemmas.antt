-- What a local index shows.
use Rattle.std.proofs.Common.{◌≡◌, ℕ, ◌+◌, ◌++◌, ◌<◌, List, length, ap, sym, ◌∙◌, subst, arith, length-append}
use Rattle.gj_base.specs.declared.item.Item.{Item}
use Rattle.gj_base.specs.declared.history.History.{History}
use Rattle.gj_base.specs.declared.history.Shown.{Shown}
use Rattle.gj_base.specs.Configuration.{Configuration}
use Rattle.gj_base.specs.History.{IsWindow, StandsFor, conf_of, end_of, entries_by, extend, more}
use Rattle.gj_base.proofs.Windows.{more_conf, more_end, stands_end, stands_more}
use Rattle.gj_keep.specs.Books.{BookKeeps, BookView}

pub grown_end : (w v : Shown) (items : List Item) (n m : ℕ) → IsWindow w → v ≡ more w items → end_of w ≡ n → m ≡ n + length items → end_of v ≡ m
grown_end w v items n m is grown before after =
    let last : end_of (more w items) ≡ w.first + length (w.items ++ items) = more_end w items is in
    let all = length-append w.items items in
    ap end_of grown ∙ (let e : end_of (more w items) ≡ m = omega arith in e)

pub grown_conf : (w v : Shown) (conf : Configuration) (items : List Item) → v ≡ more w items → conf_of w ≡ conf → conf_of v ≡ conf
grown_conf w v conf items grown before = ap conf_of grown ∙ (more_conf w items ∙ before)

pub grown_stands : (w v : Shown) (h : History) (by : ℕ) (items : List Item) → IsWindow w → v ≡ more w items → StandsFor w h → StandsFor v (extend h (entries_by by items))
grown_stands w v h by items is grown stands =
    let low = is.configuration.capacity_low in
    let pos : 0 < w.capacity = omega arith in
    let P : Shown → Type 0 = λ u. StandsFor u (extend h (entries_by by items)) in
    subst P (sym grown) (stands_more w h by items pos is.configuration.segments_low stands)

-- a graph that stands for what the book keeps ends where the book does
pub ends_alike : (w : Shown) (book : BookView) (h : History) → IsWindow w → StandsFor w h → BookKeeps book h → end_of w ≡ book.length
ends_alike w book h is stands keeps = stands_end w h is.configuration.segments_low stands ∙ keeps.length_is
