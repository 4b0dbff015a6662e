use Rattle.std.proofs.Common.{◌≡◌, ◌<◌, ◌∙◌, ℕ, List, Option, Some, length, get_or, slice_get, arith, ap, sym}
use Rattle.std.proofs.lemmas.Option.{slice_get-get_or}
use Rattle.gj_base.specs.declared.item.Item.{Item}
use Rattle.gj_base.specs.declared.side.Side.TheVariants.{User, Post}
use Rattle.gj_compact.specs.declared.edge.Edge.{Edge}
use Rattle.gj_compact.specs.Turns.{near}
use Rattle.gj_directory.specs.Directories.{Directed, held}
use Rattle.gj_directory.proofs.NameLemmas.{item_at}
use Rattle.gj_directory.proofs.ShowLemmas.{length-held, held_is, item_sane}
use Rattle.gj_directory.proofs.SideLemmas.{named_at, named_all}
use Rattle.gj_directory.proofs.directory.Directory.item.Goals as goal

pub id_of-requires : goal.id_of-requires
id_of-requires c =
    let old = c.self.invariant in
    let x : Edge = c.index-edge.result.now in
    let edges : List Edge = c.self.inside.edges.items in
    let below : c.args.place < length edges = omega (arith, c.requires, length-held c.self.inside c.args.self.now c.self.view_is) in
    let known = named_all c.self.inside.users.names.ids User c.self.inside.full edges old.users.known_full old.users.known_fresh in
    omega (arith, named_at c.self.inside.users.names.ids User edges c.args.place x below known, ap (near User) c.index-edge.ensures)

pub id_of-requires-2 : goal.id_of-requires-2
id_of-requires-2 c =
    let old = c.self.invariant in
    let x : Edge = c.index-edge.result.now in
    let edges : List Edge = c.self.inside.edges.items in
    let below : c.args.place < length edges = omega (arith, c.requires, length-held c.self.inside c.args.self.now c.self.view_is) in
    let known = named_all c.self.inside.posts.names.ids Post c.self.inside.full edges old.posts.known_full old.posts.known_fresh in
    omega (arith, named_at c.self.inside.posts.names.ids Post edges c.args.place x below known, ap (near Post) c.index-edge.ensures)

pub invariant_of-result : goal.invariant_of-result
invariant_of-result c =
    let x : Edge = c.index-edge.result.now in
    let edges : List Edge = c.self.inside.edges.items in
    let below : c.args.place < length edges = omega (arith, c.requires, length-held c.self.inside c.args.self.now c.self.view_is) in
    let sane = item_sane c.self.inside c.args.place x c.self.invariant below c.index-edge.ensures in
    (omega (arith, sane.0, c.id_of.ensures), omega (arith, sane.1, c.id_of-2.ensures), sane.2)

pub returns : goal.returns
returns c =
    let x : Edge = c.index-edge.result.now in
    let edges : List Edge = c.self.inside.edges.items in
    let users = c.self.inside.users.names.ids in
    let posts = c.self.inside.posts.names.ids in
    let below : c.args.place < length edges = omega (arith, c.requires, length-held c.self.inside c.args.self.now c.self.view_is) in
    let here : slice_get edges c.args.place ≡ Some x =
    slice_get-get_or edges c.args.place x below ∙ ap (λ (e : Edge). let o : Option Edge = Some e in o) (sym c.index-edge.ensures) in
    ap (λ (s : Directed). slice_get (held s) c.args.place) (sym c.self.view_is)
    ∙ (ap (λ (l : List Item). slice_get l c.args.place) (held_is c.self.inside) ∙ (item_at users posts edges c.args.place x here
    ∙ (ap (λ (n : ℕ). let o : Option Item = Some (record { user = n; post = get_or posts x.post 0; kind = x.kind; at = x.at }) in o) (sym c.id_of.ensures)
    ∙ ap (λ (n : ℕ). let o : Option Item = Some (record { user = c.id_of.result; post = n; kind = x.kind; at = x.at }) in o) (sym c.id_of-2.ensures))))
