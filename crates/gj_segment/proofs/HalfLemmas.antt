-- What an interaction changes on its side of a segment.
use Rattle.std.proofs.Common.{◌≡◌, ℕ, ◌+◌, ◌<◌, ◌≤◌, List, [], ◌∷◌, ◌++◌, length, get_or, replicate, Some, arith, ap, refl, sym, subst, ◌∙◌, inl, inr}
use Rattle.std.proofs.lemmas.Bool.{cases_eq, cases_lt}
use Rattle.std.proofs.lemmas.List.{map-append, length_push, get_or_append_left, get_or_push, length-replicate, get_or-replicate, same_lists, length-map, get_or-map}
use Rattle.gj_base.specs.Firsts.{firsts, place_of, with_id}
use Rattle.gj_base.proofs.FirstLemmas.{place_of-Some, get_or-with_id, length-with_id, firsts-push, firsts-nil, length-firsts}
use Rattle.gj_names.specs.Named.{Named, IsNamed}
use Rattle.gj_pool.specs.Lists.{cells_of, appended}
use Rattle.gj_pool.specs.Pools.{Pooled, total_of}
use Rattle.gj_pool.proofs.JoinLemmas.{total-appended, total-nil, cells-appended, cells-others, length-appended}
use Rattle.gj_segment.specs.Halves.{IsHalf, ids_of, places_from}
use Rattle.gj_segment.proofs.PlaceLemmas.{places_none, places-same, places-other}

empty_half : (ids : Named) (pool : Pooled) (room : ℕ) → 1 ≤ room → room ≤ 65536 → ids.ids ≡ [] → ids.room ≡ room
    → pool.lists ≡ replicate room [] → pool.edges ≡ room → IsHalf ids pool [] room
empty_half ids pool room any fits none roomy lists edges = record {
  any = any;
  fits = fits;
  few = omega arith;
  ids_room = roomy;
  distinct = rw none (λ i j d lt below. absurd (omega arith));
  numbering = none ∙ sym firsts-nil;
  known = λ i h. absurd (omega arith);
  long = ap length lists ∙ length-replicate room [];
  edges = edges;
  pushed = ap total_of lists ∙ total-nil room;
  lists = λ v h. ap (λ (l : List (List ℕ)). cells_of l v) lists ∙ (get_or-replicate room v [] [] h ∙ sym (places_none 0 v));
}

pub half_empty : (ids : Named) (pool : Pooled) (near : List ℕ) (room : ℕ) → 1 ≤ room → room ≤ 65536 → near ≡ [] → ids.ids ≡ [] → ids.room ≡ room
    → pool.lists ≡ replicate room [] → pool.edges ≡ room → IsHalf ids pool near room
half_empty ids pool near room any fits near_is none roomy lists edges =
    subst (λ (l : List ℕ). IsHalf ids pool l room) (sym near_is) (empty_half ids pool room any fits none roomy lists edges)

-- no more vertices than interactions
pub half_few : (ids : Named) (pool : Pooled) (near : List ℕ) (room : ℕ) → IsHalf ids pool near room → length ids.ids ≤ length near
half_few ids pool near room half =
    omega (arith, ap length half.numbering, length-firsts (ids_of ids.ids near), length-map near (λ (n : ℕ). get_or ids.ids n 0))

-- what was known is named as before
ids-same : (ids : List ℕ) (id : ℕ) (near : List ℕ) → ((i : ℕ) → i < length near → get_or near i 0 < length ids)
    → ids_of (with_id ids id) near ≡ ids_of ids near
ids-same ids id near known =
    same_lists (ids_of (with_id ids id) near) (ids_of ids near) (length-map near _ ∙ sym (length-map near _))
    (λ k d h.
    let h' : k < length near = omega (arith, h, length-map near (λ (n : ℕ). get_or (with_id ids id) n 0)) in
    get_or-map (λ (n : ℕ). get_or (with_id ids id) n 0) near k 0 d h'
    ∙ (get_or-with_id ids id (get_or near k 0) (known k h') ∙ sym (get_or-map (λ (n : ℕ). get_or ids n 0) near k 0 d h')))

pub half_added : (ids ids' : Named) (pool pool' : Pooled) (near near' : List ℕ) (room id r place : ℕ) → IsHalf ids pool near room
    → length near < room → place ≡ length near → near' ≡ near ++ r ∷ [] → ids'.ids ≡ with_id ids.ids id → place_of ids'.ids id ≡ Some r → r < length ids'.ids
    → ids'.room ≡ ids.room → IsNamed ids' → pool' ≡ record pool { lists = appended pool.lists r place } → IsHalf ids' pool' near' room
half_added ids ids' pool pool' near near' room id r place half spare place_is near_is ids_are found below roomy lawful pool_is =
    let lists_are : pool'.lists ≡ appended pool.lists r place = ap (λ (p : Pooled). p.lists) pool_is in
    let edges_are : pool'.edges ≡ pool.edges = ap (λ (p : Pooled). p.edges) pool_is in
    let more : length near' ≡ length near + 1 = ap length near_is ∙ length_push near r in
    let within : r < length pool.lists = omega (arith, below, lawful.within, roomy, half.ids_room, half.long) in
    let named : ids_of ids'.ids near' ≡ ids_of ids.ids near ++ id ∷ [] =
    let here : get_or ids'.ids r 0 ≡ id = (place_of-Some ids'.ids id r found).1 in
    let old : ids_of ids'.ids near ≡ ids_of ids.ids near = ap (λ (l : List ℕ). ids_of l near) ids_are ∙ ids-same ids.ids id near half.known in
    ap (ids_of ids'.ids) near_is ∙ (map-append (λ (n : ℕ). get_or ids'.ids n 0) near (r ∷ []) ∙ rw (old, here) refl)
    in
    record {
      any = half.any;
      fits = half.fits;
      few = omega (arith, more, spare);
      ids_room = roomy ∙ half.ids_room;
      distinct = lawful.distinct;
      numbering = ids_are ∙ (ap (λ (l : List ℕ). with_id l id) half.numbering ∙ sym (ap firsts named ∙ firsts-push (ids_of ids.ids near) id));
      known = λ i h. elim (cases_lt i (length near)) [
        | inl lt ↦
            let old = half.known i lt in
            let grows : length ids.ids ≤ length ids'.ids = omega (arith, ap length ids_are, (length-with_id ids.ids id).0) in
            rw near_is (rw (get_or_append_left near (r ∷ []) 0 i lt) (omega (arith, old, grows)))
        | inr ge ↦
            let last : length near ≡ i = omega (arith, ge, h, more) in
            rw near_is (rw (get_or_push near r 0 i last) below)
      ];
      long = ap length lists_are ∙ (length-appended pool.lists r place ∙ half.long);
      edges = edges_are ∙ half.edges;
      pushed = omega (arith, ap total_of lists_are, total-appended pool.lists r place within, half.pushed, more);
      lists = λ v h. ap (λ (l : List (List ℕ)). cells_of l v) lists_are ∙ elim (cases_eq v r) [
        | inl e ↦ rw e (cells-appended pool.lists r place within ∙ (ap (λ (l : List ℕ). l ++ place ∷ []) (half.lists r (omega (arith, e, h)))
            ∙ (ap (λ (n : ℕ). places_from 0 near r ++ n ∷ []) place_is ∙ sym (ap (λ (l : List ℕ). places_from 0 l r) near_is ∙ (places-same 0 near r ∙ ap (λ (n : ℕ). places_from 0 near r ++ n ∷ []) (let z : 0 + length near ≡ length near = omega arith in z))))))
        | inr ne ↦ cells-others pool.lists r v place ne ∙ (half.lists v h ∙ sym (ap (λ (l : List ℕ). places_from 0 l v) near_is ∙ places-other 0 near v r (λ (e : r ≡ v). ne (sym e))))
      ];
    }
