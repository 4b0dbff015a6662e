-- The router of the table agrees with the routes of paths.
use Rattle.std.proofs.Common.{◌≡◌, ℕ, suc, ◌<◌, List, [], ◌∷◌, ◌++◌, Bool, true, false, cond, Option, Some, None, ◌⊎◌, inl, inr, ◌==◌, ltb, refl, sym, subst, arith, codes, Fits, w8, get_or}
use Rattle.std.proofs.lemmas.Bool.{ne_eqb}
use Rattle.std.proofs.lemmas.Bool.Decides.{eqb_tells}
use borrow.Author.Tests.{ltb-true}
use Rattle.matchit.specs.Rows.{RowsOf}
use Rattle.matchit.specs.Seek.{first}
use Rattle.matchit.specs.Route.{scan}
use Rattle.matchit.specs.Router.{RouteOf}
use Rattle.gj_base.specs.declared.ask.Route.{Route}
use Rattle.gj_base.specs.declared.ask.Route.TheVariants.{Interactions, Walk, Subgraph, Similar, Count, User, Post, Stats, Log}
use Rattle.gj_http.specs.Routes.{Routed, exact, with_id, first_of, is_part, route_of, id_of}
use Rattle.gj_http.specs.Table.{table}
use Rattle.gj_http.proofs.RowLemmas.{hits, AreBytes, IsPlain, ArePlain, IsRight, seek_right}

-- texts of bytes
abbrev pub is_bytes : List ℕ → Bool
is_bytes [] = true
is_bytes (x ∷ t) = cond (ltb x 256) (is_bytes t) false

are_bytes : (t : List ℕ) → is_bytes t ≡ true → AreBytes t
are_bytes [] h = tt
are_bytes (x ∷ t) h = at_byte (ltb x 256) refl h (are_bytes t)
  where
    at_byte : (q : Bool) → ltb x 256 ≡ q → cond q (is_bytes t) false ≡ true → (is_bytes t ≡ true → AreBytes t) → AreBytes (x ∷ t)
    at_byte true e h go = (ltb-true x 256 e, go h)
    at_byte false e h go = absurd (cc)

plain_text : (t : List ℕ) → AreBytes t → IsPlain t
plain_text [] h = tt
plain_text (x ∷ t) h = inl (h.0, plain_text t h.1)

plain_param : (t : List ℕ) → AreBytes t → IsPlain (t ++ 256 ∷ [])
plain_param [] h = inr (refl, refl)
plain_param (x ∷ t) h = inl (h.0, plain_param t h.1)

-- bytes that fit
pub bytes_fit : (path : List ℕ) → ((i : ℕ) → Fits w8 (get_or path i 0)) → AreBytes path
bytes_fit [] h = tt
bytes_fit (b ∷ path) h =
    let fits : Fits w8 b = h 0 in (omega arith, bytes_fit path (λ i. h (suc i)))

-- what a hit says of the path
not_param : (x : ℕ) → x < 256 → (x == 256) ≡ false
not_param x lt = ne_eqb x 256 (λ e. absurd (omega arith))

hit_text : (t path : List ℕ) → AreBytes t → hits t path ≡ true → path ≡ t
hit_text [] [] s h = refl
hit_text [] (b ∷ path) s h = absurd (cc)
hit_text (x ∷ t) [] s h = absurd (cc)
hit_text (x ∷ t) (b ∷ path) s h = at_byte (eqb_tells x b) (rw (not_param x s.0) at h) (hit_text t path s.1)
  where
    at_byte : ((x == b ≡ true) × (x ≡ b)) ⊎ ((x == b ≡ false) × (x ≡ b → ⊥)) → cond (x == b) (hits t path) false ≡ true
        → (hits t path ≡ true → path ≡ t) → b ∷ path ≡ x ∷ t
    at_byte (inl w) h go = let rest : path ≡ t = go (rw w.0 at h) in let same : x ≡ b = w.1 in cc
    at_byte (inr w) h go = let no = rw w.0 at h in absurd (cc)

hit_part : (t path : List ℕ) → AreBytes t → hits (t ++ 256 ∷ []) path ≡ true
    → (rest : List ℕ) × (path ≡ t ++ rest) × (is_part rest ≡ true)
hit_part [] [] s h = absurd (cc)
hit_part [] (b ∷ path) s h = (b ∷ path, refl, h)
hit_part (x ∷ t) [] s h = absurd (cc)
hit_part (x ∷ t) (b ∷ path) s h = at_byte (eqb_tells x b) (rw (not_param x s.0) at h) (hit_part t path s.1)
  where
    at_byte : ((x == b ≡ true) × (x ≡ b)) ⊎ ((x == b ≡ false) × (x ≡ b → ⊥))
        → cond (x == b) (hits (t ++ 256 ∷ []) path) false ≡ true
        → (hits (t ++ 256 ∷ []) path ≡ true → (rest : List ℕ) × (path ≡ t ++ rest) × (is_part rest ≡ true))
        → (rest : List ℕ) × (b ∷ path ≡ x ∷ t ++ rest) × (is_part rest ≡ true)
    at_byte (inl w) h go =
        let found = go (rw w.0 at h) in
        let rest : path ≡ t ++ found.0 = found.1 in let same : x ≡ b = w.1 in (found.0, cc, found.2)
    at_byte (inr w) h go = let no = rw w.0 at h in absurd (cc)

-- what no hit says of a route
miss_exact : (t : List ℕ) (route : Route) (path : List ℕ) → AreBytes t → hits t path ≡ false → exact t route path ≡ None
miss_exact [] route [] s h = absurd (cc)
miss_exact [] route (b ∷ path) s h = refl
miss_exact (x ∷ t) route [] s h = refl
miss_exact (x ∷ t) route (b ∷ path) s h =
    at_byte (eqb_tells x b) (rw (not_param x s.0) at h) (miss_exact t route path s.1)
  where
    at_byte : ((x == b ≡ true) × (x ≡ b)) ⊎ ((x == b ≡ false) × (x ≡ b → ⊥)) → cond (x == b) (hits t path) false ≡ false
        → (hits t path ≡ false → exact t route path ≡ None) → exact (x ∷ t) route (b ∷ path) ≡ None
    at_byte (inl w) h go = rw w.0 (go (rw w.0 at h))
    at_byte (inr w) h go = rw w.0 refl

miss_part : (t : List ℕ) (route : Route) (path : List ℕ) → AreBytes t → hits (t ++ 256 ∷ []) path ≡ false
    → with_id t route path ≡ None
miss_part [] route [] s h = refl
miss_part [] route (b ∷ path) s h = rw h refl
miss_part (x ∷ t) route [] s h = refl
miss_part (x ∷ t) route (b ∷ path) s h =
    at_byte (eqb_tells x b) (rw (not_param x s.0) at h) (miss_part t route path s.1)
  where
    at_byte : ((x == b ≡ true) × (x ≡ b)) ⊎ ((x == b ≡ false) × (x ≡ b → ⊥))
        → cond (x == b) (hits (t ++ 256 ∷ []) path) false ≡ false
        → (hits (t ++ 256 ∷ []) path ≡ false → with_id t route path ≡ None) → with_id (x ∷ t) route (b ∷ path) ≡ None
    at_byte (inl w) h go = rw w.0 (go (rw w.0 at h))
    at_byte (inr w) h go = rw w.0 refl

none_first : (a b : Option Routed) → a ≡ None → b ≡ None → first_of a b ≡ None
none_first a b ea eb = rw ea eb

-- the rows of the table, in the router's order
abbrev rows : RowsOf (RouteOf Route)
rows =
    (codes "/count", record { pattern = codes "/count"; text = codes "/count"; names = []; value = Count })
    ∷ (codes "/interactions", record { pattern = codes "/interactions"; text = codes "/interactions"; names = []; value = Interactions })
    ∷ (codes "/log/" ++ 256 ∷ [], record { pattern = codes "/log/" ++ 256 ∷ []; text = codes "/log/{from}"; names = (6, 10) ∷ []; value = Log })
    ∷ (codes "/posts/" ++ 256 ∷ [], record { pattern = codes "/posts/" ++ 256 ∷ []; text = codes "/posts/{id}"; names = (8, 10) ∷ []; value = Post })
    ∷ (codes "/similar", record { pattern = codes "/similar"; text = codes "/similar"; names = []; value = Similar })
    ∷ (codes "/stats", record { pattern = codes "/stats"; text = codes "/stats"; names = []; value = Stats })
    ∷ (codes "/subgraph", record { pattern = codes "/subgraph"; text = codes "/subgraph"; names = []; value = Subgraph })
    ∷ (codes "/users/" ++ 256 ∷ [], record { pattern = codes "/users/" ++ 256 ∷ []; text = codes "/users/{id}"; names = (8, 10) ∷ []; value = User })
    ∷ (codes "/walk", record { pattern = codes "/walk"; text = codes "/walk"; names = []; value = Walk })
    ∷ []

table_rows : table ≡ rows
unfolding table scan
table_rows = refl

rows_plain : ArePlain rows
rows_plain = (
  plain_text (codes "/count") (are_bytes (codes "/count") refl),
  (
    plain_text (codes "/interactions") (are_bytes (codes "/interactions") refl),
    (
      plain_param (codes "/log/") (are_bytes (codes "/log/") refl),
      (
        plain_param (codes "/posts/") (are_bytes (codes "/posts/") refl),
        (
          plain_text (codes "/similar") (are_bytes (codes "/similar") refl),
          (
            plain_text (codes "/stats") (are_bytes (codes "/stats") refl),
            (
              plain_text (codes "/subgraph") (are_bytes (codes "/subgraph") refl),
              (
                plain_param (codes "/users/") (are_bytes (codes "/users/") refl),
                (
                  plain_text (codes "/walk") (are_bytes (codes "/walk") refl),
                  tt,
                ),
              ),
            ),
          ),
        ),
      ),
    ),
  ),
)

-- the route and the identifier of the path
abbrev pub Leads : Route → List ℕ → Type 0
Leads route path = route_of path ≡ Some (route, id_of route path)

abbrev pub Agrees : Option (RouteOf Route) → List ℕ → Type 0
Agrees (Some found) path = Leads found.value path
Agrees None path = route_of path ≡ None

user_leads : (rest : List ℕ) → is_part rest ≡ true → Leads User (codes "/users/" ++ rest)
user_leads rest h = rw h refl

post_leads : (rest : List ℕ) → is_part rest ≡ true → Leads Post (codes "/posts/" ++ rest)
post_leads rest h = rw h refl

log_leads : (rest : List ℕ) → is_part rest ≡ true → Leads Log (codes "/log/" ++ rest)
log_leads rest h = rw h refl

-- a hit of one row
at_text : (t : List ℕ) (path : List ℕ) (row found : RouteOf Route) → is_bytes t ≡ true → Leads row.value t
    → (hits t path ≡ true) × (row ≡ found) → Leads found.value path
at_text t path row found s leads w =
    let P : List ℕ → Type 0 = λ p. Leads row.value p in
    let Q : RouteOf Route → Type 0 = λ r. Leads r.value path in
    subst Q w.1 (subst P (sym (hit_text t path (are_bytes t s) w.0)) leads)

at_param : (t : List ℕ) (path : List ℕ) (row found : RouteOf Route) → is_bytes t ≡ true
    → ((rest : List ℕ) → is_part rest ≡ true → Leads row.value (t ++ rest))
    → (hits (t ++ 256 ∷ []) path ≡ true) × (row ≡ found) → Leads found.value path
at_param t path row found s leads w =
    let part = hit_part t path (are_bytes t s) w.0 in
    let P : List ℕ → Type 0 = λ p. Leads row.value p in
    let Q : RouteOf Route → Type 0 = λ r. Leads r.value path in
    subst Q w.1 (subst P (sym part.1) (leads part.0 part.2))

agrees_by : (o : Option (RouteOf Route)) (path : List ℕ) → IsRight o rows path → Agrees o path
agrees_by None path n =
    none_first (exact (codes "/interactions") Interactions path) _
    (miss_exact (codes "/interactions") Interactions path (are_bytes (codes "/interactions") refl) n.1.0)
    (none_first (exact (codes "/walk") Walk path) _
    (miss_exact (codes "/walk") Walk path (are_bytes (codes "/walk") refl) n.1.1.1.1.1.1.1.1.0)
    (none_first (exact (codes "/subgraph") Subgraph path) _
    (miss_exact (codes "/subgraph") Subgraph path (are_bytes (codes "/subgraph") refl) n.1.1.1.1.1.1.0)
    (none_first (exact (codes "/similar") Similar path) _
    (miss_exact (codes "/similar") Similar path (are_bytes (codes "/similar") refl) n.1.1.1.1.0)
    (none_first (exact (codes "/count") Count path) _
    (miss_exact (codes "/count") Count path (are_bytes (codes "/count") refl) n.0)
    (none_first (with_id (codes "/users/") User path) _
    (miss_part (codes "/users/") User path (are_bytes (codes "/users/") refl) n.1.1.1.1.1.1.1.0)
    (none_first (with_id (codes "/posts/") Post path) _
    (miss_part (codes "/posts/") Post path (are_bytes (codes "/posts/") refl) n.1.1.1.0)
    (none_first (exact (codes "/stats") Stats path) _
    (miss_exact (codes "/stats") Stats path (are_bytes (codes "/stats") refl) n.1.1.1.1.1.0)
    (miss_part (codes "/log/") Log path (are_bytes (codes "/log/") refl) n.1.1.0))))))))
agrees_by (Some found) path (inl w) = at_text (codes "/count") path _ found refl refl w
agrees_by (Some found) path (inr (inl w)) = at_text (codes "/interactions") path _ found refl refl w
agrees_by (Some found) path (inr (inr (inl w))) = at_param (codes "/log/") path _ found refl log_leads w
agrees_by (Some found) path (inr (inr (inr (inl w)))) = at_param (codes "/posts/") path _ found refl post_leads w
agrees_by (Some found) path (inr (inr (inr (inr (inl w))))) = at_text (codes "/similar") path _ found refl refl w
agrees_by (Some found) path (inr (inr (inr (inr (inr (inl w)))))) = at_text (codes "/stats") path _ found refl refl w
agrees_by (Some found) path (inr (inr (inr (inr (inr (inr (inl w))))))) = at_text (codes "/subgraph") path _ found refl refl w
agrees_by (Some found) path (inr (inr (inr (inr (inr (inr (inr (inl w)))))))) = at_param (codes "/users/") path _ found refl user_leads w
agrees_by (Some found) path (inr (inr (inr (inr (inr (inr (inr (inr (inl w))))))))) = at_text (codes "/walk") path _ found refl refl w
agrees_by (Some found) path (inr (inr (inr (inr (inr (inr (inr (inr (inr w))))))))) = absurd w

-- what the router of the table finds is the route of the path
pub table_agrees : (path : List ℕ) → AreBytes path → Agrees (first table path) path
table_agrees path h = rw table_rows (agrees_by (first rows path) path (seek_right path rows rows_plain h))
