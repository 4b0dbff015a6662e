-- A router whose rows are texts, some with a parameter at their end, finds a row that has the path, or no row has it.
use Rattle.std.proofs.Common.{◌≡◌, ℕ, zero, suc, ◌-◌, ◌<◌, List, [], ◌∷◌, length, Bool, true, false, not, cond, Option, Some, None, ◌⊎◌, inl, inr, ◌==◌, refl, ap, sym, ◌∙◌, arith}
use Rattle.std.proofs.lemmas.Bool.{ne_eqb}
use Rattle.std.proofs.lemmas.Bool.Decides.{eqb_tells}
use Rattle.matchit.specs.Rows.{RowsOf}
use Rattle.matchit.specs.Seek.{seek, step, own, or_else, param_step, segment, has_slash, longest_from}
use Rattle.gj_http.specs.Routes.{is_part, lacks_slash}

-- the pattern has the path: its bytes are the path's, and a parameter takes one part
abbrev pub hits : List ℕ → List ℕ → Bool
hits [] [] = true
hits [] (b ∷ path) = false
hits (x ∷ t) [] = false
hits (x ∷ t) (b ∷ path) = cond (x == 256) (is_part (b ∷ path)) (cond (x == b) (hits t path) false)

-- all are bytes
abbrev pub AreBytes : List ℕ → Type 0
AreBytes [] = Unit {0}
AreBytes (b ∷ path) = (b < 256) × AreBytes path

-- a pattern of bytes, with a parameter at most at its end
abbrev pub IsPlain : List ℕ → Type 0
IsPlain [] = Unit {0}
IsPlain (x ∷ t) = ((x < 256) × IsPlain t) ⊎ ((x ≡ 256) × (t ≡ []))

abbrev pub ArePlain : {K : Type 0} → RowsOf K → Type 0
ArePlain [] = Unit {0}
ArePlain ((t, key) ∷ rest) = IsPlain t × ArePlain rest

-- nothing is left of the patterns
abbrev pub AreEmpty : {K : Type 0} → RowsOf K → Type 0
AreEmpty [] = Unit {0}
AreEmpty ((t, key) ∷ rest) = (t ≡ []) × AreEmpty rest

-- a row with this key has the path
abbrev pub AnyHit : {K : Type 0} → RowsOf K → List ℕ → K → Type 0
AnyHit [] path key = ⊥
AnyHit ((t, j) ∷ rest) path key = ((hits t path ≡ true) × (j ≡ key)) ⊎ AnyHit rest path key

-- no row has the path
abbrev pub NoHit : {K : Type 0} → RowsOf K → List ℕ → Type 0
NoHit [] path = Unit {0}
NoHit ((t, key) ∷ rest) path = (hits t path ≡ false) × NoHit rest path

-- the answer is the key of a row that has the path, or no row has it
abbrev pub IsRight : {K : Type 0} → Option K → RowsOf K → List ℕ → Type 0
IsRight (Some key) rows path = AnyHit rows path key
IsRight None rows path = NoHit rows path

-- what a parameter at the start of the patterns gives
abbrev pub param_of : {K : Type 0} → RowsOf K → List ℕ → Option K
param_of rows path = cond (is_part path) (own (step 256 rows)) None

not_param : (x : ℕ) → x < 256 → (x == 256) ≡ false
not_param x lt = ne_eqb x 256 (λ e. absurd (omega arith))

not_byte : (x b : ℕ) → x ≡ 256 → b < 256 → (x == b) ≡ false
not_byte x b e lt = ne_eqb x b (λ same. absurd (omega arith))

is_param : (x : ℕ) → x ≡ 256 → (x == 256) ≡ true
is_param x e = ap (λ n. n == 256) e

not_catch_all : (x : ℕ) → x < 257 → (x == 257) ≡ false
not_catch_all x lt = ne_eqb x 257 (λ e. absurd (omega arith))

-- the end of the path
more : {K : Type 0} (o : Option K) (t : List ℕ) (key : K) (rest : RowsOf K) (path : List ℕ)
    → hits t path ≡ false → IsRight o rest path → IsRight o ((t, key) ∷ rest) path
more (Some j) t key rest path h r = inr r
more None t key rest path h r = (h, r)

own_right : {K : Type 0} (rows : RowsOf K) → IsRight (own rows) rows []
own_right [] = tt
own_right (([], key) ∷ rest) = inl (refl, refl)
own_right ((x ∷ t, key) ∷ rest) = more (own rest) (x ∷ t) key rest [] refl (own_right rest)

-- a hit after a byte is a hit
kept_any : {K : Type 0} (x b : ℕ) (t path : List ℕ) (j key : K) (rest : RowsOf K)
    → (x == 256) ≡ false → (x == b) ≡ true → (AnyHit (step b rest) path key → AnyHit rest (b ∷ path) key)
    → AnyHit ((t, j) ∷ step b rest) path key → AnyHit ((x ∷ t, j) ∷ rest) (b ∷ path) key
kept_any x b t path j key rest f e go (inl w) = inl (rw (f, e) w.0, w.1)
kept_any x b t path j key rest f e go (inr w) = inr (go w)

row_any : {K : Type 0} (x b : ℕ) (t path : List ℕ) (j key : K) (rest : RowsOf K) → b < 256
    → ((x == b ≡ true) × (x ≡ b)) ⊎ ((x == b ≡ false) × (x ≡ b → ⊥))
    → (AnyHit (step b rest) path key → AnyHit rest (b ∷ path) key)
    → AnyHit (step b ((x ∷ t, j) ∷ rest)) path key → AnyHit ((x ∷ t, j) ∷ rest) (b ∷ path) key
row_any x b t path j key rest lt (inl w) go h =
    kept_any x b t path j key rest (not_param x (omega arith)) w.0 go (rw w.0 at h)
row_any x b t path j key rest lt (inr w) go h = inr (go (rw w.0 at h))

step_any : {K : Type 0} (b : ℕ) (path : List ℕ) (key : K) (rows : RowsOf K) → b < 256
    → AnyHit (step b rows) path key → AnyHit rows (b ∷ path) key
step_any b path key [] lt h = h
step_any b path key (([], j) ∷ rest) lt h = inr (step_any b path key rest lt h)
step_any b path key ((x ∷ t, j) ∷ rest) lt h =
    row_any x b t path j key rest lt (eqb_tells x b) (step_any b path key rest lt) h

-- what a parameter gives is a hit
some_inj : {K : Type 0} (q : Bool) (j key : K) → cond q (Some j) None ≡ Some key → (q ≡ true) × (j ≡ key)
some_inj true j key e = (refl, cc)
some_inj false j key e = absurd (cc)

param_end : {K : Type 0} (x b : ℕ) (t path : List ℕ) (j key : K) (rest : RowsOf K) → x ≡ 256 → t ≡ []
    → param_of ((x ∷ t, j) ∷ rest) (b ∷ path) ≡ Some key → AnyHit ((x ∷ t, j) ∷ rest) (b ∷ path) key
param_end x b [] path j key rest ex et e =
    let f = some_inj (is_part (b ∷ path)) j key (rw (is_param x ex) at e) in inl (rw (is_param x ex) f.0, f.1)
param_end x b (y ∷ t) path j key rest ex et e = absurd (cc)

param_row : {K : Type 0} (x b : ℕ) (t path : List ℕ) (j key : K) (rest : RowsOf K) → IsPlain (x ∷ t)
    → (param_of rest (b ∷ path) ≡ Some key → AnyHit rest (b ∷ path) key)
    → param_of ((x ∷ t, j) ∷ rest) (b ∷ path) ≡ Some key → AnyHit ((x ∷ t, j) ∷ rest) (b ∷ path) key
param_row x b t path j key rest (inl w) go e = inr (go (rw (not_param x w.0) at e))
param_row x b t path j key rest (inr w) go e = param_end x b t path j key rest w.0 w.1 e

no_key : {K : Type 0} (q : Bool) (key : K) → cond q None None ≡ Some key → ⊥
no_key true key e = cc
no_key false key e = cc

param_any : {K : Type 0} (b : ℕ) (path : List ℕ) (key : K) (rows : RowsOf K) → ArePlain rows
    → param_of rows (b ∷ path) ≡ Some key → AnyHit rows (b ∷ path) key
param_any b path key [] s e = no_key (is_part (b ∷ path)) key e
param_any b path key (([], j) ∷ rest) s e = inr (param_any b path key rest s.1 e)
param_any b path key ((x ∷ t, j) ∷ rest) s e =
    param_row x b t path j key rest s.0 (param_any b path key rest s.1) e

-- where neither finds anything, no row has the path
none_inj : {K : Type 0} (q : Bool) (j : K) → cond q (Some j) None ≡ None → q ≡ false
none_inj true j e = absurd (cc)
none_inj false j e = refl

byte_none : {K : Type 0} (x b : ℕ) (t path : List ℕ) (j : K) (rest : RowsOf K) → x < 256
    → ((x == b ≡ true) × (x ≡ b)) ⊎ ((x == b ≡ false) × (x ≡ b → ⊥))
    → (NoHit (step b rest) path → NoHit rest (b ∷ path))
    → NoHit (step b ((x ∷ t, j) ∷ rest)) path → NoHit ((x ∷ t, j) ∷ rest) (b ∷ path)
byte_none x b t path j rest lt (inl w) go h =
    let kept = rw w.0 at h in (rw (not_param x lt, w.0) kept.0, go kept.1)
byte_none x b t path j rest lt (inr w) go h = (rw (not_param x lt, w.0) refl, go (rw w.0 at h))

end_none : {K : Type 0} (x b : ℕ) (t path : List ℕ) (j : K) (rest : RowsOf K) → b < 256 → x ≡ 256 → t ≡ []
    → (NoHit (step b rest) path → param_of rest (b ∷ path) ≡ None → NoHit rest (b ∷ path))
    → NoHit (step b ((x ∷ t, j) ∷ rest)) path → param_of ((x ∷ t, j) ∷ rest) (b ∷ path) ≡ None
    → NoHit ((x ∷ t, j) ∷ rest) (b ∷ path)
end_none x b [] path j rest lt ex et go h e =
    let part : is_part (b ∷ path) ≡ false = none_inj (is_part (b ∷ path)) j (rw (is_param x ex) at e) in
    let gone : param_of rest (b ∷ path) ≡ None = ap (λ q. cond q (own (step 256 rest)) None) part in
    (rw (is_param x ex) part, go (rw (not_byte x b ex lt) at h) gone)
end_none x b (y ∷ t) path j rest lt ex et go h e = absurd (cc)

row_none : {K : Type 0} (x b : ℕ) (t path : List ℕ) (j : K) (rest : RowsOf K) → b < 256 → IsPlain (x ∷ t)
    → (NoHit (step b rest) path → param_of rest (b ∷ path) ≡ None → NoHit rest (b ∷ path))
    → NoHit (step b ((x ∷ t, j) ∷ rest)) path → param_of ((x ∷ t, j) ∷ rest) (b ∷ path) ≡ None
    → NoHit ((x ∷ t, j) ∷ rest) (b ∷ path)
row_none x b t path j rest lt (inl w) go h e =
    let gone = rw (not_param x w.0) at e in byte_none x b t path j rest w.0 (eqb_tells x b) (λ n. go n gone) h
row_none x b t path j rest lt (inr w) go h e = end_none x b t path j rest lt w.0 w.1 go h e

no_hit : {K : Type 0} (b : ℕ) (path : List ℕ) (rows : RowsOf K) → b < 256 → ArePlain rows
    → NoHit (step b rows) path → param_of rows (b ∷ path) ≡ None → NoHit rows (b ∷ path)
no_hit b path [] lt s h e = tt
no_hit b path (([], j) ∷ rest) lt s h e = (refl, no_hit b path rest lt s.1 h e)
no_hit b path ((x ∷ t, j) ∷ rest) lt s h e =
    row_none x b t path j rest lt s.0 (no_hit b path rest lt s.1) h e

-- what a parameter's step finds
longest_none : {K : Type 0} (seg : List ℕ) (rows : RowsOf K) → AreEmpty rows → longest_from seg [] rows ≡ []
longest_none seg [] s = refl
longest_none seg (([], j) ∷ rest) s = longest_none seg rest s.1
longest_none seg ((x ∷ t, j) ∷ rest) s = absurd (gone s.0)
  where
    gone : x ∷ t ≡ [] → ⊥
    gone e = cc

param_step_is : {K : Type 0} (rows : RowsOf K) (path : List ℕ) → AreEmpty rows
    → param_step rows path ≡ cond (has_slash path) (0, []) (length path, rows)
unfolding param_step
param_step_is rows path s = rw (longest_none (segment path) rows s) refl

seek_cons : {K : Type 0} (rows : RowsOf K) (b : ℕ) (path : List ℕ)
    → seek 0 rows (b ∷ path)
    ≡ or_else (seek 0 (step b rows) path)
    (or_else (seek ((param_step (step 256 rows) (b ∷ path)).0 - 1) (param_step (step 256 rows) (b ∷ path)).1 path)
    (own (step 257 rows)))
unfolding seek
seek_cons rows b path = refl

seek_skip : {K : Type 0} (n : ℕ) (rows : RowsOf K) (b : ℕ) (path : List ℕ) → seek (suc n) rows (b ∷ path) ≡ seek n rows path
unfolding seek
seek_skip n rows b path = refl

seek_end : {K : Type 0} (n : ℕ) (rows : RowsOf K) → seek n rows [] ≡ own rows
unfolding seek
seek_end zero rows = refl
seek_end (suc n) rows = refl

after_slash : (K : Type 0) (s : Bool) (n : ℕ) (rows : RowsOf K) → rows ≡ [] → (cond {A = ℕ × RowsOf K} s (0, []) (n, rows)).1 ≡ []
after_slash K true n rows e = refl
after_slash K false n rows e = e

param_none : (K : Type 0) (path : List ℕ) → (param_step {K = K} [] path).1 ≡ []
param_none K path = rw (param_step_is {K = K} [] path tt) (after_slash K (has_slash path) (length path) [] refl)

-- no row, no answer
seek_nothing : (K : Type 0) (n : ℕ) (path : List ℕ) → seek {K = K} n [] path ≡ None
seek_nothing K n [] = seek_end {K = K} n []
seek_nothing K (suc n) (b ∷ path) = seek_skip {K = K} n [] b path ∙ seek_nothing K n path
seek_nothing K zero (b ∷ path) =
    seek_cons {K = K} [] b path
    ∙ rw (
      seek_nothing K 0 path,
      param_none K (b ∷ path),
      seek_nothing K ((param_step {K = K} [] (b ∷ path)).0 - 1) path,
    ) refl

-- past the end of the path
seek_past : {K : Type 0} (rows : RowsOf K) (path : List ℕ) (n : ℕ) → n ≡ length path → seek n rows path ≡ own rows
seek_past rows [] n e = seek_end n rows
seek_past rows (b ∷ path) zero e = absurd (omega arith)
seek_past rows (b ∷ path) (suc n) e = seek_skip n rows b path ∙ seek_past rows path n (omega arith)

slash_not : (path : List ℕ) → lacks_slash path ≡ not (has_slash path)
slash_not [] = refl
slash_not (b ∷ path) = at_byte (b == 47) (slash_not path)
  where
    at_byte : (q : Bool) → lacks_slash path ≡ not (has_slash path)
        → cond q false (lacks_slash path) ≡ not (cond q true (has_slash path))
    at_byte true e = refl
    at_byte false e = e

param_sought : {K : Type 0} (s : Bool) (rows : RowsOf K) (b : ℕ) (path : List ℕ)
    → seek ((cond {A = ℕ × RowsOf K} s (0, []) (length (b ∷ path), rows)).0 - 1)
    (cond {A = ℕ × RowsOf K} s (0, []) (length (b ∷ path), rows)).1 path
    ≡ cond (not s) (own rows) None
param_sought {K} true rows b path = seek_nothing K 0 path
param_sought false rows b path = seek_past rows path (length (b ∷ path) - 1) (omega arith)

param_found : {K : Type 0} (rows : RowsOf K) (b : ℕ) (path : List ℕ) → AreEmpty rows
    → seek ((param_step rows (b ∷ path)).0 - 1) (param_step rows (b ∷ path)).1 path
    ≡ cond (is_part (b ∷ path)) (own rows) None
param_found rows b path s =
    rw (param_step_is rows (b ∷ path) s) (param_sought (has_slash (b ∷ path)) rows b path)
    ∙ ap (λ q. cond q (own rows) None) (sym (slash_not (b ∷ path)))

-- the rows of a plain pattern after a parameter and after a catch-all
param_empty : {K : Type 0} (rows : RowsOf K) → ArePlain rows → AreEmpty (step 256 rows)
param_empty [] s = tt
param_empty (([], j) ∷ rest) s = param_empty rest s.1
param_empty ((x ∷ t, j) ∷ rest) s = at_row s.0 (param_empty rest s.1)
  where
    at_row : IsPlain (x ∷ t) → AreEmpty (step 256 rest) → AreEmpty (step 256 ((x ∷ t, j) ∷ rest))
    at_row (inl w) go = rw (not_param x w.0) go
    at_row (inr w) go = rw (is_param x w.0) (w.1, go)

no_catch_all : {K : Type 0} (rows : RowsOf K) → ArePlain rows → step 257 rows ≡ []
no_catch_all [] s = refl
no_catch_all (([], j) ∷ rest) s = no_catch_all rest s.1
no_catch_all ((x ∷ t, j) ∷ rest) s = at_row s.0 (no_catch_all rest s.1)
  where
    at_row : IsPlain (x ∷ t) → step 257 rest ≡ [] → step 257 ((x ∷ t, j) ∷ rest) ≡ []
    at_row (inl w) go = rw (not_catch_all x (omega arith)) go
    at_row (inr w) go = rw (not_catch_all x (omega arith)) go

step_plain : {K : Type 0} (b : ℕ) (rows : RowsOf K) → b < 256 → ArePlain rows → ArePlain (step b rows)
step_plain b [] lt s = tt
step_plain b (([], j) ∷ rest) lt s = step_plain b rest lt s.1
step_plain b ((x ∷ t, j) ∷ rest) lt s = at_row s.0 (eqb_tells x b) (step_plain b rest lt s.1)
  where
    at_row : IsPlain (x ∷ t) → ((x == b ≡ true) × (x ≡ b)) ⊎ ((x == b ≡ false) × (x ≡ b → ⊥))
        → ArePlain (step b rest) → ArePlain (step b ((x ∷ t, j) ∷ rest))
    at_row (inl w) (inl v) go = rw v.0 (w.1, go)
    at_row (inr w) (inl v) go = absurd (omega arith)
    at_row w (inr v) go = rw v.0 go

combined : {K : Type 0} (b : ℕ) (path : List ℕ) (rows : RowsOf K) (first other : Option K) → b < 256 → ArePlain rows
    → IsRight first (step b rows) path → other ≡ param_of rows (b ∷ path)
    → IsRight (or_else first (or_else other None)) rows (b ∷ path)
combined b path rows (Some key) other lt s r e = step_any b path key rows lt r
combined b path rows None (Some key) lt s r e = param_any b path key rows s (sym e)
combined b path rows None None lt s r e = no_hit b path rows lt s r (sym e)

-- what the router finds is right
pub seek_right : {K : Type 0} (path : List ℕ) (rows : RowsOf K) → ArePlain rows → AreBytes path
    → IsRight (seek 0 rows path) rows path
seek_right [] rows s h = rw (seek_end 0 rows) (own_right rows)
seek_right (b ∷ path) rows s h =
    rw (seek_cons rows b path, no_catch_all rows s) (
    combined b path rows (seek 0 (step b rows) path)
    (seek ((param_step (step 256 rows) (b ∷ path)).0 - 1) (param_step (step 256 rows) (b ∷ path)).1 path)
    h.0 s
    (seek_right path (step b rows) (step_plain b rows h.0 s) h.1)
    (param_found (step 256 rows) b path (param_empty rows s))
    )
