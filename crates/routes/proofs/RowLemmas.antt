-- What a path finds in rows without parameters: the row that is the path, else the longest front of
-- it that ends in a catch-all.
use Rattle.std.proofs.Common.{◌≡◌, ℕ, zero, suc, ◌-◌, ◌==◌, ◌&&◌, ◌||◌, Bool, true, false, cond, List, [], ◌∷◌, ◌++◌, length, Option, Some, None, nat_eq, nat_lt, refl, sym, ap, ap₂, ◌∙◌, arith}
use Rattle.std.proofs.lemmas.Bool.{false≢true, eqb-true, lt-ltb, ltb-true, ltb-false, le-ltb}
use Rattle.std.specs.List.{list_any, starts_with}
use Rattle.matchit.specs.Rows.{RowsOf}
use Rattle.matchit.specs.Order.{lookup}
use Rattle.matchit.specs.Seek.{has_slash, same_text, own, step, or_else, seek, param_step}
use Rattle.routes.specs.Targets.{is_below}

abbrev is_param : ℕ → Bool
is_param token = token == 256

-- ---- a path that continues

nat_lt-suc : (m n : ℕ) → nat_lt (suc m) (suc n) ≡ nat_lt m n
nat_lt-suc m n = by (nat_lt m n) refl
  where
    by : (less : Bool) → nat_lt m n ≡ less → nat_lt (suc m) (suc n) ≡ less
    by true is = let less = ltb-true m n is in lt-ltb (suc m) (suc n) (omega arith)
    by false is = let most = ltb-false m n is in le-ltb (suc m) (suc n) (omega arith)

is_below-cons : (x b : ℕ) (front path : List ℕ)
    → is_below (x ∷ front) (b ∷ path) ≡ ((x == b) && is_below front path)
is_below-cons x b front path =
    ap (λ less. ((x == b) && starts_with nat_eq path front) && less)
    (nat_lt-suc (length front) (length path))
    ∙ by (x == b)
  where
    by : (same : Bool)
        → ((same && starts_with nat_eq path front) && nat_lt (length front) (length path))
        ≡ (same && is_below front path)
    by true = refl
    by false = refl

-- ---- the answers one after another

or_else-none : {K : Type 0} (a : Option K) → or_else a None ≡ a
or_else-none None = refl
or_else-none (Some x) = refl

or_else-assoc : {K : Type 0} (a b c : Option K) → or_else (or_else a b) c ≡ or_else a (or_else b c)
or_else-assoc None b c = refl
or_else-assoc (Some x) b c = refl

module _ {K : Type 0} where
  -- no row has a parameter
  abbrev pub Plain : RowsOf K → Type 0
  Plain [] = Unit {0}
  Plain ((t, key) ∷ rest) = (list_any is_param t ≡ false) × Plain rest

  abbrev no_rows : RowsOf K
  no_rows = []

  param_step-empty : (path : List ℕ) → (param_step {K = K} [] path).1 ≡ []
  unfolding param_step
  param_step-empty path = by (has_slash path)
    where
      by : (b : Bool) → (cond {A = ℕ × RowsOf K} b (0, no_rows) (length path, no_rows)).1 ≡ []
      by true = refl
      by false = refl

  seek-empty : (skip : ℕ) (path : List ℕ) → seek {K = K} skip [] path ≡ None
  unfolding seek
  seek-empty skip [] = refl
  seek-empty (suc skip) (b ∷ path) = seek-empty skip path
  seek-empty zero (b ∷ path) =
      rw (
        param_step-empty (b ∷ path),
        seek-empty 0 path,
        seek-empty
            ((param_step {K = K} [] (b ∷ path)).0 - 1) path,
      ) refl

  step-param : (rows : RowsOf K) → Plain rows → step 256 rows ≡ []
  step-param [] plain = refl
  step-param (([], key) ∷ rest) plain = step-param rest plain.1
  step-param ((x ∷ t, key) ∷ rest) plain = by (x == 256) plain.0 (step-param rest plain.1)
    where
      by : (b : Bool) → (b || list_any is_param t) ≡ false → step 256 rest ≡ []
          → cond b ((t, key) ∷ step 256 rest) (step 256 rest) ≡ []
      by true none later = absurd (false≢true (sym none))
      by false none later = later

  step-plain : (b : ℕ) (rows : RowsOf K) → Plain rows → Plain (step b rows)
  step-plain b [] plain = tt
  step-plain b (([], key) ∷ rest) plain = step-plain b rest plain.1
  step-plain b ((x ∷ t, key) ∷ rest) plain = by (x == b) (x == 256) plain.0
      (step-plain b rest plain.1)
    where
      by : (hit param : Bool) → (param || list_any is_param t) ≡ false → Plain (step b rest)
          → Plain (cond hit ((t, key) ∷ step b rest) (step b rest))
      by true true none later = absurd (false≢true (sym none))
      by true false none later = (none, later)
      by false param none later = later

  seek-plain : (rows : RowsOf K) (b : ℕ) (path : List ℕ) → Plain rows
      → seek 0 rows (b ∷ path) ≡ or_else (seek 0 (step b rows) path) (own (step 257 rows))
  unfolding seek
  seek-plain rows b path plain =
      rw (
        step-param rows plain,
        param_step-empty (b ∷ path),
        seek-empty
            ((param_step {K = K} [] (b ∷ path)).0 - 1) path,
      ) refl

  -- ---- the row that is the path

  own-lookup : (rows : RowsOf K) → own rows ≡ lookup [] rows
  own-lookup [] = refl
  own-lookup (([], key) ∷ rest) = refl
  own-lookup ((x ∷ t, key) ∷ rest) = own-lookup rest

  lookup-step : (b : ℕ) (path : List ℕ) (rows : RowsOf K) → lookup path (step b rows)
      ≡ lookup (b ∷ path) rows
  lookup-step b path [] = refl
  lookup-step b path (([], key) ∷ rest) = lookup-step b path rest
  lookup-step b path ((x ∷ t, key) ∷ rest) = by (x == b) (lookup-step b path rest)
    where
      by : (hit : Bool) → lookup path (step b rest) ≡ lookup (b ∷ path) rest
          → lookup path (cond hit ((t, key) ∷ step b rest) (step b rest))
          ≡ cond (hit && same_text t path) (Some key) (lookup (b ∷ path) rest)
      by true later = ap (λ r. cond (same_text t path) (Some key) r) later
      by false later = later

  -- ---- the longest front that ends in a catch-all

  abbrev pub caught : RowsOf K → List ℕ → Option K
  caught rows [] = None
  caught rows (b ∷ path) = or_else (caught (step b rows) path) (own (step 257 rows))

  pub seek-is : (rows : RowsOf K) (path : List ℕ) → Plain rows
      → seek 0 rows path ≡ or_else (lookup path rows) (caught rows path)
  unfolding seek
  seek-is rows [] plain = own-lookup rows ∙ sym (or_else-none (lookup [] rows))
  seek-is rows (b ∷ path) plain =
      seek-plain rows b path plain
      ∙ ap (λ r. or_else r (own (step 257 rows)))
      (seek-is (step b rows) path (step-plain b rows plain)
      ∙ ap (λ r. or_else r (caught (step b rows) path)) (lookup-step b path rows))
      ∙ or_else-assoc (lookup (b ∷ path) rows) (caught (step b rows) path) (own (step 257 rows))

  caught-empty : (path : List ℕ) → caught [] path ≡ None
  caught-empty [] = refl
  caught-empty (b ∷ path) = ap (λ r. or_else r None) (caught-empty path)

  -- rows without a catch-all catch nothing
  abbrev pub catching : RowsOf K → RowsOf K
  catching [] = []
  catching ((t, key) ∷ rest) =
      cond (list_any (λ x. x == 257) t) ((t, key) ∷ catching rest) (catching rest)

  catching-own : (rows : RowsOf K) → own (step 257 (catching rows)) ≡ own (step 257 rows)
  catching-own [] = refl
  catching-own (([], key) ∷ rest) = catching-own rest
  catching-own ((x ∷ t, key) ∷ rest) = by (x == 257) refl (list_any (λ y. y == 257) t)
      (catching-own rest)
    where
      by : (hit : Bool) → (x == 257) ≡ hit → (any : Bool) → own (step 257 (catching rest))
          ≡ own (step 257 rest)
          → own (step 257 (cond (hit || any) ((x ∷ t, key) ∷ catching rest) (catching rest)))
          ≡ own (cond hit ((t, key) ∷ step 257 rest) (step 257 rest))
      by true is any later = rw is (push t later)
        where
          push : (t : List ℕ) → own (step 257 (catching rest)) ≡ own (step 257 rest)
              → own ((t, key) ∷ step 257 (catching rest)) ≡ own ((t, key) ∷ step 257 rest)
          push [] later = refl
          push (y ∷ t) later = later
      by false is true later = rw is later
      by false is false later = later

  catching-step : (b : ℕ) (rows : RowsOf K) → (b == 257) ≡ false → catching (step b rows)
      ≡ step b (catching rows)
  catching-step b [] byte = refl
  catching-step b (([], key) ∷ rest) byte = catching-step b rest byte
  catching-step b ((x ∷ t, key) ∷ rest) byte =
      by (x == b) refl (x == 257) refl (list_any (λ y. y == 257) t) refl (catching-step b rest byte)
    where
      by : (hit : Bool) → (x == b) ≡ hit → (catch : Bool) → (x == 257) ≡ catch
          → (any : Bool) → list_any (λ y. y == 257) t ≡ any
          → catching (step b rest) ≡ step b (catching rest)
          → catching (cond hit ((t, key) ∷ step b rest) (step b rest))
          ≡ step b (cond (catch || any) ((x ∷ t, key) ∷ catching rest) (catching rest))
      by true hits true is any has later =
          absurd (false≢true (sym byte ∙ ap (λ w. w == 257) (sym (eqb-true x b hits)) ∙ is))
      by true hits false is true has later = rw (has, hits) (ap (λ r. (t, key) ∷ r) later)
      by true hits false is false has later = rw has later
      by false hits true is any has later = rw hits later
      by false hits false is true has later = rw hits later
      by false hits false is false has later = later

  pub caught-catching : (rows : RowsOf K) (path : List ℕ) → list_any (λ b. b == 257) path ≡ false
      → caught rows path ≡ caught (catching rows) path
  caught-catching rows [] bytes = refl
  caught-catching rows (b ∷ path) bytes = by (b == 257) refl bytes
      (λ rest. caught-catching (step b rows) path rest)
    where
      by : (catch : Bool) → (b == 257) ≡ catch → (catch || list_any (λ b. b == 257) path) ≡ false
          → (list_any (λ b. b == 257) path ≡ false → caught (step b rows) path
          ≡ caught (catching (step b rows)) path)
          → caught rows (b ∷ path) ≡ caught (catching rows) (b ∷ path)
      by true is none later = absurd (false≢true (sym none))
      by false is none later =
          ap₂ or_else (later none ∙ ap (λ r. caught r path) (catching-step b rows is))
          (sym (catching-own rows))

  -- ---- one row with a catch-all, and two that begin differently

  caught-end : (key : K) (path : List ℕ) → caught (([], key) ∷ []) path ≡ None
  caught-end key [] = refl
  caught-end key (b ∷ path) = ap (λ r. or_else r None) (caught-empty path)

  pub caught-one : (front : List ℕ) (key : K) (path : List ℕ) → list_any (λ b. b == 257) front
      ≡ false
      → caught ((front ++ 257 ∷ [], key) ∷ []) path ≡ cond (is_below front path) (Some key) None
  caught-one [] key [] bytes = refl
  caught-one [] key (b ∷ path) bytes =
      ap (λ r. or_else r (Some key)) (by (257 == b))
      ∙ ap (λ t. cond t (Some key) None) (sym (lt-ltb 0 (length (b ∷ path)) (omega arith)))
    where
      by : (hit : Bool) → caught (cond hit (([], key) ∷ []) []) path ≡ None
      by true = caught-end key path
      by false = caught-empty path
  caught-one (x ∷ front) key [] bytes = refl
  caught-one (x ∷ front) key (b ∷ path) bytes =
      by (x == b) (x == 257) bytes (caught-one front key path)
      ∙ ap (λ t. cond t (Some key) None) (sym (is_below-cons x b front path))
    where
      by : (hit catch : Bool) → (catch || list_any (λ b. b == 257) front) ≡ false
          → (list_any (λ b. b == 257) front ≡ false
          → caught ((front ++ 257 ∷ [], key) ∷ []) path
          ≡ cond (is_below front path) (Some key) None)
          → or_else (caught (cond hit ((front ++ 257 ∷ [], key) ∷ []) []) path)
          (own (cond catch ((front ++ 257 ∷ [], key) ∷ []) []))
          ≡ cond (hit && is_below front path) (Some key) None
      by hit true none later = absurd (false≢true (sym none))
      by true false none later = ap (λ r. or_else r None) (later none) ∙ or_else-none _
      by false false none later = ap (λ r. or_else r None) (caught-empty path)

  pub caught-two : (x y : ℕ) (t u : List ℕ) (key other : K) (path : List ℕ)
      → (x ≡ y → ⊥) → (x == 257) ≡ false → (y == 257) ≡ false
      → caught ((x ∷ t, key) ∷ (y ∷ u, other) ∷ []) path
      ≡ or_else (caught ((x ∷ t, key) ∷ []) path) (caught ((y ∷ u, other) ∷ []) path)
  caught-two x y t u key other [] differ plain plain' = refl
  caught-two x y t u key other (b ∷ path) differ plain plain' =
      rw (plain, plain') (by (x == b) refl (y == b) refl)
    where
      by : (hit : Bool) → (x == b) ≡ hit → (hit' : Bool) → (y == b) ≡ hit'
          → or_else
          (caught (cond hit ((t, key) ∷ cond hit' ((u, other) ∷ []) [])
          (cond hit' ((u, other) ∷ []) [])) path) None
          ≡ or_else (or_else (caught (cond hit ((t, key) ∷ []) []) path) None)
          (or_else (caught (cond hit' ((u, other) ∷ []) []) path) None)
      by true is true is' = absurd (differ (eqb-true x b is ∙ sym (eqb-true y b is')))
      by true is false is' =
          sym (ap (λ r. or_else (or_else (caught ((t, key) ∷ []) path) None) (or_else r None))
          (caught-empty path) ∙ or_else-none _)
      by false is true is' =
          sym (ap (λ r. or_else (or_else r None) (or_else (caught ((u, other) ∷ []) path) None))
          (caught-empty path))
      by false is false is' =
          sym (ap (λ r. or_else (or_else r None) (or_else (caught [] path) None))
          (caught-empty path))
