-- Lists of the items of a set, and the rows of its constraints.
use Rattle.std.proofs.Common.{◌≡◌, ◌⊎◌, ℕ, zero, suc, ◌+◌, ◌<◌, ◌≤◌, arith, Bool, true, false, if◌then◌else◌, IsTrue, List, [], ◌∷◌, ◌++◌, length}
use Rattle.std.proofs.Common.{map, take, drop, Some, slice_get, inl, inr, refl, sym, ap, ap₂, ◌∙◌, add-zero, append_assoc}
use Rattle.std.proofs.lemmas.List.{map-append, take_at, drop_at, take-map, drop-map}
use Rattle.std.proofs.lemmas.Option.{none-some, same_Some}
use Rattle.dcx_atom.specs.Arrays.{list_below}
use Rattle.dcx_atom.proofs.BoundRows.{length-list_below}
use Rattle.dcx_convex.specs.Nodes.{Numbers}
use Rattle.dcx_convex.specs.Reductions.{Unknowns}
use Rattle.dcx_tree.specs.declared.constraint.Constraint.{Constraint}
use Rattle.dcx_tree.specs.Meaning.{convex_constraint}
use Rattle.dcx_right.specs.ConstraintSets.{ConstraintSet}
use Rattle.dcx_linear.specs.declared.row.Row.{Row}
use Rattle.dcx_linear.specs.Widths.{rows_width}
use Rattle.dcx_linear.specs.Rows.{RowAt}
use Rattle.dcx_unknowns.specs.Layout.{constraint_rows}
use Rattle.dcx_postsolve.specs.Programs.{gap_row, gap_rows}
use Rattle.dcx_iis.specs.Steps.{kept_from, rows_from}

-- ---- the items of a set
-- an item that is kept where a flag is set, in front of others
abbrev pub one_if : {A : Type 0} → Bool → A → List A → List A
one_if b x rest = (if b then x ∷ [] else []) ++ rest

behind_one : {A : Type 0} (b : Bool) (y : A) (rest : List A) (n : ℕ) (x : A) → slice_get rest n ≡ Some x → (m : ℕ) × (slice_get (one_if b y rest) m ≡ Some x)
behind_one true y rest n x e = (suc n, e)
behind_one false y rest n x e = (n, e)

ahead_of : {A : Type 0} (b : Bool) (y : A) (rest : List A) (n : ℕ) (x : A) → slice_get (one_if b y rest) n ≡ Some x → ((b ≡ true) × (y ≡ x)) ⊎ ((m : ℕ) × (slice_get rest m ≡ Some x))
ahead_of true y rest zero x e = inl (refl, same_Some y x e)
ahead_of true y rest (suc n) x e = inr (n, e)
ahead_of false y rest n x e = inr (n, e)

pub map-one : {A B : Type 0} (f : A → B) (b : Bool) (x : A) (rest : List A) → map f (one_if b x rest) ≡ one_if b (f x) (map f rest)
map-one f true x rest = refl
map-one f false x rest = refl

module _ {A : Type 0} (set : ConstraintSet) where
  -- an item of the set is kept
  pub kept_at : (i : ℕ) (xs : List A) (k : ℕ) (x : A) → slice_get xs k ≡ Some x → IsTrue (set (i + k)) → (n : ℕ) × (slice_get (kept_from set i xs) n ≡ Some x)
  kept_at i [] k x e t = absurd (none-some x e)
  kept_at i (y ∷ ys) zero x e t = (0, ap (λ (b : Bool). slice_get (one_if b y (kept_from set (suc i) ys)) 0) (ap set (sym (add-zero i)) ∙ t) ∙ e)
  kept_at i (y ∷ ys) (suc k) x e t =
      let q : i + suc k ≡ suc i + k = omega arith in
      let (n, at) = kept_at (suc i) ys k x e (ap set (sym q) ∙ t) in
      behind_one (set i) y (kept_from set (suc i) ys) n x at

  -- an item that is kept is one of the set
  pub kept_is : (i : ℕ) (xs : List A) (n : ℕ) (x : A) → slice_get (kept_from set i xs) n ≡ Some x → (k : ℕ) × (slice_get xs k ≡ Some x) × IsTrue (set (i + k))
  kept_is i [] n x e = absurd (none-some x e)
  kept_is i (y ∷ ys) n x e = by (λ m. kept_is (suc i) ys m x) (ahead_of (set i) y (kept_from set (suc i) ys) n x e)
    where
      by : ((m : ℕ) → slice_get (kept_from set (suc i) ys) m ≡ Some x → (k : ℕ) × (slice_get ys k ≡ Some x) × IsTrue (set (suc i + k))) →
          ((set i ≡ true) × (y ≡ x)) ⊎ ((m : ℕ) × (slice_get (kept_from set (suc i) ys) m ≡ Some x)) → (k : ℕ) × (slice_get (y ∷ ys) k ≡ Some x) × IsTrue (set (i + k))
      by rest (inl h) = (0, ap Some h.1, ap set (add-zero i) ∙ h.0)
      by rest (inr h) =
          let (k, at, t) = rest h.0 h.1 in
          let q : i + suc k ≡ suc i + k = omega arith in
          (suc k, at, ap set q ∙ t)

  pub kept_push : (i : ℕ) (xs : List A) (x : A) → kept_from set i (xs ++ x ∷ []) ≡ kept_from set i xs ++ one_if (set (i + length xs)) x []
  kept_push i [] x = ap (λ n. one_if (set n) x []) (sym (add-zero i))
  kept_push i (y ∷ ys) x =
      let q : suc i + length ys ≡ i + suc (length ys) = omega arith in
      ap (one_if (set i) y) (kept_push (suc i) ys x ∙ ap (λ n. kept_from set (suc i) ys ++ one_if (set n) x []) q)
      ∙ sym (append_assoc (if set i then y ∷ [] else []) (kept_from set (suc i) ys) (one_if (set (i + suc (length ys))) x []))

-- sets that have the same of the items keep the same
pub kept_same : {A : Type 0} (a b : ConstraintSet) (i : ℕ) (xs : List A) → ((k : ℕ) → i ≤ k → k < i + length xs → a k ≡ b k) → kept_from a i xs ≡ kept_from b i xs
kept_same a b i [] h = refl
kept_same a b i (x ∷ xs) h =
    ap₂ (λ (t : Bool) rest. one_if t x rest) (h i (omega arith) (omega arith)) (kept_same a b (suc i) xs (λ k l m. h k (omega (arith, l)) (omega (arith, m))))

-- ---- rows
map-if : {A B : Type 0} (f : A → B) (b : Bool) (xs : List A) → map f (if b then xs else []) ≡ (if b then map f xs else [])
map-if f true xs = refl
map-if f false xs = refl

module _ (set : ConstraintSet) where
  pub map-rows : {A B : Type 0} (f : A → B) (i : ℕ) (cs : List Constraint) (rows : List A) → map f (rows_from set i cs rows) ≡ rows_from set i cs (map f rows)
  map-rows f i [] rows = refl
  map-rows f i (c ∷ cs) rows =
      let n = constraint_rows c in
      map-append f (if set i then take n rows else []) (rows_from set (suc i) cs (drop n rows))
      ∙ ap₂ (λ xs ys. xs ++ ys)
      (map-if f (set i) (take n rows) ∙ ap (λ xs. if set i then xs else []) (sym (take-map f n rows)))
      (map-rows f (suc i) cs (drop n rows) ∙ ap (rows_from set (suc i) cs) (sym (drop-map f n rows)))

  -- the rows of the constraints of the set are those of the constraints that are kept
  module _ (forms : Unknowns → ℕ → Numbers) where
    gaps_one : (b : Bool) (c : Constraint) (cs : List Constraint) (rest : List RowAt) →
        (if b then list_below (constraint_rows c) (gap_row forms (convex_constraint c)) else []) ++ (gap_rows forms (map convex_constraint cs) ++ rest)
        ≡ gap_rows forms (map convex_constraint (one_if b c cs)) ++ rest
    gaps_one true c cs rest = sym (append_assoc (list_below (constraint_rows c) (gap_row forms (convex_constraint c))) (gap_rows forms (map convex_constraint cs)) rest)
    gaps_one false c cs rest = refl

    pub rows_gaps : (i : ℕ) (cs : List Constraint) (rest : List RowAt)
        → rows_from set i cs (gap_rows forms (map convex_constraint cs) ++ rest) ≡ gap_rows forms (map convex_constraint (kept_from set i cs)) ++ rest
    rows_gaps i [] rest = refl
    rows_gaps i (c ∷ cs) rest =
        let n = constraint_rows c in
        let own = list_below n (gap_row forms (convex_constraint c)) in
        let behind = gap_rows forms (map convex_constraint cs) ++ rest in
        let all = append_assoc own (gap_rows forms (map convex_constraint cs)) rest in
        let count = length-list_below n (gap_row forms (convex_constraint c)) in
        ap₂ (λ xs ys. (if set i then xs else []) ++ rows_from set (suc i) cs ys) (ap (take n) all ∙ take_at own behind n count) (ap (drop n) all ∙ drop_at own behind n count)
        ∙ ap (λ ys. (if set i then own else []) ++ ys) (rows_gaps (suc i) cs rest)
        ∙ gaps_one (set i) c (kept_from set (suc i) cs) rest

-- sets that have the same of the constraints keep the same rows
pub rows_same : {A : Type 0} (a b : ConstraintSet) (i : ℕ) (cs : List Constraint) (rows : List A) → ((k : ℕ) → i ≤ k → k < i + length cs → a k ≡ b k) → rows_from a i cs rows ≡ rows_from b i cs rows
rows_same a b i [] rows h = refl
rows_same a b i (c ∷ cs) rows h =
    ap₂ (λ (t : Bool) rest. (if t then take (constraint_rows c) rows else []) ++ rest) (h i (omega arith) (omega arith))
    (rows_same a b (suc i) cs (drop (constraint_rows c) rows) (λ k l m. h k (omega (arith, l)) (omega (arith, m))))

-- ---- widths
module _ {C : Type 0} (n : ℕ) where
  width_append : (xs ys : List (Row C)) → rows_width xs ≤ n → rows_width ys ≤ n → rows_width (xs ++ ys) ≤ n
  width_append [] ys h k = k
  width_append (x ∷ xs) ys h k = let rest : rows_width (xs ++ ys) ≤ n = width_append xs ys (omega (arith, h)) k in omega (arith, rest, h)

  width_take : (m : ℕ) (xs : List (Row C)) → rows_width xs ≤ n → rows_width (take m xs) ≤ n
  width_take zero xs h = omega arith
  width_take (suc m) [] h = omega arith
  width_take (suc m) (x ∷ xs) h = let rest : rows_width (take m xs) ≤ n = width_take m xs (omega (arith, h)) in omega (arith, rest, h)

  width_drop : (m : ℕ) (xs : List (Row C)) → rows_width xs ≤ n → rows_width (drop m xs) ≤ n
  width_drop zero xs h = h
  width_drop (suc m) [] h = h
  width_drop (suc m) (x ∷ xs) h = width_drop m xs (omega (arith, h))

  width_if : (b : Bool) (xs : List (Row C)) → rows_width xs ≤ n → rows_width (if b then xs else []) ≤ n
  width_if true xs h = h
  width_if false xs h = omega arith

  -- the rows of a set name no further unknowns
  pub rows_within : (set : ConstraintSet) (i : ℕ) (cs : List Constraint) (rows : List (Row C)) → rows_width rows ≤ n → rows_width (rows_from set i cs rows) ≤ n
  rows_within set i [] rows h = h
  rows_within set i (c ∷ cs) rows h =
      let m = constraint_rows c in
      width_append (if set i then take m rows else []) (rows_from set (suc i) cs (drop m rows)) (width_if (set i) (take m rows) (width_take m rows h))
      (rows_within set (suc i) cs (drop m rows) (width_drop m rows h))
