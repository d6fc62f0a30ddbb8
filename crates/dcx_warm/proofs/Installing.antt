-- Making listed columns basic has one way and one end.
use Rattle.std.proofs.Common.{◌≡◌, ◌≢◌, ℕ, ◌+◌, ◌<◌, ◌≤◌, List, arith, refl, sym, subst, ◌⊎◌, inl, inr}
use Rattle.std.proofs.lemmas.Bool.{cases_lt, cases_eq}
use Rattle.dcx_tab.specs.Rows.{Row}
use Rattle.dcx_tab.specs.Table.{Table, after_pivot, IsOf}
use Rattle.dcx_simplex.specs.Basis.{IsBasic}
use Rattle.dcx_simplex.proofs.Chains.{IsKin}
use Rattle.dcx_warm.specs.Install.{IsSound, IsListed, IsTaken, IsGiving, AllBasic, IsAllowed, Installs, NeverInstalls, InstallsAlike}
use Rattle.dcx_warm.specs.Install.Installs.{Installed, Takes}
use Rattle.dcx_warm.proofs.Pivoting.{IsPivot, sound_next, of_next, kin_same, kin_step, now_basic, still_basic}

module _ (columns : List ℕ) where
  -- ---- one pivot
  taken_by : (t : Table) (c d : ℕ) → IsTaken columns t c → IsTaken columns t d → (c < d) ⊎ (d ≤ c) → (d < c) ⊎ (c ≤ d) → c ≡ d
  taken_by t c d x y (inl l) m = absurd (x.not_basic (y.least c l x.listed))
  taken_by t c d x y (inr l) (inl m) = absurd (y.not_basic (x.least d m y.listed))
  taken_by t c d x y (inr l) (inr m) = omega arith

  taken_one : (t : Table) (c d : ℕ) → IsTaken columns t c → IsTaken columns t d → c ≡ d
  taken_one t c d x y = taken_by t c d x y (cases_lt c d) (cases_lt d c)

  giving_by : (t : Table) (c r s : ℕ) → IsGiving columns t c r → IsGiving columns t c s → (r < s) ⊎ (s ≤ r) → (s < r) ⊎ (r ≤ s) → r ≡ s
  giving_by t c r s x y (inl l) m = absurd (y.first r l x.may)
  giving_by t c r s x y (inr l) (inl m) = absurd (x.first s m y.may)
  giving_by t c r s x y (inr l) (inr m) = omega arith

  giving_one : (t : Table) (c r s : ℕ) → IsGiving columns t c r → IsGiving columns t c s → r ≡ s
  giving_one t c r s x y = giving_by t c r s x y (cases_lt r s) (cases_lt s r)

  pub is_pivot : (t : Table) (c r : ℕ) → IsGiving columns t c r → IsPivot t r c
  is_pivot t c r x = record { row = x.row; some = x.may.some }

  module _ (limit : ℕ) (u : Table) (m : ℕ) where
    -- what follows at a tableau where a column is taken
    pub next : (t : Table) (n : ℕ) → Installs columns limit u m t n → (r c : ℕ) → IsTaken columns t c → IsGiving columns t c r → IsAllowed limit t n r c
        × Installs columns limit u m (after_pivot r c t) (n + 1)
    next t n (Installed a) r c x y = absurd (x.not_basic (a c x.listed))
    next t n (Takes t' n' s d x' y' z rest) r c x y =
        let e = taken_one t' d c x' x in
        let f = giving_one t' c s r (subst (λ k. IsGiving columns t' k s) e y') y in
        subst (λ k. IsAllowed limit t' n' k c × Installs columns limit u m (after_pivot k c t') (n' + 1)) f
        (subst (λ k. IsAllowed limit t' n' s k × Installs columns limit u m (after_pivot s k t') (n' + 1)) e (z, rest))

    -- no row gives up its column
    pub stuck : (t : Table) (n : ℕ) → Installs columns limit u m t n → (c : ℕ) → IsTaken columns t c → ((r : ℕ) → ¬ (IsGiving columns t c r)) → ⊥
    stuck t n (Installed a) c x none = x.not_basic (a c x.listed)
    stuck t n (Takes t' n' s d x' y' z rest) c x none = none s (subst (λ k. IsGiving columns t' k s) (taken_one t' d c x' x) y')

    pub done : (t : Table) (n : ℕ) → Installs columns limit u m t n → AllBasic columns t → (t ≡ u) × (n ≡ m)
    done t n (Installed a) all = (refl, refl)
    done t n (Takes t' n' s d x' y' z rest) all = absurd (x'.not_basic (all d x'.listed))

    -- ---- what is kept
    pub all_basic : (t : Table) (n : ℕ) → Installs columns limit u m t n → AllBasic columns u
    all_basic t n (Installed a) = a
    all_basic t n (Takes t' n' s d x' y' z rest) = all_basic (after_pivot s d t') (n' + 1) rest

    pub sound : (t : Table) (n : ℕ) → Installs columns limit u m t n → IsSound t → IsSound u
    sound t n (Installed a) h = h
    sound t n (Takes t' n' s d x' y' z rest) h = sound (after_pivot s d t') (n' + 1) rest (sound_next t' s d h (is_pivot t' d s y'))

    pub keeps : (equations : List Row) (t : Table) (n : ℕ) → Installs columns limit u m t n → IsOf equations t → IsOf equations u
    keeps equations t n (Installed a) h = h
    keeps equations t n (Takes t' n' s d x' y' z rest) h = keeps equations (after_pivot s d t') (n' + 1) rest (of_next equations t' s d h (is_pivot t' d s y'))

    pub kin : (t : Table) (n : ℕ) → Installs columns limit u m t n → IsKin t u
    kin t n (Installed a) = kin_same u
    kin t n (Takes t' n' s d x' y' z rest) = kin_step t' u s d (is_pivot t' d s y') (kin (after_pivot s d t') (n' + 1) rest)

  pub once : (limit : ℕ) (u : Table) (m : ℕ) (v : Table) (k : ℕ) (t : Table) (n : ℕ) → Installs columns limit u m t n → Installs columns limit v k t n → (u ≡ v) × (m ≡ k)
  once limit u m v k t n (Installed a) y = done limit v k u m y a
  once limit u m v k t n (Takes t' n' s d x' y' z rest) y = once limit u m v k (after_pivot s d t') (n' + 1) rest (next limit v k t' n' y s d x' y').1

  -- ---- along the loop
  pub alike_next : (limit : ℕ) (t : Table) (n : ℕ) (v : Table) (k r c : ℕ) → InstallsAlike columns limit t n v k → IsTaken columns v c → IsGiving columns v c r
      → IsAllowed limit v k r c → InstallsAlike columns limit t n (after_pivot r c v) (k + 1)
  alike_next limit t n v k r c a x y z = record {
    onward = λ u m i. a.onward u m (Takes v k r c x y z i);
    back = λ u m i. (next limit u m v k (a.back u m i) r c x y).1;
  }

  pub refused : (limit : ℕ) (t : Table) (n : ℕ) (v : Table) (k r c : ℕ) → InstallsAlike columns limit t n v k → IsTaken columns v c → IsGiving columns v c r
      → ¬ (IsAllowed limit v k r c) → NeverInstalls columns limit t n
  refused limit t n v k r c a x y f u m i = f (next limit u m v k (a.back u m i) r c x y).0

  pub none_gives : (limit : ℕ) (t : Table) (n : ℕ) (v : Table) (k c : ℕ) → InstallsAlike columns limit t n v k → IsTaken columns v c → ((r : ℕ) → ¬ (IsGiving columns v c r))
      → NeverInstalls columns limit t n
  none_gives limit t n v k c a x none u m i = stuck limit u m v k (a.back u m i) c x none

  -- the listed columns below c stay basic, and c becomes so
  basic_more_by : (t : Table) (r c k : ℕ) → IsSound t → IsGiving columns t c r → ((k : ℕ) → k < c → IsListed columns k → IsBasic t k) → k < c + 1 → IsListed columns k
      → (k ≡ c) ⊎ (k ≢ c) → IsBasic (after_pivot r c t) k
  basic_more_by t r c k s y f h l (inl e) = subst (IsBasic (after_pivot r c t)) (sym e) (now_basic t r c s (is_pivot t c r y))
  basic_more_by t r c k s y f h l (inr n) = still_basic t r c k (λ e. y.may.unlisted (subst (IsListed columns) (sym e) l)) (f k (omega (arith, n, h)) l)

  pub basic_more : (t : Table) (r c : ℕ) → IsSound t → IsGiving columns t c r → ((k : ℕ) → k < c → IsListed columns k → IsBasic t k) → (k : ℕ) → k < c + 1 → IsListed columns k
      → IsBasic (after_pivot r c t) k
  basic_more t r c s y f k h l = basic_more_by t r c k s y f h l (cases_eq k c)

  already_by : (t : Table) (c k : ℕ) → IsBasic t c → ((k : ℕ) → k < c → IsListed columns k → IsBasic t k) → k < c + 1 → IsListed columns k → (k ≡ c) ⊎ (k ≢ c) → IsBasic t k
  already_by t c k b f h l (inl e) = subst (IsBasic t) (sym e) b
  already_by t c k b f h l (inr n) = f k (omega (arith, n, h)) l

  pub basic_already : (t : Table) (c : ℕ) → IsBasic t c → ((k : ℕ) → k < c → IsListed columns k → IsBasic t k) → (k : ℕ) → k < c + 1 → IsListed columns k → IsBasic t k
  basic_already t c b f k h l = already_by t c k b f h l (cases_eq k c)
