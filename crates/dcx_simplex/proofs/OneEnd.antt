-- A run has one end: the rule takes one pivot at most at each tableau, and what ends a phase rules a further pivot out.
use Rattle.std.proofs.Common.{◌≡◌, ◌≢◌, ℕ, ◌+◌, ◌<◌, ◌≤◌, List, length, pos, ◌<ℤ◌, ◌≤ℤ◌, arith, refl, sym, ap, ap₂, ◌∙◌, subst, ◌⊎◌, inl, inr}
use Rattle.std.proofs.lemmas.Int.{ints}
use Rattle.std.proofs.lemmas.Bool.{cases_lt, cases_eq}
use Rattle.dcx_tab.specs.Rows.{Row, basic_at}
use Rattle.dcx_tab.specs.Pivot.{AllFormed, IsFirstWide}
use Rattle.dcx_tab.specs.Table.{Table, entry_at, after_pivot, IsOf}
use Rattle.dcx_simplex.specs.Run.{IsEntering, NoneEnters, NoneLeaves, MayLeave, ComesFirst, IsLeaving, IsNext, Leads, right_at}
use Rattle.dcx_simplex.specs.Run.Leads.{Here, Then}
use Rattle.dcx_simplex.specs.Ends.{Ends}
use Rattle.dcx_simplex.specs.declared.phase.PhaseEnd.{PhaseEnd}
use Rattle.dcx_simplex.specs.declared.phase.PhaseEnd.TheVariants as phase
use Rattle.dcx_simplex.specs.Drive.{IsDriver, IsLeft, Drives}
use Rattle.dcx_simplex.specs.Drive.Drives.{Begins, Leaves, Drives_out}
use Rattle.dcx_simplex.specs.DriveEnds.{DriveEnds}
use Rattle.dcx_simplex.specs.declared.drive.DriveEnd.{DriveEnd}
use Rattle.dcx_simplex.specs.declared.drive.DriveEnd.TheVariants as drive
use Rattle.dcx_simplex.specs.Whole.{objective_row, phase_row, InFirst, InDrive, Starts, InSecond, RunEnds}
use Rattle.dcx_simplex.specs.declared.run.LpEnd.{LpEnd}
use Rattle.dcx_simplex.specs.declared.run.LpEnd.TheVariants as lp
use Rattle.dcx_simplex.specs.Basis.{IsReady}
use Rattle.dcx_simplex.specs.Start.{IsStart}
use Rattle.dcx_simplex.proofs.Limits.{ready_first, begun}
use Rattle.dcx_simplex.proofs.Driving.{drive_rows}
use Rattle.dcx_simplex.proofs.PhaseLaws.{stays_ready}

-- ---- one pivot
before_entering : (cost : ℕ) (t : Table) (c d : ℕ) → IsEntering cost t c → IsEntering cost t d → c < d → ⊥
before_entering cost t c d x y l = let a = x.eligible in let b = y.least c l in absurd (omega (arith, ints, a, b))

entering_by : (cost : ℕ) (t : Table) (c d : ℕ) → IsEntering cost t c → IsEntering cost t d → (c < d) ⊎ (d ≤ c) → (d < c) ⊎ (c ≤ d) → c ≡ d
entering_by cost t c d x y (inl l) m = absurd (before_entering cost t c d x y l)
entering_by cost t c d x y (inr l) (inl m) = absurd (before_entering cost t d c y x m)
entering_by cost t c d x y (inr l) (inr m) = omega arith

entering_one : (cost : ℕ) (t : Table) (c d : ℕ) → IsEntering cost t c → IsEntering cost t d → c ≡ d
entering_one cost t c d x y = entering_by cost t c d x y (cases_lt c d) (cases_lt d c)

same_row_by : (equations : List Row) (u : Table) → IsOf equations u → (i k : ℕ) → i < length u.rows → k < length u.rows → basic_at u.basis i ≡ basic_at u.basis k → (i ≡ k) ⊎ (i ≢ k) → i ≡ k
same_row_by equations u is i k h l e (inl s) = s
same_row_by equations u is i k h l e (inr n) =
    let size = is.form.size in
    let z = (is.form.basic i h).zeros k (omega (arith, size, l)) (λ q. n (sym q)) in
    let p = (is.form.basic i h).positive in
    let f : entry_at u i (basic_at u.basis i) ≡ pos 0 = ap (entry_at u i) e ∙ z in
    absurd (omega (arith, ints, p, f))

leaving_by : (equations : List Row) (bound : ℕ) (t : Table) (c r s : ℕ) → IsOf equations t → r < length t.rows → s < length t.rows → ComesFirst t c r s → ComesFirst t c s r → r ≡ s
leaving_by equations bound t c r s is h l (inl x) (inl y) = absurd (omega (arith, ints, x, y))
leaving_by equations bound t c r s is h l (inl x) (inr y) = let z = y.0 in absurd (omega (arith, ints, x, z))
leaving_by equations bound t c r s is h l (inr x) (inl y) = let z = x.0 in absurd (omega (arith, ints, z, y))
leaving_by equations bound t c r s is h l (inr x) (inr y) =
    let a = x.1 in
    let b = y.1 in
    same_row_by equations t is r s h l (omega (arith, a, b)) (cases_eq r s)

leaving_one : (equations : List Row) (bound : ℕ) (t : Table) (c r s : ℕ) → IsOf equations t → IsLeaving bound t c r → IsLeaving bound t c s → r ≡ s
leaving_one equations bound t c r s is x y =
    let a = x.may.row in
    let b = y.may.row in
    leaving_by equations bound t c r s is (omega (arith, a)) (omega (arith, b)) (x.first s y.may) (y.first r x.may)

next_one : (equations : List Row) (cost bound : ℕ) (t : Table) (r c s d : ℕ) → IsOf equations t → IsNext cost bound t r c → IsNext cost bound t s d → (r ≡ s) × (c ≡ d)
next_one equations cost bound t r c s d is x y =
    let e = entering_one cost t c d x.enters y.enters in
    (leaving_one equations bound t c r s is x.leaves (subst (λ k. IsLeaving bound t k s) (sym e) y.leaves), e)

pub wide_one_by : (r c : ℕ) (rows : List Row) (i j : ℕ) → IsFirstWide r c rows i j → AllFormed r c rows → ⊥
wide_one_by r c rows i j w f = w.wide.great (f i w.wide.row w.wide.other w.wide.some j w.wide.column)

-- ---- a phase
module _ (equations : List Row) (cost bound limit : ℕ) (t : Table) (n : ℕ) (ready : IsReady equations cost bound t) where
  counted : (u : Table) (m : ℕ) → Leads cost bound limit t n u m → n ≤ m
  counted _ _ Here = omega arith
  counted _ _ (Then u m r c l x h f) = let k = counted u m l in omega (arith, k)

  is_at : (u : Table) (m : ℕ) → Leads cost bound limit t n u m → IsOf equations u
  is_at u m l = (stays_ready equations cost bound limit t n u m ready l).tableau

  after_one : (u v : Table) (r c s d : ℕ) → u ≡ v → r ≡ s → c ≡ d → after_pivot r c u ≡ after_pivot s d v
  after_one u v r c s d e f g = ap₂ (λ a b. after_pivot a b u) f g ∙ ap (after_pivot s d) e

  same_lead : (u v : Table) (m k : ℕ) → Leads cost bound limit t n u m → Leads cost bound limit t n v k → m ≡ k → u ≡ v
  same_lead _ _ _ _ Here Here e = refl
  same_lead _ _ _ _ Here (Then v k r c l x h f) e = let q = counted v k l in absurd (omega (arith, q, e))
  same_lead _ _ _ _ (Then u m r c l x h f) Here e = let q = counted u m l in absurd (omega (arith, q, e))
  same_lead _ _ _ _ (Then u m r c l x h f) (Then v k s d g y i j) e =
      let q = same_lead u v m k l g (omega (arith, e)) in
      let p = next_one equations cost bound u r c s d (is_at u m l) x (subst (λ w. IsNext cost bound w s d) (sym q) y) in
      after_one u v r c s d q p.0 p.1

  record Further (m : ℕ) : Type 0 where
    table : Table
    row : ℕ
    column : ℕ
    leads : Leads cost bound limit t n table m
    next : IsNext cost bound table row column
    below : m < limit
    formed : AllFormed row column table.rows

  further_by : (v : Table) (k m r c : ℕ) → Leads cost bound limit t n v k → IsNext cost bound v r c → k < limit → AllFormed r c v.rows → m < k + 1 → (m < k → Further m) → (m < k) ⊎ (k ≤ m) → Further m
  further_by v k m r c l x i f h before (inl s) = before s
  further_by v k m r c l x i f h before (inr s) =
      let e : k ≡ m = omega (arith, s, h) in
      record { table = v; row = r; column = c; leads = subst (Leads cost bound limit t n v) e l; next = x; below = omega (arith, i, e); formed = f }

  further : (v : Table) (k m : ℕ) → Leads cost bound limit t n v k → n ≤ m → m < k → Further m
  further _ _ m Here g h = absurd (omega (arith, g, h))
  further _ _ m (Then v k r c l x i f) g h = further_by v k m r c l x i f h (further v k m l g) (cases_lt m k)

  stops : (u : Table) (m r c : ℕ) (e : PhaseEnd) → IsOf equations u → Ends cost bound limit u m e → IsNext cost bound u r c → m < limit → AllFormed r c u.rows → ⊥
  stops u m r c phase.Done is e x h f = let a = e c x.enters.column in let b = x.enters.eligible in absurd (omega (arith, ints, a, b))
  stops u m r c (phase.Unbounded d) is e x h f =
      let q = entering_one cost u c d x.enters e.0 in
      e.1 r (subst (λ k. MayLeave bound u k r) q x.leaves.may)
  stops u m r c phase.Limit is e x h f = let l = e.1 in absurd (omega (arith, l, h))
  stops u m r c (phase.Wide s d) is e x h f =
      let p = next_one equations cost bound u r c s d is x e.0 in
      let w = e.2 in
      wide_one_by s d u.rows w.0 w.1 w.2 (subst (λ k. AllFormed s k u.rows) p.1 (subst (λ k. AllFormed k c u.rows) p.0 f))

  no_further : (u v : Table) (m k : ℕ) (e : PhaseEnd) → Leads cost bound limit t n u m → Ends cost bound limit u m e → Leads cost bound limit t n v k → m < k → ⊥
  no_further u v m k e l x g h =
      let f = further v k m g (counted u m l) h in
      let q = same_lead f.table u m m f.leads l refl in
      stops u m f.row f.column e (is_at u m l) x (subst (λ w. IsNext cost bound w f.row f.column) q f.next) f.below (subst (λ w. AllFormed f.row f.column w.rows) q f.formed)

  enters_none : (u : Table) (c : ℕ) → NoneEnters cost u → IsEntering cost u c → ⊥
  enters_none u c x y = let a = x c y.column in let b = y.eligible in absurd (omega (arith, ints, a, b))

  leaves_none : (u : Table) (c d r : ℕ) → IsEntering cost u c → NoneLeaves bound u c → IsNext cost bound u r d → ⊥
  leaves_none u c d r x y z = y r (subst (λ k. MayLeave bound u k r) (entering_one cost u d c z.enters x) z.leaves.may)

  end_one : (u : Table) (m : ℕ) (e f : PhaseEnd) → IsOf equations u → Ends cost bound limit u m e → Ends cost bound limit u m f → e ≡ f
  end_one u m phase.Done phase.Done is x y = refl
  end_one u m phase.Done (phase.Unbounded d) is x y = absurd (enters_none u d x y.0)
  end_one u m phase.Done phase.Limit is x y = absurd (enters_none u y.0.1 x y.0.2.enters)
  end_one u m phase.Done (phase.Wide s d) is x y = absurd (enters_none u d x y.0.enters)
  end_one u m (phase.Unbounded c) phase.Done is x y = absurd (enters_none u c y x.0)
  end_one u m (phase.Unbounded c) (phase.Unbounded d) is x y = ap phase.Unbounded (entering_one cost u c d x.0 y.0)
  end_one u m (phase.Unbounded c) phase.Limit is x y = absurd (leaves_none u c y.0.1 y.0.0 x.0 x.1 y.0.2)
  end_one u m (phase.Unbounded c) (phase.Wide s d) is x y = absurd (leaves_none u c d s x.0 x.1 y.0)
  end_one u m phase.Limit phase.Done is x y = absurd (enters_none u x.0.1 y x.0.2.enters)
  end_one u m phase.Limit (phase.Unbounded d) is x y = absurd (leaves_none u d x.0.1 x.0.0 y.0 y.1 x.0.2)
  end_one u m phase.Limit phase.Limit is x y = refl
  end_one u m phase.Limit (phase.Wide s d) is x y = let a = x.1 in let b = y.1 in absurd (omega (arith, a, b))
  end_one u m (phase.Wide r c) phase.Done is x y = absurd (enters_none u c y x.0.enters)
  end_one u m (phase.Wide r c) (phase.Unbounded d) is x y = absurd (leaves_none u d c r y.0 y.1 x.0)
  end_one u m (phase.Wide r c) phase.Limit is x y = let a = x.1 in let b = y.1 in absurd (omega (arith, a, b))
  end_one u m (phase.Wide r c) (phase.Wide s d) is x y = let p = next_one equations cost bound u r c s d is x.0 y.0 in ap₂ phase.Wide p.0 p.1

  pub record SameEnd (u v : Table) (m k : ℕ) (e f : PhaseEnd) : Type 0 where
    pub table : u ≡ v
    pub count : m ≡ k
    pub end : e ≡ f

  phase_by : (u v : Table) (m k : ℕ) (e f : PhaseEnd) → Leads cost bound limit t n u m → Ends cost bound limit u m e → Leads cost bound limit t n v k → Ends cost bound limit v k f
      → (m < k) ⊎ (k ≤ m) → (k < m) ⊎ (m ≤ k) → SameEnd u v m k e f
  phase_by u v m k e f l x g y (inl h) i = absurd (no_further u v m k e l x g h)
  phase_by u v m k e f l x g y (inr h) (inl i) = absurd (no_further v u k m f g y l i)
  phase_by u v m k e f l x g y (inr h) (inr i) =
      let c : m ≡ k = omega (arith, h, i) in
      let q = same_lead u v m k l g c in
      record { table = q; count = c; end = end_one u m e f (is_at u m l) x (subst (λ w. Ends cost bound limit w m f) (sym q) (subst (λ i. Ends cost bound limit v i f) (sym c) y)) }

  pub phase_one : (u v : Table) (m k : ℕ) (e f : PhaseEnd) → Leads cost bound limit t n u m → Ends cost bound limit u m e → Leads cost bound limit t n v k → Ends cost bound limit v k f
      → SameEnd u v m k e f
  phase_one u v m k e f l x g y = phase_by u v m k e f l x g y (cases_lt m k) (cases_lt k m)

-- ---- driving out
before_driver : (t : Table) (i c d : ℕ) → IsDriver t i c → IsDriver t i d → c < d → ⊥
before_driver t i c d x y l = x.some (y.least c l)

driver_by : (t : Table) (i c d : ℕ) → IsDriver t i c → IsDriver t i d → (c < d) ⊎ (d ≤ c) → (d < c) ⊎ (c ≤ d) → c ≡ d
driver_by t i c d x y (inl l) m = absurd (before_driver t i c d x y l)
driver_by t i c d x y (inr l) (inl m) = absurd (before_driver t i d c y x m)
driver_by t i c d x y (inr l) (inr m) = omega arith

driver_one : (t : Table) (i c d : ℕ) → IsDriver t i c → IsDriver t i d → c ≡ d
driver_one t i c d x y = driver_by t i c d x y (cases_lt c d) (cases_lt d c)

left_or_driven : (t : Table) (i c : ℕ) → IsLeft t i → t.plain ≤ basic_at t.basis i → IsDriver t i c → ⊥
left_or_driven t i c (inl l) h x = absurd (omega (arith, l, h))
left_or_driven t i c (inr l) h x = x.some (l.1 c x.column)

module _ (limit : ℕ) (t : Table) (n : ℕ) where
  record SameDrive (u v : Table) (m k : ℕ) : Type 0 where
    table : u ≡ v
    count : m ≡ k

  same_drive : (u v : Table) (m k i j : ℕ) → Drives limit t n i u m → Drives limit t n j v k → i ≡ j → SameDrive u v m k
  same_drive _ _ _ _ _ _ Begins Begins e = record { table = refl; count = refl }
  same_drive _ _ _ _ _ _ Begins (Leaves j v k d l) e = absurd (omega (arith, e))
  same_drive _ _ _ _ _ _ Begins (Drives_out j v k c d h x b f) e = absurd (omega (arith, e))
  same_drive _ _ _ _ _ _ (Leaves i u m d l) Begins e = absurd (omega (arith, e))
  same_drive _ _ _ _ _ _ (Leaves i u m d l) (Leaves j v k g r) e = same_drive u v m k i j d g (omega (arith, e))
  same_drive _ _ _ _ _ _ (Leaves i u m d l) (Drives_out j v k c g h x b f) e =
      let q : i ≡ j = omega (arith, e) in
      let s = same_drive u v m k i j d g q in
      absurd (left_or_driven v j c (subst (λ w. IsLeft w j) s.table (subst (IsLeft u) q l)) h x)
  same_drive _ _ _ _ _ _ (Drives_out i u m c d h x b f) Begins e = absurd (omega (arith, e))
  same_drive _ _ _ _ _ _ (Drives_out i u m c d h x b f) (Leaves j v k g r) e =
      let q : i ≡ j = omega (arith, e) in
      let s = same_drive u v m k i j d g q in
      absurd (left_or_driven u i c (subst (λ w. IsLeft w i) (sym s.table) (subst (IsLeft v) (sym q) r)) h x)
  same_drive _ _ _ _ _ _ (Drives_out i u m c d h x b f) (Drives_out j v k a g o y p r) e =
      let q : i ≡ j = omega (arith, e) in
      let s = same_drive u v m k i j d g q in
      let y' : IsDriver u i a = subst (λ w. IsDriver w i a) (sym s.table) (subst (λ l. IsDriver v l a) (sym q) y) in
      let z = driver_one u i c a x y' in
      let l = s.count in
      record { table = ap₂ (λ a b. after_pivot a b u) q z ∙ ap (after_pivot j a) s.table; count = ap (λ a. a + 1) l }

  -- what has been done at row i
  record DoneAt (i : ℕ) : Type 0 where
    table : Table
    count : ℕ
    drives : Drives limit t n i table count
    step : IsLeft table i ⊎ ((c : ℕ) × (table.plain ≤ basic_at table.basis i) × IsDriver table i c × (count < limit) × AllFormed i c table.rows)

  done_by : (j i : ℕ) → i < j + 1 → DoneAt j → (i < j → DoneAt i) → (i < j) ⊎ (j ≤ i) → DoneAt i
  done_by j i h d before (inl l) = before l
  done_by j i h d before (inr l) = let e : j ≡ i = omega (arith, l, h) in subst DoneAt e d

  done_at : (v : Table) (k j i : ℕ) → Drives limit t n j v k → i < j → DoneAt i
  done_at _ _ _ i Begins h = absurd (omega (arith, h))
  done_at _ _ _ i (Leaves j v k d l) h = done_by j i h (record { table = v; count = k; drives = d; step = inl l }) (done_at v k j i d) (cases_lt i j)
  done_at _ _ _ i (Drives_out j v k c d b x l f) h = done_by j i h (record { table = v; count = k; drives = d; step = inr (c, b, x, l, f) }) (done_at v k j i d) (cases_lt i j)

  -- driving out stops at row i
  record StopsAt (i : ℕ) (u : Table) (m : ℕ) : Type 0 where
    column : ℕ
    drives : Drives limit t n i u m
    basic : u.plain ≤ basic_at u.basis i
    driver : IsDriver u i column
    why : (limit ≤ m) ⊎ (¬ (AllFormed i column u.rows))

  no_step : (i : ℕ) (u : Table) (m : ℕ) (s : StopsAt i u m) → IsLeft u i ⊎ ((c : ℕ) × (u.plain ≤ basic_at u.basis i) × IsDriver u i c × (m < limit) × AllFormed i c u.rows)
      → (limit ≤ m) ⊎ (¬ (AllFormed i s.column u.rows)) → ⊥
  no_step i u m s (inl l) w = left_or_driven u i s.column l s.basic s.driver
  no_step i u m s (inr x) (inl w) = let h = x.3 in absurd (omega (arith, h, w))
  no_step i u m s (inr x) (inr w) = w (subst (λ c. AllFormed i c u.rows) (driver_one u i x.0 s.column x.2 s.driver) x.4)

  no_more : (i j : ℕ) (u v : Table) (m k : ℕ) → StopsAt i u m → Drives limit t n j v k → i < j → ⊥
  no_more i j u v m k s d h =
      let x = done_at v k j i d h in
      let q = same_drive x.table u x.count m i i x.drives s.drives refl in
      no_step i u m s (subst (λ a. IsLeft u i ⊎ ((c : ℕ) × (u.plain ≤ basic_at u.basis i) × IsDriver u i c × (a < limit) × AllFormed i c u.rows)) q.count
      (subst (λ w. IsLeft w i ⊎ ((c : ℕ) × (w.plain ≤ basic_at w.basis i) × IsDriver w i c × (x.count < limit) × AllFormed i c w.rows)) q.table x.step)) s.why

  stops_limit : (u : Table) (m : ℕ) (x : DriveEnds limit t n u m drive.Limit) → StopsAt x.0 u m
  stops_limit u m x = record { column = x.1; drives = x.2; basic = x.4; driver = x.5; why = inl x.6 }

  stops_wide : (u : Table) (m r c : ℕ) → DriveEnds limit t n u m (drive.Wide r c) → StopsAt r u m
  stops_wide u m r c x = record { column = c; drives = x.0; basic = x.2; driver = x.3; why = inr (λ f. let w = x.5 in wide_one_by r c u.rows w.0 w.1 w.2 f) }

  same_stop_by : (i j : ℕ) (u v : Table) (m k : ℕ) → StopsAt i u m → StopsAt j v k → (i < j) ⊎ (j ≤ i) → (j < i) ⊎ (i ≤ j) → i ≡ j
  same_stop_by i j u v m k s r (inl h) e = absurd (no_more i j u v m k s r.drives h)
  same_stop_by i j u v m k s r (inr h) (inl e) = absurd (no_more j i v u k m r s.drives e)
  same_stop_by i j u v m k s r (inr h) (inr e) = omega (arith, h, e)

  same_stop : (i j : ℕ) (u v : Table) (m k : ℕ) → StopsAt i u m → StopsAt j v k → i ≡ j
  same_stop i j u v m k s r = same_stop_by i j u v m k s r (cases_lt i j) (cases_lt j i)

  pub record SameDriveEnd (u v : Table) (m k : ℕ) (e f : DriveEnd) : Type 0 where
    pub table : u ≡ v
    pub count : m ≡ k
    pub end : e ≡ f

  not_driven : (u v : Table) (m k i : ℕ) → DriveEnds limit t n u m drive.Driven → StopsAt i v k → i + 2 < length v.rows → ⊥
  not_driven u v m k i x s h =
      let r = drive_rows limit t n i v k s.drives in
      let e = x.1 in
      no_more i x.0 v u k m s x.2 (omega (arith, h, r, e))

  drive_one : (u v : Table) (m k : ℕ) (e f : DriveEnd) → DriveEnds limit t n u m e → DriveEnds limit t n v k f → SameDriveEnd u v m k e f
  drive_one u v m k drive.Driven drive.Driven x y =
      let a = x.1 in let b = y.1 in
      let s = same_drive u v m k x.0 y.0 x.2 y.2 (omega (arith, a, b)) in
      record { table = s.table; count = s.count; end = refl }
  drive_one u v m k drive.Driven drive.Limit x y = absurd (not_driven u v m k y.0 x (stops_limit v k y) y.3)
  drive_one u v m k drive.Driven (drive.Wide s d) x y = absurd (not_driven u v m k s x (stops_wide v k s d y) y.1)
  drive_one u v m k drive.Limit drive.Driven x y = absurd (not_driven v u k m x.0 y (stops_limit u m x) x.3)
  drive_one u v m k drive.Limit drive.Limit x y =
      let s = same_drive u v m k x.0 y.0 x.2 y.2 (same_stop x.0 y.0 u v m k (stops_limit u m x) (stops_limit v k y)) in
      record { table = s.table; count = s.count; end = refl }
  drive_one u v m k drive.Limit (drive.Wide s d) x y =
      let q = same_drive u v m k x.0 s x.2 y.0 (same_stop x.0 s u v m k (stops_limit u m x) (stops_wide v k s d y)) in
      let a = x.6 in let b = y.4 in let c = q.count in
      absurd (omega (arith, a, b, c))
  drive_one u v m k (drive.Wide r c) drive.Driven x y = absurd (not_driven v u k m r y (stops_wide u m r c x) x.1)
  drive_one u v m k (drive.Wide r c) drive.Limit x y =
      let q = same_drive u v m k r y.0 x.0 y.2 (same_stop r y.0 u v m k (stops_wide u m r c x) (stops_limit v k y)) in
      let a = y.6 in let b = x.4 in let c = q.count in
      absurd (omega (arith, a, b, c))
  drive_one u v m k (drive.Wide r c) (drive.Wide s d) x y =
      let e = same_stop r s u v m k (stops_wide u m r c x) (stops_wide v k s d y) in
      let q = same_drive u v m k r s x.0 y.0 e in
      record { table = q.table; count = q.count; end = ap₂ drive.Wide e (driver_one u r c d x.3 (subst (λ w. IsDriver w r d) (sym q.table) (subst (λ l. IsDriver v l d) (sym e) y.3))) }

-- ---- the whole run
abbrev first_end : ℕ → PhaseEnd → LpEnd
first_end n phase.Done = lp.Infeasible n
first_end n (phase.Unbounded c) = lp.Unbounded n c
first_end n phase.Limit = lp.PivotLimit n
first_end n (phase.Wide r c) = lp.Wide n r c

abbrev drive_end : ℕ → DriveEnd → LpEnd
drive_end n drive.Driven = lp.PivotLimit n
drive_end n drive.Limit = lp.PivotLimit n
drive_end n (drive.Wide r c) = lp.Wide n r c

abbrev second_end : ℕ → PhaseEnd → LpEnd
second_end n phase.Done = lp.Optimal n
second_end n (phase.Unbounded c) = lp.Unbounded n c
second_end n phase.Limit = lp.PivotLimit n
second_end n (phase.Wide r c) = lp.Wide n r c

record FirstStop (limit : ℕ) (t u : Table) (e : LpEnd) : Type 0 where
  count : ℕ
  why : PhaseEnd
  run : InFirst limit t u count why
  high : why ≡ phase.Done → pos 0 <ℤ right_at u (phase_row t)
  is : e ≡ first_end count why

record DriveStop (limit : ℕ) (t u : Table) (e : LpEnd) : Type 0 where
  count : ℕ
  why : DriveEnd
  run : InDrive limit t u count why
  stopped : why ≢ drive.Driven
  is : e ≡ drive_end count why

record SecondStop (limit : ℕ) (t u : Table) (e : LpEnd) : Type 0 where
  count : ℕ
  why : PhaseEnd
  run : InSecond limit t u count why
  is : e ≡ second_end count why

staged : (limit : ℕ) (t u : Table) (e : LpEnd) → RunEnds limit t u e → FirstStop limit t u e ⊎ DriveStop limit t u e ⊎ SecondStop limit t u e
staged limit t u (lp.Optimal n) x = inr (inr (record { count = n; why = phase.Done; run = x; is = refl }))
staged limit t u (lp.Infeasible n) x = inl (record { count = n; why = phase.Done; run = x.0; high = λ e. x.1; is = refl })
staged limit t u (lp.Unbounded n c) (inl x) = inl (record { count = n; why = phase.Unbounded c; run = x; high = λ e. cc; is = refl })
staged limit t u (lp.Unbounded n c) (inr x) = inr (inr (record { count = n; why = phase.Unbounded c; run = x; is = refl }))
staged limit t u (lp.Wide n r c) (inl x) = inl (record { count = n; why = phase.Wide r c; run = x; high = λ e. cc; is = refl })
staged limit t u (lp.Wide n r c) (inr (inl x)) = inr (inl (record { count = n; why = drive.Wide r c; run = x; stopped = λ e. cc; is = refl }))
staged limit t u (lp.Wide n r c) (inr (inr x)) = inr (inr (record { count = n; why = phase.Wide r c; run = x; is = refl }))
staged limit t u (lp.PivotLimit n) (inl x) = inl (record { count = n; why = phase.Limit; run = x; high = λ e. cc; is = refl })
staged limit t u (lp.PivotLimit n) (inr (inl x)) = inr (inl (record { count = n; why = drive.Limit; run = x; stopped = λ e. cc; is = refl }))
staged limit t u (lp.PivotLimit n) (inr (inr x)) = inr (inr (record { count = n; why = phase.Limit; run = x; is = refl }))

module _ (equations : List Row) (limit : ℕ) (t : Table) (start : IsStart equations t) where
  first_one : (u v : Table) (m k : ℕ) (e f : PhaseEnd) → InFirst limit t u m e → InFirst limit t v k f → SameEnd equations (phase_row t) t.columns limit t 0 (ready_first equations t start) u v m k e f
  first_one u v m k e f x y = phase_one equations (phase_row t) t.columns limit t 0 (ready_first equations t start) u v m k e f x.1 x.2 y.1 y.2

  -- a first phase whose sum of artificials isn't 0 isn't followed by driving out
  first_or_drive : (u v : Table) (e : LpEnd) (k : ℕ) (d : DriveEnd) → FirstStop limit t u e → InDrive limit t v k d → ⊥
  first_or_drive u v e k d x y =
      let s = first_one u y.0 x.count y.1 x.why phase.Done x.run y.2 in
      let a = x.high s.end in
      let b = subst (λ w. right_at w (phase_row t) ≤ℤ pos 0) (sym s.table) y.3 in
      absurd (omega (arith, ints, a, b))

  first_or_starts : (u v : Table) (e : LpEnd) (k : ℕ) → FirstStop limit t u e → Starts limit t v k → ⊥
  first_or_starts u v e k x (inl y) = let a = x.run.0 in let b = y.0 in absurd (omega (arith, a, b))
  first_or_starts u v e k x (inr y) = first_or_drive u v e k drive.Driven x y

  drives_one : (u v : Table) (m k : ℕ) (c d : DriveEnd) → InDrive limit t u m c → InDrive limit t v k d → (u ≡ v) × (m ≡ k) × (c ≡ d)
  drives_one u v m k c d x y =
      let s = first_one x.0 y.0 x.1 y.1 phase.Done phase.Done x.2 y.2 in
      let z = subst (λ w. DriveEnds limit w y.1 v k d) (sym s.table) y.4 in
      let z' = subst (λ n. DriveEnds limit x.0 n v k d) (sym s.count) z in
      let q = drive_one limit x.0 x.1 u v m k c d x.4 z' in
      (q.table, q.count, q.end)

  drive_or_starts : (u v : Table) (e : LpEnd) (k : ℕ) → DriveStop limit t u e → Starts limit t v k → ⊥
  drive_or_starts u v e k x (inl y) = let a = x.run.2.0 in let b = y.0 in absurd (omega (arith, a, b))
  drive_or_starts u v e k x (inr y) = x.stopped (drives_one u v x.count k x.why drive.Driven x.run y).2

  starts_one : (u v : Table) (m k : ℕ) → Starts limit t u m → Starts limit t v k → (u ≡ v) × (m ≡ k)
  starts_one u v m k (inl x) (inl y) = (x.1 ∙ sym y.1, x.2 ∙ sym y.2)
  starts_one u v m k (inl x) (inr y) = let a = x.0 in let b = y.2.0 in absurd (omega (arith, a, b))
  starts_one u v m k (inr x) (inl y) = let a = y.0 in let b = x.2.0 in absurd (omega (arith, a, b))
  starts_one u v m k (inr x) (inr y) = let s = drives_one u v m k drive.Driven drive.Driven x y in (s.0, s.1)

  abbrev InPhase : Table → ℕ → Table → ℕ → PhaseEnd → Type 0
  InPhase w n u m e = Leads (objective_row w) w.plain limit w n u m × Ends (objective_row w) w.plain limit u m e

  second_one : (u v : Table) (m k : ℕ) (e f : PhaseEnd) → InSecond limit t u m e → InSecond limit t v k f → (u ≡ v) × (m ≡ k) × (e ≡ f)
  second_one u v m k e f x y =
      let b = begun equations t start limit x.1 x.0 x.2 in
      let s = starts_one x.0 y.0 x.1 y.1 x.2 y.2 in
      let z : InPhase x.0 x.1 v k f = subst (λ n. InPhase x.0 n v k f) (sym s.1) (subst (λ w. InPhase w y.1 v k f) (sym s.0) (y.3, y.4)) in
      let q = phase_one equations (objective_row x.0) x.0.plain limit x.0 x.1 b.ready u v m k e f x.3 x.4 z.0 z.1 in
      (q.table, q.count, q.end)

  end_by : (u v : Table) (e f : LpEnd) → FirstStop limit t u e ⊎ DriveStop limit t u e ⊎ SecondStop limit t u e → FirstStop limit t v f ⊎ DriveStop limit t v f ⊎ SecondStop limit t v f
      → (u ≡ v) × (e ≡ f)
  end_by u v e f (inl x) (inl y) =
      let s = first_one u v x.count y.count x.why y.why x.run y.run in
      (s.table, x.is ∙ ap₂ first_end s.count s.end ∙ sym y.is)
  end_by u v e f (inl x) (inr (inl y)) = absurd (first_or_drive u v e y.count y.why x y.run)
  end_by u v e f (inl x) (inr (inr y)) = absurd (first_or_starts u y.run.0 e y.run.1 x y.run.2)
  end_by u v e f (inr (inl x)) (inl y) = absurd (first_or_drive v u f x.count x.why y x.run)
  end_by u v e f (inr (inl x)) (inr (inl y)) =
      let s = drives_one u v x.count y.count x.why y.why x.run y.run in
      (s.0, x.is ∙ ap₂ drive_end s.1 s.2 ∙ sym y.is)
  end_by u v e f (inr (inl x)) (inr (inr y)) = absurd (drive_or_starts u y.run.0 e y.run.1 x y.run.2)
  end_by u v e f (inr (inr x)) (inl y) = absurd (first_or_starts v x.run.0 f x.run.1 y x.run.2)
  end_by u v e f (inr (inr x)) (inr (inl y)) = absurd (drive_or_starts v x.run.0 f x.run.1 y x.run.2)
  end_by u v e f (inr (inr x)) (inr (inr y)) =
      let s = second_one u v x.count y.count x.why y.why x.run y.run in
      (s.0, x.is ∙ ap₂ second_end s.1 s.2 ∙ sym y.is)

pub ends_once : (equations : List Row) (limit : ℕ) (t u v : Table) (e f : LpEnd) → IsStart equations t → RunEnds limit t u e → RunEnds limit t v f → (u ≡ v) × (e ≡ f)
ends_once equations limit t u v e f start x y = end_by equations limit t start u v e f (staged limit t u e x) (staged limit t v f y)

-- ---- the limit
phase_within : (cost bound limit : ℕ) (t : Table) (n : ℕ) (u : Table) (m : ℕ) → Leads cost bound limit t n u m → n ≤ limit → m ≤ limit
phase_within cost bound limit t n _ _ Here h = h
phase_within cost bound limit t n _ _ (Then u m r c l x i f) h = omega (arith, i)

drive_within : (limit : ℕ) (t : Table) (n i : ℕ) (u : Table) (m : ℕ) → Drives limit t n i u m → n ≤ limit → m ≤ limit
drive_within limit t n _ _ _ Begins h = h
drive_within limit t n _ _ _ (Leaves i u m d l) h = drive_within limit t n i u m d h
drive_within limit t n _ _ _ (Drives_out i u m c d b x l f) h = omega (arith, l)

first_within : (limit : ℕ) (t u : Table) (n : ℕ) (e : PhaseEnd) → InFirst limit t u n e → n ≤ limit
first_within limit t u n e x = phase_within (phase_row t) t.columns limit t 0 u n x.1 (omega arith)

driven_within : (limit : ℕ) (t u : Table) (n : ℕ) → InDrive limit t u n drive.Driven → n ≤ limit
driven_within limit t u n x = drive_within limit x.0 x.1 x.4.0 u n x.4.2 (first_within limit t x.0 x.1 phase.Done x.2)

starts_within : (limit : ℕ) (t u : Table) (n : ℕ) → Starts limit t u n → n ≤ limit
starts_within limit t u n (inl x) = let e = x.2 in omega (arith, e)
starts_within limit t u n (inr x) = driven_within limit t u n x

second_within : (limit : ℕ) (t u : Table) (n : ℕ) (e : PhaseEnd) → InSecond limit t u n e → n ≤ limit
second_within limit t u n e x = phase_within (objective_row x.0) x.0.plain limit x.0 x.1 u n x.3 (starts_within limit t x.0 x.1 x.2)

pub stops_at_limit : (limit : ℕ) (t u : Table) (n : ℕ) → RunEnds limit t u (lp.PivotLimit n) → n ≡ limit
stops_at_limit limit t u n (inl x) = let a = first_within limit t u n phase.Limit x in let b = x.2.1 in omega (arith, a, b)
stops_at_limit limit t u n (inr (inl x)) =
    let a = drive_within limit x.0 x.1 x.4.0 u n x.4.2 (first_within limit t x.0 x.1 phase.Done x.2) in
    let b = x.4.6 in
    omega (arith, a, b)
stops_at_limit limit t u n (inr (inr x)) = let a = second_within limit t u n phase.Limit x in let b = x.4.1 in omega (arith, a, b)
