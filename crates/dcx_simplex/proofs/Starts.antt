-- A program's first tableau is one from which a run begins.
use Rattle.std.proofs.Common.{◌≡◌, ◌≢◌, ℕ, zero, suc, ◌+◌, ◌-◌, ◌<◌, ◌≤◌, Bool, true, false, not, nat_eq, List, [], ◌∷◌, ◌++◌, length, ℤ, pos, negsuc}
use Rattle.std.proofs.Common.{◌+ℤ◌, ◌-ℤ◌, ◌<ℤ◌, ◌≤ℤ◌, unsigned_abs, arith, refl, sym, ap, ap₂, ◌∙◌, subst, ◌⊎◌, inl, inr}
use Rattle.std.specs.Prelude.{Some, slice_get, nat_le, if◌then◌else◌}
use Rattle.std.proofs.lemmas.Int.{ints}
use Rattle.std.proofs.lemmas.Bool.{and_parts, cases_lt, cases_eq, eqb-true, le-leb, leb-true, eq-eqb, ne_eqb}
use Rattle.std.proofs.lemmas.List.{get_or_append_left, get_or_at, get_or-append_right}
use native.Mathlib.Nat.{eq-one_of_dvd-one}
use Prim.Native.Nat.{◌∣◌}
use Rattle.dcx_math.specs.Divisors.{gcd_of, IsPrimitive}
use Rattle.dcx_math.specs.IntegerSums.{int_dot, int_scaled, int_added, int_sum_by}
use Rattle.dcx_math.proofs.IntegerVectors.{int_dot-added, int_dot-scaled, length-int_added, length-int_scaled}
use Rattle.dcx_tab.specs.declared.rows.ColumnKind.{ColumnKind}
use Rattle.dcx_tab.specs.declared.rows.ColumnKind.TheVariants.{Unknown, Slack, Artificial}
use Rattle.dcx_tab.specs.declared.rows.IntRow.{IntRow}
use Rattle.dcx_tab.specs.declared.rows.CostRow.{CostRow}
use Rattle.dcx_tab.specs.Rows.{Row, Assignment, entry, row_at, basic_at, Solves, IsBasicRow, IsTableau}
use Rattle.dcx_tab.specs.Program.{IsProgram, kind_at, plain_count, told_entry, unknown_entry, may_start, sum_started}
use Rattle.dcx_tab.specs.Program.{first_basic_of, first_basic_at, tableau_row, objective_row, phase_row, first_table}
use Rattle.dcx_tab.proofs.LineSteps.{neg_entry}
use Rattle.dcx_tab.proofs.RowLaws.{gcd_of-dvd_entry, entry-added}
use Rattle.dcx_tab.proofs.Programs.{has_row, map_at, from_plain, plain_count_le, length_first, length_basis, at_row, at_objective, at_phase, basic_row, basic_objective, basic_phase, widths}
use Rattle.dcx_simplex.specs.Start.{IsStart, IsSumRow}

-- ---- a row with three more numbers
module _ (es : List ℤ) (a b c : ℤ) where
  pub entry_front : (j : ℕ) → j < length es → entry (es ++ a ∷ b ∷ c ∷ []) j ≡ entry es j
  entry_front j h = get_or_append_left es (a ∷ b ∷ c ∷ []) (pos 0) j h

  pub entry_z : (n : ℕ) → length es ≡ n → entry (es ++ a ∷ b ∷ c ∷ []) n ≡ a
  entry_z n e = get_or_at es a (b ∷ c ∷ []) (pos 0) n e

  pub entry_w : (n : ℕ) → length es ≡ n → entry (es ++ a ∷ b ∷ c ∷ []) (n + 1) ≡ b
  entry_w n e = get_or-append_right es (a ∷ b ∷ c ∷ []) n (n + 1) (pos 0) e (omega arith) ∙ ap (entry (a ∷ b ∷ c ∷ [])) (one n)
    where
      one : (n : ℕ) → n + 1 - n ≡ 1
      one n = omega arith

  pub entry_right : (n : ℕ) → length es ≡ n → entry (es ++ a ∷ b ∷ c ∷ []) (n + 2) ≡ c
  entry_right n e = get_or-append_right es (a ∷ b ∷ c ∷ []) n (n + 2) (pos 0) e (omega arith) ∙ ap (entry (a ∷ b ∷ c ∷ [])) (two n)
    where
      two : (n : ℕ) → n + 2 - n ≡ 2
      two n = omega arith

-- a row with an entry 1 is primitive
pub primitive_one : (row : Row) (j : ℕ) → entry row j ≡ pos 1 → IsPrimitive row
primitive_one row j e = record { one = eq-one_of_dvd-one (subst (λ z. gcd_of row ∣ unsigned_abs z) e (gcd_of-dvd_entry row j)) }

-- ---- sums over rows
pub sum_none : (f : IntRow → ℤ) (rows : List IntRow) → ((l : ℕ) (r : IntRow) → slice_get rows l ≡ Some r → f r ≡ pos 0) → int_sum_by f rows ≡ pos 0
sum_none f [] h = refl
sum_none f (r ∷ rows) h = let e = h 0 r refl in let ih = sum_none f rows (λ l s q. h (suc l) s q) in omega (arith, ints, e, ih)

pub sum_one : (f : IntRow → ℤ) (rows : List IntRow) (k : ℕ) (v : ℤ) → k < length rows → ((l : ℕ) (r : IntRow) → slice_get rows l ≡ Some r → l ≢ k → f r ≡ pos 0)
    → ((r : IntRow) → slice_get rows k ≡ Some r → f r ≡ v) → int_sum_by f rows ≡ v
sum_one f [] k v h z o = absurd (omega arith)
sum_one f (r ∷ rows) zero v h z o =
    let e = o r refl in
    let n = sum_none f rows (λ l s q. z (suc l) s q (omega arith)) in
    omega (arith, ints, e, n)
sum_one f (r ∷ rows) (suc k) v h z o =
    let e = z 0 r refl (omega arith) in
    let ih = sum_one f rows k v (omega arith) (λ l s q m. z (suc l) s q (omega arith)) (λ s q. o s q) in
    omega (arith, ints, e, ih)

pub sum_same : (f g : IntRow → ℤ) (rows : List IntRow) → ((l : ℕ) (r : IntRow) → slice_get rows l ≡ Some r → f r ≡ g r) → int_sum_by f rows ≡ int_sum_by g rows
sum_same f g [] h = refl
sum_same f g (r ∷ rows) h = ap₂ ◌+ℤ◌ (h 0 r refl) (sum_same f g rows (λ l s q. h (suc l) s q))

if_zero : (b : Bool) (z : ℤ) → z ≡ pos 0 → (if b then z else pos 0) ≡ pos 0
if_zero true z e = e
if_zero false z e = refl

if_none : (b : Bool) (z : ℤ) → (b ≡ true → ⊥) → (if b then z else pos 0) ≡ pos 0
if_none true z n = absurd (n refl)
if_none false z n = refl

if_some : (b : Bool) (z v : ℤ) → b ≡ true → z ≡ v → (if b then z else pos 0) ≡ v
if_some true z v h e = e
if_some false z v h e = cc

-- ---- the row that says that w is the sum of the artificials
pub combination : ℕ → List IntRow → Row → Row
combination plain [] last = int_scaled (negsuc 0) last
combination plain (r ∷ rows) last = if nat_le plain r.basic then int_added (tableau_row r) (combination plain rows last) else combination plain rows last

length_if : (b : Bool) (xs ys : List ℤ) (n : ℕ) → length xs ≡ n → length ys ≡ n → length (if b then xs else ys) ≡ n
length_if true xs ys n e f = e
length_if false xs ys n e f = f

length_combination : (plain : ℕ) (rows : List IntRow) (last : Row) (n : ℕ) → length last ≡ n → ((l : ℕ) (r : IntRow) → slice_get rows l ≡ Some r → length (tableau_row r) ≡ n)
    → length (combination plain rows last) ≡ n
unfolding combination
length_combination plain [] last n e h = length-int_scaled (negsuc 0) last ∙ e
length_combination plain (r ∷ rows) last n e h =
    let ih = length_combination plain rows last n e (λ l s q. h (suc l) s q) in
    let w = h 0 r refl in
    length_if (nat_le plain r.basic) (int_added (tableau_row r) (combination plain rows last)) (combination plain rows last) n
    (length-int_added (tableau_row r) (combination plain rows last) (w ∙ sym ih) ∙ w) ih

entry_if : (b : Bool) (xs ys : List ℤ) (j : ℕ) (u v : ℤ) → entry xs j ≡ u +ℤ v → entry ys j ≡ v → entry (if b then xs else ys) j ≡ (if b then u else pos 0) +ℤ v
entry_if true xs ys j u v e f = e
entry_if false xs ys j u v e f = f ∙ omega (arith, ints)

entry_combination : (plain : ℕ) (rows : List IntRow) (last : Row) (j : ℕ) → entry (combination plain rows last) j ≡ sum_started plain (λ r. entry (tableau_row r) j) rows -ℤ entry last j
unfolding combination
entry_combination plain [] last j = sym (neg_entry last j)
entry_combination plain (r ∷ rows) last j =
    let ih = entry_combination plain rows last j in
    entry_if (nat_le plain r.basic) (int_added (tableau_row r) (combination plain rows last)) (combination plain rows last) j
    (entry (tableau_row r) j) _ (entry-added (tableau_row r) (combination plain rows last) j ∙ ap (λ z. entry (tableau_row r) j +ℤ z) ih) ih
    ∙ regroup (if nat_le plain r.basic then entry (tableau_row r) j else pos 0) (sum_started plain (λ r. entry (tableau_row r) j) rows) (entry last j)
  where
    regroup : (a b c : ℤ) → a +ℤ (b -ℤ c) ≡ (a +ℤ b) -ℤ c
    regroup a b c = omega (arith, ints)

dot_if : (b : Bool) (xs ys x : List ℤ) → int_dot xs x ≡ pos 0 → int_dot ys x ≡ pos 0 → int_dot (if b then xs else ys) x ≡ pos 0
dot_if true xs ys x e f = e
dot_if false xs ys x e f = f

dot_combination : (plain : ℕ) (rows : List IntRow) (last x : Row) → int_dot last x ≡ pos 0 → ((l : ℕ) (r : IntRow) → slice_get rows l ≡ Some r → int_dot (tableau_row r) x ≡ pos 0)
    → int_dot (combination plain rows last) x ≡ pos 0
unfolding combination
dot_combination plain [] last x e h = int_dot-scaled (negsuc 0) last x ∙ (let z = e in omega (arith, ints, e))
dot_combination plain (r ∷ rows) last x e h =
    let ih = dot_combination plain rows last x e (λ l s q. h (suc l) s q) in
    let d = h 0 r refl in
    dot_if (nat_le plain r.basic) (int_added (tableau_row r) (combination plain rows last)) (combination plain rows last) x
    (int_dot-added (tableau_row r) (combination plain rows last) x ∙ omega (arith, ints, d, ih)) ih

-- ---- kinds of columns
told_other : (k : ColumnKind) (i l : ℕ) (start negated : Bool) (z : ℤ) → may_start i start k ≡ true → l ≢ i → told_entry l negated k z ≡ pos 0
told_other (Unknown u n) i l start negated z h m = cc
told_other (Slack r) i l start negated z h m = let e = eqb-true r i (and_parts (nat_eq r i) (not start) h).0 in let d = ne_eqb r l (λ q. m (sym q ∙ e)) in rw d refl
told_other (Artificial r) i l start negated z h m = let e = eqb-true r i h in let d = ne_eqb r l (λ q. m (sym q ∙ e)) in rw d refl

told_own : (k : ColumnKind) (i : ℕ) (negated : Bool) (z : ℤ) → may_start i negated k ≡ true → told_entry i negated k z ≡ pos 1
told_own (Unknown u n) i negated z h = cc
told_own (Slack r) i true z h = let e : false ≡ true = (and_parts (nat_eq r i) (not true) h).1 in cc
told_own (Slack r) i false z h = let e : nat_eq r i ≡ true = (and_parts (nat_eq r i) (not false) h).0 in rw e refl
told_own (Artificial r) i negated z h = rw h refl

unknown_none : (k : ColumnKind) (i : ℕ) (start : Bool) (z : ℤ) → may_start i start k ≡ true → unknown_entry k z ≡ pos 0
unknown_none (Unknown u n) i start z h = cc
unknown_none (Slack r) i start z h = refl
unknown_none (Artificial r) i start z h = refl

-- an artificial column's entry
told_artificial : (k : ColumnKind) (r l : ℕ) (negated : Bool) (z : ℤ) → k ≡ Artificial r → l ≢ r → told_entry l negated k z ≡ pos 0
told_artificial (Unknown u n) r l negated z e m = cc
told_artificial (Slack s) r l negated z e m = cc
told_artificial (Artificial s) r l negated z e m = let f : s ≡ r = cc in let d = ne_eqb s l (λ q. m (sym q ∙ f)) in rw d refl

pub told_artificial_own : (k : ColumnKind) (r : ℕ) (negated : Bool) (z : ℤ) → k ≡ Artificial r → told_entry r negated k z ≡ pos 1
told_artificial_own (Unknown u n) r negated z e = cc
told_artificial_own (Slack s) r negated z e = cc
told_artificial_own (Artificial s) r negated z e = let f : s ≡ r = cc in let d : nat_eq s r ≡ true = eq-eqb s r f in rw d refl

module _ (rows : List IntRow) (kinds : List ColumnKind) (objective phase : CostRow) (form : IsProgram rows kinds objective phase) where
  -- the start column of a row
  pub start_low : (k : ℕ) → k < length rows → first_basic_at rows k < length kinds
  start_low k h = let s = has_row rows k h in let f = form.each_row k s.row s.is in let e = map_at first_basic_of rows k s.row 0 s.is in let l = f.basic in omega (arith, e, l)

  pub starts_at : (k : ℕ) → k < length rows → (negated : Bool) × (may_start k negated (kind_at kinds (first_basic_at rows k)) ≡ true)
  starts_at k h =
      let s = has_row rows k h in
      let f = form.each_row k s.row s.is in
      let e = map_at first_basic_of rows k s.row 0 s.is in
      (s.row.negated, subst (λ j. may_start k s.row.negated (kind_at kinds j) ≡ true) (sym e) f.starts)

  pub row_start_other : (l : ℕ) (r : IntRow) → slice_get rows l ≡ Some r → (k : ℕ) → k < length rows → l ≢ k → entry r.entries (first_basic_at rows k) ≡ pos 0
  row_start_other l r is k h n =
      let f = form.each_row l r is in
      let s = starts_at k h in
      f.told (first_basic_at rows k) (start_low k h) ∙ told_other (kind_at kinds (first_basic_at rows k)) k l s.0 r.negated (entry r.entries (first_basic_at rows k)) s.1 n

  pub row_start_own : (l : ℕ) (r : IntRow) → slice_get rows l ≡ Some r → entry r.entries r.basic ≡ pos 1
  row_start_own l r is = let f = form.each_row l r is in f.told r.basic f.basic ∙ told_own (kind_at kinds r.basic) l r.negated (entry r.entries r.basic) f.starts

  cost_start : (k : ℕ) → k < length rows → entry objective.entries (first_basic_at rows k) ≡ pos 0
  cost_start k h = let s = starts_at k h in form.cost.told (first_basic_at rows k) (start_low k h)
      ∙ unknown_none (kind_at kinds (first_basic_at rows k)) k s.0 (entry objective.entries (first_basic_at rows k)) s.1

  phase_start_by : (k : ℕ) → k < length rows → (first_basic_at rows k < plain_count kinds) ⊎ (plain_count kinds ≤ first_basic_at rows k) → entry phase.entries (first_basic_at rows k) ≡ pos 0
  phase_start_by k h (inr l) = form.sum.artificial (first_basic_at rows k) l (start_low k h)
  phase_start_by k h (inl l) = form.sum.plain (first_basic_at rows k) l ∙ sum_none _ rows none
    where
      by : (i : ℕ) (r : IntRow) → slice_get rows i ≡ Some r → (i ≡ k) ⊎ (i ≢ k) → (if nat_le (plain_count kinds) r.basic then entry r.entries (first_basic_at rows k) else pos 0) ≡ pos 0
      by i r is (inl e) = if_none (nat_le (plain_count kinds) r.basic) _ (λ t. let q = leb-true (plain_count kinds) r.basic t in
          let b : first_basic_at rows k ≡ r.basic = ap (first_basic_at rows) (sym e) ∙ map_at first_basic_of rows i r 0 is in absurd (omega (arith, q, b, l)))
      by i r is (inr n) = if_zero (nat_le (plain_count kinds) r.basic) _ (row_start_other i r is k h n)

      none : (i : ℕ) (r : IntRow) → slice_get rows i ≡ Some r → (if nat_le (plain_count kinds) r.basic then entry r.entries (first_basic_at rows k) else pos 0) ≡ pos 0
      none i r is = by i r is (cases_eq i k)

  phase_start : (k : ℕ) → k < length rows → entry phase.entries (first_basic_at rows k) ≡ pos 0
  phase_start k h = phase_start_by k h (cases_lt (first_basic_at rows k) (plain_count kinds))

  -- ---- the zeros of a row at the basic columns
  zeros_by : (es : List ℤ) (a b c : ℤ) (i : ℕ) → length es ≡ length kinds → ((k : ℕ) → k < length rows → k ≢ i → entry es (first_basic_at rows k) ≡ pos 0) → (length rows ≢ i → a ≡ pos 0)
      → (length rows + 1 ≢ i → b ≡ pos 0)
      → (k : ℕ) → k < length rows + 2 → k ≢ i → (k < length rows) ⊎ (length rows ≤ k) → (k < length rows + 1) ⊎ (length rows + 1 ≤ k)
      → entry (es ++ a ∷ b ∷ c ∷ []) (basic_at (first_table rows kinds objective phase).basis k) ≡ pos 0
  zeros_by es a b c i w h fa fb k l n (inl m) d = ap (entry (es ++ a ∷ b ∷ c ∷ [])) (basic_row rows kinds objective phase form k m)
      ∙ entry_front es a b c (first_basic_at rows k) (let s = start_low k m in omega (arith, s, w)) ∙ h k m n
  zeros_by es a b c i w h fa fb k l n (inr m) (inl d) =
      let e : length rows ≡ k = omega (arith, m, d) in
      subst (λ q. entry (es ++ a ∷ b ∷ c ∷ []) (basic_at (first_table rows kinds objective phase).basis q) ≡ pos 0) e
      (ap (entry (es ++ a ∷ b ∷ c ∷ [])) (basic_objective rows kinds objective phase form) ∙ entry_z es a b c (length kinds) w ∙ fa (λ q. n (sym e ∙ q)))
  zeros_by es a b c i w h fa fb k l n (inr m) (inr d) =
      let e : length rows + 1 ≡ k = omega (arith, l, d) in
      subst (λ q. entry (es ++ a ∷ b ∷ c ∷ []) (basic_at (first_table rows kinds objective phase).basis q) ≡ pos 0) e
      (ap (entry (es ++ a ∷ b ∷ c ∷ [])) (basic_phase rows kinds objective phase form) ∙ entry_w es a b c (length kinds) w ∙ fb (λ q. n (sym e ∙ q)))

  zeros_of : (es : List ℤ) (a b c : ℤ) (i : ℕ) → length es ≡ length kinds → ((k : ℕ) → k < length rows → k ≢ i → entry es (first_basic_at rows k) ≡ pos 0) → (length rows ≢ i → a ≡ pos 0)
      → (length rows + 1 ≢ i → b ≡ pos 0)
      → (k : ℕ) → k < length (first_table rows kinds objective phase).basis → k ≢ i → entry (es ++ a ∷ b ∷ c ∷ []) (basic_at (first_table rows kinds objective phase).basis k) ≡ pos 0
  zeros_of es a b c i w h fa fb k l n =
      zeros_by es a b c i w h fa fb k (let e = length_basis rows kinds objective phase form in omega (arith, e, l)) n (cases_lt k (length rows)) (cases_lt k (length rows + 1))

  basic_of : (i : ℕ) (r : IntRow) → i < length rows → slice_get rows i ≡ Some r → IsBasicRow (first_table rows kinds objective phase).basis i (tableau_row r)
  basic_of i r h is =
      let f = form.each_row i r is in
      let b : basic_at (first_table rows kinds objective phase).basis i ≡ r.basic = basic_row rows kinds objective phase form i h ∙ map_at first_basic_of rows i r 0 is in
      let low = f.basic in
      let w = f.width in
      let one : entry (tableau_row r) r.basic ≡ pos 1 = entry_front r.entries _ _ _ r.basic (omega (arith, low, w)) ∙ row_start_own i r is in
      record {
        primitive = primitive_one (tableau_row r) r.basic one;
        positive = subst (λ j. pos 0 <ℤ entry (tableau_row r) j) (sym b) (omega (arith, ints, one));
        zeros = zeros_of r.entries (pos 0) (pos 0) r.right i w (λ k l n. row_start_other i r is k l (λ e. n (sym e))) (λ q. refl) (λ q. refl);
      }

  basic_cost : IsBasicRow (first_table rows kinds objective phase).basis (length rows) (objective_row objective)
  basic_cost =
      let w = form.cost.width in
      let z = entry_z objective.entries objective.lead (pos 0) objective.right (length kinds) w in
      let l = form.cost.lead in
      record {
        primitive = form.cost.primitive;
        positive = subst (λ j. pos 0 <ℤ entry (objective_row objective) j) (sym (basic_objective rows kinds objective phase form)) (subst (λ v. pos 0 <ℤ v) (sym z) l);
        zeros = zeros_of objective.entries objective.lead (pos 0) objective.right (length rows) w (λ k h n. cost_start k h) (λ q. absurd (q refl)) (λ q. refl);
      }

  basic_sum : IsBasicRow (first_table rows kinds objective phase).basis (length rows + 1) (phase_row phase)
  basic_sum =
      let w = form.sum.width in
      let one : entry (phase_row phase) (length kinds + 1) ≡ pos 1 = entry_w phase.entries (pos 0) phase.lead phase.right (length kinds) w ∙ form.sum.lead in
      record {
        primitive = primitive_one (phase_row phase) (length kinds + 1) one;
        positive = subst (λ j. pos 0 <ℤ entry (phase_row phase) j) (sym (basic_phase rows kinds objective phase form)) (omega (arith, ints, one));
        zeros = zeros_of phase.entries (pos 0) phase.lead phase.right (length rows + 1) w (λ k h n. phase_start k h) (λ q. refl) (λ q. absurd (q refl));
      }

  basic_by : (i : ℕ) → i < length rows + 2 → (i < length rows) ⊎ (length rows ≤ i) → (i < length rows + 1) ⊎ (length rows + 1 ≤ i)
      → IsBasicRow (first_table rows kinds objective phase).basis i (row_at (first_table rows kinds objective phase).rows i)
  basic_by i h (inl l) d = let s = has_row rows i l in
      subst (IsBasicRow (first_table rows kinds objective phase).basis i) (sym (at_row rows kinds objective phase form i s.row l s.is)) (basic_of i s.row l s.is)
  basic_by i h (inr l) (inl d) =
      let e : length rows ≡ i = omega (arith, l, d) in
      subst (λ q. IsBasicRow (first_table rows kinds objective phase).basis q (row_at (first_table rows kinds objective phase).rows q)) e
      (subst (IsBasicRow (first_table rows kinds objective phase).basis (length rows)) (sym (at_objective rows kinds objective phase form)) basic_cost)
  basic_by i h (inr l) (inr d) =
      let e : length rows + 1 ≡ i = omega (arith, h, d) in
      subst (λ q. IsBasicRow (first_table rows kinds objective phase).basis q (row_at (first_table rows kinds objective phase).rows q)) e
      (subst (IsBasicRow (first_table rows kinds objective phase).basis (length rows + 1)) (sym (at_phase rows kinds objective phase form)) basic_sum)

  size : length (first_table rows kinds objective phase).rows ≡ length (first_table rows kinds objective phase).basis
  size = length_first rows kinds objective phase form ∙ sym (length_basis rows kinds objective phase form)

  pub first_form : IsTableau (length kinds + 3) (first_table rows kinds objective phase).basis (first_table rows kinds objective phase).rows
  first_form = record {
    size = size;
    widths = λ i h. widths rows kinds objective phase form i (let e = length_first rows kinds objective phase form in omega (arith, e, h));
    basic = λ i h. basic_by i (let e = length_first rows kinds objective phase form in omega (arith, e, h)) (cases_lt i (length rows)) (cases_lt i (length rows + 1));
  }

  -- ---- the sum of the artificials
  p : ℕ
  p = plain_count kinds

  pub sum_row : Row
  sum_row = combination (plain_count kinds) rows (phase_row phase)

  front_sum : (j : ℕ) → j < length kinds → sum_started (plain_count kinds) (λ r. entry (tableau_row r) j) rows ≡ sum_started (plain_count kinds) (λ r. entry r.entries j) rows
  front_sum j h = sum_same _ _ rows (λ l r is. ap (λ z. if nat_le (plain_count kinds) r.basic then z else pos 0)
      (entry_front r.entries _ _ _ j (let w = (form.each_row l r is).width in omega (arith, h, w))))

  phase_front : (j : ℕ) → j < length kinds → entry (phase_row phase) j ≡ entry phase.entries j
  phase_front j h = entry_front phase.entries _ _ _ j (let w = form.sum.width in omega (arith, h, w))

  less : (a b c : ℤ) → a ≡ b → b ≡ c → a -ℤ c ≡ pos 0
  less a b c e f = omega (arith, ints, e, f)

  sum_plain : (j : ℕ) → j < plain_count kinds → entry sum_row j ≡ pos 0
  unfolding sum_row
  sum_plain j h =
      let l = plain_count_le kinds in
      entry_combination (plain_count kinds) rows (phase_row phase) j ∙ less _ _ _ (front_sum j (omega (arith, h, l))) (sym (phase_front j (omega (arith, h, l)) ∙ form.sum.plain j h))

  one_less : (a c : ℤ) → a ≡ pos 1 → c ≡ pos 0 → a -ℤ c ≡ pos 1
  one_less a c e f = omega (arith, ints, e, f)

  artificial_sum : (j r : ℕ) → kind_at kinds j ≡ Artificial r → plain_count kinds ≤ j → j < length kinds → sum_started (plain_count kinds) (λ r. entry r.entries j) rows ≡ pos 1
  artificial_sum j r e h l =
      sum_one _ rows r (pos 1) (form.artificial j r e)
      (λ i q is n. if_zero (nat_le (plain_count kinds) q.basic) _ ((form.each_row i q is).told j l ∙ told_artificial (kind_at kinds j) r i q.negated (entry q.entries j) e n))
      (λ q is.
      let b : j ≡ q.basic = sym (form.starting j r e) ∙ map_at first_basic_of rows r q 0 is in
      if_some (nat_le (plain_count kinds) q.basic) _ (pos 1) (le-leb (plain_count kinds) q.basic (omega (arith, b, h)))
      ((form.each_row r q is).told j l ∙ told_artificial_own (kind_at kinds j) r q.negated (entry q.entries j) e))

  sum_artificial : (j : ℕ) → plain_count kinds ≤ j → j < length kinds → entry sum_row j ≡ pos 1
  unfolding sum_row
  sum_artificial j h l =
      let a = from_plain rows kinds objective phase form j h l in
      entry_combination (plain_count kinds) rows (phase_row phase) j ∙ one_less _ _ (front_sum j l ∙ artificial_sum j a.row a.is h l) (phase_front j l ∙ form.sum.artificial j h l)

  sum_z : entry sum_row (length kinds) ≡ pos 0
  unfolding sum_row
  sum_z =
      entry_combination (plain_count kinds) rows (phase_row phase) (length kinds)
      ∙ less _ (pos 0) _ (sum_none _ rows (λ l r is. if_zero (nat_le (plain_count kinds) r.basic) _ (entry_z r.entries _ _ _ (length kinds) (form.each_row l r is).width)))
      (sym (entry_z phase.entries _ _ _ (length kinds) form.sum.width))

  minus : (a c : ℤ) → a ≡ pos 0 → c ≡ pos 1 → a -ℤ c ≡ negsuc 0
  minus a c e f = omega (arith, ints, e, f)

  sum_w : entry sum_row (length kinds + 1) ≡ negsuc 0
  unfolding sum_row
  sum_w =
      entry_combination (plain_count kinds) rows (phase_row phase) (length kinds + 1)
      ∙ minus _ _ (sum_none _ rows (λ l r is. if_zero (nat_le (plain_count kinds) r.basic) _ (entry_w r.entries _ _ _ (length kinds) (form.each_row l r is).width)))
      (entry_w phase.entries _ _ _ (length kinds) form.sum.width ∙ form.sum.lead)

  sum_right : entry sum_row (length kinds + 2) ≡ pos 0
  unfolding sum_row
  sum_right =
      entry_combination (plain_count kinds) rows (phase_row phase) (length kinds + 2)
      ∙ less _ _ _ (sum_same _ _ rows (λ l r is. ap (λ z. if nat_le (plain_count kinds) r.basic then z else pos 0) (entry_right r.entries _ _ _ (length kinds) (form.each_row l r is).width)))
      (sym (entry_right phase.entries _ _ _ (length kinds) form.sum.width ∙ form.sum.right))

  row_low : (l : ℕ) (r : IntRow) → slice_get rows l ≡ Some r → l < length rows
  row_low l r is = by rows l r is
    where
      by : (rows : List IntRow) (l : ℕ) (r : IntRow) → slice_get rows l ≡ Some r → l < length rows
      by [] l r e = cc
      by (s ∷ rows) zero r e = omega arith
      by (s ∷ rows) (suc l) r e = let h = by rows l r e in omega (arith, h)

  sum_holds : (x : Assignment) → Solves (first_table rows kinds objective phase).rows x → int_dot sum_row x ≡ pos 0
  unfolding sum_row
  sum_holds x h =
      let e = length_first rows kinds objective phase form in
      dot_combination (plain_count kinds) rows (phase_row phase) x
      (ap (λ row. int_dot row x) (sym (at_phase rows kinds objective phase form)) ∙ h (length rows + 1) (omega (arith, e)))
      (λ l r is. let q = row_low l r is in ap (λ row. int_dot row x) (sym (at_row rows kinds objective phase form l r q is)) ∙ h l (omega (arith, e, q)))

  sum_width : length sum_row ≡ length kinds + 3
  unfolding sum_row
  sum_width =
      length_combination (plain_count kinds) rows (phase_row phase) (length kinds + 3)
      (ap length (sym (at_phase rows kinds objective phase form)) ∙ widths rows kinds objective phase form (length rows + 1) (omega arith))
      (λ l r is. let q = row_low l r is in ap length (sym (at_row rows kinds objective phase form l r q is)) ∙ widths rows kinds objective phase form l (omega (arith, q)))

  sum_is : IsSumRow (first_table rows kinds objective phase).rows (first_table rows kinds objective phase) sum_row
  sum_is = record {
    width = sum_width;
    zeros = sum_plain;
    ones = sum_artificial;
    z = sum_z;
    w = sum_w;
    right = sum_right;
    holds = sum_holds;
  }

  feasible : (i : ℕ) → i < length rows → pos 0 ≤ℤ entry (row_at (first_table rows kinds objective phase).rows i) (length kinds + 2)
  feasible i h =
      let s = has_row rows i h in
      let f = form.each_row i s.row s.is in
      let e = ap (λ row. entry row (length kinds + 2)) (at_row rows kinds objective phase form i s.row h s.is) ∙ entry_right s.row.entries _ _ _ (length kinds) f.width in
      subst (λ v. pos 0 ≤ℤ v) (sym e) f.right

  rows_are : length (first_table rows kinds objective phase).rows - 2 ≡ length rows
  rows_are = let e = length_first rows kinds objective phase form in omega (arith, e)

  last_are : length (first_table rows kinds objective phase).rows - 1 ≡ length rows + 1
  last_are = let e = length_first rows kinds objective phase form in omega (arith, e)

  -- a run may begin at the program's first tableau
  pub starts : IsStart (first_table rows kinds objective phase).rows (first_table rows kinds objective phase)
  starts =
      let e = length_first rows kinds objective phase form in
      record {
        tableau = record { form = first_form; holds = λ x h. h; only = λ x h. h };
        feasible = λ i h. feasible i (omega (arith, e, h));
        enough = omega (arith, e);
        basics = λ i h.
            let q : i < length rows = omega (arith, e, h) in
            let b = basic_row rows kinds objective phase form i q in
            let l = start_low i q in omega (arith, b, l);
        plain_below = plain_count_le kinds;
        objective = ap (basic_at (first_table rows kinds objective phase).basis) rows_are ∙ basic_objective rows kinds objective phase form;
        phase = ap (basic_at (first_table rows kinds objective phase).basis) last_are ∙ basic_phase rows kinds objective phase form;
        sum = (sum_row, sum_is);
      }
