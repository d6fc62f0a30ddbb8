-- What is read at a tableau is one answer.
use Rattle.std.proofs.Common.{◌≡◌, ◌≢◌, ℕ, ◌<◌, List, [], ◌∷◌, length, map, refl, sym, ap₂, ◌∙◌, ◌⊎◌, inl, inr, arith}
use Rattle.std.proofs.lemmas.Bool.{cases_eq}
use Rattle.std.proofs.lemmas.List.{length-map}
use Rattle.dcx_math.specs.Rational.{ℚ}
use Rattle.dcx_math.specs.Sums.{rat_at}
use Rattle.dcx_math.proofs.Vectors.{≡-from_rat_at}
use Rattle.dcx_frac.specs.declared.fraction.Frac.{Frac}
use Rattle.dcx_frac.specs.Frac.{value}
use Rattle.dcx_frac.proofs.Parts.{value_injective}
use Rattle.dcx_tab.specs.declared.program.Program.{Program}
use Rattle.dcx_tab.specs.Table.{Table}
use Rattle.dcx_lp_answer.specs.declared.answer.LpStatus.{LpStatus}
use Rattle.dcx_lp_answer.specs.declared.answer.RowNote.{RowNote}
use Rattle.dcx_lp_answer.specs.declared.answer.LpAnswer.{LpAnswer}
use Rattle.dcx_lp_answer.specs.Notes.{numbers, reduced_cost_of, factor_of, was_negated}
use Rattle.dcx_simplex.specs.declared.run.LpEnd.{LpEnd}
use Rattle.dcx_simplex.specs.declared.run.LpEnd.TheVariants as ends
use Rattle.dcx_simplex.specs.Basis.{IsBasic}
use Rattle.dcx_simplex.specs.Reading.{IsColumnNumber, IsColumnChange, IsReading, IsRayReading, HasNoRay, IsRead}
use Rattle.dcx_simplex.proofs.Cycle.{is_basic}
use Rattle.dcx_simplex.proofs.Slacks.{own_of}

-- ---- lists of fractions
one_fractions : (fs gs : List Frac) → numbers fs ≡ numbers gs → fs ≡ gs
one_fractions [] [] e = refl
one_fractions [] (g ∷ gs) e = cc
one_fractions (f ∷ fs) [] e = cc
one_fractions (f ∷ fs) (g ∷ gs) e =
    let first : value f ≡ value g = cc in
    let rest : numbers fs ≡ numbers gs = cc in
    ap₂ ◌∷◌ (value_injective f g first) (one_fractions fs gs rest)

-- lists of one length with the same number at each place
same_numbers : (n : ℕ) (fs gs : List Frac) → length fs ≡ n → length gs ≡ n → ((j : ℕ) → j < n → rat_at (numbers fs) j ≡ rat_at (numbers gs) j) → fs ≡ gs
same_numbers n fs gs l m h =
    let left = length-map fs value ∙ l in
    let right = length-map gs value ∙ m in
    one_fractions fs gs (≡-from_rat_at (numbers fs) (numbers gs) (left ∙ sym right) (λ j k. h j (omega (arith, k, left))))

one_note : (n m : RowNote) → reduced_cost_of n ≡ reduced_cost_of m → factor_of n ≡ factor_of m → was_negated n ≡ was_negated m → n ≡ m
one_note n m cost factor negated = λ i. record {
  reduced_cost = value_injective n.reduced_cost m.reduced_cost cost i;
  factor = value_injective n.factor m.factor factor i;
  negated = negated i;
}

one_notes : (ns ms : List RowNote) → map reduced_cost_of ns ≡ map reduced_cost_of ms → map factor_of ns ≡ map factor_of ms → map was_negated ns ≡ map was_negated ms → ns ≡ ms
one_notes [] [] costs factors negated = refl
one_notes [] (m ∷ ms) costs factors negated = cc
one_notes (n ∷ ns) [] costs factors negated = cc
one_notes (n ∷ ns) (m ∷ ms) costs factors negated =
    let cost : reduced_cost_of n ≡ reduced_cost_of m = cc in
    let factor : factor_of n ≡ factor_of m = cc in
    let turn : was_negated n ≡ was_negated m = cc in
    let other_costs : map reduced_cost_of ns ≡ map reduced_cost_of ms = cc in
    let other_factors : map factor_of ns ≡ map factor_of ms = cc in
    let other_turns : map was_negated ns ≡ map was_negated ms = cc in
    ap₂ ◌∷◌ (one_note n m cost factor turn) (one_notes ns ms other_costs other_factors other_turns)

-- ---- the number and the change of a column
one_number : (t : Table) (j : ℕ) (x y : ℚ) → IsColumnNumber t j x → IsColumnNumber t j y → x ≡ y
one_number t j x y h k = by (is_basic t j)
  where
    by : IsBasic t j ⊎ ¬ (IsBasic t j) → x ≡ y
    by (inl b) = h.basic b.0 b.1 b.2 ∙ sym (k.basic b.0 b.1 b.2)
    by (inr n) = h.other n ∙ sym (k.other n)

one_change : (t : Table) (c j : ℕ) (x y : ℚ) → IsColumnChange t c j x → IsColumnChange t c j y → x ≡ y
one_change t c j x y h k = by (is_basic t j) (cases_eq j c)
  where
    by : IsBasic t j ⊎ ¬ (IsBasic t j) → (j ≡ c) ⊎ (j ≢ c) → x ≡ y
    by (inl b) own = h.basic b.0 b.1 b.2 ∙ sym (k.basic b.0 b.1 b.2)
    by (inr n) (inl own) = h.own own ∙ sym (k.own own)
    by (inr n) (inr other) = h.other n other ∙ sym (k.other n other)

-- ---- the whole answer
module _ (q : Program) (t : Table) (a b : LpAnswer) where
  -- the answers are the same but for the ray and its slope
  record IsSameFront : Type 0 where
    status : a.status ≡ b.status
    number : a.number ≡ b.number
    columns : a.columns ≡ b.columns
    rows : a.rows ≡ b.rows

  same_front : (s : LpStatus) → IsReading q.rows q.columns t s a → IsReading q.rows q.columns t s b → IsSameFront
  same_front s h k =
      let left = length-map a.rows reduced_cost_of ∙ h.notes in
      let right = length-map b.rows reduced_cost_of ∙ k.notes in
      let costs : map reduced_cost_of a.rows ≡ map reduced_cost_of b.rows =
      ≡-from_rat_at (map reduced_cost_of a.rows) (map reduced_cost_of b.rows) (left ∙ sym right) (λ i l.
      let there : i < length q.rows = omega (arith, l, left) in
      let own = own_of q i there in
      h.reduced_costs i own.column there own.own ∙ sym (k.reduced_costs i own.column there own.own)) in
      record {
        status = h.status ∙ sym k.status;
        number = value_injective a.number b.number (h.number ∙ sym k.number);
        columns = same_numbers (length q.columns) a.columns b.columns h.columns k.columns
            (λ j l. one_number t j (rat_at (numbers a.columns) j) (rat_at (numbers b.columns) j) (h.column j l) (k.column j l));
        rows = one_notes a.rows b.rows costs (h.factors ∙ sym k.factors) (h.negated ∙ sym k.negated);
      }

  whole_answer : IsSameFront → a.slope ≡ b.slope → a.ray ≡ b.ray → a ≡ b
  whole_answer front slope ray = λ i. record {
    status = front.status i;
    number = front.number i;
    slope = slope i;
    columns = front.columns i;
    rows = front.rows i;
    ray = ray i;
  }

  without_ray : IsSameFront → HasNoRay a → HasNoRay b → a ≡ b
  without_ray front h k = whole_answer front (value_injective a.slope b.slope (h.slope ∙ sym k.slope)) (h.ray ∙ sym k.ray)

  with_ray : (c : ℕ) → IsSameFront → IsRayReading q.columns t c a → IsRayReading q.columns t c b → a ≡ b
  with_ray c front h k =
      whole_answer front (value_injective a.slope b.slope (h.slope ∙ sym k.slope))
      (same_numbers (length q.columns) a.ray b.ray h.ray k.ray (λ j l. one_change t c j (rat_at (numbers a.ray) j) (rat_at (numbers b.ray) j) (h.change j l) (k.change j l)))

  pub one_reading : (e : LpEnd) → IsRead q.rows q.columns t e a → IsRead q.rows q.columns t e b → a ≡ b
  one_reading (ends.Optimal n) h k = without_ray (same_front _ h.0 k.0) h.1 k.1
  one_reading (ends.Infeasible n) h k = without_ray (same_front _ h.0 k.0) h.1 k.1
  one_reading (ends.Unbounded n c) h k = with_ray c (same_front _ h.0 k.0) h.1 k.1
  one_reading (ends.Wide n r c) h k = absurd h
  one_reading (ends.PivotLimit n) h k = absurd h
