-- A linear program whose rows and objective move by constants: its solutions, and the multipliers that bound it.
use Rattle.std.proofs.Common.{◌≡◌, ℕ, zero, suc, ◌+◌, List, [], ◌∷◌, length, Some, sym, ap, ap₂, ◌∙◌, subst, arith, pos}
use Rattle.std.specs.Prelude.{slice_get}
use Rattle.std.proofs.lemmas.Option.{slice_get_within}
use Rattle.dcx_math.specs.Rational.{ℚ, whole, ◌+ℚ◌, ◌*ℚ◌, ◌≤ℚ◌}
use Rattle.dcx_math.specs.Sums.{rat_sum_below}
use Rattle.dcx_math.proofs.Lists.{element_at}
use Rattle.dcx_math.proofs.Orders.{linear}
use Rattle.dcx_math.proofs.Ring.{ring, reads}
use Rattle.dcx_math.proofs.Sums.{rat_sum_below-same, rat_sum_below-+ℚ, rat_sum_below-*ℚ_right}
use Rattle.dcx_linear.specs.FormTerms.{Unknowns}
use Rattle.dcx_linear.specs.Rows.{RowAt, LinearProgram, AreOfKinds, IsSolution, IsOptimal, combined}
use Rattle.dcx_std.proofs.RightAnswers.{combined_sum}

-- the number of row k, and 0 past the end
abbrev pub number_in : List RowAt → Unknowns → ℕ → ℚ
number_in [] x k = whole (pos 0)
number_in (r ∷ rs) x zero = r.number x
number_in (r ∷ rs) x (suc k) = number_in rs x k

number_there : (rs : List RowAt) (x : Unknowns) (k : ℕ) (r : RowAt) → slice_get rs k ≡ Some r → r.number x ≡ number_in rs x k
number_there [] x k r e = cc
number_there (s ∷ rs) x zero r e = let d : r ≡ s = cc in ap (λ (z : RowAt). z.number x) d
number_there (s ∷ rs) x (suc k) r e = number_there rs x k r e

-- the rows of the second program are those of the first, each moved by t times its number, and so is the objective
pub record IsMoved (l n : LinearProgram) (c : ℕ → ℚ) (b t : ℚ) : Type 0 where
  pub kinds : n.kinds ≡ l.kinds
  pub count : length n.rows ≡ length l.rows
  pub rows : (i : ℕ) (r s : RowAt) → slice_get l.rows i ≡ Some r → slice_get n.rows i ≡ Some s → (s.kind ≡ r.kind) × ((x : Unknowns) → s.number x ≡ r.number x +ℚ c i *ℚ t)
  pub objective : (x : Unknowns) → n.objective x ≡ l.objective x +ℚ b *ℚ t

split : (m f c t : ℚ) → m *ℚ (f +ℚ c *ℚ t) ≡ m *ℚ f +ℚ (m *ℚ c) *ℚ t
split m f c t = ring (m ∷ f ∷ c ∷ t ∷ []) (search reads depth 30) tt

module _ (l n : LinearProgram) (c : ℕ → ℚ) (b t : ℚ) (is : IsMoved l n c b t) where
  pub source : (i : ℕ) (s : RowAt) → slice_get n.rows i ≡ Some s → (r : RowAt) × (slice_get l.rows i ≡ Some r)
  source i s e = let k = slice_get_within n.rows i s e in let d = is.count in element_at l.rows i (omega (arith, k, d))

  combined_moves : (m : ℕ → ℚ) (x : Unknowns) → combined n m x ≡ combined l m x +ℚ rat_sum_below (length l.rows) (λ k. m k *ℚ c k) *ℚ t
  combined_moves m x =
      combined_sum m 0 n.rows x (λ k. number_in l.rows x k +ℚ c k *ℚ t)
      (λ k s e. let r = source k s e in (is.rows k r.0 s r.1 e).1 x ∙ ap (λ z. z +ℚ c k *ℚ t) (number_there l.rows x k r.0 r.1))
      ∙ ap (λ len. rat_sum_below len (λ k. m (0 + k) *ℚ (number_in l.rows x k +ℚ c k *ℚ t))) is.count
      ∙ rat_sum_below-same (length l.rows) _ (λ k. m (0 + k) *ℚ number_in l.rows x k +ℚ (m k *ℚ c k) *ℚ t)
      (λ k h. let e : 0 + k ≡ k = omega arith in split (m (0 + k)) (number_in l.rows x k) (c k) t ∙ ap (λ j. m (0 + k) *ℚ number_in l.rows x k +ℚ (m j *ℚ c k) *ℚ t) e)
      ∙ rat_sum_below-+ℚ (length l.rows) (λ k. m (0 + k) *ℚ number_in l.rows x k) (λ k. (m k *ℚ c k) *ℚ t)
      ∙ ap₂ ◌+ℚ◌ (sym (combined_sum m 0 l.rows x (number_in l.rows x) (number_there l.rows x))) (rat_sum_below-*ℚ_right (length l.rows) t (λ k. m k *ℚ c k))

  bounded : (v o s w : ℚ) → v ≤ℚ (o +ℚ s) → (v +ℚ (w +ℚ b) *ℚ t) ≤ℚ ((o +ℚ b *ℚ t) +ℚ (s +ℚ w *ℚ t))
  bounded v o s w h = linear (v ∷ o ∷ s ∷ w ∷ b ∷ t ∷ []) h (search reads depth 30 fits 4000) tt

  -- where the multipliers times the moves of the rows are w, they show that a solution with this objective is optimal
  pub moved_optimal : (v w : ℚ) (x y : Unknowns) (m : ℕ → ℚ) → IsOptimal l v x m → rat_sum_below (length l.rows) (λ k. m k *ℚ c k) ≡ w → IsSolution n y → n.objective y ≡ v +ℚ (w +ℚ b) *ℚ t
      → IsOptimal n (v +ℚ (w +ℚ b) *ℚ t) y m
  moved_optimal v w x y m o sum solves attained = record {
    solution = solves;
    attained = attained;
    signs = λ i s e kind. let r = source i s e in o.signs i r.0 r.1 (sym (is.rows i r.0 s r.1 e).0 ∙ kind);
    bound = λ z h.
        subst (λ g. (v +ℚ (w +ℚ b) *ℚ t) ≤ℚ g) (sym (ap₂ ◌+ℚ◌ (is.objective z) (combined_moves m z ∙ ap (λ g. combined l m z +ℚ g *ℚ t) sum)))
        (bounded v (l.objective z) (combined l m z) w (o.bound z (subst (λ ks. AreOfKinds ks z) is.kinds h)));
  }
