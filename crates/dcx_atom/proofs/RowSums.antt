-- Rows and forms are linear in the arguments and the auxiliary unknowns together.
use Rattle.std.proofs.Common.{◌≡◌, List, [], ◌∷◌, refl, ap, ap₂, ◌∙◌, pos}
use Rattle.dcx_math.specs.Rational.{ℚ, whole, ◌+ℚ◌, ◌*ℚ◌, ◌≤ℚ◌}
use Rattle.dcx_math.specs.Sums.{IsNonnegative}
use Rattle.dcx_math.proofs.Ring.{ring, reads}
use Rattle.dcx_math.proofs.Orders.{+ℚ-≤ℚ, *ℚ-≤ℚ, ≤ℚ_trans, linear, ≤ℚ-from_≡}
use Rattle.dcx_atom.specs.declared.graph.Operand.{Operand}
use Rattle.dcx_atom.specs.declared.graph.Operand.TheVariants.{Argument, Aux}
use Rattle.dcx_atom.specs.Arrays.{Entries}
use Rattle.dcx_atom.specs.Signs.{combination}
use Rattle.dcx_atom.specs.Rows.{Filling, Row, Form, operand_at, row_at, form_at, RowsHold}

-- p u + q v, unknown by unknown
abbrev pub filling_combination : ℚ → ℚ → Filling → Filling → Filling
filling_combination p q u v k = p *ℚ u k +ℚ q *ℚ v k

-- nothing is a combination of nothing
pub zero_combination : (p q : ℚ) → whole (pos 0) ≡ p *ℚ whole (pos 0) +ℚ q *ℚ whole (pos 0)
zero_combination p q = ring (p ∷ q ∷ []) (search reads depth 30) tt

-- a term of a combination beside a combination
pub term_combination : (p q c x y r s : ℚ) → c *ℚ (p *ℚ x +ℚ q *ℚ y) +ℚ (p *ℚ r +ℚ q *ℚ s) ≡ p *ℚ (c *ℚ x +ℚ r) +ℚ q *ℚ (c *ℚ y +ℚ s)
term_combination p q c x y r s = ring (p ∷ q ∷ c ∷ x ∷ y ∷ r ∷ s ∷ []) (search reads depth 30) tt

operand_combination : (p q : ℚ) (x : Operand) (a b : Entries) (u v : Filling) →
    operand_at x (combination p q a b) (filling_combination p q u v) ≡ p *ℚ operand_at x a u +ℚ q *ℚ operand_at x b v
operand_combination p q (Argument i j) a b u v = refl
operand_combination p q (Aux k) a b u v = refl

-- a row at a combination
pub row_combination : (p q : ℚ) (row : Row) (a b : Entries) (u v : Filling) →
    row_at row (combination p q a b) (filling_combination p q u v) ≡ p *ℚ row_at row a u +ℚ q *ℚ row_at row b v
row_combination p q [] a b u v = zero_combination p q
row_combination p q (x ∷ row) a b u v =
    ap₂ (λ y z. x.coefficient *ℚ y +ℚ z) (operand_combination p q x.operand a b u v) (row_combination p q row a b u v)
    ∙ term_combination p q x.coefficient (operand_at x.operand a u) (operand_at x.operand b v) (row_at row a u) (row_at row b v)

-- a form at a combination
pub form_combination : (p q : ℚ) (form : Form) (u v : Filling) → form_at form (filling_combination p q u v) ≡ p *ℚ form_at form u +ℚ q *ℚ form_at form v
form_combination p q [] u v = zero_combination p q
form_combination p q (x ∷ form) u v =
    ap (λ z. x.coefficient *ℚ (p *ℚ u x.aux +ℚ q *ℚ v x.aux) +ℚ z) (form_combination p q form u v)
    ∙ term_combination p q x.coefficient (u x.aux) (v x.aux) (form_at form u) (form_at form v)

-- combinations of numbers at most 0 are at most 0
pub nonpositive_combination : {p q x y : ℚ} → IsNonnegative p → IsNonnegative q → x ≤ℚ whole (pos 0) → y ≤ℚ whole (pos 0) → p *ℚ x +ℚ q *ℚ y ≤ℚ whole (pos 0)
nonpositive_combination {p} {q} {x} {y} hp hq hx hy = linear (p ∷ q ∷ x ∷ y ∷ []) (+ℚ-≤ℚ (*ℚ-≤ℚ hp hx) (*ℚ-≤ℚ hq hy)) (search reads depth 30) tt

-- combinations of numbers at least 0 are at least 0
pub nonnegative_combination : {p q x y : ℚ} → IsNonnegative p → IsNonnegative q → IsNonnegative x → IsNonnegative y → IsNonnegative (p *ℚ x +ℚ q *ℚ y)
nonnegative_combination {p} {q} {x} {y} hp hq hx hy = linear (p ∷ q ∷ x ∷ y ∷ []) (+ℚ-≤ℚ (*ℚ-≤ℚ hp hx) (*ℚ-≤ℚ hq hy)) (search reads depth 30) tt

-- rows that hold at two places hold at each combination
pub rows_combination : {p q : ℚ} (rows : List Row) (a b : Entries) (u v : Filling) → IsNonnegative p → IsNonnegative q → RowsHold rows a u → RowsHold rows b v →
    RowsHold rows (combination p q a b) (filling_combination p q u v)
rows_combination [] a b u v hp hq h k = tt
rows_combination {p} {q} (row ∷ rows) a b u v hp hq h k =
    (≤ℚ_trans (≤ℚ-from_≡ (row_combination p q row a b u v)) (nonpositive_combination hp hq h.0 k.0), rows_combination rows a b u v hp hq h.1 k.1)
