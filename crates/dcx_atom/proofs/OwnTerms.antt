-- Rows and results that speak of the first so many unknowns alone, and so are the same at fillings that agree there.
use Rattle.std.proofs.Common.{◌≡◌, ℕ, zero, suc, ◌<◌, arith, List, [], ◌∷◌, ◌++◌, map, refl, ap₂, subst, pos}
use Rattle.dcx_math.specs.Rational.{whole, ◌+ℚ◌, ◌*ℚ◌, ◌≤ℚ◌}
use Rattle.dcx_atom.specs.declared.flags.Bend.{Bend}
use Rattle.dcx_atom.specs.declared.flags.Bend.TheVariants.{Convex, Concave}
use Rattle.dcx_atom.specs.declared.graph.Operand.{Operand}
use Rattle.dcx_atom.specs.declared.graph.Operand.TheVariants.{Argument, Aux}
use Rattle.dcx_atom.specs.Arrays.{Entries, list_below, joined_below}
use Rattle.dcx_atom.specs.Rows.{Filling, RowTerm, Row, FormTerm, Form, operand_at, row_at, form_at, RowsHold}
use Rattle.dcx_atom.specs.Bounding.{bound_row}
use Rattle.dcx_atom.specs.OwnUnknowns.{IsOwn, AreOwnTerms, AreOwnRows, IsOwnForm}

-- fillings agree on the first n unknowns
abbrev pub Agree : ℕ → Filling → Filling → Type 0
Agree n t u = (k : ℕ) → k < n → t k ≡ u k

-- ---- what is the same
operand_same : (n : ℕ) (x : Operand) (a : Entries) (t u : Filling) → IsOwn n x → Agree n t u → operand_at x a t ≡ operand_at x a u
operand_same n (Argument i e) a t u own h = refl
operand_same n (Aux k) a t u own h = h k own

pub row_same : (n : ℕ) (row : Row) (a : Entries) (t u : Filling) → AreOwnTerms n row → Agree n t u → row_at row a t ≡ row_at row a u
row_same n [] a t u own h = refl
row_same n (x ∷ row) a t u own h = ap₂ (λ p q. x.coefficient *ℚ p +ℚ q) (operand_same n x.operand a t u own.0 h) (row_same n row a t u own.1 h)

pub rows_same : (n : ℕ) (rows : List Row) (a : Entries) (t u : Filling) → AreOwnRows n rows → Agree n t u → RowsHold rows a t → RowsHold rows a u
rows_same n [] a t u own h holds = tt
rows_same n (row ∷ rows) a t u own h holds =
    (subst (λ q. q ≤ℚ whole (pos 0)) (row_same n row a t u own.0 h) holds.0, rows_same n rows a t u own.1 h holds.1)

pub form_same : (n : ℕ) (form : Form) (t u : Filling) → IsOwnForm n form → Agree n t u → form_at form t ≡ form_at form u
form_same n [] t u own h = refl
form_same n (x ∷ form) t u own h = ap₂ (λ p q. x.coefficient *ℚ p +ℚ q) (h x.aux own.0) (form_same n form t u own.1 h)

-- ---- lists of rows and terms
rows_append : (n : ℕ) (rows more : List Row) → AreOwnRows n rows → AreOwnRows n more → AreOwnRows n (rows ++ more)
rows_append n [] more h g = g
rows_append n (row ∷ rows) more h g = (h.0, rows_append n rows more h.1 g)

pub rows_below : (n m : ℕ) (rows : ℕ → Row) → ((i : ℕ) → i < m → AreOwnTerms n (rows i)) → AreOwnRows n (list_below m rows)
rows_below n zero rows h = tt
rows_below n (suc m) rows h = rows_append n (list_below m rows) (rows m ∷ []) (rows_below n m rows (λ i b. h i (omega arith))) (h m (omega arith), tt)

pub rows_joined : (n m : ℕ) (rows : ℕ → List Row) → ((i : ℕ) → i < m → AreOwnRows n (rows i)) → AreOwnRows n (joined_below m rows)
rows_joined n zero rows h = tt
rows_joined n (suc m) rows h = rows_append n (joined_below m rows) (rows m) (rows_joined n m rows (λ i b. h i (omega arith))) (h m (omega arith))

form_append : (n : ℕ) (form more : Form) → IsOwnForm n form → IsOwnForm n more → IsOwnForm n (form ++ more)
form_append n [] more h g = g
form_append n (x ∷ form) more h g = (h.0, form_append n form more h.1 g)

pub form_below : (n m : ℕ) (terms : ℕ → FormTerm) → ((i : ℕ) → i < m → (terms i).aux < n) → IsOwnForm n (list_below m terms)
form_below n zero terms h = tt
form_below n (suc m) terms h = form_append n (list_below m terms) (terms m ∷ []) (form_below n m terms (λ i b. h i (omega arith))) (h m (omega arith), tt)

-- ---- rows that put an unknown beyond a term
pub bound_own : (n k : ℕ) (bend : Bend) (x : RowTerm) → k < n → IsOwn n x.operand → AreOwnTerms n (bound_row bend k x)
bound_own n k Convex x b own = (own, (b, tt))
bound_own n k Concave x b own = (b, (own, tt))

pub bounds_own : {A : Type 0} (n k : ℕ) (bend : Bend) (term : A → RowTerm) (ys : List A) → k < n → ((y : A) → IsOwn n (term y).operand) → AreOwnRows n (map (λ y. bound_row bend k (term y)) ys)
bounds_own n k bend term [] b own = tt
bounds_own n k bend term (y ∷ ys) b own = (bound_own n k bend (term y) b (own y), bounds_own n k bend term ys b own)
