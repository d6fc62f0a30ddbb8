-- The program of a set as it is made, and what it names.
use Rattle.std.proofs.Common.{◌≡◌, ◌≤◌, arith, List, length, sym, subst, pos}
use Rattle.dcx_math.specs.Rational.{whole}
use Rattle.dcx_frac.specs.declared.fraction.Frac.{Frac}
use Rattle.dcx_frac.specs.Frac.{value}
use Rattle.dcx_atom.proofs.FormedSums.{zero_frac-unique}
use Rattle.dcx_tree.specs.declared.constraint.Constraint.{Constraint}
use Rattle.dcx_tree.specs.declared.problem.Problem.{Problem}
use Rattle.dcx_right.specs.ConstraintSets.{ConstraintSet}
use Rattle.dcx_linear.specs.declared.form.Form.{Form}
use Rattle.dcx_linear.specs.declared.row.Row.{Row}
use Rattle.dcx_linear.specs.declared.row.UnknownKind.{UnknownKind}
use Rattle.dcx_linear.specs.Forms.{is_constant}
use Rattle.dcx_linear.specs.Widths.{form_width, rows_width}
use Rattle.dcx_std.specs.GivenRows.{GivenRows, given}
use Rattle.dcx_std.specs.Solutions.{HasKinds}
use Rattle.dcx_graph.specs.Program.{Program}
use Rattle.dcx_iis.specs.Steps.{rows_from, program_of_set}
use Rattle.dcx_iis.proofs.Kept.{rows_within}

-- rows that are those of a set, with nothing that is to be small, are its program
pub set_program : (p : Problem) (q : Program Frac) (set : ConstraintSet) (kinds : List UnknownKind) (rows : List (Row Frac)) (zero : Frac) → kinds ≡ q.kinds
    → rows ≡ rows_from set 0 p.constraints q.rows → value zero ≡ whole (pos 0)
    → given kinds rows (is_constant zero) ≡ program_of_set p q set
set_program p q set kinds rows zero e f z = let g = zero_frac-unique zero z in λ i. given (e i) (f i) (is_constant (g i))

-- rows and an objective that name known unknowns alone
pub known_given : (kinds : List UnknownKind) (rows : List (Row Frac)) (objective : Form Frac) (g : GivenRows) → rows_width rows ≤ length kinds → form_width objective ≤ length kinds
    → given kinds rows objective ≡ g → HasKinds g
known_given kinds rows objective g h k e = subst HasKinds e (record { rows_known = h; objective_known = k })

-- ---- widths
-- the rows of a set name known unknowns alone, and so does a number
pub rows_known : (set : ConstraintSet) (cs : List Constraint) (own rows : List (Row Frac)) (from kinds : List UnknownKind) → rows ≡ rows_from set 0 cs own → kinds ≡ from
    → rows_width own ≤ length from → rows_width rows ≤ length kinds
rows_known set cs own rows from kinds made same h =
    subst (λ rs. rows_width rs ≤ length kinds) (sym made) (subst (λ ks. rows_width (rows_from set 0 cs own) ≤ length ks) (sym same) (rows_within (length from) set 0 cs own h))

pub number_known : (f : Form Frac) (z : Frac) (kinds : List UnknownKind) → f ≡ is_constant z → form_width f ≤ length kinds
number_known f z kinds e = subst (λ g. form_width g ≤ length kinds) (sym e) (omega arith)
