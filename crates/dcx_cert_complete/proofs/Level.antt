-- A nonlinear call at nothing isn't beyond 0: its graph holds at nothing.
use Rattle.std.proofs.Common.{◌≡◌, ℕ, ◌<◌, List, [], ◌∷◌, Some, ap, ap₂, ◌∙◌, refl, subst, pos}
use Rattle.dcx_math.specs.Rational.{whole, ◌+ℚ◌, ◌*ℚ◌}
use Rattle.dcx_math.proofs.Orders.{≤ℚ_refl, ≤ℚ-from_≡, *ℚ-zero, +ℚ_idl}
use Rattle.dcx_math.proofs.Lists.{mapped}
use Rattle.dcx_shape.specs.declared.shape.Sides.{Sides}
use Rattle.dcx_shape.specs.Sides.{entries_of}
use Rattle.dcx_atom.specs.declared.flags.Bend.{Bend}
use Rattle.dcx_atom.specs.declared.graph.Operand.{Operand}
use Rattle.dcx_atom.specs.declared.graph.Operand.TheVariants.{Argument, Aux}
use Rattle.dcx_atom.specs.Arrays.{Entries}
use Rattle.dcx_atom.specs.Signs.{IsBeyond}
use Rattle.dcx_atom.specs.Rows.{Filling, Row, Form, operand_at, row_at, form_at, RowsHold}
use Rattle.dcx_atom.specs.Meaning.{Meaning}
use Rattle.dcx_atom.specs.Laws.{IsSoundGraph}
use Rattle.dcx_affine.specs.declared.pairing.Pairing.{Pairing}
use Rattle.dcx_affine.specs.declared.pairing.Pairing.TheVariants.{Times, MatTimes, Over}
use Rattle.dcx_arena.specs.Nodes.{AreNodes}
use Rattle.dcx_convex.specs.Calls.{Nonlinear}
use Rattle.dcx_convex.specs.Nodes as convex
use Rattle.dcx_convex.specs.Nodes.{Head, Variable, Parameter, Constant, Apply, EachNode}
use Rattle.dcx_call.specs.declared.call.Call.{Call}
use Rattle.dcx_call.specs.declared.call.Call.TheVariants as calls
use Rattle.dcx_call.specs.Atoms.{atom_meaning, atom_lawful}
use Rattle.dcx_call.specs.Calls.{shape_of}
use Rattle.dcx_tree.specs.Nodes.{Names, Node, pairing_call, head_of, arg_sides, convex_node, convex_nodes}

-- arguments whose entries are all 0
abbrev pub nothing : Entries
nothing i j = whole (pos 0)

abbrev none : Filling
none k = whole (pos 0)

-- ---- the graph of a nonlinear call there
operand_level : (o : Operand) → operand_at o nothing none ≡ whole (pos 0)
operand_level (Argument argument entry) = refl
operand_level (Aux k) = refl

row_level : (row : Row) → row_at row nothing none ≡ whole (pos 0)
row_level [] = refl
row_level (x ∷ row) = ap₂ ◌+ℚ◌ (ap (λ z. x.coefficient *ℚ z) (operand_level x.operand) ∙ *ℚ-zero x.coefficient) (row_level row) ∙ +ℚ_idl (whole (pos 0))

form_level : (form : Form) → form_at form none ≡ whole (pos 0)
form_level [] = refl
form_level (x ∷ form) = ap₂ ◌+ℚ◌ (*ℚ-zero x.coefficient) (form_level form) ∙ +ℚ_idl (whole (pos 0))

rows_level : (rows : List Row) → RowsHold rows nothing none
rows_level [] = tt
rows_level (row ∷ rows) = (≤ℚ-from_≡ (row_level row), rows_level rows)

atom_level : (m : Meaning) → IsSoundGraph m → (args : List Sides) (sides : Sides) → m.shape args ≡ Some sides → (j : ℕ) → j < entries_of sides
    → IsBeyond m.bend (m.value args nothing j) (whole (pos 0))
atom_level m sound args sides is j below =
    subst (λ z. IsBeyond m.bend (m.value args nothing j) z) (form_level (m.result args j))
    (sound args sides is nothing none (record { kinds = λ k e. ≤ℚ_refl (whole (pos 0)); rows = λ i b. rows_level (m.rows args i) }) j below)

-- ---- nodes
abbrev pub HeadStarts : Head → Type 0
HeadStarts (Variable d) = Unit {0}
HeadStarts (Parameter d) = Unit {0}
HeadStarts (Constant xs) = Unit {0}
HeadStarts (Apply c) = (own : Bend) → c.kind ≡ Nonlinear own → (j : ℕ) → j < c.size → IsBeyond own (c.value nothing j) (whole (pos 0))

abbrev pub AreStarting : List convex.Node → Type 0
AreStarting nodes = EachNode nodes (λ n. HeadStarts n.head)

pairing_starts : (q : Pairing) (args : List Sides) (sides : Sides) → HeadStarts (Apply (pairing_call q args sides))
pairing_starts Times args sides own same j below = cc
pairing_starts MatTimes args sides own same j below = cc
pairing_starts Over args sides own same j below = cc

head_starts : (names : Names) (call : Call) (args : List Sides) (sides : Sides) → shape_of call args ≡ Some sides → HeadStarts (head_of names call args sides)
head_starts names (calls.Variable v) args sides e = tt
head_starts names (calls.Parameter q) args sides e = tt
head_starts names (calls.Constant x) args sides e = tt
head_starts names (calls.Atom m) args sides e = λ own same j below.
    let d : (atom_meaning m).bend ≡ own = cc in
    subst (λ b. IsBeyond b ((atom_meaning m).value args nothing j) (whole (pos 0))) d (atom_level (atom_meaning m) (atom_lawful m).soundness args sides e j below)
head_starts names (calls.Linear l) args sides e = λ own same j below. cc
head_starts names (calls.Pairing q) args sides e = pairing_starts q args sides

pub tree_starts : (names : Names) (nodes : List Node) → AreNodes shape_of nodes → AreStarting (convex_nodes names nodes)
tree_starts names nodes are i m h =
    let (n, at, is) = mapped (convex_node names nodes) nodes i m h in
    subst (λ (k : convex.Node). HeadStarts k.head) is (head_starts names n.call (arg_sides nodes n) n.sides (are.shaped i n at))
