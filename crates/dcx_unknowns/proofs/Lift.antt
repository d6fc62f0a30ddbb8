-- The unknowns of a point: the entries of the variables, then a filling of each node's graph, as that at the values of its arguments.
use Rattle.std.proofs.Common.{◌≡◌, ℕ, ◌+◌, ◌-◌, ◌<◌, arith, Bool, if◌then◌else◌, List, length, map, get_or, Option, Some, None, slice_get, sym, ap, ◌∙◌, pos}
use Rattle.std.specs.Prelude.{nat_lt}
use Rattle.std.specs.List.{flat_map, range_with_len}
use Rattle.std.proofs.lemmas.Bool.{lt-ltb, le-ltb}
use Rattle.std.proofs.lemmas.Option.{get_or_from_slice_get}
use Rattle.dcx_math.specs.Rational.{ℚ, whole}
use Rattle.dcx_atom.specs.Rows.{Filling}
use Rattle.dcx_convex.specs.Nodes.{Numbers, Point, Setting, zeros, arguments}
use Rattle.dcx_convex.specs.Rules.{Rules}
use Rattle.dcx_convex.specs.Reductions.{Unknowns}
use Rattle.dcx_tree.specs.declared.problem.Problem.{Problem}
use Rattle.dcx_tree.specs.Nodes.{Node, arg_sides}
use Rattle.dcx_tree.specs.Meaning.{value_at}
use Rattle.dcx_unknowns.specs.Unknowns.{variable_unknowns, unknowns_of}
use Rattle.dcx_unknowns.specs.Layout.{aux_at, aux_before, first_aux}
use Rattle.dcx_unknowns.proofs.Lists.{same_place, flat_first}
use Rattle.dcx_unknowns.proofs.OfKinds.{taken, taken_at, taken_length}
use Rattle.dcx_unknowns.proofs.CallGraphs.{call_filling}

-- the filling of a node's graph, where its arguments have these numbers
abbrev pub filling_if : List Node → (ℕ → Numbers) → Option Node → Filling
filling_if nodes f None = zeros
filling_if nodes f (Some n) = call_filling n.call (arg_sides nodes n) (arguments (map f n.args))

-- that of node i at the values of its arguments
abbrev pub filling_at : Problem → Setting → Point → ℕ → Filling
filling_at p s y i = filling_if p.tree (value_at p s y) (slice_get p.tree i)

-- ---- the unknowns of a point where the graphs of the nodes have these fillings
module _ (rules : Rules) (p : Problem) (y : Point) (F : ℕ → Filling) where
  abbrev pub numbers_at : ℕ → List ℚ
  numbers_at i = taken (aux_at rules p i) (F i)

  -- the numbers of all auxiliary unknowns
  abbrev pub aux_numbers : List ℚ
  aux_numbers = flat_map numbers_at (range_with_len 0 (length p.tree))

  pub lift : Unknowns
  lift n = if nat_lt n (variable_unknowns p.variables) then unknowns_of p.variables y n else get_or aux_numbers (n - variable_unknowns p.variables) (whole (pos 0))

  -- those of the variables
  pub lift_variable : (n : ℕ) → n < variable_unknowns p.variables → lift n ≡ unknowns_of p.variables y n
  unfolding lift
  lift_variable n b = ap (λ (c : Bool). if c then unknowns_of p.variables y n else get_or aux_numbers (n - variable_unknowns p.variables) (whole (pos 0))) (lt-ltb n (variable_unknowns p.variables) b)

  -- the others
  pub lift_aux : (m : ℕ) (x : ℚ) → slice_get aux_numbers m ≡ Some x → lift (variable_unknowns p.variables + m) ≡ x
  unfolding lift
  lift_aux m x e =
      let count = variable_unknowns p.variables in
      let z : (count + m) - count ≡ m = omega arith in
      ap (λ (c : Bool). if c then unknowns_of p.variables y (count + m) else get_or aux_numbers ((count + m) - count) (whole (pos 0))) (le-ltb (count + m) count (omega arith))
      ∙ ap (λ k. get_or aux_numbers k (whole (pos 0))) z
      ∙ get_or_from_slice_get aux_numbers m x (whole (pos 0)) e

  -- those of node i are its filling
  pub lift_filling : (i k : ℕ) → i < length p.tree → k < length (aux_at rules p i) → lift (first_aux rules p i + k) ≡ F i k
  lift_filling i k b c =
      let before = length (aux_before rules p i) in
      let same = same_place numbers_at (aux_at rules p) (λ j. taken_length (aux_at rules p j) (F j)) (range_with_len 0 i) in
      let there : slice_get aux_numbers (before + k) ≡ Some (F i k) =
      ap (λ q. slice_get aux_numbers (q + k)) (sym same) ∙ flat_first numbers_at (length p.tree) i k (F i k) b (taken_at (aux_at rules p i) (F i) k c) in
      let z : first_aux rules p i + k ≡ variable_unknowns p.variables + (before + k) = omega arith in
      ap lift z ∙ lift_aux (before + k) (F i k) there
