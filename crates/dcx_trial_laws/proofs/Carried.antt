-- The script carried out, at each size that the command line takes: no line of it has a fault.
use Rattle.std.proofs.Common.{◌≡◌, ℕ, zero, suc, ◌+◌, ◌<◌, ◌≤◌, pos, true, false, ◌^◌, is_some, nat_le, ◌||◌, codes, List}
use Rattle.std.proofs.Common.{[], ◌∷◌, map, filter, slice_get, length, Some, None, Result, Ok, Err, refl, sym, ap, subst, ◌∙◌, arith}
use Rattle.std.specs.List.{range_with_len}
use Rattle.std.proofs.lemmas.Bool.{false_from_ne_true}
use Rattle.std.proofs.lemmas.List.{length-map}
use Rattle.std.proofs.lemmas.Option.{none-some, same_Some}
use Rattle.dcx_math.specs.Rational.{whole}
use Rattle.dcx_math.proofs.Orders.{whole_injective}
use Rattle.dcx_frac.specs.Frac.{value}
use Rattle.dcx_shape.specs.declared.shape.Shape.{Shape}
use Rattle.dcx_shape.specs.declared.shape.Sides.TheVariants.{Scalar, Vector}
use Rattle.dcx_shape.specs.declared.place.Place.{Place}
use Rattle.dcx_shape.specs.Sides.{HasFewEntries}
use Rattle.dcx_atom.specs.declared.array.Array.{Array}
use Rattle.dcx_atom.specs.Formed.{zero_frac}
use Rattle.dcx_atom.proofs.Fractions.{value-frac_at, whole_fits}
use Rattle.dcx_atom.proofs.Lists.{get_or-list_below}
use Rattle.dcx_array.specs.Shapes.{scalar_shape}
use Rattle.dcx_array.specs.Arrays.{entry}
use Rattle.dcx_array.proofs.AllowedShapes.{shape_with-sides}
use Rattle.dcx_arena.specs.declared.fault.Count.TheVariants.{Nodes, Entries}
use Rattle.dcx_arena.specs.Nodes.{most}
use Rattle.dcx_arena.proofs.Results.{same_Ok}
use Rattle.dcx_call.specs.declared.attribute.Variable.{Variable}
use Rattle.dcx_call.specs.declared.attribute.Whole.TheVariants.{Not}
use Rattle.dcx_call.specs.declared.call.Call.TheVariants as calls
use Rattle.dcx_tree.specs.Gather.{has_variable}
use Rattle.dcx_tree.proofs.Sublists.{at_filter}
use Rattle.dcx_declared.specs.Whole.{HasNoWhole}
use Rattle.dcx_syntax.specs.declared.tree.Module.TheVariants.{Cvxpy, Numpy}
use Rattle.dcx_syntax.specs.declared.tree.Script.{Script}
use Rattle.dcx_syntax.specs.Expressions.{no_trailer}
use Rattle.dcx_syntax.specs.Statements.{Line, Lines, lines, no_lines}
use Rattle.dcx_syntax.specs.View.{script_view}
use Rattle.dcx_script_values.specs.declared.fault.ElabFault.{ElabFault}
use Rattle.dcx_script_values.specs.declared.fault.ElabFault.TheVariants as faults
use Rattle.dcx_script_values.specs.Values.{Value, library, plain, expression, Asked, State, and_then, ◌>>=◌, ◌>>◌, done, unless, or_fault, too_many}
use Rattle.dcx_script_values.specs.Nodes.{push}
use Rattle.dcx_script_values.specs.Same.{same_array}
use Rattle.dcx_script_values.specs.View.{Fails}
use Rattle.dcx_script_state.specs.Declarations.{start, declared_shape, variable_with, list_variable, parameter_with, list_parameter, set_first}
use Rattle.dcx_script_state.proofs.SameCalls.{calls_decide}
use Rattle.dcx_functions.specs.Calls.{flags_of}
use Rattle.dcx_elab.specs.declared.work.Work.{Work}
use Rattle.dcx_elab.specs.Expressions.{trailers_mean}
use Rattle.dcx_elab.specs.Meaning.{ended_with, ended, meaning, Elaborates}
use Rattle.dcx_elab.specs.Statements.{line_means, lines_mean}
use Rattle.dcx_trial.specs.Trial.{height_at}
use Rattle.dcx_trial_laws.specs.Tree.{place_at, named_at, import_line, array_line, variable_line, parameter_line, problem_line, trial_tree}
use Rattle.dcx_trial_laws.proofs.Sized.{IsBounded}
use Rattle.dcx_trial_laws.proofs.Script.{range_longer}
use Rattle.dcx_trial_laws.proofs.Minimizes.{from_numpy, from_t, from_b, from_s, from_a, from_q, from_problem, asked_of, variable_of, parameter_of}
use Rattle.dcx_trial_laws.proofs.Declared.{libraries, arrays}
use Rattle.dcx_trial_laws.proofs.Does.{assign-does}
use Rattle.dcx_trial_laws.proofs.Room.{vector_shape}
use Rattle.dcx_trial_laws.proofs.Residuals.{slope_variable, offset_variable, slope_node, offset_node, declared, trial_state, problem_line-does}
use Rattle.dcx_trial_laws.proofs.Vectors.{fraction, entry_of, vector_of, array_line-does}

-- ---- declarations
scalar_declared : (place : Place) (s : State) → declared_shape place Scalar s ≡ Ok (scalar_shape, s)
scalar_declared place s =
    ap (λ o. and_then (unless (too_many place Nodes (length s.nodes + 1)) (is_some o || nat_le (length s.nodes + 1) most) s) (λ _. or_fault (too_many place Entries 1) o))
    (shape_with-sides scalar_shape)

-- a state without nodes, and those behind the declared variables
abbrev bare : List (List ℕ × Value) → ℕ → State
bare names k = record { names = names; nodes = []; variables = []; parameters = []; setting = []; asked = None; events = []; steps = k }

module _ (a b : Array) where
  abbrev one_declared : ℕ → State
  one_declared k = record (bare (arrays a b ((codes "s", expression 0) ∷ [])) k) { nodes = slope_node ∷ []; variables = slope_variable ∷ [] }

  abbrev two_declared : ℕ → State
  two_declared k = record (bare (arrays a b ((codes "s", expression 0) ∷ (codes "a", expression 1) ∷ [])) k) {
    nodes = slope_node ∷ offset_node ∷ [];
    variables = slope_variable ∷ offset_variable ∷ [];
  }

  -- what a declaration makes of the shape
  abbrev variable_from : (name : List ℕ) (line : ℕ) → Result (Shape × State) ElabFault → Result (Value × State) ElabFault
  variable_from name line r =
      and_then (and_then r (λ shape. list_variable (variable_with name shape (flags_of []))
      >> (push (place_at line 5) (calls.Variable (variable_with name shape (flags_of []))) [] >>= λ i. done (expression i))))
      (trailers_mean (Some name) (place_at line 5) no_trailer)

  abbrev parameter_from : Result (Shape × State) ElabFault → Result (Value × State) ElabFault
  parameter_from r =
      and_then (and_then r (λ shape. list_parameter (parameter_with (codes "q") shape true false)
      >> (push (place_at 7 5) (calls.Parameter (parameter_with (codes "q") shape true false)) [] >>= λ i. set_first (codes "q") None >> done (expression i))))
      (trailers_mean (Some (codes "q")) (place_at 7 5) no_trailer)

  slope-does : line_means (variable_line (codes "s") 5) (bare (arrays a b []) 4) ≡ Ok (tt, one_declared 5)
  slope-does =
      assign-does (named_at (codes "s") 5 1) (variable_of 5) (bare (arrays a b []) 4) (record (bare (arrays a b []) 5) { nodes = slope_node ∷ []; variables = slope_variable ∷ [] })
      (expression 0) refl (ap (variable_from (codes "s") 5) (scalar_declared (place_at 5 5) (bare (arrays a b []) 5))) refl

  offset-does : line_means (variable_line (codes "a") 6) (one_declared 5) ≡ Ok (tt, two_declared 6)
  offset-does =
      assign-does (named_at (codes "a") 6 1) (variable_of 6) (one_declared 5)
      (record (one_declared 6) { nodes = slope_node ∷ offset_node ∷ []; variables = slope_variable ∷ offset_variable ∷ [] })
      (expression 1) refl (ap (variable_from (codes "a") 6) (scalar_declared (place_at 6 5) (one_declared 6))) refl

  weight-does : line_means parameter_line (two_declared 6) ≡ Ok (tt, declared a b [] 7)
  weight-does =
      assign-does (named_at (codes "q") 7 1) parameter_of (two_declared 6) (record (declared a b [] 7) { names = (two_declared 6).names })
      (expression 2) refl (ap parameter_from (scalar_declared (place_at 7 5) (two_declared 7))) refl

-- ---- the arrays differ
fraction_is : (k : ℕ) → k < 2 ^ 64 → value (fraction k) ≡ whole (pos k)
fraction_is k small = value-frac_at (whole (pos k)) (whole_fits k (omega arith))

-- they begin with 0 and with 11
module _ (n : ℕ) (few : HasFewEntries (Vector n)) (js ks : List ℕ) where
  abbrev first_places : Array
  first_places = vector_of (vector_shape n few) (0 ∷ js)

  abbrev first_heights : Array
  first_heights = vector_of (vector_shape n few) (11 ∷ ks)

  apart : calls.Constant first_places ≡ calls.Constant first_heights → ⊥
  apart e =
      let same : first_places ≡ first_heights = cc in
      let zeroth : fraction 0 ≡ fraction 11 =
      sym (get_or-list_below n (entry_of (0 ∷ js)) 0 zero_frac few.some) ∙ ap (λ (a : Array). entry a 0) same ∙ get_or-list_below n (entry_of (11 ∷ ks)) 0 zero_frac few.some in
      let wholes : whole (pos 0) ≡ whole (pos 11) = sym (fraction_is 0 (omega arith)) ∙ ap value zeroth ∙ fraction_is 11 (omega arith) in
      let numbers : pos 0 ≡ pos 11 = whole_injective (pos 0) (pos 11) wholes in
      absurd (cc)

  differ : same_array first_places first_heights ≡ false
  differ = false_from_ne_true (same_array first_places first_heights) (λ t. apart ((calls_decide (calls.Constant first_places) (calls.Constant first_heights)).0 t))

-- ---- all lines
then-line-does : (x : Line) (rest : Lines) (s t : State) (r : Result (Unit {0} × State) ElabFault) → line_means x s ≡ Ok (tt, t) → lines_mean rest t ≡ r → lines_mean (lines x rest) s ≡ r
then-line-does x rest s t r h k = ap (λ y. and_then y (λ _. lines_mean rest)) h ∙ k

-- where it ends: at the problem, with two variables
pub record Ends (s : State) : Type 0 where
  pub asked : s.asked ≡ Some (asked_of 14 (place_at 8 19))
  pub variables : s.variables ≡ slope_variable ∷ offset_variable ∷ []

pub record IsCarried (size : ℕ) : Type 0 where
  pub state : State
  pub ran : lines_mean (trial_tree size) start ≡ Ok (tt, state)
  pub ends : Ends state

module _ (m : ℕ) (few : suc m ≤ 1000) where
  abbrev sides : HasFewEntries (Vector (suc m))
  sides = record { some = omega arith; most = omega arith }

  abbrev shape : Shape
  shape = vector_shape (suc m) sides

  abbrev js : List ℕ
  js = range_with_len 1 m

  abbrev ks : List ℕ
  ks = map height_at js

  long_places : length js ≡ m
  long_places = range_longer 1 m

  long_heights : length ks ≡ m
  long_heights = length-map js height_at ∙ long_places

  abbrev a : Array
  a = vector_of shape (0 ∷ js)

  abbrev b : Array
  b = vector_of shape (11 ∷ ks)

  places-do : line_means (array_line (codes "t") 3 (0 ∷ js)) (bare (libraries []) 2) ≡ Ok (tt, bare (libraries ((codes "t", plain a) ∷ [])) 3)
  places-do =
      array_line-does 0 js shape (ap (λ l. Vector (suc l)) (sym long_places)) 3 (codes "t") [] (bare (libraries []) 2) refl refl (let l = long_places in omega (arith, l, few))

  heights-do : line_means (array_line (codes "b") 4 (11 ∷ ks)) (bare (libraries ((codes "t", plain a) ∷ [])) 3) ≡ Ok (tt, bare (arrays a b []) 4)
  heights-do =
      array_line-does 11 ks shape (ap (λ l. Vector (suc l)) (sym long_heights)) 4 (codes "b") ((codes "t", plain a) ∷ []) (bare (libraries ((codes "t", plain a) ∷ [])) 3) refl refl
      (let l = long_heights in omega (arith, l, few))

  abbrev end : State
  end = trial_state (suc m) sides a.entries b.entries a.full b.full (omega arith) (differ (suc m) sides js ks)

  all_lines : lines_mean (trial_tree (suc m)) start ≡ Ok (tt, end)
  unfolding trial_tree
  all_lines =
      then-line-does (import_line Cvxpy (codes "cp") 1) (from_numpy (suc m)) start (bare ((codes "cp", library Cvxpy) ∷ []) 1) (Ok (tt, end)) refl
      (then-line-does (import_line Numpy (codes "np") 2) (from_t (suc m)) (bare ((codes "cp", library Cvxpy) ∷ []) 1) (bare (libraries []) 2) (Ok (tt, end)) refl
      (then-line-does (array_line (codes "t") 3 (0 ∷ js)) (from_b (suc m)) (bare (libraries []) 2) (bare (libraries ((codes "t", plain a) ∷ [])) 3) (Ok (tt, end)) places-do
      (then-line-does (array_line (codes "b") 4 (11 ∷ ks)) from_s (bare (libraries ((codes "t", plain a) ∷ [])) 3) (bare (arrays a b []) 4) (Ok (tt, end)) heights-do
      (then-line-does (variable_line (codes "s") 5) from_a (bare (arrays a b []) 4) (one_declared a b 5) (Ok (tt, end)) (slope-does a b)
      (then-line-does (variable_line (codes "a") 6) from_q (one_declared a b 5) (two_declared a b 6) (Ok (tt, end)) (offset-does a b)
      (then-line-does parameter_line from_problem (two_declared a b 6) (declared a b [] 7) (Ok (tt, end)) (weight-does a b)
      (then-line-does problem_line no_lines (declared a b [] 7) end (Ok (tt, end))
      (problem_line-does (suc m) sides a.entries b.entries a.full b.full (omega arith) (differ (suc m) sides js ks)) refl)))))))

pub carried : (size : ℕ) → IsBounded size → IsCarried size
carried zero h = absurd (let some = h.some in omega arith)
carried (suc m) h = record { state = end m h.most; ran = all_lines m h.most; ends = record { asked = refl; variables = refl } }

-- ---- what that makes of a script of this tree
module _ (size : ℕ) (bounds : IsBounded size) (script : Script) (is : script_view script ≡ trial_tree size) where
  abbrev own : IsCarried size
  own = carried size bounds

  pub means : meaning (script_view script) ≡ Ok (own.state, asked_of 14 (place_at 8 19))
  means = ap meaning is ∙ ap ended own.ran ∙ ap (ended_with own.state) own.ends.asked

-- what has a meaning has no fault
no_other : (f : ElabFault) (r : Result (State × Asked) ElabFault) (x : State × Asked) → r ≡ Ok x → Fails f r → f ≡ faults.Memory
no_other (faults.UnknownName p) r x e h = absurd cc
no_other (faults.UnknownCall p) r x e h = absurd cc
no_other (faults.BadArgument p) r x e h = absurd cc
no_other (faults.NotOffered p) r x e h = absurd cc
no_other (faults.ShapeClash p) r x e h = absurd cc
no_other (faults.IndexRange p) r x e h = absurd cc
no_other (faults.EmptyResult p) r x e h = absurd cc
no_other (faults.NoProblem p) r x e h = absurd cc
no_other (faults.TwoProblems p) r x e h = absurd cc
no_other (faults.TooMany p what n) r x e h = absurd cc
no_other (faults.PlainWide p passes) r x e h = absurd cc
no_other faults.Memory r x e h = refl

pub no_fault : (size : ℕ) → IsBounded size → (script : Script) → script_view script ≡ trial_tree size → (f : ElabFault) → Elaborates (Err f) script → f ≡ faults.Memory
no_fault size bounds script is f h = no_other f (meaning (script_view script)) ((carried size bounds).state, asked_of 14 (place_at 8 19)) (means size bounds script is) h

-- ---- its variables
not_whole : (k : ℕ) (v : Variable) → slice_get (slope_variable ∷ offset_variable ∷ []) k ≡ Some v → v.whole ≡ Not
not_whole zero v e = ap (λ (w : Variable). w.whole) (sym (same_Some slope_variable v e))
not_whole (suc zero) v e = ap (λ (w : Variable). w.whole) (sym (same_Some offset_variable v e))
not_whole (suc (suc k)) v e = absurd (none-some v e)

same_end : (s t : State) (p q : Asked) (r : Result (State × Asked) ElabFault) → r ≡ Ok (s, p) → r ≡ Ok (t, q) → s ≡ t
same_end s t p q r e h = ap (λ (z : State × Asked). z.0) (same_Ok (s, p) (t, q) (sym e ∙ h))

pub none_whole : (size : ℕ) → IsBounded size → (script : Script) → script_view script ≡ trial_tree size → (work : Work) → Elaborates (Ok work) script → HasNoWhole work.problem
none_whole size bounds script is work (s, (q, (run, from))) k at =
    let own = carried size bounds in
    let same = same_end s own.state q (asked_of 14 (place_at 8 19)) (meaning (script_view script)) run (means size bounds script is) in
    let declared : s.variables ≡ slope_variable ∷ offset_variable ∷ [] = ap (λ (t : State). t.variables) same ∙ own.ends.variables in
    let kept : slice_get (filter (λ (v : Variable). has_variable work.problem.tree v.name) (slope_variable ∷ offset_variable ∷ [])) k ≡ Some at.variable =
    subst (λ vs. slice_get (filter (λ (v : Variable). has_variable work.problem.tree v.name) vs) k ≡ Some at.variable) declared (ap (λ vs. slice_get vs k) (sym from.problem.variables) ∙ at.there) in
    let found = at_filter (λ (v : Variable). has_variable work.problem.tree v.name) (slope_variable ∷ offset_variable ∷ []) k at.variable kept in
    at.marked (not_whole found.0 at.variable found.1)
