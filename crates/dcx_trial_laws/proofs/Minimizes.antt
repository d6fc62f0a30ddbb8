-- What a trial asks at its end: something to be minimized.
use Rattle.std.proofs.Common.{◌≡◌, ℕ, nat_eq, true, false, cond, codes, List, [], ◌∷◌, Option, Some, None, is_none, Result, Ok, Err, refl, ap, subst, sym, ◌∙◌}
use Rattle.std.specs.Map.{lookup}
use Rattle.std.proofs.lemmas.Option.{same_Some}
use Rattle.indexmap.specs.IndexMap.{insert_entry}
use Rattle.dcx_shape.specs.declared.place.Place.{Place}
use Rattle.dcx_shape.specs.Sides.{entries_of}
use Rattle.dcx_point.specs.Pairs.{same_name}
use Rattle.dcx_tree.specs.declared.constraint.Sense.TheVariants.{Minimize}
use Rattle.dcx_syntax.specs.declared.tree.Module.TheVariants.{Cvxpy, Numpy}
use Rattle.dcx_syntax.specs.declared.tree.Named.{Named}
use Rattle.dcx_syntax.specs.declared.tree.Script.{Script}
use Rattle.dcx_syntax.specs.Expressions.{Expr, Postfix, postfix, no_trailer, no_args, args, args_end, by_name, truth_at}
use Rattle.dcx_syntax.specs.Statements.{Line, assign, Lines, lines, no_lines}
use Rattle.dcx_syntax.specs.View.{script_view}
use Rattle.dcx_script_values.specs.declared.fault.ElabFault.{ElabFault}
use Rattle.dcx_script_values.specs.declared.fault.ElabFault.TheVariants.{BadArgument, ShapeClash, TwoProblems}
use Rattle.dcx_script_values.specs.Values.{Value, library, objective as objective_value, problem, Asked, State}
use Rattle.dcx_script_values.specs.Nodes.{operand_sides, pushed}
use Rattle.dcx_script_state.specs.Declarations.{start, may_be_asked}
use Rattle.dcx_signature.specs.declared.table.Function.TheVariants as functions
use Rattle.dcx_signature.specs.Table.{row, e_word}
use Rattle.dcx_signature.specs.Arguments.{Bound, matched, bound_of}
use Rattle.dcx_functions.specs.Calls.{operand_for, objective_of, problem_of}
use Rattle.dcx_elab.specs.declared.work.Work.{Work}
use Rattle.dcx_elab.specs.Expressions.{expr_means, args_mean}
use Rattle.dcx_elab.specs.Statements.{line_means, lines_mean}
use Rattle.dcx_elab.specs.Meaning.{ended_with, ended, Elaborates}
use Rattle.dcx_trial.specs.Trial.{places, heights}
use Rattle.dcx_trial_laws.specs.Tree.{
  place_at,
  named_at,
  called_at,
  expr_of,
  one_arg,
  import_line,
  numbers_list,
  array_line,
  variable_line,
  parameter_line,
  objective,
  problem_line,
  trial_tree,
}
use Rattle.dcx_trial_laws.proofs.Acts.{Gives, Anything, ok-gives, any-gives, then-gives, unless-then}
use Rattle.dcx_trial_laws.proofs.Calls.{function-gives, call-gives, given_of, one_call-gives, expr_of-gives, stepped, with_name, import-gives, assign-gives, names-gives}

-- ---- the first name
-- the first name is `cp`, which is bound to the module
abbrev IsLed : State → Type 0
IsLed s = (rest : List (List ℕ × Value)) × (s.names ≡ (codes "cp", library Cvxpy) ∷ rest)

led-bound : (s : State) → IsLed s → lookup (same_name (codes "cp")) s.names ≡ Some (library Cvxpy)
led-bound s h = ap (lookup (same_name (codes "cp"))) h.1

-- another name comes behind it
led-behind : (s : State) (name : List ℕ) (v : Value) → same_name name (codes "cp") ≡ false → IsLed s → IsLed (with_name name v s)
led-behind s name v other h = (
  insert_entry same_name h.0 name v,
  ap (λ names. insert_entry same_name names name v) h.1
      ∙ ap (λ b. cond b ((codes "cp", v) ∷ h.0) ((codes "cp", library Cvxpy) ∷ insert_entry same_name h.0 name v)) other,
)

led-line : (n : Named) (x : Postfix) (s : State) → same_name n.name (codes "cp") ≡ false → IsLed s → Gives (λ _ t. IsLed t) (line_means (assign n (expr_of x)) s)
led-line n x s other h = assign-gives (λ v t. t.names ≡ s.names) IsLed n x s (names-gives (Some n.name) x (stepped s)) (λ v t same. led-behind t n.name v other (h.0, same ∙ h.1))

-- ---- the problem
-- something is to be minimized
abbrev IsToMinimize : Value → State → Type 0
IsToMinimize v s = (i : ℕ) × (place : Place) × (v ≡ objective_value Minimize i place)

abbrev AsksToMinimize : State → Type 0
AsksToMinimize s = (q : Asked) × (s.asked ≡ Some q) × (q.sense ≡ Minimize)

-- `Minimize(..)`
minimize-gives : (place : Place) (bound : Bound) (s : State) → Gives IsToMinimize (objective_of place Minimize bound s)
minimize-gives place bound s =
    then-gives Anything IsToMinimize (operand_for place e_word bound s) _ (any-gives (operand_for place e_word bound s)) (λ x t _.
    unless-then IsToMinimize (ShapeClash place) (nat_eq (entries_of (operand_sides t.nodes x)) 1) t _
    (then-gives Anything IsToMinimize (pushed place x t) _ (any-gives (pushed place x t)) (λ i u _. ok-gives IsToMinimize (objective_value Minimize i place) u (i, place, refl))))

-- `Problem(..)` of what is to be minimized
abbrev pub asked_of : ℕ → Place → Asked
asked_of i p = record { sense = Minimize; objective = i; objective_place = p; constraints = [] }

problem-gives : (place : Place) (i : ℕ) (p : Place) (x : Expr) (s : State)
    → Gives (λ _ t. AsksToMinimize t) (problem_of place (bound_of (matched (row functions.Problem) (given_of x (objective_value Minimize i p) ∷ []))) s)
problem-gives place i p x s =
    unless-then (λ _ t. AsksToMinimize t) (BadArgument place) (may_be_asked s.nodes (asked_of i p)) s _
    (unless-then (λ _ t. AsksToMinimize t) (TwoProblems place) (is_none s.asked) s _
    (ok-gives (λ _ t. AsksToMinimize t) problem (record s { asked = Some (asked_of i p) }) (asked_of i p, refl, refl)))

abbrev pub minimized : Expr
minimized = expr_of (called_at (codes "cp") (codes "Minimize") 8 19 30 (one_arg objective))

minimized-gives : (s : State) → IsLed s → Gives IsToMinimize (expr_means minimized s)
minimized-gives s h =
    expr_of-gives IsToMinimize (called_at (codes "cp") (codes "Minimize") 8 19 30 (one_arg objective)) s
    (call-gives Anything IsToMinimize None (codes "cp") (codes "Minimize") 8 19 30 (one_arg objective) s Cvxpy functions.Minimize (led-bound s h) refl
    (any-gives (args_mean false (one_arg objective) s))
    (λ gs t _. function-gives IsToMinimize None (place_at 8 19) functions.Minimize gs t (minimize-gives (place_at 8 19) (bound_of (matched (row functions.Minimize) gs)) t)))

problem_line-gives : (s : State) → IsLed s → Gives (λ _ t. AsksToMinimize t) (line_means problem_line s)
problem_line-gives s h =
    assign-gives (λ _ t. AsksToMinimize t) AsksToMinimize (named_at (codes "prob") 8 1) (called_at (codes "cp") (codes "Problem") 8 8 18 (one_arg minimized)) s
    (one_call-gives IsToMinimize (λ _ t. AsksToMinimize t) (Some (codes "prob")) (codes "cp") (codes "Problem") 8 8 18 minimized (stepped s) Cvxpy functions.Problem
    (led-bound s h) refl (minimized-gives (stepped s) h)
    (λ v t m. subst (λ w. Gives (λ _ u. AsksToMinimize u) (problem_of (place_at 8 8) (bound_of (matched (row functions.Problem) (given_of minimized w ∷ []))) t)) (sym m.2)
    (problem-gives (place_at 8 8) m.0 m.1 minimized t)))
    (λ v t p. p)

-- ---- all lines
pub then-line : (P Q : State → Type 0) (x : Line) (rest : Lines) (s : State) → Gives (λ _ t. P t) (line_means x s) → ((t : State) → P t → Gives (λ _ u. Q u) (lines_mean rest t))
    → Gives (λ _ u. Q u) (lines_mean (lines x rest) s)
then-line P Q x rest s g h = then-gives (λ _ t. P t) (λ _ u. Q u) (line_means x s) (λ _. lines_mean rest) g (λ _ t p. h t p)

-- the lines from one on
abbrev pub from_problem : Lines
from_problem = lines problem_line no_lines

abbrev pub from_q : Lines
from_q = lines parameter_line from_problem

abbrev pub from_a : Lines
from_a = lines (variable_line (codes "a") 6) from_q

abbrev pub from_s : Lines
from_s = lines (variable_line (codes "s") 5) from_a

abbrev pub from_b : ℕ → Lines
from_b size = lines (array_line (codes "b") 4 (heights size)) from_s

abbrev pub from_t : ℕ → Lines
from_t size = lines (array_line (codes "t") 3 (places size)) (from_b size)

abbrev pub from_numpy : ℕ → Lines
from_numpy size = lines (import_line Numpy (codes "np") 2) (from_t size)

abbrev pub array_of : (line : ℕ) → List ℕ → Postfix
array_of line numbers = called_at (codes "np") (codes "array") line 5 13 (one_arg (expr_of (postfix (numbers_list line numbers) no_trailer)))

abbrev pub variable_of : (line : ℕ) → Postfix
variable_of line = called_at (codes "cp") (codes "Variable") line 5 16 no_args

abbrev pub parameter_of : Postfix
parameter_of = called_at (codes "cp") (codes "Parameter") 7 5 17 (args (by_name (named_at (codes "nonneg") 7 18) (expr_of (postfix (truth_at true (place_at 7 25)) no_trailer))) args_end)

asks : (size : ℕ) → Gives (λ _ t. AsksToMinimize t) (lines_mean (trial_tree size) start)
unfolding trial_tree
asks size =
    then-line IsLed AsksToMinimize (import_line Cvxpy (codes "cp") 1) (from_numpy size) start (import-gives IsLed Cvxpy (codes "cp") 1 start ([], refl)) (λ s1 h1.
    then-line IsLed AsksToMinimize (import_line Numpy (codes "np") 2) (from_t size) s1 (import-gives IsLed Numpy (codes "np") 2 s1
    (led-behind (stepped s1) (codes "np") (library Numpy) refl h1)) (λ s2 h2.
    then-line IsLed AsksToMinimize (array_line (codes "t") 3 (places size)) (from_b size) s2 (led-line (named_at (codes "t") 3 1) (array_of 3 (places size)) s2 refl h2) (λ s3 h3.
    then-line IsLed AsksToMinimize (array_line (codes "b") 4 (heights size)) from_s s3 (led-line (named_at (codes "b") 4 1) (array_of 4 (heights size)) s3 refl h3) (λ s4 h4.
    then-line IsLed AsksToMinimize (variable_line (codes "s") 5) from_a s4 (led-line (named_at (codes "s") 5 1) (variable_of 5) s4 refl h4) (λ s5 h5.
    then-line IsLed AsksToMinimize (variable_line (codes "a") 6) from_q s5 (led-line (named_at (codes "a") 6 1) (variable_of 6) s5 refl h5) (λ s6 h6.
    then-line IsLed AsksToMinimize parameter_line from_problem s6 (led-line (named_at (codes "q") 7 1) parameter_of s6 refl h6) (λ s7 h7.
    then-line AsksToMinimize AsksToMinimize problem_line no_lines s7 (problem_line-gives s7 h7) (λ s8 h8. ok-gives (λ _ t. AsksToMinimize t) tt s8 h8))))))))

-- ---- the law
-- a script that has a meaning has been carried out to its end
pub carried_out : (r : Result (Unit {0} × State) ElabFault) (s : State) (q : Asked) → ended r ≡ Ok (s, q) → (r ≡ Ok (tt, s)) × (s.asked ≡ Some q)
carried_out (Err e) s q h = absurd cc
carried_out (Ok x) s q h = let (same, own) = by x.1.asked refl h in (ap (λ u. Ok (tt, u)) same, own)
  where
    state_of : Result (State × Asked) ElabFault → State
    state_of (Ok z) = z.0
    state_of (Err e) = s

    asked_in : Result (State × Asked) ElabFault → Asked
    asked_in (Ok z) = z.1
    asked_in (Err e) = q

    by : (o : Option Asked) → x.1.asked ≡ o → ended_with x.1 o ≡ Ok (s, q) → (x.1 ≡ s) × (s.asked ≡ Some q)
    by None is k = absurd cc
    by (Some p) is k = let same = ap state_of k in (same, ap (λ (u : State). u.asked) (sym same) ∙ is ∙ ap Some (ap asked_in k))

-- a problem that a script of this tree stands for minimizes
pub trials_minimize : (size : ℕ) (script : Script) → script_view script ≡ trial_tree size → (work : Work) → Elaborates (Ok work) script → work.problem.sense ≡ Minimize
trials_minimize size script is work (s, (q, (means, from))) =
    let (ran, own) = carried_out (lines_mean (script_view script) start) s q means in
    let (p, asked, least) = (asks size).at tt s (ap (λ ls. lines_mean ls start) (sym is) ∙ ran) in
    from.problem.sense ∙ ap (λ (x : Asked). x.sense) (same_Some q p (sym own ∙ asked)) ∙ least
