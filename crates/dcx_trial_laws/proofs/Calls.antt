-- What comes of the calls and the names of the made-up script.
use Rattle.std.proofs.Common.{◌≡◌, ℕ, ◌+◌, false, not, ◌&&◌, nat_lt, List, [], ◌∷◌, Option, Some, None, refl, ap, subst, sym}
use Rattle.std.specs.Map.{lookup}
use Rattle.indexmap.specs.IndexMap.{insert_entry}
use Rattle.dcx_shape.specs.declared.shape.Sides.{Sides}
use Rattle.dcx_shape.specs.declared.place.Place.{Place}
use Rattle.dcx_point.specs.Pairs.{same_name}
use Rattle.dcx_arena.specs.Nodes.{Node}
use Rattle.dcx_call.specs.declared.call.Call.{Call}
use Rattle.dcx_syntax.specs.declared.tree.Module.{Module}
use Rattle.dcx_syntax.specs.declared.tree.Named.{Named}
use Rattle.dcx_arena.specs.declared.fault.Count.TheVariants.{Steps}
use Rattle.dcx_syntax.specs.Expressions.{Expr, sum, no_addition, power_of, no_power, Postfix, Args, args_end, by_place, no_trailer}
use Rattle.dcx_syntax.specs.Statements.{assign}
use Rattle.dcx_script_values.specs.declared.fault.ElabFault.TheVariants.{BadArgument, NotOffered, UnknownCall}
use Rattle.dcx_script_values.specs.Values.{Value, library, State, Act, ◌>>=◌, ◌>>◌, done, bind, step, most_steps, too_many}
use Rattle.dcx_script_values.specs.Kinds.{is_list}
use Rattle.dcx_signature.specs.declared.table.Function.{Function}
use Rattle.dcx_signature.specs.Table.{Row, row, function_named}
use Rattle.dcx_signature.specs.Firsts.{expr_place}
use Rattle.dcx_signature.specs.Arguments.{Given, Matched, Bound, matched, bound_of, is_right, all_right, arguments, are_given, sides_of_x}
use Rattle.dcx_functions.specs.Calls.{is_placed, perform, function_called}
use Rattle.dcx_elab.specs.Expressions.{expr_means, sum_means, term_means, factor_means, power_means, postfix_means, args_mean, more_args_mean, arg_means, method_called, trailers_mean}
use Rattle.dcx_elab.specs.Statements.{line_means, assigned, only_postfix, is_just_name}
use Rattle.dcx_script_laws.proofs.CarriedForms.{postfix-moves}
use Rattle.dcx_script_laws.proofs.Unbound.{SameNames, names_are_carried}
use Rattle.dcx_trial_laws.specs.Tree.{place_at, named_at, name_of, called_at, factor_of, term_of, expr_of, one_arg, import_line}
use Rattle.dcx_trial_laws.proofs.Acts.{Gives, ok-gives, then-gives, unless-then, some-then, look-then}

-- ---- arguments
all_right-gives : (x : Option Sides) (ms : List Matched) (s : State) → Gives (λ _ t. t ≡ s) (all_right x ms s)
all_right-gives x [] s = ok-gives (λ _ t. t ≡ s) tt s refl
all_right-gives x (m ∷ ms) s = unless-then (λ _ t. t ≡ s) (BadArgument m.0.place) (is_right x m.0 m.1) s (λ _. all_right x ms) (all_right-gives x ms s)

-- arguments are bound as they are written, and nothing else changes
abbrev AreBound : Row → List Given → State → Bound → State → Type 0
AreBound row gs s bound t = (bound ≡ bound_of (matched row gs)) × (t ≡ s)

arguments-gives : (nodes : List (Node Call)) (place : Place) (row : Row) (gs : List Given) (s : State) → Gives (AreBound row gs s) (arguments nodes place row gs s)
arguments-gives nodes place row gs s =
    then-gives (λ _ t. t ≡ s) (AreBound row gs s) (all_right (sides_of_x nodes (bound_of (matched row gs))) (matched row gs) s) _
    (all_right-gives (sides_of_x nodes (bound_of (matched row gs))) (matched row gs) s)
    (λ _ t same. unless-then (AreBound row gs s) (BadArgument place) (are_given row (bound_of (matched row gs))) t _ (ok-gives (AreBound row gs s) (bound_of (matched row gs)) t (refl, same)))

pub function-gives : (Q : Value → State → Type 0) (target : Option (List ℕ)) (place : Place) (f : Function) (gs : List Given) (s : State)
    → Gives Q (perform target f place (bound_of (matched (row f) gs)) s) → Gives Q (function_called target place f gs s)
function-gives Q target place f gs s h =
    unless-then Q (NotOffered place) (is_placed target f) s _
    (then-gives (AreBound (row f) gs s) Q (arguments s.nodes place (row f) gs s) (λ bound. perform target f place bound) (arguments-gives s.nodes place (row f) gs s)
    (λ bound t same. subst (λ b. Gives Q (perform target f place b t)) (sym same.0) (subst (λ u. Gives Q (perform target f place (bound_of (matched (row f) gs)) u)) (sym same.1) h)))

-- ---- `m.f(..)`
pub call-gives : (P : List Given → State → Type 0) (Q : Value → State → Type 0) (target : Option (List ℕ)) (m f : List ℕ) (line column bracket : ℕ) (xs : Args) (s : State)
    (which : Module) (call : Function)
    → lookup (same_name m) s.names ≡ Some (library which) → function_named which f ≡ Some call → Gives P (args_mean false xs s)
    → ((gs : List Given) (t : State) → P gs t → Gives Q (function_called target (place_at line column) call gs t))
    → Gives Q (postfix_means target (called_at m f line column bracket xs) s)
call-gives P Q target m f line column bracket xs s which call bound named given h =
    look-then Q m (place_at line column) (library which) s _ bound
    (then-gives P Q (args_mean false xs s) _ given (λ gs t p.
    then-gives Q Q (method_called target (place_at line column) (library which) (named_at f line (column + 3)) gs t) (trailers_mean target (place_at line column) no_trailer)
    (some-then Q (UnknownCall (place_at line column)) (function_named which f) call t (λ c. function_called target (place_at line column) c gs) named (h gs t p))
    (λ v u q. ok-gives Q v u q)))

-- ---- one expression
abbrev pub given_of : Expr → Value → Given
given_of x v = record { word = None; place = expr_place x; value = v }

abbrev OneGiven : (Value → State → Type 0) → Expr → List Given → State → Type 0
OneGiven P x gs t = (v : Value) × (gs ≡ given_of x v ∷ []) × P v t

one_arg-gives : (P : Value → State → Type 0) (x : Expr) (s : State) → Gives P (expr_means x s) → Gives (OneGiven P x) (args_mean false (one_arg x) s)
one_arg-gives P x s g =
    then-gives Evaluated (OneGiven P x) (arg_means false (by_place x) s) _
    (then-gives P Evaluated (expr_means x s) _ g (λ v t p. ok-gives Evaluated (given_of x v) t (v, refl, p)))
    listed
  where
    Evaluated : Given → State → Type 0
    Evaluated h t = (v : Value) × (h ≡ given_of x v) × P v t

    listed : (h : Given) (t : State) → Evaluated h t → Gives (OneGiven P x) ((more_args_mean false args_end >>= λ gs. done (h ∷ gs)) t)
    listed h t (v, same, p) = ok-gives (OneGiven P x) (h ∷ []) t (v, ap (λ y. y ∷ []) same, p)

-- `m.f(x)`
pub one_call-gives : (P Q : Value → State → Type 0) (target : Option (List ℕ)) (m f : List ℕ) (line column bracket : ℕ) (x : Expr) (s : State) (which : Module) (call : Function)
    → lookup (same_name m) s.names ≡ Some (library which) → function_named which f ≡ Some call → Gives P (expr_means x s)
    → ((v : Value) (t : State) → P v t → Gives Q (perform target call (place_at line column) (bound_of (matched (row call) (given_of x v ∷ []))) t))
    → Gives Q (postfix_means target (called_at m f line column bracket (one_arg x)) s)
one_call-gives P Q target m f line column bracket x s which call bound named given h =
    call-gives (OneGiven P x) Q target m f line column bracket (one_arg x) s which call bound named (one_arg-gives P x s given) after
  where
    after : (gs : List Given) (t : State) → OneGiven P x gs t → Gives Q (function_called target (place_at line column) call gs t)
    after gs t (v, same, p) =
        subst (λ xs. Gives Q (function_called target (place_at line column) call xs t)) (sym same)
        (function-gives Q target (place_at line column) call (given_of x v ∷ []) t (h v t p))

-- an expression, a term and a factor that is one postfix
pub factor_of-gives : (P : Value → State → Type 0) (x : Postfix) (s : State) → Gives P (postfix_means None x s) → Gives P (factor_means (factor_of x) s)
factor_of-gives P x s g =
    then-gives P P (power_means (power_of x no_power) s) _ (then-gives P P (postfix_means None x s) _ g (λ v t p. ok-gives P v t p)) (λ v t p. ok-gives P v t p)

pub term_of-gives : (P : Value → State → Type 0) (x : Postfix) (s : State) → Gives P (postfix_means None x s) → Gives P (term_means (term_of x) s)
term_of-gives P x s g = then-gives P P (factor_means (factor_of x) s) _ (factor_of-gives P x s g) (λ v t p. ok-gives P v t p)

pub expr_of-gives : (P : Value → State → Type 0) (x : Postfix) (s : State) → Gives P (postfix_means None x s) → Gives P (expr_means (expr_of x) s)
expr_of-gives P x s g =
    then-gives P P (sum_means (sum (term_of x) no_addition) s) _ (then-gives P P (term_means (term_of x) s) _ (term_of-gives P x s g) (λ v t p. ok-gives P v t p)) (λ v t p. ok-gives P v t p)

-- a name
pub name-gives : (P : Value → State → Type 0) (name : List ℕ) (line column : ℕ) (v : Value) (s : State) → lookup (same_name name) s.names ≡ Some v → P v s
    → Gives P (postfix_means None (name_of name line column) s)
name-gives P name line column v s bound p = look-then P name (place_at line column) v s _ bound (ok-gives P v s p)

-- ---- lines
-- one step more
abbrev pub stepped : State → State
stepped s = record s { steps = s.steps + 1 }

abbrev pub with_name : List ℕ → Value → State → State
with_name name v t = record t { names = insert_entry same_name t.names name v }

step-gives : (place : Place) (s : State) → Gives (λ _ t. t ≡ stepped s) (step place s)
step-gives place s = unless-then (λ _ t. t ≡ stepped s) (too_many place Steps (s.steps + 1)) (nat_lt s.steps most_steps) s _ (ok-gives (λ _ t. t ≡ stepped s) tt (stepped s) refl)

-- what is done after a step
then-stepped : (Q : State → Type 0) (place : Place) (s : State) (m : Act (Unit {0})) → Gives (λ _ t. Q t) (m (stepped s)) → Gives (λ _ t. Q t) ((step place >> m) s)
then-stepped Q place s m h = then-gives (λ _ t. t ≡ stepped s) (λ _ t. Q t) (step place s) (λ _. m) (step-gives place s) (λ _ t same. subst (λ u. Gives (λ _ t. Q t) (m u)) (sym same) h)

pub import-gives : (Q : State → Type 0) (m : Module) (name : List ℕ) (line : ℕ) (s : State) → Q (with_name name (library m) (stepped s))
    → Gives (λ _ t. Q t) (line_means (import_line m name line) s)
import-gives Q m name line s h = then-stepped Q (place_at line 1) s (bind name (library m)) (ok-gives (λ _ t. Q t) tt (with_name name (library m) (stepped s)) h)

-- `NAME = ..`, where a postfix is the whole right side
pub assign-gives : (P : Value → State → Type 0) (Q : State → Type 0) (n : Named) (x : Postfix) (s : State)
    → Gives P (postfix_means (Some n.name) x (stepped s)) → ((v : Value) (t : State) → P v t → Q (with_name n.name v t)) → Gives (λ _ t. Q t) (line_means (assign n (expr_of x)) s)
assign-gives P Q n x s g h =
    then-stepped Q n.place s (assigned n.name (expr_of x) >>= λ v. bind n.name v)
    (then-gives P (λ _ t. Q t) (assigned n.name (expr_of x) (stepped s)) (λ v. bind n.name v)
    (then-gives P P (postfix_means (Some n.name) x (stepped s)) _ g
    (λ v t p. unless-then P (NotOffered (expr_place (expr_of x))) (not (is_just_name (only_postfix (expr_of x)) && is_list v)) t _ (ok-gives P v t p)))
    (λ v t p. ok-gives (λ _ t. Q t) tt (with_name n.name v t) (h v t p)))

-- the right side leaves the names as they were
pub names-gives : (target : Option (List ℕ)) (x : Postfix) (s : State) → Gives (λ _ t. t.names ≡ s.names) (postfix_means target x s)
names-gives target x s = record { at = λ v t e. (postfix-moves SameNames names_are_carried x target s s refl).at v t e }
