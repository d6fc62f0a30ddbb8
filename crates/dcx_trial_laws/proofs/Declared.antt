-- What the lines before the last leave: the names that they bind, and the grades of their nodes.
use Rattle.std.proofs.Common.{◌≡◌, ℕ, true, false, not, ◌&&◌, codes, List, [], ◌∷◌, ◌++◌, Option, Some, Result, refl, ap, ap₂, subst, sym, ◌∙◌}
use Rattle.std.specs.Map.{lookup}
use Rattle.indexmap.specs.IndexMap.{insert_entry}
use Rattle.dcx_shape.specs.declared.shape.Shape.{Shape}
use Rattle.dcx_shape.specs.declared.place.Place.{Place}
use Rattle.dcx_atom.specs.declared.array.Array.{Array}
use Rattle.dcx_point.specs.Pairs.{same_name}
use Rattle.dcx_call.specs.declared.call.Call.TheVariants as calls
use Rattle.dcx_convex.specs.Rules.{Judgement}
use Rattle.dcx_syntax.specs.declared.tree.Module.TheVariants.{Cvxpy, Numpy}
use Rattle.dcx_syntax.specs.declared.tree.Named.{Named}
use Rattle.dcx_syntax.specs.Expressions.{Postfix, no_args, Args, args, args_end, by_name, postfix, no_trailer, truth_at}
use Rattle.dcx_syntax.specs.Statements.{assign}
use Rattle.dcx_script_values.specs.declared.fault.ElabFault.{ElabFault}
use Rattle.dcx_script_values.specs.declared.fault.ElabFault.TheVariants.{BadArgument, NotOffered, ShapeClash, EmptyResult}
use Rattle.dcx_script_values.specs.Values.{Value, library, plain, truth, expression, State, Act, and_then, ◌>>=◌, ◌>>◌, done, unless}
use Rattle.dcx_script_values.specs.Nodes.{push}
use Rattle.dcx_script_values.specs.Kinds.{rows_array}
use Rattle.dcx_script_state.specs.Declarations.{declared_shape, variable_with, list_variable, parameter_with, list_parameter, is_declared}
use Rattle.dcx_script_state.specs.Attributes.{may_stand}
use Rattle.dcx_signature.specs.declared.table.Function.TheVariants as functions
use Rattle.dcx_signature.specs.Table.{row, v_word}
use Rattle.dcx_signature.specs.Arguments.{Given, Bound, matched, bound_of, arguments}
use Rattle.dcx_functions.specs.Calls.{flags_of, declared_sides, items_for, is_placed, perform, function_called}
use Rattle.dcx_elab.specs.Expressions.{postfix_means, args_mean}
use Rattle.dcx_elab.specs.Statements.{line_means}
use Rattle.dcx_script_laws.proofs.Carried.{Moved}
use Rattle.dcx_script_laws.proofs.CarriedNodes.{declared_shape-moves}
use Rattle.dcx_script_laws.proofs.CarriedForms.{postfix-moves}
use Rattle.dcx_trial_laws.specs.Tree.{place_at, named_at, expr_of, one_arg, numbers_list, array_line, variable_line, parameter_line}
use Rattle.dcx_trial_laws.proofs.Acts.{Gives, Anything, ok-gives, any-gives, then-gives, unless-then, or_fault-then}
use Rattle.dcx_trial_laws.proofs.Calls.{function-gives, call-gives, stepped, with_name, assign-gives}
use Rattle.dcx_trial_laws.proofs.Judged.{judged}
use Rattle.dcx_trial_laws.proofs.Grades.{IsAffine, IsWeight}
use Rattle.dcx_trial_laws.proofs.Later.{Later, later-from, later_is_carried}
use Rattle.dcx_trial_laws.proofs.Graded.{Knows, knows-later, Came, then-later, push_none, Graded}
use Rattle.dcx_trial_laws.proofs.Minimizes.{array_of, variable_of, parameter_of}

-- ---- the names, from line to line
abbrev pub libraries : List (List ℕ × Value) → List (List ℕ × Value)
libraries rest = (codes "cp", library Cvxpy) ∷ (codes "np", library Numpy) ∷ rest

abbrev pub arrays : Array → Array → List (List ℕ × Value) → List (List ℕ × Value)
arrays a b rest = libraries ((codes "t", plain a) ∷ (codes "b", plain b) ∷ rest)

abbrev pub HasFirst : State → Type 0
HasFirst s = s.names ≡ (codes "cp", library Cvxpy) ∷ []

abbrev pub HasSecond : State → Type 0
HasSecond s = s.names ≡ libraries []

pub record HasThird (s : State) : Type 0 where
  pub a : Array
  pub names : s.names ≡ libraries ((codes "t", plain a) ∷ [])

pub record HasFourth (s : State) : Type 0 where
  pub a : Array
  pub b : Array
  pub names : s.names ≡ arrays a b []

pub record HasFifth (s : State) : Type 0 where
  pub a : Array
  pub b : Array
  pub i : ℕ
  pub names : s.names ≡ arrays a b ((codes "s", expression i) ∷ [])
  pub slope : Knows IsAffine s i

pub record HasSixth (s : State) : Type 0 where
  pub a : Array
  pub b : Array
  pub i : ℕ
  pub j : ℕ
  pub names : s.names ≡ arrays a b ((codes "s", expression i) ∷ (codes "a", expression j) ∷ [])
  pub slope : Knows IsAffine s i
  pub offset : Knows IsAffine s j

-- all names
pub record AreNames (a b : Array) (i j k : ℕ) (s : State) : Type 0 where
  pub names : s.names ≡ arrays a b ((codes "s", expression i) ∷ (codes "a", expression j) ∷ (codes "q", expression k) ∷ [])
  pub slope : Knows IsAffine s i
  pub offset : Knows IsAffine s j
  pub weight : Knows IsWeight s k

pub record HasAll (s : State) : Type 0 where
  pub a : Array
  pub b : Array
  pub i : ℕ
  pub j : ℕ
  pub k : ℕ
  pub all : AreNames a b i j k s

-- what an act gives, with what it leaves
abbrev pub After : (Value → State → Type 0) → State → Value → State → Type 0
After P s v t = P v t × Later s t

pub after-gives : (P : Value → State → Type 0) (s : State) (r : Result (Value × State) ElabFault) → Gives P r → Moved Later s r → Gives (After P s) r
after-gives P s r g m = record { at = λ v t e. (g.at v t e, m.at v t e) }

assign-later : (P : Value → State → Type 0) (Q : State → Type 0) (n : Named) (x : Postfix) (s : State) → Gives P (postfix_means (Some n.name) x (stepped s))
    → ((v : Value) (t : State) → P v t → Later (stepped s) t → Q (with_name n.name v t)) → Gives (λ _ t. Q t) (line_means (assign n (expr_of x)) s)
assign-later P Q n x s g h =
    assign-gives (After P (stepped s)) Q n x s
    (after-gives P (stepped s) (postfix_means (Some n.name) x (stepped s)) g (postfix-moves Later later_is_carried x (Some n.name) (stepped s) (stepped s) (later-from (stepped s))))
    (λ v t p. h v t p.0 p.1)

-- ---- arrays
record IsPlain (v : Value) (s : State) : Type 0 where
  array : Array
  same : v ≡ plain array

array-gives : (target : Option (List ℕ)) (line : ℕ) (numbers : List ℕ) (s : State) → lookup (same_name (codes "np")) s.names ≡ Some (library Numpy)
    → Gives IsPlain (postfix_means target (array_of line numbers) s)
array-gives target line numbers s bound =
    call-gives Anything IsPlain target (codes "np") (codes "array") line 5 13 xs s Numpy functions.Array bound refl (any-gives (args_mean false xs s)) (λ gs t _. after gs t)
  where
    xs : Args
    xs = one_arg (expr_of (postfix (numbers_list line numbers) no_trailer))

    performed : (given : Bound) (t : State) → Gives IsPlain (perform target functions.Array (place_at line 5) given t)
    performed given t = or_fault-then IsPlain (EmptyResult (place_at line 5)) (rows_array (items_for v_word given)) t (λ a. done (plain a))
        (λ a. ok-gives IsPlain (plain a) t (record { array = a; same = refl }))

    after : (gs : List Given) (t : State) → Gives IsPlain (function_called target (place_at line 5) functions.Array gs t)
    after gs t =
        unless-then IsPlain (NotOffered (place_at line 5)) (is_placed target functions.Array) t
        (λ _ u. and_then (arguments u.nodes (place_at line 5) (row functions.Array) gs u) (λ given. perform target functions.Array (place_at line 5) given))
        (then-gives Anything IsPlain (arguments t.nodes (place_at line 5) (row functions.Array) gs t) (λ given. perform target functions.Array (place_at line 5) given)
        (any-gives (arguments t.nodes (place_at line 5) (row functions.Array) gs t)) (λ given u _. performed given u))

-- ---- declarations
variable-gives : (name : List ℕ) (line : ℕ) (s : State) → lookup (same_name (codes "cp")) s.names ≡ Some (library Cvxpy)
    → Gives (Graded IsAffine) (postfix_means (Some name) (variable_of line) s)
variable-gives name line s bound =
    call-gives NoneGiven (Graded IsAffine) (Some name) (codes "cp") (codes "Variable") line 5 16 no_args s Cvxpy functions.Variable bound refl (ok-gives NoneGiven [] s refl) after
  where
    NoneGiven : List Given → State → Type 0
    NoneGiven gs t = gs ≡ []

    place : Place
    place = place_at line 5

    given : Bound
    given = bound_of (matched (row functions.Variable) [])

    rest : Shape → Act Value
    rest shape =
        list_variable (variable_with name shape (flags_of given)) >> (push place (calls.Variable (variable_with name shape (flags_of given))) [] >>= λ i. done (expression i))

    declared : (t : State) → Gives (Graded IsAffine) (perform (Some name) functions.Variable place given t)
    declared t =
        unless-then (Graded IsAffine) (BadArgument place) (may_stand (flags_of given) && not (is_declared name t)) t
        (λ _. unless (ShapeClash place) true >> (declared_shape place (declared_sides given) >>= rest))
        (unless-then (Graded IsAffine) (ShapeClash place) true t (λ _. declared_shape place (declared_sides given) >>= rest)
        (then-later (Graded IsAffine) t (declared_shape place (declared_sides given) t) rest
        (declared_shape-moves Later later_is_carried place (declared_sides given) t t (later-from t)) (λ shape u later.
        let v = variable_with name shape (flags_of given) in
        let w = record u { variables = u.variables ++ v ∷ [] } in
        then-gives (Came IsAffine w) (Graded IsAffine) (push place (calls.Variable v) [] w) (λ i. done (expression i))
        (push_none IsAffine (calls.Variable v) place w ((judged (calls.Variable v) []).sign, false, refl))
        (λ i x c. ok-gives (Graded IsAffine) (expression i) x (record { node = i; same = refl; knows = c.knows })))))

    after : (gs : List Given) (t : State) → NoneGiven gs t → Gives (Graded IsAffine) (function_called (Some name) place functions.Variable gs t)
    after gs t same =
        subst (λ xs. Gives (Graded IsAffine) (function_called (Some name) place functions.Variable xs t)) (sym same)
        (function-gives (Graded IsAffine) (Some name) place functions.Variable [] t (declared t))

parameter-gives : (s : State) → lookup (same_name (codes "cp")) s.names ≡ Some (library Cvxpy) → Gives (Graded IsWeight) (postfix_means (Some (codes "q")) parameter_of s)
parameter-gives s bound =
    call-gives TruthGiven (Graded IsWeight) (Some (codes "q")) (codes "cp") (codes "Parameter") 7 5 17
    (args (by_name (named_at (codes "nonneg") 7 18) (expr_of (postfix (truth_at true (place_at 7 25)) no_trailer))) args_end) s Cvxpy functions.Parameter bound refl
    (ok-gives TruthGiven (one ∷ []) s refl) after
  where
    one : Given
    one = record { word = Some (codes "nonneg"); place = place_at 7 18; value = truth true }

    TruthGiven : List Given → State → Type 0
    TruthGiven gs t = gs ≡ one ∷ []

    place : Place
    place = place_at 7 5

    given : Bound
    given = bound_of (matched (row functions.Parameter) (one ∷ []))

    rest : Shape → Act Value
    rest shape =
        list_parameter (parameter_with (codes "q") shape true false) >> (push place (calls.Parameter (parameter_with (codes "q") shape true false)) [] >>= λ i. done (expression i))

    declared : (t : State) → Gives (Graded IsWeight) (perform (Some (codes "q")) functions.Parameter place given t)
    declared t =
        unless-then (Graded IsWeight) (BadArgument place) (not (is_declared (codes "q") t)) t (λ _. unless (NotOffered place) true >> (declared_shape place (declared_sides given) >>= rest))
        (unless-then (Graded IsWeight) (NotOffered place) true t (λ _. declared_shape place (declared_sides given) >>= rest)
        (then-later (Graded IsWeight) t (declared_shape place (declared_sides given) t) rest
        (declared_shape-moves Later later_is_carried place (declared_sides given) t t (later-from t)) (λ shape u later.
        let p = parameter_with (codes "q") shape true false in
        let w = record u { parameters = u.parameters ++ p ∷ [] } in
        then-gives (Came IsWeight w) (Graded IsWeight) (push place (calls.Parameter p) [] w) (λ i. done (expression i))
        (push_none IsWeight (calls.Parameter p) place w (false, false, refl))
        (λ i x c. ok-gives (Graded IsWeight) (expression i) x (record { node = i; same = refl; knows = c.knows })))))

    after : (gs : List Given) (t : State) → TruthGiven gs t → Gives (Graded IsWeight) (function_called (Some (codes "q")) place functions.Parameter gs t)
    after gs t same =
        subst (λ xs. Gives (Graded IsWeight) (function_called (Some (codes "q")) place functions.Parameter xs t)) (sym same)
        (function-gives (Graded IsWeight) (Some (codes "q")) place functions.Parameter (one ∷ []) t (declared t))

-- ---- all lines
renamed : (P : Judgement → Type 0) (name : List ℕ) (v : Value) (s : State) (i : ℕ) → Knows P s i → Knows P (with_name name v s) i
renamed P name v s i k = record { judgement = k.judgement; grade = k.grade; stands = k.stands }

-- the names with one more
pub bound_more : (name : List ℕ) (v w : Value) (before after : List (List ℕ × Value)) → v ≡ w → before ≡ after
    → insert_entry same_name before name v ≡ insert_entry same_name after name w
bound_more name v w before after e f = ap₂ (λ ns u. insert_entry same_name ns name u) f e

pub third-line : (numbers : List ℕ) (s : State) → HasSecond s → Gives (λ _ t. HasThird t) (line_means (array_line (codes "t") 3 numbers) s)
third-line numbers s h =
    assign-later IsPlain HasThird (named_at (codes "t") 3 1) (array_of 3 numbers) s (array-gives (Some (codes "t")) 3 numbers (stepped s) (ap (lookup (same_name (codes "np"))) h))
    (λ v t p l. record { a = p.array; names = bound_more (codes "t") v (plain p.array) t.names (libraries []) p.same (l.0 ∙ h) })

pub fourth-line : (numbers : List ℕ) (s : State) → HasThird s → Gives (λ _ t. HasFourth t) (line_means (array_line (codes "b") 4 numbers) s)
fourth-line numbers s h =
    assign-later IsPlain HasFourth (named_at (codes "b") 4 1) (array_of 4 numbers) s (array-gives (Some (codes "b")) 4 numbers (stepped s) (ap (lookup (same_name (codes "np"))) h.names))
    (λ v t p l. record { a = h.a; b = p.array; names = bound_more (codes "b") v (plain p.array) t.names (libraries ((codes "t", plain h.a) ∷ [])) p.same (l.0 ∙ h.names) })

pub fifth-line : (s : State) → HasFourth s → Gives (λ _ t. HasFifth t) (line_means (variable_line (codes "s") 5) s)
fifth-line s h =
    assign-later (Graded IsAffine) HasFifth (named_at (codes "s") 5 1) (variable_of 5) s (variable-gives (codes "s") 5 (stepped s) (ap (lookup (same_name (codes "cp"))) h.names))
    (λ v t p l. record {
      a = h.a;
      b = h.b;
      i = p.node;
      names = bound_more (codes "s") v (expression p.node) t.names (arrays h.a h.b []) p.same (l.0 ∙ h.names);
      slope = renamed IsAffine (codes "s") v t p.node p.knows;
    })

pub sixth-line : (s : State) → HasFifth s → Gives (λ _ t. HasSixth t) (line_means (variable_line (codes "a") 6) s)
sixth-line s h =
    assign-later (Graded IsAffine) HasSixth (named_at (codes "a") 6 1) (variable_of 6) s (variable-gives (codes "a") 6 (stepped s) (ap (lookup (same_name (codes "cp"))) h.names))
    (λ v t p l. record {
      a = h.a;
      b = h.b;
      i = h.i;
      j = p.node;
      names = bound_more (codes "a") v (expression p.node) t.names (arrays h.a h.b ((codes "s", expression h.i) ∷ [])) p.same (l.0 ∙ h.names);
      slope = renamed IsAffine (codes "a") v t h.i (knows-later IsAffine s t h.i l h.slope);
      offset = renamed IsAffine (codes "a") v t p.node p.knows;
    })

pub seventh-line : (s : State) → HasSixth s → Gives (λ _ t. HasAll t) (line_means parameter_line s)
seventh-line s h =
    assign-later (Graded IsWeight) HasAll (named_at (codes "q") 7 1) parameter_of s (parameter-gives (stepped s) (ap (lookup (same_name (codes "cp"))) h.names))
    (λ v t p l. record {
      a = h.a;
      b = h.b;
      i = h.i;
      j = h.j;
      k = p.node;
      all = record {
        names = bound_more (codes "q") v (expression p.node) t.names (arrays h.a h.b ((codes "s", expression h.i) ∷ (codes "a", expression h.j) ∷ [])) p.same (l.0 ∙ h.names);
        slope = renamed IsAffine (codes "q") v t h.i (knows-later IsAffine s t h.i l h.slope);
        offset = renamed IsAffine (codes "q") v t h.j (knows-later IsAffine s t h.j l h.offset);
        weight = renamed IsWeight (codes "q") v t p.node p.knows;
      };
    })
