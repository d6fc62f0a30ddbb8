-- Declarations, values of parameters, the problem and its solves under other names.
use Rattle.std.proofs.Common.{◌≡◌, ℕ, ◌+◌, Bool, List, [], ◌∷◌, ◌++◌, map, length, Option, Some, None, option_map, Ok, refl, sym, ap, ap₂, ◌∙◌}
use Rattle.std.specs.Prelude.{nat_eq, nat_le, nat_lt, not, ◌&&◌, ◌||◌, is_none, is_some}
use Rattle.std.specs.List.{list_all, list_any}
use Rattle.std.proofs.lemmas.List.{length-map, map-append}
use Rattle.dcx_shape.specs.declared.shape.Sides.{Sides}
use Rattle.dcx_shape.specs.declared.place.Place.{Place}
use Rattle.dcx_shape.specs.Shape.{sides_of}
use Rattle.dcx_shape.specs.Sides.{entries_of}
use Rattle.dcx_atom.specs.declared.array.Array.{Array}
use Rattle.dcx_affine.specs.Places.{same_sides}
use Rattle.dcx_point.specs.Pairs.{Pairs}
use Rattle.dcx_arena.specs.declared.fault.Count.TheVariants.{Nodes, Entries, Events}
use Rattle.dcx_arena.specs.Nodes.{Node, most, call_at, sides_at}
use Rattle.dcx_array.specs.Shapes.{shape_with}
use Rattle.dcx_call.specs.declared.attribute.Variable.{Variable}
use Rattle.dcx_call.specs.declared.attribute.Parameter.{Parameter}
use Rattle.dcx_call.specs.declared.call.Call.{Call}
use Rattle.dcx_call.specs.declared.call.Call.TheVariants as calls
use Rattle.dcx_tree.specs.declared.constraint.Constraint.{Constraint}
use Rattle.dcx_script_values.specs.declared.fault.ElabFault.TheVariants.{BadArgument, NotOffered, ShapeClash, TwoProblems}
use Rattle.dcx_script_values.specs.Values.{Value, expression, problem, result, Asked, State, Act, ◌>>=◌, ◌>>◌, unless, or_fault, too_many}
use Rattle.dcx_script_values.specs.Kinds.{Reading, is_square}
use Rattle.dcx_script_values.specs.Operands.{numbers_read}
use Rattle.dcx_script_state.specs.declared.flags.Flags.{Flags}
use Rattle.dcx_script_state.specs.Attributes.{may_stand}
use Rattle.dcx_script_state.specs.Declarations.{is_declared, declared_shape, variable_with, list_variable, declare_variable, set_value, first_value, set_first}
use Rattle.dcx_script_state.specs.Declarations.{parameter_with, list_parameter, declare_parameter, parameter_name, parameter_of, give, asked_with, has_sides, are_sides}
use Rattle.dcx_script_state.specs.Declarations.{may_be_asked, make_problem, roots_of, is_parameter, is_reached, reached_values, standing_setting, most_events, solve}
use Rattle.dcx_script_laws.specs.Renamed.{entries_renamed, variable_renamed, parameter_renamed, call_renamed, node_renamed, state_renamed}
use Rattle.dcx_script_laws.specs.Names.{IsRenaming, Follows}
use Rattle.dcx_script_laws.proofs.Renamed.Entries.{same_renamed, insert_renamed, any_renamed, filter_changed}
use Rattle.dcx_script_laws.proofs.Renamed.Nodes.{same_function, sides_kept, call_renamed_at, order_kept}
use Rattle.dcx_script_laws.proofs.Renamed.Acts.{chain, next, reads, done_follows, fault_follows, unless_follows, or_fault_follows}
use Rattle.dcx_script_laws.proofs.Renamed.Pushes.{push_follows, numbers_follow}

-- ---- what doesn't change
module _ (rename : List ℕ → List ℕ) (nodes : List (Node Call)) where
  has_sides_kept : (sides : Sides) (i : ℕ) → has_sides (map (node_renamed rename) nodes) sides i ≡ has_sides nodes sides i
  has_sides_kept sides i = ap₂ (λ n f. nat_lt i n && same_sides (f i) sides) (length-map nodes (node_renamed rename)) (sides_kept rename nodes)

  are_sides_kept : (c : Constraint) → are_sides (map (node_renamed rename) nodes) c ≡ are_sides nodes c
  are_sides_kept c = ap₂ (λ a b. a && b) (has_sides_kept (sides_of c.shape) c.left.0) (has_sides_kept (sides_of c.shape) c.right.0)

  may_be_asked_kept : (q : Asked) → may_be_asked (map (node_renamed rename) nodes) q ≡ may_be_asked nodes q
  may_be_asked_kept q =
      ap₂ (λ n f. (nat_lt q.objective n && nat_eq (entries_of (f q.objective)) 1) && list_all (are_sides (map (node_renamed rename) nodes)) q.constraints)
      (length-map nodes (node_renamed rename)) (sides_kept rename nodes)
      ∙ ap (λ test. (nat_lt q.objective (length nodes) && nat_eq (entries_of (sides_at nodes q.objective)) 1) && list_all test q.constraints) (same_function are_sides_kept)

-- ---- what is done with what was read
abbrev problem_made : Place → (Asked → Bool) → Option Asked → Option Asked → Act Value
problem_made place may before asked = do
  q ← or_fault (BadArgument place) asked
  unless (BadArgument place) (may q)
  unless (TwoProblems place) (is_none before)
  (λ s. Ok (problem, record s { asked = Some q }))

abbrev value_given : Place → Reading → Option (List ℕ) → Act (Unit {0})
value_given place r o = do
  name ← or_fault (BadArgument place) o
  a ← numbers_read place r
  set_value name a

-- one solve more
abbrev event : Act Value
event s = Ok (result, record s { events = s.events ++ standing_setting s ∷ [] })

module _ {rename : List ℕ → List ℕ} where
  -- ---- declarations
  pub declared_shape_follows : (place : Place) (sides : Sides) → Follows rename (declared_shape place sides) (declared_shape place sides)
  declared_shape_follows place sides =
      reads (λ s. length s.nodes) (λ s. length s.nodes) (λ s. length-map s.nodes (node_renamed rename))
      (λ n. next (unless_follows (too_many place Nodes (n + 1)) (is_some (shape_with sides) || nat_le (n + 1) most)) (or_fault_follows (too_many place Entries (entries_of sides)) (shape_with sides)))

  list_variable_follows : (v : Variable) → Follows rename (list_variable v) (list_variable (variable_renamed rename v))
  list_variable_follows v = record { along = λ s. ap (λ vs. Ok (tt, record (state_renamed rename s) { variables = vs })) (sym (map-append (variable_renamed rename) s.variables (v ∷ []))) }

  list_parameter_follows : (p : Parameter) → Follows rename (list_parameter p) (list_parameter (parameter_renamed rename p))
  list_parameter_follows p = record { along = λ s. ap (λ ps. Ok (tt, record (state_renamed rename s) { parameters = ps })) (sym (map-append (parameter_renamed rename) s.parameters (p ∷ []))) }

  first_value_follows : (place : Place) (r : Option Reading) → Follows rename (first_value place r) (first_value place r)
  first_value_follows place None = done_follows None
  first_value_follows place (Some r) = chain (numbers_follow place r) (λ a. done_follows (Some a))

  -- ---- the problem
  problem_made_follows : (place : Place) (may : Asked → Bool) (before asked : Option Asked) → Follows rename (problem_made place may before asked) (problem_made place may before asked)
  problem_made_follows place may before asked =
      chain (or_fault_follows (BadArgument place) asked)
      (λ q. next (unless_follows (BadArgument place) (may q)) (next (unless_follows (TwoProblems place) (is_none before)) (record { along = λ s. refl })))

  pub make_problem_follows : (place : Place) (v : Value) (vs : List Value) → Follows rename (make_problem place v vs) (make_problem place v vs)
  make_problem_follows place v vs = record {
    along = λ s.
        ap (λ may. problem_made place may s.asked (asked_with v vs) (state_renamed rename s)) (same_function (may_be_asked_kept rename s.nodes))
        ∙ (problem_made_follows place (may_be_asked s.nodes) s.asked (asked_with v vs)).along s;
  }

module _ {rename : List ℕ → List ℕ} (is : IsRenaming rename) where
  -- ---- declarations
  declared_kept : (name : List ℕ) (s : State) → is_declared (rename name) (state_renamed rename s) ≡ is_declared name s
  declared_kept name s =
      ap₂ (λ a b. a || b) (any_renamed is (λ (v : Variable). v.name) (variable_renamed rename) (λ v. refl) name s.variables)
      (any_renamed is (λ (p : Parameter). p.name) (parameter_renamed rename) (λ p. refl) name s.parameters)

  pub declare_variable_follows : (place : Place) (name : List ℕ) (sides : Sides) (flags : Flags)
      → Follows rename (declare_variable place name sides flags) (declare_variable place (rename name) sides flags)
  declare_variable_follows place name sides flags =
      reads (is_declared name) (is_declared (rename name)) (declared_kept name) (λ again.
      next (unless_follows (BadArgument place) (may_stand flags && not again))
      (next (unless_follows (ShapeClash place) (not (flags.symmetric || flags.diag) || is_square sides))
      (chain (declared_shape_follows place sides) (λ shape.
      next (list_variable_follows (variable_with name shape flags))
      (chain (push_follows is place (calls.Variable (variable_with name shape flags)) []) (λ i. done_follows (expression i)))))))

  pub set_value_follows : (name : List ℕ) (a : Array) → Follows rename (set_value name a) (set_value (rename name) a)
  set_value_follows name a = record { along = λ s. ap (λ es. Ok (tt, record (state_renamed rename s) { setting = es })) (insert_renamed is s.setting name a) }

  set_first_follows : (name : List ℕ) (a : Option Array) → Follows rename (set_first name a) (set_first (rename name) a)
  set_first_follows name None = done_follows tt
  set_first_follows name (Some a) = set_value_follows name a

  pub declare_parameter_follows : (place : Place) (name : List ℕ) (sides : Sides) (nonneg nonpos unoffered : Bool) (value : Option Reading) →
      Follows rename (declare_parameter place name sides nonneg nonpos unoffered value) (declare_parameter place (rename name) sides nonneg nonpos unoffered value)
  declare_parameter_follows place name sides nonneg nonpos unoffered value =
      reads (is_declared name) (is_declared (rename name)) (declared_kept name) (λ again.
      next (unless_follows (BadArgument place) (not (nonneg && nonpos) && not again))
      (next (unless_follows (NotOffered place) (not unoffered))
      (chain (first_value_follows place value) (λ first.
      chain (declared_shape_follows place sides) (λ shape.
      next (list_parameter_follows (parameter_with name shape nonneg nonpos))
      (chain (push_follows is place (calls.Parameter (parameter_with name shape nonneg nonpos)) []) (λ i. next (set_first_follows name first) (done_follows (expression i)))))))))

  -- ---- values of parameters
  parameter_renamed_name : (o : Option Call) → parameter_name (option_map (call_renamed rename) o) ≡ option_map rename (parameter_name o)
  parameter_renamed_name None = refl
  parameter_renamed_name (Some (calls.Variable v)) = refl
  parameter_renamed_name (Some (calls.Parameter p)) = refl
  parameter_renamed_name (Some (calls.Constant a)) = refl
  parameter_renamed_name (Some (calls.Atom a)) = refl
  parameter_renamed_name (Some (calls.Linear l)) = refl
  parameter_renamed_name (Some (calls.Pairing p)) = refl

  parameter_renamed_of : (nodes : List (Node Call)) (v : Value) → parameter_of (map (node_renamed rename) nodes) v ≡ option_map rename (parameter_of nodes v)
  parameter_renamed_of nodes (expression i) = ap parameter_name (call_renamed_at rename nodes i) ∙ parameter_renamed_name (call_at nodes i)
  parameter_renamed_of nodes v = refl

  value_given_follows : (place : Place) (r : Reading) (o : Option (List ℕ)) → Follows rename (value_given place r o) (value_given place r (option_map rename o))
  value_given_follows place r None = fault_follows (BadArgument place)
  value_given_follows place r (Some name) = chain (numbers_follow place r) (λ a. set_value_follows name a)

  pub give_follows : (place : Place) (v : Value) (r : Reading) → Follows rename (give place v r) (give place v r)
  give_follows place v r = record {
    along = λ s. ap (λ o. value_given place r o (state_renamed rename s)) (parameter_renamed_of s.nodes v) ∙ (value_given_follows place r (parameter_of s.nodes v)).along s;
  }

  -- ---- solves
  named_kept : (name : List ℕ) (o : Option Call) → is_parameter (rename name) (option_map (call_renamed rename) o) ≡ is_parameter name o
  named_kept name None = refl
  named_kept name (Some (calls.Variable v)) = refl
  named_kept name (Some (calls.Parameter p)) = same_renamed is name p.name
  named_kept name (Some (calls.Constant a)) = refl
  named_kept name (Some (calls.Atom a)) = refl
  named_kept name (Some (calls.Linear l)) = refl
  named_kept name (Some (calls.Pairing p)) = refl

  reached_kept : (nodes : List (Node Call)) (q : Asked) (name : List ℕ) → is_reached (map (node_renamed rename) nodes) q (rename name) ≡ is_reached nodes q name
  reached_kept nodes q name =
      ap₂ list_any (same_function (λ i. ap (is_parameter (rename name)) (call_renamed_at rename nodes i) ∙ named_kept name (call_at nodes i))) (order_kept rename nodes (roots_of q))

  reached_renamed : (nodes : List (Node Call)) (asked : Option Asked) (setting : Pairs) →
      reached_values (map (node_renamed rename) nodes) asked (entries_renamed rename setting) ≡ entries_renamed rename (reached_values nodes asked setting)
  reached_renamed nodes None setting = refl
  reached_renamed nodes (Some q) setting = filter_changed (λ (e : List ℕ × Array). (rename e.0, e.1)) (λ e. is_reached nodes q e.0)
      (λ e. is_reached (map (node_renamed rename) nodes) q e.0) (λ e. reached_kept nodes q e.0) setting

  pub standing_renamed : (s : State) → standing_setting (state_renamed rename s) ≡ entries_renamed rename (standing_setting s)
  standing_renamed s = reached_renamed s.nodes s.asked s.setting

  event_follows : Follows rename event event
  event_follows = record {
    along = λ s.
        ap (λ es. Ok (result, record (state_renamed rename s) { events = es }))
        (ap (λ e. map (entries_renamed rename) s.events ++ e ∷ []) (standing_renamed s) ∙ sym (map-append (entries_renamed rename) s.events (standing_setting s ∷ [])));
  }

  pub solve_follows : (place : Place) → Follows rename (solve place) (solve place)
  solve_follows place =
      reads (λ s. length s.events) (λ s. length s.events) (λ s. length-map s.events (entries_renamed rename))
      (λ n. next (unless_follows (too_many place Events (n + 1)) (nat_lt n most_events)) event_follows)
