-- What comes of the steps of a declaration.
use Rattle.std.proofs.Common.{◌≡◌, ℕ, Bool, true, false, not, ◌&&◌, List, [], ◌∷◌, ◌++◌, Option, Ok, refl, sym, ap₂, ◌∙◌}
use Rattle.std.specs.Prelude.{◌||◌}
use Rattle.dcx_shape.specs.declared.place.Place.{Place}
use Rattle.dcx_shape.specs.declared.shape.Shape.{Shape}
use Rattle.dcx_shape.specs.declared.shape.Sides.{Sides}
use Rattle.dcx_atom.specs.declared.array.Array.{Array}
use Rattle.dcx_call.specs.declared.attribute.Variable.{Variable}
use Rattle.dcx_call.specs.declared.attribute.Parameter.{Parameter}
use Rattle.dcx_call.specs.declared.call.Call.TheVariants as calls
use Rattle.dcx_script_values.specs.declared.fault.ElabFault.{ElabFault}
use Rattle.dcx_script_values.specs.declared.fault.ElabFault.TheVariants.{BadArgument, NotOffered, ShapeClash}
use Rattle.dcx_script_values.specs.Values.{Value, expression, State, Act, and_then, done, unless}
use Rattle.dcx_script_values.specs.Kinds.{Reading, is_square}
use Rattle.dcx_script_values.specs.Nodes.{push}
use Rattle.dcx_script_values.specs.View.{Fails}
use Rattle.dcx_script_values.proofs.Acts.{Fails-then, Fails-same, then_is}
use Rattle.dcx_script_state.specs.declared.flags.Flags.{Flags}
use Rattle.dcx_script_state.specs.Attributes.{may_stand}
use Rattle.dcx_script_state.specs.Declarations.{is_declared, declared_shape, variable_with, declare_variable, parameter_with, declare_parameter, first_value, set_first}
use Rattle.dcx_script_state.proofs.Each.{and_then-assoc}

-- ---- tests
-- both tests pass
passed_both : (e f : ElabFault) (a b : Bool) (s : State) → and_then (unless e a s) (λ _. unless f b) ≡ Ok (tt, s) → (a ≡ true) × (b ≡ true)
passed_both e f true true s is = (refl, refl)
passed_both e f true false s is = absurd (cc)
passed_both e f false b s is = absurd (cc)

-- the name is new
new_where : (a again : Bool) → (a && not again) ≡ true → again ≡ false
new_where true true e = absurd (cc)
new_where true false e = refl
new_where false again e = absurd (cc)

so_where : (a b : Bool) → (not a || b) ≡ true → a ≡ true → b ≡ true
so_where true b e f = e
so_where false b e f = absurd (cc)

-- ---- a variable
module _ (place : Place) (name : List ℕ) (sides : Sides) (flags : Flags) where
  abbrev pub variable_tests : Act (Unit {0})
  variable_tests s =
      and_then (unless (BadArgument place) (may_stand flags && not (is_declared name s)) s)
      (λ _. unless (ShapeClash place) (not (flags.symmetric || flags.diag) || is_square sides))

  abbrev variable_after : Shape → Act ℕ
  variable_after shape t = push place (calls.Variable (variable_with name shape flags)) [] (record t { variables = t.variables ++ variable_with name shape flags ∷ [] })

  abbrev pub variable_comes : Act ℕ
  variable_comes s = and_then (declared_shape place sides s) variable_after

  abbrev as_value : ℕ → Act Value
  as_value i = done (expression i)

  abbrev variable_rest : Unit {0} → Act Value
  variable_rest u s = and_then (declared_shape place sides s) (λ shape t. and_then (variable_after shape t) as_value)

  variable_begins : (s : State) → declare_variable place name sides flags s ≡ and_then (variable_tests s) variable_rest
  variable_begins s =
      sym (and_then-assoc (unless (BadArgument place) (may_stand flags && not (is_declared name s)) s)
      (λ _. unless (ShapeClash place) (not (flags.symmetric || flags.diag) || is_square sides)) variable_rest)

  pub variable_refused : (s : State) (e : ElabFault) → Fails e (variable_tests s) → Fails e (declare_variable place name sides flags s)
  variable_refused s e h = Fails-same e (and_then (variable_tests s) variable_rest) (declare_variable place name sides flags s) (variable_begins s) (Fails-then e (variable_tests s) variable_rest h)

  -- the node of a variable that is listed
  pub variable_pushed : (s t : State) (shape : Shape) (v : Variable) → declared_shape place sides s ≡ Ok (shape, s) → v ≡ variable_with name shape flags →
      t ≡ record s { variables = s.variables ++ variable_with name shape flags ∷ [] } → variable_comes s ≡ push place (calls.Variable v) [] t
  variable_pushed s t shape v shaped is listed =
      then_is (declared_shape place sides s) variable_after shape s shaped ∙ sym (ap₂ (λ w u. push place (calls.Variable w) [] u) is listed)

  pub variable_unshaped : (s : State) (e : ElabFault) → Fails e (declared_shape place sides s) → Fails e (variable_comes s)
  variable_unshaped s e h = Fails-then e (declared_shape place sides s) variable_after h

  -- what is left once the attributes, the name and the shape are tested
  module _ (s : State) (passed : variable_tests s ≡ Ok (tt, s)) where
    both : ((may_stand flags && not (is_declared name s)) ≡ true) × ((not (flags.symmetric || flags.diag) || is_square sides) ≡ true)
    both = passed_both (BadArgument place) (ShapeClash place) (may_stand flags && not (is_declared name s)) (not (flags.symmetric || flags.diag) || is_square sides) s passed

    pub variable_new : is_declared name s ≡ false
    variable_new = new_where (may_stand flags) (is_declared name s) both.0

    pub variable_square : (flags.symmetric || flags.diag) ≡ true → is_square sides ≡ true
    variable_square = so_where (flags.symmetric || flags.diag) (is_square sides) both.1

    variable_tested : declare_variable place name sides flags s ≡ and_then (variable_comes s) as_value
    variable_tested =
        variable_begins s
        ∙ then_is (variable_tests s) variable_rest tt s passed
        ∙ sym (and_then-assoc (declared_shape place sides s) variable_after as_value)

    pub variable_fault : (e : ElabFault) → Fails e (variable_comes s) → Fails e (declare_variable place name sides flags s)
    variable_fault e h = Fails-same e (and_then (variable_comes s) as_value) (declare_variable place name sides flags s) variable_tested (Fails-then e (variable_comes s) as_value h)

    pub variable_is : (i : ℕ) (t : State) → variable_comes s ≡ Ok (i, t) → declare_variable place name sides flags s ≡ Ok (expression i, t)
    variable_is i t e = variable_tested ∙ then_is (variable_comes s) as_value i t e

-- ---- a parameter
module _ (place : Place) (name : List ℕ) (sides : Sides) (nonneg nonpos : Bool) where
  abbrev parameter_after : Shape → Act ℕ
  parameter_after shape t = push place (calls.Parameter (parameter_with name shape nonneg nonpos)) [] (record t { parameters = t.parameters ++ parameter_with name shape nonneg nonpos ∷ [] })

  abbrev pub parameter_comes : Act ℕ
  parameter_comes s = and_then (declared_shape place sides s) parameter_after

  -- the node of a parameter that is listed
  pub parameter_pushed : (s t : State) (shape : Shape) (p : Parameter) → declared_shape place sides s ≡ Ok (shape, s) → p ≡ parameter_with name shape nonneg nonpos →
      t ≡ record s { parameters = s.parameters ++ parameter_with name shape nonneg nonpos ∷ [] } → parameter_comes s ≡ push place (calls.Parameter p) [] t
  parameter_pushed s t shape p shaped is listed =
      then_is (declared_shape place sides s) parameter_after shape s shaped ∙ sym (ap₂ (λ q u. push place (calls.Parameter q) [] u) is listed)

  pub parameter_unshaped : (s : State) (e : ElabFault) → Fails e (declared_shape place sides s) → Fails e (parameter_comes s)
  parameter_unshaped s e h = Fails-then e (declared_shape place sides s) parameter_after h

  module _ (unoffered : Bool) (value : Option Reading) where
    abbrev pub parameter_tests : Act (Unit {0})
    parameter_tests s =
        and_then (unless (BadArgument place) (not (nonneg && nonpos) && not (is_declared name s)) s) (λ _. unless (NotOffered place) (not unoffered))

    abbrev placed : Option Array → ℕ → Act Value
    placed first i u = and_then (set_first name first u) (λ _. done (expression i))

    abbrev parameter_with_first : Option Array → Act Value
    parameter_with_first first t = and_then (declared_shape place sides t) (λ shape u. and_then (parameter_after shape u) (placed first))

    abbrev parameter_rest : Unit {0} → Act Value
    parameter_rest u s = and_then (first_value place value s) parameter_with_first

    parameter_begins : (s : State) → declare_parameter place name sides nonneg nonpos unoffered value s ≡ and_then (parameter_tests s) parameter_rest
    parameter_begins s =
        sym (and_then-assoc (unless (BadArgument place) (not (nonneg && nonpos) && not (is_declared name s)) s) (λ _. unless (NotOffered place) (not unoffered)) parameter_rest)

    pub parameter_refused : (s : State) (e : ElabFault) → Fails e (parameter_tests s) → Fails e (declare_parameter place name sides nonneg nonpos unoffered value s)
    parameter_refused s e h =
        Fails-same e (and_then (parameter_tests s) parameter_rest) (declare_parameter place name sides nonneg nonpos unoffered value s) (parameter_begins s)
        (Fails-then e (parameter_tests s) parameter_rest h)

    -- what is left once the attributes and the name are tested
    module _ (s : State) (passed : parameter_tests s ≡ Ok (tt, s)) where
      pub parameter_new : is_declared name s ≡ false
      parameter_new =
          let both = passed_both (BadArgument place) (NotOffered place) (not (nonneg && nonpos) && not (is_declared name s)) (not unoffered) s passed in
          new_where (not (nonneg && nonpos)) (is_declared name s) both.0

      parameter_tested : declare_parameter place name sides nonneg nonpos unoffered value s ≡ and_then (first_value place value s) parameter_with_first
      parameter_tested = parameter_begins s ∙ then_is (parameter_tests s) parameter_rest tt s passed

      pub parameter_first_fault : (e : ElabFault) → Fails e (first_value place value s) → Fails e (declare_parameter place name sides nonneg nonpos unoffered value s)
      parameter_first_fault e h =
          Fails-same e (and_then (first_value place value s) parameter_with_first) (declare_parameter place name sides nonneg nonpos unoffered value s) parameter_tested
          (Fails-then e (first_value place value s) parameter_with_first h)

      module _ (first : Option Array) (valued : first_value place value s ≡ Ok (first, s)) where
        parameter_valued : declare_parameter place name sides nonneg nonpos unoffered value s ≡ and_then (parameter_comes s) (placed first)
        parameter_valued =
            parameter_tested
            ∙ then_is (first_value place value s) parameter_with_first first s valued
            ∙ sym (and_then-assoc (declared_shape place sides s) parameter_after (placed first))

        pub parameter_fault : (e : ElabFault) → Fails e (parameter_comes s) → Fails e (declare_parameter place name sides nonneg nonpos unoffered value s)
        parameter_fault e h = Fails-same e (and_then (parameter_comes s) (placed first)) (declare_parameter place name sides nonneg nonpos unoffered value s) parameter_valued
            (Fails-then e (parameter_comes s) (placed first) h)

        module _ (i : ℕ) (t : State) (comes : parameter_comes s ≡ Ok (i, t)) where
          parameter_there : declare_parameter place name sides nonneg nonpos unoffered value s ≡ placed first i t
          parameter_there = parameter_valued ∙ then_is (parameter_comes s) (placed first) i t comes

          pub parameter_set_fault : (e : ElabFault) → Fails e (set_first name first t) → Fails e (declare_parameter place name sides nonneg nonpos unoffered value s)
          parameter_set_fault e h = Fails-same e (placed first i t) (declare_parameter place name sides nonneg nonpos unoffered value s) parameter_there
              (Fails-then e (set_first name first t) (λ _. done (expression i)) h)

          pub parameter_is : (u : State) → set_first name first t ≡ Ok (tt, u) → declare_parameter place name sides nonneg nonpos unoffered value s ≡ Ok (expression i, u)
          parameter_is u e = parameter_there ∙ then_is (set_first name first t) (λ _. done (expression i)) tt u e
