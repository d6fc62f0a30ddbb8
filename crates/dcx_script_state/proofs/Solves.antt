-- What comes of the steps by which a problem is made, and of the end.
use Rattle.std.proofs.Common.{◌≡◌, ℕ, Bool, true, false, ◌&&◌, List, Some, is_none, Result, Ok, Err, sym, ap, ap₂, ◌∙◌, subst}
use Rattle.std.specs.List.{list_all}
use Rattle.dcx_shape.specs.declared.place.Place.{Place}
use Rattle.dcx_tree.specs.declared.constraint.Sense.{Sense}
use Rattle.dcx_tree.specs.declared.constraint.Constraint.{Constraint}
use Rattle.dcx_script_values.specs.declared.fault.ElabFault.{ElabFault}
use Rattle.dcx_script_values.specs.declared.fault.ElabFault.TheVariants.{BadArgument, TwoProblems}
use Rattle.dcx_script_values.specs.Values.{Value, objective, problem, Asked, State, and_then, unless}
use Rattle.dcx_script_state.specs.Declarations.{constraint_list, is_objective, are_sides, make_problem}

module _ (place : Place) (sense : Sense) (i : ℕ) (p : Place) (vs : List Value) where
  abbrev asked : List Constraint → Asked
  asked cs = record { sense = sense; objective = i; objective_place = p; constraints = cs }

  abbrev made : State → Bool → Bool → Result (Value × State) ElabFault
  made s a b = and_then (unless (BadArgument place) a s) (λ _ t. and_then (unless (TwoProblems place) b t) (λ _ u. Ok (problem, record u { asked = Some (asked (constraint_list vs)) })))

  abbrev may : State → List Constraint → Bool
  may s cs = is_objective s.nodes i && list_all (are_sides s.nodes) cs

  same_may : (s : State) (cs : List Constraint) (b : Bool) → cs ≡ constraint_list vs → may s cs ≡ b → may s (constraint_list vs) ≡ b
  same_may s cs b is e = subst (λ ds. may s ds ≡ b) is e

  pub problem_refused : (s t : State) (cs : List Constraint) → s ≡ t → cs ≡ constraint_list vs → may s cs ≡ false → make_problem place (objective sense i p) vs t ≡ Err (BadArgument place)
  problem_refused s t cs same is e = ap (make_problem place (objective sense i p) vs) (sym same) ∙ ap (λ a. made s a (is_none s.asked)) (same_may s cs false is e)

  pub problem_again : (s t : State) (cs : List Constraint) → s ≡ t → cs ≡ constraint_list vs → may s cs ≡ true → is_none s.asked ≡ false →
      make_problem place (objective sense i p) vs t ≡ Err (TwoProblems place)
  problem_again s t cs same is e f = ap (make_problem place (objective sense i p) vs) (sym same) ∙ ap₂ (made s) (same_may s cs true is e) f

  pub problem_made : (s t : State) (cs : List Constraint) → s ≡ t → cs ≡ constraint_list vs → may s cs ≡ true → is_none s.asked ≡ true →
      make_problem place (objective sense i p) vs t ≡ Ok (problem, record s { asked = Some (asked cs) })
  problem_made s t cs same is e f =
      ap (make_problem place (objective sense i p) vs) (sym same)
      ∙ ap₂ (made s) (same_may s cs true is e) f
      ∙ ap (λ ds. Ok (problem, record s { asked = Some (asked ds) })) (sym is)
