-- What lines and scripts mean under other names.
use Rattle.std.proofs.Common.{◌≡◌, ℕ, Bool, List, [], Option, Some, None, option_map, Result, Ok, Err, refl, sym, ap, ◌∙◌}
use Rattle.std.specs.Prelude.{not, ◌&&◌}
use Rattle.dcx_shape.specs.declared.place.Place.{Place}
use Rattle.dcx_syntax.specs.declared.tree.Import.{Import}
use Rattle.dcx_syntax.specs.declared.tree.Named.{Named}
use Rattle.dcx_syntax.specs.declared.tree.Sign.TheVariants.{Plus}
use Rattle.dcx_syntax.specs.Expressions.{Expr, expr, no_comparison, sum, no_addition, term, no_scaling, factor, power_of, no_power, Postfix, postfix, no_trailer, name_at}
use Rattle.dcx_syntax.specs.Statements.{Line, importing, assign, add_to, set_value, evaluate, prints, repeats, Lines, no_lines, lines}
use Rattle.dcx_script_values.specs.declared.fault.ElabFault.{ElabFault}
use Rattle.dcx_script_values.specs.declared.fault.ElabFault.TheVariants.{NotOffered}
use Rattle.dcx_script_values.specs.Values.{Value, library, Asked, State, Act, ◌>>=◌, ◌>>◌, done, unless, bind, step}
use Rattle.dcx_script_values.specs.Kinds.{reading, is_list}
use Rattle.dcx_script_state.specs.Declarations.{start}
use Rattle.dcx_signature.specs.Firsts.{expr_place}
use Rattle.dcx_elab.specs.Statements.{bound_name, only_postfix, is_just_name, right_side, assigned, import_means, assign_means, add_to_means, set_value_means, evaluate_means, line_means, lines_mean}
use Rattle.dcx_elab.specs.Meaning.{ended_with, ended, meaning}
use Rattle.dcx_script_laws.specs.Renamed.{named_renamed, expr_renamed, postfix_renamed, import_renamed, line_renamed, lines_renamed, state_renamed, answer_renamed, meaning_renamed}
use Rattle.dcx_script_laws.specs.Names.{IsRenaming, Follows}
use Rattle.dcx_script_laws.proofs.Renamed.Acts.{chain, next, instead, done_follows, unless_follows, step_follows, look_follows, bind_follows}
use Rattle.dcx_script_laws.proofs.Renamed.Declarations.{give_follows}
use Rattle.dcx_script_laws.proofs.Renamed.Operators.{add_values_follow}
use Rattle.dcx_script_laws.proofs.Renamed.Expressions.{place_kept, through_follows, each_turn_follows, expr_follows, postfix_follows}

-- ---- the right side of an assignment
only_kept : (rename : List ℕ → List ℕ) (x : Expr) → only_postfix (expr_renamed rename x) ≡ option_map (postfix_renamed rename) (only_postfix x)
only_kept rename (expr (sum (term (factor [] (power_of x no_power)) no_scaling) no_addition) no_comparison) = refl
only_kept rename x = refl

just_kept : (rename : List ℕ → List ℕ) (x : Option Postfix) → is_just_name (option_map (postfix_renamed rename) x) ≡ is_just_name x
just_kept rename (Some (postfix (name_at n) no_trailer)) = refl
just_kept rename x = refl

-- what is assigned, where it begins at a place, and is just a name or isn't
abbrev assigned_by : Place → Bool → Act Value → Act Value
assigned_by place just m = do
  v ← m
  unless (NotOffered place) (not (just && is_list v))
  done v

module _ {rename : List ℕ → List ℕ} (is : IsRenaming rename) where
  right_side_follows : (name : List ℕ) (x : Expr) (o : Option Postfix) → Follows rename (right_side name x o) (right_side (rename name) (expr_renamed rename x) (option_map (postfix_renamed rename) o))
  right_side_follows name x (Some p) = postfix_follows is (Some name) p
  right_side_follows name x None = expr_follows is x

  assigned_kept : (name : List ℕ) (x : Expr) → assigned (rename name) (expr_renamed rename x)
      ≡ assigned_by (expr_place x) (is_just_name (only_postfix x)) (right_side (rename name) (expr_renamed rename x) (option_map (postfix_renamed rename) (only_postfix x)))
  assigned_kept name x =
      ap (λ p. assigned_by p (is_just_name (only_postfix (expr_renamed rename x))) (right_side (rename name) (expr_renamed rename x) (only_postfix (expr_renamed rename x)))) (place_kept rename x)
      ∙ ap (λ o. assigned_by (expr_place x) (is_just_name o) (right_side (rename name) (expr_renamed rename x) o)) (only_kept rename x)
      ∙ ap (λ b. assigned_by (expr_place x) b (right_side (rename name) (expr_renamed rename x) (option_map (postfix_renamed rename) (only_postfix x)))) (just_kept rename (only_postfix x))

  assigned_follows : (name : List ℕ) (x : Expr) → Follows rename (assigned name x) (assigned (rename name) (expr_renamed rename x))
  assigned_follows name x =
      instead (assigned_kept name x)
      (chain (right_side_follows name x (only_postfix x)) (λ v. next (unless_follows (NotOffered (expr_place x)) (not (is_just_name (only_postfix x) && is_list v))) (done_follows v)))

  -- ---- lines
  bound_renamed : (i : Import) (alias : Option Named) → bound_name i (option_map (named_renamed rename) alias) ≡ rename (bound_name i alias)
  bound_renamed i None = sym (is.modules i.module)
  bound_renamed i (Some n) = refl

  import_follows : (i : Import) → Follows rename (import_means i) (import_means (import_renamed rename i))
  import_follows i = next (step_follows i.place) (instead (ap (λ n. bind n (library i.module)) (bound_renamed i i.alias)) (bind_follows is (bound_name i i.alias) (library i.module)))

  assign_follows : (n : Named) (x : Expr) → Follows rename (assign_means n x) (assign_means (named_renamed rename n) (expr_renamed rename x))
  assign_follows n x = next (step_follows n.place) (chain (assigned_follows n.name x) (λ v. bind_follows is n.name v))

  add_to_follows : (n : Named) (place : Place) (x : Expr) → Follows rename (add_to_means n place x) (add_to_means (named_renamed rename n) place (expr_renamed rename x))
  add_to_follows n place x =
      next (step_follows n.place) (chain (look_follows is n.name n.place) (λ v. chain (expr_follows is x) (λ w. chain (add_values_follow is Plus place v w) (λ u. bind_follows is n.name u))))

  set_value_follows : (n : Named) (place : Place) (x : Expr) → Follows rename (set_value_means n place x) (set_value_means (named_renamed rename n) place (expr_renamed rename x))
  set_value_follows n place x = next (step_follows n.place) (chain (look_follows is n.name n.place) (λ v. chain (expr_follows is x) (λ w. give_follows is place v (reading w))))

  evaluate_follows : (x : Expr) → Follows rename (evaluate_means x) (evaluate_means (expr_renamed rename x))
  evaluate_follows x = next (instead (ap step (place_kept rename x)) (step_follows (expr_place x))) (chain (expr_follows is x) (λ _. done_follows tt))

  mutual
    line_follows : (x : Line) → Follows rename (line_means x) (line_means (line_renamed rename x))
    line_follows (importing i) = import_follows i
    line_follows (assign n x) = assign_follows n x
    line_follows (add_to n place x) = add_to_follows n place x
    line_follows (set_value n place x) = set_value_follows n place x
    line_follows (evaluate x) = evaluate_follows x
    line_follows (prints place open_place inner) = step_follows place
    line_follows (repeats place n x first rest) =
        next (step_follows place) (chain (expr_follows is x) (λ v. chain (through_follows place v) (λ vs. each_turn_follows is n.name (next (line_follows first) (lines_follow rest)) vs)))

    pub lines_follow : (ls : Lines) → Follows rename (lines_mean ls) (lines_mean (lines_renamed rename ls))
    lines_follow no_lines = done_follows tt
    lines_follow (lines x rest) = next (line_follows x) (lines_follow rest)

-- ---- scripts
ended_with_renamed : (rename : List ℕ → List ℕ) (s : State) (asked : Option Asked) → ended_with (state_renamed rename s) asked ≡ meaning_renamed rename (ended_with s asked)
ended_with_renamed rename s None = refl
ended_with_renamed rename s (Some q) = refl

ended_renamed : (rename : List ℕ → List ℕ) (r : Result (Unit {0} × State) ElabFault) → ended (answer_renamed rename r) ≡ meaning_renamed rename (ended r)
ended_renamed rename (Ok p) = ended_with_renamed rename p.1 p.1.asked
ended_renamed rename (Err e) = refl

pub meaning_follows : (rename : List ℕ → List ℕ) → IsRenaming rename → (ls : Lines) → meaning (lines_renamed rename ls) ≡ meaning_renamed rename (meaning ls)
meaning_follows rename is ls = ap ended ((lines_follow is ls).along start) ∙ ended_renamed rename (lines_mean ls start)
