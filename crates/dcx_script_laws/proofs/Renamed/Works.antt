-- What is handed out of a script under other names.
use Rattle.std.proofs.Common.{◌≡◌, ℕ, List, [], ◌∷◌, map, length, Option, Some, None, option_map, Result, Ok, refl, sym, ap, subst, ◌∙◌}
use Rattle.std.specs.Prelude.{filter}
use Rattle.std.specs.List.{slice_get}
use Rattle.std.proofs.lemmas.List.{length-map}
use Rattle.std.proofs.lemmas.Option.{slice_get-map, same_Some}
use Rattle.dcx_arena.specs.Nodes.{Node}
use Rattle.dcx_arena.specs.Gather.{order_of, StandFor, IsRenamed, IsGathered}
use Rattle.dcx_arena.proofs.OneGathering.{one_name, one_list, order_once}
use Rattle.dcx_point.specs.Pairs.{Pairs}
use Rattle.dcx_call.specs.declared.attribute.Variable.{Variable}
use Rattle.dcx_call.specs.declared.attribute.Parameter.{Parameter}
use Rattle.dcx_call.specs.declared.call.Call.{Call}
use Rattle.dcx_call.specs.declared.call.Call.TheVariants as calls
use Rattle.dcx_tree.specs.declared.problem.Problem.{Problem}
use Rattle.dcx_tree.specs.Problems.{sides_in, roots_of}
use Rattle.dcx_tree.specs.Gather.{positions_of, is_variable, is_parameter, has_variable, has_parameter, IsProblemOf}
use Rattle.dcx_tree.proofs.OneProblem.{one_constraints}
use Rattle.dcx_script_values.specs.declared.fault.ElabFault.{ElabFault}
use Rattle.dcx_script_values.specs.Values.{Asked, State}
use Rattle.dcx_script_state.specs.Declarations.{standing_setting, events_or_end}
use Rattle.dcx_script_state.specs.Ends.{roots_in}
use Rattle.dcx_syntax.specs.declared.tree.Script.{Script}
use Rattle.dcx_syntax.specs.View.{script_view}
use Rattle.dcx_elab.specs.declared.work.Work.{Work}
use Rattle.dcx_elab.specs.Meaning.{meaning, IsWork, Elaborates}
use Rattle.dcx_script_laws.specs.Renamed.{lines_renamed, entries_renamed, variable_renamed, parameter_renamed, call_renamed}
use Rattle.dcx_script_laws.specs.Renamed.{node_renamed, state_renamed, meaning_renamed, IsRenamedProblem, IsRenamedWork}
use Rattle.dcx_script_laws.specs.Names.{IsRenaming}
use Rattle.dcx_script_laws.proofs.Renamed.Entries.{same_renamed, any_changed, filter_changed}
use Rattle.dcx_script_laws.proofs.Renamed.Nodes.{order_kept}
use Rattle.dcx_script_laws.proofs.Renamed.Declarations.{standing_renamed}
use Rattle.dcx_script_laws.proofs.Renamed.Lines.{meaning_follows}

-- ---- what is the same
node_one : (m n : Node Call) → m.call ≡ n.call → m.args ≡ n.args → m.sides ≡ n.sides → m.place ≡ n.place → m ≡ n
node_one m n c a s p = λ i. record { call = c i; args = a i; sides = s i; place = p i }

-- what a script comes to is one
meaning_one : (m : Result (State × Asked) ElabFault) (s t : State) (q r : Asked) → m ≡ Ok (s, q) → m ≡ Ok (t, r) → (s ≡ t) × (q ≡ r)
meaning_one m s t q r e h = let same : (s, q) ≡ (t, r) = cc in (ap (λ (p : State × Asked). p.0) same, ap (λ (p : State × Asked). p.1) same)

-- ---- the part that roots reach
module _ (rename : List ℕ → List ℕ) (nodes : List (Node Call)) (roots : List ℕ) (here there : List (Node Call)) (ends others : List ℕ)
    (g : IsGathered nodes roots here ends) (h : IsGathered (map (node_renamed rename) nodes) roots there others) where
  same_order : order_of (map (node_renamed rename) nodes) roots ≡ order_of nodes roots
  same_order = order_kept rename nodes roots

  -- a node of the part, and the node for which it stands
  node_renamed_at : (m n l x : Node Call) → IsRenamed (order_of nodes roots) m n → IsRenamed (order_of (map (node_renamed rename) nodes) roots) l x
      → l ≡ node_renamed rename m → x ≡ node_renamed rename n
  node_renamed_at m n l x a b e =
      node_one x (node_renamed rename n)
      (b.same_call ∙ ap (λ (z : Node Call). z.call) e ∙ ap (call_renamed rename) (sym a.same_call))
      (one_name (order_of nodes roots) (order_once nodes roots) x.args n.args m.args (subst (λ o. StandFor o x.args m.args) same_order
      (subst (λ (z : Node Call). StandFor (order_of (map (node_renamed rename) nodes) roots) x.args z.args) e b.same_args)) a.same_args)
      (b.same_sides ∙ ap (λ (z : Node Call). z.sides) e ∙ sym a.same_sides)
      (b.same_place ∙ ap (λ (z : Node Call). z.place) e ∙ sym a.same_place)

  renamed_here : (k : ℕ) (x n : Node Call) → slice_get there k ≡ Some x → slice_get here k ≡ Some n → x ≡ node_renamed rename n
  renamed_here k x n p q =
      let (i, m, at, is, a) = g.renamed k n q in
      let (j, l, au, it, b) = h.renamed k x p in
      let same : j ≡ i = same_Some j i (sym au ∙ ap (λ o. slice_get o k) same_order ∙ at) in
      let e : l ≡ node_renamed rename m = same_Some l (node_renamed rename m)
      (sym it ∙ ap (slice_get (map (node_renamed rename) nodes)) same ∙ slice_get-map (node_renamed rename) nodes i ∙ ap (option_map (node_renamed rename)) is) in
      node_renamed_at m n l x a b e

  pub tree_renamed : there ≡ map (node_renamed rename) here
  tree_renamed = one_list there (map (node_renamed rename) here) (h.count ∙ ap length same_order ∙ sym g.count ∙ sym (length-map here (node_renamed rename))) at
    where
      by : (k : ℕ) (x y : Node Call) (o : Option (Node Call)) → slice_get here k ≡ o → slice_get there k ≡ Some x → option_map (node_renamed rename) o ≡ Some y → x ≡ y
      by k x y None q p e = absurd (cc)
      by k x y (Some n) q p e = renamed_here k x n p q ∙ same_Some (node_renamed rename n) y e

      at : (k : ℕ) (x y : Node Call) → slice_get there k ≡ Some x → slice_get (map (node_renamed rename) here) k ≡ Some y → x ≡ y
      at k x y p q = by k x y (slice_get here k) refl p (sym (slice_get-map (node_renamed rename) here k) ∙ q)

  pub ends_same : others ≡ ends
  ends_same = one_name (order_of nodes roots) (order_once nodes roots) others ends roots (subst (λ o. StandFor o others roots) same_order h.roots_stand) g.roots_stand

-- ---- what is declared of a problem
module _ {rename : List ℕ → List ℕ} (is : IsRenaming rename) where
  variable_kept : (name : List ℕ) (call : Call) → is_variable (rename name) (call_renamed rename call) ≡ is_variable name call
  variable_kept name (calls.Variable v) = same_renamed is name v.name
  variable_kept name (calls.Parameter p) = refl
  variable_kept name (calls.Constant a) = refl
  variable_kept name (calls.Atom a) = refl
  variable_kept name (calls.Linear l) = refl
  variable_kept name (calls.Pairing p) = refl

  parameter_kept : (name : List ℕ) (call : Call) → is_parameter (rename name) (call_renamed rename call) ≡ is_parameter name call
  parameter_kept name (calls.Variable v) = refl
  parameter_kept name (calls.Parameter p) = same_renamed is name p.name
  parameter_kept name (calls.Constant a) = refl
  parameter_kept name (calls.Atom a) = refl
  parameter_kept name (calls.Linear l) = refl
  parameter_kept name (calls.Pairing p) = refl

  variables_renamed : (tree : List (Node Call)) (vs : List Variable) →
      filter (λ v. has_variable (map (node_renamed rename) tree) v.name) (map (variable_renamed rename) vs) ≡ map (variable_renamed rename) (filter (λ v. has_variable tree v.name) vs)
  variables_renamed tree vs =
      filter_changed (variable_renamed rename) (λ v. has_variable tree v.name) (λ v. has_variable (map (node_renamed rename) tree) v.name)
      (λ v. any_changed (node_renamed rename) (λ n. is_variable v.name n.call) (λ n. is_variable (rename v.name) n.call) (λ n. variable_kept v.name n.call) tree) vs

  parameters_renamed : (tree : List (Node Call)) (ps : List Parameter) →
      filter (λ p. has_parameter (map (node_renamed rename) tree) p.name) (map (parameter_renamed rename) ps) ≡ map (parameter_renamed rename) (filter (λ p. has_parameter tree p.name) ps)
  parameters_renamed tree ps =
      filter_changed (parameter_renamed rename) (λ p. has_parameter tree p.name) (λ p. has_parameter (map (node_renamed rename) tree) p.name)
      (λ p. any_changed (node_renamed rename) (λ n. is_parameter p.name n.call) (λ n. is_parameter (rename p.name) n.call) (λ n. parameter_kept p.name n.call) tree) ps

  -- ---- problems
  problem_renamed : (s : State) (q : Asked) (p r : Problem) → IsProblemOf s.nodes (roots_in s q) p
      → IsProblemOf (map (node_renamed rename) s.nodes) (roots_in (state_renamed rename s) q) r → IsRenamedProblem rename p r
  problem_renamed s q p r g h =
      let trees : r.tree ≡ map (node_renamed rename) p.tree = tree_renamed rename s.nodes (positions_of (roots_in s q)) p.tree r.tree _ _ g.nodes h.nodes in
      let ends : roots_of r.objective r.constraints ≡ roots_of p.objective p.constraints = ends_same rename s.nodes (positions_of (roots_in s q)) p.tree r.tree _ _ g.nodes h.nodes in
      let first : r.objective.0 ≡ p.objective.0 = cc in
      let rest : sides_in r.constraints ≡ sides_in p.constraints = cc in
      record {
        tree = trees;
        variables =
            h.variables ∙ ap (λ (t : List (Node Call)). filter (λ (v : Variable). has_variable t v.name) (map (variable_renamed rename) s.variables)) trees
            ∙ variables_renamed p.tree s.variables ∙ ap (map (variable_renamed rename)) (sym g.variables);
        parameters =
            h.parameters ∙ ap (λ (t : List (Node Call)). filter (λ (v : Parameter). has_parameter t v.name) (map (parameter_renamed rename) s.parameters)) trees
            ∙ parameters_renamed p.tree s.parameters ∙ ap (map (parameter_renamed rename)) (sym g.parameters);
        sense = h.sense ∙ sym g.sense;
        objective = λ i. record { 0 = first i };
        objective_place = h.objective_place ∙ sym g.objective_place;
        constraints = one_constraints r.constraints p.constraints (h.demands ∙ sym g.demands) rest;
      }

  -- ---- settings
  events_renamed : (last : Pairs) (es : List Pairs) → events_or_end (entries_renamed rename last) (map (entries_renamed rename) es) ≡ map (entries_renamed rename) (events_or_end last es)
  events_renamed last [] = refl
  events_renamed last (e ∷ es) = refl

  pub work_renamed : (s : State) (q : Asked) (v w : Work) → IsWork s q v → IsWork (state_renamed rename s) q w → IsRenamedWork rename v w
  work_renamed s q v w g h = record {
    problem = problem_renamed s q v.problem w.problem g.problem h.problem;
    events = h.events ∙ ap (λ l. events_or_end l (map (entries_renamed rename) s.events)) (standing_renamed is s) ∙ events_renamed (standing_setting s) s.events
        ∙ ap (map (entries_renamed rename)) (sym g.events);
    last = h.last ∙ standing_renamed is s ∙ ap (entries_renamed rename) (sym g.last);
  }

  pub works_renamed : (script other : Script) → script_view other ≡ lines_renamed rename (script_view script) → (v w : Work) → Elaborates (Ok v) script
      → Elaborates (Ok w) other → IsRenamedWork rename v w
  works_renamed script other e v w (s, (q, (m, g))) (t, (r, (n, h))) =
      let same = meaning_one (meaning (script_view other)) t (state_renamed rename s) r q n (ap meaning e ∙ meaning_follows rename is (script_view script) ∙ ap (meaning_renamed rename) m) in
      work_renamed s q v w g (subst (λ (x : State). IsWork x q w) same.0 (subst (λ (y : Asked). IsWork t y w) same.1 h))
