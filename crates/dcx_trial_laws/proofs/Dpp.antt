-- What a trial asks at its end: something that the rules take, also where parameters are affine.
use Rattle.std.proofs.Common.{◌≡◌, ℕ, nat_eq, Bool, true, codes, List, [], ◌∷◌, map, Some, None, IsTrue, is_none, Ok, refl, ap, subst, sym, ◌∙◌, slice_get}
use Rattle.std.specs.List.{list_all}
use Rattle.std.proofs.lemmas.Bool.{and_from}
use Rattle.std.proofs.lemmas.Option.{same_Some}
use Rattle.dcx_shape.specs.Sides.{entries_of}
use Rattle.dcx_shape.specs.declared.place.Place.{Place}
use Rattle.dcx_arena.specs.Nodes.{sides_at}
use Rattle.dcx_arena.specs.Gather.{order_of}
use Rattle.dcx_arena.specs.Unfold.{Unfold}
use Rattle.dcx_arena.proofs.Unfolds.{unfolds_here}
use Rattle.dcx_convex.specs.Rules.{Parametrized, Judgement, judgement_at}
use Rattle.dcx_convex.specs.Problems as convex_problems
use Rattle.dcx_convex.specs.Problems.{may_be_objective, may_be_sides, accepted_by}
use Rattle.dcx_convex.proofs.Dpp.{dpp_is_accepted}
use Rattle.dcx_tree.specs.declared.constraint.Constraint.{Constraint}
use Rattle.dcx_tree.specs.declared.problem.Problem.{Problem}
use Rattle.dcx_tree.specs.Gather.{IsProblemOf, positions_of, demand_of}
use Rattle.dcx_tree.specs.Meaning.{sense_of, convex_constraint, names_in, convex_problem, IsDpp}
use Rattle.dcx_tree.specs.declared.constraint.Sense.TheVariants.{Minimize}
use Rattle.dcx_syntax.specs.declared.tree.Module.TheVariants.{Cvxpy, Numpy}
use Rattle.dcx_syntax.specs.declared.tree.Script.{Script}
use Rattle.dcx_syntax.specs.Statements.{no_lines}
use Rattle.dcx_syntax.specs.View.{script_view}
use Rattle.dcx_script_values.specs.declared.fault.ElabFault.TheVariants.{BadArgument, ShapeClash, TwoProblems}
use Rattle.dcx_script_values.specs.Values.{Value, library, objective as objective_value, problem, Asked, State, done}
use Rattle.dcx_script_state.specs.Declarations.{start, may_be_asked}
use Rattle.dcx_script_state.specs.Ends.{roots_in}
use Rattle.dcx_signature.specs.declared.table.Function.TheVariants as functions
use Rattle.dcx_signature.specs.Table.{row}
use Rattle.dcx_signature.specs.Arguments.{matched, bound_of}
use Rattle.dcx_functions.specs.Calls.{perform}
use Rattle.dcx_elab.specs.declared.work.Work.{Work}
use Rattle.dcx_elab.specs.Meaning.{Elaborates}
use Rattle.dcx_elab.specs.Expressions.{expr_means}
use Rattle.dcx_elab.specs.Statements.{line_means, lines_mean}
use Rattle.dcx_trial.specs.Trial.{places, heights}
use Rattle.dcx_trial_laws.specs.Tree.{place_at, named_at, called_at, one_arg, import_line, array_line, variable_line, parameter_line, objective, problem_line, trial_tree}
use Rattle.dcx_trial_laws.proofs.Acts.{Gives, ok-gives, unless-then}
use Rattle.dcx_trial_laws.proofs.Calls.{given_of, one_call-gives, expr_of-gives, stepped, import-gives, assign-gives}
use Rattle.dcx_trial_laws.proofs.Judged.{told}
use Rattle.dcx_trial_laws.proofs.Grades.{IsEnd}
use Rattle.dcx_trial_laws.proofs.Later.{later-from, later_is_carried}
use Rattle.dcx_trial_laws.proofs.Graded.{Knows, Graded, of-graded}
use Rattle.dcx_trial_laws.proofs.Minimizes.{from_numpy, from_t, from_b, from_s, from_a, from_q, from_problem, minimized, asked_of, then-line, carried_out}
use Rattle.dcx_trial_laws.proofs.Declared.{bound_more, HasFirst, HasSecond, HasThird, HasFourth, HasFifth, HasSixth, HasAll, third-line, fourth-line, fifth-line, sixth-line, seventh-line}
use Rattle.dcx_trial_laws.proofs.Objective.{found, here-later, objective-gives}

-- ---- the problem
-- something that the rules take is to be minimized
record IsToMinimize (v : Value) (s : State) : Type 0 where
  node : ℕ
  place : Place
  same : v ≡ objective_value Minimize node place
  knows : Knows IsEnd s node

-- this is asked, under no constraint
record AsksWell (s : State) : Type 0 where
  asks : Asked
  asked : s.asked ≡ Some asks
  least : asks.sense ≡ Minimize
  alone : asks.constraints ≡ []
  knows : Knows IsEnd s asks.objective

minimized-gives : (s : State) → HasAll s → Gives IsToMinimize (expr_means minimized s)
minimized-gives s h =
    expr_of-gives IsToMinimize (called_at (codes "cp") (codes "Minimize") 8 19 30 (one_arg objective)) s
    (one_call-gives (Graded IsEnd) IsToMinimize None (codes "cp") (codes "Minimize") 8 19 30 objective s Cvxpy functions.Minimize
    (found h.a h.b h.i h.j h.k (codes "cp") s h.all) refl (objective-gives h.a h.b h.i h.j h.k s h.all)
    (λ v t g. of-graded IsEnd IsToMinimize v (λ w. perform None functions.Minimize place (bound_of (matched (row functions.Minimize) (given_of objective w ∷ [])))) t g (λ n known.
    unless-then IsToMinimize (ShapeClash place) (nat_eq (entries_of (sides_at t.nodes n)) 1) t (λ _. done (objective_value Minimize n place))
    (ok-gives IsToMinimize (objective_value Minimize n place) t (record { node = n; place = place; same = refl; knows = known })))))
  where
    place : Place
    place = place_at 8 19

problem_line-gives : (s : State) → HasAll s → Gives (λ _ t. AsksWell t) (line_means problem_line s)
problem_line-gives s h =
    assign-gives (λ _ t. AsksWell t) AsksWell (named_at (codes "prob") 8 1) (called_at (codes "cp") (codes "Problem") 8 8 18 (one_arg minimized)) s
    (one_call-gives IsToMinimize (λ _ t. AsksWell t) (Some (codes "prob")) (codes "cp") (codes "Problem") 8 8 18 minimized (stepped s) Cvxpy functions.Problem
    (found h.a h.b h.i h.j h.k (codes "cp") s h.all) refl (minimized-gives (stepped s) (all-stepped h))
    (λ v t m. subst (λ w. Gives (λ _ u. AsksWell u) (perform (Some (codes "prob")) functions.Problem place (bound_of (matched (row functions.Problem) (given_of minimized w ∷ []))) t)) (sym m.same)
    (problem-gives m.node m.place t m.knows)))
    (λ v t p. record { asks = p.asks; asked = p.asked; least = p.least; alone = p.alone; knows = record { judgement = p.knows.judgement; grade = p.knows.grade; stands = p.knows.stands } })
  where
    all-stepped : HasAll s → HasAll (stepped s)
    all-stepped h = record { a = h.a; b = h.b; i = h.i; j = h.j; k = h.k; all = here-later h.a h.b h.i h.j h.k s (stepped s) (later_is_carried.others s s (stepped s) (later-from s) refl refl) h.all }

    place : Place
    place = place_at 8 8

    problem-gives : (n : ℕ) (p : Place) (t : State) → Knows IsEnd t n
        → Gives (λ _ u. AsksWell u) (perform (Some (codes "prob")) functions.Problem place (bound_of (matched (row functions.Problem) (given_of minimized (objective_value Minimize n p) ∷ []))) t)
    problem-gives n p t known =
        unless-then (λ _ u. AsksWell u) (BadArgument place) (may_be_asked t.nodes (asked_of n p)) t _
        (unless-then (λ _ u. AsksWell u) (TwoProblems place) (is_none t.asked) t _
        (ok-gives (λ _ u. AsksWell u) problem (record t { asked = Some (asked_of n p) })
        (record { asks = asked_of n p; asked = refl; least = refl; alone = refl; knows = record { judgement = known.judgement; grade = known.grade; stands = known.stands } })))

asks_well : (size : ℕ) → Gives (λ _ t. AsksWell t) (lines_mean (trial_tree size) start)
unfolding trial_tree
asks_well size =
    then-line HasFirst AsksWell (import_line Cvxpy (codes "cp") 1) (from_numpy size) start (import-gives HasFirst Cvxpy (codes "cp") 1 start refl) (λ s1 h1.
    then-line HasSecond AsksWell (import_line Numpy (codes "np") 2) (from_t size) s1 (import-gives HasSecond Numpy (codes "np") 2 s1
    (bound_more (codes "np") (library Numpy) (library Numpy) s1.names ((codes "cp", library Cvxpy) ∷ []) refl h1)) (λ s2 h2.
    then-line HasThird AsksWell (array_line (codes "t") 3 (places size)) (from_b size) s2 (third-line (places size) s2 h2) (λ s3 h3.
    then-line HasFourth AsksWell (array_line (codes "b") 4 (heights size)) from_s s3 (fourth-line (heights size) s3 h3) (λ s4 h4.
    then-line HasFifth AsksWell (variable_line (codes "s") 5) from_a s4 (fifth-line s4 h4) (λ s5 h5.
    then-line HasSixth AsksWell (variable_line (codes "a") 6) from_q s5 (sixth-line s5 h5) (λ s6 h6.
    then-line HasAll AsksWell parameter_line from_problem s6 (seventh-line s6 h6) (λ s7 h7.
    then-line AsksWell AsksWell problem_line no_lines s7 (problem_line-gives s7 h7) (λ s8 h8. ok-gives (λ _ t. AsksWell t) tt s8 h8))))))))

-- ---- the law
no_demands : (cs : List Constraint) → map demand_of cs ≡ [] → cs ≡ []
no_demands [] e = refl
no_demands (c ∷ cs) e = absurd cc

-- the problem of such an objective alone
module _ (s : State) (q : Asked) (p : Problem) (of : IsProblemOf s.nodes (roots_in s q) p) (least : q.sense ≡ Minimize) (alone : q.constraints ≡ []) (k : Knows IsEnd s q.objective) where
  abbrev order : List ℕ
  order = order_of s.nodes (positions_of (roots_in s q))

  root : slice_get order p.objective.0 ≡ Some q.objective
  root = let stand = of.nodes.roots_stand in cc

  here : Unfold p.tree (p.objective.0 ∷ []) k.stands.tree
  here =
      unfolds_here s.nodes p.tree order of.nodes.count of.nodes.renamed k.stands.tree (p.objective.0 ∷ []) (q.objective ∷ []) (ap (λ x. x ∷ []) root) k.stands.unfolds

  abbrev told_of_objective : Judgement
  told_of_objective = judgement_at Parametrized (convex_problem p).nodes p.objective.0

  is_told : told_of_objective ≡ k.judgement
  is_told = let all = told (names_in p) p.tree p.nodes (p.objective.0 ∷ []) k.stands.tree here ∙ k.stands.judged in cc

  convex : (g : Judgement) → IsEnd g → g.convex ≡ true
  convex g (σ, f, u, v, e) = ap (λ (h : Judgement). h.convex) e

  minimizes : p.sense ≡ Minimize
  minimizes = of.sense ∙ least

  none : p.constraints ≡ []
  none = no_demands p.constraints (of.demands ∙ ap (map demand_of) alone)

  abbrev stands : convex_problems.Constraint → Bool
  stands c = may_be_sides c.relation (judgement_at Parametrized (convex_problem p).nodes c.left) (judgement_at Parametrized (convex_problem p).nodes c.right)

  taken : IsTrue (accepted_by Parametrized (convex_problem p))
  taken =
      and_from (may_be_objective (sense_of p.sense) told_of_objective) (list_all stands (map convex_constraint p.constraints))
      (subst (λ z. IsTrue (may_be_objective (sense_of z) told_of_objective)) (sym minimizes) (ap (λ (h : Judgement). h.convex) is_told ∙ convex k.judgement k.grade))
      (subst (λ cs. IsTrue (list_all stands (map convex_constraint cs))) (sym none) refl)

  is_dpp : IsDpp p
  is_dpp = (dpp_is_accepted (convex_problem p) taken, taken)

-- a problem that a script of this tree stands for is accepted
pub trials_accepted : (size : ℕ) (script : Script) → script_view script ≡ trial_tree size → (work : Work) → Elaborates (Ok work) script → IsDpp work.problem
trials_accepted size script is work (s, (q, (means, from))) =
    let (ran, own) = carried_out (lines_mean (script_view script) start) s q means in
    let w = (asks_well size).at tt s (ap (λ ls. lines_mean ls start) (sym is) ∙ ran) in
    let same : q ≡ w.asks = same_Some q w.asks (sym own ∙ w.asked) in
    is_dpp s q work.problem from.problem (ap (λ (x : Asked). x.sense) same ∙ w.least) (ap (λ (x : Asked). x.constraints) same ∙ w.alone)
    (subst (λ (x : Asked). Knows IsEnd s x.objective) (sym same) w.knows)
