-- A run of nodes has one end.
use Rattle.std.proofs.Common.{◌≡◌, ◌⊎◌, inl, inr, ℕ, suc, ◌<◌, ◌≤◌, arith, List, [], ◌∷◌, length, Option, Some, None, slice_get, Ok, Err, refl, sym, ap, ap₂, ◌∙◌, subst}
use Rattle.std.specs.Prelude.{ℤ}
use Rattle.std.proofs.Math.Path.{fun_ext}
use Rattle.std.proofs.lemmas.Bool.{cases_order}
use Rattle.std.proofs.lemmas.Option.{none-some, same_Some}
use Rattle.dcx_math.specs.Rational.{ℚ}
use Rattle.dcx_math.proofs.Orders.{<ℚ-not}
use Rattle.dcx_frac.specs.declared.fraction.Frac.{Frac}
use Rattle.dcx_frac.specs.declared.fraction.Passes.{Passes}
use Rattle.dcx_frac.specs.Frac.{value}
use Rattle.dcx_point.specs.Pairs.{Pairs}
use Rattle.dcx_tree.specs.declared.problem.Problem.{Problem}
use Rattle.dcx_answer.specs.declared.stop.Stop.{Stop}
use Rattle.dcx_answer.specs.declared.stop.Stop.TheVariants as why
use Rattle.dcx_answer.specs.declared.site.Site.TheVariants as sites
use Rattle.dcx_linear.specs.FormTerms.{Unknowns}
use Rattle.dcx_tab.specs.declared.program.Program as tab
use Rattle.dcx_lp_answer.specs.declared.answer.LpAnswer.{LpAnswer}
use Rattle.dcx_lp_answer.specs.declared.answer.LpStatus.{LpStatus}
use Rattle.dcx_lp_answer.specs.declared.answer.LpStatus.TheVariants as status
use Rattle.dcx_lp_solve.specs.declared.solving.Solved.{Solved}
use Rattle.dcx_lp_solve.proofs.OneSolution as rows
use Rattle.dcx_unknowns.specs.Unknowns.{point_at}
use Rattle.dcx_postsolve.specs.Points.{numbered}
use Rattle.dcx_graph.specs.Program.{Program}
use Rattle.dcx_graph.specs.Answers.{IsSamePoint}
use Rattle.dcx_right.specs.Boxes.{Box, root_box}
use Rattle.dcx_branch.specs.declared.place.Place.{Place}
use Rattle.dcx_answer.specs.declared.branch_tree.BranchNode.{BranchNode}
use Rattle.dcx_answer.specs.declared.whole_answer.WholeAnswer.TheVariants.{Optimal, Infeasible}
use Rattle.dcx_answer.specs.declared.whole_answer.BranchStop.TheVariants.{RelaxationUnbounded, NodeLimit, Node, Memory}
use Rattle.dcx_branch.specs.Places.{places}
use Rattle.dcx_branch.specs.Rows.{node_rows}
use Rattle.dcx_branch.specs.Between.{IsBetween}
use Rattle.dcx_branch.specs.Leaves.{first_passing}
use Rattle.dcx_lp_solve.specs.Stops.{run_stop}
use Rattle.dcx_branch.specs.Run.{Best, State, start, best_value, IsPruned, IsBetter, AreWhole, IsFirstSplit, unknowns_in, Turn, Cut, Found, Divided, TurnsOut}
use Rattle.dcx_branch.specs.Run.{after, IsLeafTurn, bounds_in, IsNode, leaf_passing, FormsLeaf, Steps, Reaches, here, next, Ends, Takes, no_node, one_node}
use Rattle.dcx_branch.specs.Run.{EndsWith, PassesNodes, FallsAtRoot, NodeStops, at_rows, at_leaf, StopsAtNode}
use Rattle.dcx_branch.specs.Answers.{IsPointAt, EndsAt, RunsAreOne}
use Rattle.dcx_branch.proofs.Between.{one_between, between_not_whole}

-- ---- a node turns out to be one thing
pruned_better : (best : Option ℚ) (v : ℚ) → IsPruned best v → IsBetter best v → ⊥
pruned_better None v h k = h
pruned_better (Some b) v h k = <ℚ-not k h

split_not_whole : (ps : List Place) (x : Unknowns) (place : Place) (n : ℤ) → AreWhole ps x → IsFirstSplit ps x place n → ⊥
split_not_whole ps x place n h k = let (m, e) = h k.position place k.there in between_not_whole n m (x place.unknown) k.between e

earlier : (ps : List Place) (x : Unknowns) (a b : Place) (m n : ℤ) (h : IsFirstSplit ps x a m) (k : IsFirstSplit ps x b n) → h.position < k.position → ⊥
earlier ps x a b m n h k l = let (z, e) = k.before h.position a l h.there in between_not_whole m z (x a.unknown) h.between e

same_place : (ps : List Place) (x : Unknowns) (a b : Place) (m n : ℤ) → IsFirstSplit ps x a m → IsFirstSplit ps x b n → a ≡ b
same_place ps x a b m n h k = by (cases_order h.position k.position)
  where
    by : (h.position ≡ k.position) ⊎ ((h.position < k.position) ⊎ (k.position < h.position)) → a ≡ b
    by (inl e) = same_Some a b (sym h.there ∙ ap (slice_get ps) e ∙ k.there)
    by (inr (inl l)) = absurd (earlier ps x a b m n h k l)
    by (inr (inr l)) = absurd (earlier ps x b a n m k h l)

same_limit : (ps : List Place) (x : Unknowns) (a b : Place) (m n : ℤ) → a ≡ b → IsFirstSplit ps x a m → IsFirstSplit ps x b n → m ≡ n
same_limit ps x a b m n e h k = one_between m n (x b.unknown) (subst (λ (q : Place). IsBetween (x q.unknown) m) e h.between) k.between

infeasible_optimal : (s : LpStatus) → s ≡ status.Infeasible → s ≡ status.Optimal → ⊥
infeasible_optimal s h k = cc

unbounded_optimal : (s : LpStatus) → s ≡ status.Unbounded → s ≡ status.Optimal → ⊥
unbounded_optimal s h k = cc

unbounded_infeasible : (s : LpStatus) → s ≡ status.Unbounded → s ≡ status.Infeasible → ⊥
unbounded_infeasible s h k = cc

cut_not_better : (best : Option ℚ) (a : LpAnswer) → (a.status ≡ status.Infeasible) ⊎ ((a.status ≡ status.Optimal) × IsPruned best (value a.number)) → a.status ≡ status.Optimal
    → IsBetter best (value a.number) → ⊥
cut_not_better best a (inl h) o b = infeasible_optimal a.status h o
cut_not_better best a (inr h) o b = pruned_better best (value a.number) h.1 b

pub one_turn : (ps : List Place) (best : Option ℚ) (program : tab.Program) (a : LpAnswer) (t u : Turn) → TurnsOut ps best program a t → TurnsOut ps best program a u → t ≡ u
one_turn ps best program a Cut Cut h k = refl
one_turn ps best program a Cut Found h k = absurd (cut_not_better best a h k.0 k.1)
one_turn ps best program a Cut (Divided q n) h k = absurd (cut_not_better best a h k.0 k.1)
one_turn ps best program a Found Cut h k = absurd (cut_not_better best a k h.0 h.1)
one_turn ps best program a Found Found h k = refl
one_turn ps best program a Found (Divided q n) h k = absurd (split_not_whole ps (unknowns_in program a) q n h.2 k.2)
one_turn ps best program a (Divided p m) Cut h k = absurd (cut_not_better best a k h.0 h.1)
one_turn ps best program a (Divided p m) Found h k = absurd (split_not_whole ps (unknowns_in program a) p m k.2 h.2)
one_turn ps best program a (Divided p m) (Divided q n) h k =
    let e = same_place ps (unknowns_in program a) p q m n h.2 k.2 in
    ap₂ Divided e (same_limit ps (unknowns_in program a) p q m n e h.2 k.2)

-- a node that falls without end turns out to be nothing
falls_not : (ps : List Place) (best : Option ℚ) (program : tab.Program) (a : LpAnswer) (t : Turn) → a.status ≡ status.Unbounded → TurnsOut ps best program a t → ⊥
falls_not ps best program a Cut u (inl h) = unbounded_infeasible a.status u h
falls_not ps best program a Cut u (inr h) = unbounded_optimal a.status u h.0
falls_not ps best program a Found u h = unbounded_optimal a.status u h.0
falls_not ps best program a (Divided q n) u h = unbounded_optimal a.status u h.0

after_same : (box other : Box) (rest others : List Box) (best : Option Best) (taken : ℕ) (p q : tab.Program) (a b : LpAnswer) (t u : Turn) → box ≡ other → rest ≡ others → p ≡ q → a ≡ b → t ≡ u →
    after box rest best taken p a t ≡ after other others best taken q b u
after_same box other rest others best taken p q a b t u e f g h k =
    ap (λ x. after x rest best taken p a t) e
    ∙ ap (λ x. after other x best taken p a t) f
    ∙ ap (λ x. after other others best taken x a t) g
    ∙ ap (λ x. after other others best taken q x t) h
    ∙ ap (λ x. after other others best taken q b x) k

after_taken : (box : Box) (rest : List Box) (best : Option Best) (taken : ℕ) (p : tab.Program) (a : LpAnswer) (t : Turn) → (after box rest best taken p a t).taken ≡ suc taken
after_taken box rest best taken p a Cut = refl
after_taken box rest best taken p a Found = refl
after_taken box rest best taken p a (Divided q n) = refl

pub heads : (box other : Box) (rest others : List Box) → box ∷ rest ≡ other ∷ others → box ≡ other
heads box other rest others e = cc

pub tails : (box other : Box) (rest others : List Box) → box ∷ rest ≡ other ∷ others → rest ≡ others
tails box other rest others e = cc

pub none_open : (box : Box) (rest : List Box) → [] ≡ box ∷ rest → ⊥
none_open box rest e = cc

module _ (p : Problem) (q : Program Frac) (limit : ℕ) where
  -- ---- steps
  turn_there : (box : Box) (best : Option ℚ) (s t : Solved) (turn : Turn) → IsNode p q limit box s → IsNode p q limit box t → TurnsOut (places p.variables) best t.program t.answer turn
      → TurnsOut (places p.variables) best s.program s.answer turn
  turn_there box best s t turn h k turns =
      let same = rows.answers_are_one limit (node_rows q (bounds_in p box)) s t h k in
      subst (λ (a : LpAnswer). TurnsOut (places p.variables) best s.program a turn) (sym same.answer)
      (subst (λ (r : tab.Program). TurnsOut (places p.variables) best r t.answer turn) (sym same.program) turns)

  pub one_step : (a b c : State) → Steps p q limit a b → Steps p q limit a c → b ≡ c
  one_step a b c h k =
      let boxes = sym h.first ∙ k.first in
      let box = heads h.box k.box h.rest k.rest boxes in
      let node = subst (λ (x : Box). IsNode p q limit x k.solved) (sym box) k.node in
      let same = rows.answers_are_one limit (node_rows q (bounds_in p h.box)) h.solved k.solved h.node node in
      let turn = one_turn (places p.variables) (best_value a.best) h.solved.program h.solved.answer h.turn k.turn h.turns
      (turn_there h.box (best_value a.best) h.solved k.solved k.turn h.node node k.turns) in
      h.next
      ∙ after_same h.box k.box h.rest k.rest a.best a.taken h.solved.program k.solved.program h.solved.answer k.solved.answer h.turn k.turn box
      (tails h.box k.box h.rest k.rest boxes) same.program same.answer turn
      ∙ sym k.next

  step_taken : (a b : State) → Steps p q limit a b → b.taken ≡ suc a.taken
  step_taken a b h = ap (λ (s : State). s.taken) h.next ∙ after_taken h.box h.rest a.best a.taken h.solved.program h.solved.answer h.turn

  -- ---- reaching
  -- nothing or a first step
  record IsFirst (a c : State) : Type 0 where
    second : State
    step : Steps p q limit a second
    later : Reaches p q limit second c

  first : (a c : State) → Reaches p q limit a c → (a ≡ c) ⊎ IsFirst a c
  first a c (here _) = inl refl
  first a c (next _ b _ r s) = elim (first a b r) [
    | inl e ↦ inr (record { second = c; step = subst (λ x. Steps p q limit x c) (sym e) s; later = here c })
    | inr f ↦ inr (record { second = f.second; step = f.step; later = next f.second b c f.later s })
  ]

  follow : (a b c : State) → Reaches p q limit a b → Steps p q limit a c → Reaches p q limit b c ⊎ Reaches p q limit c b
  follow a b c r s = elim (first a b r) [
    | inl e ↦ inl (next b b c (here b) (subst (λ x. Steps p q limit x c) e s))
    | inr f ↦ inr (subst (λ x. Reaches p q limit x b) (one_step a f.second c f.step s) f.later)
  ]

  pub either : (a b c : State) → Reaches p q limit a b → Reaches p q limit a c → Reaches p q limit b c ⊎ Reaches p q limit c b
  either a b c r (here _) = inr r
  either a b c r (next _ d _ t s) = elim (either a b d r t) [
    | inl h ↦ inl (next b d c h s)
    | inr h ↦ follow d b c h s
  ]

  pub taken_rises : (a c : State) → Reaches p q limit a c → a.taken ≤ c.taken
  taken_rises a c (here _) = omega arith
  taken_rises a c (next _ b _ r s) =
      let before = taken_rises a b r in
      let now = step_taken b c s in
      omega arith

  -- a run whose nodes are listed comes to its state
  pub reaches : (a : State) (nodes : List BranchNode) → Takes p q limit a nodes → Reaches p q limit (start p) a
  reaches _ _ no_node = here (start p)
  reaches b _ (one_node a _ nodes node before step is) = next (start p) a b (reaches a nodes before) step

  ended_by : (best : Option Best) (nodes : ℕ) (tree : List BranchNode) → EndsWith p q limit best nodes tree → Ends p q limit best nodes
  ended_by best nodes tree h = reaches (record { open_boxes = []; best = best; taken = nodes }) tree h

  -- ---- ends
  -- no step leads on
  abbrev IsLast : State → Type 0
  IsLast a = (b : State) → Steps p q limit a b → ⊥

  stays : (a c : State) → IsLast a → Reaches p q limit a c → a ≡ c
  stays a c h r = elim (first a c r) [ inl e ↦ e | inr f ↦ absurd (h f.second f.step) ]

  same_end : (a b : State) → IsLast a → IsLast b → Reaches p q limit (start p) a → Reaches p q limit (start p) b → a ≡ b
  same_end a b h k r s = elim (either (start p) a b r s) [ inl t ↦ stays a b h t | inr t ↦ sym (stays b a k t) ]

  -- a state with an open box, and a last one with fewer nodes or none open
  passes_not : (box : Box) (rest : List Box) (best : Option Best) (nodes : ℕ) (c : State) → Reaches p q limit (start p) (record { open_boxes = box ∷ rest; best = best; taken = nodes }) →
      Reaches p q limit (start p) c → IsLast c → (c.open_boxes ≡ []) ⊎ (c.taken < nodes) → c.taken ≤ nodes → ⊥
  passes_not box rest best nodes c r s last ends few = by (either (start p) now c r s)
    where
      now : State
      now = record { open_boxes = box ∷ rest; best = best; taken = nodes }

      clash : (c ≡ now) → ⊥
      clash e = elim ends [
        | inl none ↦ none_open box rest (sym none ∙ ap (λ (x : State). x.open_boxes) e)
        | inr less ↦ let same = ap (λ (x : State). x.taken) e in omega arith
      ]

      on : IsFirst now c → ⊥
      on f =
          let rise = taken_rises f.second c f.later in
          let one = step_taken now f.second f.step in
          omega arith

      by : Reaches p q limit now c ⊎ Reaches p q limit c now → ⊥
      by (inl t) = elim (first now c t) [ inl e ↦ clash (sym e) | inr f ↦ on f ]
      by (inr t) = clash (stays c now last t)

  -- the states at which a run ends or stops
  ended_last : (best : Option Best) (nodes : ℕ) → IsLast (record { open_boxes = []; best = best; taken = nodes })
  ended_last best nodes b s = none_open s.box s.rest s.first

  falls_last : FallsAtRoot p q limit → IsLast (start p)
  falls_last f b s =
      let box = heads (root_box p) s.box [] s.rest s.first in
      let node = subst (λ (x : Box). IsNode p q limit x s.solved) (sym box) s.node in
      falls_not (places p.variables) None f.solved.program f.solved.answer s.turn f.unbounded (turn_there (root_box p) None f.solved s.solved s.turn f.node node s.turns)

  -- a leaf with a multiplier that passes doesn't form them all
  leaf_not : (box : Box) (s : Solved) (turn : Turn) (row : ℕ) (passes : Passes) → IsLeafTurn turn → leaf_passing p q limit box s ≡ Some (row, passes) → FormsLeaf p q limit box s turn → ⊥
  leaf_not box s Cut row passes h e f = none-some (row, passes) (sym f ∙ e)
  leaf_not box s Found row passes h e f = none-some (row, passes) (sym f ∙ e)
  leaf_not box s (Divided k n) row passes h e f = h

  passing_same : (box : Box) (s t : Solved) → IsNode p q limit box s → IsNode p q limit box t → leaf_passing p q limit box s ≡ leaf_passing p q limit box t
  passing_same box s t h k =
      let same = rows.answers_are_one limit (node_rows q (bounds_in p box)) s t h k in
      ap (λ (a : LpAnswer). first_passing p a (length q.rows) (bounds_in p box)) same.answer

  node_last : (box : Box) (rest : List Box) (best : Option Best) (taken : ℕ) (stop : Stop) → NodeStops p q limit (bounds_in p box) (best_value best) stop
      → IsLast (record { open_boxes = box ∷ rest; best = best; taken = taken })
  node_last box rest best taken stop (at_rows e some stops is) b s =
      let same = heads box s.box rest s.rest s.first in
      let node = subst (λ (x : Box). IsNode p q limit x s.solved) (sym same) s.node in
      some (rows.solved_or_stopped limit (node_rows q (bounds_in p box)) s.solved e node stops)
  node_last box rest best taken stop (at_leaf t turn row passes node turns leaf first_one is) b s =
      let same = heads box s.box rest s.rest s.first in
      let there = subst (λ (x : Box). IsNode p q limit x s.solved) (sym same) s.node in
      let one = one_turn (places p.variables) (best_value best) t.program t.answer turn s.turn turns (turn_there box (best_value best) t s.solved s.turn node there s.turns) in
      let forms = subst (λ (x : Box). FormsLeaf p q limit x s.solved s.turn) (sym same) s.forms in
      leaf_not box s.solved s.turn row passes (subst IsLeafTurn one leaf) (sym (passing_same box t s.solved node there) ∙ first_one) forms

  -- a node has one stop
  one_stop : (box : Box) (best : Option ℚ) (a b : Stop) → NodeStops p q limit (bounds_in p box) best a → NodeStops p q limit (bounds_in p box) best b → a ≡ b
  one_stop box best a b (at_rows e n h is) (at_rows f m k it) = is ∙ ap run_stop (rows.stops_are_one limit (node_rows q (bounds_in p box)) e f h k n m) ∙ sym it
  one_stop box best a b (at_rows e n h is) (at_leaf t turn row passes node turns leaf first_one it) = absurd (n (rows.solved_or_stopped limit (node_rows q (bounds_in p box)) t e node h))
  one_stop box best a b (at_leaf t turn row passes node turns leaf first_one it) (at_rows e n h is) = absurd (n (rows.solved_or_stopped limit (node_rows q (bounds_in p box)) t e node h))
  one_stop box best a b (at_leaf s turn row passes node turns leaf first_one is) (at_leaf t other line others there ways end first_two it) =
      let same : (row, passes) ≡ (line, others) = same_Some (row, passes) (line, others) (sym first_one ∙ passing_same box s t node there ∙ first_two) in
      is ∙ ap (λ x. why.Wide (sites.Answer x.0 x.1)) same ∙ sym it

  -- ---- points
  same_point : (u v : Unknowns) (x y : Pairs) → u ≡ v → IsPointAt p u x → IsPointAt p v y → IsSamePoint p x y
  same_point u v x y e h k =
      let same : numbered h.numbers ≡ numbered k.numbers = fun_ext (λ n. h.are n ∙ ap (λ (w : Unknowns). w n) e ∙ sym (k.are n)) in
      record {
        names = h.of_variables.names ∙ sym k.of_variables.names;
        numbers = λ i w at j. h.of_variables.numbers i w at j ∙ ap (λ (z : Unknowns). point_at p.variables z i j) same ∙ sym (k.of_variables.numbers i w at j);
      }

  -- ---- one end of the run
  module _ (allowed : ℕ) where
    -- the last state of a run that ends or stops, but for the limit of nodes
    record HasLast (c : State) : Type 0 where
      reached : Reaches p q limit (start p) c
      last : IsLast c
      few : c.taken ≤ allowed
      ends : (c.open_boxes ≡ []) ⊎ (c.taken < allowed)

    ended : (best : Option Best) (nodes : ℕ) → nodes ≤ allowed → Ends p q limit best nodes → HasLast (record { open_boxes = []; best = best; taken = nodes })
    ended best nodes few h = record { reached = h; last = ended_last best nodes; few = few; ends = inl refl }

    falls : 0 < allowed → FallsAtRoot p q limit → HasLast (start p)
    falls some f = record { reached = here (start p); last = falls_last f; few = omega arith; ends = inr some }

    stopped : (node : ℕ) (stop : Stop) → node ≤ allowed → (h : StopsAtNode p q limit node stop) → HasLast (record { open_boxes = h.box ∷ h.rest; best = h.best; taken = h.taken })
    stopped node stop few h =
        let number = h.number in
        record { reached = h.reached; last = node_last h.box h.rest h.best h.taken stop h.stops; few = omega arith; ends = inr (omega arith) }

    not_passing : (c : State) → HasLast c → PassesNodes p q limit allowed → ⊥
    not_passing c h k = passes_not k.box k.rest k.best allowed c k.reached h.reached h.last h.ends h.few

    same_last : (a b : State) → HasLast a → HasLast b → a ≡ b
    same_last a b h k = same_end a b h.last k.last h.reached k.reached

    -- where no box is open
    closed_falls : (best : Option Best) (nodes : ℕ) → nodes ≤ allowed → Ends p q limit best nodes → 0 < allowed → FallsAtRoot p q limit → ⊥
    closed_falls best nodes few h some f =
        none_open (root_box p) [] (ap (λ (x : State). x.open_boxes) (same_last (record { open_boxes = []; best = best; taken = nodes }) (start p) (ended best nodes few h) (falls some f)))

    closed_stops : (best : Option Best) (nodes node : ℕ) (stop : Stop) → nodes ≤ allowed → Ends p q limit best nodes → node ≤ allowed → StopsAtNode p q limit node stop → ⊥
    closed_stops best nodes node stop few h less k =
        none_open k.box k.rest
        (ap (λ (x : State). x.open_boxes) (same_last (record { open_boxes = []; best = best; taken = nodes }) (record { open_boxes = k.box ∷ k.rest; best = k.best; taken = k.taken })
        (ended best nodes few h) (stopped node stop less k)))

    closed_passes : (best : Option Best) (nodes : ℕ) → nodes ≤ allowed → Ends p q limit best nodes → PassesNodes p q limit allowed → ⊥
    closed_passes best nodes few h k = not_passing (record { open_boxes = []; best = best; taken = nodes }) (ended best nodes few h) k

    closed_same : (best other : Option Best) (nodes count : ℕ) → nodes ≤ allowed → count ≤ allowed → Ends p q limit best nodes → Ends p q limit other count → (best ≡ other) × (nodes ≡ count)
    closed_same best other nodes count few less h k =
        let same = same_last (record { open_boxes = []; best = best; taken = nodes }) (record { open_boxes = []; best = other; taken = count }) (ended best nodes few h) (ended other count less k) in
        (ap (λ (x : State). x.best) same, ap (λ (x : State). x.taken) same)

    -- a run that falls at its root has no node that stops
    falls_stops : 0 < allowed → FallsAtRoot p q limit → (node : ℕ) (stop : Stop) → node ≤ allowed → StopsAtNode p q limit node stop → ⊥
    falls_stops some f node stop less k =
        let same = same_last (start p) (record { open_boxes = k.box ∷ k.rest; best = k.best; taken = k.taken }) (falls some f) (stopped node stop less k) in
        let box = heads (root_box p) k.box [] k.rest (ap (λ (x : State). x.open_boxes) same) in
        not_both k.box (best_value k.best) stop f.solved (subst (λ (x : Box). IsNode p q limit x f.solved) box f.node) f.unbounded k.stops
      where
        not_both : (box : Box) (best : Option ℚ) (stop : Stop) (s : Solved) → IsNode p q limit box s → s.answer.status ≡ status.Unbounded → NodeStops p q limit (bounds_in p box) best stop → ⊥
        not_both box best stop s node u (at_rows e n h is) = n (rows.solved_or_stopped limit (node_rows q (bounds_in p box)) s e node h)
        not_both box best stop s node u (at_leaf t turn row passes there turns leaf first_one is) =
            falls_not (places p.variables) best s.program s.answer turn u (turn_there box best s t turn node there turns)

    stops_same : (node other : ℕ) (stop second : Stop) → node ≤ allowed → other ≤ allowed → StopsAtNode p q limit node stop → StopsAtNode p q limit other second → Node node stop ≡ Node other second
    stops_same node other stop second few less h k =
        let same = same_last (record { open_boxes = h.box ∷ h.rest; best = h.best; taken = h.taken }) (record { open_boxes = k.box ∷ k.rest; best = k.best; taken = k.taken })
        (stopped node stop few h) (stopped other second less k) in
        let box = heads h.box k.box h.rest k.rest (ap (λ (x : State). x.open_boxes) same) in
        let best = ap (λ (x : State). best_value x.best) same in
        let here_too = subst (λ (x : Box). NodeStops p q limit (bounds_in p x) (best_value k.best) second) (sym box) k.stops in
        let there = subst (λ (x : Option ℚ). NodeStops p q limit (bounds_in p h.box) x second) (sym best) here_too in
        ap₂ Node (h.number ∙ ap (λ (x : State). suc x.taken) same ∙ sym k.number) (one_stop h.box (best_value h.best) stop second h.stops there)

    stops_passes : (node : ℕ) (stop : Stop) → node ≤ allowed → StopsAtNode p q limit node stop → PassesNodes p q limit allowed → ⊥
    stops_passes node stop few h k = not_passing (record { open_boxes = h.box ∷ h.rest; best = h.best; taken = h.taken }) (stopped node stop few h) k

    some_same : (a b : Best) → ◌≡◌ {A = Option Best} (Some a) (Some b) → a ≡ b
    some_same a b e = same_Some a b e

    optimal_same : (v w : Frac) (x y : Pairs) (t u : List BranchNode) (nodes count : ℕ) → nodes ≤ allowed → count ≤ allowed → EndsAt p q limit v x t nodes → EndsAt p q limit w y u count →
        (value v ≡ value w) × IsSamePoint p x y × (nodes ≡ count)
    optimal_same v w x y t u nodes count few less h k =
        let same = closed_same (Some h.best) (Some k.best) nodes count few less (ended_by (Some h.best) nodes t h.ends) (ended_by (Some k.best) count u k.ends) in
        let best = some_same h.best k.best same.0 in
        (h.number_is ∙ ap (λ (b : Best). b.value) best ∙ sym k.number_is, same_point h.best.unknowns k.best.unknowns x y (ap (λ (b : Best). b.unknowns) best) h.point_is k.point_is, same.1)

pub runs_are_one : RunsAreOne
runs_are_one p q limit allowed (Ok (Optimal v x t n)) (Ok (Optimal w y u m)) h k = optimal_same p q limit allowed v w x y t u n m h.0 k.0 h.1 k.1
runs_are_one p q limit allowed (Ok (Optimal v x t n)) (Ok (Infeasible u m)) h k = none-some h.1.best
    (sym (closed_same p q limit allowed (Some h.1.best) None n m h.0 k.0 (ended_by p q limit (Some h.1.best) n t h.1.ends) (ended_by p q limit None m u k.1)).0)
runs_are_one p q limit allowed (Ok (Infeasible t n)) (Ok (Optimal w y u m)) h k = none-some k.1.best (closed_same p q limit allowed None (Some k.1.best) n m h.0 k.0
    (ended_by p q limit None n t h.1) (ended_by p q limit (Some k.1.best) m u k.1.ends)).0
runs_are_one p q limit allowed (Ok (Infeasible t n)) (Ok (Infeasible u m)) h k = (closed_same p q limit allowed None None n m h.0 k.0 (ended_by p q limit None n t h.1)
    (ended_by p q limit None m u k.1)).1
runs_are_one p q limit allowed (Ok (Optimal v x t n)) (Err RelaxationUnbounded) h k = absurd (closed_falls p q limit allowed (Some h.1.best) n h.0
    (ended_by p q limit (Some h.1.best) n t h.1.ends) k.0 k.1)
runs_are_one p q limit allowed (Ok (Optimal v x t n)) (Err (NodeLimit c)) h k = absurd (closed_passes p q limit allowed (Some h.1.best) n h.0 (ended_by p q limit (Some h.1.best) n t h.1.ends) k.1)
runs_are_one p q limit allowed (Ok (Optimal v x t n)) (Err (Node m stop)) h k = absurd (closed_stops p q limit allowed (Some h.1.best) n m stop h.0
    (ended_by p q limit (Some h.1.best) n t h.1.ends) k.0 k.1)
runs_are_one p q limit allowed (Ok (Optimal v x t n)) (Err Memory) h k = refl
runs_are_one p q limit allowed (Ok (Infeasible t n)) (Err RelaxationUnbounded) h k = absurd (closed_falls p q limit allowed None n h.0 (ended_by p q limit None n t h.1) k.0 k.1)
runs_are_one p q limit allowed (Ok (Infeasible t n)) (Err (NodeLimit c)) h k = absurd (closed_passes p q limit allowed None n h.0 (ended_by p q limit None n t h.1) k.1)
runs_are_one p q limit allowed (Ok (Infeasible t n)) (Err (Node m stop)) h k = absurd (closed_stops p q limit allowed None n m stop h.0 (ended_by p q limit None n t h.1) k.0 k.1)
runs_are_one p q limit allowed (Ok (Infeasible t n)) (Err Memory) h k = refl
runs_are_one p q limit allowed (Err RelaxationUnbounded) (Ok (Optimal v x t n)) h k = absurd (closed_falls p q limit allowed (Some k.1.best) n k.0
    (ended_by p q limit (Some k.1.best) n t k.1.ends) h.0 h.1)
runs_are_one p q limit allowed (Err (NodeLimit c)) (Ok (Optimal v x t n)) h k = absurd (closed_passes p q limit allowed (Some k.1.best) n k.0 (ended_by p q limit (Some k.1.best) n t k.1.ends) h.1)
runs_are_one p q limit allowed (Err (Node m stop)) (Ok (Optimal v x t n)) h k = absurd (closed_stops p q limit allowed (Some k.1.best) n m stop k.0
    (ended_by p q limit (Some k.1.best) n t k.1.ends) h.0 h.1)
runs_are_one p q limit allowed (Err Memory) (Ok (Optimal v x t n)) h k = refl
runs_are_one p q limit allowed (Err RelaxationUnbounded) (Ok (Infeasible t n)) h k = absurd (closed_falls p q limit allowed None n k.0 (ended_by p q limit None n t k.1) h.0 h.1)
runs_are_one p q limit allowed (Err (NodeLimit c)) (Ok (Infeasible t n)) h k = absurd (closed_passes p q limit allowed None n k.0 (ended_by p q limit None n t k.1) h.1)
runs_are_one p q limit allowed (Err (Node m stop)) (Ok (Infeasible t n)) h k = absurd (closed_stops p q limit allowed None n m stop k.0 (ended_by p q limit None n t k.1) h.0 h.1)
runs_are_one p q limit allowed (Err Memory) (Ok (Infeasible t n)) h k = refl
runs_are_one p q limit allowed (Err RelaxationUnbounded) (Err RelaxationUnbounded) h k = λ a b. refl
runs_are_one p q limit allowed (Err RelaxationUnbounded) (Err (NodeLimit c)) h k = λ a b. absurd (not_passing p q limit allowed (start p) (falls p q limit allowed h.0 h.1) k.1)
runs_are_one p q limit allowed (Err RelaxationUnbounded) (Err (Node m stop)) h k = λ a b. absurd (falls_stops p q limit allowed h.0 h.1 m stop k.0 k.1)
runs_are_one p q limit allowed (Err (NodeLimit c)) (Err RelaxationUnbounded) h k = λ a b. absurd (not_passing p q limit allowed (start p) (falls p q limit allowed k.0 k.1) h.1)
runs_are_one p q limit allowed (Err (NodeLimit c)) (Err (NodeLimit d)) h k = λ a b. ap NodeLimit (h.0 ∙ sym k.0)
runs_are_one p q limit allowed (Err (NodeLimit c)) (Err (Node m stop)) h k = λ a b. absurd (stops_passes p q limit allowed m stop k.0 k.1 h.1)
runs_are_one p q limit allowed (Err (Node n stop)) (Err RelaxationUnbounded) h k = λ a b. absurd (falls_stops p q limit allowed k.0 k.1 n stop h.0 h.1)
runs_are_one p q limit allowed (Err (Node n stop)) (Err (NodeLimit d)) h k = λ a b. absurd (stops_passes p q limit allowed n stop h.0 h.1 k.1)
runs_are_one p q limit allowed (Err (Node n stop)) (Err (Node m second)) h k = λ a b. stops_same p q limit allowed n m stop second h.0 k.0 h.1 k.1
runs_are_one p q limit allowed (Err Memory) (Err e) h k = λ a b. absurd (a refl)
runs_are_one p q limit allowed (Err RelaxationUnbounded) (Err Memory) h k = λ a b. absurd (b refl)
runs_are_one p q limit allowed (Err (NodeLimit c)) (Err Memory) h k = λ a b. absurd (b refl)
runs_are_one p q limit allowed (Err (Node n stop)) (Err Memory) h k = λ a b. absurd (b refl)
