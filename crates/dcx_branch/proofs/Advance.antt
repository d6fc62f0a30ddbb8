-- One node more: a search that is under way is so after it, and it ends and stops as the run does.
use Rattle.std.proofs.Common.{◌≡◌, ◌≢◌, inl, inr, ℕ, suc, ◌+◌, ◌≤◌, arith, Bool, true, false, List, [], ◌∷◌, ◌++◌, length, Option, Some, None, Ok, Err, refl, sym, ap, ◌∙◌, subst, add-one}
use Rattle.std.specs.Prelude.{ℤ, pos, ◌+ℤ◌}
use Rattle.dcx_math.specs.Rational.{ℚ}
use Rattle.dcx_frac.specs.declared.fraction.Frac.{Frac}
use Rattle.dcx_frac.specs.Frac.{value}
use Rattle.dcx_convex.specs.Nodes.{Setting}
use Rattle.dcx_tree.specs.declared.problem.Problem.{Problem}
use Rattle.dcx_answer.specs.declared.stop.Stop.{Stop}
use Rattle.dcx_answer.specs.declared.stop.Stop.TheVariants as why
use Rattle.dcx_answer.specs.declared.site.Site.{Site}
use Rattle.dcx_answer.specs.declared.site.Site.TheVariants as sites
use Rattle.dcx_lp_solve.specs.declared.solving.Solved.{Solved}
use Rattle.dcx_lp_solve.specs.declared.stop.SolveStop.{SolveStop}
use Rattle.dcx_lp_solve.specs.declared.stop.SolveStop.TheVariants as solves
use Rattle.dcx_graph.specs.Program.{Program}
use Rattle.dcx_graph.specs.Answers.{IsReducedAt}
use Rattle.dcx_right.specs.Boxes.{Box, root_box, at_most, at_least}
use Rattle.dcx_branch.specs.declared.place.Place.{Place}
use Rattle.dcx_branch.specs.declared.bound.BoundAt.{BoundAt}
use Rattle.dcx_branch.specs.declared.side.Side.{Side}
use Rattle.dcx_answer.specs.declared.branch_tree.BranchNode.{BranchNode}
use Rattle.dcx_answer.specs.declared.branch_tree.BranchNode.TheVariants.{Split}
use Rattle.dcx_branch.specs.declared.node.Taken.{Taken}
use Rattle.dcx_branch.specs.declared.node.Taken.TheVariants as taken
use Rattle.dcx_branch.specs.declared.node.NodeStop.{NodeStop}
use Rattle.dcx_branch.specs.declared.node.NodeStop.TheVariants as stops
use Rattle.dcx_answer.specs.declared.whole_answer.BranchStop.{BranchStop}
use Rattle.dcx_answer.specs.declared.whole_answer.BranchStop.TheVariants.{RelaxationUnbounded, NodeLimit, Node, Memory}
use Rattle.dcx_branch.specs.declared.search.Best as code
use Rattle.dcx_branch.specs.declared.search.Search.{Search}
use Rattle.dcx_branch.specs.Places.{places}
use Rattle.dcx_branch.specs.Sides.{box_of, open_sides, box_bounds, IsNextSide}
use Rattle.dcx_lp_solve.specs.Stops.{run_stop}
use Rattle.dcx_branch.specs.Run.{Best, State, start, best_value, unknowns_in, Turn, Cut, Found, Divided, TurnsOut, after, bounds_in, IsNode, FormsLeaf}
use Rattle.dcx_branch.specs.Run.{IsListed, Takes, no_node, one_node, EndsWith, Reaches, FallsAtRoot, NodeStops, at_rows, at_leaf}
use Rattle.dcx_branch.specs.Answers.{IsEndOf}
use Rattle.dcx_branch.specs.Taken.{IsSolvedWith, IsTaken, TakenAs, FallsAt, StopsTaking}
use Rattle.dcx_branch.specs.Searches.{HoldsBest, IsUnderWay, IsAt, IsDone, IsAtOrDone, node_of, best_after, AddsSide, Enters, answer_of, found_value, node_stop, StopsNext}
use Rattle.dcx_branch.proofs.Boxes.{open_split}
use Rattle.dcx_branch.proofs.Found.{sides_bounds}
use Rattle.dcx_branch.proofs.Formed.{leaf_forms}
use Rattle.dcx_branch.proofs.OneRun.{heads, none_open, reaches}
use Rattle.dcx_branch.proofs.Floors.{never_falls}
use Rattle.dcx_branch.proofs.Turns.{falls}
use Rattle.dcx_branch.proofs.Right.{IsSound, sound}

-- ---- the best point
found_best : (p : Problem) (best : Option Best) (found : Option code.Best) → HoldsBest p best found → found_value found ≡ best_value best
found_best p None None h = refl
found_best p None (Some f) h = absurd h
found_best p (Some b) None h = absurd h
found_best p (Some b) (Some f) h = ap Some h.number_is

-- ---- stops
-- the stop of the node with this number
abbrev pub stop_after : ℕ → NodeStop → BranchStop
stop_after n stops.Unbounded = RelaxationUnbounded
stop_after n (stops.Stop stop) = node_stop n stop

stop_is : (n : ℕ) (stop : Stop) → stop ≢ why.Memory → node_stop n stop ≡ Node n stop
stop_is n (why.UnknownParam name) some = refl
stop_is n (why.MissingParam name) some = refl
stop_is n (why.ParamShape name declared given) some = refl
stop_is n (why.ParamSign name entry number) some = refl
stop_is n (why.TooLarge rows columns) some = refl
stop_is n (why.ZeroDivisor node entry) some = refl
stop_is n (why.Wide site) some = refl
stop_is n (why.PivotLimit count) some = refl
stop_is n why.Memory some = absurd (some refl)

rows_memory : (e : SolveStop) → run_stop e ≡ why.Memory → e ≡ solves.Memory
rows_memory (solves.TooLarge rows columns) h = absurd (cc)
rows_memory (solves.Wide site) h = absurd (cc)
rows_memory (solves.PivotLimit count) h = absurd (cc)
rows_memory solves.Memory h = refl

wide_memory : (site : Site) → why.Wide site ≡ why.Memory → ⊥
wide_memory site h = cc

-- what stops a node isn't want of memory
stops_some : (p : Problem) (q : Program Frac) (limit : ℕ) (bs : List BoundAt) (best : Option ℚ) (stop : Stop) → NodeStops p q limit bs best stop → stop ≢ why.Memory
stops_some p q limit bs best stop (at_rows e some h is) = λ m. some (rows_memory e (sym is ∙ m))
stops_some p q limit bs best stop (at_leaf t turn row passes node turns leaf first_one is) = λ m. wide_memory (sites.Answer row passes) (sym is ∙ m)

module _ (p : Problem) (q : Program Frac) (limit : ℕ) where
  -- ---- one node more
  module _ (old new : Search) (at : IsAt p q limit old) where
    abbrev front : Box
    front = box_of (root_box p) old.sides.items

    abbrev rest : List Box
    rest = open_sides (root_box p) old.sides.items

    abbrev before : State
    before = record { open_boxes = box_of (root_box p) old.sides.items ∷ open_sides (root_box p) old.sides.items; best = at.best; taken = old.taken }

    -- the search after a node, with these boxes open and this best point
    under_way : (t : Taken) (more : Bool) → Enters old t more new → (boxes : List Box) (best : Option Best)
        → Takes p q limit (record { open_boxes = boxes; best = best; taken = suc old.taken }) (old.nodes.items ++ node_of t ∷ []) →
        HoldsBest p best (best_after old.best t) → IsUnderWay p q limit boxes new
    under_way t more enters boxes best comes held =
        let count : suc old.taken ≡ new.taken = sym (enters.count ∙ add-one old.taken) in
        record {
          best = best;
          comes = subst (λ n. Takes p q limit (record { open_boxes = boxes; best = best; taken = n }) new.nodes.items) count
              (subst (Takes p q limit (record { open_boxes = boxes; best = best; taken = suc old.taken })) (sym enters.nodes) comes);
          held = subst (HoldsBest p best) (sym enters.best) held;
        }

    -- the next open side
    next_boxes : (more : Bool) → IsNextSide old.sides.items more new.sides.items → IsUnderWay p q limit rest new → IsAtOrDone p q limit more new
    next_boxes true e h = subst (λ boxes. IsUnderWay p q limit boxes new) (e (root_box p)) h
    next_boxes false e h = subst (λ boxes. IsUnderWay p q limit boxes new) (e (root_box p)) h

    -- the lower side of a split
    split_boxes : (place : Place) (n : ℤ) (adds : AddsSide place n old.sides.items new.sides.items) →
        IsUnderWay p q limit (at_most front place.variable place.entry n ∷ at_least front place.variable place.entry (n +ℤ pos 1) ∷ rest) new → IsAt p q limit new
    split_boxes place n adds h =
        let d = adds.side in
        let split = open_split (root_box p) old.sides.items d adds.below in
        let there = subst (λ (b : Place). IsUnderWay p q limit (at_most front b.variable b.entry n ∷ at_least front b.variable b.entry (n +ℤ pos 1) ∷ rest) new) (sym adds.place_is) h in
        let limited = subst (λ m. IsUnderWay p q limit (at_most front d.place.variable d.place.entry m ∷ at_least front d.place.variable d.place.entry (m +ℤ pos 1) ∷ rest) new)
        (sym adds.limit_is) there in
        let joined = subst (λ boxes. IsUnderWay p q limit boxes new) (sym split) limited in
        subst (λ sides. IsUnderWay p q limit (box_of (root_box p) sides ∷ open_sides (root_box p) sides) new) (sym adds.added) joined

    module _ (solved : Solved) (node : IsSolvedWith q limit (bounds_in p (box_of (root_box p) old.sides.items)) solved) where
      step : (turn : Turn) (listed : BranchNode) → TurnsOut (places p.variables) (best_value at.best) solved.program solved.answer turn → FormsLeaf p q limit front solved turn
          → IsListed p q front solved turn listed →
          Takes p q limit (after front rest at.best old.taken solved.program solved.answer turn) (old.nodes.items ++ listed ∷ [])
      step turn listed turns forms is =
          one_node before (after front rest at.best old.taken solved.program solved.answer turn) old.nodes.items listed at.comes
          (record { box = front; rest = rest; first = refl; solved = solved; known = node.known; node = node.solved; turn = turn; turns = turns; forms = forms; next = refl }) is

      entered : (t : Taken) → IsTaken p (length q.rows) (bounds_in p front) (best_value at.best) solved t → (more : Bool) → Enters old t more new → IsAtOrDone p q limit more new
      entered (taken.Leaf leaf) is more enters =
          let forms = leaf_forms p solved.answer (length q.rows) (bounds_in p front) leaf is.1 in
          next_boxes more enters.sides (under_way (taken.Leaf leaf) more enters rest at.best (step Cut leaf is.0 forms is.1) at.held)
      entered (taken.Best leaf number point) is more enters =
          let forms = leaf_forms p solved.answer (length q.rows) (bounds_in p front) leaf is.1 in
          let best : Best = record { value = value solved.answer.number; unknowns = unknowns_in solved.program solved.answer } in
          next_boxes more enters.sides
          (under_way (taken.Best leaf number point) more enters rest (Some best) (step Found leaf is.0 forms is.1) (record { number_is = ap value is.2; point_is = is.3 }))
      entered (taken.Split place n) is more enters =
          let lower = at_most front place.variable place.entry n in
          let upper = at_least front place.variable place.entry (n +ℤ pos 1) in
          subst (λ (m : Bool). IsAtOrDone p q limit m new) (sym enters.sides.0)
          (split_boxes place n enters.sides.1
          (under_way (taken.Split place n) more enters (lower ∷ upper ∷ rest) at.best (step (Divided place n) (Split place.variable place.entry n) is.0 tt refl) at.held))

    pub advanced : (t : Taken) → TakenAs p q limit (box_bounds (places p.variables) old.sides.items) (found_value old.best) t → (more : Bool) → Enters old t more new → IsAtOrDone p q limit more new
    advanced t h more enters =
        let there = subst (λ (cs : List BoundAt). TakenAs p q limit cs (found_value old.best) t) (sides_bounds p old.sides.items) h in
        let now = subst (λ (b : Option ℚ). TakenAs p q limit (bounds_in p front) b t) (found_best p at.best old.best at.held) there in
        entered now.solved now.node t now.is more enters

  -- ---- stops
  module _ (s : Setting) (given : IsReducedAt p s q) (old : Search) (at : IsAt p q limit old) where
    known : IsSound p s q (record { open_boxes = box_of (root_box p) old.sides.items ∷ open_sides (root_box p) old.sides.items; best = at.best; taken = old.taken }) old.nodes.items
    known = sound p s q limit given _ old.nodes.items at.comes

    falls_at_root : FallsAt p q limit (bounds_in p (box_of (root_box p) old.sides.items)) (best_value at.best) → FallsAtRoot p q limit
    falls_at_root f =
        let first = box_of (root_box p) old.sides.items in
        let others = open_sides (root_box p) old.sides.items in
        elim known.placed [
          | inl e ↦ record { solved = f.solved; node = subst (λ (b : Box). IsNode p q limit b f.solved) (heads first (root_box p) others [] e) f.node.solved; unbounded = f.unbounded }
          | inr h ↦ elim h [
            | inl e ↦ absurd (none_open first others (sym e))
            | inr floor ↦ absurd (never_falls p q floor first (known.nested 0 first refl) _ _ _ _
                (falls p s q limit given first (known.fits 0 first refl) f.solved f.node.known f.node.solved f.unbounded))
          ]
        ]

    pub stopped : (qs : List Place) (ds : List Side) (best : Option ℚ) → qs ≡ places p.variables → ds ≡ old.sides.items → best ≡ found_value old.best → (e : NodeStop)
        → StopsTaking p q limit (box_bounds qs ds) best e
        → StopsNext p q limit old.taken (stop_after (old.taken + 1) e)
    stopped qs ds best same_places same_sides same_best e h =
        let listed = subst (λ (xs : List Place). StopsTaking p q limit (box_bounds xs ds) best e) same_places h in
        let sided = subst (λ (xs : List Side). StopsTaking p q limit (box_bounds (places p.variables) xs) best e) same_sides listed in
        let valued = subst (λ (b : Option ℚ). StopsTaking p q limit (box_bounds (places p.variables) old.sides.items) b e) same_best sided in
        let there = subst (λ (cs : List BoundAt). StopsTaking p q limit cs (found_value old.best) e) (sides_bounds p old.sides.items) valued in
        let now = subst (λ (b : Option ℚ). StopsTaking p q limit (bounds_in p (box_of (root_box p) old.sides.items)) b e) (found_best p at.best old.best at.held) there in
        by e now
      where
        by : (e : NodeStop) → StopsTaking p q limit (bounds_in p (box_of (root_box p) old.sides.items)) (best_value at.best) e → StopsNext p q limit old.taken (stop_after (old.taken + 1) e)
        by stops.Unbounded f = falls_at_root f
        by (stops.Stop stop) (inl e) = subst (λ (t : Stop). StopsNext p q limit old.taken (node_stop (old.taken + 1) t)) (sym e) tt
        by (stops.Stop stop) (inr h) =
            subst (StopsNext p q limit old.taken) (sym (stop_is (old.taken + 1) stop (stops_some p q limit (bounds_in p (box_of (root_box p) old.sides.items)) (best_value at.best) stop h))) (
              add-one old.taken,
              record {
                box = box_of (root_box p) old.sides.items;
                rest = open_sides (root_box p) old.sides.items;
                best = at.best;
                taken = old.taken;
                number = add-one old.taken;
                reached = reaches p q limit _ old.nodes.items at.comes;
                stops = h;
              },
            )

-- ---- the begin and the end
module _ (p : Problem) (q : Program Frac) (limit : ℕ) where
  -- no node is taken yet
  pub begun : (search : Search) → search.sides.items ≡ [] → search.nodes.items ≡ [] → search.best ≡ None → search.taken ≡ 0 → IsAt p q limit search
  begun search sides nodes best count =
      let first : IsUnderWay p q limit (root_box p ∷ []) search = record {
        best = None;
        comes = subst (λ n. Takes p q limit (record { open_boxes = root_box p ∷ []; best = None; taken = n }) search.nodes.items) (sym count) (subst (Takes p q limit (start p)) (sym nodes) no_node);
        held = subst (HoldsBest p None) (sym best) tt;
      } in
      subst (λ (ds : List Side). IsUnderWay p q limit (box_of (root_box p) ds ∷ open_sides (root_box p) ds) search) (sym sides) first

  -- where no box is open the run ends so
  end_by : (best : Option Best) (found : Option code.Best) (listed : List BranchNode) (count allowed : ℕ) → HoldsBest p best found → count ≤ allowed → EndsWith p q limit best count listed →
      IsEndOf p q limit allowed (Ok (answer_of found listed count))
  end_by None None listed count allowed held few h = (few, h)
  end_by None (Some f) listed count allowed held few h = absurd held
  end_by (Some b) None listed count allowed held few h = absurd held
  end_by (Some b) (Some f) listed count allowed held few h = (few, record { best = b; ends = h; number_is = held.number_is; point_is = held.point_is })

  pub done_ends : (search : Search) (allowed : ℕ) → search.taken ≤ allowed → IsDone p q limit search → IsEndOf p q limit allowed (Ok (answer_of search.best search.nodes.items search.taken))
  done_ends search allowed few h = end_by h.best search.best search.nodes.items search.taken allowed h.held few h.comes

  -- a run that stops at the node that is next, or at the limit
  pub next_ends : (count allowed : ℕ) (e : BranchStop) → count + 1 ≤ allowed → StopsNext p q limit count e → IsEndOf p q limit allowed (Err e)
  next_ends count allowed RelaxationUnbounded few h = (omega arith, h)
  next_ends count allowed (NodeLimit most) few h = absurd h
  next_ends count allowed (Node node stop) few h = let number = h.0 in (omega arith, h.1)
  next_ends count allowed Memory few h = tt

  pub limit_ends : (search : Search) (allowed : ℕ) → search.taken ≡ allowed → IsAt p q limit search → IsEndOf p q limit allowed (Err (NodeLimit allowed))
  limit_ends search allowed same h = (
    refl,
    record {
      box = box_of (root_box p) search.sides.items;
      rest = open_sides (root_box p) search.sides.items;
      best = h.best;
      reached = subst (λ n. Reaches p q limit (start p)
          (record { open_boxes = box_of (root_box p) search.sides.items ∷ open_sides (root_box p) search.sides.items; best = h.best; taken = n })) same
          (reaches p q limit _ search.nodes.items h.comes);
    },
  )
