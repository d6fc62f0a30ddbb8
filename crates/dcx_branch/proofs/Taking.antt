-- What one node turns out to be: how its parts make it.
use Rattle.std.proofs.Common.{◌≡◌, ◌⊎◌, inl, inr, ℕ, suc, ◌+◌, ◌<◌, ◌≤◌, arith, List, [], ◌∷◌, length, map, Option, Some, slice_get, Result, Ok, Err, IfErr, refl, sym, ap, ◌∙◌, subst}
use Rattle.std.proofs.Math.Path.{fun_ext}
use Rattle.std.proofs.lemmas.Bool.{cases_lt}
use Rattle.std.proofs.lemmas.List.{length-map}
use Rattle.std.proofs.lemmas.Option.{same_Some, slice_get_within}
use Rattle.dcx_math.specs.Rational.{ℚ}
use Rattle.dcx_math.specs.Sums.{rat_at}
use Rattle.dcx_frac.specs.declared.fraction.Frac.{Frac}
use Rattle.dcx_frac.specs.Frac.{value}
use Rattle.dcx_tree.specs.declared.problem.Problem.{Problem}
use Rattle.dcx_answer.specs.declared.stop.Stop.{Stop}
use Rattle.dcx_answer.specs.declared.stop.Stop.TheVariants as why
use Rattle.dcx_answer.specs.declared.site.Site.TheVariants as sites
use Rattle.dcx_linear.specs.declared.row.UnknownKind.{UnknownKind}
use Rattle.dcx_linear.specs.FormTerms.{Unknowns}
use Rattle.dcx_linear.specs.Size.{columns_for}
use Rattle.dcx_tab.specs.declared.program.Program as tab
use Rattle.dcx_lp_answer.specs.declared.answer.LpAnswer.{LpAnswer}
use Rattle.dcx_lp_solve.specs.declared.solving.Solved.{Solved}
use Rattle.dcx_lp_solve.specs.declared.stop.SolveStop.{SolveStop}
use Rattle.dcx_lp_solve.specs.declared.stop.SolveStop.TheVariants as solves
use Rattle.dcx_lp_solve.specs.Solved.{Stops as RowsStop}
use Rattle.dcx_postsolve.specs.Numbers.{numbers_from, unknown_numbers}
use Rattle.dcx_postsolve.specs.Points.{numbered}
use Rattle.dcx_graph.specs.Program.{Program}
use Rattle.dcx_right.specs.Points.{IsWhole}
use Rattle.dcx_branch.specs.declared.place.Place.{Place}
use Rattle.dcx_branch.specs.declared.bound.BoundAt.{BoundAt}
use Rattle.dcx_answer.specs.declared.branch_tree.BranchNode.{BranchNode}
use Rattle.dcx_branch.specs.declared.node.Taken.{Taken}
use Rattle.dcx_branch.specs.declared.node.NodeStop.{NodeStop}
use Rattle.dcx_branch.specs.declared.node.NodeStop.TheVariants as stops
use Rattle.dcx_branch.specs.Places.{places}
use Rattle.dcx_branch.specs.Rows.{node_rows}
use Rattle.dcx_branch.specs.Leaves.{StopsLeaf}
use Rattle.dcx_lp_solve.specs.Stops.{run_stop}
use Rattle.dcx_branch.specs.Run.{Turn, TurnsOut, IsLeafTurn, unknowns_in, NodeStops, at_rows, at_leaf}
use Rattle.dcx_branch.specs.Taken.{IsSolvedWith, TellsUnknowns, made_leaf, IsTaken, PassesLeaf, StopsJudging, TakenAs, StopsTaking}

-- ---- entries that are whole
-- one entry more is whole
pub whole_more : (ps : List Place) (x : Unknowns) (n : ℕ) (q : Place) → slice_get ps n ≡ Some q → IsWhole (x q.unknown)
    → ((i : ℕ) (p : Place) → i < n → slice_get ps i ≡ Some p → IsWhole (x p.unknown))
    → (i : ℕ) (p : Place) → i < n + 1 → slice_get ps i ≡ Some p → IsWhole (x p.unknown)
whole_more ps x n q there whole before i p lt at = by (cases_lt i n)
  where
    by : (i < n) ⊎ (n ≤ i) → IsWhole (x p.unknown)
    by (inl l) = before i p l at
    by (inr g) =
        let same : n ≡ i = omega arith in
        let place : q ≡ p = same_Some q p (sym there ∙ ap (slice_get ps) same ∙ at) in
        subst (λ (a : Place). IsWhole (x a.unknown)) place whole

pub whole_all : (ps : List Place) (x : Unknowns) (n : ℕ) → length ps ≤ n → ((i : ℕ) (p : Place) → i < n → slice_get ps i ≡ Some p → IsWhole (x p.unknown)) → (i : ℕ) (p : Place)
    → slice_get ps i ≡ Some p → IsWhole (x p.unknown)
whole_all ps x n few before i p at = let l = slice_get_within ps i p at in before i p (omega (arith, l, few)) at

-- ---- numbers of unknowns
numbers_length : (zs : List ℚ) (j : ℕ) (kinds : List UnknownKind) → length (numbers_from zs j kinds) ≡ length kinds
numbers_length zs j [] = refl
numbers_length zs j (kind ∷ kinds) = ap suc (numbers_length zs (j + columns_for kind) kinds)

pub numbers_count : (kinds : List UnknownKind) (zs : List ℚ) (numbers : List Frac) → map value numbers ≡ unknown_numbers kinds zs → length numbers ≡ length kinds
numbers_count kinds zs numbers e = sym (length-map numbers value) ∙ ap length e ∙ numbers_length zs 0 kinds

pub same_numbers : (kinds : List UnknownKind) (program : tab.Program) (a : LpAnswer) (numbers : List Frac) → map value numbers ≡ unknown_numbers kinds (map value a.columns)
    → TellsUnknowns kinds program a
    → numbered numbers ≡ unknowns_in program a
same_numbers kinds program a numbers e t = fun_ext (λ u. ap (λ zs. rat_at zs u) e ∙ t.same u)

-- ---- stops of leaves
module _ (p : Problem) (first : ℕ) (bs : List BoundAt) (best : Option ℚ) (s : Solved) (turn : Turn) (turns : TurnsOut (places p.variables) best s.program s.answer turn) (leaf : IsLeafTurn turn) where
  -- a multiplier that passes stops the leaf
  pub leaf_stops : (stop : Stop) → StopsLeaf p s.answer first bs stop → (stop ≡ why.Memory) ⊎ PassesLeaf p first bs best s stop
  leaf_stops (why.UnknownParam name) h = absurd h
  leaf_stops (why.MissingParam name) h = absurd h
  leaf_stops (why.ParamShape name declared given) h = absurd h
  leaf_stops (why.ParamSign name entry number) h = absurd h
  leaf_stops (why.TooLarge rows columns) h = absurd h
  leaf_stops (why.ZeroDivisor node entry) h = absurd h
  leaf_stops (why.Wide (sites.Node node entry passes)) h = absurd h
  leaf_stops (why.Wide (sites.Row row passes)) h = absurd h
  leaf_stops (why.Wide (sites.Map row passes)) h = absurd h
  leaf_stops (why.Wide (sites.Pivot pivots row column)) h = absurd h
  leaf_stops (why.Wide (sites.Answer row passes)) h = inr (record { turn = turn; turns = turns; leaf = leaf; row = row; passes = passes; first_one = h; is = refl })
  leaf_stops (why.PivotLimit count) h = absurd h
  leaf_stops why.Memory h = inl refl

  -- so it stops what is made of the leaf
  made_by : (made : Result BranchNode Stop) → IfErr made (StopsLeaf p s.answer first bs) → IfErr (made_leaf made) (StopsJudging p first bs best s)
  made_by (Ok node) h = tt
  made_by (Err stop) h = leaf_stops stop h

  pub made_stops : (made : Result BranchNode Stop) (r : Result Taken NodeStop) → r ≡ made_leaf made → IfErr made (StopsLeaf p s.answer first bs) → IfErr r (StopsJudging p first bs best s)
  made_stops made r e h = subst (λ (t : Result Taken NodeStop). IfErr t (StopsJudging p first bs best s)) (sym e) (made_by made h)

-- ---- all of one node
module _ (p : Problem) (q : Program Frac) (limit : ℕ) (bs : List BoundAt) (best : Option ℚ) where
  -- what is made of a node whose rows are solved
  pub taken_as : (s : Solved) → IsSolvedWith q limit bs s → (first : ℕ) (cs : List BoundAt) → first ≡ length q.rows → cs ≡ bs → (t : Taken) → IsTaken p first cs best s t → TakenAs p q limit bs best t
  taken_as s node first cs e f t h = record {
    solved = s;
    node = node;
    is = subst (λ (xs : List BoundAt). IsTaken p (length q.rows) xs best s t) f (subst (λ n. IsTaken p n cs best s t) e h);
  }

  judged : (s : Solved) → IsSolvedWith q limit bs s → (e : NodeStop) → StopsJudging p (length q.rows) bs best s e → StopsTaking p q limit bs best e
  judged s node stops.Unbounded h = record { solved = s; node = node; unbounded = h }
  judged s node (stops.Stop stop) (inl e) = inl e
  judged s node (stops.Stop stop) (inr h) = inr (at_leaf s h.turn h.row h.passes node.solved h.turns h.leaf h.first_one h.is)

  pub stops_as : (s : Solved) → IsSolvedWith q limit bs s → (first : ℕ) (cs : List BoundAt) → first ≡ length q.rows → cs ≡ bs → (e : NodeStop) → StopsJudging p first cs best s e
      → StopsTaking p q limit bs best e
  stops_as s node first cs e f stop h =
      judged s node stop (subst (λ (xs : List BoundAt). StopsJudging p (length q.rows) xs best s stop) f (subst (λ n. StopsJudging p n cs best s stop) e h))

  -- rows that aren't solved
  pub rows_stop : (e : SolveStop) → RowsStop limit (node_rows q bs) e → (run_stop e ≡ why.Memory) ⊎ NodeStops p q limit bs best (run_stop e)
  rows_stop (solves.TooLarge rows columns) h = inr (at_rows (solves.TooLarge rows columns) (λ d. large_memory rows columns d) h refl)
    where
      large_memory : (rows columns : ℕ) → solves.TooLarge rows columns ≡ solves.Memory → ⊥
      large_memory rows columns d = cc
  rows_stop (solves.Wide site) h = inr (at_rows (solves.Wide site) (λ d. cc) h refl)
  rows_stop (solves.PivotLimit count) h = inr (at_rows (solves.PivotLimit count) (λ d. cc) h refl)
  rows_stop solves.Memory h = inl refl
