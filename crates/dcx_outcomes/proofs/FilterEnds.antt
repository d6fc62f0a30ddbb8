-- What holds of the outcomes of settings at which constraints are filtered.
use Rattle.std.proofs.Common.{◌≡◌, ℕ, suc, List, [], ◌∷◌, Result, Ok, Err, is_some, refl, sym, ap, ap₂, subst}
use Rattle.std.specs.Prelude.{IfOk}
use Rattle.std.proofs.Props.{props}
use Rattle.std.specs.List.{AllZip}
use mathlib.Core.HLevel.{is_prop→PathP}
use Rattle.dcx_frac.specs.declared.fraction.Frac.{Frac}
use Rattle.dcx_point.specs.Pairs.{Pairs}
use Rattle.dcx_tree.specs.declared.problem.Problem.{Problem}
use Rattle.dcx_tree.specs.Meaning.{IsAccepted, setting_of}
use Rattle.dcx_fit.specs.Fit.{FitsParameters}
use Rattle.dcx_answer.specs.declared.filter_stop.FilterStop.{FilterStop}
use Rattle.dcx_answer.specs.declared.filter_stop.FilterStop.TheVariants as filter
use Rattle.dcx_answer.specs.declared.filtered.Filtered.{Filtered}
use Rattle.dcx_answer.specs.declared.filtered.Filtered.TheVariants as found
use Rattle.dcx_answer.specs.declared.filter_outcome.FilterEnd.{FilterEnd}
use Rattle.dcx_answer.specs.declared.filter_outcome.FilterEnd.TheVariants as the
use Rattle.dcx_answer.specs.declared.filter_outcome.FilterOutcome.{FilterOutcome}
use Rattle.dcx_answer.specs.declared.stop.Stop.{Stop}
use Rattle.dcx_answer.specs.NodeStops.{filter_names_node}
use Rattle.dcx_right.specs.Answers.{IsPointFor}
use Rattle.dcx_right.specs.ConstraintSets.{ConstraintSet, set_of}
use Rattle.dcx_right.specs.Filters.{IsRightFor}
use Rattle.dcx_graph.specs.Program.{Program}
use Rattle.dcx_graph.specs.Answers.{IsSamePoint}
use Rattle.dcx_iis.specs.Steps.{IsReadIn, IsReadAt}
use Rattle.dcx_iis.specs.Found.{IsPossible, IsFound}
use Rattle.dcx_iis.specs.Laws.{IsSameFiltered}
use Rattle.dcx_cache.specs.Programs.{SessionGives}
use Rattle.dcx_cache.proofs.Answered.{sound}
use Rattle.dcx_iis.proofs.Right.{found_is_right}
use Rattle.dcx_iis.proofs.Ends.{found_or_stopped, stops_are_one}
use Rattle.dcx_iis.proofs.OneFound.{found_is_one}
use Rattle.dcx_outcomes.specs.Asking.{IsRightAt, FindsRight, AreOneEnd}
use Rattle.dcx_outcomes.specs.Filters.{FilterGives, filter_end}
use Rattle.dcx_outcomes.specs.FilterLaws.{HadMemory, FiltersAreRight, FiltersAreOne}
use Rattle.dcx_outcomes.proofs.Asked.{are_right, alike, are_one}
use Rattle.dcx_outcomes.proofs.Same.{same_point, same_multipliers}

-- ---- what is found
point_for : (p : Problem) (q : Program Frac) (limit : ℕ) (set : ConstraintSet) (i : ℕ) (point : Pairs) → IsReadIn p q limit set i point → IsPointFor p point
point_for p q limit set i point h = record { names = h.read.of_variables.names; shaped = h.read.of_variables.shaped }

first_for : (p : Problem) (q : Program Frac) (limit : ℕ) (point : Pairs) → IsPossible p q limit point → IsPointFor p point
first_for p q limit point h = record { names = h.read.of_variables.names; shaped = h.read.of_variables.shaped }

same_points : (p : Problem) (q : Program Frac) (limit : ℕ) (set other : ConstraintSet) (ms ns : List ℕ) (xs ys : List Pairs) → AllZip (IsReadAt p q limit set) ms xs
    → AllZip (IsReadAt p q limit other) ns ys → AllZip (IsSamePoint p) xs ys → xs ≡ ys
same_points p q limit set other ms ns [] [] h k e = refl
same_points p q limit set other ms ns [] (y ∷ ys) h k e = absurd e
same_points p q limit set other ms ns (x ∷ xs) [] h k e = absurd e
same_points p q limit set other [] ns (x ∷ xs) (y ∷ ys) h k e = absurd h
same_points p q limit set other (m ∷ ms) [] (x ∷ xs) (y ∷ ys) h k e = absurd k
same_points p q limit set other (m ∷ ms) (n ∷ ns) (x ∷ xs) (y ∷ ys) h k e =
    ap₂ ◌∷◌ (same_point p x y (point_for p q limit set (suc m) x h.0) (point_for p q limit other (suc n) y k.0) e.0) (same_points p q limit set other ms ns xs ys h.1 k.1 e.1)

same_filtered : (p : Problem) (s : Pairs) (q : Program Frac) (limit : ℕ) (a b : Filtered) → IsRightFor p (setting_of p s) a → IsRightFor p (setting_of p s) b →
    IsFound p q limit a → IsFound p q limit b → IsSameFiltered p a b → a ≡ b
same_filtered p s q limit (found.Feasible x) (found.Feasible y) r t h k e =
    ap found.Feasible (same_point p x y (first_for p q limit x h) (first_for p q limit y k) e)
same_filtered p s q limit (found.Feasible x) (found.Infeasible ns es g ys) r t h k e = absurd e
same_filtered p s q limit (found.Infeasible ms ds g xs) (found.Feasible y) r t h k e = absurd e
same_filtered p s q limit (found.Infeasible ms ds g xs) (found.Infeasible ns es f ys) r t h k (members, numbers, gaps, points) =
    let duals = same_multipliers p.constraints ds es r.shaped t.shaped numbers in
    let all = same_points p q limit (set_of ms) (set_of ns) ms ns xs ys h.read k.read points in
    λ i. found.Infeasible (members i) (duals i) (gaps i) (all i)

module _ (p : Problem) (limit : ℕ) (ok : IsAccepted p) (s : Pairs) (q : Program Frac) where
  -- what is found is right there
  found_right : (found : Filtered) → FitsParameters p.parameters s → SessionGives p s (Ok q) → IsFound p q limit found → IsRightFor p (setting_of p s) found
  found_right found fits given h = found_is_right p (setting_of p s) q limit found (sound p s ok fits q given).reduced h

  right_filter : (r : Result Filtered FilterStop) → FitsParameters p.parameters s → SessionGives p s (Ok q) → FilterGives limit p s q r → IfOk r (IsRightAt p s (IsRightFor p (setting_of p s)))
  right_filter (Ok found) fits given g = record { fits = (sound p s ok fits q given).fitting; right = found_right found fits given g.found }
  right_filter (Err stop) fits given g = tt

  -- a program is filtered to one thing, or stopped by one
  one_answer : (x y : Result Filtered FilterStop) → FitsParameters p.parameters s → SessionGives p s (Ok q) → FilterGives limit p s q x → FilterGives limit p s q y →
      AreOneEnd filter.Memory (λ (a b : Filtered). a ≡ b) (Ok x) (Ok y)
  one_answer (Ok a) (Ok b) fits given h k n m =
      same_filtered p s q limit a b (found_right a fits given h.found) (found_right b fits given k.found) h.found k.found
      (found_is_one p (setting_of p s) q limit a b (sound p s ok fits q given).reduced h.found k.found)
  one_answer (Ok a) (Err (filter.Step step stop)) fits given h k n m = found_or_stopped p (setting_of p s) q limit step a stop (sound p s ok fits q given).reduced h.found k.stops
  one_answer (Ok a) (Err filter.Memory) fits given h k n m = absurd (m refl)
  one_answer (Err (filter.Step step stop)) (Ok b) fits given h k n m = found_or_stopped p (setting_of p s) q limit step b stop (sound p s ok fits q given).reduced k.found h.stops
  one_answer (Err filter.Memory) y fits given h k n m = absurd (n refl)
  one_answer (Err (filter.Step step stop)) (Err (filter.Step other also)) fits given h k n m =
      let one = stops_are_one p (setting_of p s) q limit step other stop also h.stops k.stops in ap₂ filter.Step one.0 one.1
  one_answer (Err (filter.Step step stop)) (Err filter.Memory) fits given h k n m = absurd (m refl)

-- ---- outcomes
same_told : (x y : FilterEnd) → filter_end x ≡ filter_end y → x ≡ y
same_told (the.Filtered a) (the.Filtered b) e = let same : a ≡ b = cc in ap the.Filtered same
same_told (the.Filtered a) (the.Filter t) e = absurd cc
same_told (the.Filtered a) (the.Stop t) e = absurd cc
same_told (the.Filter s) (the.Filtered b) e = absurd cc
same_told (the.Filter s) (the.Filter t) e = let same : s ≡ t = cc in ap the.Filter same
same_told (the.Filter s) (the.Stop t) e = absurd cc
same_told (the.Stop s) (the.Filtered b) e = absurd cc
same_told (the.Stop s) (the.Filter t) e = absurd cc
same_told (the.Stop s) (the.Stop t) e = let same : s ≡ t = cc in ap the.Stop same

same_outcome : (o q : FilterOutcome) → filter_end o.end ≡ filter_end q.end → o.place ≡ q.place → o ≡ q
same_outcome o q h f =
    let e : o.end ≡ q.end = same_told o.end q.end h in
    λ i. record {
      end = e i;
      place = f i;
      placed = is_prop→PathP (λ j. is_some (f j) ≡ filter_names_node (e j)) (λ j. hlevel props) o.placed q.placed i;
    }

pub filters_are_right : FiltersAreRight
filters_are_right p limit settings outcomes ok h =
    are_right (FilterGives limit) (λ (o : FilterOutcome) (e : Result (Result Filtered FilterStop) Stop). filter_end o.end ≡ e) (λ (o : FilterOutcome). o.place) p (λ s. IsRightFor p (setting_of p s))
    (λ s o. FindsRight p s (IsRightFor p (setting_of p s)) (filter_end o.end)) (right_filter p limit ok)
    (λ s o e t k. subst (FindsRight p s (IsRightFor p (setting_of p s))) (sym t) k) settings outcomes h

pub filters_are_one : FiltersAreOne
filters_are_one p limit settings os qs ok h k =
    are_one (FilterGives limit) (λ (o : FilterOutcome) (e : Result (Result Filtered FilterStop) Stop). filter_end o.end ≡ e) (λ (o : FilterOutcome). o.place) p filter.Memory
    (λ (a b : Filtered). a ≡ b) (λ (o q : FilterOutcome). HadMemory o → HadMemory q → o ≡ q)
    (one_answer p limit ok) (alike (λ (o : FilterOutcome). filter_end o.end) (λ (o : FilterOutcome). o.place) filter.Memory same_outcome) settings os qs h k
