-- Multipliers of constraints, one constraint after the other: what the first has, and what the rest has.
use Rattle.std.proofs.Common.{◌≡◌, ℕ, suc, ◌+◌, ◌<◌, ◌≤◌, List, [], ◌∷◌, ◌++◌, length, map, get_or, drop, Some, Ok, Err, sym, ap, ◌∙◌, subst, append_assoc, arith}
use Rattle.std.specs.Prelude.{Result, sum_by}
use Rattle.std.proofs.lemmas.List.{drop-drop, append-nil, drop_all}
use Rattle.std.proofs.lemmas.List.Sums.{sum_by-cons}
use Rattle.dcx_frac.specs.declared.fraction.Frac.{Frac}
use Rattle.dcx_frac.specs.declared.fraction.Passes.{Passes}
use Rattle.dcx_shape.specs.Sides.{entries_of}
use Rattle.dcx_atom.specs.declared.array.Array.{Array}
use Rattle.dcx_tree.specs.declared.constraint.Constraint.{Constraint}
use Rattle.dcx_linear.proofs.Formed.{drop_at}
use Rattle.dcx_lp_answer.specs.declared.answer.LpStatus.{LpStatus}
use Rattle.dcx_lp_answer.specs.declared.answer.RowNote.{RowNote}
use Rattle.dcx_lp_answer.specs.declared.stop.MultiplierStop.{MultiplierStop}
use Rattle.dcx_lp_answer.specs.declared.stop.MultiplierStop.TheVariants as stops
use Rattle.dcx_lp_answer.specs.Multipliers.{passing_from, StopsAt}
use Rattle.dcx_unknowns.specs.Layout.{constraint_rows}
use Rattle.dcx_postsolve.specs.Duals.{row_multipliers, all_multipliers, IsDual, AreDuals, AddsDual}

module _ {A : Type 0} where
  -- behind what is formed the first that passes is that of the rest
  pub passing_behind : (i : ℕ) (xs : List A) (rest : List (Result A Passes)) → passing_from i (map Ok xs ++ rest) ≡ passing_from (i + length xs) rest
  passing_behind i [] rest = let z : i ≡ i + 0 = omega arith in ap (λ k. passing_from k rest) z
  passing_behind i (x ∷ xs) rest = let z : suc i + length xs ≡ i + suc (length xs) = omega arith in passing_behind (suc i) xs rest ∙ ap (λ k. passing_from k rest) z

  -- the first that passes in a front is the first of all
  pub passing_front : (i : ℕ) (rs rest : List (Result A Passes)) (at : ℕ × Passes) → passing_from i rs ≡ Some at → passing_from i (rs ++ rest) ≡ Some at
  passing_front i [] rest at e = absurd (cc)
  passing_front i (Ok x ∷ rs) rest at e = passing_front (suc i) rs rest at e
  passing_front i (Err passes ∷ rs) rest at e = e

  pub stops_front : (i : ℕ) (rs rest : List (Result A Passes)) (e : MultiplierStop) → StopsAt e (passing_from i rs) → StopsAt e (passing_from i (rs ++ rest))
  stops_front i rs rest (stops.Wide row passes) h = passing_front i rs rest (row, passes) h
  stops_front i rs rest stops.Memory h = tt

-- an array of multipliers has one for each row
pub rows_in : (status : LpStatus) (c : Constraint) (notes : List RowNote) (x : Array) → IsDual status c notes x → length x.entries ≡ constraint_rows c
rows_in status c notes x is = x.full ∙ ap entries_of is.shape

module _ (status : LpStatus) (cs : List Constraint) (notes : List RowNote) (i next : ℕ) (c : Constraint) (lt : i < length cs) (is : c ≡ get_or cs i c) where
  rest_is : drop i cs ≡ c ∷ drop (i + 1) cs
  rest_is = drop_at cs i c lt is

  -- the rows of the constraint are there, and those behind them
  pub rows_there : (n : ℕ) → next + sum_by constraint_rows (drop i cs) ≤ n → (next + constraint_rows c ≤ n) × ((next + constraint_rows c) + sum_by constraint_rows (drop (i + 1) cs) ≤ n)
  rows_there n h =
      let total : sum_by constraint_rows (drop i cs) ≡ constraint_rows c + sum_by constraint_rows (drop (i + 1) cs) = ap (sum_by constraint_rows) rest_is
      ∙ sum_by-cons constraint_rows c (drop (i + 1) cs) in
      (omega (arith, total, h), omega (arith, total, h))

  all_are : all_multipliers status (drop i cs) (drop next notes) ≡ row_multipliers status c (drop next notes) ++ all_multipliers status (drop (i + 1) cs) (drop (next + constraint_rows c) notes)
  all_are = ap (λ l. all_multipliers status l (drop next notes)) rest_is
      ∙ ap (λ l. row_multipliers status c (drop next notes) ++ all_multipliers status (drop (i + 1) cs) l) (drop-drop (constraint_rows c) next notes)

  -- the first that passes here is the first of all
  pub stops_here : (all : List (Result Frac Passes)) (e : MultiplierStop) → passing_from next (all_multipliers status (drop i cs) (drop next notes)) ≡ passing_from 0 all →
      StopsAt e (passing_from next (row_multipliers status c (drop next notes))) → StopsAt e (passing_from 0 all)
  stops_here all e same h =
      subst (StopsAt e) (ap (passing_from next) (sym all_are) ∙ same) (stops_front next (row_multipliers status c (drop next notes))
      (all_multipliers status (drop (i + 1) cs) (drop (next + constraint_rows c) notes)) e h)

  module _ (before after : List Array) (adds : AddsDual status c (drop next notes) before after) where
    pub passing_next : passing_from (next + constraint_rows c) (all_multipliers status (drop (i + 1) cs) (drop (next + constraint_rows c) notes))
        ≡ passing_from next (all_multipliers status (drop i cs) (drop next notes))
    passing_next =
        let x = adds.array in
        let rest = all_multipliers status (drop (i + 1) cs) (drop (next + constraint_rows c) notes) in
        sym (ap (passing_from next) (all_are ∙ ap (λ l. l ++ rest) (sym adds.is.numbers)) ∙ passing_behind next x.entries rest
        ∙ ap (λ n. passing_from (next + n) rest) (rows_in status c (drop next notes) x adds.is))

    pub duals_next : ((es : List Array) → AreDuals status (drop i cs) (drop next notes) es → AreDuals status cs notes (before ++ es)) →
        (es : List Array) → AreDuals status (drop (i + 1) cs) (drop (next + constraint_rows c) notes) es → AreDuals status cs notes (after ++ es)
    duals_next made es are =
        let x = adds.array in
        let behind : AreDuals status (drop (i + 1) cs) (drop (constraint_rows c) (drop next notes)) es =
        subst (λ l. AreDuals status (drop (i + 1) cs) l es) (sym (drop-drop (constraint_rows c) next notes)) are in
        let here : AreDuals status (drop i cs) (drop next notes) (x ∷ es) = subst (λ l. AreDuals status l (drop next notes) (x ∷ es)) (sym rest_is) (adds.is, behind) in
        let joined : before ++ x ∷ es ≡ after ++ es = sym (append_assoc before (x ∷ []) es) ∙ ap (λ l. l ++ es) (sym adds.added) in
        subst (AreDuals status cs notes) joined (made (x ∷ es) here)

-- where no constraint is left, the arrays are all
pub duals_all : (status : LpStatus) (cs : List Constraint) (notes rest : List RowNote) (i : ℕ) (ds : List Array) → length cs ≤ i →
    ((es : List Array) → AreDuals status (drop i cs) rest es → AreDuals status cs notes (ds ++ es)) → AreDuals status cs notes ds
duals_all status cs notes rest i ds h made =
    subst (AreDuals status cs notes) (append-nil ds) (made [] (subst (λ l. AreDuals status l rest []) (sym (drop_all i cs h)) tt))
