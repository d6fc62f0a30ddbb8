-- One more constraint in a loop: its rows, its number, its array.
use Rattle.std.proofs.Common.{◌≡◌, ℕ, zero, suc, ◌+◌, ◌-◌, ◌<◌, ◌≤◌, arith, Bool, true, false, if◌then◌else◌, IsTrue, List, [], ◌∷◌, ◌++◌, length, get_or}
use Rattle.std.proofs.Common.{take, drop, slice_range, refl, sym, ap, ap₂, ◌∙◌, subst, pos, append_assoc, append-nil, length-take-le}
use Rattle.std.specs.Prelude.{sum_by}
use Rattle.std.specs.List.{AllZip}
use Rattle.std.proofs.lemmas.Bool.{true≢false, false_from_ne_true}
use Rattle.std.proofs.lemmas.List.{drop-drop, drop_all, take_all, take_more}
use Rattle.std.proofs.lemmas.List.Sums.{sum_by-cons}
use Rattle.dcx_math.specs.Rational.{whole}
use Rattle.dcx_atom.specs.declared.array.Array.{Array}
use Rattle.dcx_atom.specs.Arrays.{number_at}
use Rattle.dcx_tree.specs.declared.constraint.Constraint.{Constraint}
use Rattle.dcx_linear.specs.declared.form.Form.{Form}
use Rattle.dcx_linear.specs.declared.row.Row.{Row}
use Rattle.dcx_linear.proofs.Formed.{drop_at}
use Rattle.dcx_unknowns.specs.Layout.{constraint_rows}
use Rattle.dcx_right.specs.Answers.{multipliers_in}
use Rattle.dcx_right.specs.ConstraintSets.{ConstraintSet}
use Rattle.dcx_right.specs.Filters.{HasShapeOf}
use Rattle.dcx_iis.specs.Steps.{kept_from, kept_of, rows_from}
use Rattle.dcx_iis.specs.Multipliers.{AreZeros, TakesNext, AreSpread}
use Rattle.dcx_iis.specs.Runs.{numbers_from}
use Rattle.dcx_iis.proofs.Kept.{one_if, kept_push}
use Rattle.dcx_iis.proofs.Flags.{zip_push}
use Rattle.dcx_iis.proofs.Shown.{zip_length}

-- ---- rows
module _ {A : Type 0} (set : ConstraintSet) (cs : List Constraint) (rows : List A) (i next : ℕ) (c : Constraint) (lt : i < length cs) (is : c ≡ get_or cs i c) where
  rest_is : drop i cs ≡ c ∷ drop (i + 1) cs
  rest_is = drop_at cs i c lt is

  -- the rows of the constraint are there, and those behind them
  pub rows_there : next + sum_by constraint_rows (drop i cs) ≤ length rows
      → (next + constraint_rows c ≤ length rows) × ((next + constraint_rows c) + sum_by constraint_rows (drop (i + 1) cs) ≤ length rows)
  rows_there h =
      let total : sum_by constraint_rows (drop i cs) ≡ constraint_rows c + sum_by constraint_rows (drop (i + 1) cs) = ap (sum_by constraint_rows) rest_is
      ∙ sum_by-cons constraint_rows c (drop (i + 1) cs) in
      (omega (arith, total, h), omega (arith, total, h))

  rows_are : rows_from set i (drop i cs) (drop next rows) ≡ (if set i then slice_range rows next (next + constraint_rows c) else [])
      ++ rows_from set (i + 1) (drop (i + 1) cs) (drop (next + constraint_rows c) rows)
  rows_are =
      let n : constraint_rows c ≡ (next + constraint_rows c) - next = omega arith in
      let k : suc i ≡ i + 1 = omega arith in
      ap (λ l. rows_from set i l (drop next rows)) rest_is
      ∙ ap₂ (λ xs l. (if set i then xs else []) ++ rows_from set (suc i) (drop (i + 1) cs) l) (ap (λ m. take m (drop next rows)) n) (drop-drop (constraint_rows c) next rows)
      ∙ ap (λ m. (if set i then slice_range rows next (next + constraint_rows c) else []) ++ rows_from set m (drop (i + 1) cs) (drop (next + constraint_rows c) rows)) k

  -- with its own rows, those so far and then those that are left are all
  pub rows_next : (copies more all own : List A) → copies ++ rows_from set i (drop i cs) (drop next rows) ≡ all → own ≡ slice_range rows next (next + constraint_rows c)
      → more ≡ copies ++ (if set i then own else [])
      → more ++ rows_from set (i + 1) (drop (i + 1) cs) (drop (next + constraint_rows c) rows) ≡ all
  rows_next copies more all own before mine added =
      ap (λ xs. xs ++ rows_from set (i + 1) (drop (i + 1) cs) (drop (next + constraint_rows c) rows)) (added ∙ ap (λ xs. copies ++ (if set i then xs else [])) mine)
      ∙ append_assoc copies (if set i then slice_range rows next (next + constraint_rows c) else []) (rows_from set (i + 1) (drop (i + 1) cs) (drop (next + constraint_rows c) rows))
      ∙ ap (λ xs. copies ++ xs) (sym rows_are)
      ∙ before

-- ---- constraints, and numbers
module _ {A : Type 0} (set : ConstraintSet) (xs : List A) (i : ℕ) (x : A) (lt : i < length xs) (is : x ≡ get_or xs i x) where
  kept_are : kept_from set i (drop i xs) ≡ one_if (set i) x (kept_from set (i + 1) (drop (i + 1) xs))
  kept_are = let k : suc i ≡ i + 1 = omega arith in ap (kept_from set i) (drop_at xs i x lt is) ∙ ap (λ n. one_if (set i) x (kept_from set n (drop (i + 1) xs))) k

  pub kept_more : (before more all : List A) → IsTrue (set i) → before ++ kept_from set i (drop i xs) ≡ all → more ≡ before ++ x ∷ [] → more ++ kept_from set (i + 1) (drop (i + 1) xs) ≡ all
  kept_more before more all t h added =
      ap (λ l. l ++ kept_from set (i + 1) (drop (i + 1) xs)) added
      ∙ append_assoc before (x ∷ []) (kept_from set (i + 1) (drop (i + 1) xs))
      ∙ ap (λ (b : Bool). before ++ one_if b x (kept_from set (i + 1) (drop (i + 1) xs))) (sym t)
      ∙ ap (λ l. before ++ l) (sym kept_are)
      ∙ h

  pub kept_less : (before all : List A) → set i ≡ false → before ++ kept_from set i (drop i xs) ≡ all → before ++ kept_from set (i + 1) (drop (i + 1) xs) ≡ all
  kept_less before all f h = ap (λ (b : Bool). before ++ one_if b x (kept_from set (i + 1) (drop (i + 1) xs))) (sym f) ∙ ap (λ l. before ++ l) (sym kept_are) ∙ h

pub kept_last : {A : Type 0} (set : ConstraintSet) (xs : List A) (i : ℕ) (before all : List A) → length xs ≤ i → before ++ kept_from set i (drop i xs) ≡ all → before ≡ all
kept_last set xs i before all h e = sym (append-nil before) ∙ ap (λ l. before ++ kept_from set i l) (sym (drop_all i xs h)) ∙ e

module _ (flags : List Bool) (i : ℕ) (b : Bool) (lt : i < length flags) (is : b ≡ get_or flags i b) where
  numbers_are : numbers_from i (drop i flags) ≡ (if b then i ∷ [] else []) ++ numbers_from (i + 1) (drop (i + 1) flags)
  numbers_are = let k : suc i ≡ i + 1 = omega arith in ap (numbers_from i) (drop_at flags i b lt is) ∙ ap (λ n. (if b then i ∷ [] else []) ++ numbers_from n (drop (i + 1) flags)) k

  pub numbers_more : (before more all : List ℕ) → IsTrue b → before ++ numbers_from i (drop i flags) ≡ all → more ≡ before ++ i ∷ [] → more ++ numbers_from (i + 1) (drop (i + 1) flags) ≡ all
  numbers_more before more all t h added =
      ap (λ l. l ++ numbers_from (i + 1) (drop (i + 1) flags)) added
      ∙ append_assoc before (i ∷ []) (numbers_from (i + 1) (drop (i + 1) flags))
      ∙ ap (λ (b : Bool). before ++ ((if b then i ∷ [] else []) ++ numbers_from (i + 1) (drop (i + 1) flags))) (sym t)
      ∙ ap (λ l. before ++ l) (sym numbers_are)
      ∙ h

  pub numbers_less : (before all : List ℕ) → b ≡ false → before ++ numbers_from i (drop i flags) ≡ all → before ++ numbers_from (i + 1) (drop (i + 1) flags) ≡ all
  numbers_less before all f h = ap (λ (b : Bool). before ++ ((if b then i ∷ [] else []) ++ numbers_from (i + 1) (drop (i + 1) flags))) (sym f) ∙ ap (λ l. before ++ l) (sym numbers_are) ∙ h

pub numbers_last : (flags : List Bool) (i : ℕ) (before all : List ℕ) → length flags ≤ i → before ++ numbers_from i (drop i flags) ≡ all → before ≡ all
numbers_last flags i before all h e = sym (append-nil before) ∙ ap (λ l. before ++ numbers_from i l) (sym (drop_all i flags h)) ∙ e

-- ---- arrays
-- what the next array is
record IsTaken (b : Bool) (c : Constraint) (cs : List Constraint) (before after : List Array) (x : Array) : Type 0 where
  shape : HasShapeOf c x
  rest : AllZip HasShapeOf cs after
  joined : before ≡ one_if b x after
  zero : b ≡ false → (j : ℕ) → number_at x.entries j ≡ whole (pos 0)

taken : (b : Bool) (c : Constraint) (cs : List Constraint) (before after : List Array) (x : Array) → AllZip HasShapeOf (one_if b c cs) before → TakesNext b c before after x
    → IsTaken b c cs before after x
taken true c cs [] after x h t = absurd h
taken true c cs (y ∷ ys) after x h t = record {
  shape = subst (HasShapeOf c) (sym t.0) h.0;
  rest = subst (AllZip HasShapeOf cs) (sym t.1) h.1;
  joined = ap₂ (λ z zs. z ∷ zs) (sym t.0) (sym t.1);
  zero = λ e. absurd (true≢false e);
}
taken false c cs before after x h t = record { shape = t.1.shape; rest = subst (AllZip HasShapeOf cs) (sym t.0) h; joined = sym t.0; zero = λ e. t.1.numbers }

one_append : {A : Type 0} (b : Bool) (x : A) (rest : List A) → one_if b x [] ++ rest ≡ one_if b x rest
one_append true x rest = refl
one_append false x rest = refl

push_zeros : (ys : List Array) (x : Array) (k j : ℕ) → (k < length ys → multipliers_in ys k j ≡ whole (pos 0)) → (k ≡ length ys → number_at x.entries j ≡ whole (pos 0))
    → multipliers_in (ys ++ x ∷ []) k j ≡ whole (pos 0)
push_zeros [] x zero j h z = z refl
push_zeros [] x (suc k) j h z = refl
push_zeros (y ∷ ys) x zero j h z = h (omega arith)
push_zeros (y ∷ ys) x (suc k) j h z = push_zeros ys x k j (λ l. h (omega (arith, l))) (λ e. z (ap suc e))

take_one : (cs : List Constraint) (i : ℕ) (c : Constraint) → i < length cs → c ≡ get_or cs i c → take (i + 1) cs ≡ take i cs ++ c ∷ []
take_one cs i c lt is = take_more cs i c lt ∙ ap (λ x. take i cs ++ x ∷ []) (sym is)

-- what is so of the arrays once i constraints have theirs
pub record AreSpreadSo (set : ConstraintSet) (cs : List Constraint) (i : ℕ) (arrays duals rest : List Array) : Type 0 where
  pub shaped : AllZip HasShapeOf (take i cs) duals
  pub kept : kept_of set duals ++ rest ≡ arrays
  pub zeros : (k : ℕ) → ¬ IsTrue (set k) → (j : ℕ) → multipliers_in duals k j ≡ whole (pos 0)
  pub rest_shaped : AllZip HasShapeOf (kept_from set i (drop i cs)) rest

module _ (set : ConstraintSet) (cs : List Constraint) (i : ℕ) (c : Constraint) (lt : i < length cs) (is : c ≡ get_or cs i c) (arrays duals before after more : List Array) (x : Array)
    (h : AreSpreadSo set cs i arrays duals before)
    (t : TakesNext (set i) c before after x) (added : more ≡ duals ++ x ∷ []) where
  own : IsTaken (set i) c (kept_from set (i + 1) (drop (i + 1) cs)) before after x
  own = taken (set i) c (kept_from set (i + 1) (drop (i + 1) cs)) before after x (subst (λ l. AllZip HasShapeOf l before) (kept_are set cs i c lt is) h.rest_shaped) t

  count : length duals ≡ i
  count = sym (zip_length HasShapeOf (take i cs) duals h.shaped) ∙ length-take-le i cs (omega (arith, lt))

  pub spread_next : AreSpreadSo set cs (i + 1) arrays more after
  spread_next = record {
    shaped = subst (AllZip HasShapeOf (take (i + 1) cs)) (sym added) (subst (λ l. AllZip HasShapeOf l (duals ++ x ∷ [])) (sym (take_one cs i c lt is))
        (zip_push HasShapeOf (take i cs) duals c x h.shaped own.shape));
    kept =
        let at : 0 + length duals ≡ i = omega (arith, count) in
        ap (λ l. kept_of set l ++ after) added
        ∙ ap (λ l. l ++ after) (kept_push set 0 duals x ∙ ap (λ n. kept_of set duals ++ one_if (set n) x []) at)
        ∙ append_assoc (kept_of set duals) (one_if (set i) x []) after
        ∙ ap (λ l. kept_of set duals ++ l) (one_append (set i) x after ∙ sym own.joined)
        ∙ h.kept;
    zeros = λ k n j. ap (λ l. multipliers_in l k j) added ∙ push_zeros duals x k j (λ l. h.zeros k n j)
        (λ e. own.zero (false_from_ne_true (set i) (λ u. n (ap set (e ∙ count) ∙ u))) j);
    rest_shaped = own.rest;
  }

-- where none has, all arrays are left
pub spread_first : (set : ConstraintSet) (cs : List Constraint) (arrays duals rest : List Array) → duals ≡ [] → rest ≡ arrays → AllZip HasShapeOf (kept_of set cs) arrays
    → AreSpreadSo set cs 0 arrays duals rest
spread_first set cs arrays duals rest none e h =
    subst (λ ys. AreSpreadSo set cs 0 arrays ys rest) (sym none) (record { shaped = tt; kept = e; zeros = λ k n j. refl; rest_shaped = subst (AllZip HasShapeOf (kept_of set cs)) (sym e) h })

-- where no constraint is left, the arrays are spread
pub spread_last : (set : ConstraintSet) (cs : List Constraint) (i : ℕ) (arrays duals rest : List Array) → length cs ≤ i → AreSpreadSo set cs i arrays duals rest → AreSpread set cs arrays duals
spread_last set cs i arrays duals rest n h =
    let none : kept_from set i (drop i cs) ≡ [] = ap (kept_from set i) (drop_all i cs n) in
    record {
      shaped = subst (λ l. AllZip HasShapeOf l duals) (take_all i cs n) h.shaped;
      kept = sym (append-nil (kept_of set duals)) ∙ ap (λ l. kept_of set duals ++ l) (sym (no_rest rest (subst (λ l. AllZip HasShapeOf l rest) none h.rest_shaped))) ∙ h.kept;
      zeros = h.zeros;
    }
  where
    no_rest : (ys : List Array) → AllZip HasShapeOf [] ys → ys ≡ []
    no_rest [] k = refl
    no_rest (y ∷ ys) k = absurd k

-- ---- copies of rows
pub row_more : {C : Type 0} (rows : List (Row C)) (i : ℕ) (row : Row C) (lt : i < length rows) (is : row ≡ get_or rows i row) (before more old : List (Row C)) (form : Form C) → form ≡ row.form →
    more ≡ before ++ record { kind = row.kind; form = form } ∷ [] → before ≡ old ++ take i rows → more ≡ old ++ take (i + 1) rows
row_more rows i row lt is before more old form e added h =
    added
    ∙ ap (λ f. before ++ record { kind = row.kind; form = f } ∷ []) e
    ∙ ap (λ l. l ++ row ∷ []) h
    ∙ append_assoc old (take i rows) (row ∷ [])
    ∙ ap (λ x. old ++ (take i rows ++ x ∷ [])) is
    ∙ ap (λ l. old ++ l) (sym (take_more rows i row lt))

-- ---- the next array
pub takes_some : (b : Bool) (c : Constraint) (before after : List Array) (x : Array) → b ≡ true → before ≡ x ∷ after → TakesNext b c before after x
takes_some b c before after x e h = subst (λ t. TakesNext t c before after x) (sym e) (subst (λ l. TakesNext true c l after x) (sym h) (refl, refl))

pub takes_none : (b : Bool) (c : Constraint) (before after : List Array) (x : Array) → b ≡ true → length before ≡ 0 → TakesNext b c before after x
takes_none b c [] after x e h = subst (λ t. TakesNext t c [] after x) (sym e) tt
takes_none b c (y ∷ ys) after x e h = absurd (omega (arith, h))

pub takes_zeros : (b : Bool) (c : Constraint) (before after : List Array) (x : Array) → b ≡ false → after ≡ before → AreZeros c x → TakesNext b c before after x
takes_zeros b c before after x e h z = subst (λ t. TakesNext t c before after x) (sym e) (h, z)
