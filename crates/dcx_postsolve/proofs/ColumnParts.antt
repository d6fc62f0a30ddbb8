-- What the columns of a program stand for: the unknowns that are read from them, one after the other.
use Rattle.std.proofs.Common.{◌≡◌, ◌≢◌, ℕ, zero, suc, ◌+◌, ◌<◌, ◌≤◌, Bool, true, false, if◌then◌else◌, List, [], ◌∷◌, ◌++◌}
use Rattle.std.proofs.Common.{length, map, refl, sym, ap, ap₂, ◌∙◌, subst, add-zero, zero-add, ◌⊎◌, arith, pos}
use Rattle.std.proofs.lemmas.Bool.{eq-eqb, ne_eqb}
use Rattle.std.proofs.lemmas.List.{length-append, append_assoc, get_or_append_left}
use Rattle.dcx_math.specs.Rational.{ℚ, whole, ◌+ℚ◌, ◌-ℚ◌, neg_ℚ}
use Rattle.dcx_math.specs.Sums.{rat_at, rat_sum_below}
use Rattle.dcx_math.proofs.Orders.{+ℚ_idl, +ℚ_idr, +ℚ_assoc}
use Rattle.dcx_math.proofs.Sums.{rat_sum_below-same, rat_sum_below-first}
use Rattle.dcx_math.proofs.Ring.{ring, reads}
use Rattle.dcx_linear.specs.declared.row.UnknownKind.{UnknownKind}
use Rattle.dcx_linear.specs.declared.row.UnknownKind.TheVariants.{Free, Nonneg, Nonpos}
use Rattle.dcx_tab.specs.declared.rows.ColumnKind.{ColumnKind}
use Rattle.dcx_tab.specs.declared.rows.ColumnKind.TheVariants.{Unknown, Slack, Artificial}
use Rattle.dcx_tab.specs.declared.program.Program.{Program}
use Rattle.dcx_tab.specs.Program.{kind_at}
use Rattle.dcx_lp_answer.specs.Right.{turned_if, IsOneSided}
use Rattle.dcx_std.specs.Columns.{all_unknown_columns, marked_from, has_slack, needs_artificial}
use Rattle.dcx_std.specs.GivenRows.{GivenRows}
use Rattle.dcx_std.specs.IntegerRows.{start_of, IsMade}
use Rattle.dcx_std.specs.Solutions.{column_part, unknowns_at}
use Rattle.dcx_std.proofs.ColumnLaws.{unknowns_count}
use Rattle.dcx_postsolve.specs.Numbers.{numbers_from, unknown_numbers, AreOneSidedFrom}
use Rattle.dcx_postsolve.specs.Laws.{ColumnsTellUnknowns}

-- ---- what columns add to an unknown
-- the sum of what these columns add to unknown u, where the first of them has the number j
parts : ℕ → List ℚ → ℕ → List ColumnKind → ℚ
parts u zs j [] = whole (pos 0)
parts u zs j (k ∷ ks) = column_part u k (rat_at zs j) +ℚ parts u zs (suc j) ks

module _ (u : ℕ) (zs : List ℚ) where
  sum_is : (j : ℕ) (ks : List ColumnKind) → rat_sum_below (length ks) (λ i. column_part u (kind_at ks i) (rat_at zs (j + i))) ≡ parts u zs j ks
  unfolding parts
  sum_is j [] = refl
  sum_is j (k ∷ ks) =
      rat_sum_below-first (length ks) (λ i. column_part u (kind_at (k ∷ ks) i) (rat_at zs (j + i)))
      ∙ ap₂ (λ a b. column_part u k (rat_at zs a) +ℚ b) (add-zero j)
      (rat_sum_below-same (length ks) (λ i. column_part u (kind_at ks i) (rat_at zs (j + suc i))) (λ i. column_part u (kind_at ks i) (rat_at zs (suc j + i)))
      (λ i l. let z : j + suc i ≡ suc j + i = omega arith in ap (λ n. column_part u (kind_at ks i) (rat_at zs n)) z) ∙ sum_is (suc j) ks)

  parts-append : (j : ℕ) (ks ls : List ColumnKind) → parts u zs j (ks ++ ls) ≡ parts u zs j ks +ℚ parts u zs (j + length ks) ls
  unfolding parts
  parts-append j [] ls = let z : j ≡ j + 0 = omega arith in ap (λ n. parts u zs n ls) z ∙ sym (+ℚ_idl (parts u zs (j + 0) ls))
  parts-append j (k ∷ ks) ls =
      let z : suc j + length ks ≡ j + suc (length ks) = omega arith in
      ap (λ x. column_part u k (rat_at zs j) +ℚ x) (parts-append (suc j) ks ls ∙ ap (λ n. parts u zs (suc j) ks +ℚ parts u zs n ls) z)
      ∙ sym (+ℚ_assoc (column_part u k (rat_at zs j)) (parts u zs (suc j) ks) (parts u zs (j + suc (length ks)) ls))

  -- columns of rows add nothing
  marked_parts : (column : ℕ → ColumnKind) → ((i : ℕ) (z : ℚ) → column_part u (column i) z ≡ whole (pos 0)) → (j i : ℕ) (bs : List Bool) → parts u zs j (marked_from column i bs) ≡ whole (pos 0)
  unfolding parts
  marked_parts column none j i [] = refl
  marked_parts column none j i (true ∷ bs) = ap₂ (λ a b. a +ℚ b) (none i (rat_at zs j)) (marked_parts column none (suc j) (suc i) bs) ∙ +ℚ_idl (whole (pos 0))
  marked_parts column none j i (false ∷ bs) = marked_parts column none j (suc i) bs

  other : (a j : ℕ) (minus : Bool) → a ≢ u → column_part u (Unknown a minus) (rat_at zs j) ≡ whole (pos 0)
  other a j minus ne = ap (λ b. if b then turned_if minus (rat_at zs j) else whole (pos 0)) (ne_eqb a u ne)

  own : (j : ℕ) (minus : Bool) → column_part u (Unknown u minus) (rat_at zs j) ≡ turned_if minus (rat_at zs j)
  own j minus = ap (λ b. if b then turned_if minus (rat_at zs j) else whole (pos 0)) (eq-eqb u u refl)

  nothing : (x y : ℚ) → x ≡ whole (pos 0) → x +ℚ y ≡ y
  nothing x y e = ap (λ z. z +ℚ y) e ∙ +ℚ_idl y

  -- those of later unknowns neither
  later_parts : (a j : ℕ) (kinds : List UnknownKind) → u < a → parts u zs j (all_unknown_columns a kinds) ≡ whole (pos 0)
  unfolding parts
  later_parts a j [] l = refl
  later_parts a j (Free ∷ kinds) l =
      let ne : a ≢ u = λ e. omega (arith, e, l) in
      nothing _ _ (other a j false ne) ∙ nothing _ _ (other a (suc j) true ne) ∙ later_parts (suc a) (suc (suc j)) kinds (omega (arith, l))
  later_parts a j (Nonneg ∷ kinds) l = let ne : a ≢ u = λ e. omega (arith, e, l) in nothing _ _ (other a j false ne) ∙ later_parts (suc a) (suc j) kinds (omega (arith, l))
  later_parts a j (Nonpos ∷ kinds) l = let ne : a ≢ u = λ e. omega (arith, e, l) in nothing _ _ (other a j true ne) ∙ later_parts (suc a) (suc j) kinds (omega (arith, l))

both : (x y : ℚ) → x +ℚ (neg_ℚ y +ℚ whole (pos 0)) ≡ x -ℚ y
both x y = ring (x ∷ y ∷ []) (search reads depth 30) tt

-- ---- the columns of unknowns add up to what is read from them
unknown_parts : (zs : List ℚ) (a j m : ℕ) (kinds : List UnknownKind) → parts (a + m) zs j (all_unknown_columns a kinds) ≡ rat_at (numbers_from zs j kinds) m
unfolding parts
unknown_parts zs a j m [] = refl
unknown_parts zs a j zero (Free ∷ kinds) = first (a + 0) (add-zero a)
  where
    first : (u : ℕ) → u ≡ a → parts u zs j (all_unknown_columns a (Free ∷ kinds)) ≡ rat_at zs j -ℚ rat_at zs (suc j)
    first u e = subst (λ n. parts n zs j (all_unknown_columns a (Free ∷ kinds)) ≡ rat_at zs j -ℚ rat_at zs (suc j)) (sym e)
        (ap₂ (λ x y. x +ℚ y) (own a zs j false) (ap₂ (λ x y. x +ℚ y) (own a zs (suc j) true) (later_parts a zs (suc a) (suc (suc j)) kinds (omega arith))) ∙ both (rat_at zs j) (rat_at zs (suc j)))
unknown_parts zs a j zero (Nonneg ∷ kinds) = first (a + 0) (add-zero a)
  where
    first : (u : ℕ) → u ≡ a → parts u zs j (all_unknown_columns a (Nonneg ∷ kinds)) ≡ rat_at zs j
    first u e = subst (λ n. parts n zs j (all_unknown_columns a (Nonneg ∷ kinds)) ≡ rat_at zs j) (sym e)
        (ap₂ (λ x y. x +ℚ y) (own a zs j false) (later_parts a zs (suc a) (suc j) kinds (omega arith)) ∙ +ℚ_idr (rat_at zs j))
unknown_parts zs a j zero (Nonpos ∷ kinds) = first (a + 0) (add-zero a)
  where
    first : (u : ℕ) → u ≡ a → parts u zs j (all_unknown_columns a (Nonpos ∷ kinds)) ≡ neg_ℚ (rat_at zs j)
    first u e = subst (λ n. parts n zs j (all_unknown_columns a (Nonpos ∷ kinds)) ≡ neg_ℚ (rat_at zs j)) (sym e)
        (ap₂ (λ x y. x +ℚ y) (own a zs j true) (later_parts a zs (suc a) (suc j) kinds (omega arith)) ∙ +ℚ_idr (neg_ℚ (rat_at zs j)))
unknown_parts zs a j (suc m) (Free ∷ kinds) =
    let u = a + suc m in
    let ne : a ≢ u = λ e. omega (arith, e) in
    let z : u ≡ suc a + m = omega arith in
    let next : suc (suc j) ≡ j + 2 = omega arith in
    nothing u zs _ _ (other u zs a j false ne) ∙ nothing u zs _ _ (other u zs a (suc j) true ne)
    ∙ ap₂ (λ n i. parts n zs i (all_unknown_columns (suc a) kinds)) z next ∙ unknown_parts zs (suc a) (j + 2) m kinds
unknown_parts zs a j (suc m) (Nonneg ∷ kinds) =
    let u = a + suc m in
    let ne : a ≢ u = λ e. omega (arith, e) in
    let z : u ≡ suc a + m = omega arith in
    let next : suc j ≡ j + 1 = omega arith in
    nothing u zs _ _ (other u zs a j false ne) ∙ ap₂ (λ n i. parts n zs i (all_unknown_columns (suc a) kinds)) z next ∙ unknown_parts zs (suc a) (j + 1) m kinds
unknown_parts zs a j (suc m) (Nonpos ∷ kinds) =
    let u = a + suc m in
    let ne : a ≢ u = λ e. omega (arith, e) in
    let z : u ≡ suc a + m = omega arith in
    let next : suc j ≡ j + 1 = omega arith in
    nothing u zs _ _ (other u zs a j true ne) ∙ ap₂ (λ n i. parts n zs i (all_unknown_columns (suc a) kinds)) z next ∙ unknown_parts zs (suc a) (j + 1) m kinds

-- the columns of rows stand behind
all_parts : (kinds : List UnknownKind) (slacks artificials : List Bool) (zs : List ℚ) (u : ℕ) →
    parts u zs 0 ((all_unknown_columns 0 kinds ++ marked_from Slack 0 slacks) ++ marked_from Artificial 0 artificials) ≡ rat_at (unknown_numbers kinds zs) u
all_parts kinds slacks artificials zs u =
    let front = all_unknown_columns 0 kinds in
    let behind = marked_from Slack 0 slacks in
    let z : u ≡ 0 + u = omega arith in
    parts-append u zs 0 (front ++ behind) (marked_from Artificial 0 artificials)
    ∙ ap₂ (λ x y. x +ℚ y) (parts-append u zs 0 front behind) (marked_parts u zs Artificial (λ i y. refl) (0 + length (front ++ behind)) 0 artificials)
    ∙ +ℚ_idr (parts u zs 0 front +ℚ parts u zs (0 + length front) behind)
    ∙ ap (λ y. parts u zs 0 front +ℚ y) (marked_parts u zs Slack (λ i y. refl) (0 + length front) 0 slacks)
    ∙ +ℚ_idr (parts u zs 0 front)
    ∙ ap (λ n. parts n zs 0 front) z ∙ unknown_parts zs 0 0 u kinds

-- ---- the two columns of a free unknown
module _ (at : ℕ → ColumnKind) (n : ℕ) (zs : List ℚ)
    (sided : (j k u : ℕ) → j < n → k < n → at j ≡ Unknown u false → at k ≡ Unknown u true → (rat_at zs j ≡ whole (pos 0)) ⊎ (rat_at zs k ≡ whole (pos 0))) where
  -- from place j on the columns are those of these unknowns
  record AreFrom (a j : ℕ) (kinds : List UnknownKind) : Type 0 where
    within : j + length (all_unknown_columns a kinds) ≤ n
    same : (i : ℕ) → i < length (all_unknown_columns a kinds) → at (j + i) ≡ kind_at (all_unknown_columns a kinds) i

  sided_from : (a j : ℕ) (kinds : List UnknownKind) → AreFrom a j kinds → AreOneSidedFrom zs j kinds
  sided_from a j [] are = tt
  sided_from a j (Free ∷ kinds) are =
      let within = are.within in
      let z : j + 0 ≡ j = omega arith in
      let y : j + 1 ≡ suc j = omega arith in
      let plus : at j ≡ Unknown a false = ap at (sym z) ∙ are.same 0 (omega arith) in
      let minus : at (suc j) ≡ Unknown a true = ap at (sym y) ∙ are.same 1 (omega arith) in (
        sided j (suc j) a (omega (arith, within)) (omega (arith, within)) plus minus,
        sided_from (suc a) (j + 2) kinds (record {
          within = omega (arith, within);
          same = λ i l. let x : (j + 2) + i ≡ j + suc (suc i) = omega arith in ap at x ∙ are.same (suc (suc i)) (omega (arith, l));
        }),
      )
  sided_from a j (Nonneg ∷ kinds) are =
      let within = are.within in (
        tt,
        sided_from (suc a) (j + 1) kinds (record {
          within = omega (arith, within);
          same = λ i l. let x : (j + 1) + i ≡ j + suc i = omega arith in ap at x ∙ are.same (suc i) (omega (arith, l));
        }),
      )
  sided_from a j (Nonpos ∷ kinds) are =
      let within = are.within in (
        tt,
        sided_from (suc a) (j + 1) kinds (record {
          within = omega (arith, within);
          same = λ i l. let x : (j + 1) + i ≡ j + suc i = omega arith in ap at x ∙ are.same (suc i) (omega (arith, l));
        }),
      )

-- ---- of a program that is made of rows
module _ (rows : GivenRows) (q : Program) (zs : List ℚ) (made : IsMade rows q) (count : length zs ≡ length q.columns) where
  slacks : List Bool
  slacks = map has_slack (map (start_of (length rows.kinds)) made.integer.made)

  artificials : List Bool
  artificials = map needs_artificial (map (start_of (length rows.kinds)) made.integer.made)

  front : List ColumnKind
  front = all_unknown_columns 0 rows.kinds

  columns_are : q.columns ≡ (front ++ marked_from Slack 0 slacks) ++ marked_from Artificial 0 artificials
  unfolding front slacks artificials
  columns_are = made.integer.has_columns

  columns_in_front : q.columns ≡ front ++ (marked_from Slack 0 slacks ++ marked_from Artificial 0 artificials)
  columns_in_front = columns_are ∙ append_assoc front (marked_from Slack 0 slacks) (marked_from Artificial 0 artificials)

  front_within : length front ≤ length q.columns
  front_within =
      let parted = ap length columns_in_front in
      let joined = length-append front (marked_from Slack 0 slacks ++ marked_from Artificial 0 artificials) in
      omega (arith, parted, joined)

  same_unknowns : (u : ℕ) → rat_at (unknown_numbers rows.kinds zs) u ≡ unknowns_at q.columns zs u
  unfolding front
  same_unknowns u =
      sym (all_parts rows.kinds slacks artificials zs u) ∙ sym (ap (parts u zs 0) columns_are) ∙ sym (sum_is u zs 0 q.columns)
      ∙ rat_sum_below-same (length q.columns) (λ i. column_part u (kind_at q.columns i) (rat_at zs (0 + i))) (λ i. column_part u (kind_at q.columns i) (rat_at zs i))
      (λ i l. ap (λ n. column_part u (kind_at q.columns i) (rat_at zs n)) (zero-add i))

  are_sided : IsOneSided q.columns zs → AreOneSidedFrom zs 0 rows.kinds
  unfolding front
  are_sided sided =
      sided_from (kind_at q.columns) (length q.columns) zs sided 0 0 rows.kinds (record {
        within = (let within = front_within in omega (arith, within));
        same = λ i l. ap (kind_at q.columns) (zero-add i) ∙ ap (λ ks. kind_at ks i) columns_in_front
            ∙ get_or_append_left front (marked_from Slack 0 slacks ++ marked_from Artificial 0 artificials) (Unknown 0 false) i l;
      })

  pub columns_tell : ColumnsTellUnknowns rows q zs
  unfolding front
  columns_tell = record {
    there = (let within = front_within in let each = unknowns_count 0 rows.kinds in omega (arith, within, each, count));
    one_sided = are_sided;
    same = same_unknowns;
  }
