-- The program that whole rows make up.
use Rattle.std.proofs.Common.{◌≡◌, ℕ, suc, ◌≤◌, arith, List, [], ◌∷◌, ◌++◌, length, map, Result, Ok, Err, Some, refl, sym, ap, ap₂, ◌∙◌, subst}
use Rattle.std.specs.Prelude.{slice_get}
use Rattle.std.proofs.lemmas.List.{length-map}
use Rattle.std.specs.List.{All, Contains}
use Rattle.dcx_linear.specs.declared.row.RowKind.TheVariants.{Equal}
use Rattle.dcx_linear.specs.declared.row.UnknownKind.{UnknownKind}
use Rattle.dcx_linear.specs.declared.stop.CoefStop.{CoefStop}
use Rattle.dcx_linear.specs.Stops.{Gives}
use Rattle.dcx_tab.specs.declared.program.Program.{Program}
use Rattle.dcx_tab.specs.declared.rows.ColumnKind.{ColumnKind}
use Rattle.dcx_tab.specs.declared.rows.CostRow.{CostRow}
use Rattle.dcx_tab.specs.declared.rows.IntRow.{IntRow}
use Rattle.dcx_tab.specs.Program.{IsProgram, plain_count}
use Rattle.dcx_tab.specs.Rows.{AllSmall}
use Rattle.dcx_std.specs.declared.program.WholeProgram.{WholeProgram}
use Rattle.dcx_std.specs.declared.start.Start.{Start}
use Rattle.dcx_std.specs.declared.stop.RowStop.{RowStop}
use Rattle.dcx_std.specs.declared.whole.WholeRow.{WholeRow}
use Rattle.dcx_std.specs.GivenRows.{GivenRows}
use Rattle.dcx_std.specs.WholeRows.{cost_numbers}
use Rattle.dcx_std.specs.Columns.{plain_columns_of, artificial_columns, columns_of, start_column}
use Rattle.dcx_std.specs.IntegerRows.{start_of, AreMadeOf, IsCostOf, phase_made, passing_from, result_at, IsFitting, AreWhole, IsStopOf, IsMade}
use Rattle.dcx_std.proofs.WholeRows.{formed_by, whole_small}
use Rattle.dcx_std.proofs.ColumnLaws.{plain_length}
use Rattle.dcx_std.proofs.ProgramForm.{program_form, wholes_count}
use Rattle.dcx_std.proofs.Making.{wholes_small, wholes_there, columns_few, made_widths, made_smalls, gives_so, passing_none}
use Rattle.dcx_std.proofs.Stopping.{phase_stop}

-- ---- the rows are few
pub rows_few : (rows : GivenRows) (w : WholeProgram) (vs : List WholeRow) → IsFitting rows → AreWhole rows w → vs ≡ w.rows.items → length vs ≤ 600
rows_few rows w vs fits whole v =
    let count = wholes_count (length rows.kinds) rows.rows w.rows.items whole.are in
    let same = ap length v in
    omega (arith, count, same, fits.0)

pub starts_few : (n : ℕ) (vs : List WholeRow) (starts read : List Start) → length vs ≤ 600 → starts ≡ map (start_of n) vs → read ≡ starts → length read ≤ 600
starts_few n vs starts read few s e =
    let same = ap length (e ∙ s) ∙ length-map vs (start_of n) in
    omega (arith, same, few)

-- ---- the columns, put one after the other
module _ (kinds ks : List UnknownKind) (ws vs : List WholeRow) (starts first second : List Start) (plain : List ColumnKind)
    (k : ks ≡ kinds) (v : vs ≡ ws) (s : starts ≡ map (start_of (length ks)) vs) (f : first ≡ starts) (g : second ≡ starts) (p : plain ≡ plain_columns_of ks first) where
  starts_are : starts ≡ map (start_of (length kinds)) ws
  starts_are = s ∙ ap₂ (λ a b. map (start_of (length a)) b) k v

  plain_are : plain ≡ plain_columns_of kinds (map (start_of (length kinds)) ws)
  plain_are = p ∙ ap₂ plain_columns_of k (f ∙ starts_are)

  pub columns_are : (cs all : List ColumnKind) → all ≡ plain ++ artificial_columns second → cs ≡ all → cs ≡ columns_of kinds (map (start_of (length kinds)) ws)
  columns_are cs all h e = e ∙ h ∙ ap₂ (λ a b. a ++ artificial_columns b) plain_are (g ∙ starts_are)

  pub plain_is : (cs : List ColumnKind) (m : ℕ) → m ≡ length plain → cs ≡ columns_of kinds (map (start_of (length kinds)) ws) → m ≡ plain_count cs
  plain_is cs m l e = l ∙ ap length plain_are ∙ sym (plain_length kinds (map (start_of (length kinds)) ws)) ∙ ap plain_count (sym e)

-- ---- the parts of the program
module _ (rows : GivenRows) (w : WholeProgram) (fits : IsFitting rows) (whole : AreWhole rows w) (ks : List UnknownKind) (vs : List WholeRow) (cs : List ColumnKind)
    (k : ks ≡ rows.kinds) (v : vs ≡ w.rows.items) (a : cs ≡ columns_of rows.kinds (map (start_of (length rows.kinds)) w.rows.items)) where
  abbrev n : ℕ
  n = length rows.kinds

  abbrev ws : List WholeRow
  ws = w.rows.items

  pub small_rows : All (λ u. AllSmall u.numbers) vs
  small_rows = subst (All (λ (u : WholeRow). AllSmall u.numbers)) (sym v) (wholes_small (length rows.kinds) rows.rows w.rows.items whole.are)

  pub there_all : (i : ℕ) (u : WholeRow) → slice_get vs i ≡ Some u → Contains cs (start_column i (start_of (length ks) u))
  there_all i u e =
      let all = columns_of rows.kinds (map (start_of (length rows.kinds)) w.rows.items) in
      let d : slice_get w.rows.items i ≡ Some u = ap (λ (s : List WholeRow). slice_get s i) (sym v) ∙ e in
      let h : Contains all (start_column i (start_of (length rows.kinds) u)) = wholes_there (length rows.kinds) rows.kinds w.rows.items i u d in
      let g : Contains all (start_column i (start_of (length ks) u)) = subst (λ m. Contains all (start_column i (start_of m u))) (sym (ap length k)) h in
      subst (λ xs. Contains xs (start_column i (start_of (length ks) u))) (sym a) g

  pub few_all : length cs ≤ 3000
  few_all = let h = columns_few (length rows.kinds) rows.kinds rows.rows w.rows.items whole.are fits.0 fits.1 in subst (λ (xs : List ColumnKind). length xs ≤ 3000) (sym a) h

  pub cost_all : AllSmall w.cost.numbers
  cost_all = whole_small Equal rows.objective (cost_numbers (length rows.kinds) rows.objective) w.cost
      (formed_by Equal rows.objective (cost_numbers (length rows.kinds) rows.objective) w.cost whole.cost)

  rows_of : (ints : List IntRow) → AreMadeOf cs (length ks) 0 vs ints → AreMadeOf cs (length rows.kinds) 0 w.rows.items ints
  rows_of ints h = subst (λ m. AreMadeOf cs m 0 w.rows.items ints) (ap length k) (subst (λ xs. AreMadeOf cs (length ks) 0 xs ints) v h)

  pub widths_all : (ints is : List IntRow) → AreMadeOf cs (length ks) 0 vs ints → is ≡ ints → All (λ r. length r.entries ≡ length cs) is
  widths_all ints is h e = subst (All (λ (r : IntRow). length r.entries ≡ length cs)) (sym e) (made_widths cs (length ks) 0 vs ints h)

  pub smalls_all : (ints is : List IntRow) → AreMadeOf cs (length ks) 0 vs ints → is ≡ ints → All (λ r. AllSmall (r.entries ++ r.right ∷ [])) is
  smalls_all ints is h e = subst (All (λ (r : IntRow). AllSmall (r.entries ++ r.right ∷ []))) (sym e) (made_smalls cs (length ks) 0 vs ints h small_rows)

  -- the phase 1 row
  pub number_is : (number : ℕ) → number ≡ suc (length vs) → number ≡ suc (length rows.rows)
  number_is number e = e ∙ ap (λ (xs : List WholeRow). suc (length xs)) v ∙ ap suc (wholes_count (length rows.kinds) rows.rows w.rows.items whole.are)

  module _ (ints is : List IntRow) (made : AreMadeOf cs (length ks) 0 vs ints) (same : is ≡ ints) (m number : ℕ) (plain : m ≡ plain_count cs) (at : number ≡ suc (length vs))
      (r : Result CostRow CoefStop)
      (gives : Gives r (λ b. b ≡ phase_made m (length cs) is)) where
    summed : Gives r (λ b. b ≡ phase_made (plain_count cs) (length cs) ints)
    summed = subst (λ q. Gives r (λ b. b ≡ q)) (ap₂ (λ x y. phase_made x (length cs) y) plain same) gives

    pub stop_all : (e : RowStop) → result_at number r ≡ Err e → IsStopOf rows e
    stop_all e h = phase_stop rows fits w.rows.items w.cost cs ints r e (sym whole.are) whole.cost a (rows_of ints made) (ap (λ j. result_at j r) (sym (number_is number at)) ∙ h) summed

    phase_is : (phase : CostRow) → result_at number r ≡ Ok phase → phase_made (plain_count cs) (length cs) ints ≡ Ok phase
    phase_is phase h = gives_so number r phase (phase_made (plain_count cs) (length cs) ints) h summed

    cost_of : (objective : CostRow) → IsCostOf cs (length ks) w.cost objective → IsCostOf cs (length rows.kinds) w.cost objective
    cost_of objective h = subst (λ j. IsCostOf cs j w.cost objective) (ap length k) h

    form_here : (xs : List ColumnKind) (objective phase : CostRow) → xs ≡ columns_of rows.kinds (map (start_of (length rows.kinds)) w.rows.items)
        → AreMadeOf xs (length rows.kinds) 0 w.rows.items ints → IsCostOf xs (length rows.kinds) w.cost objective
        → phase_made (plain_count xs) (length xs) ints ≡ Ok phase → IsProgram ints xs objective phase
    form_here xs objective phase e = subst
        (λ ys. AreMadeOf ys (length rows.kinds) 0 w.rows.items ints → IsCostOf ys (length rows.kinds) w.cost objective → phase_made (plain_count ys) (length ys) ints ≡ Ok phase
        → IsProgram ints ys objective phase)
        (sym e)
        (λ h c s. program_form (length rows.kinds) rows.kinds rows.rows rows.objective w.rows.items w.cost ints objective phase refl whole.are whole.cost h c s fits.0 fits.1)

    pub form_all : (xs : List ColumnKind) (rs : List IntRow) (objective phase : CostRow) → rs ≡ ints → xs ≡ cs → IsCostOf cs (length ks) w.cost objective → result_at number r ≡ Ok phase
        → IsProgram rs xs objective phase
    form_all xs rs objective phase d e c h =
        let f : IsProgram ints cs objective phase = form_here cs objective phase a (rows_of ints made) (cost_of objective c) (phase_is phase h) in
        subst (λ zs. IsProgram zs xs objective phase) (sym d) (subst (λ ys. IsProgram ints ys objective phase) (sym e) f)

    pub made_all : (q : Program) → q.rows ≡ ints → q.columns ≡ cs → IsCostOf cs (length ks) w.cost q.objective → result_at number r ≡ Ok q.phase → IsMade rows q
    made_all q d e c h = record {
      fits = fits;
      sparse = whole.sparse;
      sparse_cost = whole.sparse_cost;
      passes = ap₂ (λ x y. passing_from 0 (x ++ y ∷ [])) whole.are whole.cost ∙ passing_none 0 w.rows.items w.cost;
      integer = record {
        made = w.rows.items;
        are = whole.are;
        has_columns = e ∙ a;
        ints_are = subst (λ ys. AreMadeOf ys (length rows.kinds) 0 w.rows.items q.rows) (sym e) (subst (AreMadeOf cs (length rows.kinds) 0 w.rows.items) (sym d) (rows_of ints made));
      };
      cost = w.cost;
      cost_is = whole.cost;
      objective = subst (λ ys. IsCostOf ys (length rows.kinds) w.cost q.objective) (sym e) (cost_of q.objective c);
      phase = ap₂ (λ x y. phase_made (plain_count x) (length x) y) e d ∙ phase_is q.phase h;
    }
