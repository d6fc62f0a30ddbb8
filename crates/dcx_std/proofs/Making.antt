-- The steps by which the rows of a program are made in turn.
use Rattle.std.proofs.Common.{◌≡◌, ℕ, zero, suc, ◌+◌, ◌<◌, ◌≤◌, List, [], ◌∷◌, ◌++◌, length, map, get_or, take, drop, Some, None}
use Rattle.std.proofs.Common.{Result, Ok, Err, refl, sym, ap, ap₂, ◌∙◌, subst, arith, append_assoc, Bool, true, false}
use Rattle.std.specs.Prelude.{slice_get, sum_by, if◌then◌else◌}
use Rattle.std.specs.Option.{option_map}
use Rattle.std.specs.List.{All, Contains}
use Rattle.std.proofs.lemmas.List.{map-append, take-append-drop, take_more, append-nil, length-map, length-take-le}
use Rattle.std.proofs.lemmas.List.Sums.{sum_by-cons}
use Rattle.std.proofs.lemmas.Option.{slice_get-map}
use Rattle.std.proofs.lemmas.List.Elements.{All-head, All-tail, All-cons, All-nil}
use Rattle.dcx_math.proofs.Lists.{taken_more}
use Rattle.dcx_frac.specs.declared.fraction.Frac.{Frac}
use Rattle.dcx_frac.specs.declared.fraction.Passes.{Passes}
use Rattle.dcx_linear.specs.declared.row.Row.{Row}
use Rattle.dcx_linear.specs.declared.row.UnknownKind.{UnknownKind}
use Rattle.dcx_linear.specs.declared.row.UnknownKind.TheVariants.{Free, Nonneg, Nonpos}
use Rattle.dcx_answer.specs.declared.site.Site.{Site}
use Rattle.dcx_answer.specs.declared.site.Site.TheVariants as sites
use Rattle.dcx_linear.specs.declared.stop.CoefStop.{CoefStop}
use Rattle.dcx_linear.specs.declared.stop.CoefStop.TheVariants as coef
use Rattle.dcx_linear.specs.Stops.{Gives}
use Rattle.dcx_linear.specs.Widths.{form_width, rows_width}
use Rattle.dcx_linear.proofs.Formed.{drop_at}
use Rattle.dcx_tab.specs.declared.rows.ColumnKind.{ColumnKind}
use Rattle.dcx_tab.specs.declared.rows.IntRow.{IntRow}
use Rattle.dcx_tab.specs.Rows.{AllSmall}
use Rattle.dcx_std.specs.declared.whole.WholeRow.{WholeRow}
use Rattle.dcx_std.specs.declared.start.Start.{Start}
use Rattle.dcx_linear.specs.Size.{columns_for}
use Rattle.dcx_std.specs.Size.{column_count}
use Rattle.dcx_std.specs.WholeRows.{row_numbers, row_made}
use Rattle.dcx_std.specs.Columns.{start_column, unknown_columns, all_unknown_columns, marked_from, columns_of, number_in}
use Rattle.dcx_std.specs.IntegerRows.{start_of, IsMadeOf, AreMadeOf, passing_from, result_at}
use Rattle.dcx_std.specs.declared.stop.RowStop.{RowStop}
use Rattle.dcx_std.specs.declared.stop.RowStop.TheVariants as stops
use Rattle.dcx_std.proofs.WholeRows.{formed_by, whole_small}
use Rattle.dcx_std.proofs.ColumnLaws.{start_there, columns_count, few_columns}
use Rattle.dcx_std.proofs.RowForm.{made_more, row_small}
use Rattle.dcx_std.proofs.ProgramForm.{short_small, wholes_count, starts_slacks}

-- ---- the first that passes
-- behind what is made stands what passes
pub passing_here : {A : Type 0} (i : ℕ) (xs : List A) (passes : Passes) (rest : List (Result A Passes)) → passing_from i (map Ok xs ++ Err passes ∷ rest) ≡ Some (sites.Row (i + length xs) passes)
passing_here i [] passes rest = let z : i ≡ i + 0 = omega arith in ap (λ k. Some (sites.Row k passes)) z
passing_here i (x ∷ xs) passes rest = let z : suc i + length xs ≡ i + suc (length xs) = omega arith in passing_here (suc i) xs passes rest ∙ ap (λ k. Some (sites.Row k passes)) z

-- what is made does not pass
pub passing_none : {A : Type 0} (i : ℕ) (xs : List A) (x : A) → passing_from i (map Ok xs ++ Ok x ∷ []) ≡ None
passing_none i [] x = refl
passing_none i (y ∷ xs) x = passing_none (suc i) xs x

-- what passes in front passes in all
pub passing_front : {A : Type 0} (i : ℕ) (rs ss : List (Result A Passes)) (site : Site) → passing_from i rs ≡ Some site → passing_from i (rs ++ ss) ≡ Some site
passing_front i [] ss site e = cc
passing_front i (Ok x ∷ rs) ss site e = passing_front (suc i) rs ss site e
passing_front i (Err passes ∷ rs) ss site e = e

-- a row passes behind those that are made
pub row_passes : (n : ℕ) (rows : List (Row Frac)) (ws : List WholeRow) (i : ℕ) (row : Row Frac) (passes : Passes) → i < length rows → row ≡ get_or rows i row
    → map Ok ws ≡ map (row_made n) (take i rows) → row_made n row ≡ Err passes
    → passing_from 0 (map (row_made n) rows) ≡ Some (sites.Row i passes)
row_passes n rows ws i row passes l is made e =
    let whole : map (row_made n) rows ≡ map Ok ws ++ Err passes ∷ map (row_made n) (drop (i + 1) rows) =
    ap (map (row_made n)) (sym (take-append-drop i rows) ∙ ap (λ s. take i rows ++ s) (drop_at rows i row l is)) ∙ map-append (row_made n) (take i rows) (row ∷ drop (i + 1) rows)
    ∙ ap₂ (λ a b. a ++ b ∷ map (row_made n) (drop (i + 1) rows)) (sym made) e in
    let count : length ws ≡ i = sym (length-map ws Ok) ∙ ap length made ∙ length-map (take i rows) (row_made n) ∙ length-take-le i rows (omega (arith, l)) in
    let at : 0 + length ws ≡ i = omega (arith, count) in
    ap (passing_from 0) whole ∙ passing_here 0 ws passes (map (row_made n) (drop (i + 1) rows)) ∙ ap (λ k. Some (sites.Row k passes)) at

-- ---- what is known of whole rows
-- their numbers are small
pub wholes_small : (n : ℕ) (rows : List (Row Frac)) (ws : List WholeRow) → map (row_made n) rows ≡ map Ok ws → All (λ w. AllSmall w.numbers) ws
wholes_small n [] [] e = All-nil (λ (w : WholeRow). AllSmall w.numbers)
wholes_small n [] (w ∷ ws) e = cc
wholes_small n (r ∷ rows) [] e = cc
wholes_small n (r ∷ rows) (w ∷ ws) e =
    let m : row_made n r ≡ Ok w = cc in
    let rest : map (row_made n) rows ≡ map Ok ws = cc in
    All-cons (λ (v : WholeRow). AllSmall v.numbers) w ws (whole_small r.kind r.form (row_numbers n r.form) w (formed_by r.kind r.form (row_numbers n r.form) w m)) (wholes_small n rows ws rest)

-- their first basic columns are there
pub wholes_there : (n : ℕ) (kinds : List UnknownKind) (ws : List WholeRow) (i : ℕ) (w : WholeRow) → slice_get ws i ≡ Some w
    → Contains (columns_of kinds (map (start_of n) ws)) (start_column i (start_of n w))
wholes_there n kinds ws i w e = start_there kinds (map (start_of n) ws) i (start_of n w) (slice_get-map (start_of n) ws i ∙ ap (option_map (start_of n)) e)

-- each unknown has a column at least
pub kinds_few : (kinds : List UnknownKind) → length kinds ≤ sum_by columns_for kinds
kinds_few [] = omega arith
kinds_few (Free ∷ kinds) = omega (arith, kinds_few kinds, sum_by-cons columns_for Free kinds)
kinds_few (Nonneg ∷ kinds) = omega (arith, kinds_few kinds, sum_by-cons columns_for Nonneg kinds)
kinds_few (Nonpos ∷ kinds) = omega (arith, kinds_few kinds, sum_by-cons columns_for Nonpos kinds)

-- there are few columns
pub columns_few : (n : ℕ) (kinds : List UnknownKind) (rows : List (Row Frac)) (ws : List WholeRow) → map (row_made n) rows ≡ map Ok ws → length rows ≤ 600 → column_count kinds rows ≤ 2400
    → length (columns_of kinds (map (start_of n) ws)) ≤ 3000
columns_few n kinds rows ws e few h =
    let starts = map (start_of n) ws in
    omega (arith, few_columns kinds starts, columns_count kinds starts, starts_slacks n rows ws e, length-map ws (start_of n), wholes_count n rows ws e, few, h)

-- rows have as many entries as there are columns
pub made_widths : (columns : List ColumnKind) (n i : ℕ) (ws : List WholeRow) (rs : List IntRow) → AreMadeOf columns n i ws rs → All (λ r. length r.entries ≡ length columns) rs
made_widths columns n i [] [] h = All-nil (λ (r : IntRow). length r.entries ≡ length columns)
made_widths columns n i [] (r ∷ rs) h = absurd h
made_widths columns n i (w ∷ ws) [] h = absurd h
made_widths columns n i (w ∷ ws) (r ∷ rs) h =
    All-cons (λ (s : IntRow). length s.entries ≡ length columns) r rs (ap length h.0.entries ∙ length-map columns (number_in i (start_of n w).negated w.numbers))
    (made_widths columns n (suc i) ws rs h.1)

-- ---- one more row
pub row_made_more : (columns : List ColumnKind) (n : ℕ) (ws : List WholeRow) (i : ℕ) (w : WholeRow) (rs ss : List IntRow) (r : IntRow) → i < length ws → w ≡ get_or ws i w
    → AreMadeOf columns n 0 (take i ws) rs → IsMadeOf columns n i w r → ss ≡ rs ++ r ∷ [] → AreMadeOf columns n 0 (take (i + 1) ws) ss
row_made_more columns n ws i w rs ss r l is h m e =
    let z : i ≡ 0 + length (take i ws) = omega (arith, length-take-le i ws (omega (arith, l))) in
    subst (λ vs. AreMadeOf columns n 0 vs ss) (sym (taken_more ws i w l is))
    (subst (AreMadeOf columns n 0 (take i ws ++ w ∷ [])) (sym e) (made_more columns n 0 (take i ws) rs w r h (subst (λ k. IsMadeOf columns n k w r) z m)))

-- ---- one more marked row, and one more unknown
pub marked_more : (column : ℕ → ColumnKind) (i : ℕ) (bs : List Bool) (b : Bool) → marked_from column i (bs ++ b ∷ []) ≡ marked_from column i bs ++ (if b then column (i + length bs) ∷ [] else [])
marked_more column i [] b = by b
  where
    z : i ≡ i + 0
    z = omega arith

    by : (t : Bool) → (if t then column i ∷ [] else []) ≡ (if t then column (i + 0) ∷ [] else [])
    by true = ap (λ k. column k ∷ []) z
    by false = refl
marked_more column i (true ∷ bs) b = let z : suc i + length bs ≡ i + suc (length bs) = omega arith in
    ap (λ ks. column i ∷ ks) (marked_more column (suc i) bs b ∙ ap (λ k. marked_from column (suc i) bs ++ (if b then column k ∷ [] else [])) z)
marked_more column i (false ∷ bs) b = let z : suc i + length bs ≡ i + suc (length bs) = omega arith in marked_more column (suc i) bs b
    ∙ ap (λ k. marked_from column (suc i) bs ++ (if b then column k ∷ [] else [])) z

-- the columns of the rows up to one more
pub marked_next : (column : ℕ → ColumnKind) (mark : Start → Bool) (ss : List Start) (i : ℕ) → i < length ss → (d : Start) {b : Bool} → b ≡ mark (get_or ss i d)
    → marked_from column 0 (map mark (take (i + 1) ss)) ≡ marked_from column 0 (map mark (take i ss)) ++ (if b then column i ∷ [] else [])
marked_next column mark ss i l d {b} e =
    let z : 0 + length (map mark (take i ss)) ≡ i = omega (arith, length-map (take i ss) mark, length-take-le i ss (omega (arith, l))) in
    ap (λ ts. marked_from column 0 (map mark ts)) (take_more ss i d l) ∙ ap (marked_from column 0) (map-append mark (take i ss) (get_or ss i d ∷ []))
    ∙ marked_more column 0 (map mark (take i ss)) (mark (get_or ss i d))
    ∙ ap (λ k. marked_from column 0 (map mark (take i ss)) ++ (if mark (get_or ss i d) then column k ∷ [] else [])) z
    ∙ ap (λ t. marked_from column 0 (map mark (take i ss)) ++ (if t then column i ∷ [] else [])) (sym e)

unknowns_more : (u : ℕ) (kinds : List UnknownKind) (kind : UnknownKind) → all_unknown_columns u (kinds ++ kind ∷ []) ≡ all_unknown_columns u kinds ++ unknown_columns (u + length kinds) kind
unknowns_more u [] kind = let z : u ≡ u + 0 = omega arith in append-nil (unknown_columns u kind) ∙ ap (λ k. unknown_columns k kind) z
unknowns_more u (k ∷ kinds) kind =
    let z : suc u + length kinds ≡ u + suc (length kinds) = omega arith in
    ap (λ ks. unknown_columns u k ++ ks) (unknowns_more (suc u) kinds kind ∙ ap (λ v. all_unknown_columns (suc u) kinds ++ unknown_columns v kind) z)
    ∙ sym (append_assoc (unknown_columns u k) (all_unknown_columns (suc u) kinds) (unknown_columns (u + suc (length kinds)) kind))

-- the columns of the unknowns up to one more
pub unknowns_next : (kinds : List UnknownKind) (i : ℕ) (d : UnknownKind) → i < length kinds
    → all_unknown_columns 0 (take (i + 1) kinds) ≡ all_unknown_columns 0 (take i kinds) ++ unknown_columns i (get_or kinds i d)
unknowns_next kinds i d l =
    let z : 0 + length (take i kinds) ≡ i = omega (arith, length-take-le i kinds (omega (arith, l))) in
    ap (all_unknown_columns 0) (take_more kinds i d l) ∙ unknowns_more 0 (take i kinds) (get_or kinds i d) ∙ ap (λ k. all_unknown_columns 0 (take i kinds) ++ unknown_columns k (get_or kinds i d)) z

-- the columns with those of one more unknown
pub unknown_step : (kinds : List UnknownKind) (i : ℕ) (d : UnknownKind) (old now new : List ColumnKind) → i < length kinds → now ≡ old ++ all_unknown_columns 0 (take i kinds)
    → new ≡ now ++ unknown_columns i (get_or kinds i d) → new ≡ old ++ all_unknown_columns 0 (take (i + 1) kinds)
unknown_step kinds i d old now new l h e =
    e ∙ ap (λ a. a ++ unknown_columns i (get_or kinds i d)) h ∙ append_assoc old (all_unknown_columns 0 (take i kinds)) (unknown_columns i (get_or kinds i d))
    ∙ ap (λ a. old ++ a) (sym (unknowns_next kinds i d l))

-- ---- results at a row
-- what a stop at a row says where the operation has one answer
pub stops_so : {T : Type 0} (row : ℕ) (r : Result T CoefStop) (e : RowStop) (P : RowStop → Type 0) (formed : Result T Passes) → result_at row r ≡ Err e → Gives r (λ a. a ≡ formed) → P stops.Memory
    → ((passes : Passes) → formed ≡ Err passes → P (stops.Wide (sites.Row row passes))) → P e
stops_so row (Ok y) e P formed h g memory wide = cc
stops_so row (Err (coef.Passes passes)) e P formed h g memory wide = let d : stops.Wide (sites.Row row passes) ≡ e = cc in subst P d (wide passes (sym g))
stops_so row (Err coef.Memory) e P formed h g memory wide = let d : stops.Memory ≡ e = cc in subst P d memory

-- what is made at a row
pub gives_so : {T : Type 0} (row : ℕ) (r : Result T CoefStop) (x : T) (formed : Result T Passes) → result_at row r ≡ Ok x → Gives r (λ a. a ≡ formed) → formed ≡ Ok x
gives_so row (Ok y) x formed h g = let d : y ≡ x = cc in sym g ∙ ap Ok d
gives_so row (Err stop) x formed h g = cc

-- ---- one more row is made
pub made_next : (n : ℕ) (rows : List (Row Frac)) (i : ℕ) (row : Row Frac) (ws vs : List WholeRow) (w : WholeRow) → i < length rows → row ≡ get_or rows i row
    → map Ok ws ≡ map (row_made n) (take i rows) → row_made n row ≡ Ok w → vs ≡ ws ++ w ∷ []
    → map Ok vs ≡ map (row_made n) (take (i + 1) rows)
made_next n rows i row ws vs w l is made e v =
    ap (map {B = Result WholeRow Passes} Ok) v ∙ map-append {B = Result WholeRow Passes} Ok ws (w ∷ []) ∙ ap₂ (λ a b. a ++ b ∷ []) made (sym e)
    ∙ sym (map-append (row_made n) (take i rows) (row ∷ [])) ∙ ap (map (row_made n)) (sym (taken_more rows i row l is))

-- a row of the rows is no wider than they are
pub row_narrow : (rows : List (Row Frac)) (n i : ℕ) (row : Row Frac) → rows_width rows ≤ n → slice_get rows i ≡ Some row → form_width row.form ≤ n
row_narrow [] n i row h e = cc
row_narrow (r ∷ rows) n zero row h e = let d : r ≡ row = cc in subst (λ (s : Row Frac). form_width s.form ≤ n) d (omega (arith, h))
row_narrow (r ∷ rows) n (suc i) row h e = row_narrow rows n i row (omega (arith, h)) e

-- the rows' numbers are small
pub made_smalls : (columns : List ColumnKind) (n i : ℕ) (ws : List WholeRow) (rs : List IntRow) → AreMadeOf columns n i ws rs → All (λ w. AllSmall w.numbers) ws
    → All (λ r. AllSmall (r.entries ++ r.right ∷ [])) rs
made_smalls columns n i [] [] h k = All-nil (λ (r : IntRow). AllSmall (r.entries ++ r.right ∷ []))
made_smalls columns n i [] (r ∷ rs) h k = absurd h
made_smalls columns n i (w ∷ ws) [] h k = absurd h
made_smalls columns n i (w ∷ ws) (r ∷ rs) h k =
    let small : AllSmall w.numbers = All-head (λ (v : WholeRow). AllSmall v.numbers) w ws k in
    let rest : All (λ (v : WholeRow). AllSmall v.numbers) ws = All-tail (λ (v : WholeRow). AllSmall v.numbers) w ws k in
    All-cons (λ (s : IntRow). AllSmall (s.entries ++ s.right ∷ [])) r rs (short_small r.entries r.right (row_small columns n i w r h.0 small)) (made_smalls columns n (suc i) ws rs h.1 rest)
