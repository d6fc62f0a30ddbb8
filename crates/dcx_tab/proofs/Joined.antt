-- Rows one after the other.
use Rattle.std.proofs.Common.{◌≡◌, ℕ, suc, ◌+◌, ◌*◌, ◌<◌, List, [], ◌∷◌, ◌++◌, length, take, arith, refl, sym, ap, ap₂, ◌∙◌, ℤ, append_assoc}
use Rattle.std.proofs.lemmas.List.{append-nil, take_at, drop_at, length-append, take_more}
use Rattle.dcx_tab.specs.Rows.{Row, row_at}
use Rattle.dcx_tab.specs.Cells.{table_rows, joined}

pub joined-append : (a b : List Row) → joined (a ++ b) ≡ joined a ++ joined b
joined-append [] b = refl
joined-append (row ∷ a) b = ap (λ r. row ++ r) (joined-append a b) ∙ sym (append_assoc row (joined a) (joined b))

last_row : (cells row : List ℤ) → cells ++ (row ++ []) ≡ cells ++ row
last_row cells row = ap (λ r. cells ++ r) (append-nil row)

-- one more row
pub joined-more : (cells : List ℤ) (rows : List Row) (i : ℕ) → i < length rows → cells ++ joined (take (i + 1) rows) ≡ (cells ++ joined (take i rows)) ++ row_at rows i
joined-more cells rows i h =
    ap (λ r. cells ++ joined r) (take_more rows i [] h) ∙ ap (λ r. cells ++ r) (joined-append (take i rows) (row_at rows i ∷ []) ∙ last_row (joined (take i rows)) (row_at rows i))
    ∙ sym (append_assoc cells (joined (take i rows)) (row_at rows i))

pub length-joined : (width : ℕ) (rows : List Row) → ((i : ℕ) → i < length rows → length (row_at rows i) ≡ width) → length (joined rows) ≡ length rows * width
length-joined width [] h = omega arith
length-joined width (row ∷ rows) h =
    let e = h 0 (omega arith) in
    let ih = length-joined width rows (λ i l. h (suc i) (omega arith)) in
    omega (arith, length-append row (joined rows), e, ih)

-- taken apart they are the rows again
pub table_rows-joined : (width : ℕ) (rows : List Row) → ((i : ℕ) → i < length rows → length (row_at rows i) ≡ width) → table_rows width (length rows) (joined rows) ≡ rows
table_rows-joined width [] h = refl
table_rows-joined width (row ∷ rows) h =
    let e = h 0 (omega arith) in
    ap₂ ◌∷◌ (take_at row (joined rows) width e) (ap (table_rows width (length rows)) (drop_at row (joined rows) width e) ∙ table_rows-joined width rows (λ i l. h (suc i) (omega arith)))
