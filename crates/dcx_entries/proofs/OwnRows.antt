-- The rows of a graph that belong to an entry, among the rows of it and later entries.
use Rattle.std.proofs.Common.{◌≡◌, ℕ, zero, suc, ◌+◌, ◌-◌, ◌<◌, ◌≤◌, add-one, Bool, true, false, cond, ◌==◌, List, [], ◌∷◌, ◌++◌, map}
use Rattle.std.proofs.Common.{length, get_or, take, drop, refl, sym, ap, ap₂, ◌∙◌, subst, arith, append_assoc}
use Rattle.std.specs.List.{prefix_len}
use Rattle.std.proofs.lemmas.List.{append-nil, append_cancel_left}
use Rattle.std.proofs.lemmas.List.Sums.{prefix_len-le-length}
use Rattle.std.proofs.lemmas.Bool.{eq-eqb, ne_eqb}
use Rattle.dcx_atom.specs.declared.graph.GraphRow.{GraphRow}
use Rattle.dcx_atom.specs.Rows.{Row}
use Rattle.dcx_atom.specs.Graph.{row_term, PlacedRow, placed_row, rows_below}

-- these rows, placed at entry j
abbrev pub block : ℕ → List Row → List PlacedRow
block j rs = map (λ row. record { entry = j; row = row }) rs

-- each belongs to entry j
abbrev pub Own : ℕ → List PlacedRow → Type 0
Own j [] = Unit {0}
Own j (r ∷ rs) = (r.entry ≡ j) × Own j rs

-- each belongs to entry j or a later one
abbrev pub From : ℕ → List PlacedRow → Type 0
From j [] = Unit {0}
From j (r ∷ rs) = (j ≤ r.entry) × From j rs

block_own : (j : ℕ) (rs : List Row) → Own j (block j rs)
block_own j [] = tt
block_own j (r ∷ rs) = (refl, block_own j rs)

block_from : (j k : ℕ) (rs : List Row) → j ≤ k → From j (block k rs)
block_from j k [] le = tt
block_from j k (r ∷ rs) le = (le, block_from j k rs le)

From-append : (j : ℕ) (xs ys : List PlacedRow) → From j xs → From j ys → From j (xs ++ ys)
From-append j [] ys h k = k
From-append j (x ∷ xs) ys h k = (h.0, From-append j xs ys h.1 k)

-- the rows behind those of the first j entries
pub record Behind (rows : ℕ → List Row) (j n : ℕ) : Type 0 where
  pub later : List PlacedRow
  pub are : rows_below n rows ≡ rows_below j rows ++ later
  pub from : From j later

behind : (rows : ℕ → List Row) (j d n : ℕ) → n ≡ j + d → Behind rows j n
behind rows j zero n e =
    let same : n ≡ j = omega (arith, e) in
    record { later = []; are = ap (λ k. rows_below k rows) same ∙ sym (append-nil (rows_below j rows)); from = tt }
behind rows j (suc d) n e =
    let h = behind rows j d (j + d) refl in
    let next : n ≡ suc (j + d) = omega (arith, e) in
    record {
      later = h.later ++ block (j + d) (rows (j + d));
      are = ap (λ k. rows_below k rows) next ∙ ap (λ l. l ++ block (j + d) (rows (j + d))) h.are ∙ append_assoc (rows_below j rows) h.later (block (j + d) (rows (j + d)));
      from = From-append j h.later (block (j + d) (rows (j + d))) h.from (block_from j (j + d) (rows (j + d)) (omega arith));
    }

-- a list begins with one more
one_more : (n m : ℕ) → m ≡ 1 + n → m ≡ suc n
one_more n m e = omega (arith, e)

-- what stands at the front of a list, and behind it
first_is : {A : Type 0} (x y : A) (xs ys : List A) → x ∷ xs ≡ y ∷ ys → x ≡ y
first_is x y xs ys e = ap (λ l. get_or l 0 x) e

others_are : {A : Type 0} (x y : A) (xs ys : List A) → x ∷ xs ≡ y ∷ ys → xs ≡ ys
others_are x y xs ys e = ap (λ l. drop 1 l) e

module _ (j : ℕ) where
  abbrev is_own : GraphRow → Bool
  is_own r = r.entry == j

  -- the front of the rows has those of the entry, and the rest those of later ones
  abbrev Splits : List GraphRow → ℕ → List PlacedRow → List PlacedRow → Type 0
  Splits rest n own later = (map placed_row (take n rest) ≡ own) × (map placed_row (drop n rest) ≡ later)

  own_split : (rest : List GraphRow) (own later : List PlacedRow) → map placed_row rest ≡ own ++ later → Own j own → From (j + 1) later → Splits rest (prefix_len is_own rest) own later
  own_split [] [] later e h k = (refl, e)
  own_split [] (o ∷ own) later e h k = absurd cc
  own_split (r ∷ rest) [] [] e h k = absurd cc
  own_split (r ∷ rest) [] (l ∷ later) e h k =
      let same : r.entry ≡ l.entry = ap (λ x. x.entry) (first_is (placed_row r) l (map placed_row rest) later e) in
      let no : is_own r ≡ false = ne_eqb r.entry j (λ i. omega (arith, i, same, k.0)) in
      let none : prefix_len is_own (r ∷ rest) ≡ 0 = ap (λ b. cond b (1 + prefix_len is_own rest) 0) no in
      subst (λ n. Splits (r ∷ rest) n [] (l ∷ later)) (sym none) (refl, e)
  own_split (r ∷ rest) (o ∷ own) later e h k =
      let first : placed_row r ≡ o = first_is (placed_row r) o (map placed_row rest) (own ++ later) e in
      let yes : is_own r ≡ true = eq-eqb r.entry j (ap (λ x. x.entry) first ∙ h.0) in
      let more : prefix_len is_own (r ∷ rest) ≡ suc (prefix_len is_own rest) = one_more (prefix_len is_own rest) (prefix_len is_own (r ∷ rest)) (ap (λ b. cond b (1 + prefix_len is_own rest) 0) yes) in
      let s = own_split rest own later (others_are (placed_row r) o (map placed_row rest) (own ++ later) e) h.1 k in
      subst (λ n. Splits (r ∷ rest) n (o ∷ own) later) (sym more) (ap₂ ◌∷◌ first s.0, s.1)

-- the rows without their entries
rows_in : (rs : List GraphRow) → map (λ x. x.row) (map placed_row rs) ≡ map (λ r. map row_term r.terms) rs
rows_in [] = refl
rows_in (r ∷ rs) = ap (λ l. map row_term r.terms ∷ l) (rows_in rs)

rows_out : (j : ℕ) (rs : List Row) → map (λ x. x.row) (block j rs) ≡ rs
rows_out j [] = refl
rows_out j (r ∷ rs) = ap (λ l. r ∷ l) (rows_out j rs)

-- among the rows that are left at entry j, the first ones are its own, and the others are those left at the next entry
pub record AreLeft (rows : ℕ → List Row) (j n : ℕ) (rest : List GraphRow) : Type 0 where
  pub are : rows_below n rows ≡ rows_below j rows ++ map placed_row rest

abbrev pub own_count : ℕ → List GraphRow → ℕ
own_count j rest = prefix_len (λ r. r.entry == j) rest

pub record OwnThenLeft (rows : ℕ → List Row) (j n : ℕ) (rest : List GraphRow) : Type 0 where
  pub own : map (λ r. map row_term r.terms) (take (own_count j rest) rest) ≡ rows j
  pub left : AreLeft rows (j + 1) n (drop (own_count j rest) rest)

pub own_then_left : (rows : ℕ → List Row) (j n : ℕ) (rest : List GraphRow) → j < n → AreLeft rows j n rest → OwnThenLeft rows j n rest
own_then_left rows j n rest lt h =
    let b = behind rows (j + 1) (n - (j + 1)) n (omega (arith, lt)) in
    let next : rows_below (j + 1) rows ≡ rows_below j rows ++ block j (rows j) = ap (λ k. rows_below k rows) (add-one j) in
    let whole : rows_below j rows ++ map placed_row rest ≡ rows_below j rows ++ (block j (rows j) ++ b.later) =
    sym h.are ∙ b.are ∙ ap (λ l. l ++ b.later) next ∙ append_assoc (rows_below j rows) (block j (rows j)) b.later in
    let s = own_split j rest (block j (rows j)) b.later (append_cancel_left (rows_below j rows) (map placed_row rest) (block j (rows j) ++ b.later) whole) (block_own j (rows j)) b.from in
    record {
      own = sym (rows_in (take (own_count j rest) rest)) ∙ ap (λ l. map (λ x. x.row) l) s.0 ∙ rows_out j (rows j);
      left = record { are = b.are ∙ ap (λ l. rows_below (j + 1) rows ++ l) (sym s.1) };
    }

-- at first all rows are left
pub all_left : (rows : ℕ → List Row) (n : ℕ) (all : List GraphRow) → map placed_row all ≡ rows_below n rows → AreLeft rows 0 n all
all_left rows n all e = record { are = sym e }

-- what is made of the rows is made of their terms
pub made_of_own : {B : Type 0} (f : Row → B) (rs : List GraphRow) → map (λ r. f (map row_term r.terms)) rs ≡ map f (map (λ r. map row_term r.terms) rs)
made_of_own f [] = refl
made_of_own f (r ∷ rs) = ap (λ l. f (map row_term r.terms) ∷ l) (made_of_own f rs)

-- there are no more of them than rows
pub own_count_le : (j : ℕ) (rest : List GraphRow) → own_count j rest ≤ length rest
own_count_le j rest = prefix_len-le-length {X = GraphRow} (λ r. r.entry == j) rest
