-- A cell leaves its place and is free.
use Rattle.std.proofs.Common.{◌≡◌, ◌≢◌, ℕ, ◌<◌, inl, inr, List, [], ◌∷◌, length, get_or, set, Option, Some, None, IfSome, refl, sym, subst, ap, ◌∙◌, arith, pos}
use Rattle.std.proofs.lemmas.Bool.{cases_eq}
use Rattle.std.proofs.Math.ListN.{length-set}
use Rattle.dcx_links.specs.declared.store.Cell.{Cell}
use Rattle.dcx_links.specs.declared.store.Store.{Store}
use Rattle.dcx_links.specs.Lines.{none, Has, IsFrom, IsSpot, AreApart, AreLines, link_of}
use Rattle.dcx_links.specs.Cells.{head_at, cell_at, IsAt, InRow, InColumn, IsStore, IsSound, cell_number, number_in, next_in_row_at, next_in_column_at}
use Rattle.dcx_links.specs.Cells.{bound_in_row, bound_in_column, with_next_in_row, with_next_in_column, with_head, AreFree}
use Rattle.dcx_links.proofs.Lines.{lines_without, spot_lands, not_own}
use Rattle.dcx_links.proofs.Numbers.{at_within, other_cell, number_is, number_none, cell_or, cell_there}
use Rattle.dcx_links.proofs.Stores.{cell_read, row_apart, column_apart}
use Rattle.dcx_links.proofs.Inserts.{set_same, set_other, read_row, read_column, row_to, row_other, column_to, column_other, length_row, length_column, length_head}
use Rattle.dcx_links.proofs.Inserts.{new_link, head_same, free_kept, not_numbered}

-- the other links
links_but : (At : ℕ → ℕ → ℕ → Type 0) (apart : AreApart At) (heads : List ℕ) (r : ℕ) (within : r < length heads) (s : Option ℕ) (b to : ℕ) (from : IsFrom At r s b) (next next' : ℕ → ℕ) (j : ℕ)
    → ((k : ℕ) (l q : ℕ) → At k l q → k ≢ j → s ≢ Some k → next' k ≡ next k) → (l : ℕ) (t : Option ℕ) (a : ℕ) → IsFrom At l t a → t ≢ Some j → (l ≡ r → t ≢ s)
    → link_of (head_at (with_head heads r s to)) next' l t ≡ link_of (head_at heads) next l t
links_but At apart heads r within s b to from next next' j h l None a f dj d = head_same At apart heads r within s b to from next next' l s d
links_but At apart heads r within s b to from next next' j h l (Some i) a (q, at, e) dj d = h i l q at (λ z. dj (ap Some z)) (λ es.
    let g : IsFrom At r (Some i) b = subst (λ (x : Option ℕ). IsFrom At r x b) es from in
    d (apart.one_line i l r q g.0 at g.1) (sym es))

pub has_zero : (cells : List Cell) (ks : List ℕ) (head k : ℕ) → AreFree cells head ks → Has ks k → (cell_at cells k).value ≡ pos 0
has_zero cells [] head k f h = absurd h
has_zero cells (m ∷ ks) head k f h = elim h [
  | inl e ↦ subst (λ n. (cell_at cells n).value ≡ pos 0) (sym e) f.2
  | inr g ↦ has_zero cells ks (next_in_row_at cells m) k f.4 g
]

module _ (cells : List Cell) (rh ch : List ℕ) (free : ℕ) (store : IsStore cells rh ch free) (r c : ℕ) (row_in : r < length rh) (column_in : c < length ch)
    (j : ℕ) (here : IsAt cells j r c)
    (s : Option ℕ) (b link : ℕ) (in_row : IsSpot (InRow cells) r c s b link) (row_is : link ≡ link_of (head_at rh) (next_in_row_at cells) r s)
    (t : Option ℕ) (d link' : ℕ) (in_column : IsSpot (InColumn cells) c r t d link') (column_is : link' ≡ link_of (head_at ch) (next_in_column_at cells) c t)
    (z : Cell) (z_zero : z.value ≡ pos 0) (z_next : z.next_in_row ≡ free) where
  abbrev one : List Cell
  one = with_next_in_row cells s (next_in_row_at cells j)

  abbrev two : List Cell
  two = with_next_in_column one t (next_in_column_at cells j)

  abbrev pub less : List Cell
  less = set two j z

  j_in : j < length cells
  j_in = at_within cells j here.number

  two_length : length two ≡ length cells
  two_length = length_column one t (next_in_column_at cells j) ∙ length_row cells s (next_in_row_at cells j)

  pub less_length : length less ≡ length cells
  less_length = length-set two j z ∙ two_length

  j_two : j < length two
  j_two = omega (arith, two_length, j_in)

  row_in_cells : (l : ℕ) (u : Option ℕ) (a : ℕ) → IsFrom (InRow cells) l u a → IfSome u (λ i. i < length cells)
  row_in_cells l None a f = tt
  row_in_cells l (Some i) a (q, at, e) = at_within cells i at.number

  column_in_one : (l : ℕ) (u : Option ℕ) (a : ℕ) → IsFrom (InColumn cells) l u a → IfSome u (λ i. i < length one)
  column_in_one l None a f = tt
  column_in_one l (Some i) a (q, at, e) = let y = at_within cells i at.number in let n = length_row cells s (next_in_row_at cells j) in omega (arith, y, n)

  pub s_in : IfSome s (λ i. i < length cells)
  s_in = row_in_cells r s b in_row.from

  pub t_in : IfSome t (λ i. i < length one)
  t_in = column_in_one c t d in_column.from

  -- what cell k keeps
  value_is : (k : ℕ) → k ≢ j → (cell_at less k).value ≡ (cell_at cells k).value
  value_is k n = ap (λ (y : Cell). y.value) (set_other two j k z n) ∙ read_column (λ (y : Cell). y.value) (next_in_column_at cells j) one (λ y. refl) t t_in k
      ∙ read_row (λ (y : Cell). y.value) (next_in_row_at cells j) cells (λ y. refl) s s_in k

  line_is : (k : ℕ) → k ≢ j → (cell_at less k).row ≡ (cell_at cells k).row
  line_is k n = ap (λ (y : Cell). y.row) (set_other two j k z n) ∙ read_column (λ (y : Cell). y.row) (next_in_column_at cells j) one (λ y. refl) t t_in k
      ∙ read_row (λ (y : Cell). y.row) (next_in_row_at cells j) cells (λ y. refl) s s_in k

  position_is : (k : ℕ) → k ≢ j → (cell_at less k).column ≡ (cell_at cells k).column
  position_is k n = ap (λ (y : Cell). y.column) (set_other two j k z n) ∙ read_column (λ (y : Cell). y.column) (next_in_column_at cells j) one (λ y. refl) t t_in k
      ∙ read_row (λ (y : Cell). y.column) (next_in_row_at cells j) cells (λ y. refl) s s_in k

  row_read : (k : ℕ) → k ≢ j → next_in_row_at less k ≡ next_in_row_at one k
  row_read k n = ap (λ (y : Cell). y.next_in_row) (set_other two j k z n) ∙ read_column (λ (y : Cell). y.next_in_row) (next_in_column_at cells j) one (λ y. refl) t t_in k

  column_read : (k : ℕ) → next_in_column_at one k ≡ next_in_column_at cells k
  column_read k = read_row (λ (y : Cell). y.next_in_column) (next_in_row_at cells j) cells (λ y. refl) s s_in k

  left : (i m q : ℕ) → IsAt less i m q → IsAt cells i m q × (i ≢ j)
  left i m q at =
      let n : i ≢ j = λ e. at.number (ap (λ k. (cell_at less k).value) e ∙ ap (λ (y : Cell). y.value) (set_same two j z j_two) ∙ z_zero) in
      (record { number = λ y. at.number (value_is i n ∙ y); in_row = sym (line_is i n) ∙ at.in_row; in_column = sym (position_is i n) ∙ at.in_column }, n)

  keep : (i m q : ℕ) → IsAt cells i m q → i ≢ j → IsAt less i m q
  keep i m q at n = record { number = λ y. at.number (sym (value_is i n) ∙ y); in_row = line_is i n ∙ at.in_row; in_column = position_is i n ∙ at.in_column }

  keep_others : (i m q : ℕ) → IsAt cells i m q → ¬ ((m ≡ r) × (q ≡ c)) → IsAt less i m q
  keep_others i m q at n = keep i m q at (λ e. let a = subst (λ k. IsAt cells k m q) e at in n (sym a.in_row ∙ here.in_row, sym a.in_column ∙ here.in_column))

  s_not : (k : ℕ) → s ≡ Some k → k ≢ j
  s_not k e y = not_own (InRow cells) (row_apart cells rh ch free store) r c s b link j in_row here (e ∙ ap Some y)

  t_not : (k : ℕ) → t ≡ Some k → k ≢ j
  t_not k e y = not_own (InColumn cells) (column_apart cells rh ch free store) c r t d link' j in_column here (e ∙ ap Some y)

  less_rows : AreLines (InRow less) (head_at (with_head rh r s (next_in_row_at cells j))) (next_in_row_at less)
  less_rows = lines_without (InRow cells) (InRow less) j r c (row_apart cells rh ch free store) here left keep
      (head_at rh) (next_in_row_at cells) (head_at (with_head rh r s (next_in_row_at cells j))) (next_in_row_at less) store.rows_linked s b in_row.from
      (sym row_is ∙ spot_lands (InRow cells) (row_apart cells rh ch free store) r c s b link j in_row here)
      (new_link (InRow cells) (row_apart cells rh ch free store) rh r row_in s b (next_in_row_at cells j) in_row.from (next_in_row_at cells) (next_in_row_at less)
      (λ k e. row_read k (s_not k e) ∙ row_to cells s (next_in_row_at cells j) s_in k e))
      (links_but (InRow cells) (row_apart cells rh ch free store) rh r row_in s b (next_in_row_at cells j) in_row.from (next_in_row_at cells) (next_in_row_at less) j
      (λ k l q at n m. row_read k n ∙ row_other cells s (next_in_row_at cells j) k m))

  less_columns : AreLines (InColumn less) (head_at (with_head ch c t (next_in_column_at cells j))) (next_in_column_at less)
  less_columns = lines_without (InColumn cells) (InColumn less) j c r (column_apart cells rh ch free store) here (λ i l q at. left i q l at) (λ i l q at n. keep i q l at n)
      (head_at ch) (next_in_column_at cells) (head_at (with_head ch c t (next_in_column_at cells j))) (next_in_column_at less) store.columns_linked t d in_column.from
      (sym column_is ∙ spot_lands (InColumn cells) (column_apart cells rh ch free store) c r t d link' j in_column here)
      (new_link (InColumn cells) (column_apart cells rh ch free store) ch c column_in t d (next_in_column_at cells j) in_column.from (next_in_column_at cells) (next_in_column_at less)
      (λ k e. ap (λ (y : Cell). y.next_in_column) (set_other two j k z (t_not k e)) ∙ column_to one t (next_in_column_at cells j) t_in k e))
      (links_but (InColumn cells) (column_apart cells rh ch free store) ch c column_in t d (next_in_column_at cells j) in_column.from (next_in_column_at cells) (next_in_column_at less) j
      (λ k l q at n m. ap (λ (y : Cell). y.next_in_column) (set_other two j k z n) ∙ column_other one t (next_in_column_at cells j) k m ∙ column_read k))

  less_free : AreFree less j (j ∷ store.order)
  less_free =
      let e = set_same two j z j_two in
      let same = free_kept cells less less_length store.order free (λ k has y. (
        value_is k (other_cell cells j k here.number y),
        row_read k (other_cell cells j k here.number y) ∙ row_other cells s (next_in_row_at cells j) k
            (not_numbered cells k y s r b in_row.from),
      )) store.freed in (
        refl,
        omega (arith, less_length, j_in),
        ap (λ (y : Cell). y.value) e ∙ z_zero,
        (λ h. here.number (has_zero cells store.order free j store.freed h)),
        subst
            (λ n. AreFree less n store.order) (sym (ap (λ (y : Cell). y.next_in_row) e ∙ z_next)) same,
      )

  less_rest : (i : ℕ) → i < length less → (cell_at less i).value ≡ pos 0 → Has (j ∷ store.order) i
  less_rest i lt y = elim (cases_eq i j) [
    | inl e ↦ inl e
    | inr n ↦ inr (store.rest i (omega (arith, lt, less_length)) (sym (value_is i n) ∙ y))
  ]

  removed : IsStore less (with_head rh r s (next_in_row_at cells j)) (with_head ch c t (next_in_column_at cells j)) j
  removed = record {
    rows_linked = less_rows;
    columns_linked = less_columns;
    row_within = λ i m q at. rw (length_head rh r s (next_in_row_at cells j)) (store.row_within i m q (left i m q at).0);
    column_within = λ i m q at. rw (length_head ch c t (next_in_column_at cells j)) (store.column_within i m q (left i m q at).0);
    one_cell = λ i k m q f g. store.one_cell i k m q (left i m q f).0 (left k m q g).0;
    few = rw less_length store.few;
    order = j ∷ store.order;
    freed = less_free;
    rest = less_rest;
  }

  removed_there : cell_number less r c ≡ pos 0
  removed_there = number_none less r c (λ i at. let l = left i r c at in l.1 (store.one_cell i j r c l.0 here))

  removed_same : (m q : ℕ) → ¬ ((m ≡ r) × (q ≡ c)) → cell_number less m q ≡ cell_number cells m q
  removed_same m q n = elim (cell_or cells m q) [
    | inl (i, at) ↦
        let y : i ≢ j = λ e. let a = subst (λ k. IsAt cells k m q) e at in n (sym a.in_row ∙ here.in_row, sym a.in_column ∙ here.in_column) in
        number_is less (λ a k f h u v. store.one_cell a k f h (left a f h u).0 (left k f h v).0) i m q (keep i m q at y) ∙ value_is i y ∙ sym (number_is cells store.one_cell i m q at)
    | inr k ↦ number_none less m q (λ i at. k.0 i (left i m q at).0) ∙ sym k.1
  ]

-- these cells are those of a store without the number of a place
pub record AreWithout (o : Store) (r c : ℕ) (cells : List Cell) (rh ch : List ℕ) (free : ℕ) : Type 0 where
  pub sound : IsStore cells rh ch free
  pub there : cell_number cells r c ≡ pos 0
  pub same : (m q : ℕ) → ¬ ((m ≡ r) × (q ≡ c)) → cell_number cells m q ≡ number_in o m q
  pub kept : (i m q : ℕ) → IsAt o.cells.items i m q → ¬ ((m ≡ r) × (q ≡ c)) → IsAt cells i m q

-- where a place has a number, its spot in the row leads to the cell
module _ (o : Store) (sound : IsSound o) (r c : ℕ) (there : number_in o r c ≢ pos 0) (s : Option ℕ) (link : ℕ) (in_row : IsSpot (InRow o.cells.items) r c s (bound_in_row o.cells.items s) link) where
  spot_here : IsAt o.cells.items link r c
  spot_here =
      let k = cell_there o.cells.items r c there in
      subst (λ n. IsAt o.cells.items n r c) (sym (spot_lands (InRow o.cells.items) (row_apart o.cells.items o.row_heads.items o.column_heads.items o.free sound) r c s
      (bound_in_row o.cells.items s) link k.0 in_row k.1)) k.1

  pub spot_within : link < length o.cells.items
  spot_within = at_within o.cells.items link spot_here.number

  -- the cell leaves both lines and is free
  pub removal : r < length o.row_heads.items → c < length o.column_heads.items → link ≡ link_of (head_at o.row_heads.items) (next_in_row_at o.cells.items) r s → (t : Option ℕ) (below : ℕ)
      → IsSpot (InColumn o.cells.items) c r t (bound_in_column o.cells.items t) below → below ≡ link_of (head_at o.column_heads.items) (next_in_column_at o.cells.items) c t
      → (x : Cell) → x ≡ get_or o.cells.items link x
      → AreWithout o r c (set (with_next_in_column (with_next_in_row o.cells.items s x.next_in_row) t x.next_in_column) link
      (record { value = pos 0; row = r; column = c; next_in_row = o.free; next_in_column = none }))
      (with_head o.row_heads.items r s x.next_in_row) (with_head o.column_heads.items c t x.next_in_column) link
  removal row_in column_in row_is t below in_column column_is x read =
      let z : Cell = record { value = pos 0; row = r; column = c; next_in_row = o.free; next_in_column = none } in
      let is : x ≡ cell_at o.cells.items link = cell_read o.cells.items link x spot_within read in
      let b = bound_in_row o.cells.items s in
      let d = bound_in_column o.cells.items t in
      subst (λ (y : Cell). AreWithout o r c (set (with_next_in_column (with_next_in_row o.cells.items s y.next_in_row) t y.next_in_column) link z)
      (with_head o.row_heads.items r s y.next_in_row) (with_head o.column_heads.items c t y.next_in_column) link) (sym is)
      (record {
        sound = removed o.cells.items o.row_heads.items o.column_heads.items o.free sound r c row_in column_in link spot_here s b link in_row row_is t d below in_column column_is z refl refl;
        there = removed_there o.cells.items o.row_heads.items o.column_heads.items o.free sound r c row_in column_in link spot_here s b link in_row row_is t d below in_column column_is z refl refl;
        same = removed_same o.cells.items o.row_heads.items o.column_heads.items o.free sound r c row_in column_in link spot_here s b link in_row row_is t d below in_column column_is z refl refl;
        kept = keep_others o.cells.items o.row_heads.items o.column_heads.items o.free sound r c row_in column_in link spot_here s b link in_row row_is t d below in_column column_is z refl refl;
      })
