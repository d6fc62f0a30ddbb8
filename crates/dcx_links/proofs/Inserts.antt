-- A free cell comes to a place.
use Rattle.std.proofs.Common.{◌≡◌, ◌≢◌, ℕ, ◌<◌, ◌≤◌, ◌⊎◌, inl, inr, List, [], ◌∷◌, length, get_or, set, Option, Some, None, IfSome, refl, sym, subst, ap, ◌∙◌, arith, pos, ℤ, vec_capacity}
use Rattle.std.proofs.lemmas.Bool.{cases_eq}
use Rattle.std.proofs.lemmas.List.{get_or-set_same, get_or-set_other}
use Rattle.std.proofs.Math.ListN.{length-set}
use Rattle.dcx_links.specs.declared.store.Cell.{Cell}
use Rattle.dcx_links.specs.declared.store.Store.{Store}
use Rattle.dcx_links.specs.Lines.{Has, none, IsFrom, IsSpot, AreApart, AreLines, link_of}
use Rattle.dcx_links.specs.Cells.{head_at, cell_at, IsAt, InRow, InColumn, IsStore, IsSound, cell_number, number_in, next_in_row_at, next_in_column_at}
use Rattle.dcx_links.specs.Cells.{bound_in_row, bound_in_column, with_next_in_row, with_next_in_column, with_head, AreFree, blank}
use Rattle.dcx_links.proofs.Free.{some_free}
use Rattle.dcx_links.proofs.Lines.{lines_with}
use Rattle.dcx_links.proofs.Numbers.{at_within, other_cell, number_is, number_none, cell_or}
use Rattle.dcx_links.proofs.Stores.{cell_read, row_apart, column_apart}

pub set_same : (cells : List Cell) (i : ℕ) (x : Cell) → i < length cells → cell_at (set cells i x) i ≡ x
set_same cells i x lt = get_or-set_same cells i x blank lt

pub set_other : (cells : List Cell) (i k : ℕ) (x : Cell) → k ≢ i → cell_at (set cells i x) k ≡ cell_at cells k
set_other cells i k x d = get_or-set_other cells i k x blank d

-- what a new link to the right leaves as it was
module _ {X : Type 0} (f : Cell → X) (to : ℕ) (cells : List Cell) where
  pub read_row : ((y : Cell) → f (record y { next_in_row = to }) ≡ f y) → (s : Option ℕ) → IfSome s (λ i. i < length cells) → (k : ℕ) → f (cell_at (with_next_in_row cells s to) k)
      ≡ f (cell_at cells k)
  read_row h None lt k = refl
  read_row h (Some i) lt k = elim (cases_eq k i) [
    | inl e ↦ subst (λ n. f (cell_at (with_next_in_row cells (Some i) to) n) ≡ f (cell_at cells n)) (sym e)
        (ap f (set_same cells i (record (cell_at cells i) { next_in_row = to }) lt) ∙ h (cell_at cells i))
    | inr d ↦ ap f (set_other cells i k (record (cell_at cells i) { next_in_row = to }) d)
  ]

  pub read_column : ((y : Cell) → f (record y { next_in_column = to }) ≡ f y) → (s : Option ℕ) → IfSome s (λ i. i < length cells) → (k : ℕ)
      → f (cell_at (with_next_in_column cells s to) k) ≡ f (cell_at cells k)
  read_column h None lt k = refl
  read_column h (Some i) lt k = elim (cases_eq k i) [
    | inl e ↦ subst (λ n. f (cell_at (with_next_in_column cells (Some i) to) n) ≡ f (cell_at cells n)) (sym e)
        (ap f (set_same cells i (record (cell_at cells i) { next_in_column = to }) lt) ∙ h (cell_at cells i))
    | inr d ↦ ap f (set_other cells i k (record (cell_at cells i) { next_in_column = to }) d)
  ]

pub row_to : (cells : List Cell) (s : Option ℕ) (to : ℕ) → IfSome s (λ i. i < length cells) → (k : ℕ) → s ≡ Some k → next_in_row_at (with_next_in_row cells s to) k ≡ to
row_to cells None to lt k e = absurd (cc)
row_to cells (Some i) to lt k e = let d : i ≡ k = cc in subst (λ n. next_in_row_at (with_next_in_row cells (Some i) to) n ≡ to) d
    (ap (λ (x : Cell). x.next_in_row) (set_same cells i (record (cell_at cells i) { next_in_row = to }) lt))

pub row_other : (cells : List Cell) (s : Option ℕ) (to : ℕ) (k : ℕ) → s ≢ Some k → next_in_row_at (with_next_in_row cells s to) k ≡ next_in_row_at cells k
row_other cells None to k d = refl
row_other cells (Some i) to k d = ap (λ (x : Cell). x.next_in_row) (set_other cells i k (record (cell_at cells i) { next_in_row = to }) (λ e. d (ap Some (sym e))))

pub column_to : (cells : List Cell) (s : Option ℕ) (to : ℕ) → IfSome s (λ i. i < length cells) → (k : ℕ) → s ≡ Some k → next_in_column_at (with_next_in_column cells s to) k ≡ to
column_to cells None to lt k e = absurd (cc)
column_to cells (Some i) to lt k e = let d : i ≡ k = cc in subst (λ n. next_in_column_at (with_next_in_column cells (Some i) to) n ≡ to) d
    (ap (λ (x : Cell). x.next_in_column) (set_same cells i (record (cell_at cells i) { next_in_column = to }) lt))

pub column_other : (cells : List Cell) (s : Option ℕ) (to : ℕ) (k : ℕ) → s ≢ Some k → next_in_column_at (with_next_in_column cells s to) k ≡ next_in_column_at cells k
column_other cells None to k d = refl
column_other cells (Some i) to k d = ap (λ (x : Cell). x.next_in_column) (set_other cells i k (record (cell_at cells i) { next_in_column = to }) (λ e. d (ap Some (sym e))))

pub length_row : (cells : List Cell) (s : Option ℕ) (to : ℕ) → length (with_next_in_row cells s to) ≡ length cells
length_row cells None to = refl
length_row cells (Some i) to = length-set cells i (record (cell_at cells i) { next_in_row = to })

pub length_column : (cells : List Cell) (s : Option ℕ) (to : ℕ) → length (with_next_in_column cells s to) ≡ length cells
length_column cells None to = refl
length_column cells (Some i) to = length-set cells i (record (cell_at cells i) { next_in_column = to })

pub length_head : (heads : List ℕ) (l : ℕ) (s : Option ℕ) (to : ℕ) → length (with_head heads l s to) ≡ length heads
length_head heads l None to = length-set heads l to
length_head heads l (Some i) to = refl

-- the link of s is new, in a list of heads or at a cell
module _ (At : ℕ → ℕ → ℕ → Type 0) (apart : AreApart At) (heads : List ℕ) (r : ℕ) (within : r < length heads) (s : Option ℕ) (b to : ℕ) (from : IsFrom At r s b)
    (next next' : ℕ → ℕ) where
  pub new_link : ((k : ℕ) → s ≡ Some k → next' k ≡ to) → link_of (head_at (with_head heads r s to)) next' r s ≡ to
  new_link h = elim s as (λ t. ((k : ℕ) → t ≡ Some k → next' k ≡ to) → link_of (head_at (with_head heads r t to)) next' r t ≡ to) [
    | None ↦ λ g. get_or-set_same heads r to none within
    | Some i ↦ λ g. g i refl
  ] h

  pub head_same : (l : ℕ) (t : Option ℕ) → (l ≡ r → None ≢ t) → head_at (with_head heads r t to) l ≡ head_at heads l
  head_same l None d = get_or-set_other heads r l to none (λ e. d e refl)
  head_same l (Some i) d = refl

  pub other_links : ((k : ℕ) (l q : ℕ) → At k l q → s ≢ Some k → next' k ≡ next k) → (l : ℕ) (t : Option ℕ) (a : ℕ) → IsFrom At l t a → (l ≡ r → t ≢ s)
      → link_of (head_at (with_head heads r s to)) next' l t ≡ link_of (head_at heads) next l t
  other_links h l None a f d = head_same l s d
  other_links h l (Some i) a (q, at, e) d = h i l q at (λ es.
      let g : IsFrom At r (Some i) b = subst (λ (x : Option ℕ). IsFrom At r x b) es from in
      d (apart.one_line i l r q g.0 at g.1) (sym es))

pub free_kept : (cells now : List Cell) → length now ≡ length cells → (ks : List ℕ) (head : ℕ)
    → ((k : ℕ) → Has ks k → (cell_at cells k).value ≡ pos 0 → ((cell_at now k).value ≡ (cell_at cells k).value) × (next_in_row_at now k ≡ next_in_row_at cells k))
    → AreFree cells head ks → AreFree now head ks
free_kept cells now len [] head h f = f
free_kept cells now len (k ∷ ks) head h f =
    let e = h k (inl refl) f.2 in
    (f.0, omega (arith, f.1, len), e.0 ∙ f.2, f.3, subst (λ n. AreFree now n ks) (sym e.1) (free_kept cells now len ks (next_in_row_at cells k) (λ m at z. h m (inr at) z) f.4))

-- no link of a row comes from a cell without a number
pub not_numbered : (cells : List Cell) (k : ℕ) → (cell_at cells k).value ≡ pos 0 → (u : Option ℕ) (l a : ℕ) → IsFrom (InRow cells) l u a → u ≢ Some k
not_numbered cells k z u l a f e = let g : IsFrom (InRow cells) l (Some k) a = subst (λ (y : Option ℕ). IsFrom (InRow cells) l y a) e f in g.1.number z

module _ (cells : List Cell) (rh ch : List ℕ) (j : ℕ) (store : IsStore cells rh ch j) (x : Cell) (row_in : x.row < length rh) (column_in : x.column < length ch)
    (number : x.value ≢ pos 0) (empty : (i : ℕ) → ¬ IsAt cells i x.row x.column)
    (s : Option ℕ) (b : ℕ) (in_row : IsSpot (InRow cells) x.row x.column s b x.next_in_row) (row_is : x.next_in_row ≡ link_of (head_at rh) (next_in_row_at cells) x.row s)
    (t : Option ℕ) (d : ℕ) (in_column : IsSpot (InColumn cells) x.column x.row t d x.next_in_column) (column_is : x.next_in_column ≡ link_of (head_at ch) (next_in_column_at cells) x.column t)
    (free : List ℕ) (freed : AreFree cells j (j ∷ free)) (rest : (i : ℕ) → i < length cells → (cell_at cells i).value ≡ pos 0 → Has (j ∷ free) i) where
  abbrev one : List Cell
  one = set cells j x

  abbrev two : List Cell
  two = with_next_in_row one s j

  abbrev pub three : List Cell
  three = with_next_in_column two t j

  j_in : j < length cells
  j_in = freed.1

  one_length : length one ≡ length cells
  one_length = length-set cells j x

  pub new_length : length three ≡ length cells
  new_length = length_column two t j ∙ length_row one s j ∙ one_length

  from_in : (l : ℕ) (u : Option ℕ) (a : ℕ) → IsFrom (InRow cells) l u a → IfSome u (λ i. i < length one)
  from_in l None a f = tt
  from_in l (Some i) a (q, at, e) = let z = at_within cells i at.number in omega (arith, z, one_length)

  from_in_column : (l : ℕ) (u : Option ℕ) (a : ℕ) → IsFrom (InColumn cells) l u a → IfSome u (λ i. i < length two)
  from_in_column l None a f = tt
  from_in_column l (Some i) a (q, at, e) = let z = at_within cells i at.number in let y = length_row one s j in omega (arith, z, one_length, y)

  s_in : IfSome s (λ i. i < length one)
  s_in = from_in x.row s b in_row.from

  t_in : IfSome t (λ i. i < length two)
  t_in = from_in_column x.column t d in_column.from

  value_is : (k : ℕ) → (cell_at three k).value ≡ (cell_at one k).value
  value_is k = read_column (λ (y : Cell). y.value) j two (λ y. refl) t t_in k ∙ read_row (λ (y : Cell). y.value) j one (λ y. refl) s s_in k

  line_is : (k : ℕ) → (cell_at three k).row ≡ (cell_at one k).row
  line_is k = read_column (λ (y : Cell). y.row) j two (λ y. refl) t t_in k ∙ read_row (λ (y : Cell). y.row) j one (λ y. refl) s s_in k

  position_is : (k : ℕ) → (cell_at three k).column ≡ (cell_at one k).column
  position_is k = read_column (λ (y : Cell). y.column) j two (λ y. refl) t t_in k ∙ read_row (λ (y : Cell). y.column) j one (λ y. refl) s s_in k

  fresh : (r c : ℕ) → ¬ IsAt cells j r c
  fresh r c at = at.number freed.2

  -- the cells that hold a number now
  new_at : IsAt three j x.row x.column
  new_at = let e = set_same cells j x j_in in record {
    number = λ z. number (sym (value_is j ∙ ap (λ (y : Cell). y.value) e) ∙ z);
    in_row = line_is j ∙ ap (λ (y : Cell). y.row) e;
    in_column = position_is j ∙ ap (λ (y : Cell). y.column) e;
  }

  pub keep_at : (i r c : ℕ) → IsAt cells i r c → IsAt three i r c
  keep_at i r c at =
      let d : i ≢ j = λ e. fresh r c (subst (λ n. IsAt cells n r c) e at) in
      let e = set_other cells j i x d in
      record {
        number = λ z. at.number (sym (value_is i ∙ ap (λ (y : Cell). y.value) e) ∙ z);
        in_row = line_is i ∙ ap (λ (y : Cell). y.row) e ∙ at.in_row;
        in_column = position_is i ∙ ap (λ (y : Cell). y.column) e ∙ at.in_column;
      }

  old_at : (i r c : ℕ) → IsAt three i r c → IsAt cells i r c ⊎ ((i ≡ j) × (r ≡ x.row) × (c ≡ x.column))
  old_at i r c at = elim (cases_eq i j) [
    | inl e ↦ let a = subst (λ n. IsAt three n r c) e at in inr (e, sym a.in_row ∙ new_at.in_row, sym a.in_column ∙ new_at.in_column)
    | inr d ↦ let e = set_other cells j i x d in inl (record {
      number = λ z. at.number (value_is i ∙ ap (λ (y : Cell). y.value) e ∙ z);
      in_row = sym (line_is i ∙ ap (λ (y : Cell). y.row) e) ∙ at.in_row;
      in_column = sym (position_is i ∙ ap (λ (y : Cell). y.column) e) ∙ at.in_column;
    })
  ]

  -- the links to the right
  not_from_j_column : (u : Option ℕ) (l a : ℕ) → IsFrom (InColumn cells) l u a → u ≢ Some j
  not_from_j_column u l a f e = let g : IsFrom (InColumn cells) l (Some j) a = subst (λ (y : Option ℕ). IsFrom (InColumn cells) l y a) e f in fresh g.0 l g.1

  row_read : (k : ℕ) → next_in_row_at three k ≡ next_in_row_at two k
  row_read k = read_column (λ (y : Cell). y.next_in_row) j two (λ y. refl) t t_in k

  column_read : (k : ℕ) → next_in_column_at two k ≡ next_in_column_at one k
  column_read k = read_row (λ (y : Cell). y.next_in_column) j one (λ y. refl) s s_in k

  row_kept : (k l q : ℕ) → InRow cells k l q → s ≢ Some k → next_in_row_at three k ≡ next_in_row_at cells k
  row_kept k l q at n = row_read k ∙ row_other one s j k n ∙ ap (λ (y : Cell). y.next_in_row) (set_other cells j k x (λ e. fresh l q (subst (λ m. IsAt cells m l q) e at)))

  column_kept : (k l q : ℕ) → InColumn cells k l q → t ≢ Some k → next_in_column_at three k ≡ next_in_column_at cells k
  column_kept k l q at n = column_other two t j k n ∙ column_read k ∙ ap (λ (y : Cell). y.next_in_column) (set_other cells j k x (λ e. fresh q l (subst (λ m. IsAt cells m q l) e at)))

  pub new_rows : AreLines (InRow three) (head_at (with_head rh x.row s j)) (next_in_row_at three)
  new_rows = lines_with (InRow cells) (InRow three) j x.row x.column (row_apart cells rh ch j store) old_at keep_at new_at
      (head_at rh) (next_in_row_at cells) (head_at (with_head rh x.row s j)) (next_in_row_at three) store.rows_linked s b (rw row_is at in_row) empty
      (new_link (InRow cells) (row_apart cells rh ch j store) rh x.row row_in s b j in_row.from (next_in_row_at cells) (next_in_row_at three) (λ k e. row_read k ∙ row_to one s j s_in k e))
      (row_read j ∙ row_other one s j j (not_numbered cells j freed.2 s x.row b in_row.from) ∙ ap (λ (y : Cell). y.next_in_row) (set_same cells j x j_in) ∙ row_is)
      (other_links (InRow cells) (row_apart cells rh ch j store) rh x.row row_in s b j in_row.from (next_in_row_at cells) (next_in_row_at three) row_kept)

  pub new_columns : AreLines (InColumn three) (head_at (with_head ch x.column t j)) (next_in_column_at three)
  new_columns = lines_with (InColumn cells) (InColumn three) j x.column x.row (column_apart cells rh ch j store)
      (λ i l q at. elim (old_at i q l at) [ inl k ↦ inl k | inr (e, f, g) ↦ inr (e, g, f) ]) (λ i l q at. keep_at i q l at) new_at
      (head_at ch) (next_in_column_at cells) (head_at (with_head ch x.column t j)) (next_in_column_at three) store.columns_linked t d (rw column_is at in_column) empty
      (new_link (InColumn cells) (column_apart cells rh ch j store) ch x.column column_in t d j in_column.from (next_in_column_at cells) (next_in_column_at three) (λ k e. column_to two t j t_in k e))
      (column_other two t j j (not_from_j_column t x.column d in_column.from) ∙ column_read j ∙ ap (λ (y : Cell). y.next_in_column) (set_same cells j x j_in) ∙ column_is)
      (other_links (InColumn cells) (column_apart cells rh ch j store) ch x.column column_in t d j in_column.from (next_in_column_at cells) (next_in_column_at three) column_kept)

  one_new : (i k r c : ℕ) → IsAt three i r c → IsAt three k r c → i ≡ k
  one_new i k r c f g = elim (old_at i r c f) [
    | inl a ↦ elim (old_at k r c g) [
      | inl e ↦ store.one_cell i k r c a e
      | inr (e, p, q) ↦ absurd (empty i (subst (λ m. IsAt cells i m x.column) p (subst (λ m. IsAt cells i r m) q a)))
    ]
    | inr (e, p, q) ↦ elim (old_at k r c g) [
      | inl a ↦ absurd (empty k (subst (λ m. IsAt cells k m x.column) p (subst (λ m. IsAt cells k r m) q a)))
      | inr (e', p', q') ↦ e ∙ sym e'
    ]
  ]

  new_free : AreFree three (next_in_row_at cells j) free
  new_free = free_kept cells three new_length free (next_in_row_at cells j) (λ k has z.
      let n : k ≢ j = λ e. freed.3 (subst (λ m. Has free m) e has) in
      let e = set_other cells j k x n in
      (value_is k ∙ ap (λ (y : Cell). y.value) e, row_read k ∙ row_other one s j k (not_numbered cells k z s x.row b in_row.from) ∙ ap (λ (y : Cell). y.next_in_row) e)) freed.4

  new_rest : (i : ℕ) → i < length three → (cell_at three i).value ≡ pos 0 → Has free i
  new_rest i lt z =
      let n : i ≢ j = other_cell three j i new_at.number z in
      let e = set_other cells j i x n in
      elim (rest i (omega (arith, lt, new_length)) (sym (value_is i ∙ ap (λ (y : Cell). y.value) e) ∙ z)) [
        | inl e ↦ absurd (n e)
        | inr h ↦ h
      ]

  inserted : IsStore three (with_head rh x.row s j) (with_head ch x.column t j) (next_in_row_at cells j)
  inserted = record {
    rows_linked = new_rows;
    columns_linked = new_columns;
    row_within = λ i r c at. rw (length_head rh x.row s j) (elim (old_at i r c at) [ inl k ↦ store.row_within i r c k | inr (e, p, q) ↦ rw p row_in ]);
    column_within = λ i r c at. rw (length_head ch x.column t j) (elim (old_at i r c at) [ inl k ↦ store.column_within i r c k | inr (e, p, q) ↦ rw q column_in ]);
    one_cell = one_new;
    few = rw new_length store.few;
    order = free;
    freed = new_free;
    rest = new_rest;
  }

  inserted_there : cell_number three x.row x.column ≡ x.value
  inserted_there = number_is three one_new j x.row x.column new_at ∙ value_is j ∙ ap (λ (y : Cell). y.value) (set_same cells j x j_in)

  inserted_same : (r c : ℕ) → ¬ ((r ≡ x.row) × (c ≡ x.column)) → cell_number three r c ≡ cell_number cells r c
  inserted_same r c n = elim (cell_or cells r c) [
    | inl (i, at) ↦
        let z : i ≢ j = λ e. fresh r c (subst (λ m. IsAt cells m r c) e at) in
        number_is three one_new i r c (keep_at i r c at) ∙ value_is i ∙ ap (λ (y : Cell). y.value) (set_other cells j i x z) ∙ sym (number_is cells store.one_cell i r c at)
    | inr k ↦ number_none three r c (λ i at. elim (old_at i r c at) [ inl a ↦ k.0 i a | inr (e, p, q) ↦ n (p, q) ]) ∙ sym k.1
  ]

-- these cells are those of a store with a number at a place that had none, in the cell that was free
pub record AreWith (o : Store) (r c : ℕ) (v : ℤ) (cells : List Cell) (rh ch : List ℕ) (free : ℕ) : Type 0 where
  pub sound : IsStore cells rh ch free
  pub here : IsAt cells o.free r c
  pub there : cell_number cells r c ≡ v
  pub same : (m q : ℕ) → ¬ ((m ≡ r) × (q ≡ c)) → cell_number cells m q ≡ number_in o m q

-- where a place is empty a cell is free
module _ (o : Store) (sound : IsSound o) (ready : o.free ≡ none → vec_capacity o.cells ≤ length o.cells.items) (r c : ℕ) (row_in : r < length o.row_heads.items)
    (column_in : c < length o.column_heads.items)
    (empty : (i : ℕ) → ¬ IsAt o.cells.items i r c) where
  frees : (free : List ℕ) × AreFree o.cells.items o.free (o.free ∷ free) × ((i : ℕ) → i < length o.cells.items → (cell_at o.cells.items i).value ≡ pos 0 → Has (o.free ∷ free) i)
  frees = some_free o.cells.items o.row_heads.items o.column_heads.items o.free sound r c row_in column_in (λ e. let f = ready e in let k = o.enough in omega (arith, f, k)) empty

  pub free_in : o.free < length o.cells.items
  free_in = frees.1.1

  -- linked behind both spots it has the number there
  pub insertion : (v : ℤ) → v ≢ pos 0 → (s : Option ℕ) (link : ℕ) → IsSpot (InRow o.cells.items) r c s (bound_in_row o.cells.items s) link
      → link ≡ link_of (head_at o.row_heads.items) (next_in_row_at o.cells.items) r s
      → (t : Option ℕ) (below : ℕ) → IsSpot (InColumn o.cells.items) c r t (bound_in_column o.cells.items t) below → below ≡ link_of (head_at o.column_heads.items)
      (next_in_column_at o.cells.items) c t → (x : Cell) → x ≡ get_or o.cells.items o.free x
      → AreWith o r c v (with_next_in_column (with_next_in_row (set o.cells.items o.free (record { value = v; row = r; column = c; next_in_row = link; next_in_column = below })) s o.free) t o.free)
      (with_head o.row_heads.items r s o.free) (with_head o.column_heads.items c t o.free) x.next_in_row
  insertion v number s link in_row row_is t below in_column column_is x read =
      let y : Cell = record { value = v; row = r; column = c; next_in_row = link; next_in_column = below } in
      let is : x.next_in_row ≡ next_in_row_at o.cells.items o.free = ap (λ (z : Cell). z.next_in_row) (cell_read o.cells.items o.free x free_in read) in
      let now = with_next_in_column (with_next_in_row (set o.cells.items o.free y) s o.free) t o.free in
      record {
        sound = subst (λ n. IsStore now (with_head o.row_heads.items r s o.free) (with_head o.column_heads.items c t o.free) n) (sym is)
            (inserted o.cells.items o.row_heads.items o.column_heads.items o.free sound y row_in column_in number empty s (bound_in_row o.cells.items s) in_row row_is t
            (bound_in_column o.cells.items t) in_column column_is frees.0 frees.1 frees.2);
        here = new_at o.cells.items o.row_heads.items o.column_heads.items o.free sound y row_in column_in number empty s (bound_in_row o.cells.items s) in_row row_is t
            (bound_in_column o.cells.items t) in_column column_is frees.0 frees.1 frees.2;
        there = inserted_there o.cells.items o.row_heads.items o.column_heads.items o.free sound y row_in column_in number empty s (bound_in_row o.cells.items s) in_row row_is t
            (bound_in_column o.cells.items t) in_column column_is frees.0 frees.1 frees.2;
        same = inserted_same o.cells.items o.row_heads.items o.column_heads.items o.free sound y row_in column_in number empty s (bound_in_row o.cells.items s) in_row row_is t
            (bound_in_column o.cells.items t) in_column column_is frees.0 frees.1 frees.2;
      }
