-- The number of a cell changes in its place.
use Rattle.std.proofs.Common.{◌≡◌, ◌≢◌, ℕ, ◌<◌, inl, inr, List, length, set, Option, Some, None, refl, sym, subst, ap, ◌∙◌, arith, pos, ℤ}
use Rattle.std.proofs.lemmas.Bool.{cases_eq}
use Rattle.std.proofs.Math.ListN.{length-set}
use Rattle.dcx_links.specs.declared.store.Cell.{Cell}
use Rattle.dcx_links.specs.Lines.{IsNext, IsFrom, AreLines, link_of}
use Rattle.dcx_links.specs.Cells.{cell_at, head_at, IsAt, InRow, InColumn, IsStore, cell_number, next_in_row_at, next_in_column_at}
use Rattle.dcx_links.proofs.Numbers.{at_within, other_cell, number_is, number_none, cell_or}
use Rattle.dcx_links.proofs.Inserts.{set_same, set_other, free_kept}

module _ (At Now : ℕ → ℕ → ℕ → Type 0) (old : (i l q : ℕ) → Now i l q → At i l q) (keep : (i l q : ℕ) → At i l q → Now i l q) where
  next_same : (l b link : ℕ) → IsNext At l b link → IsNext Now l b link
  next_same l b link (inl (e, h)) = inl (e, record { before = λ i q at. h.before i q (old i l q at) })
  next_same l b link (inr h) = inr (record { position = h.position; here = keep link l h.position h.here; beyond = h.beyond; first = λ i q at le. h.first i q (old i l q at) le })

  from_same : (l : ℕ) (s : Option ℕ) (b : ℕ) → IsFrom Now l s b → IsFrom At l s b
  from_same l None b f = f
  from_same l (Some i) b (q, at, e) = (q, old i l q at, e)

  link_same : (heads next next' : ℕ → ℕ) → ((k l q : ℕ) → At k l q → next' k ≡ next k) → (l : ℕ) (s : Option ℕ) (b : ℕ) → IsFrom At l s b → link_of heads next' l s ≡ link_of heads next l s
  link_same heads next next' same l None b f = refl
  link_same heads next next' same l (Some i) b (q, at, e) = same i l q at

  -- the same cells stand at the same places, with the same links
  pub lines_same : (heads next next' : ℕ → ℕ) → ((k l q : ℕ) → At k l q → next' k ≡ next k) → AreLines At heads next → AreLines Now heads next'
  lines_same heads next next' same lines = record {
    linked = λ l s b f.
        let g = from_same l s b f in
        rw (link_same heads next next' same l s b g) (next_same l b (link_of heads next l s) (lines.linked l s b g));
  }

module _ (cells : List Cell) (rh ch : List ℕ) (free : ℕ) (store : IsStore cells rh ch free) (j r c : ℕ) (here : IsAt cells j r c) (v : ℤ) (number : v ≢ pos 0) where
  abbrev pub other : List Cell
  other = set cells j (record (cell_at cells j) { value = v })

  j_in : j < length cells
  j_in = at_within cells j here.number

  read_same : {X : Type 0} (f : Cell → X) → ((y : Cell) → f (record y { value = v }) ≡ f y) → (k : ℕ) → f (cell_at other k) ≡ f (cell_at cells k)
  read_same f h k = elim (cases_eq k j) [
    | inl e ↦ subst (λ n. f (cell_at other n) ≡ f (cell_at cells n)) (sym e) (ap f (set_same cells j (record (cell_at cells j) { value = v }) j_in) ∙ h (cell_at cells j))
    | inr d ↦ ap f (set_other cells j k (record (cell_at cells j) { value = v }) d)
  ]

  value_here : (cell_at other j).value ≡ v
  value_here = ap (λ (y : Cell). y.value) (set_same cells j (record (cell_at cells j) { value = v }) j_in)

  value_other : (k : ℕ) → k ≢ j → (cell_at other k).value ≡ (cell_at cells k).value
  value_other k d = ap (λ (y : Cell). y.value) (set_other cells j k (record (cell_at cells j) { value = v }) d)

  some_now : (k : ℕ) → (cell_at cells k).value ≢ pos 0 → (cell_at other k).value ≢ pos 0
  some_now k d e = elim (cases_eq k j) [
    | inl i ↦ number (sym value_here ∙ ap (λ n. (cell_at other n).value) (sym i) ∙ e)
    | inr n ↦ d (sym (value_other k n) ∙ e)
  ]

  some_before : (k : ℕ) → (cell_at other k).value ≢ pos 0 → (cell_at cells k).value ≢ pos 0
  some_before k d e = elim (cases_eq k j) [
    | inl i ↦ here.number (ap (λ n. (cell_at cells n).value) (sym i) ∙ e)
    | inr n ↦ d (value_other k n ∙ e)
  ]

  pub now_at : (i m q : ℕ) → IsAt cells i m q → IsAt other i m q
  now_at i m q at = record {
    number = some_now i at.number;
    in_row = read_same (λ (y : Cell). y.row) (λ y. refl) i ∙ at.in_row;
    in_column = read_same (λ (y : Cell). y.column)
        (λ y. refl) i ∙ at.in_column;
  }

  before_at : (i m q : ℕ) → IsAt other i m q → IsAt cells i m q
  before_at i m q at = record {
    number = some_before i at.number;
    in_row = sym (read_same (λ (y : Cell). y.row) (λ y. refl) i) ∙ at.in_row;
    in_column = sym
        (read_same (λ (y : Cell). y.column) (λ y. refl) i) ∙ at.in_column;
  }

  other_length : length other ≡ length cells
  other_length = length-set cells j (record (cell_at cells j) { value = v })

  one_now : (i k m q : ℕ) → IsAt other i m q → IsAt other k m q → i ≡ k
  one_now i k m q f g = store.one_cell i k m q (before_at i m q f) (before_at k m q g)

  pub changed : IsStore other rh ch free
  changed = record {
    rows_linked = lines_same (InRow cells) (InRow other) before_at now_at (head_at rh) (next_in_row_at cells) (next_in_row_at other)
        (λ k l q at. read_same (λ (y : Cell). y.next_in_row) (λ y. refl) k) store.rows_linked;
    columns_linked = lines_same (InColumn cells) (InColumn other) (λ i l q at. before_at i q l at) (λ i l q at. now_at i q l at) (head_at ch) (next_in_column_at cells)
        (next_in_column_at other) (λ k l q at. read_same (λ (y : Cell). y.next_in_column) (λ y. refl) k) store.columns_linked;
    row_within = λ i m q at. store.row_within i m q (before_at i m q at);
    column_within = λ i m q at. store.column_within i m q (before_at i m q at);
    one_cell = one_now;
    few = rw other_length store.few;
    order = store.order;
    freed = free_kept cells other other_length store.order free (λ k has y. (value_other k (other_cell cells j k here.number y), read_same (λ (y : Cell). y.next_in_row) (λ y. refl) k)) store.freed;
    rest = λ i lt z. elim (cases_eq i j) [
      | inl e ↦ absurd (number (sym value_here ∙ ap (λ n. (cell_at other n).value) (sym e) ∙ z))
      | inr n ↦ store.rest i (omega (arith, lt, other_length)) (sym (value_other i n) ∙ z)
    ];
  }

  pub changed_there : cell_number other r c ≡ v
  changed_there = number_is other one_now j r c (now_at j r c here) ∙ value_here

  pub changed_same : (m q : ℕ) → ¬ ((m ≡ r) × (q ≡ c)) → cell_number other m q ≡ cell_number cells m q
  changed_same m q n = elim (cell_or cells m q) [
    | inl (i, at) ↦
        let y : i ≢ j = λ e. let a = subst (λ k. IsAt cells k m q) e at in n (sym a.in_row ∙ here.in_row, sym a.in_column ∙ here.in_column) in
        number_is other one_now i m q (now_at i m q at) ∙ value_other i y ∙ sym (number_is cells store.one_cell i m q at)
    | inr k ↦ number_none other m q (λ i at. k.0 i (before_at i m q at)) ∙ sym k.1
  ]
