-- A matrix of zeros, and one more cell without a number.
use Rattle.std.proofs.Common.{◌≡◌, ℕ, zero, suc, ◌+◌, ◌<◌, ◌≤◌, ◌⊎◌, ◌&&◌, nat_eq, cond, inl, inr, List, [], ◌∷◌, ◌++◌, length, Some, None, refl, sym, subst, ap, ◌∙◌, arith, pos, ℤ, length-append}
use Rattle.std.proofs.lemmas.List.{get_or_append_left}
use Rattle.std.proofs.Math.Seq.{get_or-append_seam}
use Rattle.dcx_links.specs.declared.store.Cell.{Cell}
use Rattle.dcx_links.specs.Lines.{Has, none, IsNext, IsFrom, AreLines, link_of}
use Rattle.dcx_links.specs.Cells.{cell_at, head_at, IsAt, InRow, InColumn, IsStore, is_zero, cell_number, next_in_row_at, next_in_column_at, AreFree, blank}
use Rattle.dcx_links.proofs.Changes.{lines_same}
use Rattle.dcx_links.proofs.Numbers.{at_within}

pub length_push : {X : Type 0} (xs : List X) (x : X) (n : ℕ) → length xs ≡ n → length (xs ++ x ∷ []) ≡ n + 1
length_push xs x n e = length-append xs (x ∷ []) ∙ ap (λ k. k + 1) e

pub none_push : (heads : List ℕ) → ((i : ℕ) → head_at heads i ≡ none) → (i : ℕ) → head_at (heads ++ none ∷ []) i ≡ none
none_push [] h zero = refl
none_push [] h (suc i) = refl
none_push (y ∷ ys) h zero = h 0
none_push (y ∷ ys) h (suc i) = none_push ys (λ k. h (suc k)) i

-- ---- no cells
no_lines : (At : ℕ → ℕ → ℕ → Type 0) (heads next : ℕ → ℕ) → ((i l q : ℕ) → ¬ At i l q) → ((l : ℕ) → heads l ≡ none) → AreLines At heads next
no_lines At heads next nil led = record {
  linked = λ l s b f. elim s as (λ t. IsFrom At l t b → IsNext At l b (link_of heads next l t)) [
    | None ↦ λ e. inl (led l, record { before = λ i q at. absurd (nil i l q at) })
    | Some i ↦ λ g. absurd (nil i l g.0 g.1)
  ] f;
}

nothing : (i r c : ℕ) → ¬ IsAt [] i r c
nothing zero r c at = at.number refl
nothing (suc i) r c at = at.number refl

pub empty_store : (rh ch : List ℕ) → ((l : ℕ) → head_at rh l ≡ none) → ((l : ℕ) → head_at ch l ≡ none) → IsStore [] rh ch none
empty_store rh ch rn cn = record {
  rows_linked = no_lines (InRow []) (head_at rh) (next_in_row_at []) (λ i l q. nothing i l q) rn;
  columns_linked = no_lines (InColumn []) (head_at ch) (next_in_column_at []) (λ i l q. nothing i q l) cn;
  row_within = λ i r c at. absurd (nothing i r c at);
  column_within = λ i r c at. absurd (nothing i r c at);
  one_cell = λ i j r c at to. absurd (nothing i r c at);
  few = omega arith;
  order = [];
  freed = refl;
  rest = λ i lt z. absurd (omega (arith, lt));
}

-- ---- one more cell
free_append : (cells more : List Cell) (ks : List ℕ) (head : ℕ) → AreFree cells head ks → AreFree (cells ++ more) head ks
free_append cells more [] head f = f
free_append cells more (k ∷ ks) head f =
    let e = get_or_append_left cells more blank k f.1 in (
      f.0,
      omega (arith, f.1, length-append cells more),
      ap (λ (y : Cell). y.value) e ∙ f.2,
      f.3,
      subst (λ n. AreFree (cells ++ more) n ks)
          (sym (ap (λ (y : Cell). y.next_in_row) e)) (free_append cells more ks (next_in_row_at cells k) f.4),
    )

free_within : (cells : List Cell) (ks : List ℕ) (head k : ℕ) → AreFree cells head ks → Has ks k → k < length cells
free_within cells [] head k f h = absurd h
free_within cells (m ∷ ks) head k f h = elim h [
  | inl e ↦ let z = f.1 in omega (arith, e, z)
  | inr g ↦ free_within cells ks (next_in_row_at cells m) k f.4 g
]

pub number_push : (cells : List Cell) (x : Cell) → x.value ≡ pos 0 → (r c : ℕ) → cell_number (cells ++ x ∷ []) r c ≡ cell_number cells r c
number_push [] x z r c = rw z refl
number_push (y ∷ ys) x z r c = ap (λ (n : ℤ). cond (is_zero y.value) n (cond (nat_eq y.row r && nat_eq y.column c) y.value n)) (number_push ys x z r c)

below_or : (i n : ℕ) → (i < n) ⊎ ((i ≡ n) ⊎ (n + 1 ≤ i))
below_or i n = grind arith

module _ (cells : List Cell) (rh ch : List ℕ) (free : ℕ) (store : IsStore cells rh ch free) (x : Cell) (zero : x.value ≡ pos 0) (next : x.next_in_row ≡ free) (few : length cells < none) where
  abbrev more : List Cell
  more = cells ++ x ∷ []

  more_length : length more ≡ length cells + 1
  more_length = length_push cells x (length cells) refl

  old_cell : (i : ℕ) → i < length cells → cell_at more i ≡ cell_at cells i
  old_cell i lt = get_or_append_left cells (x ∷ []) blank i lt

  new_cell : cell_at more (length cells) ≡ x
  new_cell = get_or-append_seam cells x [] blank

  pub now_at : (i r c : ℕ) → IsAt cells i r c → IsAt more i r c
  now_at i r c at =
      let e = old_cell i (at_within cells i at.number) in
      record { number = λ z. at.number (sym (ap (λ (y : Cell). y.value) e) ∙ z); in_row = ap (λ (y : Cell). y.row) e ∙ at.in_row; in_column = ap (λ (y : Cell). y.column) e ∙ at.in_column }

  before_at : (i r c : ℕ) → IsAt more i r c → IsAt cells i r c
  before_at i r c at = elim (below_or i (length cells)) [
    | inl lt ↦
        let e = old_cell i lt in
        record { number = λ z. at.number (ap (λ (y : Cell). y.value) e ∙ z); in_row = sym (ap (λ (y : Cell). y.row) e) ∙ at.in_row; in_column = sym (ap (λ (y : Cell). y.column) e) ∙ at.in_column }
    | inr k ↦ elim k [
      | inl e ↦ absurd (at.number (ap (λ n. (cell_at more n).value) e ∙ ap (λ (y : Cell). y.value) new_cell ∙ zero))
      | inr past ↦ let l = at_within more i at.number in absurd (omega (arith, l, more_length, past))
    ]
  ]

  in_row_same : (k l q : ℕ) → InRow cells k l q → next_in_row_at more k ≡ next_in_row_at cells k
  in_row_same k l q at = ap (λ (y : Cell). y.next_in_row) (old_cell k (at_within cells k at.number))

  in_column_same : (k l q : ℕ) → InColumn cells k l q → next_in_column_at more k ≡ next_in_column_at cells k
  in_column_same k l q at = ap (λ (y : Cell). y.next_in_column) (old_cell k (at_within cells k at.number))

  more_free : AreFree more (length cells) (length cells ∷ store.order)
  more_free = (
    refl,
    omega (arith, more_length),
    ap (λ (y : Cell). y.value) new_cell ∙ zero,
    (λ h. let z = free_within cells store.order free (length cells) store.freed h in absurd (omega (arith, z))),
    subst (λ n. AreFree more n store.order) (sym (ap (λ (y : Cell). y.next_in_row) new_cell ∙ next)) (free_append cells (x ∷ []) store.order free store.freed),
  )

  more_rest : (i : ℕ) → i < length more → (cell_at more i).value ≡ pos 0 → Has (length cells ∷ store.order) i
  more_rest i lt z = elim (below_or i (length cells)) [
    | inl less ↦ inr (store.rest i less (sym (ap (λ (y : Cell). y.value) (old_cell i less)) ∙ z))
    | inr k ↦ elim k [
      | inl e ↦ inl e
      | inr past ↦ absurd (omega (arith, lt, more_length, past))
    ]
  ]

  pub pushed : IsStore more rh ch (length cells)
  pushed = record {
    rows_linked = lines_same (InRow cells) (InRow more) before_at now_at (head_at rh) (next_in_row_at cells) (next_in_row_at more) in_row_same store.rows_linked;
    columns_linked = lines_same (InColumn cells) (InColumn more) (λ i l q at. before_at i q l at) (λ i l q at. now_at i q l at) (head_at ch) (next_in_column_at cells)
        (next_in_column_at more) in_column_same store.columns_linked;
    row_within = λ i r c at. store.row_within i r c (before_at i r c at);
    column_within = λ i r c at. store.column_within i r c (before_at i r c at);
    one_cell = λ i k r c f g. store.one_cell i k r c (before_at i r c f) (before_at k r c g);
    few = omega (arith, more_length, few);
    order = length cells ∷ store.order;
    freed = more_free;
    rest = more_rest;
  }
