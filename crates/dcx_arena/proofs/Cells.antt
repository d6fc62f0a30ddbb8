-- Cells that are added at the end.
use Rattle.std.proofs.Common.{◌≡◌, ℕ, zero, suc, ◌+◌, ◌<◌, ◌≤◌, List, [], ◌∷◌, ◌++◌, length, get_or, take, take_all, refl, sym, ap, subst, ◌∙◌, add-zero, append_assoc, length-append, arith}
use Rattle.std.proofs.lemmas.List.{get_or_append_left, take_more}
use Rattle.std.proofs.Math.Seq.{get_or-append_seam}
use Rattle.std.proofs.lemmas.Option.{slice_get_read, get_or_from_slice_get}
use Rattle.dcx_arena.specs.declared.store.Cell.{Cell}
use Rattle.dcx_arena.specs.Chains.{cell_at, chain, IsChain}

-- what a place past the end reads as
abbrev first_cell : Cell
first_cell = record { node = 0; next = 0 }

-- the cells of these arguments, the first of which is at a place
abbrev pub cells_from : ℕ → List ℕ → List Cell
cells_from at [] = []
cells_from at (a ∷ rest) = record { node = a; next = at + 1 } ∷ cells_from (at + 1) rest

pub cells_from-push : (at : ℕ) (args : List ℕ) (a : ℕ) → cells_from at (args ++ a ∷ []) ≡ cells_from at args ++ record { node = a; next = at + length args + 1 } ∷ []
cells_from-push at [] a = rw add-zero refl
cells_from-push at (b ∷ args) a =
    let e : at + 1 + length args + 1 ≡ at + suc (length args) + 1 = omega arith in
    ap (λ (xs : List Cell). record { node = b; next = at + 1 } ∷ xs) (rw (cells_from-push (at + 1) args a, e) refl)

pub length-cells_from : (at : ℕ) (args : List ℕ) → length (cells_from at args) ≡ length args
length-cells_from at [] = refl
length-cells_from at (a ∷ rest) = ap suc (length-cells_from (at + 1) rest)

pub IsChain-kept : (cells more : List Cell) (n at : ℕ) → IsChain cells n at → IsChain (cells ++ more) n at
IsChain-kept cells more zero at h = tt
IsChain-kept cells more (suc n) at h =
    let e = get_or_append_left cells more first_cell at h.0 in
    (omega (arith, h.0, length-append cells more), rw e (IsChain-kept cells more n (cell_at cells at).next h.1))

pub chain-kept : (cells more : List Cell) (n at : ℕ) → IsChain cells n at → chain (cells ++ more) n at ≡ chain cells n at
chain-kept cells more zero at h = refl
chain-kept cells more (suc n) at h = rw (get_or_append_left cells more first_cell at h.0, chain-kept cells more n (cell_at cells at).next h.1) refl

-- cells: all of them; the first new one stands at the end of the old ones
module _ (cells old : List Cell) (a : ℕ) (rest : List ℕ) (e : cells ≡ old ++ cells_from (length old) (a ∷ rest)) where
  abbrev pub new_cell : Cell
  new_cell = record { node = a; next = length old + 1 }

  pub end : length (old ++ new_cell ∷ []) ≡ length old + 1
  end = length-append old (new_cell ∷ [])

  pub seam : cell_at cells (length old) ≡ new_cell
  seam = ap (λ (xs : List Cell). cell_at xs (length old)) e ∙ get_or-append_seam old new_cell (cells_from (length old + 1) rest) first_cell

  pub regrouped : cells ≡ (old ++ new_cell ∷ []) ++ cells_from (length (old ++ new_cell ∷ [])) rest
  regrouped = e ∙ rw (end, append_assoc) refl

  pub room : length old < length cells
  room = omega (arith, simp length-append at (ap length e))

pub IsChain-new : (cells old : List Cell) (args : List ℕ) → cells ≡ old ++ cells_from (length old) args → IsChain cells (length args) (length old)
IsChain-new cells old [] e = tt
IsChain-new cells old (a ∷ rest) e =
    let P : ℕ → Type 0 = λ at. IsChain cells (length rest) at in
    let there : P (length old + 1) = subst P (end cells old a rest e) (IsChain-new cells (old ++ new_cell cells old a rest e ∷ []) rest (regrouped cells old a rest e)) in
    (room cells old a rest e, subst (λ (c : Cell). P c.next) (sym (seam cells old a rest e)) there)

pub chain-new : (cells old : List Cell) (args : List ℕ) → cells ≡ old ++ cells_from (length old) args → chain cells (length args) (length old) ≡ args
chain-new cells old [] e = refl
chain-new cells old (a ∷ rest) e =
    let P : ℕ → Type 0 = λ at. chain cells (length rest) at ≡ rest in
    let there : P (length old + 1) = subst P (end cells old a rest e) (chain-new cells (old ++ new_cell cells old a rest e ∷ []) rest (regrouped cells old a rest e)) in
    rw (seam cells old a rest e) (ap (λ xs. a ∷ xs) there)

pub all_cells : (cells old : List Cell) (args : List ℕ) (i : ℕ) → length args ≤ i → cells ≡ old ++ cells_from (length old) (take i args) → cells ≡ old ++ cells_from (length old) args
all_cells cells old args i le e = e ∙ ap (λ (xs : List ℕ). old ++ cells_from (length old) xs) (take_all i args le)

pub next_cells : (cells now old : List Cell) (args : List ℕ) (i at : ℕ) → i < length args → cells ≡ old ++ cells_from (length old) (take i args) → at ≡ length cells
    → now ≡ cells ++ record { node = get_or args i 0; next = at + 1 } ∷ [] → now ≡ old ++ cells_from (length old) (take (i + 1) args)
next_cells cells now old args i at lt so_far here added =
    let n : at ≡ length old + length (take i args) =
    here ∙ ap length so_far ∙ length-append old (cells_from (length old) (take i args)) ∙ ap (λ k. length old + k) (length-cells_from (length old) (take i args)) in
    let front : old ++ cells_from (length old) (take (i + 1) args)
    ≡ (old ++ cells_from (length old) (take i args)) ++ record { node = get_or args i 0; next = length old + length (take i args) + 1 } ∷ []
    = rw (take_more args i 0 lt, cells_from-push (length old) (take i args) (get_or args i 0))
    (sym (append_assoc old (cells_from (length old) (take i args)) (record { node = get_or args i 0; next = length old + length (take i args) + 1 } ∷ []))) in
    added ∙ rw (so_far, n) (sym front)

-- a cell that was read
pub cell_read : (cells : List Cell) (i : ℕ) (c : Cell) → i < length cells → c ≡ get_or cells i c → c ≡ cell_at cells i
cell_read cells i c lt e = sym (get_or_from_slice_get cells i c first_cell (slice_get_read cells (length cells) i c refl lt e))
