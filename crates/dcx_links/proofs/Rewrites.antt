-- The numbers of a row, each changed by the same function from the first to the last.
use Rattle.std.proofs.Common.{◌≡◌, ◌≢◌, ℕ, ◌+◌, ◌<◌, ◌≤◌, inl, inr, sym, ap, ◌∙◌, subst, arith, pos, ℤ, ◌*ℤ◌, unsigned_abs}
use Rattle.std.proofs.lemmas.Bool.{cases_eq, cases_lt}
use Prim.Native.Nat.{◌∣◌}
use Rattle.dcx_math.specs.Integers.{*ℤ-zero}
use Rattle.dcx_math.specs.Divisors.{divided}
use Rattle.dcx_math.proofs.Divisors.{divided_is}
use Rattle.dcx_links.specs.declared.store.Store.{Store}
use Rattle.dcx_links.specs.Lines.{none, IsNext}
use Rattle.dcx_links.specs.Cells.{cell_at, InRow, IsSound, number_in}
use Rattle.dcx_links.proofs.Stores.{walk_ends, walk_number, walk_zeros, walk_beyond}

-- a quotient by a divisor isn't 0
pub divided_some : (g : ℕ) (z : ℤ) → z ≢ pos 0 → g ∣ unsigned_abs z → divided g z ≢ pos 0
divided_some g z some d e = some (sym (divided_is g z d) ∙ ap (λ x. pos g *ℤ x) e ∙ *ℤ-zero (pos g))

module _ (f : ℤ → ℤ) (zero_stays : f (pos 0) ≡ pos 0) (start s : Store) (row from link : ℕ) (sound : IsSound s) (next : IsNext (InRow s.cells.items) row from link)
    (done : (c : ℕ) → c < from → number_in s row c ≡ f (number_in start row c)) (left : (c : ℕ) → from ≤ c → number_in s row c ≡ number_in start row c) where
  -- a place that is left and has no number
  passed : (c : ℕ) → from ≤ c → number_in s row c ≡ pos 0 → number_in s row c ≡ f (number_in start row c)
  passed c le z = z ∙ sym (ap f (sym (left c le) ∙ z) ∙ zero_stays)

  pub rewritten : link ≡ none → (c : ℕ) → number_in s row c ≡ f (number_in start row c)
  rewritten e c = elim (cases_lt c from) [
    | inl lt ↦ done c lt
    | inr le ↦ passed c le (walk_ends s.cells.items s.row_heads.items s.column_heads.items s.free sound row from link next e c le)
  ]

  module _ (d : link ≢ none) where
    abbrev pub at : ℕ
    at = (cell_at s.cells.items link).column

    pub at_beyond : from ≤ at
    at_beyond = walk_beyond s.cells.items s.row_heads.items s.column_heads.items s.free sound row from link next d

    pub number_first : number_in start row at ≡ (cell_at s.cells.items link).value
    number_first = sym (left at at_beyond) ∙ walk_number s.cells.items s.row_heads.items s.column_heads.items s.free sound row from link next d

    -- the next cell's number is changed
    module _ (now : Store) (there : number_in now row at ≡ f ((cell_at s.cells.items link).value)) (same : (r c : ℕ) → ¬ ((r ≡ row) × (c ≡ at)) → number_in now r c ≡ number_in s r c) where
      pub done_on : (c : ℕ) → c < at + 1 → number_in now row c ≡ f (number_in start row c)
      done_on c lt = elim (cases_eq c at) [
        | inl e ↦ subst (λ k. number_in now row k ≡ f (number_in start row k)) (sym e) (there ∙ ap f (sym number_first))
        | inr other ↦ same row c (λ h. other h.1) ∙ elim (cases_lt c from) [
          | inl before ↦ done c before
          | inr le ↦ passed c le (walk_zeros s.cells.items s.row_heads.items s.column_heads.items s.free sound row from link next d c le (omega (arith, lt, other)))
        ]
      ]

      pub left_on : (c : ℕ) → at + 1 ≤ c → number_in now row c ≡ number_in start row c
      left_on c le = same row c (λ h. let e = h.1 in omega (arith, e, le)) ∙ left c (let b = at_beyond in omega (arith, b, le))
