-- The entries of a product or a quotient are formed one after the other.
use Rattle.std.proofs.Common.{◌≡◌, ℕ, ◌+◌, ◌<◌, List, [], ◌∷◌, ◌++◌, slice_index_or, Option, Result, Ok, Err, sym, subst}
use Rattle.dcx_frac.specs.declared.fraction.Frac.{Frac}
use Rattle.dcx_frac.specs.declared.fraction.Passes.{Passes}
use Rattle.dcx_atom.specs.declared.stops.ValueStop.{ValueStop}
use Rattle.dcx_affine.specs.declared.pairing.Pair.{Pair}
use Rattle.dcx_linear.specs.declared.change.Change.{Change}
use Rattle.dcx_entries.specs.declared.entries.EntryForms.{EntryForms}
use Rattle.dcx_entries.specs.declared.scaling.Scaling.{Scaling}
use Rattle.dcx_entries.specs.Forming.{FormsEach, OnStop}
use Rattle.dcx_entries.specs.Parts.{Arguments}
use Rattle.dcx_entries.specs.Entries.{PairEntry}
use Rattle.dcx_entries.proofs.Each.{each_more, each_stops, OnStop-weaker}

module _ {C : Type 0} (of_number : Frac → C) (number_of : C → Option Frac) (Sums : C → C → Result C Passes → Type 0) (Changes : Change → C → Result C Passes → Type 0) (scaling : Scaling)
    (args : Arguments C) (pairs : List (List Pair)) where
  -- entry j, as the contract says it
  abbrev pub PairGives : ℕ → Result (EntryForms C) ValueStop → Type 0
  PairGives j r = PairEntry of_number number_of Sums Changes scaling args (slice_index_or pairs j []) j r

  module _ (j : ℕ) (own : List Pair) (at : slice_index_or pairs j [] ≡ own) where
    pub pair_more : (formed : List (EntryForms C)) (entry : EntryForms C) → FormsEach PairGives j (Ok formed) → PairEntry of_number number_of Sums Changes scaling args own j (Ok entry)
        → FormsEach PairGives (j + 1) (Ok (formed ++ entry ∷ []))
    pair_more formed entry h f = each_more PairGives j formed entry h (subst (λ ps. PairEntry of_number number_of Sums Changes scaling args ps j (Ok entry)) (sym at) f)

    pub pair_stops : (n : ℕ) → j < n → (formed : List (EntryForms C)) (stop : ValueStop) → FormsEach PairGives j (Ok formed)
        → OnStop stop (λ e. PairEntry of_number number_of Sums Changes scaling args own j (Err e)) → OnStop stop (λ e. FormsEach PairGives n (Err e))
    pair_stops n lt formed stop h f =
        OnStop-weaker stop (λ e. PairEntry of_number number_of Sums Changes scaling args own j (Err e)) (λ e. FormsEach PairGives n (Err e))
        (λ e q. each_stops PairGives n j formed e h lt (subst (λ ps. PairEntry of_number number_of Sums Changes scaling args ps j (Err e)) (sym at) q)) f
