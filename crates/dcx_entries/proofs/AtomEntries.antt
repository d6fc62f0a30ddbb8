-- The entries of an atom are formed one after the other, each from its result and the rows at the front of those that are left.
use Rattle.std.proofs.Common.{◌≡◌, ℕ, ◌+◌, ◌<◌, List, [], ◌∷◌, ◌++◌, map, take, length, get_or, slice_index_or, Option, Result, Ok, Err, sym, ap, ◌∙◌, subst}
use Rattle.std.proofs.lemmas.List.{get_or-map}
use Rattle.dcx_frac.specs.declared.fraction.Frac.{Frac}
use Rattle.dcx_frac.specs.declared.fraction.Passes.{Passes}
use Rattle.dcx_shape.specs.declared.shape.Sides.{Sides}
use Rattle.dcx_atom.specs.declared.graph.Graph.{Graph}
use Rattle.dcx_atom.specs.declared.graph.GraphRow.{GraphRow}
use Rattle.dcx_atom.specs.declared.graph.AuxTerm.{AuxTerm}
use Rattle.dcx_atom.specs.declared.stops.ValueStop.{ValueStop}
use Rattle.dcx_atom.specs.Graph.{form_term, row_term, IsGraphOf}
use Rattle.dcx_atom.specs.Meaning.{Meaning}
use Rattle.dcx_atom.proofs.Lists.{get_or-list_below}
use Rattle.dcx_linear.specs.declared.change.Change.{Change}
use Rattle.dcx_linear.specs.declared.stop.CoefStop.{CoefStop}
use Rattle.dcx_linear.specs.Stops.{OnPass, OnPass-weaker}
use Rattle.dcx_entries.specs.declared.entries.EntryForms.{EntryForms}
use Rattle.dcx_entries.specs.Forming.{FormsEach, AtEntry, OnStop, stop_at}
use Rattle.dcx_entries.specs.Parts.{Arguments, aux_part, row_part}
use Rattle.dcx_entries.specs.Entries.{AtomEntry}
use Rattle.dcx_entries.proofs.Each.{each_more, each_stops, at_entry_stops, OnStop-weaker}
use Rattle.dcx_entries.proofs.OwnRows.{AreLeft, own_count, own_then_left, made_of_own}
use Rattle.dcx_entries.proofs.Places.{parts_of_row}

module _ {C : Type 0} (of_number : Frac → C) (number_of : C → Option Frac) (Sums : C → C → Result C Passes → Type 0) (Changes : Change → C → Result C Passes → Type 0) (args : Arguments C)
    (first : ℕ) where
  -- entry j, as the contract says it
  abbrev pub AtomGives : Meaning → List Sides → ℕ → Result (EntryForms C) ValueStop → Type 0
  AtomGives m sides j r =
      AtEntry j (AtomEntry of_number number_of Sums Changes (map (aux_part of_number first) (m.result sides j)) (map (λ row. map (row_part of_number args first) row) (m.rows sides j))) r

  -- an entry, as it is formed from these terms and rows
  abbrev pub CodeGives : List AuxTerm → List GraphRow → Result (EntryForms C) Passes → Type 0
  CodeGives terms own r = AtomEntry of_number number_of Sums Changes (map (aux_part of_number first) (map form_term terms)) (map (parts_of_row of_number args first) own) r

  module _ (m : Meaning) (sides : List Sides) (size : ℕ) (graph : Graph) (is : IsGraphOf m sides size graph) (many : length graph.results ≡ size) (j : ℕ) (lt : j < size)
      (rest : List GraphRow) (left : AreLeft (m.rows sides) j size rest) (terms : List AuxTerm) (at : slice_index_or graph.results j [] ≡ terms)
      (own : List GraphRow) (own_is : own ≡ take (own_count j rest) rest) where
    result_is : map form_term terms ≡ m.result sides j
    result_is =
        ap (λ ts. map form_term ts) (sym at) ∙ sym (get_or-map (λ ts. map form_term ts) graph.results j [] [] (rw many lt))
        ∙ ap (λ l. get_or l j []) is.results ∙ get_or-list_below size (m.result sides) j [] lt

    rows_are : map (parts_of_row of_number args first) own ≡ map (λ row. map (row_part of_number args first) row) (m.rows sides j)
    rows_are =
        made_of_own (λ row. map (row_part of_number args first) row) own
        ∙ ap (λ rs. map (λ row. map (row_part of_number args first) row) (map (λ r. map row_term r.terms) rs)) own_is
        ∙ ap (λ rows. map (λ row. map (row_part of_number args first) row) rows) (own_then_left (m.rows sides) j size rest lt left).own

    here : (r : Result (EntryForms C) Passes) → CodeGives terms own r → AtomEntry of_number number_of Sums Changes (map (aux_part of_number first) (m.result sides j))
        (map (λ row. map (row_part of_number args first) row) (m.rows sides j)) r
    here r h =
        subst (λ x. AtomEntry of_number number_of Sums Changes (map (aux_part of_number first) x) (map (λ row. map (row_part of_number args first) row) (m.rows sides j)) r) result_is
        (subst (λ y. AtomEntry of_number number_of Sums Changes (map (aux_part of_number first) (map form_term terms)) y r) rows_are h)

    pub atom_more : (formed : List (EntryForms C)) (entry : EntryForms C) → FormsEach (AtomGives m sides) j (Ok formed) → CodeGives terms own (Ok entry)
        → FormsEach (AtomGives m sides) (j + 1) (Ok (formed ++ entry ∷ []))
    atom_more formed entry h f = each_more (AtomGives m sides) j formed entry h (here (Ok entry) f)

    pub atom_stops : (formed : List (EntryForms C)) (stop : CoefStop) → FormsEach (AtomGives m sides) j (Ok formed) → OnPass stop (λ passes. CodeGives terms own (Err passes))
        → OnStop (stop_at j stop) (λ e. FormsEach (AtomGives m sides) size (Err e))
    atom_stops formed stop h f =
        OnStop-weaker (stop_at j stop) (λ e. AtomGives m sides j (Err e)) (λ e. FormsEach (AtomGives m sides) size (Err e))
        (λ e q. each_stops (AtomGives m sides) size j formed e h lt q)
        (at_entry_stops (λ r. AtomEntry of_number number_of Sums Changes (map (aux_part of_number first) (m.result sides j))
        (map (λ row. map (row_part of_number args first) row) (m.rows sides j)) r) j stop
        (OnPass-weaker stop (λ passes. CodeGives terms own (Err passes))
        (λ passes. AtomEntry of_number number_of Sums Changes (map (aux_part of_number first) (m.result sides j)) (map (λ row. map (row_part of_number args first) row) (m.rows sides j))
        (Err passes)) (λ passes q. here (Err passes) q) f))
