-- The forms of a table of formed nodes, and those of the arguments of a node.
use Rattle.std.proofs.Common.{◌≡◌, ℕ, zero, suc, ◌<◌, ◌≤◌, arith, List, [], ◌∷◌, length, map, All, Some, option_map, slice_get, slice_index_or, Option, Result, Ok, sym, ap, ◌∙◌}
use Rattle.std.proofs.lemmas.List.{length-map}
use Rattle.std.proofs.lemmas.List.Elements.{All-head, All-tail}
use Rattle.std.proofs.lemmas.Option.{slice_get-map, slice_get_within, get_or_from_slice_get}
use Rattle.dcx_math.specs.Rational.{ℚ}
use Rattle.dcx_math.proofs.Lists.{element_at}
use Rattle.dcx_frac.specs.declared.fraction.Frac.{Frac}
use Rattle.dcx_frac.specs.declared.fraction.Passes.{Passes}
use Rattle.dcx_shape.specs.Sides.{entries_of}
use Rattle.dcx_point.specs.Pairs.{Pairs}
use Rattle.dcx_arena.specs.Nodes.{IsNode}
use Rattle.dcx_convex.specs.Nodes.{Numbers, zeros, arguments}
use Rattle.dcx_convex.specs.Rules.{Rules}
use Rattle.dcx_tree.specs.declared.problem.Problem.{Problem}
use Rattle.dcx_tree.specs.Nodes.{Node}
use Rattle.dcx_linear.specs.declared.change.Change.{Change}
use Rattle.dcx_linear.specs.declared.form.Form.{Form}
use Rattle.dcx_entries.specs.declared.entries.EntryForms.{EntryForms}
use Rattle.dcx_entries.specs.Parts.{zero_form}
use Rattle.dcx_entries.specs.Entries.{entry_forms}
use Rattle.dcx_entries.specs.Standing.{args_among}
use Rattle.dcx_entries.specs.Nodes.{Table, table_forms, NodeEntry, NodeGives, AreFormed}
use Rattle.dcx_entries.proofs.Past.{past_end}

-- the form of entry j of node i, and 0 past the end
abbrev pub form_in : {C : Type 0} → (Frac → C) → List (List (Form C)) → ℕ → ℕ → Form C
form_in of_number forms i j = slice_index_or (slice_index_or forms i []) j (zero_form of_number)

-- ---- arguments
module _ {C : Type 0} (of_number : Frac → C) (forms : List (List (Form C))) (Q : ℕ → Type 0) where
  -- a fact of the forms of the arguments, and of 0
  pub args_have : (P : Form C → Type 0) → P (zero_form of_number) → ((a : ℕ) → Q a → (e : ℕ) → P (form_in of_number forms a e)) → (ids : List ℕ) → All Q ids → (k e : ℕ)
      → P (args_among of_number forms ids k e)
  args_have P none each [] all k e = none
  args_have P none each (a ∷ ids) all zero e = each a (All-head Q a ids all) e
  args_have P none each (a ∷ ids) all (suc k) e = args_have P none each ids (All-tail Q a ids all) k e

  -- the numbers of the arguments, where 0 is 0
  pub args_are : (h : Form C → ℚ) → h (zero_form of_number) ≡ zeros 0 → (F : ℕ → Numbers) → ((a : ℕ) → Q a → (e : ℕ) → h (form_in of_number forms a e) ≡ F a e) → (ids : List ℕ) → All Q ids → (k e : ℕ)
      → h (args_among of_number forms ids k e) ≡ arguments (map F ids) k e
  args_are h none F each [] all k e = none
  args_are h none F each (a ∷ ids) all zero e = each a (All-head Q a ids all) e
  args_are h none F each (a ∷ ids) all (suc k) e = args_are h none F each ids (All-tail Q a ids all) k e

-- ---- nodes
module _ {C : Type 0} (of_number : Frac → C) (number_of : C → Option Frac) (Sums : C → C → Result C Passes → Type 0) (Changes : Change → C → Result C Passes → Type 0)
    (Reads : ℕ → List ℕ → ℕ → Pairs → C → Type 0) (rules : Rules) (p : Problem) (setting : Pairs) (table : Table C)
    (formed : AreFormed of_number number_of Sums Changes Reads rules p setting (length p.tree) table) (i : ℕ) (n : Node) (at : IsNode p.tree i n) where
  pub record IsEntryAt (j : ℕ) (f : Form C) : Type 0 where
    pub entry : EntryForms C
    pub here : slice_get (slice_index_or table i []) j ≡ Some entry
    pub gives : NodeEntry of_number number_of Sums Changes Reads rules p setting (table_forms table) i n j (Ok entry)
    pub is : f ≡ entry.form

  -- the entries of node i
  entries : List (EntryForms C)
  entries = slice_index_or table i []

  there : slice_get table i ≡ Some entries
  unfolding entries
  there =
      let b : i < length table = let c = formed.count in let l = slice_get_within p.tree i n at in omega (arith, c, l) in
      let (es, e) = element_at table i b in
      e ∙ ap Some (sym (get_or_from_slice_get table i es [] e))

  gives : NodeGives of_number number_of Sums Changes Reads rules p setting table i n (Ok entries)
  gives = formed.each i n entries (slice_get_within p.tree i n at) at there

  -- it has so many
  pub entries_counted : length (slice_index_or table i []) ≡ entries_of n.sides
  unfolding entries
  entries_counted = gives.0

  forms_are : slice_index_or (table_forms table) i [] ≡ entry_forms (slice_index_or table i [])
  unfolding entries
  forms_are = get_or_from_slice_get (table_forms table) i (entry_forms entries) [] (slice_get-map entry_forms table i ∙ ap (option_map entry_forms) there)

  -- an entry
  pub entry_there : (j : ℕ) → j < entries_of n.sides → IsEntryAt j (form_in of_number (table_forms table) i j)
  unfolding entries
  entry_there j b =
      let l : j < length entries = let c = gives.0 in omega (arith, c, b) in
      let (entry, e) = element_at entries j l in
      record {
        entry = entry;
        here = e;
        gives = gives.1 j entry e;
        is = ap (λ (fs : List (Form C)). slice_index_or fs j (zero_form of_number)) forms_are
            ∙ get_or_from_slice_get (entry_forms entries) j entry.form (zero_form of_number)
            (slice_get-map (λ (z : EntryForms C). z.form) entries j ∙ ap (option_map (λ (z : EntryForms C). z.form)) e);
      }

  -- and 0 past the end
  pub entry_past : (j : ℕ) → entries_of n.sides ≤ j → form_in of_number (table_forms table) i j ≡ zero_form of_number
  unfolding entries
  entry_past j b =
      ap (λ (fs : List (Form C)). slice_index_or fs j (zero_form of_number)) forms_are
      ∙ past_end (entry_forms entries) j (zero_form of_number) (let c = gives.0 in let m = length-map entries (λ (z : EntryForms C). z.form) in omega (arith, c, m, b))
