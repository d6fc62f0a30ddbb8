-- What is so of the forms of arguments, of unknowns and of numbers, and is kept by sums, changes and multiples, is so of the
-- entries that are made of them.
use Rattle.std.proofs.Common.{◌≡◌, ℕ, zero, suc, ◌+◌, ◌<◌, List, [], ◌∷◌, map, Option, Result, Ok, slice_index_or, refl, subst}
use Rattle.std.proofs.lemmas.Option.{none-some}
use Rattle.dcx_frac.specs.declared.fraction.Frac.{Frac}
use Rattle.dcx_frac.specs.declared.fraction.Passes.{Passes}
use Rattle.dcx_atom.specs.declared.graph.Operand.{Operand}
use Rattle.dcx_atom.specs.declared.graph.Operand.TheVariants.{Argument, Aux}
use Rattle.dcx_atom.specs.Formed.{zero_frac}
use Rattle.dcx_atom.specs.Rows as rows
use Rattle.dcx_atom.specs.Linear.{LinearTerm}
use Rattle.dcx_affine.specs.declared.pairing.Pair.{Pair}
use Rattle.dcx_linear.specs.declared.change.Change.{Change}
use Rattle.dcx_linear.specs.declared.form.Form.{Form}
use Rattle.dcx_linear.specs.Forms.{is_constant, sum_gives_linear, change_gives_linear}
use Rattle.dcx_linear.specs.Multiples.{multiple_gives}
use Rattle.dcx_linear.specs.Parts.{adds_part, adds_parts, sums_parts}
use Rattle.dcx_unknowns.proofs.Lists.{Each, each_nil, each_cons, each_head, each_tail}
use Rattle.dcx_atom.specs.OwnUnknowns.{IsOwn, AreOwnTerms, AreOwnRows, IsOwnForm}
use Rattle.dcx_entries.specs.declared.entries.EntryForms.{EntryForms}
use Rattle.dcx_entries.specs.declared.scaling.Scaling.{Scaling}
use Rattle.dcx_entries.specs.declared.scaling.Scaling.TheVariants.{LeftNumber, RightNumber, LeftAffine, RightAffine, Divisor}
use Rattle.dcx_entries.specs.Parts.{Arguments, zero_form, unknown_form, term_part, aux_part, operand_form, row_part}
use Rattle.dcx_entries.specs.Sums.{adds_multiple, adds_pair, adds_each}
use Rattle.dcx_entries.specs.Entries.{alone, LinearEntry, EachSum, AtomEntry, PairSum}
use Rattle.dcx_formed.specs.Within.{OfEntry}

-- what stands at a place of a list, or past its end
pub at_or : {A : Type 0} (P : A → Type 0) (xs : List A) (j : ℕ) (d : A) → Each P xs → P d → P (slice_index_or xs j d)
at_or P [] j d h p = p
at_or P (x ∷ xs) zero d h p = h 0 x refl
at_or P (x ∷ xs) (suc j) d h p = at_or P xs j d (λ k. h (suc k)) p

module _ {C : Type 0} (of_number : Frac → C) (number_of : C → Option Frac) (Sums : C → C → Result C Passes → Type 0) (Changes : Change → C → Result C Passes → Type 0)
    (F : Form C → Type 0) (count : ℕ) where
  -- the fact holds of numbers and of the unknowns, and is kept
  pub record IsKept : Type 0 where
    pub numbers : (x : Frac) → F (is_constant (of_number x))
    pub unknowns : (n : ℕ) → n < count → F (unknown_form of_number n)
    pub sums : (f g h : Form C) → sum_gives_linear number_of Sums f g (Ok h) → F f → F g → F h
    pub changes : (change : Change) (f h : Form C) → change_gives_linear number_of Changes change f (Ok h) → F f → F h
    pub multiples : (g f h : Form C) → multiple_gives number_of Changes g.constant f (Ok h) → F g → F f → F h

  abbrev pub OfPart : Change × Form C → Type 0
  OfPart q = F q.1

  module _ (kept : IsKept) where
    part_keeps : (f g h : Form C) (change : Change) → adds_part number_of Sums Changes f change g (Ok h) → F f → F g → F h
    part_keeps f g h change s a b = kept.sums f s.0 h s.2 a (kept.changes change g s.0 s.1 b)

    parts_keep : (ps : List (Change × Form C)) (f h : Form C) → adds_parts number_of Sums Changes ps f (Ok h) → Each OfPart ps → F f → F h
    parts_keep [] f h s a b = let d : f ≡ h = cc in subst F d b
    parts_keep (q ∷ qs) f h s a b = parts_keep qs s.0 h s.2 (each_tail OfPart q qs a) (part_keeps f q.1 s.0 q.0 s.1 b (each_head OfPart q qs a))

    sum_keeps : (ps : List (Change × Form C)) (h : Form C) → sums_parts of_number number_of Sums Changes ps (Ok h) → Each OfPart ps → F h
    sum_keeps ps h s a = parts_keep ps (zero_form of_number) h s a (kept.numbers zero_frac)

    -- ---- entries
    alone_has : (e : EntryForms C) (f : Form C) → ◌≡◌ {A = Result (EntryForms C) Passes} (Ok e) (Ok (alone f)) → F f → OfEntry F e
    alone_has e f is h = let d : alone f ≡ e = cc in subst (λ x. OfEntry F x) d (record { form = h; rows = λ k g at. absurd (none-some g at) })

    pub linear_keeps : (ps : List (Change × Form C)) (e : EntryForms C) → LinearEntry of_number number_of Sums Changes ps (Ok e) → Each OfPart ps → OfEntry F e
    linear_keeps ps e s a = alone_has e s.0 s.2 (sum_keeps ps s.0 s.1 a)

    rows_keep : (lists : List (List (Change × Form C))) (gs : List (Form C)) → EachSum of_number number_of Sums Changes lists (Ok gs) → Each (Each OfPart) lists → Each F gs
    rows_keep lists gs s a k g at = sum_keeps (slice_index_or lists k []) g (s.1 k g at) (at_or (Each OfPart) lists k [] a (each_nil OfPart))

    pub atom_keeps : (result : List (Change × Form C)) (lists : List (List (Change × Form C))) (e : EntryForms C) → AtomEntry of_number number_of Sums Changes result lists (Ok e)
        → Each OfPart result → Each (Each OfPart) lists → OfEntry F e
    atom_keeps result lists e s a b =
        let f = s.0 in
        let gs = s.2.0 in
        let d : record { form = f; rows = gs } ≡ e = cc (s.2.2) in
        subst (λ x. OfEntry F x) d (record { form = sum_keeps result f s.1 a; rows = rows_keep lists gs s.2.1 b })

    -- ---- parts
    pub terms_have : (args : Arguments C) → ((k e : ℕ) → F (args k e)) → (ts : List LinearTerm) → Each OfPart (map (term_part args) ts)
    terms_have args h [] = each_nil OfPart
    terms_have args h (t ∷ ts) = each_cons OfPart (term_part args t) (map (term_part args) ts) (h t.argument t.entry) (terms_have args h ts)

    module _ (first own : ℕ) (few : (k : ℕ) → k < own → first + k < count) where
      pub result_has : (form : rows.Form) → IsOwnForm own form → Each OfPart (map (aux_part of_number first) form)
      result_has [] h = each_nil OfPart
      result_has (x ∷ form) h = each_cons OfPart (aux_part of_number first x) (map (aux_part of_number first) form) (kept.unknowns (first + x.aux) (few x.aux h.0)) (result_has form h.1)

      module _ (args : Arguments C) (has : (k e : ℕ) → F (args k e)) where
        operand_has : (o : Operand) → IsOwn own o → F (operand_form of_number args first o)
        operand_has (Argument k e) h = has k e
        operand_has (Aux k) h = kept.unknowns (first + k) (few k h)

        row_has : (row : rows.Row) → AreOwnTerms own row → Each OfPart (map (row_part of_number args first) row)
        row_has [] h = each_nil OfPart
        row_has (x ∷ row) h = each_cons OfPart (row_part of_number args first x) (map (row_part of_number args first) row) (operand_has x.operand h.0) (row_has row h.1)

        pub rows_have : (rs : List rows.Row) → AreOwnRows own rs → Each (Each OfPart) (map (λ row. map (row_part of_number args first) row) rs)
        rows_have [] h = each_nil (Each OfPart)
        rows_have (row ∷ rs) h = each_cons (Each OfPart) (map (row_part of_number args first) row) (map (λ r. map (row_part of_number args first) r) rs) (row_has row h.0) (rows_have rs h.1)

    -- ---- pairs
    module _ (args : Arguments C) (has : (k e : ℕ) → F (args k e)) where
      multiple_keeps : (g f so_far h : Form C) → adds_multiple number_of Sums Changes g.constant f so_far (Ok h) → F g → F f → F so_far → F h
      multiple_keeps g f so_far h s a b c = kept.sums so_far s.0 h s.2 c (kept.multiples g f s.0 s.1 a b)

      pair_keeps : (scaling : Scaling) (x : Pair) (so_far h : Form C) → adds_pair number_of Sums Changes scaling args x so_far (Ok h) → F so_far → F h
      pair_keeps LeftNumber x so_far h s a = part_keeps so_far (args 1 x.right) h _ s a (has 1 x.right)
      pair_keeps RightNumber x so_far h s a = part_keeps so_far (args 0 x.left) h _ s a (has 0 x.left)
      pair_keeps LeftAffine x so_far h s a = multiple_keeps (args 0 x.left) (args 1 x.right) so_far h s (has 0 x.left) (has 1 x.right) a
      pair_keeps RightAffine x so_far h s a = multiple_keeps (args 1 x.right) (args 0 x.left) so_far h s (has 1 x.right) (has 0 x.left) a
      pair_keeps Divisor x so_far h s a = part_keeps so_far (args 0 x.left) h _ s a (has 0 x.left)

      pairs_keep : (scaling : Scaling) (xs : List Pair) (so_far h : Form C) → adds_each (adds_pair number_of Sums Changes scaling args) xs so_far (Ok h) → F so_far → F h
      pairs_keep scaling [] so_far h s a = let d : so_far ≡ h = cc in subst F d a
      pairs_keep scaling (x ∷ xs) so_far h s a = pairs_keep scaling xs s.0 h s.2 (pair_keeps scaling x so_far s.0 s.1 a)

      pub pair_sum_keeps : (scaling : Scaling) (xs : List Pair) (e : EntryForms C) → PairSum of_number number_of Sums Changes scaling args xs (Ok e) → OfEntry F e
      pair_sum_keeps scaling xs e s = alone_has e s.0 s.2 (pairs_keep scaling xs (zero_form of_number) s.0 s.1 (kept.numbers zero_frac))

    pub number_has : (e : EntryForms C) (x : Frac) → alone (is_constant (of_number x)) ≡ e → OfEntry F e
    number_has e x d = subst (λ y. OfEntry F y) d (record { form = kept.numbers x; rows = λ k g at. absurd (none-some g at) })
