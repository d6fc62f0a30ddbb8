-- Rows by entry and node: one row more, one entry more, one node more.
use Rattle.std.proofs.Common.{◌≡◌, ℕ, zero, suc, ◌+◌, ◌<◌, ◌≤◌, arith, List, [], ◌∷◌, ◌++◌, length, map, take, get_or, slice_index_or, refl, sym, ap, ap₂, ◌∙◌, length-append, append_assoc}
use Rattle.std.proofs.Math.ListN.{set}
use Rattle.std.proofs.lemmas.List.{take_more, get_or_append_left, get_or_push, get_or-set_other}
use Rattle.dcx_frac.specs.declared.fraction.Frac.{Frac}
use Rattle.dcx_atom.specs.declared.array.Array.{Array}
use Rattle.dcx_atom.specs.Arrays.{list_below, joined_below}
use Rattle.dcx_atom.proofs.Lists.{joined_below-next, list_below-same, joined_below-same}
use Rattle.dcx_linear.specs.declared.form.Form.{Form}
use Rattle.dcx_linear.specs.Forms.{is_constant}
use Rattle.dcx_entries.specs.declared.entries.EntryForms.{EntryForms}
use Rattle.dcx_entries.specs.declared.formed.FormedRow.{FormedRow}
use Rattle.dcx_entries.specs.Parts.{zero_form}
use Rattle.dcx_entries.specs.Entries.{alone, entry_forms}
use Rattle.dcx_entries.specs.Kept.{entry_rows, node_rows, graph_rows}
use Rattle.dcx_entries.specs.Nodes.{Table}
use Rattle.dcx_nodes.specs.Formed.{value_entries}

-- ---- lists by number
joined_none : {A : Type 0} (n : ℕ) (f : ℕ → List A) → ((k : ℕ) → k < n → f k ≡ []) → joined_below n f ≡ []
joined_none zero f h = refl
joined_none (suc n) f h = ap₂ ◌++◌ (joined_none n f (λ k b. h k (omega (arith, b)))) (h n (omega arith))

module _ {C : Type 0} (of_number : Frac → C) where
  -- ---- the rows of an entry
  abbrev pub rows_made : ℕ → ℕ → List (Form C) → List (FormedRow C)
  rows_made i j fs = entry_rows of_number i j (record { form = zero_form of_number; rows = fs })

  pub one_row_more : (i j : ℕ) (fs : List (Form C)) (f : Form C) → rows_made i j (fs ++ f ∷ []) ≡ rows_made i j fs ++ record { node = record { 0 = i }; entry = j; row = length fs; form = f } ∷ []
  one_row_more i j fs f =
      let many : length (fs ++ f ∷ []) ≡ suc (length fs) = omega (arith, length-append fs (f ∷ [])) in
      let Row : ℕ → FormedRow C = λ k. record { node = record { 0 = i }; entry = j; row = k; form = slice_index_or (fs ++ f ∷ []) k (zero_form of_number) } in
      ap (λ n. list_below n Row) many
      ∙ ap₂ (λ xs x. xs ++ x ∷ [])
      (list_below-same (length fs) Row (λ k. record { node = record { 0 = i }; entry = j; row = k; form = slice_index_or fs k (zero_form of_number) })
      (λ k b. ap (λ g. record { node = record { 0 = i }; entry = j; row = k; form = g }) (get_or_append_left fs (f ∷ []) (zero_form of_number) k b)))
      (ap (λ g. record { node = record { 0 = i }; entry = j; row = length fs; form = g }) (get_or_push fs f (zero_form of_number) (length fs) refl))

  -- the rows so far of a list
  pub rows_go_on : (i j : ℕ) (fs : List (Form C)) (k : ℕ) (f : Form C) (old rows new : List (FormedRow C)) → k < length fs → f ≡ get_or fs k f → rows ≡ old ++ rows_made i j (take k fs) →
      new ≡ rows ++ record { node = record { 0 = i }; entry = j; row = k; form = f } ∷ [] → new ≡ old ++ rows_made i j (take (k + 1) fs)
  rows_go_on i j fs k f old rows new lt is so_far e =
      let one : take (k + 1) fs ≡ take k fs ++ f ∷ [] = take_more fs k f lt ∙ ap (λ x. take k fs ++ x ∷ []) (sym is) in
      let many : length (take k fs) ≡ k = taken fs k lt in
      e ∙ ap (λ xs. xs ++ record { node = record { 0 = i }; entry = j; row = k; form = f } ∷ []) so_far
      ∙ append_assoc old (rows_made i j (take k fs)) (record { node = record { 0 = i }; entry = j; row = k; form = f } ∷ [])
      ∙ ap (λ xs. old ++ xs) (ap (λ r. rows_made i j (take k fs) ++ record { node = record { 0 = i }; entry = j; row = r; form = f } ∷ []) (sym many) ∙ sym (one_row_more i j (take k fs) f)
      ∙ ap (rows_made i j) (sym one))
    where
      taken : (xs : List (Form C)) (k : ℕ) → k < length xs → length (take k xs) ≡ k
      taken [] k b = absurd (omega (arith, b))
      taken (x ∷ xs) zero b = refl
      taken (x ∷ xs) (suc k) b = ap suc (taken xs k (omega (arith, b)))

  -- ---- the rows of a node
  abbrev pub rows_to : ℕ → List (EntryForms C) → ℕ → List (FormedRow C)
  rows_to i es k = joined_below k (λ j. entry_rows of_number i j (slice_index_or es j (alone (zero_form of_number))))

  pub entry_more : (i : ℕ) (es : List (EntryForms C)) (k : ℕ) (e : EntryForms C) (old rows new : List (FormedRow C)) → e ≡ get_or es k (alone (zero_form of_number)) → rows ≡ old ++ rows_to i es k
      → new ≡ rows ++ entry_rows of_number i k e → new ≡ old ++ rows_to i es (k + 1)
  entry_more i es k e old rows new is so_far h =
      h ∙ ap₂ (λ xs x. xs ++ entry_rows of_number i k x) so_far is ∙ append_assoc old (rows_to i es k) (entry_rows of_number i k (get_or es k (alone (zero_form of_number))))
      ∙ ap (λ xs. old ++ xs) (sym (joined_below-next k (λ j. entry_rows of_number i j (slice_index_or es j (alone (zero_form of_number))))))

  -- a number has none
  pub value_rows : (i : ℕ) (x : Array) → node_rows of_number i (value_entries of_number x) ≡ []
  value_rows i x = joined_none (length (value_entries of_number x)) _ (λ k b. none k x.entries)
    where
      none : (k : ℕ) (xs : List Frac) → entry_rows of_number i k (slice_index_or (map (λ n. alone (is_constant (of_number n))) xs) k (alone (zero_form of_number))) ≡ []
      none k xs = by k xs k
        where
          by : (j : ℕ) (xs : List Frac) (k : ℕ) → entry_rows of_number i j (slice_index_or (map (λ n. alone (is_constant (of_number n))) xs) k (alone (zero_form of_number))) ≡ []
          by j [] k = refl
          by j (y ∷ ys) zero = refl
          by j (y ∷ ys) (suc k) = by j ys k

  -- an entry whose form stays
  pub forms_set : (es : List (EntryForms C)) (k : ℕ) (e : EntryForms C) → k < length es → e.form ≡ (get_or es k e).form → entry_forms (set es k e) ≡ entry_forms es
  forms_set [] k e b h = absurd (omega (arith, b))
  forms_set (x ∷ xs) zero e b h = ap (λ f. f ∷ entry_forms xs) h
  forms_set (x ∷ xs) (suc k) e b h = ap (λ fs. x.form ∷ fs) (forms_set xs k e (omega (arith, b)) h)

  -- later entries stay
  pub later_same : (es now : List (EntryForms C)) (k : ℕ) (e : EntryForms C) → ((j : ℕ) (d : EntryForms C) → k ≤ j → get_or now j d ≡ get_or es j d) → (j : ℕ) (d : EntryForms C) → k + 1 ≤ j
      → get_or (set now k e) j d ≡ get_or es j d
  later_same es now k e h j d b = get_or-set_other now k j e d (λ s. omega (arith, b, s)) ∙ h j d (omega (arith, b))

  -- ---- the rows of all nodes
  pub node_more : (table : Table C) (es : List (EntryForms C)) → graph_rows of_number (table ++ es ∷ []) ≡ graph_rows of_number table ++ node_rows of_number (length table) es
  node_more table es =
      let many : length (table ++ es ∷ []) ≡ suc (length table) = omega (arith, length-append table (es ∷ [])) in
      ap (λ n. joined_below n (λ i. node_rows of_number i (slice_index_or (table ++ es ∷ []) i []))) many
      ∙ ap₂ ◌++◌
      (joined_below-same (length table) (λ i. node_rows of_number i (slice_index_or (table ++ es ∷ []) i [])) (λ i. node_rows of_number i (slice_index_or table i []))
      (λ k b. ap (node_rows of_number k) (get_or_append_left table (es ∷ []) [] k b)))
      (ap (node_rows of_number (length table)) (get_or_push table es [] (length table) refl))
