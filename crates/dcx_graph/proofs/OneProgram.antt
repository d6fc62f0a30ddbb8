-- A problem whose nodes are formed has one program, or one first operation that passes.
use Rattle.std.proofs.Common.{◌≡◌, ℕ, ◌+◌, List, ◌++◌, length, map, Option, Result, Ok, Err, inl, inr, sym, ap, ap₂, ◌∙◌, subst}
use Rattle.dcx_frac.specs.declared.fraction.Frac.{Frac}
use Rattle.dcx_frac.specs.declared.fraction.Passes.{Passes}
use Rattle.dcx_tree.specs.declared.problem.Problem.{Problem}
use Rattle.dcx_tree.specs.declared.constraint.Sense.{Sense}
use Rattle.dcx_tree.specs.declared.constraint.Sense.TheVariants.{Minimize, Maximize}
use Rattle.dcx_linear.specs.declared.change.Change.{Change}
use Rattle.dcx_linear.specs.declared.change.Change.TheVariants.{Scale}
use Rattle.dcx_linear.specs.declared.form.Form.{Form}
use Rattle.dcx_linear.specs.declared.row.Row.{Row}
use Rattle.dcx_linear.specs.declared.row.RowKind.{RowKind}
use Rattle.dcx_linear.specs.declared.row.UnknownKind.{UnknownKind}
use Rattle.dcx_linear.specs.FormLaws.{one_linear_change}
use Rattle.dcx_linear.specs.Parts.{adds_part}
use Rattle.dcx_linear.proofs.PartSums.{one_part}
use Rattle.dcx_entries.specs.declared.formed.FormedRow.{FormedRow}
use Rattle.dcx_entries.proofs.OneAnswer.{one_each}
use Rattle.dcx_graph.specs.declared.constraint.ConstraintEntry.{ConstraintEntry}
use Rattle.dcx_graph.specs.declared.origin.Origin.{Origin}
use Rattle.dcx_graph.specs.Program.{Program, minus_one, constraint_entries, graph_row, AtRow, OfKind, form_at, Least, EntryRow, RowOf, EntryRows, Objective, GivesProgramWith}

-- programs with the same parts
pub same_program : {C : Type 0} (q r : Program C) → q.rows ≡ r.rows → q.objective ≡ r.objective → q.kinds ≡ r.kinds → q.origins ≡ r.origins → q ≡ r
same_program {C} q r rows objective kinds origins =
    ap₂ (λ (x : List (Row C)) (f : Form C). record { rows = x; objective = f; kinds = q.kinds; origins = q.origins }) rows objective
    ∙ ap₂ (λ (k : List UnknownKind) (o : List Origin). record { rows = r.rows; objective = r.objective; kinds = k; origins = o }) kinds origins

-- a row that F forms
module _ {A : Type 0} (F : Result A Passes → Type 0) (one : (r s : Result A Passes) → F r → F s → r ≡ s) where
  one_value : (x y : A) → F (Ok x) → F (Ok y) → x ≡ y
  one_value x y h k = let e = one (Ok x) (Ok y) h k in cc

  one_stop : (x y : Passes) → F (Err x) → F (Err y) → x ≡ y
  one_stop x y h k = let e = one (Err x) (Err y) h k in cc

  not_both : {B : Type 0} (x : A) (y : Passes) → F (Ok x) → F (Err y) → B
  not_both x y h k = let e = one (Ok x) (Err y) h k in cc

  one_at_row : (n : ℕ) (r s : Result A (ℕ × Passes)) → AtRow n F r → AtRow n F s → r ≡ s
  one_at_row n (Ok x) (Ok y) h k = ap Ok (one_value x y h k)
  one_at_row n (Ok x) (Err s) h k = not_both x s.1 h k.1
  one_at_row n (Err s) (Ok y) h k = not_both y s.1 k h.1
  one_at_row n (Err s) (Err t) h k = ap₂ (λ m passes. Err (m, passes)) (h.0 ∙ sym k.0) (one_stop s.1 t.1 h.1 k.1)

one_of_kind : {C : Type 0} (F : Result (Form C) Passes → Type 0) → ((r s : Result (Form C) Passes) → F r → F s → r ≡ s) → (kind : RowKind) (r s : Result (Row C) Passes) → OfKind kind F r
    → OfKind kind F s → r ≡ s
one_of_kind F one kind (Ok x) (Ok y) h k = ap₂ (λ a f. Ok (record { kind = a; form = f })) (h.0 ∙ sym k.0) (one_value F one x.form y.form h.1 k.1)
one_of_kind F one kind (Ok x) (Err q) h k = not_both F one x.form q h.1 k
one_of_kind F one kind (Err p) (Ok y) h k = not_both F one y.form p k.1 h
one_of_kind F one kind (Err p) (Err q) h k = ap Err (one_stop F one p q h k)

module _ {C : Type 0} (of_number : Frac → C) (number_of : C → Option Frac) (Sums : C → C → Result C Passes → Type 0) (Changes : Change → C → Result C Passes → Type 0)
    (one_sum : (a b : C) (r s : Result C Passes) → Sums a b r → Sums a b s → r ≡ s)
    (one_change : (change : Change) (a : C) (r s : Result C Passes) → Changes change a r → Changes change a s → r ≡ s) where
  one_least : (sense : Sense) (f : Form C) (r s : Result (Form C) Passes) → Least number_of Changes sense f r → Least number_of Changes sense f s → r ≡ s
  one_least Minimize f r s h k = h ∙ sym k
  one_least Maximize f r s h k = one_linear_change number_of Changes one_change (Scale minus_one) f r s h k

  module _ (forms : List (List (Form C))) where
    abbrev Own : ConstraintEntry → Result (Row C) Passes → Type 0
    Own = EntryRow of_number number_of Sums Changes forms

    one_entry_row : (x : ConstraintEntry) (r s : Result (Row C) Passes) → Own x r → Own x s → r ≡ s
    one_entry_row x r s h k =
        let left = form_at of_number forms x.left.0 x.entry in
        let right = form_at of_number forms x.right.0 x.entry in
        one_of_kind (adds_part number_of Sums Changes left (Scale minus_one) right) (one_part number_of Sums Changes one_sum one_change left right (Scale minus_one)) x.kind r s h k

    one_row_of : (xs : List ConstraintEntry) (n : ℕ) (r s : Result (Row C) (ℕ × Passes)) → RowOf of_number number_of Sums Changes forms xs n r → RowOf of_number number_of Sums Changes forms xs n s
        → r ≡ s
    one_row_of xs n r s h k =
        let e : h.0 ≡ k.0 = let a = h.1 in let b = k.1 in cc in
        one_at_row (Own k.0) (one_entry_row k.0) n r s (subst (λ x. AtRow n (Own x) r) e h.2) k.2

    one_entry_rows : (xs : List ConstraintEntry) (r s : Result (List (Row C)) (ℕ × Passes)) → EntryRows of_number number_of Sums Changes forms xs r
        → EntryRows of_number number_of Sums Changes forms xs s → r ≡ s
    one_entry_rows xs r s h k = one_each (RowOf of_number number_of Sums Changes forms xs) (one_row_of xs) (length xs) r s h k

    module _ (p : Problem) (graph : List (FormedRow C)) (kinds : List UnknownKind) where
      abbrev Rows : Result (List (Row C)) (ℕ × Passes) → Type 0
      Rows = EntryRows of_number number_of Sums Changes forms (constraint_entries p)

      abbrev Small : Result (Form C) Passes → Type 0
      Small = Objective of_number number_of Sums Changes p forms

      one_small : (r s : Result (Form C) Passes) → Small r → Small s → r ≡ s
      one_small r s h k = one_least p.sense (form_at of_number forms p.objective.0 0) r s h k

      abbrev Gives : Result (Program C) (ℕ × Passes) → Type 0
      Gives = GivesProgramWith of_number number_of Sums Changes p forms graph kinds

      one_rows : (r s : Result (List (Row C)) (ℕ × Passes)) → Rows r → Rows s → r ≡ s
      one_rows r s h k = one_entry_rows (constraint_entries p) r s h k

      both_formed : (q r : Program C) → Gives (Ok q) → Gives (Ok r) → q ≡ r
      both_formed q r h k =
          let e = one_rows (Ok h.constraints) (Ok k.constraints) h.constraints_are k.constraints_are in
          let d : h.constraints ≡ k.constraints = cc in
          same_program q r (h.rows_are ∙ ap (λ rs. rs ++ map graph_row graph) d ∙ sym k.rows_are) (one_value Small one_small q.objective r.objective h.objective_is k.objective_is)
          (h.kinds_are ∙ sym k.kinds_are) (h.origins_are ∙ sym k.origins_are)

      formed_or_not : {B : Type 0} (q : Program C) (s : ℕ × Passes) → Gives (Ok q) → Gives (Err s) → B
      formed_or_not q s h (inl k) = let e = one_rows (Ok h.constraints) (Err s) h.constraints_are k in cc
      formed_or_not q s h (inr k) = not_both Small one_small q.objective s.1 h.objective_is k.1.1

      both_stop : (s t : ℕ × Passes) → Gives (Err s) → Gives (Err t) → s ≡ t
      both_stop s t (inl h) (inl k) = let e = one_rows (Err s) (Err t) h k in cc
      both_stop s t (inl h) (inr k) = let e = one_rows (Err s) (Ok k.0.0) h k.0.1 in cc
      both_stop s t (inr h) (inl k) = let e = one_rows (Ok h.0.0) (Err t) h.0.1 k in cc
      both_stop s t (inr h) (inr k) = let e = one_at_row Small one_small (length (constraint_entries p) + length graph) (Err s) (Err t) h.1 k.1 in cc

      pub one_program_with : (r s : Result (Program C) (ℕ × Passes)) → Gives r → Gives s → r ≡ s
      one_program_with (Ok q) (Ok r) h k = ap Ok (both_formed q r h k)
      one_program_with (Ok q) (Err s) h k = formed_or_not q s h k
      one_program_with (Err s) (Ok q) h k = formed_or_not q s k h
      one_program_with (Err s) (Err t) h k = ap Err (both_stop s t h k)
