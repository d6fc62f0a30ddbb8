-- The laws of which unknowns and parameters forms speak hold.
use Rattle.std.proofs.Common.{◌≡◌, ℕ, ◌<◌, arith, List, [], length, map, Option, Some, option_map, Result, Ok, slice_get, slice_index_or, sym, ap, ◌∙◌, subst}
use Rattle.std.specs.List.{All, Contains}
use Rattle.std.proofs.Props.{props}
use Rattle.std.proofs.Math.Logic.{∥∥₁_elim}
use Rattle.std.proofs.lemmas.List.Elements.{All-nil, All-cons}
use Rattle.std.proofs.lemmas.Option.{slice_get-map, get_or_from_slice_get}
use Rattle.dcx_frac.specs.declared.fraction.Frac.{Frac}
use Rattle.dcx_frac.specs.declared.fraction.Passes.{Passes}
use Rattle.dcx_shape.specs.Shape.{sides_of}
use Rattle.dcx_shape.specs.Sides.{entries_of}
use Rattle.dcx_point.specs.Pairs.{Pairs}
use Rattle.dcx_call.specs.declared.attribute.Parameter.{Parameter}
use Rattle.dcx_tree.specs.declared.problem.Problem.{Problem}
use Rattle.dcx_tree.specs.Nodes.{number_in}
use Rattle.dcx_tree.specs.Problems.{AreDeclared}
use Rattle.dcx_tree.specs.Meaning.{names_in}
use Rattle.dcx_linear.specs.declared.change.Change.{Change}
use Rattle.dcx_linear.specs.declared.form.Form.{Form}
use Rattle.dcx_linear.specs.declared.form.FormTerm.{FormTerm}
use Rattle.dcx_linear.specs.declared.param_term.ParamTerm.{ParamTerm}
use Rattle.dcx_linear.specs.Forms.{is_constant, sum_gives_linear, change_gives_linear}
use Rattle.dcx_linear.specs.ParamTerms.{with_coefficient}
use Rattle.dcx_linear.specs.ParamForms.{form_of_number, number_of_form, sum_gives_form, change_gives_form, IsEntryForm}
use Rattle.dcx_linear.proofs.Coefficients.{sum_keeps, change_keeps, multiple_keeps}
use Rattle.dcx_tree.proofs.Sublists.{contains_at, distinct_back}
use Rattle.dcx_unknowns.proofs.Domains.{number_of}
use Rattle.dcx_call.specs.declared.attribute.Variable.{Variable}
use Rattle.dcx_linear.specs.declared.param_form.ParamForm.{ParamForm}
use Rattle.dcx_linear.proofs.Widths.{sum_width, change_width}
use Rattle.dcx_linear.proofs.MultipleLaws.{multiple_width}
use Rattle.dcx_unknowns.specs.Layout.{unknown_kinds}
use Rattle.dcx_formed.specs.Within.{IsNarrow, IsKnown, IsKnownNumber, IsKnownTerm}
use Rattle.dcx_formed.specs.Laws.{FormsAreNarrow, FormsAreKnown}
use Rattle.dcx_formed.proofs.Entries.{IsKept}
use Rattle.dcx_formed.proofs.Parameters.{sum_lists, change_lists}
use Rattle.dcx_formed.proofs.NarrowNodes.{table_keeps}

module _ {C : Type 0} (of_number : Frac → C) (number_of : C → Option Frac) (Sums : C → C → Result C Passes → Type 0) (Changes : Change → C → Result C Passes → Type 0)
    (Reads : ℕ → List ℕ → ℕ → Pairs → C → Type 0) where
  width_kept : (count : ℕ) → IsKept of_number number_of Sums Changes (IsNarrow count) count
  width_kept count = record {
    numbers = λ x. omega arith;
    unknowns = λ n b. omega arith;
    sums = sum_width number_of count Sums;
    changes = change_width number_of count Changes;
    multiples = λ g f h s a b. multiple_width number_of Changes g.constant count f h s b;
  }

  pub forms_are_narrow : FormsAreNarrow of_number number_of Sums Changes Reads
  forms_are_narrow rules p setting table formed =
      table_keeps of_number number_of Sums Changes Reads rules p setting (IsNarrow (length (unknown_kinds rules p))) (width_kept (length (unknown_kinds rules p)))
      (λ q j c listed b r. omega arith) table formed

-- ---- parameters
module _ (p : Problem) where
  known_closed : (t : ParamTerm) (x : Frac) → IsKnownTerm p t → IsKnownTerm p (with_coefficient t x)
  known_closed t x h = record { name = h.name; entry = h.entry }

  pub known_number : (x : Frac) → IsKnown p (is_constant (form_of_number x))
  known_number x = (All-nil (IsKnownTerm p), All-nil (λ (t : FormTerm ParamForm). IsKnownNumber p t.coefficient))

  sum_known : (a b c : ParamForm) → sum_gives_form a b (Ok c) → IsKnownNumber p a → IsKnownNumber p b → IsKnownNumber p c
  sum_known a b c s h k = sum_lists (IsKnownTerm p) known_closed a b c s h k

  change_known : (change : Change) (a c : ParamForm) → change_gives_form change a (Ok c) → IsKnownNumber p a → IsKnownNumber p c
  change_known change a c s h = change_lists (IsKnownTerm p) known_closed change a c s h

  pub sum_keeps_known : (f g h : Form ParamForm) → sum_gives_linear number_of_form sum_gives_form f g (Ok h) → IsKnown p f → IsKnown p g → IsKnown p h
  sum_keeps_known = sum_keeps number_of_form (IsKnownNumber p) sum_gives_form sum_known

  pub change_keeps_known : (change : Change) (f h : Form ParamForm) → change_gives_linear number_of_form change_gives_form change f (Ok h) → IsKnown p f → IsKnown p h
  change_keeps_known = change_keeps number_of_form (IsKnownNumber p) change_gives_form change_known

  known_kept : (count : ℕ) → IsKept form_of_number number_of_form sum_gives_form change_gives_form (IsKnown p) count
  known_kept count = record {
    numbers = known_number;
    unknowns = λ n b. (
      All-nil (IsKnownTerm p),
      All-cons (λ (t : FormTerm ParamForm). IsKnownNumber p t.coefficient) _ [] (All-nil (IsKnownTerm p)) (All-nil (λ (t : FormTerm ParamForm). IsKnownNumber p t.coefficient)),
    );
    sums = sum_keeps_known;
    changes = change_keeps_known;
    multiples = λ g f h s a b. multiple_keeps number_of_form (IsKnownNumber p) change_gives_form change_known g.constant f h s a.0;
  }

  -- an entry of a declared parameter
  entry_known : (q : Parameter) (j : ℕ) (c : ParamForm) → (AreDeclared p.tree p.variables p.parameters → Contains p.parameters q) → j < entries_of (sides_of q.shape) →
      IsEntryForm (number_in (names_in p).parameters q.name) q.name j c → IsKnown p (is_constant c)
  entry_known q j c listed b h = (
    subst (λ (f : ParamForm). All (IsKnownTerm p) f.terms) (sym h.is) (All-cons (IsKnownTerm p) _ [] (record { name = name; entry = entry }) (All-nil (IsKnownTerm p))),
    All-nil (λ (t : FormTerm ParamForm). IsKnownNumber p t.coefficient),
  )
    where
      there : (d : AreDeclared p.tree p.variables p.parameters) → (k : ℕ) × (slice_get p.parameters k ≡ Some q) × (number_in (names_in p).parameters q.name ≡ k)
      there d =
          let (k, at) = contains_at p.parameters q (listed d) in (
            k,
            at,
            number_of (map (λ (r : Parameter). r.name) p.parameters) k q.name
                (distinct_back (map (λ (v : Variable). v.name) p.variables) (map (λ (r : Parameter). r.name) p.parameters) d.distinct)
                (slice_get-map (λ (r : Parameter). r.name) p.parameters k ∙ ap (option_map (λ (r : Parameter). r.name)) at),
          )

      name : slice_get (map (λ (r : Parameter). r.name) p.parameters) (number_in (names_in p).parameters q.name) ≡ Some q.name
      name =
          ∥∥₁_elim p.declared (hlevel props)
          (λ d. let (k, at, is) = there d in
          ap (slice_get (map (λ (r : Parameter). r.name) p.parameters)) is ∙ slice_get-map (λ (r : Parameter). r.name) p.parameters k ∙ ap (option_map (λ (r : Parameter). r.name)) at)

      entry : j < slice_index_or (map (λ (r : Parameter). entries_of (sides_of r.shape)) p.parameters) (number_in (names_in p).parameters q.name) 0
      entry =
          ∥∥₁_elim p.declared (hlevel props)
          (λ d. let (k, at, is) = there d in
          let size = get_or_from_slice_get (map (λ (r : Parameter). entries_of (sides_of r.shape)) p.parameters) k (entries_of (sides_of q.shape)) 0
          (slice_get-map (λ (r : Parameter). entries_of (sides_of r.shape)) p.parameters k ∙ ap (option_map (λ (r : Parameter). entries_of (sides_of r.shape))) at) in
          subst (λ n. j < n) (sym (ap (λ m. slice_index_or (map (λ (r : Parameter). entries_of (sides_of r.shape)) p.parameters) m 0) is ∙ size)) b)

pub forms_are_known : FormsAreKnown
forms_are_known rules p setting table formed =
    table_keeps form_of_number number_of_form sum_gives_form change_gives_form (λ position name entry s c. IsEntryForm position name entry c) rules p setting (IsKnown p)
    (known_kept p (length (unknown_kinds rules p)))
    (λ q j c listed b h. entry_known p q j c listed b h) table formed
