-- What follows of the only argument where there is a value.
use Rattle.std.proofs.Common.{◌≡◌, ℕ, List, [], ◌∷◌, map, get_or, replicate, Option, Some, Result, Ok, Err, IsSome, IfSome, IfOk, IfErr, option_map, sym, ap, ◌∙◌, subst}
use Rattle.std.specs.declared.alloc.AllocError.{AllocError}
use Rattle.dcx_shape.specs.declared.shape.Shape.{Shape}
use Rattle.dcx_shape.specs.declared.shape.Sides.{Sides}
use Rattle.dcx_shape.specs.Shape.{sides_of}
use Rattle.dcx_shape.specs.Sides.{entries_of}
use Rattle.dcx_atom.specs.declared.axis.Axis.{Axis}
use Rattle.dcx_atom.specs.declared.graph.Graph.{Graph}
use Rattle.dcx_atom.specs.Arrays.{sides_list, sides_at, list_below}
use Rattle.dcx_atom.specs.Axis.{folded, folded_count}
use Rattle.dcx_atom.specs.Graph.{placed_row, form_term, rows_below, IsGraphOf}
use Rattle.dcx_fold.specs.declared.folding.Fold.{Fold}
use Rattle.dcx_fold.specs.Groups.{fold_sides}
use Rattle.dcx_fold.specs.GroupLaws.{at_only}
use Rattle.dcx_fold.specs.Folds.{fold_kind, unknowns, group_rows, group_form, fold_meaning}

-- the only argument's sides
pub only_shape_is : (axis : Axis) (args : List Shape) (x : Shape) → IsSome (fold_sides axis (sides_list args)) → x ≡ get_or args 0 x → sides_list args ≡ sides_of x ∷ []
only_shape_is axis [] x some e = cc
only_shape_is axis (y ∷ []) x some e = ap (λ z. sides_of z ∷ []) (sym e)
only_shape_is axis (y ∷ z ∷ zs) x some e = cc

-- what holds of the only argument and the entries of the value
pub at_fold : (axis : Axis) (args : List Shape) (x to : Shape) (r : Option Shape) (size : ℕ) (P : List Sides → ℕ → Type 0) → IsSome (fold_sides axis (sides_list args)) → x ≡ get_or args 0 x →
    r ≡ Some to → option_map sides_of r ≡ folded axis (sides_of x) → size ≡ entries_of (sides_of to) →
    P (sides_of x ∷ []) size → IfSome (fold_sides axis (sides_list args)) (λ s. P (sides_list args) (entries_of s))
at_fold axis args x to r size P some first is made n h =
    let args_are = only_shape_is axis args x some first in
    let there : folded axis (sides_of x) ≡ Some (sides_of to) = sym made ∙ ap (option_map sides_of) is in
    let value : fold_sides axis (sides_list args) ≡ Some (sides_of to) = at_only axis (sides_list args) (sides_of x) (sides_of to) some (ap (λ xs. sides_at xs 0) args_are) there in
    subst (λ o. IfSome o (λ s. P (sides_list args) (entries_of s))) (sym value) (subst (λ xs. P xs (entries_of (sides_of to))) (sym args_are) (subst (P (sides_of x ∷ [])) n h))

-- the same under a result
pub ok_at_fold : {A E : Type 0} (axis : Axis) (args : List Shape) (x to : Shape) (r : Option Shape) (size : ℕ) (P : List Sides → ℕ → A → Type 0) (result : Result A E)
    → IsSome (fold_sides axis (sides_list args)) →
    x ≡ get_or args 0 x → r ≡ Some to → option_map sides_of r ≡ folded axis (sides_of x) → size ≡ entries_of (sides_of to) →
    IfOk result (P (sides_of x ∷ []) size) → IfOk result (λ g. IfSome (fold_sides axis (sides_list args)) (λ s. P (sides_list args) (entries_of s) g))
ok_at_fold axis args x to r size P (Ok g) some first is made n h = at_fold axis args x to r size (λ xs k. P xs k g) some first is made n h
ok_at_fold axis args x to r size P (Err e) some first is made n h = tt

pub err_at_fold : {A E : Type 0} (axis : Axis) (args : List Shape) (x to : Shape) (r : Option Shape) (size : ℕ) (P : List Sides → ℕ → E → Type 0) (result : Result A E)
    → IsSome (fold_sides axis (sides_list args)) →
    x ≡ get_or args 0 x → r ≡ Some to → option_map sides_of r ≡ folded axis (sides_of x) → size ≡ entries_of (sides_of to) →
    IfErr result (P (sides_of x ∷ []) size) → IfErr result (λ e. IfSome (fold_sides axis (sides_list args)) (λ s. P (sides_list args) (entries_of s) e))
err_at_fold axis args x to r size P (Ok g) some first is made n h = tt
err_at_fold axis args x to r size P (Err e) some first is made n h = at_fold axis args x to r size (λ xs k. P xs k e) some first is made n h

-- the parts of a graph make it that of the meaning
pub fold_graph_is : (p : Fold) (axis : Axis) (s : Sides) (size : ℕ) (r : Result Graph AllocError) → IfOk r (λ g. g.aux ≡ replicate (unknowns p axis s) (fold_kind p)) →
    IfOk r (λ g. map placed_row g.rows ≡ rows_below size (group_rows p axis s)) → IfOk r (λ g. map (map form_term) g.results ≡ list_below size (group_form p (folded_count axis s))) →
    IfOk r (IsGraphOf (fold_meaning p axis) (s ∷ []) size)
fold_graph_is p axis s size (Ok g) kinds rows results = record { kinds = kinds; rows = rows; results = results }
fold_graph_is p axis s size (Err e) kinds rows results = tt
