-- The number stands at the entry that is found.
use Rattle.std.proofs.Common.{◌≡◌, ℕ, ◌<◌, List, length, get_or, Some, refl, sym, ap, ◌∙◌, subst}
use Rattle.std.specs.List.{slice_get}
use Rattle.std.proofs.lemmas.Option.{slice_get_read}
use Rattle.dcx_frac.specs.declared.fraction.Frac.{Frac}
use Rattle.dcx_shape.specs.Shape.{sides_of}
use Rattle.dcx_shape.specs.Sides.{entries_of}
use Rattle.dcx_atom.specs.declared.array.Array.{Array}
use Rattle.dcx_atom.specs.Arrays.{number_at}
use Rattle.dcx_call.specs.declared.attribute.Parameter.{Parameter}
use Rattle.dcx_domain.specs.Entries.{LeavesFirstAt}
use Rattle.dcx_fit.specs.Fit.{IsFirstLeft}
use Rattle.dcx_fit.proofs.parameters.left_of.Goals as goal

-- the entry is one of the array
within : (q : Parameter) (array : Array) (xs : List Frac) (k : ℕ) → sides_of array.shape ≡ sides_of q.shape → xs ≡ array.entries
    → LeavesFirstAt q.attribute (sides_of q.shape) (number_at xs) k → k < length xs
within q array xs k shapes same first = subst (λ n. k < n) (sym (ap length same ∙ array.full ∙ ap entries_of shapes)) first.there

left_at : (q : Parameter) (array : Array) (xs : List Frac) (k : ℕ) (x : Frac) → sides_of array.shape ≡ sides_of q.shape → xs ≡ array.entries
    → LeavesFirstAt q.attribute (sides_of q.shape) (number_at xs) k → x ≡ get_or xs k x → IsFirstLeft q array k x
left_at q array xs k x shapes same first is = record {
  leaves = subst (λ (ys : List Frac). LeavesFirstAt q.attribute (sides_of q.shape) (number_at ys) k) same first;
  number = subst (λ (ys : List Frac). slice_get ys k ≡ Some x) same (slice_get_read xs (length xs) k x refl (within q array xs k shapes same first) is);
}

pub bounds-numbers-entry : goal.bounds-numbers-entry
bounds-numbers-entry c = within c.args.parameter.now c.args.array.now c.as_slice-numbers.result.now c.in_ok-entry.entry c.requires c.as_slice-numbers.ensures c.in_ok-entry.ensures.first

pub returns : goal.returns
returns c =
    left_at c.args.parameter.now c.args.array.now c.as_slice-numbers.result.now c.in_ok-entry.entry c.index-numbers-entry.result c.requires c.as_slice-numbers.ensures
    c.in_ok-entry.ensures.first c.index-numbers-entry.is
