-- What stands past the end of a list, and at a place of one that is made of others.
use Rattle.std.proofs.Common.{◌≡◌, ℕ, zero, suc, ◌≤◌, ◌<◌, arith, false, List, [], ◌∷◌, length, map, get_or, slice_index_or, refl, sym, ap, ◌∙◌, pos}
use Rattle.std.specs.Prelude.{nat_lt}
use Rattle.std.proofs.lemmas.Bool.{lt-ltb, false≢true}
use Rattle.std.proofs.lemmas.List.{length-map}
use native.Mathlib.Decide.{dec_lt}
use Rattle.dcx_math.specs.Rational.{whole}
use Rattle.dcx_frac.specs.declared.fraction.Frac.{Frac}
use Rattle.dcx_frac.specs.Frac.{value}
use Rattle.dcx_atom.specs.Formed.{zero_frac}
use Rattle.dcx_atom.proofs.FormedSums.{zero_frac-unique}
use Rattle.dcx_linear.specs.declared.form.Form.{Form}
use Rattle.dcx_linear.specs.Forms.{is_constant}
use Rattle.std.proofs.lemmas.List.{get_or-map}
use Rattle.dcx_arena.specs.declared.node.NodeId.{NodeId}
use Rattle.dcx_arena.specs.Nodes.{positions}
use Rattle.dcx_entries.specs.declared.standing.Standing.{Standing}
use Rattle.dcx_entries.specs.Standing.{forms_of, entry_of, all_forms, args_among}

pub past_end : {A : Type 0} (xs : List A) (e : ℕ) (d : A) → length xs ≤ e → slice_index_or xs e d ≡ d
past_end [] e d h = refl
past_end (x ∷ xs) zero d h = absurd (omega (arith, h))
past_end (x ∷ xs) (suc e) d h = past_end xs e d (omega (arith, h))

pub not_below : (e n : ℕ) → false ≡ nat_lt e n → n ≤ e
not_below e n h = elim (dec_lt e n) [ yes b ↦ absurd (false≢true (h ∙ lt-ltb e n b)) | no p ↦ omega arith ]

-- 0 stands past the end
pub zero_past : {C X : Type 0} (of_number : Frac → C) (f : X → Form C) (z : Frac) (xs : List X) (e n : ℕ) → value z ≡ whole (pos 0) → length xs ≡ n → false ≡ nat_lt e n →
    is_constant (of_number z) ≡ slice_index_or (map f xs) e (is_constant (of_number zero_frac))
zero_past of_number f z xs e n h k past =
    ap (λ x. is_constant (of_number x)) (zero_frac-unique z h)
    ∙ sym (past_end (map f xs) e (is_constant (of_number zero_frac)) (let b = not_below e n past in omega (arith, length-map xs f, k, b)))

-- ---- what stands at an entry of an argument
module _ {C : Type 0} (of_number : Frac → C) (standing : List (Standing C)) (ids : List NodeId) (k e : ℕ) where
  abbrev beyond : ℕ → List (Form C)
  beyond a = slice_index_or (all_forms of_number standing) a []

  abbrev argument : List (Form C)
  argument = slice_index_or (map beyond (positions ids)) k []

  at_id : (id : NodeId) → k < length ids → id ≡ get_or ids k id → argument ≡ beyond id.0
  at_id id b is =
      let l : k < length (positions ids) = omega (arith, length-map ids (λ (a : NodeId). a.0), b) in
      get_or-map beyond (positions ids) k id.0 [] l ∙ ap beyond (get_or-map (λ (a : NodeId). a.0) ids k id id.0 b ∙ ap (λ (a : NodeId). a.0) (sym is))

  -- a node that is there
  pub argument_is : (id : NodeId) (s : Standing C) → k < length ids → id ≡ get_or ids k id → id.0 < length standing → s ≡ get_or standing id.0 s →
      entry_of of_number s e ≡ args_among of_number (all_forms of_number standing) (positions ids) k e
  argument_is id s b is c there =
      ap (λ (fs : List (Form C)). slice_index_or fs e (is_constant (of_number zero_frac)))
      (sym (at_id id b is ∙ get_or-map (forms_of of_number) standing id.0 s [] c ∙ ap (forms_of of_number) (sym there)))

  -- a node that isn't there yet
  pub node_past : (id : NodeId) (z : Frac) → k < length ids → id ≡ get_or ids k id → length standing ≤ id.0 → value z ≡ whole (pos 0) →
      is_constant (of_number z) ≡ args_among of_number (all_forms of_number standing) (positions ids) k e
  node_past id z b is c h =
      ap (λ x. is_constant (of_number x)) (zero_frac-unique z h)
      ∙ ap (λ (fs : List (Form C)). slice_index_or fs e (is_constant (of_number zero_frac)))
      (sym (at_id id b is ∙ past_end (all_forms of_number standing) id.0 [] (omega (arith, length-map standing (forms_of of_number), c))))

  -- an argument that isn't there
  pub argument_past : (z : Frac) → length ids ≤ k → value z ≡ whole (pos 0) → is_constant (of_number z) ≡ args_among of_number (all_forms of_number standing) (positions ids) k e
  argument_past z b h =
      ap (λ x. is_constant (of_number x)) (zero_frac-unique z h)
      ∙ ap (λ (fs : List (Form C)). slice_index_or fs e (is_constant (of_number zero_frac)))
      (sym (past_end (map beyond (positions ids)) k [] (omega (arith, length-map (positions ids) beyond, length-map ids (λ (a : NodeId). a.0), b))))
