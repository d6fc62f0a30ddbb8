-- Which side of a product scales the other one, and that in an accepted problem it may.
use Rattle.std.proofs.Common.{◌≡◌, ◌⊎◌, inl, inr, Bool, true, false, IsTrue, if◌then◌else◌, refl, sym, ◌∙◌}
use Rattle.std.specs.Prelude.{◌&&◌, ◌||◌}
use Rattle.std.proofs.lemmas.Bool.{and_parts, and_from, or_cases, false≢true}
use Rattle.dcx_convex.specs.Rules.{Rules, Plain, Parametrized, Judgement, is_constant, is_affine, scales}
use Rattle.dcx_entries.specs.declared.scaling.Side.{Side}
use Rattle.dcx_entries.specs.declared.scaling.Scaling.{Scaling}
use Rattle.dcx_entries.specs.declared.scaling.Scaling.TheVariants.{LeftNumber, RightNumber, LeftAffine, RightAffine}
use Rattle.dcx_entries.specs.Nodes.{product_scaling}

-- a side that counts as a number is constant, or affine and the other one reaches no parameter
pub record CountsAffine (g other : Judgement) : Type 0 where
  pub fixed : IsTrue g.fixed
  pub affine : IsTrue (is_affine g)
  pub settled : IsTrue other.unparametrized

pub scaling_side : (rules : Rules) (g other : Judgement) → IsTrue (scales rules g other) → IsTrue (is_constant rules g) ⊎ CountsAffine g other
scaling_side Plain g other t = inl t
scaling_side Parametrized g other t = elim (or_cases (is_constant Parametrized g) (g.fixed && (is_affine g && other.unparametrized)) t) [
  | inl c ↦ inl c
  | inr c ↦
      let f = and_parts g.fixed (is_affine g && other.unparametrized) c in
      let w = and_parts (is_affine g) other.unparametrized f.1 in
      inr (record { fixed = f.0; affine = w.0; settled = w.1 })
]

-- what reaches nothing is constant
pub settled_constant : (rules : Rules) (g : Judgement) → IsTrue g.fixed → IsTrue g.unparametrized → IsTrue (is_constant rules g)
settled_constant Plain g f s = f
settled_constant Parametrized g f s = and_from g.fixed g.unparametrized f s

-- two sides of which these judgements are told, with what is known of them: `left` where the left side scales, as a number or as
-- an affine number
module _ (rules : Rules) (g h : Judgement) (l r : Side)
    (l_number : l.number ≡ is_constant rules g) (r_number : r.number ≡ is_constant rules h) (l_fixed : l.fixed ≡ g.fixed) (r_fixed : r.fixed ≡ h.fixed)
    (l_numbers : IsTrue g.unparametrized → IsTrue l.numbers) (r_numbers : IsTrue h.unparametrized → IsTrue r.numbers)
    (taken : IsTrue (scales rules g h || scales rules h g)) where
  -- where neither side is a number, one of them is affine and the other one reaches no parameter
  one_affine : l.number ≡ false → r.number ≡ false → CountsAffine g h ⊎ CountsAffine h g
  one_affine a b = by (or_cases (scales rules g h) (scales rules h g) taken)
    where
      by : IsTrue (scales rules g h) ⊎ IsTrue (scales rules h g) → CountsAffine g h ⊎ CountsAffine h g
      by (inl t) = elim (scaling_side rules g h t) [ inl c ↦ absurd (false≢true (sym a ∙ l_number ∙ c)) | inr c ↦ inl c ]
      by (inr t) = elim (scaling_side rules h g t) [ inl c ↦ absurd (false≢true (sym b ∙ r_number ∙ c)) | inr c ↦ inr c ]

  module _ (P : Scaling → Type 0) (left_number : IsTrue (is_constant rules g) → P LeftNumber) (right_number : IsTrue (is_constant rules h) → P RightNumber)
      (left_affine : ¬ IsTrue (is_constant rules g) → CountsAffine g h → P LeftAffine) (right_affine : ¬ IsTrue (is_constant rules h) → CountsAffine h g → P RightAffine) where
    affine_sides : l.number ≡ false → r.number ≡ false → (c d : Bool) → (l.fixed && r.numbers) ≡ c → (r.fixed && l.numbers) ≡ d → CountsAffine g h ⊎ CountsAffine h g →
        P (if c then LeftAffine else (if d then RightAffine else LeftNumber))
    affine_sides a b true d e f (inl k) = left_affine (λ t. false≢true (sym a ∙ l_number ∙ t)) k
    affine_sides a b true d e f (inr k) =
        let fixed : IsTrue g.fixed = sym l_fixed ∙ (and_parts l.fixed r.numbers e).0 in
        absurd (false≢true (sym a ∙ l_number ∙ settled_constant rules g fixed k.settled))
    affine_sides a b false true e f (inl k) =
        let fixed : IsTrue h.fixed = sym r_fixed ∙ (and_parts r.fixed l.numbers f).0 in
        absurd (false≢true (sym b ∙ r_number ∙ settled_constant rules h fixed k.settled))
    affine_sides a b false true e f (inr k) = right_affine (λ t. false≢true (sym b ∙ r_number ∙ t)) k
    affine_sides a b false false e f (inl k) = absurd (false≢true (sym e ∙ and_from l.fixed r.numbers (l_fixed ∙ k.fixed) (r_numbers k.settled)))
    affine_sides a b false false e f (inr k) = absurd (false≢true (sym f ∙ and_from r.fixed l.numbers (r_fixed ∙ k.fixed) (l_numbers k.settled)))

    -- the scaling that is chosen may be
    pub scaling_may : P (product_scaling l r)
    scaling_may = by l.number r.number refl refl
      where
        by : (a b : Bool) → l.number ≡ a → r.number ≡ b
            → P (if a then LeftNumber else (if b then RightNumber else (if l.fixed && r.numbers then LeftAffine else (if r.fixed && l.numbers then RightAffine else LeftNumber))))
        by true b e f = left_number (sym l_number ∙ e)
        by false true e f = right_number (sym r_number ∙ f)
        by false false e f = affine_sides e f (l.fixed && r.numbers) (r.fixed && l.numbers) refl refl (one_affine e f)
