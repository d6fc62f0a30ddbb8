-- In an accepted problem the side of a product or a quotient whose value counts reaches no variable.
use Rattle.std.proofs.Common.{◌≡◌, inl, inr, ℕ, Bool, true, false, IsTrue, IsFalse, if◌then◌else◌, List, map, refl, sym, ◌∙◌, subst}
use Rattle.std.specs.Prelude.{◌&&◌}
use Rattle.std.specs.List.{list_all}
use Rattle.std.proofs.lemmas.Bool.{and_parts, or_cases, false≢true}
use Rattle.dcx_atom.specs.declared.flags.Bend.{Bend}
use Rattle.dcx_atom.specs.declared.flags.Bend.TheVariants.{Convex, Concave}
use Rattle.dcx_convex.specs.Calls.{Kind, Nonlinear, Linear, Product, Quotient, Call}
use Rattle.dcx_convex.specs.Nodes.{Apply, IsNode, IsOrdered}
use Rattle.dcx_convex.specs.Rules.{Plain, Judgement, is_constant, argument, bends, all_suit, is_bent_call, judgement_by, judgement_at}
use Rattle.dcx_convex.specs.Problems.{Problem, IsReached, IsAccepted}
use Rattle.dcx_convex.specs.Certificates.{is_fixed}
use Rattle.dcx_convex.proofs.Told.{judgement_tells}
use Rattle.dcx_convex.proofs.Reached.{IsBent, reached_bent}
use Rattle.dcx_right.specs.Steepness.{IsValueFixed}

-- where a call bends, that side reaches none
bends_fixed : (kind : Kind) (bend : Bend) (args : List Judgement) → IsTrue (bends Plain kind bend args) → IsValueFixed kind args
bends_fixed (Nonlinear own) bend args t = tt
bends_fixed Linear bend args t = tt
bends_fixed Product bend args t = by (argument args 0).fixed refl
  where
    by : (first : Bool) → (argument args 0).fixed ≡ first → IsTrue (argument args (if first then 0 else 1)).fixed
    by true e = e
    by false e = elim (or_cases (argument args 0).fixed (argument args 1).fixed t) [ inl p ↦ absurd (false≢true (sym e ∙ p)) | inr p ↦ p ]
bends_fixed Quotient bend args t = t

-- a call that isn't constant bends as it is said to
bent_fixed : (c : Call) (bend : Bend) (args : List Judgement) → IsTrue (is_bent_call Plain c bend args) → IsFalse (judgement_by Plain (Apply c) args).fixed → IsValueFixed c.kind args
bent_fixed c bend args t loose =
    elim (or_cases (list_all (is_constant Plain) args) (bends Plain c.kind bend args && all_suit bend (c.trend (map (λ g. g.sign) args)) args) t) [
      | inl all ↦ absurd (false≢true (sym loose ∙ all))
      | inr b ↦ bends_fixed c.kind bend args (and_parts (bends Plain c.kind bend args) (all_suit bend (c.trend (map (λ g. g.sign) args)) args) b).0
    ]

pub side_fixed : (p : Problem) → IsOrdered p.nodes → IsAccepted p → (i : ℕ) → IsReached p i → (c : Call) (args : List ℕ) → IsNode p.nodes i (record { head = Apply c; args = args }) →
    IsFalse (is_fixed p.nodes i) → IsValueFixed c.kind (map (judgement_at Plain p.nodes) args)
side_fixed p ordered ok i reached c args at loose =
    let g = judgement_tells Plain p.nodes ordered i (record { head = Apply c; args = args }) at in
    let here : IsFalse (judgement_by Plain (Apply c) (map (judgement_at Plain p.nodes) args)).fixed = subst (λ (q : Judgement). IsFalse q.fixed) g loose in
    elim (subst IsBent g (reached_bent Plain p ordered ok i reached)) [
      | inl b ↦ bent_fixed c Convex (map (judgement_at Plain p.nodes) args) b here
      | inr b ↦ bent_fixed c Concave (map (judgement_at Plain p.nodes) args) b here
    ]
