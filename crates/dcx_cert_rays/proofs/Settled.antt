-- The checks of a ray tell one thing each.
use Rattle.std.proofs.Common.{◌≡◌, ℕ, List, [], ◌∷◌, Option, Some, None, slice_get, sym, ap, subst, ◌∙◌}
use Rattle.std.proofs.lemmas.Option.{same_Some}
use Rattle.dcx_frac.specs.declared.fraction.Frac.{Frac}
use Rattle.dcx_shape.specs.Sides.{entries_of}
use Rattle.dcx_atom.specs.declared.stops.ValueStop.TheVariants as stops
use Rattle.dcx_atom.proofs.Entrywise.{err_not_ok, one_place, one_stop}
use Rattle.dcx_point.specs.Pairs.{Pairs}
use Rattle.dcx_call.specs.Forming.{IsFirst}
use Rattle.dcx_tree.specs.declared.constraint.Constraint.{Constraint}
use Rattle.dcx_tree.specs.declared.problem.Problem.{Problem}
use Rattle.dcx_tree.specs.Nodes.{Node}
use Rattle.dcx_answer.specs.declared.cert_fault.CertFault.{CertFault}
use Rattle.dcx_answer.specs.declared.cert_fault.CertFault.TheVariants.{Wide}
use Rattle.dcx_cert_sections.specs.Laws.{IsSettled}
use Rattle.dcx_cert_sections.proofs.Settled.{settled_together}
use Rattle.dcx_cert_rays.specs.Steepness.{steepness_formed, IsFormed, IsUnformed, forming_at, forming}
use Rattle.dcx_cert_rays.specs.Rays.{HoldsAt, broken_fault, IsFirstBroken, sides_hold, constraint_check, falls, value_check, constraints_check}
use Rattle.dcx_cert_rays.specs.Laws.{RayChecksAreSettled}

module _ (p : Problem) (setting ray : Pairs) where
  one_unformed : (i : ℕ) (f g : CertFault) → IsUnformed p setting ray i f → IsUnformed p setting ray i g → f ≡ g
  one_unformed i f g a b =
      let same : a.node ≡ b.node = same_Some a.node b.node (sym a.there ∙ b.there) in
      let here : IsFirst (steepness_formed p setting ray i b.node) (entries_of b.node.sides) (stops.Passes a.entry a.passes) =
      subst (λ (n : Node). IsFirst (steepness_formed p setting ray i n) (entries_of n.sides) (stops.Passes a.entry a.passes)) same a.here in
      let stop = one_stop (steepness_formed p setting ray i b.node) (entries_of b.node.sides) (stops.Passes a.entry a.passes) (stops.Passes b.entry b.passes) here b.here in
      let passes : a.passes ≡ b.passes = cc in
      a.told ∙ ap Wide passes ∙ sym b.told

  formed_or_not : (i : ℕ) (f : CertFault) → IsFormed p setting ray i → IsUnformed p setting ray i f → ⊥
  formed_or_not i f formed u =
      err_not_ok (steepness_formed p setting ray i u.node u.here.entry) (stops.Passes u.entry u.passes) u.here.here (formed u.node u.there u.here.entry u.here.within)

  pub forming_settled : (roots : List ℕ) → IsSettled (forming p setting ray roots)
  forming_settled roots = settled_together.many _ (forming_at p setting ray roots) (λ i. record {
    apart = λ f formed u. formed_or_not i f (formed u.0) u.1;
    one = λ f g a b. one_unformed i f g a.1 b.1;
  })

  -- ---- comparisons
  one_broken : (k : ℕ) (c : Constraint) (f g : CertFault) → IsFirstBroken p setting ray k c f → IsFirstBroken p setting ray k c g → f ≡ g
  one_broken k c f g a b =
      let same : a.entry ≡ b.entry = one_place (λ j. HoldsAt p setting ray c j) a.entry b.entry a.here b.here a.before b.before in
      a.told ∙ ap (broken_fault p setting ray k c) same ∙ sym b.told

  sides_settled : (k : ℕ) (c : Constraint) → IsSettled (sides_hold p setting ray k c)
  sides_settled k c = record {
    apart = λ f hold broken. broken.here (hold broken.entry broken.within);
    one = one_broken k c;
  }

  constraint_settled : (k : ℕ) (o : Option Constraint) → IsSettled (constraint_check p setting ray k o)
  constraint_settled k None = settled_together.none
  constraint_settled k (Some c) =
      settled_together.two (forming p setting ray (c.left.0 ∷ c.right.0 ∷ [])) (sides_hold p setting ray k c) (forming_settled (c.left.0 ∷ c.right.0 ∷ [])) (sides_settled k c)

  constraints_settled : IsSettled (constraints_check p setting ray)
  constraints_settled = settled_together.many _ (λ k. constraint_check p setting ray k (slice_get p.constraints k)) (λ k. constraint_settled k (slice_get p.constraints k))

  falls_settled : (slope : Frac) → IsSettled (falls p setting ray slope)
  falls_settled slope = record { apart = λ f low high. high.0 low; one = λ f g a b. a.1 ∙ sym b.1 }

  value_settled : (slope : Frac) → IsSettled (value_check p setting ray slope)
  value_settled slope = settled_together.two (forming p setting ray (p.objective.0 ∷ [])) (falls p setting ray slope) (forming_settled (p.objective.0 ∷ [])) (falls_settled slope)

pub ray_settled : RayChecksAreSettled
ray_settled p setting ray slope = settled_together.two (constraints_check p setting ray) (value_check p setting ray slope) (constraints_settled p setting ray) (value_settled p setting ray slope)
