-- Checks that tell one thing each tell one thing in order.
use Rattle.std.proofs.Common.{◌≡◌, ℕ, subst}
use mathlib.Core.Logic.{inl, inr}
use Rattle.dcx_atom.proofs.Entrywise.{one_place}
use Rattle.dcx_answer.specs.declared.cert_fault.CertFault.{CertFault}
use Rattle.dcx_cert_sections.specs.Checks.{Check, nothing, in_turn, each_below, IsFirstOf}
use Rattle.dcx_cert_sections.specs.Laws.{IsSettled, AreSettledTogether}

-- no check tells nothing
none : IsSettled nothing
none = record { apart = λ f p e. e; one = λ f g e h. absurd e }

module _ (a b : Check) (sa : IsSettled a) (sb : IsSettled b) where
  two_apart : (f : CertFault) → (in_turn a b).passes → (in_turn a b).fails f → ⊥
  two_apart f p (inl e) = sa.apart f p.0 e
  two_apart f p (inr e) = sb.apart f p.1 e.1

  two_one : (f g : CertFault) → (in_turn a b).fails f → (in_turn a b).fails g → f ≡ g
  two_one f g (inl e) (inl h) = sa.one f g e h
  two_one f g (inl e) (inr h) = absurd (sa.apart f h.0 e)
  two_one f g (inr e) (inl h) = absurd (sa.apart g e.0 h)
  two_one f g (inr e) (inr h) = sb.one f g e.1 h.1

  -- one check and another tell one thing
  pub two : IsSettled (in_turn a b)
  two = record { apart = two_apart; one = two_one }

module _ (count : ℕ) (check : ℕ → Check) (settled : (k : ℕ) → IsSettled (check k)) where
  many_apart : (f : CertFault) → (each_below count check).passes → IsFirstOf count check f → ⊥
  many_apart f p e = (settled e.position).apart f (p e.position e.there) e.here

  many_one : (f g : CertFault) → IsFirstOf count check f → IsFirstOf count check g → f ≡ g
  many_one f g e h =
      let same : e.position ≡ h.position =
      one_place (λ k. (check k).passes) e.position h.position (λ p. (settled e.position).apart f p e.here) (λ p. (settled h.position).apart g p h.here) e.before h.before in
      (settled h.position).one f g (subst (λ k. (check k).fails f) same e.here) h.here

  -- so many checks tell one thing
  pub many : IsSettled (each_below count check)
  many = record { apart = many_apart; one = many_one }

pub settled_together : AreSettledTogether
settled_together = record { none = none; two = two; many = many }
