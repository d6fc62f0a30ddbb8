-- What a rule tells of a node is the rule's answer to what it tells of the arguments, where these stand before the node.
use Rattle.std.proofs.Common.{◌≡◌, inl, inr, ℕ, zero, suc, ◌<◌, arith, List, [], ◌∷◌, length, map, All, Option, Some, None, slice_get, refl, sym, ap, ap₂, ◌∙◌}
use Rattle.std.proofs.lemmas.List.Elements.{All-head, All-tail}
use Rattle.std.proofs.lemmas.Option.{slice_get_cases, none-some}
use Rattle.dcx_convex.specs.Nodes.{Head, Node, IsOrdered, told, told_within, told_of, Tells, AreRenumbered, Setting, Point, zeros, value_by, value_at}
use Rattle.dcx_convex.specs.Rules.{Rules, no_argument, judgement_by, judgement_at}

-- functions that agree at the items of a list give one list
pub map-same : {A : Type 0} (P : ℕ → Type 0) (f g : ℕ → A) → ((i : ℕ) → P i → f i ≡ g i) → (args : List ℕ) → All P args → map f args ≡ map g args
map-same P f g h [] all = refl
map-same P f g h (i ∷ args) all = ap₂ ◌∷◌ (h i (All-head P i args all)) (map-same P f g h args (All-tail P i args all))

module _ {A : Type 0} (none : A) (rule : Head → List A → A) (nodes : List Node) (ordered : IsOrdered nodes) where
  -- deep enough is deep enough
  within_same : (n m i : ℕ) → i < n → i < m → told_within none rule nodes n i ≡ told_within none rule nodes m i
  within_same zero m i b c = absurd (omega arith)
  within_same (suc n) zero i b c = absurd (omega arith)
  within_same (suc n) (suc m) i b c = by (slice_get nodes i) refl (λ a p q. within_same n m a p q)
    where
      by : (o : Option Node) → slice_get nodes i ≡ o → ((a : ℕ) → a < n → a < m → told_within none rule nodes n a ≡ told_within none rule nodes m a) →
          told none rule (told_within none rule nodes n) o ≡ told none rule (told_within none rule nodes m) o
      by None e ih = refl
      by (Some node) e ih =
          ap (rule node.head) (map-same (λ a. a < i) (told_within none rule nodes n) (told_within none rule nodes m) (λ a d. ih a (omega arith) (omega arith)) node.args (ordered i node e))

  -- the equation of each node
  pub tells : Tells rule nodes (told_of none rule nodes)
  tells i node e =
      ap (told none rule (told_within none rule nodes i)) e
      ∙ ap (rule node.head) (map-same (λ a. a < i) (told_within none rule nodes i) (told_of none rule nodes) (λ a d. within_same i (suc a) a d (omega arith)) node.args (ordered i node e))

  module _ (f : ℕ → A) (law : Tells rule nodes f) where
    told_only : (n i : ℕ) → i < n → i < length nodes → f i ≡ told_within none rule nodes n i
    told_only zero i b c = absurd (omega arith)
    told_only (suc n) i b c = by (slice_get nodes i) refl (λ a p q. told_only n a p q)
      where
        by : (o : Option Node) → slice_get nodes i ≡ o → ((a : ℕ) → a < n → a < length nodes → f a ≡ told_within none rule nodes n a) →
            f i ≡ told none rule (told_within none rule nodes n) o
        by None e ih = elim (slice_get_cases nodes i).1 [ inl h ↦ absurd (none-some h.0 (sym e ∙ h.2)) | inr h ↦ let l = h.0 in absurd (omega arith) ]
        by (Some node) e ih =
            law i node e ∙ ap (rule node.head) (map-same (λ a. a < i) f (told_within none rule nodes n) (λ a d. ih a (omega arith) (omega arith)) node.args (ordered i node e))

    -- nothing else meets the equations
    pub only : (i : ℕ) → i < length nodes → f i ≡ told_of none rule nodes i
    only i b = told_only (suc i) i (omega arith) b

map-map : {A : Type 0} (f : ℕ → A) (g : ℕ → ℕ) (args : List ℕ) → map f (map g args) ≡ map (λ i. f (g i)) args
map-map f g [] = refl
map-map f g (i ∷ args) = ap (λ l. f (g i) ∷ l) (map-map f g args)

-- the value and the judgement of each node
pub value_tells : (nodes : List Node) → IsOrdered nodes → (s : Setting) (x : Point) → Tells (value_by s x) nodes (value_at nodes s x)
unfolding value_at
value_tells nodes ordered s x = tells zeros (value_by s x) nodes ordered

pub judgement_tells : (rules : Rules) (nodes : List Node) → IsOrdered nodes → Tells (judgement_by rules) nodes (judgement_at rules nodes)
unfolding judgement_at
judgement_tells rules nodes ordered = tells no_argument (judgement_by rules) nodes ordered

-- new positions change nothing
pub renumbered : {A : Type 0} (none : A) (rule : Head → List A → A) (before after : List Node) (old : ℕ → ℕ) → IsOrdered before → IsOrdered after → AreRenumbered before old after →
    (i : ℕ) → i < length after → told_of none rule after i ≡ told_of none rule before (old i)
renumbered none rule before after old ordered sorted same i b =
    sym (only none rule after sorted (λ i. told_of none rule before (old i))
    (λ i n e. tells none rule before ordered (old i) (record { head = n.head; args = map old n.args }) (same i n e) ∙ ap (rule n.head) (map-map (told_of none rule before) old n.args)) i b)
