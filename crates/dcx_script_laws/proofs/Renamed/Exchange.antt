-- Two names are exchanged.
use Rattle.std.proofs.Common.{◌≡◌, ℕ, Bool, true, false, cond, List, refl, sym, ap, ◌∙◌}
use Rattle.std.specs.Prelude.{◌||◌, codes}
use Rattle.dcx_point.specs.Pairs.{same_name}
use Rattle.dcx_point.proofs.Puts.{same_name-refl, same_name-true}
use Rattle.dcx_syntax.specs.declared.tree.Module.{Module}
use Rattle.dcx_syntax.specs.declared.tree.Module.TheVariants.{Cvxpy, Numpy}
use Rattle.dcx_syntax.specs.Statements.{module_bytes}
use Rattle.dcx_script_laws.specs.Names.{IsRenaming, is_word, exchanged}

left : (a b : Bool) → (a || b) ≡ false → a ≡ false
left false b e = refl
left true b e = absurd (cc)

right : (a b : Bool) → (a || b) ≡ false → b ≡ false
right false b e = e
right true b e = absurd (cc)

module _ (a b : List ℕ) where
  second : exchanged a b b ≡ a
  second = by (same_name b a) refl
    where
      by : (t : Bool) → same_name b a ≡ t → cond t b (cond (same_name b b) a b) ≡ a
      by true p = same_name-true b a p
      by false p = rw (same_name-refl b) refl

  first : exchanged a b a ≡ b
  first = rw (same_name-refl a) refl

  -- exchanged twice is not at all
  twice : (name : List ℕ) → exchanged a b (exchanged a b name) ≡ name
  twice name = by (same_name name a) (same_name name b) refl refl
    where
      by : (t u : Bool) → same_name name a ≡ t → same_name name b ≡ u → exchanged a b (cond t b (cond u a name)) ≡ name
      by true u p q = second ∙ sym (same_name-true name a p)
      by false true p q = first ∙ sym (same_name-true name b q)
      by false false p q = rw (p, q) refl

  word_stays : (word : List ℕ) → same_name word a ≡ false → same_name word b ≡ false → exchanged a b word ≡ word
  word_stays word p q = rw (p, q) refl

  pub exchange_holds : is_word a ≡ false → is_word b ≡ false → IsRenaming (exchanged a b)
  exchange_holds p q = record {
    apart = λ x y e. sym (twice x) ∙ ap (exchanged a b) e ∙ twice y;
    range = word_stays (codes "range") (left _ _ p) (left _ _ q);
    modules = modules;
  }
    where
      modules : (m : Module) → exchanged a b (module_bytes m) ≡ module_bytes m
      modules Cvxpy = word_stays (module_bytes Cvxpy) (left _ _ (right _ _ p)) (left _ _ (right _ _ q))
      modules Numpy = word_stays (module_bytes Numpy) (left _ _ (right _ _ (right _ _ p))) (left _ _ (right _ _ (right _ _ q)))
