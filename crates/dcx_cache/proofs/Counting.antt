-- How many steps are counted: those of a session's beginning, and those of its settings.
use Rattle.std.proofs.Common.{◌≡◌, ℕ, ◌+◌, ◌-◌, ◌*◌, ◌≤◌, Bool, length, sym, ◌∙◌, subst, arith}
use Rattle.std.specs.Prelude.{◌↔◌, IsTrue}
use Rattle.dcx_tree.specs.declared.problem.Problem.{Problem}
use Rattle.dcx_cache.specs.Programs.{HasMap}
use Rattle.dcx_cache.specs.Counts.{Counts, CountsNoMore}

-- ---- the beginning
pub begun_counts : (p : Problem) (cached : Bool) (old new : ℕ) → (IsTrue cached → new ≡ old + length p.tree) → (IsTrue cached ↔ HasMap p) → new ≤ old + length p.tree → Counts p 0 old new
begun_counts p cached old new counted exact few = record { mapped = λ h. counted (exact.1 h); anew = omega (arith, few) }

pub begun_no_more : (p : Problem) (old new : ℕ) → new ≤ old + length p.tree → CountsNoMore p 0 old new
begun_no_more p old new few = record { mapped = λ h. few; anew = omega (arith, few) }

-- ---- and the settings
pub at_least : (start more : ℕ) → start ≤ start + more
at_least start more = omega arith

-- one setting more
pub steps_more : (i n start before after : ℕ) → before ≤ start + i * n → after ≤ before + n → after ≤ start + (i + 1) * n
steps_more i n start before after few more = omega (arith, few, more)

further : (i d n start now : ℕ) → now ≤ start + i * n → now ≤ start + (i + d) * n
further i d n start now h = omega (arith, h)

-- the steps of some of the settings are no more than those of all
pub few_within : (i all n start now : ℕ) → i ≤ all → now ≤ start + i * n → now ≤ start + all * n
few_within i all n start now le h =
    let e : i + (all - i) ≡ all = omega (arith, le) in
    subst (λ z. now ≤ start + z * n) e (further i (all - i) n start now h)

both : (n k old begun new : ℕ) → begun ≤ old + k + 0 * k → new ≤ begun + n * k → new ≤ old + k + n * k
both n k old begun new few more = omega (arith, few, more)

-- those of the beginning, and those of the settings
pub counts : (p q : Problem) (n old begun new : ℕ) → q ≡ p → Counts p 0 old begun → (HasMap q → new ≡ begun) → new ≤ begun + n * length q.tree → Counts p n old new
counts p q n old begun new same before kept more = record {
  mapped = λ h. kept (subst (λ (z : Problem). HasMap z) (sym same) h) ∙ before.mapped h;
  anew = both n (length p.tree) old begun new before.anew (subst (λ (z : Problem). new ≤ begun + n * length z.tree) same more);
}

-- where memory is wanting
pub no_more : (p q : Problem) (n old begun new : ℕ) → q ≡ p → CountsNoMore p 0 old begun → (HasMap q → new ≡ begun) → new ≤ begun + n * length q.tree → CountsNoMore p n old new
no_more p q n old begun new same before kept more = record {
  mapped = λ h. subst (λ k. k ≤ old + length p.tree) (sym (kept (subst (λ (z : Problem). HasMap z) (sym same) h))) (before.mapped h);
  anew = both n (length p.tree) old begun new before.anew (subst (λ (z : Problem). new ≤ begun + n * length z.tree) same more);
}

-- before the first setting
pub no_setting : (p : Problem) (n old new : ℕ) → CountsNoMore p 0 old new → CountsNoMore p n old new
no_setting p n old new h = record { mapped = h.mapped; anew = both n (length p.tree) old new new h.anew (at_least new (n * length p.tree)) }
