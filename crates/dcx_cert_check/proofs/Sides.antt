-- What kept values tell of the constraints and of the objective.
use Rattle.std.proofs.Common.{◌≡◌, ℕ, ◌<◌, true, List, [], ◌∷◌, length, Some, Result, refl, sym, ap, ap₂, ◌∙◌, subst}
use Rattle.std.specs.List.{slice_get, All}
use Rattle.std.proofs.lemmas.List.Elements.{All-nil, All-cons}
use Rattle.std.proofs.Math.Path.{fun_ext}
use Rattle.std.proofs.lemmas.Option.{slice_get_within, get_or_from_slice_get}
use Rattle.dcx_math.specs.Rational.{ℚ}
use Rattle.dcx_frac.specs.declared.fraction.Frac.{Frac}
use Rattle.dcx_frac.specs.Frac.{value}
use Rattle.dcx_shape.specs.Shape.{sides_of}
use Rattle.dcx_shape.specs.Sides.{entries_of}
use Rattle.dcx_atom.specs.declared.array.Array.{Array}
use Rattle.dcx_atom.specs.Arrays.{number_at}
use Rattle.dcx_atom.specs.Formed.{frac_at}
use Rattle.dcx_atom.proofs.FormedSums.{frac_at-value}
use Rattle.dcx_atom.proofs.Lists.{number_is}
use Rattle.dcx_point.specs.Pairs.{Pairs}
use Rattle.dcx_arena.specs.Gather.{has}
use Rattle.dcx_arena.specs.Unfold.{IsReached}
use Rattle.dcx_tree.specs.Nodes.{Node}
use Rattle.dcx_convex.specs.Problems.{minimized}
use Rattle.dcx_tree.specs.declared.constraint.Kind.{Kind}
use Rattle.dcx_tree.specs.declared.constraint.Constraint.{Constraint}
use Rattle.dcx_tree.specs.declared.problem.Problem.{Problem}
use Rattle.dcx_tree.specs.Meaning.{sense_of, value_at, objective_at, setting_of, point_of}
use Rattle.dcx_tree.specs.Values.{IsValueOf}
use Rattle.dcx_answer.specs.declared.cert_fault.CertFault.{CertFault}
use Rattle.dcx_answer.specs.declared.cert_fault.CertFault.TheVariants as faults
use Rattle.dcx_cert_sections.specs.Checks.{Checked}
use Rattle.dcx_cert_values.specs.Broken.{IsFirstBroken}
use Rattle.dcx_cert_bound.proofs.OneTable.{number_is_value}
use Rattle.dcx_cert_check.specs.SingleChecks.{numbers_hold, entries_hold}

-- a root is reached
pub root_reached : (nodes : List Node) (roots : List ℕ) (i : ℕ) → has roots i ≡ true → IsReached nodes roots i
root_reached nodes roots i h = record { root = i; path = []; is_root = h; leads = refl }

-- both sides of a constraint are nodes
pub sides_there : (p : Problem) (k : ℕ) (c : Constraint) → slice_get p.constraints k ≡ Some c → All (λ r. r < length p.tree) (c.left.0 ∷ c.right.0 ∷ [])
sides_there p k c at =
    All-cons (λ r. r < length p.tree) c.left.0 (c.right.0 ∷ []) (p.constraints_kept.left k c at).there
    (All-cons (λ r. r < length p.tree) c.right.0 [] (p.constraints_kept.right k c at).there (All-nil (λ r. r < length p.tree)))

-- ---- a kept value is the value of its node
-- the number that stands at a place of a list
number_read : (xs : List Frac) (j : ℕ) (x : Frac) → slice_get xs j ≡ Some x → value x ≡ number_at xs j
number_read xs j x at = number_is xs j x (slice_get_within xs j x at) (sym (get_or_from_slice_get xs j x x at))

number_told : (xs : List Frac) (j : ℕ) (x : Frac) → slice_get xs j ≡ Some x → x ≡ frac_at (number_at xs j)
number_told xs j x at = sym (frac_at-value x) ∙ ap frac_at (number_read xs j x at)

module _ (p : Problem) (setting point : Pairs) where
  -- the numbers of a kept array are the values of its node
  pub numbers_are_values : (i : ℕ) (v : Array) → IsValueOf p.tree setting point i v → number_at v.entries ≡ value_at p (setting_of p setting) (point_of p point) i
  numbers_are_values i v is = fun_ext (number_is_value p setting point i v is)

  -- so what holds of the numbers of both sides holds of their values
  pub sides_are : (k : ℕ) (c : Constraint) (left right : Array) → slice_get p.constraints k ≡ Some c → IsValueOf p.tree setting point c.left.0 left → IsValueOf p.tree setting point c.right.0 right →
      {T : Type 0} (r : Result T CertFault) → Checked (numbers_hold c.kind (length left.entries) (number_at left.entries) (number_at right.entries) k) r → Checked (entries_hold p setting point k c) r
  sides_are k c left right at l m r h =
      let size : length left.entries ≡ entries_of (sides_of c.shape) = left.full ∙ ap entries_of (l.shape ∙ (p.constraints_kept.left k c at).same) in
      let s = setting_of p setting in
      let x = point_of p point in
      subst (λ n. Checked (numbers_hold c.kind n (value_at p s x c.left.0) (value_at p s x c.right.0) k) r) size
      (subst (λ f. Checked (numbers_hold c.kind (length left.entries) f (value_at p s x c.right.0) k) r) (numbers_are_values c.left.0 left l)
      (subst (λ g. Checked (numbers_hold c.kind (length left.entries) (number_at left.entries) g k) r) (numbers_are_values c.right.0 right m) h))

  -- the number of the objective is the objective
  pub objective_is_value : (v : Array) → IsValueOf p.tree setting point p.objective.0 v → (x : ℚ) → x ≡ minimized (sense_of p.sense) (number_at v.entries 0)
      → x ≡ objective_at p (setting_of p setting) (point_of p point)
  objective_is_value v is x e = e ∙ ap (minimized (sense_of p.sense)) (number_is_value p setting point p.objective.0 v is 0)

-- ---- the first entry that breaks a constraint
pub broken_fails : (kind : Kind) (left right : List Frac) (k entry : ℕ) (x y : Frac) → IsFirstBroken kind left right entry x y
    → (numbers_hold kind (length left) (number_at left) (number_at right) k).fails (faults.Constraint k entry x y)
broken_fails kind left right k entry x y b = record {
  position = entry;
  there = slice_get_within left entry x b.left_is;
  before = b.before;
  here = (b.broken, ap₂ (λ u v. faults.Constraint k entry u v) (number_told left entry x b.left_is) (number_told right entry y b.right_is));
}
