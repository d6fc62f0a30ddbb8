-- All formed nodes meet their equations.
use Rattle.std.proofs.Common.{◌≡◌, ℕ, zero, suc, ◌<◌, arith, Bool, true, false, IsTrue, List, length, Option, Result, refl}
use Rattle.dcx_math.specs.Rational.{ℚ}
use Rattle.dcx_frac.specs.declared.fraction.Frac.{Frac}
use Rattle.dcx_frac.specs.declared.fraction.Passes.{Passes}
use Rattle.dcx_point.specs.Pairs.{Pairs}
use Rattle.dcx_arena.specs.Nodes.{IsNode}
use Rattle.dcx_convex.specs.Nodes.{Point, Setting}
use Rattle.dcx_convex.specs.Rules.{Rules, is_constant, is_affine, judgement_at}
use Rattle.dcx_convex.specs.Problems.{accepted_by}
use Rattle.dcx_convex.specs.Reductions.{Unknowns}
use Rattle.dcx_call.specs.declared.attribute.Parameter.{Parameter}
use Rattle.dcx_call.specs.declared.call.Call.TheVariants as calls
use Rattle.dcx_tree.specs.declared.problem.Problem.{Problem}
use Rattle.dcx_tree.specs.Nodes.{Node, number_in as number_of_name}
use Rattle.dcx_tree.specs.Meaning.{names_in, convex_problem, value_at as problem_value}
use Rattle.dcx_linear.specs.declared.change.Change.{Change}
use Rattle.dcx_linear.specs.Parameters.{Parameters}
use Rattle.dcx_unknowns.specs.Layout.{is_reduced}
use Rattle.dcx_unknowns.specs.Equations.{Stands, AllStand}
use Rattle.dcx_unknowns.proofs.NodeForms.{nodes_of}
use Rattle.dcx_entries.specs.Nodes.{Table, AreFormed}
use Rattle.dcx_formed.specs.Forms.{forms_at}
use Rattle.dcx_formed.proofs.Coefs.{AreCoefs}
use Rattle.dcx_formed.proofs.Numbers.{source}
use Rattle.dcx_formed.proofs.Nodes.{number_stands, reduced_stands}

module _ {C : Type 0} (value_at : C → Parameters → ℚ) (of_number : Frac → C) (number_of : C → Option Frac) (Sums : C → C → Result C Passes → Type 0) (Changes : Change → C → Result C Passes → Type 0)
    (Reads : ℕ → List ℕ → ℕ → Pairs → C → Type 0) (laws : AreCoefs value_at of_number number_of Sums Changes) (rules : Rules) (p : Problem) (setting : Pairs) (table : Table C)
    (formed : AreFormed of_number number_of Sums Changes Reads rules p setting (length p.tree) table) (params : Parameters) (s : Setting)
    (told : (i : ℕ) → i < length p.tree → is_reduced rules p i ≡ false → (x : Point) (j : ℕ)
    → problem_value p s x i j ≡ source value_at of_number number_of Sums Changes Reads laws rules p setting table formed i j)
    (read : (i : ℕ) (n : Node) (q : Parameter) → IsNode p.tree i n → n.call ≡ calls.Parameter q → is_reduced rules p i ≡ true → (j : ℕ) (c : C) →
    Reads (number_of_name (names_in p).parameters q.name) q.name j setting c → value_at c params ≡ s (number_of_name (names_in p).parameters q.name) j)
    (ok : IsTrue (accepted_by rules (convex_problem p)))
    (steady : (i : ℕ) → ((k : ℕ) (n : Node) → k < i → IsNode p.tree k n → Stands rules p s (forms_at value_at of_number params table) k n (is_reduced rules p k)) →
    (u w : Unknowns) (a : ℕ) → a < i → a < length p.tree → ¬ IsTrue (is_constant rules (judgement_at rules (nodes_of p) a)) → IsTrue (judgement_at rules (nodes_of p) a).fixed
    → IsTrue (is_affine (judgement_at rules (nodes_of p) a))
    → forms_at value_at of_number params table u a ≡ forms_at value_at of_number params table w a) where
  stand_within : (d i : ℕ) → i < d → (n : Node) → IsNode p.tree i n → Stands rules p s (forms_at value_at of_number params table) i n (is_reduced rules p i)
  stand_within zero i b n at = absurd (omega arith)
  stand_within (suc d) i b n at = by (is_reduced rules p i) refl (λ k m l there. stand_within d k (omega arith) m there)
    where
      by : (r : Bool) → is_reduced rules p i ≡ r → ((k : ℕ) (m : Node) → k < i → IsNode p.tree k m → Stands rules p s (forms_at value_at of_number params table) k m (is_reduced rules p k)) →
          Stands rules p s (forms_at value_at of_number params table) i n r
      by false e earlier = number_stands value_at of_number number_of Sums Changes Reads laws rules p setting table formed params s told read ok i n at e
      by true e earlier = λ u j. reduced_stands value_at of_number number_of Sums Changes Reads laws rules p setting table formed params s told read ok i n at e (steady i earlier) u j

  pub all_stand : AllStand rules p s (forms_at value_at of_number params table)
  all_stand i n at = stand_within (suc i) i (omega arith) n at
