-- Where the divisors of an accepted problem pass their check, nothing is divided by 0.
use Rattle.std.proofs.Common.{◌≡◌, ◌≢◌, ℕ, ◌<◌, List, [], ◌∷◌, map, Option, Some, option_map, slice_get, refl, sym, ap, ◌∙◌, subst, pos}
use Rattle.std.proofs.lemmas.Option.{slice_get-map, slice_get_within, get_or_from_slice_get}
use Rattle.dcx_math.specs.Rational.{whole}
use Rattle.dcx_shape.specs.declared.shape.Sides.{Sides}
use Rattle.dcx_shape.specs.Sides.{entries_of}
use Rattle.dcx_affine.specs.declared.pairing.Pairing.TheVariants.{Over}
use Rattle.dcx_point.specs.Pairs.{Pairs}
use Rattle.dcx_arena.specs.Nodes as arena
use Rattle.dcx_arena.specs.Nodes.{IsNode}
use Rattle.dcx_convex.specs.Nodes.{Numbers, Point, zeros, arguments}
use Rattle.dcx_convex.specs.Rules.{Plain}
use Rattle.dcx_convex.proofs.Signs.{value_fixed}
use Rattle.dcx_call.specs.declared.call.Call.{Call}
use Rattle.dcx_call.specs.declared.call.Call.TheVariants as calls
use Rattle.dcx_call.specs.Calls.{shape_of, sides_of_two}
use Rattle.dcx_tree.specs.declared.problem.Problem.{Problem}
use Rattle.dcx_tree.specs.Nodes.{Node, arg_sides, numbers_by, source_value}
use Rattle.dcx_tree.specs.Meaning.{names_in, convex_problem, setting_of, IsAccepted, value_at as problem_value}
use Rattle.dcx_tree.proofs.NodeValues.{sides_are}
use Rattle.dcx_fit.specs.Laws.{DividesByNoZero}
use Rattle.dcx_fit.proofs.Divisors.{divides}
use Rattle.dcx_fit.proofs.Fitting.{fitting_holds}
use Rattle.dcx_cert_values.specs.Forming.{dividing_if, divisors}
use Rattle.dcx_cert_values.specs.Laws.{DivisorsAreNotZero}
use Rattle.dcx_cert_values.proofs.Fixed.{found_divisor, divisor_fixed}

second_there : (ids : List ℕ) (f : ℕ → Sides) (s : Sides) → sides_of_two Over (map f ids) ≡ Some s → (d : ℕ) × (slice_get ids 1 ≡ Some d)
second_there [] f s e = absurd (cc)
second_there (a ∷ []) f s e = absurd (cc)
second_there (a ∷ b ∷ []) f s e = (b, refl)
second_there (a ∷ b ∷ c ∷ rest) f s e = absurd (cc)

module _ (p : Problem) (setting : Pairs) (ok : IsAccepted p) (passes : (divisors p setting).passes) where
  -- at no point an entry of a divisor is 0
  divisor_nonzero : (x : Point) (i : ℕ) (n : Node) → IsNode p.tree i n → n.call ≡ calls.Pairing Over → (j : ℕ) → j < entries_of n.sides →
      arguments (map (λ a. problem_value p (setting_of p setting) x a) n.args) 1 j ≢ whole (pos 0)
  divisor_nonzero x i n at is j b e =
      let (d, second) = second_there n.args (arena.sides_at p.tree) n.sides (subst (λ (call : Call). shape_of call (arg_sides p.tree n) ≡ Some n.sides) is (p.nodes.shaped i n at)) in
      let found = found_divisor p.tree i d n at is second in
      let here : (dividing_if p setting i (Some d)).passes = subst (λ (o : Option ℕ). (dividing_if p setting i o).passes) found (passes i (slice_get_within p.tree i n at)).1 in
      let one : arguments (map (λ a. problem_value p (setting_of p setting) x a) n.args) 1 ≡ problem_value p (setting_of p setting) x d =
      get_or_from_slice_get (map (λ a. problem_value p (setting_of p setting) x a) n.args) 1 (problem_value p (setting_of p setting) x d) zeros
      (slice_get-map (λ a. problem_value p (setting_of p setting) x a) n.args 1 ∙ ap (option_map (λ a. problem_value p (setting_of p setting) x a)) second) in
      let same : source_value p.tree (names_in p) setting [] d ≡ problem_value p (setting_of p setting) x d =
      value_fixed Plain (convex_problem p).nodes (setting_of p setting) (numbers_by (names_in p).variables []) x d (divisor_fixed p ok i d found) in
      here j (subst (λ (s : Sides). j < entries_of s) (sym (sides_are p.tree i n at)) b) (ap (λ (f : Numbers). f j) same ∙ sym (ap (λ (f : Numbers). f j) one) ∙ e)

  not_zero : DividesByNoZero p (setting_of p setting)
  not_zero = divides p (setting_of p setting) divisor_nonzero

pub divisors_hold : DivisorsAreNotZero
divisors_hold = record {
  nonzero = λ p setting ok h. not_zero p setting ok h;
  fitting = λ p setting ok fits h. (fitting_holds p setting).1 (fits, not_zero p setting ok h);
}
