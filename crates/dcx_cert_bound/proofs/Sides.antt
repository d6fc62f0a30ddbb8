-- In an accepted problem a call with a variable below it may hand its coefficients on: of a product and a quotient one side is known.
use Rattle.std.proofs.Common.{◌≡◌, ◌⊎◌, inl, inr, IsSome, ℕ, ◌<◌, arith, Bool, true, false, IsTrue, List, [], ◌∷◌, length, map, get_or, Option, Some, None, option_map, refl, sym, ap, ◌∙◌, subst}
use Rattle.std.specs.Prelude.{◌&&◌, ◌||◌, slice_index}
use Rattle.std.specs.List.{list_all}
use Rattle.std.proofs.lemmas.Bool.{false≢true, and_parts, or_cases}
use Rattle.std.proofs.lemmas.Option.{none-some, slice_get-map, slice_get_within}
use Rattle.dcx_shape.specs.declared.shape.Sides.{Sides}
use Rattle.dcx_atom.specs.declared.array.Array.{Array}
use Rattle.dcx_atom.specs.Arrays.{number_at}
use Rattle.dcx_atom.specs.declared.flags.Bend.{Bend}
use Rattle.dcx_atom.specs.declared.flags.Bend.TheVariants.{Convex, Concave}
use Rattle.dcx_affine.specs.declared.pairing.Pairing.{Pairing}
use Rattle.dcx_affine.specs.declared.pairing.Pairing.TheVariants.{Times, MatTimes, Over}
use Rattle.dcx_point.specs.Pairs.{Pairs}
use Rattle.dcx_arena.specs.Nodes.{IsNode}
use Rattle.dcx_convex.specs.Calls as convex_calls
use Rattle.dcx_convex.specs.Certificates.{is_fixed}
use Rattle.dcx_convex.specs.Nodes as convex
use Rattle.dcx_convex.specs.Nodes.{Point}
use Rattle.dcx_convex.specs.Rules.{Plain, Judgement, is_constant, bends, all_suit, is_bent_call, fixed_by, judgement_by, judgement_at}
use Rattle.dcx_convex.proofs.Reached.{IsBent}
use Rattle.dcx_convex.proofs.Signs.{value_fixed}
use Rattle.dcx_convex.proofs.Told.{judgement_tells}
use Rattle.dcx_call.specs.declared.call.Call.{Call}
use Rattle.dcx_call.specs.declared.call.Call.TheVariants as calls
use Rattle.dcx_tree.specs.declared.problem.Problem.{Problem}
use Rattle.dcx_tree.specs.Nodes.{Node, arg_sides, head_of, convex_node, pairing_call}
use Rattle.dcx_tree.specs.Meaning.{names_in, convex_problem, setting_of, point_of, IsAccepted}
use Rattle.dcx_tree.specs.Values.{array_at}
use Rattle.dcx_tree.proofs.Lawful.{problem_lawful}
use Rattle.dcx_rules.proofs.Reaching.{each_bent}
use Rattle.dcx_cert_collect.specs.Laws.{HasKnownSide, MayHandOn, AreKnown}
use Rattle.dcx_cert_collect.proofs.ArgSides.{two_args}
use Rattle.dcx_cert_bound.specs.Fixed.{AreFixedValues}
use Rattle.dcx_cert_bound.proofs.OneTable.{number_is_value, value_of_fixed}

-- ---- two sides
-- a call that bends, and whose arguments aren't all constant
bent_call : (c : convex_calls.Call) (bend : Bend) (gs : List Judgement) → IsTrue (is_bent_call Plain c bend gs) → list_all (is_constant Plain) gs ≡ false → IsTrue (bends Plain c.kind bend gs)
bent_call c bend gs h not_all = elim (or_cases (list_all (is_constant Plain) gs) (bends Plain c.kind bend gs && all_suit bend (c.trend (map (λ g. g.sign) gs)) gs) h) [
  | inl all ↦ absurd (false≢true (sym not_all ∙ all))
  | inr b ↦ (and_parts (bends Plain c.kind bend gs) (all_suit bend (c.trend (map (λ g. g.sign) gs)) gs) b).0
]

module _ (values : List (Option Array)) (judged : ℕ → Judgement) (a b : ℕ) (known : (k : ℕ) → (k ≡ a) ⊎ (k ≡ b) → IsTrue (judged k).fixed → IsSome (array_at values k)) where
  abbrev gs : List Judgement
  gs = judged a ∷ judged b ∷ []

  either : IsTrue ((judged a).fixed || (judged b).fixed) → IsSome (array_at values a) ⊎ IsSome (array_at values b)
  either h = elim (or_cases (judged a).fixed (judged b).fixed h) [
    | inl t ↦ inl (known a (inl refl) t)
    | inr t ↦ inr (known b (inr refl) t)
  ]

  bends_known : (p : Pairing) (bend : Bend) (sides : List Sides) (out : Sides) → IsTrue (bends Plain (pairing_call p sides out).kind bend gs) → HasKnownSide p (array_at values a) (array_at values b)
  bends_known Times bend sides out h = either h
  bends_known MatTimes bend sides out h = either h
  bends_known Over bend sides out h = known b (inr refl) h

  pair_known : (p : Pairing) (sides : List Sides) (out : Sides) → IsTrue (is_bent_call Plain (pairing_call p sides out) Convex gs) ⊎ IsTrue (is_bent_call Plain (pairing_call p sides out) Concave gs) →
      list_all (is_constant Plain) gs ≡ false → HasKnownSide p (array_at values a) (array_at values b)
  pair_known p sides out (inl h) n = bends_known p Convex sides out (bent_call (pairing_call p sides out) Convex gs h n)
  pair_known p sides out (inr h) n = bends_known p Concave sides out (bent_call (pairing_call p sides out) Concave gs h n)

module _ (p : Problem) (setting : Pairs) (values : List (Option Array)) (v : AreFixedValues p setting values) where
  abbrev judged : ℕ → Judgement
  judged = judgement_at Plain (convex_problem p).nodes

  -- the values that are known are those of their nodes at every point
  at_every_point : (i : ℕ) (x : Array) → array_at values i ≡ Some x → (y : Point) (j : ℕ) → number_at x.entries j ≡ convex.value_at (convex_problem p).nodes (setting_of p setting) y i j
  at_every_point i x at y j =
      let (fixed, is) = value_of_fixed p setting values v i x at in
      number_is_value p setting [] i x is j ∙ ap (λ (f : ℕ → _). f j) (value_fixed Plain (convex_problem p).nodes (setting_of p setting) (point_of p []) y i fixed)

  pub has_value : (i : ℕ) → i < length p.tree → is_fixed (convex_problem p).nodes i ≡ true → IsSome (array_at values i)
  has_value i lt e = let x = v.fixed i lt e in subst IsSome (sym x.there) refl

  free : (i : ℕ) → i < length p.tree → array_at values i ≡ None → is_fixed (convex_problem p).nodes i ≡ false
  free i lt none = by (is_fixed (convex_problem p).nodes i) refl
    where
      by : (b : Bool) → is_fixed (convex_problem p).nodes i ≡ b → is_fixed (convex_problem p).nodes i ≡ false
      by true e = let x = v.fixed i lt e in absurd (none-some x.array (sym none ∙ x.there))
      by false e = e

  hands_on : IsAccepted p → (i : ℕ) (n : Node) → IsNode p.tree i n → array_at values i ≡ None → MayHandOn values n.call n.args
  hands_on ok i n at none = by n.call refl
    where
      lt : i < length p.tree
      lt = slice_get_within p.tree i n at

      told : (call : Call) → n.call ≡ call → judged i ≡ judgement_by Plain (head_of (names_in p) call (arg_sides p.tree n) n.sides) (map judged n.args)
      told call is =
          judgement_tells Plain (convex_problem p).nodes (problem_lawful p).ordered i (convex_node (names_in p) p.tree n)
          (slice_get-map (convex_node (names_in p) p.tree) p.tree i ∙ ap (option_map (convex_node (names_in p) p.tree)) at)
          ∙ ap (λ c. judgement_by Plain (head_of (names_in p) c (arg_sides p.tree n) n.sides) (map judged n.args)) is

      never : (call : Call) → n.call ≡ call → fixed_by (head_of (names_in p) call (arg_sides p.tree n) n.sides) (map judged n.args) ≡ true → ⊥
      never call is t = false≢true (sym (free i lt none) ∙ ap (λ (g : Judgement). g.fixed) (told call is) ∙ t)

      pair : (q : Pairing) (args : List ℕ) → length args ≡ 2 → ((k : ℕ) (d : ℕ) → k < length args → get_or args k d < i) →
          IsBent (judgement_by Plain (head_of (names_in p) (calls.Pairing q) (arg_sides p.tree n) n.sides) (map judged args)) →
          fixed_by (head_of (names_in p) (calls.Pairing q) (arg_sides p.tree n) n.sides) (map judged args) ≡ false →
          HasKnownSide q (array_at values (slice_index args 0)) (array_at values (slice_index args 1))
      pair q [] e below bent n_all = absurd (omega (arith, e))
      pair q (a ∷ []) e below bent n_all = absurd (omega (arith, e))
      pair q (a ∷ b ∷ c ∷ args) e below bent n_all = absurd (omega (arith, e))
      pair q (a ∷ b ∷ []) e below bent n_all = pair_known values judged a b known q (arg_sides p.tree n) n.sides (each q bent) (all q n_all)
        where
          known : (k : ℕ) → (k ≡ a) ⊎ (k ≡ b) → IsTrue (judged k).fixed → IsSome (array_at values k)
          known k (inl same) t = let h : a < i = below 0 0 (omega arith) in has_value k (omega (arith, h, lt, same)) t
          known k (inr same) t = let h : b < i = below 1 0 (omega arith) in has_value k (omega (arith, h, lt, same)) t

          each : (q : Pairing) → IsBent (judgement_by Plain (head_of (names_in p) (calls.Pairing q) (arg_sides p.tree n) n.sides) (judged a ∷ judged b ∷ [])) →
              IsTrue (is_bent_call Plain (pairing_call q (arg_sides p.tree n) n.sides) Convex (judged a ∷ judged b ∷ []))
              ⊎ IsTrue (is_bent_call Plain (pairing_call q (arg_sides p.tree n) n.sides) Concave (judged a ∷ judged b ∷ []))
          each q (inl h) = inl h
          each q (inr h) = inr h

          all : (q : Pairing) → fixed_by (head_of (names_in p) (calls.Pairing q) (arg_sides p.tree n) n.sides) (judged a ∷ judged b ∷ []) ≡ false
              → list_all (is_constant Plain) (judged a ∷ judged b ∷ []) ≡ false
          all q h = h

      by : (call : Call) → n.call ≡ call → MayHandOn values call n.args
      by (calls.Variable w) is = tt
      by (calls.Parameter q) is = never (calls.Parameter q) is refl
      by (calls.Constant x) is = never (calls.Constant x) is refl
      by (calls.Atom m) is = tt
      by (calls.Linear l) is = tt
      by (calls.Pairing q) is =
          pair q n.args (two_args p.tree p.nodes i lt n at q is) (p.nodes.earlier i n at) (subst IsBent (told (calls.Pairing q) is) (each_bent p ok i lt))
          (sym (ap (λ (g : Judgement). g.fixed) (told (calls.Pairing q) is)) ∙ free i lt none)

  pub are_known : IsAccepted p → AreKnown (names_in p) p.tree (setting_of p setting) values
  are_known ok = record { known = at_every_point; others = hands_on ok }
