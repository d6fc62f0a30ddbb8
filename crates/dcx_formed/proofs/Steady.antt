-- Where parameters are affine: an affine node that reaches no variable stands for one array, whatever the unknowns are. It may be
-- made of the result of an atom, but only times a number that is 0.
use Rattle.std.proofs.Common.{◌≡◌, ◌⊎◌, inl, inr, ℕ, zero, suc, ◌<◌, arith, Bool, true, false, not, IsTrue, List, [], ◌∷◌, length, map, All, Some, refl, sym, ap, ap₂, ◌∙◌, subst, pos}
use Rattle.std.specs.Prelude.{◌&&◌, ◌||◌}
use Rattle.std.specs.List.{list_all}
use Rattle.std.proofs.Math.Path.{fun_ext}
use Rattle.std.proofs.lemmas.Bool.{and_parts, and_from, or_cases, false≢true}
use Rattle.std.proofs.lemmas.List.Elements.{All-head, All-tail}
use Rattle.dcx_math.specs.Rational.{ℚ, whole, ◌+ℚ◌, ◌*ℚ◌, ◌/ℚ◌}
use Rattle.dcx_math.proofs.Orders.{zero-*ℚ, *ℚ-zero, inverse-zero}
use Rattle.dcx_math.proofs.Ring.{/ℚ-is}
use Rattle.dcx_shape.specs.declared.shape.Sides.{Sides}
use Rattle.dcx_shape.specs.Sides.{entries_of}
use Rattle.dcx_atom.specs.declared.flags.Trend.{Trend}
use Rattle.dcx_atom.specs.declared.flags.Bend.{Bend}
use Rattle.dcx_atom.specs.declared.flags.Bend.TheVariants.{Convex, Concave}
use Rattle.dcx_atom.specs.Arrays.{sides_at}
use Rattle.dcx_atom.specs.Linear.{terms_at}
use Rattle.dcx_atom.specs.Signs.{is_zero}
use Rattle.dcx_affine.specs.declared.pairing.Pairing.{Pairing}
use Rattle.dcx_affine.specs.declared.pairing.Pairing.TheVariants.{Times, MatTimes, Over}
use Rattle.dcx_affine.specs.declared.pairing.Pair.{Pair}
use Rattle.dcx_affine.specs.Pairing.{pairs_at}
use Rattle.dcx_arena.specs.Nodes as arena
use Rattle.dcx_arena.specs.Nodes.{IsNode}
use Rattle.dcx_convex.specs.Atoms.{atom_call, linear_call}
use Rattle.dcx_convex.specs.Calls as convex_calls
use Rattle.dcx_convex.specs.Nodes.{Numbers, Setting, zeros, first_of, arguments}
use Rattle.dcx_convex.specs.Rules.{Rules, Parametrized, Judgement, is_constant, is_affine, scales, bends, suits, all_suit, is_bent_call, judgement_by, judgement_at}
use Rattle.dcx_convex.specs.Pairs.{product_trend, quotient_trend}
use Rattle.dcx_convex.specs.Reductions.{Unknowns}
use Rattle.dcx_convex.proofs.Told.{judgement_tells}
use Rattle.dcx_convex.proofs.Convexity.{same_bend_is}
use Rattle.dcx_call.specs.declared.linears.LinearCall.{LinearCall}
use Rattle.dcx_call.specs.declared.linears.LinearCall.TheVariants as linears
use Rattle.dcx_call.specs.declared.call.Call.{Call}
use Rattle.dcx_call.specs.declared.call.Call.TheVariants as calls
use Rattle.dcx_call.specs.Linears.{linear_meaning}
use Rattle.dcx_call.specs.Atoms.{atom_meaning}
use Rattle.dcx_call.specs.Values.{pairing_value}
use Rattle.dcx_call.specs.Calls.{sides_of_two, shape_of}
use Rattle.dcx_tree.specs.declared.problem.Problem.{Problem}
use Rattle.dcx_tree.specs.Nodes.{Node, pairing_call, head_of, arg_sides, convex_node}
use Rattle.dcx_tree.specs.Meaning.{names_in, value_at}
use Rattle.dcx_tree.proofs.Lawful.{problem_lawful}
use Rattle.dcx_tree.proofs.AllReached.{convex_at}
use Rattle.dcx_unknowns.specs.Unknowns.{point_at}
use Rattle.dcx_unknowns.specs.Layout.{is_reduced}
use Rattle.dcx_unknowns.specs.Equations.{Forms, call_entry, filling_of, Stands}
use Rattle.dcx_unknowns.proofs.Constants.{call_constant}
use Rattle.dcx_unknowns.proofs.NodeForms.{nodes_of, nodes_ordered, node_at, not_constant, not_reduced}
use Rattle.dcx_formed.proofs.Settled.{settled_zero}

-- ---- what a call that is convex and concave asks of its arguments
-- each is affine, or the call rises and falls in it
suited : (t : Trend) (g : Judgement) → IsTrue (suits Convex t g) → IsTrue (suits Concave t g) → IsTrue (is_affine g) ⊎ (IsTrue t.rising × IsTrue t.falling)
suited t g h k = by (or_cases (is_affine g) ((g.convex && t.rising) || (g.concave && t.falling)) h) (or_cases (is_affine g) ((g.concave && t.rising) || (g.convex && t.falling)) k)
  where
    both : IsTrue (g.convex && t.rising) ⊎ IsTrue (g.concave && t.falling) → IsTrue (g.concave && t.rising) ⊎ IsTrue (g.convex && t.falling)
        → IsTrue (is_affine g) ⊎ (IsTrue t.rising × IsTrue t.falling)
    both (inl a) (inl b) = inl (and_from g.convex g.concave (and_parts g.convex t.rising a).0 (and_parts g.concave t.rising b).0)
    both (inl a) (inr b) = inr ((and_parts g.convex t.rising a).1, (and_parts g.convex t.falling b).1)
    both (inr a) (inl b) = inr ((and_parts g.concave t.rising b).1, (and_parts g.concave t.falling a).1)
    both (inr a) (inr b) = inl (and_from g.convex g.concave (and_parts g.convex t.falling b).0 (and_parts g.concave t.falling a).0)

    by : IsTrue (is_affine g) ⊎ IsTrue ((g.convex && t.rising) || (g.concave && t.falling)) → IsTrue (is_affine g) ⊎ IsTrue ((g.concave && t.rising) || (g.convex && t.falling))
        → IsTrue (is_affine g) ⊎ (IsTrue t.rising × IsTrue t.falling)
    by (inl a) k = inl a
    by (inr a) (inl b) = inl b
    by (inr a) (inr b) = both (or_cases (g.convex && t.rising) (g.concave && t.falling) a) (or_cases (g.concave && t.rising) (g.convex && t.falling) b)

-- a linear call goes one way at most
one_way : (l : LinearCall) (i : ℕ) → IsTrue ((linear_meaning l).trend i).rising → IsTrue ((linear_meaning l).trend i).falling → ⊥
one_way (linears.Plus x) i h k = false≢true k
one_way (linears.Minus x) i h k = false≢true h
one_way (linears.Sum x) i h k = false≢true k
one_way (linears.Mean x) i h k = false≢true k
one_way (linears.CumSum x) i h k = false≢true k
one_way (linears.Diff x) i h k = false≢true k
one_way (linears.Trace x) i h k = false≢true k
one_way (linears.Diag x) i h k = false≢true k
one_way (linears.Index x) i h k = false≢true k
one_way (linears.Reshape x) i h k = false≢true k
one_way (linears.Transpose x) i h k = false≢true k
one_way (linears.HStack x) i h k = false≢true k
one_way (linears.VStack x) i h k = false≢true k
one_way (linears.Promote x) i h k = false≢true k

-- a call whose arguments aren't all constant bends, and each argument may stand there
pub bent_parts : (rules : Rules) (c : convex_calls.Call) (bend : Bend) (args : List Judgement) → IsTrue (is_bent_call rules c bend args) → ¬ IsTrue (list_all (is_constant rules) args) →
    IsTrue (bends rules c.kind bend args) × IsTrue (all_suit bend (c.trend (map (λ g. g.sign) args)) args)
bent_parts rules c bend args h not_all = elim (or_cases (list_all (is_constant rules) args) (bends rules c.kind bend args && all_suit bend (c.trend (map (λ g. g.sign) args)) args) h) [
  | inl all ↦ absurd (not_all all)
  | inr b ↦ and_parts (bends rules c.kind bend args) (all_suit bend (c.trend (map (λ g. g.sign) args)) args) b
]

-- ---- numbers in pairs
zero_products : (y z : ℕ → ℚ) (qs : List Pair) → pairing_value Times qs zeros y ≡ pairing_value Times qs zeros z
zero_products y z [] = refl
zero_products y z (q ∷ qs) = ap₂ ◌+ℚ◌ (zero-*ℚ (y q.right) ∙ sym (zero-*ℚ (z q.right))) (zero_products y z qs)

products_zero : (y z : ℕ → ℚ) (qs : List Pair) → pairing_value Times qs y zeros ≡ pairing_value Times qs z zeros
products_zero y z [] = refl
products_zero y z (q ∷ qs) = ap₂ ◌+ℚ◌ (*ℚ-zero (y q.left) ∙ sym (*ℚ-zero (z q.left))) (products_zero y z qs)

over_zero : (x : ℚ) → x /ℚ whole (pos 0) ≡ whole (pos 0)
over_zero x = /ℚ-is x (whole (pos 0)) ∙ ap (λ y. x *ℚ y) inverse-zero ∙ *ℚ-zero x

quotients_zero : (y z : ℕ → ℚ) (qs : List Pair) → pairing_value Over qs y zeros ≡ pairing_value Over qs z zeros
quotients_zero y z [] = refl
quotients_zero y z (q ∷ qs) = ap₂ ◌+ℚ◌ (over_zero (y q.left) ∙ sym (over_zero (z q.left))) (quotients_zero y z qs)

-- ---- arrays F and G that stand for nodes, of which these judgements are told
module _ (judged : ℕ → Judgement) (F G : ℕ → Numbers) (P : ℕ → Type 0)
    (same : (a : ℕ) → P a → IsTrue (judged a).fixed → IsTrue (is_affine (judged a)) → F a ≡ G a)
    (number : (a : ℕ) → P a → IsTrue (judged a).fixed → IsTrue (judged a).unparametrized → F a ≡ G a)
    (nothing : (a : ℕ) → P a → IsTrue (judged a).fixed → IsTrue (judged a).unparametrized → IsTrue (is_zero (judged a).sign) → (F a ≡ zeros) × (G a ≡ zeros)) where
  -- arguments of a call that goes one way in each
  one_way_same : (trend : ℕ → Trend) → ((i : ℕ) → IsTrue (trend i).rising → IsTrue (trend i).falling → ⊥) → (ids : List ℕ) → All P ids → IsTrue (list_all (λ g. g.fixed) (map judged ids)) →
      IsTrue (all_suit Convex trend (map judged ids)) → IsTrue (all_suit Concave trend (map judged ids)) → map F ids ≡ map G ids
  one_way_same trend one [] all fixed h k = refl
  one_way_same trend one (a ∷ ids) all fixed h k =
      let f = and_parts (judged a).fixed (list_all (λ g. g.fixed) (map judged ids)) fixed in
      let x = and_parts (suits Convex (trend 0) (judged a)) (all_suit Convex (λ i. trend (suc i)) (map judged ids)) h in
      let y = and_parts (suits Concave (trend 0) (judged a)) (all_suit Concave (λ i. trend (suc i)) (map judged ids)) k in
      let here : F a ≡ G a = elim (suited (trend 0) (judged a) x.0 y.0) [ inl affine ↦ same a (All-head P a ids all) f.0 affine | inr both ↦ absurd (one 0 both.0 both.1) ] in
      ap₂ ◌∷◌ here (one_way_same (λ i. trend (suc i)) (λ i. one (suc i)) ids (All-tail P a ids all) f.1 x.1 y.1)

  -- the two sides of a product or a quotient
  module _ (a b : ℕ) (pa : P a) (pb : P b) (fa : IsTrue (judged a).fixed) (fb : IsTrue (judged b).fixed) where
    abbrev sides : List Judgement
    sides = judged a ∷ judged b ∷ []

    -- one of them is a number
    one_number : IsTrue (bends Parametrized convex_calls.Product Convex sides) → IsTrue (judged a).unparametrized ⊎ IsTrue (judged b).unparametrized
    one_number h = by (or_cases (scales Parametrized (judged a) (judged b)) (scales Parametrized (judged b) (judged a)) h)
      where
        side : (g other : Judgement) → IsTrue (scales Parametrized g other) → IsTrue g.unparametrized ⊎ IsTrue other.unparametrized
        side g other k = elim (or_cases (is_constant Parametrized g) (g.fixed && (is_affine g && other.unparametrized)) k) [
          | inl c ↦ inl (and_parts g.fixed g.unparametrized c).1
          | inr c ↦ inr (and_parts (is_affine g) other.unparametrized (and_parts g.fixed (is_affine g && other.unparametrized) c).1).1
        ]

        by : IsTrue (scales Parametrized (judged a) (judged b)) ⊎ IsTrue (scales Parametrized (judged b) (judged a)) → IsTrue (judged a).unparametrized ⊎ IsTrue (judged b).unparametrized
        by (inl k) = side (judged a) (judged b) k
        by (inr k) = elim (side (judged b) (judged a) k) [ inl c ↦ inr c | inr c ↦ inl c ]

    product_same : (qs : List Pair) → IsTrue (bends Parametrized convex_calls.Product Convex sides) →
        IsTrue (all_suit Convex (product_trend (map (λ g. g.sign) sides)) sides) → IsTrue (all_suit Concave (product_trend (map (λ g. g.sign) sides)) sides) →
        pairing_value Times qs (F a) (F b) ≡ pairing_value Times qs (G a) (G b)
    product_same qs bent h k = by (one_number bent)
      where
        left : IsTrue (is_affine (judged a)) ⊎ (IsTrue (judged b).sign.nonneg × IsTrue (judged b).sign.nonpos)
        left =
            suited (product_trend (map (λ g. g.sign) sides) 0) (judged a)
            (and_parts (suits Convex (product_trend (map (λ g. g.sign) sides) 0) (judged a)) (all_suit Convex (λ i. product_trend (map (λ g. g.sign) sides) (suc i)) (judged b ∷ [])) h).0
            (and_parts (suits Concave (product_trend (map (λ g. g.sign) sides) 0) (judged a)) (all_suit Concave (λ i. product_trend (map (λ g. g.sign) sides) (suc i)) (judged b ∷ [])) k).0

        right : IsTrue (is_affine (judged b)) ⊎ (IsTrue (judged a).sign.nonneg × IsTrue (judged a).sign.nonpos)
        right =
            let x = (and_parts (suits Convex (product_trend (map (λ g. g.sign) sides) 0) (judged a)) (all_suit Convex (λ i. product_trend (map (λ g. g.sign) sides) (suc i)) (judged b ∷ [])) h).1 in
            let y = (and_parts (suits Concave (product_trend (map (λ g. g.sign) sides) 0) (judged a)) (all_suit Concave (λ i. product_trend (map (λ g. g.sign) sides) (suc i)) (judged b ∷ [])) k).1 in
            suited (product_trend (map (λ g. g.sign) sides) 1) (judged b)
            (and_parts (suits Convex (product_trend (map (λ g. g.sign) sides) 1) (judged b)) true x).0
            (and_parts (suits Concave (product_trend (map (λ g. g.sign) sides) 1) (judged b)) true y).0

        by : IsTrue (judged a).unparametrized ⊎ IsTrue (judged b).unparametrized → pairing_value Times qs (F a) (F b) ≡ pairing_value Times qs (G a) (G b)
        by (inl ua) = elim right [
          | inl affine ↦ ap₂ (pairing_value Times qs) (number a pa fa ua) (same b pb fb affine)
          | inr z ↦
              let w = nothing a pa fa ua (and_from (judged a).sign.nonneg (judged a).sign.nonpos z.0 z.1) in
              ap (λ (x : Numbers). pairing_value Times qs x (F b)) w.0 ∙ zero_products (F b) (G b) qs ∙ ap (λ (x : Numbers). pairing_value Times qs x (G b)) (sym w.1)
        ]
        by (inr ub) = elim left [
          | inl affine ↦ ap₂ (pairing_value Times qs) (same a pa fa affine) (number b pb fb ub)
          | inr z ↦
              let w = nothing b pb fb ub (and_from (judged b).sign.nonneg (judged b).sign.nonpos z.0 z.1) in
              ap (λ (x : Numbers). pairing_value Times qs (F a) x) w.0 ∙ products_zero (F a) (G a) qs ∙ ap (λ (x : Numbers). pairing_value Times qs (G a) x) (sym w.1)
        ]

    quotient_same : (qs : List Pair) → IsTrue (bends Parametrized convex_calls.Quotient Convex sides) →
        IsTrue (all_suit Convex (quotient_trend (map (λ g. g.sign) sides)) sides) → IsTrue (all_suit Concave (quotient_trend (map (λ g. g.sign) sides)) sides) →
        pairing_value Over qs (F a) (F b) ≡ pairing_value Over qs (G a) (G b)
    quotient_same qs bent h k =
        let ub = (and_parts (judged b).fixed (judged b).unparametrized bent).1 in
        let t = quotient_trend (map (λ g. g.sign) sides) in
        elim (suited (t 0) (judged a) (and_parts (suits Convex (t 0) (judged a)) (all_suit Convex (λ i. t (suc i)) (judged b ∷ [])) h).0
        (and_parts (suits Concave (t 0) (judged a)) (all_suit Concave (λ i. t (suc i)) (judged b ∷ [])) k).0) [
          | inl affine ↦ ap₂ (pairing_value Over qs) (same a pa fa affine) (number b pb fb ub)
          | inr z ↦
              let w = nothing b pb fb ub (and_from (judged b).sign.nonneg (judged b).sign.nonpos z.0 z.1) in
              ap (λ (x : Numbers). pairing_value Over qs (F a) x) w.0 ∙ quotients_zero (F a) (G a) qs ∙ ap (λ (x : Numbers). pairing_value Over qs (G a) x) (sym w.1)
        ]

  -- the entries of a product or a quotient
  pair_same : (q : Pairing) (sides : ℕ → Sides) (to : Sides) (ids : List ℕ) → sides_of_two q (map sides ids) ≡ Some to → All P ids → (qs : List Pair) →
      (let c : convex_calls.Call = pairing_call q (map sides ids) to in
      IsTrue (list_all (λ g. g.fixed) (map judged ids)) → ¬ IsTrue (list_all (is_constant Parametrized) (map judged ids)) →
      IsTrue (is_bent_call Parametrized c Convex (map judged ids)) → IsTrue (is_bent_call Parametrized c Concave (map judged ids)) →
      pairing_value q qs (arguments (map F ids) 0) (arguments (map F ids) 1) ≡ pairing_value q qs (arguments (map G ids) 0) (arguments (map G ids) 1))
  pair_same q sides to [] is all qs fixed some h k = cc
  pair_same q sides to (a ∷ []) is all qs fixed some h k = cc
  pair_same q sides to (a ∷ b ∷ c ∷ ids) is all qs fixed some h k = cc
  pair_same q sides to (a ∷ b ∷ []) is all qs fixed some h k =
      let c : convex_calls.Call = pairing_call q (map sides (a ∷ b ∷ [])) to in
      let x = bent_parts Parametrized c Convex (map judged (a ∷ b ∷ [])) h some in
      let y = bent_parts Parametrized c Concave (map judged (a ∷ b ∷ [])) k some in
      by q x.0 x.1 y.1
    where
      fa : IsTrue (judged a).fixed
      fa = (and_parts (judged a).fixed ((judged b).fixed && true) fixed).0

      fb : IsTrue (judged b).fixed
      fb = (and_parts (judged b).fixed true (and_parts (judged a).fixed ((judged b).fixed && true) fixed).1).0

      pa : P a
      pa = All-head P a (b ∷ []) all

      pb : P b
      pb = All-head P b [] (All-tail P a (b ∷ []) all)

      by : (q : Pairing) → (let c : convex_calls.Call = pairing_call q (map sides (a ∷ b ∷ [])) to in
          IsTrue (bends Parametrized c.kind Convex (map judged (a ∷ b ∷ []))) → IsTrue (all_suit Convex (c.trend (map (λ g. g.sign) (map judged (a ∷ b ∷ [])))) (map judged (a ∷ b ∷ []))) →
          IsTrue (all_suit Concave (c.trend (map (λ g. g.sign) (map judged (a ∷ b ∷ [])))) (map judged (a ∷ b ∷ []))) → pairing_value q qs (F a) (F b) ≡ pairing_value q qs (G a) (G b))
      by Times bent x y = product_same a b pa pb fa fb qs bent x y
      by MatTimes bent x y = product_same a b pa pb fa fb qs bent x y
      by Over bent x y = quotient_same a b pa pb fa fb qs bent x y

-- ---- forms that meet the equations of the first m nodes
module _ (p : Problem) (s : Setting) (forms : Forms) (m : ℕ) (stand : (i : ℕ) (n : Node) → i < m → IsNode p.tree i n → Stands Parametrized p s forms i n (is_reduced Parametrized p i)) where
  abbrev judged : ℕ → Judgement
  judged i = judgement_at Parametrized (nodes_of p) i

  -- a number is its value
  number_value : (i : ℕ) → i < m → i < length p.tree → IsTrue (judged i).fixed → IsTrue (judged i).unparametrized → (u : Unknowns) (j : ℕ) → forms u i j ≡ value_at p s (λ k e. whole (pos 0)) i j
  number_value i b c fixed settled u j =
      let (n, at) = node_at p i c in
      subst (Stands Parametrized p s forms i n) (ap not (and_from (judged i).fixed (judged i).unparametrized fixed settled)) (stand i n b at) u (λ k e. whole (pos 0)) j

  number_same : (u w : Unknowns) (i : ℕ) → i < m → i < length p.tree → IsTrue (judged i).fixed → IsTrue (judged i).unparametrized → forms u i ≡ forms w i
  number_same u w i b c fixed settled = fun_ext (λ j. number_value i b c fixed settled u j ∙ sym (number_value i b c fixed settled w j))

  number_zero : (u : Unknowns) (i : ℕ) → i < m → i < length p.tree → IsTrue (judged i).fixed → IsTrue (judged i).unparametrized → IsTrue (is_zero (judged i).sign) → forms u i ≡ zeros
  number_zero u i b c fixed settled zero_sign = fun_ext (λ j.
      number_value i b c fixed settled u j
      ∙ settled_zero Parametrized (nodes_of p) (problem_lawful p).lawful s (λ k e. whole (pos 0)) i j fixed settled zero_sign)

  -- node i, where all before it are steady
  module _ (i : ℕ) (n : Node) (at : IsNode p.tree i n) (b : i < m) (c : i < length p.tree) (u w : Unknowns)
      (earlier : (a : ℕ) → a < i → IsTrue (judged a).fixed → IsTrue (is_affine (judged a)) → forms u a ≡ forms w a) where
    abbrev told : Call → Judgement
    told call = judgement_by Parametrized (head_of (names_in p) call (arg_sides p.tree n) n.sides) (map judged n.args)

    numbers : (a : ℕ) → a < i → IsTrue (judged a).fixed → IsTrue (judged a).unparametrized → forms u a ≡ forms w a
    numbers a l fixed settled = number_same u w a (omega arith) (omega arith) fixed settled

    nothing : (a : ℕ) → a < i → IsTrue (judged a).fixed → IsTrue (judged a).unparametrized → IsTrue (is_zero (judged a).sign) → (forms u a ≡ zeros) × (forms w a ≡ zeros)
    nothing a l fixed settled z = (number_zero u a (omega arith) (omega arith) fixed settled z, number_zero w a (omega arith) (omega arith) fixed settled z)

    entry_same : (call : Call) → shape_of call (arg_sides p.tree n) ≡ Some n.sides → IsTrue (told call).fixed → IsTrue (told call).convex → IsTrue (told call).concave
        → ¬ IsTrue (is_constant Parametrized (told call))
        → (j : ℕ) → call_entry (names_in p) s (point_at p.variables u) call (arg_sides p.tree n) (arguments (map (forms u) n.args)) (filling_of Parametrized p i u) j
        ≡ call_entry (names_in p) s (point_at p.variables w) call (arg_sides p.tree n) (arguments (map (forms w) n.args)) (filling_of Parametrized p i w) j
    entry_same (calls.Variable v) is fixed x y not_const j = absurd (false≢true fixed)
    entry_same (calls.Parameter q) is fixed x y not_const j = refl
    entry_same (calls.Constant k) is fixed x y not_const j = refl
    entry_same (calls.Atom a) is fixed x y not_const j =
        let c : convex_calls.Call = atom_call (atom_meaning a) (arg_sides p.tree n) n.sides in
        let some : ¬ IsTrue (list_all (is_constant Parametrized) (map judged n.args)) = λ all. not_const (call_constant Parametrized c (map judged n.args) all) in
        let v = bent_parts Parametrized c Convex (map judged n.args) x some in
        let z = bent_parts Parametrized c Concave (map judged n.args) y some in
        let e : Convex ≡ Concave = sym (same_bend_is (atom_meaning a).bend Convex v.0) ∙ same_bend_is (atom_meaning a).bend Concave z.0 in
        cc
    entry_same (calls.Linear l) is fixed x y not_const j =
        let c : convex_calls.Call = linear_call (linear_meaning l) (arg_sides p.tree n) n.sides in
        let some : ¬ IsTrue (list_all (is_constant Parametrized) (map judged n.args)) = λ all. not_const (call_constant Parametrized c (map judged n.args) all) in
        let v = bent_parts Parametrized c Convex (map judged n.args) x some in
        let z = bent_parts Parametrized c Concave (map judged n.args) y some in
        ap (λ (fs : List Numbers). terms_at ((linear_meaning l).terms (arg_sides p.tree n) j) (arguments fs))
        (one_way_same judged (forms u) (forms w) (λ a. a < i) earlier numbers nothing (linear_meaning l).trend (one_way l) n.args (p.nodes.earlier i n at) fixed v.1 z.1)
    entry_same (calls.Pairing q) is fixed x y not_const j =
        pairing_same q is fixed x y (λ all. not_const (pairing_constant q all)) j
      where
        pairing_constant : (q : Pairing) → IsTrue (list_all (is_constant Parametrized) (map judged n.args)) → IsTrue (is_constant Parametrized (told (calls.Pairing q)))
        pairing_constant q all = call_constant Parametrized (pairing_call q (arg_sides p.tree n) n.sides) (map judged n.args) all

        pairing_same : (q : Pairing) → sides_of_two q (arg_sides p.tree n) ≡ Some n.sides → IsTrue (told (calls.Pairing q)).fixed → IsTrue (told (calls.Pairing q)).convex
            → IsTrue (told (calls.Pairing q)).concave
            → ¬ IsTrue (list_all (is_constant Parametrized) (map judged n.args)) → (j : ℕ) →
            call_entry (names_in p) s (point_at p.variables u) (calls.Pairing q) (arg_sides p.tree n) (arguments (map (forms u) n.args)) (filling_of Parametrized p i u) j
            ≡ call_entry (names_in p) s (point_at p.variables w) (calls.Pairing q) (arg_sides p.tree n) (arguments (map (forms w) n.args)) (filling_of Parametrized p i w) j
        pairing_same q is fixed x y some j =
            pair_same judged (forms u) (forms w) (λ a. a < i) earlier numbers nothing q (arena.sides_at p.tree) n.sides n.args is (p.nodes.earlier i n at)
            (pairs_at q (sides_at (arg_sides p.tree n) 0) (sides_at (arg_sides p.tree n) 1) j) fixed some x y

  steady_within : (u w : Unknowns) (d i : ℕ) → i < d → i < m → i < length p.tree → IsTrue (judged i).fixed → IsTrue (is_affine (judged i)) → forms u i ≡ forms w i
  steady_within u w zero i l b c fixed affine = absurd (omega arith)
  steady_within u w (suc d) i l b c fixed affine =
      by (is_reduced Parametrized p i) refl (λ a k. steady_within u w d a (omega arith) (omega arith) (omega arith))
    where
      by : (r : Bool) → is_reduced Parametrized p i ≡ r → ((a : ℕ) → a < i → IsTrue (judged a).fixed → IsTrue (is_affine (judged a)) → forms u a ≡ forms w a) → forms u i ≡ forms w i
      by false e earlier =
          let t = and_parts (judged i).fixed (judged i).unparametrized (not_reduced (is_constant Parametrized (judged i)) e) in
          number_same u w i b c t.0 t.1
      by true e earlier =
          let (n, at) = node_at p i c in
          let g = judgement_tells Parametrized (nodes_of p) (nodes_ordered p) i (convex_node (names_in p) p.tree n) (convex_at p i n at) in
          let fixed_told = subst (λ (k : Judgement). IsTrue k.fixed) g fixed in
          let both = and_parts (judged i).convex (judged i).concave affine in
          let stands = subst (Stands Parametrized p s forms i n) e (stand i n b at) in
          fun_ext (λ j.
          stands u j
          ∙ ap (λ (f : Numbers). first_of (entries_of n.sides) f j)
          (fun_ext (λ k. entry_same i n at b c u w earlier n.call (p.nodes.shaped i n at) fixed_told (subst (λ (k : Judgement). IsTrue k.convex) g both.0)
          (subst (λ (k : Judgement). IsTrue k.concave) g both.1)
          (not_constant p Parametrized i n at e) k))
          ∙ sym (stands w j))

  -- an affine node that reaches no variable is one array
  pub steady : (u w : Unknowns) (i : ℕ) → i < m → i < length p.tree → IsTrue (judged i).fixed → IsTrue (is_affine (judged i)) → forms u i ≡ forms w i
  steady u w i b c fixed affine = steady_within u w (suc i) i (omega arith) b c fixed affine
