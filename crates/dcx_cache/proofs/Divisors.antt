-- No entry of a divisor is 0 where all nodes are formed.
use Rattle.std.proofs.Common.{◌≡◌, ◌≢◌, ℕ, ◌<◌, arith, Bool, true, false, not, IsTrue, List, [], ◌∷◌, length, map, Option, Some, Result, Ok, Err, refl, sym, ap, ◌∙◌, subst, inl, inr, pos}
use Rattle.std.specs.List.{list_all, list_any, All}
use Rattle.std.specs.Prelude.{if◌then◌else◌}
use Rattle.std.proofs.lemmas.Bool.{and_parts}
use Rattle.std.proofs.lemmas.List.Elements.{All-head, All-tail}
use Rattle.std.proofs.lemmas.Option.{slice_get_within}
use mathlib.Core.Bool.{or-false}
use Rattle.dcx_math.specs.Rational.{ℚ, whole, rat_eq}
use Rattle.dcx_math.proofs.Ratios.{rat_eq-false}
use Rattle.dcx_frac.specs.declared.fraction.Frac.{Frac}
use Rattle.dcx_frac.specs.declared.fraction.Passes.{Passes}
use Rattle.dcx_frac.specs.Frac.{value}
use Rattle.dcx_frac.specs.Results.{quotient_of}
use Rattle.dcx_shape.specs.declared.shape.Sides.{Sides}
use Rattle.dcx_shape.specs.Sides.{entries_of}
use Rattle.dcx_atom.specs.declared.flags.Bend.{Bend}
use Rattle.dcx_atom.specs.declared.flags.Bend.TheVariants.{Convex, Concave}
use Rattle.dcx_atom.specs.declared.stops.ValueStop.TheVariants as stops
use Rattle.dcx_atom.specs.Formed.{frac_at}
use Rattle.dcx_affine.specs.declared.pairing.Pairing.TheVariants.{Over}
use Rattle.dcx_point.specs.Pairs.{Pairs}
use Rattle.dcx_arena.specs.Nodes as arena
use Rattle.dcx_arena.specs.Nodes.{IsNode}
use Rattle.dcx_call.specs.declared.call.Call.{Call}
use Rattle.dcx_call.specs.declared.call.Call.TheVariants as calls
use Rattle.dcx_call.specs.Calls.{shape_of, sides_of_two}
use Rattle.dcx_call.specs.Forming.{divided, or_passes}
use Rattle.dcx_call.specs.Values.{given_by, entry_formed}
use Rattle.dcx_convex.specs.Calls as convex_calls
use Rattle.dcx_convex.specs.Nodes.{Setting, Point, arguments}
use Rattle.dcx_convex.specs.Rules.{Rules, Judgement, argument, is_constant, bends, judgement_by, judgement_at}
use Rattle.dcx_convex.specs.Problems.{accepted_by}
use Rattle.dcx_convex.proofs.Told.{judgement_tells}
use Rattle.dcx_tree.specs.declared.problem.Problem.{Problem}
use Rattle.dcx_tree.specs.Nodes.{Node, head_of, arg_sides, pairing_call, convex_node}
use Rattle.dcx_tree.specs.Meaning.{names_in, convex_problem, value_at as problem_value}
use Rattle.dcx_tree.proofs.AllReached.{convex_at}
use Rattle.dcx_fit.specs.Laws.{DividesByNoZero}
use Rattle.dcx_fit.proofs.Divisors.{divides as divides_where}
use Rattle.dcx_linear.specs.declared.change.Change.{Change}
use Rattle.dcx_linear.specs.declared.form.Form.{Form}
use Rattle.dcx_linear.specs.Parameters.{Parameters}
use Rattle.dcx_unknowns.specs.Layout.{is_reduced}
use Rattle.dcx_unknowns.proofs.Constants.{call_constant}
use Rattle.dcx_unknowns.proofs.NodeForms.{nodes_of, nodes_ordered, node_at, not_constant, not_reduced}
use Rattle.dcx_entries.specs.declared.entries.EntryForms.{EntryForms}
use Rattle.dcx_entries.specs.declared.scaling.Scaling.TheVariants.{Divisor}
use Rattle.dcx_entries.specs.Parts.{number_in, has_zero_divisor}
use Rattle.dcx_entries.specs.Entries.{PairEntryBy, PairEntry}
use Rattle.dcx_entries.specs.Standing.{args_among}
use Rattle.dcx_entries.specs.Nodes.{Table, table_forms, numbers_in, ReducedEntry, NodeEntryBy, AreFormed}
use Rattle.dcx_graph.proofs.Coefs.{AreCoefs}
use Rattle.dcx_graph.proofs.Numbers.{source, made_number, number_value, number_read, args_constant}
use Rattle.dcx_graph.proofs.Reached.{node_bent}
use Rattle.dcx_graph.proofs.Steady.{bent_parts}
use Rattle.dcx_graph.proofs.Tables.{form_in, entry_there}

-- ---- tests
divided_nonzero : (j : ℕ) (x y : ℚ) (z : Frac) → divided j x y ≡ Ok z → y ≢ whole (pos 0)
divided_nonzero j x y z e = by (rat_eq y (whole (pos 0))) refl e
  where
    by : (t : Bool) → rat_eq y (whole (pos 0)) ≡ t → (if t then Err (stops.ZeroDivisor j) else or_passes j (quotient_of (frac_at x) (frac_at y))) ≡ Ok z → y ≢ whole (pos 0)
    by true d g = absurd (cc)
    by false d g = rat_eq-false y (whole (pos 0)) d

-- ---- constants
second_constant : (rules : Rules) (args : List Judgement) → IsTrue (list_all (is_constant rules) args) → length args ≡ 2 → IsTrue (is_constant rules (argument args 1))
second_constant rules [] t e = absurd (omega (arith, e))
second_constant rules (g ∷ []) t e = absurd (omega (arith, e))
second_constant rules (g ∷ h ∷ []) t e = (and_parts (is_constant rules h) true (and_parts (is_constant rules g) (list_all (is_constant rules) (h ∷ [])) t).1).0
second_constant rules (g ∷ h ∷ k ∷ rest) t e = absurd (omega (arith, e))

-- ---- a product's judgement asks of its sides: a divisor is a number
taken_by : (rules : Rules) (sides : List Sides) (to : Sides) (bend : Bend) (args : List Judgement) → IsTrue (bends rules (pairing_call Over sides to).kind bend args)
    → IsTrue (is_constant rules (argument args 1))
taken_by rules sides to bend args t = t

module _ {C : Type 0} (value_at : C → Parameters → ℚ) (of_number : Frac → C) (number_of : C → Option Frac) (Sums : C → C → Result C Passes → Type 0) (Changes : Change → C → Result C Passes → Type 0)
    (Reads : ℕ → List ℕ → ℕ → Pairs → C → Type 0) (laws : AreCoefs value_at of_number number_of Sums Changes) (rules : Rules) (p : Problem) (setting : Pairs) (table : Table C)
    (formed : AreFormed of_number number_of Sums Changes Reads rules p setting (length p.tree) table) (params : Parameters) (s : Setting)
    (told : (i : ℕ) → i < length p.tree → is_reduced rules p i ≡ false → (x : Point) (j : ℕ)
    → problem_value p s x i j ≡ source value_at of_number number_of Sums Changes Reads laws rules p setting table formed i j)
    (ok : IsTrue (accepted_by rules (convex_problem p))) where
  abbrev forms : List (List (Form C))
  forms = table_forms table

  abbrev judged : ℕ → Judgement
  judged i = judgement_at rules (nodes_of p) i

  -- the number of a node that is one is its value, at each point
  number_told : (a : ℕ) → a < length p.tree → IsTrue (is_constant rules (judged a)) → (x : Point) (e : ℕ) → problem_value p s x a e ≡ value (number_in number_of (form_in of_number forms a e))
  number_told a l t x e =
      let (m, there) = node_at p a l in
      told a l (ap not t) x e
      ∙ sym (number_value value_at of_number number_of Sums Changes Reads laws rules p setting table formed a m there (ap not t) (λ k. whole (pos 0)) params e)
      ∙ sym (number_read value_at of_number number_of Sums Changes Reads laws rules p setting table formed a m there (ap not t) (λ k. whole (pos 0)) params e)

  module _ (i : ℕ) (n : Node) (at : IsNode p.tree i n) (is : n.call ≡ calls.Pairing Over) where
    within : i < length p.tree
    within = slice_get_within p.tree i n at

    two : sides_of_two Over (arg_sides p.tree n) ≡ Some n.sides
    two = subst (λ call. shape_of call (arg_sides p.tree n) ≡ Some n.sides) is (p.nodes.shaped i n at)

    two_args : (ids : List ℕ) (f : ℕ → Sides) → sides_of_two Over (map f ids) ≡ Some n.sides → length (map judged ids) ≡ 2
    two_args [] f e = cc
    two_args (a ∷ []) f e = cc
    two_args (a ∷ b ∷ []) f e = refl
    two_args (a ∷ b ∷ c ∷ rest) f e = cc

    -- the divisor is a number
    judgement : judged i ≡ judgement_by rules (head_of (names_in p) (calls.Pairing Over) (arg_sides p.tree n) n.sides) (map judged n.args)
    judgement =
        judgement_tells rules (nodes_of p) (nodes_ordered p) i (convex_node (names_in p) p.tree n) (convex_at p i n at)
        ∙ ap (λ (k : Call). judgement_by rules (head_of (names_in p) k (arg_sides p.tree n) n.sides) (map judged n.args)) is

    divisor_constant : (r : Bool) → is_reduced rules p i ≡ r → IsTrue (is_constant rules (argument (map judged n.args) 1))
    divisor_constant false e =
        second_constant rules (map judged n.args)
        (args_constant rules (pairing_call Over (arg_sides p.tree n) n.sides) (map judged n.args)
        (subst (λ (g : Judgement). IsTrue (is_constant rules g)) judgement (not_reduced (is_constant rules (judged i)) e)))
        (two_args n.args (arena.sides_at p.tree) two)
    divisor_constant true e =
        let c : convex_calls.Call = pairing_call Over (arg_sides p.tree n) n.sides in
        let none : ¬ IsTrue (is_constant rules (judgement_by rules (head_of (names_in p) (calls.Pairing Over) (arg_sides p.tree n) n.sides) (map judged n.args))) =
        subst (λ (k : Call). ¬ IsTrue (is_constant rules (judgement_by rules (head_of (names_in p) k (arg_sides p.tree n) n.sides) (map judged n.args)))) is (not_constant p rules i n at e) in
        let some : ¬ IsTrue (list_all (is_constant rules) (map judged n.args)) = λ all. none (call_constant rules c (map judged n.args) all) in
        elim (node_bent p rules ok i within) [
          | inl convex ↦ taken_by rules (arg_sides p.tree n) n.sides Convex (map judged n.args)
              (bent_parts rules c Convex (map judged n.args) (subst (λ (k : Judgement). IsTrue k.convex) judgement convex) some).0
          | inr concave ↦ taken_by rules (arg_sides p.tree n) n.sides Concave (map judged n.args)
              (bent_parts rules c Concave (map judged n.args) (subst (λ (k : Judgement). IsTrue k.concave) judgement concave) some).0
        ]

    -- no entry of it is 0
    abbrev divisor : ℕ → ℚ
    divisor j = value (number_in number_of (args_among of_number forms n.args 1 j))

    pair_nonzero : (j : ℕ) (entry : EntryForms C) → PairEntry of_number number_of Sums Changes Divisor (args_among of_number forms n.args) (record { left = j; right = j } ∷ []) j (Ok entry)
        → divisor j ≢ whole (pos 0)
    pair_nonzero j entry h = by (list_any (has_zero_divisor number_of Divisor (args_among of_number forms n.args)) (record { left = j; right = j } ∷ [])) refl h
      where
        by : (b : Bool) → list_any (has_zero_divisor number_of Divisor (args_among of_number forms n.args)) (record { left = j; right = j } ∷ []) ≡ b →
            PairEntryBy of_number number_of Sums Changes b Divisor (args_among of_number forms n.args) (record { left = j; right = j } ∷ []) j (Ok entry) → divisor j ≢ whole (pos 0)
        by true e g = absurd (cc)
        by false e g = rat_eq-false (divisor j) (whole (pos 0)) (sym (or-false (rat_eq (divisor j) (whole (pos 0)))) ∙ e)

    number_nonzero : (j : ℕ) (x : Frac) → entry_formed n.call (given_by setting) (given_by []) (arg_sides p.tree n) (numbers_in number_of (args_among of_number forms n.args)) j ≡ Ok x
        → divisor j ≢ whole (pos 0)
    number_nonzero j x h =
        divided_nonzero j (value (number_in number_of (args_among of_number forms n.args 0 j))) (divisor j) x
        (subst (λ (call : Call). entry_formed call (given_by setting) (given_by []) (arg_sides p.tree n) (numbers_in number_of (args_among of_number forms n.args)) j ≡ Ok x) is h)

    entry_nonzero : (r : Bool) (j : ℕ) (entry : EntryForms C) → NodeEntryBy of_number number_of Sums Changes Reads rules p setting r forms i n j (Ok entry) → divisor j ≢ whole (pos 0)
    entry_nonzero true j entry h =
        pair_nonzero j entry (subst (λ (call : Call). ReducedEntry of_number number_of Sums Changes Reads rules p setting forms i n.args call (arg_sides p.tree n) j (Ok entry)) is h)
    entry_nonzero false j entry h =
        let (x, made, form) =
        made_number value_at of_number number_of Sums Changes Reads laws rules p setting table formed
        (entry_formed n.call (given_by setting) (given_by []) (arg_sides p.tree n) (numbers_in number_of (args_among of_number forms n.args)) j) entry h in
        number_nonzero j x made

    nonzero : (j : ℕ) → j < entries_of n.sides → divisor j ≢ whole (pos 0)
    nonzero j b =
        let w = entry_there of_number number_of Sums Changes Reads rules p setting table formed i n at j b in
        entry_nonzero (is_reduced rules p i) j w.entry w.gives

    -- and it is what the divisor is at each point
    second : (ids : List ℕ) (f : ℕ → Sides) → sides_of_two Over (map f ids) ≡ Some n.sides → All (λ a. a < i) ids → IsTrue (is_constant rules (argument (map judged ids) 1)) → (x : Point) (j : ℕ) →
        arguments (map (λ a. problem_value p s x a) ids) 1 j ≡ value (number_in number_of (args_among of_number forms ids 1 j))
    second [] f e all t x j = cc
    second (a ∷ []) f e all t x j = cc
    second (a ∷ b ∷ []) f e all t x j =
        let l = All-head (λ a. a < i) b [] (All-tail (λ a. a < i) a (b ∷ []) all) in
        let w = within in
        number_told b (omega (arith, l, w)) t x j
    second (a ∷ b ∷ c ∷ rest) f e all t x j = cc

    pub divisor_nonzero : (x : Point) (j : ℕ) → j < entries_of n.sides → arguments (map (λ a. problem_value p s x a) n.args) 1 j ≢ whole (pos 0)
    divisor_nonzero x j b e = nonzero j b (sym (second n.args (arena.sides_at p.tree) two (p.nodes.earlier i n at) (divisor_constant (is_reduced rules p i) refl) x j) ∙ e)

  -- ---- all nodes
  pub divides : DividesByNoZero p s
  divides = divides_where p s (λ x i n at is j b. divisor_nonzero i n at is x j b)
