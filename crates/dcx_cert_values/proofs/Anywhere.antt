-- A node that reaches no variable has one value at all points, and what is kept of such nodes alone is kept at each.
use Rattle.std.proofs.Common.{◌≡◌, ℕ, zero, suc, true, List, map, ◌∷◌, [], Option, Some, None, IsOk, Result, option_map, slice_get, refl, sym, ap, ap₂, ◌∙◌, subst}
use Rattle.std.specs.Prelude.{◌&&◌}
use Rattle.std.specs.List.{list_all}
use Rattle.std.proofs.lemmas.Option.{slice_get-map}
use Rattle.dcx_math.specs.Rational.{ℚ}
use Rattle.dcx_frac.specs.declared.fraction.Frac.{Frac}
use Rattle.dcx_shape.specs.declared.shape.Sides.{Sides}
use Rattle.dcx_atom.specs.declared.array.Array.{Array}
use Rattle.dcx_atom.specs.declared.stops.ValueStop.{ValueStop}
use Rattle.dcx_atom.specs.Arrays.{Entries}
use Rattle.dcx_point.specs.Pairs.{Pairs}
use Rattle.dcx_arena.specs.Nodes.{IsNode}
use Rattle.dcx_arena.specs.Gather.{has}
use Rattle.dcx_arena.proofs.Orders.{has_one, tail_has}
use Rattle.dcx_convex.specs.Nodes.{arguments, told, told_within}
use Rattle.dcx_convex.specs.Rules.{Plain, Judgement, no_argument, fixed_by, judgement_by, judgement_at}
use Rattle.dcx_convex.proofs.Signs.{value_fixed}
use Rattle.dcx_call.specs.declared.attribute.Variable.{Variable}
use Rattle.dcx_call.specs.declared.call.Call.{Call}
use Rattle.dcx_call.specs.declared.call.Call.TheVariants as calls
use Rattle.dcx_call.specs.Values.{given_by, entry_formed}
use Rattle.dcx_tree.specs.declared.problem.Problem.{Problem}
use Rattle.dcx_tree.specs.Nodes.{Names, Node, head_of, arg_sides, convex_node, convex_nodes, numbers_by, source_value}
use Rattle.dcx_tree.specs.Meaning.{names_in}
use Rattle.dcx_tree.specs.Values.{IsValueOf, node_formed, array_at}
use Rattle.dcx_tree.proofs.NodeValues.{args_are}
use Rattle.dcx_cert_values.specs.Forming.{IsFixedNode}
use Rattle.dcx_cert_values.specs.Tables.{AreKeptValues, AreOnlyFixed}
use Rattle.dcx_cert_values.proofs.Fixed.{argument_fixed, reached_fixed, fixed_no_variable}
use Rattle.dcx_cert_values.proofs.Keeping.{some_from}

-- ---- which nodes reach no variable is the same by whichever names
all_alike : (f g : ℕ → Judgement) → ((i : ℕ) → (f i).fixed ≡ (g i).fixed) → (args : List ℕ) → list_all (λ j. j.fixed) (map f args) ≡ list_all (λ j. j.fixed) (map g args)
all_alike f g e [] = refl
all_alike f g e (a ∷ args) = ap₂ (◌&&◌) (e a) (all_alike f g e args)

head_alike : (names others : Names) (call : Call) (ss : List Sides) (s : Sides) (f g : ℕ → Judgement) → ((i : ℕ) → (f i).fixed ≡ (g i).fixed) → (args : List ℕ)
    → fixed_by (head_of names call ss s) (map f args) ≡ fixed_by (head_of others call ss s) (map g args)
head_alike names others (calls.Variable v) ss s f g e args = refl
head_alike names others (calls.Parameter q) ss s f g e args = refl
head_alike names others (calls.Constant x) ss s f g e args = refl
head_alike names others (calls.Atom m) ss s f g e args = all_alike f g e args
head_alike names others (calls.Linear l) ss s f g e args = all_alike f g e args
head_alike names others (calls.Pairing q) ss s f g e args = all_alike f g e args

module _ (nodes : List Node) (names others : Names) where
  abbrev within : Names → ℕ → ℕ → Judgement
  within ns = told_within no_argument (judgement_by Plain) (convex_nodes ns nodes)

  told_alike : (n i : ℕ) → (within names n i).fixed ≡ (within others n i).fixed
  told_alike zero i = refl
  told_alike (suc n) i = by (slice_get nodes i) refl (told_alike n)
    where
      at : (ns : Names) (o : Option Node) → slice_get nodes i ≡ o → within ns (suc n) i ≡ told no_argument (judgement_by Plain) (within ns n) (option_map (convex_node ns nodes) o)
      at ns o e = ap (told no_argument (judgement_by Plain) (within ns n)) (slice_get-map (convex_node ns nodes) nodes i ∙ ap (option_map (convex_node ns nodes)) e)

      by : (o : Option Node) → slice_get nodes i ≡ o → ((k : ℕ) → (within names n k).fixed ≡ (within others n k).fixed) → (within names (suc n) i).fixed ≡ (within others (suc n) i).fixed
      by None e same = ap (λ (g : Judgement). g.fixed) (at names None e ∙ sym (at others None e))
      by (Some m) e same =
          ap (λ (g : Judgement). g.fixed) (at names (Some m) e) ∙ head_alike names others m.call (arg_sides nodes m) m.sides (within names n) (within others n) same m.args
          ∙ sym (ap (λ (g : Judgement). g.fixed) (at others (Some m) e))

  fixed_alike : (i : ℕ) → (judgement_at Plain (convex_nodes names nodes) i).fixed ≡ (judgement_at Plain (convex_nodes others nodes) i).fixed
  unfolding judgement_at
  fixed_alike i = told_alike (suc i) i

-- ---- a call that is no variable takes nothing from the point
call_alike : (setting x y : Pairs) (call : Call) → ((v : Variable) → call ≡ calls.Variable v → ⊥) → (ss : List Sides) (a b : Entries) → a ≡ b → (j : ℕ)
    → entry_formed call (given_by setting) (given_by x) ss a j ≡ entry_formed call (given_by setting) (given_by y) ss b j
call_alike setting x y (calls.Variable v) none ss a b e j = absurd (none v refl)
call_alike setting x y (calls.Parameter q) none ss a b e j = refl
call_alike setting x y (calls.Constant c) none ss a b e j = refl
call_alike setting x y (calls.Atom m) none ss a b e j = ap (λ (f : Entries). entry_formed (calls.Atom m) (given_by setting) (given_by x) ss f j) e
call_alike setting x y (calls.Linear l) none ss a b e j = ap (λ (f : Entries). entry_formed (calls.Linear l) (given_by setting) (given_by x) ss f j) e
call_alike setting x y (calls.Pairing q) none ss a b e j = ap (λ (f : Entries). entry_formed (calls.Pairing q) (given_by setting) (given_by x) ss f j) e

map_alike : (f g : ℕ → ℕ → ℚ) (args : List ℕ) → ((a : ℕ) → has args a ≡ true → f a ≡ g a) → map f args ≡ map g args
map_alike f g [] e = refl
map_alike f g (a ∷ args) e = ap₂ ◌∷◌ (e a (has_one a args)) (map_alike f g args (λ b h. e b (tail_has a b args h)))

module _ (p : Problem) (setting x y : Pairs) where
  -- the numbers of a node that reaches no variable
  numbers_alike : (names : Names) (i : ℕ) → IsFixedNode p i → source_value p.tree names setting x i ≡ source_value p.tree names setting y i
  numbers_alike names i t =
      value_fixed Plain (convex_nodes names p.tree) (numbers_by names.parameters setting) (numbers_by names.variables x) (numbers_by names.variables y) i (fixed_alike p.tree names (names_in p) i ∙ t)

  -- what is formed of it
  formed_alike : (names : Names) (i : ℕ) (n : Node) → IsNode p.tree i n → IsFixedNode p i → (j : ℕ) → node_formed p.tree names setting x n j ≡ node_formed p.tree names setting y n j
  formed_alike names i n at t j =
      call_alike setting x y n.call (fixed_no_variable p i n at t) (arg_sides p.tree n) (arguments (map (source_value p.tree names setting x) n.args))
      (arguments (map (source_value p.tree names setting y) n.args))
      (ap arguments (map_alike (source_value p.tree names setting x) (source_value p.tree names setting y) n.args
      (λ a h. numbers_alike names a (argument_fixed p i a t (subst (λ xs. has xs a ≡ true) (sym (args_are p.tree i n at)) h))))) j

  -- its value
  pub value_alike : (i : ℕ) (v : Array) → IsFixedNode p i → IsValueOf p.tree setting x i v → IsValueOf p.tree setting y i v
  value_alike i v t h = record {
    shape = h.shape;
    numbers = λ names named j. h.numbers names named j ∙ ap (λ (f : ℕ → ℚ). f j) (numbers_alike names i t);
    formed = λ names named k n reached at j lt. subst (λ (r : Result Frac ValueStop). IsOk r) (formed_alike names k n at (reached_fixed p i k reached t) j) (h.formed names named k n reached at j lt);
  }

  -- what is kept of such nodes alone
  pub kept_alike : (arrays : List (Option Array)) → AreOnlyFixed p arrays → AreKeptValues p setting x arrays → AreKeptValues p setting y arrays
  kept_alike arrays only h = record {
    sized = h.sized;
    values = λ i v e. value_alike i v (only i (some_from (array_at arrays i) v e)) (h.values i v e);
    closed = h.closed;
  }
