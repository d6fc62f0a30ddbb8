-- There are no more variables and parameters than nodes: no name is declared twice, and each has a node.
use Rattle.std.specs.Prelude.{◌≡◌, ℕ, zero, suc, ◌+◌, ◌≤◌, Bool, true, false, ◌||◌, cond, List, [], ◌∷◌, ◌++◌, length, map, Option, Some, IsSome}
use Rattle.std.specs.List.{AllByRecursion, list_any}
use Rattle.std.specs.Map.{lookup}
use Rattle.std.specs.Cmp.Lexicographic.{nat_list_eq_equiv}
use Rattle.std.proofs.Common.{refl, sym, ap, subst, arith}
use Rattle.std.proofs.Math.Logic.{∥∥₁_elim}
use Rattle.std.proofs.Math.Bridge.{le_prop}
use Rattle.std.proofs.lemmas.List.Elements.{recursion_from_All}
use Rattle.std.proofs.lemmas.Map.Steps.{length-le_from_keys}
use Rattle.dcx_point.specs.Pairs.{same_name}
use Rattle.dcx_arena.specs.Nodes.{call_at}
use Rattle.dcx_call.specs.declared.attribute.Variable.{Variable}
use Rattle.dcx_call.specs.declared.attribute.Parameter.{Parameter}
use Rattle.dcx_call.specs.declared.call.Call.{Call}
use Rattle.dcx_call.specs.declared.call.Call.TheVariants as calls
use Rattle.dcx_tree.specs.declared.problem.Problem.{Problem}
use Rattle.dcx_tree.specs.Nodes.{Node}
use Rattle.dcx_tree.specs.Problems.{HasCall, declared_names, AreDeclared}

-- the name that a call gives its node
name_in : Call → List ℕ
name_in (calls.Variable v) = v.name
name_in (calls.Parameter q) = q.name
name_in (calls.Constant x) = []
name_in (calls.Atom m) = []
name_in (calls.Linear l) = []
name_in (calls.Pairing p) = []

-- the names of nodes as keys
keyed : List Node → List (List ℕ × Unit {0})
keyed nodes = map (λ n. (name_in n.call, tt)) nodes

length-keyed : (nodes : List Node) → length (keyed nodes) ≡ length nodes
unfolding keyed
length-keyed [] = refl
length-keyed (n ∷ nodes) = ap suc (length-keyed nodes)

IsKey : List Node → List ℕ → Type 0
IsKey nodes q = IsSome (lookup (same_name q) (keyed nodes))

later : (b : Bool) (o : Option (Unit {0})) → IsSome o → IsSome (cond b (Some tt) o)
later true o h = refl
later false o h = h

now : (b : Bool) (o : Option (Unit {0})) → b ≡ true → IsSome (cond b (Some tt) o)
now true o e = refl
now false o e = absurd (cc)

-- the name of a node is a key
node_key : (nodes : List Node) (i : ℕ) (call : Call) (q : List ℕ) → call_at nodes i ≡ Some call → same_name q (name_in call) ≡ true → IsKey nodes q
unfolding keyed IsKey
node_key [] i call q at e = absurd (cc)
node_key (n ∷ nodes) zero call q at e =
    let same : n.call ≡ call = cc in
    now (same_name q (name_in n.call)) (lookup (same_name q) (keyed nodes)) (subst (λ c. same_name q (name_in c) ≡ true) (sym same) e)
node_key (n ∷ nodes) (suc i) call q at e = later (same_name q (name_in n.call)) (lookup (same_name q) (keyed nodes)) (node_key nodes i call q at e)

-- a name that is declared is a key
module _ {X : Type 0} (nodes : List Node) (q : List ℕ) (name : X → List ℕ) (call : X → Call) (named : (x : X) → name_in (call x) ≡ name x) where
  -- it is that of the first, or of a later one
  declared_key : (xs : List X) (rest : List (List ℕ)) → AllByRecursion (λ x. HasCall nodes (call x)) xs → (list_any (same_name q) rest ≡ true → IsKey nodes q) →
      list_any (same_name q) (map name xs ++ rest) ≡ true → IsKey nodes q
  declared_key [] rest all then e = then e
  declared_key (x ∷ xs) rest all then e = by (same_name q (name x)) refl e (declared_key xs rest all.1 then)
    where
      by : (b : Bool) → same_name q (name x) ≡ b → (b || list_any (same_name q) (map name xs ++ rest)) ≡ true → (list_any (same_name q) (map name xs ++ rest) ≡ true → IsKey nodes q) → IsKey nodes q
      by true s e' later_on = node_key nodes all.0.0 (call x) q all.0.1 (subst (λ n. same_name q n ≡ true) (sym (named x)) s)
      by false s e' later_on = later_on e'

no_name : (q : List ℕ) → list_any (same_name q) [] ≡ true → ⊥
no_name q e = absurd (cc)

length-both : {X Y : Type 0} (f : X → List ℕ) (g : Y → List ℕ) (xs : List X) (ys : List Y) → length (map f xs ++ map g ys) ≡ length xs + length ys
length-both f g [] [] = refl
length-both f g [] (y ∷ ys) = omega (arith, length-both f g [] ys)
length-both f g (x ∷ xs) ys = omega (arith, length-both f g xs ys)

few_declared : (nodes : List Node) (vs : List Variable) (ps : List Parameter) → AreDeclared nodes vs ps → length vs + length ps ≤ length nodes
unfolding IsKey name_in
few_declared nodes vs ps d =
    subst (λ n. n ≤ length nodes) (length-both (λ (v : Variable). v.name) (λ (p : Parameter). p.name) vs ps)
    (subst (λ n. length (declared_names vs ps) ≤ n) (length-keyed nodes)
    (length-le_from_keys nat_list_eq_equiv (declared_names vs ps) (keyed nodes) d.distinct (λ q e.
    declared_key nodes q (λ (v : Variable). v.name) (λ v. calls.Variable v) (λ v. refl) vs (map (λ (p : Parameter). p.name) ps)
    (recursion_from_All (λ v. HasCall nodes (calls.Variable v)) vs d.variables_stand)
    (λ e'. declared_key nodes q (λ (p : Parameter). p.name) (λ p. calls.Parameter p) (λ p. refl) ps []
    (recursion_from_All (λ p. HasCall nodes (calls.Parameter p)) ps d.parameters_stand) (λ e''. absurd (no_name q e''))
    (subst (λ ns. list_any (same_name q) ns ≡ true) (sym (append-nil' (map (λ (p : Parameter). p.name) ps))) e')) e)))
  where
    append-nil' : (xs : List (List ℕ)) → xs ++ [] ≡ xs
    append-nil' [] = refl
    append-nil' (x ∷ xs) = ap (λ ys. x ∷ ys) (append-nil' xs)

-- a problem has at most 20,000 of each, as it has nodes
few_together : (p : Problem) → length p.variables + length p.parameters ≤ 20000
few_together p = ∥∥₁_elim p.declared le_prop (λ d. let few = few_declared p.tree p.variables p.parameters d in let most = p.nodes.room.few_nodes in omega (arith, few, most))

pub few_variables : (p : Problem) → length p.variables ≤ 20000
few_variables p = omega (arith, few_together p)

pub few_parameters : (p : Problem) → length p.parameters ≤ 20000
few_parameters p = omega (arith, few_together p)
