-- What reaches a variable that is kept is found by its name: no name is declared twice, and no variable has two nodes.
use Rattle.std.proofs.Common.{◌≡◌, ℕ, zero, suc, ◌<◌, arith, Bool, true, false, List, [], ◌∷◌, length, map, Option, Some, None, refl, sym, ap, ◌∙◌, subst}
use Rattle.std.specs.Prelude.{if◌then◌else◌}
use Rattle.std.specs.List.{slice_get}
use Rattle.std.proofs.lemmas.Bool.{false≢true}
use Rattle.std.proofs.lemmas.Option.{none-some, same_Some, slice_get_within, get_or_from_slice_get}
use Rattle.dcx_shape.specs.declared.shape.Sides.{Sides}
use Rattle.dcx_shape.specs.Shape.{sides_of}
use Rattle.dcx_point.proofs.Puts.{same_name-refl, same_name-true}
use Rattle.dcx_arena.specs.Nodes.{IsNode, call_at, sides_at}
use Rattle.dcx_call.specs.declared.attribute.Variable.{Variable}
use Rattle.dcx_call.specs.declared.call.Call.{Call}
use Rattle.dcx_call.specs.declared.call.Call.TheVariants as calls
use Rattle.dcx_call.specs.Calls.{shape_of, own_sides}
use Rattle.dcx_tree.specs.declared.problem.Problem.{Problem}
use Rattle.dcx_tree.specs.Nodes.{Node}
use Rattle.dcx_tree.specs.Problems.{IsListed, AreDeclared}
use Rattle.dcx_tree.proofs.Names.{found_in}
use Rattle.dcx_tree.proofs.Sublists.{contains_at, one_name, distinct_front}
use Rattle.dcx_cert_collect.specs.declared.collected.Reached.{Reached}
use Rattle.dcx_cert_bound.specs.Variables.{is_named, reaching}
use Rattle.dcx_cert_bound.proofs.Falling.{AreFalling}

-- ---- a variable has no arguments
pub no_sides : (own : Sides) (args : List Sides) (sides : Sides) → own_sides own args ≡ Some sides → length args ≡ 0
no_sides own [] sides e = refl
no_sides own (a ∷ args) sides e = absurd (none-some sides e)

pub no_nodes : (f : ℕ → Sides) (args : List ℕ) → length (map f args) ≡ 0 → args ≡ []
no_nodes f [] e = refl
no_nodes f (a ∷ args) e = absurd (omega (arith, e))

-- the variable of a name
variable_named : (name : List ℕ) (o : Option Call) → is_named name o ≡ true → (v : Variable) × (o ≡ Some (calls.Variable v)) × (name ≡ v.name)
variable_named name None e = absurd (false≢true e)
variable_named name (Some (calls.Variable v)) e = (v, refl, same_name-true name v.name e)
variable_named name (Some (calls.Parameter q)) e = absurd (false≢true e)
variable_named name (Some (calls.Constant x)) e = absurd (false≢true e)
variable_named name (Some (calls.Atom m)) e = absurd (false≢true e)
variable_named name (Some (calls.Linear l)) e = absurd (false≢true e)
variable_named name (Some (calls.Pairing q)) e = absurd (false≢true e)

module _ (p : Problem) where
  pub bare : (i : ℕ) (n : Node) (v : Variable) → IsNode p.tree i n → n.call ≡ calls.Variable v → n.args ≡ []
  bare i n v at is =
      no_nodes (sides_at p.tree) n.args
      (no_sides (sides_of v.shape) (map (sides_at p.tree) n.args) n.sides (ap (λ c. shape_of c (map (sides_at p.tree) n.args)) (sym is) ∙ p.nodes.shaped i n at))

  module _ (d : AreDeclared p.tree p.variables p.parameters) where
    -- the variable of a node is listed
    pub listed : (i : ℕ) (v : Variable) → call_at p.tree i ≡ Some (calls.Variable v) → (k : ℕ) × (slice_get p.variables k ≡ Some v)
    listed i v c = let (n, at, is) = found_in (slice_get p.tree i) (calls.Variable v) c in contains_at p.variables v (subst (IsListed p.variables p.parameters) is (d.listed i n at))

    one_variable : (i j : ℕ) (v w : Variable) → call_at p.tree i ≡ Some (calls.Variable v) → call_at p.tree j ≡ Some (calls.Variable w) → v.name ≡ w.name → v ≡ w
    one_variable i j v w a b same =
        let (k, at) = listed i v a in
        let (m, there) = listed j w b in
        one_name (λ (x : Variable). x.name) p.variables (distinct_front (map (λ (x : Variable). x.name) p.variables) (map (λ q. q.name) p.parameters) d.distinct) k m v w at there same

    -- it has one node
    one_node : (i j : ℕ) (v w : Variable) → call_at p.tree i ≡ Some (calls.Variable v) → call_at p.tree j ≡ Some (calls.Variable w) → v.name ≡ w.name → i ≡ j
    one_node i j v w a b same =
        let (m, here, is) = found_in (slice_get p.tree i) (calls.Variable v) a in
        let (n, there, are) = found_in (slice_get p.tree j) (calls.Variable w) b in
        p.nodes.distinct i j m n here there (record {
          same_call = is ∙ ap (λ x. calls.Variable x) (one_variable i j v w a b same) ∙ sym are;
          same_args = bare i m v here is ∙ sym (bare j n w there are);
        })

    -- ---- so the coefficients of a variable are found by its name
    pub reaching_is : (reached : List Reached) → AreFalling reached → (k : ℕ) (r : Reached) → slice_get reached k ≡ Some r → (v : Variable) → call_at p.tree r.node.0 ≡ Some (calls.Variable v)
        → reaching p.tree reached v.name ≡ r.coefficients
    reaching_is [] f k r at v c = absurd (none-some r at)
    reaching_is (q ∷ reached) f zero r at v c =
        let same : q ≡ r = same_Some q r at in
        let named : is_named v.name (call_at p.tree q.node.0) ≡ true = ap (λ (x : Reached). is_named v.name (call_at p.tree x.node.0)) same ∙ ap (is_named v.name) c ∙ same_name-refl v.name in
        ap (λ b. if b then q.coefficients else reaching p.tree reached v.name) named ∙ ap (λ (x : Reached). x.coefficients) same
    reaching_is (q ∷ reached) f (suc k) r at v c = by (is_named v.name (call_at p.tree q.node.0)) refl (reaching_is reached f.1 k r at v c)
      where
        before : r.node.0 < q.node.0
        before = subst (λ (x : Reached). x.node.0 < q.node.0) (get_or_from_slice_get reached k r r at) (f.0 k r (slice_get_within reached k r at))

        by : (b : Bool) → is_named v.name (call_at p.tree q.node.0) ≡ b → reaching p.tree reached v.name ≡ r.coefficients
            → (if b then q.coefficients else reaching p.tree reached v.name) ≡ r.coefficients
        by false e rest = rest
        by true e rest =
            let (w, is, name) = variable_named v.name (call_at p.tree q.node.0) e in
            absurd (let same = one_node r.node.0 q.node.0 v w c is name in omega (arith, before, same))
