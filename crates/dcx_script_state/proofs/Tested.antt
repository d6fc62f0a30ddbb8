-- What tests of nodes tell, and constraints among values.
use Rattle.std.proofs.Common.{◌≡◌, ℕ, zero, suc, ◌≤◌, ◌<◌, ◌^◌, Bool, true, nat_lt, nat_eq, List, [], ◌∷◌, ◌++◌, length, map, take, get_or, append-nil, ◌+◌, Some, refl, sym, ap, ◌∙◌, subst, arith}
use Rattle.std.specs.Bool.{Decides, one_answer}
use Rattle.std.specs.List.{slice_get, list_all}
use Rattle.std.proofs.lemmas.Bool.{and_parts}
use Rattle.std.proofs.lemmas.Bool.Decides.{Decides-ltb, Decides-eqb}
use Rattle.std.proofs.lemmas.List.{take_more, map-append, length-map}
use Rattle.std.proofs.lemmas.List.Elements.{filter_map-append}
use Rattle.std.proofs.lemmas.Option.{none-some, same_Some}
use Rattle.dcx_shape.specs.declared.shape.Sides.{Sides}
use Rattle.dcx_shape.specs.Shape.{sides_of}
use Rattle.dcx_shape.specs.Sides.{entries_of}
use Rattle.dcx_arena.specs.declared.node.NodeId.{NodeId}
use Rattle.dcx_arena.specs.Nodes.{Node, sides_at}
use Rattle.dcx_call.specs.declared.call.Call.{Call}
use Rattle.dcx_affine.specs.Places.{same_sides}
use Rattle.dcx_tree.specs.declared.constraint.Constraint.{Constraint}
use Rattle.dcx_tree.specs.Problems.{IsObjective, HasSides, IsConstraint, AreConstraints}
use Rattle.dcx_script_values.specs.declared.value.Value as code_value
use Rattle.dcx_script_values.specs.declared.value.Value.TheVariants as values
use Rattle.dcx_script_values.specs.Meant.{meant}
use Rattle.dcx_script_values.specs.Values.{Value, plain, text, truth, nothing, tuple, list, range, library, expression, constraint, objective, problem, result}
use Rattle.dcx_script_state.specs.Declarations.{as_constraint, constraint_list, is_objective, has_sides, are_sides}
use Rattle.dcx_script_state.proofs.SameCalls.{two, sides_decide}

-- ---- nodes
-- the node may be an objective
objective_decides : (nodes : List (Node Call)) (id : NodeId) → Decides (is_objective nodes id.0) (IsObjective nodes id)
objective_decides nodes id =
    two (nat_lt id.0 (length nodes)) (nat_eq (entries_of (sides_at nodes id.0)) 1) (Decides-ltb id.0 (length nodes)) (Decides-eqb (entries_of (sides_at nodes id.0)) 1)
    (λ e f. record { there = e; one_entry = f }) (λ r. r.there) (λ r. r.one_entry)

sides_decided : (nodes : List (Node Call)) (sides : Sides) (id : NodeId) → Decides (has_sides nodes sides id.0) (HasSides nodes id sides)
sides_decided nodes sides id =
    two (nat_lt id.0 (length nodes)) (same_sides (sides_at nodes id.0) sides) (Decides-ltb id.0 (length nodes)) (sides_decide (sides_at nodes id.0) sides)
    (λ e f. record { there = e; same = f }) (λ r. r.there) (λ r. r.same)

constraint_decides : (nodes : List (Node Call)) (c : Constraint) → Decides (are_sides nodes c) (IsConstraint nodes c)
constraint_decides nodes c =
    two (has_sides nodes (sides_of c.shape) c.left.0) (has_sides nodes (sides_of c.shape) c.right.0) (sides_decided nodes (sides_of c.shape) c.left) (sides_decided nodes (sides_of c.shape) c.right)
    (λ l r. record { left = l; right = r }) (λ r. r.left) (λ r. r.right)

test_at : {X : Type 0} (p : X → Bool) (xs : List X) (k : ℕ) (x : X) → list_all p xs ≡ true → slice_get xs k ≡ Some x → p x ≡ true
test_at p [] k x e at = absurd (none-some x at)
test_at p (y ∷ xs) zero x e at = ap p (sym (same_Some y x at)) ∙ (and_parts (p y) (list_all p xs) e).0
test_at p (y ∷ xs) (suc k) x e at = test_at p xs k x (and_parts (p y) (list_all p xs) e).1 at

all_pass : {X : Type 0} (p : X → Bool) (xs : List X) → ((k : ℕ) (x : X) → slice_get xs k ≡ Some x → p x ≡ true) → list_all p xs ≡ true
all_pass p [] h = refl
all_pass p (x ∷ xs) h =
    let e = h 0 x refl in
    let r = all_pass p xs (λ k. h (suc k)) in
    rw (e, r) refl

constraints_decide : (nodes : List (Node Call)) (cs : List Constraint) → length cs < 2 ^ 32 → Decides (list_all (are_sides nodes) cs) (AreConstraints nodes cs)
constraints_decide nodes cs few = (
  (λ e. record {
    left = λ k c at. ((constraint_decides nodes c).0 (test_at (are_sides nodes) cs k c e at)).left;
    right = λ k c at. ((constraint_decides nodes c).0 (test_at (are_sides nodes) cs k c e at)).right;
    few = few;
  }),
  (λ h. all_pass (are_sides nodes) cs (λ k c at. (constraint_decides nodes c).1 (record { left = h.left k c at; right = h.right k c at }))),
)

-- a test that says the same has the same answer
pub objective_is : (nodes : List (Node Call)) (id : NodeId) (a : Bool) → Decides a (IsObjective nodes id) → is_objective nodes id.0 ≡ a
objective_is nodes id a d = one_answer (is_objective nodes id.0) a (objective_decides nodes id) d

pub constraints_are : (nodes : List (Node Call)) (cs ds : List Constraint) (a : Bool) → length cs < 2 ^ 32 → ds ≡ cs → Decides a (AreConstraints nodes ds) → list_all (are_sides nodes) cs ≡ a
constraints_are nodes cs ds a few is d = one_answer (list_all (are_sides nodes) cs) a (constraints_decide nodes cs few) (subst (λ xs. Decides a (AreConstraints nodes xs)) is d)

-- ---- constraints among values
-- there are no more than values
length-constraints : (vs : List Value) → length (constraint_list vs) ≤ length vs
length-constraints [] = omega arith
length-constraints (v ∷ vs) = by (length-constraints vs) v
  where
    by : length (constraint_list vs) ≤ length vs → (w : Value) → length (constraint_list (w ∷ vs)) ≤ suc (length vs)
    by rest (plain a) = omega arith
    by rest (text t) = omega arith
    by rest (truth b) = omega arith
    by rest nothing = omega arith
    by rest (tuple ws) = omega arith
    by rest (list ws) = omega arith
    by rest (range first step n) = omega arith
    by rest (library m) = omega arith
    by rest (expression i) = omega arith
    by rest (constraint c) = omega arith
    by rest (objective s i p) = omega arith
    by rest problem = omega arith
    by rest result = omega arith

-- the next value is a constraint or none
constraints_next : (vs : List code_value.Value) (i : ℕ) (v : code_value.Value) → i < length vs → v ≡ get_or vs i v →
    constraint_list (map meant (take (i + 1) vs)) ≡ constraint_list (map meant (take i vs)) ++ constraint_list (meant v ∷ [])
constraints_next vs i v lt is =
    ap (λ ws. constraint_list (map meant ws)) (take_more vs i v lt ∙ ap (λ w. take i vs ++ w ∷ []) (sym is))
    ∙ ap constraint_list (map-append meant (take i vs) (v ∷ []))
    ∙ filter_map-append as_constraint (map meant (take i vs)) (meant v ∷ [])

-- any other value than a constraint
no_constraint : (v : code_value.Value) → ((c : Constraint) → v ≡ values.Constraint c → ⊥) → constraint_list (meant v ∷ []) ≡ []
no_constraint (values.Plain a) h = refl
no_constraint (values.Text t) h = refl
no_constraint (values.Truth b) h = refl
no_constraint values.Nothing h = refl
no_constraint (values.Tuple ws) h = refl
no_constraint (values.List ws) h = refl
no_constraint (values.Range r) h = refl
no_constraint (values.Library m) h = refl
no_constraint (values.Expression i) h = refl
no_constraint (values.Constraint c) h = absurd (h c refl)
no_constraint (values.Objective o) h = refl
no_constraint values.Problem h = refl
no_constraint values.Result h = refl

-- a step over the values
pub with_constraint : (vs : List code_value.Value) (i : ℕ) (v : code_value.Value) (c : Constraint) (before after : List Constraint) → i < length vs → v ≡ get_or vs i v →
    before ≡ constraint_list (map meant (take i vs)) → v ≡ values.Constraint c → after ≡ before ++ c ∷ [] → after ≡ constraint_list (map meant (take (i + 1) vs))
with_constraint vs i v c before after lt at was is puts =
    puts
    ∙ ap (λ cs. cs ++ c ∷ []) was
    ∙ ap (λ w. constraint_list (map meant (take i vs)) ++ constraint_list (meant w ∷ [])) (sym is)
    ∙ sym (constraints_next vs i v lt at)

pub without_constraint : (vs : List code_value.Value) (i : ℕ) (v : code_value.Value) (before after : List Constraint) → i < length vs → v ≡ get_or vs i v →
    before ≡ constraint_list (map meant (take i vs)) → ((c : Constraint) → v ≡ values.Constraint c → ⊥) → after ≡ before → after ≡ constraint_list (map meant (take (i + 1) vs))
without_constraint vs i v before after lt at was none same =
    same
    ∙ was
    ∙ sym (append-nil (constraint_list (map meant (take i vs))))
    ∙ ap (λ cs. constraint_list (map meant (take i vs)) ++ cs) (sym (no_constraint v none))
    ∙ sym (constraints_next vs i v lt at)

-- few values have few constraints
pub few_constraints : (vs : List code_value.Value) (cs : List Constraint) → cs ≡ constraint_list (map meant vs) → length vs < 2 ^ 32 → length cs < 2 ^ 32
few_constraints vs cs is few =
    let a = length-constraints (map meant vs) in
    let b = length-map vs meant in
    let e = ap length is in
    omega (arith, a, b, e, few)
