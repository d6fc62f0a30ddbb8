-- The unknowns of a program at a point of the domain and at unknowns of the graphs: the forms there are a family.
use Rattle.std.proofs.Common.{◌≡◌, ℕ, zero, suc, ◌-◌, ◌<◌, arith, Bool, true, false, IsTrue, List, [], ◌∷◌, length, map, All, Option, Some, None, slice_get, refl, sym, ap, ◌∙◌, subst}
use Rattle.std.specs.List.{list_all}
use Rattle.std.proofs.Math.Path.{fun_ext}
use Rattle.std.proofs.lemmas.Bool.{and_parts, false≢true}
use Rattle.std.proofs.lemmas.List.{length-map}
use Rattle.std.proofs.lemmas.List.Elements.{All-cons, All-nil}
use Rattle.std.proofs.lemmas.Option.{none-some, slice_get_within}
use Rattle.dcx_shape.specs.declared.shape.Sides.{Sides}
use Rattle.dcx_shape.specs.Shape.{sides_of}
use Rattle.dcx_shape.specs.Sides.{entries_of}
use Rattle.dcx_atom.specs.declared.array.Array.{Array}
use Rattle.dcx_atom.specs.declared.graph.AuxKind.{AuxKind}
use Rattle.dcx_atom.specs.Rows.{Filling, KindsHold}
use Rattle.dcx_atom.specs.Bounding.{free_kinds}
use Rattle.dcx_point.specs.Pairs.{Pairs}
use Rattle.dcx_arena.specs.Nodes.{IsNode, sides_at}
use Rattle.dcx_convex.specs.Nodes as convex
use Rattle.dcx_convex.specs.Nodes.{Numbers, Point, Setting, first_of, arguments}
use Rattle.dcx_convex.specs.Rules.{Rules, Plain, Judgement, is_constant, judgement_by, judgement_at}
use Rattle.dcx_convex.specs.Certificates.{is_fixed}
use Rattle.dcx_convex.specs.Reductions.{Unknowns}
use Rattle.dcx_convex.proofs.Told.{map-same, value_tells, judgement_tells}
use Rattle.dcx_call.specs.declared.call.Call.{Call}
use Rattle.dcx_call.specs.declared.call.Call.TheVariants as calls
use Rattle.dcx_call.specs.Atoms.{atom_meaning, atom_lawful}
use Rattle.dcx_call.specs.Calls.{shape_of}
use Rattle.dcx_call.proofs.CallLaws.{own_is}
use Rattle.dcx_tree.specs.declared.problem.Problem.{Problem}
use Rattle.dcx_tree.specs.Nodes.{Node, arg_sides, convex_node, head_of}
use Rattle.dcx_tree.specs.Meaning.{names_in, IsInDomain, setting_of}
use Rattle.dcx_tree.specs.Values.{array_at}
use Rattle.dcx_tree.proofs.AllReached.{convex_at}
use Rattle.dcx_linear.specs.Rows.{AreOfKinds}
use Rattle.dcx_unknowns.specs.Unknowns.{point_at}
use Rattle.dcx_unknowns.specs.Layout.{is_reduced, call_aux, aux_if, aux_at, unknown_kinds}
use Rattle.dcx_unknowns.specs.Equations.{Forms, call_entry, args_of, filling_of, AllStand}
use Rattle.dcx_atom.proofs.OwnTerms.{Agree, form_same}
use Rattle.dcx_unknowns.proofs.CallGraphs.{call_filling, filled_kinds, filled_value}
use Rattle.dcx_unknowns.proofs.CallEntries.{first_same}
use Rattle.dcx_unknowns.proofs.Lift.{filling_if, lift, lift_filling}
use Rattle.dcx_unknowns.proofs.Lifted.{lifted_kinds, lifted_point}
use Rattle.dcx_unknowns.proofs.Variables.{AreSameAt, node_same, same_value}
use Rattle.dcx_unknowns.proofs.NodeForms.{nodes_of, nodes_ordered, node_at, reducible, constant_form, reduced_form, not_reduced}
use Rattle.dcx_unknowns.proofs.Sound.{aux_is}
use Rattle.dcx_affine.specs.declared.pairing.Pairing.TheVariants.{Times, MatTimes, Over}
use Rattle.dcx_cert_build.proofs.Fixed.{unfixed_is_reduced}
use Rattle.dcx_cert_bound.specs.Fixed.{AreFixedValues}
use Rattle.dcx_cert_bound.proofs.OneTable.{value_of_fixed}
use Rattle.dcx_cert_bound.proofs.Reaching.{no_sides}
use Rattle.dcx_cert_complete.specs.Families.{IsFamily, AreFilled}

-- ---- nodes that reach no variable have no arguments that do
all_fixed : (J : ℕ → Judgement) (args : List ℕ) → IsTrue (list_all (λ (g : Judgement). g.fixed) (map J args)) → All (λ a. IsTrue (J a).fixed) args
all_fixed J [] t = All-nil (λ a. IsTrue (J a).fixed)
all_fixed J (a ∷ args) t =
    let both = and_parts (J a).fixed (list_all (λ (g : Judgement). g.fixed) (map J args)) t in
    All-cons (λ a. IsTrue (J a).fixed) a args both.0 (all_fixed J args both.1)

module _ (p : Problem) where
  call_fixed : (call : Call) (args : List ℕ) (sides : Sides) → shape_of call (map (sides_at p.tree) args) ≡ Some sides →
      IsTrue (judgement_by Plain (head_of (names_in p) call (map (sides_at p.tree) args) sides) (map (judgement_at Plain (nodes_of p)) args)).fixed
      → All (λ a. IsTrue (judgement_at Plain (nodes_of p) a).fixed) args
  call_fixed (calls.Variable v) args sides e t = absurd (false≢true t)
  call_fixed (calls.Parameter q) args sides e t = λ k d b. let none = no_sides (sides_of q.shape) (map (sides_at p.tree) args) sides e in absurd
      (omega (arith, none, length-map args (sides_at p.tree), b))
  call_fixed (calls.Constant c) args sides e t = λ k d b. let none = no_sides (sides_of c.shape) (map (sides_at p.tree) args) sides e in absurd
      (omega (arith, none, length-map args (sides_at p.tree), b))
  call_fixed (calls.Atom m) args sides e t = all_fixed (judgement_at Plain (nodes_of p)) args t
  call_fixed (calls.Linear l) args sides e t = all_fixed (judgement_at Plain (nodes_of p)) args t
  call_fixed (calls.Pairing Times) args sides e t = all_fixed (judgement_at Plain (nodes_of p)) args t
  call_fixed (calls.Pairing MatTimes) args sides e t = all_fixed (judgement_at Plain (nodes_of p)) args t
  call_fixed (calls.Pairing Over) args sides e t = all_fixed (judgement_at Plain (nodes_of p)) args t

  args_fixed : (i : ℕ) (n : Node) → IsNode p.tree i n → IsTrue (is_fixed (nodes_of p) i) → All (λ a. IsTrue (judgement_at Plain (nodes_of p) a).fixed) n.args
  args_fixed i n at t =
      call_fixed n.call n.args n.sides (p.nodes.shaped i n at)
      (subst (λ (g : Judgement). IsTrue g.fixed) (judgement_tells Plain (nodes_of p) (nodes_ordered p) i (convex_node (names_in p) p.tree n) (convex_at p i n at)) t)

-- ---- the forms are a family
module _ (rules : Rules) (p : Problem) (setting : Pairs) (values : List (Option Array)) (fixed : AreFixedValues p setting values) (forms : Forms) (all : AllStand rules p (setting_of p setting) forms)
    (x : Point) (dom : IsInDomain p x) (t : ℕ → Filling) (filled : AreFilled p.tree values t) where
  abbrev s : Setting
  s = setting_of p setting

  abbrev value : ℕ → Numbers
  value = convex.value_at (nodes_of p) s x

  -- of a node whose value is known the filling at it, and else what is given
  abbrev filling_by : Option Array → ℕ → Filling
  filling_by (Some y) i = filling_if p.tree value (slice_get p.tree i)
  filling_by None i = t i

  abbrev F : ℕ → Filling
  F i = filling_by (array_at values i) i

  abbrev pub u : Unknowns
  u = lift rules p x F

  node_kinds : (i : ℕ) → KindsHold (aux_at rules p i) (F i)
  node_kinds i = by (is_reduced rules p i) (slice_get p.tree i) refl (array_at values i) refl
    where
      unknown_kinds_of : (n : Node) → IsNode p.tree i n → array_at values i ≡ None → (call : Call) → n.call ≡ call → KindsHold (call_aux p.tree n call) (t i)
      unknown_kinds_of n at none (calls.Variable v) e = λ k z. absurd (free_kinds 0 k z)
      unknown_kinds_of n at none (calls.Parameter q) e = λ k z. absurd (free_kinds 0 k z)
      unknown_kinds_of n at none (calls.Constant c) e = λ k z. absurd (free_kinds 0 k z)
      unknown_kinds_of n at none (calls.Atom m) e = filled i n at none m e
      unknown_kinds_of n at none (calls.Linear l) e = λ k z. absurd (free_kinds 0 k z)
      unknown_kinds_of n at none (calls.Pairing q) e = λ k z. absurd (free_kinds 0 k z)

      by : (b : Bool) (o : Option Node) → slice_get p.tree i ≡ o → (v : Option Array) → array_at values i ≡ v → KindsHold (aux_if p.tree b o) (filling_by v i)
      by b None e v is = λ k z. absurd (free_kinds 0 k z)
      by false (Some n) e v is = λ k z. absurd (free_kinds 0 k z)
      by true (Some n) e None is = unknown_kinds_of n e is n.call refl
      by true (Some n) e (Some y) is =
          subst (λ o. KindsHold (call_aux p.tree n n.call) (filling_if p.tree value o)) (sym e) (filled_kinds p.tree n (arguments (map value n.args)) n.call (p.nodes.shaped i n e))

  pub of_kinds : AreOfKinds (unknown_kinds rules p) u
  of_kinds = lifted_kinds rules p x F dom node_kinds

  -- the unknowns of a node that is reduced are its filling
  pub own_filling : (i : ℕ) (n : Node) → IsNode p.tree i n → is_reduced rules p i ≡ true → Agree (length (call_aux p.tree n n.call)) (F i) (filling_of rules p i u)
  own_filling i n at reduced k b =
      let within : k < length (aux_at rules p i) = let l = ap (λ (ks : List AuxKind). length ks) (aux_is rules p s forms u i n at reduced) in omega (arith, l, b) in
      sym (lift_filling rules p x F i k (slice_get_within p.tree i n at) within)

  -- ---- nodes whose values are known
  pub filling_known : (i : ℕ) (n : Node) → IsNode p.tree i n → (y : Array) → array_at values i ≡ Some y → F i ≡ call_filling n.call (arg_sides p.tree n) (arguments (map value n.args))
  filling_known i n at y is = ap (λ v. filling_by v i) is ∙ ap (filling_if p.tree value) at

  value_there : (i : ℕ) → i < length p.tree → IsTrue (is_fixed (nodes_of p) i) → (y : Array) × (array_at values i ≡ Some y)
  value_there i b h = let v = fixed.fixed i b h in (v.array, v.there)

  known_step : (i : ℕ) (n : Node) → IsNode p.tree i n → is_reduced rules p i ≡ true → (y : Array) → array_at values i ≡ Some y → map (forms u) n.args ≡ map value n.args → (j : ℕ)
      → forms u i j ≡ value i j
  known_step i n at reduced y is args j =
      let names = names_in p in
      let z = point_at p.variables u in
      let shaped = p.nodes.shaped i n at in
      let agree = subst (λ (f : Filling). Agree (length (call_aux p.tree n n.call)) f (filling_of rules p i u)) (filling_known i n at y is) (own_filling i n at reduced) in
      reduced_form p rules s forms all i n at reduced u j
      ∙ ap (λ (fs : List Numbers). first_of (entries_of n.sides) (call_entry names s z n.call (arg_sides p.tree n) (arguments fs) (filling_of rules p i u)) j) args
      ∙ filled_value p.tree n names s z n.call (reducible p rules i n at reduced) (map value n.args) (filling_of rules p i u) shaped agree j
      ∙ same_value p z x s n.call (node_same p z x (lifted_point rules p x F dom) i n at) (arg_sides p.tree n) n.sides (map value n.args) j
      ∙ sym (ap (λ (f : Numbers). f j) (value_tells (nodes_of p) (nodes_ordered p) s x i (convex_node names p.tree n) (convex_at p i n at)))

  known_below : (m i : ℕ) → i < m → i < length p.tree → IsTrue (is_fixed (nodes_of p) i) → forms u i ≡ value i
  known_below zero i b c h = absurd (omega arith)
  known_below (suc m) i b c h = by (is_reduced rules p i) refl (λ a l k f. known_below m a l k f)
    where
      by : (r : Bool) → is_reduced rules p i ≡ r → ((a : ℕ) → a < m → a < length p.tree → IsTrue (is_fixed (nodes_of p) a) → forms u a ≡ value a) → forms u i ≡ value i
      by true e earlier =
          let (n, at) = node_at p i c in
          let (y, is) = value_there i c h in
          let below = p.nodes.earlier i n at in
          let free = args_fixed p i n at h in
          fun_ext (known_step i n at e y is
          (map-same (λ a. (a < i) × IsTrue (is_fixed (nodes_of p) a)) (forms u) value (λ a both. earlier a (omega (arith, both.0, b)) (omega (arith, both.0, c)) both.1) n.args
          (λ k d l. (below k d l, free k d l))))
      by false e earlier = constant_form p rules s forms all u x i c (not_reduced (is_constant rules (judgement_at rules (nodes_of p) i)) e)

  pub known_same : (i : ℕ) → i < length p.tree → (y : Array) → array_at values i ≡ Some y → forms u i ≡ value i
  known_same i b y is = known_below (suc i) i (omega arith) b (value_of_fixed p setting values fixed i y is).0

  -- and so its arguments have their values
  pub known_args : (i : ℕ) (n : Node) → IsNode p.tree i n → (y : Array) → array_at values i ≡ Some y → map (forms u) n.args ≡ map value n.args
  known_args i n at y is =
      let c = slice_get_within p.tree i n at in
      let below = p.nodes.earlier i n at in
      let free = args_fixed p i n at (value_of_fixed p setting values fixed i y is).0 in
      map-same (λ a. (a < i) × IsTrue (is_fixed (nodes_of p) a)) (forms u) value (λ a both. known_below (suc a) a (omega arith) (omega (arith, both.0, c)) both.1) n.args
      (λ k d l. (below k d l, free k d l))

  -- ---- the others
  -- they are reduced
  pub others_reduced : (i : ℕ) → i < length p.tree → array_at values i ≡ None → is_reduced rules p i ≡ true
  others_reduced i b none = by (is_fixed (nodes_of p) i) refl
    where
      by : (r : Bool) → is_fixed (nodes_of p) i ≡ r → is_reduced rules p i ≡ true
      by true e = let (y, is) = value_there i b e in absurd (none-some y (sym none ∙ is))
      by false e = unfixed_is_reduced rules p i e

  entry_same : (i : ℕ) (n : Node) → IsNode p.tree i n → array_at values i ≡ None → (call : Call) → n.call ≡ call → shape_of call (arg_sides p.tree n) ≡ Some n.sides
      → AreSameAt p (point_at p.variables u) x call →
      Agree (length (call_aux p.tree n call)) (t i) (filling_of rules p i u) → (a : ℕ → Numbers) (j : ℕ) → j < entries_of n.sides →
      call_entry (names_in p) s (point_at p.variables u) call (arg_sides p.tree n) a (filling_of rules p i u) j ≡ call_entry (names_in p) s x call (arg_sides p.tree n) a (t i) j
  entry_same i n at none (calls.Variable v) e shape same agree a j b = same j (subst (λ (r : Sides). j < entries_of r) (sym (own_is (sides_of v.shape) (arg_sides p.tree n) n.sides shape)) b)
  entry_same i n at none (calls.Parameter q) e shape same agree a j b = refl
  entry_same i n at none (calls.Constant c) e shape same agree a j b = refl
  entry_same i n at none (calls.Atom m) e shape same agree a j b =
      sym (form_same (length ((atom_meaning m).kinds (arg_sides p.tree n))) ((atom_meaning m).result (arg_sides p.tree n) j) (t i) (filling_of rules p i u)
      (((atom_lawful m).own_unknowns (arg_sides p.tree n) n.sides shape).results j b) agree)
  entry_same i n at none (calls.Linear l) e shape same agree a j b = refl
  entry_same i n at none (calls.Pairing q) e shape same agree a j b = refl

  pub unknown_filling : (i : ℕ) (n : Node) → IsNode p.tree i n → array_at values i ≡ None → Agree (length (call_aux p.tree n n.call)) (t i) (filling_of rules p i u)
  unknown_filling i n at none =
      subst (λ (f : Filling). Agree (length (call_aux p.tree n n.call)) f (filling_of rules p i u)) (ap (λ v. filling_by v i) none)
      (own_filling i n at (others_reduced i (slice_get_within p.tree i n at) none))

  pub family : IsFamily (names_in p) p.tree s values x t (forms u)
  family = record {
    known = λ i b y is j. ap (λ (f : Numbers). f j) (known_same i b y is);
    others = λ i n at none j.
        reduced_form p rules s forms all i n at (others_reduced i (slice_get_within p.tree i n at) none) u j
        ∙ first_same (entries_of n.sides) (call_entry (names_in p) s (point_at p.variables u) n.call (arg_sides p.tree n) (args_of rules p s forms n u) (filling_of rules p i u))
        (call_entry (names_in p) s x n.call (arg_sides p.tree n) (args_of rules p s forms n u) (t i)) j
        (λ b. entry_same i n at none n.call refl (p.nodes.shaped i n at) (node_same p (point_at p.variables u) x (lifted_point rules p x F dom) i n at)
        (unknown_filling i n at none) (args_of rules p s forms n u) j b);
  }
