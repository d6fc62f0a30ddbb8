-- The entries that a call makes of what stands for its arguments are its value there; those of an atom are beyond it where
-- its graph holds.
use Rattle.std.proofs.Common.{◌≡◌, ℕ, ◌<◌, IsTrue, if◌then◌else◌, List, [], ◌∷◌, map, Some, refl, sym, ap, ◌∙◌, subst, pos}
use Rattle.std.specs.Prelude.{nat_lt}
use Rattle.std.proofs.Math.Path.{fun_ext}
use Rattle.dcx_math.specs.Rational.{ℚ, whole, ◌+ℚ◌, ◌*ℚ◌, ◌/ℚ◌}
use Rattle.dcx_math.specs.Sums.{rat_sum_by}
use Rattle.dcx_shape.specs.declared.shape.Sides.{Sides}
use Rattle.dcx_shape.specs.Shape.{sides_of}
use Rattle.dcx_shape.specs.Sides.{entries_of}
use Rattle.dcx_atom.specs.declared.flags.Bend.{Bend}
use Rattle.dcx_atom.specs.Arrays as arrays
use Rattle.dcx_atom.specs.Arrays.{Entries}
use Rattle.dcx_atom.specs.Signs.{IsBeyond}
use Rattle.dcx_atom.specs.Rows.{Filling, form_at}
use Rattle.dcx_atom.specs.Laws.{GraphHolds}
use Rattle.dcx_call.specs.pairing.Pairing.TheVariants.{Times, MatTimes, Over}
use Rattle.dcx_call.specs.AffinePairing.{pairs_at}
use Rattle.dcx_convex.specs.Atoms.{atom_call}
use Rattle.dcx_convex.specs.Pairs.{Pair}
use Rattle.dcx_convex.specs.Nodes.{Numbers, Point, Setting, first_of, arguments, value_by}
use Rattle.dcx_convex.specs.Rules.{Rules, Judgement, is_constant, judgement_by}
use Rattle.dcx_convex.specs.Reductions.{StandsFor}
use Rattle.dcx_convex.proofs.Signs.{at_test}
use Rattle.dcx_atom.specs.Farthest.{beyond_refl}
use Rattle.dcx_convex.proofs.Convexity.{same_bend_is}
use Rattle.dcx_call.specs.declared.call.Call.{Call}
use Rattle.dcx_call.specs.declared.call.Call.TheVariants as calls
use Rattle.dcx_call.specs.Atoms.{atom_meaning, atom_lawful}
use Rattle.dcx_call.specs.Linears.{linear_meaning, linear_lawful}
use Rattle.dcx_call.specs.Calls.{shape_of}
use Rattle.dcx_call.proofs.CallLaws.{own_is}
use Rattle.dcx_tree.specs.Nodes.{Names, head_of}
use Rattle.dcx_unknowns.specs.Equations.{call_entry}
use Rattle.dcx_unknowns.proofs.Constants.{value_stands, call_constant, numbers_constant}

-- a call whose entries are no numbers by the rules and no results of a graph
abbrev pub IsDirect : Call → Type 0
IsDirect (calls.Variable v) = Unit {0}
IsDirect (calls.Parameter q) = Unit {0}
IsDirect (calls.Constant c) = ⊥
IsDirect (calls.Atom m) = ⊥
IsDirect (calls.Linear l) = Unit {0}
IsDirect (calls.Pairing q) = Unit {0}

-- the graph of an atom holds
abbrev pub CallHolds : Call → List Sides → ℕ → Entries → Filling → Type 0
CallHolds (calls.Variable v) args size a t = Unit {0}
CallHolds (calls.Parameter q) args size a t = Unit {0}
CallHolds (calls.Constant c) args size a t = Unit {0}
CallHolds (calls.Atom m) args size a t = GraphHolds (atom_meaning m) args size a t
CallHolds (calls.Linear l) args size a t = Unit {0}
CallHolds (calls.Pairing q) args size a t = Unit {0}

-- numbers that are the same below a size
pub first_same : (n : ℕ) (f g : Numbers) (j : ℕ) → (j < n → f j ≡ g j) → first_of n f j ≡ first_of n g j
first_same n f g j h = at_test n j (λ b. (if b then f j else whole (pos 0)) ≡ (if b then g j else whole (pos 0))) h refl

sum_mapped : {A B : Type 0} (f : B → ℚ) (g : A → B) (xs : List A) → rat_sum_by (λ x. f (g x)) xs ≡ rat_sum_by f (map g xs)
sum_mapped f g [] = refl
sum_mapped f g (x ∷ xs) = ap (λ u. f (g x) +ℚ u) (sum_mapped f g xs)

module _ (names : Names) (s : Setting) (x : Point) where
  -- of a direct call
  pub direct_value : (call : Call) → IsDirect call → (args : List Sides) (sides : Sides) (fs : List Numbers) (t : Filling) → shape_of call args ≡ Some sides → (j : ℕ) →
      first_of (entries_of sides) (call_entry names s x call args (arguments fs) t) j ≡ value_by s x (head_of names call args sides) fs j
  direct_value (calls.Variable v) d args sides fs t e j =
      ap (λ (r : Sides). first_of (entries_of r) (call_entry names s x (calls.Variable v) args (arguments fs) t) j) (sym (own_is (sides_of v.shape) args sides e))
  direct_value (calls.Parameter q) d args sides fs t e j =
      ap (λ (r : Sides). first_of (entries_of r) (call_entry names s x (calls.Parameter q) args (arguments fs) t) j) (sym (own_is (sides_of q.shape) args sides e))
  direct_value (calls.Constant c) d args sides fs t e j = absurd d
  direct_value (calls.Atom m) d args sides fs t e j = absurd d
  direct_value (calls.Linear l) d args sides fs t e j =
      first_same (entries_of sides) (call_entry names s x (calls.Linear l) args (arguments fs) t) ((linear_meaning l).value args (arguments fs)) j
      (λ b. sym ((linear_lawful l).linearity args sides e j b (arguments fs)))
  direct_value (calls.Pairing Times) d args sides fs t e j =
      let a = arguments fs in
      ap (λ (y : ℚ). if nat_lt j (entries_of sides) then y else whole (pos 0))
      (sum_mapped (λ (q : Pair). a 0 q.left *ℚ a 1 q.right) (λ q. record { left = q.left; right = q.right }) (pairs_at Times (arrays.sides_at args 0) (arrays.sides_at args 1) j))
  direct_value (calls.Pairing MatTimes) d args sides fs t e j =
      let a = arguments fs in
      ap (λ (y : ℚ). if nat_lt j (entries_of sides) then y else whole (pos 0))
      (sum_mapped (λ (q : Pair). a 0 q.left *ℚ a 1 q.right) (λ q. record { left = q.left; right = q.right }) (pairs_at MatTimes (arrays.sides_at args 0) (arrays.sides_at args 1) j))
  direct_value (calls.Pairing Over) d args sides fs t e j =
      let a = arguments fs in
      ap (λ (y : ℚ). if nat_lt j (entries_of sides) then y else whole (pos 0))
      (sum_mapped (λ (q : Pair). a 0 q.left /ℚ a 1 q.right) (λ q. record { left = q.left; right = q.right }) (pairs_at Over (arrays.sides_at args 0) (arrays.sides_at args 1) j))

  module _ (rules : Rules) (judged : List Judgement) (args : List Sides) (sides : Sides) (fs : List Numbers) (t : Filling) (v : Numbers) where
    direct_stands : (call : Call) → IsDirect call → shape_of call args ≡ Some sides → ((j : ℕ) → v j ≡ first_of (entries_of sides) (call_entry names s x call args (arguments fs) t) j) →
        StandsFor rules s x (head_of names call args sides) judged fs v
    direct_stands call d e is =
        value_stands rules s x (head_of names call args sides) judged fs v (fun_ext (λ j. is j ∙ direct_value call d args sides fs t e j))

    -- what a reduced call makes of what stands for its arguments stands for it
    pub entries_stand : (call : Call) → shape_of call args ≡ Some sides → ¬ IsTrue (is_constant rules (judgement_by rules (head_of names call args sides) judged)) →
        CallHolds call args (entries_of sides) (arguments fs) t → ((j : ℕ) → v j ≡ first_of (entries_of sides) (call_entry names s x call args (arguments fs) t) j) →
        StandsFor rules s x (head_of names call args sides) judged fs v
    entries_stand (calls.Variable q) e not holds is = direct_stands (calls.Variable q) tt e is
    entries_stand (calls.Parameter q) e not holds is = direct_stands (calls.Parameter q) tt e is
    entries_stand (calls.Constant c) e not holds is = absurd (not (numbers_constant rules _ judged))
    entries_stand (calls.Atom m) e not holds is = record {
      beyond = λ bend b j. subst (IsBeyond bend (value_by s x (head_of names (calls.Atom m) args sides) fs j)) (sym (is j)) (result_beyond bend (same_bend_is (atom_meaning m).bend bend b) j);
      same = λ all. absurd (not (call_constant rules (atom_call (atom_meaning m) args sides) judged all));
    }
      where
        result_beyond : (bend : Bend) → (atom_meaning m).bend ≡ bend → (j : ℕ) →
            IsBeyond bend (value_by s x (head_of names (calls.Atom m) args sides) fs j) (first_of (entries_of sides) (λ k. form_at ((atom_meaning m).result args k) t) j)
        result_beyond bend b j =
            at_test (entries_of sides) j
            (λ k. IsBeyond bend (if k then (atom_meaning m).value args (arguments fs) j else whole (pos 0)) (if k then form_at ((atom_meaning m).result args j) t else whole (pos 0)))
            (λ below. subst (λ w. IsBeyond w ((atom_meaning m).value args (arguments fs) j) (form_at ((atom_meaning m).result args j) t)) b
            ((atom_lawful m).soundness args sides e (arguments fs) t holds j below))
            (beyond_refl bend (whole (pos 0)))
    entries_stand (calls.Linear l) e not holds is = direct_stands (calls.Linear l) tt e is
    entries_stand (calls.Pairing q) e not holds is = direct_stands (calls.Pairing q) tt e is
