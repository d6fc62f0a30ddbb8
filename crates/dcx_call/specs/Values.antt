-- The value of each call over exact numbers of any size, and how it is formed in 128 bits.
use Rattle.std.specs.Prelude.{◌≡◌, ℕ, ◌<◌, List, [], map, Some, option_map, Result, Ok, IsOk}
use Rattle.std.specs.Option.{unwrap_or}
use Rattle.dcx_math.specs.Rational.{ℚ, ◌*ℚ◌, ◌/ℚ◌}
use Rattle.dcx_math.specs.Sums.{rat_sum_by}
use Rattle.dcx_frac.specs.declared.fraction.Frac.{Frac}
use Rattle.dcx_shape.specs.declared.shape.Sides.{Sides}
use Rattle.dcx_shape.specs.Shape.{sides_of}
use Rattle.dcx_shape.specs.Sides.{entries_of}
use Rattle.dcx_atom.specs.declared.array.Array.{Array}
use Rattle.dcx_atom.specs.declared.stops.ValueStop.{ValueStop}
use Rattle.dcx_atom.specs.Arrays.{Entries, number_at, numbers_of, array_sides, sides_at}
use Rattle.dcx_atom.specs.Formed.{frac_at, sum_in_order}
use Rattle.dcx_atom.specs.Linear.{LinearTerm}
use Rattle.dcx_affine.specs.declared.pairing.Pairing.{Pairing}
use Rattle.dcx_affine.specs.declared.pairing.Pairing.TheVariants.{Times, MatTimes, Over}
use Rattle.dcx_affine.specs.declared.pairing.Pair.{Pair}
use Rattle.dcx_affine.specs.Pairing.{pairs_at}
use Rattle.dcx_point.specs.Pairs.{Pairs, array_of}
use Rattle.dcx_call.specs.declared.call.Call.{Call}
use Rattle.dcx_call.specs.declared.call.Call.TheVariants as calls
use Rattle.dcx_call.specs.Atoms.{atom_meaning}
use Rattle.dcx_call.specs.Linears.{linear_meaning}
use Rattle.dcx_call.specs.Calls.{shape_of}
use Rattle.dcx_call.specs.Forming.{products_in_order, or_passes, divided, IsStop}

-- a number for each entry of each name, as a point or a setting gives them
abbrev pub Given : Type 0
Given = List ℕ → ℕ → ℚ

-- the numbers of these pairs, and 0 beyond them
abbrev pub given_by : Pairs → Given
given_by pairs name j = number_at (unwrap_or (option_map (λ x. x.entries) (array_of pairs name)) []) j

-- the sum of the products, or of the quotients, of these pairs; a quotient by 0 is 0
abbrev pub pairing_value : Pairing → List Pair → (left right : ℕ → ℚ) → ℚ
pairing_value Times pairs left right = rat_sum_by (λ p. left p.left *ℚ right p.right) pairs
pairing_value MatTimes pairs left right = rat_sum_by (λ p. left p.left *ℚ right p.right) pairs
pairing_value Over pairs left right = rat_sum_by (λ p. left p.left /ℚ right p.right) pairs

-- entry j of the value at arguments of these sides, where the setting and the point give the numbers of names
abbrev pub call_value : Call → (setting point : Given) → List Sides → Entries → ℕ → ℚ
call_value (calls.Variable v) setting point args a j = point v.name j
call_value (calls.Parameter p) setting point args a j = setting p.name j
call_value (calls.Constant x) setting point args a j = number_at x.entries j
call_value (calls.Atom m) setting point args a j = (atom_meaning m).value args a j
call_value (calls.Linear l) setting point args a j = (linear_meaning l).value args a j
call_value (calls.Pairing p) setting point args a j = pairing_value p (pairs_at p (sides_at args 0) (sides_at args 1) j) (a 0) (a 1)

-- entry j as the sum of terms, each coefficient times its entry, in order
abbrev pub term_sum : List LinearTerm → Entries → ℕ → Result Frac ValueStop
term_sum terms a j = or_passes j (products_in_order (map (λ t. (t.coefficient, a t.argument t.entry)) terms))

-- entry j as the sum of the products of pairs, in order
abbrev pub pair_sum : List Pair → (left right : ℕ → ℚ) → ℕ → Result Frac ValueStop
pair_sum pairs left right j = or_passes j (products_in_order (map (λ p. (left p.left, right p.right)) pairs))

-- entry j of a product or a quotient, as it is formed
abbrev pub pairing_formed : Pairing → List Pair → (left right : ℕ → ℚ) → ℕ → Result Frac ValueStop
pairing_formed Times pairs left right j = pair_sum pairs left right j
pairing_formed MatTimes pairs left right j = pair_sum pairs left right j
pairing_formed Over pairs left right j = divided j (left j) (right j)

-- entry j of the value, as it is formed
abbrev pub entry_formed : Call → (setting point : Given) → List Sides → Entries → ℕ → Result Frac ValueStop
entry_formed (calls.Variable v) setting point args a j = Ok (frac_at (point v.name j))
entry_formed (calls.Parameter p) setting point args a j = Ok (frac_at (setting p.name j))
entry_formed (calls.Constant x) setting point args a j = Ok (frac_at (number_at x.entries j))
entry_formed (calls.Atom m) setting point args a j = or_passes j (sum_in_order ((atom_meaning m).summands args a j))
entry_formed (calls.Linear l) setting point args a j = term_sum ((linear_meaning l).terms args j) a j
entry_formed (calls.Pairing p) setting point args a j =
    pairing_formed p (pairs_at p (sides_at args 0) (sides_at args 1) j) (a 0) (a 1) j

-- the point, or the setting, has an array of these sides for the name
pub record HasArray (pairs : Pairs) (name : List ℕ) (sides : Sides) : Type 0 where
  pub array : Array
  pub there : array_of pairs name ≡ Some array
  pub shape : sides_of array.shape ≡ sides

-- what the call takes from the setting or the point is there
abbrev pub IsGiven : Call → (setting point : Pairs) → Type 0
IsGiven (calls.Variable v) setting point = HasArray point v.name (sides_of v.shape)
IsGiven (calls.Parameter p) setting point = HasArray setting p.name (sides_of p.shape)
IsGiven (calls.Constant x) setting point = Unit {0}
IsGiven (calls.Atom m) setting point = Unit {0}
IsGiven (calls.Linear l) setting point = Unit {0}
IsGiven (calls.Pairing p) setting point = Unit {0}

-- entry j of the value at these arrays
abbrev pub value_at : Call → (setting point : Pairs) → List Array → ℕ → ℚ
value_at call setting point args j = call_value call (given_by setting) (given_by point) (array_sides args) (numbers_of args) j

-- the same as it is formed
abbrev pub formed_at : Call → (setting point : Pairs) → List Array → ℕ → Result Frac ValueStop
formed_at call setting point args j = entry_formed call (given_by setting) (given_by point) (array_sides args) (numbers_of args) j

-- the array is the value at these arguments, and nothing stops on the way
pub record IsValue (call : Call) (setting point : Pairs) (args : List Array) (v : Array) : Type 0 where
  pub shape : shape_of call (array_sides args) ≡ Some (sides_of v.shape)
  pub numbers : (j : ℕ) → j < entries_of (sides_of v.shape) → number_at v.entries j ≡ value_at call setting point args j
  pub forms : (j : ℕ) → j < entries_of (sides_of v.shape) → IsOk (formed_at call setting point args j)

-- why the value at these arguments isn't formed
abbrev pub IsValueStop : Call → (setting point : Pairs) → List Array → ℕ → ValueStop → Type 0
IsValueStop call setting point args size stop = IsStop (formed_at call setting point args) size stop
