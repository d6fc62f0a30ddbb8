-- The laws of all calls, by their shapes, signs and trends.
use Rattle.std.specs.Prelude.{◌≡◌, ◌≢◌, ℕ, ◌<◌, List, Some, length}
use Rattle.dcx_shape.specs.declared.shape.Sides.{Sides}
use Rattle.dcx_shape.specs.Shape.{sides_of}
use Rattle.dcx_shape.specs.Sides.{entries_of}
use Rattle.dcx_atom.specs.declared.flags.Sign.{Sign}
use Rattle.dcx_atom.specs.declared.flags.Bend.{Bend}
use Rattle.dcx_atom.specs.Arrays.{Entries}
use Rattle.dcx_atom.specs.Signs.{HasSign, HaveSigns, Follows, IsBeyond}
use Rattle.dcx_call.specs.declared.call.Call.{Call}
use Rattle.dcx_call.specs.declared.call.Call.TheVariants as calls
use Rattle.dcx_call.specs.Attributes.{IsWithin, IsInDomain}
use Rattle.dcx_call.specs.Atoms.{atom_meaning}
use Rattle.dcx_call.specs.Calls.{shape_of, sign_of, trend_of}
use Rattle.dcx_call.specs.Values.{Given, call_value}

-- what the call takes from the setting or the point is within its attribute
abbrev pub IsTakenWithin : Call → (setting point : Given) → Type 0
IsTakenWithin (calls.Variable v) setting point = IsInDomain v (point v.name)
IsTakenWithin (calls.Parameter p) setting point = IsWithin p.attribute (sides_of p.shape) (setting p.name)
IsTakenWithin (calls.Constant x) setting point = Unit {0}
IsTakenWithin (calls.Atom m) setting point = Unit {0}
IsTakenWithin (calls.Linear l) setting point = Unit {0}
IsTakenWithin (calls.Pairing p) setting point = Unit {0}

-- the ways in which a call may be read: an atom in its own, and all others in both
abbrev pub MayBend : Call → Bend → Type 0
MayBend (calls.Variable v) bend = Unit {0}
MayBend (calls.Parameter p) bend = Unit {0}
MayBend (calls.Constant x) bend = Unit {0}
MayBend (calls.Atom m) bend = (atom_meaning m).bend ≡ bend
MayBend (calls.Linear l) bend = Unit {0}
MayBend (calls.Pairing p) bend = Unit {0}

-- each entry of the value has the sign that is told
abbrev pub KeepsSign : Call → Type 0
KeepsSign call = (setting point : Given) (args : List Sides) (sides : Sides) → shape_of call args ≡ Some sides → IsTakenWithin call setting point →
    (signs : List Sign) (a : Entries) → length signs ≡ length args → HaveSigns signs a →
    (j : ℕ) → j < entries_of sides → HasSign (sign_of call signs) (call_value call setting point args a j)

-- where `a` has the signs, and b differs from it in argument i alone, and has gone there as the trend allows, the value at b is beyond that at a
abbrev pub KeepsTrend : Call → Type 0
KeepsTrend call = (setting point : Given) (args : List Sides) (sides : Sides) → shape_of call args ≡ Some sides → (bend : Bend) → MayBend call bend →
    (signs : List Sign) (a b : Entries) → HaveSigns signs a → (i : ℕ) → ((k e : ℕ) → k ≢ i → a k e ≡ b k e) →
    ((e : ℕ) → Follows bend (trend_of call signs i) (a i e) (b i e)) →
    (j : ℕ) → j < entries_of sides → IsBeyond bend (call_value call setting point args a j) (call_value call setting point args b j)

pub record HoldsForCalls : Type 0 where
  pub sign : (call : Call) → KeepsSign call
  pub trend : (call : Call) → KeepsTrend call
