-- Forming values of nodes in 128 bits: which node stops first, and the checks that form values.
use Rattle.std.specs.Prelude.{◌≡◌, ◌≢◌, ℕ, true, List, [], ◌∷◌, length, Option, Some, None, slice_get, pos}
use Rattle.std.specs.List.{All}
use Rattle.dcx_math.specs.Rational.{ℚ, whole}
use Rattle.dcx_shape.specs.Shape.{sides_of}
use Rattle.dcx_shape.specs.Sides.{entries_of}
use Rattle.dcx_atom.specs.declared.stops.ValueStop.{ValueStop}
use Rattle.dcx_atom.specs.declared.stops.ValueStop.TheVariants as value_stops
use Rattle.dcx_affine.specs.declared.pairing.Pairing.TheVariants.{Times, MatTimes, Over}
use Rattle.dcx_point.specs.Pairs.{Pairs}
use Rattle.dcx_arena.specs.Nodes.{IsNode, call_at, args_at, sides_at}
use Rattle.dcx_arena.specs.Unfold.{IsReached}
use Rattle.dcx_call.specs.declared.call.Call.{Call}
use Rattle.dcx_call.specs.declared.call.Call.TheVariants as calls
use Rattle.dcx_call.specs.Forming.{IsFirst}
use Rattle.dcx_call.specs.Values.{HasArray}
use Rattle.dcx_tree.specs.declared.problem.Problem.{Problem}
use Rattle.dcx_tree.specs.Nodes.{Node, source_value}
use Rattle.dcx_tree.specs.Meaning.{names_in}
use Rattle.dcx_tree.specs.Values.{node_formed, IsFormed}
use Rattle.dcx_answer.specs.declared.stop.Stop.TheVariants as stops
use Rattle.dcx_answer.specs.declared.cert_fault.CertFault.{CertFault}
use Rattle.dcx_answer.specs.declared.cert_fault.CertFault.TheVariants.{Fit, Wide, Memory}
use Rattle.dcx_right.specs.Fixed.{is_fixed}
use Rattle.dcx_cert_sections.specs.Checks.{Check, nothing, in_turn, each_below}

-- ---- what setting and point give
-- the setting gives each parameter an array of its shape
abbrev pub GivesParameters : Problem → Pairs → Type 0
GivesParameters p setting = All (λ q. HasArray setting q.name (sides_of q.shape)) p.parameters

-- the point gives each variable an array of its shape
abbrev pub GivesVariables : Problem → Pairs → Type 0
GivesVariables p point = All (λ v. HasArray point v.name (sides_of v.shape)) p.variables

-- ---- one node
-- each entry of node i is formed
abbrev pub IsFormedAt : Problem → (setting point : Pairs) → ℕ → Type 0
IsFormedAt p setting point i = (n : Node) → IsNode p.tree i n → IsFormed p.tree (names_in p) setting point n

-- the fault that tells why node i isn't formed
abbrev pub fault_of : ℕ → ValueStop → CertFault
fault_of i (value_stops.Passes entry passes) = Wide passes
fault_of i (value_stops.ZeroDivisor entry) = Fit (stops.ZeroDivisor (record { 0 = i }) entry)
fault_of i value_stops.Memory = Memory

-- node i isn't formed, and the fault tells its first entry that isn't
pub record IsUnformedAt (p : Problem) (setting point : Pairs) (i : ℕ) (f : CertFault) : Type 0 where
  pub node : Node
  pub there : IsNode p.tree i node
  pub stop : ValueStop
  pub here : IsFirst (node_formed p.tree (names_in p) setting point node) (entries_of node.sides) stop
  pub told : f ≡ fault_of i stop

-- node i is formed, if Q holds of it
abbrev pub forming_at : Problem → (setting point : Pairs) → (ℕ → Type 0) → ℕ → Check
forming_at p setting point Q i = record {
  passes = Q i → IsFormedAt p setting point i;
  fails = λ f. Q i × IsUnformedAt p setting point i f;
}

-- ---- nodes in rising order
-- the nodes of which Q holds are formed, one after the other
abbrev pub forming_where : Problem → (setting point : Pairs) → (ℕ → Type 0) → Check
forming_where p setting point Q = each_below (length p.tree) (forming_at p setting point Q)

-- the nodes that these roots reach are formed
abbrev pub forming : Problem → (setting point : Pairs) → List ℕ → Check
forming p setting point roots = forming_where p setting point (IsReached p.tree roots)

-- node i reaches no variable
abbrev pub IsFixedNode : Problem → ℕ → Type 0
IsFixedNode p i = is_fixed p i ≡ true

-- the nodes that reach no variable are formed: they need no point
abbrev pub forming_fixed : Problem → Pairs → Check
forming_fixed p setting = forming_where p setting [] (IsFixedNode p)

-- ---- divisors
-- the second argument of a quotient
abbrev pub divisor_if : Option Call → Option ℕ → Option ℕ
divisor_if None o = None
divisor_if (Some (calls.Variable v)) o = None
divisor_if (Some (calls.Parameter q)) o = None
divisor_if (Some (calls.Constant x)) o = None
divisor_if (Some (calls.Atom m)) o = None
divisor_if (Some (calls.Linear l)) o = None
divisor_if (Some (calls.Pairing Times)) o = None
divisor_if (Some (calls.Pairing MatTimes)) o = None
divisor_if (Some (calls.Pairing Over)) o = o

-- the divisor of node i, where node i is a quotient
abbrev pub divisor_in : List Node → ℕ → Option ℕ
divisor_in nodes i = divisor_if (call_at nodes i) (slice_get (args_at nodes i) 1)

-- the divisor of some quotient reaches node i
pub record IsBelowDivisor (p : Problem) (i : ℕ) : Type 0 where
  pub quotient : ℕ
  pub divisor : ℕ
  pub is_divisor : divisor_in p.tree quotient ≡ Some divisor
  pub reached : IsReached p.tree (divisor ∷ []) i

-- number j of a divisor isn't 0; the fault tells the node i of the quotient
abbrev pub nonzero : ℕ → (ℕ → ℚ) → ℕ → Check
nonzero i numbers j = record {
  passes = numbers j ≢ whole (pos 0);
  fails = λ f. (numbers j ≡ whole (pos 0)) × (f ≡ Fit (stops.ZeroDivisor (record { 0 = i }) j));
}

-- no entry of the divisor of node i is 0. A divisor reaches no variable, so that its value needs no point
abbrev pub dividing_if : Problem → Pairs → ℕ → Option ℕ → Check
dividing_if p setting i None = nothing
dividing_if p setting i (Some d) = each_below (entries_of (sides_at p.tree i)) (nonzero i (source_value p.tree (names_in p) setting [] d))

abbrev pub dividing_at : Problem → Pairs → ℕ → Check
dividing_at p setting i = dividing_if p setting i (divisor_in p.tree i)

-- node i is formed, if a divisor reaches it, and if it is a quotient its divisor has no entry 0
abbrev pub divisor_step : Problem → Pairs → ℕ → Check
divisor_step p setting i = in_turn (forming_at p setting [] (IsBelowDivisor p) i) (dividing_at p setting i)

-- node by node, in rising order
abbrev pub divisors : Problem → Pairs → Check
divisors p setting = each_below (length p.tree) (divisor_step p setting)
