-- The pass from the last node down: what is collected at a node is handed on to its arguments, kept where it is a variable, and
-- counted with the value where the node reaches no variable.
use Rattle.std.specs.Prelude.{◌≡◌, ◌⊎◌, ℕ, zero, suc, List, [], ◌∷◌, ◌++◌, ◌<◌, map, length, take, drop, is_some, Option, Some, None, Result, Ok, Err, slice_index}
use Rattle.dcx_frac.specs.declared.fraction.Frac.{Frac}
use Rattle.dcx_frac.specs.declared.fraction.Passes.{Passes}
use Rattle.dcx_atom.specs.declared.array.Array.{Array}
use Rattle.dcx_atom.specs.Arrays.{list_below, sides_at}
use Rattle.dcx_atom.specs.Entrywise.{products_from}
use Rattle.dcx_atom.specs.Formed.{zero_frac}
use Rattle.dcx_affine.specs.Pairing.{pairs_at}
use Rattle.dcx_affine.specs.declared.pairing.Pairing.{Pairing}
use Rattle.dcx_shape.specs.declared.shape.Sides.{Sides}
use Rattle.dcx_shape.specs.Sides.{entries_of}
use Rattle.dcx_atom.specs.Steps.{rows_before}
use Rattle.dcx_atom.specs.Fractions.{AreFractionSlopes}
use Rattle.dcx_arena.specs.Nodes.{call_at, args_at}
use Rattle.dcx_arena.specs.Nodes.{sides_at as sides_of_node}
use Rattle.dcx_call.specs.declared.atoms.AtomCall.{AtomCall}
use Rattle.dcx_call.specs.declared.call.Call.{Call}
use Rattle.dcx_call.specs.declared.call.Call.TheVariants as calls
use Rattle.dcx_call.specs.Atoms.{atom_meaning}
use Rattle.dcx_call.specs.Linears.{linear_meaning}
use Rattle.dcx_tree.specs.Nodes.{Node}
use Rattle.dcx_tree.specs.Values.{array_at}
use Rattle.dcx_cert_collect.specs.declared.collected.Reached.{Reached}
use Rattle.dcx_cert_collect.specs.declared.collected.Collecting.{Collecting}
use Rattle.dcx_cert_collect.specs.declared.stop.CollectStop.{CollectStop}
use Rattle.dcx_cert_collect.specs.declared.stop.CollectStop.TheVariants as stops
use Rattle.dcx_cert_collect.specs.Shares.{frac_in, Share, with_shares}
use Rattle.dcx_cert_collect.specs.Starts.{start_of, AreStarts}
use Rattle.dcx_cert_collect.specs.Calls.{linear_shares, scaling_of, scaling_numbers, pairing_shares, atom_shares}

-- what is collected so far: the coefficients of the nodes that haven't handed theirs on, entry by entry and node by node; those
-- of the variables; and the total over the nodes that reach none
pub record Kept : Type 0 where
  pub below : List Frac
  pub reached : List Reached
  pub total : Frac

-- what the code keeps
abbrev pub kept_of : Collecting → Kept
kept_of c = record { below = c.below.items; reached = c.reached.items; total = c.total }

-- at first these coefficients are collected, and nothing is kept or counted
abbrev pub begin : List Frac → Kept
begin below = record { below = below; reached = []; total = zero_frac }

-- the stop is that of what is told, or memory ran out
abbrev pub IsOrMemory : {S : Type 0} → Result S CollectStop → CollectStop → Type 0
IsOrMemory told stop = (stop ≡ stops.Memory) ⊎ (told ≡ Err stop)

-- an operation that passes is a stop
abbrev pub or_passes : {S : Type 0} → Result S Passes → Result S CollectStop
or_passes (Ok x) = Ok x
or_passes (Err passes) = Err (stops.Passes passes)

-- the coefficients after these shares are handed on
abbrev pub handed : List Frac → Result (List Share) CollectStop → Result (List Frac) CollectStop
handed below (Ok shares) = or_passes (with_shares below shares)
handed below (Err stop) = Err stop

abbrev pub with_below : Kept → List Reached → Result (List Frac) CollectStop → Result Kept CollectStop
with_below kept more (Ok below) = Ok (record { below = below; reached = kept.reached ++ more; total = kept.total })
with_below kept more (Err stop) = Err stop

abbrev pub with_total : Kept → Result Frac CollectStop → Result Kept CollectStop
with_total kept (Ok total) = Ok (record { below = kept.below; reached = kept.reached; total = total })
with_total kept (Err stop) = Err stop

-- each coefficient with the number of its entry
abbrev pub counted : List Frac → List Frac → List (Frac × Frac)
counted cs numbers = list_below (length cs) (λ e. (frac_in cs e, frac_in numbers e))

-- what a product or a quotient hands on, where the values of its sides are known or not
abbrev pub pairing_hands : List Node → List ℕ → Pairing → List Sides → (left right : Option Array) → List Frac → List Share
pairing_hands nodes args p sides left right cs =
    pairing_shares nodes args (scaling_of p (is_some left)) (scaling_numbers (scaling_of p (is_some left)) left right) cs (pairs_at p (sides_at sides 0) (sides_at sides 1))

-- what is kept of a call: the coefficients of a variable
abbrev pub reached_by : ℕ → Call → List Frac → List Reached
reached_by i (calls.Variable v) cs = record { node = record { 0 = i }; coefficients = cs } ∷ []
reached_by i (calls.Parameter p) cs = []
reached_by i (calls.Constant x) cs = []
reached_by i (calls.Atom m) cs = []
reached_by i (calls.Linear l) cs = []
reached_by i (calls.Pairing p) cs = []

-- what node i hands on: its call of these arguments, whose sides follow, with the coefficients cs and the weights ws
abbrev pub call_shares : List Node → List (Option Array) → ℕ → Call → List ℕ → List Sides → (cs ws : List Frac) → Result (List Share) CollectStop
call_shares nodes values i (calls.Variable v) args sides cs ws = Ok []
call_shares nodes values i (calls.Parameter p) args sides cs ws = Ok []
call_shares nodes values i (calls.Constant x) args sides cs ws = Ok []
call_shares nodes values i (calls.Atom m) args sides cs ws = atom_shares nodes i args (atom_meaning m) sides cs ws
call_shares nodes values i (calls.Linear l) args sides cs ws = Ok (linear_shares nodes args cs ((linear_meaning l).terms sides))
call_shares nodes values i (calls.Pairing p) args sides cs ws =
    Ok (pairing_hands nodes args p sides (array_at values (slice_index args 0)) (array_at values (slice_index args 1)) cs)

abbrev pub reached_if : ℕ → Option Call → List Frac → List Reached
reached_if i None cs = []
reached_if i (Some call) cs = reached_by i call cs

abbrev pub shares_if : List Node → List (Option Array) → ℕ → Option Call → (cs ws : List Frac) → Result (List Share) CollectStop
shares_if nodes values i None cs ws = Ok []
shares_if nodes values i (Some call) cs ws = call_shares nodes values i call (args_at nodes i) (map (sides_of_node nodes) (args_at nodes i)) cs ws

-- the same of node i
abbrev pub node_reached : List Node → ℕ → List Frac → List Reached
node_reached nodes i cs = reached_if i (call_at nodes i) cs

abbrev pub node_shares : List Node → List (Option Array) → ℕ → (cs ws : List Frac) → Result (List Share) CollectStop
node_shares nodes values i cs ws = shares_if nodes values i (call_at nodes i) cs ws

-- where node i is a nonlinear call, there is a weight for each row of its graph
abbrev pub HasWeights : List Node → ℕ → List Frac → Type 0
HasWeights nodes i ws = (m : AtomCall) → call_at nodes i ≡ Some (calls.Atom m) →
    length ws ≡ rows_before (atom_meaning m) (map (sides_of_node nodes) (args_at nodes i)) (entries_of (sides_of_node nodes i))

-- where node i is a nonlinear call, its slopes are
abbrev pub HasFractions : List Node → ℕ → List Frac → Type 0
HasFractions nodes i ws = (m : AtomCall) → call_at nodes i ≡ Some (calls.Atom m) → AreFractionSlopes (atom_meaning m) (map (sides_of_node nodes) (args_at nodes i)) ws

module _ (nodes : List Node) (values : List (Option Array)) (weights : ℕ → List Frac) where
  -- node i with the coefficients cs: where its value is known, it counts, and else it hands on
  abbrev pub passed : ℕ → Option Array → List Frac → Kept → Result Kept CollectStop
  passed i (Some x) cs kept = with_total kept (or_passes (products_from kept.total (counted cs x.entries)))
  passed i None cs kept = with_below kept (node_reached nodes i cs) (handed kept.below (node_shares nodes values i cs (weights i)))

  -- node i takes its coefficients off
  abbrev pub step : ℕ → Kept → Result Kept CollectStop
  step i kept =
      passed i (array_at values i) (drop (start_of nodes i) kept.below)
      (record { below = take (start_of nodes i) kept.below; reached = kept.reached; total = kept.total })

  abbrev pub then_on : Result Kept CollectStop → (Kept → Result Kept CollectStop) → Result Kept CollectStop
  then_on (Ok kept) next = next kept
  then_on (Err stop) next = Err stop

  -- the first n nodes, from the last of them down
  abbrev pub pass_down : ℕ → Kept → Result Kept CollectStop
  pass_down zero kept = Ok kept
  pass_down (suc n) kept = then_on (step n kept) (pass_down n)

  -- each nonlinear call whose value isn't known has its weights
  abbrev pub HaveWeights : Type 0
  HaveWeights = (i : ℕ) → i < length nodes → array_at values i ≡ None → HasWeights nodes i (weights i)

  -- and slopes that are fractions
  abbrev pub HaveFractions : Type 0
  HaveFractions = (i : ℕ) → i < length nodes → array_at values i ≡ None → HasFractions nodes i (weights i)

-- it is told where each node begins, and each has a value or none
pub record IsGiven (nodes : List Node) (begins : List ℕ) (values : List (Option Array)) : Type 0 where
  pub starts : AreStarts nodes begins
  pub count : length values ≡ length nodes
