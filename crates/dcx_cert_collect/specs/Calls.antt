-- What a node hands on to the entries of its arguments, from the coefficients of its own entries.
use Rattle.std.specs.Prelude.{ℕ, zero, suc, Bool, true, false, List, [], map, length, Option, Some, None, Result, Ok, Err, slice_get}
use Rattle.dcx_frac.specs.declared.fraction.Frac.{Frac}
use Rattle.dcx_frac.specs.declared.fraction.Passes.{Passes}
use Rattle.dcx_frac.specs.Results.{product_of, quotient_of}
use Rattle.dcx_shape.specs.declared.shape.Sides.{Sides}
use Rattle.dcx_shape.specs.Sides.{entries_of}
use Rattle.dcx_atom.specs.declared.array.Array.{Array}
use Rattle.dcx_atom.specs.declared.stops.SlopeStop.{SlopeStop}
use Rattle.dcx_atom.specs.declared.stops.SlopeStop.TheVariants as slope_stops
use Rattle.dcx_atom.specs.Arrays.{number_at, sides_at, list_below, joined_below}
use Rattle.dcx_atom.specs.Formed.{frac_at, exact}
use Rattle.dcx_atom.specs.Linear.{LinearTerm}
use Rattle.dcx_atom.specs.Meaning.{Meaning}
use Rattle.dcx_atom.specs.Steps.{earlier, entry_stop, weights_of}
use Rattle.dcx_affine.specs.declared.pairing.Pairing.{Pairing}
use Rattle.dcx_affine.specs.declared.pairing.Pairing.TheVariants.{Times, MatTimes, Over}
use Rattle.dcx_affine.specs.declared.pairing.Pair.{Pair}
use Rattle.dcx_tree.specs.Nodes.{Node}
use Rattle.dcx_cert_collect.specs.declared.pairs.Scaling.{Scaling}
use Rattle.dcx_cert_collect.specs.declared.pairs.Scaling.TheVariants.{ByRight, ByLeft, Divided}
use Rattle.dcx_cert_collect.specs.declared.stop.CollectStop.{CollectStop}
use Rattle.dcx_cert_collect.specs.declared.stop.CollectStop.TheVariants as stops
use Rattle.dcx_cert_collect.specs.Shares.{frac_in, Share, share_of}
use Rattle.dcx_cert_collect.specs.Starts.{place_of}

-- what goes to entry e of argument k, where these nodes are the arguments
abbrev pub share_to : List Node → List ℕ → ℕ → ℕ → Result Frac Passes → Share
share_to nodes args k e amount = share_of (place_of nodes (slice_get args k) e) amount

-- ---- linear calls: each coefficient times that of each term
abbrev pub term_share : List Node → List ℕ → Frac → LinearTerm → Share
term_share nodes args c t = share_to nodes args t.argument t.entry (product_of c (frac_at t.coefficient))

abbrev pub linear_shares : List Node → List ℕ → List Frac → (ℕ → List LinearTerm) → List Share
linear_shares nodes args cs terms = joined_below (length cs) (λ j. map (term_share nodes args (frac_in cs j)) (terms j))

-- ---- products and quotients: the side that reaches no variable has numbers, which multiply or divide each coefficient
-- the numbers of a node's value, where they are known
abbrev pub numbers_of : Option Array → List Frac
numbers_of None = []
numbers_of (Some x) = x.entries

-- which side multiplies the coefficients, or divides them: of a product the left one, where its value is known
abbrev pub scaling_of : Pairing → (left_known : Bool) → Scaling
scaling_of Times false = ByRight
scaling_of Times true = ByLeft
scaling_of MatTimes false = ByRight
scaling_of MatTimes true = ByLeft
scaling_of Over left_known = Divided

-- its numbers
abbrev pub scaling_numbers : Scaling → (left right : Option Array) → List Frac
scaling_numbers ByRight left right = numbers_of right
scaling_numbers ByLeft left right = numbers_of left
scaling_numbers Divided left right = numbers_of right

abbrev pub pair_share : List Node → List ℕ → Scaling → List Frac → Frac → Pair → Share
pair_share nodes args ByRight numbers c p = share_to nodes args 0 p.left (product_of c (frac_in numbers p.right))
pair_share nodes args ByLeft numbers c p = share_to nodes args 1 p.right (product_of c (frac_in numbers p.left))
pair_share nodes args Divided numbers c p = share_to nodes args 0 p.left (quotient_of c (frac_in numbers p.right))

abbrev pub pairing_shares : List Node → List ℕ → Scaling → List Frac → List Frac → (ℕ → List Pair) → List Share
pairing_shares nodes args scaling numbers cs pairs = joined_below (length cs) (λ j. map (pair_share nodes args scaling numbers (frac_in cs j)) (pairs j))

-- ---- nonlinear calls: the slopes that the weights give, or the first condition that they break
-- the first stop of so many entries
abbrev pub first_of_entries : ℕ → (ℕ → Option SlopeStop) → Option SlopeStop
first_of_entries zero stop = None
first_of_entries (suc n) stop = earlier (first_of_entries n stop) (stop n)

abbrev pub slopes_stop : Meaning → List Sides → List Frac → List Frac → Option SlopeStop
slopes_stop m sides cs ws = first_of_entries (length cs) (entry_stop m sides (number_at cs) (weights_of m sides ws))

-- the slope of an entry of an argument
abbrev pub slope_frac : Meaning → List Sides → List Frac → ℕ → ℕ → Frac
slope_frac m sides ws k e = frac_at (exact (m.slope sides (weights_of m sides ws) k e))

abbrev pub slope_shares : List Node → List ℕ → List Sides → (ℕ → ℕ → Frac) → List Share
slope_shares nodes args sides slope = joined_below (length args) (λ k. list_below (entries_of (sides_at sides k)) (λ e. share_to nodes args k e (Ok (slope k e))))

-- the stop that tells what stops slopes of node i
abbrev pub stop_of : ℕ → SlopeStop → CollectStop
stop_of i (slope_stops.Refused entry stated found) = stops.Slope (record { 0 = i }) entry stated found
stop_of i (slope_stops.Passes passes) = stops.Passes passes
stop_of i slope_stops.Memory = stops.Memory

abbrev pub unless : ℕ → Option SlopeStop → List Share → Result (List Share) CollectStop
unless i None shares = Ok shares
unless i (Some stop) shares = Err (stop_of i stop)

abbrev pub atom_shares : List Node → ℕ → List ℕ → Meaning → List Sides → List Frac → List Frac → Result (List Share) CollectStop
atom_shares nodes i args m sides cs ws = unless i (slopes_stop m sides cs ws) (slope_shares nodes args sides (slope_frac m sides ws))
