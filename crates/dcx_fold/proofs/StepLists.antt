-- The first stop of steps that are made one after the other, and weights that are taken from a list.
use Rattle.std.proofs.Common.{◌≡◌, ◌⊎◌, inl, inr, ℕ, zero, suc, ◌+◌, ◌*◌, ◌<◌, ◌≤◌, arith, List, [], ◌∷◌, ◌++◌, map, length, take, drop, sym, ap, ◌∙◌, subst, Some, None}
use Rattle.dcx_frac.specs.declared.fraction.Frac.{Frac}
use Rattle.dcx_frac.specs.Frac.{value}
use Rattle.dcx_shape.specs.declared.shape.Sides.{Sides}
use Rattle.dcx_atom.specs.declared.stops.SlopeStop.{SlopeStop}
use Rattle.dcx_atom.specs.declared.stops.SlopeStop.TheVariants as stops
use Rattle.dcx_atom.specs.Arrays.{list_below, number_at}
use Rattle.dcx_atom.specs.Meaning.{Meaning, Condition}
use Rattle.dcx_atom.specs.Steps.{Step, test, step_stop, first_stop, entry_stop, weights_of, IsSlopeStop}
use Rattle.dcx_atom.specs.Bounding.{HaveNoStop}
use Rattle.dcx_atom.proofs.BoundRows.{below_or_last}
use Rattle.dcx_atom.proofs.FirstStops.{first_stop-stopped, first_stop-passed}
use Rattle.dcx_atom.proofs.Lists.{list_below-next, list_below-numbers, list_below-same, number_at-drop, number_at-take}
use Rattle.dcx_atom.proofs.Totals.{earlier-none_right}
use Rattle.dcx_atom.proofs.Weights.{own_length, stop_at}
use Rattle.dcx_fold.specs.Stops.{IsStopAmong}

-- one condition alone
pub one_condition : (j : ℕ) (k : Condition) → step_stop j (test k) ≡ first_stop j (map test (k ∷ []))
one_condition j k = sym (earlier-none_right (step_stop j (test k)))

-- one more step
pub first_stop-next : (j n : ℕ) (f : ℕ → Step) → first_stop j (list_below n f) ≡ None → first_stop j (list_below (n + 1) f) ≡ step_stop j (f n)
first_stop-next j n f none =
    ap (first_stop j) (list_below-next n f) ∙ first_stop-passed j (list_below n f) (f n ∷ []) none ∙ earlier-none_right (step_stop j (f n))

-- a step that stops, where those before it don't
pub first_stop-at : (j n i : ℕ) (f : ℕ → Step) (stop : SlopeStop) → i < n → first_stop j (list_below i f) ≡ None → step_stop j (f i) ≡ Some stop → first_stop j (list_below n f) ≡ Some stop
first_stop-at j zero i f stop h none here = absurd (omega arith)
first_stop-at j (suc n) i f stop h none here =
    by (below_or_last i n h) (λ l. first_stop-at j n i f stop l none here)
  where
    by : (i < n) ⊎ (i ≡ n) → (i < n → first_stop j (list_below n f) ≡ Some stop) → first_stop j (list_below (suc n) f) ≡ Some stop
    by (inl l) rest = first_stop-stopped j (list_below n f) (f n ∷ []) stop (rest l)
    by (inr e) rest =
        first_stop-passed j (list_below n f) (f n ∷ []) (subst (λ k. first_stop j (list_below k f) ≡ None) e none)
        ∙ earlier-none_right (step_stop j (f n)) ∙ ap (λ k. step_stop j (f k)) (sym e) ∙ here

-- a stop of the first steps is one among all
pub stop_among : (j : ℕ) (steps more : List Step) (stop : SlopeStop) → first_stop j steps ≡ Some stop → IsStopAmong j (steps ++ more) stop
stop_among j steps more (stops.Refused entry stated found) e = first_stop-stopped j steps more (stops.Refused entry stated found) e
stop_among j steps more (stops.Passes passes) e = first_stop-stopped j steps more (stops.Passes passes) e
stop_among j steps more stops.Memory e = tt

-- the stop of an entry is that of all, where those before it have none
pub first_among : (m : Meaning) (args : List Sides) (size : ℕ) (cs ws : List Frac) (j : ℕ) (steps : List Step) (stop : SlopeStop) → j < size → HaveNoStop m args j cs ws →
    entry_stop m args (number_at cs) (weights_of m args ws) j ≡ first_stop j steps → IsStopAmong j steps stop → IsSlopeStop m args size cs ws stop
first_among m args size cs ws j steps (stops.Refused entry stated found) h none e here = stop_at m args size cs ws (stops.Refused entry stated found) j h none (e ∙ here)
first_among m args size cs ws j steps (stops.Passes passes) h none e here = stop_at m args size cs ws (stops.Passes passes) j h none (e ∙ here)
first_among m args size cs ws j steps stops.Memory h none e here = tt

-- the weights of part i, of n each
pub own_numbers : (ws : List Frac) (i n : ℕ) → i * n + n ≤ length ws → map value (take n (drop (i * n) ws)) ≡ list_below n (λ f. number_at ws (i * n + f))
own_numbers ws i n h =
    let own = take n (drop (i * n) ws) in
    sym (list_below-numbers own) ∙ ap (λ k. list_below k (number_at own)) (own_length ws i n h)
    ∙ list_below-same n (number_at own) (λ f. number_at ws (i * n + f)) (λ f b. own_number ws i n f b)
  where
    own_number : (ws : List Frac) (i n f : ℕ) → f < n → number_at (take n (drop (i * n) ws)) f ≡ number_at ws (i * n + f)
    own_number ws i n f b = number_at-take (drop (i * n) ws) n f b ∙ number_at-drop ws (i * n) f
