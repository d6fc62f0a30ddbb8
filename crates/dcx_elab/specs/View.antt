-- Comparisons and trailers of the code from an index on, and what it means that a function returns what leaves something to be done.
use Rattle.std.specs.Prelude.{◌≡◌, ℕ, List, map, drop, Result, Ok, Err}
use Rattle.dcx_syntax.specs.declared.tree.Compared as code_compared
use Rattle.dcx_syntax.specs.declared.tree.Trailer as code_trailer
use Rattle.dcx_syntax.specs.Expressions.{Compared, no_comparison, Trailers, no_trailer}
use Rattle.dcx_syntax.specs.View.{chained, compared_view, trailer_view}
use Rattle.dcx_script_values.specs.declared.fault.ElabFault.{ElabFault}
use Rattle.dcx_script_values.specs.Values.{State, Act}
use Rattle.dcx_script_values.specs.View.{Fails}

-- the comparisons from an index on
abbrev pub compared_from : List code_compared.Compared → ℕ → Compared
compared_from all at = chained (map compared_view (drop at all)) no_comparison

-- the trailers from an index on
abbrev pub trailers_from : List code_trailer.Trailer → ℕ → Trailers
trailers_from all at = chained (map trailer_view (drop at all)) no_trailer

-- what was meant is what is to be done after what a function returned, in the state that it left; or the fault is the first
-- one, unless memory ran out
abbrev pub GoesOn : {X Y : Type 0} → (X → Act Y) → Result X ElabFault → State → Result (Y × State) ElabFault → Type 0
GoesOn rest (Ok x) after given = given ≡ rest x after
GoesOn rest (Err e) after given = Fails e given
