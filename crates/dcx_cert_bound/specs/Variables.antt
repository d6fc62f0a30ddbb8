-- What reaches the entries of a variable, and what its attribute asks of it.
--
-- Entries are counted from 0 in row-major order. Of two entries of a symmetric variable that mirror each other the one above the
-- diagonal is asked, with the sum of both coefficients; of a diagonal variable those on the diagonal are asked.
use Rattle.std.specs.Prelude.{◌≡◌, ◌≢◌, ℕ, nat_eq, Bool, true, false, if◌then◌else◌, List, [], ◌∷◌, length, Option, Some, None, Result, Ok, Err, slice_get, pos}
use Rattle.dcx_math.specs.Rational.{ℚ, whole, ◌≤ℚ◌, ◌<ℚ◌}
use Rattle.dcx_frac.specs.declared.fraction.Frac.{Frac}
use Rattle.dcx_frac.specs.declared.fraction.Passes.{Passes}
use Rattle.dcx_frac.specs.Frac.{value}
use Rattle.dcx_frac.specs.Results.{sum_of}
use Rattle.dcx_shape.specs.declared.shape.Sides.{Sides}
use Rattle.dcx_shape.specs.Sides.{entries_of}
use Rattle.dcx_arena.specs.Nodes.{call_at}
use Rattle.dcx_call.specs.declared.attribute.Attribute.{Attribute}
use Rattle.dcx_call.specs.declared.attribute.Attribute.TheVariants.{Free, Nonneg, Nonpos, Symmetric, Diag}
use Rattle.dcx_call.specs.declared.attribute.Variable.{Variable}
use Rattle.dcx_call.specs.declared.call.Call.{Call}
use Rattle.dcx_tree.specs.declared.problem.Problem.{Problem}
use Rattle.dcx_tree.specs.Nodes.{Node}
use Rattle.dcx_tree.specs.Gather.{is_variable}
use Rattle.dcx_unknowns.specs.Own.{row_in, column_in, is_own, mirror_of}
use Rattle.dcx_unknowns.specs.Unknowns.{demanded, sides_in}
use Rattle.dcx_cert_collect.specs.declared.collected.Reached.{Reached}
use Rattle.dcx_cert_collect.specs.Shares.{frac_in}
use Rattle.dcx_answer.specs.declared.cert_fault.CertFault.TheVariants as faults
use Rattle.dcx_cert_sections.specs.Checks.{Check, nothing, each_below}
use Rattle.dcx_cert_bound.specs.Refusal.{refused}

-- ---- what reaches a variable
-- the node's call is the variable of this name
abbrev pub is_named : List ℕ → Option Call → Bool
is_named name None = false
is_named name (Some call) = is_variable name call

-- the coefficients that reach the entries of the variable of this name, and none where none are told
abbrev pub reaching : List Node → List Reached → List ℕ → List Frac
reaching nodes [] name = []
reaching nodes (r ∷ reached) name = if is_named name (call_at nodes r.node.0) then r.coefficients else reaching nodes reached name

-- the coefficients that stand at a place of the list, if any do
abbrev pub coefficients_if : Option Reached → List Frac
coefficients_if None = []
coefficients_if (Some r) = r.coefficients

abbrev pub coefficients_in : List Reached → Option ℕ → List Frac
coefficients_in reached None = []
coefficients_in reached (Some place) = coefficients_if (slice_get reached place)

-- ---- one entry
-- a coefficient and that of the mirror, where the entry has one
abbrev pub mirrored : Sides → List Frac → ℕ → Result Frac Passes
mirrored sides coefficients e =
    if nat_eq (row_in sides e) (column_in sides e) then Ok (frac_in coefficients e) else sum_of (frac_in coefficients e) (frac_in coefficients (mirror_of sides e))

-- what reaches an entry that is asked
abbrev pub reaching_entry : Attribute → Sides → List Frac → ℕ → Result Frac Passes
reaching_entry Free sides coefficients e = Ok (frac_in coefficients e)
reaching_entry Nonneg sides coefficients e = Ok (frac_in coefficients e)
reaching_entry Nonpos sides coefficients e = Ok (frac_in coefficients e)
reaching_entry Symmetric sides coefficients e = mirrored sides coefficients e
reaching_entry Diag sides coefficients e = Ok (frac_in coefficients e)

-- the number may reach such an entry: it is at least 0 where the entry is, at most 0 where the entry is, and else 0
abbrev pub MayReachEntry : Attribute → ℚ → Type 0
MayReachEntry Free x = x ≡ whole (pos 0)
MayReachEntry Nonneg x = whole (pos 0) ≤ℚ x
MayReachEntry Nonpos x = x ≤ℚ whole (pos 0)
MayReachEntry Symmetric x = x ≡ whole (pos 0)
MayReachEntry Diag x = x ≡ whole (pos 0)

-- it may not
abbrev pub MayNotReachEntry : Attribute → ℚ → Type 0
MayNotReachEntry Free x = x ≢ whole (pos 0)
MayNotReachEntry Nonneg x = x <ℚ whole (pos 0)
MayNotReachEntry Nonpos x = whole (pos 0) <ℚ x
MayNotReachEntry Symmetric x = x ≢ whole (pos 0)
MayNotReachEntry Diag x = x ≢ whole (pos 0)

-- what reaches entry e of variable k may
abbrev pub number_check : Attribute → (k e : ℕ) → Result Frac Passes → Check
number_check a k e (Ok x) = record { passes = MayReachEntry a (value x); fails = λ f. MayNotReachEntry a (value x) × (f ≡ faults.Variable k e x) }
number_check a k e (Err passes) = refused (faults.Wide passes)

-- only entries that have an unknown of their own are asked
abbrev pub asked : Bool → Check → Check
asked true check = check
asked false check = nothing

abbrev pub entry_check : Attribute → Sides → List Frac → (k e : ℕ) → Check
entry_check a sides coefficients k e = asked (is_own a sides e) (number_check a k e (reaching_entry a sides coefficients e))

-- ---- all entries of all variables
-- the entries of variable k, in order
abbrev pub variable_check : List Node → List Reached → ℕ → Option Variable → Check
variable_check nodes reached k None = nothing
variable_check nodes reached k (Some v) = each_below (entries_of (sides_in v)) (entry_check (demanded v) (sides_in v) (reaching nodes reached v.name) k)

-- the variables, in order of declaration
abbrev pub variables_check : Problem → List Reached → Check
variables_check p reached = each_below (length p.variables) (λ k. variable_check p.tree reached k (slice_get p.variables k))
