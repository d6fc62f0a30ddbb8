-- What the made-up script stands for, where it is read and carried out.
use Rattle.std.specs.Prelude.{◌≡◌, ℕ, Ok, Err}
use Rattle.dcx_tree.specs.declared.constraint.Sense.TheVariants.{Minimize}
use Rattle.dcx_tree.specs.Meaning.{IsDpp}
use Rattle.dcx_declared.specs.Whole.{HasNoWhole}
use Rattle.dcx_syntax.specs.declared.tree.Script.{Script}
use Rattle.dcx_read.specs.Parses.{IsReading}
use Rattle.dcx_script_values.specs.declared.fault.ElabFault.{ElabFault}
use Rattle.dcx_script_values.specs.declared.fault.ElabFault.TheVariants as fault
use Rattle.dcx_elab.specs.declared.work.Work.{Work}
use Rattle.dcx_elab.specs.Meaning.{Elaborates}
use Rattle.dcx_trial.specs.Trial.{trial_text}
use Rattle.dcx_trial_laws.specs.Sizes.{IsAsked}

-- a problem that the script of a size stands for minimizes
abbrev pub TrialMinimizes : Type 0
TrialMinimizes = (size : ℕ) (script : Script) → IsReading (trial_text size) (Ok script) → (work : Work) → Elaborates (Ok work) script → work.problem.sense ≡ Minimize

-- the rules accept a problem that the script of a size stands for, also where parameters are affine
abbrev pub TrialIsAccepted : Type 0
TrialIsAccepted = (size : ℕ) (script : Script) → IsReading (trial_text size) (Ok script) → (work : Work) → Elaborates (Ok work) script → IsDpp work.problem

-- the script of each size that is asked for has no fault: nothing but want of memory keeps it from being carried out
abbrev pub TrialIsCarriedOut : Type 0
TrialIsCarriedOut =
    (size : ℕ) (script : Script) → IsAsked size → IsReading (trial_text size) (Ok script) → (f : ElabFault) → Elaborates (Err f) script → f ≡ fault.Memory

-- no variable of its problem is to be whole
abbrev pub TrialHasNoWhole : Type 0
TrialHasNoWhole =
    (size : ℕ) (script : Script) → IsAsked size → IsReading (trial_text size) (Ok script) → (work : Work) → Elaborates (Ok work) script → HasNoWhole work.problem
