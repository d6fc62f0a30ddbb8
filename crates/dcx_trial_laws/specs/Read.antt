-- What reading the made-up script gives.
use Rattle.std.specs.Prelude.{◌≡◌, ℕ, ◌≤◌, length, Ok, Err}
use Rattle.dcx_tokens.specs.declared.fault.ReadFault.{ReadFault}
use Rattle.dcx_tokens.specs.declared.fault.ReadFault.TheVariants as fault
use Rattle.dcx_tokens.specs.File.{most_bytes}
use Rattle.dcx_syntax.specs.declared.tree.Script.{Script}
use Rattle.dcx_syntax.specs.View.{script_view}
use Rattle.dcx_read.specs.Parses.{IsReading}
use Rattle.dcx_trial.specs.Trial.{trial_text}
use Rattle.dcx_trial_laws.specs.Sizes.{IsAsked}
use Rattle.dcx_trial_laws.specs.Tree.{trial_tree}

-- whatever is read of the script of a size is the tree of that size
abbrev pub TrialIsRead : Type 0
TrialIsRead = (size : ℕ) (script : Script) → IsReading (trial_text size) (Ok script) → script_view script ≡ trial_tree size

-- up to the most bytes of a file the script has no fault: nothing but want of memory keeps it from being read
abbrev pub TrialHasNoFault : Type 0
TrialHasNoFault = (size : ℕ) (f : ReadFault) → length (trial_text size) ≤ most_bytes → IsReading (trial_text size) (Err f) → f ≡ fault.Memory

-- of each size that is asked for the script is no longer than a file may be
abbrev pub TrialIsShort : Type 0
TrialIsShort = (size : ℕ) → IsAsked size → length (trial_text size) ≤ most_bytes
