-- Bytes give one answer, and are refused exactly where they are at fault.
use Rattle.std.specs.Prelude.{◌≡◌, ◌≢◌, ◌↔◌, ℕ, List, Ok, Err, IsOk, IsErr, ⊤}
use Rattle.dcx_tokens.specs.declared.fault.ReadFault.{ReadFault}
use Rattle.dcx_tokens.specs.declared.fault.ReadFault.TheVariants as reads
use Rattle.dcx_syntax.specs.declared.tree.Script.{Script}
use Rattle.dcx_read.specs.Parses.{IsReading}
use Rattle.dcx_tree.specs.Meaning.{IsAccepted}
use Rattle.dcx_script_values.specs.declared.fault.ElabFault.{ElabFault}
use Rattle.dcx_script_values.specs.declared.fault.ElabFault.TheVariants as elabs
use Rattle.dcx_elab.specs.declared.work.Work.{Work}
use Rattle.dcx_elab.specs.Meaning.{Elaborates}
use Rattle.dcx_front.specs.declared.fault.FrontFault.TheVariants.{Memory}
use Rattle.dcx_front.specs.Accepts.{Given, Judges, Gives}

-- ---- one answer
-- two answers are one, where neither wants memory
abbrev pub AreOneAnswer : Given → Given → Type 0
AreOneAnswer (Err Memory) other = ⊤
AreOneAnswer given (Err Memory) = ⊤
AreOneAnswer given other = given ≡ other

-- each answer that the bytes give is this one
abbrev pub IsOnlyAnswer : List ℕ → Given → Type 0
IsOnlyAnswer bytes given = (other : Given) → Gives bytes other → AreOneAnswer given other

-- bytes give one answer; want of memory is free
abbrev pub HasOneAnswer : Type 0
HasOneAnswer = (bytes : List ℕ) (given : Given) → Gives bytes given → IsOnlyAnswer bytes given

-- the rules say one thing of what a script stands for
abbrev pub HasOneJudgement : Type 0
HasOneJudgement = (work : Work) (given other : Given) → Judges work given → Judges work other → AreOneAnswer given other

-- ---- at fault, or accepted
-- Why bytes are refused: reading them has a fault; or carrying out the script that they spell has one; or the rules don't
-- accept the problem that this script stands for.
pub data IsAtFault (bytes : List ℕ) : Type 0 where
  unreadable : (f : ReadFault) → f ≢ reads.Memory → IsReading bytes (Err f) → IsAtFault bytes
  fails : (script : Script) → IsReading bytes (Ok script) → (f : ElabFault) → f ≢ elabs.Memory → Elaborates (Err f) script → IsAtFault bytes
  breaks_rules : (script : Script) → IsReading bytes (Ok script) → (work : Work) → Elaborates (Ok work) script → ¬ IsAccepted work.problem → IsAtFault bytes

-- the bytes spell a script, which stands for a problem, and the rules accept it
pub record IsWithoutFault (bytes : List ℕ) : Type 0 where
  pub script : Script
  pub spelled : IsReading bytes (Ok script)
  pub work : Work
  pub stands_for : Elaborates (Ok work) script
  pub accepted : IsAccepted work.problem

-- no bytes are both
abbrev pub HasOneVerdict : Type 0
HasOneVerdict = (bytes : List ℕ) → IsWithoutFault bytes → ¬ IsAtFault bytes

-- the bytes are refused exactly where they are at fault, and accepted exactly where they are not
pub record IsRightAnswer (bytes : List ℕ) (given : Given) : Type 0 where
  pub refused : IsErr given ↔ IsAtFault bytes
  pub accepted : IsOk given ↔ IsWithoutFault bytes

-- where memory was found
abbrev pub IsVerdictOn : List ℕ → Given → Type 0
IsVerdictOn bytes (Err Memory) = ⊤
IsVerdictOn bytes given = IsRightAnswer bytes given
