-- What the bytes of a script give: the problem that they stand for, which the rules accept, or the one refusal.
use Rattle.std.specs.Prelude.{◌≡◌, ℕ, List, Result, Ok, Err, ⊤}
use Rattle.dcx_shape.specs.declared.place.Place.{Place}
use Rattle.dcx_tokens.specs.declared.fault.ReadFault.{ReadFault}
use Rattle.dcx_tokens.specs.declared.fault.ReadFault.TheVariants as reads
use Rattle.dcx_syntax.specs.declared.tree.Script.{Script}
use Rattle.dcx_read.specs.Parses.{IsReading}
use Rattle.dcx_script_values.specs.declared.fault.ElabFault.{ElabFault}
use Rattle.dcx_script_values.specs.declared.fault.ElabFault.TheVariants as elabs
use Rattle.dcx_elab.specs.declared.work.Work.{Work}
use Rattle.dcx_elab.specs.Meaning.{Elaborates}
use Rattle.dcx_convex.specs.Nodes.{Setting}
use Rattle.dcx_tree.specs.declared.problem.Problem.{Problem}
use Rattle.dcx_tree.specs.Meaning.{Fits, IsAccepted, IsConvex}
use Rattle.dcx_rules.specs.Verdicts.{Findings, IsVerdictOf, AreTrueOf}
use Rattle.dcx_refusal.specs.declared.refusal.Carried.{Carried}
use Rattle.dcx_refusal.specs.declared.refusal.Carried.TheVariants as carried_is
use Rattle.dcx_refusal.specs.declared.refusal.Refusal.{Refusal}
use Rattle.dcx_refusal.specs.declared.refusal.RefusalSource.{RefusalSource}
use Rattle.dcx_refusal.specs.declared.refusal.RefusalSource.TheVariants.{Script as OfScript}
use Rattle.dcx_front.specs.declared.fault.FrontFault.{FrontFault}
use Rattle.dcx_front.specs.declared.fault.FrontFault.TheVariants.{Refused, Memory}
use Rattle.dcx_front.specs.declared.accepted.Accepted.{Accepted}
use Rattle.dcx_refusal.specs.Made.{IsRefusedAs}
use Rattle.dcx_front.specs.Checks.{IsRefusedFor}

-- ---- faults
-- how a fault is told: as a refusal of the file, or as want of memory
pub data Ending : Type 0 where
  refused : (number : ℕ) (place : Place) (carried : Carried) → Ending
  without_memory : Ending

abbrev pub plainly : ℕ → Place → Ending
plainly number place = refused number place carried_is.Nothing

-- the faults of reading, by their numbers
abbrev pub read_ending : ReadFault → Ending
read_ending (reads.NotText p) = plainly 1 p
read_ending (reads.BadChar p) = plainly 2 p
read_ending (reads.BadNumber p) = plainly 3 p
read_ending (reads.Unclosed p) = plainly 4 p
read_ending (reads.Indent p) = plainly 5 p
read_ending (reads.Unexpected p) = plainly 6 p
read_ending (reads.TooDeep p) = plainly 7 p
read_ending (reads.TooLong p) = plainly 8 p
read_ending reads.Memory = without_memory

-- the faults of carrying out, by their numbers
abbrev pub elab_ending : ElabFault → Ending
elab_ending (elabs.UnknownName p) = plainly 9 p
elab_ending (elabs.UnknownCall p) = plainly 10 p
elab_ending (elabs.BadArgument p) = plainly 11 p
elab_ending (elabs.NotOffered p) = plainly 12 p
elab_ending (elabs.ShapeClash p) = plainly 13 p
elab_ending (elabs.IndexRange p) = plainly 14 p
elab_ending (elabs.EmptyResult p) = plainly 15 p
elab_ending (elabs.NoProblem p) = plainly 16 p
elab_ending (elabs.TwoProblems p) = plainly 17 p
elab_ending (elabs.TooMany p what count) = refused 18 p (carried_is.Count what count)
elab_ending (elabs.PlainWide p passes) = refused 20 p (carried_is.Passes passes)
elab_ending elabs.Memory = without_memory

-- the refusal tells this
abbrev pub IsRefusedBy : RefusalSource → Ending → Refusal → Type 0
IsRefusedBy source (refused number place carried) r = IsRefusedAs source number place carried r
IsRefusedBy source without_memory r = ⊥

abbrev pub WantsMemory : Ending → Type 0
WantsMemory (refused number place carried) = ⊥
WantsMemory without_memory = ⊤

abbrev pub Tells : RefusalSource → Ending → FrontFault → Type 0
Tells source e (Refused r) = IsRefusedBy source e r
Tells source e Memory = WantsMemory e

-- ---- what is given
-- an accepted problem, or why there is none
abbrev pub Given : Type 0
Given = Result Accepted FrontFault

-- it is this fault of the script
abbrev pub EndsAs : Ending → Given → Type 0
EndsAs e (Ok a) = ⊥
EndsAs e (Err f) = Tells OfScript e f

-- the rules accept the problem, it is convex at every fitting setting, and this is its verdict, which is true
pub record IsJudged (p : Problem) (v : Findings) : Type 0 where
  pub accepted : IsAccepted p
  pub convex : (s : Setting) → Fits p s → IsConvex p s
  pub verdict : IsVerdictOf p v
  pub truth : (s : Setting) → Fits p s → AreTrueOf p s v

-- what the rules say of what a script stands for; want of memory is free
abbrev pub Judges : Work → Given → Type 0
Judges w (Ok a) = (a.work ≡ w) × IsJudged w.problem a.verdict
Judges w (Err (Refused r)) = (¬ IsAccepted w.problem) × IsRefusedFor w.problem r
Judges w (Err Memory) = ⊤

-- what a script gives: what the rules say of what it stands for, or its first fault
pub data GivesOfScript (script : Script) (given : Given) : Type 0 where
  stands_for : (work : Work) → Elaborates (Ok work) script → Judges work given → GivesOfScript script given
  faulty : (f : ElabFault) → Elaborates (Err f) script → EndsAs (elab_ending f) given → GivesOfScript script given

-- what bytes give: what the script gives that they spell, or the first fault of reading
pub data Gives (bytes : List ℕ) (given : Given) : Type 0 where
  spells : (script : Script) → IsReading bytes (Ok script) → GivesOfScript script given → Gives bytes given
  unread : (f : ReadFault) → IsReading bytes (Err f) → EndsAs (read_ending f) given → Gives bytes given
