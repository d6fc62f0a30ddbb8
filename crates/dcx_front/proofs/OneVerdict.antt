-- Bytes are refused exactly where they are at fault, and accepted exactly where they are not.
use Rattle.std.proofs.Common.{◌≢◌, ℕ, List, Ok, Err, refl, sym, subst}
use Rattle.dcx_tokens.specs.declared.fault.ReadFault.{ReadFault}
use Rattle.dcx_tokens.specs.declared.fault.ReadFault.TheVariants as reads
use Rattle.dcx_syntax.specs.declared.tree.Script.{Script}
use Rattle.dcx_read.specs.Parses.{IsReading}
use Rattle.dcx_tree.specs.Meaning.{IsAccepted}
use Rattle.dcx_script_values.specs.declared.fault.ElabFault.{ElabFault}
use Rattle.dcx_script_values.specs.declared.fault.ElabFault.TheVariants as elabs
use Rattle.dcx_elab.specs.declared.work.Work.{Work}
use Rattle.dcx_elab.specs.Meaning.{Elaborates}
use Rattle.dcx_refusal.specs.declared.refusal.Refusal.{Refusal}
use Rattle.dcx_front.specs.declared.fault.FrontFault.TheVariants.{Refused, Memory}
use Rattle.dcx_front.specs.declared.accepted.Accepted.{Accepted}
use Rattle.dcx_front.specs.Accepts.{read_ending, elab_ending, Given, EndsAs, IsJudged, stands_for, faulty, Gives, spells, unread}
use Rattle.dcx_front.specs.OneAnswer.{IsAtFault, unreadable, fails, breaks_rules, IsWithoutFault, IsVerdictOn}
use Rattle.dcx_read.proofs.OneReading.{script_apart, one_script}
use Rattle.dcx_front.proofs.OneAnswer.{one_work, work_apart}

-- bytes that are accepted are not at fault
pub apart : (bytes : List ℕ) → IsWithoutFault bytes → IsAtFault bytes → ⊥
apart bytes a (unreadable f n h) = script_apart bytes a.script f n a.spelled h
apart bytes a (fails script h f n k) = work_apart a.script script (one_script bytes a.script script a.spelled h) a.work f n a.stands_for k
apart bytes a (breaks_rules script h work k broken) =
    broken (subst (λ (w : Work). IsAccepted w.problem) (one_work a.script script (one_script bytes a.script script a.spelled h) a.work work a.stands_for k) a.accepted)

-- a fault that ends in a refusal is no want of memory
read_refuses : (f : ReadFault) (r : Refusal) → EndsAs (read_ending f) (Err (Refused r)) → f ≢ reads.Memory
read_refuses f r h e = subst (λ x. EndsAs (read_ending x) (Err (Refused r))) e h

elab_refuses : (f : ElabFault) (r : Refusal) → EndsAs (elab_ending f) (Err (Refused r)) → f ≢ elabs.Memory
elab_refuses f r h e = subst (λ x. EndsAs (elab_ending x) (Err (Refused r))) e h

-- the cause of a refusal
pub refused_for : (bytes : List ℕ) (r : Refusal) → Gives bytes (Err (Refused r)) → IsAtFault bytes
refused_for bytes r (unread f h e) = unreadable f (read_refuses f r e) h
refused_for bytes r (spells script h (stands_for work k c)) = breaks_rules script h work k c.0
refused_for bytes r (spells script h (faulty f k e)) = fails script h f (elab_refuses f r e) k

-- what is accepted is what the script stands for that the bytes spell
pub record IsAcceptance (bytes : List ℕ) (a : Accepted) : Type 0 where
  pub script : Script
  pub spelled : IsReading bytes (Ok script)
  pub stands_for : Elaborates (Ok a.work) script
  pub judged : IsJudged a.work.problem a.verdict

pub acceptance : (bytes : List ℕ) (a : Accepted) → Gives bytes (Ok a) → IsAcceptance bytes a
acceptance bytes a (unread f h e) = absurd e
acceptance bytes a (spells script h (faulty f k e)) = absurd e
acceptance bytes a (spells script h (stands_for work k j)) = record {
  script = script;
  spelled = h;
  stands_for = subst (λ (w : Work). Elaborates (Ok w) script) (sym j.0) k;
  judged = subst (λ (w : Work). IsJudged w.problem a.verdict) (sym j.0) j.1;
}

without_fault : (bytes : List ℕ) (a : Accepted) → IsAcceptance bytes a → IsWithoutFault bytes
without_fault bytes a h = record { script = h.script; spelled = h.spelled; work = a.work; stands_for = h.stands_for; accepted = h.judged.accepted }

pub accepted_for : (bytes : List ℕ) (a : Accepted) → Gives bytes (Ok a) → IsWithoutFault bytes
accepted_for bytes a h = without_fault bytes a (acceptance bytes a h)

pub verdict_on : (bytes : List ℕ) (given : Given) → Gives bytes given → IsVerdictOn bytes given
verdict_on bytes (Ok a) h =
    let cause = accepted_for bytes a h in
    record { refused = (λ e. absurd (cc), λ f. absurd (apart bytes cause f)); accepted = (λ t. cause, λ w. refl) }
verdict_on bytes (Err (Refused r)) h =
    let cause = refused_for bytes r h in
    record { refused = (λ t. cause, λ f. refl); accepted = (λ e. absurd (cc), λ w. absurd (apart bytes w cause)) }
verdict_on bytes (Err Memory) h = tt
