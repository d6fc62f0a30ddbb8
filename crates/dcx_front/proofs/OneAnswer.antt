-- The bytes of a script give one answer.
use Rattle.std.proofs.Common.{◌≡◌, ◌≢◌, ◌⊎◌, inl, inr, ℕ, List, Ok, Err, refl, sym, ap, ◌∙◌, subst}
use Rattle.std.specs.Prelude.{Result}
use Rattle.dcx_tokens.specs.declared.fault.ReadFault.{ReadFault}
use Rattle.dcx_tokens.specs.declared.fault.ReadFault.TheVariants as reads
use Rattle.dcx_arena.proofs.Results.{same_Ok}
use Rattle.dcx_syntax.specs.declared.tree.Script.{Script}
use Rattle.dcx_syntax.specs.View.{script_view}
use Rattle.dcx_read.specs.Parses.{IsReading}
use Rattle.dcx_script_values.specs.declared.fault.ElabFault.{ElabFault}
use Rattle.dcx_script_values.specs.declared.fault.ElabFault.TheVariants as elabs
use Rattle.dcx_script_values.specs.Values.{Asked, State}
use Rattle.dcx_script_values.specs.View.{Fails}
use Rattle.dcx_elab.specs.Ends.{roots_in}
use Rattle.dcx_elab.specs.declared.work.Work.{Work}
use Rattle.dcx_elab.specs.Meaning.{meaning, IsWork, Elaborates}
use Rattle.dcx_refusal.specs.declared.refusal.Refusal.{Refusal}
use Rattle.dcx_refusal.specs.declared.refusal.RefusalSource.TheVariants.{Script as OfScript}
use Rattle.dcx_front.specs.declared.fault.FrontFault.TheVariants.{Refused, Memory}
use Rattle.dcx_front.specs.Accepts.{Ending, refused, without_memory, read_ending, elab_ending, IsRefusedBy, WantsMemory}
use Rattle.dcx_front.specs.Accepts.{Given, EndsAs, Judges, GivesOfScript, stands_for, faulty, Gives, spells, unread}
use Rattle.dcx_front.specs.OneAnswer.{AreOneAnswer, HasOneAnswer}
use Rattle.dcx_front.proofs.OneCheck.{one_refusal, beside_memory, one_judged}
use Rattle.dcx_read.proofs.OneReading.{one_fault, script_apart, one_script}
use Rattle.dcx_tree.proofs.OneProblem.{one_problem}

-- ---- how a fault ends
-- an answer that ends so is a refusal, or wants memory
data Ended (e : Ending) (given : Given) : Type 0 where
  refusal : (r : Refusal) → given ≡ Err (Refused r) → IsRefusedBy OfScript e r → Ended e given
  no_memory : given ≡ Err Memory → WantsMemory e → Ended e given

ended : (e : Ending) (given : Given) → EndsAs e given → Ended e given
ended e (Ok a) h = absurd h
ended e (Err (Refused r)) h = refusal r refl h
ended e (Err Memory) h = no_memory refl h

from_memory : (given other : Given) → given ≡ Err Memory → AreOneAnswer given other
from_memory given other e = subst (λ (x : Given). AreOneAnswer x other) (sym e) tt

to_memory : (given other : Given) → other ≡ Err Memory → AreOneAnswer given other
to_memory given other e = subst (λ (x : Given). AreOneAnswer given x) (sym e) (beside_memory given)

as_refused : (given other : Given) (r t : Refusal) → given ≡ Err (Refused r) → other ≡ Err (Refused t) → r ≡ t → AreOneAnswer given other
as_refused given other r t e d same =
    subst (λ (x : Given). AreOneAnswer x other) (sym e) (subst (λ (x : Given). AreOneAnswer (Err (Refused r)) x) (sym d) (ap (λ (x : Refusal). Err (Refused x)) same))

one_ended : (e : Ending) (given other : Given) → Ended e given → Ended e other → AreOneAnswer given other
one_ended e given other (no_memory is w) k = from_memory given other is
one_ended e given other (refusal r is h) (no_memory also w) = to_memory given other also
one_ended without_memory given other (refusal r is h) (refusal t also k) = absurd h
one_ended (refused number place carried) given other (refusal r is h) (refusal t also k) = as_refused given other r t is also (one_refusal OfScript number place carried r t h k)

-- an ending makes one answer
one_ending : (e : Ending) (given other : Given) → EndsAs e given → EndsAs e other → AreOneAnswer given other
one_ending e given other h k = one_ended e given other (ended e given h) (ended e other k)

wants : (given : Given) → Ended without_memory given → given ≡ Err Memory
wants given (refusal r is h) = absurd h
wants given (no_memory is w) = is

-- ---- faults
-- want of memory, or a fault of the script
read_either : (f : ReadFault) → (f ≡ reads.Memory) ⊎ (f ≢ reads.Memory)
read_either (reads.NotText p) = inr (λ e. cc)
read_either (reads.BadChar p) = inr (λ e. cc)
read_either (reads.BadNumber p) = inr (λ e. cc)
read_either (reads.Unclosed p) = inr (λ e. cc)
read_either (reads.Indent p) = inr (λ e. cc)
read_either (reads.Unexpected p) = inr (λ e. cc)
read_either (reads.TooDeep p) = inr (λ e. cc)
read_either (reads.TooLong p) = inr (λ e. cc)
read_either reads.Memory = inl refl

elab_either : (f : ElabFault) → (f ≡ elabs.Memory) ⊎ (f ≢ elabs.Memory)
elab_either (elabs.UnknownName p) = inr (λ e. cc)
elab_either (elabs.UnknownCall p) = inr (λ e. cc)
elab_either (elabs.BadArgument p) = inr (λ e. cc)
elab_either (elabs.NotOffered p) = inr (λ e. cc)
elab_either (elabs.ShapeClash p) = inr (λ e. cc)
elab_either (elabs.IndexRange p) = inr (λ e. cc)
elab_either (elabs.EmptyResult p) = inr (λ e. cc)
elab_either (elabs.NoProblem p) = inr (λ e. cc)
elab_either (elabs.TwoProblems p) = inr (λ e. cc)
elab_either (elabs.TooMany p what count) = inr (λ e. cc)
elab_either (elabs.PlainWide p passes) = inr (λ e. cc)
elab_either elabs.Memory = inl refl

read_wants : (f : ReadFault) (given : Given) → f ≡ reads.Memory → EndsAs (read_ending f) given → given ≡ Err Memory
read_wants f given e h = wants given (ended without_memory given (subst (λ x. EndsAs (read_ending x) given) e h))

elab_wants : (f : ElabFault) (given : Given) → f ≡ elabs.Memory → EndsAs (elab_ending f) given → given ≡ Err Memory
elab_wants f given e h = wants given (ended without_memory given (subst (λ x. EndsAs (elab_ending x) given) e h))

-- a fault but want of memory is the one that was meant
failed : {Y : Type 0} (f : ElabFault) (given : Result Y ElabFault) → f ≢ elabs.Memory → Fails f given → given ≡ Err f
failed (elabs.UnknownName p) given n h = h
failed (elabs.UnknownCall p) given n h = h
failed (elabs.BadArgument p) given n h = h
failed (elabs.NotOffered p) given n h = h
failed (elabs.ShapeClash p) given n h = h
failed (elabs.IndexRange p) given n h = h
failed (elabs.EmptyResult p) given n h = h
failed (elabs.NoProblem p) given n h = h
failed (elabs.TwoProblems p) given n h = h
failed (elabs.TooMany p what count) given n h = h
failed (elabs.PlainWide p passes) given n h = h
failed elabs.Memory given n h = absurd (n refl)

-- ---- scripts
same_work : (w v : Work) → w.problem ≡ v.problem → w.events ≡ v.events → w.last ≡ v.last → w ≡ v
same_work w v p e l = λ i. record { problem = p i; events = e i; last = l i }

module _ (script other : Script) (view : script_view script ≡ script_view other) where
  same_meaning : (a b : Result (State × Asked) ElabFault) → meaning (script_view script) ≡ a → meaning (script_view other) ≡ b → a ≡ b
  same_meaning a b h k = sym h ∙ ap meaning view ∙ k

  -- a script stands for one problem, with one list of settings
  pub one_work : (w v : Work) → Elaborates (Ok w) script → Elaborates (Ok v) other → w ≡ v
  one_work w v (s, (q, (m, is_w))) (t, (u, (n, is_v))) =
      let both : (t, u) ≡ (s, q) = same_Ok {A = State × Asked} {E = ElabFault} (t, u) (s, q) (sym (same_meaning (Ok (s, q)) (Ok (t, u)) m n)) in
      let also : IsWork s q v = subst (λ (x : State × Asked). IsWork x.0 x.1 v) both is_v in
      same_work w v (one_problem s.nodes (roots_in s q) w.problem v.problem is_w.problem also.problem) (is_w.events ∙ sym also.events) (is_w.last ∙ sym also.last)

  -- and then carrying it out has no fault
  pub work_apart : (w : Work) (f : ElabFault) → f ≢ elabs.Memory → Elaborates (Ok w) script → Elaborates (Err f) other → ⊥
  work_apart w f n h k = let e = same_meaning (Ok (h.0, h.1.0)) (Err f) h.1.1.0 (failed f (meaning (script_view other)) n k) in cc

  -- carrying it out has one first fault
  one_failure : (f g : ElabFault) → f ≢ elabs.Memory → g ≢ elabs.Memory → Elaborates (Err f) script → Elaborates (Err g) other → f ≡ g
  one_failure f g m n h k = let e = same_meaning (Err f) (Err g) (failed f (meaning (script_view script)) m h) (failed g (meaning (script_view other)) n k) in cc

module _ (script other : Script) (view : script_view script ≡ script_view other) (given another : Given) where
  one_work_given : (w v : Work) → Elaborates (Ok w) script → Judges w given → Elaborates (Ok v) other → Judges v another → AreOneAnswer given another
  one_work_given w v h c k d = one_judged v given another (subst (λ (x : Work). Judges x given) (one_work script other view w v h k) c) d

  work_or_fault : (w : Work) (f : ElabFault) → Elaborates (Ok w) script → Elaborates (Err f) other → (f ≡ elabs.Memory) ⊎ (f ≢ elabs.Memory)
      → EndsAs (elab_ending f) another → AreOneAnswer given another
  work_or_fault w f h k (inl e) d = to_memory given another (elab_wants f another e d)
  work_or_fault w f h k (inr n) d = absurd (work_apart script other view w f n h k)

  fault_or_work : (f : ElabFault) (v : Work) → Elaborates (Err f) script → Elaborates (Ok v) other → (f ≡ elabs.Memory) ⊎ (f ≢ elabs.Memory) → EndsAs (elab_ending f) given → AreOneAnswer given another
  fault_or_work f v h k (inl e) c = from_memory given another (elab_wants f given e c)
  fault_or_work f v h k (inr n) c = absurd (work_apart other script (sym view) v f n k h)

  fault_or_fault : (f g : ElabFault) → Elaborates (Err f) script → Elaborates (Err g) other → (f ≡ elabs.Memory) ⊎ (f ≢ elabs.Memory) → (g ≡ elabs.Memory) ⊎ (g ≢ elabs.Memory)
      → EndsAs (elab_ending f) given → EndsAs (elab_ending g) another → AreOneAnswer given another
  fault_or_fault f g h k (inl e) o c d = from_memory given another (elab_wants f given e c)
  fault_or_fault f g h k (inr m) (inl e) c d = to_memory given another (elab_wants g another e d)
  fault_or_fault f g h k (inr m) (inr n) c d =
      let same : g ≡ f = sym (one_failure script other view f g m n h k) in
      one_ending (elab_ending f) given another c (subst (λ x. EndsAs (elab_ending x) another) same d)

  one_script_given : GivesOfScript script given → GivesOfScript other another → AreOneAnswer given another
  one_script_given (stands_for w h c) (stands_for v k d) = one_work_given w v h c k d
  one_script_given (stands_for w h c) (faulty g k d) = work_or_fault w g h k (elab_either g) d
  one_script_given (faulty f h c) (stands_for v k d) = fault_or_work f v h k (elab_either f) c
  one_script_given (faulty f h c) (faulty g k d) = fault_or_fault f g h k (elab_either f) (elab_either g) c d

-- ---- bytes
module _ (bytes : List ℕ) (given another : Given) where
  script_or_fault : (script : Script) (f : ReadFault) → IsReading bytes (Ok script) → IsReading bytes (Err f) → (f ≡ reads.Memory) ⊎ (f ≢ reads.Memory)
      → EndsAs (read_ending f) another → AreOneAnswer given another
  script_or_fault script f h k (inl e) d = to_memory given another (read_wants f another e d)
  script_or_fault script f h k (inr n) d = absurd (script_apart bytes script f n h k)

  fault_or_script : (f : ReadFault) (script : Script) → IsReading bytes (Err f) → IsReading bytes (Ok script) → (f ≡ reads.Memory) ⊎ (f ≢ reads.Memory)
      → EndsAs (read_ending f) given → AreOneAnswer given another
  fault_or_script f script h k (inl e) c = from_memory given another (read_wants f given e c)
  fault_or_script f script h k (inr n) c = absurd (script_apart bytes script f n k h)

  unread_or_unread : (f g : ReadFault) → IsReading bytes (Err f) → IsReading bytes (Err g) → (f ≡ reads.Memory) ⊎ (f ≢ reads.Memory) → (g ≡ reads.Memory) ⊎ (g ≢ reads.Memory)
      → EndsAs (read_ending f) given → EndsAs (read_ending g) another → AreOneAnswer given another
  unread_or_unread f g h k (inl e) o c d = from_memory given another (read_wants f given e c)
  unread_or_unread f g h k (inr m) (inl e) c d = to_memory given another (read_wants g another e d)
  unread_or_unread f g h k (inr m) (inr n) c d =
      let same : g ≡ f = sym (one_fault bytes f g m n h k) in
      one_ending (read_ending f) given another c (subst (λ x. EndsAs (read_ending x) another) same d)

one_answer_of : (bytes : List ℕ) (given other : Given) → Gives bytes given → Gives bytes other → AreOneAnswer given other
one_answer_of bytes given another (spells s h c) (spells t k d) = one_script_given s t (one_script bytes s t h k) given another c d
one_answer_of bytes given another (spells s h c) (unread g k d) = script_or_fault bytes given another s g h k (read_either g) d
one_answer_of bytes given another (unread f h c) (spells t k d) = fault_or_script bytes given another f t h k (read_either f) c
one_answer_of bytes given another (unread f h c) (unread g k d) = unread_or_unread bytes given another f g h k (read_either f) (read_either g) c d

pub one_answer : HasOneAnswer
one_answer bytes given h other k = one_answer_of bytes given other h k
