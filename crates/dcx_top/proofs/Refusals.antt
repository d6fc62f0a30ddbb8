-- What a refusal says of files that are told: one fault, and no other.
use Rattle.std.proofs.Common.{◌≡◌, inl, inr, ℕ, ◌<◌, ◌≤◌, List, length, Option, Some, Ok, Err, refl, sym, ap, subst, ◌∙◌, arith}
use Rattle.std.proofs.lemmas.Option.{none-some, same_Some}
use Rattle.dcx_tokens.specs.declared.fault.ReadFault.{ReadFault}
use Rattle.dcx_tokens.specs.declared.fault.ReadFault.TheVariants as reads
use Rattle.dcx_tokens.specs.Position.{start_of_text}
use Rattle.dcx_read.specs.Parses.{IsReading, no_text as no_script_text}
use Rattle.dcx_read.proofs.OneReading.{one_script as one_view}
use Rattle.dcx_settings.specs.declared.settings.SettingItem.{SettingItem}
use Rattle.dcx_settings.specs.File.{IsRefused, SpellSettings, no_text as no_settings_text}
use Rattle.dcx_settings.proofs.OneAnswer.{refused_one, settings_apart}
use Rattle.dcx_host.specs.Files.{Files}
use Rattle.dcx_elab.specs.declared.work.Work.{Work}
use Rattle.dcx_point.specs.Pairs.{Pairs}
use Rattle.dcx_tree.specs.declared.problem.Problem.{Problem}
use Rattle.dcx_shape.specs.declared.place.Place.{Place}
use Rattle.dcx_answer.specs.declared.not_ranged.NotRanged.{NotRanged as Fault}
use Rattle.dcx_answer.specs.declared.not_ranged.NotRanged.TheVariants as faults
use Rattle.dcx_outcomes.proofs.RangeEnds.{range_is_told}
use Rattle.dcx_front.specs.declared.fault.FrontFault.TheVariants as front
use Rattle.dcx_refusal.specs.declared.refusal.Refusal.{Refusal}
use Rattle.dcx_refusal.specs.declared.refusal.Carried.TheVariants.{Nothing, NotRanged}
use Rattle.dcx_refusal.specs.declared.refusal.RefusalSource.TheVariants.{Script, Settings, Certificate}
use Rattle.dcx_refusal.specs.Made.{IsTooLong, IsRefusedAs}
use Rattle.dcx_front.specs.Accepts.{Given, unread, Ending, refused, without_memory, IsRefusedBy, read_ending}
use Rattle.dcx_front.specs.OneAnswer.{IsWithoutFault}
use Rattle.dcx_front.proofs.OneAnswer.{one_answer, one_work}
use Rattle.dcx_front.proofs.OneVerdict.{apart, refused_for}
use Rattle.dcx_front.proofs.OneCheck.{one_refusal}
use Rattle.dcx_words.specs.Commands.{Command, check, solve, resolve, certificate, certify, migrate, trial, iis, range, command_of}
use Rattle.dcx_top.specs.Commands.{IsScriptOf, script_name, settings_name, certificate_name, parameter_name, AreOfFile, AreSettingsOf}
use Rattle.dcx_top.specs.Files.{most_bytes, RefusesScript, RefusesSettings}
use Rattle.dcx_top.specs.Asked.{IsAcceptedWork}
use Rattle.dcx_top.specs.Runs.{IsRefusedRun, long_script, bad_script, for_whole, for_range, bad_settings, long_certificate}
use Rattle.dcx_top.specs.NoRange.{IsPlaceOf, IsRefusedForRange, AllowsRange}
use Rattle.dcx_top.proofs.Named.{reads_no_parameter}
use Rattle.dcx_declared.specs.Whole.{HasNoWhole}
use Rattle.dcx_declared.proofs.Marked.{places_are_one}
use Rattle.dcx_top.specs.Whole.{IsRefusedForWhole, RefusesWhole, Takes}

-- ---- answers of the front
same_refused : (r t : Refusal) → ◌≡◌ {A = Given} (Err (front.Refused r)) (Err (front.Refused t)) → r ≡ t
same_refused r t e = cc

-- the bytes of a script whose problem is accepted have no fault
abbrev pub without_fault : (told : Option Files) (command : Command) (work : Work) (g : IsAcceptedWork told command work) → IsWithoutFault g.bytes
without_fault told command work g = record { script = g.script; spelled = g.spelled; work = work; stands_for = g.stands_for; accepted = g.accepted }

-- a work is that of another command too whose script has the same bytes
abbrev pub of_other : (told other : Option Files) (command twin : Command) (work : Work) (h : IsAcceptedWork told command work) → IsScriptOf other twin h.bytes → IsAcceptedWork other twin work
of_other told other command twin work h are =
    record { bytes = h.bytes; are_of = are; script = h.script; spelled = h.spelled; stands_for = h.stands_for; accepted = h.accepted; convex = h.convex }

-- ---- the bytes of a command's files
module _ (files : Files) where
  told_once : (name b c : List ℕ) → files name ≡ Some b → files name ≡ Some c → b ≡ c
  told_once name b c h k = same_Some b c (sym h ∙ k)

  pub one_script : (command : Command) (b c : List ℕ) → IsScriptOf (Some files) command b → IsScriptOf (Some files) command c → b ≡ c
  one_script (check script) b c h k = told_once script b c h k
  one_script (solve script limit) b c h k = told_once script b c h k
  one_script (resolve script settings limit warm) b c h k = told_once script b c h k
  one_script (certificate script settings limit) b c h k = told_once script b c h k
  one_script (certify script settings cert) b c h k = told_once script b c h k
  one_script (migrate script settings cert) b c h k = told_once script b c h k
  one_script (trial size limit) b c h k = h ∙ sym k
  one_script (iis script settings limit) b c h k = told_once script b c h k
  one_script (range script settings parameter limit) b c h k = told_once script b c h k

  script_is : (command : Command) (name bytes : List ℕ) → script_name command ≡ Some name → files name ≡ Some bytes → IsScriptOf (Some files) command bytes
  script_is (check script) name bytes e h = subst (λ n. files n ≡ Some bytes) (sym (same_Some script name e)) h
  script_is (solve script limit) name bytes e h = subst (λ n. files n ≡ Some bytes) (sym (same_Some script name e)) h
  script_is (resolve script settings limit warm) name bytes e h = subst (λ n. files n ≡ Some bytes) (sym (same_Some script name e)) h
  script_is (certificate script settings limit) name bytes e h = subst (λ n. files n ≡ Some bytes) (sym (same_Some script name e)) h
  script_is (certify script settings cert) name bytes e h = subst (λ n. files n ≡ Some bytes) (sym (same_Some script name e)) h
  script_is (migrate script settings cert) name bytes e h = subst (λ n. files n ≡ Some bytes) (sym (same_Some script name e)) h
  script_is (trial size limit) name bytes e h = absurd (none-some name e)
  script_is (iis script settings limit) name bytes e h = subst (λ n. files n ≡ Some bytes) (sym (same_Some script name e)) h
  script_is (range script settings parameter limit) name bytes e h = subst (λ n. files n ≡ Some bytes) (sym (same_Some script name e)) h

  -- the work that a script stands for is one
  pub one_problem : (command : Command) (a b : Work) → IsAcceptedWork (Some files) command a → IsAcceptedWork (Some files) command b → a ≡ b
  one_problem command a b g h =
      let spelled = subst (λ x. IsReading x (Ok g.script)) (one_script command g.bytes h.bytes g.are_of h.are_of) g.spelled in
      one_work g.script h.script (one_view h.bytes g.script h.script spelled h.spelled) a b g.stands_for h.stands_for

  -- the settings of a file are spelled by its bytes
  spelled_in : (file : List ℕ) (work : Work) (settings : List Pairs) (name bytes : List ℕ) → AreOfFile (Some files) file work.last settings → Some file ≡ Some name → files name ≡ Some bytes
      → (lines : List (List SettingItem)) × SpellSettings bytes lines
  spelled_in file work settings name bytes are e h =
      let same = told_once name are.bytes bytes (subst (λ n. files n ≡ Some are.bytes) (same_Some file name e) are.are_told) h in
      (are.lines, subst (λ b. SpellSettings b are.lines) same are.spelled)

  -- settings at which the problem is solved are spelled by the settings file, where there is one
  pub spelled_by : (command : Command) (work : Work) (settings : List Pairs) (name bytes : List ℕ) → AreSettingsOf (Some files) command work settings → settings_name command ≡ Some name
      → files name ≡ Some bytes
      → (lines : List (List SettingItem)) × SpellSettings bytes lines
  spelled_by (check script) work settings name bytes are e h = absurd (none-some name e)
  spelled_by (solve script limit) work settings name bytes are e h = absurd (none-some name e)
  spelled_by (resolve script file limit warm) work settings name bytes are e h = spelled_in file work settings name bytes are e h
  spelled_by (certificate script file limit) work settings name bytes are e h = spelled_in file work settings name bytes are e h
  spelled_by (certify script file cert) work settings name bytes are e h = spelled_in file work settings name bytes are e h
  spelled_by (migrate script file cert) work settings name bytes are e h = spelled_in file work settings name bytes are e h
  spelled_by (trial size limit) work settings name bytes are e h = absurd (none-some name e)
  spelled_by (iis script file limit) work settings name bytes are e h = spelled_in file work settings name bytes are e h
  spelled_by (range script file parameter limit) work settings name bytes are e h = spelled_in file work settings name bytes are e h

-- ---- what is refused
-- the script, for what stands in it, for a variable that is to be whole or for a range that a parameter lacks, or else the settings file, or else the certificate for its
-- length
pub data Refuses (files : Files) (command : Command) (r : Refusal) : Type 0 where
  in_script : (bytes : List ℕ) → IsScriptOf (Some files) command bytes → RefusesScript bytes r → Refuses files command r
  in_problem : (a : Work) → IsAcceptedWork (Some files) command a → RefusesWhole command → IsRefusedForWhole a.problem r → Refuses files command r
  in_range : (a : Work) (name : List ℕ) → IsAcceptedWork (Some files) command a → HasNoWhole a.problem → parameter_name command ≡ Some name → IsRefusedForRange a.problem name r
      → Refuses files command r
  in_settings : (a : Work) (name bytes : List ℕ) → IsAcceptedWork (Some files) command a → Takes command a.problem → AllowsRange command a.problem → settings_name command ≡ Some name
      → files name ≡ Some bytes → RefusesSettings bytes r → Refuses files command r
  in_length : (a : Work) (settings : List Pairs) (name bytes : List ℕ) → IsAcceptedWork (Some files) command a → HasNoWhole a.problem → AreSettingsOf (Some files) command a settings
      → certificate_name command ≡ Some name
      → files name ≡ Some bytes → most_bytes Certificate < length bytes → IsTooLong Certificate r → Refuses files command r

module _ (words : List (List ℕ)) (files : Files) (command : Command) (form : command_of words ≡ Some command) where
  pub same_command : (c : Command) → command_of words ≡ Some c → c ≡ command
  same_command c e = same_Some c command (sym e ∙ form)

  -- a file that is too long is no text
  of_command : (r : Refusal) (c : Command) → command_of words ≡ Some c → Refuses files c r → Refuses files command r
  of_command r c e h = subst (λ d. Refuses files d r) (same_command c e) h

  pub refuses : (r : Refusal) → IsRefusedRun words (Some files) r → Refuses files command r
  refuses r (long_script c name e is (long, (bytes, there, more))) =
      of_command r c e (in_script bytes (script_is files c name bytes is there) (unread (reads.TooLong start_of_text.place) (no_script_text (more, refl)) long))
  refuses r (bad_script c bytes e of h) = of_command r c e (in_script bytes of h)
  refuses r (for_whole c a e g refusing h) = of_command r c e (in_problem a g refusing h)
  refuses r (for_range c a name e g free is h) = of_command r c e (in_range a name g free is h)
  refuses r (bad_settings c a name e g free allows is (inl (long, (bytes, there, more)))) =
      of_command r c e (in_settings a name bytes g free allows is there (record { fault = reads.TooLong start_of_text.place; refused = no_settings_text (more, refl); told = long }))
  refuses r (bad_settings c a name e g free allows is (inr (bytes, there, h))) = of_command r c e (in_settings a name bytes g free allows is there h)
  refuses r (long_certificate c f (long, (bytes, there, more))) = of_command r c f.asked.form (in_length f.asked.work f.asked.settings f.name bytes f.asked.problem f.asked.marks
      f.asked.are_of f.named there more long)

-- what a script is refused for, where a variable is to be whole, is one
one_whole : (p : Problem) (r t : Refusal) → IsRefusedForWhole p r → IsRefusedForWhole p t → r ≡ t
one_whole p r t h k =
    one_refusal Script 34 k.place Nothing r t (subst (λ z. IsRefusedAs Script 34 z Nothing r) (places_are_one.of_wholes p h.place k.place h.stands k.stands) h.refusal) k.refusal

-- what a script is refused for, where a parameter has no range, is one, and so is its place
one_place : (fault : Fault) (p : Problem) (name : List ℕ) (a b : Place) → IsPlaceOf fault p name a → IsPlaceOf fault p name b → a ≡ b
one_place faults.Unknown p name a b h k = h ∙ sym k
one_place faults.Shape p name a b h k = places_are_one.of_names p name a b h k
one_place faults.Map p name a b h k = places_are_one.of_names p name a b h k
one_place faults.Coefficient p name a b h k = places_are_one.of_names p name a b h k

one_lack : (p : Problem) (name : List ℕ) (r t : Refusal) → IsRefusedForRange p name r → IsRefusedForRange p name t → r ≡ t
one_lack p name r t h k =
    let fault = range_is_told.once p name h.fault k.fault h.lacks k.lacks in
    let place = one_place k.fault p name h.place k.place (subst (λ (f : Fault). IsPlaceOf f p name h.place) fault h.stands) k.stands in
    one_refusal Script 35 k.place (NotRanged k.fault) r t
    (subst (λ z. IsRefusedAs Script 35 z (NotRanged k.fault) r) place (subst (λ (f : Fault). IsRefusedAs Script 35 h.place (NotRanged f) r) fault h.refusal)) k.refusal

-- an ending is told by one refusal
one_told : (e : Ending) (r t : Refusal) → IsRefusedBy Settings e r → IsRefusedBy Settings e t → r ≡ t
one_told (refused number place carried) r t h k = one_refusal Settings number place carried r t h k
one_told without_memory r t h k = absurd h

module _ (files : Files) (command : Command) where
  one_settings : (name other b c : List ℕ) → settings_name command ≡ Some name → settings_name command ≡ Some other → files name ≡ Some b → files other ≡ Some c → b ≡ c
  one_settings name other b c e f h k = same_Some b c (sym h ∙ ap files (same_Some name other (sym e ∙ f)) ∙ k)

  in_script_once : (a : Work) (r : Refusal) (b : List ℕ) → IsAcceptedWork (Some files) command a → IsScriptOf (Some files) command b → RefusesScript b r → ⊥
  in_script_once a r b g of h = apart g.bytes (without_fault (Some files) command a g) (refused_for g.bytes r (subst (λ x. RefusesScript x r) (one_script files command b g.bytes of g.are_of) h))

  in_problem_once : (a b : Work) (r t : Refusal) → IsAcceptedWork (Some files) command a → IsAcceptedWork (Some files) command b → IsRefusedForWhole a.problem r
      → IsRefusedForWhole b.problem t → r ≡ t
  in_problem_once a b r t g i h k =
      one_whole b.problem r t (subst (λ (x : Work). IsRefusedForWhole x.problem r) (one_problem files command a b g i) h) k

  whole_or_free : (a b : Work) (r : Refusal) → IsAcceptedWork (Some files) command a → IsAcceptedWork (Some files) command b → IsRefusedForWhole a.problem r → HasNoWhole b.problem → ⊥
  whole_or_free a b r g i h free =
      let k = subst (λ (x : Work). IsRefusedForWhole x.problem r) (one_problem files command a b g i) h in
      free k.stands.number k.stands.first.is

  -- a settings file that gives settings isn't refused
  settings_or_not : (work : Work) (settings : List Pairs) (name bytes : List ℕ) (fault : ReadFault) → AreSettingsOf (Some files) command work settings → settings_name command ≡ Some name
      → files name ≡ Some bytes → IsRefused bytes fault → ⊥
  settings_or_not work settings name bytes fault are is there h =
      let (lines, spelled) = spelled_by files command work settings name bytes are is there in
      settings_apart bytes lines fault spelled h

  -- a range that a parameter lacks
  in_range_once : (a b : Work) (name other : List ℕ) (r t : Refusal) → IsAcceptedWork (Some files) command a → IsAcceptedWork (Some files) command b → parameter_name command ≡ Some name
      → parameter_name command ≡ Some other
      → IsRefusedForRange a.problem name r → IsRefusedForRange b.problem other t → r ≡ t
  in_range_once a b name other r t g i is also h k =
      let here = subst (λ (x : Work). IsRefusedForRange x.problem name r) (one_problem files command a b g i) h in
      one_lack b.problem other r t (subst (λ n. IsRefusedForRange b.problem n r) (same_Some name other (sym is ∙ also)) here) k

  range_or_lack : (a b : Work) (name : List ℕ) (r : Refusal) → IsAcceptedWork (Some files) command a → IsAcceptedWork (Some files) command b → parameter_name command ≡ Some name
      → IsRefusedForRange a.problem name r → AllowsRange command b.problem → ⊥
  range_or_lack a b name r g i is h allows =
      let here = subst (λ (x : Work). IsRefusedForRange x.problem name r) (one_problem files command a b g i) h in
      range_is_told.never_both b.problem name here.fault (allows name is) here.lacks

  pub one_refused : (r t : Refusal) → Refuses files command r → Refuses files command t → r ≡ t
  one_refused r t (in_script b of h) (in_script c also k) =
      same_refused r t (one_answer c (Err (front.Refused r)) (subst (λ x. RefusesScript x r) (one_script files command b c of also) h) (Err (front.Refused t)) k)
  one_refused r t (in_script b of h) (in_problem a g refusing k) = absurd (in_script_once a r b g of h)
  one_refused r t (in_script b of h) (in_settings a name c g free allows is there k) = absurd (in_script_once a r b g of h)
  one_refused r t (in_script b of h) (in_length a settings name c g free asked named there more long) = absurd (in_script_once a r b g of h)
  one_refused r t (in_script b of h) (in_range a name g free is k) = absurd (in_script_once a r b g of h)
  one_refused r t (in_range a name g free is k) (in_script b of h) = absurd (in_script_once a t b g of h)
  one_refused r t (in_range a name g free is h) (in_problem b i refusing k) = absurd (whole_or_free b a t i g k free)
  one_refused r t (in_range a name g free is h) (in_range b other i unmarked also k) = in_range_once a b name other r t g i is also h k
  one_refused r t (in_range a name g free is h) (in_settings b other c i unmarked allows known there k) = absurd (range_or_lack a b name r g i is h allows)
  one_refused r t (in_range a name g free is h) (in_length b settings other c i unmarked asked named there more long) = absurd (reads_no_parameter command name other is named)
  one_refused r t (in_problem a g refusing h) (in_range b name i free is k) = absurd (whole_or_free a b r g i h free)
  one_refused r t (in_length b settings other c i free asked named there more long) (in_range a name g unmarked is h) = absurd (reads_no_parameter command name other is named)
  one_refused r t (in_settings b other c i free allows known there k) (in_range a name g unmarked is h) = absurd (range_or_lack a b name t g i is h allows)
  one_refused r t (in_problem a g refusing k) (in_script b of h) = absurd (in_script_once a t b g of h)
  one_refused r t (in_problem a g refusing h) (in_problem b i also k) = in_problem_once a b r t g i h k
  one_refused r t (in_problem a g refusing h) (in_settings b name c i taken allows is there k) = absurd (whole_or_free a b r g i h (taken refusing))
  one_refused r t (in_problem a g refusing h) (in_length b settings name c i free asked named there more long) = absurd (whole_or_free a b r g i h free)
  one_refused r t (in_length b settings name c i free asked named there more long) (in_script d of h) = absurd (in_script_once b t d i of h)
  one_refused r t (in_length b settings name c i free asked named there more long) (in_problem a g refusing h) = absurd (whole_or_free a b t g i h free)
  one_refused r t (in_length b settings name c i free asked named there more long) (in_settings a other d g unmarked allows is here k) =
      absurd (settings_or_not b settings other d k.fault asked is here k.refused)
  one_refused r t (in_length b settings name c i free asked named there more long) (in_length a others other d g unmarked also known here most such) = one_refusal Certificate 8 _ _ r t long such
  one_refused r t (in_settings a other d g unmarked allows is here k) (in_length b settings name c i free asked named there more long) =
      absurd (settings_or_not b settings other d k.fault asked is here k.refused)
  one_refused r t (in_settings a name c g free allows is there k) (in_script b of h) = absurd (in_script_once a t b g of h)
  one_refused r t (in_settings b name c i taken allows is there k) (in_problem a g refusing h) = absurd (whole_or_free a b t g i h (taken refusing))
  one_refused r t (in_settings a name b g free allows is there h) (in_settings d other c i unmarked permits also here k) =
      let same = one_settings name other b c is also there here in
      let fault = refused_one c h.fault k.fault (subst (λ x. IsRefused x h.fault) same h.refused) k.refused in
      one_told (read_ending k.fault) r t (subst (λ f. IsRefusedBy Settings (read_ending f) r) fault h.told) k.told

  -- it is refused for the length of its certificate
  pub record IsForLength (r : Refusal) : Type 0 where
    pub name : List ℕ
    pub named : certificate_name command ≡ Some name
    pub bytes : List ℕ
    pub there : files name ≡ Some bytes
    pub more : most_bytes Certificate < length bytes
    pub refusal : IsTooLong Certificate r

  -- nothing else is refused where the problem is solved, or where a certificate is checked
  pub for_length : (a : Work) (settings : List Pairs) (r : Refusal) → IsAcceptedWork (Some files) command a → Takes command a.problem → AllowsRange command a.problem
      → AreSettingsOf (Some files) command a settings → Refuses files command r → IsForLength r
  for_length a settings r g taken allowed are (in_script b of h) = absurd (in_script_once a r b g of h)
  for_length a settings r g taken allowed are (in_problem b i refusing h) = absurd (whole_or_free b a r i g h (taken refusing))
  for_length a settings r g taken allowed are (in_range b name i unmarked is h) = absurd (range_or_lack b a name r i g is h allowed)
  for_length a settings r g taken allowed are (in_settings d name bytes i unmarked allows is there h) = absurd (settings_or_not a settings name bytes h.fault are is there h.refused)
  for_length a settings r g taken allowed are (in_length d others name bytes i unmarked asked named there more long) =
      record { name = name; named = named; bytes = bytes; there = there; more = more; refusal = long }

  -- the certificate isn't too long, where there is one
  abbrev pub IsShort : Type 0
  IsShort = (name bytes : List ℕ) → certificate_name command ≡ Some name → files name ≡ Some bytes → length bytes ≤ most_bytes Certificate

  -- then nothing is refused
  pub never_refused : (a : Work) (settings : List Pairs) (r : Refusal) → IsAcceptedWork (Some files) command a → Takes command a.problem → AllowsRange command a.problem
      → AreSettingsOf (Some files) command a settings → IsShort → Refuses files command r → ⊥
  never_refused a settings r g taken allowed are short h =
      let long = for_length a settings r g taken allowed are h in
      let few = short long.name long.bytes long.named long.there in
      omega (arith, few, long.more)

-- nor where it is checked
pub never_refused_check : (files : Files) (script : List ℕ) (a : Work) (r : Refusal) → IsAcceptedWork (Some files) (check script) a → Refuses files (check script) r → ⊥
never_refused_check files script a r g (in_script b of h) = in_script_once files (check script) a r b g of h
never_refused_check files script a r g (in_problem b i refusing h) = refusing
never_refused_check files script a r g (in_range d name i free is h) = none-some name is
never_refused_check files script a r g (in_settings d name bytes i free allows is there h) = none-some name is
never_refused_check files script a r g (in_length d settings name bytes i free asked named there more long) = none-some name named
