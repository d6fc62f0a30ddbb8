-- The settings of a command are one.
use Rattle.std.proofs.Common.{◌≡◌, ℕ, List, Some, sym, subst, ◌∙◌}
use Rattle.std.proofs.lemmas.Option.{same_Some}
use Rattle.dcx_point.specs.Pairs.{Pairs}
use Rattle.dcx_host.specs.Files.{Files}
use Rattle.dcx_elab.specs.declared.work.Work.{Work}
use Rattle.dcx_settings.specs.File.{SpellSettings}
use Rattle.dcx_settings.proofs.OneList.{settings_one}
use Rattle.dcx_words.specs.Commands.{Command, check, solve, resolve, certificate, certify, migrate, trial, iis, range}
use Rattle.dcx_overlay.specs.Settings.{AreLaidOver}
use Rattle.dcx_overlay.proofs.OneSetting.{settings_are_one}
use Rattle.dcx_top.specs.Commands.{AreOfFile, AreSettingsOf}

module _ (files : Files) where
  one_of_file : (name : List ℕ) (last : Pairs) (ss ts : List Pairs) → AreOfFile (Some files) name last ss → AreOfFile (Some files) name last ts → ss ≡ ts
  one_of_file name last ss ts h k =
      let bytes = same_Some h.bytes k.bytes (sym h.are_told ∙ k.are_told) in
      let lines = settings_one k.bytes h.lines k.lines (subst (λ b. SpellSettings b h.lines) bytes h.spelled) k.spelled in
      settings_are_one.laid last k.lines ss ts (subst (λ l. AreLaidOver last l ss) lines h.laid) k.laid

  pub one_settings : (command : Command) (work : Work) (ss ts : List Pairs) → AreSettingsOf (Some files) command work ss → AreSettingsOf (Some files) command work ts → ss ≡ ts
  one_settings (check script) work ss ts h k = absurd h
  one_settings (solve script limit) work ss ts h k = h ∙ sym k
  one_settings (resolve script name limit warm) work ss ts h k = one_of_file name work.last ss ts h k
  one_settings (certificate script name limit) work ss ts h k = one_of_file name work.last ss ts h k
  one_settings (certify script name cert) work ss ts h k = one_of_file name work.last ss ts h k
  one_settings (migrate script name cert) work ss ts h k = one_of_file name work.last ss ts h k
  one_settings (trial size limit) work ss ts h k = settings_are_one.trial work.last ss ts h k
  one_settings (iis script name limit) work ss ts h k = one_of_file name work.last ss ts h k
  one_settings (range script name parameter limit) work ss ts h k = one_of_file name work.last ss ts h k
