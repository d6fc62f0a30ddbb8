-- What words ask of files that are told is one.
use Rattle.std.proofs.Common.{◌≡◌, ℕ, List, Some, sym, subst, ◌∙◌}
use Rattle.std.proofs.lemmas.Option.{same_Some}
use Rattle.dcx_point.specs.Pairs.{Pairs}
use Rattle.dcx_tree.specs.declared.problem.Problem.{Problem}
use Rattle.dcx_elab.specs.declared.work.Work.{Work}
use Rattle.dcx_host.specs.Files.{Files}
use Rattle.dcx_words.specs.Commands.{Command}
use Rattle.dcx_top.specs.Commands.{AreSettingsOf}
use Rattle.dcx_top.specs.Asked.{Asked}
use Rattle.dcx_top.proofs.Refusals.{one_problem}
use Rattle.dcx_top.proofs.OneSettings.{one_settings}

module _ (words : List (List ℕ)) (files : Files) (M N : Problem → Type 0) where
  pub asked_of_one : (c d : Command) → Asked words (Some files) c M → Asked words (Some files) d N → c ≡ d
  asked_of_one c d h k = same_Some c d (sym h.form ∙ k.form)

  of_command : (P : Command → Work → List Pairs → Type 0) (c : Command) (h : Asked words (Some files) c M) (k : Asked words (Some files) c N) → P c k.work k.settings → P c h.work h.settings
  of_command P c h k p =
      let works = one_problem files c h.work k.work h.problem k.problem in
      let lists = one_settings files c k.work h.settings k.settings (subst (λ (w : Work). AreSettingsOf (Some files) c w h.settings) works h.are_of) k.are_of in
      subst (λ (w : Work). P c w h.settings) (sym works) (subst (P c k.work) (sym lists) p)

  -- what holds of it, as the words ask one time, holds of it as they ask another time
  pub asked_once : (P : Command → Work → List Pairs → Type 0) (c d : Command) (h : Asked words (Some files) c M) (k : Asked words (Some files) d N) → P d k.work k.settings → P c h.work h.settings
  asked_once P c d h k = subst (λ e. (x : Asked words (Some files) e N) → P e x.work x.settings → P c h.work h.settings) (asked_of_one c d h k) (λ x. of_command P c h x) k
