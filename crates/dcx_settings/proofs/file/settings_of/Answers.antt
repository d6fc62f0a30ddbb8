-- Where tokens are refused.
use Rattle.std.proofs.Common.{◌<◌, length, sym, ap, ◌∙◌, subst}
use Rattle.dcx_settings.specs.Terminal.{terminals}
use Rattle.dcx_settings.specs.Meaning.{AreSettings}
use Rattle.dcx_settings.specs.File.{most_settings}
use Rattle.dcx_settings.proofs.file.settings_of.Goals as goal
use Rattle.dcx_settings.proofs.Files.{too_many_at}

pub returns-else-as_slice-le-MOST_SETTINGS : goal.returns-else-as_slice-le-MOST_SETTINGS
returns-else-as_slice-le-MOST_SETTINGS c =
    let bytes = c.as_bytes-bytes.ensures.value in
    let ts = c.args.tokens.now in
    too_many_at c.args.text.now ts c.in-Ok.settings c.behind_lines-index.result c.place_at.result
    (subst (λ b. AreSettings (terminals b ts) c.in-Ok.settings) bytes c.in-Ok.ensures.ok)
    (subst (λ xs. most_settings < length xs) c.as_slice.ensures c.if-as_slice-le-MOST_SETTINGS.false)
    (λ lines e. c.behind_lines-index.ensures lines (e ∙ ap (λ b. terminals b ts) (sym bytes)))
    c.place_at.ensures
