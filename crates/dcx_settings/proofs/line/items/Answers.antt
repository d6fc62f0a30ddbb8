-- A line begins without items and names.
use Rattle.std.proofs.Common.{subst, sym}
use Rattle.dcx_settings.specs.Terminal.{terminals}
use Rattle.dcx_settings.specs.Steps.{IsLineRead}
use Rattle.dcx_settings.proofs.Lines.{no_names}
use Rattle.dcx_settings.proofs.line.items.Goals as goal

pub push_items-requires-clause-unnamed : goal.push_items-requires-clause-unnamed
push_items-requires-clause-unnamed c = no_names c.new-names.result c.new-names.ensures.empty

pub returns-clause-ok : goal.returns-clause-ok
returns-clause-ok c =
    subst (λ xs. IsLineRead (terminals c.args.text.now c.args.tokens.now) xs (terminals c.args.text.now c.in_ok-behind.behind.now)) (sym c.from_vec.ensures) c.in_ok-behind.ensures.ok
