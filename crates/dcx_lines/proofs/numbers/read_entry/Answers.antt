-- A blank, and then the number.
use Rattle.std.proofs.Common.{◌≡◌, ◌∷◌, ◌++◌, sym, ◌∙◌}
use Rattle.dcx_frac.specs.Text.{frac_text}
use Rattle.dcx_lines.specs.Pieces.{entry_text}
use Rattle.dcx_lines.proofs.Entries.{ink_read}
use Rattle.dcx_lines.proofs.numbers.read_entry.Goals as goal

pub returns-in-Some-clause-read : goal.returns-in-Some-clause-read
unfolding entry_text
returns-in-Some-clause-read c = ink_read c.args.bytes.now c.in-Some.ink.now c.read_ink.result c.in-Some.ensures c.read_ink.ensures.read

pub returns-in-Some-clause-every : goal.returns-in-Some-clause-every
unfolding entry_text
returns-in-Some-clause-every c = λ f rest begins e.
    let same : 32 ∷ c.in-Some.ink.now ≡ 32 ∷ (frac_text f ++ rest) = sym c.in-Some.ensures ∙ e in
    let ink : c.in-Some.ink.now ≡ frac_text f ++ rest = cc in
    c.read_ink.ensures.every f rest begins ink

pub returns-in-None-clause-every : goal.returns-in-None-clause-every
unfolding entry_text
returns-in-None-clause-every c = λ f rest begins e. c.in-None.ensures (frac_text f ++ rest) e
