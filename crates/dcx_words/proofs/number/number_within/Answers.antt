-- A text that isn't parsed spells no number within the bounds.
use Rattle.std.proofs.Common.{rules, sym}
use Rattle.dcx_words.proofs.Numerals.{no_parsed_number}
use Rattle.dcx_words.proofs.number.number_within.Goals as goal

pub returns-in-Err : goal.returns-in-Err
returns-in-Err c = sym (no_parsed_number c.args.longest c.args.least c.args.most c.in-Err.field-0 c.args.text.now c.in-Err.ensures.value.0 (search rules) c.ranges.most.fits)
