-- By its form a list is fit exactly where it is read as something, which is so of few enough items.
use Rattle.std.proofs.Common.{map}
use Rattle.dcx_script_values.specs.Meant.{meant}
use Rattle.dcx_script_values.proofs.Forms.{few_meant, is_fit-form}
use Rattle.dcx_script_values.proofs.reading.is_fit.Goals as goal

pub returns-in-List : goal.returns-in-List
returns-in-List c = rw (c.is_fit_form.ensures, c.list_form.ensures, c.in-List.is, ← c.deref.ensures, ← c.values.ensures.values)
    (is_fit-form (map meant c.values.result.now) (few_meant c.values.result.now 20000 c.values.ensures.few))
