-- The numbers so far, followed by those of the other terms, are all.
use Rattle.dcx_linear.proofs.SettingForms.{LeadsTo}
use Rattle.dcx_linear.proofs.form_at.at_terms.Given as goal

abbrev pub invariant-terms : goal.invariant-terms
invariant-terms l = LeadsTo l.setting l.terms l.term-index l.numbers.items
