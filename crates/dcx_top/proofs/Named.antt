-- Commands that ask for the range of a parameter.
use Rattle.std.proofs.Common.{◌≡◌, ℕ, List, Some, None, sym, subst, ◌∙◌}
use Rattle.std.proofs.lemmas.Option.{none-some, same_Some}
use Rattle.dcx_tree.specs.declared.problem.Problem.{Problem}
use Rattle.dcx_words.specs.Commands.{Command, check, solve, resolve, certificate, certify, migrate, trial, iis, range}
use Rattle.dcx_outcomes.specs.Ranges.{HasRange}
use Rattle.dcx_top.specs.Commands.{certificate_name, parameter_name}
use Rattle.dcx_top.specs.NoRange.{AllowsRange}

-- a command that asks for none
pub unasked : (command : Command) (p : Problem) → parameter_name command ≡ None → AllowsRange command p
unasked command p none name is = absurd (none-some name (sym none ∙ is))

-- a command that asks for one that has a range
pub allowed : (command : Command) (p : Problem) (name : List ℕ) → parameter_name command ≡ Some name → HasRange p name → AllowsRange command p
allowed command p name is has other also = subst (HasRange p) (same_Some name other (sym is ∙ also)) has

-- no command that reads a certificate asks for one
pub reads_no_parameter : (command : Command) (name file : List ℕ) → parameter_name command ≡ Some name → certificate_name command ≡ Some file → ⊥
reads_no_parameter (check script) name file h k = none-some name h
reads_no_parameter (solve script limit) name file h k = none-some name h
reads_no_parameter (resolve script settings limit warm) name file h k = none-some name h
reads_no_parameter (certificate script settings limit) name file h k = none-some name h
reads_no_parameter (certify script settings cert) name file h k = none-some name h
reads_no_parameter (migrate script settings cert) name file h k = none-some name h
reads_no_parameter (trial size limit) name file h k = none-some name h
reads_no_parameter (iis script settings limit) name file h k = none-some name h
reads_no_parameter (range script settings parameter limit) name file h k = none-some file k

pub allowed_reading : (command : Command) (p : Problem) (file : List ℕ) → certificate_name command ≡ Some file → AllowsRange command p
allowed_reading command p file is name named = absurd (reads_no_parameter command name file named is)
