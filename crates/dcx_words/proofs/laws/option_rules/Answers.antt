-- Where the option may stand.
use Rattle.dcx_words.proofs.Anywhere.{option_stands_anywhere}
use Rattle.dcx_words.proofs.Once.{option_stands_once}
use Rattle.dcx_words.proofs.laws.option_rules.Goals as goal

pub returns-clause-anywhere : goal.returns-clause-anywhere
returns-clause-anywhere c = option_stands_anywhere

pub returns-clause-once : goal.returns-clause-once
returns-clause-once c = option_stands_once
