-- Where `--warm` may stand.
use Rattle.dcx_words.proofs.Warm.{warm_stands_anywhere, warm_stands_apart, warm_stands_once}
use Rattle.dcx_words.proofs.laws.warm_rules.Goals as goal

pub returns-clause-anywhere : goal.returns-clause-anywhere
returns-clause-anywhere c = warm_stands_anywhere

pub returns-clause-apart : goal.returns-clause-apart
returns-clause-apart c = warm_stands_apart

pub returns-clause-once : goal.returns-clause-once
returns-clause-once c = warm_stands_once
