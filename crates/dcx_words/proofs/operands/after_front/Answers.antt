-- What is stripped off a word.
use Rattle.dcx_words.specs.Commands.{option_front}
use Rattle.dcx_words.proofs.Taking.{front_stripped}
use Rattle.dcx_words.proofs.operands.after_front.Goals as goal

pub returns : goal.returns
returns c = front_stripped option_front c.args.word.now c.strip_prefix.result c.strip_prefix.ensures.cases
