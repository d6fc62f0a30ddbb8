-- What the words of a command line ask for, as they are read.
use Rattle.std.specs.Prelude.{◌≡◌, Option, Some, None, MatchOption}
use Rattle.dcx_words.specs.declared.words.Form.{Form}
use Rattle.dcx_words.specs.Commands.{Command, command_in}

-- the form asks for the command, if there is one
abbrev pub Asks : Option Command → Option Form → Type 0
Asks o r = MatchOption r (o ≡ None) (λ f. o ≡ Some (command_in f))
