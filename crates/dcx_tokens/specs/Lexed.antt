-- What a call that reads a text answers.
use Rattle.std.specs.Prelude.{List, Some, None, Result, Ok, Err, ℕ}
use Rattle.dcx_tokens.specs.declared.fault.ReadFault.{ReadFault}
use Rattle.dcx_tokens.specs.declared.fault.ReadFault.TheVariants as fault
use Rattle.dcx_tokens.specs.declared.token.Token.{Token}
use Rattle.dcx_tokens.specs.Reading.{IsLexed}

-- all tokens of the text, or its first fault, unless there was no memory
abbrev pub Lexes : List ℕ → Result (List Token) ReadFault → Type 0
Lexes text (Ok tokens) = IsLexed text tokens None
Lexes text (Err fault.Memory) = Unit {0}
Lexes text (Err f) = (tokens : List Token) × IsLexed text tokens (Some f)
