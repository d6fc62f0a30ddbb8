-- What the code has read, as the state that the definitions speak of.
use Rattle.std.specs.Prelude.{◌≡◌, ℕ, ◌+◌, ◌<◌, ◌≤◌, ◌^◌, ◌-◌, List, length, Result, Ok, Err}
use Rattle.dcx_tokens.specs.declared.fault.ReadFault.{ReadFault}
use Rattle.dcx_tokens.specs.declared.fault.ReadFault.TheVariants as fault
use Rattle.dcx_tokens.specs.declared.reader.Reader.{Reader}
use Rattle.dcx_tokens.specs.Position.{bytes_of}
use Rattle.dcx_tokens.specs.State.{State, Answer}

abbrev pub state_of : Reader → State
state_of r = record { tokens = r.tokens.items; indents = r.indents.items; brackets = r.brackets.items; line = r.line; at = r.at }

-- what a call leaves and answers is what the definition gives, unless there was no memory
abbrev pub Gives : {A : Type 0} → Reader → Result A ReadFault → Answer A → Type 0
Gives new (Ok a) given = given ≡ (state_of new, Ok a)
Gives new (Err fault.Memory) given = Unit {0}
Gives new (Err f) given = given ≡ (state_of new, Err f)

-- no more than 64 are open
abbrev pub HasRoom : Reader → Type 0
HasRoom r = length r.indents.items + length r.brackets.items ≤ 64

-- the position is in the text, and the bytes that are left with it
abbrev pub IsBefore : Reader → List ℕ → Type 0
IsBefore r rest = r.at.offset + bytes_of rest < 2 ^ 32 - 1
