-- The words around the option, as the operands that they are.
use Rattle.std.specs.Prelude.{◌≡◌, ℕ, List, ◌++◌, map, Option, Some, None, MatchOption, string_bytes}
use Rattle.dcx_words.specs.declared.operands.Around.{Around}
use Rattle.dcx_words.specs.Commands.{Operands}

abbrev pub words_around : Around → List (List ℕ)
words_around a = map string_bytes (a.front.now ++ a.back.now)

abbrev pub operands_around : Around → Operands
operands_around a = record { words = words_around a; limit = a.limit }

-- the operands are those around the option, if there are any
abbrev pub Gives : Option Operands → Option Around → Type 0
Gives o r = MatchOption r (o ≡ None) (λ a. o ≡ Some (operands_around a))
