-- The sizes of the made-up script that a command line asks for.
use Rattle.std.specs.Prelude.{◌≡◌, ℕ, List, Some}
use Rattle.dcx_words.specs.Commands.{size_of}

-- the words behind that of the command ask for it
abbrev pub IsAsked : ℕ → Type 0
IsAsked size = (words : List (List ℕ)) × (size_of words ≡ Some size)
