-- Texts between quotes.
use Rattle.std.specs.Prelude.{ℕ, ◌+◌, Bool, false, ◌==◌, if◌then◌else◌, List, [], ◌∷◌, Option, Some, None, option_map}

-- How many characters come up to the closing quote, which counts: none where the line ends before it. A backslash takes
-- the next character with it, but no line end; is_taken says that the one here is taken.
abbrev pub up_to_quote : ℕ → Bool → List ℕ → Option ℕ
up_to_quote quote is_taken [] = None
up_to_quote quote is_taken (c ∷ cs) =
    if c == 10 then None
    else (if is_taken then option_map (λ n. 1 + n) (up_to_quote quote false cs)
    else (if c == quote then Some 1
    else option_map (λ n. 1 + n) (up_to_quote quote (c == 92) cs)))
