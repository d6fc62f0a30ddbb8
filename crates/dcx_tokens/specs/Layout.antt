-- Lines, indentations and brackets.
use Rattle.std.specs.Prelude.{ℕ, Bool, true, false, ◌&&◌, ◌||◌, ◌==◌, nat_lt, nat_le, List}
use Rattle.std.specs.List.{take_while, list_all, list_any}
use Rattle.dcx_tokens.specs.declared.token.Symbol.{Symbol}
use Rattle.dcx_tokens.specs.declared.token.Symbol.TheVariants as symbol

-- so many spaces are deeper than each indentation that stands
abbrev pub is_deeper : List ℕ → ℕ → Bool
is_deeper indents spaces = nat_lt 0 spaces && list_all (λ i. nat_lt i spaces) indents

-- or one of those that stand; none always does
abbrev pub is_standing : List ℕ → ℕ → Bool
is_standing indents spaces = (spaces == 0) || list_any (λ i. i == spaces) indents

-- the indentations that still stand there
abbrev pub kept : List ℕ → ℕ → List ℕ
kept indents spaces = take_while (λ i. nat_le i spaces) indents

-- ( [ {
abbrev pub opens : Symbol → Bool
opens symbol.OpenRound = true
opens symbol.OpenSquare = true
opens symbol.OpenCurly = true
opens _ = false

-- ) ] }
abbrev pub closes : Symbol → Bool
closes symbol.CloseRound = true
closes symbol.CloseSquare = true
closes symbol.CloseCurly = true
closes _ = false
