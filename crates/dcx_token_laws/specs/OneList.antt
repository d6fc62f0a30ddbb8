-- The laws leave one list of tokens.
use Rattle.std.specs.Prelude.{◌≡◌, ℕ, List, [], None}
use Rattle.std.specs.Str.{chars}
use Rattle.dcx_tokens.specs.declared.token.Token.{Token}
use Rattle.dcx_tokens.specs.Reading.{IsLexed}
use Rattle.dcx_token_laws.specs.Cut.{Cut}
use Rattle.dcx_token_laws.specs.Lines.{AreLines}

-- whatever list a text without a fault is cut into that is of lines, it is that of its tokens
abbrev pub LawsLeaveOne : Type 0
LawsLeaveOne = (text : List ℕ) (ts us : List Token) → IsLexed text ts None → Cut [] (chars text) us [] → AreLines [] us → us ≡ ts
