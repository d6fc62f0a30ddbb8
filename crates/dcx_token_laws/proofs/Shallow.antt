-- No more than 64 brackets and blocks are open behind the tokens that are read.
use Rattle.std.proofs.Common.{ℕ, List, length, Option, refl, subst, arith}
use Rattle.std.specs.Str.{chars}
use Rattle.dcx_tokens.specs.declared.fault.ReadFault.{ReadFault}
use Rattle.dcx_tokens.specs.declared.token.Token.{Token}
use Rattle.dcx_tokens.specs.Laws.{StaysShallow}
use Rattle.dcx_tokens.specs.Position.{bytes_of}
use Rattle.dcx_tokens.specs.Reading.{IsLexed}
use Rattle.dcx_tokens.specs.State.{State}
use Rattle.dcx_tokens.proofs.Kept.{reads_keep}
use Rattle.dcx_tokens.proofs.Nesting as nesting
use Rattle.dcx_tokens.proofs.Nesting.{Nested}

pub shallow : (text : List ℕ) (ts : List Token) (f : Option ReadFault) → IsLexed text ts f → StaysShallow 0 0 ts
shallow text ts f lexed =
    let total = bytes_of (chars text) in
    let last = reads_keep (λ (s : State). Nested s.tokens (length s.brackets) (length s.indents)) total (nesting.nests total)
    (record { shallow = omega arith; brackets_are = refl; blocks_are = refl }) (omega arith) lexed in
    subst (λ us. StaysShallow 0 0 us) last.are last.keeps.shallow
