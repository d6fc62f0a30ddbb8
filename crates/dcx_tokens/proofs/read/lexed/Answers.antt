-- At the start no byte is read, and the characters have as many bytes as the text.
use Rattle.std.proofs.Common.{◌≡◌, ap, ◌∙◌, arith}
use Rattle.dcx_tokens.specs.Position.{bytes_of}
use Rattle.dcx_tokens.proofs.Bytes.{bytes_of-chars}
use Rattle.dcx_tokens.proofs.read.lexed.Goals as goal

pub read_all-requires-clause-before : goal.read_all-requires-clause-before
read_all-requires-clause-before c =
    let bytes = ap bytes_of (c.deref.ensures.value ∙ c.in_ok-chars.ensures) in
    let at : c.unread-reader.result.at.offset ≡ 0 = ap (λ s. s.at.offset) c.unread-reader.ensures in
    omega (arith, bytes, bytes_of-chars c.args.text.now c.utf8.text)
