-- The spans of tokens are in order and inside the text, and have bytes where they should.
use Rattle.dcx_tokens.proofs.Spans.{all_in_order, all_have_bytes}
use Rattle.dcx_tokens.proofs.laws.spans.Goals as goal

pub returns : goal.returns
returns c = record { order = all_in_order; bytes = all_have_bytes }
