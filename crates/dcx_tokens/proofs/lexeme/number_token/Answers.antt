-- What begins as a number does is a number of one character at least.
use Rattle.std.proofs.Common.{ap, sym, ◌∙◌}
use Rattle.dcx_tokens.specs.Number.{number_at}
use Rattle.dcx_tokens.proofs.Lengths.{number_some}
use Rattle.dcx_tokens.proofs.lexeme.number_token.Goals as goal

pub returns-in-Some-clause-some : goal.returns-in-Some-clause-some
returns-in-Some-clause-some c = λ d ds whole begins. number_some d ds (c.in-Some.frac, c.in-Some.count) begins (ap number_at (sym whole) ∙ sym c.number.ensures.value ∙ c.in-Some.is)
