-- What the factors form is what the pivot forms.
use Rattle.std.proofs.Common.{arith}
use Rattle.std.proofs.lemmas.Option.{IfSome_then}
use Rattle.dcx_chained.proofs.RowReads.{length-row_of}
use Rattle.dcx_chained.proofs.Formed.{IfNone_then}
use Rattle.dcx_chained.proofs.wide.wide_in_row.Goals as goal

pub returns-clause-other : goal.returns-clause-other
returns-clause-other c = IfSome_then c.first_unformed.result c.first_unformed.ensures.below (λ j lt. c.if-i-r.false)

pub returns-clause-wide : goal.returns-clause-wide
returns-clause-wide c = IfSome_then c.first_unformed.result c.first_unformed.ensures.wide (λ j great f. great (c.requires.factors.only j f))

pub returns-clause-first : goal.returns-clause-first
returns-clause-first c = IfSome_then c.first_unformed.result c.first_unformed.ensures.first (λ j formed k lt. c.requires.factors.formed k (formed k lt))

pub returns-clause-none : goal.returns-clause-none
returns-clause-none c = IfNone_then c.first_unformed.result c.first_unformed.ensures.none (λ formed other met k lt. c.requires.factors.formed k
    (formed k (let l = length-row_of c.args.links.now c.args.i in omega (arith, lt, l))))
