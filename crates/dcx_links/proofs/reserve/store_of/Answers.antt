-- Heads that lead nowhere, and no cell, are a matrix of zeros.
use Rattle.std.proofs.Common.{refl}
use Rattle.dcx_links.proofs.Empty.{empty_store}
use Rattle.dcx_links.proofs.reserve.store_of.Goals as goal

pub returns-clause-sound : goal.returns-clause-sound
returns-clause-sound c = rw c.in_ok-cells.ensures.items (empty_store c.in_ok-row_heads.row_heads.items c.in_ok-column_heads.column_heads.items c.in_ok-row_heads.ensures.none
    c.in_ok-column_heads.ensures.none)

pub returns-clause-zeros : goal.returns-clause-zeros
returns-clause-zeros c = λ r d. rw c.in_ok-cells.ensures.items refl
