-- The counter is that of the ledger.
use Rattle.dcx_listing.proofs.reduced.push_plain.Given as goal

abbrev pub ghosts-rows_with : goal.ghosts-rows_with
ghosts-rows_with a = record { name = a.blank.name; parts = a.blank.parts }
