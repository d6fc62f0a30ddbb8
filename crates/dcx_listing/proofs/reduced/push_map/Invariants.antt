-- The counter is that of the ledger.
use Rattle.dcx_listing.proofs.reduced.push_map.Given as goal

abbrev pub ghosts-map_with : goal.ghosts-map_with
ghosts-map_with a = record { name = a.blank.name; parts = a.blank.parts }
