-- The name and the parts of the counter of the run are those of the blank that it is given.
use Rattle.dcx_cases.proofs.running.status_with.Given as goal

abbrev pub ghosts-run_with : goal.ghosts-run_with
ghosts-run_with g a = record { name = a.blank.name; parts = a.blank.parts }
