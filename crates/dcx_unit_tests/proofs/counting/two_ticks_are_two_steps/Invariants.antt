-- The ledger of the test is the one that its blank was made for.
use Rattle.dcx_unit_tests.proofs.counting.two_ticks_are_two_steps.Given as goal

abbrev pub ghosts-tick_twice : goal.ghosts-tick_twice
ghosts-tick_twice a = record { name = a.blank.name; parts = a.blank.parts }
