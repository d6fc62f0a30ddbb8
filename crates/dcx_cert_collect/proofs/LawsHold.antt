-- The pass raises no bound, begins at the Lagrangian, and its total bounds that: the laws' proofs.
use Rattle.dcx_cert_collect.specs.Laws.{CollectedIsABound, StartsAreLagrangians, TotalsAreBounds, TotalsShowAnswers}
use Rattle.dcx_cert_collect.proofs.Bounded.{total_bounds}
use Rattle.dcx_cert_collect.proofs.Final.{totals_are_bounds, totals_show_answers}
use Rattle.dcx_cert_collect.proofs.Multiplied.{starts_are_lagrangians}

pub collected_is_a_bound : CollectedIsABound
collected_is_a_bound names nodes s values weights are known fractions table count reached total e y = total_bounds names nodes are s values known y weights fractions table count reached total e

pub starts_hold : StartsAreLagrangians
starts_hold p duals are = starts_are_lagrangians p duals are

pub totals_hold : TotalsAreBounds
totals_hold p s values weights duals known fractions squares are = totals_are_bounds p s values weights duals known fractions squares are

pub answers_hold : TotalsShowAnswers
answers_hold p s values weights duals known fractions squares are = totals_show_answers p s values weights duals known fractions squares are
