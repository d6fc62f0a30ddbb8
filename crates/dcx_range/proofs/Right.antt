-- What a run tells of a range is right for the problem.
use Rattle.std.proofs.Common.{ℕ, List, Ok, Err, refl}
use Rattle.dcx_frac.specs.declared.fraction.Frac.{Frac}
use Rattle.dcx_point.specs.Pairs.{Pairs}
use Rattle.dcx_tree.specs.declared.problem.Problem.{Problem}
use Rattle.dcx_graph.specs.Program.{Program}
use Rattle.dcx_range.specs.declared.asked.Asked.{Asked}
use Rattle.dcx_answer.specs.declared.ranged.Ranged.TheVariants.{Span, Infeasible, Unbounded}
use Rattle.dcx_range.specs.Range.{IsAsked, IsKnown}
use Rattle.dcx_range.specs.Laws.{RangesAreRight}
use Rattle.dcx_range.proofs.Ranges.{has_no_point, has_no_least, told_span}

-- what is asked of the parameter
module _ (p : Problem) (r : Program Frac) (setting : Pairs) (name : List ℕ) (limit : ℕ) (k : IsKnown p r setting name limit) where
  abbrev question : Asked
  question = record { position = k.number.at; attribute = k.number.parameter.attribute; at = k.at }

  is_asked : IsAsked p setting name question
  is_asked = record { number = k.number; position = refl; attribute = refl; at_is = k.at_is }

pub ranges_are_right : RangesAreRight
ranges_are_right p m r setting name limit (Ok (Span low high constant slope)) map fits put ranged h =
    let k = h.known in
    (told_span p setting name m map fits r put limit k.run.solved k.run.is_solved k.run.known ranged k.run.status (question p r setting name limit k) (is_asked p r setting name limit k)
    h.constants (Span low high constant slope) h.numbers).1
ranges_are_right p m r setting name limit (Ok Infeasible) map fits put ranged h = has_no_point p setting name m map fits r put limit h.solved h.is_solved h.known h.status
ranges_are_right p m r setting name limit (Ok Unbounded) map fits put ranged h = has_no_least p setting name m map fits r put limit h.solved h.is_solved h.known h.status
ranges_are_right p m r setting name limit (Err stop) map fits put ranged h = tt
