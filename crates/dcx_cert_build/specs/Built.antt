-- The certificate of an answer.
use Rattle.std.specs.Prelude.{◌≡◌, ⊤, ℕ, List, [], ◌∷◌, Option, Some, None}
use Rattle.std.specs.List.{flat_map}
use Rattle.dcx_frac.specs.declared.fraction.Passes.{Passes}
use Rattle.dcx_atom.specs.declared.array.Array.{Array}
use Rattle.dcx_point.specs.Pairs.{Pairs, array_of}
use Rattle.dcx_tree.specs.declared.problem.Problem.{Problem}
use Rattle.dcx_lp_answer.specs.declared.answer.LpStatus.TheVariants as status
use Rattle.dcx_lp_answer.specs.declared.answer.LpAnswer.{LpAnswer}
use Rattle.dcx_lp_answer.specs.Multipliers.{passing_from}
use Rattle.dcx_answer.specs.declared.answer.Answer.{Answer}
use Rattle.dcx_answer.specs.declared.answer.Answer.TheVariants as answers
use Rattle.dcx_answer.specs.declared.site.Site.{Site}
use Rattle.dcx_answer.specs.declared.site.Site.TheVariants as sites
use Rattle.dcx_cert_sections.specs.declared.cert.Cert.{Cert}
use Rattle.dcx_cert_sections.specs.declared.cert.Cert.TheVariants.{Optimal, Infeasible, Unbounded}
use Rattle.dcx_cert_sections.specs.declared.weights.NodeWeights.{NodeWeights}
use Rattle.dcx_cert_outline.specs.Drawn.{problem_outline}
use Rattle.dcx_graph.specs.declared.origin.Origin.{Origin}
use Rattle.dcx_graph.specs.declared.reading.AnswerStop.{AnswerStop}
use Rattle.dcx_graph.specs.declared.reading.AnswerStop.TheVariants as stops
use Rattle.dcx_cert_build.specs.Weights.{AreWeights, row_weights}

-- ---- the setting
abbrev pub value_if : List ℕ → Option Array → Pairs
value_if name None = []
value_if name (Some x) = (name, x) ∷ []

-- the arrays that a setting gives the parameters, in order of declaration
abbrev pub values_in : Problem → Pairs → Pairs
values_in p setting = flat_map (λ q. value_if q.name (array_of setting q.name)) p.parameters

-- ---- the certificate
-- the weights are those of the atoms that have a variable below them, of which this answer tells the rows, which come from here
abbrev pub AreWeightsIn : Problem → List Origin → LpAnswer → List NodeWeights → Type 0
AreWeightsIn p from a weights = AreWeights (problem_outline p).atoms a.status from a.rows weights

-- it has the numbers of the answer as they stand, the setting's values in order of declaration, and the weights where there are any
abbrev pub IsBuilt : Problem → Pairs → List Origin → LpAnswer → Answer → Cert → Type 0
IsBuilt p setting from a (answers.Optimal number point duals) cert =
    (weights : List NodeWeights) × AreWeightsIn p from a weights × (cert ≡ Optimal number point duals weights (Some (values_in p setting)))
IsBuilt p setting from a (answers.Infeasible duals gap) cert =
    (weights : List NodeWeights) × AreWeightsIn p from a weights × (cert ≡ Infeasible duals gap weights (Some (values_in p setting)))
IsBuilt p setting from a (answers.Unbounded point ray bound slope) cert = cert ≡ Unbounded point ray bound slope (Some (values_in p setting))

-- ---- what stops it
-- the first weight of a row that passes, where there are weights
pub record PassesAt (p : Problem) (from : List Origin) (a : LpAnswer) (site : Site) : Type 0 where
  pub formed : ¬ (a.status ≡ status.Unbounded)
  pub row : ℕ
  pub passes : Passes
  pub first : passing_from 0 (row_weights (problem_outline p).atoms a.status from a.rows) ≡ Some (row, passes)
  pub here : site ≡ sites.Answer row passes

abbrev pub StopsBuilding : Problem → List Origin → LpAnswer → AnswerStop → Type 0
StopsBuilding p from a (stops.Wide site) = PassesAt p from a site
StopsBuilding p from a stops.Memory = ⊤
