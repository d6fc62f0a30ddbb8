-- The outcomes of settings.
use Rattle.std.specs.Prelude.{◌≡◌, ℕ, ◌<◌, ⊤, List, length, Option, None, Result, Ok, Err}
use Rattle.std.specs.List.{AllZip}
use Rattle.dcx_shape.specs.declared.place.Place.{Place}
use Rattle.dcx_point.specs.Pairs.{Pairs}
use Rattle.dcx_arena.specs.Nodes.{place_at}
use Rattle.dcx_tree.specs.declared.problem.Problem.{Problem}
use Rattle.dcx_answer.specs.declared.answer.Answer.{Answer}
use Rattle.dcx_answer.specs.declared.site.Site.{Site}
use Rattle.dcx_answer.specs.declared.site.Site.TheVariants as sites
use Rattle.dcx_answer.specs.declared.stop.Stop.{Stop}
use Rattle.dcx_answer.specs.declared.stop.Stop.TheVariants as stops
use Rattle.dcx_answer.specs.declared.outcome.Outcome.{Outcome}
use Rattle.dcx_answer.specs.declared.outcome.OutcomeEnd.{OutcomeEnd}
use Rattle.dcx_answer.specs.declared.outcome.OutcomeEnd.TheVariants as the
use Rattle.dcx_cache.specs.Answers.{Answers}

-- ---- one outcome
-- how a setting ends that a session answers: with its answer, or with its stop
abbrev pub solved_end : Result Answer Stop → OutcomeEnd
solved_end (Ok a) = the.Answer a
solved_end (Err stop) = the.Stop stop

-- where the node stands in the script at which a stop is
abbrev pub site_place : Problem → Site → Option Place
site_place p (sites.Node node entry passes) = place_at p.tree node.0
site_place p (sites.Row row passes) = None
site_place p (sites.Map row passes) = None
site_place p (sites.Pivot pivots row column) = None
site_place p (sites.Answer row passes) = None

abbrev pub stop_place : Problem → Stop → Option Place
stop_place p (stops.ZeroDivisor node entry) = place_at p.tree node.0
stop_place p (stops.Wide site) = site_place p site
stop_place p (stops.UnknownParam name) = None
stop_place p (stops.MissingParam name) = None
stop_place p (stops.ParamShape name declared given) = None
stop_place p (stops.ParamSign name entry value) = None
stop_place p (stops.TooLarge rows columns) = None
stop_place p (stops.PivotLimit count) = None
stop_place p stops.Memory = None

abbrev pub end_place : Problem → OutcomeEnd → Option Place
end_place p (the.Answer a) = None
end_place p (the.Whole a) = None
end_place p (the.Branch stop) = None
end_place p (the.Stop stop) = stop_place p stop

-- the nodes at which a stop is are nodes of the problem
abbrev pub IsNodeSite : Problem → Site → Type 0
IsNodeSite p (sites.Node node entry passes) = node.0 < length p.tree
IsNodeSite p (sites.Row row passes) = ⊤
IsNodeSite p (sites.Map row passes) = ⊤
IsNodeSite p (sites.Pivot pivots row column) = ⊤
IsNodeSite p (sites.Answer row passes) = ⊤

abbrev pub NamesNodes : Problem → Stop → Type 0
NamesNodes p (stops.ZeroDivisor node entry) = node.0 < length p.tree
NamesNodes p (stops.Wide site) = IsNodeSite p site
NamesNodes p (stops.UnknownParam name) = ⊤
NamesNodes p (stops.MissingParam name) = ⊤
NamesNodes p (stops.ParamShape name declared given) = ⊤
NamesNodes p (stops.ParamSign name entry value) = ⊤
NamesNodes p (stops.TooLarge rows columns) = ⊤
NamesNodes p (stops.PivotLimit count) = ⊤
NamesNodes p stops.Memory = ⊤

-- the outcome of a setting: what a session answers there, with the place of the node that a stop names
pub record IsOutcome (p : Problem) (limit : ℕ) (setting : Pairs) (o : Outcome) : Type 0 where
  pub end : Result Answer Stop
  pub answers : Answers p setting limit end
  pub told : o.end ≡ solved_end end
  pub placed : o.place ≡ end_place p o.end

-- ---- all outcomes
-- one for each setting, in order
abbrev pub AreOutcomes : Problem → ℕ → List Pairs → List Outcome → Type 0
AreOutcomes p limit settings outcomes = AllZip (IsOutcome p limit) settings outcomes
