-- A stop has a place exactly where it names a node.
use Rattle.std.proofs.Common.{◌≡◌, ℕ, zero, suc, ◌<◌, List, [], ◌∷◌, length, true, refl, arith}
use Rattle.std.specs.Prelude.{is_some, option_map, slice_get}
use Rattle.dcx_tree.specs.declared.problem.Problem.{Problem}
use Rattle.dcx_answer.specs.declared.site.Site.TheVariants as sites
use Rattle.dcx_answer.specs.declared.stop.Stop.{Stop}
use Rattle.dcx_answer.specs.declared.stop.Stop.TheVariants as why
use Rattle.dcx_answer.specs.NodeStops.{stop_names_node}
use Rattle.dcx_outcomes.specs.Outcomes.{NamesNodes, stop_place}

there : {X Y : Type 0} (f : X → Y) (xs : List X) (i : ℕ) → i < length xs → is_some (option_map f (slice_get xs i)) ≡ true
there f [] i lt = absurd (omega arith)
there f (x ∷ xs) zero lt = refl
there f (x ∷ xs) (suc i) lt = there f xs i (omega arith)

pub placed : (p : Problem) (stop : Stop) → NamesNodes p stop → is_some (stop_place p stop) ≡ stop_names_node stop
placed p (why.UnknownParam name) h = refl
placed p (why.MissingParam name) h = refl
placed p (why.ParamShape name declared given) h = refl
placed p (why.ParamSign name entry value) h = refl
placed p (why.TooLarge rows columns) h = refl
placed p (why.ZeroDivisor node entry) h = there (λ n. n.place) p.tree node.0 h
placed p (why.Wide (sites.Node node entry passes)) h = there (λ n. n.place) p.tree node.0 h
placed p (why.Wide (sites.Row row passes)) h = refl
placed p (why.Wide (sites.Map row passes)) h = refl
placed p (why.Wide (sites.Pivot pivots row column)) h = refl
placed p (why.Wide (sites.Answer row passes)) h = refl
placed p (why.PivotLimit count) h = refl
placed p why.Memory h = refl
