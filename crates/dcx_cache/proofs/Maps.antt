-- The program that is kept, and the program at a setting.
use Rattle.std.proofs.Common.{◌≢◌, inl, inr, [], Result, Ok, Err, refl, sym, subst}
use Rattle.dcx_frac.specs.declared.fraction.Frac.{Frac}
use Rattle.dcx_point.specs.Pairs.{Pairs}
use Rattle.dcx_tree.specs.declared.problem.Problem.{Problem}
use Rattle.dcx_answer.specs.declared.site.Site.TheVariants as sites
use Rattle.dcx_linear.specs.declared.param_form.ParamForm.{ParamForm}
use Rattle.dcx_fit.specs.Fit.{FitsParameters}
use Rattle.dcx_graph.specs.declared.stop.ReduceStop.{ReduceStop}
use Rattle.dcx_graph.specs.declared.stop.ReduceStop.TheVariants as stops
use Rattle.dcx_graph.specs.Program.{Program}
use Rattle.dcx_graph.specs.Reduced.{Reduction}
use Rattle.dcx_graph.specs.Reducing.{OrMemory}
use Rattle.dcx_graph.specs.Stops.{TellsBy}
use Rattle.dcx_graph.specs.Fixing.{IsListedProgram, FixGives}
use Rattle.dcx_graph.specs.Correct.{ReducesAffine}
use Rattle.dcx_graph.proofs.Correct.{affine_are_known}
use Rattle.dcx_graph.proofs.AtSetting.{known_are_listed}
use Rattle.dcx_graph.proofs.OneWay.{one_affine}
use Rattle.dcx_cache.specs.Programs.{IsMapOf, HasMap, SessionGives, mapped}
use Rattle.dcx_cache.proofs.Arrays.{have_arrays}

-- ---- the map
-- building it stops, so there is none
pub no_map : {A : Type 0} (view : A → Program ParamForm) (p : Problem) (e : ReduceStop) → e ≢ stops.Memory → OrMemory {A = A} (Err e) view (ReducesAffine p []) → ¬ HasMap p
no_map view p (stops.TooLarge rows columns) ne h (q, m) = let d = one_affine p [] (Ok q) (Err (stops.TooLarge rows columns)) m.reduces h in cc
no_map view p (stops.ZeroDivisor node entry) ne h (q, m) = let d = one_affine p [] (Ok q) (Err (stops.ZeroDivisor node entry)) m.reduces h in cc
no_map view p (stops.Wide site) ne h (q, m) = let d = one_affine p [] (Ok q) (Err (stops.Wide site)) m.reduces h in cc
no_map view p stops.Memory ne h (q, m) = absurd (ne refl)

-- it lists entries that a fitting setting has
pub map_is_listed : (p : Problem) (setting : Pairs) (q : Program ParamForm) → IsMapOf p q → FitsParameters p.parameters setting → IsListedProgram setting q
map_is_listed p setting q m fits = known_are_listed p setting q (affine_are_known p [] q m.reduces) (have_arrays p setting fits)

-- ---- at a setting
module _ (p : Problem) (setting : Pairs) where
  -- the map is put there
  pub from_map : (q : Program ParamForm) (r : Result (Reduction Frac) ReduceStop) → IsMapOf p q → TellsBy sites.Map r (λ x. x.program) (FixGives setting q)
      → OrMemory r (λ x. x.program) (SessionGives p setting)
  from_map q (Ok x) m h = mapped q m h
  from_map q (Err e) m (inl (s, is, g)) = subst (λ (z : ReduceStop). OrMemory {A = Reduction Frac} (Err z) (λ x. x.program) (SessionGives p setting)) (sym is) (mapped q m g)
  from_map q (Err e) m (inr is) = subst (λ (z : ReduceStop). OrMemory {A = Reduction Frac} (Err z) (λ x. x.program) (SessionGives p setting)) (sym is) tt
