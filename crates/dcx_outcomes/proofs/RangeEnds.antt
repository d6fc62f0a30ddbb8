-- What holds of the outcomes of settings at which a parameter's range is told.
use Rattle.std.proofs.Common.{◌≡◌, ℕ, List, [], Option, Some, None, Result, Ok, Err, Bor, is_some, refl, sym, ap, subst}
use Rattle.std.specs.Prelude.{IfOk, MatchOption, option_copied}
use Rattle.std.proofs.Props.{props}
use mathlib.Core.HLevel.{is_prop→PathP}
use Rattle.dcx_frac.specs.declared.fraction.Frac.{Frac}
use Rattle.dcx_point.specs.Pairs.{Pairs}
use Rattle.dcx_arena.proofs.Results.{same_Ok}
use Rattle.dcx_call.specs.declared.attribute.Parameter.{Parameter}
use Rattle.dcx_tree.specs.declared.problem.Problem.{Problem}
use Rattle.dcx_tree.specs.Meaning.{IsFitting, setting_of}
use Rattle.dcx_declared.specs.Stands.{HasParameter}
use Rattle.dcx_fit.specs.Fit.{FitsParameters}
use Rattle.dcx_linear.specs.declared.param_form.ParamForm.{ParamForm}
use Rattle.dcx_answer.specs.declared.not_ranged.NotRanged.{NotRanged}
use Rattle.dcx_answer.specs.declared.not_ranged.NotRanged.TheVariants as faults
use Rattle.dcx_answer.specs.declared.ranged.Ranged.{Ranged}
use Rattle.dcx_answer.specs.declared.range_stop.RangeStop.{RangeStop}
use Rattle.dcx_answer.specs.declared.range_stop.RangeStop.TheVariants as range
use Rattle.dcx_answer.specs.declared.range_outcome.RangeEnd.{RangeEnd}
use Rattle.dcx_answer.specs.declared.range_outcome.RangeEnd.TheVariants as the
use Rattle.dcx_answer.specs.declared.range_outcome.RangeOutcome.{RangeOutcome}
use Rattle.dcx_answer.specs.declared.stop.Stop.{Stop}
use Rattle.dcx_answer.specs.NodeStops.{range_names_node}
use Rattle.dcx_graph.specs.Program.{Program}
use Rattle.dcx_graph.specs.declared.reduced.Reduced.{Reduced}
use Rattle.dcx_graph.specs.Fixing.{FixGives}
use Rattle.dcx_graph.proofs.OneWay.{one_affine}
use Rattle.dcx_cache.specs.Programs.{IsMapOf, HasMap, SessionGives, mapped, anew}
use Rattle.dcx_cache.proofs.DivisorLawsHold.{formed_are_fitting}
use Rattle.dcx_range.specs.Parameters.{IsRanged, IsFaultOf, IsTold, program_in}
use Rattle.dcx_range.specs.Range.{RangeGives, IsMapOf as IsAffineMapOf}
use Rattle.dcx_right.specs.Ranges.{HasParameter as IsParameter, HoldsOn}
use Rattle.dcx_range.specs.Laws.{AreOneRange}
use Rattle.dcx_range.proofs.Named.{tells_once, name_is}
use Rattle.dcx_range.proofs.Right.{ranges_are_right as right_told}
use Rattle.dcx_range.proofs.OneRange.{ranges_are_one as one_range}
use Rattle.dcx_outcomes.specs.Asking.{IsRightAt, FindsRight, AreOneEnd}
use Rattle.dcx_outcomes.specs.Ranges.{IsKeptProgram, HasRange, LacksRange, TellsRange, TellsOf, range_end}
use Rattle.dcx_outcomes.specs.RangeLaws.{RangeIsTold, HadMemory, RangesAreRight, RangesAreOne}
use Rattle.dcx_outcomes.proofs.Asked.{are_right, alike, are_one, right_there}

-- ---- the program with affine coefficients
pub one_map : (p : Problem) (q r : Program ParamForm) → IsMapOf p q → IsMapOf p r → q ≡ r
one_map p q r m n = same_Ok q r (one_affine p [] (Ok q) (Ok r) m.reduces n.reduces)

one_kept : (p : Problem) (o r : Option (Program ParamForm)) → IsKeptProgram p o → IsKeptProgram p r → o ≡ r
one_kept p (Some q) (Some r) h k = ap Some (one_map p q r h k)
one_kept p (Some q) None h k = absurd (k (q, h))
one_kept p None (Some r) h k = absurd (h (r, k))
one_kept p None None h k = refl

-- ---- whether a parameter has a range
same_err : (f g : NotRanged) → ◌≡◌ {A = Result (Unit {0}) NotRanged} (Err f) (Err g) → f ≡ g
same_err f g e = cc

ok_or_err : (f : NotRanged) → ◌≡◌ {A = Result (Unit {0}) NotRanged} (Ok tt) (Err f) → ⊥
ok_or_err f e = cc

lacks_once : (p : Problem) (name : List ℕ) (f g : NotRanged) → LacksRange p name f → LacksRange p name g → f ≡ g
lacks_once p name f g h k =
    let same = one_kept p k.program h.program k.is_kept h.is_kept in
    same_err f g (tells_once p h.program name (Err f) (Err g) h.is_fault (subst (λ o. IsFaultOf p o name g) same k.is_fault))

has_or_lacks : (p : Problem) (name : List ℕ) (f : NotRanged) → HasRange p name → LacksRange p name f → ⊥
has_or_lacks p name f h k =
    let same = one_kept p k.program (Some h.map) k.is_kept h.is_map in
    ok_or_err f (tells_once p (Some h.map) name (Ok tt) (Err f) (h.map, refl, h.ranged) (subst (λ o. IsFaultOf p o name f) same k.is_fault))

pub range_is_told : RangeIsTold
range_is_told = record { once = lacks_once; never_both = has_or_lacks }

-- what a session tells of a name, with the program that it keeps
pub kept_of : (p : Problem) (r : Option (Bor (Reduced ParamForm))) → MatchOption r (¬ HasMap p) (λ m. IsMapOf p m.now.program) → IsKeptProgram p (program_in (option_copied r))
kept_of p None h = h
kept_of p (Some m) h = h

pub told_range : (p : Problem) (o : Option (Program ParamForm)) (name : List ℕ) (r : Result (Unit {0}) NotRanged) → IsKeptProgram p o → IsTold p o name r → TellsRange p name r
told_range p o name (Ok u) kept (q, is, ranged) = record { map = q; is_map = subst (IsKeptProgram p) is kept; ranged = ranged }
told_range p o name (Err fault) kept h = record { program = o; is_kept = kept; is_fault = h }

-- what stands against a range, but for the name, is that of a parameter that the problem declares
declared : (p : Problem) (name : List ℕ) (k : ℕ) (q : Parameter) → IsParameter p name k q → HasParameter p name
declared p name k q h = (k, q, h.there, name_is p.parameters name k q h.place h.there)

pub lacking_shape : (p : Problem) (name : List ℕ) → LacksRange p name faults.Shape → HasParameter p name
lacking_shape p name h = declared p name h.is_fault.at h.is_fault.parameter h.is_fault.named

pub lacking_map : (p : Problem) (name : List ℕ) → LacksRange p name faults.Map → HasParameter p name
lacking_map p name h = declared p name h.is_fault.0.at h.is_fault.0.parameter h.is_fault.0.named

pub lacking_coefficient : (p : Problem) (name : List ℕ) → LacksRange p name faults.Coefficient → HasParameter p name
lacking_coefficient p name h = declared p name h.is_fault.2.number.at h.is_fault.2.number.parameter h.is_fault.2.number.named

-- ---- one setting
pub affine_map : (p : Problem) (q : Program ParamForm) → IsMapOf p q → IsAffineMapOf p q
affine_map p q m = record { dpp = m.dpp; unread = []; reduces = m.reduces }

-- the program at the setting is the kept one there
pub fixed_there : (p : Problem) (setting : Pairs) (q : Program ParamForm) (r : Program Frac) → IsMapOf p q → SessionGives p setting (Ok r) → FixGives setting q (Ok r)
fixed_there p setting q r m (mapped s n f) = subst (λ (z : Program ParamForm). FixGives setting z (Ok r)) (one_map p s q n m) f
fixed_there p setting q r m (anew none h) = absurd (none (q, m))

pub ranged_there : (p : Problem) (name : List ℕ) (q : Program ParamForm) → IsMapOf p q → HasRange p name → IsRanged p q name
ranged_there p name q m h = subst (λ (z : Program ParamForm). IsRanged p z name) (one_map p h.map q h.is_map m) h.ranged

-- a setting that fits the parameters fits the problem, which has a map
fitting_there : (p : Problem) (setting : Pairs) (q : Program ParamForm) → IsMapOf p q → FitsParameters p.parameters setting → IsFitting p setting
fitting_there p setting q m fits = (formed_are_fitting p).param_forms m.dpp [] setting m.reduces.nodes.table m.reduces.nodes.formed fits

-- what is told is right there
right_range : (p : Problem) (name : List ℕ) (limit : ℕ) (s : Pairs) (q : Program Frac) (r : Result Ranged RangeStop) → FitsParameters p.parameters s → SessionGives p s (Ok q)
    → TellsOf name limit p s q r →
    IfOk r (IsRightAt p s (HoldsOn p (setting_of p s) name))
right_range p name limit s q r fits given g =
    let has = g.range in
    let fitting = fitting_there p s has.map has.is_map fits in
    right_there p s (HoldsOn p (setting_of p s) name) r fitting
    (right_told p has.map q s name limit r (affine_map p has.map has.is_map) fitting (fixed_there p s has.map q has.is_map given) has.ranged g.gives)

-- ---- all settings
pub ranges_are_right : RangesAreRight
ranges_are_right p name limit settings outcomes h =
    are_right (TellsOf name limit) (λ (o : RangeOutcome) (e : Result (Result Ranged RangeStop) Stop). range_end o.end ≡ e) (λ (o : RangeOutcome). o.place) p (λ s. HoldsOn p (setting_of p s) name)
    (λ s o. FindsRight p s (HoldsOn p (setting_of p s) name) (range_end o.end)) (right_range p name limit)
    (λ s o e t k. subst (FindsRight p s (HoldsOn p (setting_of p s) name)) (sym t) k) settings outcomes h

module _ (p : Problem) (name : List ℕ) (limit : ℕ) (s : Pairs) (q : Program Frac) where
  one_told : (x y : Result Ranged RangeStop) → TellsOf name limit p s q x → TellsOf name limit p s q y → AreOneRange x y
  one_told x y h k =
      one_range p h.range.map q s name limit x y h.gives (subst (λ (z : Program ParamForm). RangeGives p z q s name limit y) (one_map p k.range.map h.range.map k.range.is_map h.range.is_map) k.gives)

  -- one thing is told for a program, or one stops it
  one_answer : (x y : Result Ranged RangeStop) → TellsOf name limit p s q x → TellsOf name limit p s q y → AreOneEnd range.Memory (λ (a b : Ranged). a ≡ b) (Ok x) (Ok y)
  one_answer (Ok a) (Ok b) h k n m = one_told (Ok a) (Ok b) h k
  one_answer (Ok a) (Err e) h k n m = m (one_told (Ok a) (Err e) h k)
  one_answer (Err e) (Ok b) h k n m = n (one_told (Err e) (Ok b) h k)
  one_answer (Err e) (Err f) h k n m = one_told (Err e) (Err f) h k n m

-- ---- outcomes
same_told : (x y : RangeEnd) → range_end x ≡ range_end y → x ≡ y
same_told (the.Ranged a) (the.Ranged b) e = let same : a ≡ b = cc in ap the.Ranged same
same_told (the.Ranged a) (the.Range t) e = absurd cc
same_told (the.Ranged a) (the.Stop t) e = absurd cc
same_told (the.Range s) (the.Ranged b) e = absurd cc
same_told (the.Range s) (the.Range t) e = let same : s ≡ t = cc in ap the.Range same
same_told (the.Range s) (the.Stop t) e = absurd cc
same_told (the.Stop s) (the.Ranged b) e = absurd cc
same_told (the.Stop s) (the.Range t) e = absurd cc
same_told (the.Stop s) (the.Stop t) e = let same : s ≡ t = cc in ap the.Stop same

same_outcome : (o q : RangeOutcome) → range_end o.end ≡ range_end q.end → o.place ≡ q.place → o ≡ q
same_outcome o q h f =
    let e : o.end ≡ q.end = same_told o.end q.end h in
    λ i. record {
      end = e i;
      place = f i;
      placed = is_prop→PathP (λ j. is_some (f j) ≡ range_names_node (e j)) (λ j. hlevel props) o.placed q.placed i;
    }

pub ranges_are_one : RangesAreOne
ranges_are_one p name limit settings os qs h k =
    are_one (TellsOf name limit) (λ (o : RangeOutcome) (e : Result (Result Ranged RangeStop) Stop). range_end o.end ≡ e) (λ (o : RangeOutcome). o.place) p range.Memory
    (λ (a b : Ranged). a ≡ b) (λ (o q : RangeOutcome). HadMemory o → HadMemory q → o ≡ q)
    (λ s q x y fits given. one_answer p name limit s q x y) (alike (λ (o : RangeOutcome). range_end o.end) (λ (o : RangeOutcome). o.place) range.Memory same_outcome) settings os qs h k
