-- A parameter is met, or something is wrong with it, and not both.
use Rattle.std.proofs.Common.{◌≡◌, inl, inr, ℕ, List, [], Some, option_map, Option, Result, Ok, Err, IsOk, IfErr, MatchResult, ◌↔◌, true≢false, refl, sym, ap, ◌∙◌, subst}
use Rattle.std.specs.List.{All}
use Rattle.std.specs.Option.{unwrap_or}
use Rattle.std.proofs.lemmas.Option.{none-some, same_Some}
use Rattle.dcx_shape.specs.Shape.{sides_of}
use Rattle.dcx_atom.specs.declared.array.Array.{Array}
use Rattle.dcx_atom.specs.Arrays.{number_at}
use Rattle.dcx_point.specs.Pairs.{Pairs, names_of, array_of}
use Rattle.dcx_call.specs.declared.attribute.Parameter.{Parameter}
use Rattle.dcx_call.specs.Attributes.{IsWithin}
use Rattle.dcx_call.specs.Values.{given_by}
use Rattle.dcx_domain.proofs.Entries.{leaves_not}
use Rattle.dcx_answer.specs.declared.stop.Stop.{Stop}
use Rattle.dcx_answer.specs.declared.stop.Stop.TheVariants.{UnknownParam, MissingParam, ParamShape, ParamSign, TooLarge, ZeroDivisor, Wide, PivotLimit, Memory}
use Rattle.dcx_fit.specs.Fit.{IsNamed, IsMet, FitsParameters, IsFaultOf, IsUnknown, IsUnmet, IsFirstMisfit}
use Rattle.dcx_fit.specs.Faults.{IsOrMemory}
use Rattle.dcx_math.proofs.Lists.{holds_at}

-- the numbers of an array that is given
pub given_are : (given : Pairs) (name : List ℕ) (array : Array) → array_of given name ≡ Some array → given_by given name ≡ number_at array.entries
given_are given name array e = ap (λ (o : Option Array). λ (j : ℕ). number_at (unwrap_or (option_map (λ (x : Array). x.entries) o) []) j) e

-- a parameter whose array is as is demanded
pub met : (given : Pairs) (q : Parameter) (array : Array) → array_of given q.name ≡ Some array → sides_of array.shape ≡ sides_of q.shape →
    IsWithin q.attribute (sides_of q.shape) (number_at array.entries) → IsMet given q
met given q array there shape within = record {
  shaped = record { array = array; there = there; shape = shape };
  within = subst (IsWithin q.attribute (sides_of q.shape)) (sym (given_are given q.name array there)) within;
}

-- the stop that tells a fault, or want of memory
pub or_memory : (P : Stop → Type 0) (expected stop : Stop) → IsOrMemory expected stop → P expected → P Memory → P stop
or_memory P expected stop (inl e) h m = subst P (sym e) h
or_memory P expected stop (inr e) h m = subst P (sym e) m

-- a parameter with a fault isn't met
misshaped_unmet : (given : Pairs) (q : Parameter) → (array : Array) → array_of given q.name ≡ Some array → ¬ (sides_of array.shape ≡ sides_of q.shape) → ¬ IsMet given q
misshaped_unmet given q array there differs m =
    differs (ap (λ (x : Array). sides_of x.shape) (same_Some array m.shaped.array (sym there ∙ m.shaped.there)) ∙ m.shaped.shape)

pub fault_unmet : (given : Pairs) (q : Parameter) (stop : Stop) → IsFaultOf given q stop → ¬ IsMet given q
fault_unmet given q (UnknownParam name) f m = f
fault_unmet given q (MissingParam name) f m = none-some m.shaped.array (sym f.1 ∙ m.shaped.there)
fault_unmet given q (ParamShape name declared shape) f m =
    let w = f.1 in
    misshaped_unmet given q w.array w.there (λ e. w.differs (ap sides_of w.is_given ∙ e ∙ ap sides_of (sym w.is_declared))) m
fault_unmet given q (ParamSign name entry v) f m =
    let w = f.1 in
    leaves_not q.attribute (sides_of q.shape) (number_at w.array.entries) entry w.first.leaves.there w.first.leaves.leaves
    (subst (IsWithin q.attribute (sides_of q.shape)) (given_are given q.name w.array w.there) m.within)
fault_unmet given q (TooLarge rows columns) f m = f
fault_unmet given q (ZeroDivisor node entry) f m = f
fault_unmet given q (Wide site) f m = f
fault_unmet given q (PivotLimit count) f m = f
fault_unmet given q Memory f m = f m

-- a setting that names another parameter, or doesn't meet one, doesn't fit
pub unknown_unfit : (ps : List Parameter) (given : Pairs) (stop : Stop) → IsUnknown ps given stop → ¬ All (IsNamed ps) (names_of given)
unknown_unfit ps given (UnknownParam name) u h = u.unknown (holds_at (IsNamed ps) (names_of given) u.position name h u.there)
unknown_unfit ps given (MissingParam name) u h = u
unknown_unfit ps given (ParamShape name declared shape) u h = u
unknown_unfit ps given (ParamSign name entry v) u h = u
unknown_unfit ps given (TooLarge rows columns) u h = u
unknown_unfit ps given (ZeroDivisor node entry) u h = u
unknown_unfit ps given (Wide site) u h = u
unknown_unfit ps given (PivotLimit count) u h = u
unknown_unfit ps given Memory u h = u h

pub unmet_unfit : (ps : List Parameter) (given : Pairs) (stop : Stop) → IsUnmet ps given stop → ¬ All (IsMet given) ps
unmet_unfit ps given stop u h = fault_unmet given u.parameter stop u.fault (holds_at (IsMet given) ps u.position u.parameter h u.there)

-- ---- the first misfit
pub unknown_first : (ps : List Parameter) (given : Pairs) (stop : Stop) → IsUnknown ps given stop → IsFirstMisfit ps given stop
unknown_first ps given (UnknownParam name) u = u
unknown_first ps given (MissingParam name) u = absurd u
unknown_first ps given (ParamShape name declared shape) u = absurd u
unknown_first ps given (ParamSign name entry v) u = absurd u
unknown_first ps given (TooLarge rows columns) u = u
unknown_first ps given (ZeroDivisor node entry) u = u
unknown_first ps given (Wide site) u = u
unknown_first ps given (PivotLimit count) u = u
unknown_first ps given Memory u = λ h. u h.named

pub unmet_first : (ps : List Parameter) (given : Pairs) (stop : Stop) → All (IsNamed ps) (names_of given) → IsUnmet ps given stop → IsFirstMisfit ps given stop
unmet_first ps given (UnknownParam name) n u = absurd u.fault
unmet_first ps given (MissingParam name) n u = record { named = n; unmet = u }
unmet_first ps given (ParamShape name declared shape) n u = record { named = n; unmet = u }
unmet_first ps given (ParamSign name entry v) n u = record { named = n; unmet = u }
unmet_first ps given (TooLarge rows columns) n u = u.fault
unmet_first ps given (ZeroDivisor node entry) n u = u.fault
unmet_first ps given (Wide site) n u = u.fault
unmet_first ps given (PivotLimit count) n u = u.fault
unmet_first ps given Memory n u = λ h. unmet_unfit ps given Memory u h.met

pub misfit_unfit : (ps : List Parameter) (given : Pairs) (stop : Stop) → IsFirstMisfit ps given stop → ¬ FitsParameters ps given
misfit_unfit ps given (UnknownParam name) u h = unknown_unfit ps given (UnknownParam name) u h.named
misfit_unfit ps given (MissingParam name) u h = unmet_unfit ps given (MissingParam name) u.unmet h.met
misfit_unfit ps given (ParamShape name declared shape) u h = unmet_unfit ps given (ParamShape name declared shape) u.unmet h.met
misfit_unfit ps given (ParamSign name entry v) u h = unmet_unfit ps given (ParamSign name entry v) u.unmet h.met
misfit_unfit ps given (TooLarge rows columns) u h = u
misfit_unfit ps given (ZeroDivisor node entry) u h = u
misfit_unfit ps given (Wide site) u h = u
misfit_unfit ps given (PivotLimit count) u h = u
misfit_unfit ps given Memory u h = u h

-- what the names and the parameters tell of the whole
pub both : (ps : List Parameter) (given : Pairs) (r : Result (Unit {0}) Stop) → All (IsNamed ps) (names_of given) →
    MatchResult r (λ _. All (IsMet given) ps) (IsUnmet ps given) → MatchResult r (λ _. FitsParameters ps given) (IsFirstMisfit ps given)
both ps given (Ok x) n h = record { named = n; met = h }
both ps given (Err stop) n h = unmet_first ps given stop n h

-- it fits exactly where nothing stops it
pub exact : (ps : List Parameter) (given : Pairs) (r : Result (Unit {0}) Stop) → MatchResult r (λ _. FitsParameters ps given) (IsFirstMisfit ps given) →
    IsOk r ↔ FitsParameters ps given
exact ps given (Ok x) h = ((λ e. h), (λ f. refl))
exact ps given (Err stop) h = ((λ e. absurd (true≢false (sym e))), (λ f. absurd (misfit_unfit ps given stop h f)))

pub stops : (ps : List Parameter) (given : Pairs) (r : Result (Unit {0}) Stop) → MatchResult r (λ _. FitsParameters ps given) (IsFirstMisfit ps given) →
    IfErr r (IsFirstMisfit ps given)
stops ps given (Ok x) h = tt
stops ps given (Err stop) h = h

-- a name stops it
pub stopped : (ps : List Parameter) (given : Pairs) (r : Result (Unit {0}) Stop) (stop : Stop) → r ≡ Err stop → IsUnknown ps given stop →
    MatchResult r (λ _. FitsParameters ps given) (IsFirstMisfit ps given)
stopped ps given r stop e u =
    subst (λ (r : Result (Unit {0}) Stop). MatchResult r (λ _. FitsParameters ps given) (IsFirstMisfit ps given)) (sym e) (unknown_first ps given stop u)
