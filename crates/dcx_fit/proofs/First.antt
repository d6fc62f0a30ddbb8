-- There is one first misfit.
use Rattle.std.proofs.Common.{◌≡◌, ◌≢◌, ℕ, List, Some, None, refl, sym, ap, ap₂, ◌∙◌, subst}
use Rattle.std.specs.List.{slice_get, All}
use Rattle.std.proofs.lemmas.Option.{none-some, same_Some}
use Rattle.dcx_frac.specs.declared.fraction.Frac.{Frac}
use Rattle.dcx_shape.specs.Shape.{sides_of}
use Rattle.dcx_atom.specs.declared.array.Array.{Array}
use Rattle.dcx_atom.specs.Arrays.{number_at}
use Rattle.dcx_atom.proofs.Entrywise.{one_place}
use Rattle.dcx_point.specs.Pairs.{Pairs, names_of, array_of}
use Rattle.dcx_call.specs.declared.attribute.Parameter.{Parameter}
use Rattle.dcx_domain.specs.Entries.{KeepsAt}
use Rattle.dcx_domain.proofs.Entries.{not_both}
use Rattle.dcx_domain.proofs.Variables.{HoldBelow}
use Rattle.dcx_answer.specs.declared.stop.Stop.{Stop}
use Rattle.dcx_answer.specs.declared.stop.Stop.TheVariants.{UnknownParam, MissingParam, ParamShape, ParamSign, TooLarge, ZeroDivisor, Wide, PivotLimit, Memory}
use Rattle.dcx_fit.specs.Fit.{IsNamed, IsMet, IsFirstLeft, IsFaultOf, IsFirstUnknown, IsUnmet, IsFirstMisfit}
use Rattle.dcx_fit.specs.Laws.{HoldsForStops}
use Rattle.dcx_fit.proofs.Each.{each}
use Rattle.dcx_fit.proofs.Misfits.{fault_unmet, unknown_unfit, misfit_unfit}

-- one element of a list is the first where P doesn't hold
module _ {X : Type 0} (P : X → Type 0) (xs : List X) where
  one_first : (i j : ℕ) (x y : X) → slice_get xs i ≡ Some x → slice_get xs j ≡ Some y → ¬ P x → ¬ P y → HoldBelow P xs i → HoldBelow P xs j → x ≡ y
  one_first i j x y at at' a b h g =
      let same = one_place (λ k. (z : X) → slice_get xs k ≡ Some z → P z) i j (λ f. a (f x at)) (λ f. b (f y at')) (λ k lt z e. h k z lt e) (λ k lt z e. g k z lt e) in
      same_Some x y (sym at ∙ ap (slice_get xs) same ∙ at')

-- ---- what is wrong with one parameter
module _ (given : Pairs) (q : Parameter) where
  same_array : (x y : Array) → array_of given q.name ≡ Some x → array_of given q.name ≡ Some y → x ≡ y
  same_array x y e f = same_Some x y (sym e ∙ f)

  -- the stop is one of three
  data Wrong (stop : Stop) : Type 0 where
    missing : array_of given q.name ≡ None → stop ≡ MissingParam q.name → Wrong stop
    misshaped : (array : Array) → array_of given q.name ≡ Some array → ¬ (sides_of array.shape ≡ sides_of q.shape) → stop ≡ ParamShape q.name q.shape array.shape → Wrong stop
    signed : (array : Array) → array_of given q.name ≡ Some array → sides_of array.shape ≡ sides_of q.shape → (entry : ℕ) (v : Frac) → IsFirstLeft q array entry v
        → stop ≡ ParamSign q.name entry v → Wrong stop

  wrong : (stop : Stop) → IsFaultOf given q stop → stop ≢ Memory → Wrong stop
  wrong (UnknownParam name) f m = absurd f
  wrong (MissingParam name) f m = missing f.1 (ap MissingParam f.0)
  wrong (ParamShape name declared other) f m =
      let w = f.1 in
      misshaped w.array w.there (λ e. w.differs (ap sides_of w.is_given ∙ e ∙ ap sides_of (sym w.is_declared)))
      (ap (λ n. ParamShape n declared other) f.0 ∙ ap₂ (ParamShape q.name) w.is_declared w.is_given)
  wrong (ParamSign name entry v) f m = signed f.1.array f.1.there f.1.shape entry v f.1.first (ap (λ n. ParamSign n entry v) f.0)
  wrong (TooLarge rows columns) f m = absurd f
  wrong (ZeroDivisor node entry) f m = absurd f
  wrong (Wide site) f m = absurd f
  wrong (PivotLimit count) f m = absurd f
  wrong Memory f m = absurd (m refl)

  -- one entry is the first that leaves, and one number stands there
  one_left : (array : Array) (i j : ℕ) (v w : Frac) → IsFirstLeft q array i v → IsFirstLeft q array j w → ParamSign q.name i v ≡ ParamSign q.name j w
  one_left array i j v w a b =
      let s = sides_of q.shape in
      let x = number_at array.entries in
      let same : i ≡ j = one_place (KeepsAt q.attribute s x) i j (λ h. not_both q.attribute s x i h a.leaves.leaves)
      (λ h. not_both q.attribute s x j h b.leaves.leaves) a.leaves.before b.leaves.before in
      ap₂ (ParamSign q.name) same (same_Some v w (sym a.number ∙ ap (slice_get array.entries) same ∙ b.number))

  one_wrong : (s t : Stop) → Wrong s → Wrong t → s ≡ t
  one_wrong s t (missing n a) (missing m b) = a ∙ sym b
  one_wrong s t (missing n a) (misshaped y there d b) = absurd (none-some y (sym n ∙ there))
  one_wrong s t (missing n a) (signed y there e j w l b) = absurd (none-some y (sym n ∙ there))
  one_wrong s t (misshaped x here c a) (missing m b) = absurd (none-some x (sym m ∙ here))
  one_wrong s t (misshaped x here c a) (misshaped y there d b) = a ∙ ap (λ (z : Array). ParamShape q.name q.shape z.shape) (same_array x y here there) ∙ sym b
  one_wrong s t (misshaped x here c a) (signed y there e j w l b) = absurd (c (ap (λ (z : Array). sides_of z.shape) (same_array x y here there) ∙ e))
  one_wrong s t (signed x here c i v f a) (missing m b) = absurd (none-some x (sym m ∙ here))
  one_wrong s t (signed x here c i v f a) (misshaped y there d b) = absurd (d (ap (λ (z : Array). sides_of z.shape) (same_array y x there here) ∙ c))
  one_wrong s t (signed x here c i v f a) (signed y there e j w l b) =
      a ∙ one_left y i j v w (subst (λ (z : Array). IsFirstLeft q z i v) (same_array x y here there) f) l ∙ sym b

-- ---- the first misfit
module _ (ps : List Parameter) (given : Pairs) where
  -- a name, or a parameter
  data First (stop : Stop) : Type 0 where
    name : (n : List ℕ) → IsFirstUnknown ps given n → stop ≡ UnknownParam n → First stop
    parameter : All (IsNamed ps) (names_of given) → IsUnmet ps given stop → First stop

  first : (stop : Stop) → IsFirstMisfit ps given stop → stop ≢ Memory → First stop
  first (UnknownParam n) f m = name n f refl
  first (MissingParam n) f m = parameter f.named f.unmet
  first (ParamShape n declared shape) f m = parameter f.named f.unmet
  first (ParamSign n entry v) f m = parameter f.named f.unmet
  first (TooLarge rows columns) f m = absurd f
  first (ZeroDivisor node entry) f m = absurd f
  first (Wide site) f m = absurd f
  first (PivotLimit count) f m = absurd f
  first Memory f m = absurd (m refl)

  one_unmet : (s t : Stop) → IsUnmet ps given s → IsUnmet ps given t → s ≢ Memory → t ≢ Memory → s ≡ t
  one_unmet s t u w m k =
      let same : u.parameter ≡ w.parameter = one_first (IsMet given) ps u.position w.position u.parameter w.parameter u.there w.there
      (fault_unmet given u.parameter s u.fault) (fault_unmet given w.parameter t w.fault) u.before w.before in
      one_wrong given w.parameter s t (wrong given w.parameter s (subst (λ (q : Parameter). IsFaultOf given q s) same u.fault) m) (wrong given w.parameter t w.fault k)

  one : (s t : Stop) → First s → First t → s ≢ Memory → t ≢ Memory → s ≡ t
  one s t (name n u a) (name l w b) m k =
      a ∙ ap UnknownParam (one_first (IsNamed ps) (names_of given) u.position w.position n l u.there w.there u.unknown w.unknown u.before w.before) ∙ sym b
  one s t (name n u a) (parameter h w) m k = absurd (unknown_unfit ps given (UnknownParam n) u h)
  one s t (parameter h u) (name l w b) m k = absurd (unknown_unfit ps given (UnknownParam l) w h)
  one s t (parameter h u) (parameter g w) m k = one_unmet s t u w m k

pub stops_hold : HoldsForStops
stops_hold = record {
  either = each;
  unfit = misfit_unfit;
  one = λ ps given s t f g m k. one ps given s t (first ps given s f m) (first ps given t g k) m k;
}
