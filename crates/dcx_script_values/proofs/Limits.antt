-- Lists up to their limits: one item more, and one list after the other.
use Rattle.std.proofs.Common.{◌≡◌, refl, arith, suc, ◌+◌, ◌<◌, ◌≤◌, [], ◌∷◌, ◌++◌, Ok, Err}
use Rattle.std.proofs.lemmas.Bool.{lt-leb, le-leb}
use Rattle.dcx_shape.specs.declared.place.Place.{Place}
use Rattle.dcx_arena.specs.declared.fault.Count.TheVariants.{Items}
use Rattle.dcx_script_values.specs.Values.{Value, Values, values_of, items_of, counted, count, depth, State, too_many, with_room, joined}
use Rattle.dcx_script_values.proofs.Lists.{values_of-items_of, count-items_of}

-- ---- one list after the other
pub joined-over : (place : Place) (xs ys : Values) (s : State) → 20000 < count xs + count ys → joined place xs ys s ≡ Err (too_many place Items (count xs + count ys))
joined-over place xs ys s over = rw (count-items_of xs ys, lt-leb (count xs + count ys) 20000 over) refl

-- ---- one item more
pub room-over : (place : Place) (vs : Values) (v : Value) (s : State) → depth v < 64 → 20000 < count vs + counted v → with_room place vs v s ≡ Err (too_many place Items (count vs + counted v))
room-over place vs v s shallow over = rw (values_of-items_of vs, le-leb (suc (depth v)) 64 (omega (arith, shallow)), lt-leb (suc (count vs + counted v)) 20001 (omega (arith, over))) refl

pub room-within : (place : Place) (vs : Values) (v : Value) (s : State) → depth v < 64 → count vs + counted v ≤ 20000 → with_room place vs v s ≡ Ok (values_of (items_of vs ++ v ∷ []), s)
room-within place vs v s shallow within = rw (values_of-items_of vs, le-leb (suc (depth v)) 64 (omega (arith, shallow)), le-leb (suc (count vs + counted v)) 20001 (omega (arith, within))) refl
