-- Pairs that are copied one after the other.
use Rattle.std.proofs.Common.{◌≡◌, ℕ, zero, suc, ◌+◌, ◌<◌, false, List, [], ◌∷◌, ◌++◌, length, take, Option, Some, None, option_map, refl, sym, ap, ap₂, ◌∙◌}
use Rattle.std.specs.Prelude.{slice_get}
use Rattle.std.specs.List.{IsDistinct}
use Rattle.std.proofs.lemmas.List.{take_more}
use Rattle.std.proofs.lemmas.Option.{none-some, same_Some, slice_get_within, get_or_from_slice_get}
use Rattle.dcx_atom.specs.declared.array.Array.{Array}
use Rattle.dcx_point.specs.Pairs.{Pairs, same_name, names_of, array_of, with_array, AreDistinct}
use Rattle.dcx_point.proofs.Puts.{absent}
use Rattle.dcx_point.proofs.Names.{pair_at, name_there, all_at, unlike, array_at}

-- the pairs before it have no array of its name
none_before : (ps : Pairs) (i : ℕ) (x : List ℕ × Array) → AreDistinct ps → slice_get ps i ≡ Some x → array_of (take i ps) x.0 ≡ None
unfolding IsDistinct
none_before [] i x d e = absurd (none-some x e)
none_before (p ∷ ps) zero x d e = refl
none_before (p ∷ ps) (suc i) x d e = let s = unlike p.0 x.0 (all_at (λ n. same_name p.0 n ≡ false) ps i x d.0 e) in rw s (none_before ps i x d.1 e)

-- so it is put behind them
put_behind : (ps : Pairs) (i : ℕ) (x : List ℕ × Array) → AreDistinct ps → slice_get ps i ≡ Some x → with_array (take i ps) x.0 x.1 ≡ take (i + 1) ps
put_behind ps i x d e =
    absent (take i ps) x.0 x.1 (none_before ps i x d e)
    ∙ ap (λ y. take i ps ++ y ∷ []) (sym (get_or_from_slice_get ps i x x e)) ∙ sym (take_more ps i x (slice_get_within ps i x e))

-- what is not there
pub not_some : {X Y : Type 0} (f : X → Y) (o : Option X) → ((x : X) → o ≡ Some x → ⊥) → option_map f o ≡ None
not_some f None h = refl
not_some f (Some x) h = absurd (h x refl)

-- each name that is there has its array
pub no_array : {X : Type 0} (ps : Pairs) (i : ℕ) → AreDistinct ps → (f : X → Array) (o : Option X) (name : List ℕ) → Some name ≡ slice_get (names_of ps) i
    → option_map f o ≡ array_of ps name → ((x : X) → o ≡ Some x → ⊥) → ⊥
no_array ps i distinct f o name named valued none =
    let (x, at) = pair_at ps i name (sym named) in
    none-some x (sym (not_some f o none) ∙ valued ∙ array_at ps i (name, x) distinct at)

-- and each place has its name
pub no_name : {X : Type 0} (ps : Pairs) (i : ℕ) → (f : X → List ℕ) (o : Option X) → i < length ps → option_map f o ≡ slice_get (names_of ps) i → ((x : X) → o ≡ Some x → ⊥) → ⊥
no_name ps i f o lt named none = name_there ps i lt (sym named ∙ not_some f o none)

-- one more pair
pub pair_more : (ps before after : Pairs) (i : ℕ) → AreDistinct ps → before ≡ take i ps → (name key : List ℕ) (a b : Array) → Some name ≡ slice_get (names_of ps) i
    → Some a ≡ array_of ps name → key ≡ name → b ≡ a → after ≡ with_array before key b → after ≡ take (i + 1) ps
pair_more ps before after i distinct was name key a b named valued k e puts =
    let (x, at) = pair_at ps i name (sym named) in
    let same : a ≡ x = same_Some a x (valued ∙ array_at ps i (name, x) distinct at) in
    puts ∙ ap₂ (with_array before) k (e ∙ same) ∙ ap (λ z. with_array z name x) was ∙ put_behind ps i (name, x) distinct at
