-- Names that are bound to values, and to what those mean.
use Rattle.std.proofs.Common.{◌≡◌, Bool, true, false, List, [], ◌∷◌, map, Option, Some, None, option_map, is_some, is_none, not, refl, sym, ap, cond}
use Rattle.std.specs.Map.{lookup, remove_entry}
use Rattle.indexmap.specs.IndexMap.{insert_entry}

module _ {K A B : Type 0} (f : A → B) where
  abbrev seen : List (K × A) → List (K × B)
  seen es = map (λ e. (e.0, f e.1)) es

  pub insert-seen : (eq : K → K → Bool) (es : List (K × A)) (k : K) (a : A) → seen (insert_entry eq es k a) ≡ insert_entry eq (seen es) k (f a)
  insert-seen eq [] k a = refl
  insert-seen eq (e ∷ es) k a = by (insert-seen eq es k a) (eq k e.0)
    where
      by : seen (insert_entry eq es k a) ≡ insert_entry eq (seen es) k (f a) → (b : Bool)
          → seen (cond b ((e.0, a) ∷ es) (e ∷ insert_entry eq es k a)) ≡ cond b ((e.0, f a) ∷ seen es) ((e.0, f e.1) ∷ insert_entry eq (seen es) k (f a))
      by rest true = refl
      by rest false = ap (λ r. (e.0, f e.1) ∷ r) rest

  pub lookup-seen : (test : K → Bool) (es : List (K × A)) → lookup test (seen es) ≡ option_map f (lookup test es)
  lookup-seen test [] = refl
  lookup-seen test (e ∷ es) = by (lookup-seen test es) (test e.0)
    where
      by : lookup test (seen es) ≡ option_map f (lookup test es) → (b : Bool) → cond b (Some (f e.1)) (lookup test (seen es)) ≡ option_map f (cond b (Some e.1) (lookup test es))
      by rest true = refl
      by rest false = rest

  pub remove-seen : (test : K → Bool) (es : List (K × A)) → seen (remove_entry test es) ≡ remove_entry test (seen es)
  remove-seen test [] = refl
  remove-seen test (e ∷ es) = by (remove-seen test es) (test e.0)
    where
      by : seen (remove_entry test es) ≡ remove_entry test (seen es) → (b : Bool) → seen (cond b es (e ∷ remove_entry test es)) ≡ cond b (seen es) ((e.0, f e.1) ∷ remove_entry test (seen es))
      by rest true = refl
      by rest false = ap (λ r. (e.0, f e.1) ∷ r) rest

pub is_some-seen : {A B : Type 0} (f : A → B) (o : Option A) → is_some (option_map f o) ≡ is_some o
is_some-seen f None = refl
is_some-seen f (Some a) = refl

pub is_none-seen : {A B : Type 0} (f : A → B) (o : Option A) (b : Bool) → b ≡ is_some o → is_none (option_map f o) ≡ not b
is_none-seen f None b e = ap not (sym e)
is_none-seen f (Some a) b e = ap not (sym e)
