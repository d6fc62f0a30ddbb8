-- Entries that are formed one after the other.
use Rattle.std.proofs.Common.{◌≡◌, ℕ, zero, suc, ◌+◌, ◌<◌, ◌⊎◌, List, [], ◌∷◌, ◌++◌, map, slice_index_or, Some, Result, Ok, Err}
use Rattle.std.proofs.Common.{IfOk, length, get_or, slice_get, inl, inr, refl, sym, ap, ◌∙◌, subst, arith, length-append}
use Rattle.std.proofs.lemmas.List.{length-map}
use Rattle.std.proofs.lemmas.Option.{slice_get_within}
use Rattle.dcx_math.proofs.Lists.{element_at}
use Rattle.dcx_frac.specs.declared.fraction.Passes.{Passes}
use Rattle.dcx_atom.specs.declared.stops.ValueStop.{ValueStop}
use Rattle.dcx_atom.specs.declared.stops.ValueStop.TheVariants as stops
use Rattle.dcx_linear.specs.declared.stop.CoefStop.{CoefStop}
use Rattle.dcx_linear.specs.declared.stop.CoefStop.TheVariants as coefs
use Rattle.dcx_linear.specs.Stops.{OnPass}
use Rattle.dcx_entries.proofs.Places.{at_place}
use Rattle.dcx_entries.specs.Forming.{FormsEach, AtEntry, OnStop, stop_at}

-- what stands in a list that has one more
get_more : {A : Type 0} (xs : List A) (x y : A) (j : ℕ) → slice_get (xs ++ x ∷ []) j ≡ Some y → (slice_get xs j ≡ Some y) ⊎ ((j ≡ length xs) × (x ≡ y))
get_more [] x y zero e = inr (refl, cc)
get_more [] x y (suc j) e = cc
get_more (z ∷ zs) x y zero e = inl e
get_more (z ∷ zs) x y (suc j) e = by (get_more zs x y j e)
  where
    by : (slice_get zs j ≡ Some y) ⊎ ((j ≡ length zs) × (x ≡ y)) → (slice_get (z ∷ zs) (suc j) ≡ Some y) ⊎ ((suc j ≡ length (z ∷ zs)) × (x ≡ y))
    by (inl h) = inl h
    by (inr h) = inr (ap suc h.0, h.1)

module _ {A E : Type 0} (F : ℕ → Result A E → Type 0) where
  pub each_none : FormsEach F 0 (Ok [])
  each_none = (refl, λ j x e. absurd (omega (arith, slice_get_within [] j x e)))

  -- one more is formed
  pub each_more : (n : ℕ) (xs : List A) (x : A) → FormsEach F n (Ok xs) → F n (Ok x) → FormsEach F (n + 1) (Ok (xs ++ x ∷ []))
  each_more n xs x h f = (omega (arith, length-append xs (x ∷ []), h.0), at)
    where
      at : (j : ℕ) (y : A) → slice_get (xs ++ x ∷ []) j ≡ Some y → F j (Ok y)
      at j y e = by (get_more xs x y j e)
        where
          by : (slice_get xs j ≡ Some y) ⊎ ((j ≡ length xs) × (x ≡ y)) → F j (Ok y)
          by (inl k) = h.1 j y k
          by (inr k) = rw (k.0, h.0, ← k.1) f

  -- the next one stops
  pub each_stops : (n k : ℕ) (xs : List A) (e : E) → FormsEach F k (Ok xs) → k < n → F k (Err e) → FormsEach F n (Err e)
  each_stops n k xs e h lt f = (k, lt, f, λ j below. let s = element_at xs j (rw h.0 below) in (s.0, h.1 j s.0 s.1))

-- place by place, what F says of what is made of a list
module _ {X P A E : Type 0} (g : X → P) (none : P) (F : P → Result A E → Type 0) (xs : List X) where
  abbrev pub Listed : ℕ → Result A E → Type 0
  Listed k r = F (slice_index_or (map g xs) k none) r

  module _ (k : ℕ) (x : X) (lt : k < length xs) (is : x ≡ get_or xs k x) where
    here : (r : Result A E) → F (g x) r → Listed k r
    here r h = subst (λ p. F p r) (sym (at_place g xs k x none lt is)) h

    pub listed_more : (formed : List A) (a : A) → FormsEach Listed k (Ok formed) → F (g x) (Ok a) → FormsEach Listed (k + 1) (Ok (formed ++ a ∷ []))
    listed_more formed a h f = each_more Listed k formed a h (here (Ok a) f)

    pub listed_stops : (formed : List A) (e : E) → FormsEach Listed k (Ok formed) → F (g x) (Err e) → FormsEach Listed (length (map g xs)) (Err e)
    listed_stops formed e h f = each_stops Listed (length (map g xs)) k formed e h (rw (length-map xs g) lt) (here (Err e) f)

  pub listed_ends : (k : ℕ) (formed : List A) → k ≡ length xs → FormsEach Listed k (Ok formed) → FormsEach Listed (length (map g xs)) (Ok formed)
  listed_ends k formed e h = subst (λ n. FormsEach Listed n (Ok formed)) (e ∙ sym (length-map xs g)) h

-- what stops an entry, stops it there
pub at_entry_stops : {A : Type 0} (F : Result A Passes → Type 0) (j : ℕ) (stop : CoefStop) → OnPass stop (λ passes. F (Err passes)) → OnStop (stop_at j stop) (λ e. AtEntry j F (Err e))
at_entry_stops F j (coefs.Passes passes) h = (refl, h)
at_entry_stops F j coefs.Memory h = tt

-- what stands at a place
pub at_index : {X : Type 0} (xs : List X) (i : ℕ) (x e : X) → i < length xs → x ≡ get_or xs i x → slice_index_or xs i e ≡ x
at_index [] i x e lt is = absurd (omega (arith, lt))
at_index (y ∷ ys) zero x e lt is = sym is
at_index (y ∷ ys) (suc i) x e lt is = at_index ys i x e (omega (arith, lt)) is

-- a fact of what stops follows from another
pub OnStop-weaker : (stop : ValueStop) (P Q : ValueStop → Type 0) → ((e : ValueStop) → P e → Q e) → OnStop stop P → OnStop stop Q
OnStop-weaker (stops.Passes entry passes) P Q f h = f (stops.Passes entry passes) h
OnStop-weaker (stops.ZeroDivisor entry) P Q f h = f (stops.ZeroDivisor entry) h
OnStop-weaker stops.Memory P Q f h = tt

-- entries, each of which is made of what stands at its place
module _ {P A : Type 0} (xs : List P) (none : P) (F : P → Result A Passes → Type 0) where
  abbrev pub EntryOf : ℕ → Result A ValueStop → Type 0
  EntryOf j r = AtEntry j (F (slice_index_or xs j none)) r

  module _ (k : ℕ) (x : P) (at : slice_index_or xs k none ≡ x) where
    pub entry_more : (formed : List A) (a : A) → FormsEach EntryOf k (Ok formed) → F x (Ok a) → FormsEach EntryOf (k + 1) (Ok (formed ++ a ∷ []))
    entry_more formed a h f = each_more EntryOf k formed a h (subst (λ p. F p (Ok a)) (sym at) f)

    pub entry_stops : (n : ℕ) → k < n → (formed : List A) (stop : CoefStop) → FormsEach EntryOf k (Ok formed) → OnPass stop (λ passes. F x (Err passes))
        → OnStop (stop_at k stop) (λ e. FormsEach EntryOf n (Err e))
    entry_stops n lt formed stop h f =
        OnStop-weaker (stop_at k stop) (λ e. AtEntry k (F x) (Err e)) (λ e. FormsEach EntryOf n (Err e))
        (λ e q. each_stops EntryOf n k formed e h lt (subst (λ p. AtEntry k (F p) (Err e)) (sym at) q)) (at_entry_stops (F x) k stop f)

-- a fact of an answer follows from another
pub if_ok_weaker : {A E : Type 0} (r : Result A E) (P Q : A → Type 0) → ((x : A) → P x → Q x) → IfOk r P → IfOk r Q
if_ok_weaker (Ok x) P Q f h = f x h
if_ok_weaker (Err e) P Q f h = tt
