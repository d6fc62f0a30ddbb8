-- Parts that are added one after the other.
use Rattle.std.proofs.Common.{◌≡◌, ℕ, ◌+◌, ◌<◌, ◌≤◌, List, [], ◌∷◌, map, Option, Result, Ok, Err, length, get_or, drop, inl, inr, refl, sym, subst}
use Rattle.std.proofs.lemmas.List.{drop_all}
use Rattle.dcx_frac.specs.declared.fraction.Frac.{Frac}
use Rattle.dcx_frac.specs.declared.fraction.Passes.{Passes}
use Rattle.dcx_linear.specs.declared.change.Change.{Change}
use Rattle.dcx_linear.specs.declared.form.Form.{Form}
use Rattle.dcx_linear.specs.Parts.{adds_parts}
use Rattle.dcx_linear.proofs.Formed.{drop_at}
use Rattle.dcx_entries.specs.Sums.{adds, adds_each}

module _ {T S : Type 0} (Add : T → S → Result S Passes → Type 0) where
  -- what those from i on give of s, all of them give of the start
  abbrev pub GoesOn : S → List T → ℕ → S → Type 0
  GoesOn start xs i s = (answer : Result S Passes) → adds_each Add (drop i xs) s answer → adds_each Add xs start answer

  then_others : (xs : List T) (x : T) (s g : S) (answer : Result S Passes) → Add x s (Ok g) → adds_each Add xs g answer → adds_each Add (x ∷ xs) s answer
  then_others xs x s g (Ok h) add rest = (g, add, rest)
  then_others xs x s g (Err passes) add rest = inr (g, add, rest)

  module _ (start : S) (xs : List T) (i : ℕ) (x : T) (lt : i < length xs) (is : x ≡ get_or xs i x) (s : S) where
    pub goes : (g : S) → Add x s (Ok g) → GoesOn start xs i s → GoesOn start xs (i + 1) g
    goes g add h answer rest = h answer (subst (λ l. adds_each Add l s answer) (sym (drop_at xs i x lt is)) (then_others (drop (i + 1) xs) x s g answer add rest))

    pub stops : (passes : Passes) → Add x s (Err passes) → GoesOn start xs i s → adds_each Add xs start (Err passes)
    stops passes add h = h (Err passes) (subst (λ l. adds_each Add l s (Err passes)) (sym (drop_at xs i x lt is)) (inl add))

  -- after the last one all are added
  pub ends : (start : S) (xs : List T) (i : ℕ) (s : S) → length xs ≤ i → GoesOn start xs i s → adds_each Add xs start (Ok s)
  ends start xs i s le h = h (Ok s) (subst (λ l. adds_each Add l s (Ok s)) (sym (drop_all i xs le)) refl)

-- parts that are made of other things
module _ {C : Type 0} (number_of : C → Option Frac) (Sums : C → C → Result C Passes → Type 0) (Changes : Change → C → Result C Passes → Type 0) where
  module _ {T U : Type 0} (q : T → U) (p : U → Change × Form C) where
    abbrev pub adds_made : T → Form C → Result (Form C) Passes → Type 0
    adds_made x = adds number_of Sums Changes (p (q x))

    made_are_parts : (xs : List T) (f : Form C) (r : Result (Form C) Passes) → adds_each adds_made xs f r → adds_parts number_of Sums Changes (map p (map q xs)) f r
    made_are_parts [] f r h = h
    made_are_parts (x ∷ xs) f (Ok g) h = (h.0, h.1, made_are_parts xs h.0 (Ok g) h.2)
    made_are_parts (x ∷ xs) f (Err passes) (inl h) = inl h
    made_are_parts (x ∷ xs) f (Err passes) (inr h) = inr (h.0, h.1, made_are_parts xs h.0 (Err passes) h.2)

    -- what those from i on give of s, all of them give of the start
    abbrev pub MadeGoOn : Form C → List T → ℕ → Form C → Type 0
    MadeGoOn start xs i s = GoesOn adds_made start xs i s

    module _ (start : Form C) (xs : List T) (i : ℕ) (x : T) (lt : i < length xs) (is : x ≡ get_or xs i x) (s : Form C) where
      pub made_goes : (g : Form C) → adds number_of Sums Changes (p (q x)) s (Ok g) → MadeGoOn start xs i s → MadeGoOn start xs (i + 1) g
      made_goes g add h = goes adds_made start xs i x lt is s g add h

      pub made_stops : (passes : Passes) → adds number_of Sums Changes (p (q x)) s (Err passes) → MadeGoOn start xs i s → adds_parts number_of Sums Changes (map p (map q xs)) start (Err passes)
      made_stops passes add h = made_are_parts xs start (Err passes) (stops adds_made start xs i x lt is s passes add h)

    -- after the last one all are added
    pub made_ends : (start : Form C) (xs : List T) (i : ℕ) (s : Form C) → length xs ≤ i → MadeGoOn start xs i s → adds_parts number_of Sums Changes (map p (map q xs)) start (Ok s)
    made_ends start xs i s le h = made_are_parts xs start (Ok s) (ends adds_made start xs i s le h)
