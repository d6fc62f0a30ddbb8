-- Laws of lists of terms: what stands at a key, and that there is one answer.
use Rattle.std.proofs.Common.{◌≡◌, ◌≢◌, ℕ, zero, suc, ◌<◌, Bool, List, [], ◌∷◌, Option, Some, None, Result, Ok, Err, length, get_or, refl, sym, ap, ◌∙◌, subst, arith}
use Rattle.std.specs.List.{All}
use Rattle.std.proofs.lemmas.List.Elements.{All-head, All-tail, All-weaker, All-cons}
use Rattle.std.proofs.lemmas.Bool.{ne_eqb}
use Rattle.std.proofs.Common.{eq-eqb}
use Rattle.dcx_math.specs.Rising.{IsRising}
use native.Mathlib.Decide.{ℕ_discrete, dec_lt}
use Rattle.dcx_frac.specs.declared.fraction.Passes.{Passes}
use Rattle.dcx_linear.specs.Terms.{term_at, kept, Keeps, SumsAt, ChangesAt, FormsKeys, SumsTerms, ChangesTerms}

module _ {T : Type 0} (key : T → ℕ) where
  -- the first term stands at its key
  pub term_at-here : (t : T) (ts : List T) (k : ℕ) → key t ≡ k → term_at key (t ∷ ts) k ≡ Some t
  term_at-here t ts k e = rw (eq-eqb (key t) k e) refl

  -- at another key stands what the others have there
  pub term_at-later : (t : T) (ts : List T) (k : ℕ) → key t ≢ k → term_at key (t ∷ ts) k ≡ term_at key ts k
  term_at-later t ts k d = rw (ne_eqb (key t) k d) refl

  -- below all keys stands nothing
  pub term_at-below : (ts : List T) (k : ℕ) → All (λ t. k < key t) ts → term_at key ts k ≡ None
  term_at-below [] k h = refl
  term_at-below (t ∷ ts) k h =
      let above : k < key t = All-head (λ u. k < key u) t ts h in
      term_at-later t ts k (λ e. omega (arith, e, above)) ∙ term_at-below ts k (All-tail (λ u. k < key u) t ts h)

  -- at the key of a term of the list stands a term
  pub term_at-present : (ts : List T) (i : ℕ) (d : T) → i < length ts → term_at key ts (key (get_or ts i d)) ≢ None
  term_at-present [] i d h = absurd (omega arith)
  term_at-present (t ∷ ts) zero d h = λ e. let q = sym (term_at-here t ts (key t) refl) ∙ e in cc
  term_at-present (t ∷ ts) (suc i) d h = by (ℕ_discrete (key t) (key (get_or ts i d))) (term_at-present ts i d (omega arith))
    where
      by : Dec (key t ≡ key (get_or ts i d)) → term_at key ts (key (get_or ts i d)) ≢ None → term_at key (t ∷ ts) (key (get_or ts i d)) ≢ None
      by (yes e) present = λ n. let q = sym (term_at-here t ts (key (get_or ts i d)) e) ∙ n in cc
      by (no f) present = λ n. present (sym (term_at-later t ts (key (get_or ts i d)) f) ∙ n)

  -- at the key of a term of a rising list stands that term
  pub term_at-member : (ts : List T) → IsRising key ts → (i : ℕ) (d : T) → i < length ts → term_at key ts (key (get_or ts i d)) ≡ Some (get_or ts i d)
  term_at-member [] rising i d h = absurd (omega arith)
  term_at-member (t ∷ ts) rising zero d h = term_at-here t ts (key t) refl
  term_at-member (t ∷ ts) rising (suc i) d h =
      let above : key t < key (get_or ts i d) = rising.0 i d (omega arith) in
      term_at-later t ts (key (get_or ts i d)) (λ e. omega (arith, e, above)) ∙ term_at-member ts rising.1 i d (omega arith)

  -- what stands at a key has the facts of all
  pub term_at-All : (P : T → Type 0) (ts : List T) (k : ℕ) (t : T) → All P ts → term_at key ts k ≡ Some t → P t
  term_at-All P [] k t h e = cc
  term_at-All P (u ∷ us) k t h e = by (ℕ_discrete (key u) k) (λ f. term_at-All P us k t (All-tail P u us h) f)
    where
      by : Dec (key u ≡ k) → (term_at key us k ≡ Some t → P t) → P t
      by (yes s) rest = let q : u ≡ t = (let z = sym (term_at-here u us k s) ∙ e in cc) in subst P q (All-head P u us h)
      by (no d) rest = rest (sym (term_at-later u us k d) ∙ e)

  -- below the least key stands nothing, so a list with a term at its least key begins with it
  head_at : (t : T) (ts : List T) (us : List T) → IsRising key (t ∷ ts) → IsRising key us → ((k : ℕ) → term_at key (t ∷ ts) k ≡ term_at key us k) → (vs : List T) × (us ≡ t ∷ vs)
  head_at t ts [] rising rising' same = let e = sym (term_at-here t ts (key t) refl) ∙ same (key t) in cc
  head_at t ts (u ∷ us) rising rising' same = by (dec_lt (key t) (key u)) (dec_lt (key u) (key t))
    where
      by : Dec (key t < key u) → Dec (key u < key t) → (vs : List T) × (u ∷ us ≡ t ∷ vs)
      by (yes lt) o =
          let none = term_at-below (u ∷ us) (key t) (All-cons (λ v. key t < key v) u us lt (All-weaker (λ v. key u < key v) (λ v. key t < key v) (λ v a. omega (arith, a, lt)) us rising'.0)) in
          let e = sym (term_at-here t ts (key t) refl) ∙ same (key t) ∙ none in cc
      by (no f) (yes lt) =
          let none = term_at-below (t ∷ ts) (key u) (All-cons (λ v. key u < key v) t ts lt (All-weaker (λ v. key t < key v) (λ v. key u < key v) (λ v a. omega (arith, a, lt)) ts rising.0)) in
          let e = sym (term_at-here u us (key u) refl) ∙ sym (same (key u)) ∙ none in cc
      by (no f) (no g) =
          let k : key u ≡ key t = omega (arith, f, g) in
          let e : u ≡ t = (let z = sym (term_at-here u us (key t) k) ∙ sym (same (key t)) ∙ term_at-here t ts (key t) refl in cc) in
          (us, ap (λ v. v ∷ us) e)

  -- rising lists with the same terms at all keys are equal
  pub same_lists : (ts us : List T) → IsRising key ts → IsRising key us → ((k : ℕ) → term_at key ts k ≡ term_at key us k) → ts ≡ us
  same_lists [] [] rising rising' same = refl
  same_lists [] (u ∷ us) rising rising' same = let e = sym (term_at-here u us (key u) refl) ∙ sym (same (key u)) in cc
  same_lists (t ∷ ts) us rising rising' same = by (head_at t ts us rising rising' same)
      (λ vs r h. same_lists ts vs rising.1 r h)
    where
      by : (vs : List T) × (us ≡ t ∷ vs) → ((vs : List T) → IsRising key vs → ((k : ℕ) → term_at key ts k ≡ term_at key vs k) → ts ≡ vs) → t ∷ ts ≡ us
      by p rest = ap (λ v. t ∷ v) (rest p.0 above.1 tails) ∙ sym p.1
        where
          above : IsRising key (t ∷ p.0)
          above = subst (IsRising key) p.1 rising'

          tails : (k : ℕ) → term_at key ts k ≡ term_at key p.0 k
          tails k = tail (dec_lt (key t) k)
            where
              tail : Dec (key t < k) → term_at key ts k ≡ term_at key p.0 k
              tail (yes lt) =
                  let d : key t ≢ k = λ e. omega (arith, e, lt) in
                  sym (term_at-later t ts k d) ∙ same k ∙ ap (λ v. term_at key v k) p.1 ∙ term_at-later t p.0 k d
              tail (no f) =
                  term_at-below ts k (All-weaker (λ v. key t < key v) (λ v. k < key v) (λ v a. omega (arith, a, f)) ts rising.0)
                  ∙ sym (term_at-below p.0 k (All-weaker (λ v. key t < key v) (λ v. k < key v) (λ v a. omega (arith, a, f)) p.0 above.0))

  module _ (is_zero : T → Bool) where
    -- what is formed at each key is had by all terms
    pub each_formed : (Forms : ℕ → Result (Option T) Passes → Type 0) (P : T → Type 0) → ((k : ℕ) (t : T) → Forms k (Ok (Some t)) → P t)
        → (ts : List T) → FormsKeys key is_zero Forms (Ok ts) → All P ts
    each_formed Forms P each ts h i d lt =
        each (key (get_or ts i d)) (get_or ts i d) (subst (λ x. Forms (key (get_or ts i d)) (Ok x)) (term_at-member ts h.0.rising i d lt) (h.1 (key (get_or ts i d))))

    -- where one thing is formed at each key, one list is formed, or forming passes first at one key
    pub one_formed : (Forms : ℕ → Result (Option T) Passes → Type 0) → ((k : ℕ) (r s : Result (Option T) Passes) → Forms k r → Forms k s → r ≡ s)
        → (r s : Result (List T) Passes) → FormsKeys key is_zero Forms r → FormsKeys key is_zero Forms s → r ≡ s
    one_formed Forms one (Ok ts) (Ok us) h k =
        ap Ok (same_lists ts us h.0.rising k.0.rising (λ j. let e = one j (Ok (term_at key ts j)) (Ok (term_at key us j)) (h.1 j) (k.1 j) in cc))
    one_formed Forms one (Ok ts) (Err passes) h k = let e = one k.key (Ok (term_at key ts k.key)) (Err passes) (h.1 k.key) k.here in cc
    one_formed Forms one (Err passes) (Ok us) h k = let e = one h.key (Err passes) (Ok (term_at key us h.key)) h.here (k.1 h.key) in cc
    one_formed Forms one (Err passes) (Err other) h k = ap Err (by (dec_lt h.key k.key) (dec_lt k.key h.key))
      where
        by : Dec (h.key < k.key) → Dec (k.key < h.key) → passes ≡ other
        by (yes lt) d = let b = k.before h.key lt in let e = one h.key (Err passes) (Ok b.0) h.here b.1 in cc
        by (no f) (yes lt) = let b = h.before k.key lt in let e = one k.key (Err other) (Ok b.0) k.here b.1 in cc
        by (no f) (no g) =
            let same : h.key ≡ k.key = omega (arith, f, g) in
            let e = one k.key (Err passes) (Err other) (subst (λ j. Forms j (Err passes)) same h.here) k.here in cc

    module _ (Sums : T → T → Result T Passes → Type 0) (one : (t u : T) (r s : Result T Passes) → Sums t u r → Sums t u s → r ≡ s) where
      one_kept : (Forms : Result T Passes → Type 0) → ((r s : Result T Passes) → Forms r → Forms s → r ≡ s) → (r s : Result (Option T) Passes) → Keeps is_zero Forms r → Keeps is_zero Forms s → r ≡ s
      one_kept Forms same (Ok x) (Ok y) h k = let e = same (Ok h.0) (Ok k.0) h.1 k.1 in let f : h.0 ≡ k.0 = cc in ap Ok (h.2 ∙ ap (kept is_zero) f ∙ sym k.2)
      one_kept Forms same (Ok x) (Err p) h k = let e = same (Ok h.0) (Err p) h.1 k in cc
      one_kept Forms same (Err p) (Ok y) h k = let e = same (Err p) (Ok k.0) h k.1 in cc
      one_kept Forms same (Err p) (Err q) h k = let e = same (Err p) (Err q) h k in cc

      one_at : (x y : Option T) (r s : Result (Option T) Passes) → SumsAt is_zero Sums x y r → SumsAt is_zero Sums x y s → r ≡ s
      one_at None y r s h k = h ∙ sym k
      one_at (Some t) None r s h k = h ∙ sym k
      one_at (Some t) (Some u) r s h k = one_kept (Sums t u) (one t u) r s h k

      -- two lists have one sum
      pub one_sum_of_terms : (ts us : List T) (r s : Result (List T) Passes) → SumsTerms key is_zero Sums ts us r → SumsTerms key is_zero Sums ts us s → r ≡ s
      one_sum_of_terms ts us = one_formed _ (λ k. one_at (term_at key ts k) (term_at key us k))

    module _ (Changes : T → Result T Passes → Type 0) (one : (t : T) (r s : Result T Passes) → Changes t r → Changes t s → r ≡ s) where
      one_changed_at : (x : Option T) (r s : Result (Option T) Passes) → ChangesAt is_zero Changes x r → ChangesAt is_zero Changes x s → r ≡ s
      one_changed_at None r s h k = h ∙ sym k
      one_changed_at (Some t) r s h k = one_kept (λ t u. Changes t) (λ t u. one t) (Changes t) (one t) r s h k

      -- a list is changed in one way
      pub one_change_of_terms : (ts : List T) (r s : Result (List T) Passes) → ChangesTerms key is_zero Changes ts r → ChangesTerms key is_zero Changes ts s → r ≡ s
      one_change_of_terms ts = one_formed _ (λ k. one_changed_at (term_at key ts k))
