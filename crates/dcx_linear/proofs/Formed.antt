-- How lists are formed key by key: the least key first, and then the rest.
use Rattle.std.proofs.Common.{◌≡◌, ◌≢◌, ℕ, zero, suc, ◌<◌, ◌≤◌, Bool, true, false, if◌then◌else◌, List, [], ◌∷◌, ◌++◌, Option, Some, None}
use Rattle.std.proofs.Common.{Result, Ok, Err, IfSome, length, get_or, drop, refl, sym, ap, ◌∙◌, subst, inl, inr, ◌⊎◌, arith}
use Rattle.std.specs.List.{All}
use Rattle.std.specs.Option.{option_to_list}
use Rattle.std.proofs.lemmas.List.Elements.{All-head, All-weaker, All-cons, All-nil, All-drop}
use native.Mathlib.Decide.{ℕ_discrete, dec_lt}
use Rattle.dcx_frac.specs.declared.fraction.Passes.{Passes}
use Rattle.std.proofs.Common.{◌+◌, append_assoc, add-one}
use Rattle.std.proofs.Common.{◌-◌, take, length-drop}
use Rattle.std.proofs.lemmas.List.{append-nil, drop_all, take_all}
use Rattle.std.proofs.Math.Seq.{drop-cons}
use Rattle.dcx_math.specs.Rising.{IsRising}
use Rattle.dcx_linear.specs.Terms.{IsSparse, term_at, kept, SumsAt, ChangesAt, IsFirstPassing, FormsKeys, SumsTerms, ChangesTerms}
use Rattle.dcx_linear.specs.TermLaws.{term_at-here, term_at-later, term_at-below, term_at-present}

-- the answer with these terms before it
abbrev pub after : {T : Type 0} → List T → Result (List T) Passes → Result (List T) Passes
after ts (Ok us) = Ok (ts ++ us)
after ts (Err passes) = Err passes

-- terms before terms
pub after-++ : {T : Type 0} (ts us : List T) (r : Result (List T) Passes) → after (ts ++ us) r ≡ after ts (after us r)
after-++ ts us (Ok vs) = ap Ok (append_assoc ts us vs)
after-++ ts us (Err passes) = refl

-- the part from a place to the end
pub rest_from : {T : Type 0} (i : ℕ) (ts : List T) → take (length ts - i) (drop i ts) ≡ drop i ts
rest_from i ts = take_all (length ts - i) (drop i ts) (omega (arith, length-drop i ts))

-- what is left from a place on begins with the term there
pub drop_at : {T : Type 0} (ts : List T) (i : ℕ) (t : T) → i < length ts → t ≡ get_or ts i t → drop i ts ≡ t ∷ drop (i + 1) ts
drop_at ts i t lt is = drop-cons ts i t lt ∙ (rw (← is, add-one i) refl)

module _ {T : Type 0} (key : T → ℕ) (is_zero : T → Bool) where
  -- the rest of a rising list rises
  pub IsRising-drop : (n : ℕ) (ts : List T) → IsRising key ts → IsRising key (drop n ts)
  IsRising-drop zero ts h = h
  IsRising-drop (suc n) [] h = h
  IsRising-drop (suc n) (t ∷ ts) h = IsRising-drop n ts h.1

  -- the rest of a sparse list is sparse
  pub IsSparse-drop : (n : ℕ) (ts : List T) → IsSparse key is_zero ts → IsSparse key is_zero (drop n ts)
  IsSparse-drop n ts h = record { rising = IsRising-drop n ts h.rising; nonzero = All-drop (λ t. is_zero t ≡ false) n ts h.nonzero }

  -- what is formed at a key stands there, if it isn't 0
  abbrev IsAt : ℕ → Option T → Type 0
  IsAt k x = IfSome x (λ t. (key t ≡ k) × (is_zero t ≡ false))

  module _ (Forms Rest : ℕ → Result (Option T) Passes → Type 0) (k : ℕ) (x : Option T)
      (is_at : IsAt k x) (here : Forms k (Ok x)) (below : (j : ℕ) → j < k → Forms j (Ok None))
      (beyond : (j : ℕ) (r : Result (Option T) Passes) → k < j → Rest j r → Forms j r)
      (none : (j : ℕ) (r : Result (Option T) Passes) → j ≤ k → Rest j r → r ≡ Ok None) where
    -- all that the rest forms has larger keys
    rest_above : (ts : List T) → ((j : ℕ) → Rest j (Ok (term_at key ts j))) → All (λ t. k < key t) ts
    rest_above ts h i d lt = by (dec_lt k (key (get_or ts i d)))
      where
        absent : key (get_or ts i d) ≤ k → term_at key ts (key (get_or ts i d)) ≡ None
        absent low = let e = none (key (get_or ts i d)) _ low (h (key (get_or ts i d))) in cc

        by : Dec (k < key (get_or ts i d)) → k < key (get_or ts i d)
        by (yes above) = above
        by (no f) = absurd (term_at-present key ts i d lt (absent (omega (arith, f))))

    with_rest : (y : Option T) → y ≡ x → IsAt k y → (ts : List T) → IsSparse key is_zero ts → All (λ t. k < key t) ts → IsSparse key is_zero (option_to_list y ++ ts)
    with_rest None e a ts sparse above = sparse
    with_rest (Some t) e a ts sparse above = record {
      rising = (All-weaker (λ u. k < key u) (λ u. key t < key u) (λ u h. omega (arith, h, a.0)) ts above, sparse.rising);
      nonzero = All-cons (λ u. is_zero u ≡ false) t ts a.1 sparse.nonzero;
    }

    at_key : (y : Option T) → y ≡ x → IsAt k y → (ts : List T) → All (λ t. k < key t) ts → term_at key (option_to_list y ++ ts) k ≡ y
    at_key None e a ts above = term_at-below key ts k above
    at_key (Some t) e a ts above = term_at-here key t ts k a.0

    at_other : (y : Option T) → IsAt k y → (ts : List T) (j : ℕ) → j ≢ k → term_at key (option_to_list y ++ ts) j ≡ term_at key ts j
    at_other None a ts j d = refl
    at_other (Some t) a ts j d = term_at-later key t ts j (λ e. d (sym e ∙ a.0))

    formed : (ts : List T) → IsSparse key is_zero ts → ((j : ℕ) → Rest j (Ok (term_at key ts j))) → (j : ℕ) → Forms j (Ok (term_at key (option_to_list x ++ ts) j))
    formed ts sparse h j = by (ℕ_discrete j k)
      where
        above : All (λ t. k < key t) ts
        above = rest_above ts h

        low : j < k → term_at key ts j ≡ None
        low lt = term_at-below key ts j (All-weaker (λ t. k < key t) (λ t. j < key t) (λ t a. omega (arith, a, lt)) ts above)

        side : j ≢ k → Dec (j < k) → Forms j (Ok (term_at key (option_to_list x ++ ts) j))
        side d (yes lt) = subst (λ y. Forms j (Ok y)) (sym (at_other x is_at ts j d ∙ low lt)) (below j lt)
        side d (no f) = subst (λ y. Forms j (Ok y)) (sym (at_other x is_at ts j d)) (beyond j _ (omega (arith, f, d)) (h j))

        by : Dec (j ≡ k) → Forms j (Ok (term_at key (option_to_list x ++ ts) j))
        by (yes e) = subst (λ i. Forms i (Ok (term_at key (option_to_list x ++ ts) i))) (sym e) (subst (λ y. Forms k (Ok y)) (sym (at_key x refl is_at ts above)) here)
        by (no d) = side d (dec_lt j k)

    first : (passes : Passes) → IsFirstPassing Rest passes → IsFirstPassing Forms passes
    first passes h = record { key = h.key; here = beyond h.key _ later h.here; before = before }
      where
        later : k < h.key
        later = by (dec_lt k h.key)
          where
            by : Dec (k < h.key) → k < h.key
            by (yes lt) = lt
            by (no f) = absurd (let e = none h.key _ (omega (arith, f)) h.here in cc)

        before : (j : ℕ) → j < h.key → (y : Option T) × Forms j (Ok y)
        before j lt = by (ℕ_discrete j k) (dec_lt j k)
          where
            by : Dec (j ≡ k) → Dec (j < k) → (y : Option T) × Forms j (Ok y)
            by (yes e) low = (x, subst (λ i. Forms i (Ok x)) (sym e) here)
            by (no d) (yes low) = (None, below j low)
            by (no d) (no f) = let r = h.before j lt in (r.0, beyond j _ (omega (arith, d, f)) r.1)

    -- the least key is formed first, and then the rest
    pub formed_next : (answer : Result (List T) Passes) → FormsKeys key is_zero Rest answer → FormsKeys key is_zero Forms (after (option_to_list x) answer)
    formed_next (Ok ts) h = (with_rest x refl is_at ts h.0 (rest_above ts h.1), formed ts h.0 h.1)
    formed_next (Err passes) h = first passes h

  module _ (Sums : T → T → Result T Passes → Type 0) where
    -- what stands there may be replaced by the same
    SumsAt-same : (x y v w : Option T) (r : Result (Option T) Passes) → x ≡ v → y ≡ w → SumsAt is_zero Sums x y r → SumsAt is_zero Sums v w r
    SumsAt-same x y v w r e f h = subst (λ z. SumsAt is_zero Sums v z r) f (subst (λ z. SumsAt is_zero Sums z y r) e h)

    -- 0 and another list
    pub no_left : (us : List T) → IsSparse key is_zero us → SumsTerms key is_zero Sums [] us (Ok us)
    no_left us sparse = (sparse, λ k. refl)

    at_right : (x : Option T) → SumsAt is_zero Sums x None (Ok x)
    at_right None = refl
    at_right (Some t) = refl

    pub no_right : (ts : List T) → IsSparse key is_zero ts → SumsTerms key is_zero Sums ts [] (Ok ts)
    no_right ts sparse = (sparse, λ k. at_right (term_at key ts k))

    nothing : (x y : Option T) (r : Result (Option T) Passes) → x ≡ None → y ≡ None → SumsAt is_zero Sums x y r → r ≡ Ok None
    nothing x y r e f h = SumsAt-same x y None None r e f h

    -- above all of these is above the first
    higher : (k : ℕ) (t : T) (ts : List T) → k < key t → All (λ u. key t < key u) ts → All (λ u. k < key u) (t ∷ ts)
    higher k t ts lt h = All-cons (λ u. k < key u) t ts lt (All-weaker (λ u. key t < key u) (λ u. k < key u) (λ u a. omega (arith, a, lt)) ts h)

    low : (k j : ℕ) (ts : List T) → j ≤ k → All (λ u. k < key u) ts → term_at key ts j ≡ None
    low k j ts le h = term_at-below key ts j (All-weaker (λ u. k < key u) (λ u. j < key u) (λ u a. omega (arith, a, le)) ts h)

    sum_none : (k j : ℕ) (ts us : List T) → j ≤ k → All (λ v. k < key v) ts → All (λ v. k < key v) us → (r : Result (Option T) Passes)
        → SumsAt is_zero Sums (term_at key ts j) (term_at key us j) r → r ≡ Ok None
    sum_none k j ts us le h i r s = nothing (term_at key ts j) (term_at key us j) r (low k j ts le h) (low k j us le i) s

    sum_below : (j : ℕ) (ts us : List T) → All (λ v. j < key v) ts → All (λ v. j < key v) us → SumsAt is_zero Sums (term_at key ts j) (term_at key us j) (Ok None)
    sum_below j ts us h i = SumsAt-same None None (term_at key ts j) (term_at key us j) (Ok None) (sym (term_at-below key ts j h)) (sym (term_at-below key us j i)) refl

    -- a term on the left stands before all others
    pub left_next : (t : T) (ts us : List T) → All (λ v. key t < key v) ts → All (λ v. key t < key v) us → is_zero t ≡ false → (answer : Result (List T) Passes)
        → SumsTerms key is_zero Sums ts us answer → SumsTerms key is_zero Sums (t ∷ ts) us (after (t ∷ []) answer)
    left_next t ts us h i nonzero answer s =
        formed_next _ _ (key t) (Some t) (refl, nonzero)
        (SumsAt-same (Some t) None (term_at key (t ∷ ts) (key t)) (term_at key us (key t)) (Ok (Some t)) (sym (term_at-here key t ts (key t) refl)) (sym (term_at-below key us (key t) i)) refl)
        (λ j lt. sum_below j (t ∷ ts) us (higher j t ts lt h) (All-weaker (λ v. key t < key v) (λ v. j < key v) (λ v a. omega (arith, a, lt)) us i))
        (λ j r lt q. SumsAt-same _ _ (term_at key (t ∷ ts) j) (term_at key us j) r (sym (term_at-later key t ts j (λ e. omega (arith, e, lt)))) refl q)
        (λ j r le q. sum_none (key t) j ts us le h i r q)
        answer s

    -- a term on the right stands before all others
    pub right_next : (u : T) (ts us : List T) → All (λ v. key u < key v) ts → All (λ v. key u < key v) us → is_zero u ≡ false → (answer : Result (List T) Passes)
        → SumsTerms key is_zero Sums ts us answer → SumsTerms key is_zero Sums ts (u ∷ us) (after (u ∷ []) answer)
    right_next u ts us h i nonzero answer s =
        formed_next _ _ (key u) (Some u) (refl, nonzero)
        (SumsAt-same None (Some u) (term_at key ts (key u)) (term_at key (u ∷ us) (key u)) (Ok (Some u)) (sym (term_at-below key ts (key u) h)) (sym (term_at-here key u us (key u) refl)) refl)
        (λ j lt. sum_below j ts (u ∷ us) (All-weaker (λ v. key u < key v) (λ v. j < key v) (λ v a. omega (arith, a, lt)) ts h) (higher j u us lt i))
        (λ j r lt q. SumsAt-same _ _ (term_at key ts j) (term_at key (u ∷ us) j) r refl (sym (term_at-later key u us j (λ e. omega (arith, e, lt)))) q)
        (λ j r le q. sum_none (key u) j ts us le h i r q)
        answer s

    kept_at : (v : T) (k : ℕ) → key v ≡ k → (b : Bool) → is_zero v ≡ b → IsAt k (if b then None else Some v)
    kept_at v k e true b = tt
    kept_at v k e false b = (e, b)

    -- two terms of one key stand before all others
    pub both_next : (t u v : T) (ts us : List T) → key t ≡ key u → key v ≡ key t → Sums t u (Ok v) → All (λ w. key t < key w) ts → All (λ w. key u < key w) us
        → (answer : Result (List T) Passes) → SumsTerms key is_zero Sums ts us answer → SumsTerms key is_zero Sums (t ∷ ts) (u ∷ us) (after (option_to_list (kept is_zero v)) answer)
    both_next t u v ts us e f sum h i answer s =
        formed_next _ _ (key t) (kept is_zero v) (kept_at v (key t) f (is_zero v) refl)
        (SumsAt-same (Some t) (Some u) (term_at key (t ∷ ts) (key t)) (term_at key (u ∷ us) (key t)) (Ok (kept is_zero v)) (sym (term_at-here key t ts (key t) refl))
        (sym (term_at-here key u us (key t) (sym e))) (v, sum, refl))
        (λ j lt. sum_below j (t ∷ ts) (u ∷ us) (higher j t ts lt h) (higher j u us (omega (arith, lt, e)) i))
        (λ j r lt q. SumsAt-same _ _ (term_at key (t ∷ ts) j) (term_at key (u ∷ us) j) r (sym (term_at-later key t ts j (λ d. omega (arith, d, lt))))
        (sym (term_at-later key u us j (λ d. omega (arith, d, lt, e)))) q)
        (λ j r le q. sum_none (key t) j ts us le h (All-weaker (λ w. key u < key w) (λ w. key t < key w) (λ w a. omega (arith, a, e)) us i) r q)
        answer s

    -- two terms of one key pass, before all others
    pub both_pass : (t u : T) (ts us : List T) (passes : Passes) → key t ≡ key u → Sums t u (Err passes) → All (λ w. key t < key w) ts → All (λ w. key u < key w) us
        → SumsTerms key is_zero Sums (t ∷ ts) (u ∷ us) (Err passes)
    both_pass t u ts us passes e sum h i = record {
      key = key t;
      here = SumsAt-same (Some t) (Some u) (term_at key (t ∷ ts) (key t)) (term_at key (u ∷ us) (key t)) (Err passes) (sym (term_at-here key t ts (key t) refl))
          (sym (term_at-here key u us (key t) (sym e))) sum;
      before = λ j lt. (None, sum_below j (t ∷ ts) (u ∷ us) (higher j t ts lt h) (higher j u us (omega (arith, lt, e)) i));
    }

    -- what is left after i and j terms, whatever it sums to, goes on from the sum so far
    abbrev pub GoesOn : List T → List T → ℕ → ℕ → List T → Type 0
    GoesOn ts us i j so_far = (answer : Result (List T) Passes) → SumsTerms key is_zero Sums (drop i ts) (drop j us) answer → SumsTerms key is_zero Sums ts us (after so_far answer)

    -- two places, in range, with the terms there
    module _ (ts us : List T) (sparse : IsSparse key is_zero ts) (sparse' : IsSparse key is_zero us) (i j : ℕ) (t u : T)
        (at_i : i < length ts) (at_j : j < length us) (is_t : t ≡ get_or ts i t) (is_u : u ≡ get_or us j u) where
      rest_t : IsSparse key is_zero (t ∷ drop (i + 1) ts)
      rest_t = subst (IsSparse key is_zero) (drop_at ts i t at_i is_t) (IsSparse-drop i ts sparse)

      rest_u : IsSparse key is_zero (u ∷ drop (j + 1) us)
      rest_u = subst (IsSparse key is_zero) (drop_at us j u at_j is_u) (IsSparse-drop j us sparse')

      head_nonzero : (v : T) (vs : List T) → IsSparse key is_zero (v ∷ vs) → is_zero v ≡ false
      head_nonzero v vs h = All-head (λ w. is_zero w ≡ false) v vs h.nonzero

      go : (xs ys zs vs : List T) → drop i ts ≡ xs → drop j us ≡ ys → (so_far : List T) → GoesOn ts us i j so_far → (answer : Result (List T) Passes)
          → SumsTerms key is_zero Sums xs ys (after vs answer) → zs ≡ so_far ++ vs → SumsTerms key is_zero Sums ts us (after zs answer)
      go xs ys zs vs e f so_far h answer s is =
          subst (λ r. SumsTerms key is_zero Sums ts us r) (sym (ap (λ q. after q answer) is ∙ after-++ so_far vs answer))
          (h (after vs answer) (subst (λ q. SumsTerms key is_zero Sums (drop i ts) q (after vs answer)) (sym f) (subst (λ q. SumsTerms key is_zero Sums q ys (after vs answer)) (sym e) s)))

      pub left_goes : (so_far zs : List T) → key t < key u → zs ≡ so_far ++ t ∷ [] → GoesOn ts us i j so_far → GoesOn ts us (i + 1) j zs
      left_goes so_far zs lt is h answer s =
          let all_u = higher (key t) u (drop (j + 1) us) lt rest_u.rising.0 in
          let s' = subst (λ q. SumsTerms key is_zero Sums (drop (i + 1) ts) q answer) (drop_at us j u at_j is_u) s in
          go (t ∷ drop (i + 1) ts) (u ∷ drop (j + 1) us) zs (t ∷ []) (drop_at ts i t at_i is_t) (drop_at us j u at_j is_u) so_far h answer
          (left_next t (drop (i + 1) ts) (u ∷ drop (j + 1) us) rest_t.rising.0 all_u (head_nonzero t (drop (i + 1) ts) rest_t) answer s') is

      pub right_goes : (so_far zs : List T) → key u < key t → zs ≡ so_far ++ u ∷ [] → GoesOn ts us i j so_far → GoesOn ts us i (j + 1) zs
      right_goes so_far zs lt is h answer s =
          let all_t = higher (key u) t (drop (i + 1) ts) lt rest_t.rising.0 in
          let s' = subst (λ q. SumsTerms key is_zero Sums q (drop (j + 1) us) answer) (drop_at ts i t at_i is_t) s in
          go (t ∷ drop (i + 1) ts) (u ∷ drop (j + 1) us) zs (u ∷ []) (drop_at ts i t at_i is_t) (drop_at us j u at_j is_u) so_far h answer
          (right_next u (t ∷ drop (i + 1) ts) (drop (j + 1) us) all_t rest_u.rising.0 (head_nonzero u (drop (j + 1) us) rest_u) answer s') is

      pub both_go : (so_far zs : List T) (v : T) → key t ≡ key u → key v ≡ key t → Sums t u (Ok v) → zs ≡ so_far ++ option_to_list (kept is_zero v) → GoesOn ts us i j so_far
          → GoesOn ts us (i + 1) (j + 1) zs
      both_go so_far zs v e f sum is h answer s =
          go (t ∷ drop (i + 1) ts) (u ∷ drop (j + 1) us) zs (option_to_list (kept is_zero v)) (drop_at ts i t at_i is_t) (drop_at us j u at_j is_u) so_far h answer
          (both_next t u v (drop (i + 1) ts) (drop (j + 1) us) e f sum rest_t.rising.0 rest_u.rising.0 answer s) is

      pub both_stop : (so_far : List T) (passes : Passes) → key t ≡ key u → Sums t u (Err passes) → GoesOn ts us i j so_far → SumsTerms key is_zero Sums ts us (Err passes)
      both_stop so_far passes e sum h =
          go (t ∷ drop (i + 1) ts) (u ∷ drop (j + 1) us) so_far [] (drop_at ts i t at_i is_t) (drop_at us j u at_j is_u) so_far h (Err passes)
          (both_pass t u (drop (i + 1) ts) (drop (j + 1) us) passes e sum rest_t.rising.0 rest_u.rising.0) (sym (append-nil so_far))

    -- one list has ended: the other follows the sum so far
    pub ends : (ts us : List T) → IsSparse key is_zero ts → IsSparse key is_zero us → (i j : ℕ) → (length ts ≤ i) ⊎ (length us ≤ j) → (so_far zs : List T)
        → zs ≡ (so_far ++ drop i ts) ++ drop j us → GoesOn ts us i j so_far → SumsTerms key is_zero Sums ts us (Ok zs)
    ends ts us sparse sparse' i j (inl e) so_far zs is h =
        let none = drop_all i ts e in
        subst (λ q. SumsTerms key is_zero Sums ts us (Ok q)) (sym (is ∙ ap (λ q. (so_far ++ q) ++ drop j us) none ∙ ap (λ q. q ++ drop j us) (append-nil so_far)))
        (h (Ok (drop j us)) (subst (λ q. SumsTerms key is_zero Sums q (drop j us) (Ok (drop j us))) (sym none) (no_left (drop j us) (IsSparse-drop j us sparse'))))
    ends ts us sparse sparse' i j (inr e) so_far zs is h =
        let none = drop_all j us e in
        subst (λ q. SumsTerms key is_zero Sums ts us (Ok q)) (sym (is ∙ ap (λ q. (so_far ++ drop i ts) ++ q) none ∙ append-nil (so_far ++ drop i ts)))
        (h (Ok (drop i ts)) (subst (λ q. SumsTerms key is_zero Sums (drop i ts) q (Ok (drop i ts))) (sym none) (no_right (drop i ts) (IsSparse-drop i ts sparse))))

  -- ---- each term changed
  module _ (Changes : T → Result T Passes → Type 0) where
    ChangesAt-same : (x y : Option T) (r : Result (Option T) Passes) → x ≡ y → ChangesAt is_zero Changes x r → ChangesAt is_zero Changes y r
    ChangesAt-same x y r e h = subst (λ z. ChangesAt is_zero Changes z r) e h

    unchanged : (j : ℕ) (ts : List T) → All (λ v. j < key v) ts → ChangesAt is_zero Changes (term_at key ts j) (Ok None)
    unchanged j ts h = ChangesAt-same None (term_at key ts j) (Ok None) (sym (term_at-below key ts j h)) refl

    above_first : (k : ℕ) (t : T) (ts : List T) → k < key t → All (λ u. key t < key u) ts → All (λ u. k < key u) (t ∷ ts)
    above_first k t ts lt h = All-cons (λ u. k < key u) t ts lt (All-weaker (λ u. key t < key u) (λ u. k < key u) (λ u a. omega (arith, a, lt)) ts h)

    change_none : (k j : ℕ) (ts : List T) → j ≤ k → All (λ v. k < key v) ts → (r : Result (Option T) Passes) → ChangesAt is_zero Changes (term_at key ts j) r → r ≡ Ok None
    change_none k j ts le h r s =
        ChangesAt-same (term_at key ts j) None r (term_at-below key ts j (All-weaker (λ u. k < key u) (λ u. j < key u) (λ u a. omega (arith, a, le)) ts h)) s

    changed_kept : (v : T) (k : ℕ) → key v ≡ k → (b : Bool) → is_zero v ≡ b → IsAt k (if b then None else Some v)
    changed_kept v k e true b = tt
    changed_kept v k e false b = (e, b)

    change_next : (t v : T) (ts : List T) → key v ≡ key t → Changes t (Ok v) → All (λ w. key t < key w) ts → (answer : Result (List T) Passes)
        → ChangesTerms key is_zero Changes ts answer → ChangesTerms key is_zero Changes (t ∷ ts) (after (option_to_list (kept is_zero v)) answer)
    change_next t v ts f change h answer s =
        formed_next _ _ (key t) (kept is_zero v) (changed_kept v (key t) f (is_zero v) refl)
        (ChangesAt-same (Some t) (term_at key (t ∷ ts) (key t)) (Ok (kept is_zero v)) (sym (term_at-here key t ts (key t) refl)) (v, change, refl))
        (λ j lt. unchanged j (t ∷ ts) (above_first j t ts lt h))
        (λ j r lt q. ChangesAt-same (term_at key ts j) (term_at key (t ∷ ts) j) r (sym (term_at-later key t ts j (λ d. omega (arith, d, lt)))) q)
        (λ j r le q. change_none (key t) j ts le h r q)
        answer s

    change_pass : (t : T) (ts : List T) (passes : Passes) → Changes t (Err passes) → All (λ w. key t < key w) ts → ChangesTerms key is_zero Changes (t ∷ ts) (Err passes)
    change_pass t ts passes change h = record {
      key = key t;
      here = ChangesAt-same (Some t) (term_at key (t ∷ ts) (key t)) (Err passes) (sym (term_at-here key t ts (key t) refl)) change;
      before = λ j lt. (None, unchanged j (t ∷ ts) (above_first j t ts lt h));
    }

    -- what the terms from i on give goes on from what is changed so far
    abbrev pub ChangeGoesOn : List T → ℕ → List T → Type 0
    ChangeGoesOn ts i so_far = (answer : Result (List T) Passes) → ChangesTerms key is_zero Changes (drop i ts) answer → ChangesTerms key is_zero Changes ts (after so_far answer)

    module _ (ts : List T) (sparse : IsSparse key is_zero ts) (i : ℕ) (t : T) (at_i : i < length ts) (is_t : t ≡ get_or ts i t) where
      rest : IsSparse key is_zero (t ∷ drop (i + 1) ts)
      rest = subst (IsSparse key is_zero) (drop_at ts i t at_i is_t) (IsSparse-drop i ts sparse)

      proceed : (zs vs : List T) (so_far : List T) → ChangeGoesOn ts i so_far → (answer : Result (List T) Passes)
          → ChangesTerms key is_zero Changes (t ∷ drop (i + 1) ts) (after vs answer) → zs ≡ so_far ++ vs → ChangesTerms key is_zero Changes ts (after zs answer)
      proceed zs vs so_far h answer s is =
          subst (λ r. ChangesTerms key is_zero Changes ts r) (sym (ap (λ q. after q answer) is ∙ after-++ so_far vs answer))
          (h (after vs answer) (subst (λ q. ChangesTerms key is_zero Changes q (after vs answer)) (sym (drop_at ts i t at_i is_t)) s))

      pub change_goes : (so_far zs : List T) (v : T) → key v ≡ key t → Changes t (Ok v) → zs ≡ so_far ++ option_to_list (kept is_zero v) → ChangeGoesOn ts i so_far → ChangeGoesOn ts (i + 1) zs
      change_goes so_far zs v f change is h answer s =
          proceed zs (option_to_list (kept is_zero v)) so_far h answer (change_next t v (drop (i + 1) ts) f change rest.rising.0 answer s) is

      pub change_stops : (so_far : List T) (passes : Passes) → Changes t (Err passes) → ChangeGoesOn ts i so_far → ChangesTerms key is_zero Changes ts (Err passes)
      change_stops so_far passes change h =
          proceed so_far [] so_far h (Err passes) (change_pass t (drop (i + 1) ts) passes change rest.rising.0) (sym (append-nil so_far))

    -- after the last term all are changed
    pub change_ends : (ts : List T) (i : ℕ) → length ts ≤ i → (so_far : List T) → ChangeGoesOn ts i so_far → ChangesTerms key is_zero Changes ts (Ok so_far)
    change_ends ts i e so_far h =
        let none = drop_all i ts e in
        subst (λ q. ChangesTerms key is_zero Changes ts (Ok q)) (append-nil so_far)
        (h (Ok []) (subst (λ q. ChangesTerms key is_zero Changes q (Ok [])) (sym none) (record { rising = tt; nonzero = All-nil (λ t. is_zero t ≡ false) }, λ k. refl)))
