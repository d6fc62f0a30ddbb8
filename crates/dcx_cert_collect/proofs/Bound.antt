-- What shares add to a list of coefficients times numbers.
use Rattle.std.proofs.Common.{◌≡◌, ℕ, zero, suc, ◌<◌, arith, List, [], ◌∷◌, ◌++◌, map, length, set, All, refl, sym, ap, ◌∙◌, subst, Option, Some, None, IfSome, Result, Ok, Err, IfOk, pos}
use Rattle.std.proofs.lemmas.List.Elements.{All-head, All-tail}
use Rattle.dcx_math.specs.Rational.{ℚ, whole, ◌+ℚ◌, ◌-ℚ◌, ◌*ℚ◌}
use Rattle.dcx_math.specs.Sums.{rat_sum_below, rat_sum_by}
use Rattle.dcx_math.proofs.Ring.{ring, reads}
use Rattle.dcx_math.proofs.Orders.{+ℚ_idr, +ℚ_assoc, *ℚ-zero}
use Rattle.dcx_frac.specs.declared.fraction.Frac.{Frac}
use Rattle.dcx_frac.specs.declared.fraction.Passes.{Passes}
use Rattle.dcx_frac.specs.Frac.{value}
use Rattle.dcx_frac.specs.Results.{sum_of}
use Rattle.dcx_frac.proofs.Results.{sum_of_is}
use Rattle.dcx_atom.specs.Arrays.{list_below, joined_below}
use Rattle.dcx_atom.specs.Formed.{and_then}
use Rattle.dcx_convex.specs.Nodes.{Numbers}
use Rattle.dcx_cert_collect.specs.Shares.{frac_in, Share, added_at, with_share, with_shares}
use Rattle.dcx_cert_collect.proofs.Sharing.{shares-append}
use Rattle.dcx_arena.proofs.Results.{same_Ok}
use Rattle.dcx_cert_collect.proofs.Passing.{shares_count}
use Rattle.dcx_cert_collect.proofs.Flat.{dot, dot-set}

-- the number at a place, and 0 where there is none
abbrev pub number_of : Numbers → Option ℕ → ℚ
number_of F None = whole (pos 0)
number_of F (Some p) = F p

-- the place is one of the first n
abbrev pub IsBefore : ℕ → Option ℕ → Type 0
IsBefore n place = IfSome place (λ p. p < n)

settle : (u t a b x f : ℚ) → b ≡ a +ℚ x → u +ℚ a *ℚ f ≡ t +ℚ b *ℚ f → u ≡ t +ℚ x *ℚ f
settle u t a b x f e h = minus (a *ℚ f) u (t +ℚ b *ℚ f) h ∙ ap (λ y. t +ℚ y *ℚ f -ℚ a *ℚ f) e ∙ rest t a x f
  where
    minus : (c p q : ℚ) → p +ℚ c ≡ q → p ≡ q -ℚ c
    minus c p q k = ring (c ∷ p ∷ []) (search reads depth 30) tt ∙ ap (λ r. r -ℚ c) k

    rest : (t a x f : ℚ) → t +ℚ (a +ℚ x) *ℚ f -ℚ a *ℚ f ≡ t +ℚ x *ℚ f
    rest t a x f = ring (t ∷ a ∷ x ∷ f ∷ []) (search reads depth 30) tt

added_dot : (t u : List Frac) (place : Option ℕ) (x : Frac) (F : Numbers) → IsBefore (length t) place → added_at t place x ≡ Ok u → dot u F ≡ dot t F +ℚ value x *ℚ number_of F place
added_dot t u None x F b e = ap (λ v. dot v F) (sym (same_Ok {E = Passes} t u e)) ∙ sym (+ℚ_idr _) ∙ ap (λ r. dot t F +ℚ r) (sym (*ℚ-zero (value x)))
added_dot t u (Some p) x F b e = by (sum_of (frac_in t p) x) (sum_of_is (frac_in t p) x).exact e
  where
    by : (r : Result Frac Passes) → IfOk r (λ y. value y ≡ value (frac_in t p) +ℚ value x) → and_then r (λ y. Ok (set t p y)) ≡ Ok u → dot u F ≡ dot t F +ℚ value x *ℚ F p
    by (Ok y) is h =
        ap (λ v. dot v F) (sym (same_Ok {E = Passes} (set t p y) u h)) ∙ settle (dot (set t p y) F) (dot t F) (value (frac_in t p)) (value y) (value x) (F p) is (dot-set t p y F b)
    by (Err q) is h = cc

-- a share of worth w
unfoldable pub IsWorth : Numbers → ℕ → Share → ℚ → Type 0
IsWorth F n s w = IsBefore n s.place × IfOk s.amount (λ x. value x *ℚ number_of F s.place ≡ w)

pub share_dot : (F : Numbers) (t u : List Frac) (s : Share) (w : ℚ) → IsWorth F (length t) s w → with_share t s ≡ Ok u → dot u F ≡ dot t F +ℚ w
unfolding IsWorth
share_dot F t u s w h e = by s.amount h.1 e
  where
    by : (r : Result Frac Passes) → IfOk r (λ x. value x *ℚ number_of F s.place ≡ w) → and_then r (added_at t s.place) ≡ Ok u → dot u F ≡ dot t F +ℚ w
    by (Ok x) is k = added_dot t u s.place x F h.0 k ∙ ap (λ r. dot t F +ℚ r) is
    by (Err q) is k = cc

pub worth_of : (F : Numbers) (n : ℕ) (s : Share) (w : ℚ) → IsBefore n s.place → IfOk s.amount (λ x. value x *ℚ number_of F s.place ≡ w) → IsWorth F n s w
unfolding IsWorth
worth_of F n s w b h = (b, h)

-- ---- several shares
one_then : (t u : List Frac) (s : Share) (ss : List Share) → with_shares t (s ∷ ss) ≡ Ok u → (v : List Frac) × (with_share t s ≡ Ok v) × (with_shares v ss ≡ Ok u)
one_then t u s ss e = by (with_share t s) refl e
  where
    by : (r : Result (List Frac) Passes) → with_share t s ≡ r → and_then r (λ v. with_shares v ss) ≡ Ok u → (v : List Frac) × (with_share t s ≡ Ok v) × (with_shares v ss ≡ Ok u)
    by (Ok v) is h = (v, is, h)
    by (Err q) is h = cc

pub first_then : (t u : List Frac) (ss rs : List Share) → with_shares t (ss ++ rs) ≡ Ok u → (v : List Frac) × (with_shares t ss ≡ Ok v) × (with_shares v rs ≡ Ok u)
first_then t u ss rs e = by (with_shares t ss) refl (sym (shares-append t ss rs) ∙ e)
  where
    by : (r : Result (List Frac) Passes) → with_shares t ss ≡ r → and_then r (λ v. with_shares v rs) ≡ Ok u → (v : List Frac) × (with_shares t ss ≡ Ok v) × (with_shares v rs ≡ Ok u)
    by (Ok v) is h = (v, is, h)
    by (Err q) is h = cc

pub more : (u v t a b : ℚ) → u ≡ v +ℚ b → v ≡ t +ℚ a → u ≡ t +ℚ (a +ℚ b)
more u v t a b e h = e ∙ ap (λ r. r +ℚ b) h ∙ +ℚ_assoc t a b

pub single : (t u : List Frac) (s : Share) → with_shares t (s ∷ []) ≡ Ok u → with_share t s ≡ Ok u
single t u s e = by (with_share t s) e
  where
    by : (r : Result (List Frac) Passes) → and_then r (λ v. Ok v) ≡ Ok u → r ≡ Ok u
    by (Ok v) h = h
    by (Err q) h = cc

-- each item gives a share
pub map_dot : {A : Type 0} (F : Numbers) (n : ℕ) (h : A → Share) (w : A → ℚ) (xs : List A) → All (λ a. IsWorth F n (h a) (w a)) xs → (t u : List Frac) → length t ≡ n → with_shares t (map h xs) ≡ Ok u
    → dot u F ≡ dot t F +ℚ rat_sum_by w xs
map_dot F n h w [] each t u count e = ap (λ v. dot v F) (sym (same_Ok {E = Passes} t u e)) ∙ sym (+ℚ_idr _)
map_dot F n h w (x ∷ xs) each t u count e =
    let (v, first, rest) = one_then t u (h x) (map h xs) e in
    let same : length v ≡ n = shares_count t v (h x ∷ []) (again t v (h x) first) ∙ count in
    more (dot u F) (dot v F) (dot t F) (w x) (rat_sum_by w xs) (map_dot F n h w xs (All-tail (λ a. IsWorth F n (h a) (w a)) x xs each) v u same rest)
    (share_dot F t v (h x) (w x) (subst (λ k. IsWorth F k (h x) (w x)) (sym count) (All-head (λ a. IsWorth F n (h a) (w a)) x xs each)) first)
  where
    again : (t v : List Frac) (s : Share) → with_share t s ≡ Ok v → with_shares t (s ∷ []) ≡ Ok v
    again t v s k = ap (λ r. and_then r (λ z. Ok z)) k

-- each of so many entries gives a share
pub below_dot : (F : Numbers) (L : ℕ) (h : ℕ → Share) (w : ℕ → ℚ) (n : ℕ) → ((j : ℕ) → j < n → IsWorth F L (h j) (w j)) → (t u : List Frac) → length t ≡ L → with_shares t (list_below n h) ≡ Ok u →
    dot u F ≡ dot t F +ℚ rat_sum_below n w
below_dot F L h w zero each t u count e = ap (λ v. dot v F) (sym (same_Ok {E = Passes} t u e)) ∙ sym (+ℚ_idr _)
below_dot F L h w (suc n) each t u count e =
    let (v, first, rest) = first_then t u (list_below n h) (h n ∷ []) e in
    let same : length v ≡ L = shares_count t v (list_below n h) first ∙ count in
    more (dot u F) (dot v F) (dot t F) (rat_sum_below n w) (w n) (share_dot F v u (h n) (w n) (subst (λ k. IsWorth F k (h n) (w n)) (sym same) (each n (omega arith))) (single v u (h n) rest))
    (below_dot F L h w n (λ j b. each j (omega arith)) t v count first)

-- each of so many entries gives several
pub joined_dot : (F : Numbers) (L : ℕ) (g : ℕ → List Share) (w : ℕ → ℚ) (n : ℕ) → ((j : ℕ) → j < n → (t u : List Frac) → length t ≡ L → with_shares t (g j) ≡ Ok u → dot u F ≡ dot t F +ℚ w j) →
    (t u : List Frac) → length t ≡ L → with_shares t (joined_below n g) ≡ Ok u → dot u F ≡ dot t F +ℚ rat_sum_below n w
joined_dot F L g w zero each t u count e = ap (λ v. dot v F) (sym (same_Ok {E = Passes} t u e)) ∙ sym (+ℚ_idr _)
joined_dot F L g w (suc n) each t u count e =
    let (v, first, rest) = first_then t u (joined_below n g) (g n) e in
    let same : length v ≡ L = shares_count t v (joined_below n g) first ∙ count in
    more (dot u F) (dot v F) (dot t F) (rat_sum_below n w) (w n) (each n (omega arith) v u same rest) (joined_dot F L g w n (λ j b. each j (omega arith)) t v count first)
