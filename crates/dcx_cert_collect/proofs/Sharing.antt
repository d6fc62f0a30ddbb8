-- Shares that are added one after the other: what comes with one more, and what has stopped.
use Rattle.std.proofs.Common.{◌≡◌, ℕ, zero, suc, ◌+◌, ◌-◌, ◌<◌, ◌≤◌, arith, List, [], ◌∷◌, ◌++◌, length, take, drop, get_or, refl, sym, ap, ◌∙◌, Result, Ok, Err}
use Rattle.std.proofs.lemmas.List.{take-append-drop, take_more}
use Rattle.dcx_frac.specs.declared.fraction.Frac.{Frac}
use Rattle.dcx_frac.specs.declared.fraction.Passes.{Passes}
use Rattle.dcx_atom.specs.Arrays.{list_below, joined_below}
use Rattle.dcx_atom.specs.Formed.{and_then}
use Rattle.dcx_cert_collect.specs.Shares.{Share, with_share, with_shares}
use Rattle.dcx_cert_collect.proofs.Counting.{next}

-- ---- numbers of a list
-- within the list the default doesn't matter
pub within_list : {A : Type 0} (xs : List A) (i : ℕ) (d x : A) → i < length xs → x ≡ get_or xs i x → x ≡ get_or xs i d
within_list [] i d x b e = absurd (omega arith)
within_list (y ∷ ys) zero d x b e = e
within_list (y ∷ ys) (suc i) d x b e = within_list ys i d x (omega arith) e

-- ---- shares
then_same : {A B : Type 0} (r : Result A Passes) (f g : A → Result B Passes) → ((x : A) → f x ≡ g x) → and_then r f ≡ and_then r g
then_same (Ok x) f g h = h x
then_same (Err p) f g h = refl

then_twice : {A B C : Type 0} (r : Result A Passes) (f : A → Result B Passes) (g : B → Result C Passes) → and_then r (λ x. and_then (f x) g) ≡ and_then (and_then r f) g
then_twice (Ok x) f g = refl
then_twice (Err p) f g = refl

then_ok : {A : Type 0} (r : Result A Passes) → and_then r (λ x. Ok x) ≡ r
then_ok (Ok x) = refl
then_ok (Err p) = refl

-- shares after shares
pub shares-append : (t : List Frac) (ss rs : List Share) → with_shares t (ss ++ rs) ≡ and_then (with_shares t ss) (λ u. with_shares u rs)
shares-append t [] rs = refl
shares-append t (s ∷ ss) rs =
    then_same (with_share t s) (λ u. with_shares u (ss ++ rs)) (λ u. and_then (with_shares u ss) (λ v. with_shares v rs)) (λ u. shares-append u ss rs)
    ∙ then_twice (with_share t s) (λ u. with_shares u ss) (λ v. with_shares v rs)

pub one_share : (t : List Frac) (s : Share) → with_shares t (s ∷ []) ≡ with_share t s
one_share t s = then_ok (with_share t s)

-- what comes after shares that are added
pub shares-after : (t u : List Frac) (ss rs : List Share) → with_shares t ss ≡ Ok u → with_shares t (ss ++ rs) ≡ with_shares u rs
shares-after t u ss rs e = shares-append t ss rs ∙ ap (λ r. and_then r (λ v. with_shares v rs)) e

-- what has stopped stays stopped
pub shares-stopped : (t : List Frac) (ss rs : List Share) (p : Passes) → with_shares t ss ≡ Err p → with_shares t (ss ++ rs) ≡ Err p
shares-stopped t ss rs p e = shares-append t ss rs ∙ ap (λ r. and_then r (λ v. with_shares v rs)) e

-- ---- a list of shares, one by one
pub shares-next : (t u : List Frac) (ss : List Share) (i : ℕ) (s : Share) → i < length ss → s ≡ get_or ss i s → with_shares t (take i ss) ≡ Ok u →
    with_shares t (take (i + 1) ss) ≡ with_share u s
shares-next t u ss i s b is e =
    ap (with_shares t) (take_more ss i s b) ∙ shares-after t u (take i ss) (get_or ss i s ∷ []) e ∙ one_share u (get_or ss i s) ∙ ap (with_share u) (sym is)

pub shares-within : (t : List Frac) (ss : List Share) (i : ℕ) (p : Passes) → with_shares t (take i ss) ≡ Err p → with_shares t ss ≡ Err p
shares-within t ss i p e = ap (with_shares t) (sym (take-append-drop i ss)) ∙ shares-stopped t (take i ss) (drop i ss) p e

-- ---- shares of entries, entry by entry
pub joined-next : (t u : List Frac) (f : ℕ → List Share) (n : ℕ) → with_shares t (joined_below n f) ≡ Ok u → with_shares t (joined_below (n + 1) f) ≡ with_shares u (f n)
joined-next t u f n e = ap (λ m. with_shares t (joined_below m f)) (next n) ∙ shares-after t u (joined_below n f) (f n) e

pub joined-within : (t : List Frac) (f : ℕ → List Share) (m k : ℕ) (p : Passes) → with_shares t (joined_below m f) ≡ Err p → with_shares t (joined_below (k + m) f) ≡ Err p
joined-within t f m zero p e = let same : 0 + m ≡ m = omega arith in rw same e
joined-within t f m (suc k) p e =
    let same : suc k + m ≡ suc (k + m) = omega arith in
    rw same (shares-stopped t (joined_below (k + m) f) (f (k + m)) p (joined-within t f m k p e))

pub joined-within-some : (t : List Frac) (f : ℕ → List Share) (m n : ℕ) (p : Passes) → m ≤ n → with_shares t (joined_below m f) ≡ Err p → with_shares t (joined_below n f) ≡ Err p
joined-within-some t f m n p b e = let same : (n - m) + m ≡ n = omega (arith, b) in ap (λ k. with_shares t (joined_below k f)) (sym same) ∙ joined-within t f m (n - m) p e

pub below-next : (t u : List Frac) (f : ℕ → Share) (n : ℕ) → with_shares t (list_below n f) ≡ Ok u → with_shares t (list_below (n + 1) f) ≡ with_share u (f n)
below-next t u f n e = ap (λ m. with_shares t (list_below m f)) (next n) ∙ shares-after t u (list_below n f) (f n ∷ []) e ∙ one_share u (f n)

below-within : (t : List Frac) (f : ℕ → Share) (m k : ℕ) (p : Passes) → with_shares t (list_below m f) ≡ Err p → with_shares t (list_below (k + m) f) ≡ Err p
below-within t f m zero p e = let same : 0 + m ≡ m = omega arith in rw same e
below-within t f m (suc k) p e =
    let same : suc k + m ≡ suc (k + m) = omega arith in
    rw same (shares-stopped t (list_below (k + m) f) (f (k + m) ∷ []) p (below-within t f m k p e))

pub below-within-some : (t : List Frac) (f : ℕ → Share) (m n : ℕ) (p : Passes) → m ≤ n → with_shares t (list_below m f) ≡ Err p → with_shares t (list_below n f) ≡ Err p
below-within-some t f m n p b e = let same : (n - m) + m ≡ n = omega (arith, b) in ap (λ k. with_shares t (list_below k f)) (sym same) ∙ below-within t f m (n - m) p e

-- the shares of the next entry
pub entry-next : (t u : List Frac) (f : ℕ → List Share) (n : ℕ) (ss : List Share) → ss ≡ f n → with_shares t (joined_below n f) ≡ Ok u → with_shares t (joined_below (n + 1) f) ≡ with_shares u ss
entry-next t u f n ss is e = joined-next t u f n e ∙ ap (with_shares u) (sym is)
