-- Depths of blocks that rise from the outermost on.
use Rattle.std.proofs.Common.{◌≡◌, inl, inr, ℕ, ◌+◌, ◌-◌, ◌<◌, ◌≤◌, Bool, true, false, cond, eqb, ◌||◌, List, [], ◌∷◌, ◌++◌, length, take, drop, replicate, refl, sym, ap, ◌∙◌, subst, arith}
use Rattle.std.specs.Prelude.{nat_lt, nat_le}
use Rattle.std.specs.List.{All, list_all, list_any, prefix_len}
use Rattle.std.proofs.Math.Numerals.{one-add}
use Rattle.std.proofs.lemmas.Bool.{ltb-true, leb-false, le-leb, lt-leb, eqb-true, and_parts}
use Rattle.std.proofs.lemmas.List.{length-drop, take-append-drop}
use Rattle.std.proofs.lemmas.List.Folds.{length-prefix_len}
use Rattle.std.proofs.lemmas.List.Elements.{All-nil, All-cons, All-weaker}
use Rattle.dcx_tokens.specs.declared.token.TokenKind.TheVariants as kind
use Rattle.dcx_tokens.specs.Layout.{is_deeper, is_standing, kept}
use Rattle.dcx_token_laws.specs.Lines.{StandsAt, Turns, deeper, back}

abbrev pub IsRising : ℕ → List ℕ → Type 0
IsRising low [] = Unit {0}
IsRising low (x ∷ xs) = (low < x) × IsRising x xs

-- ---- deeper than all
pub all_below : (xs : List ℕ) (x : ℕ) → list_all (λ i. nat_lt i x) xs ≡ true → All (λ d. d < x) xs
all_below [] x e = All-nil (λ d. d < x)
all_below (y ∷ ys) x e = let p = and_parts (nat_lt y x) (list_all (λ i. nat_lt i x) ys) e in All-cons (λ d. d < x) y ys (ltb-true y x p.0) (all_below ys x p.1)

-- the same, by recursion
rising_push : (low : ℕ) (xs : List ℕ) (x : ℕ) → low < x → IsRising low xs → list_all (λ i. nat_lt i x) xs ≡ true → IsRising low (xs ++ x ∷ [])
rising_push low [] x h r e = (h, tt)
rising_push low (y ∷ ys) x h r e = let p = and_parts (nat_lt y x) (list_all (λ i. nat_lt i x) ys) e in (r.0, rising_push y ys x (ltb-true y x p.0) r.1 p.1)

-- ---- back to one that stands
rising_all : (low : ℕ) (xs : List ℕ) → IsRising low xs → All (λ d. low < d) xs
rising_all low [] r = All-nil (λ d. low < d)
rising_all low (x ∷ xs) r = All-cons (λ d. low < d) x xs r.0 (All-weaker (λ d. x < d) (λ d. low < d) (λ d h. let k = r.0 in omega (arith, h, k)) xs (rising_all x xs r.1))

none_kept : (low : ℕ) (xs : List ℕ) (x : ℕ) → x ≤ low → IsRising low xs → prefix_len (λ i. nat_le i x) xs ≡ 0
none_kept low [] x h r = refl
none_kept low (y ∷ ys) x h r = let k = r.0 in let no : nat_le y x ≡ false = lt-leb y x (omega arith) in rw no refl

any_above : (low : ℕ) (xs : List ℕ) (x : ℕ) → IsRising low xs → list_any (λ i. eqb i x) xs ≡ true → low < x
any_above low [] x r e = absurd (cc)
any_above low (y ∷ ys) x r e = by (eqb y x) refl e (any_above y ys x r.1)
  where
    by : (b : Bool) → eqb y x ≡ b → (b || list_any (λ i. eqb i x) ys) ≡ true → (list_any (λ i. eqb i x) ys ≡ true → y < x) → low < x
    by true is h more = let k = r.0 in let same = eqb-true y x is in omega arith
    by false is h more = let k = r.0 in let l = more h in omega arith

gone_above : (low : ℕ) (xs : List ℕ) (x : ℕ) → IsRising low xs → All (λ d. x < d) (drop (prefix_len (λ i. nat_le i x) xs) xs)
gone_above low [] x r = All-nil (λ d. x < d)
gone_above low (y ∷ ys) x r = by (nat_le y x) refl (gone_above y ys x r.1)
  where
    by : (b : Bool) → nat_le y x ≡ b → All (λ d. x < d) (drop (prefix_len (λ i. nat_le i x) ys) ys) → All (λ d. x < d) (drop (cond b (1 + prefix_len (λ i. nat_le i x) ys) 0) (y ∷ ys))
    by true is more = rw one-add more
    by false is more = let a = leb-false y x is in All-cons (λ d. x < d) y ys a (All-weaker (λ d. y < d) (λ d. x < d) (λ d h. omega (arith, h, a)) ys (rising_all y ys r.1))

kept_stands : (low : ℕ) (xs : List ℕ) (x : ℕ) → IsRising low xs → list_any (λ i. eqb i x) xs ≡ true → (outer : List ℕ) × (take (prefix_len (λ i. nat_le i x) xs) xs ≡ outer ++ x ∷ [])
kept_stands low [] x r e = absurd (cc)
kept_stands low (y ∷ ys) x r e = by (eqb y x) refl e (kept_stands y ys x r.1)
  where
    by : (b : Bool) → eqb y x ≡ b → (b || list_any (λ i. eqb i x) ys) ≡ true →
        (list_any (λ i. eqb i x) ys ≡ true → (outer : List ℕ) × (take (prefix_len (λ i. nat_le i x) ys) ys ≡ outer ++ x ∷ []))
        → (outer : List ℕ) × (take (prefix_len (λ i. nat_le i x) (y ∷ ys)) (y ∷ ys) ≡ outer ++ x ∷ [])
    by true is h more =
        let same = eqb-true y x is in
        let yes : nat_le y x ≡ true = le-leb y x (omega arith) in
        let none : prefix_len (λ i. nat_le i x) ys ≡ 0 = none_kept y ys x (omega arith) r.1 in
        ([], rw (yes, none) (ap (λ z. z ∷ []) same))
    by false is h more =
        let l = any_above y ys x r.1 h in
        let yes : nat_le y x ≡ true = le-leb y x (omega arith) in
        let m = more h in
        (y ∷ m.0, rw (yes, one-add) (ap (λ zs. y ∷ zs) m.1))

rising_kept : (low : ℕ) (xs : List ℕ) (x : ℕ) → IsRising low xs → IsRising low (take (prefix_len (λ i. nat_le i x) xs) xs)
rising_kept low [] x r = tt
rising_kept low (y ∷ ys) x r = by (nat_le y x) (rising_kept y ys x r.1)
  where
    by : (b : Bool) → IsRising y (take (prefix_len (λ i. nat_le i x) ys) ys) → IsRising low (take (cond b (1 + prefix_len (λ i. nat_le i x) ys) 0) (y ∷ ys))
    by true more = rw one-add (r.0, more)
    by false more = tt

-- ---- what a line of this depth makes of blocks
pub deeper_turns : (blocks : List ℕ) (depth : ℕ) → is_deeper blocks depth ≡ true → Turns blocks depth (kind.Indent ∷ []) (blocks ++ depth ∷ [])
deeper_turns blocks depth e =
    deeper (ltb-true 0 depth (and_parts (nat_lt 0 depth) (list_all (λ i. nat_lt i depth) blocks) e).0) (all_below blocks depth (and_parts (nat_lt 0 depth) (list_all (λ i. nat_lt i depth) blocks) e).1)

pub deeper_rising : (blocks : List ℕ) (depth : ℕ) → IsRising 0 blocks → is_deeper blocks depth ≡ true → IsRising 0 (blocks ++ depth ∷ [])
deeper_rising blocks depth r e =
    rising_push 0 blocks depth (ltb-true 0 depth (and_parts (nat_lt 0 depth) (list_all (λ i. nat_lt i depth) blocks) e).0) r (and_parts (nat_lt 0 depth) (list_all (λ i. nat_lt i depth) blocks) e).1

pub stands : (blocks : List ℕ) (depth : ℕ) → IsRising 0 blocks → is_standing blocks depth ≡ true → StandsAt (kept blocks depth) depth
stands blocks depth r = by (eqb depth 0) refl
  where
    by : (b : Bool) → eqb depth 0 ≡ b → (b || list_any (λ i. eqb i depth) blocks) ≡ true → StandsAt (kept blocks depth) depth
    by true is e =
        let zero = eqb-true depth 0 is in
        let none : prefix_len (λ i. nat_le i depth) blocks ≡ 0 = none_kept 0 blocks depth (omega arith) r in
        inl (rw none refl, zero)
    by false is e = inr (kept_stands 0 blocks depth r e)

pub back_turns : (blocks : List ℕ) (depth : ℕ) → IsRising 0 blocks → is_standing blocks depth ≡ true
    → Turns blocks depth (replicate (length blocks - length (kept blocks depth)) kind.Dedent) (kept blocks depth)
back_turns blocks depth r e =
    let n = prefix_len (λ i. nat_le i depth) blocks in
    let count : length (drop n blocks) ≡ length blocks - length (kept blocks depth) = length-drop n blocks ∙ ap (λ m. length blocks - m) (sym (length-prefix_len (λ i. nat_le i depth) blocks)) in
    subst (λ xs. Turns xs depth (replicate (length blocks - length (kept blocks depth)) kind.Dedent) (kept blocks depth)) (take-append-drop n blocks)
    (subst (λ m. Turns (kept blocks depth ++ drop n blocks) depth (replicate m kind.Dedent) (kept blocks depth)) count (back (drop n blocks) (stands blocks depth r e) (gone_above 0 blocks depth r)))

pub back_rising : (blocks : List ℕ) (depth : ℕ) → IsRising 0 blocks → IsRising 0 (kept blocks depth)
back_rising blocks depth r = rising_kept 0 blocks depth r
