-- A chain is shorter than the number of sets of columns.
use Rattle.std.proofs.Common.{◌≡◌, ◌≢◌, ℕ, zero, suc, ◌+◌, ◌-◌, ◌^◌, ◌<◌, ◌≤◌, List, arith, refl, sym, ◌∙◌, subst, ◌⊎◌, inl, inr}
use Rattle.std.proofs.Math.Nat.{pow-suc}
use Rattle.std.proofs.lemmas.Bool.{cases_eq}
use Rattle.dcx_tab.specs.Rows.{Row}
use Rattle.dcx_tab.specs.Table.{Table}
use Rattle.dcx_simplex.specs.Basis.{IsBasic, HasSameColumns}
use Rattle.dcx_simplex.proofs.Chains.{Chain, IsKin}
use Rattle.dcx_simplex.proofs.Cycle.{is_basic, no_cycle}
use Rattle.dcx_math.proofs.Pigeons.{pigeons}

-- ---- a set of columns as a number
abbrev pub digit : (t : Table) (j w : ℕ) → IsBasic t j ⊎ ¬ (IsBasic t j) → ℕ
digit t j w (inl b) = w
digit t j w (inr b) = 0

code : Table → ℕ → ℕ
code t zero = 0
code t (suc n) = code t n + digit t n (2 ^ n) (is_basic t n)

digit_low : (t : Table) (j w : ℕ) (d : IsBasic t j ⊎ ¬ (IsBasic t j)) → digit t j w d ≤ w
digit_low t j w (inl b) = omega arith
digit_low t j w (inr b) = omega arith

code_low : (t : Table) (n : ℕ) → code t n < 2 ^ n
unfolding code
code_low t zero = omega arith
code_low t (suc n) =
    let ih = code_low t n in
    let p = pow-suc 2 n in
    let d = digit_low t n (2 ^ n) (is_basic t n) in
    omega (arith, ih, p, d)

-- the last digits are the same, and so are the numbers before
last_same : (t u : Table) (n x y w : ℕ) (d : IsBasic t n ⊎ ¬ (IsBasic t n)) (e : IsBasic u n ⊎ ¬ (IsBasic u n)) → x < w → y < w → x + digit t n w d ≡ y + digit u n w e
    → (x ≡ y) × (IsBasic t n → IsBasic u n)
last_same t u n x y w (inl d) (inl e) p q h = (omega arith, λ b. e)
last_same t u n x y w (inl d) (inr e) p q h = absurd (omega arith)
last_same t u n x y w (inr d) (inl e) p q h = absurd (omega arith)
last_same t u n x y w (inr d) (inr e) p q h = (omega arith, λ b. absurd (d b))

code_same_by : (t u : Table) (n j : ℕ) → j < suc n → ((j < n) → IsBasic t j → IsBasic u j) → (IsBasic t n → IsBasic u n) → (j ≡ n) ⊎ (j ≢ n) → IsBasic t j → IsBasic u j
code_same_by t u n j h f g (inl e) b = subst (IsBasic u) (sym e) (g (subst (IsBasic t) e b))
code_same_by t u n j h f g (inr e) b = f (omega (arith, e)) b

code_same : (t u : Table) (n : ℕ) → code t n ≡ code u n → (j : ℕ) → j < n → IsBasic t j → IsBasic u j
unfolding code
code_same t u zero h j l b = absurd (omega arith)
code_same t u (suc n) h j l b =
    let s = last_same t u n (code t n) (code u n) (2 ^ n) (is_basic t n) (is_basic u n) (code_low t n) (code_low u n) h in
    code_same_by t u n j l (λ k. code_same t u n s.0 j k) s.1 (cases_eq j n) b

-- ---- a part of a chain
plus : ℕ → ℕ → ℕ
plus zero a = a
plus (suc i) a = suc (plus i a)

plus_is : (i a : ℕ) → plus i a ≡ i + a
unfolding plus
plus_is zero a = omega arith
plus_is (suc i) a = let h = plus_is i a in omega (arith, h)

kin_between : (t u v : Table) → IsKin t u → IsKin t v → IsKin u v
kin_between t u v a b = record {
  rows = b.rows ∙ sym a.rows;
  columns = b.columns ∙ sym a.columns;
  plain = b.plain ∙ sym a.plain;
  last = λ k h l. let e = a.rows in b.last k (omega (arith, h, e)) (omega (arith, l, e)) ∙ sym (a.last k (omega (arith, h, e)) (omega (arith, l, e)));
}

module _ (equations : List Row) (cost bound : ℕ) (t u : Table) (count : ℕ) (ch : Chain equations cost bound t u count) where
  part : (a d : ℕ) → plus (suc d) a ≤ count → Chain equations cost bound (ch.tables (plus (suc d) a)) (ch.tables a) (suc d)
  unfolding plus
  part a d h =
      let e = plus_is d a in
      let below : (i : ℕ) → i ≤ suc d → plus i a ≤ count = λ i l. let f = plus_is i a in omega (arith, e, f, h, l) in
      let strict : (i : ℕ) → i < suc d → plus i a < count = λ i l. let f = plus_is i a in omega (arith, e, f, h, l) in
      record {
        tables = λ i. ch.tables (plus i a);
        row = λ i. ch.row (plus i a);
        column = λ i. ch.column (plus i a);
        start = refl;
        final = refl;
        next = λ i l. ch.next (plus i a) (strict i l);
        after = λ i l. ch.after (plus i a) (strict i l);
        ready = λ i l. ch.ready (plus i a) (below i l);
        kin = λ i l. kin_between t (ch.tables (suc (plus d a))) (ch.tables (plus i a)) (ch.kin (suc (plus d a)) h) (ch.kin (plus i a) (below i l));
        falls = λ i j l k. let f = plus_is i a in let g = plus_is j a in ch.falls (plus i a) (plus j a) (omega (arith, f, g, l)) (below j k);
      }

  part_apart : (a d : ℕ) → plus (suc d) a ≤ count → ¬ (HasSameColumns (ch.tables (plus (suc d) a)) (ch.tables a))
  part_apart a d h s = no_cycle equations cost bound (ch.tables (plus (suc d) a)) (ch.tables a) d (part a d h) s

  apart : (a b : ℕ) → a < b → b ≤ count → ¬ (HasSameColumns (ch.tables b) (ch.tables a))
  apart a b l h s =
      let e : plus (suc (b - suc a)) a ≡ b = plus_is (suc (b - suc a)) a ∙ omega arith in
      part_apart a (b - suc a) (omega (arith, e, h)) (subst (λ i. HasSameColumns (ch.tables i) (ch.tables a)) (sym e) s)

  from_code : (a b : ℕ) → a ≤ count → b ≤ count → code (ch.tables a) t.columns ≡ code (ch.tables b) t.columns → (j : ℕ) → IsBasic (ch.tables a) j → IsBasic (ch.tables b) j
  from_code a b ha hb e j x =
      let k = (ch.kin a ha).columns in
      let l = (ch.ready a ha).basics x.0 x.1 in
      let f = x.2 in
      code_same (ch.tables a) (ch.tables b) t.columns e j (omega (arith, k, l, f)) x

  pub shorter : suc count ≤ 2 ^ t.columns
  shorter = pigeons (2 ^ t.columns) (suc count) (λ i. code (ch.tables i) t.columns) (λ i h. code_low (ch.tables i) t.columns)
      (λ i j l h e. apart i j l (omega arith) (λ c. (from_code j i (omega arith) (omega arith) (sym e) c, from_code i j (omega arith) (omega arith) e c)))
