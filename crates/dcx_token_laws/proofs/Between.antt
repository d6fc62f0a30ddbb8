-- What a step passes over between tokens: blanks, a comment or a line end.
use Rattle.std.proofs.Common.{◌≡◌, inl, inr, ℕ, zero, suc, ◌+◌, ◌-◌, ◌<◌, Bool, true, false, cond, eqb, ◌||◌, ◌&&◌, List, [], ◌∷◌, ◌++◌, length, take, drop, refl, sym, ap, ◌∙◌, subst, arith}
use Rattle.std.specs.Prelude.{IsTrue, not, nat_lt, get_or, ◌≤◌}
use Rattle.std.specs.List.{All, prefix_len}
use Rattle.std.proofs.Math.Numerals.{one-add}
use Rattle.std.proofs.lemmas.Bool.{ltb-true, ltb-false, eqb-true}
use Rattle.std.proofs.lemmas.Bool.Decides.{nat_tests}
use Rattle.std.proofs.lemmas.List.Elements.{All-nil, All-cons}
use Rattle.std.proofs.lemmas.List.{take-append-drop}
use Rattle.std.proofs.Math.Seq.{drop-cons}
use Rattle.std.proofs.lemmas.List.Sums.{prefix_len_stops}
use Rattle.std.proofs.lemmas.List.Folds.{length-prefix_len}
use Rattle.dcx_tokens.specs.Front.{run_of, is_blank, ends_line, line_end_len, up_to_line_end, is_not_line_feed}
use Rattle.dcx_token_laws.specs.Cut.{AreBlanks, IsLineEnd, EndsLine, HasNoLineEnd, IsComment}
use Rattle.dcx_token_laws.proofs.Basics.{never_both}

-- those that are counted from the front on pass
pub run_passes : (p : ℕ → Bool) (cs : List ℕ) → All (λ c. IsTrue (p c)) (take (prefix_len p cs) cs)
run_passes p [] = All-nil (λ c. IsTrue (p c))
run_passes p (c ∷ cs) = by (p c) refl (run_passes p cs)
  where
    by : (b : Bool) → p c ≡ b → All (λ d. IsTrue (p d)) (take (prefix_len p cs) cs) → All (λ d. IsTrue (p d)) (take (cond b (1 + prefix_len p cs) 0) (c ∷ cs))
    by true e more = rw one-add (All-cons (λ d. IsTrue (p d)) c (take (prefix_len p cs) cs) e more)
    by false e more = All-nil (λ d. IsTrue (p d))

pub run_is : (p : ℕ → Bool) (cs : List ℕ) → run_of p cs ≡ prefix_len p cs
run_is p cs = length-prefix_len p cs

pub are_blanks : (c : ℕ) (cs : List ℕ) (n : ℕ) → is_blank c ≡ true → n ≡ 1 + run_of is_blank cs → AreBlanks (take n (c ∷ cs))
are_blanks c cs n b count =
    let m : n ≡ suc (prefix_len is_blank cs) = count ∙ ap (λ i. 1 + i) (run_is is_blank cs) ∙ one-add (prefix_len is_blank cs) in
    rw m (All-cons (λ d. IsTrue (is_blank d)) c (take (prefix_len is_blank cs) cs) b (run_passes is_blank cs))

-- ---- line ends
pub is_line_end : (c : ℕ) (cs : List ℕ) (n : ℕ) → ends_line c cs ≡ true → n ≡ line_end_len c → IsLineEnd (take n (c ∷ cs))
is_line_end c [] n l count =
    let c10 = eqb-true c 10 l in
    let one : n ≡ 1 = count ∙ ap line_end_len c10 in
    inl (rw (one, c10) refl)
is_line_end c (d ∷ ds) n l count = by (eqb c 10) (eqb c 13) (eqb d 10) refl refl refl l
  where
    by : (a b e : Bool) → eqb c 10 ≡ a → eqb c 13 ≡ b → eqb d 10 ≡ e → (a || (b && e)) ≡ true → IsLineEnd (take n (c ∷ d ∷ ds))
    by true b e ea eb ee h = let c10 = eqb-true c 10 ea in let one : n ≡ 1 = count ∙ ap line_end_len c10 in inl (rw (one, c10) refl)
    by false true true ea eb ee h =
        let c13 = eqb-true c 13 eb in
        let d10 = eqb-true d 10 ee in
        let two : n ≡ 2 = count ∙ ap line_end_len c13 in
        inr (rw (two, c13, d10) refl)
    by false true false ea eb ee h = absurd (cc)
    by false false e ea eb ee h = absurd (cc)

-- ---- comments
-- where n characters end the run, and more stand behind them, the last is no carriage return
abbrev IsClear : List ℕ → ℕ → Type 0
IsClear cs n = (k : ℕ) → n ≡ suc k → n ≡ prefix_len is_not_line_feed cs → n < length cs → eqb (get_or cs k 0) 13 ≡ false

ends_none : (c : ℕ) (cs : List ℕ) (n : ℕ) → eqb c 10 ≡ false → suc n ≤ 1 + prefix_len is_not_line_feed cs
    → (suc n ≡ 1 + prefix_len is_not_line_feed cs → suc n < suc (length cs) → eqb (get_or (c ∷ cs) n 0) 13 ≡ false) → ends_line c cs ≡ false
ends_none c [] n other le clear = other
ends_none c (d ∷ ds) n other le clear = by (eqb c 13) (eqb d 10) refl refl
  where
    clash : eqb c 13 ≡ true → eqb d 10 ≡ true → ⊥
    clash r f =
        let none : prefix_len is_not_line_feed (d ∷ ds) ≡ 0 = rw f refl in
        let zero_is : n ≡ 0 = omega arith in
        never_both (eqb c 13) r (subst (λ i. eqb (get_or (c ∷ d ∷ ds) i 0) 13 ≡ false) zero_is (clear (omega arith) (omega arith)))

    by : (r f : Bool) → eqb c 13 ≡ r → eqb d 10 ≡ f → ends_line c (d ∷ ds) ≡ false
    by true true er ef = absurd (clash er ef)
    by true false er ef = rw (other, er, ef) refl
    by false f er ef = rw (other, er) refl

no_line_end : (cs : List ℕ) (n : ℕ) → n ≤ prefix_len is_not_line_feed cs → IsClear cs n → HasNoLineEnd (take n cs) (drop n cs)
no_line_end [] zero le clear = tt
no_line_end [] (suc n) le clear = tt
no_line_end (c ∷ cs) zero le clear = tt
no_line_end (c ∷ cs) (suc n) le clear = by (eqb c 10) refl (no_line_end cs n)
  where
    run_of_feed : eqb c 10 ≡ true → prefix_len is_not_line_feed (c ∷ cs) ≡ 0
    run_of_feed e = rw e refl

    run_is_more : eqb c 10 ≡ false → prefix_len is_not_line_feed (c ∷ cs) ≡ 1 + prefix_len is_not_line_feed cs
    run_is_more e = rw e refl

    clear_behind : eqb c 10 ≡ false → IsClear cs n
    clear_behind e k is at_end within =
        let run = run_is_more e in
        subst (λ i. eqb (get_or (c ∷ cs) i 0) 13 ≡ false) is (clear n refl (omega (arith, at_end, run)) (omega (arith, within)))

    first : eqb c 10 ≡ false → ends_line c (take n cs ++ drop n cs) ≡ false
    first e =
        let run = run_is_more e in
        subst (λ xs. ends_line c xs ≡ false) (sym (take-append-drop n cs)) (ends_none c cs n e (omega (arith, le, run)) (λ at_end within. clear n refl (omega (arith, at_end, run)) within))

    by : (b : Bool) → eqb c 10 ≡ b → (n ≤ prefix_len is_not_line_feed cs → IsClear cs n → HasNoLineEnd (take n cs) (drop n cs)) → HasNoLineEnd (c ∷ take n cs) (drop n cs)
    by true e more = absurd (let run = run_of_feed e in omega (arith, le, run))
    by false e more = (first e, more (let run = run_is_more e in omega (arith, le, run)) (clear_behind e))

-- behind the run stands a line feed, or nothing
feed_next : (cs : List ℕ) → EndsLine (drop (prefix_len is_not_line_feed cs) cs)
feed_next [] = tt
feed_next (c ∷ cs) = by (eqb c 10) refl (feed_next cs)
  where
    ends_so : (ds : List ℕ) → eqb c 10 ≡ true → ends_line c ds ≡ true
    ends_so [] e = e
    ends_so (d ∷ ds) e = rw e refl

    by : (b : Bool) → eqb c 10 ≡ b → EndsLine (drop (prefix_len is_not_line_feed cs) cs) → EndsLine (drop (cond (not b) (1 + prefix_len is_not_line_feed cs) 0) (c ∷ cs))
    by true e more = ends_so cs e
    by false e more = rw one-add more

line_feed : (c : ℕ) → not (eqb c 10) ≡ false → c ≡ 10
line_feed c e = grind (arith, nat_tests)

-- a carriage return in front of it counts to the line end
return_next : (cs : List ℕ) (n : ℕ) → 0 < n → n < length cs → n ≡ prefix_len is_not_line_feed cs → eqb (get_or cs (n - 1) 0) 13 ≡ true → EndsLine (drop (n - 1) cs)
return_next cs n some within is e =
    let m = n - 1 in
    let next : suc m ≡ n = omega arith in
    let feed : get_or cs n 0 ≡ 10 = line_feed (get_or cs n 0) (subst (λ i. is_not_line_feed (get_or cs i 0) ≡ false) (sym is) (prefix_len_stops is_not_line_feed cs 0 (omega arith))) in
    let return : get_or cs m 0 ≡ 13 = eqb-true (get_or cs m 0) 13 e in
    let first : drop m cs ≡ get_or cs m 0 ∷ drop (suc m) cs = drop-cons cs m 0 (omega arith) in
    let second : drop n cs ≡ get_or cs n 0 ∷ drop (suc n) cs = drop-cons cs n 0 within in
    let both : drop m cs ≡ 13 ∷ 10 ∷ drop (suc n) cs =
    first ∙ ap (λ x. x ∷ drop (suc m) cs) return ∙ ap (λ i. 13 ∷ drop i cs) next ∙ ap (λ xs. 13 ∷ xs) (second ∙ ap (λ x. x ∷ drop (suc n) cs) feed) in
    subst EndsLine (sym both) refl

comment_of : (c : ℕ) (cs : List ℕ) (n m : ℕ) → c ≡ 35 → n ≡ suc m → m ≤ prefix_len is_not_line_feed cs → IsClear cs m → EndsLine (drop m cs) → IsComment (take n (c ∷ cs)) (drop n (c ∷ cs))
comment_of c cs n m hash count le clear ends = rw count (hash, no_line_end cs m le clear, ends)

comment_by : (c : ℕ) (cs : List ℕ) (n run : ℕ) (a b d : Bool) → c ≡ 35 → run ≡ prefix_len is_not_line_feed cs → nat_lt 0 run ≡ a → nat_lt run (length cs) ≡ b → eqb (get_or cs (run - 1) 0) 13 ≡ d →
    n ≡ 1 + cond ((a && b) && d) (run - 1) run → IsComment (take n (c ∷ cs)) (drop n (c ∷ cs))
comment_by c cs n run true true true h is ea eb ed e =
    let some = ltb-true 0 run ea in
    comment_of c cs n (run - 1) h (omega arith) (omega arith) (λ k same at_end within. absurd (omega (arith, some, is, at_end))) (return_next cs run some (ltb-true run (length cs) eb) is ed)
comment_by c cs n run true true false h is ea eb ed e =
    comment_of c cs n run h (omega arith) (omega arith) (λ k same at_end within. let last : run - 1 ≡ k = omega (arith, same) in
    subst (λ i. eqb (get_or cs i 0) 13 ≡ false) last ed) (subst (λ i. EndsLine (drop i cs)) (sym is) (feed_next cs))
comment_by c cs n run true false d h is ea eb ed e =
    comment_of c cs n run h (omega arith) (omega arith) (λ k same at_end within. absurd (let most = ltb-false run (length cs) eb in omega (arith, most, within)))
    (subst (λ i. EndsLine (drop i cs)) (sym is) (feed_next cs))
comment_by c cs n run false b d h is ea eb ed e =
    comment_of c cs n run h (omega arith) (omega arith) (λ k same at_end within. absurd (let none = ltb-false 0 run ea in omega (arith, none, same)))
    (subst (λ i. EndsLine (drop i cs)) (sym is) (feed_next cs))

pub is_comment : (c : ℕ) (cs : List ℕ) (n : ℕ) → eqb c 35 ≡ true → n ≡ 1 + up_to_line_end cs → IsComment (take n (c ∷ cs)) (drop n (c ∷ cs))
is_comment c cs n h count =
    let run = run_of is_not_line_feed cs in
    comment_by c cs n run (nat_lt 0 run) (nat_lt run (length cs)) (eqb (get_or cs (run - 1) 0) 13) (eqb-true c 35 h) (run_is is_not_line_feed cs) refl refl refl count
