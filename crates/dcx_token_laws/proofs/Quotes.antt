-- A text between quotes ends where its quote is closed, whatever stands behind.
use Rattle.std.proofs.Common.{◌≡◌, ℕ, suc, ◌+◌, ◌≤◌, ◌<◌, Bool, true, false, cond, eqb, List, [], ◌∷◌, ◌++◌, length, Option, Some, None, refl, sym, ap, arith}
use Rattle.std.specs.Prelude.{option_map}
use Rattle.std.proofs.lemmas.Option.{none-some, same_Some}
use Rattle.dcx_tokens.specs.Quoted.{up_to_quote}

-- one more
pub record More (o : Option ℕ) (n : ℕ) : Type 0 where
  pub count : ℕ
  pub was : o ≡ Some count
  pub is : n ≡ 1 + count

pub one_more : (o : Option ℕ) (n : ℕ) → option_map (λ m. 1 + m) o ≡ Some n → More o n
one_more None n e = absurd (let no : ◌≡◌ {A = Option ℕ} None (Some n) = e in cc)
one_more (Some m) n e = record { count = m; was = refl; is = let same : ◌≡◌ {A = Option ℕ} (Some (1 + m)) (Some n) = e in cc }

-- it has characters, and they are there
pub quote_some : (quote : ℕ) (is_taken : Bool) (xs : List ℕ) (n : ℕ) → up_to_quote quote is_taken xs ≡ Some n → (0 < n) × (n ≤ length xs)
quote_some quote is_taken [] n e = absurd (none-some n e)
quote_some quote is_taken (c ∷ cs) n e = by (eqb c 10) is_taken (eqb c quote) e (λ b m. quote_some quote b cs m)
  where
    counted : (b : Bool) → option_map (λ m. 1 + m) (up_to_quote quote b cs) ≡ Some n
        → ((b : Bool) (m : ℕ) → up_to_quote quote b cs ≡ Some m → (0 < m) × (m ≤ length cs)) → (0 < n) × (n ≤ suc (length cs))
    counted b h more = let one = one_more (up_to_quote quote b cs) n h in let rest = more b one.count one.was in let is = one.is in let top = rest.1 in (omega arith, omega (arith, top, is))

    by : (l t q : Bool) → cond l None (cond t (option_map (λ m. 1 + m) (up_to_quote quote false cs)) (cond q (Some 1) (option_map (λ m. 1 + m) (up_to_quote quote (eqb c 92) cs)))) ≡ Some n →
        ((b : Bool) (m : ℕ) → up_to_quote quote b cs ≡ Some m → (0 < m) × (m ≤ length cs)) → (0 < n) × (n ≤ suc (length cs))
    by true t q h more = absurd (none-some n h)
    by false true q h more = counted false h more
    by false false true h more = let is = same_Some 1 n h in (omega arith, omega arith)
    by false false false h more = counted (eqb c 92) h more

pub quote_front : (quote : ℕ) (is_taken : Bool) (xs ys : List ℕ) (n : ℕ) → up_to_quote quote is_taken (xs ++ ys) ≡ Some n → n ≤ length xs → up_to_quote quote is_taken xs ≡ Some n
quote_front quote is_taken [] ys n e le = absurd (let some = (quote_some quote is_taken ys n e).0 in omega (arith, some, le))
quote_front quote is_taken (c ∷ cs) ys n e le = by (eqb c 10) is_taken (eqb c quote) e (λ b m. quote_front quote b cs ys m)
  where
    counted : (b : Bool) → option_map (λ m. 1 + m) (up_to_quote quote b (cs ++ ys)) ≡ Some n
        → ((b : Bool) (m : ℕ) → up_to_quote quote b (cs ++ ys) ≡ Some m → m ≤ length cs → up_to_quote quote b cs ≡ Some m) →
        option_map (λ m. 1 + m) (up_to_quote quote b cs) ≡ Some n
    counted b h more =
        let one = one_more (up_to_quote quote b (cs ++ ys)) n h in
        let is = one.is in
        rw (more b one.count one.was (omega (arith, is, le))) (ap (λ m. Some m) (sym is))

    by : (l t q : Bool) → cond l None (cond t (option_map (λ m. 1 + m) (up_to_quote quote false (cs ++ ys)))
        (cond q (Some 1) (option_map (λ m. 1 + m) (up_to_quote quote (eqb c 92) (cs ++ ys))))) ≡ Some n →
        ((b : Bool) (m : ℕ) → up_to_quote quote b (cs ++ ys) ≡ Some m → m ≤ length cs → up_to_quote quote b cs ≡ Some m) →
        cond l None (cond t (option_map (λ m. 1 + m) (up_to_quote quote false cs)) (cond q (Some 1) (option_map (λ m. 1 + m) (up_to_quote quote (eqb c 92) cs)))) ≡ Some n
    by true t q h more = h
    by false true q h more = counted false h more
    by false false true h more = h
    by false false false h more = counted (eqb c 92) h more

-- the quote that closes it closes it with more behind
pub quote_longer : (quote : ℕ) (is_taken : Bool) (xs ys : List ℕ) (n : ℕ) → up_to_quote quote is_taken xs ≡ Some n → up_to_quote quote is_taken (xs ++ ys) ≡ Some n
quote_longer quote is_taken [] ys n e = absurd (none-some n e)
quote_longer quote is_taken (c ∷ cs) ys n e = by (eqb c 10) is_taken (eqb c quote) e (λ b m. quote_longer quote b cs ys m)
  where
    counted : (b : Bool) → option_map (λ m. 1 + m) (up_to_quote quote b cs) ≡ Some n → ((b : Bool) (m : ℕ) → up_to_quote quote b cs ≡ Some m → up_to_quote quote b (cs ++ ys) ≡ Some m) →
        option_map (λ m. 1 + m) (up_to_quote quote b (cs ++ ys)) ≡ Some n
    counted b h more =
        let one = one_more (up_to_quote quote b cs) n h in
        rw (more b one.count one.was) (ap (λ m. Some m) (sym one.is))

    by : (l t q : Bool) → cond l None (cond t (option_map (λ m. 1 + m) (up_to_quote quote false cs)) (cond q (Some 1) (option_map (λ m. 1 + m) (up_to_quote quote (eqb c 92) cs)))) ≡ Some n →
        ((b : Bool) (m : ℕ) → up_to_quote quote b cs ≡ Some m → up_to_quote quote b (cs ++ ys) ≡ Some m) →
        cond l None (cond t (option_map (λ m. 1 + m) (up_to_quote quote false (cs ++ ys))) (cond q (Some 1) (option_map (λ m. 1 + m) (up_to_quote quote (eqb c 92) (cs ++ ys))))) ≡ Some n
    by true t q h more = h
    by false true q h more = counted false h more
    by false false true h more = h
    by false false false h more = counted (eqb c 92) h more
