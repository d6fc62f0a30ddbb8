-- The numbers of a list are read as the items of its tree.
use Rattle.std.proofs.Common.{◌≡◌, ℕ, ◌+◌, ◌^◌, ◌<◌, pos, true, false, not, ◌&&◌, List, [], ◌∷◌, ◌++◌, length, drop, decimal, refl, ap, ap₂, subst, arith}
use Rattle.std.specs.Prelude.{nat_lt}
use Rattle.std.proofs.lemmas.Bool.Decides.{nat_tests}
use Rattle.std.proofs.lemmas.Fmt.{decimal_is_IsNumeral}
use Rattle.std.specs.Str.Parse.{AllDigits}
use Rattle.dcx_math.specs.Rational.{whole}
use Rattle.dcx_atom.specs.Formed.{frac_at}
use Rattle.dcx_shape.specs.declared.place.Place.{Place}
use Rattle.dcx_tokens.specs.declared.token.Token.{Token}
use Rattle.dcx_tokens.specs.Front.{is_blank}
use Rattle.dcx_syntax.specs.Terminal.{Terminal, plain, comma, number as number_seen}
use Rattle.dcx_syntax.specs.Expressions.{more_items_text}
use Rattle.dcx_trial_laws.specs.Tree.{place_at, column_behind, more_numbers}
use Rattle.dcx_trial_laws.proofs.Pieces.{number, sign, blank, joined, Spot, next_of, ends_number, fits}
use Rattle.dcx_trial_laws.proofs.Tests.{is_digit, digit_is}
use Rattle.dcx_trial_laws.proofs.Script.{AllSmall, more_pieces, number_pieces}
use Rattle.dcx_trial_laws.proofs.Arrives.{Arrives, stays, onwards, piece_read}

-- inside a list of the script, two brackets are open
abbrev pub inside : (line column : ℕ) → Spot
inside line column = record { depth = 2; begun = true; place = place_at line column }

-- what the grammar sees of the numbers of a list
abbrev pub listed_terms : (line : ℕ) → List ℕ → List Terminal
listed_terms line [] = []
listed_terms line (k ∷ ks) = plain (number_seen (frac_at (whole (pos k))) (place_at line 15)) ∷ more_items_text (more_numbers line (column_behind 15 k) ks)

-- they are read up to some column of the line
pub record IsListed (source : List ℕ) (ts : List Token) (bs : List Place) (o line column : ℕ) (cs : List ℕ) (us : List Terminal) (rest : List ℕ) : Type 0 where
  pub end : ℕ
  pub read : Arrives source ts bs o (inside line column) cs us (inside line end) rest

-- a number begins with no blank
no_blank : (k : ℕ) (rest : List ℕ) → k < 2 ^ 64 → is_blank (next_of (decimal k ++ rest)) ≡ false
no_blank k rest small = by (decimal k) refl
  where
    by : (ds : List ℕ) → decimal k ≡ ds → is_blank (next_of (ds ++ rest)) ≡ false
    by [] is = absurd (let some = (decimal_is_IsNumeral k small).0.0 in let none = ap (λ (x : List ℕ). length x) is in omega (arith, some, none))
    by (c ∷ w) is = (digit_is c (is_digit c (subst (AllDigits 10) is (decimal_is_IsNumeral k small).0.1).0)).front.no_blank

-- and ends before a comma or the end
ends_before : (ks rest : List ℕ) → ends_number (next_of rest) ≡ true → ends_number (next_of (joined (more_pieces ks) rest)) ≡ true
ends_before [] rest e = e
ends_before (k ∷ ks) rest e = refl

number_fits : (k d line column : ℕ) → k < 2 ^ 64 → ends_number d ≡ true → fits (inside line column) (number k) d ≡ true
number_fits k d line column small e = ap₂ ◌&&◌ test e
  where
    test : nat_lt k (2 ^ 64) ≡ true
    test = grind (arith, nat_tests, small)

module _ (source : List ℕ) (line : ℕ) where
  more_read : (ks : List ℕ) (ts : List Token) (bs : List Place) (o column : ℕ) (rest : List ℕ) → AllSmall ks → length bs ≡ 2 → drop o source ≡ joined (more_pieces ks) rest
      → ends_number (next_of rest) ≡ true → IsListed source ts bs o line column (joined (more_pieces ks) rest) (more_items_text (more_numbers line (column + 2) ks)) rest
  more_read [] ts bs o column rest all depth here e = record { end = column; read = stays source ts bs o (inside line column) rest depth here }
  more_read (k ∷ ks) ts bs o column rest all depth here e =
      let behind_number = joined (more_pieces ks) rest in
      let a = piece_read source ts bs o (inside line column) (sign 44) (32 ∷ (decimal k ++ behind_number)) depth here refl in
      let b = piece_read source a.tokens a.brackets a.offset (inside line (column + 1)) blank (decimal k ++ behind_number) a.depth a.here (ap not (no_blank k behind_number all.0)) in
      let c = piece_read source b.tokens b.brackets b.offset (inside line (column + 1 + 1)) (number k) behind_number b.depth b.here
      (number_fits k (next_of behind_number) line (column + 1 + 1) all.0 (ends_before ks rest e)) in
      let d = more_read ks c.tokens c.brackets c.offset (column + 1 + 1 + length (decimal k)) rest all.1 c.depth c.here e in
      let items : (at : ℕ) → List Terminal = λ at. plain comma ∷ plain (number_seen (frac_at (whole (pos k))) (place_at line at))
      ∷ more_items_text (more_numbers line (at + length (decimal k) + 2) ks) in
      let two : column + 1 + 1 ≡ column + 2 = omega arith in
      subst (λ (us : List Terminal). IsListed source ts bs o line column (joined (more_pieces (k ∷ ks)) rest) us rest) (ap items two) (record {
        end = d.end;
        read = onwards source ts bs o (inside line column) (inside line (column + 1)) (inside line d.end) (joined (more_pieces (k ∷ ks)) rest)
            (32 ∷ (decimal k ++ behind_number)) rest (plain comma ∷ [])
            (plain (number_seen (frac_at (whole (pos k))) (place_at line (column + 1 + 1))) ∷ more_items_text (more_numbers line (column + 1 + 1 + length (decimal k) + 2) ks)) a
            (onwards source a.tokens a.brackets a.offset (inside line (column + 1)) (inside line (column + 1 + 1)) (inside line d.end) (32 ∷ (decimal k ++ behind_number))
            (decimal k ++ behind_number) rest []
            (plain (number_seen (frac_at (whole (pos k))) (place_at line (column + 1 + 1))) ∷ more_items_text (more_numbers line (column + 1 + 1 + length (decimal k) + 2) ks)) b
            (onwards source b.tokens b.brackets b.offset (inside line (column + 1 + 1)) (inside line (column + 1 + 1 + length (decimal k))) (inside line d.end)
            (decimal k ++ behind_number) behind_number rest
            (plain (number_seen (frac_at (whole (pos k))) (place_at line (column + 1 + 1))) ∷ []) (more_items_text (more_numbers line (column + 1 + 1 + length (decimal k) + 2) ks)) c d.read));
      })

  pub list_read : (ks : List ℕ) (ts : List Token) (bs : List Place) (o : ℕ) (rest : List ℕ) → AllSmall ks → length bs ≡ 2 → drop o source ≡ joined (number_pieces ks) rest
      → ends_number (next_of rest) ≡ true → IsListed source ts bs o line 15 (joined (number_pieces ks) rest) (listed_terms line ks) rest
  list_read [] ts bs o rest all depth here e = record { end = 15; read = stays source ts bs o (inside line 15) rest depth here }
  list_read (k ∷ ks) ts bs o rest all depth here e =
      let behind_number = joined (more_pieces ks) rest in
      let a = piece_read source ts bs o (inside line 15) (number k) behind_number depth here (number_fits k (next_of behind_number) line 15 all.0 (ends_before ks rest e)) in
      let b = more_read ks a.tokens a.brackets a.offset (15 + length (decimal k)) rest all.1 a.depth a.here e in
      record {
        end = b.end;
        read = onwards source ts bs o (inside line 15) (inside line (15 + length (decimal k))) (inside line b.end) (decimal k ++ behind_number) behind_number rest
            (plain (number_seen (frac_at (whole (pos k))) (place_at line 15)) ∷ []) (more_items_text (more_numbers line (15 + length (decimal k) + 2) ks)) a b.read;
      }
