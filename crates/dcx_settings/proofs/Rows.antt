-- Reading a row of numbers, step by step.
use Rattle.std.proofs.Common.{◌≡◌, ℕ, ◌+◌, ◌<◌, ◌≤◌, List, [], ◌∷◌, ◌++◌, length, Option, Some, None, Result, Ok, Err, refl, sym, ap, ap₂, ◌∙◌, subst, arith}
use Rattle.std.specs.Prelude.{IfErr}
use Rattle.std.specs.Result.{IsErrAnd}
use Rattle.std.proofs.lemmas.Bool.{le-leb, lt-leb}
use Rattle.std.proofs.lemmas.List.{length-append, map-append, length-map}
use Rattle.dcx_frac.specs.declared.fraction.Frac.{Frac}
use Rattle.dcx_frac.specs.Frac.{value}
use Rattle.dcx_settings.specs.Terminal.{Terminal, comma}
use Rattle.dcx_settings.specs.Grammar.{Number, Item, Line, IsGoodNumber}
use Rattle.dcx_settings.specs.Machine.{at, start, in_row, Outer, no_matrix, rows_before, number, number_read, limit, when}
use Rattle.dcx_settings.specs.Meaning.{number_value, AreNumbers}
use Rattle.dcx_settings.specs.declared.stop.Stop.{Stop}
use Rattle.dcx_settings.specs.declared.stop.Stop.TheVariants.{Memory, At}
use Rattle.dcx_settings.specs.Steps.{further, read, read_by, StopsAt, IsNumberRead, number_from, most_numbers, HasWidth, IsRowBegun, RowStopsAt}
use Rattle.dcx_settings.proofs.Numbers.{read_part}
use Rattle.dcx_settings.proofs.Facts.{every_more}

limit_is : (o : Outer) (width : Option ℕ) → HasWidth o width → limit o ≡ most_numbers width
limit_is no_matrix None h = refl
limit_is no_matrix (Some w) h = absurd h
limit_is (rows_before []) None h = refl
limit_is (rows_before []) (Some w) h = absurd h
limit_is (rows_before (r ∷ rs)) None h = absurd h
limit_is (rows_before (r ∷ rs)) (Some w) h = h

-- what `?` hands on
pub err_from : {X : Type 0} (P : Stop → Type 0) (r : Result X Stop) (e : Stop) → IsErrAnd r (λ x. x ≡ e) → P e → IfErr r P
err_from P (Ok x) e h p = tt
err_from P (Err x) e h p = subst P (sym h) p

-- as many fractions as numbers
pub same_length : (xs : List Number) (fs : List Frac) → AreNumbers xs fs → length fs ≡ length xs
same_length xs fs h = sym (length-map fs value) ∙ ap length h ∙ length-map xs number_value

pub numbers_more : (xs : List Number) (x : Number) (fs : List Frac) (f : Frac) → AreNumbers xs fs → value f ≡ number_value x → AreNumbers (xs ++ x ∷ []) (fs ++ f ∷ [])
numbers_more xs x fs f h v = map-append value fs (f ∷ []) ∙ ap₂ (λ a b. a ++ b ∷ []) h v ∙ sym (map-append number_value xs (x ∷ []))

-- the first number
pub row_first : (width : Option ℕ) (us rest : List Terminal) (f : Frac) → 1 ≤ most_numbers width → IsNumberRead number_from us f rest → IsRowBegun width us (f ∷ []) rest
row_first width us rest f some h = record {
  before = [];
  last = h.number;
  good = (h.good, tt);
  numbers_are = ap (λ v. v ∷ []) h.value_is;
  few = some;
  reads = λ lines is n o w. h.reads lines is n (in_row o []);
}

module _ (width : Option ℕ) (us : List Terminal) (fs : List Frac) where
  count : (from : List Terminal) → (h : IsRowBegun width us fs from) → length fs ≡ length h.before + 1
  count from h = same_length _ fs h.numbers_are ∙ length-append h.before (h.last ∷ [])

  module _ (from rest : List Terminal) (e : from ≡ comma ∷ rest) (h : IsRowBegun width us fs from) where
    -- a comma goes on where there is room
    pub comma_goes : length fs < most_numbers width → (lines : List Line) (is : List Item) (n : List ℕ) (o : Outer) → HasWidth o width
        → read_by (number_from lines is n (in_row o [])) us ≡ read_by (number_from lines is n (in_row o (h.before ++ h.last ∷ []))) rest
    comma_goes room lines is n o w =
        let k : length (h.before ++ h.last ∷ []) + 1 ≤ limit o = let l = limit_is o width w in let c = count from h in let d = length-append h.before (h.last ∷ []) in omega (arith, room, l, c, d) in
        h.reads lines is n o w ∙ ap (read_by (number_read lines is n (in_row o h.before) h.last)) e
        ∙ ap (λ b. further (read rest) (when b (at lines (number is n (in_row o (h.before ++ h.last ∷ [])) start))) (comma ∷ rest)) (le-leb _ _ k)
        ∙ read_part lines is n (in_row o (h.before ++ h.last ∷ [])) start rest

    -- and stops where there is none
    pub comma_stops : most_numbers width ≤ length fs → (lines : List Line) (is : List Item) (n : List ℕ) (o : Outer) → HasWidth o width
        → read_by (number_from lines is n (in_row o [])) us ≡ Err from
    comma_stops full lines is n o w =
        let k : limit o < length (h.before ++ h.last ∷ []) + 1 = let l = limit_is o width w in let c = count from h in let d = length-append h.before (h.last ∷ []) in omega (arith, full, l, c, d) in
        h.reads lines is n o w ∙ ap (read_by (number_read lines is n (in_row o h.before) h.last)) e
        ∙ ap (λ b. further (read rest) (when b (at lines (number is n (in_row o (h.before ++ h.last ∷ [])) start))) (comma ∷ rest)) (lt-leb _ _ k) ∙ ap Err (sym e)

    -- one more number
    pub row_more : length fs < most_numbers width → (f : Frac) (behind : List Terminal) → IsNumberRead number_from rest f behind → IsRowBegun width us (fs ++ f ∷ []) behind
    row_more room f behind g = record {
      before = h.before ++ h.last ∷ [];
      last = g.number;
      good = every_more IsGoodNumber (h.before ++ h.last ∷ []) g.number h.good g.good;
      numbers_are = numbers_more (h.before ++ h.last ∷ []) g.number fs f h.numbers_are g.value_is;
      few = let c = count from h in let d = length-append h.before (h.last ∷ []) in omega (arith, room, c, d);
      reads = λ lines is n o w. comma_goes room lines is n o w ∙ g.reads lines is n (in_row o (h.before ++ h.last ∷ []));
    }

    -- no number behind the comma
    pub row_stops : length fs < most_numbers width → (text : List ℕ) (e : Stop) → StopsAt number_from text rest e → RowStopsAt width text us e
    row_stops room text Memory g = tt
    row_stops room text (At there) g = λ lines is n o w. comma_goes room lines is n o w ∙ g lines is n (in_row o (h.before ++ h.last ∷ []))
