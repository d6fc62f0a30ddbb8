-- What the lists are that are filled while an end is read.
use Rattle.std.proofs.Common.{◌≡◌, ◌≢◌, ℕ, zero, suc, ◌+◌, ◌<◌, List, [], ◌∷◌, ◌++◌, length, set, get_or, map, take, ap₂, Bool, true}
use Rattle.std.proofs.Common.{false, not, nat_eq, arith, refl, sym, ap, ◌∙◌, subst, pos, Result, Ok, Err, IfOk}
use Rattle.std.proofs.lemmas.Bool.{and_parts, eqb-true}
use Rattle.std.proofs.lemmas.List.{get_or_at, get_or-map, map-append, take_more, length-map}
use borrow.Author.Count.{below_more}
use Rattle.dcx_math.proofs.Sums.{rat_at-get_or, rat_at-left}
use Rattle.dcx_math.specs.Rational.{ℚ, whole, neg_ℚ, ◌/ℚ◌}
use Rattle.dcx_math.specs.Sums.{rat_at}
use Rattle.dcx_frac.specs.declared.fraction.Frac.{Frac}
use Rattle.dcx_frac.specs.Frac.{value}
use Rattle.dcx_tab.specs.declared.rows.ColumnKind.{ColumnKind}
use Rattle.dcx_tab.specs.declared.rows.ColumnKind.TheVariants.{Unknown, Slack, Artificial}
use Rattle.dcx_tab.specs.declared.rows.IntRow.{IntRow}
use Rattle.dcx_tab.specs.declared.rows.CostRow.{CostRow}
use Rattle.dcx_tab.specs.Rows.{basic_at}
use Rattle.dcx_tab.specs.Table.{Table, entry_at}
use Rattle.dcx_tab.specs.Program.{IsProgram, kind_at, first_basic_of, first_basic_at, may_start}
use Rattle.dcx_tab.proofs.Programs.{has_row, map_at}
use Rattle.dcx_simplex.specs.Run.{right_at}
use Rattle.dcx_simplex.specs.Basis.{IsBasic}
use Rattle.dcx_lp_answer.specs.Notes.{numbers}
use Rattle.dcx_simplex.specs.Reading.{IsColumnNumber, IsColumnChange, IsOwnColumn}
use Rattle.dcx_lp_answer.specs.Right.{turned_if}
use Rattle.dcx_simplex.proofs.Fractions.{number-set_same, number-set_other}

-- one more zero
pub zeros_more : (xs : List Frac) (f : Frac) → value f ≡ whole (pos 0) → ((j : ℕ) → rat_at (numbers xs) j ≡ whole (pos 0)) → (j : ℕ) → rat_at (numbers (xs ++ f ∷ [])) j ≡ whole (pos 0)
zeros_more [] f e h zero = e
zeros_more [] f e h (suc j) = refl
zeros_more (x ∷ xs) f e h zero = h 0
zeros_more (x ∷ xs) f e h (suc j) = zeros_more xs f e (λ k. h (suc k)) j

module _ (t : Table) (xs : List Frac) where
  pub numbers_are : (right : ℕ) → right ≡ t.columns
      → ((i : ℕ) → i + 2 < length t.rows → rat_at (numbers xs) (basic_at t.basis i) ≡ turned_if false (whole (entry_at t i (right + 2)) /ℚ whole (entry_at t i (basic_at t.basis i))))
      → ((j : ℕ) → ¬ (IsBasic t j) → rat_at (numbers xs) j ≡ whole (pos 0)) → (j : ℕ) → IsColumnNumber t j (rat_at (numbers xs) j)
  numbers_are right e basic other j = record {
    basic = λ i h b. subst (λ k. rat_at (numbers xs) k ≡ whole (right_at t i) /ℚ whole (entry_at t i k)) b
        (subst (λ r. rat_at (numbers xs) (basic_at t.basis i) ≡ whole (entry_at t i (r + 2)) /ℚ whole (entry_at t i (basic_at t.basis i))) e (basic i h));
    other = λ n. other j n;
  }

  pub changes_are : (c : ℕ) (zeros : List Frac) (one : Frac) → c < length zeros → value one ≡ whole (pos 1) → ((j : ℕ) → rat_at (numbers zeros) j ≡ whole (pos 0)) → ¬ (IsBasic t c)
      → ((i : ℕ) → i + 2 < length t.rows → rat_at (numbers xs) (basic_at t.basis i) ≡ turned_if true (whole (entry_at t i c) /ℚ whole (entry_at t i (basic_at t.basis i))))
      → ((j : ℕ) → ¬ (IsBasic t j) → rat_at (numbers xs) j ≡ rat_at (numbers (set zeros c one)) j) → (j : ℕ) → IsColumnChange t c j (rat_at (numbers xs) j)
  changes_are c zeros one l e z n basic other j = record {
    own = λ same. ap (rat_at (numbers xs)) same ∙ other c n ∙ number-set_same zeros c one l ∙ e;
    basic = λ i h b. subst (λ k. rat_at (numbers xs) k ≡ neg_ℚ (whole (entry_at t i c) /ℚ whole (entry_at t i k))) b (basic i h);
    other = λ m a. other j m ∙ number-set_other zeros c one j a ∙ z j;
  }

-- ---- own columns
pub starts_by : (kinds : List ColumnKind) (i j : ℕ) (negated : Bool) (k : ColumnKind) → kind_at kinds j ≡ k → may_start i negated k ≡ true → ¬ (kind_at kinds j ≡ Slack i)
    → kind_at kinds j ≡ Artificial i
starts_by kinds i j negated (Unknown u n) e h none = cc
starts_by kinds i j negated (Slack r) e h none = absurd (none (e ∙ ap Slack (eqb-true r i (and_parts (nat_eq r i) (not negated) h).0)))
starts_by kinds i j negated (Artificial r) e h none = e ∙ ap Artificial (eqb-true r i h)

module _ (rows : List IntRow) (kinds : List ColumnKind) (objective phase : CostRow) (form : IsProgram rows kinds objective phase) where
  pub own_is : (own : List ℕ) → ((j i : ℕ) → kind_at kinds j ≡ Slack i → get_or own i 0 ≡ j) → ((i : ℕ) → ((j : ℕ) → kind_at kinds j ≢ Slack i) → get_or own i 0 ≡ first_basic_at rows i)
      → (i : ℕ) → i < length rows → IsOwnColumn kinds i (get_or own i 0)
  own_is own slack other i h =
      let s = has_row rows i h in
      let f = form.each_row i s.row s.is in
      let b : first_basic_at rows i ≡ first_basic_of s.row = map_at first_basic_of rows i s.row 0 s.is in
      record {
        kind = λ no.
            let none : (j : ℕ) → kind_at kinds j ≢ Slack i = λ j e. no (ap (kind_at kinds) (slack j i e) ∙ e) in
            let at = other i none ∙ b in
            ap (kind_at kinds) at ∙ starts_by kinds i (first_basic_of s.row) s.row.negated (kind_at kinds s.row.basic) refl f.starts (none (first_basic_of s.row));
        first = λ k e. ap (kind_at kinds) (slack k i e) ∙ e;
      }

-- ---- one more row
pub rat_at-last : (xs : List ℚ) (y : ℚ) (k : ℕ) → length xs ≡ k → rat_at (xs ++ y ∷ []) k ≡ y
rat_at-last xs y k h = sym (rat_at-get_or (xs ++ y ∷ []) k) ∙ get_or_at xs y [] (whole (pos 0)) k h

pub rat_at-more : (xs : List ℚ) (y : ℚ) (i : ℕ) (f : ℕ → ℚ) → length xs ≡ i → ((k : ℕ) → k < i → rat_at xs k ≡ f k) → y ≡ f i → (k : ℕ) → k < i + 1 → rat_at (xs ++ y ∷ []) k ≡ f k
rat_at-more xs y i f e h last = below_more (λ k. rat_at (xs ++ y ∷ []) k ≡ f k) i (λ k l. rat_at-left xs (y ∷ []) k (omega arith) ∙ h k l) (rat_at-last xs y i e ∙ last)

-- a list that is built along another
pub along_more : {A B C : Type 0} (f : A → C) (g : B → C) (xs : List A) (ys : List B) (x : A) (y : B) (i : ℕ) → i < length ys → y ≡ get_or ys i y → map f xs ≡ take i (map g ys) → f x ≡ g y
    → map f (xs ++ x ∷ []) ≡ take (i + 1) (map g ys)
along_more f g xs ys x y i h e m s =
    map-append f xs (x ∷ []) ∙ ap₂ (λ zs z. zs ++ z ∷ []) m (s ∙ ap g e ∙ sym (get_or-map g ys i y (g y) h)) ∙ sym (take_more (map g ys) i (g y) (omega (arith, length-map ys g)))

-- ---- results
pub if_ok_both : {A E : Type 0} (P Q : A → Type 0) (r : Result A E) → IfOk r P → IfOk r Q → IfOk r (λ a. P a × Q a)
if_ok_both P Q (Ok a) p q = (p, q)
if_ok_both P Q (Err e) p q = tt
