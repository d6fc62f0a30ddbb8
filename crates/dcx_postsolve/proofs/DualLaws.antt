-- What arrays of multipliers are, entry by entry, and that there is one list of them.
use Rattle.std.proofs.Common.{◌≡◌, ℕ, zero, suc, ◌+◌, ◌<◌, ◌≤◌, List, [], ◌∷◌, ◌++◌, length, map, take, drop, Some, None, Ok, Err, option_map, refl, sym, ap, ap₂, ◌∙◌, subst, inl, inr, ◌⊎◌, arith}
use Rattle.std.specs.Prelude.{Result, sum_by, slice_get}
use Rattle.std.proofs.lemmas.List.{length-map, length-take-le, length-drop}
use Rattle.std.proofs.lemmas.List.Sums.{sum_by-cons}
use Rattle.std.proofs.lemmas.Option.{none-some, same_Some, slice_get-map}
use Rattle.dcx_frac.specs.declared.fraction.Frac.{Frac}
use Rattle.dcx_math.specs.Rational.{ℚ}
use Rattle.dcx_math.proofs.Lists.{mapped}
use Rattle.dcx_frac.specs.declared.fraction.Passes.{Passes}
use Rattle.dcx_shape.specs.Shape.{sides_of}
use Rattle.dcx_shape.specs.Sides.{entries_of}
use Rattle.dcx_atom.specs.declared.array.Array.{Array}
use Rattle.dcx_atom.specs.Arrays.{number_at}
use Rattle.dcx_tree.specs.declared.constraint.Constraint.{Constraint}
use Rattle.dcx_lp_answer.specs.declared.answer.LpStatus.{LpStatus}
use Rattle.dcx_lp_answer.specs.declared.answer.RowNote.{RowNote}
use Rattle.dcx_lp_answer.specs.Multipliers.{multiplier_of, passing_from}
use Rattle.dcx_lp_answer.proofs.Formed.{formed_is_right}
use Rattle.dcx_unknowns.specs.Layout.{constraint_rows}
use Rattle.dcx_postsolve.specs.Duals.{row_kind, row_multipliers, all_multipliers, IsDual, AreDuals, first_row, IsRowMultiplier}
use Rattle.dcx_right.specs.Answers.{multipliers_in}
use Rattle.dcx_postsolve.specs.Laws.{DualsAreRight, AreOne}
use Rattle.dcx_postsolve.proofs.Fractions.{found}
use Rattle.dcx_postsolve.proofs.Lists.{in_front, behind, same_formed}
use Rattle.dcx_postsolve.proofs.DualSteps.{passing_behind, passing_front, rows_in}

-- ---- entry by entry
-- an entry of the first array
entry_of : (status : LpStatus) (c : Constraint) (notes : List RowNote) (x : Array) → IsDual status c notes x → (j : ℕ) (y : Frac) → slice_get x.entries j ≡ Some y
    → IsRowMultiplier status c.kind notes j (number_at x.entries j)
entry_of status c notes x is j y at =
    let f = multiplier_of status (row_kind c.kind) in
    let ok : Frac → Result Frac Passes = λ z. Ok z in
    let there : slice_get (map f (take (constraint_rows c) notes)) j ≡ Some (Ok y) = ap (λ l. slice_get l j) (sym is.numbers) ∙ slice_get-map ok x.entries j ∙ ap (option_map ok) at in
    let (note, stands, formed) = mapped f (take (constraint_rows c) notes) j (Ok y) there in
    record { note = note; noted = (in_front (constraint_rows c) notes j note stands).1; number = y; formed = formed; is = sym (found x.entries j y at) }

-- an element that is there
element : (xs : List Frac) (j : ℕ) → j < length xs → (y : Frac) × (slice_get xs j ≡ Some y)
element [] j l = absurd (omega arith)
element (x ∷ xs) zero l = (x, refl)
element (x ∷ xs) (suc j) l = element xs j (omega arith)

-- the rows of the rest stand behind those of the first
behind_first : (status : LpStatus) (c : Constraint) (n : ℕ) (notes : List RowNote) (row : ℕ) (m : ℚ) → IsRowMultiplier status c.kind (drop n notes) row m
    → IsRowMultiplier status c.kind notes (n + row) m
behind_first status c n notes row m h = record { note = h.note; noted = sym (behind n notes row) ∙ h.noted; number = h.number; formed = h.formed; is = h.is }

pub row_multiplier : (status : LpStatus) (cs : List Constraint) (notes : List RowNote) (ds : List Array) → AreDuals status cs notes ds → (k : ℕ) (c : Constraint) → slice_get cs k ≡ Some c → (j : ℕ)
    → j < constraint_rows c
    → IsRowMultiplier status c.kind notes (first_row cs k + j) (multipliers_in ds k j)
row_multiplier status [] notes ds are k c at j l = absurd (none-some c at)
row_multiplier status (b ∷ cs) notes [] are k c at j l = absurd are
row_multiplier status (b ∷ cs) notes (x ∷ ds) are zero c at j l =
    let same : b ≡ c = same_Some b c at in
    let is : IsDual status c notes x = subst (λ (d : Constraint). IsDual status d notes x) same are.0 in
    let count = rows_in status c notes x is in
    let within : j < length x.entries = omega (arith, l, count) in
    let z : j ≡ 0 + j = omega arith in
    subst (λ n. IsRowMultiplier status c.kind notes n (number_at x.entries j)) z (let (y, there) = element x.entries j within in entry_of status c notes x is j y there)
row_multiplier status (b ∷ cs) notes (x ∷ ds) are (suc k) c at j l =
    let z : constraint_rows b + (first_row cs k + j) ≡ first_row (b ∷ cs) (suc k) + j = omega (arith, sum_by-cons constraint_rows b (take k cs)) in
    subst (λ n. IsRowMultiplier status c.kind notes n (multipliers_in ds k j)) z
    (behind_first status c (constraint_rows b) notes (first_row cs k + j) (multipliers_in ds k j) (row_multiplier status cs (drop (constraint_rows b) notes) ds are.1 k c at j l))

-- where the rows are inequalities as the constraints say, it is the multiplier by which the answer is right
pub right_multiplier : DualsAreRight
right_multiplier kinds a cs d slacks are k c at j l =
    let h = row_multiplier a.status cs a.rows d are k c at j l in
    h.is ∙ formed_is_right kinds a (first_row cs k + j) h.note (row_kind c.kind) h.number h.noted (slacks k c at j l) h.formed

-- ---- one list
same_lists : (status : LpStatus) (cs : List Constraint) (notes : List RowNote) (d e : List Array) → AreDuals status cs notes d → AreDuals status cs notes e
    → map (λ x. x.entries) d ≡ map (λ x. x.entries) e
same_lists status [] notes [] [] h k = refl
same_lists status [] notes [] (y ∷ e) h k = absurd k
same_lists status [] notes (x ∷ d) e h k = absurd h
same_lists status (c ∷ cs) notes [] e h k = absurd h
same_lists status (c ∷ cs) notes (x ∷ d) [] h k = absurd k
same_lists status (c ∷ cs) notes (x ∷ d) (y ∷ e) h k =
    ap₂ ◌∷◌ (same_formed Passes x.entries y.entries (h.0.numbers ∙ sym k.0.numbers)) (same_lists status cs (drop (constraint_rows c) notes) d e h.1 k.1)

none_from : (status : LpStatus) (cs : List Constraint) (notes : List RowNote) (i : ℕ) (d : List Array) → AreDuals status cs notes d → passing_from i (all_multipliers status cs notes) ≡ None
none_from status [] notes i [] h = refl
none_from status [] notes i (x ∷ d) h = absurd h
none_from status (c ∷ cs) notes i [] h = absurd h
none_from status (c ∷ cs) notes i (x ∷ d) h =
    let rest = all_multipliers status cs (drop (constraint_rows c) notes) in
    ap (λ l. passing_from i (l ++ rest)) (sym h.0.numbers) ∙ passing_behind i x.entries rest ∙ none_from status cs (drop (constraint_rows c) notes) (i + length x.entries) d h.1

-- ---- there is one, or one passes first
abbrev Passing : List (Result Frac Passes) → ℕ → Type 0
Passing rs i = (row : ℕ) × (passes : Passes) × (passing_from i rs ≡ Some (row, passes))

abbrev Formed : List (Result Frac Passes) → Type 0
Formed rs = (xs : List Frac) × (map Ok xs ≡ rs)

formed_or_not : (rs : List (Result Frac Passes)) (i : ℕ) → Formed rs ⊎ Passing rs i
formed_or_not [] i = inl ([], refl)
formed_or_not (Err passes ∷ rs) i = inr (i, passes, refl)
formed_or_not (Ok x ∷ rs) i = elim (formed_or_not rs (suc i)) [ inl h ↦ inl (x ∷ h.0, ap (λ l. Ok x ∷ l) h.1) | inr p ↦ inr p ]

either_of : (status : LpStatus) (cs : List Constraint) (notes : List RowNote) (i : ℕ) → sum_by constraint_rows cs ≤ length notes
    → ((d : List Array) × AreDuals status cs notes d) ⊎ Passing (all_multipliers status cs notes) i
either_of status [] notes i h = inl ([], tt)
either_of status (c ∷ cs) notes i h = by (λ k. either_of status cs (drop n notes) k behind_rows) (formed_or_not here i)
  where
    n : ℕ
    n = constraint_rows c

    here : List (Result Frac Passes)
    here = row_multipliers status c notes

    rest : List (Result Frac Passes)
    rest = all_multipliers status cs (drop n notes)

    total : n + sum_by constraint_rows cs ≤ length notes
    total = omega (arith, sum_by-cons constraint_rows c cs, h)

    behind_rows : sum_by constraint_rows cs ≤ length (drop n notes)
    behind_rows = omega (arith, length-drop n notes, total)

    count : (f : Formed here) → length f.0 ≡ entries_of (sides_of c.shape)
    count f = let ok : Frac → Result Frac Passes = λ z. Ok z in sym (length-map f.0 ok) ∙ ap length f.1 ∙ length-map (take n notes) (multiplier_of status (row_kind c.kind))
        ∙ length-take-le n notes (omega (arith, total))

    array : Formed here → Array
    array f = record { shape = c.shape; entries = f.0; full = count f }

    by : ((k : ℕ) → ((d : List Array) × AreDuals status cs (drop n notes) d) ⊎ Passing rest k) → Formed here ⊎ Passing here i
        → ((d : List Array) × AreDuals status (c ∷ cs) notes d) ⊎ Passing (here ++ rest) i
    by others (inr p) = inr (p.0, p.1, passing_front i here rest (p.0, p.1) p.2)
    by others (inl h) = elim (others (i + length h.0)) [
      | inl r ↦ inl (array h ∷ r.0, (record { shape = refl; numbers = h.1 }, r.1))
      | inr p ↦ inr (p.0, p.1, ap (λ l. passing_from i (l ++ rest)) (sym h.1) ∙ passing_behind i h.0 rest ∙ p.2)
    ]

pub are_one : (status : LpStatus) (cs : List Constraint) (notes : List RowNote) → AreOne status cs notes
are_one status cs notes = record {
  same = same_lists status cs notes;
  none_passes = none_from status cs notes 0;
  either = either_of status cs notes 0;
}
