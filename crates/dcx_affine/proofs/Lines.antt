-- Lines of arguments one after another.
use Rattle.std.proofs.Common.{◌≡◌, ℕ, zero, suc, ◌+◌, ◌<◌, ◌≤◌, List, [], ◌∷◌, ◌++◌, length, get_or, take, sum_by, refl, sym, ap, ◌∙◌, subst, arith, append_assoc, length-append}
use Rattle.std.proofs.lemmas.List.{map-append, length-map, length-take-le, append-nil, take_more}
use Rattle.std.proofs.lemmas.List.Elements.{All-nil, All-append, All-head, All-tail}
use Rattle.std.specs.List.{All}
use Rattle.std.proofs.lemmas.List.Sums.{sum_by-append, sum_by-cons}
use Rattle.dcx_shape.specs.declared.shape.Shape.{Shape}
use Rattle.dcx_shape.specs.declared.shape.Sides.{Sides}
use Rattle.dcx_shape.specs.declared.shape.Sides.TheVariants.{Scalar, Vector, Matrix}
use Rattle.dcx_shape.specs.Shape.{sides_of}
use Rattle.dcx_shape.specs.Sides.{HasFewEntries}
use Rattle.dcx_shape.proofs.Entries.{factor_pos}
use Rattle.dcx_atom.specs.Arrays.{sides_list, list_below}
use Rattle.dcx_atom.proofs.LinearSums.{All-list_below}
use Rattle.dcx_atom.proofs.BoundRows.{length-list_below}
use Rattle.dcx_affine.proofs.Products.{cols_few}
use Rattle.dcx_affine.specs.declared.slots.Slot.{Slot}
use Rattle.dcx_affine.specs.declared.slots.Line.{Line}
use Rattle.dcx_affine.specs.declared.slots.Line.TheVariants.{Row, Column}
use Rattle.dcx_affine.specs.Joined.{lines_of, lined_up, all_lines}

-- an array has a line of each kind
pub lines-some : (line : Line) (s : Sides) → HasFewEntries s → 0 < lines_of line s
lines-some Row Scalar few = omega arith
lines-some Row (Vector n) few = omega arith
lines-some Row (Matrix m n) few = (factor_pos 0 m n few.some).0
lines-some Column Scalar few = omega arith
lines-some Column (Vector n) few = few.some
lines-some Column (Matrix m n) few = (factor_pos 0 m n few.some).1

-- so there are at least as many lines as arguments
pub length-≤-all_lines : (line : Line) (args : List Shape) → length args ≤ all_lines line (sides_list args)
length-≤-all_lines line [] = omega arith
length-≤-all_lines line (a ∷ args) =
    let sum : all_lines line (sides_list (a ∷ args)) ≡ lines_of line (sides_of a) + all_lines line (sides_list args) = sum_by-cons (lines_of line) (sides_of a) (sides_list args) in
    omega (arith, sum, length-≤-all_lines line args, lines-some line (sides_of a) a.few)

-- the first so many arguments have no more lines than all
pub all_lines-take : (line : Line) (args : List Shape) (i : ℕ) → all_lines line (sides_list (take i args)) ≤ all_lines line (sides_list args)
all_lines-take line [] zero = omega arith
all_lines-take line [] (suc i) = omega arith
all_lines-take line (a ∷ args) zero = omega arith
all_lines-take line (a ∷ args) (suc i) =
    let sum : all_lines line (sides_list (a ∷ args)) ≡ lines_of line (sides_of a) + all_lines line (sides_list args) = sum_by-cons (lines_of line) (sides_of a) (sides_list args) in
    let first : all_lines line (sides_list (take (suc i) (a ∷ args))) ≡ lines_of line (sides_of a) + all_lines line (sides_list (take i args)) =
    sum_by-cons (lines_of line) (sides_of a) (sides_list (take i args)) in
    omega (arith, sum, first, all_lines-take line args i)

-- the lines of one more argument
lined_up-append : (line : Line) (k : ℕ) (xs : List Sides) (s : Sides)
    → lined_up line k (xs ++ s ∷ []) ≡ lined_up line k xs ++ list_below (lines_of line s) (λ e. record { argument = k + length xs; place = e })
lined_up-append line k [] s = let e : k + 0 ≡ k = omega arith in rw e (append-nil (list_below (lines_of line s) (λ e. record { argument = k; place = e })))
lined_up-append line k (x ∷ xs) s =
    let e : suc k + length xs ≡ k + length (x ∷ xs) = omega arith in
    ap (λ r. list_below (lines_of line x) (λ e. record { argument = k; place = e }) ++ r) (lined_up-append line (suc k) xs s)
    ∙ sym (append_assoc (list_below (lines_of line x) (λ e. record { argument = k; place = e })) (lined_up line (suc k) xs)
    (list_below (lines_of line s) (λ e. record { argument = suc k + length xs; place = e })))
    ∙ ap (λ i. (list_below (lines_of line x) (λ e. record { argument = k; place = e }) ++ lined_up line (suc k) xs) ++ list_below (lines_of line s) (λ e. record { argument = i; place = e })) e

-- the lines of one more argument of a list of shapes
pub lined_up-next : (line : Line) (args : List Shape) (i : ℕ) (a : Shape) → i < length args → a ≡ get_or args i a →
    lined_up line 0 (sides_list (take (i + 1) args)) ≡ lined_up line 0 (sides_list (take i args)) ++ list_below (lines_of line (sides_of a)) (λ e. record { argument = i; place = e })
lined_up-next line args i a h is =
    let count : 0 + length (sides_list (take i args)) ≡ i = omega (arith, length-map (take i args) sides_of, length-take-le i args (omega (arith, h))) in
    ap (λ xs. lined_up line 0 (sides_list xs)) (take_more args i a h ∙ ap (λ x. take i args ++ x ∷ []) (sym is))
    ∙ ap (lined_up line 0) (map-append sides_of (take i args) (a ∷ []))
    ∙ lined_up-append line 0 (sides_list (take i args)) (sides_of a)
    ∙ ap (λ k. lined_up line 0 (sides_list (take i args)) ++ list_below (lines_of line (sides_of a)) (λ e. record { argument = k; place = e })) count

-- how many lines there are then
pub all_lines-next : (line : Line) (args : List Shape) (i : ℕ) (a : Shape) → i < length args → a ≡ get_or args i a →
    all_lines line (sides_list (take (i + 1) args)) ≡ all_lines line (sides_list (take i args)) + lines_of line (sides_of a)
all_lines-next line args i a h is =
    ap (λ xs. all_lines line (sides_list xs)) (take_more args i a h ∙ ap (λ x. take i args ++ x ∷ []) (sym is))
    ∙ ap (sum_by (lines_of line)) (map-append sides_of (take i args) (a ∷ []))
    ∙ sum_by-append (lines_of line) (sides_list (take i args)) (sides_of a ∷ []) ∙ omega arith

-- ---- what a line of all is
pub length-lined_up : (line : Line) (i : ℕ) (args : List Sides) → length (lined_up line i args) ≡ all_lines line args
length-lined_up line i [] = refl
length-lined_up line i (s ∷ rest) =
    let this : ℕ → Slot = λ e. record { argument = i; place = e } in
    length-append (list_below (lines_of line s) this) (lined_up line (suc i) rest)
    ∙ omega (arith, length-list_below (lines_of line s) this, length-lined_up line (suc i) rest, sum_by-cons (lines_of line) s rest)

-- a line is of an argument that there is, and within 20,000
pub record IsLine (n : ℕ) (x : Slot) : Type 0 where
  pub argument : x.argument < n
  pub place : x.place ≤ 20000

lines-few : (line : Line) (s : Sides) → HasFewEntries s → lines_of line s ≤ 20000
lines-few Row Scalar few = omega arith
lines-few Row (Vector n) few = omega arith
lines-few Row (Matrix m zero) few = absurd (omega (arith, few.some))
lines-few Row (Matrix m (suc n)) few = omega (arith, few.most)
lines-few Column s few = cols_few s few

all_within : (line : Line) (i n : ℕ) (args : List Shape) → i + length args ≡ n → All (IsLine n) (lined_up line i (sides_list args))
all_within line i n [] e = All-nil (IsLine n)
all_within line i n (a ∷ args) e =
    All-append (IsLine n) (list_below (lines_of line (sides_of a)) (λ p. record { argument = i; place = p })) (lined_up line (suc i) (sides_list args))
    (All-list_below (IsLine n) (lines_of line (sides_of a)) (λ p. record { argument = i; place = p })
    (λ p b. record { argument = omega (arith, e); place = omega (arith, b, lines-few line (sides_of a) a.few) }))
    (all_within line (suc i) n args (omega (arith, e)))

at_place : (P : Slot → Type 0) (xs : List Slot) (c : ℕ) (d : Slot) → All P xs → c < length xs → P (get_or xs c d)
at_place P [] c d h b = absurd (omega arith)
at_place P (x ∷ xs) zero d h b = All-head P x xs h
at_place P (x ∷ xs) (suc c) d h b = at_place P xs c d (All-tail P x xs h) (omega (arith, b))

abbrev pub no_line : Slot
no_line = record { argument = 0; place = 0 }

-- the line at a place of the list
pub place_within : (line : Line) (args : List Shape) (xs : List Slot) (c : ℕ) → xs ≡ lined_up line 0 (sides_list args) → c < length xs → IsLine (length args) (get_or xs c no_line)
place_within line args xs c e b = at_place (IsLine (length args)) xs c no_line (subst (All (IsLine (length args))) (sym e) (all_within line 0 (length args) args (omega arith))) b
