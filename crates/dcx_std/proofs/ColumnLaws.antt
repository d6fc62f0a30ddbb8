-- The columns of a scaled program: which stand where.
use Rattle.std.proofs.Common.{◌≡◌, ◌≢◌, ℕ, zero, suc, ◌+◌, ◌<◌, ◌≤◌, Bool, true, false, List, [], ◌∷◌, ◌++◌, map, length, get_or, Some, refl, sym, ap, ap₂, ◌∙◌, subst, arith}
use Rattle.std.specs.Prelude.{not, ◌||◌, nat_lt, if◌then◌else◌, sum_by, slice_get}
use Rattle.std.specs.List.{All, Contains}
use Rattle.std.proofs.lemmas.List.{length-map, length-append}
use Rattle.std.proofs.lemmas.List.Sums.{sum_by-cons}
use Rattle.std.proofs.lemmas.List.Elements.{All-head, All-tail, All-cons, All-nil}
use Rattle.std.proofs.lemmas.Bool.Decides.{nat_tests}
use Rattle.dcx_linear.specs.declared.row.RowKind.{RowKind}
use Rattle.dcx_linear.specs.declared.row.RowKind.TheVariants.{AtMost, Equal}
use Rattle.dcx_linear.specs.declared.row.UnknownKind.{UnknownKind}
use Rattle.dcx_linear.specs.declared.row.UnknownKind.TheVariants.{Free, Nonneg, Nonpos}
use Rattle.dcx_tab.specs.declared.rows.ColumnKind.{ColumnKind}
use Rattle.dcx_tab.specs.declared.rows.ColumnKind.TheVariants.{Unknown, Slack, Artificial}
use Rattle.dcx_tab.specs.Program.{kind_at, is_plain, plain_count}
use Rattle.dcx_lp_answer.specs.Multipliers.{is_at_most}
use Rattle.dcx_std.specs.declared.start.Start.{Start}
use Rattle.dcx_linear.specs.Size.{columns_for}
use Rattle.dcx_std.specs.Size.{slacks_for}
use Rattle.dcx_std.specs.Columns.{all_unknown_columns, has_slack, needs_artificial, marked_from, slack_columns, artificial_columns, plain_columns_of, columns_of, start_column}

-- ---- a list of two parts
abbrev none : ColumnKind
none = Unknown 0 false

-- what isn't in the first part is in the second
in_second : (xs ys : List ColumnKind) (w : ColumnKind) (j : ℕ) → ((i : ℕ) → kind_at xs i ≢ w) → kind_at (xs ++ ys) j ≡ w → (k : ℕ) × (j ≡ length xs + k) × (kind_at ys k ≡ w)
in_second [] ys w j h e = let d : j ≡ 0 + j = omega arith in (j, d, e)
in_second (x ∷ xs) ys w zero h e = absurd (h 0 e)
in_second (x ∷ xs) ys w (suc j) h e = let r = in_second xs ys w j (λ i. h (suc i)) e in (r.0, (let d = r.1 in omega (arith, d)), r.2)

-- what isn't in the second part is in the first
in_first : (xs ys : List ColumnKind) (w : ColumnKind) (j : ℕ) → ((i : ℕ) → kind_at ys i ≢ w) → kind_at (xs ++ ys) j ≡ w → kind_at xs j ≡ w
in_first [] ys w j h e = absurd (h j e)
in_first (x ∷ xs) ys w zero h e = e
in_first (x ∷ xs) ys w (suc j) h e = in_first xs ys w j h e

-- what all columns are not, no place has
nowhere : (xs : List ColumnKind) (w : ColumnKind) → none ≢ w → All (λ k. k ≢ w) xs → (i : ℕ) → kind_at xs i ≢ w
nowhere [] w d h i = d
nowhere (x ∷ xs) w d h zero = All-head (λ k. k ≢ w) x xs h
nowhere (x ∷ xs) w d h (suc i) = nowhere xs w d (All-tail (λ k. k ≢ w) x xs h) i

pub All-both : (P : ColumnKind → Type 0) (xs ys : List ColumnKind) → All P xs → All P ys → All P (xs ++ ys)
All-both P [] ys h k = k
All-both P (x ∷ xs) ys h k = All-cons P x (xs ++ ys) (All-head P x xs h) (All-both P xs ys (All-tail P x xs h) k)

-- a column of a part is one of the whole
pub contains_first : (xs ys : List ColumnKind) (w : ColumnKind) → Contains xs w → Contains (xs ++ ys) w
contains_first [] ys w h = absurd (let l = h.1 in omega (arith, l))
contains_first (x ∷ xs) ys w h = by h.0 h.1 h.2 (λ k l e. contains_first xs ys w (k, l, e))
  where
    by : (k : ℕ) → k < length (x ∷ xs) → get_or (x ∷ xs) k w ≡ w → ((i : ℕ) → i < length xs → get_or xs i w ≡ w → Contains (xs ++ ys) w) → Contains (x ∷ (xs ++ ys)) w
    by zero l e rest = (0, omega arith, e)
    by (suc k) l e rest = let r = rest k (omega (arith, l)) e in (suc r.0, (let m = r.1 in omega (arith, m)), r.2)

pub contains_second : (xs ys : List ColumnKind) (w : ColumnKind) → Contains ys w → Contains (xs ++ ys) w
contains_second [] ys w h = h
contains_second (x ∷ xs) ys w h = let r = contains_second xs ys w h in (suc r.0, (let m = r.1 in omega (arith, m)), r.2)

-- ---- the columns of unknowns
-- what holds of all columns of unknowns holds of these
pub unknowns_All : (P : ColumnKind → Type 0) → ((u : ℕ) (b : Bool) → P (Unknown u b)) → (u : ℕ) (kinds : List UnknownKind) → All P (all_unknown_columns u kinds)
unknowns_All P f u [] = All-nil P
unknowns_All P f u (Free ∷ kinds) =
    All-cons P (Unknown u false) (Unknown u true ∷ all_unknown_columns (suc u) kinds) (f u false)
    (All-cons P (Unknown u true) (all_unknown_columns (suc u) kinds) (f u true) (unknowns_All P f (suc u) kinds))
unknowns_All P f u (Nonneg ∷ kinds) = All-cons P (Unknown u false) (all_unknown_columns (suc u) kinds) (f u false) (unknowns_All P f (suc u) kinds)
unknowns_All P f u (Nonpos ∷ kinds) = All-cons P (Unknown u true) (all_unknown_columns (suc u) kinds) (f u true) (unknowns_All P f (suc u) kinds)

-- so many
pub unknowns_count : (u : ℕ) (kinds : List UnknownKind) → length (all_unknown_columns u kinds) ≡ sum_by columns_for kinds
unknowns_count u [] = refl
unknowns_count u (Free ∷ kinds) = omega (arith, unknowns_count (suc u) kinds, sum_by-cons columns_for Free kinds)
unknowns_count u (Nonneg ∷ kinds) = omega (arith, unknowns_count (suc u) kinds, sum_by-cons columns_for Nonneg kinds)
unknowns_count u (Nonpos ∷ kinds) = omega (arith, unknowns_count (suc u) kinds, sum_by-cons columns_for Nonpos kinds)

-- each unknown has a column
pub has_column : (u : ℕ) (kinds : List UnknownKind) (i : ℕ) → i < length kinds
    → (j : ℕ) × (b : Bool) × (j < length (all_unknown_columns u kinds)) × (kind_at (all_unknown_columns u kinds) j ≡ Unknown (u + i) b)
has_column u [] i h = absurd (omega arith)
has_column u (Free ∷ kinds) zero h = let e : u ≡ u + 0 = omega arith in (0, false, omega arith, ap (λ v. Unknown v false) e)
has_column u (Nonneg ∷ kinds) zero h = let e : u ≡ u + 0 = omega arith in (0, false, omega arith, ap (λ v. Unknown v false) e)
has_column u (Nonpos ∷ kinds) zero h = let e : u ≡ u + 0 = omega arith in (0, true, omega arith, ap (λ v. Unknown v true) e)
has_column u (Free ∷ kinds) (suc i) h =
    let r = has_column (suc u) kinds i (omega arith) in let e : suc u + i ≡ u + suc i = omega arith in (suc (suc r.0), r.1, (let l = r.2 in omega (arith, l)), r.3 ∙ ap (λ v. Unknown v r.1) e)
has_column u (Nonneg ∷ kinds) (suc i) h =
    let r = has_column (suc u) kinds i (omega arith) in let e : suc u + i ≡ u + suc i = omega arith in (suc r.0, r.1, (let l = r.2 in omega (arith, l)), r.3 ∙ ap (λ v. Unknown v r.1) e)
has_column u (Nonpos ∷ kinds) (suc i) h =
    let r = has_column (suc u) kinds i (omega arith) in let e : suc u + i ≡ u + suc i = omega arith in (suc r.0, r.1, (let l = r.2 in omega (arith, l)), r.3 ∙ ap (λ v. Unknown v r.1) e)

-- ---- the columns of marked rows
module _ (column : ℕ → ColumnKind) where
  -- what holds of all such columns holds of these
  pub marked_All : (P : ColumnKind → Type 0) → ((i : ℕ) → P (column i)) → (i : ℕ) (bs : List Bool) → All P (marked_from column i bs)
  marked_All P f i [] = All-nil P
  marked_All P f i (true ∷ bs) = All-cons P (column i) (marked_from column (suc i) bs) (f i) (marked_All P f (suc i) bs)
  marked_All P f i (false ∷ bs) = marked_All P f (suc i) bs

  -- a marked row has its column
  pub marked_in : (i : ℕ) (bs : List Bool) (k : ℕ) → get_or bs k false ≡ true → Contains (marked_from column i bs) (column (i + k))
  marked_in i [] k e = cc
  marked_in i (true ∷ bs) zero e = let d : i ≡ i + 0 = omega arith in (0, omega arith, ap column d)
  marked_in i (false ∷ bs) zero e = cc
  marked_in i (true ∷ bs) (suc k) e =
      let d : suc i + k ≡ i + suc k = omega arith in
      let r : Contains (marked_from column (suc i) bs) (column (i + suc k)) = subst (λ n. Contains (marked_from column (suc i) bs) (column n)) d (marked_in (suc i) bs k e) in
      (suc r.0, (let l = r.1 in omega (arith, l)), r.2)
  marked_in i (false ∷ bs) (suc k) e = let d : suc i + k ≡ i + suc k = omega arith in subst (λ n. Contains (marked_from column (suc i) bs) (column n)) d (marked_in (suc i) bs k e)

  module _ (other : (i : ℕ) → none ≢ column i) (injective : (i k : ℕ) → column i ≡ column k → i ≡ k) where
    -- a column of a row is that of one of these rows
    pub marked_bounds : (i : ℕ) (bs : List Bool) (j k : ℕ) → kind_at (marked_from column i bs) j ≡ column k → (i ≤ k) × (k < i + length bs)
    marked_bounds i [] j k e = absurd (other k e)
    marked_bounds i (true ∷ bs) zero k e = let d = injective i k e in (omega (arith, d), omega (arith, d))
    marked_bounds i (true ∷ bs) (suc j) k e = let r = marked_bounds (suc i) bs j k e in let a = r.0 in let b = r.1 in (omega (arith, a), omega (arith, b))
    marked_bounds i (false ∷ bs) j k e = let r = marked_bounds (suc i) bs j k e in let a = r.0 in let b = r.1 in (omega (arith, a), omega (arith, b))

    -- it stands at one place
    pub marked_once : (i : ℕ) (bs : List Bool) (j l k : ℕ) → kind_at (marked_from column i bs) j ≡ column k → kind_at (marked_from column i bs) l ≡ column k → j ≡ l
    marked_once i [] j l k e d = absurd (other k e)
    marked_once i (true ∷ bs) zero zero k e d = refl
    marked_once i (true ∷ bs) zero (suc l) k e d = let q = injective i k e in let a = (marked_bounds (suc i) bs l k d).0 in absurd (omega (arith, q, a))
    marked_once i (true ∷ bs) (suc j) zero k e d = let q = injective i k d in let a = (marked_bounds (suc i) bs j k e).0 in absurd (omega (arith, q, a))
    marked_once i (true ∷ bs) (suc j) (suc l) k e d = ap suc (marked_once (suc i) bs j l k e d)
    marked_once i (false ∷ bs) j l k e d = marked_once (suc i) bs j l k e d

    -- its row is marked
    pub marked_true : (i : ℕ) (bs : List Bool) (j m : ℕ) → kind_at (marked_from column i bs) j ≡ column (i + m) → get_or bs m false ≡ true
    marked_true i [] j m e = absurd (other (i + m) e)
    marked_true i (true ∷ bs) zero zero e = refl
    marked_true i (true ∷ bs) zero (suc m) e = let q = injective i (i + suc m) e in absurd (omega (arith, q))
    marked_true i (true ∷ bs) (suc j) zero e = let a = (marked_bounds (suc i) bs j (i + 0) e).0 in absurd (omega (arith, a))
    marked_true i (true ∷ bs) (suc j) (suc m) e = let d : i + suc m ≡ suc i + m = omega arith in marked_true (suc i) bs j m (e ∙ ap column d)
    marked_true i (false ∷ bs) j zero e = let a = (marked_bounds (suc i) bs j (i + 0) e).0 in absurd (omega (arith, a))
    marked_true i (false ∷ bs) j (suc m) e = let d : i + suc m ≡ suc i + m = omega arith in marked_true (suc i) bs j m (e ∙ ap column d)

-- so many slacks
pub slacks_count : (i : ℕ) (starts : List Start) → length (marked_from Slack i (map has_slack starts)) ≡ sum_by (λ s. slacks_for s.kind) starts
slacks_count i [] = refl
slacks_count i (s ∷ ss) = by s.kind (slacks_count (suc i) ss) ∙ sym (sum_by-cons (λ (r : Start). slacks_for r.kind) s ss)
  where
    by : (k : RowKind) → length (marked_from Slack (suc i) (map has_slack ss)) ≡ sum_by (λ (r : Start). slacks_for r.kind) ss
        → length (if is_at_most k then Slack i ∷ marked_from Slack (suc i) (map has_slack ss) else marked_from Slack (suc i) (map has_slack ss))
        ≡ slacks_for k + sum_by (λ (r : Start). slacks_for r.kind) ss
    by AtMost e = omega (arith, e)
    by Equal e = omega (arith, e)

-- ---- the plain columns come first
plain_first : (ps qs : List ColumnKind) → All (λ k. is_plain k ≡ true) ps → All (λ k. is_plain k ≡ false) qs → plain_count (ps ++ qs) ≡ length ps
plain_first [] [] h k = refl
plain_first [] (q ∷ qs) h k = let e : is_plain q ≡ false = All-head (λ c. is_plain c ≡ false) q qs k in rw e refl
plain_first (p ∷ ps) qs h k = let e : is_plain p ≡ true = All-head (λ c. is_plain c ≡ true) p ps h in rw e (ap suc (plain_first ps qs (All-tail (λ c. is_plain c ≡ true) p ps h) k))

below_next : (j n : ℕ) → nat_lt (suc j) (suc n) ≡ nat_lt j n
below_next j n = grind (arith, nat_tests)

below_none : (j : ℕ) → nat_lt j 0 ≡ false
below_none j = grind (arith, nat_tests)

below_some : (n : ℕ) → nat_lt 0 (suc n) ≡ true
below_some n = grind (arith, nat_tests)

plain_below : (ps qs : List ColumnKind) (j : ℕ) → All (λ k. is_plain k ≡ true) ps → All (λ k. is_plain k ≡ false) qs → j < length (ps ++ qs) → is_plain (kind_at (ps ++ qs) j) ≡ nat_lt j (length ps)
plain_below [] qs j h k l = k j none l ∙ sym (below_none j)
plain_below (p ∷ ps) qs zero h k l = All-head (λ c. is_plain c ≡ true) p ps h ∙ sym (below_some (length ps))
plain_below (p ∷ ps) qs (suc j) h k l = plain_below ps qs j (All-tail (λ c. is_plain c ≡ true) p ps h) k (omega (arith, l)) ∙ sym (below_next j (length ps))

module _ (kinds : List UnknownKind) (starts : List Start) where
  abbrev plain : List ColumnKind
  plain = plain_columns_of kinds starts

  abbrev artificial : List ColumnKind
  artificial = artificial_columns starts

  plain_are : All (λ k. is_plain k ≡ true) plain
  plain_are = All-both (λ k. is_plain k ≡ true) (all_unknown_columns 0 kinds) (slack_columns starts) (unknowns_All (λ k. is_plain k ≡ true) (λ u b. refl) 0 kinds)
      (marked_All Slack (λ k. is_plain k ≡ true) (λ i. refl) 0 (map has_slack starts))

  artificial_are : All (λ k. is_plain k ≡ false) artificial
  artificial_are = marked_All Artificial (λ k. is_plain k ≡ false) (λ i. refl) 0 (map needs_artificial starts)

  -- so many columns stand before the artificials
  pub plain_length : plain_count (columns_of kinds starts) ≡ length (plain_columns_of kinds starts)
  plain_length = plain_first plain artificial plain_are artificial_are

  -- the artificials come last
  pub ordered_columns : (j : ℕ) → j < length (columns_of kinds starts) → is_plain (kind_at (columns_of kinds starts) j) ≡ nat_lt j (plain_count (columns_of kinds starts))
  ordered_columns j l = plain_below plain artificial j plain_are artificial_are l ∙ sym (ap (nat_lt j) plain_length)

  -- ---- slacks
  pub slack_place : (j i : ℕ) → kind_at (columns_of kinds starts) j ≡ Slack i → (k : ℕ) × (j ≡ length (all_unknown_columns 0 kinds) + k) × (kind_at (slack_columns starts) k ≡ Slack i)
  slack_place j i e =
      in_second (all_unknown_columns 0 kinds) (slack_columns starts) (Slack i) j (nowhere (all_unknown_columns 0 kinds) (Slack i) (λ d. cc) (unknowns_All (λ k. k ≢ Slack i) (λ u b d. cc) 0 kinds))
      (in_first plain artificial (Slack i) j (nowhere artificial (Slack i) (λ d. cc) (marked_All Artificial (λ k. k ≢ Slack i) (λ n d. cc) 0 (map needs_artificial starts))) e)

  pub slack_bound : (j i : ℕ) → kind_at (columns_of kinds starts) j ≡ Slack i → i < length starts
  slack_bound j i e =
      let p = slack_place j i e in
      let b = (marked_bounds Slack (λ n d. cc) (λ m n d. cc) 0 (map has_slack starts) p.0 i p.2).1 in
      let c = length-map starts has_slack in omega (arith, b, c)

  pub slack_once : (j l i : ℕ) → kind_at (columns_of kinds starts) j ≡ Slack i → kind_at (columns_of kinds starts) l ≡ Slack i → j ≡ l
  slack_once j l i e d =
      let p = slack_place j i e in
      let q = slack_place l i d in
      p.1 ∙ ap (λ k. length (all_unknown_columns 0 kinds) + k) (marked_once Slack (λ n d. cc) (λ m n d. cc) 0 (map has_slack starts) p.0 q.0 i p.2 q.2) ∙ sym q.1

  -- ---- artificials
  artificial_place : (j i : ℕ) → kind_at (columns_of kinds starts) j ≡ Artificial i → (k : ℕ) × (j ≡ length plain + k) × (kind_at artificial k ≡ Artificial i)
  artificial_place j i e =
      in_second plain artificial (Artificial i) j
      (nowhere plain (Artificial i) (λ d. cc) (All-both (λ k. k ≢ Artificial i) (all_unknown_columns 0 kinds) (slack_columns starts) (unknowns_All (λ k. k ≢ Artificial i) (λ u b d. cc) 0 kinds)
      (marked_All Slack (λ k. k ≢ Artificial i) (λ n d. cc) 0 (map has_slack starts)))) e

  pub artificial_bound : (j i : ℕ) → kind_at (columns_of kinds starts) j ≡ Artificial i → i < length starts
  artificial_bound j i e =
      let p = artificial_place j i e in
      let b = (marked_bounds Artificial (λ n d. cc) (λ m n d. cc) 0 (map needs_artificial starts) p.0 i p.2).1 in
      let c = length-map starts needs_artificial in omega (arith, b, c)

  pub artificial_once : (j l i : ℕ) → kind_at (columns_of kinds starts) j ≡ Artificial i → kind_at (columns_of kinds starts) l ≡ Artificial i → j ≡ l
  artificial_once j l i e d =
      let p = artificial_place j i e in
      let q = artificial_place l i d in
      p.1 ∙ ap (λ k. length plain + k) (marked_once Artificial (λ n d. cc) (λ m n d. cc) 0 (map needs_artificial starts) p.0 q.0 i p.2 q.2) ∙ sym q.1

  -- ---- the first basic column of a row is there
  pub marked_get : (f : Start → Bool) (ss : List Start) (i : ℕ) (s : Start) → slice_get ss i ≡ Some s → get_or (map f ss) i false ≡ f s
  marked_get f [] i s e = cc
  marked_get f (t ∷ ss) zero s e = let d : t ≡ s = cc in ap f d
  marked_get f (t ∷ ss) (suc i) s e = marked_get f ss i s e

  -- a row with an artificial needs it
  pub artificial_needed : (j i : ℕ) (s : Start) → kind_at (columns_of kinds starts) j ≡ Artificial i → slice_get starts i ≡ Some s → needs_artificial s ≡ true
  artificial_needed j i s e h =
      let p = artificial_place j i e in
      let d : i ≡ 0 + i = omega arith in
      sym (marked_get needs_artificial starts i s h) ∙ marked_true Artificial (λ n d. cc) (λ m n d. cc) 0 (map needs_artificial starts) p.0 i (p.2 ∙ ap Artificial d)

  no_artificial : (n k : Bool) → (n || not k) ≡ false → k ≡ true
  no_artificial true k e = cc
  no_artificial false true e = refl
  no_artificial false false e = cc

  pub start_there : (i : ℕ) (s : Start) → slice_get starts i ≡ Some s → Contains (columns_of kinds starts) (start_column i s)
  start_there i s e = by (needs_artificial s) refl
    where
      from_zero : 0 + i ≡ i
      from_zero = omega arith

      by : (b : Bool) → needs_artificial s ≡ b → Contains (columns_of kinds starts) (if b then Artificial i else Slack i)
      by true n = contains_second plain artificial (Artificial i) (subst (λ k. Contains artificial (Artificial k)) from_zero
          (marked_in Artificial 0 (map needs_artificial starts) i (marked_get needs_artificial starts i s e ∙ n)))
      by false n =
          contains_first plain artificial (Slack i)
          (contains_second (all_unknown_columns 0 kinds) (slack_columns starts) (Slack i)
          (subst (λ k. Contains (slack_columns starts) (Slack k)) from_zero (marked_in Slack 0 (map has_slack starts) i (marked_get has_slack starts i s e ∙ no_artificial s.negated (has_slack s) n))))

  -- there are few columns
  artificials_count : (i : ℕ) (bs : List Bool) → length (marked_from Artificial i bs) ≤ length bs
  artificials_count i [] = omega arith
  artificials_count i (true ∷ bs) = omega (arith, artificials_count (suc i) bs)
  artificials_count i (false ∷ bs) = omega (arith, artificials_count (suc i) bs)

  pub columns_count : length (plain_columns_of kinds starts) ≡ sum_by columns_for kinds + sum_by (λ s. slacks_for s.kind) starts
  columns_count = length-append (all_unknown_columns 0 kinds) (slack_columns starts) ∙ ap₂ ◌+◌ (unknowns_count 0 kinds) (slacks_count 0 starts)

  pub few_columns : length (columns_of kinds starts) ≤ length (plain_columns_of kinds starts) + length starts
  few_columns = omega (arith, length-append plain artificial, artificials_count 0 (map needs_artificial starts), length-map starts needs_artificial)
