-- Which unknowns and rows the columns of a scaled program belong to.
use Rattle.std.proofs.Common.{◌≡◌, ◌≢◌, ℕ, zero, suc, ◌+◌, ◌<◌, ◌≤◌, Bool, true, false, List, [], ◌∷◌, ◌++◌, map, length, get_or, Some, refl, sym, ap, ◌∙◌, subst, arith}
use Rattle.std.specs.Prelude.{⊤, ◌||◌, slice_get}
use Rattle.std.specs.List.{All, Contains}
use Rattle.std.proofs.lemmas.Bool.{eq-eqb, or_right}
use Rattle.std.proofs.lemmas.List.{get_or_default}
use Rattle.std.proofs.lemmas.List.Elements.{All-cons, All-nil}
use Rattle.dcx_linear.specs.declared.row.UnknownKind.{UnknownKind}
use Rattle.dcx_linear.specs.declared.row.UnknownKind.TheVariants.{Free, Nonneg, Nonpos}
use Rattle.dcx_tab.specs.declared.rows.ColumnKind.{ColumnKind}
use Rattle.dcx_tab.specs.declared.rows.ColumnKind.TheVariants.{Unknown, Slack, Artificial}
use Rattle.dcx_tab.specs.Program.{kind_at}
use Rattle.dcx_lp_answer.specs.Right.{is_slack_of}
use Rattle.dcx_lp_answer.specs.Right.{is_inequality}
use Rattle.dcx_std.specs.declared.start.Start.{Start}
use Rattle.dcx_std.specs.Columns.{all_unknown_columns, has_slack, needs_artificial, slack_columns, artificial_columns, plain_columns_of, columns_of}
use Rattle.dcx_std.proofs.ColumnLaws.{All-both, marked_All, marked_in, marked_true, marked_get, contains_first, contains_second, slack_place}

-- ---- the unknowns of columns
abbrev IsBetween : ℕ → ℕ → ColumnKind → Type 0
IsBetween a n (Unknown u minus) = (a ≤ u) × (u < n)
IsBetween a n (Slack r) = ⊤
IsBetween a n (Artificial r) = ⊤

wider : (a n : ℕ) (k : ColumnKind) → IsBetween (suc a) n k → IsBetween a n k
wider a n (Unknown u minus) h = let l = h.0 in let m = h.1 in (omega (arith, l), omega (arith, m))
wider a n (Slack r) h = tt
wider a n (Artificial r) h = tt

All-wider : (a n : ℕ) (ks : List ColumnKind) → All (IsBetween (suc a) n) ks → All (IsBetween a n) ks
All-wider a n ks h k d l = wider a n (get_or ks k d) (h k d l)

unknowns_between : (a n : ℕ) (kinds : List UnknownKind) → a + length kinds ≤ n → All (IsBetween a n) (all_unknown_columns a kinds)
unknowns_between a n [] h = All-nil (IsBetween a n)
unknowns_between a n (Free ∷ kinds) h =
    let rest = All-wider a n (all_unknown_columns (suc a) kinds) (unknowns_between (suc a) n kinds (omega (arith, h))) in
    let here : IsBetween a n (Unknown a false) = (omega arith, omega (arith, h)) in
    let there : IsBetween a n (Unknown a true) = (omega arith, omega (arith, h)) in
    All-cons (IsBetween a n) (Unknown a false) (Unknown a true ∷ all_unknown_columns (suc a) kinds) here (All-cons (IsBetween a n) (Unknown a true) (all_unknown_columns (suc a) kinds) there rest)
unknowns_between a n (Nonneg ∷ kinds) h =
    let here : IsBetween a n (Unknown a false) = (omega arith, omega (arith, h)) in
    All-cons (IsBetween a n) (Unknown a false) (all_unknown_columns (suc a) kinds) here (All-wider a n (all_unknown_columns (suc a) kinds) (unknowns_between (suc a) n kinds (omega (arith, h))))
unknowns_between a n (Nonpos ∷ kinds) h =
    let here : IsBetween a n (Unknown a true) = (omega arith, omega (arith, h)) in
    All-cons (IsBetween a n) (Unknown a true) (all_unknown_columns (suc a) kinds) here (All-wider a n (all_unknown_columns (suc a) kinds) (unknowns_between (suc a) n kinds (omega (arith, h))))

-- a column of an unknown is one of its kind: a nonneg unknown has no minus column, a nonpos one no plus column
abbrev pub Allows : UnknownKind → Bool → Type 0
Allows Free minus = ⊤
Allows Nonneg true = ⊥
Allows Nonneg false = ⊤
Allows Nonpos true = ⊤
Allows Nonpos false = ⊥

later : (a n : ℕ) (kinds : List UnknownKind) (j u : ℕ) (minus : Bool) → suc a + length kinds ≤ n → j < length (all_unknown_columns (suc a) kinds)
    → kind_at (all_unknown_columns (suc a) kinds) j ≡ Unknown u minus → suc a ≤ u
later a n kinds j u minus h l e = (subst (IsBetween (suc a) n) e (unknowns_between (suc a) n kinds h j (Unknown 0 false) l)).0

allowed : (a : ℕ) (kinds : List UnknownKind) (j i : ℕ) (minus : Bool) (kind : UnknownKind) → j < length (all_unknown_columns a kinds)
    → kind_at (all_unknown_columns a kinds) j ≡ Unknown (a + i) minus → slice_get kinds i ≡ Some kind → Allows kind minus
allowed a [] j i minus kind l e s = cc
allowed a (Free ∷ kinds) j zero minus kind l e s = let d : Free ≡ kind = cc in subst (λ k. Allows k minus) d tt
allowed a (Free ∷ kinds) zero (suc i) minus kind l e s = let d : a ≡ a + suc i = cc in absurd (omega (arith, d))
allowed a (Free ∷ kinds) (suc zero) (suc i) minus kind l e s = let d : a ≡ a + suc i = cc in absurd (omega (arith, d))
allowed a (Free ∷ kinds) (suc (suc j)) (suc i) minus kind l e s = let d : a + suc i ≡ suc a + i = omega arith in
    allowed (suc a) kinds j i minus kind (omega (arith, l)) (e ∙ ap (λ u. Unknown u minus) d) s
allowed a (Nonneg ∷ kinds) zero zero minus kind l e s = let d : Nonneg ≡ kind = cc in let b : false ≡ minus = cc in subst (λ k. Allows k minus) d (subst (Allows Nonneg) b tt)
allowed a (Nonneg ∷ kinds) zero (suc i) minus kind l e s = let d : a ≡ a + suc i = cc in absurd (omega (arith, d))
allowed a (Nonneg ∷ kinds) (suc j) zero minus kind l e s = let b = later a (suc a + length kinds) kinds j (a + 0) minus (omega arith) (omega (arith, l)) e in absurd (omega (arith, b))
allowed a (Nonneg ∷ kinds) (suc j) (suc i) minus kind l e s = let d : a + suc i ≡ suc a + i = omega arith in allowed (suc a) kinds j i minus kind (omega (arith, l)) (e ∙ ap (λ u. Unknown u minus) d) s
allowed a (Nonpos ∷ kinds) zero zero minus kind l e s = let d : Nonpos ≡ kind = cc in let b : true ≡ minus = cc in subst (λ k. Allows k minus) d (subst (Allows Nonpos) b tt)
allowed a (Nonpos ∷ kinds) zero (suc i) minus kind l e s = let d : a ≡ a + suc i = cc in absurd (omega (arith, d))
allowed a (Nonpos ∷ kinds) (suc j) zero minus kind l e s = let b = later a (suc a + length kinds) kinds j (a + 0) minus (omega arith) (omega (arith, l)) e in absurd (omega (arith, b))
allowed a (Nonpos ∷ kinds) (suc j) (suc i) minus kind l e s = let d : a + suc i ≡ suc a + i = omega arith in allowed (suc a) kinds j i minus kind (omega (arith, l)) (e ∙ ap (λ u. Unknown u minus) d) s

-- a row that has a slack column is an inequality
inequality_of : (ks : List ColumnKind) (i j : ℕ) → j < length ks → kind_at ks j ≡ Slack i → is_inequality ks i ≡ true
inequality_of [] i j l e = absurd (omega (arith, l))
inequality_of (k ∷ ks) i zero l e = ap (λ c. is_slack_of i c || is_inequality ks i) e ∙ ap (λ b. b || is_inequality ks i) (eq-eqb i i refl)
inequality_of (k ∷ ks) i (suc j) l e = ap (λ b. is_slack_of i k || b) (inequality_of ks i j (omega (arith, l)) e) ∙ or_right (is_slack_of i k) true refl

module _ (kinds : List UnknownKind) (starts : List Start) where
  all_between : All (IsBetween 0 (length kinds)) (columns_of kinds starts)
  all_between =
      All-both (IsBetween 0 (length kinds)) (plain_columns_of kinds starts) (artificial_columns starts)
      (All-both (IsBetween 0 (length kinds)) (all_unknown_columns 0 kinds) (slack_columns starts) (unknowns_between 0 (length kinds) kinds (omega arith))
      (marked_All Slack (IsBetween 0 (length kinds)) (λ i. tt) 0 (map has_slack starts)))
      (marked_All Artificial (IsBetween 0 (length kinds)) (λ i. tt) 0 (map needs_artificial starts))

  -- each column of an unknown is that of one of these
  pub unknown_below : (j u : ℕ) (minus : Bool) → j < length (columns_of kinds starts) → kind_at (columns_of kinds starts) j ≡ Unknown u minus → u < length kinds
  unknown_below j u minus l e = (subst (IsBetween 0 (length kinds)) e (all_between j (Unknown 0 false) l)).1

  -- the columns of an unknown stand in front
  in_front : (ks ls : List ColumnKind) (j u : ℕ) (minus : Bool) → All (λ k. (v : ℕ) (b : Bool) → k ≢ Unknown v b) ls → j < length (ks ++ ls) → kind_at (ks ++ ls) j ≡ Unknown u minus
      → (j < length ks) × (kind_at ks j ≡ Unknown u minus)
  in_front [] ls j u minus h l e = absurd (h j (Unknown 0 false) l u minus e)
  in_front (k ∷ ks) ls zero u minus h l e = (omega arith, e)
  in_front (k ∷ ks) ls (suc j) u minus h l e = let r = in_front ks ls j u minus h (omega (arith, l)) e in let m = r.0 in (omega (arith, m), r.1)

  pub unknown_allowed : (j u : ℕ) (minus : Bool) (kind : UnknownKind) → j < length (columns_of kinds starts) → kind_at (columns_of kinds starts) j ≡ Unknown u minus → slice_get kinds u ≡ Some kind
      → Allows kind minus
  unknown_allowed j u minus kind l e s =
      let a = in_front (plain_columns_of kinds starts) (artificial_columns starts) j u minus
      (marked_All Artificial (λ k. (v : ℕ) (b : Bool) → k ≢ Unknown v b) (λ i v b d. cc) 0 (map needs_artificial starts)) l e in
      let b = in_front (all_unknown_columns 0 kinds) (slack_columns starts) j u minus (marked_All Slack (λ k. (v : ℕ) (b : Bool) → k ≢ Unknown v b) (λ i v b d. cc) 0 (map has_slack starts)) a.0 a.1 in
      let d : u ≡ 0 + u = omega arith in allowed 0 kinds j u minus kind b.0 (b.1 ∙ ap (λ v. Unknown v minus) d) s

  -- a row with a slack is an inequality
  pub slack_wanted : (j i : ℕ) (s : Start) → kind_at (columns_of kinds starts) j ≡ Slack i → slice_get starts i ≡ Some s → has_slack s ≡ true
  slack_wanted j i s e h =
      let p = slack_place kinds starts j i e in
      let d : i ≡ 0 + i = omega arith in
      sym (marked_get kinds starts has_slack starts i s h) ∙ marked_true Slack (λ n d. cc) (λ m n d. cc) 0 (map has_slack starts) p.0 i (p.2 ∙ ap Slack d)

  -- and an inequality has a slack
  pub slack_found : (i : ℕ) (s : Start) → slice_get starts i ≡ Some s → has_slack s ≡ true → (j : ℕ) × (j < length (columns_of kinds starts)) × (kind_at (columns_of kinds starts) j ≡ Slack i)
  slack_found i s e h =
      let d : 0 + i ≡ i = omega arith in
      let marked : Contains (slack_columns starts) (Slack i) =
      subst (λ k. Contains (slack_columns starts) (Slack k)) d (marked_in Slack 0 (map has_slack starts) i (marked_get kinds starts has_slack starts i s e ∙ h)) in
      let there : Contains (columns_of kinds starts) (Slack i) =
      contains_first (plain_columns_of kinds starts) (artificial_columns starts) (Slack i) (contains_second (all_unknown_columns 0 kinds) (slack_columns starts) (Slack i) marked) in
      (there.0, there.1, get_or_default (columns_of kinds starts) there.0 (Unknown 0 false) (Slack i) there.1 ∙ there.2)

  -- so the columns show which rows are inequalities
  pub is_inequality_there : (i : ℕ) (s : Start) → slice_get starts i ≡ Some s → has_slack s ≡ true → is_inequality (columns_of kinds starts) i ≡ true
  is_inequality_there i s e h = let p = slack_found i s e h in inequality_of (columns_of kinds starts) i p.0 p.1 p.2
