-- The filter finds one thing: the same members, with the same numbers.
use Rattle.std.proofs.Common.{◌≡◌, ◌⊎◌, ℕ, zero, suc, ◌+◌, ◌<◌, ◌≤◌, arith, Bool, true, false, ◌||◌, IsTrue, List, [], ◌∷◌, length}
use Rattle.std.proofs.Common.{map, All, slice_index_or, inl, inr, refl, sym, ap, ◌∙◌, subst, add-zero, zero-add}
use Rattle.std.specs.Prelude.{nat_eq}
use Rattle.std.specs.List.{list_any, AllZip}
use Rattle.std.proofs.lemmas.Bool.{false≢true, eq-eqb, eqb-true, cases_lt}
use Rattle.std.proofs.lemmas.List.{length-map}
use Rattle.std.proofs.lemmas.List.Elements.{All-head, All-tail}
use Rattle.std.proofs.lemmas.Slice.Zip.{AllZip-long}
use Rattle.dcx_math.specs.Rising.{IsRising}
use Rattle.dcx_frac.specs.declared.fraction.Frac.{Frac}
use Rattle.dcx_atom.specs.declared.array.Array.{Array}
use Rattle.dcx_atom.specs.Arrays.{number_at}
use Rattle.dcx_point.specs.Pairs.{Pairs}
use Rattle.dcx_convex.specs.Nodes.{Setting}
use Rattle.dcx_tree.specs.declared.problem.Problem.{Problem}
use Rattle.dcx_tree.specs.Meaning.{point_of}
use Rattle.dcx_postsolve.specs.Duals.{AreDuals}
use Rattle.dcx_right.specs.Answers.{multipliers_in}
use Rattle.dcx_right.specs.ConstraintSets.{ConstraintSet, every_constraint, set_of}
use Rattle.dcx_right.specs.Filters.{HasShapeOf, IsFeasiblePoint, IsIrreducible, IsRightFor}
use Rattle.dcx_right.proofs.ConstraintSets.{one_filter_set}
use Rattle.dcx_postsolve.proofs.DualLaws.{are_one}
use Rattle.dcx_lp_answer.specs.declared.answer.LpStatus.TheVariants as status
use Rattle.dcx_lp_answer.specs.declared.answer.LpAnswer.{LpAnswer}
use Rattle.dcx_lp_solve.proofs.OneSolution.{answers_are_one}
use Rattle.dcx_graph.specs.Program.{Program}
use Rattle.dcx_graph.specs.Answers.{IsPointRead, IsSamePoint}
use Rattle.dcx_graph.proofs.OneReading.{same_point}
use Rattle.dcx_answer.specs.declared.filtered.Filtered.{Filtered}
use Rattle.dcx_answer.specs.declared.filtered.Filtered.TheVariants as filtered
use Rattle.dcx_iis.specs.Steps.{kept_from, kept_of, program_of_set, step_set, IsReadIn, IsReadAt}
use Rattle.dcx_iis.specs.Found.{IsPossible, AreFound, IsFound}
use Rattle.dcx_iis.specs.Laws.{IsSameFiltered, FoundIsOne}
use Rattle.dcx_iis.proofs.Kept.{one_if, map-one}
use Rattle.dcx_iis.proofs.Right.{found_is_right}

-- ---- members
-- a number below all others isn't among them
not_among : (m : ℕ) (ms : List ℕ) → All (λ u. m < u) ms → set_of ms m ≡ false
not_among m [] h = refl
not_among m (u ∷ ms) h = by (not_among m ms (All-tail (λ u. m < u) u ms h)) (nat_eq m u) refl
  where
    by : set_of ms m ≡ false → (b : Bool) → nat_eq m u ≡ b → (b || list_any (nat_eq m) ms) ≡ false
    by rest true e = let same : m ≡ u = eqb-true m u e in let below = All-head (λ u. m < u) u ms h in absurd (omega (arith, same, below))
    by rest false e = rest

-- a number among others that are all above a bound is above it
above : (n m : ℕ) (ms : List ℕ) → All (λ u. n < u) ms → set_of ms m ≡ true → n < m
above n m [] h t = absurd (false≢true t)
above n m (u ∷ ms) h t = by (above n m ms (All-tail (λ u. n < u) u ms h)) (nat_eq m u) refl t
  where
    by : (set_of ms m ≡ true → n < m) → (b : Bool) → nat_eq m u ≡ b → (b || list_any (nat_eq m) ms) ≡ true → n < m
    by rest true e t = let same : m ≡ u = eqb-true m u e in let below = All-head (λ u. n < u) u ms h in omega (arith, same, below)
    by rest false e t = rest t

-- it is the first, or above it
first_or_above : (n m : ℕ) (ns : List ℕ) → All (λ u. n < u) ns → set_of (n ∷ ns) m ≡ true → (m ≡ n) ⊎ (n < m)
first_or_above n m ns h t = by (nat_eq m n) refl t
  where
    by : (b : Bool) → nat_eq m n ≡ b → (b || list_any (nat_eq m) ns) ≡ true → (m ≡ n) ⊎ (n < m)
    by true e t = inl (eqb-true m n e)
    by false e t = inr (above n m ns h t)

itself : (m : ℕ) (ms : List ℕ) → set_of (m ∷ ms) m ≡ true
itself m ms = ap (λ (b : Bool). b || list_any (nat_eq m) ms) (eq-eqb m m refl)

same_first : (m n : ℕ) (ms ns : List ℕ) → All (λ u. m < u) ms → All (λ u. n < u) ns → ((k : ℕ) → set_of (m ∷ ms) k ≡ set_of (n ∷ ns) k) → m ≡ n
same_first m n ms ns h g same = by (first_or_above n m ns g (sym (same m) ∙ itself m ms)) (first_or_above m n ms h (same n ∙ itself n ns))
  where
    by : (m ≡ n) ⊎ (n < m) → (n ≡ m) ⊎ (m < n) → m ≡ n
    by (inl e) k = e
    by (inr a) (inl e) = sym e
    by (inr a) (inr b) = absurd (omega (arith, a, b))

behind_first : (m : ℕ) (ms ns : List ℕ) → All (λ u. m < u) ms → All (λ u. m < u) ns → ((k : ℕ) → set_of (m ∷ ms) k ≡ set_of (m ∷ ns) k) → (k : ℕ) → set_of ms k ≡ set_of ns k
behind_first m ms ns h g same k = by (nat_eq k m) refl (same k)
  where
    by : (b : Bool) → nat_eq k m ≡ b → (b || list_any (nat_eq k) ms) ≡ (b || list_any (nat_eq k) ns) → set_of ms k ≡ set_of ns k
    by true e t =
        let is : k ≡ m = eqb-true k m e in
        subst (λ i. set_of ms i ≡ set_of ns i) (sym is) (not_among m ms h ∙ sym (not_among m ns g))
    by false e t = t

same_members : (ms ns : List ℕ) → IsRising (λ k. k) ms → IsRising (λ k. k) ns → ((k : ℕ) → set_of ms k ≡ set_of ns k) → ms ≡ ns
same_members [] [] h g same = refl
same_members [] (n ∷ ns) h g same = absurd (false≢true (same n ∙ itself n ns))
same_members (m ∷ ms) [] h g same = absurd (false≢true (sym (same m) ∙ itself m ms))
same_members (m ∷ ms) (n ∷ ns) h g same =
    let first = same_first m n ms ns h.0 g.0 same in
    let rest = same_members ms ns h.1 g.1 (behind_first m ms ns h.0 (subst (λ i. All (λ u. i < u) ns) (sym first) g.0) (λ k. same k ∙ ap (λ i. set_of (i ∷ ns) k) (sym first))) in
    λ i. first i ∷ rest i

-- members are below a bound, so past it there is none
none_past : (n m : ℕ) (ms : List ℕ) → All (λ k. k < n) ms → n ≤ m → set_of ms m ≡ false
none_past n m [] h l = refl
none_past n m (u ∷ ms) h l = by (none_past n m ms (All-tail (λ k. k < n) u ms h) l) (nat_eq m u) refl
  where
    by : set_of ms m ≡ false → (b : Bool) → nat_eq m u ≡ b → (b || list_any (nat_eq m) ms) ≡ false
    by rest true e = let same : m ≡ u = eqb-true m u e in let below = All-head (λ k. k < n) u ms h in absurd (omega (arith, same, below, l))
    by rest false e = rest

-- ---- multipliers
map-kept : {A B : Type 0} (set : ConstraintSet) (f : A → B) (i : ℕ) (xs : List A) → map f (kept_from set i xs) ≡ kept_from set i (map f xs)
map-kept set f i [] = refl
map-kept set f i (x ∷ xs) = map-one f (set i) x (kept_from set (suc i) xs) ∙ ap (one_if (set i) (f x)) (map-kept set f (suc i) xs)

-- lists of one length whose items of a set are the same have them at the same places
kept_places : {A : Type 0} (set : ConstraintSet) (i : ℕ) (xs ys : List A) (d : A) → length xs ≡ length ys → kept_from set i xs ≡ kept_from set i ys → (k : ℕ) → IsTrue (set (i + k))
    → slice_index_or xs k d ≡ slice_index_or ys k d
kept_places set i [] [] d n e k t = refl
kept_places set i [] (y ∷ ys) d n e k t = absurd (omega (arith, n))
kept_places set i (x ∷ xs) [] d n e k t = absurd (omega (arith, n))
kept_places {A} set i (x ∷ xs) (y ∷ ys) d n e k t = by (λ e k t. kept_places set (suc i) xs ys d (let m : length xs ≡ length ys = omega (arith, n) in m) e k t) (set i) refl e k t
  where
    by : (kept_from set (suc i) xs ≡ kept_from set (suc i) ys → (k : ℕ) → IsTrue (set (suc i + k)) → slice_index_or xs k d ≡ slice_index_or ys k d) →
        (b : Bool) → set i ≡ b → one_if b x (kept_from set (suc i) xs) ≡ one_if b y (kept_from set (suc i) ys) → (k : ℕ) → IsTrue (set (i + k))
        → slice_index_or (x ∷ xs) k d ≡ slice_index_or (y ∷ ys) k d
    by rest true q e zero t = let first : x ≡ y = cc in first
    by rest true q e (suc k) t =
        let tail : kept_from set (suc i) xs ≡ kept_from set (suc i) ys = cc in
        let place : i + suc k ≡ suc i + k = omega arith in
        rest tail k (ap set (sym place) ∙ t)
    by rest false q e zero t = absurd (false≢true (sym q ∙ ap set (sym (add-zero i)) ∙ t))
    by rest false q e (suc k) t = let place : i + suc k ≡ suc i + k = omega arith in rest e k (ap set (sym place) ∙ t)

-- ---- points
module _ (p : Problem) (q : Program Frac) (limit : ℕ) (set : ConstraintSet) where
  one_read : (i : ℕ) (x y : Pairs) → IsReadIn p q limit set i x → IsReadIn p q limit set i y → IsSamePoint p x y
  one_read i x y h k =
      let same = answers_are_one limit (program_of_set p q (step_set set i)) h.solved k.solved h.is_solved k.is_solved in
      same_point p q.kinds h.solved.answer h.solved.answer.columns x y h.read (subst (λ (a : LpAnswer). IsPointRead p q.kinds a.columns y) (sym same.answer) k.read)

  all_read : (ms : List ℕ) (xs ys : List Pairs) → AllZip (IsReadAt p q limit set) ms xs → AllZip (IsReadAt p q limit set) ms ys → AllZip (IsSamePoint p) xs ys
  all_read [] [] [] h k = tt
  all_read [] [] (y ∷ ys) h k = absurd k
  all_read [] (x ∷ xs) ys h k = absurd h
  all_read (m ∷ ms) [] ys h k = absurd h
  all_read (m ∷ ms) (x ∷ xs) [] h k = absurd k
  all_read (m ∷ ms) (x ∷ xs) (y ∷ ys) h k = (one_read (suc m) x y h.0 k.0, all_read ms xs ys h.1 k.1)

-- ---- what is found
module _ (p : Problem) (s : Setting) (q : Program Frac) (limit : ℕ) where
  apart : (point : Pairs) (ms : List ℕ) (ds : List Array) (g : Frac) (xs : List Pairs) → IsFeasiblePoint p s point → IsIrreducible p s ms ds g xs → ⊥
  apart point ms ds g xs h k = k.filter.impossible (point_of p point) (record { domain = h.feasible.domain; keeps = λ i t c at j l. h.feasible.holds i c at j l })

  members_same : (ms ns : List ℕ) (ds es : List Array) (g h : Frac) (xs ys : List Pairs) → IsIrreducible p s ms ds g xs → IsIrreducible p s ns es h ys → ms ≡ ns
  members_same ms ns ds es g h xs ys a b = same_members ms ns a.rising b.rising (λ k. by k (cases_lt k (length p.constraints)))
    where
      by : (k : ℕ) → (k < length p.constraints) ⊎ (length p.constraints ≤ k) → set_of ms k ≡ set_of ns k
      by k (inl l) = one_filter_set p s (set_of ms) (set_of ns) a.filter b.filter k l
      by k (inr l) = none_past (length p.constraints) k ms a.within l ∙ sym (none_past (length p.constraints) k ns b.within l)

  module _ (ms : List ℕ) (ds es : List Array) (g h : Frac) (xs ys : List Pairs) (a : IsIrreducible p s ms ds g xs) (b : IsIrreducible p s ms es h ys)
      (f : AreFound p q limit ms ds g xs) (k : AreFound p q limit ms es h ys) where
    same_answer : f.answer ≡ k.answer
    same_answer =
        let (solved, step, none, same) = f.shown in
        let (other, beside, also, is) = k.shown in
        same ∙ (answers_are_one limit (program_of_set p q (set_of ms)) solved other step.is_solved beside.is_solved).answer ∙ sym is

    same_gap : g ≡ h
    same_gap = f.gap_is ∙ ap (λ (x : LpAnswer). x.number) same_answer ∙ sym k.gap_is

    abbrev entries : Array → List Frac
    entries x = x.entries

    same_kept : kept_of (set_of ms) (map entries ds) ≡ kept_of (set_of ms) (map entries es)
    same_kept =
        sym (map-kept (set_of ms) entries 0 ds)
        ∙ (are_one status.Infeasible (kept_of (set_of ms) p.constraints) f.answer.rows).same (kept_of (set_of ms) ds) (kept_of (set_of ms) es) f.formed
        (subst (λ (x : LpAnswer). AreDuals status.Infeasible (kept_of (set_of ms) p.constraints) x.rows (kept_of (set_of ms) es)) (sym same_answer) k.formed)
        ∙ map-kept (set_of ms) entries 0 es

    same_length : length (map entries ds) ≡ length (map entries es)
    same_length = length-map ds entries ∙ AllZip-long HasShapeOf p.constraints ds a.shaped ∙ sym (AllZip-long HasShapeOf p.constraints es b.shaped) ∙ sym (length-map es entries)

    same_multipliers : (i j : ℕ) → multipliers_in ds i j ≡ multipliers_in es i j
    same_multipliers i j = by (set_of ms i) refl
      where
        by : (c : Bool) → set_of ms i ≡ c → multipliers_in ds i j ≡ multipliers_in es i j
        by true e = ap (λ (x : List Frac). number_at x j) (kept_places (set_of ms) 0 (map entries ds) (map entries es) [] same_length same_kept i (ap (set_of ms) (zero-add i) ∙ e))
        by false e = a.outside i (λ t. false≢true (sym e ∙ t)) j ∙ sym (b.outside i (λ t. false≢true (sym e ∙ t)) j)

  read_first : (x : Pairs) → IsPossible p q limit x → IsReadIn p q limit every_constraint 0 x
  read_first x h = record { solved = h.solved; is_solved = h.is_step.is_solved; read = h.read }

  one_found : (a b : Filtered) → IsRightFor p s a → IsRightFor p s b → IsFound p q limit a → IsFound p q limit b → IsSameFiltered p a b
  one_found (filtered.Feasible x) (filtered.Feasible y) h g f k = one_read p q limit every_constraint 0 x y (read_first x f) (read_first y k)
  one_found (filtered.Feasible x) (filtered.Infeasible ms ds g xs) h r f k = apart x ms ds g xs h r
  one_found (filtered.Infeasible ms ds g xs) (filtered.Feasible y) h r f k = apart y ms ds g xs r h
  one_found (filtered.Infeasible ms ds g xs) (filtered.Infeasible ns es u ys) h r f k =
      let members = members_same ms ns ds es g u xs ys h r in
      let right : IsIrreducible p s ms es u ys = subst (λ (z : List ℕ). IsIrreducible p s z es u ys) (sym members) r in
      let found : AreFound p q limit ms es u ys = subst (λ (z : List ℕ). AreFound p q limit z es u ys) (sym members) k in
      (members, same_multipliers ms ds es g u xs ys h right f found, same_gap ms ds es g u xs ys h right f found, all_read p q limit (set_of ms) ms xs ys f.read found.read)

pub found_is_one : FoundIsOne
found_is_one p s q limit a b is f k = one_found p s q limit a b (found_is_right p s q limit a is f) (found_is_right p s q limit b is k) f k
