-- All entries of all nodes in one list: a list of coefficients times the numbers of the entries.
use Rattle.std.proofs.Common.{◌≡◌, ℕ, zero, suc, ◌+◌, ◌-◌, ◌<◌, ◌≤◌, arith, Bool, true, false, nat_lt, if◌then◌else◌, List, [], ◌∷◌, ◌++◌, length, take, set, refl, sym, ap, ◌∙◌, pos, replicate}
use Rattle.std.proofs.lemmas.Bool.{false≢true, lt-ltb, le-ltb}
use Rattle.std.proofs.lemmas.List.Sums.{sum_by-cons}
use Rattle.dcx_math.specs.Rational.{ℚ, whole, ◌+ℚ◌, ◌*ℚ◌}
use Rattle.dcx_math.specs.Sums.{rat_sum_below}
use Rattle.dcx_math.proofs.Ring.{ring, reads}
use Rattle.dcx_math.proofs.Orders.{+ℚ_idl, +ℚ_idr, +ℚ_assoc}
use Rattle.dcx_math.proofs.Sums.{rat_sum_below-first, rat_sum_below-same}
use Rattle.dcx_frac.specs.declared.fraction.Frac.{Frac}
use Rattle.dcx_frac.specs.Frac.{value}
use Rattle.dcx_shape.specs.Sides.{entries_of}
use Rattle.dcx_atom.specs.Arrays.{number_at}
use Rattle.dcx_atom.proofs.FormedSums.{value-zero_frac}
use Rattle.dcx_arena.specs.Nodes.{sides_at, entries_in}
use Rattle.dcx_convex.specs.Nodes.{Numbers}
use Rattle.dcx_tree.specs.Nodes.{Node}
use Rattle.dcx_cert_collect.specs.Shares.{frac_in}
use Rattle.dcx_cert_collect.specs.Starts.{start_of}
use Rattle.dcx_cert_collect.specs.Laws.{table_times}
use Rattle.dcx_cert_collect.proofs.Starting.{start_next, start_all}
use Rattle.dcx_atom.specs.Formed.{zero_frac}

-- ---- numbers of a list
pub frac_value : (xs : List Frac) (p : ℕ) → value (frac_in xs p) ≡ number_at xs p
frac_value [] p = value-zero_frac
frac_value (x ∷ xs) zero = refl
frac_value (x ∷ xs) (suc p) = frac_value xs p

-- ---- a list times numbers
pub dot : List Frac → Numbers → ℚ
dot [] F = whole (pos 0)
dot (x ∷ xs) F = value x *ℚ F 0 +ℚ dot xs (λ p. F (suc p))

pub dot-nil : (F : Numbers) → dot [] F ≡ whole (pos 0)
unfolding dot
dot-nil F = refl

behind : (F : Numbers) (n : ℕ) → ◌≡◌ {A = Numbers} (λ p. F (suc n + p)) (λ p. F (suc (n + p)))
behind F n = λ k p. F (same p k)
  where
    same : (p : ℕ) → suc n + p ≡ suc (n + p)
    same p = omega arith

from_zero : (F : Numbers) → ◌≡◌ {A = Numbers} (λ p. F (0 + p)) F
from_zero F = λ k p. F (same p k)
  where
    same : (p : ℕ) → 0 + p ≡ p
    same p = omega arith

pub dot-append : (xs ys : List Frac) (F : Numbers) → dot (xs ++ ys) F ≡ dot xs F +ℚ dot ys (λ p. F (length xs + p))
unfolding dot
dot-append [] ys F = ap (dot ys) (sym (from_zero F)) ∙ sym (+ℚ_idl _)
dot-append (x ∷ xs) ys F =
    ap (λ r. value x *ℚ F 0 +ℚ r) (dot-append xs ys (λ p. F (suc p)) ∙ ap (λ G. dot xs (λ p. F (suc p)) +ℚ dot ys G) (sym (behind F (length xs)))) ∙ sym (+ℚ_assoc _ _ _)

-- one number of the list is another

swap_in : (x y f r : ℚ) → y *ℚ f +ℚ r +ℚ x *ℚ f ≡ x *ℚ f +ℚ r +ℚ y *ℚ f
swap_in x y f r = ring (x ∷ y ∷ f ∷ r ∷ []) (search reads depth 30) tt

keep_in : (h r s u v : ℚ) → r +ℚ u ≡ s +ℚ v → h +ℚ r +ℚ u ≡ h +ℚ s +ℚ v
keep_in h r s u v e = +ℚ_assoc h r u ∙ ap (λ q. h +ℚ q) e ∙ sym (+ℚ_assoc h s v)

pub dot-set : (xs : List Frac) (p : ℕ) (y : Frac) (F : Numbers) → p < length xs → dot (set xs p y) F +ℚ value (frac_in xs p) *ℚ F p ≡ dot xs F +ℚ value y *ℚ F p
unfolding dot
dot-set [] p y F b = absurd (omega arith)
dot-set (x ∷ xs) zero y F b = swap_in (value x) (value y) (F 0) (dot xs (λ q. F (suc q)))
dot-set (x ∷ xs) (suc p) y F b = keep_in (value x *ℚ F 0) _ _ _ _ (dot-set xs p y (λ q. F (suc q)) (omega arith))

-- it is the sum over its places
pub dot-sum : (xs : List Frac) (F : Numbers) → dot xs F ≡ rat_sum_below (length xs) (λ p. number_at xs p *ℚ F p)
unfolding dot
dot-sum [] F = refl
dot-sum (x ∷ xs) F = ap (λ r. value x *ℚ F 0 +ℚ r) (dot-sum xs (λ p. F (suc p))) ∙ sym (rat_sum_below-first (length xs) (λ p. number_at (x ∷ xs) p *ℚ F p))

-- ---- the numbers of all entries
pub flat : List Node → (ℕ → Numbers) → Numbers
flat [] f p = whole (pos 0)
flat (n ∷ nodes) f p = if nat_lt p (entries_of n.sides) then f 0 p else flat nodes (λ i. f (suc i)) (p - entries_of n.sides)

first_flat : (n : Node) (nodes : List Node) (f : ℕ → Numbers) (e : ℕ) → e < entries_of n.sides → flat (n ∷ nodes) f e ≡ f 0 e
unfolding flat
first_flat n nodes f e b = by (nat_lt e (entries_of n.sides)) (lt-ltb e _ b)
  where
    by : (t : Bool) → t ≡ true → (if t then f 0 e else flat nodes (λ i. f (suc i)) (e - entries_of n.sides)) ≡ f 0 e
    by true h = refl
    by false h = absurd (false≢true h)

later_flat : (n : Node) (nodes : List Node) (f : ℕ → Numbers) (p : ℕ) → flat (n ∷ nodes) f (entries_of n.sides + p) ≡ flat nodes (λ i. f (suc i)) p
unfolding flat
later_flat n nodes f p = by (nat_lt (entries_of n.sides + p) (entries_of n.sides)) (le-ltb _ (entries_of n.sides) (omega arith))
  where
    rest : entries_of n.sides + p - entries_of n.sides ≡ p
    rest = omega arith

    by : (t : Bool) → t ≡ false → (if t then f 0 (entries_of n.sides + p) else flat nodes (λ i. f (suc i)) (entries_of n.sides + p - entries_of n.sides)) ≡ flat nodes (λ i. f (suc i)) p
    by true h = absurd (false≢true (sym h))
    by false h = ap (flat nodes (λ i. f (suc i))) rest

-- entry e of node i stands at its place
pub flat-place : (nodes : List Node) (f : ℕ → Numbers) (i e : ℕ) → i < length nodes → e < entries_of (sides_at nodes i) → flat nodes f (start_of nodes i + e) ≡ f i e
flat-place [] f i e b c = absurd (omega arith)
flat-place (n ∷ nodes) f zero e b c = let same : 0 + e ≡ e = omega arith in ap (flat (n ∷ nodes) f) same ∙ first_flat n nodes f e c
flat-place (n ∷ nodes) f (suc i) e b c =
    let start = start_of nodes i in
    let same : start_of (n ∷ nodes) (suc i) + e ≡ entries_of n.sides + (start + e) = omega (arith, sum_by-cons (λ (m : Node). entries_of m.sides) n (take i nodes)) in
    ap (flat (n ∷ nodes) f) same ∙ later_flat n nodes f (start + e) ∙ flat-place nodes (λ k. f (suc k)) i e (omega arith) c

-- ---- the sum over all places is that over all nodes and their entries
split : (m n : ℕ) (g : Numbers) → rat_sum_below (m + n) g ≡ rat_sum_below m g +ℚ rat_sum_below n (λ e. g (m + e))
split m zero g = let e : m + 0 ≡ m = omega arith in ap (λ k. rat_sum_below k g) e ∙ sym (+ℚ_idr _)
split m (suc n) g =
    let e : m + suc n ≡ suc (m + n) = omega arith in
    ap (λ k. rat_sum_below k g) e ∙ ap (λ r. r +ℚ g (m + n)) (split m n g) ∙ +ℚ_assoc _ _ _

pub by_nodes : (nodes : List Node) (g : Numbers) (n : ℕ) → n ≤ length nodes
    → rat_sum_below (start_of nodes n) g ≡ rat_sum_below n (λ i. rat_sum_below (entries_of (sides_at nodes i)) (λ e. g (start_of nodes i + e)))
by_nodes nodes g zero b = refl
by_nodes nodes g (suc n) b =
    let h : n < length nodes = omega (arith, b) in
    let next : suc n ≡ n + 1 = omega arith in
    ap (λ k. rat_sum_below k g) (ap (start_of nodes) next ∙ start_next nodes n h) ∙ split (start_of nodes n) (entries_of (sides_at nodes n)) g
    ∙ ap (λ r. r +ℚ rat_sum_below (entries_of (sides_at nodes n)) (λ e. g (start_of nodes n + e))) (by_nodes nodes g n (omega (arith, b)))

-- ---- a list of all coefficients times the numbers of all nodes
zero_front : (x d : ℚ) → d ≡ whole (pos 0) → whole (pos 0) *ℚ x +ℚ d ≡ whole (pos 0)
zero_front x d e = ap (λ r. whole (pos 0) *ℚ x +ℚ r) e ∙ ring (x ∷ []) (search reads depth 30) tt

pub dot-zeros : (n : ℕ) (F : Numbers) → dot (replicate n zero_frac) F ≡ whole (pos 0)
unfolding dot
dot-zeros zero F = refl
dot-zeros (suc n) F = ap (λ v. v *ℚ F 0 +ℚ dot (replicate n zero_frac) (λ p. F (suc p))) value-zero_frac ∙ zero_front (F 0) _ (dot-zeros n (λ p. F (suc p)))

pub dot-table : (nodes : List Node) (f : ℕ → Numbers) (table : List Frac) → length table ≡ entries_in nodes → dot table (flat nodes f) ≡ table_times nodes table f
dot-table nodes f table count =
    dot-sum table (flat nodes f) ∙ ap (λ k. rat_sum_below k (λ p. number_at table p *ℚ flat nodes f p)) (count ∙ sym (start_all nodes))
    ∙ by_nodes nodes (λ p. number_at table p *ℚ flat nodes f p) (length nodes) (omega arith)
    ∙ rat_sum_below-same (length nodes) _ _ (λ i b. rat_sum_below-same (entries_of (sides_at nodes i)) _ _ (λ e c. ap (λ z. number_at table (start_of nodes i + e) *ℚ z) (flat-place nodes f i e b c)))
