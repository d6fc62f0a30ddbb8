-- The value of each call: what is formed is exact, and is what the call's meaning says.
use Rattle.std.proofs.Common.{◌≡◌, ℕ, zero, suc, ◌<◌, arith, Bool, true, false, if◌then◌else◌, List, [], ◌∷◌, map, length, get_or, All, Option}
use Rattle.std.proofs.Common.{Some, None, IsSome, IfSome, option_map, refl, sym, ap, ap₂, ◌∙◌, subst, Result, Ok, Err, IsOk, IfOk, pos}
use Rattle.std.proofs.lemmas.List.Elements.{All-cons, All-nil}
use Rattle.dcx_math.specs.Rational.{ℚ, whole, ◌+ℚ◌, ◌*ℚ◌, ◌/ℚ◌, rat_eq}
use Rattle.dcx_math.specs.Sums.{rat_sum_by}
use Rattle.dcx_math.proofs.Lists.{map-get_or}
use Rattle.dcx_math.proofs.Orders.{+ℚ_idr}
use Rattle.dcx_frac.specs.declared.fraction.Frac.{Frac}
use Rattle.dcx_frac.specs.declared.fraction.Passes.{Passes}
use Rattle.dcx_frac.specs.Fits.{IsRepresentable}
use Rattle.dcx_frac.specs.Frac.{value}
use Rattle.dcx_frac.specs.Results.{quotient_of}
use Rattle.dcx_frac.proofs.Parts.{value_representable}
use Rattle.dcx_frac.proofs.Results.{quotient_of_is}
use Rattle.dcx_shape.specs.declared.shape.Sides.{Sides}
use Rattle.dcx_shape.specs.declared.shape.Shape.{Shape}
use Rattle.dcx_shape.specs.Shape.{sides_of}
use Rattle.dcx_shape.specs.Sides.{entries_of}
use Rattle.dcx_atom.specs.declared.array.Array.{Array}
use Rattle.dcx_atom.specs.declared.terms.Triple.{Triple}
use Rattle.dcx_atom.specs.declared.stops.ValueStop.{ValueStop}
use Rattle.dcx_atom.specs.declared.stops.ValueStop.TheVariants as stops
use Rattle.dcx_atom.specs.Arrays.{Entries, number_at, numbers_of, array_sides, sides_list, list_below}
use Rattle.dcx_atom.specs.Formed.{zero_frac, frac_at}
use Rattle.dcx_atom.specs.Linear.{LinearTerm, linear_term, terms_at, AreTermsOf}
use Rattle.dcx_atom.specs.Value as atom_value
use Rattle.dcx_affine.specs.declared.pairing.Pairing.{Pairing}
use Rattle.dcx_affine.specs.declared.pairing.Pairing.TheVariants.{Times, MatTimes, Over}
use Rattle.dcx_affine.specs.declared.pairing.Pair.{Pair}
use Rattle.dcx_affine.specs.Pairing.{paired_sides, pairs_at}
use Rattle.dcx_atom.proofs.Lists.{get_or-list_below}
use Rattle.dcx_point.specs.Pairs.{Pairs}
use Rattle.dcx_call.specs.declared.atoms.AtomCall.{AtomCall}
use Rattle.dcx_call.specs.declared.linears.LinearCall.{LinearCall}
use Rattle.dcx_call.specs.declared.call.Call.{Call}
use Rattle.dcx_call.specs.declared.call.Call.TheVariants as calls
use Rattle.dcx_call.specs.Atoms.{atom_meaning}
use Rattle.dcx_call.specs.Linears.{linear_meaning, linear_lawful}
use Rattle.dcx_call.specs.Calls.{sides_of_two, shape_of}
use Rattle.dcx_call.specs.Forming.{products_in_order, or_passes, divided, AreFormed, IsStop}
use Rattle.dcx_call.specs.Values.{term_sum, pair_sum, pairing_value, pairing_formed, value_at, formed_at, IsValue, IsValueStop}
use Rattle.dcx_call.proofs.Entries.{formed_entry, formed_before, formed_alike, stop_alike, some_fact}
use Rattle.dcx_call.proofs.Products.{AreRepresentable, products_exact}
use Rattle.dcx_atom.proofs.Fractions.{value-frac_at, number_fits}

-- ---- lists
sides_of_shapes : (args : List Array) → sides_list (map (λ x. x.shape) args) ≡ array_sides args
sides_of_shapes [] = refl
sides_of_shapes (x ∷ xs) = ap (λ rest. sides_of x.shape ∷ rest) (sides_of_shapes xs)

-- number j of a list is that of its fraction
number_get : (xs : List Frac) (j : ℕ) → j < length xs → number_at xs j ≡ value (get_or xs j zero_frac)
number_get [] j b = absurd (omega arith)
number_get (x ∷ xs) zero b = refl
number_get (x ∷ xs) (suc j) b = number_get xs j (omega arith)

-- ---- numbers of arrays are representable
entry_fits : (args : List Array) (i j : ℕ) → IsRepresentable (numbers_of args i j)
entry_fits args i j = number_fits (get_or (map (λ x. x.entries) args) i []) j

-- ---- what is formed is exact
pub formed_ok : (j : ℕ) (r : Result Frac Passes) (x : Frac) → or_passes j r ≡ Ok x → r ≡ Ok x
formed_ok j (Ok y) x e = cc
formed_ok j (Err passes) x e = cc

pub exactly : (r : Result Frac Passes) (z : ℚ) (x : Frac) → IfOk r (λ y. value y ≡ z) → r ≡ Ok x → value x ≡ z
exactly r z x h e = let k = subst (λ q. IfOk q (λ y. value y ≡ z)) e h in k

pub summed_exact : {A : Type 0} (f : A → ℚ × ℚ) (xs : List A) (j : ℕ) (x : Frac) → All AreRepresentable (map f xs) → or_passes j (products_in_order (map f xs)) ≡ Ok x →
    value x ≡ rat_sum_by (λ a. (f a).0 *ℚ (f a).1) xs
summed_exact {A = A} f xs j x fit e = exactly (products_in_order (map f xs)) _ x (products_exact (map f xs) fit) (formed_ok j (products_in_order (map f xs)) x e) ∙ over xs
  where
    over : (ys : List A) → rat_sum_by (λ g. g.0 *ℚ g.1) (map f ys) ≡ rat_sum_by (λ a. (f a).0 *ℚ (f a).1) ys
    over [] = refl
    over (y ∷ ys) = ap (λ z. (f y).0 *ℚ (f y).1 +ℚ z) (over ys)

terms_fit : (ts : List Triple) (a : Entries) → ((i j : ℕ) → IsRepresentable (a i j)) → All AreRepresentable (map (λ (t : LinearTerm). (t.coefficient, a t.argument t.entry)) (map linear_term ts))
terms_fit [] a h = All-nil AreRepresentable
terms_fit (t ∷ ts) a h = All-cons AreRepresentable (value t.coefficient, a t.argument t.entry) _ (value_representable t.coefficient, h t.argument t.entry) (terms_fit ts a h)

pub pairs_fit : (ps : List Pair) (x y : ℕ → ℚ) → ((j : ℕ) → IsRepresentable (x j)) → ((j : ℕ) → IsRepresentable (y j)) → All AreRepresentable (map (λ (p : Pair). (x p.left, y p.right)) ps)
pairs_fit [] x y h k = All-nil AreRepresentable
pairs_fit (p ∷ ps) x y h k = All-cons AreRepresentable (x p.left, y p.right) _ (h p.left, k p.right) (pairs_fit ps x y h k)

pub divided_exact : (j : ℕ) (x y : ℚ) (z : Frac) → IsRepresentable x → IsRepresentable y → divided j x y ≡ Ok z → value z ≡ x /ℚ y
divided_exact j x y z fx fy e = by (rat_eq y (whole (pos 0))) refl e
  where
    by : (t : Bool) → rat_eq y (whole (pos 0)) ≡ t → (if t then Err (stops.ZeroDivisor j) else or_passes j (quotient_of (frac_at x) (frac_at y))) ≡ Ok z → value z ≡ x /ℚ y
    by true d g = cc
    by false d g =
        exactly (quotient_of (frac_at x) (frac_at y)) (value (frac_at x) /ℚ value (frac_at y)) z (quotient_of_is (frac_at x) (frac_at y)).exact (formed_ok j (quotient_of (frac_at x) (frac_at y)) z g)
        ∙ ap₂ ◌/ℚ◌ (value-frac_at x fx) (value-frac_at y fy)

-- a product is the sum of its pairs, and a quotient the only pair's
pub pairing_exact : (p : Pairing) (l r : Sides) (x y : ℕ → ℚ) (j : ℕ) (z : Frac) → ((k : ℕ) → IsRepresentable (x k)) → ((k : ℕ) → IsRepresentable (y k)) →
    pairing_formed p (pairs_at p l r j) x y j ≡ Ok z → value z ≡ pairing_value p (pairs_at p l r j) x y
pairing_exact Times l r x y j z fx fy e = summed_exact (λ (p : Pair). (x p.left, y p.right)) (pairs_at Times l r j) j z (pairs_fit (pairs_at Times l r j) x y fx fy) e
pairing_exact MatTimes l r x y j z fx fy e = summed_exact (λ (p : Pair). (x p.left, y p.right)) (pairs_at MatTimes l r j) j z (pairs_fit (pairs_at MatTimes l r j) x y fx fy) e
pairing_exact Over l r x y j z fx fy e = divided_exact j (x j) (y j) z (fx j) (fy j) e ∙ sym (+ℚ_idr (x j /ℚ y j))

-- ---- values
made : (call : Call) (setting point : Pairs) (args : List Array) (v : Array) → shape_of call (array_sides args) ≡ Some (sides_of v.shape) →
    AreFormed (formed_at call setting point args) (entries_of (sides_of v.shape)) v.entries →
    ((j : ℕ) → j < entries_of (sides_of v.shape) → (x : Frac) → formed_at call setting point args j ≡ Ok x → value x ≡ value_at call setting point args j) →
    IsValue call setting point args v
made call setting point args v shape formed exact = record {
  shape = shape;
  numbers = λ j b. number_get v.entries j (omega (arith, v.full)) ∙ exact j b (get_or v.entries j zero_frac) (formed_entry (formed_at call setting point args) _ v.entries formed j b);
  forms = λ j b. formed_before (formed_at call setting point args) _ v.entries formed j b;
}

-- the terms of a linear call as they were listed
abbrev pub listed : LinearCall → List Array → List (List Triple) → ℕ → Result Frac ValueStop
listed l args terms j = term_sum (map linear_term (get_or terms j [])) (numbers_of args) j

linear_alike : (l : LinearCall) (setting point : Pairs) (args : List Array) (size : ℕ) (terms : List (List Triple))
    → map (map linear_term) terms ≡ list_below size ((linear_meaning l).terms (array_sides args)) →
    (j : ℕ) → j < size → listed l args terms j ≡ formed_at (calls.Linear l) setting point args j
linear_alike l setting point args size terms e j b =
    ap (λ ts. term_sum ts (numbers_of args) j)
    (map-get_or (map linear_term) refl terms j ∙ ap (λ ts. get_or ts j []) e ∙ get_or-list_below size ((linear_meaning l).terms (array_sides args)) j [] b)

linear_exact : (l : LinearCall) (setting point : Pairs) (args : List Array) (sides : Sides) (terms : List (List Triple)) → (linear_meaning l).shape (array_sides args) ≡ Some sides →
    map (map linear_term) terms ≡ list_below (entries_of sides) ((linear_meaning l).terms (array_sides args)) →
    (j : ℕ) → j < entries_of sides → (x : Frac) → formed_at (calls.Linear l) setting point args j ≡ Ok x → value x ≡ value_at (calls.Linear l) setting point args j
linear_exact l setting point args sides terms shape e j b x f =
    let own : map linear_term (get_or terms j []) ≡ (linear_meaning l).terms (array_sides args) j =
    map-get_or (map linear_term) refl terms j ∙ ap (λ ts. get_or ts j []) e ∙ get_or-list_below (entries_of sides) ((linear_meaning l).terms (array_sides args)) j [] b in
    summed_exact (λ (t : LinearTerm). (t.coefficient, numbers_of args t.argument t.entry)) (map linear_term (get_or terms j [])) j x
    (terms_fit (get_or terms j []) (numbers_of args) (entry_fits args)) (linear_alike l setting point args (entries_of sides) terms e j b ∙ f)
    ∙ ap (λ ts. terms_at ts (numbers_of args)) own
    ∙ sym ((linear_lawful l).linearity (array_sides args) sides shape j b (numbers_of args))

-- the value of a linear call, from its terms
pub linear_is : (l : LinearCall) (args : List Array) (v : Array) (terms : List (List Triple)) → (linear_meaning l).shape (array_sides args) ≡ Some (sides_of v.shape) →
    map (map linear_term) terms ≡ list_below (entries_of (sides_of v.shape)) ((linear_meaning l).terms (array_sides args)) →
    AreFormed (listed l args terms) (entries_of (sides_of v.shape)) v.entries → (setting point : Pairs) → IsValue (calls.Linear l) setting point args v
linear_is l args v terms shape e formed setting point =
    made (calls.Linear l) setting point args v shape
    (formed_alike (listed l args terms) (formed_at (calls.Linear l) setting point args) (entries_of (sides_of v.shape)) v.entries
    (linear_alike l setting point args (entries_of (sides_of v.shape)) terms e) formed)
    (linear_exact l setting point args (sides_of v.shape) terms shape e)

pub linear_stops : (l : LinearCall) (args : List Array) (size : ℕ) (terms : List (List Triple)) (stop : ValueStop) →
    map (map linear_term) terms ≡ list_below size ((linear_meaning l).terms (array_sides args)) →
    IsStop (listed l args terms) size stop → (setting point : Pairs) → IsValueStop (calls.Linear l) setting point args size stop
linear_stops l args size terms stop e h setting point =
    stop_alike (listed l args terms) (formed_at (calls.Linear l) setting point args) size stop (linear_alike l setting point args size terms e) h

-- ---- products and quotients
pub pairing_is : (p : Pairing) (args : List Array) (l r : Array) → IsSome (sides_of_two p (array_sides args)) → l ≡ get_or args 0 l → r ≡ get_or args 1 r →
    (v : Array) → paired_sides p (sides_of l.shape) (sides_of r.shape) ≡ Some (sides_of v.shape) →
    AreFormed (λ j. pairing_formed p (pairs_at p (sides_of l.shape) (sides_of r.shape) j) (number_at l.entries) (number_at r.entries) j) (entries_of (sides_of v.shape)) v.entries →
    (setting point : Pairs) → IsValue (calls.Pairing p) setting point args v
pairing_is p [] l r some el er v shape formed setting point = cc
pairing_is p (a ∷ []) l r some el er v shape formed setting point = cc
pairing_is p (a ∷ b ∷ []) l r some el er v shape formed setting point =
    made (calls.Pairing p) setting point (a ∷ b ∷ []) v
    (ap₂ (λ (x y : Array). paired_sides p (sides_of x.shape) (sides_of y.shape)) (sym el) (sym er) ∙ shape)
    (subst (λ (x : Array). AreFormed (λ j. pairing_formed p (pairs_at p (sides_of x.shape) (sides_of b.shape) j) (number_at x.entries) (number_at b.entries) j)
    (entries_of (sides_of v.shape)) v.entries) el
    (subst (λ (y : Array). AreFormed (λ j. pairing_formed p (pairs_at p (sides_of l.shape) (sides_of y.shape) j) (number_at l.entries) (number_at y.entries) j)
    (entries_of (sides_of v.shape)) v.entries) er formed))
    (λ j below x e. pairing_exact p (sides_of a.shape) (sides_of b.shape) (number_at a.entries) (number_at b.entries) j x (number_fits a.entries) (number_fits b.entries) e)
pairing_is p (a ∷ b ∷ c ∷ rest) l r some el er v shape formed setting point = cc

pub pairing_stops : (p : Pairing) (args : List Array) (l r : Array) → IsSome (sides_of_two p (array_sides args)) → l ≡ get_or args 0 l → r ≡ get_or args 1 r →
    (size : ℕ) (stop : ValueStop) →
    IsStop (λ j. pairing_formed p (pairs_at p (sides_of l.shape) (sides_of r.shape) j) (number_at l.entries) (number_at r.entries) j) size stop →
    (setting point : Pairs) → IsValueStop (calls.Pairing p) setting point args size stop
pairing_stops p [] l r some el er size stop h setting point = cc
pairing_stops p (a ∷ []) l r some el er size stop h setting point = cc
pairing_stops p (a ∷ b ∷ []) l r some el er size stop h setting point =
    subst (λ (x : Array). IsStop (λ j. pairing_formed p (pairs_at p (sides_of x.shape) (sides_of b.shape) j) (number_at x.entries) (number_at b.entries) j) size stop) el
    (subst (λ (y : Array). IsStop (λ j. pairing_formed p (pairs_at p (sides_of l.shape) (sides_of y.shape) j) (number_at l.entries) (number_at y.entries) j) size stop) er h)
pairing_stops p (a ∷ b ∷ c ∷ rest) l r some el er size stop h setting point = cc

-- the sides of the two arguments
pub two_sides : (p : Pairing) (args : List Array) (l r : Array) → IsSome (sides_of_two p (array_sides args)) → l ≡ get_or args 0 l → r ≡ get_or args 1 r →
    sides_of_two p (array_sides args) ≡ paired_sides p (sides_of l.shape) (sides_of r.shape)
two_sides p [] l r some el er = cc
two_sides p (a ∷ []) l r some el er = cc
two_sides p (a ∷ b ∷ []) l r some el er = ap₂ (λ (x y : Array). paired_sides p (sides_of x.shape) (sides_of y.shape)) (sym el) (sym er)
two_sides p (a ∷ b ∷ c ∷ rest) l r some el er = cc

-- ---- what the code finds
-- the shape of a linear call, from the shapes of the arguments
pub shape_found : (l : LinearCall) (args : List Array) (shapes ds : List Shape) (o : Option Shape) (s : Shape) → shapes ≡ map (λ x. x.shape) args → ds ≡ shapes →
    option_map sides_of o ≡ (linear_meaning l).shape (sides_list ds) → o ≡ Some s → (linear_meaning l).shape (array_sides args) ≡ Some (sides_of s)
shape_found l args shapes ds o s e d h k = ap (linear_meaning l).shape (sym (ap sides_list (d ∙ e) ∙ sides_of_shapes args)) ∙ sym h ∙ ap (option_map sides_of) k

-- there is one
pub shape_there : (l : LinearCall) (args : List Array) (shapes ds : List Shape) (o : Option Shape) → shapes ≡ map (λ x. x.shape) args → ds ≡ shapes →
    option_map sides_of o ≡ (linear_meaning l).shape (sides_list ds) → IsSome ((linear_meaning l).shape (array_sides args)) → IsSome o
shape_there l args shapes ds o e d h some = by o (subst IsSome (ap (linear_meaning l).shape (sym (ap sides_list (d ∙ e) ∙ sides_of_shapes args)) ∙ sym h) some)
  where
    by : (p : Option Shape) → IsSome (option_map sides_of p) → IsSome p
    by None k = k
    by (Some x) k = refl

-- its terms
pub terms_found : (l : LinearCall) (args : List Array) (shapes ds : List Shape) (s : Shape) (terms : List (List Triple)) → shapes ≡ map (λ x. x.shape) args → ds ≡ shapes →
    (linear_meaning l).shape (array_sides args) ≡ Some (sides_of s) →
    IfSome ((linear_meaning l).shape (sides_list ds)) (λ x. AreTermsOf (linear_meaning l) (sides_list ds) (entries_of x) terms) →
    map (map linear_term) terms ≡ list_below (entries_of (sides_of s)) ((linear_meaning l).terms (array_sides args))
terms_found l args shapes ds s terms e d k h =
    some_fact (λ x. AreTermsOf (linear_meaning l) (array_sides args) (entries_of x) terms) ((linear_meaning l).shape (array_sides args)) (sides_of s) k
    (subst (λ a. IfSome ((linear_meaning l).shape a) (λ x. AreTermsOf (linear_meaning l) a (entries_of x) terms)) (ap sides_list (d ∙ e) ∙ sides_of_shapes args) h)

-- the pairs of so many entries
pub pairs_found : (o : Option Sides) (size : ℕ) (ps : List (List Pair)) (f : ℕ → List Pair) → IsSome o → IfSome o (λ s. size ≡ entries_of s) →
    IfSome o (λ s. ps ≡ list_below (entries_of s) f) → ps ≡ list_below size f
pairs_found None size ps f some h k = cc
pairs_found (Some s) size ps f some h k = k ∙ ap (λ n. list_below n f) (sym h)

pub pairs_alike : (qs ps : List (List Pair)) (xs ys ls rs : List Frac) (f : ℕ → List Pair) (size : ℕ) → qs ≡ ps → ps ≡ list_below size f → xs ≡ ls → ys ≡ rs →
    (j : ℕ) → j < size → pair_sum (get_or qs j []) (number_at xs) (number_at ys) j ≡ pair_sum (f j) (number_at ls) (number_at rs) j
pairs_alike qs ps xs ys ls rs f size d e hx hy j b =
    ap (λ qs. pair_sum (get_or qs j []) (number_at xs) (number_at ys) j) (d ∙ e)
    ∙ ap (λ q. pair_sum q (number_at xs) (number_at ys) j) (get_or-list_below size f j [] b)
    ∙ ap₂ (λ x y. pair_sum (f j) (number_at x) (number_at y) j) hx hy

-- ---- nonlinear calls
or_ok : (j : ℕ) (r : Result Frac Passes) → IsOk r → IsOk (or_passes j r)
or_ok j (Ok x) h = refl
or_ok j (Err passes) h = cc

pub atom_stops : (a : AtomCall) (args : List Array) (size : ℕ) (stop : ValueStop) → atom_value.IsValueStop (atom_meaning a) args size stop → (setting point : Pairs) →
    IsValueStop (calls.Atom a) setting point args size stop
atom_stops a args size (stops.Passes entry passes) h setting point = record {
  entry = entry;
  within = h.0;
  before = λ j b. or_ok j (atom_value.entry_formed (atom_meaning a) args j) (h.1.before j b);
  here = ap (or_passes entry) h.1.here;
}
atom_stops a args size (stops.ZeroDivisor entry) h setting point = absurd h
atom_stops a args size stops.Memory h setting point = tt
