-- Variables that are to be whole, among those of a problem.
use Rattle.std.proofs.Common.{◌≡◌, ◌≢◌, ◌↔◌, IsTrue, ℕ, ◌<◌, ◌≤◌, List, length, Bool, true, false, Some, refl, sym, ap, subst, ◌∙◌, arith}
use Rattle.std.proofs.lemmas.Option.{none-some, same_Some, slice_get_past, slice_get_read}
use Rattle.std.specs.Prelude.{slice_get, get_or}
use Rattle.dcx_shape.specs.declared.place.Place.{Place}
use Rattle.dcx_call.specs.declared.attribute.Variable.{Variable}
use Rattle.dcx_call.specs.declared.attribute.Whole.TheVariants.{Not}
use Rattle.dcx_tree.specs.declared.problem.Problem.{Problem}
use Rattle.dcx_declared.specs.Stands.{StandsAt}
use Rattle.dcx_declared.specs.Whole.{IsWholeAt, HasNoWhole, HasWhole, IsFirstWhole, StandsFirstWhole, PlacesAreOne}
use Rattle.dcx_declared.proofs.Standing.{stands_once}

-- the variable that is read at a position
pub read_at : (p : Problem) (k : ℕ) (vs : List Variable) (v : Variable) → vs ≡ p.variables → k < length p.variables → v ≡ get_or vs k v → slice_get p.variables k ≡ Some v
read_at p k vs v same lt is = slice_get_read p.variables (length p.variables) k v refl lt (is ∙ ap (λ xs. get_or xs k v) same)

-- a variable is whole where it is marked
pub marked_is_whole : (p : Problem) (k : ℕ) (v : Variable) (b : Bool) → slice_get p.variables k ≡ Some v → IsTrue b ↔ (v.whole ≢ Not) → IsTrue b ↔ IsWholeAt p k
marked_is_whole p k v b at h = (
  λ t. record { variable = v; there = at; marked = h.0 t },
  λ w. h.1 (subst (λ (x : Variable). x.whole ≢ Not) (same_Some w.variable v (sym w.there ∙ at)) w.marked),
)

pub not_whole : (p : Problem) (k : ℕ) (b : Bool) → IsTrue b ↔ IsWholeAt p k → b ≡ false → ¬ IsWholeAt p k
not_whole p k b h e w = let t : b ≡ true = h.1 w in absurd (cc)

-- none is whole past the end
past : (p : Problem) (k : ℕ) → length p.variables ≤ k → ¬ IsWholeAt p k
past p k le h = none-some h.variable (sym (slice_get_past p.variables k le) ∙ h.there)

pub whole_within : (p : Problem) (k : ℕ) → IsWholeAt p k → k < length p.variables
whole_within p k h = let no : length p.variables ≤ k → ⊥ = (λ le. past p k le h) in omega (arith, no)

-- whether there is one
pub no_whole : (p : Problem) → HasNoWhole p → IsTrue false ↔ HasWhole p
no_whole p h = (λ t. let e : false ≡ true = t in absurd (cc), λ k. absurd (h k.0 k.1))

pub none_where_not : (p : Problem) (b : Bool) → IsTrue b ↔ HasWhole p → b ≡ false → HasNoWhole p
none_where_not p b h e k w = let t : b ≡ true = h.1 (k, w) in absurd (cc)

-- ---- one place
one_first : (p : Problem) (i j : ℕ) → IsFirstWhole p i → IsFirstWhole p j → i ≡ j
one_first p i j h k =
    let low : i < j → ⊥ = (λ l. k.before i l h.is) in
    let high : j < i → ⊥ = (λ l. h.before j l k.is) in
    omega (arith, low, high)

one_variable : (p : Problem) (i j : ℕ) (h : IsFirstWhole p i) (k : IsFirstWhole p j) → h.is.variable ≡ k.is.variable
one_variable p i j h k = same_Some h.is.variable k.is.variable (sym h.is.there ∙ ap (slice_get p.variables) (one_first p i j h k) ∙ k.is.there)

stands_first_once : (p : Problem) (a b : Place) → StandsFirstWhole p a → StandsFirstWhole p b → a ≡ b
stands_first_once p a b h k =
    let name = ap (λ (v : Variable). v.name) (one_variable p h.number k.number h.first k.first) in
    stands_once p k.first.is.variable.name a b (subst (λ n. StandsAt p n a) name h.stands) k.stands

pub places_are_one : PlacesAreOne
places_are_one = record { of_names = stands_once; of_wholes = stands_first_once }
