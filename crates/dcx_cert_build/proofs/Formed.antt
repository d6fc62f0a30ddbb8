-- The numbers of the weights of rows are the multipliers of the rows of the atoms, atom by atom.
use Rattle.std.proofs.Common.{◌≡◌, ℕ, zero, suc, ◌+◌, ◌<◌, ◌≤◌, Bool, true, false, List, [], ◌∷◌, ◌++◌, length, map, take, get_or, Option, Some}
use Rattle.std.proofs.Common.{None, Ok, Err, refl, sym, ap, ap₂, ◌∙◌, subst, true≢false, eq-eqb, eqb-true, inl, inr, ◌⊎◌, arith}
use Rattle.std.specs.Prelude.{Result, nat_eq, if◌then◌else◌, ◌||◌, slice_get}
use Rattle.std.specs.List.{filter_map, cons_option, zip}
use Rattle.std.proofs.lemmas.List.{map_push, map_more, take_all, take_more, append-nil}
use Rattle.std.proofs.lemmas.List.Elements.{filter_map-append}
use Rattle.std.proofs.lemmas.Option.{same_Some}
use Rattle.dcx_frac.specs.declared.fraction.Frac.{Frac}
use Rattle.dcx_frac.specs.declared.fraction.Passes.{Passes}
use Rattle.dcx_atom.specs.Formed.{and_then}
use Rattle.dcx_arena.specs.declared.node.NodeId.{NodeId}
use Rattle.dcx_lp_answer.specs.declared.answer.LpStatus.{LpStatus}
use Rattle.dcx_lp_answer.specs.declared.answer.RowNote.{RowNote}
use Rattle.dcx_lp_answer.specs.Multipliers.{passing_from}
use Rattle.dcx_graph.specs.declared.origin.Origin.{Origin}
use Rattle.dcx_graph.specs.declared.origin.Origin.TheVariants as origins
use Rattle.dcx_cert_build.specs.declared.forming.RowWeight.{RowWeight}
use Rattle.dcx_cert_sections.specs.declared.weights.NodeWeights.{NodeWeights}
use Rattle.dcx_cert_sections.specs.declared.outline.AtomRows.{AtomRows}
use Rattle.dcx_cert_sections.specs.Outlines.{rows_shown}
use Rattle.dcx_cert_build.specs.Weights.{graph_multiplier, is_listed, row_weight, row_weights, note_of, node_multipliers, number_for}
use Rattle.dcx_cert_build.specs.Weights.{numbers_for, node_numbers, atom_numbers, formed_weights, atom_multipliers, AreWeights}

-- a row, where it comes from and what is kept of it
abbrev pub RowOf : Type 0
RowOf = Origin × RowNote

-- ---- lists side by side
within : {A B : Type 0} (xs : List A) (ys : List B) (i : ℕ) (x : A) → slice_get xs i ≡ Some x → i < length ys → i < length (zip xs ys)
within [] ys i x at lt = cc
within (a ∷ xs) [] i x at lt = lt
within (a ∷ xs) (b ∷ ys) zero x at lt = omega arith
within (a ∷ xs) (b ∷ ys) (suc i) x at lt = let rest = within xs ys i x at (omega (arith, lt)) in omega (arith, rest)

no_longer : {A B : Type 0} (xs : List A) (ys : List B) → length (zip xs ys) ≤ length ys
no_longer [] ys = omega arith
no_longer (a ∷ xs) [] = omega arith
no_longer (a ∷ xs) (b ∷ ys) = let rest = no_longer xs ys in omega (arith, rest)

get_or-zip : {A B : Type 0} (xs : List A) (ys : List B) (i : ℕ) (x d : A) (y e : B) → slice_get xs i ≡ Some x → i < length ys → y ≡ get_or ys i y → get_or (zip xs ys) i (d, e) ≡ (x, y)
get_or-zip [] ys i x d y e at lt is = cc
get_or-zip (a ∷ xs) [] i x d y e at lt is = absurd (omega (arith, lt))
get_or-zip (a ∷ xs) (b ∷ ys) zero x d y e at lt is = ap₂ (λ u v. (u, v)) (same_Some a x at) (sym is)
get_or-zip (a ∷ xs) (b ∷ ys) (suc i) x d y e at lt is = get_or-zip xs ys i x d y e at (omega (arith, lt)) is

-- the row at a place
pub row_there : (from : List Origin) (notes items : List RowNote) (i : ℕ) (o : Origin) (note : RowNote) → slice_get from i ≡ Some o → i < length items → note ≡ get_or items i note → items ≡ notes →
    (i < length (zip from notes)) × ◌≡◌ {A = RowOf} (o, note) (get_or (zip from notes) i (o, note))
row_there from notes items i o note at lt is same =
    let inside : i < length notes = subst (λ (l : List RowNote). i < length l) same lt in
    (within from notes i o at inside, sym (get_or-zip from notes i o o note note at inside (is ∙ ap (λ l. get_or l i note) same)))

module _ {A B : Type 0} (f : A → Result B Passes) where
  -- one more
  pub weights_more : (xs : List A) (ys new : List B) (i : ℕ) (x : A) → i < length xs → x ≡ get_or xs i x → map Ok ys ≡ map f (take i xs) → (y : B) → f x ≡ Ok y → new ≡ ys ++ y ∷ []
      → map Ok new ≡ map f (take (i + 1) xs)
  weights_more xs ys new i x lt is made y e put =
      ap (map Ok) put ∙ map_push Ok ys y ∙ ap₂ (λ a b. a ++ b ∷ []) made (sym e ∙ ap f is) ∙ sym (map_more f xs i x lt)

-- and all
pub weights_all : {A B C : Type 0} (f : A × B → Result C Passes) (xs : List A) (ys items : List B) (zs : List C) (i : ℕ) → items ≡ ys → length items ≤ i → map Ok zs ≡ map f (take i (zip xs ys))
    → map Ok zs ≡ map f (zip xs ys)
weights_all f xs ys items zs i same past made =
    let count = ap length same in
    let short = no_longer xs ys in
    made ∙ ap (map f) (take_all i (zip xs ys) (omega (arith, count, short, past)))

-- ---- atoms
first_listed : (a : ℕ × ℕ) (atoms : List (ℕ × ℕ)) → is_listed (a ∷ atoms) a.0 ≡ true
first_listed a atoms = ap (λ b. b || is_listed atoms a.0) (eq-eqb a.0 a.0 refl)

rest_listed : (a : ℕ × ℕ) (atoms : List (ℕ × ℕ)) (i : ℕ) → is_listed atoms i ≡ true → is_listed (a ∷ atoms) i ≡ true
rest_listed a atoms i t = by (nat_eq a.0 i)
  where
    by : (b : Bool) → (b || is_listed atoms i) ≡ true
    by true = refl
    by false = t

-- what is the same at the nodes of these atoms, is the same of all of them
abbrev pub beside : {X : Type 0} → (ℕ → X) → ℕ × ℕ → ℕ × X
beside f a = (a.0, f a.0)

pub same_listed : {X : Type 0} (atoms : List (ℕ × ℕ)) (f g : ℕ → X) → ((i : ℕ) → is_listed atoms i ≡ true → f i ≡ g i) → map (beside f) atoms ≡ map (beside g) atoms
same_listed [] f g h = refl
same_listed (a ∷ atoms) f g h = ap₂ (λ y ys. (a.0, y) ∷ ys) (h a.0 (first_listed a atoms)) (same_listed atoms f g (λ i t. h i (rest_listed a atoms i t)))

module _ (atoms : List (ℕ × ℕ)) (status : LpStatus) where
  abbrev Answer : Type 0
  Answer = Result (Option RowWeight) Passes

  abbrev Weight : RowOf → Result (Option RowWeight) Passes
  Weight r = row_weight atoms status r.0 r.1

  -- ---- the rows of a node that is listed
  module _ (i : ℕ) (listed : is_listed atoms i ≡ true) where
    -- a row of it has a number, and any other has none
    abbrev Tells : Origin → RowNote → Option RowWeight → Type 0
    Tells o note w =
        ((number_for i w ≡ None) × (note_of i (o, note) ≡ None))
        ⊎ ((x : Frac) × (number_for i w ≡ Some x) × (note_of i (o, note) ≡ Some note) × (Ok x ≡ graph_multiplier status note))

    tells_nothing : (o : Origin) (note : RowNote) (w : Option RowWeight) → ◌≡◌ {A = Answer} (Ok w) (Ok None) → note_of i (o, note) ≡ None → Tells o note w
    tells_nothing o note w h none = let is : w ≡ None = cc in inl (ap (number_for i) is, none)

    tells_one : (node : NodeId) (e k : ℕ) (note : RowNote) (w : Option RowWeight) (x : Frac) → ◌≡◌ {A = Answer} (Ok w) (Ok (Some (record { node = node; number = x })))
        → Ok x ≡ graph_multiplier status note → Tells (origins.Graph node e k) note w
    tells_one node e k note w x h formed = by (nat_eq node.0 i) refl
      where
        is : w ≡ Some (record { node = node; number = x })
        is = cc

        by : (b : Bool) → nat_eq node.0 i ≡ b → Tells (origins.Graph node e k) note w
        by true t = inr (x, ap (number_for i) is ∙ ap (λ b. if b then Some x else None) t, ap (λ b. if b then Some note else None) t, formed)
        by false t = inl (ap (number_for i) is ∙ ap (λ b. if b then Some x else None) t, ap (λ b. if b then Some note else None) t)

    tells : (o : Origin) (note : RowNote) (w : Option RowWeight) → Ok w ≡ row_weight atoms status o note → Tells o note w
    tells (origins.Constraint k e) note w h = tells_nothing (origins.Constraint k e) note w h refl
    tells (origins.Graph node e k) note w h = by (is_listed atoms node.0) refl (graph_multiplier status note) refl h
      where
        unlisted : (b : Bool) → nat_eq node.0 i ≡ b → is_listed atoms node.0 ≡ false → note_of i (origins.Graph node e k, note) ≡ None
        unlisted true t f = absurd (true≢false (sym listed ∙ ap (is_listed atoms) (sym (eqb-true node.0 i t)) ∙ f))
        unlisted false t f = ap (λ b. if b then Some note else None) t

        by : (b : Bool) → is_listed atoms node.0 ≡ b → (r : Result Frac Passes) → graph_multiplier status note ≡ r →
            Ok w ≡ (if b then and_then r (λ x. Ok (Some (record { node = node; number = x }))) else Ok None) → Tells (origins.Graph node e k) note w
        by true t (Ok x) f g = tells_one node e k note w x g (sym f)
        by true t (Err passes) f g = absurd cc
        by false t r f g = tells_nothing (origins.Graph node e k) note w g (unlisted (nat_eq node.0 i) refl t)

    abbrev Here : List (Option RowWeight) → List RowOf → Type 0
    Here rows zs = map Ok (filter_map (number_for i) rows) ≡ map (graph_multiplier status) (filter_map (note_of i) zs)

    one_more : (z : RowOf) (w : Option RowWeight) (zs : List RowOf) (rows : List (Option RowWeight)) → Tells z.0 z.1 w → Here rows zs → Here (w ∷ rows) (z ∷ zs)
    one_more z w zs rows (inl (a, b)) h =
        ap (λ o. map Ok (cons_option o (filter_map (number_for i) rows))) a ∙ h ∙ sym (ap (λ o. map (graph_multiplier status) (cons_option o (filter_map (note_of i) zs))) b)
    one_more z w zs rows (inr (x, a, b, f)) h =
        ap (λ o. map Ok (cons_option o (filter_map (number_for i) rows))) a ∙ ap₂ ◌∷◌ f h ∙ sym (ap (λ o. map (graph_multiplier status) (cons_option o (filter_map (note_of i) zs))) b)

    -- the numbers of its rows are their multipliers, in order
    pub numbers_are : (zs : List RowOf) (rows : List (Option RowWeight)) → map Ok rows ≡ map Weight zs → Here rows zs
    numbers_are [] [] h = refl
    numbers_are [] (w ∷ rows) h = absurd cc
    numbers_are (z ∷ zs) [] h = absurd cc
    numbers_are (z ∷ zs) (w ∷ rows) h =
        let first : Ok w ≡ Weight z = cc in
        let rest : map Ok rows ≡ map Weight zs = cc in
        one_more z w zs rows (tells z.0 z.1 w first) (numbers_are zs rows rest)

  -- ---- where the rows of each node that is listed have numbers, all rows are formed
  abbrev HasNumbers : List RowOf → ℕ → Type 0
  HasNumbers zs i = (xs : List Frac) × (map Ok xs ≡ map (graph_multiplier status) (filter_map (note_of i) zs))

  abbrev AllFormed : List RowOf → Type 0
  AllFormed zs = (rows : List (Option RowWeight)) × (map Ok rows ≡ map Weight zs)

  -- the rows behind the first one
  behind : (i : ℕ) (o : Option RowNote) (notes : List RowNote) → ((xs : List Frac) × (map Ok xs ≡ map (graph_multiplier status) (cons_option o notes)))
      → (xs : List Frac) × (map Ok xs ≡ map (graph_multiplier status) notes)
  behind i None notes h = h
  behind i (Some note) notes ([], e) = absurd cc
  behind i (Some note) notes (x ∷ xs, e) = (xs, cc)

  first_formed : (note : RowNote) (notes : List RowNote) → ((xs : List Frac) × (map Ok xs ≡ map (graph_multiplier status) (note ∷ notes))) → (x : Frac) × (graph_multiplier status note ≡ Ok x)
  first_formed note notes ([], e) = absurd cc
  first_formed note notes (x ∷ xs, e) = (x, cc)

  row_formed : (o : Origin) (note : RowNote) (zs : List RowOf) → ((i : ℕ) → is_listed atoms i ≡ true → HasNumbers ((o, note) ∷ zs) i) → (w : Option RowWeight) × (row_weight atoms status o note ≡ Ok w)
  row_formed (origins.Constraint k e) note zs h = (None, refl)
  row_formed (origins.Graph node e k) note zs h = by (is_listed atoms node.0) refl
    where
      by : (b : Bool) → is_listed atoms node.0 ≡ b →
          (w : Option RowWeight) × ((if b then and_then (graph_multiplier status note) (λ x. Ok (Some (record { node = node; number = x }))) else Ok None) ≡ Ok w)
      by true t =
          let own : HasNumbers ((origins.Graph node e k, note) ∷ zs) node.0 = h node.0 t in
          let same = ap (λ b. if b then Some note else None) (eq-eqb node.0 node.0 refl) in
          let (x, formed) = first_formed note (filter_map (note_of node.0) zs) (own.0, own.1 ∙ ap (λ o. map (graph_multiplier status) (cons_option o (filter_map (note_of node.0) zs))) same) in
          (Some (record { node = node; number = x }), ap (λ r. and_then r (λ x. Ok (Some (record { node = node; number = x })))) formed)
      by false t = (None, refl)

  pub all_formed : (zs : List RowOf) → ((i : ℕ) → is_listed atoms i ≡ true → HasNumbers zs i) → AllFormed zs
  all_formed [] h = ([], refl)
  all_formed (z ∷ zs) h =
      let (w, first) = row_formed z.0 z.1 zs h in
      let (rows, rest) = all_formed zs (λ i t. behind i (note_of i z) (filter_map (note_of i) zs) (h i t)) in
      (w ∷ rows, ap₂ ◌∷◌ (sym first) rest)

-- nothing passes where all is formed
pub none_passes : {A : Type 0} (i : ℕ) (xs : List A) → passing_from i (map Ok xs) ≡ None
none_passes i [] = refl
none_passes i (x ∷ xs) = none_passes (suc i) xs

-- ---- the numbers of some rows, one row after the other
module _ {A B : Type 0} (h : A → Option B) (xs : List A) (i : ℕ) (x : A) (lt : i < length xs) (is : x ≡ get_or xs i x) (before after : List B) (was : before ≡ filter_map h (take i xs)) where
  next_is : filter_map h (take (i + 1) xs) ≡ filter_map h (take i xs) ++ cons_option (h x) []
  next_is = ap (filter_map h) (take_more xs i x lt ∙ ap (λ y. take i xs ++ y ∷ []) (sym is)) ∙ filter_map-append h (take i xs) (x ∷ [])

  pub number_more : (y : B) → h x ≡ Some y → after ≡ before ++ y ∷ [] → after ≡ filter_map h (take (i + 1) xs)
  number_more y e put = put ∙ ap (λ l. l ++ y ∷ []) was ∙ sym (next_is ∙ ap (λ o. filter_map h (take i xs) ++ cons_option o []) e)

  pub no_number : h x ≡ None → after ≡ before → after ≡ filter_map h (take (i + 1) xs)
  no_number e same = same ∙ was ∙ sym (next_is ∙ ap (λ o. filter_map h (take i xs) ++ cons_option o []) e ∙ append-nil (filter_map h (take i xs)))

-- ---- the weights of atoms
with_formed : ℕ × List Frac → ℕ × List (Result Frac Passes)
with_formed x = (x.0, map Ok x.1)

formed_are : (ws : List NodeWeights) → map formed_weights ws ≡ map with_formed (map node_numbers ws)
unfolding with_formed
formed_are [] = refl
formed_are (w ∷ ws) = ap (λ ys. formed_weights w ∷ ys) (formed_are ws)

numbers_shown : (rows : List (Option RowWeight)) (atoms : List AtomRows) → map with_formed (map (atom_numbers rows) atoms) ≡ map (beside (λ i. map Ok (numbers_for rows i))) (map rows_shown atoms)
unfolding with_formed
numbers_shown rows [] = refl
numbers_shown rows (a ∷ atoms) = ap (λ ys. (a.node.0, map Ok (numbers_for rows a.node.0)) ∷ ys) (numbers_shown rows atoms)

pub weights_are : (status : LpStatus) (from : List Origin) (notes : List RowNote) (atoms : List AtomRows) (all : List (ℕ × ℕ)) (rows : List (Option RowWeight)) (ws : List NodeWeights)
    → map rows_shown atoms ≡ all
    → map Ok rows ≡ row_weights (map rows_shown atoms) status from notes → map node_numbers ws ≡ map (atom_numbers rows) atoms → AreWeights all status from notes ws
weights_are status from notes atoms all rows ws same formed numbered =
    formed_are ws ∙ ap (map with_formed) numbered ∙ numbers_shown rows atoms
    ∙ same_listed (map rows_shown atoms) (λ i. map Ok (numbers_for rows i)) (node_multipliers status from notes) (λ i t. numbers_are (map rows_shown atoms) status i t (zip from notes) rows formed)
    ∙ ap (map (atom_multipliers status from notes)) same
