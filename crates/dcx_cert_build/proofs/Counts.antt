-- How many rows of a program come from the graph of a node.
use Rattle.std.proofs.Common.{◌≡◌, ◌≢◌, ℕ, zero, suc, ◌+◌, ◌<◌, ◌≤◌, Bool, true, false, List, [], ◌∷◌, ◌++◌, length, map, Option}
use Rattle.std.proofs.Common.{Some, None, refl, sym, ap, ◌∙◌, true≢false, eq-eqb, ne_eqb, eqb-true, arith}
use Rattle.std.specs.Prelude.{nat_eq, if◌then◌else◌}
use Rattle.std.specs.List.{filter_map, cons_option, zip}
use Rattle.dcx_shape.specs.Sides.{entries_of}
use Rattle.dcx_atom.specs.Arrays.{list_below, joined_below}
use Rattle.dcx_atom.specs.Meaning.{Meaning}
use Rattle.dcx_atom.specs.Steps.{rows_before}
use Rattle.dcx_tree.specs.Nodes.{Node, arg_sides}
use Rattle.dcx_lp_answer.specs.declared.answer.RowNote.{RowNote}
use Rattle.dcx_graph.specs.declared.origin.Origin.{Origin}
use Rattle.dcx_graph.specs.declared.origin.Origin.TheVariants as origins
use Rattle.dcx_cert_build.specs.Origins.{entry_count, entry_rows, node_rows}
use Rattle.dcx_cert_build.specs.Weights.{note_of}

-- the row is one of the graph of node i
abbrev comes_from : ℕ → Origin → Bool
comes_from i (origins.Constraint k e) = false
comes_from i (origins.Graph node e k) = nat_eq node.0 i

-- how many of these rows are
abbrev pub rows_in : ℕ → List Origin → ℕ
rows_in i [] = 0
rows_in i (o ∷ from) = if comes_from i o then suc (rows_in i from) else rows_in i from

module _ (i : ℕ) where
  -- as many notes are kept of them
  note_is : (o : Origin) (note : RowNote) (notes : List RowNote) (n : ℕ) → length notes ≡ n → length (cons_option (note_of i (o, note)) notes) ≡ (if comes_from i o then suc n else n)
  note_is (origins.Constraint k e) note notes n h = h
  note_is (origins.Graph node e k) note notes n h = by (nat_eq node.0 i)
    where
      by : (b : Bool) → length (cons_option (if b then Some note else None) notes) ≡ (if b then suc n else n)
      by true = ap suc h
      by false = h

  pub notes_counted : (from : List Origin) (notes : List RowNote) → length from ≡ length notes → length (filter_map (note_of i) (zip from notes)) ≡ rows_in i from
  notes_counted [] notes e = refl
  notes_counted (o ∷ from) [] e = absurd (omega (arith, e))
  notes_counted (o ∷ from) (note ∷ notes) e =
      let same : length from ≡ length notes = omega (arith, e) in
      note_is o note (filter_map (note_of i) (zip from notes)) (rows_in i from) (notes_counted from notes same)

  -- ---- rows one after the other
  pub joined : (xs ys : List Origin) → rows_in i (xs ++ ys) ≡ rows_in i xs + rows_in i ys
  joined [] ys = omega arith
  joined (o ∷ xs) ys = by (joined xs ys) (comes_from i o)
    where
      by : rows_in i (xs ++ ys) ≡ rows_in i xs + rows_in i ys → (b : Bool)
          → (if b then suc (rows_in i (xs ++ ys)) else rows_in i (xs ++ ys)) ≡ (if b then suc (rows_in i xs) else rows_in i xs) + rows_in i ys
      by h true = omega (arith, h)
      by h false = h

  pub none_of : {A : Type 0} (f : A → Origin) → ((x : A) → comes_from i (f x) ≡ false) → (xs : List A) → rows_in i (map f xs) ≡ 0
  none_of f h [] = refl
  none_of f h (x ∷ xs) = ap (λ b. if b then suc (rows_in i (map f xs)) else rows_in i (map f xs)) (h x) ∙ none_of f h xs

  -- ---- rows of one node
  module _ (j e : ℕ) where
    own : nat_eq j i ≡ true → (n : ℕ) → rows_in i (list_below n (λ k. origins.Graph (record { 0 = j }) e k)) ≡ n
    own t zero = refl
    own t (suc n) =
        let front = own t n in
        let last = ap (λ b. if b then suc 0 else 0) t in
        let both = joined (list_below n (λ k. origins.Graph (record { 0 = j }) e k)) (origins.Graph (record { 0 = j }) e n ∷ []) in
        omega (arith, front, last, both)

    others : nat_eq j i ≡ false → (n : ℕ) → rows_in i (list_below n (λ k. origins.Graph (record { 0 = j }) e k)) ≡ 0
    others t zero = refl
    others t (suc n) =
        let front = others t n in
        let last = ap (λ b. if b then suc 0 else 0) t in
        let both = joined (list_below n (λ k. origins.Graph (record { 0 = j }) e k)) (origins.Graph (record { 0 = j }) e n ∷ []) in
        omega (arith, front, last, both)

  none_joined : (n : ℕ) (f : ℕ → List Origin) → ((j : ℕ) → rows_in i (f j) ≡ 0) → rows_in i (joined_below n f) ≡ 0
  none_joined zero f h = refl
  none_joined (suc n) f h = let a = none_joined n f h in let b = h n in let both = joined (joined_below n f) (f n) in omega (arith, a, b, both)

  -- the rows of another node
  pub others_in : (nodes : List Node) (j : ℕ) → nat_eq j i ≡ false → (reduced : Bool) (o : Option Node) → rows_in i (node_rows nodes j reduced o) ≡ 0
  others_in nodes j t reduced None = refl
  others_in nodes j t true (Some n) = none_joined (entries_of n.sides) (entry_rows nodes j n) (λ e. others j e t (entry_count nodes n n.call e))
  others_in nodes j t false (Some n) = refl

  -- the rows of an atom that is reduced
  pub atom_rows : (nodes : List Node) (n : Node) (m : Meaning) (count : ℕ → ℕ) → ((e : ℕ) → count e ≡ length (m.rows (arg_sides nodes n) e)) → (size : ℕ) →
      rows_in i (joined_below size (λ e. list_below (count e) (λ k. origins.Graph (record { 0 = i }) e k))) ≡ rows_before m (arg_sides nodes n) size
  atom_rows nodes n m count h zero = refl
  atom_rows nodes n m count h (suc size) =
      let front = atom_rows nodes n m count h size in
      let last = own i size (eq-eqb i i refl) (count size) ∙ h size in
      let both = joined (joined_below size (λ e. list_below (count e) (λ k. origins.Graph (record { 0 = i }) e k))) (list_below (count size) (λ k. origins.Graph (record { 0 = i }) size k)) in
      omega (arith, front, last, both)

  -- ---- rows of all nodes
  module _ (f : ℕ → List Origin) (apart : (j : ℕ) → nat_eq j i ≡ false → rows_in i (f j) ≡ 0) where
    before : (k : ℕ) → k ≤ i → rows_in i (joined_below k f) ≡ 0
    before zero le = refl
    before (suc k) le =
        let a = before k (omega (arith, le)) in
        let b = apart k (ne_eqb k i (λ e. omega (arith, e, le))) in
        let both = joined (joined_below k f) (f k) in
        omega (arith, a, b, both)

    pub one_of_all : (k : ℕ) → i < k → rows_in i (joined_below k f) ≡ rows_in i (f i)
    one_of_all zero lt = absurd (omega (arith, lt))
    one_of_all (suc k) lt = by (λ below. one_of_all k below) (nat_eq k i) refl
      where
        both : rows_in i (joined_below (suc k) f) ≡ rows_in i (joined_below k f) + rows_in i (f k)
        both = joined (joined_below k f) (f k)

        by : (i < k → rows_in i (joined_below k f) ≡ rows_in i (f i)) → (b : Bool) → nat_eq k i ≡ b → rows_in i (joined_below (suc k) f) ≡ rows_in i (f i)
        by ih true t =
            let same = eqb-true k i t in
            let front = before k (omega (arith, same)) in
            let last = ap (λ j. rows_in i (f j)) same in
            both ∙ omega (arith, front, last)
        by ih false t =
            let ne : k ≢ i = λ e. true≢false (sym (eq-eqb k i e) ∙ t) in
            let front = ih (omega (arith, ne, lt)) in
            let last = apart k t in
            both ∙ omega (arith, front, last)
