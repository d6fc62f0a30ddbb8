-- The value of a node that is a number, at arrays of the numbers that its arguments are.
use Rattle.std.proofs.Common.{◌≡◌, ℕ, zero, suc, ◌+◌, ◌<◌, ◌≤◌, arith, List, [], ◌∷◌, ◌++◌, map, length, get_or, slice_index_or, take, Option, Some, IfSome, IsSome}
use Rattle.std.proofs.Common.{unwrap_or, option_map, refl, sym, ap, ap₂, ◌∙◌, subst, inl, inr, length-append, Result, Ok, Err, IsOk, IfOk, IfErr, pos}
use Rattle.std.specs.List.{AllZip, slice_get}
use Rattle.std.proofs.Math.Path.{fun_ext}
use Rattle.std.proofs.lemmas.Bool.{cases_lt}
use Rattle.std.proofs.lemmas.List.{length-map, take_more, map_push}
use Rattle.std.proofs.lemmas.List.Elements.{All-cons, All-nil}
use Rattle.std.proofs.lemmas.Option.{same_Some, slice_get_within, get_or_from_slice_get, slice_get-map}
use Rattle.dcx_math.specs.Rational.{whole}
use Rattle.dcx_math.proofs.Lists.{mapped}
use Rattle.dcx_frac.specs.declared.fraction.Frac.{Frac}
use Rattle.dcx_frac.specs.declared.fraction.Passes.{Passes}
use Rattle.dcx_frac.specs.Frac.{value}
use Rattle.dcx_frac.proofs.Parts.{value_injective}
use Rattle.dcx_shape.specs.declared.shape.Sides.{Sides}
use Rattle.dcx_shape.specs.Shape.{sides_of}
use Rattle.dcx_shape.specs.Sides.{entries_of}
use Rattle.dcx_atom.specs.declared.array.Array.{Array}
use Rattle.dcx_atom.specs.declared.stops.ValueStop.{ValueStop}
use Rattle.dcx_atom.specs.declared.stops.ValueStop.TheVariants as stops
use Rattle.dcx_atom.specs.Arrays.{Entries, number_at, numbers_of, array_sides}
use Rattle.dcx_atom.specs.Entrywise.{IsFirst}
use Rattle.dcx_atom.specs.Formed.{zero_frac}
use Rattle.dcx_atom.proofs.FormedSums.{value-zero_frac}
use Rattle.dcx_point.specs.Pairs.{Pairs}
use Rattle.dcx_arena.specs.declared.node.NodeId.{NodeId}
use Rattle.dcx_arena.specs.Nodes.{IsNode, call_at, args_at, positions, sides_at}
use Rattle.dcx_arena.proofs.Positions.{length-positions, position_at}
use Rattle.dcx_call.specs.declared.call.Call.{Call}
use Rattle.dcx_call.specs.Calls.{shape_of}
use Rattle.dcx_call.specs.Values.{given_by, entry_formed, formed_at, IsGiven, IsValue, IsValueStop}
use Rattle.dcx_call.proofs.Entries.{some_fact}
use Rattle.dcx_convex.specs.Rules.{Rules}
use Rattle.dcx_atom.proofs.Fractions.{number_fits}
use Rattle.dcx_atom.specs.Fractions.{AreFractions, HaveFewEntries}
use Rattle.dcx_call.proofs.Exact.{forms_exactly}
use Rattle.dcx_tree.specs.declared.problem.Problem.{Problem}
use Rattle.dcx_tree.specs.Nodes.{Node, arg_sides}
use Rattle.dcx_unknowns.proofs.NodeForms.{node_at}
use Rattle.dcx_tree.proofs.NodeValues.{args_are, sides_are as sides_are_at, number_there, number_past}
use Rattle.dcx_linear.specs.declared.change.Change.{Change}
use Rattle.dcx_linear.specs.declared.form.Form.{Form}
use Rattle.dcx_linear.specs.Forms.{is_constant}
use Rattle.dcx_entries.specs.declared.entries.EntryForms.{EntryForms}
use Rattle.dcx_entries.specs.declared.standing.Standing.{Standing}
use Rattle.dcx_entries.specs.declared.standing.Standing.TheVariants.{Numbers, Forms}
use Rattle.dcx_entries.specs.Forming.{FormsEach, OnStop}
use Rattle.dcx_entries.specs.Parts.{zero_form, number_in}
use Rattle.dcx_entries.specs.Entries.{alone}
use Rattle.dcx_entries.specs.Standing.{forms_of, entry_of, all_forms, args_among}
use Rattle.dcx_entries.specs.Nodes.{numbers_in, number_entry, NumberEntry}
use Rattle.dcx_entries.proofs.Past.{past_end}
use Rattle.dcx_entries.proofs.Each.{OnStop-weaker}
use Rattle.dcx_nodes.specs.Formed.{value_entries, IsOfSides, AreOfSides, ValueGives, ValueBy}
use Rattle.dcx_nodes.specs.Numbers.{HasNumbersOf, HasNumbersAt, HaveNumbersOf, AreOnlyNumbers}

-- ---- numbers of lists
-- one number more
number_push : (xs : List Frac) (x : Frac) → number_at (xs ++ x ∷ []) (length xs) ≡ value x
number_push [] x = refl
number_push (y ∷ ys) x = number_push ys x

number_before : (xs : List Frac) (x : Frac) (j : ℕ) → j < length xs → number_at (xs ++ x ∷ []) j ≡ number_at xs j
number_before [] x j b = absurd (omega (arith, b))
number_before (y ∷ ys) x zero b = refl
number_before (y ∷ ys) x (suc j) b = number_before ys x j (omega (arith, b))

-- ---- lists of pairs
zip_push : {A B : Type 0} (R : A → B → Type 0) (xs : List A) (ys : List B) (x : A) (y : B) → AllZip R xs ys → R x y → AllZip R (xs ++ x ∷ []) (ys ++ y ∷ [])
zip_push R [] [] x y h r = (r, tt)
zip_push R [] (b ∷ bs) x y h r = absurd h
zip_push R (a ∷ as1) [] x y h r = absurd h
zip_push R (a ∷ as1) (b ∷ bs) x y h r = (h.0, zip_push R as1 bs x y h.1 r)

pub found_at : {A : Type 0} (xs : List A) (k : ℕ) (x : A) → k < length xs → x ≡ get_or xs k x → slice_get xs k ≡ Some x
found_at [] k x lt e = absurd (omega (arith, lt))
found_at (y ∷ ys) zero x lt e = ap Some (sym e)
found_at (y ∷ ys) (suc k) x lt e = found_at ys k x (omega (arith, lt)) e

-- ---- what stands at entries
-- it has the sides of an argument
pub sides_here : {C : Type 0} (nodes : List Node) (standing : List (Standing C)) (ids : List NodeId) (k : ℕ) → k < length ids → AreOfSides nodes standing (positions ids) → (s : Standing C) →
    slice_get standing (get_or ids k (record { 0 = 0 })).0 ≡ Some s → IsOfSides (sides_at nodes (get_or ids k (record { 0 = 0 })).0) s
sides_here nodes standing ids k lt h =
    subst (λ a. (s : Standing _) → slice_get standing a ≡ Some s → IsOfSides (sides_at nodes a) s) (position_at ids k) (h k 0 (omega (arith, lt, length-positions ids)))

module _ {C : Type 0} (of_number : Frac → C) where
  pub forms_counted : (sides : Sides) (s : Standing C) → IsOfSides sides s → length (forms_of of_number s) ≡ entries_of sides
  forms_counted sides (Numbers x) h = length-map x.entries (λ n. is_constant (of_number n)) ∙ x.full ∙ ap entries_of h
  forms_counted sides (Forms es) h = length-map es (λ (e : EntryForms C). e.form) ∙ h

  module _ (number_of : C → Option Frac) (told : (x : Frac) → number_of (of_number x) ≡ Some x) where
    -- the number of 0
    zero_number : value (number_in number_of (zero_form of_number)) ≡ whole (pos 0)
    zero_number = ap value (ap (λ o. unwrap_or o zero_frac) (told zero_frac)) ∙ value-zero_frac

    -- the numbers so far, and all of them
    abbrev pub AreNumbersTo : Standing C → ℕ → List Frac → Type 0
    AreNumbersTo s k xs = (length xs ≡ k) × ((e : ℕ) → e < k → number_at xs e ≡ value (number_in number_of (entry_of of_number s e)))

    pub numbers_none : (s : Standing C) → AreNumbersTo s 0 []
    numbers_none s = (refl, λ e b. absurd (omega (arith, b)))

    pub numbers_more : (s : Standing C) (k : ℕ) (xs ys : List Frac) (x : Frac) → AreNumbersTo s k xs → x ≡ number_in number_of (entry_of of_number s k) → ys ≡ xs ++ x ∷ [] → AreNumbersTo s (k + 1) ys
    numbers_more s k xs ys x h is e = subst (AreNumbersTo s (k + 1)) (sym e) (omega (arith, length-append xs (x ∷ []), h.0), at)
      where
        at : (j : ℕ) → j < k + 1 → number_at (xs ++ x ∷ []) j ≡ value (number_in number_of (entry_of of_number s j))
        at j b = elim (cases_lt j k) [
          | inl lt ↦ number_before xs x j (rw h.0 lt) ∙ h.1 j lt
          | inr ge ↦
              let last : j ≡ k = omega (arith, b, ge) in
              ap (number_at (xs ++ x ∷ [])) (last ∙ sym h.0) ∙ number_push xs x ∙ ap value is ∙ ap (λ i. value (number_in number_of (entry_of of_number s i))) (sym last)
        ]

    pub numbers_all : (sides : Sides) (s : Standing C) (xs : List Frac) → IsOfSides sides s → AreNumbersTo s (entries_of sides) xs → (e : ℕ)
        → number_at xs e ≡ value (number_in number_of (entry_of of_number s e))
    numbers_all sides s xs of_sides h e = elim (cases_lt e (entries_of sides)) [
      | inl lt ↦ h.1 e lt
      | inr ge ↦
          number_past xs e (omega (arith, h.0, ge)) ∙ sym zero_number
          ∙ ap (λ f. value (number_in number_of f)) (sym (past_end (forms_of of_number s) e (zero_form of_number) (omega (arith, forms_counted sides s of_sides, ge))))
    ]

    -- a value has its own numbers
    pub own_numbers : (x : Array) → HasNumbersOf of_number number_of (Numbers x) x
    own_numbers x e = by x.entries e
      where
        by : (xs : List Frac) (e : ℕ) → number_at xs e ≡ value (number_in number_of (slice_index_or (map (λ n. is_constant (of_number n)) xs) e (is_constant (of_number zero_frac))))
        by [] e = sym zero_number
        by (y ∷ ys) zero = ap value (sym (ap (λ o. unwrap_or o zero_frac) (told y)))
        by (y ∷ ys) (suc e) = by ys e

    -- ---- arguments
    module _ (nodes : List Node) (standing : List (Standing C)) where
      pub sides_alike : (ids : List ℕ) (xs : List Array) → HaveNumbersOf of_number number_of nodes standing ids xs → array_sides xs ≡ map (sides_at nodes) ids
      sides_alike [] [] h = refl
      sides_alike [] (x ∷ xs) h = absurd h
      sides_alike (a ∷ ids) [] h = absurd h
      sides_alike (a ∷ ids) (x ∷ xs) h = ap₂ ◌∷◌ h.0.sides (sides_alike ids xs h.1)

      numbers_at : (ids : List ℕ) (xs : List Array) → HaveNumbersOf of_number number_of nodes standing ids xs → (k e : ℕ) →
          numbers_of xs k e ≡ numbers_in number_of (args_among of_number (all_forms of_number standing) ids) k e
      numbers_at [] [] h k e = sym zero_number
      numbers_at [] (x ∷ xs) h k e = absurd h
      numbers_at (a ∷ ids) [] h k e = absurd h
      numbers_at (a ∷ ids) (x ∷ xs) h zero e =
          h.0.numbers e ∙ ap (λ (fs : List (Form C)). value (number_in number_of (slice_index_or fs e (is_constant (of_number zero_frac)))))
          (sym (get_or_from_slice_get (all_forms of_number standing) a (forms_of of_number h.0.at) [] (slice_get-map (forms_of of_number) standing a ∙ ap (option_map (forms_of of_number)) h.0.there)))
      numbers_at (a ∷ ids) (x ∷ xs) h (suc k) e = numbers_at ids xs h.1 k e

      pub numbers_alike : (ids : List ℕ) (xs : List Array) → HaveNumbersOf of_number number_of nodes standing ids xs →
          numbers_of xs ≡ numbers_in number_of (args_among of_number (all_forms of_number standing) ids)
      numbers_alike ids xs h = fun_ext (λ k. fun_ext (λ e. numbers_at ids xs h k e))

      -- one argument more
      pub arrays_more : (ids : List NodeId) (k : ℕ) (d : NodeId) (xs ys : List Array) (x : Array) → k < length ids → HaveNumbersOf of_number number_of nodes standing (positions (take k ids)) xs →
          HasNumbersAt of_number number_of nodes standing (get_or ids k d).0 x → ys ≡ xs ++ x ∷ [] → HaveNumbersOf of_number number_of nodes standing (positions (take (k + 1) ids)) ys
      arrays_more ids k d xs ys x lt h here e =
          let ids_are : positions (take (k + 1) ids) ≡ positions (take k ids) ++ (get_or ids k d).0 ∷ [] = ap positions (take_more ids k d lt)
          ∙ map_push (λ (a : NodeId). a.0) (take k ids) (get_or ids k d) in
          subst (λ zs. HaveNumbersOf of_number number_of nodes standing (positions (take (k + 1) ids)) zs) (sym e)
          (subst (λ is. HaveNumbersOf of_number number_of nodes standing is (xs ++ x ∷ [])) (sym ids_are)
          (zip_push (HasNumbersAt of_number number_of nodes standing) (positions (take k ids)) xs (get_or ids k d).0 x h here))

      -- an only argument
      pub only_numbers : (ids : List ℕ) (x : Array) → AreOfSides nodes standing ids → AreOnlyNumbers standing ids x → HaveNumbersOf of_number number_of nodes standing ids (x ∷ [])
      only_numbers ids x sides h =
          let only : AreOfSides nodes standing (h.only ∷ []) = subst (AreOfSides nodes standing) h.ids_are sides in
          subst (λ zs. HaveNumbersOf of_number number_of nodes standing zs (x ∷ [])) (sym h.ids_are)
          (record { at = Numbers x; there = h.value_is; sides = only 0 0 (omega arith) (Numbers x) h.value_is; numbers = own_numbers x }, tt)

-- ---- the value
few_entries : (xs : List Array) → HaveFewEntries (array_sides xs)
few_entries [] = All-nil (λ (s : Sides). entries_of s ≤ 20000)
few_entries (x ∷ xs) = All-cons (λ (s : Sides). entries_of s ≤ 20000) (sides_of x.shape) (array_sides xs) x.shape.few.most (few_entries xs)

entries_fit : (xs : List Array) → AreFractions (numbers_of xs)
entries_fit xs i k = number_fits (get_or (map (λ x. x.entries) xs) i []) k

formed_is : {E : Type 0} (r : Result Frac E) → IsOk r → (x : Frac) × (r ≡ Ok x)
formed_is (Ok x) h = (x, refl)
formed_is (Err e) h = absurd (cc)

module _ {C : Type 0} (of_number : Frac → C) (number_of : C → Option Frac) (Sums : C → C → Result C Passes → Type 0) (Changes : Change → C → Result C Passes → Type 0)
    (Reads : ℕ → List ℕ → ℕ → Pairs → C → Type 0) (told : (x : Frac) → number_of (of_number x) ≡ Some x)
    (p : Problem) (setting : Pairs) (standing : List (Standing C)) (i : ℕ) (n : Node) (at : IsNode p.tree i n) (xs : List Array)
    (have : HaveNumbersOf of_number number_of p.tree standing n.args xs) where
  pub shape_is : shape_of n.call (array_sides xs) ≡ Some n.sides
  shape_is = ap (shape_of n.call) (sides_alike of_number number_of told p.tree standing n.args xs have) ∙ p.nodes.shaped i n at

  -- what is formed from the arrays is formed from the forms
  same_formed : (j : ℕ) → formed_at n.call setting [] xs j ≡ entry_formed n.call (given_by setting) (given_by []) (arg_sides p.tree n)
      (numbers_in number_of (args_among of_number (all_forms of_number standing) n.args)) j
  same_formed j =
      ap₂ (λ (ss : List Sides) (a : Entries). entry_formed n.call (given_by setting) (given_by []) ss a j)
      (sides_alike of_number number_of told p.tree standing n.args xs have) (numbers_alike of_number number_of told p.tree standing n.args xs have)

  module _ (rules : Rules) where
    abbrev pub Entry : ℕ → Result (EntryForms C) ValueStop → Type 0
    Entry = NumberEntry of_number number_of Sums Changes Reads rules p setting n.call (arg_sides p.tree n) (args_among of_number (all_forms of_number standing) n.args)

    entry_ok : (j : ℕ) (x : Frac) → formed_at n.call setting [] xs j ≡ Ok x → Entry j (Ok (alone (is_constant (of_number x))))
    entry_ok j x e = ap (number_entry of_number number_of Sums Changes Reads rules p setting) (sym e ∙ same_formed j)

    entry_err : (j : ℕ) (stop : ValueStop) → formed_at n.call setting [] xs j ≡ Err stop → Entry j (Err stop)
    entry_err j stop e = ap (number_entry of_number number_of Sums Changes Reads rules p setting) (sym e ∙ same_formed j)

    module _ (x : Array) (is : IsValue n.call setting [] xs x) where
      sides_are : sides_of x.shape ≡ n.sides
      sides_are = same_Some (sides_of x.shape) n.sides (sym is.shape ∙ shape_is)

      entry_is : (j : ℕ) (z : Frac) → slice_get x.entries j ≡ Some z → formed_at n.call setting [] xs j ≡ Ok z
      entry_is j z e =
          let there : j < length x.entries = slice_get_within x.entries j z e in
          let below : j < entries_of (sides_of x.shape) = omega (arith, there, x.full) in
          let formed = formed_is (formed_at n.call setting [] xs j) (is.forms j below) in
          let exact = forms_exactly n.call setting [] (array_sides xs) n.sides (numbers_of xs) shape_is (few_entries xs) (entries_fit xs) j
          (subst (λ s. j < entries_of s) sides_are below) formed.0 formed.1 in
          let same : formed.0 ≡ z = value_injective formed.0 z (exact ∙ sym (is.numbers j below) ∙ number_there x.entries j z e) in
          formed.1 ∙ ap Ok same

      pub value_formed : FormsEach Entry (entries_of n.sides) (Ok (value_entries of_number x))
      value_formed = (length-map x.entries (λ z. alone (is_constant (of_number z))) ∙ x.full ∙ ap entries_of sides_are, each)
        where
          each : (j : ℕ) (e : EntryForms C) → slice_get (value_entries of_number x) j ≡ Some e → Entry j (Ok e)
          each j e there =
              let (z, here, same) = mapped (λ z. alone (is_constant (of_number z))) x.entries j e there in
              subst (λ f. Entry j (Ok f)) same (entry_ok j z (entry_is j z here))

    -- what stops
    first_stops : (stop : ValueStop) → IsFirst (formed_at n.call setting [] xs) (entries_of n.sides) stop → FormsEach Entry (entries_of n.sides) (Err stop)
    first_stops stop h = (
      h.entry,
      h.within,
      entry_err h.entry stop h.here,
      λ j b.
          let formed = formed_is (formed_at n.call setting [] xs j) (h.before j b) in (alone (is_constant (of_number formed.0)), entry_ok j formed.0 formed.1),
    )

    pub value_stops : (stop : ValueStop) → IfSome (shape_of n.call (array_sides xs)) (λ s. IsValueStop n.call setting [] xs (entries_of s) stop)
        → OnStop stop (λ e. FormsEach Entry (entries_of n.sides) (Err e))
    value_stops stop h = by stop (some_fact (λ s. IsValueStop n.call setting [] xs (entries_of s) stop) (shape_of n.call (array_sides xs)) n.sides shape_is h)
      where
        by : (stop : ValueStop) → IsValueStop n.call setting [] xs (entries_of n.sides) stop → OnStop stop (λ e. FormsEach Entry (entries_of n.sides) (Err e))
        by (stops.Passes entry passes) k = first_stops (stops.Passes entry passes) k
        by (stops.ZeroDivisor entry) k = first_stops (stops.ZeroDivisor entry) k
        by stops.Memory k = tt

  -- ---- what the call answers
  of_any : (r : Result (List (EntryForms C)) ValueStop) → ((rules : Rules) → FormsEach (Entry rules) (entries_of n.sides) r) →
      ValueGives of_number number_of Sums Changes Reads p setting (all_forms of_number standing) i r
  of_any r h rules m there =
      subst (λ (z : Node). FormsEach (NumberEntry of_number number_of Sums Changes Reads rules p setting z.call (arg_sides p.tree z) (args_among of_number (all_forms of_number standing) z.args))
      (entries_of z.sides) r)
      (same_Some n m (sym at ∙ there)) (h rules)

  answers : (r : Result Array ValueStop) → IfOk r (IsValue n.call setting [] xs) → IfErr r (λ e. IfSome (shape_of n.call (array_sides xs)) (λ s. IsValueStop n.call setting [] xs (entries_of s) e)) →
      ValueBy of_number r (ValueGives of_number number_of Sums Changes Reads p setting (all_forms of_number standing) i) × IfOk r (λ x. sides_of x.shape ≡ sides_at p.tree i)
  answers (Ok x) h k = (of_any (Ok (value_entries of_number x)) (λ rules. value_formed rules x h), sides_is x h)
    where
      sides_is : (x : Array) → IsValue n.call setting [] xs x → sides_of x.shape ≡ sides_at p.tree i
      sides_is x h = same_Some (sides_of x.shape) n.sides (sym h.shape ∙ shape_is) ∙ sym (sides_are_at p.tree i n at)
  answers (Err stop) h k = (
    OnStop-weaker stop (λ e. (rules : Rules) → FormsEach (Entry rules) (entries_of n.sides) (Err e))
        (λ e. ValueGives of_number number_of Sums Changes Reads p setting (all_forms of_number standing) i (Err e)) (λ e f. of_any (Err e) f)
        (each_rules stop (λ rules. value_stops rules stop k)),
    tt,
  )
    where
      each_rules : (stop : ValueStop) → ((rules : Rules) → OnStop stop (λ e. FormsEach (Entry rules) (entries_of n.sides) (Err e)))
          → OnStop stop (λ e. (rules : Rules) → FormsEach (Entry rules) (entries_of n.sides) (Err e))
      each_rules (stops.Passes entry passes) f = f
      each_rules (stops.ZeroDivisor entry) f = f
      each_rules stops.Memory f = tt

  pub call_answers : (call : Call) (point : Pairs) (ys : List Array) (r : Result Array ValueStop) → call_at p.tree i ≡ Some call → point ≡ [] → ys ≡ xs → IfOk r (IsValue call setting point ys) →
      IfErr r (λ e. IfSome (shape_of call (array_sides ys)) (λ s. IsValueStop call setting point ys (entries_of s) e)) →
      ValueBy of_number r (ValueGives of_number number_of Sums Changes Reads p setting (all_forms of_number standing) i) × IfOk r (λ x. sides_of x.shape ≡ sides_at p.tree i)
  call_answers call point ys r c e d h k =
      let same : call ≡ n.call = sym (same_Some n.call call (ap (option_map (λ (z : Node). z.call)) (sym at) ∙ c)) in
      answers r
      (subst (λ z. IfOk r (IsValue z setting [] xs)) same (subst (λ z. IfOk r (IsValue call setting z xs)) e (subst (λ z. IfOk r (IsValue call setting point z)) d h)))
      (subst (λ z. IfErr r (λ e. IfSome (shape_of z (array_sides xs)) (λ s. IsValueStop z setting [] xs (entries_of s) e))) same
      (subst (λ z. IfErr r (λ e. IfSome (shape_of call (array_sides xs)) (λ s. IsValueStop call setting z xs (entries_of s) e))) e
      (subst (λ z. IfErr r (λ e. IfSome (shape_of call (array_sides z)) (λ s. IsValueStop call setting point z (entries_of s) e))) d k)))

  -- it may be asked for
  pub has_shape : (call : Call) (ys : List Array) → call_at p.tree i ≡ Some call → ys ≡ xs → IsSome (shape_of call (array_sides ys))
  has_shape call ys c d =
      let same : n.call ≡ call = same_Some n.call call (ap (option_map (λ (z : Node). z.call)) (sym at) ∙ c) in
      subst (λ z. IsSome (shape_of call (array_sides z))) (sym d) (subst (λ z. IsSome (shape_of z (array_sides xs))) same (subst IsSome (sym shape_is) refl))

-- what the call of a node takes is given
pub given_is : (p : Problem) (setting : Pairs) (i : ℕ) (n : Node) → IsNode p.tree i n → (call : Call) (point : Pairs) → call_at p.tree i ≡ Some call → point ≡ [] → IsGiven n.call setting []
    → IsGiven call setting point
given_is p setting i n at call point c e h =
    let same : n.call ≡ call = same_Some n.call call (ap (option_map (λ (z : Node). z.call)) (sym at) ∙ c) in
    subst (IsGiven call setting) (sym e) (subst (λ z. IsGiven z setting []) same h)

-- ---- as code has them
module _ {C : Type 0} (of_number : Frac → C) (number_of : C → Option Frac) (Sums : C → C → Result C Passes → Type 0) (Changes : Change → C → Result C Passes → Type 0)
    (Reads : ℕ → List ℕ → ℕ → Pairs → C → Type 0) (told : (x : Frac) → number_of (of_number x) ≡ Some x)
    (p : Problem) (setting : Pairs) (standing : List (Standing C)) (i : ℕ) (lt : i < length p.tree) (ids : List ℕ) (ids_are : ids ≡ args_at p.tree i) (xs : List Array)
    (have : HaveNumbersOf of_number number_of p.tree standing ids xs) where
  node_has : (n : Node) → IsNode p.tree i n → HaveNumbersOf of_number number_of p.tree standing n.args xs
  node_has n at = subst (λ zs. HaveNumbersOf of_number number_of p.tree standing zs xs) (ids_are ∙ args_are p.tree i n at) have

  pub may_ask : (call : Call) (ys : List Array) → call_at p.tree i ≡ Some call → ys ≡ xs → IsSome (shape_of call (array_sides ys))
  may_ask call ys c d = let (n, at) = node_at p i lt in has_shape of_number number_of Sums Changes Reads told p setting standing i n at xs (node_has n at) call ys c d

  pub call_gives : (call : Call) (point : Pairs) (ys : List Array) (r : Result Array ValueStop) → call_at p.tree i ≡ Some call → point ≡ [] → ys ≡ xs → IfOk r (IsValue call setting point ys) →
      IfErr r (λ e. IfSome (shape_of call (array_sides ys)) (λ s. IsValueStop call setting point ys (entries_of s) e)) →
      ValueBy of_number r (ValueGives of_number number_of Sums Changes Reads p setting (all_forms of_number standing) i) × IfOk r (λ x. sides_of x.shape ≡ sides_at p.tree i)
  call_gives call point ys r c e d h k =
      let (n, at) = node_at p i lt in call_answers of_number number_of Sums Changes Reads told p setting standing i n at xs (node_has n at) call point ys r c e d h k

pub asked_given : (p : Problem) (setting : Pairs) (i : ℕ) → i < length p.tree → ((n : Node) → IsNode p.tree i n → IsGiven n.call setting []) → (call : Call) (point : Pairs)
    → call_at p.tree i ≡ Some call → point ≡ []
    → IsGiven call setting point
asked_given p setting i lt given call point c e = let (n, at) = node_at p i lt in given_is p setting i n at call point c e (given n at)
