-- Proofs of the laws above the meaning.
use Rattle.std.specs.Prelude.{◌≡◌, ℕ, Bool, true, false, cond, List, [], ◌∷◌, ◌++◌, Option, Some, None, Result, Ok, Err, is_ok, nat_lt}
use Rattle.std.proofs.Common.{true≢false, refl, sym, ap, subst, ◌∙◌}
use Rattle.std.specs.List.{AllByRecursion, IsDistinct}
use Rattle.std.specs.Map.{keys_of, lookup, remove_entry}
use Rattle.std.specs.Cmp.Lexicographic.{nat_list_eq_equiv}
use Rattle.std.proofs.lemmas.Map.{lookup-remove_entry}
use Rattle.indexmap.specs.IndexMap.{insert_entry}
use Rattle.dcx_shape.specs.declared.place.Place.{Place}
use Rattle.dcx_point.specs.Pairs.{same_name}
use Rattle.dcx_point.proofs.Puts.{same_name-refl, same_name-true}
use Rattle.dcx_point.proofs.Names.{unlike}
use Rattle.dcx_syntax.specs.Statements.{Lines, no_lines, lines}
use Rattle.dcx_script_values.specs.declared.fault.ElabFault.{ElabFault}
use Rattle.dcx_script_values.specs.Values.{Value, State, Act, and_then, ◌>>=◌, ◌>>◌, done, bind, restore, step, room, bound_to, most_steps}
use Rattle.dcx_elab.specs.Turns.{turn, turns, each_turn}
use Rattle.dcx_elab.specs.Statements.{line_means, lines_mean}
use Rattle.dcx_script_state.specs.Declarations.{start}
use Rattle.dcx_script_state.proofs.Each.{and_then-assoc}
use Rattle.dcx_elab.specs.Meaning.{meaning, ended}
use Rattle.dcx_elab.specs.Laws.{followed_by, HoldsForLines, HasDistinctNames, KeepsNamesDistinct, HoldsForTurns}

-- the same behind the same
behind : {A B : Type 0} (r : Result (A × State) ElabFault) (f g : A → Act B) → ((a : A) (s : State) → f a s ≡ g a s) → and_then r f ≡ and_then r g
behind (Ok x) f g same = same x.0 x.1
behind (Err e) f g same = refl

-- ---- lines
in_order : (ls more : Lines) (s : State) → lines_mean (followed_by ls more) s ≡ (lines_mean ls >> lines_mean more) s
in_order no_lines more s = refl
in_order (lines x rest) more s =
    behind (line_means x s) (λ _. lines_mean (followed_by rest more)) (λ _. lines_mean rest >> lines_mean more) (λ _ t. in_order rest more t)
    ∙ sym (and_then-assoc (line_means x s) (λ _. lines_mean rest) (λ _. lines_mean more))

first_fault : (ls more : Lines) (e : ElabFault) → lines_mean ls start ≡ Err e → meaning (followed_by ls more) ≡ Err e
first_fault ls more e h = ap ended (in_order ls more start ∙ ap (λ r. and_then r (λ _. lines_mean more)) h)

pub lines_hold : HoldsForLines
lines_hold = record { in_order = in_order; first_fault = first_fault }

-- ---- turns
for_in_order : (name : List ℕ) (body : Act (Unit {0})) (vs ws : List Value) (s : State) →
    each_turn name body (vs ++ ws) s ≡ (each_turn name body vs >> each_turn name body ws) s
for_in_order name body [] ws s = refl
for_in_order name body (v ∷ vs) ws s =
    behind (bind name v s) (λ _. body >> each_turn name body (vs ++ ws)) (λ _. body >> (each_turn name body vs >> each_turn name body ws))
    (λ _ t. behind (body t) (λ _. each_turn name body (vs ++ ws)) (λ _. each_turn name body vs >> each_turn name body ws) (λ _ u. for_in_order name body vs ws u))
    ∙ sym (and_then-assoc (bind name v s) (λ _. body >> each_turn name body vs) (λ _. each_turn name body ws)
    ∙ behind (bind name v s) (λ _. (body >> each_turn name body vs) >> each_turn name body ws) (λ _. body >> (each_turn name body vs >> each_turn name body ws))
    (λ _ t. and_then-assoc (body t) (λ _. each_turn name body vs) (λ _. each_turn name body ws)))

elements_in_order : (place first : Place) (name : List ℕ) (element : Act Value) (xs vs ws : List Value) (s : State) →
    turns place first name element xs (vs ++ ws) s ≡ (turns place first name element xs vs >>= λ ys. turns place first name element ys ws) s
elements_in_order place first name element xs [] ws s = refl
elements_in_order place first name element xs (v ∷ vs) ws s =
    behind (turn first name element v s) (λ x. room place xs x >> go (xs ++ x ∷ []) (vs ++ ws)) (λ x. room place xs x >> (go (xs ++ x ∷ []) vs >>= λ ys. go ys ws))
    (λ x t. behind (room place xs x t) (λ _. go (xs ++ x ∷ []) (vs ++ ws)) (λ _. go (xs ++ x ∷ []) vs >>= λ ys. go ys ws)
    (λ _ u. elements_in_order place first name element (xs ++ x ∷ []) vs ws u))
    ∙ sym (and_then-assoc (turn first name element v s) (λ x. room place xs x >> go (xs ++ x ∷ []) vs) (λ ys. go ys ws)
    ∙ behind (turn first name element v s) (λ x. (room place xs x >> go (xs ++ x ∷ []) vs) >>= λ ys. go ys ws) (λ x. room place xs x >> (go (xs ++ x ∷ []) vs >>= λ ys. go ys ws))
    (λ x t. and_then-assoc (room place xs x t) (λ _. go (xs ++ x ∷ []) vs) (λ ys. go ys ws)))
  where
    go : List Value → List Value → Act (List Value)
    go = turns place first name element

-- ---- names
-- a name that is bound has its value
found : (names : List (List ℕ × Value)) (name : List ℕ) (v : Value) → lookup (same_name name) (insert_entry same_name names name v) ≡ Some v
found [] name v = rw (same_name-refl name) refl
found (e ∷ es) name v = by (found es name v) (same_name name e.0) refl
  where
    by : lookup (same_name name) (insert_entry same_name es name v) ≡ Some v → (t : Bool) → same_name name e.0 ≡ t
        → lookup (same_name name) (cond t ((e.0, v) ∷ es) (e ∷ insert_entry same_name es name v)) ≡ Some v
    by rest true p = rw p refl
    by rest false p = rw p rest

-- a name that is taken away isn't bound
gone : (names : List (List ℕ × Value)) (name : List ℕ) → IsDistinct same_name (keys_of names) → lookup (same_name name) (remove_entry (same_name name) names) ≡ None
gone names name distinct = lookup-remove_entry nat_list_eq_equiv (same_name name) one name names distinct ∙ ap (λ b. cond b None (lookup (same_name name) names)) (same_name-refl name)
  where
    one : (x y : List ℕ) → same_name name x ≡ true → same_name name y ≡ same_name x y
    one x y e = ap (λ n. same_name n y) (same_name-true name x e)

-- a name that is bound stands once
all-insert : (P : List ℕ → Type 0) (names : List (List ℕ × Value)) (name : List ℕ) (v : Value) → AllByRecursion P (keys_of names) → P name
    → AllByRecursion P (keys_of (insert_entry same_name names name v))
all-insert P [] name v all h = (h, tt)
all-insert P (e ∷ es) name v all h = by (same_name name e.0) (all-insert P es name v all.1 h)
  where
    by : (t : Bool) → AllByRecursion P (keys_of (insert_entry same_name es name v)) → AllByRecursion P (keys_of (cond t ((e.0, v) ∷ es) (e ∷ insert_entry same_name es name v)))
    by true later = all
    by false later = (all.0, later)

pub insert-distinct : (names : List (List ℕ × Value)) (name : List ℕ) (v : Value) → IsDistinct same_name (keys_of names) → IsDistinct same_name (keys_of (insert_entry same_name names name v))
unfolding IsDistinct
insert-distinct [] name v d = (tt, tt)
insert-distinct (e ∷ es) name v d = by (same_name name e.0) refl (insert-distinct es name v d.1)
  where
    by : (t : Bool) → same_name name e.0 ≡ t → IsDistinct same_name (keys_of (insert_entry same_name es name v))
        → IsDistinct same_name (keys_of (cond t ((e.0, v) ∷ es) (e ∷ insert_entry same_name es name v)))
    by true p later = d
    by false p later = (all-insert (λ y. same_name e.0 y ≡ false) es name v d.0 (unlike name e.0 p), later)

-- the names that are left
names_after : {A : Type 0} → Result (A × State) ElabFault → List (List ℕ × Value)
names_after (Ok z) = z.1.names
names_after (Err e) = []

restored : (name : List ℕ) (before : Option Value) (y x : Value) (u t : State) → IsDistinct same_name (keys_of u.names) →
    (restore name before >> done y) u ≡ Ok (x, t) → lookup (same_name name) t.names ≡ before
unfolding names_after
restored name (Some b) y x u t distinct e = ap (lookup (same_name name)) (sym (ap names_after e)) ∙ found u.names name b
restored name None y x u t distinct e = ap (lookup (same_name name)) (sym (ap names_after e)) ∙ gone u.names name distinct

-- a fault gives nothing
no_fault : {A : Type 0} {e : ElabFault} {z : A × State} → Err e ≡ Ok z → ⊥
no_fault p = true≢false (sym (ap is_ok p))

-- a step keeps the names
step_keeps : (first : Place) (s : State) (z : Unit {0} × State) → step first s ≡ Ok z → z.1.names ≡ s.names
unfolding names_after
step_keeps first s z e = by (nat_lt s.steps most_steps) refl
  where
    by : (b : Bool) → nat_lt s.steps most_steps ≡ b → z.1.names ≡ s.names
    by true p = sym (ap names_after (rw p at e))
    by false p = absurd (no_fault (rw p at e))

name_as_before : (first : Place) (name : List ℕ) (element : Act Value) (v x : Value) (s t : State) → HasDistinctNames s → KeepsNamesDistinct element →
    turn first name element v s ≡ Ok (x, t) → lookup (same_name name) t.names ≡ lookup (same_name name) s.names
name_as_before first name element v x s t distinct keeps e = after_step (step first s) refl e
  where
    bound : State → State
    bound u = record u { names = insert_entry same_name u.names name v }

    rest : Act Value
    rest = bound_to name >>= λ before. bind name v >> (element >>= λ y. restore name before >> done y)

    after_element : (u : State) → HasDistinctNames u → (q : Result (Value × State) ElabFault) → element (bound u) ≡ q →
        and_then q (λ y. restore name (lookup (same_name name) u.names) >> done y) ≡ Ok (x, t) → lookup (same_name name) t.names ≡ lookup (same_name name) u.names
    after_element u d (Ok y) p f = restored name (lookup (same_name name) u.names) y.0 x y.1 t (keeps (bound u) y.1 y.0 (insert-distinct u.names name v d) p) f
    after_element u d (Err g) p f = absurd (no_fault f)

    after_step : (r : Result (Unit {0} × State) ElabFault) → step first s ≡ r → and_then r (λ _. rest) ≡ Ok (x, t) → lookup (same_name name) t.names ≡ lookup (same_name name) s.names
    after_step (Ok z) p f =
        after_element z.1 (subst (λ (ns : List (List ℕ × Value)). IsDistinct same_name (keys_of ns)) (sym (step_keeps first s z p)) distinct) (element (bound z.1)) refl f
        ∙ ap (lookup (same_name name)) (step_keeps first s z p)
    after_step (Err g) p f = absurd (no_fault f)

pub turns_hold : HoldsForTurns
turns_hold = record { for_in_order = for_in_order; elements_in_order = elements_in_order; name_as_before = name_as_before }
