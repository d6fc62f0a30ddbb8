-- An expression leaves the names as they were: nothing but a comprehension binds one, and it puts it back.
use Rattle.std.proofs.Common.{◌≡◌, ℕ, Bool, true, false, cond, List, [], ◌∷◌, Option, Some, None, refl, ap, ◌∙◌}
use Rattle.std.specs.Map.{lookup, remove_entry}
use Rattle.indexmap.specs.IndexMap.{insert_entry}
use Rattle.dcx_shape.specs.declared.place.Place.{Place}
use Rattle.dcx_arena.specs.Nodes.{Node}
use Rattle.dcx_call.specs.declared.call.Call.{Call}
use Rattle.dcx_point.specs.Pairs.{same_name}
use Rattle.dcx_point.proofs.Puts.{same_name-refl}
use Rattle.dcx_script_values.specs.Values.{Value, State, Act, and_then, ◌>>=◌, ◌>>◌, done, bound_to, bind, restore, step}
use Rattle.dcx_script_values.specs.Nodes.{add, found_or_added, push}
use Rattle.dcx_elab.specs.Turns.{turn}
use Rattle.dcx_script_laws.proofs.Carried.{Moved, Moves, IsCarried, ok-moved, gone-on, then-moved, parts}

-- the names are the same
abbrev pub SameNames : State → State → Type 0
SameNames s t = t.names ≡ s.names

-- ---- nodes
add-moves : (place : Place) (n : Node Call) → Moves SameNames (add place n)
add-moves place n s t h = search parts depth 9

found_or_added-moves : (place : Place) (n : Node Call) (found : Option ℕ) → Moves SameNames (found_or_added place n found)
found_or_added-moves place n (Some i) s t h = search parts
found_or_added-moves place n None s t h = search add-moves

push-moves : (place : Place) (call : Call) (args : List ℕ) → Moves SameNames (push place call args)
push-moves place call args s t h = search (found_or_added-moves, parts)

-- ---- a name that is bound for a while
-- the names once a name is as it was before
abbrev back : List ℕ → Option Value → List (List ℕ × Value) → List (List ℕ × Value)
back name (Some v) names = insert_entry same_name names name v
back name None names = remove_entry (same_name name) names

back-later : (name : List ℕ) (before : Option Value) (e : List ℕ × Value) (es : List (List ℕ × Value)) → same_name name e.0 ≡ false → back name before (e ∷ es) ≡ e ∷ back name before es
back-later name (Some v) e es other = rw other refl
back-later name None e es other = rw other refl

put_back : (names : List (List ℕ × Value)) (name : List ℕ) (v : Value) → back name (lookup (same_name name) names) (insert_entry same_name names name v) ≡ names
put_back [] name v = rw (same_name-refl name) refl
put_back (e ∷ es) name v = by (put_back es name v) (same_name name e.0) refl
  where
    by : back name (lookup (same_name name) es) (insert_entry same_name es name v) ≡ es → (b : Bool) → same_name name e.0 ≡ b
        → back name (cond b (Some e.1) (lookup (same_name name) es)) (cond b ((e.0, v) ∷ es) (e ∷ insert_entry same_name es name v)) ≡ e ∷ es
    by rest true p = rw p refl
    by rest false p = back-later name (lookup (same_name name) es) e (insert_entry same_name es name v) p ∙ ap (λ ns. e ∷ ns) rest

restored : (name : List ℕ) (before : Option Value) (x : Value) (s t : State) → back name before t.names ≡ s.names → Moved SameNames s (and_then (restore name before t) (λ _. done x))
restored name (Some v) x s t h = ok-moved SameNames s _ x h
restored name None x s t h = ok-moved SameNames s _ x h

step-moves : (place : Place) → Moves SameNames (step place)
step-moves place s t h = search parts

turn-moves : (first : Place) (name : List ℕ) (element : Act Value) (v : Value) → Moves SameNames element → Moves SameNames (turn first name element v)
turn-moves first name element v keeps s t h = then-moved SameNames s (step first t) (λ _. rest) (step-moves first s t h) bound
  where
    rest : Act Value
    rest = bound_to name >>= λ before. bind name v >> (element >>= λ x. restore name before >> done x)

    bound : (a : Unit {0}) (u : State) → SameNames s u → Moved SameNames s (rest u)
    bound a u k =
        let inner = record u { names = insert_entry same_name u.names name v } in
        let before = lookup (same_name name) u.names in
        gone-on SameNames s (element inner) (λ x. restore name before >> done x)
        (λ x w p. restored name before x s w (ap (back name before) ((keeps inner inner refl).at x w p) ∙ put_back u.names name v ∙ k))

pub names_are_carried : IsCarried SameNames
names_are_carried = record { same = λ s. refl; others = λ s t u h names nodes. names ∙ h; pushes = push-moves; turns = turn-moves }
