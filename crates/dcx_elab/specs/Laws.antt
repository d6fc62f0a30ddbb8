-- Laws above the meaning of scripts.
use Rattle.std.specs.Prelude.{◌≡◌, ℕ, List, ◌++◌, Ok, Err}
use Rattle.std.specs.List.{IsDistinct}
use Rattle.std.specs.Map.{keys_of, lookup}
use Rattle.dcx_shape.specs.declared.place.Place.{Place}
use Rattle.dcx_point.specs.Pairs.{same_name}
use Rattle.dcx_syntax.specs.Statements.{Lines, no_lines, lines}
use Rattle.dcx_script_values.specs.declared.fault.ElabFault.{ElabFault}
use Rattle.dcx_script_values.specs.Values.{Value, State, Act, ◌>>=◌, ◌>>◌}
use Rattle.dcx_script_state.specs.Declarations.{start}
use Rattle.dcx_elab.specs.Turns.{turn, turns, each_turn}
use Rattle.dcx_elab.specs.Statements.{lines_mean}
use Rattle.dcx_elab.specs.Meaning.{meaning}

-- lines, and more of them behind
abbrev pub followed_by : Lines → Lines → Lines
followed_by no_lines more = more
followed_by (lines x rest) more = lines x (followed_by rest more)

-- a script is its lines one after the other, and what follows a fault has no effect
pub record HoldsForLines : Type 0 where
  pub in_order : (ls more : Lines) (s : State) → lines_mean (followed_by ls more) s ≡ (lines_mean ls >> lines_mean more) s
  pub first_fault : (ls more : Lines) (e : ElabFault) → lines_mean ls start ≡ Err e → meaning (followed_by ls more) ≡ Err e

-- no name is bound twice
abbrev pub HasDistinctNames : State → Type 0
HasDistinctNames s = IsDistinct same_name (keys_of s.names)

-- carrying something out binds no name twice
abbrev pub KeepsNamesDistinct : {A : Type 0} → Act A → Type 0
KeepsNamesDistinct {A} m = (s t : State) (x : A) → HasDistinctNames s → m s ≡ Ok (x, t) → HasDistinctNames t

-- the turns over a list are those over its first part and then those over the others, for a `for` and for a comprehension;
-- and after a turn of a comprehension its name is as it was
pub record HoldsForTurns : Type 0 where
  pub for_in_order : (name : List ℕ) (body : Act (Unit {0})) (vs ws : List Value) (s : State) →
      each_turn name body (vs ++ ws) s ≡ (each_turn name body vs >> each_turn name body ws) s
  pub elements_in_order : (place first : Place) (name : List ℕ) (element : Act Value) (xs vs ws : List Value) (s : State) →
      turns place first name element xs (vs ++ ws) s ≡ (turns place first name element xs vs >>= λ ys. turns place first name element ys ws) s
  pub name_as_before : (first : Place) (name : List ℕ) (element : Act Value) (v x : Value) (s t : State) → HasDistinctNames s → KeepsNamesDistinct element →
      turn first name element v s ≡ Ok (x, t) → lookup (same_name name) t.names ≡ lookup (same_name name) s.names
