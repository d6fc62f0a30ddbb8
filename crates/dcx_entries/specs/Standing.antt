-- The forms that stand for nodes while a problem is reduced, and those of the arguments of a node.
use Rattle.std.specs.Prelude.{ℕ, ◌+◌, ◌<◌, ◌^◌, List, [], map, Option, slice_index_or}
use Rattle.dcx_frac.specs.declared.fraction.Frac.{Frac}
use Rattle.dcx_atom.specs.declared.graph.Operand.{Operand}
use Rattle.dcx_atom.specs.declared.graph.Operand.TheVariants.{Argument, Aux}
use Rattle.dcx_atom.specs.Formed.{zero_frac}
use Rattle.dcx_arena.specs.Nodes.{positions}
use Rattle.dcx_linear.specs.declared.form.Form.{Form}
use Rattle.dcx_linear.specs.Forms.{is_constant}
use Rattle.dcx_linear.specs.Multiples.{HasNumbers}
use Rattle.dcx_affine.specs.declared.pairing.Pair.{Pair}
use Rattle.dcx_entries.specs.declared.scaling.Scaling.{Scaling}
use Rattle.dcx_entries.specs.declared.scaling.Scaling.TheVariants.{LeftNumber, RightNumber, LeftAffine, RightAffine, Divisor}
use Rattle.dcx_entries.specs.Entries.{entry_forms}
use Rattle.dcx_entries.specs.declared.standing.Standing.{Standing}
use Rattle.dcx_entries.specs.declared.standing.Standing.TheVariants.{Numbers, Forms}
use Rattle.dcx_entries.specs.declared.arguments.Arguments.{Arguments}
use Rattle.dcx_entries.specs.declared.entry.Entry.{Entry}
use Rattle.dcx_entries.specs.declared.entry.Entry.TheVariants.{Number, Whole}

-- a number is a form without unknowns
abbrev pub forms_of : {C : Type 0} → (Frac → C) → Standing C → List (Form C)
forms_of of_number (Numbers x) = map (λ n. is_constant (of_number n)) x.entries
forms_of of_number (Forms es) = entry_forms es

-- the form of an entry, and 0 past the end
abbrev pub entry_of : {C : Type 0} → (Frac → C) → Standing C → ℕ → Form C
entry_of of_number s e = slice_index_or (forms_of of_number s) e (is_constant (of_number zero_frac))

-- the forms of all nodes so far
abbrev pub all_forms : {C : Type 0} → (Frac → C) → List (Standing C) → List (List (Form C))
all_forms of_number standing = map (forms_of of_number) standing

-- the form of entry e of argument k, where the forms of the nodes so far and the positions of the arguments are these; 0 where
-- there is no such argument or entry
abbrev pub args_among : {C : Type 0} → (Frac → C) → List (List (Form C)) → List ℕ → ℕ → ℕ → Form C
args_among of_number forms args k e = slice_index_or (slice_index_or (map (λ a. slice_index_or forms a []) args) k []) e (is_constant (of_number zero_frac))

abbrev pub args_of : {C : Type 0} → (Frac → C) → Arguments C → ℕ → ℕ → Form C
args_of of_number a k e = args_among of_number (all_forms of_number a.standing.now) (positions a.ids.now) k e

-- what stands at an entry: a number, or a form
abbrev pub found_form : {C : Type 0} → (Frac → C) → Entry C → Form C
found_form of_number (Number x) = is_constant (of_number x)
found_form of_number (Whole f) = f.now

-- an auxiliary unknown of those from `first` on has a number of 32 bits
abbrev pub IsOperand : ℕ → Operand → Type 0
IsOperand first (Argument k e) = Unit {0}
IsOperand first (Aux k) = first + k < 2 ^ 32

-- the form that an affine number is multiplied by has numbers
abbrev pub HasNumbersFor : {C : Type 0} → (C → Option Frac) → Scaling → (ℕ → ℕ → Form C) → Pair → Type 0
HasNumbersFor number_of LeftNumber args x = Unit {0}
HasNumbersFor number_of RightNumber args x = Unit {0}
HasNumbersFor number_of LeftAffine args x = HasNumbers number_of (args 1 x.right)
HasNumbersFor number_of RightAffine args x = HasNumbers number_of (args 0 x.left)
HasNumbersFor number_of Divisor args x = Unit {0}
