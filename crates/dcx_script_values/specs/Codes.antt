-- How a value and the items of a list are stored by the logic: as marks in a row, which give the items back.
use Rattle.std.specs.Prelude.{◌≡◌, refl, ℕ, ℤ, zero, suc, Bool, List, [], ◌∷◌, ◌⊎◌}
use Rattle.std.specs.Coded.{Coded, code_by, coded_list, coded_ℕ, coded_ℤ, coded_bool, coded×, coded⊎}
use Rattle.std.proofs.Common.{ap, ◌∙◌, inl, inr}
use Rattle.dcx_shape.specs.declared.place.Place.{Place}
use Rattle.dcx_shape.specs.contracts.place.Place.{the_row as place_row}
use Rattle.dcx_atom.specs.declared.array.Array.{Array}
use Rattle.dcx_atom.specs.contracts.array.Array.{the_row as array_row}
use Rattle.dcx_syntax.specs.declared.tree.Module.{Module}
use Rattle.dcx_syntax.specs.contracts.tree.Module.{the_row as module_row}
use Rattle.dcx_tree.specs.declared.constraint.Sense.{Sense}
use Rattle.dcx_tree.specs.contracts.constraint.Sense.{the_row as sense_row}
use Rattle.dcx_tree.specs.declared.constraint.Constraint.{Constraint}
use Rattle.dcx_tree.specs.contracts.constraint.Constraint.{the_row as constraint_row}
use Rattle.dcx_script_values.specs.Values.{Value, Values, plain, text, truth, nothing, tuple, list, range, library, expression, constraint, objective, problem, result, end, item}

-- a value that holds something, and no other value
abbrev pub Leaf : Type 0
Leaf = Array ⊎ (List ℕ ⊎ (Bool ⊎ ((ℤ × (ℤ × ℕ)) ⊎ (Module ⊎ (ℕ ⊎ (Constraint ⊎ (Sense × (ℕ × Place))))))))

abbrev pub leaf_code : Coded Leaf
leaf_code =
    coded⊎ array_row.coded (coded⊎ (coded_list coded_ℕ) (coded⊎ coded_bool (coded⊎ (coded× coded_ℤ (coded× coded_ℤ coded_ℕ))
    (coded⊎ module_row.coded (coded⊎ coded_ℕ (coded⊎ constraint_row.coded (coded× sense_row.coded (coded× coded_ℕ place_row.coded))))))))

abbrev pub leaf : Leaf → Value
leaf (inl a) = plain a
leaf (inr (inl t)) = text t
leaf (inr (inr (inl b))) = truth b
leaf (inr (inr (inr (inl r)))) = range r.0 r.1.0 r.1.1
leaf (inr (inr (inr (inr (inl m))))) = library m
leaf (inr (inr (inr (inr (inr (inl i)))))) = expression i
leaf (inr (inr (inr (inr (inr (inr (inl c))))))) = constraint c
leaf (inr (inr (inr (inr (inr (inr (inr o))))))) = objective o.0 o.1.0 o.1.1

-- a leaf, or what is made of what stands before
abbrev pub Mark : Type 0
Mark = Leaf ⊎ ℕ

-- what was read so far: a value, or items
abbrev pub Entry : Type 0
Entry = Value ⊎ Values

abbrev mutual
  -- the marks of a value, and of items, before others
  pub value_marks : Value → List Mark → List Mark
  value_marks (plain a) more = inl (inl a) ∷ more
  value_marks (text t) more = inl (inr (inl t)) ∷ more
  value_marks (truth b) more = inl (inr (inr (inl b))) ∷ more
  value_marks (range first step n) more = inl (inr (inr (inr (inl (first, (step, n)))))) ∷ more
  value_marks (library m) more = inl (inr (inr (inr (inr (inl m))))) ∷ more
  value_marks (expression i) more = inl (inr (inr (inr (inr (inr (inl i)))))) ∷ more
  value_marks (constraint c) more = inl (inr (inr (inr (inr (inr (inr (inl c))))))) ∷ more
  value_marks (objective sense i place) more = inl (inr (inr (inr (inr (inr (inr (inr (sense, (i, place))))))))) ∷ more
  value_marks nothing more = inr 0 ∷ more
  value_marks problem more = inr 1 ∷ more
  value_marks result more = inr 2 ∷ more
  value_marks (list vs) more = items_marks vs (inr 3 ∷ more)
  value_marks (tuple vs) more = items_marks vs (inr 4 ∷ more)

  pub items_marks : Values → List Mark → List Mark
  items_marks end more = inr 5 ∷ more
  items_marks (item v vs) more = items_marks vs (value_marks v (inr 6 ∷ more))

abbrev pub listed : List Entry → List Entry
listed (inr vs ∷ st) = inl (list vs) ∷ st
listed st = st

abbrev pub paired : List Entry → List Entry
paired (inr vs ∷ st) = inl (tuple vs) ∷ st
paired st = st

abbrev pub longer : List Entry → List Entry
longer (inl v ∷ inr vs ∷ st) = inr (item v vs) ∷ st
longer st = st

abbrev pub made : ℕ → List Entry → List Entry
made zero st = inl nothing ∷ st
made (suc zero) st = inl problem ∷ st
made (suc (suc zero)) st = inl result ∷ st
made (suc (suc (suc zero))) st = listed st
made (suc (suc (suc (suc zero)))) st = paired st
made (suc (suc (suc (suc (suc zero))))) st = inr end ∷ st
made (suc (suc (suc (suc (suc (suc n)))))) st = longer st

abbrev pub next : Mark → List Entry → List Entry
next (inl x) st = inl (leaf x) ∷ st
next (inr n) st = made n st

abbrev pub read_marks : List Mark → List Entry → List Entry
read_marks [] st = st
read_marks (m ∷ ms) st = read_marks ms (next m st)

mutual
  pub read-value : (v : Value) (more : List Mark) (st : List Entry) → read_marks (value_marks v more) st ≡ read_marks more (inl v ∷ st)
  read-value (plain a) more st = refl
  read-value (text t) more st = refl
  read-value (truth b) more st = refl
  read-value (range first step n) more st = refl
  read-value (library m) more st = refl
  read-value (expression i) more st = refl
  read-value (constraint c) more st = refl
  read-value (objective sense i place) more st = refl
  read-value nothing more st = refl
  read-value problem more st = refl
  read-value result more st = refl
  read-value (list vs) more st = read-items vs (inr 3 ∷ more) st
  read-value (tuple vs) more st = read-items vs (inr 4 ∷ more) st

  pub read-items : (vs : Values) (more : List Mark) (st : List Entry) → read_marks (items_marks vs more) st ≡ read_marks more (inr vs ∷ st)
  read-items end more st = refl
  read-items (item v vs) more st = read-items vs (value_marks v (inr 6 ∷ more)) st ∙ read-value v (inr 6 ∷ more) (inr vs ∷ st)

abbrev pub top : List Entry → Values
top (inr vs ∷ st) = vs
top st = end

-- the items of a list as the logic stores them
abbrev pub values_code : Coded Values
values_code = code_by (List Mark) (coded_list (coded⊎ leaf_code coded_ℕ)) (λ vs. items_marks vs []) (λ ms. top (read_marks ms [])) (λ vs. ap top (read-items vs [] []))

abbrev pub first_of : Values → Value
first_of end = nothing
first_of (item v vs) = v

-- a value is stored as the list of it alone
abbrev pub value_code : Coded Value
value_code = code_by Values values_code (λ v. item v end) first_of (λ v. refl)
