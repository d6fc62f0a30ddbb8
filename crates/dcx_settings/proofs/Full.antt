-- Each value has a number for each entry of its shape.
use Rattle.std.proofs.Common.{◌≡◌, ℕ, ◌*◌, List, [], ◌∷◌, length, refl, sym, ap, ◌∙◌}
use Rattle.dcx_shape.specs.Sides.{entries_of}
use Rattle.dcx_settings.specs.declared.settings.SettingItem.{SettingItem}
use Rattle.dcx_settings.specs.Grammar.{Number, Value, one, row, matrix, Item, Line, nothing, items, Every, row_length, AreGoodRows, IsGoodValue, IsGoodLine}
use Rattle.dcx_settings.specs.Meaning.{value_sides, joined, value_numbers, IsItemOf, IsFull, AreItemsOf, IsLineOf, AreLinesOf}
use Rattle.dcx_settings.specs.Laws.{ItemsAreFull}
use Rattle.dcx_settings.proofs.Matrices.{total}
use Rattle.dcx_settings.proofs.Rows.{same_length}

matrix_full : (width : ℕ) (rows : List (List Number)) → AreGoodRows width rows → length (joined rows) ≡ length rows * row_length rows
matrix_full width [] h = refl
matrix_full width (r ∷ rs) h = total width (r ∷ rs) h.rows_are ∙ ap (λ w. length (r ∷ rs) * w) (sym h.rows_are.0.1)

value_full : (v : Value) → IsGoodValue v → length (value_numbers v) ≡ entries_of (value_sides v)
value_full (one x) h = refl
value_full (row xs) h = refl
value_full (matrix rows) h = matrix_full h.0 rows h.1

item_full : (i : Item) (item : SettingItem) → IsGoodValue i.value → IsItemOf i item → IsFull item
item_full i item g h = same_length (value_numbers i.value) item.numbers h.numbers_are ∙ value_full i.value g ∙ ap entries_of (sym h.sides)

items_full : (is : List Item) (line : List SettingItem) → Every (λ i. IsGoodValue i.value) is → AreItemsOf is line → Every IsFull line
items_full [] [] g h = tt
items_full (i ∷ is) (item ∷ others) g h = (item_full i item g.0 h.0, items_full is others g.1 h.1)
items_full [] (item ∷ others) g h = absurd h
items_full (i ∷ is) [] g h = absurd h

no_items_full : (line : List SettingItem) → line ≡ [] → Every IsFull line
no_items_full [] e = tt
no_items_full (item ∷ others) e = cc

line_full : (l : Line) (line : List SettingItem) → IsGoodLine l → IsLineOf l line → Every IsFull line
line_full nothing line g h = no_items_full line h
line_full (items is) line g h = items_full is line g.values h

lines_full : (ls : List Line) (lines : List (List SettingItem)) → Every IsGoodLine ls → AreLinesOf ls lines → Every (Every IsFull) lines
lines_full [] [] g h = tt
lines_full (l ∷ ls) (line ∷ others) g h = (line_full l line g.0 h.0, lines_full ls others g.1 h.1)
lines_full [] (line ∷ others) g h = absurd h
lines_full (l ∷ ls) [] g h = absurd h

pub items_full_in : ItemsAreFull
items_full_in bytes settings s = let t = s.settings_are.spelled in lines_full t.lines settings t.spelled.good t.lines_are
