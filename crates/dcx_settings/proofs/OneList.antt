-- Bytes spell one list of settings.
use Rattle.std.proofs.Common.{◌≡◌, List, [], ◌∷◌, map, refl, sym, ap₂, ◌∙◌, subst}
use Rattle.dcx_frac.specs.declared.fraction.Frac.{Frac}
use Rattle.dcx_frac.specs.Frac.{value}
use Rattle.dcx_frac.proofs.Parts.{value_injective}
use Rattle.dcx_tokens.proofs.OneReading.{one_reading}
use Rattle.dcx_settings.specs.declared.settings.SettingItem.{SettingItem}
use Rattle.dcx_settings.specs.Terminal.{Terminal, terminals}
use Rattle.dcx_settings.specs.Grammar.{Item, Line, nothing, items}
use Rattle.dcx_settings.specs.Meaning.{IsItemOf, AreItemsOf, IsLineOf, AreLinesOf, AreSettings}
use Rattle.dcx_settings.specs.File.{AreFewSettings}
use Rattle.dcx_settings.specs.Laws.{SettingsAreOne}
use Rattle.dcx_settings.proofs.Viability.{one_spelling}
use Rattle.dcx_shape.proofs.OneShape.{shape_from_sides}

-- ---- values
-- fractions of the same values are equal
one_numbers : (fs gs : List Frac) → map value fs ≡ map value gs → fs ≡ gs
one_numbers [] [] e = refl
one_numbers (f ∷ fs) (g ∷ gs) e =
    let first : value f ≡ value g = cc in
    let rest : map value fs ≡ map value gs = cc in
    ap₂ (λ x xs. x ∷ xs) (value_injective f g first) (one_numbers fs gs rest)
one_numbers [] (g ∷ gs) e = cc
one_numbers (f ∷ fs) [] e = cc

one_item : (i : Item) (a b : SettingItem) → IsItemOf i a → IsItemOf i b → a ≡ b
one_item i a b h k =
    let name = h.name_is ∙ sym k.name_is in
    let shape = shape_from_sides a.shape b.shape (h.sides ∙ sym k.sides) in
    let numbers = one_numbers a.numbers b.numbers (h.numbers_are ∙ sym k.numbers_are) in
    λ j. record { name = name j; shape = shape j; numbers = numbers j }

-- ---- lists
one_items : (is : List Item) (as' bs : List SettingItem) → AreItemsOf is as' → AreItemsOf is bs → as' ≡ bs
one_items [] [] [] h k = refl
one_items (i ∷ is) (a ∷ as') (b ∷ bs) h k = ap₂ (λ x xs. x ∷ xs) (one_item i a b h.0 k.0) (one_items is as' bs h.1 k.1)
one_items [] (a ∷ as') bs h k = absurd h
one_items [] [] (b ∷ bs) h k = absurd k
one_items (i ∷ is) [] bs h k = absurd h
one_items (i ∷ is) (a ∷ as') [] h k = absurd k

one_line : (l : Line) (as' bs : List SettingItem) → IsLineOf l as' → IsLineOf l bs → as' ≡ bs
one_line nothing as' bs h k = h ∙ sym k
one_line (items is) as' bs h k = one_items is as' bs h k

one_lines : (ls : List Line) (as' bs : List (List SettingItem)) → AreLinesOf ls as' → AreLinesOf ls bs → as' ≡ bs
one_lines [] [] [] h k = refl
one_lines (l ∷ ls) (a ∷ as') (b ∷ bs) h k = ap₂ (λ x xs. x ∷ xs) (one_line l a b h.0 k.0) (one_lines ls as' bs h.1 k.1)
one_lines [] (a ∷ as') bs h k = absurd h
one_lines [] [] (b ∷ bs) h k = absurd k
one_lines (l ∷ ls) [] bs h k = absurd h
one_lines (l ∷ ls) (a ∷ as') [] h k = absurd k

one_settings : (tokens : List Terminal) (settings others : List (List SettingItem)) → AreSettings tokens settings → AreSettings tokens others → settings ≡ others
one_settings tokens settings others h k =
    let same = one_spelling tokens k.lines h.lines k.spelled h.spelled in
    one_lines h.lines settings others h.lines_are (subst (λ ls. AreLinesOf ls others) same k.lines_are)

pub settings_one : SettingsAreOne
settings_one bytes settings others s t =
    let same = one_reading t.all.tokens.lexed s.all.tokens.lexed in
    one_settings (terminals bytes s.tokens) settings others s.settings_are.spelled (subst (λ ts. AreFewSettings (terminals bytes ts) others) same.0 t.settings_are).spelled
