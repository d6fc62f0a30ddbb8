-- A line is laid over a setting item by item, and lines one after the other.
use Rattle.std.proofs.Common.{◌≡◌, ℕ, zero, suc, ◌<◌, ◌+◌, List, [], ◌∷◌, ◌++◌, length, get_or, take, sym, ap, ◌∙◌, subst, arith}
use Rattle.std.proofs.lemmas.List.{take_more}
use Rattle.dcx_atom.specs.declared.array.Array.{Array}
use Rattle.dcx_point.specs.Pairs.{Pairs, with_array}
use Rattle.dcx_settings.specs.declared.settings.SettingItem.{SettingItem}
use Rattle.dcx_settings.specs.Grammar.{Every}
use Rattle.dcx_overlay.specs.Settings.{HasNumbers, LaidOver, AreLaidOver}

-- one item more
pub laid_more : (s : Pairs) (items : List SettingItem) (item : SettingItem) (t u : Pairs) (a : Array) → LaidOver s items t → HasNumbers item a → u ≡ with_array t item.name a
    → LaidOver s (items ++ item ∷ []) u
laid_more s [] item t u a h n e = (a, n, e ∙ ap (λ z. with_array z item.name a) h)
laid_more s (x ∷ xs) item t u a (b, m, h) n e = (b, m, laid_more (with_array s x.name b) xs item t u a h n e)

-- one line more
pub lines_more : (s : Pairs) (lines : List (List SettingItem)) (line : List SettingItem) (ts : List Pairs) (t : Pairs) → AreLaidOver s lines ts → LaidOver s line t
    → AreLaidOver s (lines ++ line ∷ []) (ts ++ t ∷ [])
lines_more s [] line [] t h k = (k, tt)
lines_more s [] line (u ∷ us) t h k = absurd h
lines_more s (l ∷ ls) line [] t h k = absurd h
lines_more s (l ∷ ls) line (u ∷ us) t (x, h) k = (x, lines_more s ls line us t h k)

-- ---- at a place of a list
-- what holds of each holds there
pub every_at : {A : Type 0} (P : A → Type 0) (xs : List A) (i : ℕ) (d : A) → i < length xs → Every P xs → P (get_or xs i d)
every_at P [] i d lt h = absurd (omega arith)
every_at P (x ∷ xs) zero d lt h = h.0
every_at P (x ∷ xs) (suc i) d lt h = every_at P xs i d (omega arith) h.1

-- those before the next place are those before this one, and the one that stands here
next_taken : {A : Type 0} (xs : List A) (i : ℕ) (x : A) → i < length xs → x ≡ get_or xs i x → take i xs ++ x ∷ [] ≡ take (i + 1) xs
next_taken xs i x lt is = ap (λ y. take i xs ++ y ∷ []) is ∙ sym (take_more xs i x lt)

pub item_more : (s : Pairs) (items : List SettingItem) (i : ℕ) (item : SettingItem) (t u : Pairs) (a : Array) → i < length items → item ≡ get_or items i item → LaidOver s (take i items) t
    → HasNumbers item a → u ≡ with_array t item.name a
    → LaidOver s (take (i + 1) items) u
item_more s items i item t u a lt is h n e = subst (λ xs. LaidOver s xs u) (next_taken items i item lt is) (laid_more s (take i items) item t u a h n e)

pub line_more : (s : Pairs) (lines : List (List SettingItem)) (i : ℕ) (line : List SettingItem) (ts us : List Pairs) (t : Pairs) → i < length lines → line ≡ get_or lines i line
    → AreLaidOver s (take i lines) ts → LaidOver s line t → us ≡ ts ++ t ∷ []
    → AreLaidOver s (take (i + 1) lines) us
line_more s lines i line ts us t lt is h k e =
    subst (λ xs. AreLaidOver s xs us) (next_taken lines i line lt is) (subst (AreLaidOver s (take i lines ++ line ∷ [])) (sym e) (lines_more s (take i lines) line ts t h k))
