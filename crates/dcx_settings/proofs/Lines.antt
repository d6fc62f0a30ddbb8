-- Reading lines, step by step.
use Rattle.std.proofs.Common.{◌≡◌, ℕ, ◌<◌, Bool, true, false, List, [], ◌∷◌, ◌++◌, length, Err, Bor, cond, refl, sym, ap, ◌∙◌, subst, arith}
use mathlib.Core.Bool.{or-false}
use Rattle.std.specs.Prelude.{bytes_eq, ◌||◌}
use Rattle.std.specs.List.{list_any}
use Rattle.std.specs.Ordering.{nat_cmp}
use Rattle.std.specs.BTreeMap.{is_at}
use Rattle.std.specs.Cmp.Lexicographic.{slice_cmp}
use Rattle.std.specs.BTreeSet.{BTreeSet, Updates}
use Rattle.std.proofs.lemmas.Map.Text.{is_eq-slice_cmp}
use Rattle.std.proofs.lemmas.List.{length-append, map-append}
use Rattle.dcx_tokens.specs.declared.token.Token.{Token}
use Rattle.dcx_settings.specs.Terminal.{Terminal, name, equal, semicolon, open_curly, close_curly, newline, terminals}
use Rattle.dcx_settings.specs.Grammar.{Item, Line, items, names_of, is_among, are_new, IsGoodValue}
use Rattle.dcx_settings.specs.Machine.{at, fresh, opened, closed, next_item, named, value_read}
use Rattle.dcx_settings.specs.Meaning.{IsItemOf, AreItemsOf, IsLineOf, AreLinesOf}
use Rattle.dcx_settings.specs.declared.settings.SettingItem.{SettingItem}
use Rattle.dcx_settings.specs.declared.stop.Stop.{Stop}
use Rattle.dcx_settings.specs.declared.stop.Stop.TheVariants.{Memory, At}
use Rattle.dcx_settings.specs.Steps.{read, read_by, Lacks, LacksName, IsStopAt, HasNames, ItemStopsAt, IsNewItemRead, NewItemStopsAt, GainsName, AreItemsRead, IsLineRead, LineStopsAt, AreLinesRead}
use Rattle.dcx_settings.specs.Reading.{StopsUnexpected}
use Rattle.dcx_settings.specs.Meaning.{AreSettings}
use Rattle.dcx_settings.proofs.Facts.{every_more}
use Rattle.dcx_settings.proofs.Soundness.{new_more}
use Rattle.dcx_settings.proofs.Whole.{read_lines, read_unexpected}

-- ---- an item behind its name
pub item_unnamed : (n text : List ℕ) (ts : List Token) (s : Stop) → IsStopAt ts s → Lacks equal (terminals text ts) → ItemStopsAt n text (terminals text ts) s
item_unnamed n text ts Memory a l = tt
item_unnamed n text ts (At there) a l = λ lines is. other lines is (terminals text ts) l ∙ ap (λ xs. Err (terminals text xs)) (sym a)
  where
    other : (lines : List Line) (is : List Item) (us : List Terminal) → Lacks equal us → read us (at lines (named is n)) ≡ Err us
    other lines is [] l = refl
    other lines is (equal ∷ us) l = absurd (l us refl)
    other lines is (t ∷ us) l = refl

-- ---- names
among_more : (ms : List (List ℕ)) (m n : List ℕ) → is_among (ms ++ m ∷ []) n ≡ (is_among ms n || bytes_eq m n)
among_more [] m n = or-false (bytes_eq m n)
among_more (k ∷ ms) m n = by (bytes_eq k n) _ _ _ (among_more ms m n)
  where
    by : (b c d e : Bool) → c ≡ (d || e) → (b || c) ≡ ((b || d) || e)
    by true c d e h = refl
    by false c d e h = h

pub gains_name : (old new : BTreeSet (Bor (List ℕ))) (n : Bor (List ℕ)) → Updates (λ x y. slice_cmp nat_cmp x.now y.now) old new n true → GainsName old new n.now
gains_name old new n u = λ names h q. u.0 q ∙ by _ _ _ _ (is_eq-slice_cmp n.now q.now) (h q) ∙ sym (among_more names n.now q.now)
  where
    by : (a b c d : Bool) → a ≡ b → c ≡ d → cond a true c ≡ (d || b)
    by true true c true e f = refl
    by true true c false e f = refl
    by false false c true e f = f
    by false false c false e f = f
    by true false c d e f = cc
    by false true c d e f = cc

pub no_names : (set : BTreeSet (Bor (List ℕ))) → set.keys ≡ [] → HasNames set []
no_names set e = λ n. ap (list_any (is_at (λ x. slice_cmp nat_cmp n.now x.now))) e

-- ---- a new item
read_nameless : (lines : List Line) (is : List Item) (us : List Terminal) → LacksName us → read us (at lines (next_item is)) ≡ Err us
read_nameless lines is [] l = refl
read_nameless lines is (name n ∷ us) l = absurd (l n us refl)
read_nameless lines is (t ∷ us) l = refl

pub nameless_stops : (set : BTreeSet (Bor (List ℕ))) (us : List Terminal) → LacksName us → (lines : List Line) (is : List Item) → HasNames set (names_of is)
    → read us (at lines (next_item is)) ≡ Err us
nameless_stops set us l lines is k = read_nameless lines is us l

-- ---- items of a line
-- a line that begins with no brace has items
read_begun : (lines : List Line) (us : List Terminal) → 0 < length us → Lacks open_curly us → read us (at lines fresh) ≡ read us (at lines (next_item []))
read_begun lines [] some l = absurd (omega (arith, some))
read_begun lines (open_curly ∷ us) some l = absurd (l us refl)
read_begun lines (t ∷ us) some l = refl

items_more : (is : List Item) (found : List SettingItem) (i : Item) (item : SettingItem) → AreItemsOf is found → IsItemOf i item → AreItemsOf (is ++ i ∷ []) (found ++ item ∷ [])
items_more [] [] i item h k = (k, tt)
items_more (j ∷ is) (x ∷ found) i item h k = (h.0, items_more is found i item h.1 k)
items_more [] (x ∷ found) i item h k = absurd h
items_more (j ∷ is) [] i item h k = absurd h

names_more : (is : List Item) (i : Item) → names_of (is ++ i ∷ []) ≡ names_of is ++ i.called ∷ []
names_more is i = map-append (λ j. j.called) is (i ∷ [])

gained : (old new : BTreeSet (Bor (List ℕ))) (item : SettingItem) (is : List Item) (i : Item) → GainsName old new item.name → item.name ≡ i.called → HasNames old (names_of is)
    → HasNames new (names_of (is ++ i ∷ []))
gained old new item is i g e h = subst (HasNames new) (ap (λ n. names_of is ++ n ∷ []) e ∙ sym (names_more is i)) (g (names_of is) h)

-- the first item
pub items_first : (empty set : BTreeSet (Bor (List ℕ))) → HasNames empty [] → (us rest : List Terminal) (item : SettingItem) → GainsName empty set item.name
    → IsNewItemRead empty us item rest → AreItemsRead set us (item ∷ []) rest
items_first empty set none us rest item g h =
    let i : Item = record { called = h.called; value = h.value } in
    record {
      before = [];
      last = i;
      good = record { some = omega arith; values = (h.good, tt); distinct = refl };
      items_are = (h.item_is, tt);
      names = gained empty set item [] i g h.item_is.name_is none;
      reads = λ lines. h.reads lines [] none;
    }

module _ (set : BTreeSet (Bor (List ℕ))) (us : List Terminal) (found : List SettingItem) (from : List Terminal) (h : AreItemsRead set us found from) where
  read_semicolon : (rest : List Terminal) → from ≡ semicolon ∷ rest → (lines : List Line) → read us (at lines (next_item [])) ≡ read rest (at lines (next_item (h.before ++ h.last ∷ [])))
  read_semicolon rest e lines = h.reads lines ∙ ap (read_by (value_read lines h.before h.last.called h.last.value)) e

  -- one more item
  pub items_next : (rest : List Terminal) → from ≡ semicolon ∷ rest → (more : BTreeSet (Bor (List ℕ))) (item : SettingItem) (behind : List Terminal) → GainsName set more item.name
      → IsNewItemRead set rest item behind → AreItemsRead more us (found ++ item ∷ []) behind
  items_next rest e more item behind g k =
      let i : Item = record { called = k.called; value = k.value } in
      let is = h.before ++ h.last ∷ [] in
      let l = length-append is (i ∷ []) in
      record {
        before = is;
        last = i;
        good = record {
          some = omega (arith, l);
          values = every_more (λ j. IsGoodValue j.value) is i h.good.values k.good;
          distinct = subst (λ ns. are_new [] ns ≡ true) (sym (names_more is i)) (new_more [] (names_of is) i.called h.good.distinct (k.new (names_of is) h.names));
        };
        items_are = items_more is found i item h.items_are k.item_is;
        names = gained set more item is i g k.item_is.name_is h.names;
        reads = λ lines. read_semicolon rest e lines ∙ k.reads lines is h.names;
      }

  -- the next item stops
  pub items_stop : (rest : List Terminal) → from ≡ semicolon ∷ rest → (some : 0 < length us) → Lacks open_curly us → (text : List ℕ) (s : Stop) → NewItemStopsAt set text rest s → LineStopsAt text us s
  items_stop rest e some l text Memory k = tt
  items_stop rest e some l text (At there) k = λ lines. read_begun lines us some l ∙ read_semicolon rest e lines ∙ k lines (h.before ++ h.last ∷ []) h.names

  -- the line ends
  pub items_end : (rest : List Terminal) → from ≡ newline ∷ rest → (some : 0 < length us) → Lacks open_curly us → IsLineRead us found rest
  items_end rest e some l = record {
    is_line = items (h.before ++ h.last ∷ []);
    good = h.good;
    line_is = h.items_are;
    reads = λ lines. read_begun lines us some l ∙ h.reads lines ∙ ap (read_by (value_read lines h.before h.last.called h.last.value)) e;
  }

  -- the line goes on with neither
  pub items_open : (text : List ℕ) (ts : List Token) → from ≡ terminals text ts → (some : 0 < length us) → Lacks open_curly us → Lacks semicolon from → (s : Stop) → IsStopAt ts s
      → Lacks newline from → LineStopsAt text us s
  items_open text ts d some l c Memory a m = tt
  items_open text ts d some l c (At there) a m = λ lines. read_begun lines us some l ∙ h.reads lines ∙ other lines from c m ∙ ap Err (d ∙ ap (terminals text) (sym a))
    where
      other : (lines : List Line) (vs : List Terminal) → Lacks semicolon vs → Lacks newline vs → read_by (value_read lines h.before h.last.called h.last.value) vs ≡ Err vs
      other lines [] c m = refl
      other lines (semicolon ∷ vs) c m = absurd (c vs refl)
      other lines (newline ∷ vs) c m = absurd (m vs refl)
      other lines (t ∷ vs) c m = refl

-- the first item stops
pub items_none : (set : BTreeSet (Bor (List ℕ))) → HasNames set [] → (text : List ℕ) (us : List Terminal) (s : Stop) → 0 < length us → Lacks open_curly us
    → NewItemStopsAt set text us s → LineStopsAt text us s
items_none set none text us Memory some l h = tt
items_none set none text us (At there) some l h = λ lines. read_begun lines us some l ∙ h lines [] none

-- ---- a line with nothing
pub nothing_unclosed : (text : List ℕ) (us : List Terminal) (ts : List Token) (s : Stop) → us ≡ open_curly ∷ terminals text ts → IsStopAt ts s
    → Lacks close_curly (terminals text ts) → LineStopsAt text us s
nothing_unclosed text us ts Memory e a l = tt
nothing_unclosed text us ts (At there) e a l = λ lines. ap (λ xs. read xs (at lines fresh)) e ∙ other lines (terminals text ts) l ∙ ap (λ xs. Err (terminals text xs)) (sym a)
  where
    other : (lines : List Line) (vs : List Terminal) → Lacks close_curly vs → read vs (at lines opened) ≡ Err vs
    other lines [] l = refl
    other lines (close_curly ∷ vs) l = absurd (l vs refl)
    other lines (t ∷ vs) l = refl

pub nothing_unended : (text : List ℕ) (us vs : List Terminal) (ts : List Token) (s : Stop) → us ≡ open_curly ∷ vs → vs ≡ close_curly ∷ terminals text ts → IsStopAt ts s
    → Lacks newline (terminals text ts) → LineStopsAt text us s
nothing_unended text us vs ts Memory e f a l = tt
nothing_unended text us vs ts (At there) e f a l = λ lines. ap (λ xs. read xs (at lines fresh)) (e ∙ ap (λ xs. open_curly ∷ xs) f) ∙ other lines (terminals text ts) l
    ∙ ap (λ xs. Err (terminals text xs)) (sym a)
  where
    other : (lines : List Line) (vs : List Terminal) → Lacks newline vs → read vs (at lines closed) ≡ Err vs
    other lines [] l = refl
    other lines (newline ∷ vs) l = absurd (l vs refl)
    other lines (t ∷ vs) l = refl

-- ---- lines
lines_of_more : (ls : List Line) (found : List (List SettingItem)) (l : Line) (line : List SettingItem) → AreLinesOf ls found → IsLineOf l line → AreLinesOf (ls ++ l ∷ []) (found ++ line ∷ [])
lines_of_more [] [] l line h k = (k, tt)
lines_of_more (j ∷ ls) (x ∷ found) l line h k = (h.0, lines_of_more ls found l line h.1 k)
lines_of_more [] (x ∷ found) l line h k = absurd h
lines_of_more (j ∷ ls) [] l line h k = absurd h

pub lines_more : (us from rest : List Terminal) (found : List (List SettingItem)) (line : List SettingItem) → AreLinesRead us found from → IsLineRead from line rest
    → AreLinesRead us (found ++ line ∷ []) rest
lines_more us from rest found line h k = record {
  lines = h.lines ++ k.is_line ∷ [];
  lines_are = lines_of_more h.lines found k.is_line line h.lines_are k.line_is;
  reads = h.reads ∙ k.reads h.lines;
}

pub lines_stop : (us from : List Terminal) (found : List (List SettingItem)) (text : List ℕ) (s : Stop) → AreLinesRead us found from → LineStopsAt text from s → StopsUnexpected text us s
lines_stop us from found text Memory h k = tt
lines_stop us from found text (At there) h k = read_unexpected us (terminals text there.now) (h.reads ∙ k h.lines)

pub lines_end : (us from : List Terminal) (found : List (List SettingItem)) → length from ≡ 0 → AreLinesRead us found from → AreSettings us found
lines_end us [] found e h = record { lines = h.lines; spelled = read_lines us h.lines h.reads; lines_are = h.lines_are }
lines_end us (t ∷ ts) found e h = absurd (omega (arith, e))
