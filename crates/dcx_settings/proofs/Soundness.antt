-- What is read so far is spelled by the tokens so far, and is good.
use Rattle.std.proofs.Common.{◌≡◌, ℕ, ◌+◌, ◌*◌, ◌<◌, ◌≤◌, Bool, true, false, not, IsTrue, ℤ, pos, List, [], ◌∷◌, ◌++◌, map, length, Option, Some, None, Result, Ok}
use Rattle.std.proofs.Common.{Err, refl, sym, ap, ◌∙◌, subst, arith, append_assoc}
use Rattle.std.specs.Prelude.{⊤, nat_le, if◌then◌else◌}
use Rattle.std.proofs.lemmas.Bool.{and_from, and_parts, leb-true, eqb-true}
use Rattle.std.proofs.lemmas.List.{append-nil, map-append, length-append}
use Rattle.dcx_settings.specs.Terminal.{Terminal, name, digits, decimal, minus, slash, equal, comma, semicolon, open_square, close_square, open_curly, close_curly, newline}
use Rattle.dcx_settings.specs.Grammar.{integer, point, quotient, sign_text, Number, number_text, Value, one, matrix, preceded, separated, row_text, value_text}
use Rattle.dcx_settings.specs.Grammar.{Item, item_text, Line, nothing, items, line_text, settings_text, names_of, is_among, are_new, Every, IsGoodNumber}
use Rattle.dcx_settings.specs.Grammar.{IsGoodRow, row_length, AreGoodRows, IsGoodValue, IsGoodLine}
use Rattle.dcx_settings.specs.Machine.{Part, start, negated, whole_read, divided, complete, Outer, no_matrix, rows_before, Context, alone, in_row, Phase, fresh}
use Rattle.dcx_settings.specs.Machine.{opened, closed, next_item, named, assigned, bracket, number, row_closed, next_row, ended, State, at, when, is_zero}
use Rattle.dcx_settings.specs.Machine.{number_of, size_begun, number_begun, quotient_read, divisor_read, reading, with_item, value_read, limit, may_end}
use Rattle.dcx_settings.specs.Machine.{row_ended, in_row_read, number_read, whole_read_on, after_fresh, after_opened, after_closed, after_semicolon}
use Rattle.dcx_settings.specs.Machine.{after_name, after_equal, after_bracket, in_number, after_row, before_row, step, go, run}
use Rattle.dcx_settings.proofs.Facts.{every_more}

-- ---- how a state is spelled
abbrev pub part_text : Part → List Terminal
part_text start = []
part_text negated = minus ∷ []
part_text (whole_read s f) = sign_text s ++ digits f ∷ []
part_text (divided s f) = sign_text s ++ digits f ∷ slash ∷ []
part_text (complete x) = number_text x

-- each with a separator behind it
abbrev pub followed : Terminal → List (List Terminal) → List Terminal
followed by [] = []
followed by (text ∷ texts) = text ++ by ∷ followed by texts

abbrev pub outer_text : Outer → List Terminal
outer_text no_matrix = []
outer_text (rows_before rows) = open_square ∷ followed comma (map row_text rows)

abbrev pub context_text : Context → List Terminal
context_text alone = []
context_text (in_row o xs) = outer_text o ++ open_square ∷ followed comma (map number_text xs)

-- the items before, and the name with its sign
abbrev pub item_front : List Item → List ℕ → List Terminal
item_front is n = followed semicolon (map item_text is) ++ name n ∷ equal ∷ []

abbrev pub phase_text : Phase → List Terminal
phase_text fresh = []
phase_text opened = open_curly ∷ []
phase_text closed = open_curly ∷ close_curly ∷ []
phase_text (next_item is) = followed semicolon (map item_text is)
phase_text (named is n) = followed semicolon (map item_text is) ++ name n ∷ []
phase_text (assigned is n) = item_front is n
phase_text (bracket is n) = item_front is n ++ open_square ∷ []
phase_text (number is n c part) = item_front is n ++ (context_text c ++ part_text part)
phase_text (row_closed is n rows) = item_front is n ++ (open_square ∷ separated comma (map row_text rows))
phase_text (next_row is n rows) = item_front is n ++ (open_square ∷ followed comma (map row_text rows))
phase_text (ended is n v) = item_front is n ++ value_text v

abbrev pub state_text : State → List Terminal
state_text s = settings_text s.lines ++ phase_text s.phase

-- ---- separators
abbrev pub snoc : List Terminal → Terminal → List Terminal
snoc ts t = ts ++ t ∷ []

-- one more text behind those that are followed by separators
followed-more : (by : Terminal) (texts : List (List Terminal)) (text : List Terminal) → followed by (texts ++ text ∷ []) ≡ followed by texts ++ (text ++ by ∷ [])
followed-more by [] text = refl
followed-more by (t ∷ ts) text =
    ap (λ x. t ++ by ∷ x) (followed-more by ts text) ∙ sym (append_assoc t (by ∷ followed by ts) (text ++ by ∷ []))

preceded-more : (by : Terminal) (first : List Terminal) (texts : List (List Terminal)) (text : List Terminal) → first ++ preceded by (texts ++ text ∷ []) ≡ followed by (first ∷ texts) ++ text
preceded-more by first [] text = ap (λ x. first ++ by ∷ x) (append-nil text) ∙ sym (append_assoc first (by ∷ []) text)
preceded-more by first (t ∷ ts) text =
    ap (λ x. first ++ by ∷ x) (preceded-more by t ts text) ∙ sym (append_assoc first (by ∷ followed by (t ∷ ts)) text)

-- the last of some texts between separators
pub separated-more : (by : Terminal) (texts : List (List Terminal)) (text : List Terminal) → separated by (texts ++ text ∷ []) ≡ followed by texts ++ text
separated-more by [] text = append-nil text
separated-more by (first ∷ texts) text = preceded-more by first texts text

separated-followed : (by : Terminal) (texts : List (List Terminal)) (first : List Terminal) → followed by (first ∷ texts) ≡ separated by (first ∷ texts) ++ by ∷ []
separated-followed by [] first = ap (λ x. x ++ by ∷ []) (sym (append-nil first))
separated-followed by (t ∷ ts) first = ap (λ x. first ++ by ∷ x) (separated-followed by ts t) ∙ sym (append_assoc first (by ∷ separated by (t ∷ ts)) (by ∷ []))

-- ---- what is good of a state
pub record AreGoodBefore (is : List Item) : Type 0 where
  pub values : Every (λ i. IsGoodValue i.value) is
  pub distinct : IsTrue (are_new [] (names_of is))

-- the items before a new name
pub record IsGoodName (is : List Item) (n : List ℕ) : Type 0 where
  pub before : AreGoodBefore is
  pub new : is_among (names_of is) n ≡ false

abbrev pub IsGoodPart : Part → Type 0
IsGoodPart (complete x) = IsGoodNumber x
IsGoodPart _ = ⊤

-- rows of a width, with room for one more
abbrev pub IsGoodOuter : Outer → Type 0
IsGoodOuter no_matrix = ⊤
IsGoodOuter (rows_before []) = ⊤
IsGoodOuter (rows_before (r ∷ rs)) = AreGoodRows (length r) (r ∷ rs) × ((length (r ∷ rs) + 1) * length r ≤ 20000)

abbrev pub IsGoodContext : Context → Type 0
IsGoodContext alone = ⊤
IsGoodContext (in_row o xs) = IsGoodOuter o × Every IsGoodNumber xs × (length xs + 1 ≤ limit o)

abbrev pub IsGoodPhase : Phase → Type 0
IsGoodPhase fresh = ⊤
IsGoodPhase opened = ⊤
IsGoodPhase closed = ⊤
IsGoodPhase (next_item is) = AreGoodBefore is
IsGoodPhase (named is n) = IsGoodName is n
IsGoodPhase (assigned is n) = IsGoodName is n
IsGoodPhase (bracket is n) = IsGoodName is n
IsGoodPhase (number is n c part) = IsGoodName is n × IsGoodContext c × IsGoodPart part
IsGoodPhase (row_closed is n rows) = IsGoodName is n × AreGoodRows (row_length rows) rows × (length rows * row_length rows ≤ 20000)
IsGoodPhase (next_row is n rows) = IsGoodName is n × AreGoodRows (row_length rows) rows × ((length rows + 1) * row_length rows ≤ 20000)
IsGoodPhase (ended is n v) = IsGoodName is n × IsGoodValue v

pub record IsGoodState (s : State) : Type 0 where
  pub lines : Every IsGoodLine s.lines
  pub phase : IsGoodPhase s.phase

-- one more token leads to s
pub record Reaches (lines : List Line) (phase : Phase) (t : Terminal) (s : State) : Type 0 where
  pub text : state_text s ≡ snoc (state_text (at lines phase)) t
  pub good : IsGoodState s

-- ---- one more name that is new
pub new_more : (before ns : List (List ℕ)) (n : List ℕ) → are_new before ns ≡ true → is_among (before ++ ns) n ≡ false → are_new before (ns ++ n ∷ []) ≡ true
new_more before [] n h e = let f : is_among before n ≡ false = subst (λ ms. is_among ms n ≡ false) (append-nil before) e in rw f refl
new_more before (m ∷ ms) n h e =
    let parts = and_parts (not (is_among before m)) (are_new (before ++ m ∷ []) ms) h in
    and_from _ _ parts.0 (new_more (before ++ m ∷ []) ms n parts.1 (subst (λ xs. is_among xs n ≡ false) (sym (append_assoc before (m ∷ []) ms)) e))

pub settings_more : (lines : List Line) (line : Line) → settings_text (lines ++ line ∷ []) ≡ settings_text lines ++ line_text line
settings_more [] line = append-nil (line_text line)
settings_more (l ∷ ls) line = ap (λ x. line_text l ++ x) (settings_more ls line) ∙ sym (append_assoc (line_text l) (settings_text ls) (line_text line))

items_before : (is : List Item) (n : List ℕ) (v : Value) → AreGoodBefore is → is_among (names_of is) n ≡ false → IsGoodValue v → AreGoodBefore (with_item is n v)
items_before is n v b e g = record {
  values = every_more (λ i. IsGoodValue i.value) is (record { called = n; value = v }) b.values g;
  distinct = subst (λ ns. are_new [] ns ≡ true) (sym (map-append (λ (i : Item). i.called) is (record { called = n; value = v } ∷ []))) (new_more [] (names_of is) n b.distinct e);
}

some_items : (is : List Item) (n : List ℕ) (v : Value) → 0 < length (with_item is n v)
some_items is n v = let e = length-append is (record { called = n; value = v } ∷ []) in omega (arith, e)

-- ---- behind a value
item_more : (is : List Item) (n : List ℕ) (v : Value) → followed semicolon (map item_text (with_item is n v)) ≡ snoc (item_front is n ++ value_text v) semicolon
item_more is n v =
    ap (followed semicolon) (map-append item_text is (record { called = n; value = v } ∷ []))
    ∙ followed-more semicolon (map item_text is) (name n ∷ equal ∷ value_text v) ∙ simp append_assoc

item_last : (is : List Item) (n : List ℕ) (v : Value) → separated semicolon (map item_text (with_item is n v)) ≡ item_front is n ++ value_text v
item_last is n v =
    ap (separated semicolon) (map-append item_text is (record { called = n; value = v } ∷ []))
    ∙ separated-more semicolon (map item_text is) (name n ∷ equal ∷ value_text v) ∙ simp append_assoc

value_sound : (lines : List Line) (is : List Item) (n : List ℕ) (v : Value) (phase : Phase) → Every IsGoodLine lines → IsGoodName is n → IsGoodValue v
    → phase_text phase ≡ item_front is n ++ value_text v
    → (t : Terminal) (s : State) → value_read lines is n v t ≡ Some s → Reaches lines phase t s
value_sound lines is n v phase ls g h e semicolon s k =
    let to : at lines (next_item (with_item is n v)) ≡ s = cc in
    subst (Reaches lines phase semicolon) to (record {
      text = ap (λ x. settings_text lines ++ x) (item_more is n v ∙ ap (λ x. snoc x semicolon) (sym e)) ∙ sym (append_assoc (settings_text lines) (phase_text phase) (semicolon ∷ []));
      good = record { lines = ls; phase = items_before is n v g.before g.new h };
    })
value_sound lines is n v phase ls g h e newline s k =
    let to : at (lines ++ items (with_item is n v) ∷ []) fresh ≡ s = cc in
    let b = items_before is n v g.before g.new h in
    subst (Reaches lines phase newline) to (record {
      text = append-nil _ ∙ settings_more lines (items (with_item is n v)) ∙ ap (λ x. settings_text lines ++ (x ++ newline ∷ [])) (item_last is n v ∙ sym e) ∙ simp append_assoc;
      good = record { lines = every_more IsGoodLine lines (items (with_item is n v)) ls (record { some = some_items is n v; values = b.values; distinct = b.distinct }); phase = tt };
    })
value_sound lines is n v phase ls g h e t s k = cc

-- ---- steps that keep the lines before
-- the next phase is spelled by one more token
kept : (lines : List Line) (phase next : Phase) (t : Terminal) (s : State) → Every IsGoodLine lines → phase_text next ≡ snoc (phase_text phase) t → IsGoodPhase next
    → Some (at lines next) ≡ Some s → Reaches lines phase t s
kept lines phase next t s ls e g k =
    let to : at lines next ≡ s = cc in
    subst (Reaches lines phase t) to (record {
      text = ap (λ x. settings_text lines ++ x) e ∙ sym (append_assoc (settings_text lines) (phase_text phase) (t ∷ []));
      good = record { lines = ls; phase = g };
    })

-- where a test holds
kept_when : (b : Bool) (lines : List Line) (phase next : Phase) (t : Terminal) (s : State) → Every IsGoodLine lines → phase_text next ≡ snoc (phase_text phase) t
    → (b ≡ true → IsGoodPhase next) → when b (at lines next) ≡ Some s → Reaches lines phase t s
kept_when true lines phase next t s ls e g k = kept lines phase next t s ls e (g refl) k
kept_when false lines phase next t s ls e g k = cc

-- ---- behind a number of a row
-- a row of xs ends
row_sound : (is : List Item) (n : List ℕ) (o : Outer) (xs : List Number) → IsGoodName is n → IsGoodOuter o → IsGoodRow xs → length xs ≤ limit o → may_end o (length xs) ≡ true
    → IsGoodPhase (row_ended is n o xs)
row_sound is n no_matrix xs g h r l e = (g, (r, l))
row_sound is n (rows_before []) xs g h r l e = (g, record { some = omega arith; rows_are = ((r, refl), tt) }, omega (arith, l))
row_sound is n (rows_before (first ∷ rs)) xs g h r l e =
    let same : length xs ≡ length first = eqb-true (length xs) (length first) e in
    let more = length-append (first ∷ rs) (xs ∷ []) in
    let k = h.1 in
    (g, record { some = omega (arith, more); rows_are = every_more (λ ys. IsGoodRow ys × (length ys ≡ length first)) (first ∷ rs) xs h.0.rows_are (r, same) }, rw more k)

numbers_more : (xs : List Number) (x : Number) → followed comma (map number_text (xs ++ x ∷ [])) ≡ followed comma (map number_text xs) ++ (number_text x ++ comma ∷ [])
numbers_more xs x = ap (followed comma) (map-append number_text xs (x ∷ [])) ∙ followed-more comma (map number_text xs) (number_text x)

numbers_last : (xs : List Number) (x : Number) → separated comma (map number_text (xs ++ x ∷ [])) ≡ followed comma (map number_text xs) ++ number_text x
numbers_last xs x = ap (separated comma) (map-append number_text xs (x ∷ [])) ∙ separated-more comma (map number_text xs) (number_text x)

-- a row that ends, in what it stands in
row_text_of : (is : List Item) (n : List ℕ) (o : Outer) (xs : List Number) (x : Number) → phase_text (row_ended is n o (xs ++ x ∷ []))
    ≡ snoc (item_front is n ++ (context_text (in_row o xs) ++ number_text x)) close_square
row_text_of is n no_matrix xs x = ap (λ y. item_front is n ++ (open_square ∷ (y ++ close_square ∷ []))) (numbers_last xs x) ∙ simp append_assoc
row_text_of is n (rows_before rows) xs x =
    ap (λ y. item_front is n ++ open_square ∷ y) (ap (separated comma) (map-append row_text rows ((xs ++ x ∷ []) ∷ [])) ∙ separated-more comma (map row_text rows) (row_text (xs ++ x ∷ [])))
    ∙ ap (λ y. item_front is n ++ open_square ∷ (followed comma (map row_text rows) ++ open_square ∷ (y ++ close_square ∷ []))) (numbers_last xs x) ∙ simp append_assoc

good_row : (xs : List Number) (x : Number) → Every IsGoodNumber xs → IsGoodNumber x → IsGoodRow (xs ++ x ∷ [])
good_row xs x h g = let e = length-append xs (x ∷ []) in record { some = omega (arith, e); numbers = every_more IsGoodNumber xs x h g }

row_read_sound : (lines : List Line) (is : List Item) (n : List ℕ) (o : Outer) (xs : List Number) (x : Number) (phase : Phase) → Every IsGoodLine lines → IsGoodName is n
    → IsGoodContext (in_row o xs) → IsGoodNumber x
    → phase_text phase ≡ item_front is n ++ (context_text (in_row o xs) ++ number_text x) → (t : Terminal) (s : State) → in_row_read lines is n o (xs ++ x ∷ []) t ≡ Some s → Reaches lines phase t s
row_read_sound lines is n o xs x phase ls g c h e comma s k =
    kept_when (nat_le (length (xs ++ x ∷ []) + 1) (limit o)) lines phase (number is n (in_row o (xs ++ x ∷ [])) start) comma s ls
    (ap (λ y. item_front is n ++ ((outer_text o ++ open_square ∷ y) ++ [])) (numbers_more xs x) ∙ (simp (append_assoc, append-nil)) ∙ ap (λ y. snoc y comma) (sym e))
    (λ b. (g, (c.0, every_more IsGoodNumber xs x c.1 h, leb-true _ _ b), tt)) k
row_read_sound lines is n o xs x phase ls g c h e close_square s k =
    let more = length-append xs (x ∷ []) in
    let room = c.2 in
    kept_when (may_end o (length (xs ++ x ∷ []))) lines phase (row_ended is n o (xs ++ x ∷ [])) close_square s ls
    (row_text_of is n o xs x ∙ ap (λ y. snoc y close_square) (sym e))
    (λ b. row_sound is n o (xs ++ x ∷ []) g c.0 (good_row xs x c.1 h) (omega (arith, more, room)) b) k
row_read_sound lines is n o xs x phase ls g c h e t s k = cc

number_read_sound : (lines : List Line) (is : List Item) (n : List ℕ) (c : Context) (x : Number) (phase : Phase) → Every IsGoodLine lines → IsGoodName is n → IsGoodContext c → IsGoodNumber x
    → phase_text phase ≡ item_front is n ++ (context_text c ++ number_text x) → (t : Terminal) (s : State) → number_read lines is n c x t ≡ Some s → Reaches lines phase t s
number_read_sound lines is n alone x phase ls g c h e t s k = value_sound lines is n (one x) phase ls g h e t s k
number_read_sound lines is n (in_row o xs) x phase ls g c h e t s k = row_read_sound lines is n o xs x phase ls g c h e t s k

-- ---- within a number
-- a part that is one token longer
part_sound : (lines : List Line) (is : List Item) (n : List ℕ) (c : Context) (phase : Phase) (front : List Terminal) (t : Terminal) (o : Option Part) → Every IsGoodLine lines
    → IsGoodName is n → IsGoodContext c
    → phase_text phase ≡ item_front is n ++ (context_text c ++ front) → ((p : Part) → o ≡ Some p → (part_text p ≡ snoc front t) × IsGoodPart p) → (s : State)
    → reading lines is n c o ≡ Some s → Reaches lines phase t s
part_sound lines is n c phase front t None ls g h e by s k = cc
part_sound lines is n c phase front t (Some p) ls g h e by s k =
    let b = by p refl in
    kept lines phase (number is n c p) t s ls (ap (λ y. item_front is n ++ (context_text c ++ y)) b.0 ∙ (simp append_assoc) ∙ ap (λ y. snoc y t) (sym e)) (g, h, b.1) k

size_begun_is : (s : Bool) (t : Terminal) (p : Part) → size_begun s t ≡ Some p → (part_text p ≡ sign_text s ++ t ∷ []) × IsGoodPart p
size_begun_is s (digits f) p e = let d : whole_read s f ≡ p = cc in subst (λ q. (part_text q ≡ sign_text s ++ digits f ∷ []) × IsGoodPart q) d (refl, tt)
size_begun_is s (decimal f) p e = let d : complete (number_of s (point f)) ≡ p = cc in subst (λ q. (part_text q ≡ sign_text s ++ decimal f ∷ []) × IsGoodPart q) d (refl, tt)
size_begun_is s t p e = cc

number_begun_is : (t : Terminal) (p : Part) → number_begun t ≡ Some p → (part_text p ≡ t ∷ []) × IsGoodPart p
number_begun_is minus p e = let d : negated ≡ p = cc in subst (λ q. (part_text q ≡ minus ∷ []) × IsGoodPart q) d (refl, tt)
number_begun_is t p e = size_begun_is false t p e

some_number : (d : ℤ) → is_zero d ≡ false → d ≡ pos 0 → ⊥
some_number d e z = let f : is_zero d ≡ true = ap is_zero z in cc

divisor_is : (s : Bool) (n : ℤ) (t : Terminal) (p : Part) → divisor_read s n t ≡ Some p → (part_text p ≡ snoc (sign_text s ++ digits n ∷ slash ∷ []) t) × IsGoodPart p
divisor_is s n (digits d) p e = by (is_zero d) refl e
  where
    by : (b : Bool) → is_zero d ≡ b → quotient_read s n b d ≡ Some p → (part_text p ≡ snoc (sign_text s ++ digits n ∷ slash ∷ []) (digits d)) × IsGoodPart p
    by true z e = cc
    by false z e = let same : complete (number_of s (quotient n d)) ≡ p = cc in subst (λ q. (part_text q ≡ snoc (sign_text s ++ digits n ∷ slash ∷ []) (digits d))
        × IsGoodPart q) same (simp append_assoc, some_number d z)
divisor_is s n t p e = cc

whole_sound : (lines : List Line) (is : List Item) (n : List ℕ) (c : Context) (b : Bool) (f : ℤ) → Every IsGoodLine lines → IsGoodName is n → IsGoodContext c
    → (t : Terminal) (s : State) → whole_read_on lines is n c b f t ≡ Some s → Reaches lines (number is n c (whole_read b f)) t s
whole_sound lines is n c b f ls g h slash s k = kept lines (number is n c (whole_read b f)) (number is n c (divided b f)) slash s ls (simp append_assoc) (g, h, tt) k
whole_sound lines is n c b f ls g h t s k = number_read_sound lines is n c (number_of b (integer f)) (number is n c (whole_read b f)) ls g h tt refl t s k

number_sound : (lines : List Line) (is : List Item) (n : List ℕ) (c : Context) (part : Part) → Every IsGoodLine lines → IsGoodName is n → IsGoodContext c → IsGoodPart part
    → (t : Terminal) (s : State) → in_number lines is n c part t ≡ Some s → Reaches lines (number is n c part) t s
number_sound lines is n c start ls g h p t s k = part_sound lines is n c (number is n c start) [] t (number_begun t) ls g h refl (number_begun_is t) s k
number_sound lines is n c negated ls g h p t s k = part_sound lines is n c (number is n c negated) (minus ∷ []) t (size_begun true t) ls g h refl (size_begun_is true t) s k
number_sound lines is n c (whole_read b f) ls g h p t s k = whole_sound lines is n c b f ls g h t s k
number_sound lines is n c (divided b f) ls g h p t s k = part_sound lines is n c (number is n c (divided b f)) (sign_text b ++ digits f ∷ slash ∷ []) t
    (divisor_read b f t) ls g h refl (divisor_is b f t) s k
number_sound lines is n c (complete x) ls g h p t s k = number_read_sound lines is n c x (number is n c (complete x)) ls g h p refl t s k

-- ---- each phase
fresh_sound : (lines : List Line) → Every IsGoodLine lines → (t : Terminal) (s : State) → after_fresh lines t ≡ Some s → Reaches lines fresh t s
fresh_sound lines ls (name n) s k = kept lines fresh (named [] n) (name n) s ls refl (record { before = record { values = tt; distinct = refl }; new = refl }) k
fresh_sound lines ls open_curly s k = kept lines fresh opened open_curly s ls refl tt k
fresh_sound lines ls t s k = cc

opened_sound : (lines : List Line) → Every IsGoodLine lines → (t : Terminal) (s : State) → after_opened lines t ≡ Some s → Reaches lines opened t s
opened_sound lines ls close_curly s k = kept lines opened closed close_curly s ls refl tt k
opened_sound lines ls t s k = cc

closed_sound : (lines : List Line) → Every IsGoodLine lines → (t : Terminal) (s : State) → after_closed lines t ≡ Some s → Reaches lines closed t s
closed_sound lines ls newline s k =
    let to : at (lines ++ nothing ∷ []) fresh ≡ s = cc in
    subst (Reaches lines closed newline) to (record {
      text = append-nil _ ∙ settings_more lines nothing ∙ (simp append_assoc);
      good = record { lines = every_more IsGoodLine lines nothing ls tt; phase = tt };
    })
closed_sound lines ls t s k = cc

semicolon_sound : (lines : List Line) (is : List Item) → Every IsGoodLine lines → AreGoodBefore is → (t : Terminal) (s : State) → after_semicolon lines is t ≡ Some s → Reaches lines (next_item is) t s
semicolon_sound lines is ls b (name n) s k = by (is_among (names_of is) n) refl k
  where
    by : (x : Bool) → is_among (names_of is) n ≡ x → (if x then None else Some (at lines (named is n))) ≡ Some s → Reaches lines (next_item is) (name n) s
    by true e k = cc
    by false e k = kept lines (next_item is) (named is n) (name n) s ls refl (record { before = b; new = e }) k
semicolon_sound lines is ls b t s k = cc

name_sound : (lines : List Line) (is : List Item) (n : List ℕ) → Every IsGoodLine lines → IsGoodName is n → (t : Terminal) (s : State) → after_name lines is n t ≡ Some s
    → Reaches lines (named is n) t s
name_sound lines is n ls g equal s k = kept lines (named is n) (assigned is n) equal s ls (simp append_assoc) g k
name_sound lines is n ls g t s k = cc

equal_sound : (lines : List Line) (is : List Item) (n : List ℕ) → Every IsGoodLine lines → IsGoodName is n → (t : Terminal) (s : State) → after_equal lines is n t ≡ Some s
    → Reaches lines (assigned is n) t s
equal_sound lines is n ls g open_square s k = kept lines (assigned is n) (bracket is n) open_square s ls refl g k
equal_sound lines is n ls g t s k = part_sound lines is n alone (assigned is n) [] t (number_begun t) ls g tt (sym (append-nil _)) (number_begun_is t) s k

bracket_sound : (lines : List Line) (is : List Item) (n : List ℕ) → Every IsGoodLine lines → IsGoodName is n → (t : Terminal) (s : State) → after_bracket lines is n t ≡ Some s
    → Reaches lines (bracket is n) t s
bracket_sound lines is n ls g open_square s k = kept lines (bracket is n) (number is n (in_row (rows_before []) []) start) open_square s ls (simp (append_assoc, append-nil))
    (g, (tt, tt, omega arith), tt) k
bracket_sound lines is n ls g t s k = part_sound lines is n (in_row no_matrix []) (bracket is n) [] t (number_begun t) ls g (tt, tt, omega arith) (simp append-nil) (number_begun_is t) s k

rows_followed : (rows : List (List Number)) → 0 < length rows → followed comma (map row_text rows) ≡ separated comma (map row_text rows) ++ comma ∷ []
rows_followed [] h = absurd (omega arith)
rows_followed (r ∷ rs) h = separated-followed comma (map row_text rs) (row_text r)

row_closed_sound : (lines : List Line) (is : List Item) (n : List ℕ) (rows : List (List Number)) → Every IsGoodLine lines → IsGoodPhase (row_closed is n rows)
    → (t : Terminal) (s : State) → after_row lines is n rows t ≡ Some s → Reaches lines (row_closed is n rows) t s
row_closed_sound lines is n rows ls g comma s k =
    kept_when (nat_le ((length rows + 1) * row_length rows) 20000) lines (row_closed is n rows) (next_row is n rows) comma s ls
    (ap (λ y. item_front is n ++ open_square ∷ y) (rows_followed rows g.1.some) ∙ (simp append_assoc)) (λ b. (g.0, g.1, leb-true _ _ b)) k
row_closed_sound lines is n rows ls g close_square s k = kept lines (row_closed is n rows) (ended is n (matrix rows)) close_square s ls (simp append_assoc) (g.0, (row_length rows, g.1, g.2)) k
row_closed_sound lines is n rows ls g t s k = cc

pub rows_outer : (rows : List (List Number)) → AreGoodRows (row_length rows) rows → (length rows + 1) * row_length rows ≤ 20000 → IsGoodContext (in_row (rows_before rows) [])
rows_outer [] g h = (tt, tt, omega arith)
rows_outer (r ∷ rs) g h = let some = g.rows_are.0.0.some in ((g, h), tt, omega (arith, some))

next_row_sound : (lines : List Line) (is : List Item) (n : List ℕ) (rows : List (List Number)) → Every IsGoodLine lines → IsGoodPhase (next_row is n rows)
    → (t : Terminal) (s : State) → before_row lines is n rows t ≡ Some s → Reaches lines (next_row is n rows) t s
next_row_sound lines is n rows ls g open_square s k =
    kept lines (next_row is n rows) (number is n (in_row (rows_before rows) []) start) open_square s ls (simp (append_assoc, append-nil)) (g.0, rows_outer rows g.1 g.2, tt) k
next_row_sound lines is n rows ls g t s k = cc

-- ---- the whole
step_sound : (lines : List Line) (phase : Phase) → Every IsGoodLine lines → IsGoodPhase phase → (t : Terminal) (s : State) → step lines phase t ≡ Some s → Reaches lines phase t s
step_sound lines fresh ls g t s k = fresh_sound lines ls t s k
step_sound lines opened ls g t s k = opened_sound lines ls t s k
step_sound lines closed ls g t s k = closed_sound lines ls t s k
step_sound lines (next_item is) ls g t s k = semicolon_sound lines is ls g t s k
step_sound lines (named is n) ls g t s k = name_sound lines is n ls g t s k
step_sound lines (assigned is n) ls g t s k = equal_sound lines is n ls g t s k
step_sound lines (bracket is n) ls g t s k = bracket_sound lines is n ls g t s k
step_sound lines (number is n c part) ls g t s k = number_sound lines is n c part ls g.0 g.1 g.2 t s k
step_sound lines (row_closed is n rows) ls g t s k = row_closed_sound lines is n rows ls g t s k
step_sound lines (next_row is n rows) ls g t s k = next_row_sound lines is n rows ls g t s k
step_sound lines (ended is n v) ls g t s k = value_sound lines is n v (ended is n v) ls g.0 g.1 refl t s k

-- where tokens lead from a good state: a good state that they spell, or the rest behind tokens that lead to one
pub record Leads (s : State) (front : List Terminal) (u : State) : Type 0 where
  pub text : state_text u ≡ state_text s ++ front
  pub good : IsGoodState u
  pub run_is : (more : List Terminal) → run (front ++ more) s ≡ run more u

abbrev pub IsLed : State → List Terminal → Result State (List Terminal) → Type 0
IsLed s ts (Ok u) = Leads s ts u
IsLed s ts (Err []) = ⊥
IsLed s ts (Err (t ∷ rest)) = (u : State) × (front : List Terminal) × (ts ≡ front ++ t ∷ rest) × Leads s front u × (step u.lines u.phase t ≡ None)

pub run_sound : (ts : List Terminal) (s : State) → IsGoodState s → IsLed s ts (run ts s)
run_sound [] s g = record { text = sym (append-nil (state_text s)); good = g; run_is = λ more. refl }
run_sound (t ∷ ts) s g = by (run_sound ts) (step s.lines s.phase t) refl
  where
    further : (u : State) → step s.lines s.phase t ≡ Some u → Reaches s.lines s.phase t u → (front : List Terminal) (v : State) → Leads u front v → Leads s (t ∷ front) v
    further u e h front v l = record {
      text = l.text ∙ ap (λ x. x ++ front) h.text ∙ append_assoc (state_text s) (t ∷ []) front;
      good = l.good;
      run_is = λ more. rw e (l.run_is more);
    }

    led : (u : State) → step s.lines s.phase t ≡ Some u → Reaches s.lines s.phase t u → (r : Result State (List Terminal)) → IsLed u ts r → IsLed s (t ∷ ts) r
    led u e h (Ok v) l = further u e h ts v l
    led u e h (Err []) l = absurd l
    led u e h (Err (x ∷ rest)) l = (l.0, t ∷ l.1, ap (λ y. t ∷ y) l.2, further u e h l.1 l.0 l.3, l.4)

    by : ((u : State) → IsGoodState u → IsLed u ts (run ts u)) → (o : Option State) → step s.lines s.phase t ≡ o → IsLed s (t ∷ ts) (go (run ts) o (t ∷ ts))
    by later None e = (s, [], refl, record { text = sym (append-nil (state_text s)); good = g; run_is = λ more. refl }, e)
    by later (Some u) e = let h = step_sound s.lines s.phase g.lines g.phase t u e in led u e h (run ts u) (later u h.good)
