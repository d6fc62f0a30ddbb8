-- When tokens are the same: by kind and span, mark by mark, line by line.
use Rattle.std.proofs.Common.{◌≡◌, ◌⊎◌, inl, inr, ℕ, zero, suc, ◌+◌, ◌<◌, ◌≤◌, Bool, true, false, cond, eqb, List, [], ◌∷◌, ◌++◌, length, replicate, refl, sym, ap, ◌∙◌, subst, append_assoc, arith}
use Rattle.std.specs.Char.{len_utf8}
use Rattle.std.specs.List.{All}
use Rattle.std.proofs.lemmas.List.{append-nil}
use Rattle.std.proofs.lemmas.List.Elements.{All-nil, All-cons, All-head, All-tail, All-replicate}
use Rattle.dcx_shape.specs.declared.place.Place.{Place}
use Rattle.dcx_tokens.specs.declared.token.Token.{Token}
use Rattle.dcx_tokens.specs.declared.token.TokenKind.{TokenKind}
use Rattle.dcx_tokens.specs.declared.token.TokenKind.TheVariants as kind
use Rattle.dcx_tokens.specs.Laws.{brackets_behind, brackets_left}
use Rattle.dcx_tokens.specs.Position.{moved_over, next_at, line_behind}
use Rattle.dcx_tokens.specs.State.{State, start}
use Rattle.dcx_token_laws.specs.Cut as cuts
use Rattle.dcx_token_laws.specs.Cut.{place_behind, Spans, IsMark, AreMarks, IsLast, IsLineEnd, Cut}
use Rattle.dcx_token_laws.specs.Lines.{IsOfWords, depth_of, kinds, StandsAt, Turns, deeper, back, IsTogether, AreLines, ended, line}
use Rattle.dcx_token_laws.specs.Words.{IsWord}
use Rattle.dcx_token_laws.proofs.Basics.{nil_not, head_is, tail_is, right_nil}
use Rattle.dcx_token_laws.proofs.Heads.{Fronts, first_on, second_on, fronts, none_word, none_end}
use Rattle.dcx_token_laws.proofs.Spelled.{all_left}

-- ---- kinds
pub word_not_newline : (k : TokenKind) → IsOfWords k → k ≡ kind.Newline → ⊥
word_not_newline k h e = subst IsOfWords e h

pub mark_not_newline : (k : TokenKind) → IsMark k → k ≡ kind.Newline → ⊥
mark_not_newline k h e = subst IsMark e h

word_not_mark : (k : TokenKind) → IsOfWords k → IsMark k → ⊥
word_not_mark kind.Newline h m = h
word_not_mark kind.Indent h m = h
word_not_mark kind.Dedent h m = h
word_not_mark kind.Name h m = m
word_not_mark (kind.Keyword w) h m = m
word_not_mark (kind.Number x) h m = m
word_not_mark kind.Text h m = m
word_not_mark (kind.Sign s) h m = m

pub word_not : (t u : Token) → t ≡ u → IsOfWords t.kind → IsMark u.kind → ⊥
word_not t u e h m = word_not_mark u.kind (subst (λ (x : Token). IsOfWords x.kind) e h) m

-- ---- spans
pub same_span : (t u : Token) (front xs : List ℕ) → t.kind ≡ u.kind → Spans t front xs → Spans u front xs → t ≡ u
same_span t u front xs k a b =
    let start = a.start ∙ sym b.start in
    let end = a.end ∙ sym b.end in
    let place = a.place ∙ sym b.place in
    λ i. record { kind = k i; start = start i; end = end i; place = place i }

pub same_last : (t u : Token) (front : List ℕ) → IsLast t front → IsLast u front → t ≡ u
same_last t u front a b =
    let k = a.kind ∙ sym b.kind in
    let start = a.start ∙ sym b.start in
    let end = a.end ∙ sym b.end in
    let place = a.place ∙ sym b.place in
    λ i. record { kind = k i; start = start i; end = end i; place = place i }

pub same_marks : (front : List ℕ) (ms ns : List Token) → kinds ms ≡ kinds ns → AreMarks front ms → AreMarks front ns → ms ≡ ns
same_marks front [] [] e a b = refl
same_marks front [] (n ∷ ns) e a b = absurd (nil_not n.kind (kinds ns) e)
same_marks front (m ∷ ms) [] e a b = absurd (nil_not m.kind (kinds ms) (sym e))
same_marks front (m ∷ ms) (n ∷ ns) e a b =
    let first = same_span m n front [] (head_is m.kind n.kind (kinds ms) (kinds ns) e) (All-head (λ t. IsMark t.kind × Spans t front []) m ms a).1
    (All-head (λ t. IsMark t.kind × Spans t front []) n ns b).1 in
    let more = same_marks front ms ns (tail_is m.kind n.kind (kinds ms) (kinds ns) e) (All-tail (λ t. IsMark t.kind × Spans t front []) m ms a)
    (All-tail (λ t. IsMark t.kind × Spans t front []) n ns b) in
    ap (λ t. t ∷ ms) first ∙ ap (λ ts. n ∷ ts) more

-- ---- rows
row_grows : (s : State) (xs : List ℕ) → s.at.place.line ≤ (moved_over s.at xs).place.line
row_grows s [] = omega arith
row_grows s (x ∷ xs) =
    let one : s.at.place.line ≤ (next_at s.at x).place.line = by (eqb x 10) in
    let more = row_grows (record s { at = next_at s.at x }) xs in
    omega (arith, one, more)
  where
    by : (b : Bool) → s.at.place.line ≤ (cond {A = Place} b (record { line = s.at.place.line + 1; column = 1 }) (record { line = s.at.place.line; column = s.at.place.column + len_utf8 x })).line
    by true = omega arith
    by false = omega arith

row_append : (front xs : List ℕ) → (place_behind front).line ≤ (place_behind (front ++ xs)).line
row_append front xs =
    let more = row_grows (record start { at = moved_over start.at front }) xs in
    let same = ap (λ (s : State). s.at.place.line) (behind_append front xs) in
    omega (arith, more, same)
  where
    behind_append : (ys zs : List ℕ) → ◌≡◌ {A = State} (record start { at = moved_over start.at (ys ++ zs) }) (record start { at = moved_over (moved_over start.at ys) zs })
    behind_append ys zs = by start ys
      where
        by : (s : State) (us : List ℕ) → ◌≡◌ {A = State} (record start { at = moved_over s.at (us ++ zs) }) (record start { at = moved_over (moved_over s.at us) zs })
        by s [] = refl
        by s (u ∷ us) = by (record s { at = next_at s.at u }) us

last_row : (front : List ℕ) → (place_behind front).line ≤ (line_behind (place_behind front)).line
last_row front = by (eqb (place_behind front).column 1)
  where
    by : (b : Bool) → (place_behind front).line ≤ (cond {A = Place} b (place_behind front) (record { line = (place_behind front).line + 1; column = 1 })).line
    by true = omega arith
    by false = omega arith

at_row : (u t : Token) (us ts : List Token) (front xs : List ℕ) → ◌≡◌ {A = List Token} (u ∷ us) (t ∷ ts) → Spans u front xs → (place_behind front).line ≤ t.place.line
at_row u t us ts front xs e spans =
    let first = ap (λ (x : Token). x.place.line) (head_is u t us ts e) in
    let row = ap (λ (p : Place). p.line) spans.place in
    omega (arith, first, row)

marks_row : (front : List ℕ) (marks us : List Token) (t : Token) (ts : List Token) → AreMarks front marks
    → ((u : Token) (vs : List Token) → us ≡ u ∷ vs → (place_behind front).line ≤ u.place.line) → marks ++ us ≡ t ∷ ts → (place_behind front).line ≤ t.place.line
marks_row front [] us t ts are more e = more t ts e
marks_row front (m ∷ ms) us t ts are more e = at_row m t (ms ++ us) ts front [] e (All-head (λ t. IsMark t.kind × Spans t front []) m ms are).1

-- a token stands on no earlier row than the characters before it end
pub no_earlier : {front cs rest : List ℕ} {us : List Token} → Cut front cs us rest → (t : Token) (ts : List Token) → us ≡ t ∷ ts → (place_behind front).line ≤ t.place.line
no_earlier cuts.ended t ts e = absurd (nil_not t ts e)
no_earlier {front = front} (cuts.stopped {marks = marks} c rest are) t ts e = marks_row front marks [] t ts are (λ u vs f. absurd (nil_not u vs f)) (append-nil marks ∙ e)
no_earlier {front = front} (cuts.between xs how more) t ts e = let grows = row_append front xs in let later = no_earlier more t ts e in omega (arith, grows, later)
no_earlier {front = front} (cuts.word {t = u} {ts = us} marks xs are word longest spans more) t ts e = marks_row front marks (u ∷ us) t ts are (λ v vs f. at_row u v us vs front xs f spans) e
no_earlier {front = front} (cuts.line_end {t = u} {ts = us} xs is end spans more) t ts e = at_row u t us ts front xs e spans
no_earlier {front = front} (cuts.supplied {t = u} {ts = us} is spans more) t ts e = at_row u t us ts front [] e spans
no_earlier {front = front} (cuts.last {t = u} {ts = us} is more) t ts e =
    let first = ap (λ (x : Token). x.place.line) (head_is u t us ts e) in
    let row = ap (λ (p : Place). p.line) is.place in
    let behind = last_row front in
    omega (arith, first, row, behind)

-- ---- lines
-- the marks that a line has are marks
replicate_marks : (n : ℕ) → All IsMark (replicate n kind.Dedent)
replicate_marks n = All-replicate IsMark n kind.Dedent tt

turns_marks : {blocks after : List ℕ} {depth : ℕ} {ks : List TokenKind} → Turns blocks depth ks after → All IsMark ks
turns_marks (deeper some all) = All-cons IsMark kind.Indent [] tt (All-nil IsMark)
turns_marks (back gone at all) = replicate_marks (length gone)

-- marks in front of a token that has characters are those up to it
pub record OneSplit (ms ns : List Token) (t u : Token) (xs ys : List Token) : Type 0 where
  pub marks : ms ≡ ns
  pub token : t ≡ u
  pub behind : xs ≡ ys

pub one_split : (ms ns : List Token) (t u : Token) (xs ys : List Token) → ms ++ t ∷ xs ≡ ns ++ u ∷ ys → All IsMark (kinds ms) → All IsMark (kinds ns) → IsOfWords t.kind
    → IsOfWords u.kind → OneSplit ms ns t u xs ys
one_split [] [] t u xs ys e a b h k = record { marks = refl; token = head_is t u xs ys e; behind = tail_is t u xs ys e }
one_split [] (n ∷ ns) t u xs ys e a b h k = absurd (word_not t n (head_is t n xs (ns ++ u ∷ ys) e) h (All-head IsMark n.kind (kinds ns) b))
one_split (m ∷ ms) [] t u xs ys e a b h k = absurd (word_not u m (sym (head_is m u (ms ++ t ∷ xs) ys e)) k (All-head IsMark m.kind (kinds ms) a))
one_split (m ∷ ms) (n ∷ ns) t u xs ys e a b h k =
    let more = one_split ms ns t u xs ys (tail_is m n (ms ++ t ∷ xs) (ns ++ u ∷ ys) e) (All-tail IsMark m.kind (kinds ms) a) (All-tail IsMark n.kind (kinds ns) b) h k in
    record {
      marks = ap (λ z. z ∷ ms) (head_is m n (ms ++ t ∷ xs) (ns ++ u ∷ ys) e) ∙ ap (λ zs. n ∷ zs) more.marks;
      token = more.token;
      behind = more.behind;
    }

pub marks_kinds : (front : List ℕ) (ms : List Token) → AreMarks front ms → All IsMark (kinds ms)
marks_kinds front [] are = All-nil IsMark
marks_kinds front (m ∷ ms) are =
    All-cons IsMark m.kind (kinds ms) (All-head (λ t. IsMark t.kind × Spans t front []) m ms are).0 (marks_kinds front ms (All-tail (λ t. IsMark t.kind × Spans t front []) m ms are))

-- the ends of blocks have no token with characters among them
all_dedents : (ms : List Token) (t : Token) (us : List Token) (n : ℕ) → kinds (ms ++ t ∷ us) ≡ replicate n kind.Dedent → t.kind ≡ kind.Dedent
all_dedents [] t us zero e = absurd (nil_not t.kind (kinds us) (sym e))
all_dedents [] t us (suc n) e = head_is t.kind kind.Dedent (kinds us) (replicate n kind.Dedent) e
all_dedents (m ∷ ms) t us zero e = absurd (nil_not m.kind (kinds (ms ++ t ∷ us)) (sym e))
all_dedents (m ∷ ms) t us (suc n) e = all_dedents ms t us n (tail_is m.kind kind.Dedent (kinds (ms ++ t ∷ us)) (replicate n kind.Dedent) e)

word_not_dedent : (k : TokenKind) → IsOfWords k → k ≡ kind.Dedent → ⊥
word_not_dedent k h e = subst IsOfWords e h

-- a line whose first token with characters is this one
pub record IsLine (blocks : List ℕ) (marks : List Token) (t : Token) (us : List Token) : Type 0 where
  pub after : List ℕ
  pub more : List Token
  pub end : Token
  pub behind : List Token
  pub are : us ≡ more ++ end ∷ behind
  pub turns : Turns blocks (depth_of t) (kinds marks) after
  pub words : All (λ u. IsOfWords u.kind) more
  pub closed : brackets_left (brackets_behind 0 t.kind) more ≡ 0
  pub together : IsTogether t.place.line (brackets_behind 0 t.kind) (more ++ end ∷ [])
  pub newline : end.kind ≡ kind.Newline
  pub lines : AreLines after behind

pub a_line : {blocks : List ℕ} {us : List Token} → AreLines blocks us → (marks : List Token) (t : Token) (vs : List Token) → us ≡ marks ++ t ∷ vs → All IsMark (kinds marks)
    → IsOfWords t.kind → IsLine blocks marks t vs
a_line (ended {blocks = blocks} e) marks t vs is are word = absurd (word_not_dedent t.kind word (all_dedents marks t vs (length blocks) (ap kinds (sym is) ∙ e)))
a_line {blocks = blocks} (line {after = after} ms first more end ts turns places words closed together newline lines) marks t vs is are word =
    let split = one_split ms marks first t (more ++ end ∷ ts) vs (sym (append_assoc ms (first ∷ more) (end ∷ ts)) ∙ is) (turns_marks turns) are
    (All-head (λ u. IsOfWords u.kind) first more words) word in
    subst (λ zs. IsLine blocks marks t zs) split.behind (subst (λ ns. IsLine blocks ns t (more ++ end ∷ ts)) split.marks (subst (λ u. IsLine blocks ms u (more ++ end ∷ ts)) split.token (record {
      after = after;
      more = more;
      end = end;
      behind = ts;
      are = refl;
      turns = turns;
      words = All-tail (λ u. IsOfWords u.kind) first more words;
      closed = closed;
      together = together;
      newline = newline;
      lines = lines;
    })))

-- no line begins with the end of one
first_not_newline : (ms : List Token) (first t : Token) (xs ts : List Token) → ms ++ first ∷ xs ≡ t ∷ ts → All IsMark (kinds ms) → IsOfWords first.kind → t.kind ≡ kind.Newline → ⊥
first_not_newline [] first t xs ts e are word is = word_not_newline first.kind word (ap (λ (u : Token). u.kind) (head_is first t xs ts e) ∙ is)
first_not_newline (m ∷ ms) first t xs ts e are word is = mark_not_newline m.kind (All-head IsMark m.kind (kinds ms) are) (ap (λ (u : Token). u.kind) (head_is m t (ms ++ first ∷ xs) ts e) ∙ is)

dedent_not_newline : kind.Newline ≡ kind.Dedent → ⊥
dedent_not_newline e = cc

pub not_newline : {blocks : List ℕ} {us : List Token} → AreLines blocks us → (t : Token) (ts : List Token) → us ≡ t ∷ ts → t.kind ≡ kind.Newline → ⊥
not_newline (ended {blocks = blocks} e) t ts is newline = dedent_not_newline (sym newline ∙ all_dedents [] t ts (length blocks) (ap kinds (sym is) ∙ e))
not_newline (line ms first more end rest turns places words closed together newline lines) t ts is at =
    first_not_newline ms first t (more ++ end ∷ rest) ts (sym (append_assoc ms (first ∷ more) (end ∷ rest)) ∙ is) (turns_marks turns) (All-head (λ u. IsOfWords u.kind) first more words) at

-- ---- one turn
last_of : (P : ℕ → Type 0) (x : ℕ) (outer : List ℕ) → All P (outer ++ x ∷ []) → P x
last_of P x [] h = All-head P x [] h
last_of P x (y ∷ outer) h = last_of P x outer (All-tail P y (outer ++ x ∷ []) h)

not_less : (d : ℕ) → d < d → ⊥
not_less d h = absurd (omega (arith, h))

-- what a turn is, told of all its parts
data Turn (blocks : List ℕ) (depth : ℕ) (ks : List TokenKind) (after : List ℕ) : Type 0 where
  goes_in : 0 < depth → All (λ d. d < depth) blocks → ks ≡ kind.Indent ∷ [] → after ≡ blocks ++ depth ∷ [] → Turn blocks depth ks after
  goes_back : (gone : List ℕ) → blocks ≡ after ++ gone → StandsAt after depth → All (λ d. depth < d) gone → ks ≡ replicate (length gone) kind.Dedent → Turn blocks depth ks after

turn_of : {blocks after : List ℕ} {depth : ℕ} {ks : List TokenKind} → Turns blocks depth ks after → Turn blocks depth ks after
turn_of (deeper some all) = goes_in some all refl refl
turn_of (back gone at all) = goes_back gone refl at all refl

in_or_back : (blocks after gone : List ℕ) (depth : ℕ) → 0 < depth → All (λ d. d < depth) blocks → blocks ≡ after ++ gone → StandsAt after depth → ⊥
in_or_back blocks after gone depth some all e (inl at) = let zero_is = at.1 in omega (arith, some, zero_is)
in_or_back blocks after gone depth some all e (inr (outer, at)) =
    not_less depth (last_of (λ d. d < depth) depth outer (subst (All (λ d. d < depth)) at (all_left (λ d. d < depth) after gone (subst (All (λ d. d < depth)) e all))))

none_more : (depth : ℕ) (xs more outer : List ℕ) → xs ++ more ≡ outer ++ depth ∷ [] → All (λ d. depth < d) more → more ≡ []
none_more depth [] more outer e all = absurd (not_less depth (last_of (λ d. depth < d) depth outer (subst (All (λ d. depth < d)) e all)))
none_more depth (x ∷ xs) more [] e all = right_nil xs more (tail_is x depth (xs ++ more) [] e)
none_more depth (x ∷ xs) more (y ∷ outer) e all = none_more depth xs more outer (tail_is x y (xs ++ more) (outer ++ depth ∷ []) e) all

stands_alone : (depth : ℕ) (stay more other gone : List ℕ) → other ≡ stay ++ more → StandsAt other depth → All (λ d. depth < d) (more ++ gone) → more ≡ []
stands_alone depth stay more other gone e (inl at) all = right_nil stay more (sym e ∙ at.0)
stands_alone depth stay more other gone e (inr (outer, at)) all = none_more depth stay more outer (sym e ∙ at) (all_left (λ d. depth < d) more gone all)

-- the same blocks stay
one_back : (depth : ℕ) (stay other gone rest : List ℕ) → Fronts stay other gone rest → StandsAt stay depth → StandsAt other depth → All (λ d. depth < d) gone
    → All (λ d. depth < d) rest → (stay ≡ other) × (gone ≡ rest)
one_back depth stay other gone rest (first_on more e f) at also all each =
    let none = stands_alone depth stay more other rest e also (subst (All (λ d. depth < d)) f all) in
    (sym (e ∙ ap (λ zs. stay ++ zs) none ∙ append-nil stay), f ∙ ap (λ zs. zs ++ rest) none)
one_back depth stay other gone rest (second_on more e f) at also all each =
    let none = stands_alone depth other more stay gone e at (subst (All (λ d. depth < d)) f each) in
    (e ∙ ap (λ zs. other ++ zs) none ∙ append-nil other, sym (f ∙ ap (λ zs. zs ++ gone) none))

pub record OneTurn (ks js : List TokenKind) (a b : List ℕ) : Type 0 where
  pub marks : ks ≡ js
  pub after : a ≡ b

one_turn_of : (blocks a b : List ℕ) (depth : ℕ) (ks js : List TokenKind) → Turn blocks depth ks a → Turn blocks depth js b → OneTurn ks js a b
one_turn_of blocks a b depth ks js (goes_in some all k e) (goes_in more each j f) = record { marks = k ∙ sym j; after = e ∙ sym f }
one_turn_of blocks a b depth ks js (goes_in some all k e) (goes_back gone f at each j) = absurd (in_or_back blocks b gone depth some all f at)
one_turn_of blocks a b depth ks js (goes_back gone e at all k) (goes_in some each j f) = absurd (in_or_back blocks a gone depth some each e at)
one_turn_of blocks a b depth ks js (goes_back gone e at all k) (goes_back rest f also each j) =
    let one = one_back depth a b gone rest (fronts a b gone rest (sym e ∙ f)) at also all each in
    record { marks = k ∙ ap (λ zs. replicate (length zs) kind.Dedent) one.1 ∙ sym j; after = one.0 }

pub one_turn : (blocks a b : List ℕ) (depth : ℕ) (ks js : List TokenKind) → Turns blocks depth ks a → Turns blocks depth js b → OneTurn ks js a b
one_turn blocks a b depth ks js t u = one_turn_of blocks a b depth ks js (turn_of t) (turn_of u)

-- ---- the end of a text
-- each token is the end of a line that is missing, or that of an indentation
abbrev pub AtEnd : List ℕ → Token → Type 0
AtEnd front t = ((t.kind ≡ kind.Newline) × Spans t front []) ⊎ IsLast t front

nil_append : (xs ys : List ℕ) → xs ++ ys ≡ [] → (xs ≡ []) × (ys ≡ [])
nil_append [] ys e = (refl, e)
nil_append (x ∷ xs) ys e = absurd (nil_not x (xs ++ ys) (sym e))

pub at_end : {front cs rest : List ℕ} {us : List Token} → Cut front cs us rest → cs ≡ [] → rest ≡ [] → All (AtEnd front) us
at_end {front = front} cuts.ended e f = All-nil (AtEnd front)
at_end (cuts.stopped c rest are) e f = absurd (nil_not c rest (sym f))
at_end {front = front} {us = us} (cuts.between {behind = behind} xs how more) e f =
    let both = nil_append xs behind e in
    subst (λ zs. All (AtEnd zs) us) (ap (λ zs. front ++ zs) both.0 ∙ append-nil front) (at_end more both.1 f)
at_end (cuts.word {behind = behind} {t = t} marks xs are word longest spans more) e f = absurd (none_word t.kind (subst (IsWord t.kind) (nil_append xs behind e).0 word))
at_end (cuts.line_end {behind = behind} xs is end spans more) e f = absurd (none_end (subst IsLineEnd (nil_append xs behind e).0 end))
at_end {front = front} (cuts.supplied {t = t} {ts = ts} is spans more) e f = All-cons (AtEnd front) t ts (inl (is, spans)) (at_end more refl f)
at_end {front = front} (cuts.last {t = t} {ts = ts} is more) e f = All-cons (AtEnd front) t ts (inr is) (at_end more refl f)

pub token_among : (P : Token → Type 0) (ms : List Token) (t : Token) (us : List Token) → All P (ms ++ t ∷ us) → P t
token_among P [] t us h = All-head P t us h
token_among P (m ∷ ms) t us h = token_among P ms t us (All-tail P m (ms ++ t ∷ us) h)

pub tokens_behind : (P : Token → Type 0) (ms us : List Token) → All P (ms ++ us) → All P us
tokens_behind P [] us h = h
tokens_behind P (m ∷ ms) us h = tokens_behind P ms us (All-tail P m (ms ++ us) h)

-- no token with characters stands there
pub no_word_there : (front : List ℕ) (t : Token) → AtEnd front t → IsOfWords t.kind → ⊥
no_word_there front t (inl end) word = word_not_newline t.kind word end.0
no_word_there front t (inr last) word = word_not_dedent t.kind word last.kind

last_there : (front : List ℕ) (t : Token) → AtEnd front t → t.kind ≡ kind.Dedent → IsLast t front
last_there front t (inl end) is = absurd (dedent_not_newline (sym end.0 ∙ is))
last_there front t (inr last) is = last

pub end_there : (front : List ℕ) (t : Token) → AtEnd front t → t.kind ≡ kind.Newline → Spans t front []
end_there front t (inl end) is = end.1
end_there front t (inr last) is = absurd (dedent_not_newline (sym is ∙ last.kind))

same_dedents : (front : List ℕ) (n : ℕ) (us : List Token) (d : Token) → kinds us ≡ replicate n kind.Dedent → All (AtEnd front) us → IsLast d front → us ≡ replicate n d
same_dedents front zero [] d e all is = refl
same_dedents front (suc n) [] d e all is = absurd (nil_not kind.Dedent (replicate n kind.Dedent) e)
same_dedents front zero (u ∷ us) d e all is = absurd (nil_not u.kind (kinds us) (sym e))
same_dedents front (suc n) (u ∷ us) d e all is =
    let first = same_last u d front (last_there front u (All-head (AtEnd front) u us all) (head_is u.kind kind.Dedent (kinds us) (replicate n kind.Dedent) e)) is in
    let more = same_dedents front n us d (tail_is u.kind kind.Dedent (kinds us) (replicate n kind.Dedent) e) (All-tail (AtEnd front) u us all) is in
    ap (λ z. z ∷ us) first ∙ ap (λ zs. d ∷ zs) more

pub end_lines : {blocks : List ℕ} {us : List Token} → AreLines blocks us → (front : List ℕ) (d : Token) → All (AtEnd front) us → IsLast d front → us ≡ replicate (length blocks) d
end_lines (ended {blocks = blocks} {ts = us} e) front d all is = same_dedents front (length blocks) us d e all is
end_lines (line ms first more end ts turns places words closed together newline lines) front d all is =
    absurd (no_word_there front first (token_among (AtEnd front) ms first (more ++ end ∷ ts) (subst (All (AtEnd front)) (append_assoc ms (first ∷ more) (end ∷ ts)) all))
    (All-head (λ u. IsOfWords u.kind) first more words))
