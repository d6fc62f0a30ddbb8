-- The line that is read: it has begun, or so many blanks lead it. And what its first token, its end and a bracket change.
use Rattle.std.proofs.Common.{◌≡◌, ◌⊎◌, inl, inr, ℕ, ◌+◌, ◌-◌, ◌<◌, Bool, true, false, cond, eqb, List, [], ◌∷◌, ◌++◌, length, take, refl, sym, ap, ◌∙◌, subst, arith, length-append}
use Rattle.std.specs.Prelude.{Result, Ok, Err}
use Rattle.std.proofs.lemmas.List.{length-take}
use Rattle.std.proofs.lemmas.Bool.{eqb-true}
use Rattle.dcx_tokens.specs.declared.fault.ReadFault.{ReadFault}
use Rattle.dcx_tokens.specs.declared.fault.ReadFault.TheVariants as fault
use Rattle.dcx_tokens.specs.declared.token.TokenKind.{TokenKind}
use Rattle.dcx_tokens.specs.declared.token.TokenKind.TheVariants as kind
use Rattle.dcx_tokens.specs.Front.{tab_among}
use Rattle.dcx_tokens.specs.Laws.{brackets_behind}
use Rattle.dcx_tokens.specs.Layout.{is_deeper, is_standing, opens, closes}
use Rattle.dcx_tokens.specs.Position.{moved_over}
use Rattle.dcx_tokens.specs.State.{State, Answer, moved, put, is_full, dedented, begin_line, line_begun_at, nested, line_ended, led, start}
use Rattle.dcx_token_laws.proofs.Steps.{Step, line_end, blank, comment, word}
use Rattle.dcx_token_laws.proofs.Basics.{not_zero}

-- the line has a token
abbrev pub HasBegun : State → Type 0
HasBegun s = s.line ≡ (dedented start 0).line

-- so far the line has these blanks alone
abbrev pub IsLed : List ℕ → State → Type 0
IsLed blanks s = s.line ≡ led start.line blanks

abbrev pub IsFormed : State → Type 0
IsFormed s = HasBegun s ⊎ ((blanks : List ℕ) × IsLed blanks s)

-- ---- the first token of a line
-- it stands behind so many spaces: one indentation more, or those that are deeper end
pub data Turned (s u : State) (spaces : ℕ) : Type 0 where
  deeper : is_deeper s.indents spaces ≡ true → u ≡ record (put s kind.Indent []) { indents = s.indents ++ spaces ∷ []; line = (dedented start 0).line } → Turned s u spaces
  back : is_standing s.indents spaces ≡ true → u ≡ dedented s spaces → Turned s u spaces

pub data Begins (s u : State) : Type 0 where
  begun : HasBegun s → u ≡ s → Begins s u
  turned : (blanks : List ℕ) → IsLed blanks s → Turned s u (length blanks) → Begins s u

pub never_ok : {A : Type 0} (s u : State) (f : ReadFault) (a : A) → ◌≡◌ {A = Answer A} (s, Err f) (u, Ok a) → ⊥
never_ok {A = A} s u f a e = let no : ◌≡◌ {A = Result A ReadFault} (Err f) (Ok a) = ap (λ (p : Answer A). p.1) e in cc

pub first_is : (s u : State) → ◌≡◌ {A = Answer (Unit {0})} (s, Ok tt) (u, Ok tt) → u ≡ s
first_is s u e = sym (ap (λ (p : Answer (Unit {0})). p.0) e)

pub turns : (s u : State) (blanks : List ℕ) → IsLed blanks s → line_begun_at s s.line ≡ (u, Ok tt) → Turned s u (length blanks)
turns s u blanks is given =
    by (tab_among blanks) (is_deeper s.indents (length blanks)) (is_full s) (is_standing s.indents (length blanks)) refl refl (sym same ∙ given)
  where
    same : line_begun_at s s.line ≡ begin_line s (length blanks) (tab_among blanks)
    same = rw is refl

    by : (t d f st : Bool) → is_deeper s.indents (length blanks) ≡ d → is_standing s.indents (length blanks) ≡ st →
        cond {A = Answer (Unit {0})} t (s, Err (fault.Indent s.at.place)) (cond {A = Answer (Unit {0})} d (cond {A = Answer (Unit {0})} f (s, Err (fault.TooDeep s.at.place))
        (record (put s kind.Indent []) { indents = s.indents ++ length blanks ∷ []; line = (dedented start 0).line }, Ok tt))
        (cond {A = Answer (Unit {0})} st (dedented s (length blanks), Ok tt) (s, Err (fault.Indent s.at.place)))) ≡ (u, Ok tt) →
        Turned s u (length blanks)
    by true d f st ed es e = absurd (never_ok s u (fault.Indent s.at.place) tt e)
    by false true true st ed es e = absurd (never_ok s u (fault.TooDeep s.at.place) tt e)
    by false true false st ed es e = deeper ed (first_is _ u e)
    by false false f true ed es e = back es (first_is _ u e)
    by false false f false ed es e = absurd (never_ok s u (fault.Indent s.at.place) tt e)

pub begun_is : (s u : State) → HasBegun s → line_begun_at s s.line ≡ (u, Ok tt) → u ≡ s
begun_is s u is e = let same : line_begun_at s s.line ≡ (s, Ok tt) = rw is refl in first_is s u (sym same ∙ e)

pub begins : (s u : State) → IsFormed s → line_begun_at s s.line ≡ (u, Ok tt) → Begins s u
begins s u (inl is) e = begun is (begun_is s u is e)
begins s u (inr (blanks, is)) e = turned blanks is (turns s u blanks is e)

-- ---- a bracket
-- nothing changes but how many brackets are open
pub record IsNested (u v : State) (k : TokenKind) : Type 0 where
  pub tokens : v.tokens ≡ u.tokens
  pub indents : v.indents ≡ u.indents
  pub line : v.line ≡ u.line
  pub at : v.at ≡ u.at
  pub brackets : length v.brackets ≡ brackets_behind (length u.brackets) k

pub nests : (u v : State) (k : TokenKind) → nested u k ≡ (v, Ok tt) → IsNested u v k
nests u v (kind.Sign symbol) nested_so = by (opens symbol) (is_full u) (closes symbol) refl refl nested_so
  where
    behind : (o c : Bool) → opens symbol ≡ o → closes symbol ≡ c
        → brackets_behind (length u.brackets) (kind.Sign symbol) ≡ cond o (length u.brackets + 1) (cond c (length u.brackets - 1) (length u.brackets))
    behind o c eo ec = ap (λ x. cond x (length u.brackets + 1) (cond (closes symbol) (length u.brackets - 1) (length u.brackets))) eo
        ∙ ap (λ x. cond o (length u.brackets + 1) (cond x (length u.brackets - 1) (length u.brackets))) ec

    with_brackets : (w : State) → w.tokens ≡ u.tokens → w.indents ≡ u.indents → w.line ≡ u.line → w.at ≡ u.at
        → length w.brackets ≡ brackets_behind (length u.brackets) (kind.Sign symbol) → v ≡ w → IsNested u v (kind.Sign symbol)
    with_brackets w a b c d e same = subst (λ x. IsNested u x (kind.Sign symbol)) (sym same) (record { tokens = a; indents = b; line = c; at = d; brackets = e })

    by : (o f c : Bool) → opens symbol ≡ o → closes symbol ≡ c →
        cond {A = Answer (Unit {0})} o (cond {A = Answer (Unit {0})} f (u, Err (fault.TooDeep u.at.place)) (record u { brackets = u.brackets ++ u.at.place ∷ [] }, Ok tt))
        (cond {A = Answer (Unit {0})} c (record u { brackets = take (length u.brackets - 1) u.brackets }, Ok tt) (u, Ok tt)) ≡ (v, Ok tt) →
        IsNested u v (kind.Sign symbol)
    by true true c eo ec e = absurd (never_ok u v (fault.TooDeep u.at.place) tt e)
    by true false c eo ec e = with_brackets (record u { brackets = u.brackets ++ u.at.place ∷ [] }) refl refl refl refl
        (length-append u.brackets (u.at.place ∷ []) ∙ sym (behind true c eo ec)) (first_is _ v e)
    by false f true eo ec e =
        let less = length-take (length u.brackets - 1) u.brackets in
        let count : length (take (length u.brackets - 1) u.brackets) ≡ length u.brackets - 1 = omega (arith, less) in
        with_brackets (record u { brackets = take (length u.brackets - 1) u.brackets }) refl refl refl refl (count ∙ sym (behind false true eo ec)) (first_is _ v e)
    by false f false eo ec e = with_brackets u refl refl refl refl (sym (behind false false eo ec)) (first_is _ v e)
nests u v kind.Name e = subst (λ x. IsNested u x kind.Name) (sym (first_is u v e)) (record { tokens = refl; indents = refl; line = refl; at = refl; brackets = refl })
nests u v (kind.Keyword w) e = subst (λ x. IsNested u x (kind.Keyword w)) (sym (first_is u v e)) (record { tokens = refl; indents = refl; line = refl; at = refl; brackets = refl })
nests u v (kind.Number x) e = subst (λ y. IsNested u y (kind.Number x)) (sym (first_is u v e)) (record { tokens = refl; indents = refl; line = refl; at = refl; brackets = refl })
nests u v kind.Text e = subst (λ x. IsNested u x kind.Text) (sym (first_is u v e)) (record { tokens = refl; indents = refl; line = refl; at = refl; brackets = refl })
nests u v kind.Newline e = subst (λ x. IsNested u x kind.Newline) (sym (first_is u v e)) (record { tokens = refl; indents = refl; line = refl; at = refl; brackets = refl })
nests u v kind.Indent e = subst (λ x. IsNested u x kind.Indent) (sym (first_is u v e)) (record { tokens = refl; indents = refl; line = refl; at = refl; brackets = refl })
nests u v kind.Dedent e = subst (λ x. IsNested u x kind.Dedent) (sym (first_is u v e)) (record { tokens = refl; indents = refl; line = refl; at = refl; brackets = refl })

-- ---- a line end
-- of a line that has begun: it ends it, or a bracket is open
pub data Closes (s t : State) (end : List ℕ) : Type 0 where
  over : length s.brackets ≡ 0 → t ≡ record (put s kind.Newline end) { line = start.line } → Closes s t end
  inside : 0 < length s.brackets → t ≡ moved s end → Closes s t end

pub data LineEnds (s t : State) (end : List ℕ) : Type 0 where
  closes_it : HasBegun s → Closes s t end → LineEnds s t end
  empty : (blanks : List ℕ) → IsLed blanks s → t ≡ record (moved s end) { line = start.line } → LineEnds s t end

pub begun_closes : (s t : State) (end : List ℕ) → HasBegun s → t ≡ line_ended s s.line end → Closes s t end
begun_closes s t end is e = by (eqb (length s.brackets) 0) refl (e ∙ (rw is refl))
  where
    by : (b : Bool) → eqb (length s.brackets) 0 ≡ b → t ≡ cond {A = State} b (record (put s kind.Newline end) { line = start.line }) (moved s end) → Closes s t end
    by true z same = over (eqb-true (length s.brackets) 0 z) same
    by false z same = inside (not_zero (length s.brackets) z) same

pub empty_ends : (s t : State) (end blanks : List ℕ) → IsLed blanks s → t ≡ line_ended s s.line end → t ≡ record (moved s end) { line = start.line }
empty_ends s t end blanks is e = e ∙ rw is refl

pub line_ends : (s t : State) (end : List ℕ) → IsFormed s → t ≡ line_ended s s.line end → LineEnds s t end
line_ends s t end (inl is) e = closes_it is (begun_closes s t end is e)
line_ends s t end (inr (blanks, is)) e = empty blanks is (empty_ends s t end blanks is e)

-- ---- the line behind a step
pub turned_begun : (s u : State) (spaces : ℕ) → Turned s u spaces → HasBegun u
turned_begun s u spaces (deeper d same) = subst HasBegun (sym same) refl
turned_begun s u spaces (back st same) = subst HasBegun (sym same) refl

pub has_begun : (s u : State) → Begins s u → HasBegun u
has_begun s u (begun is same) = subst HasBegun (sym same) is
has_begun s u (turned blanks is how) = turned_begun s u (length blanks) how

anew : (t w : State) → t ≡ record w { line = start.line } → IsFormed t
anew t w same = subst IsFormed (sym same) (inr ([], refl))

blank_formed : (s t : State) (blanks : List ℕ) → t ≡ record s { line = led s.line blanks; at = moved_over s.at blanks } → IsFormed s → IsFormed t
blank_formed s t blanks same (inl is) = subst IsFormed (sym same) (inl (rw is refl))
blank_formed s t blanks same (inr (before, is)) = subst IsFormed (sym same) (inr (blanks, rw is refl))

pub formed_next : (s t : State) (c : ℕ) (cs : List ℕ) (n : ℕ) → Step s t c cs n → IsFormed s → IsFormed t
formed_next s t c cs n (line_end l count same) formed = by (line_ends s t (take n (c ∷ cs)) formed same)
  where
    by : LineEnds s t (take n (c ∷ cs)) → IsFormed t
    by (closes_it is (over none e)) = anew t (put s kind.Newline (take n (c ∷ cs))) e
    by (closes_it is (inside some e)) = subst IsFormed (sym e) formed
    by (empty blanks is e) = anew t (moved s (take n (c ∷ cs))) e
formed_next s t c cs n (blank l b count same) formed = blank_formed s t (take n (c ∷ cs)) same formed
formed_next s t c cs n (comment l h count same) formed = subst IsFormed (sym same) formed
formed_next s t c cs n (word u v k l b begins_so token nested_so same) formed =
    subst IsFormed (sym same) (inl ((nests u v k nested_so).line ∙ has_begun s u (begins s u formed begins_so)))
