-- No name of a text has a line feed.
use Rattle.std.proofs.Common.{◌≡◌, ◌≢◌, ℕ, suc, ◌+◌, ◌<◌, ◌-◌, true, false, eqb, ◌||◌, List, [], ◌∷◌, ◌++◌, length, take, drop, get_or, IsUtf8, None, refl, sym, ap, ap₂, ◌∙◌, subst, append_assoc}
use Rattle.std.proofs.Common.{arith, length-append}
use Rattle.std.specs.Prelude.{IsTrue}
use Rattle.std.specs.List.{AllByRecursion, slice_range}
use Rattle.std.specs.Str.{chars}
use Rattle.std.proofs.Math.Seq.{take-append_seam, drop-append_seam}
use Rattle.std.proofs.Math.Utf8.{encode, encodes}
use Rattle.std.proofs.lemmas.Bool.{false≢true}
use Rattle.std.proofs.lemmas.List.{append-nil}
use Rattle.std.proofs.lemmas.List.Elements.{All-head, All-tail, recursion_from_All}
use Rattle.std.proofs.lemmas.Str.{encodes-append, encodes-chars, inside_one, length-encode}
use Rattle.std.proofs.lemmas.List.Sums.{sum_by-cons}
use Rattle.std.specs.Char.{len_utf8}
use Rattle.unicode_ident.specs.Ident.{is_xid_continue}
use Rattle.unicode_ident.proofs.IdentLemmas.{is_xid_start-ascii, is_xid_continue-ascii}
use Rattle.dcx_tokens.specs.declared.token.Token.{Token}
use Rattle.dcx_tokens.specs.declared.token.TokenKind.{TokenKind}
use Rattle.dcx_tokens.specs.declared.token.TokenKind.TheVariants as kind
use Rattle.dcx_tokens.specs.Front.{begins_name}
use Rattle.dcx_tokens.specs.Position.{bytes_of}
use Rattle.dcx_tokens.specs.Reading.{IsLexed}
use Rattle.dcx_token_laws.specs.Cut.{Spans, IsMark, AreMarks, Cut, ended, stopped, between, word, line_end, supplied, last}
use Rattle.dcx_token_laws.specs.Words.{IsIdentifier, IsWord}
use Rattle.dcx_token_laws.proofs.Stretches.{texts_are_cut}
use Rattle.dcx_lines.proofs.Digits.{bytes_append}
use Rattle.dcx_report.proofs.OneLine.{IsLine}

-- ---- bytes
of_each : (xs : List ℕ) → ((k : ℕ) → k < length xs → get_or xs k 0 ≢ 10) → IsLine xs
of_each [] h = tt
of_each (x ∷ xs) h = (h 0 (omega arith), of_each xs (λ k below. h (suc k) (omega arith)))

character : (c : ℕ) → c ≢ 10 → IsLine (encode c)
character c h = of_each (encode c) (λ k below e.
    h (inside_one c [] (encode c) k (sym (append-nil _)) below (omega (arith, e)) ∙ e))

spelled : (cs : List ℕ) → IsLine cs → IsLine (encodes cs)
spelled [] h = tt
spelled (c ∷ cs) h = bytes_append (λ b. b ≢ 10) (encode c) (encodes cs) (character c h.0) (spelled cs h.1)

-- as many as the positions in a text count
counted : (cs : List ℕ) → length (encodes cs) ≡ bytes_of cs
counted [] = refl
counted (c ∷ cs) = omega (arith, length-append (encode c) (encodes cs), length-encode c, counted cs, sum_by-cons len_utf8 c cs)

-- ---- characters
begins_other : (c : ℕ) → IsTrue (begins_name c) → c ≢ 10
begins_other c h e = false≢true (sym (ap begins_name e ∙ ap (λ b. b || eqb 10 95) (is_xid_start-ascii 10 (omega arith))) ∙ h)

later_other : (c : ℕ) → IsTrue (is_xid_continue c) → c ≢ 10
later_other c h e = false≢true (sym (ap is_xid_continue e ∙ is_xid_continue-ascii 10 (omega arith)) ∙ h)

all_later : (cs : List ℕ) → AllByRecursion (λ d. IsTrue (is_xid_continue d)) cs → IsLine cs
all_later [] h = tt
all_later (c ∷ cs) h = (later_other c h.0, all_later cs h.1)

identifier_line : (cs : List ℕ) → IsIdentifier cs → IsLine cs
identifier_line [] h = absurd h
identifier_line (c ∷ cs) h = (begins_other c h.0, all_later cs (recursion_from_All (λ d. IsTrue (is_xid_continue d)) cs h.1))

-- ---- tokens
-- what stands in a text behind the bytes of these characters
cut_out : (text front cs behind : List ℕ) → IsUtf8 text → chars text ≡ front ++ (cs ++ behind) → slice_range text (bytes_of front) (bytes_of (front ++ cs)) ≡ encodes cs
cut_out text front cs behind utf8 e =
    let parts : text ≡ encodes front ++ (encodes cs ++ encodes behind) =
    sym (encodes-chars text utf8) ∙ ap encodes e ∙ encodes-append front (cs ++ behind) ∙ ap (λ xs. encodes front ++ xs) (encodes-append cs behind) in
    let from = counted front in
    let to = sym (counted (front ++ cs)) ∙ ap length (encodes-append front cs) ∙ length-append (encodes front) (encodes cs) in
    let many : bytes_of (front ++ cs) - bytes_of front ≡ length (encodes cs) = omega (arith, from, to) in
    let dropped : drop (bytes_of front) text ≡ encodes cs ++ encodes behind = ap₂ (λ n xs. drop n xs) (sym from) parts ∙ drop-append_seam (encodes front) (encodes cs ++ encodes behind) in
    ap₂ (λ n xs. take n xs) many dropped ∙ take-append_seam (encodes cs) (encodes behind)

module _ (text : List ℕ) (utf8 : IsUtf8 text) where
  -- a token that is a name has no line feed
  abbrev pub IsLineIfName : Token → Type 0
  IsLineIfName t = t.kind ≡ kind.Name → IsLine (slice_range text t.start t.end)

  mark_is_none : (k : TokenKind) → IsMark k → k ≡ kind.Name → ⊥
  mark_is_none k h e = subst IsMark e h

  marks_lines : (front : List ℕ) (marks ts : List Token) → AreMarks front marks → AllByRecursion IsLineIfName ts → AllByRecursion IsLineIfName (marks ++ ts)
  marks_lines front [] ts are h = h
  marks_lines front (m ∷ marks) ts are h = (
    λ e. absurd (mark_is_none m.kind (All-head (λ t. IsMark t.kind × Spans t front []) m marks are).0 e),
    marks_lines front marks ts (All-tail (λ t. IsMark t.kind × Spans t front []) m marks are) h,
  )

  word_line : (t : Token) (front cs behind : List ℕ) → chars text ≡ front ++ (cs ++ behind) → IsWord t.kind cs → Spans t front cs → IsLineIfName t
  word_line t front cs behind e h spans named =
      let name : IsIdentifier cs = (subst (λ k. IsWord k cs) named h).0 in
      let here : slice_range text t.start t.end ≡ encodes cs = ap₂ (λ i j. slice_range text i j) spans.start spans.end ∙ cut_out text front cs behind utf8 e in
      subst IsLine (sym here) (spelled cs (identifier_line cs name))

  cut_lines : {front cs rest : List ℕ} {ts : List Token} → Cut front cs ts rest → chars text ≡ front ++ cs → AllByRecursion IsLineIfName ts
  cut_lines ended e = tt
  cut_lines (stopped {front = front} {marks = marks} c rest are) e = subst (AllByRecursion IsLineIfName) (append-nil marks) (marks_lines front marks [] are tt)
  cut_lines (between {front = front} {behind = behind} cs how more) e = cut_lines more (e ∙ sym (append_assoc front cs behind))
  cut_lines (word {front = front} {behind = behind} {t = t} {ts = ts} marks cs are h longest spans more) e =
      marks_lines front marks (t ∷ ts) are (word_line t front cs behind e h spans, cut_lines more (e ∙ sym (append_assoc front cs behind)))
  cut_lines (line_end {front = front} {behind = behind} cs is end spans more) e = (λ named. absurd cc, cut_lines more (e ∙ sym (append_assoc front cs behind)))
  cut_lines (supplied is spans more) e = (λ named. absurd cc, cut_lines more e)
  cut_lines (last is more) e = (λ named. absurd (let k = is.kind in cc), cut_lines more e)

  pub names_are_lines : (ts : List Token) → IsLexed text ts None → AllByRecursion IsLineIfName ts
  names_are_lines ts lexed = let (rest, cut, none) = texts_are_cut text ts None lexed in cut_lines cut refl
