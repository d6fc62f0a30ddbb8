-- What stands in front on the line that is read: a token, or blanks alone.
use Rattle.std.proofs.Common.{◌≡◌, ◌≢◌, inl, inr, ℕ, zero, suc, ◌+◌, ◌<◌, true, false, eqb, List, [], ◌∷◌, ◌++◌, length, take, drop, refl, sym, ap, ◌∙◌, subst, append_assoc, arith}
use Rattle.std.specs.Prelude.{Ok, IsTrue}
use Rattle.std.specs.List.{All}
use Rattle.std.proofs.Math.Numerals.{one-add}
use Rattle.std.proofs.lemmas.List.{append-nil}
use Rattle.std.proofs.lemmas.List.Elements.{All-nil, All-head, All-tail}
use Rattle.std.proofs.lemmas.Bool.{eqb-true}
use Rattle.dcx_tokens.specs.declared.token.TokenKind.{TokenKind}
use Rattle.dcx_tokens.specs.declared.token.TokenKind.TheVariants as kind
use Rattle.dcx_tokens.specs.Front.{is_blank, ends_line, up_to_line_end}
use Rattle.dcx_tokens.specs.State.{State, moved, put, line_begun_at, start}
use Rattle.dcx_token_laws.specs.Cut.{AreBlanks, IsLineEnd, EndsLine}
use Rattle.dcx_token_laws.specs.Fine.{StartsLine}
use Rattle.dcx_token_laws.proofs.Between.{are_blanks, is_line_end, is_comment}
use Rattle.dcx_token_laws.proofs.Depths.{NoMore, no_more, blanks_column, line_end_column, is_of_words, comment_feeds, comment_ends}
use Rattle.dcx_token_laws.proofs.Feeds.{HasNoFeed, token_feeds}
use Rattle.dcx_token_laws.proofs.Forms.{IsFormed, HasBegun, IsLed, turns, begun_is, begins, has_begun, nests, Closes, over, inside, begun_closes, empty_ends}
use Rattle.dcx_token_laws.proofs.Heads.{Fronts, first_on, second_on, fronts}
use Rattle.dcx_token_laws.proofs.Stacks.{LastOf, is_last, is_inner, last_of, some_there, StacksOf, stacks_turned, stacks_word, stacks_end}
use Rattle.dcx_token_laws.proofs.Steps as steps
use Rattle.dcx_token_laws.proofs.Steps.{IsToken, Step}
use Rattle.dcx_token_laws.proofs.Totals.{token_long}
use Rattle.dcx_token_laws.proofs.Basics.{never_both}
use Rattle.dcx_token_laws.proofs.Spelled.{all_left, all_right}

-- no line begins in front of blanks at the end of these characters
abbrev pub NotLed : List ℕ → Type 0
NotLed front = (before blanks : List ℕ) → front ≡ before ++ blanks → StartsLine before → AreBlanks blanks → ⊥

-- what stands last in a list isn't among those that have P
last_has : (P : ℕ → Type 0) (z xs : List ℕ) (x : ℕ) (y : ℕ) (ys : List ℕ) → z ++ x ∷ [] ≡ xs ++ y ∷ ys → All P (y ∷ ys) → P x
last_has P z xs x y [] e h = by (last_of z xs x y [] e)
  where
    by : LastOf z xs x y [] → P x
    by (is_last a same b) = subst P same (All-head P y [] h)
    by (is_inner ms a b) = absurd (some_there ms x [] b)
last_has P z xs x y (w ∷ ws) e h = last_has P z (xs ++ y ∷ []) x w ws (e ∙ sym (append_assoc xs (y ∷ []) (w ∷ ws))) (All-tail P y (w ∷ ws) h)

-- a line that starts behind more characters has a line feed as their last
pub starts_more : (P : ℕ → Type 0) → (P 10 → ⊥) → (before xs : List ℕ) (y : ℕ) (ys : List ℕ) → before ≡ xs ++ y ∷ ys → StartsLine before → All P (y ∷ ys) → ⊥
starts_more P not before xs y ys e (inl none) h = some_there xs y ys (sym none ∙ e)
starts_more P not before xs y ys e (inr (z, is)) h = not (last_has P z xs 10 y ys (sym is ∙ e) h)

pub ten_blank : is_blank 10 ≡ true → ⊥
ten_blank e = cc

-- behind what begins with no blank and has no line feed
not_led : (front : List ℕ) (c : ℕ) (ws : List ℕ) → is_blank c ≡ false → HasNoFeed (c ∷ ws) → NotLed (front ++ c ∷ ws)
not_led front c ws other feeds before blanks e starts are = by (fronts front before (c ∷ ws) blanks e)
  where
    behind : (more : List ℕ) → c ∷ ws ≡ more ++ blanks → before ≡ front ++ more → ⊥
    behind [] f g = never_both (is_blank c) (All-head (λ d. IsTrue (is_blank d)) c ws (subst AreBlanks (sym f) are)) other
    behind (m ∷ ms) f g = starts_more (λ d. d ≢ 10) (λ h. h refl) before front m ms g starts (all_left (λ d. d ≢ 10) (m ∷ ms) blanks (subst HasNoFeed f feeds))

    by : Fronts front before (c ∷ ws) blanks → ⊥
    by (first_on more f g) = behind more g f
    by (second_on more f g) = never_both (is_blank c) (All-head (λ d. IsTrue (is_blank d)) c ws (all_right (λ d. IsTrue (is_blank d)) more (c ∷ ws) (subst AreBlanks g are))) other

-- behind blanks
not_led_blanks : (front bl : List ℕ) → NotLed front → AreBlanks bl → NotLed (front ++ bl)
not_led_blanks front bl h are before blanks e starts also = by (fronts front before bl blanks e)
  where
    behind : (more : List ℕ) → bl ≡ more ++ blanks → before ≡ front ++ more → ⊥
    behind [] f g = h before [] (sym (append-nil before ∙ g ∙ append-nil front)) starts (All-nil (λ d. IsTrue (is_blank d)))
    behind (m ∷ ms) f g = starts_more (λ d. IsTrue (is_blank d)) ten_blank before front m ms g starts (all_left (λ d. IsTrue (is_blank d)) (m ∷ ms) blanks (subst AreBlanks f are))

    by : Fronts front before bl blanks → ⊥
    by (first_on more f g) = behind more g f
    by (second_on more f g) = h before more f starts (all_left (λ d. IsTrue (is_blank d)) more bl (subst AreBlanks g also))

-- the line has a token; or blanks alone lead it, all of them; or it is at its end, and has none
pub data Spot (s : State) (front cs : List ℕ) : Type 0 where
  within : HasBegun s → (length s.brackets ≡ 0 → NotLed front) → Spot s front cs
  leads : (before blanks : List ℕ) → IsLed blanks s → length s.brackets ≡ 0 → front ≡ before ++ blanks → StartsLine before → AreBlanks blanks
      → s.at.place.column ≡ 1 + length blanks → NoMore blanks cs → Spot s front cs
  closing : (blanks : List ℕ) → IsLed blanks s → length s.brackets ≡ 0 → EndsLine cs → Spot s front cs

pub spot_formed : (s : State) (front cs : List ℕ) → Spot s front cs → IsFormed s
spot_formed s front cs (within is apart) = inl is
spot_formed s front cs (leads before blanks is none parts starts are column last) = inr (blanks, is)
spot_formed s front cs (closing blanks is none end) = inr (blanks, is)

end_starts : (front end : List ℕ) → IsLineEnd end → StartsLine (front ++ end)
end_starts front end (inl e) = inr (front, ap (λ xs. front ++ xs) e)
end_starts front end (inr e) = inr (front ++ 13 ∷ [], ap (λ xs. front ++ xs) e ∙ sym (append_assoc front (13 ∷ []) (10 ∷ [])))

none_before : (c : ℕ) (cs bs : List ℕ) → NoMore bs (c ∷ cs) → is_blank c ≡ true → bs ≡ []
none_before c cs [] h b = refl
none_before c cs (x ∷ xs) h b = absurd (never_both (is_blank c) b h)

-- where a step leads, and the stacks behind it
pub record Leads (t : State) (front cs : List ℕ) : Type 0 where
  pub spot : Spot t front cs
  pub stacks : StacksOf t

module _ (s t : State) (front : List ℕ) (c : ℕ) (cs : List ℕ) (n : ℕ) (stacks : StacksOf s) where
  abbrev now : List ℕ
  now = front ++ take n (c ∷ cs)

  -- a new line
  anew : (w : State) → t ≡ record w { line = start.line } → length w.brackets ≡ 0 → w.at.place.column ≡ 1 → IsLineEnd (take n (c ∷ cs)) → StacksOf w → Leads t now (drop n (c ∷ cs))
  anew w same none column end stack =
      subst (λ (x : State). Leads x now (drop n (c ∷ cs))) (sym same) (record {
        spot = leads now [] refl none (sym (append-nil now)) (end_starts front (take n (c ∷ cs)) end) (All-nil (λ d. IsTrue (is_blank d))) (omega (arith, column)) tt;
        stacks = stack;
      })

  empty_line : (blanks : List ℕ) → IsLed blanks s → length s.brackets ≡ 0 → IsLineEnd (take n (c ∷ cs)) → t ≡ record (moved s (take n (c ∷ cs))) { line = start.line } → Leads t now (drop n (c ∷ cs))
  empty_line blanks is none end same = anew (moved s (take n (c ∷ cs))) same none (line_end_column s (take n (c ∷ cs)) end) end stacks

  end_of : HasBegun s → IsLineEnd (take n (c ∷ cs)) → Closes s t (take n (c ∷ cs)) → Leads t now (drop n (c ∷ cs))
  end_of is end (over none e) = anew (put s kind.Newline (take n (c ∷ cs))) e none (line_end_column s (take n (c ∷ cs)) end) end (stacks_end s (take n (c ∷ cs)) stacks)
  end_of is end (inside some e) = subst (λ (x : State). Leads x now (drop n (c ∷ cs))) (sym e) (record { spot = within is (λ zero. absurd (omega (arith, some, zero))); stacks = stacks })

  -- behind a comment and behind a token
  comment_apart : eqb c 35 ≡ true → n ≡ 1 + up_to_line_end cs → NotLed now
  comment_apart h count =
      let some : n ≡ suc (up_to_line_end cs) = count ∙ one-add (up_to_line_end cs) in
      let feeds = comment_feeds (take n (c ∷ cs)) (drop n (c ∷ cs)) (is_comment c cs n h count) in
      subst (λ xs. NotLed (front ++ xs)) (sym (ap (λ i. take i (c ∷ cs)) some))
      (not_led front c (take (up_to_line_end cs) cs) (ap is_blank (eqb-true c 35 h)) (subst HasNoFeed (ap (λ i. take i (c ∷ cs)) some) feeds))

  word_apart : (k : TokenKind) → ends_line c cs ≡ false → is_blank c ≡ false → IsToken c cs k n → NotLed now
  word_apart k l b token = by n (token_long c cs k n token) (token_feeds c cs k n l token)
    where
      by : (m : ℕ) → 0 < m → HasNoFeed (take m (c ∷ cs)) → NotLed (front ++ take m (c ∷ cs))
      by zero some feeds = absurd (omega (arith, some))
      by (suc m) some feeds = not_led front c (take m cs) b feeds

  pub leads_next : Spot s front (c ∷ cs) → Step s t c cs n → Leads t now (drop n (c ∷ cs))
  leads_next (within is apart) (steps.line_end l count same) = end_of is (is_line_end c cs n l count) (begun_closes s t (take n (c ∷ cs)) is same)
  leads_next (within is apart) (steps.blank l b count same) = subst (λ (x : State). Leads x now (drop n (c ∷ cs))) (sym same)
      (record { spot = within (rw is refl) (λ zero. not_led_blanks front (take n (c ∷ cs)) (apart zero) (are_blanks c cs n b count)); stacks = stacks })
  leads_next (within is apart) (steps.comment l h count same) =
      subst (λ (x : State). Leads x now (drop n (c ∷ cs))) (sym same) (record { spot = within is (λ zero. comment_apart h count); stacks = stacks })
  leads_next (within is apart) (steps.word u v k l b begins_so token nested_so same) =
      let stays = begun_is s u is begins_so in
      let nest = nests u v k nested_so in
      subst (λ (x : State). Leads x now (drop n (c ∷ cs))) (sym same) (record {
        spot = within (nest.line ∙ subst HasBegun (sym stays) is) (λ zero. word_apart k l b token);
        stacks = stacks_word u v k (take n (c ∷ cs)) (is_of_words c cs k n token) nested_so (subst StacksOf (sym stays) stacks);
      })
  leads_next (leads before blanks is none parts starts are column last) (steps.line_end l count same) =
      empty_line blanks is none (is_line_end c cs n l count) (empty_ends s t (take n (c ∷ cs)) blanks is same)
  leads_next (leads before blanks is none parts starts are column last) (steps.blank l b count same) =
      let bl = take n (c ∷ cs) in
      let no = none_before c cs blanks last b in
      let first : front ≡ before = parts ∙ ap (λ xs. before ++ xs) no ∙ append-nil before in
      let zero = ap (λ xs. length xs) no in
      let more = blanks_column s bl (are_blanks c cs n b count) in
      subst (λ (x : State). Leads x now (drop n (c ∷ cs))) (sym same) (record {
        spot = leads before bl (rw is refl) none (ap (λ xs. xs ++ bl) first) starts (are_blanks c cs n b count) (omega (arith, column, zero, more)) (no_more c cs n count);
        stacks = stacks;
      })
  leads_next (leads before blanks is none parts starts are column last) (steps.comment l h count same) =
      subst (λ (x : State). Leads x now (drop n (c ∷ cs))) (sym same)
      (record { spot = closing blanks is none (comment_ends (take n (c ∷ cs)) (drop n (c ∷ cs)) (is_comment c cs n h count)); stacks = stacks })
  leads_next (leads before blanks is none parts starts are column last) (steps.word u v k l b begins_so token nested_so same) =
      let nest = nests u v k nested_so in
      subst (λ (x : State). Leads x now (drop n (c ∷ cs))) (sym same) (record {
        spot = within (nest.line ∙ has_begun s u (begins s u (inr (blanks, is)) begins_so)) (λ zero. word_apart k l b token);
        stacks = stacks_word u v k (take n (c ∷ cs)) (is_of_words c cs k n token) nested_so (stacks_turned s u (length blanks) column (turns s u blanks is begins_so) stacks);
      })
  leads_next (closing blanks is none end) (steps.line_end l count same) = empty_line blanks is none (is_line_end c cs n l count) (empty_ends s t (take n (c ∷ cs)) blanks is same)
  leads_next (closing blanks is none end) (steps.blank l b count same) = absurd (never_both (ends_line c cs) end l)
  leads_next (closing blanks is none end) (steps.comment l h count same) = absurd (never_both (ends_line c cs) end l)
  leads_next (closing blanks is none end) (steps.word u v k l b begins_so token nested_so same) = absurd (never_both (ends_line c cs) end l)

-- where the line stands before its first token, the stacks behind its marks
pub stacks_begun : (s u : State) (front cs : List ℕ) → Spot s front cs → line_begun_at s s.line ≡ (u, Ok tt) → StacksOf s → (EndsLine cs → ⊥) → StacksOf u
stacks_begun s u front cs (within is apart) e h not = subst StacksOf (sym (begun_is s u is e)) h
stacks_begun s u front cs (leads before blanks is none parts starts are column last) e h not = stacks_turned s u (length blanks) column (turns s u blanks is e) h
stacks_begun s u front cs (closing blanks is none end) e h not = absurd (not end)
