-- The spans of the tokens.
use Rattle.std.proofs.Common.{inl, inr, ℕ, zero, suc, ◌-◌, ◌<◌, ◌≤◌, Bool, true, false, cond, List, [], ◌∷◌, ◌++◌, length, take, replicate, Option, refl, sym, subst, append_assoc, arith}
use Rattle.std.specs.Prelude.{Ok, Err}
use Rattle.std.specs.List.{All}
use Rattle.std.specs.Str.{IsUtf8}
use Rattle.std.proofs.lemmas.List.{append-nil}
use Rattle.std.proofs.lemmas.List.Elements.{All-push, All-nil}
use Rattle.dcx_shape.specs.declared.place.Place.{Place}
use Rattle.dcx_tokens.specs.declared.fault.ReadFault.{ReadFault}
use Rattle.dcx_tokens.specs.declared.fault.ReadFault.TheVariants as fault
use Rattle.dcx_tokens.specs.declared.position.Position.{Position}
use Rattle.dcx_tokens.specs.declared.token.Symbol.{Symbol}
use Rattle.dcx_tokens.specs.declared.token.Token.{Token}
use Rattle.dcx_tokens.specs.declared.token.TokenKind.{TokenKind}
use Rattle.dcx_tokens.specs.declared.token.TokenKind.TheVariants as kind
use Rattle.dcx_tokens.specs.Layout.{kept, opens, closes}
use Rattle.dcx_tokens.specs.Laws.{AreInOrder, HasBytes}
use Rattle.dcx_tokens.specs.Position.{moved_over, line_behind}
use Rattle.dcx_tokens.specs.Reading.{IsLexed}
use Rattle.dcx_tokens.specs.State.{State, Answer, and_then, put, is_full, dedent_at}
use Rattle.dcx_tokens.proofs.Bytes.{bytes_of-chars, length-le-bytes, offset_moved}
use Rattle.dcx_tokens.proofs.Kept.{IsPlain, token_of, token_put, Kept, Final, reads_keep}

order_push : (low high : ℕ) (ts : List Token) (t : Token) → AreInOrder low ts high → high ≤ t.start → t.start ≤ t.end → AreInOrder low (ts ++ t ∷ []) t.end
order_push low high [] t h from to = (omega arith, to, omega arith)
order_push low high (u ∷ ts) t h from to = (h.0, h.1, order_push u.end high ts t h.2 from to)

order_later : (low high later : ℕ) (ts : List Token) → AreInOrder low ts high → high ≤ later → AreInOrder low ts later
order_later low high later [] h le = omega arith
order_later low high later (u ∷ ts) h le = (h.0, h.1, order_later u.end high later ts h.2 le)

module _ (total : ℕ) where
  -- the tokens are in order up to a byte, and have their bytes
  pub record Spanned (ts : List Token) (high : ℕ) : Type 0 where
    pub order : AreInOrder 0 ts high
    pub bytes : All (HasBytes total) ts

  -- one token more
  spanned_push : (ts : List Token) (high : ℕ) (t : Token) → Spanned ts high → high ≤ t.start → t.start ≤ t.end → HasBytes total t → Spanned (ts ++ t ∷ []) t.end
  spanned_push ts high t h from to bytes = record {
    order = order_push 0 high ts t h.order from to;
    bytes = All-push (HasBytes total) ts t h.bytes bytes;
  }

  spanned_later : (ts : List Token) (high later : ℕ) → Spanned ts high → high ≤ later → Spanned ts later
  spanned_later ts high later h le = record { order = order_later 0 high later ts h.order le; bytes = h.bytes }

  abbrev Spans : State → Type 0
  Spans s = Spanned s.tokens s.at.offset

  -- a token of these characters
  spanned_put : (s : State) (k : TokenKind) (cs : List ℕ) → HasBytes total (token_of s k cs) → Spans s → Spans (put s k cs)
  spanned_put s k cs bytes h =
      let m = offset_moved s.at cs in
      spanned_push s.tokens s.at.offset (token_of s k cs) h (omega arith) (omega arith) bytes

  -- characters have bytes
  longer : (at : Position) (cs : List ℕ) → 0 < length cs → at.offset < (moved_over at cs).offset
  longer at cs some = omega (arith, offset_moved at cs, length-le-bytes cs)

  plain_put : (s : State) (k : TokenKind) (cs : List ℕ) → IsPlain k → 0 < length cs → Spans s → Spans (put s k cs)
  plain_put s kind.Name cs p some h = spanned_put s kind.Name cs (longer s.at cs some) h
  plain_put s (kind.Keyword w) cs p some h = spanned_put s (kind.Keyword w) cs (longer s.at cs some) h
  plain_put s (kind.Number n) cs p some h = spanned_put s (kind.Number n) cs (longer s.at cs some) h
  plain_put s kind.Text cs p some h = spanned_put s kind.Text cs (longer s.at cs some) h
  plain_put s (kind.Sign symbol) cs p some h = spanned_put s (kind.Sign symbol) cs (longer s.at cs some) h
  plain_put s kind.Newline cs p some h = absurd p
  plain_put s kind.Indent cs p some h = absurd p
  plain_put s kind.Dedent cs p some h = absurd p

  sign_put : (s : State) (symbol : Symbol) (cs : List ℕ) (n : ℕ) → 0 < length cs → Spans s → Spans (token_put s (kind.Sign symbol) cs n).0
  sign_put s symbol cs n some h = by (opens symbol) (is_full s) (closes symbol)
    where
      by : (o f c : Bool) →
          Spans (and_then (cond {A = Answer (Unit {0})} o
          (cond {A = Answer (Unit {0})} f (s, Err (fault.TooDeep s.at.place)) (record s { brackets = s.brackets ++ s.at.place ∷ [] }, Ok tt)) (cond {A = Answer (Unit {0})}
          c (record s { brackets = take (length s.brackets - 1) s.brackets }, Ok tt) (s, Ok tt))) (λ t _. (put t (kind.Sign symbol) cs, Ok n))).0
      by true true c = h
      by true false c = plain_put s (kind.Sign symbol) cs tt some h
      by false f true = plain_put s (kind.Sign symbol) cs tt some h
      by false f false = plain_put s (kind.Sign symbol) cs tt some h

  token_spans : (s : State) (k : TokenKind) (cs : List ℕ) (n : ℕ) → IsPlain k → 0 < length cs → Spans s → Spans (token_put s k cs n).0
  token_spans s kind.Name cs n p some h = plain_put s kind.Name cs p some h
  token_spans s (kind.Keyword w) cs n p some h = plain_put s (kind.Keyword w) cs p some h
  token_spans s (kind.Number m) cs n p some h = plain_put s (kind.Number m) cs p some h
  token_spans s kind.Text cs n p some h = plain_put s kind.Text cs p some h
  token_spans s (kind.Sign symbol) cs n p some h = sign_put s symbol cs n some h
  token_spans s kind.Newline cs n p some h = absurd p
  token_spans s kind.Indent cs n p some h = absurd p
  token_spans s kind.Dedent cs n p some h = absurd p

  -- several ends of indentations, which have no bytes
  spanned_dedents : (n : ℕ) (ts : List Token) (s : State) (place : Place) → Spanned ts s.at.offset → Spanned (ts ++ replicate n (dedent_at s place)) s.at.offset
  spanned_dedents zero ts s place h = subst (λ us. Spanned us s.at.offset) (sym (append-nil ts)) h
  spanned_dedents (suc n) ts s place h =
      let d = dedent_at s place in
      let one : Spanned (ts ++ d ∷ []) s.at.offset = spanned_push ts s.at.offset d h (omega arith) (omega arith) refl in
      subst (λ us. Spanned us s.at.offset) (append_assoc ts (d ∷ []) (replicate n d)) (spanned_dedents n (ts ++ d ∷ []) s place one)

  pub spans : Kept Spans total
  spans = record {
    moves = λ s line cs h. spanned_later s.tokens s.at.offset (moved_over s.at cs).offset h (omega (arith, offset_moved s.at cs));
    line_ends = λ s cs some h. spanned_put s kind.Newline cs (inl (longer s.at cs some)) h;
    indents = λ s spaces room h. spanned_put s kind.Indent [] refl h;
    dedents = λ s spaces h. spanned_dedents (length s.indents - length (kept s.indents spaces)) s.tokens s s.at.place h;
    token = λ s k cs n plain some h. token_spans s k cs n plain some h;
    supplies = λ s end h. spanned_put s kind.Newline [] (inr (end, end)) h;
    all_end = λ s h. spanned_dedents (length s.indents) s.tokens s (line_behind s.at.place) h;
  }

final : (text : List ℕ) (ts : List Token) (f : Option ReadFault) → IsUtf8 text → IsLexed text ts f → Final (Spans (length text)) (length text) ts f
final text ts f utf8 lexed = reads_keep (Spans (length text)) (length text) (spans (length text)) (record { order = omega arith; bytes = All-nil (HasBytes (length text)) })
    (omega (arith, bytes_of-chars text utf8)) lexed

pub all_in_order : (text : List ℕ) (ts : List Token) (f : Option ReadFault) → IsUtf8 text → IsLexed text ts f → AreInOrder 0 ts (length text)
all_in_order text ts f utf8 lexed =
    let l = final text ts f utf8 lexed in
    subst (λ us. AreInOrder 0 us (length text)) l.are (order_later 0 l.state.at.offset (length text) l.state.tokens l.keeps.order l.offset)

pub all_have_bytes : (text : List ℕ) (ts : List Token) (f : Option ReadFault) → IsUtf8 text → IsLexed text ts f → All (HasBytes (length text)) ts
all_have_bytes text ts f utf8 lexed = let l = final text ts f utf8 lexed in subst (λ us. All (HasBytes (length text)) us) l.are l.keeps.bytes
