-- Brackets and indentations along the tokens.
use Rattle.std.proofs.Common.{◌≡◌, ℕ, zero, suc, ◌+◌, ◌-◌, ◌<◌, ◌≤◌, Bool, true, false, cond, List, [], ◌∷◌, ◌++◌, length}
use Rattle.std.proofs.Common.{take, replicate, Option, None, refl, sym, ap, ◌∙◌, subst, append_assoc, arith, length-append}
use Rattle.std.specs.Prelude.{Ok, Err, nat_le}
use Rattle.std.specs.List.{prefix_len}
use Rattle.std.specs.Str.{IsUtf8}
use Rattle.std.proofs.lemmas.List.{length-take, append-nil}
use Rattle.std.proofs.lemmas.Bool.Decides.{nat_tests}
use Rattle.dcx_tokens.specs.declared.fault.ReadFault.{ReadFault}
use Rattle.dcx_tokens.specs.declared.fault.ReadFault.TheVariants as fault
use Rattle.dcx_tokens.specs.declared.token.Symbol.{Symbol}
use Rattle.dcx_tokens.specs.declared.token.Token.{Token}
use Rattle.dcx_tokens.specs.declared.token.TokenKind.{TokenKind}
use Rattle.dcx_tokens.specs.declared.token.TokenKind.TheVariants as kind
use Rattle.dcx_tokens.specs.Layout.{kept, opens, closes}
use Rattle.dcx_tokens.specs.Laws.{brackets_behind, blocks_behind, EndsOne, StaysShallow, brackets_left, blocks_left}
use Rattle.dcx_tokens.specs.Position.{line_behind}
use Rattle.dcx_tokens.specs.Reading.{IsLexed}
use Rattle.dcx_tokens.specs.State.{State, Answer, and_then, put, is_full, dedent_at}
use Rattle.dcx_tokens.proofs.Bytes.{bytes_of-chars}
use Rattle.dcx_tokens.proofs.Kept.{IsPlain, token_of, token_put, Kept, Final, reads_keep}

-- behind these tokens so many brackets and blocks are open, and never too many were
pub record Nested (ts : List Token) (brackets blocks : ℕ) : Type 0 where
  pub shallow : StaysShallow 0 0 ts
  pub brackets_are : brackets_left 0 ts ≡ brackets
  pub blocks_are : blocks_left 0 ts ≡ blocks

pub brackets_left-push : (n : ℕ) (ts : List Token) (t : Token) → brackets_left n (ts ++ t ∷ []) ≡ brackets_behind (brackets_left n ts) t.kind
brackets_left-push n [] t = refl
brackets_left-push n (u ∷ ts) t = brackets_left-push (brackets_behind n u.kind) ts t

blocks_left-push : (n : ℕ) (ts : List Token) (t : Token) → blocks_left n (ts ++ t ∷ []) ≡ blocks_behind (blocks_left n ts) t.kind
blocks_left-push n [] t = refl
blocks_left-push n (u ∷ ts) t = blocks_left-push (blocks_behind n u.kind) ts t

shallow_push : (b i : ℕ) (ts : List Token) (t : Token) → StaysShallow b i ts → EndsOne (blocks_left i ts) t.kind →
    brackets_behind (brackets_left b ts) t.kind + blocks_behind (blocks_left i ts) t.kind ≤ 64 → StaysShallow b i (ts ++ t ∷ [])
shallow_push b i [] t h one few = (h, one, few)
shallow_push b i (u ∷ ts) t h one few = (h.0, h.1, shallow_push (brackets_behind b u.kind) (blocks_behind i u.kind) ts t h.2 one few)

pub shallow_end : (b i : ℕ) (ts : List Token) → StaysShallow b i ts → brackets_left b ts + blocks_left i ts ≤ 64
shallow_end b i [] h = h
shallow_end b i (u ∷ ts) h = shallow_end (brackets_behind b u.kind) (blocks_behind i u.kind) ts h.2

-- one token more
nested_push : (ts : List Token) (b i : ℕ) (t : Token) → Nested ts b i → EndsOne i t.kind → brackets_behind b t.kind + blocks_behind i t.kind ≤ 64 →
    Nested (ts ++ t ∷ []) (brackets_behind b t.kind) (blocks_behind i t.kind)
nested_push ts b i t h one few = record {
  shallow = shallow_push 0 0 ts t h.shallow (subst (λ n. EndsOne n t.kind) (sym h.blocks_are) one) (subst (λ n. n + blocks_behind (blocks_left 0 ts) t.kind ≤ 64)
      (sym (ap (λ n. brackets_behind n t.kind) h.brackets_are)) (subst (λ n. brackets_behind b t.kind + n ≤ 64) (sym (ap (λ n. blocks_behind n t.kind) h.blocks_are)) few));
  brackets_are = brackets_left-push 0 ts t ∙ ap (λ n. brackets_behind n t.kind) h.brackets_are;
  blocks_are = blocks_left-push 0 ts t ∙ ap (λ n. blocks_behind n t.kind) h.blocks_are;
}

few_open : (ts : List Token) (b i : ℕ) → Nested ts b i → b + i ≤ 64
few_open ts b i h = let e = shallow_end 0 0 ts h.shallow in let p = h.brackets_are in let q = h.blocks_are in omega arith

-- one end of an indentation
nested_dedent : (ts : List Token) (b i : ℕ) (d : Token) → d.kind ≡ kind.Dedent → 0 < i → Nested ts b i → Nested (ts ++ d ∷ []) b (i - 1)
nested_dedent ts b i d is some h =
    let few = few_open ts b i h in
    let blocks : blocks_behind i d.kind ≡ i - 1 = ap (λ x. blocks_behind i x) is in
    let brackets : brackets_behind b d.kind ≡ b = ap (λ x. brackets_behind b x) is in
    let ends : EndsOne i d.kind = subst (λ x. EndsOne i x) (sym is) some in
    let pushed = nested_push ts b i d h ends (omega arith) in
    subst (λ m. Nested (ts ++ d ∷ []) b m) blocks (subst (λ m. Nested (ts ++ d ∷ []) m (blocks_behind i d.kind)) brackets pushed)

-- several
nested_dedents : (n : ℕ) (ts : List Token) (b i : ℕ) (d : Token) → d.kind ≡ kind.Dedent → n ≤ i → Nested ts b i → Nested (ts ++ replicate n d) b (i - n)
nested_dedents zero ts b i d is le h = subst (λ us. Nested us b (i - 0)) (sym (append-nil ts)) (subst (λ m. Nested ts b m) (omega arith) h)
nested_dedents (suc n) ts b i d is le h =
    let more = nested_dedents n (ts ++ d ∷ []) b (i - 1) d is (omega arith) (nested_dedent ts b i d is (omega arith) h) in
    subst (λ us. Nested us b (i - suc n)) (append_assoc ts (d ∷ []) (replicate n d)) (subst (λ m. Nested ((ts ++ d ∷ []) ++ replicate n d) b m) (omega arith) more)

-- what a state keeps
abbrev Nests : State → Type 0
Nests s = Nested s.tokens (length s.brackets) (length s.indents)

-- a plain token that is no sign changes nothing
plain_put : (s : State) (k : TokenKind) (cs : List ℕ) (b : ℕ) → IsPlain k → Nested s.tokens b (length s.indents) → brackets_behind b k + length s.indents ≤ 64
    → Nested (put s k cs).tokens (brackets_behind b k) (length s.indents)
plain_put s kind.Name cs b p h few = nested_push s.tokens b (length s.indents) (token_of s kind.Name cs) h tt few
plain_put s (kind.Keyword w) cs b p h few = nested_push s.tokens b (length s.indents) (token_of s (kind.Keyword w) cs) h tt few
plain_put s (kind.Number n) cs b p h few = nested_push s.tokens b (length s.indents) (token_of s (kind.Number n) cs) h tt few
plain_put s kind.Text cs b p h few = nested_push s.tokens b (length s.indents) (token_of s kind.Text cs) h tt few
plain_put s (kind.Sign symbol) cs b p h few = nested_push s.tokens b (length s.indents) (token_of s (kind.Sign symbol) cs) h tt few
plain_put s kind.Newline cs b p h few = absurd p
plain_put s kind.Indent cs b p h few = absurd p
plain_put s kind.Dedent cs b p h few = absurd p

room_left : (s : State) → is_full s ≡ false → length s.indents + length s.brackets < 64
room_left s e = grind (arith, nat_tests)

sign_put : (s : State) (symbol : Symbol) (cs : List ℕ) (n : ℕ) → Nests s → Nests (token_put s (kind.Sign symbol) cs n).0
sign_put s symbol cs n h = by (opens symbol) refl (is_full s) refl (closes symbol) refl
  where
    few : length s.brackets + length s.indents ≤ 64
    few = few_open s.tokens (length s.brackets) (length s.indents) h

    behind : (o c : Bool) → opens symbol ≡ o → closes symbol ≡ c
        → brackets_behind (length s.brackets) (kind.Sign symbol) ≡ cond o (length s.brackets + 1) (cond c (length s.brackets - 1) (length s.brackets))
    behind o c eo ec = ap (λ x. cond x (length s.brackets + 1) (cond (closes symbol) (length s.brackets - 1) (length s.brackets))) eo
        ∙ ap (λ x. cond o (length s.brackets + 1) (cond x (length s.brackets - 1) (length s.brackets))) ec

    pushed : (m : ℕ) → brackets_behind (length s.brackets) (kind.Sign symbol) ≡ m → m + length s.indents ≤ 64 → Nested (put s (kind.Sign symbol) cs).tokens m (length s.indents)
    pushed m e le = subst (λ x. Nested (put s (kind.Sign symbol) cs).tokens x (length s.indents)) e
        (plain_put s (kind.Sign symbol) cs (length s.brackets) tt h (subst (λ x. x + length s.indents ≤ 64) (sym e) le))

    by : (o : Bool) → opens symbol ≡ o → (f : Bool) → is_full s ≡ f → (c : Bool) → closes symbol ≡ c →
        Nests (and_then (cond {A = Answer (Unit {0})} o
        (cond {A = Answer (Unit {0})} f (s, Err (fault.TooDeep s.at.place)) (record s { brackets = s.brackets ++ s.at.place ∷ [] }, Ok tt)) (cond {A = Answer (Unit {0})} c
        (record s { brackets = take (length s.brackets - 1) s.brackets }, Ok tt) (s, Ok tt))) (λ t _. (put t (kind.Sign symbol) cs, Ok n))).0
    by true eo true ef c ec = h
    by true eo false ef c ec =
        let room = room_left s ef in
        let l = length-append s.brackets (s.at.place ∷ []) in
        pushed (length (s.brackets ++ s.at.place ∷ [])) (behind true c eo ec ∙ omega arith) (omega arith)
    by false eo f ef true ec =
        let l = length-take (length s.brackets - 1) s.brackets in
        pushed (length (take (length s.brackets - 1) s.brackets)) (behind false true eo ec ∙ omega arith) (omega (arith, few))
    by false eo f ef false ec = pushed (length s.brackets) (behind false false eo ec) few

token_nests : (s : State) (k : TokenKind) (cs : List ℕ) (n : ℕ) → IsPlain k → Nests s → Nests (token_put s k cs n).0
token_nests s kind.Name cs n p h = plain_put s kind.Name cs (length s.brackets) p h (few_open s.tokens (length s.brackets) (length s.indents) h)
token_nests s (kind.Keyword w) cs n p h = plain_put s (kind.Keyword w) cs (length s.brackets) p h (few_open s.tokens (length s.brackets) (length s.indents) h)
token_nests s (kind.Number m) cs n p h = plain_put s (kind.Number m) cs (length s.brackets) p h (few_open s.tokens (length s.brackets) (length s.indents) h)
token_nests s kind.Text cs n p h = plain_put s kind.Text cs (length s.brackets) p h (few_open s.tokens (length s.brackets) (length s.indents) h)
token_nests s (kind.Sign symbol) cs n p h = sign_put s symbol cs n h
token_nests s kind.Newline cs n p h = absurd p
token_nests s kind.Indent cs n p h = absurd p
token_nests s kind.Dedent cs n p h = absurd p

pub kept_fewer : (indents : List ℕ) (spaces : ℕ) → length (kept indents spaces) ≤ length indents
kept_fewer indents spaces = omega (arith, length-take (prefix_len (λ i. nat_le i spaces) indents) indents)

pub nests : (total : ℕ) → Kept Nests total
nests total = record {
  moves = λ s line cs h. h;
  line_ends = λ s cs some h. nested_push s.tokens (length s.brackets) (length s.indents) (token_of s kind.Newline cs) h tt (few_open s.tokens (length s.brackets) (length s.indents) h);
  indents = λ s spaces room h.
      let few = room_left s room in
      subst (λ m. Nested (put s kind.Indent []).tokens (length s.brackets) m) (sym (length-append s.indents (spaces ∷ [])))
      (nested_push s.tokens (length s.brackets) (length s.indents) (token_of s kind.Indent []) h tt (omega arith));
  dedents = λ s spaces h.
      let fewer = kept_fewer s.indents spaces in
      subst (λ m. Nested (s.tokens ++ replicate (length s.indents - length (kept s.indents spaces)) (dedent_at s s.at.place)) (length s.brackets) m) (omega arith)
      (nested_dedents (length s.indents - length (kept s.indents spaces)) s.tokens (length s.brackets) (length s.indents) (dedent_at s s.at.place) refl (omega arith) h);
  token = λ s k cs n plain some h. token_nests s k cs n plain h;
  supplies = λ s end h. nested_push s.tokens (length s.brackets) (length s.indents) (token_of s kind.Newline []) h tt (few_open s.tokens (length s.brackets) (length s.indents) h);
  all_end = λ s h. subst (λ m. Nested (s.tokens ++ replicate (length s.indents) (dedent_at s (line_behind s.at.place))) (length s.brackets) m) (omega arith)
      (nested_dedents (length s.indents) s.tokens (length s.brackets) (length s.indents) (dedent_at s (line_behind s.at.place)) refl (omega arith) h);
}

final : (text : List ℕ) (ts : List Token) (f : Option ReadFault) → IsUtf8 text → IsLexed text ts f → Final Nests (length text) ts f
final text ts f utf8 lexed = reads_keep Nests (length text) (nests (length text)) (record { shallow = omega arith; brackets_are = refl; blocks_are = refl })
    (omega (arith, bytes_of-chars text utf8)) lexed

pub all_shallow : (text : List ℕ) (ts : List Token) (f : Option ReadFault) → IsUtf8 text → IsLexed text ts f → StaysShallow 0 0 ts
all_shallow text ts f utf8 lexed = let l = final text ts f utf8 lexed in subst (λ us. StaysShallow 0 0 us) l.are l.keeps.shallow

pub all_closed : (text : List ℕ) (ts : List Token) → IsUtf8 text → IsLexed text ts None → (brackets_left 0 ts ≡ 0) × (blocks_left 0 ts ≡ 0)
all_closed text ts utf8 lexed =
    let l = final text ts None utf8 lexed in
    let c = l.closed refl in
    (ap (λ us. brackets_left 0 us) (sym l.are) ∙ l.keeps.brackets_are ∙ c.1, ap (λ us. blocks_left 0 us) (sym l.are) ∙ l.keeps.blocks_are ∙ c.0)
