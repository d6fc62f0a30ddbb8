-- Which brackets and blocks are open behind tokens, as stacks: with one token more, and along a step.
use Rattle.std.proofs.Common.{◌≡◌, ℕ, zero, suc, ◌+◌, ◌-◌, ◌<◌, Bool, true, false, cond, List, [], ◌∷◌, ◌++◌}
use Rattle.std.proofs.Common.{length, take, replicate, refl, sym, ap, ◌∙◌, subst, append_assoc, arith, length-append}
use Rattle.std.specs.Prelude.{Ok, Err, nat_le}
use Rattle.std.specs.List.{prefix_len}
use Rattle.std.proofs.lemmas.List.{append-nil, length-take, take-append-le, take-take}
use Rattle.std.proofs.Math.Seq.{take-length}
use Rattle.std.proofs.lemmas.List.Sums.{prefix_len-le-length}
use Rattle.std.proofs.lemmas.List.Folds.{length-prefix_len}
use Rattle.dcx_shape.specs.declared.place.Place.{Place}
use Rattle.dcx_tokens.specs.declared.fault.ReadFault.TheVariants as fault
use Rattle.dcx_tokens.specs.declared.token.Token.{Token}
use Rattle.dcx_tokens.specs.declared.token.TokenKind.{TokenKind}
use Rattle.dcx_tokens.specs.declared.token.TokenKind.TheVariants as kind
use Rattle.dcx_tokens.specs.Laws.{brackets_behind, blocks_behind, brackets_left, blocks_left}
use Rattle.dcx_tokens.specs.Layout.{kept, opens, closes}
use Rattle.dcx_tokens.specs.State.{State, Answer, put, is_full, nested, dedent_at}
use Rattle.dcx_tokens.proofs.Kept.{token_of}
use Rattle.std.proofs.lemmas.List.Elements.{All-head, All-tail}
use Rattle.dcx_token_laws.specs.Cut.{AreMarks, IsMark, Spans}
use Rattle.dcx_token_laws.specs.Faults.{IsOpener, StaysOpen, blocks_with, open_blocks}
use Rattle.dcx_token_laws.specs.Lines.{IsOfWords, depth_of}
use Rattle.dcx_token_laws.proofs.Basics.{head_is, tail_is, nil_not}
use Rattle.dcx_token_laws.proofs.Forms.{Turned, deeper, back, nests, never_ok, first_is}
use Rattle.dcx_tokens.proofs.Nesting.{brackets_left-push}

-- ---- a bracket that is open
-- it is among the tokens, and behind it so many others are open
pub record IsOpenAt (ts : List Token) (p : Place) (inner : ℕ) : Type 0 where
  pub before : List Token
  pub opener : Token
  pub behind : List Token
  pub among : ts ≡ before ++ opener ∷ behind
  pub opens_one : IsOpener opener.kind
  pub place : opener.place ≡ p
  pub stays : StaysOpen 1 behind
  pub left : brackets_left 1 behind ≡ suc inner

-- each place of the stack is that of such a bracket
abbrev pub AreOpen : List Token → List Place → Type 0
AreOpen ts ps = (qs : List Place) (p : Place) (rs : List Place) → ps ≡ qs ++ p ∷ rs → IsOpenAt ts p (length rs)

stays_push : (n : ℕ) (ts : List Token) (t : Token) → StaysOpen n ts → 0 < brackets_behind (brackets_left n ts) t.kind → StaysOpen n (ts ++ t ∷ [])
stays_push n [] t h some = (some, tt)
stays_push n (u ∷ ts) t h some = (h.0, stays_push (brackets_behind n u.kind) ts t h.1 some)

-- with one token more behind it
open_push : (ts : List Token) (t : Token) (p : Place) (i j : ℕ) → IsOpenAt ts p i → brackets_behind (suc i) t.kind ≡ suc j → IsOpenAt (ts ++ t ∷ []) p j
open_push ts t p i j h count =
    let now : brackets_behind (brackets_left 1 h.behind) t.kind ≡ suc j = ap (λ n. brackets_behind n t.kind) h.left ∙ count in
    record {
      before = h.before;
      opener = h.opener;
      behind = h.behind ++ t ∷ [];
      among = ap (λ us. us ++ t ∷ []) h.among ∙ append_assoc h.before (h.opener ∷ h.behind) (t ∷ []);
      opens_one = h.opens_one;
      place = h.place;
      stays = stays_push 1 h.behind t h.stays (omega (arith, now));
      left = brackets_left-push 1 h.behind t ∙ now;
    }

pub brackets_left-append : (n : ℕ) (xs ys : List Token) → brackets_left n (xs ++ ys) ≡ brackets_left (brackets_left n xs) ys
brackets_left-append n [] ys = refl
brackets_left-append n (x ∷ xs) ys = brackets_left-append (brackets_behind n x.kind) xs ys

mark_brackets : (n : ℕ) (k : TokenKind) → IsMark k → brackets_behind n k ≡ n
mark_brackets n kind.Indent h = refl
mark_brackets n kind.Dedent h = refl
mark_brackets n kind.Newline h = absurd h
mark_brackets n kind.Name h = absurd h
mark_brackets n (kind.Keyword w) h = absurd h
mark_brackets n (kind.Number x) h = absurd h
mark_brackets n kind.Text h = absurd h
mark_brackets n (kind.Sign s) h = absurd h

marks_brackets : (front : List ℕ) (n : ℕ) (ms : List Token) → AreMarks front ms → brackets_left n ms ≡ n
marks_brackets front n [] are = refl
marks_brackets front n (m ∷ ms) are =
    ap (λ i. brackets_left i ms) (mark_brackets n m.kind (All-head (λ t. IsMark t.kind × Spans t front []) m ms are).0)
    ∙ marks_brackets front n ms (All-tail (λ t. IsMark t.kind × Spans t front []) m ms are)

-- marks leave the brackets as they are
pub marks_outside : (front : List ℕ) (ts ms : List Token) → AreMarks front ms → brackets_left 0 (ts ++ ms) ≡ brackets_left 0 ts
marks_outside front ts ms are = brackets_left-append 0 ts ms ∙ marks_brackets front (brackets_left 0 ts) ms are

-- the last of a list
pub data LastOf {A : Type 0} (ps qs : List A) (x p : A) (rs : List A) : Type 0 where
  is_last : ps ≡ qs → p ≡ x → rs ≡ [] → LastOf ps qs x p rs
  is_inner : (ms : List A) → ps ≡ qs ++ p ∷ ms → rs ≡ ms ++ x ∷ [] → LastOf ps qs x p rs

pub some_there : {A : Type 0} (qs : List A) (p : A) (rs : List A) → ◌≡◌ {A = List A} [] (qs ++ p ∷ rs) → ⊥
some_there [] p rs e = nil_not p rs e
some_there (q ∷ qs) p rs e = nil_not q (qs ++ p ∷ rs) e

pub last_of : {A : Type 0} (ps qs : List A) (x p : A) (rs : List A) → ps ++ x ∷ [] ≡ qs ++ p ∷ rs → LastOf ps qs x p rs
last_of [] [] x p rs e = is_last refl (sym (head_is x p [] rs e)) (sym (tail_is x p [] rs e))
last_of [] (q ∷ qs) x p rs e = absurd (some_there qs p rs (tail_is x q [] (qs ++ p ∷ rs) e))
last_of (y ∷ ps) [] x p rs e = is_inner ps (ap (λ z. z ∷ ps) (head_is y p (ps ++ x ∷ []) rs e)) (sym (tail_is y p (ps ++ x ∷ []) rs e))
last_of {A = A} (y ∷ ps) (q ∷ qs) x p rs e = by (last_of ps qs x p rs (tail_is y q (ps ++ x ∷ []) (qs ++ p ∷ rs) e))
  where
    first : y ≡ q
    first = head_is y q (ps ++ x ∷ []) (qs ++ p ∷ rs) e

    by : LastOf ps qs x p rs → LastOf (y ∷ ps) (q ∷ qs) x p rs
    by (is_last a b c) = is_last (ap (λ z. z ∷ ps) first ∙ ap (λ zs. q ∷ zs) a) b c
    by (is_inner ms a b) = is_inner ms (ap (λ z. z ∷ ps) first ∙ ap (λ zs. q ∷ zs) a) b

-- a stack without its last
pub record Unsnoc (ps : List Place) : Type 0 where
  pub front : List Place
  pub last : Place
  pub are : ps ≡ front ++ last ∷ []

pub unsnoc : (x : Place) (xs : List Place) → Unsnoc (x ∷ xs)
unsnoc x [] = record { front = []; last = x; are = refl }
unsnoc x (y ∷ ys) = let more = unsnoc y ys in record { front = x ∷ more.front; last = more.last; are = ap (λ zs. x ∷ zs) more.are }

pub without_last : (ps : List Place) (front : List Place) (last : Place) → ps ≡ front ++ last ∷ [] → take (length ps - 1) ps ≡ front
without_last ps front last e =
    let count = ap (λ zs. length zs) e ∙ length-append front (last ∷ []) in
    ap (λ n. take n ps) (omega (arith, count)) ∙ ap (λ zs. take (length front) zs) e ∙ take-append-le (length front) front (last ∷ []) (omega arith) ∙ take-length front

-- ---- the depths of blocks
pub open_blocks-append : (blocks : List ℕ) (xs ys : List Token) → open_blocks blocks (xs ++ ys) ≡ open_blocks (open_blocks blocks xs) ys
open_blocks-append blocks [] ys = refl
open_blocks-append blocks (x ∷ xs) ys = open_blocks-append (blocks_with blocks (depth_of x) x.kind) xs ys

blocks_count : (blocks : List ℕ) (depth : ℕ) (k : TokenKind) → length (blocks_with blocks depth k) ≡ blocks_behind (length blocks) k
blocks_count blocks depth kind.Indent = length-append blocks (depth ∷ [])
blocks_count blocks depth kind.Dedent = let few = length-take (length blocks - 1) blocks in omega (arith, few)
blocks_count blocks depth kind.Newline = refl
blocks_count blocks depth kind.Name = refl
blocks_count blocks depth (kind.Keyword w) = refl
blocks_count blocks depth (kind.Number x) = refl
blocks_count blocks depth kind.Text = refl
blocks_count blocks depth (kind.Sign s) = refl

pub open_count : (blocks : List ℕ) (ts : List Token) → length (open_blocks blocks ts) ≡ blocks_left (length blocks) ts
open_count blocks [] = refl
open_count blocks (t ∷ ts) = open_count (blocks_with blocks (depth_of t) t.kind) ts ∙ ap (λ n. blocks_left n ts) (blocks_count blocks (depth_of t) t.kind)

-- ---- both stacks
pub record Stacks (ts : List Token) (blocks : List ℕ) (brackets : List Place) : Type 0 where
  pub blocks_are : blocks ≡ open_blocks [] ts
  pub are_open : AreOpen ts brackets
  pub count : length brackets ≡ brackets_left 0 ts

pub no_stacks : Stacks [] [] []
no_stacks = record { blocks_are = refl; are_open = λ qs p rs e. absurd (some_there qs p rs e); count = refl }

push_blocks : (ts : List Token) (blocks : List ℕ) (t : Token) → blocks ≡ open_blocks [] ts → blocks_with blocks (depth_of t) t.kind ≡ open_blocks [] (ts ++ t ∷ [])
push_blocks ts blocks t e = ap (λ bs. blocks_with bs (depth_of t) t.kind) e ∙ sym (open_blocks-append [] ts (t ∷ []))

push_count : (ts : List Token) (brackets now : List Place) (t : Token) → length brackets ≡ brackets_left 0 ts → length now ≡ brackets_behind (length brackets) t.kind
    → length now ≡ brackets_left 0 (ts ++ t ∷ [])
push_count ts brackets now t e f = f ∙ ap (λ n. brackets_behind n t.kind) e ∙ sym (brackets_left-push 0 ts t)

-- a token that is no bracket
pub push_other : (ts : List Token) (blocks now : List ℕ) (brackets : List Place) (t : Token) → now ≡ blocks_with blocks (depth_of t) t.kind
    → ((n : ℕ) → brackets_behind n t.kind ≡ n) → Stacks ts blocks brackets → Stacks (ts ++ t ∷ []) now brackets
push_other ts blocks now brackets t with_it other h = record {
  blocks_are = with_it ∙ push_blocks ts blocks t h.blocks_are;
  are_open = λ qs p rs e. open_push ts t p (length rs) (length rs) (h.are_open qs p rs e) (other (suc (length rs)));
  count = push_count ts brackets brackets t h.count (sym (other (length brackets)));
}

-- one that opens
opens_more : (k : TokenKind) → IsOpener k → (n : ℕ) → brackets_behind n k ≡ n + 1
opens_more (kind.Sign s) h n = rw h refl
opens_more kind.Name h n = absurd h
opens_more (kind.Keyword w) h n = absurd h
opens_more (kind.Number x) h n = absurd h
opens_more kind.Text h n = absurd h
opens_more kind.Newline h n = absurd h
opens_more kind.Indent h n = absurd h
opens_more kind.Dedent h n = absurd h

pub push_open : (ts : List Token) (blocks : List ℕ) (brackets : List Place) (t : Token) → blocks ≡ blocks_with blocks (depth_of t) t.kind → IsOpener t.kind
    → Stacks ts blocks brackets → Stacks (ts ++ t ∷ []) blocks (brackets ++ t.place ∷ [])
push_open ts blocks brackets t same opener h = record {
  blocks_are = same ∙ push_blocks ts blocks t h.blocks_are;
  are_open = λ qs p rs e. by qs p rs (last_of brackets qs t.place p rs e);
  count = push_count ts brackets (brackets ++ t.place ∷ []) t h.count (length-append brackets (t.place ∷ []) ∙ sym (opens_more t.kind opener (length brackets)));
}
  where
    by : (qs : List Place) (p : Place) (rs : List Place) → LastOf brackets qs t.place p rs → IsOpenAt (ts ++ t ∷ []) p (length rs)
    by qs p rs (is_last a b c) = let none = ap (λ zs. length zs) c in
        record { before = ts; opener = t; behind = []; among = refl; opens_one = opener; place = sym b; stays = tt; left = ap (λ n. suc n) (sym none) }
    by qs p rs (is_inner ms a b) =
        let count = ap (λ zs. length zs) b ∙ length-append ms (t.place ∷ []) in
        let more = opens_more t.kind opener (suc (length ms)) in
        open_push ts t p (length ms) (length rs) (h.are_open qs p ms a) (omega (arith, count, more))

-- one that closes
abbrev pub IsCloser : TokenKind → Type 0
IsCloser (kind.Sign s) = (opens s ≡ false) × (closes s ≡ true)
IsCloser _ = ⊥

closes_one : (k : TokenKind) → IsCloser k → (n : ℕ) → brackets_behind n k ≡ n - 1
closes_one (kind.Sign s) h n = let a = h.0 in let b = h.1 in rw (a, b) refl
closes_one kind.Name h n = absurd h
closes_one (kind.Keyword w) h n = absurd h
closes_one (kind.Number x) h n = absurd h
closes_one kind.Text h n = absurd h
closes_one kind.Newline h n = absurd h
closes_one kind.Indent h n = absurd h
closes_one kind.Dedent h n = absurd h

pub push_close : (ts : List Token) (blocks : List ℕ) (brackets : List Place) (t : Token) → blocks ≡ blocks_with blocks (depth_of t) t.kind → IsCloser t.kind
    → Stacks ts blocks brackets → Stacks (ts ++ t ∷ []) blocks (take (length brackets - 1) brackets)
push_close ts blocks brackets t same closer h = record {
  blocks_are = same ∙ push_blocks ts blocks t h.blocks_are;
  are_open = λ qs p rs e. by brackets refl qs p rs e;
  count = push_count ts brackets (take (length brackets - 1) brackets) t h.count
      (let few = length-take (length brackets - 1) brackets in let less = closes_one t.kind closer (length brackets) in omega (arith, few, less));
}
  where
    by : (ps : List Place) → ps ≡ brackets → (qs : List Place) (p : Place) (rs : List Place) → take (length brackets - 1) brackets ≡ qs ++ p ∷ rs → IsOpenAt (ts ++ t ∷ []) p (length rs)
    by [] is qs p rs e = absurd (some_there qs p rs (ap (λ zs. take (length zs - 1) zs) is ∙ e))
    by (x ∷ xs) is qs p rs e =
        let u = unsnoc x xs in
        let all : brackets ≡ u.front ++ u.last ∷ [] = sym is ∙ u.are in
        let front : u.front ≡ qs ++ p ∷ rs = sym (without_last brackets u.front u.last all) ∙ e in
        let stack : brackets ≡ qs ++ p ∷ (rs ++ u.last ∷ []) = all ∙ ap (λ zs. zs ++ u.last ∷ []) front ∙ append_assoc qs (p ∷ rs) (u.last ∷ []) in
        let count = length-append rs (u.last ∷ []) in
        let less = closes_one t.kind closer (suc (length (rs ++ u.last ∷ []))) in
        open_push ts t p (length (rs ++ u.last ∷ [])) (length rs) (h.are_open qs p (rs ++ u.last ∷ []) stack) (omega (arith, count, less))

-- ends of blocks
pub push_dedents : (m : ℕ) (ts : List Token) (blocks : List ℕ) (brackets : List Place) (s : State) (p : Place) → Stacks ts blocks brackets
    → Stacks (ts ++ replicate m (dedent_at s p)) (take (length blocks - m) blocks) brackets
push_dedents zero ts blocks brackets s p h =
    subst (λ us. Stacks us (take (length blocks - 0) blocks) brackets) (sym (append-nil ts)) (subst (λ bs. Stacks ts bs brackets) (sym (ap (λ n. take n blocks) (omega arith) ∙ take-length blocks)) h)
push_dedents (suc m) ts blocks brackets s p h =
    let fewer = take (length blocks - 1) blocks in
    let count = length-take (length blocks - 1) blocks in
    let one : Stacks (ts ++ dedent_at s p ∷ []) fewer brackets = push_other ts blocks fewer brackets (dedent_at s p) refl (λ n. refl) h in
    let more = push_dedents m (ts ++ dedent_at s p ∷ []) fewer brackets s p one in
    let same : take (length fewer - m) fewer ≡ take (length blocks - suc m) blocks =
    ap (λ n. take n fewer) (omega (arith, count)) ∙ take-take (length blocks - suc m) (length blocks - 1) blocks (omega arith) in
    subst (λ us. Stacks us (take (length blocks - suc m) blocks) brackets) (append_assoc ts (dedent_at s p ∷ []) (replicate m (dedent_at s p)))
    (subst (λ bs. Stacks ((ts ++ dedent_at s p ∷ []) ++ replicate m (dedent_at s p)) bs brackets) same more)

kept_left : (blocks : List ℕ) (spaces : ℕ) → take (length blocks - (length blocks - length (kept blocks spaces))) blocks ≡ kept blocks spaces
kept_left blocks spaces =
    let n = prefix_len (λ i. nat_le i spaces) blocks in
    let count : length (kept blocks spaces) ≡ n = length-prefix_len (λ i. nat_le i spaces) blocks in
    let most = prefix_len-le-length (λ i. nat_le i spaces) blocks in
    ap (λ m. take m blocks) (omega (arith, count, most))

-- ---- a token that is read
abbrev pub StacksOf : State → Type 0
StacksOf s = Stacks s.tokens s.indents s.brackets

pub stacks_turned : (s u : State) (spaces : ℕ) → s.at.place.column ≡ 1 + spaces → Turned s u spaces → StacksOf s → StacksOf u
stacks_turned s u spaces column (deeper d same) h =
    let token = token_of s kind.Indent [] in
    let depth : depth_of token ≡ spaces = omega (arith, column) in
    subst StacksOf (sym same) (push_other s.tokens s.indents (s.indents ++ spaces ∷ []) s.brackets token (ap (λ n. s.indents ++ n ∷ []) (sym depth)) (λ n. refl) h)
stacks_turned s u spaces column (back st same) h =
    let m = length s.indents - length (kept s.indents spaces) in
    subst StacksOf (sym same) (subst (λ bs. Stacks (s.tokens ++ replicate m (dedent_at s s.at.place)) bs s.brackets) (kept_left s.indents spaces)
    (push_dedents m s.tokens s.indents s.brackets s s.at.place h))

-- what a token makes of the brackets
pub data Nesting (u v : State) (k : TokenKind) : Type 0 where
  opened : IsOpener k → v.brackets ≡ u.brackets ++ u.at.place ∷ [] → Nesting u v k
  closed : IsCloser k → v.brackets ≡ take (length u.brackets - 1) u.brackets → Nesting u v k
  other : ((n : ℕ) → brackets_behind n k ≡ n) → v.brackets ≡ u.brackets → Nesting u v k

nesting : (u v : State) (k : TokenKind) → nested u k ≡ (v, Ok tt) → Nesting u v k
nesting u v (kind.Sign symbol) e = by (opens symbol) (is_full u) (closes symbol) refl refl e
  where
    by : (o f c : Bool) → opens symbol ≡ o → closes symbol ≡ c →
        cond {A = Answer (Unit {0})} o (cond {A = Answer (Unit {0})} f (u, Err (fault.TooDeep u.at.place)) (record u { brackets = u.brackets ++ u.at.place ∷ [] }, Ok tt))
        (cond {A = Answer (Unit {0})} c (record u { brackets = take (length u.brackets - 1) u.brackets }, Ok tt) (u, Ok tt)) ≡ (v, Ok tt) →
        Nesting u v (kind.Sign symbol)
    by true true c eo ec e = absurd (never_ok u v (fault.TooDeep u.at.place) tt e)
    by true false c eo ec e = opened eo (ap (λ (w : State). w.brackets) (first_is (record u { brackets = u.brackets ++ u.at.place ∷ [] }) v e))
    by false f true eo ec e = closed (eo, ec) (ap (λ (w : State). w.brackets) (first_is (record u { brackets = take (length u.brackets - 1) u.brackets }) v e))
    by false f false eo ec e = other (λ n. rw (eo, ec) refl) (ap (λ (w : State). w.brackets) (first_is u v e))
nesting u v kind.Name e = other (λ n. refl) (ap (λ (w : State). w.brackets) (first_is u v e))
nesting u v (kind.Keyword w) e = other (λ n. refl) (ap (λ (w : State). w.brackets) (first_is u v e))
nesting u v (kind.Number x) e = other (λ n. refl) (ap (λ (w : State). w.brackets) (first_is u v e))
nesting u v kind.Text e = other (λ n. refl) (ap (λ (w : State). w.brackets) (first_is u v e))
nesting u v kind.Newline e = other (λ n. refl) (ap (λ (w : State). w.brackets) (first_is u v e))
nesting u v kind.Indent e = other (λ n. refl) (ap (λ (w : State). w.brackets) (first_is u v e))
nesting u v kind.Dedent e = other (λ n. refl) (ap (λ (w : State). w.brackets) (first_is u v e))

same_blocks : (blocks : List ℕ) (depth : ℕ) (k : TokenKind) → IsOfWords k → blocks ≡ blocks_with blocks depth k
same_blocks blocks depth kind.Name h = refl
same_blocks blocks depth (kind.Keyword w) h = refl
same_blocks blocks depth (kind.Number x) h = refl
same_blocks blocks depth kind.Text h = refl
same_blocks blocks depth (kind.Sign s) h = refl
same_blocks blocks depth kind.Newline h = absurd h
same_blocks blocks depth kind.Indent h = absurd h
same_blocks blocks depth kind.Dedent h = absurd h

-- the same position has the same place
pub place_same : (u v : State) → v.at ≡ u.at → v.at.place ≡ u.at.place
place_same u v e = rw e refl

pub stacks_word : (u v : State) (k : TokenKind) (cs : List ℕ) → IsOfWords k → nested u k ≡ (v, Ok tt) → StacksOf u → StacksOf (put v k cs)
stacks_word u v k cs word e h =
    let nest = nests u v k e in
    let token = token_of v k cs in
    let blocks = same_blocks u.indents (depth_of token) k word in
    let pushed : Stacks (u.tokens ++ token ∷ []) u.indents v.brackets = by (nesting u v k e) in
    subst (λ us. Stacks us v.indents v.brackets) (ap (λ us. us ++ token ∷ []) (sym nest.tokens)) (subst (λ bs. Stacks (u.tokens ++ token ∷ []) bs v.brackets) (sym nest.indents) pushed)
  where
    by : Nesting u v k → Stacks (u.tokens ++ token_of v k cs ∷ []) u.indents v.brackets
    by (opened opener is) =
        let at : (token_of v k cs).place ≡ u.at.place = place_same u v (nests u v k e).at in
        subst (λ ps. Stacks (u.tokens ++ token_of v k cs ∷ []) u.indents ps) (ap (λ p. u.brackets ++ p ∷ []) at ∙ sym is)
        (push_open u.tokens u.indents u.brackets (token_of v k cs) (same_blocks u.indents (depth_of (token_of v k cs)) k word) opener h)
    by (closed closer is) = subst (λ ps. Stacks (u.tokens ++ token_of v k cs ∷ []) u.indents ps) (sym is)
        (push_close u.tokens u.indents u.brackets (token_of v k cs) (same_blocks u.indents (depth_of (token_of v k cs)) k word) closer h)
    by (other none is) = subst (λ ps. Stacks (u.tokens ++ token_of v k cs ∷ []) u.indents ps) (sym is)
        (push_other u.tokens u.indents u.indents u.brackets (token_of v k cs) (same_blocks u.indents (depth_of (token_of v k cs)) k word) none h)

pub stacks_end : (s : State) (end : List ℕ) → StacksOf s → Stacks (s.tokens ++ token_of s kind.Newline end ∷ []) s.indents s.brackets
stacks_end s end h = push_other s.tokens s.indents s.indents s.brackets (token_of s kind.Newline end) refl (λ n. refl) h
