-- Answers of the descent over lines.
use Rattle.std.proofs.Common.{◌≡◌, ◌<◌, ◌≤◌, ◌⊎◌, inl, inr, ℕ, true, false, List, [], ◌∷◌, ◌++◌, map, length, Result, Ok, Err, arith, refl, sym, subst, ap, ap₂, ◌∙◌}
use Rattle.std.specs.Prelude.{IfOk}
use Rattle.std.proofs.lemmas.List.{map_push}
use Rattle.dcx_shape.specs.declared.place.Place.{Place}
use Rattle.dcx_tokens.specs.declared.token.Token.{Token}
use Rattle.dcx_read.specs.declared.role.Role.TheVariants as roles
use Rattle.dcx_syntax.specs.declared.bracket.Bracket.{Bracket}
use Rattle.dcx_read.specs.declared.front.Stop.{Stop}
use Rattle.dcx_syntax.specs.declared.tree.Named.{Named}
use Rattle.dcx_syntax.specs.Terminal.{Terminal}
use Rattle.dcx_read.specs.Terminals.{terminals}
use Rattle.dcx_syntax.specs.Expressions.{Expr}
use Rattle.dcx_syntax.specs.Statements.{Balanced, nothing, within, Line, Lines, no_lines, lines, repeats, trimmed, trimmed_all}
use Rattle.dcx_syntax.specs.View.{chained, then_line, lines_of}
use Rattle.dcx_read.specs.Moves.{Symbol, expr_s, newline_s, balanced_s, closes_s, line_s, lines_s, dedent_s, lines_join, Tree}
use Rattle.dcx_read.specs.Steps.{Gives, Progress, Loop, Stops, Front, FrontOf, Refuses, Reads}
use Rattle.dcx_read.specs.Lines.{FrontPlain, LacksPlain, BalancedTo, starts_line, ReadsLine, ReadsLines, ReadsBody, ReadsEnded, ReadsHead}
use Rattle.dcx_read.specs.Steps.{Lacks, Closes, IsBeside, Makes}
use Rattle.dcx_read.proofs.Progress.{Join, front, begun, goes, stops}
use Rattle.dcx_read.proofs.Loops.{pushed, loop-stops}
use Rattle.dcx_read.proofs.Descent.{finish, loop-turn, ReadsTo}
use Rattle.dcx_read.proofs.Rules.{dedent-gives, dedent-stops, newline-gives, newline-stops}
use Rattle.dcx_read.proofs.LineRules.{balanced-plain, balanced-opens, balanced-ends, closes-gives, closes-stops, lines-starts, lines-none}

-- an expression and the line's end are the last parts
pub ended-gives : (s : Symbol) (source : List ℕ) (us : List Terminal) (ts rest : List Token) (make : Expr → Tree s) (x : Expr)
    → Progress s us (terminals source ts) (expr_s ∷ newline_s ∷ []) (λ ss f. front s ss (make f.0) f.1.1)
    → (mid : List Token) × (Gives expr_s (terminals source ts) x (terminals source mid) × Gives newline_s (terminals source mid) tt (terminals source rest))
    → Gives s us (make x) (terminals source rest)
ended-gives s source us ts rest make x h g = finish s newline_s us (terminals source g.0) (terminals source rest) (λ u. make x) tt (make x)
    (goes s expr_s us (terminals source ts) (terminals source g.0) (newline_s ∷ []) (λ ss f. front s ss (make f.0) f.1.1) x h g.1.0) g.1.1 refl

pub ended-stops : (s : Symbol) (source : List ℕ) (us : List Terminal) (ts : List Token) (make : Expr → Tree s) (e : Stop)
    → Progress s us (terminals source ts) (expr_s ∷ newline_s ∷ []) (λ ss f. front s ss (make f.0) f.1.1)
    → Stops expr_s source (terminals source ts) e ⊎ ((x : Expr)
    × ((mid : List Token) × (Gives expr_s (terminals source ts) x (terminals source mid) × Stops newline_s source (terminals source mid) e))) → Stops s source us e
ended-stops s source us ts make e h (inl k) = stops s expr_s us (terminals source ts) (newline_s ∷ []) (λ ss f. front s ss (make f.0) f.1.1) source e h k
ended-stops s source us ts make e h (inr k) = stops s newline_s us (terminals source k.1.0) [] (λ ss f. front s ss (make k.0) f.1) source e
    (goes s expr_s us (terminals source ts) (terminals source k.1.0) (newline_s ∷ []) (λ ss f. front s ss (make f.0) f.1.1) k.0 h k.1.1.0) k.1.1.1

pub ended-reads : {X U : Type 0} (part : U → Expr) (view : X → U × List Token) (source : List ℕ) (ts : List Token) (inner closing : Result X Stop)
    → Reads expr_s source (λ x. (part (view x).0, (view x).1)) inner (terminals source ts) → Closes roles.Newline view closing inner
    → ReadsEnded source (λ x. (part (view x).0, (view x).1)) closing ts
ended-reads part view source ts (Err a) (Err d) r c = rw c (inl r)
ended-reads part view source ts (Err a) (Ok d) r c = absurd c
ended-reads part view source ts (Ok a) (Err d) r c = inr (part (view a).0, ((view a).1, (r, newline-stops source (view a).1 d c)))
ended-reads part view source ts (Ok a) (Ok d) r c =
    ((view a).1, (subst (λ u. Gives expr_s (terminals source ts) (part u) (terminals source (view a).1)) (sym c.0) r, newline-gives source (view a).1 (view d).1 c.1))

-- the head of a `for` line
pub head-reads : {X : Type 0} (place : Place) (view : X → Named × (Expr × List Token)) (source : List ℕ) (us : List Terminal) (read : Result X Stop)
    → ReadsTo line_s source us (line_s ∷ lines_s ∷ dedent_s ∷ []) (λ x.
    ((λ ss f. front line_s ss (repeats place (view x).0 (view x).1.0 f.0 f.1.0) f.1.1.1), (view x).1.1)) read → ReadsHead source place view read us
head-reads place view source us (Ok x) h = h
head-reads place view source us (Err e) h = h

-- tokens whose brackets match, one piece after the other
pub balanced-none : (source : List ℕ) (ts : List Token) → BalancedTo source ts ts
balanced-none source ts = record { put = λ x. x; reads = begun balanced_s (terminals source ts) }

pub balanced-join : (source : List ℕ) (ts mid rest : List Token) → BalancedTo source ts mid → BalancedTo source mid rest → BalancedTo source ts rest
balanced-join source ts mid rest a b = record {
  put = λ x. a.put (b.put x);
  reads = loop-turn balanced_s balanced_s (terminals source ts) (terminals source mid)
      (terminals source rest) a.put (λ x. a.put (b.put x)) b.put a.reads b.reads (λ y. refl);
}

pub balanced-beside : (source : List ℕ) (ts mid rest : List Token) → BalancedTo source ts mid → FrontPlain mid rest → BalancedTo source ts rest
balanced-beside source ts mid rest a f = let p = balanced-plain source mid rest f in balanced-join source ts mid rest a (record { put = _; reads = p.1 })

module _ (source : List ℕ) (ts mid inside : List Token) (b : Bracket) (p : Place) (h : BalancedTo source ts mid) (f : Front (roles.Opens b) p mid inside) where
  pub inner-stops : (e : Stop) → Stops balanced_s source (terminals source inside) e → Stops balanced_s source (terminals source ts) e
  inner-stops e k = loop-stops balanced_s balanced_s (terminals source ts) (terminals source mid) h.put source e h.reads
      (stops balanced_s balanced_s (terminals source mid) (terminals source inside) (closes_s b ∷ balanced_s ∷ [])
      (λ ss g. front balanced_s ss (within b p g.0 g.1.1.0) g.1.1.1) source e (balanced-opens source mid inside b p f) k)

  after-inner : (closing : List Token) (x : Balanced) → Gives balanced_s (terminals source inside) x (terminals source closing)
      → Progress balanced_s (terminals source mid) (terminals source closing) (closes_s b ∷ balanced_s ∷ []) (λ ss g. front balanced_s ss (within b p x g.1.0) g.1.1)
  after-inner closing x g = goes balanced_s balanced_s (terminals source mid) (terminals source inside) (terminals source closing) (closes_s b ∷ balanced_s ∷ [])
      (λ ss g. front balanced_s ss (within b p g.0 g.1.1.0) g.1.1.1) x (balanced-opens source mid inside b p f) g

  pub unclosed-stops : (closing : List Token) (e : Stop) → (x : Balanced) × Gives balanced_s (terminals source inside) x (terminals source closing)
      → Refuses (roles.Closes b) closing e → Stops balanced_s source (terminals source ts) e
  unclosed-stops closing e g k = loop-stops balanced_s balanced_s (terminals source ts) (terminals source mid) h.put source e h.reads
      (stops balanced_s (closes_s b) (terminals source mid) (terminals source closing) (balanced_s ∷ []) (λ ss y. front balanced_s ss (within b p g.0 y.1.0) y.1.1) source e
      (after-inner closing g.0 g.1) (closes-stops b source closing e k))

  pub balanced-within : (closing behind : List Token) → (x : Balanced) × Gives balanced_s (terminals source inside) x (terminals source closing)
      → FrontOf (roles.Closes b) closing behind → BalancedTo source ts behind
  balanced-within closing behind g k =
      balanced-join source ts mid behind h
      (record {
        put = λ y. within b p g.0 y;
        reads = goes balanced_s (closes_s b) (terminals source mid) (terminals source closing) (terminals source behind)
            (balanced_s ∷ []) (λ ss y. front balanced_s ss (within b p g.0 y.1.0) y.1.1) tt (after-inner closing g.0 g.1) (closes-gives b source closing behind k);
      })

pub balanced-done : (source : List ℕ) (ts rest : List Token) → BalancedTo source ts rest → LacksPlain rest → ((b : Bracket) → Lacks (roles.Opens b) rest)
    → (x : Balanced) × Gives balanced_s (terminals source ts) x (terminals source rest)
balanced-done source ts rest h a n = (
  h.put nothing,
  finish balanced_s balanced_s (terminals source ts) (terminals source rest) (terminals source rest) h.put nothing
      (h.put nothing) h.reads (balanced-ends source rest a n) refl,
)

-- lines, one after the other, of which some is kept
pub record LinesTo (us rest : List Terminal) (kept : Lines → Lines) : Type 0 where
  pub put : Lines → Lines
  pub reads : Loop lines_s lines_s us rest put
  pub same : (y : Lines) → trimmed_all (put y) ≡ kept (trimmed_all y)

pub lines-begun : {C : Type 0} (view : C → Line) (none : List C) (us : List Terminal) → none ≡ [] → LinesTo us us (chained (map then_line (map view none)))
lines-begun view none us e = record { put = λ y. y; reads = begun lines_s us; same = λ y. rw e refl }

lines-pushed : {C : Type 0} (view : C → Line) (new old : List C) (y : C) → new ≡ old ++ y ∷ [] → (a : Lines)
    → chained (map then_line (map view new)) a ≡ chained (map then_line (map view old)) (lines (view y) a)
lines-pushed view new old y e a = rw e (rw map_push (pushed then_line (map view old ++ view y ∷ []) (map view old) (view y) (then_line (view y)) refl refl a))

module _ {C : Type 0} (source : List ℕ) (us : List Terminal) (ts : List Token) (view : C → Line) (old : List C) (l : LinesTo us (terminals source ts) (chained (map then_line (map view old)))) where
  pub lines-step : (behind : List Token) (y : C) (new : List C) → starts_line ts ≡ true
      → (t : Line) × (Gives line_s (terminals source ts) t (terminals source behind) × (view y ≡ trimmed t)) → new ≡ old ++ y ∷ []
      → LinesTo us (terminals source behind) (chained (map then_line (map view new)))
  lines-step behind y new b g n = record {
    put = λ z. l.put (lines g.0 z);
    reads = loop-turn lines_s lines_s us (terminals source ts) (terminals source behind) l.put (λ z. l.put (lines g.0 z)) (lines g.0) l.reads
        (goes lines_s line_s (terminals source ts) (terminals source ts) (terminals source behind) (lines_s ∷ []) lines_join g.0 (lines-starts source ts b) g.1.0) (λ z. refl);
    same = λ z. l.same (lines g.0 z) ∙ ap (λ x. chained (map then_line (map view old)) (lines x (trimmed_all z))) (sym g.1.1) ∙ sym (lines-pushed view new old y n (trimmed_all z));
  }

  pub lines-stop : starts_line ts ≡ true → (e : Stop) → Stops line_s source (terminals source ts) e → Stops lines_s source us e
  lines-stop b e k = loop-stops lines_s lines_s us (terminals source ts) l.put source e l.reads
      (stops lines_s line_s (terminals source ts) (terminals source ts) (lines_s ∷ []) lines_join source e (lines-starts source ts b) k)

  pub lines-done : starts_line ts ≡ false → (t : Lines) × (Gives lines_s us t (terminals source ts) × (lines_of (map view old) ≡ trimmed_all t))
  lines-done b = (l.put no_lines, (finish lines_s lines_s us (terminals source ts) (terminals source ts) l.put no_lines (l.put no_lines) l.reads (lines-none source ts b) refl, sym (l.same no_lines)))

-- how a block completes a line
abbrev block_join : (Line → Lines → Line) → Join line_s (line_s ∷ lines_s ∷ dedent_s ∷ [])
block_join make ss f = front line_s ss (make f.0 f.1.0) f.1.1.1

-- the lines of a block behind the first one, and what ends them
module _ {F U X Y : Type 0} (view : X → (F × U) × List Token) (seen : Y → U × List Token) (source : List ℕ) (us : List Terminal) (behind : List Token) (f : F)
    (first : F → Line) (rest : U → Lines) where
  pub body-stops : (t : Line) → Gives line_s us t (terminals source behind) → (from : List Terminal) (make : Line → Lines → Line)
      → Progress line_s from us (line_s ∷ lines_s ∷ dedent_s ∷ []) (block_join make) → (e : Stop)
      → Stops lines_s source (terminals source behind) e → Stops line_s source from e
  body-stops t g from make h e r = stops line_s lines_s from (terminals source behind) (dedent_s ∷ []) _ source e
      (goes line_s line_s from us (terminals source behind) (lines_s ∷ dedent_s ∷ []) (block_join make) t h g) r

  pub body-unended : (t : Line) → Gives line_s us t (terminals source behind) → (ts : Lines) (end : List Token)
      → Gives lines_s (terminals source behind) ts (terminals source end) → (from : List Terminal) (make : Line → Lines → Line)
      → Progress line_s from us (line_s ∷ lines_s ∷ dedent_s ∷ []) (block_join make) → (e : Stop) → Refuses roles.Dedent end e → Stops line_s source from e
  body-unended t g ts end k from make h e r =
      stops line_s dedent_s from (terminals source end) [] _ source e (goes line_s lines_s from (terminals source behind) (terminals source end) (dedent_s ∷ []) _ ts
      (goes line_s line_s from us (terminals source behind) (lines_s ∷ dedent_s ∷ []) (block_join make) t h g) k) (dedent-stops source end e r)

  pub body-ends : (t : Line) → Gives line_s us t (terminals source behind) → first f ≡ trimmed t → (inner closing : Result Y Stop) (body : Result X Stop)
      → ReadsLines source (λ y. (rest (seen y).0, (seen y).1)) inner (terminals source behind) → Closes roles.Dedent seen closing inner → IsBeside view seen f body closing
      → ReadsBody source (λ x. ((first (view x).0.0, rest (view x).0.1), (view x).1)) body us
  body-ends t g e (Err a) (Err b) (Err d) r c i = rw (i, c) (λ from make h. body-stops t g from make h a r)
  body-ends t g e (Ok a) (Err b) (Err d) r c i = rw i (λ from make h. body-unended t g r.0 (seen a).1 r.1.0 from make h b c)
  body-ends t g e (Err a) (Ok b) d r c i = absurd c
  body-ends t g e a (Err b) (Ok d) r c i = absurd i
  body-ends t g e a (Ok b) (Err d) r c i = absurd i
  body-ends t g e (Ok a) (Ok b) (Ok d) r c i = (
    t,
    (
      r.0,
      (
        terminals source behind,
        (
          terminals source (seen a).1,
          (
            ap first i.0 ∙ e,
            (
              ap rest (i.1.0 ∙ c.0) ∙ r.1.1,
              (
                g,
                (
                  r.1.0,
                  subst (λ z. Gives dedent_s (terminals source (seen a).1) tt (terminals source z)) (sym i.1.1) (dedent-gives source (seen a).1 (seen b).1 c.1),
                ),
              ),
            ),
          ),
        ),
      ),
    ),
  )

  pub body-shorter : (n most : ℕ) → n < most → (inner closing : Result Y Stop) (body : Result X Stop) → IfOk inner (λ y. length (seen y).1 ≤ n)
      → Closes roles.Dedent seen closing inner → IsBeside view seen f body closing → IfOk body (λ x. length (view x).1 < most)
  body-shorter n most k inner closing (Err d) h c i = tt
  body-shorter n most k (Err a) (Ok b) (Ok d) h c i = absurd c
  body-shorter n most k a (Err b) (Ok d) h c i = absurd i
  body-shorter n most k (Ok a) (Ok b) (Ok d) h c i = let p = ap length i.1.1 in let q = ap length c.1.1.parts in omega (arith, p, q, h, k)

-- a block, and the whole line
module _ {F U X Y Z : Type 0} (view : X → (F × U) × List Token) (seen : Y → U × List Token) (kept : Z → Line × List Token) (place : Place) (name : F → Named) (from : F → Expr)
    (first : U → Line) (rest : U → Lines) (f : F) where
  abbrev pub made : X → Line × List Token
  made x = (repeats place (name (view x).0.0) (from (view x).0.0) (first (view x).0.1) (rest (view x).0.1), (view x).1)

  pub block-ends : (source : List ℕ) (us inside : List Terminal) → Progress line_s us inside (line_s ∷ lines_s ∷ dedent_s ∷ []) (block_join (repeats place (name f) (from f)))
      → (body : Result Y Stop) (parts : Result X Stop) (whole : Result Z Stop) → ReadsBody source (λ y. ((first (seen y).0, rest (seen y).0), (seen y).1)) body inside
      → IsBeside view seen f parts body → Makes kept made whole parts → ReadsLine source kept whole us
  block-ends source us inside h (Err a) (Err b) (Err d) r i e = rw (e, i) (r us (repeats place (name f) (from f)) h)
  block-ends source us inside h (Err a) (Ok b) d r i e = absurd i
  block-ends source us inside h (Ok a) (Err b) d r i e = absurd i
  block-ends source us inside h a (Err b) (Ok d) r i e = absurd e
  block-ends source us inside h (Ok a) (Ok b) (Err d) r i e = rw e tt
  block-ends source us inside h (Ok a) (Ok b) (Ok d) (t, (ts, (mid, (end, (e1, (e2, (g1, (g2, g3)))))))) i e = (
    repeats place (name f) (from f) t ts,
    (
      subst (λ z. Gives line_s us (repeats place (name f) (from f) t ts) (terminals source z)) (sym (e.1 ∙ i.1.1))
          (finish line_s dedent_s us end (terminals source (seen a).1) (λ z. repeats place (name f) (from f) t ts) tt _ (goes line_s lines_s us mid end (dedent_s ∷ []) _ ts
          (goes line_s line_s us inside mid (lines_s ∷ dedent_s ∷ []) (block_join (repeats place (name f) (from f))) t h g1) g2) g3 refl),
      e.0 ∙ ap₂ (λ a b. repeats place (name a) (from a) (first b) (rest b)) i.0 i.1.0 ∙ ap₂ (repeats place (name f) (from f)) e1 e2,
    ),
  )

  pub block-shorter : (n most : ℕ) → n < most → (body : Result Y Stop) (parts : Result X Stop) (whole : Result Z Stop) → IfOk body (λ y. length (seen y).1 < n)
      → IsBeside view seen f parts body → Makes kept made whole parts → IfOk whole (λ x. length (kept x).1 < most)
  block-shorter n most k body parts (Err d) h i e = tt
  block-shorter n most k (Err a) (Ok b) (Ok d) h i e = absurd i
  block-shorter n most k a (Err b) (Ok d) h i e = absurd e
  block-shorter n most k (Ok a) (Ok b) (Ok d) h i e = let p = ap length e.1 in let q = ap length i.1.1 in omega (arith, p, q, h, k)

pub nearer : {Y : Type 0} (size : Y → ℕ) (n most : ℕ) → n < most → (r : Result Y Stop) → IfOk r (λ y. size y < n) → IfOk r (λ y. size y < most)
nearer size n most k (Ok y) h = omega (arith, h, k)
nearer size n most k (Err e) h = tt

-- a line that is made of what was read
pub line-made : {Y Z : Type 0} (seen : Y → Line × List Token) (kept : Z → Line × List Token) (source : List ℕ) (us : List Terminal) → ((y : Y) → (seen y).0 ≡ trimmed (seen y).0)
    → (given : Result Y Stop) (whole : Result Z Stop) → Reads line_s source seen given us → Makes kept seen whole given → ReadsLine source kept whole us
line-made seen kept source us k (Err a) (Err d) r m = rw m r
line-made seen kept source us k (Ok a) (Err d) r m = rw m tt
line-made seen kept source us k (Err a) (Ok d) r m = absurd m
line-made seen kept source us k (Ok a) (Ok d) r m = ((seen a).0, (subst (λ z. Gives line_s us (seen a).0 (terminals source z)) (sym m.1) r, m.0 ∙ k a))

-- a line whose last parts are an expression and the line's end
pub line-alone : {U Y Z : Type 0} (seen : Y → U × List Token) (kept : Z → Line × List Token) (part : U → Expr) (make : Expr → Line) (source : List ℕ) (us : List Terminal)
    (ts : List Token) → Progress line_s us (terminals source ts) (expr_s ∷ newline_s ∷ []) (λ ss g. front line_s ss (make g.0) g.1.1) → ((x : Expr) → make x ≡ trimmed (make x))
    → (end : Result Y Stop) (whole : Result Z Stop) → ReadsEnded source (λ y. (part (seen y).0, (seen y).1)) end ts
    → Makes kept (λ y. (make (part (seen y).0), (seen y).1)) whole end → ReadsLine source kept whole us
line-alone seen kept part make source us ts h k (Err a) (Err d) r m = rw m (ended-stops line_s source us ts make a h r)
line-alone seen kept part make source us ts h k (Ok a) (Err d) r m = rw m tt
line-alone seen kept part make source us ts h k (Err a) (Ok d) r m = absurd m
line-alone seen kept part make source us ts h k (Ok a) (Ok d) r m = (
  make (part (seen a).0),
  (
    subst (λ z. Gives line_s us (make (part (seen a).0)) (terminals source z)) (sym m.1) (ended-gives line_s source us ts (seen a).1 make (part (seen a).0) h r),
    m.0 ∙ k (part (seen a).0),
  ),
)

-- the same beside a name that stands before
module _ {F U X Y Z : Type 0} (view : X → (F × U) × List Token) (seen : Y → U × List Token) (kept : Z → Line × List Token) (part : U → Expr) (make : F → Expr → Line) (f g : F) (e : f ≡ g) where
  abbrev pub lined : X → Line × List Token
  lined x = (make (view x).0.0 (part (view x).0.1), (view x).1)

  pub line-ends : (source : List ℕ) (us : List Terminal) (ts : List Token)
      → Progress line_s us (terminals source ts) (expr_s ∷ newline_s ∷ []) (λ ss h. front line_s ss (make g h.0) h.1.1) → ((x : Expr) → make g x ≡ trimmed (make g x))
      → (end : Result Y Stop) (parts : Result X Stop) (whole : Result Z Stop) → ReadsEnded source (λ y. (part (seen y).0, (seen y).1)) end ts → IsBeside view seen f parts end
      → Makes kept lined whole parts → ReadsLine source kept whole us
  line-ends source us ts h k (Err a) (Err b) (Err d) r i m = rw (m, i) (ended-stops line_s source us ts (make g) a h r)
  line-ends source us ts h k (Err a) (Ok b) d r i m = absurd i
  line-ends source us ts h k (Ok a) (Err b) d r i m = absurd i
  line-ends source us ts h k a (Err b) (Ok d) r i m = absurd m
  line-ends source us ts h k (Ok a) (Ok b) (Err d) r i m = rw m tt
  line-ends source us ts h k (Ok a) (Ok b) (Ok d) r i m = (
    make g (part (seen a).0),
    (
      subst (λ z. Gives line_s us (make g (part (seen a).0)) (terminals source z)) (sym (m.1 ∙ i.1.1)) (ended-gives line_s source us ts (seen a).1 (make g) (part (seen a).0) h r),
      m.0 ∙ ap₂ (λ n u. make n (part u)) (i.0 ∙ e) i.1.0 ∙ k (part (seen a).0),
    ),
  )

  pub line-shorter : (n most : ℕ) → n < most → (end : Result Y Stop) (parts : Result X Stop) (whole : Result Z Stop) → IfOk end (λ y. length (seen y).1 < n)
      → IsBeside view seen f parts end → Makes kept lined whole parts → IfOk whole (λ x. length (kept x).1 < most)
  line-shorter n most k end parts (Err d) h i m = tt
  line-shorter n most k (Err a) (Ok b) (Ok d) h i m = absurd i
  line-shorter n most k a (Err b) (Ok d) h i m = absurd m
  line-shorter n most k (Ok a) (Ok b) (Ok d) h i m = let p = ap length m.1 in let q = ap length i.1.1 in omega (arith, p, q, h, k)
