-- Grammars that one token decides, part by part: moves that lead, and what is clear by a check of finitely many kinds.
use Rattle.std.proofs.Common.{◌≡◌, Bool, true, false, cond, List, [], ◌∷◌, ◌++◌, refl, sym, ap, ◌∙◌}
use Rattle.dcx_read.specs.Reading.{Forest, Move, shift, pass, Grammar, leading, otherwise}
use Rattle.dcx_read.proofs.Sound.{Spelling, spelling}
use Rattle.dcx_read.proofs.Complete.{Sets, front, is_shift, is_there, firsts, Clear, Right, Made, shifts}

abbrev pub not_both : Bool → Bool → Bool
not_both b c = cond b (cond c false true) true

abbrev pub implies : Bool → Bool → Bool
implies b c = cond b c true

pub apart : (b c : Bool) → not_both b c ≡ true → b ≡ true → c ≡ false
apart true true h k = sym h
apart true false h k = refl
apart false c h k = absurd cc

pub implied : (b c : Bool) → implies b c ≡ true → b ≡ true → c ≡ true
implied true c h k = h
implied false c h k = absurd cc

pub both-left : (b c : Bool) → cond b c false ≡ true → b ≡ true
both-left true c h = refl
both-left false c h = absurd cc

pub both-right : (b c : Bool) → cond b c false ≡ true → c ≡ true
both-right true c h = h
both-right false c h = absurd cc

module _ (G : Grammar) (S : Sets G.trees) where
  -- whether each symbol has an empty tree
  abbrev pub reach : List G.trees.Symbol → Bool
  reach [] = true
  reach (s ∷ ss) = cond (is_there (G.empty s)) (reach ss) false

  -- whether `more` is clear, and clear of what a tree of s is clear of
  abbrev pub check : G.trees.Symbol → List G.trees.Symbol → Bool
  check s [] = true
  check s (m ∷ more) = cond (S.all (λ k. not_both (S.on m k) (firsts G S more k))) (cond (cond (reach more) (S.all (λ k. implies (S.on m k) (S.on s k))) true) (check s more) false) false

  firsts-append : (more ss : List G.trees.Symbol) (k : S.Kind) → firsts G S (more ++ ss) k ≡ cond (firsts G S more k) true (cond (reach more) (firsts G S ss k) false)
  firsts-append [] ss k = refl
  firsts-append (m ∷ more) ss k =
      rw (firsts-append more ss k)
      (elim (S.begins m k) as (λ (b : Bool). cond b true (cond (is_there (G.empty m)) (cond (firsts G S more k) true (cond (reach more) (firsts G S ss k) false)) false)
      ≡ cond (cond b true (cond (is_there (G.empty m)) (firsts G S more k) false)) true (cond (cond (is_there (G.empty m)) (reach more) false) (firsts G S ss k) false)) [
        | true ↦ refl
        | false ↦ elim (is_there (G.empty m)) as (λ (b : Bool). cond b (cond (firsts G S more k) true (cond (reach more) (firsts G S ss k) false)) false
            ≡ cond (cond b (firsts G S more k) false) true (cond (cond b (reach more) false) (firsts G S ss k) false)) [ true ↦ refl | false ↦ refl ]
      ])

  none-after : (f r g : Bool) → f ≡ false → (r ≡ true → g ≡ false) → cond f true (cond r g false) ≡ false
  none-after true r g h k = absurd cc
  none-after false true g h k = k refl
  none-after false false g h k = refl

  reached : (r a : Bool) → cond r a true ≡ true → r ≡ true → a ≡ true
  reached true a h k = h
  reached false a h k = absurd cc

  pub cleared : (s : G.trees.Symbol) (more ss : List G.trees.Symbol) → check s more ≡ true → Clear G S (s ∷ ss) → Clear G S (more ++ ss)
  cleared s [] ss h c = c.1
  cleared s (m ∷ more) ss h c =
      let one = both-left (S.all (λ k. not_both (S.on m k) (firsts G S more k))) _ h in
      let others = both-right (S.all (λ k. not_both (S.on m k) (firsts G S more k))) _ h in
      let within = both-left (cond (reach more) (S.all (λ k. implies (S.on m k) (S.on s k))) true) _ others in
      let later = both-right (cond (reach more) (S.all (λ k. implies (S.on m k) (S.on s k))) true) _ others in (
        λ k o. firsts-append more ss k ∙ none-after (firsts G S more k) (reach more) (firsts G S ss k)
            (apart (S.on m k) (firsts G S more k) (S.every (λ k. not_both (S.on m k) (firsts G S more k)) one k) o)
            (λ r. c.0 k (implied (S.on m k) (S.on s k) (S.every (λ k. implies (S.on m k) (S.on s k)) (reached (reach more) _ within r) k) o)),
        cleared s more ss later c,
      )

-- a move that leads is right where what it leads is
pub leading-right : (G : Grammar) (spell : Spelling G.trees) (S : Sets G.trees) (s s' : G.trees.Symbol) (behind : List G.trees.Symbol) (join : (ss : List G.trees.Symbol)
    → Forest G.trees (s ∷ (behind ++ ss)) → Forest G.trees (s' ∷ ss))
    → S.all (λ k. implies (S.begins s k) (S.begins s' k)) ≡ true → check G S s' (s ∷ behind) ≡ true
    → ((ss : List G.trees.Symbol) (f : Forest G.trees (s ∷ (behind ++ ss))) → spelling G.trees spell (s' ∷ ss) (join ss f) ≡ spelling G.trees spell (s ∷ (behind ++ ss)) f)
    → (t : G.trees.Token) (m : Move G.trees s) → Right G spell S s t m → Right G spell S s' t (leading G.trees s s' (λ ss. behind ++ ss) join m)
leading-right G spell S s s' behind join first clear spelled t (shift push make) r = record {
  spells = λ ss f. spelled ss (make (behind ++ ss) f) ∙ r.spells (behind ++ ss) f;
  begun = implied (S.begins s (S.kind t)) (S.begins s' (S.kind t)) (S.every (λ k. implies (S.begins s k) (S.begins s' k)) first (S.kind t)) r.begun;
  keeps = λ ss c. r.keeps (behind ++ ss) (cleared G S s' (s ∷ behind) ss clear c);
}
leading-right G spell S s s' behind join first clear spelled t pass r = tt

pub otherwise-right : (G : Grammar) (spell : Spelling G.trees) (S : Sets G.trees) (s : G.trees.Symbol) (t : G.trees.Token) (m n : Move G.trees s) → Right G spell S s t m
    → Right G spell S s t n → Right G spell S s t (otherwise G.trees s m n)
otherwise-right G spell S s t (shift push make) n r q = r
otherwise-right G spell S s t pass n r q = q

-- how a tree came about by a token
pub data MadeBy (G : Grammar) (s : G.trees.Symbol) : G.trees.Tree s → Type 0 where
  made_by : (t : G.trees.Token) (push : List G.trees.Symbol → List G.trees.Symbol) (make : (ss : List G.trees.Symbol) → Forest G.trees (push ss) → Forest G.trees (s ∷ ss))
      → G.move s t ≡ shift push make
      → (x : G.trees.Tree s) → ((ss : List G.trees.Symbol) (g : Forest G.trees ss) → (f : Forest G.trees (push ss)) × (make ss f ≡ front G.trees s ss x g)) → MadeBy G s x

pub as_made : (G : Grammar) (s : G.trees.Symbol) (x : G.trees.Tree s) → MadeBy G s x → Made G s x
as_made G s x (made_by t push make e y back) = shifts t push make e y back

-- the token that a tree came about by
abbrev pub token_of : (G : Grammar) (s : G.trees.Symbol) (x : G.trees.Tree s) → MadeBy G s x → G.trees.Token
token_of G s x (made_by t push make e y back) = t

pub shifts-at : (G : Grammar) (s : G.trees.Symbol) (x : G.trees.Tree s) (b : MadeBy G s x) → is_shift (G.move s (token_of G s x b)) ≡ true
shifts-at G s x (made_by t push make e y back) = ap is_shift e

-- a tree that a lead's tree begins
abbrev pub lead-made : (G : Grammar) (s s' : G.trees.Symbol) (behind : List G.trees.Symbol → List G.trees.Symbol) (join : (ss : List G.trees.Symbol)
    → Forest G.trees (s ∷ behind ss) → Forest G.trees (s' ∷ ss))
    → (x : G.trees.Tree s) (x' : G.trees.Tree s') → ((ss : List G.trees.Symbol) (g : Forest G.trees ss) → (a : Forest G.trees (behind ss))
    × (join ss (front G.trees s (behind ss) x a) ≡ front G.trees s' ss x' g))
    → (b : MadeBy G s x) → G.move s' (token_of G s x b) ≡ leading G.trees s s' behind join (G.move s (token_of G s x b)) → MadeBy G s' x'
lead-made G s s' behind join x x' split (made_by t push make e y back) leads =
    made_by t (λ ss. push (behind ss)) (λ ss f. join ss (make (behind ss) f)) (leads ∙ ap (leading G.trees s s' behind join) e) x'
    (λ ss g. let a = split ss g in let f = back (behind ss) a.0 in (f.0, ap (join ss) f.1 ∙ a.1))
