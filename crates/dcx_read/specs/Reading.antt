-- Reading by one token, for any grammar that one token decides.
use Rattle.std.specs.Prelude.{List, [], ◌∷◌, Option, Some, None, Result, Ok, Err}

-- the symbols of a grammar and their trees
pub record Trees : Type 1 where
  pub Symbol : Type 0
  pub Token : Type 0
  pub Tree : Symbol → Type 0

-- one tree for each symbol
abbrev pub Forest : (T : Trees) → List T.Symbol → Type 0
Forest T [] = Unit {0}
Forest T (s ∷ ss) = T.Tree s × Forest T ss

-- What a token says where an s is to be read and others after it: which symbols are then to be read in the place of
-- the s, whatever comes after, and what tree of s their trees make; or that no tree of s begins with the token.
pub data Move (T : Trees) (s : T.Symbol) : Type 0 where
  shift : (push : List T.Symbol → List T.Symbol) (make : (ss : List T.Symbol) → Forest T (push ss) → Forest T (s ∷ ss)) → Move T s
  pass : Move T s

pub record Grammar : Type 1 where
  pub trees : Trees
  pub move : (s : trees.Symbol) (t : trees.Token) → Move trees s
  pub empty : (s : trees.Symbol) → Option (trees.Tree s)

-- a tree that begins as a tree of s does, and goes on with `behind`
abbrev pub leading : (T : Trees) (s s' : T.Symbol) (behind : List T.Symbol → List T.Symbol) (join : (ss : List T.Symbol) → Forest T (s ∷ behind ss) → Forest T (s' ∷ ss)) → Move T s → Move T s'
leading T s s' behind join (shift push make) = shift (λ ss. push (behind ss)) (λ ss f. join ss (make (behind ss) f))
leading T s s' behind join pass = pass

abbrev pub otherwise : (T : Trees) (s : T.Symbol) → Move T s → Move T s → Move T s
otherwise T s (shift push make) m = shift push make
otherwise T s pass m = m

abbrev pub on_ok : {A B E : Type 0} → (A → B) → Result A E → Result B E
on_ok f (Ok x) = Ok (f x)
on_ok f (Err e) = Err e

-- what trees of these symbols, one after the other, the tokens spell; or the tokens from the first one on that doesn't fit
abbrev pub Read : (G : Grammar) → List G.trees.Symbol → Type 0
Read G ss = Result (Forest G.trees ss) (List G.trees.Token)

abbrev pub skipped : (G : Grammar) (s : G.trees.Symbol) (ss : List G.trees.Symbol) → Option (G.trees.Tree s) → List G.trees.Token → Read G ss → Read G (s ∷ ss)
skipped G s ss None here later = Err here
skipped G s ss (Some x) here later = on_ok (λ f. (x, f)) later

abbrev pub shifted : (G : Grammar) (s : G.trees.Symbol) (ss : List G.trees.Symbol) → Move G.trees s → ((ss : List G.trees.Symbol) → Read G ss) → Read G (s ∷ ss) → Read G (s ∷ ss)
shifted G s ss (shift push make) after passed = on_ok (make ss) (after (push ss))
shifted G s ss pass after passed = passed

abbrev pub step : (G : Grammar) (t : G.trees.Token) (ts : List G.trees.Token) → ((ss : List G.trees.Symbol) → Read G ss) → (ss : List G.trees.Symbol) → Read G ss
step G t ts after [] = Err (t ∷ ts)
step G t ts after (s ∷ ss) = shifted G s ss (G.move s t) after (skipped G s ss (G.empty s) (t ∷ ts) (step G t ts after ss))

abbrev pub finish : (G : Grammar) (ss : List G.trees.Symbol) → Read G ss
finish G [] = Ok tt
finish G (s ∷ ss) = skipped G s ss (G.empty s) [] (finish G ss)

unfoldable pub read : (G : Grammar) (ts : List G.trees.Token) (ss : List G.trees.Symbol) → Read G ss
read G [] ss = finish G ss
read G (t ∷ ts) ss = step G t ts (read G ts) ss
