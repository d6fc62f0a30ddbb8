-- Where reading stops, some trees begin with the tokens before it.
use Rattle.std.proofs.Common.{◌≡◌, List, [], ◌∷◌, ◌++◌, Option, Some, None, Ok, Err, refl, ap, ◌∙◌}
use Rattle.dcx_read.specs.Reading.{Trees, Forest, Move, shift, pass, Grammar, on_ok, Read, skipped, shifted, step, finish, read}
use Rattle.dcx_read.proofs.Sound.{Spelling, spelling, Spells, SpellsNothing, Faithful}

-- some trees of these symbols begin with the tokens in front of rest
pub record Begins (T : Trees) (spell : Spelling T) (ts rest : List T.Token) (ss : List T.Symbol) : Type 0 where
  pub front : List T.Token
  pub parts : ts ≡ front ++ rest
  pub trees : Forest T ss
  pub more : List T.Token
  pub begun : spelling T spell ss trees ≡ front ++ more

abbrev pub Viable : (G : Grammar) (spell : Spelling G.trees) (ts : List G.trees.Token) (ss : List G.trees.Symbol) → Read G ss → Type 0
Viable G spell ts ss (Ok f) = Unit {0}
Viable G spell ts ss (Err rest) = Begins G.trees spell ts rest ss

abbrev pub some_trees : (T : Trees) → ((s : T.Symbol) → T.Tree s) → (ss : List T.Symbol) → Forest T ss
some_trees T some [] = tt
some_trees T some (s ∷ ss) = (some s, some_trees T some ss)

module _ (G : Grammar) (spell : Spelling G.trees) (d : Faithful G spell) (some : (s : G.trees.Symbol) → G.trees.Tree s) where
  at_once : (ts : List G.trees.Token) (ss : List G.trees.Symbol) → Begins G.trees spell ts ts ss
  at_once ts ss = record { front = []; parts = refl; trees = some_trees G.trees some ss; more = spelling G.trees spell ss (some_trees G.trees some ss); begun = refl }

  skipped-viable : (s : G.trees.Symbol) (ss : List G.trees.Symbol) (o : Option (G.trees.Tree s)) → SpellsNothing G.trees spell s o → (ts : List G.trees.Token) (r : Read G ss)
      → Viable G spell ts ss r → Viable G spell ts (s ∷ ss) (skipped G s ss o ts r)
  skipped-viable s ss None e ts r h = at_once ts (s ∷ ss)
  skipped-viable s ss (Some x) e ts (Ok f) h = tt
  skipped-viable s ss (Some x) e ts (Err rest) h = record
      { front = h.front; parts = h.parts; trees = (x, h.trees); more = h.more; begun = ap (λ (y : List G.trees.Token). y ++ spelling G.trees spell ss h.trees) e ∙ h.begun }

  made-viable : (t : G.trees.Token) (ts : List G.trees.Token) (s : G.trees.Symbol) (ss : List G.trees.Symbol) (push : List G.trees.Symbol → List G.trees.Symbol)
      (make : (ss : List G.trees.Symbol) → Forest G.trees (push ss) → Forest G.trees (s ∷ ss)) → Spells G.trees spell s t (shift push make)
      → (r : Read G (push ss)) → Viable G spell ts (push ss) r → Viable G spell (t ∷ ts) (s ∷ ss) (on_ok (make ss) r)
  made-viable t ts s ss push make e (Ok f) h = tt
  made-viable t ts s ss push make e (Err rest) h = record {
    front = t ∷ h.front;
    parts = ap (λ (x : List G.trees.Token). t ∷ x) h.parts;
    trees = make ss h.trees;
    more = h.more;
    begun = e ss h.trees ∙ ap (λ (x : List G.trees.Token). t ∷ x) h.begun;
  }

  shifted-viable : (t : G.trees.Token) (ts : List G.trees.Token) (s : G.trees.Symbol) (ss : List G.trees.Symbol) (m : Move G.trees s) → Spells G.trees spell s t m
      → (after : (ss : List G.trees.Symbol) → Read G ss) (passed : Read G (s ∷ ss))
      → ((ss : List G.trees.Symbol) → Viable G spell ts ss (after ss)) → Viable G spell (t ∷ ts) (s ∷ ss) passed → Viable G spell (t ∷ ts) (s ∷ ss) (shifted G s ss m after passed)
  shifted-viable t ts s ss (shift push make) e after passed h k = made-viable t ts s ss push make e (after (push ss)) (h (push ss))
  shifted-viable t ts s ss pass e after passed h k = k

  step-viable : (t : G.trees.Token) (ts : List G.trees.Token) (after : (ss : List G.trees.Symbol) → Read G ss) (ss : List G.trees.Symbol)
      → ((ss : List G.trees.Symbol) → Viable G spell ts ss (after ss)) → Viable G spell (t ∷ ts) ss (step G t ts after ss)
  step-viable t ts after [] h = at_once (t ∷ ts) []
  step-viable t ts after (s ∷ ss) h = shifted-viable t ts s ss (G.move s t) (d.moves s t) after _ h
      (skipped-viable s ss (G.empty s) (d.empties s) (t ∷ ts) (step G t ts after ss) (step-viable t ts after ss h))

  finish-viable : (ss : List G.trees.Symbol) → Viable G spell [] ss (finish G ss)
  finish-viable [] = tt
  finish-viable (s ∷ ss) = skipped-viable s ss (G.empty s) (d.empties s) [] (finish G ss) (finish-viable ss)

  -- where every symbol has some tree
  pub read-viable : (ts : List G.trees.Token) (ss : List G.trees.Symbol) → Viable G spell ts ss (read G ts ss)
  unfolding read
  read-viable [] ss = finish-viable ss
  read-viable (t ∷ ts) ss = step-viable t ts (read G ts) ss (read-viable ts)
