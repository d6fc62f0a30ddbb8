-- What reading gives is spelled so, where each move keeps how trees are spelled.
use Rattle.std.proofs.Common.{◌≡◌, List, [], ◌∷◌, ◌++◌, Option, Some, None, Ok, Err, ap, ◌∙◌, refl}
use Rattle.dcx_read.specs.Reading.{Trees, Forest, Move, shift, pass, Grammar, on_ok, Read, skipped, shifted, step, finish, read}

abbrev pub Spelling : Trees → Type 0
Spelling T = (s : T.Symbol) → T.Tree s → List T.Token

-- trees side by side are spelled side by side
abbrev pub spelling : (T : Trees) → Spelling T → (ss : List T.Symbol) → Forest T ss → List T.Token
spelling T spell [] f = []
spelling T spell (s ∷ ss) f = spell s f.0 ++ spelling T spell ss f.1

-- what a move makes begins with its token
abbrev pub Spells : (T : Trees) → Spelling T → (s : T.Symbol) (t : T.Token) → Move T s → Type 0
Spells T spell s t (shift push make) = (ss : List T.Symbol) (f : Forest T (push ss)) → spelling T spell (s ∷ ss) (make ss f) ≡ t ∷ spelling T spell (push ss) f
Spells T spell s t pass = Unit {0}

abbrev pub SpellsNothing : (T : Trees) → Spelling T → (s : T.Symbol) → Option (T.Tree s) → Type 0
SpellsNothing T spell s None = Unit {0}
SpellsNothing T spell s (Some x) = spell s x ≡ []

pub record Faithful (G : Grammar) (spell : Spelling G.trees) : Type 0 where
  pub moves : (s : G.trees.Symbol) (t : G.trees.Token) → Spells G.trees spell s t (G.move s t)
  pub empties : (s : G.trees.Symbol) → SpellsNothing G.trees spell s (G.empty s)

-- a reading that went well is spelled by the tokens
abbrev pub SpelledBy : (G : Grammar) → Spelling G.trees → (ts : List G.trees.Token) (ss : List G.trees.Symbol) → Read G ss → Type 0
SpelledBy G spell ts ss (Ok f) = spelling G.trees spell ss f ≡ ts
SpelledBy G spell ts ss (Err rest) = Unit {0}

module _ (G : Grammar) (spell : Spelling G.trees) (d : Faithful G spell) where
  skipped-sound : (s : G.trees.Symbol) (ss : List G.trees.Symbol) (o : Option (G.trees.Tree s)) → SpellsNothing G.trees spell s o
      → (here ts : List G.trees.Token) (r : Read G ss) → SpelledBy G spell ts ss r → SpelledBy G spell ts (s ∷ ss) (skipped G s ss o here r)
  skipped-sound s ss None e here ts r h = tt
  skipped-sound s ss (Some x) e here ts (Ok f) h = ap (λ (y : List G.trees.Token). y ++ spelling G.trees spell ss f) e ∙ h
  skipped-sound s ss (Some x) e here ts (Err rest) h = tt

  made-sound : (t : G.trees.Token) (ts : List G.trees.Token) (s : G.trees.Symbol) (ss : List G.trees.Symbol) (push : List G.trees.Symbol → List G.trees.Symbol)
      (make : (ss : List G.trees.Symbol) → Forest G.trees (push ss) → Forest G.trees (s ∷ ss)) → Spells G.trees spell s t (shift push make)
      → (r : Read G (push ss)) → SpelledBy G spell ts (push ss) r → SpelledBy G spell (t ∷ ts) (s ∷ ss) (on_ok (make ss) r)
  made-sound t ts s ss push make e (Ok f) h = e ss f ∙ ap (λ (y : List G.trees.Token). t ∷ y) h
  made-sound t ts s ss push make e (Err rest) h = tt

  shifted-sound : (t : G.trees.Token) (ts : List G.trees.Token) (s : G.trees.Symbol) (ss : List G.trees.Symbol) (m : Move G.trees s) → Spells G.trees spell s t m
      → (after : (ss : List G.trees.Symbol) → Read G ss) (passed : Read G (s ∷ ss))
      → ((ss : List G.trees.Symbol) → SpelledBy G spell ts ss (after ss)) → SpelledBy G spell (t ∷ ts) (s ∷ ss) passed → SpelledBy G spell (t ∷ ts) (s ∷ ss) (shifted G s ss m after passed)
  shifted-sound t ts s ss (shift push make) e after passed h k = made-sound t ts s ss push make e (after (push ss)) (h (push ss))
  shifted-sound t ts s ss pass e after passed h k = k

  step-sound : (t : G.trees.Token) (ts : List G.trees.Token) (after : (ss : List G.trees.Symbol) → Read G ss) (ss : List G.trees.Symbol)
      → ((ss : List G.trees.Symbol) → SpelledBy G spell ts ss (after ss)) → SpelledBy G spell (t ∷ ts) ss (step G t ts after ss)
  step-sound t ts after [] h = tt
  step-sound t ts after (s ∷ ss) h = shifted-sound t ts s ss (G.move s t) (d.moves s t) after _ h
      (skipped-sound s ss (G.empty s) (d.empties s) (t ∷ ts) (t ∷ ts) (step G t ts after ss) (step-sound t ts after ss h))

  finish-sound : (ss : List G.trees.Symbol) → SpelledBy G spell [] ss (finish G ss)
  finish-sound [] = refl
  finish-sound (s ∷ ss) = skipped-sound s ss (G.empty s) (d.empties s) [] [] (finish G ss) (finish-sound ss)

  pub read-sound : (ts : List G.trees.Token) (ss : List G.trees.Symbol) → SpelledBy G spell ts ss (read G ts ss)
  unfolding read
  read-sound [] ss = finish-sound ss
  read-sound (t ∷ ts) ss = step-sound t ts (read G ts) ss (read-sound ts)
