-- Where reading stops at a token, it stops there whatever follows that token.
use Rattle.std.proofs.Common.{◌≡◌, List, [], ◌∷◌, ◌++◌, Option, Some, None, Ok, Err, refl, sym, ap, subst}
use Rattle.dcx_read.specs.Reading.{Forest, Move, shift, pass, Grammar, on_ok, Read, skipped, shifted, step, finish, read}

abbrev pub Blocks : (G : Grammar) (ss : List G.trees.Symbol) (ts : List G.trees.Token) → Read G ss → Type 0
Blocks G ss ts (Ok f) = Unit {0}
Blocks G ss ts (Err []) = Unit {0}
Blocks G ss ts (Err (t ∷ rest)) = (front : List G.trees.Token) × (ts ≡ front ++ t ∷ rest) × ((junk : List G.trees.Token) → read G (front ++ t ∷ junk) ss ≡ Err (t ∷ junk))

module _ (G : Grammar) (t : G.trees.Token) (ts : List G.trees.Token) (s : G.trees.Symbol) (ss : List G.trees.Symbol) where
  shift-blocks : (push : List G.trees.Symbol → List G.trees.Symbol) (make : (ss : List G.trees.Symbol) → Forest G.trees (push ss) → Forest G.trees (s ∷ ss)) → G.move s t ≡ shift push make
      → (r : Read G (push ss)) → Blocks G (push ss) ts r → Blocks G (s ∷ ss) (t ∷ ts) (on_ok (make ss) r)
  unfolding read
  shift-blocks push make e (Ok f) h = tt
  shift-blocks push make e (Err []) h = tt
  shift-blocks push make e (Err (u ∷ rest)) h = (t ∷ h.0, ap (λ (x : List G.trees.Token). t ∷ x) h.1, λ junk. rw (e, h.2 junk) refl)

  skip-one : (x : G.trees.Tree s) → G.move s t ≡ pass → G.empty s ≡ Some x → (xs : List G.trees.Token) (rest : List G.trees.Token) → read G (t ∷ xs) ss ≡ Err rest → read G (t ∷ xs) (s ∷ ss) ≡ Err rest
  unfolding read
  skip-one x m o xs rest h = rw (m, o, h) refl

  skip-front : (x : G.trees.Tree s) → G.move s t ≡ pass → G.empty s ≡ Some x → (front : List G.trees.Token) (u : G.trees.Token) (rest junk : List G.trees.Token)
      → t ∷ ts ≡ front ++ u ∷ rest → read G (front ++ u ∷ junk) ss ≡ Err (u ∷ junk) → read G (front ++ u ∷ junk) (s ∷ ss) ≡ Err (u ∷ junk)
  skip-front e m o [] u rest junk same h =
      let tu : t ≡ u = cc in
      let h' : read G (t ∷ junk) ss ≡ Err (t ∷ junk) = subst (λ (x : G.trees.Token). read G (x ∷ junk) ss ≡ Err (x ∷ junk)) (sym tu) h in
      subst (λ (x : G.trees.Token). read G (x ∷ junk) (s ∷ ss) ≡ Err (x ∷ junk)) tu (skip-one e m o junk (t ∷ junk) h')
  skip-front e m o (x ∷ front) u rest junk same h =
      let tx : t ≡ x = cc in
      let h' : read G (t ∷ (front ++ u ∷ junk)) ss ≡ Err (u ∷ junk) = subst (λ (y : G.trees.Token). read G (y ∷ (front ++ u ∷ junk)) ss ≡ Err (u ∷ junk)) (sym tx) h in
      subst (λ (y : G.trees.Token). read G (y ∷ (front ++ u ∷ junk)) (s ∷ ss) ≡ Err (u ∷ junk)) tx (skip-one e m o (front ++ u ∷ junk) (u ∷ junk) h')

  skip-blocks : (o : Option (G.trees.Tree s)) → G.move s t ≡ pass → G.empty s ≡ o → (r : Read G ss) → Blocks G ss (t ∷ ts) r → Blocks G (s ∷ ss) (t ∷ ts) (skipped G s ss o (t ∷ ts) r)
  unfolding read
  skip-blocks None m o r h = ([], refl, λ junk. rw (m, o) refl)
  skip-blocks (Some e) m o (Ok f) h = tt
  skip-blocks (Some e) m o (Err []) h = tt
  skip-blocks (Some e) m o (Err (u ∷ rest)) h = (h.0, h.1, λ junk. skip-front e m o h.0 u rest junk h.1 (h.2 junk))

  move-blocks : (m : Move G.trees s) → G.move s t ≡ m → ((ss : List G.trees.Symbol) → Blocks G ss ts (read G ts ss)) → Blocks G ss (t ∷ ts) (step G t ts (read G ts) ss)
      → Blocks G (s ∷ ss) (t ∷ ts) (shifted G s ss m (read G ts) (skipped G s ss (G.empty s) (t ∷ ts) (step G t ts (read G ts) ss)))
  move-blocks (shift push make) e h k = shift-blocks push make e (read G ts (push ss)) (h (push ss))
  move-blocks pass e h k = skip-blocks (G.empty s) e refl (step G t ts (read G ts) ss) k

step-blocks : (G : Grammar) (t : G.trees.Token) (ts : List G.trees.Token) (ss : List G.trees.Symbol) → ((ss : List G.trees.Symbol) → Blocks G ss ts (read G ts ss))
    → Blocks G ss (t ∷ ts) (step G t ts (read G ts) ss)
unfolding read
step-blocks G t ts [] h = ([], refl, λ junk. refl)
step-blocks G t ts (s ∷ ss) h = move-blocks G t ts s ss (G.move s t) refl h (step-blocks G t ts ss h)

skipped-blocks : (G : Grammar) (s : G.trees.Symbol) (ss : List G.trees.Symbol) (o : Option (G.trees.Tree s)) (r : Read G ss) → Blocks G ss [] r → Blocks G (s ∷ ss) [] (skipped G s ss o [] r)
skipped-blocks G s ss None r h = tt
skipped-blocks G s ss (Some e) (Ok f) h = tt
skipped-blocks G s ss (Some e) (Err []) h = tt
skipped-blocks G s ss (Some e) (Err (u ∷ rest)) h = elim h.0 as
    (λ (front : List G.trees.Token). [] ≡ front ++ u ∷ rest → Blocks G (s ∷ ss) [] (Err (u ∷ rest))) [ [] ↦ λ same. absurd cc | (x ∷ front) ↦ λ same. absurd cc ] h.1

finish-blocks : (G : Grammar) (ss : List G.trees.Symbol) → Blocks G ss [] (finish G ss)
finish-blocks G [] = tt
finish-blocks G (s ∷ ss) = skipped-blocks G s ss (G.empty s) (finish G ss) (finish-blocks G ss)

pub read-blocks : (G : Grammar) (ts : List G.trees.Token) (ss : List G.trees.Symbol) → Blocks G ss ts (read G ts ss)
unfolding read
read-blocks G [] ss = finish-blocks G ss
read-blocks G (t ∷ ts) ss = step-blocks G t ts ss (read-blocks G ts)
