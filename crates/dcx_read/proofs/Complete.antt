-- Trees are read from their spelling, where one token decides.
use Rattle.std.proofs.Common.{◌≡◌, Bool, true, false, cond, List, [], ◌∷◌, ◌++◌, Option, Some, None, Ok, refl, sym, ap, subst, ◌∙◌}
use Rattle.dcx_read.specs.Reading.{Trees, Forest, Move, shift, pass, Grammar, skipped, shifted, step, finish, read}
use Rattle.dcx_read.proofs.Sound.{Spelling, spelling, Spells, SpellsNothing, Faithful}

-- kinds of tokens: which go on a tree of a symbol, and which may begin one
pub record Sets (T : Trees) : Type 1 where
  pub Kind : Type 0
  pub kind : T.Token → Kind
  pub on : T.Symbol → Kind → Bool
  pub begins : T.Symbol → Kind → Bool
  pub all : (Kind → Bool) → Bool
  pub every : (P : Kind → Bool) → all P ≡ true → (k : Kind) → P k ≡ true

abbrev pub front : (T : Trees) (s : T.Symbol) (ss : List T.Symbol) → T.Tree s → Forest T ss → Forest T (s ∷ ss)
front T s ss x f = (x, f)

-- how a tree came about: by a token, or as the empty one
pub data Made (G : Grammar) (s : G.trees.Symbol) : G.trees.Tree s → Type 0 where
  shifts : (t : G.trees.Token) (push : List G.trees.Symbol → List G.trees.Symbol) (make : (ss : List G.trees.Symbol) → Forest G.trees (push ss) → Forest G.trees (s ∷ ss))
      → G.move s t ≡ shift push make
      → (x : G.trees.Tree s) → ((ss : List G.trees.Symbol) (g : Forest G.trees ss) → (f : Forest G.trees (push ss)) × (make ss f ≡ front G.trees s ss x g)) → Made G s x
  empties : (x : G.trees.Tree s) → G.empty s ≡ Some x → Made G s x

abbrev pub is_shift : {T : Trees} {s : T.Symbol} → Move T s → Bool
is_shift (shift push make) = true
is_shift pass = false

abbrev pub is_there : {A : Type 0} → Option A → Bool
is_there None = false
is_there (Some x) = true

-- whether trees of these symbols may begin with the kind
abbrev pub firsts : (G : Grammar) (S : Sets G.trees) (ss : List G.trees.Symbol) → S.Kind → Bool
firsts G S [] k = false
firsts G S (s ∷ ss) k = cond (S.begins s k) true (cond (is_there (G.empty s)) (firsts G S ss k) false)

-- nothing that goes on a tree of a symbol begins what comes after it
abbrev pub Clear : (G : Grammar) (S : Sets G.trees) → List G.trees.Symbol → Type 0
Clear G S [] = Unit {0}
Clear G S (s ∷ ss) = ((k : S.Kind) → S.on s k ≡ true → firsts G S ss k ≡ false) × Clear G S ss

-- What a move is to keep: it begins with its token, which may begin its symbol, and what comes after stays clear.
pub record IsRight (G : Grammar) (spell : Spelling G.trees) (S : Sets G.trees) (s : G.trees.Symbol) (t : G.trees.Token) (push : List G.trees.Symbol → List G.trees.Symbol)
    (make : (ss : List G.trees.Symbol) → Forest G.trees (push ss) → Forest G.trees (s ∷ ss)) : Type 0 where
  pub spells : (ss : List G.trees.Symbol) (f : Forest G.trees (push ss)) → spelling G.trees spell (s ∷ ss) (make ss f) ≡ t ∷ spelling G.trees spell (push ss) f
  pub begun : S.begins s (S.kind t) ≡ true
  pub keeps : (ss : List G.trees.Symbol) → Clear G S (s ∷ ss) → Clear G S (push ss)

abbrev pub Right : (G : Grammar) (spell : Spelling G.trees) (S : Sets G.trees) (s : G.trees.Symbol) (t : G.trees.Token) → Move G.trees s → Type 0
Right G spell S s t (shift push make) = IsRight G spell S s t push make
Right G spell S s t pass = Unit {0}

-- what makes a grammar one that one token decides
pub record Decides (G : Grammar) (spell : Spelling G.trees) (S : Sets G.trees) : Type 0 where
  pub right : (s : G.trees.Symbol) (t : G.trees.Token) → Right G spell S s t (G.move s t)
  pub nothing : (s : G.trees.Symbol) → SpellsNothing G.trees spell s (G.empty s)
  pub made : (s : G.trees.Symbol) (x : G.trees.Tree s) → Made G s x
  pub goes_on : (s : G.trees.Symbol) (k : S.Kind) → is_there (G.empty s) ≡ true → S.begins s k ≡ true → S.on s k ≡ true

right-spells : (G : Grammar) (spell : Spelling G.trees) (S : Sets G.trees) (s : G.trees.Symbol) (t : G.trees.Token) (m : Move G.trees s) → Right G spell S s t m → Spells G.trees spell s t m
right-spells G spell S s t (shift push make) r = r.spells
right-spells G spell S s t pass r = tt

pub faithful : (G : Grammar) (spell : Spelling G.trees) (S : Sets G.trees) → Decides G spell S → Faithful G spell
faithful G spell S d = record { moves = λ s t. right-spells G spell S s t (G.move s t) (d.right s t); empties = d.nothing }

true-false : {A : Type 0} (b : Bool) → b ≡ true → b ≡ false → A
true-false b h k = absurd cc

module _ (G : Grammar) (spell : Spelling G.trees) (S : Sets G.trees) (d : Decides G spell S) where
  -- what the right move of a token gives, where it is a shift
  right-at : (s : G.trees.Symbol) (t : G.trees.Token) (push : List G.trees.Symbol → List G.trees.Symbol)
      (make : (ss : List G.trees.Symbol) → Forest G.trees (push ss) → Forest G.trees (s ∷ ss)) → G.move s t ≡ shift push make → IsRight G spell S s t push make
  right-at s t push make e = subst (λ (m : Move G.trees s). Right G spell S s t m) e (d.right s t)

  begins-any : (s : G.trees.Symbol) (t : G.trees.Token) (m : Move G.trees s) → Right G spell S s t m → is_shift m ≡ true → S.begins s (S.kind t) ≡ true
  begins-any s t (shift push make) r h = r.begun
  begins-any s t pass r h = absurd cc

  firsts-one : (s : G.trees.Symbol) (ss : List G.trees.Symbol) (x : G.trees.Tree s) (g : Forest G.trees ss) (t : G.trees.Token) (u : List G.trees.Token) → Made G s x
      → spelling G.trees spell (s ∷ ss) (front G.trees s ss x g) ≡ t ∷ u → (spelling G.trees spell ss g ≡ t ∷ u → firsts G S ss (S.kind t) ≡ true)
      → firsts G S (s ∷ ss) (S.kind t) ≡ true
  firsts-one s ss x g t u (shifts t' push make e y back) h k =
      let r : IsRight G spell S s t' push make = right-at s t' push make e in
      let b = back ss g in
      let h' : t' ∷ spelling G.trees spell (push ss) b.0 ≡ t ∷ u = sym (r.spells ss b.0) ∙ ap (spelling G.trees spell (s ∷ ss)) b.1 ∙ h in
      let same : t' ≡ t = cc in
      let there : S.begins s (S.kind t) ≡ true = subst (λ (y : G.trees.Token). S.begins s (S.kind y) ≡ true) same r.begun in
      rw there refl
  firsts-one s ss x g t u (empties y o) h k =
      let none : SpellsNothing G.trees spell s (Some x) = subst (λ (o : Option (G.trees.Tree s)). SpellsNothing G.trees spell s o) o (d.nothing s) in
      let h' : spelling G.trees spell ss g ≡ t ∷ u = ap (λ (xs : List G.trees.Token). xs ++ spelling G.trees spell ss g) (sym none) ∙ h in
      let there : firsts G S ss (S.kind t) ≡ true = k h' in
      let here : is_there (G.empty s) ≡ true = ap is_there o in
      rw (here, there) (elim (S.begins s (S.kind t)) as (λ (b : Bool). cond b true true ≡ true) [ true ↦ refl | false ↦ refl ])

  firsts-of : (ss : List G.trees.Symbol) (f : Forest G.trees ss) (t : G.trees.Token) (u : List G.trees.Token) → spelling G.trees spell ss f ≡ t ∷ u → firsts G S ss (S.kind t) ≡ true
  firsts-of [] f t u h = absurd cc
  firsts-of (s ∷ ss) f t u h = firsts-one s ss f.0 f.1 t u (d.made s f.0) h (firsts-of ss f.1 t u)

  finish-one : (s : G.trees.Symbol) (ss : List G.trees.Symbol) (x : G.trees.Tree s) (g : Forest G.trees ss) → Made G s x
      → spelling G.trees spell (s ∷ ss) (front G.trees s ss x g) ≡ [] → (spelling G.trees spell ss g ≡ [] → finish G ss ≡ Ok g)
      → finish G (s ∷ ss) ≡ Ok (front G.trees s ss x g)
  finish-one s ss x g (shifts t' push make e y back) h k =
      let r : IsRight G spell S s t' push make = right-at s t' push make e in
      let b = back ss g in
      let h' : t' ∷ spelling G.trees spell (push ss) b.0 ≡ [] = sym (r.spells ss b.0) ∙ ap (spelling G.trees spell (s ∷ ss)) b.1 ∙ h in absurd cc
  finish-one s ss x g (empties y o) h k =
      let none : SpellsNothing G.trees spell s (Some x) = subst (λ (o : Option (G.trees.Tree s)). SpellsNothing G.trees spell s o) o (d.nothing s) in
      let h' : spelling G.trees spell ss g ≡ [] = ap (λ (xs : List G.trees.Token). xs ++ spelling G.trees spell ss g) (sym none) ∙ h in
      rw (o, k h') refl

  finish-complete : (ss : List G.trees.Symbol) (f : Forest G.trees ss) → spelling G.trees spell ss f ≡ [] → finish G ss ≡ Ok f
  finish-complete [] f h = refl
  finish-complete (s ∷ ss) f h = finish-one s ss f.0 f.1 (d.made s f.0) h (finish-complete ss f.1)

  -- what the induction over the tokens gives
  abbrev pub Later : List G.trees.Token → Type 0
  Later ts = (ss : List G.trees.Symbol) (f : Forest G.trees ss) → spelling G.trees spell ss f ≡ ts → Clear G S ss → read G ts ss ≡ Ok f

  pass-one : (t : G.trees.Token) (ts : List G.trees.Token) (s : G.trees.Symbol) (ss : List G.trees.Symbol) (x : G.trees.Tree s) (g : Forest G.trees ss) (m : Move G.trees s)
      → G.empty s ≡ Some x → (is_shift m ≡ true → ⊥) → step G t ts (read G ts) ss ≡ Ok g
      → shifted G s ss m (read G ts) (skipped G s ss (G.empty s) (t ∷ ts) (step G t ts (read G ts) ss)) ≡ Ok (front G.trees s ss x g)
  pass-one t ts s ss x g (shift push make) o never k = absurd (never refl)
  pass-one t ts s ss x g pass o never k = rw (o, k) refl

  step-one : (t : G.trees.Token) (ts : List G.trees.Token) → Later ts → (s : G.trees.Symbol) (ss : List G.trees.Symbol) (x : G.trees.Tree s) (g : Forest G.trees ss)
      → Made G s x → spelling G.trees spell (s ∷ ss) (front G.trees s ss x g) ≡ t ∷ ts → Clear G S (s ∷ ss)
      → (spelling G.trees spell ss g ≡ t ∷ ts → step G t ts (read G ts) ss ≡ Ok g) → step G t ts (read G ts) (s ∷ ss) ≡ Ok (front G.trees s ss x g)
  step-one t ts later s ss x g (shifts t' push make e y back) h clear k =
      let r : IsRight G spell S s t' push make = right-at s t' push make e in
      let b = back ss g in
      let h' : t' ∷ spelling G.trees spell (push ss) b.0 ≡ t ∷ ts = sym (r.spells ss b.0) ∙ ap (spelling G.trees spell (s ∷ ss)) b.1 ∙ h in
      let same : t' ≡ t = cc in
      let rest : spelling G.trees spell (push ss) b.0 ≡ ts = cc in
      let deep : read G ts (push ss) ≡ Ok b.0 = later (push ss) b.0 rest (r.keeps ss clear) in
      let here : step G t' ts (read G ts) (s ∷ ss) ≡ Ok (front G.trees s ss x g) = rw (e, deep, b.1) refl in
      subst (λ (y : G.trees.Token). step G y ts (read G ts) (s ∷ ss) ≡ Ok (front G.trees s ss x g)) same here
  step-one t ts later s ss x g (empties y o) h clear k =
      let none : SpellsNothing G.trees spell s (Some x) = subst (λ (o : Option (G.trees.Tree s)). SpellsNothing G.trees spell s o) o (d.nothing s) in
      let h' : spelling G.trees spell ss g ≡ t ∷ ts = ap (λ (xs : List G.trees.Token). xs ++ spelling G.trees spell ss g) (sym none) ∙ h in
      let there : is_there (G.empty s) ≡ true = ap is_there o in
      pass-one t ts s ss x g (G.move s t) o (λ b. true-false (firsts G S ss (S.kind t)) (firsts-of ss g t ts h')
      (clear.0 (S.kind t) (d.goes_on s (S.kind t) there (begins-any s t (G.move s t) (d.right s t) b)))) (k h')

  step-complete : (t : G.trees.Token) (ts : List G.trees.Token) → Later ts → (ss : List G.trees.Symbol) (f : Forest G.trees ss) → spelling G.trees spell ss f ≡ t ∷ ts
      → Clear G S ss → step G t ts (read G ts) ss ≡ Ok f
  step-complete t ts later [] f h clear = absurd cc
  step-complete t ts later (s ∷ ss) f h clear = step-one t ts later s ss f.0 f.1 (d.made s f.0) h clear (λ h'. step-complete t ts later ss f.1 h' clear.1)

  pub read-complete : (ts : List G.trees.Token) → Later ts
  unfolding read
  read-complete [] ss f h clear = finish-complete ss f h
  read-complete (t ∷ ts) ss f h clear = step-complete t ts (read-complete ts) ss f h clear
