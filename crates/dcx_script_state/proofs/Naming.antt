-- Names that are added to those of what is declared.
use Rattle.std.proofs.Common.{◌≡◌, ℕ, ◌+◌, ◌<◌, Bool, true, false, cond, List, [], ◌∷◌, ◌++◌, map, length, take, get_or, refl, sym, ap, ap₂, ◌∙◌, subst}
use Rattle.std.proofs.lemmas.Bool.{or_parts}
use Rattle.std.proofs.lemmas.List.{take_more}
use Rattle.std.proofs.lemmas.List.Elements.{All-nil, All-cons, All-append}
use Rattle.std.specs.Prelude.{◌||◌, Result, Ok, Err, OnOk, OnErr}
use Rattle.std.specs.List.{list_any, AllByRecursion, IsDistinct}
use Rattle.dcx_point.specs.Pairs.{same_name}
use Rattle.dcx_point.proofs.Names.{unlike}
use Rattle.dcx_call.specs.declared.attribute.Variable.{Variable}
use Rattle.dcx_call.specs.declared.attribute.Parameter.{Parameter}
use Rattle.dcx_call.specs.Attributes.{IsSquare}
use Rattle.dcx_tree.specs.Problems.{declared_names}
use Rattle.dcx_tree.proofs.Names.{put_name}
use Rattle.dcx_script_state.specs.Lists.{is_among, AreNamed}

or_assoc : (a b c : Bool) → ((a || b) || c) ≡ (a || (b || c))
or_assoc true b c = refl
or_assoc false b c = refl

or_swap : (a b c : Bool) → ((a || b) || c) ≡ ((a || c) || b)
or_swap true b c = refl
or_swap false true true = refl
or_swap false true false = refl
or_swap false false true = refl
or_swap false false false = refl

-- one more at the end
pub any_more : {X : Type 0} (p : X → Bool) (xs : List X) (x : X) → list_any p (xs ++ x ∷ []) ≡ (list_any p xs || p x)
any_more p [] x = by (p x)
  where
    by : (b : Bool) → (b || false) ≡ (false || b)
    by true = refl
    by false = refl
any_more p (y ∷ xs) x = ap (λ b. p y || b) (any_more p xs x) ∙ sym (or_assoc (p y) (list_any p xs) (p x))

-- the next element of a list
pub any_next : {X : Type 0} (p : X → Bool) (xs : List X) (i : ℕ) (x : X) → i < length xs → x ≡ get_or xs i x → list_any p (take (i + 1) xs) ≡ (list_any p (take i xs) || p x)
any_next p xs i x lt is = ap (list_any p) (take_more xs i x lt ∙ ap (λ y. take i xs ++ y ∷ []) (sym is)) ∙ any_more p (take i xs) x

-- ---- names that stand once
-- a name that is among none of two lists comes behind the first
all_between : (P : List ℕ → Type 0) (xs ys : List (List ℕ)) (n : List ℕ) → P n → AllByRecursion P (xs ++ ys) → AllByRecursion P (xs ++ n ∷ ys)
all_between P [] ys n h all = (h, all)
all_between P (x ∷ xs) ys n h all = (all.0, all_between P xs ys n h all.1)

none_of : {X : Type 0} (f : X → List ℕ) (xs : List X) (name : List ℕ) → list_any (λ x. same_name name (f x)) xs ≡ false → AllByRecursion (λ y. same_name name y ≡ false) (map f xs)
none_of f [] name e = tt
none_of f (x ∷ xs) name e = let t = or_parts (same_name name (f x)) (list_any (λ y. same_name name (f y)) xs) e in (t.0, none_of f xs name t.1)

distinct_between : {X : Type 0} (f : X → List ℕ) (xs : List X) (ys : List (List ℕ)) (n : List ℕ) → list_any (λ x. same_name n (f x)) xs ≡ false → AllByRecursion (λ y. same_name n y ≡ false) ys →
    IsDistinct same_name (map f xs ++ ys) → IsDistinct same_name (map f xs ++ n ∷ ys)
unfolding IsDistinct
distinct_between f [] ys n e all d = (all, d)
distinct_between f (x ∷ xs) ys n e all d =
    let t = or_parts (same_name n (f x)) (list_any (λ y. same_name n (f y)) xs) e in
    (all_between (λ y. same_name (f x) y ≡ false) (map f xs) ys n (unlike n (f x) t.0) d.0, distinct_between f xs ys n t.1 all d.1)

-- a name that is among none comes last
all_last : (P : List ℕ → Type 0) (xs : List (List ℕ)) (n : List ℕ) → AllByRecursion P xs → P n → AllByRecursion P (xs ++ n ∷ [])
all_last P [] n all h = (h, tt)
all_last P (x ∷ xs) n all h = (all.0, all_last P xs n all.1 h)

distinct_last : (xs : List (List ℕ)) (n : List ℕ) → AllByRecursion (λ y. same_name n y ≡ false) xs → IsDistinct same_name xs → IsDistinct same_name (xs ++ n ∷ [])
unfolding IsDistinct
distinct_last [] n all d = (tt, tt)
distinct_last (x ∷ xs) n all d = (all_last (λ y. same_name x y ≡ false) xs n d.0 (unlike n x all.0), distinct_last xs n all.1 d.1)

none_both : {X : Type 0} (f : X → List ℕ) (xs : List X) (ys : List (List ℕ)) (name : List ℕ) → list_any (λ x. same_name name (f x)) xs ≡ false → AllByRecursion (λ y. same_name name y ≡ false) ys →
    AllByRecursion (λ y. same_name name y ≡ false) (map f xs ++ ys)
none_both f [] ys name e all = all
none_both f (x ∷ xs) ys name e all = let t = or_parts (same_name name (f x)) (list_any (λ y. same_name name (f y)) xs) e in (t.0, none_both f xs ys name t.1 all)

map_more : {X Y : Type 0} (f : X → Y) (xs : List X) (x : X) (ys : List Y) → map f (xs ++ x ∷ []) ++ ys ≡ map f xs ++ f x ∷ ys
map_more f [] x ys = refl
map_more f (y ∷ xs) x ys = ap (λ zs. f y ∷ zs) (map_more f xs x ys)

append_more : {Y : Type 0} (xs ys : List Y) (y : Y) → xs ++ (ys ++ y ∷ []) ≡ (xs ++ ys) ++ y ∷ []
append_more [] ys y = refl
append_more (x ∷ xs) ys y = ap (λ zs. x ∷ zs) (append_more xs ys y)

map_last : {X Y : Type 0} (f : X → Y) (xs : List X) (x : X) → map f (xs ++ x ∷ []) ≡ map f xs ++ f x ∷ []
map_last f [] x = refl
map_last f (y ∷ xs) x = ap (λ zs. f y ∷ zs) (map_last f xs x)

module _ (vs : List Variable) (ps : List Parameter) (has now : List ℕ → Bool) (named : AreNamed vs ps has) where
  -- one variable more
  named_variable : (v : Variable) (name : List ℕ) → name ≡ v.name → is_among v.name vs ps ≡ false → IsSquare v
      → ((q : List ℕ) → now q ≡ cond (same_name name q) true (has q)) → AreNamed (vs ++ v ∷ []) ps now
  named_variable v name is new square puts =
      let t = or_parts (list_any (λ w. same_name v.name w.name) vs) (list_any (λ p. same_name v.name p.name) ps) new in
      record {
        told = λ q.
            puts q ∙ put_name name q (has q) ∙ ap₂ (λ a b. a || b) (named.told q) (ap (same_name q) is)
            ∙ or_swap (list_any (λ w. same_name q w.name) vs) (list_any (λ p. same_name q p.name) ps) (same_name q v.name)
            ∙ ap (λ b. b || list_any (λ p. same_name q p.name) ps) (sym (any_more (λ (w : Variable). same_name q w.name) vs v));
        distinct = subst (IsDistinct same_name) (sym (map_more (λ (w : Variable). w.name) vs v (map (λ p. p.name) ps)))
            (distinct_between (λ (w : Variable). w.name) vs (map (λ p. p.name) ps) v.name t.0 (none_of (λ (p : Parameter). p.name) ps v.name t.1) named.distinct);
        squares = All-append IsSquare vs (v ∷ []) named.squares (All-cons IsSquare v [] square (All-nil IsSquare));
      }

  -- one parameter more
  named_parameter : (p : Parameter) (name : List ℕ) → name ≡ p.name → is_among p.name vs ps ≡ false → ((q : List ℕ) → now q ≡ cond (same_name name q) true (has q)) → AreNamed vs (ps ++ p ∷ []) now
  named_parameter p name is new puts =
      record {
        told = λ q.
            puts q ∙ put_name name q (has q) ∙ ap₂ (λ a b. a || b) (named.told q) (ap (same_name q) is)
            ∙ or_assoc (list_any (λ w. same_name q w.name) vs) (list_any (λ r. same_name q r.name) ps) (same_name q p.name)
            ∙ ap (λ b. list_any (λ w. same_name q w.name) vs || b) (sym (any_more (λ (r : Parameter). same_name q r.name) ps p));
        distinct = last;
        squares = named.squares;
      }
    where
      t : (list_any (λ w. same_name p.name w.name) vs ≡ false) × (list_any (λ r. same_name p.name r.name) ps ≡ false)
      t = or_parts (list_any (λ w. same_name p.name w.name) vs) (list_any (λ r. same_name p.name r.name) ps) new

      last : IsDistinct same_name (declared_names vs (ps ++ p ∷ []))
      last =
          subst (IsDistinct same_name) (sym (ap (λ ns. map (λ (v : Variable). v.name) vs ++ ns) (map_last (λ (r : Parameter). r.name) ps p)
          ∙ append_more (map (λ (v : Variable). v.name) vs) (map (λ (r : Parameter). r.name) ps) p.name))
          (distinct_last (map (λ (v : Variable). v.name) vs ++ map (λ (r : Parameter). r.name) ps) p.name
          (none_both (λ (v : Variable). v.name) vs (map (λ (r : Parameter). r.name) ps) p.name t.0 (none_of (λ (r : Parameter). r.name) ps p.name t.1)) named.distinct)

  named_as_before : ((q : List ℕ) → now q ≡ has q) → AreNamed vs ps now
  named_as_before same = record { told = λ q. same q ∙ named.told q; distinct = named.distinct; squares = named.squares }

  -- one more came with its name, or all is as it was
  module _ {T E : Type 0} (r : Result T E) (name : List ℕ) (puts : OnOk r ((q : List ℕ) → now q ≡ cond (same_name name q) true (has q))) (same : OnErr r ((q : List ℕ) → now q ≡ has q)) where
    pub variable_came : (v : Variable) (ws : List Variable) → name ≡ v.name → is_among v.name vs ps ≡ false → IsSquare v → OnOk r (ws ≡ vs ++ v ∷ []) → OnErr r (ws ≡ vs) → AreNamed ws ps now
    variable_came v ws is new square pushed stays = by r puts same pushed stays
      where
        by : (o : Result T E) → OnOk o ((q : List ℕ) → now q ≡ cond (same_name name q) true (has q)) → OnErr o ((q : List ℕ) → now q ≡ has q) → OnOk o (ws ≡ vs ++ v ∷ [])
            → OnErr o (ws ≡ vs) → AreNamed ws ps now
        by (Ok x) p u e f = subst (λ us. AreNamed us ps now) (sym e) (named_variable v name is new square p)
        by (Err d) p u e f = subst (λ us. AreNamed us ps now) (sym f) (named_as_before u)

    pub parameter_came : (p : Parameter) (qs : List Parameter) → name ≡ p.name → is_among p.name vs ps ≡ false → OnOk r (qs ≡ ps ++ p ∷ []) → OnErr r (qs ≡ ps) → AreNamed vs qs now
    parameter_came p qs is new pushed stays = by r puts same pushed stays
      where
        by : (o : Result T E) → OnOk o ((q : List ℕ) → now q ≡ cond (same_name name q) true (has q)) → OnErr o ((q : List ℕ) → now q ≡ has q) → OnOk o (qs ≡ ps ++ p ∷ [])
            → OnErr o (qs ≡ ps) → AreNamed vs qs now
        by (Ok x) g u e f = subst (λ rs. AreNamed vs rs now) (sym e) (named_parameter p name is new g)
        by (Err d) g u e f = subst (λ rs. AreNamed vs rs now) (sym f) (named_as_before u)
