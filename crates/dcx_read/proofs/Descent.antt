-- Answers of the descent: trees read part by part, where the last part or a stop is at hand.
use Rattle.std.proofs.lemmas.List.{map_push}
use Rattle.std.proofs.Common.{◌≡◌, ◌<◌, ◌≤◌, ℕ, Bool, true, false, List, [], ◌∷◌, ◌++◌, Option, Some, None, Result, Ok, Err, arith, map, length, refl, sym, ap, ap₂, subst, ◌∙◌}
use Rattle.std.specs.Prelude.{IfOk, IfSome, MatchOption}
use Rattle.std.specs.Result.{result_transpose}
use Rattle.dcx_shape.specs.declared.place.Place.{Place}
use Rattle.dcx_frac.specs.declared.fraction.Frac.{Frac}
use Rattle.dcx_tokens.specs.declared.token.Token.{Token}
use Rattle.dcx_read.specs.declared.role.Role.{Role}
use Rattle.dcx_read.specs.declared.role.Role.TheVariants as roles
use Rattle.dcx_syntax.specs.declared.bracket.Bracket.{Bracket}
use Rattle.dcx_syntax.specs.declared.bracket.Bracket.TheVariants.{Round, Square, Curly}
use Rattle.dcx_read.specs.declared.front.Stop.{Stop}
use Rattle.dcx_syntax.specs.declared.tree.Signed.{Signed}
use Rattle.dcx_read.specs.Role.{role_of}
use Rattle.dcx_syntax.specs.Terminal.{Terminal, opens}
use Rattle.dcx_read.specs.Terminals.{terminal, terminals}
use Rattle.dcx_syntax.specs.Expressions.{Primary, Postfix, exponent, Trailers, args, args_end, no_args, Arg, Expr, items, items_end, no_items, Index, Indices, more_indices, indexed, no_trailer}
use Rattle.dcx_syntax.specs.View.{chained, then_index, args_of, items_of, more_items_of}
use Rattle.dcx_read.specs.Moves.{Symbol, Tree, move, leaf, expr_s, arg_s, args_s, more_args_s, items_s, more_items_s, index_s, indices_s}
use Rattle.dcx_read.specs.Moves.{closes_s, exponent_s, postfix_s, trailers_s, primary_s, args_behind, args_join, items_behind, items_join}
use Rattle.dcx_read.specs.Steps.{IsSigns, Gives, Progress, Loop, StopsAt, Stops, Front, FrontOf, Refuses, Lacks, starts_expr, Reads, ReadsOne, ReadsPair, Closes, IsBeside, Makes, MakesOne}
use Rattle.dcx_read.specs.Leaves.{is_leaf}
use Rattle.dcx_read.proofs.Progress.{Join, front, begun, goes, joins, done, turns, stops}
use Rattle.dcx_read.proofs.Rules.{indexed-item, closes_square-gives, closes_square-stops, item, begins_primary, primary-stops, primary-none}
use Rattle.dcx_read.proofs.Rules.{args-starts, args-comma, args-none, more_args-ends, items-starts, items-comma, items-none, more_items-ends}
use Rattle.dcx_read.proofs.LineRules.{closes-gives, closes-stops}
use Rattle.dcx_read.proofs.Loops.{exponent-gives, exponent-stops, pushed, loop-stops, args_after, args-more, args-last, args-none-behind, items_after, items-more, items-last, items-none-behind}

-- the last part is read
pub finish : (s p : Symbol) (us rest mid : List Terminal) (make : Tree p → Tree s) (x : Tree p) (y : Tree s) → Progress s us rest (p ∷ []) (λ ss f. front s ss (make f.0) f.1)
    → Gives p rest x mid → y ≡ make x → Gives s us y mid
finish s p us rest mid make x y h g e = done s us mid (λ ss f. front s ss (make x) f) y (λ ss f. ap (λ z. front s ss z f) (sym e)) (goes s p us rest mid [] (λ ss f. front s ss (make f.0) f.1) x h g)

-- a token at the front is all of a tree
pub token-gives : (s : Symbol) (x : Tree s) (r : Role) (p : Place) (source : List ℕ) (ts rest : List Token) → Front r p ts rest
    → ((bytes : List ℕ) → move s (terminal r bytes p) ≡ leaf s x) → Gives s (terminals source ts) x (terminals source rest)
token-gives s x r p source ts rest f m = record { reads = (item s r p source ts rest [] (λ ss g. front s ss x g) f m).reads }

-- an item of a repetition, seen otherwise
pub loop-is : (s s' : Symbol) (us rest : List Terminal) (g g' : Tree s' → Tree s) → Loop s s' us rest g → g' ≡ g → Loop s s' us rest g'
loop-is s s' us rest g g' h e = subst (λ (k : Tree s' → Tree s). Loop s s' us rest k) (sym e) h

pub loop-same : (s s' : Symbol) (us rest : List Terminal) (g g' : Tree s' → Tree s) → Loop s s' us rest g → ((x : Tree s') → g x ≡ g' x) → Loop s s' us rest g'
loop-same s s' us rest g g' h e = joins s us rest (s' ∷ []) (λ ss f. front s ss (g f.0) f.1) (λ ss f. front s ss (g' f.0) f.1) (λ ss f. ap (λ z. front s ss z f.1) (e f.0)) h

-- a trailer that is seen as this one
pub trailer-is : (us rest : List Terminal) (g g' : Trailers → Trailers) → Loop trailers_s trailers_s us rest g → g' ≡ g → Loop trailers_s trailers_s us rest g'
trailer-is us rest g g' h e = loop-is trailers_s trailers_s us rest g g' h e

not-leaf-role : (r : Role) → (r ≡ roles.Name → ⊥) → ((v : Frac) → r ≡ roles.Number v → ⊥) → (r ≡ roles.Text → ⊥) → ((b : Bool) → r ≡ roles.Truth b → ⊥) → (r ≡ roles.None → ⊥) → is_leaf r ≡ false
not-leaf-role roles.Name a b c d e = absurd (a refl)
not-leaf-role (roles.Number n) a b c d e = absurd (b n refl)
not-leaf-role roles.Text a b c d e = absurd (c refl)
not-leaf-role (roles.Truth t) a b c d e = absurd (d t refl)
not-leaf-role roles.None a b c d e = absurd (e refl)
not-leaf-role r a b c d e = refl

pub not-leaf : (ts : List Token) → Lacks roles.Name ts → ((v : Frac) → Lacks (roles.Number v) ts) → Lacks roles.Text ts → ((v : Bool) → Lacks (roles.Truth v) ts)
    → Lacks roles.None ts → (t : Token) (rest : List Token) → ts ≡ t ∷ rest → is_leaf (role_of t.kind) ≡ false
not-leaf ts a b c d e t rest h = not-leaf-role (role_of t.kind) (a t rest h) (λ v. b v t rest h) (c t rest h) (λ v. d v t rest h) (e t rest h)

no-primary-role : (r : Role) → is_leaf r ≡ false → (r ≡ roles.Opens Round → ⊥) → (r ≡ roles.Opens Square → ⊥) → begins_primary r ≡ false
no-primary-role (roles.Opens Round) l a b = absurd (a refl)
no-primary-role (roles.Opens Square) l a b = absurd (b refl)
no-primary-role (roles.Opens Curly) l a b = refl
no-primary-role roles.Name l a b = absurd cc
no-primary-role (roles.Number n) l a b = absurd cc
no-primary-role roles.Text l a b = absurd cc
no-primary-role (roles.Truth t) l a b = absurd cc
no-primary-role roles.None l a b = absurd cc
no-primary-role r l a b = refl

pub no-primary : (source : List ℕ) (ts : List Token) → ((t : Token) (rest : List Token) → ts ≡ t ∷ rest → is_leaf (role_of t.kind) ≡ false) → Lacks (roles.Opens Round) ts
    → Lacks (roles.Opens Square) ts → StopsAt primary_s (terminals source ts) (terminals source ts)
no-primary source [] l a b = primary-none source [] refl
no-primary source (t ∷ ts) l a b = primary-stops source (t ∷ ts) ts t refl (no-primary-role (role_of t.kind) (l t ts refl) (a t ts refl) (b t ts refl))

-- a bracket at the front
pub front-opens-round : (source : List ℕ) (p : Place) (ts rest : List Token) → Front (roles.Opens Round) p ts rest → terminals source ts ≡ opens Round p ∷ terminals source rest
front-opens-round source p ts rest f = ap (terminals source) f.parts ∙ rw (f.role, f.at) refl

pub front-opens-square : (source : List ℕ) (p : Place) (ts rest : List Token) → Front (roles.Opens Square) p ts rest → terminals source ts ≡ opens Square p ∷ terminals source rest
front-opens-square source p ts rest f = ap (terminals source) f.parts ∙ rw (f.role, f.at) refl

-- the items behind a comma of a list
pub list-items : {C : Type 0} (view : C → Expr) (xs : List C) (comma : Bool) → (xs ≡ [] → comma ≡ true) → items_behind (items_of (map view xs) comma) ≡ more_items_of (map view xs) comma
list-items view [] comma h = rw (h refl) refl
list-items view (x ∷ xs) comma h = refl

-- one item more is read
pub loop-turn : (s s' : Symbol) (us rest mid : List Terminal) (complete complete' : Tree s' → Tree s) (g : Tree s' → Tree s') → Loop s s' us rest complete
    → Loop s' s' rest mid g → ((y : Tree s') → complete (g y) ≡ complete' y) → Loop s s' us mid complete'
loop-turn s s' us rest mid complete complete' g l h e = loop-same s s' us mid (λ y. complete (g y)) complete' (turns s s' us rest mid (s' ∷ []) complete (λ ss f. front s' ss (g f.0) f.1) l h) e

pub indices-begun : {C : Type 0} (view : C → Index) (none : List C) (us : List Terminal) → none ≡ [] → Loop indices_s indices_s us us (λ a. chained (map then_index (map view none)) a)
indices-begun view none us e = rw e (begun indices_s us)

pub indices-pushed : {C : Type 0} (view : C → Index) (new old : List C) (y : C) → new ≡ old ++ y ∷ [] → (a : Indices)
    → chained (map then_index (map view new)) a ≡ chained (map then_index (map view old)) (more_indices (view y) a)
indices-pushed view new old y e a = rw e (rw map_push (pushed then_index (map view old ++ view y ∷ []) (map view old) (view y) (then_index (view y)) refl refl a))

pub args-begun : {C : Type 0} (view : C → Arg) (none : List C) (us : List Terminal) → none ≡ [] → Loop args_s args_s us us (args_after (map view none))
args-begun view none us e = loop-same args_s args_s us us (λ a. a) (args_after (map view none)) (begun args_s us) (λ a. rw e refl)

pub items-begun : {C : Type 0} (view : C → Expr) (none : List C) (us : List Terminal) → none ≡ [] → Loop items_s items_s us us (items_after (map view none))
items-begun view none us e = loop-same items_s items_s us us (λ a. a) (items_after (map view none)) (begun items_s us) (λ a. rw e refl)

-- an argument, and what may follow it
module _ {C : Type 0} (source : List ℕ) (us : List Terminal) (ts : List Token) (view : C → Arg) (old : List C) (l : Loop args_s args_s us (terminals source ts) (args_after (map view old))) where
  pub args-stop : starts_expr ts ≡ true → (e : Stop) → Stops arg_s source (terminals source ts) e → Stops args_s source us e
  args-stop b e h = loop-stops args_s args_s us (terminals source ts) (args_after (map view old)) source e l
      (stops args_s arg_s (terminals source ts) (terminals source ts) (more_args_s ∷ []) args_join source e (args-starts source ts b) h)

  pub args-step : (behind next : List Token) (y : C) (new : List C) (p : Place) → starts_expr ts ≡ true → Gives arg_s (terminals source ts) (view y) (terminals source behind)
      → Front roles.Comma p behind next → new ≡ old ++ y ∷ [] → Loop args_s args_s us (terminals source next) (args_after (map view new))
  args-step behind next y new p b g f n =
      loop-turn args_s args_s us (terminals source ts) (terminals source next) (args_after (map view old)) (args_after (map view new)) (λ a. args (view y) (args_behind a)) l
      (turns args_s more_args_s (terminals source ts) (terminals source behind) (terminals source next) (args_s ∷ []) (λ a. args (view y) a) (λ ss f. front more_args_s ss (args_behind f.0) f.1)
      (goes args_s arg_s (terminals source ts) (terminals source ts) (terminals source behind) (more_args_s ∷ []) args_join (view y) (args-starts source ts b) g) (args-comma source behind next p f))
      (λ a. args-more view new old y n a)

  pub args-last-one : (behind : List Token) (y : C) (new : List C) → starts_expr ts ≡ true → Gives arg_s (terminals source ts) (view y) (terminals source behind)
      → Lacks roles.Comma behind → new ≡ old ++ y ∷ [] → Gives args_s us (args_of (map view new) false) (terminals source behind)
  args-last-one behind y new b g f n =
      finish args_s args_s us (terminals source ts) (terminals source behind) (args_after (map view old)) (args (view y) args_end) (args_of (map view new) false) l
      (finish args_s more_args_s (terminals source ts) (terminals source behind) (terminals source behind) (λ a. args (view y) a) args_end (args (view y) args_end)
      (goes args_s arg_s (terminals source ts) (terminals source ts) (terminals source behind) (more_args_s ∷ []) args_join (view y) (args-starts source ts b) g)
      (more_args-ends source behind f) refl)
      (args-last view new old y n)

  pub args-close : starts_expr ts ≡ false → Gives args_s us (args_of (map view old) true) (terminals source ts)
  args-close b = finish args_s args_s us (terminals source ts) (terminals source ts) (args_after (map view old)) no_args (args_of (map view old) true) l
      (args-none source ts b) (args-none-behind (map view old))

-- an item, and what may follow it
module _ {C : Type 0} (source : List ℕ) (us : List Terminal) (ts : List Token) (view : C → Expr) (old : List C) (l : Loop items_s items_s us (terminals source ts) (items_after (map view old))) where
  pub items-stop : starts_expr ts ≡ true → (e : Stop) → Stops expr_s source (terminals source ts) e → Stops items_s source us e
  items-stop b e h = loop-stops items_s items_s us (terminals source ts) (items_after (map view old)) source e l
      (stops items_s expr_s (terminals source ts) (terminals source ts) (more_items_s ∷ []) items_join source e (items-starts source ts b) h)

  pub items-step : (behind next : List Token) (y : C) (new : List C) (p : Place) → starts_expr ts ≡ true → Gives expr_s (terminals source ts) (view y) (terminals source behind)
      → Front roles.Comma p behind next → new ≡ old ++ y ∷ [] → Loop items_s items_s us (terminals source next) (items_after (map view new))
  items-step behind next y new p b g f n =
      loop-turn items_s items_s us (terminals source ts) (terminals source next) (items_after (map view old)) (items_after (map view new)) (λ a. items (view y) (items_behind a)) l
      (turns items_s more_items_s (terminals source ts) (terminals source behind) (terminals source next) (items_s ∷ []) (λ a. items (view y) a) (λ ss f. front more_items_s ss (items_behind f.0) f.1)
      (goes items_s expr_s (terminals source ts) (terminals source ts) (terminals source behind) (more_items_s ∷ []) items_join (view y) (items-starts source ts b) g)
      (items-comma source behind next p f))
      (λ a. items-more view new old y n a)

  pub items-last-one : (behind : List Token) (y : C) (new : List C) → starts_expr ts ≡ true → Gives expr_s (terminals source ts) (view y) (terminals source behind)
      → Lacks roles.Comma behind → new ≡ old ++ y ∷ [] → Gives items_s us (items_of (map view new) false) (terminals source behind)
  items-last-one behind y new b g f n =
      finish items_s items_s us (terminals source ts) (terminals source behind) (items_after (map view old)) (items (view y) items_end) (items_of (map view new) false) l
      (finish items_s more_items_s (terminals source ts) (terminals source behind) (terminals source behind) (λ a. items (view y) a) items_end (items (view y) items_end)
      (goes items_s expr_s (terminals source ts) (terminals source ts) (terminals source behind) (more_items_s ∷ []) items_join (view y) (items-starts source ts b) g)
      (more_items-ends source behind f) refl)
      (items-last view new old y n)

  pub items-close : starts_expr ts ≡ false → Gives items_s us (items_of (map view old) true) (terminals source ts)
  items-close b = finish items_s items_s us (terminals source ts) (terminals source ts) (items_after (map view old)) no_items (items_of (map view old) true) l
      (items-none source ts b) (items-none-behind (map view old))

-- what was read is no longer than what it is made of
pub made-length : {A X Y : Type 0} (view : X → A × List Token) (seen : Y → A × List Token) (n : ℕ) (made : Result X Stop) (given : Result Y Stop)
    → IfOk given (λ y. length (seen y).1 < n) → Makes view seen made given → IfOk made (λ x. length (view x).1 < n)
made-length view seen n (Err e) given h m = tt
made-length view seen n (Ok x) (Err d) h m = absurd m
made-length view seen n (Ok x) (Ok y) h m = subst (λ (q : List Token). length q < n) (sym m.1) h

-- an item of a repetition
module _ {Y : Type 0} (s : Symbol) (seen : Y → (Tree s → Tree s) × List Token) (source : List ℕ) (rest : List Terminal) where
  abbrev pub ReadsItem : Result Y Stop → Type 0
  ReadsItem (Ok y) = Loop s s rest (terminals source (seen y).1) (seen y).0
  ReadsItem (Err d) = Stops s source rest d

  pub item-read : {Z : Type 0} (p : Symbol) (after : List Terminal) (make : Tree p → Tree s → Tree s) (given : Z → Tree p × List Token)
      → Progress s rest after (p ∷ s ∷ []) (λ ss f. front s ss (make f.0 f.1.0) f.1.1)
      → (operand : Result Z Stop) (item : Result Y Stop) → Reads p source given operand after → Makes seen (λ z. (make (given z).0, (given z).1)) item operand → ReadsItem item
  item-read p after make given h (Err b) (Err d) r i = rw i (stops s p rest after (s ∷ []) (λ ss f. front s ss (make f.0 f.1.0) f.1.1) source b h r)
  item-read p after make given h (Ok z) (Err d) r i = rw i tt
  item-read p after make given h (Err b) (Ok y) r i = absurd i
  item-read p after make given h (Ok z) (Ok y) r i =
      subst (λ (q : List Token). Loop s s rest (terminals source q) (seen y).0) (sym i.1)
      (loop-is s s rest (terminals source (given z).1) (make (given z).0) (seen y).0
      (goes s p rest after (terminals source (given z).1) (s ∷ []) (λ ss f. front s ss (make f.0 f.1.0) f.1.1) (given z).0 h r) i.0)

  pub transposed-reads : (none : Tree s) (read : Result (Option Y) Stop) → ReadsOne s source none seen read rest → MatchOption (result_transpose read) (Gives s rest none rest) (λ i. ReadsItem i)
  transposed-reads none (Ok None) r = r
  transposed-reads none (Ok (Some y)) r = r
  transposed-reads none (Err e) r = r

pub transposed-shorter : {Y : Type 0} (size : Y → ℕ) (n : ℕ) (read : Result (Option Y) Stop) → IfOk read (λ o. IfSome o (λ y. size y < n))
    → IfSome (result_transpose read) (λ i. IfOk i (λ y. size y < n))
transposed-shorter size n (Ok None) h = tt
transposed-shorter size n (Ok (Some y)) h = h
transposed-shorter size n (Err e) h = tt

-- what was read so far grows by an item
module _ {T U X Y : Type 0} (s s' : Symbol) (top : T → Tree s' → Tree s) (view : U → Tree s' → Tree s') (kept : X → (T × List U) × List Token) (seen : Y → U × List Token)
    (source : List ℕ) (us rest : List Terminal) (so_far : X) (l : Loop s s' us rest (λ a. top (kept so_far).0.0 (chained (map view (kept so_far).0.1) a))) where
  pub grown-stops : (item : Result Y Stop) (e : Stop) → ReadsItem s' (λ y. (view (seen y).0, (seen y).1)) source rest item
      → Makes kept (λ y. (((kept so_far).0.0, (kept so_far).0.1 ++ (seen y).0 ∷ []), (seen y).1)) (Err e) item → Stops s source us e
  grown-stops (Err d) e r g = rw g (loop-stops s s' us rest (λ a. top (kept so_far).0.0 (chained (map view (kept so_far).0.1) a)) source d l r)
  grown-stops (Ok y) e r g = rw g tt

  pub grown-next : (item : Result Y Stop) (x : X) → ReadsItem s' (λ y. (view (seen y).0, (seen y).1)) source rest item
      → Makes kept (λ y. (((kept so_far).0.0, (kept so_far).0.1 ++ (seen y).0 ∷ []), (seen y).1)) (Ok x) item
      → Loop s s' us (terminals source (kept x).1) (λ a. top (kept x).0.0 (chained (map view (kept x).0.1) a))
  grown-next (Err d) x r g = absurd g
  grown-next (Ok y) x r g =
      subst (λ (q : List Token). Loop s s' us (terminals source q) (λ a. top (kept x).0.0 (chained (map view (kept x).0.1) a))) (sym g.1)
      (subst (λ q. Loop s s' us (terminals source (seen y).1) (λ a. top q.0 (chained (map view q.1) a))) (sym g.0)
      (loop-turn s s' us rest (terminals source (seen y).1) (λ a. top (kept so_far).0.0 (chained (map view (kept so_far).0.1) a))
      (λ a. top (kept so_far).0.0 (chained (map view ((kept so_far).0.1 ++ (seen y).0 ∷ [])) a)) (view (seen y).0) l r
      (λ a. ap (top (kept so_far).0.0) (sym (pushed view ((kept so_far).0.1 ++ (seen y).0 ∷ []) (kept so_far).0.1 (seen y).0 (view (seen y).0) refl refl a)))))

-- parts of a tree are read one after the other
module _ (s : Symbol) (source : List ℕ) (us : List Terminal) where
  abbrev pub ReadsTo : {X : Type 0} (ps : List Symbol) → (X → Join s ps × List Token) → Result X Stop → Type 0
  ReadsTo ps view (Ok x) = Progress s us (terminals source (view x).1) ps (view x).0
  ReadsTo ps view (Err e) = Stops s source us e

  pub part-read : {X : Type 0} (p : Symbol) (ps : List Symbol) (mid : List Terminal) (join : Join s (p ∷ ps)) (view : X → Tree p × List Token) → Progress s us mid (p ∷ ps) join
      → (read : Result X Stop) → Reads p source view read mid → ReadsTo ps (λ x. ((λ ss f. join ss (front p (ps ++ ss) (view x).0 f)), (view x).1)) read
  part-read p ps mid join view h (Ok x) r = goes s p us mid (terminals source (view x).1) ps join (view x).0 h r
  part-read p ps mid join view h (Err e) r = stops s p us mid ps join source e h r

  -- where a mark stands behind what was read
  pub mark-read : {X U : Type 0} (m : Symbol) (x : Tree m) (r : Role) (ps : List Symbol) (join : U → Join s (m ∷ ps)) (view : X → U × List Token) → ((ts rest : List Token)
      → FrontOf r ts rest → Gives m (terminals source ts) x (terminals source rest)) → ((ts : List Token) (e : Stop) → Refuses r ts e → Stops m source (terminals source ts) e)
      → (closing given : Result X Stop) → ReadsTo (m ∷ ps) (λ y. (join (view y).0, (view y).1)) given → Closes r view closing given
      → ReadsTo ps (λ y. ((λ ss f. join (view y).0 ss (front m (ps ++ ss) x f)), (view y).1)) closing
  mark-read m x r ps join view a b (Err e) (Err d) h c = rw c h
  mark-read m x r ps join view a b (Ok z) (Err d) h c = absurd c
  mark-read m x r ps join view a b (Err e) (Ok y) h c = stops s m us (terminals source (view y).1) ps (join (view y).0) source e h (b (view y).1 e c)
  mark-read m x r ps join view a b (Ok z) (Ok y) h c =
      subst (λ u. Progress s us (terminals source (view z).1) ps (λ ss f. join u ss (front m (ps ++ ss) x f))) (sym c.0)
      (goes s m us (terminals source (view y).1) (terminals source (view z).1) ps (join (view y).0) x h (a (view y).1 (view z).1 c.1))

  -- where a part is read beside what was
  pub beside-read : {F U X Y : Type 0} (p : Symbol) (ps : List Symbol) (mid : List Terminal) (join : F → Join s (p ∷ ps)) (part : U → Tree p) (view : X → (F × U) × List Token)
      (seen : Y → U × List Token) (f : F) → Progress s us mid (p ∷ ps) (join f)
      → (parts : Result X Stop) (last : Result Y Stop) → Reads p source (λ y. (part (seen y).0, (seen y).1)) last mid → IsBeside view seen f parts last
      → ReadsTo ps (λ x. ((λ ss g. join (view x).0.0 ss (front p (ps ++ ss) (part (view x).0.1) g)), (view x).1)) parts
  beside-read p ps mid join part view seen f h (Err e) (Err d) r i = rw i (stops s p us mid ps (join f) source d h r)
  beside-read p ps mid join part view seen f h (Ok x) (Err d) r i = absurd i
  beside-read p ps mid join part view seen f h (Err e) (Ok y) r i = absurd i
  beside-read p ps mid join part view seen f h (Ok x) (Ok y) r i =
      subst (λ (q : List Token). Progress s us (terminals source q) ps (λ ss g. join (view x).0.0 ss (front p (ps ++ ss) (part (view x).0.1) g))) (sym i.1.1)
      (subst (λ a. Progress s us (terminals source (seen y).1) ps (λ ss g. join a ss (front p (ps ++ ss) (part (view x).0.1) g))) (sym i.0)
      (subst (λ b. Progress s us (terminals source (seen y).1) ps (λ ss g. join f ss (front p (ps ++ ss) (part b) g))) (sym i.1.0)
      (goes s p us mid (terminals source (seen y).1) ps (join f) (part (seen y).0) h r)))

  pub all-read : {X : Type 0} (tree : X → Tree s) (rest : X → List Token) (read : Result X Stop) → ReadsTo [] (λ x. ((λ ss f. front s ss (tree x) f), rest x)) read
      → Reads s source (λ x. (tree x, rest x)) read us
  all-read tree rest (Ok x) h = done s us (terminals source (rest x)) (λ ss f. front s ss (tree x) f) (tree x) (λ ss f. refl) h
  all-read tree rest (Err e) h = h

-- an index, of which the first part is read
module _ {F U X Y Z : Type 0} (view : X → (F × U) × List Token) (seen : Y → U × List Token) (kept : Z → (Trailers → Trailers) × List Token) (place : Place)
    (first : F → Index) (rest : U → Indices) (f : F) where
  abbrev pub index_kept : X → (Trailers → Trailers) × List Token
  index_kept x = ((λ y. indexed place (first (view x).0.0) (rest (view x).0.1) y), (view x).1)

  pub index-ends : (source : List ℕ) (ts within after : List Token) → Front (roles.Opens Square) place ts within
      → Gives index_s (terminals source within) (first f) (terminals source after) → (others closing : Result Y Stop) (parts : Result X Stop) (whole : Result (Option Z) Stop)
      → Reads indices_s source (λ y. (rest (seen y).0, (seen y).1)) others (terminals source after) → Closes (roles.Closes Square) seen closing others
      → IsBeside view seen f parts closing → MakesOne kept index_kept whole parts → ReadsOne trailers_s source no_trailer kept whole (terminals source ts)
  index-ends source ts within after h g (Err a) (Err b) (Err d) (Err e) r c i m = rw (m, i, c)
      (stops trailers_s indices_s (terminals source ts) (terminals source after) (closes_s Square ∷ trailers_s ∷ []) _ source a (goes trailers_s index_s (terminals source ts)
      (terminals source within) (terminals source after) (indices_s ∷ closes_s Square ∷ trailers_s ∷ []) _ (first f) (indexed-item source ts within place h) g) r)
  index-ends source ts within after h g (Ok a) (Err b) (Err d) (Err e) r c i m = rw (m, i) (stops trailers_s (closes_s Square) (terminals source ts)
      (terminals source (seen a).1) (trailers_s ∷ []) _ source b (goes trailers_s indices_s (terminals source ts) (terminals source after) (terminals source (seen a).1)
      (closes_s Square ∷ trailers_s ∷ []) _ (rest (seen a).0) (goes trailers_s index_s (terminals source ts) (terminals source within) (terminals source after)
      (indices_s ∷ closes_s Square ∷ trailers_s ∷ []) _ (first f) (indexed-item source ts within place h) g) r) (closes_square-stops source (seen a).1 b c))
  index-ends source ts within after h g (Err a) (Ok b) d e r c i m = absurd c
  index-ends source ts within after h g a (Err b) (Ok d) e r c i m = absurd i
  index-ends source ts within after h g a (Ok b) (Err d) e r c i m = absurd i
  index-ends source ts within after h g a b (Ok d) (Err e) r c i m = absurd m
  index-ends source ts within after h g a b (Ok d) (Ok None) r c i m = absurd m
  index-ends source ts within after h g a b (Err d) (Ok e) r c i m = absurd m
  index-ends source ts within after h g (Ok a) (Ok b) (Ok d) (Ok (Some e)) r c i m =
      subst (λ z. Loop trailers_s trailers_s (terminals source ts) (terminals source z) (kept e).0) (sym (m.1 ∙ i.1.1))
      (trailer-is (terminals source ts) (terminals source (seen b).1) (λ y. indexed place (first f) (rest (seen a).0) y) (kept e).0
      (goes trailers_s (closes_s Square) (terminals source ts) (terminals source (seen a).1) (terminals source (seen b).1) (trailers_s ∷ []) _ tt
      (goes trailers_s indices_s (terminals source ts) (terminals source after) (terminals source (seen a).1) (closes_s Square ∷ trailers_s ∷ []) _ (rest (seen a).0)
      (goes trailers_s index_s (terminals source ts) (terminals source within) (terminals source after) (indices_s ∷ closes_s Square ∷ trailers_s ∷ []) _ (first f)
      (indexed-item source ts within place h) g) r) (closes_square-gives source (seen a).1 (seen b).1 c.1))
      (m.0 ∙ ap₂ (λ a b y. indexed place (first a) (rest b) y) i.0 (i.1.0 ∙ c.0)))

  pub index-shorter : (n most : ℕ) → n < most → (others closing : Result Y Stop) (parts : Result X Stop) (whole : Result (Option Z) Stop)
      → IfOk others (λ y. length (seen y).1 ≤ n) → Closes (roles.Closes Square) seen closing others → IsBeside view seen f parts closing → MakesOne kept index_kept whole parts
      → IfOk whole (λ o. IfSome o (λ x. length (kept x).1 < most))
  index-shorter n most k a b d (Err e) h c i m = tt
  index-shorter n most k a b d (Ok None) h c i m = tt
  index-shorter n most k (Err a) (Ok b) (Ok d) (Ok (Some e)) h c i m = absurd c
  index-shorter n most k a (Err b) (Ok d) (Ok (Some e)) h c i m = absurd i
  index-shorter n most k a b (Err d) (Ok (Some e)) h c i m = absurd m
  index-shorter n most k (Ok a) (Ok b) (Ok d) (Ok (Some e)) h c i m = let o = ap length m.1 in let p = ap length i.1.1 in let q = ap length c.1.1.parts in omega (arith, o, p, q, h, k)

pub loosely : {Y : Type 0} (r : Result Y Stop) (size : Y → ℕ) (n : ℕ) → IfOk r (λ y. size y < n) → IfOk r (λ y. size y ≤ n)
loosely (Ok y) size n h = omega (arith, h)
loosely (Err e) size n h = tt

-- a bracket ends what is read
pub closed-reads : {X U : Type 0} (P : X → Type 0) (s p : Symbol) (b : Bracket) (view : X → U × List Token) (source : List ℕ) (us mid : List Terminal) (make : Tree p → Tree s)
    (part : U → Tree p) (all : U → Tree s) → Progress s us mid (p ∷ closes_s b ∷ []) (λ ss g. front s ss (make g.0) g.1.1)
    → ((x : X) → P x → make (part (view x).0) ≡ all (view x).0)
    → (inner closing : Result X Stop) → Reads p source (λ x. (part (view x).0, (view x).1)) inner mid → IfOk inner P → Closes (roles.Closes b) view closing inner
    → Reads s source (λ x. (all (view x).0, (view x).1)) closing us
closed-reads P s p b view source us mid make part all h k (Err a) (Err d) r o c = rw c (stops s p us mid (closes_s b ∷ []) (λ ss g. front s ss (make g.0) g.1.1) source a h r)
closed-reads P s p b view source us mid make part all h k (Err a) (Ok d) r o c = absurd c
closed-reads P s p b view source us mid make part all h k (Ok a) (Err d) r o c = stops s (closes_s b) us (terminals source (view a).1) [] _ source d
    (goes s p us mid (terminals source (view a).1) (closes_s b ∷ []) _ (part (view a).0) h r) (closes-stops b source (view a).1 d c)
closed-reads P s p b view source us mid make part all h k (Ok a) (Ok d) r o c =
    finish s (closes_s b) us (terminals source (view a).1) (terminals source (view d).1) (λ z. make (part (view a).0)) tt (all (view d).0)
    (goes s p us mid (terminals source (view a).1) (closes_s b ∷ []) _ (part (view a).0) h r) (closes-gives b source (view a).1 (view d).1 c.1) (ap all c.0 ∙ sym (k a o))

pub closed-shorter : {X U : Type 0} (b : Bracket) (view : X → U × List Token) (n most : ℕ) → n ≤ most → (inner closing : Result X Stop)
    → IfOk inner (λ x. length (view x).1 ≤ n) → Closes (roles.Closes b) view closing inner → IfOk closing (λ x. length (view x).1 < most)
closed-shorter b view n most k inner (Err d) h c = tt
closed-shorter b view n most k (Err a) (Ok d) h c = absurd c
closed-shorter b view n most k (Ok a) (Ok d) h c = let q = ap length c.1.1.parts in omega (arith, q, h, k)

-- the second of two parts is read
module _ {F U X Y : Type 0} (view : X → (F × U) × List Token) (seen : Y → U × List Token) (f : F) where
  pub pair-reads : (p q : Symbol) (source : List ℕ) (us mid : List Terminal) (first : F → Tree p) (second : U → Tree q) → Gives p us (first f) mid
      → (last : Result Y Stop) (parts : Result X Stop) → Reads q source (λ y. (second (seen y).0, (seen y).1)) last mid → IsBeside view seen f parts last
      → ReadsPair p q source (λ x. ((first (view x).0.0, second (view x).0.1), (view x).1)) parts us
  pair-reads p q source us mid first second g (Err a) (Err b) r i = rw i (λ s from join h. stops s q from mid [] _ source a (goes s p from us mid (q ∷ []) join (first f) h g) r)
  pair-reads p q source us mid first second g (Err a) (Ok b) r i = absurd i
  pair-reads p q source us mid first second g (Ok a) (Err b) r i = absurd i
  pair-reads p q source us mid first second g (Ok a) (Ok b) r i = (
    mid,
    (
      subst (λ z. Gives p us (first z) mid) (sym i.0) g,
      subst (λ z. Gives q mid (second z) (terminals source (view b).1)) (sym i.1.0) (subst (λ z. Gives q mid (second (seen a).0) (terminals source z)) (sym i.1.1) r),
    ),
  )

  pub pair-shorter : (n most : ℕ) → n ≤ most → (last : Result Y Stop) (parts : Result X Stop) → IfOk last (λ y. length (seen y).1 ≤ n) → IsBeside view seen f parts last
      → IfOk parts (λ x. length (view x).1 ≤ most)
  pair-shorter n most k last (Err b) h i = tt
  pair-shorter n most k (Err a) (Ok b) h i = absurd i
  pair-shorter n most k (Ok a) (Ok b) h i = let p = ap length i.1.1 in omega (arith, p, h, k)

-- a tree is made of a part that is read and of what is read behind it
module _ {F U X Y Z : Type 0} (s : Symbol) (view : X → (F × U) × List Token) (seen : Y → U × List Token) (kept : Z → Tree s × List Token) (complete : F → U → Tree s) (f : F) where
  abbrev pub completed : X → Tree s × List Token
  completed x = (complete (view x).0.0 (view x).0.1, (view x).1)

  pub made-last : (p : Symbol) (source : List ℕ) (us mid : List Terminal) (make : Tree p → Tree s) (part : U → Tree p)
      → Progress s us mid (p ∷ []) (λ ss g. front s ss (make g.0) g.1) → ((u : U) → make (part u) ≡ complete f u)
      → (last : Result Y Stop) (parts : Result X Stop) (whole : Result Z Stop) → Reads p source (λ y. (part (seen y).0, (seen y).1)) last mid
      → IsBeside view seen f parts last → Makes kept completed whole parts → Reads s source kept whole us
  made-last p source us mid make part h k (Err a) (Err b) (Err d) r i m = rw (m, i) (stops s p us mid [] (λ ss g. front s ss (make g.0) g.1) source a h r)
  made-last p source us mid make part h k (Err a) (Ok b) d r i m = absurd i
  made-last p source us mid make part h k (Ok a) (Err b) d r i m = absurd i
  made-last p source us mid make part h k a (Err b) (Ok d) r i m = absurd m
  made-last p source us mid make part h k (Ok a) (Ok b) (Err d) r i m = rw m tt
  made-last p source us mid make part h k (Ok a) (Ok b) (Ok d) r i m =
      subst (λ z. Gives s us (kept d).0 (terminals source z)) (sym (m.1 ∙ i.1.1))
      (finish s p us mid (terminals source (seen a).1) make (part (seen a).0) (kept d).0 h r (m.0 ∙ ap₂ complete i.0 i.1.0 ∙ sym (k (seen a).0)))

  pub made-pair : (p q : Symbol) (source : List ℕ) (us mid : List Terminal) (make : Tree p → Tree q → Tree s) (first : U → Tree p) (second : U → Tree q)
      → Progress s us mid (p ∷ q ∷ []) (λ ss g. front s ss (make g.0 g.1.0) g.1.1) → ((u : U) → make (first u) (second u) ≡ complete f u)
      → (last : Result Y Stop) (parts : Result X Stop) (whole : Result Z Stop) → ReadsPair p q source (λ y. ((first (seen y).0, second (seen y).0), (seen y).1)) last mid
      → IsBeside view seen f parts last → Makes kept completed whole parts → Reads s source kept whole us
  made-pair p q source us mid make first second h k (Err a) (Err b) (Err d) r i m = rw (m, i) (r s us (λ ss g. front s ss (make g.0 g.1.0) g.1.1) h)
  made-pair p q source us mid make first second h k (Err a) (Ok b) d r i m = absurd i
  made-pair p q source us mid make first second h k (Ok a) (Err b) d r i m = absurd i
  made-pair p q source us mid make first second h k a (Err b) (Ok d) r i m = absurd m
  made-pair p q source us mid make first second h k (Ok a) (Ok b) (Err d) r i m = rw m tt
  made-pair p q source us mid make first second h k (Ok a) (Ok b) (Ok d) r i m =
      subst (λ z. Gives s us (kept d).0 (terminals source z)) (sym (m.1 ∙ i.1.1))
      (finish s q us r.0 (terminals source (seen a).1) (make (first (seen a).0)) (second (seen a).0) (kept d).0
      (goes s p us mid r.0 (q ∷ []) (λ ss g. front s ss (make g.0 g.1.0) g.1.1) (first (seen a).0) h r.1.0) r.1.1 (m.0 ∙ ap₂ complete i.0 i.1.0 ∙ sym (k (seen a).0)))

  pub made-shorter : (n most : ℕ) → n < most → (last : Result Y Stop) (parts : Result X Stop) (whole : Result Z Stop) → IfOk last (λ y. length (seen y).1 ≤ n)
      → IsBeside view seen f parts last → Makes kept completed whole parts → IfOk whole (λ z. length (kept z).1 < most)
  made-shorter n most k last parts (Err d) h i m = tt
  made-shorter n most k (Err a) (Ok b) (Ok d) h i m = absurd i
  made-shorter n most k a (Err b) (Ok d) h i m = absurd m
  made-shorter n most k (Ok a) (Ok b) (Ok d) h i m = let o = ap length m.1 in let p = ap length i.1.1 in omega (arith, o, p, h, k)

-- what is read beside a part leaves as many tokens
module _ {F U X Y : Type 0} (view : X → (F × U) × List Token) (seen : Y → U × List Token) (f : F) where
  pub beside-shorter : (n most : ℕ) → n ≤ most → (last : Result Y Stop) (parts : Result X Stop) → IfOk last (λ y. length (seen y).1 < n) → IsBeside view seen f parts last
      → IfOk parts (λ x. length (view x).1 < most)
  beside-shorter n most k last (Err b) h i = tt
  beside-shorter n most k (Err a) (Ok b) h i = absurd i
  beside-shorter n most k (Ok a) (Ok b) h i = let p = ap length i.1.1 in omega (arith, p, h, k)

-- the signs of an exponent and what stands behind them
pub exponent-reads : {F U X Y : Type 0} (source : List ℕ) (ts : List Token) (f : F) (mid : List Token) (signs : F → List Signed) (operand : U → Postfix)
    (view : X → (F × U) × List Token) (seen : Y → U × List Token) → IsSigns ts (signs f) mid → (parts : Result X Stop) (last : Result Y Stop)
    → Reads postfix_s source (λ y. (operand (seen y).0, (seen y).1)) last (terminals source mid) → IsBeside view seen f parts last
    → Reads exponent_s source (λ x. (exponent (signs (view x).0.0) (operand (view x).0.1), (view x).1)) parts (terminals source ts)
exponent-reads source ts f mid signs operand view seen s (Err e) (Err d) r i = rw i (exponent-stops source ts (signs f) mid d s r)
exponent-reads source ts f mid signs operand view seen s (Ok x) (Err d) r i = absurd i
exponent-reads source ts f mid signs operand view seen s (Err e) (Ok y) r i = absurd i
exponent-reads source ts f mid signs operand view seen s (Ok x) (Ok y) r i =
    subst (λ (q : List Token). Gives exponent_s (terminals source ts) (exponent (signs (view x).0.0) (operand (view x).0.1)) (terminals source q)) (sym i.1.1)
    (subst (λ a. Gives exponent_s (terminals source ts) (exponent (signs a) (operand (view x).0.1)) (terminals source (seen y).1)) (sym i.0)
    (subst (λ b. Gives exponent_s (terminals source ts) (exponent (signs f) (operand b)) (terminals source (seen y).1)) (sym i.1.0)
    (exponent-gives source ts (signs f) mid (operand (seen y).0) (terminals source (seen y).1) s r)))

-- a mark leaves fewer tokens
pub mark-shorter : {X U : Type 0} (r : Role) (view : X → U × List Token) (most : ℕ) (inner closing : Result X Stop) → IfOk inner (λ x. length (view x).1 < most)
    → Closes r view closing inner → IfOk closing (λ x. length (view x).1 < most)
mark-shorter r view most inner (Err d) h c = tt
mark-shorter r view most (Err a) (Ok d) h c = absurd c
mark-shorter r view most (Ok a) (Ok d) h c = let q = ap length c.1.1.parts in omega (arith, q, h)
