-- What lines do to the names.
use Rattle.std.proofs.Common.{◌≡◌, ℕ, Bool, true, false, cond, ◌||◌, List, [], ◌∷◌, ◌++◌, Option, Some, Ok, refl, sym, ap, subst, ◌∙◌, append_assoc, append-nil, true≢false}
use Rattle.std.specs.List.{IsDistinct}
use Rattle.std.specs.Map.{keys_of, lookup}
use Rattle.std.proofs.lemmas.Bool.{or_parts}
use Rattle.indexmap.specs.IndexMap.{insert_entry}
use Rattle.dcx_point.specs.Pairs.{same_name}
use Rattle.dcx_point.proofs.Puts.{same_name-refl, same_name-true}
use Rattle.dcx_syntax.specs.Expressions.{Expr, Postfix, comprehension}
use Rattle.dcx_syntax.specs.Statements.{Line, importing, assign, add_to, set_value, evaluate, prints, repeats, Lines, no_lines, lines}
use Rattle.dcx_script_values.specs.Values.{Value, State, Act, step}
use Rattle.dcx_script_state.specs.Declarations.{start, give}
use Rattle.dcx_signature.specs.Turns.{items_through}
use Rattle.dcx_operators.specs.Operators.{add_values}
use Rattle.dcx_elab.specs.Expressions.{expr_means, postfix_means, primary_means}
use Rattle.dcx_elab.specs.Turns.{turn, turns}
use Rattle.dcx_elab.specs.Statements.{bound_name, line_means, lines_mean}
use Rattle.dcx_elab.specs.Laws.{HasDistinctNames, KeepsNamesDistinct}
use Rattle.dcx_elab.proofs.Turned.{insert-distinct}
use Rattle.dcx_script_laws.specs.Bindings.{LeavesNames, HoldsForExpressions, HoldsForBindings, binds, one_binds}
use Rattle.dcx_script_laws.proofs.Carried.{Moves, ok-moved}
use Rattle.dcx_script_laws.proofs.CarriedNodes.{step-moves, give-moves, items_through-moves}
use Rattle.dcx_script_laws.proofs.CarriedCalls.{add_values-moves}
use Rattle.dcx_script_laws.proofs.CarriedForms.{expr-moves, postfix-moves, primary-moves, turn-moves, turns-moves}
use Rattle.dcx_script_laws.proofs.CarriedLines.{IsCarriedByLines, by_expressions, BindsOnly, BindOnly, line-moves, lines-move}
use Rattle.dcx_script_laws.proofs.Unbound.{SameNames, names_are_carried}

-- ---- expressions
leaves : {A : Type 0} (m : Act A) → Moves SameNames m → LeavesNames m
leaves m moves s t x = (moves s s refl).at x t

leaves-distinct : {A : Type 0} (m : Act A) → LeavesNames m → KeepsNamesDistinct m
leaves-distinct m same s t x d e = subst (λ (ns : List (List ℕ × Value)). IsDistinct same_name (keys_of ns)) (sym (same s t x e)) d

expression-leaves : (x : Expr) → LeavesNames (expr_means x)
expression-leaves x = leaves (expr_means x) (expr-moves SameNames names_are_carried x)

right_side-leaves : (target : Option (List ℕ)) (x : Postfix) → LeavesNames (postfix_means target x)
right_side-leaves target x = leaves (postfix_means target x) (postfix-moves SameNames names_are_carried x target)

pub expressions_hold : HoldsForExpressions
expressions_hold = record {
  expressions = expression-leaves;
  right_sides = right_side-leaves;
  comprehensions = λ place for_place element source n. let x = comprehension place element for_place n source in leaves (primary_means x) (primary-moves SameNames names_are_carried x);
  all_turns = λ place first name element xs vs.
      leaves (turns place first name (expr_means element) xs vs) (turns-moves SameNames names_are_carried place first name (expr_means element) (expr-moves SameNames names_are_carried element) xs vs);
  one_turn = λ first name element v. leaves (turn first name (expr_means element) v)
      (turn-moves SameNames names_are_carried first name (expr_means element) v (expr-moves SameNames names_are_carried element));
  distinct = λ x. leaves-distinct (expr_means x) (expression-leaves x);
  right_sides_distinct = λ target x. leaves-distinct (postfix_means target x) (right_side-leaves target x);
}

-- ---- relations that ask of names alone
module _ (R : State → State → Type 0) (by_names : (s t u : State) → R s t → u.names ≡ t.names → R s u) where
  -- what leaves the names as they were
  alike : {A : Type 0} (m : Act A) → Moves SameNames m → Moves R m
  alike m moves s t h = record { at = λ x u e. by_names s t u h ((moves t t refl).at x u e) }

  pub by_bindings : (P : List ℕ → Type 0) → ((s t : State) (name : List ℕ) (v : Value) → P name → R s t → R s (record t { names = insert_entry same_name t.names name v })) → IsCarriedByLines R P
  by_bindings P bound = record {
    steps = λ place. alike (step place) (step-moves SameNames names_are_carried place);
    expressions = λ x. alike (expr_means x) (expr-moves SameNames names_are_carried x);
    calls = λ x target. alike (postfix_means target x) (postfix-moves SameNames names_are_carried x target);
    sums = λ sign place v w. alike (add_values sign place v w) (add_values-moves SameNames names_are_carried sign place v w);
    values = λ place v r. alike (give place v r) (give-moves SameNames names_are_carried place v r);
    items = λ place v. alike (items_through place v) (items_through-moves SameNames names_are_carried place v);
    bindings = λ name v may s t h. ok-moved R s _ tt (bound s t name v may h);
  }

-- ---- no name twice
abbrev Distinct : State → State → Type 0
Distinct s t = HasDistinctNames s → HasDistinctNames t

abbrev pub Any : List ℕ → Type 0
Any name = Unit {0}

mutual
  pub binds-any : (x : Line) → BindsOnly Any x
  binds-any (importing i) = tt
  binds-any (assign n x) = tt
  binds-any (add_to n place x) = tt
  binds-any (set_value n place x) = tt
  binds-any (evaluate x) = tt
  binds-any (prints place open_place inner) = tt
  binds-any (repeats place n x first rest) = (tt, binds-any first, bind-any rest)

  pub bind-any : (ls : Lines) → BindOnly Any ls
  bind-any no_lines = tt
  bind-any (lines x rest) = (binds-any x, bind-any rest)

distinct_is_carried : IsCarriedByLines Distinct Any
distinct_is_carried = by_bindings Distinct (λ s t u h names d. subst (λ (ns : List (List ℕ × Value)). IsDistinct same_name (keys_of ns)) (sym names) (h d)) Any
    (λ s t name v may h d. insert-distinct t.names name v (h d))

distinct : (ls : Lines) (s t : State) (x : Unit {0}) → HasDistinctNames s → lines_mean ls s ≡ Ok (x, t) → HasDistinctNames t
distinct ls s t x d e = (lines-move Distinct Any distinct_is_carried ls (bind-any ls) s s (λ h. h)).at x t e d

-- ---- other names
other-name : (names : List (List ℕ × Value)) (name other : List ℕ) (v : Value) → same_name other name ≡ false
    → lookup (same_name other) (insert_entry same_name names name v) ≡ lookup (same_name other) names
other-name [] name other v ne = rw ne refl
other-name (e ∷ es) name other v ne = by (other-name es name other v ne) (same_name name e.0) refl
  where
    by : lookup (same_name other) (insert_entry same_name es name v) ≡ lookup (same_name other) es → (t : Bool) → same_name name e.0 ≡ t →
        lookup (same_name other) (cond t ((e.0, v) ∷ es) (e ∷ insert_entry same_name es name v)) ≡ cond (same_name other e.0) (Some e.1) (lookup (same_name other) es)
    by rest true p = let unlike : same_name other e.0 ≡ false = ap (same_name other) (sym (same_name-true name e.0 p)) ∙ ne in rw unlike refl
    by rest false p = ap (λ r. cond (same_name other e.0) (Some e.1) r) rest

abbrev SameAt : List ℕ → State → State → Type 0
SameAt name s t = lookup (same_name name) t.names ≡ lookup (same_name name) s.names

abbrev Other : List ℕ → List ℕ → Type 0
Other name other = same_name name other ≡ false

mutual
  binds-others : (name : List ℕ) (x : Line) → binds name x ≡ false → BindsOnly (Other name) x
  binds-others name (importing i) e = e
  binds-others name (assign n x) e = e
  binds-others name (add_to n place x) e = e
  binds-others name (set_value n place x) e = tt
  binds-others name (evaluate x) e = tt
  binds-others name (prints place open_place inner) e = tt
  binds-others name (repeats place n x first rest) e =
      let p = or_parts (same_name name n.name) (binds name first || one_binds name rest) e in
      let q = or_parts (binds name first) (one_binds name rest) p.1 in
      (p.0, binds-others name first q.0, bind-others name rest q.1)

  bind-others : (name : List ℕ) (ls : Lines) → one_binds name ls ≡ false → BindOnly (Other name) ls
  bind-others name no_lines e = tt
  bind-others name (lines x rest) e = let p = or_parts (binds name x) (one_binds name rest) e in (binds-others name x p.0, bind-others name rest p.1)

others_are_carried : (name : List ℕ) → IsCarriedByLines (SameAt name) (Other name)
others_are_carried name = by_bindings (SameAt name) (λ s t u h names. ap (lookup (same_name name)) names ∙ h) (Other name) (λ s t other v may h. other-name t.names other name v may ∙ h)

-- ---- lines that bind nothing
abbrev NoName : List ℕ → Type 0
NoName name = ⊥

not-bound : (name : List ℕ) → same_name name name ≡ false → ⊥
not-bound name e = true≢false (sym (same_name-refl name) ∙ e)

binds-none : (x : Line) → ((name : List ℕ) → binds name x ≡ false) → BindsOnly NoName x
binds-none (importing i) h = not-bound (bound_name i i.alias) (h (bound_name i i.alias))
binds-none (assign n x) h = not-bound n.name (h n.name)
binds-none (add_to n place x) h = not-bound n.name (h n.name)
binds-none (set_value n place x) h = tt
binds-none (evaluate x) h = tt
binds-none (prints place open_place inner) h = tt
binds-none (repeats place n x first rest) h = absurd (not-bound n.name (or_parts (same_name n.name n.name) (binds n.name first || one_binds n.name rest) (h n.name)).0)

quiet_is_carried : IsCarriedByLines SameNames NoName
quiet_is_carried = by_expressions SameNames names_are_carried NoName (λ name v may s t h. absurd may)

-- ---- names that stay
kept-keys : (names : List (List ℕ × Value)) (name : List ℕ) (v : Value) → (more : List (List ℕ)) × (keys_of (insert_entry same_name names name v) ≡ keys_of names ++ more)
kept-keys [] name v = (name ∷ [], refl)
kept-keys (e ∷ es) name v = by (kept-keys es name v) (same_name name e.0)
  where
    by : (more : List (List ℕ)) × (keys_of (insert_entry same_name es name v) ≡ keys_of es ++ more) → (t : Bool)
        → (more : List (List ℕ)) × (keys_of (cond t ((e.0, v) ∷ es) (e ∷ insert_entry same_name es name v)) ≡ e.0 ∷ (keys_of es ++ more))
    by rest true = ([], ap (λ ks. e.0 ∷ ks) (sym (append-nil (keys_of es))))
    by rest false = (rest.0, ap (λ ks. e.0 ∷ ks) rest.1)

abbrev Stays : State → State → Type 0
Stays s t = (more : List (List ℕ)) × (keys_of t.names ≡ keys_of s.names ++ more)

bound-stays : (s t : State) (name : List ℕ) (v : Value) → Any name → Stays s t → Stays s (record t { names = insert_entry same_name t.names name v })
bound-stays s t name v may h =
    let k = kept-keys t.names name v in
    (h.0 ++ k.0, k.1 ∙ ap (λ ks. ks ++ k.0) h.1 ∙ append_assoc (keys_of s.names) h.0 k.0)

stays_is_carried : IsCarriedByLines Stays Any
stays_is_carried = by_bindings Stays (λ s t u h names. (h.0, ap (λ (ns : List (List ℕ × Value)). keys_of ns) names ∙ h.1)) Any bound-stays

none-distinct : HasDistinctNames start
unfolding IsDistinct
none-distinct = tt

-- ---- all together
pub bindings_hold : HoldsForBindings
bindings_hold = record {
  line = λ l s t x d e. (line-moves Distinct Any distinct_is_carried l (binds-any l) s s (λ h. h)).at x t e d;
  lines = distinct;
  reached = λ ls s e. distinct ls start s tt none-distinct e;
  quiet = λ l none. leaves (line_means l) (line-moves SameNames NoName quiet_is_carried l (binds-none l none));
  others = λ ls name other s t e. (lines-move (SameAt name) (Other name) (others_are_carried name) ls (bind-others name ls other) s s refl).at tt t e;
  stay = λ ls s t e. (lines-move Stays Any stays_is_carried ls (bind-any ls) s s ([], sym (append-nil (keys_of s.names)))).at tt t e;
}
