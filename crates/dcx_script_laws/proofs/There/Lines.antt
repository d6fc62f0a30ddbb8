-- Lines, and what the laws say of values.
use Rattle.std.proofs.Common.{◌≡◌, ℕ, ◌≤◌, List, [], ◌∷◌, length, Option, Some, None, Ok, le_refl, arith}
use Rattle.dcx_syntax.specs.Expressions.{Expr, Postfix}
use Rattle.dcx_syntax.specs.Statements.{Line, importing, assign, add_to, set_value, evaluate, prints, repeats, Lines, no_lines, lines}
use Rattle.dcx_script_values.specs.Values.{Value, Values, plain, text, truth, nothing, tuple, list, range, library, expression, constraint, objective, problem, result, end, item, State, Act, ◌>>◌}
use Rattle.dcx_script_state.specs.Declarations.{start}
use Rattle.dcx_signature.specs.Arguments.{Bound}
use Rattle.dcx_elab.specs.Turns.{each_turn}
use Rattle.dcx_elab.specs.Expressions.{expr_means}
use Rattle.dcx_elab.specs.Statements.{only_postfix, right_side, assigned, line_means, lines_mean}
use Rattle.dcx_script_laws.specs.Trees.{HasNodesBelow, HaveNodesBelow, IsThere, GivesThere, AreBoundThere}
use Rattle.dcx_script_laws.proofs.Carried.{Moves, parts}
use Rattle.dcx_script_laws.proofs.CarriedNodes.{step-moves, give-moves, items_through-moves}
use Rattle.dcx_script_laws.proofs.CarriedCalls.{add_values-moves}
use Rattle.dcx_script_laws.proofs.CarriedForms.{expr-moves, postfix-moves}
use Rattle.dcx_script_laws.proofs.CarriedLines.{line-moves, lines-move, each_turn-moves, assigned-moves}
use Rattle.dcx_script_laws.proofs.Bound.{Any, binds-any, bind-any}
use Rattle.dcx_script_laws.proofs.There.Parts.{later-from, Later, Anything, AllBelow, BoundBelow, Fine, Gives, steps, look-gives, bound-fine}
use Rattle.dcx_script_laws.proofs.There.Later.{later_is_carried, later_by_lines, later-same}
use Rattle.dcx_script_laws.proofs.There.Nodes.{step-gives, give-gives, items_through-gives}
use Rattle.dcx_script_laws.proofs.There.Calls.{add_values-gives}
use Rattle.dcx_script_laws.proofs.There.Forms.{expr-gives, postfix-gives}

ruleset growing = (parts, later-from, later-same, later_is_carried, step-moves, give-moves, items_through-moves, add_values-moves, expr-moves, postfix-moves)

module _ (N : ℕ) where
  right_side-gives : (name : List ℕ) (e : Expr) (x : Option Postfix) → Gives N (HasNodesBelow N) (right_side name e x)
  right_side-gives name e (Some x) = postfix-gives N x (Some name)
  right_side-gives name e None = expr-gives N e

  assigned-gives : (name : List ℕ) (e : Expr) → Gives N (HasNodesBelow N) (assigned name e)
  assigned-gives name e s fine = search (right_side-gives name e (only_postfix e), steps, growing)

  assigned-later : (name : List ℕ) (e : Expr) → Moves Later (assigned name e)
  assigned-later name e = assigned-moves Later Any later_by_lines name e

  each_turn-gives : (name : List ℕ) (body : Act (Unit {0})) → Gives N (Anything N) body → Moves Later body → (vs : List Value) → AllBelow N vs → Gives N (Anything N) (each_turn name body vs)
  each_turn-gives name body gives moves [] h s fine = search steps
  each_turn-gives name body gives moves (v ∷ vs) h s fine =
      search (bound-fine, gives, each_turn-gives name body gives moves vs h.1, λ (s t : State). each_turn-moves Later Any later_by_lines name tt body moves vs s t, steps, growing)

  lines-later : (ls : Lines) → Moves Later (lines_mean ls)
  lines-later ls = lines-move Later Any later_by_lines ls (bind-any ls)

  one_after-later : (x : Line) (rest : Lines) → Moves Later (line_means x >> lines_mean rest)
  one_after-later x rest s t h = search (line-moves Later Any later_by_lines x (binds-any x), lines-later, parts)

  one_after-gives : (m n : Act (Unit {0})) → Gives N (Anything N) m → Gives N (Anything N) n → Moves Later n → Gives N (Anything N) (m >> n)
  one_after-gives m n first next moves s fine = search (first, next, moves, steps, growing)

  mutual
    line-gives : (x : Line) → Gives N (Anything N) (line_means x)
    line-gives (importing i) s fine = search (step-gives, bound-fine, steps, growing)
    line-gives (assign n x) s fine = search (step-gives, assigned-gives, assigned-later, bound-fine, steps, growing) depth 8
    line-gives (add_to n place x) s fine = search (step-gives, look-gives, expr-gives, add_values-gives, bound-fine, steps, growing) depth 10
    line-gives (set_value n place x) s fine = search (step-gives, expr-gives, give-gives, steps, growing) depth 10
    line-gives (evaluate x) s fine = search (step-gives, expr-gives, steps, growing)
    line-gives (prints place open_place inner) s fine = search step-gives
    line-gives (repeats place n x first rest) s fine =
        let body = line_means first >> lines_mean rest in
        let moves = one_after-later first rest in
        search (
          step-gives,
          expr-gives,
          items_through-gives,
          each_turn-gives n.name body
              (one_after-gives (line_means first) (lines_mean rest) (line-gives first) (lines-give rest) (lines-later rest)) moves,
          λ (vs : List Value) (s t : State). each_turn-moves Later Any later_by_lines n.name tt body moves vs s t,
          steps,
          growing,
        ) depth 10

    pub lines-give : (ls : Lines) → Gives N (Anything N) (lines_mean ls)
    lines-give no_lines s fine = search steps
    lines-give (lines x rest) s fine = one_after-gives (line_means x) (lines_mean rest) (line-gives x) (lines-give rest) (lines-later rest) s fine

-- ---- more nodes
mutual
  below-more : (m n : ℕ) → m ≤ n → (v : Value) → HasNodesBelow m v → HasNodesBelow n v
  below-more m n le (expression i) h = omega (arith, le, h)
  below-more m n le (constraint c) h = (omega (arith, le, h.0), omega (arith, le, h.1))
  below-more m n le (objective sense i place) h = omega (arith, le, h)
  below-more m n le (tuple vs) h = all-more m n le vs h
  below-more m n le (list vs) h = all-more m n le vs h
  below-more m n le (plain a) h = tt
  below-more m n le (text t) h = tt
  below-more m n le (truth b) h = tt
  below-more m n le nothing h = tt
  below-more m n le (range first by count) h = tt
  below-more m n le (library module_) h = tt
  below-more m n le problem h = tt
  below-more m n le result h = tt

  all-more : (m n : ℕ) → m ≤ n → (vs : Values) → HaveNodesBelow m vs → HaveNodesBelow n vs
  all-more m n le end h = tt
  all-more m n le (item v vs) h = (below-more m n le v h.0, all-more m n le vs h.1)

bound-more : (m n : ℕ) → m ≤ n → (es : Bound) → BoundBelow m es → BoundBelow n es
bound-more m n le [] h = tt
bound-more m n le (e ∷ es) h = (below-more m n le e.1 h.0, bound-more m n le es h.1)

-- ---- the laws: the first nodes are all that there are in the end
later : (x : Expr) (s t : State) (v : Value) → expr_means x s ≡ Ok (v, t) → length s.nodes ≤ length t.nodes
later x s t v e = ((expr-moves Later later_is_carried x s s (later-from s)).at v t e).no_fewer

pub expressions_there : (x : Expr) → GivesThere (expr_means x)
expressions_there x s t v bound e =
    let n = length t.nodes in
    let fine : Fine n s = record { names = bound-more (length s.nodes) n (later x s t v e) s.names bound } in
    let r = (expr-gives n x s fine).at v t e (le_refl n) in
    (r.0.names, r.1)

pub lines_there : (ls : Lines) (s : State) → lines_mean ls start ≡ Ok (tt, s) → AreBoundThere s
lines_there ls s e = ((lines-give (length s.nodes) ls start (record { names = tt })).at tt s e (le_refl (length s.nodes))).0.names

pub operands_there : (x y : Expr) (r s t : State) (v w : Value) → AreBoundThere r → expr_means x r ≡ Ok (v, s) → expr_means y s ≡ Ok (w, t) → IsThere t v × IsThere t w
operands_there x y r s t v w bound e f =
    let left = expressions_there x r s v bound e in
    let right = expressions_there y s t w left.0 f in
    (below-more (length s.nodes) (length t.nodes) (later y s t w f) v left.1, right.1)
