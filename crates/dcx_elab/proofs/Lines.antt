-- The forms of a line, lines one after the other, the turns of a `for`, and a list that is made longer.
use Rattle.std.proofs.Common.{◌≡◌, ℕ, ◌+◌, ◌≤◌, List, ◌∷◌, map, drop, length, slice_get, Some, Ok, sym, ap, ◌∙◌, Vec, Box, Global}
use Rattle.std.proofs.lemmas.List.{at_drop_all, drop_more}
use Rattle.std.proofs.lemmas.Option.{slice_get_within, get_or_from_slice_get}
use Rattle.indexmap.specs.IndexMap.{insert_entry}
use Rattle.dcx_shape.specs.declared.place.Place.{Place}
use Rattle.dcx_point.specs.Pairs.{same_name}
use Rattle.dcx_syntax.specs.declared.tree.Named.{Named}
use Rattle.dcx_syntax.specs.declared.tree.Expr as code_expr
use Rattle.dcx_syntax.specs.declared.tree.Line as code_line
use Rattle.dcx_syntax.specs.declared.tree.Line.TheOpen.{Line-F}
use Rattle.dcx_syntax.specs.declared.tree.Line.TheVariants as forms
use Rattle.dcx_syntax.specs.Expressions.{Expr}
use Rattle.dcx_syntax.specs.View.{expr_view, line_layer, line_view, lines_of}
use Rattle.dcx_syntax.specs.Statements.{Line, assign, add_to, set_value, repeats, Lines, lines}
use Rattle.dcx_script_values.specs.declared.fault.ElabFault.{ElabFault}
use Rattle.dcx_script_values.specs.Values.{Value, Values, nothing, list as list_value, State, Act, and_then, ◌>>=◌, ◌>>◌, bind, joined, step}
use Rattle.dcx_script_values.specs.View.{Fails}
use Rattle.dcx_script_values.proofs.Acts.{Fails-then, Fails-same, state_after, then_is}
use Rattle.dcx_signature.specs.Turns.{items_through}
use Rattle.dcx_elab.specs.Expressions.{expr_means}
use Rattle.dcx_elab.specs.Turns.{each_turn}
use Rattle.dcx_elab.specs.Statements.{line_means, lines_mean}
use Rattle.dcx_elab.proofs.Names.{bound-twice}

-- ---- the forms of a line
pub line-assign : (l : code_line.Line) (n : Named) (x : code_expr.Expr) → l ≡ forms.Assign n x → line_view l ≡ assign n (expr_view x)
line-assign l n x e = ap line_view e ∙ ap line_view (sym (forms.rolls-Assign n x)) ∙ code_line.fold-roll-Line Line line_layer (Line-F.Assign n x)

pub line-add_to : (l : code_line.Line) (n : Named) (p : Place) (x : code_expr.Expr) → l ≡ forms.AddTo n p x → line_view l ≡ add_to n p (expr_view x)
line-add_to l n p x e = ap line_view e ∙ ap line_view (sym (forms.rolls-AddTo n p x)) ∙ code_line.fold-roll-Line Line line_layer (Line-F.AddTo n p x)

pub line-set_value : (l : code_line.Line) (n : Named) (p : Place) (x : code_expr.Expr) → l ≡ forms.SetValue n p x → line_view l ≡ set_value n p (expr_view x)
line-set_value l n p x e = ap line_view e ∙ ap line_view (sym (forms.rolls-SetValue n p x)) ∙ code_line.fold-roll-Line Line line_layer (Line-F.SetValue n p x)

pub line-repeats : (l : code_line.Line) (p : Place) (n : Named) (x : code_expr.Expr) (first : Box code_line.Line Global) (rest : Vec code_line.Line Global) → l ≡ forms.For p n x first rest
    → line_view l ≡ repeats p n (expr_view x) (line_view first.value) (lines_of (map line_view rest.items))
line-repeats l p n x first rest e = ap line_view e ∙ ap line_view (sym (forms.rolls-For p n x first rest)) ∙ code_line.fold-roll-Line Line line_layer (Line-F.For p n x first rest)

-- the turns of a `for`, once it is known through what it goes
pub repeats-is : (p : Place) (n : Named) (x : Expr) (first : Line) (rest : Lines) (v : Value) (vs : List Value) (s t u : State) → step p s ≡ Ok (tt, t)
    → expr_means x t ≡ Ok (v, u) → items_through p v u ≡ Ok (vs, u)
    → line_means (repeats p n x first rest) s ≡ each_turn n.name (lines_mean (lines first rest)) vs u
repeats-is p n x first rest v vs s t u steps gives through =
    then_is (step p s) (λ _. expr_means x >>= λ w. items_through p w >>= λ ws. each_turn n.name (lines_mean (lines first rest)) ws) tt t steps
    ∙ then_is (expr_means x t) (λ w. items_through p w >>= λ ws. each_turn n.name (lines_mean (lines first rest)) ws) v u gives
    ∙ then_is (items_through p v u) (λ ws. each_turn n.name (lines_mean (lines first rest)) ws) vs u through

-- ---- lines
-- the lines from an index on
abbrev pub lines_from : List code_line.Line → ℕ → Lines
lines_from xs i = lines_of (map line_view (drop i xs))

-- ---- the turns of a `for`
-- the body for the items from an index on
abbrev pub turns_from : List ℕ → Line → Lines → List Value → ℕ → Act (Unit {0})
turns_from name first rest vs k = each_turn name (lines_mean (lines first rest)) (drop k vs)

pub drop-item : {A : Type 0} (xs : List A) (k : ℕ) (x : A) → slice_get xs k ≡ Some x → drop k xs ≡ x ∷ drop (k + 1) xs
drop-item xs k x h = drop_more xs k x (slice_get_within xs k x h) ∙ ap (λ y. y ∷ drop (k + 1) xs) (get_or_from_slice_get xs k x x h)

turns-more : (name : List ℕ) (first : Line) (rest : Lines) (vs : List Value) (k : ℕ) (v : Value) (s : State) → slice_get vs k ≡ Some v
    → turns_from name first rest vs k s ≡ and_then (bind name v s) (λ _. lines_mean (lines first rest) >> turns_from name first rest vs (k + 1))
turns-more name first rest vs k v s h = ap (λ ys. each_turn name (lines_mean (lines first rest)) ys s) (drop-item vs k v h)

-- an item is bound, and the body is to be carried out
turns-bound : (name : List ℕ) (first : Line) (rest : Lines) (vs : List Value) (k : ℕ) (v : Value) (s t : State) → slice_get vs k ≡ Some v → bind name v s ≡ Ok (tt, t)
    → turns_from name first rest vs k s ≡ and_then (and_then (line_means first t) (λ _. lines_mean rest)) (λ _. turns_from name first rest vs (k + 1))
turns-bound name first rest vs k v s t h binds =
    turns-more name first rest vs k v s h ∙ then_is (bind name v s) (λ _. lines_mean (lines first rest) >> turns_from name first rest vs (k + 1)) tt t binds

-- the first line of the body is carried out
turns-begun : (name : List ℕ) (first : Line) (rest : Lines) (vs : List Value) (k : ℕ) (v : Value) (s t u : State) → slice_get vs k ≡ Some v
    → bind name v s ≡ Ok (tt, t) → line_means first t ≡ Ok (tt, u)
    → turns_from name first rest vs k s ≡ and_then (lines_mean rest u) (λ _. turns_from name first rest vs (k + 1))
turns-begun name first rest vs k v s t u h binds begins =
    turns-bound name first rest vs k v s t h binds
    ∙ ap (λ r. and_then r (λ _. turns_from name first rest vs (k + 1))) (then_is (line_means first t) (λ _. lines_mean rest) tt u begins)

pub turns-next : (name : List ℕ) (first : Line) (rest : Lines) (vs : List Value) (k : ℕ) (v : Value) (s t u w : State) → slice_get vs k ≡ Some v
    → bind name v s ≡ Ok (tt, t) → line_means first t ≡ Ok (tt, u)
    → lines_mean rest u ≡ Ok (tt, w) → turns_from name first rest vs k s ≡ turns_from name first rest vs (k + 1) w
turns-next name first rest vs k v s t u w h binds begins ends =
    turns-begun name first rest vs k v s t u h binds begins ∙ then_is (lines_mean rest u) (λ _. turns_from name first rest vs (k + 1)) tt w ends

pub turns-fault : (name : List ℕ) (first : Line) (rest : Lines) (vs : List Value) (k : ℕ) (v : Value) (e : ElabFault) (s t : State) → slice_get vs k ≡ Some v → bind name v s ≡ Ok (tt, t)
    → Fails e (line_means first t) → Fails e (turns_from name first rest vs k s)
turns-fault name first rest vs k v e s t h binds fails =
    Fails-same e _ (turns_from name first rest vs k s) (turns-bound name first rest vs k v s t h binds)
    (Fails-then e (and_then (line_means first t) (λ _. lines_mean rest)) (λ _. turns_from name first rest vs (k + 1)) (Fails-then e (line_means first t) (λ _. lines_mean rest) fails))

pub turns-later_fault : (name : List ℕ) (first : Line) (rest : Lines) (vs : List Value) (k : ℕ) (v : Value) (e : ElabFault) (s t u : State) → slice_get vs k ≡ Some v → bind name v s ≡ Ok (tt, t)
    → line_means first t ≡ Ok (tt, u) → Fails e (lines_mean rest u) → Fails e (turns_from name first rest vs k s)
turns-later_fault name first rest vs k v e s t u h binds begins fails =
    Fails-same e _ (turns_from name first rest vs k s) (turns-begun name first rest vs k v s t u h binds begins)
    (Fails-then e (lines_mean rest u) (λ _. turns_from name first rest vs (k + 1)) fails)

pub turns-end : (name : List ℕ) (first : Line) (rest : Lines) (vs : List Value) (k : ℕ) (s : State) → length vs ≤ k → turns_from name first rest vs k s ≡ Ok (tt, s)
turns-end name first rest vs k s h = at_drop_all (λ ys. each_turn name (lines_mean (lines first rest)) ys s) vs k h

-- ---- faults
-- ---- a list that is made longer, of which its name lets go meanwhile
pub lengthened : (name : List ℕ) (place : Place) (xs ys zs : Values) (s t : State) → bind name nothing s ≡ Ok (tt, t) → joined place xs ys s ≡ Ok (zs, s)
    → and_then (joined place xs ys s) (λ vs. bind name (list_value vs)) ≡ bind name (list_value zs) t
lengthened name place xs ys zs s t binds joins =
    let is : record s { names = insert_entry same_name s.names name nothing } ≡ t = ap (state_after {A = Unit {0}} t) binds in
    then_is (joined place xs ys s) (λ vs. bind name (list_value vs)) zs s joins
    ∙ ap (λ (ns : List (List ℕ × Value)). Ok (tt, record s { names = ns })) (sym (bound-twice s.names name nothing (list_value zs)))
    ∙ ap (bind name (list_value zs)) is
