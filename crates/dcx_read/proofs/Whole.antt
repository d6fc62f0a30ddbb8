-- Reading all terminals as one script.
use Rattle.std.proofs.Common.{◌≡◌, ◌⊎◌, inl, inr, List, [], ◌∷◌, ◌++◌, None, Ok, Err, refl, sym, ap, subst, ◌∙◌}
use Rattle.std.proofs.lemmas.List.{append-nil, append_cancel_right}
use Rattle.dcx_shape.specs.declared.place.Place.{Place}
use Rattle.dcx_syntax.specs.declared.tree.Module.TheVariants.{Numpy}
use Rattle.dcx_syntax.specs.Terminal.{Terminal}
use Rattle.dcx_syntax.specs.Expressions.{Expr, expr, no_comparison, Sum, sum, no_addition, Term, term, no_scaling, Factor, factor, Power, power_of, no_power, exponent}
use Rattle.dcx_syntax.specs.Expressions.{Postfix, postfix, no_trailer, no_args, args_end, by_place, no_index, at, absent, no_step, none_at, no_items, items_end}
use Rattle.dcx_syntax.specs.Statements.{nothing, evaluate, Lines, no_lines, lines_text}
use Rattle.dcx_read.specs.Reading.{Forest, Read, read}
use Rattle.dcx_read.specs.Moves.{Symbol, lines_s, Tree, trees, grammar}
use Rattle.dcx_read.specs.Moves as moves
use Rattle.dcx_read.specs.Steps.{Gives, StopsAt}
use Rattle.dcx_read.specs.Whole.{IsUnexpected, IsScript}
use Rattle.dcx_read.proofs.Sound.{SpelledBy, read-sound}
use Rattle.dcx_read.proofs.Viable.{Viable, read-viable}
use Rattle.dcx_read.proofs.Local.{Blocks, read-blocks}
use Rattle.dcx_read.proofs.Complete.{faithful, read-complete}
use Rattle.dcx_read.proofs.TokenSets.{sets}
use Rattle.dcx_read.proofs.Text.{text}
use Rattle.dcx_read.proofs.Decided.{decided}

somewhere : Place
somewhere = record { line = 1; column = 1 }

some_postfix : Postfix
some_postfix = postfix (none_at somewhere) no_trailer

some_power : Power
some_power = power_of some_postfix no_power

some_factor : Factor
some_factor = factor [] some_power

some_term : Term
some_term = term some_factor no_scaling

some_sum : Sum
some_sum = sum some_term no_addition

some_expr : Expr
some_expr = expr some_sum no_comparison

some : (s : Symbol) → Tree s
some moves.expr_s = some_expr
some moves.compared_s = no_comparison
some moves.sum_s = some_sum
some moves.added_s = no_addition
some moves.term_s = some_term
some moves.scaled_s = no_scaling
some moves.factor_s = some_factor
some moves.power_s = some_power
some moves.raised_s = no_power
some moves.exponent_s = exponent [] some_postfix
some moves.postfix_s = some_postfix
some moves.trailers_s = no_trailer
some moves.args_s = no_args
some moves.more_args_s = args_end
some moves.arg_s = by_place some_expr
some moves.after_name_s = moves.gets some_expr
some moves.rest_s = moves.no_rest
some moves.indices_s = no_index
some moves.index_s = at some_expr
some moves.after_index_s = moves.no_slice
some moves.optional_s = absent
some moves.step_s = no_step
some moves.primary_s = none_at somewhere
some moves.in_round_s = moves.round_empty
some moves.after_round_s = moves.round_closed
some moves.in_square_s = moves.square_empty
some moves.after_square_s = moves.square_lists items_end
some moves.items_s = no_items
some moves.more_items_s = items_end
some moves.name_s = record { name = []; place = somewhere }
some moves.opens_s = somewhere
some (moves.closes_s b) = tt
some moves.colon_s = tt
some moves.in_s = tt
some moves.newline_s = tt
some moves.indent_s = tt
some moves.dedent_s = tt
some moves.module_s = record { which = Numpy; place = somewhere }
some moves.alias_s = None
some moves.balanced_s = nothing
some moves.after_first_s = moves.begins moves.no_rest
some moves.after_dot_s = moves.value_gets somewhere some_expr
some moves.line_s = evaluate some_expr
some moves.lines_s = no_lines

pub alone : Lines → Forest trees (lines_s ∷ [])
alone x = (x, tt)

pub done : Forest trees (lines_s ∷ []) → Read grammar (lines_s ∷ [])
done f = Ok f

pub stuck : List Terminal → Read grammar (lines_s ∷ [])
stuck rest = Err rest

complete : (x : Lines) (us : List Terminal) → lines_text x ≡ us → read grammar us (lines_s ∷ []) ≡ done (alone x)
unfolding alone done
complete x us e = read-complete grammar text sets decided us (lines_s ∷ []) (x, tt) (append-nil (lines_text x) ∙ e) (λ k h. refl, tt)

sound : (x : Lines) (us : List Terminal) → read grammar us (lines_s ∷ []) ≡ done (alone x) → lines_text x ≡ us
unfolding alone done
sound x us e = sym (append-nil (lines_text x))
    ∙ subst (λ (r : Read grammar (lines_s ∷ [])). SpelledBy grammar text us (lines_s ∷ []) r) e (read-sound grammar text (faithful grammar text sets decided) us (lines_s ∷ []))

one-tree : (x y : Lines) (us : List Terminal) → read grammar us (lines_s ∷ []) ≡ done (alone x) → lines_text y ≡ us → y ≡ x
unfolding alone done
one-tree x y us e h =
    let k : done (alone y) ≡ done (alone x) = sym (complete y us h) ∙ e in
    let u : alone y ≡ alone x = cc in
    ap (λ (f : Forest trees (lines_s ∷ [])). f.0) u

pub one : (x y : Lines) → lines_text x ≡ lines_text y → x ≡ y
one x y e = one-tree y x (lines_text y) (complete y (lines_text y) refl) e

never-so : {A : Type 0} (f : Forest trees (lines_s ∷ [])) (rest : List Terminal) → done f ≡ stuck rest → A
unfolding done stuck
never-so f rest e = absurd cc

same-front : (us f g rest : List Terminal) → us ≡ f ++ rest → us ≡ g ++ rest → f ≡ g
same-front us f g rest e h = append_cancel_right f g rest (sym e ∙ h)

pub unexpected : (us rest : List Terminal) → read grammar us (lines_s ∷ []) ≡ stuck rest → IsUnexpected us rest
unfolding stuck
unexpected us [] e =
    let b = subst (λ (r : Read grammar (lines_s ∷ [])). Viable grammar text us (lines_s ∷ []) r) e (read-viable grammar text (faithful grammar text sets decided) some us (lines_s ∷ [])) in
    record {
      front = b.front;
      parts = b.parts;
      tree = b.trees.0;
      more = b.more;
      begun = sym (append-nil (lines_text b.trees.0)) ∙ b.begun;
      never = λ x h. never-so (alone x) [] (sym (complete x us (h ∙ sym (b.parts ∙ append-nil b.front))) ∙ e);
    }
unexpected us (u ∷ rest) e =
    let b = subst (λ (r : Read grammar (lines_s ∷ [])). Viable grammar text us (lines_s ∷ []) r) e (read-viable grammar text (faithful grammar text sets decided) some us (lines_s ∷ [])) in
    let k = subst (λ (r : Read grammar (lines_s ∷ [])). Blocks grammar (lines_s ∷ []) us r) e (read-blocks grammar us (lines_s ∷ [])) in
    let f : b.front ≡ k.0 = same-front us b.front k.0 (u ∷ rest) b.parts k.1 in
    record {
      front = b.front;
      parts = b.parts;
      tree = b.trees.0;
      more = b.more;
      begun = sym (append-nil (lines_text b.trees.0)) ∙ b.begun;
      never = λ x h. never-so (alone x) (u ∷ h.0) (sym (complete x (k.0 ++ u ∷ h.0) (h.1 ∙ ap (λ (y : List Terminal). y ++ u ∷ h.0) f)) ∙ k.2 h.0);
    }

pub script : (us : List Terminal) (x : Lines) → read grammar us (lines_s ∷ []) ≡ done (alone x) → IsScript us x
script us x e = record { spelled = sound x us e; only = λ y h. one-tree x y us e h }

decided-as : (us : List Terminal) (r : Read grammar (lines_s ∷ [])) → read grammar us (lines_s ∷ []) ≡ r → ((x : Lines) × IsScript us x) ⊎ ((rest : List Terminal) × IsUnexpected us rest)
unfolding alone done stuck
decided-as us (Ok f) e = inl (f.0, script us f.0 e)
decided-as us (Err rest) e = inr (rest, unexpected us rest e)

pub decided-whole : (us : List Terminal) → ((x : Lines) × IsScript us x) ⊎ ((rest : List Terminal) × IsUnexpected us rest)
decided-whole us = decided-as us (read grammar us (lines_s ∷ [])) refl

pub apart : (us rest : List Terminal) (x : Lines) → IsUnexpected us rest → lines_text x ≡ us → ⊥
apart us [] x u e = u.never x (e ∙ u.parts ∙ append-nil u.front)
apart us (t ∷ rest) x u e = u.never x (rest, e ∙ u.parts)

-- a tree is read, and nothing is left
pub read-whole : (us : List Terminal) (x : Lines) → Gives lines_s us x [] → IsScript us x
unfolding alone done read
read-whole us x g = script us x (g.reads [])

-- a tree is read, and a terminal is left
pub read-more : (us rest : List Terminal) (u : Terminal) (x : Lines) → Gives lines_s us x (u ∷ rest) → IsUnexpected us (u ∷ rest)
unfolding stuck read
read-more us rest u x g = unexpected us (u ∷ rest) (g.reads [])

-- reading stops
pub read-stops : (us rest : List Terminal) → StopsAt lines_s us rest → IsUnexpected us rest
unfolding stuck
read-stops us rest h = unexpected us rest (h.reads [])
