-- The rules of the grammar, as the code takes them: what is read where, by the first token.
use Rattle.std.proofs.Common.{◌≡◌, ℕ, Bool, true, false, List, [], ◌∷◌, ◌++◌, Some, None, Result, Ok, Err, ◌⊎◌, inl, inr, refl, sym, ap, ◌∙◌}
use Rattle.dcx_shape.specs.declared.place.Place.{Place}
use Rattle.dcx_tokens.specs.declared.token.Token.{Token}
use Rattle.dcx_read.specs.declared.role.Role.{Role}
use Rattle.dcx_read.specs.declared.role.Role.TheVariants as roles
use Rattle.dcx_syntax.specs.declared.bracket.Bracket.TheVariants.{Round, Square, Curly}
use Rattle.dcx_syntax.specs.declared.tree.Comparison.{Comparison}
use Rattle.dcx_syntax.specs.declared.tree.Sign.{Sign}
use Rattle.dcx_syntax.specs.declared.tree.Named.{Named}
use Rattle.dcx_syntax.specs.declared.tree.Scaling.{Scaling}
use Rattle.dcx_read.specs.declared.front.Stop.{Stop}
use Rattle.dcx_read.specs.declared.front.Stop.TheVariants.{Memory, At}
use Rattle.dcx_read.specs.Role.{role_of}
use Rattle.dcx_syntax.specs.Terminal.{Terminal, opens, closes, plain, name, signs, comma, colon, in_word, newline, indent, dedent}
use Rattle.dcx_read.specs.Terminals.{terminal, terminal_of, terminals, spelled, named_by}
use Rattle.dcx_syntax.specs.Expressions.{named, no_comparison, no_addition, no_scaling, no_power, no_trailer, no_args, args_end, no_items, items_end, no_index}
use Rattle.dcx_syntax.specs.Expressions.{no_step, absent, compared, added, scaled, raised, attribute, call, indexed, more_indices, step, slice, by_name}
use Rattle.dcx_read.specs.Reading.{Forest, Move, shift, pass, leading, otherwise, on_ok, shifted, read}
use Rattle.dcx_read.specs.Moves.{Symbol, expr_s, compared_s, sum_s, added_s, term_s, scaled_s, factor_s, power_s, raised_s, exponent_s, postfix_s, trailers_s}
use Rattle.dcx_read.specs.Moves.{args_s, more_args_s, arg_s, after_name_s, rest_s, indices_s, index_s, after_index_s, optional_s, step_s, primary_s, in_round_s}
use Rattle.dcx_read.specs.Moves.{after_round_s, in_square_s, after_square_s, items_s, more_items_s, name_s, opens_s, closes_s, colon_s, in_s, newline_s}
use Rattle.dcx_read.specs.Moves.{indent_s, dedent_s, module_s, alias_s, balanced_s, after_first_s, after_dot_s, line_s, lines_s, Tree, trees, move, empty}
use Rattle.dcx_read.specs.Moves.{grammar}
use Rattle.dcx_read.specs.Moves as moves
use Rattle.dcx_read.specs.Steps.{Gives, Progress, Loop, StopsAt, Stops, Front, FrontOf, FrontPair, Lacks, LacksPair, Refuses, begins_expr, starts_expr}
use Rattle.dcx_read.proofs.Complete.{is_shift}
use Rattle.dcx_syntax.specs.Terminal as marks_of
use Rattle.dcx_read.proofs.Progress.{Join, front, twice, pointwise, turns, goes, done}
use Rattle.dcx_read.proofs.Fronts.{front-terminals, Passes, passes}

shifts-reads : (s : Symbol) (u : Terminal) (us rest : List Terminal) (parts : List Symbol) (join : Join s parts) → us ≡ u ∷ rest → move s u ≡ shift (λ ss. parts ++ ss) join
    → (ss : List Symbol) → read grammar us (s ∷ ss) ≡ on_ok (join ss) (read grammar rest (parts ++ ss))
unfolding read
shifts-reads s u us rest parts join e m ss = rw (e, m) refl

-- the first token says what is read
pub shifts : (s : Symbol) (u : Terminal) (us rest : List Terminal) (parts : List Symbol) (join : Join s parts) → us ≡ u ∷ rest → move s u ≡ shift (λ ss. parts ++ ss) join
    → Progress s us rest parts join
shifts s u us rest parts join e m = record { reads = shifts-reads s u us rest parts join e m }

-- a token of this role at the front says what is read
pub item : (s : Symbol) (r : Role) (p : Place) (source : List ℕ) (ts rest : List Token) (parts : List Symbol) (join : Join s parts) → Front r p ts rest
    → ((bytes : List ℕ) → move s (terminal r bytes p) ≡ shift (λ ss. parts ++ ss) join) → Progress s (terminals source ts) (terminals source rest) parts join
item s r p source ts rest parts join f m = let h = front-terminals r p ts rest source f in shifts s (terminal r h.0 p) (terminals source ts) (terminals source rest) parts join h.1 (m h.0)

-- a part leads, where nothing of the symbol's own does
abbrev pub LeadsAt : (s s' : Symbol) (parts : List Symbol) (join : Join s' (s ∷ parts)) → List Terminal → Type 0
LeadsAt s s' parts join [] = Unit {0}
LeadsAt s s' parts join (u ∷ us) = move s' u ≡ leading trees s s' (λ ss. parts ++ ss) join (move s u)

leads-move : (s s' : Symbol) (parts : List Symbol) (join : Join s' (s ∷ parts)) (ss : List Symbol) (u : Terminal) (us : List Terminal) (m : Move trees s)
    → shifted grammar s' ss (leading trees s s' (λ ss. parts ++ ss) join m) (read grammar us) (Err (u ∷ us)) ≡ on_ok (join ss) (shifted grammar s (parts ++ ss) m (read grammar us) (Err (u ∷ us)))
leads-move s s' parts join ss u us (shift push make) = sym (twice (join ss) (make (parts ++ ss)) (read grammar us (push (parts ++ ss))))
leads-move s s' parts join ss u us pass = refl

leads-reads : (s s' : Symbol) (parts : List Symbol) (join : Join s' (s ∷ parts)) → empty s ≡ None → empty s' ≡ None → (us : List Terminal) → LeadsAt s s' parts join us
    → (ss : List Symbol) → read grammar us (s' ∷ ss) ≡ on_ok (join ss) (read grammar us (s ∷ (parts ++ ss)))
unfolding read
leads-reads s s' parts join e e' [] l ss = rw (e, e') refl
leads-reads s s' parts join e e' (u ∷ us) l ss = rw (l, e, e') (leads-move s s' parts join ss u us (move s u))

pub leads : (s s' : Symbol) (parts : List Symbol) (join : Join s' (s ∷ parts)) → empty s ≡ None → empty s' ≡ None → (us : List Terminal) → LeadsAt s s' parts join us
    → Progress s' us us (s ∷ parts) join
leads s s' parts join e e' us l = record { reads = leads-reads s s' parts join e e' us l }

-- a part that always leads
pub always : (s s' : Symbol) (parts : List Symbol) (join : Join s' (s ∷ parts)) → empty s ≡ None → empty s' ≡ None
    → ((u : Terminal) → move s' u ≡ leading trees s s' (λ ss. parts ++ ss) join (move s u)) → (us : List Terminal) → Progress s' us us (s ∷ parts) join
always s s' parts join e e' l [] = leads s s' parts join e e' [] tt
always s s' parts join e e' l (u ∷ us) = leads s s' parts join e e' (u ∷ us) (l u)

leads-by-move : (s s' : Symbol) (parts : List Symbol) (join : Join s' (s ∷ parts)) (ss : List Symbol) (us : List Terminal) (m : Move trees s) (a : _) (b : _) → is_shift m ≡ true
    → shifted grammar s' ss (leading trees s s' (λ ss. parts ++ ss) join m) (read grammar us) a ≡ on_ok (join ss) (shifted grammar s (parts ++ ss) m (read grammar us) b)
leads-by-move s s' parts join ss us (shift push make) a b h = sym (twice (join ss) (make (parts ++ ss)) (read grammar us (push (parts ++ ss))))
leads-by-move s s' parts join ss us pass a b h = absurd cc

leads-by-reads : (s s' : Symbol) (parts : List Symbol) (join : Join s' (s ∷ parts)) (u : Terminal) (us : List Terminal) → is_shift (move s u) ≡ true
    → move s' u ≡ leading trees s s' (λ ss. parts ++ ss) join (move s u) → (ss : List Symbol) → read grammar (u ∷ us) (s' ∷ ss) ≡ on_ok (join ss) (read grammar (u ∷ us) (s ∷ (parts ++ ss)))
unfolding read
leads-by-reads s s' parts join u us h l ss = rw l (leads-by-move s s' parts join ss us (move s u) _ _ h)

-- a part leads, since the first token begins it
pub leads-by : (s s' : Symbol) (parts : List Symbol) (join : Join s' (s ∷ parts)) (u : Terminal) (us : List Terminal) → is_shift (move s u) ≡ true
    → move s' u ≡ leading trees s s' (λ ss. parts ++ ss) join (move s u) → Progress s' (u ∷ us) (u ∷ us) (s ∷ parts) join
leads-by s s' parts join u us h l = record { reads = leads-by-reads s s' parts join u us h l }

ends-reads : (s : Symbol) (x : Tree s) (us : List Terminal) → empty s ≡ Some x → Passes s us → (ss : List Symbol) → read grammar us (s ∷ ss) ≡ on_ok (λ f. front s ss x f) (read grammar us ss)
unfolding read
ends-reads s x [] e m ss = rw e refl
ends-reads s x (u ∷ us) e m ss = rw (m, e) refl

-- nothing begins an s, which may be empty
pub ends : (s : Symbol) (x : Tree s) (us : List Terminal) → empty s ≡ Some x → Passes s us → Gives s us x us
ends s x us e m = record { reads = ends-reads s x us e m }

refused-reads : (s : Symbol) (us : List Terminal) → empty s ≡ None → Passes s us → (ss : List Symbol) → read grammar us (s ∷ ss) ≡ Err us
unfolding read
refused-reads s [] e m ss = rw e refl
refused-reads s (u ∷ us) e m ss = rw (m, e) refl

-- nothing begins an s, which may not be empty
pub refused : (s : Symbol) (us : List Terminal) → empty s ≡ None → Passes s us → StopsAt s us us
refused s us e m = record { reads = refused-reads s us e m }

-- a token of one role, whatever else may follow
pub mark-gives : (s : Symbol) (r : Role) (x : Tree s) (source : List ℕ) (ts rest : List Token) → ((bytes : List ℕ) (p : Place) → move s (terminal r bytes p) ≡ moves.leaf s x)
    → FrontOf r ts rest → Gives s (terminals source ts) x (terminals source rest)
mark-gives s r x source ts rest m f = record { reads = (item s r f.0 source ts rest [] (λ ss g. front s ss x g) f.1 (λ b. m b f.0)).reads }

pub mark-stops : (s : Symbol) (r : Role) (source : List ℕ) (ts : List Token) (e : Stop) → empty s ≡ None → ((q : Role) (bytes : List ℕ) (p : Place) → (q ≡ r → ⊥)
    → move s (terminal q bytes p) ≡ pass) → Refuses r ts e → Stops s source (terminals source ts) e
mark-stops s r source ts Memory none m f = tt
mark-stops s r source ts (At rest) none m f = rw (f.0) (refused s (terminals source ts) none (passes s source (λ q. q ≡ r) ts m f.1))

closes_round-passes : (r : Role) (bytes : List ℕ) (p : Place) → (r ≡ roles.Closes Round → ⊥) → move (closes_s Round) (terminal r bytes p) ≡ pass
closes_round-passes (roles.Closes Round) bytes p n = absurd (n refl)
closes_round-passes r bytes p n = refl

pub closes_round-gives : (source : List ℕ) (ts rest : List Token) → FrontOf (roles.Closes Round) ts rest → Gives (closes_s Round) (terminals source ts) tt (terminals source rest)
closes_round-gives source ts rest f = mark-gives (closes_s Round) (roles.Closes Round) tt source ts rest (λ b p. refl) f

pub closes_round-stops : (source : List ℕ) (ts : List Token) (e : Stop) → Refuses (roles.Closes Round) ts e → Stops (closes_s Round) source (terminals source ts) e
closes_round-stops source ts e f = mark-stops (closes_s Round) (roles.Closes Round) source ts e refl closes_round-passes f

closes_square-passes : (r : Role) (bytes : List ℕ) (p : Place) → (r ≡ roles.Closes Square → ⊥) → move (closes_s Square) (terminal r bytes p) ≡ pass
closes_square-passes (roles.Closes Square) bytes p n = absurd (n refl)
closes_square-passes r bytes p n = refl

pub closes_square-gives : (source : List ℕ) (ts rest : List Token) → FrontOf (roles.Closes Square) ts rest → Gives (closes_s Square) (terminals source ts) tt (terminals source rest)
closes_square-gives source ts rest f = mark-gives (closes_s Square) (roles.Closes Square) tt source ts rest (λ b p. refl) f

pub closes_square-stops : (source : List ℕ) (ts : List Token) (e : Stop) → Refuses (roles.Closes Square) ts e → Stops (closes_s Square) source (terminals source ts) e
closes_square-stops source ts e f = mark-stops (closes_s Square) (roles.Closes Square) source ts e refl closes_square-passes f

in-passes : (r : Role) (bytes : List ℕ) (p : Place) → (r ≡ roles.In → ⊥) → move in_s (terminal r bytes p) ≡ pass
in-passes roles.In bytes p n = absurd (n refl)
in-passes r bytes p n = refl

pub in-gives : (source : List ℕ) (ts rest : List Token) → FrontOf roles.In ts rest → Gives in_s (terminals source ts) tt (terminals source rest)
in-gives source ts rest f = mark-gives in_s roles.In tt source ts rest (λ b p. refl) f

pub in-stops : (source : List ℕ) (ts : List Token) (e : Stop) → Refuses roles.In ts e → Stops in_s source (terminals source ts) e
in-stops source ts e f = mark-stops in_s roles.In source ts e refl in-passes f

colon-passes : (r : Role) (bytes : List ℕ) (p : Place) → (r ≡ roles.Colon → ⊥) → move colon_s (terminal r bytes p) ≡ pass
colon-passes roles.Colon bytes p n = absurd (n refl)
colon-passes r bytes p n = refl

pub colon-gives : (source : List ℕ) (ts rest : List Token) → FrontOf roles.Colon ts rest → Gives colon_s (terminals source ts) tt (terminals source rest)
colon-gives source ts rest f = mark-gives colon_s roles.Colon tt source ts rest (λ b p. refl) f

pub colon-stops : (source : List ℕ) (ts : List Token) (e : Stop) → Refuses roles.Colon ts e → Stops colon_s source (terminals source ts) e
colon-stops source ts e f = mark-stops colon_s roles.Colon source ts e refl colon-passes f

newline-passes : (r : Role) (bytes : List ℕ) (p : Place) → (r ≡ roles.Newline → ⊥) → move newline_s (terminal r bytes p) ≡ pass
newline-passes roles.Newline bytes p n = absurd (n refl)
newline-passes r bytes p n = refl

pub newline-gives : (source : List ℕ) (ts rest : List Token) → FrontOf roles.Newline ts rest → Gives newline_s (terminals source ts) tt (terminals source rest)
newline-gives source ts rest f = mark-gives newline_s roles.Newline tt source ts rest (λ b p. refl) f

pub newline-stops : (source : List ℕ) (ts : List Token) (e : Stop) → Refuses roles.Newline ts e → Stops newline_s source (terminals source ts) e
newline-stops source ts e f = mark-stops newline_s roles.Newline source ts e refl newline-passes f

indent-passes : (r : Role) (bytes : List ℕ) (p : Place) → (r ≡ roles.Indent → ⊥) → move indent_s (terminal r bytes p) ≡ pass
indent-passes roles.Indent bytes p n = absurd (n refl)
indent-passes r bytes p n = refl

pub indent-gives : (source : List ℕ) (ts rest : List Token) → FrontOf roles.Indent ts rest → Gives indent_s (terminals source ts) tt (terminals source rest)
indent-gives source ts rest f = mark-gives indent_s roles.Indent tt source ts rest (λ b p. refl) f

pub indent-stops : (source : List ℕ) (ts : List Token) (e : Stop) → Refuses roles.Indent ts e → Stops indent_s source (terminals source ts) e
indent-stops source ts e f = mark-stops indent_s roles.Indent source ts e refl indent-passes f

dedent-passes : (r : Role) (bytes : List ℕ) (p : Place) → (r ≡ roles.Dedent → ⊥) → move dedent_s (terminal r bytes p) ≡ pass
dedent-passes roles.Dedent bytes p n = absurd (n refl)
dedent-passes r bytes p n = refl

pub dedent-gives : (source : List ℕ) (ts rest : List Token) → FrontOf roles.Dedent ts rest → Gives dedent_s (terminals source ts) tt (terminals source rest)
dedent-gives source ts rest f = mark-gives dedent_s roles.Dedent tt source ts rest (λ b p. refl) f

pub dedent-stops : (source : List ℕ) (ts : List Token) (e : Stop) → Refuses roles.Dedent ts e → Stops dedent_s source (terminals source ts) e
dedent-stops source ts e f = mark-stops dedent_s roles.Dedent source ts e refl dedent-passes f

raised-passes : (r : Role) (bytes : List ℕ) (p : Place) → (r ≡ roles.Power → ⊥) → move raised_s (terminal r bytes p) ≡ pass
raised-passes roles.Power bytes p n = absurd (n refl)
raised-passes r bytes p n = refl

pub raised-ends : (source : List ℕ) (ts : List Token) → Lacks roles.Power ts → Gives raised_s (terminals source ts) no_power (terminals source ts)
raised-ends source ts l = ends raised_s no_power (terminals source ts) refl (passes raised_s source (λ r. r ≡ roles.Power) ts raised-passes l)

more_args-passes : (r : Role) (bytes : List ℕ) (p : Place) → (r ≡ roles.Comma → ⊥) → move more_args_s (terminal r bytes p) ≡ pass
more_args-passes roles.Comma bytes p n = absurd (n refl)
more_args-passes r bytes p n = refl

pub more_args-ends : (source : List ℕ) (ts : List Token) → Lacks roles.Comma ts → Gives more_args_s (terminals source ts) args_end (terminals source ts)
more_args-ends source ts l = ends more_args_s args_end (terminals source ts) refl (passes more_args_s source (λ r. r ≡ roles.Comma) ts more_args-passes l)

more_items-passes : (r : Role) (bytes : List ℕ) (p : Place) → (r ≡ roles.Comma → ⊥) → move more_items_s (terminal r bytes p) ≡ pass
more_items-passes roles.Comma bytes p n = absurd (n refl)
more_items-passes r bytes p n = refl

pub more_items-ends : (source : List ℕ) (ts : List Token) → Lacks roles.Comma ts → Gives more_items_s (terminals source ts) items_end (terminals source ts)
more_items-ends source ts l = ends more_items_s items_end (terminals source ts) refl (passes more_items_s source (λ r. r ≡ roles.Comma) ts more_items-passes l)

indices-passes : (r : Role) (bytes : List ℕ) (p : Place) → (r ≡ roles.Comma → ⊥) → move indices_s (terminal r bytes p) ≡ pass
indices-passes roles.Comma bytes p n = absurd (n refl)
indices-passes r bytes p n = refl

pub indices-ends : (source : List ℕ) (ts : List Token) → Lacks roles.Comma ts → Gives indices_s (terminals source ts) no_index (terminals source ts)
indices-ends source ts l = ends indices_s no_index (terminals source ts) refl (passes indices_s source (λ r. r ≡ roles.Comma) ts indices-passes l)

step-passes : (r : Role) (bytes : List ℕ) (p : Place) → (r ≡ roles.Colon → ⊥) → move step_s (terminal r bytes p) ≡ pass
step-passes roles.Colon bytes p n = absurd (n refl)
step-passes r bytes p n = refl

pub step-ends : (source : List ℕ) (ts : List Token) → Lacks roles.Colon ts → Gives step_s (terminals source ts) no_step (terminals source ts)
step-ends source ts l = ends step_s no_step (terminals source ts) refl (passes step_s source (λ r. r ≡ roles.Colon) ts step-passes l)

after_index-passes : (r : Role) (bytes : List ℕ) (p : Place) → (r ≡ roles.Colon → ⊥) → move after_index_s (terminal r bytes p) ≡ pass
after_index-passes roles.Colon bytes p n = absurd (n refl)
after_index-passes r bytes p n = refl

pub after_index-ends : (source : List ℕ) (ts : List Token) → Lacks roles.Colon ts → Gives after_index_s (terminals source ts) moves.no_slice (terminals source ts)
after_index-ends source ts l = ends after_index_s moves.no_slice (terminals source ts) refl (passes after_index_s source (λ r. r ≡ roles.Colon) ts after_index-passes l)

compared-passes : (r : Role) (bytes : List ℕ) (p : Place) → ((v : Comparison) × (r ≡ roles.Compares v) → ⊥) → move compared_s (terminal r bytes p) ≡ pass
compared-passes (roles.Compares v) bytes p n = absurd (n (v, refl))
compared-passes r bytes p n = refl

pub compared-ends : (source : List ℕ) (ts : List Token) → ((v : Comparison) → Lacks (roles.Compares v) ts) → Gives compared_s (terminals source ts) no_comparison (terminals source ts)
compared-ends source ts l = ends compared_s no_comparison (terminals source ts) refl (passes compared_s source (λ r. (v : Comparison) × (r ≡ roles.Compares v)) ts compared-passes
    (λ t rest e b. l b.0 t rest e b.1))

added-passes : (r : Role) (bytes : List ℕ) (p : Place) → ((v : Sign) × (r ≡ roles.Signs v) → ⊥) → move added_s (terminal r bytes p) ≡ pass
added-passes (roles.Signs v) bytes p n = absurd (n (v, refl))
added-passes r bytes p n = refl

pub added-ends : (source : List ℕ) (ts : List Token) → ((v : Sign) → Lacks (roles.Signs v) ts) → Gives added_s (terminals source ts) no_addition (terminals source ts)
added-ends source ts l = ends added_s no_addition (terminals source ts) refl (passes added_s source (λ r. (v : Sign) × (r ≡ roles.Signs v)) ts added-passes (λ t rest e b. l b.0 t rest e b.1))

scaled-passes : (r : Role) (bytes : List ℕ) (p : Place) → ((v : Scaling) × (r ≡ roles.Scales v) → ⊥) → move scaled_s (terminal r bytes p) ≡ pass
scaled-passes (roles.Scales v) bytes p n = absurd (n (v, refl))
scaled-passes r bytes p n = refl

pub scaled-ends : (source : List ℕ) (ts : List Token) → ((v : Scaling) → Lacks (roles.Scales v) ts) → Gives scaled_s (terminals source ts) no_scaling (terminals source ts)
scaled-ends source ts l = ends scaled_s no_scaling (terminals source ts) refl (passes scaled_s source (λ r. (v : Scaling) × (r ≡ roles.Scales v)) ts scaled-passes (λ t rest e b. l b.0 t rest e b.1))

pub expr-rule : (us : List Terminal) → Progress expr_s us us (sum_s ∷ compared_s ∷ []) moves.expr_join
expr-rule us = always sum_s expr_s (compared_s ∷ []) moves.expr_join refl refl (λ u. refl) us

pub sum-rule : (us : List Terminal) → Progress sum_s us us (term_s ∷ added_s ∷ []) moves.sum_join
sum-rule us = always term_s sum_s (added_s ∷ []) moves.sum_join refl refl (λ u. refl) us

pub term-rule : (us : List Terminal) → Progress term_s us us (factor_s ∷ scaled_s ∷ []) moves.term_join
term-rule us = always factor_s term_s (scaled_s ∷ []) moves.term_join refl refl (λ u. refl) us

pub power-rule : (us : List Terminal) → Progress power_s us us (postfix_s ∷ raised_s ∷ []) moves.power_join
power-rule us = always postfix_s power_s (raised_s ∷ []) moves.power_join refl refl (λ u. refl) us

pub postfix-rule : (us : List Terminal) → Progress postfix_s us us (primary_s ∷ trailers_s ∷ []) moves.postfix_join
postfix-rule us = always primary_s postfix_s (trailers_s ∷ []) moves.postfix_join refl refl (λ u. refl) us

-- the items of repetitions
pub compared-item : (source : List ℕ) (ts rest : List Token) (c : Comparison) (p : Place) → Front (roles.Compares c) p ts rest → Progress compared_s (terminals source ts)
    (terminals source rest) (sum_s ∷ compared_s ∷ []) (λ ss f. front compared_s ss (compared c p f.0 f.1.0) f.1.1)
compared-item source ts rest c p h = item compared_s (roles.Compares c) p source ts rest (sum_s ∷ compared_s ∷ []) _ h (λ b. refl)

pub added-item : (source : List ℕ) (ts rest : List Token) (s : Sign) (p : Place) → Front (roles.Signs s) p ts rest → Progress added_s (terminals source ts) (terminals source rest)
    (term_s ∷ added_s ∷ []) (λ ss f. front added_s ss (added s p f.0 f.1.0) f.1.1)
added-item source ts rest s p h = item added_s (roles.Signs s) p source ts rest (term_s ∷ added_s ∷ []) _ h (λ b. refl)

pub scaled-item : (source : List ℕ) (ts rest : List Token) (s : Scaling) (p : Place) → Front (roles.Scales s) p ts rest → Progress scaled_s (terminals source ts)
    (terminals source rest) (factor_s ∷ scaled_s ∷ []) (λ ss f. front scaled_s ss (scaled s p f.0 f.1.0) f.1.1)
scaled-item source ts rest s p h = item scaled_s (roles.Scales s) p source ts rest (factor_s ∷ scaled_s ∷ []) _ h (λ b. refl)

pub raised-item : (source : List ℕ) (ts rest : List Token) (p : Place) → Front roles.Power p ts rest → Progress raised_s (terminals source ts) (terminals source rest)
    (exponent_s ∷ raised_s ∷ []) (λ ss f. front raised_s ss (raised p f.0 f.1.0) f.1.1)
raised-item source ts rest p h = item raised_s roles.Power p source ts rest (exponent_s ∷ raised_s ∷ []) _ h (λ b. refl)

pub indices-item : (source : List ℕ) (ts rest : List Token) (p : Place) → Front roles.Comma p ts rest → Progress indices_s (terminals source ts) (terminals source rest)
    (index_s ∷ indices_s ∷ []) (λ ss f. front indices_s ss (more_indices f.0 f.1.0) f.1.1)
indices-item source ts rest p h = item indices_s roles.Comma p source ts rest (index_s ∷ indices_s ∷ []) _ h (λ b. refl)

pub attribute-item : (source : List ℕ) (ts rest : List Token) (p : Place) → Front roles.Dot p ts rest → Progress trailers_s (terminals source ts) (terminals source rest)
    (name_s ∷ trailers_s ∷ []) (λ ss f. front trailers_s ss (attribute f.0 f.1.0) f.1.1)
attribute-item source ts rest p h = item trailers_s roles.Dot p source ts rest (name_s ∷ trailers_s ∷ []) _ h (λ b. refl)

pub call-item : (source : List ℕ) (ts rest : List Token) (p : Place) → Front (roles.Opens Round) p ts rest → Progress trailers_s (terminals source ts) (terminals source rest)
    (args_s ∷ closes_s Round ∷ trailers_s ∷ []) (λ ss f. front trailers_s ss (call p f.0 f.1.1.0) f.1.1.1)
call-item source ts rest p h = item trailers_s (roles.Opens Round) p source ts rest (args_s ∷ closes_s Round ∷ trailers_s ∷ []) _ h (λ b. refl)

pub indexed-item : (source : List ℕ) (ts rest : List Token) (p : Place) → Front (roles.Opens Square) p ts rest → Progress trailers_s (terminals source ts) (terminals source rest)
    (index_s ∷ indices_s ∷ closes_s Square ∷ trailers_s ∷ []) (λ ss f. front trailers_s ss (indexed p f.0 f.1.0 f.1.1.1.0) f.1.1.1.1)
indexed-item source ts rest p h = item trailers_s (roles.Opens Square) p source ts rest (index_s ∷ indices_s ∷ closes_s Square ∷ trailers_s ∷ []) _ h (λ b. refl)

pub args-comma : (source : List ℕ) (ts rest : List Token) (p : Place) → Front roles.Comma p ts rest → Progress more_args_s (terminals source ts) (terminals source rest)
    (args_s ∷ []) (λ ss f. front more_args_s ss (moves.args_behind f.0) f.1)
args-comma source ts rest p h = item more_args_s roles.Comma p source ts rest (args_s ∷ []) _ h (λ b. refl)

pub items-comma : (source : List ℕ) (ts rest : List Token) (p : Place) → Front roles.Comma p ts rest → Progress more_items_s (terminals source ts) (terminals source rest)
    (items_s ∷ []) (λ ss f. front more_items_s ss (moves.items_behind f.0) f.1)
items-comma source ts rest p h = item more_items_s roles.Comma p source ts rest (items_s ∷ []) _ h (λ b. refl)

pub step-colon : (source : List ℕ) (ts rest : List Token) (p : Place) → Front roles.Colon p ts rest → Progress step_s (terminals source ts) (terminals source rest)
    (optional_s ∷ []) (λ ss f. front step_s ss (step f.0) f.1)
step-colon source ts rest p h = item step_s roles.Colon p source ts rest (optional_s ∷ []) _ h (λ b. refl)

pub index-colon : (source : List ℕ) (ts rest : List Token) (p : Place) → Front roles.Colon p ts rest → Progress index_s (terminals source ts) (terminals source rest)
    (optional_s ∷ step_s ∷ []) (λ ss f. front index_s ss (slice absent f.0 f.1.0) f.1.1)
index-colon source ts rest p h = item index_s roles.Colon p source ts rest (optional_s ∷ step_s ∷ []) _ h (λ b. refl)

pub after_index-colon : (source : List ℕ) (ts rest : List Token) (p : Place) → Front roles.Colon p ts rest → Progress after_index_s (terminals source ts) (terminals source rest)
    (optional_s ∷ step_s ∷ []) (λ ss f. front after_index_s ss (moves.slices f.0 f.1.0) f.1.1)
after_index-colon source ts rest p h = item after_index_s roles.Colon p source ts rest (optional_s ∷ step_s ∷ []) _ h (λ b. refl)

pub after_round-comma : (source : List ℕ) (ts rest : List Token) (p : Place) → Front roles.Comma p ts rest → Progress after_round_s (terminals source ts) (terminals source rest)
    (items_s ∷ closes_s Round ∷ []) (λ ss f. front after_round_s ss (moves.round_goes_on f.0) f.1.1)
after_round-comma source ts rest p h = item after_round_s roles.Comma p source ts rest (items_s ∷ closes_s Round ∷ []) _ h (λ b. refl)

pub after_square-comma : (source : List ℕ) (ts rest : List Token) (p : Place) → Front roles.Comma p ts rest → Progress after_square_s (terminals source ts) (terminals source rest)
    (items_s ∷ closes_s Square ∷ []) (λ ss f. front after_square_s ss (moves.square_lists (moves.items_behind f.0)) f.1.1)
after_square-comma source ts rest p h = item after_square_s roles.Comma p source ts rest (items_s ∷ closes_s Square ∷ []) _ h (λ b. refl)

trailers-role : (r : Role) (bytes : List ℕ) (p : Place) → (r ≡ roles.Dot → ⊥) → (r ≡ roles.Opens Round → ⊥) → (r ≡ roles.Opens Square → ⊥) → move trailers_s (terminal r bytes p) ≡ pass
trailers-role roles.Dot bytes p a b c = absurd (a refl)
trailers-role (roles.Opens Round) bytes p a b c = absurd (b refl)
trailers-role (roles.Opens Square) bytes p a b c = absurd (c refl)
trailers-role (roles.Opens Curly) bytes p a b c = refl
trailers-role r bytes p a b c = refl

trailers-pass : (source : List ℕ) (ts : List Token) → Lacks roles.Dot ts → Lacks (roles.Opens Round) ts → Lacks (roles.Opens Square) ts → Passes trailers_s (terminals source ts)
trailers-pass source [] a b c = tt
trailers-pass source (t ∷ ts) a b c = trailers-role (role_of t.kind) (spelled source t) t.place (a t ts refl) (b t ts refl) (c t ts refl)

pub trailers-end : (source : List ℕ) (ts : List Token) → Lacks roles.Dot ts → Lacks (roles.Opens Round) ts → Lacks (roles.Opens Square) ts
    → Gives trailers_s (terminals source ts) no_trailer (terminals source ts)
trailers-end source ts a b c = ends trailers_s no_trailer (terminals source ts) refl (trailers-pass source ts a b c)

-- which roles begin an expression, and an argument
expr-starts : (r : Role) (bytes : List ℕ) (p : Place) → is_shift (move expr_s (terminal r bytes p)) ≡ begins_expr r
expr-starts (roles.Opens Round) bytes p = refl
expr-starts (roles.Opens Square) bytes p = refl
expr-starts (roles.Opens Curly) bytes p = refl
expr-starts r bytes p = refl

arg-starts : (r : Role) (bytes : List ℕ) (p : Place) → is_shift (move arg_s (terminal r bytes p)) ≡ begins_expr r
arg-starts (roles.Opens Round) bytes p = refl
arg-starts (roles.Opens Square) bytes p = refl
arg-starts (roles.Opens Curly) bytes p = refl
arg-starts r bytes p = refl

pub leads-nothing : (s s' : Symbol) (parts : List Symbol) (join : Join s' (s ∷ parts)) (m : Move trees s) → is_shift m ≡ false → leading trees s s' (λ ss. parts ++ ss) join m ≡ pass
leads-nothing s s' parts join (shift push make) h = absurd cc
leads-nothing s s' parts join pass h = refl

pub optional-starts : (source : List ℕ) (ts : List Token) → starts_expr ts ≡ true → Progress optional_s (terminals source ts) (terminals source ts) (expr_s ∷ []) moves.optional_join
optional-starts source [] h = absurd cc
optional-starts source (t ∷ ts) h = leads-by expr_s optional_s ([]) moves.optional_join (terminal_of source t) (terminals source ts) (expr-starts (role_of t.kind) (spelled source t) t.place ∙ h) refl

optional-pass : (source : List ℕ) (ts : List Token) → starts_expr ts ≡ false → Passes optional_s (terminals source ts)
optional-pass source [] h = tt
optional-pass source (t ∷ ts) h = leads-nothing expr_s optional_s ([]) moves.optional_join (move expr_s (terminal_of source t)) (expr-starts (role_of t.kind) (spelled source t) t.place ∙ h)

pub optional-none : (source : List ℕ) (ts : List Token) → starts_expr ts ≡ false → Gives optional_s (terminals source ts) absent (terminals source ts)
optional-none source ts h = ends optional_s absent (terminals source ts) refl (optional-pass source ts h)

pub args-starts : (source : List ℕ) (ts : List Token) → starts_expr ts ≡ true → Progress args_s (terminals source ts) (terminals source ts) (arg_s ∷ more_args_s ∷ []) moves.args_join
args-starts source [] h = absurd cc
args-starts source (t ∷ ts) h = leads-by arg_s args_s (more_args_s ∷ []) moves.args_join (terminal_of source t) (terminals source ts) (arg-starts (role_of t.kind) (spelled source t) t.place ∙ h) refl

args-pass : (source : List ℕ) (ts : List Token) → starts_expr ts ≡ false → Passes args_s (terminals source ts)
args-pass source [] h = tt
args-pass source (t ∷ ts) h = leads-nothing arg_s args_s (more_args_s ∷ []) moves.args_join (move arg_s (terminal_of source t)) (arg-starts (role_of t.kind) (spelled source t) t.place ∙ h)

pub args-none : (source : List ℕ) (ts : List Token) → starts_expr ts ≡ false → Gives args_s (terminals source ts) no_args (terminals source ts)
args-none source ts h = ends args_s no_args (terminals source ts) refl (args-pass source ts h)

pub items-starts : (source : List ℕ) (ts : List Token) → starts_expr ts ≡ true → Progress items_s (terminals source ts) (terminals source ts) (expr_s ∷ more_items_s ∷ []) moves.items_join
items-starts source [] h = absurd cc
items-starts source (t ∷ ts) h = leads-by expr_s items_s (more_items_s ∷ []) moves.items_join (terminal_of source t) (terminals source ts)
    (expr-starts (role_of t.kind) (spelled source t) t.place ∙ h) refl

items-pass : (source : List ℕ) (ts : List Token) → starts_expr ts ≡ false → Passes items_s (terminals source ts)
items-pass source [] h = tt
items-pass source (t ∷ ts) h = leads-nothing expr_s items_s (more_items_s ∷ []) moves.items_join (move expr_s (terminal_of source t)) (expr-starts (role_of t.kind) (spelled source t) t.place ∙ h)

pub items-none : (source : List ℕ) (ts : List Token) → starts_expr ts ≡ false → Gives items_s (terminals source ts) no_items (terminals source ts)
items-none source ts h = ends items_s no_items (terminals source ts) refl (items-pass source ts h)

index-role : (r : Role) (bytes : List ℕ) (p : Place) → (r ≡ roles.Colon → ⊥) → move index_s (terminal r bytes p) ≡ leading trees expr_s index_s
    (λ ss. after_index_s ∷ ss) moves.index_join (move expr_s (terminal r bytes p))
index-role roles.Colon bytes p n = absurd (n refl)
index-role r bytes p n = refl

index-leads : (source : List ℕ) (ts : List Token) → Lacks roles.Colon ts → LeadsAt expr_s index_s (after_index_s ∷ []) moves.index_join (terminals source ts)
index-leads source [] l = tt
index-leads source (t ∷ ts) l = index-role (role_of t.kind) (spelled source t) t.place (l t ts refl)

pub index-rule : (source : List ℕ) (ts : List Token) → Lacks roles.Colon ts → Progress index_s (terminals source ts) (terminals source ts) (expr_s ∷ after_index_s ∷ []) moves.index_join
index-rule source ts l = leads expr_s index_s (after_index_s ∷ []) moves.index_join refl refl (terminals source ts) (index-leads source ts l)

in_round-role : (r : Role) (bytes : List ℕ) (p : Place) → (r ≡ roles.Closes Round → ⊥) → move in_round_s (terminal r bytes p) ≡ leading trees expr_s in_round_s
    (λ ss. after_round_s ∷ ss) moves.in_round_join (move expr_s (terminal r bytes p))
in_round-role (roles.Closes Round) bytes p n = absurd (n refl)
in_round-role (roles.Closes Square) bytes p n = refl
in_round-role (roles.Closes Curly) bytes p n = refl
in_round-role r bytes p n = refl

in_round-leads : (source : List ℕ) (ts : List Token) → Lacks (roles.Closes Round) ts → LeadsAt expr_s in_round_s (after_round_s ∷ []) moves.in_round_join (terminals source ts)
in_round-leads source [] l = tt
in_round-leads source (t ∷ ts) l = in_round-role (role_of t.kind) (spelled source t) t.place (l t ts refl)

pub in_round-rule : (source : List ℕ) (ts : List Token) → Lacks (roles.Closes Round) ts → Progress in_round_s (terminals source ts) (terminals source ts) (expr_s ∷ after_round_s
    ∷ []) moves.in_round_join
in_round-rule source ts l = leads expr_s in_round_s (after_round_s ∷ []) moves.in_round_join refl refl (terminals source ts) (in_round-leads source ts l)

in_square-role : (r : Role) (bytes : List ℕ) (p : Place) → (r ≡ roles.Closes Square → ⊥) → move in_square_s (terminal r bytes p) ≡ leading trees expr_s in_square_s
    (λ ss. after_square_s ∷ ss) moves.in_square_join (move expr_s (terminal r bytes p))
in_square-role (roles.Closes Square) bytes p n = absurd (n refl)
in_square-role (roles.Closes Round) bytes p n = refl
in_square-role (roles.Closes Curly) bytes p n = refl
in_square-role r bytes p n = refl

in_square-leads : (source : List ℕ) (ts : List Token) → Lacks (roles.Closes Square) ts → LeadsAt expr_s in_square_s (after_square_s ∷ []) moves.in_square_join (terminals source ts)
in_square-leads source [] l = tt
in_square-leads source (t ∷ ts) l = in_square-role (role_of t.kind) (spelled source t) t.place (l t ts refl)

pub in_square-rule : (source : List ℕ) (ts : List Token) → Lacks (roles.Closes Square) ts → Progress in_square_s (terminals source ts) (terminals source ts)
    (expr_s ∷ after_square_s ∷ []) moves.in_square_join
in_square-rule source ts l = leads expr_s in_square_s (after_square_s ∷ []) moves.in_square_join refl refl (terminals source ts) (in_square-leads source ts l)

round-opens : (p : Place) (us : List Terminal) → Loop primary_s in_round_s (opens Round p ∷ us) us (moves.as_round p)
round-opens p us = shifts primary_s (opens Round p) (opens Round p ∷ us) us (in_round_s ∷ []) _ refl refl

pub round-empty : (source : List ℕ) (p : Place) (ts rest : List Token) → FrontOf (roles.Closes Round) ts rest → Gives primary_s (opens Round p ∷ terminals source ts)
    (moves.as_round p moves.round_empty) (terminals source rest)
round-empty source p ts rest f = done primary_s (opens Round p ∷ terminals source ts) (terminals source rest) (λ ss g. front primary_s ss (moves.as_round p moves.round_empty) g) _ (λ ss g. refl)
    (goes primary_s in_round_s (opens Round p ∷ terminals source ts) (terminals source ts) (terminals source rest) [] (λ ss g. front primary_s ss (moves.as_round p g.0) g.1)
    moves.round_empty (round-opens p (terminals source ts)) (mark-gives in_round_s (roles.Closes Round) moves.round_empty source ts rest (λ b q. refl) f))

pub round-rule : (source : List ℕ) (p : Place) (ts : List Token) → Lacks (roles.Closes Round) ts → Progress primary_s (opens Round p ∷ terminals source ts) (terminals source ts)
    (expr_s ∷ after_round_s ∷ []) (λ ss f. front primary_s ss (moves.as_round p (moves.round_holds f.0 f.1.0)) f.1.1)
round-rule source p ts l = turns primary_s in_round_s (opens Round p ∷ terminals source ts) (terminals source ts) (terminals source ts) (expr_s ∷ after_round_s ∷ [])
    (moves.as_round p) moves.in_round_join (round-opens p (terminals source ts)) (in_round-rule source ts l)

pub after_round-closes : (source : List ℕ) (ts rest : List Token) → FrontOf (roles.Closes Round) ts rest → Gives after_round_s (terminals source ts) (moves.round_closed) (terminals source rest)
after_round-closes source ts rest f = mark-gives after_round_s (roles.Closes Round) _ source ts rest (λ b q. refl) f

square-opens : (p : Place) (us : List Terminal) → Loop primary_s in_square_s (opens Square p ∷ us) us (moves.as_square p)
square-opens p us = shifts primary_s (opens Square p) (opens Square p ∷ us) us (in_square_s ∷ []) _ refl refl

pub square-empty : (source : List ℕ) (p : Place) (ts rest : List Token) → FrontOf (roles.Closes Square) ts rest → Gives primary_s (opens Square p ∷ terminals source ts)
    (moves.as_square p moves.square_empty) (terminals source rest)
square-empty source p ts rest f = done primary_s (opens Square p ∷ terminals source ts) (terminals source rest) (λ ss g. front primary_s ss (moves.as_square p moves.square_empty) g) _ (λ ss g. refl)
    (goes primary_s in_square_s (opens Square p ∷ terminals source ts) (terminals source ts) (terminals source rest) [] (λ ss g. front primary_s ss (moves.as_square p g.0) g.1)
    moves.square_empty (square-opens p (terminals source ts)) (mark-gives in_square_s (roles.Closes Square) moves.square_empty source ts rest (λ b q. refl) f))

pub square-rule : (source : List ℕ) (p : Place) (ts : List Token) → Lacks (roles.Closes Square) ts → Progress primary_s (opens Square p ∷ terminals source ts) (terminals source ts)
    (expr_s ∷ after_square_s ∷ []) (λ ss f. front primary_s ss (moves.as_square p (moves.square_holds f.0 f.1.0)) f.1.1)
square-rule source p ts l = turns primary_s in_square_s (opens Square p ∷ terminals source ts) (terminals source ts) (terminals source ts) (expr_s ∷ after_square_s ∷ [])
    (moves.as_square p) moves.in_square_join (square-opens p (terminals source ts)) (in_square-rule source ts l)

pub after_square-closes : (source : List ℕ) (ts rest : List Token) → FrontOf (roles.Closes Square) ts rest → Gives after_square_s (terminals source ts)
    (moves.square_lists items_end) (terminals source rest)
after_square-closes source ts rest f = mark-gives after_square_s (roles.Closes Square) _ source ts rest (λ b q. refl) f

after_round-role : (r : Role) (bytes : List ℕ) (p : Place) → (r ≡ roles.Closes Round → ⊥) → (r ≡ roles.Comma → ⊥) → move after_round_s (terminal r bytes p) ≡ pass
after_round-role (roles.Closes Round) bytes p a b = absurd (a refl)
after_round-role (roles.Closes Square) bytes p a b = refl
after_round-role (roles.Closes Curly) bytes p a b = refl
after_round-role roles.Comma bytes p a b = absurd (b refl)
after_round-role r bytes p a b = refl

after_round-pass : (source : List ℕ) (ts : List Token) → Lacks (roles.Closes Round) ts → Lacks roles.Comma ts → Passes after_round_s (terminals source ts)
after_round-pass source [] a b = tt
after_round-pass source (t ∷ ts) a b = after_round-role (role_of t.kind) (spelled source t) t.place (a t ts refl) (b t ts refl)

pub after_round-stops : (source : List ℕ) (ts : List Token) (e : Stop) → Lacks (roles.Closes Round) ts → Refuses roles.Comma ts e → Stops after_round_s source (terminals source ts) e
after_round-stops source ts Memory a f = tt
after_round-stops source ts (At rest) a f = rw (f.0) (refused after_round_s (terminals source ts) refl (after_round-pass source ts a f.1))

after_square-role : (r : Role) (bytes : List ℕ) (p : Place) → (r ≡ roles.For → ⊥) → (r ≡ roles.Comma → ⊥) → (r ≡ roles.Closes Square → ⊥) → move after_square_s (terminal r bytes p) ≡ pass
after_square-role roles.For bytes p a b c = absurd (a refl)
after_square-role roles.Comma bytes p a b c = absurd (b refl)
after_square-role (roles.Closes Round) bytes p a b c = refl
after_square-role (roles.Closes Square) bytes p a b c = absurd (c refl)
after_square-role (roles.Closes Curly) bytes p a b c = refl
after_square-role r bytes p a b c = refl

after_square-pass : (source : List ℕ) (ts : List Token) → Lacks roles.For ts → Lacks roles.Comma ts → Lacks (roles.Closes Square) ts → Passes after_square_s (terminals source ts)
after_square-pass source [] a b c = tt
after_square-pass source (t ∷ ts) a b c = after_square-role (role_of t.kind) (spelled source t) t.place (a t ts refl) (b t ts refl) (c t ts refl)

pub after_square-stops : (source : List ℕ) (ts : List Token) (e : Stop) → Lacks roles.For ts → Lacks roles.Comma ts → Refuses (roles.Closes Square) ts e
    → Stops after_square_s source (terminals source ts) e
after_square-stops source ts Memory a b f = tt
after_square-stops source ts (At rest) a b f = rw (f.0) (refused after_square_s (terminals source ts) refl (after_square-pass source ts a b f.1))

pub after_square-for : (p : Place) (us : List Terminal) → Progress after_square_s (plain (marks_of.for p) ∷ us) us (name_s ∷ in_s ∷ expr_s ∷ closes_s Square ∷ [])
    (λ ss f. front after_square_s ss (moves.square_for p f.0 f.1.1.0) f.1.1.1.1)
after_square-for p us = shifts after_square_s (plain (marks_of.for p)) (plain (marks_of.for p) ∷ us) us (name_s ∷ in_s ∷ expr_s ∷ closes_s Square ∷ []) _ refl refl

pub for-front : (source : List ℕ) (ts rest : List Token) (p : Place) → Front roles.For p ts rest → terminals source ts ≡ plain (marks_of.for p) ∷ terminals source rest
for-front source ts rest p f = (front-terminals roles.For p ts rest source f).1

-- a token that is all of a tree
pub leaf-gives : (s : Symbol) (x : Tree s) (r : Role) (source : List ℕ) (ts rest : List Token) (t : Token) → ts ≡ t ∷ rest → role_of t.kind ≡ r
    → move s (terminal r (spelled source t) t.place) ≡ moves.leaf s x → Gives s (terminals source ts) x (terminals source rest)
leaf-gives s x r source ts rest t e h m = record {
  reads = (shifts s (terminal r (spelled source t) t.place) (terminals source ts) (terminals source rest) []
      (λ ss g. front s ss x g) (ap (terminals source) e ∙ rw h refl) m).reads;
}

pub head-terminals : (r : Role) (source : List ℕ) (ts rest : List Token) (t : Token) → ts ≡ t ∷ rest → role_of t.kind ≡ r → terminals source ts
    ≡ terminal r (spelled source t) t.place ∷ terminals source rest
head-terminals r source ts rest t e h = ap (terminals source) e ∙ rw h refl

-- the roles that begin a primary
abbrev pub begins_primary : Role → Bool
begins_primary roles.Name = true
begins_primary (roles.Number n) = true
begins_primary roles.Text = true
begins_primary (roles.Truth b) = true
begins_primary roles.None = true
begins_primary (roles.Opens Round) = true
begins_primary (roles.Opens Square) = true
begins_primary r = false

primary-role : (r : Role) (bytes : List ℕ) (p : Place) → begins_primary r ≡ false → move primary_s (terminal r bytes p) ≡ pass
primary-role roles.Name bytes p h = absurd cc
primary-role (roles.Number n) bytes p h = absurd cc
primary-role roles.Text bytes p h = absurd cc
primary-role (roles.Truth b) bytes p h = absurd cc
primary-role roles.None bytes p h = absurd cc
primary-role (roles.Opens Round) bytes p h = absurd cc
primary-role (roles.Opens Square) bytes p h = absurd cc
primary-role (roles.Opens Curly) bytes p h = refl
primary-role r bytes p h = refl

pub primary-stops : (source : List ℕ) (ts rest : List Token) (t : Token) → ts ≡ t ∷ rest → begins_primary (role_of t.kind) ≡ false → StopsAt primary_s (terminals source ts) (terminals source ts)
primary-stops source ts rest t e h = rw e (refused primary_s (terminals source (t ∷ rest)) refl (primary-role (role_of t.kind) (spelled source t) t.place h))

pub primary-none : (source : List ℕ) (ts : List Token) → ts ≡ [] → StopsAt primary_s (terminals source ts) (terminals source ts)
primary-none source ts e = rw e (refused primary_s [] refl tt)

-- both a tree and its first part may be empty
both-move : (s s' : Symbol) (join : Join s' (s ∷ [])) (x : Tree s) (x' : Tree s') (ss : List Symbol) → ((f : Forest trees ss) → join ss (front s ss x f) ≡ front s' ss x' f)
    → (m : Move trees s) (after : (ss : List Symbol) → _) (here : List Terminal) (later : _)
    → shifted grammar s' ss (leading trees s s' (λ ss. ss) join m) after (on_ok (λ f. front s' ss x' f) later) ≡ on_ok (join ss) (shifted grammar s ss m after (on_ok (λ f. front s ss x f) later))
both-move s s' join x x' ss e (shift push make) after here later = sym (twice (join ss) (make ss) (after (push ss)))
both-move s s' join x x' ss e pass after here later = sym (twice (join ss) (λ f. front s ss x f) later ∙ pointwise (λ f. join ss (front s ss x f)) (λ f. front s' ss x' f) e later)

both-reads : (s s' : Symbol) (join : Join s' (s ∷ [])) (x : Tree s) (x' : Tree s') → empty s ≡ Some x → empty s' ≡ Some x' → ((ss : List Symbol) (f : Forest trees ss)
    → join ss (front s ss x f) ≡ front s' ss x' f) → (us : List Terminal) → LeadsAt s s' [] join us → (ss : List Symbol) → read grammar us (s' ∷ ss) ≡ on_ok (join ss) (read grammar us (s ∷ ss))
unfolding read
both-reads s s' join x x' o o' e [] l ss = rw (o, o') (both-move s s' join x x' ss (e ss) pass (λ ss. read grammar [] ss) [] (read grammar [] ss))
both-reads s s' join x x' o o' e (u ∷ us) l ss = rw (l, o, o') (both-move s s' join x x' ss (e ss) (move s u) (read grammar us) (u ∷ us) (read grammar (u ∷ us) ss))

pub both : (s s' : Symbol) (join : Join s' (s ∷ [])) (x : Tree s) (x' : Tree s') → empty s ≡ Some x → empty s' ≡ Some x' → ((ss : List Symbol) (f : Forest trees ss)
    → join ss (front s ss x f) ≡ front s' ss x' f) → (us : List Terminal) → LeadsAt s s' [] join us → Progress s' us us (s ∷ []) join
both s s' join x x' o o' e us l = record { reads = both-reads s s' join x x' o o' e us l }

-- what follows a primary, part by part
rest-later : (ss : List Symbol) (r : Result (Forest trees ss) (List Terminal)) → on_ok (λ f. front rest_s ss moves.no_rest f) r ≡ on_ok (moves.rest_trailers ss)
    (on_ok (λ f. front trailers_s (raised_s ∷ scaled_s ∷ added_s ∷ compared_s ∷ ss) no_trailer f) (on_ok (λ f. front raised_s (scaled_s ∷ added_s ∷ compared_s ∷ ss) no_power f)
    (on_ok (λ f. front scaled_s (added_s ∷ compared_s ∷ ss) no_scaling f) (on_ok (λ f. front added_s (compared_s ∷ ss) no_addition f) (on_ok (λ f. front compared_s ss no_comparison f) r)))))
rest-later ss (Ok f) = refl
rest-later ss (Err e) = refl

rest-step : (ss : List Symbol) (m1 : Move trees trailers_s) (m2 : Move trees raised_s) (m3 : Move trees scaled_s) (m4 : Move trees added_s) (m5 : Move trees compared_s)
    (after : (ss : List Symbol) → Result (Forest trees ss) (List Terminal)) (later : Result (Forest trees ss) (List Terminal))
    → shifted grammar rest_s ss (otherwise trees rest_s (leading trees trailers_s rest_s (λ ss. raised_s ∷ scaled_s ∷ added_s ∷ compared_s ∷ ss) moves.rest_trailers m1)
    (otherwise trees rest_s (leading trees raised_s rest_s (λ ss. scaled_s ∷ added_s ∷ compared_s ∷ ss) moves.rest_raised m2)
    (otherwise trees rest_s (leading trees scaled_s rest_s (λ ss. added_s ∷ compared_s ∷ ss) moves.rest_scaled m3)
    (otherwise trees rest_s (leading trees added_s rest_s (λ ss. compared_s ∷ ss) moves.rest_added m4) (leading trees compared_s rest_s (λ ss. ss) moves.rest_compared m5)))))
    after (on_ok (λ f. front rest_s ss moves.no_rest f) later)
    ≡ on_ok (moves.rest_trailers ss) (shifted grammar trailers_s (raised_s ∷ scaled_s ∷ added_s ∷ compared_s ∷ ss) m1 after
    (on_ok (λ f. front trailers_s (raised_s ∷ scaled_s ∷ added_s ∷ compared_s ∷ ss) no_trailer f) (shifted grammar raised_s (scaled_s ∷ added_s ∷ compared_s ∷ ss) m2 after
    (on_ok (λ f. front raised_s (scaled_s ∷ added_s ∷ compared_s ∷ ss) no_power f) (shifted grammar scaled_s (added_s ∷ compared_s ∷ ss) m3 after
    (on_ok (λ f. front scaled_s (added_s ∷ compared_s ∷ ss) no_scaling f) (shifted grammar added_s (compared_s ∷ ss) m4 after
    (on_ok (λ f. front added_s (compared_s ∷ ss) no_addition f) (shifted grammar compared_s (ss) m5 after (on_ok (λ f. front compared_s ss no_comparison f) later))))))))))
rest-step ss (shift push make) m2 m3 m4 m5 after later = elim (after (push (raised_s ∷ scaled_s ∷ added_s ∷ compared_s ∷ ss))) as
    (λ (r : Result (Forest trees (push (raised_s ∷ scaled_s ∷ added_s ∷ compared_s ∷ ss))) (List Terminal)). on_ok
    (λ f. moves.rest_trailers ss (make (raised_s ∷ scaled_s ∷ added_s ∷ compared_s ∷ ss) f)) r ≡ on_ok (moves.rest_trailers ss)
    (on_ok (make (raised_s ∷ scaled_s ∷ added_s ∷ compared_s ∷ ss)) r)) [ Ok f ↦ refl | Err e ↦ refl ]
rest-step ss pass (shift push make) m3 m4 m5 after later = elim (after (push (scaled_s ∷ added_s ∷ compared_s ∷ ss))) as
    (λ (r : Result (Forest trees (push (scaled_s ∷ added_s ∷ compared_s ∷ ss))) (List Terminal)). on_ok (λ f. moves.rest_raised ss (make (scaled_s ∷ added_s ∷ compared_s ∷ ss) f))
    r ≡ on_ok (moves.rest_trailers ss) (on_ok (λ f. front trailers_s (raised_s ∷ scaled_s ∷ added_s ∷ compared_s ∷ ss) no_trailer f)
    (on_ok (make (scaled_s ∷ added_s ∷ compared_s ∷ ss)) r))) [ Ok f ↦ refl | Err e ↦ refl ]
rest-step ss pass pass (shift push make) m4 m5 after later = elim (after (push (added_s ∷ compared_s ∷ ss))) as
    (λ (r : Result (Forest trees (push (added_s ∷ compared_s ∷ ss))) (List Terminal)). on_ok (λ f. moves.rest_scaled ss (make (added_s ∷ compared_s ∷ ss) f)) r
    ≡ on_ok (moves.rest_trailers ss) (on_ok (λ f. front trailers_s (raised_s ∷ scaled_s ∷ added_s ∷ compared_s ∷ ss) no_trailer f)
    (on_ok (λ f. front raised_s (scaled_s ∷ added_s ∷ compared_s ∷ ss) no_power f) (on_ok (make (added_s ∷ compared_s ∷ ss)) r)))) [ Ok f ↦ refl | Err e ↦ refl ]
rest-step ss pass pass pass (shift push make) m5 after later = elim (after (push (compared_s ∷ ss))) as
    (λ (r : Result (Forest trees (push (compared_s ∷ ss))) (List Terminal)). on_ok (λ f. moves.rest_added ss (make (compared_s ∷ ss) f)) r ≡ on_ok (moves.rest_trailers ss)
    (on_ok (λ f. front trailers_s (raised_s ∷ scaled_s ∷ added_s ∷ compared_s ∷ ss) no_trailer f) (on_ok (λ f. front raised_s (scaled_s ∷ added_s ∷ compared_s ∷ ss) no_power f)
    (on_ok (λ f. front scaled_s (added_s ∷ compared_s ∷ ss) no_scaling f) (on_ok (make (compared_s ∷ ss)) r))))) [ Ok f ↦ refl | Err e ↦ refl ]
rest-step ss pass pass pass pass (shift push make) after later = elim (after (push (ss))) as (λ (r : Result (Forest trees (push (ss))) (List Terminal)). on_ok
    (λ f. moves.rest_compared ss (make (ss) f)) r ≡ on_ok (moves.rest_trailers ss) (on_ok (λ f. front trailers_s (raised_s ∷ scaled_s ∷ added_s ∷ compared_s ∷ ss) no_trailer f)
    (on_ok (λ f. front raised_s (scaled_s ∷ added_s ∷ compared_s ∷ ss) no_power f) (on_ok (λ f. front scaled_s (added_s ∷ compared_s ∷ ss) no_scaling f)
    (on_ok (λ f. front added_s (compared_s ∷ ss) no_addition f) (on_ok (make (ss)) r)))))) [ Ok f ↦ refl | Err e ↦ refl ]
rest-step ss pass pass pass pass pass after later = rest-later ss later

pub rest-reads : (us : List Terminal) (ss : List Symbol) → read grammar us (rest_s ∷ ss) ≡ on_ok (moves.rest_trailers ss)
    (read grammar us (trailers_s ∷ raised_s ∷ scaled_s ∷ added_s ∷ compared_s ∷ ss))
unfolding read
rest-reads [] ss = rest-later ss (read grammar [] ss)
rest-reads (u ∷ us) ss = rest-step ss (moves.trailers_move u) (moves.raised_move u) (moves.scaled_move u) (moves.added_move u) (moves.compared_move u) (read grammar us) (read grammar (u ∷ us) ss)

expr-name : (n : Named) (us : List Terminal) → Progress expr_s (named n ∷ us) us (trailers_s ∷ raised_s ∷ scaled_s ∷ added_s ∷ compared_s ∷ [])
    (λ ss f. front expr_s ss (moves.from_name n (f.0, (f.1.0, (f.1.1.0, (f.1.1.1.0, f.1.1.1.1.0))))) f.1.1.1.1.1)
expr-name n us = shifts expr_s (named n) (named n ∷ us) us (trailers_s ∷ raised_s ∷ scaled_s ∷ added_s ∷ compared_s ∷ []) _ refl refl

-- where a name is read and then the rest of an expression, an expression may be read from the name on
pub from-name : (s : Symbol) (ps : List Symbol) (n : Named) (us : List Terminal) (join : Join s (rest_s ∷ ps)) (join' : Join s (expr_s ∷ ps))
    → ((ss : List Symbol) (f : Forest trees (rest_s ∷ (ps ++ ss))) → join ss f ≡ join' ss (front expr_s (ps ++ ss) (moves.from_name n f.0) f.1))
    → Progress s (named n ∷ us) us (rest_s ∷ ps) join → Progress s (named n ∷ us) (named n ∷ us) (expr_s ∷ ps) join'
from-name s ps n us join join' e p = record {
  reads = λ ss.
      let R = read grammar us (trailers_s ∷ raised_s ∷ scaled_s ∷ added_s ∷ compared_s ∷ (ps ++ ss)) in
      p.reads ss ∙ ap (λ r. on_ok (join ss) r) (rest-reads us (ps ++ ss)) ∙ twice (join ss) (moves.rest_trailers (ps ++ ss)) R
      ∙ pointwise (λ f. join ss (moves.rest_trailers (ps ++ ss) f)) (λ f. join' ss (front expr_s (ps ++ ss) (moves.from_name n (moves.rest_trailers (ps ++ ss) f).0)
      (moves.rest_trailers (ps ++ ss) f).1)) (λ f. e ss (moves.rest_trailers (ps ++ ss) f)) R
      ∙ sym (ap (λ r. on_ok (join' ss) r) ((expr-name n us).reads (ps ++ ss))
      ∙ twice (join' ss) (λ f. front expr_s (ps ++ ss) (moves.from_name n (f.0, (f.1.0, (f.1.1.0, (f.1.1.1.0, f.1.1.1.1.0))))) f.1.1.1.1.1) R);
}

after_name-role : (r : Role) (bytes : List ℕ) (p : Place) → (r ≡ roles.Equal → ⊥) → move after_name_s (terminal r bytes p) ≡ leading trees rest_s after_name_s
    (λ ss. ss) moves.after_name_join (move rest_s (terminal r bytes p))
after_name-role roles.Equal bytes p n = absurd (n refl)
after_name-role (roles.Opens Round) bytes p n = refl
after_name-role (roles.Opens Square) bytes p n = refl
after_name-role (roles.Opens Curly) bytes p n = refl
after_name-role r bytes p n = refl

after_name-leads : (source : List ℕ) (ts : List Token) → Lacks roles.Equal ts → LeadsAt rest_s after_name_s [] moves.after_name_join (terminals source ts)
after_name-leads source [] l = tt
after_name-leads source (t ∷ ts) l = after_name-role (role_of t.kind) (spelled source t) t.place (l t ts refl)

pub after_name-goes : (source : List ℕ) (ts : List Token) → Lacks roles.Equal ts → Progress after_name_s (terminals source ts) (terminals source ts) (rest_s ∷ []) moves.after_name_join
after_name-goes source ts l = both rest_s after_name_s moves.after_name_join moves.no_rest (moves.goes_on moves.no_rest) refl refl (λ ss f. refl) (terminals source ts) (after_name-leads source ts l)

pub is-name : (r : Role) → (r ≡ roles.Name) ⊎ (r ≡ roles.Name → ⊥)
is-name roles.Name = inl refl
is-name r = inr (λ h. absurd cc)

-- a pair at the front, from its parts
pub pair-front : (r : Role) (t u : Token) (ts rest : List Token) → role_of t.kind ≡ roles.Name → ts ≡ u ∷ rest → role_of u.kind ≡ r → FrontPair r (t ∷ ts) t u.place rest
pair-front r t u ts rest n e h = record { middle = ts; name = record { parts = refl; role = n }; second = record { token = u; parts = e; role = h; at = refl } }

pub arg-named : (source : List ℕ) (ts rest : List Token) (t : Token) (p : Place) → FrontPair roles.Equal ts t p rest → Progress arg_s (terminals source ts) (terminals source rest)
    (expr_s ∷ []) (λ ss f. front arg_s ss (by_name (named_by source t) f.0) f.1)
arg-named source ts rest t p f =
    turns arg_s after_name_s (terminals source ts) (terminals source f.middle) (terminals source rest) (expr_s ∷ []) (moves.as_arg (named_by source t))
    (λ ss g. front after_name_s ss (moves.gets g.0) g.1)
    (shifts arg_s (named (named_by source t)) (terminals source ts) (terminals source f.middle) (after_name_s ∷ []) _ (head-terminals roles.Name source ts f.middle t f.name.parts f.name.role) refl)
    (item after_name_s roles.Equal p source f.middle rest (expr_s ∷ []) _ f.second (λ b. refl))

arg-role : (r : Role) (bytes : List ℕ) (p : Place) → (r ≡ roles.Name → ⊥) → move arg_s (terminal r bytes p) ≡ leading trees expr_s arg_s (λ ss. ss) moves.arg_join (move expr_s (terminal r bytes p))
arg-role roles.Name bytes p n = absurd (n refl)
arg-role r bytes p n = refl

arg-begins : (source : List ℕ) (t : Token) (ts : List Token) → LacksPair roles.Equal (t ∷ ts) → (role_of t.kind ≡ roles.Name) ⊎ (role_of t.kind ≡ roles.Name → ⊥)
    → Progress arg_s (terminals source (t ∷ ts)) (terminals source (t ∷ ts)) (expr_s ∷ []) moves.arg_join
arg-begins source t ts l (inl n) =
    let lacks : Lacks roles.Equal ts = λ u more h k. l t u.place more (pair-front roles.Equal t u ts more n h k) in
    rw (head-terminals roles.Name source (t ∷ ts) ts t refl n)
    (from-name arg_s [] (named_by source t) (terminals source ts) (λ ss f. front arg_s ss (moves.as_arg (named_by source t) (moves.goes_on f.0)) f.1) moves.arg_join (λ ss f. refl)
    (turns arg_s after_name_s (named (named_by source t) ∷ terminals source ts) (terminals source ts) (terminals source ts) (rest_s ∷ []) (moves.as_arg (named_by source t)) moves.after_name_join
    (shifts arg_s (named (named_by source t)) (named (named_by source t) ∷ terminals source ts) (terminals source ts) (after_name_s ∷ []) _ refl refl) (after_name-goes source ts lacks)))
arg-begins source t ts l (inr n) = leads expr_s arg_s [] moves.arg_join refl refl (terminals source (t ∷ ts)) (arg-role (role_of t.kind) (spelled source t) t.place n)

pub arg-place : (source : List ℕ) (ts : List Token) → LacksPair roles.Equal ts → Progress arg_s (terminals source ts) (terminals source ts) (expr_s ∷ []) moves.arg_join
arg-place source [] l = leads expr_s arg_s [] moves.arg_join refl refl [] tt
arg-place source (t ∷ ts) l = arg-begins source t ts l (is-name (role_of t.kind))
