-- The rules of lines, as the code takes them.
use Rattle.std.proofs.Common.{◌≡◌, ◌⊎◌, inl, inr, ℕ, Bool, true, false, List, [], ◌∷◌, ◌++◌, Option, Some, None, refl, sym, ap, subst, ◌∙◌}
use Rattle.std.proofs.lemmas.Bool.{cases_Bool}
use Rattle.dcx_shape.specs.declared.place.Place.{Place}
use Rattle.dcx_tokens.specs.declared.token.Token.{Token}
use Rattle.dcx_read.specs.declared.role.Role.{Role}
use Rattle.dcx_read.specs.declared.role.Role.TheVariants as roles
use Rattle.dcx_syntax.specs.declared.bracket.Bracket.{Bracket}
use Rattle.dcx_syntax.specs.declared.bracket.Bracket.TheVariants.{Round, Square, Curly}
use Rattle.dcx_read.specs.declared.front.Stop.{Stop}
use Rattle.dcx_syntax.specs.declared.tree.Module.{Module}
use Rattle.dcx_syntax.specs.declared.tree.Named.{Named}
use Rattle.dcx_read.specs.Role.{role_of}
use Rattle.dcx_syntax.specs.Terminal.{Terminal, opens, closes, plain, dot}
use Rattle.dcx_read.specs.Terminals.{terminal, terminals, spelled, named_by}
use Rattle.dcx_syntax.specs.Terminal as marks_of
use Rattle.dcx_syntax.specs.Expressions.{named, attribute}
use Rattle.dcx_syntax.specs.Statements.{nothing, beside, within, Line, importing, prints, repeats, assign, add_to, set_value, no_lines}
use Rattle.dcx_read.specs.Words.{ModuleAt, module_named, is_value_word}
use Rattle.dcx_read.specs.Reading.{leading, pass, on_ok, read}
use Rattle.dcx_read.specs.Moves.{Symbol, expr_s, trailers_s, raised_s, scaled_s, added_s, compared_s, rest_s, after_name_s, name_s, opens_s, closes_s, colon_s, in_s}
use Rattle.dcx_read.specs.Moves.{newline_s, indent_s, dedent_s, module_s, alias_s, balanced_s, after_first_s, after_dot_s, line_s, lines_s, Tree, trees, move, grammar}
use Rattle.dcx_read.specs.Moves as moves
use Rattle.dcx_read.specs.Steps.{Gives, Progress, Loop, StopsAt, Stops, Front, FrontOf, FrontPair, Lacks, LacksPair, Refuses}
use Rattle.dcx_read.specs.Lines.{is_bracket, FrontPlain, LacksPlain, FrontValue, LacksValue, begins_line, starts_line, module_at}
use Rattle.dcx_read.proofs.Progress.{Join, front, twice, goes, turns}
use Rattle.dcx_read.proofs.Fronts.{front-terminals, Passes, passes, name-gives, name-passes}
use Rattle.dcx_read.proofs.Rules.{shifts, item, leads, leads-by, LeadsAt, both, ends, refused, mark-gives, mark-stops, head-terminals, is-name, pair-front, from-name}
use Rattle.dcx_read.proofs.Rules.{after_name-goes, rest-reads, leads-nothing, closes_round-gives, closes_round-stops, closes_square-gives, closes_square-stops}
use Rattle.dcx_read.proofs.Complete.{is_shift}

-- the first part is read as another part, and then the others
pub unfolds : (s p q : Symbol) (us rest mid : List Terminal) (ps : List Symbol) (join : Join s (p ∷ ps)) (make : Tree q → Tree p) → Progress s us rest (p ∷ ps) join
    → Loop p q rest mid make → Progress s us mid (q ∷ ps) (λ ss f. join ss (front p (ps ++ ss) (make f.0) f.1))
unfolds s p q us rest mid ps join make h k = record {
  reads = λ ss. h.reads ss ∙ ap (λ r. on_ok (join ss) r) (k.reads (ps ++ ss)) ∙ twice (join ss) (λ f. front p (ps ++ ss) (make f.0) f.1) (read grammar mid (q ∷ (ps ++ ss)));
}

-- import
abbrev pub importing_of : Place → ModuleAt → Option Named → Line
importing_of p m a = importing (record { place = p; «module» = m.which; module_place = m.place; alias = a })

pub import-rule : (p : Place) (us : List Terminal)
    → Progress line_s (plain (marks_of.import p) ∷ us) us (module_s ∷ alias_s ∷ newline_s ∷ []) (λ ss f. front line_s ss (importing_of p f.0 f.1.0) f.1.1.1)
import-rule p us = shifts line_s (plain (marks_of.import p)) (plain (marks_of.import p) ∷ us) us (module_s ∷ alias_s ∷ newline_s ∷ []) _ refl refl

module-move : (source : List ℕ) (t : Token) (m : Option Module) → module_named (spelled source t) ≡ m → move module_s (terminal roles.Name (spelled source t) t.place) ≡ moves.module_step t.place m
module-move source t m e = rw e refl

pub module-gives : (source : List ℕ) (ts rest : List Token) (t : Token) (m : Module) → ts ≡ t ∷ rest → role_of t.kind ≡ roles.Name → module_named (spelled source t) ≡ Some m
    → Gives module_s (terminals source ts) (module_at m t.place) (terminals source rest)
module-gives source ts rest t m e r h = record {
  reads = (shifts module_s (terminal roles.Name (spelled source t) t.place) (terminals source ts) (terminals source rest) []
      (λ ss g. front module_s ss (module_at m t.place) g) (head-terminals roles.Name source ts rest t e r) (module-move source t (Some m) h)).reads;
}

module-passes : (r : Role) (bytes : List ℕ) (p : Place) → (r ≡ roles.Name → ⊥) → move module_s (terminal r bytes p) ≡ pass
module-passes roles.Name bytes p n = absurd (n refl)
module-passes r bytes p n = refl

pub module-none : (source : List ℕ) (ts : List Token) → Lacks roles.Name ts → StopsAt module_s (terminals source ts) (terminals source ts)
module-none source ts l = refused module_s (terminals source ts) refl (passes module_s source (λ r. r ≡ roles.Name) ts module-passes l)

pub module-other : (source : List ℕ) (ts rest : List Token) (t : Token) → ts ≡ t ∷ rest → role_of t.kind ≡ roles.Name → module_named (spelled source t) ≡ None
    → StopsAt module_s (terminals source ts) (terminals source ts)
module-other source ts rest t e r h = rw (head-terminals roles.Name source ts rest t e r)
    (refused module_s (terminal roles.Name (spelled source t) t.place ∷ terminals source rest) refl (module-move source t None h))

alias-passes : (r : Role) (bytes : List ℕ) (p : Place) → (r ≡ roles.As → ⊥) → move alias_s (terminal r bytes p) ≡ pass
alias-passes roles.As bytes p n = absurd (n refl)
alias-passes r bytes p n = refl

pub alias-none : (source : List ℕ) (ts : List Token) → Lacks roles.As ts → Gives alias_s (terminals source ts) None (terminals source ts)
alias-none source ts l = ends alias_s None (terminals source ts) refl (passes alias_s source (λ r. r ≡ roles.As) ts alias-passes l)

pub alias-as : (source : List ℕ) (ts rest : List Token) (p : Place) → Front roles.As p ts rest
    → Progress alias_s (terminals source ts) (terminals source rest) (name_s ∷ []) (λ ss f. front alias_s ss (Some f.0) f.1)
alias-as source ts rest p h = item alias_s roles.As p source ts rest (name_s ∷ []) _ h (λ b. refl)

-- print
pub print-rule : (p : Place) (us : List Terminal)
    → Progress line_s (plain (marks_of.print p) ∷ us) us (opens_s ∷ balanced_s ∷ closes_s Round ∷ newline_s ∷ []) (λ ss f. front line_s ss (prints p f.0 f.1.0) f.1.1.1.1)
print-rule p us = shifts line_s (plain (marks_of.print p)) (plain (marks_of.print p) ∷ us) us (opens_s ∷ balanced_s ∷ closes_s Round ∷ newline_s ∷ []) _ refl refl

opens-passes : (r : Role) (bytes : List ℕ) (p : Place) → (r ≡ roles.Opens Round → ⊥) → move opens_s (terminal r bytes p) ≡ pass
opens-passes (roles.Opens Round) bytes p n = absurd (n refl)
opens-passes (roles.Opens Square) bytes p n = refl
opens-passes (roles.Opens Curly) bytes p n = refl
opens-passes r bytes p n = refl

pub opens-none : (source : List ℕ) (ts : List Token) → Lacks (roles.Opens Round) ts → StopsAt opens_s (terminals source ts) (terminals source ts)
opens-none source ts l = refused opens_s (terminals source ts) refl (passes opens_s source (λ r. r ≡ roles.Opens Round) ts opens-passes l)

plain-beside : (r : Role) (bytes : List ℕ) (p : Place) → is_bracket r ≡ false → (t : marks_of.Plain) × (terminal r bytes p ≡ plain t)
plain-beside (roles.Opens b) bytes p h = absurd cc
plain-beside (roles.Closes b) bytes p h = absurd cc
plain-beside roles.Name bytes p h = (marks_of.name bytes p, refl)
plain-beside (roles.Number n) bytes p h = (marks_of.number n p, refl)
plain-beside roles.Text bytes p h = (marks_of.text bytes p, refl)
plain-beside (roles.Truth b) bytes p h = (marks_of.truth b p, refl)
plain-beside roles.None bytes p h = (marks_of.none p, refl)
plain-beside (roles.Compares c) bytes p h = (marks_of.compares c p, refl)
plain-beside (roles.Signs s) bytes p h = (marks_of.signs s p, refl)
plain-beside (roles.Scales s) bytes p h = (marks_of.scales s p, refl)
plain-beside roles.Power bytes p h = (marks_of.power p, refl)
plain-beside roles.PlusEqual bytes p h = (marks_of.plus_equal p, refl)
plain-beside roles.Import bytes p h = (marks_of.import p, refl)
plain-beside roles.For bytes p h = (marks_of.for p, refl)
plain-beside roles.Print bytes p h = (marks_of.print p, refl)
plain-beside roles.As bytes p h = (marks_of.as_word, refl)
plain-beside roles.In bytes p h = (marks_of.in_word, refl)
plain-beside roles.Dot bytes p h = (marks_of.dot, refl)
plain-beside roles.Comma bytes p h = (marks_of.comma, refl)
plain-beside roles.Colon bytes p h = (marks_of.colon, refl)
plain-beside roles.Equal bytes p h = (marks_of.equal, refl)
plain-beside roles.Newline bytes p h = (marks_of.newline, refl)
plain-beside roles.Indent bytes p h = (marks_of.indent, refl)
plain-beside roles.Dedent bytes p h = (marks_of.dedent, refl)
plain-beside roles.Other bytes p h = (marks_of.other, refl)

-- a token that is no bracket
pub balanced-plain : (source : List ℕ) (ts rest : List Token) → FrontPlain ts rest → (t : marks_of.Plain) × Loop balanced_s balanced_s (terminals source ts) (terminals source rest) (beside t)
balanced-plain source ts rest f =
    let k = plain-beside (role_of f.token.kind) (spelled source f.token) f.token.place f.role in (
      k.0,
      shifts balanced_s (plain k.0) (terminals source ts) (terminals source rest) (balanced_s ∷ []) (λ ss g. front balanced_s ss (beside k.0 g.0) g.1)
          (ap (terminals source) f.parts ∙ ap (λ (u : Terminal). u ∷ terminals source rest) k.1) refl,
    )

pub balanced-opens : (source : List ℕ) (ts rest : List Token) (b : Bracket) (p : Place) → Front (roles.Opens b) p ts rest → Progress balanced_s (terminals source ts)
    (terminals source rest) (balanced_s ∷ closes_s b ∷ balanced_s ∷ []) (λ ss f. front balanced_s ss (within b p f.0 f.1.1.0) f.1.1.1)
balanced-opens source ts rest b p h = item balanced_s (roles.Opens b) p source ts rest (balanced_s ∷ closes_s b ∷ balanced_s ∷ []) _ h (λ bytes. refl)

balanced-passes : (r : Role) (bytes : List ℕ) (p : Place) → is_bracket r ≡ true → ((b : Bracket) → r ≡ roles.Opens b → ⊥) → move balanced_s (terminal r bytes p) ≡ pass
balanced-passes (roles.Opens b) bytes p h n = absurd (n b refl)
balanced-passes (roles.Closes b) bytes p h n = refl
balanced-passes r bytes p h n = absurd cc

balanced-pass : (source : List ℕ) (ts : List Token) → LacksPlain ts → ((b : Bracket) → Lacks (roles.Opens b) ts) → Passes balanced_s (terminals source ts)
balanced-pass source [] a n = tt
balanced-pass source (t ∷ ts) a n = balanced-passes (role_of t.kind) (spelled source t) t.place (a t ts refl) (λ b. n b t ts refl)

pub balanced-ends : (source : List ℕ) (ts : List Token) → LacksPlain ts → ((b : Bracket) → Lacks (roles.Opens b) ts) → Gives balanced_s (terminals source ts) nothing (terminals source ts)
balanced-ends source ts a n = ends balanced_s nothing (terminals source ts) refl (balanced-pass source ts a n)

closes_curly-passes : (r : Role) (bytes : List ℕ) (p : Place) → (r ≡ roles.Closes Curly → ⊥) → move (closes_s Curly) (terminal r bytes p) ≡ pass
closes_curly-passes (roles.Closes Curly) bytes p n = absurd (n refl)
closes_curly-passes (roles.Closes Round) bytes p n = refl
closes_curly-passes (roles.Closes Square) bytes p n = refl
closes_curly-passes r bytes p n = refl

pub closes-gives : (b : Bracket) (source : List ℕ) (ts rest : List Token) → FrontOf (roles.Closes b) ts rest → Gives (closes_s b) (terminals source ts) tt (terminals source rest)
closes-gives Round source ts rest f = closes_round-gives source ts rest f
closes-gives Square source ts rest f = closes_square-gives source ts rest f
closes-gives Curly source ts rest f = mark-gives (closes_s Curly) (roles.Closes Curly) tt source ts rest (λ b p. refl) f

pub closes-stops : (b : Bracket) (source : List ℕ) (ts : List Token) (e : Stop) → Refuses (roles.Closes b) ts e → Stops (closes_s b) source (terminals source ts) e
closes-stops Round source ts e f = closes_round-stops source ts e f
closes-stops Square source ts e f = closes_square-stops source ts e f
closes-stops Curly source ts e f = mark-stops (closes_s Curly) (roles.Closes Curly) source ts e refl closes_curly-passes f

-- a line that a name begins
line-name : (source : List ℕ) (ts rest : List Token) (t : Token) → ts ≡ t ∷ rest → role_of t.kind ≡ roles.Name
    → Progress line_s (terminals source ts) (terminals source rest) (after_first_s ∷ newline_s ∷ []) (λ ss f. front line_s ss (moves.as_line (named_by source t) f.0) f.1.1)
line-name source ts rest t e r = shifts line_s (named (named_by source t)) (terminals source ts) (terminals source rest) (after_first_s ∷ newline_s ∷ []) _
    (head-terminals roles.Name source ts rest t e r) refl

pub line-assign : (source : List ℕ) (ts rest : List Token) (t : Token) (p : Place) → FrontPair roles.Equal ts t p rest
    → Progress line_s (terminals source ts) (terminals source rest) (expr_s ∷ newline_s ∷ []) (λ ss f. front line_s ss (assign (named_by source t) f.0) f.1.1)
line-assign source ts rest t p f =
    unfolds line_s after_first_s expr_s (terminals source ts) (terminals source f.middle) (terminals source rest) (newline_s ∷ [])
    (λ ss g. front line_s ss (moves.as_line (named_by source t) g.0) g.1.1) moves.is_assigned
    (line-name source ts f.middle t f.name.parts f.name.role) (item after_first_s roles.Equal p source f.middle rest (expr_s ∷ []) _ f.second (λ b. refl))

pub line-add : (source : List ℕ) (ts rest : List Token) (t : Token) (p : Place) → FrontPair roles.PlusEqual ts t p rest
    → Progress line_s (terminals source ts) (terminals source rest) (expr_s ∷ newline_s ∷ []) (λ ss f. front line_s ss (add_to (named_by source t) p f.0) f.1.1)
line-add source ts rest t p f =
    unfolds line_s after_first_s expr_s (terminals source ts) (terminals source f.middle) (terminals source rest) (newline_s ∷ [])
    (λ ss g. front line_s ss (moves.as_line (named_by source t) g.0) g.1.1) (moves.is_added_to p)
    (line-name source ts f.middle t f.name.parts f.name.role) (item after_first_s roles.PlusEqual p source f.middle rest (expr_s ∷ []) _ f.second (λ b. refl))

dot-move : (source : List ℕ) (w : Token) (v : Bool) → is_value_word (spelled source w) ≡ v → move after_dot_s (terminal roles.Name (spelled source w) w.place) ≡ moves.dot_step (named_by source w) v
dot-move source w v e = rw e refl

dot-value : (source : List ℕ) (ts rest : List Token) (w : Token) → ts ≡ w ∷ rest → role_of w.kind ≡ roles.Name → is_value_word (spelled source w) ≡ true
    → Loop after_dot_s after_name_s (terminals source ts) (terminals source rest) (moves.as_dot (named_by source w))
dot-value source ts rest w e r v = shifts after_dot_s (terminal roles.Name (spelled source w) w.place) (terminals source ts) (terminals source rest) (after_name_s ∷ [])
    (λ ss f. front after_dot_s ss (moves.as_dot (named_by source w) f.0) f.1) (head-terminals roles.Name source ts rest w e r) (dot-move source w true v)

dot-other : (source : List ℕ) (ts rest : List Token) (w : Token) → ts ≡ w ∷ rest → role_of w.kind ≡ roles.Name → is_value_word (spelled source w) ≡ false
    → Loop after_dot_s rest_s (terminals source ts) (terminals source rest) (moves.attribute_of (named_by source w))
dot-other source ts rest w e r v = shifts after_dot_s (terminal roles.Name (spelled source w) w.place) (terminals source ts) (terminals source rest) (rest_s ∷ [])
    (λ ss f. front after_dot_s ss (moves.attribute_of (named_by source w) f.0) f.1) (head-terminals roles.Name source ts rest w e r) (dot-move source w false v)

first-dot : (source : List ℕ) (ts rest : List Token) (p : Place) → Front roles.Dot p ts rest → Loop after_first_s after_dot_s (terminals source ts) (terminals source rest) moves.as_first
first-dot source ts rest p f = item after_first_s roles.Dot p source ts rest (after_dot_s ∷ []) (λ ss g. front after_first_s ss (moves.as_first g.0) g.1) f (λ b. refl)

name-equal : (source : List ℕ) (ts rest : List Token) (p : Place) → Front roles.Equal p ts rest → Loop after_name_s expr_s (terminals source ts) (terminals source rest) moves.gets
name-equal source ts rest p f = item after_name_s roles.Equal p source ts rest (expr_s ∷ []) (λ ss g. front after_name_s ss (moves.gets g.0) g.1) f (λ b. refl)

pub line-value : (source : List ℕ) (ts rest : List Token) (t : Token) (p : Place) → FrontValue source ts t p rest
    → Progress line_s (terminals source ts) (terminals source rest) (expr_s ∷ newline_s ∷ []) (λ ss f. front line_s ss (set_value (named_by source t) p f.0) f.1.1)
line-value source ts rest t p f =
    subst (λ (q : Place). Progress line_s (terminals source ts) (terminals source rest) (expr_s ∷ newline_s ∷ []) (λ ss g. front line_s ss (set_value (named_by source t) q g.0) g.1.1)) f.at
    (unfolds line_s after_name_s expr_s (terminals source ts) (terminals source f.second.middle) (terminals source rest) (newline_s ∷ [])
    (λ ss g. front line_s ss (moves.as_line (named_by source t) (moves.as_first (moves.as_dot (named_by source f.word) g.0))) g.1.1) moves.gets
    (unfolds line_s after_dot_s after_name_s (terminals source ts) (terminals source f.dotted) (terminals source f.second.middle) (newline_s ∷ [])
    (λ ss g. front line_s ss (moves.as_line (named_by source t) (moves.as_first g.0)) g.1.1) (moves.as_dot (named_by source f.word))
    (unfolds line_s after_first_s after_dot_s (terminals source ts) (terminals source f.first.middle) (terminals source f.dotted) (newline_s ∷ [])
    (λ ss g. front line_s ss (moves.as_line (named_by source t) g.0) g.1.1) moves.as_first
    (line-name source ts f.first.middle t f.first.name.parts f.first.name.role) (first-dot source f.first.middle f.dotted f.dot_place f.first.second))
    (dot-value source f.dotted f.second.middle f.word f.second.name.parts f.second.name.role f.value))
    (name-equal source f.second.middle rest f.equal_place f.second.second))

-- what follows a name that begins an expression, where neither `=` nor `+=` nor `.value =` does
first-role : (r : Role) (bytes : List ℕ) (p : Place) → (r ≡ roles.Equal → ⊥) → (r ≡ roles.PlusEqual → ⊥) → (r ≡ roles.Dot → ⊥)
    → move after_first_s (terminal r bytes p) ≡ leading trees rest_s after_first_s (λ ss. ss) moves.after_first_join (move rest_s (terminal r bytes p))
first-role roles.Equal bytes p a b c = absurd (a refl)
first-role roles.PlusEqual bytes p a b c = absurd (b refl)
first-role roles.Dot bytes p a b c = absurd (c refl)
first-role (roles.Opens Round) bytes p a b c = refl
first-role (roles.Opens Square) bytes p a b c = refl
first-role (roles.Opens Curly) bytes p a b c = refl
first-role r bytes p a b c = refl

first-both : (source : List ℕ) (ts : List Token) → LeadsAt rest_s after_first_s [] moves.after_first_join (terminals source ts)
    → Loop after_first_s rest_s (terminals source ts) (terminals source ts) moves.begins
first-both source ts l = both rest_s after_first_s moves.after_first_join moves.no_rest (moves.begins moves.no_rest) refl refl (λ ss f. refl) (terminals source ts) l

is-dot : (r : Role) → (r ≡ roles.Dot) ⊎ (r ≡ roles.Dot → ⊥)
is-dot roles.Dot = inl refl
is-dot r = inr (λ h. absurd cc)

-- a dot and a name at the front of the rest of an expression
rest-dot : (us : List Terminal) → Progress rest_s (plain dot ∷ us) us (name_s ∷ trailers_s ∷ raised_s ∷ scaled_s ∷ added_s ∷ compared_s ∷ []) (λ ss f. front rest_s ss
    (attribute f.0 f.1.0, (f.1.1.0, (f.1.1.1.0, (f.1.1.1.1.0, f.1.1.1.1.1.0)))) f.1.1.1.1.1.1)
rest-dot us = shifts rest_s (plain dot) (plain dot ∷ us) us (name_s ∷ trailers_s ∷ raised_s ∷ scaled_s ∷ added_s ∷ compared_s ∷ []) _ refl refl

rest-attribute : (source : List ℕ) (ts rest : List Token) (w : Token) → ts ≡ w ∷ rest → role_of w.kind ≡ roles.Name
    → Progress rest_s (plain dot ∷ terminals source ts) (terminals source rest) (trailers_s ∷ raised_s ∷ scaled_s ∷ added_s ∷ compared_s ∷ []) (λ ss f. front rest_s ss
    (attribute (named_by source w) f.0, (f.1.0, (f.1.1.0, (f.1.1.1.0, f.1.1.1.1.0)))) f.1.1.1.1.1)
rest-attribute source ts rest w e r =
    goes rest_s name_s (plain dot ∷ terminals source ts) (terminals source ts) (terminals source rest) (trailers_s ∷ raised_s ∷ scaled_s ∷ added_s ∷ compared_s ∷ [])
    (λ ss f. front rest_s ss (attribute f.0 f.1.0, (f.1.1.0, (f.1.1.1.0, (f.1.1.1.1.0, f.1.1.1.1.1.0)))) f.1.1.1.1.1.1) (named_by source w)
    (rest-dot (terminals source ts)) (name-gives source ts rest w e r)

first-attribute : (source : List ℕ) (ts rest : List Token) (w : Token) → ts ≡ w ∷ rest → role_of w.kind ≡ roles.Name
    → Loop after_dot_s rest_s (terminals source ts) (terminals source rest) (moves.attribute_of (named_by source w))
    → Loop after_first_s rest_s (plain dot ∷ terminals source ts) (plain dot ∷ terminals source ts) moves.begins
first-attribute source ts rest w e r k = record {
  reads = λ ss.
      let n = named_by source w in
      let R = read grammar (terminals source rest) (trailers_s ∷ raised_s ∷ scaled_s ∷ added_s ∷ compared_s ∷ ss) in
      let h = shifts after_first_s (plain dot) (plain dot ∷ terminals source ts) (terminals source ts) (after_dot_s ∷ []) (λ ss g. front after_first_s ss (moves.as_first g.0) g.1) refl refl in
      h.reads ss ∙ ap (λ x. on_ok (λ g. front after_first_s ss (moves.as_first g.0) g.1) x) (k.reads ss) ∙ twice (λ g. front after_first_s ss (moves.as_first g.0) g.1)
      (λ g. front after_dot_s ss (moves.attribute_of n g.0) g.1) (read grammar (terminals source rest) (rest_s ∷ ss))
      ∙ ap (λ x. on_ok (λ g. front after_first_s ss (moves.begins (attribute n g.0.0, g.0.1)) g.1) x) (rest-reads (terminals source rest) ss)
      ∙ twice (λ g. front after_first_s ss (moves.begins (attribute n g.0.0, g.0.1)) g.1) (moves.rest_trailers ss) R
      ∙ sym (ap (λ x. on_ok (λ g. front after_first_s ss (moves.begins g.0) g.1) x) ((rest-attribute source ts rest w e r).reads ss)
      ∙ twice (λ g. front after_first_s ss (moves.begins g.0) g.1) (λ f. front rest_s ss (attribute n f.0, (f.1.0, (f.1.1.0, (f.1.1.1.0, f.1.1.1.1.0)))) f.1.1.1.1.1) R);
}

dot-passes : (r : Role) (bytes : List ℕ) (p : Place) → (r ≡ roles.Name → ⊥) → move after_dot_s (terminal r bytes p) ≡ pass
dot-passes roles.Name bytes p n = absurd (n refl)
dot-passes r bytes p n = refl

first-nameless : (source : List ℕ) (ts : List Token) → Lacks roles.Name ts → Loop after_first_s rest_s (plain dot ∷ terminals source ts) (plain dot ∷ terminals source ts) moves.begins
first-nameless source ts l = record {
  reads = λ ss.
      let a = refused after_dot_s (terminals source ts) refl (passes after_dot_s source (λ r. r ≡ roles.Name) ts dot-passes l) in
      let b = refused name_s (terminals source ts) refl (passes name_s source (λ r. r ≡ roles.Name) ts name-passes l) in
      let h = shifts after_first_s (plain dot) (plain dot ∷ terminals source ts) (terminals source ts) (after_dot_s ∷ []) (λ ss g. front after_first_s ss (moves.as_first g.0) g.1) refl refl in
      h.reads ss ∙ ap (λ x. on_ok (λ g. front after_first_s ss (moves.as_first g.0) g.1) x) (a.reads ss)
      ∙ sym (ap (λ x. on_ok (λ g. front after_first_s ss (moves.begins g.0) g.1) x) ((rest-dot (terminals source ts)).reads ss
      ∙ ap (λ x. on_ok (λ f. front rest_s ss (attribute f.0 f.1.0, (f.1.1.0, (f.1.1.1.0, (f.1.1.1.1.0, f.1.1.1.1.1.0)))) f.1.1.1.1.1.1) x)
      (b.reads (trailers_s ∷ raised_s ∷ scaled_s ∷ added_s ∷ compared_s ∷ ss))));
}

-- no name `value` and `=`
abbrev NoValue : List ℕ → List Token → Type 0
NoValue source ts = (w : Token) (rest : List Token) → ts ≡ w ∷ rest → role_of w.kind ≡ roles.Name → is_value_word (spelled source w) ≡ true → Lacks roles.Equal rest

first-word : (source : List ℕ) (w : Token) (rest : List Token) → NoValue source (w ∷ rest) → role_of w.kind ≡ roles.Name → (is_value_word (spelled source w) ≡ true)
    ⊎ (is_value_word (spelled source w) ≡ false) → Loop after_first_s rest_s (plain dot ∷ terminals source (w ∷ rest)) (plain dot ∷ terminals source (w ∷ rest)) moves.begins
first-word source w rest n r (inl v) =
    first-attribute source (w ∷ rest) rest w refl r
    (turns after_dot_s after_name_s (terminals source (w ∷ rest)) (terminals source rest) (terminals source rest) (rest_s ∷ [])
    (moves.as_dot (named_by source w)) moves.after_name_join (dot-value source (w ∷ rest) rest w refl r v) (after_name-goes source rest (n w rest refl r v)))
first-word source w rest n r (inr v) = first-attribute source (w ∷ rest) rest w refl r (dot-other source (w ∷ rest) rest w refl r v)

first-named : (source : List ℕ) (w : Token) (rest : List Token) → NoValue source (w ∷ rest) → (role_of w.kind ≡ roles.Name) ⊎ (role_of w.kind ≡ roles.Name → ⊥)
    → Loop after_first_s rest_s (plain dot ∷ terminals source (w ∷ rest)) (plain dot ∷ terminals source (w ∷ rest)) moves.begins
first-named source w rest n (inl r) = first-word source w rest n r (cases_Bool (is_value_word (spelled source w)))
first-named source w rest n (inr r) = first-nameless source (w ∷ rest) (λ t more e h. let same : t ≡ w = cc in r (ap (λ (x : Token). role_of x.kind) (sym same) ∙ h))

first-dotted : (source : List ℕ) (ts : List Token) → NoValue source ts → Loop after_first_s rest_s (plain dot ∷ terminals source ts) (plain dot ∷ terminals source ts) moves.begins
first-dotted source [] n = first-nameless source [] (λ t rest e h. absurd cc)
first-dotted source (w ∷ rest) n = first-named source w rest n (is-name (role_of w.kind))

first-case : (source : List ℕ) (t : Token) (ts : List Token) → (role_of t.kind ≡ roles.Equal → ⊥) → (role_of t.kind ≡ roles.PlusEqual → ⊥)
    → (role_of t.kind ≡ roles.Dot → NoValue source ts) → (role_of t.kind ≡ roles.Dot) ⊎ (role_of t.kind ≡ roles.Dot → ⊥)
    → Loop after_first_s rest_s (terminals source (t ∷ ts)) (terminals source (t ∷ ts)) moves.begins
first-case source t ts a b c (inl d) = rw (head-terminals roles.Dot source (t ∷ ts) ts t refl d) (first-dotted source ts (c d))
first-case source t ts a b c (inr d) = first-both source (t ∷ ts) (first-role (role_of t.kind) (spelled source t) t.place a b d)

first-goes : (source : List ℕ) (ts : List Token) → Lacks roles.Equal ts → Lacks roles.PlusEqual ts
    → ((d : Token) (rest : List Token) → ts ≡ d ∷ rest → role_of d.kind ≡ roles.Dot → NoValue source rest)
    → Loop after_first_s rest_s (terminals source ts) (terminals source ts) moves.begins
first-goes source [] a b c = first-both source [] tt
first-goes source (t ∷ ts) a b c = first-case source t ts (a t ts refl) (b t ts refl) (c t ts refl) (is-dot (role_of t.kind))

line-role : (r : Role) (bytes : List ℕ) (p : Place) → (r ≡ roles.Name → ⊥) → (r ≡ roles.Import → ⊥) → (r ≡ roles.Print → ⊥) → (r ≡ roles.For → ⊥)
    → move line_s (terminal r bytes p) ≡ leading trees expr_s line_s (λ ss. newline_s ∷ ss) moves.line_join (move expr_s (terminal r bytes p))
line-role roles.Name bytes p a b c d = absurd (a refl)
line-role roles.Import bytes p a b c d = absurd (b refl)
line-role roles.Print bytes p a b c d = absurd (c refl)
line-role roles.For bytes p a b c d = absurd (d refl)
line-role r bytes p a b c d = refl

value-front : (source : List ℕ) (t d w e : Token) (rest : List Token) → role_of t.kind ≡ roles.Name → role_of d.kind ≡ roles.Dot → role_of w.kind ≡ roles.Name
    → is_value_word (spelled source w) ≡ true → role_of e.kind ≡ roles.Equal → FrontValue source (t ∷ d ∷ w ∷ e ∷ rest) t w.place rest
value-front source t d w e rest a b n v q = record {
  dotted = w ∷ e ∷ rest;
  dot_place = d.place;
  word = w;
  equal_place = e.place;
  first = pair-front roles.Dot t d (d ∷ w ∷ e ∷ rest) (w ∷ e ∷ rest) a refl b;
  second = pair-front roles.Equal w e (e ∷ rest) rest n refl q;
  value = v;
  at = refl;
}

line-begins : (source : List ℕ) (t : Token) (ts : List Token) → LacksPair roles.Equal (t ∷ ts) → LacksPair roles.PlusEqual (t ∷ ts) → LacksValue source (t ∷ ts)
    → (role_of t.kind ≡ roles.Import → ⊥) → (role_of t.kind ≡ roles.Print → ⊥) → (role_of t.kind ≡ roles.For → ⊥) → (role_of t.kind ≡ roles.Name)
    ⊎ (role_of t.kind ≡ roles.Name → ⊥) → Progress line_s (terminals source (t ∷ ts)) (terminals source (t ∷ ts)) (expr_s ∷ newline_s ∷ []) moves.line_join
line-begins source t ts a b v i p f (inl n) =
    rw (head-terminals roles.Name source (t ∷ ts) ts t refl n)
    (from-name line_s (newline_s ∷ []) (named_by source t) (terminals source ts) (λ ss g. front line_s ss (moves.as_line (named_by source t) (moves.begins g.0)) g.1.1) moves.line_join (λ ss g. refl)
    (unfolds line_s after_first_s rest_s (named (named_by source t) ∷ terminals source ts) (terminals source ts) (terminals source ts) (newline_s ∷ [])
    (λ ss g. front line_s ss (moves.as_line (named_by source t) g.0) g.1.1) moves.begins
    (shifts line_s (named (named_by source t)) (named (named_by source t) ∷ terminals source ts) (terminals source ts) (after_first_s ∷ newline_s ∷ []) _ refl refl)
    (first-goes source ts (λ u more e h. a t u.place more (pair-front roles.Equal t u ts more n e h)) (λ u more e h. b t u.place more (pair-front roles.PlusEqual t u ts more n e h))
    (λ d rest e h w more k r y q last same eq. v t w.place last (rw (e, k, same) (value-front source t d w q last n h r y eq))))))
line-begins source t ts a b v i p f (inr n) = leads expr_s line_s (newline_s ∷ []) moves.line_join refl refl (terminals source (t ∷ ts)) (line-role (role_of t.kind) (spelled source t) t.place n i p f)

pub line-expr : (source : List ℕ) (ts : List Token) → LacksPair roles.Equal ts → LacksPair roles.PlusEqual ts → LacksValue source ts → Lacks roles.Import ts
    → Lacks roles.Print ts → Lacks roles.For ts → Progress line_s (terminals source ts) (terminals source ts) (expr_s ∷ newline_s ∷ []) moves.line_join
line-expr source [] a b v i p f = leads expr_s line_s (newline_s ∷ []) moves.line_join refl refl [] tt
line-expr source (t ∷ ts) a b v i p f = line-begins source t ts a b v (i t ts refl) (p t ts refl) (f t ts refl) (is-name (role_of t.kind))

-- the rules that begin a line
line-starts : (r : Role) (bytes : List ℕ) (p : Place) → is_shift (move line_s (terminal r bytes p)) ≡ begins_line r
line-starts (roles.Opens Round) bytes p = refl
line-starts (roles.Opens Square) bytes p = refl
line-starts (roles.Opens Curly) bytes p = refl
line-starts r bytes p = refl

pub lines-starts : (source : List ℕ) (ts : List Token) → starts_line ts ≡ true → Progress lines_s (terminals source ts) (terminals source ts) (line_s ∷ lines_s ∷ []) moves.lines_join
lines-starts source [] h = absurd cc
lines-starts source (t ∷ ts) h = leads-by line_s lines_s (lines_s ∷ []) moves.lines_join (terminal (role_of t.kind) (spelled source t) t.place) (terminals source ts)
    (line-starts (role_of t.kind) (spelled source t) t.place ∙ h) refl

lines-pass : (source : List ℕ) (ts : List Token) → starts_line ts ≡ false → Passes lines_s (terminals source ts)
lines-pass source [] h = tt
lines-pass source (t ∷ ts) h = leads-nothing line_s lines_s (lines_s ∷ []) moves.lines_join (move line_s (terminal (role_of t.kind) (spelled source t) t.place))
    (line-starts (role_of t.kind) (spelled source t) t.place ∙ h)

pub lines-none : (source : List ℕ) (ts : List Token) → starts_line ts ≡ false → Gives lines_s (terminals source ts) no_lines (terminals source ts)
lines-none source ts h = ends lines_s no_lines (terminals source ts) refl (lines-pass source ts h)

-- a block's head
pub for-rule : (p : Place) (us : List Terminal)
    → Progress line_s (plain (marks_of.for p) ∷ us) us (name_s ∷ in_s ∷ expr_s ∷ colon_s ∷ newline_s ∷ indent_s ∷ line_s ∷ lines_s ∷ dedent_s ∷ []) (λ ss f. front line_s ss
    (repeats p f.0 f.1.1.0 f.1.1.1.1.1.1.0 f.1.1.1.1.1.1.1.0) f.1.1.1.1.1.1.1.1.1)
for-rule p us = shifts line_s (plain (marks_of.for p)) (plain (marks_of.for p) ∷ us) us (name_s ∷ in_s ∷ expr_s ∷ colon_s ∷ newline_s ∷ indent_s ∷ line_s ∷ lines_s ∷ dedent_s ∷ []) _ refl refl

-- a word at the front
pub import-front : (source : List ℕ) (ts rest : List Token) (p : Place) → Front roles.Import p ts rest → terminals source ts ≡ plain (marks_of.import p) ∷ terminals source rest
import-front source ts rest p f = (front-terminals roles.Import p ts rest source f).1

pub print-front : (source : List ℕ) (ts rest : List Token) (p : Place) → Front roles.Print p ts rest → terminals source ts ≡ plain (marks_of.print p) ∷ terminals source rest
print-front source ts rest p f = (front-terminals roles.Print p ts rest source f).1

same-behind : (r : Role) (ts : List Token) (t u : Token) (p q : Place) (a b : List Token) → FrontPair r ts t p a → FrontPair r ts u q b → a ≡ b
same-behind r ts t u p q a b f g =
    let f1 = f.name.parts in
    let g1 = g.name.parts in
    let f2 = f.second.parts in
    let g2 = g.second.parts in
    let middle : f.middle ≡ g.middle = cc in
    cc

-- a name and a dot are first, and no name and `=` behind them
pub value-none : (source : List ℕ) (ts : List Token) (t : Token) (p : Place) (dotted : List Token) → FrontPair roles.Dot ts t p dotted → LacksPair roles.Equal dotted → LacksValue source ts
value-none source ts t p dotted f l u q rest v = l v.word v.equal_place rest
    (subst (λ (xs : List Token). FrontPair roles.Equal xs v.word v.equal_place rest) (same-behind roles.Dot ts u t v.dot_place p v.dotted dotted v.first f) v.second)
