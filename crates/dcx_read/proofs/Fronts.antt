-- What stands at the front of the tokens, as terminals.
use Rattle.std.proofs.Common.{◌≡◌, ◌-◌, ℕ, List, [], ◌∷◌, ◌++◌, Err, refl, sym, ap, ◌∙◌}
use Rattle.dcx_shape.specs.declared.place.Place.{Place}
use Rattle.dcx_tokens.specs.declared.token.Token.{Token}
use Rattle.dcx_read.specs.declared.role.Role.{Role}
use Rattle.dcx_read.specs.declared.role.Role.TheVariants as roles
use Rattle.dcx_syntax.specs.declared.tree.Sign.{Sign}
use Rattle.dcx_read.specs.Role.{role_of}
use Rattle.dcx_syntax.specs.declared.tree.Signed.{Signed}
use Rattle.dcx_syntax.specs.Expressions.{signs_text}
use Rattle.dcx_syntax.specs.Terminal.{plain, signs, Terminal}
use Rattle.dcx_read.specs.Terminals.{terminal, terminals, spelled, named_by}
use Rattle.dcx_read.specs.Reading.{pass, on_ok, read}
use Rattle.dcx_read.specs.Moves.{Symbol, name_s, move, grammar}
use Rattle.dcx_read.specs.Steps.{Gives, StopsAt, Front, Lacks}
use Rattle.dcx_read.proofs.Progress.{front}

pub front-terminals : (r : Role) (p : Place) (ts rest : List Token) (source : List ℕ) → Front r p ts rest → (bytes : List ℕ) × (terminals source ts ≡ terminal r bytes p ∷ terminals source rest)
front-terminals r p ts rest source f = (spelled source f.token, ap (terminals source) f.parts ∙ rw (f.role, f.at) refl)

-- no tree of s begins with the first terminal, if there is one
abbrev pub Passes : Symbol → List Terminal → Type 0
Passes s [] = Unit {0}
Passes s (u ∷ us) = move s u ≡ pass

-- where no token of some roles is first, a symbol is passed that passes all other roles
pub passes : (s : Symbol) (source : List ℕ) (Bad : Role → Type 0) (ts : List Token) → ((r : Role) (bytes : List ℕ) (p : Place) → (Bad r → ⊥) → move s (terminal r bytes p) ≡ pass)
    → ((t : Token) (rest : List Token) → ts ≡ t ∷ rest → Bad (role_of t.kind) → ⊥) → Passes s (terminals source ts)
passes s source Bad [] h l = tt
passes s source Bad (t ∷ ts) h l = h (role_of t.kind) (spelled source t) t.place (l t ts refl)

pub name-passes : (r : Role) (bytes : List ℕ) (p : Place) → (r ≡ roles.Name → ⊥) → move name_s (terminal r bytes p) ≡ pass
name-passes roles.Name bytes p n = absurd (n refl)
name-passes r bytes p n = refl

name-reads : (source : List ℕ) (ts rest : List Token) (t : Token) → ts ≡ t ∷ rest → role_of t.kind ≡ roles.Name → (ss : List Symbol)
    → read grammar (terminals source ts) (name_s ∷ ss) ≡ on_ok (λ f. front name_s ss (named_by source t) f) (read grammar (terminals source rest) ss)
unfolding read
name-reads source ts rest t e r ss = rw (e, r) refl

pub name-gives : (source : List ℕ) (ts rest : List Token) (t : Token) → ts ≡ t ∷ rest → role_of t.kind ≡ roles.Name → Gives name_s (terminals source ts) (named_by source t) (terminals source rest)
name-gives source ts rest t e r = record { reads = name-reads source ts rest t e r }

name-refused : (source : List ℕ) (us : List Terminal) → Passes name_s us → (ss : List Symbol) → read grammar us (name_s ∷ ss) ≡ Err us
unfolding read
name-refused source [] m ss = refl
name-refused source (u ∷ us) m ss = rw m refl

pub name-stops : (source : List ℕ) (ts : List Token) → Lacks roles.Name ts → StopsAt name_s (terminals source ts) (terminals source ts)
name-stops source ts l = record { reads = name-refused source (terminals source ts) (passes name_s source (λ r. r ≡ roles.Name) ts name-passes l) }

signs_text-append : (ss : List Signed) (s : Signed) (us : List Terminal) → signs_text (ss ++ s ∷ []) ++ us ≡ signs_text ss ++ plain (signs s.sign s.place) ∷ us
signs_text-append [] s us = refl
signs_text-append (x ∷ ss) s us = ap (λ (y : List Terminal). plain (signs x.sign x.place) ∷ y) (signs_text-append ss s us)

pub signs-begin : (source : List ℕ) (ts : List Token) (none : List Signed) → none ≡ [] → terminals source ts ≡ signs_text none ++ terminals source ts
signs-begin source ts none e = rw e refl

pub signs-more : (source : List ℕ) (ts mid rest : List Token) (old new : List Signed) (s : Sign) (p : Place) → terminals source ts ≡ signs_text old ++ terminals source mid
    → Front (roles.Signs s) p mid rest → new ≡ old ++ record { sign = s; place = p } ∷ [] → terminals source ts ≡ signs_text new ++ terminals source rest
signs-more source ts mid rest old new s p e f n =
    let h = front-terminals (roles.Signs s) p mid rest source f in
    e ∙ ap (λ (us : List Terminal). signs_text old ++ us) h.1 ∙ sym (signs_text-append old (record { sign = s; place = p }) (terminals source rest))
    ∙ ap (λ (ss : List Signed). signs_text ss ++ terminals source rest) (sym n)
