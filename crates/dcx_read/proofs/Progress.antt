-- A tree read part by part.
use Rattle.std.proofs.Common.{◌≡◌, List, [], ◌∷◌, ◌++◌, Result, Ok, Err, refl, sym, ap, subst, ◌∙◌}
use Rattle.dcx_read.specs.declared.front.Stop.{Stop}
use Rattle.dcx_read.specs.declared.front.Stop.TheVariants.{Memory, At}
use Rattle.dcx_syntax.specs.Terminal.{Terminal}
use Rattle.dcx_read.specs.Terminals.{terminals}
use Rattle.dcx_read.specs.Reading.{Forest, on_ok, read}
use Rattle.dcx_read.specs.Moves.{Symbol, Tree, trees, grammar}
use Rattle.dcx_read.specs.Steps.{Gives, Progress, Loop, StopsAt, Stops}

pub twice : {A B C E : Type 0} (g : B → C) (f : A → B) (r : Result A E) → on_ok g (on_ok f r) ≡ on_ok (λ x. g (f x)) r
twice g f (Ok x) = refl
twice g f (Err e) = refl

pub pointwise : {A B E : Type 0} (f g : A → B) → ((x : A) → f x ≡ g x) → (r : Result A E) → on_ok f r ≡ on_ok g r
pointwise f g h (Ok x) = ap (λ y. Ok y) (h x)
pointwise f g h (Err e) = refl

pub same : {A E : Type 0} (r : Result A E) → r ≡ on_ok (λ x. x) r
same (Ok x) = refl
same (Err e) = refl

abbrev pub front : (s : Symbol) (ss : List Symbol) → Tree s → Forest trees ss → Forest trees (s ∷ ss)
front s ss x f = (x, f)

-- how the trees of some parts complete a tree
abbrev pub Join : Symbol → List Symbol → Type 0
Join s parts = (ss : List Symbol) → Forest trees (parts ++ ss) → Forest trees (s ∷ ss)

pub begun : (s : Symbol) (us : List Terminal) → Loop s s us us (λ x. x)
begun s us = record { reads = λ ss. same (read grammar us (s ∷ ss)) ∙ pointwise (λ f. f) (λ f. front s ss f.0 f.1) (λ f. refl) (read grammar us (s ∷ ss)) }

-- the first part is read
pub goes : (s p : Symbol) (us rest mid : List Terminal) (ps : List Symbol) (join : Join s (p ∷ ps)) (x : Tree p) → Progress s us rest (p ∷ ps) join → Gives p rest x mid
    → Progress s us mid ps (λ ss f. join ss (front p (ps ++ ss) x f))
goes s p us rest mid ps join x h g = record {
  reads = λ ss. h.reads ss ∙ ap (λ r. on_ok (join ss) r) (g.reads (ps ++ ss)) ∙ twice (join ss) (λ f. front p (ps ++ ss) x f) (read grammar mid (ps ++ ss));
}

pub joins : (s : Symbol) (us rest : List Terminal) (parts : List Symbol) (join join' : Join s parts)
    → ((ss : List Symbol) (f : Forest trees (parts ++ ss)) → join ss f ≡ join' ss f) → Progress s us rest parts join → Progress s us rest parts join'
joins s us rest parts join join' e h = record { reads = λ ss. h.reads ss ∙ pointwise (join ss) (join' ss) (e ss) (read grammar rest (parts ++ ss)) }

-- all parts are read
pub done : (s : Symbol) (us rest : List Terminal) (join : Join s []) (x : Tree s) → ((ss : List Symbol) (f : Forest trees ss) → join ss f ≡ front s ss x f)
    → Progress s us rest [] join → Gives s us x rest
done s us rest join x e h = record { reads = λ ss. h.reads ss ∙ pointwise (join ss) (λ f. front s ss x f) (e ss) (read grammar rest ss) }

-- the last part in turn is read part by part
pub turns : (s s' : Symbol) (us rest mid : List Terminal) (parts : List Symbol) (complete : Tree s' → Tree s) (join : Join s' parts) → Loop s s' us rest complete
    → Progress s' rest mid parts join → Progress s us mid parts (λ ss f. let g = join ss f in front s ss (complete g.0) g.1)
turns s s' us rest mid parts complete join h k = record {
  reads = λ ss. h.reads ss ∙ ap (λ r. on_ok (λ f. front s ss (complete f.0) f.1) r) (k.reads ss) ∙ twice (λ f. front s ss (complete f.0) f.1) (join ss) (read grammar mid (parts ++ ss));
}

pub stops-at : (s p : Symbol) (us rest here : List Terminal) (ps : List Symbol) (join : Join s (p ∷ ps)) → Progress s us rest (p ∷ ps) join → StopsAt p rest here → StopsAt s us here
stops-at s p us rest here ps join h g = record { reads = λ ss. h.reads ss ∙ ap (λ r. on_ok (join ss) r) (g.reads (ps ++ ss)) }

pub stops : (s p : Symbol) (us rest : List Terminal) (ps : List Symbol) (join : Join s (p ∷ ps)) (source : _) (e : Stop) → Progress s us rest (p ∷ ps) join
    → Stops p source rest e → Stops s source us e
stops s p us rest ps join source Memory h g = tt
stops s p us rest ps join source (At here) h g = stops-at s p us rest (terminals source here.now) ps join h g

-- one item of a repetition: a part and the rest of the repetition
pub loop-done : (s s' : Symbol) (us rest : List Terminal) (complete : Tree s' → Tree s) (x : Tree s') (y : Tree s) → Loop s s' us rest complete
    → Gives s' rest x rest → y ≡ complete x → Gives s us y rest
loop-done s s' us rest complete x y h g e =
    done s us rest (λ ss f. front s ss (complete x) f) y (λ ss f. ap (λ z. front s ss z f) (sym e)) (goes s s' us rest rest [] (λ ss f. front s ss (complete f.0) f.1) x h g)

pub gives-is : (s : Symbol) (us rest : List Terminal) (x y : Tree s) → x ≡ y → Gives s us x rest → Gives s us y rest
gives-is s us rest x y e g = subst (λ (z : Tree s). Gives s us z rest) e g
