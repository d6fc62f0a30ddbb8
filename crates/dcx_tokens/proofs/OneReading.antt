-- A text has one reading.
use Rattle.std.proofs.Common.{◌≡◌, ℕ, List, ◌∷◌, drop, Option, sym, ap, ◌∙◌, subst}
use Rattle.std.specs.Prelude.{Result, Ok, Err}
use Rattle.dcx_tokens.specs.declared.fault.ReadFault.{ReadFault}
use Rattle.dcx_tokens.specs.declared.token.Token.{Token}
use Rattle.dcx_tokens.specs.State.{State, Answer}
use Rattle.dcx_tokens.specs.Reading.{Reads, ends, stops, goes_on, fault_of}

-- how many characters an answer tells
abbrev pub count_of : Result ℕ ReadFault → ℕ
count_of (Ok n) = n
count_of (Err f) = 0

pub one_reading : {s : State} {cs : List ℕ} {ts us : List Token} {f g : Option ReadFault} → Reads s cs ts f → Reads s cs us g → (ts ≡ us) × (f ≡ g)
one_reading (ends e a b) (ends e' a' b') =
    let q = sym e ∙ e' in
    (sym a ∙ ap (λ (p : Answer (Unit {0})). p.0.tokens) q ∙ a', sym b ∙ ap (λ (p : Answer (Unit {0})). fault_of p.1) q ∙ b')
one_reading (stops e a b) (stops e' a' b') =
    let q = sym e ∙ e' in
    (sym a ∙ ap (λ (p : Answer ℕ). p.0.tokens) q ∙ a', sym b ∙ ap (λ (p : Answer ℕ). fault_of p.1) q ∙ b')
one_reading (stops e a b) (goes_on e' r) = let q = ap (λ (p : Answer ℕ). p.1) (sym e ∙ e') in cc
one_reading (goes_on e r) (stops e' a b) = let q = ap (λ (p : Answer ℕ). p.1) (sym e ∙ e') in cc
one_reading {cs = c ∷ cs} {us = us} {g = g} (goes_on {t = t} {n = n} e r) (goes_on {t = u} {n = m} e' r') =
    let q = sym e' ∙ e in
    let states = ap (λ (p : Answer ℕ). p.0) q in
    let counts = ap (λ (p : Answer ℕ). count_of p.1) q in
    one_reading r (subst (λ (x : State). Reads x (drop n (c ∷ cs)) us g) states (subst (λ (k : ℕ). Reads u (drop k (c ∷ cs)) us g) counts r'))
