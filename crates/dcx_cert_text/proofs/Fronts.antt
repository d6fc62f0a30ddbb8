-- The lines up to which bytes agree with a certificate are all those before one line.
use Rattle.std.proofs.Common.{◌≡◌, ℕ, ◌<◌, ◌≤◌, List, ◌++◌, take, drop, refl, sym, ap, ◌∙◌, arith, append_assoc, take-take}
use Rattle.std.proofs.lemmas.List.{take-append-drop}
use Rattle.std.proofs.lemmas.List.Folds.{concat-append}
use Rattle.std.specs.List.{concat}
use Rattle.dcx_cert_sections.specs.Shown.{Outline}
use Rattle.dcx_cert_sections.specs.declared.section.Sections.{Sections}
use Rattle.dcx_answer.specs.declared.cert_fault.CertFault.{CertFault}
use Rattle.dcx_answer.specs.declared.cert_fault.CertFault.TheVariants as the
use Rattle.dcx_cert_lines.specs.CertText.{Line, all_lines}
use Rattle.dcx_cert_lines.specs.Forms.{IsTextOf, Agrees, IsMisfit, IsReadFault}

-- some lines in front of others
fewer_lines : (j k : ℕ) (ls : List Line) (b z : List ℕ) → j ≤ k → b ≡ concat (take k ls) ++ z → b ≡ concat (take j ls) ++ (concat (drop j (take k ls)) ++ z)
fewer_lines j k ls b z few e =
    let front : take j (take k ls) ≡ take j ls = take-take j k ls few in
    e ∙ ap (λ x. concat x ++ z) (sym (take-append-drop j (take k ls))) ∙ ap (λ x. x ++ z) (concat-append (take j (take k ls)) (drop j (take k ls)))
    ∙ ap (λ x. (concat x ++ concat (drop j (take k ls))) ++ z) front ∙ append_assoc (concat (take j ls)) (concat (drop j (take k ls))) z

-- bytes that agree with a certificate up to a line do so up to each line before it
pub fewer : (outline : Outline) (count : ℕ) (bytes : List ℕ) (j k : ℕ) → j ≤ k → Agrees outline count bytes k → Agrees outline count bytes j
fewer outline count bytes j k few a = record {
  sections = a.sections;
  certificate = a.certificate;
  enough = omega (arith, few, a.enough);
  rest = concat (drop j (take k (all_lines a.sections))) ++ a.rest;
  begins = fewer_lines j k (all_lines a.sections) bytes a.rest few a.begins;
}

pub goes_on : (outline : Outline) (count : ℕ) (bytes : List ℕ) (line k : ℕ) → IsMisfit outline count bytes line
    → (k < line → Agrees outline count bytes k) × (line ≤ k → Agrees outline count bytes k → ⊥)
goes_on outline count bytes line k h =
    (λ l. fewer outline count bytes k h.done (omega (arith, l, h.next)) h.before, λ l a. h.here (fewer outline count bytes line k l a))

pub one_line : (outline : Outline) (count : ℕ) (bytes : List ℕ) (l m : ℕ) → IsMisfit outline count bytes l → IsMisfit outline count bytes m → l ≡ m
one_line outline count bytes l m h k =
    let first = (goes_on outline count bytes l k.done h).1 in
    let second = (goes_on outline count bytes m h.done k).1 in
    let low : l ≤ k.done → ⊥ = λ q. first q k.before in
    let high : m ≤ h.done → ⊥ = λ q. second q h.before in
    omega (arith, low, high, h.next, k.next)

pub only_memory : (outline : Outline) (count : ℕ) (bytes : List ℕ) (s : Sections) (fault : CertFault) → IsTextOf outline count bytes s → IsReadFault outline count bytes fault → fault ≡ the.Memory
only_memory outline count bytes s (the.Form line) t h = absurd (h.no_text s t)
only_memory outline count bytes s (the.Fit stop) t h = absurd h
only_memory outline count bytes s (the.Setting p e x y) t h = absurd h
only_memory outline count bytes s (the.Domain v e x) t h = absurd h
only_memory outline count bytes s (the.Constraint c e x y) t h = absurd h
only_memory outline count bytes s (the.Value x y) t h = absurd h
only_memory outline count bytes s (the.DualSign c e x) t h = absurd h
only_memory outline count bytes s (the.Gap x) t h = absurd h
only_memory outline count bytes s (the.Slope n e x y) t h = absurd h
only_memory outline count bytes s (the.Variable v e x) t h = absurd h
only_memory outline count bytes s (the.Bound x y) t h = absurd h
only_memory outline count bytes s (the.Descent x) t h = absurd h
only_memory outline count bytes s (the.RayDomain v e x) t h = absurd h
only_memory outline count bytes s (the.RayConstraint c e x y) t h = absurd h
only_memory outline count bytes s (the.RayValue x y) t h = absurd h
only_memory outline count bytes s (the.Wide passes) t h = absurd h
only_memory outline count bytes s the.Memory t h = refl
