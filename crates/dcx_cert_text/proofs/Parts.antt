-- The parts of two sections that stand in one place are one, and so is what stands behind them.
use Rattle.std.proofs.Common.{◌≡◌, ℕ, List, [], ◌∷◌, ◌++◌, Option, Some, None, length, refl, sym, ap, ◌∙◌, append_assoc}
use Rattle.std.proofs.lemmas.List.{append_cancel_left}
use Rattle.std.specs.Prelude.{codes}
use Rattle.std.specs.List.{AllZip, flat_map}
use Rattle.dcx_frac.specs.declared.fraction.Frac.{Frac}
use Rattle.dcx_point.specs.Pairs.{Pairs}
use Rattle.dcx_lines.specs.Pieces.{entry_text}
use Rattle.dcx_lines.specs.Lines.{named_line}
use Rattle.dcx_lines.proofs.Reading.{entries_read, lines_read, points_read}
use Rattle.dcx_cert_sections.specs.declared.weights.NodeWeights.{NodeWeights}
use Rattle.dcx_cert_sections.specs.declared.section.Format.{Format}
use Rattle.dcx_cert_sections.specs.declared.section.Format.TheVariants.{One, Two}
use Rattle.dcx_cert_sections.specs.Shown.{Outline, AreParams, atoms_of}
use Rattle.dcx_cert_sections.specs.Formats.{HasParams}
use Rattle.dcx_cert_lines.specs.CertText.{node_line}
use Rattle.dcx_cert_lines.specs.Templates.{filled, node_front}
use Rattle.dcx_cert_lines.proofs.Filled.{node_is}
use Rattle.dcx_cert_text.specs.Written.{params_text}
use Rattle.dcx_cert_text.proofs.Joined.{values_text}

-- the values of the parameters
pub params_read : (format : Format) (outline : Outline) (p q : Option Pairs) (r s : List ℕ) → AreParams outline p → HasParams format p → AreParams outline q → HasParams format q
    → params_text p ++ r ≡ params_text q ++ s → (p ≡ q) × (r ≡ s)
params_read One outline None None r s hp fp hq fq e = (refl, e)
params_read One outline None (Some y) r s hp fp hq fq e = absurd fq
params_read One outline (Some x) q r s hp fp hq fq e = absurd fp
params_read Two outline None q r s hp fp hq fq e = absurd fp
params_read Two outline (Some x) None r s hp fp hq fq e = absurd fq
params_read Two outline (Some x) (Some y) r s hp fp hq fq e =
    let lines : flat_map (named_line (codes "param")) x ++ r ≡ flat_map (named_line (codes "param")) y ++ s =
    ap (λ t. t ++ r) (values_text (Some x) x refl) ∙ e ∙ ap (λ t. t ++ s) (sym (values_text (Some y) y refl)) in
    let both = points_read (codes "param") x y r s (hp ∙ sym hq) lines in
    (ap Some both.0, both.1)

-- the weights of one atom
pub record SameAtom (w v : NodeWeights) : Type 0 where
  pub node : w.node.0 ≡ v.node.0

line_parts : (front : List ℕ) (ns : List Frac) (r : List ℕ) → filled front ns ++ r ≡ front ++ (flat_map entry_text ns ++ 10 ∷ r)
line_parts front ns r = simp append_assoc

weights_from : (w v : NodeWeights) → w.node.0 ≡ v.node.0 → w.numbers ≡ v.numbers → w ≡ v
weights_from w v p q = λ i. record { node = record { 0 = p i }; numbers = q i }

node_read : (w v : NodeWeights) (r s : List ℕ) → SameAtom w v → node_line w ++ r ≡ node_line v ++ s → (w ≡ v) × (r ≡ s)
node_read w v r s same e =
    let front : node_front w.node.0 ≡ node_front v.node.0 = ap node_front same.node in
    let first : node_line w ++ r ≡ node_front v.node.0 ++ (flat_map entry_text w.numbers ++ 10 ∷ r) =
    ap (λ t. t ++ r) (node_is w) ∙ line_parts (node_front w.node.0) w.numbers r ∙ ap (λ f. f ++ (flat_map entry_text w.numbers ++ 10 ∷ r)) front in
    let second : node_line v ++ s ≡ node_front v.node.0 ++ (flat_map entry_text v.numbers ++ 10 ∷ s) =
    ap (λ t. t ++ s) (node_is v) ∙ line_parts (node_front v.node.0) v.numbers s in
    let both = entries_read w.numbers v.numbers r s (append_cancel_left (node_front v.node.0) _ _ (sym first ∙ e ∙ second)) in
    (weights_from w v same.node both.0, both.1)

-- an atom's node, and how many weights it has
abbrev counted : NodeWeights → ℕ × ℕ
counted w = (w.node.0, length w.numbers)

same_atoms : (ws vs : List NodeWeights) → atoms_of ws ≡ atoms_of vs → AllZip SameAtom ws vs
same_atoms [] [] e = tt
same_atoms [] (v ∷ vs) e = cc
same_atoms (w ∷ ws) [] e = cc
same_atoms (w ∷ ws) (v ∷ vs) e =
    let head : counted w ≡ counted v = cc in
    let tail : atoms_of ws ≡ atoms_of vs = cc in
    (record { node = ap (λ p. p.0) head }, same_atoms ws vs tail)

-- the weights of all atoms
pub nodes_read : (ws vs : List NodeWeights) (r s : List ℕ) → atoms_of ws ≡ atoms_of vs → flat_map node_line ws ++ r ≡ flat_map node_line vs ++ s → (ws ≡ vs) × (r ≡ s)
nodes_read ws vs r s same e = lines_read node_line SameAtom (λ a b. node_read a b) ws vs r s (same_atoms ws vs same) e
