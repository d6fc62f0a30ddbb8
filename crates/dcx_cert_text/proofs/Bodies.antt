-- Two sections that stand in one place are one.
use Rattle.std.proofs.Common.{◌≡◌, ℕ, List, ◌++◌, Option, refl, sym, ap, ◌∙◌, append_assoc}
use Rattle.std.proofs.lemmas.List.{append_cancel_left}
use Rattle.std.specs.Prelude.{codes}
use Rattle.std.specs.List.{flat_map, enumerate_from}
use Rattle.dcx_frac.specs.declared.fraction.Frac.{Frac}
use Rattle.dcx_atom.specs.declared.array.Array.{Array}
use Rattle.dcx_point.specs.Pairs.{Pairs}
use Rattle.dcx_lines.specs.Lines.{named_line, dual_line, number_line}
use Rattle.dcx_lines.proofs.Reading.{number_read, points_read, duals_read}
use Rattle.dcx_cert_sections.specs.declared.weights.NodeWeights.{NodeWeights}
use Rattle.dcx_cert_sections.specs.declared.cert.Cert.TheVariants as certs
use Rattle.dcx_cert_sections.specs.declared.section.Section.{Section}
use Rattle.dcx_cert_sections.specs.declared.section.Section.TheVariants as sections
use Rattle.dcx_cert_sections.specs.declared.section.Format.{Format}
use Rattle.dcx_cert_sections.specs.Shown.{Outline}
use Rattle.dcx_cert_lines.specs.CertText.{node_line, end_line}
use Rattle.dcx_cert_lines.specs.Templates.{kind_of}
use Rattle.dcx_cert_lines.proofs.Wholes.{IsValid}
use Rattle.dcx_cert_text.specs.Written.{params_text, body_text}
use Rattle.dcx_cert_text.proofs.Joined.{optimal_text, infeasible_text, unbounded_text}
use Rattle.dcx_cert_text.proofs.Parts.{params_read, nodes_read}

-- what stands behind the parts
five : (a b c d f r : List ℕ) → (a ++ (b ++ (c ++ (d ++ f)))) ++ r ≡ a ++ (b ++ (c ++ (d ++ (f ++ r))))
five a b c d f r = simp append_assoc

six : (a b c d f g r : List ℕ) → (a ++ (b ++ (c ++ (d ++ (f ++ g))))) ++ r ≡ a ++ (b ++ (c ++ (d ++ (f ++ (g ++ r)))))
six a b c d f g r = simp append_assoc

module _ (format : Format) (outline : Outline) (x y : List ℕ) where
  optimal_read : (value value' : Frac) (point point' : Pairs) (duals duals' : List Array) (weights weights' : List NodeWeights) (params params' : Option Pairs)
      → IsValid format outline (sections.Cert (certs.Optimal value point duals weights params)) → IsValid format outline (sections.Cert (certs.Optimal value' point' duals' weights' params'))
      → body_text (sections.Cert (certs.Optimal value point duals weights params)) ++ x ≡ body_text (sections.Cert (certs.Optimal value' point' duals' weights' params')) ++ y
      → (sections.Cert (certs.Optimal value point duals weights params) ≡ sections.Cert (certs.Optimal value' point' duals' weights' params')) × (x ≡ y)
  optimal_read value value' point point' duals duals' weights weights' params params' h k e =
      let whole = λ (v : Frac) (p : Pairs) (d : List Array) (w : List NodeWeights) (q : Option Pairs) (z : List ℕ).
      ap (λ t. t ++ z) (optimal_text v p d w q) ∙ six (params_text q) (number_line (codes "value") v) (flat_map (named_line (codes "var")) p) (flat_map dual_line (enumerate_from 1 d))
      (flat_map node_line w) end_line z in
      let all = sym (whole value point duals weights params x) ∙ e ∙ whole value' point' duals' weights' params' y in
      let first = params_read format outline params params' _ _ h.shown.parameters h.of_format k.shown.parameters k.of_format all in
      let second = number_read (codes "value") value value' _ _ first.1 in
      let third = points_read (codes "var") point point' _ _ (h.shown.variables ∙ sym k.shown.variables) second.1 in
      let fourth = duals_read duals duals' _ _ (h.shown.constraints ∙ sym k.shown.constraints) third.1 in
      let fifth = nodes_read weights weights' _ _ (h.shown.atoms ∙ sym k.shown.atoms) fourth.1 in
      let rest = append_cancel_left end_line x y fifth.1 in
      (λ i. sections.Cert (certs.Optimal (second.0 i) (third.0 i) (fourth.0 i) (fifth.0 i) (first.0 i)), rest)

  infeasible_read : (duals duals' : List Array) (gap gap' : Frac) (weights weights' : List NodeWeights) (params params' : Option Pairs)
      → IsValid format outline (sections.Cert (certs.Infeasible duals gap weights params)) → IsValid format outline (sections.Cert (certs.Infeasible duals' gap' weights' params'))
      → body_text (sections.Cert (certs.Infeasible duals gap weights params)) ++ x ≡ body_text (sections.Cert (certs.Infeasible duals' gap' weights' params')) ++ y
      → (sections.Cert (certs.Infeasible duals gap weights params) ≡ sections.Cert (certs.Infeasible duals' gap' weights' params')) × (x ≡ y)
  infeasible_read duals duals' gap gap' weights weights' params params' h k e =
      let whole = λ (d : List Array) (g : Frac) (w : List NodeWeights) (q : Option Pairs) (z : List ℕ).
      ap (λ t. t ++ z) (infeasible_text d g w q) ∙ five (params_text q) (number_line (codes "gap") g) (flat_map dual_line (enumerate_from 1 d)) (flat_map node_line w) end_line z in
      let all = sym (whole duals gap weights params x) ∙ e ∙ whole duals' gap' weights' params' y in
      let first = params_read format outline params params' _ _ h.shown.parameters h.of_format k.shown.parameters k.of_format all in
      let second = number_read (codes "gap") gap gap' _ _ first.1 in
      let third = duals_read duals duals' _ _ (h.shown.constraints ∙ sym k.shown.constraints) second.1 in
      let fourth = nodes_read weights weights' _ _ (h.shown.atoms ∙ sym k.shown.atoms) third.1 in
      let rest = append_cancel_left end_line x y fourth.1 in
      (λ i. sections.Cert (certs.Infeasible (third.0 i) (second.0 i) (fourth.0 i) (first.0 i)), rest)

  unbounded_read : (point point' ray ray' : Pairs) (bound bound' slope slope' : Frac) (params params' : Option Pairs)
      → IsValid format outline (sections.Cert (certs.Unbounded point ray bound slope params)) → IsValid format outline (sections.Cert (certs.Unbounded point' ray' bound' slope' params'))
      → body_text (sections.Cert (certs.Unbounded point ray bound slope params)) ++ x ≡ body_text (sections.Cert (certs.Unbounded point' ray' bound' slope' params')) ++ y
      → (sections.Cert (certs.Unbounded point ray bound slope params) ≡ sections.Cert (certs.Unbounded point' ray' bound' slope' params')) × (x ≡ y)
  unbounded_read point point' ray ray' bound bound' slope slope' params params' h k e =
      let whole = λ (p d : Pairs) (b m : Frac) (q : Option Pairs) (z : List ℕ).
      ap (λ t. t ++ z) (unbounded_text p d b m q) ∙ six (params_text q) (number_line (codes "bound") b) (number_line (codes "slope") m) (flat_map (named_line (codes "var")) p)
      (flat_map (named_line (codes "ray")) d) end_line z in
      let all = sym (whole point ray bound slope params x) ∙ e ∙ whole point' ray' bound' slope' params' y in
      let first = params_read format outline params params' _ _ h.shown.parameters h.of_format.1 k.shown.parameters k.of_format.1 all in
      let second = number_read (codes "bound") bound bound' _ _ first.1 in
      let third = number_read (codes "slope") slope slope' _ _ second.1 in
      let fourth = points_read (codes "var") point point' _ _ (h.shown.variables ∙ sym k.shown.variables) third.1 in
      let fifth = points_read (codes "ray") ray ray' _ _ (h.shown.ray_variables ∙ sym k.shown.ray_variables) fourth.1 in
      let rest = append_cancel_left end_line x y fifth.1 in
      (λ i. sections.Cert (certs.Unbounded (fourth.0 i) (fifth.0 i) (second.0 i) (third.0 i) (first.0 i)), rest)

-- what stands behind the first line of a section
pub body_read : (format : Format) (outline : Outline) (s t : Section) (x y : List ℕ) → IsValid format outline s → IsValid format outline t → kind_of s ≡ kind_of t
    → body_text s ++ x ≡ body_text t ++ y → (s ≡ t) × (x ≡ y)
body_read format outline (sections.Cert (certs.Optimal v p d w q)) (sections.Cert (certs.Optimal v' p' d' w' q')) x y h k same e = optimal_read format outline x y v v' p p' d d' w w' q q' h k e
body_read format outline (sections.Cert (certs.Optimal v p d w q)) (sections.Cert (certs.Infeasible d' g' w' q')) x y h k same e = cc
body_read format outline (sections.Cert (certs.Optimal v p d w q)) (sections.Cert (certs.Unbounded p' r' b' m' q')) x y h k same e = cc
body_read format outline (sections.Cert (certs.Optimal v p d w q)) sections.None x y h k same e = cc
body_read format outline (sections.Cert (certs.Infeasible d g w q)) (sections.Cert (certs.Optimal v' p' d' w' q')) x y h k same e = cc
body_read format outline (sections.Cert (certs.Infeasible d g w q)) (sections.Cert (certs.Infeasible d' g' w' q')) x y h k same e = infeasible_read format outline x y d d' g g' w w' q q' h k e
body_read format outline (sections.Cert (certs.Infeasible d g w q)) (sections.Cert (certs.Unbounded p' r' b' m' q')) x y h k same e = cc
body_read format outline (sections.Cert (certs.Infeasible d g w q)) sections.None x y h k same e = cc
body_read format outline (sections.Cert (certs.Unbounded p r b m q)) (sections.Cert (certs.Optimal v' p' d' w' q')) x y h k same e = cc
body_read format outline (sections.Cert (certs.Unbounded p r b m q)) (sections.Cert (certs.Infeasible d' g' w' q')) x y h k same e = cc
body_read format outline (sections.Cert (certs.Unbounded p r b m q)) (sections.Cert (certs.Unbounded p' r' b' m' q')) x y h k same e = unbounded_read format outline x y p p' r r' b b' m m' q q' h k e
body_read format outline (sections.Cert (certs.Unbounded p r b m q)) sections.None x y h k same e = cc
body_read format outline sections.None (sections.Cert (certs.Optimal v' p' d' w' q')) x y h k same e = cc
body_read format outline sections.None (sections.Cert (certs.Infeasible d' g' w' q')) x y h k same e = cc
body_read format outline sections.None (sections.Cert (certs.Unbounded p' r' b' m' q')) x y h k same e = cc
body_read format outline sections.None sections.None x y h k same e = (refl, append_cancel_left (body_text sections.None) x y e)
