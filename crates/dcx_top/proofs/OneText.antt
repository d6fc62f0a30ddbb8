-- Settings have one certificate, byte by byte.
use Rattle.std.proofs.Common.{◌≡◌, ℕ, zero, suc, List, [], ◌∷◌, map, Some, refl, sym, ap, ap₂, subst, ◌∙◌}
use Rattle.std.specs.Prelude.{slice_get}
use Rattle.std.specs.List.{AllByRecursion, IsDistinct}
use Rattle.std.proofs.lemmas.Option.{none-some, same_Some}
use Rattle.std.proofs.lemmas.List.Elements.{recursion_from_All}
use Rattle.dcx_shape.specs.declared.shape.Shape.{Shape}
use Rattle.dcx_shape.specs.Shape.{sides_of}
use Rattle.dcx_atom.specs.declared.array.Array.{Array}
use Rattle.dcx_atom.proofs.OneArray.{array_from_parts}
use Rattle.dcx_point.specs.Pairs.{Pairs, names_of, same_name}
use Rattle.dcx_call.specs.declared.attribute.Variable.{Variable}
use Rattle.dcx_tree.specs.declared.problem.Problem.{Problem}
use Rattle.dcx_tree.specs.Meaning.{IsAccepted}
use Rattle.dcx_lines.specs.Shown.{variables_of, constraints_of}
use Rattle.dcx_outcomes.specs.Answers.{IsSamePoint}
use Rattle.dcx_cert_sections.specs.declared.cert.Cert.{Cert}
use Rattle.dcx_cert_sections.specs.declared.cert.Cert.TheVariants as certs
use Rattle.dcx_cert_sections.specs.declared.section.Section.{Section}
use Rattle.dcx_cert_sections.specs.declared.section.Section.TheVariants as sections
use Rattle.dcx_cert_sections.specs.declared.section.Sections.{Sections}
use Rattle.dcx_cert_sections.specs.Shown.{IsCertOf, IsSectionOf}
use Rattle.dcx_cert_outline.specs.Drawn.{problem_outline}
use Rattle.dcx_cert_runs.specs.Sections.{IsCertificateAt}
use Rattle.dcx_cert_runs.specs.Laws.{IsSameCert, IsAlike, AreAlike}
use Rattle.dcx_cert_runs.proofs.Shown.{certificates_are_of}
use Rattle.dcx_cert_runs.proofs.OneCertificate.{certificates_are_one}
use Rattle.dcx_outcomes.proofs.Same.{same_pairs, variables_distinct, by_names}

-- ---- points
shown_at : (ps : Pairs) (k : ℕ) (p : List ℕ × Array) → slice_get ps k ≡ Some p → slice_get (variables_of ps) k ≡ Some (p.0, p.1.shape)
shown_at [] k p e = absurd (none-some p e)
shown_at (q ∷ ps) zero p e = ap (λ (r : List ℕ × Array). Some (r.0, r.1.shape)) (same_Some q p e)
shown_at (q ∷ ps) (suc k) p e = shown_at ps k p e

names_shown : (ps : Pairs) (vs : List Variable) → variables_of ps ≡ map (λ (v : Variable). (v.name, v.shape)) vs → names_of ps ≡ map (λ (v : Variable). v.name) vs
names_shown [] [] e = refl
names_shown [] (v ∷ vs) e = absurd cc
names_shown (p ∷ ps) [] e = absurd cc
names_shown (p ∷ ps) (v ∷ vs) e =
    let first : ◌≡◌ {A = List ℕ × Shape} (p.0, p.1.shape) (v.name, v.shape) = cc in
    let rest : variables_of ps ≡ map (λ (w : Variable). (w.name, w.shape)) vs = cc in
    ap₂ ◌∷◌ (ap (λ (r : List ℕ × Shape). r.0) first) (names_shown ps vs rest)

one_point : (p : Problem) (x y : Pairs) → variables_of x ≡ map (λ (v : Variable). (v.name, v.shape)) p.variables
    → variables_of y ≡ map (λ (v : Variable). (v.name, v.shape)) p.variables → IsSamePoint p x y → x ≡ y
one_point p x y h k same = same_pairs x y same.names (subst (IsDistinct same_name) (sym names) (variables_distinct p)) sides (by_names p x y names same)
  where
    names : names_of x ≡ map (λ (v : Variable). v.name) p.variables
    names = names_shown x p.variables h

    sides : (i : ℕ) (f g : List ℕ × Array) → slice_get x i ≡ Some f → slice_get y i ≡ Some g → sides_of f.1.shape ≡ sides_of g.1.shape
    sides i f g at also =
        let here : slice_get (variables_of x) i ≡ Some (f.0, f.1.shape) = shown_at x i f at in
        let there : slice_get (variables_of x) i ≡ Some (g.0, g.1.shape) = subst (λ vs. slice_get vs i ≡ Some (g.0, g.1.shape)) (k ∙ sym h) (shown_at y i g also) in
        ap (λ (r : List ℕ × Shape). sides_of r.1) (same_Some (f.0, f.1.shape) (g.0, g.1.shape) (sym here ∙ there))

-- ---- certificates
one_list : (ds es : List Array) → constraints_of ds ≡ constraints_of es → map (λ (a : Array). a.entries) ds ≡ map (λ (a : Array). a.entries) es → ds ≡ es
one_list [] [] s e = refl
one_list [] (y ∷ es) s e = absurd cc
one_list (d ∷ ds) [] s e = absurd cc
one_list (d ∷ ds) (y ∷ es) s e =
    let shape : d.shape ≡ y.shape = cc in
    let entries : d.entries ≡ y.entries = cc in
    let rest : constraints_of ds ≡ constraints_of es = cc in
    let others : map (λ (a : Array). a.entries) ds ≡ map (λ (a : Array). a.entries) es = cc in
    ap₂ ◌∷◌ (array_from_parts d y shape entries) (one_list ds es rest others)

module _ (p : Problem) where
  one_cert : (c d : Cert) → IsCertOf (problem_outline p) c → IsCertOf (problem_outline p) d → IsSameCert p c d → c ≡ d
  one_cert (certs.Optimal n x ds ws us) (certs.Optimal m y es vs ts) h k same =
      let points = one_point p x y h.variables k.variables same.answer.1 in
      let duals = one_list ds es (h.constraints ∙ sym k.constraints) same.answer.2 in
      λ i. certs.Optimal (same.answer.0 i) (points i) (duals i) (same.weights i) (same.params i)
  one_cert (certs.Optimal n x ds ws us) (certs.Infeasible es g vs ts) h k same = absurd same.answer
  one_cert (certs.Optimal n x ds ws us) (certs.Unbounded y q b t ts) h k same = absurd same.answer
  one_cert (certs.Infeasible ds g ws us) (certs.Optimal m y es vs ts) h k same = absurd same.answer
  one_cert (certs.Infeasible ds g ws us) (certs.Infeasible es f vs ts) h k same =
      let duals = one_list ds es (h.constraints ∙ sym k.constraints) same.answer.1 in
      λ i. certs.Infeasible (duals i) (same.answer.0 i) (same.weights i) (same.params i)
  one_cert (certs.Infeasible ds g ws us) (certs.Unbounded y q b t ts) h k same = absurd same.answer
  one_cert (certs.Unbounded x r b t us) (certs.Optimal m y es vs ts) h k same = absurd same.answer
  one_cert (certs.Unbounded x r b t us) (certs.Infeasible es g vs ts) h k same = absurd same.answer
  one_cert (certs.Unbounded x r b t us) (certs.Unbounded y q c u ts) h k same =
      let points = one_point p x y h.variables k.variables same.answer.2 in
      let rays = one_point p r q h.ray_variables k.ray_variables same.answer.3 in
      λ i. certs.Unbounded (points i) (rays i) (same.answer.0 i) (same.answer.1 i) (same.params i)

  one_section : (x y : Section) → IsSectionOf (problem_outline p) x → IsSectionOf (problem_outline p) y → IsAlike p x y → x ≡ y
  one_section (sections.Cert c) (sections.Cert d) h k same = ap sections.Cert (one_cert c d h k same)
  one_section (sections.Cert c) sections.None h k same = absurd same
  one_section sections.None (sections.Cert d) h k same = absurd same
  one_section sections.None sections.None h k same = refl

  all_sections : (xs ys : List Section) → AllByRecursion (IsSectionOf (problem_outline p)) xs → AllByRecursion (IsSectionOf (problem_outline p)) ys → AreAlike p xs ys → xs ≡ ys
  all_sections [] [] h k same = refl
  all_sections [] (y ∷ ys) h k same = absurd same
  all_sections (x ∷ xs) [] h k same = absurd same
  all_sections (x ∷ xs) (y ∷ ys) h k same = ap₂ ◌∷◌ (one_section x y h.0 k.0 same.0) (all_sections xs ys h.1 k.1 same.1)

pub one_certificate : (p : Problem) (limit : ℕ) (settings : List Pairs) (c d : Sections) → IsAccepted p → IsCertificateAt p limit settings c → IsCertificateAt p limit settings d → c ≡ d
one_certificate p limit settings c d ok h k =
    let first = recursion_from_All (IsSectionOf (problem_outline p)) c.list (certificates_are_of p limit settings c ok h).shown in
    let second = recursion_from_All (IsSectionOf (problem_outline p)) d.list (certificates_are_of p limit settings d ok k).shown in
    let lists = all_sections p c.list d.list first second (certificates_are_one p limit settings c d ok h k) in
    let formats = h.format ∙ sym k.format in
    λ i. record { format = formats i; list = lists i }
