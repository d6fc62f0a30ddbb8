-- For lines of its templates there is a section, and templates have lines.
use Rattle.std.proofs.Common.{◌≡◌, ℕ, zero, suc, ◌+◌, ◌≤◌, pos, List, [], ◌∷◌, ◌++◌, Option, Some, None, length, map, take, replicate, refl, sym, ap, ap₂, ◌∙◌, arith, append_assoc}
use Rattle.std.proofs.lemmas.Int.{ints}
use Rattle.std.proofs.lemmas.List.{length-replicate}
use native.Mathlib.Nat.{eq-one_of_dvd-one}
use Rattle.std.specs.Prelude.{codes}
use Rattle.std.specs.List.{concat, enumerate_from}
use Rattle.dcx_shape.specs.declared.shape.Shape.{Shape}
use Rattle.dcx_frac.specs.declared.fraction.Frac.{Frac}
use Rattle.dcx_atom.specs.declared.array.Array.{Array}
use Rattle.dcx_point.specs.Pairs.{Pairs}
use Rattle.dcx_lines.specs.Lines.{number_line, dual_line}
use Rattle.dcx_lines.specs.Shown.{variables_of, constraints_of}
use Rattle.dcx_cert_sections.specs.declared.weights.NodeWeights.{NodeWeights}
use Rattle.dcx_cert_sections.specs.declared.cert.Cert.TheVariants as certs
use Rattle.dcx_cert_sections.specs.declared.section.Section.{Section}
use Rattle.dcx_cert_sections.specs.declared.section.Section.TheVariants as sections
use Rattle.dcx_cert_sections.specs.declared.section.Format.{Format}
use Rattle.dcx_cert_sections.specs.declared.section.Format.TheVariants.{One, Two}
use Rattle.dcx_cert_sections.specs.Shown.{Outline, AreParams, IsSectionOf, atoms_of}
use Rattle.dcx_cert_sections.specs.Formats.{HasParams, HasRays, IsSectionOfFormat}
use Rattle.dcx_cert_lines.specs.declared.kind.Kind.{Kind}
use Rattle.dcx_cert_lines.specs.declared.kind.Kind.TheVariants.{Optimal, Infeasible, Unbounded, Empty}
use Rattle.dcx_cert_lines.specs.CertText.{Line, end_line, param_lines, named_lines, node_lines, section_body}
use Rattle.dcx_cert_lines.specs.Templates.{Template, filled, IsFilled, AreFilled, Stuck, MayHead, kind_of, named_template, dual_template}
use Rattle.dcx_cert_lines.specs.Templates.{node_template, number_template, end_template, param_templates, body_templates, duals_from}
use Rattle.dcx_cert_lines.proofs.Filled.{named_is, dual_is, node_is, number_is}

-- ---- lines of templates
nothing : Frac
nothing = record { num = pos 0; den = pos 1; positive = omega (arith, ints); lowest = λ d z h. eq-one_of_dvd-one h; num_fits = omega arith; den_fits = omega arith }

some_lines : List Template → List Line
some_lines ts = map (λ t. filled t.front (replicate t.count nothing)) ts

some_filled : (ts : List Template) → AreFilled ts (some_lines ts)
unfolding some_lines
some_filled [] = tt
some_filled (t ∷ ts) = (record { numbers = replicate t.count nothing; counted = length-replicate t.count nothing; is = refl }, some_filled ts)

-- lines of the templates, so many of which stand first in the bytes
pub record HasLines (ts : List Template) (b : List ℕ) (j : ℕ) : Type 0 where
  pub lines : List Line
  pub fills : AreFilled ts lines
  pub rest : List ℕ
  pub begins : b ≡ concat (take j lines) ++ rest
  pub enough : j ≤ length lines

-- where bytes are stuck, they begin with lines of templates so far
pub stuck_begins : (ts : List Template) (b : List ℕ) (j : ℕ) → Stuck ts b j → HasLines ts b j
stuck_begins [] b j h = absurd h
stuck_begins (t ∷ ts) b zero h = record { lines = some_lines (t ∷ ts); fills = some_filled (t ∷ ts); rest = b; begins = refl; enough = omega arith }
stuck_begins (t ∷ ts) b (suc j) h =
    let line = h.1 in
    let deeper = stuck_begins ts h.0 j h.2 in
    record {
      lines = line.line ∷ deeper.lines;
      fills = (line.fits, deeper.fills);
      rest = deeper.rest;
      begins = line.begins ∙ ap (λ x. line.line ++ x) deeper.begins ∙ sym (append_assoc line.line (concat (take j deeper.lines)) deeper.rest);
      enough = omega (arith, deeper.enough);
    }

-- ---- lines of two lists of templates
pub record AreSplit (ts us : List Template) (ls : List Line) : Type 0 where
  pub front : List Line
  pub back : List Line
  pub is : ls ≡ front ++ back
  pub fronts : AreFilled ts front
  pub backs : AreFilled us back

pub split : (ts us : List Template) (ls : List Line) → AreFilled (ts ++ us) ls → AreSplit ts us ls
split [] us ls h = record { front = []; back = ls; is = refl; fronts = tt; backs = h }
split (t ∷ ts) us [] h = absurd h
split (t ∷ ts) us (l ∷ ls) h =
    let deeper = split ts us ls h.1 in
    record { front = l ∷ deeper.front; back = deeper.back; is = ap (λ x. l ∷ x) deeper.is; fronts = (h.0, deeper.fronts); backs = deeper.backs }

-- ---- what lines are of
named_made : (word : List ℕ) (slots : List (List ℕ × Shape)) (ls : List Line) → AreFilled (map (named_template word) slots) ls → (ps : Pairs) × (variables_of ps ≡ slots) × (named_lines word ps ≡ ls)
named_made word [] [] h = ([], refl, refl)
named_made word [] (l ∷ ls) h = absurd h
named_made word (s ∷ slots) [] h = absurd h
named_made word (s ∷ slots) (l ∷ ls) h =
    let array : Array = record { shape = s.1; entries = h.0.numbers; full = h.0.counted } in
    let deeper = named_made word slots ls h.1 in
    ((s.0, array) ∷ deeper.0, ap (λ x. s ∷ x) deeper.1, ap₂ (λ x xs. x ∷ xs) (named_is word (s.0, array) ∙ sym h.0.is) deeper.2)

duals_made : (n : ℕ) (shapes : List Shape) (ls : List Line) → AreFilled (map dual_template (enumerate_from n shapes)) ls
    → (ds : List Array) × (constraints_of ds ≡ shapes) × (map dual_line (enumerate_from n ds) ≡ ls)
duals_made n [] [] h = ([], refl, refl)
duals_made n [] (l ∷ ls) h = absurd h
duals_made n (s ∷ shapes) [] h = absurd h
duals_made n (s ∷ shapes) (l ∷ ls) h =
    let array : Array = record { shape = s; entries = h.0.numbers; full = h.0.counted } in
    let deeper = duals_made (n + 1) shapes ls h.1 in
    (array ∷ deeper.0, ap (λ x. s ∷ x) deeper.1, ap₂ (λ x xs. x ∷ xs) (dual_is (n, array) ∙ sym h.0.is) deeper.2)

nodes_made : (atoms : List (ℕ × ℕ)) (ls : List Line) → AreFilled (map node_template atoms) ls → (ws : List NodeWeights) × (atoms_of ws ≡ atoms) × (node_lines ws ≡ ls)
nodes_made [] [] h = ([], refl, refl)
nodes_made [] (l ∷ ls) h = absurd h
nodes_made (a ∷ atoms) [] h = absurd h
nodes_made (a ∷ atoms) (l ∷ ls) h =
    let w : NodeWeights = record { node = record { 0 = a.0 }; numbers = h.0.numbers } in
    let deeper = nodes_made atoms ls h.1 in
    let count = h.0.counted in
    (w ∷ deeper.0, ap₂ (λ x xs. x ∷ xs) (ap (λ c. (a.0, c)) count) deeper.1, ap₂ (λ x xs. x ∷ xs) (node_is w ∙ sym h.0.is) deeper.2)

number_made : (word : List ℕ) (l : Line) → IsFilled (number_template word) l → (f : Frac) × (number_line word f ≡ l)
number_made word l h = by h.numbers h.counted h.is
  where
    by : (ns : List Frac) → length ns ≡ 1 → l ≡ filled word ns → (f : Frac) × (number_line word f ≡ l)
    by [] count is = absurd (omega (arith, count))
    by (f ∷ []) count is = (f, number_is word f ∙ sym is)
    by (f ∷ g ∷ ns) count is = absurd (omega (arith, count))

end_made : (ls : List Line) → AreFilled (end_template ∷ []) ls → end_line ∷ [] ≡ ls
unfolding end_line
end_made [] h = absurd h
end_made (l ∷ m ∷ ls) h = absurd h.1
end_made (l ∷ []) h = by h.0.numbers h.0.counted h.0.is
  where
    by : (ns : List Frac) → length ns ≡ 0 → l ≡ filled (codes "end") ns → end_line ∷ [] ≡ l ∷ []
    by [] count is = ap (λ x. x ∷ []) (sym is)
    by (f ∷ ns) count is = absurd (omega (arith, count))

params_made : (format : Format) (outline : Outline) (ls : List Line) → AreFilled (param_templates format outline) ls
    → (params : Option Pairs) × AreParams outline params × HasParams format params × (param_lines params ≡ ls)
params_made One outline [] h = (None, tt, tt, refl)
params_made One outline (l ∷ ls) h = absurd h
params_made Two outline ls h = let values = named_made (codes "param") outline.parameters ls h in (Some values.0, values.1, tt, values.2)

numbers_made : (word : List ℕ) (ls : List Line) → AreFilled (number_template word ∷ []) ls → (f : Frac) × (number_line word f ∷ [] ≡ ls)
numbers_made word [] h = absurd h
numbers_made word (l ∷ m ∷ ls) h = absurd h.1
numbers_made word (l ∷ []) h = let n = number_made word l h.0 in (n.0, ap (λ x. x ∷ []) n.1)

rays : (format : Format) → MayHead format Unbounded → HasRays format
rays One may = absurd may
rays Two may = tt

-- ---- sections
-- a section of the kind, for the problem and the format, with these lines behind its first
pub record IsMade (format : Format) (outline : Outline) (kind : Kind) (ls : List Line) : Type 0 where
  pub section : Section
  pub has_kind : kind_of section ≡ kind
  pub shown : IsSectionOf outline section
  pub of_format : IsSectionOfFormat format section
  pub body : section_body section ≡ ls

-- the lines behind the first make a section
pub section_made : (format : Format) (outline : Outline) (kind : Kind) (ls : List Line) → MayHead format kind → AreFilled (body_templates format outline kind) ls → IsMade format outline kind ls
section_made format outline Optimal ls may h =
    let a = split (param_templates format outline) _ ls h in
    let b = split (number_template (codes "value") ∷ []) _ a.back a.backs in
    let c = split (map (named_template (codes "var")) outline.variables) _ b.back b.backs in
    let d = split (duals_from 1 outline.constraints) _ c.back c.backs in
    let e = split (map node_template outline.atoms) _ d.back d.backs in
    let params = params_made format outline a.front a.fronts in
    let value = numbers_made (codes "value") b.front b.fronts in
    let point = named_made (codes "var") outline.variables c.front c.fronts in
    let duals = duals_made 1 outline.constraints d.front d.fronts in
    let weights = nodes_made outline.atoms e.front e.fronts in
    let last = end_made e.back e.backs in
    record {
      section = sections.Cert (certs.Optimal value.0 point.0 duals.0 weights.0 params.0);
      has_kind = refl;
      shown = record { variables = point.1; constraints = duals.1; atoms = weights.1; parameters = params.1 };
      of_format = params.2;
      body =
          ap₂ (◌++◌) params.3 (ap₂ (◌++◌) value.1 (ap₂ (◌++◌) point.2 (ap₂ (◌++◌) duals.2 (ap₂ (◌++◌) weights.2 last ∙ sym e.is) ∙ sym d.is) ∙ sym c.is) ∙ sym b.is) ∙ sym a.is;
    }
section_made format outline Infeasible ls may h =
    let a = split (param_templates format outline) _ ls h in
    let b = split (number_template (codes "gap") ∷ []) _ a.back a.backs in
    let d = split (duals_from 1 outline.constraints) _ b.back b.backs in
    let e = split (map node_template outline.atoms) _ d.back d.backs in
    let params = params_made format outline a.front a.fronts in
    let gap = numbers_made (codes "gap") b.front b.fronts in
    let duals = duals_made 1 outline.constraints d.front d.fronts in
    let weights = nodes_made outline.atoms e.front e.fronts in
    let last = end_made e.back e.backs in
    record {
      section = sections.Cert (certs.Infeasible duals.0 gap.0 weights.0 params.0);
      has_kind = refl;
      shown = record { constraints = duals.1; atoms = weights.1; parameters = params.1 };
      of_format = params.2;
      body =
          ap₂ (◌++◌) params.3 (ap₂ (◌++◌) gap.1 (ap₂ (◌++◌) duals.2 (ap₂ (◌++◌) weights.2 last ∙ sym e.is) ∙ sym d.is) ∙ sym b.is) ∙ sym a.is;
    }
section_made format outline Unbounded ls may h =
    let from_ray : List Template = map (named_template (codes "ray")) outline.variables ++ (end_template ∷ []) in
    let from_var : List Template = map (named_template (codes "var")) outline.variables ++ from_ray in
    let from_slope : List Template = number_template (codes "slope") ∷ from_var in
    let a = split (param_templates format outline) (number_template (codes "bound") ∷ from_slope) ls h in
    let b = split (number_template (codes "bound") ∷ []) from_slope a.back a.backs in
    let c = split (number_template (codes "slope") ∷ []) from_var b.back b.backs in
    let d = split (map (named_template (codes "var")) outline.variables) from_ray c.back c.backs in
    let e = split (map (named_template (codes "ray")) outline.variables) (end_template ∷ []) d.back d.backs in
    let params = params_made format outline a.front a.fronts in
    let bound = numbers_made (codes "bound") b.front b.fronts in
    let slope = numbers_made (codes "slope") c.front c.fronts in
    let point = named_made (codes "var") outline.variables d.front d.fronts in
    let ray = named_made (codes "ray") outline.variables e.front e.fronts in
    let last = end_made e.back e.backs in
    record {
      section = sections.Cert (certs.Unbounded point.0 ray.0 bound.0 slope.0 params.0);
      has_kind = refl;
      shown = record { variables = point.1; ray_variables = ray.1; parameters = params.1 };
      of_format = (rays format may, params.2);
      body =
          ap₂ (◌++◌) params.3 (ap₂ (◌++◌) bound.1 (ap₂ (◌++◌) slope.1 (ap₂ (◌++◌) point.2 (ap₂ (◌++◌) ray.2 last ∙ sym e.is) ∙ sym d.is) ∙ sym c.is) ∙ sym b.is) ∙ sym a.is;
    }
section_made format outline Empty ls may h = record { section = sections.None; has_kind = refl; shown = tt; of_format = tt; body = end_made ls h }
