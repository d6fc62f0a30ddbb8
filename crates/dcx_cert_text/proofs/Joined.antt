-- Lines that are appended one after another are the lines joined.
use Rattle.std.proofs.Common.{◌≡◌, ℕ, ◌+◌, Option, Some, List, [], ◌∷◌, ◌++◌, map, refl, sym, ap, ap₂, ◌∙◌, append_assoc}
use Rattle.std.proofs.lemmas.List.{append-nil}
use Rattle.std.proofs.lemmas.List.Folds.{concat-append}
use Rattle.std.specs.Prelude.{codes}
use Rattle.std.specs.List.{concat, flat_map, enumerate_from}
use Rattle.dcx_frac.specs.declared.fraction.Frac.{Frac}
use Rattle.dcx_atom.specs.declared.array.Array.{Array}
use Rattle.dcx_point.specs.Pairs.{Pairs}
use Rattle.dcx_lines.specs.Lines.{named_line, dual_line, number_line}
use Rattle.dcx_cert_sections.specs.declared.weights.NodeWeights.{NodeWeights}
use Rattle.dcx_cert_sections.specs.declared.cert.Cert.TheVariants as certs
use Rattle.dcx_cert_sections.specs.declared.section.Section.{Section}
use Rattle.dcx_cert_sections.specs.declared.section.Section.TheVariants as sections
use Rattle.dcx_cert_lines.specs.CertText.{Line, end_line, node_line, param_lines, named_lines, dual_lines, node_lines, section_lines}
use Rattle.dcx_cert_text.specs.Written.{section_text, params_text, body_text}

pub joined : {A : Type 0} (f : A → Line) (xs : List A) → concat (map f xs) ≡ flat_map f xs
joined f [] = refl
joined f (x ∷ xs) = ap (λ t. f x ++ t) (joined f xs)

-- a line, and others behind it
pub line_then : (l : Line) (ls : List Line) (x y : List ℕ) → l ≡ x → concat ls ≡ y → concat (l ∷ ls) ≡ x ++ y
line_then l ls x y e f = ap₂ (◌++◌) e f

-- lines, and others behind them
pub lines_then : (ls ms : List Line) (x y : List ℕ) → concat ls ≡ x → concat ms ≡ y → concat (ls ++ ms) ≡ x ++ y
lines_then ls ms x y e f = concat-append ls ms ∙ ap₂ (◌++◌) e f

pub last_line : (l : Line) → concat (l ∷ []) ≡ l
last_line l = append-nil l

-- all sections
pub sections_joined : (n : ℕ) (list : List Section) → concat (flat_map section_lines (enumerate_from n list)) ≡ flat_map section_text (enumerate_from n list)
sections_joined n [] = refl
sections_joined n (s ∷ list) = concat-append (section_lines (n, s)) (flat_map section_lines (enumerate_from (n + 1) list)) ∙ ap (λ t. concat (section_lines (n, s)) ++ t) (sections_joined (n + 1) list)

-- what is appended in order
pub three : (o a b c : List ℕ) → ((o ++ a) ++ b) ++ c ≡ o ++ (a ++ (b ++ c))
three o a b c = simp append_assoc

pub four : (o a b c d : List ℕ) → (((o ++ a) ++ b) ++ c) ++ d ≡ o ++ (a ++ (b ++ (c ++ d)))
four o a b c d = simp append_assoc

pub six : (o a b c d e f : List ℕ) → (((((o ++ a) ++ b) ++ c) ++ d) ++ e) ++ f ≡ o ++ (a ++ (b ++ (c ++ (d ++ (e ++ f)))))
six o a b c d e f = simp append_assoc

-- ---- what stands behind the first lines
pub optimal_text : (value : Frac) (point : Pairs) (duals : List Array) (weights : List NodeWeights) (params : Option Pairs)
    → body_text (sections.Cert (certs.Optimal value point duals weights params))
    ≡ params_text params ++ (number_line (codes "value") value ++ (flat_map (named_line (codes "var")) point
    ++ (flat_map dual_line (enumerate_from 1 duals) ++ (flat_map node_line weights ++ end_line))))
optimal_text value point duals weights params =
    let n : List Line = node_lines weights ++ (end_line ∷ []) in
    let d : List Line = dual_lines duals ++ n in
    let p : List Line = named_lines (codes "var") point ++ d in
    let nodes : List ℕ = flat_map node_line weights ++ end_line in
    let shown : List ℕ = flat_map dual_line (enumerate_from 1 duals) ++ nodes in
    let points : List ℕ = flat_map (named_line (codes "var")) point ++ shown in
    lines_then (param_lines params) (number_line (codes "value") value ∷ p) (params_text params) (number_line (codes "value") value ++ points) refl
    (line_then (number_line (codes "value") value) p (number_line (codes "value") value) points refl
    (lines_then (named_lines (codes "var") point) d (flat_map (named_line (codes "var")) point) shown (joined (named_line (codes "var")) point)
    (lines_then (dual_lines duals) n (flat_map dual_line (enumerate_from 1 duals)) nodes (joined dual_line (enumerate_from 1 duals))
    (lines_then (node_lines weights) (end_line ∷ []) (flat_map node_line weights) end_line (joined node_line weights) (last_line end_line)))))

pub infeasible_text : (duals : List Array) (gap : Frac) (weights : List NodeWeights) (params : Option Pairs)
    → body_text (sections.Cert (certs.Infeasible duals gap weights params))
    ≡ params_text params ++ (number_line (codes "gap") gap ++ (flat_map dual_line (enumerate_from 1 duals) ++ (flat_map node_line weights ++ end_line)))
infeasible_text duals gap weights params =
    let n : List Line = node_lines weights ++ (end_line ∷ []) in
    let d : List Line = dual_lines duals ++ n in
    let nodes : List ℕ = flat_map node_line weights ++ end_line in
    let shown : List ℕ = flat_map dual_line (enumerate_from 1 duals) ++ nodes in
    lines_then (param_lines params) (number_line (codes "gap") gap ∷ d) (params_text params) (number_line (codes "gap") gap ++ shown) refl
    (line_then (number_line (codes "gap") gap) d (number_line (codes "gap") gap) shown refl
    (lines_then (dual_lines duals) n (flat_map dual_line (enumerate_from 1 duals)) nodes (joined dual_line (enumerate_from 1 duals))
    (lines_then (node_lines weights) (end_line ∷ []) (flat_map node_line weights) end_line (joined node_line weights) (last_line end_line))))

pub unbounded_text : (point ray : Pairs) (bound slope : Frac) (params : Option Pairs)
    → body_text (sections.Cert (certs.Unbounded point ray bound slope params))
    ≡ params_text params ++ (number_line (codes "bound") bound ++ (number_line (codes "slope") slope
    ++ (flat_map (named_line (codes "var")) point ++ (flat_map (named_line (codes "ray")) ray ++ end_line))))
unbounded_text point ray bound slope params =
    lines_then (param_lines params) (number_line (codes "bound") bound
    ∷ (number_line (codes "slope") slope ∷ (named_lines (codes "var") point ++ (named_lines (codes "ray") ray ++ (end_line ∷ []))))) (params_text params)
    (number_line (codes "bound") bound ++ (number_line (codes "slope") slope ++ (flat_map (named_line (codes "var")) point ++ (flat_map (named_line (codes "ray")) ray ++ end_line)))) refl
    (line_then (number_line (codes "bound") bound) (number_line (codes "slope") slope ∷ (named_lines (codes "var") point ++ (named_lines (codes "ray") ray ++ (end_line ∷ []))))
    (number_line (codes "bound") bound) (number_line (codes "slope") slope ++ (flat_map (named_line (codes "var")) point ++ (flat_map (named_line (codes "ray")) ray ++ end_line))) refl
    (line_then (number_line (codes "slope") slope) (named_lines (codes "var") point ++ (named_lines (codes "ray") ray ++ (end_line ∷ []))) (number_line (codes "slope") slope)
    (flat_map (named_line (codes "var")) point ++ (flat_map (named_line (codes "ray")) ray ++ end_line)) refl
    (lines_then (named_lines (codes "var") point) (named_lines (codes "ray") ray ++ (end_line ∷ [])) (flat_map (named_line (codes "var")) point)
    (flat_map (named_line (codes "ray")) ray ++ end_line) (joined (named_line (codes "var")) point)
    (lines_then (named_lines (codes "ray") ray) (end_line ∷ []) (flat_map (named_line (codes "ray")) ray) end_line (joined (named_line (codes "ray")) ray) (last_line end_line)))))

pub values_text : (params : Option Pairs) (values : Pairs) → params ≡ Some values → flat_map (named_line (codes "param")) values ≡ params_text params
values_text params values e = sym (joined (named_line (codes "param")) values) ∙ ap params_text (sym e)
