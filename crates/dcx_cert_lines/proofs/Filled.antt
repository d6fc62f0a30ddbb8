-- The lines of a certificate are those of their templates.
use Rattle.std.proofs.Common.{◌≡◌, ℕ, ◌+◌, List, [], ◌∷◌, ◌++◌, Result, Ok, Err, IfOk, IfErr, map, refl, sym, ap, ◌∙◌, subst, append_assoc}
use Rattle.std.specs.Prelude.{codes, decimal}
use Rattle.std.specs.List.{enumerate_from, flat_map}
use Rattle.dcx_shape.specs.declared.shape.Shape.{Shape}
use Rattle.dcx_frac.specs.declared.fraction.Frac.{Frac}
use Rattle.dcx_frac.specs.Text.{frac_text}
use Rattle.dcx_atom.specs.declared.array.Array.{Array}
use Rattle.dcx_point.specs.Pairs.{Pairs}
use Rattle.dcx_lines.specs.Pieces.{shape_text, entry_text, array_text}
use Rattle.dcx_lines.specs.Lines.{named_line, dual_line, number_line}
use Rattle.dcx_lines.specs.Shown.{variables_of, constraints_of}
use Rattle.dcx_cert_sections.specs.declared.weights.NodeWeights.{NodeWeights}
use Rattle.dcx_cert_sections.specs.Shown.{atoms_of}
use Rattle.dcx_cert_lines.specs.declared.cursor.ReadStop.{ReadStop}
use Rattle.dcx_cert_lines.specs.declared.cursor.ReadStop.TheVariants.{Misfit, Memory}
use Rattle.dcx_cert_lines.specs.CertText.{Line, node_line, named_lines, node_lines}
use Rattle.dcx_cert_lines.specs.Templates.{filled, AreFilled, IsRead, named_front, dual_front, node_front, named_template, dual_template, node_template, IfMisfit}

-- the parts of a line that ends with numbers
array_parts : (front shape sign numbers feed : List ℕ) → (front ++ ((shape ++ sign) ++ numbers)) ++ feed ≡ ((front ++ shape) ++ sign) ++ (numbers ++ feed)
array_parts front shape sign numbers feed = simp append_assoc

number_parts : (word blank number feed : List ℕ) → ((word ++ blank) ++ number) ++ feed ≡ word ++ (((blank ++ number) ++ []) ++ feed)
number_parts word blank number feed = simp append_assoc

pub named_is : (word : List ℕ) (p : List ℕ × Array) → named_line word p ≡ filled (named_front word p.0 p.1.shape) p.1.entries
unfolding named_line array_text
named_is word p = array_parts (word ++ codes " " ++ p.0 ++ codes " ") (shape_text p.1.shape) (codes " =") (flat_map entry_text p.1.entries) (10 ∷ [])

pub dual_is : (p : ℕ × Array) → dual_line p ≡ filled (dual_front p.0 p.1.shape) p.1.entries
unfolding dual_line array_text
dual_is p = array_parts (codes "dual " ++ decimal p.0 ++ codes " ") (shape_text p.1.shape) (codes " =") (flat_map entry_text p.1.entries) (10 ∷ [])

pub node_is : (w : NodeWeights) → node_line w ≡ filled (node_front w.node.0) w.numbers
unfolding node_line
node_is w = append_assoc (node_front w.node.0) (flat_map entry_text w.numbers) (10 ∷ [])

pub number_is : (word : List ℕ) (f : Frac) → number_line word f ≡ filled word (f ∷ [])
unfolding number_line entry_text
number_is word f = number_parts word (codes " ") (frac_text f) (10 ∷ [])

-- ---- lists of lines
pub named_filled : (word : List ℕ) (ps : Pairs) → AreFilled (map (named_template word) (variables_of ps)) (named_lines word ps)
named_filled word [] = tt
named_filled word (p ∷ ps) = (record { numbers = p.1.entries; counted = p.1.full; is = named_is word p }, named_filled word ps)

pub duals_filled : (n : ℕ) (ds : List Array) → AreFilled (map dual_template (enumerate_from n (constraints_of ds))) (map dual_line (enumerate_from n ds))
duals_filled n [] = tt
duals_filled n (d ∷ ds) = (record { numbers = d.entries; counted = d.full; is = dual_is (n, d) }, duals_filled (n + 1) ds)

pub nodes_filled : (ws : List NodeWeights) → AreFilled (map node_template (atoms_of ws)) (node_lines ws)
nodes_filled [] = tt
nodes_filled (w ∷ ws) = (record { numbers = w.numbers; counted = refl; is = node_is w }, nodes_filled ws)

-- ---- what is read as a line of a template is read as the line
pub read_as : (l m : Line) (b : List ℕ) (n : ℕ) (r : List ℕ) (k : ℕ) → l ≡ m → IsRead (l ∷ []) b n r k → IsRead (m ∷ []) b n r k
read_as l m b n r k e h = subst (λ x. IsRead (x ∷ []) b n r k) e h

pub named_ok : (word name : List ℕ) (shape : Shape) (front : List ℕ) (o : Result Array ReadStop) (b : List ℕ) (n : ℕ) (r : List ℕ) (k : ℕ) → front ≡ named_front word name shape
    → IfOk o (λ a. a.shape ≡ shape) → IfOk o (λ a. IsRead (filled front a.entries ∷ []) b n r k) → IfOk o (λ a. IsRead (named_line word (name, a) ∷ []) b n r k)
named_ok word name shape front (Err stop) b n r k e s h = tt
named_ok word name shape front (Ok a) b n r k e s h =
    read_as (filled front a.entries) (named_line word (name, a)) b n r k (ap (λ f. filled f a.entries) (e ∙ ap (named_front word name) (sym s)) ∙ sym (named_is word (name, a))) h

pub dual_ok : (number : ℕ) (shape : Shape) (front : List ℕ) (o : Result Array ReadStop) (b : List ℕ) (n : ℕ) (r : List ℕ) (k : ℕ) → front ≡ dual_front number shape
    → IfOk o (λ a. a.shape ≡ shape) → IfOk o (λ a. IsRead (filled front a.entries ∷ []) b n r k) → IfOk o (λ a. IsRead (dual_line (number, a) ∷ []) b n r k)
dual_ok number shape front (Err stop) b n r k e s h = tt
dual_ok number shape front (Ok a) b n r k e s h =
    read_as (filled front a.entries) (dual_line (number, a)) b n r k (ap (λ f. filled f a.entries) (e ∙ ap (dual_front number) (sym s)) ∙ sym (dual_is (number, a))) h

-- ---- stops
-- what follows from a stop follows where it is handed on
pub stop_map : {X : Type 0} (P Q : Type 0) → (P → Q) → (o : Result X ReadStop) → IfErr o (IfMisfit P) → IfErr o (IfMisfit Q)
stop_map P Q f (Ok x) h = tt
stop_map P Q f (Err Misfit) h = f h
stop_map P Q f (Err Memory) h = tt
