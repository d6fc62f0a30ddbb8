-- Multipliers and weights that are read one after another.
use Rattle.std.proofs.Common.{◌≡◌, ℕ, zero, suc, ◌+◌, ◌<◌, List, [], ◌∷◌, ◌++◌, length, map, take, get_or, refl, sym, ap, ◌∙◌, subst, arith}
use Rattle.std.proofs.lemmas.List.{take_more, map-append}
use Rattle.std.specs.List.{enumerate_from}
use Rattle.dcx_shape.specs.declared.shape.Shape.{Shape}
use Rattle.dcx_atom.specs.declared.array.Array.{Array}
use Rattle.dcx_lines.specs.Lines.{dual_line}
use Rattle.dcx_lines.specs.Shown.{constraints_of}
use Rattle.dcx_lines.proofs.Numbered.{enumerate_from-push}
use Rattle.dcx_cert_sections.specs.declared.weights.NodeWeights.{NodeWeights}
use Rattle.dcx_cert_sections.specs.Shown.{atoms_of}
use Rattle.dcx_cert_lines.specs.CertText.{dual_lines, node_line, node_lines}
use Rattle.dcx_cert_lines.specs.Templates.{AreFilled, IsRead, IsStopped, dual_template, node_template, duals_from}
use Rattle.dcx_cert_lines.proofs.Filled.{duals_filled, nodes_filled}
use Rattle.dcx_cert_lines.proofs.Steps.{read_then, stop_among}

-- ---- multipliers, numbered from 1
pub duals_shown : (shapes : List Shape) (i : ℕ) (shape : Shape) (ds new : List Array) (d : Array) → i < length shapes → shape ≡ get_or shapes i shape → constraints_of ds ≡ take i shapes
    → d.shape ≡ shape → new ≡ ds ++ d ∷ [] → constraints_of new ≡ take (i + 1) shapes
duals_shown shapes i shape ds new d l at e s put =
    ap constraints_of put ∙ map-append (λ a. a.shape) ds (d ∷ []) ∙ ap (λ t. t ++ d.shape ∷ []) e ∙ ap (λ y. take i shapes ++ y ∷ []) (s ∙ at) ∙ sym (take_more shapes i shape l)

pub duals_read : (number i : ℕ) (ds new : List Array) (d : Array) (b : List ℕ) (n : ℕ) (r : List ℕ) (k : ℕ) (s : List ℕ) (m : ℕ) → number ≡ i + 1 → length ds ≡ i → new ≡ ds ++ d ∷ []
    → IsRead (dual_lines ds) b n r k → IsRead (dual_line (number, d) ∷ []) r k s m → IsRead (dual_lines new) b n s m
duals_read number i ds new d b n r k s m e count put h g =
    let numbered : 1 + length ds ≡ number = omega (arith, e, count) in
    let lines : dual_lines new ≡ dual_lines ds ++ dual_line (number, d) ∷ [] =
    ap dual_lines put ∙ ap (map dual_line) (enumerate_from-push 1 ds d ∙ ap (λ j. enumerate_from 1 ds ++ (j, d) ∷ []) numbered) ∙ map-append dual_line (enumerate_from 1 ds) ((number, d) ∷ []) in
    subst (λ ls. IsRead ls b n s m) (sym lines) (read_then (dual_lines ds) (dual_line (number, d) ∷ []) b n r k s m h g)

take_numbered : {X : Type 0} (n i : ℕ) (xs : List X) → take i (enumerate_from n xs) ≡ enumerate_from n (take i xs)
take_numbered n zero xs = refl
take_numbered n (suc i) [] = refl
take_numbered n (suc i) (x ∷ xs) = ap (λ t. (n, x) ∷ t) (take_numbered (n + 1) i xs)

numbered_at : {X : Type 0} (n i : ℕ) (xs : List X) (x : X) → i < length xs → x ≡ get_or xs i x → (i < length (enumerate_from n xs)) × ((n + i, x) ≡ get_or (enumerate_from n xs) i (n + i, x))
numbered_at n i [] x l at = absurd (omega (arith, l))
numbered_at n zero (y ∷ ys) x l at = (omega arith, λ j. let number : n + 0 ≡ n = omega arith in (number j, at j))
numbered_at n (suc i) (y ∷ ys) x l at =
    let rest = numbered_at (n + 1) i ys x (omega (arith, l)) at in
    let number : (n + 1) + i ≡ n + suc i = omega arith in
    (omega (arith, rest.0), subst (λ k. (k, x) ≡ get_or (enumerate_from (n + 1) ys) i (k, x)) number rest.1)

pub duals_stop : (shapes : List Shape) (number i : ℕ) (shape : Shape) (ds : List Array) (b : List ℕ) (n : ℕ) (r : List ℕ) (k s : ℕ)
    → number ≡ i + 1 → i < length shapes → shape ≡ get_or shapes i shape → constraints_of ds ≡ take i shapes → IsRead (dual_lines ds) b n r k → IsStopped (dual_template (number, shape) ∷ []) r k s
    → IsStopped (duals_from 1 shapes) b n s
duals_stop shapes number i shape ds b n r k s e l at shown h stop =
    let numbered : number ≡ 1 + i = omega (arith, e) in
    let place = numbered_at 1 i shapes shape l at in
    let filled = subst (λ t. AreFilled (map dual_template t) (dual_lines ds)) (ap (enumerate_from 1) shown ∙ sym (take_numbered 1 i shapes)) (duals_filled 1 ds) in
    stop_among dual_template (enumerate_from 1 shapes) i (1 + i, shape) (dual_lines ds) b n r k s place.0 place.1 filled h (subst (λ j. IsStopped (dual_template (j, shape) ∷ []) r k s) numbered stop)

-- ---- weights
pub weights_shown : (atoms : List (ℕ × ℕ)) (i : ℕ) (atom : ℕ × ℕ) (ws new : List NodeWeights) (w : NodeWeights) → i < length atoms → atom ≡ get_or atoms i atom → atoms_of ws ≡ take i atoms
    → atoms_of (w ∷ []) ≡ atom ∷ [] → new ≡ ws ++ w ∷ [] → atoms_of new ≡ take (i + 1) atoms
weights_shown atoms i atom ws new w l at e s put =
    ap atoms_of put ∙ map-append (λ v. (v.node.0, length v.numbers)) ws (w ∷ []) ∙ ap (λ t. t ++ atoms_of (w ∷ [])) e ∙ ap (λ y. take i atoms ++ y) s ∙ ap (λ y. take i atoms ++ y ∷ []) at
    ∙ sym (take_more atoms i atom l)

pub weights_read : (ws new : List NodeWeights) (w : NodeWeights) (b : List ℕ) (n : ℕ) (r : List ℕ) (k : ℕ) (s : List ℕ) (m : ℕ) → new ≡ ws ++ w ∷ [] → IsRead (node_lines ws) b n r k
    → IsRead (node_line w ∷ []) r k s m → IsRead (node_lines new) b n s m
weights_read ws new w b n r k s m put h g =
    subst (λ ls. IsRead ls b n s m) (sym (ap node_lines put ∙ map-append node_line ws (w ∷ []))) (read_then (node_lines ws) (node_line w ∷ []) b n r k s m h g)

pub weights_stop : (atoms : List (ℕ × ℕ)) (i : ℕ) (atom : ℕ × ℕ) (ws : List NodeWeights) (b : List ℕ) (n : ℕ) (r : List ℕ) (k s : ℕ)
    → i < length atoms → atom ≡ get_or atoms i atom → atoms_of ws ≡ take i atoms → IsRead (node_lines ws) b n r k → IsStopped (node_template atom ∷ []) r k s
    → IsStopped (map node_template atoms) b n s
weights_stop atoms i atom ws b n r k s l at e h stop =
    stop_among node_template atoms i atom (node_lines ws) b n r k s l at (subst (λ t. AreFilled (map node_template t) (node_lines ws)) e (nodes_filled ws)) h stop
