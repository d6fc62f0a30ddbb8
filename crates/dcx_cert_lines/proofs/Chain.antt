-- The lines of a section, part after part.
use Rattle.std.proofs.Common.{◌≡◌, ℕ, Bool, true, false, Option, Some, None, List, [], ◌∷◌, ◌++◌, map, refl, sym, subst}
use Rattle.std.specs.Prelude.{codes}
use Rattle.std.specs.Bool.{MatchBool}
use Rattle.dcx_shape.specs.declared.shape.Shape.{Shape}
use Rattle.dcx_frac.specs.declared.fraction.Frac.{Frac}
use Rattle.dcx_atom.specs.declared.array.Array.{Array}
use Rattle.dcx_point.specs.Pairs.{Pairs}
use Rattle.dcx_lines.specs.Lines.{number_line}
use Rattle.dcx_lines.specs.Shown.{variables_of, constraints_of}
use Rattle.dcx_cert_sections.specs.declared.weights.NodeWeights.{NodeWeights}
use Rattle.dcx_cert_sections.specs.declared.section.Format.{Format}
use Rattle.dcx_cert_sections.specs.declared.section.Format.TheVariants.{One, Two}
use Rattle.dcx_cert_sections.specs.Shown.{Outline, AreParams, atoms_of}
use Rattle.dcx_cert_sections.specs.Formats.{HasParams}
use Rattle.dcx_cert_lines.specs.CertText.{Line, end_line, param_lines, named_lines, dual_lines, node_lines}
use Rattle.dcx_cert_lines.specs.Templates.{Template, filled, AreFilled, HasNoLine, IsRead, IsStopped, IsSame, named_template, node_template}
use Rattle.dcx_cert_lines.specs.Templates.{number_template, plain_template, end_template, duals_from, param_templates}
use Rattle.dcx_cert_lines.proofs.Filled.{named_filled, duals_filled, nodes_filled, number_is, read_as}
use Rattle.dcx_cert_lines.proofs.Steps.{read_then, zip_append, stop_front, stop_behind}

-- these lines are read, and are those of these templates
pub record IsDone (ts : List Template) (ls : List Line) (b : List ℕ) (n : ℕ) (r : List ℕ) (k : ℕ) : Type 0 where
  pub fills : AreFilled ts ls
  pub read : IsRead ls b n r k

pub and_then : {ts us : List Template} {ls ms : List Line} {b : List ℕ} {n : ℕ} {r : List ℕ} {k : ℕ} {s : List ℕ} {m : ℕ} → IsDone ts ls b n r k → IsDone us ms r k s m
    → IsDone (ts ++ us) (ls ++ ms) b n s m
and_then {ts} {us} {ls} {ms} {b} {n} {r} {k} {s} {m} h g = record {
  fills = zip_append _ ts us ls ms h.fills g.fills;
  read = read_then ls ms b n r k s m h.read g.read;
}

pub stop_after : {ts us : List Template} {ls : List Line} {b : List ℕ} {n : ℕ} {r : List ℕ} {k s : ℕ} → IsDone ts ls b n r k → IsStopped us r k s → IsStopped (ts ++ us) b n s
stop_after {ts} {us} {ls} {b} {n} {r} {k} {s} h stop = stop_behind ts us ls b n r k s h.fills h.read stop

pub stop_in : {ts : List Template} {b : List ℕ} {n s : ℕ} (us : List Template) → IsStopped ts b n s → IsStopped (ts ++ us) b n s
stop_in {ts} {b} {n} {s} us stop = stop_front ts us b n s stop

-- ---- the parts
pub params_filled : (format : Format) (outline : Outline) (params : Option Pairs) → AreParams outline params → HasParams format params → AreFilled (param_templates format outline) (param_lines params)
params_filled One outline None shown has = tt
params_filled One outline (Some values) shown has = absurd has
params_filled Two outline None shown has = absurd has
params_filled Two outline (Some values) shown has = subst (λ t. AreFilled (map (named_template (codes "param")) t) (named_lines (codes "param") values)) shown (named_filled (codes "param") values)

module _ {b : List ℕ} {n : ℕ} {r : List ℕ} {k : ℕ} where
  pub params_done : (format : Format) (outline : Outline) (params : Option Pairs) → AreParams outline params → HasParams format params → IsRead (param_lines params) b n r k
      → IsDone (param_templates format outline) (param_lines params) b n r k
  params_done format outline params shown has read = record { fills = params_filled format outline params shown has; read = read }

  pub number_done : (word : List ℕ) (f : Frac) → IsRead (filled word (f ∷ []) ∷ []) b n r k → IsDone (number_template word ∷ []) (number_line word f ∷ []) b n r k
  number_done word f read = record {
    fills = (record { numbers = f ∷ []; counted = refl; is = number_is word f }, tt);
    read = read_as (filled word (f ∷ [])) (number_line word f) b n r k (sym (number_is word f)) read;
  }

  pub point_done : (word : List ℕ) (ps : Pairs) (slots vs : List (List ℕ × Shape)) → slots ≡ vs → variables_of ps ≡ slots → IsRead (named_lines word ps) b n r k
      → IsDone (map (named_template word) vs) (named_lines word ps) b n r k
  point_done word ps slots vs same shown read = record {
    fills = subst (λ t. AreFilled (map (named_template word) t) (named_lines word ps)) same (subst (λ t. AreFilled (map (named_template word) t) (named_lines word ps)) shown (named_filled word ps));
    read = read;
  }

  pub duals_done : (ds : List Array) (slots vs : List Shape) → slots ≡ vs → constraints_of ds ≡ slots → IsRead (dual_lines ds) b n r k → IsDone (duals_from 1 vs) (dual_lines ds) b n r k
  duals_done ds slots vs same shown read = record {
    fills = subst (λ t. AreFilled (duals_from 1 t) (dual_lines ds)) same (subst (λ t. AreFilled (duals_from 1 t) (dual_lines ds)) shown (duals_filled 1 ds));
    read = read;
  }

  pub nodes_done : (ws : List NodeWeights) (slots vs : List (ℕ × ℕ)) → slots ≡ vs → atoms_of ws ≡ slots → IsRead (node_lines ws) b n r k → IsDone (map node_template vs) (node_lines ws) b n r k
  nodes_done ws slots vs same shown read = record {
    fills = subst (λ t. AreFilled (map node_template t) (node_lines ws)) same (subst (λ t. AreFilled (map node_template t) (node_lines ws)) shown (nodes_filled ws));
    read = read;
  }

  pub end_done : IsRead (filled (codes "end") [] ∷ []) b n r k → IsDone (end_template ∷ []) (end_line ∷ []) b n r k
  unfolding end_line
  end_done read = record { fills = (record { numbers = []; counted = refl; is = refl }, tt); read = read }

-- ---- lines without numbers, which are tried
module _ (text b : List ℕ) (n : ℕ) (r : List ℕ) (k : ℕ) where
  pub was_read : (t : Bool) → t ≡ true → MatchBool t (IsRead (filled text [] ∷ []) b n r k) (IsSame b n r k × HasNoLine (plain_template text) b) → IsRead (filled text [] ∷ []) b n r k
  was_read true e h = h
  was_read false e h = cc

  pub was_none : (t : Bool) → t ≡ false → MatchBool t (IsRead (filled text [] ∷ []) b n r k) (IsSame b n r k × HasNoLine (plain_template text) b) → IsSame b n r k × HasNoLine (plain_template text) b
  was_none true e h = cc
  was_none false e h = h

-- what is read where nothing was read before
pub read_same : (ls : List Line) (b : List ℕ) (n : ℕ) (c : List ℕ) (m : ℕ) (r : List ℕ) (k : ℕ) → IsSame b n c m → IsRead ls c m r k → IsRead ls b n r k
read_same ls b n c m r k same h = subst (λ x. IsRead ls x n r k) same.rest (subst (λ x. IsRead ls c x r k) same.counted h)
