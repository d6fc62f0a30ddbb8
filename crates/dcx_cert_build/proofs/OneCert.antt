-- An answer has one certificate, or one weight that passes first.
use Rattle.std.proofs.Common.{◌≡◌, ℕ, true, List, [], ◌∷◌, map, Some, None, Ok, refl, sym, ap, ap₂, ◌∙◌, true≢false, eqb-true}
use Rattle.std.specs.Prelude.{nat_eq, ◌||◌, Bool, false}
use Rattle.std.specs.List.{zip}
use Rattle.std.proofs.lemmas.Option.{none-some, same_Some}
use Rattle.dcx_frac.specs.declared.fraction.Frac.{Frac}
use Rattle.dcx_frac.specs.declared.fraction.Passes.{Passes}
use Rattle.dcx_point.specs.Pairs.{Pairs}
use Rattle.dcx_tree.specs.declared.problem.Problem.{Problem}
use Rattle.dcx_linear.specs.declared.row.UnknownKind.{UnknownKind}
use Rattle.dcx_lp_answer.specs.declared.answer.LpAnswer.{LpAnswer}
use Rattle.dcx_lp_answer.specs.declared.answer.LpStatus.{LpStatus}
use Rattle.dcx_lp_answer.specs.declared.answer.RowNote.{RowNote}
use Rattle.dcx_answer.specs.declared.answer.Answer.{Answer}
use Rattle.dcx_answer.specs.declared.answer.Answer.TheVariants as answers
use Rattle.dcx_answer.specs.declared.site.Site.{Site}
use Rattle.dcx_answer.specs.declared.site.Site.TheVariants as sites
use Rattle.dcx_cert_sections.specs.declared.cert.Cert.{Cert}
use Rattle.dcx_cert_sections.specs.declared.cert.Cert.TheVariants.{Optimal, Infeasible}
use Rattle.dcx_cert_sections.specs.declared.weights.NodeWeights.{NodeWeights}
use Rattle.dcx_cert_outline.specs.Drawn.{problem_outline}
use Rattle.dcx_graph.proofs.Lists.{same_formed}
use Rattle.dcx_lp_answer.specs.Multipliers.{passing_from}
use Rattle.dcx_graph.specs.declared.origin.Origin.{Origin}
use Rattle.dcx_graph.specs.Answers.{IsRead}
use Rattle.dcx_cert_build.specs.Weights.{is_listed, row_weights, node_multipliers, formed_weights, atom_multipliers, AreWeights}
use Rattle.dcx_cert_build.specs.Built.{values_in, AreWeightsIn, IsBuilt, PassesAt}
use Rattle.dcx_cert_build.specs.Laws.{IsOneCert}
use Rattle.dcx_cert_build.proofs.Formed.{all_formed, none_passes}

-- ---- one list of weights
one_weight : (w v : NodeWeights) → formed_weights w ≡ formed_weights v → w ≡ v
one_weight w v e =
    let node : w.node.0 ≡ v.node.0 = ap (λ x. x.0) e in
    let numbers = same_formed Passes w.numbers v.numbers (ap (λ x. x.1) e) in
    λ i. record { node = record { 0 = node i }; numbers = numbers i }

one_list : (ws vs : List NodeWeights) → map formed_weights ws ≡ map formed_weights vs → ws ≡ vs
one_list [] [] e = refl
one_list [] (v ∷ vs) e = absurd cc
one_list (w ∷ ws) [] e = absurd cc
one_list (w ∷ ws) (v ∷ vs) e =
    let first : formed_weights w ≡ formed_weights v = cc in
    let rest : map formed_weights ws ≡ map formed_weights vs = cc in
    ap₂ ◌∷◌ (one_weight w v first) (one_list ws vs rest)

-- ---- none passes where there are weights
module _ (status : LpStatus) (from : List Origin) (notes : List RowNote) where
  -- the numbers of a node that is listed
  has_numbers : (atoms : List (ℕ × ℕ)) (ws : List NodeWeights) → AreWeights atoms status from notes ws → (i : ℕ) → is_listed atoms i ≡ true
      → (xs : List Frac) × (map Ok xs ≡ node_multipliers status from notes i)
  has_numbers [] ws h i t = absurd (true≢false (sym t))
  has_numbers (a ∷ atoms) [] h i t = absurd cc
  has_numbers (a ∷ atoms) (w ∷ ws) h i t =
      let rest : AreWeights atoms status from notes ws = cc in
      by (λ l. has_numbers atoms ws rest i l) (nat_eq a.0 i) refl t
    where
      first : formed_weights w ≡ atom_multipliers status from notes a
      first = cc

      by : (is_listed atoms i ≡ true → (xs : List Frac) × (map Ok xs ≡ node_multipliers status from notes i)) → (b : Bool) → nat_eq a.0 i ≡ b → (b || is_listed atoms i) ≡ true
          → (xs : List Frac) × (map Ok xs ≡ node_multipliers status from notes i)
      by ih true e l = (w.numbers, ap (λ x. x.1) first ∙ ap (node_multipliers status from notes) (eqb-true a.0 i e))
      by ih false e l = ih l

  pub none_stops : (atoms : List (ℕ × ℕ)) (ws : List NodeWeights) → AreWeights atoms status from notes ws → passing_from 0 (row_weights atoms status from notes) ≡ None
  none_stops atoms ws h =
      let (rows, formed) = all_formed atoms status (zip from notes) (has_numbers atoms ws h) in
      ap (passing_from 0) (sym formed) ∙ none_passes 0 rows

module _ (p : Problem) (setting : Pairs) (from : List Origin) (a : LpAnswer) where
  same : (x : Answer) (c d : Cert) → IsBuilt p setting from a x c → IsBuilt p setting from a x d → c ≡ d
  same (answers.Optimal number point duals) c d (ws, h, e) (vs, k, f) = e ∙ ap (λ w. Optimal number point duals w (Some (values_in p setting))) (one_list ws vs (h ∙ sym k)) ∙ sym f
  same (answers.Infeasible duals gap) c d (ws, h, e) (vs, k, f) = e ∙ ap (λ w. Infeasible duals gap w (Some (values_in p setting))) (one_list ws vs (h ∙ sym k)) ∙ sym f
  same (answers.Unbounded point ray bound slope) c d h k = h ∙ sym k

  stopped : (ws : List NodeWeights) → AreWeightsIn p from a ws → (site : Site) → PassesAt p from a site → ⊥
  stopped ws h site stop = none-some (stop.row, stop.passes) (sym (none_stops a.status from a.rows (problem_outline p).atoms ws h) ∙ stop.first)

  never_both : (x : Answer) (kinds : List UnknownKind) (c : Cert) (site : Site) → IsRead p kinds a x → IsBuilt p setting from a x c → PassesAt p from a site → ⊥
  never_both (answers.Optimal number point duals) kinds c site read (ws, h, e) stop = stopped ws h site stop
  never_both (answers.Infeasible duals gap) kinds c site read (ws, h, e) stop = stopped ws h site stop
  never_both (answers.Unbounded point ray bound slope) kinds c site read h stop = stop.formed read.0

  one_stop : (s t : Site) → PassesAt p from a s → PassesAt p from a t → s ≡ t
  one_stop s t h k =
      let both : (h.row, h.passes) ≡ (k.row, k.passes) = same_Some (h.row, h.passes) (k.row, k.passes) (sym h.first ∙ k.first) in
      h.here ∙ ap (λ x. sites.Answer x.0 x.1) both ∙ sym k.here

  pub one_cert : (x : Answer) → IsOneCert p setting from a x
  one_cert x = record { same = same x; never_both = never_both x; one_stop = one_stop }
