-- There is a weight for each row of the graph.
use Rattle.std.proofs.Common.{◌≡◌, ℕ, zero, suc, List, length, length-append, map, refl, sym, ap, ap₂, ◌+◌, ◌∙◌, Option, Some, None, IfSome}
use Rattle.std.proofs.lemmas.List.{length-map}
use Rattle.dcx_shape.specs.declared.shape.Sides.{Sides}
use Rattle.dcx_shape.specs.Sides.{entries_of}
use Rattle.dcx_atom.specs.declared.graph.Graph.{Graph}
use Rattle.dcx_atom.specs.Arrays.{sides_list}
use Rattle.dcx_atom.specs.Graph.{placed_row, rows_below, IsGraphOf}
use Rattle.dcx_atom.specs.Meaning.{Meaning}
use Rattle.dcx_atom.specs.Steps.{rows_before}
use Rattle.dcx_part_cases.proofs.slopes.slopes_of.Goals as goal

-- so many rows
counted : (m : Meaning) (args : List Sides) (n : ℕ) → length (rows_below n (m.rows args)) ≡ rows_before m args n
counted m args zero = refl
counted m args (suc n) =
    length-append (rows_below n (m.rows args)) (map (λ row. record { entry = n; row = row }) (m.rows args n))
    ∙ ap₂ ◌+◌ (counted m args n) (length-map (m.rows args n) (λ row. record { entry = n; row = row }))

weights_counted : (m : Meaning) (args : List Sides) (o : Option Sides) (g : Graph) (k : ℕ) → k ≡ length g.rows → IfSome o (λ s. IsGraphOf m args (entries_of s) g) →
    IfSome o (λ s. k ≡ rows_before m args (entries_of s))
weights_counted m args None g k e h = tt
weights_counted m args (Some s) g k e h = e ∙ sym (length-map g.rows placed_row) ∙ ap length h.rows ∙ counted m args (entries_of s)

pub slopes-requires-clause-weights : goal.slopes-requires-clause-weights
slopes-requires-clause-weights g c =
    weights_counted (g.A.Atom.meaning c.args.atom.now) (sides_list c.args.args.now) _ c.in_ok-graph.graph (length c.args.weights.now)
    (c.if-weights-rows.false ∙ ap length c.as_slice-rows.ensures) c.in_ok-graph.ensures
