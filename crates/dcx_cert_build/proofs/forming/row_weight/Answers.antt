-- A row of an atom that is listed has its weight, and any other row has none.
use Rattle.std.proofs.Common.{◌≡◌, ℕ, Bool, true, false, Ok, None, Option, List, [], ◌∷◌, map, nat_eq, refl, sym, ap, ◌∙◌}
use Rattle.std.specs.Prelude.{Result, if◌then◌else◌, ◌||◌}
use Rattle.std.specs.List.{list_any}
use Rattle.dcx_frac.specs.declared.fraction.Frac.{Frac}
use Rattle.dcx_frac.specs.declared.fraction.Passes.{Passes}
use Rattle.dcx_arena.specs.declared.node.NodeId.{NodeId}
use Rattle.dcx_lp_answer.specs.declared.answer.LpStatus.{LpStatus}
use Rattle.dcx_lp_answer.specs.declared.answer.RowNote.{RowNote}
use Rattle.dcx_cert_sections.specs.declared.outline.AtomRows.{AtomRows}
use Rattle.dcx_cert_sections.specs.Outlines.{rows_shown}
use Rattle.dcx_graph.specs.declared.origin.Origin.{Origin}
use Rattle.dcx_graph.specs.declared.origin.Origin.TheVariants as origins
use Rattle.dcx_cert_build.specs.declared.forming.RowWeight.{RowWeight}
use Rattle.dcx_cert_build.specs.Weights.{graph_multiplier, is_listed, weight_of, row_weight}
use Rattle.dcx_cert_build.proofs.forming.row_weight.Goals as goal

any_shown : (atoms : List AtomRows) (i : ℕ) → list_any (λ a. nat_eq a.node.0 i) atoms ≡ is_listed (map rows_shown atoms) i
any_shown [] i = refl
any_shown (a ∷ atoms) i = ap (λ b. nat_eq a.node.0 i || b) (any_shown atoms i)

-- a row of a graph
by_listing : (atoms : List AtomRows) (status : LpStatus) (o : Origin) (node : NodeId) (e k : ℕ) (note : RowNote) (b : Bool) → o ≡ origins.Graph node e k
    → b ≡ list_any (λ a. nat_eq a.node.0 node.0) atoms
    → (if b then weight_of node (graph_multiplier status note) else Ok None) ≡ row_weight (map rows_shown atoms) status o note
by_listing atoms status o node e k note b is listed =
    ap (λ c. if c then weight_of node (graph_multiplier status note) else Ok None) (listed ∙ any_shown atoms node.0) ∙ ap (λ x. row_weight (map rows_shown atoms) status x note) (sym is)

listed_weight : (atoms : List AtomRows) (status : LpStatus) (o : Origin) (node : NodeId) (e k : ℕ) (note : RowNote) (b : Bool) (m : Result Frac Passes) (r : Result (Option RowWeight) Passes) →
    o ≡ origins.Graph node e k → b ≡ list_any (λ a. nat_eq a.node.0 node.0) atoms → b ≡ true → m ≡ graph_multiplier status note → r ≡ weight_of node m
    → r ≡ row_weight (map rows_shown atoms) status o note
listed_weight atoms status o node e k note b m r is listed so formed made =
    made ∙ ap (weight_of node) formed ∙ ap (λ c. if c then weight_of node (graph_multiplier status note) else Ok None) (sym so) ∙ by_listing atoms status o node e k note b is listed

unlisted_weight : (atoms : List AtomRows) (status : LpStatus) (o : Origin) (node : NodeId) (e k : ℕ) (note : RowNote) (b : Bool) → o ≡ origins.Graph node e k
    → b ≡ list_any (λ a. nat_eq a.node.0 node.0) atoms → b ≡ false
    → Ok None ≡ row_weight (map rows_shown atoms) status o note
unlisted_weight atoms status o node e k note b is listed so =
    ap (λ c. if c then weight_of node (graph_multiplier status note) else Ok None) (sym so) ∙ by_listing atoms status o node e k note b is listed

pub returns-then-is_listed : goal.returns-then-is_listed
returns-then-is_listed c =
    listed_weight c.args.atoms.now c.args.status c.args.origin c.in-Graph.node c.in-Graph.entry c.in-Graph.row c.args.note.now c.is_listed.result c.multiplier.result c.weight_of.result
    c.in-Graph.is c.is_listed.ensures c.if-is_listed.true c.multiplier.ensures c.weight_of.ensures

pub returns-else-is_listed : goal.returns-else-is_listed
returns-else-is_listed c =
    unlisted_weight c.args.atoms.now c.args.status c.args.origin c.in-Graph.node c.in-Graph.entry c.in-Graph.row c.args.note.now c.is_listed.result c.in-Graph.is c.is_listed.ensures
    c.if-is_listed.false
