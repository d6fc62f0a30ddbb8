-- The weights of one more atom, until all have theirs.
use Rattle.std.proofs.Common.{◌≡◌, ℕ, ◌+◌, ◌<◌, List, [], ◌∷◌, ◌++◌, length, map, take, get_or, Option, sym, ap, ◌∙◌, rules}
use Rattle.std.proofs.lemmas.List.{map_push, map_more, take_all}
use Rattle.dcx_cert_sections.specs.declared.outline.AtomRows.{AtomRows}
use Rattle.dcx_cert_sections.specs.declared.weights.NodeWeights.{NodeWeights}
use Rattle.dcx_cert_build.specs.declared.forming.RowWeight.{RowWeight}
use Rattle.dcx_cert_build.specs.Weights.{numbers_for, node_numbers, atom_numbers}
use Rattle.dcx_cert_build.proofs.weights.atom_weights.Goals as goal

atom_more : (rows : List (Option RowWeight)) (atoms : List AtomRows) (i : ℕ) (d : AtomRows) (before after : List NodeWeights) → i < length atoms
    → map node_numbers before ≡ map (atom_numbers rows) (take i atoms)
    → after ≡ before ++ record { node = (get_or atoms i d).node; numbers = numbers_for rows (get_or atoms i d).node.0 } ∷ [] → map node_numbers after ≡ map (atom_numbers rows) (take (i + 1) atoms)
atom_more rows atoms i d before after lt was added =
    let w : NodeWeights = record { node = (get_or atoms i d).node; numbers = numbers_for rows (get_or atoms i d).node.0 } in
    ap (map node_numbers) added
    ∙ map_push node_numbers before w
    ∙ ap (λ xs. xs ++ atom_numbers rows (get_or atoms i d) ∷ []) was
    ∙ sym (map_more (atom_numbers rows) atoms i d lt)

pub atoms-smaller : goal.atoms-smaller
atoms-smaller c = search rules

pub atoms-preserved : goal.atoms-preserved
atoms-preserved c =
    atom_more c.args.rows.now c.args.atoms.now c.atoms.atom-index _ c.atoms.weights.items c.push_weights.new.weights.items c.atoms-test.true c.atoms.invariant c.in_ok-push_weights.ensures

pub returns : goal.returns
returns c = ap (map node_numbers) c.from_vec.ensures ∙ c.atoms.invariant ∙ ap (map (atom_numbers c.args.rows.now)) (take_all c.atoms.atom-index c.args.atoms.now c.atoms-test.false)
