-- One more node is shown if it is an atom with a variable below it.
use Rattle.std.proofs.Common.{map, arith}
use Rattle.dcx_cert_sections.specs.Outlines.{rows_shown}
use Rattle.dcx_cert_outline.proofs.Rows.{atoms_more}
use Rattle.dcx_cert_outline.proofs.atoms.atoms_of.Goals as goal

pub bounds-fixed-i : goal.bounds-fixed-i
bounds-fixed-i c = omega (arith, c.requires.counted, c.nodes-test.true, c.nodes-i-end.ensures.count)

pub push_atom-requires-clause-told : goal.push_atom-requires-clause-told
push_atom-requires-clause-told c = c.requires.each c.nodes.i (omega (arith, c.nodes-test.true, c.nodes-i-end.ensures.count))

pub nodes-preserved : goal.nodes-preserved
nodes-preserved c = atoms_more c.args.problem.now c.nodes.i (map rows_shown c.nodes.atoms.items) (map rows_shown c.push_atom.new.atoms.items) c.nodes.invariant (c.in_ok-push_atom.ensures {u = tt})
