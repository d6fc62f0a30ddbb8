-- The graph is tight at its filling and sound at every other.
use Rattle.std.proofs.Common.{sym, subst}
use Rattle.dcx_atom.specs.Rows.{form_at}
use Rattle.dcx_atom.specs.Signs.{IsBeyond}
use Rattle.dcx_unit_tests.proofs.laws.best.Goals as goal

pub returns : goal.returns
returns g c args sides is a t holds j below =
    let law = g.met.A.Atom in
    let m = g.A.Atom.meaning c.args.atom.now in
    subst (λ x. IsBeyond m.bend x (form_at (m.result args j) t)) (sym ((law.graph_tightness c.args.atom.now args sides is a).reaches j below))
    (law.graph_soundness c.args.atom.now args sides is a t holds j below)
