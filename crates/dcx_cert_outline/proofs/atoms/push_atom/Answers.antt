-- The node is added where it is such an atom.
use Rattle.std.proofs.Common.{◌≡◌, [], ◌∷◌, map, subst}
use Rattle.std.specs.Prelude.{MatchOption, slice_get}
use Rattle.dcx_cert_sections.specs.Outlines.{rows_shown}
use Rattle.dcx_cert_outline.specs.Drawn.{atoms_if}
use Rattle.dcx_cert_outline.proofs.Rows.{none_at, nothing_at, one_at}
use Rattle.dcx_cert_outline.proofs.atoms.push_atom.Goals as goal

pub returns-then-fixed : goal.returns-then-fixed
returns-then-fixed c = none_at c.args.problem.now c.args.node.0 c.args.fixed (map rows_shown c.args.atoms.now.items) c.requires.told c.if-fixed.true

pub returns-in_ok-push-in-Some : goal.returns-in_ok-push-in-Some
returns-in_ok-push-in-Some c =
    let told = subst (λ o. MatchOption o (atoms_if c.args.problem.now.tree c.args.node.0 (slice_get c.args.problem.now.tree c.args.node.0) ≡ [])
    (λ rows. atoms_if c.args.problem.now.tree c.args.node.0 (slice_get c.args.problem.now.tree c.args.node.0) ≡ (c.args.node.0, rows) ∷ [])) c.in-Some.is (c.in_ok-rows.ensures {u = tt}) in
    one_at c.args.problem.now c.args.node c.args.fixed c.args.atoms.now.items c.push.new.self.items c.in-Some.rows c.requires.told c.if-fixed.false told c.in_ok-push-in-Some.ensures.items

pub returns-in-None : goal.returns-in-None
returns-in-None c =
    let told = subst (λ o. MatchOption o (atoms_if c.args.problem.now.tree c.args.node.0 (slice_get c.args.problem.now.tree c.args.node.0) ≡ [])
    (λ rows. atoms_if c.args.problem.now.tree c.args.node.0 (slice_get c.args.problem.now.tree c.args.node.0) ≡ (c.args.node.0, rows) ∷ [])) c.in-None.is (c.in_ok-rows.ensures {u = tt}) in
    nothing_at c.args.problem.now c.args.node.0 c.args.fixed (map rows_shown c.args.atoms.now.items) c.requires.told c.if-fixed.false told
