-- The head of a column leads to its first number.
use Rattle.std.proofs.Common.{rules, ◌≡◌, ◌∙◌, ap, refl, sym, subst, None, List, ℤ}
use Rattle.std.proofs.lemmas.List.{get_or_read}
use Rattle.dcx_links.specs.Lines.{IsNext}
use Rattle.dcx_links.specs.Cells.{InColumn, head_at}
use Rattle.dcx_links.specs.Matrix.{Matrix, column_of}
use Rattle.dcx_links.proofs.Matrices.{column_of-matrix_of}
use Rattle.dcx_links.proofs.Passes.{walk_at}
use Rattle.dcx_links.proofs.links.Links.column.Goals as goal

pub invariant_of-result : goal.invariant_of-result
invariant_of-result c =
    let s = c.self.inside.store in
    let e : head_at s.column_heads.items c.args.column ≡ c.index.result.now = sym (get_or_read s.column_heads.items c.args.column c.index.result.now (search rules) c.index.ensures 4294967295) in
    (c.self.invariant.sound, subst (λ x. IsNext (InColumn s.cells.items) c.args.column 0 x) e (c.self.invariant.sound.columns_linked.linked c.args.column None 0 refl))

pub returns : goal.returns
returns c = ap (λ (ns : List ℤ). walk_at ns 0) (column_of-matrix_of c.self.inside.store c.self.invariant.sound c.args.column ∙ ap (λ (m : Matrix). column_of m c.args.column) c.self.view_is)
