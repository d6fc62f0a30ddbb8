-- The cells have the differences, and the others as before.
use Rattle.std.proofs.Common.{rules, ◌≡◌, ◌<◌, ◌^◌, ◌-ℤ◌, ◌*ℤ◌, unsigned_abs, ap, sym, ◌∙◌, subst, to_z-of_z, SFits}
use Rattle.std.specs.Int.{w128}
use Rattle.dcx_links.specs.Cells.{number_in}
use Rattle.dcx_links.specs.Entries.{column_at, value_at}
use Rattle.dcx_links.specs.Matrix.{Matrix, number_at}
use Rattle.dcx_links.proofs.Matrices.{number_at-matrix_of}
use Rattle.dcx_links.proofs.links.Links.subtract.Goals as goal

pub lessen_by-requires-clause-fits : goal.lessen_by-requires-clause-fits
lessen_by-requires-clause-fits c = λ k lt.
    let s = c.self.inside.store in
    let at = column_at c.args.entries.now k in
    let f : SFits w128 c.args.by = search rules in
    let e : number_in s c.args.row at ≡ number_at c.args.self.now c.args.row at = sym (number_at-matrix_of s c.self.invariant.sound c.args.row at)
    ∙ ap (λ (m : Matrix). number_at m c.args.row at) c.self.view_is in
    simp to_z-of_z (subst (λ z. unsigned_abs (z -ℤ c.args.by *ℤ value_at c.args.entries.now k) < 2 ^ 127) (sym e) (c.requires.fits k lt))

pub returns-clause-there : goal.returns-clause-there
returns-clause-there c = λ k lt.
    let s = c.self.inside.store in
    let at = column_at c.args.entries.now k in
    let f : SFits w128 c.args.by = search rules in
    let e : number_in s c.args.row at ≡ number_at c.args.self.now c.args.row at = sym (number_at-matrix_of s c.self.invariant.sound c.args.row at)
    ∙ ap (λ (m : Matrix). number_at m c.args.row at) c.self.view_is in
    number_at-matrix_of c.lessen_by.new.store c.lessen_by.ensures.sound c.args.row at ∙ (simp to_z-of_z at (c.lessen_by.ensures.there k lt))
    ∙ ap (λ z. z -ℤ c.args.by *ℤ value_at c.args.entries.now k) e

pub returns-clause-same : goal.returns-clause-same
returns-clause-same c = λ r d h.
    number_at-matrix_of c.lessen_by.new.store c.lessen_by.ensures.sound r d ∙ c.lessen_by.ensures.same r d h
    ∙ sym (number_at-matrix_of c.self.inside.store c.self.invariant.sound r d) ∙ ap (λ (m : Matrix). number_at m r d) c.self.view_is
