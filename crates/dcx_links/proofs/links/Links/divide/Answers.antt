-- The cells have the quotients, and the other rows as before.
use Rattle.std.proofs.Common.{rules, ◌≡◌, unsigned_abs, arith, ap, sym, ◌∙◌, subst, to_z-of_z, SFits}
use Rattle.std.specs.Int.{w128}
use Prim.Native.Nat.{◌∣◌}
use Rattle.dcx_math.specs.Divisors.{divided}
use Rattle.dcx_links.specs.Cells.{number_in}
use Rattle.dcx_links.specs.Matrix.{Matrix, number_at}
use Rattle.dcx_links.proofs.Matrices.{number_at-matrix_of}
use Rattle.dcx_links.proofs.links.Links.divide.Goals as goal

pub divide_row-requires-clause-divides : goal.divide_row-requires-clause-divides
divide_row-requires-clause-divides c = λ k lt.
    let s = c.self.inside.store in
    let f : SFits w128 c.args.by = search rules in
    let w = ap (λ (m : Matrix). m.width) c.self.view_is in
    let e : number_in s c.args.row k ≡ number_at c.args.self.now c.args.row k = sym (number_at-matrix_of s c.self.invariant.sound c.args.row k)
    ∙ ap (λ (m : Matrix). number_at m c.args.row k) c.self.view_is in
    simp to_z-of_z (subst (λ z. unsigned_abs c.args.by ∣ unsigned_abs z) (sym e) (c.requires.divides k (omega (arith, lt, w))))

pub returns-clause-there : goal.returns-clause-there
returns-clause-there c = λ k.
    let s = c.self.inside.store in
    let f : SFits w128 c.args.by = search rules in
    let e : number_in s c.args.row k ≡ number_at c.args.self.now c.args.row k = sym (number_at-matrix_of s c.self.invariant.sound c.args.row k)
    ∙ ap (λ (m : Matrix). number_at m c.args.row k) c.self.view_is in
    number_at-matrix_of c.divide_row.new.store c.divide_row.ensures.sound c.args.row k ∙ (simp to_z-of_z at (c.divide_row.ensures.there k)) ∙ ap (λ z. divided (unsigned_abs c.args.by) z) e

pub returns-clause-same : goal.returns-clause-same
returns-clause-same c = λ r d other.
    number_at-matrix_of c.divide_row.new.store c.divide_row.ensures.sound r d ∙ c.divide_row.ensures.same r d other
    ∙ sym (number_at-matrix_of c.self.inside.store c.self.invariant.sound r d) ∙ ap (λ (m : Matrix). number_at m r d) c.self.view_is
