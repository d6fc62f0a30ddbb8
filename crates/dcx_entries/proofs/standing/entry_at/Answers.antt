-- Past the end of the numbers or of the forms there is 0.
use Rattle.std.proofs.Common.{◌≡◌, length, sym, ap, subst}
use Rattle.dcx_linear.specs.Forms.{is_constant}
use Rattle.dcx_entries.specs.Standing.{entry_of}
use Rattle.dcx_entries.proofs.Past.{zero_past}
use Rattle.dcx_entries.proofs.standing.entry_at.Goals as goal

pub returns-in-None : goal.returns-in-None
returns-in-None g c =
    let t = g.C.Coef in
    subst (λ s. is_constant (t.of_number c.zero.result) ≡ entry_of t.of_number s c.args.entry) (sym c.in-Numbers.is)
    (zero_past t.of_number (λ n. is_constant (t.of_number n)) c.zero.result c.in-Numbers.array.entries c.args.entry (length c.as_slice.result.now) c.zero.ensures
    (ap length (sym c.as_slice.ensures)) (c.in-None.ensures {u = tt}).lookup.0)

pub returns-in-None-get : goal.returns-in-None-get
returns-in-None-get g c =
    let t = g.C.Coef in
    subst (λ s. is_constant (t.of_number c.zero-in-None-get.result) ≡ entry_of t.of_number s c.args.entry) (sym c.in-Forms.is)
    (zero_past t.of_number (λ e. e.form) c.zero-in-None-get.result c.in-Forms.list c.args.entry (length c.as_slice-in-Forms.result.now) c.zero-in-None-get.ensures
    (ap length (sym c.as_slice-in-Forms.ensures)) (c.in-None-get.ensures {u = tt}).lookup.0)
