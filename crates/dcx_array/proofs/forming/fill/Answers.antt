-- An entry that stops is the first, since those before it were formed.
use Rattle.std.proofs.Common.{◌≡◌, sym, ap, ◌∙◌, subst, inl, inr, refl, arith, length, map, Ok, rules}
use Rattle.std.proofs.lemmas.Result.{err_from_is_err_and}
use Rattle.dcx_shape.specs.Shape.{sides_of}
use Rattle.dcx_shape.specs.Sides.{entries_of}
use Rattle.dcx_atom.specs.Entrywise.{AreFormed}
use Rattle.dcx_atom.proofs.Lists.{list_below-push}
use Rattle.dcx_atom.proofs.Entrywise.{formed_before, formed_count}
use Rattle.dcx_array.proofs.FormedEntries.{formed_is, formed_stops}
use Rattle.dcx_array.proofs.forming.fill.Goals as goal

pub returns-in_err-formed : goal.returns-in_err-formed
returns-in_err-formed g c = let p = err_from_is_err_and c.from_residual.result c.from_residual.ensures.1 in rw (p.1, p.2) (inl refl)

pub form-requires : goal.form-requires
form-requires g c = c.requires c.loop-k.k (omega (arith, c.loop-k-test.true, c.size-size.ensures.value))

pub loop-k-init : goal.loop-k-init
loop-k-init g c = search rules

pub loop-k-smaller : goal.loop-k-smaller
loop-k-smaller g c = search rules

pub loop-k-preserved : goal.loop-k-preserved
loop-k-preserved g c =
    let f = g.E.Entrywise.formed c.args.entries.now in
    ap (map Ok) c.in_ok-push.ensures.items
    ∙ list_below-push c.loop-k.k f Ok c.loop-k.formed.items c.in_ok-number.number c.loop-k.invariant (sym c.in_ok-number.was ∙ c.form.ensures)

pub returns-in_err-push : goal.returns-in_err-push
returns-in_err-push g c = let p = err_from_is_err_and c.from_residual-in_err-push.result c.from_residual-in_err-push.ensures.1 in rw (p.1, p.2) (inl refl)

pub returns-in_err-number : goal.returns-in_err-number
returns-in_err-number g c =
    let p = err_from_is_err_and c.from_residual-in_err-number.result c.from_residual-in_err-number.ensures.1 in
    let f = g.E.Entrywise.formed c.args.entries.now in
    rw (p.1, p.2) (inr (sym (formed_stops c.args.shape f _ (record {
      entry = c.loop-k.k;
      within = omega (arith, c.loop-k-test.true, c.size-size.ensures.value);
      before = formed_before f c.loop-k.k c.loop-k.formed.items c.loop-k.invariant;
      here = sym c.form.ensures ∙ c.in_err-number.was;
    }))))

pub invariant_of-result : goal.invariant_of-result
invariant_of-result g c =
    let f = g.E.Entrywise.formed c.args.entries.now in
    let last : c.loop-k.k ≡ entries_of (sides_of c.args.shape) = omega (arith, c.loop-k-test.false, c.loop-k.auto.k-end, c.size-size.ensures.value) in
    record { full = ap length c.from_vec.ensures ∙ formed_count f c.loop-k.k c.loop-k.formed.items c.loop-k.invariant ∙ last }

pub returns : goal.returns
returns g c =
    let f = g.E.Entrywise.formed c.args.entries.now in
    let last : c.loop-k.k ≡ entries_of (sides_of c.args.shape) = omega (arith, c.loop-k-test.false, c.loop-k.auto.k-end, c.size-size.ensures.value) in
    let each : AreFormed f (entries_of (sides_of c.args.shape)) c.from_vec.result =
    subst (λ xs. AreFormed f (entries_of (sides_of c.args.shape)) xs) (sym c.from_vec.ensures) (subst (λ n. AreFormed f n c.loop-k.formed.items) last c.loop-k.invariant) in
    inr (sym (formed_is c.args.shape f _ refl each))
