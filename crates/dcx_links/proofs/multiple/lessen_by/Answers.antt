-- The next multiple is taken behind those so far, and its column stands before those of the others.
use Rattle.std.proofs.Common.{rules, arith, ◌≡◌, ◌<◌, ◌^◌, ◌-ℤ◌, ◌*ℤ◌, unsigned_abs, sym, ap, ◌∙◌, subst, inl, inr, to_z-of_z, SFits}
use Rattle.std.specs.Int.{w128}
use Rattle.std.proofs.Math.ListN.{length-set}
use Rattle.std.proofs.lemmas.Int.{fits_signed_from_abs}
use Rattle.std.proofs.lemmas.Bool.{cases_eq}
use Rattle.dcx_links.specs.Cells.{number_in}
use Rattle.dcx_links.specs.Entries.{column_at, value_at}
use Rattle.dcx_links.proofs.multiple.lessen_by.Goals as goal

pub overflow_mul-by : goal.overflow_mul-by
overflow_mul-by c =
    let es = c.args.entries.now in
    let i = c.entries.k in
    let fb : SFits w128 c.args.by = search rules in
    let fv : SFits w128 (value_at es i) = search rules in
    simp to_z-of_z (fits_signed_from_abs w128 (c.args.by *ℤ value_at es i) (c.requires.product i c.entries-test.true))

pub lessen-passed-requires-clause-fits : goal.lessen-passed-requires-clause-fits
lessen-passed-requires-clause-fits c =
    let v = c.entries.invariant in
    let es = c.args.entries.now in
    let i = c.entries.k in
    let lt = c.entries-test.true in
    let fb : SFits w128 c.args.by = search rules in
    let fv : SFits w128 (value_at es i) = search rules in
    let fp : SFits w128 (c.args.by *ℤ value_at es i) = fits_signed_from_abs w128 (c.args.by *ℤ value_at es i) (c.requires.product i lt) in
    let was = v.same c.args.row (column_at es i) (λ _ k k_in e. let z = c.requires.rising k i k_in lt in omega (arith, z, e)) ∙ c.make_free.ensures.same c.args.row (column_at es i) in
    simp to_z-of_z (subst (λ z. unsigned_abs (z -ℤ c.args.by *ℤ value_at es i) < 2 ^ 127) (sym was) (c.requires.fits i lt))

pub entries-preserved : goal.entries-preserved
entries-preserved c =
    let v = c.entries.invariant in
    let n = c.lessen-passed.ensures in
    let s = c.lessen-passed.new.store in
    let es = c.args.entries.now in
    let row = c.args.row in
    let i = c.entries.k in
    let lt = c.entries-test.true in
    let fb : SFits w128 c.args.by = search rules in
    let fv : SFits w128 (value_at es i) = search rules in
    let fp : SFits w128 (c.args.by *ℤ value_at es i) = fits_signed_from_abs w128 (c.args.by *ℤ value_at es i) (c.requires.product i lt) in
    let was = v.same row (column_at es i) (λ _ k k_in e. let z = c.requires.rising k i k_in lt in omega (arith, z, e)) in
    let o = c.make_free.new.store in
    let here : number_in s row (column_at es i) ≡ number_in o row (column_at es i) -ℤ c.args.by *ℤ value_at es i = (simp to_z-of_z at n.there) ∙ ap (λ z. z -ℤ c.args.by *ℤ value_at es i) was in
    record {
      sound = n.sound;
      rows = n.rows ∙ v.rows;
      columns = n.columns ∙ v.columns;
      near = length-set c.entries.near (column_at es i) c.lessen-passed.result.near ∙ v.near;
      from = n.from;
      link = n.link;
      ready = n.ready;
      before = λ k le k_in. let z = c.requires.rising i k (omega (arith, le)) k_in in let y = n.within in omega (arith, z, y);
      there = λ k k_in. elim (cases_eq k i) [
        | inl e ↦ simp to_z-of_z (subst (λ x. number_in s row (column_at es x) ≡ number_in o row (column_at es x) -ℤ c.args.by *ℤ value_at es x) (sym e) here)
        | inr d ↦ let below : k < i = omega (arith, k_in, d) in let z = c.requires.rising k i below lt in simp to_z-of_z
            (n.same row (column_at es k) (λ h. let y = h.1 in omega (arith, z, y)) ∙ (simp to_z-of_z at (v.there k below)))
      ];
      same = λ r d h. n.same r d (λ e. h e.0 i (omega arith) e.1) ∙ v.same r d (λ e k k_in. h e k (omega (arith, k_in)));
    }

pub returns-clause-there : goal.returns-clause-there
returns-clause-there c = λ k lt.
    let fb : SFits w128 c.args.by = search rules in
    let z = c.entries.auto.k-end in
    let t = c.entries-test.false in
    let es = c.args.entries.now in
    (simp to_z-of_z at (c.entries.invariant.there k (omega (arith, lt, z, t)))) ∙ ap (λ z. z -ℤ c.args.by *ℤ value_at es k) (c.make_free.ensures.same c.args.row (column_at es k))

pub returns-clause-same : goal.returns-clause-same
returns-clause-same c = λ r d h. c.entries.invariant.same r d (λ e k lt. h e k (let z = c.entries.auto.k-end in omega (arith, lt, z))) ∙ c.make_free.ensures.same r d
