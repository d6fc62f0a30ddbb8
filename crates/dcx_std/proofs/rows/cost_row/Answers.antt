-- One more column has its cost, and the numbers behind the coefficients are the right side and the entry of z.
use Rattle.std.proofs.Common.{[], ◌∷◌, ◌++◌, ◌≡◌, ◌+◌, ◌<◌, ◌^◌, suc, map, sym, ap, ap₂, ◌∙◌, subst, unsigned_abs, arith, rules, SFits, to_z-of_z}
use Rattle.std.specs.Int.{w128}
use Rattle.std.proofs.lemmas.Int.{fits_signed_from_abs}
use Rattle.std.proofs.lemmas.List.{map_more, take_all}
use Rattle.std.proofs.lemmas.Result.{err_from_is_err_and}
use Rattle.dcx_tab.specs.Rows.{entry}
use Rattle.dcx_std.specs.Columns.{cost_in}
use Rattle.dcx_std.proofs.rows.cost_row.Goals as goal

pub returns : goal.returns
returns c =
    let same = c.as_slice-numbers.ensures in
    let n = c.args.count in
    let next : n + 1 ≡ suc n = omega arith in
    let right = c.number_at-right.ensures ∙ ap (λ zs. entry zs n) same in
    let lead = c.number_at-lead.ensures ∙ ap₂ entry same next in
    let fr = fits_signed_from_abs w128 c.number_at-right.result (subst (λ z. unsigned_abs z < 2 ^ 127) (sym right) (c.requires.small n)) in
    let fl = fits_signed_from_abs w128 c.number_at-lead.result (subst (λ z. unsigned_abs z < 2 ^ 127) (sym lead) (c.requires.small (suc n))) in
    simp to_z-of_z (record {
      entries = c.from_vec.ensures ∙ c.columns.invariant ∙ ap₂ (λ a b. map (cost_in a) b) same (take_all c.columns.column-index c.args.columns.now (omega arith));
      right = right;
      lead = lead;
    })

pub columns-init : goal.columns-init
columns-init c = search rules

pub columns-smaller : goal.columns-smaller
columns-smaller c = search rules

pub columns-preserved : goal.columns-preserved
columns-preserved c =
    let fits : SFits w128 c.cost_entry.result = search rules in
    let pushed = simp to_z-of_z at c.in_ok-push.ensures.items in
    pushed ∙ ap₂ (λ ns n. ns ++ n ∷ []) c.columns.invariant c.cost_entry.ensures ∙ sym (map_more (cost_in c.as_slice-numbers.result.now) c.args.columns.now c.columns.column-index _ (omega arith))

pub returns-in_err-push : goal.returns-in_err-push
returns-in_err-push c = let p = err_from_is_err_and c.from_residual-in_err-push.result c.from_residual-in_err-push.ensures.1 in rw p.1 tt
