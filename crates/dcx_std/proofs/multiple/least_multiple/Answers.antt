-- One more denominator is taken into the multiple, or the multiple with it is the first that passes.
use Rattle.std.proofs.Common.{◌+◌, [], ◌∷◌, ◌++◌, map, drop, sym, ap, ◌∙◌, lit<, arith}
use Rattle.std.proofs.lemmas.List.{drop_all}
use Rattle.std.proofs.lemmas.Result.{err_from_is_err_and}
use Rattle.dcx_atom.specs.Formed.{and_then}
use Rattle.dcx_std.specs.Multiples.{lcm_gives, multiple_from, denominator_of}
use Rattle.dcx_std.proofs.Multiples.{multiple_next, multiple_fits, multiple_last}
use Rattle.dcx_std.proofs.multiple.least_multiple.Goals as goal

pub terms-init : goal.terms-init
terms-init c = record {
  small = lit< tt;
  leads = ap (λ ts. multiple_from 1 (map (λ t. denominator_of t.coefficient) ts ++ denominator_of c.args.form.now.constant ∷ [])) c.as_slice-term-items.ensures.items;
}

pub returns-in_err-found : goal.returns-in_err-found
returns-in_err-found c =
    let p = err_from_is_err_and c.from_residual.result c.from_residual.ensures.1 in
    let ts = c.as_slice-term-items.result.now in
    let last = denominator_of c.args.form.now.constant ∷ [] in
    let next = multiple_next c.terms.found ts last c.terms.term-index c.term-item.result (omega arith) c.term-item.is in
    let e = ap (lcm_gives c.terms.found) (sym c.denominator.ensures.value) ∙ sym c.common_multiple.ensures ∙ c.in_err-found.was in
    rw (p.1, p.2) (sym (sym c.terms.invariant.leads ∙ next ∙ ap (λ r. and_then r (λ n. multiple_from n (map (λ u. denominator_of u.coefficient) (drop (c.terms.term-index + 1) ts) ++ last))) e))

pub terms-preserved : goal.terms-preserved
terms-preserved c =
    let ts = c.as_slice-term-items.result.now in
    let last = denominator_of c.args.form.now.constant ∷ [] in
    let next = multiple_next c.terms.found ts last c.terms.term-index c.term-item.result (omega arith) c.term-item.is in
    let e = ap (lcm_gives c.terms.found) (sym c.denominator.ensures.value) ∙ sym c.common_multiple.ensures ∙ c.in_ok-found.was in
    record {
      small = multiple_fits c.terms.found (denominator_of c.term-item.result.coefficient) c.in_ok-found.found e;
      leads = sym (sym c.terms.invariant.leads ∙ next ∙ ap (λ r. and_then r (λ n. multiple_from n (map (λ u. denominator_of u.coefficient) (drop (c.terms.term-index + 1) ts) ++ last))) e);
    }

pub returns : goal.returns
returns c =
    let last = denominator_of c.args.form.now.constant in
    let done = drop_all c.terms.term-index c.as_slice-term-items.result.now (omega arith) in
    c.common_multiple-2.ensures ∙ ap (lcm_gives c.terms.found) c.denominator-2.ensures.value ∙ sym (multiple_last c.terms.found last)
    ∙ sym (ap (λ ts. multiple_from c.terms.found (map (λ t. denominator_of t.coefficient) ts ++ last ∷ [])) done) ∙ c.terms.invariant.leads
