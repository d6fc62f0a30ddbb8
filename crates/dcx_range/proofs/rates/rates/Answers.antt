-- The changes are formed row by row.
use Rattle.std.proofs.Common.{◌+◌, ◌++◌, drop, Ok, sym, ap, ◌∙◌, arith}
use Rattle.dcx_atom.specs.Formed.{and_then}
use Rattle.dcx_range.specs.Operations.{rates_of}
use Rattle.dcx_range.proofs.Coefficients.{nothing_done, rate_done, rate_passes, all_done, rising_more}
use Rattle.dcx_range.proofs.rates.rates.Goals as goal

pub rows-init : goal.rows-init
rows-init c = record {
  formed = ap (λ xs. and_then (rates_of c.args.position c.args.rows.now c.args.ints.now) (λ hs. Ok (xs ++ hs))) (c.in_ok-rates.ensures {u = tt}).items
      ∙ nothing_done (rates_of c.args.position c.args.rows.now c.args.ints.now);
  rising = λ k d h. absurd (omega (arith, h));
}

pub rows-preserved : goal.rows-preserved
rows-preserved c =
    let k = c.args.position in
    let rows = c.args.rows.now in
    let ints = c.args.ints.now in
    let i = c.rows.i in
    let size = c.requires in
    record {
      formed =
          ap (λ xs. and_then (rates_of k (drop (i + 1) rows) (drop (i + 1) ints)) (λ hs. Ok (xs ++ hs))) (c.in_ok-push-in-Ok.ensures {u = tt}).items
          ∙ sym (rate_done k rows ints i c.index-rows-i.result c.index-ints-i.result (omega arith) (omega arith) c.index-rows-i.is c.index-ints-i.is c.rows.rates.items c.in-Ok.rate
          (sym c.rate_of.ensures.rate ∙ c.in-Ok.is))
          ∙ c.rows.invariant.formed;
      rising = rising_more rows i c.index-rows-i.result c.index-rows-i.is c.rate_of.ensures.rising c.rows.invariant.rising (omega arith);
    }

pub returns-in-Err-clause-stops : goal.returns-in-Err-clause-stops
returns-in-Err-clause-stops c =
    let k = c.args.position in
    let rows = c.args.rows.now in
    let ints = c.args.ints.now in
    let i = c.rows.i in
    sym c.rows.invariant.formed
    ∙ rate_passes k rows ints i c.index-rows-i.result c.index-ints-i.result (omega arith) (omega arith) c.index-rows-i.is c.index-ints-i.is c.rows.rates.items c.in-Err.passes
    (sym c.rate_of.ensures.rate ∙ c.in-Err.is)

pub returns-clause-formed : goal.returns-clause-formed
returns-clause-formed c = sym c.rows.invariant.formed ∙ all_done c.args.position c.args.rows.now c.args.ints.now c.rows.i c.rows.rates.items (omega arith)

pub returns-clause-rising : goal.returns-clause-rising
returns-clause-rising c = λ k d h. c.rows.invariant.rising k d (omega arith)
