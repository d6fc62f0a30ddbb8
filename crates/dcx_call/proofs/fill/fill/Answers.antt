-- One more entry is formed, and an entry that stops is the first, since those before it were formed.
use Rattle.std.proofs.Common.{◌≡◌, map, Result, Ok, sym, ap, ◌∙◌, arith}
use Rattle.std.proofs.lemmas.Result.{err_from_is_err_and}
use Rattle.dcx_frac.specs.declared.fraction.Frac.{Frac}
use Rattle.dcx_atom.specs.Arrays.{list_below}
use Rattle.dcx_atom.specs.declared.stops.ValueStop.{ValueStop}
use Rattle.dcx_atom.proofs.Lists.{list_below-push}
use Rattle.dcx_call.proofs.Entries.{formed_before, is_stop}
use Rattle.dcx_call.proofs.fill.fill.Goals as goal

pub returns-in_err-entry-clause-stop : goal.returns-in_err-entry-clause-stop
returns-in_err-entry-clause-stop g c =
    let p = err_from_is_err_and c.from_residual.result c.from_residual.ensures.1 in
    let f = g.E.Entrywise.formed c.args.entries.now in
    rw (p.1, p.2) (is_stop f c.args.size _ (record {
      entry = c.loop-j.j;
      within = c.loop-j-test.true;
      before = formed_before f c.loop-j.j c.loop-j.formed.items c.loop-j.invariant;
      here = sym c.entry.ensures ∙ c.in_err-entry.was;
    }))

abbrev ok : Frac → Result Frac ValueStop
ok x = Ok x

pub loop-j-init : goal.loop-j-init
loop-j-init g c = ap (map ok) c.new-formed.ensures.items

pub loop-j-preserved : goal.loop-j-preserved
loop-j-preserved g c =
    ap (map ok) c.in-Ok.ensures.items
    ∙ list_below-push c.loop-j.j (g.E.Entrywise.formed c.args.entries.now) ok c.loop-j.formed.items c.in_ok-entry.entry c.loop-j.invariant (sym c.in_ok-entry.was ∙ c.entry.ensures)

pub returns-clause-ok : goal.returns-clause-ok
returns-clause-ok g c =
    let n : c.loop-j.j ≡ c.args.size = omega (arith, c.loop-j.auto.j-end, c.loop-j-test.false) in
    ap (map ok) c.from_vec.ensures ∙ c.loop-j.invariant ∙ ap (λ k. list_below k (g.E.Entrywise.formed c.args.entries.now)) n
