-- The first name that isn't found is told, and all are those of parameters where each is found.
use Rattle.std.proofs.Common.{◌≤◌, length, sym, ◌∙◌, arith}
use Rattle.std.proofs.lemmas.Map.Entries.{length-keys_of}
use Rattle.dcx_point.specs.Pairs.{names_of}
use Rattle.dcx_domain.proofs.Variables.{one_more, all_below}
use Rattle.dcx_answer.specs.declared.stop.Stop.TheVariants.{UnknownParam}
use Rattle.dcx_fit.specs.Fit.{IsNamed, IsUnknown}
use Rattle.dcx_fit.proofs.Names.{known, unknown}
use Rattle.dcx_fit.proofs.Misfits.{or_memory, unknown_unfit}
use Rattle.dcx_fit.proofs.parameters.are_known.Goals as goal

pub returns-then-not-is_known : goal.returns-then-not-is_known
returns-then-not-is_known c =
    let ps = c.args.parameters.now in
    let given = c.args.setting.now in
    let name = c.in-Some.name.now in
    let first : IsUnknown ps given (UnknownParam name) = record {
      position = c.loop-k.k;
      there = sym c.in-Some.ensures;
      unknown = unknown ps name (sym c.is_known.ensures ∙ c.if-not-is_known.true);
      before = c.loop-k.invariant;
    } in
    or_memory (IsUnknown ps given) (UnknownParam name) c.stop_of.result c.stop_of.ensures first (unknown_unfit ps given (UnknownParam name) first)

pub loop-k-preserved : goal.loop-k-preserved
loop-k-preserved c =
    let ps = c.args.parameters.now in
    let name = c.in-Some.name.now in
    one_more (IsNamed ps) (names_of c.args.setting.now) c.loop-k.k name (sym c.in-Some.ensures)
    (known ps name (sym c.is_known.ensures ∙ c.if-not-is_known.false)) c.loop-k.invariant

pub returns : goal.returns
returns c =
    let names = names_of c.args.setting.now in
    let past : length names ≤ c.loop-k.k =
    let all = length-keys_of c.args.setting.now in let count = c.len-k-end.ensures.count in let over = c.loop-k-test.false in omega (arith, all, count, over) in
    all_below (IsNamed c.args.parameters.now) names c.loop-k.k past c.loop-k.invariant
