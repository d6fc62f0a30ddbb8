-- The rows at the setting are as many as before, with their origins, and a stop's row is one of them or behind all.
use Rattle.std.proofs.Common.{◌≡◌, ℕ, length, Ok, Err, inl, refl, sym, ap, ◌∙◌, subst, arith}
use Rattle.std.specs.List.{All}
use Rattle.dcx_frac.specs.declared.fraction.Frac.{Frac}
use Rattle.dcx_frac.specs.declared.fraction.Passes.{Passes}
use Rattle.dcx_linear.specs.declared.param_form.ParamForm.{ParamForm}
use Rattle.dcx_linear.specs.FormsAt.{IsListedRow, IsListedForm, ProgramOf}
use Rattle.dcx_graph.specs.Reduced.{Reduction}
use Rattle.dcx_graph.specs.Fixing.{FixGives}
use Rattle.dcx_graph.proofs.Settings.{rows_at-length, program-stop, told-stop, same_parts}
use Rattle.dcx_graph.proofs.fixing.fix.Goals as goal

pub new-requires : goal.new-requires
new-requires c =
    let as_many : length c.in-Ok.rows.rows ≡ length c.rows.result.now.rows = rows_at-length c.args.setting.now 0 c.rows.result.now.rows c.in-Ok.rows.rows c.in-Ok.ensures.0 in
    let same : length c.rows.result.now.rows ≡ length c.args.reduced.now.program.rows = ap length c.rows.ensures.rows in
    let kept = c.origins.ensures.kept in
    let origins : length c.in_ok-origins.origins.items ≡ length c.args.reduced.now.program.origins = ap length (c.in_ok-origins.ensures.items ∙ c.origins.ensures.items) in
    record {
      one_each = origins ∙ kept.one_each ∙ sym (as_many ∙ same);
      few = (let few = kept.few in omega (arith, few, as_many, same));
    }

pub overflow_cast-result : goal.overflow_cast-result
overflow_cast-result c =
    let q : ProgramOf ParamForm = (c.rows.result.now.rows, c.rows.result.now.objective, c.rows.result.now.kinds) in
    let stop = told-stop c.args.setting.now q c.in-Err-Passes.field-0 c.in-Err-Passes.row c.in-Err-Passes.passes c.in-Err-Passes.field-0-is c.in-Err-Passes.ensures in
    let within = program-stop c.args.setting.now q (c.in-Err-Passes.row, c.in-Err-Passes.passes) stop in
    let same : length c.rows.result.now.rows ≡ length c.args.reduced.now.program.rows = ap length c.rows.ensures.rows in
    let few = c.origins.ensures.kept.few in
    omega (arith, within, same, few)

pub returns-in-Err-Passes-clause-program : goal.returns-in-Err-Passes-clause-program
returns-in-Err-Passes-clause-program c =
    let q : ProgramOf ParamForm = (c.rows.result.now.rows, c.rows.result.now.objective, c.rows.result.now.kinds) in
    let stop = told-stop c.args.setting.now q c.in-Err-Passes.field-0 c.in-Err-Passes.row c.in-Err-Passes.passes c.in-Err-Passes.field-0-is c.in-Err-Passes.ensures in
    let s : ℕ × Passes = (c.in-Err-Passes.row, c.in-Err-Passes.passes) in
    let before = c.args.reduced.now.program in
    inl (
      s,
      refl,
      same_parts c.args.setting.now c.rows.result.now.rows before.rows c.rows.result.now.objective before.objective c.rows.result.now.kinds before.kinds c.rows.ensures.rows c.rows.ensures.objective
          c.rows.ensures.kinds (Err s) stop,
    )

pub at-requires-clause-rows : goal.at-requires-clause-rows
at-requires-clause-rows c = subst (All (IsListedRow c.args.setting.now)) (sym c.rows.ensures.rows) c.requires.rows

pub at-requires-clause-objective : goal.at-requires-clause-objective
at-requires-clause-objective c = subst (IsListedForm c.args.setting.now) (sym c.rows.ensures.objective) c.requires.objective

pub returns-in-Ok-clause-program : goal.returns-in-Ok-clause-program
returns-in-Ok-clause-program c =
    let s = c.args.setting.now in
    let q = c.args.reduced.now.program in
    let lent = c.rows.result.now in
    let rows = c.in-Ok.rows in
    subst (λ (z : Reduction Frac). FixGives s q (Ok z.program)) (sym c.new.ensures) (
      same_parts s lent.rows q.rows lent.objective q.objective lent.kinds q.kinds c.rows.ensures.rows c.rows.ensures.objective c.rows.ensures.kinds
          (Ok (rows.rows, rows.objective, rows.kinds)) c.in-Ok.ensures,
      c.in_ok-origins.ensures.items ∙ c.origins.ensures.items,
    )

pub returns-in-Ok-clause-from_map : goal.returns-in-Ok-clause-from_map
returns-in-Ok-clause-from_map c = ap (λ (z : Reduction Frac). z.from_map) c.new.ensures
