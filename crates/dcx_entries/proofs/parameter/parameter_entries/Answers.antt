-- One more entry is the parameter's coefficient, as a form without unknowns.
use Rattle.std.proofs.Common.{◌≡◌, ◌+◌, Ok, sym, ap, ◌∙◌, subst, arith}
use Rattle.dcx_entries.specs.Forming.{FormsEach}
use Rattle.dcx_entries.specs.Entries.{ParameterEntry, alone}
use Rattle.dcx_entries.proofs.Each.{each_more}
use Rattle.dcx_entries.proofs.parameter.parameter_entries.Goals as goal

pub entries-preserved : goal.entries-preserved
entries-preserved g c =
    let t = g.C.Coef in
    subst (λ es. FormsEach (ParameterEntry t.parameter_gives c.args.position c.args.name.now c.args.setting.now) (c.entries.j + 1) (Ok es)) (sym c.in_ok-push.ensures.items)
    (each_more (ParameterEntry t.parameter_gives c.args.position c.args.name.now c.args.setting.now) c.entries.j c.entries.entries.items c.alone.result c.entries.invariant
    (c.in_ok-number.number, c.in_ok-number.ensures, ap Ok (c.alone.ensures ∙ ap (λ f. alone f) c.number.ensures)))

pub returns : goal.returns
returns g c =
    let t = g.C.Coef in
    let all : c.entries.j ≡ c.args.size = omega (arith, c.entries.auto.j-end) in
    subst (λ es. FormsEach (ParameterEntry t.parameter_gives c.args.position c.args.name.now c.args.setting.now) c.args.size (Ok es)) (sym c.from_vec.ensures)
    (subst (λ n. FormsEach (ParameterEntry t.parameter_gives c.args.position c.args.name.now c.args.setting.now) n (Ok c.entries.entries.items)) all c.entries.invariant)
