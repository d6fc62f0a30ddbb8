-- As many arguments as the call takes, and each like the first.
use Rattle.std.proofs.Common.{◌≡◌, ◌∙◌, ◌&&◌, if◌then◌else◌, sym, ap, ap₂, length, true, false, Some, None, eq-eqb}
use Rattle.std.specs.List.{list_all}
use Rattle.dcx_shape.specs.declared.shape.Shape.{Shape}
use Rattle.dcx_shape.specs.Shape.{sides_of}
use Rattle.dcx_atom.specs.Arrays.{same_sides}
use Rattle.dcx_elem.proofs.ExtremeSteps.{alike_is, ne-eqb}
use Rattle.dcx_elem.proofs.extremes.alike_shape.Goals as goal
use Rattle.dcx_elem.proofs.extremes.alike_shape.Goals.{else-count-args-via-then-count-args+else-have_shape, else-count-args-via-else-count-args}

pub returns-then-have_shape : goal.returns-then-have_shape
returns-then-have_shape c =
    let args = c.args.args.now in
    let x = c.first-item.result in
    let all : list_all (λ (shape : Shape). same_sides (sides_of x) (sides_of shape)) args ≡ true =
    sym c.have_shape.ensures ∙ c.if-have_shape.true in
    sym (alike_is c.args.count args x c.in-len2-up.len_at_least c.first-item.is
    ∙ ap₂ (λ a b. if a && b then Some (sides_of x) else None) (eq-eqb c.args.count (length args) c.if-count-args.true) all)

pub returns-else-count-args : goal.returns-else-count-args
returns-else-count-args c =
    let args = c.args.args.now in
    let x = c.first-item.result in
    elim c.else-count-args.branch [
      | else-count-args-via-then-count-args+else-have_shape w ↦
          let all : list_all (λ (shape : Shape). same_sides (sides_of x) (sides_of shape)) args ≡ false =
          sym w.have_shape.ensures ∙ w.if-have_shape.false in
          sym (alike_is c.args.count args x c.in-len2-up.len_at_least c.first-item.is
          ∙ ap₂ (λ a b. if a && b then Some (sides_of x) else None) (eq-eqb c.args.count (length args) w.if-count-args.true) all)
      | else-count-args-via-else-count-args w ↦
          sym (alike_is c.args.count args x c.in-len2-up.len_at_least c.first-item.is
          ∙ ap (λ a. if a && list_all (λ (shape : Shape). same_sides (sides_of x) (sides_of shape)) args then Some (sides_of x) else None) (ne-eqb c.args.count (length args) w.if-count-args.false))
    ]
