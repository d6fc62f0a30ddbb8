-- What each function returns is what is left to be done.
use Rattle.std.proofs.Common.{◌≡◌, ℕ, ◌+◌, ◌<◌, ◌≤◌, false, List, [], ◌∷◌, ◌++◌, map, length, Result, Ok, refl, sym, ap, subst, ◌∙◌, arith, rules, option_copied, option_map}
use Rattle.std.proofs.lemmas.Grind.{common_steps}
use Rattle.std.proofs.lemmas.List.{map_push}
use Rattle.std.proofs.lemmas.Result.{err_from_is_err_and}
use Rattle.dcx_shape.specs.declared.place.Place.{Place}
use Rattle.dcx_syntax.specs.declared.tree.Expr as code_expr
use Rattle.dcx_syntax.specs.declared.tree.Index as code_index
use Rattle.dcx_syntax.specs.declared.tree.Primary.TheVariants as primaries
use Rattle.dcx_syntax.specs.declared.tree.Trailer as code_trailer
use Rattle.dcx_syntax.specs.Expressions.{Primary, number_at, text_at, name_at, truth_at, none_at, unit, empty_list, Index, Step, Postfix, postfix, Trailers, attribute}
use Rattle.dcx_syntax.specs.View.{args_of, indices_of, items_of as tree_items, more_items_of, optional_view, arg_view, index_view, expr_view, primary_view, postfix_view, step_view}
use Rattle.dcx_script_values.specs.declared.fault.ElabFault.{ElabFault}
use Rattle.dcx_script_values.specs.declared.value.Value as code_value
use Rattle.dcx_script_values.specs.Values.{Value, Values, tuple as tuple_value, list as list_value, items_of, end, with_room, State, and_then, done}
use Rattle.dcx_script_values.specs.Meant.{meant}
use Rattle.dcx_script_values.specs.View.{Fails, Gives}
use Rattle.dcx_script_values.proofs.Acts.{Fails-same}
use Rattle.dcx_operators.specs.declared.indices.Evaluated as code_evaluated
use Rattle.dcx_operators.specs.Indices.{index_value}
use Rattle.dcx_operators.specs.View.{evaluated}
use Rattle.dcx_signature.specs.Firsts.{expr_place}
use Rattle.dcx_signature.specs.View.{given_seen, through_seen}
use Rattle.dcx_elab.specs.Expressions.{with_item, added_means, scaled_means, more_items_mean, postfix_means, primary_means}
use Rattle.dcx_elab.specs.Expressions.{index_means, indices_mean, step_means, trailers_mean, expr_means, args_mean, more_args_mean}
use Rattle.dcx_elab.specs.Turns.{turns}
use Rattle.dcx_elab.specs.View.{GoesOn, trailers_from}
use Rattle.dcx_elab.proofs.Seen.{is_called, call-at, attribute-at, indexed-at, not-called-at, trailers-none, not-name, postfix-seen, number-seen, text-seen, name-seen}
use Rattle.dcx_elab.proofs.Seen.{truth-seen, none-seen, unit-seen, round-seen, empty-list-seen, tuple-seen, list-seen, comprehension-seen, slice-seen, absent-seen, colon-seen}
use Rattle.dcx_elab.proofs.Layers.{expr-fault, expr-gives, sum-fault, sum-gives, term-fault, term-gives, factor-fault, factor-gives, power-fault}
use Rattle.dcx_elab.proofs.Layers.{power-gives, comparison-none, comparison-fault, compare-fault, comparison-gives, second-none, second-fault}
use Rattle.dcx_elab.proofs.Layers.{second-refused, added_from, addition-end, addition-right-fault, addition-fault, addition-next, scaled_from, scaling-end}
use Rattle.dcx_elab.proofs.Layers.{scaling-right-fault, scaling-fault, scaling-next, exponents-none, exponent-fault, exponent-sign-fault, exponent-refused}
use Rattle.dcx_elab.proofs.Parts.{by-place-fault, by-place-is, by-name-fault, by-name-is, at-fault, at-is, start-fault, slice-is, optional-fault, optional-is, optional-none}
use Rattle.dcx_elab.proofs.Parts.{primary-as, tuple-first-fault, list-first-fault, turn-step-fault, turn-bound-fault, turn-bind-fault, turn-element-fault, turn-restore-fault, turn-is}
use Rattle.dcx_elab.proofs.Chains.{go_on, alone-fault, alone-is, name-fault, name-is, primary-fault, primary-is, stop-fault, step-fault, refused-args-fault, refused}
use Rattle.dcx_elab.proofs.Calling.{name-refused, name-args-fault, name-call-fault, name-call-is, method-args-fault, method-fault}
use Rattle.dcx_elab.proofs.Calling.{method-is, indexed-first-fault, indexed-args-fault, indexed-fault, indexed-value}
use Rattle.dcx_elab.proofs.Loops.{args_from, args-begin, args-end, args-next, args-fault, indices_from, indices-end, indices-next, indices-fault}
use Rattle.dcx_elab.proofs.Loops.{item-put, item-full, items-end, items-next, items-fault, items-full, tuple-is, tuple-fault, list-is, list-fault}
use Rattle.dcx_elab.proofs.Loops.{source-fault, through-fault, elements-fault, comprehension-is, turns-end, turns-fault, turns-full, turns-next}
use Rattle.dcx_elab.proofs.expressions.+eval.Goals as goal

-- ---- arguments
pub arguments_given-returns : goal.arguments_given-returns
arguments_given-returns t c = λ comma.
    c.loop-arg.invariant comma ∙ args-end c.args.solving c.args.args.now c.loop-arg.arg-index comma (map given_seen c.loop-arg.given.items) c.loop-arg.state c.loop-arg-test.false

-- ---- an attribute
pub attribute-returns-then-at-all-clause-goes_on : goal.attribute-returns-then-at-all-clause-goes_on
attribute-returns-then-at-all-clause-goes_on t c =
    alone-is (option_copied c.args.target) c.args.place c.args.name.now (trailers_from c.args.all.now c.args.at) (meant c.args.value)
    (meant c.in_ok-attribute_value.field-0) c.args.state.now c.attribute_value.new.state
    (ap is_called (trailers-none c.args.all.now c.args.at c.if-at-all.true)) c.in_ok-attribute_value.ensures

pub attribute-returns-in_err-given-in-Call-clause-goes_on : goal.attribute-returns-in_err-given-in-Call-clause-goes_on
attribute-returns-in_err-given-in-Call-clause-goes_on t c =
    let p = err_from_is_err_and c.from_residual-in_err-given-in-Call.result c.from_residual-in_err-given-in-Call.ensures.1 in
    let e = c.in_err-given-in-Call.field-0.0 in
    let xs = args_of (map arg_view c.in-Call.args.items) c.in-Call.comma in
    let rest = trailers_from c.args.all.now (c.args.at + 1) in
    let is = call-at c.args.all.now c.args.at c.index-all-at.result c.in-Call.place c.in-Call.args c.in-Call.comma c.if-at-all.false c.index-all-at.is c.in-Call.is in
    let fails : Fails e (args_mean c.is_solve-solving.result xs c.args.state.now) = rw c.deref.ensures.value at (c.in_err-given-in-Call.ensures c.in-Call.comma) in
    rw (p.1, p.2) (subst (λ (ts : Trailers). Fails e (trailers_mean (option_copied c.args.target) c.args.place (attribute c.args.name.now ts) (meant c.args.value) c.args.state.now)) (sym is)
    (method-args-fault (option_copied c.args.target) c.args.place c.args.name.now c.in-Call.place xs rest
    (meant c.args.value) c.args.state.now c.is_solve-solving.result e c.is_solve-solving.ensures fails))

pub attribute-returns-in_err-method_called-in-Call-clause-goes_on : goal.attribute-returns-in_err-method_called-in-Call-clause-goes_on
attribute-returns-in_err-method_called-in-Call-clause-goes_on t c =
    let p = err_from_is_err_and c.from_residual-in_err-method_called-in-Call.result c.from_residual-in_err-method_called-in-Call.ensures.1 in
    let e = c.in_err-method_called-in-Call.field-0.0 in
    let xs = args_of (map arg_view c.in-Call.args.items) c.in-Call.comma in
    let gs = map given_seen c.in_ok-given-in-Call.given.items in
    let rest = trailers_from c.args.all.now (c.args.at + 1) in
    let is = call-at c.args.all.now c.args.at c.index-all-at.result c.in-Call.place c.in-Call.args c.in-Call.comma c.if-at-all.false c.index-all-at.is c.in-Call.is in
    let given : args_mean c.is_solve-solving.result xs c.args.state.now ≡ Ok (gs, c.arguments_given.new.state) = rw c.deref.ensures.value at (c.in_ok-given-in-Call.ensures c.in-Call.comma) in
    rw (p.1, p.2) (subst (λ (ts : Trailers). Fails e (trailers_mean (option_copied c.args.target) c.args.place (attribute c.args.name.now ts) (meant c.args.value) c.args.state.now)) (sym is)
    (method-fault (option_copied c.args.target) c.args.place c.args.name.now c.in-Call.place xs rest (meant c.args.value) c.args.state.now c.is_solve-solving.result gs
    (option_copied c.target_before-kept.result) e c.arguments_given.new.state
    c.is_solve-solving.ensures given c.target_before-kept.ensures c.in_err-method_called-in-Call.ensures))

pub attribute-returns-in_ok-method_called-in-Call-clause-goes_on : goal.attribute-returns-in_ok-method_called-in-Call-clause-goes_on
attribute-returns-in_ok-method_called-in-Call-clause-goes_on t c =
    let xs = args_of (map arg_view c.in-Call.args.items) c.in-Call.comma in
    let gs = map given_seen c.in_ok-given-in-Call.given.items in
    let rest = trailers_from c.args.all.now (c.args.at + 1) in
    let is = call-at c.args.all.now c.args.at c.index-all-at.result c.in-Call.place c.in-Call.args c.in-Call.comma c.if-at-all.false c.index-all-at.is c.in-Call.is in
    let given : args_mean c.is_solve-solving.result xs c.args.state.now ≡ Ok (gs, c.arguments_given.new.state) = rw c.deref.ensures.value at (c.in_ok-given-in-Call.ensures c.in-Call.comma) in
    ap (λ (ts : Trailers). trailers_mean (option_copied c.args.target) c.args.place (attribute c.args.name.now ts) (meant c.args.value) c.args.state.now) is
    ∙ method-is (option_copied c.args.target) c.args.place c.args.name.now c.in-Call.place xs rest (meant c.args.value) c.args.state.now c.is_solve-solving.result gs
    (option_copied c.target_before-kept.result) (meant c.in_ok-method_called-in-Call.field-0)
    c.arguments_given.new.state c.method_called.new.state c.is_solve-solving.ensures given c.target_before-kept.ensures c.in_ok-method_called-in-Call.ensures

pub attribute-returns-in_err-attribute_value-in_default : goal.attribute-returns-in_err-attribute_value-in_default
attribute-returns-in_err-attribute_value-in_default t c =
    let p = err_from_is_err_and c.from_residual-in_err-attribute_value-in_default.result c.from_residual-in_err-attribute_value-in_default.ensures.1 in
    record {
      goes_on = rw (p.1, p.2) (alone-fault (option_copied c.args.target) c.args.place c.args.name.now (trailers_from c.args.all.now c.args.at)
          (meant c.args.value) c.in_err-attribute_value-in_default.field-0.0 c.args.state.now
          (not-called-at c.args.all.now c.args.at c.index-all-at.result c.if-at-all.false c.index-all-at.is c.in_default.not-Call) c.in_err-attribute_value-in_default.ensures);
      further = rw p.1 tt;
    }

pub attribute-returns-in_ok-attribute_value-in_default : goal.attribute-returns-in_ok-attribute_value-in_default
attribute-returns-in_ok-attribute_value-in_default t c = record {
  goes_on = alone-is (option_copied c.args.target) c.args.place c.args.name.now (trailers_from c.args.all.now c.args.at) (meant c.args.value)
      (meant c.in_ok-attribute_value-in_default.field-0) c.args.state.now c.attribute_value-in_default.new.state
      (not-called-at c.args.all.now c.args.at c.index-all-at.result c.if-at-all.false c.index-all-at.is c.in_default.not-Call) c.in_ok-attribute_value-in_default.ensures;
  further = omega arith;
}

-- ---- elements
pub elements-returns-in_err-result : goal.elements-returns-in_err-result
elements-returns-in_err-result t c =
    let p = err_from_is_err_and c.from_residual-in_err-result.result c.from_residual-in_err-result.ensures.1 in
    let e = c.in_err-result.field-0.0 in
    let vs = through_seen c.args.through.now in
    let x = expr_view c.args.element.now in
    rw (p.1, p.2) (Fails-same e _ (turns c.args.place (expr_place x) c.args.name.now (expr_means x) [] vs c.args.state.now) c.loop-k.invariant
    (turns-fault c.args.place (expr_place x) c.args.name.now (expr_means x) c.loop-k.items vs c.loop-k.k (meant c.in_ok-value.value) e c.loop-k.state c.in_ok-value.ensures c.in_err-result.ensures))

pub elements-returns-in_err-push : goal.elements-returns-in_err-push
elements-returns-in_err-push t c =
    let p = err_from_is_err_and c.from_residual-in_err-push.result c.from_residual-in_err-push.ensures.1 in
    let e = c.in_err-push.field-0.0 in
    let vs = through_seen c.args.through.now in
    let x = expr_view c.args.element.now in
    rw (p.1, p.2) (Fails-same e _ (turns c.args.place (expr_place x) c.args.name.now (expr_means x) [] vs c.args.state.now) c.loop-k.invariant
    (turns-full c.args.place (expr_place x) c.args.name.now (expr_means x) c.loop-k.items vs c.loop-k.k (meant c.in_ok-value.value)
    (meant c.in_ok-result.result) e c.loop-k.state c.one_element.new.state
    c.in_ok-value.ensures c.in_ok-result.ensures (c.in_err-push.ensures.gives c.one_element.new.state)))

pub elements-loop-k-preserved : goal.elements-loop-k-preserved
elements-loop-k-preserved t c =
    let vs = through_seen c.args.through.now in
    let x = expr_view c.args.element.now in
    c.loop-k.invariant
    ∙ turns-next c.args.place (expr_place x) c.args.name.now (expr_means x) c.loop-k.items c.push.new.self vs c.loop-k.k (meant c.in_ok-value.value)
    (meant c.in_ok-result.result) c.loop-k.state c.one_element.new.state
    c.in_ok-value.ensures c.in_ok-result.ensures (c.in_ok-push.ensures.gives c.one_element.new.state)

-- ---- items
pub items-loop-tree-preserved : goal.items-loop-tree-preserved
items-loop-tree-preserved t c = λ comma.
    c.loop-tree.invariant comma
    ∙ items-next c.args.place c.args.others.now c.loop-tree.tree-index c.tree-item.result comma c.loop-tree.items c.push-in-loop-tree.new.self
    (meant c.in_ok-value.value) c.loop-tree.state c.expr.new.state
    c.loop-tree-test.true c.tree-item.is c.in_ok-value.ensures (c.in_ok-push-2.ensures.gives c.expr.new.state)

-- ---- trailers
pub trailer-returns-in-Attribute-clause-goes_on : goal.trailer-returns-in-Attribute-clause-goes_on
trailer-returns-in-Attribute-clause-goes_on t c =
    let is = attribute-at c.args.all.now c.args.at c.index-all-at.result c.in-Attribute.name c.requires c.index-all-at.is c.in-Attribute.is in
    subst (λ (ts : Trailers). GoesOn {X = code_value.Value × ℕ} {Y = Value}
    (λ r. trailers_mean (option_copied c.args.target) c.args.place (trailers_from c.args.all.now r.1) (meant r.0)) c.attribute.result c.attribute.new.state
    (trailers_mean (option_copied c.args.target) c.args.place ts (meant c.args.value) c.args.state.now)) (sym is) c.attribute.ensures.goes_on

pub trailer-returns-in_err-arguments_given-in-Call-clause-goes_on : goal.trailer-returns-in_err-arguments_given-in-Call-clause-goes_on
trailer-returns-in_err-arguments_given-in-Call-clause-goes_on t c =
    let p = err_from_is_err_and c.from_residual.result c.from_residual.ensures.1 in
    let e = c.in_err-arguments_given-in-Call.field-0.0 in
    let xs = args_of (map arg_view c.in-Call.args.items) c.in-Call.comma in
    let is = call-at c.args.all.now c.args.at c.index-all-at.result c.in-Call.place c.in-Call.args c.in-Call.comma c.requires c.index-all-at.is c.in-Call.is in
    let fails : Fails e (args_mean false xs c.args.state.now) = rw c.deref.ensures.value at (c.in_err-arguments_given-in-Call.ensures c.in-Call.comma) in
    rw (p.1, p.2) (subst (λ (ts : Trailers). Fails e (trailers_mean (option_copied c.args.target) c.args.place ts (meant c.args.value) c.args.state.now)) (sym is)
    (refused-args-fault (option_copied c.args.target) c.args.place c.in-Call.place xs (trailers_from c.args.all.now (c.args.at + 1)) (meant c.args.value) e c.args.state.now fails))

pub trailer-returns-in_ok-arguments_given-in-Call-clause-goes_on : goal.trailer-returns-in_ok-arguments_given-in-Call-clause-goes_on
trailer-returns-in_ok-arguments_given-in-Call-clause-goes_on t c =
    let xs = args_of (map arg_view c.in-Call.args.items) c.in-Call.comma in
    let gs = map given_seen c.in_ok-arguments_given-in-Call.field-0.items in
    let is = call-at c.args.all.now c.args.at c.index-all-at.result c.in-Call.place c.in-Call.args c.in-Call.comma c.requires c.index-all-at.is c.in-Call.is in
    let given : args_mean false xs c.args.state.now ≡ Ok (gs, c.arguments_given.new.state) = rw c.deref.ensures.value at (c.in_ok-arguments_given-in-Call.ensures c.in-Call.comma) in
    ap (λ (ts : Trailers). trailers_mean (option_copied c.args.target) c.args.place ts (meant c.args.value) c.args.state.now) is
    ∙ refused (option_copied c.args.target) c.args.place c.in-Call.place xs (trailers_from c.args.all.now (c.args.at + 1)) (meant c.args.value) gs c.args.state.now c.arguments_given.new.state given

pub trailer-returns-in_err-indices-in-Index-clause-goes_on : goal.trailer-returns-in_err-indices-in-Index-clause-goes_on
trailer-returns-in_err-indices-in-Index-clause-goes_on t c =
    let p = err_from_is_err_and c.from_residual-in_err-indices-in-Index.result c.from_residual-in_err-indices-in-Index.ensures.1 in
    let e = c.in_err-indices-in-Index.field-0.0 in
    let x = index_view c.in-Index.first in
    let xs = indices_of (map index_view c.in-Index.rest.items) in
    let first = evaluated c.in_ok-index-in-Index.index in
    let rest = trailers_from c.args.all.now (c.args.at + 1) in
    let is = indexed-at c.args.all.now c.args.at c.index-all-at.result c.in-Index.bracket c.in-Index.first c.in-Index.rest c.requires c.index-all-at.is c.in-Index.is in
    let means : index_means x c.args.state.now ≡ Ok (first, c.index_given.new.state) = c.in_ok-index-in-Index.ensures in
    let others : Fails e (and_then (indices_mean (indices_of (map index_view c.deref-in-Index.result.now)) c.index_given.new.state) (λ is. done (first ∷ is))) = c.in_err-indices-in-Index.ensures in
    let fails : Fails e (and_then (indices_mean xs c.index_given.new.state) (λ is. done (first ∷ is))) =
    subst (λ (ys : List code_index.Index). Fails e (and_then (indices_mean (indices_of (map index_view ys)) c.index_given.new.state) (λ is. done (first ∷ is))))
    c.deref-in-Index.ensures.value others in
    rw (p.1, p.2) (subst (λ (ts : Trailers). Fails e (trailers_mean (option_copied c.args.target) c.args.place ts (meant c.args.value) c.args.state.now)) (sym is)
    (indexed-args-fault (option_copied c.args.target) c.args.place c.in-Index.bracket x xs rest (meant c.args.value) c.args.state.now first e c.index_given.new.state means fails))

pub trailer-returns-in_err-index_value-in-Index-clause-goes_on : goal.trailer-returns-in_err-index_value-in-Index-clause-goes_on
trailer-returns-in_err-index_value-in-Index-clause-goes_on t c =
    let p = err_from_is_err_and c.from_residual-in_err-index_value-in-Index.result c.from_residual-in_err-index_value-in-Index.ensures.1 in
    let e = c.in_err-index_value-in-Index.field-0.0 in
    let x = index_view c.in-Index.first in
    let xs = indices_of (map index_view c.in-Index.rest.items) in
    let first = evaluated c.in_ok-index-in-Index.index in
    let rest = trailers_from c.args.all.now (c.args.at + 1) in
    let is = indexed-at c.args.all.now c.args.at c.index-all-at.result c.in-Index.bracket c.in-Index.first c.in-Index.rest c.requires c.index-all-at.is c.in-Index.is in
    let means : index_means x c.args.state.now ≡ Ok (first, c.index_given.new.state) = c.in_ok-index-in-Index.ensures in
    let others : and_then (indices_mean (indices_of (map index_view c.deref-in-Index.result.now)) c.index_given.new.state) (λ is. done (first ∷ is))
    ≡ Ok (map evaluated c.in_ok-indices-in-Index.indices.items, c.indices_given.new.state) = c.in_ok-indices-in-Index.ensures in
    let given : and_then (indices_mean xs c.index_given.new.state) (λ is. done (first ∷ is)) ≡ Ok (map evaluated c.in_ok-indices-in-Index.indices.items, c.indices_given.new.state) =
    subst (λ (ys : List code_index.Index). and_then (indices_mean (indices_of (map index_view ys)) c.index_given.new.state) (λ is. done (first ∷ is))
    ≡ Ok (map evaluated c.in_ok-indices-in-Index.indices.items, c.indices_given.new.state)) c.deref-in-Index.ensures.value others in
    let indexed : Fails e (index_value c.in-Index.bracket (meant c.args.value) (map evaluated c.deref-in-Index-2.result.now) c.indices_given.new.state) = c.in_err-index_value-in-Index.ensures in
    let fails = subst (λ (ys : List code_evaluated.Evaluated). Fails e (index_value c.in-Index.bracket (meant c.args.value) (map evaluated ys) c.indices_given.new.state))
    c.deref-in-Index-2.ensures.value indexed in
    rw (p.1, p.2) (subst (λ (ts : Trailers). Fails e (trailers_mean (option_copied c.args.target) c.args.place ts (meant c.args.value) c.args.state.now)) (sym is)
    (indexed-fault (option_copied c.args.target) c.args.place c.in-Index.bracket x xs rest (meant c.args.value) c.args.state.now first
    (map evaluated c.in_ok-indices-in-Index.indices.items) e c.index_given.new.state c.indices_given.new.state means given fails))

pub trailer-returns-in_ok-index_value-in-Index-clause-goes_on : goal.trailer-returns-in_ok-index_value-in-Index-clause-goes_on
trailer-returns-in_ok-index_value-in-Index-clause-goes_on t c =
    let x = index_view c.in-Index.first in
    let xs = indices_of (map index_view c.in-Index.rest.items) in
    let first = evaluated c.in_ok-index-in-Index.index in
    let rest = trailers_from c.args.all.now (c.args.at + 1) in
    let is = indexed-at c.args.all.now c.args.at c.index-all-at.result c.in-Index.bracket c.in-Index.first c.in-Index.rest c.requires c.index-all-at.is c.in-Index.is in
    let means : index_means x c.args.state.now ≡ Ok (first, c.index_given.new.state) = c.in_ok-index-in-Index.ensures in
    let others : and_then (indices_mean (indices_of (map index_view c.deref-in-Index.result.now)) c.index_given.new.state) (λ is. done (first ∷ is))
    ≡ Ok (map evaluated c.in_ok-indices-in-Index.indices.items, c.indices_given.new.state) = c.in_ok-indices-in-Index.ensures in
    let given : and_then (indices_mean xs c.index_given.new.state) (λ is. done (first ∷ is)) ≡ Ok (map evaluated c.in_ok-indices-in-Index.indices.items, c.indices_given.new.state) =
    subst (λ (ys : List code_index.Index). and_then (indices_mean (indices_of (map index_view ys)) c.index_given.new.state) (λ is. done (first ∷ is))
    ≡ Ok (map evaluated c.in_ok-indices-in-Index.indices.items, c.indices_given.new.state)) c.deref-in-Index.ensures.value others in
    let indexed : index_value c.in-Index.bracket (meant c.args.value) (map evaluated c.deref-in-Index-2.result.now) c.indices_given.new.state
    ≡ Ok (meant c.in_ok-index_value-in-Index.field-0, c.index_value.new.state) = c.in_ok-index_value-in-Index.ensures in
    let value = subst (λ (ys : List code_evaluated.Evaluated). index_value c.in-Index.bracket (meant c.args.value) (map evaluated ys) c.indices_given.new.state
    ≡ Ok (meant c.in_ok-index_value-in-Index.field-0, c.index_value.new.state)) c.deref-in-Index-2.ensures.value indexed in
    ap (λ (ts : Trailers). trailers_mean (option_copied c.args.target) c.args.place ts (meant c.args.value) c.args.state.now) is
    ∙ indexed-value (option_copied c.args.target) c.args.place c.in-Index.bracket x xs rest (meant c.args.value) c.args.state.now first
    (map evaluated c.in_ok-indices-in-Index.indices.items) (meant c.in_ok-index_value-in-Index.field-0)
    c.index_given.new.state c.indices_given.new.state c.index_value.new.state means given value

-- ---- names
pub named-returns-in_err-look : goal.named-returns-in_err-look
named-returns-in_err-look t c =
    let p = err_from_is_err_and c.from_residual.result c.from_residual.ensures.1 in
    let none : length c.args.all.now ≤ 0 = first_of (search rules, grind (arith, common_steps)) in
    rw (p.1, p.2) (name-fault (option_copied c.args.target) c.args.name.now (trailers_from c.args.all.now 0) c.in_err-look.field-0.0 c.args.state.now
    (ap is_called (trailers-none c.args.all.now 0 none)) c.in_err-look.ensures)

pub named-returns-then-is_empty : goal.named-returns-then-is_empty
named-returns-then-is_empty t c =
    let none : length c.args.all.now ≤ 0 = first_of (search rules, grind (arith, common_steps)) in
    let v = meant c.in_ok-look.field-0 in
    name-is (option_copied c.args.target) c.args.name.now (trailers_from c.args.all.now 0) v c.args.state.now c.args.state.now (ap is_called (trailers-none c.args.all.now 0 none)) c.in_ok-look.ensures
    ∙ ap (λ (ts : Trailers). trailers_mean (option_copied c.args.target) c.args.name.now.place ts v c.args.state.now) (trailers-none c.args.all.now 0 none)

pub named-returns-in_err-ranged-in-Call : goal.named-returns-in_err-ranged-in-Call
named-returns-in_err-ranged-in-Call t c =
    let p = err_from_is_err_and c.from_residual-in_err-ranged-in-Call.result c.from_residual-in_err-ranged-in-Call.ensures.1 in
    let e = c.in_err-ranged-in-Call.field-0.0 in
    let within : 0 < length c.args.all.now = first_of (search rules, grind (arith, common_steps)) in
    let xs = args_of (map arg_view c.in-Call.args.items) c.in-Call.comma in
    let is = call-at c.args.all.now 0 c.index-all-0.result c.in-Call.place c.in-Call.args c.in-Call.comma within c.index-all-0.is c.in-Call.is in
    rw (p.1, p.2) (subst (λ (ts : Trailers). Fails e (postfix_means (option_copied c.args.target) (postfix (name_at c.args.name.now) ts) c.args.state.now)) (sym is)
    (name-refused (option_copied c.args.target) c.args.name.now c.in-Call.place xs (trailers_from c.args.all.now 1) c.args.state.now e c.in_err-ranged-in-Call.ensures))

pub named-returns-in_err-given-in-Call : goal.named-returns-in_err-given-in-Call
named-returns-in_err-given-in-Call t c =
    let p = err_from_is_err_and c.from_residual-in_err-given-in-Call.result c.from_residual-in_err-given-in-Call.ensures.1 in
    let e = c.in_err-given-in-Call.field-0.0 in
    let within : 0 < length c.args.all.now = first_of (search rules, grind (arith, common_steps)) in
    let xs = args_of (map arg_view c.in-Call.args.items) c.in-Call.comma in
    let is = call-at c.args.all.now 0 c.index-all-0.result c.in-Call.place c.in-Call.args c.in-Call.comma within c.index-all-0.is c.in-Call.is in
    let fails : Fails e (args_mean false xs c.args.state.now) = rw c.deref.ensures.value at (c.in_err-given-in-Call.ensures c.in-Call.comma) in
    rw (p.1, p.2) (subst (λ (ts : Trailers). Fails e (postfix_means (option_copied c.args.target) (postfix (name_at c.args.name.now) ts) c.args.state.now)) (sym is)
    (name-args-fault (option_copied c.args.target) c.args.name.now c.in-Call.place xs
    (trailers_from c.args.all.now 1) c.args.state.now c.in_ok-ranged-in-Call.ranged e c.args.state.now c.in_ok-ranged-in-Call.ensures fails))

pub named-returns-in_err-value-in-Call : goal.named-returns-in_err-value-in-Call
named-returns-in_err-value-in-Call t c =
    let p = err_from_is_err_and c.from_residual-in_err-value-in-Call.result c.from_residual-in_err-value-in-Call.ensures.1 in
    let e = c.in_err-value-in-Call.field-0.0 in
    let within : 0 < length c.args.all.now = first_of (search rules, grind (arith, common_steps)) in
    let xs = args_of (map arg_view c.in-Call.args.items) c.in-Call.comma in
    let gs = map given_seen c.in_ok-given-in-Call.given.items in
    let is = call-at c.args.all.now 0 c.index-all-0.result c.in-Call.place c.in-Call.args c.in-Call.comma within c.index-all-0.is c.in-Call.is in
    let given : args_mean false xs c.args.state.now ≡ Ok (gs, c.arguments_given.new.state) = rw c.deref.ensures.value at (c.in_ok-given-in-Call.ensures c.in-Call.comma) in
    rw (p.1, p.2) (subst (λ (ts : Trailers). Fails e (postfix_means (option_copied c.args.target) (postfix (name_at c.args.name.now) ts) c.args.state.now)) (sym is)
    (name-call-fault (option_copied c.args.target) c.args.name.now c.in-Call.place xs
    (trailers_from c.args.all.now 1) c.args.state.now c.in_ok-ranged-in-Call.ranged gs e c.args.state.now c.arguments_given.new.state
    c.in_ok-ranged-in-Call.ensures given c.in_err-value-in-Call.ensures))

pub named-returns-in_ok-value-in-Call : goal.named-returns-in_ok-value-in-Call
named-returns-in_ok-value-in-Call t c =
    let within : 0 < length c.args.all.now = first_of (search rules, grind (arith, common_steps)) in
    let xs = args_of (map arg_view c.in-Call.args.items) c.in-Call.comma in
    let gs = map given_seen c.in_ok-given-in-Call.given.items in
    let is = call-at c.args.all.now 0 c.index-all-0.result c.in-Call.place c.in-Call.args c.in-Call.comma within c.index-all-0.is c.in-Call.is in
    let given : args_mean false xs c.args.state.now ≡ Ok (gs, c.arguments_given.new.state) = rw c.deref.ensures.value at (c.in_ok-given-in-Call.ensures c.in-Call.comma) in
    subst (λ (r : Result (Value × State) ElabFault). Gives meant c.trailers.result c.trailers.new.state r)
    (sym (ap (λ (ts : Trailers). postfix_means (option_copied c.args.target) (postfix (name_at c.args.name.now) ts) c.args.state.now) is
    ∙ name-call-is (option_copied c.args.target) c.args.name.now c.in-Call.place xs (trailers_from c.args.all.now 1) c.args.state.now c.in_ok-ranged-in-Call.ranged gs
    (meant c.in_ok-value-in-Call.value) c.args.state.now c.arguments_given.new.state
    c.name_called.new.state c.in_ok-ranged-in-Call.ensures given c.in_ok-value-in-Call.ensures)) c.trailers.ensures

pub named-returns-in_err-value-in_default : goal.named-returns-in_err-value-in_default
named-returns-in_err-value-in_default t c =
    let p = err_from_is_err_and c.from_residual-in_err-value-in_default.result c.from_residual-in_err-value-in_default.ensures.1 in
    let within : 0 < length c.args.all.now = first_of (search rules, grind (arith, common_steps)) in
    rw (p.1, p.2) (name-fault (option_copied c.args.target) c.args.name.now (trailers_from c.args.all.now 0) c.in_err-value-in_default.field-0.0 c.args.state.now
    (not-called-at c.args.all.now 0 c.index-all-0.result within c.index-all-0.is c.in_default.not-Call) c.in_err-value-in_default.ensures)

pub named-returns-in_ok-value-in_default : goal.named-returns-in_ok-value-in_default
named-returns-in_ok-value-in_default t c =
    let within : 0 < length c.args.all.now = first_of (search rules, grind (arith, common_steps)) in
    subst (λ (r : Result (Value × State) ElabFault). Gives meant c.trailers-in_default.result c.trailers-in_default.new.state r)
    (sym (name-is (option_copied c.args.target) c.args.name.now (trailers_from c.args.all.now 0) (meant c.in_ok-value-in_default.value) c.args.state.now c.args.state.now
    (not-called-at c.args.all.now 0 c.index-all-0.result within c.index-all-0.is c.in_default.not-Call) c.in_ok-value-in_default.ensures)) c.trailers-in_default.ensures

-- ---- postfixes
pub postfix-returns-in-Name : goal.postfix-returns-in-Name
postfix-returns-in-Name t c =
    let is : postfix_view c.args.tree.now ≡ postfix (name_at c.in-Name.name) (trailers_from c.deref.result.now 0) =
    postfix-seen c.args.tree.now
    ∙ ap (λ (x : Primary). postfix x (trailers_from c.args.tree.now.trailers.items 0)) (ap primary_view c.in-Name.is ∙ name-seen c.in-Name.name)
    ∙ ap (λ (xs : List code_trailer.Trailer). postfix (name_at c.in-Name.name) (trailers_from xs 0)) (sym c.deref.ensures.value) in
    subst (λ (x : Postfix). Gives meant c.named.result c.named.new.state (postfix_means (option_copied c.args.target) x c.args.state.now)) (sym is) c.named.ensures

pub postfix-returns-in_err-value-in_default : goal.postfix-returns-in_err-value-in_default
postfix-returns-in_err-value-in_default t c =
    let p = err_from_is_err_and c.from_residual.result c.from_residual.ensures.1 in
    let e = c.in_err-value-in_default.field-0.0 in
    rw (p.1, p.2) (subst (λ (x : Postfix). Fails e (postfix_means (option_copied c.args.target) x c.args.state.now)) (sym (postfix-seen c.args.tree.now))
    (primary-fault (option_copied c.args.target) (primary_view c.args.tree.now.primary) (trailers_from c.args.tree.now.trailers.items 0) e c.args.state.now
    (not-name c.args.tree.now.primary c.in_default.not-Name) c.in_err-value-in_default.ensures))

pub postfix-returns-in_ok-value-in_default : goal.postfix-returns-in_ok-value-in_default
postfix-returns-in_ok-value-in_default t c =
    let T = option_copied c.args.target in
    let v = meant c.in_ok-value-in_default.value in
    let u = c.primary.new.state in
    let x = primary_view c.args.tree.now.primary in
    let is : postfix_means T (postfix_view c.args.tree.now) c.args.state.now ≡ trailers_mean T c.primary_place-place.result (trailers_from c.deref-in_default.result.now 0) v u =
    ap (λ (y : Postfix). postfix_means T y c.args.state.now) (postfix-seen c.args.tree.now)
    ∙ primary-is T x (trailers_from c.args.tree.now.trailers.items 0) v c.args.state.now u (not-name c.args.tree.now.primary c.in_default.not-Name) c.in_ok-value-in_default.ensures
    ∙ ap (λ (q : Place). trailers_mean T q (trailers_from c.args.tree.now.trailers.items 0) v u) (sym c.primary_place-place.ensures)
    ∙ ap (λ (xs : List code_trailer.Trailer). trailers_mean T c.primary_place-place.result (trailers_from xs 0) v u) (sym c.deref-in_default.ensures.value) in
    subst (λ (r : Result (Value × State) ElabFault). Gives meant c.trailers.result c.trailers.new.state r) (sym is) c.trailers.ensures

-- ---- slices
pub index_given-returns-in_err-stop-in-Slice : goal.index_given-returns-in_err-stop-in-Slice
index_given-returns-in_err-stop-in-Slice t c =
    let p = err_from_is_err_and c.from_residual-in_err-stop-in-Slice.result c.from_residual-in_err-stop-in-Slice.ensures.1 in
    let e = c.in_err-stop-in-Slice.field-0.0 in
    rw (p.1, p.2) (subst (λ (x : Index). Fails e (index_means x c.args.state.now)) (sym (ap index_view c.in-Slice.is ∙ slice-seen c.in-Slice.start c.in-Slice.stop c.in-Slice.step))
    (stop-fault (optional_view c.in-Slice.start) (optional_view c.in-Slice.stop) (step_view c.in-Slice.step) _ e c.args.state.now _ c.in_ok-start-in-Slice.ensures c.in_err-stop-in-Slice.ensures))

pub index_given-returns-in_err-step-in-Slice : goal.index_given-returns-in_err-step-in-Slice
index_given-returns-in_err-step-in-Slice t c =
    let p = err_from_is_err_and c.from_residual-in_err-step-in-Slice.result c.from_residual-in_err-step-in-Slice.ensures.1 in
    let e = c.in_err-step-in-Slice.field-0.0 in
    rw (p.1, p.2) (subst (λ (x : Index). Fails e (index_means x c.args.state.now)) (sym (ap index_view c.in-Slice.is ∙ slice-seen c.in-Slice.start c.in-Slice.stop c.in-Slice.step))
    (step-fault (optional_view c.in-Slice.start) (optional_view c.in-Slice.stop)
    (step_view c.in-Slice.step) _ _ e c.args.state.now _ _ c.in_ok-start-in-Slice.ensures c.in_ok-stop-in-Slice.ensures c.in_err-step-in-Slice.ensures))

-- ---- primaries
pub primary-returns-in_err-items-in-Tuple : goal.primary-returns-in_err-items-in-Tuple
primary-returns-in_err-items-in-Tuple t c =
    let p = err_from_is_err_and c.from_residual-in_err-items-in-Tuple.result c.from_residual-in_err-items-in-Tuple.ensures.1 in
    let e = c.in_err-items-in-Tuple.field-0.0 in
    let x = expr_view c.in-Tuple.first.value in
    let v = meant c.in_ok-value-in-Tuple.value in
    let u = c.expr-in-Tuple.new.state in
    let means : expr_means x c.args.state.now ≡ Ok (v, u) = rw c.deref-in-Tuple.ensures at c.in_ok-value-in-Tuple.ensures in
    let others : Fails e (and_then (with_item c.in-Tuple.place [] (done v) u)
    (more_items_mean c.in-Tuple.place (more_items_of (map expr_view c.deref-in-Tuple-2.result.now) c.in-Tuple.comma))) = c.in_err-items-in-Tuple.ensures c.in-Tuple.comma in
    let fails = subst (λ (ys : List code_expr.Expr). Fails e (and_then (with_item c.in-Tuple.place [] (done v) u)
    (more_items_mean c.in-Tuple.place (more_items_of (map expr_view ys) c.in-Tuple.comma)))) c.deref-in-Tuple-2.ensures.value others in
    rw (p.1, p.2) (subst (λ (y : Primary). Fails e (primary_means y c.args.state.now))
    (sym (ap primary_view c.in-Tuple.is ∙ tuple-seen c.in-Tuple.place c.in-Tuple.first c.in-Tuple.rest c.in-Tuple.comma))
    (tuple-fault c.in-Tuple.place x (map expr_view c.in-Tuple.rest.items) c.in-Tuple.comma v e c.args.state.now u means fails))

pub primary-returns-in_ok-items-in-Tuple : goal.primary-returns-in_ok-items-in-Tuple
primary-returns-in_ok-items-in-Tuple t c =
    let x = expr_view c.in-Tuple.first.value in
    let v = meant c.in_ok-value-in-Tuple.value in
    let u = c.expr-in-Tuple.new.state in
    let us = c.in_ok-items-in-Tuple.field-0.value in
    let w = c.items.new.state in
    let means : expr_means x c.args.state.now ≡ Ok (v, u) = rw c.deref-in-Tuple.ensures at c.in_ok-value-in-Tuple.ensures in
    let others : and_then (with_item c.in-Tuple.place [] (done v) u) (more_items_mean c.in-Tuple.place
    (more_items_of (map expr_view c.deref-in-Tuple-2.result.now) c.in-Tuple.comma)) ≡ Ok (items_of us, w) = c.in_ok-items-in-Tuple.ensures c.in-Tuple.comma in
    let made = subst (λ (ys : List code_expr.Expr). and_then (with_item c.in-Tuple.place [] (done v) u)
    (more_items_mean c.in-Tuple.place (more_items_of (map expr_view ys) c.in-Tuple.comma)) ≡ Ok (items_of us, w)) c.deref-in-Tuple-2.ensures.value others in
    ap (λ (y : Primary). primary_means y c.args.state.now) (ap primary_view c.in-Tuple.is ∙ tuple-seen c.in-Tuple.place c.in-Tuple.first c.in-Tuple.rest c.in-Tuple.comma)
    ∙ tuple-is c.in-Tuple.place x (map expr_view c.in-Tuple.rest.items) c.in-Tuple.comma v us c.args.state.now u w means made

pub primary-returns-in_err-items-in-List : goal.primary-returns-in_err-items-in-List
primary-returns-in_err-items-in-List t c =
    let p = err_from_is_err_and c.from_residual-in_err-items-in-List.result c.from_residual-in_err-items-in-List.ensures.1 in
    let e = c.in_err-items-in-List.field-0.0 in
    let x = expr_view c.in-List.first.value in
    let v = meant c.in_ok-value-in-List.value in
    let u = c.expr-in-List.new.state in
    let means : expr_means x c.args.state.now ≡ Ok (v, u) = rw c.deref-in-List.ensures at c.in_ok-value-in-List.ensures in
    let others : Fails e (and_then (with_item c.in-List.place [] (done v) u)
    (more_items_mean c.in-List.place (more_items_of (map expr_view c.deref-in-List-2.result.now) c.in-List.comma))) = c.in_err-items-in-List.ensures c.in-List.comma in
    let fails = subst (λ (ys : List code_expr.Expr). Fails e (and_then (with_item c.in-List.place [] (done v) u)
    (more_items_mean c.in-List.place (more_items_of (map expr_view ys) c.in-List.comma)))) c.deref-in-List-2.ensures.value others in
    rw (p.1, p.2) (subst (λ (y : Primary). Fails e (primary_means y c.args.state.now)) (sym (ap primary_view c.in-List.is ∙ list-seen c.in-List.place c.in-List.first c.in-List.rest c.in-List.comma))
    (list-fault c.in-List.place x (map expr_view c.in-List.rest.items) c.in-List.comma v e c.args.state.now u means fails))

pub primary-returns-in_ok-items-in-List : goal.primary-returns-in_ok-items-in-List
primary-returns-in_ok-items-in-List t c =
    let x = expr_view c.in-List.first.value in
    let v = meant c.in_ok-value-in-List.value in
    let u = c.expr-in-List.new.state in
    let us = c.in_ok-items-in-List.field-0.value in
    let w = c.items-in-List.new.state in
    let means : expr_means x c.args.state.now ≡ Ok (v, u) = rw c.deref-in-List.ensures at c.in_ok-value-in-List.ensures in
    let others : and_then (with_item c.in-List.place [] (done v) u) (more_items_mean c.in-List.place
    (more_items_of (map expr_view c.deref-in-List-2.result.now) c.in-List.comma)) ≡ Ok (items_of us, w) = c.in_ok-items-in-List.ensures c.in-List.comma in
    let made = subst (λ (ys : List code_expr.Expr). and_then (with_item c.in-List.place [] (done v) u)
    (more_items_mean c.in-List.place (more_items_of (map expr_view ys) c.in-List.comma)) ≡ Ok (items_of us, w)) c.deref-in-List-2.ensures.value others in
    ap (λ (y : Primary). primary_means y c.args.state.now) (ap primary_view c.in-List.is ∙ list-seen c.in-List.place c.in-List.first c.in-List.rest c.in-List.comma)
    ∙ list-is c.in-List.place x (map expr_view c.in-List.rest.items) c.in-List.comma v us c.args.state.now u w means made

pub primary-returns-in_ok-elements-in-Comprehension : goal.primary-returns-in_ok-elements-in-Comprehension
primary-returns-in_ok-elements-in-Comprehension t c =
    let x = expr_view c.in-Comprehension.element.value in
    let from = expr_view c.in-Comprehension.source.value in
    let v = meant c.in_ok-value-in-Comprehension.value in
    let vs = through_seen c.in_ok-through-in-Comprehension.through in
    let us = c.in_ok-elements-in-Comprehension.field-0.value in
    let u = c.expr-in-Comprehension.new.state in
    let w = c.elements.new.state in
    let given : expr_means (expr_view c.deref-in-Comprehension.result.now) c.args.state.now ≡ Ok (v, u) = c.in_ok-value-in-Comprehension.ensures in
    let means = subst (λ (y : code_expr.Expr). expr_means (expr_view y) c.args.state.now ≡ Ok (v, u)) c.deref-in-Comprehension.ensures given in
    let turned : turns c.in-Comprehension.place (expr_place (expr_view c.deref-in-Comprehension-2.result.now)) c.in-Comprehension.name.name
    (expr_means (expr_view c.deref-in-Comprehension-2.result.now)) [] vs u ≡ Ok (items_of us, w) =
    c.in_ok-elements-in-Comprehension.ensures in
    let made = subst (λ (y : code_expr.Expr). turns c.in-Comprehension.place (expr_place (expr_view y)) c.in-Comprehension.name.name (expr_means (expr_view y)) [] vs u
    ≡ Ok (items_of us, w)) c.deref-in-Comprehension-2.ensures turned in
    ap (λ (y : Primary). primary_means y c.args.state.now)
    (ap primary_view c.in-Comprehension.is ∙ comprehension-seen c.in-Comprehension.place c.in-Comprehension.element c.in-Comprehension.for_place c.in-Comprehension.name c.in-Comprehension.source)
    ∙ comprehension-is c.in-Comprehension.place c.in-Comprehension.for_place x c.in-Comprehension.name from c.args.state.now v vs us u w means (c.in_ok-through-in-Comprehension.ensures u) made

-- ---- the layers of an expression
pub expr-returns-in_err-left : goal.expr-returns-in_err-left
expr-returns-in_err-left t c =
    let p = err_from_is_err_and c.from_residual.result c.from_residual.ensures.1 in
    rw (p.1, p.2) (expr-fault c.args.tree.now c.in_err-left.field-0.0 c.args.state.now c.in_err-left.ensures)

pub expr-returns : goal.expr-returns
expr-returns t c =
    expr-gives c.args.tree.now c.deref.result.now
    (meant c.in_ok-left.left) c.args.state.now c.sum.new.state c.comparisons.new.state c.comparisons.result c.deref.ensures.value c.in_ok-left.ensures c.comparisons.ensures

pub sum-returns-in_err-first : goal.sum-returns-in_err-first
sum-returns-in_err-first t c =
    let p = err_from_is_err_and c.from_residual.result c.from_residual.ensures.1 in
    rw (p.1, p.2) (sum-fault c.args.tree.now c.in_err-first.field-0.0 c.args.state.now c.in_err-first.ensures)

pub sum-returns : goal.sum-returns
sum-returns t c =
    sum-gives c.args.tree.now c.deref.result.now
    (meant c.in_ok-first.first) c.args.state.now c.term.new.state c.additions.new.state c.additions.result c.deref.ensures.value c.in_ok-first.ensures c.additions.ensures

pub term-returns-in_err-first : goal.term-returns-in_err-first
term-returns-in_err-first t c =
    let p = err_from_is_err_and c.from_residual.result c.from_residual.ensures.1 in
    rw (p.1, p.2) (term-fault c.args.tree.now c.in_err-first.field-0.0 c.args.state.now c.in_err-first.ensures)

pub term-returns : goal.term-returns
term-returns t c =
    term-gives c.args.tree.now c.deref.result.now
    (meant c.in_ok-first.first) c.args.state.now c.factor.new.state c.scalings.new.state c.scalings.result c.deref.ensures.value c.in_ok-first.ensures c.scalings.ensures

pub factor-returns-in_err-value : goal.factor-returns-in_err-value
factor-returns-in_err-value t c =
    let p = err_from_is_err_and c.from_residual.result c.from_residual.ensures.1 in
    rw (p.1, p.2) (factor-fault c.args.tree.now c.in_err-value.field-0.0 c.args.state.now c.in_err-value.ensures)

pub factor-returns : goal.factor-returns
factor-returns t c =
    factor-gives c.args.tree.now c.deref.result.now
    (meant c.in_ok-value.value) c.args.state.now c.power.new.state c.signed.new.state c.signed.result c.deref.ensures c.in_ok-value.ensures c.signed.ensures

pub power-returns-in_err-value : goal.power-returns-in_err-value
power-returns-in_err-value t c =
    let p = err_from_is_err_and c.from_residual.result c.from_residual.ensures.1 in
    rw (p.1, p.2) (power-fault c.args.tree.now c.in_err-value.field-0.0 c.args.state.now c.in_err-value.ensures)

pub power-returns : goal.power-returns
power-returns t c =
    power-gives c.args.tree.now c.deref.result.now (meant c.in_ok-value.value) c.args.state.now c.postfix.new.state c.exponents.new.state c.exponents.result
    c.deref.ensures.value c.in_ok-value.ensures c.exponents.ensures

-- ---- comparisons
pub comparisons-returns-then-is_empty : goal.comparisons-returns-then-is_empty
comparisons-returns-then-is_empty t c =
    let none : length c.args.all.now ≤ 0 = first_of (search rules, grind (arith, common_steps)) in
    comparison-none c.args.all.now (meant c.args.left) c.args.state.now none

pub comparisons-returns-in_err-right : goal.comparisons-returns-in_err-right
comparisons-returns-in_err-right t c =
    let p = err_from_is_err_and c.from_residual.result c.from_residual.ensures.1 in
    let within : 0 < length c.args.all.now = first_of (search rules, grind (arith, common_steps)) in
    rw (p.1, p.2) (comparison-fault c.args.all.now c.index-all-0.result (meant c.args.left) c.args.state.now within c.index-all-0.is c.in_err-right.field-0.0 c.in_err-right.ensures)

pub comparisons-returns-in_err-value : goal.comparisons-returns-in_err-value
comparisons-returns-in_err-value t c =
    let p = err_from_is_err_and c.from_residual-in_err-value.result c.from_residual-in_err-value.ensures.1 in
    let within : 0 < length c.args.all.now = first_of (search rules, grind (arith, common_steps)) in
    rw (p.1, p.2) (compare-fault c.args.all.now c.index-all-0.result (meant c.args.left) c.args.state.now within c.index-all-0.is
    (meant c.in_ok-right.right) c.in_err-value.field-0.0 c.sum.new.state c.in_ok-right.ensures c.in_err-value.ensures)

pub comparisons-returns : goal.comparisons-returns
comparisons-returns t c =
    let within : 0 < length c.args.all.now = first_of (search rules, grind (arith, common_steps)) in
    comparison-gives c.args.all.now c.index-all-0.result (meant c.args.left) c.args.state.now within c.index-all-0.is (meant c.in_ok-right.right)
    (meant c.in_ok-value.value) c.sum.new.state c.compare_values.new.state c.chain.new.state c.chain.result c.in_ok-right.ensures c.in_ok-value.ensures c.chain.ensures

pub chain-returns-then-all-lt2 : goal.chain-returns-then-all-lt2
chain-returns-then-all-lt2 t c =
    let none : length c.args.all.now ≤ 1 = omega arith in
    second-none c.args.all.now (meant c.args.value) c.args.state.now none

pub chain-returns-in_err-sum : goal.chain-returns-in_err-sum
chain-returns-in_err-sum t c =
    let p = err_from_is_err_and c.from_residual.result c.from_residual.ensures.1 in
    let within : 1 < length c.args.all.now = omega arith in
    rw (p.1, p.2) (second-fault c.args.all.now c.index-all-1.result (meant c.args.value) c.args.state.now within c.index-all-1.is c.in_err-sum.field-0.0 c.in_err-sum.ensures)

pub chain-returns : goal.chain-returns
chain-returns t c =
    let within : 1 < length c.args.all.now = omega arith in
    second-refused c.args.all.now c.index-all-1.result (meant c.args.value) c.args.state.now within c.index-all-1.is (meant c.in_ok-sum.field-0) c.sum.new.state c.in_ok-sum.ensures

-- ---- terms of a sum
pub additions-loop-added-init : goal.additions-loop-added-init
additions-loop-added-init t c = search rules

pub additions-loop-added-smaller : goal.additions-loop-added-smaller
additions-loop-added-smaller t c = search rules

pub additions-returns-in_err-right : goal.additions-returns-in_err-right
additions-returns-in_err-right t c =
    let p = err_from_is_err_and c.from_residual.result c.from_residual.ensures.1 in
    rw (p.1, p.2) (Fails-same c.in_err-right.field-0.0 _ (added_means (added_from c.args.rest.now 0) (meant c.args.first) c.args.state.now) c.loop-added.invariant
    (addition-right-fault c.args.rest.now c.loop-added.added-index c.added-item.result
    (meant c.loop-added.value) c.loop-added.state c.loop-added-test.true c.added-item.is c.in_err-right.field-0.0 c.in_err-right.ensures))

pub additions-returns-in_err-value : goal.additions-returns-in_err-value
additions-returns-in_err-value t c =
    let p = err_from_is_err_and c.from_residual-in_err-value.result c.from_residual-in_err-value.ensures.1 in
    rw (p.1, p.2) (Fails-same c.in_err-value.field-0.0 _ (added_means (added_from c.args.rest.now 0) (meant c.args.first) c.args.state.now) c.loop-added.invariant
    (addition-fault c.args.rest.now c.loop-added.added-index c.added-item.result (meant c.loop-added.value) c.loop-added.state c.loop-added-test.true c.added-item.is
    (meant c.in_ok-right.right) c.in_err-value.field-0.0 c.term.new.state c.in_ok-right.ensures c.in_err-value.ensures))

pub additions-loop-added-preserved : goal.additions-loop-added-preserved
additions-loop-added-preserved t c =
    c.loop-added.invariant ∙ addition-next c.args.rest.now c.loop-added.added-index c.added-item.result (meant c.loop-added.value) c.loop-added.state c.loop-added-test.true
    c.added-item.is (meant c.in_ok-right.right) (meant c.in_ok-value.value) c.term.new.state c.add_values.new.state c.in_ok-right.ensures c.in_ok-value.ensures

pub additions-returns : goal.additions-returns
additions-returns t c =
    c.loop-added.invariant ∙ addition-end c.args.rest.now c.loop-added.added-index (meant c.loop-added.value) c.loop-added.state c.loop-added-test.false

-- ---- factors of a product
pub scalings-loop-scaled-init : goal.scalings-loop-scaled-init
scalings-loop-scaled-init t c = search rules

pub scalings-loop-scaled-smaller : goal.scalings-loop-scaled-smaller
scalings-loop-scaled-smaller t c = search rules

pub scalings-returns-in_err-right : goal.scalings-returns-in_err-right
scalings-returns-in_err-right t c =
    let p = err_from_is_err_and c.from_residual.result c.from_residual.ensures.1 in
    rw (p.1, p.2) (Fails-same c.in_err-right.field-0.0 _ (scaled_means (scaled_from c.args.rest.now 0) (meant c.args.first) c.args.state.now) c.loop-scaled.invariant
    (scaling-right-fault c.args.rest.now c.loop-scaled.scaled-index c.scaled-item.result
    (meant c.loop-scaled.value) c.loop-scaled.state c.loop-scaled-test.true c.scaled-item.is c.in_err-right.field-0.0 c.in_err-right.ensures))

pub scalings-returns-in_err-value : goal.scalings-returns-in_err-value
scalings-returns-in_err-value t c =
    let p = err_from_is_err_and c.from_residual-in_err-value.result c.from_residual-in_err-value.ensures.1 in
    rw (p.1, p.2) (Fails-same c.in_err-value.field-0.0 _ (scaled_means (scaled_from c.args.rest.now 0) (meant c.args.first) c.args.state.now) c.loop-scaled.invariant
    (scaling-fault c.args.rest.now c.loop-scaled.scaled-index c.scaled-item.result (meant c.loop-scaled.value) c.loop-scaled.state c.loop-scaled-test.true c.scaled-item.is
    (meant c.in_ok-right.right) c.in_err-value.field-0.0 c.factor.new.state c.in_ok-right.ensures c.in_err-value.ensures))

pub scalings-loop-scaled-preserved : goal.scalings-loop-scaled-preserved
scalings-loop-scaled-preserved t c =
    c.loop-scaled.invariant
    ∙ scaling-next c.args.rest.now c.loop-scaled.scaled-index c.scaled-item.result (meant c.loop-scaled.value) c.loop-scaled.state c.loop-scaled-test.true c.scaled-item.is
    (meant c.in_ok-right.right) (meant c.in_ok-value.value) c.factor.new.state c.scale_values.new.state c.in_ok-right.ensures c.in_ok-value.ensures

pub scalings-returns : goal.scalings-returns
scalings-returns t c =
    c.loop-scaled.invariant ∙ scaling-end c.args.rest.now c.loop-scaled.scaled-index (meant c.loop-scaled.value) c.loop-scaled.state c.loop-scaled-test.false

-- ---- exponents
pub exponents-returns-in-empty : goal.exponents-returns-in-empty
exponents-returns-in-empty t c =
    let none : length c.args.rest.now ≤ 0 = omega (arith, c.in-empty.len_below) in
    exponents-none c.args.rest.now (meant c.args.value) c.args.state.now none

pub exponents-returns-in_err-exponent-in-len1-up : goal.exponents-returns-in_err-exponent-in-len1-up
exponents-returns-in_err-exponent-in-len1-up t c =
    let p = err_from_is_err_and c.from_residual.result c.from_residual.ensures.1 in
    rw (p.1, p.2) (exponent-fault c.args.rest.now c.first-item.result
    (meant c.args.value) c.args.state.now c.in-len1-up.len_at_least c.first-item.is c.in_err-exponent-in-len1-up.field-0.0 c.in_err-exponent-in-len1-up.ensures)

pub exponents-returns-in_err-signed-in-len1-up : goal.exponents-returns-in_err-signed-in-len1-up
exponents-returns-in_err-signed-in-len1-up t c =
    let p = err_from_is_err_and c.from_residual-in_err-signed-in-len1-up.result c.from_residual-in_err-signed-in-len1-up.ensures.1 in
    rw (p.1, p.2) (exponent-sign-fault c.args.rest.now c.first-item.result (meant c.args.value) c.args.state.now c.in-len1-up.len_at_least c.first-item.is c.deref.result.now
    (meant c.in_ok-exponent-in-len1-up.exponent) c.in_err-signed-in-len1-up.field-0.0 c.postfix.new.state c.deref.ensures
    c.in_ok-exponent-in-len1-up.ensures c.in_err-signed-in-len1-up.ensures)

pub exponents-returns-in_ok-signed-in-len1-up : goal.exponents-returns-in_ok-signed-in-len1-up
exponents-returns-in_ok-signed-in-len1-up t c =
    exponent-refused c.args.rest.now c.first-item.result (meant c.args.value) c.args.state.now c.in-len1-up.len_at_least c.first-item.is c.deref.result.now
    (meant c.in_ok-exponent-in-len1-up.exponent)
    (meant c.in_ok-signed-in-len1-up.field-0) c.postfix.new.state c.signed.new.state c.deref.ensures c.in_ok-exponent-in-len1-up.ensures c.in_ok-signed-in-len1-up.ensures

-- ---- more trailers
pub trailers-loop-at-init : goal.trailers-loop-at-init
trailers-loop-at-init t c = search rules

pub trailers-returns-in_err-after : goal.trailers-returns-in_err-after
trailers-returns-in_err-after t c =
    let p = err_from_is_err_and c.from_residual.result c.from_residual.ensures.1 in
    rw (p.1, p.2) (Fails-same c.in_err-after.field-0.0 _ (trailers_mean (option_copied c.args.target) c.args.place (trailers_from c.args.all.now c.args.from)
    (meant c.args.first) c.args.state.now) c.loop-at.invariant c.in_err-after.ensures.goes_on)

pub trailers-loop-at-preserved : goal.trailers-loop-at-preserved
trailers-loop-at-preserved t c =
    c.loop-at.invariant ∙ c.in_ok-after.ensures.goes_on

pub trailers-loop-at-smaller : goal.trailers-loop-at-smaller
trailers-loop-at-smaller t c =
    let a = c.loop-at-test.true in
    let h = c.in_ok-after.ensures.further in
    omega (arith, a, h)

pub trailers-returns : goal.trailers-returns
trailers-returns t c =
    c.loop-at.invariant ∙ ap (λ (ts : Trailers). trailers_mean (option_copied c.args.target) c.args.place ts (meant c.loop-at.value) c.loop-at.state)
    (trailers-none c.args.all.now c.loop-at.at c.loop-at-test.false)

pub trailer-returns-in_err-index-in-Index-clause-goes_on : goal.trailer-returns-in_err-index-in-Index-clause-goes_on
trailer-returns-in_err-index-in-Index-clause-goes_on t c =
    let p = err_from_is_err_and c.from_residual-in_err-index-in-Index.result c.from_residual-in_err-index-in-Index.ensures.1 in
    let is = indexed-at c.args.all.now c.args.at c.index-all-at.result c.in-Index.bracket c.in-Index.first c.in-Index.rest c.requires c.index-all-at.is c.in-Index.is in
    rw (p.1, p.2) (subst (λ (ts : Trailers). Fails c.in_err-index-in-Index.field-0.0 (trailers_mean (option_copied c.args.target) c.args.place ts (meant c.args.value) c.args.state.now)) (sym is)
    (indexed-first-fault (option_copied c.args.target) c.args.place c.in-Index.bracket (index_view c.in-Index.first) (indices_of (map index_view c.in-Index.rest.items))
    (trailers_from c.args.all.now (c.args.at + 1)) (meant c.args.value) c.args.state.now c.in_err-index-in-Index.field-0.0 c.in_err-index-in-Index.ensures))

pub attribute-returns-in_err-attribute_value-clause-goes_on : goal.attribute-returns-in_err-attribute_value-clause-goes_on
attribute-returns-in_err-attribute_value-clause-goes_on t c =
    let p = err_from_is_err_and c.from_residual.result c.from_residual.ensures.1 in
    rw (p.1, p.2) (alone-fault (option_copied c.args.target) c.args.place c.args.name.now (trailers_from c.args.all.now c.args.at) (meant c.args.value)
    c.in_err-attribute_value.field-0.0 c.args.state.now (ap is_called (trailers-none c.args.all.now c.args.at c.if-at-all.true)) c.in_err-attribute_value.ensures)

-- ---- arguments, one more
pub arguments_given-loop-arg-init : goal.arguments_given-loop-arg-init
arguments_given-loop-arg-init t c =
    λ comma. args-begin c.args.solving c.args.args.now comma (map given_seen c.in_ok-given.given.items) c.args.state.now (ap (map given_seen) c.in_ok-given.ensures.items)

pub arguments_given-returns-in_err-argument_given : goal.arguments_given-returns-in_err-argument_given
arguments_given-returns-in_err-argument_given t c = λ comma.
    let p = err_from_is_err_and c.from_residual-in_err-argument_given.result c.from_residual-in_err-argument_given.ensures.1 in
    rw (p.1, p.2) (Fails-same c.in_err-argument_given.field-0.0 _ (args_mean c.args.solving (args_of (map arg_view c.args.args.now) comma) c.args.state.now)
    (c.loop-arg.invariant comma) (args-fault c.args.solving c.args.args.now c.loop-arg.arg-index c.arg-item.result comma
    (map given_seen c.loop-arg.given.items) c.in_err-argument_given.field-0.0 c.loop-arg.state c.loop-arg-test.true c.arg-item.is c.in_err-argument_given.ensures))

pub arguments_given-loop-arg-preserved : goal.arguments_given-loop-arg-preserved
arguments_given-loop-arg-preserved t c =
    λ comma. c.loop-arg.invariant comma ∙ args-next c.args.solving c.args.args.now c.loop-arg.arg-index c.arg-item.result comma (map given_seen c.loop-arg.given.items)
    (given_seen c.in_ok-argument_given.field-0) c.loop-arg.state c.argument_given.new.state c.loop-arg-test.true c.arg-item.is c.in_ok-argument_given.ensures
    ∙ ap (λ gs. go_on gs (more_args_mean c.args.solving (args_from c.args.args.now (c.loop-arg.arg-index + 1) comma) c.argument_given.new.state))
    (sym (ap (map given_seen) c.in_ok-push.ensures.items ∙ map_push given_seen c.loop-arg.given.items c.in_ok-argument_given.field-0))

-- ---- an argument
pub argument_given-returns-in_err-value-in-ByPlace : goal.argument_given-returns-in_err-value-in-ByPlace
argument_given-returns-in_err-value-in-ByPlace t c =
    let p = err_from_is_err_and c.from_residual.result c.from_residual.ensures.1 in
    rw (p.1, p.2) (by-place-fault c.args.solving c.args.arg.now c.in-ByPlace.tree c.args.state.now c.in-ByPlace.is c.in_err-value-in-ByPlace.field-0.0 c.in_err-value-in-ByPlace.ensures)

pub argument_given-returns-in_ok-value-in-ByPlace : goal.argument_given-returns-in_ok-value-in-ByPlace
argument_given-returns-in_ok-value-in-ByPlace t c =
    by-place-is c.args.solving c.args.arg.now c.in-ByPlace.tree c.args.state.now c.in-ByPlace.is
    (meant c.in_ok-value-in-ByPlace.value) c.expr_place.result c.expr.new.state c.in_ok-value-in-ByPlace.ensures c.expr_place.ensures

pub argument_given-returns-in_err-value-in-ByName : goal.argument_given-returns-in_err-value-in-ByName
argument_given-returns-in_err-value-in-ByName t c =
    let p = err_from_is_err_and c.from_residual-in_err-value-in-ByName.result c.from_residual-in_err-value-in-ByName.ensures.1 in
    rw (p.1, p.2) (by-name-fault c.args.solving c.args.arg.now c.in-ByName.name c.in-ByName.tree c.args.state.now c.in-ByName.is c.in_err-value-in-ByName.field-0.0 c.in_err-value-in-ByName.ensures)

pub argument_given-returns-in_ok-value-in-ByName : goal.argument_given-returns-in_ok-value-in-ByName
argument_given-returns-in_ok-value-in-ByName t c =
    by-name-is c.args.solving c.args.arg.now c.in-ByName.name c.in-ByName.tree c.args.state.now c.in-ByName.is
    (meant c.in_ok-value-in-ByName.value) c.named_argument.new.state c.in_ok-value-in-ByName.ensures

-- ---- indices, one more
pub indices_given-loop-index-init : goal.indices_given-loop-index-init
indices_given-loop-index-init t c =
    ap (λ is. go_on is (indices_mean (indices_of (map index_view c.args.others.now)) c.args.state.now))
    (sym (ap (map evaluated) (c.in_ok-push.ensures.items ∙ ap (λ xs. xs ++ c.args.first ∷ []) c.new-indices.ensures.items)))

pub indices_given-returns-in_err-index_given : goal.indices_given-returns-in_err-index_given
indices_given-returns-in_err-index_given t c =
    let p = err_from_is_err_and c.from_residual-in_err-index_given.result c.from_residual-in_err-index_given.ensures.1 in
    rw (p.1, p.2) (Fails-same c.in_err-index_given.field-0.0 _ (and_then (indices_mean (indices_of (map index_view c.args.others.now)) c.args.state.now)
    (λ is. done (evaluated c.args.first ∷ is))) c.loop-index.invariant (indices-fault c.args.others.now c.loop-index.index-index c.index-item.result
    (map evaluated c.loop-index.indices.items) c.in_err-index_given.field-0.0 c.loop-index.state c.loop-index-test.true c.index-item.is c.in_err-index_given.ensures))

pub indices_given-loop-index-preserved : goal.indices_given-loop-index-preserved
indices_given-loop-index-preserved t c =
    c.loop-index.invariant ∙ indices-next c.args.others.now c.loop-index.index-index c.index-item.result (map evaluated c.loop-index.indices.items)
    (evaluated c.in_ok-index_given.field-0) c.loop-index.state c.index_given.new.state c.loop-index-test.true c.index-item.is c.in_ok-index_given.ensures
    ∙ ap (λ is. go_on is (indices_mean (indices_from c.args.others.now (c.loop-index.index-index + 1)) c.index_given.new.state))
    (sym (ap (map evaluated) c.in_ok-push-2.ensures.items ∙ map_push evaluated c.loop-index.indices.items c.in_ok-index_given.field-0))

pub indices_given-returns : goal.indices_given-returns
indices_given-returns t c =
    c.loop-index.invariant ∙ indices-end c.args.others.now c.loop-index.index-index (map evaluated c.loop-index.indices.items) c.loop-index.state c.loop-index-test.false

-- ---- an index
pub index_given-returns-in_err-expr-in-At : goal.index_given-returns-in_err-expr-in-At
index_given-returns-in_err-expr-in-At t c =
    let p = err_from_is_err_and c.from_residual.result c.from_residual.ensures.1 in
    rw (p.1, p.2) (at-fault c.args.index.now c.in-At.tree c.args.state.now c.in-At.is c.in_err-expr-in-At.field-0.0 c.in_err-expr-in-At.ensures)

pub index_given-returns-in_ok-expr-in-At : goal.index_given-returns-in_ok-expr-in-At
index_given-returns-in_ok-expr-in-At t c =
    at-is c.args.index.now c.in-At.tree c.args.state.now c.in-At.is (meant c.in_ok-expr-in-At.field-0) c.expr.new.state c.in_ok-expr-in-At.ensures

pub index_given-returns-in_err-start-in-Slice : goal.index_given-returns-in_err-start-in-Slice
index_given-returns-in_err-start-in-Slice t c =
    let p = err_from_is_err_and c.from_residual-in_err-start-in-Slice.result c.from_residual-in_err-start-in-Slice.ensures.1 in
    rw (p.1, p.2) (start-fault c.args.index.now c.in-Slice.start c.in-Slice.stop c.in-Slice.step c.args.state.now c.in-Slice.is c.in_err-start-in-Slice.field-0.0 c.in_err-start-in-Slice.ensures)

pub index_given-returns-in_ok-step-in-Slice : goal.index_given-returns-in_ok-step-in-Slice
index_given-returns-in_ok-step-in-Slice t c =
    slice-is c.args.index.now c.in-Slice.start c.in-Slice.stop c.in-Slice.step c.args.state.now c.in-Slice.is (option_map meant c.in_ok-start-in-Slice.start)
    (option_map meant c.in_ok-stop-in-Slice.stop) (option_map meant c.in_ok-step-in-Slice.step) c.optional.new.state c.optional-in-Slice.new.state c.slice_step.new.state
    c.in_ok-start-in-Slice.ensures c.in_ok-stop-in-Slice.ensures c.in_ok-step-in-Slice.ensures

pub optional-returns-in_err-expr-in-Some : goal.optional-returns-in_err-expr-in-Some
optional-returns-in_err-expr-in-Some t c =
    let p = err_from_is_err_and c.from_residual.result c.from_residual.ensures.1 in
    rw (p.1, p.2) (optional-fault c.args.tree.now c.in-Some.tree c.in_err-expr-in-Some.field-0.0 c.args.state.now c.in-Some.is c.in_err-expr-in-Some.ensures)

pub optional-returns-in_ok-expr-in-Some : goal.optional-returns-in_ok-expr-in-Some
optional-returns-in_ok-expr-in-Some t c =
    optional-is c.args.tree.now c.in-Some.tree (meant c.in_ok-expr-in-Some.field-0) c.args.state.now c.expr.new.state c.in-Some.is c.in_ok-expr-in-Some.ensures

pub optional-returns-in-None : goal.optional-returns-in-None
optional-returns-in-None t c =
    optional-none c.args.tree.now c.args.state.now c.in-None.is

pub slice_step-returns-in-Absent : goal.slice_step-returns-in-Absent
slice_step-returns-in-Absent t c =
    ap (λ (x : Step). step_means x c.args.state.now) (ap step_view c.in-Absent.is ∙ absent-seen)

pub slice_step-returns-in-Colon : goal.slice_step-returns-in-Colon
slice_step-returns-in-Colon t c =
    subst (λ (x : Step). Gives (option_map meant) c.optional.result c.optional.new.state (step_means x c.args.state.now))
    (sym (ap step_view c.in-Colon.is ∙ colon-seen c.in-Colon.tree)) c.optional.ensures

-- ---- more primaries
pub primary-returns-in_ok-number_value-in-Number : goal.primary-returns-in_ok-number_value-in-Number
primary-returns-in_ok-number_value-in-Number t c =
    primary-as c.args.tree.now (primaries.Number c.in-Number.value c.in-Number.field-1) (number_at c.in-Number.value c.in-Number.field-1) c.args.state.now c.in-Number.is
    (number-seen c.in-Number.value c.in-Number.field-1) ∙ ap (λ (w : Value). Ok (w, c.args.state.now)) (sym c.in_ok-number_value-in-Number.ensures)

pub primary-returns-in_ok-text-in-Text : goal.primary-returns-in_ok-text-in-Text
primary-returns-in_ok-text-in-Text t c =
    primary-as c.args.tree.now (primaries.Text c.in-Text.bytes c.in-Text.field-1) (text_at c.in-Text.bytes c.in-Text.field-1) c.args.state.now c.in-Text.is
    (text-seen c.in-Text.bytes c.in-Text.field-1) ∙ ap (λ (w : Value). Ok (w, c.args.state.now)) (sym c.in_ok-text-in-Text.ensures)

pub primary-returns-in-Name : goal.primary-returns-in-Name
primary-returns-in-Name t c =
    subst (λ (y : Primary). Gives meant c.look.result c.args.state.now (primary_means y c.args.state.now)) (sym (ap primary_view c.in-Name.is ∙ name-seen c.in-Name.name)) c.look.ensures

pub primary-returns-in-Truth : goal.primary-returns-in-Truth
primary-returns-in-Truth t c =
    primary-as c.args.tree.now (primaries.Truth c.in-Truth.truth c.in-Truth.field-1) (truth_at c.in-Truth.truth c.in-Truth.field-1) c.args.state.now c.in-Truth.is
    (truth-seen c.in-Truth.truth c.in-Truth.field-1)

pub primary-returns-in-None : goal.primary-returns-in-None
primary-returns-in-None t c =
    primary-as c.args.tree.now (primaries.None c.in-None.field-0) (none_at c.in-None.field-0) c.args.state.now c.in-None.is (none-seen c.in-None.field-0)

pub primary-returns-in_ok-no_items-in-Unit : goal.primary-returns-in_ok-no_items-in-Unit
primary-returns-in_ok-no_items-in-Unit t c =
    primary-as c.args.tree.now (primaries.Unit c.in-Unit.field-0) (unit c.in-Unit.field-0) c.args.state.now c.in-Unit.is (unit-seen c.in-Unit.field-0)
    ∙ ap (λ (vs : Values). Ok (tuple_value vs, c.args.state.now)) (sym c.in_ok-no_items-in-Unit.ensures)

pub primary-returns-in_ok-no_items-in-EmptyList : goal.primary-returns-in_ok-no_items-in-EmptyList
primary-returns-in_ok-no_items-in-EmptyList t c =
    primary-as c.args.tree.now (primaries.EmptyList c.in-EmptyList.field-0) (empty_list c.in-EmptyList.field-0) c.args.state.now c.in-EmptyList.is
    (empty-list-seen c.in-EmptyList.field-0) ∙ ap (λ (vs : Values). Ok (list_value vs, c.args.state.now)) (sym c.in_ok-no_items-in-EmptyList.ensures)

pub primary-returns-in-Round : goal.primary-returns-in-Round
primary-returns-in-Round t c =
    subst (λ (y : Primary). Gives meant c.expr.result c.expr.new.state (primary_means y c.args.state.now)) (sym (ap primary_view c.in-Round.is ∙ round-seen c.in-Round.field-0 c.in-Round.inner))
    (subst (λ (y : code_expr.Expr). Gives meant c.expr.result c.expr.new.state (expr_means (expr_view y) c.args.state.now)) c.deref.ensures c.expr.ensures)

pub primary-returns-in_err-value-in-Tuple : goal.primary-returns-in_err-value-in-Tuple
primary-returns-in_err-value-in-Tuple t c =
    let p = err_from_is_err_and c.from_residual-in_err-value-in-Tuple.result c.from_residual-in_err-value-in-Tuple.ensures.1 in
    rw (p.1, p.2) (subst (λ (y : Primary). Fails c.in_err-value-in-Tuple.field-0.0 (primary_means y c.args.state.now))
    (sym (ap primary_view c.in-Tuple.is ∙ tuple-seen c.in-Tuple.place c.in-Tuple.first c.in-Tuple.rest c.in-Tuple.comma))
    (tuple-first-fault c.in-Tuple.place (expr_view c.in-Tuple.first.value) (tree_items (map expr_view c.in-Tuple.rest.items) c.in-Tuple.comma) c.in_err-value-in-Tuple.field-0.0
    c.args.state.now (subst (λ (y : code_expr.Expr). Fails c.in_err-value-in-Tuple.field-0.0 (expr_means (expr_view y) c.args.state.now))
    c.deref-in-Tuple.ensures c.in_err-value-in-Tuple.ensures)))

pub primary-returns-in_err-value-in-List : goal.primary-returns-in_err-value-in-List
primary-returns-in_err-value-in-List t c =
    let p = err_from_is_err_and c.from_residual-in_err-value-in-List.result c.from_residual-in_err-value-in-List.ensures.1 in
    rw (p.1, p.2) (subst (λ (y : Primary). Fails c.in_err-value-in-List.field-0.0 (primary_means y c.args.state.now))
    (sym (ap primary_view c.in-List.is ∙ list-seen c.in-List.place c.in-List.first c.in-List.rest c.in-List.comma))
    (list-first-fault c.in-List.place (expr_view c.in-List.first.value) (more_items_of (map expr_view c.in-List.rest.items) c.in-List.comma) c.in_err-value-in-List.field-0.0
    c.args.state.now (subst (λ (y : code_expr.Expr). Fails c.in_err-value-in-List.field-0.0 (expr_means (expr_view y) c.args.state.now))
    c.deref-in-List.ensures c.in_err-value-in-List.ensures)))

pub primary-returns-in_err-value-in-Comprehension : goal.primary-returns-in_err-value-in-Comprehension
primary-returns-in_err-value-in-Comprehension t c =
    let p = err_from_is_err_and c.from_residual-in_err-value-in-Comprehension.result c.from_residual-in_err-value-in-Comprehension.ensures.1 in
    rw (p.1, p.2) (subst (λ (y : Primary). Fails c.in_err-value-in-Comprehension.field-0.0 (primary_means y c.args.state.now)) (sym (ap primary_view c.in-Comprehension.is
    ∙ comprehension-seen c.in-Comprehension.place c.in-Comprehension.element c.in-Comprehension.for_place c.in-Comprehension.name c.in-Comprehension.source))
    (source-fault c.in-Comprehension.place c.in-Comprehension.for_place (expr_view c.in-Comprehension.element.value) c.in-Comprehension.name
    (expr_view c.in-Comprehension.source.value) c.args.state.now c.in_err-value-in-Comprehension.field-0.0 (subst (λ (y : code_expr.Expr). Fails
    c.in_err-value-in-Comprehension.field-0.0 (expr_means (expr_view y) c.args.state.now)) c.deref-in-Comprehension.ensures c.in_err-value-in-Comprehension.ensures)))

pub primary-returns-in_err-through-in-Comprehension : goal.primary-returns-in_err-through-in-Comprehension
primary-returns-in_err-through-in-Comprehension t c =
    let p = err_from_is_err_and c.from_residual-in_err-through-in-Comprehension.result c.from_residual-in_err-through-in-Comprehension.ensures.1 in
    rw (p.1, p.2) (subst (λ (y : Primary). Fails c.in_err-through-in-Comprehension.field-0.0 (primary_means y c.args.state.now)) (sym (ap primary_view c.in-Comprehension.is
    ∙ comprehension-seen c.in-Comprehension.place c.in-Comprehension.element c.in-Comprehension.for_place c.in-Comprehension.name c.in-Comprehension.source))
    (through-fault c.in-Comprehension.place c.in-Comprehension.for_place (expr_view c.in-Comprehension.element.value) c.in-Comprehension.name
    (expr_view c.in-Comprehension.source.value) c.args.state.now c.in_err-through-in-Comprehension.field-0.0
    (meant c.in_ok-value-in-Comprehension.value) c.expr-in-Comprehension.new.state
    (subst (λ (y : code_expr.Expr). expr_means (expr_view y) c.args.state.now ≡ Ok ((meant c.in_ok-value-in-Comprehension.value), c.expr-in-Comprehension.new.state))
    c.deref-in-Comprehension.ensures c.in_ok-value-in-Comprehension.ensures) (c.in_err-through-in-Comprehension.ensures c.expr-in-Comprehension.new.state)))

pub primary-returns-in_err-elements-in-Comprehension : goal.primary-returns-in_err-elements-in-Comprehension
primary-returns-in_err-elements-in-Comprehension t c =
    let p = err_from_is_err_and c.from_residual-in_err-elements-in-Comprehension.result c.from_residual-in_err-elements-in-Comprehension.ensures.1 in
    rw (p.1, p.2) (subst (λ (y : Primary). Fails c.in_err-elements-in-Comprehension.field-0.0 (primary_means y c.args.state.now)) (sym (ap primary_view c.in-Comprehension.is
    ∙ comprehension-seen c.in-Comprehension.place c.in-Comprehension.element c.in-Comprehension.for_place c.in-Comprehension.name c.in-Comprehension.source))
    (elements-fault c.in-Comprehension.place c.in-Comprehension.for_place (expr_view c.in-Comprehension.element.value) c.in-Comprehension.name
    (expr_view c.in-Comprehension.source.value) c.args.state.now c.in_err-elements-in-Comprehension.field-0.0 (meant c.in_ok-value-in-Comprehension.value)
    (through_seen c.in_ok-through-in-Comprehension.through) c.expr-in-Comprehension.new.state
    (subst (λ (y : code_expr.Expr). expr_means (expr_view y) c.args.state.now ≡ Ok ((meant c.in_ok-value-in-Comprehension.value), c.expr-in-Comprehension.new.state))
    c.deref-in-Comprehension.ensures c.in_ok-value-in-Comprehension.ensures) (c.in_ok-through-in-Comprehension.ensures c.expr-in-Comprehension.new.state)
    (subst (λ (y : code_expr.Expr). Fails c.in_err-elements-in-Comprehension.field-0.0 (turns c.in-Comprehension.place (expr_place (expr_view y)) c.in-Comprehension.name.name
    (expr_means (expr_view y)) [] (through_seen c.in_ok-through-in-Comprehension.through) c.expr-in-Comprehension.new.state)) c.deref-in-Comprehension-2.ensures
    c.in_err-elements-in-Comprehension.ensures)))

-- ---- items, one more
pub items-returns-in_err-push : goal.items-returns-in_err-push
items-returns-in_err-push t c = λ comma.
    let p = err_from_is_err_and c.from_residual.result c.from_residual.ensures.1 in
    rw (p.1, p.2) (item-full c.args.place end (done (meant c.args.first)) (meant c.args.first)
    (more_items_mean c.args.place (more_items_of (map expr_view c.args.others.now) comma)) c.in_err-push.field-0.0 c.args.state.now c.args.state.now refl
    (subst (λ (us : Values). Fails c.in_err-push.field-0.0 (with_room c.args.place us (meant c.args.first) c.args.state.now)) c.new-items.ensures
    (c.in_err-push.ensures.gives c.args.state.now)))

pub items-loop-tree-init : goal.items-loop-tree-init
items-loop-tree-init t c =
    λ comma. item-put c.args.place end c.push.new.self (done (meant c.args.first)) (meant c.args.first)
    (more_items_mean c.args.place (more_items_of (map expr_view c.args.others.now) comma)) c.args.state.now c.args.state.now refl
    (subst (λ (us : Values). with_room c.args.place us (meant c.args.first) c.args.state.now ≡ Ok (c.push.new.self, c.args.state.now)) c.new-items.ensures
    (c.in_ok-push.ensures.gives c.args.state.now))

pub items-returns-in_err-value : goal.items-returns-in_err-value
items-returns-in_err-value t c = λ comma.
    let p = err_from_is_err_and c.from_residual-in_err-value.result c.from_residual-in_err-value.ensures.1 in
    rw (p.1, p.2) (Fails-same c.in_err-value.field-0.0 _ (and_then (with_item c.args.place [] (done (meant c.args.first)) c.args.state.now)
    (more_items_mean c.args.place (more_items_of (map expr_view c.args.others.now) comma))) (c.loop-tree.invariant comma)
    (items-fault c.args.place c.args.others.now c.loop-tree.tree-index c.tree-item.result comma c.loop-tree.items c.in_err-value.field-0.0 c.loop-tree.state
    c.loop-tree-test.true c.tree-item.is c.in_err-value.ensures))

pub items-returns-in_err-push-2 : goal.items-returns-in_err-push-2
items-returns-in_err-push-2 t c = λ comma.
    let p = err_from_is_err_and c.from_residual-in_err-push-2.result c.from_residual-in_err-push-2.ensures.1 in
    rw (p.1, p.2) (Fails-same c.in_err-push-2.field-0.0 _ (and_then (with_item c.args.place [] (done (meant c.args.first)) c.args.state.now)
    (more_items_mean c.args.place (more_items_of (map expr_view c.args.others.now) comma))) (c.loop-tree.invariant comma)
    (items-full c.args.place c.args.others.now c.loop-tree.tree-index c.tree-item.result comma c.loop-tree.items (meant c.in_ok-value.value) c.in_err-push-2.field-0.0
    c.loop-tree.state c.expr.new.state c.loop-tree-test.true c.tree-item.is c.in_ok-value.ensures (c.in_err-push-2.ensures.gives c.expr.new.state)))

pub items-returns : goal.items-returns
items-returns t c =
    λ comma. c.loop-tree.invariant comma
    ∙ items-end c.args.place c.args.others.now c.loop-tree.tree-index comma (items_of c.loop-tree.items) c.loop-tree.state c.loop-tree-test.false
    ∙ ap (λ (us : Values). Ok (items_of us, c.loop-tree.state)) (sym c.in_ok-new.ensures.ok)

-- ---- an element
pub one_element-returns-in_err-step : goal.one_element-returns-in_err-step
one_element-returns-in_err-step t c =
    let p = err_from_is_err_and c.from_residual.result c.from_residual.ensures.1 in
    rw (p.1, p.2) (turn-step-fault (expr_place (expr_view c.args.element.now)) c.expr_place.result c.args.name.now (expr_means (expr_view c.args.element.now))
    (meant c.args.value) c.args.state.now c.step.new.self c.expr_place.ensures c.in_err-step.field-0.0 c.in_err-step.ensures)

pub one_element-returns-in_err-before : goal.one_element-returns-in_err-before
one_element-returns-in_err-before t c =
    let p = err_from_is_err_and c.from_residual-in_err-before.result c.from_residual-in_err-before.ensures.1 in
    rw (p.1, p.2) (turn-bound-fault (expr_place (expr_view c.args.element.now)) c.expr_place.result c.args.name.now (expr_means (expr_view c.args.element.now))
    (meant c.args.value) c.args.state.now c.step.new.self c.expr_place.ensures c.in_err-before.field-0.0 c.in_ok-step.ensures c.in_err-before.ensures)

pub one_element-returns-in_err-bind : goal.one_element-returns-in_err-bind
one_element-returns-in_err-bind t c =
    let p = err_from_is_err_and c.from_residual-in_err-bind.result c.from_residual-in_err-bind.ensures.1 in
    rw (p.1, p.2) (turn-bind-fault (expr_place (expr_view c.args.element.now)) c.expr_place.result c.args.name.now (expr_means (expr_view c.args.element.now))
    (meant c.args.value) c.args.state.now c.step.new.self c.expr_place.ensures
    (option_map meant c.in_ok-before.before) c.in_err-bind.field-0.0 c.in_ok-step.ensures c.in_ok-before.ensures c.in_err-bind.ensures)

pub one_element-returns-in_err-result : goal.one_element-returns-in_err-result
one_element-returns-in_err-result t c =
    let p = err_from_is_err_and c.from_residual-in_err-result.result c.from_residual-in_err-result.ensures.1 in
    rw (p.1, p.2) (turn-element-fault (expr_place (expr_view c.args.element.now)) c.expr_place.result c.args.name.now (expr_means (expr_view c.args.element.now))
    (meant c.args.value) c.args.state.now c.step.new.self c.expr_place.ensures (option_map meant c.in_ok-before.before) c.bind.new.self c.in_ok-step.ensures
    c.in_ok-before.ensures c.in_ok-bind.ensures c.in_err-result.field-0.0 c.in_err-result.ensures)

pub one_element-returns-in_err-restore : goal.one_element-returns-in_err-restore
one_element-returns-in_err-restore t c =
    let p = err_from_is_err_and c.from_residual-in_err-restore.result c.from_residual-in_err-restore.ensures.1 in
    rw (p.1, p.2) (turn-restore-fault (expr_place (expr_view c.args.element.now)) c.expr_place.result c.args.name.now (expr_means (expr_view c.args.element.now))
    (meant c.args.value) c.args.state.now c.step.new.self c.expr_place.ensures (option_map meant c.in_ok-before.before) c.bind.new.self c.in_ok-step.ensures
    c.in_ok-before.ensures c.in_ok-bind.ensures (meant c.in_ok-result.result) c.expr.new.state c.in_err-restore.field-0.0 c.in_ok-result.ensures c.in_err-restore.ensures)

pub one_element-returns : goal.one_element-returns
one_element-returns t c =
    turn-is (expr_place (expr_view c.args.element.now)) c.expr_place.result c.args.name.now (expr_means (expr_view c.args.element.now)) (meant c.args.value) c.args.state.now
    c.step.new.self c.expr_place.ensures (option_map meant c.in_ok-before.before) c.bind.new.self c.in_ok-step.ensures c.in_ok-before.ensures c.in_ok-bind.ensures
    (meant c.in_ok-result.result) c.expr.new.state c.restore.new.self c.in_ok-result.ensures c.in_ok-restore.ensures

-- ---- elements, one more
pub elements-loop-k-init : goal.elements-loop-k-init
elements-loop-k-init t c =
    ap (λ (us : Values). turns c.args.place (expr_place (expr_view c.args.element.now)) c.args.name.now (expr_means (expr_view c.args.element.now)) (items_of us)
    (through_seen c.args.through.now) c.args.state.now) (sym c.new-items.ensures)

pub elements-returns : goal.elements-returns
elements-returns t c =
    let none : length (through_seen c.args.through.now) ≤ c.loop-k.k = let e = c.count-k-end.ensures in let h = c.loop-k-test.false in omega (arith, e, h) in
    c.loop-k.invariant ∙ turns-end c.args.place (expr_place (expr_view c.args.element.now)) c.args.name.now (expr_means (expr_view c.args.element.now))
    (items_of c.loop-k.items) (through_seen c.args.through.now) c.loop-k.k c.loop-k.state none
    ∙ ap (λ (us : Values). Ok (items_of us, c.loop-k.state)) (sym c.in_ok-new.ensures.ok)
