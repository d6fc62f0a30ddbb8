-- The column's first numbers stand in the first rows that have one.
use Rattle.std.proofs.Common.{arith, ap, ◌∙◌, inl, inr}
use Rattle.std.proofs.lemmas.Bool.{cases_lt}
use Rattle.dcx_links.specs.Walks.{Walk}
use Rattle.dcx_chained.proofs.Columns.{met_below, met_is, none_met, none_over}
use Rattle.dcx_chained.proofs.Formed.{if_none}
use Rattle.dcx_chained.proofs.clear.other_row.Goals as goal

pub returns-in_err-first-clause-none : goal.returns-in_err-first-clause-none
returns-in_err-first-clause-none c = if_none c.from_residual.result (λ i lt other.
    let w = c.column-walk.result in
    let is = ap (λ (x : Walk). x.numbers) c.column-walk.ensures in
    let from = ap (λ (x : Walk). x.from) c.column-walk.ensures in
    none_over c.args.links.now c.args.column w is c.requires c.in_err-first.ensures.steps.0 i (omega (arith, from)) lt)

pub returns-then-first-r-clause-below : goal.returns-then-first-r-clause-below
returns-then-first-r-clause-below c = met_below c.args.links.now c.args.column c.column-walk.result c.in_ok-first.first (ap (λ (x : Walk). x.numbers) c.column-walk.ensures)
    c.requires c.in_ok-first.ensures.steps.0

pub returns-then-first-r-clause-met : goal.returns-then-first-r-clause-met
returns-then-first-r-clause-met c = met_is c.args.links.now c.args.column c.column-walk.result c.in_ok-first.first (ap (λ (x : Walk). x.numbers) c.column-walk.ensures) c.requires
    c.in_ok-first.ensures.steps.0

pub returns-then-first-r-clause-some : goal.returns-then-first-r-clause-some
returns-then-first-r-clause-some c = c.in_ok-first.ensures.steps.0.some

pub returns-in_err-second-clause-none : goal.returns-in_err-second-clause-none
returns-in_err-second-clause-none c = if_none c.from_residual-in_err-second.result (λ i lt other.
    let m = c.args.links.now in
    let first = c.in_ok-first.ensures.steps in
    let w = c.column-walk.result in
    let is = ap (λ (x : Walk). x.numbers) c.column-walk.ensures in
    let zero = ap (λ (x : Walk). x.from) c.column-walk.ensures in
    let stays = ap (λ (x : Walk). x.numbers) first.1 in
    let from = ap (λ (x : Walk). x.from) first.1 in
    let r = c.if-first-r.false in
    elim (cases_lt i c.in_ok-first.first.at) [
      | inl before ↦ none_met m c.args.column w c.in_ok-first.first is c.requires first.0 i (omega (arith, zero)) before
      | inr le ↦ none_over m c.args.column c.next.new.self (stays ∙ is) c.requires c.in_err-second.ensures.steps.0 i (omega (arith, le, from, r, other)) lt
    ])

pub returns-clause-below : goal.returns-clause-below
returns-clause-below c = met_below c.args.links.now c.args.column c.next.new.self c.in_ok-second.second (ap (λ (x : Walk). x.numbers) c.in_ok-first.ensures.steps.1
    ∙ ap (λ (x : Walk). x.numbers) c.column-walk.ensures) c.requires c.in_ok-second.ensures.steps.0

pub returns-clause-other : goal.returns-clause-other
returns-clause-other c = λ e.
    let from = ap (λ (x : Walk). x.from) c.in_ok-first.ensures.steps.1 in
    let b = c.in_ok-second.ensures.steps.0.beyond in
    let r = c.if-first-r.false in
    omega (arith, from, b, r, e)

pub returns-clause-met : goal.returns-clause-met
returns-clause-met c = met_is c.args.links.now c.args.column c.next.new.self c.in_ok-second.second (ap (λ (x : Walk). x.numbers) c.in_ok-first.ensures.steps.1
    ∙ ap (λ (x : Walk). x.numbers) c.column-walk.ensures) c.requires c.in_ok-second.ensures.steps.0

pub returns-clause-some : goal.returns-clause-some
returns-clause-some c = c.in_ok-second.ensures.steps.0.some
