-- One more row is added, until all are.
use Rattle.std.proofs.Common.{◌≡◌, ℕ, ◌+◌, ◌<◌, List, [], ◌∷◌, ◌++◌, length, take, get_or, sym, ap, ◌∙◌, append_assoc, rules}
use Rattle.std.proofs.lemmas.List.{append-nil, take_all, take_more}
use Rattle.dcx_linear.specs.declared.form.Form.{Form}
use Rattle.dcx_linear.specs.declared.row.Row.{Row}
use Rattle.dcx_branch.proofs.rows.push_rows.Goals as goal

row_more : {C : Type 0} (from : List (Row C)) (i : ℕ) (row : Row C) → i < length from → row ≡ get_or from i row → (rows more old : List (Row C)) (form : Form C) → form ≡ row.form →
    more ≡ rows ++ record { kind = row.kind; form = form } ∷ [] → rows ≡ old ++ take i from → more ≡ old ++ take (i + 1) from
row_more from i row lt at rows more old form same added so_far =
    added
    ∙ ap (λ f. rows ++ record { kind = row.kind; form = f } ∷ []) same
    ∙ ap (λ xs. xs ++ row ∷ []) so_far
    ∙ append_assoc old (take i from) (row ∷ [])
    ∙ ap (λ x. old ++ (take i from ++ x ∷ [])) at
    ∙ ap (λ xs. old ++ xs) (sym (take_more from i row lt))

pub rows-init : goal.rows-init
rows-init c = sym (append-nil c.args.rows.now.items)

pub rows-smaller : goal.rows-smaller
rows-smaller c = search rules

pub rows-preserved : goal.rows-preserved
rows-preserved c =
    row_more c.args.from.now c.rows.row-index c.row-item.result c.rows-test.true c.row-item.is c.rows.rows.items c.push.new.self.items c.args.rows.now.items c.in_ok-form.form c.in_ok-form.ensures
    c.in_ok-push.ensures.items c.rows.invariant

pub returns : goal.returns
returns c = c.rows.invariant ∙ ap (λ xs. c.args.rows.now.items ++ xs) (take_all c.rows.row-index c.args.from.now c.rows-test.false)
