-- What the roots reach is marked or kept.
use Rattle.std.proofs.Common.{◌≡◌, ◌⊎◌, inl, inr, ℕ, true, List, Option, None, IsSome, sym, subst, ◌∙◌, arith}
use Rattle.std.proofs.lemmas.Result.{on_ok_weaker}
use Rattle.dcx_atom.specs.declared.array.Array.{Array}
use Rattle.dcx_arena.specs.Nodes.{positions}
use Rattle.dcx_arena.specs.Gather.{has}
use Rattle.dcx_arena.specs.Unfold.{IsReached}
use Rattle.dcx_tree.specs.Values.{IsMarked, array_at}
use Rattle.dcx_cert_values.specs.Forming.{forming_where, forming}
use Rattle.dcx_cert_values.specs.Marks.{AreMarkedFrom}
use Rattle.dcx_cert_values.proofs.Known.{all_given}
use Rattle.dcx_cert_values.proofs.Marking.{some_or_none, all_known, kept_below}
use Rattle.dcx_cert_values.proofs.Keeping.{stays_some, kept_formed, passes_where, fails_where}
use Rattle.dcx_cert_values.proofs.Weaker.{checked_weaker}
use Rattle.dcx_cert_values.proofs.table.Values.form.Goals as goal

pub returns-then-end-eq0-clause-kept : goal.returns-then-end-eq0-clause-kept
returns-then-end-eq0-clause-kept c =
    let p = c.args.problem.now in
    let roots = positions c.args.roots.now in
    let arrays = c.args.self.now in
    let same : c.deref.result.now ≡ arrays = c.deref.ensures.value ∙ c.self.view_is in
    let none : (r : ℕ) → has roots r ≡ true → array_at arrays r ≡ None → ⊥ =
    λ r h free. let b = c.end_of-end.ensures.above r h (subst (λ (xs : List (Option Array)). array_at xs r ≡ None) (sym same) free) in omega (arith, b, c.if-end-eq0.true) in
    kept_below p.tree arrays c.requires.values.closed roots (λ r h. elim (some_or_none (array_at arrays r)) [ inl free ↦ absurd (none r h free) | inr s ↦ s ])

pub returns-then-end-eq0-clause-checked : goal.returns-then-end-eq0-clause-checked
returns-then-end-eq0-clause-checked c =
    let p = c.args.problem.now in
    let roots = positions c.args.roots.now in
    let arrays = c.args.self.now in
    let same : c.deref.result.now ≡ arrays = c.deref.ensures.value ∙ c.self.view_is in
    let none : (r : ℕ) → has roots r ≡ true → array_at arrays r ≡ None → ⊥ =
    λ r h free. let b = c.end_of-end.ensures.above r h (subst (λ (xs : List (Option Array)). array_at xs r ≡ None) (sym same) free) in omega (arith, b, c.if-end-eq0.true) in
    λ k lt r. kept_formed p c.args.setting.now c.args.point.now arrays c.requires.values k
    (kept_below p.tree arrays c.requires.values.closed roots (λ q h. elim (some_or_none (array_at arrays q)) [ inl free ↦ absurd (none q h free) | inr s ↦ s ]) k r)

pub form_marked-requires-clause-given : goal.form_marked-requires-clause-given
form_marked-requires-clause-given c = λ i n m at. all_given c.args.problem.now c.args.setting.now c.requires.parameters c.args.point.now c.requires.variables i n at

pub returns-clause-checked : goal.returns-clause-checked
returns-clause-checked c =
    let p = c.args.problem.now in
    let s = c.args.setting.now in
    let x = c.args.point.now in
    let roots = positions c.args.roots.now in
    let arrays = c.args.self.now in
    let marks = c.deref-3.result.now in
    let same : c.deref-2.result.now ≡ arrays = c.deref-2.ensures.value ∙ c.self.view_is in
    let from : AreMarkedFrom p.tree arrays roots marks =
    subst (AreMarkedFrom p.tree arrays roots) (sym c.deref-3.ensures.value)
    (subst (λ (xs : List (Option Array)). AreMarkedFrom p.tree xs roots c.in_ok-marks.marks.items) same c.in_ok-marks.ensures.marked) in
    let known : (i : ℕ) → IsReached p.tree roots i → IsMarked marks i ⊎ IsSome (array_at arrays i) = all_known p.tree arrays marks from.closed c.requires.values.closed roots from.starts in
    checked_weaker (forming_where p s x (IsMarked marks)) (forming p s x roots) c.form_marked.result
    (passes_where p s x marks arrays (IsReached p.tree roots) c.requires.values from.sound (λ i lt q. known i q))
    (fails_where p s x marks arrays (IsReached p.tree roots) c.requires.values from.sound (λ i lt q. known i q)) c.form_marked.ensures.checked

pub returns-clause-kept : goal.returns-clause-kept
returns-clause-kept c =
    let p = c.args.problem.now in
    let roots = positions c.args.roots.now in
    let arrays = c.args.self.now in
    let marks = c.deref-3.result.now in
    let same : c.deref-2.result.now ≡ arrays = c.deref-2.ensures.value ∙ c.self.view_is in
    let from : AreMarkedFrom p.tree arrays roots marks =
    subst (AreMarkedFrom p.tree arrays roots) (sym c.deref-3.ensures.value)
    (subst (λ (xs : List (Option Array)). AreMarkedFrom p.tree xs roots c.in_ok-marks.marks.items) same c.in_ok-marks.ensures.marked) in
    on_ok_weaker c.form_marked.result
    (λ h i r. elim (all_known p.tree arrays marks from.closed c.requires.values.closed roots from.starts i r) [
      | inl m ↦ h i m
      | inr k ↦ stays_some arrays c.form_marked.new.self c.form_marked.ensures.stays i k
    ])
    c.form_marked.ensures.kept
