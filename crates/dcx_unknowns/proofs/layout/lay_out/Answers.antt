-- What is laid out by the marks is laid out by the rules that the marks tell of.
use Rattle.std.proofs.Common.{◌<◌, ◌⊎◌, inl, inr, ℕ, Bool, subst, ◌∙◌}
use Rattle.dcx_unknowns.specs.declared.layout.Layout.{Layout}
use Rattle.dcx_unknowns.specs.Layout.{marked, IsLayoutWith, IsTooLarge}
use Rattle.dcx_unknowns.proofs.Layouts.{marks_are, too_large, laid_out}
use Rattle.dcx_unknowns.proofs.layout.lay_out.Goals as goal
use Rattle.dcx_unknowns.proofs.layout.lay_out.Goals.{then-size-gt600-via-then-size-gt600, then-size-gt600-via-else-size-gt600+then-size-gt2400}

pub returns-then-size-gt600-clause-stop : goal.returns-then-size-gt600-clause-stop
returns-then-size-gt600-clause-stop c =
    let p = c.args.problem.now in
    let marks = c.args.reduced.now in
    let size = c.in_ok-size.size in
    let many : (600 < size.rows) ⊎ (2400 < size.columns) =
    elim c.then-size-gt600.branch [ then-size-gt600-via-then-size-gt600 w ↦ inl w.if-size-gt600.true | then-size-gt600-via-else-size-gt600+then-size-gt2400 w ↦ inr w.if-size-gt2400.true ] in
    λ rules are. subst (λ (f : ℕ → Bool). IsTooLarge p f size.rows size.columns) (marks_are rules p marks c.requires are)
    (too_large p (marked marks) size.rows size.columns c.in_ok-size.ensures.rows c.in_ok-size.ensures.columns many)

pub returns-clause-ok : goal.returns-clause-ok
returns-clause-ok c =
    let p = c.args.problem.now in
    let marks = c.args.reduced.now in
    let size = c.in_ok-size.size in
    let l : Layout = record { kinds = c.from_vec.result; rows = size.rows; columns = size.columns } in
    λ rules are. subst (λ (f : ℕ → Bool). IsLayoutWith p f l) (marks_are rules p marks c.requires are)
    (laid_out p (marked marks) l (c.from_vec.ensures ∙ c.in_ok-kinds.ensures) c.in_ok-size.ensures.rows c.in_ok-size.ensures.columns c.if-size-gt600.false c.if-size-gt2400.false)
