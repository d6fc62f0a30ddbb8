-- A site that breaks its rule is there.
use Rattle.std.proofs.Common.{◌≡◌, ℕ, ◌<◌, List, length, Some, slice_get, get_or, sym, ap, ◌∙◌, subst}
use Rattle.std.specs.Prelude.{option_map}
use Rattle.std.proofs.lemmas.Option.{slice_get_within, slice_get-get_or}
use Rattle.dcx_tree.specs.declared.constraint.Constraint.{Constraint}
use Rattle.dcx_tree.specs.declared.problem.Problem.{Problem}
use Rattle.dcx_rules.specs.declared.fault.RuleSite.{RuleSite}
use Rattle.dcx_rules.specs.declared.fault.RuleSite.TheVariants as sites
use Rattle.dcx_rules.specs.Sites.{Breaks}
use Rattle.dcx_front.specs.Checks.{site_place}
use Rattle.dcx_front.proofs.sites.place_of.Goals as goal

constraint_there : (p : Problem) (site : RuleSite) (k : ℕ) (xs : List Constraint) → Breaks p site → site ≡ sites.Constraint k → xs ≡ p.constraints → k < length xs
constraint_there p site k xs breaks is same =
    let found = subst (Breaks p) is breaks in
    subst (λ (ys : List Constraint). k < length ys) (sym same) (slice_get_within p.constraints k found.0 found.1)

pub place-requires : goal.place-requires
place-requires c = (subst (Breaks c.args.problem.now) c.in-Node.is c.requires.breaks).there

pub bounds-as_slice-k : goal.bounds-as_slice-k
bounds-as_slice-k c = constraint_there c.args.problem.now c.args.site c.in-Constraint.k c.as_slice.result.now c.requires.breaks c.in-Constraint.is c.as_slice.ensures

pub returns-in-Node : goal.returns-in-Node
returns-in-Node c = ap (site_place c.args.problem.now) c.in-Node.is ∙ c.place.ensures

pub returns-in-Objective : goal.returns-in-Objective
returns-in-Objective c = ap (site_place c.args.problem.now) c.in-Objective.is

pub returns-in-Constraint : goal.returns-in-Constraint
returns-in-Constraint c =
    let p = c.args.problem.now in
    let k = c.in-Constraint.k in
    let x = c.index-as_slice-k.result in
    let low = constraint_there p c.args.site k c.as_slice.result.now c.requires.breaks c.in-Constraint.is c.as_slice.ensures in
    ap (site_place p) c.in-Constraint.is
    ∙ ap (option_map (λ (y : Constraint). y.place))
    (subst (λ (ys : List Constraint). slice_get ys k ≡ Some (get_or c.as_slice.result.now k x)) c.as_slice.ensures (slice_get-get_or c.as_slice.result.now k x low))
