-- Where both lists have an item, the lines of the pair are appended.
use Rattle.std.proofs.Common.{◌≡◌, ◌++◌, sym, subst, refl}
use Rattle.std.specs.Prelude.{IfSome, OnOk}
use Rattle.std.proofs.lemmas.Bool.{ltb-true, ltb-false}
use Rattle.std.proofs.lemmas.Option.{slice_get_past, slice_get_read}
use Rattle.dcx_report.specs.FilterText.{without_lines}
use Rattle.dcx_report.proofs.Pairs.{zip_some, zip_no_first, zip_no_second}
use Rattle.dcx_report.proofs.filter_lines.put_pair.Goals as goal

pub returns-in_default : goal.returns-in_default
returns-in_default c =
    subst (λ o. IfSome o (λ pair. c.args.out.now.items ≡ c.args.out.now.items ++ without_lines pair))
    (sym (zip_no_first c.args.members.now c.args.points.now c.args.i (slice_get_past c.args.members.now c.args.i (ltb-false _ _ (sym (c.in_default.ensures {u = tt}).lookup.0))))) tt

pub returns-in_default-get : goal.returns-in_default-get
returns-in_default-get c =
    subst (λ o. IfSome o (λ pair. c.args.out.now.items ≡ c.args.out.now.items ++ without_lines pair))
    (sym (zip_no_second c.args.members.now c.args.points.now c.args.i (slice_get_past c.args.points.now c.args.i (ltb-false _ _ (sym (c.in_default-get.ensures {u = tt}).lookup.0))))) tt

pub returns : goal.returns
returns c =
    subst (λ o. OnOk c.put_without.result (IfSome o (λ pair. c.put_without.new.out.items ≡ c.args.out.now.items ++ without_lines pair)))
    (sym (zip_some c.args.members.now c.args.points.now c.args.i c.in-Some.member.now c.in-Some-get.point.now
    (slice_get_read c.args.members.now _ c.args.i _ refl (ltb-true _ _ (sym (c.in-Some.ensures {u = tt}).lookup.0)) (c.in-Some.ensures {u = tt}).lookup.1)
    (slice_get_read c.args.points.now _ c.args.i _ refl (ltb-true _ _ (sym (c.in-Some-get.ensures {u = tt}).lookup.0)) (c.in-Some-get.ensures {u = tt}).lookup.1)))
    c.put_without.ensures
