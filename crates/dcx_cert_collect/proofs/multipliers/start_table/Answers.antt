-- The list begins with zeros.
use Rattle.std.proofs.Common.{◌≡◌, ℕ, ◌∙◌, sym, ap, ap₂, List, length, replicate, inr}
use Rattle.std.proofs.lemmas.List.{length-replicate}
use Rattle.dcx_frac.specs.declared.fraction.Frac.{Frac}
use Rattle.dcx_atom.specs.Formed.{zero_frac}
use Rattle.dcx_atom.proofs.FormedSums.{zero_frac-unique}
use Rattle.dcx_cert_collect.specs.Shares.{with_shares}
use Rattle.dcx_cert_collect.specs.Pass.{or_passes}
use Rattle.dcx_cert_collect.specs.Multipliers.{all_shares}
use Rattle.dcx_cert_collect.proofs.Passing.{shares_count}
use Rattle.dcx_cert_collect.proofs.multipliers.start_table.Goals as goal

zeros_are : (items : List Frac) (n m : ℕ) (x : Frac) → items ≡ replicate n x → n ≡ m → x ≡ zero_frac → items ≡ replicate m zero_frac
zeros_are items n m x made count zero = made ∙ ap₂ replicate count zero

pub returns-in-Ok-add_all-clause-ok : goal.returns-in-Ok-add_all-clause-ok
returns-in-Ok-add_all-clause-ok c =
    ap (λ t. with_shares t (all_shares c.args.with_objective c.args.problem.now c.args.duals.now))
    (sym (zeros_are c.in-Ok.table.items _ _ c.zero.result (c.in-Ok.ensures.items_if_clones_equal (λ y h. h)) c.entry_count-count.ensures (zero_frac-unique c.zero.result c.zero.ensures)))
    ∙ c.in-Ok-add_all.ensures.ok

pub returns-in-Ok-add_all-clause-count : goal.returns-in-Ok-add_all-clause-count
returns-in-Ok-add_all-clause-count c =
    shares_count c.in-Ok.table.items c.add_all.new.table.items (all_shares c.args.with_objective c.args.problem.now c.args.duals.now) c.in-Ok-add_all.ensures.ok
    ∙ ap length (c.in-Ok.ensures.items_if_clones_equal (λ y h. h)) ∙ length-replicate _ c.zero.result ∙ c.entry_count-count.ensures

pub returns-in-Err-clause-stop : goal.returns-in-Err-clause-stop
returns-in-Err-clause-stop c =
    inr (ap or_passes (ap (λ t. with_shares t (all_shares c.args.with_objective c.args.problem.now c.args.duals.now))
    (sym (zeros_are c.in-Ok.table.items _ _ c.zero.result (c.in-Ok.ensures.items_if_clones_equal (λ y h. h)) c.entry_count-count.ensures (zero_frac-unique c.zero.result c.zero.ensures)))
    ∙ c.in-Err.ensures.passes))
