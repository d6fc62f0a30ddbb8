-- Each number is 0.
use Rattle.std.proofs.Common.{List, ap, ◌∙◌}
use Rattle.dcx_frac.specs.declared.fraction.Frac.{Frac}
use Rattle.dcx_atom.specs.Arrays.{number_at}
use Rattle.dcx_tree.proofs.NodeValues.{all_zero}
use Rattle.dcx_cert_rays.proofs.node.zeros.Goals as goal

pub returns-clause-numbers : goal.returns-clause-numbers
returns-clause-numbers c = λ j.
    ap (λ (xs : List Frac). number_at xs j) (c.from_vec.ensures ∙ c.in_ok-entries.ensures.items_if_clones_equal (λ y h. h)) ∙ all_zero _ c.zero.result c.zero.ensures j
