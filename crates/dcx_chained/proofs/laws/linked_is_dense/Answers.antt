-- Both tableaus answer a list of pivots alike: there is one answer to it.
use Rattle.dcx_tab.specs.Views.{table_of as dense_table}
use Rattle.dcx_chained.specs.Tables.{table_of as chained_table}
use Rattle.dcx_chained.proofs.Agreements.{one_list}
use Rattle.dcx_chained.proofs.laws.linked_is_dense.Goals as goal

pub returns : goal.returns
returns c = λ dense dense' linked linked' pivots answers answers' same first second. one_list (dense_table dense) (chained_table linked) (dense_table dense')
    (chained_table linked') pivots answers answers' same first second
