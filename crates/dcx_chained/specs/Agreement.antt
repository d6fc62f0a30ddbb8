-- What a tableau answers to a list of pivots, by the contract of `Tableau`.
use Rattle.std.specs.Prelude.{◌≡◌, ℕ, List, [], ◌∷◌, Option, Some, None}
use Rattle.dcx_tab.specs.declared.dense.Dense.{Dense}
use Rattle.dcx_tab.specs.declared.tableau.WideAt.{WideAt}
use Rattle.dcx_tab.specs.Pivot.{AllFormed, IsFirstWide}
use Rattle.dcx_tab.specs.Table.{Table, after_pivot}
use Rattle.dcx_tab.specs.Views.{table_of as dense_table}
use Rattle.dcx_chained.specs.declared.chained.Chained.{Chained}
use Rattle.dcx_chained.specs.Tables.{table_of as chained_table}

-- the pivot at row r and column c is done, or it is refused where it is wide and the table stays
abbrev pub Answers : Table → ℕ → ℕ → Option WideAt → Table → Type 0
Answers t r c None u = AllFormed r c t.rows × (u ≡ after_pivot r c t)
Answers t r c (Some at) u = IsFirstWide r c t.rows at.row at.column × (u ≡ t)

-- the pivots at these rows and columns are answered so, one after the other
abbrev pub AnswersAll : Table → List (ℕ × ℕ) → List (Option WideAt) → Table → Type 0
AnswersAll t [] [] u = u ≡ t
AnswersAll t [] (a ∷ rest) u = ⊥
AnswersAll t (p ∷ ps) [] u = ⊥
AnswersAll t (p ∷ ps) (a ∷ rest) u = (v : Table) × Answers t p.0 p.1 a v × AnswersAll v ps rest u

-- from the same table, a linked tableau and a dense one refuse the same pivots of any list, and show the same table after it
abbrev pub LinkedIsDense : Type 0
LinkedIsDense = (dense dense' : Dense) (linked linked' : Chained) (pivots : List (ℕ × ℕ)) (answers answers' : List (Option WideAt)) → dense_table dense ≡ chained_table linked →
    AnswersAll (dense_table dense) pivots answers (dense_table dense') → AnswersAll (chained_table linked) pivots answers' (chained_table linked') →
    (answers ≡ answers') × (dense_table dense' ≡ chained_table linked')
