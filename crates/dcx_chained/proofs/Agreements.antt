-- A pivot has one answer.
use Rattle.std.proofs.Common.{◌≡◌, ℕ, ◌<◌, ◌⊎◌, inl, inr, List, [], ◌∷◌, Option, Some, None, refl, sym, ap, ap₂, ◌∙◌, subst, arith}
use Rattle.dcx_tab.specs.declared.tableau.WideAt.{WideAt}
use Rattle.dcx_tab.specs.Rows.{Row, row_at}
use Rattle.dcx_tab.specs.Pivot.{turned, IsBefore, IsFirstWideAt}
use Rattle.dcx_tab.specs.Table.{Table}
use Rattle.dcx_tab.proofs.Wide.{none_wide}
use Rattle.dcx_chained.specs.Agreement.{Answers, AnswersAll}

order : (i j k l : ℕ) → ((i ≡ k) × (j ≡ l)) ⊎ (IsBefore i j k l ⊎ IsBefore k l i j)
order i j k l =
    let cases : (i ≡ k) ⊎ ((i < k) ⊎ (k < i)) = grind arith in
    let places : (j ≡ l) ⊎ ((j < l) ⊎ (l < j)) = grind arith in
    elim cases [
      | inl e ↦ elim places [
        | inl f ↦ inl (e, f)
        | inr h ↦ elim h [ inl lt ↦ inr (inl (inr (e, lt))) | inr lt ↦ inr (inr (inr (sym e, lt))) ]
      ]
      | inr h ↦ elim h [ inl lt ↦ inr (inl (inl lt)) | inr lt ↦ inr (inr (inl lt)) ]
    ]

-- a pivot is wide first in one place
one_place : (by : Row) (r c : ℕ) (rows : List Row) (p q : WideAt) → IsFirstWideAt by r c rows p.row p.column → IsFirstWideAt by r c rows q.row q.column → p ≡ q
one_place by r c rows p q first other = elim (order p.row p.column q.row q.column) [
  | inl same ↦ λ i. record { row = same.0 i; column = same.1 i }
  | inr h ↦ elim h [
    | inl before ↦ absurd (other.first p.row p.column before first.wide)
    | inr before ↦ absurd (first.first q.row q.column before other.wide)
  ]
]

one_answer : (t u v : Table) (r c : ℕ) (a b : Option WideAt) → Answers t r c a u → Answers t r c b v → (a ≡ b) × (u ≡ v)
one_answer t u v r c None None (f, e) (g, d) = (refl, e ∙ sym d)
one_answer t u v r c None (Some q) (f, e) (g, d) = absurd (none_wide (turned c (row_at t.rows r)) r c t.rows f q.row q.column g.wide)
one_answer t u v r c (Some p) None (f, e) (g, d) = absurd (none_wide (turned c (row_at t.rows r)) r c t.rows g p.row p.column f.wide)
one_answer t u v r c (Some p) (Some q) (f, e) (g, d) = (ap Some (one_place (turned c (row_at t.rows r)) r c t.rows p q f g), e ∙ sym d)

-- and so has a list of pivots
pub one_list : (t s u v : Table) (ps : List (ℕ × ℕ)) (xs ys : List (Option WideAt)) → t ≡ s → AnswersAll t ps xs u → AnswersAll s ps ys v → (xs ≡ ys) × (u ≡ v)
one_list t s u v [] [] [] e f g = (refl, f ∙ e ∙ sym g)
one_list t s u v [] [] (y ∷ ys) e f g = absurd g
one_list t s u v [] (x ∷ xs) ys e f g = absurd f
one_list t s u v (p ∷ ps) [] ys e f g = absurd f
one_list t s u v (p ∷ ps) (x ∷ xs) [] e f g = absurd g
one_list t s u v (p ∷ ps) (x ∷ xs) (y ∷ ys) e (w, a, f) (z, b, g) =
    let one = one_answer t w z p.0 p.1 x y a (subst (λ (k : Table). Answers k p.0 p.1 y z) (sym e) b) in
    let rest = one_list w z u v ps xs ys one.1 f g in
    (ap₂ ◌∷◌ one.0 rest.0, rest.1)
