-- What a test of the first bytes says, and one of several texts.
use Rattle.std.proofs.Common.{◌≡◌, ◌↔◌, ℕ, zero, suc, ◌<◌, ◌≤◌, Bool, true, false, List, [], ◌∷◌, length, drop, get_or, nat_eq, IsTrue, Result, Ok, Err, IfOk, sym, ◌∙◌, subst, arith, true≢false}
use Rattle.std.specs.List.{starts_with, Any}
use Rattle.std.proofs.lemmas.Bool.Decides.{Decides-eqb}
use Rattle.std.proofs.lemmas.Slice.Eq.{starts_is}
use Rattle.dcx_case_files.specs.Judging.{BeginsWith}

pub begins : (front report : List ℕ) (r : Bool) → r ≡ starts_with nat_eq report front → IsTrue r ↔ BeginsWith front report
begins front report r e =
    let is = starts_is Decides-eqb report front r e in
    (λ t. (drop (length front) report, is.0 t), λ b. is.1 b.0 b.1)

-- where the first of some isn't met, one of them is met exactly where one of the others is
pub none_first : {E : Type 0} (P : ℕ → Type 0) (xs : List ℕ) (first : Bool) (r : Result Bool E) → 1 ≤ length xs → IsTrue first ↔ P (get_or xs 0 0) → first ≡ false → (ys : List ℕ) → ys ≡ drop 1 xs
    → IfOk r (λ any. IsTrue any ↔ Any P ys) → IfOk r (λ any. IsTrue any ↔ Any P xs)
none_first P [] first r l is unmet ys rests rest = absurd (omega (arith, l))
none_first P (x ∷ xs) first (Err e) l is unmet ys rests rest = tt
none_first P (x ∷ xs) first (Ok any) l is unmet ys rests rest = (λ t. let a = others.0 t in (suc a.0, a.1, omega (arith, a.2), a.3, a.4), λ a. by a.0 a.1 a.2 a.3 a.4)
  where
    others : IsTrue any ↔ Any P xs
    others = subst (λ (zs : List ℕ). IsTrue any ↔ Any P zs) rests rest

    by : (i y : ℕ) → i < suc (length xs) → get_or (x ∷ xs) i y ≡ y → P y → IsTrue any
    by zero y b e p = absurd (true≢false (sym (is.1 (subst P (sym e) p)) ∙ unmet))
    by (suc i) y b e p = others.1 (i, y, omega (arith, b), e, p)
