-- Two fronts of one list.
use Rattle.std.proofs.Common.{◌≡◌, ◌<◌, List, [], ◌∷◌, ◌++◌, length, refl, ap, ◌∙◌, arith}

-- of two fronts of one list the longer goes on with what stands behind the shorter
pub record GoesFurther {A : Type 0} (front rest longer : List A) : Type 0 where
  pub token : A
  pub behind : List A
  pub more : List A
  pub rest_is : rest ≡ token ∷ behind
  pub longer_is : longer ≡ front ++ token ∷ more

pub further : {A : Type 0} (xs ys us vs : List A) → xs ++ us ≡ ys ++ vs → length xs < length ys → GoesFurther xs us ys
further [] [] us vs e l = absurd (omega (arith, l))
further [] (y ∷ ys) us vs e l = record { token = y; behind = ys ++ vs; more = ys; rest_is = e; longer_is = refl }
further (x ∷ xs) [] us vs e l = absurd (omega (arith, l))
further (x ∷ xs) (y ∷ ys) us vs e l =
    let same : y ≡ x = cc in
    let rest : xs ++ us ≡ ys ++ vs = cc in
    let r = further xs ys us vs rest (omega (arith, l)) in
    record { token = r.token; behind = r.behind; more = r.more; rest_is = r.rest_is; longer_is = ap (λ z. z ∷ ys) same ∙ ap (λ zs. x ∷ zs) r.longer_is }
