-- Lists that stand beside one another, element by element.
use Rattle.std.proofs.Common.{List, [], ◌∷◌}
use Rattle.std.specs.List.{All, AllByRecursion, AllZip}
use Rattle.std.proofs.lemmas.List.Elements.{All-from_recursion}

pub zip_weaker : {A B : Type 0} (R S : A → B → Type 0) → ((a : A) (b : B) → R a b → S a b) → (xs : List A) (ys : List B) → AllZip R xs ys → AllZip S xs ys
zip_weaker R S f [] [] h = tt
zip_weaker R S f [] (y ∷ ys) h = absurd h
zip_weaker R S f (x ∷ xs) [] h = absurd h
zip_weaker R S f (x ∷ xs) (y ∷ ys) h = (f x y h.0, zip_weaker R S f xs ys h.1)

-- two lists beside one list stand beside each other
pub zip_both : {A B C : Type 0} (R : A → B → Type 0) (S : A → C → Type 0) (T : B → C → Type 0) → ((a : A) (b : B) (c : C) → R a b → S a c → T b c) → (xs : List A) (ys : List B) (zs : List C)
    → AllZip R xs ys → AllZip S xs zs → AllZip T ys zs
zip_both R S T f [] [] [] h k = tt
zip_both R S T f [] [] (z ∷ zs) h k = absurd k
zip_both R S T f [] (y ∷ ys) zs h k = absurd h
zip_both R S T f (x ∷ xs) [] zs h k = absurd h
zip_both R S T f (x ∷ xs) (y ∷ ys) [] h k = absurd k
zip_both R S T f (x ∷ xs) (y ∷ ys) (z ∷ zs) h k = (f x y z h.0 k.0, zip_both R S T f xs ys zs h.1 k.1)

-- what each element beside another has
zip_each : {A B : Type 0} (R : A → B → Type 0) (P : B → Type 0) → ((a : A) (b : B) → R a b → P b) → (xs : List A) (ys : List B) → AllZip R xs ys → AllByRecursion P ys
zip_each R P f [] [] h = tt
zip_each R P f [] (y ∷ ys) h = absurd h
zip_each R P f (x ∷ xs) [] h = absurd h
zip_each R P f (x ∷ xs) (y ∷ ys) h = (f x y h.0, zip_each R P f xs ys h.1)

pub zip_all : {A B : Type 0} (R : A → B → Type 0) (P : B → Type 0) → ((a : A) (b : B) → R a b → P b) → (xs : List A) (ys : List B) → AllZip R xs ys → All P ys
zip_all R P f xs ys h = All-from_recursion P ys (zip_each R P f xs ys h)
