-- The refusals: their numbers, their names, and what each says beside its place.
use Rattle.std.specs.Prelude.{ℕ, Bool, ◌&&◌, ◌||◌, ◌==◌, nat_lt, nat_le, List, [], ◌∷◌, codes, unwrap_or}
use Rattle.std.specs.Map.{lookup}
use Rattle.dcx_refusal.specs.declared.refusal.Carried.{Carried}
use Rattle.dcx_refusal.specs.declared.refusal.Carried.TheVariants.{Nothing, Count, Rule, Passes, NotRanged}

-- There is a refusal of this number that says this. 18 says what was counted, 19 the rule that is
-- broken, 20 the operation that passes, 35 why a parameter has no range, and the others, 34 among them, nothing.
abbrev pub is_refusal : ℕ → Carried → Bool
is_refusal number Nothing = (nat_le 1 number && nat_lt number 18) || (number == 34)
is_refusal number (Count what count) = number == 18
is_refusal number (Rule rule) = number == 19
is_refusal number (Passes passes) = number == 20
is_refusal number (NotRanged fault) = number == 35

-- each refusal's number and name
abbrev pub refusal_names : List (ℕ × List ℕ)
refusal_names =
    (1, codes "NotText")
    ∷ (2, codes "BadChar")
    ∷ (3, codes "BadNumber")
    ∷ (4, codes "Unclosed")
    ∷ (5, codes "Indent")
    ∷ (6, codes "Unexpected")
    ∷ (7, codes "TooDeep")
    ∷ (8, codes "TooLong")
    ∷ (9, codes "UnknownName")
    ∷ (10, codes "UnknownCall")
    ∷ (11, codes "BadArgument")
    ∷ (12, codes "NotOffered")
    ∷ (13, codes "ShapeClash")
    ∷ (14, codes "IndexRange")
    ∷ (15, codes "EmptyResult")
    ∷ (16, codes "NoProblem")
    ∷ (17, codes "TwoProblems")
    ∷ (18, codes "TooMany")
    ∷ (19, codes "NotDcp")
    ∷ (20, codes "PlainWide")
    ∷ (34, codes "WholeVariable")
    ∷ (35, codes "NotRanged")
    ∷ []

-- the name of the refusal of this number
unfoldable pub refusal_name : ℕ → List ℕ
refusal_name number = unwrap_or (lookup (λ n. n == number) refusal_names) []
