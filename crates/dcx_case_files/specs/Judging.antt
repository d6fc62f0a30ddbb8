-- When what came is what a case wants, and how cases are counted.
use Rattle.std.specs.Prelude.{◌≡◌, ◌⊎◌, ℕ, ◌+◌, ◌-◌, ◌^◌, min, Bool, true, false, List, [], ◌++◌, codes, decimal, IfSome}
use Rattle.std.specs.List.{Any}
use Rattle.dcx_case_files.specs.declared.count.Wanted.{Wanted}
use Rattle.dcx_case_files.specs.declared.count.Came.{Came}
use Rattle.dcx_case_files.specs.declared.fronts.Fronts.{Fronts}

-- the report begins with this text
abbrev pub BeginsWith : List ℕ → List ℕ → Type 0
BeginsWith front report = (rest : List ℕ) × (report ≡ front ++ rest)

-- the report is the wanted one, or begins with it where it may go on
abbrev pub IsReport : (goes_on : Bool) → (wanted report : List ℕ) → Type 0
IsReport true wanted report = BeginsWith wanted report
IsReport false wanted report = report ≡ wanted

-- the status is the one that is wanted, if one is, and so is the report
abbrev pub IsMet : Wanted → Came → Type 0
IsMet wanted came = IfSome wanted.status (λ s. s ≡ came.status) × IsReport wanted.goes_on wanted.report.items came.report.items

-- what the report of a refusal of this number begins with
abbrev pub refusal_front : ℕ → List ℕ
refusal_front number = codes "refused script " ++ decimal number ++ codes " "

-- the status is the wanted one, and the report is of a refusal that is named, if any is
abbrev pub Fits : Fronts → Came → Type 0
Fits fronts came = (came.status ≡ fronts.status) × ((fronts.numbers.items ≡ []) ⊎ Any (λ n. BeginsWith (refusal_front n) came.report.items) fronts.numbers.items)

-- one more, or the most that is counted
abbrev pub one_more : ℕ → ℕ
one_more count = min (count + 1) (2 ^ 64 - 1)
