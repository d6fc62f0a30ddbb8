-- Words that are a plain form, and words that are none.
use Rattle.std.proofs.Common.{◌≡◌, [], ◌∷◌, true, false, refl, Some, None}
use Rattle.std.specs.Prelude.{codes}
use Rattle.dcx_words.specs.Commands.{check, solve, resolve, certificate, certify, migrate, trial, iis, range, command_of}

-- ---- plain forms
check_a_script : command_of (codes "check" ∷ codes "a.py" ∷ []) ≡ Some (check (codes "a.py"))
check_a_script = refl

solve_with_the_usual_limit : command_of (codes "solve" ∷ codes "a.py" ∷ []) ≡ Some (solve (codes "a.py") 200000)
solve_with_the_usual_limit = refl

resolve_script_and_settings : command_of (codes "resolve" ∷ codes "a.py" ∷ codes "q.txt" ∷ []) ≡ Some (resolve (codes "a.py") (codes "q.txt") 200000 false)
resolve_script_and_settings = refl

certificate_with_the_usual_limit : command_of (codes "certificate" ∷ codes "a.py" ∷ codes "q.txt" ∷ []) ≡ Some (certificate (codes "a.py") (codes "q.txt") 200000)
certificate_with_the_usual_limit = refl

certificate_with_the_option : command_of (codes "certificate" ∷ codes "a.py" ∷ codes "q.txt" ∷ codes "--max-pivots=3" ∷ []) ≡ Some (certificate (codes "a.py") (codes "q.txt") 3)
certificate_with_the_option = refl

certify_three_files : command_of (codes "certify" ∷ codes "a.py" ∷ codes "q.txt" ∷ codes "c.txt" ∷ []) ≡ Some (certify (codes "a.py") (codes "q.txt") (codes "c.txt"))
certify_three_files = refl

migrate_three_files : command_of (codes "migrate" ∷ codes "a.py" ∷ codes "q.txt" ∷ codes "c.txt" ∷ []) ≡ Some (migrate (codes "a.py") (codes "q.txt") (codes "c.txt"))
migrate_three_files = refl

trial_with_leading_zeros : command_of (codes "trial" ∷ codes "0012" ∷ []) ≡ Some (trial 12 200000)
trial_with_leading_zeros = refl

iis_with_the_usual_limit : command_of (codes "iis" ∷ codes "a.py" ∷ codes "q.txt" ∷ []) ≡ Some (iis (codes "a.py") (codes "q.txt") 200000)
iis_with_the_usual_limit = refl

iis_with_the_option : command_of (codes "iis" ∷ codes "a.py" ∷ codes "--max-pivots" ∷ codes "0" ∷ codes "q.txt" ∷ []) ≡ Some (iis (codes "a.py") (codes "q.txt") 0)
iis_with_the_option = refl

range_with_the_usual_limit : command_of (codes "range" ∷ codes "a.py" ∷ codes "q.txt" ∷ codes "p" ∷ []) ≡ Some (range (codes "a.py") (codes "q.txt") (codes "p") 200000)
range_with_the_usual_limit = refl

range_with_the_option : command_of (codes "range" ∷ codes "a.py" ∷ codes "--max-pivots=0" ∷ codes "q.txt" ∷ codes "p" ∷ []) ≡ Some (range (codes "a.py") (codes "q.txt") (codes "p") 0)
range_with_the_option = refl

option_before_the_operand : command_of (codes "solve" ∷ codes "--max-pivots" ∷ codes "0000000007" ∷ codes "a.py" ∷ []) ≡ Some (solve (codes "a.py") 7)
option_before_the_operand = refl

option_between_the_operands : command_of (codes "resolve" ∷ codes "a.py" ∷ codes "--max-pivots=1000000000" ∷ codes "q.txt" ∷ []) ≡ Some (resolve (codes "a.py") (codes "q.txt") 1000000000 false)
option_between_the_operands = refl

option_behind_the_operand : command_of (codes "trial" ∷ codes "1000" ∷ codes "--max-pivots" ∷ codes "0" ∷ []) ≡ Some (trial 1000 0)
option_behind_the_operand = refl

warm_before_the_operands : command_of (codes "resolve" ∷ codes "--warm" ∷ codes "a.py" ∷ codes "q.txt" ∷ []) ≡ Some (resolve (codes "a.py") (codes "q.txt") 200000 true)
warm_before_the_operands = refl

warm_between_the_operands : command_of (codes "resolve" ∷ codes "a.py" ∷ codes "--warm" ∷ codes "q.txt" ∷ []) ≡ Some (resolve (codes "a.py") (codes "q.txt") 200000 true)
warm_between_the_operands = refl

warm_behind_the_operands : command_of (codes "resolve" ∷ codes "a.py" ∷ codes "q.txt" ∷ codes "--warm" ∷ []) ≡ Some (resolve (codes "a.py") (codes "q.txt") 200000 true)
warm_behind_the_operands = refl

warm_before_the_option : command_of (codes "resolve" ∷ codes "--warm" ∷ codes "--max-pivots" ∷ codes "7" ∷ codes "a.py" ∷ codes "q.txt" ∷ []) ≡ Some (resolve (codes "a.py") (codes "q.txt") 7 true)
warm_before_the_option = refl

warm_behind_the_option : command_of (codes "resolve" ∷ codes "a.py" ∷ codes "--max-pivots" ∷ codes "7" ∷ codes "--warm" ∷ codes "q.txt" ∷ []) ≡ Some (resolve (codes "a.py") (codes "q.txt") 7 true)
warm_behind_the_option = refl

warm_behind_the_option_in_one_word : command_of (codes "resolve" ∷ codes "--max-pivots=7" ∷ codes "a.py" ∷ codes "q.txt" ∷ codes "--warm" ∷ []) ≡ Some (resolve (codes "a.py") (codes "q.txt") 7 true)
warm_behind_the_option_in_one_word = refl

-- ---- none
no_words : command_of [] ≡ None
no_words = refl

help_word : command_of (codes "--help" ∷ []) ≡ None
help_word = refl

no_operand : command_of (codes "solve" ∷ []) ≡ None
no_operand = refl

one_operand_more : command_of (codes "check" ∷ codes "a.py" ∷ codes "b.py" ∷ []) ≡ None
one_operand_more = refl

check_with_the_option : command_of (codes "check" ∷ codes "--max-pivots=7" ∷ codes "a.py" ∷ []) ≡ None
check_with_the_option = refl

certify_with_the_option : command_of (codes "certify" ∷ codes "a.py" ∷ codes "q.txt" ∷ codes "c.txt" ∷ codes "--max-pivots=7" ∷ []) ≡ None
certify_with_the_option = refl

option_in_place_of_a_file : command_of (codes "certify" ∷ codes "a.py" ∷ codes "--max-pivots=7" ∷ codes "c.txt" ∷ []) ≡ None
option_in_place_of_a_file = refl

migrate_with_the_option : command_of (codes "migrate" ∷ codes "a.py" ∷ codes "q.txt" ∷ codes "c.txt" ∷ codes "--max-pivots" ∷ codes "7" ∷ []) ≡ None
migrate_with_the_option = refl

certify_without_its_certificate : command_of (codes "certify" ∷ codes "a.py" ∷ codes "q.txt" ∷ []) ≡ None
certify_without_its_certificate = refl

certificate_of_three_files : command_of (codes "certificate" ∷ codes "a.py" ∷ codes "q.txt" ∷ codes "c.txt" ∷ []) ≡ None
certificate_of_three_files = refl

iis_without_its_settings : command_of (codes "iis" ∷ codes "a.py" ∷ []) ≡ None
iis_without_its_settings = refl

range_without_its_parameter : command_of (codes "range" ∷ codes "a.py" ∷ codes "q.txt" ∷ []) ≡ None
range_without_its_parameter = refl

range_of_a_name_with_a_minus : command_of (codes "range" ∷ codes "a.py" ∷ codes "q.txt" ∷ codes "-p" ∷ []) ≡ None
range_of_a_name_with_a_minus = refl

range_of_no_name : command_of (codes "range" ∷ codes "a.py" ∷ codes "q.txt" ∷ [] ∷ []) ≡ None
range_of_no_name = refl

two_minus_before_the_operand : command_of (codes "solve" ∷ codes "--" ∷ codes "a.py" ∷ []) ≡ None
two_minus_before_the_operand = refl

limit_too_large : command_of (codes "solve" ∷ codes "--max-pivots=1000000001" ∷ codes "a.py" ∷ []) ≡ None
limit_too_large = refl

limit_too_long : command_of (codes "solve" ∷ codes "--max-pivots" ∷ codes "00000000007" ∷ codes "a.py" ∷ []) ≡ None
limit_too_long = refl

option_takes_the_next_word : command_of (codes "solve" ∷ codes "--max-pivots" ∷ codes "a.py" ∷ codes "7" ∷ []) ≡ None
option_takes_the_next_word = refl

option_twice : command_of (codes "solve" ∷ codes "--max-pivots=1" ∷ codes "a.py" ∷ codes "--max-pivots" ∷ codes "1" ∷ []) ≡ None
option_twice = refl

file_with_a_minus : command_of (codes "solve" ∷ codes "-a.py" ∷ []) ≡ None
file_with_a_minus = refl

empty_file : command_of (codes "solve" ∷ codes "" ∷ []) ≡ None
empty_file = refl

size_zero : command_of (codes "trial" ∷ codes "0" ∷ []) ≡ None
size_zero = refl

size_too_large : command_of (codes "trial" ∷ codes "1001" ∷ []) ≡ None
size_too_large = refl

warm_in_place_of_the_number : command_of (codes "resolve" ∷ codes "--max-pivots" ∷ codes "--warm" ∷ codes "7" ∷ codes "a.py" ∷ codes "q.txt" ∷ []) ≡ None
warm_in_place_of_the_number = refl

warm_twice : command_of (codes "resolve" ∷ codes "--warm" ∷ codes "a.py" ∷ codes "q.txt" ∷ codes "--warm" ∷ []) ≡ None
warm_twice = refl

warm_in_place_of_a_file : command_of (codes "resolve" ∷ codes "a.py" ∷ codes "--warm" ∷ []) ≡ None
warm_in_place_of_a_file = refl

warm_before_the_name : command_of (codes "--warm" ∷ codes "resolve" ∷ codes "a.py" ∷ codes "q.txt" ∷ []) ≡ None
warm_before_the_name = refl

warm_with_a_value : command_of (codes "resolve" ∷ codes "--warm=1" ∷ codes "a.py" ∷ codes "q.txt" ∷ []) ≡ None
warm_with_a_value = refl

warm_solve : command_of (codes "solve" ∷ codes "a.py" ∷ codes "--warm" ∷ []) ≡ None
warm_solve = refl

warm_certificate : command_of (codes "certificate" ∷ codes "--warm" ∷ codes "a.py" ∷ codes "q.txt" ∷ []) ≡ None
warm_certificate = refl

warm_check : command_of (codes "check" ∷ codes "a.py" ∷ codes "--warm" ∷ []) ≡ None
warm_check = refl

warm_iis : command_of (codes "iis" ∷ codes "a.py" ∷ codes "q.txt" ∷ codes "--warm" ∷ []) ≡ None
warm_iis = refl
