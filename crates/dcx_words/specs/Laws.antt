-- What the rules of the option and of `--warm` come to.
use Rattle.std.specs.Prelude.{◌≡◌, ◌≤◌, ℕ, Bool, true, false, ◌||◌, if◌then◌else◌, nat_eq, List, [], ◌∷◌, ◌++◌, Option, None, Some, option_and_then, bytes_eq}
use Rattle.std.specs.List.{count_by, list_any, starts_with}
use Rattle.dcx_words.specs.Commands.{Command, check, solve, resolve, certificate, certify, migrate, trial, iis, range, limit_of, option_word, option_front, warm_word, command_of}

-- the word is the option, or begins with it and an equal sign
abbrev pub is_option : List ℕ → Bool
is_option word = bytes_eq word option_word || starts_with nat_eq word option_front

abbrev pub HasNoOption : List (List ℕ) → Type 0
HasNoOption words = list_any is_option words ≡ false

-- the command with another limit; `check`, `certify` and `migrate` have none
abbrev pub with_limit : Command → ℕ → Option Command
with_limit (check script) limit = None
with_limit (solve script old) limit = Some (solve script limit)
with_limit (resolve script settings old warm) limit = Some (resolve script settings limit warm)
with_limit (certificate script settings old) limit = Some (certificate script settings limit)
with_limit (certify script settings cert) limit = None
with_limit (migrate script settings cert) limit = None
with_limit (trial size old) limit = Some (trial size limit)
with_limit (iis script settings old) limit = Some (iis script settings limit)
with_limit (range script settings parameter old) limit = Some (range script settings parameter limit)

-- the same command, limited by the number that the text spells; no plain form where it spells none
abbrev pub limited_by : List ℕ → Command → Option Command
limited_by text command = option_and_then (with_limit command) (limit_of text)

-- the option among the operands gives this, written in two words and in one
pub record OptionGives (name : List ℕ) (front back : List (List ℕ)) (text : List ℕ) (found : Option Command) : Type 0 where
  pub in_two_words : command_of (name ∷ (front ++ option_word ∷ text ∷ back)) ≡ found
  pub in_one_word : command_of (name ∷ (front ++ (option_front ++ text) ∷ back)) ≡ found

-- the option may stand at any place among the operands of a plain form that has none, and sets its limit
abbrev pub OptionStandsAnywhere : Type 0
OptionStandsAnywhere = (name : List ℕ) (front back : List (List ℕ)) (text : List ℕ) (command : Command)
    → HasNoOption (front ++ back) → command_of (name ∷ (front ++ back)) ≡ Some command → OptionGives name front back text (limited_by text command)

-- the words of a plain form have the option once at most
abbrev pub OptionStandsOnce : Type 0
OptionStandsOnce = (name : List ℕ) (words : List (List ℕ)) (command : Command) → command_of (name ∷ words) ≡ Some command → count_by is_option words ≤ 1

-- ---- `--warm`
abbrev pub is_warm : List ℕ → Bool
is_warm word = bytes_eq word warm_word

-- the same command, but warm; `resolve` alone can be, and only once
abbrev pub warmed : Command → Option Command
warmed (resolve script settings limit false) = Some (resolve script settings limit true)
warmed (resolve script settings limit true) = None
warmed (check script) = None
warmed (solve script limit) = None
warmed (certificate script settings limit) = None
warmed (certify script settings cert) = None
warmed (migrate script settings cert) = None
warmed (trial size limit) = None
warmed (iis script settings limit) = None
warmed (range script settings parameter limit) = None

-- the words end with the option, whose number is the next word
abbrev pub EndInOption : List (List ℕ) → Type 0
EndInOption words = (before : List (List ℕ)) × (words ≡ before ++ option_word ∷ [])

-- `--warm` may stand at any place among the operands of a plain form, with the option or without it, but for the place between the
-- option and its number, and makes the command warm
abbrev pub WarmStandsAnywhere : Type 0
WarmStandsAnywhere = (name : List ℕ) (front back : List (List ℕ)) (command : Command)
    → ¬ EndInOption front → command_of (name ∷ (front ++ back)) ≡ Some command → command_of (name ∷ (front ++ warm_word ∷ back)) ≡ warmed command

-- between the option and its number it is no plain form
abbrev pub WarmStandsApart : Type 0
WarmStandsApart = (name : List ℕ) (front back : List (List ℕ)) → EndInOption front → command_of (name ∷ (front ++ warm_word ∷ back)) ≡ None

-- whether the command is a warm `resolve`
abbrev pub is_warm_command : Command → Bool
is_warm_command (resolve script settings limit warm) = warm
is_warm_command (check script) = false
is_warm_command (solve script limit) = false
is_warm_command (certificate script settings limit) = false
is_warm_command (certify script settings cert) = false
is_warm_command (migrate script settings cert) = false
is_warm_command (trial size limit) = false
is_warm_command (iis script settings limit) = false
is_warm_command (range script settings parameter limit) = false

-- the words of a warm `resolve` have `--warm` once, and those of no other command have it
abbrev pub WarmStandsOnce : Type 0
WarmStandsOnce = (name : List ℕ) (words : List (List ℕ)) (command : Command) → command_of (name ∷ words) ≡ Some command → count_by is_warm words ≡ (if is_warm_command command then 1 else 0)
