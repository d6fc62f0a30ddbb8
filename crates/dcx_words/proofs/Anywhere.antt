-- The option may stand anywhere among the operands.
use Rattle.std.proofs.Common.{◌≡◌, ℕ, Bool, true, false, cond, List, [], ◌∷◌, ◌++◌, Option, Some, None, option_map, option_and_then, refl, sym, ap, ◌∙◌}
use Rattle.std.specs.Prelude.{nat_eq, bytes_eq, codes}
use Rattle.std.specs.List.{list_any, starts_with}
use Rattle.std.proofs.lemmas.Bool.{or_parts}
use Rattle.dcx_words.specs.Commands.{Command, check, solve, resolve, certificate, certify, migrate, trial, iis, range, Operands, limit_of, option_word, option_front, unlimited}
use Rattle.dcx_words.specs.Commands.{put_before, limited, without_option, file_of, files_of, three_files_of, size_of, warm_files_of, limited_command, command_of}
use Rattle.dcx_words.specs.Laws.{is_option, HasNoOption, with_limit, limited_by, OptionStandsAnywhere}
use Rattle.dcx_words.proofs.Taking.{at_operand, put_twice}
use Rattle.dcx_words.proofs.NoMinus.{option_of_minus, none_in, file_operand, three_file_operands, none_with}

put_none : (o : Option Operands) → o ≡ option_map (put_before []) o
put_none None = refl
put_none (Some o) = refl

-- words that have no option stand before what follows
stand_before : (front rest : List (List ℕ)) → HasNoOption front → without_option (front ++ rest) ≡ option_map (put_before front) (without_option rest)
stand_before [] rest h = put_none (without_option rest)
stand_before (w ∷ ws) rest h =
    let p = or_parts (is_option w) (list_any is_option ws) h in
    let q = or_parts (bytes_eq w option_word) (starts_with nat_eq w option_front) p.0 in
    at_operand w (ws ++ rest) q.0 q.1 ∙ ap (option_map (put_before (w ∷ []))) (stand_before ws rest p.1) ∙ put_twice (w ∷ []) ws (without_option rest)

no_option : (words : List (List ℕ)) → HasNoOption words → without_option words ≡ Some (unlimited words)
no_option [] h = refl
no_option (w ∷ ws) h =
    let p = or_parts (is_option w) (list_any is_option ws) h in
    let q = or_parts (bytes_eq w option_word) (starts_with nat_eq w option_front) p.0 in
    at_operand w ws q.0 q.1 ∙ ap (option_map (put_before (w ∷ []))) (no_option ws p.1)

-- the operands with another limit
relimited : (name : List ℕ) (words : List (List ℕ)) (m n : ℕ) (command : Command) → limited_command name (record { words = words; limit = m }) ≡ Some command
    → limited_command name (record { words = words; limit = n }) ≡ with_limit command n
relimited name words m n command =
    by (bytes_eq name (codes "solve")) (bytes_eq name (codes "resolve")) (bytes_eq name (codes "certificate")) (bytes_eq name (codes "trial")) (bytes_eq name (codes "iis"))
    (bytes_eq name (codes "range"))
  where
    -- of what the operands are made, whatever the limit
    same : {X : Type 0} (form : X → ℕ → Command) (o : Option X) → ((x : X) → Some (form x n) ≡ with_limit (form x m) n) → option_map (λ x. form x m) o ≡ Some command
        → option_map (λ x. form x n) o ≡ with_limit command n
    same form None h e = cc
    same form (Some x) h e = let d : form x m ≡ command = cc in h x ∙ ap (λ c. with_limit c n) d

    by : (a b c d i r : Bool)
        → cond a (option_map (λ script. solve script m) (file_of words))
        (cond b (option_map (λ files. resolve files.0 files.1 m files.2) (warm_files_of words))
        (cond c (option_map (λ files. certificate files.0 files.1 m) (files_of words))
        (cond d (option_map (λ size. trial size m) (size_of words)) (cond i (option_map (λ files. iis files.0 files.1 m) (files_of words))
        (cond r (option_map (λ files. range files.0 files.1 files.2 m) (three_files_of words)) None))))) ≡ Some command
        → cond a (option_map (λ script. solve script n) (file_of words))
        (cond b (option_map (λ files. resolve files.0 files.1 n files.2) (warm_files_of words))
        (cond c (option_map (λ files. certificate files.0 files.1 n) (files_of words))
        (cond d (option_map (λ size. trial size n) (size_of words)) (cond i (option_map (λ files. iis files.0 files.1 n) (files_of words))
        (cond r (option_map (λ files. range files.0 files.1 files.2 n) (three_files_of words)) None))))) ≡ with_limit command n
    by true b c d i r e = same (λ script limit. solve script limit) (file_of words) (λ x. refl) e
    by false true c d i r e = same (λ files limit. resolve files.0 files.1 limit files.2) (warm_files_of words) (λ x. refl) e
    by false false true d i r e = same (λ files limit. certificate files.0 files.1 limit) (files_of words) (λ x. refl) e
    by false false false true i r e = same (λ size limit. trial size limit) (size_of words) (λ x. refl) e
    by false false false false true r e = same (λ files limit. iis files.0 files.1 limit) (files_of words) (λ x. refl) e
    by false false false false false true e = same (λ files limit. range files.0 files.1 files.2 limit) (three_files_of words) (λ x. refl) e
    by false false false false false false e = cc

-- all operands, with the limit that the text spells
both_sides : (front back rest : List (List ℕ)) (text : List ℕ) → HasNoOption front → without_option rest ≡ limited text back → without_option (front ++ rest) ≡ limited text (front ++ back)
both_sides front back rest text h e = stand_before front rest h ∙ ap (option_map (put_before front)) e ∙ by (limit_of text)
  where
    by : (o : Option ℕ) → option_map (put_before front) (option_map (λ n. let p : Operands = record { words = back; limit = n } in p) o)
        ≡ option_map (λ n. let p : Operands = record { words = front ++ back; limit = n } in p) o
    by None = refl
    by (Some n) = refl

limited_same : (name : List ℕ) (words : List (List ℕ)) (text : List ℕ) (command : Command) → limited_command name (unlimited words) ≡ Some command
    → option_and_then (limited_command name) (limited text words) ≡ limited_by text command
limited_same name words text command e = by (limit_of text)
  where
    by : (o : Option ℕ) → option_and_then (limited_command name) (option_map (λ n. let p : Operands = record { words = words; limit = n } in p) o) ≡ option_and_then (with_limit command) o
    by None = refl
    by (Some n) = relimited name words 200000 n command e

-- ---- commands without the option
-- words that begin the option
words_begin : (text : List ℕ) → is_option (option_front ++ text) ≡ true
words_begin text = refl

-- a command without a limit stays none with the option
unlimited_stays : {X : Type 0} (form : X → Command) (o : Option X) (text : List ℕ) (command : Command) → ((x : X) (n : ℕ) → with_limit (form x) n ≡ None) → option_map form o ≡ Some command
    → None ≡ limited_by text command
unlimited_stays form None text command h e = cc
unlimited_stays form (Some x) text command h e = let d : form x ≡ command = cc in by (limit_of text) ∙ ap (limited_by text) d
  where
    by : (o : Option ℕ) → None ≡ option_and_then (with_limit (form x)) o
    by None = refl
    by (Some n) = sym (h x n)

-- what a name gives whose words have the option
record HasOption (words rest : List (List ℕ)) (text : List ℕ) : Type 0 where
  front : List (List ℕ)
  word : List ℕ
  back : List (List ℕ)
  is : rest ≡ front ++ word ∷ back
  option : is_option word ≡ true
  taken : without_option rest ≡ limited text words

by_name : (name : List ℕ) (words rest : List (List ℕ)) (text : List ℕ) (command : Command) → HasNoOption words → HasOption words rest text
    → command_of (name ∷ words) ≡ Some command → command_of (name ∷ rest) ≡ limited_by text command
by_name name words rest text command h r = by (bytes_eq name (codes "check")) (bytes_eq name (codes "certify")) (bytes_eq name (codes "migrate"))
  where
    none : {X : Type 0} (f : List (List ℕ) → Option X) → ((words : List (List ℕ)) (x : X) → f words ≡ Some x → HasNoOption words) → f rest ≡ None
    none f k = ap f r.is ∙ none_with is_option f r.front r.back r.word k r.option

    three : (form : List ℕ × List ℕ × List ℕ → Command) → ((x : List ℕ × List ℕ × List ℕ) (n : ℕ) → with_limit (form x) n ≡ None) → option_map form (three_files_of words) ≡ Some command
        → option_map form (three_files_of rest) ≡ limited_by text command
    three form k e = ap (option_map form) (none three_files_of (three_file_operands is_option option_of_minus)) ∙ unlimited_stays form (three_files_of words) text command k e

    by : (a b c : Bool) → cond a (option_map check (file_of words)) (cond b (option_map (λ files. certify files.0 files.1 files.2) (three_files_of words))
        (cond c (option_map (λ files. migrate files.0 files.1 files.2) (three_files_of words)) (option_and_then (limited_command name) (without_option words)))) ≡ Some command
        → cond a (option_map check (file_of rest)) (cond b (option_map (λ files. certify files.0 files.1 files.2) (three_files_of rest))
        (cond c (option_map (λ files. migrate files.0 files.1 files.2) (three_files_of rest)) (option_and_then (limited_command name) (without_option rest)))) ≡ limited_by text command
    by true b c e = ap (option_map check) (none file_of (file_operand is_option option_of_minus)) ∙ unlimited_stays check (file_of words) text command (λ x n. refl) e
    by false true c e = three (λ files. certify files.0 files.1 files.2) (λ x n. refl) e
    by false false true e = three (λ files. migrate files.0 files.1 files.2) (λ x n. refl) e
    by false false false e = ap (option_and_then (limited_command name)) r.taken ∙ limited_same name words text command (ap (option_and_then (limited_command name)) (sym (no_option words h)) ∙ e)

pub option_stands_anywhere : OptionStandsAnywhere
option_stands_anywhere name front back text command h e =
    let p = none_in is_option front back h in
    record {
      in_two_words = by_name name (front ++ back) (front ++ option_word ∷ text ∷ back) text command h
          (record { front = front; word = option_word; back = text ∷ back; is = refl; option = refl; taken = both_sides front back (option_word ∷ text ∷ back) text p.0 refl }) e;
      in_one_word = by_name name (front ++ back) (front ++ (option_front ++ text) ∷ back) text command h
          (record { front = front; word = option_front ++ text; back = back; is = refl; option = words_begin text; taken = both_sides front back ((option_front ++ text) ∷ back) text p.0 refl }) e;
    }
