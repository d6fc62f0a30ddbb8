-- A plain form has the option once at most.
use Rattle.std.proofs.Common.{◌≡◌, ℕ, ◌≤◌, Bool, true, false, cond, ◌||◌, List, [], ◌∷◌, length, drop, Option, Some, None, option_map, option_and_then, refl, sym, ap, ◌∙◌, subst, arith}
use Rattle.std.specs.Prelude.{nat_eq, bytes_eq, codes}
use Rattle.std.specs.List.{count_by, list_any, starts_with}
use Rattle.std.proofs.lemmas.Bool.{or_parts}
use Rattle.dcx_words.specs.Commands.{Command, check, solve, resolve, certificate, certify, migrate, trial, iis, range, Operands, limit_of, option_word, option_front, put_before}
use Rattle.dcx_words.specs.Commands.{limited, limited_by_next, without_option, without_warm, file_of, files_of, warm_files_of, three_files_of, size_of, limited_command}
use Rattle.dcx_words.specs.Laws.{is_option, HasNoOption, OptionStandsOnce}
use Rattle.dcx_words.proofs.NoMinus.{option_of_minus, first_counted, not_counted, none_counted, number_passes_none, file_operand, file_operands, three_file_operands, size_operand, beside_warm, kept}

-- ---- operands
pub operands : (name : List ℕ) (o : Operands) (command : Command) → limited_command name o ≡ Some command → HasNoOption o.words
operands name o command =
    by (bytes_eq name (codes "solve")) (bytes_eq name (codes "resolve")) (bytes_eq name (codes "certificate")) (bytes_eq name (codes "trial")) (bytes_eq name (codes "iis"))
    (bytes_eq name (codes "range"))
  where
    one : (f : Option (List ℕ)) → file_of o.words ≡ f → option_map (λ script. solve script o.limit) f ≡ Some command → HasNoOption o.words
    one None d e = cc
    one (Some script) d e = file_operand is_option option_of_minus o.words script d

    two : (form : List ℕ × List ℕ → Command) (f : Option (List ℕ × List ℕ)) → files_of o.words ≡ f → option_map form f ≡ Some command → HasNoOption o.words
    two form None d e = cc
    two form (Some files) d e = file_operands is_option option_of_minus o.words files d

    warm : (f : Option (List ℕ × List ℕ × Bool)) → warm_files_of o.words ≡ f → option_map (λ files. resolve files.0 files.1 o.limit files.2) f ≡ Some command → HasNoOption o.words
    warm None d e = cc
    warm (Some files) d e = kept is_option refl o.words (file_operands is_option option_of_minus (without_warm o.words).0 (files.0, files.1) (beside_warm o.words files d).0)

    three : (f : Option (List ℕ × List ℕ × List ℕ)) → three_files_of o.words ≡ f → option_map (λ files. range files.0 files.1 files.2 o.limit) f ≡ Some command → HasNoOption o.words
    three None d e = cc
    three (Some files) d e = three_file_operands is_option option_of_minus o.words files d

    size : (f : Option ℕ) → size_of o.words ≡ f → option_map (λ size. trial size o.limit) f ≡ Some command → HasNoOption o.words
    size None d e = cc
    size (Some n) d e = size_operand is_option option_of_minus o.words n d

    by : (a b c d i r : Bool) → cond a (option_map (λ script. solve script o.limit) (file_of o.words))
        (cond b (option_map (λ files. resolve files.0 files.1 o.limit files.2) (warm_files_of o.words))
        (cond c (option_map (λ files. certificate files.0 files.1 o.limit) (files_of o.words))
        (cond d (option_map (λ size. trial size o.limit) (size_of o.words))
        (cond i (option_map (λ files. iis files.0 files.1 o.limit) (files_of o.words)) (cond r (option_map (λ files. range files.0 files.1 files.2 o.limit) (three_files_of o.words)) None)))))
        ≡ Some command → HasNoOption o.words
    by true b c d i r e = one (file_of o.words) refl e
    by false true c d i r e = warm (warm_files_of o.words) refl e
    by false false true d i r e = two (λ files. certificate files.0 files.1 o.limit) (files_of o.words) refl e
    by false false false true i r e = size (size_of o.words) refl e
    by false false false false true r e = two (λ files. iis files.0 files.1 o.limit) (files_of o.words) refl e
    by false false false false false true e = three (three_files_of o.words) refl e
    by false false false false false false e = cc

-- ---- the count
one_more : (w : List ℕ) (ws : List (List ℕ)) → count_by is_option ws ≡ 0 → count_by is_option (w ∷ ws) ≤ 1
one_more w ws h = by (is_option w) refl
  where
    by : (b : Bool) → is_option w ≡ b → count_by is_option (w ∷ ws) ≤ 1
    by true d = let e = first_counted is_option w ws true d in omega (arith, e, h)
    by false d = let e = first_counted is_option w ws false d in omega (arith, e, h)

abbrev words_of : Option Operands → List (List ℕ)
words_of None = []
words_of (Some o) = o.words

pub limited_words : (text : List ℕ) (words : List (List ℕ)) (o : Operands) → limited text words ≡ Some o → (o.words ≡ words) × (is_option text ≡ false)
limited_words text words o h = by (limit_of text) refl h
  where
    by : (n : Option ℕ) → limit_of text ≡ n → option_map (λ n. let p : Operands = record { words = words; limit = n } in p) n ≡ Some o → (o.words ≡ words) × (is_option text ≡ false)
    by None d e = cc
    by (Some n) d e = (ap words_of (sym e), number_passes_none is_option option_of_minus 10 0 1000000000 n text d)

once : (words : List (List ℕ)) (o : Operands) → without_option words ≡ Some o → HasNoOption o.words → count_by is_option words ≤ 1
once [] o h k = omega arith
once (w ∷ ws) o h k = by (λ rest. once ws rest) (bytes_eq w option_word) (starts_with nat_eq w option_front) refl refl h
  where
    next : (words : List (List ℕ)) → limited_by_next words ≡ Some o → count_by is_option (w ∷ words) ≤ 1
    next [] e = cc
    next (text ∷ back) e =
        let p = limited_words text back o e in
        one_more w (text ∷ back) (not_counted is_option text back p.1 ∙ none_counted is_option back (subst HasNoOption p.0 k))

    operand : ((rest : Operands) → without_option ws ≡ Some rest → HasNoOption rest.words → count_by is_option ws ≤ 1) → (r : Option Operands) → without_option ws ≡ r → is_option w ≡ false
        → option_map (put_before (w ∷ [])) r ≡ Some o → count_by is_option (w ∷ ws) ≤ 1
    operand more None d f e = cc
    operand more (Some rest) d f e =
        let words_are : o.words ≡ w ∷ rest.words = ap words_of (sym e) in
        let p = or_parts (is_option w) (list_any is_option rest.words) (subst HasNoOption words_are k) in
        let n = more rest d p.1 in
        omega (arith, not_counted is_option w ws f, n)

    by : ((rest : Operands) → without_option ws ≡ Some rest → HasNoOption rest.words → count_by is_option ws ≤ 1) → (a b : Bool) → bytes_eq w option_word ≡ a → starts_with nat_eq w option_front ≡ b
        → cond a (limited_by_next ws) (cond b (limited (drop (length option_front) w) ws) (option_map (put_before (w ∷ [])) (without_option ws))) ≡ Some o → count_by is_option (w ∷ ws) ≤ 1
    by more true b d f e = next ws e
    by more false true d f e = one_more w ws (none_counted is_option ws (subst HasNoOption (limited_words (drop (length option_front) w) ws o e).0 k))
    by more false false d f e = operand more (without_option ws) refl (ap (λ x. x || starts_with nat_eq w option_front) d ∙ f) e

pub option_stands_once : OptionStandsOnce
option_stands_once name words command = by (bytes_eq name (codes "check")) (bytes_eq name (codes "certify")) (bytes_eq name (codes "migrate"))
  where
    none : HasNoOption words → count_by is_option words ≤ 1
    none h = let n = none_counted is_option words h in omega (arith, n)

    one : (f : Option (List ℕ)) → file_of words ≡ f → option_map check f ≡ Some command → count_by is_option words ≤ 1
    one None d e = cc
    one (Some script) d e = none (file_operand is_option option_of_minus words script d)

    three : (form : List ℕ × List ℕ × List ℕ → Command) (f : Option (List ℕ × List ℕ × List ℕ)) → three_files_of words ≡ f → option_map form f ≡ Some command → count_by is_option words ≤ 1
    three form None d e = cc
    three form (Some files) d e = none (three_file_operands is_option option_of_minus words files d)

    some : (o : Option Operands) → without_option words ≡ o → option_and_then (limited_command name) o ≡ Some command → count_by is_option words ≤ 1
    some None d e = cc
    some (Some o) d e = once words o d (operands name o command e)

    by : (a b c : Bool) → cond a (option_map check (file_of words)) (cond b (option_map (λ files. certify files.0 files.1 files.2) (three_files_of words))
        (cond c (option_map (λ files. migrate files.0 files.1 files.2) (three_files_of words)) (option_and_then (limited_command name) (without_option words)))) ≡ Some command
        → count_by is_option words ≤ 1
    by true b c e = one (file_of words) refl e
    by false true c e = three (λ files. certify files.0 files.1 files.2) (three_files_of words) refl e
    by false false true e = three (λ files. migrate files.0 files.1 files.2) (three_files_of words) refl e
    by false false false e = some (without_option words) refl e
