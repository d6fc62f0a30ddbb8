-- Where `--warm` may stand.
use Rattle.std.proofs.Common.{◌≡◌, ℕ, ◌+◌, Bool, true, false, cond, ◌||◌, List, [], ◌∷◌, ◌++◌, length, drop, Option, Some, None}
use Rattle.std.proofs.Common.{option_map, option_and_then, refl, sym, ap, ◌∙◌, subst, arith, append_assoc}
use Rattle.std.specs.Prelude.{nat_eq, bytes_eq, codes}
use Rattle.std.specs.List.{count_by, list_any, starts_with}
use Rattle.std.proofs.lemmas.Bool.{or_parts}
use Rattle.std.proofs.lemmas.Slice.Eq.{bytes_eq-Decides}
use Rattle.dcx_words.specs.Commands.{Command, check, solve, resolve, certificate, certify, migrate, trial, iis, range, Operands, limit_of, option_word, option_front, put_before, limited}
use Rattle.dcx_words.specs.Commands.{limited_by_next, without_option, warm_word, without_warm, file_of, files_of, warm_files_of, three_files_of, size_of, limited_command, command_of}
use Rattle.dcx_words.specs.Laws.{is_option, is_warm, HasNoOption, warmed, is_warm_command, EndInOption, WarmStandsAnywhere, WarmStandsApart, WarmStandsOnce}
use Rattle.dcx_words.proofs.NoMinus.{warm_of_minus, HasNone, first_counted, not_counted, none_counted, not_none, none_in, number_passes_none}
use Rattle.dcx_words.proofs.NoMinus.{file_operand, file_operands, three_file_operands, size_operand, beside_warm, first_taken, none_with}
use Rattle.dcx_words.proofs.Once.{operands, limited_words}

no_file : (front back : List (List ℕ)) → file_of (front ++ warm_word ∷ back) ≡ None
no_file front back = none_with is_warm file_of front back warm_word (file_operand is_warm warm_of_minus) refl

no_files : (front back : List (List ℕ)) → files_of (front ++ warm_word ∷ back) ≡ None
no_files front back = none_with is_warm files_of front back warm_word (file_operands is_warm warm_of_minus) refl

no_three_files : (front back : List (List ℕ)) → three_files_of (front ++ warm_word ∷ back) ≡ None
no_three_files front back = none_with is_warm three_files_of front back warm_word (three_file_operands is_warm warm_of_minus) refl

no_size : (front back : List (List ℕ)) → size_of (front ++ warm_word ∷ back) ≡ None
no_size front back = none_with is_warm size_of front back warm_word (size_operand is_warm warm_of_minus) refl

-- ---- `--warm` is taken out of the words
taken : (front back : List (List ℕ)) → HasNone is_warm front → without_warm (front ++ warm_word ∷ back) ≡ (front ++ back, true)
taken [] back h = refl
taken (w ∷ ws) back h =
    let p = or_parts (is_warm w) (list_any is_warm ws) h in
    ap (first_taken w (ws ++ warm_word ∷ back)) p.0
    ∙ ap (λ (x : List (List ℕ) × Bool). (w ∷ x.0, x.1)) (taken ws back p.1)

not_there : (words : List (List ℕ)) → (without_warm words).1 ≡ false → HasNone is_warm words × ((without_warm words).0 ≡ words)
not_there [] h = (refl, refl)
not_there (w ∷ ws) h = by (not_there ws) (is_warm w) refl h
  where
    by : ((without_warm ws).1 ≡ false → HasNone is_warm ws × ((without_warm ws).0 ≡ ws)) → (b : Bool) → is_warm w ≡ b → (first_taken w ws b).1 ≡ false
        → HasNone is_warm (w ∷ ws) × ((first_taken w ws (is_warm w)).0 ≡ w ∷ ws)
    by rest true e k = cc
    by rest false e k =
        let p = rest k in (
          ap (λ b. b || list_any is_warm ws) e ∙ p.0,
          ap (λ b. (first_taken w ws b).0) e ∙ ap (λ xs. w ∷ xs) p.1,
        )

-- ---- the count
more_counted : (front back : List (List ℕ)) (w : List ℕ) → is_warm w ≡ true → count_by is_warm (front ++ w ∷ back) ≡ 1 + count_by is_warm (front ++ back)
more_counted [] back w h = first_counted is_warm w back true h
more_counted (v ∷ vs) back w h = by (more_counted vs back w h) (is_warm v) refl
  where
    by : count_by is_warm (vs ++ w ∷ back) ≡ 1 + count_by is_warm (vs ++ back) → (b : Bool) → is_warm v ≡ b → count_by is_warm (v ∷ (vs ++ w ∷ back)) ≡ 1 + count_by is_warm (v ∷ (vs ++ back))
    by rest b e =
        let before = first_counted is_warm v (vs ++ w ∷ back) b e in
        let now = first_counted is_warm v (vs ++ back) b e in
        omega (arith, before, now, rest)

-- the words have `--warm` once, or not at all, where no other one is left
warm_counted : (words : List (List ℕ)) → HasNone is_warm (without_warm words).0 → count_by is_warm words ≡ cond (without_warm words).1 1 0
warm_counted [] h = refl
warm_counted (w ∷ ws) h = by (warm_counted ws) (is_warm w) refl h
  where
    by : (HasNone is_warm (without_warm ws).0 → count_by is_warm ws ≡ cond (without_warm ws).1 1 0) → (b : Bool) → is_warm w ≡ b → HasNone is_warm (first_taken w ws b).0
        → count_by is_warm (w ∷ ws) ≡ cond (first_taken w ws (is_warm w)).1 1 0
    by rest true e k =
        first_counted is_warm w ws true e ∙ ap (λ n. 1 + n) (none_counted is_warm ws k)
        ∙ ap (λ b. cond (first_taken w ws b).1 1 0) (sym e)
    by rest false e k =
        let p = or_parts (is_warm w) (list_any is_warm (without_warm ws).0) k in
        not_counted is_warm w ws e ∙ rest p.1
        ∙ ap (λ b. cond (first_taken w ws b).1 1 0) (sym e)

-- ---- the files of a `resolve`
-- one more `--warm` makes it warm, or no plain form
files_warmed : (front back : List (List ℕ)) (files : List ℕ × List ℕ × Bool) (limit : ℕ) → warm_files_of (front ++ back) ≡ Some files
    → option_map (λ (x : List ℕ × List ℕ × Bool). resolve x.0 x.1 limit x.2) (warm_files_of (front ++ warm_word ∷ back)) ≡ warmed (resolve files.0 files.1 limit files.2)
files_warmed front back (script, settings, warm) limit h = by warm (beside_warm (front ++ back) (script, settings, warm) h)
  where
    -- the words with one more
    more : List (List ℕ)
    more = front ++ warm_word ∷ back

    first : (without_warm (front ++ back)).1 ≡ false → files_of (without_warm (front ++ back)).0 ≡ Some (script, settings) → warm_files_of more ≡ Some (script, settings, true)
    first d e =
        let p = not_there (front ++ back) d in
        let q = none_in is_warm front back p.0 in
        ap (λ (x : List (List ℕ) × Bool). option_map (λ (f : List ℕ × List ℕ). (f.0, f.1, x.1)) (files_of x.0)) (taken front back q.0)
        ∙ ap (λ xs. option_map (λ (f : List ℕ × List ℕ). (f.0, f.1, true)) (files_of xs)) (sym p.1)
        ∙ ap (option_map (λ (f : List ℕ × List ℕ). (f.0, f.1, true))) e

    second : (without_warm (front ++ back)).1 ≡ true → files_of (without_warm (front ++ back)).0 ≡ Some (script, settings) → (o : Option (List ℕ × List ℕ × Bool)) → warm_files_of more ≡ o → o ≡ None
    second d e None k = refl
    second d e (Some found) k =
        let once = warm_counted (front ++ back) (file_operands is_warm warm_of_minus (without_warm (front ++ back)).0 (script, settings) e) ∙ ap (λ b. cond b 1 0) d in
        let again = warm_counted more (file_operands is_warm warm_of_minus (without_warm more).0 (found.0, found.1) (beside_warm more found k).0) in
        absurd (too_many (without_warm more).1 (sym (more_counted front back warm_word refl) ∙ again) once)
      where
        too_many : (b : Bool) → 1 + count_by is_warm (front ++ back) ≡ cond b 1 0 → count_by is_warm (front ++ back) ≡ 1 → ⊥
        too_many true m n = omega (arith, m, n)
        too_many false m n = omega (arith, m, n)

    by : (b : Bool) → (files_of (without_warm (front ++ back)).0 ≡ Some (script, settings)) × ((without_warm (front ++ back)).1 ≡ b)
        → option_map (λ (x : List ℕ × List ℕ × Bool). resolve x.0 x.1 limit x.2) (warm_files_of more) ≡ warmed (resolve script settings limit b)
    by false (e, d) = ap (option_map (λ (x : List ℕ × List ℕ × Bool). resolve x.0 x.1 limit x.2)) (first d e)
    by true (e, d) = ap (option_map (λ (x : List ℕ × List ℕ × Bool). resolve x.0 x.1 limit x.2)) (second d e (warm_files_of more) refl)

-- ---- anywhere
-- the operands, with one more `--warm` among them
record HasOneMore (o p : Operands) : Type 0 where
  front : List (List ℕ)
  back : List (List ℕ)
  is : o.words ≡ front ++ back
  more : p.words ≡ front ++ warm_word ∷ back
  limit : p.limit ≡ o.limit

abbrev Moves : Option Operands → Option Operands → Type 0
Moves o None = (x : Operands) → o ≡ Some x → ⊥
Moves o (Some p) = (x : Operands) → o ≡ Some x → HasOneMore x p

operands_eta : (words : List (List ℕ)) (n : ℕ) (x : Operands) → Some (let p : Operands = record { words = words; limit = n } in p) ≡ Some x → (x.words ≡ words) × (x.limit ≡ n)
operands_eta words n x h =
    let is : (let p : Operands = record { words = words; limit = n } in p) ≡ x = cc in
    (ap (λ (y : Operands). y.words) (sym is), ap (λ (y : Operands). y.limit) (sym is))

-- the option with its number, and the words behind it
limited_moves : (text : List ℕ) (front back : List (List ℕ)) → Moves (limited text (front ++ back)) (limited text (front ++ warm_word ∷ back))
limited_moves text front back = by (limit_of text)
  where
    by : (n : Option ℕ) → Moves (option_map (λ n. let p : Operands = record { words = front ++ back; limit = n } in p) n)
        (option_map (λ n. let p : Operands = record { words = front ++ warm_word ∷ back; limit = n } in p) n)
    by None = λ x e. cc
    by (Some n) = λ x e.
        let d = operands_eta (front ++ back) n x e in
        record { front = front; back = back; is = d.0; more = refl; limit = sym d.1 }

-- a word before them
put_moves : (w : List ℕ) (o p : Option Operands) → Moves o p → Moves (option_map (put_before (w ∷ [])) o) (option_map (put_before (w ∷ [])) p)
put_moves w None None m = λ x e. cc
put_moves w None (Some p) m = λ x e. cc
put_moves w (Some o) None m = λ x e. absurd (m o refl)
put_moves w (Some o) (Some p) m = λ x e.
    let d = operands_eta (w ∷ o.words) o.limit x e in
    let h = m o refl in
    record { front = w ∷ h.front; back = h.back; is = d.0 ∙ ap (λ ws. w ∷ ws) h.is; more = ap (λ ws. w ∷ ws) h.more; limit = h.limit ∙ sym d.1 }

here : (back : List (List ℕ)) (o : Option Operands) → Moves o (option_map (put_before (warm_word ∷ [])) o)
here back None = λ x e. cc
here back (Some o) = λ x e.
    let d : o ≡ x = cc in
    record { front = []; back = o.words; is = ap (λ (y : Operands). y.words) (sym d); more = refl; limit = ap (λ (y : Operands). y.limit) d }

moves : (front back : List (List ℕ)) → ¬ EndInOption front → Moves (without_option (front ++ back)) (without_option (front ++ warm_word ∷ back))
moves [] back h = here back (without_option back)
moves (w ∷ ws) back h = by (moves ws back) (bytes_eq w option_word) refl (starts_with nat_eq w option_front)
  where
    next : (vs : List (List ℕ)) → ws ≡ vs → w ≡ option_word → Moves (limited_by_next (vs ++ back)) (limited_by_next (vs ++ warm_word ∷ back))
    next [] e d = absurd (h ([], ap (λ v. v ∷ ws) d ∙ ap (λ vs. option_word ∷ vs) e))
    next (text ∷ vs) e d = limited_moves text vs back

    by : (¬ EndInOption ws → Moves (without_option (ws ++ back)) (without_option (ws ++ warm_word ∷ back))) → (a : Bool) → bytes_eq w option_word ≡ a → (b : Bool)
        → Moves (cond a (limited_by_next (ws ++ back)) (cond b (limited (drop (length option_front) w) (ws ++ back)) (option_map (put_before (w ∷ [])) (without_option (ws ++ back)))))
        (cond a (limited_by_next (ws ++ warm_word ∷ back)) (cond b (limited (drop (length option_front) w) (ws ++ warm_word ∷ back))
        (option_map (put_before (w ∷ [])) (without_option (ws ++ warm_word ∷ back)))))
    by rest true d b = next ws refl ((bytes_eq-Decides w option_word).0 d)
    by rest false d true = limited_moves (drop (length option_front) w) ws back
    by rest false d false =
        put_moves w (without_option (ws ++ back)) (without_option (ws ++ warm_word ∷ back))
        (rest (λ (before, e). h (w ∷ before, ap (λ vs. w ∷ vs) e)))

-- what the operands come to
command_warmed : (name : List ℕ) (o p : Operands) (command : Command) → HasOneMore o p → limited_command name o ≡ Some command → limited_command name p ≡ warmed command
command_warmed name o p command m =
    by (bytes_eq name (codes "solve")) (bytes_eq name (codes "resolve")) (bytes_eq name (codes "certificate")) (bytes_eq name (codes "trial")) (bytes_eq name (codes "iis"))
    (bytes_eq name (codes "range"))
  where
    none : {X : Type 0} (form was : X → Command) (f : List (List ℕ) → Option X) → f (m.front ++ warm_word ∷ m.back) ≡ None → ((x : X) → warmed (was x) ≡ None) → (r : Option X)
        → option_map was r ≡ Some command → option_map form (f p.words) ≡ warmed command
    none form was f h k None e = cc
    none form was f h k (Some x) e =
        let d : was x ≡ command = cc in
        ap (λ ws. option_map form (f ws)) m.more ∙ ap (option_map form) h ∙ sym (k x) ∙ ap warmed d

    files : (r : Option (List ℕ × List ℕ × Bool)) → warm_files_of o.words ≡ r → option_map (λ (x : List ℕ × List ℕ × Bool). resolve x.0 x.1 o.limit x.2) r ≡ Some command
        → option_map (λ (x : List ℕ × List ℕ × Bool). resolve x.0 x.1 p.limit x.2) (warm_files_of p.words) ≡ warmed command
    files None d e = cc
    files (Some x) d e =
        let c : resolve x.0 x.1 o.limit x.2 ≡ command = cc in
        ap (λ ws. option_map (λ (x : List ℕ × List ℕ × Bool). resolve x.0 x.1 p.limit x.2) (warm_files_of ws)) m.more
        ∙ files_warmed m.front m.back x p.limit (ap warm_files_of (sym m.is) ∙ d)
        ∙ ap (λ n. warmed (resolve x.0 x.1 n x.2)) m.limit ∙ ap warmed c

    by : (a b c d i r : Bool)
        → cond a (option_map (λ script. solve script o.limit) (file_of o.words))
        (cond b (option_map (λ files. resolve files.0 files.1 o.limit files.2) (warm_files_of o.words))
        (cond c (option_map (λ files. certificate files.0 files.1 o.limit) (files_of o.words))
        (cond d (option_map (λ size. trial size o.limit) (size_of o.words))
        (cond i (option_map (λ files. iis files.0 files.1 o.limit) (files_of o.words)) (cond r (option_map (λ files. range files.0 files.1 files.2 o.limit) (three_files_of o.words)) None)))))
        ≡ Some command
        → cond a (option_map (λ script. solve script p.limit) (file_of p.words))
        (cond b (option_map (λ files. resolve files.0 files.1 p.limit files.2) (warm_files_of p.words))
        (cond c (option_map (λ files. certificate files.0 files.1 p.limit) (files_of p.words))
        (cond d (option_map (λ size. trial size p.limit) (size_of p.words))
        (cond i (option_map (λ files. iis files.0 files.1 p.limit) (files_of p.words)) (cond r (option_map (λ files. range files.0 files.1 files.2 p.limit) (three_files_of p.words)) None)))))
        ≡ warmed command
    by true b c d i r e = none (λ script. solve script p.limit) (λ script. solve script o.limit) file_of (no_file m.front m.back) (λ x. refl) (file_of o.words) e
    by false true c d i r e = files (warm_files_of o.words) refl e
    by false false true d i r e = none (λ files. certificate files.0 files.1 p.limit) (λ files. certificate files.0 files.1 o.limit) files_of (no_files m.front m.back) (λ x. refl) (files_of o.words) e
    by false false false true i r e = none (λ size. trial size p.limit) (λ size. trial size o.limit) size_of (no_size m.front m.back) (λ x. refl) (size_of o.words) e
    by false false false false true r e = none (λ files. iis files.0 files.1 p.limit) (λ files. iis files.0 files.1 o.limit) files_of (no_files m.front m.back) (λ x. refl) (files_of o.words) e
    by false false false false false true e =
        none (λ files. range files.0 files.1 files.2 p.limit) (λ files. range files.0 files.1 files.2 o.limit) three_files_of (no_three_files m.front m.back) (λ x. refl) (three_files_of o.words) e
    by false false false false false false e = cc

pub warm_stands_anywhere : WarmStandsAnywhere
warm_stands_anywhere name front back command h = by (bytes_eq name (codes "check")) (bytes_eq name (codes "certify")) (bytes_eq name (codes "migrate"))
  where
    words : List (List ℕ)
    words = front ++ back

    more : List (List ℕ)
    more = front ++ warm_word ∷ back

    none : {X : Type 0} (form : X → Command) (f : List (List ℕ) → Option X) → f more ≡ None → ((x : X) → warmed (form x) ≡ None) → (r : Option X) → option_map form r ≡ Some command
        → option_map form (f more) ≡ warmed command
    none form f k n None e = cc
    none form f k n (Some x) e = let d : form x ≡ command = cc in ap (option_map form) k ∙ sym (n x) ∙ ap warmed d

    some : (o p : Option Operands) → Moves o p → option_and_then (limited_command name) o ≡ Some command → option_and_then (limited_command name) p ≡ warmed command
    some None p m e = cc
    some (Some o) None m e = absurd (m o refl)
    some (Some o) (Some p) m e = command_warmed name o p command (m o refl) e

    by : (a b c : Bool) → cond a (option_map check (file_of words)) (cond b (option_map (λ files. certify files.0 files.1 files.2) (three_files_of words))
        (cond c (option_map (λ files. migrate files.0 files.1 files.2) (three_files_of words)) (option_and_then (limited_command name) (without_option words)))) ≡ Some command
        → cond a (option_map check (file_of more)) (cond b (option_map (λ files. certify files.0 files.1 files.2) (three_files_of more))
        (cond c (option_map (λ files. migrate files.0 files.1 files.2) (three_files_of more)) (option_and_then (limited_command name) (without_option more)))) ≡ warmed command
    by true b c e = none check file_of (no_file front back) (λ x. refl) (file_of words) e
    by false true c e = none (λ files. certify files.0 files.1 files.2) three_files_of (no_three_files front back) (λ x. refl) (three_files_of words) e
    by false false true e = none (λ files. migrate files.0 files.1 files.2) three_files_of (no_three_files front back) (λ x. refl) (three_files_of words) e
    by false false false e = some (without_option words) (without_option more) (moves front back h) e

-- ---- apart
-- the option takes `--warm` as its number, or stays among the words
apart : (front back : List (List ℕ)) (o : Operands) → without_option (front ++ option_word ∷ warm_word ∷ back) ≡ Some o → HasNoOption o.words → ⊥
apart [] back o h k = cc
apart (w ∷ ws) back o h k = by (apart ws back) (bytes_eq w option_word) (starts_with nat_eq w option_front) h
  where
    rest : List (List ℕ) → List (List ℕ)
    rest vs = vs ++ option_word ∷ warm_word ∷ back

    stays : (text : List ℕ) (vs : List (List ℕ)) → limited text (rest vs) ≡ Some o → ⊥
    stays text vs e = not_none is_option vs (warm_word ∷ back) option_word refl (subst HasNoOption (limited_words text (rest vs) o e).0 k)

    next : (vs : List (List ℕ)) → limited_by_next (rest vs) ≡ Some o → ⊥
    next [] e = cc
    next (text ∷ vs) e = stays text vs e

    operand : ((p : Operands) → without_option (rest ws) ≡ Some p → HasNoOption p.words → ⊥) → (r : Option Operands) → without_option (rest ws) ≡ r → option_map (put_before (w ∷ [])) r ≡ Some o → ⊥
    operand others None d e = cc
    operand others (Some p) d e =
        let q = operands_eta (w ∷ p.words) p.limit o e in
        others p d (or_parts (is_option w) (list_any is_option p.words) (subst HasNoOption q.0 k)).1

    by : ((p : Operands) → without_option (rest ws) ≡ Some p → HasNoOption p.words → ⊥) → (a b : Bool)
        → cond a (limited_by_next (rest ws)) (cond b (limited (drop (length option_front) w) (rest ws)) (option_map (put_before (w ∷ [])) (without_option (rest ws)))) ≡ Some o → ⊥
    by others true b e = next ws e
    by others false true e = stays (drop (length option_front) w) ws e
    by others false false e = operand others (without_option (rest ws)) refl e

pub warm_stands_apart : WarmStandsApart
warm_stands_apart name front back (before, is) = by (command_of (name ∷ more)) refl
  where
    more : List (List ℕ)
    more = front ++ warm_word ∷ back

    spelled : more ≡ before ++ option_word ∷ warm_word ∷ back
    spelled = ap (λ vs. vs ++ warm_word ∷ back) is ∙ append_assoc before (option_word ∷ []) (warm_word ∷ back)

    one : (r : Option (List ℕ)) → r ≡ None → (command : Command) → option_map check r ≡ Some command → ⊥
    one None d command e = cc
    one (Some script) d command e = cc

    three : (form : List ℕ × List ℕ × List ℕ → Command) (r : Option (List ℕ × List ℕ × List ℕ)) → r ≡ None → (command : Command) → option_map form r ≡ Some command → ⊥
    three form None d command e = cc
    three form (Some files) d command e = cc

    some : (o : Option Operands) → without_option more ≡ o → (command : Command) → option_and_then (limited_command name) o ≡ Some command → ⊥
    some None d command e = cc
    some (Some o) d command e = apart before back o (ap without_option (sym spelled) ∙ d) (operands name o command e)

    found : (command : Command) (a b c : Bool)
        → cond a (option_map check (file_of more)) (cond b (option_map (λ files. certify files.0 files.1 files.2) (three_files_of more))
        (cond c (option_map (λ files. migrate files.0 files.1 files.2) (three_files_of more)) (option_and_then (limited_command name) (without_option more)))) ≡ Some command → ⊥
    found command true b c e = one (file_of more) (no_file front back) command e
    found command false true c e = three (λ files. certify files.0 files.1 files.2) (three_files_of more) (no_three_files front back) command e
    found command false false true e = three (λ files. migrate files.0 files.1 files.2) (three_files_of more) (no_three_files front back) command e
    found command false false false e = some (without_option more) refl command e

    by : (r : Option Command) → command_of (name ∷ more) ≡ r → r ≡ None
    by None e = refl
    by (Some command) e = absurd (found command (bytes_eq name (codes "check")) (bytes_eq name (codes "certify")) (bytes_eq name (codes "migrate")) e)

-- ---- once
option_is_not_warm : (w : List ℕ) (a b : Bool) → bytes_eq w option_word ≡ a → starts_with nat_eq w option_front ≡ b → (a || b) ≡ true → is_warm w ≡ false
option_is_not_warm w a b d f e = by (is_warm w) refl
  where
    by : (c : Bool) → is_warm w ≡ c → c ≡ false
    by false h = refl
    by true h =
        let same : w ≡ warm_word = (bytes_eq-Decides w warm_word).0 h in
        let first : false ≡ a = ap (λ v. bytes_eq v option_word) (sym same) ∙ d in
        let front : false ≡ b = ap (λ v. starts_with nat_eq v option_front) (sym same) ∙ f in
        cc

-- the option is no `--warm`, and neither is its number
taken_counted : (words : List (List ℕ)) (o : Operands) → without_option words ≡ Some o → count_by is_warm words ≡ count_by is_warm o.words
taken_counted [] o h = ap (count_by is_warm) (sym (operands_eta [] 200000 o h).0)
taken_counted (w ∷ ws) o h = by (λ p. taken_counted ws p) (bytes_eq w option_word) (starts_with nat_eq w option_front) refl refl h
  where
    behind : (text : List ℕ) (vs : List (List ℕ)) → limited text vs ≡ Some o → (count_by is_warm vs ≡ count_by is_warm o.words) × (is_warm text ≡ false)
    behind text vs = by (limit_of text) refl
      where
        by : (n : Option ℕ) → limit_of text ≡ n → option_map (λ n. let p : Operands = record { words = vs; limit = n } in p) n ≡ Some o
            → (count_by is_warm vs ≡ count_by is_warm o.words) × (is_warm text ≡ false)
        by None d e = cc
        by (Some n) d e = (ap (count_by is_warm) (sym (operands_eta vs n o e).0), number_passes_none is_warm warm_of_minus 10 0 1000000000 n text d)

    next : (vs : List (List ℕ)) → is_warm w ≡ false → limited_by_next vs ≡ Some o → count_by is_warm (w ∷ vs) ≡ count_by is_warm o.words
    next [] d e = cc
    next (text ∷ vs) d e = let p = behind text vs e in not_counted is_warm w (text ∷ vs) d ∙ not_counted is_warm text vs p.1 ∙ p.0

    operand : ((p : Operands) → without_option ws ≡ Some p → count_by is_warm ws ≡ count_by is_warm p.words) → (r : Option Operands) → without_option ws ≡ r
        → option_map (put_before (w ∷ [])) r ≡ Some o → count_by is_warm (w ∷ ws) ≡ count_by is_warm o.words
    operand rest None d e = cc
    operand rest (Some p) d e =
        first_counted is_warm w ws (is_warm w) refl ∙ ap (λ n. cond (is_warm w) 1 0 + n) (rest p d) ∙ sym (first_counted is_warm w p.words (is_warm w) refl)
        ∙ ap (count_by is_warm) (sym (operands_eta (w ∷ p.words) p.limit o e).0)

    by : ((p : Operands) → without_option ws ≡ Some p → count_by is_warm ws ≡ count_by is_warm p.words) → (a b : Bool) → bytes_eq w option_word ≡ a → starts_with nat_eq w option_front ≡ b
        → cond a (limited_by_next ws) (cond b (limited (drop (length option_front) w) ws) (option_map (put_before (w ∷ [])) (without_option ws))) ≡ Some o
        → count_by is_warm (w ∷ ws) ≡ count_by is_warm o.words
    by rest true b d f e = next ws (option_is_not_warm w true b d f refl) e
    by rest false true d f e = not_counted is_warm w ws (option_is_not_warm w false true d f refl) ∙ (behind (drop (length option_front) w) ws e).0
    by rest false false d f e = operand rest (without_option ws) refl e

-- of a command that takes the option
operands_counted : (name : List ℕ) (o : Operands) (command : Command) → limited_command name o ≡ Some command → count_by is_warm o.words ≡ cond (is_warm_command command) 1 0
operands_counted name o command =
    by (bytes_eq name (codes "solve")) (bytes_eq name (codes "resolve")) (bytes_eq name (codes "certificate")) (bytes_eq name (codes "trial")) (bytes_eq name (codes "iis"))
    (bytes_eq name (codes "range"))
  where
    none : {X : Type 0} (form : X → Command) (f : List (List ℕ) → Option X) → ((words : List (List ℕ)) (x : X) → f words ≡ Some x → HasNone is_warm words)
        → ((x : X) → is_warm_command (form x) ≡ false)
        → (r : Option X) → f o.words ≡ r → option_map form r ≡ Some command → count_by is_warm o.words ≡ cond (is_warm_command command) 1 0
    none form f h k None d e = cc
    none form f h k (Some x) d e =
        let c : form x ≡ command = cc in
        none_counted is_warm o.words (h o.words x d) ∙ ap (λ b. cond b 1 0) (sym (k x)) ∙ ap (λ z. cond (is_warm_command z) 1 0) c

    files : (r : Option (List ℕ × List ℕ × Bool)) → warm_files_of o.words ≡ r → option_map (λ (x : List ℕ × List ℕ × Bool). resolve x.0 x.1 o.limit x.2) r ≡ Some command
        → count_by is_warm o.words ≡ cond (is_warm_command command) 1 0
    files None d e = cc
    files (Some x) d e =
        let c : resolve x.0 x.1 o.limit x.2 ≡ command = cc in
        let p = beside_warm o.words x d in
        warm_counted o.words (file_operands is_warm warm_of_minus (without_warm o.words).0 (x.0, x.1) p.0) ∙ ap (λ b. cond b 1 0) p.1 ∙ ap (λ z. cond (is_warm_command z) 1 0) c

    by : (a b c d i r : Bool) → cond a (option_map (λ script. solve script o.limit) (file_of o.words))
        (cond b (option_map (λ files. resolve files.0 files.1 o.limit files.2) (warm_files_of o.words))
        (cond c (option_map (λ files. certificate files.0 files.1 o.limit) (files_of o.words))
        (cond d (option_map (λ size. trial size o.limit) (size_of o.words))
        (cond i (option_map (λ files. iis files.0 files.1 o.limit) (files_of o.words)) (cond r (option_map (λ files. range files.0 files.1 files.2 o.limit) (three_files_of o.words)) None)))))
        ≡ Some command
        → count_by is_warm o.words ≡ cond (is_warm_command command) 1 0
    by true b c d i r e = none (λ script. solve script o.limit) file_of (file_operand is_warm warm_of_minus) (λ x. refl) (file_of o.words) refl e
    by false true c d i r e = files (warm_files_of o.words) refl e
    by false false true d i r e = none (λ files. certificate files.0 files.1 o.limit) files_of (file_operands is_warm warm_of_minus) (λ x. refl) (files_of o.words) refl e
    by false false false true i r e = none (λ size. trial size o.limit) size_of (size_operand is_warm warm_of_minus) (λ x. refl) (size_of o.words) refl e
    by false false false false true r e = none (λ files. iis files.0 files.1 o.limit) files_of (file_operands is_warm warm_of_minus) (λ x. refl) (files_of o.words) refl e
    by false false false false false true e =
        none (λ files. range files.0 files.1 files.2 o.limit) three_files_of (three_file_operands is_warm warm_of_minus) (λ x. refl) (three_files_of o.words) refl e
    by false false false false false false e = cc

pub warm_stands_once : WarmStandsOnce
warm_stands_once name words command = by (bytes_eq name (codes "check")) (bytes_eq name (codes "certify")) (bytes_eq name (codes "migrate"))
  where
    none : {X : Type 0} (form : X → Command) (f : List (List ℕ) → Option X) → ((words : List (List ℕ)) (x : X) → f words ≡ Some x → HasNone is_warm words)
        → ((x : X) → is_warm_command (form x) ≡ false)
        → (r : Option X) → f words ≡ r → option_map form r ≡ Some command → count_by is_warm words ≡ cond (is_warm_command command) 1 0
    none form f h k None d e = cc
    none form f h k (Some x) d e =
        let c : form x ≡ command = cc in
        none_counted is_warm words (h words x d) ∙ ap (λ b. cond b 1 0) (sym (k x)) ∙ ap (λ z. cond (is_warm_command z) 1 0) c

    some : (o : Option Operands) → without_option words ≡ o → option_and_then (limited_command name) o ≡ Some command → count_by is_warm words ≡ cond (is_warm_command command) 1 0
    some None d e = cc
    some (Some o) d e = taken_counted words o d ∙ operands_counted name o command e

    by : (a b c : Bool) → cond a (option_map check (file_of words)) (cond b (option_map (λ files. certify files.0 files.1 files.2) (three_files_of words))
        (cond c (option_map (λ files. migrate files.0 files.1 files.2) (three_files_of words)) (option_and_then (limited_command name) (without_option words)))) ≡ Some command
        → count_by is_warm words ≡ cond (is_warm_command command) 1 0
    by true b c e = none check file_of (file_operand is_warm warm_of_minus) (λ x. refl) (file_of words) refl e
    by false true c e = none (λ files. certify files.0 files.1 files.2) three_files_of (three_file_operands is_warm warm_of_minus) (λ x. refl) (three_files_of words) refl e
    by false false true e = none (λ files. migrate files.0 files.1 files.2) three_files_of (three_file_operands is_warm warm_of_minus) (λ x. refl) (three_files_of words) refl e
    by false false false e = some (without_option words) refl e
