-- The script in pieces, and the lists of numbers in it.
use Rattle.std.proofs.Common.{◌≡◌, ℕ, zero, suc, ◌+◌, ◌*◌, ◌%◌, ◌^◌, ◌<◌, ◌≤◌, Bool, true, false, cond, eqb, List, [], ◌∷◌, ◌++◌, map, flat_map, length, codes}
use Rattle.std.proofs.Common.{decimal, append_assoc, length-append, refl, sym, ap, ◌∙◌, subst, arith, IsAscii}
use Rattle.std.specs.Prelude.{nat_lt}
use Rattle.std.specs.List.{list_all, range_with_len}
use Rattle.std.proofs.lemmas.Bool.Decides.{nat_tests}
use Rattle.std.proofs.lemmas.List.{length-map}
use Rattle.std.proofs.lemmas.Fmt.{IsAscii-decimal, length-decimal-le}
use Rattle.std.proofs.lemmas.Str.{IsAscii-append}
use Rattle.std.proofs.lemmas.Bool.{and_parts}
use Rattle.dcx_trial.specs.Trial.{places, height_at, heights, numbers_text, trial_text}
use Rattle.dcx_trial_laws.proofs.Pieces.{Piece, word, number, sign, blank, line_end, joined}

-- ---- the pieces
abbrev pub import_pieces : (library alias : List ℕ) → List Piece → List Piece
import_pieces library alias ps = word (codes "import") ∷ blank ∷ word library ∷ blank ∷ word (codes "as") ∷ blank ∷ word alias ∷ line_end ∷ ps

-- ` = `
abbrev pub assign_pieces : List ℕ → List Piece → List Piece
assign_pieces name ps = word name ∷ blank ∷ sign 61 ∷ blank ∷ ps

-- `m.f(`
abbrev pub call_pieces : (m f : List ℕ) → List Piece → List Piece
call_pieces m f ps = word m ∷ sign 46 ∷ word f ∷ sign 40 ∷ ps

-- up to the first number of an array
abbrev pub array_pieces : List ℕ → List Piece
array_pieces name = assign_pieces name (call_pieces (codes "np") (codes "array") (sign 91 ∷ []))

-- behind the last number of an array
abbrev pub end_pieces : List Piece → List Piece
end_pieces ps = sign 93 ∷ sign 41 ∷ line_end ∷ ps

abbrev pub head_pieces : List Piece
head_pieces = import_pieces (codes "cvxpy") (codes "cp") (import_pieces (codes "numpy") (codes "np") (array_pieces (codes "t")))

abbrev pub middle_pieces : List Piece
middle_pieces = end_pieces (array_pieces (codes "b"))

abbrev pub variable_pieces : List ℕ → List Piece → List Piece
variable_pieces name ps = assign_pieces name (call_pieces (codes "cp") (codes "Variable") (sign 41 ∷ line_end ∷ ps))

abbrev pub objective_pieces : List Piece
objective_pieces =
    call_pieces (codes "cp") (codes "norm1") (word (codes "s") ∷ sign 42 ∷ word (codes "t") ∷ blank ∷ sign 43 ∷ blank ∷ word (codes "a") ∷ blank ∷ sign 45 ∷ blank ∷ word (codes "b") ∷ sign 41
    ∷ blank ∷ sign 43 ∷ blank ∷ word (codes "q") ∷ sign 42 ∷ call_pieces (codes "cp") (codes "abs") (word (codes "s") ∷ sign 41 ∷ sign 41 ∷ sign 41 ∷ line_end ∷ []))

abbrev pub tail_pieces : List Piece
tail_pieces =
    end_pieces (variable_pieces (codes "s") (variable_pieces (codes "a")
    (assign_pieces (codes "q") (call_pieces (codes "cp") (codes "Parameter") (word (codes "nonneg") ∷ sign 61 ∷ word (codes "True") ∷ sign 41 ∷ line_end
    ∷ assign_pieces (codes "prob") (call_pieces (codes "cp") (codes "Problem") (call_pieces (codes "cp") (codes "Minimize") objective_pieces)))))))

-- ---- numbers
abbrev pub more_pieces : List ℕ → List Piece
more_pieces [] = []
more_pieces (k ∷ ks) = sign 44 ∷ blank ∷ number k ∷ more_pieces ks

abbrev pub number_pieces : List ℕ → List Piece
number_pieces [] = []
number_pieces (k ∷ ks) = number k ∷ more_pieces ks

more_joined : (ks rest : List ℕ) → flat_map (λ k. codes ", " ++ decimal k) ks ++ rest ≡ joined (more_pieces ks) rest
more_joined [] rest = refl
more_joined (k ∷ ks) rest = ap (λ (x : List ℕ). 44 ∷ 32 ∷ x) (append_assoc (decimal k) (flat_map (λ j. codes ", " ++ decimal j) ks) rest ∙ ap (λ (x : List ℕ). decimal k ++ x) (more_joined ks rest))

numbers_joined : (ks rest : List ℕ) → numbers_text ks ++ rest ≡ joined (number_pieces ks) rest
numbers_joined [] rest = refl
numbers_joined (k ∷ ks) rest = append_assoc (decimal k) (flat_map (λ j. codes ", " ++ decimal j) ks) rest ∙ ap (λ (x : List ℕ). decimal k ++ x) (more_joined ks rest)

-- ---- the script
regrouped : (a b c d e f : List ℕ) → ((((a ++ b) ++ c) ++ d) ++ e) ++ f ≡ a ++ (b ++ (c ++ (d ++ (e ++ f))))
regrouped a b c d e f =
    append_assoc (((a ++ b) ++ c) ++ d) e f ∙ append_assoc ((a ++ b) ++ c) d (e ++ f) ∙ append_assoc (a ++ b) c (d ++ (e ++ f)) ∙ append_assoc a b (c ++ (d ++ (e ++ f)))

-- its parts: what stands before the first list, between the two and behind them
abbrev front_text : List ℕ
front_text = codes "import cvxpy as cp\nimport numpy as np\nt = np.array(["

abbrev middle_text : List ℕ
middle_text = codes "])\nb = np.array(["

abbrev behind_text : List ℕ
behind_text = codes "])\ns = cp.Variable()\na = cp.Variable()\nq = cp.Parameter(nonneg=True)\n"

abbrev last_text : List ℕ
last_text = codes "prob = cp.Problem(cp.Minimize(cp.norm1(s*t + a - b) + q*cp.abs(s)))\n"

script_parts : (size : ℕ) → trial_text size ≡ front_text ++ (numbers_text (places size) ++ (middle_text ++ (numbers_text (heights size) ++ (behind_text ++ last_text))))
unfolding trial_text
script_parts size = regrouped front_text (numbers_text (places size)) middle_text (numbers_text (heights size)) behind_text last_text

-- the script is its pieces
pub script_joined : (size : ℕ) → trial_text size ≡ joined head_pieces (joined (number_pieces (places size)) (joined middle_pieces (joined (number_pieces (heights size)) (joined tail_pieces []))))
script_joined size =
    script_parts size
    ∙ ap (λ (x : List ℕ). front_text ++ x)
    (numbers_joined (places size) (middle_text ++ (numbers_text (heights size) ++ joined tail_pieces []))
    ∙ ap (λ (x : List ℕ). joined (number_pieces (places size)) (middle_text ++ x)) (numbers_joined (heights size) (joined tail_pieces [])))

-- ---- how large they are
abbrev pub AllSmall : List ℕ → Type 0
AllSmall [] = Unit {0}
AllSmall (k ∷ ks) = (k < 2 ^ 64) × AllSmall ks

extra : (b : Bool) → cond b 10 0 ≤ 10
extra true = omega arith
extra false = omega arith

pub places_small : (from n : ℕ) → from + n < 2 ^ 60 → AllSmall (range_with_len from n)
places_small from zero h = tt
places_small from (suc n) h = (omega arith, places_small (from + 1) n (omega arith))

pub heights_small : (from n : ℕ) → from + n < 2 ^ 60 → AllSmall (map height_at (range_with_len from n))
heights_small from zero h = tt
heights_small from (suc n) h = (let e = extra (eqb (from % 5) 0) in omega (arith, e), heights_small (from + 1) n (omega arith))

-- a list of numbers is no longer than its text
more_longer : (ks : List ℕ) → length ks ≤ length (flat_map (λ k. codes ", " ++ decimal k) ks)
more_longer [] = omega arith
more_longer (k ∷ ks) =
    let m = more_longer ks in
    let l = length-append (codes ", " ++ decimal k) (flat_map (λ j. codes ", " ++ decimal j) ks) in
    omega (arith, m, l)

pub numbers_longer : (ks : List ℕ) → length ks ≤ 1 + length (numbers_text ks)
numbers_longer [] = omega arith
numbers_longer (k ∷ ks) =
    let m = more_longer ks in
    let l = length-append (decimal k) (flat_map (λ j. codes ", " ++ decimal j) ks) in
    omega (arith, m, l)

pub range_longer : (from n : ℕ) → length (range_with_len from n) ≡ n
range_longer from zero = refl
range_longer from (suc n) = ap suc (range_longer (from + 1) n)

-- and its text is at most 22 characters long for each number
more_short : (ks : List ℕ) → AllSmall ks → length (flat_map (λ k. codes ", " ++ decimal k) ks) ≤ 22 * length ks
more_short [] all = omega arith
more_short (k ∷ ks) all =
    let digits = length-decimal-le 20 k (omega arith) (omega arith) all.0 in
    let m = more_short ks all.1 in
    let l = length-append (codes ", " ++ decimal k) (flat_map (λ j. codes ", " ++ decimal j) ks) in
    omega (arith, digits, m, l)

numbers_short : (ks : List ℕ) → AllSmall ks → length (numbers_text ks) ≤ 22 * length ks
numbers_short [] all = omega arith
numbers_short (k ∷ ks) all =
    let digits = length-decimal-le 20 k (omega arith) (omega arith) all.0 in
    let m = more_short ks all.1 in
    let l = length-append (decimal k) (flat_map (λ j. codes ", " ++ decimal j) ks) in
    omega (arith, digits, m, l)

pub size_below : (size : ℕ) → size ≤ length (trial_text size)
size_below size =
    let rest = middle_text ++ (numbers_text (heights size) ++ (behind_text ++ last_text)) in
    let all = ap (λ (x : List ℕ). length x) (script_parts size) in
    let f = length-append front_text (numbers_text (places size) ++ rest) in
    let l = length-append (numbers_text (places size)) rest in
    let n = numbers_longer (places size) in
    let r = range_longer 0 size in
    omega (arith, all, f, l, n, r)

pub script_short : (size : ℕ) → size ≤ 20000 → length (trial_text size) ≤ 206 + 44 * size
script_short size few =
    let end = behind_text ++ last_text in
    let last = numbers_text (heights size) ++ end in
    let rest = middle_text ++ last in
    let all = ap (λ (x : List ℕ). length x) (script_parts size) in
    let f = length-append front_text (numbers_text (places size) ++ rest) in
    let l = length-append (numbers_text (places size)) rest in
    let m = length-append middle_text last in
    let h = length-append (numbers_text (heights size)) end in
    let p = numbers_short (places size) (places_small 0 size (omega arith)) in
    let q = numbers_short (heights size) (heights_small 0 size (omega arith)) in
    let r = range_longer 0 size in
    let same = length-map (range_with_len 0 size) height_at in
    omega (arith, all, f, l, m, h, p, q, r, same)

-- ---- ASCII
abbrev is_small : ℕ → Bool
is_small c = nat_lt c 128

tested : (cs : List ℕ) → list_all is_small cs ≡ true → IsAscii cs
tested [] e i = omega arith
tested (c ∷ cs) e zero = let h = (and_parts (nat_lt c 128) (list_all (λ d. nat_lt d 128) cs) e).0 in grind (arith, nat_tests, h)
tested (c ∷ cs) e (suc i) = tested cs (and_parts (nat_lt c 128) (list_all (λ d. nat_lt d 128) cs) e).1 i

more_ascii : (ks : List ℕ) → AllSmall ks → IsAscii (flat_map (λ k. codes ", " ++ decimal k) ks)
more_ascii [] all = λ i. omega arith
more_ascii (k ∷ ks) all =
    IsAscii-append (codes ", " ++ decimal k) (flat_map (λ j. codes ", " ++ decimal j) ks) (IsAscii-append (codes ", ") (decimal k) (tested (codes ", ") refl)
    (IsAscii-decimal k all.0)) (more_ascii ks all.1)

numbers_ascii : (ks : List ℕ) → AllSmall ks → IsAscii (numbers_text ks)
numbers_ascii [] all = λ i. omega arith
numbers_ascii (k ∷ ks) all = IsAscii-append (decimal k) (flat_map (λ j. codes ", " ++ decimal j) ks) (IsAscii-decimal k all.0) (more_ascii ks all.1)

pub script_ascii : (size : ℕ) → size < 2 ^ 59 → IsAscii (trial_text size)
script_ascii size h =
    let end = behind_text ++ last_text in
    let last = numbers_text (heights size) ++ end in
    let middle = middle_text ++ last in
    let first = numbers_text (places size) ++ middle in
    subst IsAscii (sym (script_parts size))
    (IsAscii-append front_text first (tested front_text refl)
    (IsAscii-append (numbers_text (places size)) middle (numbers_ascii (places size) (places_small 0 size (omega arith)))
    (IsAscii-append middle_text last (tested middle_text refl)
    (IsAscii-append (numbers_text (heights size)) end (numbers_ascii (heights size) (heights_small 0 size (omega arith))) (tested end refl)))))
