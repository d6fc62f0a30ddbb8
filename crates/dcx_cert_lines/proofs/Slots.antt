-- Arrays that are read one after another under the names of a list.
use Rattle.std.proofs.Common.{◌≡◌, ℕ, zero, suc, ◌+◌, ◌<◌, false, cond, List, [], ◌∷◌, ◌++◌, Some, None, length, map, take, get_or, refl, sym, ap, ◌∙◌, subst, arith}
use Rattle.std.proofs.lemmas.List.{take_more, map-append, get_or-map, length-map}
use Rattle.std.specs.List.{AllByRecursion, IsDistinct}
use Rattle.dcx_shape.specs.declared.shape.Shape.{Shape}
use Rattle.dcx_atom.specs.declared.array.Array.{Array}
use Rattle.dcx_point.specs.Pairs.{Pairs, same_name, array_of, with_array}
use Rattle.dcx_point.proofs.Names.{unlike}
use Rattle.dcx_point.proofs.Puts.{absent}
use Rattle.dcx_lines.specs.Lines.{named_line}
use Rattle.dcx_lines.specs.Shown.{variables_of}
use Rattle.dcx_cert_lines.specs.CertText.{named_lines}
use Rattle.dcx_cert_lines.specs.Templates.{AreFilled, IsRead, IsStopped, IsNextRead, AreDistinctNames, named_template}
use Rattle.dcx_cert_lines.proofs.Filled.{named_filled}
use Rattle.dcx_cert_lines.proofs.Steps.{read_more, stop_among}

abbrev pub Slot : Type 0
Slot = List ℕ × Shape

-- an item stands at its place also where the items are told in other words
pub mapped_at : {A B : Type 0} (f : A → B) (xs : List A) (i : ℕ) (x : A) → i < length xs → x ≡ get_or xs i x → (i < length (map f xs)) × (f x ≡ get_or (map f xs) i (f x))
mapped_at f xs i x l at = (omega (arith, l, length-map xs f), ap f at ∙ sym (get_or-map f xs i x (f x) l))

-- the same of the item that is read there
pub read_at : {A B : Type 0} (f : A → B) (xs : List A) (i : ℕ) (d : A) → i < length xs → (i < length (map f xs)) × (f (get_or xs i d) ≡ get_or (map f xs) i (f (get_or xs i d)))
read_at f xs i d l = (omega (arith, l, length-map xs f), sym (get_or-map f xs i d (f (get_or xs i d)) l))

-- ---- names
unlike_at : (name : List ℕ) (names : List (List ℕ)) (i : ℕ) (x : List ℕ) → i < length names → x ≡ get_or names i x → AllByRecursion (λ y. same_name name y ≡ false) names → same_name name x ≡ false
unlike_at name [] i x l at h = absurd (omega (arith, l))
unlike_at name (y ∷ ys) zero x l at h = ap (same_name name) at ∙ h.0
unlike_at name (y ∷ ys) (suc i) x l at h = unlike_at name ys i x (omega (arith, l)) at h.1

-- the next of distinct names is none of those that are read
pub absent_among : (slots : List Slot) (i : ℕ) (x : Slot) (ps : Pairs) → i < length slots → x ≡ get_or slots i x → AreDistinctNames slots → variables_of ps ≡ take i slots → array_of ps x.0 ≡ None
unfolding IsDistinct
absent_among slots zero x [] l at d e = refl
absent_among slots zero x (p ∷ ps) l at d e = cc
absent_among [] (suc i) x ps l at d e = absurd (omega (arith, l))
absent_among (s ∷ ss) (suc i) x [] l at d e = refl
absent_among (s ∷ ss) (suc i) x (p ∷ ps) l at d e =
    let rest : variables_of ps ≡ take i ss = cc in
    let head : (p.0, p.1.shape) ≡ s = cc in
    let deeper = absent_among ss i x ps (omega (arith, l)) at d.1 rest in
    let names : List (List ℕ) = map (λ q. q.0) ss in
    let within : i < length names = omega (arith, l, length-map ss (λ (q : Slot). q.0)) in
    let here : x.0 ≡ get_or names i x.0 = ap (λ q. q.0) at ∙ sym (get_or-map (λ (q : Slot). q.0) ss i x x.0 (omega (arith, l))) in
    let apart : same_name s.0 x.0 ≡ false = unlike_at s.0 names i x.0 within here d.0 in
    let other : same_name x.0 p.0 ≡ false = unlike p.0 x.0 (ap (λ q. same_name q.0 x.0) head ∙ apart) in
    ap (λ t. cond t (Some p.1) (array_of ps x.0)) other ∙ deeper

-- ---- one more array
-- an array is put behind the others, since its name isn't among theirs
pub next_put : (ps new : Pairs) (name other : List ℕ) (array : Array) → array_of ps name ≡ None → other ≡ name → new ≡ with_array ps other array → new ≡ ps ++ (name, array) ∷ []
next_put ps new name other array none same put = put ∙ ap (λ n. with_array ps n array) same ∙ absent ps name array none

pub more_shown : (slots : List Slot) (i : ℕ) (x : Slot) (old new : Pairs) (array : Array) → i < length slots → x ≡ get_or slots i x → variables_of old ≡ take i slots → array.shape ≡ x.1
    → new ≡ old ++ (x.0, array) ∷ [] → variables_of new ≡ take (i + 1) slots
more_shown slots i x old new array l at e shape put =
    let last : (x.0, array.shape) ≡ x = ap (λ s. (x.0, s)) shape in
    ap variables_of put ∙ map-append (λ p. (p.0, p.1.shape)) old ((x.0, array) ∷ []) ∙ ap (λ t. t ++ (x.0, array.shape) ∷ []) e ∙ ap (λ y. take i slots ++ y ∷ []) last
    ∙ ap (λ y. take i slots ++ y ∷ []) at ∙ sym (take_more slots i x l)

pub more_read : (word : List ℕ) (x : Slot) (old new : Pairs) (b : List ℕ) (n : ℕ) (r : List ℕ) (k : ℕ) (s : List ℕ) (m : ℕ) → IsRead (named_lines word old) b n r k
    → IsNextRead word x old new r k s m → IsRead (named_lines word new) b n s m
more_read word x old new b n r k s m h next =
    subst (λ ps. IsRead (named_lines word ps) b n s m) (sym next.put) (read_more (named_line word) old (x.0, next.array) b n r k s m h next.read)

-- reading stops at the next array
pub stop_at : (word : List ℕ) (slots : List Slot) (i : ℕ) (x : Slot) (ps : Pairs) (b : List ℕ) (n : ℕ) (r : List ℕ) (k s : ℕ)
    → i < length slots → x ≡ get_or slots i x → variables_of ps ≡ take i slots → IsRead (named_lines word ps) b n r k → IsStopped (named_template word x ∷ []) r k s
    → IsStopped (map (named_template word) slots) b n s
stop_at word slots i x ps b n r k s l at e h stop =
    stop_among (named_template word) slots i x (named_lines word ps) b n r k s l at
    (subst (λ t. AreFilled (map (named_template word) t) (named_lines word ps)) e (named_filled word ps)) h stop
