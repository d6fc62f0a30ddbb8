-- What indices pick one after the other, as the code counts it.
use Rattle.std.specs.Prelude.{◌≡◌, ℕ, ◌+◌, ◌<◌, ◌≤◌, List, [], ◌∷◌, ◌++◌, map, length, Option, Some, None, option_map}
use Rattle.std.proofs.Common.{refl, sym, ap, ◌∙◌, subst, append_assoc, get_or, drop}
use Rattle.std.proofs.lemmas.List.{at_drop_more, at_drop_all, append-nil}
use Rattle.dcx_shape.specs.declared.index.Pick.{Pick}
use Rattle.dcx_operators.specs.declared.indices.Evaluated as code_evaluated
use Rattle.dcx_operators.specs.Indices.{Evaluated, pick_of, picks_of, cons_pick}
use Rattle.dcx_operators.specs.View.{evaluated, nearest_pick}

-- what indices pick, with numbers of 64 bits
abbrev pub picked_by : List Evaluated → Option (List Pick)
picked_by xs = option_map (map nearest_pick) (picks_of xs)

-- picks, and then the rest of them
abbrev pub behind : List Pick → Option (List Pick) → Option (List Pick)
behind ps o = option_map (λ qs. ps ++ qs) o

next_pick : (ps : List Pick) (p : Pick) (given : Option Pick) (rest : Option (List Pick)) → Some p ≡ option_map nearest_pick given
    → behind ps (option_map (map nearest_pick) (cons_pick given rest)) ≡ behind (ps ++ p ∷ []) (option_map (map nearest_pick) rest)
next_pick ps p None rest e = absurd cc
next_pick ps p (Some q) None e = refl
next_pick ps p (Some q) (Some qs) e =
    let same : p ≡ nearest_pick q = cc in
    subst (λ r. Some (ps ++ nearest_pick q ∷ map nearest_pick qs) ≡ Some ((ps ++ r ∷ []) ++ map nearest_pick qs)) (sym same)
    (ap Some (sym (append_assoc ps (nearest_pick q ∷ []) (map nearest_pick qs))))

-- an index that picks
pub picked_by-next : (ps : List Pick) (p : Pick) (xs : List code_evaluated.Evaluated) (i : ℕ) (x : code_evaluated.Evaluated) → i < length xs → x ≡ get_or xs i x
    → Some p ≡ option_map nearest_pick (pick_of (evaluated x))
    → behind ps (picked_by (map evaluated (drop i xs))) ≡ behind (ps ++ p ∷ []) (picked_by (map evaluated (drop (i + 1) xs)))
picked_by-next ps p xs i x h is e =
    at_drop_more (λ ys. behind ps (picked_by (map evaluated ys))) xs i x h
    ∙ ap (λ y. behind ps (picked_by (evaluated y ∷ map evaluated (drop (i + 1) xs)))) (sym is)
    ∙ next_pick ps p (pick_of (evaluated x)) (picks_of (map evaluated (drop (i + 1) xs))) e

-- ---- where the indices are read, one after the other
-- at the first index
pub picked_by-start : (ps : List Pick) (xs : List code_evaluated.Evaluated) → ps ≡ [] → behind ps (picked_by (map evaluated (drop 0 xs))) ≡ picked_by (map evaluated xs)
picked_by-start ps xs e = rw e (by (picked_by (map evaluated xs)))
  where
    by : (o : Option (List Pick)) → behind [] o ≡ o
    by None = refl
    by (Some qs) = refl

-- at an index that picks nothing
pub picked_by-none : (ps : List Pick) (xs : List code_evaluated.Evaluated) (i : ℕ) (x : code_evaluated.Evaluated) → i < length xs → x ≡ get_or xs i x
    → None ≡ option_map nearest_pick (pick_of (evaluated x))
    → behind ps (picked_by (map evaluated (drop i xs))) ≡ None
picked_by-none ps xs i x h is e =
    at_drop_more (λ ys. behind ps (picked_by (map evaluated ys))) xs i x h
    ∙ ap (λ y. behind ps (picked_by (evaluated y ∷ map evaluated (drop (i + 1) xs)))) (sym is)
    ∙ by (pick_of (evaluated x)) e
  where
    by : (given : Option Pick) → None ≡ option_map nearest_pick given → behind ps (option_map (map nearest_pick) (cons_pick given (picks_of (map evaluated (drop (i + 1) xs))))) ≡ None
    by None e = refl
    by (Some q) e = absurd cc

-- behind the last index
pub picked_by-end : (ps : List Pick) (xs : List code_evaluated.Evaluated) (i : ℕ) → length xs ≤ i → behind ps (picked_by (map evaluated (drop i xs))) ≡ Some ps
picked_by-end ps xs i h = at_drop_all (λ ys. behind ps (picked_by (map evaluated ys))) xs i h ∙ ap Some (append-nil ps)
