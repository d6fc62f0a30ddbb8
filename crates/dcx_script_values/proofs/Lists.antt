-- Items as a list of values, what they count and how deep they are.
use Rattle.std.proofs.Common.{◌≡◌, refl, ap, arith, ℕ, ◌+◌, ◌<◌, ◌≤◌, max, List, [], ◌∷◌, ◌++◌, map, length}
use Rattle.dcx_shape.specs.Shape.{sides_of}
use Rattle.dcx_script_values.specs.declared.value.Value as code_value
use Rattle.dcx_script_values.specs.Values.{Value, Values, end, item, values_of, items_of, counted, count, depth, deepest, plain, text}
use Rattle.dcx_script_values.specs.Values.{truth, nothing, tuple, list, range, library, expression, constraint, objective, problem, result}
use Rattle.dcx_script_values.specs.Meant.{meant, items_meant, AreCounted}
use Rattle.dcx_script_values.specs.Falls.{plain_count-positive}

pub items_of-values_of : (vs : List Value) → items_of (values_of vs) ≡ vs
items_of-values_of [] = refl
items_of-values_of (v ∷ vs) = ap (λ (ws : List Value). v ∷ ws) (items_of-values_of vs)

pub values_of-items_of : (vs : Values) → values_of (items_of vs) ≡ vs
values_of-items_of end = refl
values_of-items_of (item v vs) = ap (item v) (values_of-items_of vs)

pub count-append : (vs ws : List Value) → count (values_of (vs ++ ws)) ≡ count (values_of vs) + count (values_of ws)
count-append [] ws = omega arith
count-append (v ∷ vs) ws = omega (arith, count-append vs ws)

pub deepest-append : (vs ws : List Value) → deepest (values_of (vs ++ ws)) ≡ max (deepest (values_of vs)) (deepest (values_of ws))
deepest-append [] ws = omega arith
deepest-append (v ∷ vs) ws = omega (arith, deepest-append vs ws)

pub count-items_of : (vs ws : Values) → count (values_of (items_of vs ++ items_of ws)) ≡ count vs + count ws
count-items_of vs ws = rw (count-append (items_of vs) (items_of ws), values_of-items_of vs, values_of-items_of ws) refl

pub deepest-items_of : (vs ws : Values) → deepest (values_of (items_of vs ++ items_of ws)) ≡ max (deepest vs) (deepest ws)
deepest-items_of vs ws = rw (deepest-append (items_of vs) (items_of ws), values_of-items_of vs, values_of-items_of ws) refl

-- ---- items that are made longer
pub items_meant-after : (vs : List code_value.Value) (v : code_value.Value) → items_meant (vs ++ v ∷ []) ≡ values_of (items_of (items_meant vs) ++ meant v ∷ [])
items_meant-after [] v = refl
items_meant-after (w ∷ vs) v = ap (item (meant w)) (items_meant-after vs v)

count-after : (vs : List code_value.Value) (v : code_value.Value) → count (items_meant (vs ++ v ∷ [])) ≡ count (items_meant vs) + counted (meant v)
count-after [] v = omega arith
count-after (w ∷ vs) v = omega (arith, count-after vs v)

deepest-after : (vs : List code_value.Value) (v : code_value.Value) → deepest (items_meant (vs ++ v ∷ [])) ≡ max (deepest (items_meant vs)) (depth (meant v))
deepest-after [] v = omega arith
deepest-after (w ∷ vs) v = omega (arith, deepest-after vs v)

-- one item more keeps what is told
pub AreCounted-after : (vs : List code_value.Value) (v : code_value.Value) (n d : ℕ) → AreCounted vs n d → count (items_meant vs) + counted (meant v) ≤ 20000 → depth (meant v) < 64 →
    AreCounted (vs ++ v ∷ []) (n + counted (meant v)) (max d (depth (meant v)))
AreCounted-after vs v n d h few shallow = record {
  told = omega (arith, h.told, count-after vs v);
  most = omega (arith, h.told, few);
  nested = omega (arith, h.nested, deepest-after vs v);
  shallow = omega (arith, h.shallow, shallow);
}

-- each item counts, so there are no more items than they count
counted-positive : (v : Value) → 0 < counted v
counted-positive (plain a) = plain_count-positive (sides_of a.shape)
counted-positive (text t) = omega arith
counted-positive (truth b) = omega arith
counted-positive nothing = omega arith
counted-positive (tuple vs) = omega arith
counted-positive (list vs) = omega arith
counted-positive (range first step n) = omega arith
counted-positive (library m) = omega arith
counted-positive (expression i) = omega arith
counted-positive (constraint c) = omega arith
counted-positive (objective sense i place) = omega arith
counted-positive problem = omega arith
counted-positive result = omega arith

pub length_le-count : (vs : List code_value.Value) → length vs ≤ count (items_meant vs)
length_le-count [] = omega arith
length_le-count (v ∷ vs) = omega (arith, counted-positive (meant v), length_le-count vs)

-- more items keep what is told
pub items_meant-more : (us vs ws : List code_value.Value) (b : Values) → map meant us ≡ map meant vs ++ map meant ws → map meant ws ≡ items_of b →
    items_meant us ≡ values_of (items_of (items_meant vs) ++ items_of b)
items_meant-more us vs ws b e h = rw (items_of-values_of (map meant vs), e, h) refl

pub AreCounted-more : (us vs : List code_value.Value) (b : Values) (n d m e : ℕ) → AreCounted vs n d → m ≡ count b → e ≡ deepest b → e < 64 → n + m ≤ 20000 →
    items_meant us ≡ values_of (items_of (items_meant vs) ++ items_of b) → AreCounted us (n + m) (max d e)
AreCounted-more us vs b n d m e h counts depths shallow few is = record {
  told = rw is (omega (arith, h.told, counts, count-items_of (items_meant vs) b));
  most = few;
  nested = rw is (omega (arith, h.nested, depths, deepest-items_of (items_meant vs) b));
  shallow = omega (arith, h.shallow, shallow);
}
