-- The lines of the two arrays carried out: a list of numbers is an array of them.
use Rattle.std.proofs.Common.{◌≡◌, ℕ, suc, ◌+◌, ◌≤◌, pos, true, nat_lt, if◌then◌else◌, codes}
use Rattle.std.proofs.Common.{List, [], ◌∷◌, ◌++◌, map, flat_map, length, Option, Some, None, Ok, refl, sym, ap, ◌∙◌}
use Rattle.std.proofs.Common.{append_assoc, append-nil, option_map, slice_index_or, arith}
use Rattle.std.specs.List.{list_all}
use Rattle.std.specs.Map.{lookup}
use Rattle.std.proofs.lemmas.Bool.{lt-ltb, or_left}
use Rattle.dcx_math.specs.Rational.{whole}
use Rattle.dcx_frac.specs.declared.fraction.Frac.{Frac}
use Rattle.dcx_shape.specs.declared.shape.Shape.{Shape}
use Rattle.dcx_shape.specs.declared.shape.Sides.TheVariants.{Vector}
use Rattle.dcx_shape.specs.declared.place.Place.{Place}
use Rattle.dcx_shape.specs.Shape.{sides_of}
use Rattle.dcx_atom.specs.declared.array.Array.{Array}
use Rattle.dcx_atom.specs.Formed.{zero_frac, frac_at}
use Rattle.dcx_array.specs.Arrays.{number, filled, array_with}
use Rattle.dcx_array.proofs.AllowedShapes.{shape_with-is}
use Rattle.dcx_point.specs.Pairs.{same_name}
use Rattle.dcx_arena.specs.declared.fault.Count.TheVariants.{Items}
use Rattle.dcx_syntax.specs.declared.tree.Module.TheVariants.{Numpy}
use Rattle.dcx_syntax.specs.Expressions.{Expr, postfix, no_trailer}
use Rattle.dcx_script_values.specs.declared.fault.ElabFault.TheVariants.{BadArgument, EmptyResult}
use Rattle.dcx_script_values.specs.Values.{Value, plain, list_of, values_of, items_of, count, State, and_then, done, unless, or_fault, too_many, ◌>>◌, most_steps}
use Rattle.dcx_script_values.specs.Kinds.{is_number, are_rows, rows_sides, row_numbers, rows_array}
use Rattle.dcx_signature.specs.declared.table.Function.TheVariants as functions
use Rattle.dcx_signature.specs.Table.{v_word}
use Rattle.dcx_signature.specs.Firsts.{expr_place}
use Rattle.dcx_signature.specs.Arguments.{Bound}
use Rattle.dcx_functions.specs.Calls.{perform, function_called}
use Rattle.dcx_elab.specs.Expressions.{expr_means, trailers_mean, more_items_mean}
use Rattle.dcx_elab.specs.Statements.{line_means}
use Rattle.dcx_trial_laws.specs.Tree.{place_at, named_at, expr_of, column_behind, more_numbers, numbers_list, array_line}
use Rattle.dcx_trial_laws.proofs.Calls.{given_of, stepped, with_name}
use Rattle.dcx_trial_laws.proofs.Minimizes.{array_of}
use Rattle.dcx_trial_laws.proofs.Declared.{libraries}
use Rattle.dcx_trial_laws.proofs.Does.{expr_of-does, one_call-does, assign-does}

-- ---- the items
abbrev pub fraction : ℕ → Frac
fraction k = frac_at (whole (pos k))

abbrev item_of : ℕ → Value
item_of k = plain (number (fraction k))

abbrev items : List ℕ → List Value
items ks = items_of (values_of (map item_of ks))

count-push : (vs : List Value) (k : ℕ) → count (values_of (vs ++ item_of k ∷ [])) ≡ count (values_of vs) + 1
count-push [] k = refl
count-push (v ∷ vs) k = let h = count-push vs k in omega (arith, h)

more_items-do : (place : Place) (line column : ℕ) (ks : List ℕ) (vs : List Value) (s : State) → count (values_of vs) + length ks ≤ 20000
    → more_items_mean place (more_numbers line column ks) vs s ≡ Ok (vs ++ map item_of ks, s)
more_items-do place line column [] vs s few = ap (λ (ws : List Value). Ok (ws, s)) (sym (append-nil vs))
more_items-do place line column (k ∷ ks) vs s few =
    let here : nat_lt (count (values_of vs) + 1) 20001 ≡ true = lt-ltb (count (values_of vs) + 1) 20001 (omega (arith, few)) in
    let more = count-push vs k in
    ap (λ b. and_then (and_then (unless (too_many place Items (count (values_of vs) + 1)) b s) (λ _. done (vs ++ item_of k ∷ [])))
    (more_items_mean place (more_numbers line (column_behind column k) ks))) here
    ∙ more_items-do place line (column_behind column k) ks (vs ++ item_of k ∷ []) s (omega (arith, few, more))
    ∙ ap (λ (ws : List Value). Ok (ws, s)) (append_assoc vs (item_of k ∷ []) (map item_of ks))

all_numbers : (ks : List ℕ) → list_all is_number (items ks) ≡ true
all_numbers [] = refl
all_numbers (k ∷ ks) = all_numbers ks

length-items : (ks : List ℕ) → length (items ks) ≡ length ks
length-items [] = refl
length-items (k ∷ ks) = ap suc (length-items ks)

-- ---- the array
-- entry i of these numbers
abbrev pub entry_of : (ks : List ℕ) → ℕ → Frac
entry_of ks i = slice_index_or (flat_map row_numbers (items ks)) i zero_frac

-- the vector of these numbers, in a shape of their length
abbrev pub vector_of : Shape → List ℕ → Array
vector_of shape ks = filled shape (entry_of ks)

module _ (k : ℕ) (ks : List ℕ) (shape : Shape) (long : sides_of shape ≡ Vector (length (k ∷ ks))) where
  are_rows_all : are_rows (items (k ∷ ks)) ≡ true
  are_rows_all = or_left _ _ (all_numbers (k ∷ ks))

  same_sides : sides_of shape ≡ rows_sides (items (k ∷ ks))
  same_sides = long ∙ ap (λ m. Vector (suc m)) (sym (length-items ks))

  array_is : rows_array (items (k ∷ ks)) ≡ Some (vector_of shape (k ∷ ks))
  array_is =
      ap (λ b. if b then array_with (rows_sides (items (k ∷ ks))) (flat_map row_numbers (items (k ∷ ks))) else None) are_rows_all
      ∙ ap (λ o. option_map (λ to. filled to (entry_of (k ∷ ks))) o) (shape_with-is (rows_sides (items (k ∷ ks))) shape same_sides)

  -- ---- the line
  module _ (line : ℕ) where
    abbrev written : Expr
    written = expr_of (postfix (numbers_list line (k ∷ ks)) no_trailer)

    abbrev listed : Value
    listed = list_of (map item_of (k ∷ ks))

    abbrev bound : Bound
    bound = (v_word, listed) ∷ []

    written-does : (s : State) → length (k ∷ ks) ≤ 20000 → expr_means written s ≡ Ok (listed, s)
    written-does s few =
        expr_of-does (postfix (numbers_list line (k ∷ ks)) no_trailer) s s listed
        (ap (λ r. and_then (and_then r (λ ws. done (list_of ws))) (trailers_mean None (place_at line 14) no_trailer))
        (more_items-do (place_at line 14) line (column_behind 15 k) ks (item_of k ∷ []) s (omega (arith, few))))

    called-does : (target : Option (List ℕ)) (s : State) → function_called target (place_at line 5) functions.Array (given_of written listed ∷ []) s ≡ Ok (plain (vector_of shape (k ∷ ks)), s)
    called-does target s =
        ap (λ b. and_then (and_then (and_then (unless (BadArgument (expr_place written)) b s) (λ _. done tt)) (λ _. unless (BadArgument (place_at line 5)) true >> done bound))
        (λ given. perform target functions.Array (place_at line 5) given)) are_rows_all
        ∙ ap (λ o. and_then (or_fault (EmptyResult (place_at line 5)) o s) (λ a. done (plain a))) array_is

    -- the name is bound to the vector
    pub array_line-does : (name : List ℕ) (rest : List (List ℕ × Value)) (s : State) → s.names ≡ libraries rest → nat_lt s.steps most_steps ≡ true → length (k ∷ ks) ≤ 20000
        → line_means (array_line name line (k ∷ ks)) s ≡ Ok (tt, with_name name (plain (vector_of shape (k ∷ ks))) (stepped s))
    array_line-does name rest s names early few =
        assign-does (named_at name line 1) (array_of line (k ∷ ks)) s (stepped s) (plain (vector_of shape (k ∷ ks))) early
        (one_call-does (Some name) (codes "np") (codes "array") line 5 13 written (stepped s) (stepped s) (stepped s) listed (plain (vector_of shape (k ∷ ks))) Numpy functions.Array
        (ap (λ ns. lookup (same_name (codes "np")) ns) names) refl (written-does (stepped s) few) (called-does (Some name) (stepped s)))
        refl
