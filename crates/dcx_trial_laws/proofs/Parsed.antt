-- The script is read as its tree.
use Rattle.std.proofs.Common.{◌≡◌, ℕ, ◌^◌, ◌<◌, false, List, [], ◌∷◌, ◌++◌, length, codes, append_assoc, append-nil, None, refl, sym, ap, ◌∙◌, subst, arith}
use Rattle.std.specs.Prelude.{Ok}
use Rattle.std.specs.Str.{chars}
use Rattle.std.proofs.lemmas.Str.{chars-IsAscii}
use Rattle.dcx_shape.specs.declared.place.Place.{Place}
use Rattle.dcx_tokens.specs.declared.token.Token.{Token}
use Rattle.dcx_tokens.specs.Reading.{Reads, ends}
use Rattle.dcx_tokens.specs.State.{start, finished}
use Rattle.dcx_tokens.specs.Word.{keyword_of}
use Rattle.dcx_tokens.proofs.OneReading.{one_reading}
use Rattle.dcx_syntax.specs.declared.tree.Script.{Script}
use Rattle.dcx_syntax.specs.declared.bracket.Bracket.TheVariants.{Round, Square}
use Rattle.dcx_syntax.specs.declared.tree.Module.TheVariants.{Cvxpy, Numpy}
use Rattle.dcx_syntax.specs.Terminal.{Terminal, plain, opens, closes, dot, equal, newline}
use Rattle.dcx_syntax.specs.Expressions.{named}
use Rattle.dcx_syntax.specs.Statements.{Lines, lines, no_lines, line_text, lines_text, trimmed_all}
use Rattle.dcx_syntax.specs.View.{script_view}
use Rattle.dcx_read.specs.Terminals.{terminals}
use Rattle.dcx_read.specs.Parses.{IsReading}
use Rattle.dcx_trial.specs.Trial.{places, heights, trial_text}
use Rattle.dcx_trial_laws.specs.Tree.{place_at, named_at, array_line, import_line, variable_line, parameter_line, problem_line, trial_tree}
use Rattle.dcx_trial_laws.proofs.Pieces.{joined, Spot}
use Rattle.dcx_trial_laws.proofs.Steps.{state_at}
use Rattle.dcx_trial_laws.proofs.Arrives.{all_terms, pieces_read}
use Rattle.dcx_trial_laws.proofs.Script.{head_pieces, middle_pieces, tail_pieces, number_pieces, places_small, heights_small, script_joined, script_ascii, size_below}
use Rattle.dcx_trial_laws.proofs.Lists.{inside, listed_terms, list_read}

-- ---- the text of the tree
-- the script with any two lists of numbers
abbrev tree_of : (first second : List ℕ) → Lines
tree_of first second =
    lines (import_line Cvxpy (codes "cp") 1) (lines (import_line Numpy (codes "np") 2)
    (lines (array_line (codes "t") 3 first) (lines (array_line (codes "b") 4 second)
    (lines (variable_line (codes "s") 5) (lines (variable_line (codes "a") 6)
    (lines parameter_line (lines problem_line no_lines)))))))

-- up to the first number of an array
abbrev array_front : List ℕ → (line : ℕ) → List Terminal → List Terminal
array_front name line us =
    named (named_at name line 1) ∷ plain equal ∷ named (named_at (codes "np") line 5) ∷ plain dot ∷ named (named_at (codes "array") line 8) ∷ opens Round (place_at line 13)
    ∷ opens Square (place_at line 14) ∷ us

-- behind the last one
abbrev array_end : List Terminal → List Terminal
array_end us = closes Square ∷ closes Round ∷ plain newline ∷ us

array_text : (name : List ℕ) (line : ℕ) (ks : List ℕ) (us : List Terminal) → line_text (array_line name line ks) ++ us ≡ array_front name line (listed_terms line ks ++ array_end us)
array_text name line [] us = refl
array_text name line (k ∷ ks) us = simp (append_assoc, append-nil) refl

-- where the text begins
abbrev first_spot : Spot
first_spot = record { depth = 0; begun = false; place = place_at 1 1 }

tree_text : (js ks : List ℕ) (e f : ℕ)
    → all_terms first_spot head_pieces ++ (listed_terms 3 js ++ (all_terms (inside 3 e) middle_pieces ++ (listed_terms 4 ks ++ all_terms (inside 4 f) tail_pieces))) ≡ lines_text (tree_of js ks)
unfolding keyword_of
tree_text js ks e f =
    let rest = lines_text (lines (variable_line (codes "s") 5) (lines (variable_line (codes "a") 6) (lines parameter_line (lines problem_line no_lines)))) in
    let second = line_text (array_line (codes "b") 4 ks) ++ rest in
    let first = line_text (array_line (codes "t") 3 js) ++ second in
    let front : List Terminal → List Terminal = λ us. line_text (import_line Cvxpy (codes "cp") 1) ++ (line_text (import_line Numpy (codes "np") 2) ++ us) in
    ap (λ (us : List Terminal). front (array_front (codes "t") 3 (listed_terms 3 js ++ array_end us))) (sym (array_text (codes "b") 4 ks rest))
    ∙ ap front (sym (array_text (codes "t") 3 js second))

-- ---- the reading
-- without brackets and indentations the end has no fault
ended : (ts : List Token) (bs : List Place) (o : ℕ) (p : Place) → length bs ≡ 0 → Reads (state_at ts bs o (record { depth = 0; begun = false; place = p })) [] ts None
unfolding finished
ended ts [] o p e =
    let s = state_at ts [] o (record { depth = 0; begun = false; place = p }) in
    let is : finished s ≡ (record s { tokens = ts ++ []; indents = [] }, Ok tt) = refl in
    ends is (append-nil ts) refl
ended ts (b ∷ bs) o p e = absurd (omega arith)

-- the tokens of the script, which are those of its tree
pub record HasTree (size : ℕ) : Type 0 where
  pub tokens : List Token
  pub reads : Reads start (trial_text size) tokens None
  pub tree : terminals (trial_text size) tokens ≡ lines_text (trial_tree size)

pub has_tree : (size : ℕ) → size < 2 ^ 59 → HasTree size
unfolding trial_tree
has_tree size h =
    let source = trial_text size in
    let js = places size in
    let ks = heights size in
    let r4 = joined tail_pieces [] in
    let r3 = joined (number_pieces ks) r4 in
    let r2 = joined middle_pieces r3 in
    let r1 = joined (number_pieces js) r2 in
    let r0 = joined head_pieces r1 in
    let a = pieces_read source head_pieces [] [] 0 first_spot r1 refl (script_joined size) refl in
    let b = list_read source 3 js a.tokens a.brackets a.offset r2 (places_small 0 size (omega arith)) a.depth a.here refl in
    let c = pieces_read source middle_pieces b.read.tokens b.read.brackets b.read.offset (inside 3 b.end) r3 b.read.depth b.read.here refl in
    let d = list_read source 4 ks c.tokens c.brackets c.offset r4 (heights_small 0 size (omega arith)) c.depth c.here refl in
    let l = pieces_read source tail_pieces d.read.tokens d.read.brackets d.read.offset (inside 4 d.end) [] d.read.depth d.read.here refl in
    let last : Spot = record { depth = 0; begun = false; place = place_at 9 1 } in
    record {
      tokens = l.tokens;
      reads = subst (λ (cs : List ℕ). Reads start cs l.tokens None) (sym (script_joined size))
          (a.reads l.tokens None (b.read.reads l.tokens None (c.reads l.tokens None (d.read.reads l.tokens None (l.reads l.tokens None (ended l.tokens l.brackets l.offset (place_at 9 1) l.depth))))));
      tree = l.seen ∙ ap (λ (us : List Terminal). us ++ all_terms (inside 4 d.end) tail_pieces) (d.read.seen ∙ ap (λ (us : List Terminal). us ++ listed_terms 4 ks)
          (c.seen ∙ ap (λ (us : List Terminal). us ++ all_terms (inside 3 b.end) middle_pieces)
          (b.read.seen ∙ ap (λ (us : List Terminal). us ++ listed_terms 3 js) a.seen)))
          ∙ append_assoc ((all_terms first_spot head_pieces ++ listed_terms 3 js) ++ all_terms (inside 3 b.end) middle_pieces) (listed_terms 4 ks) (all_terms (inside 4 d.end) tail_pieces)
          ∙ append_assoc (all_terms first_spot head_pieces ++ listed_terms 3 js) (all_terms (inside 3 b.end) middle_pieces) (listed_terms 4 ks ++ all_terms (inside 4 d.end) tail_pieces)
          ∙ append_assoc (all_terms first_spot head_pieces) (listed_terms 3 js) (all_terms (inside 3 b.end) middle_pieces ++ (listed_terms 4 ks ++ all_terms (inside 4 d.end) tail_pieces))
          ∙ tree_text js ks b.end d.end;
    }

tree_kept : (size : ℕ) → trimmed_all (trial_tree size) ≡ trial_tree size
unfolding trial_tree
tree_kept size = refl

-- whatever is read of the script is its tree
pub is_read : (size : ℕ) (script : Script) → IsReading (trial_text size) (Ok script) → script_view script ≡ trial_tree size
is_read size script h =
    let text = h.1.0 in
    let is = h.1.1 in
    let short = text.text.short in
    let below = size_below size in
    let small : size < 2 ^ 59 = omega (arith, short, below) in
    let own = has_tree size small in
    let plain_text : chars (trial_text size) ≡ trial_text size = chars-IsAscii (trial_text size) (script_ascii size small) in
    let same = (one_reading text.lexed (subst (λ (cs : List ℕ). Reads start cs own.tokens None) (sym plain_text) own.reads)).0 in
    let tree = is.spelled.only (trial_tree size) (sym own.tree ∙ ap (terminals (trial_text size)) (sym same)) in
    is.kept ∙ ap trimmed_all (sym tree) ∙ tree_kept size
