-- A script whose names have no line feed is the same under other names for those that have one.
use Rattle.std.proofs.Common.{◌≡◌, ℕ, List, [], ◌∷◌, ◌++◌, Option, Some, None, option_map, IsUtf8, refl, ap, ap₂}
use Rattle.std.specs.Prelude.{⊤}
use Rattle.std.specs.List.{AllByRecursion}
use Rattle.dcx_shape.specs.declared.place.Place.{Place}
use Rattle.dcx_tokens.specs.declared.token.Keyword.{Keyword}
use Rattle.dcx_tokens.specs.declared.token.Keyword.TheVariants as words
use Rattle.dcx_tokens.specs.declared.token.Symbol.{Symbol}
use Rattle.dcx_tokens.specs.declared.token.Symbol.TheVariants as symbols
use Rattle.dcx_tokens.specs.declared.token.Token.{Token}
use Rattle.dcx_tokens.specs.declared.token.TokenKind.{TokenKind}
use Rattle.dcx_tokens.specs.declared.token.TokenKind.TheVariants as kind
use Rattle.dcx_syntax.specs.declared.bracket.Bracket.TheVariants.{Round, Square}
use Rattle.dcx_syntax.specs.declared.tree.Named.{Named}
use Rattle.dcx_syntax.specs.Terminal.{Terminal, closes, plain, name, for, in_word, comma, colon, newline, indent, dedent}
use Rattle.dcx_syntax.specs.Expressions.{
  Expr,
  expr,
  Compared,
  no_comparison,
  compared,
  Sum,
  sum,
  Added,
  no_addition,
  added,
  Term,
  term,
  Scaled,
  no_scaling,
  scaled,
  Factor,
  factor,
  Power,
  power_of,
  Raised,
  no_power,
  raised,
  Exponent,
  exponent,
  Postfix,
  postfix,
  Trailers,
  no_trailer,
  attribute,
  call,
  indexed,
  Args,
  no_args,
  args,
  MoreArgs,
  args_end,
  args_comma,
  more_args,
  Arg,
  by_place,
  by_name,
  Indices,
  no_index,
  more_indices,
  Index,
  at,
  slice,
  Optional,
  absent,
  present,
  Step,
  no_step,
  step,
  Primary,
  number_at,
  text_at,
  name_at,
  truth_at,
  none_at,
  unit,
  round,
  tuple,
  empty_list,
  list,
  comprehension,
  Items,
  no_items,
  items,
  MoreItems,
  items_end,
  items_comma,
  more_items,
  named,
  signs_text,
  expr_text,
  compared_text,
  sum_text,
  added_text,
  term_text,
  scaled_text,
  factor_text,
  power_text,
  postfix_text,
  raised_text,
  exponent_text,
  primary_text,
  trailers_text,
  args_text,
  more_args_text,
  arg_text,
  indices_text,
  index_text,
  optional_text,
  step_text,
  items_text,
  more_items_text,
}
use Rattle.dcx_syntax.specs.Statements.{Line, importing, assign, add_to, set_value, evaluate, prints, repeats, Lines, no_lines, lines, alias_text, line_text, lines_text, trimmed, trimmed_all}
use Rattle.dcx_read.specs.Role.{role_of, keyword_role_of, symbol_role_of}
use Rattle.dcx_read.specs.Terminals.{terminal, spelled, terminals}
use Rattle.dcx_script_laws.specs.Renamed.{
  named_renamed,
  expr_renamed,
  compared_renamed,
  sum_renamed,
  added_renamed,
  term_renamed,
  scaled_renamed,
  factor_renamed,
  power_renamed,
  raised_renamed,
  exponent_renamed,
  postfix_renamed,
  trailers_renamed,
  args_renamed,
  more_args_renamed,
  arg_renamed,
  indices_renamed,
  index_renamed,
  optional_renamed,
  step_renamed,
  primary_renamed,
  items_renamed,
  more_items_renamed,
  import_renamed,
  line_renamed,
  lines_renamed,
}
use Rattle.dcx_report.proofs.OneLine.{IsLine}
use Rattle.dcx_run_laws.proofs.Tokens.{IsLineIfName}

-- ---- terminals
-- a name that the grammar sees has no line feed
abbrev pub IsFine : Terminal → Type 0
IsFine (plain (name bytes place)) = IsLine bytes
IsFine _ = ⊤

abbrev pub AreFine : List Terminal → Type 0
AreFine us = AllByRecursion IsFine us

keyword_fine : (k : Keyword) (bytes : List ℕ) (place : Place) → IsFine (terminal (keyword_role_of k) bytes place)
keyword_fine words.Import bytes place = tt
keyword_fine words.As bytes place = tt
keyword_fine words.For bytes place = tt
keyword_fine words.In bytes place = tt
keyword_fine words.True bytes place = tt
keyword_fine words.False bytes place = tt
keyword_fine words.None bytes place = tt
keyword_fine words.Print bytes place = tt
keyword_fine words.Other bytes place = tt

symbol_fine : (s : Symbol) (bytes : List ℕ) (place : Place) → IsFine (terminal (symbol_role_of s) bytes place)
symbol_fine symbols.Plus bytes place = tt
symbol_fine symbols.Minus bytes place = tt
symbol_fine symbols.Star bytes place = tt
symbol_fine symbols.Slash bytes place = tt
symbol_fine symbols.At bytes place = tt
symbol_fine symbols.Percent bytes place = tt
symbol_fine symbols.StarStar bytes place = tt
symbol_fine symbols.SlashSlash bytes place = tt
symbol_fine symbols.Less bytes place = tt
symbol_fine symbols.Greater bytes place = tt
symbol_fine symbols.LessEqual bytes place = tt
symbol_fine symbols.GreaterEqual bytes place = tt
symbol_fine symbols.EqualEqual bytes place = tt
symbol_fine symbols.NotEqual bytes place = tt
symbol_fine symbols.Equal bytes place = tt
symbol_fine symbols.PlusEqual bytes place = tt
symbol_fine symbols.MinusEqual bytes place = tt
symbol_fine symbols.StarEqual bytes place = tt
symbol_fine symbols.SlashEqual bytes place = tt
symbol_fine symbols.OpenRound bytes place = tt
symbol_fine symbols.CloseRound bytes place = tt
symbol_fine symbols.OpenSquare bytes place = tt
symbol_fine symbols.CloseSquare bytes place = tt
symbol_fine symbols.OpenCurly bytes place = tt
symbol_fine symbols.CloseCurly bytes place = tt
symbol_fine symbols.Comma bytes place = tt
symbol_fine symbols.Colon bytes place = tt
symbol_fine symbols.Dot bytes place = tt
symbol_fine symbols.Semicolon bytes place = tt

kind_fine : (k : TokenKind) (bytes : List ℕ) (place : Place) → (k ≡ kind.Name → IsLine bytes) → IsFine (terminal (role_of k) bytes place)
kind_fine kind.Name bytes place h = h refl
kind_fine (kind.Keyword k) bytes place h = keyword_fine k bytes place
kind_fine (kind.Number n) bytes place h = tt
kind_fine kind.Text bytes place h = tt
kind_fine (kind.Sign s) bytes place h = symbol_fine s bytes place
kind_fine kind.Newline bytes place h = tt
kind_fine kind.Indent bytes place h = tt
kind_fine kind.Dedent bytes place h = tt

pub terminals_fine : (text : List ℕ) (utf8 : IsUtf8 text) (ts : List Token) → AllByRecursion (IsLineIfName text utf8) ts → AreFine (terminals text ts)
terminals_fine text utf8 [] h = tt
terminals_fine text utf8 (t ∷ ts) h = (kind_fine t.kind (spelled text t) t.place h.0, terminals_fine text utf8 ts h.1)

parts : (us vs : List Terminal) → AreFine (us ++ vs) → AreFine us × AreFine vs
parts [] vs h = (tt, h)
parts (u ∷ us) vs h = let rest = parts us vs h.1 in ((h.0, rest.0), rest.1)

-- ---- trees
module _ (rename : List ℕ → List ℕ) (keeps : (n : List ℕ) → IsLine n → rename n ≡ n) where
  named_same : (n : Named) → IsLine n.name → named_renamed rename n ≡ n
  named_same n h = ap (λ b. record n { name = b }) (keeps n.name h)

  mutual
    expr_same : (x : Expr) → AreFine (expr_text x) → expr_renamed rename x ≡ x
    expr_same (expr first rest) h = let p = parts (sum_text first) (compared_text rest) h in ap₂ expr (sum_same first p.0) (compared_same rest p.1)

    compared_same : (x : Compared) → AreFine (compared_text x) → compared_renamed rename x ≡ x
    compared_same no_comparison h = refl
    compared_same (compared c q x rest) h = let p = parts (sum_text x) (compared_text rest) h.1 in ap₂ (compared c q) (sum_same x p.0) (compared_same rest p.1)

    sum_same : (x : Sum) → AreFine (sum_text x) → sum_renamed rename x ≡ x
    sum_same (sum first rest) h = let p = parts (term_text first) (added_text rest) h in ap₂ sum (term_same first p.0) (added_same rest p.1)

    added_same : (x : Added) → AreFine (added_text x) → added_renamed rename x ≡ x
    added_same no_addition h = refl
    added_same (added s q x rest) h = let p = parts (term_text x) (added_text rest) h.1 in ap₂ (added s q) (term_same x p.0) (added_same rest p.1)

    term_same : (x : Term) → AreFine (term_text x) → term_renamed rename x ≡ x
    term_same (term first rest) h = let p = parts (factor_text first) (scaled_text rest) h in ap₂ term (factor_same first p.0) (scaled_same rest p.1)

    scaled_same : (x : Scaled) → AreFine (scaled_text x) → scaled_renamed rename x ≡ x
    scaled_same no_scaling h = refl
    scaled_same (scaled s q x rest) h = let p = parts (factor_text x) (scaled_text rest) h.1 in ap₂ (scaled s q) (factor_same x p.0) (scaled_same rest p.1)

    factor_same : (x : Factor) → AreFine (factor_text x) → factor_renamed rename x ≡ x
    factor_same (factor signs x) h = ap (factor signs) (power_same x (parts (signs_text signs) (power_text x) h).1)

    power_same : (x : Power) → AreFine (power_text x) → power_renamed rename x ≡ x
    power_same (power_of first rest) h = let p = parts (postfix_text first) (raised_text rest) h in ap₂ power_of (postfix_same first p.0) (raised_same rest p.1)

    raised_same : (x : Raised) → AreFine (raised_text x) → raised_renamed rename x ≡ x
    raised_same no_power h = refl
    raised_same (raised q x rest) h = let p = parts (exponent_text x) (raised_text rest) h.1 in ap₂ (raised q) (exponent_same x p.0) (raised_same rest p.1)

    exponent_same : (x : Exponent) → AreFine (exponent_text x) → exponent_renamed rename x ≡ x
    exponent_same (exponent signs x) h = ap (exponent signs) (postfix_same x (parts (signs_text signs) (postfix_text x) h).1)

    postfix_same : (x : Postfix) → AreFine (postfix_text x) → postfix_renamed rename x ≡ x
    postfix_same (postfix x trailers) h = let p = parts (primary_text x) (trailers_text trailers) h in ap₂ postfix (primary_same x p.0) (trailers_same trailers p.1)

    trailers_same : (x : Trailers) → AreFine (trailers_text x) → trailers_renamed rename x ≡ x
    trailers_same no_trailer h = refl
    trailers_same (attribute n rest) h = ap (attribute n) (trailers_same rest h.1.1)
    trailers_same (call q xs rest) h = let p = parts (args_text xs) (closes Round ∷ trailers_text rest) h.1 in ap₂ (call q) (args_same xs p.0) (trailers_same rest p.1.1)
    trailers_same (indexed q x xs rest) h =
        let p = parts (index_text x) (indices_text xs ++ closes Square ∷ trailers_text rest) h.1 in
        let r = parts (indices_text xs) (closes Square ∷ trailers_text rest) p.1 in
        let first = index_same x p.0 in
        let more = indices_same xs r.0 in
        let behind = trailers_same rest r.1.1 in
        λ i. indexed q (first i) (more i) (behind i)

    args_same : (x : Args) → AreFine (args_text x) → args_renamed rename x ≡ x
    args_same no_args h = refl
    args_same (args x rest) h = let p = parts (arg_text x) (more_args_text rest) h in ap₂ args (arg_same x p.0) (more_args_same rest p.1)

    more_args_same : (x : MoreArgs) → AreFine (more_args_text x) → more_args_renamed rename x ≡ x
    more_args_same args_end h = refl
    more_args_same args_comma h = refl
    more_args_same (more_args x rest) h = let p = parts (arg_text x) (more_args_text rest) h.1 in ap₂ more_args (arg_same x p.0) (more_args_same rest p.1)

    arg_same : (x : Arg) → AreFine (arg_text x) → arg_renamed rename x ≡ x
    arg_same (by_place x) h = ap by_place (expr_same x h)
    arg_same (by_name n x) h = ap (by_name n) (expr_same x h.1.1)

    indices_same : (x : Indices) → AreFine (indices_text x) → indices_renamed rename x ≡ x
    indices_same no_index h = refl
    indices_same (more_indices x rest) h = let p = parts (index_text x) (indices_text rest) h.1 in ap₂ more_indices (index_same x p.0) (indices_same rest p.1)

    index_same : (x : Index) → AreFine (index_text x) → index_renamed rename x ≡ x
    index_same (at x) h = ap at (expr_same x h)
    index_same (slice start stop by) h =
        let p = parts (optional_text start) (plain colon ∷ (optional_text stop ++ step_text by)) h in
        let q = parts (optional_text stop) (step_text by) p.1.1 in
        let from = optional_same start p.0 in
        let to = optional_same stop q.0 in
        let through = step_same by q.1 in
        λ i. slice (from i) (to i) (through i)

    optional_same : (x : Optional) → AreFine (optional_text x) → optional_renamed rename x ≡ x
    optional_same absent h = refl
    optional_same (present x) h = ap present (expr_same x h)

    step_same : (x : Step) → AreFine (step_text x) → step_renamed rename x ≡ x
    step_same no_step h = refl
    step_same (step x) h = ap step (optional_same x h.1)

    primary_same : (x : Primary) → AreFine (primary_text x) → primary_renamed rename x ≡ x
    primary_same (number_at n q) h = refl
    primary_same (text_at t q) h = refl
    primary_same (name_at n) h = ap name_at (named_same n h.0)
    primary_same (truth_at b q) h = refl
    primary_same (none_at q) h = refl
    primary_same (unit q) h = refl
    primary_same (round q x) h = ap (round q) (expr_same x (parts (expr_text x) (closes Round ∷ []) h.1).0)
    primary_same (tuple q x xs) h =
        let p = parts (expr_text x) (plain comma ∷ (items_text xs ++ closes Round ∷ [])) h.1 in
        ap₂ (tuple q) (expr_same x p.0) (items_same xs (parts (items_text xs) (closes Round ∷ []) p.1.1).0)
    primary_same (empty_list q) h = refl
    primary_same (list q x xs) h =
        let p = parts (expr_text x) (more_items_text xs ++ closes Square ∷ []) h.1 in
        ap₂ (list q) (expr_same x p.0) (more_items_same xs (parts (more_items_text xs) (closes Square ∷ []) p.1).0)
    primary_same (comprehension q x w n from) h =
        let p = parts (expr_text x) (plain (for w) ∷ named n ∷ plain in_word ∷ (expr_text from ++ closes Square ∷ [])) h.1 in
        let element = expr_same x p.0 in
        let called = named_same n p.1.1.0 in
        let source = expr_same from (parts (expr_text from) (closes Square ∷ []) p.1.1.1.1).0 in
        λ i. comprehension q (element i) w (called i) (source i)

    items_same : (x : Items) → AreFine (items_text x) → items_renamed rename x ≡ x
    items_same no_items h = refl
    items_same (items x rest) h = let p = parts (expr_text x) (more_items_text rest) h in ap₂ items (expr_same x p.0) (more_items_same rest p.1)

    more_items_same : (x : MoreItems) → AreFine (more_items_text x) → more_items_renamed rename x ≡ x
    more_items_same items_end h = refl
    more_items_same items_comma h = refl
    more_items_same (more_items x rest) h = let p = parts (expr_text x) (more_items_text rest) h.1 in ap₂ more_items (expr_same x p.0) (more_items_same rest p.1)

  alias_same : (o : Option Named) → AreFine (alias_text o) → option_map (named_renamed rename) o ≡ o
  alias_same None h = refl
  alias_same (Some n) h = ap (λ (m : Named). Some m) (named_same n h.1.0)

  mutual
    line_same : (x : Line) → AreFine (line_text x) → line_renamed rename (trimmed x) ≡ trimmed x
    line_same (importing i) h =
        ap (λ (o : Option Named). importing (record i { alias = o })) (alias_same i.alias (parts (alias_text i.alias) (plain newline ∷ []) h.1.1).0)
    line_same (assign n x) h = ap₂ assign (named_same n h.0) (expr_same x (parts (expr_text x) (plain newline ∷ []) h.1.1).0)
    line_same (add_to n q x) h =
        let called = named_same n h.0 in
        let value = expr_same x (parts (expr_text x) (plain newline ∷ []) h.1.1).0 in
        λ i. add_to (called i) q (value i)
    line_same (set_value n q x) h =
        let called = named_same n h.0 in
        let value = expr_same x (parts (expr_text x) (plain newline ∷ []) h.1.1.1.1).0 in
        λ i. set_value (called i) q (value i)
    line_same (evaluate x) h = ap evaluate (expr_same x (parts (expr_text x) (plain newline ∷ []) h).0)
    line_same (prints q w inner) h = refl
    line_same (repeats q n x first rest) h =
        let called = named_same n h.1.0 in
        let p = parts (expr_text x) (plain colon ∷ plain newline ∷ plain indent ∷ (line_text first ++ (lines_text rest ++ plain dedent ∷ []))) h.1.1.1 in
        let r = parts (line_text first) (lines_text rest ++ plain dedent ∷ []) p.1.1.1.1 in
        let source = expr_same x p.0 in
        let one = line_same first r.0 in
        let more = lines_same rest (parts (lines_text rest) (plain dedent ∷ []) r.1).0 in
        λ i. repeats q (called i) (source i) (one i) (more i)

    pub lines_same : (x : Lines) → AreFine (lines_text x) → lines_renamed rename (trimmed_all x) ≡ trimmed_all x
    lines_same no_lines h = refl
    lines_same (lines x rest) h = let p = parts (line_text x) (lines_text rest) h in ap₂ lines (line_same x p.0) (lines_same rest p.1)
