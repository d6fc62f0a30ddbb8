-- Which kinds of tokens may begin a tree of a symbol, and which may go on one.
use Rattle.std.proofs.Common.{◌≡◌, ℕ, Bool, true, false, cond, List, [], ◌∷◌, refl}
use Rattle.std.specs.Prelude.{nat_le}
use Rattle.dcx_syntax.specs.declared.bracket.Bracket.{Bracket}
use Rattle.dcx_syntax.specs.declared.bracket.Bracket.TheVariants.{Round, Square, Curly}
use Rattle.dcx_syntax.specs.Terminal.{Plain, Terminal, opens, closes, plain, name, number, text, truth, none, compares, signs, scales, power}
use Rattle.dcx_syntax.specs.Terminal.{plus_equal, import, for, print, as_word, in_word, dot, comma, colon, equal, newline, indent, dedent, other}
use Rattle.dcx_read.specs.Moves.{Symbol, trees}
use Rattle.dcx_read.specs.Moves as symbols
use Rattle.dcx_read.proofs.Complete.{Sets}
use Rattle.dcx_read.proofs.Steps.{both-left, both-right}

pub data Kind : Type 0 where
  opens_round : Kind
  opens_square : Kind
  opens_curly : Kind
  closes_round : Kind
  closes_square : Kind
  closes_curly : Kind
  a_name : Kind
  a_value : Kind
  a_comparison : Kind
  a_sign : Kind
  a_scaling : Kind
  a_power : Kind
  a_plus_equal : Kind
  an_import : Kind
  a_for : Kind
  a_print : Kind
  an_as : Kind
  an_in : Kind
  a_dot : Kind
  a_comma : Kind
  a_colon : Kind
  an_equal : Kind
  a_newline : Kind
  an_indent : Kind
  a_dedent : Kind
  another : Kind

abbrev pub opens_kind : Bracket → Kind
opens_kind Round = opens_round
opens_kind Square = opens_square
opens_kind Curly = opens_curly

abbrev pub closes_kind : Bracket → Kind
closes_kind Round = closes_round
closes_kind Square = closes_square
closes_kind Curly = closes_curly

abbrev pub plain_kind : Plain → Kind
plain_kind (name bytes p) = a_name
plain_kind (number n p) = a_value
plain_kind (text bytes p) = a_value
plain_kind (truth b p) = a_value
plain_kind (none p) = a_value
plain_kind (compares c p) = a_comparison
plain_kind (signs s p) = a_sign
plain_kind (scales s p) = a_scaling
plain_kind (power p) = a_power
plain_kind (plus_equal p) = a_plus_equal
plain_kind (import p) = an_import
plain_kind (for p) = a_for
plain_kind (print p) = a_print
plain_kind as_word = an_as
plain_kind in_word = an_in
plain_kind dot = a_dot
plain_kind comma = a_comma
plain_kind colon = a_colon
plain_kind equal = an_equal
plain_kind newline = a_newline
plain_kind indent = an_indent
plain_kind dedent = a_dedent
plain_kind other = another

abbrev pub kind_of : Terminal → Kind
kind_of (opens b p) = opens_kind b
kind_of (closes b) = closes_kind b
kind_of (plain t) = plain_kind t

-- Kinds in an order in which those of each level and of those below it go on some tree, and no others do.
abbrev pub level : Kind → ℕ
level opens_round = 1
level opens_square = 1
level opens_curly = 12
level closes_round = 14
level closes_square = 14
level closes_curly = 14
level a_name = 6
level a_value = 6
level a_comparison = 5
level a_sign = 4
level a_scaling = 3
level a_power = 2
level a_plus_equal = 7
level an_import = 12
level a_for = 12
level a_print = 12
level an_as = 10
level an_in = 12
level a_dot = 1
level a_comma = 9
level a_colon = 8
level an_equal = 7
level a_newline = 11
level an_indent = 12
level a_dedent = 13
level another = 12

abbrev pub up_to : ℕ → Kind → Bool
up_to n k = nat_le (level k) n

-- a token that is no bracket is below the closing brackets
pub plain-level : (t : Plain) → up_to 13 (plain_kind t) ≡ true
plain-level (name bytes p) = refl
plain-level (number n p) = refl
plain-level (text bytes p) = refl
plain-level (truth b p) = refl
plain-level (none p) = refl
plain-level (compares c p) = refl
plain-level (signs s p) = refl
plain-level (scales s p) = refl
plain-level (power p) = refl
plain-level (plus_equal p) = refl
plain-level (import p) = refl
plain-level (for p) = refl
plain-level (print p) = refl
plain-level as_word = refl
plain-level in_word = refl
plain-level dot = refl
plain-level comma = refl
plain-level colon = refl
plain-level equal = refl
plain-level newline = refl
plain-level indent = refl
plain-level dedent = refl
plain-level other = refl

-- the kinds that may begin an expression
abbrev pub starts : Kind → Bool
starts a_name = true
starts a_value = true
starts a_sign = true
starts opens_round = true
starts opens_square = true
starts k = false

abbrev pub either : (Kind → Bool) → (Kind → Bool) → Kind → Bool
either P Q k = cond (P k) true (Q k)

abbrev pub is_a_name : Kind → Bool
is_a_name a_name = true
is_a_name k = false

abbrev pub is_opens_round : Kind → Bool
is_opens_round opens_round = true
is_opens_round k = false

abbrev pub is_a_colon : Kind → Bool
is_a_colon a_colon = true
is_a_colon k = false

abbrev pub is_an_in : Kind → Bool
is_an_in an_in = true
is_an_in k = false

abbrev pub is_a_newline : Kind → Bool
is_a_newline a_newline = true
is_a_newline k = false

abbrev pub is_an_indent : Kind → Bool
is_an_indent an_indent = true
is_an_indent k = false

abbrev pub is_a_dedent : Kind → Bool
is_a_dedent a_dedent = true
is_a_dedent k = false

abbrev pub is_an_as : Kind → Bool
is_an_as an_as = true
is_an_as k = false

abbrev pub is_a_comma : Kind → Bool
is_a_comma a_comma = true
is_a_comma k = false

abbrev pub is_a_comparison : Kind → Bool
is_a_comparison a_comparison = true
is_a_comparison k = false

abbrev pub is_a_sign : Kind → Bool
is_a_sign a_sign = true
is_a_sign k = false

abbrev pub is_a_scaling : Kind → Bool
is_a_scaling a_scaling = true
is_a_scaling k = false

abbrev pub is_a_power : Kind → Bool
is_a_power a_power = true
is_a_power k = false

abbrev pub is_closes_round : Kind → Bool
is_closes_round closes_round = true
is_closes_round k = false

abbrev pub is_closes_square : Kind → Bool
is_closes_square closes_square = true
is_closes_square k = false

abbrev pub is_closes_curly : Kind → Bool
is_closes_curly closes_curly = true
is_closes_curly k = false

abbrev pub closes_only : Bracket → Kind → Bool
closes_only Round = is_closes_round
closes_only Square = is_closes_square
closes_only Curly = is_closes_curly

abbrev pub line_words : Kind → Bool
line_words an_import = true
line_words a_for = true
line_words a_print = true
line_words k = false

abbrev pub for_only : Kind → Bool
for_only a_for = true
for_only k = false

abbrev pub nothing_on : Kind → Bool
nothing_on k = false

abbrev pub begins : Symbol → Kind → Bool
begins symbols.expr_s = starts
begins symbols.compared_s = is_a_comparison
begins symbols.sum_s = starts
begins symbols.added_s = is_a_sign
begins symbols.term_s = starts
begins symbols.scaled_s = is_a_scaling
begins symbols.factor_s = starts
begins symbols.power_s = starts
begins symbols.raised_s = is_a_power
begins symbols.exponent_s = starts
begins symbols.postfix_s = starts
begins symbols.trailers_s = up_to 1
begins symbols.args_s = starts
begins symbols.more_args_s = is_a_comma
begins symbols.arg_s = starts
begins symbols.after_name_s = up_to 7
begins symbols.rest_s = up_to 5
begins symbols.indices_s = is_a_comma
begins symbols.index_s = either starts is_a_colon
begins symbols.after_index_s = is_a_colon
begins symbols.optional_s = starts
begins symbols.step_s = is_a_colon
begins symbols.primary_s = starts
begins symbols.in_round_s = either starts is_closes_round
begins symbols.after_round_s = either is_a_comma is_closes_round
begins symbols.in_square_s = either starts is_closes_square
begins symbols.after_square_s = either for_only (either is_a_comma is_closes_square)
begins symbols.items_s = starts
begins symbols.more_items_s = is_a_comma
begins symbols.name_s = is_a_name
begins symbols.opens_s = is_opens_round
begins (symbols.closes_s b) = closes_only b
begins symbols.colon_s = is_a_colon
begins symbols.in_s = is_an_in
begins symbols.newline_s = is_a_newline
begins symbols.indent_s = is_an_indent
begins symbols.dedent_s = is_a_dedent
begins symbols.module_s = is_a_name
begins symbols.alias_s = is_an_as
begins symbols.balanced_s = up_to 13
begins symbols.after_first_s = up_to 7
begins symbols.after_dot_s = is_a_name
begins symbols.line_s = either starts line_words
begins symbols.lines_s = either starts line_words

abbrev pub on : Symbol → Kind → Bool
on symbols.expr_s = up_to 5
on symbols.compared_s = up_to 5
on symbols.sum_s = up_to 4
on symbols.added_s = up_to 4
on symbols.term_s = up_to 3
on symbols.scaled_s = up_to 3
on symbols.factor_s = up_to 2
on symbols.power_s = up_to 2
on symbols.raised_s = up_to 2
on symbols.exponent_s = up_to 1
on symbols.postfix_s = up_to 1
on symbols.trailers_s = up_to 1
on symbols.args_s = up_to 9
on symbols.more_args_s = up_to 9
on symbols.arg_s = up_to 7
on symbols.after_name_s = up_to 7
on symbols.rest_s = up_to 5
on symbols.indices_s = up_to 9
on symbols.index_s = up_to 8
on symbols.after_index_s = up_to 8
on symbols.optional_s = up_to 6
on symbols.step_s = up_to 8
on symbols.items_s = up_to 9
on symbols.more_items_s = up_to 9
on symbols.alias_s = up_to 10
on symbols.balanced_s = up_to 13
on symbols.after_first_s = up_to 7
on symbols.after_dot_s = up_to 7
on symbols.lines_s = up_to 12
on s = nothing_on

abbrev kinds : List Kind
kinds = opens_round ∷ opens_square ∷ opens_curly ∷ closes_round ∷ closes_square ∷ closes_curly ∷ a_name ∷ a_value ∷ a_comparison ∷ a_sign ∷ a_scaling ∷ a_power ∷ a_plus_equal
    ∷ an_import ∷ a_for ∷ a_print ∷ an_as ∷ an_in ∷ a_dot ∷ a_comma ∷ a_colon ∷ an_equal ∷ a_newline ∷ an_indent ∷ a_dedent ∷ another ∷ []

abbrev pub all_in : List Kind → (Kind → Bool) → Bool
all_in [] P = true
all_in (k ∷ ks) P = cond (P k) (all_in ks P) false

abbrev pub all : (Kind → Bool) → Bool
all P = all_in kinds P

-- the same test, folded
unfoldable tested : List Kind → (Kind → Bool) → Bool
tested ks P = all_in ks P

first : (P : Kind → Bool) (k : Kind) (ks : List Kind) → tested (k ∷ ks) P ≡ true → P k ≡ true
unfolding tested
first P k ks h = both-left (P k) (all_in ks P) h

others : (P : Kind → Bool) (k : Kind) (ks : List Kind) → tested (k ∷ ks) P ≡ true → tested ks P ≡ true
unfolding tested
others P k ks h = both-right (P k) (all_in ks P) h

every_tested : (P : Kind → Bool) → tested kinds P ≡ true → (k : Kind) → P k ≡ true
every_tested P h0 k =
    let h1 = others P _ _ h0 in
    let h2 = others P _ _ h1 in
    let h3 = others P _ _ h2 in
    let h4 = others P _ _ h3 in
    let h5 = others P _ _ h4 in
    let h6 = others P _ _ h5 in
    let h7 = others P _ _ h6 in
    let h8 = others P _ _ h7 in
    let h9 = others P _ _ h8 in
    let h10 = others P _ _ h9 in
    let h11 = others P _ _ h10 in
    let h12 = others P _ _ h11 in
    let h13 = others P _ _ h12 in
    let h14 = others P _ _ h13 in
    let h15 = others P _ _ h14 in
    let h16 = others P _ _ h15 in
    let h17 = others P _ _ h16 in
    let h18 = others P _ _ h17 in
    let h19 = others P _ _ h18 in
    let h20 = others P _ _ h19 in
    let h21 = others P _ _ h20 in
    let h22 = others P _ _ h21 in
    let h23 = others P _ _ h22 in
    let h24 = others P _ _ h23 in
    let h25 = others P _ _ h24 in
    elim k as (λ (k : Kind). P k ≡ true) [
      | opens_round ↦ first P _ _ h0
      | opens_square ↦ first P _ _ h1
      | opens_curly ↦ first P _ _ h2
      | closes_round ↦ first P _ _ h3
      | closes_square ↦ first P _ _ h4
      | closes_curly ↦ first P _ _ h5
      | a_name ↦ first P _ _ h6
      | a_value ↦ first P _ _ h7
      | a_comparison ↦ first P _ _ h8
      | a_sign ↦ first P _
          _ h9
      | a_scaling ↦ first P _ _ h10
      | a_power ↦ first P _ _ h11
      | a_plus_equal ↦ first P _ _ h12
      | an_import ↦ first P _ _ h13
      | a_for ↦ first P _ _ h14
      | a_print ↦
          first P _ _ h15
      | an_as ↦ first P _ _ h16
      | an_in ↦ first P _ _ h17
      | a_dot ↦ first P _ _ h18
      | a_comma ↦ first P _ _ h19
      | a_colon ↦ first P _ _ h20
      | an_equal ↦ first
          P _ _ h21
      | a_newline ↦ first P _ _ h22
      | an_indent ↦ first P _ _ h23
      | a_dedent ↦ first P _ _ h24
      | another ↦ first P _ _ h25
    ]

pub every : (P : Kind → Bool) → all P ≡ true → (k : Kind) → P k ≡ true
unfolding tested
every P h k = every_tested P h k

abbrev pub sets : Sets trees
sets = record { Kind = Kind; kind = kind_of; on = on; begins = begins; all = all; every = every }
