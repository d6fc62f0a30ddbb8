-- Each move keeps how trees are spelled, and what comes after stays clear.
use Rattle.std.proofs.Common.{◌≡◌, ℕ, Bool, true, false, List, [], ◌∷◌, ◌++◌, Option, Some, None, refl, sym, ap, ◌∙◌, append_assoc}
use Rattle.std.proofs.lemmas.List.{append-nil}
use Rattle.std.specs.Prelude.{codes, bytes_eq, if◌then◌else◌}
use Rattle.std.proofs.lemmas.Slice.Eq.{bytes_eq-Decides}
use Rattle.dcx_shape.specs.declared.place.Place.{Place}
use Rattle.dcx_syntax.specs.declared.tree.Module.{Module}
use Rattle.dcx_syntax.specs.declared.tree.Module.TheVariants.{Cvxpy, Numpy}
use Rattle.dcx_syntax.specs.declared.tree.Named.{Named}
use Rattle.dcx_syntax.specs.declared.tree.Signed.{Signed}
use Rattle.dcx_syntax.specs.declared.bracket.Bracket.{Bracket}
use Rattle.dcx_syntax.specs.declared.bracket.Bracket.TheVariants.{Round, Square, Curly}
use Rattle.dcx_syntax.specs.Terminal.{Terminal, opens, closes, plain, name, number, text, truth, none, compares, signs, scales, power}
use Rattle.dcx_syntax.specs.Terminal.{plus_equal, import, for, print, as_word, in_word, dot, comma, colon, equal, newline, indent, dedent}
use Rattle.dcx_syntax.specs.Expressions.{named, expr_text, factor, Factor, factor_text, exponent, Exponent, exponent_text, arg_text, no_args, args, Args}
use Rattle.dcx_syntax.specs.Expressions.{args_text, more_args_text, no_items, items, Items, items_text, more_items_text, primary_text, index_text, Expr}
use Rattle.dcx_syntax.specs.Statements.{module_bytes, line_text}
use Rattle.dcx_read.specs.Words.{module_named, is_value_word}
use Rattle.dcx_read.specs.Reading.{Forest, leading}
use Rattle.dcx_read.specs.Moves.{Symbol, expr_s, compared_s, sum_s, added_s, term_s, scaled_s, factor_s, power_s, raised_s, exponent_s, postfix_s, trailers_s, args_s, more_args_s}
use Rattle.dcx_read.specs.Moves.{arg_s, after_name_s, rest_s, indices_s, index_s, after_index_s, optional_s, step_s, primary_s, in_round_s, after_round_s, in_square_s}
use Rattle.dcx_read.specs.Moves.{after_square_s, items_s, more_items_s, name_s, opens_s, closes_s, colon_s, in_s, newline_s, indent_s, dedent_s, module_s, alias_s, balanced_s}
use Rattle.dcx_read.specs.Moves.{after_first_s, after_dot_s, line_s, lines_s, Tree, trees, grammar, primary_move, postfix_move, as_round, as_square, signed_factor, signed_exponent}
use Rattle.dcx_read.specs.Moves as moves
use Rattle.dcx_read.proofs.Sound.{spelling}
use Rattle.dcx_read.proofs.Complete.{IsRight, Right}
use Rattle.dcx_read.proofs.Steps.{check, cleared, leading-right, otherwise-right}
use Rattle.dcx_read.proofs.TokenSets.{kind_of, plain-level, begins, sets}
use Rattle.dcx_read.proofs.Text as texts

shift-right : (s : Symbol) (t : Terminal) (parts : List Symbol) (make : (ss : List Symbol) → Forest trees (parts ++ ss) → Forest trees (s ∷ ss))
    → begins s (kind_of t) ≡ true → check grammar sets s parts ≡ true
    → ((ss : List Symbol) (f : Forest trees (parts ++ ss)) → spelling trees texts.text (s ∷ ss) (make ss f) ≡ t ∷ spelling trees texts.text (parts ++ ss) f)
    → IsRight grammar texts.text sets s t (λ ss. parts ++ ss) make
shift-right s t parts make b c e = record { spells = e; begun = b; keeps = λ ss d. cleared grammar sets s parts ss c d }

abbrev RightAt : Symbol → Terminal → Type 0
RightAt s t = Right grammar texts.text sets s t (moves.move s t)

as_round-text : (p : Place) (x : moves.InRound) → primary_text (as_round p x) ≡ opens Round p ∷ texts.in_round_text x
as_round-text p moves.round_empty = refl
as_round-text p (moves.round_holds x moves.round_closed) = refl
as_round-text p (moves.round_holds x (moves.round_goes_on xs)) = refl

as_square-text : (p : Place) (x : moves.InSquare) → primary_text (as_square p x) ≡ opens Square p ∷ texts.in_square_text x
as_square-text p moves.square_empty = refl
as_square-text p (moves.square_holds x (moves.square_lists xs)) = refl
as_square-text p (moves.square_holds x (moves.square_for q n from)) = refl

primary-right : (t : Terminal) → RightAt primary_s t
primary-right (plain (number n p)) = shift-right primary_s _ [] _ refl refl (λ ss f. refl)
primary-right (plain (text bytes p)) = shift-right primary_s _ [] _ refl refl (λ ss f. refl)
primary-right (plain (name bytes p)) = shift-right primary_s _ [] _ refl refl (λ ss f. refl)
primary-right (plain (truth b p)) = shift-right primary_s _ [] _ refl refl (λ ss f. refl)
primary-right (plain (none p)) = shift-right primary_s _ [] _ refl refl (λ ss f. refl)
primary-right (opens Round p) = shift-right primary_s _ (in_round_s ∷ []) _ refl refl (λ ss f. ap (λ (y : List Terminal). y ++ spelling trees texts.text ss f.1) (as_round-text p f.0))
primary-right (opens Square p) = shift-right primary_s _ (in_square_s ∷ []) _ refl refl (λ ss f. ap (λ (y : List Terminal). y ++ spelling trees texts.text ss f.1) (as_square-text p f.0))
primary-right t = tt

postfix-right : (t : Terminal) → RightAt postfix_s t
postfix-right t = leading-right grammar texts.text sets primary_s postfix_s (trailers_s ∷ []) moves.postfix_join refl refl
    (λ ss f. append_assoc (texts.text primary_s f.0) (texts.text trailers_s f.1.0) (spelling trees texts.text ss f.1.1)) t (moves.primary_move t) (primary-right t)

power-right : (t : Terminal) → RightAt power_s t
power-right t = leading-right grammar texts.text sets postfix_s power_s (raised_s ∷ []) moves.power_join refl refl
    (λ ss f. append_assoc (texts.text postfix_s f.0) (texts.text raised_s f.1.0) (spelling trees texts.text ss f.1.1)) t (moves.postfix_move t) (postfix-right t)

signed_factor-text : (s : Signed) (x : Factor) → factor_text (signed_factor s x) ≡ plain (signs s.sign s.place) ∷ factor_text x
signed_factor-text s (factor ss x) = refl

signed_exponent-text : (s : Signed) (x : Exponent) → exponent_text (signed_exponent s x) ≡ plain (signs s.sign s.place) ∷ exponent_text x
signed_exponent-text s (exponent ss x) = refl

factor-lead : (t : Terminal) → Right grammar texts.text sets factor_s t (leading trees power_s factor_s (λ ss. ss) moves.factor_join (moves.power_move t))
factor-lead t = leading-right grammar texts.text sets power_s factor_s ([]) moves.factor_join refl refl (λ ss f. refl) t (moves.power_move t) (power-right t)

factor-right : (t : Terminal) → RightAt factor_s t
factor-right (plain (signs s p)) = shift-right factor_s _ (factor_s ∷ []) _ refl refl
    (λ ss f. ap (λ (y : List Terminal). y ++ spelling trees texts.text ss f.1) (signed_factor-text (record { sign = s; place = p }) f.0))
factor-right t = factor-lead t

exponent-lead : (t : Terminal) → Right grammar texts.text sets exponent_s t (leading trees postfix_s exponent_s (λ ss. ss) moves.exponent_join (moves.postfix_move t))
exponent-lead t = leading-right grammar texts.text sets postfix_s exponent_s ([]) moves.exponent_join refl refl (λ ss f. refl) t (moves.postfix_move t) (postfix-right t)

exponent-right : (t : Terminal) → RightAt exponent_s t
exponent-right (plain (signs s p)) = shift-right exponent_s _ (exponent_s ∷ []) _ refl refl
    (λ ss f. ap (λ (y : List Terminal). y ++ spelling trees texts.text ss f.1) (signed_exponent-text (record { sign = s; place = p }) f.0))
exponent-right t = exponent-lead t

term-right : (t : Terminal) → RightAt term_s t
term-right t = leading-right grammar texts.text sets factor_s term_s (scaled_s ∷ []) moves.term_join refl refl
    (λ ss f. append_assoc (texts.text factor_s f.0) (texts.text scaled_s f.1.0) (spelling trees texts.text ss f.1.1)) t (moves.factor_move t) (factor-right t)

sum-right : (t : Terminal) → RightAt sum_s t
sum-right t = leading-right grammar texts.text sets term_s sum_s (added_s ∷ []) moves.sum_join refl refl
    (λ ss f. append_assoc (texts.text term_s f.0) (texts.text added_s f.1.0) (spelling trees texts.text ss f.1.1)) t (moves.term_move t) (term-right t)

expr-right : (t : Terminal) → RightAt expr_s t
expr-right t = leading-right grammar texts.text sets sum_s expr_s (compared_s ∷ []) moves.expr_join refl refl
    (λ ss f. append_assoc (texts.text sum_s f.0) (texts.text compared_s f.1.0) (spelling trees texts.text ss f.1.1)) t (moves.sum_move t) (sum-right t)

compared-right : (t : Terminal) → RightAt compared_s t
compared-right (plain (compares c p)) = shift-right compared_s _ (sum_s ∷ compared_s ∷ []) _ refl refl (λ ss f. simp append_assoc refl)
compared-right t = tt

added-right : (t : Terminal) → RightAt added_s t
added-right (plain (signs s p)) = shift-right added_s _ (term_s ∷ added_s ∷ []) _ refl refl (λ ss f. simp append_assoc refl)
added-right t = tt

scaled-right : (t : Terminal) → RightAt scaled_s t
scaled-right (plain (scales s p)) = shift-right scaled_s _ (factor_s ∷ scaled_s ∷ []) _ refl refl (λ ss f. simp append_assoc refl)
scaled-right t = tt

raised-right : (t : Terminal) → RightAt raised_s t
raised-right (plain (power p)) = shift-right raised_s _ (exponent_s ∷ raised_s ∷ []) _ refl refl (λ ss f. simp append_assoc refl)
raised-right t = tt

trailers-right : (t : Terminal) → RightAt trailers_s t
trailers-right (plain dot) = shift-right trailers_s _ (name_s ∷ trailers_s ∷ []) _ refl refl (λ ss f. refl)
trailers-right (opens Round p) = shift-right trailers_s _ (args_s ∷ closes_s Round ∷ trailers_s ∷ []) _ refl refl (λ ss f. simp append_assoc refl)
trailers-right (opens Square p) = shift-right trailers_s _ (index_s ∷ indices_s ∷ closes_s Square ∷ trailers_s ∷ []) _ refl refl (λ ss f. simp append_assoc refl)
trailers-right t = tt

rest-right : (t : Terminal) → RightAt rest_s t
rest-right t = otherwise-right grammar texts.text sets rest_s t _ _
    (leading-right grammar texts.text sets trailers_s rest_s (raised_s ∷ scaled_s ∷ added_s ∷ compared_s ∷ []) moves.rest_trailers refl refl (λ ss f. simp append_assoc refl) t
    (moves.trailers_move t) (trailers-right t))
    (otherwise-right grammar texts.text sets rest_s t _ _
    (leading-right grammar texts.text sets raised_s rest_s (scaled_s ∷ added_s ∷ compared_s ∷ []) moves.rest_raised refl refl (λ ss f. simp append_assoc refl) t (moves.raised_move t) (raised-right t))
    (otherwise-right grammar texts.text sets rest_s t _ _
    (leading-right grammar texts.text sets scaled_s rest_s (added_s ∷ compared_s ∷ []) moves.rest_scaled refl refl (λ ss f. simp append_assoc refl) t (moves.scaled_move t) (scaled-right t))
    (otherwise-right grammar texts.text sets rest_s t _ _
    (leading-right grammar texts.text sets added_s rest_s (compared_s ∷ []) moves.rest_added refl refl (λ ss f. simp append_assoc refl) t (moves.added_move t) (added-right t))
    ((leading-right grammar texts.text sets compared_s rest_s ([]) moves.rest_compared refl refl (λ ss f. refl) t (moves.compared_move t) (compared-right t))))))

from_name-text : (n : Named) (r : moves.Rest) → expr_text (moves.from_name n r) ≡ named n ∷ texts.rest_text r
from_name-text n r = simp append_assoc refl

as_arg-text : (n : Named) (x : moves.AfterName) → arg_text (moves.as_arg n x) ≡ named n ∷ texts.after_name_text x
as_arg-text n (moves.gets x) = refl
as_arg-text n (moves.goes_on r) = from_name-text n r

args_behind-text : (x : Args) → more_args_text (moves.args_behind x) ≡ plain comma ∷ args_text x
args_behind-text no_args = refl
args_behind-text (args x r) = refl

items_behind-text : (x : Items) → more_items_text (moves.items_behind x) ≡ plain comma ∷ items_text x
items_behind-text no_items = refl
items_behind-text (items x r) = refl

as_index-text : (x : Expr) (a : moves.AfterIndex) → index_text (moves.as_index x a) ≡ expr_text x ++ texts.after_index_text a
as_index-text x moves.no_slice = sym (append-nil (expr_text x))
as_index-text x (moves.slices stop by) = refl

after_name-lead : (t : Terminal) → Right grammar texts.text sets after_name_s t (leading trees rest_s after_name_s (λ ss. ss) moves.after_name_join (moves.rest_move t))
after_name-lead t = leading-right grammar texts.text sets rest_s after_name_s ([]) moves.after_name_join refl refl (λ ss f. refl) t (moves.rest_move t) (rest-right t)

after_name-right : (t : Terminal) → RightAt after_name_s t
after_name-right (plain equal) = shift-right after_name_s _ (expr_s ∷ []) _ refl refl (λ ss f. refl)
after_name-right t = after_name-lead t

arg-lead : (t : Terminal) → Right grammar texts.text sets arg_s t (leading trees expr_s arg_s (λ ss. ss) moves.arg_join (moves.expr_move t))
arg-lead t = leading-right grammar texts.text sets expr_s arg_s ([]) moves.arg_join refl refl (λ ss f. refl) t (moves.expr_move t) (expr-right t)

arg-right : (t : Terminal) → RightAt arg_s t
arg-right (plain (name bytes p)) = shift-right arg_s _ (after_name_s ∷ []) _ refl refl
    (λ ss f. ap (λ (y : List Terminal). y ++ spelling trees texts.text ss f.1) (as_arg-text (record { name = bytes; place = p }) f.0))
arg-right t = arg-lead t

args-right : (t : Terminal) → RightAt args_s t
args-right t = leading-right grammar texts.text sets arg_s args_s (more_args_s ∷ []) moves.args_join refl refl
    (λ ss f. append_assoc (texts.text arg_s f.0) (texts.text more_args_s f.1.0) (spelling trees texts.text ss f.1.1)) t (moves.arg_move t) (arg-right t)

more_args-right : (t : Terminal) → RightAt more_args_s t
more_args-right (plain comma) = shift-right more_args_s _ (args_s ∷ []) _ refl refl (λ ss f. ap (λ (y : List Terminal). y ++ spelling trees texts.text ss f.1) (args_behind-text f.0))
more_args-right t = tt

optional-right : (t : Terminal) → RightAt optional_s t
optional-right t = leading-right grammar texts.text sets expr_s optional_s ([]) moves.optional_join refl refl (λ ss f. refl) t (moves.expr_move t) (expr-right t)

step-right : (t : Terminal) → RightAt step_s t
step-right (plain colon) = shift-right step_s _ (optional_s ∷ []) _ refl refl (λ ss f. refl)
step-right t = tt

after_index-right : (t : Terminal) → RightAt after_index_s t
after_index-right (plain colon) = shift-right after_index_s _ (optional_s ∷ step_s ∷ []) _ refl refl (λ ss f. simp append_assoc refl)
after_index-right t = tt

index-lead : (t : Terminal) → Right grammar texts.text sets index_s t (leading trees expr_s index_s (λ ss. after_index_s ∷ ss) moves.index_join (moves.expr_move t))
index-lead t = leading-right grammar texts.text sets expr_s index_s (after_index_s ∷ []) moves.index_join refl refl
    (λ ss f. ap (λ (y : List Terminal). y ++ spelling trees texts.text ss f.1.1) (as_index-text f.0 f.1.0)
    ∙ append_assoc (expr_text f.0) (texts.after_index_text f.1.0) (spelling trees texts.text ss f.1.1)) t (moves.expr_move t) (expr-right t)

index-right : (t : Terminal) → RightAt index_s t
index-right (plain colon) = shift-right index_s _ (optional_s ∷ step_s ∷ []) _ refl refl (λ ss f. simp append_assoc refl)
index-right t = index-lead t

indices-right : (t : Terminal) → RightAt indices_s t
indices-right (plain comma) = shift-right indices_s _ (index_s ∷ indices_s ∷ []) _ refl refl (λ ss f. simp append_assoc refl)
indices-right t = tt

items-right : (t : Terminal) → RightAt items_s t
items-right t = leading-right grammar texts.text sets expr_s items_s (more_items_s ∷ []) moves.items_join refl refl
    (λ ss f. append_assoc (texts.text expr_s f.0) (texts.text more_items_s f.1.0) (spelling trees texts.text ss f.1.1)) t (moves.expr_move t) (expr-right t)

more_items-right : (t : Terminal) → RightAt more_items_s t
more_items-right (plain comma) = shift-right more_items_s _ (items_s ∷ []) _ refl refl (λ ss f. ap (λ (y : List Terminal). y ++ spelling trees texts.text ss f.1) (items_behind-text f.0))
more_items-right t = tt

after_round-right : (t : Terminal) → RightAt after_round_s t
after_round-right (closes Round) = shift-right after_round_s _ ([]) _ refl refl (λ ss f. refl)
after_round-right (plain comma) = shift-right after_round_s _ (items_s ∷ closes_s Round ∷ []) _ refl refl (λ ss f. simp append_assoc refl)
after_round-right t = tt

in_round-lead : (t : Terminal) → Right grammar texts.text sets in_round_s t (leading trees expr_s in_round_s (λ ss. after_round_s ∷ ss) moves.in_round_join (moves.expr_move t))
in_round-lead t = leading-right grammar texts.text sets expr_s in_round_s (after_round_s ∷ []) moves.in_round_join refl refl
    (λ ss f. append_assoc (texts.text expr_s f.0) (texts.text after_round_s f.1.0) (spelling trees texts.text ss f.1.1)) t (moves.expr_move t) (expr-right t)

in_round-right : (t : Terminal) → RightAt in_round_s t
in_round-right (closes Round) = shift-right in_round_s _ ([]) _ refl refl (λ ss f. refl)
in_round-right t = in_round-lead t

after_square-right : (t : Terminal) → RightAt after_square_s t
after_square-right (closes Square) = shift-right after_square_s _ ([]) _ refl refl (λ ss f. refl)
after_square-right (plain comma) = shift-right after_square_s _ (items_s ∷ closes_s Square ∷ []) _ refl refl
    (λ ss f. ap (λ (y : List Terminal). (y ++ closes Square ∷ []) ++ spelling trees texts.text ss f.1.1) (items_behind-text f.0) ∙ simp append_assoc refl)
after_square-right (plain (for p)) = shift-right after_square_s _ (name_s ∷ in_s ∷ expr_s ∷ closes_s Square ∷ []) _ refl refl (λ ss f. simp append_assoc refl)
after_square-right t = tt

in_square-lead : (t : Terminal) → Right grammar texts.text sets in_square_s t (leading trees expr_s in_square_s (λ ss. after_square_s ∷ ss) moves.in_square_join (moves.expr_move t))
in_square-lead t = leading-right grammar texts.text sets expr_s in_square_s (after_square_s ∷ []) moves.in_square_join refl refl
    (λ ss f. append_assoc (texts.text expr_s f.0) (texts.text after_square_s f.1.0) (spelling trees texts.text ss f.1.1)) t (moves.expr_move t) (expr-right t)

in_square-right : (t : Terminal) → RightAt in_square_s t
in_square-right (closes Square) = shift-right in_square_s _ ([]) _ refl refl (λ ss f. refl)
in_square-right t = in_square-lead t

name-right : (t : Terminal) → RightAt name_s t
name-right (plain (name bytes p)) = shift-right name_s _ ([]) _ refl refl (λ ss f. refl)
name-right t = tt

opens-right : (t : Terminal) → RightAt opens_s t
opens-right (opens Round p) = shift-right opens_s _ ([]) _ refl refl (λ ss f. refl)
opens-right t = tt

closes-right : (b : Bracket) (t : Terminal) → RightAt (closes_s b) t
closes-right Round (closes Round) = shift-right (closes_s Round) _ [] _ refl refl (λ ss f. refl)
closes-right Square (closes Square) = shift-right (closes_s Square) _ [] _ refl refl (λ ss f. refl)
closes-right Curly (closes Curly) = shift-right (closes_s Curly) _ [] _ refl refl (λ ss f. refl)
closes-right b t = tt

colon-right : (t : Terminal) → RightAt colon_s t
colon-right (plain colon) = shift-right colon_s _ ([]) _ refl refl (λ ss f. refl)
colon-right t = tt

in-right : (t : Terminal) → RightAt in_s t
in-right (plain in_word) = shift-right in_s _ ([]) _ refl refl (λ ss f. refl)
in-right t = tt

newline-right : (t : Terminal) → RightAt newline_s t
newline-right (plain newline) = shift-right newline_s _ ([]) _ refl refl (λ ss f. refl)
newline-right t = tt

indent-right : (t : Terminal) → RightAt indent_s t
indent-right (plain indent) = shift-right indent_s _ ([]) _ refl refl (λ ss f. refl)
indent-right t = tt

dedent-right : (t : Terminal) → RightAt dedent_s t
dedent-right (plain dedent) = shift-right dedent_s _ ([]) _ refl refl (λ ss f. refl)
dedent-right t = tt

same-bytes : (bytes word : List ℕ) → bytes_eq bytes word ≡ true → bytes ≡ word
same-bytes bytes word e = (bytes_eq-Decides bytes word).0 e

named-numpy : (bytes : List ℕ) (m : Module) (b : Bool) → bytes_eq bytes (codes "numpy") ≡ b → (if b then Some Numpy else None) ≡ Some m → bytes ≡ module_bytes m
named-numpy bytes Numpy true h e = same-bytes bytes (codes "numpy") h
named-numpy bytes Cvxpy true h e = absurd cc
named-numpy bytes m false h e = absurd cc

named-cvxpy : (bytes : List ℕ) (m : Module) (b : Bool) → bytes_eq bytes (codes "cvxpy") ≡ b
    → (if b then Some Cvxpy else (if bytes_eq bytes (codes "numpy") then Some Numpy else None)) ≡ Some m → bytes ≡ module_bytes m
named-cvxpy bytes Cvxpy true h e = same-bytes bytes (codes "cvxpy") h
named-cvxpy bytes Numpy true h e = absurd cc
named-cvxpy bytes m false h e = named-numpy bytes m (bytes_eq bytes (codes "numpy")) refl e

module-named-right : (bytes : List ℕ) (m : Module) → module_named bytes ≡ Some m → bytes ≡ module_bytes m
module-named-right bytes m e = named-cvxpy bytes m (bytes_eq bytes (codes "cvxpy")) refl e

module-step-right : (bytes : List ℕ) (p : Place) (o : Option Module) → module_named bytes ≡ o → Right grammar texts.text sets module_s (plain (name bytes p)) (moves.module_step p o)
module-step-right bytes p None e = tt
module-step-right bytes p (Some m) e = shift-right module_s _ [] _ refl refl (λ ss f. ap (λ (b : List ℕ). plain (name b p) ∷ spelling trees texts.text ss f) (sym (module-named-right bytes m e)))

module-right : (t : Terminal) → RightAt module_s t
module-right (plain (name bytes p)) = module-step-right bytes p (module_named bytes) refl
module-right t = tt

alias-right : (t : Terminal) → RightAt alias_s t
alias-right (plain as_word) = shift-right alias_s _ (name_s ∷ []) _ refl refl (λ ss f. refl)
alias-right t = tt

balanced-right : (t : Terminal) → RightAt balanced_s t
balanced-right (plain t) = shift-right balanced_s _ (balanced_s ∷ []) _ (plain-level t) refl (λ ss f. refl)
balanced-right (opens Round p) = shift-right balanced_s _ (balanced_s ∷ closes_s Round ∷ balanced_s ∷ []) _ refl refl (λ ss f. simp append_assoc refl)
balanced-right (opens Square p) = shift-right balanced_s _ (balanced_s ∷ closes_s Square ∷ balanced_s ∷ []) _ refl refl (λ ss f. simp append_assoc refl)
balanced-right (opens Curly p) = shift-right balanced_s _ (balanced_s ∷ closes_s Curly ∷ balanced_s ∷ []) _ refl refl (λ ss f. simp append_assoc refl)
balanced-right t = tt

as_dot-text : (bytes : List ℕ) (p : Place) (x : moves.AfterName) → bytes ≡ codes "value"
    → texts.after_dot_text (moves.as_dot (record { name = bytes; place = p }) x) ≡ plain (name bytes p) ∷ texts.after_name_text x
as_dot-text bytes p (moves.gets x) e = ap (λ (b : List ℕ). plain (name b p) ∷ plain equal ∷ expr_text x) (sym e)
as_dot-text bytes p (moves.goes_on r) e = refl

dot-step-right : (bytes : List ℕ) (p : Place) (b : Bool) → is_value_word bytes ≡ b
    → Right grammar texts.text sets after_dot_s (plain (name bytes p)) (moves.dot_step (record { name = bytes; place = p }) b)
dot-step-right bytes p true e = shift-right after_dot_s _ (after_name_s ∷ []) _ refl refl
    (λ ss f. ap (λ (y : List Terminal). y ++ spelling trees texts.text ss f.1) (as_dot-text bytes p f.0 (same-bytes bytes (codes "value") e)))
dot-step-right bytes p false e = shift-right after_dot_s _ (rest_s ∷ []) _ refl refl (λ ss f. refl)

after_dot-right : (t : Terminal) → RightAt after_dot_s t
after_dot-right (plain (name bytes p)) = dot-step-right bytes p (is_value_word bytes) refl
after_dot-right t = tt

as_first-text : (x : moves.AfterDot) → texts.after_first_text (moves.as_first x) ≡ plain dot ∷ texts.after_dot_text x
as_first-text (moves.value_gets p x) = refl
as_first-text (moves.attribute_of n r) = refl

as_line-text : (n : Named) (x : moves.AfterFirst) → line_text (moves.as_line n x) ≡ named n ∷ (texts.after_first_text x ++ plain newline ∷ [])
as_line-text n (moves.is_assigned x) = refl
as_line-text n (moves.is_added_to p x) = refl
as_line-text n (moves.value_is_set p x) = refl
as_line-text n (moves.begins r) = ap (λ (y : List Terminal). y ++ plain newline ∷ []) (from_name-text n r)

after_first-lead : (t : Terminal) → Right grammar texts.text sets after_first_s t (leading trees rest_s after_first_s (λ ss. ss) moves.after_first_join (moves.rest_move t))
after_first-lead t = leading-right grammar texts.text sets rest_s after_first_s ([]) moves.after_first_join refl refl (λ ss f. refl) t (moves.rest_move t) (rest-right t)

after_first-right : (t : Terminal) → RightAt after_first_s t
after_first-right (plain equal) = shift-right after_first_s _ (expr_s ∷ []) _ refl refl (λ ss f. refl)
after_first-right (plain (plus_equal p)) = shift-right after_first_s _ (expr_s ∷ []) _ refl refl (λ ss f. refl)
after_first-right (plain dot) = shift-right after_first_s _ (after_dot_s ∷ []) _ refl refl (λ ss f. ap (λ (y : List Terminal). y ++ spelling trees texts.text ss f.1) (as_first-text f.0))
after_first-right t = after_first-lead t

line-lead : (t : Terminal) → Right grammar texts.text sets line_s t (leading trees expr_s line_s (λ ss. newline_s ∷ ss) moves.line_join (moves.expr_move t))
line-lead t = leading-right grammar texts.text sets expr_s line_s (newline_s ∷ []) moves.line_join refl refl
    (λ ss f. append_assoc (texts.text expr_s f.0) (texts.text newline_s f.1.0) (spelling trees texts.text ss f.1.1)) t (moves.expr_move t) (expr-right t)

line-right : (t : Terminal) → RightAt line_s t
line-right (plain (import p)) = shift-right line_s _ (module_s ∷ alias_s ∷ newline_s ∷ []) _ refl refl (λ ss f. simp append_assoc refl)
line-right (plain (name bytes p)) = shift-right line_s _ (after_first_s ∷ newline_s ∷ []) _ refl refl
    (λ ss f. ap (λ (y : List Terminal). y ++ spelling trees texts.text ss f.1.1) (as_line-text (record { name = bytes; place = p }) f.0)
    ∙ ap (λ (y : List Terminal). plain (name bytes p) ∷ y) (append_assoc (texts.after_first_text f.0) (plain newline ∷ []) (spelling trees texts.text ss f.1.1)))
line-right (plain (print p)) = shift-right line_s _ (opens_s ∷ balanced_s ∷ closes_s Round ∷ newline_s ∷ []) _ refl refl (λ ss f. simp append_assoc refl)
line-right (plain (for p)) = shift-right line_s _ (name_s ∷ in_s ∷ expr_s ∷ colon_s ∷ newline_s ∷ indent_s ∷ line_s ∷ lines_s ∷ dedent_s ∷ []) _ refl refl (λ ss f. simp append_assoc refl)
line-right t = line-lead t

lines-right : (t : Terminal) → RightAt lines_s t
lines-right t = leading-right grammar texts.text sets line_s lines_s (lines_s ∷ []) moves.lines_join refl refl
    (λ ss f. append_assoc (texts.text line_s f.0) (texts.text lines_s f.1.0) (spelling trees texts.text ss f.1.1)) t (moves.line_move t) (line-right t)

pub right : (s : Symbol) (t : Terminal) → RightAt s t
right expr_s t = expr-right t
right compared_s t = compared-right t
right sum_s t = sum-right t
right added_s t = added-right t
right term_s t = term-right t
right scaled_s t = scaled-right t
right factor_s t = factor-right t
right power_s t = power-right t
right raised_s t = raised-right t
right exponent_s t = exponent-right t
right postfix_s t = postfix-right t
right trailers_s t = trailers-right t
right args_s t = args-right t
right more_args_s t = more_args-right t
right arg_s t = arg-right t
right after_name_s t = after_name-right t
right rest_s t = rest-right t
right indices_s t = indices-right t
right index_s t = index-right t
right after_index_s t = after_index-right t
right optional_s t = optional-right t
right step_s t = step-right t
right primary_s t = primary-right t
right in_round_s t = in_round-right t
right after_round_s t = after_round-right t
right in_square_s t = in_square-right t
right after_square_s t = after_square-right t
right items_s t = items-right t
right more_items_s t = more_items-right t
right name_s t = name-right t
right opens_s t = opens-right t
right (closes_s b) t = closes-right b t
right colon_s t = colon-right t
right in_s t = in-right t
right newline_s t = newline-right t
right indent_s t = indent-right t
right dedent_s t = dedent-right t
right module_s t = module-right t
right alias_s t = alias-right t
right balanced_s t = balanced-right t
right after_first_s t = after_first-right t
right after_dot_s t = after_dot-right t
right line_s t = line-right t
right lines_s t = lines-right t
