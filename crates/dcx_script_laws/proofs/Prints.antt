-- Lines without what their calls of `print` print.
use Rattle.std.proofs.Common.{◌≡◌, refl, ap, ◌∙◌}
use Rattle.dcx_syntax.specs.Statements.{Line, importing, assign, add_to, set_value, evaluate, prints, repeats, Lines, no_lines, lines, trimmed, trimmed_all}
use Rattle.dcx_script_values.specs.Values.{Act, ◌>>=◌, ◌>>◌, step}
use Rattle.dcx_signature.specs.Turns.{items_through}
use Rattle.dcx_script_state.specs.Declarations.{start}
use Rattle.dcx_elab.specs.Turns.{each_turn}
use Rattle.dcx_elab.specs.Expressions.{expr_means}
use Rattle.dcx_elab.specs.Statements.{line_means, lines_mean}
use Rattle.dcx_elab.specs.Meaning.{meaning, ended}
use Rattle.dcx_script_laws.specs.Printing.{HoldsForPrints}

-- the same one after the other
both : {m n k l : Act (Unit {0})} → m ≡ n → k ≡ l → (m >> k) ≡ (n >> l)
both {n = n} {k = k} p q = ap (λ a. a >> k) p ∙ ap (λ b. n >> b) q

mutual
  line-same : (l : Line) → line_means (trimmed l) ≡ line_means l
  line-same (importing i) = refl
  line-same (assign n x) = refl
  line-same (add_to n place x) = refl
  line-same (set_value n place x) = refl
  line-same (evaluate x) = refl
  line-same (prints place open_place inner) = refl
  line-same (repeats place n x first rest) =
      ap (λ (body : Act (Unit {0})). step place >> (expr_means x >>= λ v. items_through place v >>= λ vs. each_turn n.name body vs)) (both (line-same first) (lines-same rest))

  lines-same : (ls : Lines) → lines_mean (trimmed_all ls) ≡ lines_mean ls
  lines-same no_lines = refl
  lines-same (lines x rest) = both (line-same x) (lines-same rest)

scripts-same : (ls : Lines) → meaning (trimmed_all ls) ≡ meaning ls
scripts-same ls = ap (λ (m : Act (Unit {0})). ended (m start)) (lines-same ls)

pub prints_hold : HoldsForPrints
prints_hold = record {
  lines = λ ls s. ap (λ (m : Act (Unit {0})). m s) (lines-same ls);
  scripts = scripts-same;
  read = λ text tokens script parsed. ap meaning parsed.kept ∙ scripts-same parsed.tree;
}
