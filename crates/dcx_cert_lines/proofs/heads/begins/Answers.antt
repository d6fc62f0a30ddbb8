-- The line is the first of a section.
use Rattle.std.proofs.Common.{ℕ, List, [], ◌∷◌, ◌++◌, ap, ◌∙◌, subst}
use Rattle.std.specs.Prelude.{IfOk}
use Rattle.std.specs.Bool.{MatchBool}
use Rattle.dcx_cert_lines.specs.CertText.{head_line}
use Rattle.dcx_cert_lines.specs.Templates.{filled, IsRead, IsSame, HasNoLine, plain_template, head_front}
use Rattle.dcx_cert_lines.proofs.heads.begins.Goals as goal

pub returns : goal.returns
unfolding head_line
returns c =
    let front = c.deref.ensures.value ∙ c.in_ok-put_head.ensures {u = tt} ∙ ap (λ t. t ++ head_front c.args.kind c.args.number) c.new-front.ensures.items in
    subst
    (λ (f : List ℕ). IfOk c.reads.result (λ b. MatchBool b (IsRead (filled f [] ∷ []) c.args.cursor.now.rest.now c.args.cursor.now.line c.reads.new.cursor.rest.now c.reads.new.cursor.line)
    (IsSame c.args.cursor.now.rest.now c.args.cursor.now.line c.reads.new.cursor.rest.now c.reads.new.cursor.line × HasNoLine (plain_template f) c.args.cursor.now.rest.now)))
    front c.reads.ensures
