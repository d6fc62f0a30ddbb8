-- The certificate of an answer has the names, the shapes, the counts and the order of the problem, and the setting's values.
use Rattle.std.proofs.Common.{◌≡◌, List, length, sym, ◌∙◌, subst}
use Rattle.dcx_frac.specs.declared.fraction.Frac.{Frac}
use Rattle.dcx_point.specs.Pairs.{Pairs}
use Rattle.dcx_convex.specs.Nodes.{Setting}
use Rattle.dcx_tree.specs.declared.problem.Problem.{Problem}
use Rattle.dcx_linear.specs.declared.row.UnknownKind.{UnknownKind}
use Rattle.dcx_lp_answer.specs.declared.answer.LpAnswer.{LpAnswer}
use Rattle.dcx_std.proofs.ScaledProgram.{scaled_program}
use Rattle.dcx_answer.specs.declared.answer.Answer.{Answer}
use Rattle.dcx_answer.specs.declared.answer.Answer.TheVariants as answers
use Rattle.dcx_cert_sections.specs.declared.cert.Cert.{Cert}
use Rattle.dcx_cert_sections.specs.Shown.{IsCertOf}
use Rattle.dcx_cert_outline.specs.Drawn.{problem_outline}
use Rattle.dcx_graph.specs.Program.{Program}
use Rattle.dcx_graph.specs.Fixed.{HaveArrays}
use Rattle.dcx_graph.specs.Answers.{rows_of, IsAnswered, IsRead}
use Rattle.dcx_cert_build.specs.Origins.{IsLaidOut}
use Rattle.dcx_cert_build.specs.Built.{IsBuilt}
use Rattle.dcx_cert_build.proofs.Listed.{weights_counted}
use Rattle.dcx_cert_build.proofs.Shown.{variables_distinct, point_shown, duals_shown, values_shown}

-- of each row of the program something is kept, and there are few
module _ (p : Problem) (s : Setting) (q : Program Frac) (a : LpAnswer) (is : IsAnswered p s q a) where
  pub rows_noted : length a.rows ≡ length q.rows
  rows_noted = is.parts.notes ∙ (scaled_program (rows_of q) is.integer is.made).count

module _ (p : Problem) (setting : Pairs) (given : HaveArrays p setting) (q : Program Frac) (laid : IsLaidOut p q) (a : LpAnswer) (noted : length a.rows ≡ length q.rows)
    (kinds : List UnknownKind) where
  pub cert_of : (x : Answer) (cert : Cert) → IsRead p kinds a x → IsBuilt p setting q.origins a x cert → IsCertOf (problem_outline p) cert
  cert_of (answers.Optimal number point duals) cert read (weights, are, is) =
      subst (IsCertOf (problem_outline p)) (sym is) (record {
        variables = point_shown p.variables (variables_distinct p) read.2.unknowns point read.2.of_variables;
        constraints = duals_shown a.status p.constraints a.rows duals read.3;
        atoms = weights_counted p laid.rules q.origins laid.origins_are a.status a.rows (laid.one_each ∙ sym noted) weights are;
        parameters = values_shown p setting given;
      })
  cert_of (answers.Infeasible duals gap) cert read (weights, are, is) =
      subst (IsCertOf (problem_outline p)) (sym is) (record {
        constraints = duals_shown a.status p.constraints a.rows duals read.2;
        atoms = weights_counted p laid.rules q.origins laid.origins_are a.status a.rows (laid.one_each ∙ sym noted) weights are;
        parameters = values_shown p setting given;
      })
  cert_of (answers.Unbounded point ray bound slope) cert read is =
      subst (IsCertOf (problem_outline p)) (sym is) (record {
        variables = point_shown p.variables (variables_distinct p) read.3.unknowns point read.3.of_variables;
        ray_variables = point_shown p.variables (variables_distinct p) read.4.unknowns ray read.4.of_variables;
        parameters = values_shown p setting given;
      })
