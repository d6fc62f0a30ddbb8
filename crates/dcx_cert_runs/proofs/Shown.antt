-- What a certificate of an answer shows, and that it is one of the problem.
use Rattle.std.proofs.Common.{ℕ, [], List, sym, subst, pos}
use Rattle.dcx_math.specs.Rational.{whole}
use Rattle.dcx_math.proofs.Orders.{≤ℚ_refl}
use Rattle.dcx_atom.proofs.Sublinear.{none_shifted}
use Rattle.dcx_point.specs.Pairs.{Pairs}
use Rattle.dcx_tree.specs.declared.problem.Problem.{Problem}
use Rattle.dcx_tree.specs.Meaning.{IsAccepted, IsFitting, IsInDomain, setting_of, point_of}
use Rattle.dcx_linear.specs.declared.row.UnknownKind.{UnknownKind}
use Rattle.dcx_lp_answer.specs.declared.answer.LpAnswer.{LpAnswer}
use Rattle.dcx_answer.specs.declared.answer.Answer.{Answer}
use Rattle.dcx_answer.specs.declared.answer.Answer.TheVariants.{Optimal, Infeasible, Unbounded}
use Rattle.dcx_cert_sections.specs.declared.cert.Cert.{Cert}
use Rattle.dcx_cert_sections.specs.declared.section.Section.{Section}
use Rattle.dcx_cert_sections.specs.declared.section.Section.TheVariants as sections
use Rattle.dcx_cert_sections.specs.declared.section.Format.{Format}
use Rattle.dcx_cert_sections.specs.declared.section.Format.TheVariants.{Two}
use Rattle.dcx_cert_sections.specs.Formats.{IsOfFormat, IsSectionOfFormat, AreOfFormat}
use Rattle.dcx_cert_sections.specs.Shown.{IsCertOf, IsSectionOf}
use Rattle.dcx_cert_outline.specs.Drawn.{problem_outline}
use Rattle.dcx_graph.specs.declared.origin.Origin.{Origin}
use Rattle.dcx_graph.specs.Answers.{IsRead}
use Rattle.dcx_right.specs.Answers.{IsRightFor}
use Rattle.dcx_cache.proofs.Answered.{is_answered, answers_are_right}
use Rattle.dcx_cache.proofs.Arrays.{have_arrays}
use Rattle.dcx_cert_build.specs.Built.{IsBuilt}
use Rattle.dcx_cert_build.proofs.OfProblem.{rows_noted, cert_of}
use Rattle.dcx_cert_check.specs.Shown.{IsShown}
use Rattle.dcx_cert_runs.specs.Sections.{IsCertAt, IsSectionAt}
use Rattle.dcx_cert_runs.specs.Checking.{IsSectionShown}
use Rattle.dcx_cert_runs.specs.Laws.{SectionsAreShown, CertificatesAreOf}
use Rattle.dcx_cert_runs.proofs.Built.{laid_out}
use Rattle.dcx_cert_runs.proofs.Lists.{each_beside}

-- ---- what is shown
module _ (p : Problem) (s : Pairs) (kinds : List UnknownKind) (from : List Origin) (lp : LpAnswer) where
  shown : (a : Answer) (cert : Cert) → IsFitting p s → IsRightFor p (setting_of p s) a → IsRead p kinds lp a → IsBuilt p s from lp a cert → IsShown p s cert
  shown (Optimal number point duals) cert fits right (e, n, at, are) (weights, h, is) =
      subst (IsShown p s) (sym is) (fits, record { shaped = at.of_variables.shaped; domain = right.feasible.domain }, right)
  shown (Infeasible duals gap) cert fits right read (weights, h, is) = subst (IsShown p s) (sym is) (fits, right)
  shown (Unbounded point ray bound slope) cert fits right (e, b, t, at, along) is =
      subst (IsShown p s) (sym is) (
        fits,
        record { shaped = at.of_variables.shaped; domain = subst (IsInDomain p) (none_shifted (point_of p point) (point_of p ray)) (right.feasible (whole (pos 0)) (≤ℚ_refl _)).domain },
        right,
      )

section_shown : (p : Problem) (limit : ℕ) (s : Pairs) (x : Section) → IsAccepted p → IsSectionAt p limit s x → IsSectionShown p s x
section_shown p limit s (sections.Cert cert) ok h =
    let right = answers_are_right p s limit h.answer ok (h.program, h.solved, h.answered) in
    shown p s h.program.kinds h.program.origins h.solved.answer h.answer cert right.0 right.1 h.answered.read h.built
section_shown p limit s sections.None ok h = tt

pub sections_are_shown : SectionsAreShown
sections_are_shown p limit settings list ok h = record {
  count = h.count;
  each = λ k s x at here. section_shown p limit s x ok (h.each k s x at here);
}

-- ---- of the problem
-- what is read of the answer has the problem's names and shapes, and a weight stands for each row of the graphs, as the session laid them out
of_problem : (p : Problem) (limit : ℕ) (s : Pairs) (cert : Cert) → IsAccepted p → IsCertAt p limit s cert → IsCertOf (problem_outline p) cert
of_problem p limit s cert ok h =
    let fits = h.answered.fits in
    let q = h.program in
    let answered = is_answered p s ok fits limit q h.solved h.answered.program h.answered.is_solved in
    cert_of p s (have_arrays p s fits) q (laid_out p s q h.answered.program) h.solved.answer (rows_noted p (setting_of p s) q h.solved.answer answered) q.kinds h.answer cert h.answered.read h.built

section_of : (p : Problem) (limit : ℕ) (s : Pairs) (x : Section) → IsAccepted p → IsSectionAt p limit s x → IsSectionOf (problem_outline p) x
section_of p limit s (sections.Cert cert) ok h = of_problem p limit s cert ok h
section_of p limit s sections.None ok h = tt

-- it tells the setting's values
format : (p : Problem) (s : Pairs) (from : List Origin) (lp : LpAnswer) (a : Answer) (cert : Cert) → IsBuilt p s from lp a cert → IsOfFormat Two cert
format p s from lp (Optimal number point duals) cert (weights, h, is) = subst (IsOfFormat Two) (sym is) tt
format p s from lp (Infeasible duals gap) cert (weights, h, is) = subst (IsOfFormat Two) (sym is) tt
format p s from lp (Unbounded point ray bound slope) cert is = subst (IsOfFormat Two) (sym is) (tt, tt)

section_format : (p : Problem) (limit : ℕ) (s : Pairs) (x : Section) → IsSectionAt p limit s x → IsSectionOfFormat Two x
section_format p limit s (sections.Cert cert) h = format p s h.program.origins h.solved.answer h.answer cert h.built
section_format p limit s sections.None h = tt

pub certificates_are_of : CertificatesAreOf
certificates_are_of p limit settings c ok h = record {
  counted = h.sections.count;
  shown = each_beside (IsSectionOf (problem_outline p)) settings c.list [] sections.None h.sections.count (λ k s x at here. section_of p limit s x ok (h.sections.each k s x at here));
  format = subst (λ (f : Format). AreOfFormat f c.list) (sym h.format)
      (each_beside (IsSectionOfFormat Two) settings c.list [] sections.None h.sections.count (λ k s x at here. section_format p limit s x (h.sections.each k s x at here)));
}
