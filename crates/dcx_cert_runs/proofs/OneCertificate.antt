-- Settings have one certificate.
use Rattle.std.proofs.Common.{◌≡◌, ℕ, suc, List, [], ◌∷◌, length, Some, Ok, Err, refl, sym, ap, ◌∙◌, subst, arith}
use Rattle.std.specs.List.{slice_get}
use Rattle.dcx_frac.specs.declared.fraction.Frac.{Frac}
use Rattle.dcx_point.specs.Pairs.{Pairs}
use Rattle.dcx_tree.specs.declared.problem.Problem.{Problem}
use Rattle.dcx_tree.specs.Meaning.{IsAccepted}
use Rattle.dcx_lp_answer.specs.declared.answer.LpAnswer.{LpAnswer}
use Rattle.dcx_answer.specs.declared.answer.Answer.{Answer}
use Rattle.dcx_answer.specs.declared.answer.Answer.TheVariants as answers
use Rattle.dcx_answer.specs.declared.site.Site.{Site}
use Rattle.dcx_cert_sections.specs.declared.cert.Cert.{Cert}
use Rattle.dcx_cert_sections.specs.declared.cert.Cert.TheVariants as certs
use Rattle.dcx_cert_sections.specs.declared.section.Section.{Section}
use Rattle.dcx_cert_sections.specs.declared.section.Section.TheVariants as sections
use Rattle.dcx_lp_solve.specs.declared.solving.Solved.{Solved}
use Rattle.dcx_lp_solve.specs.Solved.{IsSolved}
use Rattle.dcx_lp_solve.proofs.OneSolution.{answers_are_one}
use Rattle.dcx_graph.specs.declared.origin.Origin.{Origin}
use Rattle.dcx_graph.specs.Program.{Program}
use Rattle.dcx_graph.specs.Answers.{rows_of, IsSameAnswer}
use Rattle.dcx_cache.specs.Answers.{IsAnswerOf}
use Rattle.dcx_cache.proofs.OneEnd.{same_program as one_program_of, has_one_end}
use Rattle.dcx_cert_build.specs.Built.{values_in, IsBuilt, PassesAt}
use Rattle.dcx_cert_build.proofs.OneCert.{one_cert}
use Rattle.dcx_cert_runs.specs.Sections.{IsCertAt, HasNoCert, stopped, passes, IsSectionAt}
use Rattle.dcx_cert_runs.specs.Laws.{answer_of, weights_of, params_of, IsAlike, AreAlike, CertificatesAreOne}

-- the answer that the certificate of an answer shows is that answer
shows : (p : Problem) (s : Pairs) (from : List Origin) (lp : LpAnswer) (a : Answer) (c : Cert) → IsBuilt p s from lp a c → answer_of c ≡ a
shows p s from lp (answers.Optimal number point duals) c (weights, h, is) = ap answer_of is
shows p s from lp (answers.Infeasible duals gap) c (weights, h, is) = ap answer_of is
shows p s from lp (answers.Unbounded point ray bound slope) c is = ap answer_of is

-- it tells the values of the setting
params_told : (p : Problem) (s : Pairs) (from : List Origin) (lp : LpAnswer) (a : Answer) (c : Cert) → IsBuilt p s from lp a c → params_of c ≡ Some (values_in p s)
params_told p s from lp (answers.Optimal number point duals) c (weights, h, is) = ap params_of is
params_told p s from lp (answers.Infeasible duals gap) c (weights, h, is) = ap params_of is
params_told p s from lp (answers.Unbounded point ray bound slope) c is = ap params_of is

-- two of answers of one kind have the same weights
module _ (p : Problem) (s : Pairs) (from : List Origin) (lp : LpAnswer) where
  same_weights : (a b : Answer) (c d : Cert) → IsBuilt p s from lp a c → IsBuilt p s from lp b d → IsSameAnswer p a b → weights_of c ≡ weights_of d
  same_weights (answers.Optimal n x ds) (answers.Optimal m y es) c d (ws, h, is) (vs, k, at) same =
      let one = (one_cert p s from lp (answers.Optimal n x ds)).same (certs.Optimal n x ds ws (Some (values_in p s))) (certs.Optimal n x ds vs (Some (values_in p s))) (ws, h, refl) (vs, k, refl) in
      ap weights_of is ∙ ap weights_of one ∙ sym (ap weights_of at)
  same_weights (answers.Infeasible ds g) (answers.Infeasible es f) c d (ws, h, is) (vs, k, at) same =
      let one = (one_cert p s from lp (answers.Infeasible ds g)).same (certs.Infeasible ds g ws (Some (values_in p s))) (certs.Infeasible ds g vs (Some (values_in p s))) (ws, h, refl) (vs, k, refl) in
      ap weights_of is ∙ ap weights_of one ∙ sym (ap weights_of at)
  same_weights (answers.Unbounded x r e t) (answers.Unbounded y q f u) c d is at same = ap weights_of is ∙ sym (ap weights_of at)
  same_weights (answers.Optimal n x ds) (answers.Infeasible es f) c d h k same = absurd same
  same_weights (answers.Optimal n x ds) (answers.Unbounded y q f u) c d h k same = absurd same
  same_weights (answers.Infeasible ds g) (answers.Optimal m y es) c d h k same = absurd same
  same_weights (answers.Infeasible ds g) (answers.Unbounded y q f u) c d h k same = absurd same
  same_weights (answers.Unbounded x r e t) (answers.Optimal m y es) c d h k same = absurd same
  same_weights (answers.Unbounded x r e t) (answers.Infeasible es f) c d h k same = absurd same

module _ (p : Problem) (limit : ℕ) (ok : IsAccepted p) where
  -- a setting whose answer has a certificate has no weight that passes
  module _ (s : Pairs) (q r : Program Frac) (t u : Solved) (a b : Answer) (x : IsAnswerOf p s limit q t a) (y : IsAnswerOf p s limit r u b) where
    same_program : q ≡ r
    same_program = one_program_of p s limit q r x.program y.program

    same_rows : t.answer ≡ u.answer
    same_rows = (answers_are_one limit (rows_of q) t u x.is_solved (subst (λ (z : Program Frac). IsSolved limit (rows_of z) u) (sym same_program) y.is_solved)).answer

    built_too : (d : Cert) → IsBuilt p s r.origins u.answer b d → IsBuilt p s q.origins t.answer b d
    built_too d h = subst (λ (z : Program Frac). IsBuilt p s z.origins t.answer b d) (sym same_program) (subst (λ (z : LpAnswer). IsBuilt p s r.origins z b d) (sym same_rows) h)

    passes_too : (site : Site) → PassesAt p r.origins u.answer site → PassesAt p q.origins t.answer site
    passes_too site h = subst (λ (z : Program Frac). PassesAt p z.origins t.answer site) (sym same_program) (subst (λ (z : LpAnswer). PassesAt p r.origins z site) (sym same_rows) h)

  one_or_none : (s : Pairs) (c : Cert) → IsCertAt p limit s c → HasNoCert p limit s → ⊥
  one_or_none s c h (stopped at) = at.not_memory (has_one_end p s limit (Ok h.answer) (Err at.stop) ok (h.program, h.solved, h.answered) at.stops)
  one_or_none s c h (passes q solved a site answered at) =
      (one_cert p s h.program.origins h.solved.answer h.answer).never_both h.program.kinds c site h.answered.read h.built
      (passes_too s h.program q h.solved solved h.answer a h.answered answered site at)

  alike_at : (s : Pairs) (x y : Section) → IsSectionAt p limit s x → IsSectionAt p limit s y → IsAlike p x y
  alike_at s (sections.Cert c) (sections.Cert d) h k =
      let same = has_one_end p s limit (Ok h.answer) (Ok k.answer) ok (h.program, h.solved, h.answered) (k.program, k.solved, k.answered) in
      record {
        answer = subst (λ (z : Answer). IsSameAnswer p z (answer_of d)) (sym (shows p s h.program.origins h.solved.answer h.answer c h.built))
            (subst (λ (z : Answer). IsSameAnswer p h.answer z) (sym (shows p s k.program.origins k.solved.answer k.answer d k.built)) same);
        weights = same_weights p s h.program.origins h.solved.answer h.answer k.answer c d h.built
            (built_too s h.program k.program h.solved k.solved h.answer k.answer h.answered k.answered d k.built) same;
        params = params_told p s h.program.origins h.solved.answer h.answer c h.built ∙ sym (params_told p s k.program.origins k.solved.answer k.answer d k.built);
      }
  alike_at s (sections.Cert c) sections.None h k = one_or_none s c h k
  alike_at s sections.None (sections.Cert d) h k = one_or_none s d k h
  alike_at s sections.None sections.None h k = tt

  alike : (settings : List Pairs) (xs ys : List Section) → length xs ≡ length settings → length ys ≡ length settings
      → ((k : ℕ) (s : Pairs) (x : Section) → slice_get settings k ≡ Some s → slice_get xs k ≡ Some x → IsSectionAt p limit s x)
      → ((k : ℕ) (s : Pairs) (x : Section) → slice_get settings k ≡ Some s → slice_get ys k ≡ Some x → IsSectionAt p limit s x) → AreAlike p xs ys
  alike [] [] [] e f h k = tt
  alike [] [] (y ∷ ys) e f h k = absurd (omega (arith, f))
  alike [] (x ∷ xs) ys e f h k = absurd (omega (arith, e))
  alike (s ∷ ss) [] ys e f h k = absurd (omega (arith, e))
  alike (s ∷ ss) (x ∷ xs) [] e f h k = absurd (omega (arith, f))
  alike (s ∷ ss) (x ∷ xs) (y ∷ ys) e f h k = (
    alike_at s x y (h 0 s x refl refl) (k 0 s y refl refl),
    alike ss xs ys (omega (arith, e)) (omega (arith, f)) (λ j t z at here. h (suc j) t z at here) (λ j t z at here. k (suc j) t z at here),
  )

pub certificates_are_one : CertificatesAreOne
certificates_are_one p limit settings c d ok h k = alike p limit ok settings c.list d.list h.sections.count k.sections.count h.sections.each k.sections.each
