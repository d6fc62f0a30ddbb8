-- One thing is read from an answer of the rows: one answer, or one stop.
use Rattle.std.proofs.Common.{◌≡◌, ℕ, List, sym, ap, ◌∙◌}
use Rattle.std.proofs.lemmas.Option.{none-some, same_Some}
use Rattle.dcx_math.specs.Sums.{rat_at}
use Rattle.dcx_frac.specs.declared.fraction.Frac.{Frac}
use Rattle.dcx_frac.specs.declared.fraction.Passes.{Passes}
use Rattle.dcx_atom.specs.declared.array.Array.{Array}
use Rattle.dcx_point.specs.Pairs.{Pairs}
use Rattle.dcx_tree.specs.declared.problem.Problem.{Problem}
use Rattle.dcx_linear.specs.declared.row.UnknownKind.{UnknownKind}
use Rattle.dcx_linear.specs.FormTerms.{Unknowns}
use Rattle.dcx_lp_answer.specs.declared.answer.LpStatus.TheVariants as status
use Rattle.dcx_lp_answer.specs.declared.answer.LpAnswer.{LpAnswer}
use Rattle.dcx_answer.specs.declared.answer.Answer.{Answer}
use Rattle.dcx_answer.specs.declared.answer.Answer.TheVariants as answers
use Rattle.dcx_answer.specs.declared.site.Site.{Site}
use Rattle.dcx_answer.specs.declared.site.Site.TheVariants as sites
use Rattle.dcx_unknowns.specs.Unknowns.{point_at}
use Rattle.dcx_postsolve.specs.Points.{numbered}
use Rattle.dcx_postsolve.specs.Duals.{AreDuals}
use Rattle.dcx_postsolve.proofs.DualLaws.{are_one}
use Rattle.dcx_graph.specs.Answers.{IsPointRead, IsRead, PassesAt, IsSamePoint, AreSameDuals, IsSameAnswer, ReadingsAreOne}

module _ (p : Problem) (kinds : List UnknownKind) (a : LpAnswer) where
  pub same_point : (columns : List Frac) (x y : Pairs) → IsPointRead p kinds columns x → IsPointRead p kinds columns y → IsSamePoint p x y
  same_point columns x y h k =
      let same : numbered h.unknowns ≡ numbered k.unknowns = ap (λ zs u. rat_at zs u) (h.are ∙ sym k.are) in
      record {
        names = h.of_variables.names ∙ sym k.of_variables.names;
        numbers = λ i v at j. h.of_variables.numbers i v at j ∙ ap (λ (us : Unknowns). point_at p.variables us i j) same ∙ sym (k.of_variables.numbers i v at j);
      }

  same_duals : (ds es : List Array) → AreDuals a.status p.constraints a.rows ds → AreDuals a.status p.constraints a.rows es → AreSameDuals ds es
  same_duals ds es h k = (are_one a.status p.constraints a.rows).same ds es h k

  same_answer : (x y : Answer) → IsRead p kinds a x → IsRead p kinds a y → IsSameAnswer p x y
  same_answer (answers.Optimal n x ds) (answers.Optimal m y es) (e, h, at, are) (f, k, there, also) = (h ∙ sym k, same_point a.columns x y at there, same_duals ds es are also)
  same_answer (answers.Optimal n x ds) (answers.Infeasible es g) h k = let no : status.Optimal ≡ status.Infeasible = sym h.0 ∙ k.0 in cc
  same_answer (answers.Optimal n x ds) (answers.Unbounded y q b t) h k = let no : status.Optimal ≡ status.Unbounded = sym h.0 ∙ k.0 in cc
  same_answer (answers.Infeasible ds g) (answers.Optimal m y es) h k = let no : status.Infeasible ≡ status.Optimal = sym h.0 ∙ k.0 in cc
  same_answer (answers.Infeasible ds g) (answers.Infeasible es u) (e, h, are) (f, k, also) = (h ∙ sym k, same_duals ds es are also)
  same_answer (answers.Infeasible ds g) (answers.Unbounded y q b t) h k = let no : status.Infeasible ≡ status.Unbounded = sym h.0 ∙ k.0 in cc
  same_answer (answers.Unbounded x r b t) (answers.Optimal m y es) h k = let no : status.Unbounded ≡ status.Optimal = sym h.0 ∙ k.0 in cc
  same_answer (answers.Unbounded x r b t) (answers.Infeasible es g) h k = let no : status.Unbounded ≡ status.Infeasible = sym h.0 ∙ k.0 in cc
  same_answer (answers.Unbounded x r b t) (answers.Unbounded y q c u) (e, h, l, at, along) (f, k, m, there, beside) =
      (h ∙ sym k, l ∙ sym m, same_point a.columns x y at there, same_point a.ray r q along beside)

  never : (ds : List Array) → AreDuals a.status p.constraints a.rows ds → (site : Site) → PassesAt p a site → ⊥
  never ds are site stop = none-some (stop.row, stop.passes) (sym ((are_one a.status p.constraints a.rows).none_passes ds are) ∙ stop.first)

  never_both : (x : Answer) (site : Site) → IsRead p kinds a x → PassesAt p a site → ⊥
  never_both (answers.Optimal n x ds) site (e, h, at, are) stop = never ds are site stop
  never_both (answers.Infeasible ds g) site (e, h, are) stop = never ds are site stop
  never_both (answers.Unbounded x r b t) site h stop = stop.formed h.0

  one_stop : (s t : Site) → PassesAt p a s → PassesAt p a t → s ≡ t
  one_stop s t h k =
      let pair = same_Some (h.row, h.passes) (k.row, k.passes) (sym h.first ∙ k.first) in
      h.here ∙ ap (λ (e : ℕ × Passes). sites.Answer e.0 e.1) pair ∙ sym k.here

pub readings_are_one : ReadingsAreOne
readings_are_one p kinds a = record { same = same_answer p kinds a; never_both = never_both p kinds a; one_stop = one_stop p kinds a }
