-- What is read from an answer of the session's rows is right for the problem.
use Rattle.std.proofs.Common.{ℕ, [], Result, Ok, Err, IfOk, OnOk}
use Rattle.dcx_frac.specs.declared.fraction.Frac.{Frac}
use Rattle.dcx_point.specs.Pairs.{Pairs}
use Rattle.dcx_convex.specs.Rules.{Plain, Parametrized}
use Rattle.dcx_tree.specs.declared.problem.Problem.{Problem}
use Rattle.dcx_tree.specs.Meaning.{IsAccepted, IsFitting, setting_of}
use Rattle.dcx_answer.specs.declared.stop.Stop.{Stop}
use Rattle.dcx_fit.specs.Fit.{FitsParameters}
use Rattle.dcx_cache.proofs.DivisorLawsHold.{formed_are_fitting}
use Rattle.dcx_tab.specs.declared.program.Program as tab
use Rattle.dcx_lp_answer.specs.declared.answer.LpAnswer.{LpAnswer}
use Rattle.dcx_lp_answer.specs.Right.{IsRight}
use Rattle.dcx_std.specs.IntegerRows.{IsMade}
use Rattle.dcx_lp_solve.specs.declared.solving.Solved.{Solved}
use Rattle.dcx_lp_solve.specs.Solved.{IsSolved}
use Rattle.dcx_lp_solve.proofs.Counts.{HasCounts, counts_of}
use Rattle.dcx_lp_solve.proofs.Right.{answers_are_right as solved_right}
use Rattle.dcx_graph.specs.Program.{Program}
use Rattle.dcx_graph.specs.Reduced.{Reduction}
use Rattle.dcx_graph.specs.Answers.{rows_of, IsAnswered}
use Rattle.dcx_graph.proofs.Correct.{numbers_are_reductions, affine_are_reductions, affine_are_known}
use Rattle.dcx_graph.proofs.AtSetting.{fixed_are_reductions}
use Rattle.dcx_graph.proofs.Mapped.{read_right}
use Rattle.dcx_cache.specs.Programs.{SessionGives, mapped, anew, IsProgramAt}
use Rattle.dcx_cache.specs.Laws.{AnswersAreRight}
use Rattle.dcx_cache.proofs.Arrays.{have_arrays}

-- ---- a program of the session
module _ (p : Problem) (setting : Pairs) (ok : IsAccepted p) (fits : FitsParameters p.parameters setting) where
  -- it is a reduced program there
  pub sound : (q : Program Frac) → SessionGives p setting (Ok q) → IsProgramAt p setting q
  sound q (mapped map m f) =
      let fitting : IsFitting p setting = (formed_are_fitting p).param_forms m.dpp [] setting m.reduces.nodes.table m.reduces.nodes.formed fits in
      record {
        fitting = fitting;
        reduced = record {
          rules = Parametrized;
          accepted = m.dpp.1;
          fits = fitting.fits;
          reduction = fixed_are_reductions Parametrized p setting map q (setting_of p setting) (affine_are_known p [] map m.reduces) (have_arrays p setting fits) f
              (affine_are_reductions p [] map m.dpp m.reduces (setting_of p setting));
        };
      }
  sound q (anew n h) =
      let fitting : IsFitting p setting = (formed_are_fitting p).fracs ok setting h.nodes.table h.nodes.formed fits in
      record {
        fitting = fitting;
        reduced = record {
          rules = Plain;
          accepted = ok;
          fits = fitting.fits;
          reduction = numbers_are_reductions p setting q (setting_of p setting) ok h;
        };
      }

  -- an answer of its rows can be read that has a number of each column and a note of each row, and is right
  pub answered_by : (q : Program Frac) (i : tab.Program) (a : LpAnswer) → SessionGives p setting (Ok q) → IsMade (rows_of q) i → HasCounts i a → IsRight i a → IsAnswered p (setting_of p setting) q a
  answered_by q i a g made counts right = record {
    reduced = (sound q g).reduced;
    integer = i;
    made = made;
    parts = record { columns = counts.columns; ray = counts.ray; notes = counts.rows };
    right = right;
  }

  -- so can the answer of the run
  pub is_answered : (limit : ℕ) (q : Program Frac) (s : Solved) → SessionGives p setting (Ok q) → IsSolved limit (rows_of q) s → IsAnswered p (setting_of p setting) q s.answer
  is_answered limit q s g h = answered_by q s.program s.answer g h.made (counts_of s.program _ h.solved.end s.answer h.solved.read) (solved_right limit (rows_of q) s h)

  -- and the setting fits
  pub is_fitting : (q : Program Frac) → SessionGives p setting (Ok q) → IsFitting p setting
  is_fitting q g = (sound q g).fitting

pub reduced_at : (p : Problem) (setting : Pairs) (r : Result (Reduction Frac) Stop) → IsAccepted p → OnOk r (FitsParameters p.parameters setting) → IfOk r (λ x. SessionGives p setting (Ok x.program))
    → IfOk r (λ x. IsProgramAt p setting x.program)
reduced_at p setting (Ok x) ok fits g = sound p setting ok fits x.program g
reduced_at p setting (Err e) ok fits g = tt

pub answers_are_right : AnswersAreRight
answers_are_right p setting limit a ok (q, s, h) =
    (is_fitting p setting ok h.fits q h.program, read_right p (setting_of p setting) q s.answer h.known (is_answered p setting ok h.fits limit q s h.program h.is_solved) a h.read)
