-- Each pivot is the one by which the next listed column is taken.
use Rattle.std.proofs.Common.{ℕ, ◌+◌, ◌<◌, arith, sym, ap, ◌∙◌, subst, rules}
use Rattle.dcx_tab.specs.Table.{Table}
use Rattle.dcx_simplex.specs.Basis.{IsBasic}
use Rattle.dcx_warm.specs.Install.{IsSound, IsListed, IsTaken, AllBasic, InstallsAlike}
use Rattle.dcx_warm.specs.Install.Installs.{Installed}
use Rattle.dcx_warm.proofs.Pivoting.{sound_next}
use Rattle.dcx_warm.proofs.Installing.{is_pivot, alike_next, refused, none_gives, basic_more, basic_already}
use Rattle.dcx_warm.proofs.install.install.Goals as goal

pub columns-preserved-then-is_basic : goal.columns-preserved-then-is_basic
columns-preserved-then-is_basic g c =
    let t = g.T.Tableau.table c.columns.tableau in
    let b : IsBasic t c.columns.column = search rules in
    record {
      sound = c.columns.invariant.sound;
      plain = c.columns.invariant.plain;
      basic = basic_already c.args.columns.now t c.columns.column b c.columns.invariant.basic;
      alike = c.columns.invariant.alike;
    }

pub returns-in_default-clause-none : goal.returns-in_default-clause-none
returns-in_default-clause-none g c =
    let t = g.T.Tableau.table c.columns.tableau in
    let l : IsListed c.args.columns.now c.columns.column = search rules in
    let b : ¬ (IsBasic t c.columns.column) = search rules in
    let taken : IsTaken c.args.columns.now t c.columns.column = record { listed = l; not_basic = b; least = c.columns.invariant.basic } in
    none_gives c.args.columns.now c.args.limit (g.T.Tableau.table c.args.tableau.now) c.args.pivots.now t c.columns.pivots c.columns.column c.columns.invariant.alike taken c.in_default.ensures.none

pub returns-then-not-step-clause-none : goal.returns-then-not-step-clause-none
returns-then-not-step-clause-none g c =
    let t = g.T.Tableau.table c.columns.tableau in
    let l : IsListed c.args.columns.now c.columns.column = search rules in
    let b : ¬ (IsBasic t c.columns.column) = search rules in
    let taken : IsTaken c.args.columns.now t c.columns.column = record { listed = l; not_basic = b; least = c.columns.invariant.basic } in
    refused c.args.columns.now c.args.limit (g.T.Tableau.table c.args.tableau.now) c.args.pivots.now t c.columns.pivots c.in-Some.row c.columns.column c.columns.invariant.alike taken
    c.in-Some.ensures.found c.if-not-step.ensures.refused

pub columns-preserved : goal.columns-preserved
columns-preserved g c =
    let s = g.T.Tableau.table c.args.tableau.now in
    let t = g.T.Tableau.table c.columns.tableau in
    let n = c.columns.pivots in
    let r = c.in-Some.row in
    let d = c.columns.column in
    let l : IsListed c.args.columns.now d = search rules in
    let b : ¬ (IsBasic t d) = search rules in
    let taken : IsTaken c.args.columns.now t d = record { listed = l; not_basic = b; least = c.columns.invariant.basic } in
    let gives = c.in-Some.ensures.found in
    let e = c.if-not-step.ensures.done in
    let next = alike_next c.args.columns.now c.args.limit s c.args.pivots.now t n r d c.columns.invariant.alike taken gives c.if-not-step.ensures.allowed in
    record {
      sound = subst IsSound (sym e) (sound_next t r d c.columns.invariant.sound (is_pivot c.args.columns.now t d r gives));
      plain = ap (λ (u : Table). u.plain) e ∙ c.columns.invariant.plain;
      basic = subst (λ (u : Table). (k : ℕ) → k < d + 1 → IsListed c.args.columns.now k → IsBasic u k) (sym e)
          (basic_more c.args.columns.now t r d c.columns.invariant.sound gives c.columns.invariant.basic);
      alike = subst (λ k. InstallsAlike c.args.columns.now c.args.limit s c.args.pivots.now (g.T.Tableau.table c.step.new.tableau) k) (sym c.if-not-step.ensures.counted)
          (subst (λ (u : Table). InstallsAlike c.args.columns.now c.args.limit s c.args.pivots.now u (n + 1)) (sym e) next);
    }

pub returns-clause-installs : goal.returns-clause-installs
returns-clause-installs g c =
    let t = g.T.Tableau.table c.columns.tableau in
    let all : AllBasic c.args.columns.now t = λ k l. c.columns.invariant.basic k (let h = c.requires.below k l in omega (arith, h, c.columns-test.false, c.plain-column-end.ensures)) l in
    c.columns.invariant.alike.onward t c.columns.pivots (Installed all)
