-- The parts make the whole run, or one of them rules every end out.
use Rattle.std.proofs.Common.{◌≡◌, ℕ, ◌+◌, List, length, arith, ap, subst, rules}
use Rattle.dcx_tab.specs.Table.{Table}
use Rattle.dcx_simplex.specs.Run.{NoneEnters}
use Rattle.dcx_simplex.specs.Whole.{objective_row}
use Rattle.dcx_warm.specs.Install.{IsListed, IsColumnList, Installs}
use Rattle.dcx_warm.specs.Warm.{WarmEnds}
use Rattle.dcx_warm.proofs.Installing.{sound}
use Rattle.dcx_warm.proofs.Ending.{sound_first, costs_positive, never_repaired, ends_optimal}
use Rattle.dcx_warm.proofs.run.warm.Goals as goal

pub install-requires-clause-sound : goal.install-requires-clause-sound
install-requires-clause-sound g c = sound_first (g.T.Tableau.table c.args.tableau.now) c.requires.first

pub install-requires-clause-below : goal.install-requires-clause-below
install-requires-clause-below g c = λ k l. c.requires.listed.below k (subst (λ (xs : List ℕ). IsListed xs k) c.as_slice-listed.ensures l)

pub returns-then-not-costs_are_least-clause-none : goal.returns-then-not-costs_are_least-clause-none
returns-then-not-costs_are_least-clause-none g c =
    let t = g.T.Tableau.table c.args.tableau.now in
    let v = g.T.Tableau.table c.install.new.tableau in
    let i = subst (λ (xs : List ℕ). Installs xs c.args.limit v c.install.new.pivots t 0) c.as_slice-listed.ensures c.if-not-install.ensures.installs in
    let none : ¬ (NoneEnters (objective_row v) v) = search rules in
    costs_positive c.args.limit c.args.columns.now t v c.install.new.pivots i none

pub repair-requires : goal.repair-requires
repair-requires g c =
    let t = g.T.Tableau.table c.args.tableau.now in
    let v = g.T.Tableau.table c.install.new.tableau in
    sound c.as_slice-listed.result.now c.args.limit v c.install.new.pivots t 0 c.if-not-install.ensures.installs (sound_first t c.requires.first)

pub returns-then-not-repair-clause-none : goal.returns-then-not-repair-clause-none
returns-then-not-repair-clause-none g c =
    let t = g.T.Tableau.table c.args.tableau.now in
    let v = g.T.Tableau.table c.install.new.tableau in
    let i = subst (λ (xs : List ℕ). Installs xs c.args.limit v c.install.new.pivots t 0) c.as_slice-listed.ensures c.if-not-install.ensures.installs in
    never_repaired c.args.limit c.args.columns.now t v c.install.new.pivots i c.if-not-repair.ensures.none

pub returns-clause-optimal : goal.returns-clause-optimal
returns-clause-optimal g c =
    let t = g.T.Tableau.table c.args.tableau.now in
    let v = g.T.Tableau.table c.install.new.tableau in
    let u = g.T.Tableau.table c.repair.new.tableau in
    let listed = c.as_slice-listed.ensures in
    let i = subst (λ (xs : List ℕ). Installs xs c.args.limit v c.install.new.pivots t 0) listed c.if-not-install.ensures.installs in
    let least : NoneEnters (objective_row v) v = search rules in
    let n : length c.args.columns.now + 2 ≡ length t.rows = omega (arith, c.if-listed-rows.false, c.rows.ensures.count, ap length listed) in
    let ends : WarmEnds c.args.limit c.args.columns.now t u c.repair.new.pivots = record {
      count = n;
      middle = v;
      pivots = c.install.new.pivots;
      installs = i;
      costs = least;
      repairs = c.if-not-repair.ensures.repairs;
    } in
    λ p e. ends_optimal p c.args.limit c.args.columns.now u c.repair.new.pivots (subst (λ (x : Table). IsColumnList x.plain c.args.columns.now) e c.requires.listed)
    (subst (λ (x : Table). WarmEnds c.args.limit c.args.columns.now x u c.repair.new.pivots) e ends)
