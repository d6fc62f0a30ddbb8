-- One more value is kept, or the node isn't formed.
use Rattle.std.proofs.Common.{◌≡◌, ◌⊎◌, ◌<◌, All, List, length, Option, None, IsSome, sym, ap, subst, arith}
use Rattle.dcx_atom.specs.declared.array.Array.{Array}
use Rattle.dcx_arena.specs.Nodes.{args_at}
use Rattle.dcx_tree.specs.Values.{array_at}
use Rattle.dcx_answer.specs.declared.cert_fault.CertFault.{CertFault}
use Rattle.dcx_answer.specs.declared.cert_fault.CertFault.TheVariants.{Memory}
use Rattle.dcx_cert_values.specs.Forming.{IsUnformedAt}
use Rattle.dcx_cert_values.specs.Tables.{AreKeptValues}
use Rattle.dcx_cert_values.proofs.Keeping.{values_more, set_only, unformed}
use Rattle.dcx_cert_values.proofs.table.Values.form_node.Goals as goal

pub returns-in-Ok-clause-values : goal.returns-in-Ok-clause-values
returns-in-Ok-clause-values c =
    let p = c.args.problem.now in
    let i = c.args.node.0 in
    let arrays = c.self.inside.arrays.items in
    let view : arrays ≡ c.args.self.now = c.self.view_is in
    values_more p c.args.setting.now c.args.point.now arrays i c.in-Ok.array c.requires.there
    (subst (AreKeptValues p c.args.setting.now c.args.point.now) (sym view) c.requires.values)
    (subst (λ (xs : List (Option Array)). array_at xs i ≡ None) c.deref.ensures.value (c.is_kept.ensures.none c.if-is_kept.false))
    (subst (λ (xs : List (Option Array)). All (λ a. IsSome (array_at xs a)) (args_at p.tree i)) (sym view) c.requires.args)
    c.in-Ok.ensures.ok

pub returns-in-Err-clause-fault : goal.returns-in-Err-clause-fault
returns-in-Err-clause-fault c =
    let p = c.args.problem.now in
    let i = c.args.node.0 in
    subst (λ (f : CertFault). (f ≡ Memory) ⊎ IsUnformedAt p c.args.setting.now c.args.point.now i f) (sym c.fault_of.ensures)
    (unformed p c.args.setting.now c.args.point.now i c.requires.there _ c.in-Err.ensures.stop)

pub returns-in-Ok-clause-only : goal.returns-in-Ok-clause-only
returns-in-Ok-clause-only c =
    let i = c.args.node.0 in
    let arrays = c.self.inside.arrays.items in
    let view : arrays ≡ c.args.self.now = c.self.view_is in
    let within : i < length arrays = omega (arith, c.requires.there, ap length view, c.requires.values.sized) in
    λ j s. subst (λ (xs : List (Option Array)). (j ≡ i) ⊎ IsSome (array_at xs j)) view (set_only arrays i c.in-Ok.array within j s)
