-- One more entry is listed, with the next unknown where it has its own, and else with that of its mirror.
use Rattle.std.proofs.Common.{◌≡◌, ◌<◌, length, true, false, arith, sym, ap, ◌∙◌}
use Rattle.std.proofs.lemmas.List.FromFn.{length-map-range_with_len}
use Rattle.dcx_shape.specs.Sides.{entries_of}
use Rattle.dcx_unknowns.specs.Own.{is_own, source_of, listed_for}
use Rattle.dcx_unknowns.specs.Unknowns.{demanded, sides_in, unknown_from}
use Rattle.dcx_unknowns.proofs.Places.{own_before-lt}
use Rattle.dcx_unknowns.proofs.Sources.{own_listed_next, other_listed_next}
use Rattle.dcx_unknowns.proofs.variable.entry_unknowns.Goals as goal
use Rattle.dcx_unknowns.proofs.variable.entry_unknowns.Goals.{then-is_own+in_ok-push, else-is_own+in_ok-push-2}

pub overflow_add-next : goal.overflow_add-next
overflow_add-next c =
    let v = c.args.variable.now in
    let there : c.entries.entry < entries_of (sides_in v) = omega (arith, c.entries-test.true, c.size-entry-end.ensures.value) in
    let below = own_before-lt (demanded v) (sides_in v) c.entries.entry there (sym c.is_own.ensures ∙ c.if-is_own.true) in
    omega (arith, below, c.entries.invariant.next_is, c.requires.fits)

pub mirrored-requires-clause-listed : goal.mirrored-requires-clause-listed
mirrored-requires-clause-listed c =
    let v = c.args.variable.now in
    ap length c.deref.ensures.value ∙ ap length c.entries.invariant.listed ∙ length-map-range_with_len (unknown_from c.args.first v) 0 c.entries.entry

pub entries-preserved : goal.entries-preserved
entries-preserved c =
    let v = c.args.variable.now in
    let there : c.entries.entry < entries_of (sides_in v) = omega (arith, c.entries-test.true, c.size-entry-end.ensures.value) in
    elim c.if-is_own.branch [
      | then-is_own+in_ok-push w ↦
          let own : is_own (demanded v) (sides_in v) c.entries.entry ≡ true = sym c.is_own.ensures ∙ w.if-is_own.true in
          let s = own_listed_next c.args.first (demanded v) (sides_in v) c.entries.entry c.entries.unknowns.items w.push.new.self.items c.entries.invariant.listed c.entries.next own
          c.entries.invariant.next_is w.in_ok-push.ensures.items in
          record { listed = ap (λ u. u.items) w.unknowns-is ∙ s.0; next_is = w.next-is ∙ s.1 }
      | else-is_own+in_ok-push-2 w ↦
          let other : is_own (demanded v) (sides_in v) c.entries.entry ≡ false = sym c.is_own.ensures ∙ w.if-is_own.false in
          let at = w.mirrored.ensures ∙ ap (λ xs. listed_for xs (source_of (demanded v) (sides_in v) c.entries.entry)) w.deref.ensures.value in
          let s = other_listed_next c.args.first (demanded v) (sides_in v) c.entries.entry c.entries.unknowns.items w.push-else-is_own.new.self.items c.entries.invariant.listed c.entries.next
          w.mirrored.result c.requires.square there other
          c.entries.invariant.next_is at w.in_ok-push-2.ensures.items in
          record { listed = ap (λ u. u.items) w.unknowns-is ∙ s.0; next_is = w.next-is ∙ s.1 }
    ]
