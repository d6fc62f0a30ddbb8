-- An item that is no such row ends it, and behind the last item nothing is left to test.
use Rattle.std.proofs.Common.{◌≡◌, ℕ, ◌+◌, ◌<◌, ◌&&◌, Bool, List, map, drop, length, get_or, refl, sym, ap, ◌∙◌, arith, drop-cons, add-one}
use Rattle.std.proofs.lemmas.List.{drop_all}
use Rattle.std.specs.List.{list_all}
use Rattle.dcx_script_values.specs.Meant.{meant}
use Rattle.dcx_script_values.specs.Kinds.{is_long}
use Rattle.dcx_script_values.proofs.reading.are_rows_of.Goals as goal

-- of what is left the first one is tested, and then the rest
all_left : {X Y : Type 0} (p : Y → Bool) (f : X → Y) (xs : List X) (i : ℕ) (x : X) → i < length xs → x ≡ get_or xs i x
    → list_all p (map f (drop i xs)) ≡ (p (f x) && list_all p (map f (drop (i + 1) xs)))
all_left p f xs i x lt is = rw (add-one, drop-cons xs i x lt, ← is) refl

pub loop-value-preserved : goal.loop-value-preserved
loop-value-preserved c =
    let left = all_left (is_long c.args.length) meant c.args.values.now c.loop-value.value-index c.value-item.result (omega arith) c.value-item.is in
    sym (left ∙ ap (λ b. b && list_all (is_long c.args.length) (map meant (drop (c.loop-value.value-index + 1) c.args.values.now)))
    (sym c.is_row_of.ensures ∙ c.if-not-is_row_of.false)) ∙ c.loop-value.invariant

pub returns-then-not-is_row_of : goal.returns-then-not-is_row_of
returns-then-not-is_row_of c =
    let left = all_left (is_long c.args.length) meant c.args.values.now c.loop-value.value-index c.value-item.result (omega arith) c.value-item.is in
    sym (left ∙ ap (λ b. b && list_all (is_long c.args.length) (map meant (drop (c.loop-value.value-index + 1) c.args.values.now)))
    (sym c.is_row_of.ensures ∙ c.if-not-is_row_of.true)) ∙ c.loop-value.invariant

pub returns : goal.returns
returns c =
    sym (ap (λ vs. list_all (is_long c.args.length) (map meant vs)) (drop_all c.loop-value.value-index c.args.values.now (omega arith))) ∙ c.loop-value.invariant
