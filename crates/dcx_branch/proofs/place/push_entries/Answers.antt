-- One more entry, until none is left.
use Rattle.std.proofs.Common.{◌≡◌, ℕ, ◌+◌, ◌<◌, List, ◌++◌, length, drop, get_or, Option, refl, sym, ap, ◌∙◌, rules}
use Rattle.std.proofs.lemmas.List.{drop_all, get_or_default}
use Rattle.std.proofs.lemmas.Result.{err_from_is_err_and}
use Rattle.dcx_call.specs.declared.attribute.Whole.{Whole}
use Rattle.dcx_branch.specs.declared.place.Place.{Place}
use Rattle.dcx_branch.specs.Places.{places_of, place_if}
use Rattle.dcx_branch.proofs.Lists.{joins, ends, places_more}
use Rattle.dcx_branch.proofs.place.push_entries.Goals as goal

entry_more : (k : ℕ) (mark : Whole) (us : List (Option ℕ)) (j : ℕ) (d : Option ℕ) (before after all : List Place) → j < length us → before ++ places_of k mark j (drop j us) ≡ all
    → after ≡ before ++ place_if k mark j (get_or us j d)
    → after ++ places_of k mark (j + 1) (drop (j + 1) us) ≡ all
entry_more k mark us j d before after all lt was added =
    let u = get_or us j d in
    joins before after (place_if k mark j u) (places_of k mark (j + 1) (drop (j + 1) us)) all added
    (ap (λ l. before ++ l) (sym (places_more k mark us j u lt (get_or_default us j d u lt))) ∙ was)

pub entries-init : goal.entries-init
entries-init c = refl

pub entries-smaller : goal.entries-smaller
entries-smaller c = search rules

pub entries-preserved : goal.entries-preserved
entries-preserved c =
    entry_more c.args.variable c.args.whole c.args.unknowns.now c.entries.entry _ c.entries.places.items c.push_entry.new.places.items _ c.entries-test.true c.entries.invariant
    c.in_ok-push_entry.ensures

pub returns-in_err-push_entry : goal.returns-in_err-push_entry
returns-in_err-push_entry c = let p = err_from_is_err_and c.from_residual.result c.from_residual.ensures.1 in rw p.1 tt

pub returns : goal.returns
returns c =
    let us = c.args.unknowns.now in
    let j = c.entries.entry in
    ends c.entries.places.items (places_of c.args.variable c.args.whole j (drop j us)) _ (ap (places_of c.args.variable c.args.whole j) (drop_all j us c.entries-test.false)) c.entries.invariant
