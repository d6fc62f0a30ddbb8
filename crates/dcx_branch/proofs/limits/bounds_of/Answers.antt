-- The bounds of one more entry, until none is left.
use Rattle.std.proofs.Common.{◌≡◌, ℕ, ◌+◌, ◌<◌, List, ◌++◌, length, drop, get_or, sym, ap, ◌∙◌, rules}
use Rattle.std.proofs.lemmas.List.{drop_all, get_or_default}
use Rattle.std.proofs.lemmas.Result.{err_from_is_err_and}
use Rattle.dcx_right.specs.Boxes.{Bounds, mark_bounds}
use Rattle.dcx_branch.specs.declared.bound.BoundAt.{BoundAt}
use Rattle.dcx_branch.specs.declared.place.Place.{Place}
use Rattle.dcx_branch.specs.declared.side.Side.{Side}
use Rattle.dcx_branch.specs.Rows.{bounds_of}
use Rattle.dcx_branch.specs.Sides.{limits_of, sided, box_bounds}
use Rattle.dcx_branch.proofs.Lists.{joins, ends, bounds_more}
use Rattle.dcx_branch.proofs.limits.bounds_of.Goals as goal

place_more : (ps : List Place) (ds : List Side) (i : ℕ) (d : Place) (b : Bounds) (before after : List BoundAt) → i < length ps → before ++ box_bounds (drop i ps) ds ≡ box_bounds ps ds
    → after ≡ before ++ bounds_of (get_or ps i d) b
    → b ≡ sided (mark_bounds (get_or ps i d).whole) (get_or ps i d).variable (get_or ps i d).entry ds → after ++ box_bounds (drop (i + 1) ps) ds ≡ box_bounds ps ds
place_more ps ds i d b before after lt was added is =
    let q = get_or ps i d in
    let own = sided (mark_bounds q.whole) q.variable q.entry ds in
    joins before after (bounds_of q own) (box_bounds (drop (i + 1) ps) ds) (box_bounds ps ds) (added ∙ ap (λ (x : Bounds). before ++ bounds_of q x) is)
    (ap (λ l. before ++ l) (sym (bounds_more ps ds i q lt (get_or_default ps i d q lt))) ∙ was)

pub places-init : goal.places-init
places-init c = ap (λ xs. xs ++ box_bounds c.args.places.now c.args.sides.now) c.new-bounds.ensures.items

pub places-smaller : goal.places-smaller
places-smaller c = search rules

pub places-preserved : goal.places-preserved
places-preserved c =
    place_more c.args.places.now c.args.sides.now c.places.place-index _ (limits_of c.limits_at.result) c.places.bounds.items c.push_bounds.new.bounds.items c.places-test.true c.places.invariant
    c.in_ok-push_bounds.ensures c.limits_at.ensures

pub returns-in_err-push_bounds : goal.returns-in_err-push_bounds
returns-in_err-push_bounds c = let p = err_from_is_err_and c.from_residual.result c.from_residual.ensures.1 in rw p.1 tt

pub returns : goal.returns
returns c =
    let ps = c.args.places.now in
    let ds = c.args.sides.now in
    let i = c.places.place-index in
    ends c.places.bounds.items (box_bounds (drop i ps) ds) (box_bounds ps ds) (ap (λ (qs : List Place). box_bounds qs ds) (drop_all i ps c.places-test.false)) c.places.invariant
