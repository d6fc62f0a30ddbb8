-- The row stands behind the cells, entry after entry.
use Rattle.std.proofs.Common.{◌≡◌, ◌++◌, ◌∷◌, [], List, refl, append_assoc, rules, to_z-of_z, SFits}
use Rattle.std.specs.Prelude.{ℤ}
use Rattle.std.specs.Int.{w128}
use Rattle.dcx_tab.proofs.build.push_row.Goals as goal

joined : (cells entries a b c d : List ℤ) (x y z : ℤ) → a ≡ cells ++ entries → b ≡ a ++ x ∷ [] → c ≡ b ++ y ∷ [] → d ≡ c ++ z ∷ [] → d ≡ cells ++ (entries ++ x ∷ y ∷ z ∷ [])
joined cells entries a b c d x y z e f g h = rw (h, g, f, e) (simp append_assoc refl)

pub returns : goal.returns
returns c =
    let fits_z : SFits w128 c.args.z = search rules in
    let fits_w : SFits w128 c.args.w = search rules in
    let fits_right : SFits w128 c.args.right = search rules in
    joined c.args.cells.now.items c.args.entries.now _ _ _ _ c.args.z c.args.w c.args.right c.in_ok-extend_from_slice.ensures.items (simp to_z-of_z at c.in_ok-push.ensures.items)
    (simp to_z-of_z at c.in_ok-push-2.ensures.items) (simp to_z-of_z at c.in_ok-push-3.ensures.items)
