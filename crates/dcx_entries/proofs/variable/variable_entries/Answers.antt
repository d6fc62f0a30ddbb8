-- The entries so far are the forms of the unknowns passed.
use Rattle.std.proofs.Common.{◌≡◌, ℕ, ◌+◌, ◌<◌, List, [], ◌∷◌, ◌++◌, map, take, length, get_or, sym, ap, ◌∙◌, arith}
use Rattle.std.proofs.lemmas.List.{map_more, take_all}
use Rattle.dcx_entries.specs.Parts.{form_of_unknown}
use Rattle.dcx_entries.specs.Entries.{alone}
use Rattle.dcx_entries.proofs.variable.variable_entries.Goals as goal

-- what is made of one more is pushed
pushed_more : {X Y : Type 0} (f : X → Y) (xs : List X) (i : ℕ) (d : X) (made pushed : List Y) → i < length xs → made ≡ map f (take i xs) → pushed ≡ made ++ f (get_or xs i d) ∷ []
    → pushed ≡ map f (take (i + 1) xs)
pushed_more f xs i d made pushed lt so_far push = push ∙ ap (λ ys. ys ++ f (get_or xs i d) ∷ []) so_far ∙ sym (map_more f xs i d lt)

pub unknowns-preserved : goal.unknowns-preserved
unknowns-preserved g c =
    pushed_more (λ u. alone (form_of_unknown g.C.Coef.of_number u)) c.args.unknowns.now c.unknowns.unknown-index _ c.unknowns.entries.items _ (omega arith) c.unknowns.invariant
    c.in_ok-push_unknown.ensures

pub returns : goal.returns
returns g c =
    c.from_vec.ensures ∙ c.unknowns.invariant
    ∙ ap (λ us. map (λ u. alone (form_of_unknown g.C.Coef.of_number u)) us) (take_all c.unknowns.unknown-index c.args.unknowns.now (omega arith))
