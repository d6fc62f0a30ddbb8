-- One place more of the run.
use Rattle.std.proofs.Common.{◌≡◌, ◌+◌, map, [], ◌∷◌, ◌++◌, arith, ◌∙◌, ap}
use Rattle.std.proofs.lemmas.List.FromFn.{map-range_with_len_more}
use Rattle.dcx_shape.specs.Places.{places_below}
use Rattle.dcx_shape.specs.Run.{run_place}
use Rattle.dcx_shape.proofs.run.Run.places.Goals as goal

pub loop-k-preserved : goal.loop-k-preserved
loop-k-preserved c =
    let more : map (run_place c.args.self.now) (places_below (c.loop-k.k + 1)) ≡ map (run_place c.args.self.now) (places_below c.loop-k.k)
    ++ run_place c.args.self.now c.loop-k.k ∷ [] = map-range_with_len_more (run_place c.args.self.now) 0 c.loop-k.k c.loop-k.k (omega arith) in
    grind (arith, more)

pub returns-clause-ok : goal.returns-clause-ok
returns-clause-ok c = c.from_vec.ensures ∙ c.loop-k.invariant ∙ ap (λ n. map (run_place c.args.self.now) (places_below n)) (omega arith)
