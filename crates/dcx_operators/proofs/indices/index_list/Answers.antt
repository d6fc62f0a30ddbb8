-- A list has as many values as it has items.
use Rattle.std.proofs.Common.{◌≡◌, map, length, sym, rules}
use Rattle.std.proofs.lemmas.List.{length-map}
use Rattle.dcx_script_values.specs.Meant.{meant}
use Rattle.dcx_operators.proofs.indices.index_list.Goals as goal

pub returns-in-At : goal.returns-in-At
returns-in-At c =
    let few : length c.args.values.now ≡ length (map meant c.args.values.now) = sym (length-map c.args.values.now meant) in
    let place = rw few at c.counted.ensures in
    λ s. let item = rw place at (c.item_at.ensures s) in search rules
