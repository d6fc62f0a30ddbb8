-- The line of a refusal.
use Rattle.std.specs.Prelude.{ℕ, List, [], ◌++◌, codes, decimal}
use Rattle.dcx_refusal.specs.declared.refusal.Refusal.{Refusal}
use Rattle.dcx_refusal.specs.declared.refusal.RefusalSource.{RefusalSource}
use Rattle.dcx_refusal.specs.declared.refusal.RefusalSource.TheVariants.{Script, Settings, Certificate}
use Rattle.dcx_refusal.specs.declared.refusal.Carried.{Carried}
use Rattle.dcx_refusal.specs.declared.refusal.Carried.TheVariants as carried
use Rattle.dcx_arena.specs.declared.fault.Count.{Count}
use Rattle.dcx_arena.specs.declared.fault.Count.TheVariants.{Nodes, Entries, Items, Steps, Events}
use Rattle.dcx_rules.specs.declared.fault.Rule.{Rule}
use Rattle.dcx_rules.specs.declared.fault.Rule.TheVariants.{Composition, Minimize, Maximize, Equal, AtMost}
use Rattle.dcx_answer.specs.declared.not_ranged.NotRanged.{NotRanged}
use Rattle.dcx_answer.specs.declared.not_ranged.NotRanged.TheVariants.{Unknown, Shape, Map, Coefficient}
use Rattle.dcx_report.specs.Pieces.{place_text, passes_text}
use Rattle.dcx_refusal.specs.Refusals.{refusal_name}

-- the file that is refused
unfoldable pub source_text : RefusalSource → List ℕ
source_text Script = codes "script"
source_text Settings = codes "settings"
source_text Certificate = codes "certificate"

-- what was counted
unfoldable pub count_text : Count → List ℕ
count_text Nodes = codes "nodes"
count_text Entries = codes "entries"
count_text Items = codes "items"
count_text Steps = codes "steps"
count_text Events = codes "events"

-- the rule that is broken
unfoldable pub rule_text : Rule → List ℕ
rule_text Composition = codes "composition"
rule_text Minimize = codes "minimize"
rule_text Maximize = codes "maximize"
rule_text Equal = codes "equal"
rule_text AtMost = codes "at_most"

-- why a parameter has no range
unfoldable pub not_ranged_text : NotRanged → List ℕ
not_ranged_text Unknown = codes "unknown"
not_ranged_text Shape = codes "shape"
not_ranged_text Map = codes "map"
not_ranged_text Coefficient = codes "coefficient"

-- what stands behind the place
unfoldable pub carried_text : Carried → List ℕ
carried_text carried.Nothing = []
carried_text (carried.Count what count) = codes " " ++ count_text what ++ codes " " ++ decimal count
carried_text (carried.Rule rule) = codes " rule " ++ rule_text rule
carried_text (carried.Passes passes) = passes_text passes
carried_text (carried.NotRanged fault) = codes " " ++ not_ranged_text fault

-- refused SOURCE NUMBER NAME at PLACE, and what the refusal carries
unfoldable pub refusal_text : Refusal → List ℕ
refusal_text r =
    codes "refused " ++ source_text r.source ++ codes " " ++ decimal r.number ++ codes " " ++ refusal_name r.number
    ++ codes " at " ++ place_text r.place ++ carried_text r.carried ++ codes "\n"
