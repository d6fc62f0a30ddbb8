-- The lines of a setting that is stopped.
use Rattle.std.specs.Prelude.{ℕ, List, [], ◌++◌, codes, decimal, None, Some}
use Rattle.std.specs.declared.option.Option.{Option}
use Rattle.dcx_shape.specs.declared.place.Place.{Place}
use Rattle.dcx_frac.specs.Text.{frac_text}
use Rattle.dcx_answer.specs.declared.site.Site.{Site}
use Rattle.dcx_answer.specs.declared.site.Site.TheVariants.{Node, Row, Map, Pivot, Answer}
use Rattle.dcx_answer.specs.declared.stop.Stop.{Stop}
use Rattle.dcx_answer.specs.declared.stop.Stop.TheVariants.{UnknownParam, MissingParam, ParamShape, ParamSign, TooLarge, ZeroDivisor, Wide, PivotLimit, Memory}
use Rattle.dcx_lines.specs.Pieces.{shape_text}
use Rattle.dcx_report.specs.Pieces.{place_text, passes_text}

-- the place of the node and the entry, where the stop names a node
unfoldable pub entry_at_text : Option Place → ℕ → List ℕ
entry_at_text None entry = codes " entry " ++ decimal entry
entry_at_text (Some place) entry = codes " at " ++ place_text place ++ codes " entry " ++ decimal entry

-- where an operation passes, and the operation
unfoldable pub site_text : Option Place → Site → List ℕ
site_text place (Node node entry passes) = entry_at_text place entry ++ passes_text passes
site_text place (Row row passes) = codes " row " ++ decimal row ++ passes_text passes
site_text place (Map row passes) = codes " map " ++ decimal row ++ passes_text passes
site_text place (Pivot pivots row column) =
    codes " pivot " ++ decimal pivots ++ codes " row " ++ decimal row ++ codes " column " ++ decimal column
site_text place (Answer row passes) = codes " answer " ++ decimal row ++ passes_text passes

-- the number and the name of a stop
unfoldable pub stop_name : Stop → List ℕ
stop_name (UnknownParam name) = codes "21 UnknownParam"
stop_name (MissingParam name) = codes "22 MissingParam"
stop_name (ParamShape name declared given) = codes "23 ParamShape"
stop_name (ParamSign name entry value) = codes "24 ParamSign"
stop_name (ZeroDivisor node entry) = codes "25 ZeroDivisor"
stop_name (Wide site) = codes "26 Wide"
stop_name (PivotLimit count) = codes "27 PivotLimit"
stop_name (TooLarge rows columns) = codes "28 TooLarge"
stop_name Memory = codes "31 Memory"

-- what a stop carries, with the place of the node that it names
unfoldable pub stop_details : Option Place → Stop → List ℕ
stop_details place (UnknownParam name) = codes " " ++ name
stop_details place (MissingParam name) = codes " " ++ name
stop_details place (ParamShape name declared given) =
    codes " " ++ name ++ codes " " ++ shape_text declared ++ codes " " ++ shape_text given
stop_details place (ParamSign name entry value) =
    codes " " ++ name ++ codes " entry " ++ decimal entry ++ codes " value " ++ frac_text value
stop_details place (ZeroDivisor node entry) = entry_at_text place entry
stop_details place (Wide site) = site_text place site
stop_details place (PivotLimit count) = codes " " ++ decimal count
stop_details place (TooLarge rows columns) = codes " rows " ++ decimal rows ++ codes " columns " ++ decimal columns
stop_details place Memory = []

-- what stands behind the number of a setting that is stopped
unfoldable pub stopped_text : Option Place → Stop → List ℕ
stopped_text place stop = codes " stopped " ++ stop_name stop ++ stop_details place stop ++ codes "\n"
