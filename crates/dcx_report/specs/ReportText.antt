-- The bytes of the report of a run. Each line ends with a line feed.
use Rattle.std.specs.Prelude.{ℕ, List, ◌++◌, codes}
use Rattle.dcx_report.specs.declared.run.Run.{Run}
use Rattle.dcx_report.specs.declared.run.Run.TheVariants.{Usage, Refused, Checked, Solved, Certificates, Certified, CertRefused, Trial, Filtered, Ranged, ReadFault, Memory}
use Rattle.dcx_report.specs.CertifiedText.{certified_text, cert_refused_text}
use Rattle.dcx_report.specs.CheckText.{checked_text}
use Rattle.dcx_report.specs.FilterText.{filter_lines, filter_count_line}
use Rattle.dcx_report.specs.OutcomeText.{outcome_lines, count_line, warm_line}
use Rattle.dcx_report.specs.RangeText.{range_lines, range_count_line}
use Rattle.dcx_report.specs.RefusalText.{refusal_text}
use Rattle.dcx_report.specs.TrialText.{trial_lines}

-- the commands, with their operands
abbrev pub usage_text : List ℕ
usage_text =
    codes "usage: dcx check SCRIPT | solve SCRIPT | resolve SCRIPT SETTINGS | certificate SCRIPT SETTINGS | certify SCRIPT SETTINGS CERT | trial N | migrate SCRIPT SETTINGS CERT | range SCRIPT SETTINGS PARAM | iis SCRIPT SETTINGS\n"

-- the report of the run
unfoldable pub text_of : Run → List ℕ
text_of Usage = usage_text
text_of (Refused refusal) = refusal_text refusal
text_of (Checked checked) = checked_text checked
text_of (Solved word sense outcomes warm) = outcome_lines word sense outcomes ++ count_line outcomes ++ warm_line warm
text_of (Certificates text stopped) = text
text_of (Certified sections) = certified_text sections
text_of (CertRefused section fault) = cert_refused_text section fault
text_of (Trial size outcomes) = trial_lines size outcomes ++ count_line outcomes
text_of (Filtered outcomes) = filter_lines outcomes ++ filter_count_line outcomes
text_of (Ranged parameter sense outcomes) = range_lines parameter sense outcomes ++ range_count_line outcomes
text_of ReadFault = codes "fault read\n"
text_of Memory = codes "want of memory\n"
