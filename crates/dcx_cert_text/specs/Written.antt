-- The lines of a certificate, joined.
use Rattle.std.specs.Prelude.{ℕ, List, Option}
use Rattle.std.specs.List.{concat}
use Rattle.dcx_point.specs.Pairs.{Pairs}
use Rattle.dcx_cert_sections.specs.declared.section.Section.{Section}
use Rattle.dcx_cert_lines.specs.CertText.{param_lines, section_body, section_lines}

-- the lines of parameters
abbrev pub params_text : Option Pairs → List ℕ
params_text params = concat (param_lines params)

-- what stands behind the first line of a section
abbrev pub body_text : Section → List ℕ
body_text section = concat (section_body section)

-- the lines of a section, with its number
abbrev pub section_text : ℕ × Section → List ℕ
section_text numbered = concat (section_lines numbered)
