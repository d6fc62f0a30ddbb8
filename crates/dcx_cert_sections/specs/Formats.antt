-- What the two formats of a certificate allow in a section.
use Rattle.std.specs.Prelude.{⊤, List, Option, Some, None}
use Rattle.std.specs.List.{All}
use Rattle.dcx_point.specs.Pairs.{Pairs}
use Rattle.dcx_cert_sections.specs.declared.cert.Cert.{Cert}
use Rattle.dcx_cert_sections.specs.declared.cert.Cert.TheVariants.{Optimal, Infeasible, Unbounded}
use Rattle.dcx_cert_sections.specs.declared.section.Section.{Section}
use Rattle.dcx_cert_sections.specs.declared.section.Section.TheVariants as sections
use Rattle.dcx_cert_sections.specs.declared.section.Format.{Format}
use Rattle.dcx_cert_sections.specs.declared.section.Format.TheVariants.{One, Two}

-- the setting's values are told exactly where the format has them
abbrev pub HasParams : Format → Option Pairs → Type 0
HasParams One None = ⊤
HasParams One (Some values) = ⊥
HasParams Two None = ⊥
HasParams Two (Some values) = ⊤

-- format 1 has no unbounded answers
abbrev pub HasRays : Format → Type 0
HasRays One = ⊥
HasRays Two = ⊤

-- a certificate may stand in a section of this format
abbrev pub IsOfFormat : Format → Cert → Type 0
IsOfFormat format (Optimal value point duals weights params) = HasParams format params
IsOfFormat format (Infeasible duals gap weights params) = HasParams format params
IsOfFormat format (Unbounded point ray bound slope params) = HasRays format × HasParams format params

-- a section may stand in a certificate of this format
abbrev pub IsSectionOfFormat : Format → Section → Type 0
IsSectionOfFormat format (sections.Cert cert) = IsOfFormat format cert
IsSectionOfFormat format sections.None = ⊤

-- each section may
abbrev pub AreOfFormat : Format → List Section → Type 0
AreOfFormat format list = All (IsSectionOfFormat format) list
