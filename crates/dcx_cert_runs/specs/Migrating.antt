-- A certificate with the settings' values.
use Rattle.std.specs.Prelude.{◌≡◌, ℕ, List, length, Option, Some, None, slice_get}
use Rattle.dcx_point.specs.Pairs.{Pairs}
use Rattle.dcx_tree.specs.declared.problem.Problem.{Problem}
use Rattle.dcx_cert_sections.specs.declared.cert.Cert.TheVariants.{Optimal, Infeasible, Unbounded}
use Rattle.dcx_cert_sections.specs.declared.section.Section.{Section}
use Rattle.dcx_cert_sections.specs.declared.section.Section.TheVariants as sections
use Rattle.dcx_cert_sections.specs.declared.section.Sections.{Sections}
use Rattle.dcx_cert_sections.specs.declared.section.Format.TheVariants.{Two}
use Rattle.dcx_cert_build.specs.Built.{values_in}

-- the values as they are told, or else the setting's, in order of declaration
abbrev pub told_or : Problem → Pairs → Option Pairs → Option Pairs
told_or p setting None = Some (values_in p setting)
told_or p setting (Some values) = Some values

-- a section with them
abbrev pub with_values : Problem → Pairs → Section → Section
with_values p setting (sections.Cert (Optimal value point duals weights params)) = sections.Cert (Optimal value point duals weights (told_or p setting params))
with_values p setting (sections.Cert (Infeasible duals gap weights params)) = sections.Cert (Infeasible duals gap weights (told_or p setting params))
with_values p setting (sections.Cert (Unbounded point ray bound slope params)) = sections.Cert (Unbounded point ray bound slope (told_or p setting params))
with_values p setting sections.None = sections.None

-- the same sections in format 2, each with the values of its setting
pub record IsMigrated (p : Problem) (settings : List Pairs) (before after : Sections) : Type 0 where
  pub format : after.format ≡ Two
  pub count : length after.list ≡ length before.list
  pub each : (k : ℕ) (s : Pairs) (x : Section) → slice_get settings k ≡ Some s → slice_get before.list k ≡ Some x → slice_get after.list k ≡ Some (with_values p s x)
