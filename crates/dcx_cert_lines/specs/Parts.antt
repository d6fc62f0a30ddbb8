-- The parts of a section, as they are read, and the section that they make.
use Rattle.std.specs.Prelude.{◌≡◌, [], None}
use Rattle.dcx_frac.specs.declared.fraction.Frac.{Frac}
use Rattle.dcx_cert_sections.specs.declared.cert.Cert.TheVariants.{Optimal, Infeasible, Unbounded}
use Rattle.dcx_cert_sections.specs.declared.section.Section.{Section}
use Rattle.dcx_cert_sections.specs.declared.section.Section.TheVariants as sections
use Rattle.dcx_cert_lines.specs.declared.section.Parts.{Parts}

-- nothing is read
pub record AreEmpty (p : Parts) : Type 0 where
  pub params : p.params ≡ None
  pub point : p.point ≡ []
  pub ray : p.ray ≡ []
  pub duals : p.duals.items ≡ []
  pub weights : p.weights.items ≡ []

abbrev pub optimal_of : Frac → Parts → Section
optimal_of value p = sections.Cert (Optimal value p.point p.duals.items p.weights.items p.params)

abbrev pub infeasible_of : Frac → Parts → Section
infeasible_of gap p = sections.Cert (Infeasible p.duals.items gap p.weights.items p.params)

abbrev pub unbounded_of : Frac → Frac → Parts → Section
unbounded_of bound slope p = sections.Cert (Unbounded p.point p.ray bound slope p.params)
