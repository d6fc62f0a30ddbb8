-- Names, shapes, counts and order of a certificate, and of a problem as far as a certificate shows it.
use Rattle.std.specs.Prelude.{◌≡◌, ⊤, ℕ, List, map, length, Option, Some, None}
use Rattle.std.specs.List.{All}
use Rattle.dcx_shape.specs.declared.shape.Shape.{Shape}
use Rattle.dcx_atom.specs.declared.array.Array.{Array}
use Rattle.dcx_point.specs.Pairs.{Pairs}
use Rattle.dcx_lines.specs.Shown.{variables_of, constraints_of}
use Rattle.dcx_cert_sections.specs.declared.weights.NodeWeights.{NodeWeights}
use Rattle.dcx_cert_sections.specs.declared.cert.Cert.{Cert}
use Rattle.dcx_cert_sections.specs.declared.cert.Cert.TheVariants.{Optimal, Infeasible, Unbounded}
use Rattle.dcx_cert_sections.specs.declared.section.Section.{Section}
use Rattle.dcx_cert_sections.specs.declared.section.Section.TheVariants as sections

-- a problem, as far as its certificates show it
pub record Outline : Type 0 where
  -- the name and the shape of each parameter, and of each variable, in order of declaration
  pub parameters : List (List ℕ × Shape)
  pub variables : List (List ℕ × Shape)
  -- the shape of each constraint, in order
  pub constraints : List Shape
  -- each atom node that has a variable below it, in order, and how many rows its graph has
  pub atoms : List (ℕ × ℕ)

-- the node of each list of weights, and how many they are
abbrev pub atoms_of : List NodeWeights → List (ℕ × ℕ)
atoms_of weights = map (λ w. (w.node.0, length w.numbers)) weights

-- the values are those of these parameters, where they are told
abbrev pub AreParams : Outline → Option Pairs → Type 0
AreParams outline None = ⊤
AreParams outline (Some values) = variables_of values ≡ outline.parameters

-- names, shapes, counts and order of an optimal answer are those of the problem
pub record IsOptimalOf (outline : Outline) (point : Pairs) (duals : List Array) (weights : List NodeWeights) (params : Option Pairs) : Type 0 where
  pub variables : variables_of point ≡ outline.variables
  pub constraints : constraints_of duals ≡ outline.constraints
  pub atoms : atoms_of weights ≡ outline.atoms
  pub parameters : AreParams outline params

-- the same of an infeasible one
pub record IsInfeasibleOf (outline : Outline) (duals : List Array) (weights : List NodeWeights) (params : Option Pairs) : Type 0 where
  pub constraints : constraints_of duals ≡ outline.constraints
  pub atoms : atoms_of weights ≡ outline.atoms
  pub parameters : AreParams outline params

-- and of an unbounded one
pub record IsUnboundedOf (outline : Outline) (point ray : Pairs) (params : Option Pairs) : Type 0 where
  pub variables : variables_of point ≡ outline.variables
  pub ray_variables : variables_of ray ≡ outline.variables
  pub parameters : AreParams outline params

-- the certificate has the names, the shapes, the counts and the order of the problem
abbrev pub IsCertOf : Outline → Cert → Type 0
IsCertOf outline (Optimal value point duals weights params) = IsOptimalOf outline point duals weights params
IsCertOf outline (Infeasible duals gap weights params) = IsInfeasibleOf outline duals weights params
IsCertOf outline (Unbounded point ray bound slope params) = IsUnboundedOf outline point ray params

-- an empty section has nothing that could differ
abbrev pub IsSectionOf : Outline → Section → Type 0
IsSectionOf outline (sections.Cert cert) = IsCertOf outline cert
IsSectionOf outline sections.None = ⊤

-- each section is of the problem
abbrev pub AreSectionsOf : Outline → List Section → Type 0
AreSectionsOf outline list = All (IsSectionOf outline) list
