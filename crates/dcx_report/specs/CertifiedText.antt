-- The lines of a check of a certificate.
use Rattle.std.specs.Prelude.{ℕ, List, [], ◌++◌, codes, decimal}
use Rattle.dcx_frac.specs.declared.fraction.Frac.{Frac}
use Rattle.dcx_lines.specs.Pieces.{entry_text}
use Rattle.dcx_answer.specs.declared.cert_fault.CertFault.{CertFault}
use Rattle.dcx_answer.specs.declared.cert_fault.CertFault.TheVariants.{Form, Fit, Setting, Domain, Constraint, Value, DualSign, Gap, Slope, Variable}
use Rattle.dcx_answer.specs.declared.cert_fault.CertFault.TheVariants.{Bound, Descent, RayDomain, RayConstraint, RayValue, Wide, Memory}
use Rattle.dcx_report.specs.Pieces.{passes_text}
use Rattle.dcx_report.specs.StopText.{stop_name}

-- a blank and the count
unfoldable pub index_text : ℕ → List ℕ
index_text index = codes " " ++ decimal index

-- two numbers
unfoldable pub numbers_text : (first second : Frac) → List ℕ
numbers_text first second = entry_text first ++ entry_text second

-- a number at an entry of a variable or a constraint
unfoldable pub number_at_text : (index entry : ℕ) → Frac → List ℕ
number_at_text index entry number = index_text index ++ index_text entry ++ entry_text number

-- two numbers at an entry of a parameter, a constraint or a node
unfoldable pub numbers_at_text : (index entry : ℕ) (first second : Frac) → List ℕ
numbers_at_text index entry first second = index_text index ++ index_text entry ++ numbers_text first second

-- the name of a fault
unfoldable pub fault_name : CertFault → List ℕ
fault_name (Form line) = codes "Form"
fault_name (Fit stop) = codes "Fit"
fault_name (Setting parameter entry stated found) = codes "Setting"
fault_name (Domain variable entry value) = codes "Domain"
fault_name (Constraint constraint entry left right) = codes "Constraint"
fault_name (Value stated found) = codes "Value"
fault_name (DualSign constraint entry value) = codes "DualSign"
fault_name (Gap value) = codes "Gap"
fault_name (Slope node entry stated found) = codes "Slope"
fault_name (Variable variable entry value) = codes "Variable"
fault_name (Bound stated found) = codes "Bound"
fault_name (Descent value) = codes "Descent"
fault_name (RayDomain variable entry value) = codes "RayDomain"
fault_name (RayConstraint constraint entry left right) = codes "RayConstraint"
fault_name (RayValue stated found) = codes "RayValue"
fault_name (Wide passes) = codes "Wide"
fault_name Memory = codes "Memory"

-- what a fault carries, in order; of a stop its number and its name alone
unfoldable pub fault_details : CertFault → List ℕ
fault_details (Form line) = index_text line
fault_details (Fit stop) = codes " " ++ stop_name stop
fault_details (Setting parameter entry stated found) = numbers_at_text parameter entry stated found
fault_details (Domain variable entry value) = number_at_text variable entry value
fault_details (Constraint constraint entry left right) = numbers_at_text constraint entry left right
fault_details (Value stated found) = numbers_text stated found
fault_details (DualSign constraint entry value) = number_at_text constraint entry value
fault_details (Gap value) = entry_text value
fault_details (Slope node entry stated found) = numbers_at_text node.0 entry stated found
fault_details (Variable variable entry value) = number_at_text variable entry value
fault_details (Bound stated found) = numbers_text stated found
fault_details (Descent value) = entry_text value
fault_details (RayDomain variable entry value) = number_at_text variable entry value
fault_details (RayConstraint constraint entry left right) = numbers_at_text constraint entry left right
fault_details (RayValue stated found) = numbers_text stated found
fault_details (Wide passes) = passes_text passes
fault_details Memory = []

-- FAULT, and what the fault carries
unfoldable pub fault_text : CertFault → List ℕ
fault_text fault = fault_name fault ++ fault_details fault

-- certified SECTIONS: each section holds, and so many of them show an answer
unfoldable pub certified_text : ℕ → List ℕ
certified_text sections = codes "certified " ++ decimal sections ++ codes "\n"

-- certificate refused section SECTION FAULT, and what the fault carries
unfoldable pub cert_refused_text : ℕ → CertFault → List ℕ
cert_refused_text section fault = codes "certificate refused section " ++ decimal section ++ codes " " ++ fault_text fault ++ codes "\n"
