-- The laws of certificates at settings: they show the answers, are of their problem, and are one, as refusals are.
use Rattle.std.specs.Prelude.{◌≡◌, ⊤, ℕ, List, [], ◌∷◌, length, Option}
use Rattle.dcx_point.specs.Pairs.{Pairs}
use Rattle.dcx_tree.specs.declared.problem.Problem.{Problem}
use Rattle.dcx_tree.specs.Meaning.{IsAccepted}
use Rattle.dcx_answer.specs.declared.cert_fault.CertFault.{CertFault}
use Rattle.dcx_answer.specs.declared.answer.Answer.{Answer}
use Rattle.dcx_answer.specs.declared.answer.Answer.TheVariants as answers
use Rattle.dcx_cert_sections.specs.declared.cert.Cert.{Cert}
use Rattle.dcx_cert_sections.specs.declared.cert.Cert.TheVariants as certs
use Rattle.dcx_cert_sections.specs.declared.weights.NodeWeights.{NodeWeights}
use Rattle.dcx_cert_sections.specs.declared.section.Section.{Section}
use Rattle.dcx_cert_sections.specs.declared.section.Section.TheVariants as sections
use Rattle.dcx_cert_sections.specs.declared.section.Sections.{Sections}
use Rattle.dcx_cert_outline.specs.Drawn.{problem_outline}
use Rattle.dcx_cert_lines.specs.Forms.{IsCertificateOf}
use Rattle.dcx_graph.specs.Answers.{IsSameAnswer}
use Rattle.dcx_cert_runs.specs.Sections.{AreSectionsAt, IsCertificateAt}
use Rattle.dcx_cert_runs.specs.Checking.{AreShown, ArePassed, IsFirstRefused}
use Rattle.dcx_cert_runs.specs.Migrating.{IsMigrated}

-- each certificate of an answer of an accepted problem shows the answer at its setting
abbrev pub SectionsAreShown : Type 0
SectionsAreShown = (p : Problem) (limit : ℕ) (settings : List Pairs) (list : List Section) → IsAccepted p → AreSectionsAt p limit settings list → AreShown p settings list

-- it has the names, shapes, counts and order of the problem
abbrev pub CertificatesAreOf : Type 0
CertificatesAreOf = (p : Problem) (limit : ℕ) (settings : List Pairs) (c : Sections) → IsAccepted p → IsCertificateAt p limit settings c → IsCertificateOf (problem_outline p) (length settings) c

-- ---- one certificate
-- the answer that a certificate shows
abbrev pub answer_of : Cert → Answer
answer_of (certs.Optimal value point duals weights params) = answers.Optimal value point duals
answer_of (certs.Infeasible duals gap weights params) = answers.Infeasible duals gap
answer_of (certs.Unbounded point ray bound slope params) = answers.Unbounded point ray bound slope

-- the weights of a certificate, and the values that it tells of the parameters
abbrev pub weights_of : Cert → List NodeWeights
weights_of (certs.Optimal value point duals weights params) = weights
weights_of (certs.Infeasible duals gap weights params) = weights
weights_of (certs.Unbounded point ray bound slope params) = []

abbrev pub params_of : Cert → Option Pairs
params_of (certs.Optimal value point duals weights params) = params
params_of (certs.Infeasible duals gap weights params) = params
params_of (certs.Unbounded point ray bound slope params) = params

-- they show the same answer, but for what its arrays hold past their ends, by the same weights, and tell the same values
pub record IsSameCert (p : Problem) (c d : Cert) : Type 0 where
  pub answer : IsSameAnswer p (answer_of c) (answer_of d)
  pub weights : weights_of c ≡ weights_of d
  pub params : params_of c ≡ params_of d

-- both are empty, or are the same
abbrev pub IsAlike : Problem → Section → Section → Type 0
IsAlike p (sections.Cert c) (sections.Cert d) = IsSameCert p c d
IsAlike p (sections.Cert c) sections.None = ⊥
IsAlike p sections.None (sections.Cert d) = ⊥
IsAlike p sections.None sections.None = ⊤

abbrev pub AreAlike : Problem → List Section → List Section → Type 0
AreAlike p [] [] = ⊤
AreAlike p (x ∷ xs) (y ∷ ys) = IsAlike p x y × AreAlike p xs ys
AreAlike p [] (y ∷ ys) = ⊥
AreAlike p (x ∷ xs) [] = ⊥

-- settings of an accepted problem have one certificate
abbrev pub CertificatesAreOne : Type 0
CertificatesAreOne = (p : Problem) (limit : ℕ) (settings : List Pairs) (c d : Sections) → IsAccepted p → IsCertificateAt p limit settings c → IsCertificateAt p limit settings d
    → AreAlike p c.list d.list

-- ---- refusals
-- no sections both pass and have one that is refused first, and the first that is refused has one number and one fault
pub record TellsOneRefusal (p : Problem) (settings : List Pairs) (list : List Section) : Type 0 where
  pub apart : (number : ℕ) (f : CertFault) → ArePassed p settings list → IsFirstRefused p settings list number f → ⊥
  pub one : (m n : ℕ) (f g : CertFault) → IsFirstRefused p settings list m f → IsFirstRefused p settings list n g → (m ≡ n) × (f ≡ g)

abbrev pub RefusalsAreOne : Type 0
RefusalsAreOne = (p : Problem) (settings : List Pairs) (list : List Section) → TellsOneRefusal p settings list

-- a certificate is migrated to one
abbrev pub MigrationsAreOne : Type 0
MigrationsAreOne = (p : Problem) (settings : List Pairs) (before a b : Sections) → length settings ≡ length before.list → IsMigrated p settings before a → IsMigrated p settings before b → a ≡ b
