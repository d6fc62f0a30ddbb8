-- Where reading stops: what may stand on each line of a certificate, but for its numbers, and what the inner functions say
-- of the lines that they read.
use Rattle.std.specs.Prelude.{◌≡◌, ◌≢◌, ◌<◌, ℕ, zero, suc, ◌+◌, ◌-◌, ◌^◌, ⊤, List, [], ◌∷◌, ◌++◌, length, map, min, ◌⊎◌, codes, decimal}
use Rattle.std.specs.List.{AllZip, IsDistinct, concat, flat_map, enumerate_from}
use Rattle.dcx_shape.specs.declared.shape.Shape.{Shape}
use Rattle.dcx_shape.specs.Shape.{sides_of}
use Rattle.dcx_shape.specs.Sides.{entries_of}
use Rattle.dcx_frac.specs.declared.fraction.Frac.{Frac}
use Rattle.dcx_atom.specs.declared.array.Array.{Array}
use Rattle.dcx_point.specs.Pairs.{Pairs, same_name}
use Rattle.dcx_lines.specs.Lines.{named_line}
use Rattle.dcx_lines.specs.Pieces.{shape_text, entry_text}
use Rattle.dcx_cert_sections.specs.Shown.{Outline, AreSectionsOf}
use Rattle.dcx_cert_sections.specs.Formats.{AreOfFormat}
use Rattle.dcx_cert_sections.specs.declared.cert.Cert.TheVariants as certs
use Rattle.dcx_cert_sections.specs.declared.section.Section.{Section}
use Rattle.dcx_cert_sections.specs.declared.section.Section.TheVariants as sections
use Rattle.dcx_cert_sections.specs.declared.section.Format.{Format}
use Rattle.dcx_cert_sections.specs.declared.section.Format.TheVariants.{One, Two}
use Rattle.dcx_cert_lines.specs.declared.kind.Kind.{Kind}
use Rattle.dcx_cert_lines.specs.declared.kind.Kind.TheVariants.{Optimal, Infeasible, Unbounded, Empty}
use Rattle.dcx_cert_lines.specs.declared.cursor.ReadStop.{ReadStop}
use Rattle.dcx_cert_lines.specs.declared.cursor.ReadStop.TheVariants.{Misfit, Memory}
use Rattle.dcx_cert_lines.specs.CertText.{Line, first_line, head_line, section_lines}

-- a line: how it begins, and how many numbers stand behind that
pub record Template : Type 0 where
  pub front : List ℕ
  pub count : ℕ

-- the line with these numbers
abbrev pub filled : List ℕ → List Frac → Line
filled front numbers = front ++ (flat_map entry_text numbers ++ 10 ∷ [])

-- the line is one of the template
pub record IsFilled (t : Template) (line : Line) : Type 0 where
  pub numbers : List Frac
  pub counted : length numbers ≡ t.count
  pub is : line ≡ filled t.front numbers

abbrev pub AreFilled : List Template → List Line → Type 0
AreFilled ts lines = AllZip IsFilled ts lines

-- the bytes begin with no line of the template
pub record HasNoLine (t : Template) (bytes : List ℕ) : Type 0 where
  pub none : (line : Line) (rest : List ℕ) → IsFilled t line → bytes ≡ line ++ rest → ⊥

-- the bytes begin with a line of the template
pub record HasLine (t : Template) (bytes rest : List ℕ) : Type 0 where
  pub line : Line
  pub fits : IsFilled t line
  pub begins : bytes ≡ line ++ rest

-- the bytes begin with lines of the first j templates, and behind them with none of the next
abbrev pub Stuck : List Template → List ℕ → ℕ → Type 0
Stuck [] bytes j = ⊥
Stuck (t ∷ ts) bytes zero = HasNoLine t bytes
Stuck (t ∷ ts) bytes (suc j) = (rest : List ℕ) × HasLine t bytes rest × Stuck ts rest j

-- ---- the templates of a certificate
abbrev pub named_front : List ℕ → List ℕ → Shape → List ℕ
named_front word name shape = word ++ codes " " ++ name ++ codes " " ++ shape_text shape ++ codes " ="

abbrev pub named_template : List ℕ → List ℕ × Shape → Template
named_template word p = record { front = named_front word p.0 p.1; count = entries_of (sides_of p.1) }

abbrev pub dual_front : ℕ → Shape → List ℕ
dual_front n shape = codes "dual " ++ decimal n ++ codes " " ++ shape_text shape ++ codes " ="

abbrev pub dual_template : ℕ × Shape → Template
dual_template p = record { front = dual_front p.0 p.1; count = entries_of (sides_of p.1) }

abbrev pub node_front : ℕ → List ℕ
node_front node = codes "node " ++ decimal node ++ codes " ="

abbrev pub node_template : ℕ × ℕ → Template
node_template p = record { front = node_front p.0; count = p.1 }

-- a word and a number
abbrev pub number_template : List ℕ → Template
number_template word = record { front = word; count = 1 }

-- a line without numbers
abbrev pub plain_template : List ℕ → Template
plain_template text = record { front = text; count = 0 }

abbrev pub kind_text : Kind → List ℕ
kind_text Optimal = codes "optimal"
kind_text Infeasible = codes "infeasible"
kind_text Unbounded = codes "unbounded"
kind_text Empty = codes "none"

abbrev pub head_front : Kind → ℕ → List ℕ
head_front kind n = codes "section " ++ decimal n ++ codes " " ++ kind_text kind

abbrev pub head_template : Kind → ℕ → Template
head_template kind n = plain_template (head_front kind n)

abbrev pub end_template : Template
end_template = plain_template (codes "end")

-- the lines of parameters
abbrev pub param_templates : Format → Outline → List Template
param_templates One outline = []
param_templates Two outline = map (named_template (codes "param")) outline.parameters

-- the lines of the constraints from one on, the first of which has this number
abbrev pub duals_from : ℕ → List Shape → List Template
duals_from n shapes = map dual_template (enumerate_from n shapes)

-- the lines of a section of this kind, behind the first
abbrev pub body_templates : Format → Outline → Kind → List Template
body_templates format outline Optimal =
    param_templates format outline ++ (number_template (codes "value")
    ∷ (map (named_template (codes "var")) outline.variables ++ (duals_from 1 outline.constraints ++ (map node_template outline.atoms ++ (end_template ∷ [])))))
body_templates format outline Infeasible =
    param_templates format outline ++ (number_template (codes "gap") ∷ (duals_from 1 outline.constraints ++ (map node_template outline.atoms ++ (end_template ∷ []))))
body_templates format outline Unbounded =
    param_templates format outline ++ (number_template (codes "bound")
    ∷ (number_template (codes "slope") ∷ (map (named_template (codes "var")) outline.variables ++ (map (named_template (codes "ray")) outline.variables ++ (end_template ∷ [])))))
body_templates format outline Empty = end_template ∷ []

-- format 1 has no unbounded answers
abbrev pub MayHead : Format → Kind → Type 0
MayHead One Optimal = ⊤
MayHead One Infeasible = ⊤
MayHead One Unbounded = ⊥
MayHead One Empty = ⊤
MayHead Two kind = ⊤

-- ---- what is read
-- the number of the line that stands so many lines behind a line, or the largest of its type where it is larger
abbrev pub line_after : ℕ → ℕ → ℕ
line_after line k = min (line + k) (2 ^ 32 - 1)

-- these lines are read, from `before` at a line on to `after` at another
pub record IsRead (lines : List Line) (before : List ℕ) (line : ℕ) (after : List ℕ) (next : ℕ) : Type 0 where
  pub written : before ≡ concat lines ++ after
  pub counted : next ≡ line_after line (length lines)

-- reading stops at a line, since it isn't of its template
pub record IsStopped (ts : List Template) (before : List ℕ) (line stop : ℕ) : Type 0 where
  pub done : ℕ
  pub stuck : Stuck ts before done
  pub counted : stop ≡ line_after line done

-- nothing is read
pub record IsSame (before : List ℕ) (line : ℕ) (after : List ℕ) (next : ℕ) : Type 0 where
  pub rest : after ≡ before
  pub counted : next ≡ line

-- the fact, where the stop is a line that doesn't fit; of want of memory nothing is said
abbrev pub IfMisfit : Type 0 → ReadStop → Type 0
IfMisfit P Misfit = P
IfMisfit P Memory = ⊤

-- no name stands twice
abbrev pub AreDistinctNames : List (List ℕ × Shape) → Type 0
AreDistinctNames slots = IsDistinct same_name (map (λ p. p.0) slots)

-- one more array is read under a word, and stands behind the others under its name
pub record IsNextRead (word : List ℕ) (slot : List ℕ × Shape) (old new : Pairs) (before : List ℕ) (line : ℕ) (after : List ℕ) (next : ℕ) : Type 0 where
  pub array : Array
  pub shape : array.shape ≡ slot.1
  pub put : new ≡ old ++ (slot.0, array) ∷ []
  pub read : IsRead (named_line word (slot.0, array) ∷ []) before line after next

-- the bytes begin with the first line of no section that may stand there
pub record HasNoHead (format : Format) (n : ℕ) (bytes : List ℕ) : Type 0 where
  pub none : (kind : Kind) → MayHead format kind → HasNoLine (head_template kind n) bytes

-- how a certificate begins
abbrev pub format_front : Format → List ℕ
format_front One = codes "certificate 1"
format_front Two = codes "certificate 2"

-- the bytes begin with the first line of no certificate
pub record HasNoFormat (bytes : List ℕ) : Type 0 where
  pub none : (format : Format) → HasNoLine (plain_template (format_front format)) bytes

-- of the parameters, and of the variables, no two have one name
pub record HasDistinctNames (outline : Outline) : Type 0 where
  pub parameters : AreDistinctNames outline.parameters
  pub variables : AreDistinctNames outline.variables

-- a section of a kind begins, and reading stops behind its first line
pub record IsBodyStop (format : Format) (outline : Outline) (n : ℕ) (before : List ℕ) (line stop : ℕ) : Type 0 where
  pub kind : Kind
  pub may : MayHead format kind
  pub rest : List ℕ
  pub next : ℕ
  pub head : IsRead (head_line (kind_text kind) n ∷ []) before line rest next
  pub stopped : IsStopped (body_templates format outline kind) rest next stop

-- reading stops in a section
abbrev pub IsSectionStop : Format → Outline → ℕ → List ℕ → ℕ → ℕ → Type 0
IsSectionStop format outline n before line stop = (HasNoHead format n before × (stop ≡ line)) ⊎ IsBodyStop format outline n before line stop

-- the kind of a section
abbrev pub kind_of : Section → Kind
kind_of (sections.Cert (certs.Optimal value point duals weights params)) = Optimal
kind_of (sections.Cert (certs.Infeasible duals gap weights params)) = Infeasible
kind_of (sections.Cert (certs.Unbounded point ray bound slope params)) = Unbounded
kind_of sections.None = Empty

-- the lines of sections that are numbered from n
abbrev pub lines_from : ℕ → List Section → List Line
lines_from n list = flat_map section_lines (enumerate_from n list)

-- sections for the problem, in the format, that are read one after another
pub record AreRead (format : Format) (outline : Outline) (done : List Section) (before : List ℕ) (line : ℕ) (after : List ℕ) (next : ℕ) : Type 0 where
  pub shown : AreSectionsOf outline done
  pub of_format : AreOfFormat format done
  pub read : IsRead (lines_from 1 done) before line after next

-- reading stops behind some sections: in the next one, or at what stands behind the last
pub record IsListStop (format : Format) (outline : Outline) (count : ℕ) (before : List ℕ) (line stop : ℕ) : Type 0 where
  pub done : List Section
  pub rest : List ℕ
  pub next : ℕ
  pub read : AreRead format outline done before line rest next
  pub stops : ((length done < count) × IsSectionStop format outline (length done + 1) rest next stop) ⊎ ((length done ≡ count) × (rest ≢ []) × (stop ≡ next))

-- reading stops behind the first line
pub record IsInnerStop (outline : Outline) (count : ℕ) (before : List ℕ) (line stop : ℕ) : Type 0 where
  pub format : Format
  pub rest : List ℕ
  pub next : ℕ
  pub first : IsRead (first_line format ∷ []) before line rest next
  pub stops : IsListStop format outline count rest next stop

-- reading stops in a certificate
abbrev pub IsFileStop : Outline → ℕ → List ℕ → ℕ → ℕ → Type 0
IsFileStop outline count before line stop = (HasNoFormat before × (stop ≡ line)) ⊎ IsInnerStop outline count before line stop
