-- The lines of a certificate, each with its line feed, and their bytes.
use Rattle.std.specs.Prelude.{ℕ, List, [], ◌∷◌, ◌++◌, Option, Some, None, codes, decimal, map}
use Rattle.std.specs.List.{concat, flat_map, enumerate_from}
use Rattle.dcx_atom.specs.declared.array.Array.{Array}
use Rattle.dcx_point.specs.Pairs.{Pairs}
use Rattle.dcx_lines.specs.Pieces.{entry_text}
use Rattle.dcx_lines.specs.Lines.{named_line, dual_line, number_line}
use Rattle.dcx_cert_sections.specs.declared.weights.NodeWeights.{NodeWeights}
use Rattle.dcx_cert_sections.specs.declared.cert.Cert.TheVariants.{Optimal, Infeasible, Unbounded}
use Rattle.dcx_cert_sections.specs.declared.section.Format.{Format}
use Rattle.dcx_cert_sections.specs.declared.section.Format.TheVariants.{One, Two}
use Rattle.dcx_cert_sections.specs.declared.section.Section.{Section}
use Rattle.dcx_cert_sections.specs.declared.section.Section.TheVariants as sections
use Rattle.dcx_cert_sections.specs.declared.section.Sections.{Sections}

-- bytes, the last of which is a line feed
abbrev pub Line : Type 0
Line = List ℕ

-- certificate 1, or certificate 2
unfoldable pub first_line : Format → Line
first_line One = codes "certificate 1" ++ codes "\n"
first_line Two = codes "certificate 2" ++ codes "\n"

-- section NUMBER KIND
unfoldable pub head_line : List ℕ → ℕ → Line
head_line kind number = codes "section " ++ decimal number ++ codes " " ++ kind ++ codes "\n"

-- node NODE = NUMBER NUMBER ..
unfoldable pub node_line : NodeWeights → Line
node_line w = codes "node " ++ decimal w.node.0 ++ codes " =" ++ flat_map entry_text w.numbers ++ codes "\n"

-- end
unfoldable pub end_line : Line
end_line = codes "end" ++ codes "\n"

-- a line for each pair, under a word
abbrev pub named_lines : List ℕ → Pairs → List Line
named_lines word pairs = map (named_line word) pairs

-- a line for each parameter, where the setting's values are told
abbrev pub param_lines : Option Pairs → List Line
param_lines None = []
param_lines (Some values) = named_lines (codes "param") values

-- a line for each constraint, numbered from 1
abbrev pub dual_lines : List Array → List Line
dual_lines duals = map dual_line (enumerate_from 1 duals)

-- a line for each atom
abbrev pub node_lines : List NodeWeights → List Line
node_lines weights = map node_line weights

-- the word for what a section shows
abbrev pub section_word : Section → List ℕ
section_word (sections.Cert (Optimal value point duals weights params)) = codes "optimal"
section_word (sections.Cert (Infeasible duals gap weights params)) = codes "infeasible"
section_word (sections.Cert (Unbounded point ray bound slope params)) = codes "unbounded"
section_word sections.None = codes "none"

-- the lines of a section behind its first
abbrev pub section_body : Section → List Line
section_body (sections.Cert (Optimal value point duals weights params)) =
    param_lines params ++ (number_line (codes "value") value ∷ (named_lines (codes "var") point ++ (dual_lines duals ++ (node_lines weights ++ (end_line ∷ [])))))
section_body (sections.Cert (Infeasible duals gap weights params)) =
    param_lines params ++ (number_line (codes "gap") gap ∷ (dual_lines duals ++ (node_lines weights ++ (end_line ∷ []))))
section_body (sections.Cert (Unbounded point ray bound slope params)) =
    param_lines params ++ (number_line (codes "bound") bound ∷ (number_line (codes "slope") slope ∷ (named_lines (codes "var") point ++ (named_lines (codes "ray") ray ++ (end_line ∷ [])))))
section_body sections.None = end_line ∷ []

-- a section, with its number
abbrev pub section_lines : ℕ × Section → List Line
section_lines (n, section) = head_line (section_word section) n ∷ section_body section

-- all lines of a certificate, whose sections are numbered from 1
abbrev pub all_lines : Sections → List Line
all_lines s = first_line s.format ∷ flat_map section_lines (enumerate_from 1 s.list)

-- the bytes of a certificate
abbrev pub cert_text : Sections → List ℕ
cert_text s = concat (all_lines s)
