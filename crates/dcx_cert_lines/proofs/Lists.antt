-- Sections that are read one after another.
use Rattle.std.proofs.Common.{◌≡◌, ℕ, zero, suc, ◌+◌, ◌<◌, ◌^◌, List, [], ◌∷◌, ◌++◌, length, sym, ap, ◌∙◌, subst, arith, inl}
use Rattle.std.proofs.lemmas.List.{append-nil}
use Rattle.std.proofs.lemmas.List.Elements.{All-append}
use Rattle.std.proofs.lemmas.Grind.{flat_map-append}
use Rattle.std.specs.List.{All, flat_map, enumerate_from}
use Rattle.dcx_lines.proofs.Numbered.{enumerate_from-push}
use Rattle.dcx_cert_sections.specs.declared.section.Section.{Section}
use Rattle.dcx_cert_sections.specs.declared.section.Format.{Format}
use Rattle.dcx_cert_sections.specs.Shown.{Outline, IsSectionOf}
use Rattle.dcx_cert_sections.specs.Formats.{IsSectionOfFormat}
use Rattle.dcx_cert_lines.specs.CertText.{section_lines}
use Rattle.dcx_cert_lines.specs.Templates.{IsRead, AreRead, IsSectionStop, IsListStop, lines_from}
use Rattle.dcx_cert_lines.proofs.Steps.{read_none, read_then}

all_one : {X : Type 0} (P : X → Type 0) (x : X) → P x → All P (x ∷ [])
all_one P x p zero d l = p
all_one P x p (suc k) d l = absurd (omega (arith, l))

-- nothing is read at first
pub none_read : (format : Format) (outline : Outline) (list : List Section) (b : List ℕ) (n : ℕ) → n < 2 ^ 32 → list ≡ [] → AreRead format outline list b n b n
none_read format outline list b n small e =
    subst (λ l. AreRead format outline l b n b n) (sym e) (record { shown = λ k d l. absurd (omega (arith, l)); of_format = λ k d l. absurd (omega (arith, l)); read = read_none b n small })

lines_push : (list : List Section) (s : Section) → lines_from 1 (list ++ s ∷ []) ≡ lines_from 1 list ++ section_lines (1 + length list, s)
lines_push list s =
    ap (flat_map section_lines) (enumerate_from-push 1 list s) ∙ flat_map-append section_lines (enumerate_from 1 list) ((1 + length list, s) ∷ [])
    ∙ ap (λ t. lines_from 1 list ++ t) (append-nil (section_lines (1 + length list, s)))

-- one more section is read
pub one_more : (format : Format) (outline : Outline) (list new : List Section) (s : Section) (number : ℕ) (b : List ℕ) (n : ℕ) (r : List ℕ) (k : ℕ) (t : List ℕ) (m : ℕ)
    → AreRead format outline list b n r k
    → IsSectionOf outline s → IsSectionOfFormat format s → number ≡ 1 + length list → new ≡ list ++ s ∷ [] → IsRead (section_lines (number, s)) r k t m → AreRead format outline new b n t m
one_more format outline list new s number b n r k t m h shown of_format e put read = subst (λ l. AreRead format outline l b n t m) (sym put) (record {
  shown = All-append (IsSectionOf outline) list (s ∷ []) h.shown (all_one (IsSectionOf outline) s shown);
  of_format = All-append (IsSectionOfFormat format) list (s ∷ []) h.of_format (all_one (IsSectionOfFormat format) s of_format);
  read = subst (λ ls. IsRead ls b n t m) (sym (lines_push list s)) (read_then (lines_from 1 list) (section_lines (1 + length list, s)) b n r k t m h.read
      (subst (λ j. IsRead (section_lines (j, s)) r k t m) e read));
})

-- reading stops in the next section
pub next_stops : (format : Format) (outline : Outline) (count : ℕ) (list : List Section) (number : ℕ) (b : List ℕ) (n : ℕ) (r : List ℕ) (k stop : ℕ) → AreRead format outline list b n r k
    → length list < count → number ≡ length list + 1 → IsSectionStop format outline number r k stop → IsListStop format outline count b n stop
next_stops format outline count list number b n r k stop h few e stops =
    record { done = list; rest = r; next = k; read = h; stops = inl (few, subst (λ j. IsSectionStop format outline j r k stop) e stops) }
