-- Whole certificates: what stops reading is the first line up to which the bytes agree with none.
use Rattle.std.proofs.Common.{◌≡◌, ℕ, suc, ◌+◌, ◌-◌, ◌≤◌, List, [], ◌∷◌, ◌++◌, Option, None, length, map, take, refl, sym, ap, ap₂, ◌∙◌, subst, arith, append_assoc, length-append}
use Rattle.std.proofs.Math.Seq.{take-append-add}
use Rattle.std.proofs.lemmas.List.{append-nil, take-append-le}
use Rattle.std.proofs.lemmas.List.Folds.{concat-append}
use Rattle.std.specs.Prelude.{codes}
use Rattle.std.specs.List.{AllByRecursion, concat}
use Rattle.dcx_cert_sections.specs.declared.cert.Cert.TheVariants as certs
use Rattle.dcx_cert_sections.specs.declared.section.Section.{Section}
use Rattle.dcx_cert_sections.specs.declared.section.Section.TheVariants as sections
use Rattle.dcx_cert_sections.specs.declared.section.Format.{Format}
use Rattle.dcx_cert_sections.specs.declared.section.Format.TheVariants.{One, Two}
use Rattle.dcx_cert_sections.specs.Shown.{Outline, IsSectionOf, AreParams, atoms_of}
use Rattle.dcx_cert_sections.specs.Formats.{IsSectionOfFormat, HasParams}
use Rattle.dcx_shape.specs.declared.shape.Shape.{Shape}
use Rattle.dcx_frac.specs.declared.fraction.Frac.{Frac}
use Rattle.dcx_atom.specs.declared.array.Array.{Array}
use Rattle.dcx_point.specs.Pairs.{Pairs}
use Rattle.dcx_lines.specs.Lines.{number_line}
use Rattle.dcx_lines.specs.Shown.{variables_of, constraints_of}
use Rattle.dcx_cert_sections.specs.declared.weights.NodeWeights.{NodeWeights}
use Rattle.dcx_cert_lines.specs.declared.kind.Kind.{Kind}
use Rattle.dcx_cert_lines.specs.declared.kind.Kind.TheVariants.{Optimal, Infeasible, Unbounded}
use Rattle.dcx_cert_lines.specs.CertText.{Line, head_line, end_line, param_lines, named_lines, dual_lines, node_lines, section_word, section_body, section_lines}
use Rattle.dcx_cert_lines.specs.Templates.{Template, IsFilled, AreFilled, Stuck, MayHead, HasNoHead, kind_of, kind_text, head_template, number_template}
use Rattle.dcx_cert_lines.specs.Templates.{named_template, node_template, duals_from, end_template, param_templates, body_templates, lines_from}
use Rattle.dcx_cert_lines.proofs.Filled.{number_is, named_filled, duals_filled, nodes_filled}
use Rattle.dcx_cert_lines.proofs.Steps.{zip_append, zip_length}
use Rattle.dcx_cert_lines.proofs.Chain.{params_filled}
use Rattle.dcx_cert_lines.proofs.Made.{stuck_begins, section_made}
use Rattle.dcx_cert_lines.proofs.Only.{one_line, one_list, not_stuck, stuck_within, one_kind}

-- ---- sections and their templates
abbrev pub section_templates : Format → Outline → Kind → ℕ → List Template
section_templates format outline kind n = head_template kind n ∷ body_templates format outline kind

-- the section is for the problem, and may stand in the format
pub record IsValid (format : Format) (outline : Outline) (s : Section) : Type 0 where
  pub shown : IsSectionOf outline s
  pub of_format : IsSectionOfFormat format s

-- these lines are those of these templates
record Fills (ts : List Template) (ls : List Line) : Type 0 where
  fills : AreFilled ts ls

fill_then : {ts us : List Template} {ls ms : List Line} → Fills ts ls → Fills us ms → Fills (ts ++ us) (ls ++ ms)
fill_then {ts} {us} {ls} {ms} h k = record { fills = zip_append IsFilled ts us ls ms h.fills k.fills }

params_fill : (format : Format) (outline : Outline) (params : Option Pairs) → AreParams outline params → HasParams format params → Fills (param_templates format outline) (param_lines params)
params_fill format outline params h k = record { fills = params_filled format outline params h k }

number_fill : (word : List ℕ) (f : Frac) → Fills (number_template word ∷ []) (number_line word f ∷ [])
number_fill word f = record { fills = (record { numbers = f ∷ []; counted = refl; is = number_is word f }, tt) }

point_fill : (word : List ℕ) (ps : Pairs) (slots : List (List ℕ × Shape)) → variables_of ps ≡ slots → Fills (map (named_template word) slots) (named_lines word ps)
point_fill word ps slots e = record { fills = subst (λ t. AreFilled (map (named_template word) t) (named_lines word ps)) e (named_filled word ps) }

duals_fill : (ds : List Array) (slots : List Shape) → constraints_of ds ≡ slots → Fills (duals_from 1 slots) (dual_lines ds)
duals_fill ds slots e = record { fills = subst (λ t. AreFilled (duals_from 1 t) (dual_lines ds)) e (duals_filled 1 ds) }

nodes_fill : (ws : List NodeWeights) (slots : List (ℕ × ℕ)) → atoms_of ws ≡ slots → Fills (map node_template slots) (node_lines ws)
nodes_fill ws slots e = record { fills = subst (λ t. AreFilled (map node_template t) (node_lines ws)) e (nodes_filled ws) }

end_fill : Fills (end_template ∷ []) (end_line ∷ [])
unfolding end_line
end_fill = record { fills = (record { numbers = []; counted = refl; is = refl }, tt) }

body_filled : (format : Format) (outline : Outline) (s : Section) → IsValid format outline s → AreFilled (body_templates format outline (kind_of s)) (section_body s)
body_filled format outline (sections.Cert (certs.Optimal value point duals weights params)) h =
    let ok = h.shown in
    let all = fill_then (params_fill format outline params ok.parameters h.of_format)
    (fill_then (number_fill (codes "value") value)
    (fill_then (point_fill (codes "var") point outline.variables ok.variables)
    (fill_then (duals_fill duals outline.constraints ok.constraints)
    (fill_then (nodes_fill weights outline.atoms ok.atoms) end_fill)))) in
    all.fills
body_filled format outline (sections.Cert (certs.Infeasible duals gap weights params)) h =
    let ok = h.shown in
    let all = fill_then (params_fill format outline params ok.parameters h.of_format)
    (fill_then (number_fill (codes "gap") gap)
    (fill_then (duals_fill duals outline.constraints ok.constraints)
    (fill_then (nodes_fill weights outline.atoms ok.atoms) end_fill))) in
    all.fills
body_filled format outline (sections.Cert (certs.Unbounded point ray bound slope params)) h =
    let ok = h.shown in
    let all = fill_then (params_fill format outline params ok.parameters h.of_format.1)
    (fill_then (number_fill (codes "bound") bound)
    (fill_then (number_fill (codes "slope") slope)
    (fill_then (point_fill (codes "var") point outline.variables ok.variables)
    (fill_then (point_fill (codes "ray") ray outline.variables ok.ray_variables) end_fill)))) in
    all.fills
body_filled format outline sections.None h = end_fill.fills

head_filled : (s : Section) (n : ℕ) → IsFilled (head_template (kind_of s) n) (head_line (section_word s) n)
unfolding head_line
head_filled (sections.Cert (certs.Optimal value point duals weights params)) n = record { numbers = []; counted = refl; is = refl }
head_filled (sections.Cert (certs.Infeasible duals gap weights params)) n = record { numbers = []; counted = refl; is = refl }
head_filled (sections.Cert (certs.Unbounded point ray bound slope params)) n = record { numbers = []; counted = refl; is = refl }
head_filled sections.None n = record { numbers = []; counted = refl; is = refl }

pub section_filled : (format : Format) (outline : Outline) (s : Section) (n : ℕ) → IsValid format outline s → AreFilled (section_templates format outline (kind_of s) n) (section_lines (n, s))
section_filled format outline s n h = (head_filled s n, body_filled format outline s h)

pub may_stand : (format : Format) (s : Section) → IsSectionOfFormat format s → MayHead format (kind_of s)
may_stand One (sections.Cert (certs.Optimal value point duals weights params)) h = tt
may_stand One (sections.Cert (certs.Infeasible duals gap weights params)) h = tt
may_stand One (sections.Cert (certs.Unbounded point ray bound slope params)) h = h.0
may_stand One sections.None h = tt
may_stand Two s h = tt

-- ---- one section after another
-- what stands behind two sections that stand in one place, where they have one kind
behind_same : (format : Format) (outline : Outline) (s t : Section) (n : ℕ) (x y : List ℕ) → IsValid format outline s → IsValid format outline t → kind_of s ≡ kind_of t
    → concat (section_lines (n, s)) ++ x ≡ concat (section_lines (n, t)) ++ y → x ≡ y
behind_same format outline s t n x y h k same e =
    one_list (section_templates format outline (kind_of t) n) (section_lines (n, s)) (section_lines (n, t)) x y
    (subst (λ a. AreFilled (section_templates format outline a n) (section_lines (n, s))) same (section_filled format outline s n h)) (section_filled format outline t n k) e

same_length : (format : Format) (outline : Outline) (s t : Section) (n : ℕ) → IsValid format outline s → IsValid format outline t → kind_of s ≡ kind_of t
    → length (section_lines (n, s)) ≡ length (section_lines (n, t))
same_length format outline s t n h k same =
    zip_length IsFilled (section_templates format outline (kind_of s) n) (section_lines (n, s)) (section_filled format outline s n h)
    ∙ ap (λ a. length (section_templates format outline a n)) same
    ∙ sym (zip_length IsFilled (section_templates format outline (kind_of t) n) (section_lines (n, t)) (section_filled format outline t n k))

-- sections with one first line have one kind
head_same : (s t : Section) (n : ℕ) (x y : List ℕ) → head_line (section_word s) n ++ x ≡ head_line (section_word t) n ++ y → kind_of s ≡ kind_of t
head_same s t n x y e = one_kind (kind_of s) (kind_of t) n _ _ x y (head_filled s n) (head_filled t n) e

abbrev pub AreValid : Format → Outline → List Section → Type 0
AreValid format outline list = AllByRecursion (IsValid format outline) list

-- what is left of sections that begin as others do: i + 1 lines behind the others still agree
pub record IsTail (format : Format) (outline : Outline) (n : ℕ) (done list : List Section) (rest : List ℕ) (i : ℕ) (z : List ℕ) : Type 0 where
  pub left : List Section
  pub valid : AreValid format outline left
  pub counted : length done + length left ≡ length list
  pub agrees : rest ≡ concat (take (suc i) (lines_from (n + length done) left)) ++ z
  pub enough : suc i ≤ length (lines_from (n + length done) left)

zero_more : (i : ℕ) → 0 + suc i ≡ suc i
zero_more i = omega arith

pub tail : (format : Format) (outline : Outline) (n : ℕ) (done list : List Section) (r rest : List ℕ) (i : ℕ) (z : List ℕ)
    → AreValid format outline done → AreValid format outline list → r ≡ concat (lines_from n done) ++ rest
    → r ≡ concat (take (length (lines_from n done) + suc i) (lines_from n list)) ++ z → length (lines_from n done) + suc i ≤ length (lines_from n list)
    → IsTail format outline n done list rest i z
tail format outline n [] list r rest i z h k e f enough =
    let here : n + 0 ≡ n = omega arith in
    let agrees : rest ≡ concat (take (suc i) (lines_from n list)) ++ z = sym e ∙ f ∙ ap (λ m. concat (take m (lines_from n list)) ++ z) (zero_more i) in
    record {
      left = list;
      valid = k;
      counted = omega arith;
      agrees = subst (λ m. rest ≡ concat (take (suc i) (lines_from m list)) ++ z) (sym here) agrees;
      enough = subst (λ m. suc i ≤ length (lines_from m list)) (sym here) (omega (arith, enough));
    }
tail format outline n (s ∷ done) [] r rest i z h k e f enough = absurd (omega (arith, enough))
tail format outline n (s ∷ done) (t ∷ list) r rest i z h k e f enough =
    let own : List Line = section_lines (n, s) in
    let others : List Line = lines_from (n + 1) done in
    let theirs : List Line = section_lines (n, t) in
    let rests : List Line = lines_from (n + 1) list in
    let first : r ≡ concat own ++ (concat others ++ rest) = e ∙ ap (λ x. x ++ rest) (concat-append own others) ∙ append_assoc (concat own) (concat others) rest in
    let m : ℕ = length (section_body s ++ others) + suc i in
    let next : length (own ++ others) + suc i ≡ suc m = omega arith in
    let begins : r ≡ concat (take (suc m) (theirs ++ rests)) ++ z = f ∙ ap (λ x. concat (take x (theirs ++ rests)) ++ z) next in
    let same : kind_of s ≡ kind_of t =
    head_same s t n (concat (section_body s) ++ (concat others ++ rest)) (concat (take m (section_body t ++ rests)) ++ z)
    (sym (append_assoc (head_line (section_word s) n) (concat (section_body s)) (concat others ++ rest)) ∙ sym first ∙ begins
    ∙ append_assoc (head_line (section_word t) n) (concat (take m (section_body t ++ rests))) z) in
    let long : length own ≡ length theirs = same_length format outline s t n h.0 k.0 same in
    let number : length (own ++ others) + suc i ≡ length theirs + (length others + suc i) = omega (arith, length-append own others, long) in
    let cut : r ≡ concat theirs ++ (concat (take (length others + suc i) rests) ++ z) =
    f ∙ ap (λ x. concat (take x (theirs ++ rests)) ++ z) number ∙ ap (λ x. concat x ++ z) (take-append-add theirs rests (length others + suc i))
    ∙ ap (λ x. x ++ z) (concat-append theirs (take (length others + suc i) rests)) ∙ append_assoc (concat theirs) (concat (take (length others + suc i) rests)) z in
    let behind : concat others ++ rest ≡ concat (take (length others + suc i) rests) ++ z =
    behind_same format outline s t n (concat others ++ rest) (concat (take (length others + suc i) rests) ++ z) h.0 k.0 same (sym first ∙ cut) in
    let room : length others + suc i ≤ length rests = omega (arith, enough, number, length-append theirs rests) in
    let deeper = tail format outline (n + 1) done list (concat others ++ rest) rest i z h.1 k.1 refl behind room in
    let place : (n + 1) + length done ≡ n + suc (length done) = omega arith in
    record {
      left = deeper.left;
      valid = deeper.valid;
      counted = omega (arith, deeper.counted);
      agrees = subst (λ x. rest ≡ concat (take (suc i) (lines_from x deeper.left)) ++ z) place deeper.agrees;
      enough = subst (λ x. suc i ≤ length (lines_from x deeper.left)) place deeper.enough;
    }

-- what is left of sections that are the whole, and begin as others do
pub record IsRest (format : Format) (outline : Outline) (n : ℕ) (done list : List Section) (rest : List ℕ) : Type 0 where
  pub left : List Section
  pub valid : AreValid format outline left
  pub counted : length done + length left ≡ length list
  pub whole : rest ≡ concat (lines_from (n + length done) left)

pub rest_of : (format : Format) (outline : Outline) (n : ℕ) (done list : List Section) (r rest : List ℕ)
    → AreValid format outline done → AreValid format outline list → r ≡ concat (lines_from n done) ++ rest → r ≡ concat (lines_from n list) → length done ≤ length list
    → IsRest format outline n done list rest
rest_of format outline n [] list r rest h k e f fewer =
    let here : n + 0 ≡ n = omega arith in
    record { left = list; valid = k; counted = omega arith; whole = subst (λ m. rest ≡ concat (lines_from m list)) (sym here) (sym e ∙ f) }
rest_of format outline n (s ∷ done) [] r rest h k e f fewer = absurd (omega (arith, fewer))
rest_of format outline n (s ∷ done) (t ∷ list) r rest h k e f fewer =
    let own : List Line = section_lines (n, s) in
    let others : List Line = lines_from (n + 1) done in
    let theirs : List Line = section_lines (n, t) in
    let rests : List Line = lines_from (n + 1) list in
    let first : r ≡ concat own ++ (concat others ++ rest) = e ∙ ap (λ x. x ++ rest) (concat-append own others) ∙ append_assoc (concat own) (concat others) rest in
    let second : r ≡ concat theirs ++ concat rests = f ∙ concat-append theirs rests in
    let same : kind_of s ≡ kind_of t =
    head_same s t n (concat (section_body s) ++ (concat others ++ rest)) (concat (section_body t) ++ concat rests)
    (sym (append_assoc (head_line (section_word s) n) (concat (section_body s)) (concat others ++ rest)) ∙ sym first ∙ second
    ∙ append_assoc (head_line (section_word t) n) (concat (section_body t)) (concat rests)) in
    let behind = behind_same format outline s t n (concat others ++ rest) (concat rests) h.0 k.0 same (sym first ∙ second) in
    let deeper = rest_of format outline (n + 1) done list (concat others ++ rest) rest h.1 k.1 refl behind (omega (arith, fewer)) in
    let place : (n + 1) + length done ≡ n + suc (length done) = omega arith in
    record {
      left = deeper.left;
      valid = deeper.valid;
      counted = omega (arith, deeper.counted);
      whole = subst (λ x. rest ≡ concat (lines_from x deeper.left)) place deeper.whole;
    }

-- ---- reading stops in a section: so many of its lines stand there, and one more of none does
pub record IsStuckAt (format : Format) (outline : Outline) (n : ℕ) (rest : List ℕ) (i : ℕ) : Type 0 where
  pub section : Section
  pub valid : IsValid format outline section
  pub behind : List ℕ
  pub begins : rest ≡ concat (take i (section_lines (n, section))) ++ behind
  pub enough : i ≤ length (section_lines (n, section))
  pub none : (s : Section) (more : List Line) (z : List ℕ) → IsValid format outline s → rest ≡ concat (take (suc i) (section_lines (n, s) ++ more)) ++ z → ⊥

pub no_head : (format : Format) (outline : Outline) (n : ℕ) (rest : List ℕ) → HasNoHead format n rest → IsStuckAt format outline n rest 0
no_head format outline n rest h = record {
  section = sections.None;
  valid = record { shown = tt; of_format = tt };
  behind = rest;
  begins = refl;
  enough = omega arith;
  none = λ s more z valid e.
      (h.none (kind_of s) (may_stand format s valid.of_format)).none (head_line (section_word s) n) z (head_filled s n)
      (e ∙ ap (λ x. x ++ z) (append-nil (head_line (section_word s) n)));
}

word_is : (s : Section) → section_word s ≡ kind_text (kind_of s)
word_is (sections.Cert (certs.Optimal value point duals weights params)) = refl
word_is (sections.Cert (certs.Infeasible duals gap weights params)) = refl
word_is (sections.Cert (certs.Unbounded point ray bound slope params)) = refl
word_is sections.None = refl

kind_filled : (kind : Kind) (n : ℕ) → IsFilled (head_template kind n) (head_line (kind_text kind) n)
unfolding head_line
kind_filled kind n = record { numbers = []; counted = refl; is = refl }

pub in_body : (format : Format) (outline : Outline) (n : ℕ) (rest : List ℕ) (kind : Kind) (inner : List ℕ) (j : ℕ) → MayHead format kind → rest ≡ head_line (kind_text kind) n ++ inner
    → Stuck (body_templates format outline kind) inner j
    → IsStuckAt format outline n rest (suc j)
in_body format outline n rest kind inner j may e stuck =
    let lines = stuck_begins (body_templates format outline kind) inner j stuck in
    let made = section_made format outline kind lines.lines may lines.fills in
    let head : List ℕ = head_line (kind_text kind) n in
    let word : section_word made.section ≡ kind_text kind = word_is made.section ∙ ap kind_text made.has_kind in
    let all : section_lines (n, made.section) ≡ head ∷ lines.lines = ap₂ (λ w ls. head_line w n ∷ ls) word made.body in
    record {
      section = made.section;
      valid = record { shown = made.shown; of_format = made.of_format };
      behind = lines.rest;
      begins = e ∙ ap (λ x. head ++ x) lines.begins ∙ sym (append_assoc head (concat (take j lines.lines)) lines.rest) ∙ ap (λ ls. concat (take (suc j) ls) ++ lines.rest) (sym all);
      enough = subst (λ ls. suc j ≤ length ls) (sym all) (omega (arith, lines.enough));
      none = λ s more z valid f. not_here s more z valid (f ∙ append_assoc (head_line (section_word s) n) (concat (take (suc j) (section_body s ++ more))) z);
    }
  where
    not_here : (s : Section) (more : List Line) (z : List ℕ) → IsValid format outline s → rest ≡ head_line (section_word s) n ++ (concat (take (suc j) (section_body s ++ more)) ++ z) → ⊥
    not_here s more z valid f =
        let here : head_line (section_word s) n ++ (concat (take (suc j) (section_body s ++ more)) ++ z) ≡ head_line (kind_text kind) n ++ inner = sym f ∙ e in
        let same : kind_of s ≡ kind = one_kind (kind_of s) kind n _ _ _ _ (head_filled s n) (kind_filled kind n) here in
        let fills : AreFilled (body_templates format outline kind) (section_body s) =
        subst (λ a. AreFilled (body_templates format outline a) (section_body s)) same (body_filled format outline s valid) in
        let both = one_line (head_template kind n) (head_line (section_word s) n)
        (head_line (kind_text kind) n) _ _ (subst (λ a. IsFilled (head_template a n) (head_line (section_word s) n)) same (head_filled s n)) (kind_filled kind n) here in
        let within : suc j ≤ length (section_body s) =
        omega (arith, stuck_within (body_templates format outline kind) inner j stuck, zip_length IsFilled (body_templates format outline kind) (section_body s) fills) in
        not_stuck (body_templates format outline kind) (section_body s) inner j fills stuck z
        (sym both.1 ∙ ap (λ x. concat x ++ z) (take-append-le (suc j) (section_body s) more within))
