-- Where reading stops in a certificate is the first line up to which the bytes agree with none.
use Rattle.std.proofs.Common.{◌≡◌, ◌≢◌, ℕ, zero, suc, ◌+◌, ◌-◌, ◌^◌, ◌<◌, ◌≤◌, ◌⊎◌, inl, inr, cond, ◌==◌, List, [], ◌∷◌, ◌++◌, length}
use Rattle.std.proofs.Common.{take, drop, replicate, refl, sym, ap, ◌∙◌, subst, arith, append_assoc, length-append}
use Rattle.std.proofs.Math.Seq.{take-append-add, take-length}
use Rattle.std.proofs.lemmas.List.{append-nil, append_cancel_left, take-append-drop, take-append-le, length-take, length-replicate}
use Rattle.std.proofs.lemmas.List.Folds.{concat-append}
use Rattle.std.proofs.lemmas.List.Sums.{sum_by-append}
use Rattle.std.proofs.lemmas.List.Elements.{recursion_from_All}
use Rattle.std.specs.List.{AllByRecursion, concat, flat_map, count_by}
use Rattle.dcx_cert_sections.specs.declared.section.Section.{Section}
use Rattle.dcx_cert_sections.specs.declared.section.Section.TheVariants as sections
use Rattle.dcx_cert_sections.specs.declared.section.Sections.{Sections}
use Rattle.dcx_cert_sections.specs.declared.section.Format.{Format}
use Rattle.dcx_cert_sections.specs.declared.section.Format.TheVariants.{One, Two}
use Rattle.dcx_cert_sections.specs.Shown.{Outline, IsSectionOf, AreSectionsOf}
use Rattle.dcx_cert_sections.specs.Formats.{IsSectionOfFormat, AreOfFormat}
use Rattle.std.specs.Prelude.{codes}
use Rattle.dcx_lines.specs.Pieces.{entry_text}
use Rattle.dcx_lines.proofs.Reading.{first_same}
use Rattle.dcx_cert_lines.specs.CertText.{Line, first_line, head_line, section_lines, all_lines}
use Rattle.dcx_cert_lines.specs.Forms.{IsCertificateOf, IsTextOf, Agrees, IsMisfit}
use Rattle.dcx_cert_lines.specs.Templates.{Template, IsFilled, AreFilled, HasNoFormat, IsSectionStop, IsInnerStop, IsFileStop, plain_template, format_front, lines_from, line_after, kind_of, kind_text}
use Rattle.dcx_cert_lines.proofs.Wholes.{section_templates, IsValid, AreValid, IsTail, tail, IsRest, rest_of, IsStuckAt, no_head, in_body, section_filled}

-- ---- each line has a line feed
abbrev pub feeds : List ℕ → ℕ
feeds xs = count_by (λ c. c == 10) xs

feeds_append : (xs ys : List ℕ) → feeds (xs ++ ys) ≡ feeds xs + feeds ys
feeds_append xs ys = sum_by-append (λ c. cond (c == 10) 1 0) xs ys

filled_feeds : (t : Template) (l : Line) → IsFilled t l → 1 ≤ feeds l
filled_feeds t l h =
    let e : feeds l ≡ feeds t.front + (feeds (flat_map entry_text h.numbers) + 1) =
    ap feeds h.is ∙ feeds_append t.front (flat_map entry_text h.numbers ++ 10 ∷ []) ∙ ap (λ n. feeds t.front + n) (feeds_append (flat_map entry_text h.numbers) (10 ∷ [])) in
    omega (arith, e)

abbrev AreEnded : List Line → Type 0
AreEnded ls = AllByRecursion (λ l. 1 ≤ feeds l) ls

filled_ended : (ts : List Template) (ls : List Line) → AreFilled ts ls → AreEnded ls
filled_ended [] [] h = tt
filled_ended [] (l ∷ ls) h = absurd h
filled_ended (t ∷ ts) [] h = absurd h
filled_ended (t ∷ ts) (l ∷ ls) h = (filled_feeds t l h.0, filled_ended ts ls h.1)

ended_append : (ls ms : List Line) → AreEnded ls → AreEnded ms → AreEnded (ls ++ ms)
ended_append [] ms h k = k
ended_append (l ∷ ls) ms h k = (h.0, ended_append ls ms h.1 k)

ended_feeds : (ls : List Line) → AreEnded ls → length ls ≤ feeds (concat ls)
ended_feeds [] h = omega arith
ended_feeds (l ∷ ls) h = omega (arith, h.0, ended_feeds ls h.1, feeds_append l (concat ls))

ended_take : (k : ℕ) (ls : List Line) → AreEnded ls → AreEnded (take k ls)
ended_take zero ls h = tt
ended_take (suc k) [] h = tt
ended_take (suc k) (l ∷ ls) h = (h.0, ended_take k ls h.1)

-- so many lines stand in the bytes only where so many line feeds do
feeds_bound : (k : ℕ) (ls : List Line) (b rest : List ℕ) → AreEnded ls → k ≤ length ls → b ≡ concat (take k ls) ++ rest → k ≤ feeds b
feeds_bound k ls b rest h enough e =
    let some = ended_feeds (take k ls) (ended_take k ls h) in
    let all : feeds b ≡ feeds (concat (take k ls)) + feeds rest = ap feeds e ∙ feeds_append (concat (take k ls)) rest in
    omega (arith, some, all, length-take k ls)

-- ---- certificates
first_filled : (format : Format) → IsFilled (plain_template (format_front format)) (first_line format)
unfolding first_line
first_filled One = record { numbers = []; counted = refl; is = refl }
first_filled Two = record { numbers = []; counted = refl; is = refl }

sections_ended : (format : Format) (outline : Outline) (n : ℕ) (list : List Section) → AreValid format outline list → AreEnded (lines_from n list)
sections_ended format outline n [] h = tt
sections_ended format outline n (s ∷ list) h =
    ended_append (section_lines (n, s)) (lines_from (n + 1) list) (filled_ended (section_templates format outline (kind_of s) n) (section_lines (n, s)) (section_filled format outline s n h.0))
    (sections_ended format outline (n + 1) list h.1)

both_valid : (format : Format) (outline : Outline) (list : List Section) → AllByRecursion (IsSectionOf outline) list → AllByRecursion (IsSectionOfFormat format) list → AreValid format outline list
both_valid format outline [] h k = tt
both_valid format outline (s ∷ list) h k = (record { shown = h.0; of_format = k.0 }, both_valid format outline list h.1 k.1)

pub valid : (format : Format) (outline : Outline) (list : List Section) → AreSectionsOf outline list → AreOfFormat format list → AreValid format outline list
valid format outline list h k = both_valid format outline list (recursion_from_All (IsSectionOf outline) list h) (recursion_from_All (IsSectionOfFormat format) list k)

shown_from : (format : Format) (outline : Outline) (list : List Section) → AreValid format outline list → AreSectionsOf outline list × AreOfFormat format list
shown_from format outline [] h = (λ k d l. absurd (omega (arith, l)), λ k d l. absurd (omega (arith, l)))
shown_from format outline (s ∷ list) h = both (shown_from format outline list h.1)
  where
    both : AreSectionsOf outline list × AreOfFormat format list → AreSectionsOf outline (s ∷ list) × AreOfFormat format (s ∷ list)
    both deeper = (by_shown, by_format)
      where
        by_shown : AreSectionsOf outline (s ∷ list)
        by_shown zero d l = h.0.shown
        by_shown (suc k) d l = deeper.0 k d (omega (arith, l))

        by_format : AreOfFormat format (s ∷ list)
        by_format zero d l = h.0.of_format
        by_format (suc k) d l = deeper.1 k d (omega (arith, l))

abbrev empties : ℕ → List Section
empties n = replicate n sections.None

empties_valid : (format : Format) (outline : Outline) (n : ℕ) → AreValid format outline (empties n)
empties_valid format outline zero = tt
empties_valid format outline (suc n) = (record { shown = tt; of_format = tt }, empties_valid format outline n)

valid_append : (format : Format) (outline : Outline) (xs ys : List Section) → AreValid format outline xs → AreValid format outline ys → AreValid format outline (xs ++ ys)
valid_append format outline [] ys h k = k
valid_append format outline (x ∷ xs) ys h k = (h.0, valid_append format outline xs ys h.1 k)

certificate : (format : Format) (outline : Outline) (count : ℕ) (list : List Section) → AreValid format outline list → length list ≡ count
    → IsCertificateOf outline count (record { format = format; list = list })
certificate format outline count list h e =
    let both = shown_from format outline list h in
    record { counted = e; shown = both.0; format = both.1 }

ended : (outline : Outline) (count : ℕ) (s : Sections) → IsCertificateOf outline count s → AreEnded (all_lines s)
ended outline count s h = (filled_feeds _ (first_line s.format) (first_filled s.format), sections_ended s.format outline 1 s.list (valid s.format outline s.list h.shown h.format))

lines_append : (n : ℕ) (xs ys : List Section) → lines_from n (xs ++ ys) ≡ lines_from n xs ++ lines_from (n + length xs) ys
lines_append n [] ys = ap (λ m. lines_from m ys) (let e : n ≡ n + 0 = omega arith in e)
lines_append n (x ∷ xs) ys =
    let place : (n + 1) + length xs ≡ n + suc (length xs) = omega arith in
    ap (λ t. section_lines (n, x) ++ t) (lines_append (n + 1) xs ys) ∙ sym (append_assoc (section_lines (n, x)) (lines_from (n + 1) xs) (lines_from ((n + 1) + length xs) ys))
    ∙ ap (λ m. (section_lines (n, x) ++ lines_from (n + 1) xs) ++ lines_from m ys) place

-- ---- the line
misfit : (outline : Outline) (count : ℕ) (bytes : List ℕ) (stop k : ℕ) → feeds bytes < 2 ^ 32 - 1 → stop ≡ line_after 1 k → Agrees outline count bytes k → (Agrees outline count bytes (k + 1) → ⊥)
    → ((s : Sections) → IsTextOf outline count bytes s → ⊥) → IsMisfit outline count bytes stop
misfit outline count bytes stop k few e before here none =
    let bound : k ≤ feeds bytes = feeds_bound k (all_lines before.sections) bytes before.rest (ended outline count before.sections before.certificate) before.enough before.begins in
    let line : stop ≡ k + 1 = omega (arith, e, bound, few) in
    record { done = k; next = line; before = before; here = λ a. here (subst (Agrees outline count bytes) line a); no_text = none }

-- the first line of a certificate tells its format
pub formats_apart : (a b : Format) (x y : List ℕ) → first_line a ++ x ≡ first_line b ++ y → a ≡ b
unfolding first_line
formats_apart One One x y e = refl
formats_apart One Two x y e = absurd (omega (arith, first_same 49 50 _ _ (append_cancel_left (codes "certificate ") (49 ∷ 10 ∷ x) (50 ∷ 10 ∷ y) e)))
formats_apart Two One x y e = absurd (omega (arith, first_same 50 49 _ _ (append_cancel_left (codes "certificate ") (50 ∷ 10 ∷ x) (49 ∷ 10 ∷ y) e)))
formats_apart Two Two x y e = refl

no_first : (outline : Outline) (count : ℕ) (bytes : List ℕ) (stop : ℕ) → feeds bytes < 2 ^ 32 - 1 → HasNoFormat bytes → stop ≡ 1 → IsMisfit outline count bytes stop
no_first outline count bytes stop few h e =
    misfit outline count bytes stop 0 few (omega (arith, e))
    (record {
      sections = record { format = One; list = empties count };
      certificate = certificate One outline count (empties count) (empties_valid One outline count) (length-replicate count sections.None);
      enough = omega arith;
      rest = bytes;
      begins = refl;
    })
    (λ a. (h.none a.sections.format).none (first_line a.sections.format) a.rest (first_filled a.sections.format) (a.begins ∙ ap (λ x. x ++ a.rest) (append-nil (first_line a.sections.format))))
    (λ s t. (h.none s.format).none (first_line s.format) (concat (lines_from 1 s.list)) (first_filled s.format) t.text)

-- ---- behind the first line
-- the first lines of certificates that stand in one place are one line
inner_rest : (a b : Format) (bytes r x : List ℕ) → bytes ≡ first_line a ++ r → bytes ≡ first_line b ++ x → (a ≡ b) × (r ≡ x)
inner_rest a b bytes r x e f =
    let same : a ≡ b = formats_apart a b r x (sym e ∙ f) in
    (same, append_cancel_left (first_line a) r x (sym e ∙ f ∙ ap (λ c. first_line c ++ x) (sym same)))

module _ (outline : Outline) (count : ℕ) (bytes : List ℕ) (format : Format) (inner : List ℕ) (begins : bytes ≡ first_line format ++ inner) (done : List Section) (rest : List ℕ)
    (own : AreValid format outline done) (written : inner ≡ concat (lines_from 1 done) ++ rest) where
  -- how many lines are read
  abbrev read_lines : ℕ
  read_lines = length (lines_from 1 done)

  -- a certificate that agrees so far, and with i + 1 more lines
  agreeing : (i : ℕ) (a : Agrees outline count bytes (suc (read_lines + i) + 1)) → IsTail format outline 1 done a.sections.list rest i a.rest
  agreeing i a = by a.sections.format a.sections.list a.certificate.shown a.certificate.format a.enough a.begins
    where
      by : (other : Format) (list : List Section) → AreSectionsOf outline list → AreOfFormat other list → suc (read_lines + i) + 1 ≤ suc (length (lines_from 1 list))
          → bytes ≡ concat (take (suc (read_lines + i) + 1) (first_line other ∷ lines_from 1 list)) ++ a.rest → IsTail format outline 1 done list rest i a.rest
      by other list shown of_format enough e =
          let number : suc (read_lines + i) + 1 ≡ suc (read_lines + suc i) = omega arith in
          let cut : bytes ≡ first_line other ++ (concat (take (read_lines + suc i) (lines_from 1 list)) ++ a.rest) =
          e ∙ ap (λ n. concat (take n (first_line other ∷ lines_from 1 list)) ++ a.rest) number ∙ append_assoc (first_line other) (concat (take (read_lines + suc i) (lines_from 1 list))) a.rest in
          let both = inner_rest format other bytes inner (concat (take (read_lines + suc i) (lines_from 1 list)) ++ a.rest) begins cut in
          tail format outline 1 done list inner rest i a.rest own (valid format outline list shown (subst (λ f. AreOfFormat f list) (sym both.0) of_format)) written both.1 (omega (arith, enough))

  -- a certificate whose text the bytes are
  whole : (s : Sections) → IsTextOf outline count bytes s → length done ≤ count → IsRest format outline 1 done s.list rest
  whole s t fewer =
      let both = inner_rest format s.format bytes inner (concat (lines_from 1 s.list)) begins t.text in
      rest_of format outline 1 done s.list inner rest own (valid format outline s.list t.certificate.shown (subst (λ f. AreOfFormat f s.list) (sym both.0) t.certificate.format)) written both.1
      (omega (arith, fewer, t.certificate.counted))

  -- a certificate that begins with the sections that are read, and with i lines of one more
  begun : (i : ℕ) (s : Section) (behind : List ℕ) → IsValid format outline s → length done < count → rest ≡ concat (take i (section_lines (1 + length done, s))) ++ behind
      → i ≤ length (section_lines (1 + length done, s)) → Agrees outline count bytes (suc (read_lines + i))
  begun i s behind ok few e enough =
      let others : List Section = empties (count - (length done + 1)) in
      let list : List Section = done ++ s ∷ others in
      let lines : lines_from 1 list ≡ lines_from 1 done ++ (section_lines (1 + length done, s) ++ lines_from ((1 + length done) + 1) others) = lines_append 1 done (s ∷ others) in
      let last : List Line = section_lines (1 + length done, s) ++ lines_from ((1 + length done) + 1) others in
      let cut : take (read_lines + i) (lines_from 1 list) ≡ lines_from 1 done ++ take i (section_lines (1 + length done, s)) =
      ap (take (read_lines + i)) lines ∙ take-append-add (lines_from 1 done) last i
      ∙ ap (λ t. lines_from 1 done ++ t) (take-append-le i (section_lines (1 + length done, s)) (lines_from ((1 + length done) + 1) others) enough) in
      record {
        sections = record { format = format; list = list };
        certificate = certificate format outline count list (valid_append format outline done (s ∷ others) own (ok, empties_valid format outline (count - (length done + 1))))
            (omega (arith, length-append done (s ∷ others), length-replicate (count - (length done + 1)) sections.None, few));
        enough = omega (arith, ap length lines, length-append (lines_from 1 done) last, length-append (section_lines (1 + length done, s)) (lines_from ((1 + length done) + 1) others), enough);
        rest = behind;
        begins =
            begins ∙ ap (λ x. first_line format ++ x) (written ∙ ap (λ x. concat (lines_from 1 done) ++ x) e
            ∙ sym (append_assoc (concat (lines_from 1 done)) (concat (take i (section_lines (1 + length done, s)))) behind)
            ∙ ap (λ x. x ++ behind) (sym (concat-append (lines_from 1 done) (take i (section_lines (1 + length done, s)))) ∙ ap concat (sym cut)))
            ∙ sym (append_assoc (first_line format) (concat (take (read_lines + i) (lines_from 1 list))) behind);
      }

-- a stop in a section, by how many of its lines stand there
pub record IsStopIn (format : Format) (outline : Outline) (n : ℕ) (rest : List ℕ) (line stop : ℕ) : Type 0 where
  pub lines : ℕ
  pub stuck : IsStuckAt format outline n rest lines
  pub counted : stop ≡ line_after line lines

stop_in : (format : Format) (outline : Outline) (n : ℕ) (rest : List ℕ) (line stop : ℕ) → line < 2 ^ 32 → IsSectionStop format outline n rest line stop → IsStopIn format outline n rest line stop
stop_in format outline n rest line stop small (inl h) = record { lines = 0; stuck = no_head format outline n rest h.0; counted = omega (arith, h.1, small) }
stop_in format outline n rest line stop small (inr h) =
    let head : rest ≡ head_line (kind_text h.kind) n ++ h.rest = h.head.written ∙ ap (λ x. x ++ h.rest) (append-nil (head_line (kind_text h.kind) n)) in
    record {
      lines = suc h.stopped.done;
      stuck = in_body format outline n rest h.kind h.rest h.stopped.done h.may head h.stopped.stuck;
      counted = omega (arith, h.stopped.counted, h.head.counted);
    }

-- reading stops in a section, or behind the last
inner_stop : (outline : Outline) (count : ℕ) (bytes : List ℕ) (stop : ℕ) → feeds bytes < 2 ^ 32 - 1 → IsInnerStop outline count bytes 1 stop → IsMisfit outline count bytes stop
inner_stop outline count bytes stop few h = by h.stops.stops
  where
    begins : bytes ≡ first_line h.format ++ h.rest
    begins = h.first.written ∙ ap (λ x. x ++ h.rest) (append-nil (first_line h.format))

    own : AreValid h.format outline h.stops.done
    own = valid h.format outline h.stops.done h.stops.read.shown h.stops.read.of_format

    written : h.rest ≡ concat (lines_from 1 h.stops.done) ++ h.stops.rest
    written = h.stops.read.read.written

    by : ((length h.stops.done < count) × IsSectionStop h.format outline (length h.stops.done + 1) h.stops.rest h.stops.next stop)
        ⊎ ((length h.stops.done ≡ count) × (h.stops.rest ≢ []) × (stop ≡ h.stops.next)) → IsMisfit outline count bytes stop
    by (inl x) = in_section x.0 x.1
      where
        in_section : length h.stops.done < count → IsSectionStop h.format outline (length h.stops.done + 1) h.stops.rest h.stops.next stop → IsMisfit outline count bytes stop
        in_section fewer stops =
            let place : length h.stops.done + 1 ≡ 1 + length h.stops.done = omega arith in
            let small : h.stops.next < 2 ^ 32 = omega (arith, h.stops.read.read.counted) in
            let at = stop_in h.format outline (1 + length h.stops.done) h.stops.rest h.stops.next stop small
            (subst (λ m. IsSectionStop h.format outline m h.stops.rest h.stops.next stop) place stops) in
            let number : stop ≡ line_after 1 (suc (read_lines outline count bytes h.format h.rest begins h.stops.done h.stops.rest own written + at.lines)) =
            omega (arith, at.counted, h.stops.read.read.counted, h.first.counted) in
            misfit outline count bytes stop (suc (length (lines_from 1 h.stops.done) + at.lines)) few number
            (begun outline count bytes h.format h.rest begins h.stops.done h.stops.rest own written at.lines at.stuck.section at.stuck.behind at.stuck.valid fewer at.stuck.begins at.stuck.enough)
            (λ a. tail_none at.lines a.rest a.sections.list at.stuck fewer a.certificate.counted (agreeing outline count bytes h.format h.rest begins h.stops.done h.stops.rest own written at.lines a))
            (λ s t. rest_none at.lines s.list at.stuck fewer t.certificate.counted (whole outline count bytes h.format h.rest begins h.stops.done h.stops.rest own written s t (omega (arith, fewer))))
          where
            tail_none : (i : ℕ) (z : List ℕ) (list : List Section) → IsStuckAt h.format outline (1 + length h.stops.done) h.stops.rest i → length h.stops.done < count → length list ≡ count
                → IsTail h.format outline 1 h.stops.done list h.stops.rest i z → ⊥
            tail_none i z list stuck fewer counted t = one t.left t.valid t.counted t.agrees
              where
                one : (left : List Section) → AreValid h.format outline left → length h.stops.done + length left ≡ length list
                    → h.stops.rest ≡ concat (take (suc i) (lines_from (1 + length h.stops.done) left)) ++ z → ⊥
                one [] ok count_left e = omega (arith, count_left, counted, fewer)
                one (s ∷ left) ok count_left e = stuck.none s (lines_from ((1 + length h.stops.done) + 1) left) z ok.0 e

            rest_none : (i : ℕ) (list : List Section) → IsStuckAt h.format outline (1 + length h.stops.done) h.stops.rest i → length h.stops.done < count → length list ≡ count
                → IsRest h.format outline 1 h.stops.done list h.stops.rest → ⊥
            rest_none i list stuck fewer counted t = one t.left t.valid t.counted t.whole
              where
                one : (left : List Section) → AreValid h.format outline left → length h.stops.done + length left ≡ length list → h.stops.rest ≡ concat (lines_from (1 + length h.stops.done) left) → ⊥
                one [] ok count_left e = omega (arith, count_left, counted, fewer)
                one (s ∷ left) ok count_left e =
                    let all : List Line = lines_from (1 + length h.stops.done) (s ∷ left) in
                    stuck.none s (lines_from ((1 + length h.stops.done) + 1) left) (concat (drop (suc i) all)) ok.0
                    (e ∙ ap concat (sym (take-append-drop (suc i) all)) ∙ concat-append (take (suc i) all) (drop (suc i) all))
    by (inr x) = behind x.0 x.1 x.2
      where
        behind : length h.stops.done ≡ count → h.stops.rest ≢ [] → stop ≡ h.stops.next → IsMisfit outline count bytes stop
        behind all more stops =
            let number : stop ≡ line_after 1 (suc (length (lines_from 1 h.stops.done) + 0)) = omega (arith, stops, h.stops.read.read.counted, h.first.counted) in
            misfit outline count bytes stop (suc (length (lines_from 1 h.stops.done) + 0)) few number
            (record {
              sections = record { format = h.format; list = h.stops.done };
              certificate = certificate h.format outline count h.stops.done own all;
              enough = omega arith;
              rest = h.stops.rest;
              begins =
                  let zero_more : length (lines_from 1 h.stops.done) + 0 ≡ length (lines_from 1 h.stops.done) = omega arith in
                  begins ∙ ap (λ x. first_line h.format ++ x) (written
                  ∙ ap (λ ls. concat ls ++ h.stops.rest) (sym (ap (λ n. take n (lines_from 1 h.stops.done)) zero_more ∙ take-length (lines_from 1 h.stops.done))))
                  ∙ sym (append_assoc (first_line h.format) (concat (take (length (lines_from 1 h.stops.done) + 0) (lines_from 1 h.stops.done))) h.stops.rest);
            })
            (λ a. tail_none a.rest a.sections.list a.certificate.counted (agreeing outline count bytes h.format h.rest begins h.stops.done h.stops.rest own written 0 a))
            (λ s t. rest_none s.list t.certificate.counted (whole outline count bytes h.format h.rest begins h.stops.done h.stops.rest own written s t (omega (arith, all))))
          where
            tail_none : (z : List ℕ) (list : List Section) → length list ≡ count → IsTail h.format outline 1 h.stops.done list h.stops.rest 0 z → ⊥
            tail_none z list counted t = one t.left t.counted t.enough
              where
                one : (left : List Section) → length h.stops.done + length left ≡ length list → 1 ≤ length (lines_from (1 + length h.stops.done) left) → ⊥
                one [] count_left enough = omega (arith, enough)
                one (s ∷ left) count_left enough = omega (arith, count_left, counted, all)

            rest_none : (list : List Section) → length list ≡ count → IsRest h.format outline 1 h.stops.done list h.stops.rest → ⊥
            rest_none list counted t = one t.left t.counted t.whole
              where
                one : (left : List Section) → length h.stops.done + length left ≡ length list → h.stops.rest ≡ concat (lines_from (1 + length h.stops.done) left) → ⊥
                one [] count_left e = more e
                one (s ∷ left) count_left e = omega (arith, count_left, counted, all)

-- reading stops at the first line up to which the bytes agree with no certificate
pub file_stop : (outline : Outline) (count : ℕ) (bytes : List ℕ) (stop : ℕ) → feeds bytes < 2 ^ 32 - 1 → IsFileStop outline count bytes 1 stop → IsMisfit outline count bytes stop
file_stop outline count bytes stop few (inl h) = no_first outline count bytes stop few h.0 h.1
file_stop outline count bytes stop few (inr h) = inner_stop outline count bytes stop few h
