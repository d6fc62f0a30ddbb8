-- One more entry is appended.
use Rattle.std.proofs.Common.{◌≡◌, ℕ, ◌+◌, ◌<◌, List, [], ◌∷◌, ◌++◌, length, take, get_or, append_assoc, sym, ap, ◌∙◌}
use Rattle.std.proofs.lemmas.List.{append-nil, take_more}
use Rattle.std.proofs.lemmas.Grind.{flat_map-append}
use Rattle.std.specs.List.{flat_map}
use Rattle.dcx_frac.specs.declared.fraction.Frac.{Frac}
use Rattle.dcx_lines.specs.Pieces.{entry_text}
use Rattle.dcx_lines.proofs.pieces.put_entries.Goals as goal

one_more : (begun put now : List ℕ) (entries : List Frac) (k : ℕ) (entry : Frac) → k < length entries → entry ≡ get_or entries k entry → put ≡ begun ++ flat_map entry_text (take k entries) →
    now ≡ put ++ entry_text entry → now ≡ begun ++ flat_map entry_text (take (k + 1) entries)
one_more begun put now entries k entry lt at before added =
    let more : take (k + 1) entries ≡ take k entries ++ (entry ∷ []) = take_more entries k entry lt ∙ ap (λ (e : Frac). take k entries ++ (e ∷ [])) (sym at) in
    let texts : flat_map entry_text (take (k + 1) entries) ≡ flat_map entry_text (take k entries) ++ entry_text entry =
    ap (flat_map entry_text) more ∙ flat_map-append entry_text (take k entries) (entry ∷ []) ∙ ap (λ (t : List ℕ). flat_map entry_text (take k entries) ++ t) (append-nil (entry_text entry)) in
    added ∙ ap (λ (t : List ℕ). t ++ entry_text entry) before ∙ append_assoc begun (flat_map entry_text (take k entries)) (entry_text entry) ∙ ap (λ (t : List ℕ). begun ++ t) (sym texts)

pub loop-entry-init : goal.loop-entry-init
loop-entry-init c = sym (append-nil c.args.out.now.items)

pub loop-entry-preserved : goal.loop-entry-preserved
loop-entry-preserved c =
    one_more c.args.out.now.items c.loop-entry.out.items c.put_entry.new.out.items c.args.entries.now c.loop-entry.entry-index c.entry-item.result c.loop-entry-test.true c.entry-item.is
    c.loop-entry.invariant
    c.in_ok-put_entry.ensures
