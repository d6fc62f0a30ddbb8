-- Reading to the end of the tokens.
use Rattle.std.proofs.Common.{◌≡◌, List, [], ◌∷◌, Option, Some, None, Result, Ok, Err, refl, sym, ap, ◌∙◌, subst}
use Rattle.dcx_settings.specs.Terminal.{Terminal}
use Rattle.dcx_settings.specs.Grammar.{Line}
use Rattle.dcx_settings.specs.Reading.{AreSpelled, IsUnexpected}
use Rattle.dcx_settings.specs.Machine.{State, at, Phase, fresh, step, go, run}
use Rattle.dcx_settings.specs.Steps.{at_end, further, read}
use Rattle.dcx_settings.proofs.Soundness.{Leads}
use Rattle.dcx_settings.proofs.Viability.{begin, read_at, read_spelled, ends_unexpected}

abbrev final : Result State (List Terminal) → Result (List Line) (List Terminal)
final (Ok s) = at_end s.lines s.phase
final (Err rest) = Err rest

read_run : (us : List Terminal) (s : State) → read us s ≡ final (run us s)
read_run [] s = refl
read_run (t ∷ ts) s = by (read_run ts) (step s.lines s.phase t)
  where
    by : ((u : State) → read ts u ≡ final (run ts u)) → (o : Option State) → further (read ts) o (t ∷ ts) ≡ final (go (run ts) o (t ∷ ts))
    by more None = refl
    by more (Some u) = more u

end_lines : (ls lines : List Line) (p : Phase) → at_end ls p ≡ Ok lines → at ls p ≡ at lines fresh
end_lines ls lines fresh e = let d : ls ≡ lines = cc in ap (λ x. at x fresh) d
end_lines ls lines p e = cc

end_begun : (ls : List Line) (p : Phase) (rest : List Terminal) → at_end ls p ≡ Err rest → [] ≡ rest
end_begun ls fresh rest e = cc
end_begun ls p rest e = cc

end_other : (ls : List Line) (p : Phase) (rest : List Terminal) → at_end ls p ≡ Err rest → p ≡ fresh → ⊥
end_other ls p rest e f = let d : at_end ls fresh ≡ Err rest = subst (λ q. at_end ls q ≡ Err rest) f e in cc

-- all tokens are read: they spell the lines
pub read_lines : (us : List Terminal) (lines : List Line) → read us (at [] fresh) ≡ Ok lines → AreSpelled us lines
read_lines us lines e = by (run us begin) refl
  where
    by : (r : Result State (List Terminal)) → run us begin ≡ r → AreSpelled us lines
    by (Ok s) d = let f : at_end s.lines s.phase ≡ Ok lines = ap final (sym d) ∙ sym (read_run us begin) ∙ e in
        read_spelled us lines (subst (Leads begin us) (end_lines s.lines lines s.phase f) (read_at us (Ok s) d))
    by (Err rest) d = let f : Err rest ≡ Ok lines = ap final (sym d) ∙ sym (read_run us begin) ∙ e in cc

-- reading stops: no good lines go on so
pub read_unexpected : (us rest : List Terminal) → read us (at [] fresh) ≡ Err rest → IsUnexpected us rest
read_unexpected us rest e = by (run us begin) refl
  where
    by : (r : Result State (List Terminal)) → run us begin ≡ r → IsUnexpected us rest
    by (Ok s) d =
        let f : at_end s.lines s.phase ≡ Err rest = ap final (sym d) ∙ sym (read_run us begin) ∙ e in
        subst (IsUnexpected us) (end_begun s.lines s.phase rest f) (ends_unexpected us s (read_at us (Ok s) d) (end_other s.lines s.phase rest f))
    by (Err there) d =
        let f : Err there ≡ Err rest = ap final (sym d) ∙ sym (read_run us begin) ∙ e in
        let g : there ≡ rest = cc in
        subst (IsUnexpected us) g (read_at us (Err there) d)
