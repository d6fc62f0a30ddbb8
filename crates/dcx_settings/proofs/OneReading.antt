-- Tokens that spell good lines have no unexpected one.
use Rattle.std.proofs.Common.{List, [], ◌∷◌, ◌∙◌}
use Rattle.std.proofs.lemmas.List.{append-nil}
use Rattle.dcx_settings.specs.Terminal.{Terminal}
use Rattle.dcx_settings.specs.Grammar.{Line}
use Rattle.dcx_settings.specs.Reading.{AreSpelled, IsUnexpected}

pub spelled_apart : (tokens rest : List Terminal) (lines : List Line) → AreSpelled tokens lines → IsUnexpected tokens rest → ⊥
spelled_apart tokens [] lines h u = u.never lines h.good (h.text ∙ u.parts ∙ append-nil u.front)
spelled_apart tokens (t ∷ rest) lines h u = u.never lines h.good (rest, h.text ∙ u.parts)
