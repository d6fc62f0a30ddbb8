-- One token decides the grammar.
use Rattle.std.proofs.Common.{◌≡◌, true, refl}
use Rattle.dcx_read.specs.Moves.{Symbol, empty, grammar}
use Rattle.dcx_read.specs.Moves as symbols
use Rattle.dcx_read.proofs.Sound.{SpellsNothing}
use Rattle.dcx_read.proofs.Complete.{Decides, is_there}
use Rattle.dcx_read.proofs.Steps.{implies, implied}
use Rattle.dcx_read.proofs.TokenSets.{Kind, begins, on, every, sets}
use Rattle.dcx_read.proofs.Text.{text}
use Rattle.dcx_read.proofs.Rights.{right}
use Rattle.dcx_read.proofs.Builds.{made}

nothing : (s : Symbol) → SpellsNothing grammar.trees text s (grammar.empty s)
nothing symbols.compared_s = refl
nothing symbols.added_s = refl
nothing symbols.scaled_s = refl
nothing symbols.raised_s = refl
nothing symbols.trailers_s = refl
nothing symbols.args_s = refl
nothing symbols.more_args_s = refl
nothing symbols.after_name_s = refl
nothing symbols.rest_s = refl
nothing symbols.indices_s = refl
nothing symbols.after_index_s = refl
nothing symbols.optional_s = refl
nothing symbols.step_s = refl
nothing symbols.items_s = refl
nothing symbols.more_items_s = refl
nothing symbols.alias_s = refl
nothing symbols.balanced_s = refl
nothing symbols.after_first_s = refl
nothing symbols.lines_s = refl
nothing s = tt

within : (s : Symbol) → sets.all (λ k. implies (begins s k) (on s k)) ≡ true → (k : Kind) → begins s k ≡ true → on s k ≡ true
within s h k b = implied (begins s k) (on s k) (every (λ k. implies (begins s k) (on s k)) h k) b

goes_on : (s : Symbol) (k : Kind) → is_there (empty s) ≡ true → begins s k ≡ true → on s k ≡ true
goes_on symbols.compared_s k e b = within symbols.compared_s refl k b
goes_on symbols.added_s k e b = within symbols.added_s refl k b
goes_on symbols.scaled_s k e b = within symbols.scaled_s refl k b
goes_on symbols.raised_s k e b = within symbols.raised_s refl k b
goes_on symbols.trailers_s k e b = within symbols.trailers_s refl k b
goes_on symbols.args_s k e b = within symbols.args_s refl k b
goes_on symbols.more_args_s k e b = within symbols.more_args_s refl k b
goes_on symbols.after_name_s k e b = within symbols.after_name_s refl k b
goes_on symbols.rest_s k e b = within symbols.rest_s refl k b
goes_on symbols.indices_s k e b = within symbols.indices_s refl k b
goes_on symbols.after_index_s k e b = within symbols.after_index_s refl k b
goes_on symbols.optional_s k e b = within symbols.optional_s refl k b
goes_on symbols.step_s k e b = within symbols.step_s refl k b
goes_on symbols.items_s k e b = within symbols.items_s refl k b
goes_on symbols.more_items_s k e b = within symbols.more_items_s refl k b
goes_on symbols.alias_s k e b = within symbols.alias_s refl k b
goes_on symbols.balanced_s k e b = within symbols.balanced_s refl k b
goes_on symbols.after_first_s k e b = within symbols.after_first_s refl k b
goes_on symbols.lines_s k e b = within symbols.lines_s refl k b
goes_on s k e b = absurd cc

pub decided : Decides grammar text sets
decided = record { right = right; nothing = nothing; made = made; goes_on = goes_on }
