-- The script has no fault, where it is no longer than a file may be.
use Rattle.std.proofs.Common.{◌≡◌, ℕ, ◌^◌, ◌<◌, ◌≤◌, List, length, None, refl, sym, ap, ◌∙◌, subst, arith}
use Rattle.std.specs.Prelude.{Err}
use Rattle.std.proofs.lemmas.Str.{chars-IsAscii, IsUtf8-from_ascii}
use Rattle.dcx_tokens.specs.declared.fault.ReadFault.{ReadFault}
use Rattle.dcx_tokens.specs.declared.fault.ReadFault.TheVariants as fault
use Rattle.dcx_tokens.specs.declared.token.Token.{Token}
use Rattle.dcx_tokens.specs.File.{most_bytes, IsText}
use Rattle.dcx_tokens.specs.Reading.{Reads, IsLexed}
use Rattle.dcx_tokens.specs.State.{start}
use Rattle.dcx_tokens.proofs.OneReading.{one_reading}
use Rattle.dcx_tokens.proofs.Texts.{text_apart}
use Rattle.dcx_read.specs.Terminals.{terminals}
use Rattle.dcx_read.specs.Whole.{IsUnexpected}
use Rattle.dcx_read.specs.Parses.{IsReading, HasNoTokens, no_text, no_tokens}
use Rattle.dcx_read.proofs.Whole.{apart}
use Rattle.dcx_trial.specs.Trial.{trial_text}
use Rattle.dcx_trial_laws.specs.Tree.{trial_tree}
use Rattle.dcx_trial_laws.proofs.Script.{script_ascii, size_below}
use Rattle.dcx_trial_laws.proofs.Parsed.{HasTree, has_tree}

module _ (size : ℕ) (short : length (trial_text size) ≤ most_bytes) where
  small : size < 2 ^ 59
  small = let below = size_below size in omega (arith, short, below)

  text : IsText (trial_text size)
  text = record { short = short; utf8 = IsUtf8-from_ascii (trial_text size) (script_ascii size small) }

  own : HasTree size
  own = has_tree size small

  lexed : IsLexed (trial_text size) own.tokens None
  lexed = subst (λ (cs : List ℕ). Reads start cs own.tokens None) (sym (chars-IsAscii (trial_text size) (script_ascii size small))) own.reads

  no_fault : (f : ReadFault) → HasNoTokens (trial_text size) f → ⊥
  no_fault f (no_text h) = text_apart (trial_text size) f text h
  no_fault f (no_tokens us t other) = let same = (one_reading lexed other).1 in cc

  none_unexpected : (ts rest : List Token) → IsLexed (trial_text size) ts None → IsUnexpected (terminals (trial_text size) ts) (terminals (trial_text size) rest) → ⊥
  none_unexpected ts rest other h =
      let same = (one_reading lexed other).0 in
      apart (terminals (trial_text size) ts) (terminals (trial_text size) rest) (trial_tree size) h (sym own.tree ∙ ap (terminals (trial_text size)) same)

  pub accepted : (f : ReadFault) → IsReading (trial_text size) (Err f) → f ≡ fault.Memory
  accepted fault.Memory h = refl
  accepted (fault.Unexpected place) h = absurd (none_unexpected h.0 h.1.1.rest h.1.0.lexed h.1.1.unexpected)
  accepted (fault.NotText place) h = absurd (no_fault (fault.NotText place) h)
  accepted (fault.BadChar place) h = absurd (no_fault (fault.BadChar place) h)
  accepted (fault.BadNumber place) h = absurd (no_fault (fault.BadNumber place) h)
  accepted (fault.Unclosed place) h = absurd (no_fault (fault.Unclosed place) h)
  accepted (fault.Indent place) h = absurd (no_fault (fault.Indent place) h)
  accepted (fault.TooDeep place) h = absurd (no_fault (fault.TooDeep place) h)
  accepted (fault.TooLong place) h = absurd (no_fault (fault.TooLong place) h)
