-- The tokens as the grammar sees them, with the bytes and the place that a syntax tree keeps of each.
use Rattle.std.specs.Prelude.{ℕ, Bool, List}
use Rattle.dcx_frac.specs.declared.fraction.Frac.{Frac}
use Rattle.dcx_shape.specs.declared.place.Place.{Place}
use Rattle.dcx_syntax.specs.declared.tree.Comparison.{Comparison}
use Rattle.dcx_syntax.specs.declared.tree.Sign.{Sign}
use Rattle.dcx_syntax.specs.declared.tree.Scaling.{Scaling}
use Rattle.dcx_syntax.specs.declared.bracket.Bracket.{Bracket}

-- a token that is no bracket
pub data Plain : Type 0 where
  name : (bytes : List ℕ) (place : Place) → Plain
  number : (value : Frac) (place : Place) → Plain
  text : (bytes : List ℕ) (place : Place) → Plain
  truth : Bool → (place : Place) → Plain
  none : (place : Place) → Plain
  compares : Comparison → (place : Place) → Plain
  signs : Sign → (place : Place) → Plain
  scales : Scaling → (place : Place) → Plain
  power : (place : Place) → Plain
  plus_equal : (place : Place) → Plain
  import : (place : Place) → Plain
  for : (place : Place) → Plain
  print : (place : Place) → Plain
  as_word : Plain
  in_word : Plain
  dot : Plain
  comma : Plain
  colon : Plain
  equal : Plain
  newline : Plain
  indent : Plain
  dedent : Plain
  other : Plain

pub data Terminal : Type 0 where
  opens : Bracket → (place : Place) → Terminal
  closes : Bracket → Terminal
  plain : Plain → Terminal
