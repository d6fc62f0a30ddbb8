-- Reading a value, step by step.
use Rattle.std.proofs.Common.{◌≡◌, ℕ, List, [], ◌∷◌, map, length, None, Err, refl, sym, ap, ap₂, ◌∙◌}
use Rattle.dcx_frac.specs.declared.fraction.Frac.{Frac}
use Rattle.dcx_frac.specs.Frac.{value}
use Rattle.dcx_shape.specs.declared.shape.Shape.{Shape}
use Rattle.dcx_shape.specs.declared.shape.Sides.TheVariants.{Scalar, Vector, Matrix}
use Rattle.dcx_shape.specs.Shape.{sides_of}
use Rattle.dcx_tokens.specs.declared.token.Token.{Token}
use Rattle.dcx_settings.specs.Terminal.{Terminal, comma, open_square, close_square, terminals}
use Rattle.dcx_settings.specs.Grammar.{Value, one, row, matrix, Item, Line}
use Rattle.dcx_settings.specs.Machine.{Phase, at, start, alone, in_row, no_matrix, rows_before, assigned, bracket, ended, value_read}
use Rattle.dcx_settings.specs.declared.stop.Stop.{Stop}
use Rattle.dcx_settings.specs.declared.stop.Stop.TheVariants.{Memory, At}
use Rattle.dcx_settings.specs.Steps.{read, read_by, Lacks, number_from, IsNumberRead, StopsAt, IsRowRead, RowStopsAt, IsStopAt, AreRowsRead, RowsStopAt, IsValueRead, ValueStopsAt, matrix_begun}
use Rattle.dcx_settings.proofs.Numbers.{read_part}
use Rattle.dcx_settings.proofs.Rows.{same_length}
use Rattle.dcx_settings.proofs.Matrices.{row_length_is, rows_close, rows_open}

-- behind a value
pub read_ended : (lines : List Line) (is : List Item) (n : List ℕ) (v : Value) (us : List Terminal) → read us (at lines (ended is n v)) ≡ read_by (value_read lines is n v) us
read_ended lines is n v [] = refl
read_ended lines is n v (t ∷ ts) = refl

-- ---- matrices
module _ (w k : ℕ) (us : List Terminal) (fs : List Frac) (from : List Terminal) (h : AreRowsRead w k us fs from) where
  pub matrix_read : (rest : List Terminal) → from ≡ close_square ∷ rest → (shape : Shape) → sides_of shape ≡ Matrix k w → IsValueRead matrix_begun us shape fs rest
  matrix_read rest e shape s = record {
    value = matrix h.rows;
    good = (w, h.good, h.few);
    sides = s ∙ ap₂ (λ a b. Matrix a b) (sym h.counted) (sym (row_length_is w h.rows h.good));
    numbers_are = h.numbers_are;
    reads = λ lines is n. read_part lines is n (in_row (rows_before []) []) start us ∙ rows_close w k us fs from h rest e lines is n ∙ read_ended lines is n (matrix h.rows) rest;
  }

  pub matrix_open : (text : List ℕ) (ts : List Token) → from ≡ terminals text ts → Lacks comma from → (s : Stop) → IsStopAt ts s → Lacks close_square from → ValueStopsAt matrix_begun text us s
  matrix_open text ts d c Memory a l = tt
  matrix_open text ts d c (At there) a l = λ lines is n. read_part lines is n (in_row (rows_before []) []) start us ∙ rows_open w k us fs from h c l lines is n
      ∙ ap Err (d ∙ ap (terminals text) (sym a))

pub matrix_stops : (text : List ℕ) (us : List Terminal) (s : Stop) → RowsStopAt text us s → ValueStopsAt matrix_begun text us s
matrix_stops text us Memory h = tt
matrix_stops text us (At there) h = λ lines is n. read_part lines is n (in_row (rows_before []) []) start us ∙ h lines is n

-- ---- lists and numbers
read_list : (lines : List Line) (is : List Item) (n : List ℕ) (us : List Terminal) → Lacks open_square us → read us (at lines (bracket is n))
    ≡ read_by (number_from lines is n (in_row no_matrix [])) us
read_list lines is n [] l = refl
read_list lines is n (open_square ∷ ts) l = absurd (l ts refl)
read_list lines is n (t ∷ ts) l = refl

read_alone : (lines : List Line) (is : List Item) (n : List ℕ) (us : List Terminal) → Lacks open_square us → read us (at lines (assigned is n)) ≡ read_by (number_from lines is n alone) us
read_alone lines is n [] l = refl
read_alone lines is n (open_square ∷ ts) l = absurd (l ts refl)
read_alone lines is n (t ∷ ts) l = refl

pub vector_read : (us rest : List Terminal) (fs : List Frac) → Lacks open_square us → IsRowRead None us fs rest → (shape : Shape) → sides_of shape ≡ Vector (length fs)
    → IsValueRead bracket us shape fs rest
vector_read us rest fs l h shape s = record {
  value = row h.numbers;
  good = (h.good, h.few);
  sides = s ∙ ap (λ k. Vector k) (same_length h.numbers fs h.numbers_are);
  numbers_are = h.numbers_are;
  reads = λ lines is n. read_list lines is n us l ∙ h.reads lines is n no_matrix tt ∙ read_ended lines is n (row h.numbers) rest;
}

pub vector_stops : (text : List ℕ) (us : List Terminal) (s : Stop) → Lacks open_square us → RowStopsAt None text us s → ValueStopsAt bracket text us s
vector_stops text us Memory l h = tt
vector_stops text us (At there) l h = λ lines is n. read_list lines is n us l ∙ h lines is n no_matrix tt

pub scalar_read : (us rest : List Terminal) (f : Frac) (fs : List Frac) → fs ≡ f ∷ [] → Lacks open_square us → IsNumberRead number_from us f rest → (shape : Shape)
    → sides_of shape ≡ Scalar → IsValueRead assigned us shape fs rest
scalar_read us rest f fs e l h shape s = record {
  value = one h.number;
  good = h.good;
  sides = s;
  numbers_are = ap (map value) e ∙ ap (λ v. v ∷ []) h.value_is;
  reads = λ lines is n. read_alone lines is n us l ∙ h.reads lines is n alone;
}

pub scalar_stops : (text : List ℕ) (us : List Terminal) (s : Stop) → Lacks open_square us → StopsAt number_from text us s → ValueStopsAt assigned text us s
scalar_stops text us Memory l h = tt
scalar_stops text us (At there) l h = λ lines is n. read_alone lines is n us l ∙ h lines is n alone

-- ---- behind a bracket
-- a bracket leads from one phase to another
module _ (from to : List Item → List ℕ → Phase)
    (leads : (lines : List Line) (is : List Item) (n : List ℕ) (ts : List Terminal) → read (open_square ∷ ts) (at lines (from is n)) ≡ read ts (at lines (to is n))) where
  pub bracket_read : (us vs rest : List Terminal) (shape : Shape) (fs : List Frac) → us ≡ open_square ∷ vs → IsValueRead to vs shape fs rest → IsValueRead from us shape fs rest
  bracket_read us vs rest shape fs e h = record {
    value = h.value;
    good = h.good;
    sides = h.sides;
    numbers_are = h.numbers_are;
    reads = λ lines is n. ap (λ ts. read ts (at lines (from is n))) e ∙ leads lines is n vs ∙ h.reads lines is n;
  }

  pub bracket_stops : (text : List ℕ) (us vs : List Terminal) (s : Stop) → us ≡ open_square ∷ vs → ValueStopsAt to text vs s → ValueStopsAt from text us s
  bracket_stops text us vs Memory e h = tt
  bracket_stops text us vs (At there) e h = λ lines is n. ap (λ ts. read ts (at lines (from is n))) e ∙ leads lines is n vs ∙ h lines is n
