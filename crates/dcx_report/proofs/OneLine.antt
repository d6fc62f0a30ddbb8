-- What a stop says stands on one line.
use Rattle.std.proofs.Common.{◌≡◌, ◌≢◌, ℕ, Bool, true, false, not, ◌&&◌, eqb, eq-eqb, List, [], ◌∷◌, ◌++◌, None, Some, refl, sym, ◌∙◌, arith, append_assoc}
use Rattle.std.specs.Prelude.{codes, decimal, IsTrue}
use Rattle.std.specs.List.{AllByRecursion, list_all}
use Rattle.std.specs.declared.option.Option.{Option}
use Rattle.std.proofs.lemmas.Bool.{false≢true}
use Rattle.std.proofs.lemmas.List.Elements.{recursion_from_All}
use Rattle.dcx_shape.specs.declared.place.Place.{Place}
use Rattle.dcx_shape.specs.declared.shape.Shape.{Shape}
use Rattle.dcx_shape.specs.declared.shape.Sides.{Sides}
use Rattle.dcx_shape.specs.declared.shape.Sides.TheVariants.{Scalar, Vector, Matrix}
use Rattle.dcx_shape.specs.Shape.{sides_of}
use Rattle.dcx_frac.specs.declared.fraction.Frac.{Frac}
use Rattle.dcx_frac.specs.declared.fraction.Op.{Op}
use Rattle.dcx_frac.specs.declared.fraction.Op.TheVariants.{Add, Sub, Mul, Div, Lcm}
use Rattle.dcx_frac.specs.declared.fraction.Passes.{Passes}
use Rattle.dcx_frac.specs.Text.{frac_text}
use Rattle.dcx_answer.specs.declared.site.Site.{Site}
use Rattle.dcx_answer.specs.declared.site.Site.TheVariants.{Node, Row, Map, Pivot, Answer}
use Rattle.dcx_answer.specs.declared.stop.Stop.{Stop}
use Rattle.dcx_answer.specs.declared.stop.Stop.TheVariants.{UnknownParam, MissingParam, ParamShape, ParamSign, TooLarge, ZeroDivisor, Wide, PivotLimit, Memory}
use Rattle.dcx_answer.specs.declared.whole_answer.BranchStop.{BranchStop}
use Rattle.dcx_answer.specs.declared.whole_answer.BranchStop.TheVariants as branch
use Rattle.dcx_lines.specs.Pieces.{sides_text, shape_text, entry_text}
use Rattle.dcx_report.specs.Pieces.{place_text, op_text, passes_text}
use Rattle.dcx_report.specs.StopText.{entry_at_text, site_text, stop_name, stop_details, stopped_text}
use Rattle.dcx_report.specs.WholeText.{node_text, limit_text, branch_stop_text}
use Rattle.dcx_report.specs.SameText.{IsOnOneLine, SaysOneLine, BranchSaysOneLine}
use Rattle.dcx_lines.proofs.Digits.{IsDigit, bytes_weaker, bytes_append, decimal_digits}
use Rattle.dcx_lines.specs.Reading.{IsInk}
use Rattle.dcx_lines.proofs.FracText.{frac_ink}

-- no byte is a line feed
abbrev pub IsLine : List ℕ → Type 0
IsLine xs = AllByRecursion (λ c. c ≢ 10) xs

joined : (xs ys : List ℕ) → IsLine xs → IsLine ys → IsLine (xs ++ ys)
joined xs ys h k = bytes_append (λ c. c ≢ 10) xs ys h k

-- a text that is written out is on one line if its bytes pass the test
literal : (xs : List ℕ) → IsTrue (list_all (λ c. not (eqb c 10)) xs) → IsLine xs
literal [] h = tt
literal (x ∷ xs) h = by (eqb x 10) refl h (λ k. literal xs k)
  where
    by : (b : Bool) → eqb x 10 ≡ b → IsTrue (not b && list_all (λ c. not (eqb c 10)) xs) → (IsTrue (list_all (λ c. not (eqb c 10)) xs) → IsLine xs) → IsLine (x ∷ xs)
    by true e k rest = absurd (false≢true k)
    by false e k rest = (λ p. false≢true (sym e ∙ eq-eqb x 10 p), rest k)

number : (n : ℕ) → IsLine (decimal n)
number n = bytes_weaker (λ c (h : IsDigit c). let other : c ≢ 10 = omega (arith, h.low) in other) (decimal n) (decimal_digits n)

fraction : (f : Frac) → IsLine (frac_text f)
fraction f = bytes_weaker (λ c (h : IsInk c). let other : c ≢ 10 = omega (arith, h.above) in other) (frac_text f) (frac_ink f)

place_line : (p : Place) → IsLine (place_text p)
unfolding place_text
place_line p = joined (decimal p.line ++ codes ":") (decimal p.column) (joined (decimal p.line) (codes ":") (number p.line) (literal (codes ":") refl)) (number p.column)

sides_line : (s : Sides) → IsLine (sides_text s)
unfolding sides_text
sides_line Scalar = literal (codes "()") refl
sides_line (Vector n) = joined (codes "(" ++ decimal n) (codes ")") (joined (codes "(") (decimal n) (literal (codes "(") refl) (number n)) (literal (codes ")") refl)
sides_line (Matrix m n) =
    joined (codes "(" ++ decimal m ++ codes "," ++ decimal n) (codes ")")
    (joined (codes "(" ++ decimal m ++ codes ",") (decimal n) (joined (codes "(" ++ decimal m) (codes ",") (joined (codes "(") (decimal m) (literal (codes "(") refl) (number m))
    (literal (codes ",") refl)) (number n))
    (literal (codes ")") refl)

shape_line : (s : Shape) → IsLine (shape_text s)
unfolding shape_text
shape_line s = sides_line (sides_of s)

op_line : (op : Op) → IsLine (op_text op)
unfolding op_text
op_line Add = literal (codes "add") refl
op_line Sub = literal (codes "sub") refl
op_line Mul = literal (codes "mul") refl
op_line Div = literal (codes "div") refl
op_line Lcm = literal (codes "lcm") refl

-- words, each before a text on one line
labelled : (word xs : List ℕ) → IsTrue (list_all (λ c. not (eqb c 10)) word) → IsLine xs → IsLine (word ++ xs)
labelled word xs h k = joined word xs (literal word h) k

followed : (xs word ys : List ℕ) → IsLine xs → IsTrue (list_all (λ c. not (eqb c 10)) word) → IsLine ys → IsLine (xs ++ word ++ ys)
followed xs word ys h w k = joined (xs ++ word) ys (joined xs word h (literal word w)) k

entry_line : (f : Frac) → IsLine (entry_text f)
unfolding entry_text
entry_line f = labelled (codes " ") (frac_text f) refl (fraction f)

passes_line : (p : Passes) → IsLine (passes_text p)
unfolding passes_text
passes_line p =
    joined (codes " " ++ op_text p.op ++ entry_text p.left) (entry_text p.right)
    (joined (codes " " ++ op_text p.op) (entry_text p.left) (labelled (codes " ") (op_text p.op) refl (op_line p.op)) (entry_line p.left))
    (entry_line p.right)

entry_at_line : (place : Option Place) (entry : ℕ) → IsLine (entry_at_text place entry)
unfolding entry_at_text
entry_at_line None entry = labelled (codes " entry ") (decimal entry) refl (number entry)
entry_at_line (Some p) entry =
    followed (codes " at " ++ place_text p) (codes " entry ") (decimal entry) (labelled (codes " at ") (place_text p) refl (place_line p)) refl (number entry)

site_line : (place : Option Place) (site : Site) → IsLine (site_text place site)
unfolding site_text
site_line place (Node node entry passes) = joined (entry_at_text place entry) (passes_text passes) (entry_at_line place entry) (passes_line passes)
site_line place (Row row passes) = joined (codes " row " ++ decimal row) (passes_text passes) (labelled (codes " row ") (decimal row) refl (number row)) (passes_line passes)
site_line place (Map row passes) = joined (codes " map " ++ decimal row) (passes_text passes) (labelled (codes " map ") (decimal row) refl (number row)) (passes_line passes)
site_line place (Pivot pivots row column) =
    followed (codes " pivot " ++ decimal pivots ++ codes " row " ++ decimal row) (codes " column ") (decimal column)
    (followed (codes " pivot " ++ decimal pivots) (codes " row ") (decimal row) (labelled (codes " pivot ") (decimal pivots) refl (number pivots)) refl (number row))
    refl (number column)
site_line place (Answer row passes) = joined (codes " answer " ++ decimal row) (passes_text passes) (labelled (codes " answer ") (decimal row) refl (number row)) (passes_line passes)

name_line : (stop : Stop) → IsLine (stop_name stop)
unfolding stop_name
name_line (UnknownParam name) = literal (codes "21 UnknownParam") refl
name_line (MissingParam name) = literal (codes "22 MissingParam") refl
name_line (ParamShape name declared given) = literal (codes "23 ParamShape") refl
name_line (ParamSign name entry value) = literal (codes "24 ParamSign") refl
name_line (ZeroDivisor node entry) = literal (codes "25 ZeroDivisor") refl
name_line (Wide site) = literal (codes "26 Wide") refl
name_line (PivotLimit count) = literal (codes "27 PivotLimit") refl
name_line (TooLarge rows columns) = literal (codes "28 TooLarge") refl
name_line Memory = literal (codes "31 Memory") refl

said : (name : List ℕ) → IsOnOneLine name → IsLine (codes " " ++ name)
said name h = labelled (codes " ") name refl (recursion_from_All (λ c. c ≢ 10) name h)

details_line : (place : Option Place) (stop : Stop) → SaysOneLine stop → IsLine (stop_details place stop)
unfolding stop_details
details_line place (UnknownParam name) h = said name h
details_line place (MissingParam name) h = said name h
details_line place (ParamShape name declared given) h =
    followed (codes " " ++ name ++ codes " " ++ shape_text declared) (codes " ") (shape_text given)
    (followed (codes " " ++ name) (codes " ") (shape_text declared) (said name h) refl (shape_line declared))
    refl (shape_line given)
details_line place (ParamSign name entry value) h =
    followed (codes " " ++ name ++ codes " entry " ++ decimal entry) (codes " value ") (frac_text value)
    (followed (codes " " ++ name) (codes " entry ") (decimal entry) (said name h) refl (number entry))
    refl (fraction value)
details_line place (ZeroDivisor node entry) h = entry_at_line place entry
details_line place (Wide site) h = site_line place site
details_line place (PivotLimit count) h = labelled (codes " ") (decimal count) refl (number count)
details_line place (TooLarge rows columns) h =
    followed (codes " rows " ++ decimal rows) (codes " columns ") (decimal columns) (labelled (codes " rows ") (decimal rows) refl (number rows)) refl (number columns)
details_line place Memory h = tt

-- ---- a text of a stop
-- a word, and one line behind it
pub record IsStopLine (text : List ℕ) : Type 0 where
  pub said : List ℕ
  pub line : IsLine said
  pub is : text ≡ codes " stopped " ++ (said ++ 10 ∷ [])

pub stopped_line : (place : Option Place) (stop : Stop) → SaysOneLine stop → IsStopLine (stopped_text place stop)
unfolding stopped_text
stopped_line place stop h =
    record { said = stop_name stop ++ stop_details place stop; line = joined (stop_name stop) (stop_details place stop) (name_line stop) (details_line place stop h); is = simp append_assoc }

grouped : (word front name details end : List ℕ) → (((word ++ front) ++ name) ++ details) ++ end ≡ word ++ ((front ++ (name ++ details)) ++ end)
grouped word front name details end = simp append_assoc

pub branch_line : (stop : BranchStop) → BranchSaysOneLine stop → IsStopLine (branch_stop_text stop)
unfolding branch_stop_text limit_text node_text
branch_line branch.RelaxationUnbounded h = record { said = codes "30 RelaxationUnbounded"; line = literal (codes "30 RelaxationUnbounded") refl; is = refl }
branch_line (branch.NodeLimit limit) h = record { said = codes "32 NodeLimit " ++ decimal limit; line = labelled (codes "32 NodeLimit ") (decimal limit) refl (number limit); is = refl }
branch_line (branch.Node node stop) h =
    let front = codes "33 Branch node " ++ decimal node ++ codes " " in
    let known : IsLine front = joined (codes "33 Branch node " ++ decimal node) (codes " ") (labelled (codes "33 Branch node ") (decimal node) refl (number node)) (literal (codes " ") refl) in
    record {
      said = front ++ (stop_name stop ++ stop_details None stop);
      line = joined front (stop_name stop ++ stop_details None stop) known (joined (stop_name stop) (stop_details None stop) (name_line stop) (details_line None stop h));
      is = grouped (codes " stopped ") front (stop_name stop) (stop_details None stop) (codes "\n");
    }
branch_line branch.Memory h = stopped_line None Memory tt
