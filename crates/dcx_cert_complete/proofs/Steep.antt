-- The steepness of a node along a ray of the domain has the node's sign.
use Rattle.std.proofs.Common.{◌≡◌, ℕ, zero, suc, ◌<◌, arith, Bool, true, false, IsTrue, IsFalse, if◌then◌else◌, List, [], ◌∷◌}
use Rattle.std.proofs.Common.{length, map, All, Option, Some, None, slice_get, refl, sym, ap, ◌∙◌, subst, pos}
use Rattle.std.proofs.lemmas.List.Elements.{All-head, All-tail}
use Rattle.dcx_math.specs.Rational.{whole}
use Rattle.dcx_math.proofs.Orders.{≤ℚ_refl}
use Rattle.dcx_shape.specs.declared.shape.Sides.{Sides}
use Rattle.dcx_shape.specs.Sides.{entries_of}
use Rattle.dcx_atom.specs.Signs.{HasSign, HaveSigns, unknown_sign}
use Rattle.dcx_convex.specs.Nodes.{Attribute, Free, Nonneg, Nonpos, Symmetric, Diag, Head, Variable, Parameter, Constant, Apply, Node, Numbers, Point, Setting}
use Rattle.dcx_convex.specs.Nodes.{IsOrdered, zeros, arguments, Keeps, VariableKeeps, ParameterKeeps, EachNode, IsInDomain, IsLawfulHead, AreLawful}
use Rattle.dcx_convex.specs.Rules.{Plain, Judgement, attribute_sign, argument, sign_by, judgement_at}
use Rattle.dcx_convex.specs.Certificates.{is_fixed, given_at}
use Rattle.dcx_convex.proofs.Told.{judgement_tells}
use Rattle.dcx_convex.proofs.Arguments.{zero_signed, args_signed, count_of}
use Rattle.dcx_convex.proofs.Signs.{value_signed, first_signed, keeps_signed}
use Rattle.dcx_right.specs.Steepness.{taken_at, steep_by, steep_at}
use Rattle.dcx_right.proofs.Told.{none_fixed, level, steep_tells}
use Rattle.dcx_cert_complete.proofs.Taken.{taken_signed}

-- ---- nothing is in the domain
pub keeps_zeros : (a : Attribute) (sides : Sides) → Keeps a sides zeros
keeps_zeros Free sides = tt
keeps_zeros Nonneg sides = λ j b. ≤ℚ_refl (whole (pos 0))
keeps_zeros Nonpos sides = λ j b. ≤ℚ_refl (whole (pos 0))
keeps_zeros Symmetric sides = λ i j h. refl
keeps_zeros Diag sides = λ i j h d. refl

head_zeros : (head : Head) → VariableKeeps (λ number. zeros) head
head_zeros (Variable d) = keeps_zeros d.attribute d.sides
head_zeros (Parameter d) = tt
head_zeros (Constant xs) = tt
head_zeros (Apply c) = tt

pub zeros_domain : (nodes : List Node) → IsInDomain nodes (λ number. zeros)
zeros_domain nodes i n at = head_zeros n.head

-- ---- one node
module _ (nodes : List Node) (ordered : IsOrdered nodes) (law : AreLawful nodes) (s : Setting) (fit : EachNode nodes (λ n. ParameterKeeps s n.head)) (d : Point) (dd : IsInDomain nodes d) where
  abbrev judged : ℕ → Judgement
  judged = judgement_at Plain nodes

  abbrev given : ℕ → Numbers
  given = given_at nodes s

  abbrev steep : ℕ → Numbers
  steep = steep_at nodes s d

  abbrev IsSigned : ℕ → Type 0
  IsSigned i = (j : ℕ) → HasSign (judged i).sign (steep i j)

  pub given_signed : (i j : ℕ) → HasSign (judged i).sign (given i j)
  given_signed = value_signed Plain nodes law s fit (λ number. zeros) (zeros_domain nodes)

  module _ (n : ℕ) (known : (a : ℕ) → a < n → IsSigned a) where
    steep_args : (args : List ℕ) → All (λ a. a < n) args → HaveSigns (map (λ g. g.sign) (map judged args)) (arguments (map steep args))
    steep_args [] all k e = zero_signed unknown_sign
    steep_args (i ∷ args) all zero e = known i (All-head (λ a. a < n) i args all) e
    steep_args (i ∷ args) all (suc k) e = steep_args args (All-tail (λ a. a < n) i args all) k e

    head_signed : (head : Head) (args : List ℕ) → All (λ a. a < n) args → IsLawfulHead head (length args) → VariableKeeps d head → (j : ℕ)
        → HasSign (sign_by head (map judged args)) (steep_by nodes s d head args steep j)
    head_signed (Variable v) args all lawful dom = first_signed (attribute_sign v.attribute) (entries_of v.sides) (d v.number) (keeps_signed v.attribute v.sides (d v.number) dom)
    head_signed (Parameter q) args all lawful dom = λ j. zero_signed (attribute_sign q.attribute)
    head_signed (Constant xs) args all lawful dom = λ j. zero_signed (sign_by (Constant xs) (map judged args))
    head_signed (Apply c) args all lawful dom =
        let signs = map (λ g. g.sign) (map judged args) in
        let first = (argument (map judged args) 0).fixed in
        first_signed (c.sign signs) c.size (c.value (taken_at c.kind first (arguments (map given args)) (arguments (map steep args))))
        (lawful.sign_law signs (taken_at c.kind first (arguments (map given args)) (arguments (map steep args))) (count_of judged (λ g. g.sign) args)
        (taken_signed c.kind first signs (arguments (map given args)) (arguments (map steep args)) (args_signed judged given given_signed args) (steep_args args all)))

  -- ---- all nodes
  level_signed : (i : ℕ) → IsTrue (is_fixed nodes i) → IsSigned i
  level_signed i t j = subst (λ (z : Numbers). HasSign (judged i).sign (z j)) (sym (level nodes s d i t)) (zero_signed (judged i).sign)

  node_signed : (i : ℕ) (n : Node) → slice_get nodes i ≡ Some n → IsFalse (is_fixed nodes i) → ((a : ℕ) → a < i → IsSigned a) → IsSigned i
  node_signed i n e loose known j =
      let told : steep i ≡ steep_by nodes s d n.head n.args steep = steep_tells nodes s d ordered i n e ∙ ap (λ t. if t then zeros else steep_by nodes s d n.head n.args steep) loose in
      subst (λ (z : Numbers). HasSign (judged i).sign (z j)) (sym told)
      (subst (λ (g : Judgement). HasSign g.sign (steep_by nodes s d n.head n.args steep j)) (sym (judgement_tells Plain nodes ordered i n e))
      (head_signed i known n.head n.args (ordered i n e) (law i n e) (dd i n e) j))

  one_signed : (i : ℕ) → ((a : ℕ) → a < i → IsSigned a) → IsSigned i
  one_signed i known = by (is_fixed nodes i) refl
    where
      at : (o : Option Node) → slice_get nodes i ≡ o → IsFalse (is_fixed nodes i) → IsSigned i
      at None e loose = level_signed i (none_fixed nodes i e)
      at (Some m) e loose = node_signed i m e loose known

      by : (t : Bool) → is_fixed nodes i ≡ t → IsSigned i
      by true e = level_signed i e
      by false e = at (slice_get nodes i) refl e

  all_signed : (n i : ℕ) → i < n → IsSigned i
  all_signed zero i l = absurd (omega arith)
  all_signed (suc n) i l = one_signed i (λ a b. all_signed n a (omega arith))

  pub steep_signed : (i j : ℕ) → HasSign (judged i).sign (steep i j)
  steep_signed i = all_signed (suc i) i (omega arith)
