-- Acts that make nodes, by the grades of the nodes that they take and of the one that they give.
use Rattle.std.proofs.Common.{◌≡◌, ℕ, Bool, true, false, if◌then◌else◌, ◌||◌, nat_eq, List, [], ◌∷◌, Result, refl, ap, subst, sym}
use Rattle.dcx_shape.specs.declared.shape.Shape.{Shape}
use Rattle.dcx_shape.specs.declared.place.Place.{Place}
use Rattle.dcx_shape.specs.Shape.{sides_of}
use Rattle.dcx_shape.specs.Sides.{entries_of}
use Rattle.dcx_affine.specs.Places.{same_sides}
use Rattle.dcx_affine.specs.declared.pairing.Pairing.TheVariants as pairings
use Rattle.dcx_arena.specs.Nodes.{sides_at}
use Rattle.dcx_call.specs.declared.call.Call.{Call}
use Rattle.dcx_call.specs.declared.call.Call.TheVariants as calls
use Rattle.dcx_call.specs.Calls.{shape_of}
use Rattle.dcx_convex.specs.Rules.{Judgement}
use Rattle.dcx_script_values.specs.declared.fault.ElabFault.{ElabFault}
use Rattle.dcx_script_values.specs.declared.fault.ElabFault.TheVariants.{NotOffered, ShapeClash}
use Rattle.dcx_script_values.specs.Values.{Value, expression, State, Act, and_then, ◌>>=◌, done}
use Rattle.dcx_script_values.specs.Nodes.{Operand, standing, constant, operand_sides, push, pushed, all_pushed, promoted, all_promoted, common_shape, called, broadcast_called, subtracted}
use Rattle.dcx_script_values.specs.Operands.{as_expression}
use Rattle.dcx_operators.specs.Operators.{multiplied}
use Rattle.dcx_script_laws.proofs.Carried.{Moved}
use Rattle.dcx_script_laws.proofs.CarriedNodes.{push-moves, common_shape-moves}
use Rattle.dcx_trial_laws.proofs.Acts.{Gives, ok-gives, then-gives, unless-then, or_fault-then}
use Rattle.dcx_trial_laws.proofs.Judged.{judged, Stand, stand-none, stand-more, stand-both, stand-push}
use Rattle.dcx_trial_laws.proofs.Grades.{IsKept, promote, plus, minus}
use Rattle.dcx_trial_laws.proofs.Later.{Later, later-from, later-on, later_is_carried}

-- ---- nodes of a grade
-- node i stands for an expression of which something is said that P takes
pub record Knows (P : Judgement → Type 0) (s : State) (i : ℕ) : Type 0 where
  pub judgement : Judgement
  pub grade : P judgement
  pub stands : Stand s.nodes (i ∷ []) (judgement ∷ [])

pub knows-later : (P : Judgement → Type 0) (s t : State) (i : ℕ) → Later s t → Knows P s i → Knows P t i
knows-later P s t i l k = record { judgement = k.judgement; grade = k.grade; stands = stand-more s t (i ∷ []) (k.judgement ∷ []) l.1 k.stands }

-- the same of an operand
abbrev pub OperandKnows : (Judgement → Type 0) → State → Operand → Type 0
OperandKnows P s (standing i) = Knows P s i
OperandKnows P s (constant a) = P (judged (calls.Constant a) [])

operand-later : (P : Judgement → Type 0) (s t : State) (x : Operand) → Later s t → OperandKnows P s x → OperandKnows P t x
operand-later P s t (standing i) l k = knows-later P s t i l k
operand-later P s t (constant a) l k = k

-- what is there after an act that began in s
pub record Came (P : Judgement → Type 0) (s : State) (i : ℕ) (t : State) : Type 0 where
  pub knows : Knows P t i
  pub later : Later s t

pub then-later : {A B : Type 0} (Q : B → State → Type 0) (s : State) (r : Result (A × State) ElabFault) (f : A → Act B) → Moved Later s r
    → ((x : A) (t : State) → Later s t → Gives Q (f x t)) → Gives Q (and_then r f)
then-later Q s r f moved h = then-gives (λ _ t. Later s t) Q r f (record { at = moved.at }) h

-- ---- calls
pub push_one : (P R : Judgement → Type 0) (call : Call) (place : Place) (i : ℕ) (s : State) → ((g : Judgement) → P g → R (judged call (g ∷ []))) → Knows P s i
    → Gives (Came R s) (push place call (i ∷ []) s)
push_one P R call place i s rule k = record {
  at = λ j t e. record {
    knows = record { judgement = judged call (k.judgement ∷ []); grade = rule k.judgement k.grade; stands = stand-push s t place call (i ∷ []) j (k.judgement ∷ []) k.stands e };
    later = (push-moves Later later_is_carried place call (i ∷ []) s s (later-from s)).at j t e;
  };
}

pub push_two : (P Q R : Judgement → Type 0) (call : Call) (place : Place) (i j : ℕ) (s : State) → ((g h : Judgement) → P g → Q h → R (judged call (g ∷ h ∷ [])))
    → Knows P s i → Knows Q s j → Gives (λ x t. Knows R t x) (push place call (i ∷ j ∷ []) s)
push_two P Q R call place i j s rule k l = record {
  at = λ x t e. record {
    judgement = judged call (k.judgement ∷ l.judgement ∷ []);
    grade = rule k.judgement l.judgement k.grade l.grade;
    stands = stand-push s t place call (i ∷ j ∷ []) x (k.judgement ∷ l.judgement ∷ []) (stand-both s.nodes i (j ∷ []) k.judgement (l.judgement ∷ []) k.stands l.stands) e;
  };
}

-- a call without arguments
pub push_none : (R : Judgement → Type 0) (call : Call) (place : Place) (s : State) → R (judged call []) → Gives (Came R s) (push place call [] s)
push_none R call place s r = record {
  at = λ j t e. record {
    knows = record { judgement = judged call []; grade = r; stands = stand-push s t place call [] j [] (stand-none s.nodes) e };
    later = (push-moves Later later_is_carried place call [] s s (later-from s)).at j t e;
  };
}

-- ---- operands and promotions
pub pushed-gives : (P : Judgement → Type 0) (place : Place) (x : Operand) (s : State) → OperandKnows P s x → Gives (Came P s) (pushed place x s)
pushed-gives P place (standing i) s k = ok-gives (Came P s) i s (record { knows = k; later = later-from s })
pushed-gives P place (constant a) s k = push_none P (calls.Constant a) place s k

promoted-gives : (P : Judgement → Type 0) (kept : IsKept P) (place : Place) (to : Shape) (i : ℕ) (s : State) → Knows P s i → Gives (Came P s) (promoted place to i s)
promoted-gives P kept place to i s k = by (same_sides (sides_at s.nodes i) (sides_of to))
  where
    by : (b : Bool) → Gives (Came P s) ((if b then done i else push place (promote to) (i ∷ [])) s)
    by true = ok-gives (Came P s) i s (record { knows = k; later = later-from s })
    by false = push_one P P (promote to) place i s (kept to) k

-- two nodes, one after the other
record Two (P Q : Judgement → Type 0) (s : State) (is : List ℕ) (t : State) : Type 0 where
  pub first : ℕ
  pub second : ℕ
  pub same : is ≡ first ∷ second ∷ []
  pub knows_first : Knows P t first
  pub knows_second : Knows Q t second
  pub later : Later s t

record One (Q : Judgement → Type 0) (s : State) (is : List ℕ) (t : State) : Type 0 where
  pub first : ℕ
  pub same : is ≡ first ∷ []
  pub knows : Knows Q t first
  pub later : Later s t

one-gives : (Q : Judgement → Type 0) (s : State) (r : Result (ℕ × State) ElabFault) → Gives (Came Q s) r → Gives (One Q s) (and_then r (λ j. done (j ∷ [])))
one-gives Q s r g =
    then-gives (Came Q s) (One Q s) r (λ j. done (j ∷ [])) g (λ j u c. ok-gives (One Q s) (j ∷ []) u (record { first = j; same = refl; knows = c.knows; later = c.later }))

two-gives : (P Q : Judgement → Type 0) (f h : Act ℕ) (s : State) → Gives (Came P s) (f s) → ((t : State) → Later s t → Gives (Came Q t) (h t))
    → Gives (Two P Q s) (and_then (f s) (λ i t. and_then (and_then (h t) (λ j. done (j ∷ []))) (λ is. done (i ∷ is))))
two-gives P Q f h s g k =
    then-gives (Came P s) (Two P Q s) (f s) (λ i t. and_then (and_then (h t) (λ j. done (j ∷ []))) (λ is. done (i ∷ is))) g (λ i t c.
    then-gives (One Q t) (Two P Q s) (and_then (h t) (λ j. done (j ∷ []))) (λ is. done (i ∷ is)) (one-gives Q t (h t) (k t c.later)) (λ is u o.
    ok-gives (Two P Q s) (i ∷ is) u (record {
      first = i;
      second = o.first;
      same = ap (λ xs. i ∷ xs) o.same;
      knows_first = knows-later P t u i o.later c.knows;
      knows_second = o.knows;
      later = later-on s t u c.later o.later;
    })))

-- two nodes, promoted to a shape
promoted_call : (P Q R : Judgement → Type 0) (keeps : IsKept P) (keeps_too : IsKept Q) (call : Call) (place : Place) (shape : Shape) (i j : ℕ) (s : State)
    → ((g h : Judgement) → P g → Q h → R (judged call (g ∷ h ∷ []))) → Knows P s i → Knows Q s j
    → Gives (λ x t. Knows R t x) ((all_promoted place shape (i ∷ j ∷ []) >>= λ js. push place call js) s)
promoted_call P Q R keeps keeps_too call place shape i j s rule k l =
    then-gives (Two P Q s) (λ x t. Knows R t x) (all_promoted place shape (i ∷ j ∷ []) s) (λ js. push place call js)
    (two-gives P Q (promoted place shape i) (promoted place shape j) s (promoted-gives P keeps place shape i s k)
    (λ t later. promoted-gives Q keeps_too place shape j t (knows-later Q s t j later l)))
    (λ js t two. subst (λ xs. Gives (λ x u. Knows R u x) (push place call xs t)) (sym two.same) (push_two P Q R call place two.first two.second t rule two.knows_first two.knows_second))

pub broadcast-gives : (P Q R : Judgement → Type 0) (keeps : IsKept P) (keeps_too : IsKept Q) (call : Call) (place : Place) (x y : Operand) (s : State)
    → ((g h : Judgement) → P g → Q h → R (judged call (g ∷ h ∷ []))) → OperandKnows P s x → OperandKnows Q s y
    → Gives (λ i t. Knows R t i) (broadcast_called place call (x ∷ y ∷ []) s)
broadcast-gives P Q R keeps keeps_too call place x y s rule k l =
    then-later (λ i t. Knows R t i) s (common_shape place (x ∷ y ∷ []) s) (λ shape. all_pushed place (x ∷ y ∷ []) >>= λ is. all_promoted place shape is >>= λ js. push place call js)
    (common_shape-moves Later later_is_carried place (x ∷ y ∷ []) s s (later-from s)) (λ shape t later.
    then-gives (Two P Q t) (λ i t. Knows R t i) (all_pushed place (x ∷ y ∷ []) t) (λ is. all_promoted place shape is >>= λ js. push place call js)
    (two-gives P Q (pushed place x) (pushed place y) t (pushed-gives P place x t (operand-later P s t x later k))
    (λ u after. pushed-gives Q place y u (operand-later Q s u y (later-on s t u later after) l)))
    (λ is u two. subst (λ xs. Gives (λ i t. Knows R t i) ((all_promoted place shape xs >>= λ js. push place call js) u)) (sym two.same)
    (promoted_call P Q R keeps keeps_too call place shape two.first two.second u rule two.knows_first two.knows_second)))

pub subtracted-gives : (P Q M R : Judgement → Type 0) (keeps : IsKept P) (keeps_too : IsKept M) (place : Place) (x y : Operand) (s : State)
    → ((h : Judgement) → Q h → M (judged minus (h ∷ []))) → ((g h : Judgement) → P g → M h → R (judged plus (g ∷ h ∷ []))) → OperandKnows P s x → OperandKnows Q s y
    → Gives (λ i t. Knows R t i) (subtracted place x y s)
subtracted-gives P Q M R keeps keeps_too place x y s negated rule k l =
    then-later (λ i t. Knows R t i) s (common_shape place (x ∷ y ∷ []) s)
    (λ shape. pushed place x >>= λ i. pushed place y >>= λ j. push place minus (j ∷ []) >>= λ m. all_promoted place shape (i ∷ m ∷ []) >>= λ js. push place plus js)
    (common_shape-moves Later later_is_carried place (x ∷ y ∷ []) s s (later-from s)) (λ shape t later.
    then-gives (Came P t) (λ i t. Knows R t i) (pushed place x t)
    (λ i. pushed place y >>= λ j. push place minus (j ∷ []) >>= λ m. all_promoted place shape (i ∷ m ∷ []) >>= λ js. push place plus js)
    (pushed-gives P place x t (operand-later P s t x later k)) (λ i u c.
    then-gives (Came Q u) (λ i t. Knows R t i) (pushed place y u)
    (λ j. push place minus (j ∷ []) >>= λ m. all_promoted place shape (i ∷ m ∷ []) >>= λ js. push place plus js)
    (pushed-gives Q place y u (operand-later Q s u y (later-on s t u later c.later) l)) (λ j v d.
    then-gives (Came M v) (λ i t. Knows R t i) (push place minus (j ∷ []) v) (λ m. all_promoted place shape (i ∷ m ∷ []) >>= λ js. push place plus js)
    (push_one Q M minus place j v negated d.knows) (λ m w e.
    promoted_call P M R keeps keeps_too plus place shape i m w rule (knows-later P u w i (later-on u v w d.later e.later) c.knows) e.knows))))

pub called-gives : (P R : Judgement → Type 0) (call : Call) (place : Place) (i : ℕ) (s : State) → ((g : Judgement) → P g → R (judged call (g ∷ []))) → Knows P s i
    → Gives (λ j t. Knows R t j) (called place call (standing i ∷ []) s)
called-gives P R call place i s rule k =
    or_fault-then (λ j t. Knows R t j) (ShapeClash place) (shape_of call (sides_at s.nodes i ∷ [])) s (λ _. all_pushed place (standing i ∷ []) >>= λ is. push place call is)
    (λ _. record { at = λ j t e. ((push_one P R call place i s rule k).at j t e).knows })

-- ---- values
-- a value is a node of this grade
pub record Graded (P : Judgement → Type 0) (v : Value) (s : State) : Type 0 where
  pub node : ℕ
  pub same : v ≡ expression node
  pub knows : Knows P s node

pub expression-gives : (R : Judgement → Type 0) (m : Act ℕ) (s : State) → Gives (λ i t. Knows R t i) (m s) → Gives (Graded R) (as_expression m s)
expression-gives R m s g =
    then-gives (λ i t. Knows R t i) (Graded R) (m s) (λ i. done (expression i)) g (λ i t k. ok-gives (Graded R) (expression i) t (record { node = i; same = refl; knows = k }))

-- what is made of a value that is a node
pub of-graded : {A : Type 0} (P : Judgement → Type 0) (Q : A → State → Type 0) (v : Value) (f : Value → Act A) (s : State) → Graded P v s
    → ((i : ℕ) → Knows P s i → Gives Q (f (expression i) s)) → Gives Q (f v s)
of-graded P Q v f s g h = subst (λ w. Gives Q (f w s)) (sym g.same) (h g.node g.knows)

-- products of two operands
pub multiplied-gives : (P Q R : Judgement → Type 0) (keeps : IsKept P) (keeps_too : IsKept Q) (place : Place) (x y : Operand) (s : State)
    → ((g h : Judgement) → P g → Q h → R (judged (calls.Pairing (pairings.Times)) (g ∷ h ∷ []))) → OperandKnows P s x → OperandKnows Q s y
    → Gives (λ i t. Knows R t i) (multiplied place x y s)
multiplied-gives P Q R keeps keeps_too place x y s rule k l =
    unless-then (λ i t. Knows R t i) (NotOffered place) (nat_eq (entries_of (operand_sides s.nodes x)) 1 || nat_eq (entries_of (operand_sides s.nodes y)) 1) s
    (λ _. broadcast_called place (calls.Pairing pairings.Times) (x ∷ y ∷ [])) (broadcast-gives P Q R keeps keeps_too (calls.Pairing pairings.Times) place x y s rule k l)
