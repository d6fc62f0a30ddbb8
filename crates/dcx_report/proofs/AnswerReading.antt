-- What the text of an answer tells, where the problem is known.
use Rattle.std.proofs.Common.{◌≡◌, ℕ, ◌<◌, ◌^◌, neg_ℤ, List, [], ◌∷◌, ◌++◌, get_or, refl, sym, ap, ◌∙◌, arith, append_assoc}
use Rattle.std.proofs.Math.IntN.{neg_ℤ-neg_ℤ}
use Rattle.std.proofs.lemmas.List.{append_cancel_left}
use Rattle.std.specs.Prelude.{codes, decimal}
use Rattle.dcx_frac.specs.declared.fraction.Frac.{Frac}
use Rattle.dcx_frac.specs.Frac.{num_of, den_of}
use Rattle.dcx_frac.proofs.Parts.{frac_from_parts}
use Rattle.dcx_tree.specs.declared.constraint.Sense.{Sense}
use Rattle.dcx_tree.specs.declared.constraint.Sense.TheVariants.{Minimize, Maximize}
use Rattle.dcx_answer.specs.declared.answer.Answer.{Answer}
use Rattle.dcx_answer.specs.declared.answer.Answer.TheVariants.{Optimal, Infeasible, Unbounded}
use Rattle.dcx_answer.specs.declared.whole_answer.WholeAnswer.{WholeAnswer}
use Rattle.dcx_answer.specs.declared.whole_answer.WholeAnswer.TheVariants as whole
use Rattle.dcx_report.specs.Negated.{negated}
use Rattle.dcx_lines.specs.Lines.{number_line, dual_lines}
use Rattle.dcx_report.specs.AnswerText.{user_number, answer_text, var_lines, ray_lines}
use Rattle.dcx_report.specs.WholeText.{nodes_line, whole_text}
use Rattle.dcx_report.specs.SameText.{Layout, IsAnswerOf, IsWholeAnswerOf, whole_optimum, no_whole_point, without_tree}
use Rattle.dcx_lines.specs.Reading.{BeginsWithout}
use Rattle.dcx_lines.proofs.Digits.{IsDigit, decimal_digits, decimal_injective_wide}
use Rattle.dcx_lines.proofs.FracText.{same_before}
use Rattle.dcx_lines.proofs.Reading.{number_read, points_read, duals_read}

negated_injective : (f g : Frac) → negated f ≡ negated g → f ≡ g
unfolding negated
negated_injective f g e =
    let nums : neg_ℤ (num_of f) ≡ neg_ℤ (num_of g) = ap num_of e in
    frac_from_parts f g (sym (neg_ℤ-neg_ℤ (num_of f)) ∙ ap neg_ℤ nums ∙ neg_ℤ-neg_ℤ (num_of g)) (ap den_of e)

-- the user's number tells the number
user_number_injective : (sense : Sense) (f g : Frac) → user_number sense f ≡ user_number sense g → f ≡ g
unfolding user_number
user_number_injective Minimize f g e = e
user_number_injective Maximize f g e = negated_injective f g e

-- equal lists have one second byte
pub second_same : (a b c d : ℕ) (r s : List ℕ) → a ∷ b ∷ r ≡ c ∷ d ∷ s → b ≡ d
second_same a b c d r s e = cc

grouped : (x y z t u : List ℕ) → (((x ++ y) ++ z) ++ t) ++ u ≡ x ++ (y ++ (z ++ (t ++ u)))
grouped x y z t u = simp append_assoc

-- the text of an answer, and what stands behind it
pub answer_read : (layout : Layout) (sense : Sense) (a b : Answer) (r s : List ℕ) → IsAnswerOf layout a → IsAnswerOf layout b → answer_text sense a ++ r ≡ answer_text sense b ++ s → (a ≡ b) × (r ≡ s)
unfolding answer_text var_lines ray_lines dual_lines
answer_read layout sense (Optimal v p d) (Optimal w q k) r s h l e =
    let number = number_read (codes "value") (user_number sense v)
    (user_number sense w) _ _ (append_cancel_left (codes " optimal\n") _ _ (sym (grouped (codes " optimal\n") _ _ (dual_lines d) r) ∙ e ∙ grouped (codes " optimal\n") _ _ (dual_lines k) s)) in
    let values = points_read (codes "var") p q _ _ (h.0 ∙ sym l.0) number.1 in
    let multipliers = duals_read d k r s (h.1 ∙ sym l.1) values.1 in
    let same_value : v ≡ w = user_number_injective sense v w number.0 in
    let same_point : p ≡ q = values.0 in
    let same_duals : d ≡ k = multipliers.0 in
    (λ i. Optimal (same_value i) (same_point i) (same_duals i), multipliers.1)
answer_read layout sense (Optimal v p d) (Infeasible k g) r s h l e = absurd (omega (arith, second_same _ 111 _ 105 _ _ e))
answer_read layout sense (Optimal v p d) (Unbounded q y b m) r s h l e = absurd (omega (arith, second_same _ 111 _ 117 _ _ e))
answer_read layout sense (Infeasible d g) (Optimal w q k) r s h l e = absurd (omega (arith, second_same _ 105 _ 111 _ _ e))
answer_read layout sense (Infeasible d g) (Infeasible k m) r s h l e =
    let whole = λ (x y z t : List ℕ).
    let regrouped : ((x ++ y) ++ z) ++ t ≡ x ++ (y ++ (z ++ t)) = simp append_assoc in
    regrouped in
    let number = number_read
    (codes "gap") g m _ _ (append_cancel_left (codes " infeasible\n") _ _ (sym (whole (codes " infeasible\n") _ (dual_lines d) r) ∙ e ∙ whole (codes " infeasible\n") _ (dual_lines k) s)) in
    let multipliers = duals_read d k r s (h ∙ sym l) number.1 in
    let same_gap : g ≡ m = number.0 in
    let same_duals : d ≡ k = multipliers.0 in
    (λ i. Infeasible (same_duals i) (same_gap i), multipliers.1)
answer_read layout sense (Infeasible d g) (Unbounded q y b m) r s h l e = absurd (omega (arith, second_same _ 105 _ 117 _ _ e))
answer_read layout sense (Unbounded p y b m) (Optimal w q k) r s h l e = absurd (omega (arith, second_same _ 117 _ 111 _ _ e))
answer_read layout sense (Unbounded p y b m) (Infeasible k g) r s h l e = absurd (omega (arith, second_same _ 117 _ 105 _ _ e))
answer_read layout sense (Unbounded p y b m) (Unbounded q z c n) r s h l e =
    let whole = λ (x t v u : List ℕ) (f g : Frac).
    let regrouped : ((((x ++ number_line (codes "bound") f) ++ number_line (codes "slope") g) ++ t) ++ v) ++ u
    ≡ x ++ (number_line (codes "bound") f ++ (number_line (codes "slope") g ++ (t ++ (v ++ u)))) = simp append_assoc in
    regrouped in
    let bound = number_read (codes "bound") (user_number sense b)
    (user_number sense c) _ _ (append_cancel_left (codes " unbounded\n") _ _ (sym (whole (codes " unbounded\n") _ _ r (user_number sense b) m) ∙ e
    ∙ whole (codes " unbounded\n") _ _ s (user_number sense c) n)) in
    let slope = number_read (codes "slope") m n _ _ bound.1 in
    let values = points_read (codes "var") p q _ _ (h.0 ∙ sym l.0) slope.1 in
    let changes = points_read (codes "ray") y z r s (h.1 ∙ sym l.1) values.1 in
    let same_bound : b ≡ c = user_number_injective sense b c bound.0 in
    let same_slope : m ≡ n = slope.0 in
    let same_point : p ≡ q = values.0 in
    let same_ray : y ≡ z = changes.0 in
    (λ i. Unbounded (same_point i) (same_ray i) (same_bound i) (same_slope i), changes.1)

-- ---- in whole numbers
-- a line feed ends a number
feed_ends : (xs : List ℕ) → BeginsWithout IsDigit (10 ∷ xs)
feed_ends xs = record { byte = 10; tail = xs; is = refl; without = λ h. omega (arith, h.low) }

-- the line of a number of nodes, and what stands behind it
nodes_read : (n m : ℕ) (r s : List ℕ) → n < 2 ^ 32 → m < 2 ^ 32 → nodes_line n ++ r ≡ nodes_line m ++ s → (n ≡ m) × (r ≡ s)
unfolding nodes_line
nodes_read n m r s small fits e =
    let line = λ (k : ℕ) (t : List ℕ).
    let regrouped : ((codes "nodes " ++ decimal k) ++ 10 ∷ []) ++ t ≡ codes "nodes " ++ (decimal k ++ 10 ∷ t) = simp append_assoc in
    regrouped in
    let rest = append_cancel_left (codes "nodes ") _ _ (sym (line n r) ∙ e ∙ line m s) in
    let parts = same_before IsDigit (decimal n) (decimal m) (10 ∷ r) (10 ∷ s) (decimal_digits n) (decimal_digits m) (feed_ends r) (feed_ends s) rest in
    let behind : 10 ∷ r ≡ 10 ∷ s = parts.1 in
    (decimal_injective_wide n m (omega (arith, small)) (omega (arith, fits)) parts.0, (cc))

-- an optimum and that there is none differ at this byte
apart : (r s : List ℕ) → codes " whole optimal\n" ++ r ≡ codes " whole infeasible\n" ++ s → ⊥
apart r s e = let at : 111 ≡ 105 = ap (λ (l : List ℕ). get_or l 7 0) e in omega (arith, at)

-- the text of an answer in whole numbers tells all of it but its tree
pub whole_read : (layout : Layout) (sense : Sense) (a b : WholeAnswer) (r s : List ℕ) → IsWholeAnswerOf layout a → IsWholeAnswerOf layout b → whole_text sense a ++ r ≡ whole_text sense b ++ s
    → (without_tree a ≡ without_tree b) × (r ≡ s)
unfolding whole_text var_lines
whole_read layout sense (whole.Optimal v p t n) (whole.Optimal w q u m) r s h k e =
    let number = number_read (codes "value") (user_number sense v) (user_number sense w) _ _
    (append_cancel_left (codes " whole optimal\n") _ _ (sym (grouped (codes " whole optimal\n") _ _ (nodes_line n) r) ∙ e ∙ grouped (codes " whole optimal\n") _ _ (nodes_line m) s)) in
    let values = points_read (codes "var") p q _ _ (h.0 ∙ sym k.0) number.1 in
    let count = nodes_read n m r s h.1 k.1 values.1 in
    let same_value : v ≡ w = user_number_injective sense v w number.0 in
    let same_point : p ≡ q = values.0 in
    let same_nodes : n ≡ m = count.0 in
    (λ i. whole_optimum (same_value i) (same_point i) (same_nodes i), count.1)
whole_read layout sense (whole.Optimal v p t n) (whole.Infeasible u m) r s h k e = absurd (apart _ _ e)
whole_read layout sense (whole.Infeasible t n) (whole.Optimal w q u m) r s h k e = absurd (apart _ _ (sym e))
whole_read layout sense (whole.Infeasible t n) (whole.Infeasible u m) r s h k e =
    let line = λ (k : ℕ) (z : List ℕ).
    let regrouped : (codes " whole infeasible\n" ++ nodes_line k) ++ z ≡ codes " whole infeasible\n" ++ (nodes_line k ++ z) = simp append_assoc in
    regrouped in
    let count = nodes_read n m r s h k (append_cancel_left (codes " whole infeasible\n") _ _ (sym (line n r) ∙ e ∙ line m s)) in
    (ap no_whole_point count.0, count.1)
