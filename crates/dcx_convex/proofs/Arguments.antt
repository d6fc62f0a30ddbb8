-- What is told of nodes, read off the lists of a node's arguments.
use Rattle.std.proofs.Common.{◌≡◌, ℕ, zero, suc, IsTrue, Bool, ◌&&◌, List, [], ◌∷◌, length, map, All, refl, ap, ap₂, pos}
use Rattle.std.specs.List.{list_all}
use Rattle.std.proofs.lemmas.Bool.{and_parts, false≢true}
use Rattle.std.proofs.lemmas.List.Elements.{All-head, All-tail}
use Rattle.dcx_math.specs.Rational.{ℚ, whole}
use Rattle.dcx_math.proofs.Orders.{≤ℚ_refl}
use Rattle.dcx_atom.specs.declared.flags.Sign.{Sign}
use Rattle.dcx_atom.specs.Signs.{HasSign, HaveSigns, unknown_sign}
use Rattle.dcx_convex.specs.Nodes.{Numbers, arguments}
use Rattle.dcx_convex.specs.Rules.{Judgement, argument}

-- zero has every sign, and every number the unknown one
pub zero_signed : (s : Sign) → HasSign s (whole (pos 0))
zero_signed s = record { nonneg = λ _. ≤ℚ_refl _; nonpos = λ _. ≤ℚ_refl _ }

pub unknown_signed : (x : ℚ) → HasSign unknown_sign x
unknown_signed x = record { nonneg = λ t. absurd (false≢true t); nonpos = λ t. absurd (false≢true t) }

-- the arguments have the signs that are told of them
pub args_signed : (judged : ℕ → Judgement) (values : ℕ → Numbers) → ((i j : ℕ) → HasSign (judged i).sign (values i j)) → (args : List ℕ) →
    HaveSigns (map (λ g. g.sign) (map judged args)) (arguments (map values args))
args_signed judged values h [] k e = zero_signed unknown_sign
args_signed judged values h (i ∷ args) zero e = h i e
args_signed judged values h (i ∷ args) (suc k) e = args_signed judged values h args k e

pub count_of : {A B : Type 0} (f : ℕ → A) (g : A → B) (args : List ℕ) → length (map g (map f args)) ≡ length args
count_of f g [] = refl
count_of f g (i ∷ args) = ap suc (count_of f g args)

-- where a test says the same at each position, it says the same of all arguments
pub tests_same : (test : Judgement → Bool) (f g : ℕ → Judgement) → ((i : ℕ) → test (f i) ≡ test (g i)) → (args : List ℕ) → list_all test (map f args) ≡ list_all test (map g args)
tests_same test f g h [] = refl
tests_same test f g h (i ∷ args) = ap₂ ◌&&◌ (h i) (tests_same test f g h args)

module _ (judged : ℕ → Judgement) (u v : ℕ → Numbers) (Q : ℕ → Type 0) where
  -- where u and v agree at the positions that pass a test, they agree at arguments that all do
  pub args_same : (test : Judgement → Bool) → ((i : ℕ) → Q i → IsTrue (test (judged i)) → u i ≡ v i) → (args : List ℕ) → All Q args →
      IsTrue (list_all test (map judged args)) → map u args ≡ map v args
  args_same test h [] all t = refl
  args_same test h (i ∷ args) all t =
      let b = and_parts (test (judged i)) (list_all test (map judged args)) t in
      ap₂ ◌∷◌ (h i (All-head Q i args all) b.0) (args_same test h args (All-tail Q i args all) b.1)

  -- and at one argument that does
  pub argument_same : (test : Judgement → Bool) → ((i : ℕ) → Q i → IsTrue (test (judged i)) → u i ≡ v i) → (args : List ℕ) → All Q args → (k : ℕ) →
      IsTrue (test (argument (map judged args) k)) → arguments (map u args) k ≡ arguments (map v args) k
  argument_same test h [] all k t = refl
  argument_same test h (i ∷ args) all zero t = h i (All-head Q i args all) t
  argument_same test h (i ∷ args) all (suc k) t = argument_same test h args (All-tail Q i args all) k t

-- the same, where u and v agree at all positions that are judged to reach no variable
module _ (judged : ℕ → Judgement) (u v : ℕ → Numbers) (h : (i : ℕ) → IsTrue (judged i).fixed → u i ≡ v i) (args : List ℕ) where
  pub fixed_args_same : IsTrue (list_all (λ g. g.fixed) (map judged args)) → map u args ≡ map v args
  fixed_args_same t = args_same judged u v (λ _. Unit {0}) (λ g. g.fixed) (λ i _. h i) args (λ _ _ _. tt) t

  pub fixed_argument_same : (k : ℕ) → IsTrue (argument (map judged args) k).fixed → arguments (map u args) k ≡ arguments (map v args) k
  fixed_argument_same k t = argument_same judged u v (λ _. Unit {0}) (λ g. g.fixed) (λ i _. h i) args (λ _ _ _. tt) k t
