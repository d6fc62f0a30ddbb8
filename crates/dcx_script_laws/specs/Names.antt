-- What a script stands for doesn't depend on the names of what it binds.
use Rattle.std.specs.Prelude.{◌≡◌, ℕ, Bool, false, if◌then◌else◌, codes, List, [], ◌∷◌, Ok}
use Rattle.std.specs.List.{list_any}
use Rattle.dcx_point.specs.Pairs.{same_name}
use Rattle.dcx_tree.specs.declared.problem.Problem.{Problem}
use Rattle.dcx_tree.specs.Meaning.{convex_problem}
use Rattle.dcx_syntax.specs.declared.tree.Module.{Module}
use Rattle.dcx_syntax.specs.declared.tree.Module.TheVariants.{Cvxpy, Numpy}
use Rattle.dcx_syntax.specs.declared.tree.Script.{Script}
use Rattle.dcx_syntax.specs.Expressions.{Expr}
use Rattle.dcx_syntax.specs.Statements.{Lines, module_bytes}
use Rattle.dcx_syntax.specs.View.{script_view}
use Rattle.dcx_script_values.specs.Values.{State, Act}
use Rattle.dcx_elab.specs.declared.work.Work.{Work}
use Rattle.dcx_elab.specs.Expressions.{expr_means}
use Rattle.dcx_elab.specs.Statements.{lines_mean}
use Rattle.dcx_elab.specs.Meaning.{meaning, Elaborates}
use Rattle.dcx_script_laws.specs.Renamed.{expr_renamed, lines_renamed, state_renamed, answer_renamed, meaning_renamed, IsRenamedProblem, IsRenamedWork}

-- other names, one for each, which leave the words of the language as they are: `range`, and the names that modules have
pub record IsRenaming (rename : List ℕ → List ℕ) : Type 0 where
  pub apart : (a b : List ℕ) → rename a ≡ rename b → a ≡ b
  pub range : rename (codes "range") ≡ codes "range"
  pub modules : (m : Module) → rename (module_bytes m) ≡ module_bytes m

-- a word of the language
abbrev pub is_word : List ℕ → Bool
is_word name = list_any (λ w. same_name w name) (codes "range" ∷ module_bytes Cvxpy ∷ module_bytes Numpy ∷ [])

-- each name but two, which are exchanged
abbrev pub exchanged : List ℕ → List ℕ → List ℕ → List ℕ
exchanged a b name = if same_name name a then b else (if same_name name b then a else name)

-- the second does under other names what the first does
pub record Follows (rename : List ℕ → List ℕ) {A : Type 0} (m n : Act A) : Type 0 where
  pub along : (s : State) → n (state_renamed rename s) ≡ answer_renamed rename (m s)

-- what a script stands for doesn't depend on the names of what it binds, but for the names themselves
pub record HoldsForNames : Type 0 where
  -- each expression, and each list of lines, does the same under other names, whatever came before
  pub expression : (rename : List ℕ → List ℕ) → IsRenaming rename → (x : Expr) → Follows rename (expr_means x) (expr_means (expr_renamed rename x))
  pub lines : (rename : List ℕ → List ℕ) → IsRenaming rename → (ls : Lines) → Follows rename (lines_mean ls) (lines_mean (lines_renamed rename ls))
  -- a script comes to the same state with these names and asks the same at its end, or it comes to the same fault at the same place
  pub script : (rename : List ℕ → List ℕ) → IsRenaming rename → (ls : Lines) → meaning (lines_renamed rename ls) ≡ meaning_renamed rename (meaning ls)
  -- what is handed out of it, its problem and its settings, is the same with these names
  pub work : (rename : List ℕ → List ℕ) → IsRenaming rename → (script other : Script) → script_view other ≡ lines_renamed rename (script_view script) →
      (v w : Work) → Elaborates (Ok v) script → Elaborates (Ok w) other → IsRenamedWork rename v w
  -- and in the terms of convex programming, where variables and parameters go by numbers, the problem is the very same: so
  -- it is accepted alike, and has the same values and the same answers
  pub problem : (rename : List ℕ → List ℕ) → IsRenaming rename → (p q : Problem) → IsRenamedProblem rename p q → convex_problem q ≡ convex_problem p
  -- two names that are no words of the language may be exchanged: so any name may be replaced by one that a script doesn't have
  pub exchange : (a b : List ℕ) → is_word a ≡ false → is_word b ≡ false → IsRenaming (exchanged a b)
