-- The names of what a script declares, and of its settings, have no line feed: under other names for those that have one it is the same.
use Rattle.std.proofs.Common.{◌≡◌, ◌≢◌, ℕ, Bool, true, false, eqb, cond, ◌||◌, List, [], ◌∷◌, length, map, Ok, refl, sym, ap, ◌∙◌, subst, arith, true≢false}
use Rattle.std.specs.List.{AllByRecursion}
use Rattle.std.proofs.lemmas.Bool.{eqb-true, eqb-false}
use Rattle.dcx_point.specs.Pairs.{Pairs, names_of}
use Rattle.dcx_call.specs.declared.attribute.Parameter.{Parameter}
use Rattle.dcx_syntax.specs.declared.tree.Module.{Module}
use Rattle.dcx_syntax.specs.declared.tree.Module.TheVariants.{Cvxpy, Numpy}
use Rattle.dcx_syntax.specs.declared.tree.Script.{Script}
use Rattle.dcx_syntax.specs.Statements.{module_bytes, lines_text}
use Rattle.dcx_syntax.specs.View.{script_view}
use Rattle.dcx_read.specs.Parses.{IsReading}
use Rattle.dcx_elab.specs.declared.work.Work.{Work}
use Rattle.dcx_elab.specs.Meaning.{Elaborates}
use Rattle.dcx_script_laws.specs.Renamed.{lines_renamed, entries_renamed, parameter_renamed}
use Rattle.dcx_script_laws.specs.Names.{IsRenaming}
use Rattle.dcx_script_laws.proofs.Renamed.Works.{works_renamed}
use Rattle.dcx_report.proofs.OneLine.{IsLine}
use Rattle.dcx_run_laws.proofs.Tokens.{names_are_lines}
use Rattle.dcx_run_laws.proofs.Settings.{AreLines}
use Rattle.dcx_run_laws.proofs.Trees.{AreFine, terminals_fine, lines_same}

-- ---- other names
-- a line feed is among them
abbrev has_feed : List ℕ → Bool
has_feed [] = false
has_feed (c ∷ cs) = eqb c 10 || has_feed cs

-- a name with a line feed gets one more in front
abbrev marked : List ℕ → List ℕ
marked n = cond (has_feed n) (10 ∷ n) n

without : (n : List ℕ) → IsLine n → has_feed n ≡ false
without [] h = refl
without (c ∷ cs) h = by (eqb c 10) refl (without cs h.1)
  where
    by : (b : Bool) → eqb c 10 ≡ b → has_feed cs ≡ false → (b || has_feed cs) ≡ false
    by true e rest = absurd (h.0 (eqb-true c 10 e))
    by false e rest = rest

line : (n : List ℕ) → has_feed n ≡ false → IsLine n
line [] e = tt
line (c ∷ cs) e = by (eqb c 10) refl e (line cs)
  where
    by : (b : Bool) → eqb c 10 ≡ b → (b || has_feed cs) ≡ false → (has_feed cs ≡ false → IsLine cs) → IsLine (c ∷ cs)
    by true is h rest = absurd (true≢false h)
    by false is h rest = (eqb-false c 10 is, rest h)

keeps : (n : List ℕ) → IsLine n → marked n ≡ n
keeps n h = ap (λ b. cond b (10 ∷ n) n) (without n h)

-- what keeps its name has none
kept : (n : List ℕ) → n ≡ marked n → IsLine n
kept n e = by (has_feed n) refl e
  where
    by : (b : Bool) → has_feed n ≡ b → n ≡ cond b (10 ∷ n) n → IsLine n
    by true is h = absurd (let l : length n ≡ length (10 ∷ n) = ap length h in omega (arith, l))
    by false is h = line n is

apart : (a b : List ℕ) → marked a ≡ marked b → a ≡ b
apart a b e = by (has_feed a) (has_feed b) refl refl e
  where
    by : (x y : Bool) → has_feed a ≡ x → has_feed b ≡ y → cond x (10 ∷ a) a ≡ cond y (10 ∷ b) b → a ≡ b
    by true true f g h = cc
    by true false f g h = absurd (true≢false (ap has_feed h ∙ g))
    by false true f g h = absurd (true≢false (sym (ap has_feed h) ∙ f))
    by false false f g h = h

renaming : IsRenaming marked
renaming = record { apart = apart; range = refl; modules = of_module }
  where
    of_module : (m : Module) → marked (module_bytes m) ≡ module_bytes m
    of_module Cvxpy = refl
    of_module Numpy = refl

-- ---- what keeps its names
parameters_lines : (qs : List Parameter) → qs ≡ map (parameter_renamed marked) qs → AllByRecursion (λ q. IsLine q.name) qs
parameters_lines [] e = tt
parameters_lines (q ∷ qs) e =
    let first : q ≡ parameter_renamed marked q = cc in
    let rest : qs ≡ map (parameter_renamed marked) qs = cc in
    (kept q.name (ap (λ (x : Parameter). x.name) first), parameters_lines qs rest)

pairs_lines : (ps : Pairs) → ps ≡ entries_renamed marked ps → AllByRecursion IsLine (names_of ps)
pairs_lines [] e = tt
pairs_lines (p ∷ ps) e =
    let first : p.0 ≡ marked p.0 = cc in
    let rest : ps ≡ entries_renamed marked ps = cc in
    (kept p.0 first, pairs_lines ps rest)

events_lines : (ss : List Pairs) → ss ≡ map (entries_renamed marked) ss → AreLines ss
events_lines [] e = tt
events_lines (s ∷ ss) e =
    let first : s ≡ entries_renamed marked s = cc in
    let rest : ss ≡ map (entries_renamed marked) ss = cc in
    (pairs_lines s first, events_lines ss rest)

-- ---- scripts
pub record HasLines (w : Work) : Type 0 where
  pub parameters : AllByRecursion (λ q. IsLine q.name) w.problem.parameters
  pub events : AreLines w.events
  pub last : AllByRecursion IsLine (names_of w.last)

pub work_lines : (bytes : List ℕ) (script : Script) (w : Work) → IsReading bytes (Ok script) → Elaborates (Ok w) script → HasLines w
work_lines bytes script w (tokens, (has, tree)) h =
    let fine : AreFine (lines_text tree.tree) =
    subst AreFine (sym tree.spelled.spelled) (terminals_fine bytes has.text.utf8 tokens (names_are_lines bytes has.text.utf8 tokens has.lexed)) in
    let same : script_view script ≡ lines_renamed marked (script_view script) =
    tree.kept ∙ sym (lines_same marked keeps tree.tree fine) ∙ ap (lines_renamed marked) (sym tree.kept) in
    let again = works_renamed renaming script script same w w h h in
    record { parameters = parameters_lines w.problem.parameters again.problem.parameters; events = events_lines w.events again.events; last = pairs_lines w.last again.last }
