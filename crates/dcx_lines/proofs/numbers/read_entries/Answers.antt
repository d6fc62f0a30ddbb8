-- One more number is read, or none can be.
use Rattle.std.proofs.Common.{◌≡◌, ℕ, ◌+◌, List, [], ◌∷◌, ◌++◌, length, Option, None, Some, Bor, IfSome, sym, ap, ◌∙◌, subst, arith, length-append}
use Rattle.std.specs.Prelude.{MatchOption, IfNone}
use Rattle.std.specs.List.{flat_map}
use Rattle.dcx_lines.specs.Pieces.{entry_text}
use Rattle.dcx_lines.specs.Reading.{HasEntries}
use Rattle.dcx_frac.specs.declared.fraction.Frac.{Frac}
use Rattle.dcx_lines.proofs.Entries.{IsLeft, left_first, more_left, none_left, last_left, read_more}
use Rattle.dcx_lines.proofs.numbers.read_entries.Goals as goal

pub returns-in-None-clause-none : goal.returns-in-None-clause-none
returns-in-None-clause-none c = λ ns r h.
    none_left c.args.count c.entries.counter c.entries.numbers.items c.entries.rest.now ns r c.in-None.ensures.every (omega arith) (c.entries.invariant.left ns r h)

pub entries-preserved : goal.entries-preserved
entries-preserved c =
    let read = c.entries.numbers.items in
    let f = c.in-Some.number in
    let items : c.push.new.self.items ≡ read ++ f ∷ [] = c.in_ok-push-in-Some.ensures.items in
    record {
      counted = ap length items ∙ length-append read (f ∷ []) ∙ ap (λ n. n + 1) c.entries.invariant.counted;
      read = read_more c.args.bytes.now read c.entries.rest.now f c.in-Some.after.now c.entries.invariant.read c.in-Some.ensures.read
          ∙ ap (λ ns. flat_map entry_text ns ++ c.in-Some.after.now) (sym items);
      left = λ ns r h.
          subst (λ xs. IsLeft c.args.count (c.entries.counter + 1) xs c.in-Some.after.now ns r) (sym items)
          (more_left c.args.count c.entries.counter read c.entries.rest.now f c.in-Some.after.now ns r c.in-Some.ensures.every (omega arith) (c.entries.invariant.left ns r h));
    }

pub entries-init : goal.entries-init
entries-init c =
    let none = sym c.requires in
    record {
      counted = ap length c.requires;
      read = ap (λ ns. flat_map entry_text ns ++ c.args.bytes.now) none;
      left = λ ns r h. subst (λ xs. IsLeft c.args.count 0 xs c.args.bytes.now ns r) none (left_first c.args.count c.args.bytes.now ns r h);
    }

-- a line feed behind all numbers
ended : (count k : ℕ) (bytes rest : List ℕ) (ns : List Frac) (o : Option (Bor (List ℕ))) → k ≡ count → length ns ≡ k → bytes ≡ flat_map entry_text ns ++ rest →
    MatchOption o ((t : List ℕ) → rest ≡ 10 ∷ t → ⊥) (λ t. rest ≡ 10 ∷ t.now) → IfSome o (λ t. HasEntries count bytes ns t.now)
ended count k bytes rest ns None e counted written h = tt
ended count k bytes rest ns (Some t) e counted written h = record { counted = counted ∙ e; written = written ∙ ap (λ ts. flat_map entry_text ns ++ ts) h }

-- where no line feed stands behind all numbers, none are written so
not_ended : (count k : ℕ) (bytes rest : List ℕ) (ns : List Frac) (o : Option (Bor (List ℕ))) → k ≡ count →
    ((ms : List Frac) (r : List ℕ) → HasEntries count bytes ms r → IsLeft count k ns rest ms r) →
    MatchOption o ((t : List ℕ) → rest ≡ 10 ∷ t → ⊥) (λ t. rest ≡ 10 ∷ t.now) → IfNone o ((ms : List Frac) (r : List ℕ) → HasEntries count bytes ms r → ⊥)
not_ended count k bytes rest ns None e left h = λ ms r has. h r (last_left count ns rest ms r (subst (λ j. IsLeft count j ns rest ms r) e (left ms r has)))
not_ended count k bytes rest ns (Some t) e left h = tt

pub returns-clause-read : goal.returns-clause-read
returns-clause-read c =
    let all : c.entries.counter ≡ c.args.count = omega (arith, c.entries.auto.counter-end, c.entries-test.false) in
    ended c.args.count c.entries.counter c.args.bytes.now c.entries.rest.now c.entries.numbers.items c.behind.result all c.entries.invariant.counted c.entries.invariant.read c.behind.ensures

pub returns-clause-none : goal.returns-clause-none
returns-clause-none c =
    let all : c.entries.counter ≡ c.args.count = omega (arith, c.entries.auto.counter-end, c.entries-test.false) in
    not_ended c.args.count c.entries.counter c.args.bytes.now c.entries.rest.now c.entries.numbers.items c.behind.result all c.entries.invariant.left c.behind.ensures
