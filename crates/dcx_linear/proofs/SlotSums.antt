-- Coefficients in slots: what stands at each unknown, what a write changes, and that terms added one by one give the sum.
use Rattle.std.proofs.Common.{◌≡◌, ◌≢◌, ℕ, zero, suc, ◌+◌, ◌<◌, ◌≤◌, Bool, true, false, if◌then◌else◌, List, [], ◌∷◌, ◌++◌, Option, Some, None, Result, Ok}
use Rattle.std.proofs.Common.{Err, length, get_or, take, drop, append_assoc, add-one, refl, sym, ap, ap₂, ◌∙◌, subst, pos, arith, inl, inr}
use Rattle.std.specs.List.{All}
use Rattle.std.specs.Option.{option_to_list}
use Rattle.std.proofs.Math.ListN.{set}
use Rattle.std.proofs.lemmas.List.{append-nil, drop_all, take_all, take_more_set, drop-set-lt}
use Rattle.std.proofs.lemmas.List.Elements.{All-cons, All-nil, All-weaker}
use native.Mathlib.Decide.{ℕ_discrete}
use Rattle.dcx_math.specs.Rational.{whole}
use Rattle.dcx_math.proofs.Ratios.{IsTrue-rat_eq}
use Rattle.dcx_frac.specs.declared.fraction.Frac.{Frac}
use Rattle.dcx_frac.specs.declared.fraction.Passes.{Passes}
use Rattle.dcx_frac.specs.Frac.{value}
use Rattle.dcx_atom.specs.Formed.{zero_frac}
use Rattle.dcx_atom.proofs.FormedSums.{value-zero_frac}
use Rattle.dcx_linear.specs.declared.form.FormTerm.{FormTerm}
use Rattle.dcx_linear.specs.declared.form.Form.{Form}
use Rattle.dcx_linear.specs.Changes.{zero_test}
use Rattle.dcx_linear.specs.Terms.{term_at, SumsAt, FormsKeys, SumsTerms}
use Rattle.dcx_linear.specs.TermLaws.{term_at-here, term_at-later, term_at-below}
use Rattle.dcx_linear.specs.FormTerms.{unknown_of, is_told_zero, has_zero_coefficient, HoldsUnknowns, sum_gives_unknown}
use Rattle.dcx_linear.specs.Forms.{sum_gives_linear}
use Rattle.dcx_linear.proofs.Formed.{drop_at, IsSparse-drop}
use Rattle.dcx_linear.specs.Slots.{kept_term, listed_from, accumulated, sum_with_slot, adds_to_slot, adds_term}

-- 0 is told to be 0
pub zero_is_told : zero_test zero_frac ≡ true
zero_is_told = (IsTrue-rat_eq (value zero_frac) (whole (pos 0))).1 value-zero_frac

-- so is each coefficient that is 0
pub zero_coefficient : {C : Type 0} (number_of : C → Option Frac) (of_number : Frac → C) → number_of (of_number zero_frac) ≡ Some zero_frac → (c : C) → c ≡ of_number zero_frac
    → is_told_zero (number_of c) ≡ true
zero_coefficient number_of of_number told c e = ap (λ x. is_told_zero (number_of x)) e ∙ ap is_told_zero told ∙ zero_is_told

-- a fact of what is formed at each key carries over to the list
pub formed_map : {T : Type 0} (key : T → ℕ) (is_zero : T → Bool) (F H : ℕ → Result (Option T) Passes → Type 0) → ((k : ℕ) (r : Result (Option T) Passes) → F k r → H k r)
    → (answer : Result (List T) Passes) → FormsKeys key is_zero F answer → FormsKeys key is_zero H answer
formed_map key is_zero F H f (Ok ts) h = (h.0, λ k. f k (Ok (term_at key ts k)) (h.1 k))
formed_map key is_zero F H f (Err passes) h = record {
  key = h.key;
  here = f h.key (Err passes) h.here;
  before = λ k lt. let b = h.before k lt in (b.0, f k (Ok b.0) b.1);
}

module _ {C : Type 0} (number_of : C → Option Frac) where
  abbrev term : ℕ → C → FormTerm C
  term unknown c = record { unknown = unknown; coefficient = c }

  abbrev Listed : ℕ → List C → List (FormTerm C)
  Listed n cs = listed_from number_of n cs

  abbrev z : FormTerm C → Bool
  z t = has_zero_coefficient number_of t

  with_kept-All : (P : FormTerm C → Type 0) (t : FormTerm C) (ts : List (FormTerm C)) (b : Bool) → P t → All P ts → All P (option_to_list (if b then None else Some t) ++ ts)
  with_kept-All P t ts true p h = h
  with_kept-All P t ts false p h = All-cons P t ts p h

  -- no unknown below n is listed
  pub listed-above : (n : ℕ) (cs : List C) (k : ℕ) → k < n → All (λ t. k < unknown_of t) (listed_from number_of n cs)
  listed-above n [] k lt = All-nil (λ t. k < unknown_of t)
  listed-above n (c ∷ cs) k lt =
      with_kept-All (λ t. k < unknown_of t) (term n c) (Listed (suc n) cs) (z (term n c)) lt (listed-above (suc n) cs k (omega (arith, lt)))

  with_kept-sparse : (t : FormTerm C) (ts : List (FormTerm C)) (b : Bool) → z t ≡ b → All (λ u. t.unknown < unknown_of u) ts → HoldsUnknowns number_of ts
      → HoldsUnknowns number_of (option_to_list (if b then None else Some t) ++ ts)
  with_kept-sparse t ts true e above h = h
  with_kept-sparse t ts false e above h = record { rising = (above, h.rising); nonzero = All-cons (λ u. z u ≡ false) t ts e h.nonzero }

  -- the terms that are listed are sparse
  pub listed-sparse : (n : ℕ) (cs : List C) → HoldsUnknowns number_of (listed_from number_of n cs)
  listed-sparse n [] = record { rising = tt; nonzero = All-nil (λ t. z t ≡ false) }
  listed-sparse n (c ∷ cs) = with_kept-sparse (term n c) (Listed (suc n) cs) (z (term n c)) refl (listed-above (suc n) cs n (omega arith)) (listed-sparse (suc n) cs)

  with_kept-here : (t : FormTerm C) (ts : List (FormTerm C)) (b : Bool) → All (λ u. t.unknown < unknown_of u) ts
      → term_at unknown_of (option_to_list (if b then None else Some t) ++ ts) t.unknown ≡ (if b then None else Some t)
  with_kept-here t ts true above = term_at-below unknown_of ts t.unknown above
  with_kept-here t ts false above = term_at-here unknown_of t ts t.unknown refl

  -- the first coefficient stands at the first unknown, unless it is 0
  first_here : (n : ℕ) (c : C) (cs : List C) → term_at unknown_of (Listed n (c ∷ cs)) n ≡ kept_term number_of n c
  first_here n c cs = with_kept-here (term n c) (Listed (suc n) cs) (z (term n c)) (listed-above (suc n) cs n (omega arith))

  with_kept-later : (t : FormTerm C) (ts : List (FormTerm C)) (b : Bool) (k : ℕ) → k ≢ t.unknown → term_at unknown_of (option_to_list (if b then None else Some t) ++ ts) k ≡ term_at unknown_of ts k
  with_kept-later t ts true k d = refl
  with_kept-later t ts false k d = term_at-later unknown_of t ts k (λ e. d (sym e))

  -- at another unknown stands what the others have there
  later : (n : ℕ) (c : C) (cs : List C) (k : ℕ) → k ≢ n → term_at unknown_of (Listed n (c ∷ cs)) k ≡ term_at unknown_of (Listed (suc n) cs) k
  later n c cs k d = with_kept-later (term n c) (Listed (suc n) cs) (z (term n c)) k d

  -- a coefficient that is read stands at its unknown, unless it is 0
  pub read_slot : (cs : List C) (n i u : ℕ) (c : C) → u ≡ n + i → i < length cs → c ≡ get_or cs i c → term_at unknown_of (listed_from number_of n cs) u ≡ kept_term number_of u c
  read_slot [] n i u c e lt is = absurd (omega (arith, lt))
  read_slot (d ∷ cs) n zero u c e lt is =
      let f : n ≡ u = omega (arith, e) in
      subst (λ k. term_at unknown_of (Listed n (d ∷ cs)) k ≡ kept_term number_of k c) f (subst (λ x. term_at unknown_of (Listed n (d ∷ cs)) n ≡ kept_term number_of n x) (sym is) (first_here n d cs))
  read_slot (d ∷ cs) n (suc i) u c e lt is = later n d cs u (λ f. omega (arith, e, f)) ∙ read_slot cs (suc n) i u c (omega (arith, e)) (omega (arith, lt)) is

  -- a coefficient that is written stands there, unless it is 0
  pub written_slot : (cs : List C) (n i u : ℕ) (c : C) → u ≡ n + i → i < length cs → term_at unknown_of (listed_from number_of n (set cs i c)) u ≡ kept_term number_of u c
  written_slot [] n i u c e lt = absurd (omega (arith, lt))
  written_slot (d ∷ cs) n zero u c e lt =
      let f : n ≡ u = omega (arith, e) in
      subst (λ k. term_at unknown_of (Listed n (c ∷ cs)) k ≡ kept_term number_of k c) f (first_here n c cs)
  written_slot (d ∷ cs) n (suc i) u c e lt = later n d (set cs i c) u (λ f. omega (arith, e, f)) ∙ written_slot cs (suc n) i u c (omega (arith, e)) (omega (arith, lt))

  -- at the other unknowns stands what stood there
  pub other_slots : (cs : List C) (n i u : ℕ) (c : C) (k : ℕ) → u ≡ n + i → k ≢ u → term_at unknown_of (listed_from number_of n (set cs i c)) k ≡ term_at unknown_of (listed_from number_of n cs) k
  other_slots [] n i u c k e d = refl
  other_slots (b ∷ cs) n zero u c k e d =
      let f : k ≢ n = λ g. d (omega (arith, e, g)) in
      later n c cs k f ∙ sym (later n b cs k f)
  other_slots (b ∷ cs) n (suc i) u c k e d = by (ℕ_discrete n k) (other_slots cs (suc n) i u c k (omega (arith, e)) d)
    where
      by : Dec (n ≡ k) → term_at unknown_of (Listed (suc n) (set cs i c)) k ≡ term_at unknown_of (Listed (suc n) cs) k
          → term_at unknown_of (Listed n (b ∷ set cs i c)) k ≡ term_at unknown_of (Listed n (b ∷ cs)) k
      by (yes f) rest = subst (λ j. term_at unknown_of (Listed n (b ∷ set cs i c)) j ≡ term_at unknown_of (Listed n (b ∷ cs)) j) f (first_here n b (set cs i c) ∙ sym (first_here n b cs))
      by (no f) rest =
          let g : k ≢ n = λ h. f (sym h) in
          later n b (set cs i c) k g ∙ rest ∙ sym (later n b cs k g)

  -- a 0 behind the others lists nothing
  pub listed-push : (cs : List C) (n : ℕ) (c : C) → is_told_zero (number_of c) ≡ true → listed_from number_of n (cs ++ c ∷ []) ≡ listed_from number_of n cs
  listed-push [] n c e = ap (λ b. option_to_list (if b then None else Some (term n c)) ++ Listed (suc n) []) e
  listed-push (d ∷ cs) n c e = ap (λ l. option_to_list (kept_term number_of n d) ++ l) (listed-push cs (suc n) c e)

  -- the coefficient of a slot is taken, and the others are left
  pub slot_taken : (so_far terms : List (FormTerm C)) (cs : List C) (i : ℕ) (c w : C) → i < length cs → c ≡ get_or cs i c → terms ≡ so_far ++ option_to_list (kept_term number_of i c)
      → terms ++ listed_from number_of (i + 1) (drop (i + 1) (set cs i w)) ≡ so_far ++ listed_from number_of i (drop i cs)
  slot_taken so_far terms cs i c w lt is e =
      ap₂ (λ a b. a ++ Listed (i + 1) b) e (drop-set-lt (i + 1) cs i w (omega arith))
      ∙ append_assoc so_far (option_to_list (kept_term number_of i c)) (Listed (i + 1) (drop (i + 1) cs))
      ∙ ap (λ n. so_far ++ (option_to_list (kept_term number_of i c) ++ Listed n (drop (i + 1) cs))) (add-one i)
      ∙ ap (λ l. so_far ++ Listed i l) (sym (drop_at cs i c lt is))

  -- and 0 stands there
  pub slot_cleared : (cs : List C) (i : ℕ) (w : C) → i < length cs → is_told_zero (number_of w) ≡ true → listed_from number_of 0 (take i cs) ≡ []
      → listed_from number_of 0 (take (i + 1) (set cs i w)) ≡ []
  slot_cleared cs i w lt told h = ap (Listed 0) (take_more_set cs i w lt) ∙ listed-push (take i cs) 0 w told ∙ h

  -- after the last slot all are taken
  pub slots_taken : (so_far goal : List (FormTerm C)) (cs : List C) (i : ℕ) → length cs ≤ i → so_far ++ listed_from number_of i (drop i cs) ≡ goal → so_far ≡ goal
  slots_taken so_far goal cs i le h = sym (append-nil so_far) ∙ ap (λ l. so_far ++ Listed i l) (sym (drop_all i cs le)) ∙ h

  pub slots_cleared : (cs : List C) (i : ℕ) → length cs ≤ i → listed_from number_of 0 (take i cs) ≡ [] → listed_from number_of 0 cs ≡ []
  slots_cleared cs i le h = ap (Listed 0) (sym (take_all i cs le)) ∙ h

  module _ (Sums : C → C → Result C Passes → Type 0) where
    abbrev G : FormTerm C → FormTerm C → Result (FormTerm C) Passes → Type 0
    G t u r = sum_gives_unknown Sums t u r

    at_slot : (t : FormTerm C) (s w : C) → z t ≡ false → (b : Bool) → sum_with_slot b Sums s t.coefficient (Ok w)
        → SumsAt z G (if b then None else Some (term t.unknown s)) (Some t) (Ok (kept_term number_of t.unknown w))
    at_slot t s w nonzero true h =
        let d : w ≡ t.coefficient = cc in
        ap (λ c. Ok (kept_term number_of t.unknown c)) d ∙ ap (λ b. Ok (if b then None else Some t)) nonzero
    at_slot t s w nonzero false h = (term t.unknown w, (refl, (refl, h)), refl)

    -- a term is added where its slot is written
    pub term_added : (cs : List C) (t : FormTerm C) (s w : C) → t.unknown < length cs → s ≡ get_or cs t.unknown s → z t ≡ false → adds_to_slot number_of Sums s t.coefficient (Ok w)
        → adds_term number_of Sums (listed_from number_of 0 cs) t (Ok (listed_from number_of 0 (set cs t.unknown w)))
    term_added cs t s w lt is nonzero h = (
      subst (λ x. SumsAt z G x (Some t) (Ok (term_at unknown_of (Listed 0 (set cs t.unknown w)) t.unknown))) (sym (read_slot cs 0 t.unknown t.unknown s (omega arith) lt is))
          (subst (λ x. SumsAt z G (kept_term number_of t.unknown s) (Some t) (Ok x)) (sym (written_slot cs 0 t.unknown t.unknown w (omega arith) lt))
          (at_slot t s w nonzero (is_told_zero (number_of s)) h)),
      λ k d. other_slots cs 0 t.unknown t.unknown w k (omega arith) d,
    )

    pass_slot : (t : FormTerm C) (s : C) (passes : Passes) (b : Bool) → sum_with_slot b Sums s t.coefficient (Err passes)
        → SumsAt z G (if b then None else Some (term t.unknown s)) (Some t) (Err passes)
    pass_slot t s passes true h = cc
    pass_slot t s passes false h = (refl, h)

    -- or the sum of its coefficient passes
    pub term_passes : (cs : List C) (t : FormTerm C) (s : C) (passes : Passes) → t.unknown < length cs → s ≡ get_or cs t.unknown s → adds_to_slot number_of Sums s t.coefficient (Err passes)
        → adds_term number_of Sums (listed_from number_of 0 cs) t (Err passes)
    term_passes cs t s passes lt is h =
        subst (λ x. SumsAt z G x (Some t) (Err passes)) (sym (read_slot cs 0 t.unknown t.unknown s (omega arith) lt is)) (pass_slot t s passes (is_told_zero (number_of s)) h)

    with_none : (x : Option (FormTerm C)) → SumsAt z G x None (Ok x)
    with_none None = refl
    with_none (Some t) = refl

    only_that : (x : Option (FormTerm C)) (r : Result (Option (FormTerm C)) Passes) → SumsAt z G x None r → r ≡ Ok x
    only_that None r h = h
    only_that (Some t) r h = h

    SumsAt-same : (x y v w : Option (FormTerm C)) (r s : Result (Option (FormTerm C)) Passes) → x ≡ y → v ≡ w → r ≡ s → SumsAt z G x v r → SumsAt z G y w s
    SumsAt-same x y v w r s e f g h = subst (λ q. SumsAt z G y w q) g (subst (λ q. SumsAt z G y q r) f (subst (λ q. SumsAt z G q v r) e h))

    -- a term before the others is added first, and then the others
    pub term_goes : (ts us : List (FormTerm C)) (t : FormTerm C) (rest : List (FormTerm C)) → adds_term number_of Sums ts t (Ok us) → All (λ v. t.unknown < unknown_of v) rest
        → (answer : Result (List (FormTerm C)) Passes)
        → SumsTerms unknown_of (has_zero_coefficient number_of) (sum_gives_unknown Sums) us rest answer
        → SumsTerms unknown_of (has_zero_coefficient number_of) (sum_gives_unknown Sums) ts (t ∷ rest) answer
    term_goes ts us t rest h above answer s =
        formed_map unknown_of z (λ k. SumsAt z G (term_at unknown_of us k) (term_at unknown_of rest k)) (λ k. SumsAt z G (term_at unknown_of ts k) (term_at unknown_of (t ∷ rest) k))
        (λ k r q. each k r q (ℕ_discrete t.unknown k)) answer s
      where
        each : (k : ℕ) (r : Result (Option (FormTerm C)) Passes) → SumsAt z G (term_at unknown_of us k) (term_at unknown_of rest k) r → Dec (t.unknown ≡ k)
            → SumsAt z G (term_at unknown_of ts k) (term_at unknown_of (t ∷ rest) k) r
        each k r q (yes e) =
            let none = term_at-below unknown_of rest k (subst (λ j. All (λ v. j < unknown_of v) rest) e above) in
            let is = only_that (term_at unknown_of us k) r (SumsAt-same (term_at unknown_of us k) (term_at unknown_of us k) (term_at unknown_of rest k) None r r refl none refl q) in
            SumsAt-same (term_at unknown_of ts k) (term_at unknown_of ts k) (Some t) (term_at unknown_of (t ∷ rest) k) (Ok (term_at unknown_of us k)) r refl
            (sym (term_at-here unknown_of t rest k e)) (sym is)
            (subst (λ j. SumsAt z G (term_at unknown_of ts j) (Some t) (Ok (term_at unknown_of us j))) e h.0)
        each k r q (no d) =
            SumsAt-same (term_at unknown_of us k) (term_at unknown_of ts k) (term_at unknown_of rest k) (term_at unknown_of (t ∷ rest) k) r r (h.1 k (λ e. d (sym e)))
            (sym (term_at-later unknown_of t rest k d)) refl q

    -- where its coefficient passes, the sum passes there first
    pub term_stops : (ts : List (FormTerm C)) (t : FormTerm C) (rest : List (FormTerm C)) (passes : Passes) → adds_term number_of Sums ts t (Err passes) → All (λ v. t.unknown < unknown_of v) rest
        → SumsTerms unknown_of (has_zero_coefficient number_of) (sum_gives_unknown Sums) ts (t ∷ rest) (Err passes)
    term_stops ts t rest passes h above = record {
      key = t.unknown;
      here = SumsAt-same (term_at unknown_of ts t.unknown) (term_at unknown_of ts t.unknown) (Some t) (term_at unknown_of (t ∷ rest) t.unknown) (Err passes) (Err passes) refl
          (sym (term_at-here unknown_of t rest t.unknown refl)) refl h;
      before = λ k lt. (
        term_at unknown_of ts k,
        SumsAt-same (term_at unknown_of ts k) (term_at unknown_of ts k) None (term_at unknown_of (t ∷ rest) k) (Ok (term_at unknown_of ts k)) (Ok (term_at unknown_of ts k)) refl
            (sym (term_at-below unknown_of (t ∷ rest) k (All-cons (λ v. k < unknown_of v) t rest lt
            (All-weaker (λ v. t.unknown < unknown_of v) (λ v. k < unknown_of v) (λ v a. omega (arith, a, lt)) rest above)))) refl
            (with_none (term_at unknown_of ts k)),
      );
    }

    -- nothing is left to add
    pub terms_end : (ts : List (FormTerm C)) → HoldsUnknowns number_of ts → SumsTerms unknown_of (has_zero_coefficient number_of) (sum_gives_unknown Sums) ts [] (Ok ts)
    terms_end ts h = (h, λ k. with_none (term_at unknown_of ts k))

    -- the terms from n on lead from the slots to the sum
    abbrev pub GoesOn : List (FormTerm C) → List C → List (FormTerm C) → ℕ → Type 0
    GoesOn start cs terms n = (answer : Result (List (FormTerm C)) Passes)
        → SumsTerms unknown_of (has_zero_coefficient number_of) (sum_gives_unknown Sums) (listed_from number_of 0 cs) (drop n terms) answer
        → SumsTerms unknown_of (has_zero_coefficient number_of) (sum_gives_unknown Sums) start terms answer

    module _ (start terms : List (FormTerm C)) (sparse : HoldsUnknowns number_of terms) (n : ℕ) (t : FormTerm C) (lt : n < length terms) (is : t ≡ get_or terms n t) where
      rest : HoldsUnknowns number_of (t ∷ drop (n + 1) terms)
      rest = subst (HoldsUnknowns number_of) (drop_at terms n t lt is) (IsSparse-drop unknown_of z n terms sparse)

      pub term_nonzero : has_zero_coefficient number_of t ≡ false
      term_nonzero = ap z is ∙ sparse.nonzero n t lt

      pub terms_go : (cs ds : List C) → adds_term number_of Sums (listed_from number_of 0 cs) t (Ok (listed_from number_of 0 ds)) → GoesOn start cs terms n → GoesOn start ds terms (n + 1)
      terms_go cs ds h go answer s =
          go answer (subst (λ l. SumsTerms unknown_of z G (Listed 0 cs) l answer) (sym (drop_at terms n t lt is))
          (term_goes (Listed 0 cs) (Listed 0 ds) t (drop (n + 1) terms) h rest.rising.0 answer s))

      pub terms_stop : (cs : List C) (passes : Passes) → adds_term number_of Sums (listed_from number_of 0 cs) t (Err passes) → GoesOn start cs terms n
          → SumsTerms unknown_of (has_zero_coefficient number_of) (sum_gives_unknown Sums) start terms (Err passes)
      terms_stop cs passes h go =
          go (Err passes) (subst (λ l. SumsTerms unknown_of z G (Listed 0 cs) l (Err passes)) (sym (drop_at terms n t lt is)) (term_stops (Listed 0 cs) t (drop (n + 1) terms) passes h rest.rising.0))

    pub terms_done : (start terms : List (FormTerm C)) (n : ℕ) (cs : List C) → length terms ≤ n → GoesOn start cs terms n
        → SumsTerms unknown_of (has_zero_coefficient number_of) (sum_gives_unknown Sums) start terms (Ok (listed_from number_of 0 cs))
    terms_done start terms n cs le go =
        go (Ok (Listed 0 cs)) (subst (λ l. SumsTerms unknown_of z G (Listed 0 cs) l (Ok (Listed 0 cs))) (sym (drop_all n terms le)) (terms_end (Listed 0 cs) (listed-sparse 0 cs)))

    -- ---- forms
    module _ (old f : Form C) (constant : C) (cs : List C) (is_old : accumulated number_of constant cs ≡ old) (sparse : HoldsUnknowns number_of f.terms) where
      both_sparse : HoldsUnknowns number_of (listed_from number_of 0 cs) × HoldsUnknowns number_of f.terms
      both_sparse = (listed-sparse 0 cs, sparse)

      -- the sum of the constants passes
      pub constant_passes : (passes : Passes) → Sums constant f.constant (Err passes) → sum_gives_linear number_of Sums old f (Err passes)
      constant_passes passes h = subst (λ g. sum_gives_linear number_of Sums g f (Err passes)) is_old (both_sparse, inl h)

      module _ (sum : C) (sums : Sums constant f.constant (Ok sum)) (terms : List (FormTerm C)) (is_terms : terms ≡ f.terms) where
        -- the terms are added after the constants
        pub form_added : (ds : List C) → SumsTerms unknown_of (has_zero_coefficient number_of) (sum_gives_unknown Sums) (listed_from number_of 0 cs) terms (Ok (listed_from number_of 0 ds))
            → sum_gives_linear number_of Sums old f (Ok (accumulated number_of sum ds))
        form_added ds h =
            subst (λ g. sum_gives_linear number_of Sums g f (Ok (accumulated number_of sum ds))) is_old
            (both_sparse, (sums, subst (λ l. SumsTerms unknown_of z G (Listed 0 cs) l (Ok (Listed 0 ds))) is_terms h))

        -- or the sum of a coefficient passes
        pub term_of_form_passes : (passes : Passes) → SumsTerms unknown_of (has_zero_coefficient number_of) (sum_gives_unknown Sums) (listed_from number_of 0 cs) terms (Err passes)
            → sum_gives_linear number_of Sums old f (Err passes)
        term_of_form_passes passes h =
            subst (λ g. sum_gives_linear number_of Sums g f (Err passes)) is_old
            (both_sparse, inr ((sum, sums), subst (λ l. SumsTerms unknown_of z G (Listed 0 cs) l (Err passes)) is_terms h))
