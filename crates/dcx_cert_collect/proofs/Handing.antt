-- What the calls hand on is what is told of them.
use Rattle.std.proofs.Common.{◌≡◌, ℕ, zero, suc, ◌+◌, ◌<◌, arith, List, [], ◌∷◌, map, length, get_or, refl, sym, ap, ap₂, ◌∙◌, subst, inl, inr, ⊎_elim}
use Rattle.std.proofs.Common.{Option, Some, None, IfSome, IsSome, is_some, Result, Ok, Err, OnOk, IfErr}
use Rattle.std.specs.Option.{IsSomeAnd}
use Rattle.std.proofs.lemmas.List.{length-map}
use Rattle.std.proofs.Math.ListN.{get_or-map}
use Rattle.dcx_frac.specs.declared.fraction.Frac.{Frac}
use Rattle.dcx_frac.specs.declared.fraction.Passes.{Passes}
use Rattle.dcx_frac.specs.Fits.{IsRepresentable}
use Rattle.dcx_atom.proofs.Fractions.{number_fits}
use Rattle.dcx_shape.specs.declared.shape.Shape.{Shape}
use Rattle.dcx_shape.specs.declared.shape.Sides.{Sides}
use Rattle.dcx_shape.specs.Sides.{entries_of}
use Rattle.dcx_atom.specs.declared.stops.SlopeStop.{SlopeStop}
use Rattle.dcx_atom.specs.declared.stops.SlopeStop.TheVariants as slope_stops
use Rattle.dcx_atom.specs.declared.terms.Triple.{Triple}
use Rattle.dcx_atom.specs.Arrays.{number_at, sides_at, sides_list, list_below, entries_before}
use Rattle.dcx_atom.specs.Formed.{frac_at}
use Rattle.dcx_atom.specs.Linear.{LinearMeaning, linear_term, AreTermsOf}
use Rattle.dcx_atom.specs.Meaning.{Meaning}
use Rattle.dcx_atom.specs.Steps.{earlier, entry_stop, weights_of, AreSlopesOf, IsFirstStop, IsSlopeStop}
use Rattle.dcx_atom.proofs.FormedSums.{frac_at-value, frac_at-zero}
use Rattle.dcx_atom.proofs.BoundRows.{below_or_last, length-list_below}
use Rattle.dcx_atom.proofs.Lists.{list_below-same, get_or-list_below, joined_below-same}
use Rattle.dcx_affine.specs.declared.pairing.Pairing.{Pairing}
use Rattle.dcx_affine.specs.declared.pairing.Pair.{Pair}
use Rattle.dcx_affine.specs.Pairing.{paired_sides, pairs_at}
use Rattle.dcx_call.specs.Calls.{sides_of_two}
use Rattle.dcx_atom.specs.declared.array.Array.{Array}
use Rattle.dcx_tree.specs.Nodes.{Node}
use Rattle.dcx_cert_collect.specs.declared.pairs.Scaling.{Scaling}
use Rattle.dcx_cert_collect.specs.declared.stop.CollectStop.{CollectStop}
use Rattle.dcx_cert_collect.specs.Shares.{frac_in, Share, with_shares}
use Rattle.dcx_cert_collect.specs.Calls.{share_to, term_share, linear_shares, first_of_entries, slope_frac, slope_shares, stop_of, unless, atom_shares}
use Rattle.dcx_cert_collect.specs.Calls.{scaling_of, scaling_numbers, pair_share, pairing_shares}
use Rattle.dcx_cert_collect.specs.Pass.{or_passes, IsOrMemory, handed, pairing_hands}
use Rattle.dcx_atom.specs.Fractions.{AreFractionSlopes}

-- ---- shares that are told in two ways
pub told_ok : (told : Result (Unit {0}) Passes) (below after : List Frac) (given asked : List Share) → given ≡ asked → OnOk told (with_shares below given ≡ Ok after) →
    (r : Result (Unit {0}) CollectStop) → r ≡ or_passes told → OnOk r (handed below (Ok asked) ≡ Ok after)
told_ok (Ok x) below after given asked same h r is = rw is (ap (λ ss. or_passes (with_shares below ss)) (sym same) ∙ ap or_passes h)
told_ok (Err p) below after given asked same h r is = rw is tt

pub told_stop : (told : Result (Unit {0}) Passes) (below : List Frac) (given asked : List Share) → given ≡ asked → IfErr told (λ p. with_shares below given ≡ Err p) →
    (r : Result (Unit {0}) CollectStop) → r ≡ or_passes told → IfErr r (IsOrMemory (handed below (Ok asked)))
told_stop (Ok x) below given asked same h r is = rw is tt
told_stop (Err p) below given asked same h r is = rw is (inr (ap (λ ss. or_passes (with_shares below ss)) (sym same) ∙ ap or_passes h))

-- ---- a fact of sides, where there are some
pub sized : (o : Option Sides) (n : ℕ) (P : ℕ → Type 0) → IsSomeAnd o (λ s. n ≡ entries_of s) → IfSome o (λ s. P (entries_of s)) → P n
sized None n P h k = absurd h
sized (Some s) n P h k = subst P (sym h) k

-- ---- linear calls
terms_count : (m : LinearMeaning) (ss : List Sides) (n : ℕ) (ts : List (List Triple)) → AreTermsOf m ss n ts → length ts ≡ n
terms_count m ss n ts are = sym (length-map ts (map linear_term)) ∙ ap length are ∙ length-list_below n (m.terms ss)

terms_of : (m : LinearMeaning) (ss : List Sides) (n : ℕ) (ts : List (List Triple)) (j : ℕ) → AreTermsOf m ss n ts → j < n → map linear_term (get_or ts j []) ≡ m.terms ss j
terms_of m ss n ts j are b =
    sym (get_or-map (map linear_term) ts j []) ∙ ap (λ xs. get_or xs j []) are ∙ get_or-list_below n (m.terms ss) j [] b

pub linear_told : (nodes : List Node) (args : List ℕ) (m : LinearMeaning) (ss : List Sides) (cs : List Frac) (ts shown : List (List Triple)) → shown ≡ ts → AreTermsOf m ss (length cs) ts →
    linear_shares nodes args cs (λ j. map linear_term (get_or shown j [])) ≡ linear_shares nodes args cs (m.terms ss)
linear_told nodes args m ss cs ts shown is are =
    ap (λ xs. linear_shares nodes args cs (λ j. map linear_term (get_or xs j []))) is
    ∙ joined_below-same (length cs) (λ j. map (term_share nodes args (frac_in cs j)) (map linear_term (get_or ts j []))) (λ j. map (term_share nodes args (frac_in cs j)) (m.terms ss j))
    (λ j b. ap (map (term_share nodes args (frac_in cs j))) (terms_of m ss (length cs) ts j are b))

pub linear_count : (m : LinearMeaning) (ss : List Sides) (cs : List Frac) (ts shown : List (List Triple)) → shown ≡ ts → AreTermsOf m ss (length cs) ts → length shown ≡ length cs
linear_count m ss cs ts shown is are = ap length is ∙ terms_count m ss (length cs) ts are

-- ---- nonlinear calls
-- no entry has a stop
pub none_stops : (n : ℕ) (f : ℕ → Option SlopeStop) → ((j : ℕ) → j < n → f j ≡ None) → first_of_entries n f ≡ None
none_stops zero f h = refl
none_stops (suc n) f h = ap₂ earlier (none_stops n f (λ j b. h j (omega arith))) (h n (omega arith))

-- the first stop
pub first_stops : (n : ℕ) (f : ℕ → Option SlopeStop) (entry : ℕ) (stop : SlopeStop) → entry < n → ((j : ℕ) → j < entry → f j ≡ None) → f entry ≡ Some stop → first_of_entries n f ≡ Some stop
first_stops zero f entry stop b before here = absurd (omega arith)
first_stops (suc n) f entry stop b before here =
    ⊎_elim (λ l. ap (λ o. earlier o (f n)) (first_stops n f entry stop l before here))
    (λ s. ap₂ earlier (none_stops n f (λ j k. before j (omega (arith, s, k)))) (ap f (sym s) ∙ here)) (below_or_last entry n b)

pub frac_at-number : (xs : List Frac) (p : ℕ) → frac_at (number_at xs p) ≡ frac_in xs p
frac_at-number [] p = frac_at-zero
frac_at-number (x ∷ xs) zero = frac_at-value x
frac_at-number (x ∷ xs) (suc p) = frac_at-number xs p

slopes_told : (nodes : List Node) (args : List ℕ) (m : Meaning) (ss : List Sides) (size : ℕ) (cs ws gs shown : List Frac) → length args ≡ length ss → shown ≡ gs → AreSlopesOf m ss size cs ws gs →
    slope_shares nodes args ss (λ k e. frac_in shown (entries_before ss k + e)) ≡ slope_shares nodes args ss (slope_frac m ss ws)
slopes_told nodes args m ss size cs ws gs shown count is are =
    ap (λ xs. slope_shares nodes args ss (λ k e. frac_in xs (entries_before ss k + e))) is
    ∙ joined_below-same (length args) _ _ (λ k b. list_below-same (entries_of (sides_at ss k)) _ _ (λ e below. ap (λ x. share_to nodes args k e (Ok x))
    (sym (frac_at-number gs (entries_before ss k + e)) ∙ ap frac_at (are.slopes k e (omega (arith, b, count)) below))))

pub atom_told : (nodes : List Node) (i : ℕ) (args : List ℕ) (m : Meaning) (ss : List Sides) (cs ws gs shown : List Frac) → length args ≡ length ss → shown ≡ gs
    → AreSlopesOf m ss (length cs) cs ws gs →
    Ok (slope_shares nodes args ss (λ k e. frac_in shown (entries_before ss k + e))) ≡ atom_shares nodes i args m ss cs ws
atom_told nodes i args m ss cs ws gs shown count is are =
    ap Ok (slopes_told nodes args m ss (length cs) cs ws gs shown count is are)
    ∙ ap (λ o. unless i o (slope_shares nodes args ss (slope_frac m ss ws))) (sym (none_stops (length cs) (entry_stop m ss (number_at cs) (weights_of m ss ws)) are.no_stop))

first_told : (nodes : List Node) (i : ℕ) (args : List ℕ) (m : Meaning) (ss : List Sides) (cs ws : List Frac) (stop : SlopeStop) → IsFirstStop m ss (length cs) cs ws stop →
    atom_shares nodes i args m ss cs ws ≡ Err (stop_of i stop)
first_told nodes i args m ss cs ws stop h =
    ap (λ o. unless i o (slope_shares nodes args ss (slope_frac m ss ws)))
    (first_stops (length cs) (entry_stop m ss (number_at cs) (weights_of m ss ws)) h.entry stop h.is_entry h.before h.here)

pub atom_stops : (nodes : List Node) (i : ℕ) (args : List ℕ) (m : Meaning) (ss : List Sides) (cs ws below : List Frac) (stop : SlopeStop) → IsSlopeStop m ss (length cs) cs ws stop →
    IsOrMemory (handed below (atom_shares nodes i args m ss cs ws)) (stop_of i stop)
atom_stops nodes i args m ss cs ws below (slope_stops.Refused entry stated found) h = inr (ap (handed below) (first_told nodes i args m ss cs ws _ h))
atom_stops nodes i args m ss cs ws below (slope_stops.Passes passes) h = inr (ap (handed below) (first_told nodes i args m ss cs ws _ h))
atom_stops nodes i args m ss cs ws below slope_stops.Memory h = inl refl

pub handed_ok : (told : Result (Unit {0}) Passes) (below after : List Frac) (given : List Share) (asked : Result (List Share) CollectStop) → Ok given ≡ asked
    → OnOk told (with_shares below given ≡ Ok after) →
    (r : Result (Unit {0}) CollectStop) → r ≡ or_passes told → OnOk r (handed below asked ≡ Ok after)
handed_ok told below after given asked same h r is = subst (λ a. OnOk r (handed below a ≡ Ok after)) same (told_ok told below after given given refl h r is)

pub handed_stop : (told : Result (Unit {0}) Passes) (below : List Frac) (given : List Share) (asked : Result (List Share) CollectStop) → Ok given ≡ asked
    → IfErr told (λ p. with_shares below given ≡ Err p) →
    (r : Result (Unit {0}) CollectStop) → r ≡ or_passes told → IfErr r (IsOrMemory (handed below asked))
handed_stop told below given asked same h r is = subst (λ a. IfErr r (IsOrMemory (handed below a))) same (told_stop told below given given refl h r is)

-- ---- products and quotients
pub two_shapes : (p : Pairing) (shapes : List Shape) (P : Sides → Type 0) → IsSomeAnd (sides_of_two p (sides_list shapes)) P → length shapes ≡ 2
two_shapes p [] P h = absurd h
two_shapes p (a ∷ []) P h = absurd h
two_shapes p (a ∷ b ∷ []) P h = omega arith
two_shapes p (a ∷ b ∷ c ∷ rest) P h = absurd h

pub paired_of : (p : Pairing) (ss : List Sides) (P : Sides → Type 0) → IsSomeAnd (sides_of_two p ss) P → IsSomeAnd (paired_sides p (sides_at ss 0) (sides_at ss 1)) P
paired_of p [] P h = absurd h
paired_of p (a ∷ []) P h = absurd h
paired_of p (a ∷ b ∷ []) P h = h
paired_of p (a ∷ b ∷ c ∷ rest) P h = absurd h

pub some_of : (o : Option Sides) (P : Sides → Type 0) → IsSomeAnd o P → IsSome o
some_of None P h = absurd h
some_of (Some s) P h = refl

-- the pairs of each entry
pub pairs_listed : (p : Pairing) (ss : List Sides) (a b : Sides) (cs : List Frac) (ts : List (List Pair)) → a ≡ sides_at ss 0 → b ≡ sides_at ss 1
    → IsSomeAnd (sides_of_two p ss) (λ s. length cs ≡ entries_of s) →
    IfSome (paired_sides p a b) (λ s. ts ≡ list_below (entries_of s) (pairs_at p a b)) → ts ≡ list_below (length cs) (pairs_at p (sides_at ss 0) (sides_at ss 1))
pairs_listed p ss a b cs ts left right h k =
    sized (paired_sides p (sides_at ss 0) (sides_at ss 1)) (length cs) (λ n. ts ≡ list_below n (pairs_at p (sides_at ss 0) (sides_at ss 1))) (paired_of p ss (λ s. length cs ≡ entries_of s) h)
    (subst (λ u. IfSome (paired_sides p (sides_at ss 0) u) (λ s. ts ≡ list_below (entries_of s) (pairs_at p (sides_at ss 0) u))) right
    (subst (λ u. IfSome (paired_sides p u b) (λ s. ts ≡ list_below (entries_of s) (pairs_at p u b))) left k))

pub pairs_count : (p : Pairing) (ss : List Sides) (cs : List Frac) (ts shown : List (List Pair)) → shown ≡ ts
    → ts ≡ list_below (length cs) (pairs_at p (sides_at ss 0) (sides_at ss 1)) → length shown ≡ length cs
pairs_count p ss cs ts shown is are = ap length (is ∙ are) ∙ length-list_below (length cs) (pairs_at p (sides_at ss 0) (sides_at ss 1))

pub pairing_told : (nodes : List Node) (args : List ℕ) (p : Pairing) (ss : List Sides) (cs : List Frac) (left right : Option Array) (scaling : Scaling) (numbers : List Frac)
    (ts shown : List (List Pair)) →
    shown ≡ ts → ts ≡ list_below (length cs) (pairs_at p (sides_at ss 0) (sides_at ss 1)) → scaling ≡ scaling_of p (is_some left) → numbers ≡ scaling_numbers scaling left right →
    pairing_shares nodes args scaling numbers cs (λ j. get_or shown j []) ≡ pairing_hands nodes args p ss left right cs
pairing_told nodes args p ss cs left right scaling numbers ts shown is are how which =
    joined_below-same (length cs) (λ j. map (pair_share nodes args scaling numbers (frac_in cs j)) (get_or shown j [])) (λ j. map (pair_share nodes args scaling numbers (frac_in cs j))
    (pairs_at p (sides_at ss 0) (sides_at ss 1) j))
    (λ j b. ap (map (pair_share nodes args scaling numbers (frac_in cs j))) (ap (λ xs. get_or xs j []) (is ∙ are) ∙ get_or-list_below (length cs) (pairs_at p (sides_at ss 0) (sides_at ss 1)) j [] b))
    ∙ ap (λ xs. pairing_shares nodes args scaling xs cs (pairs_at p (sides_at ss 0) (sides_at ss 1))) which
    ∙ ap (λ h. pairing_shares nodes args h (scaling_numbers h left right) cs (pairs_at p (sides_at ss 0) (sides_at ss 1))) how

-- ---- listed slopes are fractions
pub slopes_fit : (m : Meaning) (ss : List Sides) (size : ℕ) (cs ws gs : List Frac) → AreSlopesOf m ss size cs ws gs → AreFractionSlopes m ss ws
slopes_fit m ss size cs ws gs are = λ k e b c. subst IsRepresentable (are.slopes k e b c) (number_fits gs (entries_before ss k + e))
