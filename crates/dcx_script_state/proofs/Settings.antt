-- Values by name, and those of some names.
use Rattle.std.proofs.Common.{◌≡◌, ℕ, zero, suc, ◌+◌, Bool, true, false, List, [], ◌∷◌, ◌++◌, take, Some, None, refl, sym, ap, ◌∙◌, cond}
use Rattle.std.specs.Prelude.{filter}
use Rattle.std.specs.List.{slice_get, IsDistinct}
use Rattle.std.proofs.lemmas.Option.{none-some, same_Some, slice_get_within, get_or_from_slice_get}
use Rattle.dcx_atom.specs.declared.array.Array.{Array}
use Rattle.dcx_point.specs.Pairs.{Pairs, same_name, names_of, array_of, with_array, AreDistinct}
use Rattle.dcx_tree.proofs.Sublists.{filter_kept, filter_dropped}
use Rattle.dcx_point.proofs.Puts.{absent}
use Rattle.dcx_point.proofs.Names.{pair_at, all_at, unlike, array_at}

-- a name has no array among those that are left of the pairs before it
none_before : (test : List ℕ × Array → Bool) (ps : Pairs) (i : ℕ) (x : List ℕ × Array) → AreDistinct ps → slice_get ps i ≡ Some x → array_of (filter test (take i ps)) x.0 ≡ None
unfolding IsDistinct
none_before test [] i x d e = absurd (none-some x e)
none_before test (p ∷ ps) zero x d e = refl
none_before test (p ∷ ps) (suc i) x d e = by (none_before test ps i x d.1 e) (test p)
  where
    s : same_name x.0 p.0 ≡ false
    s = unlike p.0 x.0 (all_at (λ n. same_name p.0 n ≡ false) ps i x d.0 e)

    by : array_of (filter test (take i ps)) x.0 ≡ None → (b : Bool) → array_of (cond b (p ∷ filter test (take i ps)) (filter test (take i ps))) x.0 ≡ None
    by rest true = rw s rest
    by rest false = rest

-- it is put behind them
put_behind : (test : List ℕ × Array → Bool) (ps : Pairs) (i : ℕ) (x : List ℕ × Array) → AreDistinct ps → slice_get ps i ≡ Some x →
    with_array (filter test (take i ps)) x.0 x.1 ≡ filter test (take i ps) ++ x ∷ []
put_behind test ps i x d e = absent (filter test (take i ps)) x.0 x.1 (none_before test ps i x d e)

-- ---- a step over the pairs
module _ (test : List ℕ → Bool) (ps before after : Pairs) (i : ℕ) (distinct : AreDistinct ps) (was : before ≡ filter (λ e. test e.0) (take i ps)) where
  abbrev Next : Type 0
  Next = after ≡ filter (λ e. test e.0) (take (i + 1) ps)

  pub value_kept : (name : List ℕ) (a : Array) → Some name ≡ slice_get (names_of ps) i → Some a ≡ array_of ps name → test name ≡ true → after ≡ with_array before name a → Next
  value_kept name a named valued t puts =
      let (x, at) = pair_at ps i name (sym named) in
      let same : a ≡ x = same_Some a x (valued ∙ array_at ps i (name, x) distinct at) in
      filter_kept (λ (z : List ℕ × Array). test z.0) ps i (name, x) before after (slice_get_within ps i (name, x) at) (sym (get_or_from_slice_get ps i (name, x) (name, x) at)) was (name, x) t refl
      (puts
      ∙ ap (with_array before name) same
      ∙ ap (λ z. with_array z name x) was
      ∙ put_behind (λ (z : List ℕ × Array). test z.0) ps i (name, x) distinct at
      ∙ ap (λ z. z ++ (name, x) ∷ []) (sym was))

  pub value_dropped : (name : List ℕ) → Some name ≡ slice_get (names_of ps) i → test name ≡ false → after ≡ before → Next
  value_dropped name named t same =
      let (x, at) = pair_at ps i name (sym named) in
      filter_dropped (λ (z : List ℕ × Array). test z.0) ps i (name, x) before after (slice_get_within ps i (name, x) at) (sym (get_or_from_slice_get ps i (name, x) (name, x) at)) was t same
