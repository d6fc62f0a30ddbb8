-- Broadcasting by rows and columns.
use Rattle.std.proofs.Common.{◌≡◌, ℕ, zero, suc, max, Option, None, IsSome, false, true, refl, sym, ◌∙◌, ap, arith, inl, inr, mul-pos, ◌⊎◌, ◌<◌, ◌≤◌}
use Rattle.std.specs.Prelude.{◌↔◌}
use Rattle.dcx_shape.specs.declared.shape.Sides.{Sides}
use Rattle.dcx_shape.specs.declared.shape.Sides.TheVariants.{Scalar, Vector, Matrix}
use Rattle.std.proofs.lemmas.Bool.{false≢true}
use Rattle.dcx_shape.specs.Sides.{HasFewEntries, rank_of, rows_of, cols_of}
use Rattle.dcx_shape.specs.Broadcast.{side_from_right, IsJoinedSide, IsBroadcast, HasForm}
use Rattle.dcx_shape.specs.Laws.{Broadcasts, HoldsForBroadcasts}
use Rattle.dcx_shape.proofs.Entries.{entries_are, factor_pos}
use Rattle.std.proofs.lemmas.Nat.{mul-le}

-- the sides from the third on are 1
joined : (a b c : Sides) → IsJoinedSide (cols_of a) (cols_of b) (cols_of c) → IsJoinedSide (rows_of a) (rows_of b) (rows_of c) → (k : ℕ)
    → IsJoinedSide (side_from_right a k) (side_from_right b k) (side_from_right c k)
joined a b c columns rows zero = columns
joined a b c columns rows (suc zero) = rows
joined a b c columns rows (suc (suc k)) = record { fits = inl refl; greater = refl }

-- what has the joined rows and columns and the greater rank is the broadcast
pub broadcast_from_form : (a b c : Sides) (rank rows columns : ℕ) → IsJoinedSide (rows_of a) (rows_of b) rows → IsJoinedSide (cols_of a) (cols_of b) columns
    → rank ≡ max (rank_of a) (rank_of b) → HasForm rank rows columns c → IsBroadcast a b c
broadcast_from_form a b c rank rows columns r s e f = record {
  rank = f.is_rank ∙ e;
  sides = joined a b c (record { fits = s.fits; greater = f.is_columns ∙ s.greater }) (record { fits = r.fits; greater = f.is_rows ∙ r.greater });
}

-- and the other way round
pub form_from_broadcast : (a b c : Sides) (rank rows columns : ℕ) → IsJoinedSide (rows_of a) (rows_of b) rows → IsJoinedSide (cols_of a) (cols_of b) columns
    → rank ≡ max (rank_of a) (rank_of b) → IsBroadcast a b c → HasForm rank rows columns c
form_from_broadcast a b c rank rows columns r s e h = record {
  is_rank = h.rank ∙ sym e;
  is_rows = (h.sides 1).greater ∙ sym r.greater;
  is_columns = (h.sides 0).greater ∙ sym s.greater;
}

-- what is asked of the result of `broadcast`
abbrev pub Shared : Sides → Sides → Type 0
Shared a b = (c : Sides) × IsBroadcast a b c × HasFewEntries c

-- a result that is lacking exists exactly where nothing does
lacking : {X : Type 0} {Q : Type 0} (r : Option X) → r ≡ None → (Q → ⊥) → IsSome r ↔ Q
lacking r e never = rw e ((λ h. absurd (false≢true h)), (λ q. absurd (never q)))

-- where the rows or the columns are not joined, there is no broadcast
pub not_joined_rows : (a b : Sides) (m n : ℕ) {X : Type 0} (r : Option X) → m ≡ rows_of a → n ≡ rows_of b → r ≡ None → (((k : ℕ) × IsJoinedSide m n k) → false ≡ true) → IsSome r ↔ Shared a b
not_joined_rows a b m n r p q e never = lacking r e (λ (c, h, few). false≢true (never (rw (p, q) (rows_of c, h.sides 1))))

pub not_joined_columns : (a b : Sides) (m n : ℕ) {X : Type 0} (r : Option X) → m ≡ cols_of a → n ≡ cols_of b → r ≡ None → (((k : ℕ) × IsJoinedSide m n k) → false ≡ true) → IsSome r ↔ Shared a b
not_joined_columns a b m n r p q e never = lacking r e (λ (c, h, few). false≢true (never (rw (p, q) (cols_of c, h.sides 0))))

-- where both are, the broadcast is what has the joined form
pub shared_from_form : (a b : Sides) (rank rows columns : ℕ) {P : Type 0} → IsJoinedSide (rows_of a) (rows_of b) rows → IsJoinedSide (cols_of a) (cols_of b) columns
    → rank ≡ max (rank_of a) (rank_of b) → (P ↔ ((c : Sides) × HasForm rank rows columns c × HasFewEntries c)) → P ↔ Shared a b
shared_from_form a b rank rows columns r s e h = (
  (λ p. let f = h.0 p in (f.0, broadcast_from_form a b f.0 rank rows columns r s e f.1, f.2)),
  (λ (c, b', few). h.1 (c, form_from_broadcast a b c rank rows columns r s e b', few)),
)

-- ---- laws

-- rank, rows and columns are the sides
same_sides : (c d : Sides) → rank_of c ≡ rank_of d → rows_of c ≡ rows_of d → cols_of c ≡ cols_of d → c ≡ d
same_sides Scalar Scalar r m n = refl
same_sides Scalar (Vector k) r m n = absurd (omega arith)
same_sides Scalar (Matrix j k) r m n = absurd (omega arith)
same_sides (Vector k) Scalar r m n = absurd (omega arith)
same_sides (Vector k) (Vector l) r m n = ap Vector n
same_sides (Vector k) (Matrix j l) r m n = absurd (omega arith)
same_sides (Matrix j k) Scalar r m n = absurd (omega arith)
same_sides (Matrix j k) (Vector l) r m n = absurd (omega arith)
same_sides (Matrix j k) (Matrix i l) r m n = cc

pub broadcast_one : (a b c d : Sides) → IsBroadcast a b c → IsBroadcast a b d → c ≡ d
broadcast_one a b c d h k = same_sides c d (h.rank ∙ sym k.rank) ((h.sides 1).greater ∙ sym (k.sides 1).greater) ((h.sides 0).greater ∙ sym (k.sides 0).greater)

joined_turned : (m n k : ℕ) → IsJoinedSide m n k → IsJoinedSide n m k
joined_turned m n k j = record { fits = fits_turned j.fits; greater = omega (arith, j.greater) }
  where
    fits_turned : (m ≡ n) ⊎ ((m ≡ 1) ⊎ (n ≡ 1)) → (n ≡ m) ⊎ ((n ≡ 1) ⊎ (m ≡ 1))
    fits_turned (inl e) = inl (sym e)
    fits_turned (inr (inl e)) = inr (inr e)
    fits_turned (inr (inr e)) = inr (inl e)

pub broadcast_commutes : (a b c : Sides) → IsBroadcast a b c → IsBroadcast b a c
broadcast_commutes a b c h = record { rank = omega (arith, h.rank); sides = λ k. joined_turned _ _ _ (h.sides k) }

-- sides of at least 1 join in any grouping
joined_inner : (k l m n : ℕ) → 0 < k → 0 < l → 0 < m → (x : ℕ) → IsJoinedSide k l x → IsJoinedSide x m n → IsJoinedSide l m (max l m)
joined_inner k l m n p q r x h j = record { fits = inner h.fits j.fits; greater = refl }
  where
    inner : (k ≡ l) ⊎ ((k ≡ 1) ⊎ (l ≡ 1)) → (x ≡ m) ⊎ ((x ≡ 1) ⊎ (m ≡ 1)) → (l ≡ m) ⊎ ((l ≡ 1) ⊎ (m ≡ 1))
    inner (inl e) (inl f) = inl (omega (arith, h.greater))
    inner (inr (inl e)) (inl f) = inl (omega (arith, h.greater))
    inner (inr (inr e)) (inl f) = inr (inl e)
    inner a (inr (inl f)) = inr (inl (omega (arith, h.greater)))
    inner a (inr (inr f)) = inr (inr f)

joined_outer : (k l m n : ℕ) → 0 < k → 0 < l → 0 < m → (x : ℕ) → IsJoinedSide k l x → IsJoinedSide x m n → IsJoinedSide k (max l m) n
joined_outer k l m n p q r x h j = record { fits = outer h.fits j.fits; greater = omega (arith, h.greater, j.greater) }
  where
    outer : (k ≡ l) ⊎ ((k ≡ 1) ⊎ (l ≡ 1)) → (x ≡ m) ⊎ ((x ≡ 1) ⊎ (m ≡ 1)) → (k ≡ max l m) ⊎ ((k ≡ 1) ⊎ (max l m ≡ 1))
    outer (inr (inl e)) b = inr (inl e)
    outer (inl e) (inl f) = inl (omega (arith, h.greater))
    outer (inr (inr e)) (inl f) = inl (omega (arith, h.greater))
    outer a (inr (inl f)) = inr (inl (omega (arith, h.greater)))
    outer (inl e) (inr (inr f)) = inl (omega arith)
    outer (inr (inr e)) (inr (inr f)) = inr (inr (omega arith))

one_row : (s : Sides) → rank_of s < 2 → rows_of s ≡ 1
one_row Scalar h = refl
one_row (Vector n) h = refl
one_row (Matrix m n) h = absurd (omega arith)

one_column : (s : Sides) → rank_of s < 1 → cols_of s ≡ 1
one_column Scalar h = refl
one_column (Vector n) h = absurd (omega arith)
one_column (Matrix m n) h = absurd (omega arith)

most_sides : (s : Sides) → rank_of s ≤ 2
most_sides Scalar = omega arith
most_sides (Vector n) = omega arith
most_sides (Matrix m n) = omega arith

-- there are sides of each form
form_exists : (rank rows columns : ℕ) → rank ≤ 2 → (rank < 2 → rows ≡ 1) → (rank < 1 → columns ≡ 1) → (c : Sides) × HasForm rank rows columns c
form_exists zero rows columns h m n = (Scalar, record { is_rank = refl; is_rows = sym (m (omega arith)); is_columns = sym (n (omega arith)) })
form_exists (suc zero) rows columns h m n = (Vector columns, record { is_rank = refl; is_rows = sym (m (omega arith)); is_columns = refl })
form_exists (suc (suc zero)) rows columns h m n = (Matrix rows columns, record { is_rank = refl; is_rows = refl; is_columns = refl })
form_exists (suc (suc (suc rank))) rows columns h m n = absurd (omega arith)

pub some_sides : (s : Sides) → HasFewEntries s → (0 < rows_of s) × (0 < cols_of s)
some_sides s few = factor_pos 0 (rows_of s) (cols_of s) (omega (arith, few.some, entries_are s))

-- sides that are no longer have no more entries
fewer : (c d : Sides) → 0 < rows_of c → 0 < cols_of c → rows_of c ≤ rows_of d → cols_of c ≤ cols_of d → HasFewEntries d → HasFewEntries c
fewer c d p q m n few = record {
  some = rw entries_are (mul-pos p q);
  most = omega (arith, entries_are c, entries_are d, few.most, mul-le (rows_of c) (cols_of c) (rows_of d) (cols_of d) m n);
}

pub broadcast_regroups : (a b c d : Sides) → HasFewEntries a → HasFewEntries b → HasFewEntries c → ((x : Sides) × Broadcasts a b x × Broadcasts x c d)
    → ((y : Sides) × Broadcasts b c y × Broadcasts a y d)
broadcast_regroups a b c d p q r (x, first, second) =
    let pa : (0 < rows_of a) × (0 < cols_of a) = some_sides a p in
    let pb : (0 < rows_of b) × (0 < cols_of b) = some_sides b q in
    let pc : (0 < rows_of c) × (0 < cols_of c) = some_sides c r in
    let rows : IsJoinedSide (rows_of b) (rows_of c) (max (rows_of b) (rows_of c)) =
    joined_inner (rows_of a) (rows_of b) (rows_of c) (rows_of d) pa.0 pb.0 pc.0 (rows_of x) (first.is.sides 1) (second.is.sides 1) in
    let columns : IsJoinedSide (cols_of b) (cols_of c) (max (cols_of b) (cols_of c)) =
    joined_inner (cols_of a) (cols_of b) (cols_of c) (cols_of d) pa.1 pb.1 pc.1 (cols_of x) (first.is.sides 0) (second.is.sides 0) in
    let all_rows : IsJoinedSide (rows_of a) (max (rows_of b) (rows_of c)) (rows_of d) =
    joined_outer (rows_of a) (rows_of b) (rows_of c) (rows_of d) pa.0 pb.0 pc.0 (rows_of x) (first.is.sides 1) (second.is.sides 1) in
    let all_columns : IsJoinedSide (cols_of a) (max (cols_of b) (cols_of c)) (cols_of d) =
    joined_outer (cols_of a) (cols_of b) (cols_of c) (cols_of d) pa.1 pb.1 pc.1 (cols_of x) (first.is.sides 0) (second.is.sides 0) in
    let y = form_exists (max (rank_of b) (rank_of c)) (max (rows_of b) (rows_of c)) (max (cols_of b) (cols_of c)) (omega (arith, most_sides b, most_sides c))
    (λ low. omega (arith, one_row b (omega arith), one_row c (omega arith))) (λ low. omega (arith, one_column b (omega arith), one_column c (omega arith))) in
    let inner : IsBroadcast b c y.0 = broadcast_from_form b c y.0 _ _ _ rows columns refl y.1 in
    let outer : IsBroadcast a y.0 d = record {
      rank = omega (arith, second.is.rank, first.is.rank, y.1.is_rank);
      sides = joined a y.0 d (rw y.1.is_columns all_columns) (rw y.1.is_rows all_rows);
    } in (
      y.0,
      record {
        is = inner;
        few = fewer y.0 d (omega (arith, y.1.is_rows)) (omega (arith, y.1.is_columns)) (omega (arith, y.1.is_rows, all_rows.greater))
            (omega (arith, y.1.is_columns, all_columns.greater)) second.few;
      },
      record { is = outer; few = second.few },
    )

turned : (a b c : Sides) → Broadcasts a b c → Broadcasts b a c
turned a b c h = record { is = broadcast_commutes a b c h.is; few = h.few }

pub broadcasts_hold : HoldsForBroadcasts
broadcasts_hold = record {
  one = broadcast_one;
  commutes = broadcast_commutes;
  associates = λ a b c d p q r. (
    broadcast_regroups a b c d p q r,
    (λ (y, first, second).
        let other = broadcast_regroups c b a d r q p (y, turned b c y first, turned a y d second) in
        (other.0, turned b a other.0 other.1, turned c other.0 d other.2)),
  );
}
