-- Lists of what stands under names, with other names.
use Rattle.std.proofs.Common.{◌≡◌, ℕ, Bool, true, false, cond, List, [], ◌∷◌, map, Some, refl, sym, ap, ap₂, ◌∙◌, true≢false}
use Rattle.std.specs.Prelude.{◌||◌, filter}
use Rattle.std.specs.List.{list_any}
use Rattle.std.specs.Map.{lookup, remove_entry}
use Rattle.std.specs.Cmp.Lexicographic.{bytes_decides}
use Rattle.indexmap.specs.IndexMap.{insert_entry}
use Rattle.dcx_point.specs.Pairs.{same_name}
use Rattle.dcx_script_laws.specs.Renamed.{entries_renamed}
use Rattle.dcx_script_laws.specs.Names.{IsRenaming}

-- ---- what is changed item by item, beside a test that tells the same of what it becomes
pub any_changed : {X : Type 0} (change : X → X) (test told : X → Bool) → ((x : X) → told (change x) ≡ test x) → (xs : List X) → list_any told (map change xs) ≡ list_any test xs
any_changed change test told h [] = refl
any_changed change test told h (x ∷ xs) = ap₂ (λ a b. a || b) (h x) (any_changed change test told h xs)

pub filter_changed : {X : Type 0} (change : X → X) (test told : X → Bool) → ((x : X) → told (change x) ≡ test x) → (xs : List X) → filter told (map change xs) ≡ map change (filter test xs)
filter_changed change test told h [] = refl
filter_changed change test told h (x ∷ xs) = rw (h x) (by (test x) (filter_changed change test told h xs))
  where
    by : (b : Bool) → filter told (map change xs) ≡ map change (filter test xs)
        → cond b (change x ∷ filter told (map change xs)) (filter told (map change xs)) ≡ map change (cond b (x ∷ filter test xs) (filter test xs))
    by true r = ap (λ l. change x ∷ l) r
    by false r = r

module _ {rename : List ℕ → List ℕ} (is : IsRenaming rename) where
  -- other names are the same where the names are
  pub same_renamed : (a b : List ℕ) → same_name (rename a) (rename b) ≡ same_name a b
  same_renamed a b = by (same_name (rename a) (rename b)) (same_name a b) refl refl
    where
      by : (t u : Bool) → same_name (rename a) (rename b) ≡ t → same_name a b ≡ u → t ≡ u
      by true true p q = refl
      by false false p q = refl
      by true false p q = absurd (true≢false (sym ((bytes_decides a b).1 (is.apart a b ((bytes_decides (rename a) (rename b)).0 p))) ∙ q))
      by false true p q = absurd (true≢false (sym ((bytes_decides (rename a) (rename b)).1 (ap rename ((bytes_decides a b).0 q))) ∙ p))

  -- ---- values under names
  pub lookup_renamed : {X : Type 0} (name : List ℕ) (es : List (List ℕ × X)) → lookup (same_name (rename name)) (entries_renamed rename es) ≡ lookup (same_name name) es
  lookup_renamed name [] = refl
  lookup_renamed name (e ∷ es) = rw (same_renamed name e.0) (ap (λ r. cond (same_name name e.0) (Some e.1) r) (lookup_renamed name es))

  pub insert_renamed : {X : Type 0} (es : List (List ℕ × X)) (name : List ℕ) (v : X)
      → insert_entry same_name (entries_renamed rename es) (rename name) v ≡ entries_renamed rename (insert_entry same_name es name v)
  insert_renamed [] name v = refl
  insert_renamed (e ∷ es) name v = rw (same_renamed name e.0) (by (same_name name e.0) (insert_renamed es name v))
    where
      by : (b : Bool) → insert_entry same_name (entries_renamed rename es) (rename name) v ≡ entries_renamed rename (insert_entry same_name es name v) →
          cond b ((rename e.0, v) ∷ entries_renamed rename es) ((rename e.0, e.1) ∷ insert_entry same_name (entries_renamed rename es) (rename name) v)
          ≡ entries_renamed rename (cond b ((e.0, v) ∷ es) (e ∷ insert_entry same_name es name v))
      by true h = refl
      by false h = ap (λ r. (rename e.0, e.1) ∷ r) h

  pub remove_renamed : {X : Type 0} (name : List ℕ) (es : List (List ℕ × X))
      → remove_entry (same_name (rename name)) (entries_renamed rename es) ≡ entries_renamed rename (remove_entry (same_name name) es)
  remove_renamed name [] = refl
  remove_renamed name (e ∷ es) = rw (same_renamed name e.0) (by (same_name name e.0) (remove_renamed name es))
    where
      by : (b : Bool) → remove_entry (same_name (rename name)) (entries_renamed rename es) ≡ entries_renamed rename (remove_entry (same_name name) es) →
          cond b (entries_renamed rename es) ((rename e.0, e.1) ∷ remove_entry (same_name (rename name)) (entries_renamed rename es))
          ≡ entries_renamed rename (cond b es (e ∷ remove_entry (same_name name) es))
      by true h = refl
      by false h = ap (λ r. (rename e.0, e.1) ∷ r) h

  -- ---- names that are listed
  pub any_renamed : {X : Type 0} (name_of : X → List ℕ) (change : X → X) → ((x : X) → name_of (change x) ≡ rename (name_of x)) → (name : List ℕ) (xs : List X) →
      list_any (λ x. same_name (rename name) (name_of x)) (map change xs) ≡ list_any (λ x. same_name name (name_of x)) xs
  any_renamed name_of change h name xs =
      any_changed change (λ x. same_name name (name_of x)) (λ x. same_name (rename name) (name_of x)) (λ x. ap (same_name (rename name)) (h x) ∙ same_renamed name (name_of x)) xs
