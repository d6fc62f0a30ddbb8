-- Where each node is last asked for, as it is put node by node.
use Rattle.std.proofs.Common.{◌≡◌, ℕ, zero, suc, ◌+◌, ◌<◌, ◌≤◌, arith, List, [], ◌∷◌, ◌++◌, length, get_or, take, sym, ap, ◌∙◌, subst, ◌⊎◌, inl, inr}
use Rattle.std.specs.List.{All, Contains}
use Rattle.std.specs.Option.{unwrap_or, option_map}
use Rattle.std.proofs.Math.ListN.{set}
use Rattle.std.proofs.lemmas.Bool.{cases_eq, cases_lt}
use Rattle.std.proofs.lemmas.List.{length-set, get_or-set_same, get_or-set_other, take_more, map_push, flat_map_more}
use Rattle.std.proofs.lemmas.List.Elements.{All-nil, All-cons, Contains-append_left, Contains-append_right, Contains-append_cases}
use Rattle.std.proofs.lemmas.Option.{slice_get_past}
use Rattle.dcx_arena.specs.declared.node.NodeId.{NodeId}
use Rattle.dcx_arena.specs.Nodes.{positions, args_at}
use Rattle.dcx_tree.specs.declared.constraint.Constraint.{Constraint}
use Rattle.dcx_tree.specs.declared.problem.Problem.{Problem}
use Rattle.dcx_tree.specs.Nodes.{Node}
use Rattle.dcx_tree.specs.Problems.{roots_of}
use Rattle.dcx_nodes.specs.Uses.{IsUse, AreLastUses, IsPut}
use Rattle.dcx_nodes.proofs.Numbers.{found_at}

-- ---- lists
none_there : (a : ℕ) → Contains [] a → ⊥
none_there a h = let b = h.1 in omega (arith, b)

one_there : (b a : ℕ) → Contains (b ∷ []) a → a ≡ b
one_there b a (zero, lt, e) = sym e
one_there b a (suc k, lt, e) = absurd (omega (arith, lt))

-- the places of one id more
pub positions_more : (ids : List NodeId) (k : ℕ) → k < length ids → positions (take (k + 1) ids) ≡ positions (take k ids) ++ (get_or ids k (record { 0 = 0 })).0 ∷ []
positions_more ids k lt = ap positions (take_more ids k (record { 0 = 0 }) lt) ∙ map_push (λ (a : NodeId). a.0) (take k ids) (get_or ids k (record { 0 = 0 }))

-- the roots of one constraint more
roots_more : (objective : NodeId) (constraints : List Constraint) (k : ℕ) (c : Constraint) → k < length constraints →
    roots_of objective (take (k + 1) constraints) ≡ roots_of objective (take k constraints) ++ (get_or constraints k c).left.0 ∷ (get_or constraints k c).right.0 ∷ []
roots_more objective constraints k c lt =
    ap (roots_of objective) (take_more constraints k c lt) ∙ sym (flat_map_more (λ (z : Constraint). z.left.0 ∷ z.right.0 ∷ []) (objective.0 ∷ []) (take k constraints) (get_or constraints k c))

-- ---- a number that is put at places
put_one : (n : ℕ) (xs : List ℕ) (b : ℕ) → b < length xs → IsPut (b ∷ []) n xs (set xs b n)
put_one n xs b lt = record {
  counted = length-set xs b n;
  put = λ a h. ap (λ i. get_or (set xs b n) i 0) (one_there b a h) ∙ get_or-set_same xs b n 0 lt;
  others = λ a. elim (cases_eq b a) [
    | inl e ↦ inl (0, omega arith, e)
    | inr ne ↦ inr (get_or-set_other xs b a n 0 (λ e. ne (sym e)))
  ];
}

put_more : (n : ℕ) (places more xs ys zs : List ℕ) → IsPut places n xs ys → IsPut more n ys zs → IsPut (places ++ more) n xs zs
put_more n places more xs ys zs h k = record {
  counted = k.counted ∙ h.counted;
  put = λ a there. elim (Contains-append_cases places more a there) [
    | inl before ↦ elim (k.others a) [ inl now ↦ k.put a now | inr same ↦ same ∙ h.put a before ]
    | inr now ↦ k.put a now
  ];
  others = λ a. elim (k.others a) [
    | inl now ↦ inl (Contains-append_right places more a now)
    | inr same ↦ elim (h.others a) [ inl before ↦ inl (Contains-append_left places more a before) | inr old ↦ inr (same ∙ old) ]
  ];
}

-- one id more
pub put_next : (n : ℕ) (ids : List NodeId) (k : ℕ) (xs ys : List ℕ) → k < length ids → (get_or ids k (record { 0 = 0 })).0 < length ys → IsPut (positions (take k ids)) n xs ys →
    IsPut (positions (take (k + 1) ids)) n xs (set ys (get_or ids k (record { 0 = 0 })).0 n)
put_next n ids k xs ys lt below h =
    let b = (get_or ids k (record { 0 = 0 })).0 in
    subst (λ places. IsPut places n xs (set ys b n)) (sym (positions_more ids k lt))
    (put_more n (positions (take k ids)) (b ∷ []) xs ys (set ys b n) h (put_one n ys b below))

-- one constraint more
pub put_sides : (n : ℕ) (objective : NodeId) (constraints : List Constraint) (k : ℕ) (c : Constraint) (xs ys zs : List ℕ) → k < length constraints
    → IsPut (roots_of objective (take k constraints)) n xs ys
    → IsPut ((get_or constraints k c).left.0 ∷ (get_or constraints k c).right.0 ∷ []) n ys zs → IsPut (roots_of objective (take (k + 1) constraints)) n xs zs
put_sides n objective constraints k c xs ys zs lt h next =
    subst (λ places. IsPut places n xs zs) (sym (roots_more objective constraints k c lt))
    (put_more n (roots_of objective (take k constraints)) ((get_or constraints k c).left.0 ∷ (get_or constraints k c).right.0 ∷ []) xs ys zs h next)

module _ (p : Problem) where
  -- ---- the roots are nodes
  pub sides_below : (n : ℕ) → n ≡ length p.tree → (k : ℕ) (c : Constraint) → k < length p.constraints → c ≡ get_or p.constraints k c → All (λ a. a < n) (c.left.0 ∷ c.right.0 ∷ [])
  sides_below n e k c lt is =
      let at = found_at p.constraints k c lt is in
      let left = (p.constraints_kept.left k c at).there in
      let right = (p.constraints_kept.right k c at).there in
      All-cons (λ (a : ℕ). a < n) c.left.0 (c.right.0 ∷ []) (omega (arith, left, e))
      (All-cons (λ (a : ℕ). a < n) c.right.0 [] (omega (arith, right, e)) (All-nil (λ (a : ℕ). a < n)))

  -- ---- the last uses by the first nodes
  pub record AreUsesTo (i : ℕ) (uses : List ℕ) : Type 0 where
    pub counted : length uses ≡ length p.tree
    pub last : (a j : ℕ) → j < i → Contains (args_at p.tree j) a → j ≤ get_or uses a 0
    pub used : (a : ℕ) → (get_or uses a 0 ≡ 0) ⊎ Contains (args_at p.tree (get_or uses a 0)) a

  pub uses_more : (i : ℕ) (xs ys : List ℕ) → AreUsesTo i xs → IsPut (args_at p.tree i) i xs ys → AreUsesTo (i + 1) ys
  uses_more i xs ys h put = record {
    counted = put.counted ∙ h.counted;
    last = λ a j lt there. elim (put.others a) [
      | inl now ↦ let e = put.put a now in omega (arith, lt, e)
      | inr same ↦ elim (cases_lt j i) [
        | inl before ↦ let old = h.last a j before there in omega (arith, old, same)
        | inr past ↦
            let here : j ≡ i = omega (arith, lt, past) in
            let e = put.put a (subst (λ m. Contains (args_at p.tree m) a) here there) in
            omega (arith, here, e)
      ]
    ];
    used = λ a. elim (put.others a) [
      | inl now ↦ inr (subst (λ m. Contains (args_at p.tree m) a) (sym (put.put a now)) now)
      | inr same ↦ elim (h.used a) [
        | inl none ↦ inl (same ∙ none)
        | inr there ↦ inr (subst (λ m. Contains (args_at p.tree m) a) (sym same) there)
      ]
    ];
  }

  -- a node that takes another is there
  takes_within : (i a : ℕ) → Contains (args_at p.tree i) a → i < length p.tree
  takes_within i a there = elim (cases_lt i (length p.tree)) [
    | inl lt ↦ lt
    | inr past ↦ absurd (none_there a (subst (λ ids. Contains ids a) (ap (λ o. unwrap_or (option_map (λ (n : Node). n.args) o) []) (slice_get_past p.tree i past)) there))
  ]

  -- all nodes, and the roots behind them
  pub uses_all : (xs ys : List ℕ) → AreUsesTo (length p.tree) xs → IsPut (roots_of p.objective p.constraints) (length p.tree) xs ys → AreLastUses p ys
  uses_all xs ys h put = record {
    counted = put.counted ∙ h.counted;
    last = λ a i use_is. elim use_is [
      | inl there ↦
          let within = takes_within i a there in
          elim (put.others a) [
            | inl now ↦ let e = put.put a now in omega (arith, within, e)
            | inr same ↦ let old = h.last a i within there in omega (arith, old, same)
          ]
      | inr root ↦ let e = put.put a root.1 in let end = root.0 in omega (arith, end, e)
    ];
    used = λ a. elim (put.others a) [
      | inl now ↦ inr (inr (put.put a now, now))
      | inr same ↦ elim (h.used a) [
        | inl none ↦ inl (same ∙ none)
        | inr there ↦ inr (subst (IsUse p a) (sym same) (inl there))
      ]
    ];
  }
