-- Marks for the nodes whose values are to be formed, and that nothing which is reached is left out.
use Rattle.std.proofs.Common.{◌≡◌, ◌↔◌, ◌⊎◌, inl, inr, ℕ, zero, suc, ◌+◌, ◌<◌, ◌≤◌, Bool, true, false, List, [], ◌∷◌, ◌++◌}
use Rattle.std.proofs.Common.{length, get_or, take, All, Option, Some, None, IsSome, refl, sym, subst, ◌∙◌, arith}
use Rattle.std.proofs.Math.ListN.{set}
use Rattle.std.proofs.lemmas.Bool.{cases_eq}
use Rattle.std.proofs.lemmas.List.{take_more, length-set}
use Rattle.dcx_atom.specs.declared.array.Array.{Array}
use Rattle.dcx_arena.specs.declared.node.NodeId.{NodeId}
use Rattle.dcx_arena.specs.Nodes.{AreNodes, args_at, positions}
use Rattle.dcx_arena.proofs.Positions.{length-positions, position_at}
use Rattle.dcx_arena.specs.Gather.{has}
use Rattle.dcx_arena.specs.Unfold.{IsReached, Leads}
use Rattle.dcx_arena.proofs.Orders.{has_one, one_is, has_left, has_right, has_split, arg_below, not_true}
use Rattle.dcx_call.specs.Calls.{shape_of}
use Rattle.dcx_tree.specs.Nodes.{Node}
use Rattle.dcx_tree.specs.Values.{IsMarked, array_at}
use Rattle.dcx_tree.proofs.Forming.{each_id}
use Rattle.dcx_tree.proofs.Marks.{mark_one, reached_arg, reached_through}
use Rattle.dcx_cert_values.specs.Marks.{AreWithin, AreClosed, LiesBelow, AreWanted}

pub some_or_none : {A : Type 0} (o : Option A) → (o ≡ None) ⊎ IsSome o
some_or_none None = inl refl
some_or_none (Some x) = inr refl

pub not_both : {A : Type 0} (o : Option A) → o ≡ None → IsSome o → ⊥
not_both None e h = cc
not_both (Some x) e h = cc

-- ---- marks of those that aren't kept
-- besides the marks before, those of the ids that aren't kept
abbrev pub AreMarkedOf : (arrays : List (Option Array)) (ids : List ℕ) (old now : List Bool) → Type 0
AreMarkedOf arrays ids old now = (j : ℕ) → IsMarked now j ↔ (IsMarked old j ⊎ ((has ids j ≡ true) × (array_at arrays j ≡ None)))

module _ (arrays : List (Option Array)) (ids : List ℕ) (old now : List Bool) (k : ℕ) (lt : k < length ids) (so_far : AreMarkedOf arrays (take k ids) old now) where
  more : take (k + 1) ids ≡ take k ids ++ get_or ids k 0 ∷ []
  more = take_more ids k 0 lt

  earlier : (j : ℕ) → has (take k ids) j ≡ true → has (take (k + 1) ids) j ≡ true
  earlier j t = subst (λ xs. has xs j ≡ true) (sym more) (has_left (take k ids) (get_or ids k 0 ∷ []) j t)

  last : (j : ℕ) → get_or ids k 0 ≡ j → has (take (k + 1) ids) j ≡ true
  last j e = subst (λ xs. has xs j ≡ true) (sym more) (has_right (take k ids) (get_or ids k 0 ∷ []) j (subst (λ z. has (get_or ids k 0 ∷ []) z ≡ true) e (has_one (get_or ids k 0) [])))

  which : (j : ℕ) → has (take (k + 1) ids) j ≡ true → (has (take k ids) j ≡ true) ⊎ (get_or ids k 0 ≡ j)
  which j t = elim (has_split (take k ids) (get_or ids k 0 ∷ []) j (subst (λ xs. has xs j ≡ true) more t)) [
    | inl p ↦ inl p
    | inr q ↦ inr (one_is (get_or ids k 0) j q)
  ]

  -- one more that isn't kept
  pub unkept_more : get_or ids k 0 < length now → array_at arrays (get_or ids k 0) ≡ None → AreMarkedOf arrays (take (k + 1) ids) old (set now (get_or ids k 0) true)
  unkept_more within free j = (from, to)
    where
      from : IsMarked (set now (get_or ids k 0) true) j → IsMarked old j ⊎ ((has (take (k + 1) ids) j ≡ true) × (array_at arrays j ≡ None))
      from m = elim ((mark_one now (get_or ids k 0) within j).0 m) [
        | inl was ↦ elim ((so_far j).0 was) [ inl o ↦ inl o | inr t ↦ inr (earlier j t.0, t.1) ]
        | inr e ↦ inr (last j e, subst (λ z. array_at arrays z ≡ None) e free)
      ]

      to : IsMarked old j ⊎ ((has (take (k + 1) ids) j ≡ true) × (array_at arrays j ≡ None)) → IsMarked (set now (get_or ids k 0) true) j
      to = elim [
        | inl o ↦ (mark_one now (get_or ids k 0) within j).1 (inl ((so_far j).1 (inl o)))
        | inr t ↦ elim (which j t.0) [
          | inl p ↦ (mark_one now (get_or ids k 0) within j).1 (inl ((so_far j).1 (inr (p, t.1))))
          | inr e ↦ (mark_one now (get_or ids k 0) within j).1 (inr e)
        ]
      ]

  -- one more that is kept
  pub kept_more : IsSome (array_at arrays (get_or ids k 0)) → AreMarkedOf arrays (take (k + 1) ids) old now
  kept_more there j = (
    (λ m. elim ((so_far j).0 m) [ inl o ↦ inl o | inr t ↦ inr (earlier j t.0, t.1) ]),
    elim [
      | inl o ↦ (so_far j).1 (inl o)
      | inr t ↦ elim (which j t.0) [
        | inl p ↦ (so_far j).1 (inr (p, t.1))
        | inr e ↦ absurd (not_both (array_at arrays j) t.1 (subst (λ z. IsSome (array_at arrays z)) e there))
      ]
    ],
  )

pub none_marked : (arrays : List (Option Array)) (old : List Bool) → AreMarkedOf arrays [] old old
none_marked arrays old j = ((λ m. inl m), elim [ inl m ↦ m | inr t ↦ absurd (cc) ])

-- the lowest mark, with one more
pub lowest_more : (now : List Bool) (a low next : ℕ) → a < length now → ((j : ℕ) → IsMarked now j → low ≤ j) → next ≤ low → next ≤ a → (j : ℕ) → IsMarked (set now a true) j → next ≤ j
lowest_more now a low next lt h b c j m = elim ((mark_one now a lt j).0 m) [
  | inl was ↦ let l = h j was in omega (arith, l, b)
  | inr e ↦ omega (arith, e, c)
]

-- ---- going down
-- the marks where the arguments of marked nodes from a place on are marked
pub record IsMarkedDown (nodes : List Node) (arrays : List (Option Array)) (old : List Bool) (end at : ℕ) (now : List Bool) (low : ℕ) : Type 0 where
  pub starts : (j : ℕ) → IsMarked old j → IsMarked now j
  pub sound : (j : ℕ) → IsMarked now j → LiesBelow nodes old j
  pub closed : (i a : ℕ) → at ≤ i → IsMarked now i → has (args_at nodes i) a ≡ true → IsMarked now a ⊎ IsSome (array_at arrays a)
  pub within : AreWithin now low end

module _ (nodes : List Node) (are : AreNodes shape_of nodes) (arrays : List (Option Array)) (old : List Bool) (end : ℕ) where
  pub down_none : (low : ℕ) → AreWithin old low end → IsMarkedDown nodes arrays old end end old low
  down_none low w = record {
    starts = λ j m. m;
    sound = λ j m. record { mark = j; marked = m; reached = record { root = j; path = []; is_root = has_one j []; leads = refl } };
    closed = λ i a le m h. let b = (w i m).1 in absurd (omega (arith, le, b));
    within = w;
  }

  -- a node without a mark
  pub down_over : (n at low : ℕ) (now : List Bool) → at ≡ n + 1 → get_or now n false ≡ false → IsMarkedDown nodes arrays old end at now low → IsMarkedDown nodes arrays old end n now low
  down_over n at low now e free d = record {
    starts = d.starts;
    sound = d.sound;
    closed = λ i a le m h. elim (cases_eq i n) [
      | inl z ↦ absurd (not_true (get_or now n false) free (subst (IsMarked now) z m))
      | inr other ↦ d.closed i a (omega (arith, e, le, other)) m h
    ];
    within = d.within;
  }

  -- the arguments of a node with a mark
  pub down_more : (n at low next : ℕ) (marks now : List Bool) → at ≡ n + 1 → at ≤ end → IsMarked marks n → IsMarkedDown nodes arrays old end at marks low
      → AreMarkedOf arrays (args_at nodes n) marks now
      → ((j : ℕ) → IsMarked now j → next ≤ j) → IsMarkedDown nodes arrays old end n now next
  down_more n at low next marks now e most m d more lowest = record {
    starts = λ j k. (more j).1 (inl (d.starts j k));
    sound = λ j k. elim ((more j).0 k) [
      | inl was ↦ d.sound j was
      | inr t ↦ let l = d.sound n m in record { mark = l.mark; marked = l.marked; reached = reached_through nodes l.mark n j l.reached (reached_arg nodes n j t.0) }
    ];
    closed = λ i a le k h. elim ((more i).0 k) [
      | inl was ↦ elim (cases_eq i n) [
        | inl z ↦ elim (some_or_none (array_at arrays a)) [
          | inl free ↦ inl ((more a).1 (inr (subst (λ y. has (args_at nodes y) a ≡ true) z h, free)))
          | inr there ↦ inr there
        ]
        | inr other ↦ elim (d.closed i a (omega (arith, e, le, other)) was h) [ inl k' ↦ inl ((more a).1 (inl k')) | inr there ↦ inr there ]
      ]
      | inr t ↦ let less = arg_below shape_of nodes are n i t.0 in absurd (omega (arith, less, le))
    ];
    within = λ j k. (
      lowest j k,
      elim ((more j).0 k) [
        | inl was ↦ (d.within j was).1
        | inr t ↦ let less = arg_below shape_of nodes are n j t.0 in omega (arith, less, e, most)
      ],
    );
  }

  pub down_all : (at low : ℕ) (now : List Bool) → at ≤ low → IsMarkedDown nodes arrays old end at now low → AreWanted nodes arrays old now
  down_all at low now le d = record {
    starts = d.starts;
    sound = d.sound;
    closed = λ i a m h. let b = (d.within i m).0 in d.closed i a (omega (arith, b, le)) m h;
  }

-- ---- nothing is left out
module _ (nodes : List Node) (arrays : List (Option Array)) (marks : List Bool) (closed : AreClosed nodes arrays marks)
    (kept : (i a : ℕ) → IsSome (array_at arrays i) → has (args_at nodes i) a ≡ true → IsSome (array_at arrays a)) where
  along : (path : List ℕ) (i j : ℕ) → Leads nodes i path j → IsMarked marks i ⊎ IsSome (array_at arrays i) → IsMarked marks j ⊎ IsSome (array_at arrays j)
  along [] i j e h = subst (λ z. IsMarked marks z ⊎ IsSome (array_at arrays z)) e h
  along (a ∷ path) i j l h = along path a j l.1 (elim h [ inl m ↦ closed i a m l.0 | inr s ↦ inr (kept i a s l.0) ])

  -- what roots reach is marked or kept, where they are
  pub all_known : (roots : List ℕ) → ((r : ℕ) → has roots r ≡ true → IsMarked marks r ⊎ IsSome (array_at arrays r)) → (j : ℕ) → IsReached nodes roots j → IsMarked marks j ⊎ IsSome (array_at arrays j)
  all_known roots starts j r = along r.path r.root j r.leads (starts r.root r.is_root)

-- where a value is kept, those of all that the node reaches are
pub kept_below : (nodes : List Node) (arrays : List (Option Array)) → ((i a : ℕ) → IsSome (array_at arrays i) → has (args_at nodes i) a ≡ true → IsSome (array_at arrays a)) →
    (roots : List ℕ) → ((r : ℕ) → has roots r ≡ true → IsSome (array_at arrays r)) → (j : ℕ) → IsReached nodes roots j → IsSome (array_at arrays j)
kept_below nodes arrays kept roots starts j r = go r.path r.root r.leads (starts r.root r.is_root)
  where
    go : (path : List ℕ) (i : ℕ) → Leads nodes i path j → IsSome (array_at arrays i) → IsSome (array_at arrays j)
    go [] i e h = subst (λ z. IsSome (array_at arrays z)) e h
    go (a ∷ path) i l h = go path a l.1 (kept i a h l.0)

-- ---- the end above what isn't kept
pub above_more : (arrays : List (Option Array)) (ids : List ℕ) (k : ℕ) → k < length ids → (end next : ℕ) → ((j : ℕ) → has (take k ids) j ≡ true → array_at arrays j ≡ None → j < end) → end ≤ next →
    (array_at arrays (get_or ids k 0) ≡ None → get_or ids k 0 < next) → (j : ℕ) → has (take (k + 1) ids) j ≡ true → array_at arrays j ≡ None → j < next
above_more arrays ids k lt end next so_far le here j h free =
    elim (has_split (take k ids) (get_or ids k 0 ∷ []) j (subst (λ xs. has xs j ≡ true) (take_more ids k 0 lt) h)) [
      | inl p ↦ let b = so_far j p free in omega (arith, b, le)
      | inr q ↦ let e = one_is (get_or ids k 0) j q in subst (λ z. z < next) e (here (subst (λ z. array_at arrays z ≡ None) (sym e) free))
    ]

-- ---- ids one after the other
-- of the first ids, those that aren't kept are marked
pub record IsMarkedSoFar (arrays : List (Option Array)) (ids : List NodeId) (old : List Bool) (k : ℕ) (now : List Bool) (low : ℕ) : Type 0 where
  pub count : length now ≡ length old
  pub marked : AreMarkedOf arrays (take k (positions ids)) old now
  pub lowest : (j : ℕ) → IsMarked now j → low ≤ j

module _ (arrays : List (Option Array)) (ids : List NodeId) (old now : List Bool) (k : ℕ) (low : ℕ) (lt : k < length ids) (room : All (λ a. a < length old) (positions ids))
    (h : IsMarkedSoFar arrays ids old k now low) where
  abbrev node : ℕ
  node = (get_or ids k (record { 0 = 0 })).0

  there : k < length (positions ids)
  there = let n = length-positions ids in omega (arith, n, lt)

  in_room : node < length now
  in_room = let b = each_id (λ a. a < length old) ids k room lt in let c = h.count in omega (arith, b, c)

  pub unkept_step : array_at arrays node ≡ None → (next : ℕ) → next ≤ low → next ≤ node → IsMarkedSoFar arrays ids old (k + 1) (set now node true) next
  unkept_step free next b c = record {
    count = length-set now node true ∙ h.count;
    marked = subst (λ a. AreMarkedOf arrays (take (k + 1) (positions ids)) old (set now a true)) (position_at ids k)
        (unkept_more arrays (positions ids) old now k there h.marked (subst (λ a. a < length now) (sym (position_at ids k)) in_room)
        (subst (λ a. array_at arrays a ≡ None) (sym (position_at ids k)) free));
    lowest = lowest_more now node low next in_room h.lowest b c;
  }

  pub kept_step : IsSome (array_at arrays node) → IsMarkedSoFar arrays ids old (k + 1) now low
  kept_step s = record {
    count = h.count;
    marked = kept_more arrays (positions ids) old now k there h.marked (subst (λ a. IsSome (array_at arrays a)) (sym (position_at ids k)) s);
    lowest = h.lowest;
  }

pub marked_within : (marks : List Bool) (i : ℕ) → IsMarked marks i → i < length marks
marked_within [] i m = absurd (cc)
marked_within (b ∷ marks) zero m = omega arith
marked_within (b ∷ marks) (suc i) m = let l = marked_within marks i m in omega (arith, l)
