-- Stacks of nodes that are entered.
use Rattle.std.proofs.Common.{◌≡◌, ℕ, suc, ◌+◌, ◌-◌, ◌*◌, ◌<◌, true, List, [], ◌∷◌, ◌++◌, length, Option, Some, refl, sym, ap, ap₂, subst, ◌∙◌, arith, append_assoc, append-nil, length-append}
use Rattle.std.specs.List.{slice_get, flat_map}
use Rattle.std.proofs.lemmas.List.Sums.{sum_by-append, sum_by-cons}
use mathlib.Core.Logic.{inl, inr}
use Rattle.dcx_shape.specs.declared.shape.Sides.{Sides}
use Rattle.dcx_arena.specs.declared.store.Cell.{Cell}
use Rattle.dcx_arena.specs.declared.store.Stored.{Stored}
use Rattle.dcx_arena.specs.declared.walk.Frame.{Frame}
use Rattle.dcx_arena.specs.Nodes.{Node, AreNodes, args_at}
use Rattle.dcx_arena.specs.Chains.{cell_at, chain, IsChain, nodes_of, IsKept}
use Rattle.dcx_arena.specs.Gather.{has, with_new, with_all, postorder}
use Rattle.dcx_arena.specs.Walk.{left_in, IsClosed, rest_of, todo, IsReady, AreReady, steps_of}
use Rattle.dcx_arena.proofs.Orders.{has_left, has_right, has_split, has_more, has_one, head_or, tail_has, with_has, with_all-append, with_all_there, arg_below, postorder_is, postorder_has, closed_has}
use Rattle.dcx_arena.proofs.Kept.{count_nodes}
use Rattle.dcx_arena.proofs.Shapes.{args_stored}

module _ {C : Type 0} (cells : List Cell) (nodes : List (Node C)) where
  pub todo_push : (fs : List Frame) (f : Frame) → todo cells nodes (fs ++ f ∷ []) ≡ rest_of cells nodes f ++ todo cells nodes fs
  todo_push [] f = sym (append-nil (rest_of cells nodes f))
  todo_push (g ∷ fs) f = ap (λ xs. xs ++ rest_of cells nodes g) (todo_push fs f) ∙ append_assoc (rest_of cells nodes f) (todo cells nodes fs) (rest_of cells nodes g)

  is_ready_more : (before now : List ℕ) (f : Frame) → ((x : ℕ) → has before x ≡ true → has now x ≡ true) → IsReady cells nodes before f → IsReady cells nodes now f
  is_ready_more before now f more h = record {
    there = h.there;
    chained = h.chained;
    some = h.some;
    rest = λ a k. has_more before now (left_in cells f) more a (h.rest a k);
  }

  pub ready_more : (before now : List ℕ) (fs : List Frame) → ((x : ℕ) → has before x ≡ true → has now x ≡ true) → AreReady cells nodes before fs → AreReady cells nodes now fs
  ready_more before now [] more h = tt
  ready_more before now (f ∷ fs) more h =
      (is_ready_more (before ++ todo cells nodes fs) (now ++ todo cells nodes fs) f (has_more before now (todo cells nodes fs) more) h.0, ready_more before now fs more h.1)

  above_is : (before : List ℕ) (fs : List Frame) (f : Frame) → (before ++ rest_of cells nodes f) ++ todo cells nodes fs ≡ before ++ todo cells nodes (fs ++ f ∷ [])
  above_is before fs f = append_assoc before (rest_of cells nodes f) (todo cells nodes fs) ∙ ap (λ xs. before ++ xs) (sym (todo_push fs f))

  pub ready_push : (before : List ℕ) (fs : List Frame) (f : Frame) → AreReady cells nodes (before ++ rest_of cells nodes f) fs → IsReady cells nodes before f
      → AreReady cells nodes before (fs ++ f ∷ [])
  ready_push before [] f h k = (subst (λ xs. IsReady cells nodes xs f) (sym (append-nil before)) k, tt)
  ready_push before (g ∷ fs) f h k = (subst (λ xs. IsReady cells nodes xs g) (above_is before fs f) h.0, ready_push before fs f h.1 k)

  pub ready_pop : (before : List ℕ) (fs : List Frame) (f : Frame) → AreReady cells nodes before (fs ++ f ∷ [])
      → AreReady cells nodes (before ++ rest_of cells nodes f) fs × IsReady cells nodes before f
  ready_pop before [] f h = (tt, subst (λ xs. IsReady cells nodes xs f) (append-nil before) h.0)
  ready_pop before (g ∷ fs) f h =
      let r = ready_pop before fs f h.1 in
      ((subst (λ xs. IsReady cells nodes xs g) (sym (above_is before fs f)) h.0, r.0), r.1)

  abbrev pub steps_in : Frame → ℕ
  steps_in f = 1 + 2 * length (flat_map (postorder nodes) (left_in cells f))

  pub steps_push : (fs : List Frame) (f : Frame) → steps_of cells nodes (fs ++ f ∷ []) ≡ steps_of cells nodes fs + steps_in f
  steps_push fs f =
      let e = sum_by-append steps_in fs (f ∷ []) in
      let k = sum_by-cons steps_in f [] in
      omega (arith, e, k)

-- node i isn't finished, or is it, as it is entered
module _ {C : Type 0} (gives : C → List Sides → Option Sides) (hash : C → ℕ) (cells : List Cell) (stored : List (Stored C)) (kept : IsKept hash cells stored)
    (are : AreNodes gives (nodes_of cells stored)) (order : List ℕ) (fs now : List Frame) (i : ℕ) where
  pub long_postorder : length (postorder (nodes_of cells stored) i) ≡ length (flat_map (postorder (nodes_of cells stored)) (args_at (nodes_of cells stored) i)) + 1
  long_postorder = ap length (postorder_is gives (nodes_of cells stored) are i) ∙ length-append (flat_map (postorder (nodes_of cells stored)) (args_at (nodes_of cells stored) i)) (i ∷ [])

  module _ (same : now ≡ fs) (closed : IsClosed (nodes_of cells stored) order) (here : has order i ≡ true) where
    pub there_ready : AreReady cells (nodes_of cells stored) (order ++ postorder (nodes_of cells stored) i) fs → AreReady cells (nodes_of cells stored) order now
    there_ready h = rw same (ready_more cells (nodes_of cells stored) (order ++ postorder (nodes_of cells stored) i) order fs
        (λ x k. elim (has_split order (postorder (nodes_of cells stored) i) x k) [ inl p ↦ p | inr q ↦ closed_has gives (nodes_of cells stored) are order closed i x here q ]) h)

    pub there_order : with_all order (todo cells (nodes_of cells stored) now) ≡ with_all order (postorder (nodes_of cells stored) i ++ todo cells (nodes_of cells stored) fs)
    there_order = rw same (sym (with_all-append order (postorder (nodes_of cells stored) i) (todo cells (nodes_of cells stored) fs)
        ∙ ap (λ xs. with_all xs (todo cells (nodes_of cells stored) fs))
        (with_all_there order (postorder (nodes_of cells stored) i) (λ x k. closed_has gives (nodes_of cells stored) are order closed i x here k))))

    pub there_steps : steps_of cells (nodes_of cells stored) now < steps_of cells (nodes_of cells stored) fs + 2 * length (postorder (nodes_of cells stored) i)
    there_steps = let n = long_postorder in rw same (omega (arith, n))

  module _ (s : Stored C) (e : slice_get stored i ≡ Some s) (f : Frame) (fi : f.node ≡ i) (fl : f.left ≡ s.count) (fa : f.at ≡ s.first) (pushed : now ≡ fs ++ f ∷ []) where
    entered_left : left_in cells f ≡ args_at (nodes_of cells stored) i
    entered_left = ap₂ (chain cells) fl fa ∙ sym (args_stored cells stored i s e)

    entered_rest : rest_of cells (nodes_of cells stored) f ≡ postorder (nodes_of cells stored) i
    entered_rest = ap₂ (λ xs j. flat_map (postorder (nodes_of cells stored)) xs ++ j ∷ []) entered_left fi ∙ sym (postorder_is gives (nodes_of cells stored) are i)

    pub entered_ready : i < length stored → AreReady cells (nodes_of cells stored) (order ++ postorder (nodes_of cells stored) i) fs → AreReady cells (nodes_of cells stored) order now
    entered_ready lt h = rw pushed (ready_push cells (nodes_of cells stored) order fs f (rw entered_rest h) (record {
      there = let n = count_nodes cells stored in omega (arith, n, lt, fi);
      chained = rw (fl, fa) (kept.chained i s e);
      some = λ a k. rw fi (rw entered_left at k);
      rest = λ a k. has_right order (left_in cells f) a (rw entered_left (rw fi at k));
    }))

    pub entered_order : with_all order (todo cells (nodes_of cells stored) now) ≡ with_all order (postorder (nodes_of cells stored) i ++ todo cells (nodes_of cells stored) fs)
    entered_order = rw pushed (ap (with_all order) (todo_push cells (nodes_of cells stored) fs f ∙ ap (λ xs. xs ++ todo cells (nodes_of cells stored) fs) entered_rest))

    pub entered_steps : steps_of cells (nodes_of cells stored) now < steps_of cells (nodes_of cells stored) fs + 2 * length (postorder (nodes_of cells stored) i)
    entered_steps =
        let n = long_postorder in
        let p = ap (steps_of cells (nodes_of cells stored)) pushed ∙ steps_push cells (nodes_of cells stored) fs f in
        let l = ap (λ xs. length (flat_map (postorder (nodes_of cells stored)) xs)) entered_left in
        omega (arith, n, p, l)

-- the last frame goes on or is done
module _ {C : Type 0} (gives : C → List Sides → Option Sides) (cells : List Cell) (nodes : List (Node C)) (are : AreNodes gives nodes) (order : List ℕ) (fs : List Frame)
    (f : Frame) (ready : AreReady cells nodes order (fs ++ f ∷ [])) where
  pub frame_ready : IsReady cells nodes order f
  frame_ready = (ready_pop cells nodes order fs f ready).1

  module _ (e : f.left ≡ 0) where
    none_left : left_in cells f ≡ []
    none_left = ap (λ n. chain cells n f.at) e

    pub done_args : (a : ℕ) → has (args_at nodes f.node) a ≡ true → has order a ≡ true
    done_args a h =
        let k : has (order ++ []) a ≡ true = subst (λ xs. has (order ++ xs) a ≡ true) none_left (frame_ready.rest a h) in
        subst (λ xs. has xs a ≡ true) (append-nil order) k

    done_rest : rest_of cells nodes f ≡ f.node ∷ []
    done_rest = ap (λ xs. flat_map (postorder nodes) xs ++ f.node ∷ []) none_left

    pub done_ready : AreReady cells nodes (with_new order f.node) fs
    done_ready = ready_more cells nodes (order ++ f.node ∷ []) (with_new order f.node) fs (λ x. with_has order f.node x)
        (subst (λ xs. AreReady cells nodes (order ++ xs) fs) done_rest (ready_pop cells nodes order fs f ready).0)

    pub done_order : with_all (with_new order f.node) (todo cells nodes fs) ≡ with_all order (todo cells nodes (fs ++ f ∷ []))
    done_order = sym (ap (with_all order) (todo_push cells nodes fs f ∙ ap (λ xs. xs ++ todo cells nodes fs) done_rest))

  -- g is f after its next argument, a
  module _ (g : Frame) (a : ℕ) (some : 0 < f.left) (gn : g.node ≡ f.node) (gl : g.left ≡ f.left - 1) (ga : g.at ≡ (cell_at cells f.at).next) (an : a ≡ (cell_at cells f.at).node) where
    more_left : f.left ≡ suc (f.left - 1)
    more_left = omega arith

    pub next_there : f.at < length cells
    next_there = (subst (λ n. IsChain cells n f.at) more_left frame_ready.chained).0

    next_left : left_in cells f ≡ a ∷ left_in cells g
    next_left = ap (λ n. chain cells n f.at) more_left ∙ rw (an, gl, ga) refl

    pub next_is : has (args_at nodes f.node) a ≡ true
    next_is = frame_ready.some a (rw next_left (has_one a (left_in cells g)))

    pub next_below : a < length nodes
    next_below = let lt = arg_below gives nodes are f.node a next_is in let h = frame_ready.there in omega (arith, lt, h)

    next_rest : rest_of cells nodes f ≡ postorder nodes a ++ rest_of cells nodes g
    next_rest = ap₂ (λ xs j. flat_map (postorder nodes) xs ++ j ∷ []) next_left (sym gn) ∙ append_assoc (postorder nodes a) (flat_map (postorder nodes) (left_in cells g)) (g.node ∷ [])

    next_has : (x : ℕ) → has (order ++ left_in cells f) x ≡ true → has ((order ++ postorder nodes a) ++ left_in cells g) x ≡ true
    next_has x h = elim (has_split order (left_in cells f) x h) [
      | inl p ↦ has_left (order ++ postorder nodes a) (left_in cells g) x (has_left order (postorder nodes a) x p)
      | inr q ↦ elim (head_or a x (left_in cells g) (rw next_left at q)) [
        | inl e ↦ has_left (order ++ postorder nodes a) (left_in cells g) x (has_right order (postorder nodes a) x (subst (λ z. has (postorder nodes a) z ≡ true) e (postorder_has gives nodes are a)))
        | inr k ↦ has_right (order ++ postorder nodes a) (left_in cells g) x k
      ]
    ]

    pub next_ready : AreReady cells nodes (order ++ postorder nodes a) (fs ++ g ∷ [])
    next_ready = ready_push cells nodes (order ++ postorder nodes a) fs g
        (subst (λ xs. AreReady cells nodes xs fs) (ap (λ xs. order ++ xs) next_rest ∙ sym (append_assoc order (postorder nodes a) (rest_of cells nodes g))) (ready_pop cells nodes order fs f ready).0)
        (record {
          there = rw gn frame_ready.there;
          chained = rw (gl, ga) ((subst (λ n. IsChain cells n f.at) more_left frame_ready.chained).1);
          some = λ x k. rw gn (frame_ready.some x (rw next_left (tail_has a x (left_in cells g) k)));
          rest = λ x k. next_has x (frame_ready.rest x (rw gn at k));
        })

    pub next_order : with_all order (postorder nodes a ++ todo cells nodes (fs ++ g ∷ [])) ≡ with_all order (todo cells nodes (fs ++ f ∷ []))
    next_order = ap (with_all order)
        (ap (λ xs. postorder nodes a ++ xs) (todo_push cells nodes fs g) ∙ sym (append_assoc (postorder nodes a) (rest_of cells nodes g) (todo cells nodes fs))
        ∙ ap (λ xs. xs ++ todo cells nodes fs) (sym next_rest) ∙ sym (todo_push cells nodes fs f))

    pub next_steps : steps_of cells nodes (fs ++ g ∷ []) + 2 * length (postorder nodes a) ≡ steps_of cells nodes (fs ++ f ∷ [])
    next_steps =
        let p = steps_push cells nodes fs f in
        let q = steps_push cells nodes fs g in
        let l = ap (λ xs. length (flat_map (postorder nodes) xs)) next_left ∙ length-append (postorder nodes a) (flat_map (postorder nodes) (left_in cells g)) in
        omega (arith, p, q, l)
