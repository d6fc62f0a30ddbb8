-- Bytes that are appended in two steps, the pieces that were handed for them, and how a text ends.
use Rattle.std.proofs.Common.{◌≡◌, ℕ, ◌+◌, ◌-◌, ◌<◌, ◌≤◌, List, [], ◌∷◌, ◌++◌, length, take, drop, refl, ◌∙◌, ap, sym, subst, append_assoc, append-nil, None, Some, Result, Ok, Err, OnErr, arith}
use Rattle.std.proofs.Math.Seq.{take-add}
use Rattle.std.proofs.lemmas.List.{take_rest, take_all}
use Rattle.std.specs.declared.option.Option.{Option}
use Rattle.std.specs.Io.KnownBytes.{Appends, Keeps}
use Rattle.dcx_host.specs.declared.sink.SinkFault.{SinkFault}
use Rattle.dcx_host.specs.Pieces.{Handed, WriteHands, Hands, AreRests, HandsRests, WritesWhole, WritesFront}

pub Appends_none : (a : Option (List ℕ)) → Appends a a []
Appends_none None = tt
Appends_none (Some old) = sym (append-nil old)

pub Appends_trans : (a b c : Option (List ℕ)) (xs ys zs : List ℕ) → Appends a b xs → Appends b c ys → xs ++ ys ≡ zs → Appends a c zs
Appends_trans None b c xs ys zs h k e = tt
Appends_trans (Some old) None c xs ys zs h k e = absurd h
Appends_trans (Some old) (Some mid) None xs ys zs h k e = absurd k
Appends_trans (Some old) (Some mid) (Some new) xs ys zs h k e =
    k ∙ ap (λ v. v ++ ys) h ∙ append_assoc old xs ys ∙ ap (λ v. old ++ v) e

Appends_kept : (a b c : Option (List ℕ)) (xs : List ℕ) → Appends a b xs → Keeps b c → Appends a c xs
Appends_kept None b c xs h k = tt
Appends_kept (Some old) None c xs h k = absurd h
Appends_kept (Some old) (Some mid) None xs h k = absurd k
Appends_kept (Some old) (Some mid) (Some new) xs h k = k ∙ h

-- all that is left
whole_rest : (d : ℕ) (s : List ℕ) → take (length s - d) (drop d s) ≡ drop d s
whole_rest d s = rw take_rest refl

-- the bytes of a front and then of a front of the rest
pub fronts : (d n : ℕ) (s : List ℕ) → take d s ++ take n (take (length s - d) (drop d s)) ≡ take (d + n) s
fronts d n s = rw take_rest (sym (take-add d n s))

-- ---- pieces
Hands_none : (a : Option (List Handed)) → Hands a a []
Hands_none None = tt
Hands_none (Some old) = sym (append-nil old)

-- one piece more
Hands_more : (a b c : Option (List Handed)) (pieces : List Handed) (n : ℕ) (piece : List ℕ) → Hands a b pieces
    → WriteHands {E = SinkFault} b c (Ok n) piece → Hands a c (pieces ++ record { piece = piece; taken = n } ∷ [])
Hands_more None b c pieces n piece h k = tt
Hands_more (Some old) None c pieces n piece h k = absurd h
Hands_more (Some old) (Some mid) None pieces n piece h k = absurd k
Hands_more (Some old) (Some mid) (Some new) pieces n piece h k =
    let more : List Handed = record { piece = piece; taken = n } ∷ [] in k ∙ ap (λ v. v ++ more) h ∙ append_assoc old pieces more

-- and none more
Hands_kept : (a b c : Option (List Handed)) (pieces : List Handed) (e : SinkFault) (piece : List ℕ) → Hands a b pieces → WriteHands {E = SinkFault} b c (Err e) piece → Hands a c pieces
Hands_kept None b c pieces e piece h k = tt
Hands_kept (Some old) None c pieces e piece h k = absurd h
Hands_kept (Some old) (Some mid) None pieces e piece h k = absurd k
Hands_kept (Some old) (Some mid) (Some new) pieces e piece h k = k ∙ h

rests_more : (text : List ℕ) (start done taken : ℕ) (pieces : List Handed) (piece : List ℕ) → AreRests text start pieces done → piece ≡ drop done text
    → AreRests text start (pieces ++ record { piece = piece; taken = taken } ∷ []) (done + taken)
rests_more text start done taken [] piece h e = (e ∙ ap (λ n. drop n text) h, ap (λ n. n + taken) h)
rests_more text start done taken (p ∷ pieces) piece (is, h) e = (is, rests_more text (start + p.taken) done taken pieces piece h e)

-- a text of which nothing is handed yet
pub hands_none : (a : Option (List Handed)) (text : List ℕ) → HandsRests a a text 0
hands_none a text = ([], Hands_none a, refl)

-- a write that is handed the rest
pub hands_more : (a b c : Option (List Handed)) (text : List ℕ) (done n : ℕ) → HandsRests a b text done
    → WriteHands {E = SinkFault} b c (Ok n) (take (length text - done) (drop done text)) → HandsRests a c text (done + n)
hands_more a b c text done n (pieces, h, r) k =
    let rest = take (length text - done) (drop done text) in
    (pieces ++ record { piece = rest; taken = n } ∷ [], Hands_more a b c pieces n rest h k, rests_more text 0 done n pieces rest r (whole_rest done text))

pub hands_kept : (a b c : Option (List Handed)) (text piece : List ℕ) (done : ℕ) (e : SinkFault) → HandsRests a b text done → WriteHands {E = SinkFault} b c (Err e) piece
    → HandsRests a c text done
hands_kept a b c text piece done e (pieces, h, r) k = (pieces, Hands_kept a b c pieces e piece h k, r)

-- ---- the ends of a text
-- once no byte is left, the whole
pub writes_whole : (old new : Option (List ℕ)) (before now : Option (List Handed)) (text : List ℕ) (done : ℕ) → done ≤ length text → length text ≤ done
    → Appends old new (take done text) → HandsRests before now text done → WritesWhole old new before now text
writes_whole old new before now text done within over front rests =
    let all : done ≡ length text = omega (arith, within, over) in
    (subst (Appends old new) (take_all done text over) front, subst (HandsRests before now text) all rests)

-- what holds at each fault
on_err : {T E P : Type 0} (r : Result T E) → P → OnErr r P
on_err (Ok x) h = tt
on_err (Err e) h = h

-- after a write that took nothing, a front
pub writes_front : (r : Result (Unit {0}) SinkFault) (old mid new : Option (List ℕ)) (before then now : Option (List Handed)) (text piece : List ℕ) (done : ℕ) (e : SinkFault)
    → done < length text → Appends old mid (take done text) → Keeps mid new → HandsRests before then text done → WriteHands {E = SinkFault} then now (Err e) piece
    → OnErr r (WritesFront old new before now text)
writes_front r old mid new before then now text piece done e below front kept rests k =
    on_err r (done, below, Appends_kept old mid new (take done text) front kept, hands_kept before then now text piece done e rests k)
