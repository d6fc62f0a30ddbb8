-- A step of a walk leaves less to pass.
use Rattle.std.proofs.Common.{◌≡◌, ℕ, ◌+◌, ◌-◌, ◌<◌, List, length, ap, arith, ℤ}
use Rattle.dcx_links.specs.declared.walk.Entry.{Entry}
use Rattle.dcx_links.specs.Walks.{Walk, ComesNext}

-- the walk along a line, come to a place
abbrev pub walk_at : List ℤ → ℕ → Walk
walk_at numbers from = record { numbers = numbers; from = from }

pub shorter : (w v : Walk) (e : Entry) → ComesNext w e → v ≡ walk_at w.numbers (e.at + 1) → length v.numbers - v.from < length w.numbers - w.from
shorter w v e comes same =
    let a = comes.beyond in
    let b = comes.within in
    let l = ap (λ (x : Walk). length x.numbers) same in
    let f = ap (λ (x : Walk). x.from) same in
    omega (arith, a, b, l, f)
