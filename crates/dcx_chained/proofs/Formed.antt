-- What follows from what a clause says of no value.
use Rattle.std.proofs.Common.{Option, Some, None, IfNone}

pub IfNone_then : {X : Type 0} (r : Option X) {P Q : Type 0} → IfNone r P → (P → Q) → IfNone r Q
IfNone_then None p f = f p
IfNone_then (Some x) p f = tt

pub if_none : {X : Type 0} (r : Option X) {P : Type 0} → P → IfNone r P
if_none None p = p
if_none (Some x) p = tt
