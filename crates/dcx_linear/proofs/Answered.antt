-- What follows from an answer, whether it is a value, a passing operation or want of memory.
use Rattle.std.proofs.Common.{Result, Ok, Err}
use Rattle.dcx_frac.specs.declared.fraction.Passes.{Passes}
use Rattle.dcx_linear.specs.declared.stop.CoefStop.{CoefStop}
use Rattle.dcx_linear.specs.Stops.{Gives, GivesBy, OnPass-weaker}

-- one answer's fact follows from another's, at values and at what passes
pub GivesBy-weaker : {A B D : Type 0} (r : Result A CoefStop) (v : A → B) (w : A → D) (P : Result B Passes → Type 0) (Q : Result D Passes → Type 0)
    → ((x : A) → P (Ok (v x)) → Q (Ok (w x))) → ((passes : Passes) → P (Err passes) → Q (Err passes)) → GivesBy r v P → GivesBy r w Q
GivesBy-weaker (Ok x) v w P Q f g h = f x h
GivesBy-weaker (Err stop) v w P Q f g h = OnPass-weaker stop (λ passes. P (Err passes)) (λ passes. Q (Err passes)) g h

-- a fact that an operation's answer has follows from another
pub Gives-weaker : {A : Type 0} (r : Result A CoefStop) (P Q : Result A Passes → Type 0) → ((q : Result A Passes) → P q → Q q) → Gives r P → Gives r Q
Gives-weaker (Ok x) P Q f h = f (Ok x) h
Gives-weaker (Err stop) P Q f h = OnPass-weaker stop (λ passes. P (Err passes)) (λ passes. Q (Err passes)) (λ passes q. f (Err passes) q) h
