-- What was read is all that there is, where that is fewer bytes than were asked for.
use Rattle.std.proofs.Common.{◌≡◌, ℕ, ◌<◌, ◌≤◌, ◌++◌, [], List, length, min, Option, Some, None, take, IfSome, sym, ap, subst, ◌∙◌, arith}
use Rattle.std.specs.Prelude.{option_map}
use Rattle.std.proofs.lemmas.List.{length-take, take_all}
use Rattle.dcx_host.proofs.real.read_at_most.Goals as goal

whole : (known : Option (List ℕ)) (limit : ℕ) (old items : List ℕ) → old ≡ [] → IfSome (option_map (take limit) known) (λ xs. items ≡ old ++ xs) → length items < limit
    → IfSome known (λ all. items ≡ all)
whole None limit old items none h less = tt
whole (Some all) limit old items none h less =
    let read : items ≡ take limit all = h ∙ ap (λ (xs : List ℕ). xs ++ take limit all) none in
    let count : length items ≡ min limit (length all) = ap length read ∙ length-take limit all in
    let few : length all ≤ limit = omega (arith, count, less) in
    read ∙ take_all limit all few

pub returns-in-Ok-clause-whole : goal.returns-in-Ok-clause-whole
returns-in-Ok-clause-whole g c =
    let known = g.F.Read.remaining in
    let front = c.take-front.result in
    let limit = c.saturating_add.result in
    let old = c.new-bytes.result.items in
    let items = c.read_to_end.new.buf.items in
    let ok = c.read_to_end.new.buf.ok in
    let less : length items < limit = omega (arith, c.read_to_end.new.buf.small, ok.0, ok.1, c.saturating_add.ensures, c.len.ensures, c.if-len-most.true) in
    let limited = subst (λ n. IfSome (option_map (take n) (known front.inner)) (λ xs. items ≡ old ++ xs)) c.take-front.ensures.limit c.in-Ok.ensures.bytes in
    let read = subst (λ r. IfSome (option_map (take limit) (known r)) (λ xs. items ≡ old ++ xs)) c.take-front.ensures.inner limited in
    subst (λ z. IfSome (known c.args.file) (λ all. z ≡ all)) (sym c.from_vec.ensures) (whole (known c.args.file) limit old items c.new-bytes.ensures.items read less)
