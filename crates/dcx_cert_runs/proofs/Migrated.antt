-- A certificate is migrated to one.
use Rattle.std.proofs.Common.{◌≡◌, ℕ, ◌<◌, [], List, length, get_or, Some, sym, ◌∙◌, arith}
use Rattle.std.specs.List.{slice_get}
use Rattle.std.proofs.lemmas.Option.{same_Some, slice_get-get_or, slice_get_within}
use Rattle.dcx_point.specs.Pairs.{Pairs}
use Rattle.dcx_tree.specs.declared.problem.Problem.{Problem}
use Rattle.dcx_cert_sections.specs.declared.section.Section.{Section}
use Rattle.dcx_cert_sections.specs.declared.section.Sections.{Sections}
use Rattle.dcx_cert_runs.specs.Migrating.{with_values, IsMigrated}
use Rattle.dcx_cert_runs.specs.Laws.{MigrationsAreOne}
use Rattle.dcx_cert_sections.specs.declared.section.Format.TheVariants.{Two}
use Rattle.dcx_cert_runs.proofs.Lists.{AreMade, same_lists}

module _ (p : Problem) (settings : List Pairs) (before a b : Sections) (counted : length settings ≡ length before.list) (h : IsMigrated p settings before a) (k : IsMigrated p settings before b) where
  same_at : (i : ℕ) (x y : Section) → slice_get a.list i ≡ Some x → slice_get b.list i ≡ Some y → x ≡ y
  same_at i x y at here =
      let within : i < length a.list = slice_get_within a.list i x at in
      let there = slice_get-get_or before.list i x (omega (arith, within, h.count)) in
      let setting = slice_get-get_or settings i [] (omega (arith, within, h.count, counted)) in
      let s = get_or settings i [] in
      let z = get_or before.list i x in
      same_Some x (with_values p s z) (sym at ∙ h.each i s z setting there) ∙ same_Some (with_values p s z) y (sym (k.each i s z setting there) ∙ here)

  same_list : a.list ≡ b.list
  same_list = same_lists a.list b.list (h.count ∙ sym k.count) same_at

  same_format : a.format ≡ b.format
  same_format = h.format ∙ sym k.format

  same : a ≡ b
  same = λ i. record { format = same_format i; list = same_list i }

pub migrations_are_one : MigrationsAreOne
migrations_are_one p settings before a b counted h k = same p settings before a b counted h k

-- sections with the values of all settings
pub migrated : (p : Problem) (settings : List Pairs) (before after : Sections) → after.format ≡ Two → AreMade (with_values p) settings before.list after.list (length before.list)
    → IsMigrated p settings before after
migrated p settings before after format h = record {
  format = format;
  count = h.count;
  each = λ k s x at here. h.each k s x (slice_get_within before.list k x here) at here;
}
