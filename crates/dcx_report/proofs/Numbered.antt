-- The lemma on numbered lines, where the tactics of this crate find it.
pub use Rattle.dcx_lines.proofs.Numbered.{numbered_more}
