-- Sparse lists with the same terms at all entries are equal.
use Rattle.dcx_linear.specs.TermLaws.{same_lists}
use Rattle.dcx_linear.specs.ParamTerms.{key_of}
use Rattle.dcx_linear.proofs.laws.entries_determine_terms.Goals as goal

pub returns : goal.returns
returns c = λ ts us h k same. same_lists key_of ts us h.rising k.rising same
