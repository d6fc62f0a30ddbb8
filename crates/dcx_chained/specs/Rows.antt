-- The rows of a matrix as those of a tableau.
use Rattle.std.specs.Prelude.{List}
use Rattle.dcx_tab.specs.Rows.{Row}
use Rattle.dcx_links.specs.Matrix.{Matrix, listed, row_of}

abbrev pub rows_of : Matrix → List Row
rows_of m = listed m.height (λ i. row_of m i)
