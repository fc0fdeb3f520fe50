-- Answers of inner functions as numbers.
use Rattle.row_layout.specs.declared.RowLayout.{RowLayout}
use Rattle.error.specs.Result.{Result}
use Rattle.std.specs.Prelude.{Err, Ok}
use Rattle.error.specs.Refusal.{number_of, place_of}
use Rattle.rook_probe.specs.declared.LayoutProbe.{LayoutProbe}

abbrev pub layout_probe : Result RowLayout → LayoutProbe
layout_probe (Ok l) =
    record {
      number = 0;
      place = 0;
      columns = l.num_columns;
      varlens = l.num_varlen_cols;
      packed = l.packed_size;
      padded = l.padded_size;
    }
layout_probe (Err r) =
    record { number = number_of r; place = place_of r; columns = 0; varlens = 0; packed = 0; padded = 0 }
