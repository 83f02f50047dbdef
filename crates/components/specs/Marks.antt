-- What a flood has labelled so far.
use Rattle.std.specs.Prelude.{ℕ, ◌+◌, nat_lt, List, slice_index, slice_set, count_by}
use Rattle.moves.specs.declared.Cell.{Cell}
use Rattle.moves.specs.Maps.{place_of}

-- the label of each place, and the first `count` cells found, in that order, which are those with a label
pub record Marks : Type 0 where
  pub labels : List ℕ
  pub found : List Cell
  pub count : ℕ

-- the label of a cell
abbrev pub label_at : ℕ → Marks → Cell → ℕ
label_at width marks cell = slice_index marks.labels (place_of width cell)

-- one more cell is found, and gets that label
abbrev pub with_mark : ℕ → Marks → Cell → ℕ → Marks
with_mark width marks cell label =
    record {
      labels = slice_set marks.labels (place_of width cell) label;
      found = slice_set marks.found marks.count cell;
      count = marks.count + 1;
    }

-- how many labels are below a number
abbrev pub count_below : ℕ → List ℕ → ℕ
count_below limit labels = count_by (λ label. nat_lt label limit) labels
