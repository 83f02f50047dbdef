-- When lines on the progress of a build come, in milliseconds.
use Rattle.std.specs.Prelude.{ℕ, ◌-◌, ◌^◌}
use Rattle.wire.specs.declared.progress.Showing.{Showing}
use Rattle.wire.specs.declared.progress.Showing.TheVariants.{Never, Lines, Rewritten}

-- the first line comes this long after a build begins
abbrev pub first_after : Showing → ℕ
first_after Never = 2 ^ 64 - 1
first_after Lines = 3_000
first_after Rewritten = 500

-- and each further one this long after the last
abbrev pub next_after : Showing → ℕ
next_after Never = 2 ^ 64 - 1
next_after Lines = 3_000
next_after Rewritten = 200
