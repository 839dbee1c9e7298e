-- `writing::of_one` is safe. Assumes nothing.
use Rattle.std.proofs.Common.{sym, arith, length-take-le}
use Rattle.records_tests.proofs.writing.of_one.Goals as goal

pub slice_bounds-untouched-end : goal.slice_bounds-untouched-end
slice_bounds-untouched-end c = sym (length-take-le _ _ (omega arith))
