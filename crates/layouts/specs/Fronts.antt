-- Bytes laid into the front of a buffer, which the inner writers' contracts cite. Assumes nothing.
use Rattle.std.specs.Prelude.{List, ◌++◌, ℕ, length, drop}

-- every byte behind them is as it was
unfoldable pub front : List ℕ → List ℕ → List ℕ
front bytes out = bytes ++ drop (length bytes) out
