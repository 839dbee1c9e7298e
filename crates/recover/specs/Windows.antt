-- The input seen through a window. Assumes nothing.
use Rattle.std.specs.Prelude.{◌≡◌, List, ◌++◌, ℕ, ◌≤◌, length, take}
use Rattle.std.proofs.Math.Seq.{slice}
use Rattle.serials.specs.Seconds.{itself}
use Rattle.layouts.specs.Records.{reading}
use Rattle.recover.specs.declared.window.Window.{Window}

-- the bytes of a buffer that were read and not passed yet
unfoldable pub ahead : Window → List ℕ → List ℕ
ahead w b = slice w.at w.have b

-- it lies in the buffer
abbrev pub Inside : Window → List ℕ → Type 0
Inside w b = (w.at ≤ w.have) × (w.have ≤ length b)

-- the record at the front of what is ahead is read as it would be with any bytes after these
abbrev pub Enough : Window → List ℕ → Type 0
Enough w b = (more : List ℕ) → reading itself (take w.have b ++ more) w.at ≡ reading itself (take w.have b) w.at

-- a list begins with another
abbrev pub StartsWith : List ℕ → List ℕ → Type 0
StartsWith s t = take (length s) t ≡ s
