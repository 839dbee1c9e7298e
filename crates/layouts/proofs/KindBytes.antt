-- A kind's byte is its discriminant. Assumes nothing.
use Rattle.std.proofs.Common.{◌≡◌, refl, ◌+◌}
use denote.Enum.Declared as enum
use Rattle.histories.specs.declared.Kind.{Kind}
use Rattle.histories.specs.declared.Kind.TheVariants as K
use Rattle.histories.specs.contracts.Kind as layout
use Rattle.layouts.specs.Layout.{kind_byte}

pub as_byte : (k : Kind) → enum.tag_of layout.the_type k + 1 ≡ kind_byte k
unfolding kind_byte
as_byte K.Full = refl
as_byte K.Short = refl
