-- Kinds compared as values are compared by `same_kind`. Assumes nothing.
use Rattle.std.proofs.Common.{◌≡◌, refl, sym, ◌∙◌, Bool, true, false, not}
use denote.Enum.Bare as enum
use Rattle.histories.specs.declared.Kind.{Kind}
use Rattle.histories.specs.declared.Kind.TheVariants as K
use Rattle.histories.specs.contracts.Kind as layout
use Rattle.answers.specs.Replies.{same_kind}

pub compared : (a b : Kind) → enum.sameb layout.the_type a b ≡ same_kind a b
unfolding same_kind
compared K.Full K.Full = refl
compared K.Full K.Short = refl
compared K.Short K.Full = refl
compared K.Short K.Short = refl

-- by what `!=` says of two
pub differ : (s r : Bool) → r ≡ not s → r ≡ true → s ≡ false
differ true r e f = cc
differ false r e f = refl

pub agree : (s r : Bool) → r ≡ not s → r ≡ false → s ≡ true
agree true r e f = refl
agree false r e f = cc
