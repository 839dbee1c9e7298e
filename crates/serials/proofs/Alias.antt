-- What serials stand for in a group of 1 and 2 with the second serials 8 and 9, computed: document 02, [2]. Assumes nothing.
use mathlib.Core.Path.{◌≡◌, refl}
use mathlib.Core.List.{List, [], ◌∷◌, map}
use Prim.Native.Nat.{ℕ}
use Rattle.serials.specs.Rosters.{place_of, holds}
use Rattle.serials.specs.Seconds.{is_second, counts_as, stands_for}

abbrev on : List ℕ → List ℕ → List ℕ
on roster xs = map (stands_for (counts_as (1 ∷ 2 ∷ []) (8 ∷ 9 ∷ [])) roster) xs

-- on the group's roster the second serials stand for the first, and others for themselves
pub on_its_own : on (1 ∷ 2 ∷ []) (0 ∷ 1 ∷ 2 ∷ 3 ∷ 8 ∷ 9 ∷ []) ≡ 0 ∷ 1 ∷ 2 ∷ 3 ∷ 1 ∷ 2 ∷ []
unfolding stands_for counts_as is_second holds place_of
on_its_own = refl

-- on a roster of 1 and 8 each of these stands for itself, and only 9 for another
pub on_another : on (1 ∷ 8 ∷ []) (0 ∷ 1 ∷ 2 ∷ 3 ∷ 8 ∷ 9 ∷ []) ≡ 0 ∷ 1 ∷ 2 ∷ 3 ∷ 8 ∷ 2 ∷ []
unfolding stands_for counts_as is_second holds place_of
on_another = refl
