-- An answer that is `Ok` or a refusal, by whether it is `Ok`. Assumes nothing.
use Rattle.std.proofs.Common.{◌≡◌, refl, ap, ◌∙◌, Bool, true, false, Result, Ok, Err}
use Rattle.std.specs.Prelude.{is_ok, IsErrAnd}
use Rattle.std.proofs.lemmas.Result.{err_from_is_err_and}

pub ok_is : {E : Type 0} (r : Result (Unit {0}) E) → is_ok r ≡ true → r ≡ Ok tt
ok_is (Ok u) e = refl
ok_is (Err j) e = cc

pub ok_not : {E A : Type 0} (r : Result (Unit {0}) E) → is_ok r ≡ false → r ≡ Ok tt → A
ok_not r e h = cc

-- what a `?` passes up is what was met
pub passed : {T E : Type 0} (r : Result T E) (j : E) → IsErrAnd r (λ e. e ≡ j) → r ≡ Err j
passed {E = E} r j h = let p = err_from_is_err_and r h in p.1 ∙ ap (λ (e : E). Err e) p.2
