-- A history that fits accepted records fits any part of them; so what is decided stays decided as more are accepted. Assumes nothing.
use mathlib.Core.Path.{◌≡◌, refl, ap, ◌∙◌}
use mathlib.Core.Bool.{Bool, true, false, cond}
use mathlib.Core.Logic.{◌⊎◌, inl, inr}
use Prim.Native.Nat.{ℕ}
use lib.Dec.{eqb}
use borrow.Author.Tests.{eqb-true, ne_eqb}
use Rattle.sets.proofs.Booleans.{clash, or_left, or_cases}
use Rattle.histories.specs.declared.Kind.{Kind}
use Rattle.histories.specs.declared.Kind.TheVariants.{Full}
use Rattle.histories.specs.Histories.{Row, History, Before, Accepted, lay, Fits, LastInAll, LastInNone, Decided}

-- every record of A is one of B
pub record Within (A B : Accepted) : Type 0 where
  pub returned : (p : ℕ) → A.returned p ≡ true → B.returned p ≡ true
  pub kind : (p : ℕ) → A.returned p ≡ true → B.kind p ≡ A.kind p
  pub row : (p : ℕ) → A.returned p ≡ true → B.row p ≡ A.row p

pub within_self : {A : Accepted} → Within A A
within_self = record { returned = λ p e. e; kind = λ p e. refl; row = λ p e. refl }

pub within_trans : {A B C : Accepted} → Within A B → Within B C → Within A C
within_trans u v = record {
  returned = λ p e. v.returned p (u.returned p e);
  kind = λ p e. v.kind p (u.returned p e) ∙ u.kind p e;
  row = λ p e. v.row p (u.returned p e) ∙ u.row p e;
}

-- a record is laid on the others
pub within_lay : (A : Accepted) (p : ℕ) (k : Kind) (M : Row) → A.returned p ≡ false → Within A (lay A p k M)
within_lay A p k M absent = record {
  returned = λ r e. or_left (eqb r p) e;
  kind = λ r e. ap (λ (t : Bool). cond t k (A.kind r)) (ne_eqb r p (λ h. clash e (rw h absent)));
  row = λ r e. ap (λ (t : Bool). cond t M (A.row r)) (ne_eqb r p (λ h. clash e (rw h absent)));
}

-- ---- histories that fit

module _ {n : ℕ} {A B : Accepted} (w : Within A B) where
  pub fits_fewer : {H : History} → Fits n B H → Fits n A H
  fits_fewer f = record {
    history = f.history;
    recorded = λ p b q. f.recorded p (w.returned p b) q ∙ (λ i. w.row p b i q);
    duty = λ p b k q. f.duty p (w.returned p b) (w.kind p b ∙ k) q;
  }

  pub last_more : {i : ℕ} → LastInAll n A i → LastInAll n B i
  last_more a H f = a H (fits_fewer f)

  pub not_last_more : {i : ℕ} → LastInNone n A i → LastInNone n B i
  not_last_more a H f = a H (fits_fewer f)

  pub decided_more : {i : ℕ} → Decided n A i → Decided n B i
  decided_more (inl a) = inl (last_more a)
  decided_more (inr a) = inr (not_last_more a)

-- a history fits one record more, where its row is that record and, if that is full, holds everyone before it
pub fits_lay : {n : ℕ} {A : Accepted} {H : History} (p : ℕ) (k : Kind) (M : Row) → Fits n A H → H p ≡ M → (k ≡ Full → (q : ℕ) → Before H q p → H p q ≡ true)
    → Fits n (lay A p k M) H
fits_lay {A = A} {H = H} p k M f is own = record {
  history = f.history;
  recorded = λ r b q. go r q (eqb r p) refl (or_cases (A.returned r) (eqb r p) b);
  duty = λ r b e q. at r (eqb r p) refl (or_cases (A.returned r) (eqb r p) b) e q;
}
  where
    go : (r q : ℕ) (t : Bool) → eqb r p ≡ t → (A.returned r ≡ true) ⊎ (eqb r p ≡ true) → H r q ≡ cond t M (A.row r) q
    go r q true e b = ap (λ (x : ℕ). H x q) (eqb-true r p e) ∙ (λ i. is i q)
    go r q false e (inl b) = f.recorded r b q
    go r q false e (inr h) = clash h e

    at : (r : ℕ) (t : Bool) → eqb r p ≡ t → (A.returned r ≡ true) ⊎ (eqb r p ≡ true) → cond t k (A.kind r) ≡ Full → (q : ℕ) → Before H q r → H r q ≡ true
    at r true e b x q w = let h = eqb-true r p e in rw h (own x q (rw h at w))
    at r false e (inl b) x q w = f.duty r b x q w
    at r false e (inr h) x q w = clash h e
