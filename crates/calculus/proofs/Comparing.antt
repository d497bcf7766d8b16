-- Comparing types: two are the same when they are of one form and their parts are the same in turn.
use Rattle.std.proofs.Common.{◌≡◌, true, false, ◌&&◌, sym, refl, ap}
use Rattle.calculus.specs.Types.{Ty, fn, box, at, both, same_type}
use Rattle.calculus.specs.Checker.{Checked, typed, refused, decided, is_typed}
use Rattle.calculus.proofs.Tables.{clash}

pub decided_yes : {P : Type 0} (d : Dec P) → P → decided d ≡ true
decided_yes (yes h) p = refl
decided_yes (no h) p = absurd (h p)

pub decided_no : {P : Type 0} (d : Dec P) → (P → ⊥) → decided d ≡ false
decided_no (yes h) p = absurd (p h)
decided_no (no h) p = refl

pub decided_holds : {P : Type 0} (d : Dec P) → decided d ≡ true → P
decided_holds (yes h) e = h
decided_holds (no h) e = clash (cc)

-- the verdict that names a type
pub typed_is : (A : Ty) (c : Checked) → is_typed A c ≡ true → c ≡ typed A
typed_is A (typed B) e = ap typed (decided_holds (same_type B A) e)
typed_is A (refused r) e = clash (cc)

pub is_typed_so : (A : Ty) (c : Checked) → c ≡ typed A → is_typed A c ≡ true
is_typed_so A (typed B) e = decided_yes (same_type B A) (let z : B ≡ A = cc in z)
is_typed_so A (refused r) e = clash (cc)

-- types of one form
one_part : {P Q : Type 0} → (P → Q) → (Q → P) → (d : Dec P) (e : Dec Q) → decided d ≡ decided e
one_part f g (yes p) e = sym (decided_yes e (f p))
one_part f g (no h) e = sym (decided_no e (λ q. h (g q)))

two_parts : {P Q R : Type 0} → (P → Q × R) → (Q → R → P) → (d : Dec P) (e : Dec Q) (c : Dec R) → decided d ≡ (decided e && decided c)
two_parts f g d (yes q) (yes r) = decided_yes d (g q r)
two_parts f g d (yes q) (no h) = decided_no d (λ p. h (f p).1)
two_parts f g d (no h) (yes r) = decided_no d (λ p. h (f p).0)
two_parts f g d (no h) (no k) = decided_no d (λ p. h (f p).0)

pub same_fn : (A B C D : Ty) → decided (same_type (fn A B) (fn C D)) ≡ (decided (same_type A C) && decided (same_type B D))
same_fn A B C D = two_parts (λ e. (cc, cc)) (λ p q i. fn (p i) (q i)) (same_type (fn A B) (fn C D)) (same_type A C) (same_type B D)

pub same_both : (A B C D : Ty) → decided (same_type (both A B) (both C D)) ≡ (decided (same_type A C) && decided (same_type B D))
same_both A B C D = two_parts (λ e. (cc, cc)) (λ p q i. both (p i) (q i)) (same_type (both A B) (both C D)) (same_type A C) (same_type B D)

pub same_box : (A B : Ty) → decided (same_type (box A) (box B)) ≡ decided (same_type A B)
same_box A B = one_part (λ e. let z : A ≡ B = cc in z) (λ p i. box (p i)) (same_type (box A) (box B)) (same_type A B)

pub same_at : (A B : Ty) → decided (same_type (at A) (at B)) ≡ decided (same_type A B)
same_at A B = one_part (λ e. let z : A ≡ B = cc in z) (λ p i. at (p i)) (same_type (at A) (at B)) (same_type A B)
