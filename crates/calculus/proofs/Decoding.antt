-- What the rows of a program's tables stand for, row by row.
use Rattle.std.proofs.Common.{◌≡◌, ℕ, zero, suc, ◌+◌, ◌-◌, ◌<◌, List, [], ◌∷◌, length, get_or, refl, ap, ◌∙◌, subst, le_of_suc-le-suc, not-suc-le-zero, arith}
use mathlib.Core.Path.{fun_ext}
use mathlib.Core.Option.{some, none as nothing, some-injective, none-ne-some, some-ne-none, Option}
use native.Mathlib.Nat.{sub-zero}
use lib.ListN.{get_elem?}
use Rattle.syntax.specs.declared.program.Ty.{Ty as TypeRow}
use Rattle.syntax.specs.declared.program.Ty.TheVariants as Written
use native.Mathlib.Decide.{dec_lt}
use Rattle.lines.specs.declared.refusal.CheckFault.TheVariants.{Unbound, Mismatch, BoundWorld, NotOnSheet}
use Rattle.syntax.specs.declared.program.Term.TheVariants as Row
use Rattle.syntax.specs.declared.program.Term.{Term as TermRow}
use Rattle.calculus.specs.Types.{Ty, num, none, fn, box, at, both, bound, Sheet, gates_there}
use Rattle.calculus.specs.Terms.{outer, lam, app, boxed, unbox, here, letd, get, pairing, fst, snd, letcc, throw, go, gate, below}
use Rattle.calculus.specs.Typing.{binding_value, binding_world, binding_continuation}
use Rattle.calculus.specs.Program.{Program, decoded, decode, grow_type, type_of, deeper_value, deeper_world, deeper_continuation, level, world_there, Tree, grow, stump, tree, Above, AboveType, Sorted, Ordered}
use Rattle.calculus.specs.Checker.{typed, then_type, need, when_fn, when_box, when_at, when_both, when_mobile, when_site, expecting, bound_continuation, is_known, Judge, examine, nowhere, JudgeRecurs, TypeRecurs}

-- a row that is read by its number
pub row_read : {A : Type 0} (rs : List A) (n : ℕ) (d r : A) → n < length rs → get_or rs n d ≡ r → get_elem? rs n ≡ some r
row_read [] n d r h e = absurd (not-suc-le-zero h)
row_read {A} (x ∷ rs) zero d r h e = ap {B = Option A} some e
row_read (x ∷ rs) (suc n) d r h e = row_read rs n d r (le_of_suc-le-suc h) e

-- what holds of each row holds of that row
pub sorted_at : {A : Type 0} (Q : ℕ → A → Type 0) (k : ℕ) (rs : List A) → Sorted Q k rs → (n m : ℕ) → m ≡ k + n → (r : A) → get_elem? rs n ≡ some r → Q m r
sorted_at Q k [] o n m q r e = absurd (none-ne-some r e)
sorted_at Q k (x ∷ rs) o zero m q r e = let z : k ≡ m = omega arith in subst (λ (j : ℕ). Q j r) z (subst (Q k) (some-injective x r e) o.0)
sorted_at Q k (x ∷ rs) o (suc n) m q r e = sorted_at Q (suc k) rs o.1 n m (omega arith) r e

-- In a table whose parts have larger numbers, a row stands for what is made from what its parts stand for.
module _ {A B : Type 0} (make : ℕ → (ℕ → B) → A → B) (missing : B) (Parts : ℕ → A → Type 0) where
  module _ (same : (p : ℕ) (f g : ℕ → B) (k : ℕ) → ((c : ℕ) → k < c → f c ≡ g c) → (r : A) → Parts k r → make p f r ≡ make p g r)
      (lower : (k : ℕ) (r : A) → Parts (suc k) r → Parts k r) where
    part : ℕ → List A → ℕ → B
    part k rs c = get_or (decoded make missing k rs) (c - k) missing

    part_shift : (k : ℕ) (r : A) (rs : List A) (c : ℕ) → k < c → part (suc k) rs c ≡ part k (r ∷ rs) c
    unfolding part
    part_shift k r rs c h =
        let e : suc (c - suc k) ≡ c - k = omega arith in
        ap (λ (x : ℕ). get_or (decoded make missing k (r ∷ rs)) x missing) e

    parts_at : (k : ℕ) (rs : List A) → Sorted Parts k rs → (p : ℕ) (r : A) → get_elem? rs p ≡ some r → Parts k r
    parts_at k [] o p r e = absurd (none-ne-some r e)
    parts_at k (x ∷ rs) o zero r e = subst (Parts k) (some-injective x r e) o.0
    parts_at k (x ∷ rs) o (suc p) r e = lower k r (parts_at (suc k) rs o.1 p r e)

    decoded_at : (k : ℕ) (rs : List A) → Sorted Parts k rs → (p q : ℕ) → q ≡ k + p → (r : A) → get_elem? rs p ≡ some r →
        get_or (decoded make missing k rs) p missing ≡ make q (part k rs) r
    unfolding part
    decoded_at k [] o p q n r e = absurd (none-ne-some r e)
    decoded_at k (x ∷ rs) o zero q n r e =
        let z : k ≡ q = omega arith in
        same k (part (suc k) rs) (part k (x ∷ rs)) k (part_shift k x rs) x o.0 ∙ (λ i. make (z i) (part k (x ∷ rs)) (some-injective x r e i))
    decoded_at k (x ∷ rs) o (suc p) q n r e =
        decoded_at (suc k) rs o.1 p q (omega arith) r e ∙
        same q (part (suc k) rs) (part k (x ∷ rs)) k (part_shift k x rs) r (lower k r (parts_at (suc k) rs o.1 p r e))

    pub decode_at : (rs : List A) → Sorted Parts 0 rs → (p : ℕ) (r : A) → get_elem? rs p ≡ some r → decode make missing rs p ≡ make p (decode make missing rs) r
    unfolding part
    decode_at rs o p r e =
        decoded_at 0 rs o p p (omega arith) r e ∙
        ap (λ (f : ℕ → B). make p f r) (fun_ext (λ c. ap (λ (x : ℕ). get_or (decoded make missing 0 rs) x missing) (sub-zero c)))

  pub decoded_none : (k : ℕ) (rs : List A) (p : ℕ) → get_elem? rs p ≡ nothing → get_or (decoded make missing k rs) p missing ≡ missing
  decoded_none k [] p e = refl
  decoded_none k (x ∷ rs) zero e = absurd (some-ne-none x e)
  decoded_none k (x ∷ rs) (suc p) e = decoded_none (suc k) rs p e

agree : (T : ℕ → Ty) (f g : ℕ → Tree) (k : ℕ) → ((c : ℕ) → k < c → f c ≡ g c) → (n : TermRow) → Above k n → grow T f n ≡ grow T g n
agree T f g k h (Row.Num n) a = refl
agree T f g k h (Row.Value i) a = refl
agree T f g k h (Row.Lam t b) a = λ i d. lam (T t) (h b a i (deeper_value d))
agree T f g k h (Row.App x y) a = λ i d. app (h x a.0 i d) (h y a.1 i d)
agree T f g k h (Row.Boxed b) a = λ i d. boxed (h b a i (deeper_world d))
agree T f g k h (Row.Unbox x) a = λ i d. unbox (h x a i d)
agree T f g k h (Row.Here x) a = λ i d. here (h x a i d)
agree T f g k h (Row.Letd x y) a = λ i d. letd (h x a.0 i d) (h y a.1 i (deeper_value (deeper_world d)))
agree T f g k h (Row.Get l w x) a = λ i d. get l (world_there d.worlds w) (h x a i d)
agree T f g k h (Row.Pair x y) a = λ i d. pairing (h x a.0 i d) (h y a.1 i d)
agree T f g k h (Row.Fst x) a = λ i d. fst (h x a i d)
agree T f g k h (Row.Snd x) a = λ i d. snd (h x a i d)
agree T f g k h (Row.Letcc t b) a = λ i d. letcc (T t) (h b a i (deeper_continuation d))
agree T f g k h (Row.Throw t c x) a = λ i d. throw (T t) (outer (level d.continuations c)) (h x a i d)
agree T f g k h (Row.Go t w x) a = λ i d. go (T t) (world_there d.worlds w) (h x a i d)
agree T f g k h (Row.Gauge n) a = refl
agree T f g k h (Row.Gate n x) a = λ i d. gate n (h x a i d)
agree T f g k h (Row.Below t x y p q) a = λ i d. below (T t) (h x a.0 i d) (h y a.1 i d) (h p a.2 i d) (h q a.3 i d)

above_less : (k : ℕ) (n : TermRow) → Above (suc k) n → Above k n
above_less k (Row.Num n) a = tt
above_less k (Row.Value i) a = tt
above_less k (Row.Lam t b) a = omega arith
above_less k (Row.App x y) a = omega arith
above_less k (Row.Boxed b) a = omega arith
above_less k (Row.Unbox x) a = omega arith
above_less k (Row.Here x) a = omega arith
above_less k (Row.Letd x y) a = omega arith
above_less k (Row.Get l w x) a = omega arith
above_less k (Row.Pair x y) a = omega arith
above_less k (Row.Fst x) a = omega arith
above_less k (Row.Snd x) a = omega arith
above_less k (Row.Letcc t b) a = omega arith
above_less k (Row.Throw t c x) a = omega arith
above_less k (Row.Go t w x) a = omega arith
above_less k (Row.Gauge n) a = tt
above_less k (Row.Gate n x) a = omega arith
above_less k (Row.Below t x y p q) a = omega arith

pub tree_at : (P : Program) → Ordered P → (p : ℕ) (n : TermRow) → get_elem? P.terms p ≡ some n → tree P p ≡ grow (type_of P) (tree P) n
tree_at P o p n e =
    decode_at (λ k f r. grow (type_of P) f r) stump Above (λ p f g k h r a. agree (type_of P) f g k h r a) above_less P.terms o.terms p n e

-- the judges
judge_agree : (S : Sheet) (T : ℕ → Ty) (p : ℕ) (f g : ℕ → Judge) (k : ℕ) → ((c : ℕ) → k < c → f c ≡ g c) → (r : TermRow) → Above k r → examine S T p f r ≡ examine S T p g r
judge_agree S T p f g k h (Row.Num n) q = refl
judge_agree S T p f g k h (Row.Value i) q = refl
judge_agree S T p f g k h (Row.Lam t b) q = λ i Γ w. then_type (h b q i (binding_value Γ (T t) w) w) (λ A. typed (fn (T t) A))
judge_agree S T p f g k h (Row.App a b) q = λ i Γ w. then_type (h a q.0 i Γ w) (λ C. when_fn C (Mismatch a) (λ A B. expecting b (h b q.1 i Γ w) A (typed B)))
judge_agree S T p f g k h (Row.Boxed b) q = λ i Γ w. then_type (h b q i (binding_world Γ) (bound Γ.worlds)) (λ A. typed (box A))
judge_agree S T p f g k h (Row.Unbox a) q = λ i Γ w. then_type (h a q i Γ w) (λ C. when_box C (Mismatch a) (λ A. typed A))
judge_agree S T p f g k h (Row.Here a) q = λ i Γ w. then_type (h a q i Γ w) (λ A. typed (at A))
judge_agree S T p f g k h (Row.Letd a b) q = λ i Γ w. then_type (h a q.0 i Γ w) (λ C. when_at C (Mismatch a) (λ A. h b q.1 i (binding_value (binding_world Γ) A (bound Γ.worlds)) w))
judge_agree S T p f g k h (Row.Get m x a) q = λ i Γ w. let u = world_there Γ.worlds x in need (is_known S Γ.worlds u) (Unbound p) (then_type (h a q i Γ u) (λ A. when_mobile m A (Mismatch a) (typed A)))
judge_agree S T p f g k h (Row.Pair a b) q = λ i Γ w. then_type (h a q.0 i Γ w) (λ A. then_type (h b q.1 i Γ w) (λ B. typed (both A B)))
judge_agree S T p f g k h (Row.Fst a) q = λ i Γ w. then_type (h a q i Γ w) (λ C. when_both C (Mismatch a) (λ A B. typed A))
judge_agree S T p f g k h (Row.Snd a) q = λ i Γ w. then_type (h a q i Γ w) (λ C. when_both C (Mismatch a) (λ A B. typed B))
judge_agree S T p f g k h (Row.Letcc t b) q = λ i Γ w. expecting b (h b q i (binding_continuation Γ (T t) w) w) (T t) (typed (T t))
judge_agree S T p f g k h (Row.Throw t n a) q = λ i Γ w. bound_continuation p (get_elem? Γ.continuations (level (length Γ.continuations) n)) (λ A u. expecting a (h a q i Γ u) A (typed (T t)))
judge_agree S T p f g k h (Row.Go t x a) q = λ i Γ w. let u = world_there Γ.worlds x in need (is_known S Γ.worlds u) (Unbound p) (expecting a (h a q i Γ u) none (typed (T t)))
judge_agree S T p f g k h (Row.Gauge n) q = refl
judge_agree S T p f g k h (Row.Gate n a) q = λ i Γ w. expecting a (h a q i Γ w) num (when_site w (BoundWorld p) (λ s. need (dec_lt n (gates_there S s)) (NotOnSheet p) (typed num)))
judge_agree S T p f g k h (Row.Below t a b x y) q = λ i Γ w. expecting a (h a q.0 i Γ w) num (expecting b (h b q.1 i Γ w) num (expecting x (h x q.2 i Γ w) (T t) (expecting y (h y q.3 i Γ w) (T t) (typed (T t)))))

pub judge_recurs : JudgeRecurs
judge_recurs P o p r e =
    decode_at (λ p f r. examine P.sheet (type_of P) p f r) nowhere Above (λ p f g k h r a. judge_agree P.sheet (type_of P) p f g k h r a) above_less P.terms o.terms p r e

-- the types
type_agree : (f g : ℕ → Ty) (k : ℕ) → ((c : ℕ) → k < c → f c ≡ g c) → (r : TypeRow) → AboveType k r → grow_type f r ≡ grow_type g r
type_agree f g k h Written.Num q = refl
type_agree f g k h Written.Never q = refl
type_agree f g k h (Written.Fn a b) q = λ i. fn (h a q.0 i) (h b q.1 i)
type_agree f g k h (Written.Boxed a) q = λ i. box (h a q i)
type_agree f g k h (Written.At a) q = λ i. at (h a q i)
type_agree f g k h (Written.Both a b) q = λ i. both (h a q.0 i) (h b q.1 i)

type_less : (k : ℕ) (r : TypeRow) → AboveType (suc k) r → AboveType k r
type_less k Written.Num a = tt
type_less k Written.Never a = tt
type_less k (Written.Fn x y) a = omega arith
type_less k (Written.Boxed x) a = omega arith
type_less k (Written.At x) a = omega arith
type_less k (Written.Both x y) a = omega arith

pub type_recurs : TypeRecurs
type_recurs rs o n r e = decode_at (λ k f r. grow_type f r) num AboveType (λ p f g k h r a. type_agree f g k h r a) type_less rs o n r e
