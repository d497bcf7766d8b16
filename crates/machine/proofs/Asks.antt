-- What a register answers, as the environment machine sees it.
use Rattle.std.proofs.Common.{◌≡◌, ℕ, zero, suc, ◌<◌, ◌≤◌, Bool, true, false, cond, ltb, List, [], ◌∷◌, length, get_or, set, Some, None, Ok, Err, Option as Maybe, Result, sym, refl, ap, ◌∙◌, arith}
use mathlib.Core.Option.{Option, some, none as nothing}
use lib.ListN.{get_elem?}
use Rattle.lines.specs.declared.refusal.RegisterFault.{RegisterFault}
use Rattle.lines.specs.declared.refusal.RegisterFault.TheVariants.{NotFitted, Silent}
use Rattle.instruments.specs.Registers.{Shown, asked, row_asked, heard, done, set_after, row_after}
use Rattle.calculus.specs.Tables.{entry, put, row}
use Rattle.machine.proofs.Growth.{elem_getD, elem_past}

-- what an entry of a works answers
abbrev pub told : ℕ → ℕ → Option (Maybe ℕ) → Result ℕ RegisterFault
told s n nothing = Err (NotFitted s n)
told s n (some None) = Err (Silent s n)
told s n (some (Some x)) = Ok x

heard_told : (s n : ℕ) (o : Maybe ℕ) → heard s n o ≡ told s n (some o)
heard_told s n None = refl
heard_told s n (Some x) = refl

row_told : (xs : List (Maybe ℕ)) (s n : ℕ) → (b : Bool) → ltb n (length xs) ≡ b → (b ≡ true → n < length xs) → (b ≡ false → length xs ≤ n) → row_asked xs s n ≡ told s n (get_elem? xs n)
row_told xs s n true e below past = ap (λ b. cond b (heard s n (get_or xs n None)) (Err (NotFitted s n))) e ∙ heard_told s n (get_or xs n None) ∙ ap (told s n) (sym (elem_getD xs n None (below refl)))
row_told xs s n false e below past = ap (λ b. cond b (heard s n (get_or xs n None)) (Err (NotFitted s n))) e ∙ ap (told s n) (sym (elem_past xs n (past refl)))

pub asked_told : (rows : Shown) (s n : ℕ) → asked rows s n ≡ told s n (entry rows s n)
asked_told rows s n =
    row_told (row rows s) s n (ltb n (length (row rows s))) refl (λ e. below e) (λ e. past e)
  where
    below : ltb n (length (row rows s)) ≡ true → n < length (row rows s)
    below e = grind (arith, e)

    past : ltb n (length (row rows s)) ≡ false → length (row rows s) ≤ n
    past e = grind (arith, e)

-- a number is answered where it is shown
pub shown_told : (s n x : ℕ) (o : Option (Maybe ℕ)) → told s n o ≡ Ok x → o ≡ some (Some x)
shown_told s n x nothing e = absurd (let z : ◌≡◌ {A = ℕ} 0 1 = cc in omega arith)
shown_told s n x (some None) e = absurd (let z : ◌≡◌ {A = ℕ} 0 1 = cc in omega arith)
shown_told s n x (some (Some y)) e = let q : y ≡ x = cc in ap (λ z. some (Some z)) q

-- a set that is answered puts the number there
pub set_put : (rows : Shown) (s n v x : ℕ) → asked rows s n ≡ Ok x → set_after rows s n v ≡ put rows s n (Some v)
set_put rows s n v x e = ap (λ r. set rows s (row_after r (row rows s) n v)) e

-- the register's own answer, out of a set's
pub done_err : (r : Result ℕ RegisterFault) (f : RegisterFault) → done r ≡ Err f → r ≡ Err f
done_err (Ok x) f e = absurd (let z : ◌≡◌ {A = ℕ} 0 1 = cc in omega arith)
done_err (Err g) f e = let q : g ≡ f = cc in ap Err q

pub done_ok : (r : Result ℕ RegisterFault) → done r ≡ Ok tt → (x : ℕ) × (r ≡ Ok x)
done_ok (Ok x) e = (x, refl)
done_ok (Err g) e = absurd (let z : ◌≡◌ {A = ℕ} 0 1 = cc in omega arith)

set_own : (rows : Shown) (s : ℕ) → set rows s (row rows s) ≡ rows
set_own [] s = refl
set_own (r ∷ rows) zero = refl
set_own (r ∷ rows) (suc s) = ap (λ q. r ∷ q) (set_own rows s)

-- a set that is refused leaves all as it was
pub set_none : (rows : Shown) (s n v : ℕ) (f : RegisterFault) → asked rows s n ≡ Err f → set_after rows s n v ≡ rows
set_none rows s n v f e = ap (λ r. set rows s (row_after r (row rows s) n v)) e ∙ set_own rows s
