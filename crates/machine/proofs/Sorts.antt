-- Values by their kinds.
use Rattle.std.proofs.Common.{◌≡◌, ℕ, true, false, List, [], length, sym, refl, ap, ◌∙◌, subst, append-nil, arith}
use mathlib.Core.Option.{some}
use lib.ListN.{get_elem?}
use Rattle.syntax.specs.declared.program.Term.{Term as TermRow}
use Rattle.syntax.specs.declared.program.Term.TheVariants as Row
use Rattle.calculus.specs.Machine
use Rattle.calculus.specs.Program.{made_of}
use Rattle.machine.specs.Meaning.{meanings, value_of}
use Rattle.machine.specs.Sound.{Each, CellIn, ValueIn}
use Rattle.machine.specs.Answers.{Lands, is_number, is_function, is_code, is_address, is_pair}
use Rattle.machine.proofs.Growth.{elem_below}
use Rattle.machine.proofs.Stays.{pair_cell, meanings_read, value_up}
use Rattle.machine.specs.declared.parts.Environment.{Environment}
use Rattle.machine.specs.declared.parts.Value.{Value}
use Rattle.machine.specs.declared.parts.Value.TheVariants as Val
use Rattle.machine.specs.declared.parts.Cell.{Cell}
use Rattle.machine.specs.declared.parts.Cell.TheVariants as Holds

-- only a lam and a box have a body
pub no_body : (r : TermRow) → ((t b : ℕ) → r ≡ Row.Lam t b → ⊥) → ((b : ℕ) → r ≡ Row.Boxed b → ⊥) → (made_of (some r)).1 ≡ 0
no_body (Row.Num n) f g = refl
no_body (Row.Value i) f g = refl
no_body (Row.Lam t b) f g = absurd (f t b refl)
no_body (Row.App a b) f g = refl
no_body (Row.Boxed b) f g = absurd (g b refl)
no_body (Row.Unbox a) f g = refl
no_body (Row.Here a) f g = refl
no_body (Row.Letd a b) f g = refl
no_body (Row.Get m w a) f g = refl
no_body (Row.Pair a b) f g = refl
no_body (Row.Fst a) f g = refl
no_body (Row.Snd a) f g = refl
no_body (Row.Letcc t b) f g = refl
no_body (Row.Throw t i a) f g = refl
no_body (Row.Go t w a) f g = refl
no_body (Row.Gauge n) f g = refl
no_body (Row.Gate n a) f g = refl
no_body (Row.Below t a b x y) f g = refl

-- a rule that fits wants a value of its kind
pub wants_number : (m : ℕ) (u : Machine.Value) (f : (ℕ → Machine.Outcome)) → Lands m (Machine.when_number u f) → is_number u ≡ true
wants_number m (Machine.number n) f h = refl
wants_number m (Machine.function p ρ) f h = absurd h
wants_number m (Machine.code p ρ) f h = absurd h
wants_number m (Machine.address s l) f h = absurd h
wants_number m (Machine.pair a b) f h = absurd h

pub wants_function : (m : ℕ) (u : Machine.Value) (f : (ℕ → Machine.Environment → Machine.Outcome)) → Lands m (Machine.when_function u f) → is_function u ≡ true
wants_function m (Machine.number n) f h = absurd h
wants_function m (Machine.function p ρ) f h = refl
wants_function m (Machine.code p ρ) f h = absurd h
wants_function m (Machine.address s l) f h = absurd h
wants_function m (Machine.pair a b) f h = absurd h

pub wants_code : (m : ℕ) (u : Machine.Value) (f : (ℕ → Machine.Environment → Machine.Outcome)) → Lands m (Machine.when_code u f) → is_code u ≡ true
wants_code m (Machine.number n) f h = absurd h
wants_code m (Machine.function p ρ) f h = absurd h
wants_code m (Machine.code p ρ) f h = refl
wants_code m (Machine.address s l) f h = absurd h
wants_code m (Machine.pair a b) f h = absurd h

pub wants_address : (m : ℕ) (u : Machine.Value) (f : (ℕ → ℕ → Machine.Outcome)) → Lands m (Machine.when_address u f) → is_address u ≡ true
wants_address m (Machine.number n) f h = absurd h
wants_address m (Machine.function p ρ) f h = absurd h
wants_address m (Machine.code p ρ) f h = absurd h
wants_address m (Machine.address s l) f h = refl
wants_address m (Machine.pair a b) f h = absurd h

pub wants_pair : (m : ℕ) (u : Machine.Value) (f : (Machine.Value → Machine.Value → Machine.Outcome)) → Lands m (Machine.when_pair u f) → is_pair u ≡ true
wants_pair m (Machine.number n) f h = absurd h
wants_pair m (Machine.function p ρ) f h = absurd h
wants_pair m (Machine.code p ρ) f h = absurd h
wants_pair m (Machine.address s l) f h = absurd h
wants_pair m (Machine.pair a b) f h = refl

module _ (cs : List Cell) (all : Each (λ i c. CellIn cs i c) cs) where
  -- what a pair's cell stands for
  pub pair_held : (i : ℕ) (a b : Value) → get_elem? cs i ≡ some (Holds.Pair a b) → value_of (meanings cs) (Val.Pair i) ≡ Machine.pair (value_of (meanings cs) a) (value_of (meanings cs) b)
  pair_held i a b e = ap (λ m. m.pair) (meanings_read cs i (Holds.Pair a b) all e)

  pub halves_in : (i : ℕ) (a b : Value) → get_elem? cs i ≡ some (Holds.Pair a b) → ValueIn cs (length cs) a × ValueIn cs (length cs) b
  halves_in i a b e =
      let h = all i (Holds.Pair a b) e in
      let l = elem_below cs i (Holds.Pair a b) e in
      let f : (v : Value) → ValueIn cs i v → ValueIn cs (length cs) v = λ v w. subst (λ x. ValueIn x (length cs) v) (append-nil cs) (value_up cs [] i (length cs) (omega arith) v w) in
      (f a h.0, f b h.1)

  a_pair : (i : ℕ) → ValueIn cs (length cs) (Val.Pair i) → is_pair (value_of (meanings cs) (Val.Pair i)) ≡ true
  a_pair i h = let p = pair_cell cs i h.1 in ap is_pair (pair_held i p.0 p.1 p.2)

  -- one kind only
  pair_only : (u : Machine.Value) → is_pair u ≡ true → (is_number u ≡ false) × (is_function u ≡ false) × (is_code u ≡ false) × (is_address u ≡ false)
  pair_only (Machine.number n) e = absurd (grind arith)
  pair_only (Machine.function p ρ) e = absurd (grind arith)
  pair_only (Machine.code p ρ) e = absurd (grind arith)
  pair_only (Machine.address s l) e = absurd (grind arith)
  pair_only (Machine.pair a b) e = (refl, refl, refl, refl)

  pub is_number_then : (v : Value) → ValueIn cs (length cs) v → is_number (value_of (meanings cs) v) ≡ true → ((n : ℕ) → v ≡ Val.Number n → ⊥) → ⊥
  is_number_then (Val.Number n) h q f = f n refl
  is_number_then (Val.Function p e) h q f = (let z : false ≡ true = q in grind arith)
  is_number_then (Val.Code p e) h q f = (let z : false ≡ true = q in grind arith)
  is_number_then (Val.Address s l) h q f = (let z : false ≡ true = q in grind arith)
  is_number_then (Val.Pair i) h q f = (let z : false ≡ true = sym (pair_only (value_of (meanings cs) (Val.Pair i)) (a_pair i h)).0 ∙ q in grind arith)

  pub is_function_then : (v : Value) → ValueIn cs (length cs) v → is_function (value_of (meanings cs) v) ≡ true → ((p : ℕ) (e : Environment) → v ≡ Val.Function p e → ⊥) → ⊥
  is_function_then (Val.Number n) h q f = (let z : false ≡ true = q in grind arith)
  is_function_then (Val.Function p e) h q f = f p e refl
  is_function_then (Val.Code p e) h q f = (let z : false ≡ true = q in grind arith)
  is_function_then (Val.Address s l) h q f = (let z : false ≡ true = q in grind arith)
  is_function_then (Val.Pair i) h q f = (let z : false ≡ true = sym (pair_only (value_of (meanings cs) (Val.Pair i)) (a_pair i h)).1 ∙ q in grind arith)

  pub is_code_then : (v : Value) → ValueIn cs (length cs) v → is_code (value_of (meanings cs) v) ≡ true → ((p : ℕ) (e : Environment) → v ≡ Val.Code p e → ⊥) → ⊥
  is_code_then (Val.Number n) h q f = (let z : false ≡ true = q in grind arith)
  is_code_then (Val.Function p e) h q f = (let z : false ≡ true = q in grind arith)
  is_code_then (Val.Code p e) h q f = f p e refl
  is_code_then (Val.Address s l) h q f = (let z : false ≡ true = q in grind arith)
  is_code_then (Val.Pair i) h q f = (let z : false ≡ true = sym (pair_only (value_of (meanings cs) (Val.Pair i)) (a_pair i h)).2 ∙ q in grind arith)

  pub is_address_then : (v : Value) → ValueIn cs (length cs) v → is_address (value_of (meanings cs) v) ≡ true → ((s l : ℕ) → v ≡ Val.Address s l → ⊥) → ⊥
  is_address_then (Val.Number n) h q f = (let z : false ≡ true = q in grind arith)
  is_address_then (Val.Function p e) h q f = (let z : false ≡ true = q in grind arith)
  is_address_then (Val.Code p e) h q f = (let z : false ≡ true = q in grind arith)
  is_address_then (Val.Address s l) h q f = f s l refl
  is_address_then (Val.Pair i) h q f = (let z : false ≡ true = sym (pair_only (value_of (meanings cs) (Val.Pair i)) (a_pair i h)).3 ∙ q in grind arith)

-- a comparison that fits wants two numbers
pub chosen_numbers : (m : ℕ) (a u : Machine.Value) (f : ℕ → ℕ → Machine.Outcome) → Lands m (Machine.when_number a (λ x. Machine.when_number u (λ y. f x y))) → (is_number a ≡ true) × (is_number u ≡ true)
chosen_numbers m (Machine.number n) u f h = (refl, wants_number m u (f n) h)
chosen_numbers m (Machine.function p ρ) u f h = absurd h
chosen_numbers m (Machine.code p ρ) u f h = absurd h
chosen_numbers m (Machine.address s l) u f h = absurd h
chosen_numbers m (Machine.pair a b) u f h = absurd h
