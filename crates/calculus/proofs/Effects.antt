-- What a step does to the works, as its event says.
use Rattle.std.proofs.Common.{◌≡◌, ℕ, cond, ltb, List, [], ◌∷◌, Some, None, Option as Shows, refl, ◌∙◌, subst}
use mathlib.Core.Path.{subst⁻¹}
use mathlib.Core.Option.{Option, some, none as nothing}
use Rattle.calculus.specs.Types.{World, site, bound, Sheet}
use Rattle.calculus.specs.Terms.{Target, outer, kept, Term, val, Value, lit, var, lab, lam, app, boxed, unbox, here, letd, get, pairing, fst, snd, letcc, throw, go, gauge, gate, below, number, function, code, address, pair, value, label, world}
use Rattle.calculus.specs.Substitution.{substitute}
use Rattle.calculus.specs.Tables.{entry, count, put}
use Rattle.calculus.specs.Network.{Frame, to_apply, applied, unboxing, publishing, opening, to_pair, paired, first, second, to_compare, compared, setting, Continuation, finish, abort, return, push, Phase, eval, back, Sites, Network, network, keep}
use Rattle.calculus.specs.Step.{Works, Instrument, Event, quiet, looked, was_read, was_set, Outcome, stepped, silent, stuck, when_number, when_function, when_code, when_address, when_pair, stand_at, next, looked_up, gauge_shows, gate_set, resume, thrown, eval_step, frame_step, back_step, step}
use Rattle.calculus.specs.NetworkTyping.{Agrees}
use Rattle.calculus.specs.Law.{NeedsSilent, to_read, to_set}
use Rattle.calculus.proofs.Tables.{count_put}

-- what an event says of the works
abbrev pub Effect : Works → Event → Works → Type 0
Effect v quiet u = u ≡ v
Effect v (looked s l w) u = u ≡ v
Effect v (was_read s g w) u = u ≡ v
Effect v (was_set s g x w) u = (u ≡ record { gauges = v.gauges; gates = put v.gates s g (Some x) }) × ((y : Shows ℕ) × (entry v.gates s g ≡ some y))

-- what is said of an outcome of a step from N
abbrev Told : Works → Network → Outcome → Type 0
Told v N (stepped M u e) = Effect v e u
Told v N (silent κ s g) = NeedsSilent v N κ s g
Told v N stuck = Unit {0}

module _ (v : Works) (H : Sites) (w : ℕ) where
  stand_told : (N : Network) (u : World) (f : ℕ → Outcome) → ((s : ℕ) → Told v N (f s)) → Told v N (stand_at u f)
  stand_told N (site s) f g = g s
  stand_told N (bound k) f g = tt

  label_told : (N : Network) (k : Continuation) (s l : ℕ) (o : Option Value) → Told v N (looked_up v H w k s l o)
  label_told N k s l nothing = tt
  label_told N k s l (some u) = refl

  resume_told : (N : Network) (s : ℕ) (p : Phase) (o : Option Continuation) → Told v N (resume v H w s p o)
  resume_told N s p nothing = tt
  resume_told N s p (some k) = refl

  throw_told : (N : Network) (t : Target) (m : Term) → Told v N (thrown v H w t m)
  throw_told N (outer k) m = tt
  throw_told N (kept s c) m = resume_told N s (eval m) (entry H.kept s c)

  gauge_told : (k : Continuation) (n : ℕ) (o : Option (Shows ℕ)) → entry v.gauges w n ≡ o → Told v (network H w k (eval (gauge n))) (gauge_shows v H w k n o)
  gauge_told k n nothing e = tt
  gauge_told k n (some None) e = to_read e
  gauge_told k n (some (Some x)) e = refl

  gate_told : (k : Continuation) (g x : ℕ) (o : Option (Shows ℕ)) → entry v.gates w g ≡ o → Told v (network H w (push (setting g) k) (back (number x))) (gate_set v H w k g x o)
  gate_told k g x nothing e = tt
  gate_told k g x (some None) e = to_set e
  gate_told k g x (some (Some y)) e = (refl, (Some y, e))

  eval_told : (k : Continuation) (m : Term) → Told v (network H w k (eval m)) (eval_step v H w k m)
  eval_told k (val u) = refl
  eval_told k (lit n) = refl
  eval_told k (var j) = tt
  eval_told k (lab s l) = label_told (network H w k (eval (lab s l))) k s l (entry H.published w l)
  eval_told k (lam T m) = refl
  eval_told k (app m n) = refl
  eval_told k (boxed m) = refl
  eval_told k (unbox m) = refl
  eval_told k (here m) = refl
  eval_told k (letd m n) = refl
  eval_told k (get f u m) = stand_told (network H w k (eval (get f u m))) u (λ s. stepped (network (keep H w k) s (return w (count H.kept w)) (eval m)) v quiet) (λ s. refl)
  eval_told k (pairing m n) = refl
  eval_told k (fst m) = refl
  eval_told k (snd m) = refl
  eval_told k (letcc T m) = refl
  eval_told k (throw T t m) = throw_told (network H w k (eval (throw T t m))) t m
  eval_told k (go T u m) = stand_told (network H w k (eval (go T u m))) u (λ s. stepped (network H s abort (eval m)) v quiet) (λ s. refl)
  eval_told k (gauge n) = gauge_told k n (entry v.gauges w n) refl
  eval_told k (gate n m) = refl
  eval_told k (below T m n p q) = refl

  number_told : (N : Network) (u : Value) (f : ℕ → Outcome) → ((n : ℕ) → Told v N (f n)) → Told v N (when_number u f)
  number_told N (number n) f g = g n
  number_told N (function T m) f g = tt
  number_told N (code m) f g = tt
  number_told N (address s l) f g = tt
  number_told N (pair a b) f g = tt

  function_told : (N : Network) (u : Value) (f : Term → Outcome) → ((m : Term) → Told v N (f m)) → Told v N (when_function u f)
  function_told N (number n) f g = tt
  function_told N (function T m) f g = g m
  function_told N (code m) f g = tt
  function_told N (address s l) f g = tt
  function_told N (pair a b) f g = tt

  code_told : (N : Network) (u : Value) (f : Term → Outcome) → ((m : Term) → Told v N (f m)) → Told v N (when_code u f)
  code_told N (number n) f g = tt
  code_told N (function T m) f g = tt
  code_told N (code m) f g = g m
  code_told N (address s l) f g = tt
  code_told N (pair a b) f g = tt

  address_told : (N : Network) (u : Value) (f : ℕ → ℕ → Outcome) → ((s l : ℕ) → Told v N (f s l)) → Told v N (when_address u f)
  address_told N (number n) f g = tt
  address_told N (function T m) f g = tt
  address_told N (code m) f g = tt
  address_told N (address s l) f g = g s l
  address_told N (pair a b) f g = tt

  pair_told : (N : Network) (u : Value) (f : Value → Value → Outcome) → ((a b : Value) → Told v N (f a b)) → Told v N (when_pair u f)
  pair_told N (number n) f g = tt
  pair_told N (function T m) f g = tt
  pair_told N (code m) f g = tt
  pair_told N (address s l) f g = tt
  pair_told N (pair a b) f g = g a b

  set_told : (k : Continuation) (g : ℕ) (u : Value) → Told v (network H w (push (setting g) k) (back u)) (frame_step v H w k u (setting g))
  set_told k g (number n) = gate_told k g n (entry v.gates w g) refl
  set_told k g (function T n) = tt
  set_told k g (code n) = tt
  set_told k g (address s l) = tt
  set_told k g (pair a b) = tt

  frame_told : (k : Continuation) (u : Value) (f : Frame) → Told v (network H w (push f k) (back u)) (frame_step v H w k u f)
  frame_told k u (to_apply n) = refl
  frame_told k u (applied f) = function_told (network H w (push (applied f) k) (back u)) f (λ m. next v H w k (eval (substitute (value u) m))) (λ m. refl)
  frame_told k u unboxing = code_told (network H w (push unboxing k) (back u)) u (λ m. next v H w k (eval (substitute (world w) m))) (λ m. refl)
  frame_told k u publishing = refl
  frame_told k u (opening n) =
      address_told (network H w (push (opening n) k) (back u)) u (λ s l. next v H w k (eval (substitute (label s l) (substitute (world s) n)))) (λ s l. refl)
  frame_told k u (to_pair n) = refl
  frame_told k u (paired c) = refl
  frame_told k u first = pair_told (network H w (push first k) (back u)) u (λ a b. next v H w k (back a)) (λ a b. refl)
  frame_told k u second = pair_told (network H w (push second k) (back u)) u (λ a b. next v H w k (back b)) (λ a b. refl)
  frame_told k u (to_compare n p q) = refl
  frame_told k u (compared c p q) =
      let N = network H w (push (compared c p q) k) (back u) in
      number_told N c (λ m. when_number u (λ n. next v H w k (eval (cond (ltb m n) p q))))
      (λ m. number_told N u (λ n. next v H w k (eval (cond (ltb m n) p q))) (λ n. refl))
  frame_told k u (setting g) = set_told k g u

  back_told : (k : Continuation) (u : Value) → Told v (network H w k (back u)) (back_step v H w u k)
  back_told finish u = tt
  back_told abort u = tt
  back_told (return s c) u = resume_told (network H w (return s c) (back u)) s (back u) (entry H.kept s c)
  back_told (push f k) u = frame_told k u f

told : (v : Works) (N : Network) → Told v N (step v N)
told v (network H w k (eval m)) = eval_told v H w k m
told v (network H w k (back u)) = back_told v H w k u

-- a step does to the works what its event says
pub effect : (v : Works) (N M : Network) (u : Works) (e : Event) → step v N ≡ stepped M u e → Effect v e u
effect v N M u e q = subst (Told v N) q (told v N)

pub met_silent : (v : Works) (N : Network) (κ : Instrument) (s g : ℕ) → step v N ≡ silent κ s g → NeedsSilent v N κ s g
met_silent v N κ s g q = subst (Told v N) q (told v N)

-- the registers of the works stay those of the sheet
agrees_still : (S : Sheet) (v : Works) (e : Event) (u : Works) → Effect v e u → Agrees S v → Agrees S u
agrees_still S v quiet u q a = subst⁻¹ (Agrees S) q a
agrees_still S v (looked s l w) u q a = subst⁻¹ (Agrees S) q a
agrees_still S v (was_read s g w) u q a = subst⁻¹ (Agrees S) q a
agrees_still S v (was_set s g x w) u q a =
    subst⁻¹ (Agrees S) q.0 (record { gauges = a.gauges; gates = λ r. count_put v.gates s g (Some x) r ∙ a.gates r })

pub agrees_after : (S : Sheet) (v : Works) (N : Network) (M : Network) (u : Works) (e : Event) → Agrees S v → step v N ≡ stepped M u e → Agrees S u
agrees_after S v N M u e a q = agrees_still S v e u (effect v N M u e q) a

-- the effects of a run's steps, in a row
pub data Effects : Works → List Event → Works → Type 0 where
  none : {v : Works} → Effects v [] v
  more : {v u x : Works} {e : Event} {es : List Event} → Effect v e u → Effects u es x → Effects v (e ∷ es) x
