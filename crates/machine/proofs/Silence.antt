-- A silent register that a step meets is of the site where work stands.
use Rattle.std.proofs.Common.{◌≡◌, ℕ, cond, ltb, Some, None, Option as Maybe, refl, subst}
use mathlib.Core.Option.{Option, some, none as nothing}
use lib.ListN.{get_elem?}
use Rattle.syntax.specs.declared.program.Term.{Term as TermRow}
use Rattle.syntax.specs.declared.program.Term.TheVariants as Row
use Rattle.calculus.specs.Machine
use Rattle.calculus.specs.Program.{Program, body_of}
use Rattle.calculus.specs.Step.{Works, Instrument, quiet}
use Rattle.calculus.specs.Tables.{entry, count}

-- if a silent register is met, it is of that site
abbrev Here : ℕ → Machine.Outcome → Type 0
Here w (Machine.stepped L u e) = Unit {0}
Here w (Machine.silent κ s n) = s ≡ w
Here w Machine.stuck = Unit {0}

module _ (v : Works) (H : Machine.Sites) (w : ℕ) (c : Machine.Places) where
  looked_here : (k : Machine.Continuation) (s l : ℕ) (o : Option Machine.Value) → Here w (Machine.looked_up v H w c k s l o)
  looked_here k s l nothing = tt
  looked_here k s l (some u) = tt

  value_here : (k : Machine.Continuation) (f : Machine.Found) → Here w (Machine.value_step v H w c k f)
  value_here k (Machine.a_value u) = tt
  value_here k (Machine.a_label s l) = looked_here k s l (entry H.published w l)
  value_here k Machine.unbound = tt

  resume_here : (s : ℕ) (p : Machine.Phase) (o : Option Machine.Continuation) → Here w (Machine.resume v H w c s p o)
  resume_here s p nothing = tt
  resume_here s p (some k) = tt

  thrown_here : (ρ : Machine.Environment) (a : ℕ) (o : Option (ℕ × ℕ)) → Here w (Machine.thrown v H w c ρ a o)
  thrown_here ρ a nothing = tt
  thrown_here ρ a (some t) = resume_here t.0 (Machine.eval a ρ) (entry H.kept t.0 t.1)

  stands_here : (o : Option ℕ) (f : ℕ → Machine.State) → Here w (Machine.stand_at o (λ s. Machine.stepped (f s) v quiet))
  stands_here nothing f = tt
  stands_here (some s) f = tt

  gauge_here : (k : Machine.Continuation) (n : ℕ) (o : Option (Maybe ℕ)) → Here w (Machine.gauge_shows v H w c k n o)
  gauge_here k n nothing = tt
  gauge_here k n (some None) = refl
  gauge_here k n (some (Some x)) = tt

  gate_here : (k : Machine.Continuation) (n x : ℕ) (o : Option (Maybe ℕ)) → Here w (Machine.gate_set v H w c k n x o)
  gate_here k n x nothing = tt
  gate_here k n x (some None) = refl
  gate_here k n x (some (Some y)) = tt

  row_here : (k : Machine.Continuation) (p : ℕ) (ρ : Machine.Environment) (r : TermRow) → Here w (Machine.row_step v H w c k p ρ r)
  row_here k p ρ (Row.Num n) = tt
  row_here k p ρ (Row.Value i) = value_here k (Machine.value_there ρ i)
  row_here k p ρ (Row.Lam t b) = tt
  row_here k p ρ (Row.App a b) = tt
  row_here k p ρ (Row.Boxed b) = tt
  row_here k p ρ (Row.Unbox a) = tt
  row_here k p ρ (Row.Here a) = tt
  row_here k p ρ (Row.Letd a b) = tt
  row_here k p ρ (Row.Get f y a) = stands_here (Machine.site_given ρ y) (λ s. Machine.state (Machine.keep H w k) s (Machine.return w (count H.kept w)) (Machine.eval a ρ) c)
  row_here k p ρ (Row.Pair a b) = tt
  row_here k p ρ (Row.Fst a) = tt
  row_here k p ρ (Row.Snd a) = tt
  row_here k p ρ (Row.Letcc t b) = tt
  row_here k p ρ (Row.Throw t i a) = thrown_here ρ a (Machine.continuation_there ρ i)
  row_here k p ρ (Row.Go t y a) = stands_here (Machine.site_given ρ y) (λ s. Machine.state H s Machine.abort (Machine.eval a ρ) c)
  row_here k p ρ (Row.Gauge n) = gauge_here k n (entry v.gauges w n)
  row_here k p ρ (Row.Gate n a) = tt
  row_here k p ρ (Row.Below t a b x y) = tt

  eval_here : (k : Machine.Continuation) (p : ℕ) (ρ : Machine.Environment) (o : Option TermRow) → Here w (Machine.eval_step v H w c k p ρ o)
  eval_here k p ρ nothing = tt
  eval_here k p ρ (some r) = row_here k p ρ r

  number_here : (x : Machine.Value) (f : ℕ → Machine.Outcome) → ((n : ℕ) → Here w (f n)) → Here w (Machine.when_number x f)
  number_here (Machine.number n) f q = q n
  number_here (Machine.function p ρ) f q = tt
  number_here (Machine.code p ρ) f q = tt
  number_here (Machine.address s l) f q = tt
  number_here (Machine.pair a b) f q = tt

  function_here : (x : Machine.Value) (f : ℕ → Machine.Environment → Machine.Outcome) → ((p : ℕ) (ρ : Machine.Environment) → Here w (f p ρ)) → Here w (Machine.when_function x f)
  function_here (Machine.number n) f q = tt
  function_here (Machine.function p ρ) f q = q p ρ
  function_here (Machine.code p ρ) f q = tt
  function_here (Machine.address s l) f q = tt
  function_here (Machine.pair a b) f q = tt

  code_here : (x : Machine.Value) (f : ℕ → Machine.Environment → Machine.Outcome) → ((p : ℕ) (ρ : Machine.Environment) → Here w (f p ρ)) → Here w (Machine.when_code x f)
  code_here (Machine.number n) f q = tt
  code_here (Machine.function p ρ) f q = tt
  code_here (Machine.code p ρ) f q = q p ρ
  code_here (Machine.address s l) f q = tt
  code_here (Machine.pair a b) f q = tt

  address_here : (x : Machine.Value) (f : ℕ → ℕ → Machine.Outcome) → ((s l : ℕ) → Here w (f s l)) → Here w (Machine.when_address x f)
  address_here (Machine.number n) f q = tt
  address_here (Machine.function p ρ) f q = tt
  address_here (Machine.code p ρ) f q = tt
  address_here (Machine.address s l) f q = q s l
  address_here (Machine.pair a b) f q = tt

  pair_here : (x : Machine.Value) (f : Machine.Value → Machine.Value → Machine.Outcome) → ((a b : Machine.Value) → Here w (f a b)) → Here w (Machine.when_pair x f)
  pair_here (Machine.number n) f q = tt
  pair_here (Machine.function p ρ) f q = tt
  pair_here (Machine.code p ρ) f q = tt
  pair_here (Machine.address s l) f q = tt
  pair_here (Machine.pair a b) f q = q a b

  frame_here : (P : Program) (k : Machine.Continuation) (x : Machine.Value) (t : Machine.Frame) → Here w (Machine.frame_step v H w c P k x t)
  frame_here P k x (Machine.to_apply a ρ) = tt
  frame_here P k x (Machine.applied f) = function_here f (λ p ρ. Machine.binding v H w c k (body_of P p) (Machine.value x ρ)) (λ p ρ. tt)
  frame_here P k x Machine.unboxing = code_here x (λ p ρ. Machine.binding v H w c k (body_of P p) (Machine.world w ρ)) (λ p ρ. tt)
  frame_here P k x Machine.publishing = tt
  frame_here P k x (Machine.opening a ρ) = address_here x (λ s l. Machine.stepped (Machine.state H w k (Machine.eval a (Machine.label s l (Machine.world s ρ))) (Machine.binding_more (Machine.binding_more c))) v quiet) (λ s l. tt)
  frame_here P k x (Machine.to_pair a ρ) = tt
  frame_here P k x (Machine.paired a) = tt
  frame_here P k x Machine.first = pair_here x (λ a b. Machine.next v H w c k (Machine.back a)) (λ a b. tt)
  frame_here P k x Machine.second = pair_here x (λ a b. Machine.next v H w c k (Machine.back b)) (λ a b. tt)
  frame_here P k x (Machine.to_compare a y z ρ) = tt
  frame_here P k x (Machine.compared a y z ρ) = number_here a (λ m. Machine.when_number x (λ n. Machine.next v H w c k (Machine.eval (cond (ltb m n) y z) ρ))) (λ m. number_here x (λ n. Machine.next v H w c k (Machine.eval (cond (ltb m n) y z) ρ)) (λ n. tt))
  frame_here P k x (Machine.setting g) = number_here x (λ n. Machine.gate_set v H w c k g n (entry v.gates w g)) (λ n. gate_here k g n (entry v.gates w g))

  back_here : (P : Program) (x : Machine.Value) (k : Machine.Continuation) → Here w (Machine.back_step v H w c P x k)
  back_here P x Machine.finish = tt
  back_here P x Machine.abort = tt
  back_here P x (Machine.return s d) = resume_here s (Machine.back x) (entry H.kept s d)
  back_here P x (Machine.push f k) = frame_here P k x f

step_here : (P : Program) (v : Works) (M : Machine.State) → Here (Machine.stands_at M) (Machine.step P v M)
step_here P v (Machine.state H w k (Machine.eval p ρ) c) = eval_here v H w c k p ρ (get_elem? P.terms p)
step_here P v (Machine.state H w k (Machine.back u) c) = back_here v H w c P u k

-- A silent register that a step meets is of the site where work stands.
pub silent_here : (P : Program) (v : Works) (M : Machine.State) (κ : Instrument) (s n : ℕ) → Machine.step P v M ≡ Machine.silent κ s n → s ≡ Machine.stands_at M
silent_here P v M κ s n e = subst (Here (Machine.stands_at M)) e (step_here P v M)
