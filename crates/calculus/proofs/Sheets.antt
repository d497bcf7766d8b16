-- Steps and runs leave the sheet of the works, and read and set only registers that it shows.
use Rattle.std.proofs.Common.{◌≡◌, ℕ, zero, suc, cond, ltb, List, [], ◌∷◌, length, Some, None, Option as Shows, refl, ap, ◌∙◌, ◌<◌, ◌≤◌, subst, suc-le-suc, zero-le, not-suc-le-zero, arith, length-set}
use mathlib.Core.Path.{subst⁻¹}
use mathlib.Core.Option.{Option, some, none as nothing, none-ne-some}
use lib.ListN.{get_elem?}
use Rattle.syntax.specs.declared.program.Term.TheVariants as Row
use Rattle.syntax.specs.declared.program.Term.{Term as TermRow}
use Rattle.calculus.specs.Machine
use Rattle.calculus.specs.Types.{Sheet, gauges_there, gates_there}
use Rattle.calculus.specs.Tables.{Table, row, entry, count, put}
use Rattle.calculus.specs.Step.{Works, Event, quiet, looked, was_read, was_set}
use Rattle.calculus.specs.Program.{Program, body_of}
use Rattle.calculus.specs.Run.{execute}
use Rattle.calculus.specs.Calls.{sheet_from, sheet_of}
use Rattle.calculus.specs.Marks.{Fitted}
use Rattle.calculus.specs.Marked.{OnLimits}
use Rattle.calculus.proofs.Works.{sheet_agrees}
use Rattle.calculus.proofs.Executing.{execute_counts}

-- a set gate leaves the sheet
put_sheet : (q t : Table (Shows ℕ)) (s g : ℕ) (a : Shows ℕ) → sheet_from q (put t s g a) ≡ sheet_from q t
put_sheet [] [] s g a = refl
put_sheet [] (r ∷ t) zero g a = ap (λ (n : ℕ). record { gauges = 0; gates = n } ∷ sheet_from [] t) (length-set r g a)
put_sheet [] (r ∷ t) (suc s) g a = ap {B = Sheet} (λ (S : Sheet). record { gauges = 0; gates = length r } ∷ S) (put_sheet [] t s g a)
put_sheet (x ∷ q) [] s g a = refl
put_sheet (x ∷ q) (r ∷ t) zero g a = ap (λ (n : ℕ). record { gauges = length x; gates = n } ∷ sheet_from q t) (length-set r g a)
put_sheet (x ∷ q) (r ∷ t) (suc s) g a = ap {B = Sheet} (λ (S : Sheet). record { gauges = length x; gates = length r } ∷ S) (put_sheet q t s g a)

-- a register that a step read or set is there
abbrev pub Shown : Works → Event → Type 0
Shown v quiet = Unit {0}
Shown v (looked a b c) = Unit {0}
Shown v (was_read s g c) = (x : Shows ℕ) × (entry v.gauges s g ≡ some x)
Shown v (was_set s g x c) = (y : Shows ℕ) × (entry v.gates s g ≡ some y)

-- every step leaves the sheet of the works
module _ (v : Works) (H : Machine.Sites) (w : ℕ) (c : Machine.Places) where
  abbrev Leaves : Machine.Outcome → Type 0
  Leaves (Machine.stepped L u e) = (sheet_of u ≡ sheet_of v) × Shown v e
  Leaves (Machine.silent κ s n) = Unit {0}
  Leaves Machine.stuck = Unit {0}

  number_leaves : (u : Machine.Value) (f : ℕ → Machine.Outcome) → ((n : ℕ) → Leaves (f n)) → Leaves (Machine.when_number u f)
  number_leaves (Machine.number n) f h = h n
  number_leaves (Machine.function p ρ) f h = tt
  number_leaves (Machine.code p ρ) f h = tt
  number_leaves (Machine.address s l) f h = tt
  number_leaves (Machine.pair a b) f h = tt

  function_leaves : (u : Machine.Value) (f : ℕ → Machine.Environment → Machine.Outcome) → ((p : ℕ) (ρ : Machine.Environment) → Leaves (f p ρ)) → Leaves (Machine.when_function u f)
  function_leaves (Machine.number n) f h = tt
  function_leaves (Machine.function p ρ) f h = h p ρ
  function_leaves (Machine.code p ρ) f h = tt
  function_leaves (Machine.address s l) f h = tt
  function_leaves (Machine.pair a b) f h = tt

  code_leaves : (u : Machine.Value) (f : ℕ → Machine.Environment → Machine.Outcome) → ((p : ℕ) (ρ : Machine.Environment) → Leaves (f p ρ)) → Leaves (Machine.when_code u f)
  code_leaves (Machine.number n) f h = tt
  code_leaves (Machine.function p ρ) f h = tt
  code_leaves (Machine.code p ρ) f h = h p ρ
  code_leaves (Machine.address s l) f h = tt
  code_leaves (Machine.pair a b) f h = tt

  address_leaves : (u : Machine.Value) (f : ℕ → ℕ → Machine.Outcome) → ((s l : ℕ) → Leaves (f s l)) → Leaves (Machine.when_address u f)
  address_leaves (Machine.number n) f h = tt
  address_leaves (Machine.function p ρ) f h = tt
  address_leaves (Machine.code p ρ) f h = tt
  address_leaves (Machine.address s l) f h = h s l
  address_leaves (Machine.pair a b) f h = tt

  pair_leaves : (u : Machine.Value) (f : Machine.Value → Machine.Value → Machine.Outcome) → ((a b : Machine.Value) → Leaves (f a b)) → Leaves (Machine.when_pair u f)
  pair_leaves (Machine.number n) f h = tt
  pair_leaves (Machine.function p ρ) f h = tt
  pair_leaves (Machine.code p ρ) f h = tt
  pair_leaves (Machine.address s l) f h = tt
  pair_leaves (Machine.pair a b) f h = h a b

  stand_leaves : (o : Option ℕ) (f : ℕ → Machine.Outcome) → ((s : ℕ) → Leaves (f s)) → Leaves (Machine.stand_at o f)
  stand_leaves nothing f h = tt
  stand_leaves (some s) f h = h s

  looked_leaves : (k : Machine.Continuation) (s l : ℕ) (o : Option Machine.Value) → Leaves (Machine.looked_up v H w c k s l o)
  looked_leaves k s l nothing = tt
  looked_leaves k s l (some u) = (refl, tt)

  value_leaves : (k : Machine.Continuation) (x : Machine.Found) → Leaves (Machine.value_step v H w c k x)
  value_leaves k (Machine.a_value u) = (refl, tt)
  value_leaves k (Machine.a_label s l) = looked_leaves k s l (entry H.published w l)
  value_leaves k Machine.unbound = tt

  gauge_leaves : (k : Machine.Continuation) (n : ℕ) (o : Option (Shows ℕ)) → entry v.gauges w n ≡ o → Leaves (Machine.gauge_shows v H w c k n o)
  gauge_leaves k n nothing e = tt
  gauge_leaves k n (some None) e = tt
  gauge_leaves k n (some (Some x)) e = (refl, (Some x, e))

  gate_leaves : (k : Machine.Continuation) (n x : ℕ) (o : Option (Shows ℕ)) → entry v.gates w n ≡ o → Leaves (Machine.gate_set v H w c k n x o)
  gate_leaves k n x nothing e = tt
  gate_leaves k n x (some None) e = tt
  gate_leaves k n x (some (Some y)) e = (put_sheet v.gauges v.gates w n (Some x), (Some y, e))

  resume_leaves : (s : ℕ) (p : Machine.Phase) (o : Option Machine.Continuation) → Leaves (Machine.resume v H w c s p o)
  resume_leaves s p nothing = tt
  resume_leaves s p (some k) = (refl, tt)

  throw_leaves : (ρ : Machine.Environment) (a : ℕ) (o : Option (ℕ × ℕ)) → Leaves (Machine.thrown v H w c ρ a o)
  throw_leaves ρ a nothing = tt
  throw_leaves ρ a (some t) = resume_leaves t.0 (Machine.eval a ρ) (entry H.kept t.0 t.1)

  row_leaves : (k : Machine.Continuation) (p : ℕ) (ρ : Machine.Environment) (r : TermRow) → Leaves (Machine.row_step v H w c k p ρ r)
  row_leaves k p ρ (Row.Num n) = (refl, tt)
  row_leaves k p ρ (Row.Value i) = value_leaves k (Machine.value_there ρ i)
  row_leaves k p ρ (Row.Lam t b) = (refl, tt)
  row_leaves k p ρ (Row.App a b) = (refl, tt)
  row_leaves k p ρ (Row.Boxed b) = (refl, tt)
  row_leaves k p ρ (Row.Unbox a) = (refl, tt)
  row_leaves k p ρ (Row.Here a) = (refl, tt)
  row_leaves k p ρ (Row.Letd a b) = (refl, tt)
  row_leaves k p ρ (Row.Get f u a) =
      stand_leaves (Machine.site_given ρ u) (λ s. Machine.stepped (Machine.state (Machine.keep H w k) s (Machine.return w (count H.kept w)) (Machine.eval a ρ) c) v quiet) (λ s. (refl, tt))
  row_leaves k p ρ (Row.Pair a b) = (refl, tt)
  row_leaves k p ρ (Row.Fst a) = (refl, tt)
  row_leaves k p ρ (Row.Snd a) = (refl, tt)
  row_leaves k p ρ (Row.Letcc t b) = (refl, tt)
  row_leaves k p ρ (Row.Throw t i a) = throw_leaves ρ a (Machine.continuation_there ρ i)
  row_leaves k p ρ (Row.Go t u a) = stand_leaves (Machine.site_given ρ u) (λ s. Machine.stepped (Machine.state H s Machine.abort (Machine.eval a ρ) c) v quiet) (λ s. (refl, tt))
  row_leaves k p ρ (Row.Gauge n) = gauge_leaves k n (entry v.gauges w n) refl
  row_leaves k p ρ (Row.Gate n a) = (refl, tt)
  row_leaves k p ρ (Row.Below t a b x y) = (refl, tt)

  eval_leaves : (k : Machine.Continuation) (p : ℕ) (ρ : Machine.Environment) (o : Option TermRow) → Leaves (Machine.eval_step v H w c k p ρ o)
  eval_leaves k p ρ nothing = tt
  eval_leaves k p ρ (some r) = row_leaves k p ρ r

  module _ (P : Program) where
    frame_leaves : (k : Machine.Continuation) (u : Machine.Value) (f : Machine.Frame) → Leaves (Machine.frame_step v H w c P k u f)
    frame_leaves k u (Machine.to_apply a ρ) = (refl, tt)
    frame_leaves k u (Machine.applied f) = function_leaves f (λ p ρ. Machine.binding v H w c k (body_of P p) (Machine.value u ρ)) (λ p ρ. (refl, tt))
    frame_leaves k u Machine.unboxing = code_leaves u (λ p ρ. Machine.binding v H w c k (body_of P p) (Machine.world w ρ)) (λ p ρ. (refl, tt))
    frame_leaves k u Machine.publishing = (refl, tt)
    frame_leaves k u (Machine.opening a ρ) =
        address_leaves u (λ s l. Machine.stepped (Machine.state H w k (Machine.eval a (Machine.label s l (Machine.world s ρ))) (Machine.binding_more (Machine.binding_more c))) v quiet) (λ s l. (refl, tt))
    frame_leaves k u (Machine.to_pair a ρ) = (refl, tt)
    frame_leaves k u (Machine.paired a) = (refl, tt)
    frame_leaves k u Machine.first = pair_leaves u (λ a b. Machine.next v H w c k (Machine.back a)) (λ a b. (refl, tt))
    frame_leaves k u Machine.second = pair_leaves u (λ a b. Machine.next v H w c k (Machine.back b)) (λ a b. (refl, tt))
    frame_leaves k u (Machine.to_compare a x y ρ) = (refl, tt)
    frame_leaves k u (Machine.compared a x y ρ) =
        number_leaves a (λ m. Machine.when_number u (λ n. Machine.next v H w c k (Machine.eval (cond (ltb m n) x y) ρ)))
        (λ m. number_leaves u (λ n. Machine.next v H w c k (Machine.eval (cond (ltb m n) x y) ρ)) (λ n. (refl, tt)))
    frame_leaves k u (Machine.setting g) = number_leaves u (λ n. Machine.gate_set v H w c k g n (entry v.gates w g)) (λ n. gate_leaves k g n (entry v.gates w g) refl)

    back_leaves : (u : Machine.Value) (k : Machine.Continuation) → Leaves (Machine.back_step v H w c P u k)
    back_leaves u Machine.finish = tt
    back_leaves u Machine.abort = tt
    back_leaves u (Machine.return s d) = resume_leaves s (Machine.back u) (entry H.kept s d)
    back_leaves u (Machine.push f k) = frame_leaves k u f

step_leaves : (P : Program) (v : Works) (M L : Machine.State) (u : Works) (e : Event) → Machine.step P v M ≡ Machine.stepped L u e → (sheet_of u ≡ sheet_of v) × Shown v e
step_leaves P v (Machine.state H w k (Machine.eval p ρ) c) L u e q = subst (Leaves v H w c) q (eval_leaves v H w c k p ρ (get_elem? P.terms p))
step_leaves P v (Machine.state H w k (Machine.back x) c) L u e q = subst (Leaves v H w c) q (back_leaves v H w c P x k)

run_leaves : (P : Program) {v u : Works} {M L : Machine.State} {n : ℕ} {es : List Event} → Machine.Run P v M n es u L → sheet_of u ≡ sheet_of v
run_leaves P Machine.Run.none = refl
run_leaves P (Machine.Run.more {v = v} {u = u} {M = M} {L = L} {e = e} q r) = run_leaves P r ∙ (step_leaves P v M L u e q).0

-- a run leaves the sheet of the works
pub sheet_stays : (P : Program) (b : ℕ) (v : Works) (M : Machine.State) → sheet_of (execute P b v M).works ≡ sheet_of v
sheet_stays P b v M = run_leaves P (execute_counts P b v M).0

-- a register that is there is one that a works may have
elem_below : {A : Type 0} (r : List A) (l : ℕ) (a : A) → get_elem? r l ≡ some a → l < length r
elem_below [] l a e = absurd (none-ne-some a e)
elem_below (x ∷ r) zero a e = suc-le-suc zero-le
elem_below (x ∷ r) (suc l) a e = suc-le-suc (elem_below r l a e)

gauges_below : (S : Sheet) (s : ℕ) → 0 < gauges_there S s → s < length S
gauges_below [] s h = absurd (not-suc-le-zero h)
gauges_below (h ∷ S) zero l = suc-le-suc zero-le
gauges_below (h ∷ S) (suc s) l = suc-le-suc (gauges_below S s l)

gates_below : (S : Sheet) (s : ℕ) → 0 < gates_there S s → s < length S
gates_below [] s h = absurd (not-suc-le-zero h)
gates_below (h ∷ S) zero l = suc-le-suc zero-le
gates_below (h ∷ S) (suc s) l = suc-le-suc (gates_below S s l)

module _ (v : Works) (few : OnLimits (sheet_of v)) where
  abbrev S : Sheet
  S = sheet_of v

  gauge_fits : (s g : ℕ) (x : Shows ℕ) → entry v.gauges s g ≡ some x → (s < 16) × (g < 32)
  gauge_fits s g x e =
      let b : g < count v.gauges s = elem_below (row v.gauges s) g x e in
      let n : count v.gauges s ≡ gauges_there S s = (sheet_agrees S v refl).gauges s in
      let l : s < length S = gauges_below S s (omega arith) in
      let m = few.0 in
      let k : gauges_there S s ≤ 32 = (few.1 s).0 in
      (omega arith, omega arith)

  gate_fits : (s g : ℕ) (x : Shows ℕ) → entry v.gates s g ≡ some x → (s < 16) × (g < 32)
  gate_fits s g x e =
      let b : g < count v.gates s = elem_below (row v.gates s) g x e in
      let n : count v.gates s ≡ gates_there S s = (sheet_agrees S v refl).gates s in
      let l : s < length S = gates_below S s (omega arith) in
      let m = few.0 in
      let k : gates_there S s ≤ 32 = (few.1 s).1 in
      (omega arith, omega arith)

  fitted_more : (e : Event) (es : List Event) → Shown v e → Fitted es → Fitted (e ∷ es)
  fitted_more quiet es h f = f
  fitted_more (looked a b c) es h f = f
  fitted_more (was_read s g c) es h f = (gauge_fits s g h.0 h.1, f)
  fitted_more (was_set s g x c) es h f = (gate_fits s g h.0 h.1, f)

run_fits : (P : Program) {v u : Works} {M L : Machine.State} {n : ℕ} {es : List Event} → Machine.Run P v M n es u L → OnLimits (sheet_of v) → Fitted es
run_fits P Machine.Run.none o = tt
run_fits P (Machine.Run.more {v = v} {u = u} {M = M} {L = L} {e = e} {es = es} q r) o =
    let x = step_leaves P v M L u e q in
    fitted_more v o e es x.1 (run_fits P r (subst⁻¹ OnLimits x.0 o))

-- a run on a works within the limits reads and sets only registers that a works may have
pub run_fitted : (P : Program) (b : ℕ) (v : Works) (M : Machine.State) → OnLimits (sheet_of v) → Fitted (execute P b v M).events
run_fitted P b v M o = run_fits P (execute_counts P b v M).0 o
