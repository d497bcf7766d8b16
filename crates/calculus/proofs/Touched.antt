-- The registers that a run touched.
use Rattle.std.proofs.Common.{◌≡◌, ℕ, Bool, true, false, cond, ◌&&◌, ◌||◌, T, eqb, List, [], ◌∷◌, ◌++◌, refl, ap, ◌∙◌, eqb→eq, eq-eqb}
use mathlib.Core.Path.{subst⁻¹}
use Rattle.calculus.specs.Step.{Instrument, a_gauge, a_gate, Event, quiet, looked, was_read, was_set}
use Rattle.calculus.specs.Run.{Register, register, same_kind, same_register, is_among, marked, touched_by, touches, Distinct, TouchedOnce}
use Rattle.calculus.proofs.Tables.{clash}

or_assoc : (a b c : Bool) → ((a || b) || c) ≡ (a || (b || c))
or_assoc true b c = refl
or_assoc false b c = refl

pub or_comm : (a b : Bool) → (a || b) ≡ (b || a)
or_comm true true = refl
or_comm true false = refl
or_comm false true = refl
or_comm false false = refl

kind_same : (a b : Instrument) → same_kind a b ≡ true → a ≡ b
kind_same a_gauge a_gauge e = refl
kind_same a_gauge a_gate e = clash (cc)
kind_same a_gate a_gauge e = clash (cc)
kind_same a_gate a_gate e = refl

both_hold : (a b : Bool) → (a && b) ≡ true → (a ≡ true) × (b ≡ true)
both_hold true b e = (refl, e)
both_hold false b e = clash (cc)

numbers_same : (m n : ℕ) → eqb m n ≡ true → m ≡ n
numbers_same m n e = eqb→eq m n (subst⁻¹ T e tt)

pub register_same : (r q : Register) → same_register r q ≡ true → r ≡ q
register_same (register κ s n) (register μ a b) e =
    let x = both_hold (same_kind κ μ) (eqb s a && eqb n b) e in
    let y = both_hold (eqb s a) (eqb n b) x.1 in
    λ i. register (kind_same κ μ x.0 i) (numbers_same s a y.0 i) (numbers_same n b y.1 i)

-- a register is the same as itself
pub same_self : (r : Register) → same_register r r ≡ true
same_self (register a_gauge s n) = rw (eq-eqb s s refl, eq-eqb n n refl) refl
same_self (register a_gate s n) = rw (eq-eqb s s refl, eq-eqb n n refl) refl

-- one register more, unless it is there
pub among_marked : (r q : Register) (qs : List Register) → is_among r (marked q qs) ≡ (is_among r qs || same_register r q)
among_marked r q qs = by (is_among q qs) refl
  where
    again : (b : Bool) → same_register r q ≡ b → is_among q qs ≡ true → is_among r qs ≡ (is_among r qs || b)
    again false e h = or_comm false (is_among r qs)
    again true e h = let z : is_among r qs ≡ true = ap (λ (x : Register). is_among x qs) (register_same r q e) ∙ h in rw z refl

    by : (b : Bool) → is_among q qs ≡ b → is_among r (cond b qs (q ∷ qs)) ≡ (is_among r qs || same_register r q)
    by true e = again (same_register r q) refl e
    by false e = or_comm (same_register r q) (is_among r qs)

marked_once : (q : Register) (qs : List Register) → Distinct qs → Distinct (marked q qs)
marked_once q qs d = by (is_among q qs) refl
  where
    by : (b : Bool) → is_among q qs ≡ b → Distinct (cond b qs (q ∷ qs))
    by true e = d
    by false e = (e, d)

pub among : (r : Register) (es : List Event) (qs : List Register) → is_among r (touched_by es qs) ≡ (is_among r qs || touches r es)
among r [] qs = or_comm false (is_among r qs)
among r (quiet ∷ es) qs = among r es qs
among r (looked a b c ∷ es) qs = among r es qs
among r (was_read s g c ∷ es) qs =
    among r es (marked (register a_gauge s g) qs) ∙ ap (λ (b : Bool). b || touches r es) (among_marked r (register a_gauge s g) qs) ∙
    or_assoc (is_among r qs) (same_register r (register a_gauge s g)) (touches r es)
among r (was_set s g x c ∷ es) qs =
    among r es (marked (register a_gate s g) qs) ∙ ap (λ (b : Bool). b || touches r es) (among_marked r (register a_gate s g) qs) ∙
    or_assoc (is_among r qs) (same_register r (register a_gate s g)) (touches r es)

pub once : (es : List Event) (qs : List Register) → Distinct qs → Distinct (touched_by es qs)
once [] qs d = d
once (quiet ∷ es) qs d = once es qs d
once (looked a b c ∷ es) qs d = once es qs d
once (was_read s g c ∷ es) qs d = once es (marked (register a_gauge s g) qs) (marked_once (register a_gauge s g) qs d)
once (was_set s g x c ∷ es) qs d = once es (marked (register a_gate s g) qs) (marked_once (register a_gate s g) qs d)

pub touched_once : TouchedOnce
touched_once es qs = (λ r. among r es qs, once es qs)

-- runs in a row touch what each of them touches
pub touched_in_a_row : (es fs : List Event) (qs : List Register) → touched_by (es ++ fs) qs ≡ touched_by fs (touched_by es qs)
touched_in_a_row [] fs qs = refl
touched_in_a_row (quiet ∷ es) fs qs = touched_in_a_row es fs qs
touched_in_a_row (looked a b c ∷ es) fs qs = touched_in_a_row es fs qs
touched_in_a_row (was_read s g c ∷ es) fs qs = touched_in_a_row es fs (marked (register a_gauge s g) qs)
touched_in_a_row (was_set s g x c ∷ es) fs qs = touched_in_a_row es fs (marked (register a_gate s g) qs)
