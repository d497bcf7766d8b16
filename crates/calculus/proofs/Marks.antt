-- The marks of the registers touched.
use Rattle.std.proofs.Common.{◌≡◌, ℕ, zero, suc, ◌<◌, Bool, true, false, cond, ◌||◌, ◌≢◌, List, [], ◌∷◌, ◌++◌, length, get_or, set, replicate, sym, refl, ap, ◌∙◌, le_of_suc-le-suc, not-suc-le-zero, arith, length-set, get_or-set_other, get_or-set_same}
use lib.ListN.{length-replicate, get_or-replicate}
use Rattle.calculus.specs.Step.{a_gauge, a_gate, Event, quiet, looked, was_read, was_set}
use Rattle.calculus.specs.Run.{Register, register, same_register, is_among, marked, touched_by}
use Rattle.calculus.specs.Marks.{OnWorks, mark_of, Marks, no_marks, with_mark, marks_after, marks_set, Fitted, Tells, MarksStand}
use Rattle.calculus.proofs.Tables.{clash}
use Rattle.calculus.proofs.Touched.{or_comm, register_same, same_self, among_marked, among, once}

-- registers that a works may have share no mark
pub mark_tells : (r q : Register) → OnWorks r → OnWorks q → mark_of r ≡ mark_of q → r ≡ q
mark_tells (register a_gauge s n) (register a_gauge a b) h k e =
    let x : s ≡ a = omega arith in let y : n ≡ b = omega arith in λ i. register a_gauge (x i) (y i)
mark_tells (register a_gauge s n) (register a_gate a b) h k e = absurd (omega arith)
mark_tells (register a_gate s n) (register a_gauge a b) h k e = absurd (omega arith)
mark_tells (register a_gate s n) (register a_gate a b) h k e =
    let x : s ≡ a = omega arith in let y : n ≡ b = omega arith in λ i. register a_gate (x i) (y i)

-- every such register has a mark
pub mark_below : (r : Register) → OnWorks r → mark_of r < 1024
mark_below (register a_gauge s n) h = omega arith
mark_below (register a_gate s n) h = omega arith

-- a mark more, unless it is set
set_more : (ms : Marks) (i : ℕ) → i < length ms → marks_set (set ms i true) ≡ cond (get_or ms i false) (marks_set ms) (suc (marks_set ms))
set_more [] i h = absurd (not-suc-le-zero h)
set_more (true ∷ ms) zero h = refl
set_more (false ∷ ms) zero h = refl
set_more (true ∷ ms) (suc i) h = by (get_or ms i false) (set_more ms i (le_of_suc-le-suc h))
  where
    by : (b : Bool) → marks_set (set ms i true) ≡ cond b (marks_set ms) (suc (marks_set ms)) → suc (marks_set (set ms i true)) ≡ cond b (suc (marks_set ms)) (suc (suc (marks_set ms)))
    by true e = ap suc e
    by false e = ap suc e
set_more (false ∷ ms) (suc i) h = set_more ms i (le_of_suc-le-suc h)

-- one register more, in both
mark_more : (q : Register) → OnWorks q → (ms : Marks) (qs : List Register) → Tells ms qs → Tells (with_mark q ms) (marked q qs)
mark_more q o ms qs m = record { whole = length-set ms (mark_of q) true ∙ m.whole; each = λ r h. at r h (same_register r q) refl ∙ sym (among_marked r q qs); many = many }
  where
    within : mark_of q < length ms
    within = let l = m.whole in let b = mark_below q o in omega arith

    at : (r : Register) → OnWorks r → (b : Bool) → same_register r q ≡ b → get_or (with_mark q ms) (mark_of r) false ≡ (is_among r qs || same_register r q)
    at r h true e =
        ap (λ (x : Register). get_or (with_mark q ms) (mark_of x) false) (register_same r q e) ∙ get_or-set_same ms (mark_of q) true false within ∙
        or_comm true (is_among r qs) ∙ ap (λ (b : Bool). is_among r qs || b) (sym e)
    at r h false e =
        let apart : mark_of r ≢ mark_of q = λ p. clash (let z = ap (λ (x : Register). same_register x q) (mark_tells r q h o p) in let y = same_self q in cc) in
        get_or-set_other ms (mark_of q) (mark_of r) true false apart ∙ m.each r h ∙ or_comm false (is_among r qs) ∙ ap (λ (b : Bool). is_among r qs || b) (sym e)

    by : (b : Bool) → cond b (marks_set ms) (suc (marks_set ms)) ≡ length (cond b qs (q ∷ qs))
    by true = m.many
    by false = ap suc m.many

    many : marks_set (with_mark q ms) ≡ length (marked q qs)
    many = set_more ms (mark_of q) within ∙ ap (λ (b : Bool). cond b (marks_set ms) (suc (marks_set ms))) (m.each q o) ∙ by (is_among q qs)

-- marks that tell a list tell it after any steps on a works
pub marks_all : (es : List Event) → Fitted es → (ms : Marks) (qs : List Register) → Tells ms qs → Tells (marks_after es ms) (touched_by es qs)
marks_all [] f ms qs m = m
marks_all (quiet ∷ es) f ms qs m = marks_all es f ms qs m
marks_all (looked a b c ∷ es) f ms qs m = marks_all es f ms qs m
marks_all (was_read s g c ∷ es) f ms qs m = marks_all es f.1 _ _ (mark_more (register a_gauge s g) f.0 ms qs m)
marks_all (was_set s g x c ∷ es) f ms qs m = marks_all es f.1 _ _ (mark_more (register a_gate s g) f.0 ms qs m)

none_set : (n : ℕ) → marks_set (replicate n false) ≡ 0
none_set zero = refl
none_set (suc n) = none_set n

-- no mark is set where no register is listed
pub no_mark : Tells no_marks []
unfolding no_marks
no_mark = record { whole = length-replicate 1024 false; each = λ r h. get_or-replicate 1024 (mark_of r) false false (mark_below r h); many = none_set 1024 }

-- marks of runs in a row
pub marks_in_a_row : (es fs : List Event) (ms : Marks) → marks_after (es ++ fs) ms ≡ marks_after fs (marks_after es ms)
marks_in_a_row [] fs ms = refl
marks_in_a_row (quiet ∷ es) fs ms = marks_in_a_row es fs ms
marks_in_a_row (looked a b c ∷ es) fs ms = marks_in_a_row es fs ms
marks_in_a_row (was_read s g c ∷ es) fs ms = marks_in_a_row es fs (with_mark (register a_gauge s g) ms)
marks_in_a_row (was_set s g x c ∷ es) fs ms = marks_in_a_row es fs (with_mark (register a_gate s g) ms)

pub marks_stand : MarksStand
marks_stand =
    (λ es f. let m = marks_all es f no_marks [] no_mark in (λ r h. m.each r h ∙ among r es [], m.many, λ r. among r es [], once es [] tt), marks_in_a_row)
