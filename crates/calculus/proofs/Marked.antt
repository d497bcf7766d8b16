-- A machine that holds marks says and does what the one that holds the list says and does.
use Rattle.std.proofs.Common.{◌≡◌, ℕ, ◌+◌, List, [], ◌∷◌, length, sym, refl, ap, ◌∙◌, subst}
use mathlib.Core.Path.{subst⁻¹}
use mathlib.Core.Option.{Option, some, none as nothing}
use Rattle.calculus.specs.Machine
use Rattle.calculus.specs.Step.{Works, Event}
use Rattle.calculus.specs.Run.{Ending, done, spent, at_silent, at_full, broken, Result, execute, joined, then_run, Register, stand_of}
use Rattle.calculus.specs.Calls.{Started, sheet_of, differing, another_sheet, run_unless, says, start_of, Line, ran, stood, answered, place_after, answer_of}
use Rattle.calculus.specs.Marks.{Marks, marks_after, marks_set, Tells}
use Rattle.calculus.specs.Marked.{Marked, start_marked, with_marks, marks_unless, MarkedCall, marked_call, run_marked, marked_after_steps, then_marked, telling, marked_after, marked_log, place_log, Alike, SaysAlike, OnLimits, PlaceOnLimits, LineAlike, MarksLaw, MarkedJoin}
use Rattle.calculus.proofs.Sheets.{sheet_stays, run_fitted}
use Rattle.calculus.proofs.Joining.{runs_join, answer_more}
use Rattle.calculus.proofs.Works.{no_differing}
use Rattle.calculus.proofs.Marks.{marks_all, no_mark, marks_in_a_row}

stands : (M : Machine.State) (ms : Marks) (qs : List Register) → marks_set ms ≡ length qs → telling (marks_set ms) (says (stand_of M [])) ≡ says (stand_of M qs)
stands (Machine.state H w k p c) ms qs e = ap (λ n. telling n (says (stand_of (Machine.state H w k p c) []))) e

-- the machine with this list in the place of its marks
abbrev listing : Marked → List Register → Started
listing m qs = record { program = m.program; state = m.state; touched = qs }

module _ (m : Marked) (qs : List Register) (t : Tells m.marks qs) where
  answers : (v : Works) (b : ℕ) (o : Option ℕ) → (run_unless o (listing m []) v b).answer ≡ (run_unless o (listing m qs) v b).answer
  answers v b nothing = refl
  answers v b (some s) = refl

  leaves : (v : Works) (b : ℕ) (o : Option ℕ) → (run_unless o (listing m []) v b).works ≡ (run_unless o (listing m qs) v b).works
  leaves v b nothing = refl
  leaves v b (some s) = refl

  says_so : SaysAlike (some (listing m qs)) (some m)
  says_so = record {
    alike = (refl, refl, t);
    stand = stands m.state m.marks qs t.many;
    answer = refl;
    runs = λ v b. let o = differing m.program.sheet (sheet_of v) in (answers v b o, leaves v b o);
  }

  module _ (few : OnLimits m.program.sheet) where
    -- what is said of the places after a line
    abbrev Stays : Option Started → Option Marked → Type 0
    Stays p q = Alike p q × PlaceOnLimits q

    ran_alike : (v : Works) (b : ℕ) (o : Option ℕ) → differing m.program.sheet (sheet_of v) ≡ o →
        Stays (run_unless o (listing m qs) v b).place (with_marks (marks_unless o m v b) (run_unless o (listing m []) v b).place)
    ran_alike v b nothing e =
        let P = m.program in
        let h = run_fitted P b v m.state (subst OnLimits (no_differing 0 P.sheet (sheet_of v) e) few) in
        ((refl, refl, marks_all (execute P b v m.state).events h m.marks qs t), few)
    ran_alike v b (some s) e = ((refl, refl, t), few)

    one_line : (l : Line) → Stays (place_after (some (listing m qs)) l) (marked_after (some m) l)
    one_line (ran v b) = ran_alike v b (differing m.program.sheet (sheet_of v)) refl
    one_line stood = ((refl, refl, t), few)
    one_line answered = ((refl, refl, t), few)

    all_so : (l : Line) → SaysAlike (some (listing m qs)) (some m) × Alike (place_after (some (listing m qs)) l) (marked_after (some m) l) × PlaceOnLimits (marked_after (some m) l)
    all_so l = let x = one_line l in (says_so, x.0, x.1)

nothing_says : SaysAlike nothing nothing
nothing_says = record { alike = tt; stand = refl; answer = refl; runs = λ v b. (refl, refl) }

same_listed : (k : Started) (m : Marked) → k.program ≡ m.program → k.state ≡ m.state → k ≡ listing m k.touched
same_listed k m p q = λ i. record { program = p i; state = q i; touched = k.touched }

pub line_alike : LineAlike
line_alike nothing nothing a f (ran v b) = (nothing_says, tt, tt)
line_alike nothing nothing a f stood = (nothing_says, tt, tt)
line_alike nothing nothing a f answered = (nothing_says, tt, tt)
line_alike nothing (some m) a f l = absurd a
line_alike (some k) nothing a f l = absurd a
line_alike (some k) (some m) a f l =
    subst⁻¹
    (λ (j : Started). SaysAlike (some j) (some m) × Alike (place_after (some j) l) (marked_after (some m) l) × PlaceOnLimits (marked_after (some m) l))
    (same_listed k m a.0 a.1)
    (all_so m k.touched a.2 f l)

-- whatever lines follow
log_alike : (p : Option Started) (q : Option Marked) → Alike p q → PlaceOnLimits q → (log : List Line) → SaysAlike (place_log p log) (marked_log q log)
log_alike p q a f [] = (line_alike p q a f stood).0
log_alike p q a f (l ∷ ls) = let x = line_alike p q a f l in log_alike (place_after p l) (marked_after q l) x.1 x.2 ls

pub marks_law : MarksLaw
marks_law P few log = log_alike (some (start_of P)) (some (start_marked P)) (refl, refl, no_mark) few log

-- a run that was not refused
abbrev pub marked_to : Marked → Result → MarkedCall
marked_to s r = record { answer = answer_of r.ending r.steps; place = some (record { program = s.program; state = r.end; marks = marks_after r.events s.marks }); works = r.works }

-- a run, by whether the sheets differ
abbrev unless : Option ℕ → Marked → Works → ℕ → MarkedCall
unless o s v b = marked_call (marks_unless o s v b) (run_unless o (listing s []) v b)

-- a run on a works of the program's sheet
pub run_same : (s : Marked) (v : Works) (b : ℕ) → differing s.program.sheet (sheet_of v) ≡ nothing → run_marked (some s) v b ≡ marked_to s (execute s.program b v s.state)
run_same s v b e = ap (λ (o : Option ℕ). unless o s v b) e

-- a run on a works of another sheet, which is refused and changes nothing
pub run_other : (s : Marked) (v : Works) (b h : ℕ) → differing s.program.sheet (sheet_of v) ≡ some h → run_marked (some s) v b ≡ record { answer = another_sheet h; place = some s; works = v }
run_other s v b h e = ap (λ (o : Option ℕ). unless o s v b) e

-- budgets
module _ (s : Marked) (m : ℕ) where
  again : (r : Result) → differing s.program.sheet (sheet_of r.works) ≡ nothing →
      marked_to s (joined r (execute s.program m r.works r.end)) ≡ marked_after_steps r.steps (run_marked (marked_to s r).place r.works m)
  again r e =
      let P = s.program in
      let q = execute P m r.works r.end in
      let k : Marked = record { program = P; state = r.end; marks = marks_after r.events s.marks } in
      let a = answer_more r.steps q.steps q.ending in
      let t = marks_in_a_row r.events q.events s.marks in
      let j : marked_to s (joined r q) ≡ marked_after_steps r.steps (marked_to k q) = λ i. record { answer = a i; place = some (record { program = P; state = q.end; marks = t i }); works = q.works } in
      j ∙ ap (λ (o : Option ℕ). marked_after_steps r.steps (unless o k r.works m)) (sym e)

  by_ending : (x : Ending) (n : ℕ) (es : List Event) (u : Works) (L : Machine.State) → differing s.program.sheet (sheet_of u) ≡ nothing →
      marked_to s (then_run s.program m (record { ending = x; steps = n; events = es; works = u; end = L })) ≡ then_marked m (marked_to s (record { ending = x; steps = n; events = es; works = u; end = L }))
  by_ending done n es u L e = refl
  by_ending spent n es u L e = again (record { ending = spent; steps = n; events = es; works = u; end = L }) e
  by_ending (at_silent κ w g) n es u L e = refl
  by_ending (at_full κ w) n es u L e = refl
  by_ending broken n es u L e = refl

  by_sheet : (v : Works) (n : ℕ) (o : Option ℕ) → differing s.program.sheet (sheet_of v) ≡ o → unless o s v (n + m) ≡ then_marked m (unless o s v n)
  by_sheet v n nothing e =
      let P = s.program in
      let r = execute P n v s.state in
      ap (marked_to s) (runs_join P n m v s.state) ∙
      by_ending r.ending r.steps r.events r.works r.end (ap (differing P.sheet) (sheet_stays P n v s.state) ∙ e)
  by_sheet v n (some h) e = refl

pub marked_join : MarkedJoin
marked_join nothing v n m = refl
marked_join (some s) v n m = by_sheet s m v n (differing s.program.sheet (sheet_of v)) refl
