-- Judging a term step by step: how far it went, and what is left of its verdict.
use Rattle.std.proofs.Common.{◌≡◌, ℕ, ◌+◌, ◌<◌, ◌≤◌, List, length, Ok, sym, refl, ap, ◌∙◌, subst, arith}
use Rattle.lines.specs.declared.refusal.CheckFault.{CheckFault}
use Rattle.lines.specs.declared.refusal.CheckFault.TheVariants.{Unbound}
use Rattle.instruments.specs.declared.sheet.Station.{Station}
use Rattle.syntax.specs.declared.program.Ty.{Ty as TypeRow}
use Rattle.syntax.specs.declared.program.World.{World as WorldRow}
use Rattle.instruments.specs.Sheets.{stations_of}
use Rattle.syntax.specs.declared.program.Term.{Term as TermRow}
use Rattle.syntax.specs.Sound.{Inside}
use Rattle.calculus.specs.Types.{Ty, World}
use Rattle.calculus.specs.Typing.{Context as Around, binding_value, binding_continuation}
use Rattle.calculus.specs.Program.{Program, type_of, grow_type, world_there}
use Rattle.calculus.specs.Checker.{Checked, typed, refused, then_type, need, is_known, expecting, judge}
use Rattle.checker.specs.declared.context.At.{At}
use Rattle.checker.specs.declared.context.Bound.{Bound}
use Rattle.checker.specs.declared.context.Context.{Context}
use Rattle.checker.specs.declared.spot.Spot.{Spot}
use Rattle.checker.specs.TypeTable.{Below, Given}
use Rattle.checker.specs.Lookups.{Located}
use Rattle.checker.specs.Scopes.{rows_of, meaning_of, context_of, world_of, BoundValue, BoundContinuation}
use Rattle.checker.specs.Judging.{Ready, Grown, Same, Asks, AsksRow, Typed, Fits, Built, checked_program, size, verdict, row_verdict}
use Rattle.checker.proofs.Arms.{same_self, same_then, grown_none, grown_then, grown_more, next_part, verdict_kept, written_is, built_grown, built_number, built_is, stands_known}
use Rattle.checker.proofs.Binders.{grown_from, same_program, value_context, continuation_context}
use Rattle.checker.proofs.Verdicts.{keeps, more_rows, ready_kept, needs_met}

-- judging what has verdict v in c went as far as d, and u is left of the verdict
pub record Went (c : Context) (v : Checked) (more : ℕ) (d : Context) (u : Checked) : Type 0 where
  pub grown : Grown c more d
  pub same : Same c d
  pub left : v ≡ u

pub begun : {c : Context} {s : Spot} {row : TermRow} → AsksRow c s row → (w : At) → Went c (row_verdict c (stations_of s.setting.now.sheet.now) s.setting.now.terms.now s.term row w) 0 c (row_verdict c (stations_of s.setting.now.sheet.now) s.setting.now.terms.now s.term row w)
begun {c} q w = record { grown = grown_none c q.asks.ready; same = same_self c; left = refl }

-- the verdict on a part of the term at a spot
abbrev pub part_verdict : Context → Spot → ℕ → At → Checked
part_verdict c s part w = verdict c (stations_of s.setting.now.sheet.now) s.setting.now.terms.now part w

module _ {c d : Context} {v : Checked} {m : ℕ} (r : Ready c) (s : Spot) (part : ℕ) (w : At) where
  -- a part was judged
  pub judged_next : {e : Context} {x n : ℕ} (k : Ty → Checked) → Went c v m d (then_type (part_verdict c s part w) k) → Typed d (part_verdict d s part w) x n e → Same d e → Went c v (m + n) e (k (meaning_of e x))
  judged_next {e} {x} {n} k g t q =
      record {
        grown = grown_then r g.grown g.same t.grown;
        same = same_then g.same q;
        left = g.left ∙ ap (λ (y : Checked). then_type y k) (sym (verdict_kept r g.grown g.same (stations_of s.setting.now.sheet.now) s.setting.now.terms.now part w) ∙ t.verdict);
      }

  pub judged_stops : {f : CheckFault} (k : Ty → Checked) → Went c v m d (then_type (part_verdict c s part w) k) → part_verdict d s part w ≡ refused f → v ≡ refused f
  judged_stops {f} k g t = g.left ∙ ap (λ (y : Checked). then_type y k) (sym (verdict_kept r g.grown g.same (stations_of s.setting.now.sheet.now) s.setting.now.terms.now part w) ∙ t)

  -- a part was held to the type that it needs
  pub held_next : {e : Context} {x n : ℕ} {A B : Ty} {k : Checked} → Went c v m d (expecting part (part_verdict c s part w) A k) → Fits d (part_verdict d s part w) B part x n e → B ≡ A → Same d e → Went c v (m + n) e k
  held_next {e} {x} {n} {A} {B} {k} g t b q =
      record {
        grown = grown_then r g.grown g.same t.grown;
        same = same_then g.same q;
        left = g.left ∙ ap (λ (y : Checked). expecting part y A k) (sym (verdict_kept r g.grown g.same (stations_of s.setting.now.sheet.now) s.setting.now.terms.now part w))
            ∙ subst (λ (P : Ty). expecting part (part_verdict d s part w) P k ≡ k) b (t.goes k);
      }

  pub held_stops : {A B : Ty} {f : CheckFault} (k : Checked) → Went c v m d (expecting part (part_verdict c s part w) A k) → ((j : Checked) → expecting part (part_verdict d s part w) B j ≡ refused f) → B ≡ A → v ≡ refused f
  held_stops {A} {B} {f} k g t b =
      g.left ∙ ap (λ (y : Checked). expecting part y A k) (sym (verdict_kept r g.grown g.same (stations_of s.setting.now.sheet.now) s.setting.now.terms.now part w))
      ∙ subst (λ (P : Ty). expecting part (part_verdict d s part w) P k ≡ refused f) b (t k)

-- nothing is left but a type of the table
pub finished : {c d : Context} {v : Checked} {A : Ty} {m more n : ℕ} → Went c v m d (typed A) → n < length (rows_of d) → meaning_of d n ≡ A → m ≤ more → Typed c v n more d
finished {c} {d} {v} {A} {m} {more} {n} g h e l = record { number = h; verdict = g.left ∙ ap typed (sym e); grown = grown_more l g.grown }

-- what is asked of the next part
pub asked_next : {c d : Context} {s : Spot} {row : TermRow} {v u : Checked} {m : ℕ} → AsksRow c s row → Went c v m d u → (part : ℕ) → Inside (s.term + 1) (length s.setting.now.terms.now) part → m + size s.setting.now.terms.now part ≤ size s.setting.now.terms.now s.term → Asks d s.setting.now.terms.now part
asked_next {c} {d} {s} {row} {v} {u} {m} q g part i l = next_part q.asks g.grown g.same part i (omega arith)

-- a written type stands for what it stood for
pub written_stays : {c d : Context} {v u : Checked} {m : ℕ} → Ready c → Went c v m d u → (s : Spot) (t : ℕ) → t < c.written → meaning_of d t ≡ type_of (checked_program c (stations_of s.setting.now.sheet.now) s.setting.now.terms.now) t
written_stays {c} {d} {v} {u} {m} r g s t l =
    keeps r g.grown g.same t (omega (arith, r.laid.some)) ∙ sym (written_is c r (stations_of s.setting.now.sheet.now) s.setting.now.terms.now t l)

pub written_in : {c d : Context} {v u : Checked} {m : ℕ} → Ready c → Went c v m d u → (t : ℕ) → t < c.written → (t < d.written) × (t < length (rows_of d))
written_in {c} {d} {v} {u} {m} r g t l = (omega (arith, g.same.kept.written), omega (arith, r.laid.some, more_rows r g.grown g.same))

-- what is left computes on
pub onwards : {c d : Context} {v u w : Checked} {m : ℕ} → Went c v m d u → v ≡ w → Went c v m d w
onwards {c} {d} {v} {u} {w} {m} g e = record { grown = g.grown; same = g.same; left = e }

-- a number of the table stands for what it stood for
pub stays_on : {c d e : Context} {v u : Checked} {m n : ℕ} → Ready c → Went c v m d u → Grown d n e → Same d e → (x : ℕ) → x < length (rows_of d) → (x < length (rows_of e)) × (meaning_of e x ≡ meaning_of d x)
stays_on {c} {d} {e} {v} {u} {m} {n} r g h q x l =
    let rd = ready_kept r g.grown g.same in
    (omega (arith, more_rows rd h q), keeps rd h q x l)

-- nothing is left but to build the type
pub built_last : {c d e : Context} {v : Checked} {A : Ty} {row : TypeRow} {m more n : ℕ} → Ready c → Went c v m d (typed A) → Below (length (rows_of d)) row → Given d.written row → Built d row n e → grow_type (meaning_of d) row ≡ A → m + 1 ≤ more → Typed c v n more e
built_last {c} {d} {e} {v} {A} {row} {m} {more} {n} r g b w h q l =
    let rd = ready_kept r g.grown g.same in
    record {
      number = built_number rd b w h;
      verdict = g.left ∙ ap typed (sym q) ∙ ap typed (sym (built_is rd b w h));
      grown = grown_more l (grown_then r g.grown g.same (built_grown rd b w h));
    }

-- the world that a term names is known
pub located : (S : List Station) (n : ℕ) (there : WorldRow) (term : ℕ) (a : At) (k : World → Checked) → Located (length S) n there term (Ok a) → need (is_known S n (world_there n there)) (Unbound term) (k (world_there n there)) ≡ k (world_of a)
located S n there term a k h =
    needs_met (is_known S n (world_there n there)) (Unbound term) (k (world_there n there)) (stands_known S n (world_there n there) h.1) ∙ ap k (sym h.0)

-- the verdict on a body, where b binds more than c
pub body_verdict : (c b : Context) {Γ : Around} (s : Spot) (body : ℕ) (w : At) → rows_of b ≡ rows_of c → b.written ≡ c.written → context_of b ≡ Γ → judge (checked_program c (stations_of s.setting.now.sheet.now) s.setting.now.terms.now) body Γ (world_of w) ≡ part_verdict b s body w
body_verdict c b {Γ} s body w rows written e =
    ap (λ (x : Around). judge (checked_program c (stations_of s.setting.now.sheet.now) s.setting.now.terms.now) body x (world_of w)) (sym e)
    ∙ ap (λ (p : Program). judge p body (context_of b) (world_of w)) (sym (same_program c b rows written (stations_of s.setting.now.sheet.now) s.setting.now.terms.now))

-- what is bound has the type that is written
pub value_written : {c d : Context} {b : Bound} → Ready c → BoundValue c d b → (s : Spot) → b.ty < c.written → context_of d ≡ binding_value (context_of c) (type_of (checked_program c (stations_of s.setting.now.sheet.now) s.setting.now.terms.now) b.ty) (world_of b.world)
value_written {c} {d} {b} r h s l = value_context h ∙ ap (λ (P : Ty). binding_value (context_of c) P (world_of b.world)) (sym (written_is c r (stations_of s.setting.now.sheet.now) s.setting.now.terms.now b.ty l))

pub continuation_written : {c d : Context} {b : Bound} → Ready c → BoundContinuation c d b → (s : Spot) → b.ty < c.written → context_of d ≡ binding_continuation (context_of c) (type_of (checked_program c (stations_of s.setting.now.sheet.now) s.setting.now.terms.now) b.ty) (world_of b.world)
continuation_written {c} {d} {b} r h s l = continuation_context h ∙ ap (λ (P : Ty). binding_continuation (context_of c) P (world_of b.world)) (sym (written_is c r (stations_of s.setting.now.sheet.now) s.setting.now.terms.now b.ty l))

-- a body with verdict V in b was judged, and its scope has ended
module _ {c b e : Context} {v U V : Checked} (rows : rows_of b ≡ rows_of c) (o : U ≡ V) (q : Same c e) where
  pub body_next : {x n : ℕ} (k : Ty → Checked) → Went c v 0 c (then_type U k) → Typed b V x n e → Went c v n e (k (meaning_of e x))
  body_next k g t = record { grown = grown_from c rows t.grown; same = q; left = g.left ∙ ap (λ (y : Checked). then_type y k) (o ∙ t.verdict) }

  pub body_held : {x n part : ℕ} {A : Ty} {k : Checked} → Went c v 0 c (expecting part U A k) → Fits b V A part x n e → Went c v n e k
  body_held {x} {n} {part} {A} {k} g t = record { grown = grown_from c rows t.grown; same = q; left = g.left ∙ ap (λ (y : Checked). expecting part y A k) o ∙ t.goes k }

pub body_stops : {c : Context} {v U V : Checked} {f : CheckFault} (k : Ty → Checked) → U ≡ V → Went c v 0 c (then_type U k) → V ≡ refused f → v ≡ refused f
body_stops k o g t = g.left ∙ ap (λ (y : Checked). then_type y k) (o ∙ t)

pub body_unheld : {c : Context} {v U V : Checked} {f : CheckFault} (part : ℕ) (A : Ty) (k : Checked) → U ≡ V → Went c v 0 c (expecting part U A k) → ((j : Checked) → expecting part V A j ≡ refused f) → v ≡ refused f
body_unheld part A k o g t = g.left ∙ ap (λ (y : Checked). expecting part y A k) o ∙ t k

-- a written type stands for what it stood for after the body
pub written_still : {c b e : Context} {n : ℕ} → Ready c → rows_of b ≡ rows_of c → Grown b n e → Same c e → (s : Spot) (t : ℕ) → t < c.written → meaning_of e t ≡ type_of (checked_program c (stations_of s.setting.now.sheet.now) s.setting.now.terms.now) t
written_still {c} {b} {e} {n} r rows g q s t l =
    keeps r (grown_from c rows g) q t (omega (arith, r.laid.some)) ∙ sym (written_is c r (stations_of s.setting.now.sheet.now) s.setting.now.terms.now t l)
