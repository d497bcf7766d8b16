-- From one part of a term to the next: what a scope list stands for while types are added.
use Rattle.std.proofs.Common.{◌≡◌, ℕ, ◌<◌, ◌≤◌, Bool, true, false, ◌&&◌, List, [], ◌∷◌, ◌++◌, map, length, get_or, take, drop, vec_items, sym, refl, ap, ◌∙◌, subst, arith, length-append}
use Rattle.std.proofs.lemmas.List.{take-append-drop, take-append-le, drop-append-le}
use Rattle.lines.specs.declared.refusal.CheckFault.{CheckFault}
use Rattle.instruments.specs.declared.sheet.Station.{Station}
use Rattle.syntax.specs.declared.program.Ty.{Ty as TypeRow}
use Rattle.syntax.specs.declared.program.Term.{Term as TermRow}
use Rattle.calculus.specs.Types.{Ty, num, none, fn, box, at, both, same_type}
use Rattle.calculus.specs.Checker.{Checked, refused, need}
use Rattle.checker.specs.declared.context.Bound.{Bound}
use Rattle.checker.specs.declared.context.Context.{Context}
use Rattle.checker.specs.TypeTable.{written_types, built_types, meaning}
use Rattle.checker.specs.Comparing.{alike}
use Rattle.checker.specs.Scopes.{values_of, continuations_of, rows_of, meaning_of, context_of, world_of, bound_of, around}
use Rattle.checker.specs.Judging.{checked_program, EachBelow, Ready, Grown, Same}
use Rattle.checker.proofs.Table.{built_append, built_keeps, length_meant}

-- alike types are the same type
alike_self : (A : Ty) → alike A A ≡ true
alike_self num = refl
alike_self none = refl
alike_self (fn A B) = rw (alike_self A, alike_self B)
alike_self (box A) = alike_self A
alike_self (at A) = alike_self A
alike_self (both A B) = rw (alike_self A, alike_self B)

clash : ◌≡◌ {A = Bool} false true → ⊥
clash e = let z : ◌≡◌ {A = ℕ} 0 1 = cc in omega arith

and_both : (a b : Bool) → a && b ≡ true → (a ≡ true) × (b ≡ true)
and_both true b e = (refl, e)
and_both false b e = absurd (clash e)

pub alike_same : (A B : Ty) → alike A B ≡ true → A ≡ B
alike_same num num e = refl
alike_same num none e = absurd (clash e)
alike_same num (fn C D) e = absurd (clash e)
alike_same num (box C) e = absurd (clash e)
alike_same num (at C) e = absurd (clash e)
alike_same num (both C D) e = absurd (clash e)
alike_same none num e = absurd (clash e)
alike_same none none e = refl
alike_same none (fn C D) e = absurd (clash e)
alike_same none (box C) e = absurd (clash e)
alike_same none (at C) e = absurd (clash e)
alike_same none (both C D) e = absurd (clash e)
alike_same (fn A B) num e = absurd (clash e)
alike_same (fn A B) none e = absurd (clash e)
alike_same (fn A B) (fn C D) e = let p = and_both (alike A C) (alike B D) e in λ i. fn (alike_same A C p.0 i) (alike_same B D p.1 i)
alike_same (fn A B) (box C) e = absurd (clash e)
alike_same (fn A B) (at C) e = absurd (clash e)
alike_same (fn A B) (both C D) e = absurd (clash e)
alike_same (box A) num e = absurd (clash e)
alike_same (box A) none e = absurd (clash e)
alike_same (box A) (fn C D) e = absurd (clash e)
alike_same (box A) (box C) e = ap box (alike_same A C e)
alike_same (box A) (at C) e = absurd (clash e)
alike_same (box A) (both C D) e = absurd (clash e)
alike_same (at A) num e = absurd (clash e)
alike_same (at A) none e = absurd (clash e)
alike_same (at A) (fn C D) e = absurd (clash e)
alike_same (at A) (box C) e = absurd (clash e)
alike_same (at A) (at C) e = ap at (alike_same A C e)
alike_same (at A) (both C D) e = absurd (clash e)
alike_same (both A B) num e = absurd (clash e)
alike_same (both A B) none e = absurd (clash e)
alike_same (both A B) (fn C D) e = absurd (clash e)
alike_same (both A B) (box C) e = absurd (clash e)
alike_same (both A B) (at C) e = absurd (clash e)
alike_same (both A B) (both C D) e = let p = and_both (alike A C) (alike B D) e in λ i. both (alike_same A C p.0 i) (alike_same B D p.1 i)

need_yes : {P : Type 0} (d : Dec P) (e : CheckFault) (k : Checked) → P → need d e k ≡ k
need_yes (yes h) e k p = refl
need_yes (no h) e k p = absurd (h p)

need_no : {P : Type 0} (d : Dec P) (e : CheckFault) (k : Checked) → (P → ⊥) → need d e k ≡ refused e
need_no (yes h) e k n = absurd (n h)
need_no (no h) e k n = refl

pub needs_met : {P : Type 0} (d : Dec P) (e : CheckFault) (k : Checked) → P → need d e k ≡ k
needs_met d e k p = need_yes d e k p

pub needs_unmet : {P : Type 0} (d : Dec P) (e : CheckFault) (k : Checked) → (P → ⊥) → need d e k ≡ refused e
needs_unmet d e k n = need_no d e k n

-- a part of a type that is alike goes on, and another is refused
pub alike_goes : (A B : Ty) (e : CheckFault) (k : Checked) → alike A B ≡ true → need (same_type A B) e k ≡ k
alike_goes A B e k h = need_yes (same_type A B) e k (alike_same A B h)

pub unlike_stops : (A B : Ty) (e : CheckFault) (k : Checked) → alike A B ≡ false → need (same_type A B) e k ≡ refused e
unlike_stops A B e k h = need_no (same_type A B) e k (λ q. clash (sym h ∙ ap (λ x. alike A x) (sym q) ∙ alike_self A))

-- a table that grows keeps what its numbers stand for
module _ (w : ℕ) (rows more : List TypeRow) (s : w ≤ length rows) (f : take (length rows) more ≡ rows) where
  longer : more ≡ rows ++ drop (length rows) more
  longer = sym (take-append-drop (length rows) more) ∙ ap (λ (x : List TypeRow). x ++ drop (length rows) more) f

  pub written_kept : take w more ≡ take w rows
  written_kept = ap (take w) longer ∙ take-append-le w rows (drop (length rows) more) s

  pub meaning_kept : (n : ℕ) → n < length rows → meaning w more n ≡ meaning w rows n
  meaning_kept n h =
      ap (λ (x : List TypeRow). get_or (built_types (written_types x) (drop w more)) n num) written_kept
      ∙ ap (λ (x : List TypeRow). get_or (built_types (written_types (take w rows)) x) n num) (ap (drop w) longer ∙ drop-append-le w rows (drop (length rows) more) s)
      ∙ ap (λ (x : List Ty). get_or x n num) (built_append (written_types (take w rows)) (drop w rows) (drop (length rows) more))
      ∙ built_keeps (built_types (written_types (take w rows)) (drop w rows)) (drop (length rows) more) n (omega (arith, length_meant w rows s))

  pub longer_length : length rows ≤ length more
  longer_length = omega (arith, ap length longer, length-append rows (drop (length rows) more))

each_same : (M N : ℕ → Ty) (n : ℕ) (bs : List Bound) → ((k : ℕ) → k < n → M k ≡ N k) → EachBelow n bs → map (bound_of M) bs ≡ map (bound_of N) bs
each_same M N n [] h e = refl
each_same M N n (b ∷ bs) h e = λ i. (h b.ty e.0 i, world_of b.world) ∷ each_same M N n bs h e.1 i

each_wider : (n m : ℕ) (bs : List Bound) → n ≤ m → EachBelow n bs → EachBelow m bs
each_wider n m [] h e = tt
each_wider n m (b ∷ bs) h e = (omega (arith, e.0), each_wider n m bs h e.1)

-- after a part was judged, the scope list stands for what it stood for
module _ {c d : Context} {more : ℕ} (ready : Ready c) (grown : Grown c more d) (same : Same c d) where
  same_written : d.written ≡ c.written
  same_written = same.kept.written

  pub same_values : values_of d ≡ values_of c
  same_values = ap (λ h. take h.values (vec_items d.values)) same.height ∙ same.kept.values

  pub same_continuations : continuations_of d ≡ continuations_of c
  same_continuations = ap (λ h. take h.continuations (vec_items d.continuations)) same.height ∙ same.kept.continuations

  pub keeps : (n : ℕ) → n < length (rows_of c) → meaning_of d n ≡ meaning_of c n
  keeps n h = ap (λ w. meaning w (rows_of d) n) same_written ∙ meaning_kept c.written (rows_of c) (rows_of d) ready.laid.some grown.front n h

  pub more_rows : length (rows_of c) ≤ length (rows_of d)
  more_rows = longer_length c.written (rows_of c) (rows_of d) ready.laid.some grown.front

  pub program_kept : (stations : List Station) (terms : List TermRow) → checked_program d stations terms ≡ checked_program c stations terms
  program_kept stations terms =
      ap (λ (x : List TypeRow). record { sheet = stations; types = x; terms = terms; start = 0 })
      (ap (λ w. take w (rows_of d)) same_written ∙ written_kept c.written (rows_of c) (rows_of d) ready.laid.some grown.front)

  pub context_kept : context_of d ≡ context_of c
  context_kept =
      ap (λ (vs : List Bound). around (meaning_of d) vs d.height.worlds (continuations_of d)) same_values
      ∙ ap (λ (ks : List Bound). around (meaning_of d) (values_of c) d.height.worlds ks) same_continuations
      ∙ ap (λ h. around (meaning_of d) (values_of c) h.worlds (continuations_of c)) same.height
      ∙ ap (λ x. record { values = x; worlds = c.height.worlds; continuations = map (bound_of (meaning_of d)) (continuations_of c) }) (each_same (meaning_of d) (meaning_of c) (length (rows_of c)) (values_of c) keeps ready.values)
      ∙ ap (λ x. record { values = map (bound_of (meaning_of c)) (values_of c); worlds = c.height.worlds; continuations = x })
      (each_same (meaning_of d) (meaning_of c) (length (rows_of c)) (continuations_of c) keeps (each_wider c.written (length (rows_of c)) (continuations_of c) ready.laid.some ready.continuations))

  pub ready_kept : Ready d
  ready_kept =
      record {
        laid = grown.laid;
        values = subst (EachBelow (length (rows_of d))) (sym same_values) (each_wider (length (rows_of c)) (length (rows_of d)) (values_of c) more_rows ready.values);
        continuations = subst (EachBelow d.written) (sym same_continuations) (subst (λ w. EachBelow w (continuations_of c)) (sym same_written) ready.continuations);
      }
