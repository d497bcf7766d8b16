-- Judging a term part by part.
use Rattle.std.proofs.Common.{◌≡◌, ℕ, zero, suc, ◌+◌, ◌-◌, ◌<◌, ◌≤◌, Bool, true, false, cond, ltb, List, [], ◌∷◌, ◌++◌, map, length, get_or, take, IsErrAnd, Option, Some, None, Ok, Err, vec_items, Result, sym, refl, ap, ◌∙◌, subst, ⊎_elim, arith, ltb-false, ltb-true}
use mathlib.Core.Option.{some, none as nothing}
use lib.ListN.{get_elem?}
use native.Mathlib.Decide.{dec_lt}
use Rattle.std.specs.List.{slice_get}
use Rattle.std.proofs.lemmas.Option.{slice_get-get_or}
use Rattle.std.proofs.lemmas.Result.{err_from_is_err_and}
use Rattle.std.proofs.lemmas.Bool.{cases_lt}
use Rattle.std.proofs.Math.ListN.{get_or-append}
use Rattle.std.proofs.lemmas.List.{get_or_push, length_push, length-map, take-take, take_all, take-append-le}
use Rattle.lines.specs.declared.refusal.CheckFault.{CheckFault}
use Rattle.instruments.specs.declared.sheet.Station.{Station}
use Rattle.instruments.specs.Sheets.{stations_of}
use Rattle.syntax.specs.declared.program.Ty.{Ty as TypeRow}
use Rattle.syntax.specs.declared.program.Ty.TheVariants as Row
use Rattle.syntax.specs.declared.program.Term.{Term as TermRow}
use Rattle.syntax.specs.declared.program.Term.TheVariants as Term
use Rattle.syntax.specs.Sound.{TermSound, Inside}
use Rattle.calculus.specs.Types.{Ty, World, site, bound}
use Rattle.calculus.specs.Typing.{Known}
use Rattle.calculus.specs.Program.{Program, grow_type, AboveType, Sorted, type_of, level}
use Rattle.lines.specs.declared.refusal.CheckFault.TheVariants.{Mismatch, BoundWorld, NotOnSheet}
use Rattle.calculus.specs.Checker.{Checked, refused, need, when_site, expecting, Judge, judge}
use Rattle.checker.specs.Comparing.{alike}
use Rattle.calculus.proofs.Decoding.{judge_recurs}
use Rattle.checker.specs.declared.context.At.{At}
use Rattle.checker.specs.declared.context.At.TheVariants.{Site, Level}
use Rattle.checker.specs.declared.context.Bound.{Bound}
use Rattle.checker.specs.Lookups.{innermost, Stands, registered}
use Rattle.checker.proofs.Counts.{level_in, level_out}
use Rattle.checker.specs.declared.context.Height.{Height}
use Rattle.checker.specs.declared.spot.Spot.{Spot}
use Rattle.checker.specs.declared.context.Context.{Context}
use Rattle.checker.specs.TypeTable.{Below, Given, Laid}
use Rattle.checker.specs.Scopes.{rows_of, meaning_of, context_of, world_of}
use Rattle.checker.specs.Judging.{checked_program, with_parts, size, SoundTerms, EachBelow, Ready, Asks, AsksRow, verdict, row_verdict, Grown, Typed, Answers, Judged, Judges, JudgesRow, Fits, Held, Same, Built, held}
use Rattle.checker.proofs.Table.{getElem_getD, grow_below, meaning_at, meaning_written}
use Rattle.checker.proofs.Rows.{sound_sorted, size_at}
use Rattle.checker.proofs.Verdicts.{program_kept, context_kept, ready_kept, keeps, more_rows, alike_same, alike_goes, unlike_stops, needs_met}

-- nothing happened yet
pub same_self : (c : Context) → Same c c
same_self c = record { height = refl; kept = record { values = refl; continuations = refl; written = refl } }

pub grown_none : (c : Context) → Ready c → Grown c 0 c
grown_none c r = record { laid = r.laid; front = take_all (length (rows_of c)) (rows_of c) (omega arith); few = omega arith }

-- one thing after another
pub same_then : {c d e : Context} → Same c d → Same d e → Same c e
same_then {c} {d} {e} p q =
    record {
      height = q.height ∙ p.height;
      kept = record {
        values = subst (λ (h : Height). take h.values (vec_items e.values) ≡ take h.values (vec_items d.values)) p.height q.kept.values ∙ p.kept.values;
        continuations = subst (λ (h : Height). take h.continuations (vec_items e.continuations) ≡ take h.continuations (vec_items d.continuations)) p.height q.kept.continuations ∙ p.kept.continuations;
        written = q.kept.written ∙ p.kept.written;
      };
    }

pub grown_then : {c d e : Context} {m n : ℕ} → Ready c → Grown c m d → Same c d → Grown d n e → Grown c (m + n) e
grown_then {c} {d} {e} {m} {n} r g s h =
    let l : length (rows_of c) ≤ length (rows_of d) = more_rows r g s in
    record {
      laid = h.laid;
      front = sym (take-take (length (rows_of c)) (length (rows_of d)) (rows_of e) l) ∙ ap (take (length (rows_of c))) h.front ∙ g.front;
      few = omega (arith, g.few, h.few);
    }

pub grown_more : {c d : Context} {m n : ℕ} → m ≤ n → Grown c m d → Grown c n d
grown_more {c} {d} {m} {n} l g = record { laid = g.laid; front = g.front; few = omega (arith, g.few) }

-- what is asked of a part follows from what is asked of the whole
pub next_part : {c d : Context} {terms : List TermRow} {term more : ℕ} → Asks c terms term → Grown c more d → Same c d → (part : ℕ) → Inside (term + 1) (length terms) part → more + size terms part ≤ size terms term → Asks d terms part
next_part {c} {d} {terms} {term} {more} a g s part i z =
    let w : d.written ≡ c.written = s.kept.written in
    record {
      ready = ready_kept a.ready g s;
      sound = subst (λ n. SoundTerms n terms) (sym w) a.sound;
      within = i.1;
      short = a.short;
      room = omega (arith, g.few, a.room, w);
      few = omega (arith, a.few, w);
      values = omega (arith, a.values, i.0, ap (λ (h : Height). h.values) s.height);
      worlds = omega (arith, a.worlds, i.0, ap (λ (h : Height). h.worlds) s.height);
      continuations = omega (arith, a.continuations, i.0, ap (λ (h : Height). h.continuations) s.height);
    }

-- the parts of the row of a term are terms, and the term has one more than they have
pub row_sound : {c : Context} {terms : List TermRow} {term : ℕ} → Asks c terms term → (row : TermRow) → get_or terms term (Term.Num 0) ≡ row → TermSound c.written (term + 1) (length terms) row
row_sound {c} {terms} {term} a row e = subst (TermSound c.written (term + 1) (length terms)) e (a.sound term a.within)

pub row_parts : {c : Context} {s : Spot} {row : TermRow} → AsksRow c s row → TermSound c.written (s.term + 1) (length s.setting.now.terms.now) row
row_parts {c} {s} {row} q = row_sound q.asks row q.row

pub verdict_kept : {c d : Context} {more : ℕ} → Ready c → Grown c more d → Same c d → (stations : List Station) (terms : List TermRow) (part : ℕ) (w : At) → verdict d stations terms part w ≡ verdict c stations terms part w
verdict_kept {c} {d} {more} r g s stations terms part w =
    ap (λ (P : Program). judge P part (context_of d) (world_of w)) (program_kept r g s stations terms)
    ∙ ap (λ x. judge (checked_program c stations terms) part x (world_of w)) (context_kept r g s)

-- the row of a term gives its verdict
pub row_judged : {c : Context} {terms : List TermRow} {term : ℕ} → Asks c terms term → (stations : List Station) (row : TermRow) (w : At) → get_or terms term (Term.Num 0) ≡ row → verdict c stations terms term w ≡ row_verdict c stations terms term row w
row_judged {c} {terms} {term} a stations row w e =
    ap (λ (j : Judge). j (context_of c) (world_of w))
    (judge_recurs (checked_program c stations terms) (record { terms = sound_sorted c.written terms a.sound; types = a.ready.laid.ordered }) term row
    (getElem_getD terms term (Term.Num 0) a.within ∙ ap (λ (x : TermRow). some x) e))

pub row_size : {c : Context} {terms : List TermRow} {term : ℕ} → Asks c terms term → (row : TermRow) → get_or terms term (Term.Num 0) ≡ row → size terms term ≡ with_parts (size terms) row
row_size {c} {terms} {term} a row e = size_at c.written terms a.sound term row a.within e

pub row_sizes : {c : Context} {s : Spot} {row : TermRow} → AsksRow c s row → size s.setting.now.terms.now s.term ≡ with_parts (size s.setting.now.terms.now) row
row_sizes {c} {s} {row} q = row_size q.asks row q.row

-- what is asked of the first part of a term
pub first_part : {c : Context} {s : Spot} {row : TermRow} → AsksRow c s row → (part : ℕ) → Inside (s.term + 1) (length s.setting.now.terms.now) part → size s.setting.now.terms.now part ≤ size s.setting.now.terms.now s.term → Asks c s.setting.now.terms.now part
first_part {c} {s} {row} q part i z = next_part q.asks (grown_none c q.asks.ready) (same_self c) part i (omega arith)

-- a refusal ends it
pub stops : {c d : Context} {v : Checked} {r : Result ℕ CheckFault} {more : ℕ} (e : CheckFault) → IsErrAnd r (λ y. y ≡ e) → v ≡ refused e → Judged c v r more d
stops {c} {d} {v} {r} {more} e by q =
    let p = err_from_is_err_and r by in
    subst (λ (x : Result ℕ CheckFault). Judged c v x more d) (sym (p.1 ∙ ap (λ (y : CheckFault). Err y) p.2)) (record { answer = q })

-- a built type
laid_pushed : (w : ℕ) (rows : List TypeRow) (row : TypeRow) → Laid w rows → Below (length rows) row → Given w row → Laid w (rows ++ row ∷ [])
laid_pushed w rows row l b g =
    record {
      some = omega (arith, l.some, length_push rows row);
      ordered = subst (Sorted AboveType 0) (sym (take-append-le w rows (row ∷ []) l.some)) l.ordered;
      written = λ n r h e. l.written n r h (sym (get_or-append rows (row ∷ []) Row.Num n (omega (arith, l.some))) ∙ e);
      built = λ n r k h e. ⊎_elim
          (λ (q : n < length rows). l.built n r k q (sym (get_or-append rows (row ∷ []) Row.Num n q) ∙ e))
          (λ (q : length rows ≤ n).
          let z : n ≡ length rows = omega (arith, length_push rows row) in
          subst (Below n) (sym (get_or_push rows row Row.Num n (sym z)) ∙ e) (subst (λ m. Below m row) (sym z) b))
          (cases_lt n (length rows));
      given = λ n r h e. ⊎_elim
          (λ (q : n < length rows). l.given n r q (sym (get_or-append rows (row ∷ []) Row.Num n q) ∙ e))
          (λ (q : length rows ≤ n).
          let z : n ≡ length rows = omega (arith, length_push rows row) in
          subst (Given w) (sym (get_or_push rows row Row.Num n (sym z)) ∙ e) g)
          (cases_lt n (length rows));
    }

module _ {c d : Context} {row : TypeRow} {n : ℕ} (r : Ready c) (b : Below (length (rows_of c)) row) (g : Given c.written row) (h : Built c row n d) where
  pub built_grown : Grown c 1 d
  built_grown =
      record {
        laid = subst (λ w. Laid w (rows_of d)) (sym h.same.kept.written) (subst (Laid c.written) (sym h.rows) (laid_pushed c.written (rows_of c) row r.laid b g));
        front = ap (take (length (rows_of c))) h.rows ∙ take-append-le (length (rows_of c)) (rows_of c) (row ∷ []) (omega arith) ∙ take_all (length (rows_of c)) (rows_of c) (omega arith);
        few = omega (arith, ap length h.rows, length_push (rows_of c) row);
      }

  pub built_number : n < length (rows_of d)
  built_number = omega (arith, h.number, ap length h.rows, length_push (rows_of c) row)

  pub built_is : meaning_of d n ≡ grow_type (meaning_of c) row
  built_is =
      meaning_at d.written (rows_of d) built_grown.laid n row built_number (ap (λ (x : List TypeRow). get_or x n Row.Num) h.rows ∙ get_or_push (rows_of c) row Row.Num n (sym h.number))
      ∙ grow_below (meaning_of d) (meaning_of c) (length (rows_of c)) row b (keeps r built_grown h.same)

-- holding a part to a type
held_yes : (b : Bool) (p : ℕ) (u : Unit {0}) → ◌≡◌ {A = Result (Unit {0}) CheckFault} (cond b (Ok tt) (Err (Mismatch p))) (Ok u) → b ≡ true
held_yes true p u e = refl
held_yes false p u e = let z : ◌≡◌ {A = ℕ} 0 1 = cc in absurd (omega arith)

held_no : (b : Bool) (p : ℕ) (f : CheckFault) → ◌≡◌ {A = Result (Unit {0}) CheckFault} (cond b (Ok tt) (Err (Mismatch p))) (Err f) → (b ≡ false) × (f ≡ Mismatch p)
held_no true p f e = let z : ◌≡◌ {A = ℕ} 0 1 = cc in absurd (omega arith)
held_no false p f e = (refl, cc)

module _ {c d : Context} {v : Checked} {n more : ℕ} (part : ℕ) (A : Ty) (t : Typed c v n more d) where
  pub fits : alike (meaning_of d n) A ≡ true → Fits c v A part n more d
  fits e =
      let same : meaning_of d n ≡ A = alike_same (meaning_of d n) A e in
      record {
        number = t.number;
        is = same;
        goes = λ k. ap (λ x. expecting part x A k) t.verdict ∙ alike_goes (meaning_of d n) A (Mismatch part) k e;
        grown = t.grown;
      }

  pub unfit : alike (meaning_of d n) A ≡ false → (k : Checked) → expecting part v A k ≡ refused (Mismatch part)
  unfit e k = ap (λ x. expecting part x A k) t.verdict ∙ unlike_stops (meaning_of d n) A (Mismatch part) k e

  pub held_fits : (B : Ty) (u : Unit {0}) → B ≡ A → held (meaning_of d n) B part ≡ Ok u → Fits c v A part n more d
  held_fits B u q e = fits (ap (alike (meaning_of d n)) (sym q) ∙ held_yes (alike (meaning_of d n) B) part u e)

  pub held_unfit : (B : Ty) (f : CheckFault) → B ≡ A → held (meaning_of d n) B part ≡ Err f → (k : Checked) → expecting part v A k ≡ refused f
  held_unfit B f q e k =
      let p = held_no (alike (meaning_of d n) B) part f e in
      unfit (ap (alike (meaning_of d n)) (sym q) ∙ p.0) k ∙ ap refused (sym p.1)

-- a refusal of a held part ends it
pub stops_held : {c d : Context} {v : Checked} {A : Ty} {part : ℕ} {r : Result ℕ CheckFault} {more : ℕ} (e : CheckFault) → IsErrAnd r (λ y. y ≡ e) → ((k : Checked) → expecting part v A k ≡ refused e) → Held c v A part r more d
stops_held {c} {d} {v} {A} {part} {r} {more} e by q =
    let p = err_from_is_err_and r by in
    subst (λ (x : Result ℕ CheckFault). Held c v A part x more d) (sym (p.1 ∙ ap (λ (y : CheckFault). Err y) p.2)) (record { answer = q })

-- the verdict on a term by its row
pub by_row : {c d : Context} {s : Spot} {w : At} {row : TermRow} {r : Result ℕ CheckFault} → Asks c s.setting.now.terms.now s.term → get_or s.setting.now.terms.now s.term (Term.Num 0) ≡ row → JudgesRow c s row w r d → Judges c s w r d
by_row {c} {d} {s} {w} {row} {r} a e j =
    record {
      judged = subst (λ (x : Checked). Judged c x r (size s.setting.now.terms.now s.term) d) (sym (row_judged a (stations_of s.setting.now.sheet.now) row w e)) j.judged;
      same = j.same;
    }

-- a written type stands for what it stands for in the text
pub written_is : (c : Context) → Ready c → (stations : List Station) (terms : List TermRow) (t : ℕ) → t < c.written → type_of (checked_program c stations terms) t ≡ meaning_of c t
written_is c r stations terms t h = sym (meaning_written c.written (rows_of c) r.laid.some t h)

-- a world that stands is known
pub stands_known : (stations : List Station) (n : ℕ) (u : World) → Stands (length stations) n u → Known stations n u
stands_known stations n (site s) h = h
stands_known stations n (bound k) h = h

-- a register that is fitted goes on
fitted_goes : (b : Bool) (m n p : ℕ) (u : Unit {0}) (k : Checked) → b ≡ ltb n m → ◌≡◌ {A = Result (Unit {0}) CheckFault} (cond b (Ok tt) (Err (NotOnSheet p))) (Ok u) → need (dec_lt n m) (NotOnSheet p) k ≡ k
fitted_goes true m n p u k q e = needs_met (dec_lt n m) (NotOnSheet p) k (ltb-true n m (sym q))
fitted_goes false m n p u k q e = let z : ◌≡◌ {A = ℕ} 0 1 = cc in absurd (omega arith)

pub registered_goes : (f : ℕ → ℕ) (w : World) (n p : ℕ) (u : Unit {0}) (k : Checked) → registered f w n p ≡ Ok u → when_site w (BoundWorld p) (λ s. need (dec_lt n (f s)) (NotOnSheet p) k) ≡ k
registered_goes f (site s) n p u k e = fitted_goes (ltb n (f s)) (f s) n p u k refl e
registered_goes f (bound j) n p u k e = let z : ◌≡◌ {A = ℕ} 0 1 = cc in absurd (omega arith)

-- what is bound, by counts
get_elem_map : (f : Bound → Ty × World) (bs : List Bound) (n : ℕ) (b : Bound) → slice_get bs n ≡ Some b → get_elem? (map f bs) n ≡ some (f b)
get_elem_map f [] n b e = let z : ◌≡◌ {A = ℕ} 0 1 = cc in absurd (omega arith)
get_elem_map f (x ∷ bs) zero b e = let q : x ≡ b = cc in ap (λ y. some (f y)) q
get_elem_map f (x ∷ bs) (suc n) b e = get_elem_map f bs n b e

getElem_past : {X : Type 0} (xs : List X) (n : ℕ) → length xs ≤ n → get_elem? xs n ≡ nothing
getElem_past [] n h = refl
getElem_past (x ∷ xs) zero h = absurd (omega arith)
getElem_past (x ∷ xs) (suc n) h = getElem_past xs n (omega arith)

innermost_in : (b : Bool) (bs : List Bound) (i : ℕ) (x : Bound) → b ≡ ltb i (length bs) → cond b (slice_get bs (length bs - 1 - i)) None ≡ Some x → (i < length bs) × (slice_get bs (length bs - 1 - i) ≡ Some x)
innermost_in true bs i x q e = (ltb-true i (length bs) (sym q), e)
innermost_in false bs i x q e = let z : ◌≡◌ {A = ℕ} 0 1 = cc in absurd (omega arith)

innermost_out : (b : Bool) (bs : List Bound) (i : ℕ) → b ≡ ltb i (length bs) → cond b (slice_get bs (length bs - 1 - i)) None ≡ None → length bs ≤ i
innermost_out true bs i q e =
    let l = ltb-true i (length bs) (sym q) in
    let d : Bound = record { ty = 0; world = Site 0 } in
    let f = slice_get-get_or bs (length bs - 1 - i) d (omega arith) in
    let z : ◌≡◌ {A = ℕ} 0 1 = cc in absurd (omega arith)
innermost_out false bs i q e = ltb-false i (length bs) (sym q)

pub found : {us bs : List Bound} (i : ℕ) {r x : Option Bound} → us ≡ bs → r ≡ innermost us i → r ≡ x → innermost bs i ≡ x
found {us} {bs} i q e f = ap (λ (l : List Bound). innermost l i) (sym q) ∙ sym e ∙ f

pub looked : (f : Bound → Ty × World) (bs : List Bound) (i : ℕ) (x : Bound) → innermost bs i ≡ Some x → get_elem? (map f bs) (level (length (map f bs)) i) ≡ some (f x)
looked f bs i x e =
    let p = innermost_in (ltb i (length bs)) bs i x refl e in
    ap (λ n. get_elem? (map f bs) (level n i)) (length-map bs f) ∙ ap (get_elem? (map f bs)) (level_in (length bs) i p.0) ∙ get_elem_map f bs (length bs - 1 - i) x p.1

pub not_looked : (f : Bound → Ty × World) (bs : List Bound) (i : ℕ) → innermost bs i ≡ None → get_elem? (map f bs) (level (length (map f bs)) i) ≡ nothing
not_looked f bs i e =
    let l = innermost_out (ltb i (length bs)) bs i refl e in
    ap (get_elem? (map f bs)) (level_out (length (map f bs)) i (omega (arith, length-map bs f))) ∙ getElem_past (map f bs) (length (map f bs)) (omega arith)

each_nth : (n k : ℕ) (bs : List Bound) (b : Bound) → EachBelow n bs → slice_get bs k ≡ Some b → b.ty < n
each_nth n k [] b h e = let z : ◌≡◌ {A = ℕ} 0 1 = cc in absurd (omega arith)
each_nth n zero (x ∷ bs) b h e = let q : x ≡ b = cc in subst (λ (y : Bound). y.ty < n) q h.0
each_nth n (suc k) (x ∷ bs) b h e = each_nth n k bs b h.1 e

pub looked_below : (n : ℕ) (bs : List Bound) (i : ℕ) (x : Bound) → EachBelow n bs → innermost bs i ≡ Some x → x.ty < n
looked_below n bs i x h e = each_nth n (length bs - 1 - i) bs x h (innermost_in (ltb i (length bs)) bs i x refl e).1

-- worlds by their places
pub place_other : (a b : At) → (a ≡ b → ⊥) → world_of a ≡ world_of b → ⊥
place_other (Site s) (Site u) n q = let e : s ≡ u = cc in n (ap (λ x. Site x) e)
place_other (Site s) (Level k) n q = let z : ◌≡◌ {A = ℕ} 0 1 = cc in omega arith
place_other (Level k) (Site s) n q = let z : ◌≡◌ {A = ℕ} 0 1 = cc in omega arith
place_other (Level j) (Level k) n q = let e : j ≡ k = cc in n (ap (λ x. Level x) e)

grown_at : {b e : Context} {n : ℕ} (d : Context) → rows_of b ≡ rows_of d → Grown b n e → Grown d n e
grown_at {b} {e} {n} d q g =
    record {
      laid = g.laid;
      front = subst (λ (x : List TypeRow). take (length x) (rows_of e) ≡ x) q g.front;
      few = omega (arith, g.few, ap length q);
    }

-- what is judged inside binders that follow a part
answers_from : (c d b e : Context) (m n more : ℕ) (v u : Checked) (x : Result ℕ CheckFault) → Ready c → Grown c m d → Same c d → rows_of b ≡ rows_of d → u ≡ v → m + n ≤ more → Answers b v x n e → Answers c u x more e
answers_from c d b e m n more v u (Ok k) r g s q o l a =
    record {
      number = a.number;
      verdict = o ∙ a.verdict;
      grown = grown_more l (grown_then r g s (grown_at d q a.grown));
    }
answers_from c d b e m n more v u (Err f) r g s q o l a = o ∙ a

pub judged_from : (c d b : Context) {m n more : ℕ} {v u : Checked} {x : Result ℕ CheckFault} {e : Context} → Ready c → Grown c m d → Same c d → rows_of b ≡ rows_of d → u ≡ v → m + n ≤ more → Judged b v x n e → Judged c u x more e
judged_from c d b {m} {n} {more} {v} {u} {x} {e} r g s q o l j = record { answer = answers_from c d b e m n more v u x r g s q o l j.answer }
