-- A whole program: what its soundness gives the checker, and what its verdict is.
use Rattle.std.proofs.Common.{◌≡◌, ℕ, suc, ◌+◌, ◌-◌, ◌<◌, List, [], ◌∷◌, length, get_or, take, Ok, Err, vec_items, Result, sym, refl, ap, ◌∙◌, subst, arith}
use native.Mathlib.Decide.{dec_lt}
use Rattle.std.proofs.lemmas.List.{take_all}
use Rattle.lines.specs.declared.refusal.CheckFault.{CheckFault}
use Rattle.lines.specs.declared.refusal.CheckFault.TheVariants.{Unbound}
use Rattle.instruments.specs.declared.sheet.Station.{Station}
use Rattle.syntax.specs.Place.{Tables}
use Rattle.syntax.specs.Sound.{TySound, sizes}
use Rattle.syntax.specs.Sound.{size as syntax_size, with_parts as syntax_parts}
use Rattle.syntax.proofs.Tests.{Tested, test_says}
use Rattle.syntax.specs.declared.program.Ty.{Ty as TypeRow}
use Rattle.syntax.specs.declared.program.Ty.TheVariants as Row
use Rattle.syntax.specs.declared.program.Term.{Term as TermRow}
use Rattle.syntax.specs.declared.program.Term.TheVariants as Term
use Rattle.calculus.specs.Types.{site}
use Rattle.calculus.specs.Typing.{closed}
use Rattle.calculus.specs.Program.{decoded, AboveType, Sorted}
use Rattle.calculus.specs.Checker.{check, judge}
use Rattle.checker.specs.declared.context.At.TheVariants.{Site}
use Rattle.checker.specs.declared.context.Context.{Context}
use Rattle.checker.specs.TypeTable.{Below, Given, Laid}
use Rattle.checker.specs.Scopes.{values_of, continuations_of, rows_of, meaning_of, context_of, around}
use Rattle.checker.specs.Judging.{checked_program, with_parts, size, SoundTerms, EachBelow, Ready, Asks, verdict, Typed, Judged, Same}
use Rattle.checker.specs.Accepting.{program_of}
use Rattle.checker.specs.Concluding.{Sound, Clear, Concluded}
use Rattle.checker.specs.Concluding as Concluding
use Rattle.checker.specs.Judging as Judging
use Rattle.checker.proofs.Verdicts.{needs_met}
use Rattle.checker.proofs.Laying.{sound_below, sound_above, below_given, sorted_from, laid_tests}

-- sizes by either definition
same_parts : (f : ℕ → ℕ) (r : TermRow) → with_parts f r ≡ syntax_parts f r
same_parts f (Term.Num n) = refl
same_parts f (Term.Value n) = refl
same_parts f (Term.Lam t a) = refl
same_parts f (Term.App a b) = refl
same_parts f (Term.Boxed a) = refl
same_parts f (Term.Unbox a) = refl
same_parts f (Term.Here a) = refl
same_parts f (Term.Letd a b) = refl
same_parts f (Term.Get m w a) = refl
same_parts f (Term.Pair a b) = refl
same_parts f (Term.Fst a) = refl
same_parts f (Term.Snd a) = refl
same_parts f (Term.Letcc t a) = refl
same_parts f (Term.Throw t n a) = refl
same_parts f (Term.Go t w a) = refl
same_parts f (Term.Gauge n) = refl
same_parts f (Term.Gate n a) = refl
same_parts f (Term.Below t a b x y) = refl

same_sizes : (k : ℕ) (rows : List TermRow) → decoded (λ k f r. with_parts f r) 0 k rows ≡ sizes k rows
same_sizes k [] = refl
same_sizes k (r ∷ rs) =
    let e = same_sizes (suc k) rs in
    ap (λ (ms : List ℕ). with_parts (λ c. get_or ms (c - suc k) 0) r ∷ ms) e ∙ ap (λ n. n ∷ sizes (suc k) rs) (same_parts (λ c. get_or (sizes (suc k) rs) (c - suc k) 0) r)

same_size : (rows : List TermRow) (n : ℕ) → size rows n ≡ syntax_size rows n
same_size rows n = ap (λ (ms : List ℕ). get_or ms n 0) (same_sizes 0 rows)

-- sound types name parts behind them
pub sorted_types : (high k : ℕ) (rows : List TypeRow) → ((n : ℕ) → n < length rows → TySound (k + n + 1) high (get_or rows n Row.Num)) → Sorted AboveType k rows
sorted_types high k rows h = sorted_from k rows (λ n l. sound_above (k + n) high (get_or rows n Row.Num) (h n l))

-- a table of written types alone
laid_written : (types : List TypeRow) → ((n : ℕ) → n < length types → TySound (n + 1) (length types) (get_or types n Row.Num)) → Laid (length types) types
laid_written types s =
    record {
      some = omega arith;
      ordered = subst (Sorted AboveType 0) (sym (take_all (length types) types (omega arith)))
          (sorted_types (length types) 0 types (λ n h. subst (λ m. TySound m (length types) (get_or types n Row.Num)) (let e : n + 1 ≡ 0 + n + 1 = omega arith in e) (s n h)));
      written = λ n r h e. subst (Below (length types)) e (sound_below (n + 1) (length types) (get_or types n Row.Num) (s n h));
      built = λ n r k h e. absurd (omega arith);
      given = λ n r h e. subst (Given (length types)) e (below_given (length types) (get_or types n Row.Num) (sound_below (n + 1) (length types) (get_or types n Row.Num) (s n h)));
    }

none_bound : {X : Type 0} (n : ℕ) (xs : List X) → n ≡ 0 → take n xs ≡ []
none_bound n xs e = ap (λ m. take m xs) e

-- what judging the first term asks
module _ (t : Tables) (c : Context) (sound : Sound t) (rows : rows_of c ≡ t.types) (written : c.written ≡ length t.types) (clear : Clear c.height) where
  tested : Tested t.types t.terms t.stations
  tested = test_says t.types t.terms t.stations sound

  no_values : values_of c ≡ []
  no_values = none_bound c.height.values (vec_items c.values) clear.0

  no_continuations : continuations_of c ≡ []
  no_continuations = none_bound c.height.continuations (vec_items c.continuations) clear.2

  pub whole_asks : Asks c t.terms 0
  whole_asks =
      let s = tested in
      let l : Laid c.written (rows_of c) = subst (λ w. Laid w (rows_of c)) (sym written) (subst (Laid (length t.types)) (sym rows) (laid_written t.types s.types_sound)) in
      record {
        ready = record { laid = l; values = subst (λ bs. EachBelow (length (rows_of c)) bs) (sym no_values) tt; continuations = subst (λ bs. EachBelow c.written bs) (sym no_continuations) tt };
        sound = subst (λ w. SoundTerms w t.terms) (sym written) s.terms_sound;
        within = s.some_term;
        short = s.few_terms;
        room = omega (arith, ap length rows, written, same_size t.terms 0, s.one_tree, s.few_terms);
        few = omega (arith, written, s.few_types);
        values = omega (arith, clear.0);
        worlds = omega (arith, clear.1);
        continuations = omega (arith, clear.2);
      }

  same_types : take c.written (rows_of c) ≡ t.types
  same_types = ap (λ w. take w (rows_of c)) written ∙ ap (λ (x : List TypeRow). take (length t.types) x) rows ∙ take_all (length t.types) t.types (omega arith)

  nothing_bound : context_of c ≡ closed
  nothing_bound =
      ap (λ vs. around (meaning_of c) vs c.height.worlds (continuations_of c)) no_values
      ∙ ap (λ ks. around (meaning_of c) [] c.height.worlds ks) no_continuations ∙ ap (λ n. around (meaning_of c) [] n []) clear.1

  -- the verdict on a program that starts at a site of its sheet
  pub whole_verdict : t.start < length t.stations → check (program_of t) ≡ verdict c t.stations t.terms 0 (Site t.start)
  whole_verdict h =
      needs_met (dec_lt t.start (length t.stations)) (Unbound 0) (judge (program_of t) 0 closed (site t.start)) h
      ∙ ap (λ x. judge (program_of t) 0 x (site t.start)) (sym nothing_bound)
      ∙ ap (λ (x : List TypeRow). judge (record { sheet = t.stations; types = x; terms = t.terms; start = 0 }) 0 (context_of c) (site t.start)) (sym same_types)

  answers_whole : (r : Result ℕ CheckFault) (more : ℕ) (d : Context) → t.start < length t.stations → Same c d → Judging.Answers c (verdict c t.stations t.terms 0 (Site t.start)) r more d → Concluding.Answers t r d
  answers_whole (Ok n) more d h s a = (
    whole_verdict h ∙ a.verdict,
    ap (λ w. take w (rows_of d)) (s.kept.written ∙ written ∙ sym (ap length rows)) ∙ a.grown.front ∙ rows,
    laid_tests d.written (rows_of d) n a.grown.laid a.number,
  )
  answers_whole (Err e) more d h s a = whole_verdict h ∙ a

  pub whole_concluded : {stations : List Station} {terms : List TermRow} {start more : ℕ} {r : Result ℕ CheckFault} {d : Context}
      → stations ≡ t.stations → terms ≡ t.terms → start ≡ t.start → start < length stations → Same c d → Judged c (verdict c stations terms 0 (Site start)) r more d → Concluded t r d
  whole_concluded {stations} {terms} {start} {more} {r} {d} p q u h s j =
      let h2 : t.start < length t.stations = omega (arith, u, ap length p) in
      let j2 : Judged c (verdict c t.stations t.terms 0 (Site t.start)) r more d =
      subst (λ x. Judged c (verdict c t.stations t.terms 0 (Site x)) r more d) u (subst (λ x. Judged c (verdict c t.stations x 0 (Site start)) r more d) q (subst (λ x. Judged c (verdict c x terms 0 (Site start)) r more d) p j)) in
      record { answer = answers_whole r more d h2 s j2.answer }
