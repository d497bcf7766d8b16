-- Rows of terms, by the numbers of their parts.
use Rattle.std.proofs.Common.{◌≡◌, ℕ, suc, ◌+◌, ◌<◌, List, [], ◌∷◌, length, get_or, refl, ap, ◌∙◌, subst, arith}
use mathlib.Core.Option.{some}
use Rattle.syntax.specs.declared.program.Term.{Term as TermRow}
use Rattle.syntax.specs.declared.program.Term.TheVariants as Term
use Rattle.syntax.specs.Sound.{TermSound}
use Rattle.calculus.specs.Program.{Above, Sorted}
use Rattle.calculus.proofs.Decoding.{decode_at}
use Rattle.checker.specs.Judging.{with_parts, size, SoundTerms}
use Rattle.checker.proofs.Table.{getElem_getD}

above_sound : (types n high : ℕ) (r : TermRow) → TermSound types (n + 1) high r → Above n r
above_sound types k high (Term.Num n) s = tt
above_sound types k high (Term.Value n) s = tt
above_sound types k high (Term.Lam t a) s = omega (arith, s.1.0)
above_sound types k high (Term.App a b) s = (omega (arith, s.0.0), omega (arith, s.1.0))
above_sound types k high (Term.Boxed a) s = omega (arith, s.0)
above_sound types k high (Term.Unbox a) s = omega (arith, s.0)
above_sound types k high (Term.Here a) s = omega (arith, s.0)
above_sound types k high (Term.Letd a b) s = (omega (arith, s.0.0), omega (arith, s.1.0))
above_sound types k high (Term.Get m x a) s = omega (arith, s.1.0)
above_sound types k high (Term.Pair a b) s = (omega (arith, s.0.0), omega (arith, s.1.0))
above_sound types k high (Term.Fst a) s = omega (arith, s.0)
above_sound types k high (Term.Snd a) s = omega (arith, s.0)
above_sound types k high (Term.Letcc t a) s = omega (arith, s.1.0)
above_sound types k high (Term.Throw t n a) s = omega (arith, s.2.0)
above_sound types k high (Term.Go t x a) s = omega (arith, s.2.0)
above_sound types k high (Term.Gauge n) s = tt
above_sound types k high (Term.Gate n a) s = omega (arith, s.1.0)
above_sound types k high (Term.Below t a b x y) s = (omega (arith, s.1.0), omega (arith, s.2.0), omega (arith, s.3.0), omega (arith, s.4.0))

sorted_from : (types high k : ℕ) (rows : List TermRow) → ((n : ℕ) → n < length rows → TermSound types (k + n + 1) high (get_or rows n (Term.Num 0))) → Sorted Above k rows
sorted_from types high k [] h = tt
sorted_from types high k (r ∷ rs) h = (
  above_sound types k high r (subst (λ m. TermSound types m high r) (let e : k + 0 + 1 ≡ k + 1 = omega arith in e) (h 0 (omega arith))),
  sorted_from types high (suc k) rs (λ n l. subst (λ m. TermSound types m high (get_or rs n (Term.Num 0))) (let e : k + suc n + 1 ≡ suc k + n + 1 = omega arith in e) (h (suc n) (omega arith))),
)

-- in sound tables the parts of a row have larger numbers
pub sound_sorted : (types : ℕ) (terms : List TermRow) → SoundTerms types terms → Sorted Above 0 terms
sound_sorted types terms s = sorted_from types (length terms) 0 terms (λ n l. subst (λ m. TermSound types m (length terms) (get_or terms n (Term.Num 0))) (let e : n + 1 ≡ 0 + n + 1 = omega arith in e) (s n l))

agree : (p : ℕ) (f g : ℕ → ℕ) (k : ℕ) → ((c : ℕ) → k < c → f c ≡ g c) → (r : TermRow) → Above k r → with_parts f r ≡ with_parts g r
agree p f g k h (Term.Num n) q = refl
agree p f g k h (Term.Value n) q = refl
agree p f g k h (Term.Lam t a) q = omega (arith, h a q)
agree p f g k h (Term.App a b) q = omega (arith, h a q.0, h b q.1)
agree p f g k h (Term.Boxed a) q = omega (arith, h a q)
agree p f g k h (Term.Unbox a) q = omega (arith, h a q)
agree p f g k h (Term.Here a) q = omega (arith, h a q)
agree p f g k h (Term.Letd a b) q = omega (arith, h a q.0, h b q.1)
agree p f g k h (Term.Get m x a) q = omega (arith, h a q)
agree p f g k h (Term.Pair a b) q = omega (arith, h a q.0, h b q.1)
agree p f g k h (Term.Fst a) q = omega (arith, h a q)
agree p f g k h (Term.Snd a) q = omega (arith, h a q)
agree p f g k h (Term.Letcc t a) q = omega (arith, h a q)
agree p f g k h (Term.Throw t n a) q = omega (arith, h a q)
agree p f g k h (Term.Go t x a) q = omega (arith, h a q)
agree p f g k h (Term.Gauge n) q = refl
agree p f g k h (Term.Gate n a) q = omega (arith, h a q)
agree p f g k h (Term.Below t a b x y) q = omega (arith, h a q.0, h b q.1, h x q.2, h y q.3)

less : (k : ℕ) (r : TermRow) → Above (suc k) r → Above k r
less j (Term.Num n) q = tt
less j (Term.Value n) q = tt
less j (Term.Lam t a) q = omega arith
less j (Term.App a b) q = omega arith
less j (Term.Boxed a) q = omega arith
less j (Term.Unbox a) q = omega arith
less j (Term.Here a) q = omega arith
less j (Term.Letd a b) q = omega arith
less j (Term.Get m x a) q = omega arith
less j (Term.Pair a b) q = omega arith
less j (Term.Fst a) q = omega arith
less j (Term.Snd a) q = omega arith
less j (Term.Letcc t a) q = omega arith
less j (Term.Throw t n a) q = omega arith
less j (Term.Go t x a) q = omega arith
less j (Term.Gauge n) q = tt
less j (Term.Gate n a) q = omega arith
less j (Term.Below t a b x y) q = omega arith

pub size_at : (types : ℕ) (terms : List TermRow) → SoundTerms types terms → (p : ℕ) (r : TermRow) → p < length terms → get_or terms p (Term.Num 0) ≡ r → size terms p ≡ with_parts (size terms) r
size_at types terms s p r h e =
    decode_at (λ k f r. with_parts f r) 0 Above agree less terms (sound_sorted types terms s) p r (getElem_getD terms p (Term.Num 0) h ∙ ap (λ (x : TermRow). some x) e)
