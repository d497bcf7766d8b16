-- One byte of the definition, at a place of the text.
use Rattle.std.proofs.Common.{◌≡◌, ℕ, ◌+◌, ◌-◌, ◌*◌, ◌<◌, ◌≤◌, Bool, true, false, cond, eqb, List, [], ◌∷◌, sym, refl, ap, ◌∙◌}
use Rattle.std.proofs.lemmas.Bool.{eq-eqb, ne_eqb, lt-ltb, le-ltb, both_ways}
use Rattle.syntax.specs.Grammar.{Want, Stop, byte}
use Rattle.syntax.specs.Grammar.Want.{stop, number, digits}
use Rattle.syntax.specs.Reading.{Seen, Move, Outcome, go, step, over, passed, push, digit, counted}
use Rattle.syntax.specs.Reading.Move.{on, off}
use Rattle.syntax.specs.Reading.Outcome.{refused}

-- what a move leads to
abbrev pub moved : List ℕ → ℕ → Move → Outcome
moved bs i (on ws s) = go bs ws s (i + 1)
moved bs i (off n p) = refused n p

pub go_cons : (c : ℕ) (bs : List ℕ) (ws : List Want) (s : Seen) (i : ℕ) → go (c ∷ bs) ws s i ≡ moved bs i (step ws s i c)
unfolding go
go_cons c bs ws s i = lemma (step ws s i c)
  where
    lemma : (m : Move) → (elim m [ on ws' s' ↦ go bs ws' s' (i + 1) | off n p ↦ refused n p ]) ≡ moved bs i m
    lemma (on ws' s') = refl
    lemma (off n p) = refl

module _ (r : List ℕ) (ws : List Want) (s : Seen) (i : ℕ) where
  pub go_some : (c : ℕ) (bs : List ℕ) → r ≡ c ∷ bs → go r ws s i ≡ moved bs i (step ws s i c)
  go_some c bs e = rw e (go_cons c bs ws s i)

  -- the same where the move is known
  pub go_by : (c : ℕ) (bs : List ℕ) → r ≡ c ∷ bs → (m : Move) → step ws s i c ≡ m → go r ws s i ≡ moved bs i m
  go_by c bs e m q = go_some c bs e ∙ ap (moved bs i) q

  pub go_none : r ≡ [] → go r ws s i ≡ over ws s i
  unfolding go
  go_none e = ap (λ (x : List ℕ). go x ws s i) e

module _ (r : List ℕ) (i b : ℕ) (a : Stop) (k : List Want) (s : Seen) (f : byte a ≡ b) where
  pub stop_takes : (bs : List ℕ) → r ≡ b ∷ bs → go r (stop a ∷ k) s i ≡ go bs k (passed a s) (i + 1)
  stop_takes bs e = go_some r (stop a ∷ k) s i b bs e ∙ ap (λ (t : Bool). moved bs i (cond t (on k (passed a s)) (off 11 i))) (eq-eqb b (byte a) (sym f))

  pub stop_refuses : (c : ℕ) (bs : List ℕ) → r ≡ c ∷ bs → (c ≡ b → ⊥) → go r (stop a ∷ k) s i ≡ refused 11 i
  stop_refuses c bs e h = go_some r (stop a ∷ k) s i c bs e ∙ ap (λ (t : Bool). moved bs i (cond t (on k (passed a s)) (off 11 i))) (ne_eqb c (byte a) (λ q. h (q ∙ f)))

  pub stop_ends : r ≡ [] → go r (stop a ∷ k) s i ≡ refused 11 i
  stop_ends e = go_none r (stop a ∷ k) s i e

-- a digit is not a byte that is none
other : (c b : ℕ) → digit c ≡ true → digit b ≡ false → eqb c b ≡ false
other c b h g = ne_eqb c b (λ q. both_ways (digit b) g (ap digit (sym q) ∙ h))

module _ (r : List ℕ) (i : ℕ) (k : Bool) (a : Stop) (ws : List Want) (s : Seen) (c : ℕ) (bs : List ℕ) (e : r ≡ c ∷ bs) where
  pub number_refuses : digit c ≡ false → go r (number k a ∷ ws) s i ≡ refused 11 i
  number_refuses h = go_by r (number k a ∷ ws) s i c bs e (off 11 i) (simp (h, ne_eqb c 48 (λ q. both_ways (digit c) h (ap digit q))))

  pub number_zero : c ≡ 48 → go r (number k a ∷ ws) s i ≡ go bs (stop a ∷ ws) (push 0 s) (i + 1)
  number_zero h = go_by r (number k a ∷ ws) s i c bs e (on (stop a ∷ ws) (push 0 s)) (simp (eq-eqb c 48 h))

  pub number_some : digit c ≡ true → (c ≡ 48 → ⊥) → (d : ℕ) → d ≡ c - 48 → go r (number k a ∷ ws) s i ≡ go bs (digits k i d a ∷ ws) s (i + 1)
  number_some h n d q = go_by r (number k a ∷ ws) s i c bs e (on (digits k i d a ∷ ws) s) (simp (h, q, ne_eqb c 48 n))

  module _ (p v : ℕ) (g : digit (byte a) ≡ false) where
    pub digits_stop : digit c ≡ false → go r (digits k p v a ∷ ws) s i ≡ go r (stop a ∷ ws) (push v s) i
    digits_stop h = go_some r (digits k p v a ∷ ws) s i c bs e ∙ ap (moved bs i) (simp h) ∙ sym (go_some r (stop a ∷ ws) (push v s) i c bs e)

    module _ (h : digit c ≡ true) (d : ℕ) (q : d ≡ c - 48) where
      pub digits_large : 65536 ≤ v * 10 + d → go r (digits k p v a ∷ ws) s i ≡ refused 11 i
      digits_large l = go_by r (digits k p v a ∷ ws) s i c bs e (off 11 i) (simp (h, ← q, other c (byte a) h g, le-ltb (v * 10 + d) 65536 l))

      pub digits_sheet : v * 10 + d < 65536 → counted k (v * 10 + d) ≡ true → go r (digits k p v a ∷ ws) s i ≡ refused 14 p
      digits_sheet l m = go_by r (digits k p v a ∷ ws) s i c bs e (off 14 p) (simp (h, ← q, other c (byte a) h g, lt-ltb (v * 10 + d) 65536 l, m))

      pub digits_on : v * 10 + d < 65536 → counted k (v * 10 + d) ≡ false → go r (digits k p v a ∷ ws) s i ≡ go bs (digits k p (v * 10 + d) a ∷ ws) s (i + 1)
      digits_on l m = go_by r (digits k p v a ∷ ws) s i c bs e (on (digits k p (v * 10 + d) a ∷ ws) s) (simp (h, ← q, other c (byte a) h g, lt-ltb (v * 10 + d) 65536 l, m))
