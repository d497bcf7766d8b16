-- The text of a tree is read to the tree's end, or refused where it passes a limit.
use Rattle.std.proofs.Common.{◌≡◌, ℕ, ◌+◌, ◌-◌, ◌*◌, ◌<◌, ◌≤◌, Bool, true, false, cond, ◌&&◌, eqb, ltb, leb, List, [], ◌∷◌, ◌++◌, length, decimal, sym, refl, ap, ◌∙◌, subst, arith}
use Rattle.std.proofs.lemmas.Bool.{eq-eqb, ne_eqb, eqb-true, ltb-true, ltb-false, leb-true, lt-ltb, le-ltb, both_ways, and_parts, and_from}
use Rattle.syntax.specs.Grammar.{Stop, Want, Kind, byte, wants, words, sort_of}
use Rattle.syntax.specs.Grammar.Want.{stop, number, digits, item, word}
use Rattle.syntax.specs.Grammar.Kind.{type, world, term}
use Rattle.syntax.specs.Reading.{Seen, Outcome, go, after, began, digit, full, begun, many, passed, push, counted, opened}
use Rattle.syntax.specs.Reading.Move.{on, off}
use Rattle.syntax.specs.Reading.Outcome.{refused}
use Rattle.syntax.specs.Texts.{In, Digits, valued, Apart}
use Rattle.syntax.specs.declared.grammar.Form.{Form}
use Rattle.syntax.specs.declared.grammar.Sort.{Sort}
use Rattle.syntax.proofs.Steps.{go_cons, moved}
use Rattle.syntax.proofs.Theory.{no_digit, valued_ge, words_apart, apart_after, in_after}
use Rattle.syntax.proofs.Words.{hit}
use Rattle.syntax.proofs.Numbers.{head}

-- the limits by their refusals
pub data Cap : Type 0 where
  deeps : Cap
  manies : Cap
  sheets : Cap

abbrev pub refusal : Cap → ℕ
refusal deeps = 12
refusal manies = 13
refusal sheets = 14

abbrev pub OnSheet : Type 0 → Cap → Type 0
OnSheet P deeps = Unit {0}
OnSheet P manies = Unit {0}
OnSheet P sheets = P

pub sheet_ok : {P : Type 0} → P → (c : Cap) → OnSheet P c
sheet_ok p deeps = tt
sheet_ok p manies = tt
sheet_ok p sheets = p

pub sheet_map : (P Q : Type 0) → (P → Q) → (c : Cap) → OnSheet P c → OnSheet Q c
sheet_map P Q f deeps p = tt
sheet_map P Q f manies p = tt
sheet_map P Q f sheets p = f p

abbrev pub Always : Cap → Type 0
Always c = Unit {0}

-- from one state to another, just where each limit F is kept; else it is refused by one that is not
pub record State : Type 0 where
  pub bytes : List ℕ
  pub wanted : List Want
  pub seen : Seen

abbrev pub from : State → ℕ → Outcome
from x i = go x.bytes x.wanted x.seen i

abbrev pub at : List ℕ → List Want → Seen → State
at bs ws s = record { bytes = bs; wanted = ws; seen = s }

pub data Runs (o : Outcome) (y : State) (F : Cap → Type 0) : Type 0 where
  runs : ((c : Cap) → F c) → (j : ℕ) → o ≡ from y j → Runs o y F
  ends : (c : Cap) → (F c → ⊥) → (p : ℕ) → o ≡ refused (refusal c) p → Runs o y F

pub runs_by : {o q : Outcome} {y : State} {F : Cap → Type 0} → o ≡ q → Runs q y F → Runs o y F
runs_by e (runs f j r) = runs f j (e ∙ r)
runs_by e (ends c f p r) = ends c f p (e ∙ r)

pub runs_as : {o : Outcome} {y : State} {F G : Cap → Type 0} → ((c : Cap) → F c → G c) → ((c : Cap) → G c → F c) → Runs o y F → Runs o y G
runs_as f g (runs x j r) = runs (λ c. f c (x c)) j r
runs_as f g (ends c x p r) = ends c (λ y. x (g c y)) p r

pub runs_then : {o : Outcome} {y z : State} {F G H : Cap → Type 0} → ((c : Cap) → H c → F c) → (((c : Cap) → F c) → (c : Cap) → H c → G c) → (((c : Cap) → F c) → ((c : Cap) → G c) → (c : Cap) → H c) →
    Runs o y F → (((c : Cap) → F c) → (j : ℕ) → Runs (from y j) z G) → Runs o z H
runs_then hf hg fgh (ends c x p r) k = ends c (λ h. x (hf c h)) p r
runs_then {o} {y} {z} {F} {G} {H} hf hg fgh (runs x j r) k = next (k x j)
  where
    next : Runs (from y j) z G → Runs o z H
    next (runs w l q) = runs (fgh x w) l (r ∙ q)
    next (ends c w p q) = ends c (λ h. w (hg x c h)) p (r ∙ q)

-- numbers
counted_up : (k : Bool) (v w : ℕ) → v ≤ w → counted k v ≡ true → counted k w ≡ false → ⊥
counted_up true v w h e f = omega (arith, ltb-true 32 v e, ltb-false 32 w f)
counted_up false v w h e f = both_ways false refl e

pub small : (k : Bool) (v : ℕ) → v ≤ 9 → counted k v ≡ false
small true v h = le-ltb 32 v (omega arith)
small false v h = refl

module _ (k : Bool) (a : Stop) (bs : List ℕ) (ws : List Want) (s : Seen) where
  digits_run : (ds : List ℕ) (p v i : ℕ) → Digits ds → valued v ds < 65536 → counted k v ≡ false →
      Runs (go (ds ++ byte a ∷ bs) (digits k p v a ∷ ws) s i) (at bs ws (passed a (push (valued v ds) s))) (OnSheet (counted k (valued v ds) ≡ false))
  digits_run [] p v i hs l n =
      runs (sheet_ok n) (i + 1) (go_cons (byte a) bs (digits k p v a ∷ ws) s i ∙ ap (λ (t : Bool). moved bs i (cond t (on ws (passed a (push v s))) (cond (digit (byte a) && ltb (v * 10 + (byte a - 48)) 65536) (cond (counted k (v * 10 + (byte a - 48))) (off 14 p) (on (digits k p (v * 10 + (byte a - 48)) a ∷ ws) s)) (off 11 i)))) (eq-eqb (byte a) (byte a) refl))
  digits_run (c ∷ ds) p v i hs l n =
      let m : v * 10 + (c - 48) < 65536 = omega (arith, valued_ge (v * 10 + (c - 48)) ds) in
      let x : eqb c (byte a) ≡ false = ne_eqb c (byte a) (λ z. both_ways (digit (byte a)) (no_digit a) (ap digit (sym z) ∙ hs.0)) in
      let y : (digit c && ltb (v * 10 + (c - 48)) 65536) ≡ true = and_from (digit c) (ltb (v * 10 + (c - 48)) 65536) hs.0 (lt-ltb (v * 10 + (c - 48)) 65536 m) in
      runs_by
      (go_cons c (ds ++ byte a ∷ bs) (digits k p v a ∷ ws) s i
      ∙ ap (λ (t : Bool). moved (ds ++ byte a ∷ bs) i (cond t (on ws (passed a (push v s))) (cond (digit c && ltb (v * 10 + (c - 48)) 65536) (cond (counted k (v * 10 + (c - 48))) (off 14 p) (on (digits k p (v * 10 + (c - 48)) a ∷ ws) s)) (off 11 i)))) x
      ∙ ap (λ (t : Bool). moved (ds ++ byte a ∷ bs) i (cond t (cond (counted k (v * 10 + (c - 48))) (off 14 p) (on (digits k p (v * 10 + (c - 48)) a ∷ ws) s)) (off 11 i))) y)
      (here (counted k (v * 10 + (c - 48))) refl (λ e. digits_run ds p (v * 10 + (c - 48)) (i + 1) hs.1 l e))
    where
      here : (t : Bool) → counted k (v * 10 + (c - 48)) ≡ t →
          (counted k (v * 10 + (c - 48)) ≡ false → Runs (go (ds ++ byte a ∷ bs) (digits k p (v * 10 + (c - 48)) a ∷ ws) s (i + 1)) (at bs ws (passed a (push (valued (v * 10 + (c - 48)) ds) s))) (OnSheet (counted k (valued (v * 10 + (c - 48)) ds) ≡ false))) →
          Runs (moved (ds ++ byte a ∷ bs) i (cond t (off 14 p) (on (digits k p (v * 10 + (c - 48)) a ∷ ws) s))) (at bs ws (passed a (push (valued (v * 10 + (c - 48)) ds) s))) (OnSheet (counted k (valued (v * 10 + (c - 48)) ds) ≡ false))
      here true e r = ends sheets (counted_up k (v * 10 + (c - 48)) (valued (v * 10 + (c - 48)) ds) (valued_ge (v * 10 + (c - 48)) ds) e) p refl
      here false e r = r e

  pub number_run : (n i : ℕ) → n < 65536 → Runs (go (decimal n ++ byte a ∷ bs) (number k a ∷ ws) s i) (at bs ws (passed a (push n s))) (OnSheet (counted k n ≡ false))
  number_run n i l =
      let h = head n l in
      runs_by (ap (λ (x : List ℕ). go (x ++ byte a ∷ bs) (number k a ∷ ws) s i) h.is ∙ go_cons h.c (h.ds ++ byte a ∷ bs) (number k a ∷ ws) s i)
      (begins h.c h.ds (eqb h.c 48) refl h.first h.zero h.all h.value)
    where
      begins : (c : ℕ) (ds : List ℕ) (t : Bool) → eqb c 48 ≡ t → digit c ≡ true → (c ≡ 48 → (ds ≡ []) × (n ≡ 0)) → Digits ds → valued (c - 48) ds ≡ n →
          Runs (moved (ds ++ byte a ∷ bs) i (cond t (on (stop a ∷ ws) (push 0 s)) (cond (digit c) (on (digits k i (c - 48) a ∷ ws) s) (off 11 i)))) (at bs ws (passed a (push n s))) (OnSheet (counted k n ≡ false))
      begins c ds true e d z hs v =
          let q = z (eqb-true c 48 e) in
          subst (λ (m : ℕ). Runs (go (ds ++ byte a ∷ bs) (stop a ∷ ws) (push 0 s) (i + 1)) (at bs ws (passed a (push m s))) (OnSheet (counted k m ≡ false))) (sym q.1)
          (subst (λ (x : List ℕ). Runs (go (x ++ byte a ∷ bs) (stop a ∷ ws) (push 0 s) (i + 1)) (at bs ws (passed a (push 0 s))) (OnSheet (counted k 0 ≡ false))) (sym q.0)
          (runs (sheet_ok (small k 0 (omega arith))) (i + 1 + 1) (go_cons (byte a) bs (stop a ∷ ws) (push 0 s) (i + 1) ∙ ap (λ (t : Bool). moved bs (i + 1) (cond t (on ws (passed a (push 0 s))) (off 11 (i + 1)))) (eq-eqb (byte a) (byte a) refl))))
      begins c ds false e d z hs v =
          runs_by (ap (λ (t : Bool). moved (ds ++ byte a ∷ bs) i (cond t (on (digits k i (c - 48) a ∷ ws) s) (off 11 i))) d)
          (subst (λ (m : ℕ). Runs (go (ds ++ byte a ∷ bs) (digits k i (c - 48) a ∷ ws) s (i + 1)) (at bs ws (passed a (push m s))) (OnSheet (counted k m ≡ false))) v
          (digits_run ds i (c - 48) (i + 1) hs (subst (λ (x : ℕ). x < 65536) (sym v) l) (small k (c - 48) (let y = and_parts (leb 48 c) (leb c 57) d in omega (arith, leb-true c 57 y.1)))))

  pub stop_run : (i : ℕ) → Runs (go (byte a ∷ bs) (stop a ∷ ws) s i) (at bs ws (passed a s)) Always
  stop_run i = runs (λ c. tt) (i + 1) (go_cons (byte a) bs (stop a ∷ ws) s i ∙ ap (λ (t : Bool). moved bs i (cond t (on ws (passed a s)) (off 11 i))) (eq-eqb (byte a) (byte a) refl))

-- a form's word
abbrev pub Open : ℕ → Sort → Seen → Cap → Type 0
Open b o s deeps = (eqb b 40 && leb 64 s.depth) ≡ false
Open b o s manies = full o s ≡ false
Open b o s sheets = Unit {0}

opens : (b : ℕ) (o : Sort) (s : Seen) → (eqb b 40 && leb 64 s.depth) ≡ false → full o s ≡ false → (c : Cap) → Open b o s c
opens b o s h k deeps = h
opens b o s h k manies = k
opens b o s h k sheets = tt

module _ (o : Sort) (bs : List ℕ) (ws : List Want) (s : Seen) (free : (c : ℕ) → many o c (begun o s) ≡ false) where
  pub open_run : (b d : ℕ) (w : List ℕ) (f : Form) (i : ℕ) → In (b ∷ d ∷ w) f (words o) →
      Runs (go (b ∷ d ∷ w ++ bs) (item o ∷ ws) s i) (at bs (wants f ws) (opened f (begun o s))) (Open b o s)
  open_run b d w f i m =
      runs_by (go_cons b (d ∷ w ++ bs) (item o ∷ ws) s i)
      (by (after b (words o)) (in_after b (d ∷ w) f (words o) m) (apart_after b (words o) (words_apart o)))
    where
      test : (l : List (List ℕ × Form)) → In (d ∷ w) f l → Apart l → (x y : Bool) → (eqb b 40 && leb 64 s.depth) ≡ x → full o s ≡ y →
          Runs (moved (d ∷ w ++ bs) i (cond x (off 12 i) (cond y (off 13 i) (on (word o l ∷ ws) (begun o s))))) (at bs (wants f ws) (opened f (begun o s))) (Open b o s)
      test l n a true y e g = ends deeps (λ h. both_ways (eqb b 40 && leb 64 s.depth) h e) i refl
      test l n a false true e g = ends manies (λ h. both_ways (full o s) h g) i refl
      test l n a false false e g = runs (opens b o s e g) (i + 1 + 1 + length w) (hit o ws (begun o s) free d w f l (i + 1) bs a n)

      by : (l : List (List ℕ × Form)) → In (d ∷ w) f l → Apart l → Runs (moved (d ∷ w ++ bs) i (began o l ws s i b)) (at bs (wants f ws) (opened f (begun o s))) (Open b o s)
      by [] n a = elim n [ ]
      by (x ∷ l) n a = test (x ∷ l) n a (eqb b 40 && leb 64 s.depth) (full o s) refl refl

pub free_kind : (k : Kind) (s : Seen) (c : ℕ) → many (sort_of k) c s ≡ false
free_kind type s c = refl
free_kind world s c = refl
free_kind term s c = refl
