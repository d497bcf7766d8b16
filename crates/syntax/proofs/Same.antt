-- What begins at a place depends on the bytes before it alone.
use Rattle.std.proofs.Common.{◌≡◌, ℕ, ◌+◌, ◌-◌, ◌*◌, ◌<◌, ◌≤◌, Bool, true, false, List, [], ◌∷◌, ◌++◌, length, sym, refl, ap, ◌∙◌, subst, ⊎_elim, arith}
use Rattle.std.proofs.lemmas.Bool.{both_ways}
use Rattle.std.proofs.lemmas.List.{append_assoc, append_cancel_left, append-nil}
use Rattle.syntax.specs.Grammar.{Stop, Want, byte}
use Rattle.syntax.specs.Grammar.Want.{digits}
use Rattle.syntax.specs.Reading.{Move, start_none, digit}
use Rattle.syntax.specs.Texts.{valued}
use Rattle.syntax.proofs.Texts.{Text, shown, places, Whole, NthIn}
use Rattle.syntax.proofs.Texts.Text.{end, past, nought, some, rest, pick, spell}
use Rattle.syntax.specs.Promises.{OneCount}
use Rattle.syntax.specs.Trees.{Prog, Right, print}
use Rattle.syntax.specs.Refusals.{New, new_item, new_number, noted, begun_in, Nth}
use Rattle.syntax.proofs.Places.{Longer as GoesBeyond, splits, nothing}
use Rattle.syntax.proofs.Gather.{gathered}
use Rattle.syntax.proofs.Spelled.{spelt_out}
use Rattle.syntax.proofs.Theory.{Follows, takes, mark, beyond, places_first, no_digit}
use Rattle.syntax.proofs.Alive.{empty_full, empty_many}
use Rattle.syntax.proofs.Reach.{Stepped, step_is}
use Rattle.syntax.proofs.Reach.Stepped.{wrong, stopped, zeroed, digited, numbered, longer, passes, deeper, fuller, started, whole, letter, crowded}
use Rattle.syntax.proofs.Ways.{Below, noted_first}

-- all begin from a place on
abbrev pub Above : ℕ → List ℕ → Type 0
Above n [] = Unit {0}
Above n (i ∷ l) = (n ≤ i) × Above n l

above_less : (n m : ℕ) (l : List ℕ) → n ≤ m → Above m l → Above n l
above_less n m [] h k = tt
above_less n m (i ∷ l) h k = (omega (arith, k.0), above_less n m l h k.1)

above_noted : (b : Bool) (i : ℕ) (l : List ℕ) → Above i l → Above i (noted b i l)
above_noted true i l h = (omega arith, h)
above_noted false i l h = h

places_above : (x : New) {ws : List Want} (t : Text ws) (i : ℕ) → Above i (places x t i)
places_above x end i = tt
places_above x (past a t) i = above_less i (i + 1) (places x t (i + 1)) (omega arith) (places_above x t (i + 1))
places_above x (nought k a t) i = above_noted (new_number x k) i (places x t (i + 2)) (above_less i (i + 2) (places x t (i + 2)) (omega arith) (places_above x t (i + 2)))
places_above x (some k a c ds h n hs l t) i =
    let j : ℕ = i + length ds + 2 in
    above_noted (new_number x k) i (places x t j) (above_less i j (places x t j) (omega arith) (places_above x t j))
places_above x (rest k p v a ds hs l t) i = let j : ℕ = i + length ds + 1 in above_less i j (places x t j) (omega arith) (places_above x t j)
places_above x (pick o b d w f m t) i =
    let j : ℕ = i + length w + 2 in
    above_noted (new_item x o) i (places x t j) (above_less i j (places x t j) (omega arith) (places_above x t j))
places_above x (spell o ks h b w f m t) i = let j : ℕ = i + length w + 1 in above_less i j (places x t j) (omega arith) (places_above x t j)

pub beyond_above : (x : New) {ws : List Want} (t : Text ws) (i : ℕ) → Above (i + 1) (beyond x t i)
beyond_above x end i = tt
beyond_above x (past a t) i = places_above x t (i + 1)
beyond_above x (nought k a t) i = above_less (i + 1) (i + 2) (places x t (i + 2)) (omega arith) (places_above x t (i + 2))
beyond_above x (some k a c ds h n hs l t) i = let j : ℕ = i + length ds + 2 in above_less (i + 1) j (places x t j) (omega arith) (places_above x t j)
beyond_above x (rest k p v a ds hs l t) i = let j : ℕ = i + length ds + 1 in above_less (i + 1) j (places x t j) (omega arith) (places_above x t j)
beyond_above x (pick o b d w f m t) i = let j : ℕ = i + length w + 2 in above_less (i + 1) j (places x t j) (omega arith) (places_above x t j)
beyond_above x (spell o ks h b w f m t) i = let j : ℕ = i + length w + 1 in above_less (i + 1) j (places x t j) (omega arith) (places_above x t j)

not_above : (i : ℕ) (l r : List ℕ) → Above (i + 1) (l ++ i ∷ r) → ⊥
not_above i [] r h = omega (arith, h.0)
not_above i (j ∷ l) r h = not_above i l r h.1

not_below : (i : ℕ) (l r : List ℕ) → Below i (l ++ i ∷ r) → ⊥
not_below i [] r h = omega (arith, h.0)
not_below i (j ∷ l) r h = not_below i l r h.1

-- the place of a thing is where one is wanted, and as many began before as were counted
module _ (i n : ℕ) (past l r b : List ℕ) (low : Below i past) (high : Above (i + 1) b) (size : length l ≡ n) where
  pub sorted : (m : Bool) → past ++ noted m i b ≡ l ++ i ∷ r → (m ≡ true) × (length past ≡ n)
  sorted true e = (
    refl,
    ⊎_elim (λ (q : l ≡ past). ap (λ (x : List ℕ). length x) (sym q) ∙ size)
        (⊎_elim (λ (q : GoesBeyond l past (i ∷ r)). absurd (let d-is : q.d ≡ i = (let z = q.rest in cc) in not_below i l q.y (subst (Below i) (q.is ∙ ap (λ (x : ℕ). l ++ x ∷ q.y) d-is) low)))
        (λ (q : GoesBeyond past l (i ∷ b)). absurd
        (let z : i ∷ b ≡ q.d ∷ (q.y ++ i ∷ r) = append_cancel_left past (i ∷ b) (q.d ∷ (q.y ++ i ∷ r)) (e ∙ ap (λ (x : List ℕ). x ++ i ∷ r) q.is ∙ append_assoc past (q.d ∷ q.y) (i ∷ r)) in
        let y : b ≡ q.y ++ i ∷ r = cc in not_above i q.y r (subst (Above (i + 1)) y high))))
        (splits l (i ∷ r) past (i ∷ b) (sym e)),
  )
  sorted false e = absurd (⊎_elim
      (λ (q : l ≡ past). let z : b ≡ i ∷ r = append_cancel_left past b (i ∷ r) (e ∙ ap (λ (x : List ℕ). x ++ i ∷ r) q) in not_above i [] r (subst (Above (i + 1)) z high))
      (⊎_elim (λ (q : GoesBeyond l past (i ∷ r)). let d-is : q.d ≡ i = (let z = q.rest in cc) in not_below i l q.y (subst (Below i) (q.is ∙ ap (λ (x : ℕ). l ++ x ∷ q.y) d-is) low))
      (λ (q : GoesBeyond past l b). let z : b ≡ q.d ∷ (q.y ++ i ∷ r) = append_cancel_left past b (q.d ∷ (q.y ++ i ∷ r)) (e ∙ ap (λ (x : List ℕ). x ++ i ∷ r) q.is ∙ append_assoc past (q.d ∷ q.y) (i ∷ r)) in
      not_above i (q.d ∷ q.y) r (subst (Above (i + 1)) z high)))
      (splits l (i ∷ r) past b (sym e)))

-- two texts of one thing that is wanted, after a byte that both have first
pub record Both {ws : List Want} (t u : Text ws) (i : ℕ) (a b : List ℕ) : Type 0 where
  pub wanted : List Want
  pub left : Text wanted
  pub right : Text wanted
  pub left_is : shown left ≡ a
  pub right_is : shown right ≡ b
  pub left_at : (x : New) → beyond x t i ≡ places x left (i + 1)
  pub right_at : (x : New) → beyond x u i ≡ places x right (i + 1)

-- a number goes on, whatever it counts
pub record Longer {k : Bool} {j v : ℕ} {e : Stop} {ws : List Want} (t : Text (digits k j v e ∷ ws)) (i c : ℕ) (a : List ℕ) : Type 0 where
  pub then : Text (digits k j (v * 10 + (c - 48)) e ∷ ws)
  pub is : shown then ≡ a
  pub at : (x : New) → beyond x t i ≡ places x then (i + 1)

goes_longer : {k : Bool} {j v : ℕ} {e : Stop} {ws : List Want} (t : Text (digits k j v e ∷ ws)) (i c : ℕ) (a : List ℕ) → digit c ≡ true → shown t ≡ c ∷ a → Longer t i c a
goes_longer (rest k j v e [] hs l t) i c a d h = absurd (let z : byte e ≡ c = cc in both_ways (digit (byte e)) (no_digit e) (ap digit z ∙ d))
goes_longer (rest k j v e (b ∷ ds) hs l t) i c a d h =
    let z : b ≡ c = cc in
    let y : ds ++ byte e ∷ shown t ≡ a = cc in
    record {
      then = rest k j (v * 10 + (c - 48)) e ds hs.1 (subst (λ (x : ℕ). valued (v * 10 + (x - 48)) ds < 65536) z l) t;
      is = y;
      at = λ x. ap (places x t) (let w : i + length (b ∷ ds) + 1 ≡ i + 1 + length ds + 1 = omega arith in w);
    }

both : {ws : List Want} (t u : Text ws) (i c : ℕ) (a b : List ℕ) → shown t ≡ c ∷ a → shown u ≡ c ∷ b → {m : Move} → Stepped start_none i c ws m →
    Follows (λ x. beyond x t i) i m a → Follows (λ x. beyond x u i) i m b → Both t u i a b
both t u i c a b e f wrong g h = absurd (g refl)
both t u i c a b e f (stopped n) g h = record { wanted = _; left = g.0; right = h.0; left_is = g.1; right_is = h.1; left_at = g.2; right_at = h.2 }
both t u i c a b e f (zeroed n) g h = record { wanted = _; left = g.0; right = h.0; left_is = g.1; right_is = h.1; left_at = g.2; right_at = h.2 }
both t u i c a b e f (digited n l) g h = record { wanted = _; left = g.0; right = h.0; left_is = g.1; right_is = h.1; left_at = g.2; right_at = h.2 }
both t u i c a b e f (numbered n) g h = record { wanted = _; left = g.0; right = h.0; left_is = g.1; right_is = h.1; left_at = g.2; right_at = h.2 }
both t u i c a b e f (longer n l k) g h = record { wanted = _; left = g.0; right = h.0; left_is = g.1; right_is = h.1; left_at = g.2; right_at = h.2 }
both t u i c a b e f (passes n l k) g h =
    let x = goes_longer t i c a n e in
    let y = goes_longer u i c b n f in
    record { wanted = _; left = x.then; right = y.then; left_is = x.is; right_is = y.is; left_at = x.at; right_at = y.at }
both t u i c a b e f (deeper x l n k j) g h = absurd (omega arith)
both t u i c a b e f (fuller {o} x l n k) g h = absurd (both_ways true (sym k ∙ empty_full o) refl)
both t u i c a b e f (started x l n k) g h = record { wanted = _; left = g.0; right = h.0; left_is = g.1; right_is = h.1; left_at = g.2; right_at = h.2 }
both t u i c a b e f (whole x l n) g h = record { wanted = _; left = g.0; right = h.0; left_is = g.1; right_is = h.1; left_at = g.2; right_at = h.2 }
both t u i c a b e f (letter x w y l n k) g h = record { wanted = _; left = g.0; right = h.0; left_is = g.1; right_is = h.1; left_at = g.2; right_at = h.2 }
both t u i c a b e f (crowded {o} x w y l n k) g h = absurd (both_ways true (sym k ∙ empty_many o c) refl)

-- the same after bytes that both begin with
pub record Shared {ws : List Want} (t u : Text ws) (i : ℕ) (before a b : List ℕ) : Type 0 where
  pub wanted : List Want
  pub left : Text wanted
  pub right : Text wanted
  pub left_is : shown left ≡ a
  pub right_is : shown right ≡ b
  pub past : New → List ℕ
  pub left_at : (x : New) → places x t i ≡ past x ++ places x left (i + length before)
  pub right_at : (x : New) → places x u i ≡ past x ++ places x right (i + length before)
  pub below : (x : New) → Below (i + length before) (past x)

below_first : (b : Bool) (i n : ℕ) (l : List ℕ) → i < n → Below n l → Below n (noted b i [] ++ l)
below_first true i n l h k = (h, k)
below_first false i n l h k = k

at_first : (x : New) {ws : List Want} (t : Text ws) (i : ℕ) (l k : List ℕ) → beyond x t i ≡ k ++ l → places x t i ≡ (noted (mark x ws) i [] ++ k) ++ l
at_first x {ws} t i l k e =
    places_first x t i ∙ noted_first (mark x ws) i (beyond x t i) ∙ ap (λ (y : List ℕ). noted (mark x ws) i [] ++ y) e ∙ sym (append_assoc (noted (mark x ws) i []) k l)

share : (before : List ℕ) {ws : List Want} (t u : Text ws) (i c : ℕ) (a b : List ℕ) (d : Both t u i (before ++ a) (before ++ b)) → Shared d.left d.right (i + 1) before a b → i + 1 + length before ≡ i + length (c ∷ before) → Shared t u i (c ∷ before) a b
share before {ws} t u i c a b d r n =
    record {
      wanted = r.wanted;
      left = r.left;
      right = r.right;
      left_is = r.left_is;
      right_is = r.right_is;
      past = λ x. noted (mark x ws) i [] ++ r.past x;
      left_at = λ x. at_first x t i (places x r.left (i + length (c ∷ before))) (r.past x) (d.left_at x ∙ r.left_at x ∙ ap (λ (j : ℕ). r.past x ++ places x r.left j) n);
      right_at = λ x. at_first x u i (places x r.right (i + length (c ∷ before))) (r.past x) (d.right_at x ∙ r.right_at x ∙ ap (λ (j : ℕ). r.past x ++ places x r.right j) n);
      below = λ x. below_first (mark x ws) i (i + length (c ∷ before)) (r.past x) (omega arith) (subst (λ (j : ℕ). Below j (r.past x)) n (r.below x));
    }

shared : (before : List ℕ) {ws : List Want} (t u : Text ws) (i : ℕ) (a b : List ℕ) → shown t ≡ before ++ a → shown u ≡ before ++ b → Shared t u i before a b
shared [] {ws} t u i a b e f =
    let z : i ≡ i + 0 = omega arith in
    record { wanted = ws; left = t; right = u; left_is = e; right_is = f; past = λ x. []; left_at = λ x. ap (places x t) z; right_at = λ x. ap (places x u) z; below = λ x. tt }
shared (c ∷ before) {ws} t u i a b e f =
    let d = both t u i c (before ++ a) (before ++ b) e f (step_is start_none i c ws) (takes t start_none i c (before ++ a) e) (takes u start_none i c (before ++ b) f) in
    share before t u i c a b d (shared before d.left d.right (i + 1) a b d.left_is d.right_is) (omega arith)

-- texts with the same bytes begin the same things
both_end : (x : New) (ws : List Want) (t u : Text ws) (i : ℕ) → shown t ≡ [] → shown u ≡ [] → places x t i ≡ places x u i
both_end x [] end end i e f = refl
both_end x (w ∷ ws) t u i e f = absurd (nothing t e)

same_places : (x : New) (t u : Whole) → shown t ≡ shown u → places x t 0 ≡ places x u 0
same_places x t u e =
    let s = shared (shown u) t u 0 [] [] (e ∙ sym (append-nil (shown u))) (sym (append-nil (shown u))) in
    s.left_at x ∙ ap (λ (l : List ℕ). s.past x ++ l) (both_end x s.wanted s.left s.right (0 + length (shown u)) s.left_is s.right_is) ∙ sym (s.right_at x)

-- a text of the grammar is a program's
pub record Told (t : Whole) : Type 0 where
  pub prog : Prog
  pub right : Right prog
  pub same : print prog ≡ shown t
  pub at : (x : New) → begun_in x prog ≡ places x t 0

pub told : (t : Whole) → Told t
told t =
    let g = gathered t in
    let s = spelt_out g.0 g.1.0 in
    record { prog = g.0; right = g.1.0; same = g.1.1; at = λ x. sym (s.at x) ∙ same_places x s.text t (s.is ∙ g.1.1) }

-- what begins at a place, in a text and in its program
pub nth_told : (x : New) (n : ℕ) (t : Whole) (q : Prog) (p : ℕ) → begun_in x q ≡ places x t 0 → NthIn x n t p → Nth x n q p
nth_told x n t q p e h = (h.0, (h.1.0, (e ∙ h.1.1.0, h.1.1.1)))

pub nth_in : (x : New) (n : ℕ) (t : Whole) (q : Prog) (p : ℕ) → begun_in x q ≡ places x t 0 → Nth x n q p → NthIn x n t p
nth_in x n t q p e h = (h.0, (h.1.0, (sym e ∙ h.1.1.0, h.1.1.1)))

text_count : (x : New) (n : ℕ) (t u : Whole) (before a b : List ℕ) → shown t ≡ before ++ a → shown u ≡ before ++ b → NthIn x n t (length before) → NthIn x n u (length before)
text_count x n t u before a b e f h =
    let s = shared before t u 0 a b e f in
    let i : ℕ = length before in
    let z : 0 + length before ≡ length before = omega arith in
    let lt : places x t 0 ≡ s.past x ++ places x s.left i = s.left_at x ∙ ap (λ (j : ℕ). s.past x ++ places x s.left j) z in
    let rt : places x u 0 ≡ s.past x ++ places x s.right i = s.right_at x ∙ ap (λ (j : ℕ). s.past x ++ places x s.right j) z in
    let k = sorted i n (s.past x) h.0 h.1.0 (beyond x s.left i) (subst (λ (j : ℕ). Below j (s.past x)) z (s.below x)) (beyond_above x s.left i) h.1.1.1 (mark x s.wanted)
    (ap (λ (l : List ℕ). s.past x ++ l) (sym (places_first x s.left i)) ∙ sym lt ∙ h.1.1.0) in
    (s.past x, (beyond x s.right i, (rt ∙ ap (λ (l : List ℕ). s.past x ++ l) (places_first x s.right i ∙ ap (λ (m : Bool). noted m i (beyond x s.right i)) k.0), k.1)))

pub one_count : OneCount
one_count x n p q before a b r s e f h =
    let t = spelt_out p r in
    let u = spelt_out q s in
    nth_told x n u.text q (length before) (sym (u.at x))
    (text_count x n t.text u.text before a b (t.is ∙ e) (u.is ∙ f) (nth_in x n t.text p (length before) (sym (t.at x)) h))
