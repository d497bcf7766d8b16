-- A byte that is taken comes before every text of what is wanted then; and every state can be completed.
use Rattle.std.proofs.Common.{◌≡◌, ℕ, ◌+◌, ◌-◌, ◌*◌, ◌<◌, Bool, true, false, cond, ◌&&◌, eqb, ltb, leb, List, [], ◌∷◌, ◌++◌, sym, refl, ap, ◌∙◌, subst, arith}
use Rattle.std.proofs.lemmas.Bool.{eqb-true, eqb-false, ltb-true, leb-true, and_parts}
use Rattle.syntax.specs.Grammar.{Stop, Want, Part, byte, wants, words, more, shut, parts, row}
use Rattle.syntax.specs.Grammar.Part.{num, sub}
use Rattle.syntax.specs.Grammar.Want.{stop, number, digits, item, word}
use Rattle.syntax.specs.Reading.{Seen, Move, step, after, began, spelled, digit, full, begun, many, passed, push, counted}
use Rattle.syntax.specs.Reading.Move.{on, off}
use Rattle.syntax.specs.Texts.{In, Digits, valued, Apart}
use Rattle.syntax.proofs.Texts.{Text, shown}
use Rattle.syntax.specs.Texts.In.{here, there}
use Rattle.syntax.proofs.Texts.Text.{past, nought, some, rest, pick, spell}
use Rattle.syntax.specs.declared.grammar.Form.{Form}
use Rattle.syntax.specs.declared.grammar.Form.TheVariants.{TNum, TNone, TFn, TBox, TAt, TBoth, Site, Bound, Num, Val, Lam, App, Boxed, Unbox, Here, Letd, Getb, Getd, Getn, Pair, Fst, Snd, Letcc, Throw, Go, Gauge, Gate, Below, Station, Run}
use Rattle.syntax.specs.declared.grammar.Sort.{Sort}
use Rattle.syntax.specs.declared.grammar.Sort.TheVariants.{Types, Worlds, Terms, First, Further}
use Rattle.syntax.proofs.Theory.{words_apart, apart_after}

-- nothing is half read
abbrev pub Plain : List Want → Type 0
Plain [] = Unit {0}
Plain (stop a ∷ ws) = Plain ws
Plain (number k a ∷ ws) = Plain ws
Plain (digits k p v a ∷ ws) = ⊥
Plain (item o ∷ ws) = Plain ws
Plain (word o ks ∷ ws) = ⊥

-- a word can still be had
pub record Some (ks : List (List ℕ × Form)) : Type 0 where
  pub b : ℕ
  pub w : List ℕ
  pub f : Form
  pub found : In (b ∷ w) f ks

-- what reading can come to want
abbrev pub Fine : List Want → Type 0
Fine [] = Unit {0}
Fine (stop a ∷ ws) = Plain ws
Fine (number k a ∷ ws) = Plain ws
Fine (digits k p v a ∷ ws) = (v < 65536) × Plain ws
Fine (item o ∷ ws) = Plain ws
Fine (word o ks ∷ ws) = Some ks × Apart ks × Plain ws

plain_fine : (ws : List Want) → Plain ws → Fine ws
plain_fine [] p = tt
plain_fine (stop a ∷ ws) p = p
plain_fine (number k a ∷ ws) p = p
plain_fine (digits k q v a ∷ ws) p = absurd p
plain_fine (item o ∷ ws) p = p
plain_fine (word o ks ∷ ws) p = absurd p

pub plain_next : (f : Form) (ws : List Want) → Plain ws → Plain ((row f).next ++ ws)
plain_next TNum ws p = p
plain_next TNone ws p = p
plain_next TFn ws p = p
plain_next TBox ws p = p
plain_next TAt ws p = p
plain_next TBoth ws p = p
plain_next Site ws p = p
plain_next Bound ws p = p
plain_next Num ws p = p
plain_next Val ws p = p
plain_next Lam ws p = p
plain_next App ws p = p
plain_next Boxed ws p = p
plain_next Unbox ws p = p
plain_next Here ws p = p
plain_next Letd ws p = p
plain_next Getb ws p = p
plain_next Getd ws p = p
plain_next Getn ws p = p
plain_next Pair ws p = p
plain_next Fst ws p = p
plain_next Snd ws p = p
plain_next Letcc ws p = p
plain_next Throw ws p = p
plain_next Go ws p = p
plain_next Gauge ws p = p
plain_next Gate ws p = p
plain_next Below ws p = p
plain_next Station ws p = p
plain_next Run ws p = p

plain_more : (f : Form) (ps : List Part) (ws : List Want) → Plain ws → Plain (more f ps ws)
plain_more f [] ws p = p
plain_more f (num ∷ ps) ws p = plain_more f ps ws p
plain_more f (sub k ∷ ps) ws p = plain_more f ps ws p

plain_shut : (f : Form) (ps : List Part) (ws : List Want) → Plain ws → Plain (shut f ps ws)
plain_shut f [] ws p = p
plain_shut f (q ∷ ps) ws p = plain_more f (q ∷ ps) ws p

pub plain_wants : (f : Form) (ws : List Want) → Plain ws → Plain (wants f ws)
plain_wants f ws p = plain_shut f (parts f) ((row f).next ++ ws) (plain_next f ws p)

-- words of two bytes and more, of one byte and more
abbrev pub Wide : List (List ℕ × Form) → Type 0
Wide [] = Unit {0}
Wide (([], f) ∷ ks) = ⊥
Wide ((b ∷ [], f) ∷ ks) = ⊥
Wide ((b ∷ d ∷ w, f) ∷ ks) = Wide ks

wide : (o : Sort) → Wide (words o)
wide Types = tt
wide Worlds = tt
wide Terms = tt
wide First = tt
wide Further = tt

abbrev pub Whole : List (List ℕ × Form) → Type 0
Whole [] = Unit {0}
Whole (([], f) ∷ ks) = ⊥
Whole ((b ∷ w, f) ∷ ks) = Whole ks

pub wide_after : (c : ℕ) (ks : List (List ℕ × Form)) → Wide ks → Whole (after c ks)
wide_after c [] h = tt
wide_after c (([], f) ∷ ks) h = absurd h
wide_after c ((b ∷ [], f) ∷ ks) h = absurd h
wide_after c ((b ∷ d ∷ w, f) ∷ ks) h = at (eqb c b) (wide_after c ks h)
  where
    at : (t : Bool) → Whole (after c ks) → Whole (cond t ((d ∷ w, f) ∷ after c ks) (after c ks))
    at true r = r
    at false r = r

from_first : (c b : ℕ) (w v : List ℕ) (f g : Form) (l ks : List (List ℕ × Form)) → In w f ((v, g) ∷ l) → c ≡ b → (In w f l → In (c ∷ w) f ks) → In (c ∷ w) f ((b ∷ v, g) ∷ ks)
from_first c b w v f g l ks here e r = subst (λ (x : ℕ). In (c ∷ w) f ((x ∷ w, f) ∷ ks)) e here
from_first c b w v f g l ks (there n) e r = there (r n)

pub from_after : (c : ℕ) (w : List ℕ) (f : Form) (ks : List (List ℕ × Form)) → In w f (after c ks) → In (c ∷ w) f ks
from_after c w f [] m = elim m [ ]
from_after c w f (([], g) ∷ ks) m = there (from_after c w f ks m)
from_after c w f ((b ∷ v, g) ∷ ks) m = at (eqb c b) refl m (λ n. from_after c w f ks n)
  where
    at : (t : Bool) → eqb c b ≡ t → In w f (cond t ((v, g) ∷ after c ks) (after c ks)) → (In w f (after c ks) → In (c ∷ w) f ks) → In (c ∷ w) f ((b ∷ v, g) ∷ ks)
    at true e n r = from_first c b w v f g (after c ks) ks n (eqb-true c b e) r
    at false e n r = there (r n)

-- a move is sound: what it wants is fine, and the byte comes before each text of it; refusal 11 names the place
abbrev pub Sound : List Want → ℕ → ℕ → Move → Type 0
Sound ws i c (on vs s) = Fine vs × ((u : Text vs) → (t : Text ws) × (shown t ≡ c ∷ shown u))
Sound ws i c (off n p) = n ≡ 11 → p ≡ i

sound_cond : (ws : List Want) (i c : ℕ) (b : Bool) (m n : Move) → (b ≡ true → Sound ws i c m) → (b ≡ false → Sound ws i c n) → Sound ws i c (cond b m n)
sound_cond ws i c true m n h k = h refl
sound_cond ws i c false m n h k = k refl

un_past : {a : Stop} {ws : List Want} (u : Text (stop a ∷ ws)) → (t : Text ws) × (shown u ≡ byte a ∷ shown t)
un_past (past a t) = (t, refl)

pub record Rest (k : Bool) (p v : ℕ) (a : Stop) (ws : List Want) (u : Text (digits k p v a ∷ ws)) : Type 0 where
  pub ds : List ℕ
  pub all : Digits ds
  pub small : valued v ds < 65536
  pub then : Text ws
  pub is : shown u ≡ ds ++ byte a ∷ shown then

un_rest : {k : Bool} {p v : ℕ} {a : Stop} {ws : List Want} (u : Text (digits k p v a ∷ ws)) → Rest k p v a ws u
un_rest (rest k p v a ds hs l t) = record { ds = ds; all = hs; small = l; then = t; is = refl }

pub record Spelt (o : Sort) (ks : List (List ℕ × Form)) (ws : List Want) (u : Text (word o ks ∷ ws)) : Type 0 where
  pub b : ℕ
  pub w : List ℕ
  pub f : Form
  pub found : In (b ∷ w) f ks
  pub then : Text (wants f ws)
  pub is : shown u ≡ b ∷ w ++ shown then

un_spell : {o : Sort} {ks : List (List ℕ × Form)} {ws : List Want} (u : Text (word o ks ∷ ws)) → Spelt o ks ws u
un_spell (spell o ks h b w f m t) = record { b = b; w = w; f = f; found = m; then = t; is = refl }

began_sound : (o : Sort) (ws : List Want) (s : Seen) (i c : ℕ) (l : List (List ℕ × Form)) → Plain ws → Apart l → Whole l → ((w : List ℕ) (f : Form) → In w f l → In (c ∷ w) f (words o)) →
    Sound (item o ∷ ws) i c (began o l ws s i c)
began_sound o ws s i c [] p h g from = λ e. refl
began_sound o ws s i c (([], f) ∷ ks) p h g from = absurd g
began_sound o ws s i c ((b ∷ w, f) ∷ ks) p h g from =
    let l : List (List ℕ × Form) = (b ∷ w, f) ∷ ks in
    let go_on : Sound (item o ∷ ws) i c (on (word o l ∷ ws) (begun o s)) = (
      (record { b = b; w = w; f = f; found = here }, h, p),
      λ u. let q = un_spell u in (pick o c q.b q.w q.f (from (q.b ∷ q.w) q.f q.found) q.then, ap (λ x. c ∷ x) (sym q.is)),
    ) in
    sound_cond (item o ∷ ws) i c (eqb c 40 && leb 64 s.depth) (off 12 i) (cond (full o s) (off 13 i) (on (word o l ∷ ws) (begun o s))) (λ e r. omega arith)
    (λ e. sound_cond (item o ∷ ws) i c (full o s) (off 13 i) (on (word o l ∷ ws) (begun o s)) (λ e' r. omega arith) (λ e'. go_on))

spelled_sound : (o : Sort) (ks : List (List ℕ × Form)) (ws : List Want) (s : Seen) (i c : ℕ) (l : List (List ℕ × Form)) → Plain ws → Apart ks → Apart l → ((w : List ℕ) (f : Form) → In w f l → In (c ∷ w) f ks) →
    Sound (word o ks ∷ ws) i c (spelled o l ws s i c)
spelled_sound o ks ws s i c [] p k h from = λ e. refl
spelled_sound o ks ws s i c (([], f) ∷ l) p k h from =
    (plain_fine (wants f ws) (plain_wants f ws p), λ u. (spell o ks k c [] f (from [] f here) u, refl))
spelled_sound o ks ws s i c ((b ∷ w, f) ∷ l) p k h from =
    let l' : List (List ℕ × Form) = (b ∷ w, f) ∷ l in
    let go_on : Sound (word o ks ∷ ws) i c (on (word o l' ∷ ws) s) = (
      (record { b = b; w = w; f = f; found = here }, h, p),
      λ u. let q = un_spell u in (spell o ks k c (q.b ∷ q.w) q.f (from (q.b ∷ q.w) q.f q.found) q.then, ap (λ x. c ∷ x) (sym q.is)),
    ) in
    sound_cond (word o ks ∷ ws) i c (many o c s) (off 14 (i - 1)) (on (word o l' ∷ ws) s) (λ e r. omega arith) (λ e. go_on)

pub step_sound : (ws : List Want) (s : Seen) (i c : ℕ) → Fine ws → Sound ws i c (step ws s i c)
step_sound [] s i c p = λ e. refl
step_sound (stop a ∷ ws) s i c p =
    sound_cond (stop a ∷ ws) i c (eqb c (byte a)) (on ws (passed a s)) (off 11 i)
    (λ e. (plain_fine ws p, λ u. (past a u, ap (λ x. x ∷ shown u) (sym (eqb-true c (byte a) e))))) (λ e r. refl)
step_sound (number k a ∷ ws) s i c p =
    sound_cond (number k a ∷ ws) i c (eqb c 48) (on (stop a ∷ ws) (push 0 s)) (cond (digit c) (on (digits k i (c - 48) a ∷ ws) s) (off 11 i))
    (λ e. (p, λ u. let q = un_past u in (nought k a q.0, ap (λ x. x ∷ byte a ∷ shown q.0) (sym (eqb-true c 48 e)) ∙ ap (λ x. c ∷ x) (sym q.1))))
    (λ e. sound_cond (number k a ∷ ws) i c (digit c) (on (digits k i (c - 48) a ∷ ws) s) (off 11 i)
    (λ d. (
      (let z = and_parts (leb 48 c) (leb c 57) d in omega (arith, leb-true c 57 z.1), p),
      λ u. let q = un_rest u in (some k a c q.ds d (eqb-false c 48 e) q.all q.small q.then, ap (λ x. c ∷ x) (sym q.is)),
    ))
    (λ d r. refl))
step_sound (digits k j v a ∷ ws) s i c p =
    let n : ℕ = v * 10 + (c - 48) in
    sound_cond (digits k j v a ∷ ws) i c (eqb c (byte a)) (on ws (passed a (push v s))) (cond (digit c && ltb n 65536) (cond (counted k n) (off 14 j) (on (digits k j n a ∷ ws) s)) (off 11 i))
    (λ e. (plain_fine ws p.1, λ u. (rest k j v a [] tt p.0 u, ap (λ x. x ∷ shown u) (sym (eqb-true c (byte a) e)))))
    (λ e. sound_cond (digits k j v a ∷ ws) i c (digit c && ltb n 65536) (cond (counted k n) (off 14 j) (on (digits k j n a ∷ ws) s)) (off 11 i)
    (λ d. let z = and_parts (digit c) (ltb n 65536) d in
    sound_cond (digits k j v a ∷ ws) i c (counted k n) (off 14 j) (on (digits k j n a ∷ ws) s) (λ g r. absurd (omega arith))
    (λ g. ((ltb-true n 65536 z.1, p.1), λ u. let q = un_rest u in (rest k j v a (c ∷ q.ds) (z.0, q.all) q.small q.then, ap (λ x. c ∷ x) (sym q.is)))))
    (λ d r. refl))
step_sound (item o ∷ ws) s i c p =
    began_sound o ws s i c (after c (words o)) p (apart_after c (words o) (words_apart o)) (wide_after c (words o) (wide o)) (λ w f m. from_after c w f (words o) m)
step_sound (word o ks ∷ ws) s i c p =
    spelled_sound o ks ws s i c (after c ks) p.2 p.1 (apart_after c ks p.1) (λ w f m. from_after c w f ks m)
