-- How far reading has come, and what a text that begins so has begun by then.
use Rattle.std.proofs.Common.{◌≡◌, ℕ, ◌+◌, ◌-◌, ◌*◌, ◌<◌, ◌≤◌, Bool, true, false, cond, ◌&&◌, eqb, ltb, leb, List, [], ◌∷◌, ◌++◌, length, get_or, sym, refl, ap, ◌∙◌, subst, arith}
use Rattle.std.proofs.lemmas.Bool.{eqb-true, eqb-false, ltb-true, leb-true, and_parts}
use Rattle.std.proofs.lemmas.List.{append_assoc, append-nil, length_push, length-append, get_or_append_left}
use Rattle.syntax.specs.Grammar.{Stop, Want, byte, wants, words}
use Rattle.syntax.specs.Grammar.Want.{stop, number, digits, item, word}
use Rattle.syntax.specs.Reading.{Seen, Move, go, step, over, start_none, after, began, spelled, digit, full, begun, many, passed, push, counted, opened}
use Rattle.syntax.specs.Reading.Move.{on, off}
use Rattle.syntax.specs.Reading.Outcome.{refused}
use Rattle.syntax.specs.Texts.{Digits, valued}
use Rattle.syntax.specs.declared.grammar.Form.{Form}
use Rattle.syntax.specs.declared.grammar.Sort.{Sort}
use Rattle.syntax.specs.declared.grammar.Sort.TheVariants.{First}
use Rattle.syntax.proofs.Steps.{go_cons, moved}
use Rattle.syntax.proofs.Sound.{Plain, Fine, Sound, step_sound, plain_wants}
use Rattle.syntax.proofs.Depths.{Inv, inv_start, inv_step, step_keeps, Keeps}
use Rattle.syntax.proofs.Runs.{small as counted_small}

-- reading the bytes has come to want ws, with s seen
pub data Reach : List ℕ → List Want → Seen → Type 0 where
  begin : Reach [] (item First ∷ []) start_none
  next : {before : List ℕ} {ws : List Want} {s : Seen} → Reach before ws s → (c : ℕ) (vs : List Want) (q : Seen) → step ws s (length before) c ≡ on vs q → Reach (before ++ c ∷ []) vs q

pub held : {before : List ℕ} {ws : List Want} {s : Seen} → Reach before ws s → Inv before ws s
held begin = inv_start
held (next {before} {ws} {s} r c vs q e) =
    let v = held r in
    inv_step before ws s (length before) c vs q v
    (subst (Sound ws (length before) c) e (step_sound ws s (length before) c v.fine))
    (subst (Keeps ws s c) e (step_keeps ws s (length before) c v.fine v.clean v.depth))

-- one byte, by what is wanted
pub data Stepped (s : Seen) (i c : ℕ) : List Want → Move → Type 0 where
  wrong : {ws : List Want} → Stepped s i c ws (off 11 i)
  stopped : {a : Stop} {ws : List Want} → c ≡ byte a → Stepped s i c (stop a ∷ ws) (on ws (passed a s))
  zeroed : {k : Bool} {a : Stop} {ws : List Want} → c ≡ 48 → Stepped s i c (number k a ∷ ws) (on (stop a ∷ ws) (push 0 s))
  digited : {k : Bool} {a : Stop} {ws : List Want} → digit c ≡ true → (c ≡ 48 → ⊥) → Stepped s i c (number k a ∷ ws) (on (digits k i (c - 48) a ∷ ws) s)
  numbered : {k : Bool} {j v : ℕ} {a : Stop} {ws : List Want} → c ≡ byte a → Stepped s i c (digits k j v a ∷ ws) (on ws (passed a (push v s)))
  longer : {k : Bool} {j v : ℕ} {a : Stop} {ws : List Want} → digit c ≡ true → v * 10 + (c - 48) < 65536 → counted k (v * 10 + (c - 48)) ≡ false →
      Stepped s i c (digits k j v a ∷ ws) (on (digits k j (v * 10 + (c - 48)) a ∷ ws) s)
  passes : {k : Bool} {j v : ℕ} {a : Stop} {ws : List Want} → digit c ≡ true → v * 10 + (c - 48) < 65536 → counted k (v * 10 + (c - 48)) ≡ true →
      Stepped s i c (digits k j v a ∷ ws) (off 14 j)
  deeper : {o : Sort} {ws : List Want} (x : List ℕ × Form) (l : List (List ℕ × Form)) → after c (words o) ≡ x ∷ l → c ≡ 40 → 64 ≤ s.depth → Stepped s i c (item o ∷ ws) (off 12 i)
  fuller : {o : Sort} {ws : List Want} (x : List ℕ × Form) (l : List (List ℕ × Form)) → after c (words o) ≡ x ∷ l → full o s ≡ true → Stepped s i c (item o ∷ ws) (off 13 i)
  started : {o : Sort} {ws : List Want} (x : List ℕ × Form) (l : List (List ℕ × Form)) → after c (words o) ≡ x ∷ l → full o s ≡ false →
      Stepped s i c (item o ∷ ws) (on (word o (x ∷ l) ∷ ws) (begun o s))
  whole : {o : Sort} {ks : List (List ℕ × Form)} {ws : List Want} (f : Form) (l : List (List ℕ × Form)) → after c ks ≡ ([], f) ∷ l → Stepped s i c (word o ks ∷ ws) (on (wants f ws) (opened f s))
  letter : {o : Sort} {ks : List (List ℕ × Form)} {ws : List Want} (b : ℕ) (w : List ℕ) (f : Form) (l : List (List ℕ × Form)) → after c ks ≡ (b ∷ w, f) ∷ l → many o c s ≡ false →
      Stepped s i c (word o ks ∷ ws) (on (word o ((b ∷ w, f) ∷ l) ∷ ws) s)
  crowded : {o : Sort} {ks : List (List ℕ × Form)} {ws : List Want} (b : ℕ) (w : List ℕ) (f : Form) (l : List (List ℕ × Form)) → after c ks ≡ (b ∷ w, f) ∷ l → many o c s ≡ true →
      Stepped s i c (word o ks ∷ ws) (off 14 (i - 1))

module _ (s : Seen) (i c : ℕ) where
  either : (ws : List Want) (b : Bool) (m n : Move) → (b ≡ true → Stepped s i c ws m) → (b ≡ false → Stepped s i c ws n) → Stepped s i c ws (cond b m n)
  either ws true m n h k = h refl
  either ws false m n h k = k refl

  began_is : (o : Sort) (ws : List Want) (l : List (List ℕ × Form)) → after c (words o) ≡ l → Stepped s i c (item o ∷ ws) (began o l ws s i c)
  began_is o ws [] e = wrong
  began_is o ws (x ∷ l) e =
      either (item o ∷ ws) (eqb c 40 && leb 64 s.depth) (off 12 i) (cond (full o s) (off 13 i) (on (word o (x ∷ l) ∷ ws) (begun o s)))
      (λ h. let z = and_parts (eqb c 40) (leb 64 s.depth) h in deeper x l e (eqb-true c 40 z.0) (leb-true 64 s.depth z.1))
      (λ h. either (item o ∷ ws) (full o s) (off 13 i) (on (word o (x ∷ l) ∷ ws) (begun o s)) (λ g. fuller x l e g) (λ g. started x l e g))

  spelled_is : (o : Sort) (ks : List (List ℕ × Form)) (ws : List Want) (l : List (List ℕ × Form)) → after c ks ≡ l → Stepped s i c (word o ks ∷ ws) (spelled o l ws s i c)
  spelled_is o ks ws [] e = wrong
  spelled_is o ks ws (([], f) ∷ l) e = whole f l e
  spelled_is o ks ws ((b ∷ w, f) ∷ l) e =
      either (word o ks ∷ ws) (many o c s) (off 14 (i - 1)) (on (word o ((b ∷ w, f) ∷ l) ∷ ws) s) (λ h. crowded b w f l e h) (λ h. letter b w f l e h)

  pub step_is : (ws : List Want) → Stepped s i c ws (step ws s i c)
  step_is [] = wrong
  step_is (stop a ∷ ws) = either (stop a ∷ ws) (eqb c (byte a)) (on ws (passed a s)) (off 11 i) (λ h. stopped (eqb-true c (byte a) h)) (λ h. wrong)
  step_is (number k a ∷ ws) =
      either (number k a ∷ ws) (eqb c 48) (on (stop a ∷ ws) (push 0 s)) (cond (digit c) (on (digits k i (c - 48) a ∷ ws) s) (off 11 i)) (λ h. zeroed (eqb-true c 48 h))
      (λ h. either (number k a ∷ ws) (digit c) (on (digits k i (c - 48) a ∷ ws) s) (off 11 i) (λ g. digited g (eqb-false c 48 h)) (λ g. wrong))
  step_is (digits k j v a ∷ ws) =
      let m : ℕ = v * 10 + (c - 48) in
      either (digits k j v a ∷ ws) (eqb c (byte a)) (on ws (passed a (push v s))) (cond (digit c && ltb m 65536) (cond (counted k m) (off 14 j) (on (digits k j m a ∷ ws) s)) (off 11 i))
      (λ h. numbered (eqb-true c (byte a) h))
      (λ h. either (digits k j v a ∷ ws) (digit c && ltb m 65536) (cond (counted k m) (off 14 j) (on (digits k j m a ∷ ws) s)) (off 11 i)
      (λ g. let z = and_parts (digit c) (ltb m 65536) g in
      either (digits k j v a ∷ ws) (counted k m) (off 14 j) (on (digits k j m a ∷ ws) s) (λ f. passes z.0 (ltb-true m 65536 z.1) f) (λ f. longer z.0 (ltb-true m 65536 z.1) f))
      (λ g. wrong))
  step_is (item o ∷ ws) = began_is o ws (after c (words o)) refl
  step_is (word o ks ∷ ws) = spelled_is o ks ws (after c ks) refl

-- the digits before a place
pub record Tail (before : List ℕ) (j v : ℕ) : Type 0 where
  pub pre : List ℕ
  pub ds : List ℕ
  pub is : before ≡ pre ++ ds
  pub place : length pre ≡ j
  pub all : Digits ds
  pub value : valued 0 ds ≡ v
  pub some : 0 < length ds
  pub lead : get_or ds 0 0 ≡ 48 → ⊥

digits_push : (ds : List ℕ) (c : ℕ) → Digits ds → digit c ≡ true → Digits (ds ++ c ∷ [])
digits_push [] c h k = (k, tt)
digits_push (d ∷ ds) c h k = (h.0, digits_push ds c h.1 k)

valued_push : (v : ℕ) (ds : List ℕ) (c : ℕ) → valued v (ds ++ c ∷ []) ≡ valued v ds * 10 + (c - 48)
valued_push v [] c = refl
valued_push v (d ∷ ds) c = valued_push (v * 10 + (d - 48)) ds c

pub more_tail : (before : List ℕ) (j v c : ℕ) → Tail before j v → digit c ≡ true → Tail (before ++ c ∷ []) j (v * 10 + (c - 48))
more_tail before j v c t h =
    record {
      pre = t.pre;
      ds = t.ds ++ c ∷ [];
      is = ap (λ (x : List ℕ). x ++ c ∷ []) t.is ∙ append_assoc t.pre t.ds (c ∷ []);
      place = t.place;
      all = digits_push t.ds c t.all h;
      value = valued_push 0 t.ds c ∙ ap (λ (x : ℕ). x * 10 + (c - 48)) t.value;
      some = omega (arith, length_push t.ds c, t.some);
      lead = λ e. t.lead (sym (get_or_append_left t.ds (c ∷ []) 0 0 t.some) ∙ e);
    }

-- a number that is half read has its digits behind it, and does not pass its limit
abbrev pub Half : List ℕ → List Want → Type 0
Half before [] = Unit {0}
Half before (stop a ∷ ws) = Unit {0}
Half before (number k a ∷ ws) = Unit {0}
Half before (digits k j v a ∷ ws) = Tail before j v × (counted k v ≡ false)
Half before (item o ∷ ws) = Unit {0}
Half before (word o ks ∷ ws) = Unit {0}

half_plain : (before : List ℕ) (ws : List Want) → Plain ws → Half before ws
half_plain before [] p = tt
half_plain before (stop a ∷ ws) p = tt
half_plain before (number k a ∷ ws) p = tt
half_plain before (digits k j v a ∷ ws) p = absurd p
half_plain before (item o ∷ ws) p = tt
half_plain before (word o ks ∷ ws) p = absurd p

abbrev Halves : List ℕ → ℕ → Move → Type 0
Halves before c (on vs q) = Half (before ++ c ∷ []) vs
Halves before c (off n p) = p ≤ length before

small : (k : Bool) (c : ℕ) → digit c ≡ true → counted k (c - 48) ≡ false
small k c h = counted_small k (c - 48) (let z = and_parts (leb 48 c) (leb c 57) h in omega (arith, leb-true c 57 z.1))

half_step : (before : List ℕ) (s : Seen) (c : ℕ) {ws : List Want} {m : Move} → Stepped s (length before) c ws m → Fine ws → Half before ws → Halves before c m
half_step before s c wrong p h = omega arith
half_step before s c (stopped {a} {ws} e) p h = half_plain (before ++ c ∷ []) ws p
half_step before s c (zeroed e) p h = tt
half_step before s c (digited {k} e n) p h = (record { pre = before; ds = c ∷ []; is = refl; place = refl; all = (e, tt); value = omega arith; some = omega arith; lead = n }, small k c e)
half_step before s c (numbered {k} {j} {v} {a} {ws} e) p h = half_plain (before ++ c ∷ []) ws p.1
half_step before s c (longer {k} {j} {v} e l n) p h = (more_tail before j v c h.0 e, n)
half_step before s c (passes {k} {j} {v} e l n) p h = let t = h.0 in let z : length before ≡ length t.pre + length t.ds = ap (λ (x : List ℕ). length x) t.is ∙ length-append t.pre t.ds in omega (arith, t.place)
half_step before s c (deeper x l e f g) p h = omega arith
half_step before s c (fuller x l e f) p h = omega arith
half_step before s c (started x l e f) p h = tt
half_step before s c (whole {o} {ks} {ws} f l e) p h = half_plain (before ++ c ∷ []) (wants f ws) (plain_wants f ws p.2)
half_step before s c (letter b w f l e g) p h = tt
half_step before s c (crowded b w f l e g) p h = omega arith

pub halved : {before : List ℕ} {ws : List Want} {s : Seen} → Reach before ws s → Half before ws
halved begin = tt
halved (next {before} {ws} {s} r c vs q e) = subst (Halves before c) e (half_step before s c (step_is s (length before) c ws) (held r).fine (halved r))

-- reading all, of which some bytes come first and others behind them, is refused at one of the first, or comes to their end
pub data Comes (all before after : List ℕ) : Type 0 where
  stops : (n p : ℕ) → p < length before → go all (item First ∷ []) start_none 0 ≡ refused n p → Comes all before after
  comes : (ws : List Want) (s : Seen) → Reach before ws s → go all (item First ∷ []) start_none 0 ≡ go after ws s (length before) → Comes all before after

come_from : (mid before after all : List ℕ) (ws : List Want) (s : Seen) → Reach before ws s → go all (item First ∷ []) start_none 0 ≡ go (mid ++ after) ws s (length before) → Comes all (before ++ mid) after
come_from [] before after all ws s r e = subst (λ (x : List ℕ). Comes all x after) (sym (append-nil before)) (comes ws s r e)
come_from (c ∷ mid) before after all ws s r e =
    at (step ws s (length before) c) refl (half_step before s c (step_is s (length before) c ws) (held r).fine (halved r)) (e ∙ go_cons c (mid ++ after) ws s (length before))
    (λ vs q r' e'. come_from mid (before ++ c ∷ []) after all vs q r' e')
  where
    at : (m : Move) → step ws s (length before) c ≡ m → Halves before c m → go all (item First ∷ []) start_none 0 ≡ moved (mid ++ after) (length before) m →
        ((vs : List Want) (q : Seen) → Reach (before ++ c ∷ []) vs q → go all (item First ∷ []) start_none 0 ≡ go (mid ++ after) vs q (length (before ++ c ∷ [])) → Comes all ((before ++ c ∷ []) ++ mid) after) →
        Comes all (before ++ c ∷ mid) after
    at (on vs q) h g f k = subst (λ (x : List ℕ). Comes all x after) (append_assoc before (c ∷ []) mid) (k vs q (next r c vs q h) (f ∙ ap (go (mid ++ after) vs q) (sym (length_push before c))))
    at (off n p) h g f k = stops n p (let z = length-append before (c ∷ mid) in omega arith) f

pub come : (before after all : List ℕ) → all ≡ before ++ after → Comes all before after
come before after all e = come_from before [] after all (item First ∷ []) start_none begin (ap (λ (x : List ℕ). go x (item First ∷ []) start_none 0) e)

-- where a limit's refusal is found
pub record Halt (bs : List ℕ) (n p : ℕ) : Type 0 where
  pub before : List ℕ
  pub c : ℕ
  pub after : List ℕ
  pub split : bs ≡ before ++ c ∷ after
  pub wanted : List Want
  pub seen : Seen
  pub reach : Reach before wanted seen
  pub found : Stepped seen (length before) c wanted (off n p)
  pub low : p ≤ length before

halt_from : (bs before : List ℕ) (ws : List Want) (s : Seen) (n p : ℕ) → (n ≡ 11 → ⊥) → Reach before ws s → go bs ws s (length before) ≡ refused n p → Halt (before ++ bs) n p
unfolding go
halt_from [] before ws s n p z r e = at ws e
  where
    at : (vs : List Want) → over vs s (length before) ≡ refused n p → Halt (before ++ []) n p
    at [] h = absurd (let y : ◌≡◌ {A = ℕ} 0 1 = cc in omega arith)
    at (w ∷ vs) h = absurd (z (let y : n ≡ 11 = cc in y))
halt_from (c ∷ bs) before ws s n p z r e =
    at (step ws s (length before) c) refl (step_is s (length before) c ws) (half_step before s c (step_is s (length before) c ws) (held r).fine (halved r)) (sym (go_cons c bs ws s (length before)) ∙ e) (λ vs q r' e'. halt_from bs (before ++ c ∷ []) vs q n p z r' e')
  where
    at : (m : Move) → step ws s (length before) c ≡ m → Stepped s (length before) c ws m → Halves before c m → moved bs (length before) m ≡ refused n p →
        ((vs : List Want) (q : Seen) → Reach (before ++ c ∷ []) vs q → go bs vs q (length (before ++ c ∷ [])) ≡ refused n p → Halt ((before ++ c ∷ []) ++ bs) n p) → Halt (before ++ c ∷ bs) n p
    at (on vs q) h g low f k = subst (λ (x : List ℕ). Halt x n p) (append_assoc before (c ∷ []) bs) (k vs q (next r c vs q h) (ap (go bs vs q) (length_push before c) ∙ f))
    at (off m q) h g low f k =
        let y : m ≡ n = cc in
        let x : q ≡ p = cc in
        record {
          before = before;
          c = c;
          after = bs;
          split = refl;
          wanted = ws;
          seen = s;
          reach = r;
          low = subst (λ (j : ℕ). j ≤ length before) x low;
          found = subst (λ (j : ℕ). Stepped s (length before) c ws (off n j)) x (subst (λ (j : ℕ). Stepped s (length before) c ws (off j q)) y g);
        }

pub halt : (bs : List ℕ) (n p : ℕ) → (n ≡ 11 → ⊥) → go bs (item First ∷ []) start_none 0 ≡ refused n p → Halt bs n p
halt bs n p z e = halt_from bs [] (item First ∷ []) start_none n p z begin e
