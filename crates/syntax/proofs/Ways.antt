-- What a text has begun where reading it has come.
use Rattle.std.proofs.Common.{◌≡◌, ℕ, ◌+◌, ◌-◌, ◌<◌, ◌≤◌, Bool, true, false, cond, eqb, List, [], ◌∷◌, ◌++◌, length, take, sym, refl, ap, ◌∙◌, subst, arith}
use Rattle.std.proofs.lemmas.Bool.{leb-false}
use Rattle.std.proofs.lemmas.List.{append_assoc, append-nil, length_push}
use Rattle.syntax.specs.Grammar.{Stop, Want, wants, parts, row, last, width}
use Rattle.syntax.specs.Grammar.Stop.{space, close, line}
use Rattle.syntax.specs.Grammar.Want.{stop, number, digits, item, word}
use Rattle.syntax.specs.Reading.{Seen, Move, step, full, begun, passed, push, opened, at_depth}
use Rattle.syntax.specs.Reading.Move.{on, off}
use Rattle.syntax.proofs.Texts.{Text, shown, places}
use Rattle.syntax.specs.Refusals.{New, new_item, noted}
use Rattle.syntax.specs.Refusals.New.{new_line, new_count, new_term, new_type}
use Rattle.syntax.specs.declared.grammar.Sort.{Sort}
use Rattle.syntax.specs.declared.grammar.Sort.TheVariants.{Types, Worlds, Terms, First, Further}
use Rattle.syntax.proofs.Theory.{Follows, takes, beyond, mark, places_first}
use Rattle.syntax.proofs.Sound.{Plain, Fine, plain_wants}
use Rattle.syntax.proofs.Forms.{begun_sizes, settled_sizes}
use Rattle.syntax.proofs.Reach.{Stepped, Reach, held, step_is}
use Rattle.syntax.proofs.Reach.Reach.{begin, next}
use Rattle.syntax.proofs.Begun.{Lined, line_step}
use Rattle.syntax.proofs.Texts.{Whole as TextWhole}
use Rattle.syntax.proofs.Reach.Stepped.{wrong, stopped, zeroed, digited, numbered, longer, passes, deeper, fuller, started, whole, letter, crowded}

-- how many types and terms were begun
pub record Sized (T M : List ℕ) (s : Seen) : Type 0 where
  pub tys : length T ≡ length s.tys
  pub tms : length M ≡ length s.tms
  pub few_tys : length s.tys ≤ 512
  pub few_tms : length s.tms ≤ 1024

passed_sizes : (a : Stop) (s : Seen) → (length (passed a s).tys ≡ length s.tys) × (length (passed a s).tms ≡ length s.tms)
passed_sizes space s = (refl, refl)
passed_sizes line s = (refl, refl)
passed_sizes (close f) s =
    let z = settled_sizes (width (parts f)) ((row f).make (take (width (parts f)) s.vals)) (at_depth (cond (eqb (last f) 41) (s.depth - 1) s.depth) s) in
    (omega (arith, z.tys), omega (arith, z.tms))

abbrev Sizes : List ℕ → List ℕ → ℕ → List Want → Move → Type 0
Sizes T M i ws (on vs q) = Sized (T ++ noted (mark new_type ws) i []) (M ++ noted (mark new_term ws) i []) q
Sizes T M i ws (off n p) = Unit {0}

same_size : (T M : List ℕ) (s q : Seen) → length q.tys ≡ length s.tys → length q.tms ≡ length s.tms → Sized T M s → Sized (T ++ []) (M ++ []) q
same_size T M s q e f h =
    let x = ap (λ (l : List ℕ). length l) (append-nil T) in
    let y = ap (λ (l : List ℕ). length l) (append-nil M) in
    record { tys = omega (arith, x, h.tys); tms = omega (arith, y, h.tms); few_tys = omega (arith, h.few_tys); few_tms = omega (arith, h.few_tms) }

started_size : (T M : List ℕ) (i : ℕ) (o : Sort) (s : Seen) → full o s ≡ false → Sized T M s → Sized (T ++ noted (new_item new_type o) i []) (M ++ noted (new_item new_term o) i []) (begun o s)
started_size T M i Types s f h =
    let x = length_push T i in
    let y = ap (λ (l : List ℕ). length l) (append-nil M) in
    let z = (begun_sizes Types s).tys in
    record { tys = omega (arith, x, z, h.tys); tms = omega (arith, y, h.tms); few_tys = omega (arith, z, leb-false 512 (length s.tys) f); few_tms = h.few_tms }
started_size T M i Terms s f h =
    let x = ap (λ (l : List ℕ). length l) (append-nil T) in
    let y = length_push M i in
    let z = (begun_sizes Terms s).tms in
    record { tys = omega (arith, x, h.tys); tms = omega (arith, y, z, h.tms); few_tys = h.few_tys; few_tms = omega (arith, z, leb-false 1024 (length s.tms) f) }
started_size T M i Worlds s f h = same_size T M s s refl refl h
started_size T M i First s f h = same_size T M s s refl refl h
started_size T M i Further s f h = same_size T M s s refl refl h

size_step : (T M : List ℕ) (s : Seen) (i c : ℕ) {ws : List Want} {m : Move} → Stepped s i c ws m → Sized T M s → Sizes T M i ws m
size_step T M s i c wrong h = tt
size_step T M s i c (stopped {a} e) h = let z = passed_sizes a s in same_size T M s (passed a s) z.0 z.1 h
size_step T M s i c (zeroed e) h = same_size T M s (push 0 s) refl refl h
size_step T M s i c (digited e n) h = same_size T M s s refl refl h
size_step T M s i c (numbered {k} {j} {v} {a} e) h = let z = passed_sizes a (push v s) in same_size T M s (passed a (push v s)) z.0 z.1 h
size_step T M s i c (longer e l n) h = same_size T M s s refl refl h
size_step T M s i c (passes e l n) h = tt
size_step T M s i c (deeper x l e f g) h = tt
size_step T M s i c (fuller x l e f) h = tt
size_step T M s i c (started {o} x l e f) h = started_size T M i o s f h
size_step T M s i c (whole f l e) h = same_size T M s (opened f s) refl refl h
size_step T M s i c (letter b w f l e g) h = same_size T M s s refl refl h
size_step T M s i c (crowded b w f l e g) h = tt

-- the count that is half read began last
abbrev pub Counting : List ℕ → List Want → Type 0
Counting C [] = Unit {0}
Counting C (stop a ∷ ws) = Unit {0}
Counting C (number k a ∷ ws) = Unit {0}
Counting C (digits k j v a ∷ ws) = k ≡ true → (l : List ℕ) × (C ≡ l ++ j ∷ [])
Counting C (item o ∷ ws) = Unit {0}
Counting C (word o ks ∷ ws) = Unit {0}

counting_plain : (C : List ℕ) (ws : List Want) → Plain ws → Counting C ws
counting_plain C [] p = tt
counting_plain C (stop a ∷ ws) p = tt
counting_plain C (number k a ∷ ws) p = tt
counting_plain C (digits k j v a ∷ ws) p = absurd p
counting_plain C (item o ∷ ws) p = tt
counting_plain C (word o ks ∷ ws) p = absurd p

abbrev Countings : List ℕ → ℕ → List Want → Move → Type 0
Countings C i ws (on vs q) = Counting (C ++ noted (mark new_count ws) i []) vs
Countings C i ws (off n p) = Unit {0}

count_step : (C : List ℕ) (s : Seen) (i c : ℕ) {ws : List Want} {m : Move} → Stepped s i c ws m → Fine ws → Counting C ws → Countings C i ws m
count_step C s i c wrong p h = tt
count_step C s i c (stopped {a} {ws} e) p h = counting_plain (C ++ []) ws p
count_step C s i c (zeroed e) p h = tt
count_step C s i c (digited {k} e n) p h = λ t. (C, ap (λ (b : Bool). C ++ noted b i []) t)
count_step C s i c (numbered {k} {j} {v} {a} {ws} e) p h = counting_plain (C ++ []) ws p.1
count_step C s i c (longer e l n) p h = λ t. let z = h t in (z.0, append-nil C ∙ z.1)
count_step C s i c (passes e l n) p h = tt
count_step C s i c (deeper x l e f g) p h = tt
count_step C s i c (fuller x l e f) p h = tt
count_step C s i c (started x l e f) p h = tt
count_step C s i c (whole {o} {ks} {ws} f l e) p h = counting_plain (C ++ []) (wants f ws) (plain_wants f ws p.2)
count_step C s i c (letter b w f l e g) p h = tt
count_step C s i c (crowded b w f l e g) p h = tt

-- all began before a place
abbrev pub Below : ℕ → List ℕ → Type 0
Below n [] = Unit {0}
Below n (i ∷ l) = (i < n) × Below n l

pub below_push : (n m : ℕ) (l : List ℕ) (b : Bool) → n < m → Below n l → Below m (l ++ noted b n [])
below_push n m [] true h k = (h, tt)
below_push n m [] false h k = tt
below_push n m (i ∷ l) b h k = (omega (arith, k.0), below_push n m l b h k.1)

pub noted_first : (b : Bool) (i : ℕ) (l : List ℕ) → noted b i l ≡ noted b i [] ++ l
noted_first true i l = refl
noted_first false i l = refl

-- a text that begins with what was read: what is left of it, and what began before
pub record Way (before : List ℕ) (ws : List Want) (s : Seen) (t : TextWhole) (rest : List ℕ) : Type 0 where
  pub left : Text ws
  pub is : shown left ≡ rest
  pub past : New → List ℕ
  pub all : (x : New) → places x t 0 ≡ past x ++ places x left (length before)
  pub below : (x : New) → Below (length before) (past x)
  pub sizes : Sized (past new_type) (past new_term) s
  pub lines : Lined before (past new_line) ws (length s.stations)
  pub count : Counting (past new_count) ws

way_step : (before : List ℕ) (ws : List Want) (s : Seen) (t : TextWhole) (c : ℕ) (rest : List ℕ) (vs : List Want) (q : Seen) → Fine ws → step ws s (length before) c ≡ on vs q → Way before ws s t (c ∷ rest) → Way (before ++ c ∷ []) vs q t rest
way_step before ws s t c rest vs q f e w =
    let i : ℕ = length before in
    let n : length (before ++ c ∷ []) ≡ i + 1 = length_push before c in
    let d : Stepped s i c ws (on vs q) = subst (Stepped s i c ws) e (step_is s i c ws) in
    let g = subst (λ (m : Move). Follows (λ x. beyond x w.left i) i m rest) e (takes w.left s i c rest w.is) in
    record {
      left = g.0;
      is = g.1;
      past = λ x. w.past x ++ noted (mark x ws) i [];
      all = λ x. w.all x ∙ ap (λ (l : List ℕ). w.past x ++ l) (places_first x w.left i ∙ noted_first (mark x ws) i (beyond x w.left i) ∙ ap (λ (l : List ℕ). noted (mark x ws) i [] ++ l) (g.2 x ∙ ap (places x g.0) (sym n)))
          ∙ sym (append_assoc (w.past x) (noted (mark x ws) i []) (places x g.0 (length (before ++ c ∷ []))));
      below = λ x. below_push i (length (before ++ c ∷ [])) (w.past x) (mark x ws) (omega (arith, n)) (w.below x);
      sizes = size_step (w.past new_type) (w.past new_term) s i c d w.sizes;
      lines = line_step before (w.past new_line) s c d f w.lines;
      count = count_step (w.past new_count) s i c d f w.count;
    }

pub way : {before : List ℕ} {ws : List Want} {s : Seen} → Reach before ws s → (t : TextWhole) (rest : List ℕ) → shown t ≡ before ++ rest → Way before ws s t rest
way begin t rest e = record {
  left = t;
  is = e;
  past = λ x. [];
  all = λ x. refl;
  below = λ x. tt;
  sizes = record { tys = refl; tms = refl; few_tys = omega arith; few_tms = omega arith };
  lines = (refl, refl, refl);
  count = tt;
}
way (next {before} {ws} {s} r c vs q e) t rest h =
    way_step before ws s t c rest vs q (held r).fine e (way r t (c ∷ rest) (h ∙ append_assoc before (c ∷ []) rest))
