-- The lines that were begun wherever reading has come.
use Rattle.std.proofs.Common.{◌≡◌, ℕ, ◌+◌, ◌-◌, ◌<◌, ◌≤◌, Bool, true, false, cond, not, ◌&&◌, eqb, leb, ◌⊎◌, List, [], ◌∷◌, ◌++◌, length, take, codes, sym, refl, ap, ◌∙◌, subst, inl, inr, ⊎_elim, arith}
use Rattle.std.proofs.lemmas.Bool.{eqb-true, leb-false, and_parts, not-true}
use Rattle.std.proofs.lemmas.List.{append-nil, length_push}
use Rattle.syntax.specs.Grammar.{Stop, Want, Part, Kind, Made, wants, words, more, shut, sep, parts, row, last, sort_of, width}
use Rattle.syntax.specs.Grammar.Stop.{space, close, line}
use Rattle.syntax.specs.Grammar.Want.{stop, number, digits, item, word}
use Rattle.syntax.specs.Grammar.Part.{num, sub}
use Rattle.syntax.specs.Grammar.Kind.{type, world, term}
use Rattle.syntax.specs.Grammar.Made.{a_type, a_world, a_term, a_station, a_start}
use Rattle.syntax.specs.Reading.{Seen, Move, after, begun, many, passed, push, at_depth, settled}
use Rattle.syntax.specs.Reading.Move.{on, off}
use Rattle.syntax.specs.Texts.{In}
use Rattle.syntax.specs.Refusals.{new_item, noted}
use Rattle.syntax.specs.Refusals.New.{new_line}
use Rattle.syntax.specs.declared.grammar.Form.{Form}
use Rattle.syntax.specs.declared.grammar.Form.TheVariants.{TNum, TNone, TFn, TBox, TAt, TBoth, Site, Bound, Num, Val, Lam, App, Boxed, Unbox, Here, Letd, Getb, Getd, Getn, Pair, Fst, Snd, Letcc, Throw, Go, Gauge, Gate, Below, Station, Run}
use Rattle.syntax.specs.declared.grammar.Sort.{Sort}
use Rattle.syntax.specs.declared.grammar.Sort.TheVariants.{Types, Worlds, Terms, First, Further}
use Rattle.syntax.proofs.Theory.{mark}
use Rattle.syntax.proofs.Sound.{Plain, Fine, Whole, wide_after}
use Rattle.syntax.proofs.Rows.{in_kind, inner}
use Rattle.syntax.specs.Texts.In.{here, there}
use Rattle.syntax.proofs.Reach.{Stepped}
use Rattle.syntax.proofs.Reach.Stepped.{wrong, stopped, zeroed, digited, numbered, longer, passes, deeper, fuller, started, whole, letter, crowded}

-- what a form that ends adds to the stations
abbrev pub adds : Stop → ℕ
adds space = 0
adds (close f) = cond (row f).counts 1 0
adds line = 0

abbrev made_adds : Made → ℕ
made_adds (a_type t) = 0
made_adds (a_world c) = 0
made_adds (a_term t) = 0
made_adds (a_station g h) = 1
made_adds (a_start n) = 0

settled_adds : (n : ℕ) (m : Made) (s : Seen) → length (settled n m s).stations ≡ length s.stations + made_adds m
settled_adds n (a_type t) s = omega arith
settled_adds n (a_world c) s = omega arith
settled_adds n (a_term t) s = omega arith
settled_adds n (a_station g h) s = length_push s.stations _
settled_adds n (a_start w) s = omega arith

form_adds : (f : Form) (v : List ℕ) → made_adds ((row f).make v) ≡ cond (row f).counts 1 0
form_adds TNum v = refl
form_adds TNone v = refl
form_adds TFn v = refl
form_adds TBox v = refl
form_adds TAt v = refl
form_adds TBoth v = refl
form_adds Site v = refl
form_adds Bound v = refl
form_adds Num v = refl
form_adds Val v = refl
form_adds Lam v = refl
form_adds App v = refl
form_adds Boxed v = refl
form_adds Unbox v = refl
form_adds Here v = refl
form_adds Letd v = refl
form_adds Getb v = refl
form_adds Getd v = refl
form_adds Getn v = refl
form_adds Pair v = refl
form_adds Fst v = refl
form_adds Snd v = refl
form_adds Letcc v = refl
form_adds Throw v = refl
form_adds Go v = refl
form_adds Gauge v = refl
form_adds Gate v = refl
form_adds Below v = refl
form_adds Station v = refl
form_adds Run v = refl

passed_adds : (a : Stop) (s : Seen) → length (passed a s).stations ≡ length s.stations + adds a
passed_adds space s = omega arith
passed_adds line s = omega arith
passed_adds (close f) s =
    let v : List ℕ = take (width (parts f)) s.vals in
    settled_adds (width (parts f)) ((row f).make v) (at_depth (cond (eqb (last f) 41) (s.depth - 1) s.depth) s) ∙ ap (λ (x : ℕ). length s.stations + x) (form_adds f v)

-- the forms of words
abbrev Only : (Form → Type 0) → List (List ℕ × Form) → Type 0
Only P [] = Unit {0}
Only P ((w, f) ∷ ks) = P f × Only P ks

only_after : (P : Form → Type 0) (c : ℕ) (ks : List (List ℕ × Form)) → Only P ks → Only P (after c ks)
only_after P c [] h = tt
only_after P c (([], f) ∷ ks) h = only_after P c ks h.1
only_after P c ((b ∷ w, f) ∷ ks) h = at (eqb c b) (only_after P c ks h.1)
  where
    at : (t : Bool) → Only P (after c ks) → Only P (cond t ((w, f) ∷ after c ks) (after c ks))
    at true r = (h.0, r)
    at false r = r

only_in : (P : Form → Type 0) (ks : List (List ℕ × Form)) → ((w : List ℕ) (f : Form) → In w f ks → P f) → Only P ks
only_in P [] h = tt
only_in P ((w, f) ∷ ks) h = (h w f here, only_in P ks (λ v g m. h v g (there m)))

abbrev Of : Sort → Form → Type 0
Of o f = (row f).sort ≡ o

only_words : (k : Kind) → Only (Of (sort_of k)) (words (sort_of k))
only_words k = only_in (Of (sort_of k)) (words (sort_of k)) (λ w f m. (in_kind k w f m).1)

-- an s stands only at the front of "station"
abbrev no_s : List ℕ → Bool
no_s [] = true
no_s (x ∷ w) = not (eqb x 115) && no_s w

abbrev NoS : List (List ℕ × Form) → Type 0
NoS [] = Unit {0}
NoS ((w, f) ∷ ks) = (no_s w ≡ true) × NoS ks

pub nos_after : (c : ℕ) (ks : List (List ℕ × Form)) → NoS ks → NoS (after c ks) × ((after c ks ≡ []) ⊎ (eqb c 115 ≡ false))
nos_after c [] h = (tt, inl refl)
nos_after c (([], f) ∷ ks) h = nos_after c ks h.1
nos_after c ((x ∷ w, f) ∷ ks) h = at (eqb c x) refl (nos_after c ks h.1)
  where
    at : (t : Bool) → eqb c x ≡ t → NoS (after c ks) × ((after c ks ≡ []) ⊎ (eqb c 115 ≡ false)) →
        NoS (cond t ((w, f) ∷ after c ks) (after c ks)) × ((cond t ((w, f) ∷ after c ks) (after c ks) ≡ []) ⊎ (eqb c 115 ≡ false))
    at true e r =
        let p = and_parts (not (eqb x 115)) (no_s w) h.0 in
        ((p.1, r.0), inr (ap (λ (y : ℕ). eqb y 115) (eqb-true c x e) ∙ not-true (eqb x 115) p.0))
    at false e r = r

abbrev run_line : List (List ℕ × Form)
run_line = (codes "run ", Run) ∷ []

abbrev pub both_lines : List (List ℕ × Form)
both_lines = (codes "station ", Station) ∷ run_line

abbrev left : Bool → List (List ℕ × Form)
left t = cond {A = List (List ℕ × Form)} t ((codes "station ", Station) ∷ cond {A = List (List ℕ × Form)} t run_line []) (cond {A = List (List ℕ × Form)} t run_line [])

further_words : (c : ℕ) → (after c (words Further) ≡ []) ⊎ ((c ≡ 40) × (after c (words Further) ≡ both_lines))
further_words c = at (eqb c 40) refl
  where
    at : (t : Bool) → eqb c 40 ≡ t → (left t ≡ []) ⊎ ((c ≡ 40) × (left t ≡ both_lines))
    at true e = inr (eqb-true c 40 e, refl)
    at false e = inl refl

abbrev Is : Form → Form → Type 0
Is f g = g ≡ f

second_words : (c : ℕ) → (eqb c 115 ≡ true → Only (Is Station) (after c both_lines) × NoS (after c both_lines)) × (eqb c 115 ≡ false → Only (Is Run) (after c both_lines) × NoS (after c both_lines))
second_words c = (
  λ e. let q : c ≡ 115 = eqb-true c 115 e in subst (λ (x : ℕ). Only (Is Station) (after x both_lines) × NoS (after x both_lines)) (sym q) ((refl, tt), (refl, tt)),
  λ e. subst (λ (t : Bool). Only (Is Run) (rests t) × NoS (rests t)) (sym e) (runs (eqb c 114)),
)
  where
    rests : Bool → List (List ℕ × Form)
    rests t = cond {A = List (List ℕ × Form)} t ((codes "tation ", Station) ∷ after c run_line) (after c run_line)

    runs : (t : Bool) → Only (Is Run) (cond {A = List (List ℕ × Form)} t ((codes "un ", Run) ∷ []) []) × NoS (cond {A = List (List ℕ × Form)} t ((codes "un ", Run) ∷ []) [])
    runs true = ((refl, tt), (refl, tt))
    runs false = (tt, tt)

-- a line's word: its second byte is to come, or it is one of the two lines
pub data Choice (b L : List ℕ) (ks : List (List ℕ × Form)) (m : ℕ) : Type 0 where
  second : (pre l : List ℕ) → b ≡ pre ++ 40 ∷ [] → L ≡ l ++ length pre ∷ [] → ks ≡ both_lines → m ≤ 16 → Choice b L ks m
  station : Only (Is Station) ks → NoS ks → m < 16 → Choice b L ks m
  run : Only (Is Run) ks → NoS ks → Choice b L ks m

-- lines began at L when the bytes b are read and m stations are seen
abbrev pub Lined : List ℕ → List ℕ → List Want → ℕ → Type 0
Lined b L [] m = Unit {0}
Lined b L (stop a ∷ ws) m = Lined b L ws (m + adds a)
Lined b L (number k a ∷ ws) m = Lined b L ws (m + adds a)
Lined b L (digits k p v a ∷ ws) m = Lined b L ws (m + adds a)
Lined b L (item Types ∷ ws) m = Lined b L ws m
Lined b L (item Worlds ∷ ws) m = Lined b L ws m
Lined b L (item Terms ∷ ws) m = Lined b L ws m
Lined b L (item First ∷ ws) m = (length L ≡ 0) × (m ≡ 0) × (ws ≡ [])
Lined b L (item Further ∷ ws) m = (length L ≡ m) × (m ≤ 16) × (ws ≡ [])
Lined b L (word Types ks ∷ ws) m = Only (Of Types) ks × Lined b L ws m
Lined b L (word Worlds ks ∷ ws) m = Only (Of Worlds) ks × Lined b L ws m
Lined b L (word Terms ks ∷ ws) m = Only (Of Terms) ks × Lined b L ws m
Lined b L (word First ks ∷ ws) m = Only (Is Station) ks × (length L ≡ 1) × (m ≡ 0) × (ws ≡ [])
Lined b L (word Further ks ∷ ws) m = Choice b L ks m × (length L ≡ m + 1) × (ws ≡ [])

lined_plain : (ws : List Want) (b L b' L' : List ℕ) (m : ℕ) → Plain ws → length L' ≡ length L → Lined b L ws m → Lined b' L' ws m
lined_plain [] b L b' L' m p e h = tt
lined_plain (stop a ∷ ws) b L b' L' m p e h = lined_plain ws b L b' L' (m + adds a) p e h
lined_plain (number k a ∷ ws) b L b' L' m p e h = lined_plain ws b L b' L' (m + adds a) p e h
lined_plain (digits k q v a ∷ ws) b L b' L' m p e h = absurd p
lined_plain (item Types ∷ ws) b L b' L' m p e h = lined_plain ws b L b' L' m p e h
lined_plain (item Worlds ∷ ws) b L b' L' m p e h = lined_plain ws b L b' L' m p e h
lined_plain (item Terms ∷ ws) b L b' L' m p e h = lined_plain ws b L b' L' m p e h
lined_plain (item First ∷ ws) b L b' L' m p e h = (e ∙ h.0, h.1, h.2)
lined_plain (item Further ∷ ws) b L b' L' m p e h = (e ∙ h.0, h.1, h.2)
lined_plain (word o ks ∷ ws) b L b' L' m p e h = absurd p

module _ (b L : List ℕ) (f : Form) (plain : (row f).counts ≡ false) where
  no_adds : (m : ℕ) (ps : List Part) → m ≡ m + adds (sep f ps)
  no_adds m [] = let z : m ≡ m + 0 = omega arith in z ∙ ap (λ (t : Bool). m + cond t 1 0) (sym plain)
  no_adds m (p ∷ ps) = omega arith

  lined_more : (ps : List Part) (ws : List Want) (m : ℕ) → Lined b L ws m → Lined b L (more f ps ws) m
  lined_more [] ws m h = h
  lined_more (num ∷ ps) ws m h = subst (Lined b L (more f ps ws)) (no_adds m ps) (lined_more ps ws m h)
  lined_more (sub type ∷ ps) ws m h = subst (Lined b L (more f ps ws)) (no_adds m ps) (lined_more ps ws m h)
  lined_more (sub world ∷ ps) ws m h = subst (Lined b L (more f ps ws)) (no_adds m ps) (lined_more ps ws m h)
  lined_more (sub term ∷ ps) ws m h = subst (Lined b L (more f ps ws)) (no_adds m ps) (lined_more ps ws m h)

  lined_shut : (ps : List Part) (ws : List Want) (m : ℕ) → Lined b L ws m → Lined b L (shut f ps ws) m
  lined_shut [] ws m h = subst (Lined b L ws) (no_adds m []) h
  lined_shut (p ∷ ps) ws m h = lined_more (p ∷ ps) ws m h

lined_form : (b L : List ℕ) (f : Form) (k : Kind) (ws : List Want) (m : ℕ) → Of (sort_of k) f → Lined b L ws m → Lined b L (wants f ws) m
lined_form b L f k ws m e h =
    let q = inner f k e in
    subst (λ (n : List Want). Lined b L (shut f (parts f) (n ++ ws)) m) (sym q.0) (lined_shut b L f q.1 (parts f) ws m h)

abbrev pub Lines : List ℕ → List ℕ → ℕ → List Want → Move → Type 0
Lines b L c ws (on vs q) = Lined (b ++ c ∷ []) (L ++ noted (mark new_line ws) (length b) []) vs (length q.stations)
Lines b L c ws (off n p) = Unit {0}

first_of : (P : Form → Type 0) (c : ℕ) (ks : List (List ℕ × Form)) (w : List ℕ) (f : Form) (l : List (List ℕ × Form)) → Only P ks → after c ks ≡ (w, f) ∷ l → Only P ((w, f) ∷ l)
first_of P c ks w f l h e = subst (Only P) e (only_after P c ks h)

module _ (b L : List ℕ) (s : Seen) (c : ℕ) where
  same : length (L ++ []) ≡ length L
  same = ap (λ (x : List ℕ). length x) (append-nil L)

  keeps : (ws : List Want) (m n : ℕ) → Plain ws → m ≡ n → Lined b L ws m → Lined (b ++ c ∷ []) (L ++ []) ws n
  keeps ws m n p e h = lined_plain ws b L (b ++ c ∷ []) (L ++ []) n p same (subst (Lined b L ws) e h)

  start_line : (o : Sort) (ws : List Want) (x : List ℕ × Form) (l : List (List ℕ × Form)) → Plain ws → after c (words o) ≡ x ∷ l → Lined b L (item o ∷ ws) (length s.stations) →
      Lined (b ++ c ∷ []) (L ++ noted (new_item new_line o) (length b) []) (word o (x ∷ l) ∷ ws) (length (begun o s).stations)
  start_line Types ws x l p e h = (subst (Only (Of Types)) e (only_after (Of Types) c (words Types) (only_words type)), keeps ws (length s.stations) (length s.stations) p refl h)
  start_line Worlds ws x l p e h = (subst (Only (Of Worlds)) e (only_after (Of Worlds) c (words Worlds) (only_words world)), keeps ws (length s.stations) (length s.stations) p refl h)
  start_line Terms ws x l p e h = (subst (Only (Of Terms)) e (only_after (Of Terms) c (words Terms) (only_words term)), keeps ws (length s.stations) (length s.stations) p refl h)
  start_line First ws x l p e h =
      (subst (Only (Is Station)) e (only_after (Is Station) c (words First) (refl, tt)), (let z = length_push L (length b) in omega (arith, z, h.0)), h.1, h.2)
  start_line Further ws x l p e h = ⊎_elim
      (λ (z : after c (words Further) ≡ []). absurd (let w : x ∷ l ≡ [] = sym e ∙ z in let y : ◌≡◌ {A = ℕ} 0 1 = cc in omega arith))
      (λ (z : (c ≡ 40) × (after c (words Further) ≡ both_lines)).
      (second b L (ap (λ (y : ℕ). b ++ y ∷ []) z.0) refl (sym e ∙ z.1) h.1, length_push L (length b) ∙ ap (λ (y : ℕ). y + 1) h.0, h.2))
      (further_words c)

  lines_whole : (ws : List Want) (m : ℕ) (L' : List ℕ) → ws ≡ [] → length L' ≡ m + 1 → m < 16 → Lined (b ++ c ∷ []) L' (wants Station ws) m
  lines_whole ws m L' e h l = (let z : length L' ≡ m + 0 + 1 + 0 = omega arith in z, let z : m + 0 + 1 + 0 ≤ 16 = omega arith in z, e)

  end_word : (o : Sort) (ks : List (List ℕ × Form)) (ws : List Want) (f : Form) (l : List (List ℕ × Form)) → Plain ws → after c ks ≡ ([], f) ∷ l → Lined b L (word o ks ∷ ws) (length s.stations) →
      Lined (b ++ c ∷ []) (L ++ []) (wants f ws) (length s.stations)
  end_word Types ks ws f l p e h = lined_form (b ++ c ∷ []) (L ++ []) f type ws (length s.stations) (first_of (Of Types) c ks [] f l h.0 e).0 (keeps ws (length s.stations) (length s.stations) p refl h.1)
  end_word Worlds ks ws f l p e h = lined_form (b ++ c ∷ []) (L ++ []) f world ws (length s.stations) (first_of (Of Worlds) c ks [] f l h.0 e).0 (keeps ws (length s.stations) (length s.stations) p refl h.1)
  end_word Terms ks ws f l p e h = lined_form (b ++ c ∷ []) (L ++ []) f term ws (length s.stations) (first_of (Of Terms) c ks [] f l h.0 e).0 (keeps ws (length s.stations) (length s.stations) p refl h.1)
  end_word First ks ws f l p e h =
      subst (λ (g : Form). Lined (b ++ c ∷ []) (L ++ []) (wants g ws) (length s.stations)) (sym (first_of (Is Station) c ks [] f l h.0 e).0)
      (lines_whole ws (length s.stations) (L ++ []) h.3 (omega (arith, same, h.1, h.2)) (omega (arith, h.2)))
  end_word Further ks ws f l p e h = by h.0
    where
      by : Choice b L ks (length s.stations) → Lined (b ++ c ∷ []) (L ++ []) (wants f ws) (length s.stations)
      by (second pre k x y z n) = absurd (subst Whole (ap (after c) (sym z) ∙ e) (wide_after c both_lines tt))
      by (station x y n) =
          subst (λ (g : Form). Lined (b ++ c ∷ []) (L ++ []) (wants g ws) (length s.stations)) (sym (first_of (Is Station) c ks [] f l x e).0)
          (lines_whole ws (length s.stations) (L ++ []) h.2 (omega (arith, same, h.1)) n)
      by (run x y) =
          subst (λ (g : Form). Lined (b ++ c ∷ []) (L ++ []) (wants g ws) (length s.stations)) (sym (first_of (Is Run) c ks [] f l x e).0)
          (subst (λ (v : List Want). Lined (b ++ c ∷ []) (L ++ []) (wants Run v) (length s.stations)) (sym h.2) tt)

  on_word : (o : Sort) (ks : List (List ℕ × Form)) (ws : List Want) (x : ℕ) (w : List ℕ) (f : Form) (l : List (List ℕ × Form)) → Plain ws → after c ks ≡ (x ∷ w, f) ∷ l → many o c s ≡ false →
      Lined b L (word o ks ∷ ws) (length s.stations) → Lined (b ++ c ∷ []) (L ++ []) (word o ((x ∷ w, f) ∷ l) ∷ ws) (length s.stations)
  on_word Types ks ws x w f l p e g h = (first_of (Of Types) c ks (x ∷ w) f l h.0 e, keeps ws (length s.stations) (length s.stations) p refl h.1)
  on_word Worlds ks ws x w f l p e g h = (first_of (Of Worlds) c ks (x ∷ w) f l h.0 e, keeps ws (length s.stations) (length s.stations) p refl h.1)
  on_word Terms ks ws x w f l p e g h = (first_of (Of Terms) c ks (x ∷ w) f l h.0 e, keeps ws (length s.stations) (length s.stations) p refl h.1)
  on_word First ks ws x w f l p e g h = (first_of (Is Station) c ks (x ∷ w) f l h.0 e, same ∙ h.1, h.2, h.3)
  on_word Further ks ws x w f l p e g h = (by h.0, same ∙ h.1, h.2)
    where
      tells : (t : Bool) → eqb c 115 ≡ t → after c both_lines ≡ (x ∷ w, f) ∷ l → Choice (b ++ c ∷ []) (L ++ []) ((x ∷ w, f) ∷ l) (length s.stations)
      tells true q r =
          let z = (second_words c).0 q in
          station (subst (Only (Is Station)) r z.0) (subst NoS r z.1)
          (leb-false 16 (length s.stations) (subst (λ (y : Bool). (y && leb 16 (length s.stations)) ≡ false) q g))
      tells false q r = let z = (second_words c).1 q in run (subst (Only (Is Run)) r z.0) (subst NoS r z.1)

      by : Choice b L ks (length s.stations) → Choice (b ++ c ∷ []) (L ++ []) ((x ∷ w, f) ∷ l) (length s.stations)
      by (second pre k i j z n) = tells (eqb c 115) refl (ap (after c) (sym z) ∙ e)
      by (station i j n) = station (first_of (Is Station) c ks (x ∷ w) f l i e) (subst NoS e (nos_after c ks j).0) n
      by (run i j) = run (first_of (Is Run) c ks (x ∷ w) f l i e) (subst NoS e (nos_after c ks j).0)

  pub line_step : {ws : List Want} {m : Move} → Stepped s (length b) c ws m → Fine ws → Lined b L ws (length s.stations) → Lines b L c ws m
  line_step wrong p h = tt
  line_step (stopped {a} {ws} e) p h = keeps ws (length s.stations + adds a) (length (passed a s).stations) p (sym (passed_adds a s)) h
  line_step (zeroed {k} {a} {ws} e) p h = keeps ws (length s.stations + adds a) (length s.stations + adds a) p refl h
  line_step (digited {k} {a} {ws} e n) p h = keeps ws (length s.stations + adds a) (length s.stations + adds a) p refl h
  line_step (numbered {k} {j} {v} {a} {ws} e) p h = keeps ws (length s.stations + adds a) (length (passed a (push v s)).stations) p.1 (sym (passed_adds a (push v s))) h
  line_step (longer {k} {j} {v} {a} {ws} e l n) p h = keeps ws (length s.stations + adds a) (length s.stations + adds a) p.1 refl h
  line_step (passes e l n) p h = tt
  line_step (deeper x l e f g) p h = tt
  line_step (fuller x l e f) p h = tt
  line_step (started {o} {ws} x l e f) p h = start_line o ws x l p e h
  line_step (whole {o} {ks} {ws} f l e) p h = end_word o ks ws f l p.2 e h
  line_step (letter {o} {ks} {ws} x w f l e g) p h = on_word o ks ws x w f l p.2 e g h
  line_step (crowded x w f l e g) p h = tt
