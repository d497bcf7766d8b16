-- Every program's text is a text of the grammar.
use Rattle.std.proofs.Common.{◌≡◌, ℕ, ◌+◌, ◌<◌, Bool, true, false, eqb, List, [], ◌∷◌, ◌++◌, length, get_or, drop, decimal, sym, refl, ap, ◌∙◌, subst, arith}
use Rattle.std.proofs.lemmas.Bool.{eqb-true, eqb-false}
use Rattle.std.proofs.lemmas.List.{length-append, append_assoc}
use Rattle.syntax.specs.Refusals.{New, new_item, new_number, noted, extent, starts, station_lines, begun_in}
use Rattle.syntax.specs.Refusals.New.{new_line, new_count, new_term, new_type}
use Rattle.syntax.specs.Grammar.{Stop, Want, Part, byte, wants, words, more, shut, sep, parts, row, spelling, last, sort_of}
use Rattle.syntax.specs.Grammar.Stop.{close, line}
use Rattle.syntax.specs.Grammar.Want.{stop, number, item}
use Rattle.syntax.specs.Grammar.Part.{num, sub}
use Rattle.syntax.specs.Texts.{In}
use Rattle.syntax.proofs.Texts.{Text, shown, places, Whole}
use Rattle.syntax.specs.Texts.In.{here, there}
use Rattle.syntax.proofs.Texts.Text.{end, past, nought, some, pick}
use Rattle.syntax.specs.Trees.{Parts, Prog, Fit, stop_of, inside, written, station_parts, run_parts, stations_text, print, Each, Right}
use Rattle.syntax.specs.Trees.Parts.{none, number as number', form}
use Rattle.syntax.specs.declared.grammar.Form.{Form}
use Rattle.syntax.specs.declared.grammar.Form.TheVariants.{Station, Run}
use Rattle.syntax.specs.declared.grammar.Sort.{Sort}
use Rattle.syntax.specs.declared.grammar.Sort.TheVariants.{First, Further}
use Rattle.instruments.specs.declared.sheet.Station.{Station as Counts}
use Rattle.syntax.proofs.Rows.{listed, spelt, inner}
use Rattle.syntax.proofs.Numbers.{head}
use Rattle.syntax.proofs.Forms.{sep_is}

-- a text of what is wanted whose bytes these are, and where things begin in it
abbrev Shows : List Want → List ℕ → (New → ℕ → List ℕ) → Type 0
Shows ws bs L = (t : Text ws) × (shown t ≡ bs) × ((x : New) (i : ℕ) → places x t i ≡ L x i)

shows_as : (ws : List Want) (bs : List ℕ) (L M : New → ℕ → List ℕ) → ((x : New) (i : ℕ) → L x i ≡ M x i) → Shows ws bs L → Shows ws bs M
shows_as ws bs L M e u = (u.0, u.1, λ x i. u.2 x i ∙ e x i)

number_shows : (k : Bool) (a : Stop) (ws : List Want) (bs : List ℕ) (L : New → ℕ → List ℕ) (n : ℕ) → n < 65536 → Shows ws bs L →
    Shows (number k a ∷ ws) (decimal n ++ byte a ∷ bs) (λ x i. noted (new_number x k) i (L x (i + length (decimal n) + 1)))
number_shows k a ws bs L n l u = by (eqb (head n l).c 48) refl
  where
    len : length (decimal n) ≡ length ((head n l).c ∷ (head n l).ds)
    len = ap (λ (x : List ℕ). length x) (head n l).is

    by : (b : Bool) → eqb (head n l).c 48 ≡ b → Shows (number k a ∷ ws) (decimal n ++ byte a ∷ bs) (λ x i. noted (new_number x k) i (L x (i + length (decimal n) + 1)))
    by true e =
        let h = head n l in
        let q : h.c ≡ 48 = eqb-true h.c 48 e in
        let z : length h.ds ≡ 0 = ap (λ (x : List ℕ). length x) (h.zero q).0 in (
          nought k a u.0,
          ap (λ (x : List ℕ). 48 ∷ byte a ∷ x) u.1 ∙ ap (λ (x : List ℕ). x ++ byte a ∷ bs) (ap (λ (x : ℕ). x ∷ []) (sym q) ∙ ap (λ (x : List ℕ). h.c ∷ x) (sym (h.zero q).0) ∙ sym h.is),
          λ x i. ap (noted (new_number x k) i) (u.2 x (i + 2) ∙ ap (L x) (let y : i + 2 ≡ i + length (decimal n) + 1 = omega (arith, len, z) in y)),
        )
    by false e =
        let h = head n l in (
          some k a h.c h.ds h.first (eqb-false h.c 48 e) h.all (subst (λ (x : ℕ). x < 65536) (sym h.value) l) u.0,
          ap (λ (x : List ℕ). h.c ∷ h.ds ++ byte a ∷ x) u.1 ∙ ap (λ (x : List ℕ). x ++ byte a ∷ bs) (sym h.is),
          λ x i. ap (noted (new_number x k) i) (u.2 x (i + length h.ds + 2) ∙ ap (L x) (let y : i + length h.ds + 2 ≡ i + length (decimal n) + 1 = omega (arith, len) in y)),
        )

stop_shows : (a : Stop) (ws : List Want) (bs : List ℕ) (L : New → ℕ → List ℕ) → Shows ws bs L → Shows (stop a ∷ ws) (byte a ∷ bs) (λ x i. L x (i + 1))
stop_shows a ws bs L u = (past a u.0, ap (λ (x : List ℕ). byte a ∷ x) u.1, λ x i. u.2 x (i + 1))

word_shows : (o : Sort) (f : Form) (ws : List Want) (bs : List ℕ) (L : New → ℕ → List ℕ) → In (spelling f) f (words o) → Shows (wants f ws) bs L →
    Shows (item o ∷ ws) (spelling f ++ bs) (λ x i. noted (new_item x o) i (L x (i + length (spelling f))))
word_shows o f ws bs L m u =
    let q = (spelt f).0 in
    let b : ℕ = get_or (spelling f) 0 0 in
    let d : ℕ = get_or (spelling f) 1 0 in
    let w : List ℕ = drop 2 (spelling f) in
    let z : length (spelling f) ≡ length (b ∷ d ∷ w) = ap (λ (x : List ℕ). length x) q in (
      pick o b d w f (subst (λ (x : List ℕ). In x f (words o)) q m) u.0,
      ap (λ (x : List ℕ). b ∷ d ∷ w ++ x) u.1 ∙ ap (λ (x : List ℕ). x ++ bs) (sym q),
      λ x i. ap (noted (new_item x o) i) (u.2 x (i + length w + 2) ∙ ap (L x) (let y : i + length w + 2 ≡ i + length (spelling f) = omega (arith, z) in y)),
    )

-- how long what is written is
abbrev inner_text : Form → Parts → List ℕ → List ℕ
inner_text g t bs = inside t (last g ∷ bs) (written g t bs)

inside_length : (g : Form) (t : Parts) (bs : List ℕ) → length (written g t bs) ≡ length (written g t []) + length bs → length (inner_text g t bs) ≡ length (inner_text g t []) + length bs
inside_length g none bs h = omega arith
inside_length g (number' n r) bs h = h
inside_length g (form f t r) bs h = h

written_length : (t : Parts) (f : Form) (bs : List ℕ) → length (written f t bs) ≡ length (written f t []) + length bs
written_length none f bs = omega arith
written_length (number' n r) f bs =
    let i = written_length r f bs in
    let a = length-append (decimal n) (byte (stop_of f r) ∷ written f r bs) in
    let b = length-append (decimal n) (byte (stop_of f r) ∷ written f r []) in
    omega (arith, a, b, i)
written_length (form g t r) f bs =
    let x : List ℕ = byte (stop_of f r) ∷ written f r bs in
    let y : List ℕ = byte (stop_of f r) ∷ written f r [] in
    let i = written_length r f bs in
    let a = length-append (spelling g) (inner_text g t x) in
    let b = length-append (spelling g) (inner_text g t y) in
    let c = inside_length g t x (written_length t g x) in
    let d = inside_length g t y (written_length t g y) in
    omega (arith, a, b, c, d, i)

noted_over : (b : Bool) (i : ℕ) (l m : List ℕ) → noted b i (l ++ m) ≡ noted b i l ++ m
noted_over true i l m = refl
noted_over false i l m = refl

-- the parts of a form, before what follows
abbrev Then : Form → Parts → (New → ℕ → List ℕ) → New → ℕ → List ℕ
Then f t L x i = starts x f t i ++ L x (i + length (written f t []))

abbrev Within : Form → Parts → (New → ℕ → List ℕ) → New → ℕ → List ℕ
Within g t L x i = starts x g t i ++ L x (i + length (inner_text g t []))

shut_shows : (g : Form) (t : Parts) (ps : List Part) (ws : List Want) (bs : List ℕ) (L : New → ℕ → List ℕ) → Fit t ps → Shows ws bs L →
    (Shows ws bs L → Shows (more g ps ws) (written g t bs) (Then g t L)) → Shows (shut g ps ws) (inner_text g t bs) (Within g t L)
shut_shows g none [] ws bs L h u k = stop_shows (close g) ws bs L u
shut_shows g none (p ∷ ps) ws bs L h u k = absurd h
shut_shows g (number' n r) [] ws bs L h u k = absurd h
shut_shows g (number' n r) (p ∷ ps) ws bs L h u k = k u
shut_shows g (form f t r) [] ws bs L h u k = absurd h
shut_shows g (form f t r) (p ∷ ps) ws bs L h u k = k u

number_then : (f : Form) (n : ℕ) (r : Parts) (L : New → ℕ → List ℕ) (x : New) (i : ℕ) →
    noted (new_number x (row f).counts) i (Then f r L x (i + length (decimal n) + 1)) ≡ Then f (number' n r) L x i
number_then f n r L x i =
    let j : ℕ = i + length (decimal n) + 1 in
    let a = length-append (decimal n) (byte (stop_of f r) ∷ written f r []) in
    noted_over (new_number x (row f).counts) i (starts x f r j) (L x (j + length (written f r [])))
    ∙ ap (λ (y : ℕ). noted (new_number x (row f).counts) i (starts x f r j) ++ L x y) (let z : i + length (decimal n) + 1 + length (written f r []) ≡ i + length (decimal n ++ byte (stop_of f r) ∷ written f r []) = omega (arith, a) in z)

form_then : (f g : Form) (t r : Parts) (o : Sort) (L : New → ℕ → List ℕ) (x : New) (i : ℕ) → (row g).sort ≡ o →
    noted (new_item x o) i (Within g t (λ y j. Then f r L y (j + 1)) x (i + length (spelling g))) ≡ Then f (form g t r) L x i
form_then f g t r o L x i e =
    let y : List ℕ = byte (stop_of f r) ∷ written f r [] in
    let a1 = length-append (spelling g) (inner_text g t []) in
    let a2 = length-append (spelling g) (inner_text g t y) in
    let a3 = inside_length g t y (written_length t g y) in
    let p : i + length (spelling g) + length (inner_text g t []) + 1 ≡ i + extent g t + 1 = omega (arith, a1) in
    let q : i + extent g t + 1 + length (written f r []) ≡ i + length (written f (form g t r) []) = omega (arith, a1, a2, a3) in
    ap (λ (s : Sort). noted (new_item x s) i (Within g t (λ y j. Then f r L y (j + 1)) x (i + length (spelling g)))) (sym e)
    ∙ ap (λ (m : ℕ). noted (new_item x (row g).sort) i (starts x g t (i + length (spelling g)) ++ Then f r L x m)) p
    ∙ ap (noted (new_item x (row g).sort) i) (sym (append_assoc (starts x g t (i + length (spelling g))) (starts x f r (i + extent g t + 1)) (L x (i + extent g t + 1 + length (written f r [])))))
    ∙ noted_over (new_item x (row g).sort) i (starts x g t (i + length (spelling g)) ++ starts x f r (i + extent g t + 1)) (L x (i + extent g t + 1 + length (written f r [])))
    ∙ ap (λ (m : ℕ). noted (new_item x (row g).sort) i (starts x g t (i + length (spelling g)) ++ starts x f r (i + extent g t + 1)) ++ L x m) q

parts_shows : (t : Parts) (f : Form) (ps : List Part) (ws : List Want) (bs : List ℕ) (L : New → ℕ → List ℕ) → Fit t ps → Shows ws bs L → Shows (more f ps ws) (written f t bs) (Then f t L)
parts_shows none f [] ws bs L h u = shows_as ws bs L (Then f none L) (λ x i. ap (L x) (let z : i ≡ i + 0 = omega arith in z)) u
parts_shows none f (p ∷ ps) ws bs L h u = absurd h
parts_shows (number' n r) f [] ws bs L h u = absurd h
parts_shows (number' n r) f (num ∷ ps) ws bs L h u =
    shows_as (number (row f).counts (sep f ps) ∷ more f ps ws) (decimal n ++ byte (stop_of f r) ∷ written f r bs)
    (λ x i. noted (new_number x (row f).counts) i (Then f r L x (i + length (decimal n) + 1))) (Then f (number' n r) L) (number_then f n r L)
    (subst (λ (a : Stop). Shows (number (row f).counts (sep f ps) ∷ more f ps ws) (decimal n ++ byte a ∷ written f r bs) (λ x i. noted (new_number x (row f).counts) i (Then f r L x (i + length (decimal n) + 1)))) (sep_is f r ps h.1)
    (number_shows (row f).counts (sep f ps) (more f ps ws) (written f r bs) (Then f r L) n h.0 (parts_shows r f ps ws bs L h.1 u)))
parts_shows (number' n r) f (sub k ∷ ps) ws bs L h u = absurd h
parts_shows (form g t r) f [] ws bs L h u = absurd h
parts_shows (form g t r) f (num ∷ ps) ws bs L h u = absurd h
parts_shows (form g t r) f (sub k ∷ ps) ws bs L h u =
    let x : List ℕ = byte (stop_of f r) ∷ written f r bs in
    let w : List Want = stop (sep f ps) ∷ more f ps ws in
    let M : New → ℕ → List ℕ = λ y j. Then f r L y (j + 1) in
    let v : Shows w x M = subst (λ (a : Stop). Shows w (byte a ∷ written f r bs) M) (sep_is f r ps h.2) (stop_shows (sep f ps) (more f ps ws) (written f r bs) (Then f r L) (parts_shows r f ps ws bs L h.2 u)) in
    let y = shut_shows g t (parts g) w x M h.1 v (λ z. parts_shows t g (parts g) w x M h.1 z) in
    shows_as (item (sort_of k) ∷ w) (spelling g ++ inner_text g t x) (λ y i. noted (new_item y (sort_of k)) i (Within g t M y (i + length (spelling g)))) (Then f (form g t r) L)
    (λ y i. form_then f g t r (sort_of k) L y i h.0)
    (word_shows (sort_of k) g w (inner_text g t x) (Within g t M) (subst (λ (o : Sort). In (spelling g) g (words o)) h.0 (listed g))
    (subst (λ (n : List Want). Shows (shut g (parts g) (n ++ w)) (inner_text g t x) (Within g t M)) (sym (inner g k h.0).0) y))

-- the lines
abbrev Nothing : New → ℕ → List ℕ
Nothing x i = []

first_item : (x : New) → new_item x First ≡ new_item x Further
first_item new_line = refl
first_item new_count = refl
first_item new_term = refl
first_item new_type = refl

-- a line whose form is f, before the lines r
line_then : (f : Form) (t r : Parts) (o : Sort) → (row f).sort ≡ Further → ((x : New) → new_item x o ≡ new_item x Further) → length (inner_text f t []) ≡ length (written f t []) → (x : New) (i : ℕ) →
    noted (new_item x o) i (Then f t (λ y j. starts y Run r (j + 1)) x (i + length (spelling f))) ≡ starts x Run (form f t r) i
line_then f t r o s e z x i =
    let a = length-append (spelling f) (inner_text f t []) in
    ap (λ (b : Bool). noted b i (Then f t (λ y j. starts y Run r (j + 1)) x (i + length (spelling f)))) (e x ∙ ap (new_item x) (sym s))
    ∙ ap (λ (m : ℕ). noted (new_item x (row f).sort) i (starts x f t (i + length (spelling f)) ++ starts x Run r m))
    (let q : i + length (spelling f) + length (written f t []) + 1 ≡ i + extent f t + 1 = omega (arith, a, z) in q)

run_shows : (p : Prog) → Right p → Shows (item Further ∷ []) (spelling Run ++ written Run (run_parts p) (10 ∷ [])) (λ x i. starts x Run (form Run (run_parts p) none) i)
run_shows p r =
    shows_as (item Further ∷ []) (spelling Run ++ written Run (run_parts p) (10 ∷ [])) (λ x i. noted (new_item x Further) i (Then Run (run_parts p) (λ y j. []) x (i + length (spelling Run)))) (λ x i. starts x Run (form Run (run_parts p) none) i)
    (line_then Run (run_parts p) none Further refl (λ x. refl) refl)
    (word_shows Further Run [] (written Run (run_parts p) (10 ∷ [])) (Then Run (run_parts p) (λ y j. [])) (there here)
    (parts_shows (run_parts p) Run (parts Run) (stop line ∷ []) (10 ∷ []) (λ y j. []) (r.start, r.main) (stop_shows line [] [] Nothing (end, refl, λ x i. refl))))

station_shows : (o : Sort) (h : Counts) (bs : List ℕ) (r : Parts) → ((x : New) → new_item x o ≡ new_item x Further) → In (spelling Station) Station (words o) → Fit (station_parts h) (parts Station) →
    Shows (item Further ∷ []) bs (λ x i. starts x Run r i) → Shows (item o ∷ []) (spelling Station ++ written Station (station_parts h) (10 ∷ bs)) (λ x i. starts x Run (form Station (station_parts h) r) i)
station_shows o h bs r e m f u =
    shows_as (item o ∷ []) (spelling Station ++ written Station (station_parts h) (10 ∷ bs)) (λ x i. noted (new_item x o) i (Then Station (station_parts h) (λ y j. starts y Run r (j + 1)) x (i + length (spelling Station)))) (λ x i. starts x Run (form Station (station_parts h) r) i)
    (line_then Station (station_parts h) r o refl e refl)
    (word_shows o Station [] (written Station (station_parts h) (10 ∷ bs)) (Then Station (station_parts h) (λ y j. starts y Run r (j + 1))) m
    (parts_shows (station_parts h) Station (parts Station) (stop line ∷ item Further ∷ []) (10 ∷ bs) (λ y j. starts y Run r (j + 1)) f (stop_shows line (item Further ∷ []) bs (λ x i. starts x Run r i) u)))

stations_shows : (hs : List Counts) (bs : List ℕ) (r : Parts) → Each (λ h. Fit (station_parts h) (parts Station)) hs → Shows (item Further ∷ []) bs (λ x i. starts x Run r i) →
    Shows (item Further ∷ []) (stations_text hs bs) (λ x i. starts x Run (station_lines hs r) i)
stations_shows [] bs r h u = u
stations_shows (k ∷ hs) bs r h u = station_shows Further k (stations_text hs bs) (station_lines hs r) (λ x. refl) here h.0 (stations_shows hs bs r h.1 u)

-- the text of a program, as a text of the grammar
pub record Spelt (p : Prog) : Type 0 where
  pub text : Whole
  pub is : shown text ≡ print p
  pub at : (x : New) → places x text 0 ≡ begun_in x p

pub spelt_out : (p : Prog) → Right p → Spelt p
spelt_out p r = let s = by p.stations r.some r.stations in record { text = s.0; is = s.1; at = λ x. s.2 x 0 }
  where
    by : (hs : List Counts) → 0 < length hs → Each (λ h. Fit (station_parts h) (parts Station)) hs →
        Shows (item First ∷ []) (stations_text hs (spelling Run ++ written Run (run_parts p) (10 ∷ []))) (λ x i. starts x Run (station_lines hs (form Run (run_parts p) none)) i)
    by [] h e = absurd (omega arith)
    by (k ∷ hs) h e =
        station_shows First k (stations_text hs (spelling Run ++ written Run (run_parts p) (10 ∷ []))) (station_lines hs (form Run (run_parts p) none)) first_item here e.0
        (stations_shows hs (spelling Run ++ written Run (run_parts p) (10 ∷ [])) (form Run (run_parts p) none) e.1 (run_shows p r))
