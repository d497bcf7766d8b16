-- Two programs with one text are the same.
use Rattle.std.proofs.Common.{◌≡◌, ℕ, ◌^◌, ◌<◌, true, false, List, [], ◌∷◌, ◌++◌, decimal, sym, refl, ap, ◌∙◌, subst, arith}
use Rattle.std.proofs.lemmas.Fmt.{digits_decimal, decimal_injective}
use Rattle.std.proofs.lemmas.List.{append_cancel_left}
use Rattle.std.proofs.lemmas.Bool.{eq-eqb, both_ways}
use Rattle.syntax.specs.Grammar.{Stop, Part, byte, words, parts, row, spelling, last, sort_of}
use Rattle.syntax.specs.Grammar.Part.{num, sub}
use Rattle.syntax.specs.Reading.{digit}
use Rattle.syntax.specs.Texts.{In, Digits, begins, Apart}
use Rattle.syntax.specs.Texts.In.{here, there}
use Rattle.syntax.specs.Trees.{Parts, Prog, Fit, stop_of, inside, written, station_parts, run_parts, stations_text, print, Each, Right}
use Rattle.syntax.specs.Trees.Parts.{none, number as number', form}
use Rattle.syntax.specs.declared.grammar.Form.{Form}
use Rattle.syntax.specs.declared.grammar.Form.TheVariants.{Station, Run}
use Rattle.syntax.specs.declared.grammar.Sort.{Sort}
use Rattle.instruments.specs.declared.sheet.Station.{Station as Counts}
use Rattle.syntax.proofs.Theory.{no_digit, words_apart, far_in}
use Rattle.syntax.proofs.Rows.{listed}
use Rattle.syntax.proofs.Numbers.{own}

digits_same : (ds es : List ℕ) (c e : ℕ) (x y : List ℕ) → Digits ds → Digits es → digit c ≡ false → digit e ≡ false → ds ++ c ∷ x ≡ es ++ e ∷ y → (ds ≡ es) × (x ≡ y)
digits_same [] [] c e x y h k p q z = (refl, (let w : x ≡ y = cc in w))
digits_same [] (d ∷ es) c e x y h k p q z = absurd (let w : d ≡ c = cc in both_ways (digit c) p (ap digit (sym w) ∙ k.0))
digits_same (d ∷ ds) [] c e x y h k p q z = absurd (let w : d ≡ e = cc in both_ways (digit e) q (ap digit (sym w) ∙ h.0))
digits_same (d ∷ ds) (f ∷ es) c e x y h k p q z =
    let w : d ≡ f = cc in
    let v : ds ++ c ∷ x ≡ es ++ e ∷ y = cc in
    let r = digits_same ds es c e x y h.1 k.1 p q v in
    (let s = r.0 in let u : d ∷ ds ≡ f ∷ es = cc in u, r.1)

number_same : (n m : ℕ) (a b : Stop) (x y : List ℕ) → n < 65536 → m < 65536 → decimal n ++ byte a ∷ x ≡ decimal m ++ byte b ∷ y → (n ≡ m) × (x ≡ y)
number_same n m a b x y h k e =
    let hn : n < 2 ^ 64 = omega arith in
    let hm : m < 2 ^ 64 = omega arith in
    let r = digits_same (decimal n) (decimal m) (byte a) (byte b) x y (digits_decimal own n hn) (digits_decimal own m hm) (no_digit a) (no_digit b) e in
    (decimal_injective n m hn hm r.0, r.1)

-- of two words at one place one begins the other
one_begins : (w v a b : List ℕ) → w ++ a ≡ v ++ b → begins w v ≡ false → begins v w ≡ false → ⊥
one_begins [] v a b e p q = both_ways true p refl
one_begins (x ∷ w) [] a b e p q = both_ways true q refl
one_begins (x ∷ w) (y ∷ v) a b e p q =
    let z : x ≡ y = cc in
    let r : w ++ a ≡ v ++ b = cc in
    one_begins w v a b r (rw (eq-eqb x y z) at p) (rw (eq-eqb y x (sym z)) at q)

word_same : (ks : List (List ℕ × Form)) (w v : List ℕ) (f g : Form) (a b : List ℕ) → Apart ks → In w f ks → In v g ks → w ++ a ≡ v ++ b → f ≡ g
word_same [] w v f g a b h m n e = elim m [ ]
word_same ((u, k) ∷ ks) w v f g a b h here here e = refl
word_same ((u, k) ∷ ks) w v f g a b h here (there n) e = let r = far_in w v g ks h.0 n in absurd (one_begins w v a b e r.0 r.1)
word_same ((u, k) ∷ ks) w v f g a b h (there m) here e = let r = far_in v w f ks h.0 m in absurd (one_begins w v a b e r.1 r.0)
word_same ((u, k) ∷ ks) w v f g a b h (there m) (there n) e = word_same ks w v f g a b h.1 m n e

form_same : (o : Sort) (f g : Form) (a b : List ℕ) → (row f).sort ≡ o → (row g).sort ≡ o → spelling f ++ a ≡ spelling g ++ b → f ≡ g
form_same o f g a b p q e =
    word_same (words o) (spelling f) (spelling g) f g a b (words_apart o)
    (subst (λ (x : Sort). In (spelling f) f (words x)) p (listed f)) (subst (λ (x : Sort). In (spelling g) g (words x)) q (listed g)) e

tail : (c d : ℕ) (x y : List ℕ) → c ∷ x ≡ d ∷ y → x ≡ y
tail c d x y e = cc

abbrev Same : Parts → Type 0
Same t = (u : Parts) (f : Form) (ps : List Part) (bs cs : List ℕ) → Fit t ps → Fit u ps → written f t bs ≡ written f u cs → (t ≡ u) × (bs ≡ cs)

inside_same : (g : Form) (t u : Parts) (ps : List Part) (bs cs : List ℕ) → Fit t ps → Fit u ps → Same t →
    inside t (last g ∷ bs) (written g t bs) ≡ inside u (last g ∷ cs) (written g u cs) → (t ≡ u) × (bs ≡ cs)
inside_same g none none ps bs cs h k s e = (refl, tail (last g) (last g) bs cs e)
inside_same g none (number' n r) [] bs cs h k s e = absurd k
inside_same g none (number' n r) (p ∷ ps) bs cs h k s e = absurd h
inside_same g none (form f v r) [] bs cs h k s e = absurd k
inside_same g none (form f v r) (p ∷ ps) bs cs h k s e = absurd h
inside_same g (number' n r) none [] bs cs h k s e = absurd h
inside_same g (number' n r) none (p ∷ ps) bs cs h k s e = absurd k
inside_same g (number' n r) (number' m q) ps bs cs h k s e = s (number' m q) g ps bs cs h k e
inside_same g (number' n r) (form f v q) ps bs cs h k s e = s (form f v q) g ps bs cs h k e
inside_same g (form f v r) none [] bs cs h k s e = absurd h
inside_same g (form f v r) none (p ∷ ps) bs cs h k s e = absurd k
inside_same g (form f v r) (number' m q) ps bs cs h k s e = s (number' m q) g ps bs cs h k e
inside_same g (form f v r) (form f' v' q) ps bs cs h k s e = s (form f' v' q) g ps bs cs h k e

pub parts_same : (t : Parts) → Same t
parts_same none none f ps bs cs h k e = (refl, e)
parts_same none (number' n r) f [] bs cs h k e = absurd k
parts_same none (number' n r) f (p ∷ ps) bs cs h k e = absurd h
parts_same none (form g u r) f [] bs cs h k e = absurd k
parts_same none (form g u r) f (p ∷ ps) bs cs h k e = absurd h
parts_same (number' n r) none f [] bs cs h k e = absurd h
parts_same (number' n r) none f (p ∷ ps) bs cs h k e = absurd k
parts_same (number' n r) (number' m q) f [] bs cs h k e = absurd h
parts_same (number' n r) (number' m q) f (num ∷ ps) bs cs h k e =
    let a = number_same n m (stop_of f r) (stop_of f q) (written f r bs) (written f q cs) h.0 k.0 e in
    let b = parts_same r q f ps bs cs h.1 k.1 a.1 in
    (ap (λ (x : ℕ). number' x r) a.0 ∙ ap (λ (x : Parts). number' m x) b.0, b.1)
parts_same (number' n r) (number' m q) f (sub k' ∷ ps) bs cs h k e = absurd h
parts_same (number' n r) (form g u q) f [] bs cs h k e = absurd h
parts_same (number' n r) (form g u q) f (num ∷ ps) bs cs h k e = absurd k
parts_same (number' n r) (form g u q) f (sub k' ∷ ps) bs cs h k e = absurd h
parts_same (form g t r) none f [] bs cs h k e = absurd h
parts_same (form g t r) none f (p ∷ ps) bs cs h k e = absurd k
parts_same (form g t r) (number' m q) f [] bs cs h k e = absurd h
parts_same (form g t r) (number' m q) f (num ∷ ps) bs cs h k e = absurd h
parts_same (form g t r) (number' m q) f (sub k' ∷ ps) bs cs h k e = absurd k
parts_same (form g t r) (form g' u q) f [] bs cs h k e = absurd h
parts_same (form g t r) (form g' u q) f (num ∷ ps) bs cs h k e = absurd h
parts_same (form g t r) (form g' u q) f (sub k' ∷ ps) bs cs h k e =
    let x : List ℕ = byte (stop_of f r) ∷ written f r bs in
    let y : List ℕ = byte (stop_of f q) ∷ written f q cs in
    let same : g ≡ g' = form_same (sort_of k') g g' (inside t (last g ∷ x) (written g t x)) (inside u (last g' ∷ y) (written g' u y)) h.0 k.0 e in
    subst (λ (z : Form). Fit u (parts z) → spelling g ++ inside t (last g ∷ x) (written g t x) ≡ spelling z ++ inside u (last z ∷ y) (written z u y) → (form g t r ≡ form z u q) × (bs ≡ cs)) same
    (λ k1 e1.
    let a = inside_same g t u (parts g) x y h.1 k1 (parts_same t) (append_cancel_left (spelling g) (inside t (last g ∷ x) (written g t x)) (inside u (last g ∷ y) (written g u y)) e1) in
    let b = parts_same r q f ps bs cs h.2 k.2 (tail (byte (stop_of f r)) (byte (stop_of f q)) (written f r bs) (written f q cs) a.1) in
    (ap (λ (z : Parts). form g z r) a.0 ∙ ap (λ (z : Parts). form g u z) b.0, b.1))
    k.1 e

site_same : (h k : Counts) → station_parts h ≡ station_parts k → h ≡ k
site_same h k e =
    let p : h.gauges ≡ k.gauges = cc in
    let q : h.gates ≡ k.gates = cc in
    ap (λ (x : ℕ). record { gauges = x; gates = h.gates }) p ∙ ap (λ (x : ℕ). record { gauges = k.gauges; gates = x }) q

abbrev Good : List Counts → Type 0
Good hs = Each (λ h. Fit (station_parts h) (parts Station)) hs

stations_same : (hs ks : List Counts) (x y : List ℕ) → Good hs → Good ks → stations_text hs (spelling Run ++ x) ≡ stations_text ks (spelling Run ++ y) → (hs ≡ ks) × (x ≡ y)
stations_same [] [] x y g h e = (refl, append_cancel_left (spelling Run) x y e)
stations_same [] (k ∷ ks) x y g h e = absurd (let z : ◌≡◌ {A = ℕ} 114 115 = cc in omega arith)
stations_same (k ∷ hs) [] x y g h e = absurd (let z : ◌≡◌ {A = ℕ} 114 115 = cc in omega arith)
stations_same (k ∷ hs) (l ∷ ks) x y g h e =
    let a = append_cancel_left (spelling Station) (written Station (station_parts k) (10 ∷ stations_text hs (spelling Run ++ x))) (written Station (station_parts l) (10 ∷ stations_text ks (spelling Run ++ y))) e in
    let b = parts_same (station_parts k) (station_parts l) Station (parts Station) (10 ∷ stations_text hs (spelling Run ++ x)) (10 ∷ stations_text ks (spelling Run ++ y)) g.0 h.0 a in
    let c = stations_same hs ks x y g.1 h.1 (tail 10 10 (stations_text hs (spelling Run ++ x)) (stations_text ks (spelling Run ++ y)) b.1) in
    (ap (λ (z : Counts). z ∷ hs) (site_same k l b.0) ∙ ap (λ (z : List Counts). l ∷ z) c.0, c.1)

pub unique : (p q : Prog) → Right p → Right q → print p ≡ print q → p ≡ q
unique p q r s e =
    let a = stations_same p.stations q.stations (written Run (run_parts p) (10 ∷ [])) (written Run (run_parts q) (10 ∷ [])) r.stations s.stations e in
    let b = parts_same (run_parts p) (run_parts q) Run (parts Run) (10 ∷ []) (10 ∷ []) (r.start, r.main) (s.start, s.main) a.1 in
    let c = b.0 in
    let n : p.start ≡ q.start = cc in
    let m : p.main ≡ q.main = cc in
    ap (λ (x : List Counts). record { stations = x; start = p.start; main = p.main }) a.0
    ∙ ap (λ (x : ℕ). record { stations = q.stations; start = x; main = p.main }) n
    ∙ ap (λ (x : Parts). record { stations = q.stations; start = q.start; main = x }) m
