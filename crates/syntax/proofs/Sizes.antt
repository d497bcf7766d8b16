-- A term has in it as many terms as its part of the text, and so the first as many as the table has rows.
use Rattle.std.proofs.Common.{◌≡◌, ℕ, suc, ◌+◌, ◌-◌, ◌<◌, ◌≤◌, List, [], ◌∷◌, ◌++◌, length, get_or, take, drop, sym, refl, ap, ◌∙◌, subst, arith, length-take}
use lib.Seq.{split_at}
use Rattle.std.proofs.lemmas.List.{length-append, append_assoc, append-nil, get_or_append_left, get_or_at}
use Rattle.syntax.specs.Grammar.{Part, Kind, Made, parts, row, sort_of, width, nth}
use Rattle.syntax.specs.Grammar.Part.{num, sub}
use Rattle.syntax.specs.Grammar.Kind.{type, world, term}
use Rattle.syntax.specs.Grammar.Made.{a_type, a_world, a_term, a_station, a_start}
use Rattle.syntax.specs.Trees.{Parts, Prog, Tables, Fit, Right, Limits, table, one_type, one_term, types, terms, own, values, tm_row, tm_rows}
use Rattle.syntax.specs.Trees.Parts.{none, number as number', form}
use Rattle.syntax.specs.Sound.{TermSound, TermParts, TermsSound, with_parts, sizes, size}
use Rattle.syntax.specs.declared.grammar.Form.{Form}
use Rattle.syntax.specs.declared.grammar.Form.TheVariants.{TNum, TNone, TFn, TBox, TAt, TBoth, Site, Bound, Num, Val, Lam, App, Boxed, Unbox, Here, Letd, Getb, Getd, Getn, Pair, Fst, Snd, Letcc, Throw, Go, Gauge, Gate, Below, Station, Run}
use Rattle.syntax.specs.declared.grammar.Sort.{Sort}
use Rattle.syntax.specs.declared.program.Term.{Term}
use Rattle.syntax.specs.declared.program.Term.TheVariants.{Num as TermAsNum, Value as TermAsValue, Lam as TermAsLam, App as TermAsApp, Boxed as TermAsBoxed, Unbox as TermAsUnbox, Here as TermAsHere, Letd as TermAsLetd, Get as TermAsGet, Pair as TermAsPair, Fst as TermAsFst, Snd as TermAsSnd, Letcc as TermAsLetcc, Throw as TermAsThrow, Go as TermAsGo, Gauge as TermAsGauge, Gate as TermAsGate, Below as TermAsBelow}
use Rattle.syntax.proofs.Rows.{Makes, makes, no_line}
use Rattle.syntax.proofs.Tables.{values_width}
use Rattle.syntax.proofs.Exact.{read_right}
use Rattle.syntax.specs.Promises.{ReadTree}
use Rattle.syntax.specs.Reading.{Seen}
use Rattle.syntax.proofs.Numbered.{rows_length, row_width, own_term, zero_plus, sound_table}
use Rattle.syntax.proofs.Heights.{term_map, Stand, stand_left, stand_right, stand_first}

-- the same of each part, the same of the term
with_same : (f g : ℕ → ℕ) (t : Term) → TermParts (λ a. f a ≡ g a) t → with_parts f t ≡ with_parts g t
with_same f g (TermAsNum n) h = refl
with_same f g (TermAsValue n) h = refl
with_same f g (TermAsLam t a) h = omega arith
with_same f g (TermAsApp a b) h = omega (arith, h.0, h.1)
with_same f g (TermAsBoxed a) h = omega arith
with_same f g (TermAsUnbox a) h = omega arith
with_same f g (TermAsHere a) h = omega arith
with_same f g (TermAsLetd a b) h = omega (arith, h.0, h.1)
with_same f g (TermAsGet m w a) h = omega arith
with_same f g (TermAsPair a b) h = omega (arith, h.0, h.1)
with_same f g (TermAsFst a) h = omega arith
with_same f g (TermAsSnd a) h = omega arith
with_same f g (TermAsLetcc t a) h = omega arith
with_same f g (TermAsThrow t n a) h = omega arith
with_same f g (TermAsGo t w a) h = omega arith
with_same f g (TermAsGauge n) h = refl
with_same f g (TermAsGate n a) h = omega arith
with_same f g (TermAsBelow t a b x y) h = omega (arith, h.0, h.1, h.2, h.3)

-- the parts of a sound term come after it
parts_after : (m low high : ℕ) (t : Term) → TermSound m (low + 1) high t → TermParts (λ a. low < a) t
parts_after m low high (TermAsNum n) h = tt
parts_after m low high (TermAsValue n) h = tt
parts_after m low high (TermAsLam t a) h = omega (arith, h.1.0)
parts_after m low high (TermAsApp a b) h = (omega (arith, h.0.0), omega (arith, h.1.0))
parts_after m low high (TermAsBoxed a) h = omega (arith, h.0)
parts_after m low high (TermAsUnbox a) h = omega (arith, h.0)
parts_after m low high (TermAsHere a) h = omega (arith, h.0)
parts_after m low high (TermAsLetd a b) h = (omega (arith, h.0.0), omega (arith, h.1.0))
parts_after m low high (TermAsGet g w a) h = omega (arith, h.1.0)
parts_after m low high (TermAsPair a b) h = (omega (arith, h.0.0), omega (arith, h.1.0))
parts_after m low high (TermAsFst a) h = omega (arith, h.0)
parts_after m low high (TermAsSnd a) h = omega (arith, h.0)
parts_after m low high (TermAsLetcc t a) h = omega (arith, h.1.0)
parts_after m low high (TermAsThrow t n a) h = omega (arith, h.2.0)
parts_after m low high (TermAsGo t w a) h = omega (arith, h.2.0)
parts_after m low high (TermAsGauge n) h = tt
parts_after m low high (TermAsGate n a) h = omega (arith, h.1.0)
parts_after m low high (TermAsBelow t a b x y) h = (omega (arith, h.1.0), omega (arith, h.2.0), omega (arith, h.3.0), omega (arith, h.4.0))

-- the sizes of the rows after the first few
sizes_after : (k : ℕ) (xs ys : List Term) (j : ℕ) → get_or (sizes k (xs ++ ys)) (length xs + j) 0 ≡ get_or (sizes (k + length xs) ys) j 0
sizes_after k [] ys j =
    ap (λ (i : ℕ). get_or (sizes k ys) i 0) (let z : 0 + j ≡ j = omega arith in z) ∙ ap (λ (i : ℕ). get_or (sizes i ys) j 0) (zero_plus k)
sizes_after k (x ∷ xs) ys j =
    ap (λ (i : ℕ). get_or (sizes k (x ∷ (xs ++ ys))) i 0) (let z : suc (length xs) + j ≡ suc (length xs + j) = omega arith in z)
    ∙ sizes_after (suc k) xs ys j ∙ ap (λ (i : ℕ). get_or (sizes i ys) j 0) (let z : suc k + length xs ≡ k + suc (length xs) = omega arith in z)

-- the size of a term at its place, by the sizes of what comes after it
size_after : (xs ys : List Term) (n j : ℕ) → length xs ≡ n → n ≤ j → size (xs ++ ys) j ≡ get_or (sizes n ys) (j - n) 0
size_after xs ys n j e h =
    ap (λ (i : ℕ). size (xs ++ ys) i) (let z : j ≡ length xs + (j - n) = omega arith in z) ∙ sizes_after 0 xs ys (j - n)
    ∙ ap (λ (i : ℕ). get_or (sizes i ys) (j - n) 0) (let z : 0 + length xs ≡ n = omega arith in z)

-- the size of a term whose parts come after it
size_stand : (tms : List Term) (n : ℕ) (r : Term) (rs : List Term) → Stand tms n (r ∷ rs) → TermParts (λ a. n < a) r → size tms n ≡ with_parts (size tms) r
size_stand tms n r rs s h =
    let xs : List Term = s.0 in
    let ys : List Term = rs ++ s.1.0 in
    let e : tms ≡ xs ++ (r ∷ ys) = s.1.1.0 in
    let l : length xs ≡ n = s.1.1.1 in
    let l1 : length (xs ++ (r ∷ [])) ≡ suc n = simp length-append (omega arith) in
    let g : ℕ → ℕ = λ c. get_or (sizes (suc n) ys) (c - suc n) 0 in
    let later : (a : ℕ) → n < a → g a ≡ size tms a =
    λ a b. sym (ap (λ (t : List Term). size t a) (e ∙ sym (append_assoc xs (r ∷ []) ys)) ∙ size_after (xs ++ (r ∷ [])) ys (suc n) a l1 (omega arith)) in
    ap (λ (t : List Term). size t n) e ∙ size_after xs (r ∷ ys) n n l (omega arith)
    ∙ ap (λ (i : ℕ). get_or (sizes n (r ∷ ys)) i 0) (let z : n - n ≡ 0 = omega arith in z)
    ∙ with_same g (size tms) r (term_map (λ a. n < a) (λ a. g a ≡ size tms a) later r h)

-- the size of each term of sound tables, by its parts
pub size_at : (t : Tables) → TermsSound t → (n : ℕ) → n < length t.tms → size t.tms n ≡ with_parts (size t.tms) (get_or t.tms n (TermAsNum 0))
size_at t sound n h =
    let tms : List Term = t.tms in
    let r : Term = get_or tms n (TermAsNum 0) in
    size_stand tms n r [] (take n tms, (drop (suc n) tms, (split_at tms n (TermAsNum 0) h, simp length-take (omega arith)))) (parts_after (length t.tys) n (length tms) r (sound n h))

stand_length : {A : Type 0} (xs : List A) (n : ℕ) (y : A) (ys : List A) → Stand xs n (y ∷ ys) → n < length xs
stand_length xs n y ys h = let e = simp length-append at (ap length h.1.1.0) in omega (arith, e, h.1.1.1)

module _ (tms : List Term) (sized : (n : ℕ) → n < length tms → size tms n ≡ with_parts (size tms) (get_or tms n (TermAsNum 0))) where
  -- how many terms there are in those of the parts that are terms
  abbrev total : List Part → List ℕ → ℕ
  total [] v = 0
  total (num ∷ ps) v = total ps v
  total (sub type ∷ ps) v = total ps v
  total (sub world ∷ ps) v = total ps v
  total (sub term ∷ ps) v = size tms (nth (width ps) v) + total ps v

  total_more : (ps : List Part) (v w : List ℕ) → width ps ≤ length v → total ps (v ++ w) ≡ total ps v
  total_more [] v w h = refl
  total_more (num ∷ ps) v w h = total_more ps v w (omega arith)
  total_more (sub type ∷ ps) v w h = total_more ps v w (omega arith)
  total_more (sub world ∷ ps) v w h = total_more ps v w (omega arith)
  total_more (sub term ∷ ps) v w h =
      let i = total_more ps v w (omega arith) in
      let e : size tms (nth (width ps) (v ++ w)) ≡ size tms (nth (width ps) v) = ap (size tms) (get_or_append_left v w 0 (width ps) (omega arith)) in
      omega (arith, i, e)

  -- how many terms there are in what a form makes
  abbrev weight : Made → ℕ
  weight (a_type t) = 0
  weight (a_world c) = 0
  weight (a_term t) = with_parts (size tms) t
  weight (a_station g h) = 0
  weight (a_start n) = 0

  made_size : (f : Form) (v : List ℕ) (d : Kind) → (row f).sort ≡ sort_of d → weight ((row f).make v) ≡ one_term (row f).sort + total (parts f) v
  made_size TNum v d e = refl
  made_size TNone v d e = refl
  made_size TFn v d e = refl
  made_size TBox v d e = refl
  made_size TAt v d e = refl
  made_size TBoth v d e = refl
  made_size Site v d e = refl
  made_size Bound v d e = refl
  made_size Num v d e = refl
  made_size Val v d e = refl
  made_size Lam v d e = omega arith
  made_size App v d e = omega arith
  made_size Boxed v d e = omega arith
  made_size Unbox v d e = omega arith
  made_size Here v d e = omega arith
  made_size Letd v d e = omega arith
  made_size Getb v d e = omega arith
  made_size Getd v d e = omega arith
  made_size Getn v d e = omega arith
  made_size Pair v d e = omega arith
  made_size Fst v d e = omega arith
  made_size Snd v d e = omega arith
  made_size Letcc v d e = omega arith
  made_size Throw v d e = omega arith
  made_size Go v d e = omega arith
  made_size Gauge v d e = refl
  made_size Gate v d e = omega arith
  made_size Below v d e = omega arith
  made_size Station v d e = refl
  made_size Run v d e = absurd (no_line d e)

  own_size : (d : Kind) (ps : List Part) (v : List ℕ) (M : Made) (a b : ℕ) (w : List ℕ) → Makes (sort_of d) M → length v ≡ width ps → Stand tms b (tm_row M) →
      total (sub d ∷ ps) (v ++ own M a b w) ≡ weight M + total ps v
  own_size type ps v (a_type t) a b w m e y = let i = total_more ps v (a ∷ []) (omega arith) in omega (arith, i)
  own_size type ps v (a_world c) a b w m e y = absurd m
  own_size type ps v (a_term t) a b w m e y = absurd m
  own_size type ps v (a_station g j) a b w m e y = absurd m
  own_size type ps v (a_start n) a b w m e y = absurd m
  own_size world ps v (a_type t) a b w m e y = absurd m
  own_size world ps v (a_world c) a b w m e y = let i = total_more ps v (c ∷ w) (omega arith) in omega (arith, i)
  own_size world ps v (a_term t) a b w m e y = absurd m
  own_size world ps v (a_station g j) a b w m e y = absurd m
  own_size world ps v (a_start n) a b w m e y = absurd m
  own_size term ps v (a_type t) a b w m e y = absurd m
  own_size term ps v (a_world c) a b w m e y = absurd m
  own_size term ps v (a_term t) a b w m e y =
      let i = total_more ps v (b ∷ []) (omega arith) in
      let z : nth (width ps) (v ++ b ∷ []) ≡ b = get_or_at v b [] 0 (width ps) e in
      let k : size tms (nth (width ps) (v ++ b ∷ [])) ≡ with_parts (size tms) t = ap (size tms) z ∙ sized b (stand_length tms b t [] y) ∙ ap (with_parts (size tms)) (stand_first tms b t [] (TermAsNum 0) y) in
      omega (arith, i, k)
  own_size term ps v (a_station g j) a b w m e y = absurd m
  own_size term ps v (a_start n) a b w m e y = absurd m

  -- the terms in the parts of a tree are the tree's
  whole_size : (t : Parts) (ps : List Part) (a b : ℕ) → Fit t ps → Stand tms b (tm_rows t a b) → total ps (values t a b) ≡ terms t
  whole_size none [] a b h y = refl
  whole_size none (p ∷ ps) a b h y = absurd h
  whole_size (number' n r) [] a b h y = absurd h
  whole_size (number' n r) (num ∷ ps) a b h y =
      let e = values_width r ps a b h.1 in
      total_more ps (values r a b) (n ∷ []) (omega arith) ∙ whole_size r ps a b h.1 y
  whole_size (number' n r) (sub d ∷ ps) a b h y = absurd h
  whole_size (form f t r) [] a b h y = absurd h
  whole_size (form f t r) (num ∷ ps) a b h y = absurd h
  whole_size (form f t r) (sub d ∷ ps) a b h y =
      let o : Sort = (row f).sort in
      let a1 : ℕ = a + one_type o in
      let b1 : ℕ = b + one_term o in
      let a2 : ℕ = a1 + types t in
      let b2 : ℕ = b1 + terms t in
      let v : List ℕ = values t a1 b1 in
      let M : Made = (row f).make v in
      let w = row_width o M (makes f v) in
      let e = rows_length t (parts f) a1 b1 h.1 in
      let y1 = stand_right tms b (one_term o) (tm_row M) (tm_rows t a1 b1 ++ tm_rows r a2 b2) w.1 y in
      let i = whole_size t (parts f) a1 b1 h.1 (stand_left tms b1 (tm_rows t a1 b1) (tm_rows r a2 b2) y1) in
      let j = whole_size r ps a2 b2 h.2 (stand_right tms b1 (terms t) (tm_rows t a1 b1) (tm_rows r a2 b2) e.1 y1) in
      let m : Makes (sort_of d) M = subst (λ (z : Sort). Makes z M) h.0 (makes f v) in
      let k = own_size d ps (values r a2 b2) M a b v m (values_width r ps a2 b2 h.2) (stand_left tms b (tm_row M) (tm_rows t a1 b1 ++ tm_rows r a2 b2) y) in
      let g = made_size f v d h.0 in
      k ∙ omega (arith, g, i, j)

-- the first term is the tree's
first_term : (t : Parts) (b : ℕ) → Fit t (sub term ∷ []) → nth 0 (values t 0 b) ≡ b
first_term none b h = absurd h
first_term (number' n r) b h = absurd h
first_term (form f t none) b h =
    let v : List ℕ = values t (0 + one_type (row f).sort) (b + one_term (row f).sort) in
    own_term ((row f).make v) 0 b v (subst (λ (z : Sort). Makes z ((row f).make v)) h.0 (makes f v))
first_term (form f t (number' n r)) b h = absurd h.2
first_term (form f t (form g u r)) b h = absurd h.2

pub size_table : (p : Prog) → Right p → Limits p → size (table p).tms 0 ≡ length (table p).tms
size_table p r l =
    let t : Parts = p.main in
    let tms : List Term = tm_rows t 0 0 in
    let e = rows_length t (sub term ∷ []) 0 0 r.main in
    let y : Stand tms 0 tms = ([], ([], (sym (append-nil tms), refl))) in
    let k = whole_size tms (size_at (table p) (sound_table p r l).1) t (sub term ∷ []) 0 0 r.main y in
    let z : size tms (nth 0 (values t 0 0)) ≡ size tms 0 = ap (size tms) (first_term t 0 r.main) in
    omega (arith, e.1, k, z)

-- the first term that is read has all rows in it
pub read_tree : ReadTree
read_tree bs s e =
    let a = read_right bs s e in
    subst (λ (q : Seen). size q.tms 0 ≡ length q.tms) (sym a.1.1) (size_table a.0 a.1.0.right a.1.0.limits)
