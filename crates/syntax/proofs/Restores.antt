-- Writing the tables of a program gives its text.
use Rattle.std.proofs.Common.{◌≡◌, ℕ, suc, ◌+◌, ◌-◌, ◌<◌, Bool, true, cond, eqb, ◌⊎◌, List, [], ◌∷◌, ◌++◌, reverse, length, get_or, drop, codes, decimal, sym, refl, ap, ◌∙◌, subst, inl, inr, append_assoc, append-nil, arith, length-append}
use mathlib.Core.List.{reverse-append}
use lib.Seq.{drop-append_seam}
use Rattle.std.proofs.lemmas.List.{drop-drop, get_or-drop}
use Rattle.syntax.specs.Grammar.{Part, Kind, Made, row, parts, spelling, last, byte, sep, sort_of, width, cell, cells, words, forms, world_by, nth}
use Rattle.syntax.specs.Grammar.Part.{num, sub}
use Rattle.syntax.specs.Grammar.Kind.{type, world, term}
use Rattle.syntax.specs.Grammar.Made.{a_type, a_world, a_term, a_station, a_start}
use Rattle.syntax.specs.Texts.{In}
use Rattle.instruments.specs.declared.sheet.Station.{Station as Counts}
use Rattle.syntax.specs.Reading.{Seen}
use Rattle.syntax.specs.Place.{tables_of}
use Rattle.syntax.specs.Promises.{whole}
use Rattle.syntax.proofs.Exact.{read_right}
use Rattle.syntax.specs.Trees.{Prog, Right, print, stations_text, run_parts, Parts, Fit, stop_of, inside, written, deep, nested, types, terms, one_type, one_term, own, values, ty_row, tm_row, ty_rows, tm_rows}
use Rattle.syntax.specs.Trees.Parts.{none, number, form}
use Rattle.syntax.specs.Spelt.{spaced, type_at, nth_term, type_inner, type_text, world_text, term_inner, term_text, station_line, station_lines, text_of, WrittenRight}
use Rattle.syntax.specs.Views.{type_form, term_form}
use Rattle.syntax.specs.declared.grammar.Form.{Form}
use Rattle.syntax.specs.declared.grammar.Form.TheVariants.{TNum, TNone, TFn, TBox, TAt, TBoth, Site, Bound, Num, Val, Lam, App, Boxed, Unbox, Here, Letd, Getb, Getd, Getn, Pair, Fst, Snd, Letcc, Throw, Go, Gauge, Gate, Below, Station, Run}
use Rattle.syntax.specs.declared.grammar.Sort.{Sort}
use Rattle.syntax.specs.declared.grammar.Sort.TheVariants.{Types, Worlds, Terms}
use Rattle.syntax.specs.declared.program.Ty.{Ty}
use Rattle.syntax.specs.declared.program.Ty.TheVariants.{Num as TyAsNum}
use Rattle.syntax.specs.declared.program.Term.{Term}
use Rattle.syntax.specs.declared.program.Term.TheVariants.{Num as TermAsNum}
use Rattle.syntax.proofs.Rows.{listed}
use Rattle.syntax.proofs.Picks.{All, in_all}
use Rattle.syntax.proofs.Tables.{values_width}

-- rows that stand in a table from a place on
abbrev pub Stands : {X : Type 0} → List X → ℕ → List X → Type 0
Stands {X} ts a xs = (rest : List X) × (drop a ts ≡ xs ++ rest)

stands_left : {X : Type 0} (ts : List X) (a : ℕ) (xs ys : List X) → Stands ts a (xs ++ ys) → Stands ts a xs
stands_left ts a xs ys p = (ys ++ p.0, p.1 ∙ append_assoc xs ys p.0)

stands_right : {X : Type 0} (ts : List X) (a n : ℕ) (xs ys : List X) → length xs ≡ n → Stands ts a (xs ++ ys) → Stands ts (a + n) ys
stands_right {X} ts a n xs ys h p =
    (p.0, ap (λ (m : ℕ). drop (a + m) ts) (sym h) ∙ sym (drop-drop (length xs) a ts) ∙ ap (drop (length xs)) (p.1 ∙ append_assoc xs ys p.0) ∙ drop-append_seam xs (ys ++ p.0))

stands_at : {X : Type 0} (ts : List X) (a : ℕ) (x : X) (xs : List X) (d : X) → Stands ts a (x ∷ xs) → get_or ts a d ≡ x
stands_at {X} ts a x xs d p =
    ap (λ (m : ℕ). get_or ts m d) (let z : a ≡ a + 0 = omega arith in z) ∙ sym (get_or-drop a ts 0 d) ∙ ap (λ (l : List X). get_or l 0 d) p.1

-- how many rows a form has of its own, and a tree in all
row_size : (g : Form) (vs : List ℕ) → (length (ty_row ((row g).make vs)) ≡ one_type (row g).sort) × (length (tm_row ((row g).make vs)) ≡ one_term (row g).sort)
row_size TNum vs = (refl, refl)
row_size TNone vs = (refl, refl)
row_size TFn vs = (refl, refl)
row_size TBox vs = (refl, refl)
row_size TAt vs = (refl, refl)
row_size TBoth vs = (refl, refl)
row_size Site vs = (refl, refl)
row_size Bound vs = (refl, refl)
row_size Num vs = (refl, refl)
row_size Val vs = (refl, refl)
row_size Lam vs = (refl, refl)
row_size App vs = (refl, refl)
row_size Boxed vs = (refl, refl)
row_size Unbox vs = (refl, refl)
row_size Here vs = (refl, refl)
row_size Letd vs = (refl, refl)
row_size Getb vs = (refl, refl)
row_size Getd vs = (refl, refl)
row_size Getn vs = (refl, refl)
row_size Pair vs = (refl, refl)
row_size Fst vs = (refl, refl)
row_size Snd vs = (refl, refl)
row_size Letcc vs = (refl, refl)
row_size Throw vs = (refl, refl)
row_size Go vs = (refl, refl)
row_size Gauge vs = (refl, refl)
row_size Gate vs = (refl, refl)
row_size Below vs = (refl, refl)
row_size Station vs = (refl, refl)
row_size Run vs = (refl, refl)

ty_size : (t : Parts) (a b : ℕ) → length (ty_rows t a b) ≡ types t
ty_size none a b = refl
ty_size (number n r) a b = ty_size r a b
ty_size (form g t r) a b =
    let a1 : ℕ = a + one_type (row g).sort in
    let b1 : ℕ = b + one_term (row g).sort in
    let vs : List ℕ = values t a1 b1 in
    let e = (row_size g vs).0 in
    let p = ty_size t a1 b1 in
    let q = ty_size r (a1 + types t) (b1 + terms t) in
    length-append (ty_row ((row g).make vs)) (ty_rows t a1 b1 ++ ty_rows r (a1 + types t) (b1 + terms t)) ∙ omega (arith, length-append (ty_rows t a1 b1) (ty_rows r (a1 + types t) (b1 + terms t)))

tm_size : (t : Parts) (a b : ℕ) → length (tm_rows t a b) ≡ terms t
tm_size none a b = refl
tm_size (number n r) a b = tm_size r a b
tm_size (form g t r) a b =
    let a1 : ℕ = a + one_type (row g).sort in
    let b1 : ℕ = b + one_term (row g).sort in
    let vs : List ℕ = values t a1 b1 in
    let e = (row_size g vs).1 in
    let p = tm_size t a1 b1 in
    let q = tm_size r (a1 + types t) (b1 + terms t) in
    length-append (tm_row ((row g).make vs)) (tm_rows t a1 b1 ++ tm_rows r (a1 + types t) (b1 + terms t)) ∙ omega (arith, length-append (tm_rows t a1 b1) (tm_rows r (a1 + types t) (b1 + terms t)))

-- a depth that suffices
abbrev Enough : Parts → ℕ → Type 0
Enough none k = Unit {0}
Enough (number n r) k = Enough r k
Enough (form g t r) k = (0 < k) × Enough t (k - 1) × Enough r k

bare : (g : Form) → (eqb (last g) 41 ≡ true) ⊎ (parts g ≡ [])
bare TNum = inr refl
bare TNone = inr refl
bare TFn = inl refl
bare TBox = inl refl
bare TAt = inl refl
bare TBoth = inl refl
bare Site = inl refl
bare Bound = inl refl
bare Num = inl refl
bare Val = inl refl
bare Lam = inl refl
bare App = inl refl
bare Boxed = inl refl
bare Unbox = inl refl
bare Here = inl refl
bare Letd = inl refl
bare Getb = inl refl
bare Getd = inl refl
bare Getn = inl refl
bare Pair = inl refl
bare Fst = inl refl
bare Snd = inl refl
bare Letcc = inl refl
bare Throw = inl refl
bare Go = inl refl
bare Gauge = inl refl
bare Gate = inl refl
bare Below = inl refl
bare Station = inl refl
bare Run = inl refl

pub enough : (t : Parts) (ps : List Part) → Fit t ps → (k : ℕ) → deep t < k → Enough t k
enough none ps h k d = tt
enough (number n r) [] h k d = absurd h
enough (number n r) (num ∷ ps) h k d = enough r ps h.1 k d
enough (number n r) (sub q ∷ ps) h k d = absurd h
enough (form g t r) [] h k d = absurd h
enough (form g t r) (num ∷ ps) h k d = absurd h
enough (form g t r) (sub q ∷ ps) h k d = (omega arith, inner (bare g) (λ m. enough t (parts g) h.1 (k - 1) m), enough r ps h.2 k (omega arith))
  where
    nothing : (u : Parts) → Fit u [] → Enough u (k - 1)
    nothing none e = tt
    nothing (number n e) p = absurd p
    nothing (form f e p) v = absurd v

    inner : (eqb (last g) 41 ≡ true) ⊎ (parts g ≡ []) → (deep t < k - 1 → Enough t (k - 1)) → Enough t (k - 1)
    inner (inl e) m =
        let z : nested g (deep t) ≡ deep t + 1 = ap (λ (b : Bool). cond b (deep t + 1) (deep t)) e in
        m (omega (arith, d, z))
    inner (inr e) m = nothing t (subst (λ (x : List Part). Fit t x) e h.1)

-- lists of a length
by0 : (P : List ℕ → Type 0) → P [] → (vs : List ℕ) → length vs ≡ 0 → P vs
by0 P h [] e = h
by0 P h (x ∷ vs) e = absurd (omega arith)

by1 : (P : List ℕ → Type 0) → ((x : ℕ) → P (x ∷ [])) → (vs : List ℕ) → length vs ≡ 1 → P vs
by1 P h [] e = absurd (omega arith)
by1 P h (x ∷ vs) e = by0 (λ (l : List ℕ). P (x ∷ l)) (h x) vs (omega arith)

by2 : (P : List ℕ → Type 0) → ((x y : ℕ) → P (x ∷ y ∷ [])) → (vs : List ℕ) → length vs ≡ 2 → P vs
by2 P h [] e = absurd (omega arith)
by2 P h (x ∷ vs) e = by1 (λ (l : List ℕ). P (x ∷ l)) (h x) vs (omega arith)

by3 : (P : List ℕ → Type 0) → ((x y z : ℕ) → P (x ∷ y ∷ z ∷ [])) → (vs : List ℕ) → length vs ≡ 3 → P vs
by3 P h [] e = absurd (omega arith)
by3 P h (x ∷ vs) e = by2 (λ (l : List ℕ). P (x ∷ l)) (h x) vs (omega arith)

by4 : (P : List ℕ → Type 0) → ((x y z w : ℕ) → P (x ∷ y ∷ z ∷ w ∷ [])) → (vs : List ℕ) → length vs ≡ 4 → P vs
by4 P h [] e = absurd (omega arith)
by4 P h (x ∷ vs) e = by3 (λ (l : List ℕ). P (x ∷ l)) (h x) vs (omega arith)

by5 : (P : List ℕ → Type 0) → ((x y z w v : ℕ) → P (x ∷ y ∷ z ∷ w ∷ v ∷ [])) → (vs : List ℕ) → length vs ≡ 5 → P vs
by5 P h [] e = absurd (omega arith)
by5 P h (x ∷ vs) e = by4 (λ (l : List ℕ). P (x ∷ l)) (h x) vs (omega arith)

spaced_then : (a b c : List ℕ) → spaced a b ++ c ≡ a ++ 32 ∷ (b ++ c)
spaced_then a b c = append_assoc a (32 ∷ b) c

-- what stands after a form's word: only its last byte, or its parts
abbrev by : List Part → List ℕ → List ℕ → List ℕ
by [] x y = x
by (p ∷ ps) x y = y

inside_by : (u : Parts) (ps : List Part) → Fit u ps → (x y : List ℕ) → inside u x y ≡ by ps x y
inside_by none [] h x y = refl
inside_by none (p ∷ ps) h x y = absurd h
inside_by (number n r) [] h x y = absurd h
inside_by (number n r) (p ∷ ps) h x y = refl
inside_by (form g t r) [] h x y = absurd h
inside_by (form g t r) (p ∷ ps) h x y = refl

stop_sep : (f : Form) (r : Parts) (ps : List Part) → Fit r ps → byte (stop_of f r) ≡ byte (sep f ps)
stop_sep f none [] h = refl
stop_sep f none (p ∷ ps) h = absurd h
stop_sep f (number n r) [] h = absurd h
stop_sep f (number n r) (p ∷ ps) h = refl
stop_sep f (form g t r) [] h = absurd h
stop_sep f (form g t r) (p ∷ ps) h = refl

abbrev type_of : Made → Ty
type_of (a_type t) = t
type_of (a_world c) = TyAsNum
type_of (a_term t) = TyAsNum
type_of (a_station g h) = TyAsNum
type_of (a_start n) = TyAsNum

abbrev term_of : Made → Term
term_of (a_type t) = TermAsNum 0
term_of (a_world c) = TermAsNum 0
term_of (a_term t) = t
term_of (a_station g h) = TermAsNum 0
term_of (a_start n) = TermAsNum 0

abbrev kind_of : Made → ℕ
kind_of (a_type t) = 0
kind_of (a_world c) = c
kind_of (a_term t) = 0
kind_of (a_station g h) = 0
kind_of (a_start n) = 0

module _ (T : List Ty) (M : List Term) where
  -- a part's text, from its values in their order
  abbrev part_text : ℕ → Part → List ℕ → List ℕ
  part_text k num vs = decimal (get_or vs 0 0)
  part_text k (sub type) vs = type_text k T (get_or vs 0 0)
  part_text k (sub world) vs = world_text (world_by (get_or vs 1 0) (get_or vs 0 0))
  part_text k (sub term) vs = term_text k T M (get_or vs 0 0)

  abbrev laid : ℕ → Form → List Part → List ℕ → List ℕ → List ℕ
  laid k f [] vs bs = bs
  laid k f (p ∷ ps) vs bs = part_text k p vs ++ byte (sep f ps) ∷ laid k f ps (drop (cell p) vs) bs

  abbrev body : Form → ℕ → List ℕ → List ℕ → List ℕ
  body g k vs x = by (parts g) (last g ∷ x) (laid k g (parts g) vs x)

  -- what a form makes has that form, and its parts' text
  abbrev TypeAt : Form → List ℕ → Type 0
  TypeAt g vs = (k a b : ℕ) (x : List ℕ) →
      (type_form (type_of ((row g).make vs)) ≡ g) × (ty_row ((row g).make vs) ≡ type_of ((row g).make vs) ∷ []) × (own ((row g).make vs) a b vs ≡ a ∷ [])
      × (type_inner (type_of ((row g).make vs)) (type_text k T) ++ last g ∷ x ≡ body g k (reverse vs) x)

  abbrev TypeText : Form → Type 0
  TypeText g = (vs : List ℕ) → length vs ≡ width (parts g) → TypeAt g vs

  type_texts : All TypeText (forms Types)
  type_texts = (λ vs h. by0 (TypeAt TNum) (λ k a b x. (refl, refl, refl, refl)) vs h, (λ vs h. by0 (TypeAt TNone) (λ k a b x. (refl, refl, refl, refl)) vs h, (λ vs h. by2 (TypeAt TFn) (λ q p k a b x. (refl, refl, refl, spaced_then (type_text k T p) (type_text k T q) (41 ∷ x))) vs h, (λ vs h. by1 (TypeAt TBox) (λ p k a b x. (refl, refl, refl, refl)) vs h, (λ vs h. by1 (TypeAt TAt) (λ p k a b x. (refl, refl, refl, refl)) vs h, (λ vs h. by2 (TypeAt TBoth) (λ q p k a b x. (refl, refl, refl, spaced_then (type_text k T p) (type_text k T q) (41 ∷ x))) vs h, tt))))))

  abbrev TermAt : Form → List ℕ → Type 0
  TermAt g vs = (k a b : ℕ) (x : List ℕ) →
      (term_form (term_of ((row g).make vs)) ≡ g) × (tm_row ((row g).make vs) ≡ term_of ((row g).make vs) ∷ []) × (own ((row g).make vs) a b vs ≡ b ∷ [])
      × (term_inner (term_of ((row g).make vs)) (type_text k T) (term_text k T M) ++ 41 ∷ x ≡ body g k (reverse vs) x)

  abbrev TermText : Form → Type 0
  TermText g = (vs : List ℕ) → length vs ≡ width (parts g) → TermAt g vs

  term_Num : TermText Num
  term_Num = λ vs h. by1 (TermAt Num) (λ p k a b x. (refl, refl, refl, refl)) vs h

  term_Val : TermText Val
  term_Val = λ vs h. by1 (TermAt Val) (λ p k a b x. (refl, refl, refl, refl)) vs h

  term_Lam : TermText Lam
  term_Lam = λ vs h. by2 (TermAt Lam) (λ q p k a b x. (refl, refl, refl, spaced_then (type_text k T p) (term_text k T M q) (41 ∷ x))) vs h

  term_App : TermText App
  term_App = λ vs h. by2 (TermAt App) (λ q p k a b x. (refl, refl, refl, spaced_then (term_text k T M p) (term_text k T M q) (41 ∷ x))) vs h

  term_Boxed : TermText Boxed
  term_Boxed = λ vs h. by1 (TermAt Boxed) (λ p k a b x. (refl, refl, refl, refl)) vs h

  term_Unbox : TermText Unbox
  term_Unbox = λ vs h. by1 (TermAt Unbox) (λ p k a b x. (refl, refl, refl, refl)) vs h

  term_Here : TermText Here
  term_Here = λ vs h. by1 (TermAt Here) (λ p k a b x. (refl, refl, refl, refl)) vs h

  term_Letd : TermText Letd
  term_Letd = λ vs h. by2 (TermAt Letd) (λ q p k a b x. (refl, refl, refl, spaced_then (term_text k T M p) (term_text k T M q) (41 ∷ x))) vs h

  term_Getb : TermText Getb
  term_Getb = λ vs h. by3 (TermAt Getb) (λ q c n k a b x. (refl, refl, refl, spaced_then (world_text (world_by c n)) (term_text k T M q) (41 ∷ x))) vs h

  term_Getd : TermText Getd
  term_Getd = λ vs h. by3 (TermAt Getd) (λ q c n k a b x. (refl, refl, refl, spaced_then (world_text (world_by c n)) (term_text k T M q) (41 ∷ x))) vs h

  term_Getn : TermText Getn
  term_Getn = λ vs h. by3 (TermAt Getn) (λ q c n k a b x. (refl, refl, refl, spaced_then (world_text (world_by c n)) (term_text k T M q) (41 ∷ x))) vs h

  term_Pair : TermText Pair
  term_Pair = λ vs h. by2 (TermAt Pair) (λ q p k a b x. (refl, refl, refl, spaced_then (term_text k T M p) (term_text k T M q) (41 ∷ x))) vs h

  term_Fst : TermText Fst
  term_Fst = λ vs h. by1 (TermAt Fst) (λ p k a b x. (refl, refl, refl, refl)) vs h

  term_Snd : TermText Snd
  term_Snd = λ vs h. by1 (TermAt Snd) (λ p k a b x. (refl, refl, refl, refl)) vs h

  term_Letcc : TermText Letcc
  term_Letcc = λ vs h. by2 (TermAt Letcc) (λ q p k a b x. (refl, refl, refl, spaced_then (type_text k T p) (term_text k T M q) (41 ∷ x))) vs h

  term_Throw : TermText Throw
  term_Throw = λ vs h. by3 (TermAt Throw) (λ q n p k a b x. (refl, refl, refl, spaced_then (type_text k T p) (spaced (decimal n) (term_text k T M q)) (41 ∷ x) ∙ ap (λ (l : List ℕ). (type_text k T p) ++ 32 ∷ l) (spaced_then (decimal n) (term_text k T M q) (41 ∷ x)))) vs h

  term_Go : TermText Go
  term_Go = λ vs h. by4 (TermAt Go) (λ q c n p k a b x. (refl, refl, refl, spaced_then (type_text k T p) (spaced (world_text (world_by c n)) (term_text k T M q)) (41 ∷ x) ∙ ap (λ (l : List ℕ). (type_text k T p) ++ 32 ∷ l) (spaced_then (world_text (world_by c n)) (term_text k T M q) (41 ∷ x)))) vs h

  term_Gauge : TermText Gauge
  term_Gauge = λ vs h. by1 (TermAt Gauge) (λ p k a b x. (refl, refl, refl, refl)) vs h

  term_Gate : TermText Gate
  term_Gate = λ vs h. by2 (TermAt Gate) (λ q p k a b x. (refl, refl, refl, spaced_then (decimal p) (term_text k T M q) (41 ∷ x))) vs h

  term_Below : TermText Below
  term_Below = λ vs h. by5 (TermAt Below) (λ o l m n p k a b x. (refl, refl, refl, spaced_then (type_text k T p) (spaced (spaced (term_text k T M n) (term_text k T M m)) (spaced (term_text k T M l) (term_text k T M o))) (41 ∷ x) ∙ ap (λ (u : List ℕ). (type_text k T p) ++ 32 ∷ u) (spaced_then (spaced (term_text k T M n) (term_text k T M m)) (spaced (term_text k T M l) (term_text k T M o)) (41 ∷ x) ∙ spaced_then (term_text k T M n) (term_text k T M m) (32 ∷ (spaced (term_text k T M l) (term_text k T M o) ++ 41 ∷ x)) ∙ ap (λ (u : List ℕ). (term_text k T M n) ++ 32 ∷ ((term_text k T M m) ++ 32 ∷ u)) (spaced_then (term_text k T M l) (term_text k T M o) (41 ∷ x))))) vs h

  term_texts : All TermText (forms Terms)
  term_texts = (term_Num, (term_Val, (term_Lam, (term_App, (term_Boxed, (term_Unbox, (term_Here, (term_Letd, (term_Getb, (term_Getd, (term_Getn, (term_Pair, (term_Fst, (term_Snd, (term_Letcc, (term_Throw, (term_Go, (term_Gauge, (term_Gate, (term_Below, tt))))))))))))))))))))

  abbrev WorldAt : Form → List ℕ → Type 0
  WorldAt g vs = (a b : ℕ) (x : List ℕ) → (own ((row g).make vs) a b vs ≡ kind_of ((row g).make vs) ∷ nth 0 vs ∷ []) × ((k : ℕ) → world_text (world_by (kind_of ((row g).make vs)) (nth 0 vs)) ++ x ≡ spelling g ++ body g k (reverse vs) x)

  abbrev WorldText : Form → Type 0
  WorldText g = (vs : List ℕ) → length vs ≡ width (parts g) → WorldAt g vs

  world_texts : All WorldText (forms Worlds)
  world_texts = (
    λ vs h. by1 (WorldAt Site) (λ n a b x. (refl, λ k. ap (λ (l : List ℕ). spelling Site ++ l) (append_assoc (decimal n) (41 ∷ []) x))) vs h,
    (λ vs h. by1 (WorldAt Bound) (λ n a b x. (refl, λ k. ap (λ (l : List ℕ). spelling Bound ++ l) (append_assoc (decimal n) (41 ∷ []) x))) vs h, tt),
  )

  down : (k : ℕ) → 0 < k → k ≡ suc (k - 1)
  down k h = omega arith

  form_type : (g : Form) → In (spelling g) g (words Types) → (vs : List ℕ) → length vs ≡ width (parts g) → (k a : ℕ) → 0 < k → type_at T a ≡ type_of ((row g).make vs) → (x : List ℕ) →
      type_text k T a ++ x ≡ spelling g ++ body g (k - 1) (reverse vs) x
  form_type g m vs h k a pos e x =
      let t : Ty = type_of ((row g).make vs) in
      let y : List ℕ = type_inner t (type_text (k - 1) T) in
      let p = in_all TypeText (spelling g) g (forms Types) m type_texts vs h (k - 1) a 0 x in
      ap (λ (n : ℕ). type_text n T a ++ x) (down k pos)
      ∙ ap (λ (u : Ty). (spelling (type_form u) ++ (type_inner u (type_text (k - 1) T) ++ last (type_form u) ∷ [])) ++ x) e
      ∙ ap (λ (f : Form). (spelling f ++ (y ++ last f ∷ [])) ++ x) p.0
      ∙ append_assoc (spelling g) (y ++ last g ∷ []) x
      ∙ ap (λ (l : List ℕ). spelling g ++ l) (append_assoc y (last g ∷ []) x ∙ p.3)

  form_term : (g : Form) → In (spelling g) g (words Terms) → (vs : List ℕ) → length vs ≡ width (parts g) → (k b : ℕ) → 0 < k → nth_term M b ≡ term_of ((row g).make vs) → (x : List ℕ) →
      term_text k T M b ++ x ≡ spelling g ++ body g (k - 1) (reverse vs) x
  form_term g m vs h k b pos e x =
      let t : Term = term_of ((row g).make vs) in
      let y : List ℕ = term_inner t (type_text (k - 1) T) (term_text (k - 1) T M) in
      let p = in_all TermText (spelling g) g (forms Terms) m term_texts vs h (k - 1) 0 b x in
      ap (λ (n : ℕ). term_text n T M b ++ x) (down k pos)
      ∙ ap (λ (u : Term). (spelling (term_form u) ++ (term_inner u (type_text (k - 1) T) (term_text (k - 1) T M) ++ 41 ∷ [])) ++ x) e
      ∙ ap (λ (f : Form). (spelling f ++ (y ++ 41 ∷ [])) ++ x) p.0
      ∙ append_assoc (spelling g) (y ++ 41 ∷ []) x
      ∙ ap (λ (l : List ℕ). spelling g ++ l) (append_assoc y (41 ∷ []) x ∙ p.3)

  -- a part that is a form, from its values
  module _ (g : Form) (vs : List ℕ) (w : length vs ≡ width (parts g)) (k a b : ℕ) (pos : 0 < k) (rest : List ℕ) where
    abbrev PartIs : Kind → Type 0
    PartIs kd = (x : List ℕ) → (part_text k (sub kd) (reverse (own ((row g).make vs) a b vs) ++ rest) ++ x ≡ spelling g ++ body g (k - 1) (reverse vs) x)
        × (drop (cells (sort_of kd)) (reverse (own ((row g).make vs) a b vs) ++ rest) ≡ rest)

    part_is : (kd : Kind) → In (spelling g) g (words (sort_of kd)) → Stands T a (ty_row ((row g).make vs)) → Stands M b (tm_row ((row g).make vs)) → PartIs kd
    part_is type m p q x =
        let c = in_all TypeText (spelling g) g (forms Types) m type_texts vs w k a b x in
        let e : type_at T a ≡ type_of ((row g).make vs) = stands_at T a (type_of ((row g).make vs)) [] TyAsNum (subst (λ (l : List Ty). Stands T a l) c.1 p) in
        (ap (λ (l : List ℕ). part_text k (sub type) (reverse l ++ rest) ++ x) c.2 ∙ form_type g m vs w k a pos e x, ap (λ (l : List ℕ). drop 1 (reverse l ++ rest)) c.2)
    part_is world m p q x =
        let c = in_all WorldText (spelling g) g (forms Worlds) m world_texts vs w a b x in
        (ap (λ (l : List ℕ). part_text k (sub world) (reverse l ++ rest) ++ x) c.0 ∙ c.1 (k - 1), ap (λ (l : List ℕ). drop 2 (reverse l ++ rest)) c.0)
    part_is term m p q x =
        let c = in_all TermText (spelling g) g (forms Terms) m term_texts vs w k a b x in
        let e : nth_term M b ≡ term_of ((row g).make vs) = stands_at M b (term_of ((row g).make vs)) [] (TermAsNum 0) (subst (λ (l : List Term). Stands M b l) c.1 q) in
        (ap (λ (l : List ℕ). part_text k (sub term) (reverse l ++ rest) ++ x) c.2 ∙ form_term g m vs w k b pos e x, ap (λ (l : List ℕ). drop 1 (reverse l ++ rest)) c.2)

  -- the parts of a tree are written as the tables have them
  pub written_laid : (t : Parts) (ps : List Part) → Fit t ps → (k : ℕ) → Enough t k → (a b : ℕ) → Stands T a (ty_rows t a b) → Stands M b (tm_rows t a b) → (f : Form) (bs : List ℕ) →
      written f t bs ≡ laid k f ps (reverse (values t a b)) bs
  written_laid none [] h k n a b p q f bs = refl
  written_laid none (x ∷ ps) h k n a b p q f bs = absurd h
  written_laid (number m r) [] h k n a b p q f bs = absurd h
  written_laid (number m r) (num ∷ ps) h k n a b p q f bs =
      ap (λ (l : List ℕ). decimal m ++ byte (stop_of f r) ∷ l) (written_laid r ps h.1 k n a b p q f bs)
      ∙ ap (λ (c : ℕ). decimal m ++ c ∷ laid k f ps (reverse (values r a b)) bs) (stop_sep f r ps h.1)
      ∙ ap (λ (l : List ℕ). laid k f (num ∷ ps) l bs) (sym (reverse-append (values r a b) (m ∷ [])))
  written_laid (number m r) (sub q ∷ ps) h k n a b p e f bs = absurd h
  written_laid (form g u r) [] h k n a b p q f bs = absurd h
  written_laid (form g u r) (num ∷ ps) h k n a b p q f bs = absurd h
  written_laid (form g u r) (sub kd ∷ ps) h k n a b p q f bs =
      let a1 : ℕ = a + one_type (row g).sort in
      let b1 : ℕ = b + one_term (row g).sort in
      let a2 : ℕ = a1 + types u in
      let b2 : ℕ = b1 + terms u in
      let vs : List ℕ = values u a1 b1 in
      let mk : Made = (row g).make vs in
      let later : List ℕ = reverse (values r a2 b2) in
      let pu : Stands T a1 (ty_rows u a1 b1 ++ ty_rows r a2 b2) = stands_right T a (one_type (row g).sort) (ty_row mk) (ty_rows u a1 b1 ++ ty_rows r a2 b2) (row_size g vs).0 p in
      let qu : Stands M b1 (tm_rows u a1 b1 ++ tm_rows r a2 b2) = stands_right M b (one_term (row g).sort) (tm_row mk) (tm_rows u a1 b1 ++ tm_rows r a2 b2) (row_size g vs).1 q in
      let pr : Stands T a2 (ty_rows r a2 b2) = stands_right T a1 (types u) (ty_rows u a1 b1) (ty_rows r a2 b2) (ty_size u a1 b1) pu in
      let qr : Stands M b2 (tm_rows r a2 b2) = stands_right M b1 (terms u) (tm_rows u a1 b1) (tm_rows r a2 b2) (tm_size u a1 b1) qu in
      let y : List ℕ = byte (sep f ps) ∷ laid k f ps later bs in
      let x-is : byte (stop_of f r) ∷ written f r bs ≡ y =
      ap (λ (l : List ℕ). byte (stop_of f r) ∷ l) (written_laid r ps h.2 k n.2 a2 b2 pr qr f bs) ∙ ap (λ (c : ℕ). c ∷ laid k f ps later bs) (stop_sep f r ps h.2) in
      let m : In (spelling g) g (words (sort_of kd)) = subst (λ (o : Sort). In (spelling g) g (words o)) h.0 (listed g) in
      let c = part_is g vs (values_width u (parts g) a1 b1 h.1) k a b n.0 later kd m (stands_left T a (ty_row mk) (ty_rows u a1 b1 ++ ty_rows r a2 b2) p) (stands_left M b (tm_row mk) (tm_rows u a1 b1 ++ tm_rows r a2 b2) q) y in
      ap (λ (x : List ℕ). spelling g ++ inside u (last g ∷ x) (written g u x)) x-is
      ∙ ap (λ (l : List ℕ). spelling g ++ l) (inside_by u (parts g) h.1 (last g ∷ y) (written g u y))
      ∙ ap (λ (l : List ℕ). spelling g ++ by (parts g) (last g ∷ y) l) (written_laid u (parts g) h.1 (k - 1) n.1 a1 b1 (stands_left T a1 (ty_rows u a1 b1) (ty_rows r a2 b2) pu) (stands_left M b1 (tm_rows u a1 b1) (tm_rows r a2 b2) qu) g y)
      ∙ sym c.0
      ∙ ap (λ (l : List ℕ). part_text k (sub kd) (reverse (own mk a b vs) ++ later) ++ byte (sep f ps) ∷ laid k f ps l bs) (sym c.1)
      ∙ ap (λ (l : List ℕ). laid k f (sub kd ∷ ps) l bs) (sym (reverse-append (values r a2 b2) (own mk a b vs)))

  pub main_number : (t : Parts) → Fit t (sub term ∷ []) → (a b : ℕ) → values t a b ≡ b ∷ []
  main_number none h a b = absurd h
  main_number (number n r) h a b = absurd h
  main_number (form g u none) h a b =
      let a1 : ℕ = a + one_type (row g).sort in
      let b1 : ℕ = b + one_term (row g).sort in
      let m : In (spelling g) g (words Terms) = subst (λ (o : Sort). In (spelling g) g (words o)) h.0 (listed g) in
      (in_all TermText (spelling g) g (forms Terms) m term_texts (values u a1 b1) (values_width u (parts g) a1 b1 h.1) 0 a b []).2
  main_number (form g u (number n r)) h a b = absurd h.2
  main_number (form g u (form f t r)) h a b = absurd h.2

-- the lines of the stations
stations_are : (hs : List Counts) (bs : List ℕ) → stations_text hs bs ≡ station_lines hs ++ bs
stations_are [] bs = refl
stations_are (h ∷ hs) bs =
    let g : List ℕ = decimal h.gauges in
    let t : List ℕ = decimal h.gates in
    ap (λ (l : List ℕ). spelling Station ++ (g ++ 32 ∷ (t ++ 41 ∷ 10 ∷ l))) (stations_are hs bs)
    ∙ ap (λ (l : List ℕ). spelling Station ++ (g ++ 32 ∷ l)) (sym (append_assoc t (41 ∷ 10 ∷ []) (station_lines hs ++ bs)))
    ∙ ap (λ (l : List ℕ). spelling Station ++ l) (sym (append_assoc g (32 ∷ (t ++ 41 ∷ 10 ∷ [])) (station_lines hs ++ bs)))
    ∙ sym (append_assoc (station_line h) (station_lines hs) bs)

-- the text of a program's tables is the program's
text_right : (p : Prog) → Right p → deep p.main < 64 → text_of (tables_of (whole p)) ≡ print p
text_right p r d =
    let T : List Ty = ty_rows p.main 0 0 in
    let M : List Term = tm_rows p.main 0 0 in
    let e : written Run p.main (10 ∷ []) ≡ laid T M 64 Run (sub term ∷ []) (reverse (values p.main 0 0)) (10 ∷ []) =
    written_laid T M p.main (sub term ∷ []) r.main 64 (enough p.main (sub term ∷ []) r.main 64 d) 0 0 ([], sym (append-nil T)) ([], sym (append-nil M)) Run (10 ∷ []) in
    let m : laid T M 64 Run (sub term ∷ []) (reverse (values p.main 0 0)) (10 ∷ []) ≡ term_text 64 T M 0 ++ 41 ∷ 10 ∷ [] =
    ap (λ (l : List ℕ). laid T M 64 Run (sub term ∷ []) (reverse l) (10 ∷ [])) (main_number T M p.main r.main 0 0) in
    let w : codes "(run " ++ (decimal p.start ++ (codes " " ++ (term_text 64 T M 0 ++ codes ")\n"))) ≡ spelling Run ++ written Run (run_parts p) (10 ∷ []) =
    ap (λ (l : List ℕ). spelling Run ++ (decimal p.start ++ 32 ∷ l)) (sym (e ∙ m))
    ∙ ap (λ (c : ℕ). spelling Run ++ (decimal p.start ++ c ∷ written Run p.main (10 ∷ []))) (sym (stop_sep Run p.main (sub term ∷ []) r.main)) in
    ap (λ (l : List ℕ). station_lines p.stations ++ l) w ∙ sym (stations_are p.stations (spelling Run ++ written Run (run_parts p) (10 ∷ [])))

pub written_right : WrittenRight
written_right bs s e =
    let a = read_right bs s e in
    let p : Prog = a.0 in
    let t = a.1.0 in
    let d : deep p.main < 64 = omega (arith, t.limits.deep) in
    ap (λ (q : Seen). text_of (tables_of q)) a.1.1 ∙ text_right p t.right d ∙ t.text
