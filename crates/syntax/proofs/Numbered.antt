-- The numbers in a program's tables lead to rows that are there, and a part's number is larger than its whole's.
use Rattle.std.proofs.Common.{◌≡◌, ℕ, zero, suc, ◌+◌, ◌<◌, ◌≤◌, Bool, true, false, cond, eqb, List, [], ◌∷◌, ◌++◌, length, get_or, sym, refl, ap, ◌∙◌, subst, arith}
use Rattle.std.proofs.lemmas.List.{length-append, get_or_append_left, get_or_at, get_or-append-add}
use Rattle.syntax.specs.Grammar.{Part, Kind, Made, parts, row, sort_of, width, nth, world_by}
use Rattle.syntax.specs.Grammar.Part.{num, sub}
use Rattle.syntax.specs.Grammar.Kind.{type, world, term}
use Rattle.syntax.specs.Grammar.Made.{a_type, a_world, a_term, a_station, a_start}
use Rattle.syntax.specs.Trees.{Parts, Prog, Fit, Right, Limits, table, tables, one_type, one_term, types, terms, own, values, ty_row, tm_row, ty_rows, tm_rows}
use Rattle.syntax.specs.Trees.Parts.{none, number as number', form}
use Rattle.syntax.specs.Sound.{Inside, Small, TySound, WorldSound, TermSound, Sound}
use Rattle.syntax.specs.declared.grammar.Form.{Form}
use Rattle.syntax.specs.declared.grammar.Form.TheVariants.{TNum, TNone, TFn, TBox, TAt, TBoth, Site, Bound, Num, Val, Lam, App, Boxed, Unbox, Here, Letd, Getb, Getd, Getn, Pair, Fst, Snd, Letcc, Throw, Go, Gauge, Gate, Below, Station, Run}
use Rattle.syntax.specs.declared.grammar.Sort.{Sort}
use Rattle.syntax.specs.declared.grammar.Sort.TheVariants.{Types, Worlds, Terms, First, Further}
use Rattle.syntax.specs.declared.program.World.TheVariants.{Site as WorldAsSite, Bound as WorldAsBound}
use Rattle.syntax.specs.declared.program.Ty.TheVariants.{Num as TyAsNum}
use Rattle.syntax.specs.declared.program.Term.TheVariants.{Num as TermAsNum}
use Rattle.syntax.proofs.Rows.{Makes, makes}
use Rattle.syntax.proofs.Tables.{values_width}
use Rattle.syntax.proofs.Exact.{read_right}
use Rattle.syntax.specs.Promises.{ReadSound}

-- each row of a table, with its number from n on
abbrev Rows : {A : Type 0} → (ℕ → A → Type 0) → ℕ → List A → Type 0
Rows P n [] = Unit {0}
Rows P n (x ∷ xs) = P n x × Rows P (n + 1) xs

rows_then : {A : Type 0} (P : ℕ → A → Type 0) (n : ℕ) (xs ys : List A) → Rows P n xs → Rows P (n + length xs) ys → Rows P n (xs ++ ys)
rows_then P n [] ys h k = subst (λ (i : ℕ). Rows P i ys) (let z : n + 0 ≡ n = omega arith in z) k
rows_then P n (x ∷ xs) ys h k =
    (h.0, rows_then P (n + 1) xs ys h.1 (subst (λ (i : ℕ). Rows P i ys) (let z : n + length (x ∷ xs) ≡ n + 1 + length xs = omega arith in z) k))

rows_at : {A : Type 0} (P : ℕ → A → Type 0) (n : ℕ) (xs : List A) (d : A) (k : ℕ) → Rows P n xs → k < length xs → P (n + k) (get_or xs k d)
rows_at P n [] d k h l = absurd (omega arith)
rows_at P n (x ∷ xs) d zero h l = subst (λ (i : ℕ). P i x) (let z : n ≡ n + 0 = omega arith in z) h.0
rows_at P n (x ∷ xs) d (suc k) h l = subst (λ (i : ℕ). P i (get_or xs k d)) (let z : n + 1 + k ≡ n + suc k = omega arith in z) (rows_at P (n + 1) xs d k h.1 (omega arith))

pub row_width : (o : Sort) (M : Made) → Makes o M → (length (ty_row M) ≡ one_type o) × (length (tm_row M) ≡ one_term o)
row_width Types (a_type t) h = (refl, refl)
row_width Types (a_world c) h = absurd h
row_width Types (a_term t) h = absurd h
row_width Types (a_station k j) h = absurd h
row_width Types (a_start n) h = absurd h
row_width Worlds (a_type t) h = absurd h
row_width Worlds (a_world c) h = (refl, refl)
row_width Worlds (a_term t) h = absurd h
row_width Worlds (a_station k j) h = absurd h
row_width Worlds (a_start n) h = absurd h
row_width Terms (a_type t) h = absurd h
row_width Terms (a_world c) h = absurd h
row_width Terms (a_term t) h = (refl, refl)
row_width Terms (a_station k j) h = absurd h
row_width Terms (a_start n) h = absurd h
row_width First (a_type t) h = absurd h
row_width First (a_world c) h = absurd h
row_width First (a_term t) h = absurd h
row_width First (a_station k j) h = (refl, refl)
row_width First (a_start n) h = (refl, refl)
row_width Further (a_type t) h = absurd h
row_width Further (a_world c) h = absurd h
row_width Further (a_term t) h = absurd h
row_width Further (a_station k j) h = (refl, refl)
row_width Further (a_start n) h = (refl, refl)

-- a table has as many rows as its tree has types, or terms
pub rows_length : (t : Parts) (ps : List Part) (a b : ℕ) → Fit t ps → (length (ty_rows t a b) ≡ types t) × (length (tm_rows t a b) ≡ terms t)
rows_length none [] a b h = (refl, refl)
rows_length none (c ∷ ps) a b h = absurd h
rows_length (number' n t) [] a b h = absurd h
rows_length (number' n t) (num ∷ ps) a b h = rows_length t ps a b h.1
rows_length (number' n t) (sub k ∷ ps) a b h = absurd h
rows_length (form f t r) [] a b h = absurd h
rows_length (form f t r) (num ∷ ps) a b h = absurd h
rows_length (form f t r) (sub k ∷ ps) a b h =
    let o : Sort = (row f).sort in
    let a1 : ℕ = a + one_type o in
    let b1 : ℕ = b + one_term o in
    let M : Made = (row f).make (values t a1 b1) in
    let w = row_width o M (makes f (values t a1 b1)) in
    let u = rows_length t (parts f) a1 b1 h.1 in
    let v = rows_length r ps (a1 + types t) (b1 + terms t) h.2 in
    (simp length-append (omega (arith, w.0, u.0, v.0)), simp length-append (omega (arith, w.1, u.1, v.1)))

pub head_at : (v w : List ℕ) (n k : ℕ) → length v ≡ n → get_or (v ++ w) (n + k) 0 ≡ get_or w k 0
head_at v w n k e = ap (λ (x : ℕ). get_or (v ++ w) (x + k) 0) (sym e) ∙ get_or-append-add v w k 0

pub own_type : (M : Made) (a b : ℕ) (v : List ℕ) → Makes Types M → get_or (own M a b v) 0 0 ≡ a
own_type (a_type t) a b v h = refl
own_type (a_world c) a b v h = absurd h
own_type (a_term t) a b v h = absurd h
own_type (a_station g k) a b v h = absurd h
own_type (a_start n) a b v h = absurd h

pub own_term : (M : Made) (a b : ℕ) (v : List ℕ) → Makes Terms M → get_or (own M a b v) 0 0 ≡ b
own_term (a_type t) a b v h = absurd h
own_term (a_world c) a b v h = absurd h
own_term (a_term t) a b v h = refl
own_term (a_station g k) a b v h = absurd h
own_term (a_start n) a b v h = absurd h

pub zero_plus : (n : ℕ) → n ≡ n + 0
zero_plus n = omega arith

-- the values of parts, the last first: types from x on, terms from y on, numbers of the text
module _ (m l : ℕ) where
  abbrev Good : ℕ → ℕ → List Part → List ℕ → Type 0
  Good x y [] v = Unit {0}
  Good x y (num ∷ ps) v = Small (nth (width ps) v) × Good x y ps v
  Good x y (sub type ∷ ps) v = Inside x m (nth (width ps) v) × Good x y ps v
  Good x y (sub world ∷ ps) v = Small (nth (width ps + 1) v) × Good x y ps v
  Good x y (sub term ∷ ps) v = Inside y l (nth (width ps) v) × Good x y ps v

  good_more : (x y : ℕ) (ps : List Part) (v w : List ℕ) → width ps ≤ length v → Good x y ps v → Good x y ps (v ++ w)
  good_more x y [] v w h g = tt
  good_more x y (num ∷ ps) v w h g =
      (subst Small (sym (get_or_append_left v w 0 (width ps) (omega arith))) g.0, good_more x y ps v w (omega arith) g.1)
  good_more x y (sub type ∷ ps) v w h g =
      (subst (Inside x m) (sym (get_or_append_left v w 0 (width ps) (omega arith))) g.0, good_more x y ps v w (omega arith) g.1)
  good_more x y (sub world ∷ ps) v w h g =
      (subst Small (sym (get_or_append_left v w 0 (width ps + 1) (omega arith))) g.0, good_more x y ps v w (omega arith) g.1)
  good_more x y (sub term ∷ ps) v w h g =
      (subst (Inside y l) (sym (get_or_append_left v w 0 (width ps) (omega arith))) g.0, good_more x y ps v w (omega arith) g.1)

  -- what a form makes has its parts inside
  abbrev MadeSound : ℕ → ℕ → List ℕ → Made → Type 0
  MadeSound x y v (a_type t) = TySound x m t
  MadeSound x y v (a_world c) = Small (nth 0 v)
  MadeSound x y v (a_term t) = TermSound m y l t
  MadeSound x y v (a_station g h) = Unit {0}
  MadeSound x y v (a_start n) = Unit {0}

  world_good : (c n : ℕ) → Small n → WorldSound (world_by c n)
  world_good c n h = at (eqb c 0)
    where
      at : (b : Bool) → WorldSound (cond b (WorldAsSite n) (WorldAsBound n))
      at true = h
      at false = h

  made_sound : (x y : ℕ) (f : Form) (v : List ℕ) → Good x y (parts f) v → MadeSound x y v ((row f).make v)
  made_sound x y TNum v g = tt
  made_sound x y TNone v g = tt
  made_sound x y TFn v g = (g.0, g.1.0)
  made_sound x y TBox v g = g.0
  made_sound x y TAt v g = g.0
  made_sound x y TBoth v g = (g.0, g.1.0)
  made_sound x y Site v g = g.0
  made_sound x y Bound v g = g.0
  made_sound x y Num v g = g.0
  made_sound x y Val v g = g.0
  made_sound x y Lam v g = (g.0.1, g.1.0)
  made_sound x y App v g = (g.0, g.1.0)
  made_sound x y Boxed v g = g.0
  made_sound x y Unbox v g = g.0
  made_sound x y Here v g = g.0
  made_sound x y Letd v g = (g.0, g.1.0)
  made_sound x y Getb v g = (world_good (nth 1 v) (nth 2 v) g.0, g.1.0)
  made_sound x y Getd v g = (world_good (nth 1 v) (nth 2 v) g.0, g.1.0)
  made_sound x y Getn v g = (world_good (nth 1 v) (nth 2 v) g.0, g.1.0)
  made_sound x y Pair v g = (g.0, g.1.0)
  made_sound x y Fst v g = g.0
  made_sound x y Snd v g = g.0
  made_sound x y Letcc v g = (g.0.1, g.1.0)
  made_sound x y Throw v g = (g.0.1, g.1.0, g.1.1.0)
  made_sound x y Go v g = (g.0.1, world_good (nth 1 v) (nth 2 v) g.1.0, g.1.1.0)
  made_sound x y Gauge v g = g.0
  made_sound x y Gate v g = (g.0, g.1.0)
  made_sound x y Below v g = (g.0.1, g.1.0, g.1.1.0, g.1.1.1.0, g.1.1.1.1.0)
  made_sound x y Station v g = tt
  made_sound x y Run v g = tt

  -- the values of a tree's parts
  world_number : (x y : ℕ) (M : Made) (a b : ℕ) (v : List ℕ) → Makes Worlds M → MadeSound x y v M → Small (get_or (own M a b v) 1 0)
  world_number x y (a_type t) a b v h g = absurd h
  world_number x y (a_world c) a b v h g = g
  world_number x y (a_term t) a b v h g = absurd h
  world_number x y (a_station k j) a b v h g = absurd h
  world_number x y (a_start n) a b v h g = absurd h

  -- one part more, in front
  good_sub : (x y : ℕ) (k : Kind) (ps : List Part) (v : List ℕ) (M : Made) (a b : ℕ) (w : List ℕ) → Makes (sort_of k) M → length v ≡ width ps →
      x ≤ a → y ≤ b → a + one_type (sort_of k) ≤ m → b + one_term (sort_of k) ≤ l → MadeSound x y w M → Good x y ps v → Good x y (sub k ∷ ps) (v ++ own M a b w)
  good_sub x y type ps v M a b w h e p q r t g k =
      let z : get_or (v ++ own M a b w) (width ps) 0 ≡ a = ap (λ (i : ℕ). get_or (v ++ own M a b w) i 0) (zero_plus (width ps)) ∙ head_at v (own M a b w) (width ps) 0 e ∙ own_type M a b w h in
      ((omega (arith, z), omega (arith, z)), good_more x y ps v (own M a b w) (omega arith) k)
  good_sub x y world ps v M a b w h e p q r t g k =
      (subst Small (sym (head_at v (own M a b w) (width ps) 1 e)) (world_number x y M a b w h g), good_more x y ps v (own M a b w) (omega arith) k)
  good_sub x y term ps v M a b w h e p q r t g k =
      let z : get_or (v ++ own M a b w) (width ps) 0 ≡ b = ap (λ (i : ℕ). get_or (v ++ own M a b w) i 0) (zero_plus (width ps)) ∙ head_at v (own M a b w) (width ps) 0 e ∙ own_term M a b w h in
      ((omega (arith, z), omega (arith, z)), good_more x y ps v (own M a b w) (omega arith) k)

  vals_sound : (t : Parts) (ps : List Part) (x y a b : ℕ) → Fit t ps → x ≤ a → y ≤ b → a + types t ≤ m → b + terms t ≤ l → Good x y ps (values t a b)
  vals_sound none [] x y a b h p q r s = tt
  vals_sound none (c ∷ ps) x y a b h p q r s = absurd h
  vals_sound (number' n t) [] x y a b h p q r s = absurd h
  vals_sound (number' n t) (num ∷ ps) x y a b h p q r s =
      let e = values_width t ps a b h.1 in
      (subst Small (sym (get_or_at (values t a b) n [] 0 (width ps) e)) h.0, good_more x y ps (values t a b) (n ∷ []) (omega arith) (vals_sound t ps x y a b h.1 p q r s))
  vals_sound (number' n t) (sub k ∷ ps) x y a b h p q r s = absurd h
  vals_sound (form f t r) [] x y a b h p q c d = absurd h
  vals_sound (form f t r) (num ∷ ps) x y a b h p q c d = absurd h
  vals_sound (form f t r) (sub k ∷ ps) x y a b h p q c d =
      let o : Sort = (row f).sort in
      let a1 : ℕ = a + one_type o in
      let b1 : ℕ = b + one_term o in
      let v : List ℕ = values t a1 b1 in
      let ka : one_type o ≡ one_type (sort_of k) = ap one_type h.0 in
      let kb : one_term o ≡ one_term (sort_of k) = ap one_term h.0 in
      good_sub x y k ps (values r (a1 + types t) (b1 + terms t)) ((row f).make v) a b v
      (subst (λ (z : Sort). Makes z ((row f).make v)) h.0 (makes f v)) (values_width r ps (a1 + types t) (b1 + terms t) h.2)
      p q (omega arith) (omega arith)
      (made_sound x y f v (vals_sound t (parts f) x y a1 b1 h.1 (omega arith) (omega arith) (omega arith) (omega arith)))
      (vals_sound r ps x y (a1 + types t) (b1 + terms t) h.2 (omega arith) (omega arith) (omega arith) (omega arith))

  -- each row of a table that begins with the number n
  ty-row-sound : (a : ℕ) (o : Sort) (y : ℕ) (v : List ℕ) (M : Made) → Makes o M → MadeSound (a + one_type o) y v M → Rows (λ n t. TySound (n + 1) m t) a (ty_row M)
  ty-row-sound a Types y v (a_type t) h g = (g, tt)
  ty-row-sound a Types y v (a_world c) h g = absurd h
  ty-row-sound a Types y v (a_term t) h g = absurd h
  ty-row-sound a Types y v (a_station k j) h g = absurd h
  ty-row-sound a Types y v (a_start n) h g = absurd h
  ty-row-sound a Worlds y v (a_type t) h g = absurd h
  ty-row-sound a Worlds y v (a_world c) h g = tt
  ty-row-sound a Worlds y v (a_term t) h g = absurd h
  ty-row-sound a Worlds y v (a_station k j) h g = absurd h
  ty-row-sound a Worlds y v (a_start n) h g = absurd h
  ty-row-sound a Terms y v (a_type t) h g = absurd h
  ty-row-sound a Terms y v (a_world c) h g = absurd h
  ty-row-sound a Terms y v (a_term t) h g = tt
  ty-row-sound a Terms y v (a_station k j) h g = absurd h
  ty-row-sound a Terms y v (a_start n) h g = absurd h
  ty-row-sound a First y v (a_type t) h g = absurd h
  ty-row-sound a First y v (a_world c) h g = absurd h
  ty-row-sound a First y v (a_term t) h g = absurd h
  ty-row-sound a First y v (a_station k j) h g = tt
  ty-row-sound a First y v (a_start n) h g = tt
  ty-row-sound a Further y v (a_type t) h g = absurd h
  ty-row-sound a Further y v (a_world c) h g = absurd h
  ty-row-sound a Further y v (a_term t) h g = absurd h
  ty-row-sound a Further y v (a_station k j) h g = tt
  ty-row-sound a Further y v (a_start n) h g = tt

  tm-row-sound : (b : ℕ) (o : Sort) (x : ℕ) (v : List ℕ) (M : Made) → Makes o M → MadeSound x (b + one_term o) v M → Rows (λ n t. TermSound m (n + 1) l t) b (tm_row M)
  tm-row-sound b Types x v (a_type t) h g = tt
  tm-row-sound b Types x v (a_world c) h g = absurd h
  tm-row-sound b Types x v (a_term t) h g = absurd h
  tm-row-sound b Types x v (a_station k j) h g = absurd h
  tm-row-sound b Types x v (a_start n) h g = absurd h
  tm-row-sound b Worlds x v (a_type t) h g = absurd h
  tm-row-sound b Worlds x v (a_world c) h g = tt
  tm-row-sound b Worlds x v (a_term t) h g = absurd h
  tm-row-sound b Worlds x v (a_station k j) h g = absurd h
  tm-row-sound b Worlds x v (a_start n) h g = absurd h
  tm-row-sound b Terms x v (a_type t) h g = absurd h
  tm-row-sound b Terms x v (a_world c) h g = absurd h
  tm-row-sound b Terms x v (a_term t) h g = (g, tt)
  tm-row-sound b Terms x v (a_station k j) h g = absurd h
  tm-row-sound b Terms x v (a_start n) h g = absurd h
  tm-row-sound b First x v (a_type t) h g = absurd h
  tm-row-sound b First x v (a_world c) h g = absurd h
  tm-row-sound b First x v (a_term t) h g = absurd h
  tm-row-sound b First x v (a_station k j) h g = tt
  tm-row-sound b First x v (a_start n) h g = tt
  tm-row-sound b Further x v (a_type t) h g = absurd h
  tm-row-sound b Further x v (a_world c) h g = absurd h
  tm-row-sound b Further x v (a_term t) h g = absurd h
  tm-row-sound b Further x v (a_station k j) h g = tt
  tm-row-sound b Further x v (a_start n) h g = tt

  rows_sound : (t : Parts) (ps : List Part) (a b : ℕ) → Fit t ps → a + types t ≤ m → b + terms t ≤ l →
      Rows (λ n t. TySound (n + 1) m t) a (ty_rows t a b) × Rows (λ n t. TermSound m (n + 1) l t) b (tm_rows t a b)
  rows_sound none [] a b h p q = (tt, tt)
  rows_sound none (c ∷ ps) a b h p q = absurd h
  rows_sound (number' n t) [] a b h p q = absurd h
  rows_sound (number' n t) (num ∷ ps) a b h p q = rows_sound t ps a b h.1 p q
  rows_sound (number' n t) (sub k ∷ ps) a b h p q = absurd h
  rows_sound (form f t r) [] a b h p q = absurd h
  rows_sound (form f t r) (num ∷ ps) a b h p q = absurd h
  rows_sound (form f t r) (sub k ∷ ps) a b h p q =
      let o : Sort = (row f).sort in
      let a1 : ℕ = a + one_type o in
      let b1 : ℕ = b + one_term o in
      let v : List ℕ = values t a1 b1 in
      let M : Made = (row f).make v in
      let g = made_sound a1 b1 f v (vals_sound t (parts f) a1 b1 a1 b1 h.1 (omega arith) (omega arith) (omega arith) (omega arith)) in
      let u = rows_sound t (parts f) a1 b1 h.1 (omega arith) (omega arith) in
      let w = rows_sound r ps (a1 + types t) (b1 + terms t) h.2 (omega arith) (omega arith) in
      let n1 : length (ty_row M) ≡ one_type o = (row_width o M (makes f v)).0 in
      let n2 : length (tm_row M) ≡ one_term o = (row_width o M (makes f v)).1 in
      let e = rows_length t (parts f) a1 b1 h.1 in (
        rows_then (λ n t. TySound (n + 1) m t) a (ty_row M) (ty_rows t a1 b1 ++ ty_rows r (a1 + types t) (b1 + terms t)) (ty-row-sound a o b1 v M (makes f v) g)
            (subst (λ (n : ℕ). Rows (λ n t. TySound (n + 1) m t) n (ty_rows t a1 b1 ++ ty_rows r (a1 + types t) (b1 + terms t))) (ap (λ (z : ℕ). a + z) (sym n1))
            (rows_then (λ n t. TySound (n + 1) m t) a1 (ty_rows t a1 b1) (ty_rows r (a1 + types t) (b1 + terms t)) u.0
            (subst (λ (n : ℕ). Rows (λ n t. TySound (n + 1) m t) n (ty_rows r (a1 + types t) (b1 + terms t))) (ap (λ (z : ℕ). a1 + z) (sym e.0)) w.0))),
        rows_then (λ n t. TermSound m (n + 1) l t) b (tm_row M) (tm_rows t a1 b1 ++ tm_rows r (a1 + types t) (b1 + terms t)) (tm-row-sound b o a1 v M (makes f v) g)
            (subst (λ (n : ℕ). Rows (λ n t. TermSound m (n + 1) l t) n (tm_rows t a1 b1 ++ tm_rows r (a1 + types t) (b1 + terms t))) (ap (λ (z : ℕ). b + z) (sym n2))
            (rows_then (λ n t. TermSound m (n + 1) l t) b1 (tm_rows t a1 b1) (tm_rows r (a1 + types t) (b1 + terms t)) u.1
            (subst (λ (n : ℕ). Rows (λ n t. TermSound m (n + 1) l t) n (tm_rows r (a1 + types t) (b1 + terms t))) (ap (λ (z : ℕ). b1 + z) (sym e.1)) w.1))),
      )

some_term : (t : Parts) → Fit t (sub term ∷ []) → 0 < terms t
some_term none h = absurd h
some_term (number' n r) h = absurd h
some_term (form f t r) h = let e : one_term (row f).sort ≡ 1 = ap one_term h.0 in omega arith

pub sound_table : (p : Prog) → Right p → Limits p → Sound (table p)
sound_table p r l =
    let t : Parts = p.main in
    let e = rows_length t (sub term ∷ []) 0 0 r.main in
    let m : ℕ = length (ty_rows t 0 0) in
    let n : ℕ = length (tm_rows t 0 0) in
    let s = rows_sound m n t (sub term ∷ []) 0 0 r.main (omega (arith, e.0)) (omega (arith, e.1)) in (
      λ k h. subst (λ (i : ℕ). TySound (i + 1) m (get_or (ty_rows t 0 0) k TyAsNum)) (let z : 0 + k ≡ k = omega arith in z) (rows_at (λ i x. TySound (i + 1) m x) 0 (ty_rows t 0 0) TyAsNum k s.0 h),
      λ k h. subst (λ (i : ℕ). TermSound m (i + 1) n (get_or (tm_rows t 0 0) k (TermAsNum 0))) (let z : 0 + k ≡ k = omega arith in z) (rows_at (λ i x. TermSound m (i + 1) n x) 0 (tm_rows t 0 0) (TermAsNum 0) k s.1 h),
      (omega (arith, e.1, some_term t r.main), omega (arith, e.1, l.terms), omega (arith, e.0, l.types), r.some, l.stations, l.counts),
      r.start,
    )

-- what is read has sound tables
pub read_sound : ReadSound
read_sound bs s e =
    let a = read_right bs s e in
    subst Sound (sym (ap tables a.1.1)) (sound_table a.0 a.1.0.right a.1.0.limits)
