-- How high the types and terms of a program are.
use Rattle.std.proofs.Common.{◌≡◌, ℕ, zero, suc, ◌+◌, ◌<◌, ◌≤◌, max, Bool, true, cond, eqb, ◌⊎◌, List, [], ◌∷◌, ◌++◌, length, get_or, sym, refl, ap, ◌∙◌, subst, inl, inr, ⊎_elim, arith}
use Rattle.std.proofs.lemmas.Bool.{cases_lt}
use Rattle.std.proofs.lemmas.List.{length-append, append_assoc, append-nil, get_or_append_left, get_or_at}
use Rattle.syntax.specs.Grammar.{Part, Kind, Made, parts, row, last, sort_of, width, nth}
use Rattle.syntax.specs.Grammar.Part.{num, sub}
use Rattle.syntax.specs.Grammar.Kind.{type, world, term}
use Rattle.syntax.specs.Grammar.Made.{a_type, a_world, a_term, a_station, a_start}
use Rattle.syntax.specs.Trees.{Parts, Prog, Fit, Right, Limits, deep, nested, table, tables, one_type, one_term, types, terms, own, values, ty_row, tm_row, ty_rows, tm_rows}
use Rattle.syntax.specs.Trees.Parts.{none, number as number', form}
use Rattle.syntax.specs.Sound.{TyParts, TermParts, TyLow, TermLow, Low}
use Rattle.syntax.specs.declared.grammar.Form.{Form}
use Rattle.syntax.specs.declared.grammar.Form.TheVariants.{TNum, TNone, TFn, TBox, TAt, TBoth, Site, Bound, Num, Val, Lam, App, Boxed, Unbox, Here, Letd, Getb, Getd, Getn, Pair, Fst, Snd, Letcc, Throw, Go, Gauge, Gate, Below, Station, Run}
use Rattle.syntax.specs.declared.grammar.Sort.{Sort}
use Rattle.syntax.specs.declared.program.Ty.{Ty}
use Rattle.syntax.specs.declared.program.Ty.TheVariants.{Num as TyAsNum, Never as TyAsNever, Fn as TyAsFn, Boxed as TyAsBoxed, At as TyAsAt, Both as TyAsBoth}
use Rattle.syntax.specs.declared.program.Term.{Term}
use Rattle.syntax.specs.declared.program.Term.TheVariants.{Num as TermAsNum, Value as TermAsValue, Lam as TermAsLam, App as TermAsApp, Boxed as TermAsBoxed, Unbox as TermAsUnbox, Here as TermAsHere, Letd as TermAsLetd, Get as TermAsGet, Pair as TermAsPair, Fst as TermAsFst, Snd as TermAsSnd, Letcc as TermAsLetcc, Throw as TermAsThrow, Go as TermAsGo, Gauge as TermAsGauge, Gate as TermAsGate, Below as TermAsBelow}
use Rattle.syntax.proofs.Rows.{Makes, makes}
use Rattle.syntax.proofs.Tables.{values_width}
use Rattle.syntax.proofs.Exact.{read_right}
use Rattle.syntax.specs.Promises.{ReadLow}
use Rattle.syntax.proofs.Numbered.{rows_length, row_width, own_type, own_term, head_at, zero_plus}

-- rows that stand in a table from a number on
abbrev pub Stand : {A : Type 0} → List A → ℕ → List A → Type 0
Stand {A} xs n ys = (pre : List A) × ((post : List A) × ((xs ≡ pre ++ (ys ++ post)) × (length pre ≡ n)))

pub stand_left : {A : Type 0} (xs : List A) (n : ℕ) (ys zs : List A) → Stand xs n (ys ++ zs) → Stand xs n ys
stand_left xs n ys zs h = (h.0, (zs ++ h.1.0, (h.1.1.0 ∙ ap (λ l. h.0 ++ l) (append_assoc ys zs h.1.0), h.1.1.1)))

pub stand_right : {A : Type 0} (xs : List A) (n m : ℕ) (ys zs : List A) → length ys ≡ m → Stand xs n (ys ++ zs) → Stand xs (n + m) zs
stand_right xs n m ys zs e h =
    (h.0 ++ ys, (h.1.0, (h.1.1.0 ∙ ap (λ l. h.0 ++ l) (append_assoc ys zs h.1.0) ∙ sym (append_assoc h.0 ys (zs ++ h.1.0)), length-append h.0 ys ∙ ap (λ i. i + length ys) h.1.1.1 ∙ ap (λ i. n + i) e)))

pub stand_first : {A : Type 0} (xs : List A) (n : ℕ) (y : A) (ys : List A) (d : A) → Stand xs n (y ∷ ys) → get_or xs n d ≡ y
stand_first xs n y ys d h = ap (λ l. get_or l n d) h.1.1.0 ∙ get_or_at h.0 y (ys ++ h.1.0) d n h.1.1.1

-- how many forms of a tree stand in one another
abbrev height : Parts → ℕ
height none = 0
height (number' n r) = height r
height (form f t r) = max (height t + 1) (height r)

ty_map : (P Q : ℕ → Type 0) → ((a : ℕ) → P a → Q a) → (t : Ty) → TyParts P t → TyParts Q t
ty_map P Q f TyAsNum h = tt
ty_map P Q f TyAsNever h = tt
ty_map P Q f (TyAsFn a b) h = (f a h.0, f b h.1)
ty_map P Q f (TyAsBoxed a) h = f a h
ty_map P Q f (TyAsAt a) h = f a h
ty_map P Q f (TyAsBoth a b) h = (f a h.0, f b h.1)

pub term_map : (P Q : ℕ → Type 0) → ((a : ℕ) → P a → Q a) → (t : Term) → TermParts P t → TermParts Q t
term_map P Q f (TermAsNum n) h = tt
term_map P Q f (TermAsValue n) h = tt
term_map P Q f (TermAsLam t a) h = f a h
term_map P Q f (TermAsApp a b) h = (f a h.0, f b h.1)
term_map P Q f (TermAsBoxed a) h = f a h
term_map P Q f (TermAsUnbox a) h = f a h
term_map P Q f (TermAsHere a) h = f a h
term_map P Q f (TermAsLetd a b) h = (f a h.0, f b h.1)
term_map P Q f (TermAsGet m w a) h = f a h
term_map P Q f (TermAsPair a b) h = (f a h.0, f b h.1)
term_map P Q f (TermAsFst a) h = f a h
term_map P Q f (TermAsSnd a) h = f a h
term_map P Q f (TermAsLetcc t a) h = f a h
term_map P Q f (TermAsThrow t n a) h = f a h
term_map P Q f (TermAsGo t w a) h = f a h
term_map P Q f (TermAsGauge n) h = tt
term_map P Q f (TermAsGate n a) h = f a h
term_map P Q f (TermAsBelow t a b c d) h = (f a h.0, f b h.1, f c h.2, f d h.3)

module _ (tys : List Ty) (tms : List Term) where
  -- what is low is as low as more
  pub ty_more : (k m n : ℕ) → k ≤ m → TyLow tys k n → TyLow tys m n
  ty_more zero m n l h = absurd h
  ty_more (suc k) zero n l h = absurd (omega arith)
  ty_more (suc k) (suc m) n l h = ty_map (λ a. TyLow tys k a) (λ a. TyLow tys m a) (λ a g. ty_more k m a (omega arith) g) (get_or tys n TyAsNum) h

  pub term_more : (k m n : ℕ) → k ≤ m → TermLow tms k n → TermLow tms m n
  term_more zero m n l h = absurd h
  term_more (suc k) zero n l h = absurd (omega arith)
  term_more (suc k) (suc m) n l h = term_map (λ a. TermLow tms k a) (λ a. TermLow tms m a) (λ a g. term_more k m a (omega arith) g) (get_or tms n (TermAsNum 0)) h

  -- the values of parts are low
  abbrev Good : ℕ → List Part → List ℕ → Type 0
  Good k [] v = Unit {0}
  Good k (num ∷ ps) v = Good k ps v
  Good k (sub type ∷ ps) v = TyLow tys k (nth (width ps) v) × Good k ps v
  Good k (sub world ∷ ps) v = Good k ps v
  Good k (sub term ∷ ps) v = TermLow tms k (nth (width ps) v) × Good k ps v

  good_more : (k : ℕ) (ps : List Part) (v w : List ℕ) → width ps ≤ length v → Good k ps v → Good k ps (v ++ w)
  good_more k [] v w h g = tt
  good_more k (num ∷ ps) v w h g = good_more k ps v w (omega arith) g
  good_more k (sub type ∷ ps) v w h g = (subst (TyLow tys k) (sym (get_or_append_left v w 0 (width ps) (omega arith))) g.0, good_more k ps v w (omega arith) g.1)
  good_more k (sub world ∷ ps) v w h g = good_more k ps v w (omega arith) g
  good_more k (sub term ∷ ps) v w h g = (subst (TermLow tms k) (sym (get_or_append_left v w 0 (width ps) (omega arith))) g.0, good_more k ps v w (omega arith) g.1)

  abbrev MadeLow : ℕ → Made → Type 0
  MadeLow k (a_type t) = TyParts (λ a. TyLow tys k a) t
  MadeLow k (a_world c) = Unit {0}
  MadeLow k (a_term t) = TermParts (λ a. TermLow tms k a) t
  MadeLow k (a_station g h) = Unit {0}
  MadeLow k (a_start n) = Unit {0}

  made_low : (k : ℕ) (f : Form) (v : List ℕ) → Good k (parts f) v → MadeLow k ((row f).make v)
  made_low k TNum v g = tt
  made_low k TNone v g = tt
  made_low k TFn v g = (g.0, g.1.0)
  made_low k TBox v g = g.0
  made_low k TAt v g = g.0
  made_low k TBoth v g = (g.0, g.1.0)
  made_low k Site v g = tt
  made_low k Bound v g = tt
  made_low k Num v g = tt
  made_low k Val v g = tt
  made_low k Lam v g = g.1.0
  made_low k App v g = (g.0, g.1.0)
  made_low k Boxed v g = g.0
  made_low k Unbox v g = g.0
  made_low k Here v g = g.0
  made_low k Letd v g = (g.0, g.1.0)
  made_low k Getb v g = g.0
  made_low k Getd v g = g.0
  made_low k Getn v g = g.0
  made_low k Pair v g = (g.0, g.1.0)
  made_low k Fst v g = g.0
  made_low k Snd v g = g.0
  made_low k Letcc v g = g.1.0
  made_low k Throw v g = g.1.0
  made_low k Go v g = g.1.0
  made_low k Gauge v g = tt
  made_low k Gate v g = g.0
  made_low k Below v g = (g.1.0, g.1.1.0, g.1.1.1.0, g.1.1.1.1.0)
  made_low k Station v g = tt
  made_low k Run v g = tt

  -- the form itself
  abbrev OwnLow : Kind → ℕ → ℕ → ℕ → Type 0
  OwnLow type k a b = TyLow tys k a
  OwnLow world k a b = Unit {0}
  OwnLow term k a b = TermLow tms k b

  own_low : (d : Kind) (k a b : ℕ) (M : Made) → Makes (sort_of d) M → MadeLow k M → Stand tys a (ty_row M) → Stand tms b (tm_row M) → OwnLow d (suc k) a b
  own_low type k a b (a_type t) m h x y = subst (TyParts (λ i. TyLow tys k i)) (sym (stand_first tys a t [] TyAsNum x)) h
  own_low type k a b (a_world c) m h x y = absurd m
  own_low type k a b (a_term t) m h x y = absurd m
  own_low type k a b (a_station g j) m h x y = absurd m
  own_low type k a b (a_start n) m h x y = absurd m
  own_low world k a b M m h x y = tt
  own_low term k a b (a_type t) m h x y = absurd m
  own_low term k a b (a_world c) m h x y = absurd m
  own_low term k a b (a_term t) m h x y = subst (TermParts (λ i. TermLow tms k i)) (sym (stand_first tms b t [] (TermAsNum 0) y)) h
  own_low term k a b (a_station g j) m h x y = absurd m
  own_low term k a b (a_start n) m h x y = absurd m

  good_sub : (d : Kind) (k : ℕ) (ps : List Part) (v : List ℕ) (M : Made) (a b : ℕ) (w : List ℕ) → Makes (sort_of d) M → length v ≡ width ps → OwnLow d k a b → Good k ps v → Good k (sub d ∷ ps) (v ++ own M a b w)
  good_sub type k ps v M a b w m e h g =
      (subst (TyLow tys k) (sym (ap (λ (i : ℕ). get_or (v ++ own M a b w) i 0) (zero_plus (width ps)) ∙ head_at v (own M a b w) (width ps) 0 e ∙ own_type M a b w m)) h, good_more k ps v (own M a b w) (omega arith) g)
  good_sub world k ps v M a b w m e h g = good_more k ps v (own M a b w) (omega arith) g
  good_sub term k ps v M a b w m e h g =
      (subst (TermLow tms k) (sym (ap (λ (i : ℕ). get_or (v ++ own M a b w) i 0) (zero_plus (width ps)) ∙ head_at v (own M a b w) (width ps) 0 e ∙ own_term M a b w m)) h, good_more k ps v (own M a b w) (omega arith) g)

  -- each that a tree has
  abbrev TysLow : ℕ → ℕ → ℕ → Type 0
  TysLow k a b = (n : ℕ) → a ≤ n → n < b → TyLow tys k n

  abbrev TmsLow : ℕ → ℕ → ℕ → Type 0
  TmsLow k a b = (n : ℕ) → a ≤ n → n < b → TermLow tms k n

  tys_own : (d : Kind) (k a b : ℕ) → OwnLow d k a b → TysLow k a (a + one_type (sort_of d))
  tys_own type k a b h n l u = subst (TyLow tys k) (let z : a ≡ n = omega arith in z) h
  tys_own world k a b h n l u = absurd (omega arith)
  tys_own term k a b h n l u = absurd (omega arith)

  tms_own : (d : Kind) (k a b : ℕ) → OwnLow d k a b → TmsLow k b (b + one_term (sort_of d))
  tms_own type k a b h n l u = absurd (omega arith)
  tms_own world k a b h n l u = absurd (omega arith)
  tms_own term k a b h n l u = subst (TermLow tms k) (let z : b ≡ n = omega arith in z) h

  tys_join : (k a b c : ℕ) → TysLow k a b → TysLow k b c → TysLow k a c
  tys_join k a b c h g n l u = ⊎_elim (λ (x : n < b). h n l x) (λ (x : b ≤ n). g n x u) (cases_lt n b)

  tms_join : (k a b c : ℕ) → TmsLow k a b → TmsLow k b c → TmsLow k a c
  tms_join k a b c h g n l u = ⊎_elim (λ (x : n < b). h n l x) (λ (x : b ≤ n). g n x u) (cases_lt n b)

  abbrev Lows : ℕ → Parts → List Part → ℕ → ℕ → Type 0
  Lows k t ps a b = Good k ps (values t a b) × TysLow k a (a + types t) × TmsLow k b (b + terms t)

  lows : (t : Parts) (ps : List Part) (a b k : ℕ) → Fit t ps → Stand tys a (ty_rows t a b) → Stand tms b (tm_rows t a b) → height t ≤ k → Lows k t ps a b
  lows none [] a b k h x y l = (tt, (λ n p q. absurd (omega arith)), (λ n p q. absurd (omega arith)))
  lows none (p ∷ ps) a b k h x y l = absurd h
  lows (number' n r) [] a b k h x y l = absurd h
  lows (number' n r) (num ∷ ps) a b k h x y l =
      let i = lows r ps a b k h.1 x y l in
      let e = values_width r ps a b h.1 in
      (good_more k ps (values r a b) (n ∷ []) (omega arith) i.0, i.1, i.2)
  lows (number' n r) (sub d ∷ ps) a b k h x y l = absurd h
  lows (form f t r) [] a b k h x y l = absurd h
  lows (form f t r) (num ∷ ps) a b k h x y l = absurd h
  lows (form f t r) (sub d ∷ ps) a b zero h x y l = absurd (omega arith)
  lows (form f t r) (sub d ∷ ps) a b (suc k) h x y l =
      let o : Sort = (row f).sort in
      let a1 : ℕ = a + one_type o in
      let b1 : ℕ = b + one_term o in
      let a2 : ℕ = a1 + types t in
      let b2 : ℕ = b1 + terms t in
      let v : List ℕ = values t a1 b1 in
      let M : Made = (row f).make v in
      let w = row_width o M (makes f v) in
      let e = rows_length t (parts f) a1 b1 h.1 in
      let x1 = stand_right tys a (one_type o) (ty_row M) (ty_rows t a1 b1 ++ ty_rows r a2 b2) w.0 x in
      let y1 = stand_right tms b (one_term o) (tm_row M) (tm_rows t a1 b1 ++ tm_rows r a2 b2) w.1 y in
      let i = lows t (parts f) a1 b1 k h.1 (stand_left tys a1 (ty_rows t a1 b1) (ty_rows r a2 b2) x1) (stand_left tms b1 (tm_rows t a1 b1) (tm_rows r a2 b2) y1) (omega arith) in
      let j = lows r ps a2 b2 (suc k) h.2 (stand_right tys a1 (types t) (ty_rows t a1 b1) (ty_rows r a2 b2) e.0 x1) (stand_right tms b1 (terms t) (tm_rows t a1 b1) (tm_rows r a2 b2) e.1 y1) (omega arith) in
      let m : Makes (sort_of d) M = subst (λ (z : Sort). Makes z M) h.0 (makes f v) in
      let c = own_low d k a b M m (made_low k f v i.0) (stand_left tys a (ty_row M) (ty_rows t a1 b1 ++ ty_rows r a2 b2) x) (stand_left tms b (tm_row M) (tm_rows t a1 b1 ++ tm_rows r a2 b2) y) in
      let ka : one_type o ≡ one_type (sort_of d) = ap one_type h.0 in
      let kb : one_term o ≡ one_term (sort_of d) = ap one_term h.0 in (
        good_sub d (suc k) ps (values r a2 b2) M a b v m (values_width r ps a2 b2 h.2) c j.0,
        (λ n p q. tys_join (suc k) a a1 (a2 + types r) (subst (λ (z : ℕ). TysLow (suc k) a (a + z)) (sym ka) (tys_own d (suc k) a b c))
            (tys_join (suc k) a1 a2 (a2 + types r) (λ n' p' q'. ty_more k (suc k) n' (omega arith) (i.1 n' p' q')) j.1) n p (omega arith)),
        (λ n p q. tms_join (suc k) b b1 (b2 + terms r) (subst (λ (z : ℕ). TmsLow (suc k) b (b + z)) (sym kb) (tms_own d (suc k) a b c))
            (tms_join (suc k) b1 b2 (b2 + terms r) (λ n' p' q'. term_more k (suc k) n' (omega arith) (i.2 n' p' q')) j.2) n p (omega arith)),
      )

-- a form with parts has a bracket
bracketed : (f : Form) → (eqb (last f) 41 ≡ true) ⊎ (parts f ≡ [])
bracketed TNum = inr refl
bracketed TNone = inr refl
bracketed TFn = inl refl
bracketed TBox = inl refl
bracketed TAt = inl refl
bracketed TBoth = inl refl
bracketed Site = inl refl
bracketed Bound = inl refl
bracketed Num = inl refl
bracketed Val = inl refl
bracketed Lam = inl refl
bracketed App = inl refl
bracketed Boxed = inl refl
bracketed Unbox = inl refl
bracketed Here = inl refl
bracketed Letd = inl refl
bracketed Getb = inl refl
bracketed Getd = inl refl
bracketed Getn = inl refl
bracketed Pair = inl refl
bracketed Fst = inl refl
bracketed Snd = inl refl
bracketed Letcc = inl refl
bracketed Throw = inl refl
bracketed Go = inl refl
bracketed Gauge = inl refl
bracketed Gate = inl refl
bracketed Below = inl refl
bracketed Station = inl refl
bracketed Run = inl refl

no_parts : (t : Parts) (ps : List Part) → Fit t ps → ps ≡ [] → height t ≡ 0
no_parts none ps h e = refl
no_parts (number' n r) [] h e = absurd h
no_parts (number' n r) (p ∷ ps) h e = absurd (let z : ◌≡◌ {A = ℕ} 0 1 = cc in omega arith)
no_parts (form f t r) [] h e = absurd h
no_parts (form f t r) (p ∷ ps) h e = absurd (let z : ◌≡◌ {A = ℕ} 0 1 = cc in omega arith)

height_deep : (t : Parts) (ps : List Part) → Fit t ps → height t ≤ deep t + 1
height_deep none [] h = omega arith
height_deep none (p ∷ ps) h = absurd h
height_deep (number' n r) [] h = absurd h
height_deep (number' n r) (num ∷ ps) h = height_deep r ps h.1
height_deep (number' n r) (sub d ∷ ps) h = absurd h
height_deep (form f t r) [] h = absurd h
height_deep (form f t r) (num ∷ ps) h = absurd h
height_deep (form f t r) (sub d ∷ ps) h =
    let i = height_deep t (parts f) h.1 in
    let j = height_deep r ps h.2 in
    ⊎_elim
    (λ (e : eqb (last f) 41 ≡ true). let z : nested f (deep t) ≡ deep t + 1 = ap (λ (b : Bool). cond b (deep t + 1) (deep t)) e in omega (arith, i, j, z))
    (λ (e : parts f ≡ []). omega (arith, no_parts t (parts f) h.1 e, j))
    (bracketed f)

pub low_table : (p : Prog) → Right p → Limits p → Low (table p)
low_table p r l =
    let t : Parts = p.main in
    let e = rows_length t (sub term ∷ []) 0 0 r.main in
    let x : Stand (ty_rows t 0 0) 0 (ty_rows t 0 0) = ([], ([], (sym (append-nil (ty_rows t 0 0)), refl))) in
    let y : Stand (tm_rows t 0 0) 0 (tm_rows t 0 0) = ([], ([], (sym (append-nil (tm_rows t 0 0)), refl))) in
    let s = lows (ty_rows t 0 0) (tm_rows t 0 0) t (sub term ∷ []) 0 0 64 r.main x y (omega (arith, height_deep t (sub term ∷ []) r.main, l.deep)) in
    (λ n h. s.1 n (omega arith) (omega (arith, e.0)), λ n h. s.2 n (omega arith) (omega (arith, e.1)))

-- what is read is low
pub read_low : ReadLow
read_low bs s e =
    let a = read_right bs s e in
    subst Low (sym (ap tables a.1.1)) (low_table a.0 a.1.0.right a.1.0.limits)
