-- The tables that reading makes have their rows in the order of the text.
use Rattle.std.proofs.Common.{◌≡◌, ℕ, ◌+◌, ◌-◌, Bool, true, false, cond, eqb, List, [], ◌∷◌, ◌++◌, length, get_or, drop, set, sym, refl, ap, ◌∙◌, subst, arith}
use Rattle.std.proofs.lemmas.List.{length-append, length_push, append-nil, append_assoc, take_at, drop_at, get_or_at, set_at}
use Rattle.syntax.specs.Grammar.{Part, Kind, Made, parts, row, last, sort_of, width, cells}
use Rattle.syntax.specs.Grammar.Stop.{close}
use Rattle.syntax.specs.Grammar.Part.{num, sub}
use Rattle.syntax.specs.Grammar.Kind.{type, world, term}
use Rattle.syntax.specs.Grammar.Made.{a_type, a_world, a_term, a_station, a_start}
use Rattle.syntax.specs.Reading.{Seen, begun, passed, opened, settled}
use Rattle.syntax.specs.Trees.{Parts, Fit, one_type, one_term, types, terms, own, values, ty_row, tm_row, ty_rows, tm_rows}
use Rattle.syntax.specs.Trees.Parts.{none, number as number', form}
use Rattle.syntax.specs.declared.grammar.Form.{Form}
use Rattle.syntax.specs.declared.grammar.Sort.{Sort}
use Rattle.syntax.specs.declared.grammar.Sort.TheVariants.{Types, Worlds, Terms}
use Rattle.syntax.specs.declared.program.Ty.{Ty}
use Rattle.syntax.specs.declared.program.Ty.TheVariants.{Num as TyAsNum}
use Rattle.syntax.specs.declared.program.Term.{Term}
use Rattle.syntax.specs.declared.program.Term.TheVariants.{Num as TermAsNum}
use Rattle.instruments.specs.declared.sheet.Station.{Station as Counts}
use Rattle.syntax.proofs.Rows.{Makes, makes, own_width}
use Rattle.syntax.proofs.Forms.{put, put_sizes, form_sizes}

abbrev pub seen : List ℕ → ℕ → List Ty → List Term → List Counts → ℕ → Seen
seen v d T M H n = record { vals = v; depth = d; tys = T; tms = M; stations = H; start = n }

pub values_width : (t : Parts) (ps : List Part) (a b : ℕ) → Fit t ps → length (values t a b) ≡ width ps
values_width none [] a b h = refl
values_width none (p ∷ ps) a b h = absurd h
values_width (number' n r) [] a b h = absurd h
values_width (number' n r) (num ∷ ps) a b h = let e = values_width r ps a b h.1 in length_push (values r a b) n ∙ (let z : length (values r a b) + 1 ≡ 1 + width ps = omega arith in z)
values_width (number' n r) (sub k ∷ ps) a b h = absurd h
values_width (form g t r) [] a b h = absurd h
values_width (form g t r) (num ∷ ps) a b h = absurd h
values_width (form g t r) (sub k ∷ ps) a b h =
    let a1 : ℕ = a + one_type (row g).sort in
    let b1 : ℕ = b + one_term (row g).sort in
    let e = values_width r ps (a1 + types t) (b1 + terms t) h.2 in
    let q = own_width g a b (values t a1 b1) (values_width t (parts g) a1 b1 h.1) in
    let c : cells (row g).sort ≡ cells (sort_of k) = ap cells h.0 in
    length-append (values r (a1 + types t) (b1 + terms t)) (own ((row g).make (values t a1 b1)) a b (values t a1 b1))
    ∙ (let z : length (values r (a1 + types t) (b1 + terms t)) + length (own ((row g).make (values t a1 b1)) a b (values t a1 b1)) ≡ cells (sort_of k) + width ps = omega (arith, e, q, c) in z)

undo : (t : Bool) (d : ℕ) → cond t (cond t (d + 1) d - 1) (cond t (d + 1) d) ≡ d
undo true d = let z : d + 1 - 1 ≡ d = omega arith in z
undo false d = refl

module _ (w : ℕ) (vs v : List ℕ) (d a b : ℕ) (T R : List Ty) (M Q : List Term) (H : List Counts) (n : ℕ) (wide : length vs ≡ w) where
  settled_type : (m : Made) (x : Ty) → Makes Types m → a ≡ length T →
      settled w m (seen (vs ++ a ∷ v) d ((T ++ x ∷ []) ++ R) (M ++ Q) H n) ≡ seen (own m a b vs ++ v) d (T ++ (ty_row m ++ R)) (M ++ (tm_row m ++ Q)) H n
  settled_type (a_type t) x k e =
      let p : drop w (vs ++ a ∷ v) ≡ a ∷ v = drop_at vs (a ∷ v) w wide in
      let q : get_or (vs ++ a ∷ v) w 0 ≡ a = get_or_at vs a v 0 w wide in
      let r : set ((T ++ x ∷ []) ++ R) a t ≡ T ++ t ∷ R = ap (λ (l : List Ty). set l a t) (append_assoc T (x ∷ []) R) ∙ set_at T x R t a (sym e) in
      ap (λ (l : List ℕ). seen l d (set ((T ++ x ∷ []) ++ R) (get_or (vs ++ a ∷ v) w 0) t) (M ++ Q) H n) p
      ∙ ap (λ (l : ℕ). seen (a ∷ v) d (set ((T ++ x ∷ []) ++ R) l t) (M ++ Q) H n) q
      ∙ ap (λ (l : List Ty). seen (a ∷ v) d l (M ++ Q) H n) r
  settled_type (a_world c) x k e = absurd k
  settled_type (a_term t) x k e = absurd k
  settled_type (a_station g h) x k e = absurd k
  settled_type (a_start h) x k e = absurd k

  settled_term : (m : Made) (x : Term) → Makes Terms m → b ≡ length M →
      settled w m (seen (vs ++ b ∷ v) d (T ++ R) ((M ++ x ∷ []) ++ Q) H n) ≡ seen (own m a b vs ++ v) d (T ++ (ty_row m ++ R)) (M ++ (tm_row m ++ Q)) H n
  settled_term (a_term t) x k e =
      let p : drop w (vs ++ b ∷ v) ≡ b ∷ v = drop_at vs (b ∷ v) w wide in
      let q : get_or (vs ++ b ∷ v) w 0 ≡ b = get_or_at vs b v 0 w wide in
      let r : set ((M ++ x ∷ []) ++ Q) b t ≡ M ++ t ∷ Q = ap (λ (l : List Term). set l b t) (append_assoc M (x ∷ []) Q) ∙ set_at M x Q t b (sym e) in
      ap (λ (l : List ℕ). seen l d (T ++ R) (set ((M ++ x ∷ []) ++ Q) (get_or (vs ++ b ∷ v) w 0) t) H n) p
      ∙ ap (λ (l : ℕ). seen (b ∷ v) d (T ++ R) (set ((M ++ x ∷ []) ++ Q) l t) H n) q
      ∙ ap (λ (l : List Term). seen (b ∷ v) d (T ++ R) l H n) r
  settled_term (a_world c) x k e = absurd k
  settled_term (a_type t) x k e = absurd k
  settled_term (a_station g h) x k e = absurd k
  settled_term (a_start h) x k e = absurd k

  settle_world : (m : Made) → Makes Worlds m →
      settled w m (seen (vs ++ v) d (T ++ R) (M ++ Q) H n) ≡ seen (own m a b vs ++ v) d (T ++ (ty_row m ++ R)) (M ++ (tm_row m ++ Q)) H n
  settle_world (a_world c) k = refl
  settle_world (a_term t) k = absurd k
  settle_world (a_type t) k = absurd k
  settle_world (a_station g h) k = absurd k
  settle_world (a_start h) k = absurd k

-- reading parts, in one line
abbrev Rows : Parts → Type 0
Rows t = (v : List ℕ) (d : ℕ) (T : List Ty) (M : List Term) (H : List Counts) (n a b : ℕ) → a ≡ length T → b ≡ length M →
    put t (seen v d T M H n) ≡ seen (values t a b ++ v) d (T ++ ty_rows t a b) (M ++ tm_rows t a b) H n

-- a form whose parts are read, at its sort
module _ (g : Form) (t : Parts) (fit : Fit t (parts g)) (rows : Rows t) (v : List ℕ) (d : ℕ) (T : List Ty) (M : List Term) (H : List Counts) (n a b : ℕ) (p : a ≡ length T) (q : b ≡ length M) where
  abbrev Closes : Sort → Type 0
  Closes o = passed (close g) (put t (opened g (begun o (seen v d T M H n))))
      ≡ seen (own ((row g).make (values t (a + one_type o) (b + one_term o))) a b (values t (a + one_type o) (b + one_term o)) ++ v) d
      (T ++ (ty_row ((row g).make (values t (a + one_type o) (b + one_term o))) ++ ty_rows t (a + one_type o) (b + one_term o)))
      (M ++ (tm_row ((row g).make (values t (a + one_type o) (b + one_term o))) ++ tm_rows t (a + one_type o) (b + one_term o))) H n

  abbrev br : Bool
  br = eqb (last g) 41

  abbrev w : ℕ
  w = width (parts g)

  -- once its parts are read, with what they left on top
  shuts : (vs u : List ℕ) (T' : List Ty) (M' : List Term) → length vs ≡ w →
      passed (close g) (seen (vs ++ u) (cond br (d + 1) d) T' M' H n) ≡ settled w ((row g).make vs) (seen (vs ++ u) d T' M' H n)
  shuts vs u T' M' h =
      ap (λ (l : List ℕ). settled w ((row g).make l) (seen (vs ++ u) (cond br (cond br (d + 1) d - 1) (cond br (d + 1) d)) T' M' H n)) (take_at vs u w h)
      ∙ ap (λ (l : ℕ). settled w ((row g).make vs) (seen (vs ++ u) l T' M' H n)) (undo br d)

  closes_type : ((x : List ℕ) → Makes Types ((row g).make x)) → Closes Types
  closes_type k =
      let vs : List ℕ = values t (a + 1) (b + 0) in
      let h = values_width t (parts g) (a + 1) (b + 0) fit in
      ap (λ (l : ℕ). passed (close g) (put t (seen (l ∷ v) (cond br (d + 1) d) (T ++ TyAsNum ∷ []) M H n))) (sym p)
      ∙ ap (passed (close g)) (rows (a ∷ v) (cond br (d + 1) d) (T ++ TyAsNum ∷ []) M H n (a + 1) (b + 0) (omega (arith, length_push T TyAsNum)) (omega arith))
      ∙ shuts vs (a ∷ v) ((T ++ TyAsNum ∷ []) ++ ty_rows t (a + 1) (b + 0)) (M ++ tm_rows t (a + 1) (b + 0)) h
      ∙ settled_type w vs v d a b T (ty_rows t (a + 1) (b + 0)) M (tm_rows t (a + 1) (b + 0)) H n h ((row g).make vs) TyAsNum (k vs) p

  closes_term : ((x : List ℕ) → Makes Terms ((row g).make x)) → Closes Terms
  closes_term k =
      let vs : List ℕ = values t (a + 0) (b + 1) in
      let h = values_width t (parts g) (a + 0) (b + 1) fit in
      ap (λ (l : ℕ). passed (close g) (put t (seen (l ∷ v) (cond br (d + 1) d) T (M ++ TermAsNum 0 ∷ []) H n))) (sym q)
      ∙ ap (passed (close g)) (rows (b ∷ v) (cond br (d + 1) d) T (M ++ TermAsNum 0 ∷ []) H n (a + 0) (b + 1) (omega arith) (omega (arith, length_push M (TermAsNum 0))))
      ∙ shuts vs (b ∷ v) (T ++ ty_rows t (a + 0) (b + 1)) ((M ++ TermAsNum 0 ∷ []) ++ tm_rows t (a + 0) (b + 1)) h
      ∙ settled_term w vs v d a b T (ty_rows t (a + 0) (b + 1)) M (tm_rows t (a + 0) (b + 1)) H n h ((row g).make vs) (TermAsNum 0) (k vs) q

  closes_world : ((x : List ℕ) → Makes Worlds ((row g).make x)) → Closes Worlds
  closes_world k =
      let vs : List ℕ = values t (a + 0) (b + 0) in
      let h = values_width t (parts g) (a + 0) (b + 0) fit in
      ap (passed (close g)) (rows v (cond br (d + 1) d) T M H n (a + 0) (b + 0) (omega arith) (omega arith))
      ∙ shuts vs v (T ++ ty_rows t (a + 0) (b + 0)) (M ++ tm_rows t (a + 0) (b + 0)) h
      ∙ settle_world w vs v d a b T (ty_rows t (a + 0) (b + 0)) M (tm_rows t (a + 0) (b + 0)) H n h ((row g).make vs) (k vs)

  closes : (k : Kind) → ((x : List ℕ) → Makes (sort_of k) ((row g).make x)) → Closes (sort_of k)
  closes type m = closes_type m
  closes world m = closes_world m
  closes term m = closes_term m

pub put_rows : (t : Parts) (ps : List Part) → Fit t ps → Rows t
put_rows none [] h v d T M H n a b p q = rw (append-nil T, append-nil M)
put_rows none (x ∷ ps) h v d T M H n a b p q = absurd h
put_rows (number' m r) [] h v d T M H n a b p q = absurd h
put_rows (number' m r) (num ∷ ps) h v d T M H n a b p q =
    put_rows r ps h.1 (m ∷ v) d T M H n a b p q ∙ ap (λ (l : List ℕ). seen l d (T ++ ty_rows r a b) (M ++ tm_rows r a b) H n) (sym (append_assoc (values r a b) (m ∷ []) v))
put_rows (number' m r) (sub k ∷ ps) h v d T M H n a b p q = absurd h
put_rows (form g t r) [] h v d T M H n a b p q = absurd h
put_rows (form g t r) (num ∷ ps) h v d T M H n a b p q = absurd h
put_rows (form g t r) (sub k ∷ ps) h v d T M H n a b p q =
    let o : Sort = (row g).sort in
    let s : Seen = seen v d T M H n in
    let a1 : ℕ = a + one_type o in
    let b1 : ℕ = b + one_term o in
    let m : Made = (row g).make (values t a1 b1) in
    let T1 : List Ty = T ++ (ty_row m ++ ty_rows t a1 b1) in
    let M1 : List Term = M ++ (tm_row m ++ tm_rows t a1 b1) in
    let e : Closes g t h.1 (put_rows t (parts g) h.1) v d T M H n a b p q o =
    subst (λ (x : Sort). Closes g t h.1 (put_rows t (parts g) h.1) v d T M H n a b p q x) (sym h.0)
    (closes g t h.1 (put_rows t (parts g) h.1) v d T M H n a b p q k (λ x. subst (λ (y : Sort). Makes y ((row g).make x)) h.0 (makes g x))) in
    let z = form_sizes g s (put t (opened g (begun o s))) (types t) (terms t) (put_sizes t (opened g (begun o s))) in
    let lt : length T1 ≡ length T + (one_type o + types t) = sym (ap (λ (x : Seen). length x.tys) e) ∙ z.tys in
    let lm : length M1 ≡ length M + (one_term o + terms t) = sym (ap (λ (x : Seen). length x.tms) e) ∙ z.tms in
    ap (put r) e
    ∙ put_rows r ps h.2 (own m a b (values t a1 b1) ++ v) d T1 M1 H n (a1 + types t) (b1 + terms t) (omega (arith, lt, p)) (omega (arith, lm, q))
    ∙ ap (λ (l : List ℕ). seen l d (T1 ++ ty_rows r (a1 + types t) (b1 + terms t)) (M1 ++ tm_rows r (a1 + types t) (b1 + terms t)) H n) (sym (append_assoc (values r (a1 + types t) (b1 + terms t)) (own m a b (values t a1 b1)) v))
    ∙ simp append_assoc
