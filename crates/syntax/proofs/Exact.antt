-- What is read is what a program within the limits is written as.
use Rattle.std.proofs.Common.{◌≡◌, ℕ, ◌≤◌, Bool, true, false, cond, ltb, List, [], ◌∷◌, ◌++◌, length, sym, refl, ap, ◌∙◌, subst, arith}
use Rattle.std.proofs.lemmas.Bool.{ltb-false, ltb-true, le-ltb}
use Rattle.syntax.specs.Grammar.Stop.{close}
use Rattle.syntax.specs.Grammar.Want.{item}
use Rattle.syntax.specs.Grammar.Part.{sub}
use Rattle.syntax.specs.Grammar.Kind.{term}
use Rattle.syntax.specs.Reading.{Seen, Outcome, go, read, start_none, passed}
use Rattle.syntax.specs.Reading.Outcome.{done, refused}
use Rattle.syntax.specs.Trees.{Prog, Right, Limits, print, tables, values, ty_rows, tm_rows}
use Rattle.syntax.specs.Promises.{Texts, whole, ReadRight, ReadAll, ReadOne, Restored, Broken, LimitRight}
use Rattle.syntax.specs.Promises.Broken.{long_broken, deep_broken, many_broken, sheet-broken}
use Rattle.syntax.specs.declared.grammar.Form.TheVariants.{Run}
use Rattle.syntax.specs.declared.grammar.Sort.TheVariants.{First}
use Rattle.syntax.proofs.Runs.{Cap, refusal, at, Runs}
use Rattle.syntax.proofs.Runs.Cap.{deeps, manies, sheets}
use Rattle.syntax.proofs.Runs.Runs.{runs, ends}
use Rattle.syntax.proofs.Lines.{final, Caps, prog_run}
use Rattle.syntax.proofs.Tables.{seen, put_rows, values_width}
use Rattle.syntax.proofs.Places.{accepted_right, short_done}
use Rattle.syntax.proofs.Gather.{gathered}
use Rattle.syntax.proofs.Unique.{unique}

closing : (vs : List ℕ) (p : Prog) → length vs ≡ 1 →
    passed (close Run) (seen (vs ++ p.start ∷ []) 1 (ty_rows p.main 0 0) (tm_rows p.main 0 0) p.stations 0) ≡ whole p
closing [] p e = absurd (omega arith)
closing (a ∷ []) p e = refl
closing (a ∷ b ∷ l) p e = absurd (omega arith)

pub final_whole : (p : Prog) → Right p → final p ≡ whole p
final_whole p r =
    ap (passed (close Run)) (put_rows p.main (sub term ∷ []) r.main (p.start ∷ []) 1 [] [] p.stations 0 0 0 refl refl)
    ∙ closing (values p.main 0 0) p (values_width p.main (sub term ∷ []) 0 0 r.main)

caps : (p : Prog) → Limits p → (c : Cap) → Caps p c
caps p l deeps = (tt, omega (arith, l.deep))
caps p l manies = (tt, (omega (arith, l.types), omega (arith, l.terms)))
caps p l sheets = ((omega (arith, l.stations), l.counts), tt)

limits : (p : Prog) → length (print p) ≤ 65536 → ((c : Cap) → Caps p c) → Limits p
limits p h c =
    let d = (c deeps).1 in
    let m = (c manies).1 in
    let s = (c sheets).0 in
    record { bytes = h; deep = omega (arith, d); terms = omega (arith, m.1); types = omega (arith, m.0); stations = omega (arith, s.0); counts = s.1 }

over_done : (s : Seen) (j : ℕ) → go [] [] s j ≡ done s
unfolding go
over_done s j = refl

pub read_all : ReadAll
read_all bs p t =
    subst (λ (l : List ℕ). read l ≡ done (whole p)) t.text
    (ap (λ (b : Bool). cond b (refused 10 65536) (go (print p) (item First ∷ []) start_none 0)) (le-ltb 65536 (length (print p)) t.limits.bytes)
    ∙ by (prog_run p t.right) ∙ ap done (final_whole p t.right))
  where
    by : Runs (go (print p) (item First ∷ []) start_none 0) (at [] [] (final p)) (Caps p) → go (print p) (item First ∷ []) start_none 0 ≡ done (final p)
    by (runs c j e) = e ∙ over_done (final p) j
    by (ends c x q e) = absurd (x (caps p t.limits c))

short : (b : Bool) (o : Outcome) (s : Seen) → cond b (refused 10 65536) o ≡ done s → b ≡ false
short true o s e = absurd (let z : ◌≡◌ {A = ℕ} 0 1 = cc in omega arith)
short false o s e = refl

pub read_right : ReadRight
read_right bs s e =
    let a = accepted_right bs s e in
    let g = gathered a.0 in
    let p : Prog = g.0 in
    let r : Right p = g.1.0 in
    let q : print p ≡ bs = g.1.1 ∙ a.1 in
    let d : go (print p) (item First ∷ []) start_none 0 ≡ done s = ap (λ (l : List ℕ). go l (item First ∷ []) start_none 0) q ∙ short_done (ltb 65536 (length bs)) (go bs (item First ∷ []) start_none 0) s e in
    let h : length (print p) ≤ 65536 = subst (λ (l : List ℕ). length l ≤ 65536) (sym q) (ltb-false 65536 (length bs) (short (ltb 65536 (length bs)) (go bs (item First ∷ []) start_none 0) s e)) in
    by p r q d h (prog_run p r)
  where
    by : (p : Prog) → Right p → print p ≡ bs → go (print p) (item First ∷ []) start_none 0 ≡ done s → length (print p) ≤ 65536 →
        Runs (go (print p) (item First ∷ []) start_none 0) (at [] [] (final p)) (Caps p) → (p : Prog) × (Texts bs p × (s ≡ whole p))
    by p r q d h (runs c j f) =
        let z : done s ≡ done (final p) = sym d ∙ f ∙ over_done (final p) j in
        let y : s ≡ final p = cc in
        (p, (record { right = r; limits = limits p h c; text = q }, y ∙ final_whole p r))
    by p r q d h (ends c x m f) = absurd (let w : done s ≡ refused (refusal c) m = sym d ∙ f in let z : ◌≡◌ {A = ℕ} 0 1 = cc in omega arith)

pub read_one : ReadOne
read_one bs p q r s e f = unique p q r s (e ∙ sym f)

pub restored : Restored
restored bs s e =
    let a = read_right bs s e in
    (a.0, (ap tables a.1.1, a.1.0.text, ap read a.1.0.text ∙ e))

-- a refusal of a program's text is that of a limit that the program breaks
broken : (p : Prog) (c : Cap) → (Caps p c → ⊥) → Broken p (refusal c)
broken p deeps x = deep_broken (λ h. x (tt, omega arith))
broken p manies x = many_broken (λ h. x (tt, (omega (arith, h.1), omega (arith, h.0))))
broken p sheets x = sheet-broken (λ h. x ((omega (arith, h.0), h.1), tt))

pub go_broken : (p : Prog) → Right p → (n q : ℕ) → go (print p) (item First ∷ []) start_none 0 ≡ refused n q → Broken p n
go_broken p r n q k = by (prog_run p r)
  where
    by : Runs (go (print p) (item First ∷ []) start_none 0) (at [] [] (final p)) (Caps p) → Broken p n
    by (runs c j f) = absurd (let w : done (final p) ≡ refused n q = sym (f ∙ over_done (final p) j) ∙ k in let z : ◌≡◌ {A = ℕ} 0 1 = cc in omega arith)
    by (ends c x m f) = let w : refused (refusal c) m ≡ refused n q = sym f ∙ k in let z : refusal c ≡ n = cc in subst (Broken p) z (broken p c x)

pub limit_right : LimitRight
limit_right bs p r e n q h = long (ltb 65536 (length (print p))) refl (ap read e ∙ h)
  where
    long : (b : Bool) → ltb 65536 (length (print p)) ≡ b → cond b (refused 10 65536) (go (print p) (item First ∷ []) start_none 0) ≡ refused n q → Broken p n
    long true g k = let z : 10 ≡ n = cc in subst (Broken p) z (long_broken (λ y. omega (arith, ltb-true 65536 (length (print p)) g)))
    long false g k = go_broken p r n q k
