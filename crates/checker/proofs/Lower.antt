-- Writing a type row by row: its parts stand lower.
use Rattle.std.proofs.Common.{◌≡◌, ℕ, ◌+◌, ◌-◌, ◌<◌, ◌≤◌, Bool, cond, ltb, List, length, get_or, ap, ⊎_elim, arith, le-ltb, lt-ltb}
use Rattle.std.proofs.lemmas.Bool.{cases_lt}
use Rattle.syntax.specs.declared.program.Ty.{Ty as TypeRow}
use Rattle.syntax.specs.declared.program.Ty.TheVariants as Row
use Rattle.calculus.specs.Program.{grow_type, AboveType}
use Rattle.checker.specs.TypeTable.{meaning, Below, Laid}
use Rattle.checker.specs.TypeLine.{type_text}
use Rattle.checker.proofs.Table.{meaning_at}
use Rattle.checker.proofs.Compare.{parts_behind}

abbrev pub height : ℕ → ℕ → ℕ
height w n = cond (ltb n w) (w - n) (n + 1)

in_written : (w n : ℕ) → n < w → height w n ≡ w - n
in_written w n h = ap (λ (b : Bool). cond b (w - n) (n + 1)) (lt-ltb n w h)

in_built : (w n : ℕ) → w ≤ n → height w n ≡ n + 1
in_built w n h = ap (λ (b : Bool). cond b (w - n) (n + 1)) (le-ltb n w h)

behind : (w n p : ℕ) → n < p → p < w → height w p < height w n
behind w n p h k =
    let a : height w p ≡ w - p = in_written w p k in
    let b : height w n ≡ w - n = in_written w n (omega arith) in
    rw a (rw b (omega arith))

before : (w n p : ℕ) → w ≤ n → p < n → height w p < height w n
before w n p h k =
    let b : height w n ≡ n + 1 = in_built w n h in
    ⊎_elim
    (λ (l : p < w). let a : height w p ≡ w - p = in_written w p l in rw a (rw b (omega arith)))
    (λ (l : w ≤ p). let a : height w p ≡ p + 1 = in_built w p l in rw a (rw b (omega arith)))
    (cases_lt p w)

-- the parts of a row stand lower than a height
abbrev pub Lower : ℕ → ℕ → TypeRow → Type 0
Lower w h Row.Num = Unit {0}
Lower w h Row.Never = Unit {0}
Lower w h (Row.Fn a b) = (height w a < h) × (height w b < h)
Lower w h (Row.Boxed a) = height w a < h
Lower w h (Row.At a) = height w a < h
Lower w h (Row.Both a b) = (height w a < h) × (height w b < h)

all_behind : (w n : ℕ) (r : TypeRow) → AboveType n r → Below w r → Lower w (height w n) r
all_behind w n Row.Num q h = tt
all_behind w n Row.Never q h = tt
all_behind w n (Row.Fn a b) q h = (behind w n a q.0 h.0, behind w n b q.1 h.1)
all_behind w n (Row.Boxed a) q h = behind w n a q h
all_behind w n (Row.At a) q h = behind w n a q h
all_behind w n (Row.Both a b) q h = (behind w n a q.0 h.0, behind w n b q.1 h.1)

all_before : (w n : ℕ) (r : TypeRow) → w ≤ n → Below n r → Lower w (height w n) r
all_before w n Row.Num l h = tt
all_before w n Row.Never l h = tt
all_before w n (Row.Fn a b) l h = (before w n a l h.0, before w n b l h.1)
all_before w n (Row.Boxed a) l h = before w n a l h
all_before w n (Row.At a) l h = before w n a l h
all_before w n (Row.Both a b) l h = (before w n a l h.0, before w n b l h.1)

module _ (w : ℕ) (rows : List TypeRow) (laid : Laid w rows) where
  pub parts_lower : (n : ℕ) (r : TypeRow) → n < length rows → get_or rows n Row.Num ≡ r → Lower w (height w n) r
  parts_lower n r h e =
      ⊎_elim (λ (l : n < w). all_behind w n r (parts_behind w rows laid n r l e) (laid.written n r l e)) (λ (l : w ≤ n). all_before w n r l (laid.built n r l h e)) (cases_lt n w)

  pub text_at : (n : ℕ) (r : TypeRow) → n < length rows → get_or rows n Row.Num ≡ r → type_text (meaning w rows n) ≡ type_text (grow_type (meaning w rows) r)
  text_at n r h e = ap type_text (meaning_at w rows laid n r h e)
