-- Taking a type apart by its row.
use Rattle.std.proofs.Common.{◌≡◌, ℕ, ◌<◌, true, false, length, get_or, refl, ap, ◌∙◌, arith}
use Rattle.lines.specs.declared.refusal.CheckFault.{CheckFault}
use Rattle.syntax.specs.declared.program.Mobile.{Mobile}
use Rattle.syntax.specs.declared.program.Mobile.TheVariants.{Code, Address, Number}
use Rattle.syntax.specs.declared.program.Ty.{Ty as TypeRow}
use Rattle.syntax.specs.declared.program.Ty.TheVariants as Row
use Rattle.calculus.specs.Types.{Ty, num, none}
use Rattle.calculus.specs.Program.{grow_type}
use Rattle.calculus.specs.Checker.{Checked, refused, then_type, when_fn, when_box, when_at, when_both, when_mobile}
use Rattle.checker.specs.Comparing.{alike}
use Rattle.checker.specs.declared.context.Context.{Context}
use Rattle.checker.specs.Scopes.{rows_of, meaning_of}
use Rattle.checker.specs.Judging.{carried_row, Typed}
use Rattle.checker.specs.TypeTable.{Below}
use Rattle.checker.proofs.Table.{meaning_at}
use Rattle.checker.proofs.Compare.{parts_in}
use Rattle.checker.proofs.Verdicts.{alike_goes, unlike_stops}

-- a row of another form stops
pub no_fn : (M : ℕ → Ty) (r : TypeRow) (e : CheckFault) (k : Ty → Ty → Checked) → ((x y : ℕ) → r ≡ Row.Fn x y → ⊥) → when_fn (grow_type M r) e k ≡ refused e
no_fn M Row.Num e k q = refl
no_fn M Row.Never e k q = refl
no_fn M (Row.Fn a b) e k q = absurd (q a b refl)
no_fn M (Row.Boxed a) e k q = refl
no_fn M (Row.At a) e k q = refl
no_fn M (Row.Both a b) e k q = refl

pub no_boxed : (M : ℕ → Ty) (r : TypeRow) (e : CheckFault) (k : Ty → Checked) → ((x : ℕ) → r ≡ Row.Boxed x → ⊥) → when_box (grow_type M r) e k ≡ refused e
no_boxed M Row.Num e k q = refl
no_boxed M Row.Never e k q = refl
no_boxed M (Row.Fn a b) e k q = refl
no_boxed M (Row.Boxed a) e k q = absurd (q a refl)
no_boxed M (Row.At a) e k q = refl
no_boxed M (Row.Both a b) e k q = refl

pub no_at : (M : ℕ → Ty) (r : TypeRow) (e : CheckFault) (k : Ty → Checked) → ((x : ℕ) → r ≡ Row.At x → ⊥) → when_at (grow_type M r) e k ≡ refused e
no_at M Row.Num e k q = refl
no_at M Row.Never e k q = refl
no_at M (Row.Fn a b) e k q = refl
no_at M (Row.Boxed a) e k q = refl
no_at M (Row.At a) e k q = absurd (q a refl)
no_at M (Row.Both a b) e k q = refl

pub no_both : (M : ℕ → Ty) (r : TypeRow) (e : CheckFault) (k : Ty → Ty → Checked) → ((x y : ℕ) → r ≡ Row.Both x y → ⊥) → when_both (grow_type M r) e k ≡ refused e
no_both M Row.Num e k q = refl
no_both M Row.Never e k q = refl
no_both M (Row.Fn a b) e k q = refl
no_both M (Row.Boxed a) e k q = refl
no_both M (Row.At a) e k q = refl
no_both M (Row.Both a b) e k q = absurd (q a b refl)

no_num : (M : ℕ → Ty) (r : TypeRow) → (r ≡ Row.Num → ⊥) → alike (grow_type M r) num ≡ false
no_num M Row.Num q = absurd (q refl)
no_num M Row.Never q = refl
no_num M (Row.Fn a b) q = refl
no_num M (Row.Boxed a) q = refl
no_num M (Row.At a) q = refl
no_num M (Row.Both a b) q = refl

no_never : (M : ℕ → Ty) (r : TypeRow) → (r ≡ Row.Never → ⊥) → alike (grow_type M r) none ≡ false
no_never M Row.Num q = refl
no_never M Row.Never q = absurd (q refl)
no_never M (Row.Fn a b) q = refl
no_never M (Row.Boxed a) q = refl
no_never M (Row.At a) q = refl
no_never M (Row.Both a b) q = refl

carried_num : (M : ℕ → Ty) (r : TypeRow) → alike (grow_type M r) num ≡ carried_row Number r
carried_num M Row.Num = refl
carried_num M Row.Never = refl
carried_num M (Row.Fn a b) = refl
carried_num M (Row.Boxed a) = refl
carried_num M (Row.At a) = refl
carried_num M (Row.Both a b) = refl

-- what a get may bring goes on, and another type is refused
pub carried_goes : (M : ℕ → Ty) (m : Mobile) (r : TypeRow) (e : CheckFault) (k : Checked) → carried_row m r ≡ true → when_mobile m (grow_type M r) e k ≡ k
carried_goes M Code Row.Num e k q = let z : ◌≡◌ {A = ℕ} 0 1 = cc in absurd (omega arith)
carried_goes M Code Row.Never e k q = let z : ◌≡◌ {A = ℕ} 0 1 = cc in absurd (omega arith)
carried_goes M Code (Row.Fn a b) e k q = let z : ◌≡◌ {A = ℕ} 0 1 = cc in absurd (omega arith)
carried_goes M Code (Row.Boxed a) e k q = refl
carried_goes M Code (Row.At a) e k q = let z : ◌≡◌ {A = ℕ} 0 1 = cc in absurd (omega arith)
carried_goes M Code (Row.Both a b) e k q = let z : ◌≡◌ {A = ℕ} 0 1 = cc in absurd (omega arith)
carried_goes M Address Row.Num e k q = let z : ◌≡◌ {A = ℕ} 0 1 = cc in absurd (omega arith)
carried_goes M Address Row.Never e k q = let z : ◌≡◌ {A = ℕ} 0 1 = cc in absurd (omega arith)
carried_goes M Address (Row.Fn a b) e k q = let z : ◌≡◌ {A = ℕ} 0 1 = cc in absurd (omega arith)
carried_goes M Address (Row.Boxed a) e k q = let z : ◌≡◌ {A = ℕ} 0 1 = cc in absurd (omega arith)
carried_goes M Address (Row.At a) e k q = refl
carried_goes M Address (Row.Both a b) e k q = let z : ◌≡◌ {A = ℕ} 0 1 = cc in absurd (omega arith)
carried_goes M Number r e k q = alike_goes (grow_type M r) num e k (carried_num M r ∙ q)

pub carried_stops : (M : ℕ → Ty) (m : Mobile) (r : TypeRow) (e : CheckFault) (k : Checked) → carried_row m r ≡ false → when_mobile m (grow_type M r) e k ≡ refused e
carried_stops M Code Row.Num e k q = refl
carried_stops M Code Row.Never e k q = refl
carried_stops M Code (Row.Fn a b) e k q = refl
carried_stops M Code (Row.Boxed a) e k q = let z : ◌≡◌ {A = ℕ} 0 1 = cc in absurd (omega arith)
carried_stops M Code (Row.At a) e k q = refl
carried_stops M Code (Row.Both a b) e k q = refl
carried_stops M Address Row.Num e k q = refl
carried_stops M Address Row.Never e k q = refl
carried_stops M Address (Row.Fn a b) e k q = refl
carried_stops M Address (Row.Boxed a) e k q = refl
carried_stops M Address (Row.At a) e k q = let z : ◌≡◌ {A = ℕ} 0 1 = cc in absurd (omega arith)
carried_stops M Address (Row.Both a b) e k q = refl
carried_stops M Number r e k q = unlike_stops (grow_type M r) num e k (carried_num M r ∙ q)

-- the same of a part that is typed
module _ {c d : Context} {v : Checked} {n more : ℕ} (t : Typed c v n more d) where
  abbrev row : TypeRow
  row = get_or (rows_of d) n Row.Num

  own : (r : TypeRow) → row ≡ r → meaning_of d n ≡ grow_type (meaning_of d) r
  own r q = meaning_at d.written (rows_of d) t.grown.laid n r t.number q

  inside : (r : TypeRow) → row ≡ r → Below (length (rows_of d)) r
  inside r q = parts_in d.written (rows_of d) t.grown.laid n r t.number q

  goes_on : (k : Ty → Checked) → then_type v k ≡ k (meaning_of d n)
  goes_on k = ap (λ (x : Checked). then_type x k) t.verdict

  pub fn_goes : (x y : ℕ) → row ≡ Row.Fn x y → (e : CheckFault) (k : Ty → Ty → Checked) → then_type v (λ (A : Ty). when_fn A e k) ≡ k (meaning_of d x) (meaning_of d y)
  fn_goes x y q e k = goes_on (λ (A : Ty). when_fn A e k) ∙ ap (λ (A : Ty). when_fn A e k) (own (Row.Fn x y) q)

  pub fn_stops : ((x y : ℕ) → row ≡ Row.Fn x y → ⊥) → (e : CheckFault) (k : Ty → Ty → Checked) → then_type v (λ (A : Ty). when_fn A e k) ≡ refused e
  fn_stops q e k = goes_on (λ (A : Ty). when_fn A e k) ∙ ap (λ (A : Ty). when_fn A e k) (own row refl) ∙ no_fn (meaning_of d) row e k q

  pub fn_inside : (x y : ℕ) → row ≡ Row.Fn x y → (x < d.written) × (y < length (rows_of d))
  fn_inside x y q = (t.grown.laid.given n (Row.Fn x y) t.number q, (inside (Row.Fn x y) q).1)

  pub boxed_goes : (x : ℕ) → row ≡ Row.Boxed x → (e : CheckFault) (k : Ty → Checked) → then_type v (λ (A : Ty). when_box A e k) ≡ k (meaning_of d x)
  boxed_goes x q e k = goes_on (λ (A : Ty). when_box A e k) ∙ ap (λ (A : Ty). when_box A e k) (own (Row.Boxed x) q)

  pub boxed_stops : ((x : ℕ) → row ≡ Row.Boxed x → ⊥) → (e : CheckFault) (k : Ty → Checked) → then_type v (λ (A : Ty). when_box A e k) ≡ refused e
  boxed_stops q e k = goes_on (λ (A : Ty). when_box A e k) ∙ ap (λ (A : Ty). when_box A e k) (own row refl) ∙ no_boxed (meaning_of d) row e k q

  pub boxed_inside : (x : ℕ) → row ≡ Row.Boxed x → x < length (rows_of d)
  boxed_inside x q = inside (Row.Boxed x) q

  pub at_goes : (x : ℕ) → row ≡ Row.At x → (e : CheckFault) (k : Ty → Checked) → then_type v (λ (A : Ty). when_at A e k) ≡ k (meaning_of d x)
  at_goes x q e k = goes_on (λ (A : Ty). when_at A e k) ∙ ap (λ (A : Ty). when_at A e k) (own (Row.At x) q)

  pub at_stops : ((x : ℕ) → row ≡ Row.At x → ⊥) → (e : CheckFault) (k : Ty → Checked) → then_type v (λ (A : Ty). when_at A e k) ≡ refused e
  at_stops q e k = goes_on (λ (A : Ty). when_at A e k) ∙ ap (λ (A : Ty). when_at A e k) (own row refl) ∙ no_at (meaning_of d) row e k q

  pub at_inside : (x : ℕ) → row ≡ Row.At x → x < length (rows_of d)
  at_inside x q = inside (Row.At x) q

  pub both_goes : (x y : ℕ) → row ≡ Row.Both x y → (e : CheckFault) (k : Ty → Ty → Checked) → then_type v (λ (A : Ty). when_both A e k) ≡ k (meaning_of d x) (meaning_of d y)
  both_goes x y q e k = goes_on (λ (A : Ty). when_both A e k) ∙ ap (λ (A : Ty). when_both A e k) (own (Row.Both x y) q)

  pub both_stops : ((x y : ℕ) → row ≡ Row.Both x y → ⊥) → (e : CheckFault) (k : Ty → Ty → Checked) → then_type v (λ (A : Ty). when_both A e k) ≡ refused e
  both_stops q e k = goes_on (λ (A : Ty). when_both A e k) ∙ ap (λ (A : Ty). when_both A e k) (own row refl) ∙ no_both (meaning_of d) row e k q

  pub both_inside : (x y : ℕ) → row ≡ Row.Both x y → (x < length (rows_of d)) × (y < length (rows_of d))
  both_inside x y q = inside (Row.Both x y) q

  pub num_is : row ≡ Row.Num → alike (meaning_of d n) num ≡ true
  num_is q = ap (λ (A : Ty). alike A num) (own Row.Num q)

  pub num_not : (row ≡ Row.Num → ⊥) → alike (meaning_of d n) num ≡ false
  num_not q = ap (λ (A : Ty). alike A num) (own row refl) ∙ no_num (meaning_of d) row q

  pub never_is : row ≡ Row.Never → alike (meaning_of d n) none ≡ true
  never_is q = ap (λ (A : Ty). alike A none) (own Row.Never q)

  pub never_not : (row ≡ Row.Never → ⊥) → alike (meaning_of d n) none ≡ false
  never_not q = ap (λ (A : Ty). alike A none) (own row refl) ∙ no_never (meaning_of d) row q

  pub mobile_goes : (m : Mobile) (e : CheckFault) (k : Checked) → carried_row m row ≡ true → when_mobile m (meaning_of d n) e k ≡ k
  mobile_goes m e k q = ap (λ (A : Ty). when_mobile m A e k) (own row refl) ∙ carried_goes (meaning_of d) m row e k q

  pub mobile_stops : (m : Mobile) (e : CheckFault) (k : Checked) → carried_row m row ≡ false → when_mobile m (meaning_of d n) e k ≡ refused e
  mobile_stops m e k q = ap (λ (A : Ty). when_mobile m A e k) (own row refl) ∙ carried_stops (meaning_of d) m row e k q
