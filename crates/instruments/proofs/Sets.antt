-- What setting a register leaves.
use Rattle.std.proofs.Common.{◌≡◌, ℕ, ◌<◌, ◌≤◌, List, [], map, length, set, Some, None, Ok, Err, Option, Result, sym, refl, ap, ◌∙◌, ⊎_elim, arith, length-set}
use Rattle.std.proofs.lemmas.List.{get_or_past, get_or-set_same, get_or-set_other, map-set, set-get_or, get_or-map}
use Rattle.std.proofs.lemmas.Bool.{cases_eq, cases_lt}
use Rattle.std.proofs.lemmas.Bool.Decides.{nat_tests}
use Rattle.lines.specs.declared.refusal.RegisterFault.{RegisterFault}
use Rattle.instruments.specs.Registers.{Shown, site_row, row_asked, asked, row_after, set_after, done, Elsewhere}

module _ (rows : Shown) (s n : ℕ) where
  -- a register that answers is fitted, at a site that stands
  fits : (old : ℕ) → asked rows s n ≡ Ok old → n < length (site_row rows s)
  fits old e = grind (arith, nat_tests)

  stands : (old : ℕ) → asked rows s n ≡ Ok old → s < length rows
  stands old e = ⊎_elim (λ (h : s < length rows). h) (λ (h : length rows ≤ s). absurd (omega (arith, fits old e, ap length (get_or_past rows s [] h)))) (cases_lt s (length rows))

  module _ (v old : ℕ) (e : asked rows s n ≡ Ok old) where
    written_row : set_after rows s n v ≡ set rows s (set (site_row rows s) n (Some v))
    written_row = ap (λ (r : Result ℕ RegisterFault). set rows s (row_after r (site_row rows s) n v)) e

    new_row : site_row (set_after rows s n v) s ≡ set (site_row rows s) n (Some v)
    new_row = ap (λ (x : Shown). site_row x s) written_row ∙ get_or-set_same rows s (set (site_row rows s) n (Some v)) [] (stands old e)

    other_site : (t k : ℕ) → (t ≡ s → ⊥) → asked (set_after rows s n v) t k ≡ asked rows t k
    other_site t k ne = ap (λ (x : Shown). asked x t k) written_row ∙ ap (λ (x : List (Option ℕ)). row_asked x t k) (get_or-set_other rows s t (set (site_row rows s) n (Some v)) [] ne)

    other_number : (k : ℕ) → (k ≡ n → ⊥) → asked (set_after rows s n v) s k ≡ asked rows s k
    other_number k ne =
        ap (λ (x : List (Option ℕ)). row_asked x s k) new_row
        ∙ rw (length-set (site_row rows s) n (Some v), get_or-set_other (site_row rows s) n k (Some v) None ne)

    pub set_elsewhere : (t k : ℕ) → Elsewhere t k s n → asked (set_after rows s n v) t k ≡ asked rows t k
    set_elsewhere t k far =
        ⊎_elim (λ (q : t ≡ s). rw q (other_number k (far q))) (λ (q : t ≡ s → ⊥). other_site t k q) (cases_eq t s)

    pub set_widths : map length (set_after rows s n v) ≡ map length rows
    set_widths =
        ap (map length) written_row ∙ map-set length rows s (set (site_row rows s) n (Some v))
        ∙ ap (λ m. set (map length rows) s m) (length-set (site_row rows s) n (Some v))
        ∙ ap (λ m. set (map length rows) s m) (sym (get_or-map length rows s [] 0 (stands old e)))
        ∙ set-get_or (map length rows) s 0

pub done_ok : (r : Result ℕ RegisterFault) → done r ≡ Ok tt → (old : ℕ) × (r ≡ Ok old)
done_ok (Ok old) e = (old, refl)
done_ok (Err x) e = cc

pub done_err : (r : Result ℕ RegisterFault) (x : RegisterFault) → done r ≡ Err x → r ≡ Err x
done_err (Ok old) x e = cc
done_err (Err y) x e = cc
