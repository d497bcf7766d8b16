-- What sites show, of which `f` gives the registers: at a site that stands, where none stands, and after one has changed.
use Rattle.std.proofs.Common.{◌≡◌, ℕ, ◌<◌, ◌≤◌, List, [], map, length, take, get_or, set, Some, None, Option, sym, ap, ◌∙◌, arith}
use Rattle.std.specs.Prelude.{unwrap_or}
use Rattle.std.specs.Option.{option_map}
use Rattle.std.specs.List.{slice_get}
use Rattle.std.proofs.Math.Seq.{take-set-lt}
use Rattle.std.proofs.lemmas.List.{length-map, map-set, set_past, set-get_or, get_or-take, length-take-le}
use Rattle.std.proofs.lemmas.Bool.Decides.{nat_tests}
use Rattle.std.proofs.lemmas.Option.{slice_get-map, slice_get_cases, slice_get_within, get_or_from_slice_get, unwrap_or-slice_get}
use Rattle.instruments.specs.Registers.{Shown, site_row}

module _ {H : Type 0} (f : H → List (Option ℕ)) (sites : List H) (s : ℕ) where
  row_is : site_row (map f sites) s ≡ unwrap_or (option_map f (slice_get sites s)) []
  row_is = sym (unwrap_or-slice_get (map f sites) s []) ∙ ap (λ o. unwrap_or o []) (slice_get-map f sites s)

  pub row_at : (h : H) → slice_get sites s ≡ Some h → site_row (map f sites) s ≡ f h
  row_at h e = row_is ∙ ap (λ o. unwrap_or (option_map f o) []) e

  pub no_row : slice_get sites s ≡ None → site_row (map f sites) s ≡ []
  no_row e = row_is ∙ ap (λ o. unwrap_or (option_map f o) []) e

  -- where no site stands nothing is written
  pub no_write : (ys : List (Option ℕ)) → slice_get sites s ≡ None → set (map f sites) s ys ≡ map f sites
  no_write ys e = set_past (map f sites) s ys (grind (arith, slice_get_cases sites s, length-map sites f))

  pub row_put : (h : H) → map f (set sites s h) ≡ set (map f sites) s (f h)
  row_put h = map-set f sites s h

  -- a site is written that shows what it did
  pub row_kept : (g h : H) → slice_get sites s ≡ Some g → f h ≡ f g → map f (set sites s h) ≡ map f sites
  row_kept g h e q = row_put h ∙ ap (λ r. set (map f sites) s r) (q ∙ sym (row_at g e)) ∙ set-get_or (map f sites) s []

-- of the slots of a bounded list the first `n` are items, and the item of one of them is changed in its slot
module _ {H : Type 0} (f : H → List (Option ℕ)) (slots : List H) (n s : ℕ) (fits : n ≤ length slots) (g : H) (stands : slice_get (take n slots) s ≡ Some g) where
  inside : s < n
  inside = omega (arith, slice_get_within (take n slots) s g stands, length-take-le n slots fits)

  pub slot_at : (d : H) → get_or slots s d ≡ g
  slot_at d = sym (get_or-take n slots s d inside) ∙ get_or_from_slice_get (take n slots) s g d stands

  pub slot_put : (h : H) → map f (take n (set slots s h)) ≡ set (map f (take n slots)) s (f h)
  slot_put h = ap (map f) (take-set-lt n slots s h inside) ∙ row_put f (take n slots) s h

  pub slot_kept : (h : H) → f h ≡ f g → map f (take n (set slots s h)) ≡ map f (take n slots)
  slot_kept h q = ap (map f) (take-set-lt n slots s h inside) ∙ row_kept f (take n slots) s g h stands q

pub row_same : (rows : Shown) (s : ℕ) → set rows s (site_row rows s) ≡ rows
row_same rows s = set-get_or rows s []

pub row_full : (xs : List (Option ℕ)) (n : ℕ) (w : Option ℕ) → length xs ≤ n → set xs n w ≡ xs
row_full xs n w h = set_past xs n w h

pub ruleset at_sites = (row_at, no_row, no_write, row_put, row_kept, row_same, row_full, nat_tests)
