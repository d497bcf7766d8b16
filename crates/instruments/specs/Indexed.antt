-- Lemmas: registers and sites that a function of their number gives.
use Rattle.std.specs.Prelude.{◌≡◌, ℕ, ◌<◌, ◌≤◌, List, [], map, length, None, Option, ◌≢◌, slice_set}
use Rattle.std.proofs.Common.{sym, ◌∙◌, ⊎_elim, arith}
use Rattle.std.specs.List.{range_with_len}
use Rattle.std.proofs.lemmas.List.FromFn.{length-map-range_with_len, get_or-map-range_with_len}
use Rattle.std.proofs.lemmas.List.{get_or_past, ext_get_or, length-set, get_or-set_same, get_or-set_other}
use Rattle.std.proofs.lemmas.Bool.{cases_eq}
use Rattle.instruments.specs.Registers.{site_row, heard, row_asked}
use Rattle.instruments.specs.Rows.{row_fitted}

-- registers that a function of their number gives
pub counted_fitted : (f : ℕ → Option ℕ) (k s n : ℕ) → n < k → row_asked (map f (range_with_len 0 k)) s n ≡ heard s n (f n)
counted_fitted f k s n h = row_fitted (map f (range_with_len 0 k)) s n (f n) (rw (length-map-range_with_len f 0 k) h) (get_or-map-range_with_len f 0 k n n None h (omega arith))

-- sites that a function of their number gives
pub counted_row : (F : ℕ → List (Option ℕ)) (m s : ℕ) → s < m → site_row (map F (range_with_len 0 m)) s ≡ F s
counted_row F m s h = get_or-map-range_with_len F 0 m s s [] h (omega arith)

pub counted_none : (F : ℕ → List (Option ℕ)) (m s : ℕ) → m ≤ s → site_row (map F (range_with_len 0 m)) s ≡ []
counted_none F m s h = get_or_past (map F (range_with_len 0 m)) s [] (rw (length-map-range_with_len F 0 m) h)

-- two such lists agree where the functions do
pub counted_same : {X : Type 0} (d : X) (f g : ℕ → X) (n : ℕ) → ((k : ℕ) → k < n → f k ≡ g k) → map f (range_with_len 0 n) ≡ map g (range_with_len 0 n)
counted_same d f g n same =
    ext_get_or d (map f (range_with_len 0 n)) (map g (range_with_len 0 n)) (length-map-range_with_len f 0 n ∙ sym (length-map-range_with_len g 0 n)) (λ i h.
    let k : i < n = rw (length-map-range_with_len f 0 n) at h in
    get_or-map-range_with_len f 0 n i i d k (omega arith) ∙ same i k ∙ sym (get_or-map-range_with_len g 0 n i i d k (omega arith)))

-- and where they do but at i, one is the other with an element set
pub counted_set : {X : Type 0} (d : X) (f g : ℕ → X) (n i : ℕ) (x : X) → i < n → f i ≡ x → ((k : ℕ) → k < n → (k ≢ i) → f k ≡ g k) → map f (range_with_len 0 n) ≡ slice_set (map g (range_with_len 0 n)) i x
counted_set d f g n i x l here same =
    ext_get_or d (map f (range_with_len 0 n)) (slice_set (map g (range_with_len 0 n)) i x) (length-map-range_with_len f 0 n ∙ sym (length-set (map g (range_with_len 0 n)) i x ∙ length-map-range_with_len g 0 n)) (λ j h.
    let k : j < n = rw (length-map-range_with_len f 0 n) at h in
    let m : i < length (map g (range_with_len 0 n)) = rw (length-map-range_with_len g 0 n) l in
    get_or-map-range_with_len f 0 n j j d k (omega arith) ∙ ⊎_elim
    (λ (e : j ≡ i). rw e (here ∙ sym (get_or-set_same (map g (range_with_len 0 n)) i x d m)))
    (λ (e : j ≡ i → ⊥). same j k e ∙ sym (get_or-set_other (map g (range_with_len 0 n)) i j x d e ∙ get_or-map-range_with_len g 0 n j j d k (omega arith)))
    (cases_eq j i))
