use Rattle.std.proofs.Common.{◌≡◌, ℕ, ◌+◌, ◌*◌, ◌/◌, ◌%◌, ◌^◌, ◌<◌, ◌≤◌, Bool, true, false, cond, eqb, ◌≢◌, List, [], map, length, get_or, set, Some, None, Ok, Option, sym, refl, ap, ◌∙◌, ⊎_elim, arith, length-set}
use Rattle.std.proofs.lemmas.Bool.{cases_lt}
use Rattle.std.specs.List.{range_with_len}
use Rattle.std.proofs.lemmas.List.{get_or-set_same, get_or-set_other}
use Rattle.instruments.specs.Registers.{site_row, heard, asked, set_after}
use Rattle.instruments.specs.Indexed.{counted_same, counted_set, counted_row, counted_fitted}
use Rattle.instruments.specs.Layout.{register, site_shown, image_gauges, image_gates, put_gate, Counts}

-- a place before the gates of a site-row, and the two bytes of gate n of site s
far : (p t s i n : ℕ) → p ≡ 140 * t + i → i < 76 → n < 32 → (p ≡ 140 * s + 76 + 2 * n → ⊥) × (p ≡ 140 * s + 76 + 2 * n + 1 → ⊥)
far p t s i n e h k = ⊎_elim (λ (l : s < t). (λ q. omega arith, λ q. omega arith)) (λ (l : t ≤ s). (λ q. omega arith, λ q. omega arith)) (cases_lt s t)

-- the bytes of two gates
apart : (t s k n : ℕ) → k < 32 → n < 32 → (t ≡ s → k ≡ n → ⊥)
    → (140 * t + 76 + 2 * k ≡ 140 * s + 76 + 2 * n → ⊥) × (140 * t + 76 + 2 * k ≡ 140 * s + 76 + 2 * n + 1 → ⊥) × (140 * t + 76 + 2 * k + 1 ≡ 140 * s + 76 + 2 * n → ⊥)
apart t s k n h l other =
    ⊎_elim (λ (a : s < t). (λ q. omega arith, λ q. omega arith, λ q. omega arith))
    (λ (a : t ≤ s). ⊎_elim (λ (b : t < s). (λ q. omega arith, λ q. omega arith, λ q. omega arith))
    (λ (b : s ≤ t). let e : t ≡ s = omega arith in (λ q. other e (omega arith), λ q. omega arith, λ q. omega arith))
    (cases_lt t s))
    (cases_lt s t)

cond_some : (b : Bool) (x y z : ℕ) → cond b (Some x) None ≡ Some y → cond b (Some z) None ≡ Some z
cond_some true x y z e = refl
cond_some false x y z e = cc

heard_ok : (s n : ℕ) (o : Option ℕ) (v : ℕ) → heard s n o ≡ Ok v → o ≡ Some v
heard_ok s n None v e = cc
heard_ok s n (Some w) v e = cc

module _ (bs : List ℕ) (s n v : ℕ) where
  pub put_length : length (put_gate bs s n v) ≡ length bs
  put_length = simp length-set

  -- a byte that is not written
  pub put_other : (p : ℕ) → (p ≡ 140 * s + 76 + 2 * n → ⊥) → (p ≡ 140 * s + 76 + 2 * n + 1 → ⊥) → get_or (put_gate bs s n v) p 0 ≡ get_or bs p 0
  put_other p a b = get_or-set_other (set bs (140 * s + 76 + 2 * n) (v / 256)) (140 * s + 76 + 2 * n + 1) p (v % 256) 0 b ∙ get_or-set_other bs (140 * s + 76 + 2 * n) p (v / 256) 0 a

  pub put_high : 140 * s + 140 ≤ length bs → n < 32 → get_or (put_gate bs s n v) (140 * s + 76 + 2 * n) 0 ≡ v / 256
  put_high l h =
      let a : 140 * s + 76 + 2 * n < length bs = omega arith in
      let e : 140 * s + 76 + 2 * n ≢ 140 * s + 76 + 2 * n + 1 = omega arith in
      get_or-set_other (set bs (140 * s + 76 + 2 * n) (v / 256)) (140 * s + 76 + 2 * n + 1) (140 * s + 76 + 2 * n) (v % 256) 0 e ∙ get_or-set_same bs (140 * s + 76 + 2 * n) (v / 256) 0 a

  pub put_low : 140 * s + 140 ≤ length bs → n < 32 → get_or (put_gate bs s n v) (140 * s + 76 + 2 * n + 1) 0 ≡ v % 256
  put_low l h = get_or-set_same (set bs (140 * s + 76 + 2 * n) (v / 256)) (140 * s + 76 + 2 * n + 1) (v % 256) 0 (rw length-set (omega arith))

  -- a register that lies elsewhere
  pub register_kept : n < 32 → (t bits numbers k : ℕ) → k < 32 → bits ≤ 8 → numbers + 64 ≤ 140
      → (140 * t + numbers + 2 * k ≡ 140 * s + 76 + 2 * n → ⊥) → (140 * t + numbers + 2 * k ≡ 140 * s + 76 + 2 * n + 1 → ⊥) → (140 * t + numbers + 2 * k + 1 ≡ 140 * s + 76 + 2 * n → ⊥)
      → register (put_gate bs s n v) t bits numbers k ≡ register bs t bits numbers k
  register_kept h t bits numbers k l b m x y z =
      let q : k / 8 < 4 = omega arith in
      let e1 : get_or (put_gate bs s n v) (140 * t + bits + k / 8) 0 ≡ get_or bs (140 * t + bits + k / 8) 0 = (let f = far (140 * t + bits + k / 8) t s (bits + k / 8) n (omega arith) (omega arith) h in put_other (140 * t + bits + k / 8) f.0 f.1) in
      let e2 : get_or (put_gate bs s n v) (140 * t + numbers + 2 * k) 0 ≡ get_or bs (140 * t + numbers + 2 * k) 0 = put_other (140 * t + numbers + 2 * k) x y in
      let e3 : get_or (put_gate bs s n v) (140 * t + numbers + 2 * k + 1) 0 ≡ get_or bs (140 * t + numbers + 2 * k + 1) 0 = put_other (140 * t + numbers + 2 * k + 1) z (λ e. omega arith) in
      rw (e1, e2, e3)

  -- the gauges are as they were
  pub gauges_kept : n < 32 → Counts bs 0 → image_gauges (put_gate bs s n v) ≡ image_gauges bs
  gauges_kept h few =
      ap (λ m. map (λ t. site_shown (put_gate bs s n v) t 0 4 12) (range_with_len 0 (m / 140))) put_length
      ∙ counted_same [] (λ t. site_shown (put_gate bs s n v) t 0 4 12) (λ t. site_shown bs t 0 4 12) (length bs / 140) (λ t l.
      let f = far (140 * t + 0) t s 0 n (omega arith) (omega arith) h in
      ap (λ c. map (register (put_gate bs s n v) t 4 12) (range_with_len 0 c)) (put_other (140 * t + 0) f.0 f.1)
      ∙ counted_same None (register (put_gate bs s n v) t 4 12) (register bs t 4 12) (get_or bs (140 * t + 0) 0) (λ k m.
      let w : get_or bs (140 * t + 0) 0 ≤ 32 = few t l in
      let a = far (140 * t + 12 + 2 * k) t s (12 + 2 * k) n (omega arith) (omega arith) h in
      let b = far (140 * t + 12 + 2 * k + 1) t s (12 + 2 * k + 1) n (omega arith) (omega arith) h in
      register_kept h t 4 12 k (omega arith) (omega arith) (omega arith) a.0 a.1 b.0))

  -- the registers of a site where each gate but one is as it was
  gate_count : (t : ℕ) → n < 32 → get_or (put_gate bs s n v) (140 * t + 1) 0 ≡ get_or bs (140 * t + 1) 0
  gate_count t h = let f = far (140 * t + 1) t s 1 n refl (omega arith) h in put_other (140 * t + 1) f.0 f.1

  gate_kept : (t k : ℕ) → n < 32 → k < 32 → (t ≡ s → k ≡ n → ⊥) → register (put_gate bs s n v) t 8 76 k ≡ register bs t 8 76 k
  gate_kept t k h l other = let a = apart t s k n l h other in register_kept h t 8 76 k l (omega arith) (omega arith) a.0 a.1 a.2

  gate_set : (old : ℕ) → n < 32 → 140 * s + 140 ≤ length bs → register bs s 8 76 n ≡ Some old → register (put_gate bs s n v) s 8 76 n ≡ Some v
  gate_set old h l e =
      let q : n / 8 < 4 = omega arith in
      let f = far (140 * s + 8 + n / 8) s s (8 + n / 8) n (omega arith) (omega arith) h in
      let e1 : get_or (put_gate bs s n v) (140 * s + 8 + n / 8) 0 ≡ get_or bs (140 * s + 8 + n / 8) 0 = put_other (140 * s + 8 + n / 8) f.0 f.1 in
      let z : 256 * (v / 256) + v % 256 ≡ v = omega arith in
      rw (e1, put_high l h, put_low l h, z) (cond_some (eqb ((get_or bs (140 * s + 8 + n / 8) 0 / 2 ^ (n % 8)) % 2) 1) _ old v e)

  site_kept : (t : ℕ) → n < 32 → get_or bs (140 * t + 1) 0 ≤ 32 → (t ≡ s → ⊥) → site_shown (put_gate bs s n v) t 1 8 76 ≡ site_shown bs t 1 8 76
  site_kept t h few other =
      ap (λ c. map (register (put_gate bs s n v) t 8 76) (range_with_len 0 c)) (gate_count t h)
      ∙ counted_same None (register (put_gate bs s n v) t 8 76) (register bs t 8 76) (get_or bs (140 * t + 1) 0) (λ k m. gate_kept t k h (omega arith) (λ a _. other a))

  site_set : (old : ℕ) → n < get_or bs (140 * s + 1) 0 → get_or bs (140 * s + 1) 0 ≤ 32 → 140 * s + 140 ≤ length bs → register bs s 8 76 n ≡ Some old
      → site_shown (put_gate bs s n v) s 1 8 76 ≡ set (site_shown bs s 1 8 76) n (Some v)
  site_set old h few l e =
      let k : n < 32 = omega arith in
      ap (λ c. map (register (put_gate bs s n v) s 8 76) (range_with_len 0 c)) (gate_count s k)
      ∙ counted_set None (register (put_gate bs s n v) s 8 76) (register bs s 8 76) (get_or bs (140 * s + 1) 0) n (Some v) h (gate_set old k l e) (λ j m ne. gate_kept s j k (omega arith) (λ _ b. ne b))

  -- the gates are as they were but for the one that is set
  pub gates_set : (old : ℕ) → s < length bs / 140 → n < get_or bs (140 * s + 1) 0 → Counts bs 1 → 140 * s + 140 ≤ length bs → asked (image_gates bs) s n ≡ Ok old
      → image_gates (put_gate bs s n v) ≡ set_after (image_gates bs) s n v
  gates_set old m h few l e =
      let k : n < 32 = omega (arith, few s m) in
      let r : site_row (image_gates bs) s ≡ site_shown bs s 1 8 76 = counted_row (λ t. site_shown bs t 1 8 76) (length bs / 140) s m in
      let g : heard s n (register bs s 8 76 n) ≡ Ok old = sym (counted_fitted (register bs s 8 76) (get_or bs (140 * s + 1) 0) s n h) ∙ (rw r at e) in
      ap (λ c. map (λ t. site_shown (put_gate bs s n v) t 1 8 76) (range_with_len 0 (c / 140))) put_length
      ∙ counted_set [] (λ t. site_shown (put_gate bs s n v) t 1 8 76) (λ t. site_shown bs t 1 8 76) (length bs / 140) s (set (site_shown bs s 1 8 76) n (Some v)) m
      (site_set old h (few s m) l (heard_ok s n (register bs s 8 76 n) old g))
      (λ t q ne. site_kept t k (few t q) ne)
      ∙ rw (e, r)
