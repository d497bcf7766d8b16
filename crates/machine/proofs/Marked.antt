-- Marks in bytes: a bit is set, the bits are counted, and blank bytes have none.
use Rattle.std.proofs.Common.{◌≡◌, ℕ, zero, suc, ◌+◌, ◌-◌, ◌*◌, ◌/◌, ◌%◌, ◌^◌, ◌<◌, ◌≤◌, max, true, false, eqb, List, [], ◌∷◌, ◌++◌, length, get_or, set, replicate, sym, refl, ap, ◌∙◌, le_of_suc-le-suc, not-suc-le-zero, pow-suc, arith}
use lib.Bits.{bit_or, or_step, or_zero_r}
use lib.Count.{ones, ones_step}
use Rattle.std.proofs.lemmas.List.{set-append_left, set-append_right}
use Rattle.std.proofs.lemmas.Nat.{one_shl}
use Rattle.std.specs.List.{sum_by}
use Rattle.std.proofs.lemmas.List.Sums.{sum_by-cons}
use Rattle.calculus.specs.Marks.{Marks, no_marks, marks_set}
use Rattle.machine.specs.Marks.{low_bits, bits_of}

length_low_bits : (k n : ℕ) → length (low_bits k n) ≡ k
length_low_bits zero n = refl
length_low_bits (suc k) n = ap suc (length_low_bits k (n / 2))

-- the lowest bit is that of either number, and the others are those of the halves
or_lowest : (a b : ℕ) → bit_or a b % 2 ≡ max (a % 2) (b % 2)
or_lowest a b = omega (arith, or_step a b)

or_halves : (a b : ℕ) → bit_or a b / 2 ≡ bit_or (a / 2) (b / 2)
or_halves a b = omega (arith, or_step a b)

low_bits_set : (k j n : ℕ) → j < k → low_bits k (bit_or n (2 ^ j)) ≡ set (low_bits k n) j true
low_bits_set zero j n h = absurd (not-suc-le-zero h)
low_bits_set (suc k) zero n h =
    let l : bit_or n 1 % 2 ≡ 1 = omega (arith, or_lowest n 1) in
    let t : bit_or n 1 / 2 ≡ n / 2 = or_halves n 1 ∙ or_zero_r (n / 2) in
    ap (λ (b : ℕ). eqb b 1 ∷ low_bits k (bit_or n 1 / 2)) l ∙ ap (λ (m : ℕ). true ∷ low_bits k m) t
low_bits_set (suc k) (suc j) n h =
    let p : 2 ^ suc j ≡ 2 ^ j * 2 = pow-suc 2 j in
    let e : bit_or n (2 ^ suc j) % 2 ≡ n % 2 = omega (arith, or_lowest n (2 ^ suc j)) in
    let q : 2 ^ suc j / 2 ≡ 2 ^ j = omega arith in
    let t : bit_or n (2 ^ suc j) / 2 ≡ bit_or (n / 2) (2 ^ j) = or_halves n (2 ^ suc j) ∙ ap (λ (m : ℕ). bit_or (n / 2) m) q in
    ap (λ (b : ℕ). eqb b 1 ∷ low_bits k (bit_or n (2 ^ suc j) / 2)) e ∙ ap (λ (m : ℕ). eqb (n % 2) 1 ∷ low_bits k m) t
    ∙ ap (λ (ms : Marks). eqb (n % 2) 1 ∷ ms) (low_bits_set k j (n / 2) (le_of_suc-le-suc h))

-- one bit of one byte is one mark
pub bit_marked : (bs : List ℕ) (q j : ℕ) → q < length bs → j < 8 → bits_of (set bs q (bit_or (get_or bs q 0) (2 ^ j))) ≡ set (bits_of bs) (8 * q + j) true
bit_marked [] q j h k = absurd (not-suc-le-zero h)
bit_marked (b ∷ bs) zero j h k =
    let z : 0 + j ≡ j = omega arith in
    let l : j < length (low_bits 8 b) = k in
    ap (λ (ms : Marks). ms ++ bits_of bs) (low_bits_set 8 j b k) ∙ sym (set-append_left (low_bits 8 b) (bits_of bs) j true l) ∙ ap (λ (m : ℕ). set (bits_of (b ∷ bs)) m true) (sym z)
bit_marked (b ∷ bs) (suc q) j h k =
    let e : 8 * suc q + j - 8 ≡ 8 * q + j = omega arith in
    let l : 8 ≤ 8 * suc q + j = omega arith in
    ap (λ (ms : Marks). low_bits 8 b ++ ms) (bit_marked bs q j (le_of_suc-le-suc h) k ∙ ap (λ (m : ℕ). set (bits_of bs) m true) (sym e))
    ∙ sym (set-append_right (low_bits 8 b) (bits_of bs) 8 (8 * suc q + j) true refl l)

-- the byte and the bit of a mark, as code computes them
pub index_marked : (bs : List ℕ) (m : ℕ) → m < 8 * length bs → bits_of (set bs (m / 8) (bit_or (get_or bs (m / 8) 0) ((1 * 2 ^ (m % 8)) % 256))) ≡ set (bits_of bs) m true
index_marked bs m h =
    let e : 8 * (m / 8) + m % 8 ≡ m = omega arith in
    ap (λ (x : ℕ). bits_of (set bs (m / 8) (bit_or (get_or bs (m / 8) 0) x))) (one_shl (m % 8) 8 (omega arith)) ∙ bit_marked bs (m / 8) (m % 8) (omega arith) (omega arith)
    ∙ ap (λ (x : ℕ). set (bits_of bs) x true) e

-- how many marks are set
lowest_counts : (d : ℕ) (ms : Marks) → d < 2 → marks_set (eqb d 1 ∷ ms) ≡ d + marks_set ms
lowest_counts zero ms h = omega arith
lowest_counts (suc zero) ms h = omega arith
lowest_counts (suc (suc d)) ms h = absurd (omega arith)

set_counts : (k n : ℕ) → n < 2 ^ k → marks_set (low_bits k n) ≡ ones n
unfolding ones
set_counts zero n h = let e : n ≡ 0 = omega (arith, h) in sym (ap ones e)
set_counts (suc k) n h =
    let p = pow-suc 2 k in
    let half : n / 2 < 2 ^ k = omega arith in
    lowest_counts (n % 2) (low_bits k (n / 2)) (omega arith) ∙ ap (λ (m : ℕ). n % 2 + m) (set_counts k (n / 2) half) ∙ sym (ones_step n)

set_joins : (ms ns : Marks) → marks_set (ms ++ ns) ≡ marks_set ms + marks_set ns
set_joins [] ns = omega arith
set_joins (true ∷ ms) ns = let e = set_joins ms ns in omega arith
set_joins (false ∷ ms) ns = set_joins ms ns

-- the marks set in bytes, one byte after the other
pub bytes_count : (bs : List ℕ) → ((k : ℕ) → get_or bs k 0 < 256) → sum_by ones bs ≡ marks_set (bits_of bs)
bytes_count [] h = refl
bytes_count (b ∷ bs) h = sum_by-cons ones b bs ∙ (λ i. sym (set_counts 8 b (h 0)) i + bytes_count bs (λ k. h (suc k)) i) ∙ sym (set_joins (low_bits 8 b) (bits_of bs))

-- bytes with no bit
no_bits : (n : ℕ) → bits_of (replicate n 0) ≡ replicate (8 * n) false
no_bits zero = refl
no_bits (suc n) =
    let e : 8 * suc n ≡ suc (suc (suc (suc (suc (suc (suc (suc (8 * n)))))))) = omega arith in
    ap (λ (ms : Marks). low_bits 8 0 ++ ms) (no_bits n) ∙ ap (λ (m : ℕ). replicate m false) (sym e)

pub blank : (bs : List ℕ) → bs ≡ replicate 128 0 → bits_of bs ≡ no_marks
unfolding no_marks
blank bs e = ap bits_of e ∙ no_bits 128
