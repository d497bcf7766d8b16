-- Words among words, and digits: what the proofs of reading speak of.
use Rattle.std.specs.Prelude.{◌≡◌, ℕ, ◌+◌, ◌-◌, ◌*◌, Bool, true, false, ◌&&◌, List, [], ◌∷◌, ◌==◌}
use Rattle.syntax.specs.Reading.{digit}
use Rattle.syntax.specs.declared.grammar.Form.{Form}

-- The word w of the form f is among the words.
pub data In : List ℕ → Form → List (List ℕ × Form) → Type 0 where
  here : {w : List ℕ} {f : Form} {ks : List (List ℕ × Form)} → In w f ((w, f) ∷ ks)
  there : {w : List ℕ} {f : Form} {v : List ℕ} {g : Form} {ks : List (List ℕ × Form)} → In w f ks → In w f ((v, g) ∷ ks)

-- Each byte is a digit.
abbrev pub Digits : List ℕ → Type 0
Digits [] = Unit {0}
Digits (c ∷ ds) = (digit c ≡ true) × Digits ds

-- The number that digits write after a number v.
abbrev pub valued : ℕ → List ℕ → ℕ
valued v [] = v
valued v (c ∷ ds) = valued (v * 10 + (c - 48)) ds

-- A word begins another.
abbrev pub begins : List ℕ → List ℕ → Bool
begins [] v = true
begins (x ∷ w) [] = false
begins (x ∷ w) (y ∷ v) = x == y && begins w v

-- A word begins none of the words, and none of them begins it.
abbrev pub Far : List ℕ → List (List ℕ × Form) → Type 0
Far w [] = Unit {0}
Far w ((v, g) ∷ ks) = (begins w v ≡ false) × (begins v w ≡ false) × Far w ks

-- No word begins another.
abbrev pub Apart : List (List ℕ × Form) → Type 0
Apart [] = Unit {0}
Apart ((w, f) ∷ ks) = Far w ks × Apart ks
