-- The grammar's texts, byte by byte: what is wanted, form by form, and where things begin.
use Rattle.std.proofs.Common.{◌≡◌, ℕ, ◌+◌, ◌-◌, ◌<◌, Bool, true, List, [], ◌∷◌, ◌++◌, length}
use Rattle.syntax.specs.Grammar.{Stop, Want, byte, wants, words}
use Rattle.syntax.specs.Grammar.Want.{stop, number, digits, item, word}
use Rattle.syntax.specs.Reading.{digit}
use Rattle.syntax.specs.declared.grammar.Form.{Form}
use Rattle.syntax.specs.declared.grammar.Sort.{Sort}
use Rattle.syntax.specs.declared.grammar.Sort.TheVariants.{First}
use Rattle.syntax.specs.Texts.{In, Digits, valued, Apart}
use Rattle.syntax.specs.Refusals.{New, new_item, new_number, noted}

-- a text of what is wanted
pub data Text : List Want → Type 0 where
  end : Text []
  past : {ws : List Want} (a : Stop) → Text ws → Text (stop a ∷ ws)
  nought : {ws : List Want} (k : Bool) (a : Stop) → Text ws → Text (number k a ∷ ws)
  some : {ws : List Want} (k : Bool) (a : Stop) (c : ℕ) (ds : List ℕ) → digit c ≡ true → (c ≡ 48 → ⊥) → Digits ds → valued (c - 48) ds < 65536 → Text ws → Text (number k a ∷ ws)
  rest : {ws : List Want} (k : Bool) (p v : ℕ) (a : Stop) (ds : List ℕ) → Digits ds → valued v ds < 65536 → Text ws → Text (digits k p v a ∷ ws)
  pick : {ws : List Want} (o : Sort) (b d : ℕ) (w : List ℕ) (f : Form) → In (b ∷ d ∷ w) f (words o) → Text (wants f ws) → Text (item o ∷ ws)
  spell : {ws : List Want} (o : Sort) (ks : List (List ℕ × Form)) → Apart ks → (b : ℕ) (w : List ℕ) (f : Form) → In (b ∷ w) f ks → Text (wants f ws) → Text (word o ks ∷ ws)

abbrev pub shown : {ws : List Want} → Text ws → List ℕ
shown end = []
shown (past a t) = byte a ∷ shown t
shown (nought k a t) = 48 ∷ byte a ∷ shown t
shown (some k a c ds h n hs l t) = c ∷ ds ++ byte a ∷ shown t
shown (rest k p v a ds hs l t) = ds ++ byte a ∷ shown t
shown (pick o b d w f m t) = b ∷ d ∷ w ++ shown t
shown (spell o ks h b w f m t) = b ∷ w ++ shown t

-- the places where such begin in a text that begins at the place i, in their order
abbrev pub places : New → {ws : List Want} → Text ws → ℕ → List ℕ
places x end i = []
places x (past a t) i = places x t (i + 1)
places x (nought k a t) i = noted (new_number x k) i (places x t (i + 2))
places x (some k a c ds h n hs l t) i = noted (new_number x k) i (places x t (i + length ds + 2))
places x (rest k p v a ds hs l t) i = places x t (i + length ds + 1)
places x (pick o b d w f m t) i = noted (new_item x o) i (places x t (i + length w + 2))
places x (spell o ks h b w f m t) i = places x t (i + length w + 1)

-- a text of the whole grammar
abbrev pub Whole : Type 0
Whole = Text (item First ∷ [])

-- in the text such a thing begins at p, and n of them begin before it
abbrev pub NthIn : New → ℕ → Whole → ℕ → Type 0
NthIn x n t p = (l : List ℕ) × ((r : List ℕ) × ((places x t 0 ≡ l ++ p ∷ r) × (length l ≡ n)))
