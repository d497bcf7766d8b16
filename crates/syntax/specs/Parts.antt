-- The parts of a type or of a term, as a text names them one after another.
use Rattle.std.specs.Prelude.{ℕ, List, [], ◌∷◌, decimal}
use Rattle.syntax.specs.Place.{Tables}
use Rattle.syntax.specs.Spelt.{spaced, type_text, world_text, term_text}
use Rattle.syntax.specs.declared.writer.Part.{Part}
use Rattle.syntax.specs.declared.writer.Part.TheVariants.{Number, World, Ty, Term}

-- the text of a part, where types and terms go to a depth
abbrev pub part_text : ℕ → Tables → Part → List ℕ
part_text left t (Number n) = decimal n
part_text left t (World w) = world_text w
part_text left t (Ty n) = type_text left t.types n
part_text left t (Term n) = term_text left t.types t.terms n

-- texts with a space between each two
abbrev pub joined : List (List ℕ) → List ℕ
joined [] = []
joined (a ∷ []) = a
joined (a ∷ b ∷ cs) = spaced a (joined (b ∷ cs))
