-- What making an image answers.
use Rattle.std.specs.Prelude.{◌≡◌, ℕ, List, Ok, Err, vec_items, Result}
use Rattle.instruments.specs.declared.image.Image.{Image}
use Rattle.instruments.specs.declared.makes.NoImage.{NoImage}
use Rattle.instruments.specs.declared.makes.NoImage.TheVariants.{Refused, Memory}
use Rattle.instruments.specs.Accepted.{accepted}

abbrev pub image_bytes : Image → List ℕ
image_bytes i = vec_items i.bytes

-- bytes that are accepted make an image of these bytes, unless memory is short; the others are refused
abbrev pub Made : List ℕ → Result Image NoImage → Type 0
Made bs (Ok i) = (accepted bs ≡ Ok tt) × (image_bytes i ≡ bs)
Made bs (Err (Refused e)) = accepted bs ≡ Err e
Made bs (Err Memory) = accepted bs ≡ Ok tt
