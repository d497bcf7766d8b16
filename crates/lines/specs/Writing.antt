-- Writing a text into a caller's buffer.
use Rattle.std.specs.Prelude.{◌≡◌, ℕ, ◌+◌, ◌<◌, ◌≤◌, cond, List, ◌++◌, length, take, drop, Ok, Err, Result, nat_le}
use Rattle.lines.specs.declared.refusal.Short.{Short}
use Rattle.lines.specs.declared.refusal.Refusal.{Refusal}
use Rattle.lines.specs.declared.refusal.Refusal.TheVariants.{ShortBuffer}
use Rattle.lines.specs.declared.pen.BufferPen.{BufferPen}

-- what a call that writes a text into a buffer answers: its length, or that the buffer is shorter
abbrev pub written : List ℕ → List ℕ → Result ℕ Refusal
written text out = cond (nat_le (length text) (length out)) (Ok (length text)) (Err ShortBuffer)

-- the buffer after it: the text and the bytes that were behind it, or the buffer as it was
abbrev pub written_after : List ℕ → List ℕ → List ℕ
written_after text out = cond (nat_le (length text) (length out)) (text ++ drop (length text) out) out

-- a buffer with a text over what stood from a place on
abbrev pub over : ℕ → List ℕ → List ℕ → List ℕ
over at text out = take at out ++ (text ++ drop (at + length text) out)

-- A text was taken: the pen stands behind it, over the same buffer, and a buffer that reaches to the limit has the text. A text with no
-- byte is taken anywhere.
pub record Took (p : BufferPen) (text : List ℕ) (q : BufferPen) : Type 0 where
  pub same : q.out.ghost_name ≡ p.out.ghost_name
  pub room : 0 < length text → p.pen.at + length text ≤ p.pen.limit
  pub place : q.pen.at ≡ p.pen.at + length text
  pub limit : q.pen.limit ≡ p.pen.limit
  pub wrote : p.pen.limit ≤ length p.out.now → q.out.now ≡ over p.pen.at text p.out.now

abbrev Ended : BufferPen → List ℕ → Result Unit Short → BufferPen → Type 0
Ended p text (Ok u) q = Took p text q
Ended p text (Err e) q = (q.out.ghost_name ≡ p.out.ghost_name) × (p.pen.limit < p.pen.at + length text)

-- a piece of text is taken, or it would pass the limit
pub record Writes (p : BufferPen) (text : List ℕ) (r : Result Unit Short) (q : BufferPen) : Type 0 where
  pub ended : Ended p text r q
