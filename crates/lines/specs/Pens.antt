-- Writing a piece of text into a buffer that is handed to the pen with it.
use Rattle.std.specs.Prelude.{◌≡◌, ℕ, ◌+◌, ◌<◌, ◌≤◌, List, length, Ok, Err, Result}
use Rattle.lines.specs.declared.refusal.Short.{Short}
use Rattle.lines.specs.declared.pen.Pen.{Pen}
use Rattle.lines.specs.Writing.{over}

-- a text was taken: the pen stands behind it, and a buffer that reaches to the limit has the text
pub record Took (p : Pen) (out text : List ℕ) (q : Pen) (after : List ℕ) : Type 0 where
  pub room : p.at + length text ≤ p.limit
  pub place : q.at ≡ p.at + length text
  pub limit : q.limit ≡ p.limit
  pub wrote : p.limit ≤ length out → after ≡ over p.at text out

abbrev Ended : Pen → List ℕ → List ℕ → Result Unit Short → Pen → List ℕ → Type 0
Ended p out text (Ok u) q after = Took p out text q after
Ended p out text (Err e) q after = p.limit < p.at + length text

-- a piece of text is taken, or it would pass the limit
pub record Writes (p : Pen) (out text : List ℕ) (r : Result Unit Short) (q : Pen) (after : List ℕ) : Type 0 where
  pub ended : Ended p out text r q after
