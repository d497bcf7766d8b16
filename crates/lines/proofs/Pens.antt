-- One piece of text after another, into a buffer that is handed to the pen.
use Rattle.std.proofs.Common.{◌≡◌, ℕ, ◌+◌, ◌≤◌, List, ◌++◌, length, Ok, Err, Result, ap, ◌∙◌, arith, length-append}
use Rattle.lines.specs.declared.refusal.Short.{Short}
use Rattle.lines.specs.declared.pen.Pen.{Pen}
use Rattle.lines.specs.Writing.{over}
use Rattle.lines.specs.Pens.{Took, Writes}
use Rattle.lines.proofs.Pieces.{length_over, over_over}

-- a piece after another is their join
pub took_then : {p q r : Pen} {out a b t u : List ℕ} → Took p out t q a → Took q a u r b → Took p out (t ++ u) r b
took_then {p} {q} {r} {out} {a} {b} {t} {u} x y =
    let l : length (t ++ u) ≡ length t + length u = length-append t u in
    record {
      room = omega (arith, x.place, x.limit, y.room);
      place = omega (arith, x.place, y.place);
      limit = y.limit ∙ x.limit;
      wrote = λ h.
          let k : p.at + length t ≤ length out = omega (arith, x.room) in
          let w : a ≡ over p.at t out = x.wrote h in
          let m : q.limit ≤ length a = omega (arith, ap length w, length_over p.at t out k, x.limit) in
          y.wrote m ∙ ap (λ n. over n u a) x.place ∙ ap (λ (c : List ℕ). over (p.at + length t) u c) w ∙ over_over p.at t u out k;
    }

pub then : {p q r : Pen} {out a b t u : List ℕ} {e : Result Unit Short} → Took p out t q a → Writes q a u e r b → Writes p out (t ++ u) e r b
then {e = Ok v} x y = record { ended = took_then x y.ended }
then {p} {q} {r} {out} {a} {b} {t} {u} {e = Err v} x y = record { ended = omega (arith, length-append t u, x.place, x.limit, y.ended) }
