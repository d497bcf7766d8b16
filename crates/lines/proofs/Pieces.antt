-- One piece of text after another.
use Rattle.std.proofs.Common.{◌≡◌, ℕ, ◌+◌, ◌<◌, ◌≤◌, true, false, leb, List, [], ◌∷◌, ◌++◌, length, take, drop, is_err, IsErrAnd, Ok, Err, Result, sym, refl, ap, ◌∙◌, add-zero, arith, length-append, length-drop, le-leb}
use borrow.Author.Tests.{lt-leb}
use lib.Seq.{take-append_seam, drop-append-add}
use Rattle.std.proofs.lemmas.List.{append_assoc, length-take-le, drop-drop, take-append-drop}
use Rattle.std.proofs.lemmas.Result.{err_from_is_err_and}
use Rattle.lines.specs.declared.refusal.Short.{Short}
use Rattle.lines.specs.declared.refusal.Refusal.{Refusal}
use Rattle.lines.specs.declared.refusal.Refusal.TheVariants.{ShortBuffer}
use Rattle.lines.specs.declared.pen.BufferPen.{BufferPen}
use Rattle.lines.specs.Writing.{written, written_after, over, Took, Writes}

module _ (at : ℕ) (t out : List ℕ) (h : at + length t ≤ length out) where
  front : length (take at out ++ t) ≡ at + length t
  front = length-append (take at out) t ∙ ap (λ n. n + length t) (length-take-le at out (omega arith))

  regroup : over at t out ≡ (take at out ++ t) ++ drop (at + length t) out
  regroup = sym (append_assoc (take at out) t (drop (at + length t) out))

  pub length_over : length (over at t out) ≡ length out
  length_over = ap length regroup ∙ length-append (take at out ++ t) (drop (at + length t) out) ∙ omega (arith, front, length-drop (at + length t) out)

  take_over : take (at + length t) (over at t out) ≡ take at out ++ t
  take_over = ap (λ (x : List ℕ). take (at + length t) x) regroup ∙ ap (λ n. take n ((take at out ++ t) ++ drop (at + length t) out)) (sym front) ∙ take-append_seam (take at out ++ t) (drop (at + length t) out)

  drop_over : (n : ℕ) → drop (at + length t + n) (over at t out) ≡ drop (at + length t + n) out
  drop_over n =
      ap (λ (x : List ℕ). drop (at + length t + n) x) regroup ∙ ap (λ m. drop (m + n) ((take at out ++ t) ++ drop (at + length t) out)) (sym front)
      ∙ drop-append-add (take at out ++ t) (drop (at + length t) out) n ∙ drop-drop n (at + length t) out

pub over_over : (at : ℕ) (t u out : List ℕ) → at + length t ≤ length out → over (at + length t) u (over at t out) ≡ over at (t ++ u) out
over_over at t u out h =
    let e : at + length t + length u ≡ at + length (t ++ u) = omega (arith, length-append t u) in
    ap (λ (x : List ℕ). x ++ (u ++ drop (at + length t + length u) (over at t out))) (take_over at t out h)
    ∙ ap (λ (x : List ℕ). (take at out ++ t) ++ (u ++ x)) (drop_over at t out h (length u))
    ∙ append_assoc (take at out) t (u ++ drop (at + length t + length u) out)
    ∙ ap (λ n. take at out ++ (t ++ (u ++ drop n out))) e
    ∙ ap (λ (x : List ℕ). take at out ++ x) (sym (append_assoc t u (drop (at + length (t ++ u)) out)))

-- no text changes nothing, wherever it stands
over_nothing : (at : ℕ) (out : List ℕ) → over at [] out ≡ out
over_nothing at out = ap (λ n. take at out ++ drop n out) (add-zero at) ∙ take-append-drop at out

length_kept : (at : ℕ) (t out : List ℕ) → (0 < length t → at + length t ≤ length out) → length (over at t out) ≡ length out
length_kept at [] out h = ap length (over_nothing at out)
length_kept at (v ∷ vs) out h = length_over at (v ∷ vs) out (h (omega arith))

over_joined : (at : ℕ) (t u out : List ℕ) → (0 < length t → at + length t ≤ length out) → over (at + length t) u (over at t out) ≡ over at (t ++ u) out
over_joined at [] u out h = ap (λ (c : List ℕ). over (at + 0) u c) (over_nothing at out) ∙ ap (λ n. over n u out) (add-zero at)
over_joined at (v ∷ vs) u out h = over_over at (v ∷ vs) u out (h (omega arith))

-- room for two pieces, where each that has a byte has room
join_room : {p q r : BufferPen} {t u : List ℕ} → Took p t q → Took q u r → 0 < length (t ++ u) → p.pen.at + length (t ++ u) ≤ p.pen.limit
join_room {t = t} {u = []} x y h = grind (arith, length-append t [], x.room)
join_room {t = t} {u = v ∷ vs} x y h = omega (arith, length-append t (v ∷ vs), x.place, x.limit, y.room (omega arith))

-- a piece after another is their join
pub took_then : {p q r : BufferPen} {t u : List ℕ} → Took p t q → Took q u r → Took p (t ++ u) r
took_then {p} {q} {r} {t} {u} x y =
    let l : length (t ++ u) ≡ length t + length u = length-append t u in
    record {
      same = y.same ∙ x.same;
      room = join_room x y;
      place = omega (arith, x.place, y.place);
      limit = y.limit ∙ x.limit;
      wrote = λ h.
          let k : 0 < length t → p.pen.at + length t ≤ length p.out.now = λ some. omega (arith, x.room some) in
          let w : q.out.now ≡ over p.pen.at t p.out.now = x.wrote h in
          let m : q.pen.limit ≤ length q.out.now = omega (arith, ap length w, length_kept p.pen.at t p.out.now k, x.limit) in
          y.wrote m ∙ ap (λ n. over n u q.out.now) x.place ∙ ap (λ (c : List ℕ). over (p.pen.at + length t) u c) w ∙ over_joined p.pen.at t u p.out.now k;
    }

-- no text yet
pub begins : (p : BufferPen) → Took p [] p
begins p =
    record {
      same = refl;
      room = λ h. absurd (omega arith);
      place = omega arith;
      limit = refl;
      wrote = λ _. sym (over_nothing p.pen.at p.out.now);
    }

pub then : {p q r : BufferPen} {t u : List ℕ} {e : Result Unit Short} → Took p t q → Writes q u e r → Writes p (t ++ u) e r
then {e = Ok v} x y = record { ended = took_then x y.ended }
then {p} {q} {r} {t} {u} {e = Err v} x y =
    record { ended = (y.ended.0 ∙ x.same, omega (arith, length-append t u, x.place, x.limit, y.ended.1)) }

-- a piece that does not fit leaves no room for what begins with it
pub stops : {p q : BufferPen} {e : Result Unit Short} (t u : List ℕ) → is_err e ≡ true → (q.out.ghost_name ≡ p.out.ghost_name) × (p.pen.limit < p.pen.at + length t) → Writes p (t ++ u) e q
stops {e = Ok v} t u x y = absurd (grind arith)
stops {p} {q} {e = Err v} t u x y = record { ended = (y.0, omega (arith, length-append t u, y.1)) }

pub stops_whole : {p q : BufferPen} {t : List ℕ} {e : Result Unit Short} → is_err e ≡ true → (q.out.ghost_name ≡ p.out.ghost_name) × (p.pen.limit < p.pen.at + length t) → Writes p t e q
stops_whole {e = Ok v} x y = absurd (grind arith)
stops_whole {e = Err v} x y = record { ended = y }

reaches : (text : List ℕ) {a l n : ℕ} → (0 < length text → a + length text ≤ l) → a ≡ 0 → l ≡ n → length text ≤ n
reaches [] h e m = omega arith
reaches (v ∷ vs) h e m = omega (arith, h (omega arith))

-- a text that does not fit is refused, and the buffer stays as it is
module _ (text : List ℕ) (p : BufferPen) (out : List ℕ) (o : p.out.now ≡ out) (a : p.pen.at ≡ 0) (l : p.pen.limit ≡ length out) where
  passes : p.pen.limit < p.pen.at + length text → leb (length text) (length out) ≡ false
  passes h = lt-leb (length text) (length out) (omega arith)

  pub refuses : {r : Result ℕ Refusal} → p.pen.limit < p.pen.at + length text → IsErrAnd r (λ e. e ≡ ShortBuffer) → r ≡ written text out
  refuses {r} h by = let e = err_from_is_err_and r by in e.1 ∙ ap (λ (y : Refusal). Err y) e.2 ∙ sym (rw (passes h))

  pub keeps : p.pen.limit < p.pen.at + length text → out ≡ written_after text out
  keeps h = sym (rw (passes h))

  -- one that fits is written whole, and the bytes behind it stay
  module _ {q : BufferPen} (t : Took p text q) where
    fits : leb (length text) (length out) ≡ true
    fits = le-leb (length text) (length out) (reaches text t.room a l)

    pub fills : Ok q.pen.at ≡ written text out
    fills = let e : q.pen.at ≡ length text = omega (arith, t.place) in ap (λ n. Ok n) e ∙ sym (rw fits)

    pub fills_after : q.out.now ≡ written_after text out
    fills_after =
        let z : 0 + length text ≡ length text = omega arith in
        t.wrote (omega (arith, ap length o)) ∙ ap (λ n. over n text p.out.now) a ∙ ap (λ (x : List ℕ). over 0 text x) o ∙ ap (λ n. text ++ drop n out) z ∙ sym (rw fits)
