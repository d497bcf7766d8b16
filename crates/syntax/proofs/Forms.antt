-- The text of a form's parts is read to its end, or refused where it passes a limit.
use Rattle.std.proofs.Common.{◌≡◌, ℕ, ◌+◌, ◌-◌, ◌≤◌, max, Bool, true, false, cond, ◌&&◌, eqb, leb, List, [], ◌∷◌, ◌++◌, length, get_or, take, drop, decimal, sym, refl, ap, ◌∙◌, subst, arith}
use Rattle.std.proofs.lemmas.Bool.{leb-false, lt-leb}
use Rattle.std.proofs.lemmas.List.{length-set, length_push}
use Rattle.syntax.specs.Grammar.{Stop, Want, Part, Kind, Made, byte, words, more, shut, sep, parts, row, spelling, last, sort_of, width}
use Rattle.syntax.specs.Grammar.Stop.{close}
use Rattle.syntax.specs.Grammar.Want.{stop, number, item}
use Rattle.syntax.specs.Grammar.Part.{num, sub}
use Rattle.syntax.specs.Grammar.Made.{a_type, a_world, a_term, a_station, a_start}
use Rattle.syntax.specs.Reading.{Seen, go, full, begun, many, passed, push, counted, opened, at_depth, settled}
use Rattle.syntax.specs.Texts.{In}
use Rattle.syntax.specs.Trees.{Parts, Fit, stop_of, inside, written, deep, one_type, one_term, types, terms}
use Rattle.syntax.specs.Trees.Parts.{none, number as number', form}
use Rattle.syntax.specs.declared.grammar.Form.{Form}
use Rattle.syntax.specs.declared.grammar.Sort.{Sort}
use Rattle.syntax.specs.declared.grammar.Sort.TheVariants.{Types, Worlds, Terms, First, Further}
use Rattle.syntax.proofs.Rows.{listed, spelt, inner}
use Rattle.syntax.proofs.Runs.{Cap, OnSheet, sheet_ok, Always, at, Runs, runs_by, runs_as, runs_then, number_run, stop_run, open_run, Open, free_kind}
use Rattle.syntax.proofs.Runs.Runs.{runs}
use Rattle.syntax.proofs.Runs.Cap.{deeps, manies, sheets}

-- what reading parts does to what was seen
abbrev pub put : Parts → Seen → Seen
put none s = s
put (number' n r) s = put r (push n s)
put (form g t r) s = put r (passed (close g) (put t (opened g (begun (row g).sort s))))

pub record Sizes (s q : Seen) (a b : ℕ) : Type 0 where
  pub depth : q.depth ≡ s.depth
  pub tys : length q.tys ≡ length s.tys + a
  pub tms : length q.tms ≡ length s.tms + b

pub begun_sizes : (o : Sort) (s : Seen) → Sizes s (begun o s) (one_type o) (one_term o)
begun_sizes Types s = record { depth = refl; tys = length_push s.tys _; tms = omega arith }
begun_sizes Worlds s = record { depth = refl; tys = omega arith; tms = omega arith }
begun_sizes Terms s = record { depth = refl; tys = omega arith; tms = length_push s.tms _ }
begun_sizes First s = record { depth = refl; tys = omega arith; tms = omega arith }
begun_sizes Further s = record { depth = refl; tys = omega arith; tms = omega arith }

pub settled_sizes : (n : ℕ) (m : Made) (s : Seen) → Sizes s (settled n m s) 0 0
settled_sizes n (a_type t) s = record { depth = refl; tys = simp length-set (omega arith); tms = omega arith }
settled_sizes n (a_world c) s = record { depth = refl; tys = omega arith; tms = omega arith }
settled_sizes n (a_term t) s = record { depth = refl; tys = omega arith; tms = simp length-set (omega arith) }
settled_sizes n (a_station g h) s = record { depth = refl; tys = omega arith; tms = omega arith }
settled_sizes n (a_start w) s = record { depth = refl; tys = omega arith; tms = omega arith }

back : (t : Bool) (d e c : ℕ) → c ≡ d → e ≡ cond t (c + 1) c → cond t (e - 1) e ≡ d
back true d e c p q = omega arith
back false d e c p q = q ∙ p

pub form_sizes : (g : Form) (s x : Seen) (a b : ℕ) → Sizes (opened g (begun (row g).sort s)) x a b → Sizes s (passed (close g) x) (one_type (row g).sort + a) (one_term (row g).sort + b)
form_sizes g s x a b h =
    let o = begun_sizes (row g).sort s in
    let y : Seen = at_depth (cond (eqb (last g) 41) (x.depth - 1) x.depth) x in
    let q = settled_sizes (width (parts g)) ((row g).make (take (width (parts g)) x.vals)) y in
    record {
      depth = q.depth ∙ back (eqb (last g) 41) s.depth x.depth (begun (row g).sort s).depth o.depth h.depth;
      tys = omega (arith, q.tys, h.tys, o.tys);
      tms = omega (arith, q.tms, h.tms, o.tms);
    }

pub put_sizes : (t : Parts) (s : Seen) → Sizes s (put t s) (types t) (terms t)
put_sizes none s = record { depth = refl; tys = omega arith; tms = omega arith }
put_sizes (number' n r) s = let h = put_sizes r (push n s) in record { depth = h.depth; tys = h.tys; tms = h.tms }
put_sizes (form g t r) s =
    let x : Seen = put t (opened g (begun (row g).sort s)) in
    let h = form_sizes g s x (types t) (terms t) (put_sizes t (opened g (begun (row g).sort s))) in
    let k = put_sizes r (passed (close g) x) in
    record { depth = k.depth ∙ h.depth; tys = omega (arith, k.tys, h.tys); tms = omega (arith, k.tms, h.tms) }

-- the room that a tree takes
abbrev pub Room : Seen → Parts → Cap → Type 0
Room s t deeps = s.depth + deep t ≤ 64
Room s t manies = (length s.tys + types t ≤ 512) × (length s.tms + terms t ≤ 1024)
Room s t sheets = Unit {0}

abbrev pub Held : Seen → Type 0
Held s = (s.depth + 0 ≤ 64) × (length s.tys + 0 ≤ 512) × (length s.tms + 0 ≤ 1024)

held_room : (s : Seen) → Held s → (c : Cap) → Room s none c
held_room s h deeps = h.0
held_room s h manies = (h.1, h.2)
held_room s h sheets = tt

abbrev pub Free : Form → Seen → Cap → Type 0
Free g s deeps = (eqb (last g) 41 && leb 64 s.depth) ≡ false
Free g s manies = full (row g).sort s ≡ false
Free g s sheets = Unit {0}

full_no : (o : Sort) (s : Seen) → Held s → full o s ≡ false → (length s.tys + one_type o ≤ 512) × (length s.tms + one_term o ≤ 1024)
full_no Types s h e = (omega (arith, leb-false 512 (length s.tys) e), omega arith)
full_no Worlds s h e = (omega arith, omega arith)
full_no Terms s h e = (omega arith, omega (arith, leb-false 1024 (length s.tms) e))
full_no First s h e = (omega arith, omega arith)
full_no Further s h e = (omega arith, omega arith)

full_from : (o : Sort) (s : Seen) → length s.tys + one_type o ≤ 512 → length s.tms + one_term o ≤ 1024 → full o s ≡ false
full_from Types s h k = lt-leb 512 (length s.tys) (omega arith)
full_from Worlds s h k = refl
full_from Terms s h k = lt-leb 1024 (length s.tms) (omega arith)
full_from First s h k = refl
full_from Further s h k = refl

open_depth : (t : Bool) (d e : ℕ) → e ≡ d → d + 0 ≤ 64 → (t && leb 64 d) ≡ false → cond t (e + 1) e + 0 ≤ 64
open_depth true d e q h f = omega (arith, leb-false 64 d f)
open_depth false d e q h f = omega arith

opens_room : (g : Form) (s : Seen) → Held s → ((c : Cap) → Free g s c) → Held (opened g (begun (row g).sort s))
opens_room g s h f =
    let o = begun_sizes (row g).sort s in
    let k = full_no (row g).sort s h (f manies) in
    (open_depth (eqb (last g) 41) s.depth (begun (row g).sort s).depth o.depth h.0 (f deeps), omega (arith, o.tys, k.0), omega (arith, o.tms, k.1))

free_depth : (t : Bool) (d a b : ℕ) → d + max (cond t (a + 1) a) b ≤ 64 → (t && leb 64 d) ≡ false
free_depth true d a b h = lt-leb 64 d (omega arith)
free_depth false d a b h = refl

room_free : (g : Form) (t r : Parts) (s : Seen) (c : Cap) → Room s (form g t r) c → Free g s c
room_free g t r s deeps h = free_depth (eqb (last g) 41) s.depth (deep t) (deep r) h
room_free g t r s manies h = full_from (row g).sort s (let z = h.0 in omega arith) (let z = h.1 in omega arith)
room_free g t r s sheets h = tt

inner_depth : (t : Bool) (d e a b : ℕ) → e ≡ d → d + max (cond t (a + 1) a) b ≤ 64 → (cond t (e + 1) e + a ≤ 64) × (d + b ≤ 64)
inner_depth true d e a b q h = (omega arith, omega arith)
inner_depth false d e a b q h = (omega arith, omega arith)

outer_depth : (t : Bool) (d e a b : ℕ) → e ≡ d → cond t (e + 1) e + a ≤ 64 → d + b ≤ 64 → d + max (cond t (a + 1) a) b ≤ 64
outer_depth true d e a b q h k = omega arith
outer_depth false d e a b q h k = omega arith

module _ (g : Form) (t r : Parts) (s : Seen) where
  abbrev pub first : Seen
  first = opened g (begun (row g).sort s)

  abbrev pub second : Seen
  second = passed (close g) (put t (opened g (begun (row g).sort s)))

  sizes : Sizes s (passed (close g) (put t (opened g (begun (row g).sort s)))) (one_type (row g).sort + types t) (one_term (row g).sort + terms t)
  sizes = form_sizes g s (put t first) (types t) (terms t) (put_sizes t first)

  room_parts : (c : Cap) → Room s (form g t r) c → Room first t c × Room second r c
  room_parts deeps h =
      let o = begun_sizes (row g).sort s in
      let d = inner_depth (eqb (last g) 41) s.depth (begun (row g).sort s).depth (deep t) (deep r) o.depth h in
      (d.0, omega (arith, d.1, sizes.depth))
  room_parts manies h =
      let o = begun_sizes (row g).sort s in
      ((omega (arith, h.0, o.tys), omega (arith, h.1, o.tms)), (omega (arith, h.0, sizes.tys), omega (arith, h.1, sizes.tms)))
  room_parts sheets h = (tt, tt)

  room_whole : (c : Cap) → Room first t c → Room second r c → Room s (form g t r) c
  room_whole deeps h k =
      let o = begun_sizes (row g).sort s in
      outer_depth (eqb (last g) 41) s.depth (begun (row g).sort s).depth (deep t) (deep r) o.depth h (omega (arith, k, sizes.depth))
  room_whole manies h k = (omega (arith, k.0, sizes.tys), omega (arith, k.1, sizes.tms))
  room_whole sheets h k = tt

  room_second : Held s → ((c : Cap) → Room first t c) → Held second
  room_second n h =
      let o = begun_sizes (row g).sort s in
      let m = h manies in
      (omega (arith, n.0, sizes.depth), omega (arith, m.0, o.tys, sizes.tys), omega (arith, m.1, o.tms, sizes.tms))

-- a word
free_sort : (o : Sort) (k : Kind) → o ≡ sort_of k → (s : Seen) (c : ℕ) → many o c s ≡ false
free_sort o k e s c = subst (λ (x : Sort). many x c s ≡ false) (sym e) (free_kind k s c)

open_free : (g : Form) (s : Seen) (c : Cap) → Open (get_or (spelling g) 0 0) (row g).sort s c → Free g s c
open_free g s deeps f = subst (λ (x : Bool). (x && leb 64 s.depth) ≡ false) (spelt g).1 f
open_free g s manies f = f
open_free g s sheets f = tt

free_open : (g : Form) (s : Seen) (c : Cap) → Free g s c → Open (get_or (spelling g) 0 0) (row g).sort s c
free_open g s deeps f = subst (λ (x : Bool). (x && leb 64 s.depth) ≡ false) (sym (spelt g).1) f
free_open g s manies f = f
free_open g s sheets f = tt

pub word_run : (g : Form) (k : Kind) → (row g).sort ≡ sort_of k → (bs : List ℕ) (ws : List Want) (s : Seen) (i : ℕ) →
    Runs (go (spelling g ++ bs) (item (row g).sort ∷ ws) s i) (at bs (shut g (parts g) ws) (opened g (begun (row g).sort s))) (Free g s)
word_run g k e bs ws s i =
    let q = spelt g in
    let b : ℕ = get_or (spelling g) 0 0 in
    let d : ℕ = get_or (spelling g) 1 0 in
    let w : List ℕ = drop 2 (spelling g) in
    runs_by (ap (λ (x : List ℕ). go (x ++ bs) (item (row g).sort ∷ ws) s i) q.0)
    (runs_as (open_free g s) (free_open g s)
    (subst (λ (x : List Want). Runs (go (b ∷ d ∷ w ++ bs) (item (row g).sort ∷ ws) s i) (at bs (shut g (parts g) (x ++ ws)) (opened g (begun (row g).sort s))) (Open b (row g).sort s)) (inner g k e).0
    (open_run (row g).sort bs ws s (free_sort (row g).sort k e (begun (row g).sort s)) b d w g i (subst (λ (x : List ℕ). In x g (words (row g).sort)) q.0 (listed g)))))

-- the parts
pub sep_is : (f : Form) (r : Parts) (ps : List Part) → Fit r ps → sep f ps ≡ stop_of f r
sep_is f none [] h = refl
sep_is f none (p ∷ ps) h = absurd h
sep_is f (number' n r) [] h = absurd h
sep_is f (number' n r) (p ∷ ps) h = refl
sep_is f (form g t r) [] h = absurd h
sep_is f (form g t r) (p ∷ ps) h = refl

abbrev pub ends_at : Form → Parts → Seen → Seen
ends_at f none s = s
ends_at f (number' n r) s = passed (close f) (put (number' n r) s)
ends_at f (form g t r) s = passed (close f) (put (form g t r) s)

tail_run : (f : Form) (r : Parts) (ps : List Part) (bs : List ℕ) (ws : List Want) (x : Seen) (j : ℕ) → Fit r ps → Held x →
    ((y : Seen) (l : ℕ) → Held y → Runs (go (written f r bs) (more f ps ws) y l) (at bs ws (ends_at f r y)) (Room y r)) →
    Runs (go (written f r bs) (more f ps ws) (passed (sep f ps) x) j) (at bs ws (passed (close f) (put r x))) (Room x r)
tail_run f none [] bs ws x j h n k = runs (held_room x n) j refl
tail_run f none (p ∷ ps) bs ws x j h n k = absurd h
tail_run f (number' m r) [] bs ws x j h n k = absurd h
tail_run f (number' m r) (p ∷ ps) bs ws x j h n k = k x j n
tail_run f (form g t r) [] bs ws x j h n k = absurd h
tail_run f (form g t r) (p ∷ ps) bs ws x j h n k = k x j n

shut_run : (g : Form) (t : Parts) (ps : List Part) (bs : List ℕ) (ws : List Want) (x : Seen) (j : ℕ) → Fit t ps → Held x →
    Runs (go (written g t bs) (more g ps ws) x j) (at bs ws (ends_at g t x)) (Room x t) →
    Runs (go (inside t (last g ∷ bs) (written g t bs)) (shut g ps ws) x j) (at bs ws (passed (close g) (put t x))) (Room x t)
shut_run g none [] bs ws x j h n k = runs_as (λ c u. held_room x n c) (λ c u. tt) (stop_run false (close g) bs ws x j)
shut_run g none (p ∷ ps) bs ws x j h n k = absurd h
shut_run g (number' m r) [] bs ws x j h n k = absurd h
shut_run g (number' m r) (p ∷ ps) bs ws x j h n k = k
shut_run g (form f t r) [] bs ws x j h n k = absurd h
shut_run g (form f t r) (p ∷ ps) bs ws x j h n k = k

pub parts_run : (t : Parts) (f : Form) (ps : List Part) (bs : List ℕ) (ws : List Want) (s : Seen) (i : ℕ) → Fit t ps → (row f).counts ≡ false → Held s →
    Runs (go (written f t bs) (more f ps ws) s i) (at bs ws (ends_at f t s)) (Room s t)
parts_run none f [] bs ws s i h c n = runs (held_room s n) i refl
parts_run none f (p ∷ ps) bs ws s i h c n = absurd h
parts_run (number' m r) f [] bs ws s i h c n = absurd h
parts_run (number' m r) f (num ∷ ps) bs ws s i h c n =
    runs_then {H = Room s (number' m r)} (λ d z. sheet_ok no_count d) (λ y d z. same_room d z) (λ y z d. room_same d (z d))
    (subst (λ (a : Stop). Runs (go (decimal m ++ byte a ∷ written f r bs) (number (row f).counts (sep f ps) ∷ more f ps ws) s i) (at (written f r bs) (more f ps ws) (passed (sep f ps) (push m s))) (OnSheet (counted (row f).counts m ≡ false))) (sep_is f r ps h.1)
    (number_run (row f).counts (sep f ps) (written f r bs) (more f ps ws) s m i h.0))
    (λ y j. tail_run f r ps bs ws (push m s) j h.1 n (λ x l k. parts_run r f ps bs ws x l h.1 c k))
  where
    no_count : counted (row f).counts m ≡ false
    no_count = subst (λ (x : Bool). counted x m ≡ false) (sym c) refl

    same_room : (d : Cap) → Room s (number' m r) d → Room (push m s) r d
    same_room deeps z = z
    same_room manies z = z
    same_room sheets z = z

    room_same : (d : Cap) → Room (push m s) r d → Room s (number' m r) d
    room_same deeps z = z
    room_same manies z = z
    room_same sheets z = z
parts_run (number' m r) f (sub k ∷ ps) bs ws s i h c n = absurd h
parts_run (form g t r) f [] bs ws s i h c n = absurd h
parts_run (form g t r) f (num ∷ ps) bs ws s i h c n = absurd h
parts_run (form g t r) f (sub k ∷ ps) bs ws s i h c n =
    let x : List ℕ = byte (stop_of f r) ∷ written f r bs in
    let w : List Want = stop (sep f ps) ∷ more f ps ws in
    subst (λ (o : Sort). Runs (go (spelling g ++ inside t (last g ∷ x) (written g t x)) (item o ∷ w) s i) (at bs ws (passed (close f) (put r (second g t r s)))) (Room s (form g t r))) h.0
    (runs_then {G = λ d. Room (first g t r s) t d × Room (second g t r s) r d} (room_free g t r s) (λ y d z. room_parts g t r s d z) (λ y z d. room_whole g t r s d (z d).0 (z d).1)
    (word_run g k h.0 (inside t (last g ∷ x) (written g t x)) w s i)
    (λ y j. let n1 = opens_room g s n y in
    runs_then {H = λ d. Room (first g t r s) t d × Room (second g t r s) r d} (λ d z. z.0) (λ a d z. z.1) (λ a z d. (a d, z d))
    (shut_run g t (parts g) x w (first g t r s) j h.1 n1 (parts_run t g (parts g) x w (first g t r s) j h.1 (inner g k h.0).1 n1))
    (λ a l. runs_then {H = Room (second g t r s) r} (λ d z. tt) (λ b d z. z) (λ b z d. z d)
    (subst (λ (q : Stop). Runs (go (byte q ∷ written f r bs) w (second g t r s) l) (at (written f r bs) (more f ps ws) (passed (sep f ps) (second g t r s))) Always) (sep_is f r ps h.2)
    (stop_run false (sep f ps) (written f r bs) (more f ps ws) (second g t r s) l))
    (λ b l'. tail_run f r ps bs ws (second g t r s) l' h.2 (room_second g t r s n a) (λ y' l'' k'. parts_run r f ps bs ws y' l'' h.2 c k')))))
