-- A sheet and a works, compared site by site.
use Rattle.std.proofs.Common.{◌≡◌, ℕ, suc, ◌+◌, ◌<◌, ◌≤◌, Bool, true, false, cond, ◌&&◌, eqb, ltb, [], length, get_or, drop, sym, refl, ap, ◌∙◌, add-one, arith, drop_of_length-le, drop-cons, ltb-false, ltb-true}
use mathlib.Core.Option.{Option, some, none as nothing}
use Rattle.instruments.specs.declared.sheet.Station.{Station}
use Rattle.calculus.specs.Types.{Sheet}
use Rattle.calculus.specs.Tables.{count}
use Rattle.calculus.specs.Step.{Works}
use Rattle.calculus.specs.NetworkTyping.{Agrees}
use Rattle.calculus.specs.Calls.{sheet_from, sheet_of, differing_from, differing}
use Rattle.calculus.proofs.Works.{no_differing, sheet_agrees}
use Rattle.machine.specs.Sheets.{has_station}

-- a works that differs nowhere from a sheet has its registers
pub same_agrees : (S : Sheet) (v : Works) → differing S (sheet_of v) ≡ nothing → Agrees S v
same_agrees S v e = sheet_agrees S v (sym (no_differing 0 S (sheet_of v) e))

-- the lowest site from i on at which a sheet and a works differ
abbrev pub differing_on : Sheet → Works → ℕ → Option ℕ
differing_on S v i = differing_from i (drop i S) (sheet_from (drop i v.gauges) (drop i v.gates))

module _ (S : Sheet) (v : Works) (level : length v.gates ≡ length v.gauges) (i : ℕ) where
  abbrev equal : Station → Bool
  equal x = eqb x.gauges (count v.gauges i) && eqb x.gates (count v.gates i)

  -- only the works has site i
  pub more_sites : length S ≤ i → i < length v.gauges → some i ≡ differing_on S v i
  more_sites e h =
      let s = drop_of_length-le S {i = i} e in
      let q = drop-cons v.gauges i [] h in
      let t = drop-cons v.gates i [] (omega arith) in
      sym (λ j. differing_from i (s j) (sheet_from (q j) (t j)))

  -- neither has it
  pub no_more : length S ≤ i → length v.gauges ≤ i → nothing ≡ differing_on S v i
  no_more e h =
      let s = drop_of_length-le S {i = i} e in
      let q = drop_of_length-le v.gauges {i = i} h in
      let t = drop_of_length-le v.gates {i = i} (omega arith) in
      sym (λ j. differing_from i (s j) (sheet_from (q j) (t j)))

  module _ (d : Station) (l : i < length S) where
    abbrev here : Station
    here = get_or S i d

    -- both have site i
    both : i < length v.gauges → differing_on S v i ≡ cond (equal here) (differing_on S v (suc i)) (some i)
    both h =
        let s = drop-cons S i d l in
        let q = drop-cons v.gauges i [] h in
        let t = drop-cons v.gates i [] (omega arith) in
        λ j. differing_from i (s j) (sheet_from (q j) (t j))

    -- only the sheet has site i
    past : length v.gauges ≤ i → differing_on S v i ≡ some i
    past h =
        let s = drop-cons S i d l in
        let q = drop_of_length-le v.gauges {i = i} h in
        let t = drop_of_length-le v.gates {i = i} (omega arith) in
        λ j. differing_from i (s j) (sheet_from (q j) (t j))

    on : (a b : Bool) → ltb i (length v.gauges) ≡ a → equal here ≡ b → (a && b) ≡ true → differing_on S v (i + 1) ≡ differing_on S v i
    on true true p q h = ap (differing_on S v) (add-one i) ∙ sym (both (ltb-true i (length v.gauges) p) ∙ ap (λ c. cond c (differing_on S v (suc i)) (some i)) q)
    on true false p q h = absurd (let z : ◌≡◌ {A = ℕ} 0 1 = cc in omega arith)
    on false b p q h = absurd (let z : ◌≡◌ {A = ℕ} 0 1 = cc in omega arith)

    -- the works has the station: on with the next
    pub goes_on : has_station v i here ≡ true → differing_on S v (i + 1) ≡ differing_on S v i
    goes_on h = on (ltb i (length v.gauges)) (equal here) refl refl h

    off : (a b : Bool) → ltb i (length v.gauges) ≡ a → equal here ≡ b → (a && b) ≡ false → some i ≡ differing_on S v i
    off true true p q h = absurd (let z : ◌≡◌ {A = ℕ} 0 1 = cc in omega arith)
    off true false p q h = sym (both (ltb-true i (length v.gauges) p) ∙ ap (λ c. cond c (differing_on S v (suc i)) (some i)) q)
    off false b p q h = sym (past (ltb-false i (length v.gauges) p))

    -- the works has not the station: here they differ
    pub differs_here : has_station v i here ≡ false → some i ≡ differing_on S v i
    differs_here h = off (ltb i (length v.gauges)) (equal here) refl refl h
