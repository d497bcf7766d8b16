-- What registers show, and what asking and setting one answers and leaves. Gauges and gates go by the same rules.
use Rattle.std.specs.Prelude.{◌≡◌, ℕ, ◌≤◌, cond, List, [], length, Some, None, Ok, Err, Option, Result, nat_lt, slice_index_or, slice_set}
use Rattle.lines.specs.declared.refusal.RegisterFault.{RegisterFault}
use Rattle.lines.specs.declared.refusal.RegisterFault.TheVariants.{NotFitted, Silent}

-- what the registers of all sites show: a list of sites, each the list of its registers, `None` where one is silent
abbrev pub Shown : Type 0
Shown = List (List (Option ℕ))

-- the registers of one site
abbrev pub site_row : Shown → ℕ → List (Option ℕ)
site_row rows s = slice_index_or rows s []

-- what one fitted register answers
abbrev pub heard : ℕ → ℕ → Option ℕ → Result ℕ RegisterFault
heard s n None = Err (Silent s n)
heard s n (Some v) = Ok v

-- what asking register n of site s answers, where xs are that site's registers
abbrev pub row_asked : List (Option ℕ) → ℕ → ℕ → Result ℕ RegisterFault
row_asked xs s n = cond (nat_lt n (length xs)) (heard s n (slice_index_or xs n None)) (Err (NotFitted s n))

-- what asking register n of site s answers
abbrev pub asked : Shown → ℕ → ℕ → Result ℕ RegisterFault
asked rows s n = row_asked (site_row rows s) s n

-- what setting it answers
abbrev pub done : Result ℕ RegisterFault → Result Unit RegisterFault
done (Ok v) = Ok tt
done (Err e) = Err e

-- the registers with register n of site s at w
abbrev pub with_register : Shown → ℕ → ℕ → Option ℕ → Shown
with_register rows s n w = slice_set rows s (slice_set (site_row rows s) n w)

-- a site's registers after a set of register n to v that is answered r
abbrev pub row_after : Result ℕ RegisterFault → List (Option ℕ) → ℕ → ℕ → List (Option ℕ)
row_after (Ok old) xs n v = slice_set xs n (Some v)
row_after (Err e) xs n v = xs

-- all registers after a set of register n of site s to v
abbrev pub set_after : Shown → ℕ → ℕ → ℕ → Shown
set_after rows s n v = slice_set rows s (row_after (asked rows s n) (site_row rows s) n v)

-- what placing a number or silence at register n of site s answers, where xs are that site's registers
abbrev pub row_placed : List (Option ℕ) → ℕ → ℕ → Result Unit RegisterFault
row_placed xs s n = cond (nat_lt n (length xs)) (Ok tt) (Err (NotFitted s n))

-- what placing answers
abbrev pub placed : Shown → ℕ → ℕ → Result Unit RegisterFault
placed rows s n = row_placed (site_row rows s) s n

-- no more than 16 sites, and no more than 32 registers at one
abbrev pub Few : Shown → Type 0
Few rows = (length rows ≤ 16) × ((s : ℕ) → length (site_row rows s) ≤ 32)

-- what a register answers after a set that answered
abbrev pub confirmed : Result ℕ RegisterFault → ℕ → Result ℕ RegisterFault
confirmed (Ok old) v = Ok v
confirmed (Err e) v = Err e

-- register n of site s is not register k of site t
abbrev pub Elsewhere : ℕ → ℕ → ℕ → ℕ → Type 0
Elsewhere s n t k = (s ≡ t) → (n ≡ k) → ⊥
