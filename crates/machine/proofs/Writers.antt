-- What the writers of values lean on: how far back a value reaches, and what the cells stand for as text.
use Rattle.std.proofs.Common.{◌≡◌, ℕ, ◌+◌, ◌*◌, ◌<◌, ◌≤◌, true, List, [], ◌++◌, length, get_or, codes, refl, ap, ◌∙◌, subst, append-nil, arith}
use mathlib.Core.Option.{some}
use lib.ListN.{get_elem?}
use Rattle.calculus.specs.Machine
use Rattle.machine.specs.Meaning.{Meaning, blank, meanings, environment_of, value_of, bound_of, cell_of}
use Rattle.machine.specs.Sound.{Each, CellIn, EnvironmentIn, ValueIn, BoundIn, pair_at}
use Rattle.machine.specs.Texts.{value_text, bindings_text, bound_text}
use Rattle.machine.proofs.Growth.{elem_getD}
use Rattle.machine.proofs.Stays.{meanings_read, pair_cell, environment_up, value_up, bound_up}
use Rattle.machine.proofs.Walks.{place, place_below}
use Rattle.machine.specs.declared.parts.Environment.{Environment}
use Rattle.machine.specs.declared.parts.Environment.TheVariants as Env
use Rattle.machine.specs.declared.parts.Value.{Value}
use Rattle.machine.specs.declared.parts.Value.TheVariants as Val
use Rattle.machine.specs.declared.parts.Bound.{Bound}
use Rattle.machine.specs.declared.parts.Bound.TheVariants as Bind
use Rattle.machine.specs.declared.parts.Cell.{Cell}
use Rattle.machine.specs.declared.parts.Cell.TheVariants as Holds

-- one more than the last cell that a value names
abbrev pub depth : Value → ℕ
depth (Val.Number n) = 0
depth (Val.Function p e) = place e
depth (Val.Code p e) = place e
depth (Val.Address s l) = 0
depth (Val.Pair i) = i + 1

abbrev pub reach : Bound → ℕ
reach (Bind.Value v) = depth v
reach (Bind.Label s l) = 0
reach (Bind.World s) = 0
reach (Bind.Continuation s c) = 0

pub depth_below : (cs : List Cell) (n : ℕ) (v : Value) → ValueIn cs n v → depth v ≤ n
depth_below cs n (Val.Number k) h = omega arith
depth_below cs n (Val.Function p e) h = place_below n e h
depth_below cs n (Val.Code p e) h = place_below n e h
depth_below cs n (Val.Address s l) h = omega arith
depth_below cs n (Val.Pair i) h = let b = h.0 in omega arith

pub reach_below : (cs : List Cell) (n : ℕ) (b : Bound) → BoundIn cs n b → reach b ≤ n
reach_below cs n (Bind.Value v) h = depth_below cs n v h
reach_below cs n (Bind.Label s l) h = omega arith
reach_below cs n (Bind.World s) h = omega arith
reach_below cs n (Bind.Continuation s c) h = omega arith

-- a chain is its innermost binding behind a space, and the rest
pub text_binding : (ms : List Meaning) (b : Bound) (ρ : Machine.Environment) → bindings_text (bound_of ms b ρ) ≡ codes " " ++ (bound_text ms b ++ bindings_text ρ)
text_binding ms (Bind.Value v) ρ = refl
text_binding ms (Bind.Label s l) ρ = refl
text_binding ms (Bind.World s) ρ = refl
text_binding ms (Bind.Continuation s c) ρ = refl

module _ (cs : List Cell) (all : Each (λ i c. CellIn cs i c) cs) where
  -- a cell that there is, read at any default
  module _ (i : ℕ) (d c : Cell) (h : i < length cs) (e : get_or cs i d ≡ c) where
    found : get_elem? cs i ≡ some c
    found = elem_getD cs i d h ∙ ap some e

    holds : CellIn cs i c
    holds = all i c found

    stands : get_or (meanings cs) i blank ≡ cell_of (meanings cs) c
    stands = meanings_read cs i c all found

  value_in : (i : ℕ) (v : Value) → i < length cs → ValueIn cs i v → ValueIn cs (length cs) v
  value_in i v h q = subst (λ x. ValueIn x (length cs) v) (append-nil cs) (value_up cs [] i (length cs) (omega arith) v q)

  bound_in : (i : ℕ) (b : Bound) → i < length cs → BoundIn cs i b → BoundIn cs (length cs) b
  bound_in i b h q = subst (λ x. BoundIn x (length cs) b) (append-nil cs) (bound_up cs [] i (length cs) (omega arith) b q)

  -- a pair's cell
  module _ (i : ℕ) (d : Cell) (h : i < length cs) where
    pub pair_text : (a b : Value) → get_or cs i d ≡ Holds.Pair a b → value_text (value_of (meanings cs) (Val.Pair i)) ≡ codes "(pair " ++ (value_text (value_of (meanings cs) a) ++ (codes " " ++ (value_text (value_of (meanings cs) b) ++ codes ")")))
    pair_text a b e = ap (λ m. value_text m.pair) (stands i d (Holds.Pair a b) h e)

    -- its halves name cells that there are, and earlier ones only
    pub halves_in : (a b : Value) → get_or cs i d ≡ Holds.Pair a b → ValueIn cs (length cs) a × ValueIn cs (length cs) b × (depth a ≤ i) × (depth b ≤ i)
    halves_in a b e =
        let q = holds i d (Holds.Pair a b) h e in
        (value_in i a h q.0, value_in i b h q.1, depth_below cs i a q.0, depth_below cs i b q.1)

    pub no_binding : (b : Bound) (r : Environment) → pair_at cs i ≡ true → get_or cs i d ≡ Holds.Binding b r → ⊥
    no_binding b r p e =
        let q = pair_cell cs i p in
        let f = found i d (Holds.Binding b r) h e in
        let g = q.2 in
        let z : ◌≡◌ {A = ℕ} 0 1 = cc in
        omega arith

  -- a chain that begins at a cell
  module _ (ρ : Environment) (i : ℕ) (d : Cell) (s : ρ ≡ Env.Cell i) (n : EnvironmentIn (length cs) ρ) where
    below : i < length cs
    below = subst (EnvironmentIn (length cs)) s n

    -- nothing is bound at a pair's cell
    pub stray_text : (a b : Value) → get_or cs i d ≡ Holds.Pair a b → bindings_text (environment_of (meanings cs) ρ) ≡ []
    stray_text a b e = ap (λ x. bindings_text (environment_of (meanings cs) x)) s ∙ ap (λ m. bindings_text m.environment) (stands i d (Holds.Pair a b) below e)

    pub chain_text : (b : Bound) (r : Environment) → get_or cs i d ≡ Holds.Binding b r → bindings_text (environment_of (meanings cs) ρ) ≡ codes " " ++ (bound_text (meanings cs) b ++ bindings_text (environment_of (meanings cs) r))
    chain_text b r e =
        ap (λ x. bindings_text (environment_of (meanings cs) x)) s
        ∙ ap (λ m. bindings_text m.environment) (stands i d (Holds.Binding b r) below e)
        ∙ text_binding (meanings cs) b (environment_of (meanings cs) r)

    -- the binding and the rest name cells that there are, and earlier ones only
    pub binding_in : (b : Bound) (r : Environment) → get_or cs i d ≡ Holds.Binding b r → BoundIn cs (length cs) b × EnvironmentIn (length cs) r × (4 * reach b + 3 < 4 * place ρ) × (4 * place r < 4 * place ρ)
    binding_in b r e =
        let q = holds i d (Holds.Binding b r) below e in
        let k = below in
        let x = reach_below cs i b q.0 in
        let y = place_below i r q.1 in
        let p : place ρ ≡ i + 1 = ap place s in
        (bound_in i b below q.0, environment_up i (length cs) r (omega arith) q.1, omega arith, omega arith)
