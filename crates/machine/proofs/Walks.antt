-- A walk down a chain of bindings.
use Rattle.std.proofs.Common.{◌≡◌, ℕ, zero, suc, ◌+◌, ◌<◌, ◌≤◌, List, [], ◌++◌, length, Some, None, sym, refl, ap, ◌∙◌, subst, append-nil, arith}
use mathlib.Core.Option.{some, none as nothing}
use lib.ListN.{get_elem?}
use Rattle.calculus.specs.Machine
use Rattle.machine.specs.Meaning.{Meaning, meanings, environment_of, bound_of}
use Rattle.machine.specs.Lookups.{passing, sought, as_found}
use Rattle.machine.specs.Sound.{Each, CellIn, EnvironmentIn, BoundIn}
use Rattle.machine.proofs.Stays.{meanings_read, environment_up, bound_up}
use Rattle.machine.proofs.Growth.{elem_below}
use Rattle.machine.specs.declared.parts.Environment.{Environment}
use Rattle.machine.specs.declared.parts.Environment.TheVariants as Env
use Rattle.machine.specs.declared.parts.Bound.{Bound}
use Rattle.machine.specs.declared.parts.Bound.TheVariants as Bind
use Rattle.machine.specs.declared.parts.Cell.{Cell}
use Rattle.machine.specs.declared.parts.Cell.TheVariants as Holds
use Rattle.machine.specs.declared.parts.Value.{Value}
use Rattle.machine.specs.declared.parts.Kind.{Kind}
use Rattle.machine.specs.declared.parts.Kind.TheVariants as Of

-- one more than the cell of the innermost binding
abbrev pub place : Environment → ℕ
place Env.Empty = 0
place (Env.Cell i) = i + 1

pub place_below : (n : ℕ) (e : Environment) → EnvironmentIn n e → place e ≤ n
place_below n Env.Empty h = omega arith
place_below n (Env.Cell i) h = omega arith

-- nothing is bound in the empty chain
pub seek_empty : (k : Kind) (ms : List Meaning) (n : ℕ) → sought k Machine.empty n ≡ as_found k ms None
seek_empty Of.Value ms n = refl
seek_empty Of.World ms n = refl
seek_empty Of.Continuation ms n = refl

-- the binding sought
seek_here : (k : Kind) (ms : List Meaning) (b : Bound) (ρ : Machine.Environment) (n : ℕ) → passing k b n ≡ nothing → sought k (bound_of ms b ρ) n ≡ as_found k ms (Some b)
seek_here Of.Value ms (Bind.Value v) ρ zero e = refl
seek_here Of.Value ms (Bind.Value v) ρ (suc n) e = absurd (let z : ◌≡◌ {A = ℕ} 0 1 = cc in omega arith)
seek_here Of.Value ms (Bind.Label s l) ρ zero e = refl
seek_here Of.Value ms (Bind.Label s l) ρ (suc n) e = absurd (let z : ◌≡◌ {A = ℕ} 0 1 = cc in omega arith)
seek_here Of.Value ms (Bind.World s) ρ n e = absurd (let z : ◌≡◌ {A = ℕ} 0 1 = cc in omega arith)
seek_here Of.Value ms (Bind.Continuation s c) ρ n e = absurd (let z : ◌≡◌ {A = ℕ} 0 1 = cc in omega arith)
seek_here Of.World ms (Bind.Value v) ρ n e = absurd (let z : ◌≡◌ {A = ℕ} 0 1 = cc in omega arith)
seek_here Of.World ms (Bind.Label s l) ρ n e = absurd (let z : ◌≡◌ {A = ℕ} 0 1 = cc in omega arith)
seek_here Of.World ms (Bind.World s) ρ zero e = refl
seek_here Of.World ms (Bind.World s) ρ (suc n) e = absurd (let z : ◌≡◌ {A = ℕ} 0 1 = cc in omega arith)
seek_here Of.World ms (Bind.Continuation s c) ρ n e = absurd (let z : ◌≡◌ {A = ℕ} 0 1 = cc in omega arith)
seek_here Of.Continuation ms (Bind.Value v) ρ n e = absurd (let z : ◌≡◌ {A = ℕ} 0 1 = cc in omega arith)
seek_here Of.Continuation ms (Bind.Label s l) ρ n e = absurd (let z : ◌≡◌ {A = ℕ} 0 1 = cc in omega arith)
seek_here Of.Continuation ms (Bind.World s) ρ n e = absurd (let z : ◌≡◌ {A = ℕ} 0 1 = cc in omega arith)
seek_here Of.Continuation ms (Bind.Continuation s c) ρ zero e = refl
seek_here Of.Continuation ms (Bind.Continuation s c) ρ (suc n) e = absurd (let z : ◌≡◌ {A = ℕ} 0 1 = cc in omega arith)

-- a binding that is passed
seek_past : (k : Kind) (ms : List Meaning) (b : Bound) (ρ : Machine.Environment) (n m : ℕ) → passing k b n ≡ some m → sought k (bound_of ms b ρ) n ≡ sought k ρ m
seek_past Of.Value ms (Bind.Value v) ρ zero m e = absurd (let z : ◌≡◌ {A = ℕ} 0 1 = cc in omega arith)
seek_past Of.Value ms (Bind.Value v) ρ (suc n) m e = let q : n ≡ m = cc in ap (sought Of.Value ρ) q
seek_past Of.Value ms (Bind.Label s l) ρ zero m e = absurd (let z : ◌≡◌ {A = ℕ} 0 1 = cc in omega arith)
seek_past Of.Value ms (Bind.Label s l) ρ (suc n) m e = let q : n ≡ m = cc in ap (sought Of.Value ρ) q
seek_past Of.Value ms (Bind.World s) ρ n m e = let q : n ≡ m = cc in ap (sought Of.Value ρ) q
seek_past Of.Value ms (Bind.Continuation s c) ρ n m e = let q : n ≡ m = cc in ap (sought Of.Value ρ) q
seek_past Of.World ms (Bind.Value v) ρ n m e = let q : n ≡ m = cc in ap (sought Of.World ρ) q
seek_past Of.World ms (Bind.Label s l) ρ n m e = let q : n ≡ m = cc in ap (sought Of.World ρ) q
seek_past Of.World ms (Bind.World s) ρ zero m e = absurd (let z : ◌≡◌ {A = ℕ} 0 1 = cc in omega arith)
seek_past Of.World ms (Bind.World s) ρ (suc n) m e = let q : n ≡ m = cc in ap (sought Of.World ρ) q
seek_past Of.World ms (Bind.Continuation s c) ρ n m e = let q : n ≡ m = cc in ap (sought Of.World ρ) q
seek_past Of.Continuation ms (Bind.Value v) ρ n m e = let q : n ≡ m = cc in ap (sought Of.Continuation ρ) q
seek_past Of.Continuation ms (Bind.Label s l) ρ n m e = let q : n ≡ m = cc in ap (sought Of.Continuation ρ) q
seek_past Of.Continuation ms (Bind.World s) ρ n m e = let q : n ≡ m = cc in ap (sought Of.Continuation ρ) q
seek_past Of.Continuation ms (Bind.Continuation s c) ρ zero m e = absurd (let z : ◌≡◌ {A = ℕ} 0 1 = cc in omega arith)
seek_past Of.Continuation ms (Bind.Continuation s c) ρ (suc n) m e = let q : n ≡ m = cc in ap (sought Of.Continuation ρ) q

module _ (cs : List Cell) (all : Each (λ i c. CellIn cs i c) cs) (i : ℕ) (k : Kind) where
  -- at a pair's cell
  pub walk_pair : (a b : Value) (n : ℕ) → get_elem? cs i ≡ some (Holds.Pair a b) → sought k (environment_of (meanings cs) (Env.Cell i)) n ≡ as_found k (meanings cs) None
  walk_pair a b n e = ap (λ m. sought k m.environment n) (meanings_read cs i (Holds.Pair a b) all e) ∙ seek_empty k (meanings cs) n

  module _ (b : Bound) (r : Environment) (e : get_elem? cs i ≡ some (Holds.Binding b r)) where
    pub walk_here : (n : ℕ) → passing k b n ≡ nothing → sought k (environment_of (meanings cs) (Env.Cell i)) n ≡ as_found k (meanings cs) (Some b)
    walk_here n q = ap (λ m. sought k m.environment n) (meanings_read cs i (Holds.Binding b r) all e) ∙ seek_here k (meanings cs) b (environment_of (meanings cs) r) n q

    pub walk_on : (n m : ℕ) → passing k b n ≡ some m → sought k (environment_of (meanings cs) r) m ≡ sought k (environment_of (meanings cs) (Env.Cell i)) n
    walk_on n m q = sym (ap (λ x. sought k x.environment n) (meanings_read cs i (Holds.Binding b r) all e) ∙ seek_past k (meanings cs) b (environment_of (meanings cs) r) n m q)

    pub walk_in : BoundIn cs (length cs) b × EnvironmentIn (length cs) r × (place r < i + 1)
    walk_in =
        let h = all i (Holds.Binding b r) e in
        let l = elem_below cs i (Holds.Binding b r) e in
        let p = place_below i r h.1 in
        let g : BoundIn (cs ++ []) (length cs) b = bound_up cs [] i (length cs) (omega arith) b h.0 in
        (subst (λ x. BoundIn x (length cs) b) (append-nil cs) g, environment_up i (length cs) r (omega arith) h.1, omega arith)
