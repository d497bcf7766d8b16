-- Terms, values and bindings. Bound values, worlds and continuations are named by levels, counted separately, the outermost
-- being 0.
use Rattle.std.specs.Prelude.{ℕ}
use Rattle.syntax.specs.declared.program.Mobile.{Mobile}
use Rattle.calculus.specs.Types.{Ty, World}

-- Where a throw goes: to the bound continuation at a level, or to the one that a site keeps under a number.
pub data Target : Type 0 where
  outer : ℕ → Target
  kept : ℕ → ℕ → Target

mutual
  pub data Term : Type 0 where
    val : Value → Term  -- a value that was put in: it is closed
    lit : ℕ → Term
    var : ℕ → Term
    lab : ℕ → ℕ → Term  -- a label with its site
    lam : Ty → Term → Term  -- binds a value
    app : Term → Term → Term
    boxed : Term → Term  -- binds a world
    unbox : Term → Term
    here : Term → Term
    letd : Term → Term → Term  -- binds a world and a value in its second part
    get : Mobile → World → Term → Term
    pairing : Term → Term → Term
    fst : Term → Term
    snd : Term → Term
    letcc : Ty → Term → Term  -- binds a continuation
    throw : Ty → Target → Term → Term
    go : Ty → World → Term → Term
    gauge : ℕ → Term
    gate : ℕ → Term → Term
    below : Ty → Term → Term → Term → Term → Term

  -- A function has its parameter at value level 0, code the world where it is opened at world level 0.
  pub data Value : Type 0 where
    number : ℕ → Value
    function : Ty → Term → Value
    code : Term → Value
    address : ℕ → ℕ → Value  -- a site and a label
    pair : Value → Value → Value

-- What a binder can be given: a value, a label with its site, a site for a world, or a continuation that a site keeps.
pub data Binding : Type 0 where
  value : Value → Binding
  label : ℕ → ℕ → Binding
  world : ℕ → Binding
  continuation : ℕ → ℕ → Binding
