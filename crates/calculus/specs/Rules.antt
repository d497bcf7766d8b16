-- The step rules by name, and when one fits a network.
use Rattle.std.specs.Prelude.{◌≡◌, ℕ, ◌<◌, length}
use Rattle.std.proofs.Math.Option.{some}
use Rattle.syntax.specs.declared.program.Mobile.TheVariants.{Code, Address, Number}
use Rattle.calculus.specs.Types.{Ty, site, Sheet, gauges_there, gates_there}
use Rattle.calculus.specs.Terms.{kept, Term, Value, below}
use Rattle.calculus.specs.Tables.{entry}
use Rattle.calculus.specs.Network.{Frame, Continuation, push, Phase, eval, back, Sites, Network, network}

-- The step rules: what to do with one form that is evaluated, or with one frame that gets its value.
pub data Rule : Type 0 where
  -- evaluating a value: back with it; `value` is a bound value or a label
  num lam box value : Rule
  -- evaluating a form whose first part is evaluated under a frame; `compare` is `below`
  app unbox here letd pair fst snd compare gate : Rule
  -- evaluating the other forms
  getb getd getn letcc throw go gauge : Rule
  -- back with the value of a first part: the second part is next
  app_next pair_next compare_next : Rule
  -- back with the value that a frame waited for: of `app`, `pair`, `fst`, `snd`, `below`, `unbox`, `here`, `letd` and `gate`
  apply paired first second choose unboxed publish bind set : Rule
  -- back with a value for another site
  return : Rule

-- A rule fits if phase, term or frame and the kinds of values are as it says, and its entries and registers exist: here on sheet S,
-- with the sites' tables H and work at site w, over a continuation and in a phase.
module _ (S : Sheet) (H : Sites) (w : ℕ) where
  pub data Fit : Rule → Continuation → Phase → Type 0 where
    num : {k : Continuation} {n : ℕ} → Fit Rule.num k (eval (Term.lit n))
    lam : {k : Continuation} {A : Ty} {m : Term} → Fit Rule.lam k (eval (Term.lam A m))
    box : {k : Continuation} {m : Term} → Fit Rule.box k (eval (Term.boxed m))
    value : {k : Continuation} {v : Value} → Fit Rule.value k (eval (Term.val v))
    label : {k : Continuation} {s l : ℕ} {v : Value} → entry H.published w l ≡ some v → Fit Rule.value k (eval (Term.lab s l))
    app : {k : Continuation} {m n : Term} → Fit Rule.app k (eval (Term.app m n))
    unbox : {k : Continuation} {m : Term} → Fit Rule.unbox k (eval (Term.unbox m))
    here : {k : Continuation} {m : Term} → Fit Rule.here k (eval (Term.here m))
    letd : {k : Continuation} {m n : Term} → Fit Rule.letd k (eval (Term.letd m n))
    pair : {k : Continuation} {m n : Term} → Fit Rule.pair k (eval (Term.pairing m n))
    fst : {k : Continuation} {m : Term} → Fit Rule.fst k (eval (Term.fst m))
    snd : {k : Continuation} {m : Term} → Fit Rule.snd k (eval (Term.snd m))
    compare : {k : Continuation} {A : Ty} {m n p q : Term} → Fit Rule.compare k (eval (below A m n p q))
    gate : {k : Continuation} {g : ℕ} {m : Term} → Fit Rule.gate k (eval (Term.gate g m))
    getb : {k : Continuation} {s : ℕ} {m : Term} → s < length S → Fit Rule.getb k (eval (Term.get Code (site s) m))
    getd : {k : Continuation} {s : ℕ} {m : Term} → s < length S → Fit Rule.getd k (eval (Term.get Address (site s) m))
    getn : {k : Continuation} {s : ℕ} {m : Term} → s < length S → Fit Rule.getn k (eval (Term.get Number (site s) m))
    letcc : {k : Continuation} {A : Ty} {m : Term} → Fit Rule.letcc k (eval (Term.letcc A m))
    throw : {k : Continuation} {A : Ty} {s c : ℕ} {m : Term} {j : Continuation} → entry H.kept s c ≡ some j → Fit Rule.throw k (eval (Term.throw A (kept s c) m))
    go : {k : Continuation} {A : Ty} {s : ℕ} {m : Term} → s < length S → Fit Rule.go k (eval (Term.go A (site s) m))
    gauge : {k : Continuation} {n : ℕ} → n < gauges_there S w → Fit Rule.gauge k (eval (Term.gauge n))
    app_next : {k : Continuation} {n : Term} {v : Value} → Fit Rule.app_next (push (Frame.to_apply n) k) (back v)
    pair_next : {k : Continuation} {n : Term} {v : Value} → Fit Rule.pair_next (push (Frame.to_pair n) k) (back v)
    compare_next : {k : Continuation} {n p q : Term} {v : Value} → Fit Rule.compare_next (push (Frame.to_compare n p q) k) (back v)
    apply : {k : Continuation} {T : Ty} {m : Term} {v : Value} → Fit Rule.apply (push (Frame.applied (Value.function T m)) k) (back v)
    paired : {k : Continuation} {u v : Value} → Fit Rule.paired (push (Frame.paired u) k) (back v)
    first : {k : Continuation} {u v : Value} → Fit Rule.first (push Frame.first k) (back (Value.pair u v))
    second : {k : Continuation} {u v : Value} → Fit Rule.second (push Frame.second k) (back (Value.pair u v))
    choose : {k : Continuation} {a b : ℕ} {p q : Term} → Fit Rule.choose (push (Frame.compared (Value.number a) p q) k) (back (Value.number b))
    unboxed : {k : Continuation} {m : Term} → Fit Rule.unboxed (push Frame.unboxing k) (back (Value.code m))
    publish : {k : Continuation} {v : Value} → Fit Rule.publish (push Frame.publishing k) (back v)
    bind : {k : Continuation} {n : Term} {s l : ℕ} → Fit Rule.bind (push (Frame.opening n) k) (back (Value.address s l))
    set : {k : Continuation} {g n : ℕ} → g < gates_there S w → Fit Rule.set (push (Frame.setting g) k) (back (Value.number n))
    return : {s c : ℕ} {v : Value} {j : Continuation} → entry H.kept s c ≡ some j → Fit Rule.return (Continuation.return s c) (back v)

-- a rule fits a network
abbrev pub Fits : Sheet → Rule → Network → Type 0
Fits S r (network H w k p) = Fit S H w r k p

-- exactly one rule fits
abbrev pub OneFits : Sheet → Network → Type 0
OneFits S N = (r : Rule) × Fits S r N × ((q : Rule) → Fits S q N → q ≡ r)

-- no rule fits
abbrev pub NoneFits : Sheet → Network → Type 0
NoneFits S N = (q : Rule) → Fits S q N → ⊥
