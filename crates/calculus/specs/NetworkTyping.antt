-- When a network has a type.
use Rattle.std.specs.Prelude.{◌≡◌, ℕ, ◌<◌, length}
use Rattle.std.proofs.Math.Option.{some}
use Rattle.syntax.specs.declared.program.Mobile.{Mobile}
use Rattle.calculus.specs.Types.{Ty, num, none, fn, box, at, both, site, bound, Sheet, gauges_there, gates_there}
use Rattle.calculus.specs.Tables.{entry, count, Match}
use Rattle.calculus.specs.Typing.{Entries, closed, binding_value, binding_world, Carries, Has, HasValue}
use Rattle.calculus.specs.Network.{Frame, to_apply, applied, unboxing, publishing, opening, to_pair, paired, first, second, to_compare, compared, setting, Continuation, finish, abort, return, push, Phase, eval, back, Sites, Network, network}
use Rattle.calculus.specs.Step.{Works, Event, quiet, looked, was_read, was_set}
use Rattle.calculus.specs.Program.{Program}

-- What a network is typed against: the sheet, the type that the program is to give, and the site where it starts.
pub record Setup : Type 0 where
  pub sheet : Sheet
  pub goal : Ty
  pub start : ℕ

-- the program with the type that is named for it
abbrev pub setup : Program → Ty → Setup
setup P A = record { sheet = P.sheet; goal = A; start = P.start }

-- Every entry keeps its type.
pub record Extends (Σ Φ : Entries) : Type 0 where
  pub published : (s l : ℕ) (A : Ty) → entry Σ.published s l ≡ some A → entry Φ.published s l ≡ some A
  pub expected : (s c : ℕ) (A : Ty) → entry Σ.expected s c ≡ some A → entry Φ.expected s c ≡ some A

module _ (U : Setup) (Σ : Entries) where
  -- The frame, filled with an A at site s, gives a B.
  abbrev pub HasFrame : Frame → Ty → Ty → ℕ → Type 0
  HasFrame (to_apply n) A B s = (C : Ty) × (A ≡ fn C B) × Has U.sheet Σ closed n C (site s)
  HasFrame (applied f) A B s = HasValue U.sheet Σ f (fn A B) s
  HasFrame unboxing A B s = A ≡ box B
  HasFrame publishing A B s = B ≡ at A
  HasFrame (opening n) A B s = (C : Ty) × (A ≡ at C) × Has U.sheet Σ (binding_value (binding_world closed) C (bound 0)) n B (site s)
  HasFrame (to_pair n) A B s = (C : Ty) × (B ≡ both A C) × Has U.sheet Σ closed n C (site s)
  HasFrame (paired v) A B s = (C : Ty) × (B ≡ both C A) × HasValue U.sheet Σ v C s
  HasFrame first A B s = (C : Ty) × (A ≡ both B C)
  HasFrame second A B s = (C : Ty) × (A ≡ both C B)
  HasFrame (to_compare n p q) A B s = (A ≡ num) × Has U.sheet Σ closed n num (site s) × Has U.sheet Σ closed p B (site s) × Has U.sheet Σ closed q B (site s)
  HasFrame (compared v p q) A B s = (A ≡ num) × HasValue U.sheet Σ v num s × Has U.sheet Σ closed p B (site s) × Has U.sheet Σ closed q B (site s)
  HasFrame (setting g) A B s = (A ≡ num) × (B ≡ num) × (g < gates_there U.sheet s)

  -- The continuation expects an A at site s. What a return brings is code, an address or a number.
  abbrev pub Expects : Continuation → Ty → ℕ → Type 0
  Expects finish A s = (A ≡ U.goal) × (s ≡ U.start)
  Expects abort A s = A ≡ none
  Expects (return u c) A s = (entry Σ.expected u c ≡ some A) × ((f : Mobile) × Carries f A)
  Expects (push f k) A s = (B : Ty) × HasFrame f A B s × Expects k B s

  -- the term or the value has type A at site s
  abbrev pub HasPhase : Phase → Ty → ℕ → Type 0
  HasPhase (eval m) A s = Has U.sheet Σ closed m A (site s)
  HasPhase (back v) A s = HasValue U.sheet Σ v A s

-- There is a row for each site; each published value has its own type at its site, and each kept continuation expects its own
-- there.
pub record SitesTyped (U : Setup) (Σ : Entries) (H : Sites) : Type 0 where
  pub publishers : length H.published ≡ length U.sheet
  pub keepers : length H.kept ≡ length U.sheet
  pub published : Match (λ s v A. HasValue U.sheet Σ v A s) H.published Σ.published
  pub kept : Match (λ s k A. Expects U Σ k A s) H.kept Σ.expected

-- Work stands at a site of the sheet, and the term or value has the type that the continuation expects there.
pub record WorkTyped (U : Setup) (Σ : Entries) (w : ℕ) (k : Continuation) (p : Phase) : Type 0 where
  pub known : w < length U.sheet
  pub type : Ty
  pub expects : Expects U Σ k type w
  pub has : HasPhase U Σ p type w

-- The network has its type, with entries of the types Σ.
abbrev pub NetworkTyped : Setup → Entries → Network → Type 0
NetworkTyped U Σ (network H w k p) = SitesTyped U Σ H × WorkTyped U Σ w k p

-- The works has the registers of the sheet.
pub record Agrees (S : Sheet) (v : Works) : Type 0 where
  pub gauges : (s : ℕ) → count v.gauges s ≡ gauges_there S s
  pub gates : (s : ℕ) → count v.gates s ≡ gates_there S s

-- Every look-up is of a label of the site where work stands, and every register touched is of that site.
abbrev pub Local : ℕ → Event → Type 0
Local w quiet = Unit {0}
Local w (looked s l u) = (s ≡ w) × (u ≡ w)
Local w (was_read s g u) = (s ≡ w) × (u ≡ w)
Local w (was_set s g x u) = (s ≡ w) × (u ≡ w)
