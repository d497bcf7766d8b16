use Rattle.std.proofs.Common.{◌≡◌, ◌-◌, ◌<◌, ◌≤◌, true, false, List, ◌∷◌, length}
use Rattle.syntax.specs.Grammar.{Want, Stop, byte}
use Rattle.syntax.specs.Grammar.Want.{digits}
use Rattle.syntax.specs.Reading.{Seen, digit}
use Rattle.syntax.specs.Views.{from}
use Rattle.syntax.proofs.reader.Reader.number.Given as goal

abbrev pub invariant-loop-c : goal.invariant-loop-c
invariant-loop-c l =
    ((a : Stop) (k : List Want) (s : Seen) → digit (byte a) ≡ false →
    from l.initial.self (digits l.counts l.start l.initial.value a ∷ k) s
    ≡ from l.self (digits l.counts l.start l.value a ∷ k) s)
    × (l.value < 65536) × (l.counts ≡ true → l.value ≤ 32)

abbrev pub decreases-loop-c : goal.decreases-loop-c
decreases-loop-c l = length l.self.text.now - l.self.place
