-- Two types are the same when their words agree and their parts are the same in turn.
use Rattle.std.specs.Prelude.{Bool, true, false, ◌&&◌}
use Rattle.calculus.specs.Types.{Ty, num, none, fn, box, at, both}

abbrev pub alike : Ty → Ty → Bool
alike num num = true
alike num none = false
alike num (fn C D) = false
alike num (box C) = false
alike num (at C) = false
alike num (both C D) = false
alike none num = false
alike none none = true
alike none (fn C D) = false
alike none (box C) = false
alike none (at C) = false
alike none (both C D) = false
alike (fn A B) num = false
alike (fn A B) none = false
alike (fn A B) (fn C D) = alike A C && alike B D
alike (fn A B) (box C) = false
alike (fn A B) (at C) = false
alike (fn A B) (both C D) = false
alike (box A) num = false
alike (box A) none = false
alike (box A) (fn C D) = false
alike (box A) (box C) = alike A C
alike (box A) (at C) = false
alike (box A) (both C D) = false
alike (at A) num = false
alike (at A) none = false
alike (at A) (fn C D) = false
alike (at A) (box C) = false
alike (at A) (at C) = alike A C
alike (at A) (both C D) = false
alike (both A B) num = false
alike (both A B) none = false
alike (both A B) (fn C D) = false
alike (both A B) (box C) = false
alike (both A B) (at C) = false
alike (both A B) (both C D) = alike A C && alike B D
