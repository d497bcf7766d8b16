use Rattle.std.proofs.Common.{◌+◌, ◌-◌, ◌*◌, length}
use Rattle.checker.proofs.context.Context.+judging.Given as goal

abbrev pub decreases-app : goal.decreases-app
decreases-app l = 3 * (length l.spot.setting.now.terms.now - l.spot.term)

abbrev pub decreases-below : goal.decreases-below
decreases-below l = 3 * (length l.spot.setting.now.terms.now - l.spot.term)

abbrev pub decreases-boxed : goal.decreases-boxed
decreases-boxed l = 3 * (length l.spot.setting.now.terms.now - l.spot.term)

abbrev pub decreases-fst : goal.decreases-fst
decreases-fst l = 3 * (length l.spot.setting.now.terms.now - l.spot.term)

abbrev pub decreases-gate : goal.decreases-gate
decreases-gate l = 3 * (length l.spot.setting.now.terms.now - l.spot.term)

abbrev pub decreases-get : goal.decreases-get
decreases-get l = 3 * (length l.spot.setting.now.terms.now - l.spot.term)

abbrev pub decreases-go : goal.decreases-go
decreases-go l = 3 * (length l.spot.setting.now.terms.now - l.spot.term)

abbrev pub decreases-here : goal.decreases-here
decreases-here l = 3 * (length l.spot.setting.now.terms.now - l.spot.term)

abbrev pub decreases-lam : goal.decreases-lam
decreases-lam l = 3 * (length l.spot.setting.now.terms.now - l.spot.term)

abbrev pub decreases-letcc : goal.decreases-letcc
decreases-letcc l = 3 * (length l.spot.setting.now.terms.now - l.spot.term)

abbrev pub decreases-letd : goal.decreases-letd
decreases-letd l = 3 * (length l.spot.setting.now.terms.now - l.spot.term)

abbrev pub decreases-pair : goal.decreases-pair
decreases-pair l = 3 * (length l.spot.setting.now.terms.now - l.spot.term)

abbrev pub decreases-snd : goal.decreases-snd
decreases-snd l = 3 * (length l.spot.setting.now.terms.now - l.spot.term)

abbrev pub decreases-throw : goal.decreases-throw
decreases-throw l = 3 * (length l.spot.setting.now.terms.now - l.spot.term)

abbrev pub decreases-unbox : goal.decreases-unbox
decreases-unbox l = 3 * (length l.spot.setting.now.terms.now - l.spot.term)

abbrev pub decreases-judge : goal.decreases-judge
decreases-judge l = 3 * (length l.spot.setting.now.terms.now - l.spot.term) + 1

abbrev pub decreases-judge_as : goal.decreases-judge_as
decreases-judge_as l = 3 * (length l.spot.setting.now.terms.now - l.spot.term) + 2

abbrev pub decreases-judge_num : goal.decreases-judge_num
decreases-judge_num l = 3 * (length l.spot.setting.now.terms.now - l.spot.term) + 2

abbrev pub decreases-judge_under : goal.decreases-judge_under
decreases-judge_under l = 3 * (length l.spot.setting.now.terms.now - l.spot.term) + 2
