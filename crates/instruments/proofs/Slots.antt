-- What a bounded list holds after its slots were filled, or one was written.
use Rattle.std.proofs.Math.Seq.{take-set-lt}
use Rattle.std.proofs.lemmas.List.{take-replicate}

pub ruleset in_slots = (take-replicate, take-set-lt)
