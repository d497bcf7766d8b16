use Rattle.std.proofs.Common.{}
use Rattle.machine.proofs.Sorts.{is_code_then}
use Rattle.machine.proofs.Sound.{sound}
use Rattle.machine.proofs.parts.State.unbox.Goals as goal

pub unreachable-requires : goal.unreachable-requires
unreachable-requires c = is_code_then c.args.self.now.store.cells.items (sound c.args.self.now).store_in.cells_in c.args.value c.requires.work.0 c.requires.kind c.in_default.not-Code
